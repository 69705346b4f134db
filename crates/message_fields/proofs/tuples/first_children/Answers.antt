use Rattle.message_fields.proofs.tuples.first_children.Goals as goal

pub returns-clause-read : goal.returns-clause-read
returns-clause-read g c = λ ks F attributes declared before h stand.
    c.read_children.ensures.read ks F attributes declared 0 before (c.in_ok-first_child.ensures.read ks F attributes declared before h) stand
