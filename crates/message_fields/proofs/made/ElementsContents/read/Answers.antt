use Rattle.std.proofs.Common.{ℕ, subst}
use Rattle.message_parts.specs.Reading.{Reads, StartsAt, seen_of}
use Rattle.message_fields.proofs.made.ElementsContents.read.Goals as goal

pub returns-clause-read : goal.returns-clause-read
returns-clause-read g c = λ ks F attributes declared before h stand.
    let begins = subst (λ (n : ℕ). StartsAt ks F attributes declared n before (seen_of g.P.Places.schema c.args.descent.now)) stand.0 h in
    let read = c.in_ok-first_children.ensures.read ks F attributes declared before begins stand.2 in
    subst (λ (n : ℕ). Reads ks F attributes declared n (g.C.Children.told declared 0 c.in_ok-first_children.field-0 before) (seen_of g.P.Places.schema c.first_children.new.descent)) stand.1 read
