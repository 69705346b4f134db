use Rattle.std.proofs.Common.{refl, sym, subst, ◌∷◌}
use Rattle.exi_events.specs.Trees.{Content, Value}
use Rattle.message_parts.specs.Reading.{Leaves, seen_of}
use Rattle.message_parts.proofs.children.simple_inside.Goals as goal

pub of-requires : goal.of-requires
of-requires g c κs = ((refl, tt), (c.args.descent.now.reader.reader.bits, c.in_ok-value.ensures.lent))

pub returns-clause-read : goal.returns-clause-read
returns-clause-read g c = λ ks F kind d told h simple takes.
    let v = c.in_ok-value.ensures.value ks F kind d told simple h in
    subst (λ (x : Value). Leaves ks F (Content x ∷ told) (seen_of g.P.Places.schema c.value.new.self)) (sym (c.of.ensures d takes v.0)) v.1
