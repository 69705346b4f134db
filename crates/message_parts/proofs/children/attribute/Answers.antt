use Rattle.std.proofs.Common.{refl, suc, sym, subst, ◌∷◌}
use Rattle.exi_events.specs.Trees.{Attribute, Value}
use Rattle.message_parts.specs.Particles.{attribute_at}
use Rattle.message_parts.specs.Reading.{StartsAt, seen_of}
use Rattle.message_parts.proofs.Singles.{taken}
use Rattle.message_parts.proofs.children.attribute.Goals as goal

pub of-requires : goal.of-requires
of-requires g c κs = ((refl, tt), (c.args.descent.now.reader.reader.bits, c.in_ok-value.ensures.lent))

pub returns-clause-read : goal.returns-clause-read
returns-clause-read g c = λ ks F attributes declared at told h must takes.
    let t = taken _ _ takes in
    let v = c.in_ok-value.ensures.attribute ks F attributes declared at t.0 told h must t.1 in
    subst (λ (x : Value). StartsAt ks F attributes declared (suc at) (Attribute (attribute_at attributes at) x ∷ told) (seen_of g.P.Places.schema c.attribute.new.self)) (sym (c.of.ensures t.0 t.2 v.0)) v.1
