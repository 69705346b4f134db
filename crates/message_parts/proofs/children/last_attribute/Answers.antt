use Rattle.std.proofs.Common.{suc, sym, subst, refl, ◌∷◌, Option, MatchOption, IfSome, ℕ}
use Rattle.exi_events.specs.Trees.{Attribute, Value}
use Rattle.exi_events.specs.Value.{Value as ReadValue}
use Rattle.exi_events.specs.Meaning.{IsLent, value_of}
use Rattle.message_parts.specs.Particles.{attribute_at}
use Rattle.message_parts.specs.Reading.{StartsAt, Reads, seen_of}
use Rattle.message_parts.specs.Values.{IsRead}
use Rattle.message_parts.proofs.Attributes.{begins, last_is}
use Rattle.message_parts.proofs.Singles.{taken}
use Rattle.message_parts.proofs.children.last_attribute.Goals as goal

pub returns-in_default-clause-read : goal.returns-in_default-clause-read
returns-in_default-clause-read g c = λ ks F attributes declared at told h may takes.
    let d = seen_of g.P.Places.schema c.last_attribute.new.self in
    let t = taken _ _ takes in
    subst (λ (o : Option ReadValue). MatchOption o (Reads ks F attributes declared 0 told d) (λ v. IsRead t.0 (value_of v) × StartsAt ks F attributes declared (suc at) (Attribute (attribute_at attributes at) (value_of v) ∷ told) d)) c.in_default.is
    (c.in_ok-value.ensures.attribute ks F attributes declared at t.0 told h may t.1)

pub of-value-requires : goal.of-value-requires
of-value-requires g c κs = ((refl, tt), (c.args.descent.now.reader.reader.bits, subst (λ (o : Option ReadValue). IfSome o (λ v. IsLent c.args.descent.now.reader.reader.bits v)) c.in-Some.is c.in_ok-value.ensures.lent))

pub returns-clause-read : goal.returns-clause-read
returns-clause-read g c = λ ks F attributes declared at told h may takes.
    let d = seen_of g.P.Places.schema c.last_attribute.new.self in
    let t = taken _ _ takes in
    let v = subst (λ (o : Option ReadValue). MatchOption o (Reads ks F attributes declared 0 told d) (λ v. IsRead t.0 (value_of v) × StartsAt ks F attributes declared (suc at) (Attribute (attribute_at attributes at) (value_of v) ∷ told) d)) c.in-Some.is
    (c.in_ok-value.ensures.attribute ks F attributes declared at t.0 told h may t.1) in
    let s = subst (λ (x : Value). StartsAt ks F attributes declared (suc at) (Attribute (attribute_at attributes at) x ∷ told) d) (sym (c.of-value.ensures t.0 t.2 v.0)) v.1 in
    let b = subst (λ (n : ℕ). StartsAt ks F attributes declared n (Attribute (attribute_at attributes at) (g.T.Simple.value c.of-value.result) ∷ told) d) (last_is attributes at may) s in
    c.in_ok-next_child.ensures.child ks F attributes declared 0 0 _ (begins ks F attributes declared _ d b)
