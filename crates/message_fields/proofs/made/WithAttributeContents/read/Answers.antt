use Rattle.std.proofs.Common.{ℕ, ◌∷◌, subst}
use Rattle.exi_documents.specs.Trees.{Attribute}
use Rattle.message_parts.specs.Particles.{attribute_at}
use Rattle.message_parts.specs.Reading.{Reads, StartsAt, seen_of}
use Rattle.message_fields.proofs.made.WithAttributeContents.read.Goals as goal

pub returns-clause-read : goal.returns-clause-read
returns-clause-read g c = λ ks F attributes declared before h stand.
    let told = Attribute (attribute_at attributes 0) (g.T.Simple.value c.in_ok-value.value) ∷ before in
    let first = c.in_ok-value.ensures.read ks F attributes declared 0 before h stand.1 stand.2 in
    let begins = subst (λ (n : ℕ). StartsAt ks F attributes declared n told (seen_of g.P.Places.schema c.attribute.new.descent)) stand.0 first in
    let read = c.in_ok-first_children.ensures.read ks F attributes declared told begins stand.4 in
    subst (λ (n : ℕ). Reads ks F attributes declared n (g.C.Children.told declared 0 c.in_ok-first_children.field-0 told) (seen_of g.P.Places.schema c.first_children.new.descent)) stand.3 read
