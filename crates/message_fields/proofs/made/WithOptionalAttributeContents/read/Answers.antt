use Rattle.std.proofs.Common.{ℕ, subst}
use Rattle.message_parts.specs.Contents.{mapped, told_maybe}
use Rattle.message_parts.specs.Particles.{attribute_at}
use Rattle.message_parts.specs.Reading.{Reads, seen_of}
use Rattle.message_fields.proofs.made.WithOptionalAttributeContents.read.Goals as goal

pub returns-clause-read : goal.returns-clause-read
returns-clause-read g c = λ ks F attributes declared before h stand.
    let told = told_maybe (attribute_at attributes 0) (mapped g.T.Simple.value c.in_ok-value.value) before in
    let first = c.in_ok-value.ensures.read ks F attributes declared 0 before h stand.0 stand.1 in
    let read = c.in_ok-read_children.ensures.read ks F attributes declared 0 told first stand.3 in
    subst (λ (n : ℕ). Reads ks F attributes declared n (g.C.Children.told declared 0 c.in_ok-read_children.field-0 told) (seen_of g.P.Places.schema c.read_children.new.descent)) stand.2 read
