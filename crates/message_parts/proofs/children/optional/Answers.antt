use Rattle.std.proofs.Common.{rules, suc, sym, ap, subst, ◌∙◌, Some, ℕ}
use Rattle.message_parts.specs.Contents.{told_one, holding_with}
use Rattle.message_parts.specs.Particles.{name_at, kind_at}
use Rattle.message_parts.specs.Reading.{Reads, seen_of}
use Rattle.message_parts.proofs.Singles.{enters_optional, skips, behind_optional}
use Rattle.message_parts.proofs.children.optional.Goals as goal

pub returns-then-not-is_at-clause-read : goal.returns-then-not-is_at-clause-read
returns-then-not-is_at-clause-read g c = λ F attributes declared at told h once named is.
    skips _ F attributes declared at told _ h once (λ here. c.is_at.ensures.absent (search (rules, c.if-not-is_at.true)) (here ∙ ap Some (sym named)))

pub returns-clause-read : goal.returns-clause-read
returns-clause-read g c = λ F attributes declared at told h once named is.
    let e = enters_optional _ F attributes declared at told _ h once (c.is_at.ensures.here (search (rules, c.if-not-is_at.false)) ∙ ap Some named) in
    let l = c.in_ok-value.ensures.read _ (kind_at declared at) _ e is in
    let r = c.in_ok-next_child.ensures.child _ F attributes declared (suc at) 0 _ (behind_optional _ F attributes declared at told _ h once (name_at declared at) _ _ l) in
    subst (λ (n : ℕ). Reads g.T.PutRecord.kinds F attributes declared (suc at) (told_one n (holding_with (g.T.PutRecord.given c.in_ok-value.value) (g.T.PutRecord.parts c.in_ok-value.value)) told) (seen_of g.P.Places.schema c.next_child.new.self)) (sym named) r
