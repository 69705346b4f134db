use Rattle.std.proofs.Common.{rules, suc, sym, ap, subst, ◌∙◌, Some, Option, ℕ, IfOk}
use Rattle.message_parts.specs.Contents.{mapped, told_one, told_perhaps, holding_with}
use Rattle.message_parts.specs.Particles.{name_at, kind_at}
use Rattle.message_parts.specs.Reading.{Reads, seen_of}
use Rattle.message_parts.proofs.Singles.{enters_optional, skips, behind_optional}
use Rattle.message_parts.proofs.children.optional_here.Goals as goal

pub returns-then-not-is_at-clause-read : goal.returns-then-not-is_at-clause-read
returns-then-not-is_at-clause-read g c = λ F attributes declared at told h once named is.
    subst (λ (o : Option g.row.T.Denot). Reads g.T.PutRecord.kinds F attributes declared (suc at) (told_perhaps c.args.name (mapped (λ x. holding_with (g.T.PutRecord.given x) (g.T.PutRecord.parts x)) o) told) (seen_of g.P.Places.schema c.args.descent.now)) (sym c.clear.ensures)
    (skips _ F attributes declared at told _ h once (λ here. c.is_at.ensures.absent (search (rules, c.if-not-is_at.true)) (here ∙ ap Some (sym named))))

pub returns-clause-read : goal.returns-clause-read
returns-clause-read g c = λ F attributes declared at told h once named is.
    let e = enters_optional _ F attributes declared at told _ h once (c.is_at.ensures.here (search (rules, c.if-not-is_at.false)) ∙ ap Some named) in
    let l = c.in_ok-record_into.ensures.read _ (kind_at declared at) _ e is in
    let r = c.next_child.ensures.child _ F attributes declared (suc at) 0 _ (behind_optional _ F attributes declared at told _ h once (name_at declared at) _ _ l.2) in
    subst (λ (o : Option g.row.T.Denot). IfOk c.next_child.result (λ _. Reads g.T.PutRecord.kinds F attributes declared (suc at) (told_perhaps c.args.name (mapped (λ x. holding_with (g.T.PutRecord.given x) (g.T.PutRecord.parts x)) o) told) (seen_of g.P.Places.schema c.next_child.new.self))) (sym l.1)
    (subst (λ (n : ℕ). IfOk c.next_child.result (λ _. Reads g.T.PutRecord.kinds F attributes declared (suc at) (told_one n (holding_with (g.T.PutRecord.given l.0) (g.T.PutRecord.parts l.0)) told) (seen_of g.P.Places.schema c.next_child.new.self))) (sym named) r)
