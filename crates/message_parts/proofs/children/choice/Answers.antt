use Rattle.std.proofs.Common.{suc, sym, subst, List, ◌∷◌, ℕ}
use Rattle.exi_events.specs.Trees.{Start}
use Rattle.message_parts.specs.Contents.{told_one}
use Rattle.message_parts.specs.Reading.{Reads, IsChosen, seen_of}
use Rattle.message_parts.proofs.Singles.{it_is, is_chosen, child_frame, behind_choice}
use Rattle.message_parts.proofs.children.choice.Goals as goal

pub returns-clause-read : goal.returns-clause-read
returns-clause-read g c = λ F attributes declared at told h is same.
    let d = seen_of g.P.Places.schema c.args.descent.now in
    let it = it_is _ F attributes declared at told d h is in
    let chosen = subst (λ (these : List (ℕ × ℕ)). IsChosen g.T.PutChoice.kinds (child_frame g.T.PutChoice.kinds F attributes declared at told d h it.name) these (Start it.name ∷ told) d) same (is_chosen _ F attributes declared at told d h it) in
    let l = c.in_ok-value.ensures.read _ _ chosen in
    let r = c.in_ok-next_child.ensures.child _ F attributes declared (suc at) 0 _ (behind_choice _ F attributes declared at told d h is it.name _ _ l.1) in
    subst (λ (n : ℕ). Reads g.T.PutChoice.kinds F attributes declared (suc at) (told_one n (g.T.PutChoice.inside c.in_ok-value.value) told) (seen_of g.P.Places.schema c.next_child.new.self)) (sym l.0) r
