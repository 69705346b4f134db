use Rattle.std.proofs.Common.{rules, suc, sym, ap, subst, ◌∙◌, List, ◌∷◌, ℕ, ◌≡◌, Option, true, false, IfOk}
use Rattle.exi_events.specs.Trees.{Start}
use Rattle.message_parts.specs.Contents.{mapped, told_choice, told_one}
use Rattle.message_parts.specs.Particles.{names_among, is_child_among}
use Rattle.message_parts.specs.Reading.{Reads, IsChosen, seen_of}
use Rattle.message_parts.proofs.Singles.{is_chosen, child_frame, behind_group, group_here, group_over}
use Rattle.message_parts.proofs.children.optional_choice_here.Goals as goal

pub returns-then-not-is_among-clause-read : goal.returns-then-not-is_among-clause-read
returns-then-not-is_among-clause-read g c = λ F attributes declared at told h is same.
    let d = seen_of g.P.Places.schema c.args.descent.now in
    let no : is_child_among c.names.result.now d.child ≡ false = sym c.is_among.ensures ∙ search (rules, c.if-not-is_among.true) in
    subst (λ (o : Option g.row.T.Denot). Reads g.T.PutChoice.kinds F attributes declared (suc at) (told_choice (mapped (λ v. (g.T.PutChoice.name v, g.T.PutChoice.inside v)) o) told) d) (sym c.clear.ensures)
    (group_over _ F attributes declared at told d h is
    (ap (λ (these : List (ℕ × ℕ)). is_child_among (names_among these) d.child) same ∙ ap (λ (ns : List ℕ). is_child_among ns d.child) (sym c.names.ensures) ∙ no))

pub returns-clause-read : goal.returns-clause-read
returns-clause-read g c = λ F attributes declared at told h is same.
    let d = seen_of g.P.Places.schema c.args.descent.now in
    let yes : is_child_among c.names.result.now d.child ≡ true = sym c.is_among.ensures ∙ search (rules, c.if-not-is_among.false) in
    let it = group_here _ F attributes declared at told d h is
    (ap (λ (these : List (ℕ × ℕ)). is_child_among (names_among these) d.child) same ∙ ap (λ (ns : List ℕ). is_child_among ns d.child) (sym c.names.ensures) ∙ yes) in
    let chosen = subst (λ (these : List (ℕ × ℕ)). IsChosen g.T.PutChoice.kinds (child_frame g.T.PutChoice.kinds F attributes declared at told d h it.name) these (Start it.name ∷ told) d) same (is_chosen _ F attributes declared at told d h it) in
    let l = c.in_ok-read_member_into.ensures.read _ _ chosen in
    let r = c.next_child.ensures.child _ F attributes declared (suc at) 0 _ (behind_group _ F attributes declared at told d h is it.name _ _ l.3) in
    subst (λ (o : Option g.row.T.Denot). IfOk c.next_child.result (λ _. Reads g.T.PutChoice.kinds F attributes declared (suc at) (told_choice (mapped (λ v. (g.T.PutChoice.name v, g.T.PutChoice.inside v)) o) told) (seen_of g.P.Places.schema c.next_child.new.self))) (sym l.1)
    (subst (λ (n : ℕ). IfOk c.next_child.result (λ _. Reads g.T.PutChoice.kinds F attributes declared (suc at) (told_one n (g.T.PutChoice.inside l.0) told) (seen_of g.P.Places.schema c.next_child.new.self))) (sym l.2) r)
