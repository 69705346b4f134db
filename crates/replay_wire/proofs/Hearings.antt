-- What is heard next.
use Rattle.std.proofs.Common.{◌≡◌, ℕ, zero, suc, ◌+◌, ◌<◌, Bool, true, false, cond, List, [], ◌∷◌, length, drop, get_or, refl, sym, ap, subst, ◌∙◌, arith}
use Rattle.std.proofs.lemmas.List.{drop_more}
use Rattle.charge_world.specs.declared.entry.Entry.{Entry}
use Rattle.trace_text.specs.Pasts.{is_hearing}
use Rattle.replay_wire.specs.Replays.{from_hearing, CanBeHeard, AllCanBeHeard}

-- what comes next is a hearing
one_step : (e d : Entry) (b : Bool) (left rest : List Entry) → is_hearing e ≡ b → cond b (e ∷ left) (from_hearing left) ≡ d ∷ rest → (from_hearing left ≡ d ∷ rest → is_hearing d ≡ true) → is_hearing d ≡ true
one_step e d true left rest is same later = let here : e ≡ d = cc in ap is_hearing (sym here) ∙ is
one_step e d false left rest is same later = later same

next_is_hearing : (left rest : List Entry) (d : Entry) → from_hearing left ≡ d ∷ rest → is_hearing d ≡ true
next_is_hearing [] rest d same = cc
next_is_hearing (e ∷ left) rest d same = one_step e d (is_hearing e) left rest refl same (next_is_hearing left rest d)

pub hearing_here : (trace entries left : List Entry) (place : ℕ) (e : Entry) → trace ≡ entries → drop place entries ≡ from_hearing left → place < length entries → e ≡ get_or trace place e
    → is_hearing e ≡ true
hearing_here trace entries left place e same here within is =
    let split : drop place trace ≡ get_or trace place e ∷ drop (place + 1) trace = drop_more trace place e (rw same within) in
    let next : from_hearing left ≡ e ∷ drop (place + 1) trace = sym here ∙ ap (drop place) (sym same) ∙ split ∙ ap (λ (x : Entry). x ∷ drop (place + 1) trace) (sym is) in
    next_is_hearing left (drop (place + 1) trace) e next

can : (posts : ℕ) (trace : List Entry) (place : ℕ) (d : Entry) → place < length trace → AllCanBeHeard posts trace → CanBeHeard posts (get_or trace place d)
can posts [] place d within all = absurd (omega arith)
can posts (e ∷ trace) zero d within all = all.0
can posts (e ∷ trace) (suc place) d within all = can posts trace place d (omega arith) all.1

pub can_be_heard : (posts : ℕ) (trace entries : List Entry) (place : ℕ) (e : Entry) → trace ≡ entries → place < length entries → e ≡ get_or trace place e → AllCanBeHeard posts entries → CanBeHeard posts e
can_be_heard posts trace entries place e same within is all =
    let here = can posts entries place e within all in
    subst (CanBeHeard posts) (sym (is ∙ ap (λ (t : List Entry). get_or t place e) same)) here
