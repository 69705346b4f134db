-- What the first bytes of a text say of the whole text as a plan.
use Rattle.std.proofs.Common.{◌≡◌, ℕ, ◌<◌, nat_lt, true, false, Bool, List, [], ◌++◌, length, Option, Some, None, refl, sym, ap, ◌∙◌, arith, length-append, append-nil}
use Rattle.std.proofs.lemmas.Bool.{lt-ltb, ltb-true, ltb-false}
use Rattle.plan_keys.specs.Faults.{text_says}
use Rattle.plan_files.specs.FileTexts.{IsBeginning, Told}

-- a text above the limit says the same as any other
too_long : (a b : List ℕ) → nat_lt 65536 (length a) ≡ true → nat_lt 65536 (length b) ≡ true → text_says a ≡ text_says b
too_long a b h k = rw (h, k) refl

pub said : (text bytes : List ℕ) (above : Bool) → nat_lt 65536 (length bytes) ≡ above → IsBeginning text bytes 65537 → text_says bytes ≡ text_says text
said text bytes true is h =
    let long : 65536 < length text = omega (arith, ltb-true 65536 (length bytes) is, ap length h.split, length-append bytes h.rest) in
    too_long bytes text is (lt-ltb 65536 (length text) long)
said text bytes false is h =
    let none : h.rest ≡ [] = h.whole (omega (arith, ltb-false 65536 (length bytes) is)) in
    ap text_says (sym (h.split ∙ ap (λ (xs : List ℕ). bytes ++ xs) none ∙ append-nil bytes))

-- of what is told of a file
pub told_weaker : (left text : Option (List ℕ)) (P Q : List ℕ → Type 0) → ((t : List ℕ) → P t → Q t) → Told left text P → Told left text Q
told_weaker None text P Q f h = tt
told_weaker (Some l) None P Q f h = absurd h
told_weaker (Some l) (Some t) P Q f h = f t h
