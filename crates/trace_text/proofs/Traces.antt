-- No two pasts have the same lines.
use Rattle.std.proofs.Common.{◌≡◌, ℕ, ◌^◌, ◌<◌, List, [], ◌∷◌, ◌++◌, length, refl, sym, ap, ◌∙◌, append_assoc, append-nil, subst, drop, get_or, arith}
use Rattle.std.specs.Prelude.{decimal, codes}
use Rattle.std.specs.List.{AllByRecursion, flat_map}
use Rattle.std.proofs.lemmas.List.{append_cancel_left, same_from_push, flat_map_more, length-append}
use Rattle.text_tokens.specs.Words.{line_text, AreWords}
use Rattle.text_tokens.proofs.Splits.{same_line, decimal_word}
use Rattle.charge_world.specs.declared.entry.Entry.{Entry}
use Rattle.trace_text.specs.TraceText.{words_of, IsLine, IsLine1}
use Rattle.trace_text.specs.Pasts.{lines_by, hearing_number, trace_text, trace_text_1, IsTrace, IsTrace1}
use Rattle.trace_text.proofs.Spelling.{words_are, some_words, words_same}

abbrev IsSome : List (List ℕ) → Type 0
IsSome words = AreWords words × (0 < length words)

-- lines that stand one behind the other have one reading
lines_same : (a b : List (List (List ℕ))) → AllByRecursion IsSome a → AllByRecursion IsSome b → flat_map line_text a ≡ flat_map line_text b → a ≡ b
lines_same [] [] x y e = refl
lines_same [] (w ∷ b) x y e = absurd (omega (arith, simp length-append at (ap length e)))
lines_same (v ∷ a) [] x y e = absurd (omega (arith, simp length-append at (ap length e)))
lines_same (v ∷ a) (w ∷ b) x y e =
    let first = same_line v w (flat_map line_text a) (flat_map line_text b) x.0.0 y.0.0 x.0.1 y.0.1 e in
    let rest = lines_same a b x.1 y.1 first.1 in
    cc (first.0, rest)

-- the words of the lines of a past, the oldest first, where each line depends on what was before
abbrev told : (List Entry → Entry → List (List ℕ)) → List Entry → List (List (List ℕ))
told words [] = []
told words (e ∷ past) = told words past ++ words past e ∷ []

told_text : (words : List Entry → Entry → List (List ℕ)) (first : List ℕ) (past : List Entry)
    → first ++ lines_by (λ past e. line_text (words past e)) past ≡ first ++ flat_map line_text (told words past)
told_text words first [] = refl
told_text words first (e ∷ past) =
    sym (append_assoc first (lines_by (λ past e. line_text (words past e)) past) (line_text (words past e)))
    ∙ ap (λ (t : List ℕ). t ++ line_text (words past e)) (told_text words first past) ∙ flat_map_more line_text first (told words past) (words past e)

record IsFormat (words : List Entry → Entry → List (List ℕ)) (Good : List Entry → Type 0) : Type 0 where
  before : (past : List Entry) (e : Entry) → Good (e ∷ past) → Good past
  are : (past : List Entry) (e : Entry) → Good (e ∷ past) → IsSome (words past e)
  same : (past : List Entry) (d e : Entry) → Good (d ∷ past) → Good (e ∷ past) → words past d ≡ words past e → d ≡ e

told_are : (words : List Entry → Entry → List (List ℕ)) (Good : List Entry → Type 0) → IsFormat words Good
    → (past : List Entry) (rest : List (List (List ℕ))) → Good past → AllByRecursion IsSome rest → AllByRecursion IsSome (told words past ++ rest)
told_are words Good f [] rest good all = all
told_are words Good f (e ∷ past) rest good all =
    rw append_assoc (told_are words Good f past (words past e ∷ rest) (f.before past e good) (f.are past e good, all))

told_same : (words : List Entry → Entry → List (List ℕ)) (Good : List Entry → Type 0) → IsFormat words Good
    → (p q : List Entry) → Good p → Good q → told words p ≡ told words q → p ≡ q
told_same words Good f [] [] x y said = refl
told_same words Good f [] (e ∷ q) x y said = absurd (omega (arith, simp length-append at (ap length said)))
told_same words Good f (d ∷ p) [] x y said = absurd (omega (arith, simp length-append at (ap length said)))
told_same words Good f (d ∷ p) (e ∷ q) x y said =
    let parts = same_from_push (told words p) (told words q) (words p d) (words q e) said in
    let past = told_same words Good f p q (f.before p d x) (f.before q e y) parts.0 in
    let entry = f.same p d e x (subst (λ (l : List Entry). Good (e ∷ l)) (sym past) y) (parts.1 ∙ ap (λ (l : List Entry). words l e) (sym past)) in
    cc (past, entry)

texts_same : (words : List Entry → Entry → List (List ℕ)) (Good : List Entry → Type 0) → IsFormat words Good → (first : List ℕ) (p q : List Entry) → Good p → Good q
    → first ++ lines_by (λ past e. line_text (words past e)) p ≡ first ++ lines_by (λ past e. line_text (words past e)) q → p ≡ q
texts_same words Good f first p q x y said =
    let flat = append_cancel_left first _ _ (sym (told_text words first p) ∙ said ∙ told_text words first q) in
    let are = λ (l : List Entry) (good : Good l). subst (AllByRecursion IsSome) (append-nil (told words l)) (told_are words Good f l [] good tt) in
    told_same words Good f p q x y (lines_same (told words p) (told words q) (are p x) (are q y) flat)

-- ---- the two formats

plain : IsFormat (λ past e. words_of e) (AllByRecursion IsLine1)
plain = record {
  before = λ past e good. good.1;
  are = λ past e good. (words_are e good.0.0.0.0 good.0.0.1, some_words e);
  same = λ past d e x y. words_same d e x.0.0.0.0 x.0.0.1 y.0.0.0.0 y.0.0.1;
}

numbered : IsFormat (λ past e. decimal (hearing_number (e ∷ past)) ∷ words_of e) (λ past. AllByRecursion IsLine past × (hearing_number past < 2 ^ 64))
numbered = record {
  before = λ past e good. (good.0.1, omega (arith, good.1));
  are = λ past e good. ((decimal_word (hearing_number (e ∷ past)) good.1, words_are e good.0.0.0.0 good.0.0.1), omega arith);
  same = λ past d e x y said. words_same d e x.0.0.0.0 x.0.0.1 y.0.0.0.0 y.0.0.1 (ap (drop 1) said);
}

pub same_past_1 : (p q : List Entry) → IsTrace1 p → IsTrace1 q → trace_text_1 p ≡ trace_text_1 q → p ≡ q
same_past_1 p q x y said = texts_same _ _ plain (codes "v2g-trace 1\n") p q x.0 y.0 said

pub same_past_2 : (p q : List Entry) → IsTrace p → IsTrace q → trace_text p ≡ trace_text q → p ≡ q
same_past_2 p q x y said = texts_same _ _ numbered (codes "v2g-trace 2\n") p q (x.0, x.2) (y.0, y.2) said

pub two_formats : (p q : List Entry) → trace_text_1 p ≡ trace_text q → ⊥
two_formats p q e = let digit : 49 ≡ 50 = ap (λ (t : List ℕ). get_or t 10 0) e in absurd (omega (arith, digit))
