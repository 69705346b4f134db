-- A line is read as the entry whose line it is.
use Rattle.std.proofs.Common.{◌≡◌, ℕ, ◌^◌, ◌<◌, ◌≤◌, List, [], ◌∷◌, ◌++◌, length, Result, Ok, Err, sym, ap, subst, ◌∙◌, append_assoc, arith}
use Rattle.std.specs.Prelude.{decimal, IsErr, IsErrAnd, MatchResult}
use Rattle.std.specs.List.{slice_split}
use Rattle.std.proofs.lemmas.List.{append_cancel_right, length-append}
use Rattle.std.proofs.lemmas.List.Splits.{length-slice_split}
use Rattle.text_tokens.specs.Words.{spaced, AreWords, Gives}
use Rattle.text_tokens.proofs.Cuts.{is_space}
use Rattle.text_tokens.proofs.Splits.{cut_spaced, spaced_cut, cut_word, decimal_word, line_cons, same_line, spaced_more}
use Rattle.charge_world.specs.declared.entry.Entry.{Entry}
use Rattle.text_tokens.specs.declared.words.Refused.{Refused}
use Rattle.trace_text.specs.TraceText.{words_of, line_of, numbered_line_of, IsLine, longest}
use Rattle.trace_text.specs.Reading.{IsRead, IsNumbered}
use Rattle.trace_text.proofs.Spelling.{words_are, some_words, words_same}
use Rattle.std.proofs.lemmas.Fmt.{decimal_injective, length-decimal-le}

-- an error that is passed on
pub passed_on : {X : Type 0} (Q : X → Type 0) (P : Refused → Type 0) (r : Result X Refused) (e : Refused)
    → IsErr r × IsErrAnd r (λ f. f ≡ e) → P e → MatchResult r Q P
passed_on Q P (Ok x) e h p = absurd cc
passed_on Q P (Err f) e h p = subst P (sym h.1) p

-- a line of an entry, cut at its spaces
cut_line : (e : Entry) (text : List ℕ) → IsRead e → text ++ 10 ∷ [] ≡ line_of e → slice_split is_space text ≡ words_of e
cut_line e text is said =
    let same : text ≡ spaced (words_of e) = append_cancel_right text (spaced (words_of e)) (10 ∷ []) said in
    ap (slice_split is_space) same ∙ cut_spaced (words_of e) (words_are e is.0 is.1) (some_words e)

pub line_read : (line text : List ℕ) (r : Result Entry Refused) → line ≡ text ++ 10 ∷ [] → length line ≤ longest
    → Gives words_of IsRead (slice_split is_space text) r → Gives line_of IsLine line r
line_read line text (Ok e) ends short h =
    let same : text ≡ spaced (words_of e) = sym (spaced_cut text) ∙ ap spaced h.1 in
    let whole : line ≡ line_of e = ends ∙ ap (λ (t : List ℕ). t ++ 10 ∷ []) same in
    (((h.0.0, rw whole at short), h.0.1), whole)
line_read line text (Err refused) ends short h =
    λ bad e is said. h bad e (is.0.0, is.1) (cut_line e text (is.0.0, is.1) (sym ends ∙ said))

-- ---- one entry for each line

pub line_same : (d e : Entry) → IsLine d → IsLine e → line_of d ≡ line_of e → d ≡ e
line_same d e x y said =
    let lines = same_line (words_of d) (words_of e) [] [] (words_are d x.0.0 x.1) (words_are e y.0.0 y.1) (some_words d) (some_words e) (ap (λ (t : List ℕ). t ++ []) said) in
    words_same d e x.0.0 x.1 y.0.0 y.1 lines.0

pub numbered_same : (m n : ℕ) (d e : Entry) → m < 2 ^ 64 → n < 2 ^ 64 → IsLine d → IsLine e → numbered_line_of m d ≡ numbered_line_of n e → (m ≡ n) × (d ≡ e)
numbered_same m n d e small_m small_n x y said =
    let are_d : AreWords (decimal m ∷ words_of d) = (decimal_word m small_m, words_are d x.0.0 x.1) in
    let are_e : AreWords (decimal n ∷ words_of e) = (decimal_word n small_n, words_are e y.0.0 y.1) in
    let lines = same_line (decimal m ∷ words_of d) (decimal n ∷ words_of e) [] [] are_d are_e (omega arith) (omega arith) (ap (λ (t : List ℕ). t ++ []) said) in
    let words = lines.0 in
    let number : decimal m ≡ decimal n = cc in
    let rest : words_of d ≡ words_of e = cc in
    (decimal_injective m n small_m small_n number, words_same d e x.0.0 x.1 y.0.0 y.1 rest)

-- ---- with the number of a hearing

numbered_parts : (n : ℕ) (e : Entry) → numbered_line_of n e ≡ decimal n ++ 32 ∷ line_of e
numbered_parts n e = line_cons (decimal n) (words_of e) (some_words e) ∙ append_assoc (decimal n) (32 ∷ []) (line_of e)

pub numbered_cut : (line : List ℕ) (x : ℕ × Entry) → IsNumbered x → line ≡ numbered_line_of x.0 x.1 → slice_split is_space line ≡ decimal x.0 ∷ slice_split is_space (line_of x.1)
numbered_cut line x is said =
    ap (slice_split is_space) (said ∙ numbered_parts x.0 x.1) ∙ cut_word (decimal x.0) (line_of x.1) (decimal_word x.0 is.0)

same_rest : (a b : List ℕ) → slice_split is_space a ≡ slice_split is_space b → a ≡ b
same_rest a b e = sym (spaced_cut a) ∙ ap spaced e ∙ spaced_cut b

pub some_cut : (text : List ℕ) → slice_split is_space text ≡ [] → ⊥
some_cut text e = omega (arith, ap length e, length-slice_split is_space text)

spaced_cons : (word text : List ℕ) → spaced (word ∷ slice_split is_space text) ≡ word ++ 32 ∷ text
spaced_cons word text = spaced_more word (slice_split is_space text) (λ none. some_cut text none) ∙ ap (λ (t : List ℕ). word ++ 32 ∷ t) (spaced_cut text)

pub numbered_read : (line rest : List ℕ) (n : ℕ) (e : Entry) → n < 2 ^ 64 → slice_split is_space line ≡ decimal n ∷ slice_split is_space rest
    → IsLine e × (rest ≡ line_of e) → IsNumbered (n, e) × (line ≡ numbered_line_of n e)
numbered_read line rest n e small cut h =
    let line_is : line ≡ decimal n ++ 32 ∷ rest = sym (spaced_cut line) ∙ ap spaced cut ∙ spaced_cons (decimal n) rest in
    ((small, h.0), line_is ∙ ap (λ (t : List ℕ). decimal n ++ 32 ∷ t) h.1 ∙ sym (numbered_parts n e))

pub numbered_missed : (line rest : List ℕ) (n : ℕ) (refused : Refused) → slice_split is_space line ≡ decimal n ∷ slice_split is_space rest
    → Gives line_of IsLine rest (Err refused) → Gives (λ (x : ℕ × Entry). numbered_line_of x.0 x.1) IsNumbered line (Err refused)
numbered_missed line rest n refused cut h =
    λ bad x is said. let whole = sym cut ∙ numbered_cut line x is said in let same : slice_split is_space rest ≡ slice_split is_space (line_of x.1) = cc in
    h bad x.1 is.1 (same_rest rest (line_of x.1) same)

pub numbered_short : (n : ℕ) (e : Entry) → n < 2 ^ 64 → length (line_of e) ≤ longest → length (numbered_line_of n e) < 2 ^ 32
numbered_short n e small short =
    omega (arith, ap length (numbered_parts n e), length-append (decimal n) (32 ∷ line_of e), length-decimal-le 20 n (omega arith) (omega (arith, small)) small, short)
