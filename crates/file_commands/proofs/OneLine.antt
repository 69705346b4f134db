-- A text is a script, or is refused at one line.
use Rattle.std.proofs.Common.{◌≡◌, ◌≢◌, ℕ, List, [], ◌∷◌, ◌++◌, length, refl, sym, ◌∙◌, inl, inr, arith, append_assoc}
use Rattle.file_commands.specs.declared.lines.ScriptLine.{ScriptLine}
use Rattle.file_commands.specs.Scripts.{line_of, script_of, IsLine, AreLines, IsPrinted, IsBadLine, IsRefusedAt}
use Rattle.file_commands.proofs.LineWords.{line_same}
use Rattle.file_commands.proofs.Scripts.{not_bad}

abbrev IsBad : List ℕ → Type 0
IsBad rest = (line : ScriptLine) (more : List ℕ) → IsLine line → rest ≢ line_of line ++ more

-- a line stands in front of others
front_line : (line : ScriptLine) (lines : List ScriptLine) (rest : List ℕ) → script_of (line ∷ lines) ++ rest ≡ line_of line ++ (script_of lines ++ rest)
front_line line lines rest = append_assoc (line_of line) (script_of lines) rest

-- as many lines stand before what is bad
as_many : (a b : List ScriptLine) (rest more : List ℕ) → AreLines a → AreLines b → IsBad rest → IsBad more → script_of a ++ rest ≡ script_of b ++ more → length a ≡ length b
as_many [] [] rest more x y bad worse e = refl
as_many [] (b ∷ bs) rest more x y bad worse e = absurd (bad b (script_of bs ++ more) y.0 (e ∙ front_line b bs more))
as_many (a ∷ ls) [] rest more x y bad worse e = absurd (worse a (script_of ls ++ rest) x.0 (sym e ∙ front_line a ls rest))
as_many (a ∷ ls) (b ∷ bs) rest more x y bad worse e =
    let both = line_same a b (script_of ls ++ rest) (script_of bs ++ more) x.0 y.0 (sym (front_line a ls rest) ∙ e ∙ front_line b bs more) in
    let inner : length ls ≡ length bs = as_many ls bs rest more x.1 y.1 bad worse both.1 in
    omega (arith, inner)

one_bad : (script : List ℕ) (m n : ℕ) → IsBadLine script m → IsBadLine script n → m ≡ n
one_bad script m n a b =
    let many = as_many a.0 b.0 a.1 b.1 a.2.good b.2.good a.2.bad b.2.bad (sym a.2.front ∙ b.2.front) in
    omega (arith, a.2.count, b.2.count, many)

pub one_line : (script : List ℕ) (m n : ℕ) → IsRefusedAt script m → IsRefusedAt script n → m ≡ n
one_line script m n (inl a) (inl b) = a.line ∙ sym b.line
one_line script m n (inl a) (inr b) = absurd (omega (arith, a.over, b.within))
one_line script m n (inr a) (inl b) = absurd (omega (arith, b.over, a.within))
one_line script m n (inr a) (inr b) = one_bad script m n a.bad b.bad

pub not_refused : (script printed : List ℕ) (number : ℕ) → IsPrinted script printed → IsRefusedAt script number → ⊥
not_refused script printed number p (inl over) = omega (arith, over.over, p.within)
not_refused script printed number p (inr bad) = not_bad script printed number p.read bad.bad
