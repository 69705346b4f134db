-- A text is a trace, or is refused at one line.
use Rattle.std.proofs.Common.{◌≡◌, ℕ, ◌+◌, ◌<◌, List, [], ◌∷◌, ◌++◌, length, drop, get_or, refl, sym, ap, ◌∙◌, inl, inr, arith, append_assoc, length-append}
use Rattle.std.specs.Prelude.{reverse}
use Rattle.charge_world.specs.declared.entry.Entry.{Entry}
use Rattle.trace_reading.specs.declared.format.Format.{Format}
use Rattle.trace_reading.specs.Readings.{first_line_in, line_in, text_in, IsBadBehind, IsBadFirst, IsBadLater, IsFirstBad}
use Rattle.trace_reading.specs.Lines.{lines_in}
use Rattle.trace_reading.proofs.Fronts.{text_is, not_bad, one_past}
use Rattle.trace_files.specs.Recordings.{IsRecorded, IsRefusedAt}

-- ---- a text with two fronts

same_tail : (x y : ℕ) (xs ys : List ℕ) → x ∷ xs ≡ y ∷ ys → xs ≡ ys
same_tail x y xs ys same = ap (drop 1) same

same_head : (x y : ℕ) (xs ys : List ℕ) → x ∷ xs ≡ y ∷ ys → x ≡ y
same_head x y xs ys same = ap (λ (t : List ℕ). get_or t 0 0) same

-- the longer front is the shorter one and more
longer : (a b r s : List ℕ) → a ++ r ≡ b ++ s → length a < length b → (more : List ℕ) × (b ≡ a ++ more) × (r ≡ more ++ s)
longer [] b r s same less = (b, refl, same)
longer (x ∷ a) [] r s same less = absurd (omega (arith, less))
longer (x ∷ a) (y ∷ b) r s same less =
    let inner = longer a b r s (same_tail x y (a ++ r) (b ++ s) same) (omega (arith, less)) in
    let first : y ≡ x = sym (same_head x y (a ++ r) (b ++ s) same) in
    (inner.0, ap (λ (t : List ℕ). y ∷ t) inner.1 ∙ ap (λ (h : ℕ). h ∷ (a ++ inner.0)) first, inner.2)

same_front : (a b r s : List ℕ) → a ++ r ≡ b ++ s → length a ≡ length b → a ≡ b
same_front [] [] r s same long = refl
same_front [] (y ∷ b) r s same long = absurd (omega (arith, long))
same_front (x ∷ a) [] r s same long = absurd (omega (arith, long))
same_front (x ∷ a) (y ∷ b) r s same long =
    let inner : a ≡ b = same_front a b r s (same_tail x y (a ++ r) (b ++ s) same) (omega (arith, long)) in
    ap (λ (t : List ℕ). x ∷ t) inner ∙ ap (λ (h : ℕ). h ∷ b) (same_head x y (a ++ r) (b ++ s) same)

-- ---- one bad line

-- behind the shorter of two fronts comes the line of an entry
no_shorter : (posts : ℕ) (f g : Format) (text : List ℕ) (p q : List Entry) → IsBadBehind posts f text p → IsBadBehind posts g text q → length (text_in f p) < length (text_in g q) → ⊥
no_shorter posts f g text p q a b less =
    let cut = longer (text_in f p) (text_in g q) a.rest b.rest (sym a.front ∙ b.front) less in
    not_bad posts (text_in g q) (length p + 2) q (record { format = g; good = b.good; whole = refl })
    (inr (record {
      format = f;
      past = p;
      behind = record {
        good = a.good;
        rest = cut.0;
        some = λ none. omega (arith, less, ap length cut.1, length-append (text_in f p) cut.0, ap length none);
        front = cut.1;
        bad = λ e more good is. a.bad e (more ++ b.rest) good (cut.2 ∙ ap (λ (t : List ℕ). t ++ b.rest) is ∙ append_assoc (line_in f p e) more b.rest);
      };
      count = refl;
    }))

same_bad : (posts : ℕ) (f g : Format) (text : List ℕ) (p q : List Entry) → IsBadBehind posts f text p → IsBadBehind posts g text q → p ≡ q
same_bad posts f g text p q a b =
    let not_less : length (text_in f p) < length (text_in g q) → ⊥ = no_shorter posts f g text p q a b in
    let not_more : length (text_in g q) < length (text_in f p) → ⊥ = no_shorter posts g f text q p b a in
    let same : text_in f p ≡ text_in g q = same_front (text_in f p) (text_in g q) a.rest b.rest (sym a.front ∙ b.front) (omega arith) in
    one_past posts (text_in f p) p q (record { format = f; good = a.good; whole = refl }) (record { format = g; good = b.good; whole = same })

not_first : (posts : ℕ) (text : List ℕ) (m n : ℕ) → IsBadFirst text m → IsBadLater posts text n → ⊥
not_first posts text m n a b =
    let f = b.format in
    let rest = b.behind.rest in
    a.bad f (lines_in f b.past ++ rest)
    (b.behind.front ∙ ap (λ (t : List ℕ). t ++ rest) (text_is f b.past) ∙ append_assoc (first_line_in f) (lines_in f b.past) rest)

one_bad : (posts : ℕ) (text : List ℕ) (m n : ℕ) → IsFirstBad posts text m → IsFirstBad posts text n → m ≡ n
one_bad posts text m n (inl a) (inl b) = a.count ∙ sym b.count
one_bad posts text m n (inl a) (inr b) = absurd (not_first posts text m n a b)
one_bad posts text m n (inr a) (inl b) = absurd (not_first posts text n m b a)
one_bad posts text m n (inr a) (inr b) =
    a.count ∙ ap (λ (past : List Entry). length past + 2) (same_bad posts a.format b.format text a.past b.past a.behind b.behind) ∙ sym b.count

pub one_line : (posts : ℕ) (text : List ℕ) (m n : ℕ) → IsRefusedAt posts text m → IsRefusedAt posts text n → m ≡ n
one_line posts text m n (inl a) (inl b) = a.line ∙ sym b.line
one_line posts text m n (inl a) (inr b) = absurd (omega (arith, a.over, b.within))
one_line posts text m n (inr a) (inl b) = absurd (omega (arith, b.over, a.within))
one_line posts text m n (inr a) (inr b) = one_bad posts text m n a.bad b.bad

pub not_refused : (posts : ℕ) (text : List ℕ) (trace : List Entry) (number : ℕ) → IsRecorded posts text trace → IsRefusedAt posts text number → ⊥
not_refused posts text trace number r (inl over) = omega (arith, over.over, r.within)
not_refused posts text trace number r (inr bad) = not_bad posts text number (reverse trace) r.tells bad.bad
