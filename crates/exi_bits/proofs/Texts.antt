-- The code points of a text, one behind the others.
use Rattle.std.proofs.Common.{◌≡◌, ℕ, ◌+◌, ◌≤◌, Bool, List, [], ◌∷◌, ◌++◌, length, refl, sym, ap, subst, ◌∙◌, arith, append_assoc, IsUtf8, chars, cond, true, false}
use Rattle.std.proofs.Common.{Option, Some, None, not, eqb}
use Rattle.std.specs.Prelude.{MatchOption}
use Rattle.std.specs.Option.{option_eq, is_some}
use Rattle.std.proofs.lemmas.Bool.{eqb-true, not-false}
use Rattle.std.proofs.lemmas.List.{length-append, append-nil}
use Rattle.std.proofs.lemmas.Str.{chars_past_char, chars-nil, length-encode}
use Rattle.std.specs.Char.{len_utf8}
use Rattle.std.specs.Prelude.{encode_utf8}
use Rattle.exi_spec.specs.Items.{shortest_unsigned, shortest_chars}
use Rattle.exi_bits.specs.Written.{Extends}
use Rattle.exi_bits.proofs.Pushed.{extended}

pub next_char : (bytes rest : List ℕ) (c : ℕ) → IsUtf8 bytes → bytes ≡ encode_utf8 c ++ rest → shortest_chars (chars bytes) ≡ shortest_unsigned c ++ shortest_chars (chars rest)
next_char bytes rest c u e = ap shortest_chars (chars_past_char bytes rest c u e)

pub no_chars : (bytes : List ℕ) → bytes ≡ [] → chars bytes ≡ []
no_chars bytes e = ap chars e ∙ chars-nil

pub no_char : (bytes : List ℕ) → bytes ≡ [] → shortest_chars (chars bytes) ≡ []
no_char bytes e = ap (λ (l : List ℕ). shortest_chars (chars l)) e ∙ ap shortest_chars chars-nil

pub record WroteChars (old new : List ℕ) (at n : ℕ) (text rest : List ℕ) : Type 0 where
  pub front : List Bool
  pub split : shortest_chars (chars text) ≡ front ++ shortest_chars (chars rest)
  pub wrote : Extends old new at n front

pub wrote_char : (old new next : List ℕ) (at n m c : ℕ) (text bytes rest : List ℕ) → IsUtf8 bytes → bytes ≡ encode_utf8 c ++ rest → WroteChars old new at n text bytes → Extends new next (at + n) m (shortest_unsigned c) → WroteChars old next at (n + m) text rest
wrote_char old new next at n m c text bytes rest u e p q =
    record {
      front = p.front ++ shortest_unsigned c;
      split = p.split ∙ ap (λ (l : List Bool). p.front ++ l) (next_char bytes rest c u e) ∙ sym (append_assoc p.front (shortest_unsigned c) (shortest_chars (chars rest)));
      wrote = extended old new next at n m p.front (shortest_unsigned c) p.wrote q;
    }

pub char_fits : (old new : List ℕ) (at n c : ℕ) (text bytes rest : List ℕ) → IsUtf8 bytes → bytes ≡ encode_utf8 c ++ rest → WroteChars old new at n text bytes → n + length (shortest_unsigned c) ≤ length (shortest_chars (chars text))
char_fits old new at n c text bytes rest u e p =
    let split = ap length p.split in
    let next = ap length (next_char bytes rest c u e) in
    omega (arith, split, next, p.wrote.long, length-append p.front (shortest_chars (chars bytes)), length-append (shortest_unsigned c) (shortest_chars (chars rest)))

pub wrote_chars : (old new : List ℕ) (at n : ℕ) (text rest : List ℕ) → rest ≡ [] → WroteChars old new at n text rest → Extends old new at n (shortest_chars (chars text))
wrote_chars old new at n text rest e p =
    let all : p.front ≡ shortest_chars (chars text) = sym (p.split ∙ ap (λ (l : List Bool). p.front ++ l) (no_char rest e) ∙ append-nil p.front) in
    subst (λ (l : List Bool). Extends old new at n l) all p.wrote

pos_cond : (b : Bool) (x y : ℕ) → 1 ≤ x → 1 ≤ y → 1 ≤ cond b x y
pos_cond true x y p q = p
pos_cond false x y p q = q

-- a code point takes a byte at least
pub char_takes : (bytes rest : List ℕ) (c : ℕ) → bytes ≡ encode_utf8 c ++ rest → length rest + 1 ≤ length bytes
char_takes bytes rest c e =
    let p1 : 1 ≤ 1 = omega arith in
    let p2 : 1 ≤ 2 = omega arith in
    let p3 : 1 ≤ 3 = omega arith in
    let p4 : 1 ≤ 4 = omega arith in
    let one : 1 ≤ len_utf8 c = pos_cond _ 1 _ p1 (pos_cond _ 2 _ p2 (pos_cond _ 3 4 p3 p4)) in
    omega (arith, ap length e, length-append (encode_utf8 c) rest, length-encode c, one)

-- ---- two lists, item by item

equal_from : (x d : ℕ) → false ≡ not (eqb x d) → x ≡ d
equal_from x d e = eqb-true x d (not-false (eqb x d) (sym e))

-- the next item is the one that is wanted
pub next_is : (r : Option ℕ) (all rest : List ℕ) (d c : ℕ) → false ≡ not (option_eq eqb r (Some d)) → d ≡ c → MatchOption r ((all ≡ []) × (rest ≡ [])) (λ item. all ≡ item ∷ rest) → all ≡ c ∷ rest
next_is None all rest d c e same m = absurd (cc)
next_is (Some x) all rest d c e same m = m ∙ ap (λ (k : ℕ). k ∷ rest) (equal_from x d e ∙ same)

tails : (c : ℕ) (xs ys : List ℕ) → c ∷ xs ≡ c ∷ ys → xs ≡ ys
tails c xs ys e = cc

pub same_behind : (c : ℕ) (mine rest text others : List ℕ) (Q : Type 0) → mine ≡ c ∷ rest → text ≡ c ∷ others → (mine ≡ text → Q) × (Q → mine ≡ text) → (rest ≡ others → Q) × (Q → rest ≡ others)
same_behind c mine rest text others Q p q same =
    ((λ e. same.0 (p ∙ ap (λ (l : List ℕ). c ∷ l) e ∙ sym q)), (λ h. tails c rest others (sym p ∙ same.1 h ∙ q)))

-- both lists end together
pub ends_both : (r : Option ℕ) (b : Bool) (mine rest text : List ℕ) (Q : Type 0) → is_some r ≡ not b → MatchOption r ((mine ≡ []) × (rest ≡ [])) (λ item. mine ≡ item ∷ rest) → text ≡ [] → (mine ≡ text → Q) × (Q → mine ≡ text) → (b ≡ true → Q) × (Q → b ≡ true)
ends_both None true mine rest text Q e m none same = ((λ _. same.0 (m.0 ∙ sym none)), (λ _. refl))
ends_both None false mine rest text Q e m none same = absurd cc
ends_both (Some x) true mine rest text Q e m none same = absurd cc
ends_both (Some x) false mine rest text Q e m none same = ((λ f. absurd cc), (λ h. let clash : x ∷ rest ≡ [] = sym m ∙ same.1 h ∙ none in absurd cc))
