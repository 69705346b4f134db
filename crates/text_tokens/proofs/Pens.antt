-- Texts that are put one behind the other.
use Rattle.std.proofs.Common.{◌≡◌, ℕ, ◌≤◌, List, ◌++◌, length, take, drop, sym, ap, ◌∙◌, append_assoc, arith}
use Rattle.std.proofs.lemmas.List.{length-append, length-take, take_at, drop_at, drop-drop}
use Rattle.text_tokens.specs.Words.{Puts}

-- a room that is written up to a place, and from there on
puts_then : (a b c : List ℕ) (i j k : ℕ) (s t : List ℕ) → Puts a i b j s → Puts b j c k t → Puts a i c k (s ++ t)
puts_then a b c i j k s t p q = record {
  same = q.same ∙ p.same;
  count = omega (arith, p.count, q.count, length-append s t);
  room = λ fits.
      let mid : j ≤ length a = omega (arith, q.count) in
      let first : b ≡ take i a ++ s ++ drop j a = p.room mid in
      let len : length (take i a ++ s) ≡ j = omega (arith, length-append (take i a) s, length-take i a, p.count) in
      let front : take j b ≡ take i a ++ s = ap (take j) first ∙ take_at (take i a ++ s) (drop j a) j len in
      let back : drop j b ≡ drop j a = ap (drop j) first ∙ drop_at (take i a ++ s) (drop j a) j len in
      let rest : drop k b ≡ drop k a = rw q.count (sym (drop-drop (length t) j b) ∙ ap (drop (length t)) back ∙ drop-drop (length t) j a) in
      q.room (omega (arith, p.same)) ∙ rw (front, rest) (simp append_assoc);
}

infixl 10 ◌▸◌
pub ◌▸◌ : {a b c : List ℕ} {i j k : ℕ} {s t : List ℕ} → Puts a i b j s → Puts b j c k t → Puts a i c k (s ++ t)
p ▸ q = puts_then _ _ _ _ _ _ _ _ p q
