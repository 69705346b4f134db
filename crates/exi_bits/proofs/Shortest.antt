-- The shortest spelling of an Unsigned Integer, octet by octet.
use Rattle.std.proofs.Common.{◌≡◌, ℕ, zero, suc, ◌+◌, ◌*◌, ◌/◌, ◌%◌, ◌^◌, ◌<◌, ◌≤◌, Bool, true, false, ltb, List, [], ◌++◌, length, take, refl, sym, ap, subst, ◌∙◌, arith, append_assoc, inl, inr}
use Rattle.std.proofs.lemmas.Bool.{lt-ltb, le-ltb, cases_lt}
use Rattle.std.proofs.lemmas.List.{length-append, append-nil}
use Rattle.std.proofs.lemmas.Nat.{div_below}
use Rattle.std.proofs.Math.Nat.{pow-suc}
use Rattle.exi_spec.specs.Bits.{number_bits, bits_of}
use Rattle.exi_spec.specs.Items.{octet, shortest_within, shortest_unsigned}
use Rattle.exi_spec.proofs.BitLaws.{length-number_bits, low_octet, high_octet}
use Rattle.exi_bits.specs.Written.{PadsZero, Extends}
use Rattle.exi_bits.proofs.Pushed.{extended}

-- ---- nothing is written

pub put_none : (room : List ℕ) (at : ℕ) → PadsZero room at → Extends room room at 0 []
put_none room at clean =
    let same : at ≡ at + 0 = omega arith in
    record {
      long = refl;
      wrote = ap (λ (k : ℕ). take k (bits_of room)) (sym same) ∙ sym (append-nil (take at (bits_of room)));
      clean = subst (λ (k : ℕ). PadsZero room k) same clean;
    }

-- ---- octets

pub shortest_low : (more v : ℕ) → v < 128 → shortest_within more v ≡ octet false v
unfolding shortest_within
shortest_low zero v h = refl
shortest_low (suc more) v h = let low : ltb v 128 ≡ true = lt-ltb _ _ h in rw low refl

pub shortest_high : (more v : ℕ) → 128 ≤ v → shortest_within (suc more) v ≡ octet true (v % 128) ++ shortest_within more (v / 128)
unfolding shortest_within
shortest_high more v h = let high : ltb v 128 ≡ false = le-ltb _ _ h in rw high refl

pub one_octet : (v : ℕ) → v < 128 → number_bits 8 v ≡ shortest_unsigned v
one_octet v low = low_octet v low ∙ sym (shortest_low 9 v low)

length-octet : (more : Bool) (group : ℕ) → length (octet more group) ≡ 8
length-octet more group = ap suc (length-number_bits 7 group)

pub shortest_long : (more v : ℕ) → 8 ≤ length (shortest_within more v)
unfolding shortest_within
shortest_long zero v = omega (arith, length-octet false v)
shortest_long (suc more) v =
    elim (cases_lt v 128) [
      | inl low ↦ let e = ap length (shortest_low (suc more) v low) in omega (arith, e, length-octet false v)
      | inr high ↦ let e = ap length (shortest_high more v high) in omega (arith, e, length-append (octet true (v % 128)) (shortest_within more (v / 128)), length-octet true (v % 128))
    ]

-- what is left of a number behind its first octet
record HasNext (more v : ℕ) : Type 0 where
  pub next : ℕ
  pub bound : v / 128 < 128 ^ suc next
  pub fewer : more ≡ suc next
  pub split : shortest_within more v ≡ octet true (v % 128) ++ shortest_within next (v / 128)

next_octet : (more v : ℕ) → 128 ≤ v → v < 128 ^ suc more → HasNext more v
next_octet zero v high bound = absurd (omega (arith, bound, high))
next_octet (suc more) v high bound =
    let power : 128 ^ suc (suc more) ≡ 128 ^ suc more * 128 = pow-suc 128 (suc more) in
    record { next = more; bound = div_below v 128 (128 ^ suc more) (omega arith) (omega (arith, power, bound)); fewer = refl; split = shortest_high more v high }

-- so many octets are counted
pub record CountsOctets (value rest count : ℕ) : Type 0 where
  pub more : ℕ
  pub bound : rest < 128 ^ suc more
  pub sum : 8 * count + length (shortest_within more rest) ≡ 8 + length (shortest_unsigned value)
  pub few : more + count ≤ 10

pub counts_none : (value : ℕ) → value < 2 ^ 64 → CountsOctets value value 1
counts_none value h = record { more = 9; bound = omega (arith, h); sum = refl; few = omega arith }

pub counts_more : (value rest count : ℕ) → 128 ≤ rest → CountsOctets value rest count → CountsOctets value (rest / 128) (count + 1)
counts_more value rest count high p =
    let n = next_octet p.more rest high p.bound in
    let long = ap length n.split in
    record {
      more = n.next;
      bound = n.bound;
      sum = omega (arith, p.sum, long, length-append (octet true (rest % 128)) (shortest_within n.next (rest / 128)), length-octet true (rest % 128));
      few = omega (arith, p.few, n.fewer);
    }

pub counts_all : (value rest count : ℕ) → rest < 128 → CountsOctets value rest count → 8 * count ≡ length (shortest_unsigned value)
counts_all value rest count low p =
    let long = ap length (shortest_low p.more rest low) in
    omega (arith, p.sum, long, length-octet false rest)

pub counts_few : (value rest count : ℕ) → 128 ≤ rest → CountsOctets value rest count → count + 1 ≤ 10
counts_few value rest count high p =
    let n = next_octet p.more rest high p.bound in
    omega (arith, p.few, n.fewer)

-- so many octets are written
pub record WroteOctets (old new : List ℕ) (at n value rest : ℕ) : Type 0 where
  pub more : ℕ
  pub front : List Bool
  pub bound : rest < 128 ^ suc more
  pub split : shortest_unsigned value ≡ front ++ shortest_within more rest
  pub wrote : Extends old new at n front

pub wrote_none : (room : List ℕ) (at value : ℕ) → value < 2 ^ 64 → PadsZero room at → WroteOctets room room at 0 value value
wrote_none room at value h clean = record { more = 9; front = []; bound = omega (arith, h); split = refl; wrote = put_none room at clean }

pub room_left : (old new : List ℕ) (at n value rest : ℕ) → WroteOctets old new at n value rest → n + 8 ≤ length (shortest_unsigned value)
room_left old new at n value rest p =
    let long = ap length p.split in
    omega (arith, long, length-append p.front (shortest_within p.more rest), p.wrote.long, shortest_long p.more rest)

pub wrote_more : (old new next : List ℕ) (at n value rest : ℕ) → 128 ≤ rest → WroteOctets old new at n value rest → Extends new next (at + n) 8 (number_bits 8 (rest % 128 + 128)) → WroteOctets old next at (n + 8) value (rest / 128)
wrote_more old new next at n value rest high p q =
    let x = next_octet p.more rest high p.bound in
    let octet_is : number_bits 8 (rest % 128 + 128) ≡ octet true (rest % 128) = high_octet (rest % 128) (omega arith) in
    record {
      more = x.next;
      front = p.front ++ octet true (rest % 128);
      bound = x.bound;
      split = p.split ∙ ap (λ (l : List Bool). p.front ++ l) x.split ∙ sym (append_assoc p.front (octet true (rest % 128)) (shortest_within x.next (rest / 128)));
      wrote = extended old new next at n 8 p.front (octet true (rest % 128)) p.wrote (subst (λ (l : List Bool). Extends new next (at + n) 8 l) octet_is q);
    }

pub wrote_all : (old new next : List ℕ) (at n value rest : ℕ) → rest < 128 → WroteOctets old new at n value rest → Extends new next (at + n) 8 (number_bits 8 rest) → Extends old next at (n + 8) (shortest_unsigned value)
wrote_all old new next at n value rest low p q =
    let octet_is : number_bits 8 rest ≡ octet false rest = low_octet rest low in
    let all : p.front ++ octet false rest ≡ shortest_unsigned value = ap (λ (l : List Bool). p.front ++ l) (sym (shortest_low p.more rest low)) ∙ sym p.split in
    subst (λ (l : List Bool). Extends old next at (n + 8) l) all
    (extended old new next at n 8 p.front (octet false rest) p.wrote (subst (λ (l : List Bool). Extends new next (at + n) 8 l) octet_is q))
