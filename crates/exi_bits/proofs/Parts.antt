-- A number that is written in parts, each into a byte.
use Rattle.std.proofs.Common.{◌≡◌, ℕ, ◌+◌, ◌-◌, ◌/◌, ◌%◌, ◌^◌, ◌≤◌, Bool, true, false, List, [], ◌∷◌, ◌++◌, refl, sym, ap, subst, ◌∙◌, arith}
use Rattle.std.proofs.lemmas.Nat.{shr-shr}
use Rattle.exi_spec.specs.Bits.{number_bits}
use Rattle.exi_bits.specs.Written.{PadsZero, Extends}
use Rattle.exi_bits.proofs.Pushed.{extended}
use Rattle.exi_bits.proofs.Shortest.{put_none}
use Rattle.exi_bits.proofs.Windows.{number_bits-add, number_bits-mod}
use mir.Val.{bool_byte}

pub one_bit : (bit : Bool) → number_bits 1 (bool_byte bit) ≡ bit ∷ []
unfolding number_bits
one_bit true = refl
one_bit false = refl

-- all but the last `left` bits are written
pub record WroteParts (old new : List ℕ) (at n value left : ℕ) : Type 0 where
  pub within : left ≤ n
  pub wrote : Extends old new at (n - left) (number_bits (n - left) (value / 2 ^ left))

pub no_part : (room : List ℕ) (at n value : ℕ) → PadsZero room at → WroteParts room room at n value n
unfolding number_bits
no_part room at n value clean =
    let none : 0 ≡ n - n = omega arith in
    record { within = omega arith; wrote = subst (λ (k : ℕ). Extends room room at k (number_bits k (value / 2 ^ n))) none (put_none room at clean) }

pub one_part_more : (a b c : List ℕ) (at n value left part rest : ℕ) → rest + part ≡ left → WroteParts a b at n value left → Extends b c (at + (n - left)) part (number_bits part (value / 2 ^ rest % 2 ^ part)) → WroteParts a c at n value rest
one_part_more a b c at n value left part rest sum p q =
    let within = p.within in
    let done : n - left + part ≡ n - rest = omega arith in
    let last : Extends b c (at + (n - left)) part (number_bits part (value / 2 ^ rest)) =
    subst (λ (l : List Bool). Extends b c (at + (n - left)) part l) (number_bits-mod part (value / 2 ^ rest)) q in
    let first : value / 2 ^ left ≡ value / 2 ^ rest / 2 ^ part = ap (λ (k : ℕ). value / 2 ^ k) (sym sum) ∙ sym (shr-shr value rest part) in
    let all : number_bits (n - left) (value / 2 ^ left) ++ number_bits part (value / 2 ^ rest) ≡ number_bits (n - left + part) (value / 2 ^ rest) =
    ap (λ (w : ℕ). number_bits (n - left) w ++ number_bits part (value / 2 ^ rest)) first ∙ sym (number_bits-add (n - left) part (value / 2 ^ rest)) in
    record {
      within = omega arith;
      wrote = subst (λ (k : ℕ). Extends a c at k (number_bits k (value / 2 ^ rest))) done
          (subst (λ (l : List Bool). Extends a c at (n - left + part) l) all
          (extended a b c at (n - left) part (number_bits (n - left) (value / 2 ^ left)) (number_bits part (value / 2 ^ rest)) p.wrote last));
    }

pub all_parts : (a b : List ℕ) (at n value left : ℕ) → left ≡ 0 → WroteParts a b at n value left → Extends a b at n (number_bits n value)
all_parts a b at n value left none p =
    let q : WroteParts a b at n value 0 = subst (λ (k : ℕ). WroteParts a b at n value k) none p in
    let long : n - 0 ≡ n = omega arith in
    let whole : value / 2 ^ 0 ≡ value = omega arith in
    subst (λ (w : ℕ). Extends a b at n (number_bits n w)) whole
    (subst (λ (k : ℕ). Extends a b at k (number_bits k (value / 2 ^ 0))) long q.wrote)

-- an octet in two parts
pub split_octet : (a b c : List ℕ) (at octet shift : ℕ) → shift ≤ 8 → Extends a b at (8 - shift) (number_bits (8 - shift) (octet / 2 ^ shift)) → Extends b c (at + (8 - shift)) shift (number_bits shift (octet % 2 ^ shift)) → Extends a c at 8 (number_bits 8 octet)
split_octet a b c at octet shift h p q =
    let sum : 8 - shift + shift ≡ 8 = omega arith in
    let all : number_bits (8 - shift) (octet / 2 ^ shift) ++ number_bits shift (octet % 2 ^ shift) ≡ number_bits 8 octet =
    ap (λ (l : List Bool). number_bits (8 - shift) (octet / 2 ^ shift) ++ l) (number_bits-mod shift octet)
    ∙ sym (number_bits-add (8 - shift) shift octet)
    ∙ ap (λ (k : ℕ). number_bits k octet) sum in
    subst (λ (k : ℕ). Extends a c at k (number_bits 8 octet)) sum
    (subst (λ (l : List Bool). Extends a c at (8 - shift + shift) l) all
    (extended a b c at (8 - shift) shift (number_bits (8 - shift) (octet / 2 ^ shift)) (number_bits shift (octet % 2 ^ shift)) p q))
