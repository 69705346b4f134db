-- What stands at the front of a stream stays, whatever comes behind.
use Rattle.std.proofs.Common.{◌≡◌, ℕ, ◌+◌, ◌≤◌, ◌∙◌, ap, List, length, drop, ◌++◌, Some, Ok, arith}
use Rattle.std.proofs.lemmas.Bool.Decides.{nat_tests}
use Rattle.std.proofs.lemmas.List.{length-append, drop-append-le, length-drop}
use Rattle.byteorder.specs.Endian.{big_number}
use Rattle.byteorder.specs.Numbers.{big_from-append}
use Rattle.v2gtp_frames.specs.Reading.{whole_at}
use Rattle.v2gtp_frames.proofs.Fronts.{chain}

chain_fits : (len v t n m : ℕ) → chain len v t n ≡ Ok (Some m) → (8 + m ≤ len) × (m ≤ 65536) × (v ≡ 510) × (t ≡ 32769) × (n ≡ m)
unfolding chain
chain_fits len v t n m h = (grind (arith, nat_tests), grind (arith, nat_tests), grind (arith, nat_tests), grind (arith, nat_tests), grind (arith, nat_tests))

pub chain_whole : (len v t n m : ℕ) → 8 + m ≤ len → m ≤ 65536 → v ≡ 510 → t ≡ 32769 → n ≡ m → chain len v t n ≡ Ok (Some m)
unfolding chain
chain_whole len v t n m a b c d e = grind (arith, nat_tests)

-- the fields of the whole frame at the front
pub record WholeAt (bytes : List ℕ) (m : ℕ) : Type 0 where
  pub fits : 8 + m ≤ length bytes
  pub short : m ≤ 65536
  pub version : big_number 2 bytes ≡ 510
  pub kind : big_number 2 (drop 2 bytes) ≡ 32769
  pub count : big_number 4 (drop 4 bytes) ≡ m

pub whole_fits : (bytes : List ℕ) (m : ℕ) → whole_at bytes ≡ Ok (Some m) → WholeAt bytes m
unfolding whole_at chain
whole_fits bytes m h =
    let c = chain_fits (length bytes) (big_number 2 bytes) (big_number 2 (drop 2 bytes)) (big_number 4 (drop 4 bytes)) m h in
    record { fits = c.0; short = c.1; version = c.2; kind = c.3; count = c.4 }

pub fits_whole : (bytes : List ℕ) (m : ℕ) → WholeAt bytes m → whole_at bytes ≡ Ok (Some m)
unfolding whole_at chain
fits_whole bytes m w = chain_whole (length bytes) (big_number 2 bytes) (big_number 2 (drop 2 bytes)) (big_number 4 (drop 4 bytes)) m w.fits w.short w.version w.kind w.count

-- a number of n bytes from place i, with bytes behind
pub number_stays : (i n : ℕ) (bytes more : List ℕ) → i + n ≤ length bytes → big_number n (drop i (bytes ++ more)) ≡ big_number n (drop i bytes)
number_stays i n bytes more h =
    ap (λ (xs : List ℕ). big_number n xs) (drop-append-le i bytes more (omega arith))
    ∙ big_from-append n (drop i bytes) more (omega (arith, length-drop i bytes))

pub whole_stays : (bytes more : List ℕ) (m : ℕ) → whole_at bytes ≡ Ok (Some m) → whole_at (bytes ++ more) ≡ Ok (Some m)
whole_stays bytes more m h =
    let w = whole_fits bytes m h in
    fits_whole (bytes ++ more) m (record {
      fits = omega (arith, w.fits, length-append bytes more);
      short = w.short;
      version = big_from-append 2 bytes more (omega (arith, w.fits)) ∙ w.version;
      kind = number_stays 2 2 bytes more (omega (arith, w.fits)) ∙ w.kind;
      count = number_stays 4 4 bytes more (omega (arith, w.fits)) ∙ w.count;
    })
