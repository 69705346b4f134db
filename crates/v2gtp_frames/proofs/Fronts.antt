-- What the answer on the front of a stream says of its length.
use Rattle.std.proofs.Common.{◌≡◌, ℕ, ◌+◌, ◌-◌, ◌<◌, ◌≤◌, ◌∙◌, sym, ap, take, cond, eqb, ltb, not, List, length, drop, Option, Some, None, Result, Ok, Err, refl, arith}
use Rattle.std.specs.Prelude.{IfSome}
use Rattle.std.proofs.lemmas.Bool.Decides.{nat_tests}
use Rattle.std.proofs.lemmas.List.{drop-drop, length-take-le, length-drop, take_rest}
use Rattle.byteorder.specs.Endian.{big_number}
use Rattle.v2gtp_frames.specs.declared.FrameFault.{FrameFault}
use Rattle.v2gtp_frames.specs.declared.FrameFault.TheVariants.{BadVersion, BadType, LongPayload}
use Rattle.v2gtp_frames.specs.Reading.{whole_at, behind, payload_at}

-- the seven tests of a front, over variables for its length and fields
unfoldable pub chain : (len v t n : ℕ) → Result (Option ℕ) FrameFault
chain len v t n =
    cond (ltb len 2) (Ok None) (cond (not (eqb v 510)) (Err (BadVersion v)) (cond (ltb len 4) (Ok None) (cond (not (eqb t 32769)) (Err (BadType t))
    (cond (ltb len 8) (Ok None) (cond (ltb 65536 n) (Err (LongPayload n)) (cond (ltb len (8 + n)) (Ok None) (Ok (Some n))))))))

chain_waits : (len v t n : ℕ) → chain len v t n ≡ Ok None → len < 65544
unfolding chain
chain_waits len v t n h = grind (arith, nat_tests)

pub waits_short : (bytes : List ℕ) → whole_at bytes ≡ Ok None → length bytes < 65544
unfolding whole_at chain
waits_short bytes h = chain_waits (length bytes) (big_number 2 bytes) (big_number 2 (drop 2 bytes)) (big_number 4 (drop 4 bytes)) h

whole_of : ℕ → Result (Option ℕ) FrameFault
whole_of n = Ok (Some n)

-- the payload that is given and what is left, by places of the buffer
pub record Given (items inner now : List ℕ) (start len : ℕ) : Type 0 where
  pub left : drop (start + 8 + len) items ≡ behind (whole_at now) now
  pub long : whole_at now ≡ Ok (Some (length (take (start + 8 + len - (start + 8)) (drop (start + 8) inner))))
  pub payload : take (start + 8 + len - (start + 8)) (drop (start + 8) inner) ≡ payload_at (length (take (start + 8 + len - (start + 8)) (drop (start + 8) inner))) now
  pub short : length (take (start + 8 + len - (start + 8)) (drop (start + 8) inner)) ≤ 65536

pub given : (items inner now : List ℕ) (start len : ℕ) → drop start items ≡ now → inner ≡ items → whole_at (drop start items) ≡ Ok (Some len) → start + (8 + len) ≤ length items → len ≤ 65536 → Given items inner now start len
unfolding whole_of
given items inner now start len n i w le few =
    let whole-now : whole_at now ≡ Ok (Some len) = ap whole_at (sym n) ∙ w in
    let count : start + 8 + len - (start + 8) ≡ len = omega arith in
    let front : drop (start + 8) inner ≡ drop 8 now = ap (λ (xs : List ℕ). drop (start + 8) xs) i ∙ sym (drop-drop 8 start items) ∙ ap (λ (xs : List ℕ). drop 8 xs) n in
    let taken : take (start + 8 + len - (start + 8)) (drop (start + 8) inner) ≡ take len (drop 8 now) = rw (count, front) refl in
    let now-len : length now ≡ length items - start = rw (← n) (length-drop start items) in
    let room : len ≤ length (drop 8 now) = omega (arith, length-drop 8 now) in
    let size : length (take len (drop 8 now)) ≡ len = length-take-le len (drop 8 now) room in
    let size-is : length (take (start + 8 + len - (start + 8)) (drop (start + 8) inner)) ≡ len = ap (λ (xs : List ℕ). length xs) taken ∙ size in
    record {
      left = rw (whole-now, ← n) (ap (λ (k : ℕ). drop k items) (let e : start + 8 + len ≡ start + (8 + len) = omega arith in e) ∙ sym (drop-drop (8 + len) start items));
      long = whole-now ∙ ap whole_of (sym size-is);
      payload = taken ∙ ap (λ (k : ℕ). take k (drop 8 now)) (sym size-is);
      short = omega (arith, size-is);
    }

-- the same from what was read of the buffer
pub given_read : (items read inner now : List ℕ) (start len : ℕ) (field : Option ℕ) → drop start items ≡ now → inner ≡ items → read ≡ items → field ≡ Some len
    → Ok field ≡ whole_at (take (length read - start) (drop start read)) → IfSome field (λ n. (8 + n ≤ length (take (length read - start) (drop start read))) × (n ≤ 65536)) → Given items inner now start len
given_read items read inner now start len field n i r some is fits =
    let rest : take (length read - start) (drop start read) ≡ drop start items = take_rest read start ∙ ap (λ (xs : List ℕ). drop start xs) r in
    let f = rw (some, rest) at fits in
    let w : whole_at (drop start items) ≡ Ok (Some len) = sym (rw (some, rest) at is) in
    given items inner now start len n i w (omega (arith, f.0, length-drop start items)) f.1
