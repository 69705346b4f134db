-- Where the first line of a text ends.
use Rattle.std.proofs.Common.{◌≡◌, ℕ, ◌+◌, ◌<◌, true, false, ◌==◌, List, [], ◌∷◌, ◌++◌, length, take, drop, rules, refl, sym, ap, ◌∙◌, append_assoc, arith}
use Rattle.std.specs.Prelude.{nat_le}
use Rattle.std.specs.List.{list_all, position_or_len}
use Rattle.std.proofs.lemmas.Bool.{and_parts}
use Rattle.std.proofs.lemmas.List.{take-append-drop, length-append, length-drop, take_at, drop_at}
use Rattle.trace_reading.specs.Lines.{IsCut}

no_feed : (c : ℕ) → nat_le 32 c ≡ true → (c == 10) ≡ false
no_feed c h = grind arith

-- bytes of words stand before a line feed
feed_at : (front more : List ℕ) → list_all (λ b. nat_le 32 b) front ≡ true → position_or_len (λ b. b == 10) (front ++ 10 ∷ more) ≡ length front
feed_at [] more h = refl
feed_at (c ∷ front) more h =
    let parts = and_parts (nat_le 32 c) (list_all (λ b. nat_le 32 b) front) h in
    rw (no_feed c parts.0) (omega (arith, feed_at front more parts.1))

front_len : (front more : List ℕ) → length front < length (front ++ 10 ∷ more)
front_len front more = omega (arith, length-append front (10 ∷ more))

-- the whole text, where no line feed was found
pub cut_nowhere : (text : List ℕ) → position_or_len (λ b. b == 10) text ≡ length text → IsCut text text []
cut_nowhere text len = record {
  whole = sym (search rules);
  shorter = λ some. some;
  first = λ front more h is.
      let at = feed_at front more h in
      let short = front_len front more in
      let same : position_or_len (λ b. b == 10) text ≡ length front = rw is at in
      let long : length text ≡ length (front ++ 10 ∷ more) = ap length is in
      absurd (omega (arith, same, short, len, long));
}

regroup : (front more : List ℕ) → (front ++ 10 ∷ []) ++ more ≡ front ++ 10 ∷ more
regroup front more = append_assoc front (10 ∷ []) more

pub cut_there : (text : List ℕ) (n : ℕ) → position_or_len (λ b. b == 10) text ≡ n → n < length text → IsCut text (take (n + 1) text) (drop (n + 1) text)
cut_there text n len within = record {
  whole = sym (take-append-drop (n + 1) text);
  shorter = λ some. omega (arith, length-drop (n + 1) text);
  first = λ front more h is.
      let at = feed_at front more h in
      let same : length front ≡ n = sym at ∙ ap (position_or_len (λ b. b == 10)) (sym is) ∙ len in
      let long : length (front ++ 10 ∷ []) ≡ n + 1 = omega (arith, length-append front (10 ∷ []), same) in
      let text_is : text ≡ (front ++ 10 ∷ []) ++ more = is ∙ sym (regroup front more) in
      (ap (take (n + 1)) text_is ∙ take_at (front ++ 10 ∷ []) more (n + 1) long, ap (drop (n + 1)) text_is ∙ drop_at (front ++ 10 ∷ []) more (n + 1) long);
}
