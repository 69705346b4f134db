-- The text of a value, piece by piece.
use Rattle.std.proofs.Common.{◌≡◌, ℕ, ◌/◌, ◌%◌, ◌<◌, List, [], ◌∷◌, ◌++◌, sym, ap, subst, ◌∙◌, append_assoc, append-nil}
use Rattle.std.specs.List.{AllByRecursion}
use Rattle.std.specs.Prelude.{slice_index, encode_utf8}
use Rattle.hex.specs.Hex.{encode_with, encode_lower, lower_digits}

pub all_behind : (bytes rest : List ℕ) (byte : ℕ) → bytes ≡ byte ∷ rest → AllByRecursion (λ b. b < 256) bytes → AllByRecursion (λ b. b < 256) rest
all_behind bytes rest byte are all = (subst (λ (l : List ℕ). AllByRecursion (λ b. b < 256) l) are all).1

-- a digit behind a text
pub digit_put : (before after : List ℕ) (d n : ℕ) → d ≡ slice_index lower_digits n → d < 128 → (d < 128 → encode_utf8 d ≡ d ∷ []) → after ≡ before ++ encode_utf8 d →
    after ≡ before ++ (slice_index lower_digits n ∷ [])
digit_put before after d n is low alone put = put ∙ ap (λ (l : List ℕ). before ++ l) (alone low ∙ ap (λ (k : ℕ). k ∷ []) is)

-- two digits of a byte behind a text
pub byte_more : (before one both bytes rest : List ℕ) (byte : ℕ) → bytes ≡ byte ∷ rest →
    one ≡ before ++ (slice_index lower_digits (byte / 16) ∷ []) → both ≡ one ++ (slice_index lower_digits (byte % 16) ∷ []) →
    both ++ encode_lower rest ≡ before ++ encode_lower bytes
unfolding encode_with
byte_more before one both bytes rest byte are first second =
    let high = slice_index lower_digits (byte / 16) ∷ [] in
    let low = slice_index lower_digits (byte % 16) ∷ [] in
    ap (λ (l : List ℕ). l ++ encode_lower rest) (second ∙ ap (λ (l : List ℕ). l ++ low) first)
    ∙ append_assoc (before ++ high) low (encode_lower rest) ∙ append_assoc before high (low ++ encode_lower rest)
    ∙ ap (λ (l : List ℕ). before ++ encode_lower l) (sym are)

pub no_bytes : (text whole bytes : List ℕ) → bytes ≡ [] → text ++ encode_lower bytes ≡ whole → text ≡ whole
unfolding encode_with
no_bytes text whole bytes none is = sym (append-nil text) ∙ ap (λ (l : List ℕ). text ++ encode_lower l) (sym none) ∙ is
