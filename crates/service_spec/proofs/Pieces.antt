-- How texts are cut at a character.
use Rattle.std.proofs.Common.{◌≡◌, ◌≢◌, ℕ, ◌<◌, ◌==◌, Bool, true, false, not, List, [], ◌∷◌, ◌++◌, length, get_or, Option, Some, None, refl, sym, ap, ◌∙◌, arith}
use Rattle.std.specs.Prelude.{MatchOption, IfSome}
use Rattle.std.specs.Borrow.{Bor}
use Rattle.std.specs.List.{All, join_with_byte, list_all, AllByRecursion}
use Rattle.std.proofs.lemmas.List.Elements.{All-from_get_or, All-weaker}
use Rattle.std.proofs.lemmas.List.Splits.{slice_split_at, slice_split_none}
use Rattle.std.proofs.lemmas.List.Sums.{AllPass-from_list_all}
use Rattle.service_spec.specs.Pieces.{pieces_of}

abbrev pub is_semicolon : ℕ → Bool
is_semicolon byte = byte == 59

other_byte : (b : ℕ) → b ≢ 59 → is_semicolon b ≡ false
other_byte b ne = grind arith

none_is : (bs : List ℕ) → ((i : ℕ) → i < length bs → get_or bs i 0 ≢ 59) → All (λ b. is_semicolon b ≡ false) bs
none_is bs h = All-from_get_or (λ b. is_semicolon b ≡ false) bs 0 (λ i lt. other_byte (get_or bs i 0) (h i lt))

-- what `split_once` gives at `;`
pub halves : (bs : List ℕ) (r : Option (Bor (List ℕ) × Bor (List ℕ)))
    → MatchOption r ((i : ℕ) → i < length bs → get_or bs i 0 ≢ 59) (λ x. (bs ≡ x.0.now ++ (59 ∷ x.1.now)) × ((i : ℕ) → i < length x.0.now → get_or x.0.now i 0 ≢ 59))
    → MatchOption r (pieces_of bs ≡ bs ∷ []) (λ x. pieces_of bs ≡ x.0.now ∷ pieces_of x.1.now)
halves bs None h = slice_split_none is_semicolon bs (none_is bs h)
halves bs (Some x) h = ap pieces_of h.0 ∙ slice_split_at is_semicolon x.0.now 59 x.1.now (none_is x.0.now h.1) refl

-- the front of `MatchOption`, where there is something
pub cut_of : (bs : List ℕ) (c : ℕ) (r : Option (Bor (List ℕ) × Bor (List ℕ)))
    → MatchOption r ((i : ℕ) → i < length bs → get_or bs i 0 ≢ c) (λ x. (bs ≡ x.0.now ++ (c ∷ x.1.now)) × ((i : ℕ) → i < length x.0.now → get_or x.0.now i 0 ≢ c))
    → IfSome r (λ x. bs ≡ x.0.now ++ c ∷ x.1.now)
cut_of bs c None h = tt
cut_of bs c (Some x) h = h.0

-- ---- pieces without `;`

abbrev pub stays_whole : ℕ → Bool
stays_whole byte = not (byte == 59)

abbrev pub IsPiece : List ℕ → Type 0
IsPiece piece = list_all stays_whole piece ≡ true

whole_byte : (b : ℕ) → stays_whole b ≡ true → is_semicolon b ≡ false
whole_byte b h = grind arith

uncut : (piece : List ℕ) → IsPiece piece → All (λ b. is_semicolon b ≡ false) piece
uncut piece is = All-weaker (λ b. stays_whole b ≡ true) (λ b. is_semicolon b ≡ false) whole_byte piece (AllPass-from_list_all stays_whole piece is)

-- joined pieces are cut into themselves
pub joined_cut : (pieces : List (List ℕ)) → AllByRecursion IsPiece pieces → 0 < length pieces → pieces_of (join_with_byte 59 pieces) ≡ pieces
joined_cut [] are some = absurd (omega (arith, some))
joined_cut (p ∷ []) are some = slice_split_none is_semicolon p (uncut p are.0)
joined_cut (p ∷ q ∷ pieces) are some =
    slice_split_at is_semicolon p 59 (join_with_byte 59 (q ∷ pieces)) (uncut p are.0) refl
    ∙ ap (λ (l : List (List ℕ)). p ∷ l) (joined_cut (q ∷ pieces) are.1 (omega arith))

-- ---- double quotes

pub between : (text rest : List ℕ) (r : Option (Bor (List ℕ))) → text ≡ 34 ∷ rest
    → MatchOption r ((front : List ℕ) → rest ≢ front ++ (34 ∷ [])) (λ x. rest ≡ x.now ++ (34 ∷ []))
    → MatchOption r ((t : List ℕ) → text ≢ 34 ∷ t ++ 34 ∷ []) (λ x. text ≡ 34 ∷ x.now ++ 34 ∷ [])
between text rest None e h = λ t is. let both : 34 ∷ rest ≡ 34 ∷ (t ++ 34 ∷ []) = sym e ∙ is in let same : rest ≡ t ++ 34 ∷ [] = cc in h t same
between text rest (Some x) e h = e ∙ ap (λ (l : List ℕ). 34 ∷ l) h
