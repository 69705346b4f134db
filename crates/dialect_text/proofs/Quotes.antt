-- A text between quotes is told from what stands behind it.
use Rattle.std.proofs.Common.{◌≡◌, ℕ, ◌<◌, List, [], ◌∷◌, ◌++◌, refl, sym, ap, ap₂, ◌∙◌, append_assoc, arith}
use Rattle.std.specs.Prelude.{encode_utf8}
use Rattle.std.specs.List.{flat_map}
use Rattle.std.specs.Str.{encode_utf8_all}
use Rattle.std.proofs.lemmas.Str.{encode_same, encodes-append, encode_ascii}
use Rattle.value_text.specs.ValueText.{character_text, quoted}
use Rattle.value_text.proofs.OneValue.{inside_once}
use Rattle.value_text.proofs.PieceTexts.{spelled_chars}

-- a text that begins with one character begins with no other
pub one_byte : (c b : ℕ) (x y : List ℕ) → b < 128 → encode_utf8 c ++ x ≡ b ∷ y → (c ≡ b) × (x ≡ y)
one_byte c b x y low e = encode_same c b x y (e ∙ ap (λ (bs : List ℕ). bs ++ y) (sym (encode_ascii b low)))

quoted_behind : (a x : List ℕ) → quoted a ++ x ≡ 34 ∷ (flat_map character_text a ++ 34 ∷ x)
quoted_behind a x = ap (λ (bs : List ℕ). 34 ∷ bs) (append_assoc (flat_map character_text a) (34 ∷ []) x)

pub quoted_once : (a b x y : List ℕ) → quoted a ++ x ≡ quoted b ++ y → (a ≡ b) × (x ≡ y)
quoted_once a b x y e =
    let both : 34 ∷ (flat_map character_text a ++ 34 ∷ x) ≡ 34 ∷ (flat_map character_text b ++ 34 ∷ y) = sym (quoted_behind a x) ∙ e ∙ quoted_behind b y in
    let same : flat_map character_text a ++ 34 ∷ x ≡ flat_map character_text b ++ 34 ∷ y = cc in
    inside_once a b x y same

-- ---- its characters

low_ahead : (b : ℕ) (x y : List ℕ) → b < 128 → x ≡ encode_utf8_all y → b ∷ x ≡ encode_utf8_all (b ∷ y)
low_ahead b x y low e = ap₂ (λ (bs cs : List ℕ). bs ++ cs) (sym (encode_ascii b low)) e

inside_chars : (a : List ℕ) → (cs : List ℕ) × (flat_map character_text a ≡ encode_utf8_all cs)
inside_chars [] = ([], refl)
inside_chars (c ∷ a) =
    let one = spelled_chars c in
    let more = inside_chars a in
    (one.0 ++ more.0, ap₂ (λ (bs cs : List ℕ). bs ++ cs) (sym one.1) more.1 ∙ sym (encodes-append one.0 more.0))

pub quoted_chars : (a : List ℕ) → (cs : List ℕ) × (quoted a ≡ encode_utf8_all cs)
quoted_chars a =
    let inside = inside_chars a in (
      34 ∷ (inside.0 ++ 34 ∷ []),
      low_ahead 34 (flat_map character_text a ++ 34 ∷ []) (inside.0 ++ 34 ∷ []) (omega arith)
          (ap₂ (λ (bs cs : List ℕ). bs ++ cs) inside.1 (low_ahead 34 [] [] (omega arith) refl) ∙ sym (encodes-append inside.0 (34 ∷ []))),
    )
