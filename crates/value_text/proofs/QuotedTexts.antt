-- Texts in quotes where a cursor stands.
use Rattle.std.proofs.Common.{◌≡◌, ◌≢◌, ℕ, ◌<◌, true, List, [], ◌∷◌, ◌++◌, length, drop, inl, inr, refl, sym, ap, subst, ◌∙◌, append_assoc, arith}
use Rattle.std.specs.Prelude.{◌==◌, encode_utf8, Some, None}
use Rattle.std.specs.Char.{IsScalar}
use Rattle.std.specs.List.{AllByRecursion, flat_map}
use Rattle.std.specs.Str.{encode_utf8_all, all_scalars, chars, IsUtf8}
use Rattle.std.proofs.lemmas.Grind.{flat_map-append}
use Rattle.std.proofs.lemmas.List.{append-nil, length-append, nil_from_length}
use Rattle.std.proofs.lemmas.Str.{encode_same, encodes-append, chars-append, chars-encodes, chars-nil}
use Rattle.value_text.specs.declared.cursor.TextCursor.{TextCursor}
use Rattle.value_text.specs.Forms.{IsPieceText, IsQuotedText, NoneNext}
use Rattle.value_text.specs.Scanning.{Passes, Takes, GoesWrong}
use Rattle.value_text.specs.ValueText.{character_text, quoted}
use Rattle.value_text.proofs.EscapeTexts.{encodes_ascii}
use Rattle.value_text.proofs.FrontLaws.{compare, same_length, Stops, StandsBehind, IsPrefixFree, stops_of, longest_where_it_stops, passes_on, takes_whole, takes_behind, wrong_behind}
use Rattle.value_text.proofs.NextLaws.{some_bytes}
use Rattle.value_text.proofs.PieceTexts.{GivesPiece, one_piece, no_quote_first, no_first, spelled_chars, some_text}

-- ---- the rest of a text, up to the closing quote

abbrev pub AllScalar : List ℕ → Type 0
AllScalar cs = AllByRecursion (λ char. IsScalar char) cs

abbrev pub IsRestText : List ℕ → Type 0
IsRestText text = (cs : List ℕ) × AllScalar cs × (text ≡ flat_map character_text cs ++ 34 ∷ [])

all_both : (cs ds : List ℕ) → AllScalar cs → AllScalar ds → AllScalar (cs ++ ds)
all_both [] ds p q = q
all_both (c ∷ cs) ds p q = (p.0, all_both cs ds p.1 q)

strip : (cs ds x : List ℕ) → AllScalar ds → flat_map character_text cs ++ x ≡ flat_map character_text ds ++ 34 ∷ [] → IsRestText x
strip [] ds x all e = (ds, all, e)
strip (c ∷ cs) [] x all e = absurd (no_quote_first c (flat_map character_text cs ++ x) [] (sym (append_assoc (character_text c) (flat_map character_text cs) x) ∙ e))
strip (c ∷ cs) (d ∷ ds) x all e =
    strip cs ds x all.1 (one_piece c d (flat_map character_text cs ++ x) (flat_map character_text ds ++ 34 ∷ [])
    (sym (append_assoc (character_text c) (flat_map character_text cs) x) ∙ e ∙ append_assoc (character_text d) (flat_map character_text ds) (34 ∷ []))).1

rest_free : IsPrefixFree IsRestText
rest_free x y p q =
    let after = strip p.0 q.0 (34 ∷ y) q.1 (sym (append_assoc (flat_map character_text p.0) (34 ∷ []) y) ∙ ap (λ (bs : List ℕ). bs ++ y) (sym p.2) ∙ q.2) in
    ends after.0 y after.2
  where
    ends : (cs y : List ℕ) → 34 ∷ y ≡ flat_map character_text cs ++ 34 ∷ [] → y ≡ []
    ends [] y e = ap (λ (bs : List ℕ). drop 1 bs) e
    ends (c ∷ cs) y e = absurd (no_quote_first c (flat_map character_text cs ++ 34 ∷ []) y (sym (append_assoc (character_text c) (flat_map character_text cs) (34 ∷ [])) ∙ sym e))

-- ---- where no piece stands, nothing of the rest does

more_of_piece : (text : List ℕ) → IsPieceText text → (y : List ℕ) × IsRestText (text ++ y)
more_of_piece text (inl p) = ([], ([], tt, append-nil text ∙ p))
more_of_piece text (inr p) = (34 ∷ [], (p.0 ∷ [], (p.1, tt), ap (λ (bs : List ℕ). bs ++ 34 ∷ []) (p.2 ∙ sym (append-nil (character_text p.0)))))

too_long : (text y : List ℕ) (c : ℕ) → IsPieceText text → text ≡ character_text c ++ y → 0 < length y → ⊥
too_long text y c (inl p) e some = no_quote_first c y [] (sym e ∙ p)
too_long text y c (inr p) e some =
    let same = one_piece p.0 c [] y (append-nil (character_text p.0) ∙ sym p.2 ∙ e) in
    omega (arith, some, ap length same.1)

closing_longer : (xs y : List ℕ) → 0 < length ((xs ++ 34 ∷ []) ++ y)
closing_longer xs y = omega (arith, length-append (xs ++ 34 ∷ []) y, length-append xs (34 ∷ []))

rest_is_piece : (front r : List ℕ) → IsPieceText (encode_utf8_all front ++ r) → (IsPieceText (encode_utf8_all front) → ⊥) → IsRestText (encode_utf8_all front) → ⊥
rest_is_piece front r begun none ([], all, e) = none (inl e)
rest_is_piece front r begun none (c ∷ cs, all, e) =
    too_long (encode_utf8_all front ++ r) ((flat_map character_text cs ++ 34 ∷ []) ++ r) c begun
    (ap (λ (bs : List ℕ). bs ++ r) (e ∙ append_assoc (character_text c) (flat_map character_text cs) (34 ∷ [])) ∙ append_assoc (character_text c) (flat_map character_text cs ++ 34 ∷ []) r)
    (closing_longer (flat_map character_text cs) r)

rest_stops : (front rest r : List ℕ) → IsPieceText (encode_utf8_all front ++ r) → (IsPieceText (encode_utf8_all front) → ⊥) → Stops IsPieceText front rest → Stops IsRestText front rest
rest_stops front rest r begun none stops c more after there ([], all, e) = stops c more after there (inl e)
rest_stops front rest r begun none stops c more after there (d ∷ cs, all, e) =
    let spelled = spelled_chars d in
    let behind = flat_map character_text cs ++ 34 ∷ [] in
    let whole : encode_utf8_all spelled.0 ++ behind ≡ encode_utf8_all front ++ (encode_utf8 c ++ after) =
    ap (λ (bs : List ℕ). bs ++ behind) spelled.1 ∙ sym (append_assoc (character_text d) (flat_map character_text cs) (34 ∷ [])) ∙ sym e in
    elim (compare spelled.0 front behind (encode_utf8 c ++ after) whole) [
      | inl short ↦ elim (compare front spelled.0 (encode_utf8 c ++ after) behind (sym whole)) [
        | inl long ↦
            let same = same_length front spelled.0 (encode_utf8 c ++ after) behind (sym whole) (omega (arith, short, long)) in
            none (inr (d, all.0, ap encode_utf8_all same ∙ spelled.1))
        | inr on ↦ too_long (encode_utf8_all front ++ r) (encode_utf8_all (on.0 ∷ on.1) ++ r) d begun
            (ap (λ (cs : List ℕ). encode_utf8_all cs ++ r) on.2 ∙ ap (λ (bs : List ℕ). bs ++ r) (encodes-append spelled.0 (on.0 ∷ on.1))
            ∙ ap (λ (bs : List ℕ). (bs ++ encode_utf8_all (on.0 ∷ on.1)) ++ r) spelled.1 ∙ append_assoc (character_text d) (encode_utf8_all (on.0 ∷ on.1)) r)
            (some_more on.0 (encode_utf8_all on.1) r)
      ]
      | inr on ↦
          let same = encode_same c on.0 after (encode_utf8_all on.1 ++ behind) on.3 in
          stops c more (encode_utf8_all on.1) there (inr (
            d,
            all.0,
            ap (λ (n : ℕ). encode_utf8_all front ++ (encode_utf8 n ++ encode_utf8_all on.1)) same.0 ∙ sym (encodes-append front (on.0 ∷ on.1)) ∙ ap encode_utf8_all (sym on.2) ∙ spelled.1,
          ))
    ]
  where
    not_empty : (xs : List ℕ) → (xs ≡ [] → ⊥) → 0 < length xs
    not_empty [] differs = absurd (differs refl)
    not_empty (x ∷ xs) differs = omega arith

    some_more : (n : ℕ) (xs r : List ℕ) → 0 < length ((encode_utf8 n ++ xs) ++ r)
    some_more n xs r = not_empty ((encode_utf8 n ++ xs) ++ r) (λ e. some_bytes n (xs ++ r) (sym (append_assoc (encode_utf8 n) xs r) ∙ e))

wrong_rest : (b : TextCursor) (place : ℕ) → GoesWrong IsPieceText b place → GoesWrong IsRestText b place
wrong_rest b place w =
    let front = w.0 in
    let longest = w.1 in
    let r = longest.begins.0 in
    let begun = longest.begins.1 in
    let more = more_of_piece (encode_utf8_all front ++ r) begun in (
      front,
      longest_where_it_stops IsRestText b.rest.now front longest.rest longest.stands (r ++ more.0, subst IsRestText (append_assoc (encode_utf8_all front) r more.0) more.1)
          (rest_stops front longest.rest r begun w.2 (stops_of IsPieceText b.rest.now front longest)),
      rest_is_piece front r begun w.2,
      w.3,
    )

-- ---- the whole

-- so far the cursor passes the quote and these characters
abbrev pub ReadsText : TextCursor → List ℕ → TextCursor → Type 0
ReadsText a cs b = (front : List ℕ) × Passes a front b × AllScalar cs × (encode_utf8_all front ≡ 34 ∷ flat_map character_text cs)

quoted_bytes : (front cs x : List ℕ) → encode_utf8_all front ≡ 34 ∷ flat_map character_text cs → encode_utf8_all front ++ x ≡ 34 ∷ (flat_map character_text cs ++ x)
quoted_bytes front cs x e = ap (λ (bs : List ℕ). bs ++ x) e

rest_in_quoted : (front cs : List ℕ) → AllScalar cs → encode_utf8_all front ≡ 34 ∷ flat_map character_text cs → StandsBehind IsRestText IsQuotedText front
rest_in_quoted front cs all is = record {
  to = λ x one. (
    cs ++ one.0,
    all_both cs one.0 all one.1,
    quoted_bytes front cs x is ∙ ap (λ (bs : List ℕ). 34 ∷ (flat_map character_text cs ++ bs)) one.2
        ∙ ap (λ (bs : List ℕ). 34 ∷ bs) (sym (append_assoc (flat_map character_text cs) (flat_map character_text one.0) (34 ∷ [])) ∙ ap (λ (bs : List ℕ). bs ++ 34 ∷ []) (sym (flat_map-append character_text cs one.0))),
  );
  from = λ x one. strip cs one.0 x one.1 (ap (λ (bs : List ℕ). drop 1 bs) (sym (quoted_bytes front cs x is) ∙ one.2));
}

pub wrong_inside : (a b : TextCursor) (cs : List ℕ) (place : ℕ) → ReadsText a cs b → GoesWrong IsPieceText b place → GoesWrong IsQuotedText a place
wrong_inside a b cs place reads w = wrong_behind IsRestText IsQuotedText a b reads.0 place (rest_in_quoted reads.0 cs reads.2 reads.3) reads.1 (wrong_rest b place w)

abbrev pub GivesText : TextCursor → List ℕ → TextCursor → Type 0
GivesText a cs b = (front : List ℕ) × Takes IsQuotedText a front b × AllScalar cs × (encode_utf8_all front ≡ quoted cs)

pub takes_quoted : (a b d : TextCursor) (cs : List ℕ) → ReadsText a cs b → GivesPiece b None d → GivesText a cs d
takes_quoted a b d cs reads g =
    let rest : Takes IsRestText b g.0 d = takes_whole IsRestText b g.0 d rest_free g.1.passed ([], tt, g.2) in (
      reads.0 ++ g.0,
      takes_behind IsRestText IsQuotedText a b d reads.0 g.0 (rest_in_quoted reads.0 cs reads.2 reads.3) reads.1 rest,
      reads.2,
      encodes-append reads.0 g.0 ∙ quoted_bytes reads.0 cs (encode_utf8_all g.0) reads.3 ∙ ap (λ (bs : List ℕ). 34 ∷ (flat_map character_text cs ++ bs)) g.2,
    )

quote_only : encode_utf8_all (34 ∷ []) ≡ 34 ∷ []
quote_only = encodes_ascii (34 ∷ []) (omega arith, tt)

pub reads_quote : (a b : TextCursor) (text : List ℕ) → text ≡ [] → Passes a (34 ∷ []) b → ReadsText a (chars text) b
reads_quote a b text is passed = rw (is, chars-nil) (34 ∷ [], passed, tt, quote_only)

pub reads_on : (a b d : TextCursor) (text more : List ℕ) (c : ℕ) → IsUtf8 text → ReadsText a (chars text) b → GivesPiece b (Some c) d → more ≡ text ++ encode_utf8 c → ReadsText a (chars more) d
reads_on a b d text more c utf8 reads g is =
    let one : encode_utf8_all (c ∷ []) ≡ encode_utf8 c = append-nil (encode_utf8 c) in
    let last : chars (encode_utf8 c) ≡ c ∷ [] = ap chars (sym one) ∙ chars-encodes (c ∷ []) (and_true c g.2.0) in
    let all : chars more ≡ chars text ++ c ∷ [] = ap chars is ∙ chars-append text (encode_utf8 c) utf8 ∙ ap (λ (cs : List ℕ). chars text ++ cs) last in
    rw all (
      reads.0 ++ g.0,
      passes_on a b d reads.0 g.0 reads.1 g.1.passed,
      all_both (chars text) (c ∷ []) reads.2 (g.2.0, tt),
      encodes-append reads.0 g.0 ∙ quoted_bytes reads.0 (chars text) (encode_utf8_all g.0) reads.3
          ∙ ap (λ (bs : List ℕ). 34 ∷ (flat_map character_text (chars text) ++ bs)) (g.2.1 ∙ sym (append-nil (character_text c)))
          ∙ ap (λ (bs : List ℕ). 34 ∷ bs) (sym (flat_map-append character_text (chars text) (c ∷ []))),
    )
  where
    and_true : (c : ℕ) → IsScalar c → all_scalars (c ∷ []) ≡ true
    and_true c is = rw is refl

pub no_quote : (a b : TextCursor) → b ≡ a → NoneNext (λ c. c == 34) a.rest.now → GoesWrong IsQuotedText a b.place
no_quote a b stays none = no_first IsQuotedText a b 34 (34 ∷ 34 ∷ []) (omega arith) ([], tt, refl) (λ text one. (flat_map character_text one.0 ++ 34 ∷ [], one.2)) stays none

pub piece_shorter : (b d : TextCursor) (c : ℕ) → GivesPiece b (Some c) d → length d.rest.now < length b.rest.now
piece_shorter b d c g =
    let long : length (encode_utf8_all g.0) ≢ 0 = λ e. some_text c (sym g.2.1 ∙ nil_from_length (encode_utf8_all g.0) e) in
    omega (arith, ap length g.1.passed.stands, length-append (encode_utf8_all g.0) d.rest.now, long)
