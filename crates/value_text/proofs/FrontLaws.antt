-- Fronts of a text: of two fronts one begins the other, and the longest is found character by character.
use Rattle.std.proofs.Common.{◌≡◌, ℕ, ◌≤◌, List, [], ◌∷◌, ◌++◌, length, ◌⊎◌, inl, inr, refl, sym, ap, ap₂, subst, ◌∙◌, append_assoc, arith}
use Rattle.std.specs.Prelude.{encode_utf8}
use Rattle.std.specs.Str.{encode_utf8_all}
use Rattle.std.proofs.lemmas.List.{append-nil, append_cancel_left, length-append}
use Rattle.std.proofs.lemmas.Str.{encode_same, encodes-append}
use Rattle.value_text.specs.declared.cursor.TextCursor.{TextCursor}
use Rattle.value_text.specs.Fronts.{Begins, IsLongest}
use Rattle.value_text.specs.Scanning.{Passes, Takes, GoesWrong}
use Rattle.value_text.proofs.NextLaws.{some_bytes}

-- a front with more behind it that another text begins with
abbrev pub GoesOn : List ℕ → List ℕ → List ℕ → List ℕ → Type 0
GoesOn a x b y = (c : ℕ) × (ds : List ℕ) × (a ≡ b ++ c ∷ ds) × (y ≡ encode_utf8 c ++ (encode_utf8_all ds ++ x))

pub compare : (a b x y : List ℕ) → encode_utf8_all a ++ x ≡ encode_utf8_all b ++ y → (length a ≤ length b) ⊎ GoesOn a x b y
compare [] b x y e = inl (omega arith)
compare (c ∷ a) [] x y e = inr (c, a, refl, sym e ∙ append_assoc (encode_utf8 c) (encode_utf8_all a) x)
compare (c ∷ a) (d ∷ b) x y e =
    let firsts = encode_same c d (encode_utf8_all a ++ x) (encode_utf8_all b ++ y)
    (sym (append_assoc (encode_utf8 c) (encode_utf8_all a) x) ∙ e ∙ append_assoc (encode_utf8 d) (encode_utf8_all b) y) in
    elim (compare a b x y firsts.1) [
      | inl short ↦ inl (omega (arith, short))
      | inr more ↦ inr (more.0, more.1, ap₂ (λ (n : ℕ) (ns : List ℕ). n ∷ ns) firsts.0 more.2, more.3)
    ]

-- the characters of a front, and one more
pub encodes_push : (front : List ℕ) (c : ℕ) (rest : List ℕ) → encode_utf8_all (front ++ c ∷ []) ++ rest ≡ encode_utf8_all front ++ (encode_utf8 c ++ rest)
encodes_push front c rest =
    ap (λ (bs : List ℕ). bs ++ rest) (encodes-append front (c ∷ []))
    ∙ ap (λ (bs : List ℕ). (encode_utf8_all front ++ bs) ++ rest) (append-nil (encode_utf8 c))
    ∙ append_assoc (encode_utf8_all front) (encode_utf8 c) rest

-- nothing of the language goes on with the next character
abbrev pub Stops : (List ℕ → Type 0) → List ℕ → List ℕ → Type 0
Stops L front rest = (c : ℕ) (more after : List ℕ) → rest ≡ encode_utf8 c ++ more → L (encode_utf8_all front ++ (encode_utf8 c ++ after)) → ⊥

pub longest_where_it_stops : (L : List ℕ → Type 0) (text front rest : List ℕ) → text ≡ encode_utf8_all front ++ rest → Begins L front → Stops L front rest → IsLongest L text front
longest_where_it_stops L text front rest stands begins stops = record {
  rest = rest;
  stands = stands;
  begins = begins;
  longest = λ longer more there begun.
      elim (compare longer front more rest (sym there ∙ stands)) [
        | inl short ↦ short
        | inr on ↦ absurd (stops on.0 (encode_utf8_all on.1 ++ more) (encode_utf8_all on.1 ++ begun.0) on.3
            (subst L (ap (λ (cs : List ℕ). encode_utf8_all cs ++ begun.0) on.2
            ∙ ap (λ (bs : List ℕ). bs ++ begun.0) (encodes-append front (on.0 ∷ on.1))
            ∙ append_assoc (encode_utf8_all front) (encode_utf8_all (on.0 ∷ on.1)) begun.0
            ∙ ap (λ (bs : List ℕ). encode_utf8_all front ++ bs) (append_assoc (encode_utf8 on.0) (encode_utf8_all on.1) begun.0)) begun.1))
      ];
}

-- the longest front is one
pub same_length : (a b x y : List ℕ) → encode_utf8_all a ++ x ≡ encode_utf8_all b ++ y → length a ≡ length b → a ≡ b
same_length [] [] x y e l = refl
same_length [] (d ∷ b) x y e l = absurd (omega (arith, l))
same_length (c ∷ a) [] x y e l = absurd (omega (arith, l))
same_length (c ∷ a) (d ∷ b) x y e l =
    let firsts = encode_same c d (encode_utf8_all a ++ x) (encode_utf8_all b ++ y)
    (sym (append_assoc (encode_utf8 c) (encode_utf8_all a) x) ∙ e ∙ append_assoc (encode_utf8 d) (encode_utf8_all b) y) in
    ap₂ (λ (n : ℕ) (ns : List ℕ). n ∷ ns) firsts.0 (same_length a b x y firsts.1 (omega (arith, l)))

pub one_longest : (L : List ℕ → Type 0) (text a b : List ℕ) → IsLongest L text a → IsLongest L text b → a ≡ b
one_longest L text a b p q =
    same_length a b p.rest q.rest (sym p.stands ∙ q.stands)
    (omega (arith, p.longest b q.rest q.stands q.begins, q.longest a p.rest p.stands p.begins))

-- ---- a cursor's answers, of two languages with the same texts

longest_same : (L M : List ℕ → Type 0) (text front : List ℕ) → ((t : List ℕ) → L t → M t) → ((t : List ℕ) → M t → L t) → IsLongest L text front → IsLongest M text front
longest_same L M text front to from p = record {
  rest = p.rest;
  stands = p.stands;
  begins = (p.begins.0, to _ p.begins.1);
  longest = λ longer more there begun. p.longest longer more there (begun.0, from _ begun.1);
}

pub takes_same : (L M : List ℕ → Type 0) (before : TextCursor) (front : List ℕ) (after : TextCursor) → ((t : List ℕ) → L t → M t) → ((t : List ℕ) → M t → L t)
    → Takes L before front after → Takes M before front after
takes_same L M before front after to from p = record {
  longest = longest_same L M before.rest.now front to from p.longest;
  is_one = to _ p.is_one;
  passed = p.passed;
}

pub wrong_same : (L M : List ℕ → Type 0) (before : TextCursor) (place : ℕ) → ((t : List ℕ) → L t → M t) → ((t : List ℕ) → M t → L t) → GoesWrong L before place → GoesWrong M before place
wrong_same L M before place to from p = (p.0, longest_same L M before.rest.now p.0 to from p.1, λ one. p.2 (from _ one), p.3)

-- ---- steps of a cursor

pub passes_none : (cursor : TextCursor) → Passes cursor [] cursor
passes_none cursor = record { stands = refl; counted = omega arith }

pub passes_on : (a b c : TextCursor) (front more : List ℕ) → Passes a front b → Passes b more c → Passes a (front ++ more) c
passes_on a b c front more p q = record {
  stands = p.stands ∙ ap (λ (bs : List ℕ). encode_utf8_all front ++ bs) q.stands ∙ sym (append_assoc (encode_utf8_all front) (encode_utf8_all more) c.rest.now)
      ∙ ap (λ (bs : List ℕ). bs ++ c.rest.now) (sym (encodes-append front more));
  counted = omega (arith, p.counted, q.counted, length-append front more);
}

pub takes_where_it_stops : (L : List ℕ → Type 0) (before : TextCursor) (front : List ℕ) (after : TextCursor) → Passes before front after → L (encode_utf8_all front) → Stops L front after.rest.now → Takes L before front after
takes_where_it_stops L before front after passed one stops = record {
  longest = longest_where_it_stops L before.rest.now front after.rest.now passed.stands ([], subst L (sym (append-nil (encode_utf8_all front))) one) stops;
  is_one = one;
  passed = passed;
}

pub wrong_where_it_stops : (L : List ℕ → Type 0) (before : TextCursor) (front : List ℕ) (after : TextCursor) → Passes before front after → Begins L front → (L (encode_utf8_all front) → ⊥) → Stops L front after.rest.now
    → GoesWrong L before after.place
wrong_where_it_stops L before front after passed begins none stops =
    (front, longest_where_it_stops L before.rest.now front after.rest.now passed.stands begins stops, none, passed.counted)

-- ---- one language behind a front of another

pub stops_of : (L : List ℕ → Type 0) (text front : List ℕ) (p : IsLongest L text front) → Stops L front p.rest
stops_of L text front p c more after there one =
    let longer = p.longest (front ++ c ∷ []) more (p.stands ∙ ap (λ (bs : List ℕ). encode_utf8_all front ++ bs) there ∙ sym (encodes_push front c more)) (after, subst L (sym (encodes_push front c after)) one) in
    absurd (omega (arith, longer, length-append front (c ∷ [])))

pub stops_behind : (L : List ℕ → Type 0) (before : TextCursor) (front : List ℕ) (after : TextCursor) → Takes L before front after → Stops L front after.rest.now
stops_behind L before front after t =
    subst (λ (rest : List ℕ). Stops L front rest) (append_cancel_left (encode_utf8_all front) t.longest.rest after.rest.now (sym t.longest.stands ∙ t.passed.stands)) (stops_of L before.rest.now front t.longest)

-- the texts of L are what stands behind the front p in those of M
pub record StandsBehind (L M : List ℕ → Type 0) (p : List ℕ) : Type 0 where
  pub to : (x : List ℕ) → L x → M (encode_utf8_all p ++ x)
  pub from : (x : List ℕ) → M (encode_utf8_all p ++ x) → L x

-- the characters of both, and what is behind them
pub encodes_both : (p front rest : List ℕ) → encode_utf8_all (p ++ front) ++ rest ≡ encode_utf8_all p ++ (encode_utf8_all front ++ rest)
encodes_both p front rest = ap (λ (bs : List ℕ). bs ++ rest) (encodes-append p front) ∙ append_assoc (encode_utf8_all p) (encode_utf8_all front) rest

stops_both : (L M : List ℕ → Type 0) (p front rest : List ℕ) → StandsBehind L M p → Stops L front rest → Stops M (p ++ front) rest
stops_both L M p front rest is stops c more after there one =
    stops c more after there (is.from (encode_utf8_all front ++ (encode_utf8 c ++ after)) (subst M (encodes_both p front (encode_utf8 c ++ after)) one))

pub takes_behind : (L M : List ℕ → Type 0) (a b c : TextCursor) (p front : List ℕ) → StandsBehind L M p → Passes a p b → Takes L b front c → Takes M a (p ++ front) c
takes_behind L M a b c p front is passed t =
    takes_where_it_stops M a (p ++ front) c (passes_on a b c p front passed t.passed)
    (subst M (sym (encodes-append p front)) (is.to (encode_utf8_all front) t.is_one))
    (stops_both L M p front c.rest.now is (stops_behind L b front c t))

pub wrong_behind : (L M : List ℕ → Type 0) (a b : TextCursor) (p : List ℕ) (place : ℕ) → StandsBehind L M p → Passes a p b → GoesWrong L b place → GoesWrong M a place
wrong_behind L M a b p place is passed w =
    let front = w.0 in
    let longest = w.1 in
    let stands = passed.stands ∙ ap (λ (bs : List ℕ). encode_utf8_all p ++ bs) longest.stands ∙ sym (encodes_both p front longest.rest) in (
      p ++ front,
      longest_where_it_stops M a.rest.now (p ++ front) longest.rest stands
          (longest.begins.0, subst M (sym (encodes_both p front longest.begins.0)) (is.to (encode_utf8_all front ++ longest.begins.0) longest.begins.1))
          (stops_both L M p front longest.rest is (stops_of L b.rest.now front longest)),
      λ one. w.2 (is.from (encode_utf8_all front) (subst M (encodes-append p front) one)),
      omega (arith, w.3, passed.counted, length-append p front),
    )

-- of no two texts does one begin the other
abbrev pub IsPrefixFree : (List ℕ → Type 0) → Type 0
IsPrefixFree L = (x y : List ℕ) → L x → L (x ++ y) → y ≡ []

pub takes_whole : (L : List ℕ → Type 0) (before : TextCursor) (front : List ℕ) (after : TextCursor) → IsPrefixFree L → Passes before front after → L (encode_utf8_all front) → Takes L before front after
takes_whole L before front after free passed one =
    takes_where_it_stops L before front after passed one (λ c more rest there longer. some_bytes c rest (free (encode_utf8_all front) (encode_utf8 c ++ rest) one longer))
