-- Texts that go on as another does: what is taken and what is missed of a language.
use Rattle.std.proofs.Common.{◌≡◌, ℕ, ◌+◌, ◌<◌, ◌≤◌, ◌⊎◌, inl, inr, List, [], ◌∷◌, ◌++◌, length, refl, sym, ap, ap₂, subst, ◌∙◌, append_assoc, arith}
use Rattle.std.specs.Prelude.{encode_utf8}
use Rattle.std.specs.Str.{encode_utf8_all, IsUtf8}
use Rattle.std.proofs.lemmas.Bool.Decides.{leb_tells}
use Rattle.std.proofs.lemmas.List.{append-nil, length-append}
use Rattle.std.proofs.lemmas.Str.{encode_same, encodes-append}
use Rattle.value_text.specs.Fronts.{Begins, IsLongest}
use Rattle.value_text.proofs.FrontLaws.{Stops, encodes_both}
use Rattle.value_text.proofs.NextLaws.{some_bytes}
use Rattle.dialect_text.specs.Languages.{Shares, Leads, Stalls}

-- the characters of two fronts of one text: one goes on behind the other
abbrev pub Longer : List ℕ → List ℕ → List ℕ → List ℕ → Type 0
Longer a x b y = (cs : List ℕ) × (b ≡ a ++ cs) × (x ≡ encode_utf8_all cs ++ y)

abbrev pub Shorter : List ℕ → List ℕ → List ℕ → List ℕ → Type 0
Shorter a x b y = (c : ℕ) × (cs : List ℕ) × (a ≡ b ++ c ∷ cs) × (y ≡ encode_utf8 c ++ (encode_utf8_all cs ++ x))

pub splits : (a x b y : List ℕ) → encode_utf8_all a ++ x ≡ encode_utf8_all b ++ y → Longer a x b y ⊎ Shorter a x b y
splits [] x b y e = inl (b, refl, e)
splits (c ∷ a) x [] y e = inr (c, a, refl, sym e ∙ append_assoc (encode_utf8 c) (encode_utf8_all a) x)
splits (c ∷ a) x (d ∷ b) y e =
    let firsts = encode_same c d (encode_utf8_all a ++ x) (encode_utf8_all b ++ y)
    (sym (append_assoc (encode_utf8 c) (encode_utf8_all a) x) ∙ e ∙ append_assoc (encode_utf8 d) (encode_utf8_all b) y) in
    elim (splits a x b y firsts.1) [
      | inl p ↦ inl (p.0, ap₂ (λ (n : ℕ) (ns : List ℕ). n ∷ ns) (sym firsts.0) p.1, p.2)
      | inr q ↦ inr (q.0, q.1, ap₂ (λ (n : ℕ) (ns : List ℕ). n ∷ ns) firsts.0 q.2, q.3)
    ]

-- the characters of both, and what is behind them
pub behind_one : (a : List ℕ) (c : ℕ) (b x : List ℕ) → encode_utf8_all (a ++ c ∷ b) ++ x ≡ encode_utf8_all a ++ (encode_utf8 c ++ (encode_utf8_all b ++ x))
behind_one a c b x = encodes_both a (c ∷ b) x ∙ ap (λ (bs : List ℕ). encode_utf8_all a ++ bs) (append_assoc (encode_utf8 c) (encode_utf8_all b) x)

-- ---- texts that are the same so far

pub shares_some : (n : ℕ) (rest text : List ℕ) → Shares n rest text → Shares 0 rest text
shares_some n rest text s = record {
  front = s.front;
  more = s.more;
  odd = s.odd;
  stands = s.stands;
  others = s.others;
  enough = elim s.enough [ inl more ↦ inl (omega (arith, more)) | inr whole ↦ inr whole ];
}

pub shares_behind : (front : List ℕ) (n : ℕ) (rest text : List ℕ) → Shares n rest text → Shares n (encode_utf8_all front ++ rest) (encode_utf8_all front ++ text)
shares_behind front n rest text s = record {
  front = front ++ s.front;
  more = s.more;
  odd = s.odd;
  stands = ap (λ (bs : List ℕ). encode_utf8_all front ++ bs) s.stands ∙ sym (encodes_both front s.front s.more);
  others = ap (λ (bs : List ℕ). encode_utf8_all front ++ bs) s.others ∙ sym (encodes_both front s.front s.odd);
  enough = elim s.enough [ inl more ↦ inl (omega (arith, more, length-append front s.front)) | inr whole ↦ inr whole ];
}

pub shares_ahead : (front : List ℕ) (n : ℕ) (rest text : List ℕ) → Shares (length front + n) (encode_utf8_all front ++ rest) text → (other : List ℕ) × (text ≡ encode_utf8_all front ++ other) × Shares n rest other
shares_ahead front n rest text s =
    elim (splits front rest s.front s.more s.stands) [
      | inl p ↦ (
        encode_utf8_all p.0 ++ s.odd,
        s.others ∙ ap (λ (cs : List ℕ). encode_utf8_all cs ++ s.odd) p.1 ∙ encodes_both front p.0 s.odd,
        record {
          front = p.0;
          more = s.more;
          odd = s.odd;
          stands = p.2;
          others = refl;
          enough = elim s.enough [ inl more ↦ inl (omega (arith, more, ap length p.1, length-append front p.0)) | inr whole ↦ inr whole ];
        },
      )
      | inr q ↦ elim s.enough [
        | inl more ↦ absurd (omega (arith, more, ap length q.2, length-append s.front (q.0 ∷ q.1)))
        | inr whole ↦ absurd (some_bytes q.0 (encode_utf8_all q.1 ++ rest) (sym q.3 ∙ whole.0))
      ]
    ]

pub shares_whole : (n : ℕ) (chars : List ℕ) (rest : List ℕ) → rest ≡ encode_utf8_all chars → Shares n rest rest
shares_whole n chars rest e = record {
  front = chars;
  more = [];
  odd = [];
  stands = e ∙ sym (append-nil (encode_utf8_all chars));
  others = e ∙ sym (append-nil (encode_utf8_all chars));
  enough = inr (refl, refl);
}

-- ---- from one language to another

pub leads_then : (K L M : List ℕ → Type 0) (a b rest : List ℕ) → Leads K a (encode_utf8_all b ++ rest) L → Leads L b rest M → Leads K (a ++ b) rest M
leads_then K L M a b rest p q = record {
  from = λ text new. subst K (sym (encodes_both a b text)) (p.from (encode_utf8_all b ++ text) (q.from text new));
  to = λ text shares old. q.to text shares (p.to (encode_utf8_all b ++ text) (shares_behind b 0 rest text shares) (subst K (encodes_both a b text) old));
}

pub stalls_after : (K L : List ℕ → Type 0) (a b rest : List ℕ) → Leads K a rest L → ((a ≡ []) ⊎ ((text : List ℕ) × L text)) → Stalls L rest b → Stalls K (encode_utf8_all a ++ rest) (a ++ b)
stalls_after K L a b rest p some q = record {
  more = q.more;
  stands = ap (λ (bs : List ℕ). encode_utf8_all a ++ bs) q.stands ∙ sym (encodes_both a b q.more);
  begins = elim q.begins [
    | inl none ↦ elim some [
      | inl same ↦ inl (ap₂ (λ (x y : List ℕ). x ++ y) same none)
      | inr one ↦ inr (one.0, subst K (ap (λ (cs : List ℕ). encode_utf8_all cs ++ one.0) (sym (append-nil a) ∙ ap (λ (cs : List ℕ). a ++ cs) (sym none))) (p.from one.0 one.1))
    ]
    | inr one ↦ inr (one.0, subst K (sym (encodes_both a b one.0)) (p.from (encode_utf8_all b ++ one.0) one.1))
  ];
  none_further = λ text shares old.
      let P : ℕ → Type 0 = λ n. Shares n (encode_utf8_all a ++ rest) text in
      let ahead = shares_ahead a (length b) rest text (subst P (length-append a b) shares) in
      q.none_further ahead.0 ahead.2 (p.to ahead.0 (shares_some (length b) rest ahead.0 ahead.2) (subst K ahead.1 old));
}

-- ---- the longest front of a text

abbrev pub IsFaulty : (List ℕ → Type 0) → List ℕ → List ℕ → Type 0
IsFaulty L text front = (L text → ⊥) × IsLongest L text front

pub stalled : (L : List ℕ → Type 0) (text front some : List ℕ) → IsUtf8 text → L some → Stalls L text front → IsFaulty L text front
stalled L text front some utf8 one s = (
  s.none_further text (shares_whole (length front) utf8.0 text (sym utf8.1.1)),
  record {
    rest = s.more;
    stands = s.stands;
    begins = elim s.begins [
      | inl none ↦ (some, subst L (ap (λ (cs : List ℕ). encode_utf8_all cs ++ some) (sym none)) one)
      | inr other ↦ other
    ];
    longest = λ longer more there begun.
        elim (leb_tells (length longer) (length front)) [
          | inl is ↦ is.1
          | inr is ↦ absurd (s.none_further (encode_utf8_all longer ++ begun.0)
              (record { front = longer; more = more; odd = begun.0; stands = there; others = refl; enough = inl (omega (arith, is.1)) }) begun.1)
        ];
  },
)

-- ---- what is taken, and what is missed

taken_short : (L : List ℕ → Type 0) (front taken text rest : List ℕ) → Stops L front rest → L (encode_utf8_all taken) → Longer front rest taken text → (front ≡ taken) × (rest ≡ text)
taken_short L front taken text rest stops one (([], e, r)) = (sym (append-nil front) ∙ sym e, r)
taken_short L front taken text rest stops one ((c ∷ cs, e, r)) =
    absurd (stops c (encode_utf8_all cs ++ text) (encode_utf8_all cs) (r ∙ append_assoc (encode_utf8 c) (encode_utf8_all cs) text)
    (subst L (ap encode_utf8_all e ∙ encodes-append front (c ∷ cs)) one))

-- another text of the language, which goes on so, isn't shorter or longer than the longest
pub taken_once : (L : List ℕ → Type 0) (all taken rest text front others : List ℕ) → IsLongest L all taken → L (encode_utf8_all taken) → all ≡ encode_utf8_all taken ++ rest → Shares 0 rest text →
    L (encode_utf8_all front) → Stops L front others → encode_utf8_all taken ++ text ≡ encode_utf8_all front ++ others → (front ≡ taken) × (others ≡ text)
taken_once L all taken rest text front others longest one stands shares other stops e =
    elim (splits front others taken text (sym e)) [
      | inl p ↦ taken_short L front taken text others stops one p
      | inr q ↦ absurd (further q shares.front shares.stands shares.others shares.enough)
    ]
  where
    further : Shorter front others taken text → (f : List ℕ) → rest ≡ encode_utf8_all f ++ shares.more → text ≡ encode_utf8_all f ++ shares.odd → (0 < length f) ⊎ ((shares.more ≡ []) × (shares.odd ≡ [])) → ⊥
    further q [] r t (inl some) = omega (arith, some)
    further q [] r t (inr none) = some_bytes q.0 (encode_utf8_all q.1 ++ others) (sym q.3 ∙ t ∙ none.1)
    further q (d ∷ f) r t enough =
        let same : d ≡ q.0 = (encode_same d q.0 (encode_utf8_all f ++ shares.odd) (encode_utf8_all q.1 ++ others) (sym (append_assoc (encode_utf8 d) (encode_utf8_all f) shares.odd) ∙ sym t ∙ q.3)).0 in
        let there : all ≡ encode_utf8_all (taken ++ q.0 ∷ []) ++ (encode_utf8_all f ++ shares.more) =
        stands ∙ ap (λ (bs : List ℕ). encode_utf8_all taken ++ bs) (r ∙ append_assoc (encode_utf8 d) (encode_utf8_all f) shares.more)
        ∙ ap (λ (c : ℕ). encode_utf8_all taken ++ (encode_utf8 c ++ (encode_utf8_all f ++ shares.more))) same
        ∙ sym (behind_one taken q.0 [] (encode_utf8_all f ++ shares.more)) in
        let begun : Begins L (taken ++ q.0 ∷ []) =
        (encode_utf8_all q.1, subst L (ap encode_utf8_all q.2 ∙ encodes-append taken (q.0 ∷ q.1) ∙ sym (behind_one taken q.0 [] (encode_utf8_all q.1))) other) in
        omega (arith, longest.longest (taken ++ q.0 ∷ []) (encode_utf8_all f ++ shares.more) there begun, length-append taken (q.0 ∷ []))

-- where the longest front is none, no text that is the same further has one of the language
pub missed : (L : List ℕ → Type 0) (all front text one others : List ℕ) → IsLongest L all front → (L (encode_utf8_all front) → ⊥) → Shares (length front) all text →
    L (encode_utf8_all one) → Stops L one others → text ≡ encode_utf8_all one ++ others → ⊥
missed L all front text one others longest none shares is stops e =
    elim (splits one others shares.front shares.odd (sym e ∙ shares.others)) [
      | inl p ↦ inside p
      | inr q ↦ elim shares.enough [
        | inl more ↦ omega (
          arith,
          more,
          longest.longest shares.front shares.more shares.stands
              (encode_utf8 q.0 ++ encode_utf8_all q.1, subst L (ap encode_utf8_all q.2 ∙ encodes-append shares.front (q.0 ∷ q.1)) is),
        )
        | inr whole ↦ some_bytes q.0 (encode_utf8_all q.1 ++ others) (sym q.3 ∙ whole.1)
      ]
    ]
  where
    nil_is : L (encode_utf8_all one ++ [])
    nil_is = subst L (sym (append-nil (encode_utf8_all one))) is

    by_cases : (ds es : List ℕ) → shares.front ≡ one ++ ds → others ≡ encode_utf8_all ds ++ shares.odd → length one ≤ length front → front ≡ one ++ es → encode_utf8_all ds ++ shares.more ≡ encode_utf8_all es ++ longest.rest → ⊥
    by_cases ds [] f o short is_front r = none (subst L (ap encode_utf8_all (sym (append-nil one) ∙ sym is_front)) is)
    by_cases [] (c ∷ es) f o short is_front r = elim shares.enough [
      | inl more ↦ omega (arith, more, ap length f, length-append one [], short)
      | inr whole ↦ some_bytes c (encode_utf8_all es ++ longest.rest) (sym (append_assoc (encode_utf8 c) (encode_utf8_all es) longest.rest) ∙ sym r ∙ whole.0)
    ]
    by_cases (d ∷ ds) (c ∷ es) f o short is_front r =
        let same : d ≡ c = (encode_same d c (encode_utf8_all ds ++ shares.more) (encode_utf8_all es ++ longest.rest) (sym (append_assoc (encode_utf8 d) (encode_utf8_all ds) shares.more) ∙ r ∙ append_assoc (encode_utf8 c) (encode_utf8_all es) longest.rest)).0 in
        stops c (encode_utf8_all ds ++ shares.odd) (encode_utf8_all es ++ longest.begins.0)
        (o ∙ append_assoc (encode_utf8 d) (encode_utf8_all ds) shares.odd ∙ ap (λ (x : ℕ). encode_utf8 x ++ (encode_utf8_all ds ++ shares.odd)) same)
        (subst L (ap (λ (cs : List ℕ). encode_utf8_all cs ++ longest.begins.0) is_front ∙ behind_one one c es longest.begins.0) longest.begins.1)

    inside : Longer one others shares.front shares.odd → ⊥
    inside p =
        let there : all ≡ encode_utf8_all one ++ (encode_utf8_all p.0 ++ shares.more) = shares.stands ∙ ap (λ (cs : List ℕ). encode_utf8_all cs ++ shares.more) p.1 ∙ encodes_both one p.0 shares.more in
        let short = longest.longest one (encode_utf8_all p.0 ++ shares.more) there ([], nil_is) in
        elim (splits one (encode_utf8_all p.0 ++ shares.more) front longest.rest (sym there ∙ longest.stands)) [
          | inl es ↦ by_cases p.0 es.0 p.1 p.2 short es.1 es.2
          | inr q ↦ omega (arith, short, ap length q.2, length-append front (q.0 ∷ q.1))
        ]
