-- ISO 15118-2:2014 section 8.2.2: each request has an answer.
use Rattle.std.proofs.Common.{◌≡◌, ℕ, ◌<◌, ◌≤◌, List, [], ◌∷◌, ◌++◌, ◌⊎◌, inl, inr, All, Contains, Option, Some, None, refl, sym, ap, ap₂, subst, arith}
use Rattle.std.specs.List.{AllByRecursion}
use Rattle.std.proofs.lemmas.Bool.{cases_eq, cases_lt}
use Rattle.std.proofs.lemmas.List.Elements.{All-from_recursion, All-nil, All-cons, All-append, All-weaker, All-contains, Contains-append_right, Contains-append_cases}
use Rattle.charge_world.specs.declared.offer.Dialect.{Dialect}
use Rattle.app_documents.specs.Trees.{IsOffered, IsByte}
use Rattle.app_protocol.specs.declared.message.AppCode.TheVariants as code
use Rattle.app_protocol.specs.declared.message.AppRes.{AppRes}
use Rattle.app_protocol.specs.Messages.{Protocol}
use Rattle.app_protocol.specs.Negotiation.{namespace_of, major_of, Names, Matches, NoMatch, IsAbove, IsFrom, IsChosen, Negotiates}
use Rattle.site_codec_laws.proofs.OneAnswer.{there, response}

-- ---- whether an entry names a dialect on offer

same_or_not : (xs ys : List ℕ) → (xs ≡ ys) ⊎ (xs ≡ ys → ⊥)
same_or_not [] [] = inl refl
same_or_not [] (y ∷ ys) = inr (λ same. absurd cc)
same_or_not (x ∷ xs) [] = inr (λ same. absurd cc)
same_or_not (x ∷ xs) (y ∷ ys) = elim (cases_eq x y) [
  | inl first ↦ elim (same_or_not xs ys) [
    | inl rest ↦ inl (ap₂ (λ (z : ℕ) (zs : List ℕ). z ∷ zs) first rest)
    | inr other ↦ inr (λ same. other cc)
  ]
  | inr other ↦ inr (λ same. other cc)
]

named_or_not : (p : Protocol) (d : Dialect) → Names p d ⊎ (Names p d → ⊥)
named_or_not p d = elim (same_or_not p.namespace (namespace_of d)) [
  | inl namespace ↦ elim (cases_eq p.major (major_of d)) [
    | inl major ↦ inl record { namespace = namespace; major = major }
    | inr other ↦ inr (λ n. other n.major)
  ]
  | inr other ↦ inr (λ n. other n.namespace)
]

abbrev IsMatched : List Dialect → Protocol → Type 0
IsMatched offer p = ((d : Dialect) × Matches offer p d) ⊎ NoMatch offer p

of_one : (d e : Dialect) → Contains (d ∷ []) e → e ≡ d
of_one d e there = All-contains (λ (x : Dialect). x ≡ d) (d ∷ []) e (All-cons (λ (x : Dialect). x ≡ d) d [] refl (All-nil (λ (x : Dialect). x ≡ d))) there

neither : (d : Dialect) (offer : List Dialect) (p : Protocol) → (Names p d → ⊥) → NoMatch offer p → NoMatch (d ∷ offer) p
neither d offer p other none e m = elim (Contains-append_cases (d ∷ []) offer e m.offered) [
  | inl first ↦ other (subst (Names p) (of_one d e first) m.named)
  | inr behind ↦ none e record { offered = behind; named = m.named }
]

behind_dialect : (d : Dialect) (offer : List Dialect) (p : Protocol) → (Names p d → ⊥) → IsMatched offer p → IsMatched (d ∷ offer) p
behind_dialect d offer p other (inl m) =
    inl (m.0, record { offered = Contains-append_right (d ∷ []) offer m.0 m.1.offered; named = m.1.named })
behind_dialect d offer p other (inr none) = inr (neither d offer p other none)

match_of : (offer : List Dialect) (p : Protocol) → IsMatched offer p
match_of [] p = inr (λ d m. let few : m.offered.0 < 0 = m.offered.1 in absurd (omega (arith, few)))
match_of (d ∷ offer) p = elim (named_or_not p d) [
  | inl named ↦ inl (d, record { offered = (0, omega arith, refl); named = named })
  | inr other ↦ behind_dialect d offer p other (match_of offer p)
]

-- ---- the winning entry

record IsWon (offer : List Dialect) (request : List Protocol) : Type 0 where
  pub entry : Protocol
  pub dialect : Dialect
  pub chosen : IsChosen offer request entry dialect

abbrev IsDecided : List Dialect → List Protocol → Type 0
IsDecided offer request = All (NoMatch offer) request ⊎ IsWon offer request

-- one entry before those of the winner, which stays
stays : (offer : List Dialect) (p : Protocol) (ps : List Protocol) (won : IsWon offer ps) → IsAbove offer won.entry.priority p → IsWon offer (p ∷ ps)
stays offer p ps won above =
    let c = won.chosen in
    record {
      entry = won.entry;
      dialect = won.dialect;
      chosen = record {
        before = p ∷ c.before;
        behind = c.behind;
        request_is = ap (λ (qs : List Protocol). p ∷ qs) c.request_is;
        matches = c.matches;
        earlier = All-cons (IsAbove offer won.entry.priority) p c.before above c.earlier;
        later = c.later;
      };
    }

-- one that wins
wins : (offer : List Dialect) (p : Protocol) (ps : List Protocol) (d : Dialect) → Matches offer p d → All (IsFrom offer p.priority) ps → IsWon offer (p ∷ ps)
wins offer p ps d m from = record {
  entry = p;
  dialect = d;
  chosen = record {
    before = [];
    behind = ps;
    request_is = refl;
    matches = m;
    earlier = All-nil (IsAbove offer p.priority);
    later = from;
  };
}

all_from : (offer : List Dialect) (ps : List Protocol) (n : ℕ) (won : IsWon offer ps) → n ≤ won.entry.priority → All (IsFrom offer n) ps
all_from offer ps n won most =
    let c = won.chosen in
    let before : All (IsFrom offer n) c.before =
    All-weaker (IsAbove offer won.entry.priority) (IsFrom offer n) (λ q h d m. omega (arith, most, h d m)) c.before c.earlier in
    let behind : All (IsFrom offer n) c.behind =
    All-weaker (IsFrom offer won.entry.priority) (IsFrom offer n) (λ q h d m. omega (arith, most, h d m)) c.behind c.later in
    let all : All (IsFrom offer n) (c.before ++ won.entry ∷ c.behind) =
    All-append (IsFrom offer n) c.before (won.entry ∷ c.behind) before (All-cons (IsFrom offer n) won.entry c.behind (λ d m. most) behind) in
    subst (λ (qs : List Protocol). All (IsFrom offer n) qs) (sym c.request_is) all

with_entry : (offer : List Dialect) (p : Protocol) (ps : List Protocol) → IsMatched offer p → IsDecided offer ps → IsDecided offer (p ∷ ps)
with_entry offer p ps (inl m) (inl none) =
    inr (wins offer p ps m.0 m.1 (All-weaker (NoMatch offer) (IsFrom offer p.priority) (λ q unlike d n. absurd (unlike d n)) ps none))
with_entry offer p ps (inl m) (inr won) = elim (cases_lt won.entry.priority p.priority) [
  | inl lower ↦ inr (stays offer p ps won (λ d n. lower))
  | inr most ↦ inr (wins offer p ps m.0 m.1 (all_from offer ps p.priority won most))
]
with_entry offer p ps (inr unlike) (inl none) = inl (All-cons (NoMatch offer) p ps unlike none)
with_entry offer p ps (inr unlike) (inr won) = inr (stays offer p ps won (λ d n. absurd (unlike d n)))

decided : (offer : List Dialect) (request : List Protocol) → IsDecided offer request
decided offer [] = inl (All-nil (NoMatch offer))
decided offer (p ∷ ps) = with_entry offer p ps (match_of offer p) (decided offer ps)

-- ---- the answer, of which a SchemaID is one of the request's

pub record IsAnswered (offer : List Dialect) (request : List Protocol) : Type 0 where
  pub answer : AppRes
  pub chosen : Option Dialect
  pub negotiates : Negotiates offer request answer chosen
  pub schema_fits : IsByte answer.schema

answered : (offer : List Dialect) (request : List Protocol) → AllByRecursion (λ p. IsOffered p) request → IsDecided offer request → IsAnswered offer request
answered offer request fit (inl none) = record {
  answer = record { code = code.Failed; schema = None };
  chosen = None;
  negotiates = (none, refl);
  schema_fits = tt;
}
answered offer request fit (inr won) =
    let c = won.chosen in
    let among : Contains request won.entry = subst (λ (ps : List Protocol). Contains ps won.entry) (sym c.request_is) (there c.before c.behind won.entry) in
    let fits : IsOffered won.entry = All-contains (λ p. IsOffered p) request won.entry (All-from_recursion (λ p. IsOffered p) request fit) among in
    record {
      answer = response won.entry won.dialect;
      chosen = Some won.dialect;
      negotiates = (won.entry, c, refl);
      schema_fits = fits.schema_fits;
    }

pub each_answer : (offer : List Dialect) (request : List Protocol) → AllByRecursion (λ p. IsOffered p) request → IsAnswered offer request
each_answer offer request fit = answered offer request fit (decided offer request)
