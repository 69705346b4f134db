-- ISO 15118-2:2014, 8.2.2: of an offer's entries, whose SchemaID and Priority count its dialects, the winner is the first that is offered.
use Rattle.std.proofs.Common.{◌≡◌, ℕ, ◌+◌, ◌<◌, ◌≤◌, ◌==◌, Bool, true, false, if◌then◌else◌, List, [], ◌∷◌, ◌++◌, length, inl, inr, All, Contains, Option, Some, refl, sym, ap, ap₂, subst, ◌∙◌, arith}
use Rattle.std.proofs.lemmas.Bool.{eq-eqb, ne_eqb}
use Rattle.std.proofs.lemmas.List.Elements.{All-nil, All-cons, All-head, All-tail, All-contains, Contains-append_cases}
use Rattle.charge_world.specs.declared.offer.Dialect.{Dialect}
use Rattle.charge_world.specs.declared.offer.Dialect.TheVariants.{Iso, Din}
use Rattle.app_documents.specs.Trees.{Offered}
use Rattle.app_protocol.specs.Negotiation.{namespace_of, NoMatch, IsAbove}
use Rattle.car_codecs.specs.Offering.{entry_at, entries_from}
use Rattle.car_codecs.specs.Responding.{named_from}
use Rattle.pair_negotiation.specs.Agreeing.{IsForeign}

-- ---- lists

first_is : {x y : Offered} {xs ys : List Offered} → x ∷ xs ≡ y ∷ ys → x ≡ y
first_is same = cc

rest_is : {x y : Offered} {xs ys : List Offered} → x ∷ xs ≡ y ∷ ys → xs ≡ ys
rest_is same = cc

of_one : (d e : Dialect) → Contains (d ∷ []) e → e ≡ d
of_one d e there = All-contains (λ (x : Dialect). x ≡ d) (d ∷ []) e (All-cons (λ (x : Dialect). x ≡ d) d [] refl (All-nil (λ (x : Dialect). x ≡ d))) there

taken : (b : Bool) (x : Dialect) (rest : Option Dialect) → b ≡ true → (if b then Some x else rest) ≡ Some x
taken true x rest is = refl
taken false x rest is = absurd cc

skipped : (b : Bool) (x : Dialect) (rest : Option Dialect) → b ≡ false → (if b then Some x else rest) ≡ rest
skipped true x rest is = absurd cc
skipped false x rest is = refl

-- ---- where an entry stands

abbrev pub IsBelow : ℕ → Offered → Type 0
IsBelow number p = p.priority < number

-- the entry behind these, of dialects of which the first has this place
pub record IsPlaced (place : ℕ) (ds : List Dialect) (p : Offered) (before : List Offered) : Type 0 where
  pub front : List Dialect
  pub dialect : Dialect
  pub rest : List Dialect
  pub dialects_are : ds ≡ front ++ dialect ∷ rest
  pub before_is : before ≡ entries_from place front
  pub number : ℕ
  pub entry_is : p ≡ entry_at number dialect
  pub from : place ≤ number
  pub below : All (IsBelow number) before
  pub named : named_from place ds number ≡ Some dialect

further : (place : ℕ) (d : Dialect) (ds : List Dialect) (p b : Offered) (bs : List Offered) → entry_at place d ≡ b → IsPlaced (place + 1) ds p bs
    → IsPlaced place (d ∷ ds) p (b ∷ bs)
further place d ds p b bs same i =
    let far : place + 1 ≤ i.number = i.from in
    let low : place < i.number = omega (arith, far) in
    record {
      front = d ∷ i.front;
      dialect = i.dialect;
      rest = i.rest;
      dialects_are = ap (λ (xs : List Dialect). d ∷ xs) i.dialects_are;
      before_is = ap₂ (λ (x : Offered) (xs : List Offered). x ∷ xs) (sym same) i.before_is;
      number = i.number;
      entry_is = i.entry_is;
      from = omega (arith, far);
      below = All-cons (IsBelow i.number) b bs (subst (IsBelow i.number) same low) i.below;
      named = skipped (i.number == place) d (named_from (place + 1) ds i.number) (ne_eqb i.number place (λ e. absurd (omega (arith, low, e)))) ∙ i.named;
    }

pub placed : (place : ℕ) (ds : List Dialect) (p : Offered) (before behind : List Offered) → entries_from place ds ≡ before ++ p ∷ behind
    → IsPlaced place ds p before
placed place [] p [] behind same = absurd cc
placed place [] p (b ∷ bs) behind same = absurd cc
placed place (d ∷ ds) p [] behind same = record {
  front = [];
  dialect = d;
  rest = ds;
  dialects_are = refl;
  before_is = refl;
  number = place;
  entry_is = sym (first_is same);
  from = omega arith;
  below = All-nil (IsBelow place);
  named = taken (place == place) d (named_from (place + 1) ds place) (eq-eqb place place refl);
}
placed place (d ∷ ds) p (b ∷ bs) behind same = further place d ds p b bs (first_is same) (placed (place + 1) ds p bs behind (rest_is same))

-- ---- what the entries before the winner are

pub all_foreign : (offers : List Dialect) (number place : ℕ) (front : List Dialect) → All (IsAbove offers number) (entries_from place front)
    → All (IsBelow number) (entries_from place front) → All (IsForeign offers) front
all_foreign offers number place [] above below = All-nil (IsForeign offers)
all_foreign offers number place (d ∷ ds) above below =
    let low : place < number = All-head (IsBelow number) (entry_at place d) (entries_from (place + 1) ds) below in
    let high : IsAbove offers number (entry_at place d) = All-head (IsAbove offers number) (entry_at place d) (entries_from (place + 1) ds) above in
    All-cons (IsForeign offers) d ds
    (λ offered. let up : number < place = high d record { offered = offered; named = record { namespace = refl; major = refl } } in absurd (omega (arith, low, up)))
    (all_foreign offers number (place + 1) ds (All-tail (IsAbove offers number) (entry_at place d) (entries_from (place + 1) ds) above)
    (All-tail (IsBelow number) (entry_at place d) (entries_from (place + 1) ds) below))

-- some entry matches, where both speak some dialect
pub some_match : (offers : List Dialect) (place : ℕ) (ds : List Dialect) (shared : Dialect) → Contains offers shared → Contains ds shared
    → All (NoMatch offers) (entries_from place ds) → ⊥
some_match offers place [] shared offered there none = let few : there.0 < 0 = there.1 in absurd (omega (arith, few))
some_match offers place (d ∷ ds) shared offered there none = elim (Contains-append_cases (d ∷ []) ds shared there) [
  | inl first ↦
      All-head (NoMatch offers) (entry_at place d) (entries_from (place + 1) ds) none shared
      record { offered = offered; named = record { namespace = ap namespace_of (sym (of_one d shared first)); major = refl } }
  | inr behind ↦ some_match offers (place + 1) ds shared offered behind (All-tail (NoMatch offers) (entry_at place d) (entries_from (place + 1) ds) none)
]

pub one_namespace : (d e : Dialect) → namespace_of d ≡ namespace_of e → d ≡ e
one_namespace Iso Iso same = refl
one_namespace Din Din same = refl
one_namespace Iso Din same = let wrong : length (namespace_of Iso) ≡ length (namespace_of Din) = ap length same in absurd (omega (arith, wrong))
one_namespace Din Iso same = let wrong : length (namespace_of Din) ≡ length (namespace_of Iso) = ap length same in absurd (omega (arith, wrong))
