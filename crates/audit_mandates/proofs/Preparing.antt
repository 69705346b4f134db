-- The values of the words tell what was prepared.
use Rattle.std.proofs.Common.{◌≡◌, ◌⊎◌, inl, inr, Bool, true, false, List, [], ◌∷◌, ◌++◌, refl, sym, ap, subst, ◌∙◌}
use Rattle.std.specs.Prelude.{◌&&◌, ◌||◌}
use Rattle.std.proofs.lemmas.Bool.{and_parts}
use Rattle.post_spec.specs.Kinds.{is_negotiation, is_of, any, says_finished, asks_setup, asks_services, asks_payment, asks_parameters, asks_cable_check}
use Rattle.post_spec.specs.Prepared.{Has, HasNo, set_up, powered, renegotiates, IsPrepared}
use Rattle.post_spec.specs.Talk.{Exchange}
use Rattle.audit_mandates.specs.declared.preparation.Preparation.{Preparation}
use Rattle.audit_mandates.specs.Preparing.{prepared, is_prepared}

pub differ : false ≡ true → ⊥
differ h = cc

pub by_or : (a b : Bool) → (a || b) ≡ true → (a ≡ true) ⊎ (b ≡ true)
by_or true b is = inl refl
by_or false b is = inr is

pub or_first : (a b : Bool) → a ≡ true → (a || b) ≡ true
or_first true b is = refl
or_first false b is = cc

pub or_second : (a b : Bool) → b ≡ true → (a || b) ≡ true
or_second true b is = refl
or_second false b is = is

pub and_both : (a b : Bool) → a ≡ true → b ≡ true → (a && b) ≡ true
and_both true b h k = k
and_both false b h k = cc

-- ---- words in an order, as a test

abbrev has : List (Exchange → Bool) → List Exchange → Bool
has [] xs = true
has (kind ∷ kinds) [] = false
has (kind ∷ kinds) (x ∷ xs) = (kind x && has kinds xs) || has (kind ∷ kinds) xs

has_told : (kinds : List (Exchange → Bool)) (xs : List Exchange) → has kinds xs ≡ true → Has kinds xs
has_told [] xs is = tt
has_told (kind ∷ kinds) [] is = absurd (differ is)
has_told (kind ∷ kinds) (x ∷ xs) is =
    elim (by_or (kind x && has kinds xs) (has (kind ∷ kinds) xs) is) [
      | inl here ↦ (let parts = and_parts (kind x) (has kinds xs) here in inl (parts.0, has_told kinds xs parts.1))
      | inr there ↦ inr (has_told (kind ∷ kinds) xs there)
    ]

has_back : (kinds : List (Exchange → Bool)) (xs : List Exchange) → Has kinds xs → has kinds xs ≡ true
has_back [] xs is = refl
has_back (kind ∷ kinds) [] is = absurd is
has_back (kind ∷ kinds) (x ∷ xs) (inl here) =
    or_first (kind x && has kinds xs) (has (kind ∷ kinds) xs) (and_both (kind x) (has kinds xs) here.0 (has_back kinds xs here.1))
has_back (kind ∷ kinds) (x ∷ xs) (inr there) =
    or_second (kind x && has kinds xs) (has (kind ∷ kinds) xs) (has_back (kind ∷ kinds) xs there)

-- ---- the words of the setup

record IsSetUp (xs : List Exchange) (p : Preparation) : Type 0 where
  negotiated_is : p.negotiated ≡ has (is_negotiation ∷ []) xs
  set_up_is : p.set_up ≡ has (is_of asks_setup any ∷ is_negotiation ∷ []) xs
  discovered_is : p.discovered ≡ has (is_of asks_services any ∷ is_of asks_setup any ∷ is_negotiation ∷ []) xs
  selected_is : p.selected ≡ has (is_of asks_payment any ∷ is_of asks_services any ∷ is_of asks_setup any ∷ is_negotiation ∷ []) xs
  authorized_is : p.authorized ≡ has set_up xs

setup_told : (xs : List Exchange) → IsSetUp xs (prepared xs)
setup_told [] = record { negotiated_is = refl; set_up_is = refl; discovered_is = refl; selected_is = refl; authorized_is = refl }
setup_told (x ∷ xs) =
    let h = setup_told xs in
    record {
      negotiated_is = rw h.negotiated_is refl;
      set_up_is = rw (h.negotiated_is, h.set_up_is) refl;
      discovered_is = rw (h.set_up_is, h.discovered_is) refl;
      selected_is = rw (h.discovered_is, h.selected_is) refl;
      authorized_is = rw (h.selected_is, h.authorized_is) refl;
    }

-- ---- without a renegotiation

record IsFirst (xs : List Exchange) (p : Preparation) : Type 0 where
  none : p.renegotiated ≡ false
  parametrized : p.parametrized ≡ has (is_of asks_parameters says_finished ∷ set_up) xs
  checked : p.checked ≡ has (is_of asks_cable_check says_finished ∷ is_of asks_parameters says_finished ∷ set_up) xs
  pre_charged : p.pre_charged ≡ has (powered false set_up) xs

first_told : (xs : List Exchange) → HasNo renegotiates xs → IsFirst xs (prepared xs)
first_told [] none = record { none = refl; parametrized = refl; checked = refl; pre_charged = refl }
first_told (x ∷ xs) none =
    let h = first_told xs none.1 in
    let s = setup_told xs in
    let here : renegotiates x ≡ false = none.0 in
    record {
      none = rw (here, h.none) refl;
      parametrized = rw (here, h.none, s.authorized_is, h.parametrized) refl;
      checked = rw (here, h.parametrized, h.checked) refl;
      pre_charged = rw (here, h.checked, h.pre_charged) refl;
    }

-- ---- behind the last renegotiation

record IsAnew (round earlier : List Exchange) (p : Preparation) : Type 0 where
  renegotiated : p.renegotiated ≡ true
  before : p.authorized_before ≡ has set_up earlier
  parametrized : p.parametrized ≡ has (is_of asks_parameters says_finished ∷ []) round
  checked : p.checked ≡ has (is_of asks_cable_check says_finished ∷ is_of asks_parameters says_finished ∷ []) round
  pre_charged : p.pre_charged ≡ has (powered false []) round

anew_told : (round : List Exchange) (x : Exchange) (earlier : List Exchange) → renegotiates x ≡ true → HasNo renegotiates round → IsAnew round earlier (prepared (round ++ x ∷ earlier))
anew_told [] x earlier is none =
    let s = setup_told earlier in
    record { renegotiated = rw is refl; before = rw (is, s.authorized_is) refl; parametrized = rw is refl; checked = rw is refl; pre_charged = rw is refl }
anew_told (y ∷ round) x earlier is none =
    let h = anew_told round x earlier is none.1 in
    let here : renegotiates y ≡ false = none.0 in
    record {
      renegotiated = rw (here, h.renegotiated) refl;
      before = rw (here, h.before) refl;
      parametrized = rw (here, h.renegotiated, h.parametrized) refl;
      checked = rw (here, h.parametrized, h.checked) refl;
      pre_charged = rw (here, h.checked, h.pre_charged) refl;
    }

-- ---- where the last renegotiation is

record Split (xs : List Exchange) : Type 0 where
  round : List Exchange
  x : Exchange
  earlier : List Exchange
  xs_are : xs ≡ round ++ x ∷ earlier
  is : renegotiates x ≡ true
  last : HasNo renegotiates round

split_by : (b : Bool) (x : Exchange) (xs : List Exchange) → renegotiates x ≡ b → HasNo renegotiates xs ⊎ Split xs → HasNo renegotiates (x ∷ xs) ⊎ Split (x ∷ xs)
split_by true x xs is later = inr (record { round = []; x = x; earlier = xs; xs_are = refl; is = is; last = tt })
split_by false x xs is (inl none) = inl (is, none)
split_by false x xs is (inr s) =
    inr (record { round = x ∷ s.round; x = s.x; earlier = s.earlier; xs_are = ap (λ (t : List Exchange). x ∷ t) s.xs_are; is = s.is; last = (is, s.last) })

split : (xs : List Exchange) → HasNo renegotiates xs ⊎ Split xs
split [] = inl tt
split (x ∷ xs) = split_by (renegotiates x) x xs refl (split xs)

-- ---- both together

-- what is prepared without a renegotiation, and behind the last one
whole_first : (ac : Bool) (xs : List Exchange) (p : Preparation) → IsFirst xs p → is_prepared ac p ≡ has (powered ac set_up) xs
whole_first true xs p h = rw (h.none, h.parametrized) refl
whole_first false xs p h = rw (h.none, h.pre_charged) refl

whole_anew : (ac : Bool) (round earlier : List Exchange) (p : Preparation) → IsAnew round earlier p → is_prepared ac p ≡ (has set_up earlier && has (powered ac []) round)
whole_anew true round earlier p h = rw (h.renegotiated, h.before, h.parametrized) refl
whole_anew false round earlier p h = rw (h.renegotiated, h.before, h.pre_charged) refl

told_by_split : (ac : Bool) (xs : List Exchange) → HasNo renegotiates xs ⊎ Split xs → is_prepared ac (prepared xs) ≡ true → IsPrepared ac xs
told_by_split ac xs (inl none) is = inl (none, has_told (powered ac set_up) xs (sym (whole_first ac xs (prepared xs) (first_told xs none)) ∙ is))
told_by_split ac xs (inr s) is =
    let values = subst (λ (t : List Exchange). IsAnew s.round s.earlier (prepared t)) (sym s.xs_are) (anew_told s.round s.x s.earlier s.is s.last) in
    let parts = and_parts (has set_up s.earlier) (has (powered ac []) s.round) (sym (whole_anew ac s.round s.earlier (prepared xs) values) ∙ is) in
    inr (record {
      round = s.round;
      renegotiation = s.x;
      earlier = s.earlier;
      xs_are = s.xs_are;
      renegotiates_is = s.is;
      last = s.last;
      power = has_told (powered ac []) s.round parts.1;
      setup = has_told set_up s.earlier parts.0;
    })

pub prepared_told : (ac : Bool) (xs : List Exchange) → is_prepared ac (prepared xs) ≡ true → IsPrepared ac xs
prepared_told ac xs is = told_by_split ac xs (split xs) is

pub prepared_back : (ac : Bool) (xs : List Exchange) → IsPrepared ac xs → is_prepared ac (prepared xs) ≡ true
prepared_back ac xs (inl h) = whole_first ac xs (prepared xs) (first_told xs h.0) ∙ has_back (powered ac set_up) xs h.1
prepared_back ac xs (inr r) =
    let values = subst (λ (t : List Exchange). IsAnew r.round r.earlier (prepared t)) (sym r.xs_are) (anew_told r.round r.renegotiation r.earlier r.renegotiates_is r.last) in
    whole_anew ac r.round r.earlier (prepared xs) values
    ∙ and_both (has set_up r.earlier) (has (powered ac []) r.round) (has_back set_up r.earlier r.setup) (has_back (powered ac []) r.round r.power)
