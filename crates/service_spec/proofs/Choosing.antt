-- Going over lists of parameters, of pairs and of sets, one after another.
use Rattle.std.proofs.Common.{◌≡◌, ◌↔◌, IsTrue, true, false, ℕ, zero, suc, ◌+◌, ◌<◌, ◌≤◌, ℤ, List, [], ◌∷◌, length, map, drop, get_or, ◌⊎◌, inl, inr, refl, sym, ap, subst, ◌∙◌, arith}
use Rattle.std.specs.List.{Any}
use Rattle.std.proofs.lemmas.Bool.{false≢true}
use Rattle.std.proofs.lemmas.List.{drop_more, drop_all}
use Rattle.std.proofs.lemmas.List.Elements.{All-nil, All-cons, All-head, All-tail}
use Rattle.service_spec.specs.Services.{Said, SaidSet, Meets, IsMet, Fits, IsPicked, PicksNone}

-- ---- some element

any_none : {A : Type 0} (P : A → Type 0) → Any P [] → ⊥
any_none P h = omega (arith, h.2)

any_first : {A : Type 0} (P : A → Type 0) (x : A) (xs : List A) → P x → Any P (x ∷ xs)
any_first P x xs h = (0, x, omega arith, refl, h)

any_more : {A : Type 0} (P : A → Type 0) (x : A) (xs : List A) → Any P xs → Any P (x ∷ xs)
any_more P x xs h = (suc h.0, h.1, omega (arith, h.2), h.3, h.4)

any_at : {A : Type 0} (P : A → Type 0) (x : A) (xs : List A) (k : ℕ) (y : A) → k < length (x ∷ xs) → get_or (x ∷ xs) k y ≡ y → P y → P x ⊎ Any P xs
any_at P x xs zero y lt is h = inl (subst P (sym is) h)
any_at P x xs (suc k) y lt is h = inr (k, y, omega (arith, lt), is, h)

any_cases : {A : Type 0} (P : A → Type 0) (x : A) (xs : List A) → Any P (x ∷ xs) → P x ⊎ Any P xs
any_cases P x xs h = any_at P x xs h.0 h.1 h.2 h.3 h.4

-- ---- what is left of a list

module _ {X Y : Type 0} (f : X → Y) (xs : List X) (i : ℕ) where
  left : (x d : X) → i < length xs → x ≡ get_or xs i d → map f (drop i xs) ≡ f x ∷ map f (drop (i + 1) xs)
  left x d lt is = ap (map f) (drop_more xs i d lt) ∙ ap (λ (y : X). f y ∷ map f (drop (i + 1) xs)) (sym is)

  none_left : length xs ≤ i → map f (drop i xs) ≡ []
  none_left le = ap (map f) (drop_all i xs le)

-- ---- parameters

module _ {X : Type 0} (f : X → Said) (xs : List X) (i : ℕ) (pair : Said) where
  pub met_here : (x d : X) → i < length xs → x ≡ get_or xs i d → Meets pair (f x) → IsMet (map f (drop i xs)) pair
  met_here x d lt is h = subst (λ (ps : List Said). IsMet ps pair) (sym (left f xs i x d lt is)) (any_first (Meets pair) (f x) (map f (drop (i + 1) xs)) h)

  pub met_later : (x d : X) → i < length xs → x ≡ get_or xs i d → (Meets pair (f x) → ⊥) → IsMet (map f (drop i xs)) pair → IsMet (map f (drop (i + 1) xs)) pair
  met_later x d lt is missing h =
      let cases = any_cases (Meets pair) (f x) (map f (drop (i + 1) xs)) (subst (λ (ps : List Said). IsMet ps pair) (left f xs i x d lt is) h) in
      elim cases [ inl met ↦ absurd (missing met) | inr more ↦ more ]

  pub met_sooner : (x d : X) → i < length xs → x ≡ get_or xs i d → IsMet (map f (drop (i + 1) xs)) pair → IsMet (map f (drop i xs)) pair
  met_sooner x d lt is h = subst (λ (ps : List Said). IsMet ps pair) (sym (left f xs i x d lt is)) (any_more (Meets pair) (f x) (map f (drop (i + 1) xs)) h)

  pub met_nowhere : length xs ≤ i → IsMet (map f (drop i xs)) pair → ⊥
  met_nowhere le h = any_none (Meets pair) (subst (λ (ps : List Said). IsMet ps pair) (none_left f xs i le) h)

  -- over each parameter that misses
  pub met_step : (x d : X) → i < length xs → x ≡ get_or xs i d → (IsTrue false ↔ Meets pair (f x)) → (IsMet (map f xs) pair ↔ IsMet (map f (drop i xs)) pair)
      → IsMet (map f xs) pair ↔ IsMet (map f (drop (i + 1) xs)) pair
  met_step x d lt is met so_far = (
    λ h. met_later x d lt is (λ m. let wrong : false ≡ true = met.1 m in absurd cc) (so_far.0 h),
    λ h. so_far.1 (met_sooner x d lt is h),
  )

-- ---- pairs

module _ {X : Type 0} (f : X → Said) (xs : List X) (i : ℕ) (ps : List Said) where
  pub fits_here : (x d : X) → i < length xs → x ≡ get_or xs i d → Fits (map f (drop i xs)) ps → IsMet ps (f x)
  fits_here x d lt is h = All-head (IsMet ps) (f x) (map f (drop (i + 1) xs)) (subst (λ (want : List Said). Fits want ps) (left f xs i x d lt is) h)

  pub fits_later : (x d : X) → i < length xs → x ≡ get_or xs i d → Fits (map f (drop i xs)) ps → Fits (map f (drop (i + 1) xs)) ps
  fits_later x d lt is h = All-tail (IsMet ps) (f x) (map f (drop (i + 1) xs)) (subst (λ (want : List Said). Fits want ps) (left f xs i x d lt is) h)

  pub fits_sooner : (x d : X) → i < length xs → x ≡ get_or xs i d → IsMet ps (f x) → Fits (map f (drop (i + 1) xs)) ps → Fits (map f (drop i xs)) ps
  fits_sooner x d lt is met h =
      subst (λ (want : List Said). Fits want ps) (sym (left f xs i x d lt is)) (All-cons (IsMet ps) (f x) (map f (drop (i + 1) xs)) met h)

  pub fits_end : length xs ≤ i → Fits (map f (drop i xs)) ps
  fits_end le = subst (λ (want : List Said). Fits want ps) (sym (none_left f xs i le)) (All-nil (IsMet ps))

  -- over each pair that is met
  pub fits_step : (x d : X) → i < length xs → x ≡ get_or xs i d → IsMet ps (f x) → (Fits (map f xs) ps ↔ Fits (map f (drop i xs)) ps)
      → Fits (map f xs) ps ↔ Fits (map f (drop (i + 1) xs)) ps
  fits_step x d lt is met so_far = (
    λ h. fits_later x d lt is (so_far.0 h),
    λ h. so_far.1 (fits_sooner x d lt is met h),
  )

  pub fits_fails : (x d : X) → i < length xs → x ≡ get_or xs i d → (IsTrue false ↔ IsMet ps (f x)) → (Fits (map f xs) ps ↔ Fits (map f (drop i xs)) ps)
      → IsTrue false ↔ Fits (map f xs) ps
  fits_fails x d lt is met so_far = (λ wrong. absurd (false≢true wrong), λ all. met.1 (fits_here x d lt is (so_far.0 all)))

-- ---- sets

picked_more : (want : List Said) (s : SaidSet) (sets : List SaidSet) (id : ℤ) → (Fits want s.parameters → ⊥) → IsPicked want sets id → IsPicked want (s ∷ sets) id
picked_more want s sets id missing p = record {
  before = s ∷ p.before;
  set = p.set;
  behind = p.behind;
  split = ap (λ (l : List SaidSet). s ∷ l) p.split;
  missed = All-cons (λ t. Fits want t.parameters → ⊥) s p.before missing p.missed;
  fits = p.fits;
  id_is = p.id_is;
}

picked_first : (want : List Said) (s : SaidSet) (sets : List SaidSet) → Fits want s.parameters → IsPicked want (s ∷ sets) s.id
picked_first want s sets h = record {
  before = [];
  set = s;
  behind = sets;
  split = refl;
  missed = All-nil (λ t. Fits want t.parameters → ⊥);
  fits = h;
  id_is = refl;
}

-- what is picked of what is left at i is picked of all
pub record LeavesChoice {X : Type 0} (want : List Said) (f : X → SaidSet) (xs : List X) (i : ℕ) : Type 0 where
  pub picked : (id : ℤ) → IsPicked want (map f (drop i xs)) id → IsPicked want (map f xs) id
  pub none : PicksNone want (map f (drop i xs)) → PicksNone want (map f xs)

module _ {X : Type 0} (want : List Said) (f : X → SaidSet) (xs : List X) where
  pub choice_open : LeavesChoice want f xs 0
  choice_open = record { picked = λ id h. h; none = λ h. h }

  pub choice_here : (i : ℕ) (x d : X) → LeavesChoice want f xs i → i < length xs → x ≡ get_or xs i d → Fits want (f x).parameters → IsPicked want (map f xs) (f x).id
  choice_here i x d was lt is h =
      was.picked (f x).id (subst (λ (sets : List SaidSet). IsPicked want sets (f x).id) (sym (left f xs i x d lt is)) (picked_first want (f x) (map f (drop (i + 1) xs)) h))

  pub choice_more : (i : ℕ) (x d : X) → LeavesChoice want f xs i → i < length xs → x ≡ get_or xs i d → (Fits want (f x).parameters → ⊥) → LeavesChoice want f xs (i + 1)
  choice_more i x d was lt is missing = record {
    picked = λ id h. was.picked id (subst (λ (sets : List SaidSet). IsPicked want sets id) (sym (left f xs i x d lt is)) (picked_more want (f x) (map f (drop (i + 1) xs)) id missing h));
    none = λ h. was.none (subst (λ (sets : List SaidSet). PicksNone want sets) (sym (left f xs i x d lt is)) (All-cons (λ s. Fits want s.parameters → ⊥) (f x) (map f (drop (i + 1) xs)) missing h));
  }

  pub choice_end : (i : ℕ) → LeavesChoice want f xs i → length xs ≤ i → PicksNone want (map f xs)
  choice_end i was le = was.none (subst (λ (sets : List SaidSet). PicksNone want sets) (sym (none_left f xs i le)) (All-nil (λ s. Fits want s.parameters → ⊥)))
