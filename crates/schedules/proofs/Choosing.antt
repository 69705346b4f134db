-- The best cover of limits begins with some part of them, and goes on with the best cover of what is left.
use Rattle.std.proofs.Common.{◌≡◌, ℕ, zero, suc, ◌+◌, ◌-◌, ◌*◌, ◌<◌, ◌≤◌, ◌⊎◌, List, [], ◌∷◌, ◌++◌, length, take, drop, refl, sym, ap, ◌∙◌, subst, inl, inr, arith}
use Rattle.std.proofs.lemmas.Bool.{cases_lt, cases_order}
use Rattle.std.proofs.lemmas.List.{take_at, drop_at, take-append-drop, length-append}
use Rattle.schedules.specs.declared.power.Step.{Step}
use Rattle.schedules.specs.Steps.{next, RiseWithin, starts}
use Rattle.schedules.specs.Profiles.{IsLess}
use Rattle.schedules.proofs.Holding.{next_after, rise_lower}
use Rattle.schedules.specs.Plans.{least, Covers, plan_energy, IsNotAfter, IsAtLeast, IsBestOf}
use Rattle.schedules.proofs.Covering.{next_covers}
use Rattle.schedules.proofs.Moving.{step_of}

not_after_refl : (xs : List ℕ) → IsNotAfter xs xs
not_after_refl [] = tt
not_after_refl (x ∷ xs) = inr (refl, not_after_refl xs)

not_after_trans : (xs ys zs : List ℕ) → IsNotAfter xs ys → IsNotAfter ys zs → IsNotAfter xs zs
not_after_trans [] ys zs h k = tt
not_after_trans (x ∷ xs) [] zs h k = absurd h
not_after_trans (x ∷ xs) (y ∷ ys) [] h k = absurd k
not_after_trans (x ∷ xs) (y ∷ ys) (z ∷ zs) (inl h) (inl k) = inl (omega arith)
not_after_trans (x ∷ xs) (y ∷ ys) (z ∷ zs) (inl h) (inr k) = inl (omega (arith, k.0))
not_after_trans (x ∷ xs) (y ∷ ys) (z ∷ zs) (inr h) (inl k) = inl (omega (arith, h.0))
not_after_trans (x ∷ xs) (y ∷ ys) (z ∷ zs) (inr h) (inr k) = inr (h.0 ∙ k.0, not_after_trans xs ys zs h.1 k.1)

pub not_after_less : (xs ys : List ℕ) → IsNotAfter xs ys → IsLess ys xs → ⊥
not_after_less [] [] h k = k
not_after_less [] (y ∷ ys) h k = k
not_after_less (x ∷ xs) [] h k = h
not_after_less (x ∷ xs) (y ∷ ys) (inl h) (inl k) = omega arith
not_after_less (x ∷ xs) (y ∷ ys) (inl h) (inr k) = omega (arith, k.0)
not_after_less (x ∷ xs) (y ∷ ys) (inr h) (inl k) = omega (arith, h.0)
not_after_less (x ∷ xs) (y ∷ ys) (inr h) (inr k) = not_after_less xs ys h.1 k.1

-- an amount and a count that are first, among those below `count`, with the most of the amount and the least of the count
pub record IsFirst (amount number : ℕ → ℕ) (count at : ℕ) : Type 0 where
  pub here : at < count
  pub before : (m : ℕ) → m < at → (amount m < amount at) ⊎ ((amount at ≡ amount m) × (number at < number m))
  pub most : (m : ℕ) → m < count → (amount m < amount at) ⊎ ((amount at ≡ amount m) × (number at ≤ number m))

module _ (amount number : ℕ → ℕ) where
  pub first_alone : IsFirst amount number 1 0
  first_alone = record {
    here = omega arith;
    before = λ m h. absurd (omega arith);
    most = λ m h. let e : m ≡ 0 = omega arith in inr (ap amount (sym e), omega (arith, ap number e));
  }

  -- one more, which is not better
  pub first_kept : (count at : ℕ) → IsFirst amount number count at → (amount count < amount at) ⊎ ((amount at ≡ amount count) × (number at ≤ number count)) →
      IsFirst amount number (count + 1) at
  first_kept count at f h = record {
    here = omega (arith, f.here);
    before = f.before;
    most = λ m k. elim (cases_lt m count) [
      | inl lt ↦ f.most m lt
      | inr ge ↦ let e : count ≡ m = omega arith in subst (λ i. (amount i < amount at) ⊎ ((amount at ≡ amount i) × (number at ≤ number i))) e h
    ];
  }

  over_all : (count at : ℕ) → IsFirst amount number count at → (amount at < amount count) ⊎ ((amount count ≡ amount at) × (number count < number at)) →
      (m : ℕ) → m < count → (amount m < amount count) ⊎ ((amount count ≡ amount m) × (number count < number m))
  over_all count at f (inl more) m h = inl (elim (f.most m h) [ inl lt ↦ omega arith | inr eq ↦ omega (arith, eq.0) ])
  over_all count at f (inr fewer) m h =
      elim (f.most m h) [ inl lt ↦ inl (omega (arith, fewer.0)) | inr eq ↦ inr (fewer.0 ∙ eq.0, omega (arith, fewer.1, eq.1)) ]

  -- one more, which is better
  pub first_new : (count at : ℕ) → IsFirst amount number count at → (amount at < amount count) ⊎ ((amount count ≡ amount at) × (number count < number at)) →
      IsFirst amount number (count + 1) count
  first_new count at f h = record {
    here = omega arith;
    before = over_all count at f h;
    most = λ m k. elim (cases_lt m count) [
      | inl lt ↦ elim (over_all count at f h m lt) [ inl more ↦ inl more | inr eq ↦ inr (eq.0, omega (arith, eq.1)) ]
      | inr ge ↦ let e : m ≡ count = omega arith in inr (ap amount (sym e), omega (arith, ap number e))
    ];
  }

module _ (departure : ℕ) where
  pub at_least_refl : (xs : List Step) → IsAtLeast departure xs xs
  at_least_refl xs = inr (refl, inr (refl, not_after_refl (starts xs)))

  at_least_trans : (a b c : List Step) → IsAtLeast departure a b → IsAtLeast departure b c → IsAtLeast departure a c
  at_least_trans a b c (inl h) (inl k) = inl (omega arith)
  at_least_trans a b c (inl h) (inr k) = inl (omega (arith, k.0))
  at_least_trans a b c (inr h) (inl k) = inl (omega (arith, h.0))
  at_least_trans a b c (inr h) (inr k) = inr (
    h.0 ∙ k.0,
    elim h.1 [
      | inl lt ↦ elim k.1 [ inl lt' ↦ inl (omega arith) | inr eq' ↦ inl (omega (arith, eq'.0)) ]
      | inr eq ↦ elim k.1 [ inl lt' ↦ inl (omega (arith, eq.0)) | inr eq' ↦ inr (eq.0 ∙ eq'.0, not_after_trans (starts a) (starts b) (starts c) eq.1 eq'.1) ]
    ],
  )

  -- the same step before both
  pub extended : (x y : Step) (xs ys : List Step) → x.start ≡ y.start → x.watts ≡ y.watts → next departure xs ≡ next departure ys →
      IsAtLeast departure xs ys → IsAtLeast departure (x ∷ xs) (y ∷ ys)
  extended x y xs ys start watts joint h =
      let same : x.watts * (next departure xs - x.start) ≡ y.watts * (next departure ys - y.start) = rw (start, watts, joint) refl in
      elim h [
        | inl more ↦ inl (omega (arith, same))
        | inr eq ↦ inr (
          omega (arith, same, eq.0),
          elim eq.1 [
            | inl fewer ↦ inl (omega arith)
            | inr tie ↦ inr (omega (arith, tie.0), inr (start, tie.1))
          ],
        )
      ]

  pub rise_drop : (steps : List Step) (n low : ℕ) → RiseWithin low departure steps → RiseWithin low departure (drop n steps)
  rise_drop steps zero low rise = rise
  rise_drop [] (suc n) low rise = tt
  rise_drop (s ∷ steps) (suc n) low rise = rise_lower (drop n steps) (s.start + 1) low departure (omega (arith, rise.0)) (rise_drop steps n (s.start + 1) rise.2)

  -- what is left behind more starts later
  drops_rise : (steps : List Step) (n m low : ℕ) → RiseWithin low departure steps → n < m → m ≤ length steps → next departure (drop n steps) < next departure (drop m steps)
  drops_rise [] n m low rise less few = absurd (omega arith)
  drops_rise (s ∷ steps) n zero low rise less few = absurd (omega arith)
  drops_rise (s ∷ steps) zero (suc m) low rise less few =
      omega (arith, rise.1, next_after (drop m steps) (s.start + 1) departure (rise_drop steps m (s.start + 1) rise.2) (omega (arith, rise.1)))
  drops_rise (s ∷ steps) (suc n) (suc m) low rise less few = drops_rise steps n m (s.start + 1) rise.2 (omega arith) (omega arith)

  -- of covers of as many steps the one that starts earlier comes first
  sooner : (limits others xs ys : List Step) → Covers limits xs → Covers others ys → next departure limits < next departure others → length xs ≡ length ys →
      IsNotAfter (starts xs) (starts ys)
  sooner limits others [] ys h k less even = tt
  sooner limits others (x ∷ xs) [] h k less even = absurd (omega arith)
  sooner limits others (x ∷ xs) (y ∷ ys) h k less even =
      inl (omega (arith, next_covers departure limits (x ∷ xs) h, next_covers departure others (y ∷ ys) k))

module _ (departure : ℕ) (first : Step) (rest : List Step) (plans : ℕ → List Step) where
  -- one step over the first limit and m more, and then a plan
  abbrev pub option : ℕ → List Step
  option m = step_of first.start (least first.watts (take m rest)) ∷ plans m

  module _ (low : ℕ) (rise : RiseWithin low departure (first ∷ rest)) (covers : (m : ℕ) → m ≤ length rest → Covers (drop m rest) (plans m)) where
    pub option_covers : (m : ℕ) → m ≤ length rest → Covers (first ∷ rest) (option m)
    option_covers m h = (first, take m rest, drop m rest, ap (λ xs. first ∷ xs) (sym (take-append-drop m rest)), refl, refl, covers m h)

    chosen : (amount number : ℕ → ℕ) (at : ℕ) → ((m : ℕ) → m ≤ length rest → amount m ≡ plan_energy departure (option m)) →
        ((m : ℕ) → m ≤ length rest → number m ≡ length (plans m)) → IsFirst amount number (length rest + 1) at →
        (m : ℕ) → m ≤ length rest → IsAtLeast departure (option at) (option m)
    chosen amount number at amounts numbers f m h =
        let here : at ≤ length rest = omega (arith, f.here) in
        let ea : amount at ≡ plan_energy departure (option at) = amounts at here in
        let em : amount m ≡ plan_energy departure (option m) = amounts m h in
        let na : number at ≡ length (plans at) = numbers at here in
        let nm : number m ≡ length (plans m) = numbers m h in
        elim (cases_order m at) [
          | inl eq ↦ subst (λ i. IsAtLeast departure (option at) (option i)) (sym eq) (at_least_refl departure (option at))
          | inr (inl lt) ↦ elim (f.before m lt) [
            | inl less ↦ inl (omega (arith, ea, em))
            | inr tie ↦ inr (sym ea ∙ tie.0 ∙ em, inl (omega (arith, na, nm, tie.1)))
          ]
          | inr (inr gt) ↦ elim (f.most m (omega arith)) [
            | inl less ↦ inl (omega (arith, ea, em))
            | inr tie ↦ inr (
              sym ea ∙ tie.0 ∙ em,
              elim (cases_lt (number at) (number m)) [
                | inl fewer ↦ inl (omega (arith, na, nm))
                | inr even ↦
                    let same : length (plans at) ≡ length (plans m) = omega (arith, na, nm, tie.1) in
                    inr (
                      ap suc same,
                      inr (
                        refl,
                        sooner departure (drop at rest) (drop m rest) (plans at) (plans m) (covers at here) (covers m h)
                            (drops_rise departure rest at m (first.start + 1) rise.2 gt h) same,
                      ),
                    )
              ],
            )
          ]
        ]

    -- the best cover with one step more
    pub best_option : (amount number : ℕ → ℕ) (at most : ℕ) → ((m : ℕ) → m ≤ length rest → amount m ≡ plan_energy departure (option m)) →
        ((m : ℕ) → m ≤ length rest → number m ≡ length (plans m)) → IsFirst amount number (length rest + 1) at →
        ((m : ℕ) → m ≤ length rest → IsBestOf departure most (drop m rest) (plans m)) → IsBestOf departure (most + 1) (first ∷ rest) (option at)
    best_option amount number at most amounts numbers f bests = record {
      few = omega (arith, (bests at (omega (arith, f.here))).few);
      best = best_over;
    } where
      best_over : (other : List Step) → Covers (first ∷ rest) other → length other ≤ most + 1 → IsAtLeast departure (option at) other
      best_over [] h few = absurd (cc)
      best_over (s ∷ steps) h few =
          let same : first ≡ h.0 = cc in
          let parts : rest ≡ h.1 ++ h.2 = cc in
          let m : ℕ = length h.1 in
          let taken : take m rest ≡ h.1 = ap (take m) parts ∙ take_at h.1 h.2 m refl in
          let left : drop m rest ≡ h.2 = ap (drop m) parts ∙ drop_at h.1 h.2 m refl in
          let within : m ≤ length rest = omega (arith, ap length parts, length-append h.1 h.2) in
          let tail : IsAtLeast departure (plans m) steps = (bests m within).best steps (subst (λ xs. Covers xs steps) (sym left) h.6) (omega arith) in
          let start : first.start ≡ s.start = ap (λ (x : Step). x.start) same ∙ sym h.4 in
          let watts : least first.watts (take m rest) ≡ s.watts = ap (least first.watts) taken ∙ ap (λ (x : Step). least x.watts h.1) same ∙ sym h.5 in
          let joint : next departure (plans m) ≡ next departure steps =
          next_covers departure (drop m rest) (plans m) (covers m within) ∙ ap (next departure) left ∙ sym (next_covers departure h.2 steps h.6) in
          at_least_trans departure (option at) (option m) (s ∷ steps) (chosen amount number at amounts numbers f m within)
          (extended departure (step_of first.start (least first.watts (take m rest))) s (plans m) steps start watts joint tail)
