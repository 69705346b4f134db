-- Plans for what is left behind each number of limits, and how they grow by a step.
use Rattle.std.proofs.Common.{◌≡◌, ◌≢◌, ℕ, ◌+◌, ◌-◌, ◌*◌, ◌^◌, ◌<◌, ◌≤◌, ◌⊎◌, min, List, [], ◌∷◌, ◌++◌, length, take, drop, get_or, refl, sym, ap, ◌∙◌, subst, inl, inr, arith}
use Rattle.std.proofs.lemmas.Bool.{cases_lt, cases_order, cases_eq}
use Rattle.std.proofs.lemmas.List.{append-nil, take_more, take_rest, drop_more, length-set, get_or_past, get_or_append_left, get_or_push, get_or-set_same, get_or-set_other, get_or-drop, drop-drop, length-drop}
use Rattle.std.proofs.lemmas.Nat.{mul-le}
use Rattle.std.proofs.Math.ListN.{set}
use Rattle.schedules.specs.declared.power.Step.{Step}
use Rattle.schedules.specs.Steps.{next, RiseWithin}
use Rattle.schedules.proofs.Holding.{next_after, next_within}
use Rattle.schedules.specs.declared.plan.Plan.{Plan}
use Rattle.schedules.specs.Plans.{least, Covers, IsMore, IsAtLeast, IsPlan, IsBestOf, ArePlans, AreBest, HaveRoom, no_plan, plan_at, steps_at}
use Rattle.schedules.proofs.Covering.{next_covers}
use Rattle.schedules.proofs.Moving.{step_of}
use Rattle.schedules.proofs.Choosing.{IsFirst, first_alone, first_kept, first_new, at_least_refl, extended, option_covers, best_option, rise_drop}

-- what is not more is no more
pub not_more : (amount number other_amount other_number : ℕ) → (IsMore amount number other_amount other_number → ⊥) →
    (amount < other_amount) ⊎ ((other_amount ≡ amount) × (other_number ≤ number))
not_more a n b m h =
    elim (cases_order a b) [
      | inl eq ↦ inr (sym eq, elim (cases_lt n m) [ inl lt ↦ absurd (h (inr (eq, lt))) | inr ge ↦ ge ])
      | inr (inl lt) ↦ inl lt
      | inr (inr gt) ↦ absurd (h (inl gt))
    ]

least_push : (watts : ℕ) (xs : List Step) (x : Step) → least watts (xs ++ x ∷ []) ≡ min (least watts xs) x.watts
least_push watts [] x = refl
least_push watts (y ∷ ys) x = least_push (min watts y.watts) ys x

-- the least of one more
pub least_more : (watts : ℕ) (xs : List Step) (i : ℕ) (d : Step) → i < length xs → least watts (take (i + 1) xs) ≡ min (least watts (take i xs)) (get_or xs i d).watts
least_more watts xs i d h = ap (least watts) (take_more xs i d h) ∙ least_push watts (take i xs) (get_or xs i d)

module _ (departure : ℕ) where
  covers_nothing : (steps : List Step) → Covers [] steps → steps ≡ []
  covers_nothing [] h = refl
  covers_nothing (s ∷ steps) h = absurd (let e : [] ≡ h.0 ∷ (h.1 ++ h.2) = h.3 in cc)

  -- for no limits there is nothing but no step
  pub best_nothing : (most : ℕ) (limits : List Step) → limits ≡ [] → IsBestOf departure most limits []
  best_nothing most limits none = record {
    few = omega arith;
    best = λ other h few. subst (IsAtLeast departure []) (sym (covers_nothing other (subst (λ xs. Covers xs other) none h))) (at_least_refl departure []);
  }

  pub plan_nothing : (limits : List Step) → limits ≡ [] → IsPlan departure limits 0 []
  plan_nothing limits none = record { covers = none; energy = refl; fits = omega arith }

  module _ (first : Step) (rest : List Step) where
    pub whole_plan : (watts sum : ℕ) → watts ≡ least first.watts rest → watts < 2 ^ 32 → sum ≡ watts * (departure - first.start) →
        IsPlan departure (first ∷ rest) sum (step_of first.start watts ∷ [])
    whole_plan watts sum low fits is = record {
      covers = (first, rest, [], ap (λ xs. first ∷ xs) (sym (append-nil rest)), refl, low, refl);
      energy = omega (arith, is);
      fits = omega (arith, is, mul-le watts (departure - first.start) (2 ^ 32) (departure - first.start) (omega arith) (omega arith));
    }

    pub whole_best : (watts : ℕ) → watts ≡ least first.watts rest → IsBestOf departure 1 (first ∷ rest) (step_of first.start watts ∷ [])
    whole_best watts low = record { few = omega arith; best = best_over } where
      best_over : (other : List Step) → Covers (first ∷ rest) other → length other ≤ 1 → IsAtLeast departure (step_of first.start watts ∷ []) other
      best_over [] h few = absurd (cc)
      best_over (s ∷ t ∷ steps) h few = absurd (omega arith)
      best_over (s ∷ []) h few =
          let same : first ≡ h.0 = cc in
          let parts : rest ≡ h.1 ++ h.2 = cc in
          let all : rest ≡ h.1 = parts ∙ ap (λ xs. h.1 ++ xs) h.6 ∙ append-nil h.1 in
          let start : first.start ≡ s.start = ap (λ (x : Step). x.start) same ∙ sym h.4 in
          let watts' : watts ≡ s.watts = low ∙ ap (least first.watts) all ∙ ap (λ (x : Step). least x.watts h.1) same ∙ sym h.5 in
          extended departure (step_of first.start watts) s [] [] start watts' refl (at_least_refl departure [])

  -- the watt-seconds of a step over the first limit and n more and of the plan for what is left, and how many steps that plan has
  abbrev pub amount : Step → List Step → List Plan → ℕ → ℕ
  amount first rest plans n = least first.watts (take n rest) * (next departure (steps_at plans n) - first.start) + (plan_at plans n).energy

  module _ (first : Step) (rest : List Step) (plans : List Plan) (rise : RiseWithin 0 departure (first ∷ rest)) (are : ArePlans departure rest plans) where
    pub option_after : (n : ℕ) → n ≤ length rest → first.start < next departure (steps_at plans n)
    option_after n h =
        omega (
          arith,
          rise.1,
          next_covers departure (drop n rest) (steps_at plans n) (are.each n h).covers,
          next_after (drop n rest) (first.start + 1) departure (rise_drop departure rest n (first.start + 1) rise.2) (omega (arith, rise.1)),
        )

    pub option_within : (n : ℕ) → n ≤ length rest → next departure (steps_at plans n) ≤ departure
    option_within n h =
        omega (
          arith,
          next_covers departure (drop n rest) (steps_at plans n) (are.each n h).covers,
          next_within (drop n rest) (first.start + 1) departure (rise_drop departure rest n (first.start + 1) rise.2),
        )

    pub option_plan : (n watts sum : ℕ) → n ≤ length rest → watts ≡ least first.watts (take n rest) → watts < 2 ^ 32 → sum ≡ amount first rest plans n →
        IsPlan departure (first ∷ rest) sum (step_of first.start watts ∷ steps_at plans n)
    option_plan n watts sum h low fits is =
        let joint : ℕ = next departure (steps_at plans n) in
        let mine : sum ≡ watts * (joint - first.start) + (plan_at plans n).energy = is ∙ ap (λ w. w * (joint - first.start) + (plan_at plans n).energy) (sym low) in
        record {
          covers = subst (λ w. Covers (first ∷ rest) (step_of first.start w ∷ steps_at plans n)) (sym low)
              (option_covers departure first rest (steps_at plans) 0 rise (λ m k. (are.each m k).covers) n h);
          energy = omega (arith, mine, (are.each n h).energy);
          fits = omega (
            arith,
            mine,
            (are.each n h).fits,
            option_after n h,
            option_within n h,
            mul-le watts (joint - first.start) (2 ^ 32) (joint - first.start) (omega arith) (omega arith),
          );
        }

    pub option_best : (at watts most : ℕ) → watts ≡ least first.watts (take at rest) →
        IsFirst (amount first rest plans) (λ n. length (steps_at plans n)) (length rest + 1) at → AreBest departure most 0 rest plans →
        IsBestOf departure (most + 1) (first ∷ rest) (step_of first.start watts ∷ steps_at plans at)
    option_best at watts most low f bests =
        subst (λ w. IsBestOf departure (most + 1) (first ∷ rest) (step_of first.start w ∷ steps_at plans at)) (sym low)
        (best_option departure first rest (steps_at plans) 0 rise (λ m k. (are.each m k).covers) (amount first rest plans) (λ n. length (steps_at plans n)) at most
        (λ m h. ap (λ e. least first.watts (take m rest) * (next departure (steps_at plans m) - first.start) + e) (are.each m h).energy)
        (λ m h. refl) f (λ m h. bests m (omega arith) h))

-- what a loop over the options has chosen among the first `count`: the watts and the place of one, with its energy and steps
pub record Chosen (departure : ℕ) (first : Step) (rest : List Step) (plans : List Plan) (count watts sum number place : ℕ) : Type 0 where
  pub is_watts : watts ≡ least first.watts (take place rest)
  pub is_sum : sum ≡ amount departure first rest plans place
  pub is_number : number ≡ length (steps_at plans place)
  pub is_first : IsFirst (amount departure first rest plans) (λ n. length (steps_at plans n)) count place

module _ (departure : ℕ) (first : Step) (rest : List Step) (plans : List Plan) where
  sum_of : (watts sum n : ℕ) → watts ≡ least first.watts (take n rest) → sum ≡ watts * (next departure (steps_at plans n) - first.start) + (plan_at plans n).energy →
      sum ≡ amount departure first rest plans n
  sum_of watts sum n low is = is ∙ ap (λ w. w * (next departure (steps_at plans n) - first.start) + (plan_at plans n).energy) low

  pub chosen_first : (watts sum number : ℕ) → watts ≡ first.watts → sum ≡ watts * (next departure (steps_at plans 0) - first.start) + (plan_at plans 0).energy →
      number ≡ length (steps_at plans 0) → Chosen departure first rest plans 1 watts sum number 0
  chosen_first watts sum number low is steps = record {
    is_watts = low;
    is_sum = sum_of watts sum 0 low is;
    is_number = steps;
    is_first = first_alone (amount departure first rest plans) (λ n. length (steps_at plans n));
  }

  pub chosen_new : (count watts sum number place watts' sum' number' : ℕ) → Chosen departure first rest plans count watts sum number place →
      watts' ≡ least first.watts (take count rest) →
      sum' ≡ watts' * (next departure (steps_at plans count) - first.start) + (plan_at plans count).energy →
      number' ≡ length (steps_at plans count) → IsMore sum' number' sum number → Chosen departure first rest plans (count + 1) watts' sum' number' count
  chosen_new count watts sum number place watts' sum' number' c low is steps more =
      let total : sum' ≡ amount departure first rest plans count = sum_of watts' sum' count low is in
      record {
        is_watts = low;
        is_sum = total;
        is_number = steps;
        is_first = first_new (amount departure first rest plans) (λ n. length (steps_at plans n)) count place c.is_first
            (elim more [
              | inl lt ↦ inl (omega (arith, total, c.is_sum))
              | inr tie ↦ inr (sym total ∙ tie.0 ∙ c.is_sum, omega (arith, tie.1, steps, c.is_number))
            ]);
      }

  pub chosen_kept : (count watts sum number place watts' sum' number' : ℕ) → Chosen departure first rest plans count watts sum number place →
      watts' ≡ least first.watts (take count rest) →
      sum' ≡ watts' * (next departure (steps_at plans count) - first.start) + (plan_at plans count).energy →
      number' ≡ length (steps_at plans count) → (IsMore sum' number' sum number → ⊥) → Chosen departure first rest plans (count + 1) watts sum number place
  chosen_kept count watts sum number place watts' sum' number' c low is steps less =
      let total : sum' ≡ amount departure first rest plans count = sum_of watts' sum' count low is in
      record {
        is_watts = c.is_watts;
        is_sum = c.is_sum;
        is_number = c.is_number;
        is_first = first_kept (amount departure first rest plans) (λ n. length (steps_at plans n)) count place c.is_first
            (elim (not_more sum' number' sum number less) [
              | inl lt ↦ inl (omega (arith, total, c.is_sum))
              | inr tie ↦ inr (sym c.is_sum ∙ tie.0 ∙ total, omega (arith, tie.1, steps, c.is_number))
            ]);
      }

module _ (departure : ℕ) where
  pub room_left : (most from : ℕ) (limits : List Step) (plans : List Plan) → ArePlans departure limits plans → most < 24 → AreBest departure most from limits plans →
      HaveRoom from plans
  room_left most from limits plans are few bests n h =
      elim (cases_lt (length limits) n) [
        | inl past ↦ omega (arith, ap (λ (p : Plan). length p.steps.items) (get_or_past plans n no_plan (omega (arith, are.even))))
        | inr inside ↦ omega (arith, (bests n h inside).few)
      ]

  -- behind one more limit
  pub plans_behind : (at : ℕ) (limits : List Step) (plans : List Plan) → at < length limits → ArePlans departure limits plans →
      ArePlans departure (drop (at + 1) limits) (drop (at + 1) plans)
  plans_behind at limits plans h are = record {
    even = omega (arith, are.even, length-drop (at + 1) limits, length-drop (at + 1) plans);
    each = λ n k.
        let there : at + 1 + n ≤ length limits = omega (arith, length-drop (at + 1) limits) in
        let same : plan_at (drop (at + 1) plans) n ≡ plan_at plans (at + 1 + n) = get_or-drop (at + 1) plans n no_plan in
        subst (λ xs. IsPlan departure xs (plan_at (drop (at + 1) plans) n).energy (steps_at (drop (at + 1) plans) n)) (sym (drop-drop n (at + 1) limits))
        (subst (λ (p : Plan). IsPlan departure (drop (at + 1 + n) limits) p.energy p.steps.items) (sym same) (are.each (at + 1 + n) there));
  }

  pub best_behind : (at most : ℕ) (limits : List Step) (plans : List Plan) → at < length limits → AreBest departure most (at + 1) limits plans →
      AreBest departure most 0 (drop (at + 1) limits) (drop (at + 1) plans)
  best_behind at most limits plans h bests n from k =
      let there : at + 1 + n ≤ length limits = omega (arith, length-drop (at + 1) limits) in
      let same : plan_at (drop (at + 1) plans) n ≡ plan_at plans (at + 1 + n) = get_or-drop (at + 1) plans n no_plan in
      subst (λ xs. IsBestOf departure most xs (steps_at (drop (at + 1) plans) n)) (sym (drop-drop n (at + 1) limits))
      (subst (λ (p : Plan). IsBestOf departure most (drop (at + 1 + n) limits) p.steps.items) (sym same) (bests (at + 1 + n) (omega arith) there))

  pub room_behind : (at : ℕ) (plans : List Plan) → HaveRoom (at + 1) plans → HaveRoom 0 (drop (at + 1) plans)
  room_behind at plans room n from = omega (arith, room (at + 1 + n) (omega arith), ap (λ (p : Plan). length p.steps.items) (get_or-drop (at + 1) plans n no_plan))

-- one more at the end
pub each_pushed : (P : ℕ → Plan → Type 0) (plans : List Plan) (at : ℕ) (p : Plan) → length plans ≡ at → ((n : ℕ) → n < at → P n (plan_at plans n)) → P at p →
    (n : ℕ) → n < at + 1 → P n (plan_at (plans ++ p ∷ []) n)
each_pushed P plans at p long each here n h =
    elim (cases_lt n at) [
      | inl lt ↦ subst (P n) (sym (get_or_append_left plans (p ∷ []) no_plan n (omega arith))) (each n lt)
      | inr ge ↦
          let e : at ≡ n = omega arith in
          subst (λ m. P m (plan_at (plans ++ p ∷ []) m)) e (subst (P at) (sym (get_or_push plans p no_plan at long)) here)
    ]

-- one in the place of another
pub each_set : (P : ℕ → Plan → Type 0) (plans : List Plan) (at n : ℕ) (p : Plan) → at < length plans → P at p → (n ≢ at → P n (plan_at plans n)) →
    P n (plan_at (set plans at p) n)
each_set P plans at n p h here other =
    elim (cases_eq n at) [
      | inl eq ↦ subst (λ m. P m (plan_at (set plans at p) m)) (sym eq) (subst (P at) (sym (get_or-set_same plans at p no_plan h)) here)
      | inr ne ↦ subst (P n) (sym (get_or-set_other plans at n p no_plan ne)) (other ne)
    ]

-- for no limits one step more changes nothing
pub best_last : (departure most : ℕ) (limits steps : List Step) → limits ≡ [] → IsBestOf departure most limits steps → IsBestOf departure (most + 1) limits steps
best_last departure most limits steps none best = record {
  few = omega (arith, best.few);
  best = λ other h few.
      let nothing : other ≡ [] = covers_nothing departure other (subst (λ xs. Covers xs other) none h) in
      best.best other h (omega (arith, ap length nothing));
}

module _ (departure : ℕ) (limits : List Step) (plans : List Plan) (at : ℕ) (p : Plan) where
  pub set_plans : ArePlans departure limits plans → at < length limits → IsPlan departure (drop at limits) p.energy p.steps.items → ArePlans departure limits (set plans at p)
  set_plans are h here = record {
    even = omega (arith, length-set plans at p, are.even);
    each = λ n few.
        each_set (λ m (q : Plan). IsPlan departure (drop m limits) q.energy q.steps.items) plans at n p (omega (arith, are.even)) here (λ ne. are.each n few);
  }

  pub set_best : (most : ℕ) → ArePlans departure limits plans → at < length limits →
      ((n : ℕ) → n < at → n ≤ length limits → IsBestOf departure most (drop n limits) (steps_at plans n)) → IsBestOf departure most (drop at limits) p.steps.items →
      (n : ℕ) → n < at + 1 → n ≤ length limits → IsBestOf departure most (drop n limits) (steps_at (set plans at p) n)
  set_best most are h done here n below few =
      each_set (λ m (q : Plan). IsBestOf departure most (drop m limits) q.steps.items) plans at n p (omega (arith, are.even)) here
      (λ ne. done n (not_at n below ne) few) where
        not_at : (m : ℕ) → m < at + 1 → m ≢ at → m < at
        not_at m h ne = elim (cases_lt m at) [ inl lt ↦ lt | inr ge ↦ absurd (ne (omega arith)) ]

pub set_same : (plans old : List Plan) (at : ℕ) (p : Plan) → ((n : ℕ) → at ≤ n → plan_at plans n ≡ plan_at old n) → (n : ℕ) → at + 1 ≤ n → plan_at (set plans at p) n ≡ plan_at old n
set_same plans old at p same n h =
    let ne : n ≢ at = λ e. omega arith in
    get_or-set_other plans at n p no_plan ne ∙ same n (omega arith)

-- what is left behind a number of limits, as its first and the slice behind that
pub at_rest : (limits : List Step) (at : ℕ) → at < length limits →
    drop at limits ≡ get_or limits at (record { start = 0; watts = 0 }) ∷ take (length limits - (at + 1)) (drop (at + 1) limits)
at_rest limits at h =
    drop_more limits at (record { start = 0; watts = 0 }) h
    ∙ ap (λ (xs : List Step). get_or limits at (record { start = 0; watts = 0 }) ∷ xs) (sym (take_rest limits (at + 1)))
