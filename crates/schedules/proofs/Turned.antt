-- The turned calendar has the power of the day from the moment on.
use Rattle.std.proofs.Common.{◌≡◌, ◌≢◌, ℕ, zero, suc, ◌+◌, ◌-◌, ◌*◌, ◌%◌, ◌<◌, ◌≤◌, ◌⊎◌, ltb, eqb, cond, List, [], ◌∷◌, ◌++◌, length, take, drop, get_or, refl, sym, ap, ◌∙◌, subst, inl, inr, arith}
use Rattle.std.proofs.lemmas.Bool.{cases_lt, cases_eq, lt-ltb, le-ltb, eq-eqb, ne_eqb}
use Rattle.std.proofs.lemmas.List.{length-append, append_assoc, append-nil, take_more, take-append-drop, drop_more, length-take-le}
use Rattle.schedules.specs.declared.power.Step.{Step}
use Rattle.schedules.specs.Steps.{held, watts_at, next, Begins, RiseWithin, ChangesFrom, NeighboursDiffer}
use Rattle.schedules.specs.Offers.{IsCalendar, IsOffer}
use Rattle.schedules.proofs.Holding.{held_begun, held_waiting, held_before, held_from, held_append, rise_lower}
use Rattle.schedules.specs.Turning.{ahead, ahead_one, past, past_one, merged}

abbrev pub step_of : ℕ → ℕ → Step
step_of start watts = record { start = start; watts = watts }

module _ (moment : ℕ) where
  pub ahead_in : (s : Step) → moment < s.start → ahead_one moment s ≡ step_of (s.start - moment) s.watts ∷ []
  ahead_in s h = ap (λ b. cond b (step_of (s.start - moment) s.watts ∷ []) []) (lt-ltb moment s.start h)

  pub ahead_out : (s : Step) → s.start ≤ moment → ahead_one moment s ≡ []
  ahead_out s h = ap (λ b. cond b (step_of (s.start - moment) s.watts ∷ []) []) (le-ltb moment s.start h)

  pub past_in : (s : Step) → s.start < moment → past_one moment s ≡ step_of (s.start + (86400 - moment)) s.watts ∷ []
  past_in s h = ap (λ b. cond b (step_of (s.start + (86400 - moment)) s.watts ∷ []) []) (lt-ltb s.start moment h)

  pub past_out : (s : Step) → moment ≤ s.start → past_one moment s ≡ []
  past_out s h = ap (λ b. cond b (step_of (s.start + (86400 - moment)) s.watts ∷ []) []) (le-ltb s.start moment h)

  ahead_append : (xs ys : List Step) → ahead moment (xs ++ ys) ≡ ahead moment xs ++ ahead moment ys
  ahead_append [] ys = refl
  ahead_append (x ∷ xs) ys = ap (λ zs. ahead_one moment x ++ zs) (ahead_append xs ys) ∙ sym (append_assoc (ahead_one moment x) (ahead moment xs) (ahead moment ys))

  past_append : (xs ys : List Step) → past moment (xs ++ ys) ≡ past moment xs ++ past moment ys
  past_append [] ys = refl
  past_append (x ∷ xs) ys = ap (λ zs. past_one moment x ++ zs) (past_append xs ys) ∙ sym (append_assoc (past_one moment x) (past moment xs) (past moment ys))

  pub ahead_more : (steps : List Step) (i : ℕ) (d : Step) → i < length steps → ahead moment (take (i + 1) steps) ≡ ahead moment (take i steps) ++ ahead_one moment (get_or steps i d)
  ahead_more steps i d h =
      ap (ahead moment) (take_more steps i d h) ∙ ahead_append (take i steps) (get_or steps i d ∷ [])
      ∙ ap (λ zs. ahead moment (take i steps) ++ zs) (append-nil (ahead_one moment (get_or steps i d)))

  pub past_more : (steps : List Step) (i : ℕ) (d : Step) → i < length steps → past moment (take (i + 1) steps) ≡ past moment (take i steps) ++ past_one moment (get_or steps i d)
  past_more steps i d h =
      ap (past moment) (take_more steps i d h) ∙ past_append (take i steps) (get_or steps i d ∷ [])
      ∙ ap (λ zs. past moment (take i steps) ++ zs) (append-nil (past_one moment (get_or steps i d)))

  -- a step starts behind the moment or before it, or at it
  pub both_few : (steps : List Step) → length (ahead moment steps) + length (past moment steps) ≤ length steps
  both_few [] = omega arith
  both_few (s ∷ steps) =
      let a : length (ahead moment (s ∷ steps)) ≡ length (ahead_one moment s) + length (ahead moment steps) = length-append (ahead_one moment s) (ahead moment steps) in
      let p : length (past moment (s ∷ steps)) ≡ length (past_one moment s) + length (past moment steps) = length-append (past_one moment s) (past moment steps) in
      elim (cases_lt moment s.start) [
        | inl lt ↦ omega (arith, both_few steps, ap length (ahead_in s lt), ap length (past_out s (omega arith)))
        | inr ge ↦ elim (cases_lt s.start moment) [
          | inl lt ↦ omega (arith, both_few steps, ap length (ahead_out s ge), ap length (past_in s lt))
          | inr at ↦ omega (arith, both_few steps, ap length (ahead_out s ge), ap length (past_out s at))
        ]
      ]

  -- with one more there is still room for it
  pub past_room : (steps : List Step) (i : ℕ) (d : Step) → i < length steps → (get_or steps i d).start < moment →
      length (ahead moment steps) + length (past moment (take i steps)) < length steps
  past_room steps i d h before =
      let split : past moment steps ≡ past moment (take (i + 1) steps) ++ past moment (drop (i + 1) steps) =
      ap (past moment) (sym (take-append-drop (i + 1) steps)) ∙ past_append (take (i + 1) steps) (drop (i + 1) steps) in
      omega (
        arith,
        both_few steps,
        ap length split,
        length-append (past moment (take (i + 1) steps)) (past moment (drop (i + 1) steps)),
        ap length (past_more steps i d h),
        length-append (past moment (take i steps)) (past_one moment (get_or steps i d)),
        ap length (past_in (get_or steps i d) before),
      )

  rise_ahead : (steps : List Step) (low from end : ℕ) → RiseWithin low end steps → from ≤ 1 + (low - (moment + 1)) → RiseWithin from (end - moment) (ahead moment steps)
  rise_ahead [] low from end rise h = tt
  rise_ahead (s ∷ steps) low from end rise h =
      elim (cases_lt moment s.start) [
        | inl lt ↦ subst (λ xs. RiseWithin from (end - moment) (xs ++ ahead moment steps)) (sym (ahead_in s lt))
            (omega (arith, rise.0), omega (arith, rise.1), rise_ahead steps (s.start + 1) (s.start - moment + 1) end rise.2 (omega arith))
        | inr ge ↦ subst (λ xs. RiseWithin from (end - moment) (xs ++ ahead moment steps)) (sym (ahead_out s ge))
            (rise_ahead steps (s.start + 1) from end rise.2 (omega (arith, rise.0)))
      ]

  rise_past : (steps : List Step) (low end : ℕ) → moment < 86400 → RiseWithin low end steps → RiseWithin (low + (86400 - moment)) 86400 (past moment steps)
  rise_past [] low end day rise = tt
  rise_past (s ∷ steps) low end day rise =
      elim (cases_lt s.start moment) [
        | inl lt ↦
            let e : s.start + 1 + (86400 - moment) ≡ s.start + (86400 - moment) + 1 = omega arith in
            subst (λ xs. RiseWithin (low + (86400 - moment)) 86400 (xs ++ past moment steps)) (sym (past_in s lt))
            (omega (arith, rise.0), omega arith, subst (λ n. RiseWithin n 86400 (past moment steps)) e (rise_past steps (s.start + 1) end day rise.2))
        | inr ge ↦ subst (λ xs. RiseWithin (low + (86400 - moment)) 86400 (xs ++ past moment steps)) (sym (past_out s ge))
            (rise_lower (past moment steps) (s.start + 1 + (86400 - moment)) (low + (86400 - moment)) 86400 (omega (arith, rise.0)) (rise_past steps (s.start + 1) end day rise.2))
      ]

  held_ahead : (steps : List Step) (low end before t : ℕ) → RiseWithin low end steps → held (held before steps moment) (ahead moment steps) t ≡ held before steps (moment + t)
  held_ahead [] low end before t rise = refl
  held_ahead (s ∷ steps) low end before t rise =
      elim (cases_lt moment s.start) [
        | inl lt ↦
            let now : held before (s ∷ steps) moment ≡ before =
            held_waiting s steps before moment lt ∙ held_before steps (s.start + 1) end before moment rise.2 (omega arith) in
            let list : ahead moment (s ∷ steps) ≡ step_of (s.start - moment) s.watts ∷ ahead moment steps = ap (λ xs. xs ++ ahead moment steps) (ahead_in s lt) in
            ap (λ w. held w (ahead moment (s ∷ steps)) t) now ∙ ap (λ xs. held before xs t) list ∙ elim (cases_lt t (s.start - moment)) [
              | inl waits ↦
                  held_waiting (step_of (s.start - moment) s.watts) (ahead moment steps) before t waits
                  ∙ ap (λ w. held w (ahead moment steps) t) (sym (held_before steps (s.start + 1) end before moment rise.2 (omega arith)))
                  ∙ held_ahead steps (s.start + 1) end before t rise.2 ∙ sym (held_waiting s steps before (moment + t) (omega arith))
              | inr begun ↦
                  held_begun (step_of (s.start - moment) s.watts) (ahead moment steps) before t begun
                  ∙ ap (λ w. held w (ahead moment steps) t) (sym (held_before steps (s.start + 1) end s.watts moment rise.2 (omega arith)))
                  ∙ held_ahead steps (s.start + 1) end s.watts t rise.2 ∙ sym (held_begun s steps before (moment + t) (omega arith))
            ]
        | inr ge ↦
            ap (λ xs. held (held before (s ∷ steps) moment) (xs ++ ahead moment steps) t) (ahead_out s ge)
            ∙ ap (λ w. held w (ahead moment steps) t) (held_begun s steps before moment ge)
            ∙ held_ahead steps (s.start + 1) end s.watts t rise.2 ∙ sym (held_begun s steps before (moment + t) (omega arith))
      ]

  held_past : (steps : List Step) (before t u : ℕ) → moment < 86400 → u < moment → u + 86400 ≡ moment + t → held before (past moment steps) t ≡ held before steps u
  held_past [] before t u day early same = refl
  held_past (s ∷ steps) before t u day early same =
      elim (cases_lt s.start moment) [
        | inl lt ↦ ap (λ xs. held before (xs ++ past moment steps) t) (past_in s lt) ∙ elim (cases_lt u s.start) [
          | inl waits ↦
              held_waiting (step_of (s.start + (86400 - moment)) s.watts) (past moment steps) before t (omega arith)
              ∙ held_past steps before t u day early same ∙ sym (held_waiting s steps before u waits)
          | inr begun ↦
              held_begun (step_of (s.start + (86400 - moment)) s.watts) (past moment steps) before t (omega arith)
              ∙ held_past steps s.watts t u day early same ∙ sym (held_begun s steps before u begun)
        ]
        | inr ge ↦
            ap (λ xs. held before (xs ++ past moment steps) t) (past_out s ge) ∙ held_past steps before t u day early same
            ∙ sym (held_waiting s steps before u (omega arith))
      ]

merged_out : (before : ℕ) (s : Step) (steps : List Step) → s.watts ≡ before → merged before (s ∷ steps) ≡ merged before steps
merged_out before s steps h = ap (λ b. cond b (merged before steps) (s ∷ merged s.watts steps)) (eq-eqb s.watts before h)

merged_in : (before : ℕ) (s : Step) (steps : List Step) → s.watts ≢ before → merged before (s ∷ steps) ≡ s ∷ merged s.watts steps
merged_in before s steps h = ap (λ b. cond b (merged before steps) (s ∷ merged s.watts steps)) (ne_eqb s.watts before h)

pub merged_same : (before : ℕ) (steps : List Step) (i : ℕ) (d : Step) → i < length steps → (get_or steps i d).watts ≡ before →
    merged before (drop i steps) ≡ merged before (drop (i + 1) steps)
merged_same before steps i d h same = ap (merged before) (drop_more steps i d h) ∙ merged_out before (get_or steps i d) (drop (i + 1) steps) same

pub merged_more : (before : ℕ) (steps : List Step) (i : ℕ) (d : Step) → i < length steps → (get_or steps i d).watts ≢ before →
    merged before (drop i steps) ≡ get_or steps i d ∷ merged (get_or steps i d).watts (drop (i + 1) steps)
merged_more before steps i d h other = ap (merged before) (drop_more steps i d h) ∙ merged_in before (get_or steps i d) (drop (i + 1) steps) other

changes_merged : (before : ℕ) (steps : List Step) → ChangesFrom before (merged before steps)
changes_merged before [] = tt
changes_merged before (s ∷ steps) =
    elim (cases_eq s.watts before) [
      | inl eq ↦ subst (ChangesFrom before) (sym (merged_out before s steps eq)) (changes_merged before steps)
      | inr ne ↦ subst (ChangesFrom before) (sym (merged_in before s steps ne)) (ne, changes_merged s.watts steps)
    ]

rise_merged : (before low end : ℕ) (steps : List Step) → RiseWithin low end steps → RiseWithin low end (merged before steps)
rise_merged before low end [] rise = tt
rise_merged before low end (s ∷ steps) rise =
    elim (cases_eq s.watts before) [
      | inl eq ↦ subst (RiseWithin low end) (sym (merged_out before s steps eq))
          (rise_lower (merged before steps) (s.start + 1) low end (omega (arith, rise.0)) (rise_merged before (s.start + 1) end steps rise.2))
      | inr ne ↦ subst (RiseWithin low end) (sym (merged_in before s steps ne)) (rise.0, rise.1, rise_merged s.watts (s.start + 1) end steps rise.2)
    ]

held_merged : (before low end t : ℕ) (steps : List Step) → RiseWithin low end steps → held before (merged before steps) t ≡ held before steps t
held_merged before low end t [] rise = refl
held_merged before low end t (s ∷ steps) rise =
    elim (cases_eq s.watts before) [
      | inl eq ↦ ap (λ xs. held before xs t) (merged_out before s steps eq) ∙ held_merged before (s.start + 1) end t steps rise.2 ∙ elim (cases_lt t s.start) [
        | inl waits ↦ sym (held_waiting s steps before t waits)
        | inr begun ↦ ap (λ w. held w steps t) (sym eq) ∙ sym (held_begun s steps before t begun)
      ]
      | inr ne ↦ ap (λ xs. held before xs t) (merged_in before s steps ne) ∙ elim (cases_lt t s.start) [
        | inl waits ↦
            held_waiting s (merged s.watts steps) before t waits
            ∙ held_before (merged s.watts steps) (s.start + 1) end before t (rise_merged s.watts (s.start + 1) end steps rise.2) (omega arith)
            ∙ sym (held_before steps (s.start + 1) end before t rise.2 (omega arith)) ∙ sym (held_waiting s steps before t waits)
        | inr begun ↦
            held_begun s (merged s.watts steps) before t begun ∙ held_merged s.watts (s.start + 1) end t steps rise.2 ∙ sym (held_begun s steps before t begun)
      ]
    ]

rise_append : (xs ys : List Step) (low middle end : ℕ) → RiseWithin low middle xs → RiseWithin middle end ys → low ≤ middle → middle ≤ end → RiseWithin low end (xs ++ ys)
rise_append [] ys low middle end rise later h k = rise_lower ys middle low end h later
rise_append (x ∷ xs) ys low middle end rise later h k =
    (rise.0, omega (arith, rise.1), rise_append xs ys (x.start + 1) middle end rise.2 later (omega (arith, rise.1)) k)

begins_zero : (steps : List Step) (one other u : ℕ) → Begins 0 steps → held one steps u ≡ held other steps u
begins_zero [] one other u h = absurd h
begins_zero (s ∷ steps) one other u h = held_begun s steps one u (omega (arith, h)) ∙ sym (held_begun s steps other u (omega (arith, h)))

-- what is turned and merged is the offer
pub offered : (calendar : List Step) (moment : ℕ) → IsCalendar calendar → moment < 86400 →
    IsOffer calendar moment (step_of 0 (watts_at calendar moment) ∷ merged (watts_at calendar moment) (ahead moment calendar ++ past moment calendar))
offered calendar moment is day = record {
  begins = refl;
  rise = (omega arith, omega arith, rise_merged now 1 86400 turned rise);
  changes = changes_merged now turned;
  power = λ t below. held_begun (step_of 0 now) (merged now turned) 0 t (omega arith) ∙ held_merged now 1 86400 t turned rise ∙ held_append front back now t ∙ power t below;
} where
  now : ℕ
  now = watts_at calendar moment

  front : List Step
  front = ahead moment calendar

  back : List Step
  back = past moment calendar

  turned : List Step
  turned = front ++ back

  rise_back : RiseWithin (86400 - moment) 86400 back
  rise_back = let e : 0 + (86400 - moment) ≡ 86400 - moment = omega arith in subst (λ (n : ℕ). RiseWithin n 86400 back) e (rise_past moment calendar 0 86400 day is.rise)

  rise : RiseWithin 1 86400 turned
  rise = rise_append front back 1 (86400 - moment) 86400 (rise_ahead moment calendar 0 1 86400 is.rise (omega arith)) rise_back (omega arith) (omega arith)

  power : (t : ℕ) → t < 86400 → held (held now front t) back t ≡ watts_at calendar ((moment + t) % 86400)
  power t below =
      elim (cases_lt t (86400 - moment)) [
        | inl today ↦
            let e : (moment + t) % 86400 ≡ moment + t = omega arith in
            held_before back (86400 - moment) 86400 (held now front t) t rise_back today ∙ held_ahead moment calendar 0 86400 0 t is.rise
            ∙ ap (watts_at calendar) (sym e)
        | inr later ↦
            let u : ℕ = moment + t - 86400 in
            let e : (moment + t) % 86400 ≡ u = omega arith in
            held_past moment calendar (held now front t) t u day (omega arith) (omega arith) ∙ begins_zero calendar (held now front t) 0 u is.begins
            ∙ ap (watts_at calendar) (sym e)
      ]

-- one more step of a list
pub watts_more : (steps : List Step) (i : ℕ) (d : Step) (t : ℕ) → i < length steps → watts_at (take (i + 1) steps) t ≡ held (watts_at (take i steps) t) (get_or steps i d ∷ []) t
watts_more steps i d t h = ap (λ (xs : List Step). watts_at xs t) (take_more steps i d h) ∙ held_append (take i steps) (get_or steps i d ∷ []) 0 t
