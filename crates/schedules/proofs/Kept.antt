-- The entries of a schedule below a second, with no more than the cap.
use Rattle.std.proofs.Common.{◌≡◌, ℕ, ◌+◌, ◌<◌, ◌≤◌, ◌⊎◌, min, cond, List, [], ◌∷◌, ◌++◌, length, take, get_or, refl, sym, ap, ◌∙◌, subst, inl, inr, arith}
use Rattle.std.proofs.lemmas.Bool.{cases_lt, lt-ltb, le-ltb}
use Rattle.std.proofs.lemmas.List.{length-append, append_assoc, append-nil, take_more}
use Rattle.schedules.specs.declared.power.Step.{Step}
use Rattle.schedules.specs.declared.power.Schedule.{Schedule}
use Rattle.schedules.specs.Steps.{held, watts_at, Begins, RiseWithin}
use Rattle.schedules.specs.Profiles.{allowed, IsSchedule, Starts}
use Rattle.schedules.proofs.Holding.{held_begun, held_waiting, held_append, rise_lower}
use Rattle.schedules.specs.Limits.{AreLimits, kept, kept_one}
use Rattle.schedules.proofs.Moving.{step_of}

module _ (cap end : ℕ) where
  kept_in : (s : Step) (steps : List Step) → s.start < end → kept cap end (s ∷ steps) ≡ step_of s.start (min cap s.watts) ∷ kept cap end steps
  kept_in s steps h = ap (λ b. cond b (step_of s.start (min cap s.watts) ∷ []) [] ++ kept cap end steps) (lt-ltb s.start end h)

  kept_out : (s : Step) (steps : List Step) → end ≤ s.start → kept cap end (s ∷ steps) ≡ kept cap end steps
  kept_out s steps h = ap (λ b. cond b (step_of s.start (min cap s.watts) ∷ []) [] ++ kept cap end steps) (le-ltb s.start end h)

  pub kept_append : (xs ys : List Step) → kept cap end (xs ++ ys) ≡ kept cap end xs ++ kept cap end ys
  kept_append [] ys = refl
  kept_append (x ∷ xs) ys = ap (λ zs. kept_one cap end x ++ zs) (kept_append xs ys) ∙ sym (append_assoc (kept_one cap end x) (kept cap end xs) (kept cap end ys))

  pub kept_here : (s : Step) → s.start < end → kept_one cap end s ≡ step_of s.start (min cap s.watts) ∷ []
  kept_here s h = ap (λ b. cond b (step_of s.start (min cap s.watts) ∷ []) []) (lt-ltb s.start end h)

  pub kept_not : (s : Step) → end ≤ s.start → kept_one cap end s ≡ []
  kept_not s h = ap (λ b. cond b (step_of s.start (min cap s.watts) ∷ []) []) (le-ltb s.start end h)

  pub kept_more : (steps : List Step) (i : ℕ) (d : Step) → i < length steps → kept cap end (take (i + 1) steps) ≡ kept cap end (take i steps) ++ kept_one cap end (get_or steps i d)
  kept_more steps i d h =
      ap (kept cap end) (take_more steps i d h) ∙ kept_append (take i steps) (get_or steps i d ∷ [])
      ∙ ap (λ zs. kept cap end (take i steps) ++ zs) (append-nil (kept_one cap end (get_or steps i d)))

  pub length_kept : (steps : List Step) → length (kept cap end steps) ≤ length steps
  length_kept [] = omega arith
  length_kept (s ∷ steps) =
      elim (cases_lt s.start end) [
        | inl lt ↦ omega (arith, ap length (kept_in s steps lt), length_kept steps)
        | inr ge ↦ omega (arith, ap length (kept_out s steps ge), length_kept steps)
      ]

  rise_kept : (steps : List Step) (low top : ℕ) → RiseWithin low top steps → RiseWithin low end (kept cap end steps)
  rise_kept [] low top rise = tt
  rise_kept (s ∷ steps) low top rise =
      elim (cases_lt s.start end) [
        | inl lt ↦ subst (RiseWithin low end) (sym (kept_in s steps lt)) (rise.0, lt, rise_kept steps (s.start + 1) top rise.2)
        | inr ge ↦ subst (RiseWithin low end) (sym (kept_out s steps ge)) (rise_lower (kept cap end steps) (s.start + 1) low end (omega (arith, rise.0)) (rise_kept steps (s.start + 1) top rise.2))
      ]

  held_kept : (steps : List Step) (before t : ℕ) → t < end → held (min cap before) (kept cap end steps) t ≡ min cap (held before steps t)
  held_kept [] before t below = refl
  held_kept (s ∷ steps) before t below =
      elim (cases_lt s.start end) [
        | inl lt ↦ ap (λ xs. held (min cap before) xs t) (kept_in s steps lt) ∙ elim (cases_lt t s.start) [
          | inl waits ↦
              held_waiting (step_of s.start (min cap s.watts)) (kept cap end steps) (min cap before) t waits ∙ held_kept steps before t below
              ∙ ap (min cap) (sym (held_waiting s steps before t waits))
          | inr begun ↦
              held_begun (step_of s.start (min cap s.watts)) (kept cap end steps) (min cap before) t begun ∙ held_kept steps s.watts t below
              ∙ ap (min cap) (sym (held_begun s steps before t begun))
        ]
        | inr ge ↦
            ap (λ xs. held (min cap before) xs t) (kept_out s steps ge) ∙ held_kept steps before t below
            ∙ ap (min cap) (sym (held_waiting s steps before t (omega arith)))
      ]

  watts_kept : (steps : List Step) (t : ℕ) → t < end → watts_at (kept cap end steps) t ≡ min cap (watts_at steps t)
  watts_kept steps t below = let e : min cap 0 ≡ 0 = omega arith in subst (λ w. held w (kept cap end steps) t ≡ min cap (held 0 steps t)) e (held_kept steps 0 t below)

  starts_kept : (steps : List Step) (t : ℕ) → Starts (kept cap end steps) t → Starts steps t
  starts_kept [] t h = h
  starts_kept (s ∷ steps) t h =
      elim (cases_lt s.start end) [
        | inl lt ↦ elim (in_kept s steps t lt h) [ inl here ↦ inl here | inr there ↦ inr (starts_kept steps t there) ]
        | inr ge ↦ inr (starts_kept steps t (subst (λ xs. Starts xs t) (kept_out s steps ge) h))
      ] where
        in_kept : (x : Step) (xs : List Step) (u : ℕ) → x.start < end → Starts (kept cap end (x ∷ xs)) u → (x.start ≡ u) ⊎ Starts (kept cap end xs) u
        in_kept x xs u lt k = subst (λ zs. Starts zs u) (kept_in x xs lt) k

  kept_starts : (steps : List Step) (t : ℕ) → t < end → Starts steps t → Starts (kept cap end steps) t
  kept_starts [] t below h = h
  kept_starts (s ∷ steps) t below (inl here) = subst (λ xs. Starts xs t) (sym (kept_in s steps (omega (arith, here)))) (inl here)
  kept_starts (s ∷ steps) t below (inr there) =
      elim (cases_lt s.start end) [
        | inl lt ↦ subst (λ xs. Starts xs t) (sym (kept_in s steps lt)) (inr (kept_starts steps t below there))
        | inr ge ↦ subst (λ xs. Starts xs t) (sym (kept_out s steps ge)) (kept_starts steps t below there)
      ]

  begins_kept : (steps : List Step) → 0 < end → Begins 0 steps → Begins 0 (kept cap end steps)
  begins_kept [] some h = h
  begins_kept (s ∷ steps) some h = subst (Begins 0) (sym (kept_in s steps (omega (arith, h)))) h

starts_below : (steps : List Step) (low end t : ℕ) → RiseWithin low end steps → Starts steps t → t < end
starts_below [] low end t rise h = absurd h
starts_below (s ∷ steps) low end t rise (inl here) = omega (arith, rise.1, here)
starts_below (s ∷ steps) low end t rise (inr there) = starts_below steps (s.start + 1) end t rise.2 there

begins_starts : (steps : List Step) (t : ℕ) → Begins t steps → Starts steps t
begins_starts [] t h = absurd h
begins_starts (s ∷ steps) t h = inl h

rise_push : (steps : List Step) (low end later : ℕ) (s : Step) → RiseWithin low end steps → low ≤ s.start → end ≤ s.start → s.start < later → RiseWithin low later (steps ++ s ∷ [])
rise_push [] low end later s rise first h k = (first, k, tt)
rise_push (x ∷ xs) low end later s rise first h k =
    (rise.0, omega (arith, rise.1), rise_push xs (x.start + 1) end later s rise.2 (omega (arith, rise.1)) h k)

starts_push : (steps : List Step) (s : Step) (t : ℕ) → Starts (steps ++ s ∷ []) t → Starts steps t ⊎ (s.start ≡ t)
starts_push [] s t (inl here) = inr here
starts_push [] s t (inr there) = inl there
starts_push (x ∷ xs) s t (inl here) = inl (inl here)
starts_push (x ∷ xs) s t (inr there) = elim (starts_push xs s t there) [ inl h ↦ inl (inr h) | inr h ↦ inr h ]

push_starts : (steps : List Step) (s : Step) (t : ℕ) → Starts steps t ⊎ (s.start ≡ t) → Starts (steps ++ s ∷ []) t
push_starts [] s t (inl h) = absurd h
push_starts [] s t (inr h) = inl h
push_starts (x ∷ xs) s t (inl (inl here)) = inl here
push_starts (x ∷ xs) s t (inl (inr there)) = inr (push_starts xs s t (inl there))
push_starts (x ∷ xs) s t (inr h) = inr (push_starts xs s t (inr h))

begins_push : (steps : List Step) (s : Step) → Begins 0 steps → Begins 0 (steps ++ s ∷ [])
begins_push [] s h = absurd h
begins_push (x ∷ xs) s h = h

-- none of the entries starts below 0
kept_none : (cap : ℕ) (steps : List Step) → kept cap 0 steps ≡ []
kept_none cap [] = refl
kept_none cap (s ∷ steps) = kept_out cap 0 s steps (omega arith) ∙ kept_none cap steps

module _ (schedule : Schedule) (cap departure : ℕ) (is : IsSchedule schedule) (some : 0 < departure) where
  entries : List Step
  entries = schedule.entries.items

  -- the schedule ends behind the departure
  pub limits_whole : departure ≤ schedule.end → length (kept cap departure schedule.entries.items) ≤ 129 →
      AreLimits schedule cap departure (kept cap departure schedule.entries.items)
  limits_whole long few = record {
    begins = begins_kept cap departure schedule.entries.items some is.begins;
    rise = rise_kept cap departure schedule.entries.items 0 (schedule.end + 1) is.rise;
    few = few;
    power = λ t below. watts_kept cap departure schedule.entries.items t below ∙ sym (open_at t (omega arith));
    marked = λ t h. inr (inl (starts_kept cap departure schedule.entries.items t h));
    marks = λ t below h. elim h [
      | inl zero' ↦ kept_starts cap departure schedule.entries.items t below (subst (Starts schedule.entries.items) (sym zero') (begins_starts schedule.entries.items 0 is.begins))
      | inr later ↦ elim later [
        | inl start ↦ kept_starts cap departure schedule.entries.items t below start
        | inr end' ↦ absurd (omega (arith, end'))
      ]
    ];
  } where
    open_at : (t : ℕ) → t < schedule.end → allowed schedule cap t ≡ min cap (watts_at schedule.entries.items t)
    open_at t h = ap (λ b. min cap (cond b (watts_at schedule.entries.items t) 0)) (lt-ltb t schedule.end h)

  -- the schedule ends before the departure
  pub limits_ended : schedule.end < departure → length (kept cap schedule.end schedule.entries.items) ≤ 128 →
      AreLimits schedule cap departure (kept cap schedule.end schedule.entries.items ++ step_of schedule.end 0 ∷ [])
  limits_ended ends few = record {
    begins = begins;
    rise = rise_push front 0 schedule.end departure last (rise_kept cap schedule.end schedule.entries.items 0 (schedule.end + 1) is.rise) (omega arith) (omega arith) ends;
    few = omega (arith, length-append front (last ∷ []));
    power = λ t below. elim (cases_lt t schedule.end) [
      | inl lt ↦
          held_append front (last ∷ []) 0 t ∙ held_waiting last [] (held 0 front t) t lt ∙ watts_kept cap schedule.end schedule.entries.items t lt
          ∙ ap (λ b. min cap (cond b (watts_at schedule.entries.items t) 0)) (sym (lt-ltb t schedule.end lt))
      | inr ge ↦
          held_append front (last ∷ []) 0 t ∙ held_begun last [] (held 0 front t) t ge ∙ none
          ∙ ap (λ b. min cap (cond b (watts_at schedule.entries.items t) 0)) (sym (le-ltb t schedule.end ge))
    ];
    marked = λ t h. elim (starts_push front last t h) [
      | inl early ↦ inr (inl (starts_kept cap schedule.end schedule.entries.items t early))
      | inr here ↦ inr (inr (sym here))
    ];
    marks = λ t below h. elim h [
      | inl zero' ↦ subst (Starts (front ++ last ∷ [])) (sym zero') (begins_starts (front ++ last ∷ []) 0 begins)
      | inr later ↦ elim later [
        | inl start ↦ elim (cases_lt t schedule.end) [
          | inl lt ↦ push_starts front last t (inl (kept_starts cap schedule.end schedule.entries.items t lt start))
          | inr ge ↦ push_starts front last t (inr (omega (arith, starts_below schedule.entries.items 0 (schedule.end + 1) t is.rise start)))
        ]
        | inr end' ↦ push_starts front last t (inr (sym end'))
      ]
    ];
  } where
    front : List Step
    front = kept cap schedule.end schedule.entries.items

    last : Step
    last = step_of schedule.end 0

    none : 0 ≡ min cap 0
    none = omega arith

    begins : Begins 0 (front ++ last ∷ [])
    begins = elim (cases_lt 0 schedule.end) [
      | inl lt ↦ begins_push front last (begins_kept cap schedule.end schedule.entries.items lt is.begins)
      | inr ge ↦
          let e : schedule.end ≡ 0 = omega arith in
          let none' : front ≡ [] = ap (λ n. kept cap n schedule.entries.items) e ∙ kept_none cap schedule.entries.items in
          subst (λ xs. Begins 0 (xs ++ last ∷ [])) (sym none') e
    ]
