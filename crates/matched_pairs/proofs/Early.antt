-- What a request is asked again for is over within 300 ms.
use Rattle.std.proofs.Common.{◌≡◌, ℕ, ◌<◌, ◌≤◌, nat_le, Bool, true, false, List, [], ◌∷◌, Some, None, refl, ap, sym, subst, ◌∙◌, ◌⊎◌, inl, inr, arith}
use Rattle.std.proofs.lemmas.Bool.Decides.{nat_tests}
use Rattle.std.specs.List.{AllByRecursion}
use Rattle.session_words.specs.declared.plan.CarPlan.{CarPlan}
use Rattle.session_rules.specs.Finishing.{is_valid}
use Rattle.post_spec.specs.Codecs as post
use Rattle.station_spec.specs.States.{State}
use Rattle.car_rules.specs.declared.stage.CarPhase.{CarPhase}
use Rattle.car_rules.specs.declared.stage.CarPhase.TheVariants as phase
use Rattle.car_spec.specs.Codecs as car
use Rattle.pipe_spec.specs.Histories.{Happening, CarComes, ChargerTells, StationHears, CarHears, TimePasses, StationDoes, CarReads, CarDoes, CarGoes, NumberIsDrawn, moment}
use Rattle.pipe_spec.specs.Turns.{Station, station_state}
use Rattle.pipe_spec.specs.Runs.{IsRun, IsWithin}
use Rattle.pipe_laws.specs.PipePasts.{IsFirst}
use Rattle.pipe_facts.specs.InTime.{is_told}
use Rattle.pipe_facts.proofs.InTime.{pays_in_time, is_valid_in_time}
use Rattle.matched_pairs.specs.Pending.{before_word, WasUnready}
use Rattle.matched_pairs.specs.Quick.{is_quick}
use Rattle.matched_pairs.proofs.Paces.{front, first_of}

false_true : false ≡ true → ⊥
false_true e = cc

-- ---- what came before a word is the first session, as far as it had come

before_first : (c : post.Codecs) (cs : car.Codecs) (st : Station) (plan : CarPlan) (session : List Happening) → AllByRecursion IsWithin session → IsRun c cs st (front plan session)
    → is_told (before_word (front plan session)) ≡ true → IsFirst c cs st plan (before_word (front plan session))
before_first c cs st plan [] w r t = absurd (false_true t)
before_first c cs st plan (StationDoes (Some reading) act ∷ session) w r t = first_of c cs st plan session w.1 r.0
before_first c cs st plan (StationDoes None act ∷ session) w r t = before_first c cs st plan session w.1 r.0 t
before_first c cs st plan (ChargerTells event ∷ session) w r t = before_first c cs st plan session w.1 r.0 t
before_first c cs st plan (StationHears bytes ∷ session) w r t = before_first c cs st plan session w.1 r.0 t
before_first c cs st plan (CarHears bytes ∷ session) w r t = before_first c cs st plan session w.1 r.0 t
before_first c cs st plan (TimePasses ∷ session) w r t = before_first c cs st plan session w.1 r.0 t
before_first c cs st plan (CarReads word ∷ session) w r t = before_first c cs st plan session w.1 r.0 t
before_first c cs st plan (CarDoes act ∷ session) w r t = before_first c cs st plan session w.1 r.0 t
before_first c cs st plan (CarComes other ∷ session) w r t = before_first c cs st plan session w.1 r.0 t
before_first c cs st plan (CarGoes ∷ session) w r t = before_first c cs st plan session w.1 r.0 t
before_first c cs st plan (NumberIsDrawn ∷ session) w r t = before_first c cs st plan session w.1 r.0 t

-- ---- it is early

reached : (least at : ℕ) → nat_le least at ≡ true → least ≤ at
reached least at e = grind (arith, nat_tests)

not_reached : (least at : ℕ) → nat_le least at ≡ false → at < least
not_reached least at e = grind (arith, nat_tests)

before_by : (b : Bool) (least at : ℕ) → nat_le least at ≡ b → (least ≤ at → ⊥) → at < least
before_by true least at e n = absurd (n (reached least at e))
before_by false least at e n = not_reached least at e

neither : (free paid : Bool) → (free ≡ false) × (paid ≡ false) → (free ≡ true) ⊎ (paid ≡ true) → ⊥
neither free paid u (inl h) = false_true (sym u.0 ∙ h)
neither free paid u (inr h) = false_true (sym u.1 ∙ h)

sooner : (at : ℕ) → at < 100 → at < 300
sooner at l = omega (arith, l)

none_some : (n : ℕ) → n ≡ 0 → 1 ≤ n → ⊥
none_some n e l = omega (arith, e, l)

early : (step : CarPhase) (c : post.Codecs) (cs : car.Codecs) (st : Station) (plan : CarPlan) (own : CarPlan) (before : List Happening) (now : ℕ) → IsFirst c cs st own before → WasUnready st plan before now step
    → is_quick step ≡ true → moment before < 300
early phase.Authorizing c cs st plan own before now f u q =
    let s : State = station_state st before in
    let no : (_ ≡ false) × (_ ≡ false) = u.unready in
    sooner (moment before) (before_by (nat_le 100 (moment before)) 100 (moment before) refl (λ l. neither _ _ no (pays_in_time c cs st own before f u.told u.lives l)))
early phase.Asking c cs st plan own before now f u q = absurd (none_some u.shown u.unready (u.some refl))
early phase.CableChecking c cs st plan own before now f u q =
    before_by (nat_le 300 (moment before)) 300 (moment before) refl (λ l. false_true (sym u.unready ∙ ap is_valid (is_valid_in_time c cs st own before f u.told l)))
early phase.SettingUp c cs st plan own before now f u q = absurd (false_true q)
early phase.Discovering c cs st plan own before now f u q = absurd (false_true q)
early phase.Selecting c cs st plan own before now f u q = absurd (false_true q)
early phase.PreCharging c cs st plan own before now f u q = absurd (false_true q)
early phase.Starting c cs st plan own before now f u q = absurd (false_true q)
early phase.Charging c cs st plan own before now f u q = absurd (false_true q)
early phase.Stopping c cs st plan own before now f u q = absurd (false_true q)
early phase.Renegotiating c cs st plan own before now f u q = absurd (false_true q)
early (phase.Welding left) c cs st plan own before now f u q = absurd (false_true q)
early phase.Ending c cs st plan own before now f u q = absurd (false_true q)

pub unready_early : (c : post.Codecs) (cs : car.Codecs) (st : Station) (plan own : CarPlan) (session : List Happening) (now : ℕ) (step : CarPhase) → AllByRecursion IsWithin session → IsRun c cs st (front own session)
    → WasUnready st plan (before_word (front own session)) now step → is_quick step ≡ true → now < 300
unready_early c cs st plan own session now step w r u q =
    subst (λ (n : ℕ). n < 300) u.at (early step c cs st plan own (before_word (front own session)) now (before_first c cs st own session w r u.told) u q)
