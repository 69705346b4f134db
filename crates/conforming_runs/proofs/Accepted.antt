-- No line of the verdict applies to a conforming request, and no event that goes well is a cause.
use Rattle.std.proofs.Common.{◌≡◌, ◌≤◌, ◌<◌, ℕ, ℤ, Bool, true, false, not, ◌&&◌, ◌==◌, nat_lt, nat_le, List, [], ◌∷◌, Option, Some, None, refl, sym, ap, subst, ◌∙◌, arith}
use Rattle.std.proofs.lemmas.Grind.{common_steps}
use Rattle.std.proofs.lemmas.Slice.Eq.{bytes_eq-Decides}
use Rattle.std.specs.List.{AllByRecursion}
use Rattle.charge_world.specs.declared.heard.IsolationLevel.{IsolationLevel}
use Rattle.charge_world.specs.declared.heard.IsolationLevel.TheVariants as isolation
use Rattle.charge_world.specs.declared.heard.PilotState.{PilotState}
use Rattle.charge_world.specs.declared.heard.PilotState.TheVariants as pilot
use Rattle.charge_world.specs.declared.heard.PlantEvent.TheVariants as plant
use Rattle.charge_world.specs.declared.offer.Dialect.{Dialect}
use Rattle.charge_world.specs.declared.offer.Dialect.TheVariants as dialect
use Rattle.session_words.specs.declared.amount.Amount.{Amount}
use Rattle.session_words.specs.declared.cause.EndCause.{EndCause}
use Rattle.session_words.specs.declared.code.Progress.TheVariants as progress
use Rattle.session_words.specs.declared.facts.Facts.{Facts}
use Rattle.session_words.specs.declared.limits.CarLimits.{CarLimits}
use Rattle.session_words.specs.declared.limits.CarLimits.TheVariants as limits
use Rattle.session_words.specs.declared.mode.Mode.{Mode}
use Rattle.session_words.specs.declared.mode.Mode.TheVariants as mode
use Rattle.session_words.specs.declared.phase.Phase.{Phase}
use Rattle.session_words.specs.declared.phase.Phase.TheVariants as row
use Rattle.session_words.specs.declared.phase.Standing.{Standing}
use Rattle.session_words.specs.declared.phase.Standing.TheVariants as standing
use Rattle.session_words.specs.declared.plan.PostPlan.{PostPlan}
use Rattle.session_words.specs.declared.session.SessionId.{SessionId}
use Rattle.session_words.specs.declared.word.Ask.{Ask}
use Rattle.session_words.specs.declared.word.Ask.TheVariants as ask
use Rattle.session_rules.specs.declared.causes.Watch.{Watch}
use Rattle.session_rules.specs.declared.stage.PreCharged.{PreCharged}
use Rattle.session_rules.specs.declared.stage.Stage.{Stage}
use Rattle.session_rules.specs.Causes.{cause_if, is_pilot_lost, needs_isolation, is_closing}
use Rattle.session_rules.specs.Delivery.{is_other_tuple, is_profile_off, is_opened, is_pre_charged, delivery_lines}
use Rattle.session_rules.specs.Finishing.{is_ac, is_valid}
use Rattle.session_rules.specs.Laws.{IsNear}
use Rattle.session_rules.specs.Lines.{none_applies}
use Rattle.session_rules.specs.Parameters.{is_mode, is_within_post, has_right_units, is_right_if_there, suits}
use Rattle.session_rules.specs.Stages.{is_same, is_set_up}
use Rattle.session_rules.specs.Verdict.{content_lines, is_broken, has_other_service}
use Rattle.session_rules.proofs.VerdictLemmas.{accepts_without_line}
use Rattle.conforming_runs.specs.Requests.{IsRightIfThere, CanTake, AreParameters, NamesTheTuple, IsStart, IsSound, IsMade}
use Rattle.conforming_runs.specs.Charger.{IsThere}
use Rattle.conforming_runs.specs.Laws.{RequestsAreAccepted, EventsEndNothing}

-- Tests that fail.

both : (a b : Bool) → a ≡ true → b ≡ true → (a && b) ≡ true
both true true ha hb = refl
both true false ha hb = hb
both false b ha hb = ha

neither : (a b : Bool) → a ≡ true → b ≡ true → not (a && b) ≡ false
neither a b ha hb = ap not (both a b ha hb)

no_line : (a : Bool) (lines : Bool) → a ≡ false → lines ≡ true → (not a && lines) ≡ true
no_line false lines ha h = h
no_line true lines ha h = cc

not_less : (a b : ℕ) → b ≤ a → nat_lt a b ≡ false
not_less a b h = grind (arith, common_steps)

at_most : (a b : ℕ) → a ≤ b → nat_le a b ≡ true
at_most a b h = grind (arith, common_steps)

less : (a b : ℕ) → a < b → nat_lt a b ≡ true
less a b h = grind (arith, common_steps)

-- What a request holds.

named_right : (set_up : Bool) (named session : SessionId) → (set_up ≡ true → named ≡ session)
    → (set_up && not (is_same named session)) ≡ false
named_right false named session h = refl
named_right true named session h =
    subst (λ (id : SessionId). not (is_same named id) ≡ false) (h refl)
    (ap not ((bytes_eq-Decides named.bytes.items named.bytes.items).1 refl))

only_service : (services : List ℕ) → AllByRecursion (λ service. service ≡ 1) services
    → has_other_service services ≡ false
only_service [] h = refl
only_service (service ∷ services) h =
    subst (λ (n : ℕ). has_other_service (n ∷ services) ≡ false) (sym h.0) (only_service services h.1)

same_mode : (m : Mode) → is_mode m m ≡ true
same_mode mode.AcSinglePhaseCore = refl
same_mode mode.AcThreePhaseCore = refl
same_mode mode.DcCore = refl
same_mode mode.DcExtended = refl
same_mode mode.DcComboCore = refl
same_mode mode.DcUnique = refl

is_mode_of : (asked given : Mode) → asked ≡ given → is_mode asked given ≡ true
is_mode_of asked given h = subst (λ (m : Mode). is_mode asked m ≡ true) h (same_mode asked)

right_if_there : (watts : Option Amount) → IsRightIfThere watts → is_right_if_there watts ≡ true
right_if_there None h = refl
right_if_there (Some watts) h = h

within : (plan : PostPlan) (ac : Bool) (car : CarLimits) → CanTake plan ac car → is_within_post plan ac car ≡ true
within plan true (limits.Ac most_current least_current most_voltage) h = at_most _ _ h.within
within plan true (limits.Dc ready soc current watts voltage) h = absurd h
within plan false (limits.Dc ready soc current watts voltage) h = both _ _ (at_most _ _ h.volts) (at_most _ _ h.amperes)
within plan false (limits.Ac most_current least_current most_voltage) h = absurd h

units : (plan : PostPlan) (ac : Bool) (car : CarLimits) → CanTake plan ac car → has_right_units car ≡ true
units plan true (limits.Ac most_current least_current most_voltage) h = both _ _ h.units.volts h.units.amperes
units plan true (limits.Dc ready soc current watts voltage) h = absurd h
units plan false (limits.Dc ready soc current watts voltage) h =
    both _ _ (both _ _ h.units.volts h.units.amperes) (right_if_there watts h.watts_unit)
units plan false (limits.Ac most_current least_current most_voltage) h = absurd h

parameters_suit : (plan : PostPlan) (m : Mode) (car : CarLimits) → AreParameters plan m car → suits plan car ≡ true
parameters_suit plan m car h =
    both _ _ (both _ _ (within plan (is_ac plan.mode) car h.can_take) (units plan (is_ac plan.mode) car h.can_take)) (less _ _ h.some_watts)

sound : (level : Option IsolationLevel) → IsSound level → is_broken level ≡ false
sound None h = refl
sound (Some isolation.Invalid) h = refl
sound (Some isolation.Valid) h = refl
sound (Some isolation.Warning) h = absurd h
sound (Some isolation.Fault) h = absurd h
sound (Some isolation.NoImd) h = absurd h

one_tuple : (d : Dialect) (tuple : Option ℤ) → NamesTheTuple d tuple → is_other_tuple tuple ≡ false
one_tuple dialect.Iso tuple h = ap is_other_tuple h
one_tuple dialect.Din tuple h = ap is_other_tuple h

no_profile : (d : Dialect) (schedule : ℕ) (profile : Option Amount) → profile ≡ None
    → is_profile_off d schedule profile ≡ false
no_profile dialect.Iso schedule profile h = ap (is_profile_off dialect.Iso schedule) h
no_profile dialect.Din schedule profile h = ap (is_profile_off dialect.Din schedule) h

opened : (now : Standing) → now ≡ standing.Opened → is_opened now ≡ true
opened now h = ap is_opened h

near : (last : Option PreCharged) → IsNear last → is_pre_charged row.DcPreCharging last ≡ true
near None h = absurd h
near (Some p) h = at_most _ _ h

pre_charged : (in_row : Phase) (last : Option PreCharged) → (in_row ≡ row.DcPreCharging → IsNear last)
    → is_pre_charged in_row last ≡ true
pre_charged row.DcPreCharging last h = near last (h refl)
pre_charged other last h = refl

start_made : (s : Stage) (facts : Facts) (tuple : Option ℤ) (profile : Option Amount) → IsStart s facts tuple profile
    → none_applies (delivery_lines s facts progress.Start tuple profile) ≡ true
start_made s facts tuple profile h =
    no_line _ _ (one_tuple s.dialect tuple h.delivery.tuple_is) (
    no_line _ _ (no_profile s.dialect s.schedule profile h.delivery.profile_is) (
    no_line _ _ (ap not h.ready) (
    no_line _ _ (ap not (opened facts.contactor h.opened)) (
    no_line _ _ (ap not (pre_charged s.row s.pre_charge h.near)) refl))))

made : (s : Stage) (facts : Facts) (plan : PostPlan) (a : Ask) → IsMade s facts plan a
    → none_applies (content_lines s facts plan a) ≡ true
made s facts plan (ask.PaymentSelection external services) h =
    no_line _ _ (ap not h.0) (no_line _ _ (only_service services.items h.1) refl)
made s facts plan (ask.ServiceDetail service) h = no_line _ _ (ap (λ (n : ℕ). not (n == 1)) h) refl
made s facts plan (ask.ChargeParameters m car) h =
    no_line _ _ (ap not (is_mode_of m plan.mode h.mode_is)) (no_line _ _ (ap not (parameters_suit plan m car h)) refl)
made s facts plan (ask.CableCheck ready soc) h = no_line _ _ (ap not h.0) (no_line _ _ (sound facts.isolation h.1) refl)
made s facts plan (ask.PreCharge ready soc voltage current) h =
    no_line _ _ (neither _ _ h.0.volts h.0.amperes) (no_line _ _ (not_less _ _ h.1) refl)
made s facts plan (ask.CurrentDemand ready soc voltage current) h = no_line _ _ (neither _ _ h.volts h.amperes) refl
made s facts plan (ask.PowerDelivery progress.Start tuple profile) h = start_made s facts tuple profile h
made s facts plan (ask.PowerDelivery progress.Stop tuple profile) h = refl
made s facts plan (ask.PowerDelivery progress.Renegotiate tuple profile) h = refl
made s facts plan (ask.SessionStop true) h = no_line _ _ (ap not h) refl
made s facts plan (ask.SessionStop false) h = refl
made s facts plan (ask.SessionSetup car) h = refl
made s facts plan ask.ServiceDiscovery h = refl
made s facts plan ask.Authorization h = refl
made s facts plan ask.ChargingStatus h = refl
made s facts plan (ask.WeldingDetection ready soc) h = refl

pub requests_are_accepted : RequestsAreAccepted
requests_are_accepted s facts plan r h =
    accepts_without_line s facts plan r ∙
    no_line _ _ (named_right (is_set_up s.row) r.session s.session h.named)
    (no_line _ _ (ap not h.in_row) (made s facts plan r.ask h.made))

-- Events.

no_cause : (stands : Bool) (cause : EndCause) → stands ≡ false → cause_if stands cause ≡ None
no_cause false cause h = refl
no_cause true cause h = cc

there : (w : Watch) (state : PilotState) → IsThere w state → is_pilot_lost w.live state ≡ false
there w pilot.A h = absurd h
there w pilot.B h = h
there w pilot.C h = refl
there w pilot.D h = refl
there w pilot.E h = absurd h
there w pilot.F h = absurd h

stays_valid : (needed : Bool) (level : IsolationLevel) → (needed ≡ true → level ≡ isolation.Valid)
    → (needed && not (is_valid (Some level))) ≡ false
stays_valid false level h = refl
stays_valid true level h = ap (λ (l : IsolationLevel). not (is_valid (Some l))) (h refl)

within_power : (closing : Bool) (measured allowed : ℕ) → (closing ≡ true → measured ≤ allowed)
    → (closing && nat_lt allowed measured) ≡ false
within_power false measured allowed h = refl
within_power true measured allowed h = not_less allowed measured (h refl)

pub events_end_nothing : EventsEndNothing
events_end_nothing w (plant.Pilot state) h = no_cause _ _ (there w state h)
events_end_nothing w (plant.Isolation level) h = no_cause _ _ (stays_valid (needs_isolation w.row) level h.1)
events_end_nothing w (plant.Measured voltage current) h = no_cause _ _ (within_power (is_closing w.standing) _ _ h)
events_end_nothing w (plant.Feedback closed) h = no_cause _ _ h
events_end_nothing w plant.Paid h = refl
events_end_nothing w plant.Emergency h = absurd h
events_end_nothing w plant.StopAsked h = refl
events_end_nothing w plant.RenewAsked h = refl
