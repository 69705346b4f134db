-- ISO 15118-2:2014, section 8.8.4: whole sessions of a car, from the connection to SessionStop. The contactor is ordered closed once in
-- each round, and open again.
use Rattle.std.specs.Prelude.{◌≡◌, pos, true, false, List, [], ◌∷◌, ◌++◌, Some, None}
use Rattle.charge_world.specs.declared.offer.Dialect.TheVariants as dialect
use Rattle.charge_world.specs.declared.ports.Order.TheVariants as order
use Rattle.session_words.specs.declared.cause.EndCause.TheVariants as cause
use Rattle.session_words.specs.declared.code.Notify.TheVariants as notify
use Rattle.session_words.specs.declared.code.Processing.TheVariants as processing
use Rattle.session_words.specs.declared.code.Progress.{Progress}
use Rattle.session_words.specs.declared.code.Progress.TheVariants as progress
use Rattle.session_words.specs.declared.limits.CarLimits.TheVariants as limits
use Rattle.session_words.specs.declared.mode.Mode.TheVariants as mode
use Rattle.session_words.specs.declared.mode.OfferedMode.{OfferedMode}
use Rattle.session_words.specs.declared.mode.OfferedMode.TheVariants as offered
use Rattle.session_words.specs.declared.word.Ask.{Ask}
use Rattle.session_words.specs.declared.word.Ask.TheVariants as ask
use Rattle.session_words.specs.declared.word.Tell.TheVariants as tell
use Rattle.session_rules.specs.Offers.{amount}
use Rattle.post_spec.specs.Steps.{Came, Clock}
use Rattle.car_spec.specs.Codecs.{Chosen}
use Rattle.car_examples.specs.Playing.{unplayed}
use Rattle.car_examples.specs.Fixtures.{dc_car, ac_car, told, setup, services, authorization, parameters, cable_check, pre_charge, delivery, demand, charging_status, welding}
use Rattle.car_examples.specs.Sessions.{Shown, Offered, Ordered, Asks, Ended, Hearing, heard, told_at, shown_in}

-- up to the charge parameters; the first authorization isn't finished yet
abbrev pub sets_up : OfferedMode → List Hearing
sets_up mode =
    heard 0 (Came 1) ∷
    told_at 100 (Chosen (Some dialect.Iso)) ∷
    told_at 200 (told setup) ∷
    told_at 300 (told (services mode)) ∷
    told_at 400 (told tell.PaymentSelection) ∷
    told_at 500 (told (authorization processing.Ongoing)) ∷
    heard 600 Clock ∷
    told_at 700 (told (authorization processing.Finished)) ∷
    told_at 800 (told (parameters processing.Finished)) ∷ []

abbrev pub is_set_up : List Shown
is_set_up =
    Offered ∷
    Asks (ask.SessionSetup (record { items = 0 ∷ 1 ∷ 2 ∷ 3 ∷ 4 ∷ 5 ∷ [] })) ∷
    Asks ask.ServiceDiscovery ∷
    Asks (ask.PaymentSelection true (record { items = 1 ∷ [] })) ∷
    Asks ask.Authorization ∷ Asks ask.Authorization ∷ []

abbrev pub delivers : Progress → Ask
delivers progress = ask.PowerDelivery progress (Some (pos 1)) None

abbrev pub checks_cable : Ask
checks_cable = ask.CableCheck true 20

abbrev pub pre_charges : Ask
pre_charges = ask.PreCharge true 20 (amount 4000) (amount 1000)

abbrev pub demands : Ask
demands = ask.CurrentDemand true 20 (amount 4000) (amount 1000)

-- in direct current: the second pre-charge is near, two charging replies are heard, one welding detection follows
abbrev pub charges : List Hearing
charges =
    told_at 900 (told (cable_check processing.Finished)) ∷
    told_at 1000 (told (pre_charge 1000)) ∷
    heard 1100 Clock ∷
    told_at 1200 (told (pre_charge 3800)) ∷
    told_at 1300 (told delivery) ∷
    told_at 1400 (told (demand notify.None)) ∷
    heard 1500 Clock ∷
    told_at 1600 (told (demand notify.None)) ∷
    told_at 1700 (told delivery) ∷
    told_at 1800 (told welding) ∷
    told_at 1900 (told tell.SessionStop) ∷ []

abbrev pub DirectCurrent : Type 0
DirectCurrent = shown_in dc_car (sets_up offered.DcExtended ++ charges) unplayed ≡ is_set_up ++
    Asks (ask.ChargeParameters mode.DcExtended (limits.Dc false 20 (amount 2000) (Some (amount 50000)) (amount 4500))) ∷
    Asks checks_cable ∷ Asks pre_charges ∷ Asks pre_charges ∷
    Ordered order.Close ∷ Asks (delivers progress.Start) ∷
    Asks demands ∷ Asks demands ∷
    Asks (delivers progress.Stop) ∷
    Ordered order.Open ∷ Asks (ask.WeldingDetection true 20) ∷
    Asks (ask.SessionStop false) ∷ Ended cause.Stopped ∷ []

-- in alternating current, where the post asks to negotiate anew behind the first charging reply, and to stop behind the second
abbrev pub charges_ac : List Hearing
charges_ac =
    told_at 900 (told delivery) ∷
    told_at 1000 (told (charging_status notify.ReNegotiation)) ∷
    told_at 1100 (told delivery) ∷
    told_at 1200 (told (parameters processing.Finished)) ∷
    told_at 1300 (told delivery) ∷
    told_at 1400 (told (charging_status notify.StopCharging)) ∷
    told_at 1500 (told delivery) ∷
    told_at 1600 (told tell.SessionStop) ∷ []

abbrev pub asks_parameters : Shown
asks_parameters = Asks (ask.ChargeParameters mode.AcThreePhaseCore (limits.Ac (amount 2000) (amount 60) (amount 4500)))

abbrev pub AlternatingCurrent : Type 0
AlternatingCurrent = shown_in ac_car (sets_up offered.AcThreePhaseCore ++ charges_ac) unplayed ≡ is_set_up ++
    asks_parameters ∷ Asks (delivers progress.Start) ∷
    Ordered order.Close ∷ Asks ask.ChargingStatus ∷
    Asks (delivers progress.Renegotiate) ∷
    Ordered order.Open ∷ asks_parameters ∷ Asks (delivers progress.Start) ∷
    Ordered order.Close ∷ Asks ask.ChargingStatus ∷
    Asks (delivers progress.Stop) ∷
    Ordered order.Open ∷ Asks (ask.SessionStop false) ∷ Ended cause.Stopped ∷ []
