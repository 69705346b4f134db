-- In every run the identifier in a car's requests is the one that the reply to SessionSetup gave, once there was one, as long as no other
-- cause than a pause was found.
use Rattle.std.proofs.Common.{◌≡◌, ℕ, nat_lt, Bool, true, false, not, ◌&&◌, ◌||◌, if◌then◌else◌, List, [], ◌∷◌, ◌++◌, Option, Some, None, Result, Ok, Err, refl, sym, ap, subst, ◌∙◌, is_some}
use Rattle.std.specs.Option.{option_map}
use Rattle.charge_world.specs.declared.entry.Entry.{Entry}
use Rattle.charge_world.specs.declared.heard.PlantEvent.{PlantEvent}
use Rattle.charge_world.specs.declared.heard.PlantEvent.TheVariants as plant
use Rattle.charge_world.specs.declared.offer.Dialect.{Dialect}
use Rattle.charge_world.specs.declared.ports.Order.{Order}
use Rattle.session_words.specs.declared.cause.EndCause.{EndCause}
use Rattle.session_words.specs.declared.cause.EndCause.TheVariants as cause
use Rattle.arrayvec.specs.ArrayVec.{ArrayVec}
use Rattle.session_words.specs.declared.limits.EvseId.{EvseId}
use Rattle.session_words.specs.declared.plan.CarPlan.{CarPlan}
use Rattle.session_words.specs.declared.session.SessionId.{SessionId}
use Rattle.session_words.specs.declared.word.Ask.TheVariants as ask
use Rattle.session_words.specs.declared.word.Reply.{Reply}
use Rattle.session_words.specs.declared.word.Tell.{Tell}
use Rattle.session_words.specs.declared.word.Tell.TheVariants as tell
use Rattle.v2gtp_frames.specs.declared.FrameFault.{FrameFault}
use Rattle.v2gtp_frames.specs.Reading.{whole_at}
use Rattle.session_rules.specs.Finishing.{is_ac}
use Rattle.session_rules.specs.Lines.{line, first_line}
use Rattle.session_rules.specs.Verdict.{is_accepted}
use Rattle.post_spec.specs.Steps.{Event, Came, Bytes, Gone, Datagram, Plant, Clock, Over}
use Rattle.station_spec.specs.Acting.{live_ordered}
use Rattle.car_rules.specs.declared.deadlines.CarDue.{CarDue}
use Rattle.car_rules.specs.declared.searching.Search.{Search}
use Rattle.car_rules.specs.declared.stage.CarPhase.{CarPhase}
use Rattle.car_rules.specs.declared.stage.CarPhase.TheVariants as phase
use Rattle.car_rules.specs.declared.stage.CarStage.{CarStage}
use Rattle.car_rules.specs.Deadlines.{due_at, is_reached, due, awaits_setup, setup_due, span_in, message_due, step_due_in, step_due, hit_by, hit}
use Rattle.car_rules.specs.Moves.{is_again, session_behind, stage_behind}
use Rattle.car_rules.specs.Replies.{answers, is_setting_up, is_misnamed, is_wrong, lacks_mode, is_ending, stop_cause, reply_cause, plant_cause}
use Rattle.car_rules.specs.Requests.{charging_ask, ask_of}
use Rattle.car_rules.specs.Searching.{is_searching, search_due}
use Rattle.car_spec.specs.Acting.{awaiting, failing, acted, state}
use Rattle.car_spec.specs.Codecs.{Judged, Chosen, Told, WrongSide, Refused, Codecs}
use Rattle.car_spec.specs.Deciding.{ending_if, ending_in, greeting, calling, charging, eventing, fronting_by, fronting, repeating, decided}
use Rattle.car_spec.specs.Due.{session_deadlines, all_deadlines, is_due}
use Rattle.car_spec.specs.Hearing.{session_heard}
use Rattle.car_spec.specs.Judging.{Payload, payload_in, wanted, moved, replied, replied_by, judged, judged_in, read, IsRead}
use Rattle.car_spec.specs.Next.{IsQuiet}
use Rattle.car_spec.specs.Runs.{MayHear, IsRun}
use Rattle.car_spec.specs.States.{Agenda, Session, State, first, first_of, is_none, is_done}
use Rattle.car_spec.specs.States as states
use Rattle.car_spec.specs.Steps.{Spoken, Act, Seek, Dial, Give, Say, End, Step, Hears, Loses, Reads, Does}
use Rattle.car_spec.specs.Told.{given, given_by}
use Rattle.car_laws.proofs.Decided.{decided_by}
use Rattle.evcc_machine.proofs.Quiet.{stays}
use Rattle.evcc_machine.specs.Views.{stage_in}
use Rattle.car_acts.specs.Reporting.{session_in}

-- no cause was found, or a pause
abbrev pub IsFine : Option EndCause → Type 0
IsFine None = Unit {0}
IsFine (Some cause.Paused) = Unit {0}
IsFine (Some other) = ⊥

abbrev pub IsNamedIn : List Step → Option CarStage → Type 0
IsNamedIn steps None = Unit {0}
IsNamedIn steps (Some stage) = is_setting_up stage.phase ≡ false → given steps ≡ Some stage.session

abbrev pub IsSetUp : Option CarStage → Type 0
IsSetUp None = ⊥
IsSetUp (Some stage) = is_setting_up stage.phase ≡ false

pub record IsNamed (steps : List Step) (s : State) : Type 0 where
  pub named : IsFine s.agenda.ending → IsNamedIn steps (stage_in s.session)
  pub paused : s.agenda.ending ≡ Some cause.Paused → IsSetUp (stage_in s.session)

no_pause : (found : EndCause) → (found ≡ cause.Paused → ⊥) → Some found ≡ Some cause.Paused → ⊥
no_pause found f e = f (let same : found ≡ cause.Paused = cc in same)

-- ---- no deadline is a pause

-- a deadline that runs is of another cause
pub record IsNoPause (o : Option CarDue) : Type 0 where
  pub other : (d : CarDue) → o ≡ Some d → d.cause ≡ cause.Paused → ⊥

reached_not : (d : CarDue) (later : Option EndCause) (b : Bool) → (d.cause ≡ cause.Paused → ⊥) → (later ≡ Some cause.Paused → ⊥) → (if b then Some d.cause else later) ≡ Some cause.Paused → ⊥
reached_not d later true f g e = no_pause d.cause f e
reached_not d later false f g e = g e

hit_not : (d : Option CarDue) (now : ℕ) (later : Option EndCause) → IsNoPause d → (later ≡ Some cause.Paused → ⊥) → hit_by d now later ≡ Some cause.Paused → ⊥
hit_not None now later f g e = g e
hit_not (Some d) now later f g e = reached_not d later (is_reached d.moment now) (f.other d refl) g e

same_due : (x y : CarDue) → Some x ≡ Some y → x ≡ y
same_due x y e = cc

none_not : IsNoPause None
none_not = record { other = λ d e is. (let f : None ≡ Some d = e in cc) }

due_by : (found : EndCause) (o : Option ℕ) → (found ≡ cause.Paused → ⊥) → IsNoPause (option_map (λ moment. record { cause = found; moment = moment }) o)
due_by found None f = none_not
due_by found (Some moment) f = record {
  other = λ d e is. f (ap (λ (x : CarDue). x.cause) (same_due (record { cause = found; moment = moment }) d e) ∙ is);
}

due_not : (found : EndCause) (at span : ℕ) → (found ≡ cause.Paused → ⊥) → IsNoPause (due found at span)
due_not found at span f = due_by found (due_at at span) f

setup_not : (b : Bool) (came : ℕ) → IsNoPause (if b then due cause.SetupTimeout came 20000 else None)
setup_not true came = due_not cause.SetupTimeout came 20000 (λ e. cc)
setup_not false came = none_not

message_not : (plan : CarPlan) (stage : Option CarStage) (sent : Option ℕ) → IsNoPause (message_due plan stage sent)
message_not plan stage None = none_not
message_not plan stage (Some at) = due_not cause.MessageTimeout at (span_in plan stage) (λ e. cc)

step_in_not : (p : CarPhase) (begun : ℕ) → IsNoPause (step_due_in p begun)
step_in_not phase.Authorizing begun = due_not cause.OngoingTimeout begun 60000 (λ e. cc)
step_in_not phase.Asking begun = due_not cause.OngoingTimeout begun 60000 (λ e. cc)
step_in_not phase.CableChecking begun = due_not cause.CableCheckTimeout begun 40000 (λ e. cc)
step_in_not phase.PreCharging begun = due_not cause.PreChargeTimeout begun 7000 (λ e. cc)
step_in_not phase.SettingUp begun = none_not
step_in_not phase.Discovering begun = none_not
step_in_not phase.Selecting begun = none_not
step_in_not phase.Starting begun = none_not
step_in_not phase.Charging begun = none_not
step_in_not phase.Stopping begun = none_not
step_in_not phase.Renegotiating begun = none_not
step_in_not (phase.Welding left) begun = none_not
step_in_not phase.Ending begun = none_not

step_not : (stage : Option CarStage) (begun : ℕ) → IsNoPause (step_due stage begun)
step_not None begun = none_not
step_not (Some stage) begun = step_in_not stage.phase begun

search_if : (b : Bool) (last : ℕ) → IsNoPause (if b then due cause.NoOffer last 250 else None)
search_if true last = due_not cause.NoOffer last 250 (λ e. cc)
search_if false last = none_not

search_not : (plan : CarPlan) (search : Search) → IsNoPause (search_due plan search)
search_not plan search = search_if (is_searching plan search && not (nat_lt search.asked 50)) search.last

deadlines_not : (plan : CarPlan) (session : Option Session) (search : Search) (now : ℕ) → hit (session_deadlines plan session ++ search_due plan search ∷ []) now ≡ Some cause.Paused → ⊥
deadlines_not plan None search now e = hit_not (search_due plan search) now None (search_not plan search) (λ f. cc) e
deadlines_not plan (Some session) search now e =
    hit_not (setup_due session.stage session.moments.came) now _ (setup_not (awaits_setup session.stage) session.moments.came)
    (hit_not (message_due plan session.stage session.moments.sent) now _ (message_not plan session.stage session.moments.sent)
    (hit_not (step_due session.stage session.moments.begun) now _ (step_not session.stage session.moments.begun)
    (hit_not (search_due plan search) now None (search_not plan search) (λ f. cc)))) e

-- ---- what is decided is no pause

ending_not : (o : Option EndCause) (live : Bool) → (o ≡ Some cause.Paused → ⊥) → (ending_if o live).ending ≡ Some cause.Paused → ⊥
ending_not None live f e = cc
ending_not (Some found) live f e = f e

in_not : (o : Option Session) (found : EndCause) (live : Bool) → (found ≡ cause.Paused → ⊥) → (ending_in o found live).ending ≡ Some cause.Paused → ⊥
in_not None found live f e = cc
in_not (Some session) found live f e = no_pause found f e

greeting_not : (stood live : Bool) → (greeting stood live).ending ≡ Some cause.Paused → ⊥
greeting_not true live e = cc
greeting_not false live e = cc

calling_not : (plan : CarPlan) (search : Search) (datagram : List ℕ) (b : Bool) → is_searching plan search ≡ b → (calling plan search datagram).ending ≡ Some cause.Paused → ⊥
calling_not plan search datagram true e f = let g : None ≡ Some cause.Paused = rw e at f in cc
calling_not plan search datagram false e f = let g : None ≡ Some cause.Paused = rw e at f in cc

plant_not : (event : PlantEvent) → plant_cause event ≡ Some cause.Paused → ⊥
plant_not plant.Emergency e = cc
plant_not (plant.Pilot state) e = cc
plant_not (plant.Isolation level) e = cc
plant_not (plant.Measured voltage current) e = cc
plant_not (plant.Feedback closed) e = cc
plant_not plant.Paid e = cc
plant_not plant.StopAsked e = cc
plant_not plant.RenewAsked e = cc

charging_not : (o : Option Session) (event : PlantEvent) (live : Bool) → (charging o event live).ending ≡ Some cause.Paused → ⊥
charging_not None event live e = cc
charging_not (Some session) event live e = ending_not (plant_cause event) live (plant_not event) e

eventing_not : (plan : CarPlan) (event : Event) (s : State) → (eventing plan event s).ending ≡ Some cause.Paused → ⊥
eventing_not plan (Came token) s e = greeting_not s.stood s.live e
eventing_not plan (Bytes bytes) s e = cc
eventing_not plan Gone s e = in_not s.session cause.Gone s.live (λ f. cc) e
eventing_not plan (Datagram bytes) s e = calling_not plan s.search bytes _ refl e
eventing_not plan (Plant event) s e = charging_not s.session event s.live e
eventing_not plan Clock s e = cc
eventing_not plan Over s e = cc

front_not : (r : Result (Option ℕ) FrameFault) (live : Bool) → (fronting_by r live).ending ≡ Some cause.Paused → ⊥
front_not (Err fault) live e = cc
front_not (Ok count) live e = cc

fronting_not : (o : Option Session) (live : Bool) → (fronting o live).ending ≡ Some cause.Paused → ⊥
fronting_not None live e = cc
fronting_not (Some session) live e = front_not (whole_at session.unread) live e

again_not : (plan : CarPlan) (session : Session) (at : ℕ) (b : Bool) → is_due session.again at ≡ b → (repeating plan (Some session) at).ending ≡ Some cause.Paused → ⊥
again_not plan session at true e f = let g : None ≡ Some cause.Paused = rw e at f in cc
again_not plan session at false e f = let g : None ≡ Some cause.Paused = rw e at f in cc

repeating_not : (plan : CarPlan) (o : Option Session) (at : ℕ) → (repeating plan o at).ending ≡ Some cause.Paused → ⊥
repeating_not plan None at e = cc
repeating_not plan (Some session) at e = again_not plan session at _ refl e

-- an agenda that is done has no ending
no_ending : (port : Option ℕ) (order : Option Order) (spoken : Option Spoken) (ending : Option EndCause) (seeks : Bool) → first_of port order spoken ending seeks ≡ None → ending ≡ None
no_ending (Some port) order spoken ending seeks e = cc
no_ending None (Some order) spoken ending seeks e = cc
no_ending None None (Some spoken) ending seeks e = cc
no_ending None None None (Some found) seeks e = cc
no_ending None None None None seeks e = refl

is_none_none : (o : Option states.Todo) → is_none o ≡ true → o ≡ None
is_none_none None e = refl
is_none_none (Some todo) e = cc

both_done : (a b : Bool) → (a && b) ≡ true → a ≡ true
both_done true b e = refl
both_done false b e = e

done_fine : (a : Agenda) → first a ≡ None → IsFine a.ending
done_fine a e = subst IsFine (sym (no_ending a.port a.order a.spoken a.ending a.seeks e)) tt

decided_named : (plan : CarPlan) (steps : List Step) (s : State) → IsNamed steps s → IsNamed steps (decided plan s)
decided_named plan steps s h = decided_by (IsNamed steps) plan s
    (λ d.
    let done : first s.agenda ≡ None = is_none_none (first s.agenda) (both_done (is_done s.agenda) (not s.over) d) in
    let named = h.named (done_fine s.agenda done) in
    record {
      times = λ early. record { named = λ f. named; paused = λ e. absurd (ending_not (hit (all_deadlines plan s) s.clock) s.live (deadlines_not plan s.session s.search s.clock) e) };
      events = λ early. record { named = λ f. named; paused = λ e. absurd (eventing_not plan s.event s e) };
      fronts = record { named = λ f. named; paused = λ e. absurd (fronting_not s.session s.live e) };
      repeats = record { named = λ f. named; paused = λ e. absurd (repeating_not plan s.session s.clock e) };
      seeks = record { named = λ f. named; paused = λ e. (let f : None ≡ Some cause.Paused = e in cc) };
    }) h

-- ---- a hearing

heard_named : (steps : List Step) (at : ℕ) (event : Event) (session : Option Session) → IsNamedIn steps (stage_in session) → IsNamedIn (Hears at event ∷ steps) (stage_in (session_heard event at session))
heard_named steps at (Came token) None h = tt
heard_named steps at (Bytes bytes) None h = tt
heard_named steps at Gone None h = tt
heard_named steps at (Datagram bytes) None h = tt
heard_named steps at (Plant event) None h = tt
heard_named steps at Clock None h = tt
heard_named steps at Over None h = tt
heard_named steps at event (Some session) h = heard_stage steps at event session.stage h
  where
    heard_stage : (steps : List Step) (at : ℕ) (event : Event) (o : Option CarStage) → IsNamedIn steps o → IsNamedIn (Hears at event ∷ steps) o
    heard_stage steps at event None h = tt
    heard_stage steps at event (Some stage) h = h

lost_named : (steps : List Step) (o : Option CarStage) → IsNamedIn steps o → IsNamedIn (Loses ∷ steps) o
lost_named steps None h = tt
lost_named steps (Some stage) h = h

did_named : (steps : List Step) (a : Act) (taken : Bool) (o : Option CarStage) → IsNamedIn steps o → IsNamedIn (Does a taken ∷ steps) o
did_named steps a taken None h = tt
did_named steps a taken (Some stage) h = h

-- ---- a word

-- the first line that applies
no_cause : (w f l e : Bool) (stop : EndCause) → first_line (line w (Some cause.WrongReply) ∷ line f (Some cause.CodeFailed) ∷ line l (Some cause.NoOffer) ∷ line e (Some stop) ∷ []) None ≡ None → w ≡ false
no_cause true f l e stop h = cc
no_cause false f l e stop h = refl

pause_lines : (w f l e : Bool) (stop : EndCause) → first_line (line w (Some cause.WrongReply) ∷ line f (Some cause.CodeFailed) ∷ line l (Some cause.NoOffer) ∷ line e (Some stop) ∷ []) None ≡ Some cause.Paused
    → (w ≡ false) × (e ≡ true)
pause_lines true f l e stop h = cc
pause_lines false true l e stop h = cc
pause_lines false false true e stop h = cc
pause_lines false false false true stop h = (refl, refl)
pause_lines false false false false stop h = cc

right_answer : (a b c : Bool) → (not a || not b || c) ≡ false → b ≡ true
right_answer true true c e = refl
right_answer true false c e = let f : true ≡ false = e in cc
right_answer false b c e = let f : true ≡ false = e in cc

ending_set_up : (p : CarPhase) → is_ending p ≡ true → is_setting_up p ≡ false
ending_set_up phase.SettingUp e = let f : false ≡ true = e in cc
ending_set_up phase.Discovering e = let f : false ≡ true = e in cc
ending_set_up phase.Selecting e = let f : false ≡ true = e in cc
ending_set_up phase.Authorizing e = let f : false ≡ true = e in cc
ending_set_up phase.Asking e = let f : false ≡ true = e in cc
ending_set_up phase.CableChecking e = let f : false ≡ true = e in cc
ending_set_up phase.PreCharging e = let f : false ≡ true = e in cc
ending_set_up phase.Starting e = let f : false ≡ true = e in cc
ending_set_up phase.Charging e = let f : false ≡ true = e in cc
ending_set_up phase.Stopping e = let f : false ≡ true = e in cc
ending_set_up phase.Renegotiating e = let f : false ≡ true = e in cc
ending_set_up (phase.Welding left) e = let f : false ≡ true = e in cc
ending_set_up phase.Ending e = refl

-- the kinds of requests and replies
charging_answers : (plan : CarPlan) (evse : EvseId) (b : Bool) → is_ac plan.mode ≡ b → answers (charging_ask plan) (tell.SessionSetup evse) ≡ true → ⊥
charging_answers plan evse true a e = let f : false ≡ true = rw a at e in cc
charging_answers plan evse false a e = let f : false ≡ true = rw a at e in cc

setup_answers : (plan : CarPlan) (d : Dialect) (p : CarPhase) (evse : EvseId) → answers (ask_of plan d p) (tell.SessionSetup evse) ≡ true → is_setting_up p ≡ true
setup_answers plan d phase.SettingUp evse e = refl
setup_answers plan d phase.Discovering evse e = let f : false ≡ true = e in cc
setup_answers plan d phase.Selecting evse e = let f : false ≡ true = e in cc
setup_answers plan d phase.Authorizing evse e = let f : false ≡ true = e in cc
setup_answers plan d phase.Asking evse e = let f : false ≡ true = e in cc
setup_answers plan d phase.CableChecking evse e = let f : false ≡ true = e in cc
setup_answers plan d phase.PreCharging evse e = let f : false ≡ true = e in cc
setup_answers plan d phase.Starting evse e = let f : false ≡ true = e in cc
setup_answers plan d phase.Charging evse e = absurd (charging_answers plan evse _ refl e)
setup_answers plan d phase.Stopping evse e = let f : false ≡ true = e in cc
setup_answers plan d phase.Renegotiating evse e = let f : false ≡ true = e in cc
setup_answers plan d (phase.Welding left) evse e = let f : false ≡ true = e in cc
setup_answers plan d phase.Ending evse e = let f : false ≡ true = e in cc

-- the reply to another request than SessionSetup gives no identifier
kept_given : (plan : CarPlan) (d : Dialect) (p : CarPhase) (told : Tell) (named : SessionId) (earlier : Option SessionId) → is_setting_up p ≡ false → answers (ask_of plan d p) told ≡ true → given_by told named earlier ≡ earlier
kept_given plan d p (tell.SessionSetup evse) named earlier n e = absurd (let f : true ≡ false = sym (setup_answers plan d p evse e) ∙ n in cc)
kept_given plan d p (tell.ServiceDiscovery free modes) named earlier n e = refl
kept_given plan d p (tell.ServiceDetail service) named earlier n e = refl
kept_given plan d p tell.PaymentSelection named earlier n e = refl
kept_given plan d p (tell.Authorization processing) named earlier n e = refl
kept_given plan d p (tell.ChargeParameters processing schedule limits) named earlier n e = refl
kept_given plan d p (tell.CableCheck status processing) named earlier n e = refl
kept_given plan d p (tell.PreCharge status voltage) named earlier n e = refl
kept_given plan d p (tell.PowerDelivery status) named earlier n e = refl
kept_given plan d p (tell.CurrentDemand status voltage current current_cut voltage_cut watts_cut most_voltage most_current most_watts evse) named earlier n e = refl
kept_given plan d p (tell.ChargingStatus notify evse current) named earlier n e = refl
kept_given plan d p (tell.WeldingDetection status voltage) named earlier n e = refl
kept_given plan d p tell.SessionStop named earlier n e = refl

-- the reply to SessionSetup gives its own
new_given : (car : ArrayVec ℕ) (told : Tell) (named : SessionId) (earlier : Option SessionId) → answers (ask.SessionSetup car) told ≡ true → given_by told named earlier ≡ Some named
new_given car (tell.SessionSetup evse) named earlier e = refl
new_given car (tell.ServiceDiscovery free modes) named earlier e = let f : false ≡ true = e in cc
new_given car (tell.ServiceDetail service) named earlier e = let f : false ≡ true = e in cc
new_given car tell.PaymentSelection named earlier e = let f : false ≡ true = e in cc
new_given car (tell.Authorization processing) named earlier e = let f : false ≡ true = e in cc
new_given car (tell.ChargeParameters processing schedule limits) named earlier e = let f : false ≡ true = e in cc
new_given car (tell.CableCheck status processing) named earlier e = let f : false ≡ true = e in cc
new_given car (tell.PreCharge status voltage) named earlier e = let f : false ≡ true = e in cc
new_given car (tell.PowerDelivery status) named earlier e = let f : false ≡ true = e in cc
new_given car (tell.CurrentDemand status voltage current current_cut voltage_cut watts_cut most_voltage most_current most_watts evse) named earlier e = let f : false ≡ true = e in cc
new_given car (tell.ChargingStatus notify evse current) named earlier e = let f : false ≡ true = e in cc
new_given car (tell.WeldingDetection status voltage) named earlier e = let f : false ≡ true = e in cc
new_given car tell.SessionStop named earlier e = let f : false ≡ true = e in cc

moved_given : (plan : CarPlan) (d : Dialect) (p : CarPhase) (own : SessionId) (r : Reply) (earlier : Option SessionId) → answers (ask_of plan d p) r.tell ≡ true → (is_setting_up p ≡ false → earlier ≡ Some own)
    → given_by r.tell r.session earlier ≡ Some (session_behind p own r.session)
moved_given plan d phase.SettingUp own r earlier a h = new_given (record { items = plan.car_id }) r.tell r.session earlier a
moved_given plan d phase.Discovering own r earlier a h = kept_given plan d phase.Discovering r.tell r.session earlier refl a ∙ h refl
moved_given plan d phase.Selecting own r earlier a h = kept_given plan d phase.Selecting r.tell r.session earlier refl a ∙ h refl
moved_given plan d phase.Authorizing own r earlier a h = kept_given plan d phase.Authorizing r.tell r.session earlier refl a ∙ h refl
moved_given plan d phase.Asking own r earlier a h = kept_given plan d phase.Asking r.tell r.session earlier refl a ∙ h refl
moved_given plan d phase.CableChecking own r earlier a h = kept_given plan d phase.CableChecking r.tell r.session earlier refl a ∙ h refl
moved_given plan d phase.PreCharging own r earlier a h = kept_given plan d phase.PreCharging r.tell r.session earlier refl a ∙ h refl
moved_given plan d phase.Starting own r earlier a h = kept_given plan d phase.Starting r.tell r.session earlier refl a ∙ h refl
moved_given plan d phase.Charging own r earlier a h = kept_given plan d phase.Charging r.tell r.session earlier refl a ∙ h refl
moved_given plan d phase.Stopping own r earlier a h = kept_given plan d phase.Stopping r.tell r.session earlier refl a ∙ h refl
moved_given plan d phase.Renegotiating own r earlier a h = kept_given plan d phase.Renegotiating r.tell r.session earlier refl a ∙ h refl
moved_given plan d (phase.Welding left) own r earlier a h = kept_given plan d (phase.Welding left) r.tell r.session earlier refl a ∙ h refl
moved_given plan d phase.Ending own r earlier a h = kept_given plan d phase.Ending r.tell r.session earlier refl a ∙ h refl

-- an accepted reply
moved_named : (plan : CarPlan) (steps : List Step) (s : State) (session : Session) (from : CarStage) (r : Reply) (to : CarStage) (b : Bool) → is_again from.phase to.phase ≡ b → given (Reads (Told r) ∷ steps) ≡ Some to.session
    → IsNamed (Reads (Told r) ∷ steps) (moved plan s session from r to)
moved_named plan steps s session from r to true e g = rw e (record { named = λ f n. g; paused = λ x. (let f : None ≡ Some cause.Paused = x in cc) })
moved_named plan steps s session from r to false e g = rw e (record { named = λ f n. g; paused = λ x. (let f : None ≡ Some cause.Paused = x in cc) })

-- one that ends the session by a pause
named_pause : (plan : CarPlan) (steps : List Step) (awaited : Bool) (r : Reply) (o : Option CarStage) (stage : CarStage) → o ≡ Some stage → reply_cause plan stage awaited r ≡ Some cause.Paused → IsNamedIn steps (Some stage)
    → IsNamedIn (Reads (Told r) ∷ steps) o
named_pause plan steps awaited r o stage e c h =
    let lines = pause_lines (is_wrong plan stage awaited r) (not (is_accepted r.code)) (lacks_mode plan.mode r.tell) (is_ending stage.phase) (stop_cause plan stage.dialect) c in
    let answer = right_answer awaited (answers (ask_of plan stage.dialect stage.phase) r.tell) (is_misnamed stage r.session) lines.0 in
    subst (IsNamedIn (Reads (Told r) ∷ steps)) (sym e)
    (λ n. kept_given plan stage.dialect stage.phase r.tell r.session (given steps) n answer ∙ h n)

fine_pause : (found : EndCause) → IsFine (Some found) → found ≡ cause.Paused
fine_pause cause.Stopped f = absurd f
fine_pause cause.Refused f = absurd f
fine_pause cause.BadFrame f = absurd f
fine_pause cause.WrongSide f = absurd f
fine_pause cause.NoNegotiation f = absurd f
fine_pause cause.FailedReply f = absurd f
fine_pause cause.SetupTimeout f = absurd f
fine_pause cause.SequenceTimeout f = absurd f
fine_pause cause.FeedbackTimeout f = absurd f
fine_pause cause.PilotLost f = absurd f
fine_pause cause.Emergency f = absurd f
fine_pause cause.IsolationLost f = absurd f
fine_pause cause.FeedbackWrong f = absurd f
fine_pause cause.OverPower f = absurd f
fine_pause cause.Gone f = absurd f
fine_pause cause.SendFailed f = absurd f
fine_pause cause.OrderFailed f = absurd f
fine_pause cause.RunOver f = absurd f
fine_pause cause.Impatient f = absurd f
fine_pause cause.CodeFailed f = absurd f
fine_pause cause.MessageTimeout f = absurd f
fine_pause cause.CableCheckTimeout f = absurd f
fine_pause cause.PreChargeTimeout f = absurd f
fine_pause cause.OngoingTimeout f = absurd f
fine_pause cause.WrongReply f = absurd f
fine_pause cause.NoOffer f = absurd f
fine_pause cause.Paused f = refl

paused_set_up : (plan : CarPlan) (awaited : Bool) (r : Reply) (o : Option CarStage) (stage : CarStage) → o ≡ Some stage → reply_cause plan stage awaited r ≡ Some cause.Paused → IsSetUp o
paused_set_up plan awaited r o stage e c =
    let lines = pause_lines (is_wrong plan stage awaited r) (not (is_accepted r.code)) (lacks_mode plan.mode r.tell) (is_ending stage.phase) (stop_cause plan stage.dialect) c in
    subst IsSetUp (sym e) (ending_set_up stage.phase lines.1)

replied_named : (o : Option EndCause) (plan : CarPlan) (steps : List Step) (s : State) (session : Session) (stage : CarStage) (awaited : Bool) (r : Reply) → session.stage ≡ Some stage → reply_cause plan stage awaited r ≡ o → IsNamedIn steps (Some stage)
    → IsNamed (Reads (Told r) ∷ steps) (replied_by o plan s session stage r)
replied_named (Some found) plan steps s session stage awaited r e c h = record {
  named = λ fine. named_pause plan steps awaited r session.stage stage e (c ∙ ap (λ (x : EndCause). Some x) (fine_pause found fine)) h;
  paused = λ is. paused_set_up plan awaited r session.stage stage e (c ∙ is);
}
replied_named None plan steps s session stage awaited r e c h =
    let right = no_cause (is_wrong plan stage awaited r) (not (is_accepted r.code)) (lacks_mode plan.mode r.tell) (is_ending stage.phase) (stop_cause plan stage.dialect) c in
    let answer = right_answer awaited (answers (ask_of plan stage.dialect stage.phase) r.tell) (is_misnamed stage r.session) right in
    moved_named plan steps s session stage r (stage_behind plan stage r session.stop) _ refl (moved_given plan stage.dialect stage.phase stage.session r (given steps) answer h)

told_named : (plan : CarPlan) (steps : List Step) (s : State) (session : Session) (o : Option CarStage) (r : Reply) → session.stage ≡ o → IsNamedIn steps o → IsNamed (Reads (Told r) ∷ steps) (replied plan s session o r)
told_named plan steps s session None r e h = record { named = λ fine. absurd fine; paused = λ is. absurd (no_pause cause.WrongReply (λ x. cc) is) }
told_named plan steps s session (Some stage) r e h = replied_named _ plan steps s session stage (is_some session.moments.sent) r e refl h

judged_named : (plan : CarPlan) (steps : List Step) (s : State) (session : Session) (w : Judged) → IsNamedIn steps session.stage → IsNamed (Reads w ∷ steps) (judged plan s session w)
judged_named plan steps s session (Chosen None) h = record { named = λ fine. absurd fine; paused = λ is. absurd (no_pause cause.NoNegotiation (λ x. cc) is) }
judged_named plan steps s session (Chosen (Some d)) h = record { named = λ fine n. (let f : true ≡ false = n in cc); paused = λ is. (let f : None ≡ Some cause.Paused = is in cc) }
judged_named plan steps s session (Told r) h = told_named plan steps s session session.stage r refl h
judged_named plan steps s session WrongSide h = record { named = λ fine. absurd fine; paused = λ is. absurd (no_pause cause.WrongSide (λ x. cc) is) }
judged_named plan steps s session Refused h = record { named = λ fine. absurd fine; paused = λ is. absurd (no_pause cause.Refused (λ x. cc) is) }

none_wanted : (b : Bool) (session : Option Session) (w : Judged) (c : Codecs) (plan : CarPlan) → session ≡ None → IsRead c plan (if b then payload_in session else None) w → ⊥
none_wanted true session w c plan e r = subst (λ (o : Option Session). IsRead c plan (payload_in o) w) e r
none_wanted false session w c plan e r = r

not_done : (b : Bool) (o : Option Payload) (w : Judged) (c : Codecs) (plan : CarPlan) → IsRead c plan (if b then o else None) w → b ≡ true
not_done true o w c plan r = refl
not_done false o w c plan r = absurd r

read_in : (c : Codecs) (plan : CarPlan) (steps : List Step) (s : State) (session : Option Session) (w : Judged) → s.session ≡ session → IsRead c plan (wanted s) w → IsNamedIn steps (stage_in session)
    → IsNamed (Reads w ∷ steps) (judged_in plan s session w)
read_in c plan steps s None w e r h = absurd (none_wanted (is_done s.agenda) s.session w c plan e r)
read_in c plan steps s (Some session) w e r h = judged_named plan steps s session w h

read_named : (c : Codecs) (plan : CarPlan) (steps : List Step) (s : State) (w : Judged) → IsRead c plan (wanted s) w → IsNamed steps s → IsNamed (Reads w ∷ steps) (read plan s w)
read_named c plan steps s w r h =
    let done = is_none_none (first s.agenda) (not_done (is_done s.agenda) (payload_in s.session) w c plan r) in
    read_in c plan steps s s.session w refl r (h.named (done_fine s.agenda done))

-- ---- an act

failing_named : (steps : List Step) (e : Option EndCause) (found : EndCause) (live : Bool) (o : Option CarStage) → (IsFine (Some found) → ⊥) → (IsFine e → IsNamedIn steps o) → IsFine (failing e found live).ending → IsNamedIn steps o
failing_named steps None found live o f h fine = absurd (f fine)
failing_named steps (Some ending) found live o f h fine = h fine

failing_paused : (e : Option EndCause) (found : EndCause) (live : Bool) (o : Option CarStage) → (found ≡ cause.Paused → ⊥) → (e ≡ Some cause.Paused → IsSetUp o) → (failing e found live).ending ≡ Some cause.Paused → IsSetUp o
failing_paused None found live o n h is = absurd (no_pause found n is)
failing_paused (Some ending) found live o n h is = h is

awaiting_named : (steps : List Step) (now : ℕ) (session : Option Session) → IsNamedIn steps (stage_in session) → IsNamedIn steps (stage_in (option_map (awaiting now) session))
awaiting_named steps now None h = tt
awaiting_named steps now (Some session) h = h

awaiting_set_up : (now : ℕ) (session : Option Session) → IsSetUp (stage_in session) → IsSetUp (stage_in (option_map (awaiting now) session))
awaiting_set_up now None h = absurd h
awaiting_set_up now (Some session) h = h

acted_named : (plan : CarPlan) (steps : List Step) (a : Act) (taken : Bool) (s : State) → IsNamed steps s → IsNamed (Does a taken ∷ steps) (acted a taken s)
acted_named plan steps (Seek datagram) taken s h = record { named = λ f. did_named steps (Seek datagram) taken (stage_in s.session) (h.named f); paused = h.paused }
acted_named plan steps (Dial port) true s h = record { named = λ f. did_named steps (Dial port) true (stage_in s.session) (h.named f); paused = h.paused }
acted_named plan steps (Dial port) false s h = record {
  named = λ f. did_named steps (Dial port) false (stage_in s.session) (failing_named steps s.agenda.ending cause.SendFailed s.live (stage_in s.session) (λ e. e) h.named f);
  paused = λ e. failing_paused s.agenda.ending cause.SendFailed s.live (stage_in s.session) (λ x. cc) h.paused e;
}
acted_named plan steps (Give o) true s h = record { named = λ f. did_named steps (Give o) true (stage_in s.session) (h.named f); paused = h.paused }
acted_named plan steps (Give o) false s h = record {
  named = λ f. did_named steps (Give o) false (stage_in s.session) (failing_named steps s.agenda.ending cause.OrderFailed (live_ordered o false s.live) (stage_in s.session) (λ e. e) h.named f);
  paused = λ e. failing_paused s.agenda.ending cause.OrderFailed (live_ordered o false s.live) (stage_in s.session) (λ x. cc) h.paused e;
}
acted_named plan steps (Say spoken bytes) true s h = record {
  named = λ f. did_named steps (Say spoken bytes) true (stage_in (option_map (awaiting s.clock) s.session)) (awaiting_named steps s.clock s.session (h.named f));
  paused = λ e. awaiting_set_up s.clock s.session (h.paused e);
}
acted_named plan steps (Say spoken bytes) false s h = record {
  named = λ f. did_named steps (Say spoken bytes) false (stage_in s.session) (failing_named steps s.agenda.ending cause.SendFailed s.live (stage_in s.session) (λ e. e) h.named f);
  paused = λ e. failing_paused s.agenda.ending cause.SendFailed s.live (stage_in s.session) (λ x. cc) h.paused e;
}
acted_named plan steps (End number) taken s h = record { named = λ f. tt; paused = λ e. (let f : None ≡ Some cause.Paused = e in cc) }

-- ---- in every run

quiet_fine : (plan : CarPlan) (s : State) → IsQuiet plan s → IsFine s.agenda.ending
quiet_fine plan s q = done_fine s.agenda (subst (λ (t : State). first t.agenda ≡ None) (stays plan s q) q.none)

run_named : (c : Codecs) (plan : CarPlan) (past : List Entry) (steps : List Step) → IsRun c plan past steps → IsNamed steps (state plan steps)
run_named c plan past [] r = record { named = λ f. tt; paused = λ e. (let f : None ≡ Some cause.Paused = e in cc) }
run_named c plan past (Hears at event ∷ steps) r =
    let m : MayHear plan r.0 (state plan steps) = r.2 in
    let h : IsNamed steps (state plan steps) = run_named c plan r.0 steps r.1 in
    record {
      named = λ f. heard_named steps at event (state plan steps).session (h.named (quiet_fine plan (state plan steps) m.whole));
      paused = λ e. (let f : None ≡ Some cause.Paused = e in cc);
    }
run_named c plan past (Loses ∷ steps) r =
    let h : IsNamed steps (state plan steps) = run_named c plan r.0 steps r.1 in
    record { named = λ f. lost_named steps (stage_in (state plan steps).session) (h.named f); paused = h.paused }
run_named c plan past (Reads w ∷ steps) r = read_named c plan steps (decided plan (state plan steps)) w r.1 (decided_named plan steps (state plan steps) (run_named c plan past steps r.0))
run_named c plan past (Does a taken ∷ steps) r = acted_named plan steps a taken (decided plan (state plan steps)) (decided_named plan steps (state plan steps) (run_named c plan r.0 steps r.1))

-- where the car is to end by a pause, its identifier is the one that was given
paused_in : (steps : List Step) (o : Option CarStage) → IsNamedIn steps o → IsSetUp o → session_in o ≡ given steps
paused_in steps None h set_up = absurd set_up
paused_in steps (Some stage) h set_up = sym (h set_up)

pub pauses_named : (c : Codecs) (plan : CarPlan) (past : List Entry) (steps : List Step) → IsRun c plan past steps → (decided plan (state plan steps)).agenda.ending ≡ Some cause.Paused
    → session_in (stage_in (decided plan (state plan steps)).session) ≡ given steps
pauses_named c plan past steps r e =
    let h = decided_named plan steps (state plan steps) (run_named c plan past steps r) in
    let fine : IsFine (decided plan (state plan steps)).agenda.ending = subst IsFine (sym e) tt in
    paused_in steps (stage_in (decided plan (state plan steps)).session) (h.named fine) (h.paused e)
