-- Where a car is to end, Open is still to be ordered, or isn't needed, or failed.
use Rattle.std.proofs.Common.{◌≡◌, ℕ, Bool, true, false, List, Option, Some, None, Result, Ok, Err, refl, ◌⊎◌, inl}
use Rattle.charge_world.specs.declared.heard.PlantEvent.{PlantEvent}
use Rattle.charge_world.specs.declared.offer.Dialect.{Dialect}
use Rattle.charge_world.specs.declared.ports.Order.{Order}
use Rattle.charge_world.specs.declared.ports.Order.TheVariants as order
use Rattle.session_words.specs.declared.cause.EndCause.{EndCause}
use Rattle.session_words.specs.declared.cause.EndCause.TheVariants.{NoNegotiation, Refused as PayloadRefused, WrongSide as FromWrongSide, WrongReply, Gone as ConnectionGone, RunOver, BadFrame}
use Rattle.session_words.specs.declared.plan.CarPlan.{CarPlan}
use Rattle.session_words.specs.declared.word.Reply.{Reply}
use Rattle.v2gtp_frames.specs.declared.FrameFault.{FrameFault}
use Rattle.v2gtp_frames.specs.Reading.{whole_at}
use Rattle.car_rules.specs.declared.searching.Search.{Search}
use Rattle.car_rules.specs.declared.stage.CarStage.{CarStage}
use Rattle.car_rules.specs.Deadlines.{hit}
use Rattle.car_rules.specs.Moves.{is_again, stage_behind}
use Rattle.car_rules.specs.Replies.{plant_cause, reply_cause}
use Rattle.car_rules.specs.Searching.{is_searching}
use Rattle.post_spec.specs.Steps.{Event, Came, Bytes, Gone, Datagram, Plant, Clock, Over}
use Rattle.car_spec.specs.Codecs.{Judged, Chosen, Told, WrongSide, Refused}
use Rattle.car_spec.specs.Steps.{Spoken}
use Rattle.car_spec.specs.States.{Agenda, Session, State}
use Rattle.car_spec.specs.Due.{all_deadlines, is_due}
use Rattle.car_spec.specs.Deciding.{ending_by, ending_if, ending_in, greeting, calling, charging, eventing, fronting_by, fronting, repeating, decided}
use Rattle.car_spec.specs.Judging.{chosen, moved, replied, replied_by, judged, judged_in, read}
use Rattle.car_laws.proofs.Decided.{decided_by}

-- `live`: the contactor is live; `failed`: an Open failed since the last order that was taken
abbrev pub OpensBy : Option EndCause → Option ℕ → Option Spoken → Option Order → Bool → Bool → Type 0
OpensBy None port spoken order live failed = Unit {0}
OpensBy (Some cause) (Some port) spoken order live failed = ⊥
OpensBy (Some cause) None (Some spoken) order live failed = ⊥
OpensBy (Some cause) None None (Some order.Open) live failed = Unit {0}
OpensBy (Some cause) None None (Some order.Close) live failed = ⊥
OpensBy (Some cause) None None (Some (order.Limits voltage current watts)) live failed = ⊥
OpensBy (Some cause) None None None live failed = (live ≡ false) ⊎ (failed ≡ true)

abbrev pub Opens : Agenda → Bool → Bool → Type 0
Opens a live failed = OpensBy a.ending a.port a.spoken a.order live failed

pub ending_opens : (cause : EndCause) (live failed : Bool) → Opens (ending_by cause live) live failed
ending_opens cause true failed = tt
ending_opens cause false failed = inl refl

if_opens : (o : Option EndCause) (live failed : Bool) → Opens (ending_if o live) live failed
if_opens None live failed = tt
if_opens (Some cause) live failed = ending_opens cause live failed

in_opens : (o : Option Session) (cause : EndCause) (live failed : Bool) → Opens (ending_in o cause live) live failed
in_opens None cause live failed = tt
in_opens (Some session) cause live failed = ending_opens cause live failed

greeting_opens : (stood live failed : Bool) → Opens (greeting stood live) live failed
greeting_opens true live failed = ending_opens ConnectionGone live failed
greeting_opens false live failed = tt

calling_by : (plan : CarPlan) (search : Search) (datagram : List ℕ) (live failed b : Bool) → is_searching plan search ≡ b → Opens (calling plan search datagram) live failed
calling_by plan search datagram live failed true e = rw e tt
calling_by plan search datagram live failed false e = rw e tt

charging_opens : (o : Option Session) (event : PlantEvent) (live failed : Bool) → Opens (charging o event live) live failed
charging_opens None event live failed = tt
charging_opens (Some session) event live failed = if_opens (plant_cause event) live failed

eventing_opens : (plan : CarPlan) (e : Event) (s : State) (failed : Bool) → Opens (eventing plan e s) s.live failed
eventing_opens plan (Came token) s failed = greeting_opens s.stood s.live failed
eventing_opens plan (Bytes bytes) s failed = tt
eventing_opens plan Gone s failed = in_opens s.session ConnectionGone s.live failed
eventing_opens plan (Datagram bytes) s failed = calling_by plan s.search bytes s.live failed _ refl
eventing_opens plan (Plant event) s failed = charging_opens s.session event s.live failed
eventing_opens plan Clock s failed = tt
eventing_opens plan Over s failed = ending_opens RunOver s.live failed

front_opens : (r : Result (Option ℕ) FrameFault) (live failed : Bool) → Opens (fronting_by r live) live failed
front_opens (Err fault) live failed = ending_opens BadFrame live failed
front_opens (Ok count) live failed = tt

fronting_opens : (o : Option Session) (live failed : Bool) → Opens (fronting o live) live failed
fronting_opens None live failed = tt
fronting_opens (Some session) live failed = front_opens (whole_at session.unread) live failed

repeating_by : (plan : CarPlan) (session : Session) (now : ℕ) (live failed b : Bool) → is_due session.again now ≡ b → Opens (repeating plan (Some session) now) live failed
repeating_by plan session now live failed true e = rw e tt
repeating_by plan session now live failed false e = rw e tt

repeating_opens : (plan : CarPlan) (o : Option Session) (now : ℕ) (live failed : Bool) → Opens (repeating plan o now) live failed
repeating_opens plan None now live failed = tt
repeating_opens plan (Some session) now live failed = repeating_by plan session now live failed _ refl

abbrev pub StateOpens : Bool → State → Type 0
StateOpens failed s = Opens s.agenda s.live failed

pub decided_opens : (plan : CarPlan) (s : State) (failed : Bool) → StateOpens failed s → StateOpens failed (decided plan s)
decided_opens plan s failed h = decided_by (StateOpens failed) plan s
    (λ d. record {
      times = λ early. if_opens (hit (all_deadlines plan s) s.clock) s.live failed;
      events = λ early. eventing_opens plan s.event s failed;
      fronts = fronting_opens s.session s.live failed;
      repeats = repeating_opens plan s.session s.clock s.live failed;
      seeks = tt;
    }) h

-- behind a word
chosen_opens : (plan : CarPlan) (s : State) (session : Session) (d : Option Dialect) (failed : Bool) → StateOpens failed (chosen plan s session d)
chosen_opens plan s session None failed = ending_opens NoNegotiation s.live failed
chosen_opens plan s session (Some d) failed = tt

moved_by : (plan : CarPlan) (s : State) (session : Session) (from : CarStage) (r : Reply) (to : CarStage) (failed b : Bool) → is_again from.phase to.phase ≡ b → StateOpens failed (moved plan s session from r to)
moved_by plan s session from r to failed true e = rw e tt
moved_by plan s session from r to failed false e = rw e tt

replied_opens : (o : Option EndCause) (plan : CarPlan) (s : State) (session : Session) (stage : CarStage) (r : Reply) (failed : Bool) → StateOpens failed (replied_by o plan s session stage r)
replied_opens (Some cause) plan s session stage r failed = ending_opens cause s.live failed
replied_opens None plan s session stage r failed = moved_by plan s session stage r (stage_behind plan stage r session.stop) failed _ refl

told_opens : (plan : CarPlan) (s : State) (session : Session) (o : Option CarStage) (r : Reply) (failed : Bool) → StateOpens failed s → StateOpens failed (replied plan s session o r)
told_opens plan s session None r failed h = ending_opens WrongReply s.live failed
told_opens plan s session (Some stage) r failed h = replied_opens (reply_cause plan stage _ r) plan s session stage r failed

judged_opens : (plan : CarPlan) (s : State) (session : Session) (w : Judged) (failed : Bool) → StateOpens failed s → StateOpens failed (judged plan s session w)
judged_opens plan s session (Chosen d) failed h = chosen_opens plan s session d failed
judged_opens plan s session (Told r) failed h = told_opens plan s session session.stage r failed h
judged_opens plan s session WrongSide failed h = ending_opens FromWrongSide s.live failed
judged_opens plan s session Refused failed h = ending_opens PayloadRefused s.live failed

word_opens : (plan : CarPlan) (s : State) (o : Option Session) (w : Judged) (failed : Bool) → StateOpens failed s → StateOpens failed (judged_in plan s o w)
word_opens plan s None w failed h = h
word_opens plan s (Some session) w failed h = judged_opens plan s session w failed h

pub read_opens : (plan : CarPlan) (s : State) (w : Judged) (failed : Bool) → StateOpens failed s → StateOpens failed (read plan s w)
read_opens plan s w failed h = word_opens plan s s.session w failed h
