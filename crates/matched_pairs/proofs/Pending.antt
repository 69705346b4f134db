-- A reply is decided as a request is read, or as the contactor is heard of behind PowerDelivery Start.
use Rattle.std.proofs.Common.{◌≡◌, ℕ, Bool, true, false, ◌&&◌, if◌then◌else◌, List, Option, Some, None, refl, ap, sym, ◌∙◌, ◌⊎◌, inl, inr}
use Rattle.charge_world.specs.declared.heard.PlantEvent.{PlantEvent}
use Rattle.charge_world.specs.declared.ports.Order.{Order}
use Rattle.session_words.specs.declared.cause.EndCause.{EndCause}
use Rattle.session_words.specs.declared.cause.EndCause.TheVariants as cause
use Rattle.session_words.specs.declared.plan.PostPlan.{PostPlan}
use Rattle.session_rules.specs.Causes.{plant_cause}
use Rattle.session_rules.specs.Reply.{waiting_reply}
use Rattle.session_rules.specs.Stages.{is_waiting}
use Rattle.post_spec.specs.Steps.{Event, Came, Bytes, Gone, Datagram, Plant, Clock, Over, Act, Give, Send, Answer, End}
use Rattle.station_spec.specs.States.{Spoken, Said, Agenda, Session, State, Todo, nothing, is_done, first, first_of}
use Rattle.station_spec.specs.States as states
use Rattle.station_spec.specs.Deciding.{ending_by, watch, confirms, confirming, charging_by, charging, eventing, repeating, timing, fronting, from_part, decided}
use Rattle.station_spec.specs.Acting.{agenda_said, acted}
use Rattle.station_laws.proofs.Decided.{decided_by}
use Rattle.matched_pairs.proofs.Waiting.{Replyless, repeats_less, times_less, ending_less, fronts_less}

some_none : {A : Type 0} (a : A) → Some a ≡ None → ⊥
some_none a e = cc

-- ---- without a word

-- a reply waits
abbrev pub WaitsIn : Option Session → Type 0
WaitsIn None = ⊥
WaitsIn (Some x) = is_waiting x.stage.row ≡ true

-- a reply is decided only where one waits
abbrev pub OnlyWaiting : Option Session → Agenda → Type 0
OnlyWaiting o a = (spoken : Spoken) → a.reply ≡ Some spoken → WaitsIn o

none_only : (o : Option Session) (a : Agenda) → Replyless a → OnlyWaiting o a
none_only o a n = λ spoken e. absurd (some_none spoken (sym e ∙ n))

waits_by : (w b : Bool) (own spoken : Spoken) → (if w && b then record nothing { reply = Some own } else nothing).reply ≡ Some spoken → w ≡ true
waits_by true b own spoken e = refl
waits_by false b own spoken e = absurd (some_none spoken (sym e))

caused_only : (why : Option EndCause) (o : Option Session) (a : Agenda) (live : Bool) → OnlyWaiting o a → OnlyWaiting o (charging_by why a live)
caused_only (Some why) o a live k = none_only o (ending_by why live) refl
caused_only None o a live k = k

charges_only : (o : Option Session) (plan : PostPlan) (event : PlantEvent) (s : State) → OnlyWaiting o (charging plan o event s)
charges_only None plan event s = none_only None nothing refl
charges_only (Some x) plan event s =
    caused_only (plant_cause (watch plan x s) event) (Some x) (confirming plan x event s) s.live
    (λ spoken e. waits_by (is_waiting x.stage.row) (confirms event) (Said x.stage.dialect (waiting_reply x.stage s.facts plan)) spoken e)

events_only : (event : Event) (plan : PostPlan) (s : State) → OnlyWaiting s.session (eventing plan event s)
events_only (Plant event) plan s = charges_only s.session plan event s
events_only (Came token) plan s = none_only s.session (eventing plan (Came token) s) (ending_less s.session cause.Gone s.live)
events_only (Bytes bytes) plan s = none_only s.session nothing refl
events_only Gone plan s = none_only s.session (eventing plan Gone s) (ending_less s.session cause.Gone s.live)
events_only (Datagram bytes) plan s = none_only s.session (eventing plan (Datagram bytes) s) refl
events_only Clock plan s = none_only s.session nothing refl
events_only Over plan s = none_only s.session (eventing plan Over s) (ending_less s.session cause.RunOver s.live)

pub decided_only : (plan : PostPlan) (s : State) → Replyless s.agenda → OnlyWaiting s.session (decided plan s).agenda
decided_only plan s n = decided_by (λ (t : State). OnlyWaiting s.session t.agenda) plan s
    (λ d. record {
      repeats = none_only s.session (repeating s.facts.contactor) (repeats_less s.facts.contactor);
      times = none_only s.session (timing s.session s.clock s.live) (times_less s.session s.clock s.live);
      events = events_only s.event plan s;
      fronts = none_only s.session (fronting s.session s.live) (fronts_less s.session s.live);
    })
    (none_only s.session s.agenda n)

-- ---- what was decided

none_by : (datagram : Option (List ℕ)) (order : Option Order) (spoken : Spoken) (ending : Option EndCause) → states.is_none (first_of datagram order (Some spoken) ending) ≡ false
none_by (Some datagram) order spoken ending = refl
none_by None (Some o) spoken ending = refl
none_by None None spoken ending = refl

busy : (a : Agenda) (spoken : Spoken) → a.reply ≡ Some spoken → is_done a ≡ false
busy a spoken e = ap (λ (r : Option Spoken). states.is_none (first_of a.datagram a.order r a.ending)) e ∙ none_by a.datagram a.order spoken a.ending

-- stays until it is done
pub reply_stays : (plan : PostPlan) (s : State) (spoken : Spoken) → s.agenda.reply ≡ Some spoken → decided plan s ≡ s
reply_stays plan s spoken e = ap (λ (b : Bool). if b then from_part plan s.part s else s) (busy s.agenda spoken e)

decided_either : (o : Option Spoken) (plan : PostPlan) (s : State) (spoken : Spoken) → s.agenda.reply ≡ o → (decided plan s).agenda.reply ≡ Some spoken → (s.agenda.reply ≡ Some spoken) ⊎ WaitsIn s.session
decided_either None plan s spoken e r = inr (decided_only plan s e spoken r)
decided_either (Some own) plan s spoken e r = inl (ap (λ (t : State). t.agenda.reply) (sym (reply_stays plan s own e)) ∙ r)

pub decided_or : (plan : PostPlan) (s : State) (spoken : Spoken) → (decided plan s).agenda.reply ≡ Some spoken → (s.agenda.reply ≡ Some spoken) ⊎ WaitsIn s.session
decided_or plan s spoken r = decided_either s.agenda.reply plan s spoken refl r

-- with nothing to do it has none
none_of : (datagram : Option (List ℕ)) (order : Option Order) (reply : Option Spoken) (ending : Option EndCause) → first_of datagram order reply ending ≡ None → reply ≡ None
none_of (Some datagram) order reply ending e = absurd (some_none _ e)
none_of None (Some o) reply ending e = absurd (some_none _ e)
none_of None None (Some spoken) ending e = absurd (some_none _ e)
none_of None None None ending e = refl

pub quiet_less : (a : Agenda) → first a ≡ None → Replyless a
quiet_less a e = none_of a.datagram a.order a.reply a.ending e

-- an act decides none
said_less : (o : Option EndCause) (x : Option Session) (a : Agenda) (live : Bool) → Replyless (agenda_said o x a live)
said_less None x a live = refl
said_less (Some why) x a live = ending_less x why live

pub acted_reply : (act : Act) (t : State) (spoken : Spoken) → (acted act true t).agenda.reply ≡ Some spoken → t.agenda.reply ≡ Some spoken
acted_reply (Give o) t spoken e = e
acted_reply (Send bytes) t spoken e = absurd (some_none spoken (sym e ∙ said_less t.agenda.behind_reply t.session t.agenda t.live))
acted_reply (Answer bytes) t spoken e = e
acted_reply (End number) t spoken e = absurd (some_none spoken (sym e))

-- what is sent first
some_todo : (a b : Todo) → Some a ≡ Some b → a ≡ b
some_todo a b e = cc

reply_of : (datagram : Option (List ℕ)) (order : Option Order) (reply : Option Spoken) (ending : Option EndCause) (spoken : Spoken) → first_of datagram order reply ending ≡ Some (states.Say spoken) → reply ≡ Some spoken
reply_of (Some datagram) order reply ending spoken e = absurd (let same : states.Tell datagram ≡ states.Say spoken = some_todo (states.Tell datagram) (states.Say spoken) e in cc)
reply_of None (Some o) reply ending spoken e = absurd (let same : states.Give o ≡ states.Say spoken = some_todo (states.Give o) (states.Say spoken) e in cc)
reply_of None None (Some own) ending spoken e = let same : states.Say own ≡ states.Say spoken = some_todo (states.Say own) (states.Say spoken) e in cc
reply_of None None None (Some why) spoken e = absurd (let same : states.Finish why ≡ states.Say spoken = some_todo (states.Finish why) (states.Say spoken) e in cc)
reply_of None None None None spoken e = cc

pub said_first : (a : Agenda) (spoken : Spoken) → first a ≡ Some (states.Say spoken) → a.reply ≡ Some spoken
said_first a spoken e = reply_of a.datagram a.order a.reply a.ending spoken e
