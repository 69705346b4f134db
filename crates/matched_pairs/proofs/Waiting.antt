-- While its contactor closes, a post that heard nothing of it has no reply to send.
use Rattle.std.proofs.Common.{◌≡◌, ℕ, Bool, true, false, ◌&&◌, if◌then◌else◌, Option, Some, None, Result, Ok, Err, refl, ap}
use Rattle.charge_world.specs.declared.heard.PlantEvent.{PlantEvent}
use Rattle.session_words.specs.declared.cause.EndCause.{EndCause}
use Rattle.session_words.specs.declared.cause.EndCause.TheVariants as cause
use Rattle.session_words.specs.declared.phase.Standing.{Standing}
use Rattle.session_words.specs.declared.phase.Standing.TheVariants as standing
use Rattle.session_words.specs.declared.plan.PostPlan.{PostPlan}
use Rattle.session_words.specs.Causes.{cause_of}
use Rattle.v2gtp_frames.specs.declared.FrameFault.{FrameFault}
use Rattle.v2gtp_frames.specs.Reading.{whole_at}
use Rattle.session_rules.specs.Causes.{plant_cause}
use Rattle.session_rules.specs.Deadlines.{timeout_of}
use Rattle.session_rules.specs.Reply.{waiting_reply}
use Rattle.session_rules.specs.Stages.{is_waiting}
use Rattle.post_spec.specs.Steps.{Event, Came, Bytes, Gone, Datagram, Plant, Clock, Over}
use Rattle.station_spec.specs.States.{Said, Agenda, Part, Wording, Session, State, nothing, is_done}
use Rattle.station_spec.specs.Deciding.{ending_by, ending_in, repeating, due, is_reached, timing, watch, confirms, confirming, charging_by, charging, eventing, fronting_by, fronting, from_part, decided}
use Rattle.station_laws.proofs.Decided.{decided_by}
use Rattle.matched_pairs.specs.Contactors.{is_confirming}

abbrev pub Replyless : Agenda → Type 0
Replyless a = a.reply ≡ None

either_less : (b : Bool) (x y : Agenda) → Replyless x → Replyless y → Replyless (if b then x else y)
either_less true x y f g = f
either_less false x y f g = g

pub repeats_less : (now : Standing) → Replyless (repeating now)
repeats_less standing.MustOpen = refl
repeats_less standing.Opened = refl
repeats_less standing.Closing = refl
repeats_less standing.Closed = refl
repeats_less standing.Opening = refl

pub times_less : (o : Option Session) (now : ℕ) (live : Bool) → Replyless (timing o now live)
times_less None now live = refl
times_less (Some x) now live = either_less (is_reached (due x) now) (ending_by (cause_of (timeout_of x.stage.row)) live) nothing refl refl

pub ending_less : (o : Option Session) (why : EndCause) (live : Bool) → Replyless (ending_in o why live)
ending_less None why live = refl
ending_less (Some x) why live = refl

caused_less : (o : Option EndCause) (a : Agenda) (live : Bool) → Replyless a → Replyless (charging_by o a live)
caused_less (Some why) a live f = refl
caused_less None a live f = f

unconfirmed : (w b : Bool) (x : Agenda) → b ≡ false → Replyless (if w && b then x else nothing)
unconfirmed true false x e = refl
unconfirmed false false x e = refl
unconfirmed w true x e = cc

charges_less : (o : Option Session) (plan : PostPlan) (event : PlantEvent) (s : State) → confirms event ≡ false → Replyless (charging plan o event s)
charges_less None plan event s e = refl
charges_less (Some x) plan event s e =
    caused_less (plant_cause (watch plan x s) event) (confirming plan x event s) s.live
    (unconfirmed (is_waiting x.stage.row) (confirms event) (record nothing { reply = Some (Said x.stage.dialect (waiting_reply x.stage s.facts plan)) }) e)

events_less : (plan : PostPlan) (event : Event) (s : State) → is_confirming event ≡ false → Replyless (eventing plan event s)
events_less plan (Plant event) s e = charges_less s.session plan event s e
events_less plan (Came token) s e = ending_less s.session cause.Gone s.live
events_less plan (Bytes bytes) s e = refl
events_less plan Gone s e = ending_less s.session cause.Gone s.live
events_less plan (Datagram bytes) s e = refl
events_less plan Clock s e = refl
events_less plan Over s e = ending_less s.session cause.RunOver s.live

front_less : (r : Result (Option ℕ) FrameFault) (waits live : Bool) → Replyless (fronting_by r waits live)
front_less (Err fault) waits live = refl
front_less (Ok None) waits live = refl
front_less (Ok (Some n)) waits live = either_less waits (ending_by cause.Impatient live) nothing refl refl

pub fronts_less : (o : Option Session) (live : Bool) → Replyless (fronting o live)
fronts_less None live = refl
fronts_less (Some x) live = front_less (whole_at x.unread) (is_waiting x.stage.row) live

decides_less : (b : Bool) (a : Agenda) (part : Part) (s rest : State) → Replyless a → Replyless rest.agenda → Replyless (if b then rest else record s { agenda = a; part = part }).agenda
decides_less true a part s rest f g = g
decides_less false a part s rest f g = f

-- it heard nothing of it in the newest hearing
unheard_less : (plan : PostPlan) (s : State) → Replyless s.agenda → is_confirming s.event ≡ false → Replyless (decided plan s).agenda
unheard_less plan s n e = decided_by (λ (t : State). Replyless t.agenda) plan s
    (λ d. record {
      repeats = repeats_less s.facts.contactor;
      times = times_less s.session s.clock s.live;
      events = events_less plan s.event s e;
      fronts = fronts_less s.session s.live;
    })
    n

-- or has heard it out
done_less : (b : Bool) (plan : PostPlan) (part : Part) (s : State) → Replyless s.agenda → part ≡ Wording → Replyless (if b then from_part plan part s else s).agenda
done_less true plan Wording s n e = decides_less (is_done (fronting s.session s.live)) (fronting s.session s.live) Wording s s (fronts_less s.session s.live) n
done_less true plan other s n e = cc
done_less false plan part s n e = n

less_by : (b : Bool) (plan : PostPlan) (s : State) → is_confirming s.event ≡ b → Replyless s.agenda → (b ≡ true → s.part ≡ Wording) → Replyless (decided plan s).agenda
less_by true plan s e n k = done_less (is_done s.agenda) plan s.part s n (k refl)
less_by false plan s e n k = unheard_less plan s n e

pub no_reply : (plan : PostPlan) (s : State) → s.agenda ≡ nothing → (is_confirming s.event ≡ true → s.part ≡ Wording) → (decided plan s).agenda.reply ≡ None
no_reply plan s n k = less_by (is_confirming s.event) plan s refl (ap (λ (a : Agenda). a.reply) n) k
