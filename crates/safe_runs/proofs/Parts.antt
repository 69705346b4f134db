-- What is decided without a word keeps the tie.
use Rattle.std.proofs.Common.{◌≡◌, ℕ, Bool, true, false, if◌then◌else◌, ◌&&◌, List, Option, Some, None, Result, Ok, Err, refl, sym, subst, ◌∙◌, MatchBool}
use Rattle.charge_world.specs.declared.heard.IsolationLevel.{IsolationLevel}
use Rattle.charge_world.specs.declared.heard.IsolationLevel.TheVariants.{Invalid, Valid, Warning, Fault, NoImd}
use Rattle.charge_world.specs.declared.heard.PlantEvent.{PlantEvent}
use Rattle.charge_world.specs.declared.heard.PlantEvent.TheVariants as plant
use Rattle.charge_world.specs.declared.ports.Order.{Order}
use Rattle.charge_world.specs.declared.ports.Order.TheVariants as order
use Rattle.session_words.specs.declared.cause.EndCause.{EndCause}
use Rattle.session_words.specs.declared.facts.Facts.{Facts}
use Rattle.session_words.specs.declared.phase.Standing.{Standing}
use Rattle.session_words.specs.declared.phase.Standing.TheVariants as standing
use Rattle.session_words.specs.declared.plan.PostPlan.{PostPlan}
use Rattle.v2gtp_frames.specs.declared.FrameFault.{FrameFault}
use Rattle.v2gtp_frames.specs.Reading.{whole_at}
use Rattle.session_rules.specs.declared.causes.Watch.{Watch}
use Rattle.session_rules.specs.Causes.{needs_isolation, plant_cause}
use Rattle.session_rules.specs.Reply.{waiting_reply}
use Rattle.session_rules.specs.Stages.{is_waiting}
use Rattle.post_spec.specs.Codecs.{Codecs}
use Rattle.post_spec.specs.Facts.{told_by, isolation_in}
use Rattle.post_spec.specs.Checked.{IsChecked, IsValidIfTold}
use Rattle.post_spec.specs.Sessions.{session}
use Rattle.post_spec.specs.Steps.{Event, Came, Bytes, Gone, Datagram, Plant, Clock, Over, Seen}
use Rattle.post_spec.specs.Talk.{Exchange}
use Rattle.station_spec.specs.States.{Spoken, Said, Agenda, Part, Repeating, Timing, Eventing, Wording, Session, State, nothing, is_done, is_none, first_of}
use Rattle.station_spec.specs.Deciding.{opening_if, ending_by, ending_in, repeating, timing, watch, confirms, confirming, charging_by, charging, eventing, fronting_by, fronting, decide, from_wording, from_eventing, from_timing, from_repeating, from_part, decided, due, is_reached}
use Rattle.safe_runs.proofs.Links.{Premise, Cabled, Delivers, Rowed, Pending, Waits, Tie, LinkedAt, Linked, Clear}
use Rattle.safe_runs.proofs.Rows.{is_charging}

-- another premise on what was heard
cabled_as : (b : Bool) (V W C : Type 0) (n : Bool) → n ≡ b → (n ≡ true → W → V) → (V → MatchBool n C (Unit {0})) → W → MatchBool n C (Unit {0})
cabled_as true V W C n e f g w = g (f e w)
cabled_as false V W C n e f g w = rw e tt

delivers_as : (V W : Type 0) (plan : PostPlan) (past : List Seen) (b n : Bool) (xs : List Exchange) → (n ≡ true → W → V) → MatchBool b (Delivers plan past n xs V) (Unit {0}) → MatchBool b (Delivers plan past n xs W) (Unit {0})
delivers_as V W plan past true n xs f k =
    record { earlier = k.earlier; judged = k.judged; started = k.started; prepared = k.prepared; checked = cabled_as n V W (IsChecked past k.earlier) n refl f k.checked; ready = k.ready; own = k.own }
delivers_as V W plan past false n xs f k = tt

rowed_as : (plan : PostPlan) (V W : Type 0) (past : List Seen) (ss : Session) (xs : List Exchange) → (needs_isolation ss.stage.row ≡ true → W → V) → Rowed plan past ss.stage xs V → Rowed plan past ss.stage xs W
rowed_as plan V W past ss xs f r = record { has = r.has; power = r.power; dialect = r.dialect; off = r.off; cabled = cabled_as (needs_isolation ss.stage.row) V W (Cabled past xs) (needs_isolation ss.stage.row) refl f r.cabled; delivers = delivers_as V W plan past (is_charging ss.stage.row) (needs_isolation ss.stage.row) xs f r.delivers }

talk_as : (c : Codecs) (plan : PostPlan) (past es : List Seen) (ss : Session) (xs : List Exchange) (taken : ℕ) (behind : Option EndCause) (V W : Type 0) (b : Bool) → (needs_isolation ss.stage.row ≡ true → W → V)
    → MatchBool b (Waits c plan past es xs taken ss.stage None V) (Pending c plan past es xs taken ss.stage None behind V) → MatchBool b (Waits c plan past es xs taken ss.stage None W) (Pending c plan past es xs taken ss.stage None None W)
talk_as c plan past es ss xs taken behind V W true f t = record {
  count = t.count;
  request = t.request;
  asks = t.asks;
  start = t.start;
  ok = tt;
  rowed = rowed_as plan V W past ss xs f t.rowed;
  prepared = t.prepared;
  checked = cabled_as (needs_isolation ss.stage.row) V W (IsChecked past xs) (needs_isolation ss.stage.row) refl f t.checked;
  ready = t.ready;
}
talk_as c plan past es ss xs taken behind V W false f t = (t.0, rowed_as plan V W past ss xs f t.1)

tie_as : (c : Codecs) (plan : PostPlan) (past : List Seen) (es : Option (List Seen)) (kept : Option Session) (behind : Option EndCause) (V W : Type 0) → ((ss : Session) → kept ≡ Some ss → needs_isolation ss.stage.row ≡ true → W → V)
    → Tie c plan past None es kept None behind V → Tie c plan past None es kept None None W
tie_as c plan past None None behind V W f t = tt
tie_as c plan past None (Some ss) behind V W f t = absurd t
tie_as c plan past (Some es) None behind V W f t = absurd t
tie_as c plan past (Some es) (Some ss) behind V W f t =
    record { xs = t.xs; talks = t.talks; ok = t.ok; taken = t.taken; whole = t.whole; unread_is = t.unread_is; quiet = t.quiet; talk = talk_as c plan past es ss t.xs t.taken behind V W (is_waiting ss.stage.row) (f ss refl) t.talk }

pub linked_as : (c : Codecs) (plan : PostPlan) (past : List Seen) (arrived : Option ℕ) (facts : Facts) (kept : Option Session) (V W : Type 0) → ((ss : Session) → kept ≡ Some ss → needs_isolation ss.stage.row ≡ true → W → V)
    → LinkedAt c plan past arrived facts kept nothing V → LinkedAt c plan past arrived facts kept nothing W
linked_as c plan past arrived facts kept V W f l =
    record { arrives = l.arrives; pilot_is = l.pilot_is; isolation_is = l.isolation_is; tie = tie_as c plan past (session past) kept None V W f l.tie; closing = λ h. absurd (let x : None ≡ Some order.Close = h in cc) }

-- nothing to do is nothing
clear_fields : (c : Codecs) (plan : PostPlan) (past : List Seen) (arrived : Option ℕ) (facts : Facts) (kept : Option Session) (V : Type 0) (d : Option (List ℕ)) (o : Option Order) (r : Option Spoken) (e b : Option EndCause)
    → is_none (first_of d o r e) ≡ true → LinkedAt c plan past arrived facts kept (record { datagram = d; order = o; reply = r; ending = e; behind_reply = b }) V → LinkedAt c plan past arrived facts kept nothing V
clear_fields c plan past arrived facts kept V None None None None b h l =
    record { arrives = l.arrives; pilot_is = l.pilot_is; isolation_is = l.isolation_is; tie = tie_as c plan past (session past) kept b V V (λ ss k n v. v) l.tie; closing = λ x. absurd (let y : None ≡ Some order.Close = x in cc) }
clear_fields c plan past arrived facts kept V None None None (Some cause) b h l = cc
clear_fields c plan past arrived facts kept V None None (Some spoken) e b h l = cc
clear_fields c plan past arrived facts kept V None (Some o) r e b h l = cc
clear_fields c plan past arrived facts kept V (Some d) o r e b h l = cc

pub cleared : (c : Codecs) (plan : PostPlan) (past : List Seen) (arrived : Option ℕ) (facts : Facts) (kept : Option Session) (V : Type 0) (a : Agenda) → is_done a ≡ true → LinkedAt c plan past arrived facts kept a V → LinkedAt c plan past arrived facts kept nothing V
cleared c plan past arrived facts kept V a h l = clear_fields c plan past arrived facts kept V a.datagram a.order a.reply a.ending a.behind_reply h l

-- a cause
opens : (live : Bool) → opening_if live ≡ Some order.Close → ⊥
opens true h = cc
opens false h = cc

tie_ended : (c : Codecs) (plan : PostPlan) (past : List Seen) (cause : EndCause) (e : Option EndCause) (es : Option (List Seen)) (kept : Option Session) (r r' : Option Spoken) (b b' : Option EndCause) (V W : Type 0)
    → Tie c plan past e es kept r b V → Tie c plan past (Some cause) es kept r' b' W
tie_ended c plan past cause e None None r r' b b' V W t = tt
tie_ended c plan past cause e None (Some ss) r r' b b' V W t = absurd t
tie_ended c plan past cause e (Some es) None r r' b b' V W t = absurd t
tie_ended c plan past cause e (Some es) (Some ss) r r' b b' V W t = tt

pub ending_linked : (c : Codecs) (plan : PostPlan) (past : List Seen) (arrived : Option ℕ) (facts : Facts) (kept : Option Session) (V W : Type 0) (cause : EndCause) (live : Bool) → LinkedAt c plan past arrived facts kept nothing V → LinkedAt c plan past arrived facts kept (ending_by cause live) W
ending_linked c plan past arrived facts kept V W cause live l =
    record { arrives = l.arrives; pilot_is = l.pilot_is; isolation_is = l.isolation_is; tie = tie_ended c plan past cause None (session past) kept None None None None V W l.tie; closing = λ h. absurd (opens live h) }

none_linked : (c : Codecs) (plan : PostPlan) (past : List Seen) (arrived : Option ℕ) (facts : Facts) (V W : Type 0) → LinkedAt c plan past arrived facts None nothing V → LinkedAt c plan past arrived facts None nothing W
none_linked c plan past arrived facts V W l = linked_as c plan past arrived facts None V W (λ ss k n w. absurd (let x : None ≡ Some ss = k in cc)) l

ended_linked : (c : Codecs) (plan : PostPlan) (past : List Seen) (arrived : Option ℕ) (facts : Facts) (kept : Option Session) (V W : Type 0) (cause : EndCause) (live : Bool) → LinkedAt c plan past arrived facts kept nothing V → LinkedAt c plan past arrived facts kept (ending_in kept cause live) W
ended_linked c plan past arrived facts None V W cause live l = none_linked c plan past arrived facts V W l
ended_linked c plan past arrived facts (Some ss) V W cause live l = ending_linked c plan past arrived facts (Some ss) V W cause live l

-- part by part
repeating_linked : (c : Codecs) (plan : PostPlan) (past : List Seen) (arrived : Option ℕ) (facts : Facts) (kept : Option Session) (V : Type 0) (st : Standing) → LinkedAt c plan past arrived facts kept nothing V → LinkedAt c plan past arrived facts kept (repeating st) V
repeating_linked c plan past arrived facts kept V standing.MustOpen l = record { arrives = l.arrives; pilot_is = l.pilot_is; isolation_is = l.isolation_is; tie = l.tie; closing = λ h. absurd (let x : Some order.Open ≡ Some order.Close = h in cc) }
repeating_linked c plan past arrived facts kept V standing.Opened l = l
repeating_linked c plan past arrived facts kept V standing.Closing l = l
repeating_linked c plan past arrived facts kept V standing.Closed l = l
repeating_linked c plan past arrived facts kept V standing.Opening l = l

linked_if : (c : Codecs) (plan : PostPlan) (past : List Seen) (arrived : Option ℕ) (facts : Facts) (kept : Option Session) (V : Type 0) (b : Bool) (x y : Agenda) → LinkedAt c plan past arrived facts kept x V → LinkedAt c plan past arrived facts kept y V → LinkedAt c plan past arrived facts kept (if b then x else y) V
linked_if c plan past arrived facts kept V true x y l m = l
linked_if c plan past arrived facts kept V false x y l m = m

timing_linked : (c : Codecs) (plan : PostPlan) (past : List Seen) (arrived : Option ℕ) (facts : Facts) (kept : Option Session) (V : Type 0) (now : ℕ) (live : Bool) → LinkedAt c plan past arrived facts kept nothing V → LinkedAt c plan past arrived facts kept (timing kept now live) V
timing_linked c plan past arrived facts None V now live l = l
timing_linked c plan past arrived facts (Some ss) V now live l = linked_if c plan past arrived facts (Some ss) V (is_reached (due ss) now) _ nothing (ending_linked c plan past arrived facts (Some ss) V V _ live l) l

fronting_at : (c : Codecs) (plan : PostPlan) (past : List Seen) (arrived : Option ℕ) (facts : Facts) (kept : Option Session) (w : Result (Option ℕ) FrameFault) (waiting live : Bool) → LinkedAt c plan past arrived facts kept nothing (Unit {0}) → LinkedAt c plan past arrived facts kept (fronting_by w waiting live) (Unit {0})
fronting_at c plan past arrived facts kept (Err fault) waiting live l = ending_linked c plan past arrived facts kept (Unit {0}) (Unit {0}) _ live l
fronting_at c plan past arrived facts kept (Ok None) waiting live l = l
fronting_at c plan past arrived facts kept (Ok (Some n)) true live l = ending_linked c plan past arrived facts kept (Unit {0}) (Unit {0}) _ live l
fronting_at c plan past arrived facts kept (Ok (Some n)) false live l = l

fronting_linked : (c : Codecs) (plan : PostPlan) (past : List Seen) (arrived : Option ℕ) (facts : Facts) (kept : Option Session) (live : Bool) → LinkedAt c plan past arrived facts kept nothing (Unit {0}) → LinkedAt c plan past arrived facts kept (fronting kept live) (Unit {0})
fronting_linked c plan past arrived facts None live l = l
fronting_linked c plan past arrived facts (Some ss) live l = fronting_at c plan past arrived facts (Some ss) (whole_at ss.unread) (is_waiting ss.stage.row) live l

-- the reply that waited
talk_confirmed : (c : Codecs) (plan : PostPlan) (past es : List Seen) (ss : Session) (facts : Facts) (xs : List Exchange) (taken : ℕ) (b : Bool) → b ≡ true
    → MatchBool b (Waits c plan past es xs taken ss.stage None (Unit {0})) (Pending c plan past es xs taken ss.stage None None (Unit {0}))
    → MatchBool b (Waits c plan past es xs taken ss.stage (Some (Said ss.stage.dialect (waiting_reply ss.stage facts plan))) (Unit {0})) (Pending c plan past es xs taken ss.stage (Some (Said ss.stage.dialect (waiting_reply ss.stage facts plan))) None (Unit {0}))
talk_confirmed c plan past es ss facts xs taken true e t = record { count = t.count; request = t.request; asks = t.asks; start = t.start; ok = (refl, tt); rowed = t.rowed; prepared = t.prepared; checked = t.checked; ready = t.ready }
talk_confirmed c plan past es ss facts xs taken false e t = cc

tie_confirmed : (c : Codecs) (plan : PostPlan) (past : List Seen) (es : Option (List Seen)) (ss : Session) (facts : Facts) → is_waiting ss.stage.row ≡ true → Tie c plan past None es (Some ss) None None (Unit {0})
    → Tie c plan past None es (Some ss) (Some (Said ss.stage.dialect (waiting_reply ss.stage facts plan))) None (Unit {0})
tie_confirmed c plan past None ss facts w t = absurd t
tie_confirmed c plan past (Some es) ss facts w t =
    record { xs = t.xs; talks = t.talks; ok = t.ok; taken = t.taken; whole = t.whole; unread_is = t.unread_is; quiet = t.quiet; talk = talk_confirmed c plan past es ss facts t.xs t.taken (is_waiting ss.stage.row) w t.talk }

and_left : (a b : Bool) → a && b ≡ true → a ≡ true
and_left true b h = refl
and_left false b h = cc

confirming_at : (c : Codecs) (plan : PostPlan) (past : List Seen) (arrived : Option ℕ) (facts : Facts) (ss : Session) (s : State) (event : PlantEvent) (b : Bool) → (is_waiting ss.stage.row && confirms event) ≡ b
    → LinkedAt c plan past arrived facts (Some ss) nothing (Unit {0}) → LinkedAt c plan past arrived facts (Some ss) (confirming plan ss event s) (Unit {0})
confirming_at c plan past arrived facts ss s event true e l =
    rw e (record { arrives = l.arrives; pilot_is = l.pilot_is; isolation_is = l.isolation_is; tie = tie_confirmed c plan past (session past) ss s.facts (and_left (is_waiting ss.stage.row) (confirms event) e) l.tie; closing = λ h. absurd (let x : None ≡ Some order.Close = h in cc) })
confirming_at c plan past arrived facts ss s event false e l = rw e l

-- an isolation that is no cause is valid, where it has to be
level_valid : (n : Bool) (level : IsolationLevel) (w : Watch) → plant_cause w (plant.Isolation level) ≡ None → needs_isolation w.row ≡ true → level ≡ Valid
level_valid n Valid w e h = refl
level_valid n Invalid w e h = absurd (let x = rw h at e in cc)
level_valid n Warning w e h = absurd (let x = rw h at e in cc)
level_valid n Fault w e h = absurd (let x = rw h at e in cc)
level_valid n NoImd w e h = absurd (let x = rw h at e in cc)

told_valid : (event : PlantEvent) (plan : PostPlan) (ss : Session) (s : State) → plant_cause (watch plan ss s) event ≡ None → needs_isolation ss.stage.row ≡ true → IsValidIfTold (isolation_in event)
told_valid (plant.Pilot state) plan ss s e h = tt
told_valid (plant.Isolation level) plan ss s e h = level_valid true level (watch plan ss s) e h
told_valid (plant.Measured voltage current) plan ss s e h = tt
told_valid (plant.Feedback closed) plan ss s e h = tt
told_valid plant.Paid plan ss s e h = tt
told_valid plant.Emergency plan ss s e h = tt
told_valid plant.StopAsked plan ss s e h = tt
told_valid plant.RenewAsked plan ss s e h = tt

some_same : (ss ts : Session) → Some ss ≡ Some ts → ss ≡ ts
some_same ss ts h = cc

charging_at : (c : Codecs) (plan : PostPlan) (past : List Seen) (arrived : Option ℕ) (facts : Facts) (ss : Session) (s : State) (event : PlantEvent) (o : Option EndCause) → plant_cause (watch plan ss s) event ≡ o
    → LinkedAt c plan past arrived facts (Some ss) nothing (IsValidIfTold (isolation_in event)) → LinkedAt c plan past arrived facts (Some ss) (charging_by o (confirming plan ss event s) s.live) (Unit {0})
charging_at c plan past arrived facts ss s event (Some cause) e l = ending_linked c plan past arrived facts (Some ss) (IsValidIfTold (isolation_in event)) (Unit {0}) cause s.live l
charging_at c plan past arrived facts ss s event None e l =
    confirming_at c plan past arrived facts ss s event (is_waiting ss.stage.row && confirms event) refl
    (linked_as c plan past arrived facts (Some ss) (IsValidIfTold (isolation_in event)) (Unit {0}) (λ ts k n u. told_valid event plan ss s e (subst (λ (x : Session). needs_isolation x.stage.row ≡ true) (sym (some_same ss ts k)) n)) l)

charging_linked : (c : Codecs) (plan : PostPlan) (past : List Seen) (arrived : Option ℕ) (facts : Facts) (kept : Option Session) (s : State) (event : PlantEvent)
    → LinkedAt c plan past arrived facts kept nothing (IsValidIfTold (isolation_in event)) → LinkedAt c plan past arrived facts kept (charging plan kept event s) (Unit {0})
charging_linked c plan past arrived facts None s event l = none_linked c plan past arrived facts (IsValidIfTold (isolation_in event)) (Unit {0}) l
charging_linked c plan past arrived facts (Some ss) s event l = charging_at c plan past arrived facts ss s event (plant_cause (watch plan ss s) event) refl l

pub eventing_linked : (c : Codecs) (plan : PostPlan) (past : List Seen) (s : State) (e : Event) → LinkedAt c plan past s.arrived s.facts s.session nothing (IsValidIfTold (told_by isolation_in e)) → LinkedAt c plan past s.arrived s.facts s.session (eventing plan e s) (Unit {0})
eventing_linked c plan past s (Came token) l = ended_linked c plan past s.arrived s.facts s.session (Unit {0}) (Unit {0}) _ s.live l
eventing_linked c plan past s (Bytes bytes) l = l
eventing_linked c plan past s Gone l = ended_linked c plan past s.arrived s.facts s.session (Unit {0}) (Unit {0}) _ s.live l
eventing_linked c plan past s (Datagram bytes) l = record { arrives = l.arrives; pilot_is = l.pilot_is; isolation_is = l.isolation_is; tie = l.tie; closing = λ h. absurd (let x : None ≡ Some order.Close = h in cc) }
eventing_linked c plan past s (Plant event) l = charging_linked c plan past s.arrived s.facts s.session s event l
eventing_linked c plan past s Clock l = l
eventing_linked c plan past s Over l = ended_linked c plan past s.arrived s.facts s.session (Unit {0}) (Unit {0}) _ s.live l

-- what is decided is linked, and where it is nothing, all that was heard is judged
pub record Planned (c : Codecs) (plan : PostPlan) (past : List Seen) (t : State) : Type 0 where
  pub linked : Linked c plan past t
  pub clear : is_done t.agenda ≡ true → Clear c plan past t

decide_planned : (c : Codecs) (plan : PostPlan) (past : List Seen) (agenda : Agenda) (part : Part) (s rest : State) (b : Bool) → is_done agenda ≡ b → LinkedAt c plan past s.arrived s.facts s.session agenda (Premise part s.event)
    → (is_done agenda ≡ true → Planned c plan past rest) → Planned c plan past (decide agenda part s rest)
decide_planned c plan past agenda part s rest true e l q = rw e (q e)
decide_planned c plan past agenda part s rest false e l q = rw e (record { linked = l; clear = λ d. absurd (let x : true ≡ false = sym d ∙ e in cc) })

abbrev Heard : Codecs → PostPlan → List Seen → State → Type 0
Heard c plan past s = LinkedAt c plan past s.arrived s.facts s.session nothing (IsValidIfTold (told_by isolation_in s.event))

wording_planned : (c : Codecs) (plan : PostPlan) (past : List Seen) (s : State) → Linked c plan past s → Clear c plan past s → Planned c plan past (from_wording s)
wording_planned c plan past s l k =
    decide_planned c plan past (fronting s.session s.live) Wording s s _ refl (fronting_linked c plan past s.arrived s.facts s.session s.live k) (λ d. record { linked = l; clear = λ e. k })

eventing_planned : (c : Codecs) (plan : PostPlan) (past : List Seen) (s : State) → Linked c plan past s → Heard c plan past s → Planned c plan past (from_eventing plan s)
eventing_planned c plan past s l h =
    let e = eventing_linked c plan past s s.event h in
    decide_planned c plan past (eventing plan s.event s) Wording s (from_wording s) _ refl e
    (λ d. wording_planned c plan past s l (cleared c plan past s.arrived s.facts s.session (Unit {0}) (eventing plan s.event s) d e))

timing_planned : (c : Codecs) (plan : PostPlan) (past : List Seen) (s : State) → Linked c plan past s → Heard c plan past s → Planned c plan past (from_timing plan s)
timing_planned c plan past s l h =
    decide_planned c plan past (timing s.session s.clock s.live) Eventing s (from_eventing plan s) _ refl
    (timing_linked c plan past s.arrived s.facts s.session (IsValidIfTold (told_by isolation_in s.event)) s.clock s.live h) (λ d. eventing_planned c plan past s l h)

repeating_planned : (c : Codecs) (plan : PostPlan) (past : List Seen) (s : State) → Linked c plan past s → Heard c plan past s → Planned c plan past (from_repeating plan s)
repeating_planned c plan past s l h =
    decide_planned c plan past (repeating s.facts.contactor) Timing s (from_timing plan s) _ refl
    (repeating_linked c plan past s.arrived s.facts s.session (IsValidIfTold (told_by isolation_in s.event)) s.facts.contactor h) (λ d. timing_planned c plan past s l h)

part_planned : (c : Codecs) (plan : PostPlan) (past : List Seen) (part : Part) (s : State) → Linked c plan past s → LinkedAt c plan past s.arrived s.facts s.session nothing (Premise part s.event) → Planned c plan past (from_part plan part s)
part_planned c plan past Repeating s l h = repeating_planned c plan past s l h
part_planned c plan past Timing s l h = timing_planned c plan past s l h
part_planned c plan past Eventing s l h = eventing_planned c plan past s l h
part_planned c plan past Wording s l h = wording_planned c plan past s l h

planned_if : (c : Codecs) (plan : PostPlan) (past : List Seen) (s : State) (b : Bool) → is_done s.agenda ≡ b → Linked c plan past s → Planned c plan past (decided plan s)
planned_if c plan past s true e l = rw e (part_planned c plan past s.part s l (cleared c plan past s.arrived s.facts s.session (Premise s.part s.event) s.agenda e l))
planned_if c plan past s false e l = rw e (record { linked = l; clear = λ d. absurd (let x : true ≡ false = sym d ∙ e in cc) })

pub decided_planned : (c : Codecs) (plan : PostPlan) (past : List Seen) (s : State) → Linked c plan past s → Planned c plan past (decided plan s)
decided_planned c plan past s l = planned_if c plan past s (is_done s.agenda) refl l
