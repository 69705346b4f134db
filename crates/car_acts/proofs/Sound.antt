-- Whatever a car hears, decides, reads and does, its codecs can spell what it says.
use Rattle.std.proofs.Common.{◌≡◌, ℕ, ◌-◌, ◌==◌, Bool, true, false, not, ◌&&◌, if◌then◌else◌, List, Option, Some, None, Result, Ok, Err, refl, sym, subst, ◌∙◌}
use Rattle.std.specs.Prelude.{Contains}
use Rattle.std.specs.Option.{option_map}
use Rattle.charge_world.specs.declared.heard.PlantEvent.{PlantEvent}
use Rattle.charge_world.specs.declared.offer.Dialect.{Dialect}
use Rattle.charge_world.specs.declared.offer.Dialect.TheVariants as dialect
use Rattle.session_words.specs.declared.cause.EndCause.{EndCause}
use Rattle.session_words.specs.declared.cause.EndCause.TheVariants.{SendFailed, OrderFailed}
use Rattle.session_words.specs.declared.plan.CarPlan.{CarPlan}
use Rattle.session_words.specs.declared.word.Reply.{Reply}
use Rattle.session_words.specs.declared.word.Tell.{Tell}
use Rattle.session_words.specs.declared.word.Word.{Word}
use Rattle.session_words.specs.declared.word.Word.TheVariants as word
use Rattle.v2gtp_frames.specs.declared.FrameFault.{FrameFault}
use Rattle.v2gtp_frames.specs.Reading.{whole_at}
use Rattle.session_rules.specs.Finishing.{is_ac}
use Rattle.post_spec.specs.Kinds.{says_finished}
use Rattle.post_spec.specs.Steps.{Event, Came, Bytes, Gone, Datagram, Plant, Clock, Over}
use Rattle.station_spec.specs.Acting.{live_ordered}
use Rattle.car_rules.specs.declared.searching.Search.{Search}
use Rattle.car_rules.specs.declared.stage.CarPhase.{CarPhase}
use Rattle.car_rules.specs.declared.stage.CarPhase.TheVariants as phase
use Rattle.car_rules.specs.declared.stage.CarStage.{CarStage}
use Rattle.car_rules.specs.Deadlines.{hit}
use Rattle.car_rules.specs.Moves.{is_again, is_pre_charged, leads, charging_leads, renews, stage_behind, stops, until_done, welding_phase, first_power_phase}
use Rattle.car_rules.specs.Replies.{plant_cause, reply_cause}
use Rattle.car_rules.specs.Searching.{is_searching}
use Rattle.car_rules.specs.Stages.{first_stage}
use Rattle.car_codec.specs.Judging.{ChoosesOffered}
use Rattle.car_codec.specs.Requests.{IsPlan}
use Rattle.car_spec.specs.Acting.{awaiting, failing, acted}
use Rattle.car_spec.specs.Codecs.{Judged, Chosen, Told, WrongSide, Refused, judged_word, Codecs, Judges}
use Rattle.car_spec.specs.Deciding.{ending_if, ending_in, greeting, calling, charging, eventing, fronting_by, fronting, asking, repeating, decided}
use Rattle.car_spec.specs.Due.{all_deadlines, is_due}
use Rattle.car_spec.specs.Hearing.{session_heard, hearing}
use Rattle.car_spec.specs.Judging.{moved, replied, replied_by, judged, judged_in, read}
use Rattle.car_spec.specs.States.{Session, State, fresh, first, is_done}
use Rattle.car_spec.specs.States as states
use Rattle.car_spec.specs.Steps.{Act, Seek, Dial, Give, Say, End}
use Rattle.car_laws.proofs.Decided.{decided_by}
use Rattle.evcc_machine.specs.Views.{stage_in}
use Rattle.car_acts.specs.Sound.{IsSoundStage, IsSoundIn, CanSay, IsSound}

pub fresh_sound : (plan : CarPlan) → IsSound plan fresh
fresh_sound plan = record { stage = tt; spoken = tt; still = λ over. absurd (let f : false ≡ true = over in cc) }

-- a hearing
heard_stage : (plan : CarPlan) (event : Event) (at : ℕ) (session : Option Session) → IsSoundIn plan (stage_in session) → IsSoundIn plan (stage_in (session_heard event at session))
heard_stage plan (Came token) at None h = tt
heard_stage plan (Bytes bytes) at None h = tt
heard_stage plan Gone at None h = tt
heard_stage plan (Datagram bytes) at None h = tt
heard_stage plan (Plant event) at None h = tt
heard_stage plan Clock at None h = tt
heard_stage plan Over at None h = tt
heard_stage plan event at (Some session) h = h

pub heard_sound : (plan : CarPlan) (s : State) (at : ℕ) (event : Event) → s.over ≡ false → IsSound plan s → IsSound plan (hearing at event s)
heard_sound plan s at event lives h = record {
  stage = heard_stage plan event at s.session h.stage;
  spoken = tt;
  still = λ over. absurd (let f : false ≡ true = sym lives ∙ over in cc);
}

-- what is decided
says_if : (o : Option EndCause) (live : Bool) → CanSay (ending_if o live).spoken
says_if None live = tt
says_if (Some cause) live = tt

says_in : (o : Option Session) (cause : EndCause) (live : Bool) → CanSay (ending_in o cause live).spoken
says_in None cause live = tt
says_in (Some session) cause live = tt

says_greeting : (stood live : Bool) → CanSay (greeting stood live).spoken
says_greeting true live = tt
says_greeting false live = tt

says_calling : (plan : CarPlan) (search : Search) (datagram : List ℕ) (b : Bool) → is_searching plan search ≡ b → CanSay (calling plan search datagram).spoken
says_calling plan search datagram true e = rw e tt
says_calling plan search datagram false e = rw e tt

says_charging : (o : Option Session) (event : PlantEvent) (live : Bool) → CanSay (charging o event live).spoken
says_charging None event live = tt
says_charging (Some session) event live = says_if (plant_cause event) live

says_eventing : (plan : CarPlan) (event : Event) (s : State) → CanSay (eventing plan event s).spoken
says_eventing plan (Came token) s = says_greeting s.stood s.live
says_eventing plan (Bytes bytes) s = tt
says_eventing plan Gone s = says_in s.session _ s.live
says_eventing plan (Datagram bytes) s = says_calling plan s.search bytes _ refl
says_eventing plan (Plant event) s = says_charging s.session event s.live
says_eventing plan Clock s = tt
says_eventing plan Over s = tt

says_front : (r : Result (Option ℕ) FrameFault) (live : Bool) → CanSay (fronting_by r live).spoken
says_front (Err fault) live = tt
says_front (Ok count) live = tt

says_fronting : (o : Option Session) (live : Bool) → CanSay (fronting o live).spoken
says_fronting None live = tt
says_fronting (Some session) live = says_front (whole_at session.unread) live

-- the request of a sound stage
says_asking : (plan : CarPlan) (o : Option CarStage) → IsPlan plan → IsSoundIn plan o → CanSay (asking plan o)
says_asking plan None p h = tt
says_asking plan (Some stage) p h = record {
  plan = plan;
  stage = stage;
  is_plan = p;
  dialect_is = refl;
  offered = h.offered;
  renegotiates = h.renegotiates;
  request_is = refl;
}

says_again : (plan : CarPlan) (session : Session) (at : ℕ) (b : Bool) → is_due session.again at ≡ b → IsPlan plan → IsSoundIn plan session.stage → CanSay (repeating plan (Some session) at).spoken
says_again plan session at true e p h = rw e (says_asking plan session.stage p h)
says_again plan session at false e p h = rw e tt

says_repeating : (plan : CarPlan) (o : Option Session) (at : ℕ) → IsPlan plan → IsSoundIn plan (stage_in o) → CanSay (repeating plan o at).spoken
says_repeating plan None at p h = tt
says_repeating plan (Some session) at p h = says_again plan session at _ refl p h

lives_by : (a over : Bool) → (a && not over) ≡ true → over ≡ true → ⊥
lives_by true true d e = let f : false ≡ true = d in cc
lives_by true false d e = cc
lives_by false over d e = let f : false ≡ true = d in cc

pub decided_sound : (plan : CarPlan) (s : State) → IsPlan plan → IsSound plan s → IsSound plan (decided plan s)
decided_sound plan s p h = decided_by (IsSound plan) plan s
    (λ d. record {
      times = λ early. record { stage = h.stage; spoken = says_if (hit (all_deadlines plan s) s.clock) s.live; still = λ over. absurd (lives_by (is_done s.agenda) s.over d over) };
      events = λ early. record { stage = h.stage; spoken = says_eventing plan s.event s; still = λ over. absurd (lives_by (is_done s.agenda) s.over d over) };
      fronts = record { stage = h.stage; spoken = says_fronting s.session s.live; still = λ over. absurd (lives_by (is_done s.agenda) s.over d over) };
      repeats = record { stage = h.stage; spoken = says_repeating plan s.session s.clock p h.stage; still = λ over. absurd (lives_by (is_done s.agenda) s.over d over) };
      seeks = record { stage = h.stage; spoken = tt; still = λ over. absurd (lives_by (is_done s.agenda) s.over d over) };
    }) h

-- where a reply leads: a car renegotiates in ISO alone
until_not : (b : Bool) (x y : CarPhase) → (x ≡ phase.Renegotiating → ⊥) → (y ≡ phase.Renegotiating → ⊥) → until_done b x y ≡ phase.Renegotiating → ⊥
until_not true x y f g e = f e
until_not false x y f g e = g e

power_not : (b : Bool) → (if b then phase.Starting else phase.CableChecking) ≡ phase.Renegotiating → ⊥
power_not true e = cc
power_not false e = cc

welding_if : (b : Bool) (n : ℕ) → (if b then phase.Ending else phase.Welding n) ≡ phase.Renegotiating → ⊥
welding_if true n e = cc
welding_if false n e = cc

stop_not : (b : Bool) (n : ℕ) → (if b then phase.Ending else welding_phase n) ≡ phase.Renegotiating → ⊥
stop_not true n e = cc
stop_not false n e = welding_if (n == 0) (n - 1) e

renews_iso : (d : Dialect) (told : Tell) (b : Bool) → renews d told ≡ b → (if b then phase.Renegotiating else phase.Charging) ≡ phase.Renegotiating → d ≡ dialect.Iso
renews_iso dialect.Iso told b r e = refl
renews_iso dialect.Din told true r e = absurd (let f : false ≡ true = r in cc)
renews_iso dialect.Din told false r e = cc

charging_iso : (d : Dialect) (told : Tell) (stopping : Bool) → charging_leads d told stopping ≡ phase.Renegotiating → d ≡ dialect.Iso
charging_iso d told true e = cc
charging_iso d told false e = renews_iso d told (renews d told) refl e

renegotiates_in : (plan : CarPlan) (d : Dialect) (p : CarPhase) (told : Tell) (stopping : Bool) → leads plan d p told stopping ≡ phase.Renegotiating → d ≡ dialect.Iso
renegotiates_in plan d phase.SettingUp told stopping e = cc
renegotiates_in plan d phase.Discovering told stopping e = cc
renegotiates_in plan d phase.Selecting told stopping e = cc
renegotiates_in plan d phase.Authorizing told stopping e = absurd (until_not (says_finished told) phase.Asking phase.Authorizing (λ f. cc) (λ f. cc) e)
renegotiates_in plan d phase.Asking told stopping e = absurd (until_not (says_finished told) (first_power_phase plan.mode) phase.Asking (power_not (is_ac plan.mode)) (λ f. cc) e)
renegotiates_in plan d phase.CableChecking told stopping e = absurd (until_not (says_finished told) phase.PreCharging phase.CableChecking (λ f. cc) (λ f. cc) e)
renegotiates_in plan d phase.PreCharging told stopping e = absurd (until_not (is_pre_charged plan.target_voltage told) phase.Starting phase.PreCharging (λ f. cc) (λ f. cc) e)
renegotiates_in plan d phase.Starting told stopping e = cc
renegotiates_in plan d phase.Charging told stopping e = charging_iso d told stopping e
renegotiates_in plan d phase.Stopping told stopping e = absurd (stop_not (is_ac plan.mode) plan.welding e)
renegotiates_in plan d phase.Renegotiating told stopping e = cc
renegotiates_in plan d (phase.Welding left) told stopping e = absurd (welding_if (left == 0) (left - 1) e)
renegotiates_in plan d phase.Ending told stopping e = cc

stage_sound : (plan : CarPlan) (stage : CarStage) (r : Reply) (stop : Bool) → IsSoundStage plan stage → IsSoundStage plan (stage_behind plan stage r stop)
stage_sound plan stage r stop h = record {
  offered = h.offered;
  renegotiates = λ e. renegotiates_in plan stage.dialect stage.phase r.tell (stops plan stage.cycles stop r.tell) e;
}

-- a word
moved_sound : (plan : CarPlan) (s : State) (session : Session) (from : CarStage) (r : Reply) (to : CarStage) (b : Bool) → is_again from.phase to.phase ≡ b → (s.over ≡ true → ⊥) → IsPlan plan → IsSoundStage plan to
    → IsSound plan (moved plan s session from r to)
moved_sound plan s session from r to true e lives p h = rw e (record { stage = h; spoken = tt; still = λ over. absurd (lives over) })
moved_sound plan s session from r to false e lives p h = rw e (record { stage = h; spoken = says_asking plan (Some to) p h; still = λ over. absurd (lives over) })

replied_sound : (o : Option EndCause) (plan : CarPlan) (s : State) (session : Session) (stage : CarStage) (r : Reply) → (s.over ≡ true → ⊥) → IsPlan plan → IsSoundIn plan session.stage → IsSoundStage plan stage
    → IsSound plan (replied_by o plan s session stage r)
replied_sound (Some cause) plan s session stage r lives p i h = record { stage = i; spoken = tt; still = λ over. absurd (lives over) }
replied_sound None plan s session stage r lives p i h =
    moved_sound plan s session stage r (stage_behind plan stage r session.stop) _ refl lives p (stage_sound plan stage r session.stop h)

told_sound : (plan : CarPlan) (s : State) (session : Session) (o : Option CarStage) (r : Reply) → (s.over ≡ true → ⊥) → IsPlan plan → IsSoundIn plan session.stage → IsSoundIn plan o → IsSound plan (replied plan s session o r)
told_sound plan s session None r lives p i h = record { stage = i; spoken = tt; still = λ over. absurd (lives over) }
told_sound plan s session (Some stage) r lives p i h = replied_sound (reply_cause plan stage _ r) plan s session stage r lives p i h

chosen_word : (w : Option Word) (d : Dialect) → Chosen (Some d) ≡ judged_word w → ⊥
chosen_word None d e = cc
chosen_word (Some (word.Request r)) d e = cc
chosen_word (Some (word.Reply r)) d e = cc
chosen_word (Some word.Nothing) d e = cc

chosen_offered : (c : Codecs) (dialects : List Dialect) (o : Option Dialect) (bytes : List ℕ) (d : Dialect) → ChoosesOffered c.Responds → Judges c dialects o bytes (Chosen (Some d)) → Contains dialects d
chosen_offered c dialects None bytes d chooses j = chooses dialects bytes d j
chosen_offered c dialects (Some own) bytes d chooses j = absurd (chosen_word j.0 d j.2)

judged_sound : (c : Codecs) (plan : CarPlan) (s : State) (session : Session) (o : Option Dialect) (bytes : List ℕ) (w : Judged) → (s.over ≡ true → ⊥) → ChoosesOffered c.Responds → IsPlan plan → Judges c plan.dialects.items o bytes w → IsSoundIn plan session.stage
    → IsSound plan (judged plan s session w)
judged_sound c plan s session o bytes (Chosen None) lives chooses p j h = record { stage = h; spoken = tt; still = λ over. absurd (lives over) }
judged_sound c plan s session o bytes (Chosen (Some d)) lives chooses p j h =
    let first : IsSoundStage plan (first_stage plan d) = record {
      offered = chosen_offered c plan.dialects.items o bytes d chooses j;
      renegotiates = λ e. (let f : phase.SettingUp ≡ phase.Renegotiating = e in cc);
    } in
    record { stage = first; spoken = says_asking plan (Some (first_stage plan d)) p first; still = λ over. absurd (lives over) }
judged_sound c plan s session o bytes (Told r) lives chooses p j h = told_sound plan s session session.stage r lives p h h
judged_sound c plan s session o bytes WrongSide lives chooses p j h = record { stage = h; spoken = tt; still = λ over. absurd (lives over) }
judged_sound c plan s session o bytes Refused lives chooses p j h = record { stage = h; spoken = tt; still = λ over. absurd (lives over) }

read_in : (c : Codecs) (plan : CarPlan) (s : State) (session : Option Session) (o : Option Dialect) (bytes : List ℕ) (w : Judged) → s.session ≡ session → ChoosesOffered c.Responds → IsPlan plan → Judges c plan.dialects.items o bytes w → IsSound plan s
    → IsSound plan (judged_in plan s session w)
read_in c plan s None o bytes w e chooses p j h = h
read_in c plan s (Some session) o bytes w e chooses p j h =
    judged_sound c plan s session o bytes w
    (λ over. let none : None ≡ Some session = sym ((h.still over).1) ∙ e in cc)
    chooses p j (subst (λ (x : Option Session). IsSoundIn plan (stage_in x)) e h.stage)

pub read_sound : (c : Codecs) (plan : CarPlan) (s : State) (o : Option Dialect) (bytes : List ℕ) (w : Judged) → ChoosesOffered c.Responds → IsPlan plan → Judges c plan.dialects.items o bytes w → IsSound plan s → IsSound plan (read plan s w)
read_sound c plan s o bytes w chooses p j h = read_in c plan s s.session o bytes w refl chooses p j h

-- an act, which is done where one is to be done
busy : (plan : CarPlan) (s : State) (todo : states.Todo) → first s.agenda ≡ Some todo → IsSound plan s → s.over ≡ true → ⊥
busy plan s todo f h over = let none : None ≡ Some todo = sym ((h.still over).0) ∙ f in cc

failing_says : (e : Option EndCause) (cause : EndCause) (live : Bool) → CanSay (failing e cause live).spoken
failing_says None cause live = tt
failing_says (Some ending) cause live = tt

awaiting_stage : (plan : CarPlan) (now : ℕ) (session : Option Session) → IsSoundIn plan (stage_in session) → IsSoundIn plan (stage_in (option_map (awaiting now) session))
awaiting_stage plan now None h = tt
awaiting_stage plan now (Some session) h = h

pub acted_sound : (plan : CarPlan) (a : Act) (taken : Bool) (s : State) (todo : states.Todo) → first s.agenda ≡ Some todo → IsSound plan s → IsSound plan (acted a taken s)
acted_sound plan (Seek datagram) taken s todo f h = record { stage = h.stage; spoken = h.spoken; still = λ over. absurd (busy plan s todo f h over) }
acted_sound plan (Dial port) true s todo f h = record { stage = h.stage; spoken = h.spoken; still = λ over. absurd (busy plan s todo f h over) }
acted_sound plan (Dial port) false s todo f h = record { stage = h.stage; spoken = failing_says s.agenda.ending SendFailed s.live; still = λ over. absurd (busy plan s todo f h over) }
acted_sound plan (Give o) true s todo f h = record { stage = h.stage; spoken = h.spoken; still = λ over. absurd (busy plan s todo f h over) }
acted_sound plan (Give o) false s todo f h = record { stage = h.stage; spoken = failing_says s.agenda.ending OrderFailed (live_ordered o false s.live); still = λ over. absurd (busy plan s todo f h over) }
acted_sound plan (Say spoken bytes) true s todo f h = record { stage = awaiting_stage plan s.clock s.session h.stage; spoken = tt; still = λ over. absurd (busy plan s todo f h over) }
acted_sound plan (Say spoken bytes) false s todo f h = record { stage = h.stage; spoken = failing_says s.agenda.ending SendFailed s.live; still = λ over. absurd (busy plan s todo f h over) }
acted_sound plan (End cause) taken s todo f h = record { stage = tt; spoken = tt; still = λ over. (refl, refl) }

-- a car that has something to do didn't end
pub busy_lives : (plan : CarPlan) (s : State) (todo : states.Todo) (b : Bool) → s.over ≡ b → first s.agenda ≡ Some todo → IsSound plan s → b ≡ false
busy_lives plan s todo true e f h = absurd (busy plan s todo f h e)
busy_lives plan s todo false e f h = refl
