-- Behind a word a car still keeps what its steps tell.
use Rattle.std.proofs.Common.{◌≡◌, ℕ, ◌+◌, Bool, true, false, if◌then◌else◌, List, ◌∷◌, Option, Some, None, is_some, Result, Ok, Err, refl, sym, subst, ◌∙◌, arith}
use Rattle.charge_world.specs.declared.offer.Dialect.{Dialect}
use Rattle.session_words.specs.declared.cause.EndCause.{EndCause}
use Rattle.session_words.specs.declared.cause.EndCause.TheVariants.{NoNegotiation, Refused as PayloadRefused, WrongSide as FromWrongSide, WrongReply}
use Rattle.session_words.specs.declared.plan.CarPlan.{CarPlan}
use Rattle.session_words.specs.declared.word.Reply.{Reply}
use Rattle.session_words.specs.declared.word.Word.{Word}
use Rattle.session_words.specs.declared.word.Word.TheVariants as word
use Rattle.v2gtp_frames.specs.declared.FrameFault.{FrameFault}
use Rattle.v2gtp_frames.specs.Reading.{whole_at, payload_at}
use Rattle.car_rules.specs.declared.stage.CarStage.{CarStage}
use Rattle.car_rules.specs.Deadlines.{due_at}
use Rattle.car_rules.specs.Moves.{is_again, order_of, stage_behind}
use Rattle.car_rules.specs.Replies.{reply_cause}
use Rattle.car_rules.specs.Requests.{request_of}
use Rattle.car_rules.specs.Stages.{first_stage}
use Rattle.car_spec.specs.Asked.{Sent, now, last_request, awaited}
use Rattle.car_spec.specs.Codecs.{Judged, Chosen, Told, WrongSide, Refused, Codecs, judged_word, Judges}
use Rattle.car_spec.specs.Steps.{Step, Reads}
use Rattle.car_spec.specs.States.{Agenda, Wording, Session, State, nothing, is_done}
use Rattle.car_spec.specs.Deciding.{asking}
use Rattle.car_spec.specs.Judging.{dialect_of, payload_by, payload_in, wanted, ends, gone_on, waiting, chosen, moved, replied, replied_by, judged, judged_in, read, IsRead}
use Rattle.car_spec.specs.Told.{cycle_by, cycle_in, is_cycle, cycles}
use Rattle.car_laws.proofs.Cycles.{Counts, counts}
use Rattle.car_laws.proofs.Kept.{StageReads, SessionReads, Reads_by, Keeps}

none_sent : (at : ℕ) → None ≡ Some at → ⊥
none_sent at h = cc

-- a word that counts nothing
uncounted : (plan : CarPlan) (steps : List Step) (w : Judged) (o : Option CarStage) (sent : Option ℕ) → cycle_in w (last_request steps) (is_some (awaited steps)) ≡ 0
    → StageReads plan steps o sent → StageReads plan (Reads w ∷ steps) o None
uncounted plan steps w None sent z k = (k.0, rw (k.1, z) refl)
uncounted plan steps w (Some stage) sent z k = (k.0 ∙ omega (arith, z), λ at h. absurd (none_sent at h))

ends_keeps : (plan : CarPlan) (steps : List Step) (w : Judged) (s : State) (session : Session) (cause : EndCause) → cycle_in w (last_request steps) (is_some (awaited steps)) ≡ 0
    → s.clock ≡ now steps → SessionReads plan steps session → Keeps plan (Reads w ∷ steps) (ends s session cause)
ends_keeps plan steps w s session cause z t k = record {
  clock_is = t;
  reads = record { stop_is = k.stop_is; sent_is = refl; stage_is = uncounted plan steps w session.stage session.moments.sent z k.stage_is };
  fits = tt;
  fresh = tt;
}

-- the session goes on with this stage
goes_on : (plan : CarPlan) (steps : List Step) (w : Judged) (s : State) (session : Session) (stage : CarStage) (a : Agenda) → stage.cycles ≡ cycles (Reads w ∷ steps) → a.spoken ≡ asking plan (Some stage)
    → s.clock ≡ now steps → SessionReads plan steps session → Keeps plan (Reads w ∷ steps) (record s { part = Wording; session = Some (gone_on session stage s.clock); agenda = a })
goes_on plan steps w s session stage a z e t k = record {
  clock_is = t;
  reads = record { stop_is = k.stop_is; sent_is = refl; stage_is = (z, λ at h. absurd (none_sent at h)) };
  fits = rw e (stage, refl, refl);
  fresh = tt;
}

waits : (plan : CarPlan) (steps : List Step) (w : Judged) (s : State) (session : Session) (stage : CarStage) (due : Option ℕ) → stage.cycles ≡ cycles (Reads w ∷ steps)
    → s.clock ≡ now steps → SessionReads plan steps session → Keeps plan (Reads w ∷ steps) (record s { part = Wording; session = Some (waiting session stage due); agenda = nothing })
waits plan steps w s session stage due z t k = record {
  clock_is = t;
  reads = record { stop_is = k.stop_is; sent_is = refl; stage_is = (z, λ at h. absurd (none_sent at h)) };
  fits = tt;
  fresh = tt;
}

moved_by : (plan : CarPlan) (steps : List Step) (w : Judged) (s : State) (session : Session) (from : CarStage) (r : Reply) (to : CarStage) (b : Bool) → is_again from.phase to.phase ≡ b
    → to.cycles ≡ cycles (Reads w ∷ steps) → s.clock ≡ now steps → SessionReads plan steps session → Keeps plan (Reads w ∷ steps) (moved plan s session from r to)
moved_by plan steps w s session from r to true e z t k = rw e (waits plan steps w s session to (due_at s.clock plan.pace) z t k)
moved_by plan steps w s session from r to false e z t k =
    rw e (goes_on plan steps w s session to (record nothing { order = order_of plan from.phase r.tell; spoken = asking plan (Some to) }) z refl t k)

-- a reply in a stage
cycle_unasked : (o : Option Sent) (r : Reply) → cycle_by o false r ≡ 0
cycle_unasked None r = refl
cycle_unasked (Some sent) r = refl

asked_cycle : (plan : CarPlan) (steps : List Step) (stage : CarStage) (at : ℕ) (r : Reply) → last_request steps ≡ Some (record { request = request_of plan stage; at = at }) → awaited steps ≡ Some at
    → cycle_in (Told r) (last_request steps) (is_some (awaited steps)) ≡ (if is_cycle (request_of plan stage) r then 1 else 0)
asked_cycle plan steps stage at r e f = rw (e, f) refl

replied_keeps : (o : Option EndCause) (plan : CarPlan) (steps : List Step) (s : State) (session : Session) (stage : CarStage) (at : ℕ) (r : Reply) → reply_cause plan stage true r ≡ o
    → last_request steps ≡ Some (record { request = request_of plan stage; at = at }) → awaited steps ≡ Some at → stage.cycles ≡ cycles steps
    → s.clock ≡ now steps → SessionReads plan steps session → Keeps plan (Reads (Told r) ∷ steps) (replied_by o plan s session stage r)
replied_keeps (Some cause) plan steps s session stage at r e l a n t k =
    let c : Counts plan stage r = counts plan stage r in
    let none : is_cycle (request_of plan stage) r ≡ false = c.ends cause e in
    ends_keeps plan steps (Told r) s session cause (asked_cycle plan steps stage at r l a ∙ rw none refl) t k
replied_keeps None plan steps s session stage at r e l a n t k =
    let c : Counts plan stage r = counts plan stage r in
    let more : cycles (Reads (Told r) ∷ steps) ≡ stage.cycles + (if is_cycle (request_of plan stage) r then 1 else 0) = rw (asked_cycle plan steps stage at r l a, n) refl in
    moved_by plan steps (Told r) s session stage r (stage_behind plan stage r session.stop) _ refl (c.goes_on e ∙ sym more) t k

unasked_keeps : (plan : CarPlan) (steps : List Step) (s : State) (session : Session) (stage : CarStage) (r : Reply) → awaited steps ≡ None
    → s.clock ≡ now steps → SessionReads plan steps session → Keeps plan (Reads (Told r) ∷ steps) (replied_by (reply_cause plan stage false r) plan s session stage r)
unasked_keeps plan steps s session stage r a t k =
    let z : cycle_in (Told r) (last_request steps) (is_some (awaited steps)) ≡ 0 = rw a (cycle_unasked (last_request steps) r) in
    ends_keeps plan steps (Told r) s session WrongReply z t k

staged_keeps : (plan : CarPlan) (steps : List Step) (s : State) (session : Session) (stage : CarStage) (sent : Option ℕ) (r : Reply) → session.moments.sent ≡ sent → StageReads plan steps (Some stage) sent
    → s.clock ≡ now steps → SessionReads plan steps session → Keeps plan (Reads (Told r) ∷ steps) (replied_by (reply_cause plan stage (is_some sent) r) plan s session stage r)
staged_keeps plan steps s session stage None r e g t k = unasked_keeps plan steps s session stage r (sym k.sent_is ∙ e) t k
staged_keeps plan steps s session stage (Some at) r e g t k = replied_keeps _ plan steps s session stage at r refl (g.1 at refl) (sym k.sent_is ∙ e) g.0 t k

told_keeps : (plan : CarPlan) (steps : List Step) (s : State) (session : Session) (o : Option CarStage) (r : Reply) → session.stage ≡ o → StageReads plan steps o session.moments.sent
    → s.clock ≡ now steps → SessionReads plan steps session → Keeps plan (Reads (Told r) ∷ steps) (replied plan s session o r)
told_keeps plan steps s session None r e g t k =
    let z : cycle_in (Told r) (last_request steps) (is_some (awaited steps)) ≡ 0 = rw g.0 refl in
    ends_keeps plan steps (Told r) s session WrongReply z t k
told_keeps plan steps s session (Some stage) r e g t k = staged_keeps plan steps s session stage session.moments.sent r refl g t k

-- no dialect is chosen twice
never_chosen : (w : Option Word) (d : Option Dialect) → Chosen d ≡ judged_word w → ⊥
never_chosen None d h = cc
never_chosen (Some (word.Request request)) d h = cc
never_chosen (Some (word.Reply reply)) d h = cc
never_chosen (Some word.Nothing) d h = cc

chosen_keeps : (c : Codecs) (plan : CarPlan) (steps : List Step) (s : State) (session : Session) (o : Option CarStage) (bytes : List ℕ) (d : Option Dialect) → session.stage ≡ o
    → Judges c plan.dialects.items (dialect_of o) bytes (Chosen d) → StageReads plan steps o session.moments.sent
    → s.clock ≡ now steps → SessionReads plan steps session → Keeps plan (Reads (Chosen d) ∷ steps) (chosen plan s session d)
chosen_keeps c plan steps s session o bytes None e j g t k = ends_keeps plan steps (Chosen None) s session NoNegotiation refl t k
chosen_keeps c plan steps s session None bytes (Some d) e j g t k =
    goes_on plan steps (Chosen (Some d)) s session (first_stage plan d) (record nothing { spoken = asking plan (Some (first_stage plan d)) }) (omega (arith, g.1)) refl t k
chosen_keeps c plan steps s session (Some stage) bytes (Some d) e j g t k = absurd (never_chosen j.0 (Some d) j.2)

judged_keeps : (c : Codecs) (plan : CarPlan) (steps : List Step) (s : State) (session : Session) (bytes : List ℕ) (w : Judged) → Judges c plan.dialects.items (dialect_of session.stage) bytes w
    → s.clock ≡ now steps → SessionReads plan steps session → Keeps plan (Reads w ∷ steps) (judged plan s session w)
judged_keeps c plan steps s session bytes (Chosen d) j t k = chosen_keeps c plan steps s session session.stage bytes d refl j k.stage_is t k
judged_keeps c plan steps s session bytes (Told r) j t k = told_keeps plan steps s session session.stage r refl k.stage_is t k
judged_keeps c plan steps s session bytes WrongSide j t k = ends_keeps plan steps WrongSide s session FromWrongSide refl t k
judged_keeps c plan steps s session bytes Refused j t k = ends_keeps plan steps Refused s session PayloadRefused refl t k

-- a word is read of a session alone, and of a whole frame of it
front_keeps : (c : Codecs) (plan : CarPlan) (steps : List Step) (s : State) (session : Session) (r : Result (Option ℕ) FrameFault) (w : Judged) → IsRead c plan (payload_by r session) w
    → s.clock ≡ now steps → SessionReads plan steps session → Keeps plan (Reads w ∷ steps) (judged plan s session w)
front_keeps c plan steps s session (Err fault) w j t k = absurd j
front_keeps c plan steps s session (Ok None) w j t k = absurd j
front_keeps c plan steps s session (Ok (Some n)) w j t k = judged_keeps c plan steps s session (payload_at n session.unread) w j t k

session_keeps : (c : Codecs) (plan : CarPlan) (steps : List Step) (s : State) (o : Option Session) (w : Judged) → s.session ≡ o → IsRead c plan (payload_in o) w
    → Keeps plan steps s → Keeps plan (Reads w ∷ steps) (judged_in plan s o w)
session_keeps c plan steps s None w e j k = absurd j
session_keeps c plan steps s (Some session) w e j k =
    let g : SessionReads plan steps session = subst (λ (x : Option Session). Reads_by plan steps s.over x) e k.reads in
    front_keeps c plan steps s session (whole_at session.unread) w j k.clock_is g

wanted_by : (c : Codecs) (plan : CarPlan) (s : State) (w : Judged) (b : Bool) → IsRead c plan (if b then payload_in s.session else None) w → IsRead c plan (payload_in s.session) w
wanted_by c plan s w true j = j
wanted_by c plan s w false j = absurd j

pub read_keeps : (c : Codecs) (plan : CarPlan) (steps : List Step) (s : State) (w : Judged) → IsRead c plan (wanted s) w → Keeps plan steps s → Keeps plan (Reads w ∷ steps) (read plan s w)
read_keeps c plan steps s w j k = session_keeps c plan steps s s.session w refl (wanted_by c plan s w (is_done s.agenda) j) k
