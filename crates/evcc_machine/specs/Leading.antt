-- Own: what a car keeps behind a word, by where the word leads.
use Rattle.std.specs.Prelude.{◌≡◌, ℕ, is_some, Option, Some, None}
use Rattle.std.specs.Option.{option_map}
use Rattle.charge_world.specs.declared.ports.Order.{Order}
use Rattle.session_words.specs.declared.cause.EndCause.{EndCause}
use Rattle.session_words.specs.declared.plan.CarPlan.{CarPlan}
use Rattle.session_words.specs.declared.word.Reply.{Reply}
use Rattle.car_rules.specs.declared.stage.CarStage.{CarStage}
use Rattle.car_rules.specs.Deadlines.{due_at}
use Rattle.evcc_rows.specs.Leading.{Leads}
use Rattle.evcc_rows.specs.declared.row.Moved.{Moved}
use Rattle.car_spec.specs.Deciding.{ending_by, asking}
use Rattle.car_spec.specs.Judging.{passed, gone_on, waiting}
use Rattle.car_spec.specs.States.{Wording, Session, State, nothing}

-- a session at a stage, or at none
abbrev pub at_stage : Option CarStage → Session → Session
at_stage stage session = record session { stage = stage }

-- its request is asked for the first time at a moment, or once more
abbrev pub begun_at : ℕ → Session → Session
begun_at now session = record session { moments = record session.moments { begun = now }; again = None }

abbrev pub again_at : Option ℕ → Session → Session
again_at due session = record session { again = due }

-- the word ends the car
abbrev pub ended_by : EndCause → State → State
ended_by cause s = record s { part = Wording; session = option_map passed s.session; agenda = ending_by cause s.live }

-- the request of a stage is asked at once, behind an order if there is one
abbrev pub gone_to : CarPlan → CarStage → Option Order → State → State
gone_to plan to order s = record s {
  part = Wording;
  session = option_map (λ session. gone_on session to s.clock) s.session;
  agenda = record nothing { order = order; spoken = asking plan (Some to) };
}

-- the request of a stage is asked once more, the car's pace behind the reply
abbrev pub waiting_in : CarPlan → CarStage → State → State
waiting_in plan to s = record s {
  part = Wording;
  session = option_map (λ session. waiting session to (due_at s.clock plan.pace)) s.session;
  agenda = nothing;
}

-- where a reply leads from the stage of a session, if it has one
abbrev pub LeadsFrom : CarPlan → Session → Option CarStage → Reply → Option Moved → Type 0
LeadsFrom plan session None r moved = moved ≡ None
LeadsFrom plan session (Some stage) r None = ⊥
LeadsFrom plan session (Some stage) r (Some moved) = Leads plan stage (is_some session.moments.sent) r session.stop moved

abbrev pub LeadsIn : CarPlan → Option Session → Reply → Option Moved → Type 0
LeadsIn plan None r moved = moved ≡ None
LeadsIn plan (Some session) r moved = LeadsFrom plan session session.stage r moved
