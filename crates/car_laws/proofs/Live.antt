-- Whether the contactor is live is read off the past.
use Rattle.std.proofs.Common.{◌≡◌, Bool, true, false, List, [], ◌∷◌, Option, Some, None, refl, sym, ap, ◌∙◌}
use Rattle.charge_world.specs.declared.entry.Entry.{Entry}
use Rattle.charge_world.specs.declared.offer.Dialect.{Dialect}
use Rattle.charge_world.specs.declared.ports.Order.{Order}
use Rattle.charge_world.specs.declared.ports.Order.TheVariants as order
use Rattle.session_words.specs.declared.cause.EndCause.{EndCause}
use Rattle.session_words.specs.declared.plan.CarPlan.{CarPlan}
use Rattle.session_words.specs.declared.word.Reply.{Reply}
use Rattle.car_rules.specs.declared.stage.CarStage.{CarStage}
use Rattle.car_rules.specs.Moves.{is_again, stage_behind}
use Rattle.car_rules.specs.Replies.{reply_cause}
use Rattle.station_spec.specs.Acting.{live_ordered}
use Rattle.car_spec.specs.Codecs.{Judged, Chosen, Told, WrongSide, Refused, Codecs}
use Rattle.car_spec.specs.Steps.{Act, Seek, Dial, Give, Say, End, Step, Hears, Loses, Reads, Does, entry_of}
use Rattle.car_spec.specs.States.{Session, State}
use Rattle.car_spec.specs.Deciding.{decided}
use Rattle.car_spec.specs.Judging.{chosen, moved, replied, replied_by, judged, judged_in, read}
use Rattle.car_spec.specs.Acting.{acted, state}
use Rattle.car_spec.specs.Runs.{IsRun}
use Rattle.car_laws.specs.Contactor.{live, live_behind}
use Rattle.car_laws.proofs.Decided.{same_live}

-- reading a word changes nothing of the contactor
chosen_live : (plan : CarPlan) (s : State) (session : Session) (d : Option Dialect) → (chosen plan s session d).live ≡ s.live
chosen_live plan s session None = refl
chosen_live plan s session (Some d) = refl

moved_by : (plan : CarPlan) (s : State) (session : Session) (from : CarStage) (r : Reply) (to : CarStage) (b : Bool) → is_again from.phase to.phase ≡ b → (moved plan s session from r to).live ≡ s.live
moved_by plan s session from r to true e = rw e refl
moved_by plan s session from r to false e = rw e refl

replied_live : (o : Option EndCause) (plan : CarPlan) (s : State) (session : Session) (stage : CarStage) (r : Reply) → (replied_by o plan s session stage r).live ≡ s.live
replied_live (Some cause) plan s session stage r = refl
replied_live None plan s session stage r = moved_by plan s session stage r (stage_behind plan stage r session.stop) _ refl

told_live : (plan : CarPlan) (s : State) (session : Session) (o : Option CarStage) (r : Reply) → (replied plan s session o r).live ≡ s.live
told_live plan s session None r = refl
told_live plan s session (Some stage) r = replied_live (reply_cause plan stage _ r) plan s session stage r

judged_live : (plan : CarPlan) (s : State) (session : Session) (w : Judged) → (judged plan s session w).live ≡ s.live
judged_live plan s session (Chosen d) = chosen_live plan s session d
judged_live plan s session (Told r) = told_live plan s session session.stage r
judged_live plan s session WrongSide = refl
judged_live plan s session Refused = refl

in_live : (plan : CarPlan) (s : State) (o : Option Session) (w : Judged) → (judged_in plan s o w).live ≡ s.live
in_live plan s None w = refl
in_live plan s (Some session) w = judged_live plan s session w

read_live : (plan : CarPlan) (s : State) (w : Judged) → (read plan (decided plan s) w).live ≡ s.live
read_live plan s w = in_live plan (decided plan s) (decided plan s).session w ∙ same_live plan s

-- an act
same_order : (o : Order) (taken l : Bool) → live_ordered o taken l ≡ live_behind o taken l
same_order order.Open true l = refl
same_order order.Open false l = refl
same_order order.Close taken l = refl
same_order (order.Limits voltage current watts) taken l = refl

acted_live : (a : Act) (taken : Bool) (s : State) (past : List Entry) → s.live ≡ live past → (acted a taken s).live ≡ live (entry_of a taken ∷ past)
acted_live (Seek d) taken s past h = h
acted_live (Dial port) true s past h = h
acted_live (Dial port) false s past h = h
acted_live (Give o) true s past h = same_order o true s.live ∙ ap (live_behind o true) h
acted_live (Give o) false s past h = same_order o false s.live ∙ ap (live_behind o false) h
acted_live (Say spoken bytes) true s past h = h
acted_live (Say spoken bytes) false s past h = h
acted_live (End cause) taken s past h = h

pub live_read : (c : Codecs) (plan : CarPlan) (past : List Entry) (steps : List Step) → IsRun c plan past steps → (state plan steps).live ≡ live past
live_read c plan past [] r = sym (ap live r)
live_read c plan past (Hears at e ∷ steps) r = let h = r.3 in live_read c plan r.0 steps r.1 ∙ sym (ap live h.past_is)
live_read c plan past (Loses ∷ steps) r = live_read c plan r.0 steps r.1 ∙ sym (ap live r.3)
live_read c plan past (Reads w ∷ steps) r = read_live plan (state plan steps) w ∙ live_read c plan past steps r.0
live_read c plan past (Does a taken ∷ steps) r =
    acted_live a taken (decided plan (state plan steps)) r.0 (same_live plan (state plan steps) ∙ live_read c plan r.0 steps r.1) ∙ sym (ap live r.3)
