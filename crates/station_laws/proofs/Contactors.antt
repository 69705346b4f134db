-- What a post keeps of its contactor.
use Rattle.std.proofs.Common.{◌≡◌, ℕ, Bool, true, false, List, [], ◌∷◌, map, Option, Some, None, refl, ap, ◌∙◌}
use Rattle.charge_world.specs.declared.heard.PlantEvent.TheVariants as plant
use Rattle.charge_world.specs.declared.ports.Order.{Order}
use Rattle.charge_world.specs.declared.ports.Order.TheVariants as order
use Rattle.session_words.specs.declared.code.Progress.TheVariants as progress
use Rattle.session_words.specs.declared.facts.Facts.{Facts}
use Rattle.session_words.specs.declared.plan.PostPlan.{PostPlan}
use Rattle.session_words.specs.declared.session.SessionId.{SessionId}
use Rattle.session_words.specs.declared.word.Ask.{Ask}
use Rattle.session_words.specs.declared.word.Ask.TheVariants as ask
use Rattle.session_words.specs.declared.word.Request.{Request}
use Rattle.contactor.specs.Calls.{standing_heard}
use Rattle.contactor.specs.Standing.{Kind, last_order, feedback_since, opened_by, unordered_by, confirms, standing_by, standing_of, is_live}
use Rattle.contactor.specs.Standing as contactor
use Rattle.session_rules.specs.declared.stage.Stage.{Stage}
use Rattle.session_rules.specs.Moves.{facts_by, facts_behind}
use Rattle.session_rules.specs.Verdict.{verdict, is_accepted}
use Rattle.station_spec.specs.Codecs.{Judged, Negotiated, Asked, WrongSide, Refused}
use Rattle.station_spec.specs.Contactors.{contactor_acts, standing, live}
use Rattle.station_spec.specs.Steps.{Event, Came, Bytes, Gone, Datagram, Plant, Clock, Over, Act, Give, Send, Answer, End, Seen, Heard, Did, Reading, Hears, Does, seen_of}
use Rattle.station_spec.specs.States.{Session, State}
use Rattle.station_spec.specs.Deciding.{decided}
use Rattle.station_spec.specs.Judging.{judged, taken_in, read, filled}
use Rattle.station_spec.specs.Hearing.{heard_facts}
use Rattle.station_spec.specs.Acting.{ordered, acted, state}
use Rattle.station_laws.specs.Contactors.{IsContactor, ContactorsAreRead}
use Rattle.station_laws.proofs.Decided.{same_live, same_facts}

-- feedback
opened_fed : (closed : Bool) (fed : List Bool) → standing_heard (opened_by fed) closed ≡ opened_by (closed ∷ fed)
opened_fed true [] = refl
opened_fed false [] = refl
opened_fed true (true ∷ fed) = refl
opened_fed false (true ∷ fed) = refl
opened_fed true (false ∷ fed) = refl
opened_fed false (false ∷ fed) = refl

unordered_fed : (closed : Bool) (fed : List Bool) → standing_heard (unordered_by fed) closed ≡ unordered_by (closed ∷ fed)
unordered_fed true [] = refl
unordered_fed false [] = refl
unordered_fed true (true ∷ fed) = refl
unordered_fed false (true ∷ fed) = refl
unordered_fed true (false ∷ fed) = refl
unordered_fed false (false ∷ fed) = refl

closed_fed : (closed : Bool) (fed : List Bool) (b : Bool) → confirms fed ≡ b → standing_heard (standing_by (Some (contactor.Close, true)) fed) closed ≡ standing_by (Some (contactor.Close, true)) (closed ∷ fed)
closed_fed true fed true e = rw e refl
closed_fed true fed false e = rw e refl
closed_fed false fed true e = rw e refl
closed_fed false fed false e = rw e refl

fed_by : (o : Option (Kind × Bool)) (closed : Bool) (fed : List Bool) → standing_heard (standing_by o fed) closed ≡ standing_by o (closed ∷ fed)
fed_by None closed fed = unordered_fed closed fed
fed_by (Some (contactor.Close, true)) closed fed = closed_fed closed fed (confirms fed) refl
fed_by (Some (contactor.Open, true)) closed fed = opened_fed closed fed
fed_by (Some (contactor.Close, false)) true fed = refl
fed_by (Some (contactor.Close, false)) false fed = refl
fed_by (Some (contactor.Open, false)) true fed = refl
fed_by (Some (contactor.Open, false)) false fed = refl

heard_standing : (past : List Seen) (at : ℕ) (e : Event) (f : Facts) → f.contactor ≡ standing past → (heard_facts e f).contactor ≡ standing (Heard at e ∷ past)
heard_standing past at (Came token) f h = h
heard_standing past at (Bytes bytes) f h = h
heard_standing past at Gone f h = h
heard_standing past at (Datagram bytes) f h = h
heard_standing past at (Plant (plant.Pilot st)) f h = h
heard_standing past at (Plant (plant.Isolation level)) f h = h
heard_standing past at (Plant (plant.Measured voltage current)) f h = h
heard_standing past at (Plant (plant.Feedback closed)) f h = ap (λ s. standing_heard s closed) h ∙ fed_by (last_order (contactor_acts past)) closed (feedback_since (contactor_acts past))
heard_standing past at (Plant plant.Paid) f h = h
heard_standing past at (Plant plant.Emergency) f h = h
heard_standing past at (Plant plant.StopAsked) f h = h
heard_standing past at (Plant plant.RenewAsked) f h = h
heard_standing past at Clock f h = h
heard_standing past at Over f h = h

heard_live : (past : List Seen) (at : ℕ) (e : Event) → live past ≡ live (Heard at e ∷ past)
heard_live past at (Came token) = refl
heard_live past at (Bytes bytes) = refl
heard_live past at Gone = refl
heard_live past at (Datagram bytes) = refl
heard_live past at (Plant (plant.Pilot st)) = refl
heard_live past at (Plant (plant.Isolation level)) = refl
heard_live past at (Plant (plant.Measured voltage current)) = refl
heard_live past at (Plant (plant.Feedback closed)) = refl
heard_live past at (Plant plant.Paid) = refl
heard_live past at (Plant plant.Emergency) = refl
heard_live past at (Plant plant.StopAsked) = refl
heard_live past at (Plant plant.RenewAsked) = refl
heard_live past at Clock = refl
heard_live past at Over = refl

-- a word changes nothing of it
by_contactor : (s : Stage) (facts : Facts) (name : SessionId) (a : Ask) → (facts_by s facts name a).contactor ≡ facts.contactor
by_contactor s facts name (ask.SessionSetup car) = refl
by_contactor s facts name (ask.PowerDelivery progress.Renegotiate tuple profile) = refl
by_contactor s facts name a = refl

behind_contactor : (b : Bool) (s : Stage) (facts : Facts) (plan : PostPlan) (r : Request) → is_accepted (verdict s facts plan r) ≡ b → (facts_behind s facts plan r).contactor ≡ facts.contactor
behind_contactor true s facts plan r e = rw e (by_contactor s facts r.session r.ask)
behind_contactor false s facts plan r e = rw e refl

judged_contactor : (plan : PostPlan) (s : State) (ss : Session) (w : Judged) (shown : ℕ) → (judged plan s ss w shown).facts.contactor ≡ s.facts.contactor
judged_contactor plan s ss (Negotiated chosen response) shown = refl
judged_contactor plan s ss (Asked r) shown = behind_contactor (is_accepted (verdict ss.stage s.facts plan r)) ss.stage s.facts plan r refl
judged_contactor plan s ss WrongSide shown = refl
judged_contactor plan s ss Refused shown = refl

judged_live : (plan : PostPlan) (s : State) (ss : Session) (w : Judged) (shown : ℕ) → (judged plan s ss w shown).live ≡ s.live
judged_live plan s ss (Negotiated chosen response) shown = refl
judged_live plan s ss (Asked r) shown = refl
judged_live plan s ss WrongSide shown = refl
judged_live plan s ss Refused shown = refl

taken_contactor : (plan : PostPlan) (s : State) (kept : Option Session) (r : Reading) → (taken_in plan s kept r).facts.contactor ≡ s.facts.contactor
taken_contactor plan s None r = refl
taken_contactor plan s (Some ss) r = judged_contactor plan s ss r.judged r.shown

taken_live : (plan : PostPlan) (s : State) (kept : Option Session) (r : Reading) → (taken_in plan s kept r).live ≡ s.live
taken_live plan s None r = refl
taken_live plan s (Some ss) r = judged_live plan s ss r.judged r.shown

read_contactor : (plan : PostPlan) (s : State) (r : Option Reading) → (read plan s r).facts.contactor ≡ s.facts.contactor
read_contactor plan s None = refl
read_contactor plan s (Some r) = taken_contactor plan s s.session r

read_live : (plan : PostPlan) (s : State) (r : Option Reading) → (read plan s r).live ≡ s.live
read_live plan s None = refl
read_live plan s (Some r) = taken_live plan s s.session r

pub filled_contactor : (plan : PostPlan) (r : Option Reading) (s : State) → (filled plan r s).facts.contactor ≡ s.facts.contactor
filled_contactor plan r s = read_contactor plan (decided plan s) r ∙ ap (λ (f : Facts). f.contactor) (same_facts plan s)

pub filled_live : (plan : PostPlan) (r : Option Reading) (s : State) → (filled plan r s).live ≡ s.live
filled_live plan r s = read_live plan (decided plan s) r ∙ same_live plan s

-- an act
gave_contactor : (past : List Seen) (o : Order) (taken : Bool) (s : State) → IsContactor past s → IsContactor (Did (Give o) taken ∷ past) (ordered o taken s)
gave_contactor past order.Open true s i = record { standing_is = refl; live_is = refl }
gave_contactor past order.Open false s i = record { standing_is = refl; live_is = i.live_is }
gave_contactor past order.Close true s i = record { standing_is = refl; live_is = refl }
gave_contactor past order.Close false s i = record { standing_is = refl; live_is = refl }
gave_contactor past (order.Limits voltage current watts) true s i = record { standing_is = i.standing_is; live_is = i.live_is }
gave_contactor past (order.Limits voltage current watts) false s i = record { standing_is = i.standing_is; live_is = i.live_is }

acted_contactor : (past : List Seen) (a : Act) (taken : Bool) (s : State) → IsContactor past s → IsContactor (Did a taken ∷ past) (acted a taken s)
acted_contactor past (Give o) true s i = let g = gave_contactor past o true s i in record { standing_is = g.standing_is; live_is = g.live_is }
acted_contactor past (Give o) false s i = let g = gave_contactor past o false s i in record { standing_is = g.standing_is; live_is = g.live_is }
acted_contactor past (Send bytes) true s i = record { standing_is = i.standing_is; live_is = i.live_is }
acted_contactor past (Send bytes) false s i = record { standing_is = i.standing_is; live_is = i.live_is }
acted_contactor past (Answer bytes) taken s i = record { standing_is = i.standing_is; live_is = i.live_is }
acted_contactor past (End cause) taken s i = record { standing_is = i.standing_is; live_is = i.live_is }

pub contactors_are_read : ContactorsAreRead
contactors_are_read plan [] = record { standing_is = refl; live_is = refl }
contactors_are_read plan (Hears at e ∷ steps) =
    let i = contactors_are_read plan steps in
    record { standing_is = heard_standing (map seen_of steps) at e (state plan steps).facts i.standing_is; live_is = i.live_is ∙ heard_live (map seen_of steps) at e }
contactors_are_read plan (Does r a taken ∷ steps) =
    let i = contactors_are_read plan steps in
    acted_contactor (map seen_of steps) a taken (filled plan r (state plan steps))
    (record { standing_is = filled_contactor plan r (state plan steps) ∙ i.standing_is; live_is = filled_live plan r (state plan steps) ∙ i.live_is })
