-- What a car has to do in a phase is what its agenda says.
use Rattle.std.proofs.Common.{◌≡◌, ℕ, Bool, true, false, ◌&&◌, not, if◌then◌else◌, List, Option, Some, None, refl, ap, sym, subst, ◌∙◌}
use Rattle.charge_world.specs.declared.ports.Order.{Order}
use Rattle.session_words.specs.declared.cause.EndCause.TheVariants as cause
use Rattle.session_words.specs.declared.plan.CarPlan.{CarPlan}
use Rattle.session_words.specs.declared.plan.PostPlan.{PostPlan}
use Rattle.post_spec.specs.Codecs as post
use Rattle.station_spec.specs.States as station
use Rattle.car_rules.specs.declared.stage.CarStage.{CarStage}
use Rattle.car_spec.specs.Codecs as car
use Rattle.car_spec.specs.Steps.{Spoken, Act}
use Rattle.car_spec.specs.States.{State, Todo, is_none, first}
use Rattle.car_spec.specs.States as states
use Rattle.car_spec.specs.Deciding.{from_part, decided}
use Rattle.car_spec.specs.Next.{MayAct}
use Rattle.pipe_spec.specs.Histories.{token}
use Rattle.pair_words.specs.Exchanges.{Both}
use Rattle.pair_words.specs.Laws.{both, has_ended}
use Rattle.pair_deeds.proofs.Cars.{cars_do_what_is_first}
use Rattle.matched_pairs.specs.Ends.{IsToSay, IsToFinish}
use Rattle.matched_pairs.specs.Phases.{Begins, IsToOffer, Offered, Offers, Responded, Talks, IsToAsk, Rests, Asks, IsToReply, Closes, Replies, Ends, IsToStop, Stopped, NoneYet, Read, TalksBy}
use Rattle.matched_pairs.specs.Moves.{IsPair}
use Rattle.matched_pairs.proofs.CarPhases.{still_acts, ended_acts, Drives, drives, Speaks, speaks, DrivesLast, drives_last}
use Rattle.matched_pairs.specs.Acts.{IsOfCar, CarsAct}

says_so : (c : car.Codecs) (plan : CarPlan) (k : State) (stage : Option CarStage) (order : Option Order) (spoken : Spoken) (act : Act) → plan.sdp ≡ 0 → IsToSay plan k stage order spoken
    → MayAct c plan k act true → IsOfCar act
says_so c plan k stage (Some o) spoken act joined say i = let d : Drives plan k stage spoken o act = drives c plan k stage o spoken act say i in subst IsOfCar (sym d.act_is) tt
says_so c plan k stage None spoken act joined say i = let d : Speaks c plan k stage spoken act = speaks c plan k stage spoken act joined say i in subst IsOfCar (sym d.act_is) tt

-- what is decided stays until it is done
stays_busy : (plan : CarPlan) (k : State) (todo : Todo) → first k.agenda ≡ Some todo → decided plan k ≡ k
stays_busy plan k todo e = ap (λ (b : Bool). if b && not k.over then from_part plan k.part k else k) (ap is_none e)

stops_so : (c : car.Codecs) (plan : CarPlan) (k : State) (order : Option Order) (act : Act) → IsToFinish plan k order cause.Stopped → MayAct c plan k act true → IsOfCar act
stops_so c plan k (Some o) act finish i = let d : DrivesLast plan k o cause.Stopped act = drives_last c plan k o cause.Stopped act finish i in subst IsOfCar (sym d.act_is) tt
stops_so c plan k None act finish i =
    let d = cars_do_what_is_first c plan k (states.Finish cause.Stopped) act true
    (ap (λ (x : State). first x.agenda) (stays_busy plan k (states.Finish cause.Stopped) (ap first finish.agenda_is)) ∙ ap first finish.agenda_is) i in
    subst IsOfCar (sym d.0) refl

begins_act : (c : post.Codecs) (cs : car.Codecs) (post_plan : PostPlan) (plan : CarPlan) (s : station.State) (k : State) (to_station to_car : List ℕ) (act : Act) → IsPair c cs post_plan plan
    → Begins c cs post_plan plan s k to_station to_car → MayAct cs plan k act true → IsOfCar act
begins_act c cs post_plan plan s k to_station to_car act p (IsToOffer come say none) i = says_so cs plan k None None _ act p.joined say i
begins_act c cs post_plan plan s k to_station to_car act p (Offered request offers come a comes e) i = absurd (still_acts cs plan k a.session act a.still i)
begins_act c cs post_plan plan s k to_station to_car act p (Offers request unread offers l a comes e) i = absurd (still_acts cs plan k a.session act a.still i)
begins_act c cs post_plan plan s k to_station to_car act p (Responded request unread begun l a e comes) i = absurd (still_acts cs plan k a.session act a.still i)

talks_act : (c : post.Codecs) (cs : car.Codecs) (post_plan : PostPlan) (plan : CarPlan) (b : Both) (s : station.State) (k : State) (to_station to_car : List ℕ) (act : Act) → IsPair c cs post_plan plan
    → Talks c cs post_plan plan b s k to_station to_car → MayAct cs plan k act true → IsOfCar act
talks_act c cs post_plan plan b s k to_station to_car act p (IsToAsk order l say none) i = says_so cs plan k _ order _ act p.joined say i
talks_act c cs post_plan plan b s k to_station to_car act p (Rests l a none) i = absurd (still_acts cs plan k a.session act a.still i)
talks_act c cs post_plan plan b s k to_station to_car act p (Asks request unread encodes l a comes e) i = absurd (still_acts cs plan k a.session act a.still i)
talks_act c cs post_plan plan b s k to_station to_car act p (IsToReply facts later shown fits send a none) i = absurd (still_acts cs plan k a.session act a.still i)
talks_act c cs post_plan plan b s k to_station to_car act p (Closes facts shown fits last l w a none) i = absurd (still_acts cs plan k a.session act a.still i)
talks_act c cs post_plan plan b s k to_station to_car act p (Replies facts later shown payload unread fits encodes goes a e comes) i = absurd (still_acts cs plan k a.session act a.still i)

ends_act : (cs : car.Codecs) (post_plan : PostPlan) (plan : CarPlan) (s : station.State) (k : State) (to_station to_car : List ℕ) (act : Act) → Ends post_plan plan s k to_station to_car → MayAct cs plan k act true
    → IsOfCar act
ends_act cs post_plan plan s k to_station to_car act (IsToStop order g finish none) i = stops_so cs plan k order act finish i
ends_act cs post_plan plan s k to_station to_car act (Stopped g ended none) i = absurd (ended_acts cs plan k act ended i)

by_end : (x : Bool) (c : post.Codecs) (cs : car.Codecs) (post_plan : PostPlan) (plan : CarPlan) (b : Both) (s : station.State) (k : State) (to_station to_car : List ℕ) (act : Act) → IsPair c cs post_plan plan
    → TalksBy x c cs post_plan plan b s k to_station to_car → MayAct cs plan k act true → IsOfCar act
by_end true c cs post_plan plan b s k to_station to_car act p t i = ends_act cs post_plan plan s k to_station to_car act t i
by_end false c cs post_plan plan b s k to_station to_car act p t i = talks_act c cs post_plan plan b s k to_station to_car act p t i

pub cars_act : (c : post.Codecs) (cs : car.Codecs) → CarsAct c cs
cars_act c cs post_plan plan NoneYet s k to_station to_car act p phase i = begins_act c cs post_plan plan s k to_station to_car act p phase i
cars_act c cs post_plan plan (Read dialect xs) s k to_station to_car act p phase i =
    by_end (has_ended post_plan plan token dialect xs) c cs post_plan plan (both post_plan plan token dialect xs) s k to_station to_car act p phase.1 i
