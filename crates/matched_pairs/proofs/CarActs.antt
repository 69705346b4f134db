-- The acts of a car lead from phase to phase.
use Rattle.std.proofs.Common.{◌≡◌, ℕ, ◌≤◌, Bool, true, false, List, [], ◌++◌, length, Option, Some, None, sym, subst, ◌∙◌}
use Rattle.std.proofs.lemmas.List.{append-nil}
use Rattle.charge_world.specs.declared.ports.Order.{Order}
use Rattle.session_words.specs.declared.cause.EndCause.TheVariants as cause
use Rattle.session_words.specs.declared.plan.CarPlan.{CarPlan}
use Rattle.session_words.specs.declared.plan.PostPlan.{PostPlan}
use Rattle.v2gtp_frames.specs.Frames.{frame}
use Rattle.post_spec.specs.Codecs as post
use Rattle.station_spec.specs.States.{State}
use Rattle.car_rules.specs.Requests.{request_of}
use Rattle.car_spec.specs.Codecs as car
use Rattle.car_spec.specs.Steps.{Act, Give, Say, End, Offer, Asked}
use Rattle.car_spec.specs.States as car_states
use Rattle.car_spec.specs.Deciding.{decided}
use Rattle.car_spec.specs.Acting.{acted}
use Rattle.car_spec.specs.Next.{MayAct}
use Rattle.pipe_spec.specs.Histories.{token, car_says}
use Rattle.pair_words.specs.Exchanges.{Both}
use Rattle.pair_words.specs.Laws.{both, has_ended}
use Rattle.matched_pairs.specs.Ends.{Listens, IsGone, IsToSay, IsToFinish}
use Rattle.matched_pairs.specs.Phases.{NothingComes, Begins, IsToOffer, Offered, Offers, Responded, Talks, IsToAsk, Rests, Asks, IsToReply, Closes, Replies, Ends, IsToStop, Stopped, NoneYet, Read, TalksBy}
use Rattle.matched_pairs.specs.Moves.{IsPair, CarsGoOn}
use Rattle.matched_pairs.proofs.Messages.{says}
use Rattle.matched_pairs.proofs.CarPhases.{still_acts, ended_acts, Drives, drives, Speaks, speaks, DrivesLast, drives_last, Finishes, finishes}

-- what is known of another act is so of this one
carried : (P : car_states.State → List ℕ → Type 0) (d : car_states.State) (act own : Act) (way : List ℕ) → act ≡ own → P (acted own true d) (way ++ car_says own)
    → P (acted act true d) (way ++ car_says act)
carried P d act own way e h = subst (λ (a : Act). P (acted a true d) (way ++ car_says a)) (sym e) h

begins_on : (c : post.Codecs) (cc : car.Codecs) (post_plan : PostPlan) (plan : CarPlan) (s : State) (k : car_states.State) (to_station to_car : List ℕ) (act : Act) → IsPair c cc post_plan plan
    → Begins c cc post_plan plan s k to_station to_car → length (car_says act) ≤ 65544 → MayAct cc plan k act true
    → Begins c cc post_plan plan s (acted act true (decided plan k)) (to_station ++ car_says act) to_car
begins_on c cc post_plan plan s k to_station to_car act p (IsToOffer come say none) short i =
    let d : Speaks cc plan k None Offer act = speaks cc plan k None Offer act p.joined say i in
    carried (λ x way. Begins c cc post_plan plan s x way to_car) (decided plan k) act (Say Offer (frame d.payload)) to_station d.act_is
    (Offered d.payload d.spoken_is come d.awaits (says d.payload to_station none.station (subst (λ (a : Act). length (car_says a) ≤ 65544) d.act_is short)) none.car)
begins_on c cc post_plan plan s k to_station to_car act p (Offered request offers come awaits comes e) short i = absurd (still_acts cc plan k awaits.session act awaits.still i)
begins_on c cc post_plan plan s k to_station to_car act p (Offers request unread offers l awaits comes e) short i = absurd (still_acts cc plan k awaits.session act awaits.still i)
begins_on c cc post_plan plan s k to_station to_car act p (Responded request unread begun l awaits e comes) short i = absurd (still_acts cc plan k awaits.session act awaits.still i)

nothing_more : (to_station to_car : List ℕ) → NothingComes to_station to_car → NothingComes (to_station ++ []) to_car
nothing_more to_station to_car n = record { station = append-nil to_station ∙ n.station; car = n.car }

asks_on : (c : post.Codecs) (cc : car.Codecs) (post_plan : PostPlan) (plan : CarPlan) (b : Both) (s : State) (k : car_states.State) (to_station to_car : List ℕ) (act : Act) (order : Option Order)
    → IsPair c cc post_plan plan → Listens post_plan s b.post [] → IsToSay plan k (Some b.car) order (Asked b.car.dialect (request_of plan b.car)) → NothingComes to_station to_car
    → length (car_says act) ≤ 65544 → MayAct cc plan k act true → Talks c cc post_plan plan b s (acted act true (decided plan k)) (to_station ++ car_says act) to_car
asks_on c cc post_plan plan b s k to_station to_car act (Some o) p l say none short i =
    let d : Drives plan k (Some b.car) (Asked b.car.dialect (request_of plan b.car)) o act = drives cc plan k (Some b.car) o (Asked b.car.dialect (request_of plan b.car)) act say i in
    carried (λ x way. Talks c cc post_plan plan b s x way to_car) (decided plan k) act (Give o) to_station d.act_is
    (IsToAsk None l d.say (nothing_more to_station to_car none))
asks_on c cc post_plan plan b s k to_station to_car act None p l say none short i =
    let d : Speaks cc plan k (Some b.car) (Asked b.car.dialect (request_of plan b.car)) act = speaks cc plan k (Some b.car) (Asked b.car.dialect (request_of plan b.car)) act p.joined say i in
    carried (λ x way. Talks c cc post_plan plan b s x way to_car) (decided plan k) act (Say (Asked b.car.dialect (request_of plan b.car)) (frame d.payload)) to_station d.act_is
    (Asks d.payload [] d.spoken_is l d.awaits (says d.payload to_station none.station (subst (λ (a : Act). length (car_says a) ≤ 65544) d.act_is short)) none.car)

talks_on : (c : post.Codecs) (cc : car.Codecs) (post_plan : PostPlan) (plan : CarPlan) (b : Both) (s : State) (k : car_states.State) (to_station to_car : List ℕ) (act : Act)
    → IsPair c cc post_plan plan → Talks c cc post_plan plan b s k to_station to_car → length (car_says act) ≤ 65544 → MayAct cc plan k act true
    → Talks c cc post_plan plan b s (acted act true (decided plan k)) (to_station ++ car_says act) to_car
talks_on c cc post_plan plan b s k to_station to_car act p (IsToAsk order l say none) short i = asks_on c cc post_plan plan b s k to_station to_car act order p l say none short i
talks_on c cc post_plan plan b s k to_station to_car act p (Rests l pauses none) short i = absurd (still_acts cc plan k pauses.session act pauses.still i)
talks_on c cc post_plan plan b s k to_station to_car act p (Asks request unread encodes l awaits comes e) short i = absurd (still_acts cc plan k awaits.session act awaits.still i)
talks_on c cc post_plan plan b s k to_station to_car act p (IsToReply facts later shown fits send awaits none) short i = absurd (still_acts cc plan k awaits.session act awaits.still i)
talks_on c cc post_plan plan b s k to_station to_car act p (Closes facts shown fits last l w awaits none) short i = absurd (still_acts cc plan k awaits.session act awaits.still i)
talks_on c cc post_plan plan b s k to_station to_car act p (Replies facts later shown payload unread fits encodes goes awaits e comes) short i = absurd (still_acts cc plan k awaits.session act awaits.still i)

stops_on : (cc : car.Codecs) (post_plan : PostPlan) (plan : CarPlan) (s : State) (k : car_states.State) (to_station to_car : List ℕ) (act : Act) (order : Option Order) → IsGone post_plan s
    → IsToFinish plan k order cause.Stopped → NothingComes to_station to_car → MayAct cc plan k act true → Ends post_plan plan s (acted act true (decided plan k)) (to_station ++ car_says act) to_car
stops_on cc post_plan plan s k to_station to_car act (Some o) g finish none i =
    let d : DrivesLast plan k o cause.Stopped act = drives_last cc plan k o cause.Stopped act finish i in
    carried (λ x way. Ends post_plan plan s x way to_car) (decided plan k) act (Give o) to_station d.act_is (IsToStop None g d.finish (nothing_more to_station to_car none))
stops_on cc post_plan plan s k to_station to_car act None g finish none i =
    let d : Finishes plan k act = finishes cc plan k cause.Stopped act finish i in
    carried (λ x way. Ends post_plan plan s x way to_car) (decided plan k) act (End d.number) to_station d.act_is (Stopped g d.ended (nothing_more to_station to_car none))

ends_on : (cc : car.Codecs) (post_plan : PostPlan) (plan : CarPlan) (s : State) (k : car_states.State) (to_station to_car : List ℕ) (act : Act) → Ends post_plan plan s k to_station to_car
    → MayAct cc plan k act true → Ends post_plan plan s (acted act true (decided plan k)) (to_station ++ car_says act) to_car
ends_on cc post_plan plan s k to_station to_car act (IsToStop order g finish none) i = stops_on cc post_plan plan s k to_station to_car act order g finish none i
ends_on cc post_plan plan s k to_station to_car act (Stopped g ended none) i = absurd (ended_acts cc plan k act ended i)

by_end : (e : Bool) (c : post.Codecs) (cc : car.Codecs) (post_plan : PostPlan) (plan : CarPlan) (b : Both) (s : State) (k : car_states.State) (to_station to_car : List ℕ) (act : Act)
    → IsPair c cc post_plan plan → TalksBy e c cc post_plan plan b s k to_station to_car → length (car_says act) ≤ 65544 → MayAct cc plan k act true
    → TalksBy e c cc post_plan plan b s (acted act true (decided plan k)) (to_station ++ car_says act) to_car
by_end true c cc post_plan plan b s k to_station to_car act p t short i = ends_on cc post_plan plan s k to_station to_car act t i
by_end false c cc post_plan plan b s k to_station to_car act p t short i = talks_on c cc post_plan plan b s k to_station to_car act p t short i

pub cars_go_on : (c : post.Codecs) (cc : car.Codecs) → CarsGoOn c cc
cars_go_on c cc post_plan plan NoneYet s k to_station to_car act p phase short i = begins_on c cc post_plan plan s k to_station to_car act p phase short i
cars_go_on c cc post_plan plan (Read dialect xs) s k to_station to_car act p phase short i =
    (phase.0, by_end (has_ended post_plan plan token dialect xs) c cc post_plan plan (both post_plan plan token dialect xs) s k to_station to_car act p phase.1 short i)
