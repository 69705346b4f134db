-- Each happening of a session leads to the next of its phases.
use Rattle.std.proofs.Common.{◌≡◌, ℕ, suc, ◌+◌, Bool, true, false, ◌&&◌, ◌||◌, if◌then◌else◌, List, [], ◌∷◌, ◌++◌, length, drop, Option, Some, None, is_some, refl, ap, sym, subst, ◌∙◌, arith}
use Rattle.std.specs.List.{AllByRecursion}
use Rattle.charge_world.specs.declared.offer.Dialect.{Dialect}
use Rattle.session_words.specs.declared.cause.EndCause.TheVariants as cause
use Rattle.session_words.specs.declared.plan.CarPlan.{CarPlan}
use Rattle.session_words.specs.declared.plan.PostPlan.{PostPlan}
use Rattle.plant_sim.specs.Charger.{Charger}
use Rattle.post_spec.specs.Codecs as post
use Rattle.post_spec.specs.Steps.{Event, Bytes, Plant, Clock}
use Rattle.station_spec.specs.States.{State}
use Rattle.station_spec.specs.Report.{one_if}
use Rattle.car_rules.specs.declared.stage.CarPhase.{CarPhase}
use Rattle.car_rules.specs.declared.stage.CarPhase.TheVariants as phase
use Rattle.car_rules.specs.declared.stage.CarStage.{CarStage}
use Rattle.car_rules.specs.Replies.{is_ending}
use Rattle.car_spec.specs.Codecs as car
use Rattle.car_spec.specs.Codecs.{Chosen, Told, WrongSide, Refused}
use Rattle.car_spec.specs.Steps as car_steps_of
use Rattle.car_spec.specs.States as car_states
use Rattle.car_spec.specs.Acting as car_acting
use Rattle.car_spec.specs.Next as car_next
use Rattle.pipe_spec.specs.Histories.{Happening, CarComes, ChargerTells, StationHears, CarHears, TimePasses, StationDoes, CarReads, CarDoes, CarGoes, NumberIsDrawn, moment, joined, token, car_plan, car_cause, car_has_ended, station_has_ended, car_steps, to_station, to_car}
use Rattle.pipe_spec.specs.Counts.{is_reply, exchanges, IsOkReply, IsOk}
use Rattle.pipe_spec.specs.Turns.{Station, station_state, car_state, StationRests, CarRestsBy, CarMayReadBy, CarMayDoBy, IsTurn, is_none, nothing_under_way, is_over, MayTurn, Follows}
use Rattle.pipe_spec.specs.Runs.{IsRun, IsWithin}
use Rattle.pipe_laws.specs.OneMessage.{IsShort}
use Rattle.pipe_laws.proofs.Runs.{EndedBy, Holds, holds, piece_by}
use Rattle.pair_words.specs.Exchanges.{Both, Outside}
use Rattle.pair_words.specs.Laws.{both, has_ended, is_repeated, repeats}
use Rattle.pair_deeds.specs.Cars.{IsStill}
use Rattle.matched_pairs.specs.Phases.{NothingComes, Begins, IsToOffer, Offered, Offers, Responded, Talks, IsToAsk, Rests, Asks, IsToReply, Closes, Replies, Ends, IsToStop, Stopped, Words, NoneYet, Read, TalksBy, IsIn}
use Rattle.matched_pairs.specs.Moves.{IsPair, IsNext, HasRead}
use Rattle.matched_pairs.proofs.CarPhases.{finish_reads, ended_reads}
use Rattle.matched_pairs.proofs.PostActs.{posts_go_on}
use Rattle.matched_pairs.proofs.CarActs.{cars_go_on}
use Rattle.matched_pairs.proofs.CarReads.{cars_read}
use Rattle.matched_pairs.proofs.PostsHear.{posts_hear}
use Rattle.matched_pairs.proofs.CarsHear.{cars_hear}
use Rattle.matched_pairs.specs.Repeats.{stage_in, asks_again, repeats_in, is_any, repeats_among}
use Rattle.matched_pairs.specs.Courses.{IsAt, AllGoUndisturbed, GoesUndisturbed, count, GoesWell, SessionsGoWell}

pub true_false : (b : Bool) → b ≡ true → b ≡ false → ⊥
true_false b e f = cc

-- ---- the words that were read

is_a_reply : (w : car.Judged) → IsOkReply w → is_reply w ≡ true
is_a_reply (Chosen dialect) ok = refl
is_a_reply (Told r) ok = refl
is_a_reply WrongSide ok = absurd ok
is_a_reply Refused ok = absurd ok

one_more : (words behind : Words) → IsNext words behind → count behind ≡ suc (count words)
one_more NoneYet NoneYet n = absurd n
one_more NoneYet (Read dialect xs) n = ap (λ (ys : List Outside). suc (length ys)) n
one_more (Read dialect xs) NoneYet n = absurd n
one_more (Read dialect xs) (Read other ys) n = ap (λ (zs : List Outside). suc (length zs)) n.2

counted : (h : List Happening) (w : car.Judged) (words behind : Words) → exchanges h ≡ count words → IsOkReply w → IsNext words behind → exchanges (CarReads w ∷ h) ≡ count behind
counted h w words behind e ok n =
    let one : one_if (is_reply w) ≡ 1 = ap one_if (is_a_reply w ok) in
    let more : count behind ≡ suc (count words) = one_more words behind n in
    omega (arith, one, more, e)

-- ---- what is asked again

none_more : (n : ℕ) → 0 + n ≡ n
none_more n = omega arith

no_session : (y : Option car_states.Session) → stage_in y ≡ None → (to : Option CarStage) → one_if (asks_again is_any (stage_in y) to) ≡ 0
no_session y e to = ap (λ (from : Option CarStage). one_if (asks_again is_any from to)) e

pub talks_stage : (c : post.Codecs) (cc : car.Codecs) (post_plan : PostPlan) (plan : CarPlan) (b : Both) (s : State) (k : car_states.State) (ts tc : List ℕ) → Talks c cc post_plan plan b s k ts tc
    → stage_in k.session ≡ Some b.car
talks_stage c cc post_plan plan b s k ts tc (IsToAsk order l say none) = ap stage_in say.session_is ∙ say.stage_is
talks_stage c cc post_plan plan b s k ts tc (Rests l a none) = let still : IsStill plan k a.session = a.still in ap stage_in still.session_is ∙ a.stage_is
talks_stage c cc post_plan plan b s k ts tc (Asks request unread encodes l a comes e) = let still : IsStill plan k a.session = a.still in ap stage_in still.session_is ∙ a.stage_is
talks_stage c cc post_plan plan b s k ts tc (IsToReply facts later shown fits send a none) = let still : IsStill plan k a.session = a.still in ap stage_in still.session_is ∙ a.stage_is
talks_stage c cc post_plan plan b s k ts tc (Closes facts shown fits last l w a none) = let still : IsStill plan k a.session = a.still in ap stage_in still.session_is ∙ a.stage_is
talks_stage c cc post_plan plan b s k ts tc (Replies facts later shown payload unread fits encodes goes a e comes) = let still : IsStill plan k a.session = a.still in ap stage_in still.session_is ∙ a.stage_is

pub begins_stage : (c : post.Codecs) (cc : car.Codecs) (post_plan : PostPlan) (plan : CarPlan) (s : State) (k : car_states.State) (ts tc : List ℕ) → Begins c cc post_plan plan s k ts tc → stage_in k.session ≡ None
begins_stage c cc post_plan plan s k ts tc (IsToOffer come say none) = ap stage_in say.session_is ∙ say.stage_is
begins_stage c cc post_plan plan s k ts tc (Offered request offers come a comes e) = let still : IsStill plan k a.session = a.still in ap stage_in still.session_is ∙ a.stage_is
begins_stage c cc post_plan plan s k ts tc (Offers request unread offers l a comes e) = let still : IsStill plan k a.session = a.still in ap stage_in still.session_is ∙ a.stage_is
begins_stage c cc post_plan plan s k ts tc (Responded request unread begun l a e comes) = let still : IsStill plan k a.session = a.still in ap stage_in still.session_is ∙ a.stage_is

ends_reads : (cc : car.Codecs) (post_plan : PostPlan) (plan : CarPlan) (s : State) (k : car_states.State) (ts tc : List ℕ) (w : car.Judged) → Ends post_plan plan s k ts tc → car_next.MayRead cc plan k w → ⊥
ends_reads cc post_plan plan s k ts tc w (IsToStop order g finish none) i = finish_reads cc plan k order cause.Stopped w finish i
ends_reads cc post_plan plan s k ts tc w (Stopped g ended none) i = ended_reads cc plan k w ended i

reads_stage : (x : Bool) (c : post.Codecs) (cc : car.Codecs) (post_plan : PostPlan) (plan : CarPlan) (b : Both) (s : State) (k : car_states.State) (ts tc : List ℕ) (w : car.Judged) → TalksBy x c cc post_plan plan b s k ts tc
    → car_next.MayRead cc plan k w → stage_in k.session ≡ Some b.car
reads_stage true c cc post_plan plan b s k ts tc w t i = absurd (ends_reads cc post_plan plan s k ts tc w t i)
reads_stage false c cc post_plan plan b s k ts tc w t i = talks_stage c cc post_plan plan b s k ts tc t

-- a car that reads a word behind these
pub reading_stage : (c : post.Codecs) (cc : car.Codecs) (post_plan : PostPlan) (plan : CarPlan) (dialect : Dialect) (xs : List Outside) (s : State) (k : car_states.State) (ts tc : List ℕ) (w : car.Judged)
    → IsIn c cc post_plan plan (Read dialect xs) s k ts tc → car_next.MayRead cc plan k w → stage_in k.session ≡ Some (both post_plan plan token dialect xs).car
reading_stage c cc post_plan plan dialect xs s k ts tc w t i =
    reads_stage (has_ended post_plan plan token dialect xs) c cc post_plan plan (both post_plan plan token dialect xs) s k ts tc w t.1 i

-- nothing is asked again behind SessionStop
ends_again : (from : CarStage) (to : Option CarStage) (after : CarPhase) → is_ending from.phase ≡ true → one_if (asks_again is_any (Some from) to) ≡ one_if (is_repeated from.phase after)
ends_again from to after e = ends_by from.phase from to after refl e where
  ends_by : (ph : CarPhase) (from : CarStage) (to : Option CarStage) (after : CarPhase) → from.phase ≡ ph → is_ending ph ≡ true → one_if (asks_again is_any (Some from) to) ≡ one_if (is_repeated from.phase after)
  ends_by phase.Ending from None after e f = ap (λ (p : CarPhase). one_if (is_repeated p after)) (sym e)
  ends_by phase.Ending from (Some to) after e f = ap (λ (p : CarPhase). one_if (is_repeated p to.phase)) e ∙ ap (λ (p : CarPhase). one_if (is_repeated p after)) (sym e)
  ends_by other from to after e f = absurd (true_false false f refl)

again_by : (x : Bool) (c : post.Codecs) (cc : car.Codecs) (post_plan : PostPlan) (plan : CarPlan) (from : CarStage) (b : Both) (s : State) (k : car_states.State) (ts tc : List ℕ) → is_ending from.phase ≡ x
    → TalksBy x c cc post_plan plan b s k ts tc → one_if (asks_again is_any (Some from) (stage_in k.session)) ≡ one_if (is_repeated from.phase b.car.phase)
again_by true c cc post_plan plan from b s k ts tc e t = ends_again from (stage_in k.session) b.car.phase e
again_by false c cc post_plan plan from b s k ts tc e t = ap (λ (to : Option CarStage). one_if (asks_again is_any (Some from) to)) (talks_stage c cc post_plan plan b s k ts tc t)

-- the words with one more
one_again : (c : post.Codecs) (cc : car.Codecs) (st : Station) (plan : CarPlan) (h : List Happening) (w : car.Judged) (dialect : Dialect) (xs : List Outside) (x : Outside) → IsAt c cc st plan (Read dialect xs) h
    → IsAt c cc st plan (Read dialect (x ∷ xs)) (CarReads w ∷ h) → car_next.MayRead cc plan (car_state plan h) w → repeats_in is_any plan h ≡ repeats st.post plan token dialect xs
    → repeats_in is_any plan (CarReads w ∷ h) ≡ repeats st.post plan token dialect (x ∷ xs)
one_again c cc st plan h w dialect xs x phase after i e =
    let from : stage_in (car_state plan h).session ≡ Some (both st.post plan token dialect xs).car =
    reading_stage c cc st.post plan dialect xs (station_state st h) (car_state plan h) (to_station h) (to_car h) w phase i in
    let one : one_if (asks_again is_any (stage_in (car_state plan h).session) (stage_in (car_state plan (CarReads w ∷ h)).session))
    ≡ one_if (is_repeated (both st.post plan token dialect xs).car.phase (both st.post plan token dialect (x ∷ xs)).car.phase) =
    ap (λ (o : Option CarStage). one_if (asks_again is_any o (stage_in (car_state plan (CarReads w ∷ h)).session))) from
    ∙ again_by (is_ending (both st.post plan token dialect xs).car.phase) c cc st.post plan (both st.post plan token dialect xs).car (both st.post plan token dialect (x ∷ xs)) (station_state st h)
    (car_state plan (CarReads w ∷ h)) (to_station h) (to_car h) refl after.1 in
    ap (λ (n : ℕ). n + repeats_in is_any plan h) one
    ∙ ap (λ (n : ℕ). one_if (is_repeated (both st.post plan token dialect xs).car.phase (both st.post plan token dialect (x ∷ xs)).car.phase) + n) e

repeats_counted : (words behind : Words) (c : post.Codecs) (cc : car.Codecs) (st : Station) (plan : CarPlan) (h : List Happening) (w : car.Judged) → IsAt c cc st plan words h
    → IsAt c cc st plan behind (CarReads w ∷ h) → car_next.MayRead cc plan (car_state plan h) w → IsNext words behind → repeats_in is_any plan h ≡ repeats_among st.post plan words
    → repeats_in is_any plan (CarReads w ∷ h) ≡ repeats_among st.post plan behind
repeats_counted NoneYet NoneYet c cc st plan h w phase after i n e = absurd n
repeats_counted NoneYet (Read dialect xs) c cc st plan h w phase after i n e =
    let none : stage_in (car_state plan h).session ≡ None = begins_stage c cc st.post plan (station_state st h) (car_state plan h) (to_station h) (to_car h) phase in
    ap (λ (m : ℕ). m + repeats_in is_any plan h) (no_session (car_state plan h).session none (stage_in (car_state plan (CarReads w ∷ h)).session)) ∙ none_more (repeats_in is_any plan h) ∙ e
    ∙ ap (λ (ys : List Outside). repeats st.post plan token dialect ys) (sym n)
repeats_counted (Read dialect xs) NoneYet c cc st plan h w phase after i n e = absurd n
repeats_counted (Read dialect xs) (Read other ys) c cc st plan h w phase after i n e =
    let more = n.2 in
    subst (λ (zs : List Outside). repeats_in is_any plan (CarReads w ∷ h) ≡ repeats st.post plan token other zs) (sym more)
    (subst (λ (d : Dialect). IsAt c cc st plan (Read d (n.1 ∷ xs)) (CarReads w ∷ h) → repeats_in is_any plan (CarReads w ∷ h) ≡ repeats st.post plan token d (n.1 ∷ xs)) (sym n.0)
    (λ (t : IsAt c cc st plan (Read dialect (n.1 ∷ xs)) (CarReads w ∷ h)). one_again c cc st plan h w dialect xs n.1 phase t i e)
    (subst (λ (zs : List Outside). IsAt c cc st plan (Read other zs) (CarReads w ∷ h)) more after))

-- ---- a car that has ended

pub talks_live : (c : post.Codecs) (cc : car.Codecs) (post_plan : PostPlan) (plan : CarPlan) (b : Both) (s : State) (k : car_states.State) (ts tc : List ℕ) → Talks c cc post_plan plan b s k ts tc → k.over ≡ false
talks_live c cc post_plan plan b s k ts tc (IsToAsk order l say none) = say.goes_on
talks_live c cc post_plan plan b s k ts tc (Rests l pauses none) = pauses.goes_on
talks_live c cc post_plan plan b s k ts tc (Asks request unread encodes l a comes e) = a.goes_on
talks_live c cc post_plan plan b s k ts tc (IsToReply facts later shown fits send a none) = a.goes_on
talks_live c cc post_plan plan b s k ts tc (Closes facts shown fits last l w a none) = a.goes_on
talks_live c cc post_plan plan b s k ts tc (Replies facts later shown payload unread fits encodes goes a e comes) = a.goes_on

pub begins_live : (c : post.Codecs) (cc : car.Codecs) (post_plan : PostPlan) (plan : CarPlan) (s : State) (k : car_states.State) (ts tc : List ℕ) → Begins c cc post_plan plan s k ts tc → k.over ≡ false
begins_live c cc post_plan plan s k ts tc (IsToOffer come say none) = say.goes_on
begins_live c cc post_plan plan s k ts tc (Offered request offers come a comes e) = a.goes_on
begins_live c cc post_plan plan s k ts tc (Offers request unread offers l a comes e) = a.goes_on
begins_live c cc post_plan plan s k ts tc (Responded request unread begun l a e comes) = a.goes_on

ends_empty : (post_plan : PostPlan) (plan : CarPlan) (s : State) (k : car_states.State) (ts tc : List ℕ) → Ends post_plan plan s k ts tc → NothingComes ts tc
ends_empty post_plan plan s k ts tc (IsToStop order g finish none) = none
ends_empty post_plan plan s k ts tc (Stopped g ended none) = none

talked_out : (e : Bool) (c : post.Codecs) (cc : car.Codecs) (post_plan : PostPlan) (plan : CarPlan) (b : Both) (s : State) (k : car_states.State) (ts tc : List ℕ) → TalksBy e c cc post_plan plan b s k ts tc
    → k.over ≡ true → NothingComes ts tc
talked_out true c cc post_plan plan b s k ts tc t o = ends_empty post_plan plan s k ts tc t
talked_out false c cc post_plan plan b s k ts tc t o = absurd (true_false k.over o (talks_live c cc post_plan plan b s k ts tc t))

-- nothing comes any more
ended_empty : (c : post.Codecs) (cc : car.Codecs) (post_plan : PostPlan) (plan : CarPlan) (words : Words) (s : State) (k : car_states.State) (ts tc : List ℕ) → IsIn c cc post_plan plan words s k ts tc
    → k.over ≡ true → NothingComes ts tc
ended_empty c cc post_plan plan NoneYet s k ts tc phase o = absurd (true_false k.over o (begins_live c cc post_plan plan s k ts tc phase))
ended_empty c cc post_plan plan (Read dialect xs) s k ts tc phase o = talked_out _ c cc post_plan plan _ s k ts tc phase.1 o

-- so no turn comes
ends_by : (c d : Bool) → (c || d || true) ≡ false → ⊥
ends_by true d e = cc
ends_by false true e = cc
ends_by false false e = cc

ended_over : (a b c d n : Bool) → b ≡ true → n ≡ true → ((a && b) || c || d || ((a || b) && n)) ≡ false → ⊥
ended_over true true c d true e f g = cc
ended_over false true c d true e f g = ends_by c d g
ended_over a false c d n e f g = cc
ended_over a b c d false e f g = cc

nothing_is_none : (way : List ℕ) → way ≡ [] → is_none way ≡ true
nothing_is_none way e = ap is_none e

no_turn : (st : Station) (h : List Happening) → car_has_ended h ≡ true → NothingComes (to_station h) (to_car h) → is_over st h ≡ false → ⊥
no_turn st h e n g =
    let none : nothing_under_way h ≡ true = ap (λ (b : Bool). b && is_none (to_car h)) (nothing_is_none (to_station h) n.station) ∙ nothing_is_none (to_car h) n.car in
    ended_over (station_has_ended h) (car_has_ended h) _ _ (nothing_under_way h) e none g

-- a car that has a cause has ended
pub ended_so : (cause : Option ℕ) (k : car_states.State) → is_some cause ≡ true → EndedBy cause k → k.over ≡ true
ended_so None k e h = absurd (true_false true refl (sym e))
ended_so (Some n) k e h = h.over

-- ---- the plan of the car

pub plan_is : (session : List Happening) (plan : CarPlan) → AllByRecursion IsWithin session → car_plan (session ++ CarComes plan ∷ []) ≡ Some (joined plan)
plan_is [] plan w = refl
plan_is (ChargerTells event ∷ h) plan w = plan_is h plan w.1
plan_is (StationHears bytes ∷ h) plan w = plan_is h plan w.1
plan_is (CarHears bytes ∷ h) plan w = plan_is h plan w.1
plan_is (TimePasses ∷ h) plan w = plan_is h plan w.1
plan_is (StationDoes reading act ∷ h) plan w = plan_is h plan w.1
plan_is (CarReads judged ∷ h) plan w = plan_is h plan w.1
plan_is (CarDoes act ∷ h) plan w = plan_is h plan w.1
plan_is (CarComes other ∷ h) plan w = absurd (true_false false w.0 refl)
plan_is (CarGoes ∷ h) plan w = absurd (true_false false w.0 refl)
plan_is (NumberIsDrawn ∷ h) plan w = absurd (true_false false w.0 refl)

-- ---- a turn

-- a car hears something, unless it has ended
car_hears : (cause : Option ℕ) (c : post.Codecs) (cc : car.Codecs) (post_plan : PostPlan) (plan : CarPlan) (words : Words) (s : State) (steps : List car_steps_of.Step) (ts tc rest : List ℕ) (event : Event) (at : ℕ)
    → (is_some cause ≡ true → ⊥) → IsIn c cc post_plan plan words s (car_acting.state plan (car_steps_of.Hears at event ∷ steps)) ts rest
    → IsIn c cc post_plan plan words s (car_acting.state plan (if is_some cause then steps else car_steps_of.Hears at event ∷ steps)) ts rest
car_hears None c cc post_plan plan words s steps ts tc rest event at live p = p
car_hears (Some n) c cc post_plan plan words s steps ts tc rest event at live p = absurd (live refl)

-- a turn finds the car alive
lives : (c : post.Codecs) (cc : car.Codecs) (st : Station) (plan : CarPlan) (words : Words) (h : List Happening) → IsAt c cc st plan words h → Holds 65544 st h (Some plan) → is_over st h ≡ false
    → is_some (car_cause h) ≡ true → ⊥
lives c cc st plan words h p pair g e =
    no_turn st h e (ended_empty c cc st.post plan words (station_state st h) (car_state plan h) (to_station h) (to_car h) p (ended_so (car_cause h) (car_state plan h) e pair.ended)) g

pub car_rests : (st : Station) (h : List Happening) (o : Option CarPlan) (plan : CarPlan) → o ≡ Some plan → CarRestsBy o h → car_next.IsQuiet plan (car_state plan h)
car_rests st h o plan e r = subst (λ (x : Option CarPlan). CarRestsBy x h) e r

-- what is known before a happening
pub record Known (c : post.Codecs) (cc : car.Codecs) (st : Station) (plan : CarPlan) (h : List Happening) : Type 0 where
  pub pair : IsPair c cc st.post plan
  pub plan_is : car_plan h ≡ Some plan
  pub holds : Holds 65544 st h (Some plan)
  pub well : GoesWell c cc st plan h

-- behind a happening that reads nothing
goes : (c : post.Codecs) (cc : car.Codecs) (st : Station) (plan : CarPlan) (e : Happening) (h : List Happening) (w : GoesWell c cc st plan h) → IsOk e
    → (exchanges (e ∷ h) ≡ exchanges h) × (repeats_in is_any plan (e ∷ h) ≡ repeats_in is_any plan h)
    → IsAt c cc st plan w.words (e ∷ h) → GoesWell c cc st plan (e ∷ h)
goes c cc st plan e h w ok same p = record { words = w.words; phase = p; ok = (ok, w.ok); exchanges_are = same.0 ∙ w.exchanges_are; repeats_are = same.1 ∙ w.repeats_are }

turned : (c : post.Codecs) (cc : car.Codecs) (st : Station) (plan : CarPlan) (h : List Happening) (e : Happening) (charger : Charger) → Known c cc st plan h → StationRests st h
    → car_next.IsQuiet plan (car_state plan h) → is_over st h ≡ false → IsTurn st charger h e → GoesUndisturbed c cc st plan h e → GoesWell c cc st plan (e ∷ h)
turned c cc st plan h (ChargerTells event) charger n q r g t d =
    let w : GoesWell c cc st plan h = n.well in
    goes c cc st plan (ChargerTells event) h w tt (refl, refl)
    (posts_hear c cc st.post plan w.words (station_state st h) (car_state plan h) (to_station h) (to_car h) (to_station h) (moment h) (Plant event) n.pair w.phase q r tt refl d)
turned c cc st plan h (StationHears bytes) charger n q r g t d =
    let w : GoesWell c cc st plan h = n.well in
    let i = t.1 in
    goes c cc st plan (StationHears bytes) h w tt (refl, refl)
    (posts_hear c cc st.post plan w.words (station_state st h) (car_state plan h) (to_station h) (to_car h) (drop (length bytes) (to_station h)) (moment h) (Bytes bytes) n.pair w.phase q r tt
    (piece_by _ (to_station h) bytes i.bytes_are) d)
turned c cc st plan h (CarHears bytes) charger n q r g t d =
    let w : GoesWell c cc st plan h = n.well in
    let i = t.2 in
    goes c cc st plan (CarHears bytes) h w tt (refl, refl)
    (car_hears (car_cause h) c cc st.post plan w.words (station_state st h) (car_steps h) (to_station h) (to_car h) (drop (length bytes) (to_car h)) (Bytes bytes) (moment h)
    (lives c cc st plan w.words h w.phase n.holds g)
    (cars_hear c cc st.post plan w.words (station_state st h) (car_state plan h) (to_station h) (to_car h) (drop (length bytes) (to_car h)) (moment h) (Bytes bytes) n.pair w.phase r tt
    (piece_by _ (to_car h) bytes i.bytes_are) d))
turned c cc st plan h TimePasses charger n q r g t d =
    let w : GoesWell c cc st plan h = n.well in
    goes c cc st plan TimePasses h w tt (refl, refl)
    (car_hears (car_cause h) c cc st.post plan w.words (station_state st (TimePasses ∷ h)) (car_steps h) (to_station h) (to_car h) (to_car h) Clock (moment h + 10)
    (lives c cc st plan w.words h w.phase n.holds g)
    (cars_hear c cc st.post plan w.words (station_state st (TimePasses ∷ h)) (car_state plan h) (to_station h) (to_car h) (to_car h) (moment h + 10) Clock n.pair
    (posts_hear c cc st.post plan w.words (station_state st h) (car_state plan h) (to_station h) (to_car h) (to_station h) (moment h + 10) Clock n.pair w.phase q r tt refl d.0)
    r tt refl d.1))
turned c cc st plan h (CarComes other) charger n q r g t d = absurd t
turned c cc st plan h (StationDoes reading act) charger n q r g t d = absurd t
turned c cc st plan h (CarReads judged) charger n q r g t d = absurd t
turned c cc st plan h (CarDoes act) charger n q r g t d = absurd t
turned c cc st plan h CarGoes charger n q r g t d = absurd t
turned c cc st plan h NumberIsDrawn charger n q r g t d = absurd t

turns : (c : post.Codecs) (cc : car.Codecs) (st : Station) (plan : CarPlan) (h : List Happening) (e : Happening) → Known c cc st plan h → MayTurn st h e → GoesUndisturbed c cc st plan h e
    → GoesWell c cc st plan (e ∷ h)
turns c cc st plan h e n t d =
    let rest = t.rest in
    turned c cc st plan h e t.charger n rest.station_rests (car_rests st h (car_plan h) plan n.plan_is rest.car_rests) t.goes_on t.turn d

-- ---- all that happens

step : (c : post.Codecs) (cc : car.Codecs) (st : Station) (plan : CarPlan) (h : List Happening) (e : Happening) → Known c cc st plan h → IsWithin e → Follows c cc st h e → IsShort 65544 e
    → GoesUndisturbed c cc st plan h e → GoesWell c cc st plan (e ∷ h)
step c cc st plan h (StationDoes reading act) n i f l d =
    let w : GoesWell c cc st plan h = n.well in
    goes c cc st plan (StationDoes reading act) h w tt (refl, refl)
    (posts_go_on c cc st.post plan st.limit w.words (station_state st h) (car_state plan h) (to_station h) (to_car h) reading act n.pair w.phase (d w.words w.phase) l f)
step c cc st plan h (CarReads judged) n i f l d =
    let w : GoesWell c cc st plan h = n.well in
    let reads : car_next.MayRead cc plan (car_state plan h) judged = subst (λ (o : Option CarPlan). CarMayReadBy cc o h judged) n.plan_is f.1 in
    let r : HasRead c cc st.post plan w.words (station_state st h) (car_state plan h) (to_station h) (to_car h) judged =
    cars_read c cc st.post plan w.words (station_state st h) (car_state plan h) (to_station h) (to_car h) judged n.pair w.phase f.0 reads in
    record {
      words = r.behind;
      phase = r.phase;
      ok = (r.ok, w.ok);
      exchanges_are = counted h judged w.words r.behind w.exchanges_are r.ok r.next;
      repeats_are = repeats_counted w.words r.behind c cc st plan h judged w.phase r.phase reads r.next w.repeats_are;
    }
step c cc st plan h (CarDoes act) n i f l d =
    let w : GoesWell c cc st plan h = n.well in
    let acts : car_next.MayAct cc plan (car_state plan h) act true = subst (λ (o : Option CarPlan). CarMayDoBy cc o h act) n.plan_is f.1 in
    goes c cc st plan (CarDoes act) h w tt (refl, refl)
    (cars_go_on c cc st.post plan w.words (station_state st h) (car_state plan h) (to_station h) (to_car h) act n.pair w.phase l acts)
step c cc st plan h (ChargerTells event) n i f l d = turns c cc st plan h (ChargerTells event) n f d
step c cc st plan h (StationHears bytes) n i f l d = turns c cc st plan h (StationHears bytes) n f d
step c cc st plan h (CarHears bytes) n i f l d = turns c cc st plan h (CarHears bytes) n f d
step c cc st plan h TimePasses n i f l d = turns c cc st plan h TimePasses n f d
step c cc st plan h (CarComes other) n i f l d = absurd (true_false false i refl)
step c cc st plan h CarGoes n i f l d = absurd (true_false false i refl)
step c cc st plan h NumberIsDrawn n i f l d = absurd (true_false false i refl)

-- the car has come
begins : (c : post.Codecs) (cc : car.Codecs) (st : Station) (plan : CarPlan) → GoesWell c cc st (joined plan) (CarComes plan ∷ [])
begins c cc st plan = record {
  words = NoneYet;
  phase = IsToOffer (record { session = refl; arrived = refl; none = refl; stays = refl })
      (record { session = car_states.first_session 0; session_is = refl; goes_on = refl; stage_is = refl; unread_is = refl; stop = refl; agenda_is = refl; part_is = refl })
      (record { station = refl; car = refl });
  ok = (tt, tt);
  exchanges_are = refl;
  repeats_are = refl;
}

goes_on : (c : post.Codecs) (cc : car.Codecs) (st : Station) (plan : CarPlan) (session : List Happening) → IsPair c cc st.post (joined plan) → AllByRecursion IsWithin session
    → IsRun c cc st (session ++ CarComes plan ∷ []) → AllByRecursion (IsShort 65544) (session ++ CarComes plan ∷ []) → AllGoUndisturbed c cc st (joined plan) (session ++ CarComes plan ∷ [])
    → GoesWell c cc st (joined plan) (session ++ CarComes plan ∷ [])
goes_on c cc st plan [] p w r l d = begins c cc st plan
goes_on c cc st plan (e ∷ session) p w r l d =
    let same : car_plan (session ++ CarComes plan ∷ []) ≡ Some (joined plan) = plan_is session plan w.1 in
    step c cc st (joined plan) (session ++ CarComes plan ∷ []) e (record {
      pair = p;
      plan_is = same;
      holds = subst (λ (o : Option CarPlan). Holds 65544 st (session ++ CarComes plan ∷ []) o) same (holds 65544 c cc st (session ++ CarComes plan ∷ []) (omega arith) r.0 l.1);
      well = goes_on c cc st plan session p w.1 r.0 l.1 d.0;
    }) w.0 r.1 l.0 d.1

pub sessions_go_well : (c : post.Codecs) (cc : car.Codecs) → SessionsGoWell c cc
sessions_go_well c cc st plan h p f l d =
    subst (λ (x : List Happening). GoesWell c cc st (joined plan) x) (sym f.h_is)
    (goes_on c cc st plan f.session p f.within (subst (λ (x : List Happening). IsRun c cc st x) f.h_is f.run) (subst (λ (x : List Happening). AllByRecursion (IsShort 65544) x) f.h_is l)
    (subst (λ (x : List Happening). AllGoUndisturbed c cc st (joined plan) x) f.h_is d))
