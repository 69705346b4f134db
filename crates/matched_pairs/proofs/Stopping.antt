-- What is over has stopped.
use Rattle.std.proofs.Common.{◌≡◌, ℕ, ◌<◌, Bool, true, false, nat_le, ◌&&◌, ◌||◌, List, [], ◌∷◌, ◌++◌, Option, Some, None, is_some, refl, ap, sym, subst, ◌∙◌, ◌⊎◌, inl, inr, arith}
use Rattle.std.proofs.lemmas.Bool.Decides.{nat_tests}
use Rattle.std.proofs.lemmas.List.{append-nil}
use Rattle.charge_world.specs.declared.offer.Dialect.{Dialect}
use Rattle.session_words.specs.declared.plan.CarPlan.{CarPlan}
use Rattle.session_words.specs.declared.plan.PostPlan.{PostPlan}
use Rattle.session_rules.specs.declared.stage.Stage.{Stage}
use Rattle.v2gtp_frames.specs.Frames.{frame}
use Rattle.car_rules.specs.declared.stage.CarStage.{CarStage}
use Rattle.post_spec.specs.Codecs as post
use Rattle.station_spec.specs.States.{State}
use Rattle.car_spec.specs.Codecs as car
use Rattle.car_spec.specs.States as car_states
use Rattle.car_spec.specs.Next as car_next
use Rattle.pipe_spec.specs.Histories.{Happening, joined, token, car_plan, station_cause, car_cause, station_has_ended, car_has_ended, station_hearings, car_hearings, to_station, to_car}
use Rattle.pipe_spec.specs.Turns.{Station, station_state, car_state, is_none, nothing_under_way, car_is_spent}
use Rattle.pipe_laws.proofs.Station as station
use Rattle.pipe_laws.proofs.Runs.{GoneBy, Holds, holds}
use Rattle.pair_words.specs.Exchanges.{Both, Outside}
use Rattle.pair_words.specs.Laws.{both, has_ended, AreExchanges}
use Rattle.pair_deeds.specs.Posts.{IsStill}
use Rattle.pair_deeds.proofs.Cars.{cars_dont_rest_at_words}
use Rattle.matched_pairs.specs.Ends.{HasCome, Listens, IsGone, Awaits, HasEnded}
use Rattle.matched_pairs.specs.Phases.{Comes, NothingComes, Begins, IsToOffer, Offered, Offers, Responded, Talks, IsToAsk, Rests, Asks, IsToReply, Closes, Replies, Ends, IsToStop, Stopped, Words, NoneYet, Read, TalksBy, IsIn}
use Rattle.matched_pairs.proofs.CarPhases.{finish_quiet}
use Rattle.matched_pairs.specs.Courses.{IsAt, count, GoesWell}
use Rattle.matched_pairs.specs.Stopping.{HasStopped, SessionsStop}
use Rattle.matched_pairs.proofs.Courses.{true_false, begins_live, talks_live, ended_so, plan_is, car_rests, sessions_go_well}

some_none : {A : Type 0} (a : A) → Some a ≡ None → ⊥
some_none a e = cc

-- ---- why it is over

last_reason : (c d n : Bool) → (c || d || n) ≡ true → c ≡ false → d ≡ false → n ≡ true
last_reason true d n e f g = cc
last_reason false true n e f g = cc
last_reason false false n e f g = e

no_reason : (c d : Bool) → (c || d || false) ≡ true → c ≡ false → d ≡ false → ⊥
no_reason true d e f g = cc
no_reason false true e f g = cc
no_reason false false e f g = cc

why : (a b c d n : Bool) → ((a && b) || c || d || ((a || b) && n)) ≡ true → c ≡ false → d ≡ false → (b ≡ true) ⊎ ((a ≡ true) × (n ≡ true))
why a true c d n e f g = inl refl
why true false c d n e f g = inr (refl, last_reason c d n e f g)
why false false c d n e f g = absurd (no_reason c d e f g)

not_spent : (turns heard : ℕ) → heard < turns → nat_le turns heard ≡ false
not_spent turns heard l = grind (arith, nat_tests)

both_none : (a b : List ℕ) → (is_none a && is_none b) ≡ true → NothingComes a b
both_none [] [] e = record { station = refl; car = refl }
both_none [] (x ∷ b) e = cc
both_none (x ∷ a) b e = cc

-- ---- which phase it is in

pub record Stops (post_plan : PostPlan) (plan : CarPlan) (words : Words) (s : State) (k : car_states.State) : Type 0 where
  pub dialect : Dialect
  pub xs : List Outside
  pub words_are : words ≡ Read dialect xs
  pub are : AreExchanges post_plan plan token dialect xs
  pub ended : has_ended post_plan plan token dialect xs ≡ true
  pub station_ended : IsGone post_plan s
  pub car_ended : HasEnded plan k

-- the car has ended
car_stops : (post_plan : PostPlan) (plan : CarPlan) (dialect : Dialect) (xs : List Outside) (s : State) (k : car_states.State) (to_station to_car : List ℕ) → AreExchanges post_plan plan token dialect xs
    → has_ended post_plan plan token dialect xs ≡ true → Ends post_plan plan s k to_station to_car → k.over ≡ true → Stops post_plan plan (Read dialect xs) s k
car_stops post_plan plan dialect xs s k to_station to_car are e (IsToStop order g finish none) o = absurd (true_false k.over o finish.goes_on)
car_stops post_plan plan dialect xs s k to_station to_car are e (Stopped g ended none) o =
    record { dialect = dialect; xs = xs; words_are = refl; are = are; ended = e; station_ended = g; car_ended = ended }

car_by : (x : Bool) (c : post.Codecs) (cs : car.Codecs) (post_plan : PostPlan) (plan : CarPlan) (dialect : Dialect) (xs : List Outside) (s : State) (k : car_states.State) (to_station to_car : List ℕ)
    → AreExchanges post_plan plan token dialect xs → has_ended post_plan plan token dialect xs ≡ x → TalksBy x c cs post_plan plan (both post_plan plan token dialect xs) s k to_station to_car → k.over ≡ true
    → Stops post_plan plan (Read dialect xs) s k
car_by true c cs post_plan plan dialect xs s k to_station to_car are e t o = car_stops post_plan plan dialect xs s k to_station to_car are e t o
car_by false c cs post_plan plan dialect xs s k to_station to_car are e t o = absurd (true_false k.over o (talks_live c cs post_plan plan _ s k to_station to_car t))

car_over : (c : post.Codecs) (cs : car.Codecs) (post_plan : PostPlan) (plan : CarPlan) (words : Words) (s : State) (k : car_states.State) (to_station to_car : List ℕ)
    → IsIn c cs post_plan plan words s k to_station to_car → k.over ≡ true → Stops post_plan plan words s k
car_over c cs post_plan plan NoneYet s k to_station to_car p o = absurd (true_false k.over o (begins_live c cs post_plan plan s k to_station to_car p))
car_over c cs post_plan plan (Read dialect xs) s k to_station to_car p o = car_by _ c cs post_plan plan dialect xs s k to_station to_car p.0 refl p.1 o

-- the post's session has ended, and nothing comes
listens_not : (plan : PostPlan) (s : State) (stage : Stage) (unread : List ℕ) → Listens plan s stage unread → s.session ≡ None → ⊥
listens_not plan s stage unread l e = let still : IsStill plan s l.session = l.still in some_none l.session (sym still.session_is ∙ e)

come_not : (plan : PostPlan) (s : State) → HasCome plan s token → s.arrived ≡ None → ⊥
come_not plan s k e = some_none token (sym k.arrived ∙ e)

begins_not : (c : post.Codecs) (cs : car.Codecs) (post_plan : PostPlan) (plan : CarPlan) (s : State) (k : car_states.State) (to_station to_car : List ℕ) → Begins c cs post_plan plan s k to_station to_car
    → station.IsGone s → ⊥
begins_not c cs post_plan plan s k to_station to_car (IsToOffer come say none) g = come_not post_plan s come g.1
begins_not c cs post_plan plan s k to_station to_car (Offered request offers come a comes e) g = come_not post_plan s come g.1
begins_not c cs post_plan plan s k to_station to_car (Offers request unread offers l a comes e) g = listens_not post_plan s _ unread l g.0
begins_not c cs post_plan plan s k to_station to_car (Responded request unread begun l a e comes) g = listens_not post_plan s _ [] l g.0

-- a car to which a whole reply has come doesn't rest
reply_not : (plan : CarPlan) (k : car_states.State) (stage : Option CarStage) (payload unread way : List ℕ) → Awaits plan k stage unread → Comes payload unread way → way ≡ [] → car_next.IsQuiet plan k → ⊥
reply_not plan k stage payload unread way a c n q =
    let w : unread ≡ frame payload = sym (c.frame_is ∙ ap (λ (x : List ℕ). unread ++ x) n ∙ append-nil unread) in
    cars_dont_rest_at_words plan k a.session payload a.still (a.unread_is ∙ w) c.short q

talks_not : (c : post.Codecs) (cs : car.Codecs) (post_plan : PostPlan) (plan : CarPlan) (b : Both) (s : State) (k : car_states.State) (to_station to_car : List ℕ) → Talks c cs post_plan plan b s k to_station to_car
    → station.IsGone s → car_next.IsQuiet plan k → to_car ≡ [] → ⊥
talks_not c cs post_plan plan b s k to_station to_car (IsToAsk order l say none) g q n = listens_not post_plan s _ [] l g.0
talks_not c cs post_plan plan b s k to_station to_car (Rests l pauses none) g q n = listens_not post_plan s _ [] l g.0
talks_not c cs post_plan plan b s k to_station to_car (Asks request unread encodes l a comes e) g q n = listens_not post_plan s _ unread l g.0
talks_not c cs post_plan plan b s k to_station to_car (IsToReply facts later shown fits send a none) g q n = some_none send.session (sym send.session_is ∙ g.0)
talks_not c cs post_plan plan b s k to_station to_car (Closes facts shown fits last l w a none) g q n = listens_not post_plan s _ [] l g.0
talks_not c cs post_plan plan b s k to_station to_car (Replies facts later shown payload unread fits encodes goes a e comes) g q n = reply_not plan k _ payload unread to_car a comes n q

post_stops : (post_plan : PostPlan) (plan : CarPlan) (dialect : Dialect) (xs : List Outside) (s : State) (k : car_states.State) (to_station to_car : List ℕ) → AreExchanges post_plan plan token dialect xs
    → has_ended post_plan plan token dialect xs ≡ true → Ends post_plan plan s k to_station to_car → car_next.IsQuiet plan k → Stops post_plan plan (Read dialect xs) s k
post_stops post_plan plan dialect xs s k to_station to_car are e (IsToStop order g finish none) q = absurd (finish_quiet plan k order _ finish q)
post_stops post_plan plan dialect xs s k to_station to_car are e (Stopped g ended none) q =
    record { dialect = dialect; xs = xs; words_are = refl; are = are; ended = e; station_ended = g; car_ended = ended }

post_by : (x : Bool) (c : post.Codecs) (cs : car.Codecs) (post_plan : PostPlan) (plan : CarPlan) (dialect : Dialect) (xs : List Outside) (s : State) (k : car_states.State) (to_station to_car : List ℕ)
    → AreExchanges post_plan plan token dialect xs → has_ended post_plan plan token dialect xs ≡ x → TalksBy x c cs post_plan plan (both post_plan plan token dialect xs) s k to_station to_car
    → station.IsGone s → car_next.IsQuiet plan k → to_car ≡ [] → Stops post_plan plan (Read dialect xs) s k
post_by true c cs post_plan plan dialect xs s k to_station to_car are e t g q n = post_stops post_plan plan dialect xs s k to_station to_car are e t q
post_by false c cs post_plan plan dialect xs s k to_station to_car are e t g q n = absurd (talks_not c cs post_plan plan _ s k to_station to_car t g q n)

post_over : (c : post.Codecs) (cs : car.Codecs) (post_plan : PostPlan) (plan : CarPlan) (words : Words) (s : State) (k : car_states.State) (to_station to_car : List ℕ)
    → IsIn c cs post_plan plan words s k to_station to_car → station.IsGone s → car_next.IsQuiet plan k → to_car ≡ [] → Stops post_plan plan words s k
post_over c cs post_plan plan NoneYet s k to_station to_car p g q n = absurd (begins_not c cs post_plan plan s k to_station to_car p g)
post_over c cs post_plan plan (Read dialect xs) s k to_station to_car p g q n = post_by _ c cs post_plan plan dialect xs s k to_station to_car p.0 refl p.1 g q n

gone_so : (cause : Option ℕ) (s : State) → is_some cause ≡ true → GoneBy cause s → station.IsGone s
gone_so None s e g = absurd (true_false true refl (sym e))
gone_so (Some n) s e g = g

-- ---- the session

stops_by : (c : post.Codecs) (cs : car.Codecs) (st : Station) (plan : CarPlan) (h : List Happening) (words : Words) → IsAt c cs st plan words h → Holds 65544 st h (Some plan)
    → car_next.IsQuiet plan (car_state plan h) → (car_has_ended h ≡ true) ⊎ ((station_has_ended h ≡ true) × (nothing_under_way h ≡ true))
    → Stops st.post plan words (station_state st h) (car_state plan h)
stops_by c cs st plan h words p k q (inl e) = car_over c cs st.post plan words (station_state st h) (car_state plan h) (to_station h) (to_car h) p (ended_so (car_cause h) (car_state plan h) e k.ended)
stops_by c cs st plan h words p k q (inr e) =
    let none : NothingComes (to_station h) (to_car h) = both_none (to_station h) (to_car h) e.1 in
    post_over c cs st.post plan words (station_state st h) (car_state plan h) (to_station h) (to_car h) p (gone_so (station_cause h) (station_state st h) e.0 k.gone) q none.car

stopped : (c : post.Codecs) (cs : car.Codecs) (st : Station) (plan : CarPlan) (h : List Happening) (w : GoesWell c cs st plan h) → Stops st.post plan w.words (station_state st h) (car_state plan h) → HasStopped st plan h
stopped c cs st plan h w s = record {
  dialect = s.dialect;
  xs = s.xs;
  are = s.are;
  ended = s.ended;
  station_ended = s.station_ended;
  car_ended = s.car_ended;
  ok = w.ok;
  exchanges_are = w.exchanges_are ∙ ap count s.words_are;
}

pub sessions_stop : (c : post.Codecs) (cs : car.Codecs) → SessionsStop c cs
sessions_stop c cs st plan h p f l d turns car_turns =
    let w : GoesWell c cs st (joined plan) h = sessions_go_well c cs st plan h p (record { session = f.session; h_is = f.h_is; within = f.within; run = f.run }) l d in
    let same : car_plan h ≡ Some (joined plan) = ap (λ (x : List Happening). car_plan x) f.h_is ∙ plan_is f.session plan f.within in
    let k : Holds 65544 st h (Some (joined plan)) = subst (λ (o : Option CarPlan). Holds 65544 st h o) same (holds 65544 c cs st h (omega arith) f.run l) in
    let rest = f.rest in
    let spent : car_is_spent (car_plan h) h ≡ false = ap (λ (o : Option CarPlan). car_is_spent o h) same ∙ not_spent plan.turns (car_hearings h) car_turns in
    stopped c cs st (joined plan) h w
    (stops_by c cs st (joined plan) h w.words w.phase k (car_rests st h (car_plan h) (joined plan) same rest.car_rests)
    (why (station_has_ended h) (car_has_ended h) (nat_le st.turns (station_hearings h)) (car_is_spent (car_plan h) h) (nothing_under_way h) f.over
    (not_spent st.turns (station_hearings h) turns) spent))
