-- With nothing under way and nothing to do, the car pauses, or the contactor closes.
use Rattle.std.proofs.Common.{◌≡◌, ℕ, ◌+◌, Bool, true, false, ◌&&◌, ◌||◌, List, [], ◌∷◌, ◌++◌, length, Option, Some, None, refl, ap, sym, subst, ◌∙◌, arith}
use Rattle.std.proofs.lemmas.List.{append-nil}
use Rattle.std.specs.List.{AllByRecursion}
use Rattle.charge_world.specs.declared.offer.Dialect.{Dialect}
use Rattle.session_words.specs.declared.plan.CarPlan.{CarPlan}
use Rattle.session_words.specs.declared.plan.PostPlan.{PostPlan}
use Rattle.v2gtp_frames.specs.Frames.{frame}
use Rattle.session_rules.specs.declared.stage.Stage.{Stage}
use Rattle.session_rules.specs.Stages.{first_stage, is_waiting}
use Rattle.post_spec.specs.Codecs as post
use Rattle.station_spec.specs.States.{State, first}
use Rattle.station_spec.specs.States as states
use Rattle.station_spec.specs.Deciding.{decided}
use Rattle.station_spec.specs.Next.{IsQuiet}
use Rattle.car_rules.specs.declared.stage.CarStage.{CarStage}
use Rattle.car_spec.specs.Codecs as car
use Rattle.car_spec.specs.States as car_states
use Rattle.car_spec.specs.Next as car_next
use Rattle.pipe_spec.specs.Histories.{Happening, CarComes, TimePasses, joined, token, car_plan, station_cause, car_cause, station_has_ended, car_has_ended, to_station, to_car}
use Rattle.pipe_spec.specs.Turns.{Station, station_state, car_state, BothRest, is_over, MayTurn}
use Rattle.pipe_spec.specs.Runs.{IsRun, IsWithin}
use Rattle.pipe_laws.specs.OneMessage.{IsShort}
use Rattle.pair_words.specs.Exchanges.{Both, Outside}
use Rattle.pair_words.specs.Meeting.{Meets}
use Rattle.pair_words.specs.Laws.{both, has_ended, AreExchanges}
use Rattle.pair_words.proofs.Sessions.{they_meet}
use Rattle.pair_deeds.proofs.Posts.{posts_dont_rest_at_words}
use Rattle.pair_deeds.proofs.Cars.{cars_dont_rest_at_words}
use Rattle.matched_pairs.specs.Ends.{Listens, Awaits}
use Rattle.matched_pairs.specs.Phases.{Comes, Begins, IsToOffer, Offered, Offers, Responded, Talks, IsToAsk, Rests, Asks, IsToReply, Closes, Replies, Ends, IsToStop, Stopped, Words, NoneYet, Read, TalksBy}
use Rattle.matched_pairs.specs.Moves.{IsPair}
use Rattle.matched_pairs.proofs.Answers.{TakesWords, meets_takes}
use Rattle.matched_pairs.proofs.CarPhases.{say_quiet, finish_quiet}
use Rattle.matched_pairs.specs.Courses.{IsAt, AllGoUndisturbed, GoesWell}
use Rattle.matched_pairs.proofs.Courses.{plan_is, car_rests, sessions_go_well}
use Rattle.matched_pairs.proofs.Ends.{HasCause, gone_has_cause, HasCarCause, over_has_cause}
use Rattle.matched_pairs.specs.Pauses.{IsPausing, Resting, Closing, PausesAt, TimePassesInPauses}

some_none : {A : Type 0} (a : A) → Some a ≡ None → ⊥
some_none a e = cc

true_false : true ≡ false → ⊥
true_false e = cc

-- a message isn't empty
length_frame : (p : List ℕ) → length (frame p) ≡ 8 + length p
length_frame p = omega arith

no_frame : (payload : List ℕ) → frame payload ≡ [] → ⊥
no_frame payload e =
    let size : length (frame payload) ≡ 8 + length payload = length_frame payload in
    let none : length (frame payload) ≡ 0 = ap length e in
    omega (arith, size, none)

-- a message of which nothing is under way is whole
is_whole : (payload unread way : List ℕ) → Comes payload unread way → way ≡ [] → unread ≡ frame payload
is_whole payload unread way c n = sym (c.frame_is ∙ ap (λ (x : List ℕ). unread ++ x) n ∙ append-nil unread)

post_rests_not : (plan : PostPlan) (s : State) (stage : Stage) (payload unread way : List ℕ) → Listens plan s stage unread → is_waiting stage.row ≡ false → Comes payload unread way → way ≡ [] → IsQuiet plan s → ⊥
post_rests_not plan s stage payload unread way l w c n q =
    posts_dont_rest_at_words plan s l.session payload l.still (ap (λ (x : Stage). is_waiting x.row) l.stage_is ∙ w) (l.unread_is ∙ is_whole payload unread way c n) c.short q

car_rests_not : (plan : CarPlan) (k : car_states.State) (stage : Option CarStage) (payload unread way : List ℕ) → Awaits plan k stage unread → Comes payload unread way → way ≡ [] → car_next.IsQuiet plan k → ⊥
car_rests_not plan k stage payload unread way a c n q = cars_dont_rest_at_words plan k a.session payload a.still (a.unread_is ∙ is_whole payload unread way c n) c.short q

begins_not : (c : post.Codecs) (cs : car.Codecs) (post_plan : PostPlan) (plan : CarPlan) (s : State) (k : car_states.State) (ts tc : List ℕ) → Begins c cs post_plan plan s k ts tc → IsQuiet post_plan s
    → car_next.IsQuiet plan k → ts ≡ [] → tc ≡ [] → ⊥
begins_not c cs post_plan plan s k ts tc (IsToOffer come say none) q r e f = say_quiet plan k None None _ say r
begins_not c cs post_plan plan s k ts tc (Offered request offers come a comes n) q r e f = no_frame request (comes.frame_is ∙ e)
begins_not c cs post_plan plan s k ts tc (Offers request unread offers l a comes n) q r e f = post_rests_not post_plan s (first_stage token) request unread ts l refl comes e q
begins_not c cs post_plan plan s k ts tc (Responded request unread begun l a n comes) q r e f = car_rests_not plan k None begun.response unread tc a comes f r

sends_not : (plan : PostPlan) (s : State) (todo : states.Todo) → first (decided plan s).agenda ≡ Some todo → IsQuiet plan s → ⊥
sends_not plan s todo e q = some_none todo (sym e ∙ q.none)

talks_so : (c : post.Codecs) (cs : car.Codecs) (post_plan : PostPlan) (plan : CarPlan) (b : Both) (s : State) (k : car_states.State) (ts tc : List ℕ) → Meets post_plan b → Talks c cs post_plan plan b s k ts tc
    → IsQuiet post_plan s → car_next.IsQuiet plan k → ts ≡ [] → tc ≡ [] → IsPausing post_plan plan b s k
talks_so c cs post_plan plan b s k ts tc m (IsToAsk order l say none) q r e f = absurd (say_quiet plan k _ order _ say r)
talks_so c cs post_plan plan b s k ts tc m (Rests l pauses none) q r e f = Resting l pauses
talks_so c cs post_plan plan b s k ts tc m (Asks request unread encodes l a comes n) q r e f =
    let takes : TakesWords b.post.row = meets_takes post_plan b m in
    absurd (post_rests_not post_plan s b.post request unread ts l takes.waits comes e q)
talks_so c cs post_plan plan b s k ts tc m (IsToReply facts later shown fits send a none) q r e f = absurd (sends_not post_plan s (states.Say _) (ap first send.agenda_is) q)
talks_so c cs post_plan plan b s k ts tc m (Closes facts shown fits last l w a none) q r e f = Closing facts shown last l w a
talks_so c cs post_plan plan b s k ts tc m (Replies facts later shown payload unread fits encodes goes a n comes) q r e f = absurd (car_rests_not plan k _ payload unread tc a comes f r)

-- ---- a session that has ended is over

both_over : (a b c d n : Bool) → a ≡ true → b ≡ true → ((a && b) || c || d || ((a || b) && n)) ≡ false → ⊥
both_over true true c d n e f g = cc
both_over false b c d n e f g = cc
both_over true false c d n e f g = cc

ends_not : (c : post.Codecs) (cs : car.Codecs) (st : Station) (plan : CarPlan) (h : List Happening) → HasCause (station_state st h) (station_cause h) → HasCarCause (car_state plan h) (car_cause h) → is_over st h ≡ false
    → Ends st.post plan (station_state st h) (car_state plan h) (to_station h) (to_car h) → car_next.IsQuiet plan (car_state plan h) → ⊥
ends_not c cs st plan h gone over g (IsToStop order x finish none) r = finish_quiet plan (car_state plan h) order _ finish r
ends_not c cs st plan h gone over g (Stopped x ended none) r = both_over (station_has_ended h) (car_has_ended h) _ _ _ (gone (x.session, x.arrived)) (over ended.over) g

by_end : (x : Bool) (c : post.Codecs) (cs : car.Codecs) (st : Station) (plan : CarPlan) (dialect : Dialect) (xs : List Outside) (h : List Happening) → AreExchanges st.post plan token dialect xs → Meets st.post (both st.post plan token dialect xs)
    → has_ended st.post plan token dialect xs ≡ x → TalksBy x c cs st.post plan (both st.post plan token dialect xs) (station_state st h) (car_state plan h) (to_station h) (to_car h)
    → HasCause (station_state st h) (station_cause h) → HasCarCause (car_state plan h) (car_cause h) → is_over st h ≡ false → IsQuiet st.post (station_state st h) → car_next.IsQuiet plan (car_state plan h)
    → to_station h ≡ [] → to_car h ≡ [] → PausesAt st plan h
by_end true c cs st plan dialect xs h are m e t gone over g q r a b = absurd (ends_not c cs st plan h gone over g t r)
by_end false c cs st plan dialect xs h are m e t gone over g q r a b = record {
  dialect = dialect;
  xs = xs;
  are = are;
  goes_on = e;
  pausing = talks_so c cs st.post plan (both st.post plan token dialect xs) (station_state st h) (car_state plan h) (to_station h) (to_car h) m t q r a b;
}

by_words : (words : Words) (c : post.Codecs) (cs : car.Codecs) (st : Station) (plan : CarPlan) (h : List Happening) → IsPair c cs st.post plan → IsAt c cs st plan words h
    → HasCause (station_state st h) (station_cause h) → HasCarCause (car_state plan h) (car_cause h) → is_over st h ≡ false → IsQuiet st.post (station_state st h) → car_next.IsQuiet plan (car_state plan h)
    → to_station h ≡ [] → to_car h ≡ [] → PausesAt st plan h
by_words NoneYet c cs st plan h p phase gone over g q r a b = absurd (begins_not c cs st.post plan (station_state st h) (car_state plan h) (to_station h) (to_car h) phase q r a b)
by_words (Read dialect xs) c cs st plan h p phase gone over g q r a b =
    by_end (has_ended st.post plan token dialect xs) c cs st plan dialect xs h phase.0 (they_meet st.post plan token dialect xs p.paired phase.0) refl phase.1 gone over g q r a b

passes : (c : post.Codecs) (cs : car.Codecs) (st : Station) (plan : CarPlan) (session : List Happening) → IsPair c cs st.post (joined plan) → AllByRecursion IsWithin session
    → IsRun c cs st (TimePasses ∷ (session ++ CarComes plan ∷ [])) → AllByRecursion (IsShort 65544) (session ++ CarComes plan ∷ []) → AllGoUndisturbed c cs st (joined plan) (session ++ CarComes plan ∷ [])
    → PausesAt st (joined plan) (session ++ CarComes plan ∷ [])
passes c cs st plan session p w r l d =
    let f : MayTurn st (session ++ CarComes plan ∷ []) TimePasses = r.1 in
    let t = f.turn in
    let rest : BothRest st (session ++ CarComes plan ∷ []) = f.rest in
    let well : GoesWell c cs st (joined plan) (session ++ CarComes plan ∷ []) =
    sessions_go_well c cs st plan (session ++ CarComes plan ∷ []) p (record { session = session; h_is = refl; within = w; run = r.0 }) l d in
    by_words well.words c cs st (joined plan) (session ++ CarComes plan ∷ []) p well.phase (gone_has_cause st plan session w) (over_has_cause plan session w) f.goes_on rest.station_rests
    (car_rests st (session ++ CarComes plan ∷ []) (car_plan (session ++ CarComes plan ∷ [])) (joined plan) (plan_is session plan w) rest.car_rests) t.1 t.2

not_first : (plan : CarPlan) (h : List Happening) → TimePasses ∷ h ≡ CarComes plan ∷ [] → ⊥
not_first plan h e = cc

tail_of : (h t : List Happening) (a b : Happening) → a ∷ h ≡ b ∷ t → h ≡ t
tail_of h t a b e = cc

-- the first of what happened, and what came before
tail_is : (session : List Happening) (plan : CarPlan) (h : List Happening) → TimePasses ∷ h ≡ session ++ CarComes plan ∷ [] → AllByRecursion IsWithin session
    → (before : List Happening) × (h ≡ before ++ CarComes plan ∷ []) × AllByRecursion IsWithin before
tail_is [] plan h e w = absurd (not_first plan h e)
tail_is (x ∷ session) plan h e w = (session, tail_of h (session ++ CarComes plan ∷ []) TimePasses x e, w.1)

pub time_passes_in_pauses : (c : post.Codecs) (cs : car.Codecs) → TimePassesInPauses c cs
time_passes_in_pauses c cs st plan h p f l d =
    let b = tail_is f.session plan h f.h_is f.within in
    subst (λ (x : List Happening). PausesAt st (joined plan) x) (sym b.1)
    (passes c cs st plan b.0 p b.2 (subst (λ (x : List Happening). IsRun c cs st (TimePasses ∷ x)) b.1 f.run) (subst (λ (x : List Happening). AllByRecursion (IsShort 65544) x) b.1 l)
    (subst (λ (x : List Happening). AllGoUndisturbed c cs st (joined plan) x) b.1 d))
