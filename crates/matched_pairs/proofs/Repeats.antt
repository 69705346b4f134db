-- One induction over the first session: no time passes while a reply is decided, under way or unread.
use Rattle.std.proofs.Common.{◌≡◌, ℕ, ◌+◌, ◌≤◌, Bool, true, false, if◌then◌else◌, List, [], ◌∷◌, ◌++◌, length, drop, Option, Some, None, refl, ap, sym, subst, ◌∙◌, arith}
use Rattle.std.proofs.lemmas.List.{append-nil}
use Rattle.std.specs.List.{AllByRecursion}
use Rattle.charge_world.specs.declared.offer.Dialect.{Dialect}
use Rattle.session_words.specs.declared.plan.CarPlan.{CarPlan}
use Rattle.session_words.specs.declared.plan.PostPlan.{PostPlan}
use Rattle.session_words.specs.declared.word.Reply.{Reply}
use Rattle.session_rules.specs.Reply.{reply_to, waiting_reply}
use Rattle.session_rules.specs.Stages.{is_waiting}
use Rattle.post_spec.specs.Codecs as post
use Rattle.post_spec.specs.Spelled.{read_back}
use Rattle.post_spec.specs.Steps.{Bytes, Clock, Act, Give, Send, Answer, End, Reading}
use Rattle.station_spec.specs.States.{Spoken, Said, Agenda, State}
use Rattle.station_spec.specs.Deciding.{decided}
use Rattle.station_spec.specs.Judging.{filled}
use Rattle.station_spec.specs.Next.{Acts}
use Rattle.station_spec.specs.Sharing.{Shows}
use Rattle.car_rules.specs.declared.stage.CarStage.{CarStage}
use Rattle.car_rules.specs.Moves.{stage_behind}
use Rattle.car_spec.specs.Codecs as car
use Rattle.car_spec.specs.Steps as car_steps_of
use Rattle.car_spec.specs.States as car_states
use Rattle.car_spec.specs.Deciding as car_deciding
use Rattle.car_spec.specs.Judging as car_judging
use Rattle.car_spec.specs.Next as car_next
use Rattle.pipe_spec.specs.Histories.{Happening, CarComes, ChargerTells, StationHears, CarHears, TimePasses, StationDoes, CarReads, CarDoes, CarGoes, NumberIsDrawn, moment, joined, token, station_cause, station_has_ended, car_cause, station_says, car_steps, to_station, to_car}
use Rattle.pipe_spec.specs.Turns.{Station, station_state, car_state, CarMayReadBy, CarMayDoBy, BothRest, MayTurn}
use Rattle.pipe_spec.specs.Runs.{IsRun, IsWithin}
use Rattle.pipe_laws.specs.OneMessage.{IsShort}
use Rattle.pipe_laws.proofs.Runs as runs
use Rattle.pipe_laws.proofs.Runs.{piece_by, GoneBy}
use Rattle.pipe_facts.specs.InTime.{is_told}
use Rattle.pair_words.specs.Exchanges.{Both, Outside, asked, judged, reply}
use Rattle.pair_words.specs.Laws.{both, is_repeated}
use Rattle.pair_words.specs.Meeting.{Meets}
use Rattle.pair_words.proofs.Sessions.{they_meet}
use Rattle.pair_readings.specs.Codecs.{AreMutual}
use Rattle.pair_readings.specs.Readings.{HasAnswered}
use Rattle.pair_deeds.specs.Cars as cars
use Rattle.matched_pairs.specs.Ends.{Awaits}
use Rattle.matched_pairs.specs.Phases.{Words, NoneYet, Read, exchange}
use Rattle.matched_pairs.specs.Moves.{IsPair}
use Rattle.matched_pairs.specs.Acts.{IsOfCar}
use Rattle.matched_pairs.specs.Requests.{IsAsked, HasKept}
use Rattle.matched_pairs.specs.Courses.{IsAt, AllGoUndisturbed, GoesUndisturbed, GoesWell}
use Rattle.matched_pairs.specs.Pauses.{IsPausing, Resting, Closing, PausesAt}
use Rattle.matched_pairs.specs.Pending.{before_word, WasUnready, RepeatsAreOfNow}
use Rattle.matched_pairs.proofs.Requested.{posts_do}
use Rattle.matched_pairs.proofs.Keeps.{posts_keep}
use Rattle.matched_pairs.proofs.Courses.{plan_is}
use Rattle.matched_pairs.proofs.CarPhases.{same_session}
use Rattle.matched_pairs.proofs.CarsDo.{cars_act}
use Rattle.matched_pairs.proofs.Pauses.{time_passes_in_pauses}
use Rattle.matched_pairs.proofs.Told.{words_are_told}
use Rattle.matched_pairs.proofs.Held.{Known}
use Rattle.matched_pairs.proofs.Paces.{front, Seen, first_of, known}
use Rattle.matched_pairs.proofs.Repeating.{same_stage, unstaged, repeats_same, NothingCame, none_came, awaits_came, replies_none, says_none, HasCome, words_come}
use Rattle.matched_pairs.proofs.Unready.{lives, was_unready}
use Rattle.matched_pairs.proofs.Spoken.{only, IsOfNow, IsSpokenNow, DecidesNow, ComesNow, none_comes, empty_comes, heard_replies, rest_replies, heard_comes, passes_comes, heard_by, acted_replies, IsSaid, sends_reply, sent_comes, reads_comes, says_comes}

true_false : true ≡ false → ⊥
true_false e = cc

some_none : {A : Type 0} (a : A) → Some a ≡ None → ⊥
some_none a e = cc

some_spoken : (a b : Spoken) → Some a ≡ Some b → a ≡ b
some_spoken a b e = cc

pub record Pends (cs : car.Codecs) (st : Station) (plan : CarPlan) (h : List Happening) : Type 0 where
  pub replies : DecidesNow st plan (before_word h) (moment h) (decided st.post (station_state st h)).agenda.reply (car_state plan h).session
  pub comes : ComesNow cs st plan (before_word h) (moment h) (to_car h) (car_state plan h).session

-- ---- the post reads a request

waits_so : (w : Bool) (own spoken : Spoken) → (if w then None else Some own) ≡ Some spoken → (w ≡ false) × (own ≡ spoken)
waits_so true own spoken e = absurd (some_none spoken (sym e))
waits_so false own spoken e = (refl, some_spoken own spoken e)

at_once : (w : Bool) (waiting own : Reply) → w ≡ false → (if w then waiting else own) ≡ own
at_once false waiting own e = refl
at_once true waiting own e = absurd (true_false e)

asked_now : (c : post.Codecs) (cs : car.Codecs) (st : Station) (plan : CarPlan) (h : List Happening) (dialect : Dialect) (xs : List Outside) (r : Reading) (act : Act) → IsPair c cs st.post plan → 1 ≤ st.limit
    → Meets st.post (both st.post plan token dialect xs) → Awaits plan (car_state plan h) (Some (both st.post plan token dialect xs).car) []
    → HasKept st.post plan (both st.post plan token dialect xs) (station_state st h) r → Acts c st.post (Shows st.limit [] []) (station_state st h) (Some r) act true → is_told h ≡ true → station_has_ended h ≡ false
    → DecidesNow st plan h (moment h) (filled st.post (Some r) (station_state st h)).agenda.reply (car_state plan h).session
asked_now c cs st plan h dialect xs r act p some meets a k i told ended = λ session stage spoken e f m is.
    let s : State = station_state st h in
    let b : Both = both st.post plan token dialect xs in
    let still : cars.IsStill plan (car_state plan h) a.session = a.still in
    let kept : HasAnswered st.post plan b (exchange s.facts s.facts r.shown) _ _ (filled st.post (Some r) s) = k.kept in
    let two : (is_waiting (judged st.post plan b (exchange s.facts s.facts r.shown)).row ≡ false) × (Said b.post.dialect (reply_to b.post s.facts st.post (asked plan b.car) r.shown) ≡ spoken) =
    waits_so (is_waiting (judged st.post plan b (exchange s.facts s.facts r.shown)).row) (Said b.post.dialect (reply_to b.post s.facts st.post (asked plan b.car) r.shown)) spoken
    (sym (ap (λ (x : Agenda). x.reply) kept.agenda) ∙ is) in
    let reply_is : reply st.post plan b (exchange s.facts s.facts r.shown) ≡ reply_to b.post s.facts st.post (asked plan b.car) r.shown =
    at_once (is_waiting (judged st.post plan b (exchange s.facts s.facts r.shown)).row) (waiting_reply (judged st.post plan b (exchange s.facts s.facts r.shown)) s.facts st.post)
    (reply_to b.post s.facts st.post (asked plan b.car) r.shown) two.0 in
    let same : b.car ≡ stage = same_stage (car_state plan h) a.session session b.car stage still.session_is a.stage_is e f in
    let own : IsOfNow st plan h (moment h) b.car (read_back (reply_to b.post s.facts st.post (asked plan b.car) r.shown)) =
    λ again. was_unready c st plan h b r act p.paired some k i told ended
    (subst (λ (x : Reply). is_repeated b.car.phase (stage_behind plan b.car (read_back x) false).phase ≡ true) (sym reply_is) again) in
    subst (λ (x : Spoken). IsSpokenNow st plan h (moment h) stage x) two.1 (
      meets.dialect ∙ ap (λ (z : CarStage). z.dialect) same,
      subst (λ (z : CarStage). IsOfNow st plan h (moment h) z (read_back (reply_to b.post s.facts st.post (asked plan b.car) r.shown))) same own,
    )

-- ---- it does something

does_comes : (act : Act) (c : post.Codecs) (cs : car.Codecs) (st : Station) (plan : CarPlan) (before : List Happening) (now : ℕ) (reading : Option Reading) (s : State) (k : car_states.State) (way : List ℕ) → AreMutual c cs
    → NothingCame k way → DecidesNow st plan before now (filled st.post reading s).agenda.reply k.session → Acts c st.post (Shows st.limit [] []) s reading act true
    → ComesNow cs st plan before now (way ++ station_says act) k.session
does_comes (Give o) c cs st plan before now reading s k way agree none own i = empty_comes cs st plan before now (way ++ []) k.session none.unread (append-nil way ∙ none.way_is)
does_comes (Send bytes) c cs st plan before now reading s k way agree none own i =
    sent_comes c cs st plan before now k way bytes (filled st.post reading s).agenda agree none own (sends_reply i.todo c (filled st.post reading s).agenda bytes i.acts i.done)
does_comes (Answer bytes) c cs st plan before now reading s k way agree none own i = empty_comes cs st plan before now (way ++ []) k.session none.unread (append-nil way ∙ none.way_is)
does_comes (End number) c cs st plan before now reading s k way agree none own i = empty_comes cs st plan before now (way ++ []) k.session none.unread (append-nil way ∙ none.way_is)

-- what it decided before
later_comes : (act : Act) (words : Words) (c : post.Codecs) (cs : car.Codecs) (st : Station) (plan : CarPlan) (h : List Happening) (before : List Happening) (now : ℕ) → AreMutual c cs → IsAt c cs st plan words h
    → DecidesNow st plan before now (decided st.post (station_state st h)).agenda.reply (car_state plan h).session → ComesNow cs st plan before now (to_car h) (car_state plan h).session
    → Acts c st.post (Shows st.limit [] []) (station_state st h) None act true → ComesNow cs st plan before now (to_car h ++ station_says act) (car_state plan h).session
later_comes (Give o) words c cs st plan h before now agree phase own old i = subst (λ (l : List ℕ). ComesNow cs st plan before now l (car_state plan h).session) (sym (append-nil (to_car h))) old
later_comes (Send bytes) words c cs st plan h before now agree phase own old i =
    let said : IsSaid c (decided st.post (station_state st h)).agenda bytes = sends_reply i.todo c (decided st.post (station_state st h)).agenda bytes i.acts i.done in
    sent_comes c cs st plan before now (car_state plan h) (to_car h) bytes (decided st.post (station_state st h)).agenda agree
    (replies_none words c cs st.post plan (station_state st h) (car_state plan h) (to_station h) (to_car h) said.spoken phase said.reply_is) own said
later_comes (Answer bytes) words c cs st plan h before now agree phase own old i = subst (λ (l : List ℕ). ComesNow cs st plan before now l (car_state plan h).session) (sym (append-nil (to_car h))) old
later_comes (End number) words c cs st plan h before now agree phase own old i = subst (λ (l : List ℕ). ComesNow cs st plan before now l (car_state plan h).session) (sym (append-nil (to_car h))) old

-- what is known where a word is read
abbrev pub IsToldBy : Option Reading → List Happening → Type 0
IsToldBy None h = Unit {0}
IsToldBy (Some reading) h = is_told h ≡ true

does : (words : Words) (reading : Option Reading) (c : post.Codecs) (cs : car.Codecs) (st : Station) (plan : CarPlan) (h : List Happening) (act : Act) → IsPair c cs st.post plan → 1 ≤ st.limit → IsAt c cs st plan words h
    → GoesWell c cs st plan (StationDoes reading act ∷ h) → IsToldBy reading h → GoneBy (station_cause h) (station_state st h) → Acts c st.post (Shows st.limit [] []) (station_state st h) reading act true
    → GoesUndisturbed c cs st plan h (StationDoes reading act) → Pends cs st plan h → Pends cs st plan (StationDoes reading act ∷ h)
does NoneYet reading c cs st plan h act p some phase after told gone i d k = record {
  replies = λ session stage spoken e f m r. absurd (unstaged c cs st.post plan (station_state st h) (car_state plan h) (to_station h) (to_car h) session stage phase e f);
  comes = λ session e stage at payload r f m g comes j. absurd (unstaged c cs st.post plan (station_state st h) (car_state plan h) (to_station h) (to_car h) session stage phase e f);
}
does (Read dialect xs) None c cs st plan h act p some phase after told gone i d k = record {
  replies = acted_replies after.words c cs st plan (before_word h) (moment h) (decided st.post (station_state st h)) act (car_state plan h) (to_station h) (to_car h ++ station_says act) p after.phase k.replies;
  comes = later_comes act (Read dialect xs) c cs st plan h (before_word h) (moment h) p.readings phase k.replies k.comes i;
}
does (Read dialect xs) (Some r) c cs st plan h act p some phase after told gone i d k =
    let s : State = station_state st h in
    let a : IsAsked st.post plan dialect xs s (car_state plan h) (to_station h) (to_car h) = posts_do c cs st.post plan st.limit (Read dialect xs) s (car_state plan h) (to_station h) (to_car h) (Some r) act p phase i in
    let kept : HasKept st.post plan (both st.post plan token dialect xs) s r =
    posts_keep c cs st.post plan st.limit dialect xs s (car_state plan h) (to_station h) (to_car h) r act p phase (d (Read dialect xs) phase) i in
    let none = a.none in
    let own : DecidesNow st plan h (moment h) (filled st.post (Some r) s).agenda.reply (car_state plan h).session =
    asked_now c cs st plan h dialect xs r act p some (they_meet st.post plan token dialect xs p.paired phase.0) a.awaits kept i told (lives (station_cause h) s kept.session gone kept.session_is) in
    record {
      replies = acted_replies after.words c cs st plan h (moment h) (filled st.post (Some r) s) act (car_state plan h) (to_station h) (to_car h ++ station_says act) p after.phase own;
      comes = does_comes act c cs st plan h (moment h) (Some r) s (car_state plan h) (to_car h) p.readings
          (awaits_came plan (car_state plan h) (Some (both st.post plan token dialect xs).car) (to_car h) a.awaits none.car) own i;
    }

-- ---- the car does something

acts_comes : (act : car_steps_of.Act) (words : Words) (c : post.Codecs) (cs : car.Codecs) (st : Station) (plan : CarPlan) (h : List Happening) (before : List Happening) (now : ℕ) → IsOfCar act → IsAt c cs st plan words h
    → car_next.MayAct cs plan (car_state plan h) act true → ComesNow cs st plan before now (to_car h) (car_state plan h).session
    → ComesNow cs st plan before now (to_car h) (car_state plan (CarDoes act ∷ h)).session
acts_comes (car_steps_of.Give o) words c cs st plan h before now of_car phase i old =
    subst (λ (y : Option car_states.Session). ComesNow cs st plan before now (to_car h) y) (sym (same_session plan (car_state plan h))) old
acts_comes (car_steps_of.Say spoken bytes) words c cs st plan h before now of_car phase i old =
    let none : NothingCame (car_state plan h) (to_car h) = says_none words c cs st.post plan (station_state st h) (car_state plan h) (to_station h) (to_car h) spoken bytes phase i in
    says_comes cs st plan before now (car_deciding.decided plan (car_state plan h)).clock (to_car h) (car_deciding.decided plan (car_state plan h)).session
    (λ x e. none.unread x (sym (same_session plan (car_state plan h)) ∙ e)) none.way_is
acts_comes (car_steps_of.End number) words c cs st plan h before now of_car phase i old = none_comes cs st plan before now (to_car h) None refl
acts_comes (car_steps_of.Seek datagram) words c cs st plan h before now of_car phase i old = absurd of_car
acts_comes (car_steps_of.Dial port) words c cs st plan h before now of_car phase i old = absurd of_car

-- ---- time passes

pausing_none : (post_plan : PostPlan) (plan : CarPlan) (b : Both) (s : State) (k : car_states.State) (way : List ℕ) → IsPausing post_plan plan b s k → way ≡ [] → NothingCame k way
pausing_none post_plan plan b s k way (Resting l a) n = let still : cars.IsStill plan k a.session = a.still in none_came k a.session way still.session_is a.unread_is n
pausing_none post_plan plan b s k way (Closing facts shown last l w a) n = awaits_came plan k (Some b.car) way a n

-- ---- all that may happen

station_gone : (c : post.Codecs) (cs : car.Codecs) (st : Station) (plan : CarPlan) (session : List Happening) → Seen c cs st plan session → GoneBy (station_cause (front plan session)) (station_state st (front plan session))
station_gone c cs st plan session s =
    let holds : runs.Holds 65544 st (front plan session) (Some (joined plan)) =
    subst (λ (o : Option CarPlan). runs.Holds 65544 st (front plan session) o) (plan_is session plan s.within) (runs.holds 65544 c cs st (front plan session) (omega arith) s.run s.short) in
    holds.gone

told_by : (reading : Option Reading) (c : post.Codecs) (cs : car.Codecs) (st : Station) (plan : CarPlan) (session : List Happening) (act : Act) → Seen c cs st plan session
    → Acts c st.post (Shows st.limit [] []) (station_state st (front plan session)) reading act true → IsToldBy reading (front plan session)
told_by None c cs st plan session act s i = tt
told_by (Some r) c cs st plan session act s i = words_are_told c cs st plan (front plan session) r act s.pair (first_of c cs st plan session s.within s.run) s.short s.undisturbed i

-- what is known of what came before
pub shorter : (e : Happening) (c : post.Codecs) (cs : car.Codecs) (st : Station) (plan : CarPlan) (session : List Happening) → Seen c cs st plan (e ∷ session) → Seen c cs st plan session
shorter e c cs st plan session s =
    let w = s.within in
    let r = s.run in
    let l = s.short in
    let d = s.undisturbed in
    record { pair = s.pair; within = w.1; run = r.0; short = l.1; undisturbed = d.0 }

step : (e : Happening) (c : post.Codecs) (cs : car.Codecs) (st : Station) (plan : CarPlan) (session : List Happening) → Seen c cs st plan session → Seen c cs st plan (e ∷ session) → 1 ≤ st.limit
    → Pends cs st (joined plan) (front plan session) → Pends cs st (joined plan) (e ∷ front plan session)
step (ChargerTells event) c cs st plan session s t some k =
    let n : Known c cs st (joined plan) (ChargerTells event ∷ front plan session) = known c cs st plan (ChargerTells event ∷ session) t in
    let well : GoesWell c cs st (joined plan) (ChargerTells event ∷ front plan session) = n.well in
    record {
      replies = heard_replies well.words c cs st (joined plan) (before_word (front plan session)) (moment (front plan session)) (station_state st (ChargerTells event ∷ front plan session))
          (car_state (joined plan) (front plan session)) (to_station (front plan session)) (to_car (front plan session)) s.pair well.phase refl;
      comes = k.comes;
    }
step (StationHears bytes) c cs st plan session s t some k =
    let n : Known c cs st (joined plan) (StationHears bytes ∷ front plan session) = known c cs st plan (StationHears bytes ∷ session) t in
    let well : GoesWell c cs st (joined plan) (StationHears bytes ∷ front plan session) = n.well in
    record {
      replies = heard_replies well.words c cs st (joined plan) (before_word (front plan session)) (moment (front plan session)) (station_state st (StationHears bytes ∷ front plan session))
          (car_state (joined plan) (front plan session)) (to_station (StationHears bytes ∷ front plan session)) (to_car (front plan session)) s.pair well.phase refl;
      comes = k.comes;
    }
step (CarHears bytes) c cs st plan session s t some k =
    let h : List Happening = front plan session in
    let n : Known c cs st (joined plan) h = known c cs st plan session s in
    let r = t.run in
    let f : MayTurn st h (CarHears bytes) = r.1 in
    let rest : BothRest st h = f.rest in
    let turn = f.turn in
    let piece = turn.2 in
    record {
      replies = rest_replies st (joined plan) (before_word h) (moment h) (station_state st h) (car_state (joined plan) (CarHears bytes ∷ h)).session rest.station_rests;
      comes = heard_by (λ (x : car_states.State). ComesNow cs st (joined plan) (before_word h) (moment h) (drop (length bytes) (to_car h)) x.session) (car_cause h) (joined plan) (car_steps h) (Bytes bytes) (moment h) n.ended
          (heard_comes cs st (joined plan) (before_word h) (moment h) (moment h) (to_car h) bytes (drop (length bytes) (to_car h)) (car_state (joined plan) h).session (piece_by _ (to_car h) bytes piece.bytes_are) k.comes)
          (none_comes cs st (joined plan) (before_word h) (moment h) (drop (length bytes) (to_car h)) (car_state (joined plan) h).session);
    }
step TimePasses c cs st plan session s t some k =
    let h : List Happening = front plan session in
    let n : Known c cs st (joined plan) h = known c cs st plan session s in
    let later : Known c cs st (joined plan) (TimePasses ∷ h) = known c cs st plan (TimePasses ∷ session) t in
    let well : GoesWell c cs st (joined plan) (TimePasses ∷ h) = later.well in
    let r = t.run in
    let f : MayTurn st h TimePasses = r.1 in
    let turn = f.turn in
    let p : PausesAt st (joined plan) h = time_passes_in_pauses c cs st plan h s.pair (first_of c cs st plan (TimePasses ∷ session) t.within t.run) s.short s.undisturbed in
    let none : NothingCame (car_state (joined plan) h) (to_car h) = pausing_none st.post (joined plan) _ (station_state st h) (car_state (joined plan) h) (to_car h) p.pausing turn.2 in
    record {
      replies = heard_replies well.words c cs st (joined plan) (before_word h) (moment h + 10) (station_state st (TimePasses ∷ h)) (car_state (joined plan) (TimePasses ∷ h)) (to_station h) (to_car h) s.pair well.phase refl;
      comes = heard_by (λ (x : car_states.State). ComesNow cs st (joined plan) (before_word h) (moment h + 10) (to_car h) x.session) (car_cause h) (joined plan) (car_steps h) Clock (moment h + 10) n.ended
          (passes_comes cs st (joined plan) (before_word h) (moment h + 10) (moment h + 10) (to_car h) (car_state (joined plan) h).session none.unread none.way_is)
          (none_comes cs st (joined plan) (before_word h) (moment h + 10) (to_car h) (car_state (joined plan) h).session);
    }
step (StationDoes reading act) c cs st plan session s t some k =
    let h : List Happening = front plan session in
    let n : Known c cs st (joined plan) h = known c cs st plan session s in
    let well : GoesWell c cs st (joined plan) h = n.well in
    let after : Known c cs st (joined plan) (StationDoes reading act ∷ h) = known c cs st plan (StationDoes reading act ∷ session) t in
    let r = t.run in
    let d = t.undisturbed in
    does well.words reading c cs st (joined plan) h act s.pair some well.phase after.well (told_by reading c cs st plan session act s r.1) (station_gone c cs st plan session s) r.1 d.1 k
step (CarReads w) c cs st plan session s t some k =
    let h : List Happening = front plan session in
    let r = t.run in
    let f = r.1 in
    record {
      replies = rest_replies st (joined plan) (before_word h) (moment h) (station_state st h) (car_state (joined plan) (CarReads w ∷ h)).session f.0;
      comes = reads_comes cs st (joined plan) (before_word h) (moment h) (to_car h) (car_deciding.decided (joined plan) (car_state (joined plan) h)) w;
    }
step (CarDoes act) c cs st plan session s t some k =
    let h : List Happening = front plan session in
    let n : Known c cs st (joined plan) h = known c cs st plan session s in
    let well : GoesWell c cs st (joined plan) h = n.well in
    let r = t.run in
    let f = r.1 in
    let i : car_next.MayAct cs (joined plan) (car_state (joined plan) h) act true = subst (λ (o : Option CarPlan). CarMayDoBy cs o h act) n.came f.1 in
    record {
      replies = rest_replies st (joined plan) (before_word h) (moment h) (station_state st h) (car_state (joined plan) (CarDoes act ∷ h)).session f.0;
      comes = acts_comes act well.words c cs st (joined plan) h (before_word h) (moment h)
          (cars_act c cs st.post (joined plan) well.words (station_state st h) (car_state (joined plan) h) (to_station h) (to_car h) act s.pair well.phase i) well.phase i k.comes;
    }
step (CarComes other) c cs st plan session s t some k = let w = t.within in absurd (true_false (sym w.0))
step CarGoes c cs st plan session s t some k = let w = t.within in absurd (true_false (sym w.0))
step NumberIsDrawn c cs st plan session s t some k = let w = t.within in absurd (true_false (sym w.0))

-- the car has come
begins : (cs : car.Codecs) (st : Station) (plan : CarPlan) → Pends cs st (joined plan) (CarComes plan ∷ [])
begins cs st plan = record {
  replies = λ session stage spoken e f m r. absurd (only (λ (z : car_states.Session). z.stage ≡ Some stage → ⊥) (car_states.first_session 0) session e (λ g. some_none stage (sym g)) f);
  comes = λ session e stage at payload r f m g k j. absurd (only (λ (z : car_states.Session). z.stage ≡ Some stage → ⊥) (car_states.first_session 0) session e (λ i. some_none stage (sym i)) f);
}

pub pends_in : (c : post.Codecs) (cs : car.Codecs) (st : Station) (plan : CarPlan) (session : List Happening) → 1 ≤ st.limit → Seen c cs st plan session → Pends cs st (joined plan) (front plan session)
pends_in c cs st plan [] some s = begins cs st plan
pends_in c cs st plan (e ∷ session) some s =
    step e c cs st plan session (shorter e c cs st plan session s) s some (pends_in c cs st plan session some (shorter e c cs st plan session s))

-- ---- the car reads a reply

pub repeats_now : (c : post.Codecs) (cs : car.Codecs) (st : Station) (plan : CarPlan) (session : List Happening) (r : Reply) (y : car_states.Session) (stage : CarStage) → 1 ≤ st.limit → Seen c cs st plan session
    → car_next.MayRead cs (joined plan) (car_state (joined plan) (front plan session)) (car.Told r) → (car_state (joined plan) (front plan session)).session ≡ Some y → y.stage ≡ Some stage
    → is_repeated stage.phase (stage_behind (joined plan) stage r y.stop).phase ≡ true → WasUnready st (joined plan) (before_word (front plan session)) (moment (front plan session)) stage.phase
repeats_now c cs st plan session r y stage some s i e f again =
    let h : List Happening = front plan session in
    let n : Known c cs st (joined plan) h = known c cs st plan session s in
    let well : GoesWell c cs st (joined plan) h = n.well in
    let k : Pends cs st (joined plan) h = pends_in c cs st plan session some s in
    let come : HasCome cs (joined plan) y (to_car h) (car.Told r) = words_come well.words c cs st.post (joined plan) (station_state st h) (car_state (joined plan) h) (to_station h) (to_car h) y (car.Told r) well.phase e i in
    k.comes y e stage come.sent come.payload r f (repeats_same stage.phase (stage_behind (joined plan) stage r y.stop).phase again) come.sent_is come.comes
    (subst (λ (o : Option Dialect). car.Judges cs plan.dialects.items o come.payload (car.Told r)) (ap car_judging.dialect_of f) come.judged)
    (subst (λ (b : Bool). is_repeated stage.phase (stage_behind (joined plan) stage r b).phase ≡ true) come.stop again)

not_first : (plan : CarPlan) (w : car.Judged) (h : List Happening) → CarReads w ∷ h ≡ CarComes plan ∷ [] → ⊥
not_first plan w h e = cc

tail_of : (h t : List Happening) (a b : Happening) → a ∷ h ≡ b ∷ t → h ≡ t
tail_of h t a b e = cc

-- what came before a word
pub before_reading : (session : List Happening) (plan : CarPlan) (w : car.Judged) (h : List Happening) → CarReads w ∷ h ≡ front plan session → AllByRecursion IsWithin session
    → (before : List Happening) × (h ≡ front plan before) × AllByRecursion IsWithin before
before_reading [] plan w h e i = absurd (not_first plan w h e)
before_reading (x ∷ session) plan w h e i = (session, tail_of h (front plan session) (CarReads w) x e, i.1)

repeats_so : (c : post.Codecs) (cs : car.Codecs) (st : Station) (plan : CarPlan) (session : List Happening) (r : Reply) (y : car_states.Session) (stage : CarStage) → 1 ≤ st.limit → IsPair c cs st.post (joined plan)
    → AllByRecursion IsWithin session → IsRun c cs st (CarReads (car.Told r) ∷ front plan session) → AllByRecursion (IsShort 65544) (front plan session) → AllGoUndisturbed c cs st (joined plan) (front plan session)
    → (car_state (joined plan) (front plan session)).session ≡ Some y → y.stage ≡ Some stage
    → is_repeated stage.phase (stage_behind (joined plan) stage r y.stop).phase ≡ true → WasUnready st (joined plan) (before_word (front plan session)) (moment (front plan session)) stage.phase
repeats_so c cs st plan session r y stage some p w run l d e f again =
    let follows = run.1 in
    let s : Seen c cs st plan session = record { pair = p; within = w; run = run.0; short = l; undisturbed = d } in
    repeats_now c cs st plan session r y stage some s (subst (λ (o : Option CarPlan). CarMayReadBy cs o (front plan session) (car.Told r)) (plan_is session plan w) follows.1) e f again

pub repeats_are_of_now : (c : post.Codecs) (cs : car.Codecs) → RepeatsAreOfNow c cs
repeats_are_of_now c cs st plan h r y stage p some first l d e f again =
    let b = before_reading first.session plan (car.Told r) h first.h_is first.within in
    let is : h ≡ front plan b.0 = b.1 in
    subst (λ (x : List Happening). WasUnready st (joined plan) (before_word x) (moment x) stage.phase) (sym is)
    (repeats_so c cs st plan b.0 r y stage some p b.2 (subst (λ (x : List Happening). IsRun c cs st (CarReads (car.Told r) ∷ x)) is first.run) (subst (λ (x : List Happening). AllByRecursion (IsShort 65544) x) is l)
    (subst (λ (x : List Happening). AllGoUndisturbed c cs st (joined plan) x) is d) (subst (λ (x : List Happening). (car_state (joined plan) x).session ≡ Some y) is e) f again)
