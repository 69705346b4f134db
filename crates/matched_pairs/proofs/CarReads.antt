-- The words that a car reads lead from phase to phase.
use Rattle.std.proofs.Common.{◌≡◌, ℕ, ◌≤◌, Bool, true, false, if◌then◌else◌, List, [], ◌∷◌, Option, Some, None, refl, ap, sym, subst, ◌∙◌, ◌⊎◌, inl, inr, arith}
use Rattle.charge_world.specs.declared.offer.Dialect.{Dialect}
use Rattle.session_words.specs.declared.cause.EndCause.{EndCause}
use Rattle.session_words.specs.declared.cause.EndCause.TheVariants as cause
use Rattle.session_words.specs.declared.facts.Facts.{Facts}
use Rattle.session_words.specs.declared.plan.CarPlan.{CarPlan}
use Rattle.session_words.specs.declared.plan.PostPlan.{PostPlan}
use Rattle.session_words.specs.declared.word.Reply.{Reply}
use Rattle.session_words.specs.Plans.{IsCarPlan}
use Rattle.v2gtp_frames.specs.Frames.{frame, IsPayload}
use Rattle.v2gtp_frames.specs.Reading.{whole_at, behind_front}
use Rattle.session_rules.specs.declared.stage.Stage.{Stage}
use Rattle.post_spec.specs.Codecs as post
use Rattle.station_spec.specs.States.{State}
use Rattle.station_spec.specs.Deciding.{opening_if}
use Rattle.station_spec.specs.Next.{IsQuiet}
use Rattle.car_rules.specs.declared.stage.CarPhase.{CarPhase}
use Rattle.car_rules.specs.declared.stage.CarPhase.TheVariants as phase
use Rattle.car_rules.specs.declared.stage.CarStage.{CarStage}
use Rattle.car_rules.specs.Deadlines.{due_at}
use Rattle.car_rules.specs.Moves.{is_again, order_of}
use Rattle.car_rules.specs.Replies.{is_ending}
use Rattle.car_rules.specs.Requests.{request_of}
use Rattle.car_spec.specs.Codecs as car
use Rattle.car_spec.specs.Codecs.{Chosen, Told, WrongSide, Refused}
use Rattle.car_spec.specs.Steps.{Offer, Asked}
use Rattle.car_spec.specs.States as car_states
use Rattle.car_spec.specs.Due.{is_due}
use Rattle.car_spec.specs.Deciding.{decided}
use Rattle.car_spec.specs.Judging.{dialect_of, waiting, gone_on, replied, judged, judged_in, moved, read}
use Rattle.car_spec.specs.Next.{MayRead}
use Rattle.pipe_spec.specs.Histories.{token, ported}
use Rattle.pipe_spec.specs.Counts.{IsOkReply}
use Rattle.pair_words.specs.Exchanges.{Both, Outside, reply, heard, behind}
use Rattle.pair_words.specs.Meeting.{ArePaired, Meets, Suits}
use Rattle.pair_words.specs.Laws.{both, end_of, has_ended, AreExchanges, IsAnswered}
use Rattle.pair_words.proofs.Exchanges.{exchanges_go_well}
use Rattle.pair_words.proofs.Sessions.{they_meet}
use Rattle.pair_readings.specs.Readings.{after_reply}
use Rattle.pair_readings.proofs.Codecs.{replies_are_heard}
use Rattle.pair_readings.proofs.Readings as readings
use Rattle.pair_negotiation.specs.Beginning.{asking_first, HaveBegun}
use Rattle.pair_deeds.specs.Cars.{IsStill}
use Rattle.pair_deeds.proofs.Cars.{cars_read_words, cars_stay_behind_acts}
use Rattle.matched_pairs.specs.Ends.{Listens, IsGone, GoesOnBy, IsToSay, Awaits, Pauses}
use Rattle.matched_pairs.specs.Phases.{Comes, NothingComes, Begins, IsToOffer, Offered, Offers, Responded, exchange, Talks, IsToAsk, Rests, Asks, IsToReply, Closes, Replies, Ends, IsToStop, Stopped, NoneYet, Read, TalksBy}
use Rattle.matched_pairs.specs.Moves.{IsPair, HasRead, CarsRead}
use Rattle.matched_pairs.proofs.Messages.{Front, OnItsWay, Whole, front, empty_waits, nothing_left}
use Rattle.matched_pairs.proofs.PostPhases.{end_quiet}
use Rattle.matched_pairs.proofs.CarPhases.{same_session, same_over, looks_for_none, awaits_reads, pauses_reads, ended_reads, says_first, say_reads, finish_reads, not_due_yet}

some_none : {A : Type 0} (a : A) → Some a ≡ None → ⊥
some_none a e = cc

-- ---- the response

-- a car that goes on has read a choice
chosen_so : (plan : CarPlan) (d : car_states.State) (session : car_states.Session) (stage : CarStage) (w : car.Judged) → session.stage ≡ None
    → judged plan d session w ≡ asking_first plan d session stage → IsOkReply w
chosen_so plan d session stage (Chosen None) n e = absurd (some_none cause.NoNegotiation (ap (λ (x : car_states.State). x.agenda.ending) e))
chosen_so plan d session stage (Chosen (Some dialect)) n e = tt
chosen_so plan d session stage (Told r) n e =
    absurd (some_none cause.WrongReply (ap (λ (x : car_states.State). x.agenda.ending) (ap (λ (o : Option CarStage). replied plan d session o r) (sym n) ∙ e)))
chosen_so plan d session stage WrongSide n e = absurd (some_none cause.WrongSide (ap (λ (x : car_states.State). x.agenda.ending) e))
chosen_so plan d session stage Refused n e = absurd (some_none cause.Refused (ap (λ (x : car_states.State). x.agenda.ending) e))

asks_first : (plan : CarPlan) (k : car_states.State) (unread : List ℕ) (a : Awaits plan k None unread) (stage : CarStage) (payload : List ℕ) → IsPayload payload
    → a.session.unread ≡ frame payload → IsToSay plan (asking_first plan (decided plan k) a.session stage) (Some stage) None (Asked stage.dialect (request_of plan stage))
asks_first plan k unread a stage payload short u =
    let stays : decided plan (asking_first plan (decided plan k) a.session stage) ≡ asking_first plan (decided plan k) a.session stage =
    says_first plan (asking_first plan (decided plan k) a.session stage) None (Asked stage.dialect (request_of plan stage)) refl in
    record {
      session = gone_on a.session stage (decided plan k).clock;
      session_is = refl;
      goes_on = same_over plan k ∙ a.goes_on;
      stage_is = refl;
      unread_is = nothing_left payload a.session.unread u short;
      stop = a.stop;
      agenda_is = ap (λ (x : car_states.State). x.agenda) stays;
      part_is = ap (λ (x : car_states.State). x.part) stays;
    }

chooses : (c : post.Codecs) (cc : car.Codecs) (post_plan : PostPlan) (plan : CarPlan) (s : State) (k : car_states.State) (to_station to_car : List ℕ) (w : car.Judged) (request unread : List ℕ)
    (begun : HaveBegun c cc post_plan plan token request) → Listens post_plan s (both post_plan plan token begun.dialect []).post [] → (a : Awaits plan k None unread) → to_station ≡ []
    → to_car ≡ [] → IsPayload begun.response → unread ≡ frame begun.response → MayRead cc plan k w → HasRead c cc post_plan plan NoneYet s k to_station to_car w
chooses c cc post_plan plan s k to_station to_car w request unread begun l a e f short u i =
    let still : IsStill plan k a.session = a.still in
    let own : a.session.unread ≡ frame begun.response = a.unread_is ∙ u in
    let j : car.Judges cc plan.dialects.items (dialect_of a.session.stage) begun.response w = cars_read_words cc plan k a.session begun.response w a.still own short i in
    let there : (decided plan k).session ≡ Some a.session = same_session plan k ∙ still.session_is in
    let is : read plan (decided plan k) w ≡ asking_first plan (decided plan k) a.session (both post_plan plan token begun.dialect []).car =
    begun.begins k a.session w there a.stage_is j in
    record {
      ok = chosen_so plan (decided plan k) a.session (both post_plan plan token begun.dialect []).car w a.stage_is
          (ap (λ (o : Option car_states.Session). judged_in plan (decided plan k) o w) (sym there) ∙ is);
      behind = Read begun.dialect [];
      next = refl;
      phase = (
        tt,
        subst (λ (x : car_states.State). Talks c cc post_plan plan (both post_plan plan token begun.dialect []) s x to_station to_car) (sym is)
            (IsToAsk None l (asks_first plan k unread a (both post_plan plan token begun.dialect []).car begun.response short own) (record { station = e; car = f })),
      );
    }

-- ---- a reply

-- SessionStop alone is the last one
end_is : (ph : CarPhase) → ((end_of ph ≡ None) × (is_ending ph ≡ false)) ⊎ ((end_of ph ≡ Some cause.Stopped) × (is_ending ph ≡ true))
end_is phase.Ending = inr (refl, refl)
end_is other = inl (refl, refl)

goes_by : (o : Option EndCause) (post_plan : PostPlan) (s : State) (stage : Stage) → o ≡ None → GoesOnBy o post_plan s stage → Listens post_plan s stage []
goes_by None post_plan s stage e g = g
goes_by (Some cause) post_plan s stage e g = absurd (some_none cause e)

gone_by : (o : Option EndCause) (post_plan : PostPlan) (s : State) (stage : Stage) → o ≡ Some cause.Stopped → IsQuiet post_plan s → GoesOnBy o post_plan s stage → IsGone post_plan s
gone_by None post_plan s stage e q g = absurd (some_none cause.Stopped (sym e))
gone_by (Some cause) post_plan s stage e q (inl t) = absurd (end_quiet post_plan s cause t q)
gone_by (Some cause) post_plan s stage e q (inr g) = g

asks_next : (plan : CarPlan) (k : car_states.State) (session : car_states.Session) (from to : CarStage) (payload : List ℕ) (r : Reply) → k.over ≡ false → session.unread ≡ frame payload → IsPayload payload
    → session.stop ≡ false
    → IsToSay plan (record (decided plan k) { part = car_states.Wording; session = Some (gone_on session to (decided plan k).clock); agenda = record car_states.nothing { order = order_of plan from.phase r.tell; spoken = Some (Asked to.dialect (request_of plan to)) } })
    (Some to) (order_of plan from.phase r.tell) (Asked to.dialect (request_of plan to))
asks_next plan k session from to payload r over u short stop =
    let stays = says_first plan (record (decided plan k) { part = car_states.Wording; session = Some (gone_on session to (decided plan k).clock); agenda = record car_states.nothing { order = order_of plan from.phase r.tell; spoken = Some (Asked to.dialect (request_of plan to)) } })
    (order_of plan from.phase r.tell) (Asked to.dialect (request_of plan to)) refl in
    record {
      session = gone_on session to (decided plan k).clock;
      session_is = refl;
      goes_on = same_over plan k ∙ over;
      stage_is = refl;
      unread_is = nothing_left payload session.unread u short;
      stop = stop;
      agenda_is = ap (λ (x : car_states.State). x.agenda) stays;
      part_is = ap (λ (x : car_states.State). x.part) stays;
    }

pauses_next : (plan : CarPlan) (k : car_states.State) (session : car_states.Session) (to : CarStage) (due : Option ℕ) (payload : List ℕ) → plan.sdp ≡ 0 → is_due due (decided plan k).clock ≡ false → k.over ≡ false
    → session.unread ≡ frame payload → IsPayload payload → session.stop ≡ false
    → Pauses plan (record (decided plan k) { part = car_states.Wording; session = Some (waiting session to due); agenda = car_states.nothing }) to
pauses_next plan k session to due payload joined later over u short stop =
    let left : behind_front session.unread ≡ [] = nothing_left payload session.unread u short in
    record {
      session = waiting session to due;
      still = record {
        session_is = refl;
        none = refl;
        stays = cars_stay_behind_acts plan (record (decided plan k) { part = car_states.Wording; session = Some (waiting session to due); agenda = car_states.nothing }) (waiting session to due) refl refl
            (record { session_is = refl; again = later; search = looks_for_none plan (decided plan k).search joined }) (ap whole_at left ∙ empty_waits);
      };
      goes_on = same_over plan k ∙ over;
      stage_is = refl;
      unread_is = left;
      stop = stop;
      sent = refl;
    }

-- it goes on to another stage, or waits to ask the same once more
moves_by : (again : Bool) (c : post.Codecs) (cc : car.Codecs) (post_plan : PostPlan) (plan : CarPlan) (from : CarStage) (b : Both) (s : State) (k : car_states.State) (session : car_states.Session)
    (to_station to_car : List ℕ) (payload : List ℕ) (r : Reply) → plan.sdp ≡ 0 → 1 ≤ plan.pace → is_again from.phase b.car.phase ≡ again → k.over ≡ false → session.unread ≡ frame payload → IsPayload payload
    → session.stop ≡ false → Listens post_plan s b.post [] → NothingComes to_station to_car
    → Talks c cc post_plan plan b s (moved plan (decided plan k) session from r b.car) to_station to_car
moves_by true c cc post_plan plan from b s k session to_station to_car payload r joined pace e over u short stop l none =
    rw e (Rests l (pauses_next plan k session b.car (due_at (decided plan k).clock plan.pace) payload joined (not_due_yet (decided plan k).clock plan.pace pace) over u short stop) none)
moves_by false c cc post_plan plan from b s k session to_station to_car payload r joined pace e over u short stop l none =
    rw e (IsToAsk (order_of plan from.phase r.tell) l (asks_next plan k session from b.car payload r over u short stop) none)

-- behind the reply to SessionStop it is to end
ended_as : (ends : Bool) (o : Option EndCause) (c : post.Codecs) (cc : car.Codecs) (post_plan : PostPlan) (plan : CarPlan) (b : Both) (s : State) (k : car_states.State) (to_station to_car : List ℕ) (x : Outside)
    (session : car_states.Session) → ends ≡ is_ending b.car.phase → o ≡ end_of b.car.phase
    → TalksBy ends c cc post_plan plan (behind post_plan plan b x) s (after_reply o post_plan plan b x (decided plan k) session) to_station to_car
    → TalksBy (is_ending b.car.phase) c cc post_plan plan (behind post_plan plan b x) s (after_reply (end_of b.car.phase) post_plan plan b x (decided plan k) session) to_station to_car
ended_as ends o c cc post_plan plan b s k to_station to_car x session e f t =
    subst (λ (y : Bool). TalksBy y c cc post_plan plan (behind post_plan plan b x) s (after_reply (end_of b.car.phase) post_plan plan b x (decided plan k) session) to_station to_car) e
    (subst (λ (y : Option EndCause). TalksBy ends c cc post_plan plan (behind post_plan plan b x) s (after_reply y post_plan plan b x (decided plan k) session) to_station to_car) f t)

told_by : (c : post.Codecs) (cc : car.Codecs) (post_plan : PostPlan) (plan : CarPlan) (b : Both) (s : State) (k : car_states.State) (to_station to_car : List ℕ) (x : Outside) (payload : List ℕ)
    → IsPair c cc post_plan plan → (session : car_states.Session) → k.over ≡ false → session.unread ≡ frame payload → IsPayload payload → session.stop ≡ false
    → GoesOnBy (end_of b.car.phase) post_plan s (behind post_plan plan b x).post → NothingComes to_station to_car → IsQuiet post_plan s
    → ((end_of b.car.phase ≡ None) × (is_ending b.car.phase ≡ false)) ⊎ ((end_of b.car.phase ≡ Some cause.Stopped) × (is_ending b.car.phase ≡ true))
    → TalksBy (is_ending b.car.phase) c cc post_plan plan (behind post_plan plan b x) s (after_reply (end_of b.car.phase) post_plan plan b x (decided plan k) session) to_station to_car
told_by c cc post_plan plan b s k to_station to_car x payload p session over u short stop goes none q (inl e) =
    let paired : ArePaired post_plan plan = p.paired in
    let car_plan : IsCarPlan (ported plan) = paired.of_car in
    let pace = car_plan.pace in
    let some : 1 ≤ plan.pace = let least = pace.0 in omega (arith, least) in
    let t : Talks c cc post_plan plan (behind post_plan plan b x) s (moved plan (decided plan k) session b.car (heard post_plan plan b x) (behind post_plan plan b x).car) to_station to_car =
    moves_by (is_again b.car.phase (behind post_plan plan b x).car.phase) c cc post_plan plan b.car (behind post_plan plan b x) s k session to_station to_car payload (heard post_plan plan b x) p.joined some refl over u short stop
    (goes_by (end_of b.car.phase) post_plan s (behind post_plan plan b x).post e.0 goes) none in
    ended_as false None c cc post_plan plan b s k to_station to_car x session (sym e.1) (sym e.0) t
told_by c cc post_plan plan b s k to_station to_car x payload p session over u short stop goes none q (inr e) =
    ended_as true (Some cause.Stopped) c cc post_plan plan b s k to_station to_car x session (sym e.1) (sym e.0)
    (IsToStop (opening_if (decided plan k).live) (gone_by (end_of b.car.phase) post_plan s (behind post_plan plan b x).post e.0 q goes)
    (record { goes_on = same_over plan k ∙ over; agenda_is = refl }) none)

told : (c : post.Codecs) (cc : car.Codecs) (post_plan : PostPlan) (plan : CarPlan) (b : Both) (s : State) (k : car_states.State) (to_station to_car : List ℕ) (w : car.Judged) (facts later : Facts) (shown : ℕ)
    (payload unread : List ℕ) → IsPair c cc post_plan plan → Meets post_plan b → Suits b.car.phase (exchange facts later shown)
    → c.Encodes b.car.dialect (reply post_plan plan b (exchange facts later shown)) payload
    → GoesOnBy (end_of b.car.phase) post_plan s (behind post_plan plan b (exchange facts later shown)).post → (a : Awaits plan k (Some b.car) unread) → NothingComes to_station to_car
    → IsPayload payload → unread ≡ frame payload → IsQuiet post_plan s → MayRead cc plan k w
    → IsOkReply w × TalksBy (is_ending b.car.phase) c cc post_plan plan (behind post_plan plan b (exchange facts later shown)) s (read plan (decided plan k) w) to_station to_car
told c cc post_plan plan b s k to_station to_car w facts later shown payload unread p meets suits encodes goes a none short u q i =
    let still : IsStill plan k a.session = a.still in
    let own : a.session.unread ≡ frame payload = a.unread_is ∙ u in
    let j : car.Judges cc plan.dialects.items (dialect_of a.session.stage) payload w = cars_read_words cc plan k a.session payload w a.still own short i in
    let k_of : car.Judges cc plan.dialects.items (Some b.car.dialect) payload w =
    subst (λ (o : Option CarStage). car.Judges cc plan.dialects.items (dialect_of o) payload w) a.stage_is j in
    let word : w ≡ Told (heard post_plan plan b (exchange facts later shown)) =
    replies_are_heard c cc p.readings plan.dialects.items b.car.dialect (reply post_plan plan b (exchange facts later shown)) payload w encodes k_of in
    let answered : IsAnswered post_plan plan b (exchange facts later shown) = exchanges_go_well post_plan plan b (exchange facts later shown) p.paired meets suits in
    let there : (decided plan k).session ≡ Some a.session = same_session plan k ∙ still.session_is in
    let is : read plan (decided plan k) w ≡ after_reply (end_of b.car.phase) post_plan plan b (exchange facts later shown) (decided plan k) a.session =
    ap (λ (v : car.Judged). read plan (decided plan k) v) word
    ∙ readings.cars_go_on post_plan plan b (exchange facts later shown) k a.session a.sent answered there a.stage_is a.sent_is a.stop in (
      subst IsOkReply (sym word) answered.code,
      subst (λ (x : car_states.State). TalksBy (is_ending b.car.phase) c cc post_plan plan (behind post_plan plan b (exchange facts later shown)) s x to_station to_car) (sym is)
          (told_by c cc post_plan plan b s k to_station to_car (exchange facts later shown) payload p a.session a.goes_on own short a.stop goes none q (end_is b.car.phase)),
    )

replies_front : (c : post.Codecs) (cc : car.Codecs) (post_plan : PostPlan) (plan : CarPlan) (dialect : Dialect) (xs : List Outside) (s : State) (k : car_states.State) (to_station to_car : List ℕ) (w : car.Judged)
    (facts later : Facts) (shown : ℕ) (payload unread : List ℕ) → IsPair c cc post_plan plan → AreExchanges post_plan plan token dialect xs → has_ended post_plan plan token dialect xs ≡ false
    → Suits (both post_plan plan token dialect xs).car.phase (exchange facts later shown)
    → c.Encodes (both post_plan plan token dialect xs).car.dialect (reply post_plan plan (both post_plan plan token dialect xs) (exchange facts later shown)) payload
    → GoesOnBy (end_of (both post_plan plan token dialect xs).car.phase) post_plan s (behind post_plan plan (both post_plan plan token dialect xs) (exchange facts later shown)).post
    → Awaits plan k (Some (both post_plan plan token dialect xs).car) unread → to_station ≡ [] → Comes payload unread to_car → Front payload unread to_car → IsQuiet post_plan s → MayRead cc plan k w
    → HasRead c cc post_plan plan (Read dialect xs) s k to_station to_car w
replies_front c cc post_plan plan dialect xs s k to_station to_car w facts later shown payload unread p are goes_on suits encodes goes a e comes (OnItsWay front) q i =
    absurd (awaits_reads cc plan k _ unread w a front i)
replies_front c cc post_plan plan dialect xs s k to_station to_car w facts later shown payload unread p are goes_on suits encodes goes a e comes (Whole u f) q i =
    let t = told c cc post_plan plan (both post_plan plan token dialect xs) s k to_station to_car w facts later shown payload unread p (they_meet post_plan plan token dialect xs p.paired are) suits encodes goes a
    (record { station = e; car = f }) comes.short u q i in
    record {
      ok = t.0;
      behind = Read dialect (exchange facts later shown ∷ xs);
      next = (refl, exchange facts later shown, refl);
      phase = ((are, goes_on, suits), t.1);
    }

-- ---- no other phase has a word to read

responded_front : (c : post.Codecs) (cc : car.Codecs) (post_plan : PostPlan) (plan : CarPlan) (s : State) (k : car_states.State) (to_station to_car : List ℕ) (w : car.Judged) (request unread : List ℕ)
    (begun : HaveBegun c cc post_plan plan token request) → Listens post_plan s (both post_plan plan token begun.dialect []).post [] → Awaits plan k None unread → to_station ≡ []
    → Comes begun.response unread to_car → Front begun.response unread to_car → MayRead cc plan k w → HasRead c cc post_plan plan NoneYet s k to_station to_car w
responded_front c cc post_plan plan s k to_station to_car w request unread begun l a e comes (OnItsWay front) i = absurd (awaits_reads cc plan k None unread w a front i)
responded_front c cc post_plan plan s k to_station to_car w request unread begun l a e comes (Whole u f) i =
    chooses c cc post_plan plan s k to_station to_car w request unread begun l a e f comes.short u i

begins_reads : (c : post.Codecs) (cc : car.Codecs) (post_plan : PostPlan) (plan : CarPlan) (s : State) (k : car_states.State) (to_station to_car : List ℕ) (w : car.Judged)
    → Begins c cc post_plan plan s k to_station to_car → MayRead cc plan k w → HasRead c cc post_plan plan NoneYet s k to_station to_car w
begins_reads c cc post_plan plan s k to_station to_car w (IsToOffer come say none) i = absurd (say_reads cc plan k None None Offer w say i)
begins_reads c cc post_plan plan s k to_station to_car w (Offered request offers come a comes e) i = absurd (awaits_reads cc plan k None [] w a empty_waits i)
begins_reads c cc post_plan plan s k to_station to_car w (Offers request unread offers l a comes e) i = absurd (awaits_reads cc plan k None [] w a empty_waits i)
begins_reads c cc post_plan plan s k to_station to_car w (Responded request unread begun l a e comes) i =
    responded_front c cc post_plan plan s k to_station to_car w request unread begun l a e comes (front begun.response unread to_car comes) i

talks_reads : (c : post.Codecs) (cc : car.Codecs) (post_plan : PostPlan) (plan : CarPlan) (dialect : Dialect) (xs : List Outside) (s : State) (k : car_states.State) (to_station to_car : List ℕ) (w : car.Judged)
    → IsPair c cc post_plan plan → AreExchanges post_plan plan token dialect xs → has_ended post_plan plan token dialect xs ≡ false
    → Talks c cc post_plan plan (both post_plan plan token dialect xs) s k to_station to_car → IsQuiet post_plan s → MayRead cc plan k w
    → HasRead c cc post_plan plan (Read dialect xs) s k to_station to_car w
talks_reads c cc post_plan plan dialect xs s k to_station to_car w p are goes_on (IsToAsk order l say none) q i = absurd (say_reads cc plan k _ order _ w say i)
talks_reads c cc post_plan plan dialect xs s k to_station to_car w p are goes_on (Rests l pauses none) q i = absurd (pauses_reads cc plan k _ w pauses i)
talks_reads c cc post_plan plan dialect xs s k to_station to_car w p are goes_on (Asks request unread encodes l a comes e) q i = absurd (awaits_reads cc plan k _ [] w a empty_waits i)
talks_reads c cc post_plan plan dialect xs s k to_station to_car w p are goes_on (IsToReply facts later shown fits send a none) q i = absurd (awaits_reads cc plan k _ [] w a empty_waits i)
talks_reads c cc post_plan plan dialect xs s k to_station to_car w p are goes_on (Closes facts shown fits last l waits a none) q i = absurd (awaits_reads cc plan k _ [] w a empty_waits i)
talks_reads c cc post_plan plan dialect xs s k to_station to_car w p are goes_on (Replies facts later shown payload unread fits encodes goes a e comes) q i =
    replies_front c cc post_plan plan dialect xs s k to_station to_car w facts later shown payload unread p are goes_on fits encodes goes a e comes (front payload unread to_car comes) q i

pub ends_reads : (cc : car.Codecs) (post_plan : PostPlan) (plan : CarPlan) (s : State) (k : car_states.State) (to_station to_car : List ℕ) (w : car.Judged) → Ends post_plan plan s k to_station to_car
    → MayRead cc plan k w → ⊥
ends_reads cc post_plan plan s k to_station to_car w (IsToStop order g finish none) i = finish_reads cc plan k order cause.Stopped w finish i
ends_reads cc post_plan plan s k to_station to_car w (Stopped g ended none) i = ended_reads cc plan k w ended i

by_end : (e : Bool) (c : post.Codecs) (cc : car.Codecs) (post_plan : PostPlan) (plan : CarPlan) (dialect : Dialect) (xs : List Outside) (s : State) (k : car_states.State) (to_station to_car : List ℕ) (w : car.Judged)
    → IsPair c cc post_plan plan → AreExchanges post_plan plan token dialect xs → has_ended post_plan plan token dialect xs ≡ e
    → TalksBy e c cc post_plan plan (both post_plan plan token dialect xs) s k to_station to_car → IsQuiet post_plan s → MayRead cc plan k w
    → HasRead c cc post_plan plan (Read dialect xs) s k to_station to_car w
by_end true c cc post_plan plan dialect xs s k to_station to_car w p are e t q i = absurd (ends_reads cc post_plan plan s k to_station to_car w t i)
by_end false c cc post_plan plan dialect xs s k to_station to_car w p are e t q i = talks_reads c cc post_plan plan dialect xs s k to_station to_car w p are e t q i

pub cars_read : (c : post.Codecs) (cc : car.Codecs) → CarsRead c cc
cars_read c cc post_plan plan NoneYet s k to_station to_car w p phase q i = begins_reads c cc post_plan plan s k to_station to_car w phase i
cars_read c cc post_plan plan (Read dialect xs) s k to_station to_car w p phase q i =
    by_end (has_ended post_plan plan token dialect xs) c cc post_plan plan dialect xs s k to_station to_car w p phase.0 refl phase.1 q i
