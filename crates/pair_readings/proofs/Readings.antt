-- What is read is judged by what both keep of the exchange.
use Rattle.std.proofs.Common.{◌≡◌, ℕ, Bool, true, false, if◌then◌else◌, Option, Some, None, is_some, refl, sym, ap, subst, ◌∙◌}
use Rattle.session_words.specs.declared.cause.EndCause.{EndCause}
use Rattle.session_words.specs.declared.facts.Facts.{Facts}
use Rattle.session_words.specs.declared.plan.CarPlan.{CarPlan}
use Rattle.session_words.specs.declared.plan.PostPlan.{PostPlan}
use Rattle.session_words.specs.declared.word.Request.{Request}
use Rattle.session_rules.specs.declared.stage.Stage.{Stage}
use Rattle.session_rules.specs.Causes.{found_by, word_cause}
use Rattle.session_rules.specs.Moves.{stage_behind, facts_behind}
use Rattle.session_rules.specs.Orders.{order_of}
use Rattle.session_rules.specs.Reply.{reply_to}
use Rattle.session_rules.specs.Stages.{is_waiting}
use Rattle.session_rules.specs.Verdict.{verdict}
use Rattle.post_spec.specs.Codecs.{Asked}
use Rattle.station_spec.specs.States.{Said, Agenda, Session, State, nothing}
use Rattle.station_spec.specs.Deciding.{decided}
use Rattle.station_spec.specs.Judging.{order_by, taken_in, filled}
use Rattle.station_spec.specs.Judging as station
use Rattle.car_rules.specs.declared.stage.CarStage.{CarStage}
use Rattle.car_rules.specs.Moves as car_moves
use Rattle.car_rules.specs.Replies.{reply_cause}
use Rattle.car_spec.specs.Codecs.{Told}
use Rattle.car_spec.specs.States as car
use Rattle.car_spec.specs.Deciding as car_deciding
use Rattle.car_spec.specs.Judging as car_judging
use Rattle.pair_words.specs.Exchanges.{Both, Outside, asked, heard}
use Rattle.pair_words.specs.Laws.{end_of, IsAnswered}
use Rattle.pair_readings.specs.Readings.{HasAnswered, PostsAnswer, after_reply, CarsGoOn}

-- ---- the post

abbrev pub agenda_of : Bool → PostPlan → Request → ℕ → Stage → Facts → Option EndCause → Agenda
agenda_of live post r shown st f cause = record nothing {
  order = order_by cause live (order_of st f post r shown);
  reply = if is_waiting (stage_behind st f post r shown).row then None else Some (Said st.dialect (reply_to st f post r shown));
  ending = cause;
}

abbrev pub cause_of : PostPlan → Request → Stage → Facts → Option EndCause
cause_of post r st f = word_cause false (found_by (verdict st f post r) r.ask)

-- of a post whose session keeps just this
reads_in : (post : PostPlan) (plan : CarPlan) (b : Both) (x : Outside) (d : State) (session : Session) → IsAnswered post plan b x → session.stage ≡ b.post → d.facts ≡ x.facts
    → HasAnswered post plan b x d session (station.judged post d session (Asked (asked plan b.car)) x.shown)
reads_in post plan b x d session i e f =
    let cause : cause_of post (asked plan b.car) b.post x.facts ≡ end_of b.car.phase = i.post_ends in
    record {
      new = station.asked_session session post d (asked plan b.car) x.shown;
      session_is = refl;
      stage = ap (λ (z : Stage). stage_behind z d.facts post (asked plan b.car) x.shown) e ∙ ap (λ (z : Facts). stage_behind b.post z post (asked plan b.car) x.shown) f;
      since = refl;
      unread = refl;
      agenda = ap (λ (z : Stage). agenda_of d.live post (asked plan b.car) x.shown z d.facts (cause_of post (asked plan b.car) z d.facts)) e
          ∙ ap (λ (z : Facts). agenda_of d.live post (asked plan b.car) x.shown b.post z (cause_of post (asked plan b.car) b.post z)) f
          ∙ ap (λ (o : Option EndCause). agenda_of d.live post (asked plan b.car) x.shown b.post x.facts o) cause;
      facts = ap (λ (z : Stage). facts_behind z d.facts post (asked plan b.car)) e ∙ ap (λ (z : Facts). facts_behind b.post z post (asked plan b.car)) f;
      live = refl;
      clock = refl;
    }

pub posts_answer : PostsAnswer
posts_answer post plan b x s session i e stage facts =
    subst (λ (o : Option Session). HasAnswered post plan b x (decided post s) session (taken_in post (decided post s) o (record { judged = Asked (asked plan b.car); shown = x.shown }))) (sym e)
    (reads_in post plan b x (decided post s) session i stage facts)

-- ---- the car

is_there : (o : Option ℕ) (at : ℕ) → o ≡ Some at → is_some o ≡ true
is_there o at e = ap is_some e

by_cause : (o : Option EndCause) (post : PostPlan) (plan : CarPlan) (b : Both) (x : Outside) (d : car.State) (session : car.Session) → session.stop ≡ x.stop
    → car_judging.replied_by o plan d session b.car (heard post plan b x) ≡ after_reply o post plan b x d session
by_cause (Some cause) post plan b x d session e = refl
by_cause None post plan b x d session e =
    ap (λ (stop : Bool). car_judging.moved plan d session b.car (heard post plan b x) (car_moves.stage_behind plan b.car (heard post plan b x) stop)) e

replied_so : (post : PostPlan) (plan : CarPlan) (b : Both) (x : Outside) (d : car.State) (session : car.Session) (at : ℕ) → IsAnswered post plan b x → session.moments.sent ≡ Some at
    → session.stop ≡ x.stop → car_judging.replied plan d session (Some b.car) (heard post plan b x) ≡ after_reply (end_of b.car.phase) post plan b x d session
replied_so post plan b x d session at i e f =
    let cause : reply_cause plan b.car (is_some session.moments.sent) (heard post plan b x) ≡ end_of b.car.phase =
    ap (λ (awaited : Bool). reply_cause plan b.car awaited (heard post plan b x)) (is_there session.moments.sent at e) ∙ i.car_ends in
    ap (λ (o : Option EndCause). car_judging.replied_by o plan d session b.car (heard post plan b x)) cause ∙ by_cause (end_of b.car.phase) post plan b x d session f

pub cars_go_on : CarsGoOn
cars_go_on post plan b x c session at i e stage sent stop =
    ap (λ (o : Option car.Session). car_judging.judged_in plan (car_deciding.decided plan c) o (Told (heard post plan b x))) e
    ∙ ap (λ (o : Option CarStage). car_judging.replied plan (car_deciding.decided plan c) session o (heard post plan b x)) stage
    ∙ replied_so post plan b x (car_deciding.decided plan c) session at i sent stop
