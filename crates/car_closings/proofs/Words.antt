-- A word that is read keeps the tie.
use Rattle.std.proofs.Common.{◌≡◌, ℕ, suc, Bool, true, false, List, ◌∷◌, length, Option, Some, None, is_some, refl, sym, ap, subst, ◌∙◌}
use Rattle.charge_world.specs.declared.entry.Entry.{Entry}
use Rattle.charge_world.specs.declared.offer.Dialect.{Dialect}
use Rattle.session_words.specs.declared.cause.EndCause.{EndCause}
use Rattle.session_words.specs.declared.plan.CarPlan.{CarPlan}
use Rattle.session_words.specs.declared.word.Reply.{Reply}
use Rattle.session_words.specs.declared.word.Word.{Word}
use Rattle.session_words.specs.declared.word.Word.TheVariants as word
use Rattle.v2gtp_frames.specs.Reading.{payload_at}
use Rattle.car_rules.specs.declared.stage.CarStage.{CarStage}
use Rattle.car_rules.specs.Moves.{is_again, stage_behind}
use Rattle.car_rules.specs.Replies.{reply_cause}
use Rattle.car_rules.specs.Requests.{request_of}
use Rattle.post_spec.specs.Words.{IsPayloadAt}
use Rattle.car_spec.specs.Answered.{Exchange, answered_by, exchanges}
use Rattle.car_spec.specs.Asked.{Sent, last_request, awaited}
use Rattle.car_spec.specs.Codecs.{Judged, Chosen, Told, WrongSide, Refused, Codecs, judged_word, Judges}
use Rattle.car_spec.specs.Judging.{dialect_of, chosen, moved, replied, replied_by, judged, read}
use Rattle.car_spec.specs.Past.{stream, said, IsChosen, IsAsked, IsTold}
use Rattle.car_spec.specs.Spelled.{read_back}
use Rattle.car_spec.specs.States.{Session, State}
use Rattle.car_spec.specs.Steps.{Step, Reads}
use Rattle.car_laws.proofs.Kept.{StageReads, SessionReads, Reads_by, Keeps}
use Rattle.car_closings.proofs.Exchanged.{AreExchanged}
use Rattle.car_closings.proofs.Streams.{IsStream, Streams, ReadsFront, session_judged, next_payload}
use Rattle.car_closings.proofs.Ties.{StageTie, SaidTie, Link, TieBy, Tied, Settled, IsEmpty, empty, opens_alone, unoffered}

-- the reply that a payload is read as
told_word : (w : Option Word) (r : Reply) → Told r ≡ judged_word w → w ≡ Some (word.Reply r)
told_word None r h = cc
told_word (Some (word.Request request)) r h = cc
told_word (Some (word.Reply reply)) r h = cc
told_word (Some word.Nothing) r h = cc

no_choice : (w : Option Word) (d : Option Dialect) → Chosen d ≡ judged_word w → ⊥
no_choice None d h = cc
no_choice (Some (word.Request request)) d h = cc
no_choice (Some (word.Reply reply)) d h = cc
no_choice (Some word.Nothing) d h = cc

told_at : (c : Codecs) (plan : CarPlan) (past : List Entry) (d : Dialect) (place : ℕ) (payload : List ℕ) (r : Reply) → IsPayloadAt (stream past) place payload
    → Judges c plan.dialects.items (Some d) payload (Told r) → IsTold c d past place r
told_at c plan past d place payload r at j = record {
  payload = payload;
  at_place = at;
  reply_is = subst (λ (w : Option Word). c.Reads d payload w) (told_word j.0 r j.2) j.1;
}

-- an accepted reply
abbrev x_of : CarPlan → CarStage → Reply → Exchange
x_of plan stage r = record { request = request_of plan stage; reply = r }

answered_stage : (c : Codecs) (plan : CarPlan) (past : List Entry) (xs : List Exchange) (n : ℕ) (stage to : CarStage) (r : Reply) → to.dialect ≡ stage.dialect → StageTie c plan past xs n (Some stage)
    → IsAsked c stage.dialect past n (read_back (request_of plan stage)) → IsTold c stage.dialect past n r → StageTie c plan past (x_of plan stage r ∷ xs) (suc n) (Some to)
answered_stage c plan past xs n stage to r e k a t = (
  ap suc k.0,
  subst (IsChosen c plan.dialects.items past) (sym e) k.1,
  subst (λ (d : Dialect). AreExchanged c d past (x_of plan stage r ∷ xs)) (sym e) (
    subst (λ (m : ℕ). IsAsked c stage.dialect past m (read_back (request_of plan stage))) k.0 a,
    subst (λ (m : ℕ). IsTold c stage.dialect past m r) k.0 t,
    k.2,
  ),
)

moved_tied : (c : Codecs) (plan : CarPlan) (past : List Entry) (xs : List Exchange) (n : ℕ) (t : State) (session : Session) (from : CarStage) (r : Reply) (to : CarStage) (b : Bool) → is_again from.phase to.phase ≡ b
    → StageTie c plan past xs n (Some to) → said past ≡ n → Tied c plan past xs n (moved plan t session from r to)
moved_tied c plan past xs n t session from r to true e k s = rw e (record { staged = k; said_is = s; speaks = tt; still = tt; offers = λ f g. (cc); new = λ h. (cc) })
moved_tied c plan past xs n t session from r to false e k s = rw e (record { staged = k; said_is = s; speaks = refl; still = tt; offers = λ f g. (cc); new = λ h. (cc) })

replied_tied : (o : Option EndCause) (c : Codecs) (plan : CarPlan) (past : List Entry) (xs : List Exchange) (n : ℕ) (t : State) (session : Session) (stage : CarStage) (r : Reply) → StageTie c plan past xs n (Some stage)
    → (said past ≡ suc n) × IsAsked c stage.dialect past n (read_back (request_of plan stage)) → IsTold c stage.dialect past n r
    → Tied c plan past (x_of plan stage r ∷ xs) (suc n) (replied_by o plan t session stage r)
replied_tied (Some cause) c plan past xs n t session stage r k a m = opens_alone t.live
replied_tied None c plan past xs n t session stage r k a m =
    moved_tied c plan past (x_of plan stage r ∷ xs) (suc n) t session stage r (stage_behind plan stage r session.stop) _ refl
    (answered_stage c plan past xs n stage (stage_behind plan stage r session.stop) r refl k a.1 m) a.0

-- a reply in a stage: where none is awaited, it is a cause
staged_tied : (c : Codecs) (plan : CarPlan) (past : List Entry) (steps : List Step) (n : ℕ) (t : State) (session : Session) (stage : CarStage) (sent : Option ℕ) (r : Reply) → session.moments.sent ≡ sent
    → StageReads plan steps (Some stage) sent → sent ≡ awaited steps → StageTie c plan past (exchanges steps) n (Some stage) → SaidTie c plan past n (Some stage) sent → IsTold c stage.dialect past n r
    → Tied c plan past (exchanges (Reads (Told r) ∷ steps)) (suc n) (replied_by (reply_cause plan stage (is_some sent) r) plan t session stage r)
staged_tied c plan past steps n t session stage None r e g a k s m = opens_alone t.live
staged_tied c plan past steps n t session stage (Some at) r e g a k s m =
    let last : last_request steps ≡ Some (record { request = request_of plan stage; at = at }) = g.1 at refl in
    let same : exchanges (Reads (Told r) ∷ steps) ≡ x_of plan stage r ∷ exchanges steps =
    ap (λ (x : Option ℕ). answered_by (last_request steps) x r (exchanges steps)) (sym a) ∙ ap (λ (x : Option Sent). answered_by x (Some at) r (exchanges steps)) last in
    subst (λ (xs : List Exchange). Tied c plan past xs (suc n) (replied_by (reply_cause plan stage true r) plan t session stage r)) (sym same)
    (replied_tied (reply_cause plan stage true r) c plan past (exchanges steps) n t session stage r k s m)

told_tied : (c : Codecs) (plan : CarPlan) (past : List Entry) (steps : List Step) (n : ℕ) (t : State) (session : Session) (o : Option CarStage) (payload : List ℕ) (r : Reply) → session.stage ≡ o
    → SessionReads plan steps session → StageTie c plan past (exchanges steps) n o → SaidTie c plan past n o session.moments.sent → IsPayloadAt (stream past) n payload
    → Judges c plan.dialects.items (dialect_of o) payload (Told r) → Tied c plan past (exchanges (Reads (Told r) ∷ steps)) (suc n) (replied plan t session o r)
told_tied c plan past steps n t session None payload r e g k s at j = opens_alone t.live
told_tied c plan past steps n t session (Some stage) payload r e g k s at j =
    staged_tied c plan past steps n t session stage session.moments.sent r refl (subst (λ (x : Option CarStage). StageReads plan steps x session.moments.sent) e g.stage_is) g.sent_is k s
    (told_at c plan past stage.dialect n payload r at j)

-- a dialect is chosen: the offer was said
chosen_link : (c : Codecs) (plan : CarPlan) (past : List Entry) (xs : List Exchange) (n : ℕ) (t : State) (session : Session) (sent : Option ℕ) (payload : List ℕ) (d : Dialect) → (sent ≡ None → ⊥)
    → StageTie c plan past xs n None → SaidTie c plan past n None sent → IsPayloadAt (stream past) n payload → c.Responds plan.dialects.items payload (Chosen (Some d))
    → Tied c plan past xs (suc n) (chosen plan t session (Some d))
chosen_link c plan past xs n t session None payload d w k s at j = absurd (w refl)
chosen_link c plan past xs n t session (Some moment) payload d w k s at j = record {
  staged = (
    ap suc (k.0 ∙ sym (ap (λ (l : List Exchange). length l) k.1)),
    record { payload = payload; first = subst (λ (m : ℕ). IsPayloadAt (stream past) m payload) k.0 at; chosen = j },
    subst (λ (l : List Exchange). AreExchanged c d past l) (sym k.1) tt,
  );
  said_is = s;
  speaks = refl;
  still = tt;
  offers = λ f g. (cc);
  new = λ h. (cc);
}

chosen_tied : (c : Codecs) (plan : CarPlan) (past : List Entry) (xs : List Exchange) (n : ℕ) (t : State) (session : Session) (o : Option CarStage) (payload : List ℕ) (d : Option Dialect) → session.stage ≡ o
    → (o ≡ None → session.moments.sent ≡ None → ⊥) → StageTie c plan past xs n o → SaidTie c plan past n o session.moments.sent → IsPayloadAt (stream past) n payload
    → Judges c plan.dialects.items (dialect_of o) payload (Chosen d) → Tied c plan past xs (suc n) (chosen plan t session d)
chosen_tied c plan past xs n t session o payload None e w k s at j = opens_alone t.live
chosen_tied c plan past xs n t session None payload (Some d) e w k s at j = chosen_link c plan past xs n t session session.moments.sent payload d (w refl) k s at j
chosen_tied c plan past xs n t session (Some stage) payload (Some d) e w k s at j = absurd (no_choice j.0 (Some d) j.2)

judged_tied : (c : Codecs) (plan : CarPlan) (past : List Entry) (steps : List Step) (n : ℕ) (t : State) (session : Session) (payload : List ℕ) (w : Judged) → (session.stage ≡ None → session.moments.sent ≡ None → ⊥)
    → SessionReads plan steps session → StageTie c plan past (exchanges steps) n session.stage → SaidTie c plan past n session.stage session.moments.sent → IsPayloadAt (stream past) n payload
    → Judges c plan.dialects.items (dialect_of session.stage) payload w → Tied c plan past (exchanges (Reads w ∷ steps)) (suc n) (judged plan t session w)
judged_tied c plan past steps n t session payload (Chosen d) u g k s at j = chosen_tied c plan past (exchanges steps) n t session session.stage payload d refl u k s at j
judged_tied c plan past steps n t session payload (Told r) u g k s at j = told_tied c plan past steps n t session session.stage payload r refl g k s at j
judged_tied c plan past steps n t session payload WrongSide u g k s at j = opens_alone t.live
judged_tied c plan past steps n t session payload Refused u g k s at j = opens_alone t.live

-- where a word is read nothing is to be said
pub read_tied : (c : Codecs) (plan : CarPlan) (past : List Entry) (steps : List Step) (n : ℕ) (t : State) (w : Judged) (arrived over : Bool) → ReadsFront c plan t w → Streams arrived (stream past) n over t.session
    → Keeps plan steps t → Settled c plan past (exchanges steps) n t → Tied c plan past (exchanges (Reads w ∷ steps)) (suc n) (read plan t w)
read_tied c plan past steps n t w arrived over f i g k =
    let m : IsEmpty t.agenda = empty t.agenda f.done in
    let l : Link c plan past (exchanges steps) n f.session t.agenda false =
    subst (λ (o : Option Session). TieBy c plan past (exchanges steps) n t.over t.agenda false None o) f.session_is
    (subst (λ (e : Option EndCause). TieBy c plan past (exchanges steps) n t.over t.agenda false e t.session) m.no_cause k.tie) in
    let r : SessionReads plan steps f.session = subst (λ (o : Option Session). Reads_by plan steps t.over o) f.session_is g.reads in
    let own : IsStream arrived (stream past) n f.session.unread = subst (λ (o : Option Session). Streams arrived (stream past) n over o) f.session_is i in
    subst (λ (s : State). Tied c plan past (exchanges (Reads w ∷ steps)) (suc n) s) (sym (session_judged plan t f.session w f.session_is))
    (judged_tied c plan past steps n t f.session (payload_at f.count f.session.unread) w (unoffered f.session t.agenda m.unspoken l.offers) r l.staged l.said_is
    (next_payload (stream past) f.session.unread n f.count own.unread_is f.whole) f.judged)
