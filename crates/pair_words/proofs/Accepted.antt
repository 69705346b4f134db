-- What an accepted request leads to, and when a reply is no cause.
use Rattle.std.proofs.Common.{◌≡◌, ℕ, Bool, true, false, not, ◌&&◌, if◌then◌else◌, List, [], ◌∷◌, Option, Some, None, unwrap_or, refl, sym, ap, subst, ◌∙◌}
use Rattle.std.proofs.lemmas.Slice.Eq.{bytes_eq-Decides}
use Rattle.session_words.specs.declared.code.Code.{Code}
use Rattle.session_words.specs.declared.facts.Facts.{Facts}
use Rattle.session_words.specs.declared.plan.CarPlan.{CarPlan}
use Rattle.session_words.specs.declared.plan.PostPlan.{PostPlan}
use Rattle.session_words.specs.declared.session.SessionId.{SessionId}
use Rattle.session_words.specs.declared.word.Reply.{Reply}
use Rattle.session_words.specs.declared.word.Request.{Request}
use Rattle.session_words.specs.declared.word.Tell.{Tell}
use Rattle.session_words.specs.Codes.{IsOkClass}
use Rattle.session_rules.specs.declared.stage.Stage.{Stage}
use Rattle.session_rules.specs.Causes.{found_by, word_cause}
use Rattle.session_rules.specs.Lines.{Line, first_line, none_applies}
use Rattle.session_rules.specs.Moves.{moved, stage_behind}
use Rattle.session_rules.specs.Reply.{tell_of, waiting_reply}
use Rattle.session_rules.specs.Stages.{is_same, is_waiting, confirmed, identifier}
use Rattle.session_rules.specs.Verdict.{verdict, verdict_lines, accepting_code, is_accepted}
use Rattle.session_rules.proofs.VerdictLemmas.{accepts_without_line}
use Rattle.post_spec.specs.Spelled.{read_back}
use Rattle.car_rules.specs.declared.stage.CarStage.{CarStage}
use Rattle.car_rules.specs.Moves as car
use Rattle.car_rules.specs.Replies.{answers, is_misnamed, is_ending, lacks_mode, reply_cause, stop_cause}
use Rattle.car_rules.specs.Requests.{ask_of}
use Rattle.conforming_runs.specs.Requests.{IsConforming}
use Rattle.conforming_runs.proofs.Accepted.{requests_are_accepted}
use Rattle.pair_words.specs.Exchanges.{Both, Outside, asked}
use Rattle.pair_words.specs.Meeting.{Meets}
use Rattle.pair_words.specs.Left.{GoesOn}
use Rattle.pair_words.specs.Laws.{end_of, IsAnswered}

-- ---- the verdict

first_if : (b none : Bool) (gives rest : Option Code) → (not b && none) ≡ true → (none ≡ true → rest ≡ None) → (if b then gives else rest) ≡ None
first_if true none gives rest e k = cc
first_if false none gives rest e k = k e

first_none : (lines : List (Line (Option Code))) → none_applies lines ≡ true → first_line lines None ≡ None
first_none [] e = refl
first_none (l ∷ lines) e = first_if l.applies (none_applies lines) l.gives (first_line lines None) e (λ k. first_none lines k)

verdict_is : (s : Stage) (facts : Facts) (post : PostPlan) (r : Request) → IsConforming s facts post r → verdict s facts post r ≡ accepting_code s facts r.session r.ask
verdict_is s facts post r i =
    let none : none_applies (verdict_lines s facts post r) ≡ true = sym (accepts_without_line s facts post r) ∙ requests_are_accepted s facts post r i in
    ap (λ (o : Option Code). unwrap_or o (accepting_code s facts r.session r.ask)) (first_none (verdict_lines s facts post r) none)

moves : (b : Bool) (s m : Stage) → b ≡ true → (if b then m else s) ≡ m
moves true s m e = refl
moves false s m e = cc

stage_is : (s : Stage) (facts : Facts) (post : PostPlan) (r : Request) (shown : ℕ) → IsConforming s facts post r → stage_behind s facts post r shown ≡ moved s facts post r shown
stage_is s facts post r shown i = moves (is_accepted (verdict s facts post r)) s (moved s facts post r shown) (requests_are_accepted s facts post r i)

-- ---- an exchange, by what the post keeps behind it and by the code

abbrev pub heard_with : PostPlan → Outside → Stage → Code → Tell → Reply
heard_with post x st k t = read_back (
    if is_waiting st.row then waiting_reply st x.later post else record { session = identifier st; code = k; tell = t })

pub record IsGood (post : PostPlan) (plan : CarPlan) (b : Both) (x : Outside) (st : Stage) (k : Code) (t : Tell) : Type 0 where
  pub accepted : IsOkClass k
  pub post_ends : word_cause false (found_by k (asked plan b.car).ask) ≡ end_of b.car.phase
  pub code : IsOkClass (heard_with post x st k t).code
  pub car_ends : reply_cause plan b.car true (heard_with post x st k t) ≡ end_of b.car.phase
  pub meets : Meets post (record { post = confirmed st; car = car.stage_behind plan b.car (heard_with post x st k t) x.stop })
  pub goes : is_ending b.car.phase ≡ false → GoesOn post plan b.car x (car.stage_behind plan b.car (heard_with post x st k t) x.stop)

-- that of an accepted request
abbrev pub told : PostPlan → CarPlan → Both → Outside → Code → Tell
told post plan b x k = tell_of b.post x.facts post k x.shown (asked plan b.car).ask

abbrev pub code_of : CarPlan → Both → Outside → Code
code_of plan b x = accepting_code b.post x.facts (asked plan b.car).session (asked plan b.car).ask

abbrev pub IsWell : PostPlan → CarPlan → Both → Outside → Type 0
IsWell post plan b x = IsGood post plan b x (moved b.post x.facts post (asked plan b.car) x.shown) (code_of plan b x) (told post plan b x (code_of plan b x))

pub answered : (post : PostPlan) (plan : CarPlan) (b : Both) (x : Outside) → IsConforming b.post x.facts post (asked plan b.car) → IsWell post plan b x → IsAnswered post plan b x
answered post plan b x i w =
    let stage : stage_behind b.post x.facts post (asked plan b.car) x.shown ≡ moved b.post x.facts post (asked plan b.car) x.shown = stage_is b.post x.facts post (asked plan b.car) x.shown i in
    let code : verdict b.post x.facts post (asked plan b.car) ≡ code_of plan b x = verdict_is b.post x.facts post (asked plan b.car) i in
    let v : IsGood post plan b x (stage_behind b.post x.facts post (asked plan b.car) x.shown) (code_of plan b x) (told post plan b x (code_of plan b x)) =
    subst (λ (z : Stage). IsGood post plan b x z (code_of plan b x) (told post plan b x (code_of plan b x))) (sym stage) w in
    let g : IsGood post plan b x (stage_behind b.post x.facts post (asked plan b.car) x.shown) (verdict b.post x.facts post (asked plan b.car)) (told post plan b x (verdict b.post x.facts post (asked plan b.car))) =
    subst (λ (k : Code). IsGood post plan b x (stage_behind b.post x.facts post (asked plan b.car) x.shown) k (told post plan b x k)) (sym code) v in
    record { accepted = g.accepted; post_ends = g.post_ends; code = g.code; car_ends = g.car_ends; meets = g.meets; goes = g.goes }

-- ---- the reply at the car

pub same_id : (id : SessionId) → is_same id id ≡ true
same_id id = (bytes_eq-Decides id.bytes.items id.bytes.items).1 refl

pub no_cause : (plan : CarPlan) (c : CarStage) (r : Reply) → answers (ask_of plan c.dialect c.phase) r.tell ≡ true → is_misnamed c r.session ≡ false → is_accepted r.code ≡ true
    → lacks_mode plan.mode r.tell ≡ false → is_ending c.phase ≡ false → reply_cause plan c true r ≡ None
no_cause plan c r a m k l e = rw (a, m, k, l, e) refl

pub stop_is_cause : (plan : CarPlan) (c : CarStage) (r : Reply) → answers (ask_of plan c.dialect c.phase) r.tell ≡ true → is_misnamed c r.session ≡ false → is_accepted r.code ≡ true
    → lacks_mode plan.mode r.tell ≡ false → is_ending c.phase ≡ true → reply_cause plan c true r ≡ Some (stop_cause plan c.dialect)
stop_is_cause plan c r a m k l e = rw (a, m, k, l, e) refl
