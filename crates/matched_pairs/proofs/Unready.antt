-- A step that has to be asked for again wasn't done as the post read the request for it.
use Rattle.std.proofs.Common.{◌≡◌, ℕ, ◌≤◌, Bool, true, false, ◌&&◌, if◌then◌else◌, List, [], Option, Some, None, is_some, unwrap_or, refl, ap, sym, subst, ◌∙◌, arith}
use Rattle.std.specs.Prelude.{MatchBool}
use Rattle.session_words.specs.declared.facts.Facts.{Facts}
use Rattle.session_words.specs.declared.limits.CarLimits.{CarLimits}
use Rattle.session_words.specs.declared.mode.Mode.{Mode}
use Rattle.session_words.specs.declared.plan.CarPlan.{CarPlan}
use Rattle.session_words.specs.declared.plan.PostPlan.{PostPlan}
use Rattle.session_words.specs.declared.word.Ask.{Ask}
use Rattle.session_words.specs.declared.word.Ask.TheVariants as ask
use Rattle.session_rules.specs.declared.stage.Stage.{Stage}
use Rattle.session_rules.specs.Asks.{ask_of, asks, shows_watts}
use Rattle.session_rules.specs.Verdict.{verdict, is_accepted}
use Rattle.post_spec.specs.Codecs as post
use Rattle.post_spec.specs.Steps.{Act, Reading}
use Rattle.station_spec.specs.States.{Session, State}
use Rattle.station_spec.specs.Deciding.{decided}
use Rattle.station_spec.specs.Judging.{Payload, wanted, shows, asked_behind, IsShown, IsRead}
use Rattle.station_spec.specs.Next.{Acts}
use Rattle.station_spec.specs.Sharing.{Shows}
use Rattle.station_laws.proofs.Decided.{same_session, same_facts}
use Rattle.car_rules.specs.declared.stage.CarPhase.{CarPhase}
use Rattle.car_rules.specs.declared.stage.CarPhase.TheVariants as phase
use Rattle.car_rules.specs.declared.stage.CarStage.{CarStage}
use Rattle.car_rules.specs.Moves.{cycles_behind}
use Rattle.car_rules.specs.Replies.{is_ending}
use Rattle.car_rules.specs.Requests as requests
use Rattle.car_spec.specs.Spelled.{dropped_limits, dropped_ask}
use Rattle.pipe_spec.specs.Histories.{Happening, moment, station_has_ended}
use Rattle.pipe_spec.specs.Turns.{Station, station_state}
use Rattle.pipe_laws.proofs.Runs.{GoneBy}
use Rattle.pipe_facts.specs.InTime.{is_told}
use Rattle.pair_words.specs.Exchanges.{Both, Outside, asked, behind}
use Rattle.pair_words.specs.Laws.{IsAnswered, is_repeated}
use Rattle.pair_words.specs.Left.{left_in, left, IsUnready, GoesOn, Again, Further}
use Rattle.pair_words.specs.Meeting.{ArePaired}
use Rattle.pair_readings.proofs.Watts.{some_watts_are_asked, some_watts_are_shown}
use Rattle.matched_pairs.specs.Phases.{exchange}
use Rattle.matched_pairs.specs.Requests.{HasKept}
use Rattle.matched_pairs.specs.Pending.{WasUnready}
use Rattle.matched_pairs.proofs.Rows.{accepts}

some_none : {A : Type 0} (a : A) → Some a ≡ None → ⊥
some_none a e = cc

false_true : false ≡ true → ⊥
false_true e = cc

-- ---- what is asked for again has as much left

pub repeats_is : (p q : CarPhase) → is_repeated p q ≡ true → q ≡ p
repeats_is phase.Authorizing phase.Authorizing e = refl
repeats_is phase.Asking phase.Asking e = refl
repeats_is phase.CableChecking phase.CableChecking e = refl
repeats_is phase.PreCharging phase.PreCharging e = refl
repeats_is p q e = cc

same_cycles : (p q : CarPhase) (n : ℕ) → is_repeated p q ≡ true → cycles_behind p n ≡ n
same_cycles phase.Charging q n e = absurd (false_true e)
same_cycles other q n e = refl

not_ending : (p q : CarPhase) → is_repeated p q ≡ true → is_ending p ≡ false
not_ending phase.Ending q e = absurd (false_true e)
not_ending other q e = refl

unready_by : (post_plan : PostPlan) (plan : CarPlan) (c : CarStage) (x : Outside) (after : CarStage) → GoesOn post_plan plan c x after → after.cycles ≡ cycles_behind c.phase c.cycles
    → is_repeated c.phase after.phase ≡ true → IsUnready post_plan plan c.phase x
unready_by post_plan plan c x after (Again e u) k r = u
unready_by post_plan plan c x after (Further l) k r =
    let same : left plan after ≡ left plan c =
    ap (λ (p : CarPhase). left_in plan p after.cycles) (repeats_is c.phase after.phase r) ∙ ap (λ (n : ℕ). left_in plan c.phase n) (k ∙ same_cycles c.phase after.phase c.cycles r) in
    absurd (omega (arith, l, same))

pub unready : (post_plan : PostPlan) (plan : CarPlan) (b : Both) (x : Outside) → IsAnswered post_plan plan b x → is_repeated b.car.phase (behind post_plan plan b x).car.phase ≡ true
    → IsUnready post_plan plan b.car.phase x
unready post_plan plan b x i r = unready_by post_plan plan b.car x (behind post_plan plan b x).car (i.goes (not_ending b.car.phase (behind post_plan plan b x).car.phase r)) refl r

-- ---- watts are shown to a car that asks with its parameters

shown_if : (b : Bool) (A B : Type 0) → b ≡ true → MatchBool b A B → A
shown_if true A B e m = m
shown_if false A B e m = absurd (false_true e)

shown_of : (o : Option Payload) (c : post.Codecs) (post_plan : PostPlan) (limit : ℕ) (t : State) (r : Reading) → IsRead c post_plan (Shows limit [] []) t o (Some r)
    → IsShown (Shows limit [] []) post_plan t t.session r.judged r.shown
shown_of None c post_plan limit t r i = absurd i
shown_of (Some payload) c post_plan limit t r i = i.1

both_true : (a b : Bool) → a ≡ true → b ≡ true → (a && b) ≡ true
both_true true true e f = refl
both_true a b e f = cc

wants_some : (a : Bool) (w : Ask) (post_plan : PostPlan) (m : Mode) (l : CarLimits) (n : ℕ) → a ≡ true → w ≡ ask.ChargeParameters m l → 1 ≤ ask_of post_plan l
    → 1 ≤ (if a then unwrap_or (asks post_plan w) n else n)
wants_some true w post_plan m l n a e some = subst (λ (x : Ask). 1 ≤ unwrap_or (asks post_plan x) n) (sym e) some
wants_some false w post_plan m l n a e some = absurd (false_true a)

parameters_are : (plan : CarPlan) (b : Both) → b.car.phase ≡ phase.Asking → (asked plan b.car).ask ≡ ask.ChargeParameters plan.mode (dropped_limits (requests.limits_of plan))
parameters_are plan b e = ap (λ (p : CarPhase). dropped_ask (requests.ask_of plan b.car.dialect p)) e

some_shown : (post_plan : PostPlan) (plan : CarPlan) (limit : ℕ) (b : Both) (t : State) (session : Session) (shown : ℕ) → ArePaired post_plan plan → 1 ≤ limit → session.stage ≡ b.post
    → is_accepted (verdict b.post t.facts post_plan (asked plan b.car)) ≡ true → b.car.phase ≡ phase.Asking → IsShown (Shows limit [] []) post_plan t (Some session) (post.Asked (asked plan b.car)) shown → 1 ≤ shown
some_shown post_plan plan limit b t session shown p some stage accepted e i =
    let own : is_accepted (verdict session.stage t.facts post_plan (asked plan b.car)) ≡ true = ap (λ (g : Stage). is_accepted (verdict g t.facts post_plan (asked plan b.car))) stage ∙ accepted in
    let parameters : (asked plan b.car).ask ≡ ask.ChargeParameters plan.mode (dropped_limits (requests.limits_of plan)) = parameters_are plan b e in
    let shows_some : shows session.stage post_plan t (asked plan b.car) ≡ true =
    both_true (is_accepted (verdict session.stage t.facts post_plan (asked plan b.car))) (shows_watts (asked plan b.car).ask) own (ap shows_watts parameters) in
    some_watts_are_shown limit (asked_behind session post_plan t (asked plan b.car)) shown some
    (wants_some (is_accepted (verdict session.stage t.facts post_plan (asked plan b.car))) (asked plan b.car).ask post_plan plan.mode (dropped_limits (requests.limits_of plan)) session.asked own parameters
    (some_watts_are_asked post_plan plan p))
    (shown_if (shows session.stage post_plan t (asked plan b.car)) (Shows limit [] [] (asked_behind session post_plan t (asked plan b.car)) shown) (shown ≡ 0) shows_some i)

-- ---- a request was read

-- a post with a session hasn't ended
pub lives : (cause : Option ℕ) (s : State) (x : Session) → GoneBy cause s → s.session ≡ Some x → is_some cause ≡ false
lives None s x g e = refl
lives (Some n) s x g e = absurd (some_none x (sym e ∙ g.0))

pub was_unready : (c : post.Codecs) (st : Station) (plan : CarPlan) (h : List Happening) (b : Both) (r : Reading) (act : Act) → ArePaired st.post plan → 1 ≤ st.limit → HasKept st.post plan b (station_state st h) r
    → Acts c st.post (Shows st.limit [] []) (station_state st h) (Some r) act true → is_told h ≡ true → station_has_ended h ≡ false
    → is_repeated b.car.phase (behind st.post plan b (exchange (station_state st h).facts (station_state st h).facts r.shown)).car.phase ≡ true → WasUnready st plan h (moment h) b.car.phase
was_unready c st plan h b r act p some k i told ended again =
    let s : State = station_state st h in
    let answered : IsAnswered st.post plan b (exchange s.facts s.facts r.shown) = k.answered in
    let accepted : is_accepted (verdict b.post (decided st.post s).facts st.post (asked plan b.car)) ≡ true =
    ap (λ (f : Facts). is_accepted (verdict b.post f st.post (asked plan b.car))) (same_facts st.post s) ∙ accepts _ answered.accepted in
    let shown : IsShown (Shows st.limit [] []) st.post (decided st.post s) (decided st.post s).session r.judged r.shown = shown_of (wanted (decided st.post s)) c st.post st.limit (decided st.post s) r i.read in
    let own : IsShown (Shows st.limit [] []) st.post (decided st.post s) (Some k.session) r.judged r.shown =
    subst (λ (o : Option Session). IsShown (Shows st.limit [] []) st.post (decided st.post s) o r.judged r.shown) (same_session st.post s ∙ k.session_is) shown in
    record {
      told = told;
      at = refl;
      lives = ended;
      shown = r.shown;
      some = λ e. some_shown st.post plan st.limit b (decided st.post s) k.session r.shown p some k.stage_is accepted e
          (subst (λ (w : post.Judged). IsShown (Shows st.limit [] []) st.post (decided st.post s) (Some k.session) w r.shown) k.judged_is own);
      unready = unready st.post plan b (exchange s.facts s.facts r.shown) answered again;
    }
