-- Step by step the bytes that aren't read stand behind as many frames as words were read, and the moment is kept.
use Rattle.std.proofs.Common.{◌≡◌, ℕ, suc, ◌+◌, Bool, true, false, if◌then◌else◌, List, [], ◌∷◌, ◌++◌, map, Option, Some, None, Ok, refl, sym, ap, subst, ◌∙◌, add-one}
use Rattle.std.specs.Option.{option_map}
use Rattle.charge_world.specs.declared.ports.Order.TheVariants as order
use Rattle.session_words.specs.declared.plan.PostPlan.{PostPlan}
use Rattle.v2gtp_frames.specs.Reading.{whole_at, behind_front, behind_frames}
use Rattle.session_rules.specs.Stages.{is_set_up}
use Rattle.post_spec.specs.Causes.{is_set_up_in}
use Rattle.post_spec.specs.Codecs.{Judged, Negotiated, Asked, WrongSide, Refused, Codecs}
use Rattle.post_spec.specs.Course.{Talked, course}
use Rattle.post_spec.specs.Facts.{now}
use Rattle.post_spec.specs.Sessions.{arriving, session_behind, session, with_seen, stream, brought}
use Rattle.post_spec.specs.Steps.{Event, Act, Give, Send, Answer, End, Seen, Heard, Did, Reading, Step, Hears, Does, seen_of}
use Rattle.station_spec.specs.States.{Session, State}
use Rattle.station_spec.specs.Deciding.{decided}
use Rattle.station_spec.specs.Judging.{Payload, judged, taken_in, read, filled, wanted, IsRead}
use Rattle.station_spec.specs.Hearing.{with_bytes, session_opened}
use Rattle.station_spec.specs.Acting.{since_order, replied, state}
use Rattle.station_spec.specs.Sharing.{Shows}
use Rattle.station_laws.specs.PostRuns.{IsPostRun}
use Rattle.station_laws.proofs.Decided.{same_session}
use Rattle.safe_runs.proofs.Growth.{AreWhole, grown}
use Rattle.read_runs.specs.Courses.{talked_in}
use Rattle.read_runs.proofs.Agendas.{WantedIn, wanted_in}
use Rattle.read_runs.proofs.Arrivals.{Arrives, steps_arrive}
use Rattle.read_runs.proofs.Courses.{courses_are_read}
use Rattle.read_runs.proofs.Facts.{Hearing, steps_clock, filled_hearing}
use Rattle.read_sessions.proofs.Starts.{row_set_up}
use Rattle.read_streams.specs.Streams.{unless_opened, one_more, read_so_far, counting_from, IsStreamOf, StreamsAreRead}

-- so many frames of the stream were read, each of them whole, and the deadline counts from this moment
pub record Keeps (n from : ℕ) (bytes : List ℕ) (ss : Session) : Type 0 where
  pub whole : AreWhole n bytes
  pub unread_is : ss.unread ≡ behind_frames n bytes
  pub since_is : ss.since ≡ from

abbrev Kept : ℕ → ℕ → Option (List Seen) → Option Session → Type 0
Kept n from None None = Unit {0}
Kept n from None (Some ss) = ⊥
Kept n from (Some es) None = ⊥
Kept n from (Some es) (Some ss) = Keeps n from (stream es) ss

-- A hearing.

keeps_more : (n from : ℕ) (bytes more : List ℕ) (ss : Session) → Keeps n from bytes ss → Keeps n from (bytes ++ more) (with_bytes more ss)
keeps_more n from bytes more ss k =
    let g = grown n bytes more k.whole in
    record { whole = g.whole; unread_is = ap (λ (xs : List ℕ). xs ++ more) k.unread_is ∙ sym g.behind; since_is = k.since_is }

heard_kept : (at clock : ℕ) (e : Event) (arrived : Option ℕ) (o : Option Seen) (es : Option (List Seen)) (kept : Option Session) (n from : ℕ) → Arrives arrived o clock → Kept n from es kept
    → Kept (unless_opened o 0 n) (unless_opened o clock from) (with_seen (Heard at e) (session_behind o es)) (option_map (with_bytes (brought e)) (session_opened arrived clock kept))
heard_kept at clock e None None None None n from a k = tt
heard_kept at clock e None None None (Some ss) n from a k = k
heard_kept at clock e None None (Some es) None n from a k = k
heard_kept at clock e None None (Some es) (Some ss) n from a k = keeps_more n from (stream es) (brought e) ss k
heard_kept at clock e None (Some came) es kept n from a k = absurd a
heard_kept at clock e (Some token) None es kept n from a k = absurd a
heard_kept at clock e (Some token) (Some came) es kept n from a k =
    subst (λ (x : Seen). Kept 0 clock (Some (Heard at e ∷ x ∷ [])) (option_map (with_bytes (brought e)) (session_opened (Some token) clock kept))) (sym a) (record { whole = tt; unread_is = refl; since_is = refl })

-- A word.

judged_kept : (plan : PostPlan) (s : State) (ss : Session) (x : Judged) (shown n from len : ℕ) (es : List Seen) → whole_at ss.unread ≡ Ok (Some len) → Keeps n from (stream es) ss → Kept (suc n) from (Some es) (judged plan s ss x shown).session
judged_kept plan s ss (Negotiated chosen response) shown n from len es w k = record { whole = (k.whole, (len, sym (ap whole_at k.unread_is) ∙ w)); unread_is = ap behind_front k.unread_is; since_is = k.since_is }
judged_kept plan s ss (Asked r) shown n from len es w k = record { whole = (k.whole, (len, sym (ap whole_at k.unread_is) ∙ w)); unread_is = ap behind_front k.unread_is; since_is = k.since_is }
judged_kept plan s ss WrongSide shown n from len es w k = record { whole = (k.whole, (len, sym (ap whole_at k.unread_is) ∙ w)); unread_is = ap behind_front k.unread_is; since_is = k.since_is }
judged_kept plan s ss Refused shown n from len es w k = record { whole = (k.whole, (len, sym (ap whole_at k.unread_is) ∙ w)); unread_is = ap behind_front k.unread_is; since_is = k.since_is }

taken_kept : (plan : PostPlan) (s : State) (lives : Option (List Seen)) (kept : Option Session) (r : Reading) (p : Payload) (n from : ℕ) → WantedIn s kept p → Kept n from lives kept → Kept (n + 1) from lives (taken_in plan s kept r).session
taken_kept plan s lives None r p n from i k = absurd i
taken_kept plan s None (Some ss) r p n from i k = absurd k
taken_kept plan s (Some es) (Some ss) r p n from i k = subst (λ (m : ℕ). Kept m from (Some es) (judged plan s ss r.judged r.shown).session) (sym (add-one n)) (judged_kept plan s ss r.judged r.shown n from i.0 es i.1.front k)

read_kept : (c : Codecs) (plan : PostPlan) (S : ℕ → ℕ → Type 0) (s : State) (lives : Option (List Seen)) (w : Option Payload) (r : Option Reading) (n from : ℕ) → wanted s ≡ w → IsRead c plan S s w r → Kept n from lives s.session → Kept (one_more r n) from lives (read plan s r).session
read_kept c plan S s lives w None n from e i k = k
read_kept c plan S s lives None (Some r) n from e i k = absurd i
read_kept c plan S s lives (Some p) (Some r) n from e i k = taken_kept plan s lives s.session r p n from (wanted_in s p e) k

-- An act.

keeps_since : (n from later : ℕ) (x : Seen) (f : Session → Session) (lives : Option (List Seen)) (kept : Option Session) → ((es : List Seen) → stream (x ∷ es) ≡ stream es) → ((ss : Session) → (f ss).unread ≡ ss.unread) → ((ss : Session) → kept ≡ Some ss → ss.since ≡ from → (f ss).since ≡ later)
    → Kept n from lives kept → Kept n later (with_seen x lives) (option_map f kept)
keeps_since n from later x f None None a b g k = tt
keeps_since n from later x f None (Some ss) a b g k = k
keeps_since n from later x f (Some es) None a b g k = k
keeps_since n from later x f (Some es) (Some ss) a b g k =
    subst (λ (bytes : List ℕ). Keeps n later bytes (f ss)) (sym (a es)) (record { whole = k.whole; unread_is = b ss ∙ k.unread_is; since_is = g ss refl k.since_is })

same_map : (kept : Option Session) → option_map (λ (ss : Session). ss) kept ≡ kept
same_map None = refl
same_map (Some ss) = refl

keeps_still : (n from : ℕ) (x : Seen) (lives : Option (List Seen)) (kept : Option Session) → ((es : List Seen) → stream (x ∷ es) ≡ stream es) → Kept n from lives kept → Kept n from (with_seen x lives) kept
keeps_still n from x lives kept a k =
    subst (λ (o : Option Session). Kept n from (with_seen x lives) o) (same_map kept) (keeps_since n from from x (λ (ss : Session). ss) lives kept a (λ ss. refl) (λ ss e h. h) k)

since_if : (b c : Bool) (at since from : ℕ) → b ≡ c → since ≡ from → (if b then at else since) ≡ (if c then at else from)
since_if b c at since from e h = ap (λ (x : Bool). if x then at else since) e ∙ ap (λ (n : ℕ). if c then at else n) h

-- SessionSetup was accepted, before its reply and behind it
set_up_behind : (o : Option Talked) (clock : ℕ) (kept : Option Session) (ss : Session) → kept ≡ Some ss → talked_in (option_map (replied clock) kept) ≡ o → is_set_up ss.stage.row ≡ is_set_up_in o
set_up_behind o clock None ss k e = cc
set_up_behind o clock (Some us) ss k e =
    let same : us ≡ ss = cc in
    sym (ap (λ (x : Session). is_set_up x.stage.row) same) ∙ sym (row_set_up us.stage.row) ∙ ap is_set_up_in e

acted_kept : (c : Codecs) (plan : PostPlan) (r : Option Reading) (a : Act) (taken : Bool) (steps : List Step) (n from : ℕ) → IsPostRun c plan (Does r a taken ∷ steps) → (filled plan r (state plan steps)).clock ≡ now (map seen_of steps) → from ≡ counting_from plan steps
    → Kept n from (session (map seen_of steps)) (filled plan r (state plan steps)).session → Kept n (counting_from plan (Does r a taken ∷ steps)) (session (map seen_of (Does r a taken ∷ steps))) (state plan (Does r a taken ∷ steps)).session
acted_kept c plan r (Give order.Open) true steps n from run clock e k =
    keeps_since n from (counting_from plan steps) (Did (Give order.Open) true) (since_order (filled plan r (state plan steps)).clock order.Open) (session (map seen_of steps)) (filled plan r (state plan steps)).session (λ es. refl) (λ ss. refl) (λ ss q h. h ∙ e) k
acted_kept c plan r (Give order.Close) true steps n from run clock e k =
    keeps_since n from (now (map seen_of steps)) (Did (Give order.Close) true) (since_order (filled plan r (state plan steps)).clock order.Close) (session (map seen_of steps)) (filled plan r (state plan steps)).session (λ es. refl) (λ ss. refl) (λ ss q h. clock) k
acted_kept c plan r (Give (order.Limits voltage current watts)) true steps n from run clock e k =
    keeps_since n from (counting_from plan steps) (Did (Give (order.Limits voltage current watts)) true) (since_order (filled plan r (state plan steps)).clock (order.Limits voltage current watts)) (session (map seen_of steps)) (filled plan r (state plan steps)).session (λ es. refl) (λ ss. refl)
    (λ ss q h. h ∙ e) k
acted_kept c plan r (Give order.Open) false steps n from run clock e k = subst (λ (m : ℕ). Kept n m (with_seen (Did (Give order.Open) false) (session (map seen_of steps))) (filled plan r (state plan steps)).session) e (keeps_still n from (Did (Give order.Open) false) (session (map seen_of steps)) (filled plan r (state plan steps)).session (λ es. refl) k)
acted_kept c plan r (Give order.Close) false steps n from run clock e k = subst (λ (m : ℕ). Kept n m (with_seen (Did (Give order.Close) false) (session (map seen_of steps))) (filled plan r (state plan steps)).session) e (keeps_still n from (Did (Give order.Close) false) (session (map seen_of steps)) (filled plan r (state plan steps)).session (λ es. refl) k)
acted_kept c plan r (Give (order.Limits voltage current watts)) false steps n from run clock e k =
    subst (λ (m : ℕ). Kept n m (with_seen (Did (Give (order.Limits voltage current watts)) false) (session (map seen_of steps))) (filled plan r (state plan steps)).session) e (keeps_still n from (Did (Give (order.Limits voltage current watts)) false) (session (map seen_of steps)) (filled plan r (state plan steps)).session (λ es. refl) k)
acted_kept c plan r (Send bytes) true steps n from run clock e k =
    let f = filled plan r (state plan steps) in
    let led = (courses_are_read c plan (Does r (Send bytes) true ∷ steps) run).session_is in
    keeps_since n from (counting_from plan (Does r (Send bytes) true ∷ steps)) (Did (Send bytes) true) (replied (filled plan r (state plan steps)).clock) (session (map seen_of steps)) (filled plan r (state plan steps)).session (λ es. refl) (λ ss. refl)
    (λ ss q h.
    let set = set_up_behind (course plan (Does r (Send bytes) true ∷ steps)).session (filled plan r (state plan steps)).clock (filled plan r (state plan steps)).session ss q led in
    since_if (is_set_up ss.stage.row) (is_set_up_in (course plan (Does r (Send bytes) true ∷ steps)).session) (filled plan r (state plan steps)).clock ss.since (counting_from plan steps) set (h ∙ e)
    ∙ ap (λ (m : ℕ). if is_set_up_in (course plan (Does r (Send bytes) true ∷ steps)).session then m else counting_from plan steps) clock)
    k
acted_kept c plan r (Send bytes) false steps n from run clock e k = subst (λ (m : ℕ). Kept n m (with_seen (Did (Send bytes) false) (session (map seen_of steps))) (filled plan r (state plan steps)).session) e (keeps_still n from (Did (Send bytes) false) (session (map seen_of steps)) (filled plan r (state plan steps)).session (λ es. refl) k)
acted_kept c plan r (Answer bytes) taken steps n from run clock e k = subst (λ (m : ℕ). Kept n m (with_seen (Did (Answer bytes) taken) (session (map seen_of steps))) (filled plan r (state plan steps)).session) e (keeps_still n from (Did (Answer bytes) taken) (session (map seen_of steps)) (filled plan r (state plan steps)).session (λ es. refl) k)
acted_kept c plan r (End cause) taken steps n from run clock e k = tt

steps_kept : (c : Codecs) (plan : PostPlan) (steps : List Step) → IsPostRun c plan steps → Kept (read_so_far steps) (counting_from plan steps) (session (map seen_of steps)) (state plan steps).session
steps_kept c plan [] run = tt
steps_kept c plan (Hears at e ∷ steps) (run, quiet) =
    let past = map seen_of steps in
    let s = state plan steps in
    let clock = steps_clock plan steps in
    let arrives = subst (Arrives (state plan steps).arrived (arriving (map seen_of steps))) (sym (steps_clock plan steps)) (steps_arrive plan steps) in
    subst (λ (m : ℕ). Kept (unless_opened (arriving (map seen_of steps)) 0 (read_so_far steps)) (unless_opened (arriving (map seen_of steps)) m (counting_from plan steps)) (session (map seen_of (Hears at e ∷ steps))) (state plan (Hears at e ∷ steps)).session) (steps_clock plan steps)
    (heard_kept at (state plan steps).clock e (state plan steps).arrived (arriving (map seen_of steps)) (session (map seen_of steps)) (state plan steps).session (read_so_far steps) (counting_from plan steps) arrives (steps_kept c plan steps run))
steps_kept c plan (Does r a taken ∷ steps) (run, (limit, before, behind, acts)) =
    let s = state plan steps in
    let clock : (filled plan r (state plan steps)).clock ≡ now (map seen_of steps) = ap (λ (h : Hearing). h.clock) (filled_hearing plan r (state plan steps)) ∙ steps_clock plan steps in
    let here = subst (λ (o : Option Session). Kept (read_so_far steps) (counting_from plan steps) (session (map seen_of steps)) o) (sym (same_session plan (state plan steps))) (steps_kept c plan steps run) in
    let k = read_kept c plan (Shows limit before behind) (decided plan (state plan steps)) (session (map seen_of steps)) (wanted (decided plan (state plan steps))) r (read_so_far steps) (counting_from plan steps) refl acts.read here in
    acted_kept c plan r a taken steps (one_more r (read_so_far steps)) (counting_from plan steps) (run, (limit, before, behind, acts)) clock refl k

stream_of : (plan : PostPlan) (steps : List Step) (lives : Option (List Seen)) (kept : Option Session) → Kept (read_so_far steps) (counting_from plan steps) lives kept → IsStreamOf plan steps lives kept
stream_of plan steps None None k = tt
stream_of plan steps None (Some ss) k = k
stream_of plan steps (Some es) None k = k
stream_of plan steps (Some es) (Some ss) k = record { unread_is = k.unread_is; since_is = k.since_is }

pub streams_are_read : (c : Codecs) → StreamsAreRead c
streams_are_read c plan steps run = stream_of plan steps (session (map seen_of steps)) (state plan steps).session (steps_kept c plan steps run)
