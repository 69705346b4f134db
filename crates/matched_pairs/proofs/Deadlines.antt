-- With moments that are past by little, no deadline but that of a step is reached.
use Rattle.std.proofs.Common.{◌≡◌, ℕ, ◌+◌, ◌<◌, ◌≤◌, nat_le, nat_lt, Bool, true, false, not, ◌&&◌, if◌then◌else◌, List, [], ◌∷◌, ◌++◌, Option, Some, None, refl, ap, sym, subst, ◌∙◌, arith}
use Rattle.std.proofs.lemmas.Bool.Decides.{nat_tests}
use Rattle.std.specs.List.{AllByRecursion}
use Rattle.std.specs.Option.{option_map}
use Rattle.session_words.specs.declared.cause.EndCause.{EndCause}
use Rattle.session_words.specs.declared.cause.EndCause.TheVariants as cause
use Rattle.session_words.specs.declared.cause.Timeout.{Timeout}
use Rattle.session_words.specs.declared.cause.Timeout.TheVariants as timeout
use Rattle.session_words.specs.declared.plan.CarPlan.{CarPlan}
use Rattle.session_words.specs.declared.word.Ask.{Ask}
use Rattle.session_words.specs.declared.word.Ask.TheVariants as ask
use Rattle.session_words.specs.Causes.{cause_of}
use Rattle.session_timers.specs.Due.{never}
use Rattle.session_timers.specs.Law.{span_of}
use Rattle.session_rules.specs.Deadlines.{timeout_of}
use Rattle.post_spec.specs.Codecs as post
use Rattle.post_spec.specs.Steps.{Event, Bytes, Clock}
use Rattle.station_spec.specs.States.{Session, State, nothing}
use Rattle.station_spec.specs.Deciding.{ending_by, timing}
use Rattle.station_spec.specs.Hearing.{session_opened, with_bytes}
use Rattle.car_rules.specs.declared.deadlines.CarDue.{CarDue}
use Rattle.car_rules.specs.declared.stage.CarStage.{CarStage}
use Rattle.car_rules.specs.Deadlines as rule
use Rattle.car_rules.specs.Requests.{ask_of}
use Rattle.car_rules.specs.Searching.{search_due}
use Rattle.car_spec.specs.Codecs as car
use Rattle.car_spec.specs.States as car_states
use Rattle.car_spec.specs.Deciding as car_deciding
use Rattle.car_spec.specs.Hearing as car_hearing
use Rattle.car_spec.specs.Due.{session_deadlines}
use Rattle.pipe_spec.specs.Histories.{Happening, CarComes, ChargerTells, StationHears, CarHears, TimePasses, StationDoes, CarReads, CarDoes, CarGoes, NumberIsDrawn, moment, joined}
use Rattle.pipe_spec.specs.Turns.{Station, station_state, car_state}
use Rattle.pipe_spec.specs.Runs.{IsRun, IsWithin}
use Rattle.pipe_laws.specs.OneMessage.{IsShort}
use Rattle.matched_pairs.specs.Moves.{IsPair}
use Rattle.matched_pairs.specs.Limits.{IsCarInTime}
use Rattle.matched_pairs.specs.Power.{KeepsTime, AllKeepTime}
use Rattle.matched_pairs.proofs.Timely.{timely_sessions_end}
use Rattle.matched_pairs.specs.Clocks.{ShowMoment}
use Rattle.matched_pairs.proofs.Clocks.{clocks}
use Rattle.matched_pairs.specs.Paces.{IsSoonBehind, IsFresh, IsFreshIn, IsSetUpAtOnce, KeepsPace}
use Rattle.matched_pairs.specs.Steps.{step_deadline, IsStepInTime, KeepsSteps, AllKeepSteps, DeadlinesAreKept, SteadySessionsEnd}
use Rattle.matched_pairs.proofs.Since.{hears_since}
use Rattle.matched_pairs.proofs.Paces.{front, holds_in, keeps}

-- ---- the post

-- a hearing comes within ten milliseconds
abbrev pub IsNear : ℕ → Option Session → Type 0
IsNear now None = Unit {0}
IsNear now (Some x) = now ≤ x.since + 1020

span_long : (t : Timeout) → 3000 ≤ span_of t
span_long timeout.Setup = omega arith
span_long timeout.Sequence = omega arith
span_long timeout.Feedback = omega arith

post_late : (now since span : ℕ) → now ≤ since + 1020 → 3000 ≤ span → (nat_le (since + span) now && nat_lt (since + span) never) ≡ false
post_late now since span l s = grind (arith, nat_tests)

times_not : (b : Bool) (why : EndCause) (live : Bool) → b ≡ false → (if b then ending_by why live else nothing) ≡ nothing
times_not b why live e = ap (λ (x : Bool). if x then ending_by why live else nothing) e

in_time : (o : Option Session) (now : ℕ) (live : Bool) → IsNear now o → timing o now live ≡ nothing
in_time None now live n = refl
in_time (Some x) now live n = times_not _ (cause_of (timeout_of x.stage.row)) live (post_late now x.since (span_of (timeout_of x.stage.row)) n (span_long (timeout_of x.stage.row)))

near_now : (now since : ℕ) → now ≤ since + 1010 → now ≤ since + 1020
near_now now since l = omega (arith, l)

near_later : (now since : ℕ) → now ≤ since + 1010 → now + 10 ≤ since + 1020
near_later now since l = omega (arith, l)

is_near : (now : ℕ) (o : Option Session) → IsSoonBehind now o → IsNear now o
is_near now None k = tt
is_near now (Some x) k = near_now now x.since k.1

is_near_later : (now : ℕ) (o : Option Session) → IsSoonBehind now o → IsNear (now + 10) o
is_near_later now None k = tt
is_near_later now (Some x) k = near_later now x.since k.1

-- ---- the car

abbrev pub IsAhead : Option CarDue → ℕ → Type 0
IsAhead None now = Unit {0}
IsAhead (Some d) now = rule.is_reached d.moment now ≡ false

pub hits_later : (o : Option CarDue) (now : ℕ) (later : Option EndCause) → IsAhead o now → rule.hit_by o now later ≡ later
hits_later None now later a = refl
hits_later (Some d) now later a = ap (λ (b : Bool). if b then Some d.cause else later) a

ahead : (now moment : ℕ) → now < moment → nat_le moment now ≡ false
ahead now moment l = grind (arith, nat_tests)

due_if : (b : Bool) (why : EndCause) (at now : ℕ) → now < at → IsAhead (option_map (λ moment. record { cause = why; moment = moment }) (if b then Some at else None)) now
due_if true why at now l = ahead now at l
due_if false why at now l = tt

pub due_ahead : (why : EndCause) (at span now : ℕ) → now < at + span → IsAhead (rule.due why at span) now
due_ahead why at span now l = due_if (nat_le (at + span) never) why (at + span) now l

-- that of the connection
abbrev pub IsSoonSetUp : Bool → ℕ → Type 0
IsSoonSetUp awaits now = awaits ≡ true → now ≤ 10

soon_enough : (now came : ℕ) → now ≤ 10 → now < came + 20000
soon_enough now came l = omega (arith, l)

setup_if : (b : Bool) (came now : ℕ) → IsSoonSetUp b now → IsAhead (if b then rule.due cause.SetupTimeout came 20000 else None) now
setup_if true came now s = due_ahead cause.SetupTimeout came 20000 now (soon_enough now came (s refl))
setup_if false came now s = tt

-- that of a reply
span_least : (a : Ask) → 250 ≤ rule.message_span a
span_least (ask.PowerDelivery progress tuple profile) = omega arith
span_least (ask.CurrentDemand ready soc voltage current) = omega arith
span_least other = omega arith

reply_span : (plan : CarPlan) (o : Option CarStage) → 250 ≤ rule.span_in plan o
reply_span plan None = omega arith
reply_span plan (Some s) = span_least (ask_of plan s.dialect s.phase)

abbrev pub IsSoonAsked : ℕ → Option ℕ → Type 0
IsSoonAsked now None = Unit {0}
IsSoonAsked now (Some at) = now ≤ at + 70

before_reply : (now at span : ℕ) → now ≤ at + 70 → 250 ≤ span → now < at + span
before_reply now at span l s = omega (arith, l, s)

message_ahead : (sent : Option ℕ) (plan : CarPlan) (stage : Option CarStage) (now : ℕ) → IsSoonAsked now sent → IsAhead (rule.message_due plan stage sent) now
message_ahead None plan stage now s = tt
message_ahead (Some at) plan stage now s =
    due_ahead cause.MessageTimeout at (rule.span_in plan stage) now (before_reply now at (rule.span_in plan stage) s (reply_span plan stage))

-- it looks for no post
searches_not : (plan : CarPlan) (k : car_states.State) → plan.sdp ≡ 0 → search_due plan k.search ≡ None
searches_not plan k e =
    ap (λ (n : ℕ). if (nat_lt 0 n && not k.search.dialed) && not (nat_lt k.search.asked 50) then rule.due cause.NoOffer k.search.last 250 else None) e

abbrev pub IsSoonIn : ℕ → Option car_states.Session → Type 0
IsSoonIn now None = Unit {0}
IsSoonIn now (Some y) = IsSoonSetUp (rule.awaits_setup y.stage) now × IsSoonAsked now y.moments.sent

hit_none : (o : Option car_states.Session) (plan : CarPlan) (now : ℕ) (search : Option CarDue) → search ≡ None → IsSoonIn now o → rule.hit (step_deadline o ∷ []) now ≡ None
    → rule.hit (session_deadlines plan o ++ search ∷ []) now ≡ None
hit_none None plan now search e s step = ap (λ (d : Option CarDue). rule.hit_by d now None) e
hit_none (Some y) plan now search e s step =
    hits_later (rule.setup_due y.stage y.moments.came) now _ (setup_if (rule.awaits_setup y.stage) y.moments.came now s.0)
    ∙ hits_later (rule.message_due plan y.stage y.moments.sent) now _ (message_ahead y.moments.sent plan y.stage now s.1)
    ∙ ap (λ (d : Option CarDue). rule.hit_by (rule.step_due y.stage y.moments.begun) now (rule.hit_by d now None)) e
    ∙ step

car_in_time : (plan : CarPlan) (k : car_states.State) → plan.sdp ≡ 0 → IsSoonIn k.clock k.session → IsStepInTime k → IsCarInTime plan k
car_in_time plan k joined s step =
    ap (λ (o : Option EndCause). car_deciding.ending_if o k.live) (hit_none k.session plan k.clock (search_due plan k.search) (searches_not plan k joined) s step)

-- ---- a hearing of the car

abbrev pub IsSoonAfter : ℕ → ℕ → Type 0
IsSoonAfter now later = (now ≤ later) × (later ≤ now + 10)

zero_soon : (now later : ℕ) → now ≡ 0 → later ≤ now + 10 → later ≤ 10
zero_soon now later e l = omega (arith, e, l)

sixty_soon : (now later at : ℕ) → now ≤ at + 60 → later ≤ now + 10 → later ≤ at + 70
sixty_soon now later at s l = omega (arith, s, l)

asked_soon : (sent : Option ℕ) (now later : ℕ) → later ≤ now + 10 → IsFresh now sent → IsSoonAsked later sent
asked_soon None now later l s = tt
asked_soon (Some at) now later l s = sixty_soon now later at s l

heard_soon : (event : Event) (at now : ℕ) (o : Option car_states.Session) → car_hearing.session_heard event at None ≡ None → at ≤ now + 10 → IsFreshIn now o → IsSetUpAtOnce now o → IsSoonIn at (car_hearing.session_heard event at o)
heard_soon event at now None n l f s = subst (IsSoonIn at) (sym n) tt
heard_soon event at now (Some y) n l f s = (λ e. zero_soon now at (s e) l, asked_soon y.moments.sent now at l f)

-- ---- each happening

same_moment : (now : ℕ) → now ≤ now + 10
same_moment now = omega arith

ten_later : (now : ℕ) → now + 10 ≤ now + 10
ten_later now = omega arith

near_opened : (arrived : Option ℕ) (o : Option Session) (clock now : ℕ) → clock ≡ now → IsSoonBehind now o → IsNear (now + 10) (option_map (with_bytes []) (session_opened arrived clock o))
near_opened arrived o clock now e k = is_near_later now (option_map (with_bytes []) (session_opened arrived clock o)) (hears_since arrived o clock now [] e k)

step : (e : Happening) (c : post.Codecs) (cs : car.Codecs) (st : Station) (plan : CarPlan) (h : List Happening) → IsPair c cs st.post plan → (station_state st h).clock ≡ moment h → KeepsPace st plan h → KeepsSteps plan h e
    → KeepsTime st plan h e
step (ChargerTells event) c cs st plan h p clock k s =
    let t : State = station_state st h in
    in_time (station_state st (ChargerTells event ∷ h)).session (moment h) t.live
    (is_near (moment h) (station_state st (ChargerTells event ∷ h)).session (hears_since t.arrived t.session t.clock (moment h) [] clock k.behind))
step (StationHears bytes) c cs st plan h p clock k s =
    let t : State = station_state st h in
    in_time (station_state st (StationHears bytes ∷ h)).session (moment h) t.live
    (is_near (moment h) (station_state st (StationHears bytes ∷ h)).session (hears_since t.arrived t.session t.clock (moment h) bytes clock k.behind))
step (CarHears bytes) c cs st plan h p clock k s =
    car_in_time plan (car_hearing.hearing (moment h) (Bytes bytes) (car_state plan h)) p.joined
    (heard_soon (Bytes bytes) (moment h) (moment h) (car_state plan h).session refl (same_moment (moment h)) k.fresh k.set_up) s
step TimePasses c cs st plan h p clock k s =
    let t : State = station_state st h in (
      in_time (station_state st (TimePasses ∷ h)).session (moment h + 10) t.live (near_opened t.arrived t.session t.clock (moment h) clock k.behind),
      car_in_time plan (car_hearing.hearing (moment h + 10) Clock (car_state plan h)) p.joined
          (heard_soon Clock (moment h + 10) (moment h) (car_state plan h).session refl (ten_later (moment h)) k.fresh k.set_up) s,
    )
step (StationDoes reading act) c cs st plan h p clock k s = tt
step (CarReads w) c cs st plan h p clock k s = tt
step (CarDoes act) c cs st plan h p clock k s = tt
step (CarComes other) c cs st plan h p clock k s = tt
step CarGoes c cs st plan h p clock k s = tt
step NumberIsDrawn c cs st plan h p clock k s = tt

-- what a step keeps, whatever its deadlines' premises are
pub kept_in : (c : post.Codecs) (cs : car.Codecs) (st : Station) (plan : CarPlan) (session : List Happening) → IsPair c cs st.post (joined plan) → AllByRecursion IsWithin session → IsRun c cs st (front plan session)
    → AllByRecursion (IsShort 65544) (front plan session) → AllKeepSteps (joined plan) (front plan session) → AllKeepTime st (joined plan) (front plan session)
kept_in c cs st plan [] p w r l d = (tt, tt)
kept_in c cs st plan (e ∷ session) p w r l d =
    let before : AllKeepTime st (joined plan) (front plan session) = kept_in c cs st plan session p w.1 r.0 l.1 d.0 in
    let show : ShowMoment st (joined plan) (front plan session) = clocks st plan session w.1 in (
      before,
      step e c cs st (joined plan) (front plan session) p show.station (keeps st (joined plan) (front plan session) (holds_in c cs st plan session p w.1 r.0 l.1 before)) d.1,
    )

pub deadlines_are_kept : (c : post.Codecs) (cs : car.Codecs) → DeadlinesAreKept c cs
deadlines_are_kept c cs st plan h p f l d =
    subst (λ (x : List Happening). AllKeepTime st (joined plan) x) (sym f.h_is)
    (kept_in c cs st plan f.session p f.within (subst (λ (x : List Happening). IsRun c cs st x) f.h_is f.run) (subst (λ (x : List Happening). AllByRecursion (IsShort 65544) x) f.h_is l)
    (subst (λ (x : List Happening). AllKeepSteps (joined plan) x) f.h_is d))

pub steady_sessions_end : (c : post.Codecs) (cs : car.Codecs) → SteadySessionsEnd c cs
steady_sessions_end c cs st plan h p f l d turns car_turns =
    timely_sessions_end c cs st plan h p f l
    (deadlines_are_kept c cs st plan h p (record { session = f.session; h_is = f.h_is; within = f.within; run = f.run }) l d) turns car_turns
