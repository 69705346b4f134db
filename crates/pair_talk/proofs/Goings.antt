-- A station whose connection goes ends its session before it rests.
use Rattle.std.proofs.Common.{◌≡◌, ℕ, Bool, true, false, List, [], ◌∷◌, ◌++◌, Option, Some, None, is_some, refl, sym, ap, subst, ◌∙◌}
use Rattle.std.specs.Option.{option_map}
use Rattle.std.specs.List.{AllByRecursion}
use Rattle.session_words.specs.declared.cause.EndCause.{EndCause}
use Rattle.session_words.specs.declared.cause.EndCause.TheVariants.{Gone as ConnectionGone}
use Rattle.session_words.specs.declared.plan.CarPlan.{CarPlan}
use Rattle.session_words.specs.declared.plan.PostPlan.{PostPlan}
use Rattle.post_spec.specs.Codecs.{Codecs, Judged, Negotiated, Asked, WrongSide, Refused}
use Rattle.post_spec.specs.Sessions.{brought}
use Rattle.post_spec.specs.Steps.{Event, Came, Bytes, Gone, Plant, Clock, Act, Give, Send, Answer, End, Reading}
use Rattle.station_spec.specs.Acting.{since_order, replied, agenda_said, acted}
use Rattle.station_spec.specs.Deciding.{ending_by, ending_in, repeating, timing, eventing, decide, from_wording, from_eventing, from_timing, from_repeating, from_part, decided}
use Rattle.station_spec.specs.Hearing.{arrival, session_opened, with_bytes, hearing}
use Rattle.station_spec.specs.Judging.{Payload, wanted, judged, taken_in, read, filled, IsRead}
use Rattle.station_spec.specs.Next.{IsQuiet, Acts}
use Rattle.station_spec.specs.States.{Spoken, Agenda, Part, Repeating, Timing, Eventing, Wording, Session, State, is_none, is_done, first_of}
use Rattle.station_spec.specs.Sharing.{Shows}
use Rattle.station_laws.proofs.Decided.{planned}
use Rattle.charge_world.specs.declared.ports.Order.{Order}
use Rattle.car_spec.specs.Codecs as car
use Rattle.pipe_spec.specs.Histories.{Happening, CarComes, ChargerTells, StationHears, CarHears, TimePasses, StationDoes, CarReads, CarDoes, CarGoes, NumberIsDrawn, moment, car_plan, station_cause, station_ended_by, station_has_ended}
use Rattle.pipe_spec.specs.Runs.{IsRun}
use Rattle.pipe_spec.specs.Turns.{Station, station_state, StationRests, Follows}
use Rattle.pair_talk.specs.Acting.{IsOfStation}

-- ---- while it hasn't ended, a session lives or a connection has come

abbrev stands_by : Option Session → Option ℕ → Bool
stands_by None arrived = is_some arrived
stands_by (Some session) arrived = true

abbrev stands : State → Bool
stands s = stands_by s.session s.arrived

no_session : (o : Option Session) → o ≡ None → is_some o ≡ true → ⊥
no_session None e f = let g : false ≡ true = f in cc
no_session (Some session) e f = cc

lives : (o : Option Session) (arrived : Option ℕ) → is_some o ≡ true → stands_by o arrived ≡ true
lives None arrived e = absurd (let f : false ≡ true = e in cc)
lives (Some session) arrived e = refl

arrives : (o : Option Session) (token : ℕ) → stands_by o (Some token) ≡ true
arrives None token = refl
arrives (Some session) token = refl

opened : (arrived : Option ℕ) (at : ℕ) (o : Option Session) → stands_by o arrived ≡ true → is_some (session_opened arrived at o) ≡ true
opened None at None e = e
opened None at (Some session) e = refl
opened (Some token) at o e = refl

goes_on : (f : Session → Session) (o : Option Session) → is_some o ≡ true → is_some (option_map f o) ≡ true
goes_on f None e = e
goes_on f (Some session) e = refl

stands_on : (f : Session → Session) (o : Option Session) (arrived : Option ℕ) → stands_by o arrived ≡ true → stands_by (option_map f o) arrived ≡ true
stands_on f None arrived e = e
stands_on f (Some session) arrived e = refl

heard_lives : (at : ℕ) (event : Event) (s : State) → stands s ≡ true → is_some (hearing at event s).session ≡ true
heard_lives at event s e = goes_on (with_bytes (brought event)) (session_opened s.arrived s.clock s.session) (opened s.arrived s.clock s.session e)

judged_lives : (plan : PostPlan) (s : State) (session : Session) (j : Judged) (shown : ℕ) → is_some (judged plan s session j shown).session ≡ true
judged_lives plan s session (Negotiated chosen response) shown = refl
judged_lives plan s session (Asked r) shown = refl
judged_lives plan s session WrongSide shown = refl
judged_lives plan s session Refused shown = refl

taken_stands : (plan : PostPlan) (s : State) (o : Option Session) (r : Reading) → stands s ≡ true → stands (taken_in plan s o r) ≡ true
taken_stands plan s None r e = e
taken_stands plan s (Some session) r e =
    let t = judged plan s session r.judged r.shown in
    lives t.session t.arrived (judged_lives plan s session r.judged r.shown)

read_stands : (plan : PostPlan) (s : State) (reading : Option Reading) → stands s ≡ true → stands (read plan s reading) ≡ true
read_stands plan s None e = e
read_stands plan s (Some r) e = taken_stands plan s s.session r e

decided_stands : (plan : PostPlan) (s : State) → stands s ≡ true → stands (decided plan s) ≡ true
decided_stands plan s e = let p = planned plan s in subst (λ (t : State). stands t ≡ true) (sym p.is) e

filled_stands : (plan : PostPlan) (s : State) (reading : Option Reading) → stands s ≡ true → stands (filled plan reading s) ≡ true
filled_stands plan s reading e = read_stands plan (decided plan s) reading (decided_stands plan s e)

-- of the newest car's session
abbrev StandsBy : Option CarPlan → Option ℕ → State → Type 0
StandsBy None cause s = Unit {0}
StandsBy (Some plan) (Some cause) s = Unit {0}
StandsBy (Some plan) None s = stands s ≡ true

ended_stands : (o : Option CarPlan) (cause : ℕ) (s : State) → StandsBy o (Some cause) s
ended_stands None cause s = tt
ended_stands (Some plan) cause s = tt

comes_stands : (o : Option CarPlan) (plan : CarPlan) (at : ℕ) (s : State) → o ≡ Some plan → StandsBy o None (hearing at (Came 1) s)
comes_stands None plan at s e = tt
comes_stands (Some other) plan at s e = arrives _ 1

hears_stands : (o : Option CarPlan) (cause : Option ℕ) (at : ℕ) (event : Event) (s : State) → StandsBy o cause s → StandsBy o cause (hearing at event s)
hears_stands None cause at event s k = tt
hears_stands (Some plan) (Some cause) at event s k = tt
hears_stands (Some plan) None at event s k = lives _ (arrival event) (heard_lives at event s k)

same_stands : (o : Option CarPlan) (cause : Option ℕ) (s t : State) → (stands s ≡ true → stands t ≡ true) → StandsBy o cause s → StandsBy o cause t
same_stands None cause s t f k = tt
same_stands (Some plan) (Some cause) s t f k = tt
same_stands (Some plan) None s t f k = f k

does_stands : (o : Option CarPlan) (cause : Option ℕ) (plan : PostPlan) (reading : Option Reading) (act : Act) (s : State) → StandsBy o cause s
    → StandsBy o (station_ended_by act cause) (acted act true (filled plan reading s))
does_stands o cause plan reading (Give order) s k =
    same_stands o cause s (acted (Give order) true (filled plan reading s)) (λ e. let t = filled plan reading s in stands_on (since_order t.clock order) t.session t.arrived (filled_stands plan s reading e)) k
does_stands o cause plan reading (Send bytes) s k =
    same_stands o cause s (acted (Send bytes) true (filled plan reading s)) (λ e. let t = filled plan reading s in stands_on (replied t.clock) t.session t.arrived (filled_stands plan s reading e)) k
does_stands o cause plan reading (Answer bytes) s k =
    same_stands o cause s (acted (Answer bytes) true (filled plan reading s)) (λ e. filled_stands plan s reading e) k
does_stands o cause plan reading (End n) s k = ended_stands o n (acted (End n) true (filled plan reading s))

step_stands : (c : Codecs) (cs : car.Codecs) (st : Station) (h : List Happening) (e : Happening) → Follows c cs st h e → StandsBy (car_plan h) (station_cause h) (station_state st h)
    → StandsBy (car_plan (e ∷ h)) (station_cause (e ∷ h)) (station_state st (e ∷ h))
step_stands c cs st h (CarComes plan) f k = comes_stands (car_plan (CarComes plan ∷ h)) _ (moment h) (station_state st h) refl
step_stands c cs st h (ChargerTells event) f k = hears_stands (car_plan h) (station_cause h) (moment h) (Plant event) (station_state st h) k
step_stands c cs st h (StationHears bytes) f k = hears_stands (car_plan h) (station_cause h) (moment h) (Bytes bytes) (station_state st h) k
step_stands c cs st h (CarHears bytes) f k = k
step_stands c cs st h TimePasses f k = hears_stands (car_plan h) (station_cause h) _ Clock (station_state st h) k
step_stands c cs st h (StationDoes reading act) f k = does_stands (car_plan h) (station_cause h) st.post reading act (station_state st h) k
step_stands c cs st h (CarReads judged) f k = k
step_stands c cs st h (CarDoes act) f k = k
step_stands c cs st h CarGoes f k = hears_stands (car_plan h) (station_cause h) (moment h) Gone (station_state st h) k
step_stands c cs st h NumberIsDrawn f k = k

all_stands : (c : Codecs) (cs : car.Codecs) (st : Station) (h : List Happening) → IsRun c cs st h → StandsBy (car_plan h) (station_cause h) (station_state st h)
all_stands c cs st [] r = tt
all_stands c cs st (e ∷ h) r = step_stands c cs st h e r.1 (all_stands c cs st h r.0)

-- ---- behind Gone it has something to do until its session has ended

-- its session is to end, or the part that ends it comes
abbrev WillEnd : Part → Option EndCause → Type 0
WillEnd Repeating ending = Unit {0}
WillEnd Timing ending = Unit {0}
WillEnd Eventing ending = Unit {0}
WillEnd Wording None = ⊥
WillEnd Wording (Some cause) = Unit {0}

record IsLeaving (s : State) : Type 0 where
  pub event : s.event ≡ Gone
  pub session : is_some s.session ≡ true
  pub ending : WillEnd s.part s.agenda.ending

record IsBusy (s : State) : Type 0 where
  pub leaving : IsLeaving s
  pub busy : is_done s.agenda ≡ false

will_end : (part : Part) (cause : EndCause) → WillEnd part (Some cause)
will_end Repeating cause = tt
will_end Timing cause = tt
will_end Eventing cause = tt
will_end Wording cause = tt

-- what is decided
decide_now : (agenda : Agenda) (part : Part) (s rest : State) → is_done agenda ≡ false → WillEnd part agenda.ending → s.event ≡ Gone → is_some s.session ≡ true → IsBusy (decide agenda part s rest)
decide_now agenda part s rest e w at x = rw e (record { leaving = record { event = at; session = x; ending = w }; busy = e })

decide_or : (agenda : Agenda) (part : Part) (s rest : State) (b : Bool) → is_done agenda ≡ b → WillEnd part agenda.ending → s.event ≡ Gone → is_some s.session ≡ true → IsBusy rest → IsBusy (decide agenda part s rest)
decide_or agenda part s rest true e w at x r = rw e r
decide_or agenda part s rest false e w at x r = decide_now agenda part s rest e w at x

ending_busy : (cause : EndCause) (live : Bool) → is_done (ending_by cause live) ≡ false
ending_busy cause true = refl
ending_busy cause false = refl

leaves_busy : (o : Option Session) (live : Bool) → is_some o ≡ true → is_done (ending_in o ConnectionGone live) ≡ false
leaves_busy None live e = absurd (let f : false ≡ true = e in cc)
leaves_busy (Some session) live e = ending_busy ConnectionGone live

leaves_ending : (o : Option Session) (live : Bool) → is_some o ≡ true → WillEnd Wording (ending_in o ConnectionGone live).ending
leaves_ending None live e = absurd (let f : false ≡ true = e in cc)
leaves_ending (Some session) live e = tt

eventing_busy : (plan : PostPlan) (s : State) → s.event ≡ Gone → is_some s.session ≡ true → IsBusy (from_eventing plan s)
eventing_busy plan s at x =
    decide_now (eventing plan s.event s) Wording s (from_wording s) (subst (λ (e : Event). is_done (eventing plan e s) ≡ false) (sym at) (leaves_busy s.session s.live x))
    (subst (λ (e : Event). WillEnd Wording (eventing plan e s).ending) (sym at) (leaves_ending s.session s.live x)) at x

timing_busy : (plan : PostPlan) (s : State) → s.event ≡ Gone → is_some s.session ≡ true → IsBusy (from_timing plan s)
timing_busy plan s at x = decide_or (timing s.session s.clock s.live) Eventing s (from_eventing plan s) _ refl tt at x (eventing_busy plan s at x)

repeating_busy : (plan : PostPlan) (s : State) → s.event ≡ Gone → is_some s.session ≡ true → IsBusy (from_repeating plan s)
repeating_busy plan s at x = decide_or (repeating s.facts.contactor) Timing s (from_timing plan s) _ refl tt at x (timing_busy plan s at x)

part_busy : (plan : PostPlan) (part : Part) (s : State) → WillEnd part None → s.event ≡ Gone → is_some s.session ≡ true → IsBusy (from_part plan part s)
part_busy plan Repeating s w at x = repeating_busy plan s at x
part_busy plan Timing s w at x = timing_busy plan s at x
part_busy plan Eventing s w at x = eventing_busy plan s at x
part_busy plan Wording s w at x = absurd w

no_ending : (d : Option (List ℕ)) (o : Option Order) (r : Option Spoken) (e : Option EndCause) → is_none (first_of d o r e) ≡ true → e ≡ None
no_ending None None None None h = refl
no_ending None None None (Some cause) h = cc
no_ending None None (Some spoken) e h = cc
no_ending None (Some order) r e h = cc
no_ending (Some datagram) o r e h = cc

busy_if : (plan : PostPlan) (s : State) (b : Bool) → is_done s.agenda ≡ b → IsLeaving s → IsBusy (decided plan s)
busy_if plan s true e k =
    let w = subst (WillEnd s.part) (no_ending s.agenda.datagram s.agenda.order s.agenda.reply s.agenda.ending e) k.ending in
    rw e (part_busy plan s.part s w k.event k.session)
busy_if plan s false e k = let b : IsBusy s = record { leaving = k; busy = e } in rw e b

decided_busy : (plan : PostPlan) (s : State) → IsLeaving s → IsBusy (decided plan s)
decided_busy plan s k = busy_if plan s (is_done s.agenda) refl k

never_rests : (plan : PostPlan) (s : State) → IsLeaving s → IsQuiet plan s → ⊥
never_rests plan s k q =
    let b = decided_busy plan s k in
    let e : true ≡ false = sym (ap is_none q.none) ∙ b.busy in
    cc

-- it reads no word
no_word : (s : State) → is_done s.agenda ≡ false → wanted s ≡ None
no_word s e = rw e refl

reads_none : (c : Codecs) (plan : PostPlan) (S : ℕ → ℕ → Type 0) (s : State) (reading : Option Reading) → is_done s.agenda ≡ false → IsRead c plan S s (wanted s) reading → reading ≡ None
reads_none c plan S s None e r = refl
reads_none c plan S s (Some x) e r = absurd (subst (λ (w : Option Payload). IsRead c plan S s w (Some x)) (no_word s e) r)

-- what it does leaves it so, unless it ends its session
said_ending : (part : Part) (b : Option EndCause) (o : Option Session) (a : Agenda) (live : Bool) → is_some o ≡ true → WillEnd part a.ending → WillEnd part (agenda_said b o a live).ending
said_ending part None o a live e w = w
said_ending part (Some cause) None a live e w = absurd (let f : false ≡ true = e in cc)
said_ending part (Some cause) (Some session) a live e w = will_end part cause

act_leaving : (act : Act) (s : State) → station_ended_by act None ≡ None → IsLeaving s → IsLeaving (acted act true s)
act_leaving (Give order) s n k = record { event = k.event; session = goes_on (since_order s.clock order) s.session k.session; ending = k.ending }
act_leaving (Send bytes) s n k = record {
  event = k.event;
  session = goes_on (replied s.clock) s.session k.session;
  ending = said_ending s.part s.agenda.behind_reply s.session s.agenda s.live k.session k.ending;
}
act_leaving (Answer bytes) s n k = record { event = k.event; session = k.session; ending = k.ending }
act_leaving (End cause) s n k = absurd (let f : Some cause ≡ None = n in cc)

acts_leaving : (c : Codecs) (plan : PostPlan) (S : ℕ → ℕ → Type 0) (s : State) (reading : Option Reading) (act : Act) → station_ended_by act None ≡ None → Acts c plan S s reading act true → IsLeaving s
    → IsLeaving (acted act true (filled plan reading s))
acts_leaving c plan S s reading act n a k =
    let b = decided_busy plan s k in
    let e = reads_none c plan S (decided plan s) reading b.busy a.read in
    subst (λ (r : Option Reading). IsLeaving (acted act true (filled plan r s))) (sym e) (act_leaving act (decided plan s) n b.leaving)

abbrev LeavesBy : Option ℕ → State → Type 0
LeavesBy None s = IsLeaving s
LeavesBy (Some cause) s = Unit {0}

does_leaving : (c : Codecs) (plan : PostPlan) (S : ℕ → ℕ → Type 0) (cause : Option ℕ) (s : State) (reading : Option Reading) (act : Act) → Acts c plan S s reading act true → LeavesBy cause s
    → LeavesBy (station_ended_by act cause) (acted act true (filled plan reading s))
does_leaving c plan S None s reading (Give order) a k = acts_leaving c plan S s reading (Give order) refl a k
does_leaving c plan S None s reading (Send bytes) a k = acts_leaving c plan S s reading (Send bytes) refl a k
does_leaving c plan S None s reading (Answer bytes) a k = acts_leaving c plan S s reading (Answer bytes) refl a k
does_leaving c plan S None s reading (End n) a k = tt
does_leaving c plan S (Some cause) s reading (Give order) a k = tt
does_leaving c plan S (Some cause) s reading (Send bytes) a k = tt
does_leaving c plan S (Some cause) s reading (Answer bytes) a k = tt
does_leaving c plan S (Some cause) s reading (End n) a k = tt

goes_leaving : (plan : CarPlan) (o : Option CarPlan) (cause : Option ℕ) (at : ℕ) (s : State) → o ≡ Some plan → StandsBy o cause s → LeavesBy cause (hearing at Gone s)
goes_leaving plan None cause at s e k = absurd (let f : None ≡ Some plan = e in cc)
goes_leaving plan (Some other) (Some cause) at s e k = tt
goes_leaving plan (Some other) None at s e k = record { event = refl; session = heard_lives at Gone s k; ending = tt }

acts_leave : (c : Codecs) (cs : car.Codecs) (st : Station) (h acts : List Happening) → AllByRecursion IsOfStation acts → IsRun c cs st (acts ++ CarGoes ∷ h)
    → LeavesBy (station_cause (acts ++ CarGoes ∷ h)) (station_state st (acts ++ CarGoes ∷ h))
acts_leave c cs st h [] a r = let m = r.1 in goes_leaving m.plan (car_plan h) (station_cause h) (moment h) (station_state st h) m.came (all_stands c cs st h r.0)
acts_leave c cs st h (StationDoes reading act ∷ acts) a r =
    let k = acts ++ CarGoes ∷ h in
    does_leaving c st.post (Shows st.limit [] []) (station_cause k) (station_state st k) reading act r.1 (acts_leave c cs st h acts a.1 r.0)
acts_leave c cs st h (other ∷ acts) a r = absurd (let f : false ≡ true = a.0 in cc)

ends_by : (cause : Option ℕ) (plan : PostPlan) (s : State) → LeavesBy cause s → IsQuiet plan s → is_some cause ≡ true
ends_by None plan s k q = absurd (never_rests plan s k q)
ends_by (Some cause) plan s k q = refl

pub gone_ends : (c : Codecs) (cs : car.Codecs) (st : Station) (h acts : List Happening) → AllByRecursion IsOfStation acts → IsRun c cs st (acts ++ CarGoes ∷ h) → StationRests st (acts ++ CarGoes ∷ h)
    → station_has_ended (acts ++ CarGoes ∷ h) ≡ true
gone_ends c cs st h acts a r q =
    let k = acts ++ CarGoes ∷ h in
    ends_by (station_cause k) st.post (station_state st k) (acts_leave c cs st h acts a r) q
