-- What a car keeps of its session is what its steps tell: what has to hold of a state for that, and of what is decided.
use Rattle.std.proofs.Common.{◌≡◌, ℕ, Bool, true, false, List, Option, Some, None, Result, Ok, Err, refl}
use Rattle.charge_world.specs.declared.heard.PlantEvent.{PlantEvent}
use Rattle.session_words.specs.declared.cause.EndCause.{EndCause}
use Rattle.session_words.specs.declared.cause.EndCause.TheVariants.{Gone as ConnectionGone}
use Rattle.session_words.specs.declared.plan.CarPlan.{CarPlan}
use Rattle.session_words.specs.declared.word.Request.{Request}
use Rattle.v2gtp_frames.specs.declared.FrameFault.{FrameFault}
use Rattle.v2gtp_frames.specs.Reading.{whole_at}
use Rattle.car_rules.specs.declared.searching.Search.{Search}
use Rattle.car_rules.specs.declared.stage.CarStage.{CarStage}
use Rattle.car_rules.specs.Deadlines.{hit}
use Rattle.car_rules.specs.Replies.{plant_cause}
use Rattle.car_rules.specs.Requests.{request_of}
use Rattle.car_rules.specs.Searching.{is_searching}
use Rattle.post_spec.specs.Steps.{Event, Came, Bytes, Gone, Datagram, Plant, Clock, Over}
use Rattle.car_spec.specs.Asked.{now, last_request, awaited}
use Rattle.car_spec.specs.Steps.{Spoken, Offer, Asked, Step}
use Rattle.car_spec.specs.States.{Part, Unheard, Timing, Eventing, Wording, Session, State}
use Rattle.car_spec.specs.Due.{all_deadlines, is_due}
use Rattle.car_spec.specs.Deciding.{ending_if, ending_in, greeting, calling, charging, eventing, fronting_by, fronting, asking, repeating, decided}
use Rattle.car_spec.specs.Told.{stop, cycles}
use Rattle.car_laws.proofs.Decided.{IsEarly, decided_by}

-- of a stage, whose request was sent at this moment where it has no reply yet
abbrev pub StageReads : CarPlan → List Step → Option CarStage → Option ℕ → Type 0
StageReads plan steps None sent = (last_request steps ≡ None) × (cycles steps ≡ 0)
StageReads plan steps (Some stage) sent =
    (stage.cycles ≡ cycles steps) × ((at : ℕ) → sent ≡ Some at → last_request steps ≡ Some (record { request = request_of plan stage; at = at }))

pub record SessionReads (plan : CarPlan) (steps : List Step) (session : Session) : Type 0 where
  pub stop_is : session.stop ≡ stop steps
  pub sent_is : session.moments.sent ≡ awaited steps
  pub stage_is : StageReads plan steps session.stage session.moments.sent

pub record NothingRead (steps : List Step) : Type 0 where
  pub awaits_none : awaited steps ≡ None
  pub asked_none : last_request steps ≡ None
  pub counts_none : cycles steps ≡ 0

-- of the session that lives, and before it
abbrev pub Reads_by : CarPlan → List Step → Bool → Option Session → Type 0
Reads_by plan steps over None = over ≡ false → NothingRead steps
Reads_by plan steps over (Some session) = SessionReads plan steps session

-- what is to be said fits the session
abbrev pub IsUnchosen : Option Session → Type 0
IsUnchosen None = ⊥
IsUnchosen (Some session) = session.stage ≡ None

abbrev pub IsAskedIn : CarPlan → Request → Option Session → Type 0
IsAskedIn plan request None = ⊥
IsAskedIn plan request (Some session) = (stage : CarStage) × (session.stage ≡ Some stage) × (request ≡ request_of plan stage)

abbrev pub Fits : CarPlan → Option Session → Option Spoken → Type 0
Fits plan session None = Unit {0}
Fits plan session (Some Offer) = IsUnchosen session
Fits plan session (Some (Asked dialect request)) = IsAskedIn plan request session

-- a connection that opened the session in this hearing
abbrev pub IsFresh : Event → Bool → Option Session → Type 0
IsFresh (Came token) true session = Unit {0}
IsFresh (Came token) false session = IsUnchosen session
IsFresh (Bytes bytes) stood session = Unit {0}
IsFresh Gone stood session = Unit {0}
IsFresh (Datagram bytes) stood session = Unit {0}
IsFresh (Plant event) stood session = Unit {0}
IsFresh Clock stood session = Unit {0}
IsFresh Over stood session = Unit {0}

abbrev pub IsFreshIn : Part → Event → Bool → Option Session → Type 0
IsFreshIn Unheard event stood session = Unit {0}
IsFreshIn Timing event stood session = IsFresh event stood session
IsFreshIn Eventing event stood session = IsFresh event stood session
IsFreshIn Wording event stood session = Unit {0}

pub record Keeps (plan : CarPlan) (steps : List Step) (s : State) : Type 0 where
  pub clock_is : s.clock ≡ now steps
  pub reads : Reads_by plan steps s.over s.session
  pub fits : Fits plan s.session s.agenda.spoken
  pub fresh : IsFreshIn s.part s.event s.stood s.session

-- what is decided
fits_if : (plan : CarPlan) (session : Option Session) (o : Option EndCause) (live : Bool) → Fits plan session (ending_if o live).spoken
fits_if plan session None live = tt
fits_if plan session (Some cause) live = tt

fits_in : (plan : CarPlan) (session o : Option Session) (cause : EndCause) (live : Bool) → Fits plan session (ending_in o cause live).spoken
fits_in plan session None cause live = tt
fits_in plan session (Some other) cause live = tt

fits_greeting : (plan : CarPlan) (session : Option Session) (token : ℕ) (stood live : Bool) → IsFresh (Came token) stood session → Fits plan session (greeting stood live).spoken
fits_greeting plan session token true live f = tt
fits_greeting plan session token false live f = f

fits_calling : (plan : CarPlan) (session : Option Session) (search : Search) (datagram : List ℕ) (b : Bool) → is_searching plan search ≡ b → Fits plan session (calling plan search datagram).spoken
fits_calling plan session search datagram true e = rw e tt
fits_calling plan session search datagram false e = rw e tt

fits_charging : (plan : CarPlan) (session o : Option Session) (event : PlantEvent) (live : Bool) → Fits plan session (charging o event live).spoken
fits_charging plan session None event live = tt
fits_charging plan session (Some other) event live = fits_if plan session (plant_cause event) live

fits_eventing : (plan : CarPlan) (e : Event) (s : State) → IsFresh e s.stood s.session → Fits plan s.session (eventing plan e s).spoken
fits_eventing plan (Came token) s f = fits_greeting plan s.session token s.stood s.live f
fits_eventing plan (Bytes bytes) s f = tt
fits_eventing plan Gone s f = fits_in plan s.session s.session ConnectionGone s.live
fits_eventing plan (Datagram bytes) s f = fits_calling plan s.session s.search bytes _ refl
fits_eventing plan (Plant event) s f = fits_charging plan s.session s.session event s.live
fits_eventing plan Clock s f = tt
fits_eventing plan Over s f = tt

fits_front : (plan : CarPlan) (session : Option Session) (r : Result (Option ℕ) FrameFault) (live : Bool) → Fits plan session (fronting_by r live).spoken
fits_front plan session (Err fault) live = tt
fits_front plan session (Ok count) live = tt

fits_fronting : (plan : CarPlan) (session o : Option Session) (live : Bool) → Fits plan session (fronting o live).spoken
fits_fronting plan session None live = tt
fits_fronting plan session (Some other) live = fits_front plan session (whole_at other.unread) live

pub fits_asking : (plan : CarPlan) (session : Session) (o : Option CarStage) → session.stage ≡ o → Fits plan (Some session) (asking plan o)
fits_asking plan session None e = tt
fits_asking plan session (Some stage) e = (stage, e, refl)

fits_again : (plan : CarPlan) (session : Session) (at : ℕ) (b : Bool) → is_due session.again at ≡ b → Fits plan (Some session) (repeating plan (Some session) at).spoken
fits_again plan session at true e = rw e (fits_asking plan session session.stage refl)
fits_again plan session at false e = rw e tt

fits_repeating : (plan : CarPlan) (o : Option Session) (at : ℕ) → Fits plan o (repeating plan o at).spoken
fits_repeating plan None at = tt
fits_repeating plan (Some session) at = fits_again plan session at _ refl

early_fresh : (part : Part) (event : Event) (stood : Bool) (session : Option Session) → IsEarly part → IsFreshIn part event stood session → IsFresh event stood session
early_fresh Unheard event stood session e f = absurd e
early_fresh Timing event stood session e f = f
early_fresh Eventing event stood session e f = f
early_fresh Wording event stood session e f = absurd e

pub decided_keeps : (plan : CarPlan) (steps : List Step) (s : State) → Keeps plan steps s → Keeps plan steps (decided plan s)
decided_keeps plan steps s k = decided_by (Keeps plan steps) plan s
    (λ d. record {
      times = λ early. record { clock_is = k.clock_is; reads = k.reads; fits = fits_if plan s.session (hit (all_deadlines plan s) s.clock) s.live; fresh = early_fresh s.part s.event s.stood s.session early k.fresh };
      events = λ early. record { clock_is = k.clock_is; reads = k.reads; fits = fits_eventing plan s.event s (early_fresh s.part s.event s.stood s.session early k.fresh); fresh = tt };
      fronts = record { clock_is = k.clock_is; reads = k.reads; fits = fits_fronting plan s.session s.session s.live; fresh = tt };
      repeats = record { clock_is = k.clock_is; reads = k.reads; fits = fits_repeating plan s.session s.clock; fresh = tt };
      seeks = record { clock_is = k.clock_is; reads = k.reads; fits = tt; fresh = tt };
    }) k
