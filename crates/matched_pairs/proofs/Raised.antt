-- From an order of limits on a reply is pending until the car reads it.
use Rattle.std.proofs.Common.{◌≡◌, ℕ, ◌+◌, Bool, true, false, ◌&&◌, ◌||◌, if◌then◌else◌, List, [], ◌∷◌, ◌++◌, length, Option, Some, None, Result, Ok, Err, refl, ap, sym, subst, ◌∙◌, ◌⊎◌, inl, inr, arith}
use Rattle.charge_world.specs.declared.heard.PlantEvent.{PlantEvent}
use Rattle.charge_world.specs.declared.ports.Order.{Order}
use Rattle.session_words.specs.declared.cause.EndCause.{EndCause}
use Rattle.session_words.specs.declared.phase.Standing.{Standing}
use Rattle.session_words.specs.declared.phase.Standing.TheVariants as standing
use Rattle.session_words.specs.declared.plan.PostPlan.{PostPlan}
use Rattle.session_words.specs.declared.cause.EndCause.TheVariants as cause
use Rattle.session_words.specs.Causes.{cause_of}
use Rattle.v2gtp_frames.specs.Frames.{frame}
use Rattle.v2gtp_frames.specs.declared.FrameFault.{FrameFault}
use Rattle.v2gtp_frames.specs.Reading.{whole_at}
use Rattle.session_rules.specs.Causes.{plant_cause}
use Rattle.session_rules.specs.Deadlines.{timeout_of}
use Rattle.session_rules.specs.Stages.{is_waiting}
use Rattle.post_spec.specs.Codecs.{Codecs}
use Rattle.post_spec.specs.Steps.{Event, Came, Bytes, Gone, Datagram, Plant, Clock, Over, Act, Give, Send, Answer, End, Reading}
use Rattle.station_spec.specs.States.{Spoken, Response, Said, Agenda, Session, State, Todo, nothing, is_none, is_done, first, first_of}
use Rattle.station_spec.specs.States as states
use Rattle.station_spec.specs.Deciding.{ending_by, ending_in, repeating, is_reached, due, timing, watch, confirms, confirming, charging_by, charging, eventing, fronting_by, fronting, from_part, decided}
use Rattle.station_spec.specs.Hearing.{hearing}
use Rattle.station_spec.specs.Acting.{acted}
use Rattle.station_spec.specs.Next.{IsQuiet, IsSpoken, IsDone, Acts}
use Rattle.station_spec.specs.Sharing.{Shows}
use Rattle.station_laws.proofs.Decided.{decided_by}
use Rattle.car_spec.specs.States as car_states
use Rattle.car_spec.specs.Hearing as car_hearing
use Rattle.pipe_spec.specs.Histories.{Happening, StationDoes, CarReads, station_says}
use Rattle.pair_deeds.specs.Posts.{DoesFirst}
use Rattle.pair_deeds.proofs.Posts.{posts_do_what_is_first}
use Rattle.matched_pairs.specs.Voltages.{is_limits}
use Rattle.matched_pairs.proofs.PostPhases.{stays_busy}
use Rattle.matched_pairs.proofs.Coming.{HasSomeUnread}

some_none : {A : Type 0} (a : A) → Some a ≡ None → ⊥
some_none a e = cc

true_false : true ≡ false → ⊥
true_false e = cc

-- limits were ordered since the car read last
abbrev pub is_raised : List Happening → Bool
is_raised [] = false
is_raised (StationDoes reading act ∷ h) = is_limits act || is_raised h
is_raised (CarReads judged ∷ h) = false
is_raised (other ∷ h) = is_raised h

-- a reply is decided, on its way, or unread
pub data Pending (s : State) (y : Option car_states.Session) (way : List ℕ) : Type 0 where
  IsDecided : (spoken : Spoken) → first s.agenda ≡ Some (states.Say spoken) → Pending s y way
  IsOnItsWay : (way ≡ [] → ⊥) → Pending s y way
  IsUnread : HasSomeUnread y → Pending s y way

-- or the car has gone
abbrev pub IsBusy : State → Option car_states.Session → List ℕ → Type 0
IsBusy s y way = Pending s y way ⊎ (y ≡ None)

-- ---- what is said isn't empty

length_frame : (p : List ℕ) → length (frame p) ≡ 8 + length p
length_frame p = omega arith

pub no_frame : (payload : List ℕ) → frame payload ≡ [] → ⊥
no_frame payload e =
    let size : length (frame payload) ≡ 8 + length payload = length_frame payload in
    let none : length (frame payload) ≡ 0 = ap length e in
    omega (arith, size, none)

nil_left : (a b : List ℕ) → a ++ b ≡ [] → a ≡ []
nil_left [] b e = refl
nil_left (x ∷ a) b e = cc

nil_right : (a b : List ℕ) → a ++ b ≡ [] → b ≡ []
nil_right [] b e = e
nil_right (x ∷ a) b e = cc

says_some : (c : Codecs) (spoken : Spoken) (bytes : List ℕ) → IsSpoken c spoken bytes → bytes ≡ [] → ⊥
says_some c (Response payload) bytes i e = no_frame payload (sym i ∙ e)
says_some c (Said dialect reply) bytes i e = no_frame i.0 (sym i.2 ∙ e)

-- ---- the post does something

first_said : (c : Codecs) (plan : PostPlan) (limit : ℕ) (s : State) (spoken : Spoken) (reading : Option Reading) (act : Act) → first s.agenda ≡ Some (states.Say spoken)
    → Acts c plan (Shows limit [] []) s reading act true → DoesFirst c (states.Say spoken) reading act true
first_said c plan limit s spoken reading act f i =
    posts_do_what_is_first c plan limit s (states.Say spoken) reading act true (ap (λ (x : State). first x.agenda) (stays_busy plan s (states.Say spoken) f) ∙ f) i

said_way : (c : Codecs) (spoken : Spoken) (act : Act) (way : List ℕ) → IsDone c (states.Say spoken) act true → way ++ station_says act ≡ [] → ⊥
said_way c spoken act way i e = says_some c spoken i.0 i.1 (sym (ap station_says i.2) ∙ nil_right way (station_says act) e)

pending_done : (c : Codecs) (plan : PostPlan) (limit : ℕ) (s t : State) (y : Option car_states.Session) (way : List ℕ) (reading : Option Reading) (act : Act)
    → Acts c plan (Shows limit [] []) s reading act true → Pending s y way → Pending t y (way ++ station_says act)
pending_done c plan limit s t y way reading act i (IsDecided spoken f) =
    let d : DoesFirst c (states.Say spoken) reading act true = first_said c plan limit s spoken reading act f i in
    IsOnItsWay (said_way c spoken act way d.done)
pending_done c plan limit s t y way reading act i (IsOnItsWay w) = IsOnItsWay (λ e. w (nil_left way (station_says act) e))
pending_done c plan limit s t y way reading act i (IsUnread u) = IsUnread u

pub busy_done : (c : Codecs) (plan : PostPlan) (limit : ℕ) (s t : State) (y : Option car_states.Session) (way : List ℕ) (reading : Option Reading) (act : Act)
    → Acts c plan (Shows limit [] []) s reading act true → IsBusy s y way → IsBusy t y (way ++ station_says act)
busy_done c plan limit s t y way reading act i (inl k) = inl (pending_done c plan limit s t y way reading act i k)
busy_done c plan limit s t y way reading act i (inr e) = inr e

-- it reads nothing meanwhile
pub busy_reads : (c : Codecs) (plan : PostPlan) (limit : ℕ) (s : State) (y : Option car_states.Session) (x : car_states.Session) (way : List ℕ) (reading : Reading) (act : Act)
    → Acts c plan (Shows limit [] []) s (Some reading) act true → y ≡ Some x → x.unread ≡ [] → way ≡ [] → IsBusy s y way → ⊥
busy_reads c plan limit s y x way reading act i e u w (inl (IsDecided spoken f)) =
    let d : DoesFirst c (states.Say spoken) (Some reading) act true = first_said c plan limit s spoken (Some reading) act f i in some_none reading d.reads_nothing
busy_reads c plan limit s y x way reading act i e u w (inl (IsOnItsWay n)) = n w
busy_reads c plan limit s y x way reading act i e u w (inl (IsUnread n)) = subst HasSomeUnread e n u
busy_reads c plan limit s y x way reading act i e u w (inr n) = some_none x (sym e ∙ n)

-- behind the order its reply is decided
pub decides_so : (a : Agenda) (o : Option Order) (spoken : Spoken) → a ≡ record nothing { order = o; reply = Some spoken } → first (record a { order = None }) ≡ Some (states.Say spoken)
decides_so a o spoken e = ap (λ (x : Agenda). first (record x { order = None })) e

-- ---- what it says was decided before, unless a reply waits

abbrev pub Replyless : Agenda → Type 0
Replyless a = a.reply ≡ None

either_less : (b : Bool) (x y : Agenda) → Replyless x → Replyless y → Replyless (if b then x else y)
either_less true x y f g = f
either_less false x y f g = g

repeats_less : (now : Standing) → Replyless (repeating now)
repeats_less standing.MustOpen = refl
repeats_less standing.Opened = refl
repeats_less standing.Closing = refl
repeats_less standing.Closed = refl
repeats_less standing.Opening = refl

times_less : (o : Option Session) (now : ℕ) (live : Bool) → Replyless (timing o now live)
times_less None now live = refl
times_less (Some x) now live = either_less (is_reached (due x) now) (ending_by (cause_of (timeout_of x.stage.row)) live) nothing refl refl

ending_less : (o : Option Session) (why : EndCause) (live : Bool) → Replyless (ending_in o why live)
ending_less None why live = refl
ending_less (Some x) why live = refl

caused_less : (o : Option EndCause) (a : Agenda) (live : Bool) → Replyless a → Replyless (charging_by o a live)
caused_less (Some why) a live f = refl
caused_less None a live f = f

unwaiting : (w b : Bool) (x : Agenda) → w ≡ false → Replyless (if w && b then x else nothing)
unwaiting false b x e = refl
unwaiting true b x e = absurd (true_false e)

abbrev pub Unwaiting : Option Session → Type 0
Unwaiting None = Unit {0}
Unwaiting (Some x) = is_waiting x.stage.row ≡ false

charges_less : (o : Option Session) (plan : PostPlan) (event : PlantEvent) (s : State) → Unwaiting o → Replyless (charging plan o event s)
charges_less None plan event s w = refl
charges_less (Some x) plan event s w =
    caused_less (plant_cause (watch plan x s) event) (confirming plan x event s) s.live (unwaiting (is_waiting x.stage.row) (confirms event) _ w)

events_less : (plan : PostPlan) (event : Event) (s : State) → Unwaiting s.session → Replyless (eventing plan event s)
events_less plan (Plant event) s w = charges_less s.session plan event s w
events_less plan (Came token) s w = ending_less s.session cause.Gone s.live
events_less plan (Bytes bytes) s w = refl
events_less plan Gone s w = ending_less s.session cause.Gone s.live
events_less plan (Datagram bytes) s w = refl
events_less plan Clock s w = refl
events_less plan Over s w = ending_less s.session cause.RunOver s.live

front_less : (r : Result (Option ℕ) FrameFault) (waits live : Bool) → Replyless (fronting_by r waits live)
front_less (Err fault) waits live = refl
front_less (Ok None) waits live = refl
front_less (Ok (Some n)) waits live = either_less waits (ending_by cause.Impatient live) nothing refl refl

fronts_less : (o : Option Session) (live : Bool) → Replyless (fronting o live)
fronts_less None live = refl
fronts_less (Some x) live = front_less (whole_at x.unread) (is_waiting x.stage.row) live

decides_less : (plan : PostPlan) (s : State) → Unwaiting s.session → Replyless s.agenda → Replyless (decided plan s).agenda
decides_less plan s w n = decided_by (λ (t : State). Replyless t.agenda) plan s
    (λ d. record {
      repeats = repeats_less s.facts.contactor;
      times = times_less s.session s.clock s.live;
      events = events_less plan s.event s w;
      fronts = fronts_less s.session s.live;
    })
    n

not_said : (o : Option EndCause) (spoken : Spoken) → states.then_finish o ≡ Some (states.Say spoken) → ⊥
not_said None spoken f = some_none _ (sym f)
not_said (Some why) spoken f = cc

says_by : (datagram : Option (List ℕ)) (o : Option Order) (reply : Option Spoken) (ending : Option EndCause) (spoken : Spoken) → first_of datagram o reply ending ≡ Some (states.Say spoken) → reply ≡ None → ⊥
says_by (Some datagram) o reply ending spoken f n = cc
says_by None (Some o) reply ending spoken f n = cc
says_by None None None ending spoken f n = not_said ending spoken f
says_by None None (Some other) ending spoken f n = some_none other n

says_reply : (a : Agenda) (spoken : Spoken) → first a ≡ Some (states.Say spoken) → Replyless a → ⊥
says_reply a spoken f n = says_by a.datagram a.order a.reply a.ending spoken f n

-- nothing is done of an agenda of which something is first
not_done : (b : Bool) (plan : PostPlan) (s : State) → is_done s.agenda ≡ b → b ≡ false → decided plan s ≡ s
not_done true plan s e f = absurd (true_false f)
not_done false plan s e f = ap (λ (x : Bool). if x then from_part plan s.part s else s) e

reply_none : (o : Option Todo) (datagram : Option (List ℕ)) (ord : Option Order) (reply : Option Spoken) (ending : Option EndCause) → first_of datagram ord reply ending ≡ o → is_none o ≡ true → reply ≡ None
reply_none (Some todo) datagram ord reply ending e n = absurd (true_false (sym n))
reply_none None (Some datagram) ord reply ending e n = absurd (some_none _ e)
reply_none None None (Some o) reply ending e n = absurd (some_none _ e)
reply_none None None None (Some spoken) ending e n = absurd (some_none _ e)
reply_none None None None None ending e n = refl

said_before_by : (b : Bool) (plan : PostPlan) (s : State) (spoken : Spoken) → is_done s.agenda ≡ b → Unwaiting s.session → first (decided plan s).agenda ≡ Some (states.Say spoken)
    → first s.agenda ≡ Some (states.Say spoken)
said_before_by true plan s spoken e w f =
    let a : Agenda = s.agenda in
    absurd (says_reply (decided plan s).agenda spoken f (decides_less plan s w (reply_none (first s.agenda) a.datagram a.order a.reply a.ending refl e)))
said_before_by false plan s spoken e w f = ap (λ (x : State). first x.agenda) (sym (not_done (is_done s.agenda) plan s refl e)) ∙ f

said_before : (plan : PostPlan) (s : State) (spoken : Spoken) → Unwaiting s.session → first (decided plan s).agenda ≡ Some (states.Say spoken) → first s.agenda ≡ Some (states.Say spoken)
said_before plan s spoken w f = said_before_by (is_done s.agenda) plan s spoken refl w f

sends_by : (c : Codecs) (todo : Todo) (bytes : List ℕ) → IsDone c todo (Send bytes) true → (spoken : Spoken) × (todo ≡ states.Say spoken)
sends_by c (states.Tell datagram) bytes i = absurd (let e : Send bytes ≡ Answer datagram = i in cc)
sends_by c (states.Give o) bytes i = absurd (let e : Send bytes ≡ Give o = i in cc)
sends_by c (states.Say spoken) bytes i = (spoken, refl)
sends_by c (states.Finish why) bytes i = absurd (let e : Send bytes ≡ End _ = i.0 in cc)

pub sends_pending : (c : Codecs) (plan : PostPlan) (limit : ℕ) (s : State) (y : Option car_states.Session) (way bytes : List ℕ) → Unwaiting s.session
    → Acts c plan (Shows limit [] []) s None (Send bytes) true → Pending s y way
sends_pending c plan limit s y way bytes w i =
    let t = sends_by c i.todo bytes i.done in
    IsDecided t.0 (said_before plan s t.0 w (i.acts ∙ ap (λ (x : Todo). Some x) t.1))

-- behind the end of its session it says nothing
nothing_said : (spoken : Spoken) → first nothing ≡ Some (states.Say spoken) → ⊥
nothing_said spoken f = some_none _ (sym f)

pub ends_pending : (number : ℕ) (t s : State) (y : Option car_states.Session) (way : List ℕ) → Pending (acted (End number) true t) y (way ++ []) → Pending s y way
ends_pending number t s y way (IsDecided spoken f) = absurd (nothing_said spoken f)
ends_pending number t s y way (IsOnItsWay w) = IsOnItsWay (λ e. w (ap (λ (l : List ℕ). l ++ []) e))
ends_pending number t s y way (IsUnread u) = IsUnread u

-- ---- a turn finds nothing decided

quiet_says : (plan : PostPlan) (s : State) (spoken : Spoken) → IsQuiet plan s → first s.agenda ≡ Some (states.Say spoken) → ⊥
quiet_says plan s spoken q f = some_none _ (sym f ∙ ap (λ (x : State). first x.agenda) (sym (stays_busy plan s (states.Say spoken) f)) ∙ q.none)

pub busy_heard : (plan : PostPlan) (s t : State) (y : Option car_states.Session) (way : List ℕ) → IsQuiet plan s → IsBusy s y way → IsBusy t y way
busy_heard plan s t y way q (inl (IsDecided spoken f)) = absurd (quiet_says plan s spoken q f)
busy_heard plan s t y way q (inl (IsOnItsWay w)) = inl (IsOnItsWay w)
busy_heard plan s t y way q (inl (IsUnread u)) = inl (IsUnread u)
busy_heard plan s t y way q (inr e) = inr e

-- behind a hearing nothing is decided yet
none_said : (spoken : Spoken) → first nothing ≡ Some (states.Say spoken) → ⊥
none_said spoken f = some_none _ (sym f)

pub heard_pending : (at : ℕ) (event : Event) (s : State) (y : Option car_states.Session) (way : List ℕ) → Pending (hearing at event s) y way → Pending s y way
heard_pending at event s y way (IsDecided spoken f) = absurd (none_said spoken f)
heard_pending at event s y way (IsOnItsWay w) = IsOnItsWay w
heard_pending at event s y way (IsUnread u) = IsUnread u

-- time passes only where nothing comes to the car
pub busy_passes : (plan : PostPlan) (s : State) (y : Option car_states.Session) (x : car_states.Session) (way : List ℕ) → IsQuiet plan s → y ≡ Some x → x.unread ≡ [] → way ≡ [] → IsBusy s y way → ⊥
busy_passes plan s y x way q e u w (inl (IsDecided spoken f)) = quiet_says plan s spoken q f
busy_passes plan s y x way q e u w (inl (IsOnItsWay n)) = n w
busy_passes plan s y x way q e u w (inl (IsUnread n)) = subst HasSomeUnread e n u
busy_passes plan s y x way q e u w (inr n) = some_none x (sym e ∙ n)

-- ---- the car hears something, or does something

heard_unread : (y : Option car_states.Session) (s : State) (bytes rest : List ℕ) (at : ℕ) → (bytes ≡ [] → ⊥) → IsBusy s (car_hearing.session_heard (Bytes bytes) at y) rest
heard_unread None s bytes rest at n = inr refl
heard_unread (Some x) s bytes rest at n = inl (IsUnread (λ e. n (nil_right x.unread bytes e)))

pub busy_car_heard : (y : Option car_states.Session) (s : State) (bytes rest : List ℕ) (at : ℕ) → (bytes ≡ [] → ⊥) → IsBusy s (car_hearing.session_heard (Bytes bytes) at y) rest
busy_car_heard y s bytes rest at n = heard_unread y s bytes rest at n

pub busy_car_acts : (s : State) (y z : Option car_states.Session) (way : List ℕ) → (HasSomeUnread y → HasSomeUnread z) → (y ≡ None → z ≡ None) → IsBusy s y way → IsBusy s z way
busy_car_acts s y z way u n (inl (IsDecided spoken f)) = inl (IsDecided spoken f)
busy_car_acts s y z way u n (inl (IsOnItsWay w)) = inl (IsOnItsWay w)
busy_car_acts s y z way u n (inl (IsUnread k)) = inl (IsUnread (u k))
busy_car_acts s y z way u n (inr e) = inr (n e)

pub pending_car_acts : (s : State) (y z : Option car_states.Session) (way : List ℕ) → (HasSomeUnread z → HasSomeUnread y) → Pending s z way → Pending s y way
pending_car_acts s y z way u (IsDecided spoken f) = IsDecided spoken f
pending_car_acts s y z way u (IsOnItsWay w) = IsOnItsWay w
pending_car_acts s y z way u (IsUnread k) = IsUnread (u k)

-- behind a word nothing is pending
pub none_pending : (plan : PostPlan) (s : State) (y : Option car_states.Session) (x : car_states.Session) (way : List ℕ) → IsQuiet plan s → y ≡ Some x → x.unread ≡ [] → way ≡ [] → Pending s y way → ⊥
none_pending plan s y x way q e u w k = busy_passes plan s y x way q e u w (inl k)
