-- Where a post reads a word, nothing that it did since its last reply was about that word.
use Rattle.std.proofs.Common.{◌≡◌, ℕ, Bool, true, false, ◌&&◌, if◌then◌else◌, List, [], ◌∷◌, map, Option, Some, None, Result, Ok, Err, is_some, refl, sym, ap, subst, ◌∙◌, inl, inr, ◌⊎◌}
use Rattle.std.specs.Option.{option_map}
use Rattle.charge_world.specs.declared.heard.PlantEvent.{PlantEvent}
use Rattle.charge_world.specs.declared.ports.Order.{Order}
use Rattle.charge_world.specs.declared.ports.Order.TheVariants as order
use Rattle.session_words.specs.declared.cause.EndCause.{EndCause}
use Rattle.session_words.specs.declared.cause.EndCause.TheVariants.{BadFrame, Impatient}
use Rattle.session_words.specs.declared.phase.Standing.{Standing}
use Rattle.session_words.specs.declared.phase.Standing.TheVariants as standing
use Rattle.session_words.specs.declared.plan.PostPlan.{PostPlan}
use Rattle.session_words.specs.Causes.{cause_of}
use Rattle.v2gtp_frames.specs.declared.FrameFault.{FrameFault}
use Rattle.v2gtp_frames.specs.Reading.{whole_at}
use Rattle.session_rules.specs.Causes.{plant_cause}
use Rattle.session_rules.specs.Deadlines.{timeout_of}
use Rattle.session_rules.specs.Moves.{stage_behind}
use Rattle.session_rules.specs.Reply.{reply_to}
use Rattle.session_rules.specs.Stages.{is_waiting}
use Rattle.post_spec.specs.Codecs.{Judged, Negotiated, Asked, WrongSide, Refused, Codecs}
use Rattle.post_spec.specs.Contactors as contactors
use Rattle.post_spec.specs.Facts.{now}
use Rattle.post_spec.specs.Sessions.{arriving, brought, session}
use Rattle.post_spec.specs.Steps.{Event, Came, Bytes, Gone, Datagram, Plant, Clock, Over, Act, Give, Send, Answer, End, Seen, Heard, Did, Reading, Step, Hears, Does, seen_of}
use Rattle.post_spec.specs.Talk.{Unless}
use Rattle.station_spec.specs.States.{Spoken, Said, Agenda, Session, State, Todo, nothing, is_done, is_none, first, first_of}
use Rattle.station_spec.specs.States as states
use Rattle.station_spec.specs.Deciding.{opening_if, ending_by, ending_in, repeating, is_reached, due, timing, watch, confirms, confirming, charging_by, charging, eventing, fronting_by, fronting, decided}
use Rattle.station_spec.specs.Judging.{Payload, wanted, asked_session, cause_by, judged, taken_in, read, filled, IsRead}
use Rattle.station_spec.specs.Hearing.{session_opened, with_bytes}
use Rattle.station_spec.specs.Acting.{since_order, replied, failing, agenda_said, acted, state}
use Rattle.station_spec.specs.Next.{IsDone}
use Rattle.station_spec.specs.Sharing.{Shows}
use Rattle.station_laws.specs.PostRuns.{IsPostRun}
use Rattle.station_laws.proofs.Contactors.{contactors_are_read}
use Rattle.station_laws.proofs.Decided.{decided_by, same_session}
use Rattle.read_runs.proofs.Facts.{facts_are_read, steps_clock}
use Rattle.read_runs.proofs.Agendas.{done_empty, say_is, give_is, quiet_done, WantedIn, wanted_in}
use Rattle.read_runs.proofs.Arrivals.{Arrives, steps_arrive}

-- since its last reply, or since its connection, a post did nothing but to repeat an order to open and to answer datagrams
abbrev pub Clear : List Seen → Type 0
Clear [] = Unit {0}
Clear (Heard at event ∷ past) = Unless (arriving past) (Clear past) (Unit {0})
Clear (Did (Give order.Open) taken ∷ past) = (contactors.standing past ≡ standing.MustOpen) × Clear past
Clear (Did (Give order.Close) taken ∷ past) = ⊥
Clear (Did (Give (order.Limits voltage current watts)) taken ∷ past) = ⊥
Clear (Did (Send bytes) taken ∷ past) = Unit {0}
Clear (Did (Answer bytes) taken ∷ past) = Clear past
Clear (Did (End cause) taken ∷ past) = Unit {0}

-- a reply waits, or one is owed, or the session has a cause
abbrev Busy : Option Session → Option Spoken → Option EndCause → Type 0
Busy None reply ending = ⊥
Busy (Some ss) reply ending = (is_waiting ss.stage.row ≡ true) ⊎ ((is_some reply ≡ true) ⊎ (is_some ending ≡ true))

abbrev BusyIn : State → Type 0
BusyIn s = Busy s.session s.agenda.reply s.agenda.ending

abbrev Orderly : Option Session → Agenda → Type 0
Orderly kept a = (a.order ≡ None) ⊎ ((a.order ≡ Some order.Open) × Busy kept a.reply a.ending)

pub record Rested (past : List Seen) (s : State) : Type 0 where
  pub rests : Clear past ⊎ BusyIn s
  pub orderly : Orderly s.session s.agenda
  pub plain : s.agenda.datagram ≡ None

-- once it is decided what is done next
pub record Gives (past : List Seen) (t : State) : Type 0 where
  pub rests : Clear past ⊎ BusyIn t
  pub gives : (o : Order) → t.agenda.order ≡ Some o → BusyIn t ⊎ ((o ≡ order.Open) × (contactors.standing past ≡ standing.MustOpen) × Clear past)
  pub tells : (d : List ℕ) → t.agenda.datagram ≡ Some d → t.agenda.order ≡ None

some_none : {A B : Type 0} (x : A) → None ≡ Some x → B
some_none x h = cc

-- ---- what is decided

abbrev Waits : Option Session → Type 0
Waits None = ⊥
Waits (Some ss) = is_waiting ss.stage.row ≡ true

waits_busy : (kept : Option Session) (reply : Option Spoken) (ending : Option EndCause) → Waits kept → Busy kept reply ending
waits_busy None reply ending w = w
waits_busy (Some ss) reply ending w = inl w

busy_waits : (kept : Option Session) (reply : Option Spoken) (ending : Option EndCause) → reply ≡ None → ending ≡ None → Busy kept reply ending → Waits kept
busy_waits None reply ending r e b = b
busy_waits (Some ss) reply ending r e (inl w) = w
busy_waits (Some ss) reply ending r e (inr (inl x)) = absurd (let y : false ≡ true = sym (ap is_some r) ∙ x in cc)
busy_waits (Some ss) reply ending r e (inr (inr x)) = absurd (let y : false ≡ true = sym (ap is_some e) ∙ x in cc)

rests_as : (past : List Seen) (kept : Option Session) (a : Agenda) → Clear past ⊎ Waits kept → Clear past ⊎ Busy kept a.reply a.ending
rests_as past kept a (inl clear) = inl clear
rests_as past kept a (inr w) = inr (waits_busy kept a.reply a.ending w)

-- an order comes with a cause
abbrev Ends : Option Session → Agenda → Type 0
Ends kept a = ((a.order ≡ None) ⊎ Busy kept a.reply a.ending) × ((d : List ℕ) → a.datagram ≡ Some d → a.order ≡ None)

ends_gives : (past : List Seen) (kept : Option Session) (a : Agenda) (o : Order) → Ends kept a → a.order ≡ Some o → Busy kept a.reply a.ending
ends_gives past kept a o (inl none, tells) e = some_none o (sym none ∙ e)
ends_gives past kept a o (inr busy, tells) e = busy

nothing_ends : (kept : Option Session) → Ends kept nothing
nothing_ends kept = (inl refl, λ d e. refl)

cause_ends : (ss : Session) (cause : EndCause) (on : Bool) → Ends (Some ss) (ending_by cause on)
cause_ends ss cause on = (inr (inr (inr refl)), λ d e. some_none d e)

in_ends : (kept : Option Session) (cause : EndCause) (on : Bool) → Ends kept (ending_in kept cause on)
in_ends None cause on = nothing_ends None
in_ends (Some ss) cause on = cause_ends ss cause on

if_ends : (b : Bool) (ss : Session) (cause : EndCause) (on : Bool) → Ends (Some ss) (if b then ending_by cause on else nothing)
if_ends true ss cause on = cause_ends ss cause on
if_ends false ss cause on = nothing_ends (Some ss)

times_end : (kept : Option Session) (at : ℕ) (on : Bool) → Ends kept (timing kept at on)
times_end None at on = nothing_ends None
times_end (Some ss) at on = if_ends (is_reached (due ss) at) ss (cause_of (timeout_of ss.stage.row)) on

confirms_end : (b : Bool) (kept : Option Session) (spoken : Spoken) → Ends kept (if b then record nothing { reply = Some spoken } else nothing)
confirms_end true kept spoken = (inl refl, λ d e. refl)
confirms_end false kept spoken = nothing_ends kept

charges_end : (plan : PostPlan) (ss : Session) (event : PlantEvent) (s : State) (cause : Option EndCause) → Ends (Some ss) (charging_by cause (confirming plan ss event s) s.live)
charges_end plan ss event s (Some k) = cause_ends ss k s.live
charges_end plan ss event s None = confirms_end (is_waiting ss.stage.row && confirms event) (Some ss) _

charging_ends : (plan : PostPlan) (kept : Option Session) (event : PlantEvent) (s : State) → Ends kept (charging plan kept event s)
charging_ends plan None event s = nothing_ends None
charging_ends plan (Some ss) event s = charges_end plan ss event s (plant_cause (watch plan ss s) event)

events_end : (plan : PostPlan) (e : Event) (s : State) → Ends s.session (eventing plan e s)
events_end plan (Came token) s = in_ends s.session _ s.live
events_end plan (Bytes bytes) s = nothing_ends s.session
events_end plan Gone s = in_ends s.session _ s.live
events_end plan (Datagram bytes) s = (inl refl, λ d e. refl)
events_end plan (Plant event) s = charging_ends plan s.session event s
events_end plan Clock s = nothing_ends s.session
events_end plan Over s = in_ends s.session _ s.live

front_ends : (f : Result (Option ℕ) FrameFault) (waiting : Bool) (ss : Session) (on : Bool) → Ends (Some ss) (fronting_by f waiting on)
front_ends (Err fault) waiting ss on = cause_ends ss BadFrame on
front_ends (Ok None) waiting ss on = nothing_ends (Some ss)
front_ends (Ok (Some n)) true ss on = cause_ends ss Impatient on
front_ends (Ok (Some n)) false ss on = nothing_ends (Some ss)

fronts_end : (kept : Option Session) (on : Bool) → Ends kept (fronting kept on)
fronts_end None on = nothing_ends None
fronts_end (Some ss) on = front_ends (whole_at ss.unread) (is_waiting ss.stage.row) ss on

ended_gives : (past : List Seen) (s t : State) → t.session ≡ s.session → Clear past ⊎ Waits s.session → Ends s.session t.agenda → Gives past t
ended_gives past s t same q e =
    let here : Ends t.session t.agenda = subst (λ (kept : Option Session). Ends kept t.agenda) (sym same) e in
    let r : Clear past ⊎ Waits t.session = subst (λ (kept : Option Session). Clear past ⊎ Waits kept) (sym same) q in
    record { rests = rests_as past t.session t.agenda r; gives = λ o is. inl (ends_gives past t.session t.agenda o here is); tells = here.1 }

repeats_give : (past : List Seen) (s : State) (st : Standing) (o : Order) → st ≡ contactors.standing past → Clear past ⊎ Waits s.session → (repeating st).order ≡ Some o
    → Busy s.session (repeating st).reply (repeating st).ending ⊎ ((o ≡ order.Open) × (contactors.standing past ≡ standing.MustOpen) × Clear past)
repeats_give past s standing.MustOpen o is (inl clear) e = inr (let x : order.Open ≡ o = cc in sym x, sym is, clear)
repeats_give past s standing.MustOpen o is (inr w) e = inl (waits_busy s.session None None w)
repeats_give past s standing.Opened o is q e = some_none o e
repeats_give past s standing.Closing o is q e = some_none o e
repeats_give past s standing.Closed o is q e = some_none o e
repeats_give past s standing.Opening o is q e = some_none o e

repeats_tell : (st : Standing) (d : List ℕ) → (repeating st).datagram ≡ Some d → (repeating st).order ≡ None
repeats_tell standing.MustOpen d e = some_none d e
repeats_tell standing.Opened d e = some_none d e
repeats_tell standing.Closing d e = some_none d e
repeats_tell standing.Closed d e = some_none d e
repeats_tell standing.Opening d e = some_none d e

rested_gives : (past : List Seen) (s : State) → Rested past s → Gives past s
rested_gives past s r = record {
  rests = r.rests;
  gives = λ o e. elim r.orderly [
    | inl none ↦ some_none o (sym none ∙ e)
    | inr x ↦ inl x.1
  ];
  tells = λ d e. some_none d (sym r.plain ∙ e);
}

done_rests : (past : List Seen) (s : State) → Rested past s → is_done s.agenda ≡ true → Clear past ⊎ Waits s.session
done_rests past s r done =
    let e = done_empty s.agenda done in
    elim r.rests [
      | inl clear ↦ inl clear
      | inr busy ↦ inr (busy_waits s.session s.agenda.reply s.agenda.ending e.reply e.ending busy)
    ]

decided_gives : (plan : PostPlan) (past : List Seen) (s : State) → s.facts.contactor ≡ contactors.standing past → Rested past s → Gives past (decided plan s)
decided_gives plan past s stood r =
    decided_by (Gives past) plan s
    (λ done.
    let q = done_rests past s r done in
    record {
      repeats = record {
        rests = rests_as past s.session (repeating s.facts.contactor) q;
        gives = λ o e. repeats_give past s s.facts.contactor o stood q e;
        tells = λ d e. repeats_tell s.facts.contactor d e;
      };
      times = ended_gives past s _ refl q (times_end s.session s.clock s.live);
      events = ended_gives past s _ refl q (events_end plan s.event s);
      fronts = ended_gives past s _ refl q (fronts_end s.session s.live);
    })
    (rested_gives past s r)

-- ---- a word that is read

asked_busy : (b : Bool) (ss : Session) (spoken : Spoken) (ending : Option EndCause) → is_waiting ss.stage.row ≡ b → Busy (Some ss) (if b then None else Some spoken) ending
asked_busy true ss spoken ending w = inl w
asked_busy false ss spoken ending w = inr (inl refl)

busy_gives : (past : List Seen) (t : State) → BusyIn t → t.agenda.datagram ≡ None → Gives past t
busy_gives past t busy plain = record { rests = inr busy; gives = λ o e. inl busy; tells = λ d e. some_none d (sym plain ∙ e) }

judged_gives : (plan : PostPlan) (past : List Seen) (s : State) (ss : Session) (w : Judged) (shown : ℕ) → Gives past (judged plan s ss w shown)
judged_gives plan past s ss (Negotiated chosen response) shown = busy_gives past _ (inr (inl refl)) refl
judged_gives plan past s ss (Asked r) shown = busy_gives past _ (asked_busy (is_waiting (stage_behind ss.stage s.facts plan r shown).row) (asked_session ss plan s r shown) (Said ss.stage.dialect (reply_to ss.stage s.facts plan r shown)) (cause_by ss.stage plan s r) refl) refl
judged_gives plan past s ss WrongSide shown = busy_gives past _ (inr (inr refl)) refl
judged_gives plan past s ss Refused shown = busy_gives past _ (inr (inr refl)) refl

taken_gives : (plan : PostPlan) (past : List Seen) (s : State) (kept : Option Session) (r : Reading) → Gives past s → Gives past (taken_in plan s kept r)
taken_gives plan past s None r g = g
taken_gives plan past s (Some ss) r g = judged_gives plan past s ss r.judged r.shown

read_gives : (plan : PostPlan) (past : List Seen) (s : State) (r : Option Reading) → Gives past s → Gives past (read plan s r)
read_gives plan past s None g = g
read_gives plan past s (Some r) g = taken_gives plan past s s.session r g

-- ---- an act

give_plain : (d : Option (List ℕ)) (o : Option Order) (r : Option Spoken) (e : Option EndCause) (x : Order) → first_of d o r e ≡ Some (states.Give x) → d ≡ None
give_plain None o r e x h = refl
give_plain (Some d) o r e x h = cc

say_plain : (d : Option (List ℕ)) (o : Option Order) (r : Option Spoken) (e : Option EndCause) (x : Spoken) → first_of d o r e ≡ Some (states.Say x) → d ≡ None
say_plain None o r e x h = refl
say_plain (Some d) o r e x h = cc

tell_is : (d : Option (List ℕ)) (o : Option Order) (r : Option Spoken) (e : Option EndCause) (x : List ℕ) → first_of d o r e ≡ Some (states.Tell x) → d ≡ Some x
tell_is (Some d) o r e x h = cc
tell_is None (Some o) r e x h = cc
tell_is None None (Some r) e x h = cc
tell_is None None None (Some e) x h = cc
tell_is None None None None x h = cc

since_busy : (now : ℕ) (o : Order) (kept : Option Session) (reply : Option Spoken) (ending : Option EndCause) → Busy kept reply ending → Busy (option_map (since_order now o) kept) reply ending
since_busy now o None reply ending b = b
since_busy now order.Open (Some ss) reply ending b = b
since_busy now order.Close (Some ss) reply ending b = b
since_busy now (order.Limits voltage current watts) (Some ss) reply ending b = b

opened_clear : (past : List Seen) (o : Order) (taken : Bool) → o ≡ order.Open → contactors.standing past ≡ standing.MustOpen → Clear past → Clear (Did (Give o) taken ∷ past)
opened_clear past o taken e must clear = subst (λ (x : Order). Clear (Did (Give x) taken ∷ past)) (sym e) (must, clear)

pub record IsLeft (past : List Seen) (kept : Option Session) (a : Agenda) : Type 0 where
  pub rests : Clear past ⊎ Busy kept a.reply a.ending
  pub orderly : Orderly kept a
  pub plain : a.datagram ≡ None

opening_orderly : (ss : Session) (cause : EndCause) (on : Bool) → Orderly (Some ss) (ending_by cause on)
opening_orderly ss cause true = inr (refl, inr (inr refl))
opening_orderly ss cause false = inl refl

cause_left : (past : List Seen) (kept : Option Session) (cause : EndCause) (on : Bool) → (kept ≡ None → Clear past) → IsLeft past kept (ending_in kept cause on)
cause_left past None cause on clear = record { rests = inl (clear refl); orderly = inl refl; plain = refl }
cause_left past (Some ss) cause on clear = record { rests = inr (inr (inr refl)); orderly = opening_orderly ss cause on; plain = refl }

one_cause : (past : List Seen) (kept : Option Session) (k : EndCause) → Clear past ⊎ Busy kept None (Some k) → IsLeft past kept (record nothing { ending = Some k })
one_cause past kept k q = record { rests = q; orderly = inl refl; plain = refl }

fails_left : (past : List Seen) (e : Option EndCause) (kept : Option Session) (cause : EndCause) (on : Bool) → (kept ≡ None → Clear past) → IsLeft past kept (failing e kept cause on)
fails_left past None kept cause on clear = cause_left past kept cause on clear
fails_left past (Some k) None cause on clear = one_cause past None k (inl (clear refl))
fails_left past (Some k) (Some ss) cause on clear = one_cause past (Some ss) k (inr (inr (inr refl)))

said_left : (past : List Seen) (now : ℕ) (b : Option EndCause) (kept : Option Session) (a : Agenda) (on : Bool) → a.order ≡ None → a.datagram ≡ None → Clear past → IsLeft past (option_map (replied now) kept) (agenda_said b kept a on)
said_left past now None kept a on o d clear = record { rests = inl clear; orderly = inl o; plain = d }
said_left past now (Some k) None a on o d clear = record { rests = inl clear; orderly = inl refl; plain = refl }
said_left past now (Some k) (Some ss) a on o d clear = record { rests = inl clear; orderly = opening_orderly (replied now ss) k on; plain = refl }

rested : (past : List Seen) (s : State) → IsLeft past s.session s.agenda → Rested past s
rested past s l = record { rests = l.rests; orderly = l.orderly; plain = l.plain }

none_gave : (past : List Seen) (f : State) (o : Order) (taken : Bool) → Gives past f → f.agenda.order ≡ Some o → f.session ≡ None → Clear (Did (Give o) taken ∷ past)
none_gave past f o taken g e n = elim (g.gives o e) [
  | inl busy ↦ absurd (subst (λ (kept : Option Session). Busy kept f.agenda.reply f.agenda.ending) n busy)
  | inr x ↦ opened_clear past o taken x.0 x.1 x.2
]

gave_left : (past : List Seen) (f : State) (o : Order) (taken : Bool) → Gives past f → f.agenda.order ≡ Some o → f.agenda.datagram ≡ None → Rested (Did (Give o) taken ∷ past) (acted (Give o) taken f)
gave_left past f o true g e d = record {
  rests = elim (g.gives o e) [
    | inl busy ↦ inr (since_busy f.clock o f.session f.agenda.reply f.agenda.ending busy)
    | inr x ↦ inl (opened_clear past o true x.0 x.1 x.2)
  ];
  orderly = inl refl;
  plain = d;
}
gave_left past f o false g e d =
    rested (Did (Give o) false ∷ past) (acted (Give o) false f) (fails_left (Did (Give o) false ∷ past) f.agenda.ending f.session _ _ (λ n. none_gave past f o false g e n))

spoke_left : (past : List Seen) (f : State) (bytes : List ℕ) (taken : Bool) → f.agenda.order ≡ None → f.agenda.datagram ≡ None → Rested (Did (Send bytes) taken ∷ past) (acted (Send bytes) taken f)
spoke_left past f bytes true o d =
    rested (Did (Send bytes) true ∷ past) (acted (Send bytes) true f)
    (said_left (Did (Send bytes) true ∷ past) f.clock f.agenda.behind_reply f.session f.agenda f.live o d tt)
spoke_left past f bytes false o d = rested (Did (Send bytes) false ∷ past) (acted (Send bytes) false f) (fails_left (Did (Send bytes) false ∷ past) f.agenda.ending f.session _ f.live (λ n. tt))

acted_rested : (c : Codecs) (past : List Seen) (f : State) (todo : Todo) (a : Act) (taken : Bool) → first f.agenda ≡ Some todo → IsDone c todo a taken → Gives past f → Rested (Did a taken ∷ past) (acted a taken f)
acted_rested c past f (states.Tell d) a taken t i g =
    subst (λ (x : Act). Rested (Did x taken ∷ past) (acted x taken f)) (sym i)
    (record { rests = g.rests; orderly = inl (g.tells d (tell_is f.agenda.datagram f.agenda.order f.agenda.reply f.agenda.ending d t)); plain = refl })
acted_rested c past f (states.Give o) a taken t i g =
    subst (λ (x : Act). Rested (Did x taken ∷ past) (acted x taken f)) (sym i)
    (gave_left past f o taken g (give_is f.agenda.datagram f.agenda.order f.agenda.reply f.agenda.ending o t) (give_plain f.agenda.datagram f.agenda.order f.agenda.reply f.agenda.ending o t))
acted_rested c past f (states.Say spoken) a taken t i g =
    subst (λ (x : Act). Rested (Did x taken ∷ past) (acted x taken f)) (sym i.2)
    (spoke_left past f i.0 taken (say_is f.agenda.datagram f.agenda.order f.agenda.reply f.agenda.ending spoken t).1 (say_plain f.agenda.datagram f.agenda.order f.agenda.reply f.agenda.ending spoken t))
acted_rested c past f (states.Finish cause) a taken t i g =
    subst (λ (x : Act). Rested (Did x taken ∷ past) (acted x taken f)) (sym i.0) (record { rests = inl tt; orderly = inl refl; plain = refl })

-- ---- a hearing

bytes_wait : (bytes : List ℕ) (kept : Option Session) (reply : Option Spoken) (ending : Option EndCause) → Waits kept → Busy (option_map (with_bytes bytes) kept) reply ending
bytes_wait bytes None reply ending w = w
bytes_wait bytes (Some ss) reply ending w = inl w

heard_rests : (past : List Seen) (at clock : ℕ) (e : Event) (token : Option ℕ) (came : Option Seen) (kept : Option Session) → Arrives token came clock → Clear past ⊎ Waits kept
    → Unless came (Clear past) (Unit {0}) ⊎ Busy (option_map (with_bytes (brought e)) (session_opened token clock kept)) None None
heard_rests past at clock e None None kept a (inl clear) = inl clear
heard_rests past at clock e None None kept a (inr w) = inr (bytes_wait (brought e) kept None None w)
heard_rests past at clock e None (Some came) kept a q = absurd a
heard_rests past at clock e (Some token) None kept a q = absurd a
heard_rests past at clock e (Some token) (Some came) kept a q = inl tt

-- ---- all steps

pub steps_rest : (c : Codecs) (plan : PostPlan) (steps : List Step) → IsPostRun c plan steps → Rested (map seen_of steps) (state plan steps)
steps_rest c plan [] run = record { rests = inl tt; orderly = inl refl; plain = refl }
steps_rest c plan (Hears at e ∷ steps) (run, quiet) =
    let past = map seen_of steps in
    let s = state plan steps in
    record {
      rests = heard_rests (map seen_of steps) at (state plan steps).clock e (state plan steps).arrived (arriving (map seen_of steps)) (state plan steps).session
          (subst (Arrives (state plan steps).arrived (arriving (map seen_of steps))) (sym (steps_clock plan steps)) (steps_arrive plan steps))
          (done_rests (map seen_of steps) (state plan steps) (steps_rest c plan steps run) (quiet_done plan (state plan steps) quiet));
      orderly = inl refl;
      plain = refl;
    }
steps_rest c plan (Does r a taken ∷ steps) (run, (limit, before, behind, acts)) =
    let s = state plan steps in
    acted_rested c (map seen_of steps) (filled plan r (state plan steps)) acts.todo a taken acts.acts acts.done
    (read_gives plan (map seen_of steps) (decided plan (state plan steps)) r (decided_gives plan (map seen_of steps) (state plan steps) (contactors_are_read plan steps).standing_is (steps_rest c plan steps run)))

-- ---- so where a word is read

read_clear : (past : List Seen) (t : State) (kept : Option Session) (p : Payload) → t.session ≡ kept → WantedIn t kept p → Clear past ⊎ Busy kept t.agenda.reply t.agenda.ending → Clear past
read_clear past t None p k i q = absurd i
read_clear past t (Some ss) p k i (inl clear) = clear
read_clear past t (Some ss) p k i (inr busy) =
    let e = done_empty t.agenda i.1.done in
    let w = busy_waits (Some ss) t.agenda.reply t.agenda.ending e.reply e.ending busy in
    absurd (let x : true ≡ false = sym w ∙ i.1.goes in cc)

wanted_clear : (c : Codecs) (plan : PostPlan) (S : ℕ → ℕ → Type 0) (past : List Seen) (t : State) (w : Option Payload) (r : Reading) → wanted t ≡ w → IsRead c plan S t w (Some r) → Gives past t → Clear past
wanted_clear c plan S past t None r e i g = absurd i
wanted_clear c plan S past t (Some p) r e i g = read_clear past t t.session p refl (wanted_in t p e) g.rests

pub reads_clear : (c : Codecs) (plan : PostPlan) (r : Reading) (a : Act) (taken : Bool) (steps : List Step) → IsPostRun c plan (Does (Some r) a taken ∷ steps) → Clear (map seen_of steps)
reads_clear c plan r a taken steps (run, (limit, before, behind, acts)) =
    let s = state plan steps in
    wanted_clear c plan (Shows limit before behind) (map seen_of steps) (decided plan (state plan steps)) (wanted (decided plan (state plan steps))) r refl acts.read
    (decided_gives plan (map seen_of steps) (state plan steps) (contactors_are_read plan steps).standing_is (steps_rest c plan steps run))

-- ---- and an order to close is about a word

abbrev NoClose : State → Type 0
NoClose t = t.agenda.order ≡ Some order.Close → ⊥

opens_not : (on : Bool) → opening_if on ≡ Some order.Close → ⊥
opens_not true h = cc
opens_not false h = cc

in_not : (kept : Option Session) (cause : EndCause) (on : Bool) → (ending_in kept cause on).order ≡ Some order.Close → ⊥
in_not None cause on h = cc
in_not (Some ss) cause on h = opens_not on h

if_not : (b : Bool) (cause : EndCause) (on : Bool) → (if b then ending_by cause on else nothing).order ≡ Some order.Close → ⊥
if_not true cause on h = opens_not on h
if_not false cause on h = cc

times_not : (kept : Option Session) (at : ℕ) (on : Bool) → (timing kept at on).order ≡ Some order.Close → ⊥
times_not None at on h = cc
times_not (Some ss) at on h = if_not (is_reached (due ss) at) (cause_of (timeout_of ss.stage.row)) on h

repeats_not : (st : Standing) → (repeating st).order ≡ Some order.Close → ⊥
repeats_not standing.MustOpen h = cc
repeats_not standing.Opened h = cc
repeats_not standing.Closing h = cc
repeats_not standing.Closed h = cc
repeats_not standing.Opening h = cc

confirms_not : (b : Bool) (spoken : Spoken) → (if b then record nothing { reply = Some spoken } else nothing).order ≡ Some order.Close → ⊥
confirms_not true spoken h = cc
confirms_not false spoken h = cc

charges_not : (plan : PostPlan) (ss : Session) (event : PlantEvent) (s : State) (cause : Option EndCause) → (charging_by cause (confirming plan ss event s) s.live).order ≡ Some order.Close → ⊥
charges_not plan ss event s (Some k) h = opens_not s.live h
charges_not plan ss event s None h = confirms_not (is_waiting ss.stage.row && confirms event) _ h

charging_not : (plan : PostPlan) (kept : Option Session) (event : PlantEvent) (s : State) → (charging plan kept event s).order ≡ Some order.Close → ⊥
charging_not plan None event s h = cc
charging_not plan (Some ss) event s h = charges_not plan ss event s (plant_cause (watch plan ss s) event) h

events_not : (plan : PostPlan) (e : Event) (s : State) → (eventing plan e s).order ≡ Some order.Close → ⊥
events_not plan (Came token) s h = in_not s.session _ s.live h
events_not plan (Bytes bytes) s h = cc
events_not plan Gone s h = in_not s.session _ s.live h
events_not plan (Datagram bytes) s h = cc
events_not plan (Plant event) s h = charging_not plan s.session event s h
events_not plan Clock s h = cc
events_not plan Over s h = in_not s.session _ s.live h

front_not : (f : Result (Option ℕ) FrameFault) (waiting on : Bool) → (fronting_by f waiting on).order ≡ Some order.Close → ⊥
front_not (Err fault) waiting on h = opens_not on h
front_not (Ok None) waiting on h = cc
front_not (Ok (Some n)) true on h = opens_not on h
front_not (Ok (Some n)) false on h = cc

fronts_not : (kept : Option Session) (on : Bool) → (fronting kept on).order ≡ Some order.Close → ⊥
fronts_not None on h = cc
fronts_not (Some ss) on h = front_not (whole_at ss.unread) (is_waiting ss.stage.row) on h

orderly_not : (kept : Option Session) (a : Agenda) → Orderly kept a → a.order ≡ Some order.Close → ⊥
orderly_not kept a (inl none) h = some_none order.Close (sym none ∙ h)
orderly_not kept a (inr x) h = let y : Some order.Open ≡ Some order.Close = sym x.0 ∙ h in cc

decided_not_close : (plan : PostPlan) (past : List Seen) (s : State) → Rested past s → NoClose (decided plan s)
decided_not_close plan past s r =
    decided_by NoClose plan s
    (λ done. record {
      repeats = repeats_not s.facts.contactor;
      times = times_not s.session s.clock s.live;
      events = events_not plan s.event s;
      fronts = fronts_not s.session s.live;
    })
    (orderly_not s.session s.agenda r.orderly)

closes_todo : (c : Codecs) (todo : Todo) (taken : Bool) → IsDone c todo (Give order.Close) taken → todo ≡ states.Give order.Close
closes_todo c (states.Tell d) taken i = cc
closes_todo c (states.Give o) taken i = let x : order.Close ≡ o = cc in ap states.Give (sym x)
closes_todo c (states.Say spoken) taken i = let x = i.2 in cc
closes_todo c (states.Finish cause) taken i = let x = i.0 in cc

pub closing_read : (c : Codecs) (plan : PostPlan) (r : Option Reading) (taken : Bool) (steps : List Step) → IsPostRun c plan (Does r (Give order.Close) taken ∷ steps) → (x : Reading) × (r ≡ Some x)
closing_read c plan (Some x) taken steps run = (x, refl)
closing_read c plan None taken steps (run, (limit, before, behind, acts)) =
    let t = decided plan (state plan steps) in
    let a = t.agenda in
    let e = closes_todo c acts.todo taken acts.done in
    let f : first (decided plan (state plan steps)).agenda ≡ Some (states.Give order.Close) = acts.acts ∙ ap Some e in
    absurd (decided_not_close plan (map seen_of steps) (state plan steps) (steps_rest c plan steps run) (give_is a.datagram a.order a.reply a.ending order.Close f))

-- as a word is read its session lives
some_of : (o : Option (List Seen)) (b : Bool) → b ≡ is_some o → b ≡ true → (es : List Seen) × (o ≡ Some es)
some_of None b e t = absurd (let x : true ≡ false = sym t ∙ e in cc)
some_of (Some es) b e t = (es, refl)

kept_some : (t : State) (kept : Option Session) (p : Payload) → t.session ≡ kept → WantedIn t kept p → is_some t.session ≡ true
kept_some t None p k i = absurd i
kept_some t (Some ss) p k i = ap is_some k

read_some : (c : Codecs) (plan : PostPlan) (S : ℕ → ℕ → Type 0) (t : State) (w : Option Payload) (r : Reading) → wanted t ≡ w → IsRead c plan S t w (Some r) → is_some t.session ≡ true
read_some c plan S t None r e i = absurd i
read_some c plan S t (Some p) r e i = kept_some t t.session p refl (wanted_in t p e)

pub read_lives : (c : Codecs) (plan : PostPlan) (r : Reading) (a : Act) (taken : Bool) (steps : List Step) → IsPostRun c plan (Does (Some r) a taken ∷ steps) → (es : List Seen) × (session (map seen_of steps) ≡ Some es)
read_lives c plan r a taken steps (run, (limit, before, behind, acts)) =
    let s = state plan steps in
    let on = read_some c plan (Shows limit before behind) (decided plan (state plan steps)) (wanted (decided plan (state plan steps))) r refl acts.read in
    some_of (session (map seen_of steps)) (is_some (state plan steps).session) (facts_are_read plan steps).session_is (sym (ap is_some (same_session plan (state plan steps))) ∙ on)
