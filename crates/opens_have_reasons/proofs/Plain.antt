-- What is left of an agenda has no datagram and nothing behind its reply; and a negotiation that matched nothing.
use Rattle.std.proofs.Common.{◌≡◌, ℕ, Bool, true, false, if◌then◌else◌, List, [], ◌∷◌, length, map, ◌&&◌, Option, Some, None, Result, Ok, Err, MatchBool, refl, sym, ap, subst, ◌∙◌}
use Rattle.charge_world.specs.declared.offer.Dialect.{Dialect}
use Rattle.charge_world.specs.declared.heard.PlantEvent.{PlantEvent}
use Rattle.charge_world.specs.declared.ports.Order.{Order}
use Rattle.charge_world.specs.declared.ports.Order.TheVariants as order
use Rattle.session_words.specs.declared.cause.EndCause.{EndCause}
use Rattle.session_words.specs.declared.cause.EndCause.TheVariants.{SendFailed, OrderFailed}
use Rattle.session_words.specs.declared.phase.Phase.{Phase}
use Rattle.session_words.specs.declared.phase.Phase.TheVariants as row
use Rattle.session_words.specs.declared.phase.Standing.{Standing}
use Rattle.session_words.specs.declared.phase.Standing.TheVariants as standing
use Rattle.session_words.specs.declared.plan.PostPlan.{PostPlan}
use Rattle.v2gtp_frames.specs.declared.FrameFault.{FrameFault}
use Rattle.v2gtp_frames.specs.Frames.{frame}
use Rattle.v2gtp_frames.specs.Reading.{whole_at, payload_at, behind_frames}
use Rattle.session_rules.specs.Causes.{plant_cause}
use Rattle.session_rules.specs.Stages.{is_waiting}
use Rattle.post_spec.specs.Codecs.{Judged, Negotiated, Asked, WrongSide, Refused, Codecs, Judges}
use Rattle.post_spec.specs.Sessions.{session, stream}
use Rattle.post_spec.specs.Steps.{Event, Came as Arrives, Bytes, Gone, Datagram, Plant, Clock, Over, Give, Send, Answer, End, Seen, Reading, Step, Hears, Does, seen_of}
use Rattle.post_spec.specs.Talk.{Exchange, Negotiation, Negotiates, OneMore, InSession, Talks}
use Rattle.station_spec.specs.States.{Agenda, Part, Repeating, Timing, Eventing, Wording, Session, State, Spoken, Response, nothing, first, first_of, is_done, is_none}
use Rattle.station_spec.specs.States as states
use Rattle.station_spec.specs.Deciding.{opening_if, ending_in, repeating, timing, watch, confirms, confirming, charging_by, charging, eventing, fronting_by, fronting, due, is_reached, decided}
use Rattle.station_spec.specs.Judging.{Payload as Wanted, judged, taken_in, wanted, filled, IsRead}
use Rattle.station_spec.specs.Acting.{failing, agenda_said, live_ordered, state}
use Rattle.station_spec.specs.Next.{IsDone, Acts}
use Rattle.station_spec.specs.Sharing.{Shows}
use Rattle.station_laws.proofs.Decided.{decided_by}
use Rattle.station_laws.specs.PostRuns.{IsPostRun}
use Rattle.read_runs.proofs.Agendas.{IsWanted, WantedIn, wanted_in, wanted_done, chosen_first, connected_of}
use Rattle.safe_runs.proofs.Links.{Link, Pending, Waits, Tie}
use Rattle.safe_runs.proofs.Rows.{RowHas}
use Rattle.safe_runs.proofs.Parts.{decided_planned}
use Rattle.safe_runs.proofs.Safety.{run_linked}
use Rattle.standing_causes_open.proofs.Again.{give_todo, tells_unread}
use Rattle.opens_have_reasons.proofs.Opening.{All}

-- What is decided without a word has nothing behind its reply, and no order beside a datagram.

abbrev pub Plain : Agenda → Type 0
Plain a = (a.behind_reply ≡ None) × ((d : List ℕ) → a.datagram ≡ Some d → a.order ≡ None)

no_datagram : (d : List ℕ) (o : Option Order) → None ≡ Some d → o ≡ None
no_datagram d o h = cc

plain_in : (kept : Option Session) (cause : EndCause) (on : Bool) → Plain (ending_in kept cause on)
plain_in None cause on = (refl, λ d e. refl)
plain_in (Some ss) cause on = (refl, λ d e. no_datagram d (opening_if on) e)

plain_repeating : (st : Standing) → Plain (repeating st)
plain_repeating standing.MustOpen = (refl, λ d e. no_datagram d (Some order.Open) e)
plain_repeating standing.Opened = (refl, λ d e. refl)
plain_repeating standing.Closing = (refl, λ d e. refl)
plain_repeating standing.Closed = (refl, λ d e. refl)
plain_repeating standing.Opening = (refl, λ d e. refl)

plain_if : (b : Bool) (x y : Agenda) → Plain x → Plain y → Plain (if b then x else y)
plain_if true x y p q = p
plain_if false x y p q = q

plain_nothing : Plain nothing
plain_nothing = (refl, λ d e. refl)

plain_timing : (kept : Option Session) (at : ℕ) (on : Bool) → Plain (timing kept at on)
plain_timing None at on = plain_nothing
plain_timing (Some ss) at on = plain_if (is_reached (due ss) at) _ nothing (refl, λ d e. no_datagram d (opening_if on) e) plain_nothing

plain_charged : (plan : PostPlan) (ss : Session) (event : PlantEvent) (s : State) (o : Option EndCause) → Plain (charging_by o (confirming plan ss event s) s.live)
plain_charged plan ss event s (Some k) = (refl, λ d e. no_datagram d (opening_if s.live) e)
plain_charged plan ss event s None = plain_if (is_waiting ss.stage.row && confirms event) _ nothing (refl, λ d e. refl) plain_nothing

plain_charging : (plan : PostPlan) (kept : Option Session) (event : PlantEvent) (s : State) → Plain (charging plan kept event s)
plain_charging plan None event s = plain_nothing
plain_charging plan (Some ss) event s = plain_charged plan ss event s (plant_cause (watch plan ss s) event)

plain_event : (plan : PostPlan) (e : Event) (s : State) → Plain (eventing plan e s)
plain_event plan (Arrives token) s = plain_in s.session _ s.live
plain_event plan (Bytes bytes) s = plain_nothing
plain_event plan Gone s = plain_in s.session _ s.live
plain_event plan (Datagram bytes) s = (refl, λ d e. refl)
plain_event plan (Plant event) s = plain_charging plan s.session event s
plain_event plan Clock s = plain_nothing
plain_event plan Over s = plain_in s.session _ s.live

plain_by : (f : Result (Option ℕ) FrameFault) (w on : Bool) → Plain (fronting_by f w on)
plain_by (Err fault) w on = (refl, λ d e. no_datagram d (opening_if on) e)
plain_by (Ok None) w on = plain_nothing
plain_by (Ok (Some n)) true on = (refl, λ d e. no_datagram d (opening_if on) e)
plain_by (Ok (Some n)) false on = plain_nothing

plain_front : (kept : Option Session) (on : Bool) → Plain (fronting kept on)
plain_front None on = plain_nothing
plain_front (Some ss) on = plain_by (whole_at ss.unread) (is_waiting ss.stage.row) on

-- what is left of an agenda has neither
pub record Clean (a : Agenda) : Type 0 where
  pub datagram : a.datagram ≡ None
  pub behind : a.behind_reply ≡ None

clean_plain : (a : Agenda) → Clean a → Plain a
clean_plain a h = (h.behind, λ d e. no_datagram d a.order (sym h.datagram ∙ e))

pub decided_plain : (plan : PostPlan) (s : State) → Clean s.agenda → Plain (decided plan s).agenda
decided_plain plan s h = decided_by (λ (t : State). Plain t.agenda) plan s (λ d. record { repeats = plain_repeating s.facts.contactor; times = plain_timing s.session s.clock s.live; events = plain_event plan s.event s; fronts = plain_front s.session s.live }) (clean_plain s.agenda h)

clean_in : (kept : Option Session) (cause : EndCause) (on : Bool) → Clean (ending_in kept cause on)
clean_in None cause on = record { datagram = refl; behind = refl }
clean_in (Some ss) cause on = record { datagram = refl; behind = refl }

clean_failing : (e : Option EndCause) (kept : Option Session) (cause : EndCause) (on : Bool) → Clean (failing e kept cause on)
clean_failing None kept cause on = clean_in kept cause on
clean_failing (Some k) kept cause on = record { datagram = refl; behind = refl }

clean_said : (b : Option EndCause) (kept : Option Session) (a : Agenda) (on : Bool) → a.behind_reply ≡ b → a.datagram ≡ None → Clean (agenda_said b kept a on)
clean_said None kept a on e d = record { datagram = d; behind = e }
clean_said (Some k) kept a on e d = clean_in kept k on

before_give : (d : Option (List ℕ)) (o : Option Order) (r : Option Spoken) (e : Option EndCause) (x : Order) → first_of d o r e ≡ Some (states.Give x) → d ≡ None
before_give (Some d) o r e x h = cc
before_give None o r e x h = refl

before_say : (d : Option (List ℕ)) (o : Option Order) (r : Option Spoken) (e : Option EndCause) (x : Spoken) → first_of d o r e ≡ Some (states.Say x) → d ≡ None
before_say (Some d) o r e x h = cc
before_say None o r e x h = refl

pub tell_is : (d : Option (List ℕ)) (o : Option Order) (r : Option Spoken) (e : Option EndCause) (x : List ℕ) → first_of d o r e ≡ Some (states.Tell x) → d ≡ Some x
tell_is (Some d) o r e x h = cc
tell_is None (Some o) r e x h = cc
tell_is None None (Some r) e x h = cc
tell_is None None None (Some e) x h = cc
tell_is None None None None x h = cc

judged_behind : (plan : PostPlan) (s : State) (ss : Session) (w : Judged) (shown : ℕ) (x : Order) → first (judged plan s ss w shown).agenda ≡ Some (states.Give x) → (judged plan s ss w shown).agenda.behind_reply ≡ None
judged_behind plan s ss (Negotiated chosen response) shown x h = cc
judged_behind plan s ss (Asked r) shown x h = refl
judged_behind plan s ss WrongSide shown x h = refl
judged_behind plan s ss Refused shown x h = refl

taken_behind : (plan : PostPlan) (s : State) (kept : Option Session) (r : Reading) (x : Order) → s.agenda.behind_reply ≡ None → first (taken_in plan s kept r).agenda ≡ Some (states.Give x) → (taken_in plan s kept r).agenda.behind_reply ≡ None
taken_behind plan s None r x k h = k
taken_behind plan s (Some ss) r x k h = judged_behind plan s ss r.judged r.shown x h

filled_behind : (plan : PostPlan) (s : State) (r : Option Reading) (x : Order) → Clean s.agenda → first (filled plan r s).agenda ≡ Some (states.Give x) → (filled plan r s).agenda.behind_reply ≡ None
filled_behind plan s None x k h = (decided_plain plan s k).0
filled_behind plan s (Some r) x k h = taken_behind plan (decided plan s) (decided plan s).session r x (decided_plain plan s k).0 h

-- which thing an act does
pub say_todo : (c : Codecs) (todo : states.Todo) (bytes : List ℕ) (taken : Bool) → IsDone c todo (Send bytes) taken → (spoken : Spoken) × (todo ≡ states.Say spoken)
say_todo c (states.Tell d) bytes taken i = cc
say_todo c (states.Give o) bytes taken i = cc
say_todo c (states.Say spoken) bytes taken i = (spoken, refl)
say_todo c (states.Finish cause) bytes taken i = absurd (let x : Send bytes ≡ _ = i.0 in cc)

pub tell_todo : (c : Codecs) (todo : states.Todo) (d : List ℕ) (taken : Bool) → IsDone c todo (Answer d) taken → todo ≡ states.Tell d
tell_todo c (states.Tell x) d taken i = let y : Answer d ≡ Answer x = i in let z : x ≡ d = cc in ap states.Tell z
tell_todo c (states.Give o) d taken i = cc
tell_todo c (states.Say spoken) d taken i = absurd (let x : Answer d ≡ _ = i.2 in cc)
tell_todo c (states.Finish cause) d taken i = absurd (let x : Answer d ≡ _ = i.0 in cc)

pub answer_unread : (c : Codecs) (plan : PostPlan) (S : ℕ → ℕ → Type 0) (s : State) (r : Option Reading) (d : List ℕ) (taken : Bool) → Acts c plan S s r (Answer d) taken → r ≡ None
answer_unread c plan S s None d taken acts = refl
answer_unread c plan S s (Some r) d taken acts = absurd (tells_unread c plan S s r d taken acts)

pub steps_clean : (c : Codecs) (plan : PostPlan) (steps : List Step) → IsPostRun c plan steps → Clean (state plan steps).agenda
steps_clean c plan [] run = record { datagram = refl; behind = refl }
steps_clean c plan (Hears at e ∷ steps) run = record { datagram = refl; behind = refl }
steps_clean c plan (Does r (Give x) true ∷ steps) (run, (limit, before, later, acts)) =
    let f = filled plan r (state plan steps) in
    let h = acts.acts ∙ ap Some (give_todo c acts.todo x true acts.done) in
    record { datagram = before_give f.agenda.datagram f.agenda.order f.agenda.reply f.agenda.ending x h; behind = filled_behind plan (state plan steps) r x (steps_clean c plan steps run) h }
steps_clean c plan (Does r (Give x) false ∷ steps) run = let f = filled plan r (state plan steps) in clean_failing f.agenda.ending f.session OrderFailed (live_ordered x false f.live)
steps_clean c plan (Does r (Send bytes) true ∷ steps) (run, (limit, before, later, acts)) =
    let f = filled plan r (state plan steps) in
    let todo = say_todo c acts.todo bytes true acts.done in
    clean_said f.agenda.behind_reply f.session f.agenda f.live refl (before_say f.agenda.datagram f.agenda.order f.agenda.reply f.agenda.ending todo.0 (acts.acts ∙ ap Some todo.1))
steps_clean c plan (Does r (Send bytes) false ∷ steps) run = let f = filled plan r (state plan steps) in clean_failing f.agenda.ending f.session SendFailed f.live
steps_clean c plan (Does r (Answer d) taken ∷ steps) (run, (limit, before, later, acts)) =
    let e = answer_unread c plan (Shows limit before later) (state plan steps) r d taken acts in
    record { datagram = refl; behind = subst (λ (o : Option Reading). (filled plan o (state plan steps)).agenda.behind_reply ≡ None) (sym e) (decided_plain plan (state plan steps) (steps_clean c plan steps run)).0 }
steps_clean c plan (Does r (End cause) taken ∷ steps) run = record { datagram = refl; behind = refl }

-- A negotiation that matched nothing.

pub record NoMatch (c : Codecs) (offers : List Dialect) (past : List Seen) (bytes : List ℕ) : Type 0 where
  pub es : List Seen
  pub here : session past ≡ Some es
  pub negotiates : Negotiates c offers (stream es) bytes None
  pub before : Talks c offers past []

still_talk : (A B : Type 0) (b : Bool) → b ≡ false → MatchBool b A B → B
still_talk A B true e m = cc
still_talk A B false e m = m

row_none : (here : Phase) (xs : List Exchange) → here ≡ row.Connected → RowHas here xs → xs ≡ []
row_none here xs e h = subst (λ (p : Phase). RowHas p xs) e h

response_bytes : (c : Codecs) (todo : states.Todo) (response bytes : List ℕ) (taken : Bool) → Some (states.Say (Response response)) ≡ Some todo → IsDone c todo (Send bytes) taken → bytes ≡ frame response
response_bytes c (states.Tell d) response bytes taken e i = cc
response_bytes c (states.Give o) response bytes taken e i = cc
response_bytes c (states.Say (Response payload)) response bytes taken e i =
    let same : response ≡ payload = cc in
    let sent : Send bytes ≡ Send i.0 = i.2 in
    let one : bytes ≡ i.0 = cc in
    one ∙ i.1 ∙ ap frame (sym same)
response_bytes c (states.Say (states.Said dialect reply)) response bytes taken e i = cc
response_bytes c (states.Finish cause) response bytes taken e i = cc

linked_no_match : (c : Codecs) (plan : PostPlan) (past es : List Seen) (ss : Session) (d : State) (p : Wanted) (n : ℕ) (response bytes : List ℕ) → session past ≡ Some es → Link c plan past es ss.stage ss.unread None None (Unit {0}) → IsWanted d ss n p
    → Judges c plan.dialects.items p.dialect p.bytes (Negotiated None response) → bytes ≡ frame response → NoMatch c plan.dialects.items past bytes
linked_no_match c plan past es ss d p n response bytes here l i j b =
    let q = chosen_first c plan.dialects.items p.dialect p.bytes None response j in
    let t = still_talk (Waits c plan past es l.xs l.taken ss.stage None (Unit {0})) (Pending c plan past es l.xs l.taken ss.stage None None (Unit {0})) (is_waiting ss.stage.row) i.goes l.talk in
    let none = row_none ss.stage.row l.xs (connected_of ss.stage.row ss.stage.dialect (sym i.dialect_is ∙ q.0)) t.1.has in
    let zero_taken : l.taken ≡ 0 = t.0 ∙ ap length none in
    let unread : ss.unread ≡ stream es = l.unread_is ∙ ap (λ (k : ℕ). behind_frames k (stream es)) zero_taken in
    record {
      es = es;
      here = here;
      negotiates = record {
        payload = p.bytes;
        response = response;
        first = record { count = n; whole = sym (ap whole_at unread) ∙ i.front; payload_is = i.bytes_are ∙ ap (payload_at n) unread };
        judged = q.1;
        bytes_are = b;
      };
      before = subst (λ (xs : List Exchange). Talks c plan.dialects.items past xs) none l.talks;
    }

tied_no_match : (c : Codecs) (plan : PostPlan) (past es : List Seen) (lives : Option (List Seen)) (ss : Session) (d : State) (p : Wanted) (n : ℕ) (response bytes : List ℕ) → session past ≡ lives → lives ≡ Some es → Tie c plan past None lives (Some ss) None None (Unit {0}) → IsWanted d ss n p
    → Judges c plan.dialects.items p.dialect p.bytes (Negotiated None response) → bytes ≡ frame response → NoMatch c plan.dialects.items past bytes
tied_no_match c plan past es None ss d p n response bytes here l t i j b = absurd t
tied_no_match c plan past es (Some zs) ss d p n response bytes here l t i j b = linked_no_match c plan past zs ss d p n response bytes here t i j b

judged_no_match : (c : Codecs) (plan : PostPlan) (past es : List Seen) (ss : Session) (d : State) (p : Wanted) (n : ℕ) (x : Judged) (shown : ℕ) (bytes : List ℕ) (k : EndCause) (todo : states.Todo) → session past ≡ Some es → Tie c plan past None (session past) (Some ss) None None (Unit {0}) → IsWanted d ss n p
    → Judges c plan.dialects.items p.dialect p.bytes x → (judged plan d ss x shown).agenda.behind_reply ≡ Some k → first (judged plan d ss x shown).agenda ≡ Some todo → IsDone c todo (Send bytes) true → NoMatch c plan.dialects.items past bytes
judged_no_match c plan past es ss d p n (Negotiated None response) shown bytes k todo here t i j b h o = tied_no_match c plan past es (session past) ss d p n response bytes refl here t i j (response_bytes c todo response bytes true h o)
judged_no_match c plan past es ss d p n (Negotiated (Some dialect) response) shown bytes k todo here t i j b h o = cc
judged_no_match c plan past es ss d p n (Asked r) shown bytes k todo here t i j b h o = cc
judged_no_match c plan past es ss d p n WrongSide shown bytes k todo here t i j b h o = cc
judged_no_match c plan past es ss d p n Refused shown bytes k todo here t i j b h o = cc

taken_no_match : (c : Codecs) (plan : PostPlan) (past es : List Seen) (kept : Option Session) (d : State) (p : Wanted) (r : Reading) (bytes : List ℕ) (k : EndCause) (todo : states.Todo) → session past ≡ Some es → Tie c plan past None (session past) kept None None (Unit {0}) → WantedIn d kept p
    → Judges c plan.dialects.items p.dialect p.bytes r.judged → (taken_in plan d kept r).agenda.behind_reply ≡ Some k → first (taken_in plan d kept r).agenda ≡ Some todo → IsDone c todo (Send bytes) true → NoMatch c plan.dialects.items past bytes
taken_no_match c plan past es None d p r bytes k todo here t i j b h o = absurd i
taken_no_match c plan past es (Some ss) d p r bytes k todo here t i j b h o = judged_no_match c plan past es ss d p i.0 r.judged r.shown bytes k todo here t i.1 j b h o

pub read_no_match : (c : Codecs) (plan : PostPlan) (S : ℕ → ℕ → Type 0) (steps : List Step) (r : Option Reading) (w : Option Wanted) (bytes : List ℕ) (k : EndCause) (es : List Seen) → All c plan steps → wanted (decided plan (state plan steps)) ≡ w → session (map seen_of steps) ≡ Some es
    → IsRead c plan S (decided plan (state plan steps)) w r → (todo : states.Todo) → first (filled plan r (state plan steps)).agenda ≡ Some todo → IsDone c todo (Send bytes) true → (filled plan r (state plan steps)).agenda.behind_reply ≡ Some k → NoMatch c plan.dialects.items (map seen_of steps) bytes
read_no_match c plan S steps None w bytes k es all e here i todo h o b = absurd (let x : None ≡ Some k = sym (decided_plain plan (state plan steps) (steps_clean c plan steps all.laws.run)).0 ∙ b in cc)
read_no_match c plan S steps (Some r) None bytes k es all e here i todo h o b = absurd i
read_no_match c plan S steps (Some r) (Some p) bytes k es all e here i todo h o b =
    let at = wanted_in (decided plan (state plan steps)) p e in
    let clear = (decided_planned c plan (map seen_of steps) (state plan steps) (run_linked c plan steps all.back all.laws.run)).clear (wanted_done (decided plan (state plan steps)) (decided plan (state plan steps)).session p at) in
    taken_no_match c plan (map seen_of steps) es (decided plan (state plan steps)).session (decided plan (state plan steps)) p r bytes k todo here clear.tie at i.0 b h o

pub talks_none : (c : Codecs) (offers : List Dialect) (past es : List Seen) (bytes : List ℕ) (lives : Option (List Seen)) → lives ≡ Some es → Negotiates c offers (stream es) bytes None → Talks c offers past []
    → InSession lives (λ zs. OneMore c offers zs past bytes (Talks c offers past) (Negotiation None ∷ [])) (Negotiation None ∷ [] ≡ [])
talks_none c offers past es bytes None l n b = cc
talks_none c offers past es bytes (Some zs) l n b =
    let y : zs ≡ es = cc in
    record { newest = Negotiation None; earlier = []; xs_are = refl; is = subst (λ (us : List Seen). Negotiates c offers (stream us) bytes None) (sym y) n; before = b }
