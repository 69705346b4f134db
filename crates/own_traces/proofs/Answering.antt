-- What a post is about to say answers the first word that has no reply.
use Rattle.std.proofs.Common.{◌≡◌, ℕ, Bool, true, false, ◌&&◌, if◌then◌else◌, List, [], ◌∷◌, map, Option, Some, None, refl, sym, ap, subst, ◌∙◌, inl, inr, ◌⊎◌, MatchBool}
use Rattle.charge_world.specs.declared.heard.PlantEvent.{PlantEvent}
use Rattle.charge_world.specs.declared.offer.Dialect.{Dialect}
use Rattle.charge_world.specs.declared.ports.Order.{Order}
use Rattle.charge_world.specs.declared.ports.Order.TheVariants as order
use Rattle.session_words.specs.Codes.{IsOkClass}
use Rattle.session_words.specs.declared.cause.EndCause.{EndCause}
use Rattle.session_words.specs.declared.cause.EndCause.TheVariants.{FailedReply}
use Rattle.session_words.specs.declared.code.Code.{Code}
use Rattle.session_words.specs.declared.plan.PostPlan.{PostPlan}
use Rattle.session_words.specs.declared.word.Reply.{Reply}
use Rattle.session_words.specs.declared.word.Request.{Request}
use Rattle.session_words.specs.declared.word.Word.{Word}
use Rattle.session_words.specs.declared.word.Word.TheVariants as word
use Rattle.session_rules.specs.Causes.{plant_cause}
use Rattle.session_rules.specs.Moves.{stage_behind}
use Rattle.session_rules.specs.Orders.{order_of}
use Rattle.session_rules.specs.Reply.{reply_to, waiting_reply}
use Rattle.session_rules.specs.Stages.{is_waiting}
use Rattle.session_rules.specs.Verdict.{verdict, is_accepted}
use Rattle.car_rules.specs.Replies.{answers}
use Rattle.post_spec.specs.Codecs.{Judged, Negotiated, Asked, WrongSide, Refused, Codecs, Judges, judged_word}
use Rattle.post_spec.specs.Contactors.{live}
use Rattle.post_spec.specs.Kinds.{asks_start}
use Rattle.post_spec.specs.Sessions.{session, stream}
use Rattle.post_spec.specs.Spelled.{ReadsBack, AreDetermined}
use Rattle.post_spec.specs.Steps.{Event, Came, Bytes, Gone, Datagram, Plant, Clock, Over, Act, Give, Send, Answer, Seen, Did, Reading, Step, Hears, Does, seen_of}
use Rattle.post_spec.specs.Talk.{Exchange, dialect_of, Talks}
use Rattle.station_spec.specs.States.{Spoken, Response, Said, Agenda, Session, State, Todo, nothing, is_done, first}
use Rattle.station_spec.specs.States as states
use Rattle.station_spec.specs.Deciding.{opening_if, repeating, timing, watch, confirms, confirming, charging_by, charging, eventing, fronting, decided}
use Rattle.station_spec.specs.Judging.{Payload, speaks, wanted, order_by, cause_by, judged, taken_in, read, filled, IsRead}
use Rattle.station_spec.specs.Acting.{live_ordered, failing, agenda_said, acted, state}
use Rattle.station_spec.specs.Next.{IsSpoken, IsDone}
use Rattle.station_spec.specs.Sharing.{Shows}
use Rattle.station_laws.specs.PostRuns.{IsPostRun}
use Rattle.station_laws.proofs.Contactors.{contactors_are_read, filled_live}
use Rattle.station_laws.proofs.Decided.{decided_by}
use Rattle.safe_runs.proofs.Asked.{ok_class, found_failed}
use Rattle.safe_runs.proofs.Growth.{AreWhole}
use Rattle.safe_runs.proofs.Links.{Premise, Waits, Pending, Link, Tie, Linked}
use Rattle.safe_runs.proofs.Parts.{decided_planned}
use Rattle.safe_runs.proofs.Safety.{run_linked}
use Rattle.read_runs.proofs.Agendas.{done_empty, say_is, give_is, chosen_first, repeating_silent, timing_silent, ending_silent, fronting_silent, WantedIn, wanted_in}
use Rattle.failed_replies.proofs.Fresh.{OpensSoon, steps_open, negotiates_unlive}
use Rattle.served_sessions.proofs.Bytes.{AreHeard, stream_octets}
use Rattle.next_words.specs.Next.{IsReadNext, AreReadInOrder}
use Rattle.spelled_watts.specs.Spelling.{NegotiatesFirst}
use Rattle.spelled_watts.proofs.Once.{talks_once}
use Rattle.spelled_watts.proofs.Rows.{spoken_is}
use Rattle.post_spec.specs.Words.{Words}
use Rattle.own_traces.specs.Owning.{IsSingle}
use Rattle.own_traces.proofs.First.{IsFirst, FirstWord, first_given, read_first, asked_first}
use Rattle.own_traces.proofs.Pairs.{reply_answers, waiting_answers, reply_single}

-- ---- what is owed to the car

-- an order to open goes before it, or it isn't live
abbrev pub IsShut : Option Order → Bool → Type 0
IsShut o on = (o ≡ Some order.Open) ⊎ ((o ≡ None) × (on ≡ false))

abbrev pub SpeaksIn : Codecs → PostPlan → List Seen → Dialect → Type 0
SpeaksIn c plan past d = (xs : List Exchange) → Talks c plan.dialects.items past xs → dialect_of xs ≡ Some d

-- the response to a negotiation, or the reply to a request, that is the first word without a reply
pub data Answering (c : Codecs) (plan : PostPlan) (past : List Seen) (o : Option Order) (on : Bool) : Spoken → Type 0 where
  Responds : (chosen : Option Dialect) (response payload : List ℕ) → FirstWord c plan past (Negotiated chosen response) → c.Negotiates plan.dialects.items payload (Negotiated chosen response) → IsShut o on
      → Answering c plan past o on (Response response)
  Replies : (request : Request) (d : Dialect) (reply : Reply) → FirstWord c plan past (Asked request) → answers request.ask reply.tell ≡ true → SpeaksIn c plan past d → IsSingle reply.tell → IsOkClass reply.code ⊎ IsShut o on
      → Answering c plan past o on (Said d reply)

abbrev pub Owes : Codecs → PostPlan → List Seen → Option Order → Bool → Option Spoken → Type 0
Owes c plan past o on reply = (spoken : Spoken) → reply ≡ Some spoken → Answering c plan past o on spoken

abbrev pub OwesIn : Codecs → PostPlan → List Seen → State → Type 0
OwesIn c plan past s = Owes c plan past s.agenda.order s.live s.agenda.reply

silent : (c : Codecs) (plan : PostPlan) (past : List Seen) (o : Option Order) (on : Bool) (reply : Option Spoken) → reply ≡ None → Owes c plan past o on reply
silent c plan past o on reply none spoken is = let x : None ≡ Some spoken = sym none ∙ is in cc

one_said : (c : Codecs) (plan : PostPlan) (past : List Seen) (o : Option Order) (on : Bool) (spoken : Spoken) → Answering c plan past o on spoken → Owes c plan past o on (Some spoken)
one_said c plan past o on spoken a other is =
    let same : spoken ≡ other = cc in
    subst (Answering c plan past o on) same a

-- ---- the request that waits for the contactor

pub record Waiting (c : Codecs) (plan : PostPlan) (past : List Seen) (ss : Session) : Type 0 where
  pub request : Request
  pub first : FirstWord c plan past (Asked request)
  pub start : asks_start request.ask ≡ true
  pub speaks : SpeaksIn c plan past ss.stage.dialect

waits_in : (A B : Type 0) (b : Bool) → b ≡ true → MatchBool b A B → A
waits_in A B true e m = m
waits_in A B false e m = cc

goes_in : (A B : Type 0) (b : Bool) → b ≡ false → MatchBool b A B → B
goes_in A B true e m = cc
goes_in A B false e m = m

pub one_session : (past es zs : List Seen) → session past ≡ Some es → session past ≡ Some zs → es ≡ zs
one_session past es zs h k = let x : Some es ≡ Some zs = sym h ∙ k in cc

link_waits : (c : Codecs) (plan : PostPlan) (past es : List Seen) (ss : Session) (behind : Option EndCause) (V : Type 0) → AreDetermined c → AreHeard past → session past ≡ Some es → is_waiting ss.stage.row ≡ true → Link c plan past es ss.stage ss.unread None behind V
    → Waiting c plan past ss
link_waits c plan past es ss behind V det heard here waits l =
    let w = waits_in (Waits c plan past es l.xs l.taken ss.stage None V) (Pending c plan past es l.xs l.taken ss.stage None behind V) (is_waiting ss.stage.row) waits l.talk in
    let whole = subst (λ (n : ℕ). AreWhole n (stream es)) w.count l.whole in
    record {
      request = w.request;
      first = λ zs ws k v.
          let same = one_session past zs es k here in
          let f = asked_first c plan past es ws l.xs w.request ss.stage.dialect w.asks.payload det here (stream_octets past es heard here) whole.0 l.talks w.asks.place w.asks.reads w.asks.dialect_is
          (subst (λ (us : List Seen). Words c plan.dialects.items (stream us) ws) same v) in
          subst (λ (us : List Seen). IsFirst us ws (Asked w.request)) (sym same) f;
      start = w.start;
      speaks = λ xs talks. ap dialect_of (talks_once c plan.dialects.items past xs l.xs det talks l.talks) ∙ w.asks.dialect_is;
    }

tie_waits : (c : Codecs) (plan : PostPlan) (past : List Seen) (lives : Option (List Seen)) (ss : Session) (behind : Option EndCause) (V : Type 0) → AreDetermined c → AreHeard past → session past ≡ lives → is_waiting ss.stage.row ≡ true
    → Tie c plan past None lives (Some ss) None behind V → Waiting c plan past ss
tie_waits c plan past None ss behind V det heard here waits t = absurd t
tie_waits c plan past (Some es) ss behind V det heard here waits t = link_waits c plan past es ss behind V det heard here waits t

done_waits : (c : Codecs) (plan : PostPlan) (past : List Seen) (s : State) (ss : Session) → AreDetermined c → AreHeard past → Linked c plan past s → is_done s.agenda ≡ true → s.session ≡ Some ss → is_waiting ss.stage.row ≡ true → Waiting c plan past ss
done_waits c plan past s ss det heard l done kept waits =
    let e = done_empty s.agenda done in
    let V = Premise s.part s.event in
    tie_waits c plan past (session past) ss s.agenda.behind_reply (Premise s.part s.event) det heard refl waits
    (subst (λ (x : Option EndCause). Tie c plan past x (session past) (Some ss) None s.agenda.behind_reply (Premise s.part s.event)) e.ending
    (subst (λ (x : Option Spoken). Tie c plan past s.agenda.ending (session past) (Some ss) x s.agenda.behind_reply (Premise s.part s.event)) e.reply
    (subst (λ (x : Option Session). Tie c plan past s.agenda.ending (session past) x s.agenda.reply s.agenda.behind_reply (Premise s.part s.event)) kept l.tie)))

-- ---- what is decided

and_left : (a b : Bool) → a && b ≡ true → a ≡ true
and_left true b h = refl
and_left false b h = cc

confirms_by : (c : Codecs) (plan : PostPlan) (past : List Seen) (ss : Session) (s : State) (b : Bool) (on : Bool) → (b ≡ true → Waiting c plan past ss)
    → Owes c plan past (if b then record nothing { reply = Some (Said ss.stage.dialect (waiting_reply ss.stage s.facts plan)) } else nothing).order on
    (if b then record nothing { reply = Some (Said ss.stage.dialect (waiting_reply ss.stage s.facts plan)) } else nothing).reply
confirms_by c plan past ss s true on w =
    let x = w refl in
    one_said c plan past None on (Said ss.stage.dialect (waiting_reply ss.stage s.facts plan))
    (Replies x.request ss.stage.dialect (waiting_reply ss.stage s.facts plan) x.first (waiting_answers ss.stage s.facts plan x.request.ask x.start) x.speaks tt (inl tt))
confirms_by c plan past ss s false on w = silent c plan past None on None refl

charges_by : (c : Codecs) (plan : PostPlan) (past : List Seen) (ss : Session) (event : PlantEvent) (s : State) (cause : Option EndCause) → (is_waiting ss.stage.row ≡ true → Waiting c plan past ss)
    → Owes c plan past (charging_by cause (confirming plan ss event s) s.live).order s.live (charging_by cause (confirming plan ss event s) s.live).reply
charges_by c plan past ss event s (Some k) w = silent c plan past (opening_if s.live) s.live None refl
charges_by c plan past ss event s None w = confirms_by c plan past ss s (is_waiting ss.stage.row && confirms event) s.live (λ b. w (and_left (is_waiting ss.stage.row) (confirms event) b))

charges : (c : Codecs) (plan : PostPlan) (past : List Seen) (kept : Option Session) (event : PlantEvent) (s : State) → ((ss : Session) → kept ≡ Some ss → is_waiting ss.stage.row ≡ true → Waiting c plan past ss)
    → Owes c plan past (charging plan kept event s).order s.live (charging plan kept event s).reply
charges c plan past None event s w = silent c plan past None s.live None refl
charges c plan past (Some ss) event s w = charges_by c plan past ss event s (plant_cause (watch plan ss s) event) (w ss refl)

events : (c : Codecs) (plan : PostPlan) (past : List Seen) (e : Event) (s : State) → ((ss : Session) → s.session ≡ Some ss → is_waiting ss.stage.row ≡ true → Waiting c plan past ss)
    → Owes c plan past (eventing plan e s).order s.live (eventing plan e s).reply
events c plan past (Came token) s w = silent c plan past _ s.live (eventing plan (Came token) s).reply (ending_silent s.session _ s.live)
events c plan past (Bytes bytes) s w = silent c plan past None s.live None refl
events c plan past Gone s w = silent c plan past _ s.live (eventing plan Gone s).reply (ending_silent s.session _ s.live)
events c plan past (Datagram bytes) s w = silent c plan past None s.live None refl
events c plan past (Plant event) s w = charges c plan past s.session event s w
events c plan past Clock s w = silent c plan past None s.live None refl
events c plan past Over s w = silent c plan past _ s.live (eventing plan Over s).reply (ending_silent s.session _ s.live)

decided_owes : (c : Codecs) (plan : PostPlan) (past : List Seen) (s : State) → AreDetermined c → AreHeard past → Linked c plan past s → OwesIn c plan past s → OwesIn c plan past (decided plan s)
decided_owes c plan past s det heard l owes =
    decided_by (OwesIn c plan past) plan s
    (λ done. record {
      repeats = silent c plan past (repeating s.facts.contactor).order s.live (repeating s.facts.contactor).reply (repeating_silent s.facts.contactor);
      times = silent c plan past (timing s.session s.clock s.live).order s.live (timing s.session s.clock s.live).reply (timing_silent s.session s.clock s.live);
      events = events c plan past s.event s (λ ss kept waits. done_waits c plan past s ss det heard l done kept waits);
      fronts = silent c plan past (fronting s.session s.live).order s.live (fronting s.session s.live).reply (fronting_silent s.session s.live);
    }) owes

-- ---- a word that is read

not_asked : (r : Request) (w : Option Word) → Asked r ≡ judged_word w → w ≡ Some (word.Request r)
not_asked r None e = cc
not_asked r (Some (word.Request q)) e = let s : r ≡ q = cc in ap (λ (x : Request). Some (word.Request x)) (sym s)
not_asked r (Some (word.Reply reply)) e = cc
not_asked r (Some word.Nothing) e = cc

asked_later : (c : Codecs) (offers : List Dialect) (o : Option Dialect) (payload : List ℕ) (r : Request) → NegotiatesFirst c → Judges c offers o payload (Asked r) → (d : Dialect) × (o ≡ Some d)
asked_later c offers None payload r neg j = absurd (neg offers payload r j)
asked_later c offers (Some d) payload r neg j = (d, refl)

-- as a word is read, the session is linked and nothing waits
link_speaks : (c : Codecs) (plan : PostPlan) (past es : List Seen) (ss : Session) (V : Type 0) (d : Dialect) → AreDetermined c → is_waiting ss.stage.row ≡ false → speaks ss.stage ≡ Some d → Link c plan past es ss.stage ss.unread None None V → SpeaksIn c plan past ss.stage.dialect
link_speaks c plan past es ss V d det goes says l xs talks =
    let p = goes_in (Waits c plan past es l.xs l.taken ss.stage None V) (Pending c plan past es l.xs l.taken ss.stage None None V) (is_waiting ss.stage.row) goes l.talk in
    ap dialect_of (talks_once c plan.dialects.items past xs l.xs det talks l.talks) ∙ p.1.dialect ∙ says ∙ ap Some (sym (spoken_is ss.stage.row ss.stage.dialect d says))

tie_speaks : (c : Codecs) (plan : PostPlan) (past : List Seen) (lives : Option (List Seen)) (ss : Session) (V : Type 0) (d : Dialect) → AreDetermined c → is_waiting ss.stage.row ≡ false → speaks ss.stage ≡ Some d → Tie c plan past None lives (Some ss) None None V
    → SpeaksIn c plan past ss.stage.dialect
tie_speaks c plan past None ss V d det goes says t = absurd t
tie_speaks c plan past (Some es) ss V d det goes says t = link_speaks c plan past es ss V d det goes says t

opening_by : (on : Bool) (o : Option Order) → o ≡ opening_if on → IsShut o on
opening_by true o e = inl e
opening_by false o e = inr (e, refl)

asked_code : (plan : PostPlan) (s : State) (ss : Session) (r : Request) (shown : ℕ) (b : Bool) → is_accepted (verdict ss.stage s.facts plan r) ≡ b
    → IsOkClass (verdict ss.stage s.facts plan r) ⊎ IsShut (order_by (cause_by ss.stage plan s r) s.live (order_of ss.stage s.facts plan r shown)) s.live
asked_code plan s ss r shown true e = inl (ok_class (verdict ss.stage s.facts plan r) e)
asked_code plan s ss r shown false e =
    let cause : cause_by ss.stage plan s r ≡ Some FailedReply = found_failed (verdict ss.stage s.facts plan r) r.ask e in
    inr (opening_by s.live (order_by (cause_by ss.stage plan s r) s.live (order_of ss.stage s.facts plan r shown)) (ap (λ (x : Option EndCause). order_by x s.live (order_of ss.stage s.facts plan r shown)) cause))

said_unless : (c : Codecs) (plan : PostPlan) (past : List Seen) (b : Bool) (o : Option Order) (on : Bool) (spoken : Spoken) → Answering c plan past o on spoken → Owes c plan past o on (if b then None else Some spoken)
said_unless c plan past true o on spoken a = silent c plan past o on None refl
said_unless c plan past false o on spoken a = one_said c plan past o on spoken a

judged_owes : (c : Codecs) (plan : PostPlan) (past : List Seen) (s : State) (ss : Session) (p : Payload) (w : Judged) (shown : ℕ) → Judges c plan.dialects.items p.dialect p.bytes w → FirstWord c plan past w
    → ((chosen : Option Dialect) (response : List ℕ) → w ≡ Negotiated chosen response → s.live ≡ false) → ((r : Request) → w ≡ Asked r → SpeaksIn c plan past ss.stage.dialect) → OwesIn c plan past (judged plan s ss w shown)
judged_owes c plan past s ss p (Negotiated chosen response) shown j first unlive says =
    one_said c plan past None s.live (Response response) (Responds chosen response p.bytes first (chosen_first c plan.dialects.items p.dialect p.bytes chosen response j).1 (inr (refl, unlive chosen response refl)))
judged_owes c plan past s ss p (Asked r) shown j first unlive says =
    said_unless c plan past (is_waiting (stage_behind ss.stage s.facts plan r shown).row) (order_by (cause_by ss.stage plan s r) s.live (order_of ss.stage s.facts plan r shown)) s.live (Said ss.stage.dialect (reply_to ss.stage s.facts plan r shown))
    (Replies r ss.stage.dialect (reply_to ss.stage s.facts plan r shown) first (reply_answers ss.stage s.facts plan (verdict ss.stage s.facts plan r) shown r.ask) (says r refl)
    (reply_single ss.stage s.facts plan (verdict ss.stage s.facts plan r) shown r.ask)
    (asked_code plan s ss r shown (is_accepted (verdict ss.stage s.facts plan r)) refl))
judged_owes c plan past s ss p WrongSide shown j first unlive says = silent c plan past (opening_if s.live) s.live None refl
judged_owes c plan past s ss p Refused shown j first unlive says = silent c plan past (opening_if s.live) s.live None refl

not_true : (b : Bool) → (b ≡ true → ⊥) → b ≡ false
not_true true n = absurd (n refl)
not_true false n = refl

taken_owes : (c : Codecs) (plan : PostPlan) (past : List Seen) (s : State) (kept : Option Session) (p : Payload) (r : Reading) → AreDetermined c → NegotiatesFirst c → OpensSoon s → Linked c plan past s → (decided plan s).session ≡ kept → WantedIn (decided plan s) kept p
    → Judges c plan.dialects.items p.dialect p.bytes r.judged → FirstWord c plan past r.judged → OwesIn c plan past (taken_in plan (decided plan s) kept r)
taken_owes c plan past s None p r det neg opens l k i j first = absurd i
taken_owes c plan past s (Some ss) p r det neg opens l k i j first =
    let t = decided plan s in
    let clear = (decided_planned c plan past s l).clear i.1.done in
    judged_owes c plan past (decided plan s) ss p r.judged r.shown j first
    (λ chosen response e. not_true (decided plan s).live (λ on. negotiates_unlive c plan s ss i.0 p chosen response opens k i.1 (subst (λ (x : Judged). Judges c plan.dialects.items p.dialect p.bytes x) e j) on))
    (λ q e.
    let d = asked_later c plan.dialects.items p.dialect p.bytes q neg (subst (λ (x : Judged). Judges c plan.dialects.items p.dialect p.bytes x) e j) in
    tie_speaks c plan past (session past) ss (Unit {0}) d.0 det i.1.goes (sym i.1.dialect_is ∙ d.1) (subst (λ (x : Option Session). Tie c plan past None (session past) x None None (Unit {0})) k clear.tie))

read_owes : (c : Codecs) (plan : PostPlan) (S : ℕ → ℕ → Type 0) (past : List Seen) (s : State) (w : Option Payload) (r : Option Reading) → wanted (decided plan s) ≡ w → AreDetermined c → NegotiatesFirst c → OpensSoon s → Linked c plan past s
    → IsRead c plan S (decided plan s) w r → IsReadNext c plan past r → OwesIn c plan past (decided plan s) → OwesIn c plan past (read plan (decided plan s) r)
read_owes c plan S past s w None e det neg opens l i next owes = owes
read_owes c plan S past s None (Some r) e det neg opens l i next owes = absurd i
read_owes c plan S past s (Some p) (Some r) e det neg opens l i next owes =
    taken_owes c plan past s (decided plan s).session p r det neg opens l refl (wanted_in (decided plan s) p e) i.0 (read_first c plan past r.judged next)

-- ---- an act

gave_owes : (o : Order) (was : Option Order) (on : Bool) → was ≡ Some o → IsShut was on → IsShut None (live_ordered o true on)
gave_owes order.Open was on e h = inr (refl, refl)
gave_owes order.Close was on e (inl h) = absurd (let x : Some order.Close ≡ Some order.Open = sym e ∙ h in cc)
gave_owes order.Close was on e (inr h) = absurd (let x : Some order.Close ≡ None = sym e ∙ h.0 in cc)
gave_owes (order.Limits voltage current watts) was on e (inl h) = absurd (let x : Some (order.Limits voltage current watts) ≡ Some order.Open = sym e ∙ h in cc)
gave_owes (order.Limits voltage current watts) was on e (inr h) = absurd (let x : Some (order.Limits voltage current watts) ≡ None = sym e ∙ h.0 in cc)

gave_code : (o : Order) (was : Option Order) (on : Bool) (code : Code) → was ≡ Some o → IsOkClass code ⊎ IsShut was on → IsOkClass code ⊎ IsShut None (live_ordered o true on)
gave_code o was on code e (inl ok) = inl ok
gave_code o was on code e (inr h) = inr (gave_owes o was on e h)

gave_answering : (c : Codecs) (plan : PostPlan) (past : List Seen) (o : Order) (was : Option Order) (on : Bool) (spoken : Spoken) → was ≡ Some o → Answering c plan past was on spoken → Answering c plan (Did (Give o) true ∷ past) None (live_ordered o true on) spoken
gave_answering c plan past o was on spoken e (Responds chosen response payload first neg shut) =
    Responds chosen response payload (first_given c plan past (Give o) true (Negotiated chosen response) refl (λ zs. (refl, refl)) first) neg (gave_owes o was on e shut)
gave_answering c plan past o was on spoken e (Replies request d reply first kind says one ok) =
    Replies request d reply (first_given c plan past (Give o) true (Asked request) refl (λ zs. (refl, refl)) first) kind (λ xs talks. says xs talks) one (gave_code o was on reply.code e ok)

told_answering : (c : Codecs) (plan : PostPlan) (past : List Seen) (datagram : List ℕ) (taken : Bool) (o : Option Order) (on : Bool) (spoken : Spoken) → Answering c plan past o on spoken → Answering c plan (Did (Answer datagram) taken ∷ past) o on spoken
told_answering c plan past datagram taken o on spoken (Responds chosen response payload first neg shut) =
    Responds chosen response payload (first_given c plan past (Answer datagram) taken (Negotiated chosen response) refl (λ zs. (refl, refl)) first) neg shut
told_answering c plan past datagram taken o on spoken (Replies request d reply first kind says one ok) =
    Replies request d reply (first_given c plan past (Answer datagram) taken (Asked request) refl (λ zs. (refl, refl)) first) kind (λ xs talks. says xs talks) one ok

fails_silent : (e : Option EndCause) (kept : Option Session) (cause : EndCause) (on : Bool) → (failing e kept cause on).reply ≡ None
fails_silent None kept cause on = ending_silent kept cause on
fails_silent (Some k) kept cause on = refl

said_silent : (b : Option EndCause) (kept : Option Session) (a : Agenda) (on : Bool) → (agenda_said b kept a on).reply ≡ None
said_silent None kept a on = refl
said_silent (Some k) kept a on = ending_silent kept k on

given_owes : (c : Codecs) (plan : PostPlan) (past : List Seen) (s : State) (o : Order) (taken : Bool) → s.agenda.order ≡ Some o → OwesIn c plan past s → OwesIn c plan (Did (Give o) taken ∷ past) (acted (Give o) taken s)
given_owes c plan past s o true e owes = λ spoken is. gave_answering c plan past o s.agenda.order s.live spoken e (owes spoken is)
given_owes c plan past s o false e owes = silent c plan (Did (Give o) false ∷ past) _ _ (failing s.agenda.ending s.session _ _).reply (fails_silent s.agenda.ending s.session _ _)

spoken_owes : (c : Codecs) (plan : PostPlan) (past : List Seen) (s : State) (taken : Bool) → OwesIn c plan past (acted (Send []) taken s)
spoken_owes c plan past s true = silent c plan past _ _ (agenda_said s.agenda.behind_reply s.session s.agenda s.live).reply (said_silent s.agenda.behind_reply s.session s.agenda s.live)
spoken_owes c plan past s false = silent c plan past _ _ (failing s.agenda.ending s.session _ s.live).reply (fails_silent s.agenda.ending s.session _ s.live)

acted_owes : (c : Codecs) (plan : PostPlan) (past : List Seen) (s : State) (todo : Todo) (a : Act) (taken : Bool) → first s.agenda ≡ Some todo → IsDone c todo a taken → OwesIn c plan past s → OwesIn c plan (Did a taken ∷ past) (acted a taken s)
acted_owes c plan past s (states.Tell d) a taken f i owes =
    subst (λ (x : Act). OwesIn c plan (Did x taken ∷ past) (acted x taken s)) (sym i) (λ spoken is. told_answering c plan past d taken s.agenda.order s.live spoken (owes spoken is))
acted_owes c plan past s (states.Give o) a taken f i owes =
    subst (λ (x : Act). OwesIn c plan (Did x taken ∷ past) (acted x taken s)) (sym i) (given_owes c plan past s o taken (give_is s.agenda.datagram s.agenda.order s.agenda.reply s.agenda.ending o f) owes)
acted_owes c plan past s (states.Say spoken) a taken f i owes = subst (λ (x : Act). OwesIn c plan (Did x taken ∷ past) (acted x taken s)) (sym i.2) (spoken_owes c plan (Did (Send i.0) taken ∷ past) s taken)
acted_owes c plan past s (states.Finish cause) a taken f i owes = subst (λ (x : Act). OwesIn c plan (Did x taken ∷ past) (acted x taken s)) (sym i.0) (silent c plan _ None s.live None refl)

-- ---- all steps

pub filled_owes : (c : Codecs) (plan : PostPlan) (S : ℕ → ℕ → Type 0) (steps : List Step) (r : Option Reading) → ReadsBack c → AreDetermined c → NegotiatesFirst c → IsPostRun c plan steps → AreHeard (map seen_of steps) → IsReadNext c plan (map seen_of steps) r
    → IsRead c plan S (decided plan (state plan steps)) (wanted (decided plan (state plan steps))) r → OwesIn c plan (map seen_of steps) (state plan steps) → OwesIn c plan (map seen_of steps) (filled plan r (state plan steps))
filled_owes c plan S steps r back det neg run heard next i owes =
    let past = map seen_of steps in
    let s = state plan steps in
    let l = run_linked c plan steps back run in
    read_owes c plan S (map seen_of steps) (state plan steps) (wanted (decided plan (state plan steps))) r refl det neg (steps_open c plan steps back run) l i next (decided_owes c plan (map seen_of steps) (state plan steps) det heard l owes)

pub steps_owe : (c : Codecs) (plan : PostPlan) (steps : List Step) → ReadsBack c → AreDetermined c → NegotiatesFirst c → IsPostRun c plan steps → AreHeard (map seen_of steps) → AreReadInOrder c plan steps → OwesIn c plan (map seen_of steps) (state plan steps)
steps_owe c plan [] back det neg run heard order = silent c plan [] None false None refl
steps_owe c plan (Hears at e ∷ steps) back det neg run heard order = silent c plan (map seen_of (Hears at e ∷ steps)) None _ None refl
steps_owe c plan (Does r a taken ∷ steps) back det neg (run, (limit, before, behind, acts)) heard order =
    let owes = steps_owe c plan steps back det neg run heard order.0 in
    acted_owes c plan (map seen_of steps) (filled plan r (state plan steps)) acts.todo a taken acts.acts acts.done (filled_owes c plan (Shows limit before behind) steps r back det neg run heard order.1 acts.read owes)

-- what is sent
pub record IsSent (c : Codecs) (plan : PostPlan) (past : List Seen) (bytes : List ℕ) : Type 0 where
  pub spoken : Spoken
  pub is : IsSpoken c spoken bytes
  pub answering : Answering c plan past None (live past) spoken

said_is : (c : Codecs) (plan : PostPlan) (past : List Seen) (s : State) (todo : Todo) (bytes : List ℕ) (taken : Bool) → s.live ≡ live past → first s.agenda ≡ Some todo → IsDone c todo (Send bytes) taken → OwesIn c plan past s → IsSent c plan past bytes
said_is c plan past s (states.Tell d) bytes taken l f i owes = cc
said_is c plan past s (states.Give o) bytes taken l f i owes = cc
said_is c plan past s (states.Say spoken) bytes taken l f i owes =
    let e = say_is s.agenda.datagram s.agenda.order s.agenda.reply s.agenda.ending spoken f in
    let same : i.0 ≡ bytes = cc in
    record {
      spoken = spoken;
      is = subst (IsSpoken c spoken) same i.1;
      answering = subst (λ (on : Bool). Answering c plan past None on spoken) l (subst (λ (o : Option Order). Answering c plan past o s.live spoken) e.1 (owes spoken e.0));
    }
said_is c plan past s (states.Finish cause) bytes taken l f i owes = let x = i.0 in cc

pub step_sent : (c : Codecs) (plan : PostPlan) (r : Option Reading) (bytes : List ℕ) (taken : Bool) (steps : List Step) → ReadsBack c → AreDetermined c → NegotiatesFirst c → IsPostRun c plan (Does r (Send bytes) taken ∷ steps) → AreHeard (map seen_of steps)
    → AreReadInOrder c plan (Does r (Send bytes) taken ∷ steps) → IsSent c plan (map seen_of steps) bytes
step_sent c plan r bytes taken steps back det neg (run, (limit, before, behind, acts)) heard order =
    let owes = steps_owe c plan steps back det neg run heard order.0 in
    said_is c plan (map seen_of steps) (filled plan r (state plan steps)) acts.todo bytes taken (filled_live plan r (state plan steps) ∙ (contactors_are_read plan steps).live_is) acts.acts acts.done
    (filled_owes c plan (Shows limit before behind) steps r back det neg run heard order.1 acts.read owes)
