-- While the contactor is live, what is to be said is of the OK class, or Open is to be ordered first.
use Rattle.std.proofs.Common.{◌≡◌, ℕ, ◌+◌, Bool, true, false, if◌then◌else◌, ◌&&◌, List, [], ◌∷◌, length, map, Option, Some, None, Result, Ok, Err, refl, sym, ap, subst, ◌∙◌, inl, inr, ◌⊎◌}
use Rattle.charge_world.specs.declared.heard.PlantEvent.{PlantEvent}
use Rattle.charge_world.specs.declared.offer.Dialect.{Dialect}
use Rattle.charge_world.specs.declared.ports.Order.{Order}
use Rattle.charge_world.specs.declared.ports.Order.TheVariants as order
use Rattle.session_words.specs.declared.cause.EndCause.{EndCause}
use Rattle.session_words.specs.declared.cause.EndCause.TheVariants.{FailedReply}
use Rattle.session_words.specs.declared.phase.Standing.{Standing}
use Rattle.session_words.specs.declared.phase.Standing.TheVariants as standing
use Rattle.session_words.specs.declared.plan.PostPlan.{PostPlan}
use Rattle.session_words.specs.declared.word.Request.{Request}
use Rattle.session_words.specs.Codes.{IsOkClass}
use Rattle.v2gtp_frames.specs.declared.FrameFault.{FrameFault}
use Rattle.v2gtp_frames.specs.Reading.{whole_at}
use Rattle.session_rules.specs.Causes.{plant_cause}
use Rattle.session_rules.specs.Moves.{stage_behind}
use Rattle.session_rules.specs.Orders.{order_of}
use Rattle.session_rules.specs.Reply.{reply_to}
use Rattle.session_rules.specs.Stages.{is_waiting}
use Rattle.session_rules.specs.Verdict.{verdict, is_accepted}
use Rattle.post_spec.specs.Codecs.{Judged, Negotiated, Asked, WrongSide, Refused, Codecs, Judges}
use Rattle.post_spec.specs.Contactors.{live}
use Rattle.post_spec.specs.Spelled.{read_back, ReadsBack}
use Rattle.post_spec.specs.Steps.{Event, Came, Bytes, Gone, Datagram, Plant, Clock, Over, Act, Seen, Reading, Step, Hears, Does, seen_of}
use Rattle.station_spec.specs.States.{Spoken, Response, Said, Agenda, Session, State, nothing, first, first_of}
use Rattle.station_spec.specs.States as states
use Rattle.station_spec.specs.Deciding.{opening_if, ending_in, repeating, timing, watch, confirms, confirming, charging_by, charging, eventing, fronting_by, fronting, decided, due, is_reached}
use Rattle.station_spec.specs.Judging.{Payload, wanted, order_by, cause_by, judged, taken_in, read, filled, IsRead}
use Rattle.station_spec.specs.Acting.{failing, agenda_said, giving, saying, acted, live_ordered, state}
use Rattle.station_spec.specs.Next.{IsSpoken, IsDone}
use Rattle.station_spec.specs.Sharing.{Shows}
use Rattle.station_laws.specs.PostRuns.{IsPostRun, ArePostsOf}
use Rattle.station_laws.proofs.Contactors.{contactors_are_read, filled_live}
use Rattle.station_laws.proofs.Decided.{decided_by}
use Rattle.station_laws.proofs.PostRuns.{run_posts, post_at}
use Rattle.safe_runs.proofs.Asked.{ok_class, found_failed}
use Rattle.read_runs.proofs.Agendas.{WantedIn, wanted_in}
use Rattle.failed_replies.specs.Replies.{IsOkReply, RepliesOpened, AreOpened, RunsReplyOpened}
use Rattle.failed_replies.proofs.Fresh.{OpensSoon, steps_open, negotiates_unlive}

-- what may be said while the contactor is live
abbrev IsOkSpoken : Codecs → PostPlan → Spoken → Type 0
IsOkSpoken c plan (Response payload) = ⊥
IsOkSpoken c plan (Said dialect reply) = IsOkClass reply.code

-- what is said is that, or Open is ordered before, or the contactor isn't live
abbrev Opened : Codecs → PostPlan → Option Order → Option Spoken → Bool → Type 0
Opened c plan o None live = Unit {0}
Opened c plan o (Some spoken) live = IsOkSpoken c plan spoken ⊎ ((o ≡ Some order.Open) ⊎ ((o ≡ None) × (live ≡ false)))

abbrev OpenedIn : Codecs → PostPlan → State → Type 0
OpenedIn c plan s = Opened c plan s.agenda.order s.agenda.reply s.live

abbrev OpenedBy : Codecs → PostPlan → Agenda → Bool → Type 0
OpenedBy c plan a live = Opened c plan a.order a.reply live

-- without a word
repeats : (c : Codecs) (plan : PostPlan) (st : Standing) (live : Bool) → OpenedBy c plan (repeating st) live
repeats c plan standing.MustOpen live = tt
repeats c plan standing.Opened live = tt
repeats c plan standing.Closing live = tt
repeats c plan standing.Closed live = tt
repeats c plan standing.Opening live = tt

opened_if : (c : Codecs) (plan : PostPlan) (b : Bool) (x y : Agenda) (live : Bool) → OpenedBy c plan x live → OpenedBy c plan y live → OpenedBy c plan (if b then x else y) live
opened_if c plan true x y live p q = p
opened_if c plan false x y live p q = q

times : (c : Codecs) (plan : PostPlan) (kept : Option Session) (now : ℕ) (live : Bool) → OpenedBy c plan (timing kept now live) live
times c plan None now live = tt
times c plan (Some ss) now live = opened_if c plan (is_reached (due ss) now) _ nothing live tt tt

ends_in : (c : Codecs) (plan : PostPlan) (kept : Option Session) (cause : EndCause) (live live' : Bool) → OpenedBy c plan (ending_in kept cause live) live'
ends_in c plan None cause live live' = tt
ends_in c plan (Some ss) cause live live' = tt

confirmed_by : (c : Codecs) (plan : PostPlan) (ss : Session) (e : PlantEvent) (s : State) (b : Bool) → (is_waiting ss.stage.row && confirms e) ≡ b → OpenedBy c plan (confirming plan ss e s) s.live
confirmed_by c plan ss e s true h = rw h (inl tt)
confirmed_by c plan ss e s false h = rw h tt

charges_by : (c : Codecs) (plan : PostPlan) (ss : Session) (e : PlantEvent) (s : State) (o : Option EndCause) → OpenedBy c plan (charging_by o (confirming plan ss e s) s.live) s.live
charges_by c plan ss e s (Some cause) = tt
charges_by c plan ss e s None = confirmed_by c plan ss e s (is_waiting ss.stage.row && confirms e) refl

charges : (c : Codecs) (plan : PostPlan) (kept : Option Session) (e : PlantEvent) (s : State) → OpenedBy c plan (charging plan kept e s) s.live
charges c plan None e s = tt
charges c plan (Some ss) e s = charges_by c plan ss e s (plant_cause (watch plan ss s) e)

events : (c : Codecs) (plan : PostPlan) (e : Event) (s : State) → OpenedBy c plan (eventing plan e s) s.live
events c plan (Came token) s = ends_in c plan s.session _ s.live s.live
events c plan (Bytes bytes) s = tt
events c plan Gone s = ends_in c plan s.session _ s.live s.live
events c plan (Datagram bytes) s = tt
events c plan (Plant event) s = charges c plan s.session event s
events c plan Clock s = tt
events c plan Over s = ends_in c plan s.session _ s.live s.live

fronts_by : (c : Codecs) (plan : PostPlan) (w : Result (Option ℕ) FrameFault) (waiting live : Bool) → OpenedBy c plan (fronting_by w waiting live) live
fronts_by c plan (Err fault) waiting live = tt
fronts_by c plan (Ok None) waiting live = tt
fronts_by c plan (Ok (Some n)) true live = tt
fronts_by c plan (Ok (Some n)) false live = tt

fronts : (c : Codecs) (plan : PostPlan) (kept : Option Session) (live : Bool) → OpenedBy c plan (fronting kept live) live
fronts c plan None live = tt
fronts c plan (Some ss) live = fronts_by c plan (whole_at ss.unread) (is_waiting ss.stage.row) live

decided_opened : (c : Codecs) (plan : PostPlan) (s : State) → OpenedIn c plan s → OpenedIn c plan (decided plan s)
decided_opened c plan s h = decided_by (OpenedIn c plan) plan s (λ d. record {
  repeats = repeats c plan s.facts.contactor s.live;
  times = times c plan s.session s.clock s.live;
  events = events c plan s.event s;
  fronts = fronts c plan s.session s.live;
}) h

-- a word
-- a negotiation is read while it isn't live
abbrev UnliveAt : State → Judged → Type 0
UnliveAt s w = (chosen : Option Dialect) (response : List ℕ) → w ≡ Negotiated chosen response → s.live ≡ false

opening_by : (live : Bool) (o : Option Order) → o ≡ opening_if live → (o ≡ Some order.Open) ⊎ ((o ≡ None) × (live ≡ false))
opening_by true o e = inl e
opening_by false o e = inr (e, refl)

cause_opens : (cause : Option EndCause) (k : EndCause) (live : Bool) (o : Option Order) → cause ≡ Some k → order_by cause live o ≡ opening_if live
cause_opens cause k live o e = ap (λ (x : Option EndCause). order_by x live o) e

said_by : (c : Codecs) (plan : PostPlan) (b : Bool) (o : Option Order) (spoken : Spoken) (live : Bool) → IsOkSpoken c plan spoken ⊎ ((o ≡ Some order.Open) ⊎ ((o ≡ None) × (live ≡ false))) → Opened c plan o (if b then None else Some spoken) live
said_by c plan true o spoken live h = tt
said_by c plan false o spoken live h = h

asked_either : (c : Codecs) (plan : PostPlan) (s : State) (ss : Session) (r : Request) (shown : ℕ) (b : Bool) → is_accepted (verdict ss.stage s.facts plan r) ≡ b
    → IsOkClass (verdict ss.stage s.facts plan r) ⊎ ((order_by (cause_by ss.stage plan s r) s.live (order_of ss.stage s.facts plan r shown) ≡ Some order.Open) ⊎ ((order_by (cause_by ss.stage plan s r) s.live (order_of ss.stage s.facts plan r shown) ≡ None) × (s.live ≡ false)))
asked_either c plan s ss r shown true e = inl (ok_class (verdict ss.stage s.facts plan r) e)
asked_either c plan s ss r shown false e =
    inr (opening_by s.live (order_by (cause_by ss.stage plan s r) s.live (order_of ss.stage s.facts plan r shown))
    (cause_opens (cause_by ss.stage plan s r) FailedReply s.live (order_of ss.stage s.facts plan r shown) (found_failed (verdict ss.stage s.facts plan r) r.ask e)))

judged_opened : (c : Codecs) (plan : PostPlan) (s : State) (ss : Session) (d : Option Dialect) (payload : List ℕ) (w : Judged) (shown : ℕ) → Judges c plan.dialects.items d payload w → UnliveAt s w → OpenedIn c plan (judged plan s ss w shown)
judged_opened c plan s ss d payload (Negotiated chosen response) shown j u = inr (inr (refl, u chosen response refl))
judged_opened c plan s ss d payload (Asked r) shown j u =
    said_by c plan (is_waiting (stage_behind ss.stage s.facts plan r shown).row) (order_by (cause_by ss.stage plan s r) s.live (order_of ss.stage s.facts plan r shown))
    (Said ss.stage.dialect (reply_to ss.stage s.facts plan r shown)) s.live (asked_either c plan s ss r shown (is_accepted (verdict ss.stage s.facts plan r)) refl)
judged_opened c plan s ss d payload WrongSide shown j u = tt
judged_opened c plan s ss d payload Refused shown j u = tt

taken_opened : (c : Codecs) (plan : PostPlan) (s : State) (kept : Option Session) (r : Reading) (p : Payload) → Judges c plan.dialects.items p.dialect p.bytes r.judged → UnliveAt s r.judged → OpenedIn c plan s → OpenedIn c plan (taken_in plan s kept r)
taken_opened c plan s None r p j u h = h
taken_opened c plan s (Some ss) r p j u h = judged_opened c plan s ss p.dialect p.bytes r.judged r.shown j u

not_true : (b : Bool) → (b ≡ true → ⊥) → b ≡ false
not_true true n = absurd (n refl)
not_true false n = refl

unlive_at : (c : Codecs) (plan : PostPlan) (s : State) (kept : Option Session) (p : Payload) (w : Judged) → OpensSoon s → (decided plan s).session ≡ kept → WantedIn (decided plan s) kept p → Judges c plan.dialects.items p.dialect p.bytes w → UnliveAt (decided plan s) w
unlive_at c plan s None p w o k i j chosen response e = absurd i
unlive_at c plan s (Some ss) p w o k i j chosen response e =
    not_true (decided plan s).live (λ l. negotiates_unlive c plan s ss i.0 p chosen response o k i.1 (subst (λ (x : Judged). Judges c plan.dialects.items p.dialect p.bytes x) e j) l)

read_opened : (c : Codecs) (plan : PostPlan) (S : ℕ → ℕ → Type 0) (s : State) (w : Option Payload) (r : Option Reading) → wanted (decided plan s) ≡ w → IsRead c plan S (decided plan s) w r → OpensSoon s → OpenedIn c plan (decided plan s) → OpenedIn c plan (read plan (decided plan s) r)
read_opened c plan S s w None e i o h = h
read_opened c plan S s None (Some r) e i o h = absurd i
read_opened c plan S s (Some p) (Some r) e i o h =
    let t = decided plan s in
    taken_opened c plan t t.session r p i.0 (unlive_at c plan s t.session p r.judged o refl (wanted_in t p e) i.0) h

filled_opened : (c : Codecs) (plan : PostPlan) (S : ℕ → ℕ → Type 0) (s : State) (r : Option Reading) → IsRead c plan S (decided plan s) (wanted (decided plan s)) r → OpensSoon s → OpenedIn c plan s → OpenedIn c plan (filled plan r s)
filled_opened c plan S s r i o h = read_opened c plan S s (wanted (decided plan s)) r refl i o (decided_opened c plan s h)

-- an act
fails : (c : Codecs) (plan : PostPlan) (e : Option EndCause) (kept : Option Session) (cause : EndCause) (live live' : Bool) → OpenedBy c plan (failing e kept cause live) live'
fails c plan None kept cause live live' = ends_in c plan kept cause live live'
fails c plan (Some k) kept cause live live' = tt

gave_opened : (c : Codecs) (plan : PostPlan) (o : Order) (was : Option Order) (reply : Option Spoken) (live : Bool) → was ≡ Some o → Opened c plan was reply live → Opened c plan None reply (live_ordered o true live)
gave_opened c plan o was None live e h = tt
gave_opened c plan o was (Some spoken) live e (inl h) = inl h
gave_opened c plan order.Open was (Some spoken) live e (inr h) = inr (inr (refl, refl))
gave_opened c plan order.Close was (Some spoken) live e (inr (inl h)) = absurd (let x : Some order.Close ≡ Some order.Open = sym e ∙ h in cc)
gave_opened c plan order.Close was (Some spoken) live e (inr (inr h)) = absurd (let x : Some order.Close ≡ None = sym e ∙ h.0 in cc)
gave_opened c plan (order.Limits voltage current watts) was (Some spoken) live e (inr (inl h)) = absurd (let x : Some (order.Limits voltage current watts) ≡ Some order.Open = sym e ∙ h in cc)
gave_opened c plan (order.Limits voltage current watts) was (Some spoken) live e (inr (inr h)) = absurd (let x : Some (order.Limits voltage current watts) ≡ None = sym e ∙ h.0 in cc)

said_opened : (c : Codecs) (plan : PostPlan) (b : Option EndCause) (kept : Option Session) (a : Agenda) (live live' : Bool) → OpenedBy c plan (agenda_said b kept a live) live'
said_opened c plan None kept a live live' = tt
said_opened c plan (Some k) kept a live live' = ends_in c plan kept k live live'

give_is : (d : Option (List ℕ)) (o : Option Order) (r : Option Spoken) (e : Option EndCause) (x : Order) → first_of d o r e ≡ Some (states.Give x) → o ≡ Some x
give_is (Some d) o r e x h = cc
give_is None (Some o) r e x h = cc
give_is None None (Some r) e x h = cc
give_is None None None (Some e) x h = cc
give_is None None None None x h = cc

say_is : (d : Option (List ℕ)) (o : Option Order) (r : Option Spoken) (e : Option EndCause) (x : Spoken) → first_of d o r e ≡ Some (states.Say x) → (r ≡ Some x) × (o ≡ None)
say_is (Some d) o r e x h = cc
say_is None (Some o) r e x h = cc
say_is None None (Some r) e x h = (cc, refl)
say_is None None None (Some e) x h = cc
say_is None None None None x h = cc

given_opened : (c : Codecs) (plan : PostPlan) (s : State) (o : Order) (taken : Bool) → s.agenda.order ≡ Some o → OpenedIn c plan s → OpenedIn c plan (giving o taken s)
given_opened c plan s o true e h = gave_opened c plan o s.agenda.order s.agenda.reply s.live e h
given_opened c plan s o false e h = fails c plan s.agenda.ending s.session _ _ (live_ordered o false s.live)

spoken_opened : (c : Codecs) (plan : PostPlan) (s : State) (taken : Bool) → OpenedIn c plan (saying taken s)
spoken_opened c plan s true = said_opened c plan s.agenda.behind_reply s.session s.agenda s.live s.live
spoken_opened c plan s false = fails c plan s.agenda.ending s.session _ s.live s.live

acted_opened : (c : Codecs) (plan : PostPlan) (s : State) (todo : states.Todo) (a : Act) (taken : Bool) → first s.agenda ≡ Some todo → IsDone c todo a taken → OpenedIn c plan s → OpenedIn c plan (acted a taken s)
acted_opened c plan s (states.Tell d) a taken f i h = subst (λ (x : Act). OpenedIn c plan (acted x taken s)) (sym i) h
acted_opened c plan s (states.Give o) a taken f i h = subst (λ (x : Act). OpenedIn c plan (acted x taken s)) (sym i) (given_opened c plan s o taken (give_is s.agenda.datagram s.agenda.order s.agenda.reply s.agenda.ending o f) h)
acted_opened c plan s (states.Say spoken) a taken f i h = subst (λ (x : Act). OpenedIn c plan (acted x taken s)) (sym i.2) (spoken_opened c plan s taken)
acted_opened c plan s (states.Finish cause) a taken f i h = subst (λ (x : Act). OpenedIn c plan (acted x taken s)) (sym i.0) tt

steps_opened : (c : Codecs) (plan : PostPlan) (steps : List Step) → ReadsBack c → IsPostRun c plan steps → OpenedIn c plan (state plan steps)
steps_opened c plan [] back run = tt
steps_opened c plan (Hears at e ∷ steps) back run = tt
steps_opened c plan (Does r a taken ∷ steps) back (run, (limit, before, behind, acts)) =
    acted_opened c plan (filled plan r (state plan steps)) acts.todo a taken acts.acts acts.done (filled_opened c plan (Shows limit before behind) (state plan steps) r acts.read (steps_open c plan steps back run) (steps_opened c plan steps back run))

-- so what is sent while the contactor is live is of the OK class
sent_ok : (c : Codecs) (plan : PostPlan) (spoken : Spoken) (bytes : List ℕ) → ReadsBack c → IsSpoken c spoken bytes → IsOkSpoken c plan spoken → IsOkReply c bytes
sent_ok c plan (Response payload) bytes back i h = absurd h
sent_ok c plan (Said dialect reply) bytes back i h = record { dialect = dialect; reply = read_back reply; payload = i.0; reads = back dialect reply i.0 i.1; ok = h; bytes_are = i.2 }

opened_ok : (c : Codecs) (plan : PostPlan) (o : Option Order) (reply : Option Spoken) (spoken : Spoken) (live : Bool) → reply ≡ Some spoken → o ≡ None → live ≡ true → Opened c plan o reply live → IsOkSpoken c plan spoken
opened_ok c plan o None spoken live e n l h = cc
opened_ok c plan o (Some said) spoken live e n l (inl h) = let x : said ≡ spoken = cc in subst (IsOkSpoken c plan) x h
opened_ok c plan o (Some said) spoken live e n l (inr (inl h)) = absurd (let x : None ≡ Some order.Open = sym n ∙ h in cc)
opened_ok c plan o (Some said) spoken live e n l (inr (inr h)) = absurd (let x : true ≡ false = sym l ∙ h.1 in cc)

act_opened : (c : Codecs) (plan : PostPlan) (past : List Seen) (s : State) (todo : states.Todo) (a : Act) (taken : Bool) → ReadsBack c → s.live ≡ live past → first s.agenda ≡ Some todo → IsDone c todo a taken → OpenedIn c plan s → RepliesOpened c a past
act_opened c plan past s (states.Tell d) a taken back l f i h = subst (λ (x : Act). RepliesOpened c x past) (sym i) tt
act_opened c plan past s (states.Give o) a taken back l f i h = subst (λ (x : Act). RepliesOpened c x past) (sym i) tt
act_opened c plan past s (states.Say spoken) a taken back l f i h =
    subst (λ (x : Act). RepliesOpened c x past) (sym i.2) (λ on.
    let e = say_is s.agenda.datagram s.agenda.order s.agenda.reply s.agenda.ending spoken f in
    sent_ok c plan spoken i.0 back i.1 (opened_ok c plan s.agenda.order s.agenda.reply spoken s.live e.0 e.1 (l ∙ on) h))
act_opened c plan past s (states.Finish cause) a taken back l f i h = subst (λ (x : Act). RepliesOpened c x past) (sym i.0) tt

steps_reply : (c : Codecs) (plan : PostPlan) (steps : List Step) → ReadsBack c → IsPostRun c plan steps → AreOpened c (map seen_of steps)
steps_reply c plan [] back run = tt
steps_reply c plan (Hears at e ∷ steps) back run = steps_reply c plan steps back run.0
steps_reply c plan (Does r a taken ∷ steps) back (run, (limit, before, behind, acts)) =
    let s = state plan steps in (
      steps_reply c plan steps back run,
      act_opened c plan (map seen_of steps) (filled plan r s) acts.todo a taken back (filled_live plan r s ∙ (contactors_are_read plan steps).live_is) acts.acts acts.done
          (filled_opened c plan (Shows limit before behind) s r acts.read (steps_open c plan steps back run) (steps_opened c plan steps back run)),
    )

pub runs_reply_opened : (c : Codecs) → RunsReplyOpened c
runs_reply_opened c site past posts before post behind back run is =
    let all = subst (ArePostsOf c past 1) is (run_posts c site past posts run) in
    let k = post_at c past (length before + 1) 1 before post behind refl all in
    subst (AreOpened c) (sym k.seen_is) (steps_reply c post.plan post.steps back k.run)
