-- In a session that hasn't negotiated yet the contactor isn't live as a word is read: one that an earlier session left so is ordered open first.
use Rattle.std.proofs.Common.{◌≡◌, ℕ, Bool, true, false, if◌then◌else◌, List, [], ◌∷◌, ◌++◌, map, Option, Some, None, unwrap_or, is_some, refl, sym, ap, subst, ◌∙◌, inl, inr, ◌⊎◌}
use Rattle.std.specs.List.{AllByRecursion}
use Rattle.std.specs.Option.{option_map}
use Rattle.std.specs.Prelude.{◌≢◌}
use Rattle.charge_world.specs.declared.offer.Dialect.{Dialect}
use Rattle.charge_world.specs.declared.ports.Order.{Order}
use Rattle.charge_world.specs.declared.ports.Order.TheVariants as order
use Rattle.session_words.specs.declared.cause.EndCause.{EndCause}
use Rattle.session_words.specs.declared.code.Progress.TheVariants as progress
use Rattle.session_words.specs.declared.facts.Facts.{Facts}
use Rattle.session_words.specs.declared.phase.Phase.{Phase}
use Rattle.session_words.specs.declared.phase.Phase.TheVariants as row
use Rattle.session_words.specs.declared.phase.Standing.{Standing}
use Rattle.session_words.specs.declared.phase.Standing.TheVariants as standing
use Rattle.session_words.specs.declared.plan.PostPlan.{PostPlan}
use Rattle.session_words.specs.declared.word.Ask.{Ask}
use Rattle.session_words.specs.declared.word.Ask.TheVariants as ask
use Rattle.session_words.specs.declared.word.Request.{Request}
use Rattle.session_words.specs.declared.word.Word.{Word}
use Rattle.session_words.specs.declared.word.Word.TheVariants as word
use Rattle.contactor.specs.Standing as contactor
use Rattle.contactor.specs.Standing.{Kind, is_live, last_order, feedback_since, standing_by}
use Rattle.session_rules.specs.declared.stage.Stage.{Stage}
use Rattle.session_rules.specs.Finishing.{is_ac, is_finished}
use Rattle.session_rules.specs.Moves.{stage_behind}
use Rattle.session_rules.specs.Rows.{leads, may_stop}
use Rattle.session_rules.specs.Stages.{is_waiting, confirmed_row}
use Rattle.session_rules.specs.Verdict.{verdict, is_accepted}
use Rattle.post_spec.specs.Codecs.{Judged, Negotiated, Asked, WrongSide, Refused, Codecs, Judges, judged_word}
use Rattle.post_spec.specs.Contactors.{feedback_in, with_feedback, contactor_acts, live, closes, closed, standing as stands}
use Rattle.post_spec.specs.Facts.{told_by}
use Rattle.post_spec.specs.Sessions.{brought}
use Rattle.post_spec.specs.Spelled.{ReadsBack}
use Rattle.post_spec.specs.Steps.{Event, Act, Give, Send, Answer, End, Seen, Heard, Did, Reading, Step, Hears, Does, seen_of}
use Rattle.station_spec.specs.States.{Agenda, Spoken, Part, Repeating, Timing, Session, State, nothing, first, first_of, is_none, is_done}
use Rattle.station_spec.specs.States as states
use Rattle.station_spec.specs.Deciding.{repeating, decide, from_timing, from_part, decided}
use Rattle.station_spec.specs.Judging.{Payload, speaks, speaks_in, wanted, judged, taken_in, read, filled, IsRead}
use Rattle.station_spec.specs.Hearing.{session_opened, with_bytes, hearing}
use Rattle.station_spec.specs.Acting.{since_order, failing, agenda_said, replied, acted, state}
use Rattle.station_spec.specs.Next.{IsQuiet, IsDone}
use Rattle.station_spec.specs.Sharing.{Shows}
use Rattle.station_laws.specs.PostRuns.{IsPostRun}
use Rattle.station_laws.proofs.Contactors.{contactors_are_read}
use Rattle.station_laws.proofs.Decided.{same_session, same_live}
use Rattle.safe_runs.specs.Opening.{HasFailed}
use Rattle.safe_runs.proofs.Filled.{filled_linked}
use Rattle.safe_runs.proofs.Links.{IsWaitingIn}
use Rattle.safe_runs.proofs.Safety.{run_linked}
use Rattle.read_runs.proofs.Agendas.{decided_done, decided_not, IsWanted, WantedIn, wanted_in}
use Rattle.mandated_runs.specs.Holding.{CouldNotOpen}
use Rattle.mandated_runs.proofs.Arrivals.{quiet_left}
use Rattle.mandated_runs.proofs.Held.{Delivering, quiet_held}

-- A contactor that is live, and not closed in a session that delivers: its last order failed.

same_last : (o : Option Bool) (acts : List contactor.Act) → last_order (with_feedback o acts) ≡ last_order acts
same_last None acts = refl
same_last (Some b) acts = refl

live_last : (acts : List contactor.Act) → is_live acts ≡ true → (last_order acts ≡ Some (contactor.Close, true)) ⊎ ((kind : Kind) × (last_order acts ≡ Some (kind, false)))
live_last [] h = cc
live_last (contactor.ordered contactor.Close true ∷ acts) h = inl refl
live_last (contactor.ordered contactor.Close false ∷ acts) h = inr (contactor.Close, refl)
live_last (contactor.ordered contactor.Open true ∷ acts) h = cc
live_last (contactor.ordered contactor.Open false ∷ acts) h = inr (contactor.Open, refl)
live_last (contactor.feedback b ∷ acts) h = live_last acts h

pair_not : (k : Kind) (a b : Bool) → a ≡ false → b ≡ true → (kind : Kind) → ◌≡◌ {A = Option (Kind × Bool)} (Some (k, a)) (Some (kind, b)) → ⊥
pair_not k a b x y kind e =
    let p : ◌≡◌ {A = Kind × Bool} (k, a) (kind, b) = cc in
    let q : a ≡ b = ap (λ (z : Kind × Bool). z.1) p in
    let r : false ≡ true = sym x ∙ q ∙ y in
    cc

kind_not : (b : Bool) → ◌≡◌ {A = Option (Kind × Bool)} (Some (contactor.Open, b)) (Some (contactor.Close, true)) → ⊥
kind_not b e =
    let p : ◌≡◌ {A = Kind × Bool} (contactor.Open, b) (contactor.Close, true) = cc in
    let q : contactor.Open ≡ contactor.Close = ap (λ (z : Kind × Bool). z.0) p in
    cc

closes_last : (acts : List contactor.Act) → last_order acts ≡ Some (contactor.Close, true) → closes acts ≡ true
closes_last [] h = cc
closes_last (contactor.ordered contactor.Close true ∷ acts) h = refl
closes_last (contactor.ordered contactor.Close false ∷ acts) h = absurd (pair_not contactor.Close false true refl refl contactor.Close h)
closes_last (contactor.ordered contactor.Open taken ∷ acts) h = absurd (kind_not taken h)
closes_last (contactor.feedback b ∷ acts) h = closes_last acts h

could_not : (since earlier : List Seen) → AllByRecursion (λ x. x ≢ Did (Give order.Close) true) since → last_order (contactor_acts (since ++ Did (Give order.Open) false ∷ earlier)) ≡ Some (contactor.Close, true) → ⊥
could_not [] earlier h e = kind_not false e
could_not (Heard at event ∷ since) earlier h e = could_not since earlier h.1 (sym (same_last (told_by feedback_in event) (contactor_acts (since ++ Did (Give order.Open) false ∷ earlier))) ∙ e)
could_not (Did (Give order.Open) taken ∷ since) earlier h e = kind_not taken e
could_not (Did (Give order.Close) true ∷ since) earlier h e = h.0 refl
could_not (Did (Give order.Close) false ∷ since) earlier h e = pair_not contactor.Close false true refl refl contactor.Close e
could_not (Did (Give (order.Limits voltage current watts)) taken ∷ since) earlier h e = could_not since earlier h.1 e
could_not (Did (Send bytes) taken ∷ since) earlier h e = could_not since earlier h.1 e
could_not (Did (Answer bytes) taken ∷ since) earlier h e = could_not since earlier h.1 e
could_not (Did (End cause) taken ∷ since) earlier h e = could_not since earlier h.1 e

failed_live : (past : List Seen) → live past ≡ true → (closed past ≡ true → CouldNotOpen past) → HasFailed past
failed_live past l c = elim (live_last (contactor_acts past) l) [
  | inl h ↦
      let k = c (closes_last (contactor_acts past) h) in
      absurd (could_not k.since k.earlier k.no_close (subst (λ (xs : List Seen). last_order (contactor_acts xs) ≡ Some (contactor.Close, true)) k.past_is h))
  | inr h ↦ h
]

owed_by : (kind : Kind) (heard : List Bool) → standing_by (Some (kind, false)) heard ≡ standing.MustOpen
owed_by contactor.Close heard = refl
owed_by contactor.Open heard = refl

owed_heard : (at : ℕ) (e : Event) (past : List Seen) → HasFailed past → stands (Heard at e ∷ past) ≡ standing.MustOpen
owed_heard at e past h =
    let l : last_order (contactor_acts (Heard at e ∷ past)) ≡ Some (h.0, false) = same_last (told_by feedback_in e) (contactor_acts past) ∙ h.1 in
    subst (λ (o : Option (Kind × Bool)). standing_by o (feedback_since (contactor_acts (Heard at e ∷ past))) ≡ standing.MustOpen) (sym l) (owed_by h.0 (feedback_since (contactor_acts (Heard at e ∷ past))))

-- Such a session, without a cause, while the contactor is live.

abbrev pub opening : Agenda
opening = record nothing { order = Some order.Open }

abbrev pub Unless : State → Type 0 → Type 0
Unless s X = (ss : Session) → s.session ≡ Some ss → ss.stage.row ≡ row.Connected → s.agenda.ending ≡ None → s.live ≡ true → X

-- Open is decided; or it is what the hearing begins with
abbrev Opens : State → Type 0
Opens s = Unless s (s.agenda ≡ opening)

abbrev pub OpensSoon : State → Type 0
OpensSoon s = Unless s ((s.agenda ≡ opening) ⊎ ((s.part ≡ Repeating) × (is_done s.agenda ≡ true) × (s.facts.contactor ≡ standing.MustOpen)))

ending_none : (d : Option (List ℕ)) (o : Option Order) (r : Option Spoken) (e : Option EndCause) → is_none (first_of d o r e) ≡ true → e ≡ None
ending_none None None None None h = refl
ending_none None None None (Some k) h = cc
ending_none None None (Some r) e h = cc
ending_none None (Some o) r e h = cc
ending_none (Some d) o r e h = cc

done_ending : (a : Agenda) → is_done a ≡ true → a.ending ≡ None
done_ending a h = ending_none a.datagram a.order a.reply a.ending h

open_undone : (a : Agenda) → a ≡ opening → is_done a ≡ true → ⊥
open_undone a e h = let x : false ≡ true = sym (ap is_done e) ∙ h in cc

opens_first : (plan : PostPlan) (s : State) → is_done s.agenda ≡ true → s.part ≡ Repeating → s.facts.contactor ≡ standing.MustOpen → decided plan s ≡ record s { agenda = opening; part = Timing }
opens_first plan s d p m =
    decided_done plan s d
    ∙ ap (λ (x : Part). from_part plan x s) p
    ∙ ap (λ (x : Standing). decide (repeating x) Timing s (from_timing plan s)) m

decided_by : (plan : PostPlan) (s : State) (b : Bool) → is_done s.agenda ≡ b → OpensSoon s → Opens (decided plan s)
decided_by plan s false d h = subst Opens (sym (decided_not plan s d)) (λ ss k f e l. elim (h ss k f e l) [
  | inl a ↦ a
  | inr x ↦ absurd (let y : true ≡ false = sym x.1 ∙ d in cc)
])
decided_by plan s true d h = λ ss k f e l. elim (h ss (sym (same_session plan s) ∙ k) f (done_ending s.agenda d) (sym (same_live plan s) ∙ l)) [
  | inl a ↦ absurd (open_undone s.agenda a d)
  | inr x ↦ ap (λ (t : State). t.agenda) (opens_first plan s d x.0 x.2)
]

decided_opens : (plan : PostPlan) (s : State) → OpensSoon s → Opens (decided plan s)
decided_opens plan s h = decided_by plan s (is_done s.agenda) refl h

-- As a word is read nothing is left to do, so the contactor isn't live.

not_live : (s : State) (ss : Session) → Opens s → is_done s.agenda ≡ true → s.session ≡ Some ss → ss.stage.row ≡ row.Connected → s.live ≡ true → ⊥
not_live s ss h d k f l = open_undone s.agenda (h ss k f (done_ending s.agenda d) l) d

connected_of : (here : Phase) (d : Dialect) → None ≡ speaks_in here d → here ≡ row.Connected
connected_of row.Connected d h = refl
connected_of here d h = cc

not_negotiated : (chosen : Option Dialect) (response : List ℕ) (w : Option Word) → Negotiated chosen response ≡ judged_word w → ⊥
not_negotiated chosen response None e = cc
not_negotiated chosen response (Some (word.Request q)) e = cc
not_negotiated chosen response (Some (word.Reply reply)) e = cc
not_negotiated chosen response (Some word.Nothing) e = cc

negotiates_at : (c : Codecs) (offers : List Dialect) (d : Option Dialect) (stage : Stage) (payload : List ℕ) (chosen : Option Dialect) (response : List ℕ) → d ≡ speaks stage → Judges c offers d payload (Negotiated chosen response) → stage.row ≡ row.Connected
negotiates_at c offers None stage payload chosen response e j = connected_of stage.row stage.dialect e
negotiates_at c offers (Some d) stage payload chosen response e j = absurd (not_negotiated chosen response j.0 j.2)

-- no request leads to that row
stop_stays : (b : Bool) (here : Phase) → unwrap_or (if b then Some here else None) here ≡ here
stop_stays true here = refl
stop_stays false here = refl

leads_not : (here : Phase) (a : Ask) (f ac : Bool) → unwrap_or (leads here a f ac) here ≡ row.Connected → here ≡ row.Connected
leads_not here (ask.SessionStop pause) f ac h = sym (stop_stays (may_stop here) here) ∙ h
leads_not row.Connected a f ac h = refl
leads_not row.Selected ask.Authorization true ac h = cc
leads_not row.Selected ask.Authorization false ac h = cc
leads_not row.Authorized (ask.ChargeParameters mode limits) true true h = cc
leads_not row.Authorized (ask.ChargeParameters mode limits) true false h = cc
leads_not row.Authorized (ask.ChargeParameters mode limits) false ac h = cc
leads_not row.DcReady (ask.CableCheck ready soc) true ac h = cc
leads_not row.DcReady (ask.CableCheck ready soc) false ac h = cc
leads_not here (ask.PowerDelivery progress.Start tuple profile) f ac h = cc
leads_not here (ask.PowerDelivery progress.Stop tuple profile) f ac h = cc
leads_not here (ask.PowerDelivery progress.Renegotiate tuple profile) f ac h = cc
leads_not here a f ac h = cc

stage_not : (stage : Stage) (facts : Facts) (plan : PostPlan) (r : Request) (shown : ℕ) (b : Bool) → is_accepted (verdict stage facts plan r) ≡ b → (stage_behind stage facts plan r shown).row ≡ row.Connected → stage.row ≡ row.Connected
stage_not stage facts plan r shown true e h =
    let g : unwrap_or (leads stage.row r.ask (is_finished facts plan r.ask shown) (is_ac plan.mode)) stage.row ≡ row.Connected = rw e at h in
    leads_not stage.row r.ask (is_finished facts plan r.ask shown) (is_ac plan.mode) g
stage_not stage facts plan r shown false e h = let g : stage.row ≡ row.Connected = rw e at h in g

some_is : (a b : Session) → Some a ≡ Some b → a ≡ b
some_is a b h = cc

ends_not : (k : EndCause) → Some k ≡ None → ⊥
ends_not k h = cc

judged_opens : (c : Codecs) (plan : PostPlan) (s : State) (ss : Session) (p : Payload) (w : Judged) (shown : ℕ) → Opens s → is_done s.agenda ≡ true → s.session ≡ Some ss → p.dialect ≡ speaks ss.stage → Judges c plan.dialects.items p.dialect p.bytes w → Opens (judged plan s ss w shown)
judged_opens c plan s ss p (Negotiated chosen response) shown h d k e j = λ ts m f n l. absurd (not_live s ss h d k (negotiates_at c plan.dialects.items p.dialect ss.stage p.bytes chosen response e j) l)
judged_opens c plan s ss p (Asked r) shown h d k e j = λ ts m f n l.
    let x = ap (λ (u : Session). u.stage.row) (some_is _ ts m) in
    absurd (not_live s ss h d k (stage_not ss.stage s.facts plan r shown (is_accepted (verdict ss.stage s.facts plan r)) refl (x ∙ f)) l)
judged_opens c plan s ss p WrongSide shown h d k e j = λ ts m f n l. absurd (ends_not _ n)
judged_opens c plan s ss p Refused shown h d k e j = λ ts m f n l. absurd (ends_not _ n)

taken_opens : (c : Codecs) (plan : PostPlan) (s : State) (kept : Option Session) (r : Reading) (p : Payload) → Opens s → s.session ≡ kept → WantedIn s kept p → Judges c plan.dialects.items p.dialect p.bytes r.judged → Opens (taken_in plan s kept r)
taken_opens c plan s None r p h k i j = h
taken_opens c plan s (Some ss) r p h k i j = judged_opens c plan s ss p r.judged r.shown h i.1.done k i.1.dialect_is j

read_opens : (c : Codecs) (plan : PostPlan) (S : ℕ → ℕ → Type 0) (s : State) (w : Option Payload) (r : Option Reading) → wanted s ≡ w → IsRead c plan S s w r → Opens s → Opens (read plan s r)
read_opens c plan S s w None e i h = h
read_opens c plan S s None (Some r) e i h = absurd i
read_opens c plan S s (Some p) (Some r) e i h = taken_opens c plan s s.session r p h refl (wanted_in s p e) i.0

filled_opens : (c : Codecs) (plan : PostPlan) (S : ℕ → ℕ → Type 0) (s : State) (r : Option Reading) → IsRead c plan S (decided plan s) (wanted (decided plan s)) r → OpensSoon s → Opens (filled plan r s)
filled_opens c plan S s r i h = read_opens c plan S (decided plan s) (wanted (decided plan s)) r refl i (decided_opens plan s h)

-- An act.

kept_back : (f : Session → Session) (kept : Option Session) (ss : Session) → option_map f kept ≡ Some ss → (ts : Session) × (kept ≡ Some ts) × (f ts ≡ ss)
kept_back f None ss h = cc
kept_back f (Some ts) ss h = (ts, refl, cc)

failing_ends : (e : Option EndCause) (kept : Option Session) (ss : Session) (cause : EndCause) (alive : Bool) → kept ≡ Some ss → (failing e kept cause alive).ending ≡ None → ⊥
failing_ends None None ss cause alive k h = cc
failing_ends None (Some ts) ss cause alive k h = cc
failing_ends (Some ending) kept ss cause alive k h = cc

said_ends : (b : Option EndCause) (kept : Option Session) (ss : Session) (a : Agenda) (alive : Bool) → kept ≡ Some ss → (agenda_said b kept a alive).ending ≡ None → a.ending ≡ None
said_ends None kept ss a alive k h = h
said_ends (Some cause) None ss a alive k h = cc
said_ends (Some cause) (Some ts) ss a alive k h = cc

-- where Open is decided, that is what is done
opens_only : (t : State) (todo : states.Todo) → t.agenda ≡ opening → first t.agenda ≡ Some todo → todo ≡ states.Give order.Open
opens_only t todo e f = let x : Some todo ≡ Some (states.Give order.Open) = sym f ∙ ap first e in cc

since_row : (now : ℕ) (o : Order) (ss : Session) → (since_order now o ss).stage.row ≡ ss.stage.row
since_row now order.Open ss = refl
since_row now order.Close ss = refl
since_row now (order.Limits voltage current watts) ss = refl

waits_not : (kept : Option Session) (ss : Session) → kept ≡ Some ss → ss.stage.row ≡ row.Connected → IsWaitingIn kept → ⊥
waits_not None ss k f w = cc
waits_not (Some ts) ss k f w =
    let x : ts ≡ ss = cc in
    let y : true ≡ false = sym w ∙ ap (λ (u : Session). is_waiting u.stage.row) x ∙ ap is_waiting f in
    cc

confirmed_not : (here : Phase) → confirmed_row here ≡ row.Connected → here ≡ row.Connected
confirmed_not row.DcClosing h = cc
confirmed_not row.AcClosing h = cc
confirmed_not here h = h

tell_not : (d : List ℕ) → states.Tell d ≡ states.Give order.Open → ⊥
tell_not d h = cc

say_not : (spoken : Spoken) → states.Say spoken ≡ states.Give order.Open → ⊥
say_not spoken h = cc

limits_not : (voltage current watts : ℕ) → states.Give (order.Limits voltage current watts) ≡ states.Give order.Open → ⊥
limits_not voltage current watts h = cc

gave_opens : (t : State) (o : Order) (taken : Bool) → first t.agenda ≡ Some (states.Give o) → (o ≡ order.Close → IsWaitingIn t.session) → Opens t → OpensSoon (acted (Give o) taken t)
gave_opens t o false f w h = λ ss k r e l. absurd (failing_ends t.agenda.ending t.session ss _ _ k e)
gave_opens t order.Open true f w h = λ ss k r e l. absurd (let x : false ≡ true = l in cc)
gave_opens t order.Close true f w h = λ ss k r e l.
    let b = kept_back (since_order t.clock order.Close) t.session ss k in
    absurd (waits_not t.session b.0 b.1 (sym (since_row t.clock order.Close b.0) ∙ ap (λ (u : Session). u.stage.row) b.2 ∙ r) (w refl))
gave_opens t (order.Limits voltage current watts) true f w h = λ ss k r e l.
    let b = kept_back (since_order t.clock (order.Limits voltage current watts)) t.session ss k in
    absurd (limits_not voltage current watts (opens_only t _ (h b.0 b.1 (sym (since_row t.clock (order.Limits voltage current watts) b.0) ∙ ap (λ (u : Session). u.stage.row) b.2 ∙ r) e l) f))

said_opens : (t : State) (spoken : Spoken) (bytes : List ℕ) (taken : Bool) → first t.agenda ≡ Some (states.Say spoken) → Opens t → OpensSoon (acted (Send bytes) taken t)
said_opens t spoken bytes false f h = λ ss k r e l. absurd (failing_ends t.agenda.ending t.session ss _ _ k e)
said_opens t spoken bytes true f h = λ ss k r e l.
    let b = kept_back (replied t.clock) t.session ss k in
    absurd (say_not spoken (opens_only t _ (h b.0 b.1 (confirmed_not b.0.stage.row (ap (λ (u : Session). u.stage.row) b.2 ∙ r)) (said_ends t.agenda.behind_reply t.session b.0 t.agenda t.live b.1 e) l) f))

acted_opens : (c : Codecs) (t : State) (todo : states.Todo) (a : Act) (taken : Bool) → first t.agenda ≡ Some todo → IsDone c todo a taken → (todo ≡ states.Give order.Close → IsWaitingIn t.session) → Opens t → OpensSoon (acted a taken t)
acted_opens c t (states.Tell d) a taken f i w h = subst (λ (x : Act). OpensSoon (acted x taken t)) (sym i) (λ ss k r e l. absurd (tell_not d (opens_only t _ (h ss k r e l) f)))
acted_opens c t (states.Give o) a taken f i w h = subst (λ (x : Act). OpensSoon (acted x taken t)) (sym i) (gave_opens t o taken f (λ e. w (ap states.Give e)) h)
acted_opens c t (states.Say spoken) a taken f i w h = subst (λ (x : Act). OpensSoon (acted x taken t)) (sym i.2) (said_opens t spoken i.0 taken f h)
acted_opens c t (states.Finish cause) a taken f i w h = subst (λ (x : Act). OpensSoon (acted x taken t)) (sym i.0) (λ ss k r e l. absurd (let x : None ≡ Some ss = k in cc))

-- A hearing.

none_delivers : (kept : Option Session) → kept ≡ None → Delivering kept → ⊥
none_delivers kept n d = absurd (let x : None ≡ Some d.0 = sym n ∙ d.1 in cc)

quiet_not : (plan : PostPlan) (s : State) (ss : Session) → OpensSoon s → IsQuiet plan s → s.session ≡ Some ss → ss.stage.row ≡ row.Connected → s.live ≡ true → ⊥
quiet_not plan s ss h q k f l =
    let done = ap is_none q.none in
    not_live (decided plan s) ss (decided_opens plan s h) done (same_session plan s ∙ k) f (same_live plan s ∙ l)

heard_opens : (c : Codecs) (plan : PostPlan) (at : ℕ) (e : Event) (steps : List Step) (arrived : Option ℕ) → (state plan steps).arrived ≡ arrived → ReadsBack c → IsPostRun c plan (Hears at e ∷ steps) → OpensSoon (state plan steps) → OpensSoon (state plan (Hears at e ∷ steps))
heard_opens c plan at e steps None a back run h = λ ss k f n l.
    let s = state plan steps in
    let m : option_map (with_bytes (brought e)) s.session ≡ Some ss = ap (λ (x : Option ℕ). option_map (with_bytes (brought e)) (session_opened x s.clock s.session)) (sym a) ∙ k in
    let b = kept_back (with_bytes (brought e)) s.session ss m in
    absurd (quiet_not plan s b.0 h run.1 b.1 (ap (λ (u : Session). u.stage.row) b.2 ∙ f) l)
heard_opens c plan at e steps (Some token) a back run h = λ ss k f n l.
    let s = state plan steps in
    let past = map seen_of steps in
    let none : s.session ≡ None = quiet_left c plan steps run.0 run.1 (ap is_some a) in
    let alive : live past ≡ true = sym (contactors_are_read plan steps).live_is ∙ l in
    let failed = failed_live past alive (λ x. elim (quiet_held c plan steps back run.0 run.1 x) [
      | inl y ↦ y
      | inr y ↦ absurd (none_delivers s.session none y)
    ]) in
    inr (refl, refl, (contactors_are_read plan (Hears at e ∷ steps)).standing_is ∙ owed_heard at e past failed)

close_first : (d : Option (List ℕ)) (o : Option Order) (r : Option Spoken) (e : Option EndCause) → first_of d o r e ≡ Some (states.Give order.Close) → o ≡ Some order.Close
close_first (Some d) o r e h = cc
close_first None (Some o) r e h = cc
close_first None None (Some r) e h = cc
close_first None None None (Some e) h = cc
close_first None None None None h = cc

-- in every run of a post
pub steps_open : (c : Codecs) (plan : PostPlan) (steps : List Step) → ReadsBack c → IsPostRun c plan steps → OpensSoon (state plan steps)
steps_open c plan [] back run = λ ss k f n l. absurd (let x : None ≡ Some ss = k in cc)
steps_open c plan (Hears at e ∷ steps) back run = heard_opens c plan at e steps (state plan steps).arrived refl back run (steps_open c plan steps back run.0)
steps_open c plan (Does r a taken ∷ steps) back (run, (limit, before, behind, acts)) =
    let s = state plan steps in
    let t = filled plan r s in
    let l = filled_linked c plan (Shows limit before behind) (map seen_of steps) s r acts.read (run_linked c plan steps back run) in
    acted_opens c t acts.todo a taken acts.acts acts.done (λ e. (l.closing (close_first t.agenda.datagram t.agenda.order t.agenda.reply t.agenda.ending (acts.acts ∙ ap Some e))).2)
    (filled_opens c plan (Shows limit before behind) s r acts.read (steps_open c plan steps back run))

-- so a negotiation is read while the contactor isn't live
pub negotiates_unlive : (c : Codecs) (plan : PostPlan) (s : State) (ss : Session) (n : ℕ) (p : Payload) (chosen : Option Dialect) (response : List ℕ) → OpensSoon s → (decided plan s).session ≡ Some ss → IsWanted (decided plan s) ss n p
    → Judges c plan.dialects.items p.dialect p.bytes (Negotiated chosen response) → (decided plan s).live ≡ true → ⊥
negotiates_unlive c plan s ss n p chosen response h k i j l =
    not_live (decided plan s) ss (decided_opens plan s h) i.done k (negotiates_at c plan.dialects.items p.dialect ss.stage p.bytes chosen response i.dialect_is j) l
