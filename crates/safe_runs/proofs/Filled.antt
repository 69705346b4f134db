-- What is decided behind what was read keeps the tie.
use Rattle.std.specs.Prelude.{ℤ, is_some}
use Rattle.std.proofs.Common.{◌≡◌, ℕ, Bool, true, false, if◌then◌else◌, List, Option, Some, None, Result, Ok, Err, refl, sym, ap, subst, ◌∙◌}
use Rattle.charge_world.specs.declared.offer.Dialect.{Dialect}
use Rattle.charge_world.specs.declared.ports.Order.{Order}
use Rattle.charge_world.specs.declared.ports.Order.TheVariants as order
use Rattle.session_words.specs.declared.cause.EndCause.{EndCause}
use Rattle.session_words.specs.declared.cause.EndCause.TheVariants.{FailedReply, Paused, Stopped}
use Rattle.session_words.specs.declared.cause.EndCause.TheVariants as cause
use Rattle.session_words.specs.declared.code.Code.{Code}
use Rattle.session_words.specs.declared.code.Progress.TheVariants as progress
use Rattle.session_words.specs.declared.facts.Facts.{Facts}
use Rattle.session_words.specs.declared.amount.Amount.{Amount}
use Rattle.session_words.specs.declared.phase.Phase.{Phase}
use Rattle.session_words.specs.declared.phase.Phase.TheVariants as row
use Rattle.session_words.specs.declared.plan.PostPlan.{PostPlan}
use Rattle.session_words.specs.declared.session.SessionId.{SessionId}
use Rattle.session_words.specs.declared.word.Ask.{Ask}
use Rattle.session_words.specs.declared.word.Ask.TheVariants as ask
use Rattle.session_words.specs.declared.word.Request.{Request}
use Rattle.session_words.specs.declared.word.Word.{Word}
use Rattle.session_words.specs.declared.word.Word.TheVariants as word
use Rattle.v2gtp_frames.specs.declared.FrameFault.{FrameFault}
use Rattle.v2gtp_frames.specs.Reading.{whole_at, payload_at, behind_front}
use Rattle.session_rules.specs.declared.stage.Stage.{Stage}
use Rattle.session_rules.specs.Causes.{found_by, word_cause}
use Rattle.session_rules.specs.Moves.{moved, stage_behind, facts_behind}
use Rattle.session_rules.specs.Orders.{granted_order, order_of}
use Rattle.session_rules.specs.Reply.{reply_to}
use Rattle.session_rules.specs.Rows.{leads}
use Rattle.session_rules.specs.Stages.{is_waiting}
use Rattle.session_rules.specs.Verdict.{verdict, is_accepted}
use Rattle.post_spec.specs.Codecs.{Judged, Negotiated, Asked, WrongSide, Refused, Codecs, Judges, judged_word}
use Rattle.post_spec.specs.Sessions.{session}
use Rattle.post_spec.specs.Steps.{Seen, Reading}
use Rattle.station_spec.specs.States.{Spoken, Response, Said, Session, State, nothing, is_done}
use Rattle.station_spec.specs.Deciding.{opening_if, decided}
use Rattle.station_spec.specs.Judging.{Payload, speaks, speaks_in, payload_by, payload_in, wanted, order_by, cause_by, asked_agenda, asked_session, chosen_stage, unmatched, passed, judged, taken_in, read, filled, IsRead}
use Rattle.safe_runs.proofs.Asked.{IsStop, found_failed, found_accepted, row_takes, not_close, same_pilot, same_isolation}
use Rattle.safe_runs.proofs.Links.{Link, Tie, LinkedAt, Linked}
use Rattle.safe_runs.proofs.Parts.{Planned, decided_planned}
use Rattle.safe_runs.proofs.Rows.{IsPlain}
use Rattle.safe_runs.proofs.Words.{free, plain_link, start_link, chosen_link}

opens : (live : Bool) → opening_if live ≡ Some order.Close → ⊥
opens true h = cc
opens false h = cc

-- with a cause nothing more is tied
tie_ends : (c : Codecs) (plan : PostPlan) (past : List Seen) (es : Option (List Seen)) (ss ts : Session) (ending : Option EndCause) (cause : EndCause) (reply : Option Spoken) (behind : Option EndCause) (V W : Type 0) → ending ≡ Some cause
    → Tie c plan past None es (Some ss) None None V → Tie c plan past ending es (Some ts) reply behind W
tie_ends c plan past None ss ts ending cause reply behind V W e t = absurd t
tie_ends c plan past (Some es) ss ts ending cause reply behind V W e t = subst (λ (x : Option EndCause). Tie c plan past x (Some es) (Some ts) reply behind W) (sym e) tt

link_of : (c : Codecs) (plan : PostPlan) (past : List Seen) (es : Option (List Seen)) (ss : Session) → Tie c plan past None es (Some ss) None None (Unit {0}) → (xs : List Seen) × (es ≡ Some xs) × Link c plan past xs ss.stage ss.unread None None (Unit {0})
link_of c plan past None ss t = absurd t
link_of c plan past (Some es) ss t = (es, refl, t)

tie_made : (c : Codecs) (plan : PostPlan) (past : List Seen) (es : Option (List Seen)) (xs : List Seen) (ts : Session) (ending : Option EndCause) (reply spoken : Option Spoken) (behind then_behind : Option EndCause) (next : Stage)
    → es ≡ Some xs → ending ≡ None → reply ≡ spoken → behind ≡ then_behind → ts.stage ≡ next → Link c plan past xs next ts.unread spoken then_behind (Unit {0}) → Tie c plan past ending es (Some ts) reply behind (Unit {0})
tie_made c plan past es xs ts ending reply spoken behind then_behind next here e r b s l =
    let a : Link c plan past xs ts.stage ts.unread spoken then_behind (Unit {0}) = subst (λ (x : Stage). Link c plan past xs x ts.unread spoken then_behind (Unit {0})) (sym s) l in
    let d : Link c plan past xs ts.stage ts.unread reply behind (Unit {0}) = subst (λ (x : Option EndCause). Link c plan past xs ts.stage ts.unread reply x (Unit {0})) (sym b) (subst (λ (x : Option Spoken). Link c plan past xs ts.stage ts.unread x then_behind (Unit {0})) (sym r) a) in
    subst (λ (x : Option EndCause). Tie c plan past x es (Some ts) reply behind (Unit {0})) (sym e) (subst (λ (x : Option (List Seen)). Tie c plan past None x (Some ts) reply behind (Unit {0})) (sym here) d)

-- the parts of an accepted request
accepted_stage : (s : Stage) (facts : Facts) (plan : PostPlan) (r : Request) (shown : ℕ) → is_accepted (verdict s facts plan r) ≡ true → stage_behind s facts plan r shown ≡ moved s facts plan r shown
accepted_stage s facts plan r shown e = rw e refl

accepted_order : (s : Stage) (facts : Facts) (plan : PostPlan) (r : Request) (shown : ℕ) → is_accepted (verdict s facts plan r) ≡ true → order_of s facts plan r shown ≡ granted_order plan s.told shown r.ask
accepted_order s facts plan r shown e = rw e refl

order_none : (cause : Option EndCause) (live : Bool) (o : Option Order) → cause ≡ None → order_by cause live o ≡ o
order_none cause live o e = ap (λ (x : Option EndCause). order_by x live o) e

order_some : (cause : Option EndCause) (k : EndCause) (live : Bool) (o : Option Order) → cause ≡ Some k → order_by cause live o ≡ opening_if live
order_some cause k live o e = ap (λ (x : Option EndCause). order_by x live o) e

reply_none : (b : Bool) (x : Option Spoken) → b ≡ true → (if b then None else x) ≡ None
reply_none true x e = refl
reply_none false x e = cc

reply_some : (b : Bool) (x : Option Spoken) → b ≡ false → (if b then None else x) ≡ x
reply_some true x e = cc
reply_some false x e = refl

-- a request that ends the session
asked_ends : (c : Codecs) (plan : PostPlan) (past : List Seen) (t : State) (ss : Session) (r : Request) (shown : ℕ) (cause : EndCause) → cause_by ss.stage plan t r ≡ Some cause → LinkedAt c plan past t.arrived t.facts (Some ss) nothing (Unit {0})
    → LinkedAt c plan past t.arrived (facts_behind ss.stage t.facts plan r) (Some (asked_session ss plan t r shown)) (asked_agenda ss plan t r shown) (Unit {0})
asked_ends c plan past t ss r shown cause e l = record {
  arrives = l.arrives;
  pilot_is = l.pilot_is ∙ sym (same_pilot ss.stage t.facts plan r);
  isolation_is = l.isolation_is ∙ sym (same_isolation ss.stage t.facts plan r);
  tie = tie_ends c plan past (session past) ss (asked_session ss plan t r shown) (cause_by ss.stage plan t r) cause _ None (Unit {0}) (Unit {0}) e l.tie;
  closing = λ h. absurd (opens t.live (sym (order_some (cause_by ss.stage plan t r) cause t.live (order_of ss.stage t.facts plan r shown) e) ∙ h));
}

stop_cause : (x : Code) (pause : Bool) → is_accepted x ≡ true → word_cause false (found_by x (ask.SessionStop pause)) ≡ Some (if pause then Paused else Stopped)
stop_cause x pause e = rw e refl

not_stop : (a : Ask) → IsPlain a → IsStop a → ⊥
not_stop (ask.SessionStop pause) p s = p
not_stop a p s = s

asked_plain : (c : Codecs) (plan : PostPlan) (past : List Seen) (t : State) (ss : Session) (name : SessionId) (a : Ask) (shown n : ℕ) (d : Dialect) → IsPlain a → is_accepted (verdict ss.stage t.facts plan (record { session = name; ask = a })) ≡ true
    → is_waiting ss.stage.row ≡ false → whole_at ss.unread ≡ Ok (Some n) → c.Reads d (payload_at n ss.unread) (Some (word.Request (record { session = name; ask = a }))) → speaks ss.stage ≡ Some d
    → LinkedAt c plan past t.arrived t.facts (Some ss) nothing (Unit {0})
    → LinkedAt c plan past t.arrived (facts_behind ss.stage t.facts plan (record { session = name; ask = a })) (Some (asked_session ss plan t (record { session = name; ask = a }) shown)) (asked_agenda ss plan t (record { session = name; ask = a }) shown) (Unit {0})
asked_plain c plan past t ss name a shown n d p ok still w reads sp l =
    let r : Request = record { session = name; ask = a } in
    let k = link_of c plan past (session past) ss l.tie in
    let m = plain_link c plan past k.0 ss.stage ss.unread t.facts name a shown n d k.2 (free c plan past k.0 ss.stage ss.unread k.2 still) w reads sp l.isolation_is ok p in
    let cause = found_accepted (verdict ss.stage t.facts plan r) a (not_stop a p) ok in
    let stage = accepted_stage ss.stage t.facts plan r shown ok in
    let goes : is_waiting (stage_behind ss.stage t.facts plan r shown).row ≡ false = ap (λ (x : Stage). is_waiting x.row) stage ∙ m.0 in
    record {
      arrives = l.arrives;
      pilot_is = l.pilot_is ∙ sym (same_pilot ss.stage t.facts plan r);
      isolation_is = l.isolation_is ∙ sym (same_isolation ss.stage t.facts plan r);
      tie = tie_made c plan past (session past) k.0 (asked_session ss plan t r shown) (cause_by ss.stage plan t r) _ (Some (Said ss.stage.dialect (reply_to ss.stage t.facts plan r shown))) None None
          (moved ss.stage t.facts plan r shown) k.1 cause (reply_some (is_waiting (stage_behind ss.stage t.facts plan r shown).row) (Some (Said ss.stage.dialect (reply_to ss.stage t.facts plan r shown))) goes) refl stage m.1;
      closing = λ h. absurd (not_close plan ss.stage.told shown a p (sym (order_none (cause_by ss.stage plan t r) t.live (order_of ss.stage t.facts plan r shown) cause ∙ accepted_order ss.stage t.facts plan r shown ok) ∙ h));
    }

asked_start : (c : Codecs) (plan : PostPlan) (past : List Seen) (t : State) (ss : Session) (name : SessionId) (tuple : Option ℤ) (profile : Option Amount) (shown n : ℕ) (d : Dialect)
    → is_accepted (verdict ss.stage t.facts plan (record { session = name; ask = ask.PowerDelivery progress.Start tuple profile })) ≡ true
    → is_waiting ss.stage.row ≡ false → whole_at ss.unread ≡ Ok (Some n) → c.Reads d (payload_at n ss.unread) (Some (word.Request (record { session = name; ask = ask.PowerDelivery progress.Start tuple profile }))) → speaks ss.stage ≡ Some d
    → LinkedAt c plan past t.arrived t.facts (Some ss) nothing (Unit {0})
    → LinkedAt c plan past t.arrived (facts_behind ss.stage t.facts plan (record { session = name; ask = ask.PowerDelivery progress.Start tuple profile })) (Some (asked_session ss plan t (record { session = name; ask = ask.PowerDelivery progress.Start tuple profile }) shown)) (asked_agenda ss plan t (record { session = name; ask = ask.PowerDelivery progress.Start tuple profile }) shown) (Unit {0})
asked_start c plan past t ss name tuple profile shown n d ok still w reads sp l =
    let r : Request = record { session = name; ask = ask.PowerDelivery progress.Start tuple profile } in
    let k = link_of c plan past (session past) ss l.tie in
    let m = start_link c plan past k.0 ss.stage ss.unread t.facts name tuple profile shown n d k.2 (free c plan past k.0 ss.stage ss.unread k.2 still) k.1 w reads sp l.pilot_is ok in
    let cause = found_accepted (verdict ss.stage t.facts plan r) r.ask (λ s. s) ok in
    let stage = accepted_stage ss.stage t.facts plan r shown ok in
    let waits : is_waiting (stage_behind ss.stage t.facts plan r shown).row ≡ true = ap (λ (x : Stage). is_waiting x.row) stage ∙ m.waiting in
    record {
      arrives = l.arrives;
      pilot_is = l.pilot_is ∙ sym (same_pilot ss.stage t.facts plan r);
      isolation_is = l.isolation_is ∙ sym (same_isolation ss.stage t.facts plan r);
      tie = tie_made c plan past (session past) k.0 (asked_session ss plan t r shown) (cause_by ss.stage plan t r) _ None None None
          (moved ss.stage t.facts plan r shown) k.1 cause (reply_none (is_waiting (stage_behind ss.stage t.facts plan r shown).row) (Some (Said ss.stage.dialect (reply_to ss.stage t.facts plan r shown))) waits) refl stage m.link;
      closing = λ h. (refl, m.mandated, waits, m.ready);
    }

-- an accepted request of any kind
asked_accepted : (c : Codecs) (plan : PostPlan) (past : List Seen) (t : State) (ss : Session) (name : SessionId) (a : Ask) (shown n : ℕ) (d : Dialect) → is_accepted (verdict ss.stage t.facts plan (record { session = name; ask = a })) ≡ true
    → is_waiting ss.stage.row ≡ false → whole_at ss.unread ≡ Ok (Some n) → c.Reads d (payload_at n ss.unread) (Some (word.Request (record { session = name; ask = a }))) → speaks ss.stage ≡ Some d
    → LinkedAt c plan past t.arrived t.facts (Some ss) nothing (Unit {0})
    → LinkedAt c plan past t.arrived (facts_behind ss.stage t.facts plan (record { session = name; ask = a })) (Some (asked_session ss plan t (record { session = name; ask = a }) shown)) (asked_agenda ss plan t (record { session = name; ask = a }) shown) (Unit {0})
asked_accepted c plan past t ss name (ask.SessionStop pause) shown n d ok still w reads sp l =
    let r : Request = record { session = name; ask = ask.SessionStop pause } in
    asked_ends c plan past t ss r shown (if pause then Paused else Stopped) (stop_cause (verdict ss.stage t.facts plan r) pause ok) l
asked_accepted c plan past t ss name (ask.PowerDelivery progress.Start tuple profile) shown n d ok still w reads sp l = asked_start c plan past t ss name tuple profile shown n d ok still w reads sp l
asked_accepted c plan past t ss name a shown n d ok still w reads sp l = asked_plain c plan past t ss name a shown n d tt ok still w reads sp l

-- a request is read in a dialect alone
word_is : (r : Request) (w : Option Word) → Asked r ≡ judged_word w → w ≡ Some (word.Request r)
word_is r None e = cc
word_is r (Some (word.Request q)) e = let s : r ≡ q = cc in ap (λ (x : Request). Some (word.Request x)) (sym s)
word_is r (Some (word.Reply reply)) e = cc
word_is r (Some word.Nothing) e = cc

not_negotiated : (chosen : Option Dialect) (response : List ℕ) (w : Option Word) → Negotiated chosen response ≡ judged_word w → ⊥
not_negotiated chosen response None e = cc
not_negotiated chosen response (Some (word.Request q)) e = cc
not_negotiated chosen response (Some (word.Reply reply)) e = cc
not_negotiated chosen response (Some word.Nothing) e = cc

takes_dialect : (here : Phase) (a : Ask) (d : Dialect) → is_some (leads here a true true) ≡ true → speaks_in here d ≡ Some d
takes_dialect row.Connected (ask.SessionStop pause) d h = cc
takes_dialect row.Connected a d h = cc
takes_dialect here a d h = refl

some_payload : (p q : Payload) → Some p ≡ Some q → p ≡ q
some_payload p q h = cc

spoken_row : (stage : Stage) (facts : Facts) (plan : PostPlan) (r : Request) → is_accepted (verdict stage facts plan r) ≡ true → speaks stage ≡ Some stage.dialect
spoken_row stage facts plan r ok = takes_dialect stage.row r.ask stage.dialect (row_takes stage facts plan r ok)

asked_linked : (c : Codecs) (plan : PostPlan) (past : List Seen) (t : State) (ss : Session) (r : Request) (shown n : ℕ) (b : Bool) → is_accepted (verdict ss.stage t.facts plan r) ≡ b
    → is_waiting ss.stage.row ≡ false → whole_at ss.unread ≡ Ok (Some n) → Judges c plan.dialects.items (speaks ss.stage) (payload_at n ss.unread) (Asked r)
    → LinkedAt c plan past t.arrived t.facts (Some ss) nothing (Unit {0})
    → LinkedAt c plan past t.arrived (facts_behind ss.stage t.facts plan r) (Some (asked_session ss plan t r shown)) (asked_agenda ss plan t r shown) (Unit {0})
asked_linked c plan past t ss r shown n false e still w j l = asked_ends c plan past t ss r shown FailedReply (found_failed (verdict ss.stage t.facts plan r) r.ask e) l
asked_linked c plan past t ss r shown n true e still w j l =
    let sp = spoken_row ss.stage t.facts plan r e in
    let k = subst (λ (d : Option Dialect). Judges c plan.dialects.items d (payload_at n ss.unread) (Asked r)) sp j in
    let reads = subst (λ (x : Option Word). c.Reads ss.stage.dialect (payload_at n ss.unread) x) (word_is r k.0 k.2) k.1 in
    asked_accepted c plan past t ss r.session r.ask shown n ss.stage.dialect e still w reads sp l

-- a negotiation is read before a dialect is chosen
negotiated_at : (c : Codecs) (plan : PostPlan) (past es : List Seen) (stage : Stage) (unread : List ℕ) (chosen : Option Dialect) (response : List ℕ) (n : ℕ) (d : Option Dialect) (l : Link c plan past es stage unread None None (Unit {0}))
    → speaks stage ≡ d → is_waiting stage.row ≡ false → whole_at unread ≡ Ok (Some n) → Judges c plan.dialects.items d (payload_at n unread) (Negotiated chosen response)
    → Link c plan past es (chosen_stage stage chosen) (behind_front unread) (Some (Response response)) (unmatched chosen) (Unit {0})
negotiated_at c plan past es stage unread chosen response n None l sp still w j = chosen_link c plan past es stage unread chosen response n l (free c plan past es stage unread l still) w j sp
negotiated_at c plan past es stage unread chosen response n (Some d) l sp still w j = absurd (not_negotiated chosen response j.0 j.2)

pub judged_linked : (c : Codecs) (plan : PostPlan) (past : List Seen) (t : State) (ss : Session) (x : Judged) (shown n : ℕ) → is_waiting ss.stage.row ≡ false → whole_at ss.unread ≡ Ok (Some n) → Judges c plan.dialects.items (speaks ss.stage) (payload_at n ss.unread) x
    → LinkedAt c plan past t.arrived t.facts (Some ss) nothing (Unit {0}) → Linked c plan past (judged plan t ss x shown)
judged_linked c plan past t ss (Negotiated chosen response) shown n still w j l =
    let k = link_of c plan past (session past) ss l.tie in
    let m = negotiated_at c plan past k.0 ss.stage ss.unread chosen response n (speaks ss.stage) k.2 refl still w j in
    let ts : Session = record ss { stage = chosen_stage ss.stage chosen; unread = behind_front ss.unread } in
    record {
      arrives = l.arrives;
      pilot_is = l.pilot_is;
      isolation_is = l.isolation_is;
      tie = tie_made c plan past (session past) k.0 ts None (Some (Response response)) (Some (Response response)) (unmatched chosen) (unmatched chosen) (chosen_stage ss.stage chosen) k.1 refl refl refl refl m;
      closing = λ h. absurd (let y : None ≡ Some order.Close = h in cc);
    }
judged_linked c plan past t ss (Asked r) shown n still w j l = asked_linked c plan past t ss r shown n (is_accepted (verdict ss.stage t.facts plan r)) refl still w j l
judged_linked c plan past t ss WrongSide shown n still w j l =
    record { arrives = l.arrives; pilot_is = l.pilot_is; isolation_is = l.isolation_is; tie = tie_ends c plan past (session past) ss (passed ss) (Some cause.WrongSide) cause.WrongSide None None (Unit {0}) (Unit {0}) refl l.tie; closing = λ h. absurd (opens t.live h) }
judged_linked c plan past t ss Refused shown n still w j l =
    record { arrives = l.arrives; pilot_is = l.pilot_is; isolation_is = l.isolation_is; tie = tie_ends c plan past (session past) ss (passed ss) (Some cause.Refused) cause.Refused None None (Unit {0}) (Unit {0}) refl l.tie; closing = λ h. absurd (opens t.live h) }

-- what was wanted was the frame at the front
front_linked : (c : Codecs) (plan : PostPlan) (past : List Seen) (t : State) (ss : Session) (x : Judged) (shown : ℕ) (f : Result (Option ℕ) FrameFault) (p : Payload) → whole_at ss.unread ≡ f → payload_by f ss ≡ Some p → is_waiting ss.stage.row ≡ false
    → Judges c plan.dialects.items p.dialect p.bytes x → LinkedAt c plan past t.arrived t.facts (Some ss) nothing (Unit {0}) → Linked c plan past (judged plan t ss x shown)
front_linked c plan past t ss x shown (Err fault) p w e still j l = cc
front_linked c plan past t ss x shown (Ok None) p w e still j l = cc
front_linked c plan past t ss x shown (Ok (Some n)) p w e still j l =
    let q : record { dialect = speaks ss.stage; bytes = payload_at n ss.unread } ≡ p = some_payload _ p e in
    judged_linked c plan past t ss x shown n still w (subst (λ (y : Payload). Judges c plan.dialects.items y.dialect y.bytes x) (sym q) j) l

waiting_linked : (c : Codecs) (plan : PostPlan) (past : List Seen) (t : State) (ss : Session) (x : Judged) (shown : ℕ) (b : Bool) (p : Payload) → is_waiting ss.stage.row ≡ b → (if b then None else payload_by (whole_at ss.unread) ss) ≡ Some p
    → Judges c plan.dialects.items p.dialect p.bytes x → LinkedAt c plan past t.arrived t.facts (Some ss) nothing (Unit {0}) → Linked c plan past (judged plan t ss x shown)
waiting_linked c plan past t ss x shown true p w e j l = cc
waiting_linked c plan past t ss x shown false p w e j l = front_linked c plan past t ss x shown (whole_at ss.unread) p refl e w j l

taken_linked : (c : Codecs) (plan : PostPlan) (past : List Seen) (t : State) (kept : Option Session) (r : Reading) (p : Payload) → payload_in kept ≡ Some p → Judges c plan.dialects.items p.dialect p.bytes r.judged
    → LinkedAt c plan past t.arrived t.facts kept nothing (Unit {0}) → Linked c plan past (taken_in plan t kept r)
taken_linked c plan past t None r p e j l = cc
taken_linked c plan past t (Some ss) r p e j l = waiting_linked c plan past t ss r.judged r.shown (is_waiting ss.stage.row) p refl e j l

wanted_linked : (c : Codecs) (plan : PostPlan) (past : List Seen) (t : State) (r : Reading) (p : Payload) (b : Bool) → is_done t.agenda ≡ b → wanted t ≡ Some p → Judges c plan.dialects.items p.dialect p.bytes r.judged → Planned c plan past t → Linked c plan past (taken_in plan t t.session r)
wanted_linked c plan past t r p true d e j q = taken_linked c plan past t t.session r p (let x = rw d at e in x) j (q.clear d)
wanted_linked c plan past t r p false d e j q = absurd (let x = rw d at e in cc)

read_linked : (c : Codecs) (plan : PostPlan) (Shows : ℕ → ℕ → Type 0) (past : List Seen) (t : State) (w : Option Payload) (r : Option Reading) → wanted t ≡ w → IsRead c plan Shows t w r → Planned c plan past t → Linked c plan past (read plan t r)
read_linked c plan Shows past t w None e i q = q.linked
read_linked c plan Shows past t None (Some r) e i q = absurd i
read_linked c plan Shows past t (Some p) (Some r) e i q = wanted_linked c plan past t r p (is_done t.agenda) refl e i.0 q

pub filled_linked : (c : Codecs) (plan : PostPlan) (Shows : ℕ → ℕ → Type 0) (past : List Seen) (s : State) (r : Option Reading) → IsRead c plan Shows (decided plan s) (wanted (decided plan s)) r → Linked c plan past s → Linked c plan past (filled plan r s)
filled_linked c plan Shows past s r i l = read_linked c plan Shows past (decided plan s) (wanted (decided plan s)) r refl i (decided_planned c plan past s l)
