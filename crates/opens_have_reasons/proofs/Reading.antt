-- An order to open about a word that was read.
use Rattle.std.proofs.Common.{◌≡◌, ℕ, Bool, true, false, List, map, Option, Some, None, is_some, refl, sym, ap, subst, ◌∙◌, inl, inr, ◌⊎◌}
use Rattle.charge_world.specs.declared.ports.Order.{Order}
use Rattle.charge_world.specs.declared.ports.Order.TheVariants as order
use Rattle.session_words.specs.declared.cause.EndCause.{EndCause}
use Rattle.session_words.specs.declared.code.Progress.TheVariants as progress
use Rattle.session_words.specs.declared.facts.Facts.{Facts}
use Rattle.session_words.specs.declared.plan.PostPlan.{PostPlan}
use Rattle.session_words.specs.declared.word.Ask.{Ask}
use Rattle.session_words.specs.declared.word.Ask.TheVariants as ask
use Rattle.session_rules.specs.Causes.{found_by, word_cause}
use Rattle.session_rules.specs.Orders.{granted_order, order_of}
use Rattle.session_rules.specs.Verdict.{verdict, is_accepted}
use Rattle.post_spec.specs.Causes.{IsWord, found_word}
use Rattle.post_spec.specs.Codecs.{Judged, Negotiated, Asked, WrongSide, Refused, Codecs}
use Rattle.post_spec.specs.Contactors.{live}
use Rattle.post_spec.specs.Course.{course, facts_of}
use Rattle.post_spec.specs.Kinds.{asks_opening}
use Rattle.post_spec.specs.Sessions.{session, stream}
use Rattle.post_spec.specs.Steps.{Seen, Reading, Step, seen_of}
use Rattle.post_spec.specs.Words.{Payload}
use Rattle.station_spec.specs.States.{Agenda, Part, Repeating, Timing, Eventing, Wording, Session, State, Spoken, Response, nothing, first, first_of, is_done, is_none}
use Rattle.station_spec.specs.States as states
use Rattle.station_spec.specs.Deciding.{decided}
use Rattle.station_spec.specs.Judging.{Payload as Wanted, order_by, cause_by, judged, taken_in, wanted, filled, IsRead}
use Rattle.station_spec.specs.Acting.{state}
use Rattle.station_laws.proofs.Decided.{same_session, same_live, same_facts}
use Rattle.station_laws.proofs.Contactors.{contactors_are_read}
use Rattle.read_runs.specs.Courses.{talked_of, talked_in}
use Rattle.read_runs.proofs.Agendas.{WantedIn, wanted_in, give_is}
use Rattle.read_runs.proofs.Courses.{courses_are_read}
use Rattle.served_sessions.proofs.Bytes.{stream_octets}
use Rattle.coming_causes_open.specs.Causing.{WasAsked}
use Rattle.standing_causes_open.proofs.Again.{if_some}
use Rattle.standing_causes_open.proofs.Coming.{cause_came}
use Rattle.next_words.specs.Next.{IsNextWord}
use Rattle.opens_have_reasons.proofs.Judging.{words_of}
use Rattle.opens_have_reasons.proofs.Opening.{Came, All, lives_in, open_if}

pub is_live : (plan : PostPlan) (steps : List Step) → (state plan steps).live ≡ true → live (map seen_of steps) ≡ true
is_live plan steps h = sym (contactors_are_read plan steps).live_is ∙ h

-- A word that was read.

read_came : (c : Codecs) (plan : PostPlan) (steps : List Step) (r : Reading) (es : List Seen) (ss : Session) (k : EndCause) → All c plan steps → IsNextWord c plan (map seen_of steps) r.judged → live (map seen_of steps) ≡ true → session (map seen_of steps) ≡ Some es → (state plan steps).session ≡ Some ss
    → word_cause false (found_word (talked_of ss) (map seen_of steps) (course plan steps) plan (Payload r.judged)) ≡ Some k → Came c plan steps
read_came c plan steps r es ss k all next on here kept h =
    let w = words_of c plan.dialects.items (stream es) all.judges (stream_octets (map seen_of steps) es all.heard here) in
    let n = next es w.0 here w.1 in
    let led : (course plan steps).session ≡ Some (talked_of ss) = sym (courses_are_read c plan steps all.laws.run).session_is ∙ ap talked_in kept in
    cause_came c plan steps k
    (IsWord steps (talked_of ss) es w.0 n.later (Payload r.judged) k led here w.1 n.next_is (subst (λ (b : Bool). word_cause b (found_word (talked_of ss) (map seen_of steps) (course plan steps) plan (Payload r.judged)) ≡ Some k) (sym n.goes_on) h))
    all.laws on

asks_open : (plan : PostPlan) (told shown : ℕ) (a : Ask) → granted_order plan told shown a ≡ Some order.Open → asks_opening a ≡ true
asks_open plan told shown (ask.PowerDelivery progress.Stop tuple profile) h = refl
asks_open plan told shown (ask.PowerDelivery progress.Renegotiate tuple profile) h = refl
asks_open plan told shown (ask.PowerDelivery progress.Start tuple profile) h = cc
asks_open plan told shown (ask.PreCharge ready soc voltage current) h = cc
asks_open plan told shown (ask.CurrentDemand ready soc voltage current) h = cc
asks_open plan told shown ask.ChargingStatus h = cc
asks_open plan told shown a h = cc

order_split : (cause : Option EndCause) (on : Bool) (o : Option Order) → order_by cause on o ≡ Some order.Open → ((k : EndCause) × (cause ≡ Some k) × (on ≡ true)) ⊎ ((cause ≡ None) × (o ≡ Some order.Open))
order_split None on o h = inr (refl, h)
order_split (Some k) on o h = inl (k, refl, (open_if on order.Open h).1)

abbrev reading_of : Judged → ℕ → Reading
reading_of judged shown = record { judged = judged; shown = shown }

-- what is known where a word was read
pub record IsReading (c : Codecs) (plan : PostPlan) (steps : List Step) (d : State) (ss : Session) (es : List Seen) (r : Reading) : Type 0 where
  pub all : All c plan steps
  pub next : IsNextWord c plan (map seen_of steps) r.judged
  pub here : session (map seen_of steps) ≡ Some es
  pub kept : (state plan steps).session ≡ Some ss
  pub facts : d.facts ≡ facts_of (map seen_of steps) (course plan steps)
  pub on : d.live ≡ true → live (map seen_of steps) ≡ true

found_reason : (c : Codecs) (plan : PostPlan) (steps : List Step) (d : State) (ss : Session) (es : List Seen) (r : Reading) (x : Judged) (k : EndCause) → IsReading c plan steps d ss es r → r.judged ≡ x → d.live ≡ true
    → word_cause false (found_word (talked_of ss) (map seen_of steps) (course plan steps) plan (Payload x)) ≡ Some k → Came c plan steps
found_reason c plan steps d ss es r x k i e on h =
    read_came c plan steps r es ss k i.all i.next (i.on on) i.here i.kept (subst (λ (y : Judged). word_cause false (found_word (talked_of ss) (map seen_of steps) (course plan steps) plan (Payload y)) ≡ Some k) (sym e) h)

word_reason : (c : Codecs) (plan : PostPlan) (steps : List Step) (d : State) (ss : Session) (es : List Seen) (r : Reading) (x : Judged) → IsReading c plan steps d ss es r → r.judged ≡ x → first (judged plan d ss x r.shown).agenda ≡ Some (states.Give order.Open)
    → WasAsked plan steps (Some r) ⊎ Came c plan steps
word_reason c plan steps d ss es r (Negotiated chosen response) i e h = cc
word_reason c plan steps d ss es r (Asked q) i e h =
    let a = (judged plan d ss (Asked q) r.shown).agenda in
    elim (order_split (cause_by ss.stage plan d q) d.live (order_of ss.stage d.facts plan q r.shown) (give_is a.datagram a.order a.reply a.ending order.Open h)) [
      | inl x ↦ inr (found_reason c plan steps d ss es r (Asked q) x.0 i e x.2 (subst (λ (f : Facts). word_cause false (found_by (verdict ss.stage f plan q) q.ask) ≡ Some x.0) i.facts x.1))
      | inr x ↦
          let g = if_some (is_accepted (verdict ss.stage d.facts plan q)) (granted_order plan ss.stage.told r.shown q.ask) order.Open x.1 in
          inl (record {
            talked = talked_of ss;
            request = q;
            shown = r.shown;
            session_is = sym (courses_are_read c plan steps i.all.laws.run).session_is ∙ ap talked_in i.kept;
            reading_is = ap (λ (j : Judged). Some (reading_of j r.shown)) e;
            accepted = subst (λ (f : Facts). is_accepted (verdict ss.stage f plan q) ≡ true) i.facts g.0;
            opening = asks_open plan ss.stage.told r.shown q.ask g.1;
          })
    ]
word_reason c plan steps d ss es r WrongSide i e h =
    let a = (judged plan d ss WrongSide r.shown).agenda in
    inr (found_reason c plan steps d ss es r WrongSide _ i e (open_if d.live order.Open (give_is a.datagram a.order a.reply a.ending order.Open h)).1 refl)
word_reason c plan steps d ss es r Refused i e h =
    let a = (judged plan d ss Refused r.shown).agenda in
    inr (found_reason c plan steps d ss es r Refused _ i e (open_if d.live order.Open (give_is a.datagram a.order a.reply a.ending order.Open h)).1 refl)

taken_reason : (c : Codecs) (plan : PostPlan) (steps : List Step) (d : State) (kept : Option Session) (r : Reading) (p : Wanted) → WantedIn d kept p → All c plan steps → IsNextWord c plan (map seen_of steps) r.judged → (state plan steps).session ≡ kept
    → d.facts ≡ facts_of (map seen_of steps) (course plan steps) → (d.live ≡ true → live (map seen_of steps) ≡ true) → first (taken_in plan d kept r).agenda ≡ Some (states.Give order.Open) → WasAsked plan steps (Some r) ⊎ Came c plan steps
taken_reason c plan steps d None r p at all next k f on h = absurd at
taken_reason c plan steps d (Some ss) r p at all next k f on h =
    let l = lives_in plan steps (ap is_some k) in
    word_reason c plan steps d ss l.0 r r.judged (record { all = all; next = next; here = l.1; kept = k; facts = f; on = on }) refl h

pub read_reason : (c : Codecs) (plan : PostPlan) (S : ℕ → ℕ → Type 0) (steps : List Step) (r : Reading) (o : Option Wanted) → All c plan steps → IsNextWord c plan (map seen_of steps) r.judged → wanted (decided plan (state plan steps)) ≡ o → IsRead c plan S (decided plan (state plan steps)) o (Some r)
    → first (filled plan (Some r) (state plan steps)).agenda ≡ Some (states.Give order.Open) → WasAsked plan steps (Some r) ⊎ Came c plan steps
read_reason c plan S steps r None all next e i h = absurd i
read_reason c plan S steps r (Some p) all next e i h =
    taken_reason c plan steps (decided plan (state plan steps)) (decided plan (state plan steps)).session r p (wanted_in (decided plan (state plan steps)) p e) all next (sym (same_session plan (state plan steps)))
    (same_facts plan (state plan steps) ∙ (courses_are_read c plan steps all.laws.run).facts_are) (λ l. is_live plan steps (sym (same_live plan (state plan steps)) ∙ l)) h
