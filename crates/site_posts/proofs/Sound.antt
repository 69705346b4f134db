-- Whatever a post hears, decides, reads and does, it stays sound.
use Rattle.std.proofs.Common.{◌≡◌, ◌≤◌, ℕ, Bool, Result, Ok, Err, true, false, ◌&&◌, if◌then◌else◌, List, [], length, Option, Some, None, unwrap_or, refl, sym, ap, subst, ◌∙◌, arith, inl, inr}
use Rattle.std.specs.Prelude.{Contains, MatchBool}
use Rattle.std.specs.Option.{option_map}
use Rattle.charge_world.specs.declared.heard.PlantEvent.{PlantEvent}
use Rattle.charge_world.specs.declared.heard.PlantEvent.TheVariants as plant
use Rattle.charge_world.specs.declared.offer.Dialect.{Dialect}
use Rattle.charge_world.specs.declared.ports.Order.{Order}
use Rattle.charge_world.specs.declared.ports.Order.TheVariants as order
use Rattle.session_words.specs.declared.cause.EndCause.{EndCause}
use Rattle.session_words.specs.declared.cause.EndCause.TheVariants.{SendFailed, OrderFailed}
use Rattle.session_words.specs.declared.code.Progress.TheVariants as progress
use Rattle.session_words.specs.declared.facts.Facts.{Facts}
use Rattle.session_words.specs.declared.phase.Phase.{Phase}
use Rattle.session_words.specs.declared.phase.Phase.TheVariants as row
use Rattle.session_words.specs.declared.phase.Standing.{Standing}
use Rattle.session_words.specs.declared.phase.Standing.TheVariants as standing
use Rattle.session_words.specs.declared.plan.PostPlan.{PostPlan}
use Rattle.session_words.specs.declared.session.SessionId.{SessionId}
use Rattle.session_words.specs.declared.word.Ask.{Ask}
use Rattle.session_words.specs.declared.word.Ask.TheVariants as ask
use Rattle.session_words.specs.declared.word.Request.{Request}
use Rattle.session_words.specs.declared.word.Word.{Word}
use Rattle.session_words.specs.declared.word.Word.TheVariants as word
use Rattle.v2gtp_frames.specs.declared.FrameFault.{FrameFault}
use Rattle.v2gtp_frames.specs.Reading.{whole_at}
use Rattle.session_rules.specs.declared.stage.Stage.{Stage}
use Rattle.session_rules.specs.Asks.{asks, shows_watts}
use Rattle.session_rules.specs.Moves.{stage_behind, facts_behind, facts_by}
use Rattle.session_rules.specs.Reply.{reply_to, waiting_reply}
use Rattle.session_rules.specs.Stages.{is_waiting, confirmed_row}
use Rattle.session_rules.specs.Verdict.{verdict, is_accepted}
use Rattle.post_spec.specs.Codecs.{Judged, Negotiated, Asked, WrongSide, Refused, judged_word, Codecs, Judges}
use Rattle.post_spec.specs.Steps.{Event, Came, Bytes, Gone, Datagram, Plant, Clock, Over, Act, Give, Send, Answer, End, Reading}
use Rattle.station_spec.specs.States.{Said, Agenda, Session, State, nothing, fresh, is_done}
use Rattle.station_spec.specs.Blocks.{IsPlantEvent}
use Rattle.station_spec.specs.Deciding.{ending_in, ending_by, repeating, timing, eventing, charging_by, confirming, confirms, fronting, fronting_by, decided}
use Rattle.station_spec.specs.Judging.{Payload, speaks, speaks_in, payload_by, payload_in, wanted, shows, asked_behind, chosen_stage, judged, taken_in, read, IsShown}
use Rattle.station_spec.specs.Hearing.{heard_facts, charger_facts, session_opened, with_bytes, hearing}
use Rattle.station_spec.specs.Next.{IsQuiet}
use Rattle.station_spec.specs.Acting.{since_order, failing, live_ordered, giving, replied, agenda_said, saying, acted}
use Rattle.station_laws.proofs.Decided.{decided_by}
use Rattle.valid_isolation.specs.Isolated.{KeepsIsolation, HasJudged}
use Rattle.valid_isolation.proofs.Kept.{decided_kept, quiet_isolated, heard_kept, word_kept, acted_kept, fresh_kept}
use Rattle.site_codec.specs.Views.{ComesFirst}
use Rattle.site_codec.specs.Judging.{ChoosesOffered, NegotiatesFirst}
use Rattle.site_codec.specs.Replies.{IsPlan, AreFacts}
use Rattle.site_posts.specs.Sound.{IsOffered, IsSoundSession, IsSoundIn, CanSay, IsSound}

-- what was heard of the charger is within its types
abbrev pub IsEvent : Event → Type 0
IsEvent (Plant event) = IsPlantEvent event
IsEvent (Came token) = Unit {0}
IsEvent (Bytes bytes) = Unit {0}
IsEvent Gone = Unit {0}
IsEvent (Datagram bytes) = Unit {0}
IsEvent Clock = Unit {0}
IsEvent Over = Unit {0}

pub fresh_sound : (Reads : Dialect → List ℕ → Option Word → Type 0) (plan : PostPlan) → IsSound Reads plan fresh
fresh_sound Reads plan = record { facts = record { voltage = omega arith; current = omega arith }; session = tt; reply = tt; isolation = fresh_kept }

-- a hearing
charger_sound : (event : PlantEvent) (f : Facts) → IsPlantEvent event → AreFacts f → AreFacts (charger_facts event f)
charger_sound (plant.Pilot state) f b h = record { voltage = h.voltage; current = h.current }
charger_sound (plant.Isolation level) f b h = record { voltage = h.voltage; current = h.current }
charger_sound (plant.Measured voltage current) f b h = record { voltage = b.0; current = b.1 }
charger_sound (plant.Feedback closed) f b h = record { voltage = h.voltage; current = h.current }
charger_sound plant.Paid f b h = record { voltage = h.voltage; current = h.current }
charger_sound plant.Emergency f b h = h
charger_sound plant.StopAsked f b h = record { voltage = h.voltage; current = h.current }
charger_sound plant.RenewAsked f b h = record { voltage = h.voltage; current = h.current }

facts_sound : (event : Event) (f : Facts) → IsEvent event → AreFacts f → AreFacts (heard_facts event f)
facts_sound (Came token) f b h = record { voltage = h.voltage; current = h.current }
facts_sound (Plant event) f b h = charger_sound event f b h
facts_sound (Bytes bytes) f b h = h
facts_sound Gone f b h = h
facts_sound (Datagram bytes) f b h = h
facts_sound Clock f b h = h
facts_sound Over f b h = h

opened_sound : (plan : PostPlan) (arrived : Option ℕ) (at : ℕ) (session : Option Session) → IsSoundIn plan session → IsSoundIn plan (session_opened arrived at session)
opened_sound plan None at session h = h
opened_sound plan (Some token) at session h = record { told = omega arith; asked = omega arith; offered = inl refl }

fed_sound : (plan : PostPlan) (bytes : List ℕ) (session : Option Session) → IsSoundIn plan session → IsSoundIn plan (option_map (with_bytes bytes) session)
fed_sound plan bytes None h = tt
fed_sound plan bytes (Some t) h = record { told = h.told; asked = h.asked; offered = h.offered }

pub heard_sound : (Reads : Dialect → List ℕ → Option Word → Type 0) (plan : PostPlan) (s : State) (at : ℕ) (event : Event) → IsEvent event → IsQuiet plan s → IsSound Reads plan s → IsSound Reads plan (hearing at event s)
heard_sound Reads plan s at event b q h = record {
  facts = facts_sound event s.facts b h.facts;
  session = fed_sound plan _ (session_opened s.arrived s.clock s.session) (opened_sound plan s.arrived s.clock s.session h.session);
  reply = tt;
  isolation = heard_kept at event s (quiet_isolated plan s q h.isolation);
}

-- what is decided without a word
front_by : (Reads : Dialect → List ℕ → Option Word → Type 0) (r : Result (Option ℕ) FrameFault) (waiting live : Bool) → CanSay Reads (fronting_by r waiting live).reply
front_by Reads (Err fault) waiting live = tt
front_by Reads (Ok None) waiting live = tt
front_by Reads (Ok (Some n)) true live = tt
front_by Reads (Ok (Some n)) false live = tt

fronting_says : (Reads : Dialect → List ℕ → Option Word → Type 0) (session : Option Session) (live : Bool) → CanSay Reads (fronting session live).reply
fronting_says Reads None live = tt
fronting_says Reads (Some t) live = front_by Reads (whole_at t.unread) (is_waiting t.stage.row) live

repeating_says : (Reads : Dialect → List ℕ → Option Word → Type 0) (standing : Standing) → CanSay Reads (repeating standing).reply
repeating_says Reads standing.Opened = tt
repeating_says Reads standing.Closing = tt
repeating_says Reads standing.Closed = tt
repeating_says Reads standing.MustOpen = tt
repeating_says Reads standing.Opening = tt

ending_says : (Reads : Dialect → List ℕ → Option Word → Type 0) (session : Option Session) (cause : EndCause) (live : Bool) → CanSay Reads (ending_in session cause live).reply
ending_says Reads None cause live = tt
ending_says Reads (Some t) cause live = tt

timing_by : (Reads : Dialect → List ℕ → Option Word → Type 0) (b : Bool) (cause : EndCause) (live : Bool) → CanSay Reads (if b then ending_by cause live else nothing).reply
timing_by Reads true cause live = tt
timing_by Reads false cause live = tt

timing_says : (Reads : Dialect → List ℕ → Option Word → Type 0) (session : Option Session) (now : ℕ) (live : Bool) → CanSay Reads (timing session now live).reply
timing_says Reads None now live = tt
timing_says Reads (Some t) now live = timing_by Reads _ _ live

waiting_offered : (plan : PostPlan) (stage : Stage) (here : Phase) → stage.row ≡ here → is_waiting here ≡ true → IsOffered plan stage → Contains plan.dialects.items stage.dialect
waiting_offered plan stage here e w (inl connected) =
    let same : here ≡ row.Connected = sym e ∙ connected in
    absurd (let f : false ≡ true = sym (ap is_waiting same) ∙ w in cc)
waiting_offered plan stage here e w (inr offered) = offered

confirming_by : (Reads : Dialect → List ℕ → Option Word → Type 0) (plan : PostPlan) (t : Session) (event : PlantEvent) (s : State) (w c : Bool) → IsPlan plan → is_waiting t.stage.row ≡ w → AreFacts s.facts → IsSoundSession plan t
    → CanSay Reads (if w && c then record nothing { reply = Some (Said t.stage.dialect (waiting_reply t.stage s.facts plan)) } else nothing).reply
confirming_by Reads plan t event s false c p e f h = tt
confirming_by Reads plan t event s true false p e f h = tt
confirming_by Reads plan t event s true true p e f h = record {
  plan = plan;
  facts = s.facts;
  stage = t.stage;
  is_plan = p;
  are_facts = f;
  told = h.told;
  dialect_is = refl;
  offered = waiting_offered plan t.stage t.stage.row refl e h.offered;
  given = inr refl;
}

charging_says : (Reads : Dialect → List ℕ → Option Word → Type 0) (cause : Option EndCause) (a : Agenda) (live : Bool) → CanSay Reads a.reply → CanSay Reads (charging_by cause a live).reply
charging_says Reads None a live h = h
charging_says Reads (Some cause) a live h = tt

eventing_says : (Reads : Dialect → List ℕ → Option Word → Type 0) (plan : PostPlan) (event : Event) (s : State) (session : Option Session) → s.session ≡ session → IsPlan plan → AreFacts s.facts → IsSoundIn plan session → CanSay Reads (eventing plan event s).reply
eventing_says Reads plan (Came token) s session e p f h = ending_says Reads s.session _ s.live
eventing_says Reads plan (Bytes bytes) s session e p f h = tt
eventing_says Reads plan Gone s session e p f h = ending_says Reads s.session _ s.live
eventing_says Reads plan (Datagram bytes) s session e p f h = tt
eventing_says Reads plan (Plant event) s None e p f h = rw e tt
eventing_says Reads plan (Plant event) s (Some t) e p f h =
    rw e (charging_says Reads _ (confirming plan t event s) s.live (confirming_by Reads plan t event s (is_waiting t.stage.row) (confirms event) p refl f h))
eventing_says Reads plan Clock s session e p f h = tt
eventing_says Reads plan Over s session e p f h = ending_says Reads s.session _ s.live

-- but for the isolation
pub record IsSpeakable (Reads : Dialect → List ℕ → Option Word → Type 0) (plan : PostPlan) (s : State) : Type 0 where
  pub facts : AreFacts s.facts
  pub session : IsSoundIn plan s.session
  pub reply : CanSay Reads s.agenda.reply

with_isolation : (Reads : Dialect → List ℕ → Option Word → Type 0) (plan : PostPlan) (s : State) → IsSpeakable Reads plan s → KeepsIsolation s → IsSound Reads plan s
with_isolation Reads plan s h k = record { facts = h.facts; session = h.session; reply = h.reply; isolation = k }

decided_speakable : (Reads : Dialect → List ℕ → Option Word → Type 0) (plan : PostPlan) (s : State) → IsPlan plan → IsSound Reads plan s → IsSpeakable Reads plan (decided plan s)
decided_speakable Reads plan s p h = decided_by (IsSpeakable Reads plan) plan s
    (λ d. record {
      repeats = record { facts = h.facts; session = h.session; reply = repeating_says Reads s.facts.contactor };
      times = record { facts = h.facts; session = h.session; reply = timing_says Reads s.session s.clock s.live };
      events = record { facts = h.facts; session = h.session; reply = eventing_says Reads plan s.event s s.session refl p h.facts h.session };
      fronts = record { facts = h.facts; session = h.session; reply = fronting_says Reads s.session s.live };
    })
    (record { facts = h.facts; session = h.session; reply = h.reply })

pub decided_sound : (Reads : Dialect → List ℕ → Option Word → Type 0) (plan : PostPlan) (s : State) → IsPlan plan → IsSound Reads plan s → IsSound Reads plan (decided plan s)
decided_sound Reads plan s p h = with_isolation Reads plan (decided plan s) (decided_speakable Reads plan s p h) (decided_kept plan s h.isolation).kept

-- once all that was decided is done, the isolation is valid
pub decided_judged : (Reads : Dialect → List ℕ → Option Word → Type 0) (plan : PostPlan) (s : State) → IsSound Reads plan s → HasJudged (decided plan s)
decided_judged Reads plan s h = (decided_kept plan s h.isolation).judged

-- a word
facts_kept : (stage : Stage) (f : Facts) (named : SessionId) (a : Ask) → AreFacts f → AreFacts (facts_by stage f named a)
facts_kept stage f named (ask.SessionSetup car) h = record { voltage = h.voltage; current = h.current }
facts_kept stage f named (ask.PowerDelivery progress.Renegotiate tuple profile) h = record { voltage = h.voltage; current = h.current }
facts_kept stage f named a h = h

facts_moved_if : (stage : Stage) (f : Facts) (plan : PostPlan) (r : Request) (b : Bool) → is_accepted (verdict stage f plan r) ≡ b → AreFacts f → AreFacts (facts_behind stage f plan r)
facts_moved_if stage f plan r true e h = rw e (facts_kept stage f r.session r.ask h)
facts_moved_if stage f plan r false e h = rw e h

told_if : (b : Bool) (shown told : ℕ) → shown ≤ 1000000 → told ≤ 1000000 → (if b then shown else told) ≤ 1000000
told_if true shown told h k = h
told_if false shown told h k = k

told_moved : (stage : Stage) (f : Facts) (plan : PostPlan) (r : Request) (shown : ℕ) (b : Bool) → is_accepted (verdict stage f plan r) ≡ b → shown ≤ 1000000 → stage.told ≤ 1000000 → (stage_behind stage f plan r shown).told ≤ 1000000
told_moved stage f plan r shown true e h k = rw e (told_if (shows_watts r.ask) shown stage.told h k)
told_moved stage f plan r shown false e h k = rw e k

dialect_moved : (stage : Stage) (f : Facts) (plan : PostPlan) (r : Request) (shown : ℕ) (b : Bool) → is_accepted (verdict stage f plan r) ≡ b → (stage_behind stage f plan r shown).dialect ≡ stage.dialect
dialect_moved stage f plan r shown true e = rw e refl
dialect_moved stage f plan r shown false e = rw e refl

asks_le : (plan : PostPlan) (a : Ask) (n : ℕ) → n ≤ 1000000 → unwrap_or (asks plan a) n ≤ 1000000
asks_le plan (ask.ChargeParameters mode car) n h = omega arith
asks_le plan a n h = h

asked_if : (t : Session) (plan : PostPlan) (s : State) (r : Request) (b : Bool) → is_accepted (verdict t.stage s.facts plan r) ≡ b → t.asked ≤ 1000000 → asked_behind t plan s r ≤ 1000000
asked_if t plan s r true e h = rw e (asks_le plan r.ask t.asked h)
asked_if t plan s r false e h = rw e h

-- watts that are shown are asked for
abbrev pub IsBounded : (ℕ → ℕ → Type 0) → Type 0
IsBounded Shows = (asked shown : ℕ) → Shows asked shown → shown ≤ asked

shown_if : (Shows : ℕ → ℕ → Type 0) (b : Bool) (asked shown : ℕ) → IsBounded Shows → asked ≤ 1000000 → MatchBool b (Shows asked shown) (shown ≡ 0) → shown ≤ 1000000
shown_if Shows true asked shown most a h = omega (arith, most asked shown h)
shown_if Shows false asked shown most a h = omega (arith, h)

-- a request that was read
asked_word : (w : Option Word) (r : Request) → Asked r ≡ judged_word w → w ≡ Some (word.Request r)
asked_word None r e = cc
asked_word (Some (word.Request q)) r e = cc
asked_word (Some (word.Reply q)) r e = cc
asked_word (Some word.Nothing) r e = cc

pub record IsHeardRequest (Reads : Dialect → List ℕ → Option Word → Type 0) (plan : PostPlan) (t : Session) (bytes : List ℕ) (r : Request) : Type 0 where
  pub reads : Reads t.stage.dialect bytes (Some (word.Request r))
  pub offered : Contains plan.dialects.items t.stage.dialect

not_connected : (plan : PostPlan) (stage : Stage) → IsOffered plan stage → (stage.row ≡ row.Connected → ⊥) → Contains plan.dialects.items stage.dialect
not_connected plan stage (inl e) n = absurd (n e)
not_connected plan stage (inr o) n = o

spoken_request : (c : Codecs) (plan : PostPlan) (t : Session) (here : Phase) (bytes : List ℕ) (r : Request) → NegotiatesFirst c.Negotiates → t.stage.row ≡ here → IsSoundSession plan t → Judges c plan.dialects.items (speaks_in here t.stage.dialect) bytes (Asked r)
    → IsHeardRequest c.Reads plan t bytes r
spoken_request c plan t row.Connected bytes r first e h j = absurd (first plan.dialects.items bytes r j)
spoken_request c plan t here bytes r first e h j = record {
  reads = subst (λ (w : Option Word). c.Reads t.stage.dialect bytes w) (asked_word j.0 r j.2) j.1;
  offered = not_connected plan t.stage h.offered (λ connected. let f : here ≡ row.Connected = sym e ∙ connected in cc);
}

no_answer : (w : Option Word) (chosen : Option Dialect) (response : List ℕ) → Negotiated chosen response ≡ judged_word w → ⊥
no_answer None chosen response e = cc
no_answer (Some (word.Request q)) chosen response e = cc
no_answer (Some (word.Reply q)) chosen response e = cc
no_answer (Some word.Nothing) chosen response e = cc

-- a dialect that was chosen
chosen_offered : (c : Codecs) (plan : PostPlan) (t : Session) (here : Phase) (bytes : List ℕ) (dialect : Dialect) (response : List ℕ) → ChoosesOffered c.Negotiates → Judges c plan.dialects.items (speaks_in here t.stage.dialect) bytes (Negotiated (Some dialect) response)
    → Contains plan.dialects.items dialect
chosen_offered c plan t row.Connected bytes dialect response chooses j = chooses plan.dialects.items bytes dialect response j
chosen_offered c plan t here bytes dialect response chooses j = absurd (no_answer j.0 (Some dialect) response j.2)

chosen_sound : (c : Codecs) (plan : PostPlan) (t : Session) (bytes : List ℕ) (chosen : Option Dialect) (response unread : List ℕ) → ChoosesOffered c.Negotiates → IsSoundSession plan t → Judges c plan.dialects.items (speaks t.stage) bytes (Negotiated chosen response)
    → IsSoundSession plan (record t { stage = chosen_stage t.stage chosen; unread = unread })
chosen_sound c plan t bytes None response unread chooses h j = record { told = h.told; asked = h.asked; offered = h.offered }
chosen_sound c plan t bytes (Some dialect) response unread chooses h j =
    record { told = h.told; asked = h.asked; offered = inr (chosen_offered c plan t t.stage.row bytes dialect response chooses j) }

asked_says : (c : Codecs) (plan : PostPlan) (s : State) (t : Session) (bytes : List ℕ) (r : Request) (shown : ℕ) (w : Bool) → IsPlan plan → AreFacts s.facts → IsSoundSession plan t → IsHeardRequest c.Reads plan t bytes r → shown ≤ 1000000
    → CanSay c.Reads (if w then None else Some (Said t.stage.dialect (reply_to t.stage s.facts plan r shown)))
asked_says c plan s t bytes r shown true p f h q less = tt
asked_says c plan s t bytes r shown false p f h q less = record {
  plan = plan;
  facts = s.facts;
  stage = t.stage;
  is_plan = p;
  are_facts = f;
  told = h.told;
  dialect_is = refl;
  offered = q.offered;
  given = inl (record { payload = bytes; request = r; shown = shown; asked = q.reads; most = less; reply_is = refl });
}

judged_sound : (c : Codecs) (plan : PostPlan) (Shows : ℕ → ℕ → Type 0) (s : State) (t : Session) (bytes : List ℕ) (j : Judged) (shown : ℕ) → NegotiatesFirst c.Negotiates → ChoosesOffered c.Negotiates → IsBounded Shows → IsPlan plan → AreFacts s.facts → IsSoundSession plan t
    → Judges c plan.dialects.items (speaks t.stage) bytes j → IsShown Shows plan s (Some t) j shown → ((chosen : Option Dialect) (response : List ℕ) → j ≡ Negotiated chosen response → length response ≤ 4) → IsSpeakable c.Reads plan (judged plan s t j shown)
judged_sound c plan Shows s t bytes (Negotiated chosen response) shown first chooses most p f h j shows short = record {
  facts = f;
  session = chosen_sound c plan t bytes chosen response _ chooses h j;
  reply = short chosen response refl;
}
judged_sound c plan Shows s t bytes (Asked r) shown first chooses most p f h j shown_is short =
    let q = spoken_request c plan t t.stage.row bytes r first refl h j in
    let asked = asked_if t plan s r (is_accepted (verdict t.stage s.facts plan r)) refl h.asked in
    let less = shown_if Shows (shows t.stage plan s r) (asked_behind t plan s r) shown most asked shown_is in
    record {
      facts = facts_moved_if t.stage s.facts plan r (is_accepted (verdict t.stage s.facts plan r)) refl f;
      session = record {
        told = told_moved t.stage s.facts plan r shown (is_accepted (verdict t.stage s.facts plan r)) refl less h.told;
        asked = asked;
        offered = inr (subst (λ (d : Dialect). Contains plan.dialects.items d) (sym (dialect_moved t.stage s.facts plan r shown (is_accepted (verdict t.stage s.facts plan r)) refl)) q.offered);
      };
      reply = asked_says c plan s t bytes r shown (is_waiting (stage_behind t.stage s.facts plan r shown).row) p f h q less;
    }
judged_sound c plan Shows s t bytes WrongSide shown first chooses most p f h j shows short =
    record { facts = f; session = record { told = h.told; asked = h.asked; offered = h.offered }; reply = tt }
judged_sound c plan Shows s t bytes Refused shown first chooses most p f h j shows short =
    record { facts = f; session = record { told = h.told; asked = h.asked; offered = h.offered }; reply = tt }

-- what an act leaves
since_sound : (plan : PostPlan) (o : Order) (now : ℕ) (session : Option Session) → IsSoundIn plan session → IsSoundIn plan (option_map (since_order now o) session)
since_sound plan order.Open now None h = tt
since_sound plan order.Open now (Some t) h = h
since_sound plan order.Close now None h = tt
since_sound plan order.Close now (Some t) h = record { told = h.told; asked = h.asked; offered = h.offered }
since_sound plan (order.Limits voltage current watts) now None h = tt
since_sound plan (order.Limits voltage current watts) now (Some t) h = h

confirmed_offered : (plan : PostPlan) (t : Session) (now : ℕ) → IsOffered plan t.stage → IsOffered plan (replied now t).stage
confirmed_offered plan t now (inl e) = inl (ap confirmed_row e)
confirmed_offered plan t now (inr o) = inr o

replied_sound : (plan : PostPlan) (now : ℕ) (session : Option Session) → IsSoundIn plan session → IsSoundIn plan (option_map (replied now) session)
replied_sound plan now None h = tt
replied_sound plan now (Some t) h = record { told = h.told; asked = h.asked; offered = confirmed_offered plan t now h.offered }

failing_says : (Reads : Dialect → List ℕ → Option Word → Type 0) (e : Option EndCause) (session : Option Session) (cause : EndCause) (live : Bool) → CanSay Reads (failing e session cause live).reply
failing_says Reads None session cause live = ending_says Reads session cause live
failing_says Reads (Some ending) session cause live = tt

agenda_says : (Reads : Dialect → List ℕ → Option Word → Type 0) (behind : Option EndCause) (session : Option Session) (a : Agenda) (live : Bool) → CanSay Reads (agenda_said behind session a live).reply
agenda_says Reads None session a live = tt
agenda_says Reads (Some cause) session a live = ending_says Reads session cause live

gave_sound : (Reads : Dialect → List ℕ → Option Word → Type 0) (plan : PostPlan) (o : Order) (taken : Bool) (s : State) → IsSound Reads plan s → IsSound Reads plan (giving o taken s)
gave_sound Reads plan o true s h =
    record { facts = record { voltage = h.facts.voltage; current = h.facts.current }; session = since_sound plan o s.clock s.session h.session; reply = h.reply; isolation = acted_kept (Give o) true s h.isolation }
gave_sound Reads plan o false s h =
    record { facts = record { voltage = h.facts.voltage; current = h.facts.current }; session = h.session; reply = failing_says Reads s.agenda.ending s.session OrderFailed (live_ordered o false s.live); isolation = acted_kept (Give o) false s h.isolation }

said_sound : (Reads : Dialect → List ℕ → Option Word → Type 0) (plan : PostPlan) (taken : Bool) (s : State) → IsSound Reads plan s → IsSound Reads plan (saying taken s)
said_sound Reads plan true s h = record { facts = h.facts; session = replied_sound plan s.clock s.session h.session; reply = agenda_says Reads s.agenda.behind_reply s.session s.agenda s.live; isolation = acted_kept (Send []) true s h.isolation }
said_sound Reads plan false s h = record { facts = h.facts; session = h.session; reply = failing_says Reads s.agenda.ending s.session SendFailed s.live; isolation = acted_kept (Send []) false s h.isolation }

pub acted_sound : (Reads : Dialect → List ℕ → Option Word → Type 0) (plan : PostPlan) (a : Act) (taken : Bool) (s : State) → IsSound Reads plan s → IsSound Reads plan (acted a taken s)
acted_sound Reads plan (Give o) taken s h = gave_sound Reads plan o taken s h
acted_sound Reads plan (Send bytes) taken s h = said_sound Reads plan taken s h
acted_sound Reads plan (Answer bytes) taken s h = record { facts = h.facts; session = h.session; reply = h.reply; isolation = h.isolation }
acted_sound Reads plan (End cause) taken s h = record { facts = record { voltage = h.facts.voltage; current = h.facts.current }; session = tt; reply = tt; isolation = acted_kept (End cause) taken s h.isolation }

-- what was read
abbrev pub IsShort : Judged → Type 0
IsShort (Negotiated chosen response) = length response ≤ 4
IsShort (Asked r) = Unit {0}
IsShort WrongSide = Unit {0}
IsShort Refused = Unit {0}

payload_speaks : (r : Result (Option ℕ) FrameFault) (t : Session) (p : Payload) → payload_by r t ≡ Some p → p.dialect ≡ speaks t.stage
payload_speaks (Err fault) t p h = cc
payload_speaks (Ok None) t p h = cc
payload_speaks (Ok (Some n)) t p h = let P : Option Payload → Type 0 = elim [ None ↦ Unit {0} | Some q ↦ q.dialect ≡ speaks t.stage ] in subst P h refl

payload_if : (t : Session) (p : Payload) (b : Bool) → is_waiting t.stage.row ≡ b → (if b then None else payload_by (whole_at t.unread) t) ≡ Some p → p.dialect ≡ speaks t.stage
payload_if t p true e h = absurd (let g : None ≡ Some p = h in cc)
payload_if t p false e h = payload_speaks (whole_at t.unread) t p h

taken_sound : (c : Codecs) (plan : PostPlan) (Shows : ℕ → ℕ → Type 0) (s : State) (session : Option Session) (p : Payload) (r : Reading) → NegotiatesFirst c.Negotiates → ChoosesOffered c.Negotiates → IsBounded Shows → IsPlan plan → AreFacts s.facts → IsSoundIn plan session
    → payload_in session ≡ Some p → Judges c plan.dialects.items p.dialect p.bytes r.judged → IsShown Shows plan s session r.judged r.shown → IsShort r.judged → CanSay c.Reads s.agenda.reply → IsSpeakable c.Reads plan (taken_in plan s session r)
taken_sound c plan Shows s None p r first chooses most i f h w j shown short says = absurd (let g : None ≡ Some p = w in cc)
taken_sound c plan Shows s (Some t) p r first chooses most i f h w j shown short says =
    let speaks_is = payload_if t p (is_waiting t.stage.row) refl w in
    judged_sound c plan Shows s t p.bytes r.judged r.shown first chooses most i f h (subst (λ (d : Option Dialect). Judges c plan.dialects.items d p.bytes r.judged) speaks_is j) shown
    (λ chosen response e. subst IsShort e short)

read_if : (c : Codecs) (plan : PostPlan) (Shows : ℕ → ℕ → Type 0) (s : State) (p : Payload) (r : Reading) (b : Bool) → is_done s.agenda ≡ b → NegotiatesFirst c.Negotiates → ChoosesOffered c.Negotiates → IsBounded Shows → IsPlan plan → IsSound c.Reads plan s
    → wanted s ≡ Some p → Judges c plan.dialects.items p.dialect p.bytes r.judged → IsShown Shows plan s s.session r.judged r.shown → IsShort r.judged → IsSpeakable c.Reads plan (read plan s (Some r))
read_if c plan Shows s p r true e first chooses most i h w j shown short =
    let g : payload_in s.session ≡ Some p = rw e at w in
    taken_sound c plan Shows s s.session p r first chooses most i h.facts h.session g j shown short h.reply
read_if c plan Shows s p r false e first chooses most i h w j shown short = absurd (let g : None ≡ Some p = rw e at w in cc)

pub read_sound : (c : Codecs) (plan : PostPlan) (Shows : ℕ → ℕ → Type 0) (s : State) (p : Payload) (r : Reading) → NegotiatesFirst c.Negotiates → ChoosesOffered c.Negotiates → IsBounded Shows → IsPlan plan → IsSound c.Reads plan s → HasJudged s
    → wanted s ≡ Some p → Judges c plan.dialects.items p.dialect p.bytes r.judged → IsShown Shows plan s s.session r.judged r.shown → IsShort r.judged → IsSound c.Reads plan (read plan s (Some r))
read_sound c plan Shows s p r first chooses most i h isolated w j shown short =
    with_isolation c.Reads plan (read plan s (Some r)) (read_if c plan Shows s p r (is_done s.agenda) refl first chooses most i h w j shown short)
    (word_kept plan s p r w (record { kept = h.isolation; judged = isolated }))

-- a negotiation is read in the first row alone
in_first : (c : Codecs) (offers : List Dialect) (t : Session) (here : Phase) (bytes : List ℕ) (j : Judged) → t.stage.row ≡ here → Judges c offers (speaks_in here t.stage.dialect) bytes j → ComesFirst (Some t) j
in_first c offers t here bytes (Asked r) e j = tt
in_first c offers t here bytes WrongSide e j = tt
in_first c offers t here bytes Refused e j = tt
in_first c offers t row.Connected bytes (Negotiated chosen response) e j = e
in_first c offers t here bytes (Negotiated chosen response) e j = absurd (no_answer j.0 chosen response j.2)

first_in : (c : Codecs) (offers : List Dialect) (session : Option Session) (p : Payload) (j : Judged) → payload_in session ≡ Some p → Judges c offers p.dialect p.bytes j → ComesFirst session j
first_in c offers None p j w h = tt
first_in c offers (Some t) p j w h = in_first c offers t t.stage.row p.bytes j refl (subst (λ (d : Option Dialect). Judges c offers d p.bytes j) (payload_if t p (is_waiting t.stage.row) refl w) h)

first_if : (c : Codecs) (offers : List Dialect) (s : State) (p : Payload) (j : Judged) (b : Bool) → is_done s.agenda ≡ b → wanted s ≡ Some p → Judges c offers p.dialect p.bytes j → ComesFirst s.session j
first_if c offers s p j true e w h = let g : payload_in s.session ≡ Some p = rw e at w in first_in c offers s.session p j g h
first_if c offers s p j false e w h = absurd (let g : None ≡ Some p = rw e at w in cc)

pub comes_first : (c : Codecs) (offers : List Dialect) (s : State) (p : Payload) (j : Judged) → wanted s ≡ Some p → Judges c offers p.dialect p.bytes j → ComesFirst s.session j
comes_first c offers s p j w h = first_if c offers s p j (is_done s.agenda) refl w h
