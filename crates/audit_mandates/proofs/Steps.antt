-- What each step changes of the values.
use Rattle.std.proofs.Common.{◌≡◌, ℕ, ◌==◌, Bool, true, false, List, [], ◌∷◌, map, Option, Some, None, refl, sym, ap, subst, ◌∙◌}
use Rattle.std.specs.Prelude.{◌&&◌, ◌||◌, if◌then◌else◌, is_some, unwrap_or}
use Rattle.std.specs.List.{list_all}
use Rattle.std.specs.Option.{option_map}
use Rattle.charge_world.specs.declared.heard.IsolationLevel.{IsolationLevel}
use Rattle.charge_world.specs.declared.heard.PilotState.{PilotState}
use Rattle.charge_world.specs.declared.heard.PilotState.TheVariants.{A}
use Rattle.charge_world.specs.declared.heard.What.{What}
use Rattle.charge_world.specs.declared.heard.What.TheVariants as what
use Rattle.charge_world.specs.declared.offer.Dialect.{Dialect}
use Rattle.charge_world.specs.declared.ports.Order.{Order}
use Rattle.session_words.specs.declared.word.Reply.{Reply as PostReply}
use Rattle.session_words.specs.declared.word.Request.{Request}
use Rattle.post_spec.specs.Checked.{pre_charge_off}
use Rattle.post_spec.specs.Facts.{newer, last, told_by, pilot_in, isolation_in, pilot, isolation}
use Rattle.post_spec.specs.Sessions.{arriving, session, session_behind, if_came}
use Rattle.post_spec.specs.Steps.{Event, Came, Bytes, Gone, Datagram, Plant, Clock, Over, Give, Answer, End, Seen, Heard, Reading, event_at}
use Rattle.told_pasts.specs.Spelling.{SpelledWatts}
use Rattle.told_pasts.specs.Steps.{Said, Response, Replied, Other, Unasked, ToldStep, Hears, Does, Sends, seen_in}
use Rattle.told_pasts.specs.Talk.{is_judged, judged_by, judged_over, exchange_of, replies}
use Rattle.audit_mandates.specs.declared.values.MandateValues.{MandateValues}
use Rattle.audit_mandates.specs.Checking.{keeps_valid, isolated}
use Rattle.audit_mandates.specs.Preparing.{unprepared, prepared}
use Rattle.audit_mandates.specs.Starting.{started, is_good}
use Rattle.audit_mandates.specs.Values.{StandsSo, TalksSo, AreOf, silent, opened_by, comes, told_so, heard_by, judged_so, ended_by, responded_by, replied_by, said_if, sent_by}

some_map : {A B : Type 0} (f : A → B) (o : Option A) → is_some (option_map f o) ≡ is_some o
some_map f None = refl
some_map f (Some a) = refl

behind_some : (o : Option Seen) (s : Option (List Seen)) → is_some o ≡ true → is_some (session_behind o s) ≡ true
behind_some None s is = cc
behind_some (Some came) s is = refl

behind_none : (o : Option Seen) (s : Option (List Seen)) → is_some o ≡ false → is_some (session_behind o s) ≡ is_some s
behind_none None s is = refl
behind_none (Some came) s is = cc

newer_or : {A : Type 0} (o p : Option A) (a : A) → unwrap_or (newer o p) a ≡ unwrap_or o (unwrap_or p a)
newer_or None p a = refl
newer_or (Some x) p a = refl

and_if : (b held keeps : Bool) → ((if b then false else held) && keeps) ≡ (if b then false else held && keeps)
and_if true held keeps = refl
and_if false held keeps = refl

-- ---- a hearing

came_is : (at : ℕ) (event : Event) → comes event ≡ is_some (if_came at event)
came_is at (Came token) = refl
came_is at (Bytes bytes) = refl
came_is at Gone = refl
came_is at (Datagram bytes) = refl
came_is at (Plant event) = refl
came_is at Clock = refl
came_is at Over = refl

level_heard : (at : ℕ) (event : Event) (past : List Seen) → (if comes event then None else newer (told_by isolation_in event) (isolation past)) ≡ isolation (Heard at event ∷ past)
level_heard at (Came token) past = refl
level_heard at (Bytes bytes) past = refl
level_heard at Gone past = refl
level_heard at (Datagram bytes) past = refl
level_heard at (Plant event) past = refl
level_heard at Clock past = refl
level_heard at Over past = refl

-- once the connection of the block before has opened its session
record IsOpened (steps : List ToldStep) (w : MandateValues) : Type 0 where
  lives_is : w.lives ≡ is_some (session_behind (arriving (seen_in steps)) (session (seen_in steps)))
  judged_is : w.judged ≡ (if is_some (arriving (seen_in steps)) then false else is_judged steps)
  state_is : w.pilot ≡ pilot (seen_in steps)
  judged_state_is : w.judged_pilot ≡ pilot (judged_over steps)
  level_is : w.isolation ≡ isolation (seen_in steps)
  good_is : w.good ≡ list_all is_good (map exchange_of (if is_some (arriving (seen_in steps)) then [] else replies steps))
  preparation_is : w.preparation ≡ prepared (map exchange_of (if is_some (arriving (seen_in steps)) then [] else replies steps))
  held_is : w.isolated ≡ (if is_some (arriving (seen_in steps)) then false else isolated steps)
  off_is : w.off ≡ pre_charge_off (map exchange_of (if is_some (arriving (seen_in steps)) then [] else replies steps))
  begun_is : w.started ≡ (if is_some (arriving (seen_in steps)) then false else started w.ac steps)

opened_if : (b : Bool) (steps : List ToldStep) (v : MandateValues) → is_some (arriving (seen_in steps)) ≡ b → AreOf steps v
    → IsOpened steps (if b then record (silent v) { arrived = false; lives = true; judged = false } else v)
opened_if true steps v is h = record {
  lives_is = sym (behind_some (arriving (seen_in steps)) (session (seen_in steps)) is);
  judged_is = rw is refl;
  state_is = h.0.state_is;
  judged_state_is = h.0.judged_state_is;
  level_is = h.0.level_is;
  good_is = rw is refl;
  preparation_is = rw is refl;
  held_is = rw is refl;
  off_is = rw is refl;
  begun_is = rw is refl;
}
opened_if false steps v is h = record {
  lives_is = h.0.lives_is ∙ sym (behind_none (arriving (seen_in steps)) (session (seen_in steps)) is);
  judged_is = rw is h.0.judged_is;
  state_is = h.0.state_is;
  judged_state_is = h.0.judged_state_is;
  level_is = h.0.level_is;
  good_is = rw is h.1.good_is;
  preparation_is = rw is h.1.preparation_is;
  held_is = rw is h.1.held_is;
  off_is = rw is h.1.off_is;
  begun_is = rw is h.1.begun_is;
}

heard_from : (at : ℕ) (event : Event) (steps : List ToldStep) (w : MandateValues) → IsOpened steps w → AreOf (Hears at event ∷ steps) (told_so event w)
heard_from at event steps w h = (
  record {
    arrived_is = came_is at event;
    lives_is = h.lives_is ∙ sym (some_map _ (session_behind (arriving (seen_in steps)) (session (seen_in steps))));
    judged_is = h.judged_is;
    state_is = ap (λ (s : PilotState). unwrap_or (told_by pilot_in event) s) h.state_is ∙ sym (newer_or (told_by pilot_in event) (last (told_by pilot_in) (seen_in steps)) A);
    judged_state_is = h.judged_state_is;
    level_is = ap (λ (o : Option IsolationLevel). if comes event then None else newer (told_by isolation_in event) o) h.level_is ∙ level_heard at event (seen_in steps);
  },
  record {
    good_is = h.good_is;
    preparation_is = h.preparation_is;
    held_is = ap (λ (b : Bool). b && keeps_valid event) h.held_is ∙ and_if (is_some (arriving (seen_in steps))) (isolated steps) (keeps_valid event);
    off_is = h.off_is;
    begun_is = ap (λ (b : Bool). b && (w.ac || keeps_valid event)) h.begun_is
        ∙ and_if (is_some (arriving (seen_in steps))) (started w.ac steps) (w.ac || keeps_valid event);
  },
)

heard_told : (at : ℕ) (event : Event) (steps : List ToldStep) (v : MandateValues) → AreOf steps v → AreOf (Hears at event ∷ steps) (heard_by event v)
heard_told at event steps v h = heard_from at event steps (opened_by v) (opened_if v.arrived steps v (sym h.0.arrived_is) h)

-- the bytes of a hearing are no matter
piece : (mine : Bool) (bytes : List ℕ) (v : MandateValues) → heard_by (if mine then Bytes [] else Clock) v ≡ heard_by (if mine then Bytes bytes else Clock) v
piece true bytes v = refl
piece false bytes v = refl

datagram : (mine : Bool) (bytes : List ℕ) (v : MandateValues) → heard_by (if mine then Datagram [] else Clock) v ≡ heard_by (if mine then Datagram bytes else Clock) v
datagram true bytes v = refl
datagram false bytes v = refl

no_bytes : (k : ℕ) (heard : What) (bytes : List ℕ) (v : MandateValues) → heard_by (event_at k heard []) v ≡ heard_by (event_at k heard bytes) v
no_bytes k (what.Came post token) bytes v = refl
no_bytes k (what.Bytes post n) bytes v = piece (post == k) bytes v
no_bytes k (what.Gone post) bytes v = refl
no_bytes k (what.Datagram post n) bytes v = datagram (post == k) bytes v
no_bytes k (what.Plant post event) bytes v = refl
no_bytes k what.Tick bytes v = refl
no_bytes k what.Over bytes v = refl

pub heard_at : (k at : ℕ) (heard : What) (bytes : List ℕ) (steps : List ToldStep) (v result : MandateValues) → result ≡ heard_by (event_at k heard []) v → AreOf steps v
    → AreOf (Hears at (event_at k heard bytes) ∷ steps) result
heard_at k at heard bytes steps v result is h =
    subst (AreOf (Hears at (event_at k heard bytes) ∷ steps)) (sym (is ∙ no_bytes k heard bytes v)) (heard_told at (event_at k heard bytes) steps v h)

-- ---- an act

judged_state : (reading : Option Reading) (past earlier : List Seen) (s t : PilotState) → s ≡ pilot past → t ≡ pilot earlier → (if is_some reading then s else t) ≡ pilot (judged_by reading past earlier)
judged_state None past earlier s t now before = before
judged_state (Some reading) past earlier s t now before = now

pub acted_told : (reading : Option Reading) (given : Order) (taken judged : Bool) (steps : List ToldStep) (v : MandateValues) → judged ≡ is_some reading → AreOf steps v
    → AreOf (Does reading (Give given) taken ∷ steps) (judged_so judged v)
acted_told reading given taken judged steps v is h = (
  record {
    arrived_is = h.0.arrived_is;
    lives_is = h.0.lives_is ∙ sym (some_map _ (session (seen_in steps)));
    judged_is = rw (is, h.0.judged_is) refl;
    state_is = h.0.state_is;
    judged_state_is = rw is (judged_state reading (seen_in steps) (judged_over steps) v.pilot v.judged_pilot h.0.state_is h.0.judged_state_is);
    level_is = h.0.level_is;
  },
  record { good_is = h.1.good_is; preparation_is = h.1.preparation_is; held_is = h.1.held_is; off_is = h.1.off_is; begun_is = h.1.begun_is },
)

pub answered_told : (reading : Option Reading) (bytes : List ℕ) (taken judged : Bool) (steps : List ToldStep) (v : MandateValues) → judged ≡ is_some reading → AreOf steps v
    → AreOf (Does reading (Answer bytes) taken ∷ steps) (judged_so judged v)
answered_told reading bytes taken judged steps v is h = (
  record {
    arrived_is = h.0.arrived_is;
    lives_is = h.0.lives_is ∙ sym (some_map _ (session (seen_in steps)));
    judged_is = rw (is, h.0.judged_is) refl;
    state_is = h.0.state_is;
    judged_state_is = rw is (judged_state reading (seen_in steps) (judged_over steps) v.pilot v.judged_pilot h.0.state_is h.0.judged_state_is);
    level_is = h.0.level_is;
  },
  record { good_is = h.1.good_is; preparation_is = h.1.preparation_is; held_is = h.1.held_is; off_is = h.1.off_is; begun_is = h.1.begun_is },
)

pub ended_told : (cause : ℕ) (taken : Bool) (steps : List ToldStep) (v : MandateValues) → AreOf steps v → AreOf (Does None (End cause) taken ∷ steps) (ended_by v)
ended_told cause taken steps v h = (
  record {
    arrived_is = h.0.arrived_is;
    lives_is = refl;
    judged_is = refl;
    state_is = h.0.state_is;
    judged_state_is = h.0.judged_state_is;
    level_is = h.0.level_is;
  },
  record { good_is = refl; preparation_is = refl; held_is = refl; off_is = refl; begun_is = refl },
)

-- ---- what was sent

stands_sent : (reading : Option Reading) (bytes : List ℕ) (taken : Bool) (said : Said) (judged : Bool) (steps : List ToldStep) (v : MandateValues) → judged ≡ is_some reading → AreOf steps v
    → StandsSo (Sends reading bytes taken said ∷ steps) v.arrived v.lives false v.pilot (if judged then v.pilot else v.judged_pilot) v.isolation
stands_sent reading bytes taken said judged steps v is h = record {
  arrived_is = h.0.arrived_is;
  lives_is = h.0.lives_is ∙ sym (some_map _ (session (seen_in steps)));
  judged_is = refl;
  state_is = h.0.state_is;
  judged_state_is = rw is (judged_state reading (seen_in steps) (judged_over steps) v.pilot v.judged_pilot h.0.state_is h.0.judged_state_is);
  level_is = h.0.level_is;
}

-- without a session
unsaid : (reading : Option Reading) (bytes : List ℕ) (taken : Bool) (said : Said) (ac : Bool) (steps : List ToldStep) → is_some (session (seen_in steps)) ≡ false
    → TalksSo (Sends reading bytes taken said ∷ steps) ac true unprepared false None false
unsaid reading bytes taken said ac steps none =
    record { good_is = rw none refl; preparation_is = rw none refl; held_is = rw none refl; off_is = rw none refl; begun_is = rw none refl }

response_talks : (reading : Option Reading) (bytes : List ℕ) (taken : Bool) (chosen : Option Dialect) (positive : Bool) (steps : List ToldStep) (v : MandateValues)
    → is_some (session (seen_in steps)) ≡ true → AreOf steps v
    → TalksSo (Sends reading bytes taken (Response chosen positive) ∷ steps) v.ac (is_some (if positive then chosen else None) && v.good)
    (responded_by (if positive then chosen else None) v).preparation v.isolated v.off v.started
response_talks reading bytes taken chosen positive steps v lives h = record {
  good_is = rw (lives, h.1.good_is) refl;
  preparation_is = rw (lives, h.1.preparation_is) refl;
  held_is = rw lives h.1.held_is;
  off_is = rw lives h.1.off_is;
  begun_is = rw lives h.1.begun_is;
}

response_by : (b : Bool) (reading : Option Reading) (bytes : List ℕ) (taken : Bool) (chosen : Option Dialect) (positive judged : Bool) (steps : List ToldStep) (v : MandateValues)
    → judged ≡ is_some reading → is_some (session (seen_in steps)) ≡ b → AreOf steps v
    → AreOf (Sends reading bytes taken (Response chosen positive) ∷ steps)
    (said_if b (responded_by (if positive then chosen else None) (sent_by judged v)) (sent_by judged v))
response_by true reading bytes taken chosen positive judged steps v is lives h =
    (stands_sent reading bytes taken (Response chosen positive) judged steps v is h, response_talks reading bytes taken chosen positive steps v lives h)
response_by false reading bytes taken chosen positive judged steps v is lives h =
    (stands_sent reading bytes taken (Response chosen positive) judged steps v is h, unsaid reading bytes taken (Response chosen positive) v.ac steps lives)

pub response_told : (reading : Option Reading) (bytes : List ℕ) (taken : Bool) (chosen : Option Dialect) (positive judged : Bool) (steps : List ToldStep) (v : MandateValues)
    → judged ≡ is_some reading → AreOf steps v
    → AreOf (Sends reading bytes taken (Response chosen positive) ∷ steps)
    (said_if v.lives (responded_by (if positive then chosen else None) (sent_by judged v)) (sent_by judged v))
response_told reading bytes taken chosen positive judged steps v is h =
    response_by v.lives reading bytes taken chosen positive judged steps v is (sym h.0.lives_is) h

other_by : (b : Bool) (reading : Option Reading) (bytes : List ℕ) (taken judged : Bool) (steps : List ToldStep) (v : MandateValues)
    → judged ≡ is_some reading → is_some (session (seen_in steps)) ≡ b → AreOf steps v
    → AreOf (Sends reading bytes taken Other ∷ steps) (said_if b (responded_by None (sent_by judged v)) (sent_by judged v))
other_by true reading bytes taken judged steps v is lives h = (
  stands_sent reading bytes taken Other judged steps v is h,
  record {
    good_is = rw lives refl;
    preparation_is = rw (lives, h.1.preparation_is) refl;
    held_is = rw lives h.1.held_is;
    off_is = rw lives h.1.off_is;
    begun_is = rw lives h.1.begun_is;
  },
)
other_by false reading bytes taken judged steps v is lives h =
    (stands_sent reading bytes taken Other judged steps v is h, unsaid reading bytes taken Other v.ac steps lives)

pub other_told : (reading : Option Reading) (bytes : List ℕ) (taken judged : Bool) (steps : List ToldStep) (v : MandateValues) → judged ≡ is_some reading → AreOf steps v
    → AreOf (Sends reading bytes taken Other ∷ steps) (said_if v.lives (responded_by None (sent_by judged v)) (sent_by judged v))
other_told reading bytes taken judged steps v is h = other_by v.lives reading bytes taken judged steps v is (sym h.0.lives_is) h

unasked_by : (b : Bool) (reading : Option Reading) (bytes : List ℕ) (taken judged : Bool) (steps : List ToldStep) (v : MandateValues)
    → judged ≡ is_some reading → is_some (session (seen_in steps)) ≡ b → AreOf steps v
    → AreOf (Sends reading bytes taken Unasked ∷ steps) (said_if b (sent_by judged v) (sent_by judged v))
unasked_by true reading bytes taken judged steps v is lives h = (
  stands_sent reading bytes taken Unasked judged steps v is h,
  record {
    good_is = rw lives h.1.good_is;
    preparation_is = rw lives h.1.preparation_is;
    held_is = rw lives h.1.held_is;
    off_is = rw lives h.1.off_is;
    begun_is = rw lives h.1.begun_is;
  },
)
unasked_by false reading bytes taken judged steps v is lives h =
    (stands_sent reading bytes taken Unasked judged steps v is h, unsaid reading bytes taken Unasked v.ac steps lives)

pub unasked_told : (reading : Option Reading) (bytes : List ℕ) (taken judged : Bool) (steps : List ToldStep) (v : MandateValues) → judged ≡ is_some reading → AreOf steps v
    → AreOf (Sends reading bytes taken Unasked ∷ steps) (said_if v.lives (sent_by judged v) (sent_by judged v))
unasked_told reading bytes taken judged steps v is h = unasked_by v.lives reading bytes taken judged steps v is (sym h.0.lives_is) h

reply_by : (b : Bool) (reading : Option Reading) (bytes : List ℕ) (taken : Bool) (request : Request) (reply : PostReply) (watts : SpelledWatts) (judged : Bool) (steps : List ToldStep)
    (v : MandateValues) → judged ≡ is_some reading → is_some (session (seen_in steps)) ≡ b → AreOf steps v
    → AreOf (Sends reading bytes taken (Replied request reply watts) ∷ steps) (said_if b (replied_by request reply (sent_by judged v)) (sent_by judged v))
reply_by true reading bytes taken request reply watts judged steps v is lives h = (
  stands_sent reading bytes taken (Replied request reply watts) judged steps v is h,
  record {
    good_is = rw (lives, h.1.good_is) refl;
    preparation_is = rw (lives, h.1.preparation_is) refl;
    held_is = rw (lives, h.1.held_is, h.0.level_is) refl;
    off_is = rw (lives, h.1.off_is) refl;
    begun_is =
        let state : (if judged then v.pilot else v.judged_pilot) ≡ pilot (judged_by reading (seen_in steps) (judged_over steps)) =
        rw is (judged_state reading (seen_in steps) (judged_over steps) v.pilot v.judged_pilot h.0.state_is h.0.judged_state_is) in
        rw (lives, h.1.preparation_is, h.1.held_is, h.1.off_is, h.1.begun_is, state) refl;
  },
)
reply_by false reading bytes taken request reply watts judged steps v is lives h =
    (stands_sent reading bytes taken (Replied request reply watts) judged steps v is h, unsaid reading bytes taken (Replied request reply watts) v.ac steps lives)

pub reply_told : (reading : Option Reading) (bytes : List ℕ) (taken : Bool) (request : Request) (reply : PostReply) (watts : SpelledWatts) (judged : Bool) (steps : List ToldStep)
    (v : MandateValues) → judged ≡ is_some reading → AreOf steps v
    → AreOf (Sends reading bytes taken (Replied request reply watts) ∷ steps) (said_if v.lives (replied_by request reply (sent_by judged v)) (sent_by judged v))
reply_told reading bytes taken request reply watts judged steps v is h = reply_by v.lives reading bytes taken request reply watts judged steps v is (sym h.0.lives_is) h
