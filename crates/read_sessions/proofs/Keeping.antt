-- What ties a session's entries to what its post keeps of the stream and the deadline.
use Rattle.std.proofs.Common.{◌≡◌, ℕ, suc, true, false, List, [], ◌∷◌, length, Option, Some, None, refl, sym, ap, ◌∙◌, ◌⊎◌, MatchBool}
use Rattle.charge_world.specs.declared.ports.Order.{Order}
use Rattle.charge_world.specs.declared.ports.Order.TheVariants as order
use Rattle.session_words.specs.declared.cause.EndCause.{EndCause}
use Rattle.session_words.specs.declared.phase.Phase.{Phase}
use Rattle.v2gtp_frames.specs.Reading.{behind_frames}
use Rattle.session_rules.specs.Stages.{is_set_up, is_waiting}
use Rattle.post_spec.specs.Facts.{now}
use Rattle.post_spec.specs.Sessions.{with_seen, session, session_behind, arriving, stream, replies, waits, came_at, replied_at, closed_at}
use Rattle.post_spec.specs.Steps.{Event, Give, Send, Answer, End, Seen, Heard, Did}
use Rattle.station_spec.specs.States.{Spoken, Session, State}
use Rattle.safe_runs.proofs.Growth.{AreWhole}

-- a reply is about to be sent: one word more was read
pub record Owed (es : List Seen) (taken : ℕ) (here : Phase) (since : ℕ) : Type 0 where
  pub count : taken ≡ suc (length (replies es))
  pub early : is_set_up here ≡ false → since ≡ came_at es

-- each word that was read has its reply
pub record Free (es : List Seen) (taken : ℕ) (here : Phase) (since : ℕ) : Type 0 where
  pub count : taken ≡ length (replies es)
  pub still : waits es ≡ false
  pub early : is_set_up here ≡ false → since ≡ came_at es
  pub later : is_set_up here ≡ true → since ≡ replied_at es

-- a reply waits, or the Close is about to be ordered for which it will
pub record Waiting (es : List Seen) (taken since : ℕ) (o : Option Order) : Type 0 where
  pub count : taken ≡ suc (length (replies es))
  pub closed : (o ≡ Some order.Close) ⊎ ((waits es ≡ true) × (since ≡ closed_at es))

abbrev pub Talk : List Seen → ℕ → Phase → ℕ → Option Spoken → Option Order → Type 0
Talk es taken here since None o = MatchBool (is_waiting here) (Waiting es taken since o) (Free es taken here since)
Talk es taken here since (Some spoken) o = Owed es taken here since

pub record Going (es : List Seen) (here : Phase) (since : ℕ) (unread : List ℕ) (reply : Option Spoken) (o : Option Order) : Type 0 where
  pub taken : ℕ
  pub whole : AreWhole taken (stream es)
  pub unread_is : unread ≡ behind_frames taken (stream es)
  pub talk : Talk es taken here since reply o
  pub closing : o ≡ Some order.Close → is_waiting here ≡ true

-- until the session has a cause
abbrev pub Stands : Option EndCause → List Seen → Phase → ℕ → List ℕ → Option Spoken → Option Order → Type 0
Stands None es here since unread reply o = Going es here since unread reply o
Stands (Some cause) es here since unread reply o = Unit {0}

pub record Link (ending : Option EndCause) (es : List Seen) (here : Phase) (since : ℕ) (unread : List ℕ) (reply : Option Spoken) (o : Option Order) : Type 0 where
  pub some : es ≡ [] → ⊥
  pub stands : Stands ending es here since unread reply o

abbrev pub Tie : Option EndCause → Option (List Seen) → Option Session → Option Spoken → Option Order → Type 0
Tie ending None None reply o = Unit {0}
Tie ending None (Some ss) reply o = ⊥
Tie ending (Some es) None reply o = ⊥
Tie ending (Some es) (Some ss) reply o = Link ending es ss.stage.row ss.since ss.unread reply o

abbrev pub Tied : List Seen → State → Type 0
Tied past s = Tie s.agenda.ending (session past) s.session s.agenda.reply s.agenda.order

-- the newest hearing of a session is that of the past
with_now : (x : Seen) (o : Option (List Seen)) (es : List Seen) (n : ℕ) → with_seen x o ≡ Some es → ((xs : List Seen) → o ≡ Some xs → now (x ∷ xs) ≡ n) → now es ≡ n
with_now x None es n h k = cc
with_now x (Some xs) es n h k = let e : x ∷ xs ≡ es = cc in ap now (sym e) ∙ k xs refl

pub session_now : (past es : List Seen) → session past ≡ Some es → now es ≡ now past
session_now [] es h = cc
session_now (Heard at event ∷ past) es h = with_now (Heard at event) (session_behind (arriving past) (session past)) es at h (λ xs k. refl)
session_now (Did (Give o) taken ∷ past) es h = with_now (Did (Give o) taken) (session past) es (now past) h (λ xs k. session_now past xs k)
session_now (Did (Send bytes) taken ∷ past) es h = with_now (Did (Send bytes) taken) (session past) es (now past) h (λ xs k. session_now past xs k)
session_now (Did (Answer bytes) taken ∷ past) es h = with_now (Did (Answer bytes) taken) (session past) es (now past) h (λ xs k. session_now past xs k)
session_now (Did (End cause) taken ∷ past) es h = cc

pub came_later : (at : ℕ) (event : Event) (es : List Seen) → (es ≡ [] → ⊥) → came_at (Heard at event ∷ es) ≡ came_at es
came_later at event [] n = absurd (n refl)
came_later at event (x ∷ es) n = refl
