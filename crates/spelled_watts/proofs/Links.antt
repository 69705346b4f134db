-- What ties the replies of a session to what its post keeps.
use Rattle.std.proofs.Common.{◌≡◌, ◌≤◌, ℕ, suc, false, List, [], ◌∷◌, length, Option, Some, None, MatchBool}
use Rattle.charge_world.specs.declared.offer.Dialect.{Dialect}
use Rattle.session_words.specs.declared.cause.EndCause.{EndCause}
use Rattle.session_words.specs.declared.plan.PostPlan.{PostPlan}
use Rattle.session_words.specs.declared.word.Request.{Request}
use Rattle.session_words.specs.declared.word.Word.TheVariants as word
use Rattle.v2gtp_frames.specs.Reading.{behind_frames}
use Rattle.session_rules.specs.declared.stage.Stage.{Stage}
use Rattle.session_rules.specs.Asks.{shows_watts}
use Rattle.session_rules.specs.Stages.{is_waiting, confirmed}
use Rattle.post_spec.specs.Codecs.{Codecs}
use Rattle.post_spec.specs.Sessions.{session, stream}
use Rattle.post_spec.specs.Spelled.{spelled_by}
use Rattle.post_spec.specs.Steps.{Seen}
use Rattle.post_spec.specs.Talk.{Exchange, dialect_of, IsExchange, Talks}
use Rattle.post_spec.specs.Words.{IsPayloadAt}
use Rattle.station_spec.specs.States.{Spoken, Session, State}
use Rattle.station_spec.specs.Judging.{speaks}
use Rattle.station_spec.specs.Next.{IsSpoken}
use Rattle.safe_runs.proofs.Growth.{AreWhole}

-- a request that is the next word
pub record Asks (c : Codecs) (heard : List ℕ) (xs : List Exchange) (request : Request) (dialect : Dialect) : Type 0 where
  pub payload : List ℕ
  pub place : IsPayloadAt heard (length xs) payload
  pub reads : c.Reads dialect payload (Some (word.Request request))
  pub dialect_is : dialect_of xs ≡ Some dialect

-- what is owed to the car: whatever stands before it, it makes an exchange, which spells no more than the session is told
pub record Owes (c : Codecs) (plan : PostPlan) (heard : List ℕ) (xs : List Exchange) (stage : Stage) (spoken : Spoken) (behind : Option EndCause) : Type 0 where
  pub exchange : List Seen → Exchange
  pub is : (past : List Seen) (bytes : List ℕ) → IsSpoken c spoken bytes → IsExchange c plan.dialects.items heard xs bytes past (exchange past)
  pub within : (past : List Seen) → spelled_by plan (exchange past ∷ xs) ≤ stage.told
  pub goes : is_waiting (confirmed stage).row ≡ false
  pub talks : (past : List Seen) → behind ≡ None → (d : Dialect) × (dialect_of (exchange past ∷ xs) ≡ Some d) × (speaks (confirmed stage) ≡ Some d)

-- nothing is owed
pub record Free (plan : PostPlan) (xs : List Exchange) (taken : ℕ) (stage : Stage) : Type 0 where
  pub count : taken ≡ length xs
  pub dialect : dialect_of xs ≡ speaks stage
  pub opening : speaks stage ≡ None → xs ≡ []
  pub within : spelled_by plan xs ≤ stage.told

-- a reply waits for the contactor
pub record Waits (c : Codecs) (plan : PostPlan) (heard : List ℕ) (xs : List Exchange) (taken : ℕ) (stage : Stage) : Type 0 where
  pub count : taken ≡ suc (length xs)
  pub request : Request
  pub asks : Asks c heard xs request stage.dialect
  pub plain : shows_watts request.ask ≡ false
  pub within : spelled_by plan xs ≤ stage.told

abbrev pub Talk : Codecs → PostPlan → List ℕ → List Exchange → ℕ → Stage → Option Spoken → Option EndCause → Type 0
Talk c plan heard xs taken stage None behind = MatchBool (is_waiting stage.row) (Waits c plan heard xs taken stage) (Free plan xs taken stage)
Talk c plan heard xs taken stage (Some spoken) behind = (taken ≡ suc (length xs)) × Owes c plan heard xs stage spoken behind

pub record Going (c : Codecs) (plan : PostPlan) (heard : List ℕ) (xs : List Exchange) (stage : Stage) (unread : List ℕ) (reply : Option Spoken) (behind : Option EndCause) : Type 0 where
  pub taken : ℕ
  pub whole : AreWhole taken heard
  pub unread_is : unread ≡ behind_frames taken heard
  pub talk : Talk c plan heard xs taken stage reply behind

-- once the session has a cause, at most a reply is owed
abbrev pub Stands : Codecs → PostPlan → List ℕ → List Exchange → Option EndCause → Stage → List ℕ → Option Spoken → Option EndCause → Type 0
Stands c plan heard xs None stage unread reply behind = Going c plan heard xs stage unread reply behind
Stands c plan heard xs (Some cause) stage unread None behind = Unit {0}
Stands c plan heard xs (Some cause) stage unread (Some spoken) behind = Owes c plan heard xs stage spoken behind

pub record Link (c : Codecs) (plan : PostPlan) (past es : List Seen) (n : ℕ) (ending : Option EndCause) (stage : Stage) (unread : List ℕ) (reply : Option Spoken) (behind : Option EndCause) : Type 0 where
  pub xs : List Exchange
  pub talks : Talks c plan.dialects.items past xs
  pub within : spelled_by plan xs ≤ n
  pub stands : Stands c plan (stream es) xs ending stage unread reply behind

-- a session lives in both or in neither
abbrev pub Tie : Codecs → PostPlan → List Seen → ℕ → Option EndCause → Option (List Seen) → Option Session → Option Spoken → Option EndCause → Type 0
Tie c plan past n ending None None reply behind = Talks c plan.dialects.items past []
Tie c plan past n ending None (Some ss) reply behind = ⊥
Tie c plan past n ending (Some es) None reply behind = ⊥
Tie c plan past n ending (Some es) (Some ss) reply behind = Link c plan past es n ending ss.stage ss.unread reply behind

abbrev pub Tied : Codecs → PostPlan → List Seen → ℕ → State → Type 0
Tied c plan past n s = Tie c plan past n s.agenda.ending (session past) s.session s.agenda.reply s.agenda.behind_reply
