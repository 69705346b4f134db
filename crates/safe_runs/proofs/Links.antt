-- What ties a past to what its post keeps, as long as the session has no cause.
use Rattle.std.proofs.Common.{◌≡◌, ℕ, suc, Bool, true, false, List, [], ◌∷◌, ◌++◌, length, Option, Some, None, ◌⊎◌, MatchBool, IsSome}
use Rattle.std.specs.List.{AllByRecursion}
use Rattle.std.specs.Option.{option_map}
use Rattle.charge_world.specs.declared.heard.IsolationLevel.TheVariants.{Valid}
use Rattle.charge_world.specs.declared.offer.Dialect.{Dialect}
use Rattle.charge_world.specs.declared.ports.Order.TheVariants as order
use Rattle.session_words.specs.declared.cause.EndCause.{EndCause}
use Rattle.session_words.specs.declared.facts.Facts.{Facts}
use Rattle.session_words.specs.declared.plan.PostPlan.{PostPlan}
use Rattle.session_words.specs.declared.word.Reply.{Reply}
use Rattle.session_words.specs.declared.word.Request.{Request}
use Rattle.session_words.specs.declared.word.Word.TheVariants as word
use Rattle.session_words.specs.Codes.{IsOkClass}
use Rattle.v2gtp_frames.specs.Reading.{behind_frames}
use Rattle.session_rules.specs.declared.stage.Stage.{Stage}
use Rattle.session_rules.specs.Causes.{needs_isolation}
use Rattle.session_rules.specs.Delivery.{off_of}
use Rattle.session_rules.specs.Finishing.{is_ac}
use Rattle.session_rules.specs.Stages.{is_waiting}
use Rattle.contactor.specs.Rights.{is_ready}
use Rattle.post_spec.specs.Codecs.{Codecs, Negotiated}
use Rattle.post_spec.specs.Facts.{told_by, isolation_in, pilot, isolation}
use Rattle.post_spec.specs.Kinds.{is_of, any, says_finished, asks_cable_check, asks_start, asks_opening}
use Rattle.post_spec.specs.Prepared.{HasNo, IsPrepared}
use Rattle.post_spec.specs.Checked.{IsChecked, IsValidIfTold, StaysValid, pre_charge_off}
use Rattle.post_spec.specs.Mandated.{IsStarted, before_close}
use Rattle.post_spec.specs.Sessions.{arriving, session, stream, waits}
use Rattle.post_spec.specs.Spelled.{read_back}
use Rattle.post_spec.specs.Steps.{Event, Seen}
use Rattle.post_spec.specs.Talk.{Exchange, Negotiation, Answered, dialect_of, Talks, IsOk}
use Rattle.post_spec.specs.Words.{IsPayloadAt}
use Rattle.station_spec.specs.States.{Spoken, Response, Said, Agenda, Part, Repeating, Timing, Eventing, Wording, Session, State, nothing}
use Rattle.station_spec.specs.Judging.{speaks}
use Rattle.safe_runs.specs.Started.{IsBehindClose, MandatedByOwn}
use Rattle.safe_runs.proofs.Growth.{AreWhole}
use Rattle.safe_runs.proofs.Rows.{RowHas, PowerOf, is_charging}

abbrev pub is_cable : Exchange → Bool
is_cable = is_of asks_cable_check says_finished

-- the isolation was valid as the newest finished CableCheck was answered, and has been so since
pub record Cabled (past : List Seen) (xs : List Exchange) : Type 0 where
  pub behind : List Exchange
  pub request : Request
  pub reply : Reply
  pub before : List Seen
  pub earlier : List Exchange
  pub xs_are : xs ≡ behind ++ Answered request reply before ∷ earlier
  pub cable_check : is_cable (Answered request reply before) ≡ true
  pub newest : HasNo is_cable behind
  pub since : List Seen
  pub past_is : past ≡ since ++ before
  pub valid : isolation before ≡ Some Valid
  pub stays : AllByRecursion StaysValid since

-- a hearing may tell an isolation that isn't valid; that is judged in its third part
abbrev pub Premise : Part → Event → Type 0
Premise Repeating event = IsValidIfTold (told_by isolation_in event)
Premise Timing event = IsValidIfTold (told_by isolation_in event)
Premise Eventing event = IsValidIfTold (told_by isolation_in event)
Premise Wording event = Unit {0}

-- PowerDelivery Start was answered, and nothing behind it opens; what it was judged by still holds
pub record Delivers (plan : PostPlan) (past : List Seen) (needs : Bool) (xs : List Exchange) (valid : Type 0) : Type 0 where
  pub earlier : List Exchange
  pub judged : List Seen
  pub started : IsStarted xs earlier judged
  pub prepared : IsPrepared (is_ac plan.mode) earlier
  pub checked : valid → MatchBool needs (IsChecked past earlier) (Unit {0})
  pub ready : is_ready (pilot judged) ≡ true
  pub own : IsBehindClose started.before

-- the exchanges of a session in its stage
pub record Rowed (plan : PostPlan) (past : List Seen) (stage : Stage) (xs : List Exchange) (valid : Type 0) : Type 0 where
  pub has : RowHas stage.row xs
  pub power : PowerOf stage.row (is_ac plan.mode)
  pub dialect : dialect_of xs ≡ speaks stage
  pub off : pre_charge_off xs ≡ option_map off_of stage.pre_charge
  pub cabled : valid → MatchBool (needs_isolation stage.row) (Cabled past xs) (Unit {0})
  pub delivers : MatchBool (is_charging stage.row) (Delivers plan past (needs_isolation stage.row) xs valid) (Unit {0})

-- the same once a request is answered, which it isn't yet
abbrev pub CabledThen : List Seen → Request → Reply → List Exchange → Type 0
CabledThen past request reply xs =
    (Cabled past xs × (is_cable (Answered request reply []) ≡ false)) ⊎ ((is_cable (Answered request reply []) ≡ true) × (isolation past ≡ Some Valid))

abbrev pub DeliversThen : PostPlan → List Seen → Bool → Request → Reply → List Exchange → Type 0 → Type 0
DeliversThen plan past needs request reply xs valid =
    Delivers plan past needs xs valid × (is_of asks_opening any (Answered request reply []) ≡ false)

pub record RowedThen (plan : PostPlan) (past : List Seen) (stage : Stage) (request : Request) (reply : Reply) (xs : List Exchange) (valid : Type 0) : Type 0 where
  pub has : (before : List Seen) → RowHas stage.row (Answered request reply before ∷ xs)
  pub power : PowerOf stage.row (is_ac plan.mode)
  pub dialect : dialect_of xs ≡ speaks stage
  pub off : pre_charge_off (Answered request reply [] ∷ xs) ≡ option_map off_of stage.pre_charge
  pub cabled : valid → MatchBool (needs_isolation stage.row) (CabledThen past request reply xs) (Unit {0})
  pub delivers : MatchBool (is_charging stage.row) (DeliversThen plan past (needs_isolation stage.row) request reply xs valid) (Unit {0})

abbrev pub Chosen : PostPlan → List Seen → Stage → Option Dialect → Option EndCause → Type 0 → Type 0
Chosen plan past stage None behind valid = IsSome behind
Chosen plan past stage (Some dialect) behind valid = Rowed plan past stage (Negotiation (Some dialect) ∷ []) valid

-- a request that is the next word
pub record Asks (c : Codecs) (heard : List ℕ) (xs : List Exchange) (request : Request) (dialect : Dialect) : Type 0 where
  pub payload : List ℕ
  pub place : IsPayloadAt heard (length xs) payload
  pub reads : c.Reads dialect payload (Some (word.Request request))
  pub dialect_is : dialect_of xs ≡ Some dialect

-- what is owed to the car
abbrev pub Owes : Codecs → PostPlan → List Seen → List Seen → List Exchange → Stage → Spoken → Option EndCause → Type 0 → Type 0
Owes c plan past es xs stage (Response response) behind valid =
    (xs ≡ []) × ((chosen : Option Dialect) × (payload : List ℕ) × IsPayloadAt (stream es) 0 payload
    × c.Negotiates plan.dialects.items payload (Negotiated chosen response) × Chosen plan past stage chosen behind valid)
Owes c plan past es xs stage (Said dialect reply) behind valid =
    (request : Request) × Asks c (stream es) xs request dialect × IsOkClass reply.code × RowedThen plan past stage request (read_back reply) xs valid

abbrev pub Pending : Codecs → PostPlan → List Seen → List Seen → List Exchange → ℕ → Stage → Option Spoken → Option EndCause → Type 0 → Type 0
Pending c plan past es xs taken stage None behind valid = (taken ≡ length xs) × Rowed plan past stage xs valid
Pending c plan past es xs taken stage (Some spoken) behind valid = (taken ≡ suc (length xs)) × Owes c plan past es xs stage spoken behind valid

-- the reply that waits, if it may go
abbrev pub IsOkReply : Dialect → Option Spoken → Type 0
IsOkReply dialect None = Unit {0}
IsOkReply dialect (Some (Response payload)) = ⊥
IsOkReply dialect (Some (Said spoken reply)) = (spoken ≡ dialect) × IsOkClass reply.code

-- the reply to PowerDelivery Start waits; the pilot was ready as the charger was ordered to close
pub record Waits (c : Codecs) (plan : PostPlan) (past es : List Seen) (xs : List Exchange) (taken : ℕ) (stage : Stage) (reply : Option Spoken) (valid : Type 0) : Type 0 where
  pub count : taken ≡ suc (length xs)
  pub request : Request
  pub asks : Asks c (stream es) xs request stage.dialect
  pub start : asks_start request.ask ≡ true
  pub ok : IsOkReply stage.dialect reply
  pub rowed : Rowed plan past stage xs valid
  pub prepared : IsPrepared (is_ac plan.mode) xs
  pub checked : valid → MatchBool (needs_isolation stage.row) (IsChecked past xs) (Unit {0})
  pub ready : waits es ≡ true → is_ready (pilot (before_close past)) ≡ true

pub record Link (c : Codecs) (plan : PostPlan) (past es : List Seen) (stage : Stage) (unread : List ℕ) (reply : Option Spoken) (behind : Option EndCause) (valid : Type 0) : Type 0 where
  pub xs : List Exchange
  pub talks : Talks c plan.dialects.items past xs
  pub ok : AllByRecursion IsOk xs
  pub taken : ℕ
  pub whole : AreWhole taken (stream es)
  pub unread_is : unread ≡ behind_frames taken (stream es)
  pub quiet : is_waiting stage.row ≡ false → waits es ≡ false
  pub talk : MatchBool (is_waiting stage.row) (Waits c plan past es xs taken stage reply valid) (Pending c plan past es xs taken stage reply behind valid)

-- a session lives in both; until it has a cause it is linked
abbrev pub Tie : Codecs → PostPlan → List Seen → Option EndCause → Option (List Seen) → Option Session → Option Spoken → Option EndCause → Type 0 → Type 0
Tie c plan past ending None None reply behind valid = Unit {0}
Tie c plan past ending None (Some ss) reply behind valid = ⊥
Tie c plan past ending (Some es) None reply behind valid = ⊥
Tie c plan past None (Some es) (Some ss) reply behind valid = Link c plan past es ss.stage ss.unread reply behind valid
Tie c plan past (Some cause) (Some es) (Some ss) reply behind valid = Unit {0}

abbrev pub SameArrival : Option Seen → Option ℕ → Type 0
SameArrival None None = Unit {0}
SameArrival None (Some token) = ⊥
SameArrival (Some came) None = ⊥
SameArrival (Some came) (Some token) = (stream (came ∷ []) ≡ []) × (waits (came ∷ []) ≡ false)

abbrev pub IsWaitingIn : Option Session → Type 0
IsWaitingIn None = ⊥
IsWaitingIn (Some ss) = is_waiting ss.stage.row ≡ true

pub record LinkedAt (c : Codecs) (plan : PostPlan) (past : List Seen) (arrived : Option ℕ) (facts : Facts) (kept : Option Session) (agenda : Agenda) (valid : Type 0) : Type 0 where
  pub arrives : SameArrival (arriving past) arrived
  pub pilot_is : pilot past ≡ facts.pilot
  pub isolation_is : isolation past ≡ facts.isolation
  pub tie : Tie c plan past agenda.ending (session past) kept agenda.reply agenda.behind_reply valid
  pub closing : agenda.order ≡ Some order.Close → (agenda.datagram ≡ None) × MandatedByOwn c plan past × IsWaitingIn kept × (is_ready (pilot past) ≡ true)

abbrev pub Linked : Codecs → PostPlan → List Seen → State → Type 0
Linked c plan past s = LinkedAt c plan past s.arrived s.facts s.session s.agenda (Premise s.part s.event)

-- nothing is left to do, and what was heard is judged
abbrev pub Clear : Codecs → PostPlan → List Seen → State → Type 0
Clear c plan past s = LinkedAt c plan past s.arrived s.facts s.session nothing (Unit {0})
