-- IEC 61851-23: whether the isolation has been valid since the last finished CableCheck, and how far off the last pre-charge was.
use Rattle.std.specs.Prelude.{◌≡◌, ℕ, nat_le, Bool, true, false, ◌&&◌, ◌||◌, if◌then◌else◌, List, [], ◌∷◌, ◌++◌, Option, Some, None, is_some}
use Rattle.std.specs.List.{AllByRecursion}
use Rattle.charge_world.specs.declared.heard.IsolationLevel.{IsolationLevel}
use Rattle.charge_world.specs.declared.heard.IsolationLevel.TheVariants.{Valid}
use Rattle.session_words.specs.declared.word.Reply.{Reply}
use Rattle.session_words.specs.declared.word.Request.{Request}
use Rattle.session_rules.specs.Finishing.{is_valid}
use Rattle.post_spec.specs.Checked.{StaysValid}
use Rattle.post_spec.specs.Facts.{told_by, isolation_in, isolation}
use Rattle.post_spec.specs.Kinds.{is_of, says_finished, asks_cable_check}
use Rattle.post_spec.specs.Prepared.{HasNo}
use Rattle.post_spec.specs.Sessions.{arriving, session}
use Rattle.post_spec.specs.Steps.{Event, Seen}
use Rattle.post_spec.specs.Talk.{Exchange, Answered}
use Rattle.told_pasts.specs.Steps.{Said, Response, Replied, Other, Unasked, ToldStep, Hears, Does, Sends, seen_in}
use Rattle.told_pasts.specs.Talk.{unless_end}

-- the isolation was valid as the newest finished CableCheck was answered, and has been so since
pub record HoldsCheck (past : List Seen) (xs : List Exchange) : Type 0 where
  pub behind : List Exchange
  pub request : Request
  pub reply : Reply
  pub before : List Seen
  pub earlier : List Exchange
  pub xs_are : xs ≡ behind ++ Answered request reply before ∷ earlier
  pub cable_check : is_of asks_cable_check says_finished (Answered request reply before) ≡ true
  pub newest : HasNo (is_of asks_cable_check says_finished) behind
  pub since : List Seen
  pub past_is : past ≡ since ++ before
  pub valid : isolation before ≡ Some Valid
  pub stays : AllByRecursion StaysValid since

-- ---- as a value behind each step

abbrev pub valid_if_told : Option IsolationLevel → Bool
valid_if_told None = true
valid_if_told (Some level) = is_valid (Some level)

-- a hearing doesn't tell that the isolation isn't valid
abbrev pub keeps_valid : Event → Bool
keeps_valid event = valid_if_told (told_by isolation_in event)

abbrev pub isolated_by : Said → Option IsolationLevel → Bool → Bool
isolated_by (Response chosen positive) level earlier = earlier
isolated_by (Replied request reply watts) level earlier = if asks_cable_check request.ask && says_finished reply.tell then is_valid level else earlier
isolated_by Other level earlier = earlier
isolated_by Unasked level earlier = earlier

abbrev pub isolated : List ToldStep → Bool
isolated [] = false
isolated (Hears at event ∷ steps) = if is_some (arriving (seen_in steps)) then false else isolated steps && keeps_valid event
isolated (Does reading act taken ∷ steps) = unless_end act false (isolated steps)
isolated (Sends reading bytes taken said ∷ steps) =
    if is_some (session (seen_in steps)) then isolated_by said (isolation (seen_in steps)) (isolated steps) else false

-- at most 20.0 V
abbrev pub is_near : Option ℕ → Bool
is_near None = false
is_near (Some off) = nat_le off 200

-- in DC both
abbrev pub is_checked : Bool → Bool → Option ℕ → Bool
is_checked ac isolated off = ac || (isolated && is_near off)
