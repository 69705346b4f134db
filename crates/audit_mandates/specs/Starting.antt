-- ISO 15118-2:2014, section 8.8.4: whether PowerDelivery Start was answered in a session that was ready for it, as a value behind each step.
use Rattle.std.specs.Prelude.{◌≡◌, Bool, true, false, ◌&&◌, ◌||◌, if◌then◌else◌, List, [], ◌∷◌, ◌++◌, map, is_some, MatchBool}
use Rattle.charge_world.specs.declared.heard.PilotState.{PilotState}
use Rattle.session_words.specs.declared.word.Reply.{Reply as PostReply}
use Rattle.session_words.specs.declared.word.Request.{Request}
use Rattle.contactor.specs.Rights.{is_ready}
use Rattle.session_rules.specs.Verdict.{is_accepted}
use Rattle.post_spec.specs.Checked.{IsChecked, pre_charge_off}
use Rattle.post_spec.specs.Facts.{pilot}
use Rattle.post_spec.specs.Kinds.{is_of, any, asks_start, asks_opening}
use Rattle.post_spec.specs.Prepared.{HasNo, IsPrepared}
use Rattle.post_spec.specs.Sessions.{arriving, session}
use Rattle.post_spec.specs.Steps.{Seen}
use Rattle.post_spec.specs.Talk.{Exchange, Negotiation, Answered}
use Rattle.told_pasts.specs.Spelling.{SpelledWatts}
use Rattle.told_pasts.specs.Steps.{Said, Response, Replied, Other, Unasked, ToldStep, Hears, Does, Sends, seen_in}
use Rattle.told_pasts.specs.Talk.{Reply, unless_end, judged_by, judged_over, exchange_of, talk}
use Rattle.audit_mandates.specs.Checking.{keeps_valid, isolated, is_checked}
use Rattle.audit_mandates.specs.Preparing.{prepared, is_prepared}

-- among these replies is one to a PowerDelivery Start behind which none opens; the session was ready for it, and has stayed so
pub record HasStarted (ac : Bool) (past : List Seen) (rs : List Reply) : Type 0 where
  pub behind : List Reply
  pub reply : Reply
  pub rest : List Reply
  pub rs_are : rs ≡ behind ++ reply ∷ rest
  pub request : Request
  pub answer : PostReply
  pub watts : SpelledWatts
  pub said_is : reply.said ≡ Replied request answer watts
  pub start : asks_start request.ask ≡ true
  pub goes_on : HasNo (is_of asks_opening any) (map exchange_of behind)
  pub prepared : IsPrepared ac (map exchange_of rest)
  pub checked : MatchBool ac (Unit {0}) (IsChecked past (map exchange_of rest))
  pub ready : is_ready (pilot reply.judged) ≡ true

-- ---- as a value behind each step

-- the session is ready for a Start that was judged while the pilot said this
abbrev pub may_start : Bool → List ToldStep → PilotState → Bool
may_start ac steps state =
    is_prepared ac (prepared (talk steps)) && (is_checked ac (isolated steps) (pre_charge_off (talk steps)) && is_ready state)

abbrev pub started_by : Said → Bool → Bool → Bool
started_by (Response chosen positive) may earlier = earlier
started_by (Replied request reply watts) may earlier = if asks_opening request.ask then false else (asks_start request.ask && may) || earlier
started_by Other may earlier = earlier
started_by Unasked may earlier = earlier

abbrev pub started : Bool → List ToldStep → Bool
started ac [] = false
started ac (Hears at event ∷ steps) = if is_some (arriving (seen_in steps)) then false else started ac steps && (ac || keeps_valid event)
started ac (Does reading act taken ∷ steps) = unless_end act false (started ac steps)
started ac (Sends reading bytes taken said ∷ steps) =
    if is_some (session (seen_in steps))
    then started_by said (may_start ac steps (pilot (judged_by reading (seen_in steps) (judged_over steps)))) (started ac steps)
    else false

-- every answered word has a good answer
abbrev pub is_good : Exchange → Bool
is_good (Negotiation chosen) = is_some chosen
is_good (Answered request reply before) = is_accepted reply.code
