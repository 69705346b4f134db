-- What holds of every post of a site (IEC 61851-1, annex A; IEC 61851-23; ISO 15118-2:2014, sections 8.4, 8.7 and 8.8).
use Rattle.std.specs.Prelude.{◌≡◌, List, ◌++◌, map}
use Rattle.session_words.specs.declared.plan.PostPlan.{PostPlan}
use Rattle.post_spec.specs.Codecs.{Codecs}
use Rattle.post_spec.specs.Steps.{Seen, Step, seen_of}
use Rattle.station_spec.specs.Acting.{state}
use Rattle.station_spec.specs.Next.{IsQuiet}
use Rattle.silent_runs.specs.Silent.{IsSilent}
use Rattle.safe_runs.specs.Closing.{ClosesMandated}
use Rattle.safe_runs.specs.Opening.{OpensAgain, EndsOpen}
use Rattle.failed_replies.specs.Replies.{AreOpened}
use Rattle.mandated_runs.specs.Holding.{HoldsMandated, IsHeldRightly}
use Rattle.coming_causes_open.specs.Causing.{OpenAtCauses}
use Rattle.applied_causes.specs.Reasons as opens
use Rattle.applied_causes.specs.Ending.{HasNoCause, EndByCauses}
use Rattle.applied_causes.specs.Opening.{AreReasoned, OpenAtFirstCauses}
use Rattle.applied_causes.specs.Applied.{ApplyCauses, ApplyWords}
use Rattle.conforming_runs.specs.Conforming.{Conforming}
use Rattle.applied_causes.specs.Serving.{IsWellServed}
use Rattle.site_laws.specs.Reading.{ReadsOff}

-- Of one post, whose entries behind the last hearing's answers are `blocks`, with the closing orders `past`:
-- each Close is mandated, and the contactor is held closed only as mandated; a failed order is followed by an Open; at the end a live contactor
-- is ordered open; while it is live no FAILED reply is sent; what ends a session opens it first, where it comes.
-- By the causes of its past (`IsCause`): wherever one stands while the contactor is live, and none came before in the block, the contactor is
-- opened before anything else, and where the post has nothing left to do none stands so; behind each order to open such a cause came in the block, but
-- where it repeats one that failed or the car asked for it.
-- By what applies at each place, where the first thing decides (`Applies`): each session ends by the first cause that applied in it, and nothing more is
-- heard before it has ended; where that applies while the contactor is live, the contactor is opened before anything else; an order to open has
-- that cause, but where one was owed or the car asked for it; and what applies is a cause of its past, a word where its session has none yet.
-- Without a session nothing is sent; and what it keeps is what its past tells.
-- Each session that conforms is served, whatever became of those before it: each request is answered once, with a code of the OK class; the
-- contactor is ordered closed in the hearing of PowerDelivery Start, and its reply sent in the hearing of the feedback that confirms it;
-- SessionStop alone ends the session. Where the post has nothing left to do, no session has a cause, and no whole request is without its
-- reply but the one whose reply waits for that feedback
pub record IsLawfulPost (c : Codecs) (plan : PostPlan) (steps : List Step) (blocks past : List Seen) : Type 0 where
  pub seen_is : blocks ≡ map seen_of steps
  pub closes : ClosesMandated c plan blocks
  pub holds : HoldsMandated c plan past
  pub held : IsHeldRightly c plan past
  pub opens_again : OpensAgain blocks
  pub ends_open : EndsOpen past blocks
  pub replies : AreOpened c blocks
  pub causes : OpenAtCauses c plan steps
  pub stands : opens.OpenWhereStanding c plan steps
  pub stood : IsQuiet plan (state plan steps) → opens.Stands c plan steps → ⊥
  pub caused : opens.AreReasoned c plan steps
  pub ends : EndByCauses c plan steps
  pub ended : IsQuiet plan (state plan steps) → HasNoCause c plan steps
  pub applied : ApplyCauses c plan steps
  pub applied_words : ApplyWords c plan steps
  pub opens_first : OpenAtFirstCauses c plan steps
  pub reasons : AreReasoned c plan steps
  pub silent : IsSilent blocks
  pub reads_off : ReadsOff plan steps
  pub served : (newer front : List Step) → steps ≡ newer ++ front → Conforming plan front → IsWellServed c plan front
