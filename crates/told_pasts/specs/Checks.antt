-- Own: the ten checks of a foreign trace, each at a line. Which rule each keeps stands with it.
use Rattle.std.specs.Prelude.{◌≡◌, ◌<◌, ℕ, ◌==◌, Bool, true, false, not, ◌&&◌, ◌||◌, List, [], ◌∷◌, ◌++◌, Option, Some, ◌⊎◌}
use Rattle.std.specs.List.{list_any, list_all, sum_by}
use Rattle.charge_world.specs.declared.entry.Entry.{Entry}
use Rattle.charge_world.specs.declared.entry.Entry.TheVariants as entry
use Rattle.charge_world.specs.declared.heard.Heard.{Heard}
use Rattle.charge_world.specs.declared.ports.Order.{Order}
use Rattle.charge_world.specs.declared.ports.Order.TheVariants as order
use Rattle.session_words.specs.declared.plan.SitePlan.{SitePlan}
use Rattle.session_words.specs.declared.word.Reply.{Reply}
use Rattle.session_words.specs.declared.word.Request.{Request}
use Rattle.session_words.specs.Codes.{IsOkClass}
use Rattle.session_words.specs.declared.phase.Standing.TheVariants.{MustOpen}
use Rattle.contactor.specs.Standing as contactor
use Rattle.post_spec.specs.Contactors.{contactor_acts, standing, live, closed}
use Rattle.post_spec.specs.Course.{Talked}
use Rattle.post_spec.specs.Steps.{Reading, seen}
use Rattle.post_spec.specs.Words.{HeardWord}
use Rattle.told_pasts.specs.Causes.{OwesOpen}
use Rattle.told_pasts.specs.Course.{told_course}
use Rattle.told_pasts.specs.Mandated.{IsMandated}
use Rattle.told_pasts.specs.Reading.{IsNext}
use Rattle.told_pasts.specs.Site.{ToldPost, told_of, spelled_of, ArePosts, IsPostOf}
use Rattle.told_pasts.specs.Spelling.{SpelledWatts, ToldCodecs, AreTold}
use Rattle.told_pasts.specs.Steps.{Said, Response, Replied, Other, Unasked, ToldStep, Sends, seen_in}

-- ---- places in a past: the newest entry stands first

abbrev pub is_heard : Entry → Bool
is_heard (entry.Heard heard bytes) = true
is_heard other = false

abbrev pub is_act_of : ℕ → Entry → Bool
is_act_of k (entry.Sent post bytes taken) = post == k
is_act_of k (entry.Answered post bytes taken) = post == k
is_act_of k (entry.Drove post given taken) = post == k
is_act_of k (entry.Ended post cause) = post == k
is_act_of k other = false

abbrev pub is_open : Order → Bool
is_open order.Open = true
is_open other = false

abbrev pub opens : Entry → Bool
opens (entry.Drove post given taken) = is_open given
opens other = false

-- what was done in the newest block, and the past before its hearing
abbrev pub in_block : List Entry → List Entry
in_block [] = []
in_block (entry.Heard heard bytes ∷ past) = []
in_block (e ∷ past) = e ∷ in_block past

abbrev pub before_block : List Entry → List Entry
before_block [] = []
before_block (entry.Heard heard bytes ∷ past) = past
before_block (e ∷ past) = before_block past

-- a past ends its block where nothing follows, or a hearing
abbrev pub IsNewest : List Entry → Type 0
IsNewest behind = behind ≡ []

abbrev pub HearingFollows : List Entry → Type 0
HearingFollows behind = (newer : List Entry) × (heard : Heard) × (bytes : List ℕ) × (behind ≡ newer ++ entry.Heard heard bytes ∷ [])

pub record EndsBlock (behind past : List Entry) : Type 0 where
  pub begun : list_any is_heard past ≡ true
  pub follows : IsNewest behind ⊎ HearingFollows behind

-- ---- at one entry, with the past before it and what follows it

-- 1: a contactor is ordered closed only where the session is mandated to it
pub record ClosesUnmandated (c : ToldCodecs) (site : SitePlan) (earlier : List Entry) (e : Entry) : Type 0 where
  pub k : ℕ
  pub taken : Bool
  pub post : ToldPost
  pub entry_is : e ≡ entry.Drove k order.Close taken
  pub is : IsPostOf c site earlier k post
  pub unmandated : IsMandated c post.plan post.steps → ⊥

-- 2: while it is live, no FAILED reply is sent
abbrev pub HasFailedCode : Said → Type 0
HasFailedCode (Response chosen positive) = positive ≡ false
HasFailedCode (Replied request reply watts) = IsOkClass reply.code → ⊥
HasFailedCode Other = ⊥
HasFailedCode Unasked = ⊥

pub record FailsLive (c : ToldCodecs) (site : SitePlan) (earlier : List Entry) (e : Entry) : Type 0 where
  pub k : ℕ
  pub bytes : List ℕ
  pub taken : Bool
  pub post : ToldPost
  pub reading : Option Reading
  pub said : Said
  pub steps : List ToldStep
  pub entry_is : e ≡ entry.Sent k bytes taken
  pub is : IsPostOf c site (e ∷ earlier) k post
  pub steps_are : post.steps ≡ Sends reading bytes taken said ∷ steps
  pub failed : HasFailedCode said
  pub live_is : live (seen k earlier) ≡ true

-- 3: what ends a session opens a live contactor before anything is sent to it and before anything is heard. Where that cause is itself an
-- order to open that failed, the trace may end with orders to open alone
abbrev pub AnswersOrHears : ℕ → Entry → Type 0
AnswersOrHears k (entry.Sent post bytes taken) = post ≡ k
AnswersOrHears k (entry.Heard heard bytes) = Unit {0}
AnswersOrHears k other = ⊥

pub record OwesAt (c : ToldCodecs) (site : SitePlan) (past : List Entry) (k : ℕ) : Type 0 where
  pub post : ToldPost
  pub is : IsPostOf c site past k post
  pub owes : OwesOpen c post.plan post.steps

pub record OpensAlone (k : ℕ) (past : List Entry) : Type 0 where
  pub since : List Entry
  pub earlier : List Entry
  pub past_is : past ≡ since ++ entry.Drove k order.Open false ∷ earlier
  pub alone : list_all opens since ≡ true

pub record PassesCause (c : ToldCodecs) (site : SitePlan) (earlier : List Entry) (e : Entry) (behind : List Entry) : Type 0 where
  pub k : ℕ
  pub passes : (AnswersOrHears k e × OwesAt c site earlier k)
      ⊎ (IsNewest behind × OwesAt c site (e ∷ earlier) k × (OpensAlone k (e ∷ earlier) → ⊥))

-- 4: where the last order of a block failed, the next block begins with an order to open
pub record ForgetsOpen (earlier : List Entry) (e : Entry) (behind : List Entry) : Type 0 where
  pub k : ℕ
  pub forgets : ((is_act_of k e ≡ true) × (opens e ≡ false) × (list_any is_heard earlier ≡ true)
      × (list_any (is_act_of k) (in_block earlier) ≡ false) × (standing (seen k (before_block earlier)) ≡ MustOpen))
      ⊎ (EndsBlock behind (e ∷ earlier) × (list_any (is_act_of k) (in_block (e ∷ earlier)) ≡ false) × (standing (seen k (before_block (e ∷ earlier))) ≡ MustOpen))

-- 5: behind every block a closed contactor is mandated to be, but where an Open failed behind its Close
abbrev pub opened_in_vain : List contactor.Act → Bool
opened_in_vain [] = false
opened_in_vain (contactor.ordered contactor.Close true ∷ acts) = false
opened_in_vain (contactor.ordered contactor.Open false ∷ acts) = true
opened_in_vain (contactor.ordered kind taken ∷ acts) = opened_in_vain acts
opened_in_vain (contactor.feedback closed ∷ acts) = opened_in_vain acts

pub record StaysClosed (c : ToldCodecs) (site : SitePlan) (earlier : List Entry) (e : Entry) (behind : List Entry) : Type 0 where
  pub ends : EndsBlock behind (e ∷ earlier)
  pub k : ℕ
  pub post : ToldPost
  pub is : IsPostOf c site (e ∷ earlier) k post
  pub closed_is : closed (seen k (e ∷ earlier)) ≡ true
  pub unmandated : IsMandated c post.plan post.steps → ⊥
  pub unopened : opened_in_vain (contactor_acts (seen k (e ∷ earlier))) ≡ false

-- 6: the watts that the last replies spell, and those told, stay within the limit together
pub record PassesLimit (c : ToldCodecs) (site : SitePlan) (earlier : List Entry) (e : Entry) : Type 0 where
  pub posts : List ToldPost
  pub are : ArePosts c site (e ∷ earlier) posts
  pub above : (site.limit < sum_by spelled_of posts) ⊎ (site.limit < sum_by told_of posts)

-- 7: a reply of the OK class that has watts spells those that are told
pub record SpellsOthers (c : ToldCodecs) (site : SitePlan) (earlier : List Entry) (e : Entry) : Type 0 where
  pub k : ℕ
  pub bytes : List ℕ
  pub taken : Bool
  pub post : ToldPost
  pub reading : Option Reading
  pub request : Request
  pub reply : Reply
  pub watts : SpelledWatts
  pub steps : List ToldStep
  pub talked : Talked
  pub entry_is : e ≡ entry.Sent k bytes taken
  pub is : IsPostOf c site (e ∷ earlier) k post
  pub steps_are : post.steps ≡ Sends reading bytes taken (Replied request reply watts) ∷ steps
  pub ok : IsOkClass reply.code
  pub course_is : (told_course post.plan post.steps).session ≡ Some talked
  pub others : AreTold post.plan talked.stage.dialect (told_of post) watts → ⊥

-- 8: at the end a live contactor was ordered open, behind the last thing that was heard or lost and behind the end of its session
abbrev pub ends_opened : ℕ → List Entry → Bool
ends_opened k [] = false
ends_opened k (entry.Heard heard bytes ∷ past) = false
ends_opened k (entry.Lost ∷ past) = false
ends_opened k (entry.Drove post given taken ∷ past) = (post == k && is_open given) || ends_opened k past
ends_opened k (entry.Ended post cause ∷ past) = not (post == k) && ends_opened k past
ends_opened k (e ∷ past) = ends_opened k past

pub record EndsLive (earlier : List Entry) (e : Entry) (behind : List Entry) : Type 0 where
  pub newest : IsNewest behind
  pub k : ℕ
  pub live_is : live (seen k (e ∷ earlier)) ≡ true
  pub left : ends_opened k (e ∷ earlier) ≡ false

-- 9: each reply is the one of its request
pub record AnswersNothing (c : ToldCodecs) (site : SitePlan) (earlier : List Entry) (e : Entry) : Type 0 where
  pub k : ℕ
  pub bytes : List ℕ
  pub taken : Bool
  pub post : ToldPost
  pub reading : Option Reading
  pub said : Said
  pub steps : List ToldStep
  pub entry_is : e ≡ entry.Sent k bytes taken
  pub is : IsPostOf c site (e ∷ earlier) k post
  pub steps_are : post.steps ≡ Sends reading bytes taken said ∷ steps
  pub nothing : (said ≡ Other) ⊎ (said ≡ Unasked)

-- 10: behind every block each word of a living session is answered
pub record LeavesWord (c : ToldCodecs) (site : SitePlan) (earlier : List Entry) (e : Entry) (behind : List Entry) : Type 0 where
  pub ends : EndsBlock behind (e ∷ earlier)
  pub k : ℕ
  pub post : ToldPost
  pub is : IsPostOf c site (e ∷ earlier) k post
  pub word : HeardWord
  pub next : IsNext c.words post.plan.dialects.items (seen_in post.steps) word
