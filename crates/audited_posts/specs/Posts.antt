-- ISO 15118-2:2014, sections 7.8.3, 8.7 and 8.8; IEC 61851-1 and IEC 61851-23: one post of a foreign trace as it is audited, and what an entry makes
-- of it.
use Rattle.std.specs.Prelude.{◌≡◌, ◌≤◌, ◌<◌, ℕ, max, ◌==◌, Bool, true, List, ◌∷◌, length, Option, Some, None, MatchBool}
use Rattle.charge_world.specs.declared.entry.Entry.{Entry}
use Rattle.charge_world.specs.declared.entry.Entry.TheVariants as entry
use Rattle.charge_world.specs.declared.offer.Dialect.{Dialect}
use Rattle.session_words.specs.declared.plan.PostPlan.{PostPlan}
use Rattle.post_spec.specs.Codecs.{Judged, Codecs}
use Rattle.post_spec.specs.Course.{Talked, read_by, told_in}
use Rattle.post_spec.specs.Steps.{Act, Give, Send, End, Seen, Reading, moment, event_at, seen}
use Rattle.post_spec.specs.Steps as acts
use Rattle.told_pasts.specs.Course.{told_course}
use Rattle.told_pasts.specs.Reading.{IsJudged, IsShown}
use Rattle.told_pasts.specs.Site.{IsStep}
use Rattle.told_pasts.specs.Spelling.{ToldCodecs}
use Rattle.told_pasts.specs.Steps.{ToldStep, Hears, seen_in}
use Rattle.audit_checks.specs.Around.{WritesSo}
use Rattle.audit_course.specs.Values.{IsRead}
use Rattle.audit_course.specs.declared.words.NextWord.{NextWord}
use Rattle.audit_posts.specs.declared.stepping.About.{About}
use Rattle.audit_posts.specs.Steps.{StepIs}
use Rattle.audit_posts.specs.Values as posts
use Rattle.audit_records.specs.Records.{JudgesWord}
use Rattle.audit_records.specs.Sayings.{AnswersSo}
use Rattle.audit_records.specs.declared.answers.Answer.{Answer}
use Rattle.audit_streams.specs.Streams as streams
use Rattle.audit_streams.specs.Streams.{NoneIsNext, IsAsked, IsEven}
use Rattle.audit_streams.specs.declared.reader.ToldWatts.{ToldWatts}
use Rattle.audit_streams.specs.declared.streams.ToldStream.{ToldStream}
use Rattle.audited_posts.specs.declared.posts.AuditedPost.{AuditedPost}

-- where the newest step is a reply, its watts are those that the post is told behind it, or aren't, as far as watts can be written
abbrev pub WritesTold : PostPlan → List ToldStep → Bool → Type 0
WritesTold plan steps writes = told_in (told_course plan steps).session < 32768000 → WritesSo plan steps writes

-- post k behind a past, by which it went these steps
pub record AreOf (c : ToldCodecs) (plan : PostPlan) (k : ℕ) (past : List Entry) (steps : List ToldStep) (v : AuditedPost) : Type 0 where
  pub kept_are : posts.AreOf c plan k past steps v.kept
  pub stream_are : streams.AreOf c.words plan.dialects.items (seen_in steps) v.stream
  pub writes_is : WritesTold plan steps v.writes

-- ---- which word an entry judges for post k

abbrev pub JudgesAt : ToldCodecs → PostPlan → ℕ → List ToldStep → Entry → Option NextWord → Type 0
JudgesAt c plan k steps (entry.Heard heard bytes) word = word ≡ None
JudgesAt c plan k steps entry.Lost word = word ≡ None
JudgesAt c plan k steps (entry.Sent post bytes taken) word = MatchBool (post == k) (JudgesWord c plan steps (Send bytes) word) (word ≡ None)
JudgesAt c plan k steps (entry.Answered post bytes taken) word = word ≡ None
JudgesAt c plan k steps (entry.Drove post given taken) word = MatchBool (post == k) (JudgesWord c plan steps (Give given) word) (word ≡ None)
JudgesAt c plan k steps (entry.Dialed port taken) word = word ≡ None
JudgesAt c plan k steps (entry.Ended post cause) word = word ≡ None

-- and the watts that it is shown
abbrev pub ShownFor : ToldCodecs → (ℕ → ℕ → Type 0) → PostPlan → List ToldStep → Act → ℕ → Type 0
ShownFor c Share plan steps act shown = (judged : Judged) → IsJudged c plan steps act judged → IsShown Share plan steps judged shown

abbrev pub ShownAt : ToldCodecs → (ℕ → ℕ → Type 0) → PostPlan → ℕ → List ToldStep → Entry → ℕ → Type 0
ShownAt c Share plan k steps (entry.Heard heard bytes) shown = Unit {0}
ShownAt c Share plan k steps entry.Lost shown = Unit {0}
ShownAt c Share plan k steps (entry.Sent post bytes taken) shown = MatchBool (post == k) (ShownFor c Share plan steps (Send bytes) shown) (Unit {0})
ShownAt c Share plan k steps (entry.Answered post bytes taken) shown = Unit {0}
ShownAt c Share plan k steps (entry.Drove post given taken) shown = MatchBool (post == k) (ShownFor c Share plan steps (Give given) shown) (Unit {0})
ShownAt c Share plan k steps (entry.Dialed port taken) shown = Unit {0}
ShownAt c Share plan k steps (entry.Ended post cause) shown = Unit {0}

-- what a session was told last, as far as that can be written
abbrev pub TellsLast : Option Talked → ToldWatts → Type 0
TellsLast session told = (t : Talked) → session ≡ Some t → t.stage.told < 32768000 → told ≡ record { watts = t.stage.told; dialect = t.stage.dialect }

-- and behind an act for which this word was judged, and shown so many watts
abbrev pub IsToldBehind : PostPlan → List ToldStep → Option NextWord → ℕ → ToldWatts → Type 0
IsToldBehind plan steps word shown told = (reading : Option Reading) → IsRead word shown reading
    → TellsLast (read_by (told_course plan steps).session (seen_in steps) (told_course plan steps) plan reading).session told

-- what bytes say that an entry sends, where the post was told these watts
abbrev pub SaysAt : ToldCodecs → PostPlan → ToldWatts → ℕ → List Seen → Entry → Answer → Type 0
SaysAt c plan told k past (entry.Heard heard bytes) a = Unit {0}
SaysAt c plan told k past entry.Lost a = Unit {0}
SaysAt c plan told k past (entry.Sent post bytes taken) a = MatchBool (post == k) (AnswersSo c plan told past bytes a) (Unit {0})
SaysAt c plan told k past (entry.Answered post bytes taken) a = Unit {0}
SaysAt c plan told k past (entry.Drove post given taken) a = Unit {0}
SaysAt c plan told k past (entry.Dialed port taken) a = Unit {0}
SaysAt c plan told k past (entry.Ended post cause) a = Unit {0}

-- ---- the stream

-- a hearing has at most so many bytes
abbrev pub IsShort : Entry → Type 0
IsShort (entry.Heard heard bytes) = length bytes ≤ 4096
IsShort other = Unit {0}

-- before a hearing no word is left
abbrev pub IsFree : ToldCodecs → PostPlan → ℕ → List Entry → Entry → Type 0
IsFree c plan k past (entry.Heard heard bytes) = NoneIsNext c.words plan.dialects.items (seen k past)
IsFree c plan k past other = Unit {0}

-- and bytes that are sent answer a word
abbrev pub IsAnswer : Codecs → List Dialect → ℕ → List Entry → Entry → Type 0
IsAnswer c offers k past (entry.Sent post bytes taken) = MatchBool (post == k) (IsAsked c offers (seen k past)) (Unit {0})
IsAnswer c offers k past other = Unit {0}

-- the stream behind an entry. Where it answers a word, no more was sent than was asked
pub record StreamsOn (c : Codecs) (offers : List Dialect) (k : ℕ) (past : List Entry) (e : Entry) (v : ToldStream) : Type 0 where
  pub stream_is : streams.AreOf c offers (seen k (e ∷ past)) v
  pub even : IsAnswer c offers k past e → IsEven v

-- ---- the steps behind an entry

abbrev pub Acts : ToldCodecs → (ℕ → ℕ → Type 0) → PostPlan → List ToldStep → Act → Bool → List ToldStep → Type 0
Acts c Share plan steps act taken later =
    (step : ToldStep) × IsStep c Share (record { plan = plan; steps = steps }) act taken step × (later ≡ step ∷ steps)

abbrev pub Goes : ToldCodecs → (ℕ → ℕ → Type 0) → PostPlan → ℕ → List Entry → List ToldStep → Entry → List ToldStep → Type 0
Goes c Share plan k past steps (entry.Heard heard bytes) later = later ≡ Hears (max (moment past) heard.at) (event_at k heard.what bytes) ∷ steps
Goes c Share plan k past steps entry.Lost later = later ≡ steps
Goes c Share plan k past steps (entry.Sent post bytes taken) later = MatchBool (post == k) (Acts c Share plan steps (Send bytes) taken later) (later ≡ steps)
Goes c Share plan k past steps (entry.Answered post bytes taken) later = MatchBool (post == k) (Acts c Share plan steps (acts.Answer bytes) taken later) (later ≡ steps)
Goes c Share plan k past steps (entry.Drove post given taken) later = MatchBool (post == k) (Acts c Share plan steps (Give given) taken later) (later ≡ steps)
Goes c Share plan k past steps (entry.Dialed port taken) later = later ≡ steps
Goes c Share plan k past steps (entry.Ended post cause) later = MatchBool (post == k) (Acts c Share plan steps (End cause) true later) (later ≡ steps)

-- the post goes these steps, of which that is told, and is kept so
pub record Passes (c : ToldCodecs) (Share : ℕ → ℕ → Type 0) (plan : PostPlan) (k : ℕ) (past : List Entry) (steps : List ToldStep) (e : Entry) (a : About) (v : AuditedPost) : Type 0 where
  pub later : List ToldStep
  pub goes : Goes c Share plan k past steps e later
  pub told : StepIs c plan k past steps a e later
  pub are : AreOf c plan k (e ∷ past) later v
  -- where it answers a word, no more was sent than was asked
  pub even : IsAnswer c.words plan.dialects.items k past e → IsEven v.stream
