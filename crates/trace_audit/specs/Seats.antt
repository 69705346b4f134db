-- ISO 15118-2:2014, sections 7.8.3, 8.7 and 8.8; IEC 61851-1 and IEC 61851-23: the posts of a site in a foreign trace as they are audited.
use Rattle.std.specs.Prelude.{◌≡◌, ◌↔◌, ◌<◌, ℕ, suc, ◌+◌, List, ◌∷◌, length, take, drop, IsTrue, slice_index_or}
use Rattle.std.specs.List.{AllByRecursion}
use Rattle.charge_world.specs.declared.entry.Entry.{Entry}
use Rattle.session_words.specs.declared.plan.PostPlan.{PostPlan}
use Rattle.session_words.specs.declared.plan.SitePlan.{SitePlan}
use Rattle.trace_reading.specs.Readings.{IsOf}
use Rattle.told_pasts.specs.Site.{ToldPost, Shows, ArePosts}
use Rattle.told_pasts.specs.Spelling.{ToldCodecs}
use Rattle.told_pasts.specs.Steps.{ToldStep}
use Rattle.audit_causes.specs.Values.{opens_alone}
use Rattle.audit_checks.specs.Around.{AreSteps, WritesSo}
use Rattle.audit_mandates.specs.Values.{Starts}
use Rattle.audit_streams.specs.Streams.{IsEven}
use Rattle.audited_posts.specs.Posts.{AreOf, ShownAt, IsFree, Passes}
use Rattle.trace_audit.specs.declared.seats.Seat.{Seat}

-- this stands at place i
abbrev pub IsAt : {A : Type 0} → List A → ℕ → A → Type 0
IsAt xs i x = (i < length xs) × (x ≡ slice_index_or xs i x)

-- ---- one post

-- post k behind a past, by which it went these steps
pub record IsSeat (c : ToldCodecs) (plan : PostPlan) (k : ℕ) (past : List Entry) (steps : List ToldStep) (s : Seat) : Type 0 where
  pub are : AreOf c plan k past steps s.post
  pub alone_is : s.alone ≡ opens_alone k past

-- it takes an entry
pub record SeatPasses (c : ToldCodecs) (Share : ℕ → ℕ → Type 0) (plan : PostPlan) (k : ℕ) (past : List Entry) (steps : List ToldStep) (e : Entry) (old new : Seat) : Type 0 where
  pub passes : Passes c Share plan k past steps e new.passed.about new.post
  pub before_is : new.passed.before ≡ old.post.kept
  pub starting_is : IsTrue new.passed.starting ↔ Starts c plan steps
  pub alone_is : new.alone ≡ opens_alone k (e ∷ past)

abbrev pub Passing : ToldCodecs → PostPlan → ℕ → Entry → ℕ → Seat → Seat → Type 0
Passing c plan k e shown old new = (limit : ℕ) (before behind : List ToldPost) (past : List Entry) (steps : List ToldStep) → IsSeat c plan k past steps old
    → IsEven old.post.stream → IsFree c plan k past e → ShownAt c (Shows limit before behind) plan k steps e shown
    → SeatPasses c (Shows limit before behind) plan k past steps e old new

-- ---- all posts

-- behind a past
pub record AreSeated (c : ToldCodecs) (site : SitePlan) (past : List Entry) (posts : List ToldPost) (seats : List Seat) : Type 0 where
  pub posts_are : ArePosts c site past posts
  pub count : length seats ≡ length posts
  pub each : (i : ℕ) (post : ToldPost) (s : Seat) → IsAt posts i post → IsAt seats i s → IsSeat c post.plan (i + 1) past post.steps s

-- the watts that the word of an entry is shown, at whichever post it is an act of
abbrev pub ShownEach : ToldCodecs → ℕ → List ToldPost → Entry → ℕ → Type 0
ShownEach c limit posts e shown = (i : ℕ) (post : ToldPost) → IsAt posts i post
    → ShownAt c (Shows limit (take i posts) (drop (suc i) posts)) post.plan (i + 1) post.steps e shown

-- no more was sent at any of them than was asked
abbrev pub AreEven : List Seat → Type 0
AreEven seats = (i : ℕ) (s : Seat) → IsAt seats i s → IsEven s.post.stream

-- post k behind an entry, of which that is kept
pub record IsJudgedSeat (c : ToldCodecs) (site : SitePlan) (k : ℕ) (earlier : List Entry) (e : Entry) (post : ToldPost) (s : Seat) : Type 0 where
  pub steps : List ToldStep
  pub so : AreSteps c site post.plan k earlier e s.passed.about s.passed.before s.post.kept steps post.steps
  pub starting_is : IsTrue s.passed.starting ↔ Starts c post.plan steps
  pub seat : IsSeat c post.plan k (e ∷ earlier) post.steps s
  pub writes_is : WritesSo post.plan post.steps s.post.writes

-- and all posts
pub record AreJudged (c : ToldCodecs) (site : SitePlan) (earlier : List Entry) (e : Entry) (posts : List ToldPost) (seats : List Seat) : Type 0 where
  pub seated : AreSeated c site (e ∷ earlier) posts seats
  pub of : AllByRecursion (IsOf (length site.post.items)) (e ∷ earlier)
  pub each : (i : ℕ) (post : ToldPost) (s : Seat) → IsAt posts i post → IsAt seats i s → IsJudgedSeat c site (i + 1) earlier e post s
