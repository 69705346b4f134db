-- Own: how the posts of a site share its power. All amounts are watts, and posts are numbered from 1.
use Rattle.std.specs.Prelude.{◌≡◌, ℕ, ◌-◌, ◌≤◌, List, [], ◌∷◌, min, max, fold, sum, sum_by, replicate, slice_index, slice_set}

-- What is shared: the site's limit, the number of posts, and for each of eight places, the first that of
-- post 1, the watts that the post asks for and those that it was told last. 0 stands for a post that does not
-- ask, was not told, or does not exist.
pub record Sharing : Type 0 where
  pub limit : ℕ
  pub posts : ℕ
  pub asks : List ℕ
  pub told : List ℕ

-- what stands at a post's place
abbrev pub at_post : List ℕ → ℕ → ℕ
at_post watts post = slice_index watts (post - 1)

-- the list with n at a post's place
abbrev pub with_post : List ℕ → ℕ → ℕ → List ℕ
with_post watts post n = slice_set watts (post - 1) n

-- one of the site's posts
abbrev pub IsPost : Sharing → ℕ → Type 0
IsPost s post = (1 ≤ post) × (post ≤ s.posts)

-- a site where nobody asks and nobody was told
abbrev pub unasked : ℕ → ℕ → Sharing
unasked limit posts = record { limit = limit; posts = posts; asks = replicate 8 0; told = replicate 8 0 }

-- the post asks for n watts
abbrev pub asked : Sharing → ℕ → ℕ → Sharing
asked s post n = record s { asks = with_post s.asks post n }

-- the post was told n watts
abbrev pub told_so : Sharing → ℕ → ℕ → Sharing
told_so s post n = record s { told = with_post s.told post n }

-- the post asks no more, and its watts are free
abbrev pub released : Sharing → ℕ → Sharing
released s post = record s { asks = with_post s.asks post 0; told = with_post s.told post 0 }

abbrev pub greatest_ask : List ℕ → ℕ
greatest_ask asks = fold max 0 asks

-- what the posts take together where each takes what it asks for, but at most n
abbrev pub taken_up_to : ℕ → List ℕ → ℕ
taken_up_to n asks = sum_by (λ ask. min ask n) asks

-- n is at most the greatest ask, and the posts may each take up to n
pub record IsBearable (limit : ℕ) (asks : List ℕ) (n : ℕ) : Type 0 where
  pub asked : n ≤ greatest_ask asks
  pub borne : taken_up_to n asks ≤ limit

-- the level: the greatest of these numbers
pub record IsLevel (limit : ℕ) (asks : List ℕ) (n : ℕ) : Type 0 where
  pub bearable : IsBearable limit asks n
  pub greatest : (m : ℕ) → IsBearable limit asks m → m ≤ n

-- what the other posts were told together
abbrev pub told_to_others : List ℕ → ℕ → ℕ
told_to_others told post = sum (with_post told post 0)

-- what a post is shown: the least of its ask, the level, and the limit less what the others were told
pub record IsShare (limit : ℕ) (asks told : List ℕ) (post n : ℕ) : Type 0 where
  pub level : ℕ
  pub is_level : IsLevel limit asks level
  pub least : n ≡ min (min (at_post asks post) level) (limit - told_to_others told post)

abbrev pub IsShown : Sharing → ℕ → ℕ → Type 0
IsShown s post n = IsShare s.limit s.asks s.told post n

-- a call that changes the sharing; a tell with the watts that it answered
pub data Call : Type 0 where
  Ask : (post watts : ℕ) → Call
  Tell : (post watts : ℕ) → Call
  Release : (post : ℕ) → Call

abbrev pub After : Call → Sharing → Sharing → Type 0
After (Ask post watts) old new = new ≡ asked old post watts
After (Tell post watts) old new = IsShown old post watts × (new ≡ told_so old post watts)
After (Release post) old new = new ≡ released old post

-- what stands after these calls, the newest first
abbrev pub Reached : ℕ → ℕ → List Call → Sharing → Type 0
Reached limit posts [] s = s ≡ unasked limit posts
Reached limit posts (call ∷ calls) s = (before : Sharing) × Reached limit posts calls before × After call before s
