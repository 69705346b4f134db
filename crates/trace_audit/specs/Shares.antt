-- Own: how the posts of a site share its watts in a foreign trace, off what is kept of them.
use Rattle.std.specs.Prelude.{◌≡◌, ℕ, ◌+◌, ◌-◌, min, List, ◌∷◌, ◌++◌, length, map, take, drop, replicate}
use Rattle.std.specs.List.{sum_by}
use Rattle.power_share.specs.Sharing.{Sharing, IsLevel}
use Rattle.post_spec.specs.Course.{ask_in, told_in}
use Rattle.told_pasts.specs.Site.{ToldPost, asked_of, told_of}
use Rattle.audit_course.specs.Values.{course_of}
use Rattle.trace_audit.specs.declared.seats.Seat.{Seat}

abbrev pub asked_at : Seat → ℕ
asked_at s = ask_in (course_of s.post.kept.course).session

abbrev pub told_at : Seat → ℕ
told_at s = told_in (course_of s.post.kept.course).session

abbrev pub spelled_at : Seat → ℕ
spelled_at s = s.post.kept.spelled

-- the first n posts ask, the others don't yet
abbrev pub asks_so_far : List Seat → ℕ → List ℕ
asks_so_far seats n = map asked_at (take n seats) ++ replicate (8 - n) 0

abbrev pub AsksOf : ℕ → List Seat → ℕ → Sharing → Type 0
AsksOf limit seats n s = s ≡ record { limit = limit; posts = length seats; asks = asks_so_far seats n; told = replicate 8 0 }

-- what post i is shown, if it asks for these watts
pub record IsShared (limit : ℕ) (seats : List Seat) (i asked shown : ℕ) : Type 0 where
  pub level : ℕ
  pub is_level : IsLevel limit (map asked_at (take i seats) ++ asked ∷ map asked_at (drop (i + 1) seats)) level
  pub least : shown ≡ min (min asked level) (limit - (sum_by told_at (take i seats) + sum_by told_at (drop (i + 1) seats)))

-- the posts before post i and behind it
pub record AreOthers (seats : List Seat) (i : ℕ) (before behind : List ToldPost) : Type 0 where
  pub asks_before : map asked_of before ≡ map asked_at (take i seats)
  pub asks_behind : map asked_of behind ≡ map asked_at (drop (i + 1) seats)
  pub told_before : sum_by told_of before ≡ sum_by told_at (take i seats)
  pub told_behind : sum_by told_of behind ≡ sum_by told_at (drop (i + 1) seats)
