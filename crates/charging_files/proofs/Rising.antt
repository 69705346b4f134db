-- Entries each of which follows the one before.
use Rattle.std.proofs.Common.{◌≡◌, ℕ, ◌+◌, ◌<◌, ◌≤◌, List, [], ◌∷◌, ◌++◌, length, Option, Some, None, refl, subst, arith}
use Rattle.std.specs.Prelude.{IsTrue}
use Rattle.std.proofs.lemmas.Bool.{ltb-true, eqb-true}
use Rattle.schedules.specs.declared.power.Step.{Step}
use Rattle.schedules.specs.Steps.{RiseWithin}
use Rattle.schedules.specs.Offers.{IsCalendar}
use Rattle.charging_files.specs.ScheduleKeys.{follows, IsEntry}

-- the start of the last of them
abbrev pub last_start : Option ℕ → List Step → Option ℕ
last_start before [] = before
last_start before (s ∷ steps) = last_start (Some s.start) steps

abbrev pub Follow : Option ℕ → List Step → Type 0
Follow before [] = Unit {0}
Follow before (s ∷ steps) = IsTrue (follows before s.start) × IsEntry s × Follow (Some s.start) steps

-- entries that follow one another, the last of which starts there
pub record AreEntries (steps : List Step) (before : Option ℕ) : Type 0 where
  pub last : before ≡ last_start None steps
  pub follow : Follow None steps

follow_push : (before : Option ℕ) (steps : List Step) (s : Step) → Follow before steps → IsTrue (follows (last_start before steps) s.start) → IsEntry s
    → Follow before (steps ++ s ∷ [])
follow_push before [] s h next within = (next, within, tt)
follow_push before (x ∷ steps) s h next within = (h.0, h.1, follow_push (Some x.start) steps s h.2 next within)

last_push : (before : Option ℕ) (steps : List Step) (s : Step) → Some s.start ≡ last_start before (steps ++ s ∷ [])
last_push before [] s = refl
last_push before (x ∷ steps) s = last_push (Some x.start) steps s

pub entries_more : (steps : List Step) (before : Option ℕ) (s : Step) → AreEntries steps before → IsTrue (follows before s.start) → IsEntry s
    → AreEntries (steps ++ s ∷ []) (Some s.start)
entries_more steps before s h next within = record {
  last = last_push None steps s;
  follow = follow_push None steps s h.follow (subst (λ b. IsTrue (follows b s.start)) h.last next) within;
}

rises : (b : ℕ) (steps : List Step) → Follow (Some b) steps → RiseWithin (b + 1) 86400 steps
rises b [] h = tt
rises b (s ∷ steps) h =
    let later : b < s.start = ltb-true b s.start h.0 in
    let day : s.start ≤ 86399 = h.1.start in
    (omega arith, omega arith, rises s.start steps h.2)

pub is_calendar : (steps : List Step) (before : Option ℕ) → AreEntries steps before → 1 ≤ length steps → length steps ≤ 24 → IsCalendar steps
is_calendar [] before h some few = absurd (omega (arith, some))
is_calendar (s ∷ steps) before h some few =
    let first : s.start ≡ 0 = eqb-true s.start 0 h.follow.0 in
    record { begins = first; rise = (omega arith, omega (arith, h.follow.1.start), rises s.start steps h.follow.2); few = few }
