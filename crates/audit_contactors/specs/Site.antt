-- Own: what is kept of the contactors of all posts. Pasts have their newest entry first.
use Rattle.std.specs.Prelude.{◌≡◌, ℕ, suc, ◌-◌, ◌<◌, Bool, true, false, not, ◌&&◌, List, ◌∷◌, length, Option, Some, None, slice_index_or}
use Rattle.std.specs.List.{AllByRecursion, list_any}
use Rattle.charge_world.specs.declared.entry.Entry.{Entry}
use Rattle.charge_world.specs.declared.entry.Entry.TheVariants as entry
use Rattle.session_words.specs.declared.phase.Standing.{Standing}
use Rattle.session_words.specs.declared.phase.Standing.TheVariants.{MustOpen}
use Rattle.trace_reading.specs.Readings.{IsOf}
use Rattle.told_pasts.specs.Checks.{is_heard, opens}
use Rattle.audit_contactors.specs.declared.values.ContactorValues.{ContactorValues}
use Rattle.audit_contactors.specs.declared.site.Contactors.{Contactors}
use Rattle.audit_contactors.specs.Changes.{at_first}
use Rattle.audit_contactors.specs.Values.{AreOf}

-- the values at place i, which are those of post i + 1
abbrev pub at : List ContactorValues → ℕ → ContactorValues
at posts i = slice_index_or posts i at_first

-- the values of posts 1 to 8 behind a past that names no other
pub record AreAllOf (past : List Entry) (s : Contactors) : Type 0 where
  pub eight : length s.posts ≡ 8
  pub each : (i : ℕ) → i < 8 → AreOf (suc i) past (at s.posts i)
  pub begun : s.begun ≡ list_any is_heard past
  pub of : AllByRecursion (IsOf 8) past

-- ---- off the values

-- the post that an entry is an act of
abbrev pub acting : Entry → Option ℕ
acting (entry.Heard heard bytes) = None
acting entry.Lost = None
acting (entry.Sent post bytes taken) = Some post
acting (entry.Answered post bytes taken) = Some post
acting (entry.Drove post given taken) = Some post
acting (entry.Dialed port taken) = None
acting (entry.Ended post cause) = Some post

abbrev pub has_failed : Standing → Bool
has_failed MustOpen = true
has_failed other = false

-- the post did nothing behind a block that ended with a failed order
abbrev pub is_forgotten : ContactorValues → Bool
is_forgotten v = not v.acted && has_failed v.stood

-- its contactor is live, and nothing opened it
abbrev pub is_left : ContactorValues → Bool
is_left v = v.live && not v.ends_opened

-- of the post that an entry is an act of
abbrev pub forgets_by : Option ℕ → Contactors → Entry → Bool
forgets_by None s e = false
forgets_by (Some post) s e = s.begun && not (opens e) && is_forgotten (at s.posts (post - 1))
