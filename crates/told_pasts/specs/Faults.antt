-- Own: the first check of a foreign trace that fails. Lines are counted from 1, and the first names the format.
use Rattle.std.specs.Prelude.{◌≡◌, ◌<◌, ◌≤◌, ℕ, ◌+◌, List, ◌∷◌, ◌++◌, length, ◌⊎◌}
use Rattle.charge_world.specs.declared.entry.Entry.{Entry}
use Rattle.session_words.specs.declared.plan.SitePlan.{SitePlan}
use Rattle.told_pasts.specs.Checks.{ClosesUnmandated, FailsLive, PassesCause, ForgetsOpen, StaysClosed, PassesLimit, SpellsOthers, EndsLive, AnswersNothing, LeavesWord}
use Rattle.told_pasts.specs.Spelling.{ToldCodecs}

-- the checks by their numbers
pub data FailsAt (c : ToldCodecs) (site : SitePlan) (earlier : List Entry) (e : Entry) (behind : List Entry) : ℕ → Type 0 where
  Check1 : ClosesUnmandated c site earlier e → FailsAt c site earlier e behind 1
  Check2 : FailsLive c site earlier e → FailsAt c site earlier e behind 2
  Check3 : PassesCause c site earlier e behind → FailsAt c site earlier e behind 3
  Check4 : ForgetsOpen earlier e behind → FailsAt c site earlier e behind 4
  Check5 : StaysClosed c site earlier e behind → FailsAt c site earlier e behind 5
  Check6 : PassesLimit c site earlier e → FailsAt c site earlier e behind 6
  Check7 : SpellsOthers c site earlier e → FailsAt c site earlier e behind 7
  Check8 : EndsLive earlier e behind → FailsAt c site earlier e behind 8
  Check9 : AnswersNothing c site earlier e → FailsAt c site earlier e behind 9
  Check10 : LeavesWord c site earlier e behind → FailsAt c site earlier e behind 10

-- a check fails at a line of a past
pub record Fails (c : ToldCodecs) (site : SitePlan) (past : List Entry) (line check : ℕ) : Type 0 where
  pub behind : List Entry
  pub e : Entry
  pub earlier : List Entry
  pub past_is : past ≡ behind ++ e ∷ earlier
  pub line_is : line ≡ length earlier + 2
  pub fails : FailsAt c site earlier e behind check

abbrev pub IsEarlier : ℕ → ℕ → ℕ → ℕ → Type 0
IsEarlier line check other_line other_check = (line < other_line) ⊎ ((line ≡ other_line) × (check ≤ other_check))

-- of several the least line decides, and then the least check
pub record IsFirstFault (c : ToldCodecs) (site : SitePlan) (past : List Entry) (line check : ℕ) : Type 0 where
  pub is : Fails c site past line check
  pub first : (other_line other_check : ℕ) → Fails c site past other_line other_check → IsEarlier line check other_line other_check

abbrev pub IsFaultless : ToldCodecs → SitePlan → List Entry → Type 0
IsFaultless c site past = (line check : ℕ) → Fails c site past line check → ⊥
