-- Own: what an end knows of a run.
use Rattle.std.specs.Prelude.{◌≡◌, ℕ, ◌+◌, ◌-◌, ◌^◌, max, min, Bool, true, false, List, [], ◌∷◌, Option, Some, None}
use Rattle.charge_world.specs.declared.entry.Entry.{Entry}
use Rattle.charge_world.specs.declared.entry.Entry.TheVariants as entry
use Rattle.charge_world.specs.declared.heard.Heard.{Heard}
use Rattle.post_spec.specs.Steps.{moment}
use Rattle.station_spec.specs.Blocks.{is_last, is_over, hearings}
use Rattle.endpoint.specs.declared.hearing.SoFar.{SoFar}
use Rattle.endpoint.specs.Telling.{IsTraced}

-- the newest hearing
abbrev pub newest : List Entry → Option Entry
newest [] = None
newest (entry.Heard heard bytes ∷ past) = Some (entry.Heard heard bytes)
newest (entry.Lost ∷ past) = Some entry.Lost
newest (entry.Sent post bytes taken ∷ past) = newest past
newest (entry.Answered post bytes taken ∷ past) = newest past
newest (entry.Drove post order taken ∷ past) = newest past
newest (entry.Dialed port taken ∷ past) = newest past
newest (entry.Ended post cause ∷ past) = newest past

-- the newest hearing and its moment, how many there were, whether it was the last one, and until when each of them waited
pub record Known : Type 0 where
  pub newest_hearing : Option Entry
  pub clock : ℕ
  pub heard : ℕ
  pub last : Bool
  pub untils : List ℕ

-- but for the moments that were waited for, it is what the past tells
pub record IsKnown (k : Known) (past : List Entry) : Type 0 where
  pub newest_is : newest past ≡ k.newest_hearing
  pub clock_is : moment past ≡ k.clock
  pub heard_is : hearings past ≡ k.heard
  pub last_is : is_last past ≡ k.last

-- before anything was heard
abbrev pub known_first : Known
known_first = record { newest_hearing = None; clock = 0; heard = 0; last = false; untils = [] }

-- behind a hearing that waited until this moment
abbrev pub known_behind : Known → Heard → List ℕ → ℕ → Known
known_behind k heard bytes wait = record {
  newest_hearing = Some (entry.Heard heard bytes);
  clock = max k.clock heard.at;
  heard = k.heard + 1;
  last = is_over heard.what;
  untils = wait ∷ k.untils;
}

-- behind a lost one
abbrev pub known_lost : Known → ℕ → Known
known_lost k wait = record {
  newest_hearing = Some entry.Lost;
  clock = k.clock;
  heard = k.heard + 1;
  last = true;
  untils = wait ∷ k.untils;
}

-- the trace holds the text of the past but for the line of its newest entry
pub record AwaitsLine (hearing : ℕ) (e : Entry) (past : List Entry) (text : List ℕ) : Type 0 where
  pub earlier : List Entry
  pub past_is : past ≡ e ∷ earlier
  pub traced : IsTraced hearing earlier text

-- what an end counts of it
abbrev pub nothing_heard : SoFar
nothing_heard = record { moment = 0; hearing = 0 }

-- one more; a count stands still at the end of its type
abbrev pub one_more : ℕ → ℕ
one_more n = min (n + 1) (2 ^ 64 - 1)
