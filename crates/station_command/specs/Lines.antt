-- Own: the lines that a station prints, one for each post: `post K sessions N closed M causes HEX8` and a line feed. HEX8 is the set
-- of causes in eight lower-case hexadecimal digits, bit c for cause c.
use Rattle.std.specs.Prelude.{◌≡◌, ◌<◌, ◌⊎◌, ℕ, suc, List, [], ◌∷◌, ◌++◌, Option, IfSome, IsSomeAnd, map, codes, decimal}
use Rattle.std.specs.Int.{w32, to_be_bytes}
use Rattle.hex.specs.Hex.{encode_lower}
use Rattle.charge_world.specs.declared.entry.Entry.{Entry}
use Rattle.charge_world.specs.Outside.{Appends, AppendsSome}
use Rattle.site_posts.specs.declared.place.Place.{Place}
use Rattle.site_posts.specs.declared.report.PostReport.{PostReport}
use Rattle.site_laws.specs.Ended.{Ended}
use Rattle.site_laws.specs.Ended.TheVariants as ended
use Rattle.site_laws.specs.Ending.{Counts}
use Rattle.command_status.specs.declared.status.Status.{Status}
use Rattle.command_status.specs.declared.status.Status.TheVariants as status
use Rattle.command_status.specs.FaultLines.{Tells, turns_line, wire_line}

abbrev pub hex8 : ℕ → List ℕ
hex8 n = encode_lower (to_be_bytes w32 n)

unfoldable pub report_line : ℕ → PostReport → List ℕ
report_line post report =
    codes "post " ++ decimal post ++ codes " sessions " ++ decimal report.sessions ++ codes " closed " ++ decimal report.closed
    ++ codes " causes " ++ hex8 report.causes.0 ++ codes "\n"

-- the lines of the posts from k on
abbrev pub report_lines : ℕ → List PostReport → List ℕ
report_lines k [] = []
report_lines k (report ∷ reports) = report_line k report ++ report_lines (suc k) reports

-- what the posts of a site report
abbrev pub reports_of : List Place → List PostReport
reports_of places = map (λ place. place.report) places

-- the reports of the posts from k on count the past
abbrev pub CountFrom : ℕ → List PostReport → List Entry → Type 0
CountFrom k [] past = Unit {0}
CountFrom k (report ∷ reports) past = Counts k report past × CountFrom (suc k) reports past

-- ---- the output, whose bytes went from `before` to `after` and whose count of faults from n to m

-- the lines were written, and behind them the line `turns`, or a front of it where the count of faults rose
pub record TellsTurns (before after : Option (List ℕ)) (n m : ℕ) (lines : List ℕ) : Type 0 where
  pub front : IfSome after (λ new. IsSomeAnd before (λ old. (front : List ℕ) × (rest : List ℕ) × (turns_line ≡ front ++ rest) × (new ≡ old ++ lines ++ front)))
  pub whole : m ≡ n → Appends before after (lines ++ turns_line)

-- a line couldn't be written: the output holds those before it and a front of it
pub record IsCutOff (s : Status) (before after : Option (List ℕ)) (n m : ℕ) (lines : List ℕ) : Type 0 where
  pub status_is : s ≡ status.SinkFault
  pub risen : n < m
  pub front : AppendsSome before after lines

-- the status of a way in which serving ended, and what is printed then
abbrev pub Concludes : Ended → List PostReport → Status → Option (List ℕ) → Option (List ℕ) → ℕ → ℕ → Type 0
Concludes ended.Over reports s before after n m =
    ((s ≡ status.Done) × Appends before after (report_lines 1 reports) × (m ≡ n)) ⊎ IsCutOff s before after n m (report_lines 1 reports)
Concludes ended.Turns reports s before after n m =
    ((s ≡ status.TurnsSpent) × TellsTurns before after n m (report_lines 1 reports)) ⊎ IsCutOff s before after n m (report_lines 1 reports)
Concludes ended.Lost reports s before after n m = (s ≡ status.WireFault) × Tells before after n m wire_line
Concludes ended.TraceFault reports s before after n m = (s ≡ status.SinkFault) × (after ≡ before) × (m ≡ n)
