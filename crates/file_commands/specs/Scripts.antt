-- Own: scripts of basic charging, and what is printed for their events.
use Rattle.std.specs.Prelude.{◌≡◌, ◌≢◌, ◌==◌, ◌⊎◌, ℕ, ◌+◌, ◌^◌, ◌<◌, ◌≤◌, false, List, [], ◌∷◌, ◌++◌, length, take, codes, decimal}
use Rattle.std.specs.List.{All, AllByRecursion, count_by, flat_map}
use Rattle.text_tokens.specs.Words.{line_text}
use Rattle.trace_text.specs.TraceText.{pilot_word, feedback_word}
use Rattle.pilot_basic.specs.declared.words.BasicEvent.{BasicEvent}
use Rattle.pilot_basic.specs.declared.words.BasicEvent.TheVariants.{Offer, GoDigital, DigitalEnded, Pilot, Feedback, Tick}
use Rattle.pilot_basic.specs.declared.words.BasicOrder.{BasicOrder}
use Rattle.pilot_basic.specs.declared.words.BasicOrder.TheVariants.{Open, Close, Duty}
use Rattle.pilot_basic.specs.Machine.{Step, IsInRange, IsRun, now_of}
use Rattle.file_commands.specs.declared.lines.ScriptLine.{ScriptLine}

-- ---- lines

abbrev pub event_words : BasicEvent → List (List ℕ)
event_words (Pilot state) = codes "pilot" ∷ pilot_word state ∷ []
event_words (Offer amps) = codes "offer" ∷ decimal amps ∷ []
event_words GoDigital = codes "digital" ∷ []
event_words DigitalEnded = codes "ended" ∷ []
event_words (Feedback closed) = codes "feedback" ∷ feedback_word closed ∷ []
event_words Tick = codes "tick" ∷ []

abbrev pub line_words : ScriptLine → List (List ℕ)
line_words line = decimal line.at ∷ event_words line.event

abbrev pub line_of : ScriptLine → List ℕ
line_of line = line_text (line_words line)

-- the lines that there are: a moment has 64 bits, and an offer is from 6 to 80 A
abbrev pub IsLine : ScriptLine → Type 0
IsLine line = (line.at < 2 ^ 64) × IsInRange line.event

abbrev pub AreLines : List ScriptLine → Type 0
AreLines lines = AllByRecursion IsLine lines

abbrev pub script_of : List ScriptLine → List ℕ
script_of lines = flat_map line_of lines

-- ---- orders

abbrev pub order_words : BasicOrder → List (List ℕ)
order_words Open = codes "open" ∷ []
order_words Close = codes "close" ∷ []
order_words (Duty d) = codes "duty" ∷ decimal d ∷ []

abbrev pub order_line : ℕ → BasicOrder → List ℕ
order_line now order = line_text (decimal now ∷ order_words order)

abbrev pub order_lines : ℕ → List BasicOrder → List ℕ
order_lines now orders = flat_map (order_line now) orders

-- ---- a script as a past

abbrev pub line_at : Step → ScriptLine
line_at step = record { at = step.at; event = step.event }

-- the lines of a past's events, the oldest first
abbrev pub lines_of : List Step → List ScriptLine
lines_of [] = []
lines_of (step ∷ past) = lines_of past ++ line_at step ∷ []

-- the lines of a past's orders, each at the moment as it counts
abbrev pub printed_of : List Step → List ℕ
printed_of [] = []
printed_of (step ∷ past) = printed_of past ++ order_lines (now_of (step ∷ past)) step.orders

-- the lines of a past of the machine
pub record IsRead (past : List Step) (script : List ℕ) : Type 0 where
  pub run : IsRun past
  pub lines : AreLines (lines_of past)
  pub script_is : script ≡ script_of (lines_of past)

-- this is printed for a text
abbrev pub IsReadSo : List ℕ → List ℕ → Type 0
IsReadSo script printed = (past : List Step) × IsRead past script × (printed ≡ printed_of past)

-- ---- refusals

-- a text is cut at its first line feed
pub record IsCut (text front rest : List ℕ) : Type 0 where
  pub whole : text ≡ front ++ 10 ∷ rest
  pub first : All (λ byte. (byte == 10) ≡ false) front

-- behind these lines more follows that doesn't begin with a line; lines are counted from 1
pub record IsBadBehind (lines : List ScriptLine) (rest script : List ℕ) (number : ℕ) : Type 0 where
  pub good : AreLines lines
  pub some : rest ≢ []
  pub front : script ≡ script_of lines ++ rest
  pub bad : (line : ScriptLine) (more : List ℕ) → IsLine line → rest ≢ line_of line ++ more
  pub count : number ≡ length lines + 1

abbrev pub IsBadLine : List ℕ → ℕ → Type 0
IsBadLine script number = (lines : List ScriptLine) × (rest : List ℕ) × IsBadBehind lines rest script number

-- a script has at most 65,536 bytes
abbrev pub longest : ℕ
longest = 65536

pub record IsPrinted (script printed : List ℕ) : Type 0 where
  pub within : length script ≤ longest
  pub read : IsReadSo script printed

-- the line in which the limit is passed
pub record IsOverLimit (script : List ℕ) (number : ℕ) : Type 0 where
  pub over : longest < length script
  pub line : number ≡ count_by (λ byte. byte == 10) (take longest script) + 1

pub record IsBadWithin (script : List ℕ) (number : ℕ) : Type 0 where
  pub within : length script ≤ longest
  pub bad : IsBadLine script number

-- the line at which a text is refused
abbrev pub IsRefusedAt : List ℕ → ℕ → Type 0
IsRefusedAt script number = IsOverLimit script number ⊎ IsBadWithin script number
