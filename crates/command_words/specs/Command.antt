-- Own: the words of the program's commands. A word that begins with `-` is in none.
use Rattle.std.specs.Prelude.{◌≡◌, ◌==◌, ◌<◌, ◌≤◌, ◌^◌, ℕ, Bool, not, true, if◌then◌else◌, List, [], ◌∷◌, Option, Some, None, codes, decimal}
use Rattle.std.specs.List.{list_all}
use Rattle.std.specs.Str.{bytes_eq}
use Rattle.message_dialects.specs.declared.dialect.MessageDialect.{MessageDialect}
use Rattle.message_dialects.specs.declared.dialect.MessageDialect.TheVariants.{App, Iso, Din}
use Rattle.command_words.specs.declared.reading.Command.{Command}
use Rattle.command_words.specs.declared.reading.Command.TheVariants.{Station, Car, Replay, Audit, Talk, Generate, Decode, Encode, Basic, Migrate, Offer, Schedule, Services, Pick}
use Rattle.command_words.specs.declared.reading.WordsFault.{WordsFault}
use Rattle.command_words.specs.declared.reading.WordsFault.TheVariants.{NoCommand, Memory}

-- the word does not begin with `-` (45)
abbrev pub is_plain : List ℕ → Bool
is_plain [] = true
is_plain (byte ∷ rest) = not (byte == 45)

-- the word of a dialect
abbrev pub dialect_word : MessageDialect → List ℕ
dialect_word App = codes "app"
dialect_word Iso = codes "iso"
dialect_word Din = codes "din"

-- the dialect of a word
abbrev pub dialect_named : List ℕ → Option MessageDialect
dialect_named word =
    if bytes_eq word (dialect_word App) then Some App
    else if bytes_eq word (dialect_word Iso) then Some Iso
    else if bytes_eq word (dialect_word Din) then Some Din
    else None

-- what may be asked for: to serve the posts of the plan in a file; to drive a car by the plan in a file; to run the posts of the plan in a file
-- over the hearings of the trace in another; to judge the trace in one file for the plan in another; that the station of the plan in one file and the
-- car of the plan in another talk over a pipe in memory, by a seed; that so many sessions follow one another there, by a seed; the tree text of a
-- payload of a dialect; the payload of a tree text of a dialect; the orders for the script in a file; to carry the trace of an earlier format in a file
-- over; what is offered for the day from a moment on by the calendar in a file; the charging profile for the need in a file within the schedules of a
-- payload; the payload of the reply for a service of the catalogue in a file; and which set of the parameters of a payload is picked by what is wanted
pub data Asked : Type 0 where
  station : (plan : List ℕ) → Asked
  car : (plan : List ℕ) → Asked
  replay : (plan trace : List ℕ) → Asked
  audit : (plan trace : List ℕ) → Asked
  talk : (station_plan car_plan : List ℕ) (seed : ℕ) → Asked
  generate : (seed count : ℕ) → Asked
  decode : (dialect : MessageDialect) (hex : List ℕ) → Asked
  encode : (dialect : MessageDialect) (text : List ℕ) → Asked
  basic : (script : List ℕ) → Asked
  migrate : (trace : List ℕ) → Asked
  offer : (calendar : List ℕ) (moment : ℕ) → Asked
  schedule : (need hex : List ℕ) → Asked
  services : (catalogue : List ℕ) (id : ℕ) → Asked
  pick : (want hex : List ℕ) → Asked

-- the words that ask for it
abbrev pub words_of : Asked → List (List ℕ)
words_of (station plan) = codes "station" ∷ plan ∷ []
words_of (car plan) = codes "car" ∷ plan ∷ []
words_of (replay plan trace) = codes "replay" ∷ plan ∷ trace ∷ []
words_of (audit plan trace) = codes "audit" ∷ plan ∷ trace ∷ []
words_of (talk site vehicle seed) = codes "talk" ∷ site ∷ vehicle ∷ decimal seed ∷ []
words_of (generate seed count) = codes "generate" ∷ decimal seed ∷ decimal count ∷ []
words_of (decode dialect hex) = codes "decode" ∷ dialect_word dialect ∷ hex ∷ []
words_of (encode dialect text) = codes "encode" ∷ dialect_word dialect ∷ text ∷ []
words_of (basic script) = codes "basic" ∷ script ∷ []
words_of (migrate trace) = codes "migrate" ∷ trace ∷ []
words_of (offer calendar moment) = codes "offer" ∷ calendar ∷ decimal moment ∷ []
words_of (schedule need hex) = codes "schedule" ∷ need ∷ hex ∷ []
words_of (services catalogue id) = codes "services" ∷ catalogue ∷ decimal id ∷ []
words_of (pick want hex) = codes "pick" ∷ want ∷ hex ∷ []

-- a day has so many seconds
abbrev pub day : ℕ
day = 86400

-- there are so many identifiers of services
abbrev pub shorts : ℕ
shorts = 65536

-- there are so many seeds
abbrev pub seeds : ℕ
seeds = 2 ^ 64

-- there are at most so many sessions
abbrev pub most_sessions : ℕ
most_sessions = 1000

-- a number is within its bounds: a seed has 64 bits, there are 1 to 1,000 sessions, a moment is a second of a day, an identifier has 16 bits
abbrev pub IsWithin : Asked → Type 0
IsWithin (talk site vehicle seed) = seed < seeds
IsWithin (generate seed count) = (seed < seeds) × (1 ≤ count) × (count ≤ most_sessions)
IsWithin (offer calendar moment) = moment < day
IsWithin (services catalogue id) = id < shorts
IsWithin _ = Unit {0}

-- these words ask for it
pub record Asks (words : List (List ℕ)) (asked : Asked) : Type 0 where
  pub words_are : words ≡ words_of asked
  pub within : IsWithin asked
  pub plain : list_all is_plain words ≡ true

abbrev pub IsStation : List (List ℕ) → List ℕ → Type 0
IsStation words plan = Asks words (station plan)

abbrev pub IsCar : List (List ℕ) → List ℕ → Type 0
IsCar words plan = Asks words (car plan)

abbrev pub IsReplay : List (List ℕ) → List ℕ → List ℕ → Type 0
IsReplay words plan trace = Asks words (replay plan trace)

abbrev pub IsAudit : List (List ℕ) → List ℕ → List ℕ → Type 0
IsAudit words plan trace = Asks words (audit plan trace)

abbrev pub IsTalk : List (List ℕ) → List ℕ → List ℕ → ℕ → Type 0
IsTalk words site vehicle seed = Asks words (talk site vehicle seed)

abbrev pub IsGenerate : List (List ℕ) → ℕ → ℕ → Type 0
IsGenerate words seed count = Asks words (generate seed count)

abbrev pub IsDecode : List (List ℕ) → MessageDialect → List ℕ → Type 0
IsDecode words dialect hex = Asks words (decode dialect hex)

abbrev pub IsEncode : List (List ℕ) → MessageDialect → List ℕ → Type 0
IsEncode words dialect text = Asks words (encode dialect text)

abbrev pub IsBasic : List (List ℕ) → List ℕ → Type 0
IsBasic words script = Asks words (basic script)

abbrev pub IsMigrate : List (List ℕ) → List ℕ → Type 0
IsMigrate words trace = Asks words (migrate trace)

abbrev pub IsOffer : List (List ℕ) → List ℕ → ℕ → Type 0
IsOffer words calendar moment = Asks words (offer calendar moment)

abbrev pub IsSchedule : List (List ℕ) → List ℕ → List ℕ → Type 0
IsSchedule words need hex = Asks words (schedule need hex)

abbrev pub IsServices : List (List ℕ) → List ℕ → ℕ → Type 0
IsServices words catalogue id = Asks words (services catalogue id)

abbrev pub IsPick : List (List ℕ) → List ℕ → List ℕ → Type 0
IsPick words want hex = Asks words (pick want hex)

-- ---- what is read

-- what a command is asked for by
abbrev pub asked_of : Command → Asked
asked_of (Station plan) = station plan.now
asked_of (Car plan) = car plan.now
asked_of (Replay plan trace) = replay plan.now trace.now
asked_of (Audit plan trace) = audit plan.now trace.now
asked_of (Talk site vehicle seed) = talk site.now vehicle.now seed
asked_of (Generate seed count) = generate seed count
asked_of (Decode dialect hex) = decode dialect hex.now
asked_of (Encode dialect text) = encode dialect text.now
asked_of (Basic script) = basic script.now
asked_of (Migrate trace) = migrate trace.now
asked_of (Offer calendar moment) = offer calendar.now moment
asked_of (Schedule need hex) = schedule need.now hex.now
asked_of (Services catalogue id) = services catalogue.now id
asked_of (Pick want hex) = pick want.now hex.now

-- the words are this command
abbrev pub IsCommand : List (List ℕ) → Command → Type 0
IsCommand words command = Asks words (asked_of command)

-- the words are none
abbrev pub IsNoCommand : List (List ℕ) → Type 0
IsNoCommand words = (asked : Asked) → Asks words asked → ⊥

-- the words are none. Want of memory comes freely
abbrev pub HasWordsFault : List (List ℕ) → WordsFault → Type 0
HasWordsFault words NoCommand = IsNoCommand words
HasWordsFault words Memory = Unit {0}
