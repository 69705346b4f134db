-- Own: the words of an entry, and its line in a trace. An entry has at most seven words.
use Rattle.std.specs.Prelude.{◌≡◌, ℕ, ◌^◌, ◌<◌, ◌≤◌, Bool, true, false, if◌then◌else◌, List, [], ◌∷◌, length, codes, decimal}
use Rattle.hex.specs.Hex.{encode_lower, IsBytes}
use Rattle.charge_world.specs.declared.entry.Entry.{Entry}
use Rattle.charge_world.specs.declared.entry.Entry.TheVariants as entry
use Rattle.charge_world.specs.declared.heard.What.{What}
use Rattle.charge_world.specs.declared.heard.What.TheVariants.{Came, Bytes, Gone, Datagram, Plant, Tick, Over}
use Rattle.charge_world.specs.declared.heard.PlantEvent.{PlantEvent}
use Rattle.charge_world.specs.declared.heard.PlantEvent.TheVariants.{Pilot, Isolation, Measured, Feedback, Paid, Emergency, StopAsked, RenewAsked}
use Rattle.charge_world.specs.declared.heard.PilotState.{PilotState}
use Rattle.charge_world.specs.declared.heard.PilotState.TheVariants as pilot
use Rattle.charge_world.specs.declared.heard.IsolationLevel.{IsolationLevel}
use Rattle.charge_world.specs.declared.heard.IsolationLevel.TheVariants as isolation
use Rattle.charge_world.specs.declared.ports.Order.{Order}
use Rattle.charge_world.specs.declared.ports.Order.TheVariants.{Open, Close, Limits}
use Rattle.text_tokens.specs.Words.{identifier_text, line_text}

-- ---- the words

abbrev pub pilot_word : PilotState → List ℕ
pilot_word pilot.A = codes "A"
pilot_word pilot.B = codes "B"
pilot_word pilot.C = codes "C"
pilot_word pilot.D = codes "D"
pilot_word pilot.E = codes "E"
pilot_word pilot.F = codes "F"

abbrev pub isolation_word : IsolationLevel → List ℕ
isolation_word isolation.Invalid = codes "invalid"
isolation_word isolation.Valid = codes "valid"
isolation_word isolation.Warning = codes "warning"
isolation_word isolation.Fault = codes "fault"
isolation_word isolation.NoImd = codes "noimd"

abbrev pub feedback_word : Bool → List ℕ
feedback_word true = codes "closed"
feedback_word false = codes "open"

-- what a charger tells; a voltage and a current are in tenths
abbrev pub event_words : PlantEvent → List (List ℕ)
event_words (Pilot state) = codes "pilot" ∷ pilot_word state ∷ []
event_words (Isolation level) = codes "isolation" ∷ isolation_word level ∷ []
event_words (Measured voltage current) = codes "measured" ∷ decimal voltage ∷ decimal current ∷ []
event_words (Feedback closed) = codes "feedback" ∷ feedback_word closed ∷ []
event_words Paid = codes "paid" ∷ []
event_words Emergency = codes "emergency" ∷ []
event_words StopAsked = codes "stop" ∷ []
event_words RenewAsked = codes "renew" ∷ []

-- an order, with its watts
abbrev pub order_words : Order → List (List ℕ)
order_words Open = codes "open" ∷ []
order_words Close = codes "close" ∷ []
order_words (Limits voltage current watts) = codes "limits" ∷ decimal voltage ∷ decimal current ∷ decimal watts ∷ []

-- the bytes of a datagram, or a dash for none
abbrev pub datagram_word : List ℕ → List ℕ
datagram_word [] = codes "-"
datagram_word (b ∷ bytes) = encode_lower (b ∷ bytes)

-- what is heard at a post, with its bytes: the words behind the number of the post
abbrev pub at_post_words : What → List ℕ → List (List ℕ)
at_post_words (Came post token) bytes = codes "came" ∷ identifier_text token ∷ []
at_post_words (Bytes post n) bytes = codes "bytes" ∷ encode_lower bytes ∷ []
at_post_words (Gone post) bytes = codes "gone" ∷ []
at_post_words (Datagram post n) bytes = codes "datagram" ∷ datagram_word bytes ∷ []
at_post_words (Plant post event) bytes = codes "plant" ∷ event_words event
at_post_words _ bytes = []

abbrev pub what_words : What → List ℕ → List (List ℕ)
what_words (Came post token) bytes = decimal post ∷ at_post_words (Came post token) bytes
what_words (Bytes post n) bytes = decimal post ∷ at_post_words (Bytes post n) bytes
what_words (Gone post) bytes = decimal post ∷ at_post_words (Gone post) bytes
what_words (Datagram post n) bytes = decimal post ∷ at_post_words (Datagram post n) bytes
what_words (Plant post event) bytes = decimal post ∷ at_post_words (Plant post event) bytes
what_words Tick bytes = codes "tick" ∷ []
what_words Over bytes = codes "over" ∷ []

-- an entry, whether a call was taken or not
abbrev pub plain_words : Entry → List (List ℕ)
plain_words (entry.Heard heard bytes) = codes "heard" ∷ decimal heard.at ∷ what_words heard.what bytes
plain_words entry.Lost = codes "lost" ∷ []
plain_words (entry.Sent post bytes taken) = codes "sent" ∷ decimal post ∷ encode_lower bytes ∷ []
plain_words (entry.Answered post bytes taken) = codes "answered" ∷ decimal post ∷ encode_lower bytes ∷ []
plain_words (entry.Drove post order taken) = codes "drove" ∷ decimal post ∷ order_words order
plain_words (entry.Dialed port taken) = codes "dialed" ∷ decimal port ∷ []
plain_words (entry.Ended post cause) = codes "ended" ∷ decimal post ∷ decimal cause ∷ []

-- only a call can fail
abbrev pub taken_of : Entry → Bool
taken_of (entry.Sent post bytes taken) = taken
taken_of (entry.Answered post bytes taken) = taken
taken_of (entry.Drove post order taken) = taken
taken_of (entry.Dialed port taken) = taken
taken_of _ = true

-- a call that failed says so first
abbrev pub words_of : Entry → List (List ℕ)
words_of e = if taken_of e then plain_words e else codes "failed" ∷ plain_words e

-- the line of an entry, with its line feed; and with the number of its hearing before it
abbrev pub line_of : Entry → List ℕ
line_of e = line_text (words_of e)

abbrev pub numbered_line_of : ℕ → Entry → List ℕ
numbered_line_of hearing e = line_text (decimal hearing ∷ words_of e)

-- ---- the entries that have a line

-- posts are numbered from 1 to 8
abbrev pub IsPost : ℕ → Type 0
IsPost post = (1 ≤ post) × (post ≤ 8)

-- only a piece and a datagram have bytes, a piece 1 to 4,096 and a datagram up to 4,096
abbrev pub HasBytes : What → List ℕ → Type 0
HasBytes (Came post token) bytes = IsPost post × (bytes ≡ [])
HasBytes (Bytes post n) bytes = IsPost post × (n ≡ length bytes) × (1 ≤ n) × (n ≤ 4096)
HasBytes (Gone post) bytes = IsPost post × (bytes ≡ [])
HasBytes (Datagram post n) bytes = IsPost post × (n ≡ length bytes) × (n ≤ 4096)
HasBytes (Plant post event) bytes = IsPost post × (bytes ≡ [])
HasBytes _ bytes = bytes ≡ []

abbrev pub InBounds : Entry → Type 0
InBounds (entry.Heard heard bytes) = HasBytes heard.what bytes
InBounds (entry.Sent post bytes taken) = IsPost post × (1 ≤ length bytes)
InBounds (entry.Answered post bytes taken) = IsPost post × (1 ≤ length bytes)
InBounds (entry.Drove post order taken) = IsPost post
InBounds (entry.Ended post cause) = IsPost post
InBounds _ = Unit {0}

-- a line has at most 131,200 bytes, with its line feed and without a number before it
abbrev pub longest : ℕ
longest = 131200

-- what `write_numbered` can write
abbrev pub IsWritable : Entry → Type 0
IsWritable e = InBounds e × (length (line_of e) ≤ longest)

-- each number is one that its field holds
abbrev pub IsEventOfTypes : PlantEvent → Type 0
IsEventOfTypes (Measured voltage current) = (voltage ≤ 30000) × (current ≤ 30000)
IsEventOfTypes _ = Unit {0}

abbrev pub IsOrderOfTypes : Order → Type 0
IsOrderOfTypes (Limits voltage current watts) = (voltage ≤ 30000) × (current ≤ 30000) × (watts < 2 ^ 32)
IsOrderOfTypes _ = Unit {0}

abbrev pub IsWhatOfTypes : What → Type 0
IsWhatOfTypes (Came post token) = token < 2 ^ 64
IsWhatOfTypes (Plant post event) = IsEventOfTypes event
IsWhatOfTypes _ = Unit {0}

abbrev pub IsOfTypes : Entry → Type 0
IsOfTypes (entry.Heard heard bytes) = (heard.at < 2 ^ 64) × IsWhatOfTypes heard.what × IsBytes bytes
IsOfTypes entry.Lost = Unit {0}
IsOfTypes (entry.Sent post bytes taken) = IsBytes bytes
IsOfTypes (entry.Answered post bytes taken) = IsBytes bytes
IsOfTypes (entry.Drove post order taken) = IsOrderOfTypes order
IsOfTypes (entry.Dialed port taken) = port < 2 ^ 16
IsOfTypes (entry.Ended post cause) = cause < 2 ^ 8

-- the entries of format 2: those whose line is in the grammar
abbrev pub IsLine : Entry → Type 0
IsLine e = IsWritable e × IsOfTypes e

-- format 1 doesn't know the wish to negotiate anew
abbrev pub IsWhatOfFormat1 : What → Type 0
IsWhatOfFormat1 (Plant post RenewAsked) = ⊥
IsWhatOfFormat1 _ = Unit {0}

abbrev pub IsOfFormat1 : Entry → Type 0
IsOfFormat1 (entry.Heard heard bytes) = IsWhatOfFormat1 heard.what
IsOfFormat1 _ = Unit {0}

abbrev pub IsLine1 : Entry → Type 0
IsLine1 e = IsLine e × IsOfFormat1 e
