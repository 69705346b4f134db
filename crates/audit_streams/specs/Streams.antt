-- ISO 15118-2:2014, section 7.8.3: what is kept of the stream of a session in a foreign trace.
use Rattle.std.specs.Prelude.{◌≡◌, ◌<◌, ℕ, Bool, true, false, not, ◌&&◌, if◌then◌else◌, List, [], ◌∷◌, ◌++◌, drop, length, All, Option, Some, None, is_some, Result, Ok, Err, MatchBool}
use Rattle.std.specs.List.{flat_map}
use Rattle.charge_world.specs.declared.offer.Dialect.{Dialect}
use Rattle.v2gtp_frames.specs.declared.FrameFault.{FrameFault}
use Rattle.v2gtp_frames.specs.Frames.{Frames, frame, IsPayload}
use Rattle.v2gtp_frames.specs.Reading.{whole_at, payload_at}
use Rattle.post_spec.specs.Codecs.{Judged, Codecs, Judges}
use Rattle.post_spec.specs.Sessions.{arriving, session, next_session, stream, replies, waits}
use Rattle.post_spec.specs.Steps.{Seen}
use Rattle.post_spec.specs.Words.{HeardWord, Payload, Fault, AreRead, AreJudged, EndsSo, Words, chosen_by}
use Rattle.told_pasts.specs.Reading.{spoken_in, IsUnanswered, IsNext}
use Rattle.audit_streams.specs.declared.reader.ToldWord.{ToldWord}
use Rattle.audit_streams.specs.declared.reader.ToldWord.TheVariants as told
use Rattle.audit_streams.specs.declared.streams.NextWord.{NextWord}
use Rattle.audit_streams.specs.declared.streams.NextWord.TheVariants.{Nothing, Kept, BadFrame, OtherPayload}
use Rattle.audit_streams.specs.declared.streams.Speech.{Speech}
use Rattle.audit_streams.specs.declared.streams.Speech.TheVariants.{First, Spoken, Unchosen, Over}
use Rattle.audit_streams.specs.declared.streams.ToldStream.{ToldStream}
use Rattle.audit_streams.specs.declared.streams.WordStream.{WordStream}
use Rattle.audit_streams.specs.Words.{IsWord}

-- payloads are these words, as the stream goes on
abbrev pub ReadSo : Codecs → List Dialect → Speech → List (List ℕ) → List HeardWord → Type 0
ReadSo c offers First payloads words = AreJudged c offers payloads words
ReadSo c offers (Spoken dialect) payloads words = AreRead c offers (Some dialect) payloads words
ReadSo c offers Unchosen payloads words = AreRead c offers None payloads words
ReadSo c offers Over payloads words = ⊥

-- the words of what is left of a stream
pub record Later (c : Codecs) (offers : List Dialect) (speech : Speech) (bytes : List ℕ) (words : List HeardWord) : Type 0 where
  pub payloads : List (List ℕ)
  pub rest : List ℕ
  pub frames : Frames bytes payloads rest
  pub front : List HeardWord
  pub behind : List HeardWord
  pub words_are : words ≡ front ++ behind
  pub read : ReadSo c offers speech payloads front
  pub ends : EndsSo rest behind

abbrev pub Left : Codecs → List Dialect → Speech → List ℕ → List HeardWord → Type 0
Left c offers First bytes words = Later c offers First bytes words
Left c offers (Spoken dialect) bytes words = Later c offers (Spoken dialect) bytes words
Left c offers Unchosen bytes words = Later c offers Unchosen bytes words
Left c offers Over bytes words = words ≡ []

-- of a stream these words were taken and this is left, whatever comes behind it
pub record AreTaken (c : Codecs) (offers : List Dialect) (bytes : List ℕ) (taken : List HeardWord) (speech : Speech) (unread : List ℕ) : Type 0 where
  pub left : (more : List ℕ) (words : List HeardWord) → Words c offers (bytes ++ more) words
      → (later : List HeardWord) × Left c offers speech (unread ++ more) later × (words ≡ taken ++ later)
  pub all : (more : List ℕ) (later : List HeardWord) → Left c offers speech (unread ++ more) later → Words c offers (bytes ++ more) (taken ++ later)

-- how a stream goes on behind a first word
abbrev pub speech_of : Option Dialect → Speech
speech_of None = Unchosen
speech_of (Some dialect) = Spoken dialect

-- all words taken but the last have a reply, or all have, where none is kept
abbrev pub IsOpen : ℕ → List HeardWord → Option ToldWord → Type 0
IsOpen count taken None = length taken ≡ count
IsOpen count taken (Some kept) =
    (answered : List HeardWord) × (word : HeardWord) × (taken ≡ answered ++ word ∷ []) × (length answered ≡ count) × IsWord kept word

abbrev pub IsFaulty : Option ToldWord → Type 0
IsFaulty None = Unit {0}
IsFaulty (Some (told.BadFrame fault)) = Unit {0}
IsFaulty (Some other) = ⊥

-- how the stream goes on agrees with the words that were taken
abbrev pub SpeaksSo : Speech → List HeardWord → Option ToldWord → Type 0
SpeaksSo First taken kept = taken ≡ []
SpeaksSo (Spoken dialect) taken kept = spoken_in taken ≡ Some dialect
SpeaksSo Unchosen taken kept = (0 < length taken) × (spoken_in taken ≡ None)
SpeaksSo Over taken kept = IsFaulty kept

abbrev pub HasFrame : List ℕ → Type 0
HasFrame unread = (n : ℕ) × (whole_at unread ≡ Ok (Some n))

-- no whole frame that would be no word stands at the front
abbrev pub IsSkipped : Speech → List ℕ → Type 0
IsSkipped Unchosen unread = HasFrame unread → ⊥
IsSkipped First unread = Unit {0}
IsSkipped (Spoken dialect) unread = Unit {0}
IsSkipped Over unread = Unit {0}

-- no word stands at the front
abbrev pub IsBare : Speech → List ℕ → Type 0
IsBare First unread = whole_at unread ≡ Ok None
IsBare (Spoken dialect) unread = whole_at unread ≡ Ok None
IsBare Unchosen unread = whole_at unread ≡ Ok None
IsBare Over unread = Unit {0}

-- so the stream is read, up to the first word without a reply
pub record IsKept (c : Codecs) (offers : List Dialect) (bytes : List ℕ) (count : ℕ) (w : WordStream) : Type 0 where
  pub taken : List HeardWord
  pub are : AreTaken c offers bytes taken w.speech w.unread
  pub is : IsOpen count taken w.kept
  pub speaks : SpeaksSo w.speech taken w.kept
  pub skipped : IsSkipped w.speech w.unread

-- and where none is kept, none is there
abbrev pub IsLooked : Option ToldWord → WordStream → Type 0
IsLooked None w = IsBare w.speech w.unread
IsLooked (Some kept) w = Unit {0}

-- where more was sent than was asked, no word is without a reply
abbrev pub NoneWaits : Codecs → List Dialect → List Seen → Type 0
NoneWaits c offers es = (words : List HeardWord) → Words c offers (stream es) words → drop (length (replies es)) words ≡ []

-- the values of a session with these entries
pub record IsSession (c : Codecs) (offers : List Dialect) (es : List Seen) (v : ToldStream) : Type 0 where
  pub lives_is : v.lives ≡ true
  pub waits_is : v.waits ≡ waits es
  pub words_are : MatchBool v.ahead (NoneWaits c offers es)
      (IsKept c offers (stream es) (length (replies es)) v.words × IsLooked v.words.kept v.words)

abbrev pub IsIn : Codecs → List Dialect → Option (List Seen) → ToldStream → Type 0
IsIn c offers None v = v.lives ≡ false
IsIn c offers (Some es) v = IsSession c offers es v

-- the values behind this past
pub record AreOf (c : Codecs) (offers : List Dialect) (past : List Seen) (v : ToldStream) : Type 0 where
  pub arrived_is : v.arrived ≡ is_some (arriving past)
  pub session_is : IsIn c offers (session past) v

-- no more was sent than was asked
abbrev pub IsEven : ToldStream → Type 0
IsEven v = v.lives ≡ true → v.ahead ≡ false

-- a word is without a reply
abbrev pub IsAsked : Codecs → List Dialect → List Seen → Type 0
IsAsked c offers past = (words : List HeardWord) × (word : HeardWord) × IsUnanswered c offers past words word

-- no word is next
abbrev pub NoneIsNext : Codecs → List Dialect → List Seen → Type 0
NoneIsNext c offers past = (word : HeardWord) → IsNext c offers past word → ⊥

-- ---- what they tell

abbrev pub kept_in : ToldStream → Option ToldWord
kept_in v = if v.lives && not v.ahead then v.words.kept else None

abbrev pub spoken_by : Speech → Option Dialect
spoken_by First = None
spoken_by (Spoken dialect) = Some dialect
spoken_by Unchosen = None
spoken_by Over = None

-- the first word without a reply is this one
pub record IsTold (c : Codecs) (offers : List Dialect) (past : List Seen) (kept : ToldWord) : Type 0 where
  pub words : List HeardWord
  pub word : HeardWord
  pub is : IsUnanswered c offers past words word
  pub kept_is : IsWord kept word
  pub only : (others : List HeardWord) (other : HeardWord) → IsUnanswered c offers past others other → other ≡ word

abbrev pub TellsFirst : Codecs → List Dialect → List Seen → Option ToldWord → Type 0
TellsFirst c offers past None = IsAsked c offers past → ⊥
TellsFirst c offers past (Some kept) = IsTold c offers past kept

-- the dialect in which the session talks, where its first word without a reply is a payload
abbrev pub TellsSpoken : Codecs → List Dialect → List Seen → Option Dialect → Type 0
TellsSpoken c offers past spoken = (words : List HeardWord) (judged : Judged) → IsUnanswered c offers past words (Payload judged) → spoken_in words ≡ spoken

-- the next word is so, and a reply waits, or doesn't
pub record IsNextSo (c : Codecs) (offers : List Dialect) (past : List Seen) (Is : HeardWord → Type 0) (waiting : Bool) : Type 0 where
  pub word : HeardWord
  pub next : IsNext c offers past word
  pub all : (other : HeardWord) (n : IsNext c offers past other) → Is other × (waits n.es ≡ waiting)

abbrev pub IsPayloadWord : HeardWord → Type 0
IsPayloadWord (Payload judged) = Unit {0}
IsPayloadWord (Fault fault) = ⊥

pub record IsKeptNext (c : Codecs) (offers : List Dialect) (past : List Seen) (kept : Option ToldWord) : Type 0 where
  pub own : ToldWord
  pub own_is : kept ≡ Some own
  pub word : HeardWord
  pub word_is : IsWord own word
  pub next : IsNextSo c offers past (λ other. other ≡ word) false

abbrev pub TellsNext : Codecs → List Dialect → List Seen → Option ToldWord → NextWord → Type 0
TellsNext c offers past kept Nothing = NoneIsNext c offers past
TellsNext c offers past kept Kept = IsKeptNext c offers past kept
TellsNext c offers past kept BadFrame = (fault : FrameFault) × IsNextSo c offers past (λ other. other ≡ Fault fault) true
TellsNext c offers past kept OtherPayload = IsNextSo c offers past IsPayloadWord true

-- what stands at the front, behind the word that is kept
abbrev pub IsBehind : WordStream → NextWord → Type 0
IsBehind w Nothing = IsBare w.speech w.unread
IsBehind w Kept = ⊥
IsBehind w BadFrame = (w.speech ≡ Over → ⊥) × (fault : FrameFault) × (whole_at w.unread ≡ Err fault)
IsBehind w OtherPayload = (w.speech ≡ Over → ⊥) × HasFrame w.unread

-- ---- a hearing

-- where the connection of the block before has opened its session, and no word is next
pub record IsReady (c : Codecs) (offers : List Dialect) (past : List Seen) (v : ToldStream) : Type 0 where
  pub session_is : IsIn c offers (next_session past) v
  pub even : IsEven v
  pub bare : v.lives ≡ true → IsBare v.words.speech v.words.unread

-- ---- taking a word

-- a payload is judged as a word
abbrev pub IsJudged : Codecs → List Dialect → Option Dialect → List ℕ → ToldWord → Type 0
IsJudged c offers chosen payload word = (judged : Judged) × Judges c offers chosen payload judged × IsWord word (Payload judged)

-- a stream that is read in this dialect, and how it goes on behind a word
abbrev pub speech_in : Option Dialect → Speech
speech_in None = First
speech_in (Some dialect) = Spoken dialect

abbrev pub speech_behind : Option Dialect → Option Dialect → Speech
speech_behind None chosen = speech_of chosen
speech_behind (Some dialect) chosen = Spoken dialect

abbrev pub GoesOn : Option Dialect → ToldWord → Speech → Type 0
GoesOn spoken word speech = (judged : Judged) → IsWord word (Payload judged) → speech ≡ speech_behind spoken (chosen_by judged)

-- whole frames were dropped from the front
pub record Skips (old new : List ℕ) : Type 0 where
  pub payloads : List (List ℕ)
  pub each : All IsPayload payloads
  pub old_is : old ≡ flat_map frame payloads ++ new

abbrev pub Dropped : Speech → List ℕ → List ℕ → Type 0
Dropped First old new = new ≡ old
Dropped (Spoken dialect) old new = new ≡ old
Dropped Unchosen old new = Skips old new
Dropped Over old new = new ≡ old

-- what is no word was dropped from the front
pub record Drops (old new : WordStream) : Type 0 where
  pub speech_is : new.speech ≡ old.speech
  pub kept_is : new.kept ≡ old.kept
  pub unread_is : Dropped old.speech old.unread new.unread
  pub skipped : IsSkipped new.speech new.unread

-- ---- bytes come

abbrev pub Fed : Speech → List ℕ → List ℕ → List ℕ → Type 0
Fed First old piece new = new ≡ old ++ piece
Fed (Spoken dialect) old piece new = new ≡ old ++ piece
Fed Unchosen old piece new = new ≡ old ++ piece
Fed Over old piece new = Unit {0}

pub record Feeds (piece : List ℕ) (old new : WordStream) : Type 0 where
  pub speech_is : new.speech ≡ old.speech
  pub kept_is : new.kept ≡ old.kept
  pub unread_is : IsBare old.speech old.unread → Fed old.speech old.unread piece new.unread

pub record Brings (c : Codecs) (offers : List Dialect) (piece : List ℕ) (old new : ToldStream) : Type 0 where
  pub arrived_is : new.arrived ≡ old.arrived
  pub lives_is : new.lives ≡ old.lives
  pub waits_is : new.waits ≡ old.waits
  pub ahead_is : new.ahead ≡ old.ahead
  pub words_are : old.lives ≡ true → (bytes : List ℕ) (count : ℕ) → IsKept c offers bytes count old.words → IsBare old.words.speech old.words.unread
      → IsKept c offers (bytes ++ piece) count new.words × IsLooked new.words.kept new.words

-- ---- the next word itself

pub record NextIs (c : Codecs) (offers : List Dialect) (past : List Seen) (kept : ToldWord) : Type 0 where
  pub word : HeardWord
  pub kept_is : IsWord kept word
  pub next : IsNext c offers past word
  pub only : (other : HeardWord) → IsNext c offers past other → other ≡ word

abbrev pub TellsWord : Codecs → List Dialect → List Seen → Option ToldWord → Type 0
TellsWord c offers past None = NoneIsNext c offers past
TellsWord c offers past (Some kept) = NextIs c offers past kept

-- the word at the front
abbrev pub IsFront : Codecs → List Dialect → Speech → List ℕ → Result (Option ℕ) FrameFault → ToldWord → Type 0
IsFront c offers speech unread (Ok None) kept = ⊥
IsFront c offers speech unread (Ok (Some n)) kept = IsJudged c offers (spoken_by speech) (payload_at n unread) kept
IsFront c offers speech unread (Err fault) kept = kept ≡ told.BadFrame fault

-- it stands behind the word that is kept, if one does
abbrev pub IsBehindWord : Codecs → List Dialect → WordStream → Option ToldWord → Type 0
IsBehindWord c offers w None = IsBare w.speech w.unread
IsBehindWord c offers w (Some kept) = (w.speech ≡ Over → ⊥) × IsFront c offers w.speech w.unread (whole_at w.unread) kept
