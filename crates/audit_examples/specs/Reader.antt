-- Own: what a small reader for tests reads: the first byte of a payload tells what it is.
use Rattle.std.specs.Prelude.{◌≡◌, ℕ, ◌==◌, Bool, true, false, if◌then◌else◌, List, [], ◌∷◌, Option, Some, None}
use Rattle.charge_world.specs.declared.offer.Dialect.{Dialect}
use Rattle.session_words.specs.declared.code.Code.TheVariants as code
use Rattle.session_words.specs.declared.code.Processing.TheVariants as processing
use Rattle.session_words.specs.declared.session.SessionId.{SessionId}
use Rattle.session_words.specs.declared.word.Ask.TheVariants as ask
use Rattle.session_words.specs.declared.word.Reply.{Reply}
use Rattle.session_words.specs.declared.word.Request.{Request}
use Rattle.session_words.specs.declared.word.Tell.TheVariants as tell
use Rattle.session_words.specs.declared.word.Word.{Word}
use Rattle.session_words.specs.declared.word.Word.TheVariants as word
use Rattle.v2gtp_frames.specs.Frames.{IsPayload}
use Rattle.post_spec.specs.Codecs.{Judged, Negotiated, Refused}
use Rattle.told_pasts.specs.Spelling.{SpelledWatts}
use Rattle.audit_watts.specs.Values.{no_watts}

abbrev pub kind_of : List ℕ → ℕ
kind_of [] = 0
kind_of (byte ∷ more) = byte

-- the first that is offered
abbrev pub chosen_in : List Dialect → Option Dialect
chosen_in [] = None
chosen_in (dialect ∷ others) = Some dialect

abbrev pub no_session : SessionId
no_session = record { bytes = record { items = [] } }

abbrev pub authorization : Request
authorization = record { session = no_session; ask = ask.Authorization }

abbrev pub authorized : Reply
authorized = record { session = no_session; code = code.Ok; tell = tell.Authorization processing.Finished }

-- 1: a request of the negotiation
abbrev pub first_judged : List Dialect → List ℕ → Judged
first_judged offers payload = if kind_of payload == 1 then Negotiated (chosen_in offers) (5 ∷ []) else Refused

-- 2: an authorization, 3: the reply to it
abbrev pub later_word : List ℕ → Option Word
later_word payload =
    if kind_of payload == 2 then Some (word.Request authorization) else (if kind_of payload == 3 then Some (word.Reply authorized) else None)

-- 5: the response to a negotiation that matched, 6: to another
abbrev pub positive_in : List ℕ → Option Bool
positive_in payload = if kind_of payload == 5 then Some true else (if kind_of payload == 6 then Some false else None)

abbrev pub Negotiates : List Dialect → List ℕ → Judged → Type 0
Negotiates offers payload judged = judged ≡ first_judged offers payload

abbrev pub Reads : Dialect → List ℕ → Option Word → Type 0
Reads dialect payload found = found ≡ later_word payload

abbrev pub Encodes : Dialect → Reply → List ℕ → Type 0
Encodes dialect reply payload = payload ≡ 3 ∷ []

abbrev pub Responds : List ℕ → Bool → Type 0
Responds payload positive = IsPayload payload × (positive_in payload ≡ Some positive)

abbrev pub is_reply : List ℕ → Bool
is_reply payload = kind_of payload == 3

-- a reply spells no watts
abbrev pub Watts : Dialect → List ℕ → SpelledWatts → Type 0
Watts dialect payload s = IsPayload payload × (is_reply payload ≡ true) × (s ≡ no_watts)
