-- ISO 15118-2:2014, section 8.8.4: an example of a session that conforms, in a run. A car charges with alternating current.
use Rattle.std.specs.Prelude.{ℕ, true, false, List, [], ◌∷◌, get_or, Option, Some, None}
use Rattle.charge_world.specs.declared.heard.PilotState.TheVariants.{C}
use Rattle.charge_world.specs.declared.heard.PlantEvent.{PlantEvent}
use Rattle.charge_world.specs.declared.heard.PlantEvent.TheVariants as plant
use Rattle.charge_world.specs.declared.offer.Dialect.TheVariants.{Iso}
use Rattle.session_words.specs.declared.code.Progress.TheVariants.{Start, Stop}
use Rattle.session_words.specs.declared.word.Ask.{Ask}
use Rattle.session_words.specs.declared.word.Ask.TheVariants as ask
use Rattle.session_words.specs.declared.word.Reply.{Reply}
use Rattle.session_words.specs.declared.word.Request.{Request}
use Rattle.session_words.specs.declared.word.Word.TheVariants as word
use Rattle.v2gtp_frames.specs.Frames.{frame}
use Rattle.post_spec.specs.Codecs.{Codecs, Negotiated, Asked}
use Rattle.post_spec.specs.Steps.{Came, Bytes, Plant, Reading, Step, Hears}
use Rattle.station_spec.specs.Runs.{IsRun}
use Rattle.station_examples.specs.Fixtures.{ac_post, token, named, unnamed}
use Rattle.station_examples.specs.Words.{setup, payment, delivery, ac_parameters}
use Rattle.conforming_runs.specs.Conforming.{Conforming}
use Rattle.site_examples.specs.Playing.{one_post, post_of, does, past_of}

-- the requests behind the negotiation, in order
abbrev pub request_of : Ask → Request
request_of asked = record { session = named; ask = asked }

abbrev pub set_up : Request
set_up = record { session = unnamed; ask = setup }

abbrev pub requests : List Request
requests =
    set_up ∷ request_of ask.ServiceDiscovery ∷ request_of payment ∷ request_of ask.Authorization ∷
    request_of ac_parameters ∷ request_of (delivery Start) ∷ request_of ask.ChargingStatus ∷
    request_of (delivery Stop) ∷ request_of (ask.SessionStop false) ∷ []

abbrev pub request : ℕ → Request
request n = get_or requests n set_up

-- codecs for which payload 9 is a negotiation and the others are these requests, and which encode each reply so
pub record Spells (c : Codecs) (response : List ℕ) (encode : Reply → List ℕ) : Type 0 where
  pub negotiates : c.Negotiates ac_post.dialects.items (9 ∷ []) (Negotiated (Some Iso) response)
  pub reads : (n : ℕ) → c.Reads Iso (n ∷ []) (Some (word.Request (request n)))
  pub encodes : (reply : Reply) → c.Encodes Iso reply (encode reply)

-- a payload comes, a word is read and shown watts, and the charger tells something
abbrev pub comes : ℕ → ℕ → List Step → List Step
comes at payload steps = Hears at (Bytes (frame (payload ∷ []))) ∷ steps

abbrev pub word_shown : ℕ → ℕ → Option Reading
word_shown n shown = Some (record { judged = Asked (request n); shown = shown })

abbrev pub negotiated : List ℕ → Option Reading
negotiated response = Some (record { judged = Negotiated (Some Iso) response; shown = 0 })

abbrev pub tells : ℕ → PlantEvent → List Step → List Step
tells at event steps = Hears at (Plant event) ∷ steps

-- up to the parameters, with 22,080 W
abbrev pub prepared : List ℕ → (Reply → List ℕ) → List Step
prepared response encode =
    does encode (word_shown 4 22080) (comes 600 4 (
    does encode (word_shown 3 0) (comes 500 3 (
    does encode (word_shown 2 0) (comes 400 2 (
    does encode (word_shown 1 0) (comes 300 1 (
    does encode (word_shown 0 0) (comes 200 0 (
    does encode (negotiated response) (comes 100 9 (
    tells 10 (plant.Pilot C) (
    Hears 0 (Came token) ∷ [])))))))))))))

-- to the end: Start orders Close and is answered once that is confirmed; a demand sets limits; Stop orders Open
abbrev pub charged : List ℕ → (Reply → List ℕ) → List Step
charged response encode =
    does encode None (does encode (word_shown 8 0) (comes 1000 8 (
    does encode None (does encode (word_shown 7 0) (comes 900 7 (
    does encode None (does encode (word_shown 6 22080) (comes 800 6 (
    does encode None (tells 750 (plant.Feedback true) (
    does encode (word_shown 5 0) (comes 700 5 (
    prepared response encode)))))))))))))

-- the past is a run, and its session conforms
abbrev pub SessionConforms : Codecs → Type 0
SessionConforms c = (response : List ℕ) (encode : Reply → List ℕ) → Spells c response encode
    → IsRun c one_post (past_of (charged response encode)) (post_of (charged response encode) ∷ [])
    × Conforming ac_post (charged response encode)
