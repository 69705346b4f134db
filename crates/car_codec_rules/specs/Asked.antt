-- Own: each request that a car asks can be spelled in its dialect, and has no profile.
use Rattle.std.specs.Prelude.{◌<◌, ◌≤◌, All, length}
use Rattle.charge_world.specs.declared.offer.Dialect.{Dialect}
use Rattle.session_words.specs.declared.word.Ask.{Ask}
use Rattle.session_words.specs.declared.word.Ask.TheVariants as ask
use Rattle.session_words.specs.declared.word.Request.{Request}
use Rattle.car_codec.specs.Requests.{IsAsked}
use Rattle.car_codec_rules.specs.Codecs.{CanSpell}
use Rattle.car_codec_rules.specs.Profiles.{HasNoProfile}

-- what the types of a request bound: the bytes of its EVCCID, and those of its identifier
abbrev pub IsTypedAsk : Ask → Type 0
IsTypedAsk (ask.SessionSetup car) = All (λ byte. byte < 256) car.items
IsTypedAsk other = Unit {0}

pub record IsTyped (request : Request) : Type 0 where
  pub few : length request.session.bytes.items ≤ 8
  pub bytes : All (λ byte. byte < 256) request.session.bytes.items
  pub ask : IsTypedAsk request.ask

abbrev pub AskedAreSpelled : Type 0
AskedAreSpelled = (dialect : Dialect) (request : Request) → IsAsked dialect request → IsTyped request → CanSpell dialect request

abbrev pub AskedHaveNoProfile : Type 0
AskedHaveNoProfile = (dialect : Dialect) (request : Request) → IsAsked dialect request → HasNoProfile request.ask
