-- ISO 15118-2:2014, sections 7.9 and 8.2: what the codecs that a trace is told by know of the payloads that a station sends.
use Rattle.std.specs.Prelude.{◌≡◌, ℕ, Bool, List, Option, Some, None, is_some}
use Rattle.std.specs.List.{AllByRecursion}
use Rattle.charge_world.specs.declared.offer.Dialect.{Dialect}
use Rattle.session_words.specs.declared.limits.Tuple.{Tuple}
use Rattle.session_words.specs.declared.word.Reply.{Reply}
use Rattle.session_words.specs.declared.word.Tell.{Tell}
use Rattle.session_words.specs.declared.word.Tell.TheVariants as tell
use Rattle.arrayvec.specs.ArrayVec.{ArrayVec}
use Rattle.post_spec.specs.Codecs.{Negotiated}
use Rattle.post_spec.specs.Spelled.{ReadsBack, AreDetermined, JudgesAll}
use Rattle.spelled_watts.specs.Spelling.{NegotiatesFirst}
use Rattle.told_pasts.specs.Spelling.{SpelledWatts, ToldCodecs}
use Rattle.own_traces.specs.Own.{Passes}

-- a station's response to a negotiation is a response, and a positive one where a dialect was chosen
abbrev pub RespondsRightly : ToldCodecs → Type 0
RespondsRightly c = (offers : List Dialect) (payload : List ℕ) (chosen : Option Dialect) (response : List ℕ)
    → c.words.Negotiates offers payload (Negotiated chosen response) → c.Responds response (is_some chosen)

-- each schedule has one entry, whose power is the least of them
abbrev pub AreSingle : Option (ArrayVec Tuple) → Type 0
AreSingle None = Unit {0}
AreSingle (Some tuples) = AllByRecursion (λ t. t.entries ≡ 1) tuples.items

abbrev pub IsSingle : Tell → Type 0
IsSingle (tell.ChargeParameters processing schedule limits) = AreSingle schedule
IsSingle other = Unit {0}

-- a reply that is encoded has watts, be they none, where each of its schedules has one entry
abbrev pub SpellsWatts : ToldCodecs → Type 0
SpellsWatts c = (dialect : Dialect) (reply : Reply) (payload : List ℕ) → c.words.Encodes dialect reply payload → IsSingle reply.tell
    → (watts : SpelledWatts) × c.Watts dialect payload watts

-- codecs that tell a station's own words
pub record TellsOwn (c : ToldCodecs) : Type 0 where
  pub reads_back : ReadsBack c.words
  pub determined : AreDetermined c.words
  pub judges : JudgesAll c.words
  pub negotiates_first : NegotiatesFirst c.words
  pub responds : RespondsRightly c
  pub spells : SpellsWatts c
  pub responds_once : (payload : List ℕ) (a b : Bool) → c.Responds payload a → c.Responds payload b → a ≡ b

-- so a check passes
abbrev pub PassesOwn : ToldCodecs → ℕ → Type 0
PassesOwn c check = TellsOwn c → Passes c check
