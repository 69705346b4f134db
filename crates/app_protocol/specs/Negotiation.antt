-- The negotiation of a message set, ISO 15118-2:2014 section 8.2.2: of the entries of the request that match a dialect
-- on offer, the one with the least Priority wins, and of equal ones the earlier (own).
use Rattle.std.specs.Prelude.{◌≡◌, ℕ, ◌<◌, ◌≤◌, List, ◌∷◌, ◌++◌, All, Contains, Option, Some, None, codes, ◌==◌, if◌then◌else◌}
use Rattle.charge_world.specs.declared.offer.Dialect.{Dialect}
use Rattle.charge_world.specs.declared.offer.Dialect.TheVariants.{Iso, Din}
use Rattle.app_protocol.specs.declared.message.AppCode.{AppCode}
use Rattle.app_protocol.specs.declared.message.AppCode.TheVariants as code
use Rattle.app_protocol.specs.declared.message.AppRes.{AppRes}
use Rattle.app_protocol.specs.Messages.{Protocol}

-- the namespace of a dialect's messages: ISO 15118-2:2014, DIN SPEC 70121:2014
abbrev pub namespace_of : Dialect → List ℕ
namespace_of Iso = codes "urn:iso:15118:2:2013:MsgDef"
namespace_of Din = codes "urn:din:70121:2012:MsgDef"

-- both dialects are of version 2.0
abbrev pub major_of : Dialect → ℕ
major_of dialect = 2

abbrev pub minor_of : Dialect → ℕ
minor_of dialect = 0

-- the entry names this dialect; the minor version may differ
pub record Names (p : Protocol) (dialect : Dialect) : Type 0 where
  pub namespace : p.namespace ≡ namespace_of dialect
  pub major : p.major ≡ major_of dialect

-- the entry names this dialect, which is on offer
pub record Matches (offer : List Dialect) (p : Protocol) (dialect : Dialect) : Type 0 where
  pub offered : Contains offer dialect
  pub named : Names p dialect

abbrev pub NoMatch : List Dialect → Protocol → Type 0
NoMatch offer p = (dialect : Dialect) → Matches offer p dialect → ⊥

-- where the entry matches, its Priority is above n
abbrev pub IsAbove : List Dialect → ℕ → Protocol → Type 0
IsAbove offer n p = (dialect : Dialect) → Matches offer p dialect → n < p.priority

abbrev pub IsFrom : List Dialect → ℕ → Protocol → Type 0
IsFrom offer n p = (dialect : Dialect) → Matches offer p dialect → n ≤ p.priority

-- the winning entry of a request and its dialect
pub record IsChosen (offer : List Dialect) (request : List Protocol) (p : Protocol) (dialect : Dialect) : Type 0 where
  pub before : List Protocol
  pub behind : List Protocol
  pub request_is : request ≡ before ++ p ∷ behind
  pub matches : Matches offer p dialect
  pub earlier : All (IsAbove offer p.priority) before
  pub later : All (IsFrom offer p.priority) behind

-- where the minor versions differ, the response says so
abbrev pub code_for : ℕ → Dialect → AppCode
code_for minor dialect = if minor == minor_of dialect then code.Successful else code.MinorDeviation

-- the response to a request and the dialect from then on
abbrev pub Negotiates : List Dialect → List Protocol → AppRes → Option Dialect → Type 0
Negotiates offer request response (Some dialect) =
    (p : Protocol) × IsChosen offer request p dialect
    × (response ≡ record { code = code_for p.minor dialect; schema = Some p.schema })
Negotiates offer request response None =
    All (NoMatch offer) request × (response ≡ record { code = code.Failed; schema = None })
