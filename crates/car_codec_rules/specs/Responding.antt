-- ISO 15118-2:2014, section 8.2 (supportedAppProtocolRes): what the first payload that a car hears is, where it offered these dialects.
use Rattle.std.specs.Prelude.{◌≡◌, ℕ, ◌+◌, ◌==◌, if◌then◌else◌, List, [], ◌∷◌, Option, Some, None}
use Rattle.charge_world.specs.declared.offer.Dialect.{Dialect}
use Rattle.app_documents.specs.Trees.{Offered, Request}
use Rattle.app_protocol.specs.declared.message.AppCode.TheVariants.{Failed}
use Rattle.app_protocol.specs.Documents.{IsApp}
use Rattle.app_protocol.specs.Messages.{ordinal_of}
use Rattle.site_codec_rules.specs.Negotiating.{IsResponse, IsNone}
use Rattle.car_spec.specs.Codecs.{Judged, Chosen, Told, WrongSide, Refused}

-- the dialect whose entry has this SchemaID, where the first of them has the one of its place
abbrev pub named_from : ℕ → List Dialect → ℕ → Option Dialect
named_from place [] schema = None
named_from place (dialect ∷ dialects) schema = if schema == place then Some dialect else named_from (place + 1) dialects schema

abbrev pub named_by : List Dialect → Option ℕ → Option Dialect
named_by dialects None = None
named_by dialects (Some schema) = named_from 1 dialects schema

-- none where nothing matched, whatever SchemaID stands there
abbrev pub chosen_by : List Dialect → ℕ → Option ℕ → Option Dialect
chosen_by dialects code schema = if code == ordinal_of Failed then None else named_by dialects schema

-- a response, and the dialect that it chooses
pub record IsChoice (dialects : List Dialect) (payload : List ℕ) (chosen : Option Dialect) : Type 0 where
  pub response : IsResponse payload
  pub chosen_is : chosen ≡ chosen_by dialects response.code response.schema

-- a request, which a post never sends
pub record IsRequest (payload : List ℕ) : Type 0 where
  pub protocols : List Offered
  pub spelled : IsApp (Request protocols) payload

abbrev pub Responds : List Dialect → List ℕ → Judged → Type 0
Responds dialects payload (Chosen dialect) = IsChoice dialects payload dialect
Responds dialects payload (Told reply) = ⊥
Responds dialects payload WrongSide = IsRequest payload
Responds dialects payload Refused = IsNone payload
