-- ISO 15118-2:2014 section 8.2, Protocol Handshake: the declarations of supportedAppProtocolReq and supportedAppProtocolRes.
use Rattle.std.specs.Prelude.{ℕ, pos, List, [], ◌∷◌, codes, refl}
use Rattle.exi_schema.specs.declared.tables.Datatype.TheVariants.{Named, Bounded, Unsigned, Text}
use Rattle.exi_schema.specs.declared.tables.RootOf.{RootOf}
use Rattle.exi_schema.specs.Plain.{PlainKind, PlainParticle, valued, containing, once, perhaps, up_to}
use Rattle.exi_schema.specs.Schemas.{PlainSchema}
use Rattle.app_schema.specs.declared.names.TheConstants.{REQUEST, RESPONSE, APP_PROTOCOL, NAMESPACE, MAJOR, MINOR, SCHEMA_ID, PRIORITY, RESPONSE_CODE}

-- the texts of the names, numbered from 0
abbrev pub names : List (List ℕ)
names =
    codes "supportedAppProtocolReq" ∷ codes "supportedAppProtocolRes" ∷ codes "AppProtocol" ∷ codes "ProtocolNamespace"
    ∷ codes "VersionNumberMajor" ∷ codes "VersionNumberMinor" ∷ codes "SchemaID" ∷ codes "Priority" ∷ codes "ResponseCode" ∷ []

-- the response codes in order
abbrev pub response_codes : List (List ℕ)
response_codes =
    codes "OK_SuccessfulNegotiation" ∷ codes "OK_SuccessfulNegotiationWithMinorDeviation" ∷ codes "Failed_NoNegotiation" ∷ []

-- what an AppProtocol, the request and the response contain
abbrev pub protocol_particles : List PlainParticle
protocol_particles = once NAMESPACE 0 ∷ once MAJOR 1 ∷ once MINOR 1 ∷ once SCHEMA_ID 2 ∷ once PRIORITY 3 ∷ []

abbrev pub request_particles : List PlainParticle
request_particles = up_to 20 APP_PROTOCOL 5 ∷ []

abbrev pub response_particles : List PlainParticle
response_particles = once RESPONSE_CODE 4 ∷ perhaps SCHEMA_ID 2 ∷ []

-- the kinds, numbered from 0: a namespace of at most 100 characters, unsignedInt, unsignedByte, a Priority of 1 to 20, a response code,
-- an AppProtocol, the request and the response
abbrev pub kinds : List PlainKind
kinds =
    valued (Text 100)
    ∷ valued (Unsigned 4294967295)
    ∷ valued (Bounded (pos 0) 256)
    ∷ valued (Bounded (pos 1) 20)
    ∷ valued (Named 3)
    ∷ containing [] protocol_particles
    ∷ containing [] request_particles
    ∷ containing [] response_particles
    ∷ []

-- document number 0 is the request, 1 the response
abbrev pub roots : List RootOf
roots = record { number = 0; name = REQUEST; kind = 6 } ∷ record { number = 1; name = RESPONSE; kind = 7 } ∷ []

-- the schema: of the kinds, the response codes alone have names as values. A document number has 2 bits
abbrev pub negotiation_schema : PlainSchema
negotiation_schema = record {
  kinds = kinds;
  names = names;
  values = [] ∷ [] ∷ [] ∷ [] ∷ response_codes ∷ [] ∷ [] ∷ [] ∷ [];
  root_bits = 2;
  roots = roots;
  fits = refl;
}
