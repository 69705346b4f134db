-- supportedAppProtocolReq and supportedAppProtocolRes, ISO 15118-2:2014 section 8.2, wherever they lie in memory.
use Rattle.std.specs.Prelude.{ℕ, List, ◌∷◌, [], map}
use Rattle.message_parts.specs.Contents.{Inside, Part, holding}
use Rattle.message_parts.specs.Texts.{chars_of}
use Rattle.app_schema.specs.declared.names.TheConstants.{REQUEST, RESPONSE}
pub use Rattle.app_documents.specs.Trees.{Offered as Protocol}
use Rattle.app_documents.specs.Trees.{Message, Request, Response, offered_parts, request_parts, response_parts, name_of, number_of}
use Rattle.app_protocol.specs.declared.message.AppCode.{AppCode}
use Rattle.app_protocol.specs.declared.message.AppCode.TheVariants.{Successful, MinorDeviation, Failed}
use Rattle.app_protocol.specs.declared.message.AppMessage.{AppMessage}
use Rattle.app_protocol.specs.declared.message.AppMessage.TheVariants.{Req, Res}
use Rattle.app_protocol.specs.declared.message.AppProtocol.{AppProtocol}
use Rattle.app_protocol.specs.declared.message.AppReq.{AppReq}
use Rattle.app_protocol.specs.declared.message.AppRes.{AppRes}

abbrev pub protocol_of : AppProtocol → Protocol
protocol_of p = record { namespace = chars_of p.namespace; major = p.major; minor = p.minor; schema = p.schema; priority = p.priority }

abbrev pub protocols_of : AppReq → List Protocol
protocols_of request = map protocol_of request.protocols.items

-- the place of a ResponseCode in its enumeration
abbrev pub ordinal_of : AppCode → ℕ
ordinal_of Successful = 0
ordinal_of MinorDeviation = 1
ordinal_of Failed = 2

abbrev pub message_of : AppMessage → Message
message_of (Req request) = Request (protocols_of request)
message_of (Res response) = Response (ordinal_of response.code) response.schema

-- ---- what each contains

abbrev pub protocol_parts : AppProtocol → List Part
protocol_parts p = offered_parts (protocol_of p)

abbrev pub parts_of_request : AppReq → List Part
parts_of_request request = request_parts (map (λ p. holding (protocol_parts p)) request.protocols.items)

abbrev pub parts_of_response : AppRes → List Part
parts_of_response response = response_parts (ordinal_of response.code) response.schema

-- ---- the root

abbrev pub root_members : List (ℕ × ℕ)
root_members = (REQUEST, 6) ∷ (RESPONSE, 7) ∷ []

abbrev pub root_name : AppMessage → ℕ
root_name m = name_of (message_of m)

abbrev pub root_inside : AppMessage → Inside
root_inside (Req request) = holding (parts_of_request request)
root_inside (Res response) = holding (parts_of_response response)

abbrev pub root_number : AppMessage → ℕ
root_number m = number_of (message_of m)
