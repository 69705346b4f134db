-- DIN SPEC 70121:2014 9.2 to 9.5, message, header, body and data types: what elements of these types contain, part by part.
use Rattle.std.specs.Prelude.{List, [], ◌∷◌}
use Rattle.exi_bits.specs.Lent.{items_of}
use Rattle.exi_documents.specs.Trees.{Ordinal, Bytes}
use Rattle.message_fields.specs.Contents.{Part, Of, one, perhaps, mapped, holding}
use Rattle.message_fields.specs.Texts.{text_value}
use Rattle.din_schema.specs.declared.names.TheConstants.{SESSION_ID, NOTIFICATION, FAULT_CODE, FAULT_MSG}
use Rattle.din_parts.specs.Enumerations.{fault_code_ordinal}
use Rattle.din_parts.specs.declared.frame.Notification.{Notification}
use Rattle.din_parts.specs.declared.frame.Header.{Header}

abbrev pub notification_parts : Notification → List Part
notification_parts v =
    one FAULT_CODE (Of (Ordinal (fault_code_ordinal v.fault_code)))
    ∷ perhaps FAULT_MSG (mapped (λ x. Of (text_value x)) v.fault_msg)
    ∷ []

abbrev pub header_parts : Header → List Part
header_parts v =
    one SESSION_ID (Of (Bytes (items_of v.session_id.span)))
    ∷ perhaps NOTIFICATION (mapped (λ x. holding (notification_parts x)) v.notification)
    ∷ []
