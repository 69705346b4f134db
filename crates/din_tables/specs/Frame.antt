-- DIN SPEC 70121:2014 9.2 and 9.3 (message, header): what its frame names.
use Rattle.din_schema.specs.Declarations.{kinds}
use Rattle.din_schema.specs.declared.names.TheConstants.{HEADER, BODY, SESSION_ID}
use Rattle.din_schema.specs.declared.kinds.TheConstants.{V2G_MESSAGE_KIND, BINARY8_KIND}
use Rattle.message_tables.specs.Frame.{Frame}

abbrev pub frame : Frame
frame = record {
  kinds = kinds;
  message_kind = V2G_MESSAGE_KIND;
  identifier_kind = BINARY8_KIND;
  header = HEADER;
  identifier = SESSION_ID;
  body = BODY;
}
