-- ISO 15118-2:2014 and DIN SPEC 70121:2014: the declarations of their messages.
use Rattle.exi_schema.specs.Schemas.{PlainSchema}
use Rattle.app_schema.specs.Declarations.{negotiation_schema}
use Rattle.iso_schema.specs.Declarations.{schema as iso_messages}
use Rattle.din_schema.specs.Declarations.{schema as din_messages}
use Rattle.message_dialects.specs.declared.dialect.MessageDialect.{MessageDialect}
use Rattle.message_dialects.specs.declared.dialect.MessageDialect.TheVariants.{App, Iso, Din}
use Rattle.message_dialects.specs.declared.tables.DialectTables.{DialectTables}
use Rattle.message_dialects.specs.declared.tables.DialectTables.TheVariants as tables

-- what a dialect declares
abbrev pub declarations : MessageDialect → PlainSchema
declarations App = negotiation_schema
declarations Iso = iso_messages
declarations Din = din_messages

-- whose declarations the tables hold
abbrev pub dialect_of : DialectTables → MessageDialect
dialect_of tables.App = App
dialect_of (tables.Iso kept) = Iso
dialect_of (tables.Din kept) = Din
