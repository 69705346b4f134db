-- DIN SPEC 70121:2014 9.2 and 9.3 (message, header and body): a message with one element in its body, and the message of a word.
use Rattle.std.specs.Prelude.{◌≡◌, Some, None}
use Rattle.exi_bits.specs.Lent.{items_of}
use Rattle.message_parts.specs.declared.texts.Binary.{Binary}
use Rattle.session_words.specs.declared.code.Code.{Code}
use Rattle.session_words.specs.declared.word.Ask.{Ask}
use Rattle.session_words.specs.declared.word.Tell.{Tell}
use Rattle.session_words.specs.declared.word.Word.{Word}
use Rattle.session_words.specs.declared.word.Word.TheVariants as word
use Rattle.din_message.specs.declared.message.BodyElement.{BodyElement}
use Rattle.din_message.specs.declared.message.DinMessage.{DinMessage}
use Rattle.din_message.specs.Documents.{din_inside}
use Rattle.message_tables.specs.Frame.{session_of}
use Rattle.din_tables.specs.Words.{in_ask, in_tell, in_word}

-- a message under this identifier, without a notification
abbrev pub message_with : Binary → BodyElement → DinMessage
message_with session element = record {
  header = record { session_id = session; notification = None };
  body = record { element = Some element };
}

-- an element whose message has inside, under each identifier, what is written of something asked, or told
abbrev pub IsAskOf : Ask → BodyElement → Type 0
IsAskOf a e = (session : Binary) → in_ask (session_of (items_of session.span)) a ≡ Some (din_inside (message_with session e))

abbrev pub IsTellOf : Code → Tell → BodyElement → Type 0
IsTellOf c t e = (session : Binary) → in_tell (session_of (items_of session.span)) c t ≡ Some (din_inside (message_with session e))

-- a message has inside what is written for a word
abbrev pub IsMessageOf : Word → DinMessage → Type 0
IsMessageOf w m = in_word w ≡ Some (din_inside m)

-- and one that says nothing is written as a message whose body is empty
abbrev pub IsMessageOfAny : Word → DinMessage → Type 0
IsMessageOfAny (word.Request r) m = IsMessageOf (word.Request r) m
IsMessageOfAny (word.Reply r) m = IsMessageOf (word.Reply r) m
IsMessageOfAny word.Nothing m = m.body.element ≡ None
