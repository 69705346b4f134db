-- Own: what payloads of DIN SPEC 70121:2014 mean as words, and the laws of it.
use Rattle.std.specs.Prelude.{ℕ, List}
use Rattle.session_words.specs.declared.word.Word.{Word}
use Rattle.written_sizes.specs.Entries.{IsBrief}
use Rattle.written_words.specs.Back.{word_back}
use Rattle.din_schema.specs.Declarations.{schema}
use Rattle.din_schema.specs.declared.kinds.TheConstants.{V2G_MESSAGE_KIND}
use Rattle.din_schema.specs.declared.names.TheConstants.{V2G_MESSAGE}
use Rattle.din_word_messages.specs.Spellable.{CanSpell}
use Rattle.message_tables.specs.Laws as laws
use Rattle.message_tables.specs.Laws.{Dialect}
use Rattle.din_tables.specs.Frame.{frame}
use Rattle.din_tables.specs.Words.{messages, word_of_tree, in_word}

abbrev pub dialect : Dialect
dialect = record {
  schema = schema;
  root = record { number = 77; name = V2G_MESSAGE; kind = V2G_MESSAGE_KIND };
  frame = frame;
  messages = messages;
  in_word = in_word;
  CanSpell = CanSpell;
  back = word_back;
  IsBrief = IsBrief;
  few_bytes = 256;
}

-- a payload reads as a word
abbrev pub Reads : List ℕ → Word → Type 0
Reads payload w = laws.Reads schema word_of_tree payload w

-- a payload is what is written for a word
abbrev pub IsWrittenFor : Word → List ℕ → Type 0
IsWrittenFor w payload = laws.IsWrittenFor schema V2G_MESSAGE in_word w payload
