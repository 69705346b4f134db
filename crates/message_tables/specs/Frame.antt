-- ISO 15118-2:2014 8.3 and DIN SPEC 70121:2014 9.2 to 9.4 (message, header, body): a whole message as a table, its identifier and what is
-- in its body under the name of the message; and the word of a tree by the tables of all messages.
use Rattle.std.specs.Prelude.{ℕ, ◌==◌, ◌&&◌, Bool, if◌then◌else◌, List, [], ◌∷◌, Option, Some, None}
use Rattle.exi_schema.specs.Plain.{PlainKind}
use Rattle.exi_documents.specs.Trees.{Tree, Simple, Complex}
use Rattle.message_parts.specs.Contents.{Inside, Holding}
use Rattle.session_words.specs.declared.code.Code.{Code}
use Rattle.session_words.specs.declared.session.SessionId.{SessionId}
use Rattle.session_words.specs.declared.word.Ask.{Ask}
use Rattle.session_words.specs.declared.word.Tell.{Tell}
use Rattle.session_words.specs.declared.word.Word.{Word}
use Rattle.session_words.specs.declared.word.Word.TheVariants as word
use Rattle.word_tables.specs.Named.{children, first_in}
use Rattle.word_tables.specs.Tables.{Table, inside, rows, holding, nothing, once, read, written, is_apart, ◌▷◌}
use Rattle.word_tables.specs.Fitting.{fits, bits}
use Rattle.message_tables.specs.Values.{some_bytes}

-- of a dialect: its kinds, that of a message and that of an identifier, and the names of the frame
pub record Frame : Type 0 where
  pub kinds : List PlainKind
  pub message_kind : ℕ
  pub identifier_kind : ℕ
  pub header : ℕ
  pub identifier : ℕ
  pub body : ℕ

abbrev pub Framed : Type 0 → Type 0
Framed X = (List ℕ × Unit {0}) × ((X × Unit {0}) × Unit {0})

abbrev pub message : {X : Type 0} → Frame → ℕ → Table rows X → Table inside (Framed X)
message f name table = holding (
    once f.header (holding (once f.identifier (some_bytes 8 f.identifier_kind) ▷ nothing))
    ▷ once f.body (holding (once name (holding table) ▷ nothing))
    ▷ nothing)

abbrev pub framed : {X : Type 0} → SessionId → X → Framed X
framed session x = ((session.bytes.items, tt), ((x, tt), tt))

abbrev pub session_of : List ℕ → SessionId
session_of bytes = record { bytes = record { items = bytes } }

-- ---- a message: its name, whether its table passes the tests, how many bits it has at most where no code has more than six, and the word
-- of what is inside of it

pub record Message : Type 0 where
  pub name : ℕ
  pub passes : Bool
  pub most_bits : ℕ
  pub word_in : Inside → Word

abbrev pub passes_tests : {X : Type 0} → Frame → ℕ → Table rows X → Bool
passes_tests f name table = is_apart (message f name table) && fits f.kinds (message f name table) f.message_kind

abbrev pub asked_in : {X : Type 0} → Frame → ℕ → Table rows X → (X → Ask) → Inside → Word
asked_in f name table ask own =
    let x = read (message f name table) own in word.Request (record { session = session_of x.0.0; ask = ask x.1.0.0 })

abbrev pub told_in : {X : Type 0} → Frame → ℕ → Table rows (Code × X) → (X → Tell) → Inside → Word
told_in f name table tell own =
    let x = read (message f name table) own in word.Reply (record { session = session_of x.0.0; code = x.1.0.0.0; tell = tell x.1.0.0.1 })

abbrev pub asks : {X : Type 0} → Frame → ℕ → Table rows X → (X → Ask) → Message
asks f name table ask = record {
  name = name;
  passes = passes_tests f name table;
  most_bits = bits 6 f.kinds (message f name table);
  word_in = asked_in f name table ask;
}

abbrev pub tells : {X : Type 0} → Frame → ℕ → Table rows (Code × X) → (X → Tell) → Message
tells f name table tell = record {
  name = name;
  passes = passes_tests f name table;
  most_bits = bits 6 f.kinds (message f name table);
  word_in = told_in f name table tell;
}

-- ---- the word of a tree, by the first element of the body

abbrev pub word_by : List Message → ℕ → Inside → Word
word_by [] name own = word.Nothing
word_by (m ∷ more) name own = if m.name == name then m.word_in own else word_by more name own

abbrev pub word_named : List Message → Option (ℕ × Inside) → Inside → Word
word_named messages None own = word.Nothing
word_named messages (Some element) own = word_by messages element.0 own

abbrev pub word_inside : Frame → List Message → Inside → Word
word_inside f messages own = word_named messages (first_in (children own f.body)) own

abbrev pub tree_word_by : Frame → List Message → Tree → Word
tree_word_by f messages (Simple name value) = word.Nothing
tree_word_by f messages (Complex name attributes trees) = word_inside f messages (Holding attributes trees)

-- ---- what is written for a word

abbrev pub in_message : {X : Type 0} → Frame → ℕ → Table rows X → SessionId → X → Option Inside
in_message f name table s x = Some (written (message f name table) (framed s x))
