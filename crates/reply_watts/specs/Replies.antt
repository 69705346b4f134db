-- ISO 15118-2:2014, 8.3; DIN SPEC 70121:2014, 9.2: the watts of the reply whose tree, or whose body, this is.
use Rattle.std.specs.Prelude.{◌≡◌, ℕ, Option}
use Rattle.exi_documents.specs.Trees.{Tree}
use Rattle.message_parts.specs.Contents.{Inside}
use Rattle.session_words.specs.declared.word.Word.{Word}
use Rattle.session_words.specs.declared.word.Word.TheVariants as word
use Rattle.iso_schema.specs.declared.names.TheConstants.{BODY as ISO_BODY}
use Rattle.din_schema.specs.declared.names.TheConstants.{BODY as DIN_BODY}
use Rattle.tree_words.specs.Named.{root_children, first_in}
use Rattle.iso_tables.specs.Words as iso_words
use Rattle.din_tables.specs.Words as din_words
use Rattle.told_pasts.specs.Spelling.{SpelledWatts}
use Rattle.reply_watts.specs.Iso as iso
use Rattle.reply_watts.specs.Din as din

abbrev pub IsReply : Word → Type 0
IsReply (word.Request request) = ⊥
IsReply (word.Reply reply) = Unit {0}
IsReply word.Nothing = ⊥

-- ---- the first element of a body is that of a reply, and spells these watts

-- of this message
abbrev pub IsoElement : Inside → Option (ℕ × Inside) → SpelledWatts → Type 0
IsoElement own element s = IsReply (iso_words.word_named element own) × (s ≡ iso.body_watts element)

abbrev pub DinElement : Inside → Option (ℕ × Inside) → SpelledWatts → Type 0
DinElement own element s = IsReply (din_words.word_named element own) × (s ≡ din.body_watts element)

-- ---- a tree is that of a reply, and spells these watts

abbrev pub IsoTree : Tree → SpelledWatts → Type 0
IsoTree tree s = IsReply (iso_words.word_of_tree tree) × (s ≡ iso.body_watts (first_in (root_children tree ISO_BODY)))

abbrev pub DinTree : Tree → SpelledWatts → Type 0
DinTree tree s = IsReply (din_words.word_of_tree tree) × (s ≡ din.body_watts (first_in (root_children tree DIN_BODY)))
