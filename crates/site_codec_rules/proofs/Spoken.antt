-- DIN SPEC 70121:2014: the requests of its profile.
use Rattle.std.proofs.Common.{◌≡◌, ℕ, ◌==◌, Bool, true, false, if◌then◌else◌, List, [], ◌∷◌, Option, Some, None, subst, sym}
use Rattle.exi_documents.specs.Trees.{Tree, Simple, Complex}
use Rattle.message_parts.specs.Contents.{Inside, Holding}
use Rattle.session_words.specs.declared.word.Request.{Request}
use Rattle.session_words.specs.declared.word.Word.{Word}
use Rattle.session_words.specs.declared.word.Word.TheVariants as word
use Rattle.din_schema.specs.declared.names.TheConstants.{BODY}
use Rattle.tree_words.specs.Named.{children, first_in}
use Rattle.message_tables.specs.Frame.{Message, word_by}
use Rattle.din_tables.specs.Words.{messages, word_named, word_of_tree}
use Rattle.din_word_laws.specs.Posts.{IsSpoken}

-- what a word asks is of the profile, where it is a request
abbrev IsSpokenWord : Word → Type 0
IsSpokenWord (word.Request r) = IsSpoken r.ask
IsSpokenWord other = Unit {0}

infixr 4 ◌&◌
-- what each of these messages asks is
data AllSpoken : List Message → Type 0 where
  all : AllSpoken []
  ◌&◌ : {m : Message} {ms : List Message} → ((own : Inside) → IsSpokenWord (m.word_in own)) → AllSpoken ms → AllSpoken (m ∷ ms)

all_spoken : AllSpoken messages
all_spoken =
    (λ own. tt) & (λ own. tt) & (λ own. tt) & (λ own. tt) & (λ own. tt) & (λ own. tt) & (λ own. tt) & (λ own. tt)
    & (λ own. tt) & (λ own. tt) & (λ own. tt) & (λ own. tt) & (λ own. tt) & (λ own. tt) & (λ own. tt) & (λ own. tt)
    & (λ own. tt) & (λ own. tt) & (λ own. tt) & (λ own. tt) & (λ own. tt) & (λ own. tt) & all

either : (b : Bool) (one other : Word) → IsSpokenWord one → IsSpokenWord other → IsSpokenWord (if b then one else other)
either true one other spoken more = spoken
either false one other spoken more = more

by_name : {ms : List Message} → AllSpoken ms → (name : ℕ) (own : Inside) → IsSpokenWord (word_by ms name own)
by_name all name own = tt
by_name (◌&◌ {m} {ms} spoken more) name own =
    either (m.name == name) (m.word_in own) (word_by ms name own) (spoken own) (by_name more name own)

of_body : (element : Option (ℕ × Inside)) (own : Inside) → IsSpokenWord (word_named element own)
of_body None own = tt
of_body (Some element) own = by_name all_spoken element.0 own

spoken : (tree : Tree) → IsSpokenWord (word_of_tree tree)
spoken (Simple name value) = tt
spoken (Complex name attributes trees) =
    of_body (first_in (children (Holding attributes trees) BODY)) (Holding attributes trees)

pub spoken_in : (tree : Tree) (r : Request) → word.Request r ≡ word_of_tree tree → IsSpoken r.ask
spoken_in tree r is = subst IsSpokenWord (sym is) (spoken tree)
