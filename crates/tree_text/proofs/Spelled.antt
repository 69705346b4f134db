-- The events that bits spell tell one text, and those of a tree tell its text.
use Rattle.std.proofs.Common.{ℕ, Bool, List, [], ◌∷◌, ◌++◌, reverse, refl, subst}
use Rattle.exi_schema.specs.Schemas.{PlainSchema}
use Rattle.exi_documents.specs.Documents.{Speller, SpellsDocument}
use Rattle.exi_documents.specs.Grammar.{State, Behind, stands, Reaches}
use Rattle.exi_documents.specs.Trees.{Tree, Event, document_events}
use Rattle.exi_documents.specs.Values.{Entries}
use Rattle.document_laws.proofs.Runs.{document_tells}
use Rattle.tree_text.specs.TreeText.{IsTreeText}
use Rattle.tree_text.specs.EventText.{text_end, Tells}
use Rattle.tree_text.proofs.OneText.{one_tree_text}
use Rattle.tree_text.proofs.Tied.{document_told}
use Rattle.document_laws.proofs.Standings.{standing_reached}
use Rattle.tree_text.proofs.Told.{HasTexts, named_reached, adds}

module _ (V : Speller) (s : PlainSchema) (texts : HasTexts V s) where
  pub events_have_text : (events : List Event) (bits : List Bool) (state : State) → Reaches V s events bits state → (text : List ℕ) × Tells V s events text state
  events_have_text [] bits state h = ([], (refl, h.1))
  events_have_text (event ∷ events) bits state h =
      let front = events_have_text events h.1 h.0 h.3 in
      let here = standing_reached V s events h.1 h.0 h.3 in
      let named = named_reached V s texts events h.1 h.0 h.3 in
      let more = adds V s texts (text_end events) h.0 state event h.2 here named h.4 in
      (front.0 ++ more.0, (h.0, h.2, front.0, more.0, front.1, h.4, more.1, refl))

  pub tree_told : (number : ℕ) (tree : Tree) (text : List ℕ) (bits : List Bool) (state : State) → IsTreeText s tree text →
      Reaches V s (reverse (document_events number tree)) bits state → Tells V s (reverse (document_events number tree)) text state
  tree_told number tree text bits state is h =
      let told = events_have_text (reverse (document_events number tree)) bits state h in
      let same = one_tree_text s tree told.0 text (document_told V s number tree told.0 state told.1) is in
      subst (λ (l : List ℕ). Tells V s (reverse (document_events number tree)) l state) same told.1

  pub spelled_told : (number : ℕ) (tree : Tree) (text : List ℕ) (bits : List Bool) → IsTreeText s tree text →
      SpellsDocument V s number tree bits → (entries : Entries) × Tells V s (reverse (document_events number tree)) text (stands Behind entries)
  spelled_told number tree text bits is d =
      let reaches = document_tells V s number tree bits d in
      (reaches.0, tree_told number tree text bits (stands Behind reaches.0) is reaches.1)

  pub spelled_has_text : (number : ℕ) (tree : Tree) (bits : List Bool) → SpellsDocument V s number tree bits → (text : List ℕ) × IsTreeText s tree text
  spelled_has_text number tree bits d =
      let reaches = document_tells V s number tree bits d in
      let told = events_have_text (reverse (document_events number tree)) bits (stands Behind reaches.0) reaches.1 in
      (told.0, document_told V s number tree told.0 (stands Behind reaches.0) told.1)
