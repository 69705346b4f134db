-- A text of the dialect that says the events of a document is the text of its tree, and the other way round.
use Rattle.std.proofs.Common.{◌≡◌, ℕ, Bool, true, List, [], ◌∷◌, ◌++◌, reverse, refl, sym, ap, subst, ◌∙◌, append_assoc, append-nil}
use Rattle.exi_schema.specs.Schemas.{PlainSchema}
use Rattle.exi_documents.specs.Documents.{Speller, SpellsDocument}
use Rattle.exi_documents.specs.Grammar.{Standing, Before, AtRoot, Inside, Behind, State, stands, Reaches}
use Rattle.exi_documents.specs.Trees.{Tree, Event, document_events}
use Rattle.exi_documents.specs.Values.{Entries, WritesValue}
use Rattle.dialect_text.specs.Dialect as dialect
use Rattle.tree_text.specs.Consistent.{are_consistent}
use Rattle.tree_text.specs.EventText.{text_end, Tells}
use Rattle.tree_text.specs.TreeText.{IsTreeText}
use Rattle.tree_text.specs.declared.print.TextEnd.{TextEnd}
use Rattle.tree_text.specs.declared.print.TextEnd.TheVariants as ends
use Rattle.document_laws.specs.Laws.{IsStanding}
use Rattle.document_laws.proofs.Standings.{standing_kept}
use Rattle.tree_text.proofs.Alike.{IsAlike, follows}
use Rattle.tree_text.proofs.Ahead.{HasForm, leads}
use Rattle.tree_text.proofs.Shortness.{written_form}
use Rattle.tree_text.proofs.Spelled.{spelled_told}
use Rattle.tree_text.proofs.Told.{has_written_text}
use Rattle.tree_text.proofs.Tied.{document_told}

-- a tree's text of the same events, and how far the dialect's is ahead
pub record Told (V : Speller) (s : PlainSchema) (events : List Event) (state : State) (said : dialect.Standing) (text : List ℕ) : Type 0 where
  pub told : List ℕ
  pub ahead : List ℕ
  pub tells : Tells V s events told state
  pub alike : IsAlike s (text_end events) state.standing said ahead
  pub same : text ≡ told ++ ahead

-- a text of the dialect of the same events
pub record Said (s : PlainSchema) (events : List Event) (state : State) (told : List ℕ) : Type 0 where
  pub standing : dialect.Standing
  pub ahead : List ℕ
  pub says : dialect.Says s events (told ++ ahead) standing
  pub alike : IsAlike s (text_end events) state.standing standing ahead

regroup : (a b c d e : List ℕ) → b ++ c ≡ d ++ e → (a ++ b) ++ c ≡ (a ++ d) ++ e
regroup a b c d e is = append_assoc a b c ∙ ap (λ (l : List ℕ). a ++ l) is ∙ sym (append_assoc a d e)

-- behind the root, and not before
ended : (s : PlainSchema) (end : TextEnd) (standing : Standing) (ahead : List ℕ) → IsAlike s end standing (dialect.Within []) ahead → (standing ≡ Behind) × (ahead ≡ [])
ended s end Before ahead is = let wrong : dialect.Within [] ≡ dialect.Before = is.0 in absurd cc
ended s end (AtRoot name kind) ahead is = let wrong : dialect.Within [] ≡ dialect.AtRoot name kind = is.2 in absurd cc
ended s end (Inside top above) ahead is =
    let wrong : dialect.Within [] ≡ dialect.Within (dialect.element top.place.kind is.0 ∷ _) = is.1 in absurd cc
ended s end Behind ahead is = (refl, is.1)

module _ (V : Speller) (s : PlainSchema) (fits : are_consistent s.kinds ≡ true) where
  pub said_told : (events : List Event) (bits : List Bool) (state : State) (text : List ℕ) (said : dialect.Standing) → Reaches V s events bits state → dialect.Says s events text said → Told V s events state said text
  said_told [] bits state text said r h =
      record {
        told = [];
        ahead = [];
        tells = (refl, r.1);
        alike = subst (λ (x : State). IsAlike s ends.Nothing x.standing said []) (sym r.1) (h.1, refl, refl);
        same = h.0;
      }
  said_told (event ∷ events) bits state text said r h =
      let before = said_told events r.1 r.0 h.1 h.0 r.3 h.3 in
      let next = follows V s fits (text_end events) r.0 state event r.2 before.ahead h.2 h.0 said before.alike r.4 h.4 in
      record {
        told = before.told ++ next.told;
        ahead = next.next;
        tells = (r.0, r.2, before.told, next.told, before.tells, r.4, next.adds, refl);
        alike = next.alike;
        same = h.5 ∙ ap (λ (l : List ℕ). l ++ h.2) before.same ∙ regroup before.told before.ahead h.2 next.told next.next next.same;
      }

  -- the events of a text of the dialect, if they are spelled, are those of a document of the tree with that text
  pub said_ends : (events : List Event) (bits : List Bool) (state : State) (text : List ℕ) → Reaches V s events bits state → dialect.IsDialectText s events text → state.standing ≡ Behind
  said_ends events bits state text r h =
      let t = said_told events bits state text (dialect.Within []) r h in (ended s (text_end events) state.standing t.ahead t.alike).0

  pub said_tree : (number : ℕ) (tree : Tree) (bits : List Bool) (state : State) (text : List ℕ) → Reaches V s (reverse (document_events number tree)) bits state →
      dialect.IsDialectText s (reverse (document_events number tree)) text → IsTreeText s tree text
  said_tree number tree bits state text r h =
      let events = reverse (document_events number tree) in
      let t = said_told events bits state text (dialect.Within []) r h in
      let none = (ended s (text_end events) state.standing t.ahead t.alike).1 in
      let whole : t.told ≡ text = sym (append-nil t.told) ∙ ap (λ (l : List ℕ). t.told ++ l) (sym none) ∙ sym t.same in
      subst (λ (l : List ℕ). IsTreeText s tree l) whole (document_told V s number tree t.told state t.tells)

  module _ (formed : HasForm V s) where
    tells_standing : (events : List Event) (state : State) (told : List ℕ) → Tells V s events told state → IsStanding s state.standing
    tells_standing [] state told h = subst (λ (x : State). IsStanding s x.standing) (sym h.1) tt
    tells_standing (event ∷ events) state told h = standing_kept V s h.0 state event h.1 (tells_standing events h.0 h.2 h.4) h.5

    pub told_said : (events : List Event) (state : State) (told : List ℕ) → Tells V s events told state → Said s events state told
    told_said [] state told h =
        record {
          standing = dialect.Before;
          ahead = [];
          says = (append-nil told ∙ h.0, refl);
          alike = subst (λ (x : State). IsAlike s ends.Nothing x.standing dialect.Before []) (sym h.1) (refl, refl, refl);
        }
    told_said (event ∷ events) state told h =
        let before = told_said events h.0 h.2 h.4 in
        let next = leads V s fits formed (text_end events) h.0 state event h.1 before.ahead h.3 before.standing (tells_standing events h.0 h.2 h.4) before.alike h.5 h.6 in
        record {
          standing = next.after;
          ahead = next.next;
          says = (
            before.standing,
            h.2 ++ before.ahead,
            next.added,
            before.says,
            next.adds,
            ap (λ (l : List ℕ). l ++ next.next) h.7 ∙ sym (regroup h.2 before.ahead next.added h.3 next.next next.same),
          );
          alike = next.alike;
        }

    -- behind the root it is a text of the dialect
    pub whole_said : (events : List Event) (entries : Entries) (told : List ℕ) → Tells V s events told (stands Behind entries) → dialect.IsDialectText s events told
    whole_said events entries told h =
        let t = told_said events (stands Behind entries) told h in
        let whole : told ++ t.ahead ≡ told = ap (λ (l : List ℕ). told ++ l) t.alike.1 ∙ append-nil told in
        subst (λ (l : List ℕ). dialect.Says s events l (dialect.Within [])) whole (subst (λ (x : dialect.Standing). dialect.Says s events (told ++ t.ahead) x) t.alike.0 t.says)

-- the text of a tree, as it is written, says the events of its document
pub encoded_said : (s : PlainSchema) → are_consistent s.kinds ≡ true → (number : ℕ) (tree : Tree) (text : List ℕ) (bits : List Bool) → IsTreeText s tree text →
    SpellsDocument WritesValue s number tree bits → dialect.IsDialectText s (reverse (document_events number tree)) text
encoded_said s fits number tree text bits is d =
    let told = spelled_told WritesValue s (has_written_text s) number tree text bits is d in
    whole_said WritesValue s fits (written_form s) (reverse (document_events number tree)) told.0 text told.1
