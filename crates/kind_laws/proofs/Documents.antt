-- The documents of a schema are those of the trees that hold what it says, of at most 8,192 different texts.
use Rattle.std.proofs.Common.{◌≡◌, ℕ, ◌≤◌, ◌↔◌, Bool, List, [], ◌∷◌, ◌++◌, length, reverse, drop, slice_get, refl, sym, ap, subst, ◌∙◌, arith}
use Rattle.std.proofs.lemmas.List.{reverse-reverse}
use Rattle.exi_strings.specs.Table.{global_of}
use Rattle.exi_schema.specs.Schemas.{PlainSchema}
use Rattle.exi_schema.specs.declared.tables.RootOf.{RootOf}
use Rattle.exi_documents.specs.Trees.{Tree, Simple, Complex, alone, Event, document_events}
use Rattle.exi_documents.specs.Values.{Entries, most_entries, IsValue, SpellsValue}
use Rattle.exi_documents.specs.Documents.{SpellsTree, SpellsDocument, name_of, first}
use Rattle.document_laws.proofs.Apart.{documents_apart}
use Rattle.document_laws.proofs.Encodings.{encoding_spelled}
use Rattle.document_laws.proofs.Told.{events_told}
use Rattle.document_laws.proofs.Runs.{document_tells}
use Rattle.kind_laws.specs.Kinds.{AreElements, AreDivided, member_of}
use Rattle.kind_laws.specs.Texts.{text_in, attribute_texts, texts_of}
use Rattle.kind_laws.specs.Laws.{HasEncoding, HasDocument, IsToldIn, IsOfSchema}
use Rattle.kind_laws.proofs.Division.{Remain}
use Rattle.kind_laws.proofs.Leading.{MayBePassed, none_passed, divided_all}
use Rattle.kind_laws.proofs.Held.{sound_in, is_complex, attributes_held, trees_held, simple_held}
use Rattle.kind_laws.proofs.Entering.{global_length}
use Rattle.kind_laws.proofs.Told.{IsProper, proper_none, value_told, Among, all_grown, both_among, simple_among, attributes_among, trees_among}
use Rattle.kind_laws.proofs.Encoded.{encoded}

module _ (s : PlainSchema) where
  pub record HeldRoot (root : RootOf) (tree : Tree) (after : Entries) : Type 0 where
    pub elements : AreElements IsValue s.kinds (member_of root ∷ []) (alone tree)
    pub proper : IsProper after
    pub among : Among after (texts_of (alone tree))

  root_held : (number kind : ℕ) (tree : Tree) (bits : List Bool) (after : Entries) → SpellsTree SpellsValue s.kinds kind [] tree bits after → HeldRoot (record { number = number; name = name_of tree; kind = kind }) tree after
  root_held number kind (Simple name value) bits after h =
      let root : RootOf = record { number = number; name = name; kind = kind } in
      let own = simple_held SpellsValue IsValue IsProper s value_told kind [] after name value bits h proper_none in
      record {
        elements = (member_of root, [], refl, refl, own.0, refl);
        proper = own.1;
        among = both_among after (text_in value) [] (simple_among s.kinds kind [] after name value bits h).0 tt;
      }
  root_held number kind (Complex name attributes children) bits after h =
      let root : RootOf = record { number = number; name = name; kind = kind } in
      let own = is_complex SpellsValue s.kinds (first kind) h.there [] h.within after attributes children h.front h.inside refl h.begun h.ended in
      let front = attributes_held SpellsValue IsValue IsProper s value_told (first kind) h.there own.0 own.1 [] h.within attributes h.front (record { is_kind = own.2 }) h.begun proper_none in
      let sound = sound_in s kind own.0 own.1 own.2 in
      let stands = front.stands in
      let may_begin : MayBePassed h.there.copies (drop h.there.particle own.1) =
      subst (λ (c : ℕ). MayBePassed c (drop h.there.particle own.1)) (sym stands.same_copies) (subst (λ (n : ℕ). MayBePassed 0 (drop n own.1)) (sym stands.same_particle) (none_passed own.1 sound)) in
      let inside = trees_held SpellsValue IsValue IsProper s value_told h.there own.0 own.1 h.within after children h.inside (record { is_kind = ap (λ (k : ℕ). slice_get s.kinds k) stands.same_kind ∙ own.2 }) sound may_begin h.ended front.kept in
      let all = front.hold inside.past in
      let divided : AreDivided own.1 inside.members =
      divided_all own.1 inside.members
      (subst (λ (n : ℕ). Remain 0 (drop n own.1) inside.members) stands.same_particle (subst (λ (c : ℕ). Remain c (drop h.there.particle own.1) inside.members) stands.same_copies inside.remain)) in
      let told = attributes_among s.kinds (first kind) h.there [] h.within attributes h.front h.begun in
      let told_inside = trees_among s.kinds h.there h.within after children h.inside h.ended in
      record {
        elements = (
          member_of root,
          [],
          refl,
          refl,
          own.0,
          own.1,
          inside.members,
          own.2,
          record { chosen = all.0; are_chosen = all.1; have_values = all.2 },
          divided,
          inside.elements,
          refl,
        );
        proper = inside.kept;
        among =
            both_among after (attribute_texts attributes) (texts_of children ++ []) (all_grown h.within after (attribute_texts attributes) told_inside.1 told.0)
            (both_among after (texts_of children) [] told_inside.0 tt);
      }

  -- what a document spells is of the schema
  pub document_fits : (number : ℕ) (tree : Tree) (bits : List Bool) → SpellsDocument SpellsValue s number tree bits → IsOfSchema s tree
  document_fits number tree bits d =
      let held = root_held number d.kind tree d.inside d.after d.spelled in (
        record { root = record { number = number; name = name_of tree; kind = d.kind }; index = d.named.0; found = d.named.1; elements = held.elements },
        record {
          different = global_of d.after;
          few = let few : length d.after ≤ most_entries = held.proper.few in omega (arith, few, global_length d.after);
          each = held.among;
        },
      )

  of_document : (tree : Tree) → HasDocument s tree → IsOfSchema s tree
  of_document tree h = document_fits h.document.number tree h.document.bits h.document.spelled

  document_of : (tree : Tree) → HasEncoding s tree → HasDocument s tree
  document_of tree h = record { payload = h.payload; document = encoding_spelled s tree h.payload h.encoding }

  pub encoded_exactly : (tree : Tree) → HasEncoding s tree ↔ IsOfSchema s tree
  encoded_exactly tree = ((λ h. of_document tree (document_of tree h)), (λ h. encoded s tree h.0 h.1))

  pub spelled_exactly : (tree : Tree) → HasDocument s tree ↔ IsOfSchema s tree
  spelled_exactly tree = (of_document tree, (λ h. document_of tree (encoded s tree h.0 h.1)))

  -- ---- the grammar

  told_document : (tree : Tree) → IsToldIn s tree → IsOfSchema s tree
  told_document tree h =
      let told = events_told SpellsValue s (reverse (document_events h.number tree)) h.bits h.entries h.reached in
      let same : document_events h.number tree ≡ document_events told.0 told.1 =
      sym (reverse-reverse (document_events h.number tree)) ∙ ap (λ (l : List Event). reverse l) told.2 ∙ reverse-reverse (document_events told.0 told.1) in
      let trees : tree ≡ told.1 = (documents_apart h.number told.0 tree told.1 same).1 in
      subst (λ (t : Tree). IsOfSchema s t) (sym trees) (document_fits told.0 told.1 h.bits told.3)

  document_told : (tree : Tree) → HasDocument s tree → IsToldIn s tree
  document_told tree h =
      let d = h.document in
      let told = document_tells SpellsValue s d.number tree d.bits d.spelled in
      record { number = d.number; bits = d.bits; entries = told.0; reached = told.1 }

  pub told_exactly : (tree : Tree) → IsToldIn s tree ↔ IsOfSchema s tree
  told_exactly tree = (told_document tree, (λ h. document_told tree (document_of tree (encoded s tree h.0 h.1))))
