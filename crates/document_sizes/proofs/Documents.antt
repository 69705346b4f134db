-- What is written for a document is no more than its weight.
use Rattle.std.proofs.Common.{◌≡◌, ℕ, ◌+◌, ◌*◌, ◌^◌, ◌≤◌, Bool, true, false, List, [], ◌∷◌, ◌++◌, length, length-append, replicate, ap, arith}
use Rattle.std.specs.List.{list_all}
use Rattle.std.proofs.lemmas.List.{length-replicate}
use Rattle.std.proofs.Math.Pow.{pow_mono}
use Rattle.exi_spec.specs.Bits.{number_bits}
use Rattle.exi_spec.proofs.BitLaws.{length-number_bits, length-bits_of}
use Rattle.exi_schema.specs.declared.places.Place.{Place}
use Rattle.exi_schema.specs.declared.places.Step.TheVariants.{Attribute, End}
use Rattle.exi_schema.specs.Plain.{PlainKind}
use Rattle.exi_schema.specs.Schemas.{PlainSchema}
use Rattle.exi_documents.specs.Trees.{Value, Trees, none, simple, complex, Tree, Simple, Complex}
use Rattle.exi_documents.specs.Values.{Entries, WritesValue}
use Rattle.exi_documents.specs.Documents.{SpellsSimple, SpellsAttributes, SpellsTrees, SpellsTree, SpellsDocument, IsEncoding, element, first, header}
use Rattle.message_parts.specs.Documents.{PassesBytes}
use Rattle.document_sizes.specs.Sizes.{is_narrow, has_narrow_codes, simple_weight, attributes_weight, trees_weight, tree_weight, document_weight}
use Rattle.document_sizes.proofs.Codes.{step_short, datatype_narrow}
use Rattle.document_sizes.proofs.Values.{value_small}

some_power : (w : ℕ) → 1 ≤ 2 ^ w
some_power w = pow_mono {i = 0} (omega arith)

module _ (w : ℕ) (kinds : List PlainKind) (narrow : list_all (is_narrow w) kinds ≡ true) where
  simple_small : (kind name : ℕ) (entries after : Entries) (value : Value) (bits : List Bool) → SpellsSimple WritesValue kinds kind entries name value bits after → length bits ≤ simple_weight w value
  simple_small kind name entries after value bits s =
      let own = value_small w s.datatype entries name value s.inside after (datatype_narrow w kinds narrow kind s.datatype s.is_simple) s.spelled in
      omega (arith, own, ap length s.bits_are, length-append (number_bits 1 0) (s.inside ++ number_bits 1 0), length-append s.inside (number_bits 1 0), length-number_bits 1 0)

  attributes_small : (here there : Place) (entries after : Entries) (attributes : List (ℕ × Value)) (bits : List Bool) → SpellsAttributes WritesValue kinds here entries attributes bits there after → length bits ≤ attributes_weight w attributes
  attributes_small here there entries after [] bits h = omega (arith, ap length h.0)
  attributes_small here there entries after (attribute ∷ attributes) bits h =
      let code = step_short w kinds narrow here (Attribute attribute.0 h.kind h.next) h.code (some_power w) h.starts in
      let own = value_small w h.datatype entries attribute.0 attribute.1 h.inside h.middle (datatype_narrow w kinds narrow h.kind h.datatype h.is_simple) h.spelled in
      let more = attributes_small h.next there h.middle after attributes h.rest h.behind in
      omega (arith, code, own, more, ap length h.bits_are, length-append h.code (h.inside ++ h.rest), length-append h.inside h.rest)

  trees_small : (here : Place) (entries after : Entries) (trees : Trees) (bits : List Bool) → SpellsTrees WritesValue kinds here entries trees bits after → length bits ≤ trees_weight w trees
  trees_small here entries after none bits h = step_short w kinds narrow here End bits (some_power w) h.0
  trees_small here entries after (simple name value more) bits h =
      let code = step_short w kinds narrow here (element name h.kind h.next) h.code (some_power w) h.starts in
      let own = simple_small h.kind name entries h.middle value h.inside h.spelled in
      let later = trees_small h.next h.middle after more h.rest h.behind in
      omega (arith, code, own, later, ap length h.bits_are, length-append h.code (h.inside ++ h.rest), length-append h.inside h.rest)
  trees_small here entries after (complex name attributes children more) bits h =
      let c = h.spelled in
      let code = step_short w kinds narrow here (element name h.kind h.next) h.code (some_power w) h.starts in
      let front = attributes_small (first h.kind) c.there entries c.within attributes c.front c.begun in
      let inside = trees_small c.there c.within h.middle children c.inside c.ended in
      let later = trees_small h.next h.middle after more h.rest h.behind in
      omega (arith, code, front, inside, later, ap length h.bits_are, ap length c.bits_are, length-append h.code (h.inside ++ h.rest), length-append h.inside h.rest, length-append c.front c.inside)

  tree_small : (kind : ℕ) (after : Entries) (tree : Tree) (bits : List Bool) → SpellsTree WritesValue kinds kind [] tree bits after → length bits ≤ tree_weight w tree
  tree_small kind after (Simple name value) bits h = simple_small kind name [] after value bits h
  tree_small kind after (Complex name attributes children) bits h =
      let front = attributes_small (first kind) h.there [] h.within attributes h.front h.begun in
      let inside = trees_small h.there h.within after children h.inside h.ended in
      omega (arith, front, inside, ap length h.bits_are, length-append h.front h.inside)

pub document_small : (w : ℕ) (s : PlainSchema) (number : ℕ) (tree : Tree) (bits : List Bool) → has_narrow_codes w s ≡ true → SpellsDocument WritesValue s number tree bits → length bits ≤ document_weight w s tree
document_small w s number tree bits narrow d =
    let root = tree_small w s.kinds narrow d.kind d.after tree d.inside d.spelled in
    omega (arith, root, ap length d.bits_are, length-append header (d.front ++ d.inside), length-append d.front d.inside, length-number_bits 8 128, ap length d.numbered.spelled, length-number_bits s.root_bits number)

pub encoding_small : (w : ℕ) (s : PlainSchema) (tree : Tree) (payload : List ℕ) → has_narrow_codes w s ≡ true → IsEncoding s tree payload → 8 * length payload ≤ 7 + document_weight w s tree
encoding_small w s tree payload narrow e =
    let few = document_small w s e.number tree e.bits narrow e.spelled in
    omega (arith, few, e.few, length-bits_of payload, ap length e.bits_are, length-append e.bits (replicate e.pad false), length-replicate e.pad false)

pub document_fits : (w : ℕ) (s : PlainSchema) (number : ℕ) (tree : Tree) (bytes : ℕ) → has_narrow_codes w s ≡ true → document_weight w s tree ≤ 8 * bytes → PassesBytes s number tree bytes → ⊥
document_fits w s number tree bytes narrow light passes =
    let few = document_small w s number tree passes.0 narrow passes.1 in
    omega (arith, few, light, passes.2)
