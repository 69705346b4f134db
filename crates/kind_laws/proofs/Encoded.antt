-- A tree that holds what its schema says has an encoding.
use Rattle.std.proofs.Common.{◌≡◌, ℕ, ◌+◌, ◌*◌, ◌/◌, ◌-◌, ◌^◌, ◌<◌, ◌≤◌, ◌&&◌, Bool, false, nat_le, List, [], ◌∷◌, ◌++◌, length, replicate, Some, refl, sym, ap, subst, ◌∙◌, arith, slice_get, drop, length-append}
use Rattle.std.proofs.lemmas.Bool.{ltb-true}
use Rattle.std.proofs.lemmas.List.{length-replicate, take_all}
use Rattle.std.specs.List.{AllByRecursion, list_all}
use Rattle.exi_spec.specs.Bits.{number_bits, bits_of}
use Rattle.exi_spec.specs.Plain.{bytes_in}
use Rattle.exi_spec.proofs.PlainLaws.{bytes_there}
use Rattle.exi_schema.specs.Schemas.{PlainSchema, is_root, are_roots, are_kinds}
use Rattle.exi_schema.specs.Plain.{PlainKind}
use Rattle.exi_schema.specs.declared.tables.Datatype.{Datatype}
use Rattle.exi_schema.specs.declared.tables.Member.{Member}
use Rattle.exi_schema.specs.declared.tables.RootOf.{RootOf}
use Rattle.exi_schema.proofs.Conditions.{and-l, and-r, all_get}
use Rattle.exi_documents.specs.Trees.{Value, Trees, none, simple, complex, Tree, Simple, Complex, alone}
use Rattle.exi_documents.specs.Values.{Entries, most_entries, IsValue, WritesValue}
use Rattle.exi_documents.specs.Documents.{SpellsTree, name_of, first, header}
use Rattle.document_laws.specs.Laws.{AreBytes}
use Rattle.kind_laws.specs.Kinds.{Values, HasValue, HaveValues, AreElements, member_of, FitsSchema}
use Rattle.kind_laws.specs.Texts.{text_in, attribute_texts, texts_of, IsAmong, HasFewTexts}
use Rattle.kind_laws.specs.Laws.{HasEncoding}
use Rattle.kind_laws.proofs.Lists.{same_head}
use Rattle.kind_laws.proofs.Division.{Remain, remain_all}
use Rattle.kind_laws.proofs.Building.{attributes_built, trees_built, simple_built}
use Rattle.kind_laws.proofs.Entering.{IsKnown, MayEnter, known_none, value_written}

-- ---- the texts of a tree may be entered

all_front : {X : Type 0} (P : X → Type 0) (xs ys : List X) → AllByRecursion P (xs ++ ys) → AllByRecursion P xs
all_front P [] ys all = tt
all_front P (x ∷ xs) ys all = (all.0, all_front P xs ys all.1)

all_back : {X : Type 0} (P : X → Type 0) (xs ys : List X) → AllByRecursion P (xs ++ ys) → AllByRecursion P ys
all_back P [] ys all = all
all_back P (x ∷ xs) ys all = all_back P xs ys all.1

-- a value whose text may be entered
abbrev pub MayBeWritten : List (List ℕ) → Values
MayBeWritten different datatype value = IsValue datatype value × MayEnter different value

module _ (different : List (List ℕ)) (kinds : List PlainKind) where
  abbrev Known : List (List ℕ) → Type 0
  Known texts = AllByRecursion (IsAmong different) texts

  known_values : (chosen : _) (values : List (ℕ × Value)) → HaveValues IsValue kinds chosen values → Known (attribute_texts values) → HaveValues (MayBeWritten different) kinds chosen values
  known_values [] values have all = have
  known_values (attribute ∷ chosen) [] have all = absurd have
  known_values (attribute ∷ chosen) (value ∷ values) have all =
      let own = have.1 in (
        have.0,
        (own.0, own.1, (own.2, all_front (IsAmong different) (text_in value.1) (attribute_texts values) all)),
        known_values chosen values have.2 (all_back (IsAmong different) (text_in value.1) (attribute_texts values) all),
      )

  known_elements : (members : List Member) (trees : Trees) → AreElements IsValue kinds members trees → Known (texts_of trees) → AreElements (MayBeWritten different) kinds members trees
  known_elements members none are all = are
  known_elements members (simple name value more) are all =
      let own = are.4 in (
        are.0,
        are.1,
        are.2,
        are.3,
        (own.0, own.1, (own.2, all_front (IsAmong different) (text_in value) (texts_of more) all)),
        known_elements are.1 more are.5 (all_back (IsAmong different) (text_in value) (texts_of more) all),
      )
  known_elements members (complex name attributes children more) are all =
      let left = all_back (IsAmong different) (attribute_texts attributes) (texts_of children ++ texts_of more) all in (
        are.0,
        are.1,
        are.2,
        are.3,
        are.4,
        are.5,
        are.6,
        are.7,
        record {
          chosen = are.8.chosen;
          are_chosen = are.8.are_chosen;
          have_values = known_values are.8.chosen attributes are.8.have_values (all_front (IsAmong different) (attribute_texts attributes) (texts_of children ++ texts_of more) all);
        },
        are.9,
        known_elements are.6 children are.10 (all_front (IsAmong different) (texts_of children) (texts_of more) left),
        known_elements are.1 more are.11 (all_back (IsAmong different) (texts_of children) (texts_of more) left),
      )

-- ---- the root

pub root_numbered : (s : PlainSchema) (i : ℕ) (root : RootOf) → slice_get s.roots i ≡ Some root → root.number < 2 ^ s.root_bits
root_numbered s i root h =
    let roots = and-r (are_kinds (length s.names) s.kinds) (are_roots s.root_bits (length s.names) s.kinds s.roots) (and-l _ _ (and-l _ _ s.fits)) in
    let three = and-l _ _ (and-l _ _ roots) in
    let is =
    all_get (is_root s.root_bits (length s.names) s.kinds) s.roots i root
    (and-r (nat_le 1 (length s.roots) && nat_le s.root_bits 32) (list_all (is_root s.root_bits (length s.names) s.kinds) s.roots) three) h in
    ltb-true root.number (2 ^ s.root_bits) (and-l _ _ (and-l _ _ (and-l _ _ (and-l _ _ is))))

pub record BuildsRoot (s : PlainSchema) (kind : ℕ) (tree : Tree) : Type 0 where
  pub bits : List Bool
  pub after : Entries
  pub spelled : SpellsTree WritesValue s.kinds kind [] tree bits after

module _ (s : PlainSchema) (different : List (List ℕ)) (few : length different ≤ most_entries) where
  spell : (datatype : Datatype) (entries : Entries) (name : ℕ) (value : Value) → MayBeWritten different datatype value → IsKnown different entries → (bits : List Bool) × (after : Entries) × WritesValue datatype entries name value bits after × IsKnown different after
  spell datatype entries name value may known = value_written different datatype entries name value few may.0 may.1 known

  root_built : (root : RootOf) (tree : Tree) → AreElements (MayBeWritten different) s.kinds (member_of root ∷ []) (alone tree) → BuildsRoot s root.kind tree
  root_built root (Simple name value) are =
      let same : member_of root ≡ are.0 = same_head (member_of root) are.0 [] are.1 are.2 in
      let built = simple_built WritesValue (MayBeWritten different) (IsKnown different) s.kinds spell root.kind [] name value (subst (λ (m : Member). HasValue (MayBeWritten different) s.kinds m.kind value) (sym same) are.4) (known_none different) in
      record { bits = built.bits; after = built.after; spelled = built.spelled }
  root_built root (Complex name attributes children) are =
      let same : member_of root ≡ are.0 = same_head (member_of root) are.0 [] are.1 are.2 in
      let is_kind = ap (λ (m : Member). slice_get s.kinds m.kind) same ∙ are.7 in
      let front =
      attributes_built WritesValue (MayBeWritten different) (IsKnown different) s.kinds spell (first root.kind) are.4 are.5 are.8.chosen [] attributes (record { is_kind = is_kind }) are.8.are_chosen are.8.have_values (known_none different) in
      let stands = front.stands in
      let begun : Remain front.there.copies (drop front.there.particle are.5) are.6 =
      subst (λ (c : ℕ). Remain c (drop front.there.particle are.5) are.6) (sym stands.same_copies)
      (subst (λ (n : ℕ). Remain 0 (drop n are.5) are.6) (sym stands.same_particle) (remain_all are.5 are.6 are.9)) in
      let inside =
      trees_built WritesValue (MayBeWritten different) (IsKnown different) s.kinds spell front.there are.4 are.5 are.6 front.after children
      (record { is_kind = ap (λ (k : ℕ). slice_get s.kinds k) stands.same_kind ∙ is_kind }) front.past begun are.10 front.kept in
      record { bits = front.bits ++ inside.bits; after = inside.after; spelled = record { there = front.there; within = front.after; front = front.bits; inside = inside.bits; begun = front.spelled; ended = inside.spelled; bits_are = refl } }

root_named : (root : RootOf) (tree : Tree) (V : Values) (kinds : List PlainKind) → AreElements V kinds (member_of root ∷ []) (alone tree) → name_of tree ≡ root.name
root_named root (Simple name value) V kinds are = are.3 ∙ sym (ap (λ (m : Member). m.name) (same_head (member_of root) are.0 [] are.1 are.2))
root_named root (Complex name attributes children) V kinds are = are.3 ∙ sym (ap (λ (m : Member). m.name) (same_head (member_of root) are.0 [] are.1 are.2))

-- ---- a document, and its payload

pub record IsFilled (bits : List Bool) : Type 0 where
  pub payload : List ℕ
  pub are_bytes : AreBytes payload
  pub pad : ℕ
  pub few : pad < 8
  pub bits_are : bits_of payload ≡ bits ++ replicate pad false

pub filled : (bits : List Bool) → IsFilled bits
filled bits =
    let n = (length bits + 7) / 8 in
    let pad = 8 * n - length bits in
    let all = bits ++ replicate pad false in
    let long : length all ≡ 8 * n = omega (arith, length-append bits (replicate pad false), length-replicate pad false) in
    let there = bytes_there n all (omega (arith, long)) in
    record {
      payload = bytes_in n all;
      are_bytes = there.1.range;
      pad = pad;
      few = omega arith;
      bits_are = sym there.1.spelled ∙ take_all (8 * n) all (omega (arith, long));
    }

pub encoded : (s : PlainSchema) (tree : Tree) → FitsSchema s tree → HasFewTexts tree → HasEncoding s tree
encoded s tree fits few =
    let root = fits.root in
    let are = known_elements few.different s.kinds (member_of root ∷ []) (alone tree) fits.elements few.each in
    let built = root_built s few.different few.few root tree are in
    let named = root_named root tree IsValue s.kinds fits.elements in
    let front = number_bits s.root_bits root.number in
    let bits = header ++ (front ++ built.bits) in
    let whole = filled bits in
    record {
      payload = whole.payload;
      are_bytes = whole.are_bytes;
      encoding =
          record {
            number = root.number;
            bits = bits;
            pad = whole.pad;
            spelled =
                record {
                  kind = root.kind;
                  front = front;
                  inside = built.bits;
                  after = built.after;
                  named = (fits.index, fits.found ∙ ap (λ (n : ℕ). let r : RootOf = record { number = root.number; name = n; kind = root.kind } in Some r) (sym named));
                  numbered = record { range = root_numbered s fits.index root fits.found; spelled = refl };
                  spelled = built.spelled;
                  bits_are = refl;
                };
            few = whole.few;
            bits_are = whole.bits_are;
          };
    }
