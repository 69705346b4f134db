-- Each state of a document goes on to its end.
use Rattle.std.proofs.Common.{◌≡◌, ℕ, zero, suc, pos, ◌<◌, ◌≤◌, ◌==◌, Bool, if◌then◌else◌, List, [], ◌∷◌, ◌++◌, length, drop, reverse, Option, Some, None, refl, sym, ap, subst, ◌∙◌, arith, slice_get, append-nil, inr}
use Rattle.std.proofs.lemmas.Bool.{leb-true}
use Rattle.std.proofs.lemmas.List.{reverse-append, reverse-reverse}
use Rattle.std.specs.List.{AllByRecursion}
use Rattle.exi_spec.specs.Bits.{number_bits, bits_of}
use Rattle.exi_spec.specs.Items.{shortest_unsigned, shortest_integer}
use Rattle.exi_spec.proofs.ShortestLaws.{shortest}
use Rattle.exi_schema.specs.declared.tables.AttributeOf.{AttributeOf}
use Rattle.exi_schema.specs.declared.tables.Datatype.{Datatype}
use Rattle.exi_schema.specs.declared.tables.Datatype.TheVariants.{Bool as BoolType, Named, Bounded, Unsigned, Signed, Binary, Text as TextType}
use Rattle.exi_schema.specs.declared.tables.RootOf.{RootOf}
use Rattle.exi_schema.specs.declared.places.Place.{Place}
use Rattle.exi_schema.specs.declared.places.Root.TheVariants.{Kind}
use Rattle.exi_schema.specs.declared.places.Step.{Step}
use Rattle.exi_schema.specs.declared.places.Step.TheVariants.{End, Characters}
use Rattle.exi_schema.specs.Plain.{PlainKind, valued, containing, PlainParticle}
use Rattle.exi_schema.specs.Schemas.{PlainSchema, are_roots, are_kinds}
use Rattle.exi_schema.specs.Offers.{offers, IsPlaceIn, IsPlaceOf, IsPlace}
use Rattle.exi_schema.specs.Steps.{simple_at, datatype_of, IsRoot}
use Rattle.exi_schema.proofs.Conditions.{and-l, and-r, datatype_fits}
use Rattle.exi_schema.proofs.Fitting.{first_place}
use Rattle.exi_documents.specs.Trees.{Value, Truth, Ordinal, Number, Bytes, Text, Event, Document, Start, EndElement, Content, attribute_events, events_of, document_events}
use Rattle.exi_documents.specs.Values.{Entries, most_entries, SpellsValue, WritesValue}
use Rattle.exi_documents.specs.Documents.{SpellsStep, first, header}
use Rattle.exi_documents.specs.Grammar.{Opened, Standing, Before, AtRoot, Inside, Behind, State, start, opened, around, stands, Reaches}
use Rattle.document_laws.specs.Laws.{IsInRange, IsStanding, IsState}
use Rattle.document_laws.proofs.Written.{value_spelled, range_at}
use Rattle.document_laws.proofs.Offered.{offers_simple, one_offered}
use Rattle.document_laws.proofs.Fits.{root_kind}
use Rattle.document_laws.proofs.Runs.{Runs, runs_both, reaches_runs, to_start, simple_runs, attributes_run, trees_run}
use Rattle.document_laws.proofs.OneTree.{start_is, run_kept}
use Rattle.document_laws.proofs.Told.{events_told}
use Rattle.kind_laws.specs.Laws.{BeginsDocument}
use Rattle.kind_laws.proofs.Entering.{code_written}
use Rattle.kind_laws.proofs.Encoded.{root_numbered}
use Rattle.kind_laws.proofs.Division.{Remain}
use Rattle.kind_laws.proofs.Building.{simple_built, attributes_built, trees_built}
use Rattle.kind_laws.proofs.Filling.{IsLeast, least_value, elements_filled, particles_fill, attributes_fill}

-- ---- the least value is spelled, and enters no text

abbrev HasRoom : Entries → Type 0
HasRoom entries = length entries ≤ most_entries

abbrev Spelled : Datatype → Entries → ℕ → Value → Type 0
Spelled datatype entries name value = (bits : List Bool) × (after : Entries) × SpellsValue datatype entries name value bits after × HasRoom after

written_spelled : (datatype : Datatype) (entries : Entries) (name : ℕ) (value : Value) (bits : List Bool) → IsInRange datatype → HasRoom entries → WritesValue datatype entries name value bits entries → Spelled datatype entries name value
written_spelled datatype entries name value bits range room h = (bits, entries, value_spelled datatype entries name value range bits entries h, room)

least_spelled : (datatype : Datatype) (entries : Entries) (name : ℕ) (value : Value) → IsLeast datatype value → HasRoom entries → Spelled datatype entries name value
least_spelled BoolType entries name (Truth truth) is room = written_spelled BoolType entries name (Truth truth) (truth ∷ []) is.1 room (refl, refl)
least_spelled (Named count) entries name (Ordinal ordinal) is room =
    let code = code_written count ordinal is.0 in written_spelled (Named count) entries name (Ordinal ordinal) code.0 is.1 room (code.1, refl)
least_spelled (Bounded least count) entries name (Number v) is room =
    let own = is.0 in let code = code_written count own.0 own.1 in written_spelled (Bounded least count) entries name (Number v) code.0 is.1 room ((own.0, own.2, code.1), refl)
least_spelled (Unsigned most) entries name (Number (pos n)) is room = written_spelled (Unsigned most) entries name (Number (pos n)) (shortest_unsigned n) is.1 room (is.0, refl, refl)
least_spelled (Signed least most) entries name (Number v) is room = let own = is.0 in written_spelled (Signed least most) entries name (Number v) (shortest_integer v) is.1 room (own.0, own.1, refl, refl)
least_spelled (Binary most) entries name (Bytes bytes) is room =
    written_spelled (Binary most) entries name (Bytes bytes) (shortest_unsigned (length bytes) ++ bits_of bytes) is.1 room (is.0, refl, refl)
least_spelled (TextType most) entries name (Text []) is room = (
  shortest_unsigned 2 ++ [],
  entries,
  (record { within = is.0.0; spelled = inr ((shortest_unsigned 2, [], (shortest 2 (omega arith)).spelled, refl, refl), refl) }, room),
  room,
)
least_spelled (TextType most) entries name (Text (c ∷ cs)) is room = let wrong : (c ∷ cs) ∷ [] ≡ [] = is.2 in absurd cc
least_spelled _ entries name _ is room = absurd is.0

same_place : (k particle copies attributes : ℕ) → particle ≡ 0 → copies ≡ 0 → attributes ≡ 0 → record { kind = k; particle = particle; copies = copies; attributes = attributes } ≡ first k
same_place k particle copies attributes p c a =
    ap (λ (n : ℕ). let there : Place = record { kind = k; particle = n; copies = copies; attributes = attributes } in there) p
    ∙ ap (λ (n : ℕ). let there : Place = record { kind = k; particle = 0; copies = n; attributes = attributes } in there) c
    ∙ ap (λ (n : ℕ). let there : Place = record { kind = k; particle = 0; copies = 0; attributes = n } in there) a

module _ (s : PlainSchema) where
  -- events that go on from a state to another
  abbrev GoesTo : State → Standing → Type 0
  GoesTo old standing = (events : List Event) × (bits : List Bool) × (after : Entries) × Runs SpellsValue s old events bits (stands standing after) × HasRoom after

  -- ---- the innermost element ends

  end_run : (top : Opened) (above : List Opened) (entries : Entries) (bits : List Bool) → HasRoom entries → SpellsStep s.kinds top.place End bits → GoesTo (stands (Inside top above) entries) (around above)
  end_run top above entries bits room h = (EndElement ∷ [], bits, entries, (stands (around above) entries, bits, [], (h, refl), (refl, refl), sym (append-nil bits)), room)

  simple_first : (top : Opened) (above : List Opened) (entries : Entries) (datatype : Datatype) → slice_get s.kinds top.place.kind ≡ Some (valued datatype) → top.place ≡ first top.place.kind → HasRoom entries → GoesTo (stands (Inside top above) entries) (around above)
  simple_first top above entries datatype is at room =
      let own : simple_at s.kinds top.place.kind ≡ Some datatype = ap datatype_of is in
      let least = least_value datatype (datatype_fits s top.place.kind datatype own) (range_at s top.place.kind datatype own) in
      let built = simple_built SpellsValue IsLeast HasRoom s.kinds least_spelled top.place.kind entries top.name least.0 (datatype, own, least.1) room in
      let same : opened top.name (first top.place.kind) ≡ top = ap (λ (p : Place). opened top.name p) (sym at) in
      subst (λ (o : Opened). GoesTo (stands (Inside o above) entries) (around above)) same
      (Content least.0 ∷ EndElement ∷ [], built.bits, built.after, simple_runs SpellsValue s top.name top.place.kind above entries built.after least.0 built.bits built.spelled, built.kept)

  simple_behind : (top : Opened) (above : List Opened) (entries : Entries) (datatype : Datatype) → slice_get s.kinds top.place.kind ≡ Some (valued datatype) → top.place.particle ≡ 1 → HasRoom entries → GoesTo (stands (Inside top above) entries) (around above)
  simple_behind top above entries datatype is at room =
      let own : simple_at s.kinds top.place.kind ≡ Some datatype = ap datatype_of is in
      let characters : Step = Characters (record { kind = top.place.kind; particle = 1; copies = 0; attributes = 0 }) in
      let last : offers s.kinds top.place ≡ End ∷ [] = offers_simple s.kinds top.place datatype own ∙ ap (λ (n : ℕ). (if n == 0 then characters else End) ∷ []) at in
      end_run top above entries (number_bits 1 0) room (one_offered s.kinds top.place End last)

  simple_by : (particle : ℕ) (top : Opened) (above : List Opened) (entries : Entries) (datatype : Datatype) → slice_get s.kinds top.place.kind ≡ Some (valued datatype) → IsPlaceIn top.place (valued datatype) → top.place.particle ≡ particle → HasRoom entries → GoesTo (stands (Inside top above) entries) (around above)
  simple_by zero top above entries datatype is at start room =
      let none_yet : top.place.attributes ≡ 0 = at.0 in
      let no_copies : top.place.copies ≡ 0 = at.2 in
      let k = top.place.kind in
      let place_is : top.place ≡ first k = same_place k top.place.particle top.place.copies top.place.attributes start no_copies none_yet in
      simple_first top above entries datatype is place_is room
  simple_by (suc zero) top above entries datatype is at start room = simple_behind top above entries datatype is start room
  simple_by (suc (suc n)) top above entries datatype is at start room = absurd (omega (arith, at.1, start))

  complex_ends : (top : Opened) (above : List Opened) (entries : Entries) (declared : List AttributeOf) (particles : List PlainParticle) → slice_get s.kinds top.place.kind ≡ Some (containing declared particles) → HasRoom entries → GoesTo (stands (Inside top above) entries) (around above)
  complex_ends top above entries declared particles is room =
      let here = top.place in
      let attributes = attributes_fill s here.kind declared particles is here.attributes in
      let front = attributes_built SpellsValue IsLeast HasRoom s.kinds least_spelled here declared particles attributes.0 entries attributes.1 (record { is_kind = is }) attributes.2 attributes.3 room in
      let inside = particles_fill s here.kind declared particles is here.particle here.copies in
      let children = elements_filled s inside.0 inside.2 in
      let stands_there = front.stands in
      let left : Remain front.there.copies (drop front.there.particle particles) inside.0 =
      subst (λ (c : ℕ). Remain c (drop front.there.particle particles) inside.0) (sym stands_there.same_copies)
      (subst (λ (n : ℕ). Remain here.copies (drop n particles) inside.0) (sym stands_there.same_particle) inside.1) in
      let built =
      trees_built SpellsValue IsLeast HasRoom s.kinds least_spelled front.there declared particles inside.0 front.after children.0
      (record { is_kind = ap (λ (k : ℕ). slice_get s.kinds k) stands_there.same_kind ∙ is }) front.past left children.1 front.kept in (
        attribute_events attributes.1 ++ (events_of children.0 ++ (EndElement ∷ [])),
        front.bits ++ built.bits,
        built.after,
        runs_both SpellsValue s (stands (Inside top above) entries) (stands (Inside (opened top.name front.there) above) front.after) (stands (around above) built.after) (attribute_events attributes.1) (events_of children.0 ++ (EndElement ∷ [])) front.bits built.bits
            (attributes_run SpellsValue s top.name above here front.there entries front.after attributes.1 front.bits front.spelled)
            (trees_run SpellsValue s top.name above front.there front.after built.after children.0 built.bits built.spelled),
        built.kept,
      )

  ends_by : (o : Option PlainKind) (top : Opened) (above : List Opened) (entries : Entries) → slice_get s.kinds top.place.kind ≡ o → IsPlaceOf top.place o → HasRoom entries → GoesTo (stands (Inside top above) entries) (around above)
  ends_by None top above entries is at room = absurd at
  ends_by (Some (valued datatype)) top above entries is at room = simple_by top.place.particle top above entries datatype is at refl room
  ends_by (Some (containing declared particles)) top above entries is at room = complex_ends top above entries declared particles is room

  element_ends : (top : Opened) (above : List Opened) (entries : Entries) → IsPlace s.kinds top.place → HasRoom entries → GoesTo (stands (Inside top above) entries) (around above)
  element_ends top above entries at room = ends_by (slice_get s.kinds top.place.kind) top above entries refl at room

  -- ---- and those around it

  all_end : (above : List Opened) (top : Opened) (entries : Entries) → IsPlace s.kinds top.place → AllByRecursion (λ o. IsPlace s.kinds o.place) above → HasRoom entries → GoesTo (stands (Inside top above) entries) Behind
  all_end [] top entries at all room = element_ends top [] entries at room
  all_end (next ∷ above) top entries at all room =
      let own = element_ends top (next ∷ above) entries at room in
      let rest = all_end above next own.2 all.0 all.1 own.4 in
      (own.0 ++ rest.0, own.1 ++ rest.1, rest.2, runs_both SpellsValue s (stands (Inside top (next ∷ above)) entries) (stands (Inside next above) own.2) (stands Behind rest.2) own.0 rest.0 own.1 rest.1 own.3 rest.3, rest.4)

  at_root_goes : (name kind : ℕ) (entries : Entries) → kind < length s.kinds → HasRoom entries → GoesTo (stands (AtRoot name kind) entries) Behind
  at_root_goes name kind entries less room =
      let rest = all_end [] (opened name (first kind)) entries (first_place s kind less) tt room in
      (Start name ∷ rest.0, rest.1, rest.2, (stands (Inside (opened name (first kind)) []) entries, [], rest.1, (refl, refl, refl), rest.3, refl), rest.4)

  some_root_by : (roots : List RootOf) → 1 ≤ length roots → (root : RootOf) × (slice_get roots 0 ≡ Some root)
  some_root_by [] h = absurd (omega (arith, h))
  some_root_by (root ∷ roots) h = (root, refl)

  some_root : (root : RootOf) × (slice_get s.roots 0 ≡ Some root)
  some_root =
      let roots = and-r (are_kinds (length s.names) s.kinds) (are_roots s.root_bits (length s.names) s.kinds s.roots) (and-l _ _ (and-l _ _ s.fits)) in
      some_root_by s.roots (leb-true 1 (length s.roots) (and-l _ _ (and-l _ _ (and-l _ _ (and-l _ _ roots)))))

  before_goes : (entries : Entries) → HasRoom entries → GoesTo (stands Before entries) Behind
  before_goes entries room =
      let found = some_root in
      let root = found.0 in
      let named : IsRoot s.roots s.root_bits root.number (Kind root.name root.kind) = (0, found.1) in
      let front = number_bits s.root_bits root.number in
      let rest = at_root_goes root.name root.kind entries (root_kind s root.number root.name root.kind named) room in (
        Document root.number ∷ rest.0,
        (header ++ front) ++ rest.1,
        rest.2,
        (
          stands (AtRoot root.name root.kind) entries,
          header ++ front,
          rest.1,
          record { name = root.name; kind = root.kind; front = front; named = named; numbered = record { range = root_numbered s 0 root found.1; spelled = refl }; bits_are = refl; leads = refl },
          rest.3,
          refl,
        ),
        rest.4,
      )

  standing_goes : (standing : Standing) (entries : Entries) → IsStanding s standing → HasRoom entries → GoesTo (stands standing entries) Behind
  standing_goes Before entries is room = before_goes entries room
  standing_goes (AtRoot name kind) entries is room = at_root_goes name kind entries is room
  standing_goes (Inside top above) entries is room = all_end above top entries is.0 is.1 room
  standing_goes Behind entries is room = ([], [], entries, (refl, refl), room)

  -- ---- what is reached begins a document

  pub begins : (events : List Event) (bits : List Bool) (state : State) → Reaches SpellsValue s events bits state → BeginsDocument s events bits
  begins events bits state h =
      let is : IsState s state = run_kept s start state (reverse events) bits (start_is s) (to_start SpellsValue s state events bits h) in
      let rest = standing_goes state.standing state.entries is.0 is.1 in
      let whole = reaches_runs SpellsValue s state (stands Behind rest.2) events rest.0 bits rest.1 h rest.3 in
      let told = events_told SpellsValue s (reverse rest.0 ++ events) (bits ++ rest.1) rest.2 whole in
      record {
        number = told.0;
        tree = told.1;
        more = rest.0;
        rest = rest.1;
        spelled = told.3;
        events_are =
            sym (reverse-reverse (document_events told.0 told.1))
            ∙ ap (λ (l : List Event). reverse l) (sym told.2)
            ∙ reverse-append (reverse rest.0) events
            ∙ ap (λ (l : List Event). reverse events ++ l) (reverse-reverse rest.0);
      }
