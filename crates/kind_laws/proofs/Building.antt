-- Elements that hold what their kinds say are spelled, where their values are.
use Rattle.std.proofs.Common.{◌≡◌, ℕ, suc, ◌+◌, Bool, false, if◌then◌else◌, List, [], ◌∷◌, ◌++◌, length, drop, Option, Some, refl, sym, ap, subst, ◌∙◌, arith, slice_get}
use Rattle.std.proofs.lemmas.Option.{slice_get_within}
use Rattle.std.proofs.lemmas.List.{drop_all}
use Rattle.exi_spec.specs.Bits.{number_bits}
use Rattle.exi_schema.specs.declared.tables.AttributeOf.{AttributeOf}
use Rattle.exi_schema.specs.declared.tables.Datatype.{Datatype}
use Rattle.exi_schema.specs.declared.tables.Member.{Member}
use Rattle.exi_schema.specs.declared.places.Place.{Place}
use Rattle.exi_schema.specs.declared.places.Step.{Step}
use Rattle.exi_schema.specs.declared.places.Step.TheVariants.{Attribute, End}
use Rattle.exi_schema.specs.Plain.{PlainKind, containing, PlainParticle}
use Rattle.exi_schema.specs.Offers.{through_required, attribute_steps, element_steps, complex_steps, offers_of, offers}
use Rattle.exi_documents.specs.Trees.{Value, Trees, none, simple, complex}
use Rattle.exi_documents.specs.Values.{Entries}
use Rattle.exi_documents.specs.Documents.{Speller, SpellsStep, SpellsSimple, SpellsAttributes, SpellsTrees, element, first}
use Rattle.document_laws.proofs.IndexWidths.{code_width}
use Rattle.kind_laws.specs.Kinds.{Values, AreChosen, HasValue, HaveValues, AreElements}
use Rattle.kind_laws.proofs.Lists.{get_front, get_back, drop_more}
use Rattle.kind_laws.proofs.Choosing.{any_required, none_required, next_attribute}
use Rattle.kind_laws.proofs.Division.{Remain, remain_all, end_offered, element_offered}

-- ---- a step that is offered

pub step_spelled : (kinds : List PlainKind) (here : Place) (step : Step) (code : ℕ) → slice_get (offers kinds here) code ≡ Some step → (bits : List Bool) × SpellsStep kinds here step bits
step_spelled kinds here step code offered =
    let wide = code_width (length (offers kinds here)) in
    let below = slice_get_within (offers kinds here) code step offered in (
      number_bits wide.0 code,
      record { code = code; width = wide.0; is_width = wide.1; offered = offered; spelled = record { range = omega (arith, below, wide.1.enough); spelled = refl } },
    )

-- a place of a complex kind
pub record IsIn (kinds : List PlainKind) (here : Place) (declared : List AttributeOf) (particles : List PlainParticle) : Type 0 where
  pub is_kind : slice_get kinds here.kind ≡ Some (containing declared particles)

offers_there : (kinds : List PlainKind) (here : Place) (declared : List AttributeOf) (particles : List PlainParticle) → IsIn kinds here declared particles → offers kinds here ≡ complex_steps here declared particles
offers_there kinds here declared particles at = ap (λ (o : Option PlainKind). offers_of here o) at.is_kind

-- no attribute has to be there any more
abbrev pub IsPast : Place → List AttributeOf → Type 0
IsPast here declared = any_required (drop here.attributes declared) ≡ false

element_step_there : (kinds : List PlainKind) (here : Place) (declared : List AttributeOf) (particles : List PlainParticle) (step : Step) (code : ℕ) → IsIn kinds here declared particles → IsPast here declared →
    slice_get (element_steps here (length declared) here.particle here.copies (drop here.particle particles)) code ≡ Some step → (bits : List Bool) × SpellsStep kinds here step bits
element_step_there kinds here declared particles step code at past found =
    let elements = element_steps here (length declared) here.particle here.copies (drop here.particle particles) in
    let there : slice_get (if any_required (drop here.attributes declared) then [] else elements) code ≡ Some step = ap (λ (b : Bool). slice_get (if b then [] else elements) code) past ∙ found in
    let behind = get_back (attribute_steps here here.attributes (through_required (drop here.attributes declared))) (if any_required (drop here.attributes declared) then [] else elements) code step there in
    step_spelled kinds here step behind.0 (ap (λ (l : List Step). slice_get l behind.0) (offers_there kinds here declared particles at) ∙ behind.1)

attribute_step_there : (kinds : List PlainKind) (here : Place) (declared : List AttributeOf) (particles : List PlainParticle) (step : Step) (code : ℕ) → IsIn kinds here declared particles →
    slice_get (attribute_steps here here.attributes (through_required (drop here.attributes declared))) code ≡ Some step → (bits : List Bool) × SpellsStep kinds here step bits
attribute_step_there kinds here declared particles step code at found =
    let front = attribute_steps here here.attributes (through_required (drop here.attributes declared)) in
    step_spelled kinds here step code
    (ap (λ (l : List Step). slice_get l code) (offers_there kinds here declared particles at)
    ∙ get_front front (if any_required (drop here.attributes declared) then [] else element_steps here (length declared) here.particle here.copies (drop here.particle particles)) code step found)

-- a place behind the attributes of an element, and one in its particles
pub record Stands (here there : Place) : Type 0 where
  pub same_kind : there.kind ≡ here.kind
  pub same_particle : there.particle ≡ here.particle
  pub same_copies : there.copies ≡ here.copies

-- ---- with values that are spelled

module _ (V : Speller) (W : Values) (I : Entries → Type 0) (kinds : List PlainKind)
    (spell : (datatype : Datatype) (entries : Entries) (name : ℕ) (value : Value) → W datatype value → I entries → (bits : List Bool) × (after : Entries) × V datatype entries name value bits after × I after) where
  pub record BuildsAttributes (here : Place) (declared : List AttributeOf) (entries : Entries) (values : List (ℕ × Value)) : Type 0 where
    pub bits : List Bool
    pub there : Place
    pub after : Entries
    pub spelled : SpellsAttributes V kinds here entries values bits there after
    pub stands : Stands here there
    pub past : IsPast there declared
    pub kept : I after

  pub attributes_built : (here : Place) (declared : List AttributeOf) (particles : List PlainParticle) (chosen : List AttributeOf) (entries : Entries) (values : List (ℕ × Value)) →
      IsIn kinds here declared particles → AreChosen (drop here.attributes declared) chosen → HaveValues W kinds chosen values → I entries → BuildsAttributes here declared entries values
  attributes_built here declared particles [] entries values at are have held =
      record {
        bits = [];
        there = here;
        after = entries;
        spelled = subst (λ (vs : List (ℕ × Value)). SpellsAttributes V kinds here entries vs [] here entries) (sym have) (refl, refl, refl);
        stands = record { same_kind = refl; same_particle = refl; same_copies = refl };
        past = none_required (drop here.attributes declared) are;
        kept = held;
      }
  attributes_built here declared particles (attribute ∷ chosen) entries [] at are have held = absurd have
  attributes_built here declared particles (attribute ∷ chosen) entries (value ∷ values) at are have held =
      let next = next_attribute here here.attributes (drop here.attributes declared) attribute chosen are in
      let behind : Place = record { kind = here.kind; particle = here.particle; copies = here.copies; attributes = next.number + 1 } in
      let code = attribute_step_there kinds here declared particles (Attribute attribute.name attribute.kind behind) next.code at next.offered in
      let own = have.1 in
      let written = spell own.0 entries value.0 value.1 own.2 held in
      let left : AreChosen (drop behind.attributes declared) chosen =
      subst (λ (l : List AttributeOf). AreChosen l chosen)
      (drop_more here.attributes (suc next.code) declared ∙ ap (λ (n : ℕ). drop n declared) (let n : here.attributes + suc next.code ≡ next.number + 1 = omega (arith, next.is_number) in n))
      next.are_chosen in
      let rest = attributes_built behind declared particles chosen written.1 values (record { is_kind = at.is_kind }) left have.2 written.3 in
      record {
        bits = code.0 ++ (written.0 ++ rest.bits);
        there = rest.there;
        after = rest.after;
        spelled =
            record {
              kind = attribute.kind;
              next = behind;
              datatype = own.0;
              middle = written.1;
              code = code.0;
              inside = written.0;
              rest = rest.bits;
              starts = subst (λ (n : ℕ). SpellsStep kinds here (Attribute n attribute.kind behind) code.0) (sym have.0) code.1;
              is_simple = own.1;
              spelled = written.2;
              behind = rest.spelled;
              bits_are = refl;
            };
        stands = record { same_kind = rest.stands.same_kind; same_particle = rest.stands.same_particle; same_copies = rest.stands.same_copies };
        past = rest.past;
        kept = rest.kept;
      }

  pub record BuildsTrees (here : Place) (entries : Entries) (trees : Trees) : Type 0 where
    pub bits : List Bool
    pub after : Entries
    pub spelled : SpellsTrees V kinds here entries trees bits after
    pub kept : I after

  pub record BuildsSimple (kind : ℕ) (entries : Entries) (name : ℕ) (value : Value) : Type 0 where
    pub bits : List Bool
    pub after : Entries
    pub spelled : SpellsSimple V kinds kind entries name value bits after
    pub kept : I after

  pub simple_built : (kind : ℕ) (entries : Entries) (name : ℕ) (value : Value) → HasValue W kinds kind value → I entries → BuildsSimple kind entries name value
  simple_built kind entries name value have held =
      let written = spell have.0 entries name value have.2 held in
      record {
        bits = number_bits 1 0 ++ (written.0 ++ number_bits 1 0);
        after = written.1;
        spelled = record { datatype = have.0; is_simple = have.1; inside = written.0; spelled = written.2; bits_are = refl };
        kept = written.3;
      }

  pub trees_built : (here : Place) (declared : List AttributeOf) (particles : List PlainParticle) (members : List Member) (entries : Entries) (trees : Trees) →
      IsIn kinds here declared particles → IsPast here declared → Remain here.copies (drop here.particle particles) members → AreElements W kinds members trees → I entries → BuildsTrees here entries trees
  trees_built here declared particles members entries none at past remain are held =
      let code = end_offered here (length declared) here.particle here.copies (drop here.particle particles) (subst (λ (ms : List Member). Remain here.copies (drop here.particle particles) ms) are remain) in
      let found = element_step_there kinds here declared particles End code.0 at past code.1 in
      record { bits = found.0; after = entries; spelled = (found.1, refl); kept = held }
  trees_built here declared particles members entries (simple name value more) at past remain are held =
      let member = are.0 in
      let lead = element_offered here (length declared) here.particle here.copies (drop here.particle particles) member are.1 (subst (λ (ms : List Member). Remain here.copies (drop here.particle particles) ms) are.2 remain) in
      let code = element_step_there kinds here declared particles (element member.name member.kind lead.next) lead.code at past lead.offered in
      let inside = simple_built member.kind entries name value are.4 held in
      let left : Remain lead.next.copies (drop lead.next.particle particles) are.1 =
      subst (λ (l : List PlainParticle). Remain lead.next.copies l are.1) (drop_more here.particle lead.passed particles ∙ ap (λ (n : ℕ). drop n particles) (sym lead.reached)) lead.remain in
      let rest =
      trees_built lead.next declared particles are.1 inside.after more (record { is_kind = ap (λ (k : ℕ). slice_get kinds k) lead.same_kind ∙ at.is_kind })
      (ap any_required (drop_all lead.next.attributes declared (omega (arith, lead.behind)))) left are.5 inside.kept in
      record {
        bits = code.0 ++ (inside.bits ++ rest.bits);
        after = rest.after;
        spelled =
            record {
              kind = member.kind;
              next = lead.next;
              middle = inside.after;
              code = code.0;
              inside = inside.bits;
              rest = rest.bits;
              starts = subst (λ (n : ℕ). SpellsStep kinds here (element n member.kind lead.next) code.0) (sym are.3) code.1;
              spelled = inside.spelled;
              behind = rest.spelled;
              bits_are = refl;
            };
        kept = rest.kept;
      }
  trees_built here declared particles members entries (complex name attributes children more) at past remain are held =
      let member = are.0 in
      let lead = element_offered here (length declared) here.particle here.copies (drop here.particle particles) member are.1 (subst (λ (ms : List Member). Remain here.copies (drop here.particle particles) ms) are.2 remain) in
      let code = element_step_there kinds here declared particles (element member.name member.kind lead.next) lead.code at past lead.offered in
      let own = are.4 in
      let parts = are.5 in
      let front = attributes_built (first member.kind) own parts are.8.chosen entries attributes (record { is_kind = are.7 }) are.8.are_chosen are.8.have_values held in
      let stands = front.stands in
      let begun : Remain front.there.copies (drop front.there.particle parts) are.6 =
      subst (λ (c : ℕ). Remain c (drop front.there.particle parts) are.6) (sym stands.same_copies)
      (subst (λ (n : ℕ). Remain 0 (drop n parts) are.6) (sym stands.same_particle) (remain_all parts are.6 are.9)) in
      let inside = trees_built front.there own parts are.6 front.after children (record { is_kind = ap (λ (k : ℕ). slice_get kinds k) stands.same_kind ∙ are.7 }) front.past begun are.10 front.kept in
      let left : Remain lead.next.copies (drop lead.next.particle particles) are.1 =
      subst (λ (l : List PlainParticle). Remain lead.next.copies l are.1) (drop_more here.particle lead.passed particles ∙ ap (λ (n : ℕ). drop n particles) (sym lead.reached)) lead.remain in
      let rest =
      trees_built lead.next declared particles are.1 inside.after more (record { is_kind = ap (λ (k : ℕ). slice_get kinds k) lead.same_kind ∙ at.is_kind })
      (ap any_required (drop_all lead.next.attributes declared (omega (arith, lead.behind)))) left are.11 inside.kept in
      record {
        bits = code.0 ++ ((front.bits ++ inside.bits) ++ rest.bits);
        after = rest.after;
        spelled =
            record {
              kind = member.kind;
              next = lead.next;
              middle = inside.after;
              code = code.0;
              inside = front.bits ++ inside.bits;
              rest = rest.bits;
              starts = subst (λ (n : ℕ). SpellsStep kinds here (element n member.kind lead.next) code.0) (sym are.3) code.1;
              spelled = record { there = front.there; within = front.after; front = front.bits; inside = inside.bits; begun = front.spelled; ended = inside.spelled; bits_are = refl };
              behind = rest.spelled;
              bits_are = refl;
            };
        kept = rest.kept;
      }
