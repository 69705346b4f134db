-- What is offered at a place: one code in a simple kind, and in a complex kind no attribute behind an element.
use Rattle.std.proofs.Common.{◌≡◌, ℕ, zero, suc, ◌+◌, ◌^◌, ◌≤◌, nat_lt, not, Bool, true, false, if◌then◌else◌, List, [], ◌∷◌, ◌++◌, length, drop, map, Option, Some, None, refl, sym, ap, subst, ◌∙◌, arith, le_antisymm, slice_get}
use Rattle.std.proofs.lemmas.List.{drop_all}
use Rattle.std.specs.Prelude.{◌==◌}
use Rattle.std.specs.List.{list_any}
use Rattle.exi_spec.specs.Bits.{number_bits}
use Rattle.exi_schema.specs.declared.tables.AttributeOf.{AttributeOf}
use Rattle.exi_schema.specs.declared.tables.Datatype.{Datatype}
use Rattle.exi_schema.specs.Plain.{PlainKind, valued, containing, PlainParticle}
use Rattle.exi_schema.specs.declared.tables.Member.{Member}
use Rattle.exi_schema.specs.declared.places.Place.{Place}
use Rattle.exi_schema.specs.declared.places.Step.{Step}
use Rattle.exi_schema.specs.declared.places.Step.TheVariants.{Attribute, Element, End, Characters}
use Rattle.exi_schema.specs.Offers.{through_required, attribute_steps, leaves_room, behind_copy, element_step, element_steps, simple_step, complex_steps, offers_of, offers, IsWidth}
use Rattle.exi_schema.specs.Steps.{datatype_of, simple_at}
use Rattle.exi_documents.specs.Documents.{SpellsStep, element}

-- ---- a width

pub same_width : (n v w : ℕ) → IsWidth n v → IsWidth n w → v ≡ w
same_width n v w a b = le_antisymm (a.least w b.enough) (b.least v a.enough)

above_none : (w : ℕ) → 1 + 1 ≤ 2 ^ w → 1 ≤ w
above_none zero h = absurd (omega (arith, h))
above_none (suc w) h = omega arith

pub width_one : IsWidth 1 1
width_one = record { enough = omega arith; least = above_none }

-- ---- a simple kind

pub simple_is : (o : Option PlainKind) (d : Datatype) → datatype_of o ≡ Some d → o ≡ Some (valued d)
simple_is None d h = let wrong : None ≡ Some d = h in absurd cc
simple_is (Some (valued e)) d h = let same : Some e ≡ Some d = h in let is : e ≡ d = cc in ap (λ (x : Datatype). Some (valued x)) is
simple_is (Some (containing attributes particles)) d h = let wrong : None ≡ Some d = h in absurd cc

pub offers_simple : (kinds : List PlainKind) (here : Place) (d : Datatype) → simple_at kinds here.kind ≡ Some d → offers kinds here ≡ simple_step here ∷ []
offers_simple kinds here d h = ap (λ (o : Option PlainKind). offers_of here o) (simple_is _ d h)

-- where one step is offered it has the one code of one bit
pub one_offered : (kinds : List PlainKind) (here : Place) (step : Step) → offers kinds here ≡ step ∷ [] → SpellsStep kinds here step (number_bits 1 0)
one_offered kinds here step e =
    record {
      code = 0;
      width = 1;
      is_width = subst (λ (l : List Step). IsWidth (length l) 1) (sym e) width_one;
      offered = ap (λ (l : List Step). slice_get l 0) e;
      spelled = record { range = omega arith; spelled = refl };
    }

pub only_code : (only step : Step) (code : ℕ) → slice_get (only ∷ []) code ≡ Some step → (step ≡ only) × (code ≡ 0)
only_code only step zero h = let same : Some only ≡ Some step = h in (cc, refl)
only_code only step (suc code) h = let wrong : None ≡ Some step = h in absurd cc

pub one_taken : (kinds : List PlainKind) (here : Place) (only step : Step) (bits : List Bool) → offers kinds here ≡ only ∷ [] → SpellsStep kinds here step bits → (step ≡ only) × (bits ≡ number_bits 1 0)
one_taken kinds here only step bits e h =
    let found = only_code only step h.code (sym (ap (λ (l : List Step). slice_get l h.code) e) ∙ h.offered) in
    let wide : h.width ≡ 1 = same_width 1 h.width 1 (subst (λ (l : List Step). IsWidth (length l) h.width) e h.is_width) width_one in
    (found.0, h.spelled.spelled ∙ ap (λ (w : ℕ). number_bits w h.code) wide ∙ ap (λ (c : ℕ). number_bits 1 c) found.1)

-- ---- each of some steps

abbrev pub EachOf : (Step → Type 0) → List Step → Type 0
EachOf P [] = Unit {0}
EachOf P (step ∷ steps) = P step × EachOf P steps

pub each_of : (P : Step → Type 0) (steps : List Step) (i : ℕ) (step : Step) → EachOf P steps → slice_get steps i ≡ Some step → P step
each_of P [] i step all h = let wrong : None ≡ Some step = h in absurd cc
each_of P (x ∷ steps) zero step all h = let same : Some x ≡ Some step = h in let is : x ≡ step = cc in subst P is all.0
each_of P (x ∷ steps) (suc i) step all h = each_of P steps i step all.1 h

pub each_of_both : (P : Step → Type 0) (xs ys : List Step) → EachOf P xs → EachOf P ys → EachOf P (xs ++ ys)
each_of_both P [] ys a b = b
each_of_both P (x ∷ xs) ys a b = (a.0, each_of_both P xs ys a.1 b)

pub each_of_some : (P : Step → Type 0) (b : Bool) (steps : List Step) → EachOf P steps → EachOf P (if b then [] else steps)
each_of_some P true steps all = tt
each_of_some P false steps all = all

-- ---- a complex kind

-- a step that goes on in the same kind, behind the n attributes where it is an element
abbrev IsGoing : ℕ → ℕ → Step → Type 0
IsGoing here n (Attribute name kind next) = next.kind ≡ here
IsGoing here n (Element name kind next standing past_limit) = past_limit ≡ false → (next.kind ≡ here) × (next.attributes ≡ n)
IsGoing here n End = Unit {0}
IsGoing here n (Characters next) = ⊥

abbrev IsNoAttribute : Step → Type 0
IsNoAttribute (Attribute name kind next) = ⊥
IsNoAttribute (Element name kind next standing past_limit) = Unit {0}
IsNoAttribute End = Unit {0}
IsNoAttribute (Characters next) = Unit {0}

going_attributes : (here : Place) (n at : ℕ) (attributes : List AttributeOf) → EachOf (IsGoing here.kind n) (attribute_steps here at attributes)
going_attributes here n at [] = tt
going_attributes here n at (attribute ∷ attributes) = (refl, going_attributes here n (at + 1) attributes)

behind_by : (b : Bool) (kind n at copies : ℕ) →
    let place : Place = if b then record { kind = kind; particle = at; copies = copies + 1; attributes = n } else record { kind = kind; particle = at + 1; copies = 0; attributes = n } in
    (place.kind ≡ kind) × (place.attributes ≡ n)
behind_by true kind n at copies = (refl, refl)
behind_by false kind n at copies = (refl, refl)

next_by : (b : Bool) (here : Place) (n at copies : ℕ) (most : Option ℕ) → not b ≡ false →
    let place : Place = if b then behind_copy here.kind n at copies most else here in
    (place.kind ≡ here.kind) × (place.attributes ≡ n)
next_by true here n at copies most h = behind_by (leaves_room most (copies + 1)) here.kind n at copies
next_by false here n at copies most h = let wrong : true ≡ false = h in absurd cc

going_members : (here : Place) (n at copies : ℕ) (particle : PlainParticle) (members : List Member) → EachOf (IsGoing here.kind n) (map (element_step here n at copies particle) members)
going_members here n at copies particle [] = tt
going_members here n at copies particle (member ∷ members) =
    (next_by (nat_lt copies particle.profile) here n at copies particle.most, going_members here n at copies particle members)

going_elements : (here : Place) (n at copies : ℕ) (particles : List PlainParticle) → EachOf (IsGoing here.kind n) (element_steps here n at copies particles)
going_elements here n at copies [] = (tt, tt)
going_elements here n at copies (particle ∷ particles) =
    each_of_both _ (map (element_step here n at copies particle) particle.members) _ (going_members here n at copies particle particle.members)
    (each_of_some _ (nat_lt copies particle.least) _ (going_elements here n (at + 1) 0 particles))

going_complex : (here : Place) (attributes : List AttributeOf) (particles : List PlainParticle) → EachOf (IsGoing here.kind (length attributes)) (complex_steps here attributes particles)
going_complex here attributes particles =
    each_of_both _ (attribute_steps here here.attributes (through_required (drop here.attributes attributes))) _
    (going_attributes here (length attributes) here.attributes (through_required (drop here.attributes attributes)))
    (each_of_some _ (list_any (λ attribute. attribute.required) (drop here.attributes attributes)) _
    (going_elements here (length attributes) here.particle here.copies (drop here.particle particles)))

no_attribute_members : (here : Place) (n at copies : ℕ) (particle : PlainParticle) (members : List Member) → EachOf IsNoAttribute (map (element_step here n at copies particle) members)
no_attribute_members here n at copies particle [] = tt
no_attribute_members here n at copies particle (member ∷ members) = (tt, no_attribute_members here n at copies particle members)

no_attribute_elements : (here : Place) (n at copies : ℕ) (particles : List PlainParticle) → EachOf IsNoAttribute (element_steps here n at copies particles)
no_attribute_elements here n at copies [] = (tt, tt)
no_attribute_elements here n at copies (particle ∷ particles) =
    each_of_both _ (map (element_step here n at copies particle) particle.members) _ (no_attribute_members here n at copies particle particle.members)
    (each_of_some _ (nat_lt copies particle.least) _ (no_attribute_elements here n (at + 1) 0 particles))

-- with all attributes passed
no_attribute_left : (here : Place) (attributes : List AttributeOf) (particles : List PlainParticle) → here.attributes ≡ length attributes → EachOf IsNoAttribute (complex_steps here attributes particles)
no_attribute_left here attributes particles all =
    let none : drop here.attributes attributes ≡ [] = drop_all here.attributes attributes (omega (arith, all)) in
    let steps : List AttributeOf → List Step = λ left.
    attribute_steps here here.attributes (through_required left)
    ++ (if list_any (λ attribute. attribute.required) left then [] else element_steps here (length attributes) here.particle here.copies (drop here.particle particles)) in
    subst (λ left. EachOf IsNoAttribute (steps left)) (sym none) (no_attribute_elements here (length attributes) here.particle here.copies (drop here.particle particles))

-- ---- what is offered behind a step

abbrev pub HasNoAttribute : List PlainKind → Place → Type 0
HasNoAttribute kinds here = (code name kind : ℕ) (next : Place) → slice_get (offers kinds here) code ≡ Some (Attribute name kind next) → ⊥

abbrev pub HasNoValue : List PlainKind → Place → Type 0
HasNoValue kinds here = (d : Datatype) → simple_at kinds here.kind ≡ Some d → ⊥

-- a step at a place of a simple kind is its characters or its end
abbrev IsOfSimple : Place → Step → Type 0
IsOfSimple here (Attribute name kind next) = ⊥
IsOfSimple here (Element name kind next standing past_limit) = ⊥
IsOfSimple here End = Unit {0}
IsOfSimple here (Characters next) = next ≡ record { kind = here.kind; particle = 1; copies = 0; attributes = 0 }

of_simple_by : (b : Bool) (here : Place) → IsOfSimple here (if b then Characters (record { kind = here.kind; particle = 1; copies = 0; attributes = 0 }) else End)
of_simple_by true here = refl
of_simple_by false here = tt

of_simple : (here : Place) (code : ℕ) (step : Step) → slice_get (simple_step here ∷ []) code ≡ Some step → IsOfSimple here step
of_simple here code step h = each_of (IsOfSimple here) (simple_step here ∷ []) code step (of_simple_by (here.particle == 0) here, tt) h

-- in a complex kind no value stands
complex_has_none : (kinds : List PlainKind) (k : ℕ) (attributes : _) (particles : _) (d : Datatype) → slice_get kinds k ≡ Some (containing attributes particles) → simple_at kinds k ≡ Some d → ⊥
complex_has_none kinds k attributes particles d is h =
    let wrong : None ≡ Some d = sym (ap (λ (o : Option PlainKind). datatype_of o) is) ∙ h in cc

no_value_at : (kinds : List PlainKind) (k : ℕ) (next : Place) (attributes : _) (particles : _) → slice_get kinds k ≡ Some (containing attributes particles) → next.kind ≡ k → HasNoValue kinds next
no_value_at kinds k next attributes particles is same d h =
    complex_has_none kinds k attributes particles d is (sym (ap (λ (n : ℕ). simple_at kinds n) same) ∙ h)

no_attribute_at : (kinds : List PlainKind) (k : ℕ) (next : Place) (attributes : _) (particles : _) → slice_get kinds k ≡ Some (containing attributes particles) → next.kind ≡ k → next.attributes ≡ length attributes → HasNoAttribute kinds next
no_attribute_at kinds k next attributes particles is same all code name kind behind h =
    let there : slice_get kinds next.kind ≡ Some (containing attributes particles) = ap (λ (n : ℕ). slice_get kinds n) same ∙ is in
    each_of IsNoAttribute (complex_steps next attributes particles) code (Attribute name kind behind) (no_attribute_left next attributes particles all)
    (sym (ap (λ (o : Option PlainKind). slice_get (offers_of next o) code) there) ∙ h)

element_by : (o : Option PlainKind) (kinds : List PlainKind) (here next : Place) (code name kind : ℕ) → slice_get kinds here.kind ≡ o → slice_get (offers_of here o) code ≡ Some (element name kind next) → HasNoAttribute kinds next × HasNoValue kinds next
element_by None kinds here next code name kind is h = let wrong : None ≡ Some (element name kind next) = h in absurd cc
element_by (Some (valued d)) kinds here next code name kind is h = absurd (of_simple here code (element name kind next) h)
element_by (Some (containing attributes particles)) kinds here next code name kind is h =
    let going : IsGoing here.kind (length attributes) (element name kind next) =
    each_of (IsGoing here.kind (length attributes)) (complex_steps here attributes particles) code (element name kind next) (going_complex here attributes particles) h in
    let behind = going refl in
    (no_attribute_at kinds here.kind next attributes particles is behind.0 behind.1, no_value_at kinds here.kind next attributes particles is behind.0)

-- behind an element no attribute and no value is offered
pub behind_element : (kinds : List PlainKind) (here next : Place) (name kind : ℕ) (bits : List Bool) → SpellsStep kinds here (element name kind next) bits → HasNoAttribute kinds next × HasNoValue kinds next
behind_element kinds here next name kind bits h = element_by (slice_get kinds here.kind) kinds here next h.code name kind refl h.offered

attribute_by : (o : Option PlainKind) (kinds : List PlainKind) (here next : Place) (code name kind : ℕ) → slice_get kinds here.kind ≡ o → slice_get (offers_of here o) code ≡ Some (Attribute name kind next) → HasNoValue kinds next
attribute_by None kinds here next code name kind is h = let wrong : None ≡ Some (Attribute name kind next) = h in absurd cc
attribute_by (Some (valued d)) kinds here next code name kind is h = absurd (of_simple here code (Attribute name kind next) h)
attribute_by (Some (containing attributes particles)) kinds here next code name kind is h =
    let going : IsGoing here.kind (length attributes) (Attribute name kind next) =
    each_of (IsGoing here.kind (length attributes)) (complex_steps here attributes particles) code (Attribute name kind next) (going_complex here attributes particles) h in
    no_value_at kinds here.kind next attributes particles is going

-- behind an attribute no value is offered
pub behind_attribute : (kinds : List PlainKind) (here next : Place) (name kind : ℕ) (bits : List Bool) → SpellsStep kinds here (Attribute name kind next) bits → HasNoValue kinds next
behind_attribute kinds here next name kind bits h = attribute_by (slice_get kinds here.kind) kinds here next h.code name kind refl h.offered

-- the one step behind the characters of a simple kind is the end
pub behind_characters : (kinds : List PlainKind) (here next : Place) (d : Datatype) (bits : List Bool) → simple_at kinds here.kind ≡ Some d → SpellsStep kinds here (Characters next) bits →
    (offers kinds here ≡ Characters next ∷ []) × (offers kinds next ≡ End ∷ [])
behind_characters kinds here next d bits is h =
    let e = offers_simple kinds here d is in
    let same = (one_taken kinds here (simple_step here) (Characters next) bits e h).0 in
    let next_is : next ≡ record { kind = here.kind; particle = 1; copies = 0; attributes = 0 } =
    subst (λ step. IsOfSimple here step) (sym same) (of_simple_by (here.particle == 0) here) in
    let there : simple_at kinds next.kind ≡ Some d = ap (λ (p : Place). simple_at kinds p.kind) next_is ∙ is in
    (e ∙ ap (λ (step : Step). step ∷ []) (sym same), offers_simple kinds next d there ∙ ap (λ (p : Place). simple_step p ∷ []) next_is)
