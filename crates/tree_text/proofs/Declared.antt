-- What is offered at a place is declared by its kind, under the one kind of its name.
use Rattle.std.proofs.Common.{◌≡◌, ℕ, ◌+◌, nat_lt, not, Bool, true, false, if◌then◌else◌, List, [], ◌∷◌, length, drop, map, Option, Some, None, refl, sym, ap, subst, ◌∙◌, slice_get}
use Rattle.std.proofs.lemmas.Bool.Decides.{eqb_tells}
use Rattle.std.proofs.Common.{inl, inr}
use Rattle.std.specs.List.{list_any, list_all}
use Rattle.std.specs.Prelude.{◌==◌, ◌||◌}
use Rattle.exi_schema.specs.Schemas.{PlainSchema, is_taken}
use Rattle.exi_schema.specs.declared.tables.AttributeOf.{AttributeOf}
use Rattle.exi_schema.specs.Plain.{PlainKind, valued, containing, PlainParticle}
use Rattle.exi_schema.specs.declared.tables.Member.{Member}
use Rattle.exi_schema.specs.declared.tables.MemberStanding.{MemberStanding}
use Rattle.exi_schema.specs.declared.tables.MemberStanding.TheVariants.{Taken, Abstract, OutOfProfile}
use Rattle.exi_schema.specs.declared.places.Place.{Place}
use Rattle.exi_schema.specs.declared.places.Step.{Step}
use Rattle.exi_schema.specs.declared.places.Step.TheVariants.{Attribute, Element, End, Characters}
use Rattle.exi_schema.specs.Offers.{through_required, leaves_room, attribute_steps, element_step, element_steps, simple_step, complex_steps, offers_of}
use Rattle.exi_schema.proofs.Conditions.{and-l, and-r, all_get}
use Rattle.exi_schema.proofs.Fitting.{fit_through, fit_drop}
use Rattle.exi_documents.specs.Documents.{element}
use Rattle.document_laws.proofs.Offered.{EachOf, each_of, each_of_both, each_of_some, only_code}
use Rattle.dialect_text.specs.Dialect.{attribute_named, element_named, attribute_in, element_in, attribute_of, element_of}
use Rattle.tree_text.specs.TreeText.{IsOffered}
use Rattle.tree_text.specs.Consistent.{is_that, is_consistent, are_consistent}

is_kind : (o : Option ℕ) (kind : ℕ) → is_that o kind ≡ true → o ≡ Some kind
is_kind None kind is = let wrong : false ≡ true = is in absurd cc
is_kind (Some other) kind is =
    elim (eqb_tells other kind) [ inl tells ↦ ap (λ (k : ℕ). Some k) tells.1 | inr tells ↦ let wrong : false ≡ true = sym tells.0 ∙ is in absurd cc ]

-- a step is of declared attributes and particles
abbrev IsDeclared : List AttributeOf → List PlainParticle → Step → Type 0
IsDeclared attributes particles (Attribute name kind next) = attribute_named attributes name ≡ Some kind
IsDeclared attributes particles (Element name kind next standing past_limit) = standing ≡ Taken → element_named particles name ≡ Some kind
IsDeclared attributes particles End = Unit {0}
IsDeclared attributes particles (Characters next) = ⊥

abbrev is_one_attribute : List AttributeOf → AttributeOf → Bool
is_one_attribute all attribute = is_that (attribute_named all attribute.name) attribute.kind

abbrev is_one_member : List PlainParticle → Member → Bool
is_one_member all member = not (is_taken member.standing) || is_that (element_named all member.name) member.kind

abbrev are_one : List PlainParticle → PlainParticle → Bool
are_one all particle = list_all (is_one_member all) particle.members

each_attribute : (all : List AttributeOf) (particles : List PlainParticle) (here : Place) (at : ℕ) (attributes : List AttributeOf) → list_all (is_one_attribute all) attributes ≡ true → EachOf (IsDeclared all particles) (attribute_steps here at attributes)
each_attribute all particles here at [] is = tt
each_attribute all particles here at (attribute ∷ attributes) is = (
  is_kind (attribute_named all attribute.name) attribute.kind (and-l (is_one_attribute all attribute) (list_all (is_one_attribute all) attributes) is),
  each_attribute all particles here (at + 1) attributes (and-r (is_one_attribute all attribute) (list_all (is_one_attribute all) attributes) is),
)

member_by : (standing : MemberStanding) (b : Bool) → (not (is_taken standing) || b) ≡ true → standing ≡ Taken → b ≡ true
member_by Taken b is taken = is
member_by Abstract b is taken = let wrong : Abstract ≡ Taken = taken in absurd cc
member_by OutOfProfile b is taken = let wrong : OutOfProfile ≡ Taken = taken in absurd cc

each_member : (attributes : List AttributeOf) (all : List PlainParticle) (here : Place) (n at copies : ℕ) (particle : PlainParticle) (members : List Member) → list_all (is_one_member all) members ≡ true → EachOf (IsDeclared attributes all) (map (element_step here n at copies particle) members)
each_member attributes all here n at copies particle [] is = tt
each_member attributes all here n at copies particle (member ∷ members) is = (
  λ taken. is_kind (element_named all member.name) member.kind (member_by member.standing (is_that (element_named all member.name) member.kind) (and-l (is_one_member all member) (list_all (is_one_member all) members) is) taken),
  each_member attributes all here n at copies particle members (and-r (is_one_member all member) (list_all (is_one_member all) members) is),
)

each_element : (attributes : List AttributeOf) (all : List PlainParticle) (here : Place) (n at copies : ℕ) (particles : List PlainParticle) → list_all (are_one all) particles ≡ true → EachOf (IsDeclared attributes all) (element_steps here n at copies particles)
each_element attributes all here n at copies [] is = (tt, tt)
each_element attributes all here n at copies (particle ∷ particles) is =
    each_of_both _ (map (element_step here n at copies particle) particle.members) _
    (each_member attributes all here n at copies particle particle.members (and-l (are_one all particle) (list_all (are_one all) particles) is))
    (each_of_some _ (nat_lt copies particle.least) _ (each_element attributes all here n (at + 1) 0 particles (and-r (are_one all particle) (list_all (are_one all) particles) is)))

each_complex : (here : Place) (attributes : List AttributeOf) (particles : List PlainParticle) → list_all (is_one_attribute attributes) attributes ≡ true → list_all (are_one particles) particles ≡ true → EachOf (IsDeclared attributes particles) (complex_steps here attributes particles)
each_complex here attributes particles one other =
    let left = drop here.attributes attributes in
    each_of_both _ (attribute_steps here here.attributes (through_required left)) _
    (each_attribute attributes particles here here.attributes (through_required left) (fit_through (is_one_attribute attributes) left (fit_drop (is_one_attribute attributes) attributes here.attributes one)))
    (each_of_some _ (list_any (λ attribute. attribute.required) left) _
    (each_element attributes particles here (length attributes) here.particle here.copies (drop here.particle particles) (fit_drop (are_one particles) particles here.particle other)))

-- in a declaration
abbrev IsDeclaredIn : Option PlainKind → Step → Type 0
IsDeclaredIn o (Attribute name kind next) = attribute_in o name ≡ Some kind
IsDeclaredIn o (Element name kind next standing past_limit) = standing ≡ Taken → element_in o name ≡ Some kind
IsDeclaredIn o End = Unit {0}
IsDeclaredIn o (Characters next) = Unit {0}

simple_by : (d : PlainKind) (b : Bool) (here : Place) → IsDeclaredIn (Some d) (if b then Characters (record { kind = here.kind; particle = 1; copies = 0; attributes = 0 }) else End)
simple_by d true here = tt
simple_by d false here = tt

in_complex : (attributes : List AttributeOf) (particles : List PlainParticle) (step : Step) → IsDeclared attributes particles step → IsDeclaredIn (Some (containing attributes particles)) step
in_complex attributes particles (Attribute name kind next) is = is
in_complex attributes particles (Element name kind next standing past_limit) is = is
in_complex attributes particles End is = tt
in_complex attributes particles (Characters next) is = tt

declared_by : (o : Option PlainKind) (kinds : List PlainKind) (here : Place) (code : ℕ) (step : Step) → are_consistent kinds ≡ true → slice_get kinds here.kind ≡ o → slice_get (offers_of here o) code ≡ Some step → IsDeclaredIn o step
declared_by None kinds here code step fits is h = let wrong : None ≡ Some step = h in absurd cc
declared_by (Some (valued d)) kinds here code step fits is h =
    subst (λ (x : Step). IsDeclaredIn (Some (valued d)) x) (sym (only_code (simple_step here) step code h).0) (simple_by (valued d) (here.particle == 0) here)
declared_by (Some (containing attributes particles)) kinds here code step fits is h =
    let one = all_get is_consistent kinds here.kind (containing attributes particles) fits is in
    in_complex attributes particles step
    (each_of (IsDeclared attributes particles) (complex_steps here attributes particles) code step
    (each_complex here attributes particles (and-l (list_all (is_one_attribute attributes) attributes) (list_all (are_one particles) particles) one) (and-r (list_all (is_one_attribute attributes) attributes) (list_all (are_one particles) particles) one)) h)

pub attribute_declared : (s : PlainSchema) (here next : Place) (name kind : ℕ) → are_consistent s.kinds ≡ true → IsOffered s here (Attribute name kind next) → attribute_of s here.kind name ≡ Some kind
attribute_declared s here next name kind fits h = declared_by (slice_get s.kinds here.kind) s.kinds here h.0 (Attribute name kind next) fits refl h.1

pub element_declared : (s : PlainSchema) (here next : Place) (name kind : ℕ) → are_consistent s.kinds ≡ true → IsOffered s here (element name kind next) → element_of s here.kind name ≡ Some kind
element_declared s here next name kind fits h = declared_by (slice_get s.kinds here.kind) s.kinds here h.0 (element name kind next) fits refl h.1 refl

-- ---- a step goes on in the same kind

abbrev IsSameKind : Place → Step → Type 0
IsSameKind here (Attribute name kind next) = next.kind ≡ here.kind
IsSameKind here (Element name kind next standing past_limit) = next.kind ≡ here.kind
IsSameKind here End = Unit {0}
IsSameKind here (Characters next) = next.kind ≡ here.kind

same_attributes : (here : Place) (at : ℕ) (attributes : List AttributeOf) → EachOf (IsSameKind here) (attribute_steps here at attributes)
same_attributes here at [] = tt
same_attributes here at (attribute ∷ attributes) = (refl, same_attributes here (at + 1) attributes)

kind_by : (b c : Bool) (here one other : Place) → one.kind ≡ here.kind → other.kind ≡ here.kind →
    let place : Place = if b then (if c then one else other) else here in place.kind ≡ here.kind
kind_by true true here one other p q = p
kind_by true false here one other p q = q
kind_by false c here one other p q = refl

same_members : (here : Place) (n at copies : ℕ) (particle : PlainParticle) (members : List Member) → EachOf (IsSameKind here) (map (element_step here n at copies particle) members)
same_members here n at copies particle [] = tt
same_members here n at copies particle (member ∷ members) =
    let one : Place = record { kind = here.kind; particle = at; copies = copies + 1; attributes = n } in
    let other : Place = record { kind = here.kind; particle = at + 1; copies = 0; attributes = n } in
    (kind_by (nat_lt copies particle.profile) (leaves_room particle.most (copies + 1)) here one other refl refl, same_members here n at copies particle members)

same_elements : (here : Place) (n at copies : ℕ) (particles : List PlainParticle) → EachOf (IsSameKind here) (element_steps here n at copies particles)
same_elements here n at copies [] = (tt, tt)
same_elements here n at copies (particle ∷ particles) =
    each_of_both _ (map (element_step here n at copies particle) particle.members) _ (same_members here n at copies particle particle.members)
    (each_of_some _ (nat_lt copies particle.least) _ (same_elements here n (at + 1) 0 particles))

same_complex : (here : Place) (attributes : List AttributeOf) (particles : List PlainParticle) → EachOf (IsSameKind here) (complex_steps here attributes particles)
same_complex here attributes particles =
    let left = drop here.attributes attributes in
    each_of_both _ (attribute_steps here here.attributes (through_required left)) _ (same_attributes here here.attributes (through_required left))
    (each_of_some _ (list_any (λ attribute. attribute.required) left) _ (same_elements here (length attributes) here.particle here.copies (drop here.particle particles)))

same_simple : (b : Bool) (here : Place) → IsSameKind here (if b then Characters (record { kind = here.kind; particle = 1; copies = 0; attributes = 0 }) else End)
same_simple true here = refl
same_simple false here = tt

same_by : (o : Option PlainKind) (here : Place) (code : ℕ) (step : Step) → slice_get (offers_of here o) code ≡ Some step → IsSameKind here step
same_by None here code step h = let wrong : None ≡ Some step = h in absurd cc
same_by (Some (valued d)) here code step h = subst (λ (x : Step). IsSameKind here x) (sym (only_code (simple_step here) step code h).0) (same_simple (here.particle == 0) here)
same_by (Some (containing attributes particles)) here code step h =
    each_of (IsSameKind here) (complex_steps here attributes particles) code step (same_complex here attributes particles) h

pub attribute_kind_kept : (s : PlainSchema) (here next : Place) (name kind : ℕ) → IsOffered s here (Attribute name kind next) → next.kind ≡ here.kind
attribute_kind_kept s here next name kind h = same_by (slice_get s.kinds here.kind) here h.0 (Attribute name kind next) h.1

pub element_kind_kept : (s : PlainSchema) (here next : Place) (name kind : ℕ) → IsOffered s here (element name kind next) → next.kind ≡ here.kind
element_kind_kept s here next name kind h = same_by (slice_get s.kinds here.kind) here h.0 (element name kind next) h.1

pub characters_kind_kept : (s : PlainSchema) (here next : Place) → IsOffered s here (Characters next) → next.kind ≡ here.kind
characters_kind_kept s here next h = same_by (slice_get s.kinds here.kind) here h.0 (Characters next) h.1
