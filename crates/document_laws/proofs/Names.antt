-- No two elements and no two attributes of one name are offered at a place of a schema, and the end once.
use Rattle.std.proofs.Common.{◌≡◌, ℕ, zero, suc, ◌+◌, ◌≤◌, Bool, true, false, not, ◌&&◌, nat_lt, nat_le, if◌then◌else◌, List, [], ◌∷◌, ◌++◌, length, drop, map, Option, Some, None, slice_get, refl, sym, ap, ap₂, subst, ◌∙◌, append-nil}
use Rattle.std.specs.List.{list_any, list_all}
use Rattle.std.specs.Prelude.{◌==◌, ◌||◌}
use Rattle.exi_schema.specs.Schemas.{PlainSchema, is_attribute, is_particle, widest, attribute_names, element_names, are_distinct, are_offers}
use Rattle.exi_schema.specs.declared.tables.AttributeOf.{AttributeOf}
use Rattle.exi_schema.specs.Plain.{PlainKind, valued, containing, PlainParticle}
use Rattle.exi_schema.specs.declared.tables.Member.{Member}
use Rattle.exi_schema.specs.declared.places.Place.{Place}
use Rattle.exi_schema.specs.declared.places.Step.{Step}
use Rattle.exi_schema.specs.declared.places.Step.TheVariants.{Attribute, Element, End, Characters}
use Rattle.exi_schema.specs.Offers.{through_required, attribute_steps, leaves_room, element_step, element_steps, simple_step, complex_steps, offers_of, offers, FitsParticles, IsPlaceOf, IsPlace}
use Rattle.exi_schema.proofs.Conditions.{and-l, and-r, each_at, kinds_of, declared, not_below, wide_room}
use Rattle.exi_documents.specs.Documents.{SpellsStep}
use Rattle.exi_spec.specs.Bits.{number_bits}
use Rattle.document_laws.specs.Laws.{OffersOnce}
use Rattle.document_laws.proofs.Fits.{not_any}
use Rattle.document_laws.proofs.Offered.{same_width}

-- ---- the keys of some steps

abbrev pub element_key : Step → Option ℕ
element_key (Attribute name kind next) = None
element_key (Element name kind next standing past_limit) = Some name
element_key End = None
element_key (Characters next) = None

abbrev pub attribute_key : Step → Option ℕ
attribute_key (Attribute name kind next) = Some name
attribute_key (Element name kind next standing past_limit) = None
attribute_key End = None
attribute_key (Characters next) = None

abbrev pub end_key : Step → Option ℕ
end_key (Attribute name kind next) = None
end_key (Element name kind next standing past_limit) = None
end_key End = Some 0
end_key (Characters next) = None

abbrev add : Option ℕ → List ℕ → List ℕ
add None keys = keys
add (Some key) keys = key ∷ keys

abbrev gathered : (Step → Option ℕ) → List Step → List ℕ
gathered key [] = []
gathered key (step ∷ steps) = add (key step) (gathered key steps)

elements_gathered : (steps : List Step) → element_names steps ≡ gathered element_key steps
elements_gathered [] = refl
elements_gathered (Attribute name kind next ∷ steps) = elements_gathered steps
elements_gathered (Element name kind next standing past_limit ∷ steps) = ap (λ (l : List ℕ). name ∷ l) (elements_gathered steps)
elements_gathered (End ∷ steps) = elements_gathered steps
elements_gathered (Characters next ∷ steps) = elements_gathered steps

attributes_gathered : (steps : List Step) → attribute_names steps ≡ gathered attribute_key steps
attributes_gathered [] = refl
attributes_gathered (Attribute name kind next ∷ steps) = ap (λ (l : List ℕ). name ∷ l) (attributes_gathered steps)
attributes_gathered (Element name kind next standing past_limit ∷ steps) = attributes_gathered steps
attributes_gathered (End ∷ steps) = attributes_gathered steps
attributes_gathered (Characters next ∷ steps) = attributes_gathered steps

add_append : (o : Option ℕ) (xs ys : List ℕ) → add o (xs ++ ys) ≡ add o xs ++ ys
add_append None xs ys = refl
add_append (Some key) xs ys = refl

gathered-append : (key : Step → Option ℕ) (xs ys : List Step) → gathered key (xs ++ ys) ≡ gathered key xs ++ gathered key ys
gathered-append key [] ys = refl
gathered-append key (x ∷ xs) ys = ap (λ (l : List ℕ). add (key x) l) (gathered-append key xs ys) ∙ add_append (key x) (gathered key xs) (gathered key ys)

gathered_if : (key : Step → Option ℕ) (b : Bool) (steps : List Step) → gathered key (if b then [] else steps) ≡ (if b then [] else gathered key steps)
gathered_if key true steps = refl
gathered_if key false steps = refl

-- ---- a key that stands once

key_in : (key : Step → Option ℕ) (steps : List Step) (i n : ℕ) (x : Step) → slice_get steps i ≡ Some x → key x ≡ Some n → (k : ℕ) × (slice_get (gathered key steps) k ≡ Some n)
key_in key [] i n x h e = let wrong : None ≡ Some x = h in absurd cc
key_in key (y ∷ steps) zero n x h e =
    let same : Some y ≡ Some x = h in
    let is : y ≡ x = cc in
    (0, ap (λ (o : Option ℕ). slice_get (add o (gathered key steps)) 0) (ap key is ∙ e))
key_in key (y ∷ steps) (suc i) n x h e = later (key y) (key_in key steps i n x h e)
  where
    later : (o : Option ℕ) → ((k : ℕ) × (slice_get (gathered key steps) k ≡ Some n)) → (k : ℕ) × (slice_get (add o (gathered key steps)) k ≡ Some n)
    later None found = found
    later (Some m) found = (suc found.0, found.1)

distinct_later : (o : Option ℕ) (keys : List ℕ) → are_distinct (add o keys) ≡ true → are_distinct keys ≡ true
distinct_later None keys h = h
distinct_later (Some key) keys h = and-r (not (list_any (λ m. m == key) keys)) (are_distinct keys) h

-- a key that stands first stands nowhere else
first_alone : (key : Step → Option ℕ) (x y : Step) (steps : List Step) (j n : ℕ) → are_distinct (gathered key (x ∷ steps)) ≡ true → key x ≡ Some n → slice_get steps j ≡ Some y → key y ≡ Some n → ⊥
first_alone key x y steps j n apart e h f =
    let found = key_in key steps j n y h f in
    let first : are_distinct (n ∷ gathered key steps) ≡ true = subst (λ (o : Option ℕ). are_distinct (add o (gathered key steps)) ≡ true) e apart in
    not_any n (gathered key steps) found.0 n (and-l _ (are_distinct (gathered key steps)) first) found.1 refl

one_key : (key : Step → Option ℕ) (steps : List Step) (i j n : ℕ) (x y : Step) → are_distinct (gathered key steps) ≡ true → slice_get steps i ≡ Some x → slice_get steps j ≡ Some y → key x ≡ Some n → key y ≡ Some n → i ≡ j
one_key key [] i j n x y apart p q e f = let wrong : None ≡ Some x = p in absurd cc
one_key key (z ∷ steps) zero zero n x y apart p q e f = refl
one_key key (z ∷ steps) zero (suc j) n x y apart p q e f =
    let same : Some z ≡ Some x = p in let is : z ≡ x = cc in absurd (first_alone key z y steps j n apart (ap key is ∙ e) q f)
one_key key (z ∷ steps) (suc i) zero n x y apart p q e f =
    let same : Some z ≡ Some y = q in let is : z ≡ y = cc in absurd (first_alone key z x steps i n apart (ap key is ∙ f) p e)
one_key key (z ∷ steps) (suc i) (suc j) n x y apart p q e f =
    ap suc (one_key key steps i j n x y (distinct_later (key z) (gathered key steps) apart) p q e f)

-- steps of one key are one, and have one code
pub one_taken_by : (key : Step → Option ℕ) (kinds : List PlainKind) (here : Place) (n : ℕ) (x y : Step) (a b : List Bool) → are_distinct (gathered key (offers kinds here)) ≡ true →
    SpellsStep kinds here x a → SpellsStep kinds here y b → key x ≡ Some n → key y ≡ Some n → (x ≡ y) × (a ≡ b)
one_taken_by key kinds here n x y a b apart p q e f =
    let code = one_key key (offers kinds here) p.code q.code n x y apart p.offered q.offered e f in
    let wide = same_width (length (offers kinds here)) p.width q.width p.is_width q.is_width in
    let found : Some x ≡ Some y = sym p.offered ∙ ap (λ (k : ℕ). slice_get (offers kinds here) k) code ∙ q.offered in
    (let same : x ≡ y = cc in same, p.spelled.spelled ∙ ap₂ (λ (w k : ℕ). number_bits w k) wide code ∙ sym q.spelled.spelled)

-- ---- elements

names_of : List Member → List ℕ
names_of members = map (λ (member : Member). member.name) members

abbrev names_at : ℕ → List PlainParticle → List ℕ
names_at copies [] = []
names_at copies (particle ∷ particles) = names_of particle.members ++ (if nat_lt copies particle.least then [] else names_at 0 particles)

member_names : (here : Place) (n at copies : ℕ) (particle : PlainParticle) (members : List Member) → gathered element_key (map (element_step here n at copies particle) members) ≡ names_of members
unfolding names_of
member_names here n at copies particle [] = refl
member_names here n at copies particle (member ∷ members) = ap (λ (l : List ℕ). member.name ∷ l) (member_names here n at copies particle members)

step_names : (here : Place) (n at copies : ℕ) (particles : List PlainParticle) → gathered element_key (element_steps here n at copies particles) ≡ names_at copies particles
step_names here n at copies [] = refl
step_names here n at copies (particle ∷ particles) =
    gathered-append element_key (map (element_step here n at copies particle) particle.members) _
    ∙ ap₂ (λ (x y : List ℕ). x ++ y) (member_names here n at copies particle particle.members)
    (gathered_if element_key (nat_lt copies particle.least) (element_steps here n (at + 1) 0 particles)
    ∙ ap (λ (l : List ℕ). if nat_lt copies particle.least then [] else l) (step_names here n (at + 1) 0 particles))

no_names : (here : Place) (at : ℕ) (attributes : List AttributeOf) → gathered element_key (attribute_steps here at attributes) ≡ []
no_names here at [] = refl
no_names here at (attribute ∷ attributes) = no_names here (at + 1) attributes

abbrev needs : Place → List AttributeOf → Bool
needs here attributes = list_any (λ attribute. attribute.required) (drop here.attributes attributes)

complex_names : (here : Place) (attributes : List AttributeOf) (particles : List PlainParticle) →
    gathered element_key (complex_steps here attributes particles) ≡ (if needs here attributes then [] else names_at here.copies (drop here.particle particles))
complex_names here attributes particles =
    gathered-append element_key (attribute_steps here here.attributes (through_required (drop here.attributes attributes))) _
    ∙ ap₂ (λ (x y : List ℕ). x ++ y) (no_names here here.attributes (through_required (drop here.attributes attributes)))
    (gathered_if element_key (needs here attributes) (element_steps here (length attributes) here.particle here.copies (drop here.particle particles))
    ∙ ap (λ (l : List ℕ). if needs here attributes then [] else l) (step_names here (length attributes) here.particle here.copies (drop here.particle particles)))

not_any_front : (n : ℕ) (xs ys : List ℕ) → not (list_any (λ m. m == n) (xs ++ ys)) ≡ true → not (list_any (λ m. m == n) xs) ≡ true
not_any_front n [] ys h = refl
not_any_front n (x ∷ xs) ys h = by_test (x == n) (not_any_front n xs ys) h
  where
    by_test : (b : Bool) → (not (list_any (λ m. m == n) (xs ++ ys)) ≡ true → not (list_any (λ m. m == n) xs) ≡ true) →
        not (b || list_any (λ m. m == n) (xs ++ ys)) ≡ true → not (b || list_any (λ m. m == n) xs) ≡ true
    by_test true later h = h
    by_test false later h = later h

distinct_front : (xs ys : List ℕ) → are_distinct (xs ++ ys) ≡ true → are_distinct xs ≡ true
distinct_front [] ys h = refl
distinct_front (x ∷ xs) ys h =
    both (not (list_any (λ m. m == x) xs)) (are_distinct xs) (not_any_front x xs ys (and-l _ (are_distinct (xs ++ ys)) h)) (distinct_front xs ys (and-r (not (list_any (λ m. m == x) (xs ++ ys))) (are_distinct (xs ++ ys)) h))
  where
    both : (a b : Bool) → a ≡ true → b ≡ true → (a && b) ≡ true
    both a b e f = ap₂ (λ (x y : Bool). x && y) e f

-- after any copies the names are among those after so many that the minimum is just met
names_distinct : (copies : ℕ) (particles : List PlainParticle) → FitsParticles copies particles → are_distinct (names_at (widest particles) particles) ≡ true → are_distinct (names_at copies particles) ≡ true
names_distinct copies [] fits apart = refl
names_distinct copies (particle ∷ particles) fits apart = by_test (nat_lt copies particle.least) refl
  where
    by_test : (b : Bool) → nat_lt copies particle.least ≡ b → are_distinct (names_of particle.members ++ (if b then [] else names_at 0 particles)) ≡ true
    by_test true is = subst (λ (l : List ℕ). are_distinct l ≡ true) (sym (append-nil (names_of particle.members))) (distinct_front (names_of particle.members) _ apart)
    by_test false is =
        let room : leaves_room particle.most particle.least ≡ true = wide_room particle.most particle.least copies particle.profile fits is in
        let wide : nat_lt (widest (particle ∷ particles)) particle.least ≡ false =
        subst (λ (b : Bool). nat_lt (if b then particle.least else 0) particle.least ≡ false) (sym room) (not_below particle.least) in
        subst (λ (b : Bool). are_distinct (names_of particle.members ++ (if b then [] else names_at 0 particles)) ≡ true) wide apart

-- ---- attributes

abbrev names_through : List AttributeOf → List ℕ
names_through attributes = map (λ (attribute : AttributeOf). attribute.name) attributes

attribute_names_of : (here : Place) (at : ℕ) (attributes : List AttributeOf) → gathered attribute_key (attribute_steps here at attributes) ≡ names_through attributes
attribute_names_of here at [] = refl
attribute_names_of here at (attribute ∷ attributes) = ap (λ (l : List ℕ). attribute.name ∷ l) (attribute_names_of here (at + 1) attributes)

no_attribute_members : (here : Place) (n at copies : ℕ) (particle : PlainParticle) (members : List Member) → gathered attribute_key (map (element_step here n at copies particle) members) ≡ []
no_attribute_members here n at copies particle [] = refl
no_attribute_members here n at copies particle (member ∷ members) = no_attribute_members here n at copies particle members

if_none : (b : Bool) (keys : List ℕ) → keys ≡ [] → (if b then [] else keys) ≡ []
if_none true keys e = refl
if_none false keys e = e

no_attribute_steps : (here : Place) (n at copies : ℕ) (particles : List PlainParticle) → gathered attribute_key (element_steps here n at copies particles) ≡ []
no_attribute_steps here n at copies [] = refl
no_attribute_steps here n at copies (particle ∷ particles) =
    gathered-append attribute_key (map (element_step here n at copies particle) particle.members) _
    ∙ ap₂ (λ (x y : List ℕ). x ++ y) (no_attribute_members here n at copies particle particle.members)
    (gathered_if attribute_key (nat_lt copies particle.least) (element_steps here n (at + 1) 0 particles) ∙ if_none (nat_lt copies particle.least) _ (no_attribute_steps here n (at + 1) 0 particles))

complex_attributes : (here : Place) (attributes : List AttributeOf) (particles : List PlainParticle) → gathered attribute_key (complex_steps here attributes particles) ≡ names_through (through_required (drop here.attributes attributes))
complex_attributes here attributes particles =
    gathered-append attribute_key (attribute_steps here here.attributes (through_required (drop here.attributes attributes))) _
    ∙ ap₂ (λ (x y : List ℕ). x ++ y) (attribute_names_of here here.attributes (through_required (drop here.attributes attributes)))
    (gathered_if attribute_key (needs here attributes) (element_steps here (length attributes) here.particle here.copies (drop here.particle particles))
    ∙ if_none (needs here attributes) _ (no_attribute_steps here (length attributes) here.particle here.copies (drop here.particle particles)))
    ∙ append-nil (names_through (through_required (drop here.attributes attributes)))

-- ---- the end

no_end_attributes : (here : Place) (at : ℕ) (attributes : List AttributeOf) → gathered end_key (attribute_steps here at attributes) ≡ []
no_end_attributes here at [] = refl
no_end_attributes here at (attribute ∷ attributes) = no_end_attributes here (at + 1) attributes

no_end_members : (here : Place) (n at copies : ℕ) (particle : PlainParticle) (members : List Member) → gathered end_key (map (element_step here n at copies particle) members) ≡ []
no_end_members here n at copies particle [] = refl
no_end_members here n at copies particle (member ∷ members) = no_end_members here n at copies particle members

distinct_if : (b : Bool) (keys : List ℕ) → are_distinct keys ≡ true → are_distinct (if b then [] else keys) ≡ true
distinct_if true keys h = refl
distinct_if false keys h = h

distinct_by : (keys same : List ℕ) → keys ≡ same → are_distinct same ≡ true → are_distinct keys ≡ true
distinct_by keys same e h = ap (λ (l : List ℕ). are_distinct l) e ∙ h

one_end : (here : Place) (n at copies : ℕ) (particles : List PlainParticle) → are_distinct (gathered end_key (element_steps here n at copies particles)) ≡ true
one_end here n at copies [] = refl
one_end here n at copies (particle ∷ particles) =
    distinct_by _ (if nat_lt copies particle.least then [] else gathered end_key (element_steps here n (at + 1) 0 particles))
    (gathered-append end_key (map (element_step here n at copies particle) particle.members) _
    ∙ ap₂ (λ (x y : List ℕ). x ++ y) (no_end_members here n at copies particle particle.members) (gathered_if end_key (nat_lt copies particle.least) (element_steps here n (at + 1) 0 particles)))
    (distinct_if (nat_lt copies particle.least) _ (one_end here n (at + 1) 0 particles))

complex_end : (here : Place) (attributes : List AttributeOf) (particles : List PlainParticle) → are_distinct (gathered end_key (complex_steps here attributes particles)) ≡ true
complex_end here attributes particles =
    distinct_by _ (if needs here attributes then [] else gathered end_key (element_steps here (length attributes) here.particle here.copies (drop here.particle particles)))
    (gathered-append end_key (attribute_steps here here.attributes (through_required (drop here.attributes attributes))) _
    ∙ ap₂ (λ (x y : List ℕ). x ++ y) (no_end_attributes here here.attributes (through_required (drop here.attributes attributes)))
    (gathered_if end_key (needs here attributes) (element_steps here (length attributes) here.particle here.copies (drop here.particle particles))))
    (distinct_if (needs here attributes) _ (one_end here (length attributes) here.particle here.copies (drop here.particle particles)))

-- ---- at any place of a schema

-- each key stands once
pub record HasOnes (kinds : List PlainKind) (here : Place) : Type 0 where
  pub elements : are_distinct (gathered element_key (offers kinds here)) ≡ true
  pub attributes : are_distinct (gathered attribute_key (offers kinds here)) ≡ true
  pub ends : are_distinct (gathered end_key (offers kinds here)) ≡ true

one_of_one : (o : Option ℕ) → are_distinct (add o []) ≡ true
one_of_one None = refl
one_of_one (Some n) = refl

offers_fit : (s : PlainSchema) (k : ℕ) (attributes : _) (particles : _) (a p : ℕ) → slice_get s.kinds k ≡ Some (containing attributes particles) → a ≤ length attributes → p ≤ length particles →
    are_offers (complex_steps (record { kind = 0; particle = p; copies = widest (drop p particles); attributes = a }) attributes particles) ≡ true
offers_fit s k attributes particles a p at within inside =
    let n = length s.names in
    let is = declared n s.kinds k (containing attributes particles) (kinds_of s.kinds s.names s.values s.root_bits s.roots s.fits) at in
    let whole = and-r (nat_le (length attributes) 65535 && nat_le (length particles) 65535 && list_all (is_attribute n s.kinds) attributes && list_all (is_particle n (length s.kinds)) particles) _ is in
    each_at (length particles) _ p (each_at (length attributes) _ a whole within) inside

ones_by : (o : Option PlainKind) (s : PlainSchema) (here : Place) → slice_get s.kinds here.kind ≡ o → IsPlaceOf here o →
    (are_distinct (gathered element_key (offers_of here o)) ≡ true) × (are_distinct (gathered attribute_key (offers_of here o)) ≡ true) × (are_distinct (gathered end_key (offers_of here o)) ≡ true)
ones_by None s here is at = absurd at
ones_by (Some (valued d)) s here is at =
    (one_of_one (element_key (simple_step here)), one_of_one (attribute_key (simple_step here)), one_of_one (end_key (simple_step here)))
ones_by (Some (containing attributes particles)) s here is at =
    let wide : Place = record { kind = 0; particle = here.particle; copies = widest (drop here.particle particles); attributes = here.attributes } in
    let steps = complex_steps wide attributes particles in
    let fit = offers_fit s here.kind attributes particles here.attributes here.particle is at.0 at.1 in
    let elements : are_distinct (element_names steps) ≡ true = and-r (nat_le (length steps) 65535 && are_distinct (attribute_names steps)) (are_distinct (element_names steps)) fit in
    let named : are_distinct (attribute_names steps) ≡ true = and-r (nat_le (length steps) 65535) (are_distinct (attribute_names steps)) (and-l _ (are_distinct (element_names steps)) fit) in
    let among : are_distinct (if needs here attributes then [] else names_at (widest (drop here.particle particles)) (drop here.particle particles)) ≡ true =
    distinct_by _ _ (sym (elements_gathered steps ∙ complex_names wide attributes particles)) elements in (
      distinct_by _ _ (complex_names here attributes particles) (by_test (needs here attributes) among),
      distinct_by _ _ (complex_attributes here attributes particles ∙ sym (complex_attributes wide attributes particles) ∙ sym (attributes_gathered steps)) named,
      complex_end here attributes particles,
    )
  where
    by_test : (b : Bool) → are_distinct (if b then [] else names_at (widest (drop here.particle particles)) (drop here.particle particles)) ≡ true → are_distinct (if b then [] else names_at here.copies (drop here.particle particles)) ≡ true
    by_test true h = refl
    by_test false h = names_distinct here.copies (drop here.particle particles) at.2 h

pub ones_at : (s : PlainSchema) (here : Place) → IsPlace s.kinds here → HasOnes s.kinds here
ones_at s here at = let all = ones_by (slice_get s.kinds here.kind) s here refl at in record { elements = all.0; attributes = all.1; ends = all.2 }

pub offers_once : (s : PlainSchema) (here : Place) → IsPlace s.kinds here → OffersOnce s.kinds here
offers_once s here at =
    let ones = ones_at s here at in
    record {
      elements = distinct_by _ _ (elements_gathered (offers s.kinds here)) ones.elements;
      attributes = distinct_by _ _ (attributes_gathered (offers s.kinds here)) ones.attributes;
    }
