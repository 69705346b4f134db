-- The texts of an element are no more than its kind allows.
use Rattle.std.proofs.Common.{◌≡◌, ℕ, zero, suc, ◌+◌, ◌*◌, ◌≤◌, ◌&&◌, nat_le, max, Bool, true, false, List, [], ◌∷◌, ◌++◌, length, length-append, Option, Some, None, refl, sym, ap, subst, arith, slice_get, inl, inr}
use Rattle.std.proofs.lemmas.Bool.{leb-true}
use Rattle.std.proofs.lemmas.List.{append_assoc}
use Rattle.std.specs.List.{AllByRecursion, list_all}
use Rattle.exi_schema.specs.declared.tables.AttributeOf.{AttributeOf}
use Rattle.exi_schema.specs.declared.tables.Datatype.{Datatype}
use Rattle.exi_schema.specs.declared.tables.Datatype.TheVariants.{Bool as BoolType, Named, Bounded, Unsigned, Signed, Binary, Text as TextType}
use Rattle.exi_schema.specs.declared.tables.Member.{Member}
use Rattle.exi_schema.specs.Plain.{PlainKind, valued, containing, PlainParticle}
use Rattle.exi_schema.specs.Schemas.{PlainSchema, is_within, particles_of}
use Rattle.exi_schema.specs.Steps.{datatype_of}
use Rattle.exi_schema.proofs.Conditions.{and-l, and-r, all_get}
use Rattle.exi_documents.specs.Trees.{Value, Truth, Ordinal, Number, Bytes, Text, Trees, none, simple, complex, Tree, alone}
use Rattle.exi_documents.specs.Values.{most_entries, IsValue}
use Rattle.kind_laws.specs.Kinds.{IsMemberOf, HaveValues, AreChosen, AreDivided, AreElements, FitsSchema, member_of}
use Rattle.kind_laws.proofs.Lists.{get_back}
use Rattle.kind_laws.specs.Texts.{text_in, attribute_texts, texts_of, IsAmong, HasFewTexts}
use Rattle.fitting_parts.specs.Counted.{texts_of_datatype, most_of_members, most_of_particles, attribute_count, most_of_kind, most_texts, has_few_texts}

-- ---- values

value_few : (datatype : Datatype) (value : Value) → IsValue datatype value → length (text_in value) ≤ texts_of_datatype datatype
value_few datatype (Truth truth) is = omega arith
value_few datatype (Ordinal ordinal) is = omega arith
value_few datatype (Number v) is = omega arith
value_few datatype (Bytes bytes) is = omega arith
value_few datatype (Text []) is = omega arith
value_few (TextType most) (Text (char ∷ chars)) is = omega arith
value_few BoolType (Text (char ∷ chars)) is = absurd is
value_few (Named count) (Text (char ∷ chars)) is = absurd is
value_few (Bounded least count) (Text (char ∷ chars)) is = absurd is
value_few (Unsigned most) (Text (char ∷ chars)) is = absurd is
value_few (Signed least most) (Text (char ∷ chars)) is = absurd is
value_few (Binary most) (Text (char ∷ chars)) is = absurd is

value_at : (f : ℕ → ℕ) (o : Option PlainKind) (datatype : Datatype) (value : Value) → datatype_of o ≡ Some datatype → IsValue datatype value → length (text_in value) ≤ most_of_kind f o
value_at f None datatype value is own = absurd cc
value_at f (Some (containing attributes particles)) datatype value is own = absurd cc
value_at f (Some (valued other)) datatype value is own =
    let same : datatype ≡ other = cc in
    subst (λ (d : Datatype). length (text_in value) ≤ texts_of_datatype d) same (value_few datatype value own)

text_short : (value : Value) → length (text_in value) ≤ 1
text_short (Truth truth) = omega arith
text_short (Ordinal ordinal) = omega arith
text_short (Number v) = omega arith
text_short (Bytes bytes) = omega arith
text_short (Text []) = omega arith
text_short (Text (char ∷ chars)) = omega arith

-- ---- attributes

chosen_few : (declared chosen : List AttributeOf) → AreChosen declared chosen → length chosen ≤ attribute_count declared
chosen_few [] chosen are = omega (arith, ap length are)
chosen_few (a ∷ declared) chosen (inl g) = omega (arith, chosen_few declared chosen g.1)
chosen_few (a ∷ declared) chosen (inr g) = omega (arith, chosen_few declared g.0 g.2, ap length g.1)

values_few : (kinds : List PlainKind) (chosen : List AttributeOf) (values : List (ℕ × Value)) → HaveValues IsValue kinds chosen values → length (attribute_texts values) ≤ length chosen
values_few kinds [] [] have = omega arith
values_few kinds [] (v ∷ values) have = absurd cc
values_few kinds (a ∷ chosen) [] have = absurd have
values_few kinds (a ∷ chosen) (v ∷ values) have =
    omega (arith, text_short v.1, values_few kinds chosen values have.2, length-append (text_in v.1) (attribute_texts values))

-- ---- members

-- the greatest numbers of members, together
abbrev pub summed : (ℕ → ℕ) → List Member → ℕ
summed f [] = 0
summed f (m ∷ members) = f m.kind + summed f members

summed_both : (f : ℕ → ℕ) (xs ys : List Member) → summed f (xs ++ ys) ≡ summed f xs + summed f ys
summed_both f [] ys = omega arith
summed_both f (x ∷ xs) ys = omega (arith, summed_both f xs ys)

member_most : (f : ℕ → ℕ) (members : List Member) (i : ℕ) (m : Member) → slice_get members i ≡ Some m → f m.kind ≤ most_of_members f members
member_most f [] i m is = absurd cc
member_most f (x ∷ members) zero m is =
    let same : x ≡ m = cc in
    subst (λ (n : Member). f n.kind ≤ max (f x.kind) (most_of_members f members)) same (omega arith)
member_most f (x ∷ members) (suc i) m is = omega (arith, member_most f members i m is)

own_most : (f : ℕ → ℕ) (particle : PlainParticle) (own : List Member) → AllByRecursion (IsMemberOf particle) own → summed f own ≤ length own * most_of_members f particle.members
own_most f particle [] are = omega arith
own_most f particle (m ∷ own) are =
    omega (arith, member_most f particle.members are.0.index m are.0.found, own_most f particle own are.1)

times : (a b m : ℕ) → a ≤ b → a * m ≤ b * m
times a b m less = grind (arith, less)

divided_most : (f : ℕ → ℕ) (particles : List PlainParticle) (members : List Member) → AreDivided particles members → summed f members ≤ most_of_particles f particles
divided_most f [] members are = omega (arith, ap (summed f) are)
divided_most f (particle ∷ particles) members are =
    let own = are.0 in
    let stands = are.2 in
    omega (arith, own_most f particle own stands.own, times (length own) particle.profile (most_of_members f particle.members) stands.profile, divided_most f particles are.1 are.3, ap (summed f) are.4, summed_both f own are.1)

-- ---- what stands inside isn't deeper

own_within : (test : ℕ → Bool) (particle : PlainParticle) (own : List Member) → AllByRecursion (IsMemberOf particle) own → list_all (λ member. test member.kind) particle.members ≡ true → AllByRecursion (λ m. test m.kind ≡ true) own
own_within test particle [] are all = tt
own_within test particle (m ∷ own) are all =
    (all_get (λ member. test member.kind) particle.members are.0.index m all are.0.found, own_within test particle own are.1 all)

both_within : (test : ℕ → Bool) (xs ys : List Member) → AllByRecursion (λ m. test m.kind ≡ true) xs → AllByRecursion (λ m. test m.kind ≡ true) ys → AllByRecursion (λ m. test m.kind ≡ true) (xs ++ ys)
both_within test [] ys p q = q
both_within test (x ∷ xs) ys p q = (p.0, both_within test xs ys p.1 q)

divided_within : (test : ℕ → Bool) (particles : List PlainParticle) (members : List Member) → AreDivided particles members → list_all (λ particle. list_all (λ member. test member.kind) particle.members) particles ≡ true → AllByRecursion (λ m. test m.kind ≡ true) members
divided_within test [] members are all = subst (λ (ms : List Member). AllByRecursion (λ m. test m.kind ≡ true) ms) (sym are) tt
divided_within test (particle ∷ particles) members are all =
    let own = own_within test particle are.0 are.2.own (and-l (list_all (λ member. test member.kind) particle.members) _ all) in
    let others = divided_within test particles are.1 are.3 (and-r (list_all (λ member. test member.kind) particle.members) _ all) in
    subst (λ (ms : List Member). AllByRecursion (λ m. test m.kind ≡ true) ms) (sym are.4) (both_within test are.0 are.1 own others)

-- ---- elements

inside_of : (kinds : List PlainKind) (deep : ℕ) (o : Option PlainKind) (declared : List AttributeOf) (particles : List PlainParticle) → o ≡ Some (containing declared particles) →
    list_all (λ particle. list_all (λ member. is_within kinds deep member.kind) particle.members) (particles_of o) ≡ true →
    list_all (λ particle. list_all (λ member. is_within kinds deep member.kind) particle.members) particles ≡ true
inside_of kinds deep o declared particles is all =
    subst (λ (p : Option PlainKind). list_all (λ particle. list_all (λ member. is_within kinds deep member.kind) particle.members) (particles_of p) ≡ true) is all

kind_most : (f : ℕ → ℕ) (o : Option PlainKind) (declared : List AttributeOf) (particles : List PlainParticle) → o ≡ Some (containing declared particles) → most_of_kind f o ≡ attribute_count declared + most_of_particles f particles
kind_most f o declared particles is = ap (most_of_kind f) is

module _ (kinds : List PlainKind) where
  abbrev Within : ℕ → List Member → Type 0
  Within deep members = AllByRecursion (λ m. is_within kinds deep m.kind ≡ true) members

  not_within : (m : Member) (others : List Member) → Within zero (m ∷ others) → ⊥
  not_within m others within = let wrong : false ≡ true = within.0 in cc

  pub few : (deep : ℕ) (members : List Member) (trees : Trees) → AreElements IsValue kinds members trees → Within deep members → length (texts_of trees) ≤ summed (most_texts deep kinds) members
  few deep members none are within = omega arith
  few zero members (simple name value more) are within = absurd (not_within are.0 are.1 (subst (λ (ms : List Member). Within zero ms) are.2 within))
  few zero members (complex name attributes children more) are within = absurd (not_within are.0 are.1 (subst (λ (ms : List Member). Within zero ms) are.2 within))
  few (suc deep) members (simple name value more) are within =
      let inner = subst (λ (ms : List Member). Within (suc deep) ms) are.2 within in
      let f = most_texts (suc deep) kinds in
      let held = are.4 in
      omega (arith, value_at (most_texts deep kinds) (slice_get kinds are.0.kind) held.0 value held.1 held.2, few (suc deep) are.1 more are.5 inner.1, length-append (text_in value) (texts_of more), ap (summed f) are.2)
  few (suc deep) members (complex name attributes children more) are within =
      let inner = subst (λ (ms : List Member). Within (suc deep) ms) are.2 within in
      let f = most_texts (suc deep) kinds in
      let g = most_texts deep kinds in
      let declared = are.4 in
      let particles = are.5 in
      let inside = are.6 in
      let all = inside_of kinds deep (slice_get kinds are.0.kind) declared particles are.7 inner.0 in
      let under = few deep inside children are.10 (divided_within (is_within kinds deep) particles inside are.9 all) in
      let own = are.8 in
      omega (arith, under, divided_most g particles inside are.9, values_few kinds own.chosen attributes own.have_values, chosen_few declared own.chosen own.are_chosen, kind_most g (slice_get kinds are.0.kind) declared particles are.7, few (suc deep) are.1 more are.11 inner.1, length-append (attribute_texts attributes) (texts_of children ++ texts_of more), length-append (texts_of children) (texts_of more), ap (summed f) are.2)

-- ---- documents

among_behind : (front texts : List (List ℕ)) → AllByRecursion (IsAmong (front ++ texts)) texts
among_behind front [] = tt
among_behind front (text ∷ texts) =
    let rest = among_behind (front ++ text ∷ []) texts in
    (get_back front (text ∷ texts) 0 text refl, subst (λ (all : List (List ℕ)). AllByRecursion (IsAmong all) texts) (append_assoc front (text ∷ []) texts) rest)

pub few_texts : (s : PlainSchema) (tree : Tree) → has_few_texts s ≡ true → FitsSchema s tree → HasFewTexts tree
few_texts s tree is fits =
    let at_root = all_get (λ root. is_within s.kinds 16 root.kind && nat_le (most_texts 16 s.kinds root.kind) most_entries) s.roots fits.index fits.root is fits.found in
    let within = and-l (is_within s.kinds 16 fits.root.kind) _ at_root in
    let least = leb-true (most_texts 16 s.kinds fits.root.kind) most_entries (and-r (is_within s.kinds 16 fits.root.kind) _ at_root) in
    let bound = few s.kinds 16 (member_of fits.root ∷ []) (alone tree) fits.elements (within, tt) in
    record { different = texts_of (alone tree); few = omega (arith, bound, least); each = among_behind [] (texts_of (alone tree)) }
