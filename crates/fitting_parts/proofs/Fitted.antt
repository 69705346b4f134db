-- What fits part by part holds what its kind says.
use Rattle.std.proofs.Common.{◌≡◌, ℕ, suc, ◌==◌, nat_le, if◌then◌else◌, Bool, true, false, List, [], ◌∷◌, ◌++◌, length, Option, Some, None, refl, sym, ap, ◌∙◌, slice_get, inl, inr}
use Rattle.std.proofs.lemmas.Bool.{leb-true}
use Rattle.std.specs.List.{AllByRecursion}
use Rattle.exi_schema.specs.declared.tables.AttributeOf.{AttributeOf}
use Rattle.exi_schema.specs.declared.tables.Member.{Member}
use Rattle.exi_schema.specs.declared.tables.MemberStanding.{MemberStanding}
use Rattle.exi_schema.specs.declared.tables.MemberStanding.TheVariants.{Taken, Abstract, OutOfProfile}
use Rattle.exi_schema.specs.declared.tables.RootOf.{RootOf}
use Rattle.exi_schema.specs.Plain.{PlainKind, containing, PlainParticle}
use Rattle.exi_schema.specs.Schemas.{PlainSchema, is_taken}
use Rattle.exi_schema.specs.Steps.{simple_at}
use Rattle.exi_schema.proofs.Conditions.{and-l, and-r}
use Rattle.exi_documents.specs.Trees.{Trees, none}
use Rattle.exi_documents.specs.Values.{IsValue}
use Rattle.kind_laws.specs.Kinds.{IsMemberOf, IsAtMost, StandsFor, HoldsAttributes, AreDivided, AreElements, FitsSchema}
use Rattle.message_parts.specs.Contents.{Inside, Of, Holding, Given, given, perhaps_given, Part, one, perhaps, each, perhaps_one, element, each_trees, trees_of, attributes_of, holding_with, root_of}
use Rattle.message_parts.specs.Particles.{alternatives, kind_among, has_room_for}
use Rattle.message_parts.proofs.Distinct.{number_is}
use Rattle.fitting_parts.specs.Fitting.{HoldsTrees, FitsGiven, takes_copies, FitsElement, FitsParts}

-- ---- the member of a name

abbrev Taking : List Member → ℕ → ℕ → Type 0
Taking members name kind = (m : Member) × (i : ℕ) × (slice_get members i ≡ Some m) × (m.standing ≡ Taken) × (name ≡ m.name) × (kind ≡ m.kind)

later : (m : Member) (members : List Member) (name kind : ℕ) → Taking members name kind → Taking (m ∷ members) name kind
later m members name kind there = (there.0, suc there.1, there.2, there.3, there.4, there.5)

some_is : (a b : ℕ) → Some a ≡ Some b → b ≡ a
some_is a b is = cc

named_by : (b : Bool) (m : Member) (members : List Member) (name kind : ℕ) → (m.name == name) ≡ b → m.standing ≡ Taken →
    (if b then Some m.kind else kind_among (alternatives members) name) ≡ Some kind → (kind_among (alternatives members) name ≡ Some kind → Taking members name kind) → Taking (m ∷ members) name kind
named_by true m members name kind test taken is more = (m, 0, refl, taken, sym (number_is m.name name test), some_is m.kind kind is)
named_by false m members name kind test taken is more = later m members name kind (more is)

taken_by : (standing : MemberStanding) (m : Member) (members : List Member) (name kind : ℕ) → m.standing ≡ standing →
    kind_among (if is_taken standing then (m.name, m.kind) ∷ alternatives members else alternatives members) name ≡ Some kind →
    (kind_among (alternatives members) name ≡ Some kind → Taking members name kind) → Taking (m ∷ members) name kind
taken_by Taken m members name kind standing is more = named_by (m.name == name) m members name kind refl standing is more
taken_by Abstract m members name kind standing is more = later m members name kind (more is)
taken_by OutOfProfile m members name kind standing is more = later m members name kind (more is)

taking : (members : List Member) (name kind : ℕ) → kind_among (alternatives members) name ≡ Some kind → Taking members name kind
taking [] name kind is = absurd cc
taking (m ∷ members) name kind is = taken_by m.standing m members name kind refl is (taking members name kind)

-- ---- elements

module _ (kinds : List PlainKind) where
  -- a member of a particle in front of others, with its element in front of theirs
  abbrev pub IsFront : PlainParticle → ℕ → Inside → Type 0
  IsFront particle name inside =
      (m : Member) × IsMemberOf particle m
      × ((others : List Member) (more : Trees) → AreElements IsValue kinds others more → AreElements IsValue kinds (m ∷ others) (element name inside more))

  front : (particle : PlainParticle) (name : ℕ) (inside : Inside) → FitsElement kinds particle name inside → IsFront particle name inside
  front particle name (Of value) fits =
      let there = taking particle.members name fits.0 fits.1 in (
        there.0,
        record { index = there.1; found = there.2; taken = there.3 },
        λ others more are. (there.0, others, refl, there.4, (fits.2.0, (ap (λ (k : ℕ). simple_at kinds k) (sym there.5) ∙ fits.2.1), fits.2.2), are),
      )
  front particle name (Holding attributes children) fits =
      let there = taking particle.members name fits.0 fits.1 in
      let held = fits.2 in (
        there.0,
        record { index = there.1; found = there.2; taken = there.3 },
        λ others more are. (
          there.0,
          others,
          refl,
          there.4,
          held.0,
          held.1,
          held.2,
          ap (λ (k : ℕ). slice_get kinds k) (sym there.5) ∙ held.3,
          held.4,
          held.5,
          held.6,
          are,
        ),
      )

  -- so many of them, one behind the other
  abbrev pub AreFront : PlainParticle → List Member → Trees → List Inside → ℕ → Type 0
  AreFront particle others more insides name =
      (own : List Member) × AllByRecursion (IsMemberOf particle) own × (length own ≡ length insides)
      × AreElements IsValue kinds (own ++ others) (each_trees name insides more)

  fronts : (particle : PlainParticle) (name : ℕ) (insides : List Inside) (others : List Member) (more : Trees) → AllByRecursion (FitsElement kinds particle name) insides → AreElements IsValue kinds others more → AreFront particle others more insides name
  fronts particle name [] others more fits are = ([], tt, refl, are)
  fronts particle name (inside ∷ insides) others more fits are =
      let rest = fronts particle name insides others more fits.1 are in
      let first = front particle name inside fits.0 in
      (first.0 ∷ rest.0, (first.1, rest.1), ap suc rest.2, first.2 (rest.0 ++ others) (each_trees name insides more) rest.3)

  -- ---- particles

  at_most : (most : Option ℕ) (n : ℕ) → has_room_for n most ≡ true → IsAtMost most n
  at_most None n is = tt
  at_most (Some most) n is = leb-true n most is

  standing_for : (particle : PlainParticle) (own : List Member) → AllByRecursion (IsMemberOf particle) own → takes_copies particle (length own) ≡ true → StandsFor particle own
  standing_for particle own are takes =
      let behind = and-r (nat_le particle.least (length own)) _ takes in
      record {
        own = are;
        least = leb-true particle.least (length own) (and-l (nat_le particle.least (length own)) _ takes);
        most = at_most particle.most (length own) (and-l (has_room_for (length own) particle.most) _ behind);
        profile = leb-true (length own) particle.profile (and-r (has_room_for (length own) particle.most) _ behind);
      }

  abbrev pub Divided : List PlainParticle → Trees → Type 0
  Divided particles trees = (members : List Member) × AreDivided particles members × AreElements IsValue kinds members trees

  no_copy : (particle : PlainParticle) (particles : List PlainParticle) (more : Trees) → takes_copies particle 0 ≡ true → Divided particles more → Divided (particle ∷ particles) more
  no_copy particle particles more takes rest =
      (rest.0, ([], rest.0, standing_for particle [] tt takes, rest.1, refl), rest.2)

  one_copy : (particle : PlainParticle) (particles : List PlainParticle) (name : ℕ) (inside : Inside) (more : Trees) → FitsElement kinds particle name inside → takes_copies particle 1 ≡ true → Divided particles more → Divided (particle ∷ particles) (element name inside more)
  one_copy particle particles name inside more fits takes rest =
      let first = front particle name inside fits in (
        first.0 ∷ rest.0,
        (first.0 ∷ [], rest.0, standing_for particle (first.0 ∷ []) (first.1, tt) takes, rest.1, refl),
        first.2 rest.0 more rest.2,
      )

  copies : (particle : PlainParticle) (particles : List PlainParticle) (name : ℕ) (insides : List Inside) (more : Trees) → AllByRecursion (FitsElement kinds particle name) insides → takes_copies particle (length insides) ≡ true → Divided particles more → Divided (particle ∷ particles) (each_trees name insides more)
  copies particle particles name insides more fits takes rest =
      let first = fronts particle name insides rest.0 more fits rest.2 in (
        first.0 ++ rest.0,
        (first.0, rest.0, standing_for particle first.0 first.1 (ap (takes_copies particle) first.2 ∙ takes), rest.1, refl),
        first.3,
      )

  pub parts_held : (particles : List PlainParticle) (parts : List Part) → FitsParts kinds particles parts → Divided particles (trees_of parts)
  parts_held [] [] fits = ([], refl, refl)
  parts_held [] (p ∷ parts) fits = absurd fits
  parts_held (particle ∷ particles) [] fits = no_copy particle particles none fits.0 (parts_held particles [] fits.1)
  parts_held (particle ∷ particles) (one name inside ∷ parts) fits = one_copy particle particles name inside (trees_of parts) fits.0.0 fits.0.1 (parts_held particles parts fits.1)
  parts_held (particle ∷ particles) (perhaps name None ∷ parts) fits = no_copy particle particles (trees_of parts) fits.0 (parts_held particles parts fits.1)
  parts_held (particle ∷ particles) (perhaps name (Some inside) ∷ parts) fits = one_copy particle particles name inside (trees_of parts) fits.0.0 fits.0.1 (parts_held particles parts fits.1)
  parts_held (particle ∷ particles) (each name insides ∷ parts) fits = copies particle particles name insides (trees_of parts) fits.0.0 fits.0.1 (parts_held particles parts fits.1)
  parts_held (particle ∷ particles) (perhaps_one None ∷ parts) fits = no_copy particle particles (trees_of parts) fits.0 (parts_held particles parts fits.1)
  parts_held (particle ∷ particles) (perhaps_one (Some chosen) ∷ parts) fits = one_copy particle particles chosen.0 chosen.1 (trees_of parts) fits.0.0 fits.0.1 (parts_held particles parts fits.1)

  -- ---- attributes

  pub given_held : (attributes : List AttributeOf) (gs : List Given) → FitsGiven kinds attributes gs → HoldsAttributes IsValue kinds attributes (attributes_of gs)
  given_held [] [] fits = record { chosen = []; are_chosen = refl; have_values = refl }
  given_held [] (g ∷ more) fits = absurd fits
  given_held (a ∷ attributes) [] fits = absurd fits
  given_held (a ∷ attributes) (given name value ∷ more) fits =
      let rest = given_held attributes more fits.2 in
      record { chosen = a ∷ rest.chosen; are_chosen = inr (rest.chosen, refl, rest.are_chosen); have_values = (fits.0, fits.1, rest.have_values) }
  given_held (a ∷ attributes) (perhaps_given name None ∷ more) fits =
      let rest = given_held attributes more fits.1 in
      record { chosen = rest.chosen; are_chosen = inl (fits.0, rest.are_chosen); have_values = rest.have_values }
  given_held (a ∷ attributes) (perhaps_given name (Some value) ∷ more) fits =
      let rest = given_held attributes more fits.2 in
      record { chosen = a ∷ rest.chosen; are_chosen = inr (rest.chosen, refl, rest.are_chosen); have_values = (fits.0, fits.1, rest.have_values) }

  -- ---- what contains them

  pub holding_held : (kind : ℕ) (attributes : List AttributeOf) (particles : List PlainParticle) (gs : List Given) (parts : List Part) → slice_get kinds kind ≡ Some (containing attributes particles) → FitsGiven kinds attributes gs → FitsParts kinds particles parts → HoldsTrees kinds kind (holding_with gs parts)
  holding_held kind attributes particles gs parts is own fits =
      let inside = parts_held particles parts fits in
      (attributes, particles, inside.0, is, given_held attributes gs own, inside.1, inside.2)

-- the root of a schema
pub root_fits : (s : PlainSchema) (i : ℕ) (root : RootOf) (inside : Inside) → slice_get s.roots i ≡ Some root → HoldsTrees s.kinds root.kind inside → FitsSchema s (root_of root.name inside)
root_fits s i root (Of value) found held =
    record { root = root; index = i; found = found; elements = (record { name = root.name; kind = root.kind; standing = Taken }, [], refl, refl, held, refl) }
root_fits s i root (Holding attributes children) found held =
    record {
      root = root;
      index = i;
      found = found;
      elements = (record { name = root.name; kind = root.kind; standing = Taken }, [], refl, refl, held.0, held.1, held.2, held.3, held.4, held.5, held.6, refl);
    }
