-- Of each kind there is an element: with the least value of a datatype, and with the attributes and elements that have to be there.
use Rattle.std.proofs.Common.{◌≡◌, ℕ, zero, suc, ℤ, pos, ◌+◌, ◌-◌, ◌<◌, ◌≤◌, ◌==◌, ◌&&◌, ◌||◌, nat_lt, nat_le, Bool, true, false, List, [], ◌∷◌, ◌++◌, length, drop, replicate, Option, Some, None, refl, sym, ap, subst, ◌∙◌, arith, slice_get, inl, inr, T}
use Rattle.std.specs.Prelude.{◌≤ℤ◌, ◌+ℤ◌}
use Rattle.std.specs.Int.Signed.{le_z, le_z_yes}
use Rattle.std.proofs.lemmas.Int.{ints}
use Rattle.std.proofs.lemmas.Bool.{leb-true, ltb-true, cases_lt}
use Rattle.std.proofs.lemmas.Bool.Decides.{eqb_tells}
use Rattle.std.proofs.lemmas.List.{length-replicate}
use Rattle.std.proofs.lemmas.Option.{slice_get_cases}
use Rattle.std.specs.List.{AllByRecursion, list_any, list_all}
use Rattle.exi_schema.specs.declared.tables.AttributeOf.{AttributeOf}
use Rattle.exi_schema.specs.declared.tables.Datatype.{Datatype}
use Rattle.exi_schema.specs.declared.tables.Datatype.TheVariants.{Bool as BoolType, Named, Bounded, Unsigned, Signed, Binary, Text as TextType}
use Rattle.exi_schema.specs.declared.tables.Member.{Member}
use Rattle.exi_schema.specs.declared.tables.MemberStanding.{MemberStanding}
use Rattle.exi_schema.specs.declared.tables.MemberStanding.TheVariants.{Taken, Abstract, OutOfProfile}
use Rattle.exi_schema.specs.Plain.{PlainKind, valued, containing, PlainParticle}
use Rattle.exi_schema.specs.Schemas.{PlainSchema, is_taken, is_most, is_particle, can_be_there, is_simple, is_attribute, is_datatype, is_within, particles_of}
use Rattle.exi_schema.specs.Steps.{simple_at, datatype_of}
use Rattle.exi_schema.proofs.Conditions.{and-l, and-r, all_get, each_at, kinds_of, complex_in, datatype_fits}
use Rattle.exi_documents.specs.Trees.{Value, Truth, Ordinal, Number, Bytes, Text, Trees, none, simple, complex}
use Rattle.exi_documents.specs.Values.{IsValue}
use Rattle.document_laws.specs.Laws.{IsInRange}
use Rattle.document_laws.proofs.Written.{range_at}
use Rattle.kind_laws.specs.Kinds.{IsMemberOf, IsAtMost, AreChosen, Values, HasValue, HaveValues, AreElements}
use Rattle.kind_laws.specs.Texts.{text_in}
use Rattle.kind_laws.proofs.Lists.{none_of}
use Rattle.kind_laws.proofs.Division.{GoOn, Remain}
use Rattle.kind_laws.proofs.Leading.{MostFits, AreSound, sound_behind, divided_all}
use Rattle.kind_laws.proofs.Held.{sound_in}

-- ---- values

-- a value of a datatype whose bounds are numbers of their types, and no text that would be entered
abbrev pub IsLeast : Values
IsLeast datatype value = IsValue datatype value × IsInRange datatype × (text_in value ≡ [])

to_le : (a b : ℤ) → le_z a b ≡ true → a ≤ℤ b
to_le a b h = le_z_yes (subst T (sym h) tt)

pub least_value : (datatype : Datatype) → is_datatype datatype ≡ true → IsInRange datatype → (value : Value) × IsLeast datatype value
least_value BoolType is range = (Truth false, (tt, range, refl))
least_value (Named count) is range = (Ordinal 0, (leb-true 1 count is, range, refl))
least_value (Bounded least count) is range = (Number least, ((0, leb-true 1 count (and-l _ _ is), (let e : least ≡ least +ℤ pos 0 = omega (arith, ints) in e)), range, refl))
least_value (Unsigned most) is range = (Number (pos 0), (omega arith, range, refl))
least_value (Signed least most) is range = (Number least, ((omega (arith, ints), to_le least most (and-l _ _ (and-l _ _ is))), range, refl))
least_value (Binary most) is range = (Bytes [], ((omega arith, tt), range, refl))
least_value (TextType most) is range = (Text [], ((omega arith, tt), range, refl))

all_behind : {X : Type 0} (test : X → Bool) (n : ℕ) (xs : List X) → list_all test xs ≡ true → list_all test (drop n xs) ≡ true
all_behind test zero xs h = h
all_behind test (suc n) [] h = h
all_behind test (suc n) (x ∷ xs) h = all_behind test n xs (and-r (test x) (list_all test xs) h)

-- ---- attributes

attribute_simple : (o : Option PlainKind) → is_simple o ≡ true → (datatype : Datatype) × (datatype_of o ≡ Some datatype)
attribute_simple None h = let wrong : false ≡ true = h in absurd cc
attribute_simple (Some (valued datatype)) h = (datatype, refl)
attribute_simple (Some (containing declared particles)) h = let wrong : false ≡ true = h in absurd cc

-- what has a value in each of them
abbrev pub Attributes : List PlainKind → List AttributeOf → Type 0
Attributes kinds declared = (chosen : List AttributeOf) × (values : List (ℕ × Value)) × AreChosen declared chosen × HaveValues IsLeast kinds chosen values

module _ (s : PlainSchema) where
  value_at : (kind : ℕ) → is_simple (slice_get s.kinds kind) ≡ true → (value : Value) × HasValue IsLeast s.kinds kind value
  value_at kind h =
      let own = attribute_simple (slice_get s.kinds kind) h in
      let least = least_value own.0 (datatype_fits s kind own.0 own.1) (range_at s kind own.0 own.1) in
      (least.0, (own.0, own.1, least.1))

  attributes_by : (required : Bool) (attribute : AttributeOf) (declared : List AttributeOf) → attribute.required ≡ required → is_simple (slice_get s.kinds attribute.kind) ≡ true → Attributes s.kinds declared → Attributes s.kinds (attribute ∷ declared)
  attributes_by true attribute declared is own rest =
      let value = value_at attribute.kind own in
      (attribute ∷ rest.0, (attribute.name, value.0) ∷ rest.1, inr (rest.0, refl, rest.2), (refl, value.1, rest.3))
  attributes_by false attribute declared is own rest = (rest.0, rest.1, inl (is, rest.2), rest.3)

  pub attributes_filled : (declared : List AttributeOf) → list_all (is_attribute (length s.names) s.kinds) declared ≡ true → Attributes s.kinds declared
  attributes_filled [] h = ([], [], refl, refl)
  attributes_filled (attribute ∷ declared) h =
      let one = and-l (is_attribute (length s.names) s.kinds attribute) (list_all (is_attribute (length s.names) s.kinds) declared) h in
      attributes_by attribute.required attribute declared refl (and-r (nat_lt attribute.name (length s.names)) (is_simple (slice_get s.kinds attribute.kind)) one)
      (attributes_filled declared (and-r (is_attribute (length s.names) s.kinds attribute) (list_all (is_attribute (length s.names) s.kinds) declared) h))

  -- ---- elements

  -- an element for a member, in front of others
  abbrev pub Fills : Member → Type 0
  Fills member = (others : List Member) (more : Trees) → AreElements IsLeast s.kinds others more → (trees : Trees) × AreElements IsLeast s.kinds (member ∷ others) trees

  pub elements_filled : (members : List Member) → AllByRecursion Fills members → (trees : Trees) × AreElements IsLeast s.kinds members trees
  elements_filled [] fills = (none, refl)
  elements_filled (member ∷ members) fills = let rest = elements_filled members fills.1 in fills.0 members rest.0 rest.1

  -- ---- particles

  same_members : (particle : PlainParticle) (member : Member) → IsMemberOf particle member → Fills member → (n : ℕ) → AllByRecursion (IsMemberOf particle) (replicate n member) × AllByRecursion Fills (replicate n member)
  same_members particle member one fills zero = (tt, tt)
  same_members particle member one fills (suc n) = let rest = same_members particle member one fills n in ((one, rest.0), (fills, rest.1))

  -- members that still have to be there
  abbrev pub Completes : ℕ → PlainParticle → Type 0
  Completes copies particle = (own : List Member) × GoOn copies particle own × AllByRecursion Fills own

  taken_is : (standing : MemberStanding) → is_taken standing ≡ true → standing ≡ Taken
  taken_is Taken h = refl
  taken_is Abstract h = let wrong : false ≡ true = h in absurd cc
  taken_is OutOfProfile h = let wrong : false ≡ true = h in absurd cc

  abbrev TakenAmong : List Member → Type 0
  TakenAmong members = (member : Member) × (k : ℕ) × (slice_get members k ≡ Some member) × (member.standing ≡ Taken)

  taken_by : (b : Bool) (member : Member) (members : List Member) → is_taken member.standing ≡ b → (b || list_any (λ m. is_taken m.standing) members) ≡ true → (list_any (λ m. is_taken m.standing) members ≡ true → TakenAmong members) → TakenAmong (member ∷ members)
  taken_by true member members is h more = (member, 0, refl, taken_is member.standing is)
  taken_by false member members is h more = let there = more h in (there.0, suc there.1, there.2, there.3)

  taken_among : (members : List Member) → list_any (λ m. is_taken m.standing) members ≡ true → TakenAmong members
  taken_among [] h = let wrong : false ≡ true = h in absurd cc
  taken_among (member ∷ members) h = taken_by (is_taken member.standing) member members refl h (taken_among members)

  nothing_more : (copies : ℕ) (particle : PlainParticle) → particle.least ≤ copies → Completes copies particle
  nothing_more copies particle met =
      ([], record { own = tt; least = omega (arith, met); most = λ some. absurd (omega (arith, some)); profile = λ some. absurd (omega (arith, some)) }, tt)

  least_at_most : (least : ℕ) (most : Option ℕ) (n : ℕ) → MostFits least most → n ≡ least → IsAtMost most n
  least_at_most least None n fits is = tt
  least_at_most least (Some most) n fits is = omega (arith, fits.0, is)

  some_more : (copies : ℕ) (particle : PlainParticle) (member : Member) → copies < particle.least → MostFits particle.least particle.most → particle.least ≤ particle.profile → IsMemberOf particle member → Fills member → Completes copies particle
  some_more copies particle member fewer fits accepted one fills =
      let n = particle.least - copies in
      let all = same_members particle member one fills n in
      let long = length-replicate n member in (
        replicate n member,
        record {
          own = all.0;
          least = omega (arith, long, fewer);
          most = λ some. least_at_most particle.least particle.most (copies + length (replicate n member)) fits (omega (arith, long, fewer));
          profile = λ some. omega (arith, long, fewer, accepted);
        },
        all.1,
      )

  there_by : (b : Bool) (copies : ℕ) (particle : PlainParticle) → (particle.least == 0) ≡ b → (b || (nat_le particle.least particle.profile && list_any (λ m. is_taken m.standing) particle.members)) ≡ true → MostFits particle.least particle.most →
      ((member : Member) (k : ℕ) → slice_get particle.members k ≡ Some member → Fills member) → Completes copies particle
  there_by true copies particle is h fits fills =
      elim (eqb_tells particle.least 0) [
        | inl same ↦ nothing_more copies particle (omega (arith, same.1))
        | inr other ↦ let wrong : false ≡ true = sym other.0 ∙ is in absurd cc
      ]
  there_by false copies particle is h fits fills =
      elim (cases_lt copies particle.least) [
        | inl fewer ↦
            let there = taken_among particle.members (and-r (nat_le particle.least particle.profile) (list_any (λ m. is_taken m.standing) particle.members) h) in
            some_more copies particle there.0 fewer fits (leb-true particle.least particle.profile (and-l (nat_le particle.least particle.profile) (list_any (λ m. is_taken m.standing) particle.members) h))
            (record { index = there.1; found = there.2; taken = there.3 }) (fills there.0 there.1 there.2)
        | inr met ↦ nothing_more copies particle met
      ]

  all_both : (xs ys : List Member) → AllByRecursion Fills xs → AllByRecursion Fills ys → AllByRecursion Fills (xs ++ ys)
  all_both [] ys p q = q
  all_both (x ∷ xs) ys p q = (p.0, all_both xs ys p.1 q)

  -- each member of it has an element
  abbrev pub AllFill : PlainParticle → Type 0
  AllFill particle = (member : Member) (k : ℕ) → slice_get particle.members k ≡ Some member → Fills member

  particle_filled : (copies : ℕ) (particle : PlainParticle) → is_particle (length s.names) (length s.kinds) particle ≡ true → MostFits particle.least particle.most → AllFill particle → Completes copies particle
  particle_filled copies particle is fits fills = there_by (particle.least == 0) copies particle refl (and-r (is_most particle.least particle.most && nat_lt particle.profile 65536) (can_be_there particle) (and-l _ _ is)) fits fills

  pub particles_filled : (copies : ℕ) (particles : List PlainParticle) → list_all (is_particle (length s.names) (length s.kinds)) particles ≡ true → AreSound particles → AllByRecursion AllFill particles → (members : List Member) × Remain copies particles members × AllByRecursion Fills members
  particles_filled copies [] is sound fills = ([], refl, tt)
  particles_filled copies (particle ∷ particles) is sound fills =
      let own = particle_filled copies particle (and-l (is_particle (length s.names) (length s.kinds) particle) (list_all (is_particle (length s.names) (length s.kinds)) particles) is) sound.0 fills.0 in
      let rest = particles_filled 0 particles (and-r (is_particle (length s.names) (length s.kinds) particle) (list_all (is_particle (length s.names) (length s.kinds)) particles) is) sound.1 fills.1 in
      (own.0 ++ rest.0, (own.0, rest.0, own.1, divided_all particles rest.0 rest.1, refl), all_both own.0 rest.0 own.2 rest.2)

  -- ---- kinds, one inside the other

  complex_filled : (member : Member) (declared : List AttributeOf) (particles : List PlainParticle) → slice_get s.kinds member.kind ≡ Some (containing declared particles) → AllByRecursion AllFill particles → Fills member
  complex_filled member declared particles is fills others more are =
      let conditions = complex_in s member.kind declared particles is in
      let attributes = attributes_filled declared conditions.attributes_fit in
      let inside = particles_filled 0 particles conditions.particles_fit (sound_in s member.kind declared particles is) fills in
      let children = elements_filled inside.0 inside.2 in (
        complex member.name attributes.1 children.0 more,
        (
          member,
          others,
          refl,
          refl,
          declared,
          particles,
          inside.0,
          is,
          record { chosen = attributes.0; are_chosen = attributes.2; have_values = attributes.3 },
          divided_all particles inside.0 inside.1,
          children.1,
          are,
        ),
      )

  simple_filled : (member : Member) (datatype : Datatype) → slice_get s.kinds member.kind ≡ Some (valued datatype) → Fills member
  simple_filled member datatype is others more are =
      let own : simple_at s.kinds member.kind ≡ Some datatype = ap datatype_of is in
      let least = least_value datatype (datatype_fits s member.kind datatype own) (range_at s member.kind datatype own) in
      (simple member.name least.0 more, (member, others, refl, refl, (datatype, own, least.1), are))

  members_within : (depth : ℕ) (members : List Member) (k : ℕ) (member : Member) → list_all (λ m. nat_lt m.name (length s.names) && nat_lt m.kind (length s.kinds)) members ≡ true → list_all (λ m. is_within s.kinds depth m.kind) members ≡ true → slice_get members k ≡ Some member →
      (member.kind < length s.kinds) × (is_within s.kinds depth member.kind ≡ true)
  members_within depth members k member own within at = (
    ltb-true member.kind (length s.kinds) (and-r (nat_lt member.name (length s.names)) (nat_lt member.kind (length s.kinds)) (all_get (λ m. nat_lt m.name (length s.names) && nat_lt m.kind (length s.kinds)) members k member own at)),
    all_get (λ m. is_within s.kinds depth m.kind) members k member within at,
  )

  mutual_none : (kind : ℕ) → kind < length s.kinds → None ≡ slice_get s.kinds kind → ⊥
  mutual_none kind less none_there = let there = slice_get_cases s.kinds kind in
      elim there.1 [
        | inl is ↦ none_of is.0 (none_there ∙ is.2)
        | inr past ↦ absurd (omega (arith, less, past.0))
      ]

  -- those of the next depth fill
  abbrev FillWithin : ℕ → Type 0
  FillWithin depth = (member : Member) → member.kind < length s.kinds → is_within s.kinds depth member.kind ≡ true → Fills member

  all_fill : (depth : ℕ) (particles : List PlainParticle) → list_all (is_particle (length s.names) (length s.kinds)) particles ≡ true → list_all (λ p. list_all (λ m. is_within s.kinds depth m.kind) p.members) particles ≡ true → FillWithin depth → AllByRecursion AllFill particles
  all_fill depth [] is within fill = tt
  all_fill depth (particle ∷ particles) is within fill =
      let one = and-l (is_particle (length s.names) (length s.kinds) particle) (list_all (is_particle (length s.names) (length s.kinds)) particles) is in
      let inside = and-l (list_all (λ m. is_within s.kinds depth m.kind) particle.members) (list_all (λ p. list_all (λ m. is_within s.kinds depth m.kind) p.members) particles) within in (
        (λ member k at.
            let fits = members_within depth particle.members k member (and-r (is_most particle.least particle.most && nat_lt particle.profile 65536 && can_be_there particle) _ one) inside at in
            fill member fits.0 fits.1),
        all_fill depth particles (and-r (is_particle (length s.names) (length s.kinds) particle) (list_all (is_particle (length s.names) (length s.kinds)) particles) is)
            (and-r (list_all (λ m. is_within s.kinds depth m.kind) particle.members) (list_all (λ p. list_all (λ m. is_within s.kinds depth m.kind) p.members) particles) within) fill,
      )

  filled_by : (depth : ℕ) (o : Option PlainKind) (member : Member) → slice_get s.kinds member.kind ≡ o → member.kind < length s.kinds → is_within s.kinds (suc depth) member.kind ≡ true → FillWithin depth → Fills member
  filled_by depth None member is less within fill = absurd (mutual_none member.kind less (sym is))
  filled_by depth (Some (valued datatype)) member is less within fill = simple_filled member datatype is
  filled_by depth (Some (containing declared particles)) member is less within fill =
      let there : list_all (λ p. list_all (λ m. is_within s.kinds depth m.kind) p.members) particles ≡ true =
      ap (λ (o : Option PlainKind). list_all (λ p. list_all (λ m. is_within s.kinds depth m.kind) p.members) (particles_of o)) (sym is) ∙ within in
      complex_filled member declared particles is (all_fill depth particles (complex_in s member.kind declared particles is).particles_fit there fill)

  pub member_filled : (depth : ℕ) → FillWithin depth
  member_filled zero member less within = let wrong : false ≡ true = within in absurd cc
  member_filled (suc depth) member less within = filled_by depth (slice_get s.kinds member.kind) member refl less within (member_filled depth)

  -- each kind of the schema
  pub each_filled : FillWithin (length s.kinds)
  each_filled = member_filled (length s.kinds)

  pub is_deep : (kind : ℕ) → kind < length s.kinds → is_within s.kinds (length s.kinds) kind ≡ true
  is_deep kind less =
      let kinds = kinds_of s.kinds s.names s.values s.root_bits s.roots s.fits in
      each_at (length s.kinds) (λ k. is_within s.kinds (length s.kinds) k) kind (and-r _ _ kinds) (omega (arith, less))

  any_fill : (particles : List PlainParticle) → list_all (is_particle (length s.names) (length s.kinds)) particles ≡ true → AllByRecursion AllFill particles
  any_fill [] is = tt
  any_fill (particle ∷ particles) is =
      let one = and-l (is_particle (length s.names) (length s.kinds) particle) (list_all (is_particle (length s.names) (length s.kinds)) particles) is in (
        (λ member k at.
            let own = all_get (λ m. nat_lt m.name (length s.names) && nat_lt m.kind (length s.kinds)) particle.members k member (and-r (is_most particle.least particle.most && nat_lt particle.profile 65536 && can_be_there particle) _ one) at in
            let less = ltb-true member.kind (length s.kinds) (and-r (nat_lt member.name (length s.names)) (nat_lt member.kind (length s.kinds)) own) in
            each_filled member less (is_deep member.kind less)),
        any_fill particles (and-r (is_particle (length s.names) (length s.kinds) particle) (list_all (is_particle (length s.names) (length s.kinds)) particles) is),
      )

  -- the particles of a kind, all or those behind some
  pub particles_fill : (k : ℕ) (declared : List AttributeOf) (particles : List PlainParticle) → slice_get s.kinds k ≡ Some (containing declared particles) → (n copies : ℕ) → (members : List Member) × Remain copies (drop n particles) members × AllByRecursion Fills members
  particles_fill k declared particles is n copies =
      let fit = all_behind (is_particle (length s.names) (length s.kinds)) n particles (complex_in s k declared particles is).particles_fit in
      particles_filled copies (drop n particles) fit (sound_behind n particles (sound_in s k declared particles is)) (any_fill (drop n particles) fit)

  pub attributes_fill : (k : ℕ) (declared : List AttributeOf) (particles : List PlainParticle) → slice_get s.kinds k ≡ Some (containing declared particles) → (n : ℕ) → Attributes s.kinds (drop n declared)
  attributes_fill k declared particles is n = attributes_filled (drop n declared) (all_behind (is_attribute (length s.names) s.kinds) n declared (complex_in s k declared particles is).attributes_fit)
