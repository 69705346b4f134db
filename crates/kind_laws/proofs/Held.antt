-- Elements that are spelled hold what their kinds say.
use Rattle.std.proofs.Common.{◌≡◌, ℕ, zero, suc, ◌+◌, ◌≤◌, ◌||◌, nat_lt, nat_le, ◌&&◌, Bool, true, false, if◌then◌else◌, List, [], ◌∷◌, ◌++◌, length, drop, map, Option, Some, None, refl, sym, ap, subst, ◌∙◌, arith, slice_get, inl, inr}
use Rattle.std.specs.Prelude.{◌==◌}
use Rattle.std.specs.List.{list_all}
use Rattle.std.proofs.lemmas.Bool.{leb-true}
use Rattle.exi_schema.specs.declared.tables.AttributeOf.{AttributeOf}
use Rattle.exi_schema.specs.declared.tables.Datatype.{Datatype}
use Rattle.exi_schema.specs.declared.tables.Member.{Member}
use Rattle.exi_schema.specs.declared.places.Place.{Place}
use Rattle.exi_schema.specs.declared.places.Step.{Step}
use Rattle.exi_schema.specs.declared.places.Step.TheVariants.{Attribute, Element, End, Characters}
use Rattle.exi_schema.specs.Plain.{PlainKind, valued, containing, PlainParticle}
use Rattle.exi_schema.specs.Schemas.{PlainSchema, is_most, is_particle}
use Rattle.exi_schema.specs.Offers.{through_required, attribute_steps, element_step, element_steps, simple_step, offers_of}
use Rattle.exi_schema.specs.Steps.{simple_at}
use Rattle.exi_schema.proofs.Conditions.{and-l, complex_in}
use Rattle.exi_documents.specs.Trees.{Value, Trees, none, simple, complex}
use Rattle.exi_documents.specs.Values.{Entries}
use Rattle.exi_documents.specs.Documents.{Speller, SpellsStep, SpellsSimple, SpellsAttributes, SpellsTrees, element, first}
use Rattle.kind_laws.specs.Kinds.{Values, AreDivided, AreChosen, HasValue, HaveValues, AreElements}
use Rattle.kind_laws.proofs.Lists.{none_of, one_of, get_either, get_unmap, drop_more}
use Rattle.kind_laws.proofs.Choosing.{any_required}
use Rattle.kind_laws.proofs.Division.{Remain}
use Rattle.kind_laws.proofs.Leading.{MostFits, AreSound, MayBePassed, none_passed, sound_behind, divided_all, all_offered, end_remains, Stems, element_stems, StemsFrom, attribute_stems}
use Rattle.kind_laws.proofs.Building.{IsIn, IsPast, Stands}

-- ---- the conditions on particles

and_left : (a b : Bool) → (a && b) ≡ true → a ≡ true
and_left true b h = refl
and_left false b h = h

and_right : (a b : Bool) → (a && b) ≡ true → b ≡ true
and_right true b h = h
and_right false b h = let wrong : false ≡ true = h in absurd cc

nat_le_true : (m n : ℕ) → nat_le m n ≡ true → m ≤ n
nat_le_true m n h = leb-true m n h

or_left : (a b : Bool) → (a || b) ≡ false → a ≡ false
or_left true b h = h
or_left false b h = refl

or_right : (a b : Bool) → (a || b) ≡ false → b ≡ false
or_right true b h = let wrong : true ≡ false = h in absurd cc
or_right false b h = h

most_sound : (least : ℕ) (most : Option ℕ) → is_most least most ≡ true → MostFits least most
most_sound least None h = tt
most_sound least (Some most) h =
    let both = and_left (nat_le 1 most && nat_le least most) (nat_lt most 65536) h in
    (nat_le_true least most (and_right (nat_le 1 most) (nat_le least most) both), nat_le_true 1 most (and_left (nat_le 1 most) (nat_le least most) both))

all_sound : (names kinds : ℕ) (particles : List PlainParticle) → list_all (is_particle names kinds) particles ≡ true → AreSound particles
all_sound names kinds [] h = tt
all_sound names kinds (particle ∷ particles) h =
    let one = and_left (is_particle names kinds particle) (list_all (is_particle names kinds) particles) h in (
      most_sound particle.least particle.most (and-l _ _ (and-l _ _ (and-l _ _ one))),
      all_sound names kinds particles (and_right (is_particle names kinds particle) (list_all (is_particle names kinds) particles) h),
    )

pub sound_in : (s : PlainSchema) (k : ℕ) (declared : List AttributeOf) (particles : List PlainParticle) → slice_get s.kinds k ≡ Some (containing declared particles) → AreSound particles
sound_in s k declared particles is = all_sound (length s.names) (length s.kinds) particles (complex_in s k declared particles is).particles_fit

-- ---- what is offered

none_chosen : (attributes : List AttributeOf) → any_required attributes ≡ false → AreChosen attributes []
none_chosen [] h = refl
none_chosen (attribute ∷ attributes) h = inl (or_left attribute.required (any_required attributes) h, none_chosen attributes (or_right attribute.required (any_required attributes) h))

-- steps of elements and the end, and those of attributes
abbrev pub IsAttribute : Step → Type 0
IsAttribute (Attribute name kind next) = Unit {0}
IsAttribute (Element name kind next standing past_limit) = ⊥
IsAttribute End = ⊥
IsAttribute (Characters next) = ⊥

attributes_only : (here : Place) (at : ℕ) (attributes : List AttributeOf) (code : ℕ) (step : Step) → slice_get (attribute_steps here at attributes) code ≡ Some step → IsAttribute step
attributes_only here at [] code step h = absurd (none_of step h)
attributes_only here at (attribute ∷ attributes) zero step h = subst IsAttribute (one_of (Some _) _ step refl h) tt
attributes_only here at (attribute ∷ attributes) (suc code) step h = attributes_only here (at + 1) attributes code step h

no_attribute : (here : Place) (n at copies : ℕ) (particles : List PlainParticle) (code : ℕ) (step : Step) → slice_get (element_steps here n at copies particles) code ≡ Some step → IsAttribute step → ⊥
no_attribute here n at copies [] zero step h is = let wrong = subst IsAttribute (sym (one_of (Some End) End step refl h)) is in wrong
no_attribute here n at copies [] (suc code) step h is = none_of step h
no_attribute here n at copies (particle ∷ particles) code step h is =
    elim (get_either (map (element_step here n at copies particle) particle.members) (if nat_lt copies particle.least then [] else element_steps here n (at + 1) 0 particles) code step h) [
      | inl there ↦ let found = get_unmap (element_step here n at copies particle) particle.members there.0 step there.1 in let wrong = subst IsAttribute (sym found.3) is in wrong
      | inr there ↦
          let open_still = all_offered step (element_steps here n (at + 1) 0 particles) (nat_lt copies particle.least) there.0 there.1 in
          no_attribute here n (at + 1) 0 particles there.0 step open_still.1 is
    ]

module _ (kinds : List PlainKind) (here : Place) (declared : List AttributeOf) (particles : List PlainParticle) (at : IsIn kinds here declared particles) where
  abbrev Attributes : List Step
  Attributes = attribute_steps here here.attributes (through_required (drop here.attributes declared))

  abbrev Elements : List Step
  Elements = element_steps here (length declared) here.particle here.copies (drop here.particle particles)

  offered_there : (step : Step) (bits : List Bool) → SpellsStep kinds here step bits → (code : ℕ) × (slice_get (Attributes ++ (if any_required (drop here.attributes declared) then [] else Elements)) code ≡ Some step)
  offered_there step bits h = (h.code, sym (ap (λ (o : Option PlainKind). slice_get (offers_of here o) h.code) at.is_kind) ∙ h.offered)

  -- a step that is none of an attribute, among the elements and the end
  among_elements : (step : Step) (bits : List Bool) → (IsAttribute step → ⊥) → SpellsStep kinds here step bits → IsPast here declared × ((code : ℕ) × (slice_get Elements code ≡ Some step))
  among_elements step bits not_one h =
      let there = offered_there step bits h in
      elim (get_either Attributes (if any_required (drop here.attributes declared) then [] else Elements) there.0 step there.1) [
        | inl found ↦ absurd (not_one (attributes_only here here.attributes (through_required (drop here.attributes declared)) found.0 step found.1))
        | inr found ↦ let open_still = all_offered step Elements (any_required (drop here.attributes declared)) found.0 found.1 in (open_still.0, (found.0, open_still.1))
      ]

  pub attribute_at : (name kind : ℕ) (next : Place) (bits : List Bool) → SpellsStep kinds here (Attribute name kind next) bits → StemsFrom here here.attributes (drop here.attributes declared) name kind next
  attribute_at name kind next bits h =
      let there = offered_there (Attribute name kind next) bits h in
      elim (get_either Attributes (if any_required (drop here.attributes declared) then [] else Elements) there.0 (Attribute name kind next) there.1) [
        | inl found ↦ attribute_stems here here.attributes (drop here.attributes declared) found.0 name kind next found.1
        | inr found ↦
            let open_still = all_offered (Attribute name kind next) Elements (any_required (drop here.attributes declared)) found.0 found.1 in
            absurd (no_attribute here (length declared) here.particle here.copies (drop here.particle particles) found.0 (Attribute name kind next) open_still.1 tt)
      ]

  pub element_at : (name kind : ℕ) (next : Place) (bits : List Bool) → AreSound particles → MayBePassed here.copies (drop here.particle particles) → SpellsStep kinds here (element name kind next) bits →
      IsPast here declared × Stems here (length declared) here.particle here.copies (drop here.particle particles) name kind next
  element_at name kind next bits sound may h =
      let found = among_elements (element name kind next) bits (λ is. is) h in
      (found.0, element_stems here (length declared) here.particle here.copies (drop here.particle particles) found.1.0 name kind next found.1.1 (sound_behind here.particle particles sound) may)

  pub end_at : (bits : List Bool) → SpellsStep kinds here End bits → IsPast here declared × Remain here.copies (drop here.particle particles) []
  end_at bits h =
      let found = among_elements End bits (λ is. is) h in
      (found.0, end_remains here (length declared) here.particle here.copies (drop here.particle particles) found.1.0 found.1.1)

-- ---- an element of a complex kind

abbrev pub IsComplex : List PlainKind → ℕ → Type 0
IsComplex kinds kind = (declared : List AttributeOf) × (particles : List PlainParticle) × (slice_get kinds kind ≡ Some (containing declared particles))

abbrev IsNoValue : Step → Type 0
IsNoValue (Attribute name kind next) = Unit {0}
IsNoValue (Element name kind next standing past_limit) = Unit {0}
IsNoValue End = Unit {0}
IsNoValue (Characters next) = ⊥

first_of_simple : (here : Place) → here.particle ≡ 0 → (step : Step) → simple_step here ≡ step → IsNoValue step → ⊥
first_of_simple here start step is proper =
    let characters : Step = Characters (record { kind = here.kind; particle = 1; copies = 0; attributes = 0 }) in
    let same : simple_step here ≡ characters = ap (λ (n : ℕ). if n == 0 then characters else End) start in
    let wrong = subst IsNoValue (sym (sym same ∙ is)) proper in wrong

complex_by : (o : Option PlainKind) (kinds : List PlainKind) (here : Place) (step : Step) (code : ℕ) → slice_get kinds here.kind ≡ o → here.particle ≡ 0 → slice_get (offers_of here o) code ≡ Some step → IsNoValue step → IsComplex kinds here.kind
complex_by None kinds here step code is start h proper = absurd (none_of step h)
complex_by (Some (valued d)) kinds here step zero is start h proper = absurd (first_of_simple here start step (one_of (Some (simple_step here)) (simple_step here) step refl h) proper)
complex_by (Some (valued d)) kinds here step (suc code) is start h proper = absurd (none_of step h)
complex_by (Some (containing declared particles)) kinds here step code is start h proper = (declared, particles, is)

complex_at : (kinds : List PlainKind) (here : Place) (step : Step) (bits : List Bool) → here.particle ≡ 0 → IsNoValue step → SpellsStep kinds here step bits → IsComplex kinds here.kind
complex_at kinds here step bits start proper h = complex_by (slice_get kinds here.kind) kinds here step h.code refl start h.offered proper

trees_complex : (V : Speller) (kinds : List PlainKind) (here : Place) (entries after : Entries) (trees : Trees) (bits : List Bool) → here.particle ≡ 0 → SpellsTrees V kinds here entries trees bits after → IsComplex kinds here.kind
trees_complex V kinds here entries after none bits start h = complex_at kinds here End bits start tt h.0
trees_complex V kinds here entries after (simple name value more) bits start h = complex_at kinds here (element name h.kind h.next) h.code start tt h.starts
trees_complex V kinds here entries after (complex name attributes children more) bits start h = complex_at kinds here (element name h.kind h.next) h.code start tt h.starts

pub is_complex : (V : Speller) (kinds : List PlainKind) (here there : Place) (entries within after : Entries) (values : List (ℕ × Value)) (trees : Trees) (front inside : List Bool) → here.particle ≡ 0 →
    SpellsAttributes V kinds here entries values front there within → SpellsTrees V kinds there within trees inside after → IsComplex kinds here.kind
is_complex V kinds here there entries within after [] trees front inside start a t =
    trees_complex V kinds here within after trees inside start (subst (λ (p : Place). SpellsTrees V kinds p within trees inside after) a.1 t)
is_complex V kinds here there entries within after (value ∷ values) trees front inside start a t = complex_at kinds here (Attribute value.0 a.kind a.next) a.code start tt a.starts

-- ---- with values of which a spelling tells what they are

module _ (V : Speller) (W : Values) (I : Entries → Type 0) (s : PlainSchema)
    (unspell : (datatype : Datatype) (entries : Entries) (name : ℕ) (value : Value) (bits : List Bool) (after : Entries) → V datatype entries name value bits after → I entries → W datatype value × I after) where
  pub record HeldAttributes (here there : Place) (declared : List AttributeOf) (values : List (ℕ × Value)) (after : Entries) : Type 0 where
    pub stands : Stands here there
    pub kept : I after
    pub hold : IsPast there declared → (chosen : List AttributeOf) × AreChosen (drop here.attributes declared) chosen × HaveValues W s.kinds chosen values

  pub attributes_held : (here there : Place) (declared : List AttributeOf) (particles : List PlainParticle) (entries after : Entries) (values : List (ℕ × Value)) (bits : List Bool) → IsIn s.kinds here declared particles →
      SpellsAttributes V s.kinds here entries values bits there after → I entries → HeldAttributes here there declared values after
  attributes_held here there declared particles entries after [] bits at h held =
      record {
        stands = record { same_kind = ap (λ (p : Place). p.kind) h.1; same_particle = ap (λ (p : Place). p.particle) h.1; same_copies = ap (λ (p : Place). p.copies) h.1 };
        kept = subst I (sym h.2) held;
        hold = λ past. ([], none_chosen (drop here.attributes declared) (sym (ap (λ (p : Place). any_required (drop p.attributes declared)) h.1) ∙ past), refl);
      }
  attributes_held here there declared particles entries after (value ∷ values) bits at h held =
      let stems = attribute_at s.kinds here declared particles at value.0 h.kind h.next h.code h.starts in
      let own = unspell h.datatype entries value.0 value.1 h.inside h.middle h.spelled held in
      let next_kind = ap (λ (p : Place). p.kind) stems.is_next in
      let rest = attributes_held h.next there declared particles h.middle after values h.rest (record { is_kind = ap (λ (k : ℕ). slice_get s.kinds k) next_kind ∙ at.is_kind }) h.behind own.1 in
      let left : drop h.next.attributes declared ≡ drop (suc stems.passed) (drop here.attributes declared) =
      ap (λ (p : Place). drop p.attributes declared) stems.is_next
      ∙ ap (λ (n : ℕ). drop n declared) (let e : here.attributes + stems.passed + 1 ≡ here.attributes + suc stems.passed = omega arith in e)
      ∙ sym (drop_more here.attributes (suc stems.passed) declared) in
      record {
        stands =
            record {
              same_kind = rest.stands.same_kind ∙ next_kind;
              same_particle = rest.stands.same_particle ∙ ap (λ (p : Place). p.particle) stems.is_next;
              same_copies = rest.stands.same_copies ∙ ap (λ (p : Place). p.copies) stems.is_next;
            };
        kept = rest.kept;
        hold = λ past.
            let more = rest.hold past in (
              stems.chosen ∷ more.0,
              stems.are_chosen more.0 (subst (λ (l : List AttributeOf). AreChosen l more.0) left more.1),
              (stems.named, (h.datatype, sym (ap (λ (k : ℕ). simple_at s.kinds k) stems.of_kind) ∙ h.is_simple, own.0), more.2),
            );
      }

  pub record HeldTrees (here : Place) (declared : List AttributeOf) (particles : List PlainParticle) (trees : Trees) (after : Entries) : Type 0 where
    pub members : List Member
    pub past : IsPast here declared
    pub remain : Remain here.copies (drop here.particle particles) members
    pub elements : AreElements W s.kinds members trees
    pub kept : I after

  pub simple_held : (kind : ℕ) (entries after : Entries) (name : ℕ) (value : Value) (bits : List Bool) → SpellsSimple V s.kinds kind entries name value bits after → I entries → HasValue W s.kinds kind value × I after
  simple_held kind entries after name value bits h held =
      let own = unspell h.datatype entries name value h.inside after h.spelled held in ((h.datatype, h.is_simple, own.0), own.1)

  -- behind a step the members of the place behind it follow
  remain_there : (here next : Place) (declared : List AttributeOf) (particles : List PlainParticle) (name kind : ℕ) (stems : Stems here (length declared) here.particle here.copies (drop here.particle particles) name kind next) →
      drop next.particle particles ≡ drop stems.passed (drop here.particle particles)
  remain_there here next declared particles name kind stems = ap (λ (n : ℕ). drop n particles) stems.reached ∙ sym (drop_more here.particle stems.passed particles)

  pub trees_held : (here : Place) (declared : List AttributeOf) (particles : List PlainParticle) (entries after : Entries) (trees : Trees) (bits : List Bool) → IsIn s.kinds here declared particles → AreSound particles →
      MayBePassed here.copies (drop here.particle particles) → SpellsTrees V s.kinds here entries trees bits after → I entries → HeldTrees here declared particles trees after
  trees_held here declared particles entries after none bits at sound may h held =
      let end = end_at s.kinds here declared particles at bits h.0 in
      record { members = []; past = end.0; remain = end.1; elements = refl; kept = subst I (sym h.1) held }
  trees_held here declared particles entries after (simple name value more) bits at sound may h held =
      let step = element_at s.kinds here declared particles at name h.kind h.next h.code sound may h.starts in
      let stems = step.1 in
      let inside = simple_held h.kind entries h.middle name value h.inside h.spelled held in
      let there = remain_there here h.next declared particles name h.kind stems in
      let rest =
      trees_held h.next declared particles h.middle after more h.rest (record { is_kind = ap (λ (k : ℕ). slice_get s.kinds k) stems.same_kind ∙ at.is_kind }) sound
      (subst (λ (l : List PlainParticle). MayBePassed h.next.copies l) (sym there) stems.may_pass) h.behind inside.1 in
      record {
        members = stems.member ∷ rest.members;
        past = step.0;
        remain = stems.remain rest.members (subst (λ (l : List PlainParticle). Remain h.next.copies l rest.members) there rest.remain);
        elements = (stems.member, rest.members, refl, stems.named, subst (λ (k : ℕ). HasValue W s.kinds k value) stems.of_kind inside.0, rest.elements);
        kept = rest.kept;
      }
  trees_held here declared particles entries after (complex name attributes children more) bits at sound may h held =
      let step = element_at s.kinds here declared particles at name h.kind h.next h.code sound may h.starts in
      let stems = step.1 in
      let kind = is_complex V s.kinds (first h.kind) h.spelled.there entries h.spelled.within h.middle attributes children h.spelled.front h.spelled.inside refl h.spelled.begun h.spelled.ended in
      let front = attributes_held (first h.kind) h.spelled.there kind.0 kind.1 entries h.spelled.within attributes h.spelled.front (record { is_kind = kind.2 }) h.spelled.begun held in
      let own_sound = sound_in s h.kind kind.0 kind.1 kind.2 in
      let stands = front.stands in
      let may_begin : MayBePassed h.spelled.there.copies (drop h.spelled.there.particle kind.1) =
      subst (λ (c : ℕ). MayBePassed c (drop h.spelled.there.particle kind.1)) (sym stands.same_copies) (subst (λ (n : ℕ). MayBePassed 0 (drop n kind.1)) (sym stands.same_particle) (none_passed kind.1 own_sound)) in
      let inside = trees_held h.spelled.there kind.0 kind.1 h.spelled.within h.middle children h.spelled.inside (record { is_kind = ap (λ (k : ℕ). slice_get s.kinds k) stands.same_kind ∙ kind.2 }) own_sound may_begin h.spelled.ended front.kept in
      let all = front.hold inside.past in
      let divided : AreDivided kind.1 inside.members =
      divided_all kind.1 inside.members
      (subst (λ (n : ℕ). Remain 0 (drop n kind.1) inside.members) stands.same_particle (subst (λ (c : ℕ). Remain c (drop h.spelled.there.particle kind.1) inside.members) stands.same_copies inside.remain)) in
      let there = remain_there here h.next declared particles name h.kind stems in
      let rest =
      trees_held h.next declared particles h.middle after more h.rest (record { is_kind = ap (λ (k : ℕ). slice_get s.kinds k) stems.same_kind ∙ at.is_kind }) sound
      (subst (λ (l : List PlainParticle). MayBePassed h.next.copies l) (sym there) stems.may_pass) h.behind inside.kept in
      record {
        members = stems.member ∷ rest.members;
        past = step.0;
        remain = stems.remain rest.members (subst (λ (l : List PlainParticle). Remain h.next.copies l rest.members) there rest.remain);
        elements = (
          stems.member,
          rest.members,
          refl,
          stems.named,
          kind.0,
          kind.1,
          inside.members,
          sym (ap (λ (k : ℕ). slice_get s.kinds k) stems.of_kind) ∙ kind.2,
          record { chosen = all.0; are_chosen = all.1; have_values = all.2 },
          divided,
          inside.elements,
          rest.elements,
        );
        kept = rest.kept;
      }
