-- One element that has to be there or may be there, and one of several.
use Rattle.std.proofs.Common.{◌≡◌, ℕ, suc, ◌+◌, add-one, List, [], ◌∷◌, length, nat_lt, Option, Some, None, if◌then◌else◌, Bool, true, false, ◌⊎◌, inl, inr, refl, sym, ap, subst, ◌∙◌, Result, Ok, Err, IfOk}
use Rattle.std.specs.Prelude.{slice_get, ◌==◌, ◌||◌}
use Rattle.std.specs.List.{list_any}
use Rattle.exi_schema.specs.Offers.{behind_copy, leaves_room}
use Rattle.exi_schema.specs.declared.places.Place.{Place}
use Rattle.exi_schema.specs.declared.tables.AttributeOf.{AttributeOf}
use Rattle.exi_schema.specs.declared.tables.Datatype.{Datatype}
use Rattle.exi_events.specs.Trees.{Event, Start, EndElement}
use Rattle.exi_schema.specs.Plain.{PlainKind, PlainParticle}
use Rattle.message_parts.specs.Particles.{alternatives, alternatives_of, alternatives_at, kind_among, first_name, first_kind, name_at, kind_at, is_sole, is_required, is_single, is_once_at, is_optional_at, is_left_out, is_none, is_child_among, names_among, takes_of}
use Rattle.message_parts.specs.Reading.{Frame, Seen, Enters, Leaves, IsBetween, Reads, IsChosen, at_particle}
use Rattle.message_parts.proofs.Distinct.{and_first, and_second, not_true, same_number, number_is}
use Rattle.message_parts.proofs.Particles.{frame_before, kind_of_child, stands, between}

pub taken : (takes : Datatype → Bool) (o : Option Datatype) → takes_of takes o ≡ true → (d : Datatype) × (o ≡ Some d) × (takes d ≡ true)
taken takes None is = absurd cc
taken takes (Some d) is = (d, refl, is)

-- ---- what the tests say

-- a particle that is there once at most
pub record IsOne (o : Option PlainParticle) : Type 0 where
  pub particle : PlainParticle
  pub there : o ≡ Some particle
  pub last : leaves_room particle.most 1 ≡ false

pub one_of_single : (o : Option PlainParticle) → is_single o ≡ true → IsOne o
one_of_single None is = absurd cc
one_of_single (Some p) is = record { particle = p; there = refl; last = not_true (leaves_room p.most 1) is }

pub one_of_required : (o : Option PlainParticle) → is_required o ≡ true → (one : IsOne o) × (nat_lt 0 one.particle.least ≡ true)
one_of_required None is = absurd cc
one_of_required (Some p) is = (record { particle = p; there = refl; last = not_true (leaves_room p.most 1) (and_second (nat_lt 0 p.least) _ is) }, and_first (nat_lt 0 p.least) _ is)

by_name : (a m k : ℕ) (b : ℕ) (t : Bool) → (a == m) ≡ t → (if t then Some b else None) ≡ Some k → (m ≡ a) × (k ≡ b)
by_name a m k b true test is = (sym (number_is a m test), (let same : Some b ≡ Some k = is in let s : b ≡ k = cc in sym s))
by_name a m k b false test is = absurd cc

-- the one alternative is found by its name alone
pub sole_found : (these : List (ℕ × ℕ)) (m k : ℕ) → is_sole these ≡ true → kind_among these m ≡ Some k → (m ≡ first_name these) × (k ≡ first_kind these)
sole_found [] m k is among = absurd cc
sole_found (a ∷ []) m k is among = by_name a.0 m k a.1 (a.0 == m) refl among
sole_found (a ∷ b ∷ more) m k is among = absurd cc

pub sole_there : (these : List (ℕ × ℕ)) → is_sole these ≡ true → kind_among these (first_name these) ≡ None → ⊥
sole_there [] is none = cc
sole_there (a ∷ []) is none =
    let found : kind_among (a ∷ []) a.0 ≡ Some a.1 = ap (λ (b : Bool). if b then Some a.1 else None) (same_number a.0) in
    let both : Some a.1 ≡ None = sym found ∙ none in cc
sole_there (a ∷ b ∷ more) is none = cc

pub nothing_among : (these : List (ℕ × ℕ)) (m k : ℕ) → is_none these ≡ true → kind_among these m ≡ Some k → ⊥
nothing_among [] m k is among = cc
nothing_among (a ∷ these) m k is among = cc

nothing_there : (o : Option PlainParticle) → is_left_out o ≡ true → (p : PlainParticle) × (o ≡ Some p) × (is_none (alternatives p.members) ≡ true)
nothing_there None is = absurd cc
nothing_there (Some p) is = (p, refl, is)

-- what is found by its name is among the names
found_by : (a : ℕ × ℕ) (these : List (ℕ × ℕ)) (m k : ℕ) (t : Bool) → (a.0 == m) ≡ t → (if t then Some a.1 else kind_among these m) ≡ Some k → (kind_among these m ≡ Some k → list_any (λ (n : ℕ). n == m) (names_among these) ≡ true) →
    (a.0 == m || list_any (λ (n : ℕ). n == m) (names_among these)) ≡ true
found_by a these m k true test is more = ap (λ (b : Bool). b || list_any (λ (n : ℕ). n == m) (names_among these)) test
found_by a these m k false test is more = ap (λ (b : Bool). b || list_any (λ (n : ℕ). n == m) (names_among these)) test ∙ more is

pub found_named : (these : List (ℕ × ℕ)) (m k : ℕ) → kind_among these m ≡ Some k → list_any (λ (n : ℕ). n == m) (names_among these) ≡ true
found_named [] m k is = absurd cc
found_named (a ∷ these) m k is = found_by a these m k (a.0 == m) refl is (found_named these m k)

none_named : (a : ℕ × ℕ) (these : List (ℕ × ℕ)) (m : ℕ) (t : Bool) → (a.0 == m) ≡ t → (a.0 == m || list_any (λ (n : ℕ). n == m) (names_among these)) ≡ true → (if t then Some a.1 else kind_among these m) ≡ None →
    (list_any (λ (n : ℕ). n == m) (names_among these) ≡ true → kind_among these m ≡ None → ⊥) → ⊥
none_named a these m true test named none more = let wrong : Some a.1 ≡ None = none in cc
none_named a these m false test named none more = more (sym (ap (λ (b : Bool). b || list_any (λ (n : ℕ). n == m) (names_among these)) test) ∙ named) none

not_among : (these : List (ℕ × ℕ)) (m : ℕ) → list_any (λ (n : ℕ). n == m) (names_among these) ≡ true → kind_among these m ≡ None → ⊥
not_among [] m named none = cc
not_among (a ∷ these) m named none = none_named a these m (a.0 == m) refl named none (not_among these m)

pub not_none : (these : List (ℕ × ℕ)) (child : Option ℕ) → is_child_among (names_among these) child ≡ true → kind_of_child these child ≡ None → ⊥
not_none these None named none = cc
not_none these (Some m) named none = not_among these m named none

-- ---- at a place of an element

module _ (ks : List PlainKind) (F : Frame) (attributes : List AttributeOf) (declared : List PlainParticle) (at : ℕ) (told : List Event) (d : Seen)
    (h : Reads ks F attributes declared at told d) where
  abbrev n : ℕ
  n = length attributes

  -- the frame of a child of which one is there at most
  abbrev pub child_frame : ℕ → Frame
  child_frame name = frame_before F name (at_particle h.kind n (at + 1) 0)

  -- behind the one copy the next particle comes
  last_copy : (most : Option ℕ) → leaves_room most 1 ≡ false → behind_copy h.kind n at 0 most ≡ at_particle h.kind n (at + 1) 0
  last_copy most last = ap (λ (b : Bool). if b then at_particle h.kind n at 1 else at_particle h.kind n (at + 1) 0) last

  -- it has started
  pub record IsIt (among : List (ℕ × ℕ)) : Type 0 where
    pub name : ℕ
    pub kind : ℕ
    pub here : d.child ≡ Some name
    pub found : kind_among among name ≡ Some kind
    pub enters : Enters ks (child_frame name) kind (Start name ∷ told) d

  -- it is passed
  pub record IsOver (least : ℕ) (among : List (ℕ × ℕ)) : Type 0 where
    pub reads : Reads ks F attributes declared (suc at) told d
    pub may : nat_lt 0 least ≡ false
    pub other : kind_of_child among d.child ≡ None

  stands_once : (one : IsOne (slice_get declared at)) → IsIt (alternatives one.particle.members) ⊎ IsOver one.particle.least (alternatives one.particle.members)
  stands_once one =
      elim (stands ks F attributes declared at 0 told d h one.particle one.there) [
        | inl it ↦
            inl (record {
              name = it.name;
              kind = it.kind;
              here = it.here;
              found = it.among;
              enters = subst (λ (x : Place). Enters ks (frame_before F it.name x) it.kind (Start it.name ∷ told) d) (last_copy one.particle.most one.last) it.enters;
            })
        | inr over ↦ inr (record { reads = over.reads; may = over.least; other = over.other })
      ]

  same_alternatives : (one : IsOne (slice_get declared at)) → alternatives one.particle.members ≡ alternatives_at declared at
  same_alternatives one = ap (λ (o : Option PlainParticle). alternatives_of o) (sym one.there)

  stands_single : (one : IsOne (slice_get declared at)) → IsIt (alternatives_at declared at) ⊎ IsOver one.particle.least (alternatives_at declared at)
  stands_single one = subst (λ (these : List (ℕ × ℕ)). IsIt these ⊎ IsOver one.particle.least these) (same_alternatives one) (stands_once one)

  -- one of those that may stand there
  pub it_is : is_required (slice_get declared at) ≡ true → IsIt (alternatives_at declared at)
  it_is is =
      let one = one_of_required (slice_get declared at) is in
      elim (stands_single one.0) [
        | inl it ↦ it
        | inr over ↦ (let wrong : true ≡ false = sym one.1 ∙ over.may in absurd cc)
      ]

  sole_enters : is_sole (alternatives_at declared at) ≡ true → IsIt (alternatives_at declared at) → Enters ks (child_frame (name_at declared at)) (kind_at declared at) (Start (name_at declared at) ∷ told) d
  sole_enters only it =
      let same = sole_found (alternatives_at declared at) it.name it.kind only it.found in
      subst (λ (m : ℕ). Enters ks (child_frame m) (kind_at declared at) (Start m ∷ told) d) same.0
      (subst (λ (k : ℕ). Enters ks (child_frame it.name) k (Start it.name ∷ told) d) same.1 it.enters)

  pub enters_once : is_once_at declared at ≡ true → Enters ks (child_frame (name_at declared at)) (kind_at declared at) (Start (name_at declared at) ∷ told) d
  enters_once is = sole_enters (and_second (is_required (slice_get declared at)) _ is) (it_is (and_first (is_required (slice_get declared at)) _ is))

  pub enters_optional : is_optional_at declared at ≡ true → d.child ≡ Some (name_at declared at) →
      Enters ks (child_frame (name_at declared at)) (kind_at declared at) (Start (name_at declared at) ∷ told) d
  enters_optional is here =
      let only = and_second (is_single (slice_get declared at)) _ is in
      elim (stands_single (one_of_single (slice_get declared at) (and_first (is_single (slice_get declared at)) _ is))) [
        | inl it ↦ sole_enters only it
        | inr over ↦ absurd (sole_there (alternatives_at declared at) only (ap (λ (o : Option ℕ). kind_of_child (alternatives_at declared at) o) (sym here) ∙ over.other))
      ]

  pub skips : is_optional_at declared at ≡ true → (d.child ≡ Some (name_at declared at) → ⊥) → Reads ks F attributes declared (suc at) told d
  skips is absent =
      let only = and_second (is_single (slice_get declared at)) _ is in
      elim (stands_single (one_of_single (slice_get declared at) (and_first (is_single (slice_get declared at)) _ is))) [
        | inl it ↦ absurd (absent (it.here ∙ ap (λ (m : ℕ). Some m) (sole_found (alternatives_at declared at) it.name it.kind only it.found).0))
        | inr over ↦ over.reads
      ]

  -- nothing of the profile stands there
  pub left_out : is_left_out (slice_get declared at) ≡ true → Reads ks F attributes declared (suc at) told d
  left_out is =
      let there = nothing_there (slice_get declared at) is in
      elim (stands ks F attributes declared at 0 told d h there.0 there.1) [
        | inl it ↦ absurd (nothing_among (alternatives there.0.members) it.name it.kind there.2 it.among)
        | inr over ↦ over.reads
      ]

  -- ---- one of several

  abbrev among : List (ℕ × ℕ)
  among = alternatives_at declared at

  pub is_chosen : (it : IsIt among) → IsChosen ks (child_frame it.name) among (Start it.name ∷ told) d
  is_chosen it = record { kind = it.kind; here = it.here; among = it.found; enters = it.enters }

  pub chosen_or_over : is_single (slice_get declared at) ≡ true → IsIt among ⊎ (Reads ks F attributes declared (suc at) told d × (kind_of_child among d.child ≡ None))
  chosen_or_over is =
      elim (stands_single (one_of_single (slice_get declared at) is)) [
        | inl it ↦ inl it
        | inr over ↦ inr (over.reads, over.other)
      ]

  pub behind_one : (name : ℕ) (more : List Event) (e : Seen) → (o : IsOne (slice_get declared at)) → Leaves ks (child_frame name) more e → IsBetween ks F attributes declared (suc at) 0 (EndElement ∷ more) e
  behind_one name more e one leaves =
      between ks F attributes declared at 0 told d h one.particle one.there name (at_particle h.kind n (at + 1) 0) more e (suc at) 0 (ap (λ (i : ℕ). at_particle h.kind n i 0) (add-one at)) leaves

  pub behind_once : is_once_at declared at ≡ true → (name : ℕ) (more : List Event) (e : Seen) → Leaves ks (child_frame name) more e → IsBetween ks F attributes declared (suc at) 0 (EndElement ∷ more) e
  behind_once is name more e leaves = behind_one name more e (one_of_required (slice_get declared at) (and_first (is_required (slice_get declared at)) _ is)).0 leaves

  pub behind_optional : is_optional_at declared at ≡ true → (name : ℕ) (more : List Event) (e : Seen) → Leaves ks (child_frame name) more e → IsBetween ks F attributes declared (suc at) 0 (EndElement ∷ more) e
  behind_optional is name more e leaves = behind_one name more e (one_of_single (slice_get declared at) (and_first (is_single (slice_get declared at)) _ is)) leaves

  pub behind_choice : is_required (slice_get declared at) ≡ true → (name : ℕ) (more : List Event) (e : Seen) → Leaves ks (child_frame name) more e → IsBetween ks F attributes declared (suc at) 0 (EndElement ∷ more) e
  behind_choice is name more e leaves = behind_one name more e (one_of_required (slice_get declared at) is).0 leaves

  pub behind_group : is_single (slice_get declared at) ≡ true → (name : ℕ) (more : List Event) (e : Seen) → Leaves ks (child_frame name) more e → IsBetween ks F attributes declared (suc at) 0 (EndElement ∷ more) e
  behind_group is name more e leaves = behind_one name more e (one_of_single (slice_get declared at) is) leaves

  -- by their names
  pub group_here : is_single (slice_get declared at) ≡ true → is_child_among (names_among among) d.child ≡ true → IsIt among
  group_here is named =
      elim (chosen_or_over is) [
        | inl it ↦ it
        | inr over ↦ absurd (not_none among d.child named over.1)
      ]

  pub group_over : is_single (slice_get declared at) ≡ true → is_child_among (names_among among) d.child ≡ false → Reads ks F attributes declared (suc at) told d
  group_over is absent =
      elim (chosen_or_over is) [
        | inl it ↦
            (let found : list_any (λ (n : ℕ). n == it.name) (names_among among) ≡ true = found_named among it.name it.kind it.found in
            let wrong : true ≡ false = sym found ∙ ap (λ (o : Option ℕ). is_child_among (names_among among) o) (sym it.here) ∙ absent in
            absurd cc)
        | inr over ↦ over.0
      ]

-- ---- a member by its name

pub chosen_as : (ks : List PlainKind) (F : Frame) (members : List (ℕ × ℕ)) (told : List Event) (d : Seen) → IsChosen ks F members told d → (name kind : ℕ) → d.child ≡ Some name → kind_among members name ≡ Some kind →
    (name ≡ F.name) × Enters ks F kind told d
chosen_as ks F members told d chosen name kind here among =
    let both_names : Some name ≡ Some F.name = sym here ∙ chosen.here in
    let name_is : name ≡ F.name = cc in
    let both_kinds : Some kind ≡ Some chosen.kind = sym among ∙ ap (λ (n : ℕ). kind_among members n) name_is ∙ chosen.among in
    let kind_is : chosen.kind ≡ kind = cc in
    (name_is, subst (λ (k : ℕ). Enters ks F k told d) kind_is chosen.enters)

pub both : {V E : Type 0} (r : Result V E) (A : Type 0) (B : V → Type 0) → A → IfOk r (λ v. B v) → IfOk r (λ v. A × B v)
both {V} {E} (Ok v) A B a b = (a, b)
both {V} {E} (Err e) A B a b = tt
