-- Elements of one name, one after the other.
use Rattle.std.proofs.Common.{◌≡◌, ℕ, suc, ◌+◌, ◌<◌, add-one, List, [], ◌∷◌, ◌++◌, length, map, drop, nat_lt, Option, Some, None, if◌then◌else◌, Bool, true, false, ◌⊎◌, inl, inr, arith, refl, sym, ap, subst, ◌∙◌}
use Rattle.std.specs.Prelude.{slice_get, ◌==◌}
use Rattle.std.proofs.lemmas.Bool.Decides.{nat_tests}
use Rattle.exi_schema.specs.Offers.{behind_copy, leaves_room}
use Rattle.exi_schema.specs.declared.places.Place.{Place}
use Rattle.exi_schema.specs.declared.tables.AttributeOf.{AttributeOf}
use Rattle.exi_events.specs.Trees.{Event, Start, EndElement}
use Rattle.exi_schema.specs.Plain.{PlainKind, PlainParticle}
use Rattle.message_parts.specs.Contents.{Inside as Contents, told_one, told_each}
use Rattle.message_parts.specs.Particles.{alternatives, alternatives_of, alternatives_at, name_at, kind_at, kind_among, is_sole, accepts, has_room_for, is_repeated_at}
use Rattle.message_parts.specs.Reading.{Frame, Seen, Enters, Leaves, IsBetween, ReadsFrom, Reads, at_particle}
use Rattle.message_parts.proofs.Distinct.{and_first, and_second, number_is}
use Rattle.message_parts.proofs.Particles.{frame_before, kind_of_child, IsOfIt, stands, between}
use Rattle.message_parts.proofs.Singles.{sole_found, sole_there}

-- so many elements are read; at the maximum the particle is left
abbrev pub Repeats : List PlainKind → Frame → List AttributeOf → List PlainParticle → ℕ → ℕ → ℕ → List Event → Seen → Type 0
Repeats ks F attributes declared at n copies told d = ReadsFrom ks F attributes declared at copies told d ⊎ ((copies ≡ n) × Reads ks F attributes declared (suc at) told d)

told_more : {X : Type 0} (f : X → Contents) (name : ℕ) (xs : List X) (x : X) (told : List Event) →
    told_each name (map f (xs ++ x ∷ [])) told ≡ told_one name (f x) (told_each name (map f xs) told)
told_more {X} f name [] x told = refl
told_more {X} f name (y ∷ xs) x told = told_more f name xs x (told_one name (f y) told)

pub told_pushed : {X : Type 0} (f : X → Contents) (name named : ℕ) (xs ys : List X) (x : X) (told : List Event) → ys ≡ xs ++ x ∷ [] → name ≡ named →
    told_one named (f x) (told_each name (map f xs) told) ≡ told_each name (map f ys) told
told_pushed {X} f name named xs ys x told is same =
    ap (λ (n : ℕ). told_one n (f x) (told_each name (map f xs) told)) (sym same) ∙ sym (told_more f name xs x told) ∙ ap (λ (zs : List X). told_each name (map f zs) told) (sym is)

-- what the test says
pub record IsList (o : Option PlainParticle) (limit : ℕ) : Type 0 where
  pub particle : PlainParticle
  pub there : o ≡ Some particle
  pub profile : particle.profile ≡ limit
  pub fits : has_room_for limit particle.most ≡ true

pub list_of : (o : Option PlainParticle) (limit : ℕ) → accepts limit o ≡ true → IsList o limit
list_of None limit is = absurd cc
list_of (Some p) limit is =
    record { particle = p; there = refl; profile = number_is p.profile limit (and_first (p.profile == limit) _ is); fits = and_second (p.profile == limit) _ is }

-- ---- the place behind a copy

module _ (kind n at copies : ℕ) where
  abbrev IsBehind : Option ℕ → ℕ → Type 0
  IsBehind most limit =
      (behind_copy kind n at copies most ≡ at_particle kind n at (copies + 1))
      ⊎ ((copies + 1 ≡ limit) × (behind_copy kind n at copies most ≡ at_particle kind n (at + 1) 0))

  behind_by : (most : Option ℕ) (limit : ℕ) (b : Bool) → leaves_room most (copies + 1) ≡ b → (b ≡ false → copies + 1 ≡ limit) → IsBehind most limit
  behind_by most limit true is last = inl (ap (λ (b : Bool). if b then at_particle kind n at (copies + 1) else at_particle kind n (at + 1) 0) is)
  behind_by most limit false is last = inr (last refl, ap (λ (b : Bool). if b then at_particle kind n at (copies + 1) else at_particle kind n (at + 1) 0) is)

  is_last : (most : Option ℕ) (limit : ℕ) → nat_lt copies limit ≡ true → has_room_for limit most ≡ true → leaves_room most (copies + 1) ≡ false → copies + 1 ≡ limit
  is_last None limit below fits full = absurd cc
  is_last (Some most) limit below fits full = grind (arith, nat_tests)

  behind_is : (most : Option ℕ) (limit : ℕ) → nat_lt copies limit ≡ true → has_room_for limit most ≡ true → IsBehind most limit
  behind_is most limit below fits = behind_by most limit (leaves_room most (copies + 1)) refl (is_last most limit below fits)

-- ---- one more, or the end of them

module _ (ks : List PlainKind) (F : Frame) (attributes : List AttributeOf) (declared : List PlainParticle) (at copies : ℕ) (told : List Event) (d : Seen) (limit : ℕ)
    (h : ReadsFrom ks F attributes declared at copies told d) (is : is_repeated_at declared at limit ≡ true) where
  abbrev n : ℕ
  n = length attributes

  list : IsList (slice_get declared at) limit
  list = list_of (slice_get declared at) limit (and_first (accepts limit (slice_get declared at)) _ is)

  abbrev behind : Place
  behind = behind_copy h.kind n at copies list.particle.most

  only : is_sole (alternatives_at declared at) ≡ true
  only = and_second (accepts limit (slice_get declared at)) _ is

  same_alternatives : alternatives list.particle.members ≡ alternatives_at declared at
  same_alternatives = ap (λ (o : Option PlainParticle). alternatives_of o) (sym list.there)

  -- one more has started, and what comes behind it
  pub record IsMore : Type 0 where
    pub below : nat_lt copies limit ≡ true
    pub here : d.child ≡ Some (name_at declared at)
    pub after : Place
    pub enters : Enters ks (frame_before F (name_at declared at) after) (kind_at declared at) (Start (name_at declared at) ∷ told) d
    pub follows : (more : List Event) (e : Seen) → Leaves ks (frame_before F (name_at declared at) after) more e →
        IsBetween ks F attributes declared at (copies + 1) (EndElement ∷ more) e ⊎ ((copies + 1 ≡ limit) × IsBetween ks F attributes declared (suc at) 0 (EndElement ∷ more) e)

  between_more : (name : ℕ) (more : List Event) (e : Seen) → nat_lt copies limit ≡ true → Leaves ks (frame_before F name behind) more e →
      IsBetween ks F attributes declared at (copies + 1) (EndElement ∷ more) e ⊎ ((copies + 1 ≡ limit) × IsBetween ks F attributes declared (suc at) 0 (EndElement ∷ more) e)
  between_more name more e below leaves =
      elim (behind_is h.kind n at copies list.particle.most limit below list.fits) [
        | inl to ↦ inl (between ks F attributes declared at copies told d h list.particle list.there name behind more e at (copies + 1) to leaves)
        | inr last ↦
            inr (last.0, between ks F attributes declared at copies told d h list.particle list.there name behind more e (suc at) 0 (last.1 ∙ ap (λ (i : ℕ). at_particle h.kind n i 0) (add-one at)) leaves)
      ]

  more_of : IsOfIt ks F h.kind n at copies told d list.particle (drop (suc at) declared) d.child → IsMore
  more_of it =
      let same = sole_found (alternatives_at declared at) it.name it.kind only (ap (λ (these : List (ℕ × ℕ)). kind_among these it.name) (sym same_alternatives) ∙ it.among) in
      let below : nat_lt copies limit ≡ true = subst (λ (x : ℕ). nat_lt copies x ≡ true) list.profile it.below in
      record {
        below = below;
        here = it.here ∙ ap (λ (m : ℕ). Some m) same.0;
        after = behind;
        enters = subst (λ (m : ℕ). Enters ks (frame_before F m behind) (kind_at declared at) (Start m ∷ told) d) same.0
            (subst (λ (k : ℕ). Enters ks (frame_before F it.name behind) k (Start it.name ∷ told) d) same.1 it.enters);
        follows = λ more e leaves. between_more (name_at declared at) more e below leaves;
      }

  pub more_or_over : IsMore ⊎ (Reads ks F attributes declared (suc at) told d × (d.child ≡ Some (name_at declared at) → ⊥))
  more_or_over =
      elim (stands ks F attributes declared at copies told d h list.particle list.there) [
        | inl it ↦ inl (more_of it)
        | inr over ↦
            inr (
              over.reads,
              (λ here. sole_there (alternatives_at declared at) only
                  (ap (λ (o : Option ℕ). kind_of_child (alternatives_at declared at) o) (sym here) ∙ ap (λ (these : List (ℕ × ℕ)). kind_of_child these d.child) (sym same_alternatives) ∙ over.other)),
            )
      ]

  pub enters_more : d.child ≡ Some (name_at declared at) → IsMore
  enters_more here =
      elim more_or_over [
        | inl more ↦ more
        | inr over ↦ absurd (over.1 here)
      ]

  pub passes : (d.child ≡ Some (name_at declared at) → ⊥) → Reads ks F attributes declared (suc at) told d
  passes other =
      elim more_or_over [
        | inl more ↦ absurd (other more.here)
        | inr over ↦ over.0
      ]

  pub passes_full : nat_lt copies limit ≡ false → Reads ks F attributes declared (suc at) told d
  passes_full full =
      elim more_or_over [
        | inl more ↦ (let wrong : true ≡ false = sym more.below ∙ full in absurd cc)
        | inr over ↦ over.0
      ]

-- ---- so many are read

module _ (ks : List PlainKind) (F : Frame) (attributes : List AttributeOf) (declared : List PlainParticle) (at copies : ℕ) (told : List Event) (d : Seen) (limit : ℕ)
    (is : is_repeated_at declared at limit ≡ true) (h : Repeats ks F attributes declared at limit copies told d) where
  -- another child is behind them
  pub stops : (d.child ≡ Some (name_at declared at) → ⊥) → Reads ks F attributes declared (suc at) told d
  stops other =
      elim h [
        | inl more ↦ passes ks F attributes declared at copies told d limit more is other
        | inr last ↦ last.1
      ]

  -- no more are accepted
  pub fills : nat_lt copies limit ≡ false → Reads ks F attributes declared (suc at) told d
  fills full =
      elim h [
        | inl more ↦ passes_full ks F attributes declared at copies told d limit more is full
        | inr last ↦ last.1
      ]

  pub goes_on : copies < limit → ReadsFrom ks F attributes declared at copies told d
  goes_on below =
      elim h [
        | inl more ↦ more
        | inr last ↦ (let same = last.0 in absurd (omega (arith, same, below)))
      ]
