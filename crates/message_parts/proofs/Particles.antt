-- What stands at a particle.
use Rattle.std.proofs.Common.{◌≡◌, ℕ, zero, suc, ◌+◌, add-one, List, [], ◌∷◌, ◌++◌, length, drop, map, nat_lt, not, Option, Some, None, if◌then◌else◌, Bool, true, false, ◌⊎◌, inl, inr, refl, sym, ap, subst, ◌∙◌}
use Rattle.std.specs.Prelude.{slice_get, ◌==◌, ◌||◌}
use Rattle.exi_schema.specs.Offers.{behind_copy}
use Rattle.exi_schema.specs.Schemas.{are_distinct, is_taken}
use Rattle.exi_schema.specs.declared.places.Place.{Place}
use Rattle.exi_schema.specs.declared.places.Step.{Step}
use Rattle.exi_schema.specs.declared.places.Step.TheVariants as step
use Rattle.exi_schema.specs.declared.tables.AttributeOf.{AttributeOf}
use Rattle.exi_schema.specs.declared.tables.Member.{Member}
use Rattle.exi_schema.specs.declared.tables.MemberStanding.{MemberStanding}
use Rattle.exi_schema.specs.declared.tables.MemberStanding.TheVariants.{Taken}
use Rattle.exi_events.specs.Documents.{element, first}
use Rattle.exi_events.specs.Grammar.{Inside, opened}
use Rattle.exi_events.specs.Trees.{Event, Start, EndElement}
use Rattle.exi_schema.specs.Plain.{PlainKind, PlainParticle}
use Rattle.exi_schema.specs.Offers.{element_step, element_steps}
use Rattle.message_parts.specs.Particles.{alternatives, kind_among}
use Rattle.message_parts.specs.Reading.{Frame, Seen, Goes, Enters, Leaves, IsBetween, ReadsFrom, Reads, IsChild, at_particle, names_in}
use Rattle.message_parts.proofs.Distinct.{has, names, same_number, or_later, and_first, and_second, not_both, is_false, is_true, distinct_front, later_distinct, not_in_both, among_more, none_among, among_has, number_is}

pub drop_at : {X : Type 0} (ps : List X) (i : ℕ) (p : X) → slice_get ps i ≡ Some p → drop i ps ≡ p ∷ drop (suc i) ps
drop_at {X} [] i p is = absurd cc
drop_at {X} (q ∷ ps) zero p is = let same : Some q ≡ Some p = is in let is_p : q ≡ p = cc in ap (λ (x : X). x ∷ ps) is_p
drop_at {X} (q ∷ ps) (suc i) p is = drop_at ps i p is

pub drop_distinct : (ps : List PlainParticle) (i : ℕ) → are_distinct (names_in ps) ≡ true → are_distinct (names_in (drop i ps)) ≡ true
drop_distinct [] zero is = is
drop_distinct [] (suc i) is = is
drop_distinct (p ∷ ps) zero is = is
drop_distinct (p ∷ ps) (suc i) is = drop_distinct ps i (later_distinct (names p.members) (names_in ps) is)

-- the frame of a child, behind which so much is to come
abbrev pub frame_before : Frame → ℕ → Place → Frame
frame_before F name behind = record { schema = F.schema; bits = F.bits; name = name; above = opened F.name behind ∷ F.above }

-- the kind of the child that has started among some
abbrev pub kind_of_child : List (ℕ × ℕ) → Option ℕ → Option ℕ
kind_of_child among None = None
kind_of_child among (Some name) = kind_among among name

pub first_is : (x y : Step) (code : ℕ) → slice_get (x ∷ []) code ≡ Some y → x ≡ y
first_is x y zero is = let same : Some x ≡ Some y = is in cc
first_is x y (suc code) is = absurd cc

-- what follows a particle is offered where its minimum is met
behind_least : (b : Bool) (steps : List Step) (c : ℕ) (y : Step) → slice_get (if b then [] else steps) c ≡ Some y → (b ≡ false) × (slice_get steps c ≡ Some y)
behind_least true steps c y is = absurd cc
behind_least false steps c y is = (refl, is)

-- ---- names of what is offered

has_name : (here : Place) (n at copies m inner : ℕ) (next : Place) (members : List Member) (p : PlainParticle) (more : List Step) (rest : List ℕ) (code : ℕ) →
    slice_get (map (element_step here n at copies p) members ++ more) code ≡ Some (element m inner next) →
    ((c : ℕ) → slice_get more c ≡ Some (element m inner next) → has m rest ≡ true) →
    has m (names members ++ rest) ≡ true
has_name here n at copies m inner next [] p more rest code is later = later code is
has_name here n at copies m inner next (q ∷ members) p more rest zero is later =
    let same : Some (element_step here n at copies p q) ≡ Some (element m inner next) = is in
    let name_is : q.name ≡ m = cc in
    ap (λ (b : Bool). b || has m (names members ++ rest)) (ap (λ (x : ℕ). x == m) name_is ∙ same_number m)
has_name here n at copies m inner next (q ∷ members) p more rest (suc code) is later =
    or_later (q.name == m) _ (has_name here n at copies m inner next members p more rest code is later)

ends_no_name : (m inner : ℕ) (next : Place) (code : ℕ) → slice_get (step.End ∷ []) code ≡ Some (element m inner next) → has m [] ≡ true
ends_no_name m inner next code is = let wrong = first_is step.End (element m inner next) code is in absurd cc

names_offered : (here : Place) (n at copies m inner : ℕ) (next : Place) (ps : List PlainParticle) (code : ℕ) →
    slice_get (element_steps here n at copies ps) code ≡ Some (element m inner next) → has m (names_in ps) ≡ true
names_offered here n at copies m inner next [] code is = ends_no_name m inner next code is
names_offered here n at copies m inner next (p ∷ ps) code is =
    has_name here n at copies m inner next p.members p _ (names_in ps) code is
    (λ c found. names_offered here n (at + 1) 0 m inner next ps c (behind_least (nat_lt copies p.least) _ c _ found).1)

-- ---- one step of a particle and of those behind it

module _ (here : Place) (n at copies : ℕ) (p : PlainParticle) where
  -- a member of the particle that may stand there
  pub record IsMember (members : List Member) (m inner : ℕ) (next : Place) : Type 0 where
    pub among : kind_among (alternatives members) m ≡ Some inner
    pub below : nat_lt copies p.profile ≡ true
    pub next_is : next ≡ behind_copy here.kind n at copies p.most

  module _ (rest : List Step) where
    taken_now : (q : Member) (members : List Member) (m inner : ℕ) (next : Place) → element_step here n at copies p q ≡ element m inner next → IsMember (q ∷ members) m inner next
    taken_now q members m inner next same =
        let name_is : q.name ≡ m = cc in
        let kind_is : q.kind ≡ inner = cc in
        let taken : q.standing ≡ Taken = cc in
        let within : not (nat_lt copies p.profile) ≡ false = cc in
        let goes : (if nat_lt copies p.profile then behind_copy here.kind n at copies p.most else here) ≡ next = cc in
        let below : nat_lt copies p.profile ≡ true = is_true (nat_lt copies p.profile) within in
        record {
          among = ap (λ (s : MemberStanding). kind_among (if is_taken s then (q.name, q.kind) ∷ alternatives members else alternatives members) m) taken
              ∙ ap (λ (b : Bool). if b then Some q.kind else kind_among (alternatives members) m) (ap (λ (x : ℕ). x == m) name_is ∙ same_number m) ∙ ap (λ (k : ℕ). Some k) kind_is;
          below = below;
          next_is = sym goes ∙ ap (λ (b : Bool). if b then behind_copy here.kind n at copies p.most else here) below;
        }

    taken_later : (q : Member) (members : List Member) (m inner : ℕ) (next : Place) → are_distinct (names (q ∷ members)) ≡ true → IsMember members m inner next → IsMember (q ∷ members) m inner next
    taken_later q members m inner next apart found =
        let other : (q.name == m) ≡ false =
        is_false (q.name == m) (λ is. not_both (has q.name (names members)) (and_first _ (are_distinct (names members)) apart)
        (subst (λ (x : ℕ). has x (names members) ≡ true) (sym (number_is q.name m is)) (among_has m inner members found.among))) in
        record { among = among_more (is_taken q.standing) q (alternatives members) m other ∙ found.among; below = found.below; next_is = found.next_is }

    front : (members : List Member) (code m inner : ℕ) (next : Place) → are_distinct (names members) ≡ true →
        slice_get (map (element_step here n at copies p) members ++ rest) code ≡ Some (element m inner next) →
        IsMember members m inner next ⊎ ((c : ℕ) × (slice_get rest c ≡ Some (element m inner next)))
    front [] code m inner next apart is = inr (code, is)
    front (q ∷ members) zero m inner next apart is =
        let same : Some (element_step here n at copies p q) ≡ Some (element m inner next) = is in
        inl (taken_now q members m inner next cc)
    front (q ∷ members) (suc code) m inner next apart is =
        elim (front members code m inner next (and_second _ _ apart) is) [
          | inl found ↦ inl (taken_later q members m inner next apart found)
          | inr later ↦ inr later
        ]

    end_behind : (members : List Member) (code : ℕ) → slice_get (map (element_step here n at copies p) members ++ rest) code ≡ Some step.End → (c : ℕ) × (slice_get rest c ≡ Some step.End)
    end_behind [] code is = (code, is)
    end_behind (q ∷ members) zero is = absurd cc
    end_behind (q ∷ members) (suc code) is = end_behind members code is

-- ---- the child at a particle

module _ (ks : List PlainKind) (F : Frame) (k n at copies : ℕ) (told : List Event) (d : Seen) (p : PlainParticle) (ps : List PlainParticle) where
  abbrev behind : Place
  behind = behind_copy k n at copies p.most

  -- it is a member of it
  pub record IsOfIt (child : Option ℕ) : Type 0 where
    pub name : ℕ
    pub kind : ℕ
    pub here : child ≡ Some name
    pub among : kind_among (alternatives p.members) name ≡ Some kind
    pub below : nat_lt copies p.profile ≡ true
    pub enters : Enters ks (frame_before F name behind) kind (Start name ∷ told) d

  -- it stands behind it, or there is none
  pub record IsLater (here : Place) (child : Option ℕ) : Type 0 where
    pub later : IsChild ks F here n (at + 1) 0 ps told d child
    pub least : nat_lt copies p.least ≡ false
    pub other : kind_of_child (alternatives p.members) child ≡ None

  entered : (here : Place) (m inner : ℕ) (next : Place) → here.kind ≡ k → IsMember here n at copies p p.members m inner next → Goes ks F (Start m ∷ told) d →
      d.state.standing ≡ Inside (opened m (first inner)) (opened F.name next ∷ F.above) → IsOfIt (Some m)
  entered here m inner next of found goes st =
      let to : next ≡ behind = found.next_is ∙ ap (λ (x : ℕ). behind_copy x n at copies p.most) of in
      record {
        name = m;
        kind = inner;
        here = refl;
        among = found.among;
        below = found.below;
        enters = record {
          goes = record { schema_is = goes.schema_is; kinds_are = goes.kinds_are; bits_are = goes.bits_are; none_refused = goes.none_refused; told = goes.told };
          standing = st ∙ ap (λ (x : Place). Inside (opened m (first inner)) (opened F.name x ∷ F.above)) to;
        };
      }

  pub decided : (here : Place) (child : Option ℕ) → here.kind ≡ k → are_distinct (names p.members ++ names_in ps) ≡ true → IsChild ks F here n at copies (p ∷ ps) told d child →
      IsOfIt child ⊎ IsLater here child
  decided here None of apart is =
      let c = end_behind here n at copies p (if nat_lt copies p.least then [] else element_steps here n (at + 1) 0 ps) p.members is.0.0 is.0.1 in
      let b = behind_least (nat_lt copies p.least) (element_steps here n (at + 1) 0 ps) c.0 step.End c.1 in
      inr (record { later = ((c.0, b.1), is.1, is.2); least = b.0; other = refl })
  decided here (Some m) of apart is =
      elim (front here n at copies p (if nat_lt copies p.least then [] else element_steps here n (at + 1) 0 ps) p.members is.0 m is.1 is.2 (distinct_front (names p.members) (names_in ps) apart) is.3) [
        | inl found ↦ inl (entered here m is.1 is.2 of found is.4 is.5)
        | inr c ↦
            (let b = behind_least (nat_lt copies p.least) (element_steps here n (at + 1) 0 ps) c.0 (element m is.1 is.2) c.1 in
            let named = names_offered here n (at + 1) 0 m is.1 is.2 ps c.0 b.1 in
            inr (record {
              later = (c.0, is.1, is.2, b.1, is.4, is.5);
              least = b.0;
              other = none_among m p.members (λ found. not_in_both m (names p.members) (names_in ps) apart found named);
            }))
      ]

-- ---- at a place of an element

module _ (ks : List PlainKind) (F : Frame) (attributes : List AttributeOf) (declared : List PlainParticle) (at copies : ℕ) (told : List Event) (d : Seen)
    (h : ReadsFrom ks F attributes declared at copies told d) (p : PlainParticle) (is : slice_get declared at ≡ Some p) where
  abbrev n : ℕ
  n = length attributes

  -- the child is a member of the particle, or the particle is passed
  pub record IsPassed : Type 0 where
    pub reads : Reads ks F attributes declared (suc at) told d
    pub least : nat_lt copies p.least ≡ false
    pub other : kind_of_child (alternatives p.members) d.child ≡ None

  pub stands : IsOfIt ks F h.kind n at copies told d p (drop (suc at) declared) d.child ⊎ IsPassed
  stands =
      let left = drop_at declared at p is in
      let child = subst (λ (ps : List PlainParticle). IsChild ks F h.here n at copies ps told d d.child) left h.child in
      let apart = subst (λ (ps : List PlainParticle). are_distinct (names_in ps) ≡ true) left (drop_distinct declared at h.distinct) in
      elim (decided ks F h.kind n at copies told d p (drop (suc at) declared) h.here d.child h.of_kind apart child) [
        | inl here ↦ inl here
        | inr passed ↦
            inr (record {
              reads = record {
                kind = h.kind;
                is_kind = h.is_kind;
                distinct = h.distinct;
                here = h.here;
                of_kind = h.of_kind;
                child = subst (λ (i : ℕ). IsChild ks F h.here n i 0 (drop (suc at) declared) told d d.child) (add-one at) passed.later;
              };
              least = passed.least;
              other = passed.other;
            })
      ]

  -- behind the end of a child
  pub between : (name : ℕ) (next : Place) (more : List Event) (e : Seen) (i j : ℕ) → next ≡ at_particle h.kind n i j → Leaves ks (frame_before F name next) more e →
      IsBetween ks F attributes declared i j (EndElement ∷ more) e
  between name next more e i j to leaves =
      let good = leaves.goes in
      record {
        kind = h.kind;
        is_kind = h.is_kind;
        distinct = h.distinct;
        goes = record { schema_is = good.schema_is; kinds_are = good.kinds_are; bits_are = good.bits_are; none_refused = good.none_refused; told = good.told };
        standing = leaves.standing ∙ ap (λ (x : Place). Inside (opened F.name x) F.above) to;
      }
