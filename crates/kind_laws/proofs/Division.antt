-- From a place on: the members that still stand for the particles there, and the next step.
use Rattle.std.proofs.Common.{◌≡◌, ℕ, suc, ◌+◌, ◌<◌, ◌≤◌, nat_lt, not, Bool, true, false, if◌then◌else◌, List, [], ◌∷◌, ◌++◌, length, drop, map, Option, Some, None, refl, sym, ap, subst, ◌∙◌, arith, slice_get, ltb-false}
use Rattle.std.proofs.lemmas.Bool.{lt-ltb, le-ltb}
use Rattle.std.specs.List.{AllByRecursion}
use Rattle.exi_schema.specs.declared.tables.Member.{Member}
use Rattle.exi_schema.specs.declared.tables.MemberStanding.TheVariants.{Taken}
use Rattle.exi_schema.specs.declared.places.Place.{Place}
use Rattle.exi_schema.specs.declared.places.Step.{Step}
use Rattle.exi_schema.specs.declared.places.Step.TheVariants.{Element, End}
use Rattle.exi_schema.specs.Plain.{PlainParticle}
use Rattle.exi_schema.specs.Offers.{leaves_room, behind_copy, element_step, element_steps}
use Rattle.exi_documents.specs.Documents.{element}
use Rattle.kind_laws.specs.Kinds.{IsMemberOf, IsAtMost, AreDivided}
use Rattle.kind_laws.proofs.Lists.{get_front, get_back, get_map, no_items, nil_cons, same_head, same_tail}

-- behind so many copies of a particle these members still stand for it
pub record GoOn (copies : ℕ) (particle : PlainParticle) (members : List Member) : Type 0 where
  pub own : AllByRecursion (IsMemberOf particle) members
  pub least : particle.least ≤ copies + length members
  pub most : 0 < length members → IsAtMost particle.most (copies + length members)
  pub profile : 0 < length members → copies + length members ≤ particle.profile

-- and these for the particles from there on
abbrev pub Remain : ℕ → List PlainParticle → List Member → Type 0
Remain copies [] members = members ≡ []
Remain copies (particle ∷ particles) members =
    (own : List Member) × (others : List Member) × GoOn copies particle own × AreDivided particles others × (members ≡ own ++ others)

at_most_more : (most : Option ℕ) (n m : ℕ) → n ≡ m → IsAtMost most n → IsAtMost most m
at_most_more most n m same h = subst (λ (k : ℕ). IsAtMost most k) same h

pub remain_all : (particles : List PlainParticle) (members : List Member) → AreDivided particles members → Remain 0 particles members
remain_all [] members h = h
remain_all (particle ∷ particles) members h =
    let s = h.2 in (
      h.0,
      h.1,
      record {
        own = s.own;
        least = omega (arith, s.least);
        most = λ some. at_most_more particle.most (length h.0) (0 + length h.0) (omega arith) s.most;
        profile = λ some. omega (arith, s.profile);
      },
      h.3,
      h.4,
    )

-- ---- the end

below_true : (m n : ℕ) → m < n → nat_lt m n ≡ true
below_true m n h = lt-ltb m n h

below_false : (m n : ℕ) → n ≤ m → nat_lt m n ≡ false
below_false m n h = le-ltb m n h

pub end_offered : (here : Place) (n at copies : ℕ) (particles : List PlainParticle) → Remain copies particles [] → (code : ℕ) × (slice_get (element_steps here n at copies particles) code ≡ Some End)
end_offered here n at copies [] h = (0, refl)
end_offered here n at copies (particle ∷ particles) h =
    let none = no_items h.0 h.1 h.4 in
    let met : nat_lt copies particle.least ≡ false = below_false copies particle.least (omega (arith, h.2.least, ap length none.0)) in
    let rest = end_offered here n (at + 1) 0 particles (remain_all particles [] (subst (λ (ms : List Member). AreDivided particles ms) none.1 h.3)) in
    let there : slice_get (if nat_lt copies particle.least then [] else element_steps here n (at + 1) 0 particles) rest.0 ≡ Some End =
    ap (λ (b : Bool). slice_get (if b then [] else element_steps here n (at + 1) 0 particles) rest.0) met ∙ rest.1 in
    get_back (map (element_step here n at copies particle) particle.members) (if nat_lt copies particle.least then [] else element_steps here n (at + 1) 0 particles) rest.0 End there

-- ---- an element

-- a step to a place from which these members remain
pub record Leads (here : Place) (n at copies : ℕ) (particles : List PlainParticle) (member : Member) (members : List Member) : Type 0 where
  pub next : Place
  pub code : ℕ
  pub offered : slice_get (element_steps here n at copies particles) code ≡ Some (element member.name member.kind next)
  pub same_kind : next.kind ≡ here.kind
  pub behind : next.attributes ≡ n
  pub passed : ℕ
  pub reached : next.particle ≡ at + passed
  pub remain : Remain next.copies (drop passed particles) members

-- the place behind a copy
pub record IsNext (here : Place) (n at : ℕ) (particle : PlainParticle) (particles : List PlainParticle) (copies : ℕ) (members : List Member) : Type 0 where
  pub next : Place
  pub is_next : behind_copy here.kind n at copies particle.most ≡ next
  pub same_kind : next.kind ≡ here.kind
  pub behind : next.attributes ≡ n
  pub passed : ℕ
  pub reached : next.particle ≡ at + passed
  pub remain : Remain next.copies (drop passed (particle ∷ particles)) members

next_by : (room : Bool) (here : Place) (n at : ℕ) (particle : PlainParticle) (particles : List PlainParticle) (copies : ℕ) (members : List Member) → leaves_room particle.most (copies + 1) ≡ room →
    (room ≡ true → Remain (copies + 1) (particle ∷ particles) members) → (room ≡ false → Remain 0 particles members) → IsNext here n at particle particles copies members
next_by true here n at particle particles copies members is more none =
    record {
      next = record { kind = here.kind; particle = at; copies = copies + 1; attributes = n };
      is_next = ap (λ (b : Bool). if b then record { kind = here.kind; particle = at; copies = copies + 1; attributes = n } else record { kind = here.kind; particle = at + 1; copies = 0; attributes = n }) is;
      same_kind = refl;
      behind = refl;
      passed = 0;
      reached = omega arith;
      remain = more refl;
    }
next_by false here n at particle particles copies members is more none =
    record {
      next = record { kind = here.kind; particle = at + 1; copies = 0; attributes = n };
      is_next = ap (λ (b : Bool). if b then record { kind = here.kind; particle = at; copies = copies + 1; attributes = n } else record { kind = here.kind; particle = at + 1; copies = 0; attributes = n }) is;
      same_kind = refl;
      behind = refl;
      passed = 1;
      reached = refl;
      remain = none refl;
    }

-- one more copy of the same particle
go_on : (copies : ℕ) (particle : PlainParticle) (member : Member) (members : List Member) → GoOn copies particle (member ∷ members) → GoOn (copies + 1) particle members
go_on copies particle member members h =
    record {
      own = h.own.1;
      least = omega (arith, h.least);
      most = λ some. at_most_more particle.most (copies + length (member ∷ members)) (copies + 1 + length members) (omega arith) (h.most (omega arith));
      profile = λ some. omega (arith, h.profile (omega arith));
    }

-- at the maximum no other one stands
no_room : (most : Option ℕ) (copies count : ℕ) → leaves_room most (copies + 1) ≡ false → IsAtMost most (copies + suc count) → count ≡ 0
no_room None copies count is h = let wrong : true ≡ false = is in absurd cc
no_room (Some most) copies count is h = omega (arith, ltb-false (copies + 1) most is, h)

no_length : {X : Type 0} (xs : List X) → length xs ≡ 0 → xs ≡ []
no_length [] h = refl
no_length (x ∷ xs) h = absurd (omega (arith, h))

last_copy : (copies : ℕ) (particle : PlainParticle) (particles : List PlainParticle) (member : Member) (members others all : List Member) → GoOn copies particle (member ∷ members) → AreDivided particles others → all ≡ members ++ others → leaves_room particle.most (copies + 1) ≡ false → Remain 0 particles all
last_copy copies particle particles member members others all h d is room =
    let none = no_length members (no_room particle.most copies (length members) room (h.most (omega arith))) in
    let same : all ≡ others = is ∙ ap (λ (ms : List Member). ms ++ others) none in
    remain_all particles all (subst (λ (ms : List Member). AreDivided particles ms) (sym same) d)

-- the step of a member that is accepted
step_is : (here : Place) (n at copies : ℕ) (particle : PlainParticle) (member : Member) (next : Place) → nat_lt copies particle.profile ≡ true → member.standing ≡ Taken → behind_copy here.kind n at copies particle.most ≡ next → element_step here n at copies particle member ≡ element member.name member.kind next
step_is here n at copies particle member next accepted taken is =
    ap (λ (b : Bool). Element member.name member.kind (if b then behind_copy here.kind n at copies particle.most else here) member.standing (not b)) accepted
    ∙ ap (λ (p : Place). Element member.name member.kind p member.standing false) is
    ∙ ap (λ s. Element member.name member.kind next s false) taken

pub element_offered : (here : Place) (n at copies : ℕ) (particles : List PlainParticle) (member : Member) (members : List Member) → Remain copies particles (member ∷ members) → Leads here n at copies particles member members
element_offered here n at copies [] member members h = absurd (nil_cons member members (sym h))
element_offered here n at copies (particle ∷ particles) member members ([], others, go, divided, is) =
    let met : nat_lt copies particle.least ≡ false = below_false copies particle.least (omega (arith, go.least)) in
    let rest = element_offered here n (at + 1) 0 particles member members (remain_all particles (member ∷ members) (subst (λ (ms : List Member). AreDivided particles ms) (sym is) divided)) in
    let there : slice_get (if nat_lt copies particle.least then [] else element_steps here n (at + 1) 0 particles) rest.code ≡ Some (element member.name member.kind rest.next) =
    ap (λ (b : Bool). slice_get (if b then [] else element_steps here n (at + 1) 0 particles) rest.code) met ∙ rest.offered in
    let found = get_back (map (element_step here n at copies particle) particle.members) (if nat_lt copies particle.least then [] else element_steps here n (at + 1) 0 particles) rest.code _ there in
    record {
      next = rest.next;
      code = found.0;
      offered = found.1;
      same_kind = rest.same_kind;
      behind = rest.behind;
      passed = suc rest.passed;
      reached = omega (arith, rest.reached);
      remain = rest.remain;
    }
element_offered here n at copies (particle ∷ particles) member members (first ∷ own, others, go, divided, is) =
    let same : member ≡ first = same_head member first members (own ++ others) is in
    let left : members ≡ own ++ others = same_tail member first members (own ++ others) is in
    let there =
    next_by (leaves_room particle.most (copies + 1)) here n at particle particles copies members refl
    (λ room. (own, others, go_on copies particle first own go, divided, left))
    (λ room. last_copy copies particle particles first own others members go divided left room) in
    let accepted : nat_lt copies particle.profile ≡ true = below_true copies particle.profile (omega (arith, go.profile (omega arith))) in
    let step = step_is here n at copies particle first there.next accepted go.own.0.taken there.is_next in
    let found : slice_get (element_steps here n at copies (particle ∷ particles)) go.own.0.index ≡ Some (element first.name first.kind there.next) =
    get_front (map (element_step here n at copies particle) particle.members) (if nat_lt copies particle.least then [] else element_steps here n (at + 1) 0 particles) go.own.0.index _
    (get_map (element_step here n at copies particle) particle.members go.own.0.index first go.own.0.found ∙ ap (λ (s : Step). Some s) step) in
    record {
      next = there.next;
      code = go.own.0.index;
      offered = found ∙ ap (λ (m : Member). Some (element m.name m.kind there.next)) (sym same);
      same_kind = there.same_kind;
      behind = there.behind;
      passed = there.passed;
      reached = there.reached;
      remain = there.remain;
    }
