-- A step that is offered is one of a member that may stand next.
use Rattle.std.proofs.Common.{◌≡◌, ℕ, zero, suc, ◌+◌, ◌<◌, ◌≤◌, nat_lt, not, Bool, true, false, if◌then◌else◌, List, [], ◌∷◌, length, drop, map, Option, Some, None, refl, sym, ap, subst, ◌∙◌, arith, slice_get, inl, inr}
use Rattle.std.proofs.lemmas.Bool.{ltb-true, ltb-false}
use Rattle.std.specs.List.{AllByRecursion}
use Rattle.exi_schema.specs.declared.tables.AttributeOf.{AttributeOf}
use Rattle.exi_schema.specs.declared.tables.Member.{Member}
use Rattle.exi_schema.specs.declared.tables.MemberStanding.TheVariants.{Taken}
use Rattle.exi_schema.specs.declared.places.Place.{Place}
use Rattle.exi_schema.specs.declared.places.Step.{Step}
use Rattle.exi_schema.specs.declared.places.Step.TheVariants.{Attribute, Element, End}
use Rattle.exi_schema.specs.Plain.{PlainParticle}
use Rattle.exi_schema.specs.Offers.{through_required, attribute_step, attribute_steps, leaves_room, behind_copy, element_step, element_steps}
use Rattle.exi_documents.specs.Documents.{element}
use Rattle.kind_laws.specs.Kinds.{IsMemberOf, IsAtMost, StandsFor, AreDivided, AreChosen}
use Rattle.kind_laws.proofs.Lists.{none_of, one_of, get_either, get_unmap}
use Rattle.kind_laws.proofs.Division.{GoOn, Remain}

-- ---- particles of a schema, and places in them

abbrev pub MostFits : ℕ → Option ℕ → Type 0
MostFits least None = Unit {0}
MostFits least (Some most) = (least ≤ most) × (1 ≤ most)

-- the maximum of each is at least its minimum, and at least 1
abbrev pub AreSound : List PlainParticle → Type 0
AreSound particles = AllByRecursion (λ p. MostFits p.least p.most) particles

abbrev pub IsBelow : ℕ → Option ℕ → Type 0
IsBelow copies None = Unit {0}
IsBelow copies (Some most) = copies < most

-- so many copies of the first one may be passed
abbrev pub MayBePassed : ℕ → List PlainParticle → Type 0
MayBePassed copies [] = Unit {0}
MayBePassed copies (particle ∷ particles) = (copies ≤ particle.profile) × IsBelow copies particle.most

below_least : (least : ℕ) (most : Option ℕ) → MostFits least most → IsBelow 0 most
below_least least None h = tt
below_least least (Some most) h = omega (arith, h.1)

pub none_passed : (particles : List PlainParticle) → AreSound particles → MayBePassed 0 particles
none_passed [] sound = tt
none_passed (particle ∷ particles) sound = (omega arith, below_least particle.least particle.most sound.0)

pub sound_behind : (n : ℕ) (particles : List PlainParticle) → AreSound particles → AreSound (drop n particles)
sound_behind zero particles sound = sound
sound_behind (suc n) [] sound = tt
sound_behind (suc n) (particle ∷ particles) sound = sound_behind n particles sound.1

-- ---- what remains at the first copy is divided

at_most_none : (most : Option ℕ) → IsAtMost most 0
at_most_none None = tt
at_most_none (Some most) = omega arith

go_none : (particle : PlainParticle) (members : List Member) → GoOn 0 particle members → StandsFor particle members
go_none particle [] h = record { own = tt; least = omega (arith, h.least); most = at_most_none particle.most; profile = omega arith }
go_none particle (member ∷ members) h =
    record {
      own = h.own;
      least = omega (arith, h.least);
      most = subst (λ (n : ℕ). IsAtMost particle.most n) (let same : 0 + length (member ∷ members) ≡ length (member ∷ members) = omega arith in same) (h.most (omega arith));
      profile = omega (arith, h.profile (omega arith));
    }

pub divided_all : (particles : List PlainParticle) (members : List Member) → Remain 0 particles members → AreDivided particles members
divided_all [] members h = h
divided_all (particle ∷ particles) members h = (h.0, h.1, go_none particle h.0 h.2, h.3, h.4)

-- a particle whose minimum is met may take no more
pub skipped : (copies : ℕ) (particle : PlainParticle) (particles : List PlainParticle) (members : List Member) → particle.least ≤ copies → AreDivided particles members → Remain copies (particle ∷ particles) members
skipped copies particle particles members met divided =
    ([], members, record { own = tt; least = omega (arith, met); most = λ some. absurd (omega (arith, some)); profile = λ some. absurd (omega (arith, some)) }, divided, refl)

-- ---- the end

no_end : (here : Place) (n at copies : ℕ) (particle : PlainParticle) (members : List Member) (code : ℕ) → slice_get (map (element_step here n at copies particle) members) code ≡ Some End → ⊥
no_end here n at copies particle members code h =
    let there = get_unmap (element_step here n at copies particle) members code End h in let e = there.3 in cc

pub all_offered : (step : Step) (steps : List Step) (b : Bool) (code : ℕ) → slice_get (if b then [] else steps) code ≡ Some step → (b ≡ false) × (slice_get steps code ≡ Some step)
all_offered step steps true code h = absurd (none_of step h)
all_offered step steps false code h = (refl, h)

pub end_remains : (here : Place) (n at copies : ℕ) (particles : List PlainParticle) (code : ℕ) → slice_get (element_steps here n at copies particles) code ≡ Some End → Remain copies particles []
end_remains here n at copies [] code h = refl
end_remains here n at copies (particle ∷ particles) code h =
    elim (get_either (map (element_step here n at copies particle) particle.members) (if nat_lt copies particle.least then [] else element_steps here n (at + 1) 0 particles) code End h) [
      | inl there ↦ absurd (no_end here n at copies particle particle.members there.0 there.1)
      | inr there ↦
          let open_still = all_offered End (element_steps here n (at + 1) 0 particles) (nat_lt copies particle.least) there.0 there.1 in
          skipped copies particle particles [] (ltb-false copies particle.least open_still.0) (divided_all particles [] (end_remains here n (at + 1) 0 particles there.0 open_still.1))
    ]

-- ---- an element

-- a step of a member that may stand next; what remains behind it remains behind this one
pub record Stems (here : Place) (n at copies : ℕ) (particles : List PlainParticle) (name kind : ℕ) (next : Place) : Type 0 where
  pub member : Member
  pub named : name ≡ member.name
  pub of_kind : kind ≡ member.kind
  pub same_kind : next.kind ≡ here.kind
  pub behind : next.attributes ≡ n
  pub passed : ℕ
  pub reached : next.particle ≡ at + passed
  pub may_pass : MayBePassed next.copies (drop passed particles)
  pub remain : (members : List Member) → Remain next.copies (drop passed particles) members → Remain copies particles (member ∷ members)

-- one more copy in front
at_most_one : (most : Option ℕ) (copies : ℕ) → leaves_room most (copies + 1) ≡ true → IsAtMost most (copies + 1)
at_most_one None copies h = tt
at_most_one (Some most) copies h = omega (arith, ltb-true (copies + 1) most h)

below_one : (most : Option ℕ) (copies : ℕ) → leaves_room most (copies + 1) ≡ true → IsBelow (copies + 1) most
below_one None copies h = tt
below_one (Some most) copies h = ltb-true (copies + 1) most h

at_most_same : (most : Option ℕ) (n m : ℕ) → n ≡ m → IsAtMost most n → IsAtMost most m
at_most_same most n m same h = subst (λ (k : ℕ). IsAtMost most k) same h

one_more : (copies : ℕ) (particle : PlainParticle) (member : Member) (members : List Member) → IsMemberOf particle member → copies < particle.profile → leaves_room particle.most (copies + 1) ≡ true → GoOn (copies + 1) particle members → GoOn copies particle (member ∷ members)
one_more copies particle member [] one accepted room h =
    record {
      own = (one, tt);
      least = omega (arith, h.least);
      most = λ some. at_most_same particle.most (copies + 1) (copies + length (member ∷ [])) (omega arith) (at_most_one particle.most copies room);
      profile = λ some. omega (arith, accepted);
    }
one_more copies particle member (m ∷ members) one accepted room h =
    record {
      own = (one, h.own);
      least = omega (arith, h.least);
      most = λ some. at_most_same particle.most (copies + 1 + length (m ∷ members)) (copies + length (member ∷ m ∷ members)) (omega arith) (h.most (omega arith));
      profile = λ some. omega (arith, h.profile (omega arith));
    }

-- the last copy
at_most_last : (least : ℕ) (most : Option ℕ) (copies : ℕ) → leaves_room most (copies + 1) ≡ false → IsBelow copies most → MostFits least most → IsAtMost most (copies + 1) × (least ≤ copies + 1)
at_most_last least None copies room below fits = let wrong : true ≡ false = room in absurd cc
at_most_last least (Some most) copies room below fits = (omega (arith, below), omega (arith, ltb-false (copies + 1) most room, fits.0))

last_one : (copies : ℕ) (particle : PlainParticle) (member : Member) → IsMemberOf particle member → copies < particle.profile → leaves_room particle.most (copies + 1) ≡ false → IsBelow copies particle.most → MostFits particle.least particle.most → GoOn copies particle (member ∷ [])
last_one copies particle member one accepted room below fits =
    let last = at_most_last particle.least particle.most copies room below fits in
    record {
      own = (one, tt);
      least = omega (arith, last.1);
      most = λ some. at_most_same particle.most (copies + 1) (copies + length (member ∷ [])) (omega arith) last.0;
      profile = λ some. omega (arith, accepted);
    }

behind_by : (room : Bool) (here : Place) (n at copies : ℕ) (particle : PlainParticle) (particles : List PlainParticle) (member : Member) (next : Place) → leaves_room particle.most (copies + 1) ≡ room → behind_copy here.kind n at copies particle.most ≡ next →
    IsMemberOf particle member → copies < particle.profile → IsBelow copies particle.most → AreSound (particle ∷ particles) → Stems here n at copies (particle ∷ particles) member.name member.kind next
behind_by true here n at copies particle particles member next room is one accepted below sound =
    let there : next ≡ record { kind = here.kind; particle = at; copies = copies + 1; attributes = n } =
    sym is ∙ ap (λ (b : Bool). if b then record { kind = here.kind; particle = at; copies = copies + 1; attributes = n } else record { kind = here.kind; particle = at + 1; copies = 0; attributes = n }) room in
    record {
      member = member;
      named = refl;
      of_kind = refl;
      same_kind = ap (λ (p : Place). p.kind) there;
      behind = ap (λ (p : Place). p.attributes) there;
      passed = 0;
      reached = ap (λ (p : Place). p.particle) there ∙ (let e : at ≡ at + 0 = omega arith in e);
      may_pass =
          subst (λ (c : ℕ). MayBePassed c (particle ∷ particles)) (sym (ap (λ (p : Place). p.copies) there)) (omega (arith, accepted), below_one particle.most copies room);
      remain = λ members left.
          let h = subst (λ (c : ℕ). Remain c (particle ∷ particles) members) (ap (λ (p : Place). p.copies) there) left in
          (member ∷ h.0, h.1, one_more copies particle member h.0 one accepted room h.2, h.3, ap (λ (ms : List Member). member ∷ ms) h.4);
    }
behind_by false here n at copies particle particles member next room is one accepted below sound =
    let there : next ≡ record { kind = here.kind; particle = at + 1; copies = 0; attributes = n } =
    sym is ∙ ap (λ (b : Bool). if b then record { kind = here.kind; particle = at; copies = copies + 1; attributes = n } else record { kind = here.kind; particle = at + 1; copies = 0; attributes = n }) room in
    record {
      member = member;
      named = refl;
      of_kind = refl;
      same_kind = ap (λ (p : Place). p.kind) there;
      behind = ap (λ (p : Place). p.attributes) there;
      passed = 1;
      reached = ap (λ (p : Place). p.particle) there;
      may_pass = subst (λ (c : ℕ). MayBePassed c particles) (sym (ap (λ (p : Place). p.copies) there)) (none_passed particles sound.1);
      remain = λ members left.
          let h = subst (λ (c : ℕ). Remain c particles members) (ap (λ (p : Place). p.copies) there) left in
          (member ∷ [], members, last_one copies particle member one accepted room below sound.0, divided_all particles members h, refl);
    }

-- what a step says of its member
pub record Says (here : Place) (n at copies : ℕ) (particle : PlainParticle) (member : Member) (name kind : ℕ) (next : Place) : Type 0 where
  pub named : name ≡ member.name
  pub of_kind : kind ≡ member.kind
  pub taken : member.standing ≡ Taken
  pub accepted : copies < particle.profile
  pub is_next : behind_copy here.kind n at copies particle.most ≡ next

says_by : (b : Bool) (here : Place) (n at copies : ℕ) (particle : PlainParticle) (member : Member) (name kind : ℕ) (next : Place) → nat_lt copies particle.profile ≡ b →
    Element member.name member.kind (if b then behind_copy here.kind n at copies particle.most else here) member.standing (not b) ≡ element name kind next → Says here n at copies particle member name kind next
says_by true here n at copies particle member name kind next is h =
    let a : member.name ≡ name = cc in
    let k : member.kind ≡ kind = cc in
    let p : behind_copy here.kind n at copies particle.most ≡ next = cc in
    let t : member.standing ≡ Taken = cc in
    record { named = sym a; of_kind = sym k; taken = t; accepted = ltb-true copies particle.profile is; is_next = p }
says_by false here n at copies particle member name kind next is h = let wrong : true ≡ false = cc in absurd cc

says : (here : Place) (n at copies : ℕ) (particle : PlainParticle) (member : Member) (name kind : ℕ) (next : Place) → element_step here n at copies particle member ≡ element name kind next → Says here n at copies particle member name kind next
says here n at copies particle member name kind next h = says_by (nat_lt copies particle.profile) here n at copies particle member name kind next refl h

pub element_stems : (here : Place) (n at copies : ℕ) (particles : List PlainParticle) (code name kind : ℕ) (next : Place) → slice_get (element_steps here n at copies particles) code ≡ Some (element name kind next) → AreSound particles → MayBePassed copies particles → Stems here n at copies particles name kind next
element_stems here n at copies [] zero name kind next h sound may = let wrong : End ≡ element name kind next = one_of (Some End) End (element name kind next) refl h in absurd cc
element_stems here n at copies [] (suc code) name kind next h sound may = absurd (none_of (element name kind next) h)
element_stems here n at copies (particle ∷ particles) code name kind next h sound may =
    elim (get_either (map (element_step here n at copies particle) particle.members) (if nat_lt copies particle.least then [] else element_steps here n (at + 1) 0 particles) code (element name kind next) h) [
      | inl there ↦
          let found = get_unmap (element_step here n at copies particle) particle.members there.0 (element name kind next) there.1 in
          let said = says here n at copies particle found.0 name kind next found.3 in
          let one : IsMemberOf particle found.0 = record { index = found.1; found = found.2; taken = said.taken } in
          let stems = behind_by (leaves_room particle.most (copies + 1)) here n at copies particle particles found.0 next refl said.is_next one said.accepted may.1 sound in
          record {
            member = stems.member;
            named = said.named ∙ stems.named;
            of_kind = said.of_kind ∙ stems.of_kind;
            same_kind = stems.same_kind;
            behind = stems.behind;
            passed = stems.passed;
            reached = stems.reached;
            may_pass = stems.may_pass;
            remain = stems.remain;
          }
      | inr there ↦
          let open_still = all_offered (element name kind next) (element_steps here n (at + 1) 0 particles) (nat_lt copies particle.least) there.0 there.1 in
          let rest = element_stems here n (at + 1) 0 particles there.0 name kind next open_still.1 sound.1 (none_passed particles sound.1) in
          record {
            member = rest.member;
            named = rest.named;
            of_kind = rest.of_kind;
            same_kind = rest.same_kind;
            behind = rest.behind;
            passed = suc rest.passed;
            reached = omega (arith, rest.reached);
            may_pass = rest.may_pass;
            remain = λ members left. skipped copies particle particles (rest.member ∷ members) (ltb-false copies particle.least open_still.0) (divided_all particles (rest.member ∷ members) (rest.remain members left));
          }
    ]

-- ---- an attribute

-- a step of an attribute that may stand next
pub record StemsFrom (here : Place) (at : ℕ) (attributes : List AttributeOf) (name kind : ℕ) (next : Place) : Type 0 where
  pub chosen : AttributeOf
  pub named : name ≡ chosen.name
  pub of_kind : kind ≡ chosen.kind
  pub passed : ℕ
  pub is_next : next ≡ record { kind = here.kind; particle = here.particle; copies = here.copies; attributes = at + passed + 1 }
  pub are_chosen : (others : List AttributeOf) → AreChosen (drop (suc passed) attributes) others → AreChosen attributes (chosen ∷ others)

attribute_open : (b : Bool) (here : Place) (at : ℕ) (attributes : List AttributeOf) (code : ℕ) (step : Step) → slice_get (attribute_steps here at (if b then [] else through_required attributes)) code ≡ Some step → (b ≡ false) × (slice_get (attribute_steps here at (through_required attributes)) code ≡ Some step)
attribute_open true here at attributes code step h = absurd (none_of step h)
attribute_open false here at attributes code step h = (refl, h)

pub attribute_stems : (here : Place) (at : ℕ) (attributes : List AttributeOf) (code name kind : ℕ) (next : Place) → slice_get (attribute_steps here at (through_required attributes)) code ≡ Some (Attribute name kind next) → StemsFrom here at attributes name kind next
attribute_stems here at [] code name kind next h = absurd (none_of (Attribute name kind next) h)
attribute_stems here at (attribute ∷ attributes) zero name kind next h =
    let same : attribute_step here at attribute ≡ Attribute name kind next = one_of (Some (attribute_step here at attribute)) (attribute_step here at attribute) (Attribute name kind next) refl h in
    let a : attribute.name ≡ name = cc in
    let k : attribute.kind ≡ kind = cc in
    let p : record { kind = here.kind; particle = here.particle; copies = here.copies; attributes = at + 1 } ≡ next = cc in
    record {
      chosen = attribute;
      named = sym a;
      of_kind = sym k;
      passed = 0;
      is_next = sym p ∙ ap (λ (m : ℕ). let there : Place = record { kind = here.kind; particle = here.particle; copies = here.copies; attributes = m } in there) (let e : at + 1 ≡ at + 0 + 1 = omega arith in e);
      are_chosen = λ others are. inr (others, refl, are);
    }
attribute_stems here at (attribute ∷ attributes) (suc code) name kind next h =
    let open_still = attribute_open (attribute.required) here (at + 1) attributes code (Attribute name kind next) h in
    let rest = attribute_stems here (at + 1) attributes code name kind next open_still.1 in
    record {
      chosen = rest.chosen;
      named = rest.named;
      of_kind = rest.of_kind;
      passed = suc rest.passed;
      is_next = rest.is_next ∙ ap (λ (m : ℕ). let there : Place = record { kind = here.kind; particle = here.particle; copies = here.copies; attributes = m } in there) (let e : at + 1 + rest.passed + 1 ≡ at + suc rest.passed + 1 = omega arith in e);
      are_chosen = λ others are. inl (open_still.0, rest.are_chosen others are);
    }
