-- The lists of names that are awaited.
use Rattle.std.proofs.Common.{◌≡◌, ℕ, zero, suc, ◌+◌, ◌<◌, ◌≤◌, inl, inr, Bool, true, false, ◌&&◌, List, [], ◌∷◌, ◌++◌, length, take, Option, Some, None, slice_get, refl, sym, ap, ap₂, subst, ◌∙◌, append_assoc, arith, get_or, if◌then◌else◌}
use Rattle.std.specs.Prelude.{◌==◌}
use Rattle.std.specs.List.{AllByRecursion}
use Rattle.std.proofs.lemmas.List.{length-map}
use Rattle.std.proofs.Math.ListN.{get_or-map}
use Rattle.std.proofs.lemmas.Bool.Decides.{eqb_tells}
use Rattle.exi_schema.specs.Schemas.{PlainSchema, is_taken}
use Rattle.exi_schema.specs.declared.tables.Member.{Member}
use Rattle.exi_schema.specs.declared.tables.Particle.{Particle}
use Rattle.exi_schema.specs.Plain.{PlainParticle, plain_particle, plain_particles}
use Rattle.exi_schema.proofs.Conditions.{and-r}
use Rattle.value_text.specs.declared.awaited.Awaited.{Awaited}
use Rattle.dialect_text.specs.Dialect.{member_named, element_named, or_else, mark}
use Rattle.dialect_text.specs.Awaited.{IsAwaitedElement, HasMembers, HasElements}

-- ---- lists that grow

pub all_push : {X : Type 0} (P : X → Type 0) (xs : List X) (x : X) → AllByRecursion P xs → P x → AllByRecursion P (xs ++ x ∷ [])
all_push P [] x all is = (is, tt)
all_push P (y ∷ xs) x all is = (all.0, all_push P xs x all.1 is)

take_suc : {X : Type 0} (P : X → Type 0) (xs : List X) (i : ℕ) (d : X) → i < length xs → AllByRecursion P (take i xs) → P (get_or xs i d) → AllByRecursion P (take (suc i) xs)
take_suc P [] i d low all is = absurd (omega (arith, low))
take_suc P (y ∷ xs) zero d low all is = (is, tt)
take_suc P (y ∷ xs) (suc i) d low all is = (all.0, take_suc P xs i d (omega (arith, low)) all.1 is)

pub all_take : {X : Type 0} (P : X → Type 0) (xs : List X) (i : ℕ) (d : X) → i < length xs → AllByRecursion P (take i xs) → P (get_or xs i d) → AllByRecursion P (take (i + 1) xs)
all_take P xs i d low all is = let e : suc i ≡ i + 1 = omega arith in subst (λ (n : ℕ). AllByRecursion P (take n xs)) e (take_suc P xs i d low all is)

pub get_on : {X : Type 0} (xs ys : List X) (i : ℕ) (x : X) → slice_get xs i ≡ Some x → slice_get (xs ++ ys) i ≡ Some x
get_on [] ys i x at = let wrong : None ≡ Some x = at in absurd cc
get_on (y ∷ xs) ys zero x at = at
get_on (y ∷ xs) ys (suc i) x at = get_on xs ys i x at

pub get_last : {X : Type 0} (xs : List X) (x : X) → slice_get (xs ++ x ∷ []) (length xs) ≡ Some x
get_last [] x = refl
get_last (y ∷ xs) x = get_last xs x

-- ---- members

abbrev pub HasMember : PlainSchema → List PlainParticle → List Awaited → Member → Type 0
HasMember s particles awaited member =
    element_named particles member.name ≡ Some member.kind → (i : ℕ) × (slice_get awaited i ≡ Some (record { name = member.name; end = mark s member.kind }))

pub members_on : (s : PlainSchema) (particles : List PlainParticle) (members : List Member) (awaited more : List Awaited) → HasMembers s particles members awaited → HasMembers s particles members (awaited ++ more)
members_on s particles [] awaited more has = tt
members_on s particles (member ∷ members) awaited more has =
    ((λ is. let at = has.0 is in (at.0, get_on awaited more at.0 _ at.1)), members_on s particles members awaited more has.1)

pub each_on : (s : PlainSchema) (all particles : List PlainParticle) (awaited more : List Awaited) → AllByRecursion (λ p. HasMembers s all p.members awaited) particles → AllByRecursion (λ p. HasMembers s all p.members (awaited ++ more)) particles
each_on s all [] awaited more has = tt
each_on s all (p ∷ particles) awaited more has = (members_on s all p.members awaited more has.0, each_on s all particles awaited more has.1)

-- ---- the member of a name

abbrev pub IsMember : ℕ → ℕ → List Member → Type 0
IsMember name kind members = (j : ℕ) × (member : Member) × (slice_get members j ≡ Some member) × (member.name ≡ name) × (member.kind ≡ kind)

member_found : (members : List Member) (name kind : ℕ) → member_named members name ≡ Some kind → IsMember name kind members
member_found [] name kind is = let wrong : None ≡ Some kind = is in absurd cc
member_found (member ∷ members) name kind is = by (is_taken member.standing && member.name == name) refl (member_found members name kind) is
  where
    named : (a b : Bool) → b ≡ (member.name == name) → (a && b) ≡ true → member.name ≡ name
    named a b e both = elim (eqb_tells member.name name) [
      | inl tells ↦ tells.1
      | inr tells ↦ (let wrong : false ≡ true = sym tells.0 ∙ sym e ∙ and-r a b both in absurd cc)
    ]

    by : (b : Bool) → (is_taken member.standing && member.name == name) ≡ b → (member_named members name ≡ Some kind → IsMember name kind members) → (if b then Some member.kind else member_named members name) ≡ Some kind → IsMember name kind (member ∷ members)
    by true e later is =
        let same : Some member.kind ≡ Some kind = is in
        let one : member.kind ≡ kind = cc in
        (0, member, refl, named (is_taken member.standing) (member.name == name) refl e, one)
    by false e later is = let more = later is in (suc more.0, more.1, more.2, more.3, more.4)

abbrev pub IsElement : ℕ → ℕ → List PlainParticle → Type 0
IsElement name kind particles = (i : ℕ) × (particle : PlainParticle) × (slice_get particles i ≡ Some particle) × IsMember name kind particle.members

pub element_found : (particles : List PlainParticle) (name kind : ℕ) → element_named particles name ≡ Some kind → IsElement name kind particles
element_found [] name kind is = let wrong : None ≡ Some kind = is in absurd cc
element_found (particle ∷ particles) name kind is = by (member_named particle.members name) refl (element_found particles name kind) is
  where
    by : (o : Option ℕ) → member_named particle.members name ≡ o → (element_named particles name ≡ Some kind → IsElement name kind particles) → or_else o (element_named particles name) ≡ Some kind → IsElement name kind (particle ∷ particles)
    by (Some k) e later is = (0, particle, refl, member_found particle.members name kind (e ∙ is))
    by None e later is = let more = later is in (suc more.0, more.1, more.2, more.3)

pub all_get : {X : Type 0} (P : X → Type 0) (xs : List X) (i : ℕ) (x : X) → AllByRecursion P xs → slice_get xs i ≡ Some x → P x
all_get P [] i x all at = let wrong : None ≡ Some x = at in absurd cc
all_get P (y ∷ xs) zero x all at = let is : Some y ≡ Some x = at in let same : y ≡ x = cc in subst P same all.0
all_get P (y ∷ xs) (suc i) x all at = all_get P xs i x all.1 at

-- each element of the particles is among those awaited
pub elements_among : (s : PlainSchema) (particles : List PlainParticle) (awaited : List Awaited) → AllByRecursion (λ p. HasMembers s particles p.members awaited) particles → HasElements s particles awaited
elements_among s particles awaited has name kind is =
    let found = element_found particles name kind is in
    let members = all_get (λ (p : PlainParticle). HasMembers s particles p.members awaited) particles found.0 found.1 has found.2 in
    let one = all_get (HasMember s particles awaited) found.1.members found.3.0 found.3.1 members found.3.2 in
    let at = one (ap (λ (n : ℕ). element_named particles n) found.3.3 ∙ is ∙ ap (λ (k : ℕ). Some k) (sym found.3.4)) in
    (at.0, at.1 ∙ ap₂ (λ (n k : ℕ). Some (record { name = n; end = mark s k })) found.3.3 found.3.4)

pub each_taken : {X : Type 0} (P : X → Type 0) (xs : List X) → AllByRecursion P (take (length xs) xs) → AllByRecursion P xs
each_taken P [] all = tt
each_taken P (x ∷ xs) all = (all.0, each_taken P xs all.1)

-- ---- one more member

abbrev pub Awaits : PlainSchema → List PlainParticle → List Member → List Awaited → List Awaited → Type 0
Awaits s particles members first awaited =
    AllByRecursion (IsAwaitedElement s particles) awaited × HasMembers s particles members awaited × ((more : List Awaited) × (awaited ≡ first ++ more))

pub member_more : (s : PlainSchema) (particles : List PlainParticle) (members : List Member) (i kind m : ℕ) (d : Member) (first old new : List Awaited) (o : Option ℕ) → i < length members →
    o ≡ element_named particles (get_or members i d).name → o ≡ Some kind → kind ≡ (get_or members i d).kind → m ≡ mark s kind →
    new ≡ old ++ record { name = (get_or members i d).name; end = m } ∷ [] → Awaits s particles (take i members) first old → Awaits s particles (take (i + 1) members) first new
member_more s particles members i kind m d first old new o low named is same marked e p =
    let one : Awaited = record { name = (get_or members i d).name; end = m } in
    let here : element_named particles (get_or members i d).name ≡ Some kind = sym named ∙ is in
    let placed : slice_get (old ++ one ∷ []) (length old) ≡ Some (record { name = (get_or members i d).name; end = mark s (get_or members i d).kind }) =
    get_last old one ∙ ap (λ (k : ℕ). Some (record { name = (get_or members i d).name; end = k })) (marked ∙ ap (λ (k : ℕ). mark s k) same) in
    subst (λ (xs : List Awaited). Awaits s particles (take (i + 1) members) first xs) (sym e) (
      all_push (IsAwaitedElement s particles) old one p.0 (kind, here, marked),
      all_take (HasMember s particles (old ++ one ∷ [])) members i d low (members_on s particles (take i members) old (one ∷ []) p.1) (λ h. (length old, placed)),
      (p.2.0 ++ one ∷ [], ap (λ (xs : List Awaited). xs ++ one ∷ []) p.2.1 ∙ append_assoc first p.2.0 (one ∷ [])),
    )

-- ---- one more particle

pub particle_more : (s : PlainSchema) (particles : List PlainParticle) (i : ℕ) (d : PlainParticle) (old new : List Awaited) → i < length particles → AllByRecursion (IsAwaitedElement s particles) new →
    HasMembers s particles (get_or particles i d).members new → ((more : List Awaited) × (new ≡ old ++ more)) → AllByRecursion (λ p. HasMembers s particles p.members old) (take i particles) →
    AllByRecursion (IsAwaitedElement s particles) new × AllByRecursion (λ p. HasMembers s particles p.members new) (take (i + 1) particles)
particle_more s particles i d old new low only has kept before = (
  only,
  all_take (λ p. HasMembers s particles p.members new) particles i d low
      (subst (λ (xs : List Awaited). AllByRecursion (λ p. HasMembers s particles p.members xs) (take i particles)) (sym kept.1) (each_on s particles (take i particles) old kept.0 before)) has,
)

-- and of a table of particles
pub table_more : (s : PlainSchema) (particles : List Particle) (i : ℕ) (d : Particle) (old new : List Awaited) → i < length particles → AllByRecursion (IsAwaitedElement s (plain_particles particles)) new →
    HasMembers s (plain_particles particles) (get_or particles i d).members.now new → ((more : List Awaited) × (new ≡ old ++ more)) →
    AllByRecursion (λ p. HasMembers s (plain_particles particles) p.members old) (take i (plain_particles particles)) →
    AllByRecursion (IsAwaitedElement s (plain_particles particles)) new × AllByRecursion (λ p. HasMembers s (plain_particles particles) p.members new) (take (i + 1) (plain_particles particles))
table_more s particles i d old new low only has kept before =
    particle_more s (plain_particles particles) i (plain_particle d) old new (rw length-map low) only
    (subst (λ (p : PlainParticle). HasMembers s (plain_particles particles) p.members new) (sym (get_or-map plain_particle particles i d)) has) kept before

-- the members of a particle
pub members_at : (n : ℕ) (particles : List Particle) (i : ℕ) (d : Particle) → i < length particles →
    AllByRecursion (λ (p : PlainParticle). AllByRecursion (λ (m : Member). m.kind < n) p.members) (plain_particles particles) → AllByRecursion (λ (m : Member). m.kind < n) (get_or particles i d).members.now
members_at n [] i d low all = absurd (omega (arith, low))
members_at n (p ∷ particles) zero d low all = all.0
members_at n (p ∷ particles) (suc i) d low all = members_at n particles i d (omega (arith, low)) all.1

pub all_done : {X : Type 0} (P : X → Type 0) (xs : List X) (i : ℕ) → i ≤ length xs → (i < length xs → ⊥) → AllByRecursion P (take i xs) → AllByRecursion P xs
all_done P xs i within done all = let e : i ≡ length xs = omega (arith, within, done) in each_taken P xs (subst (λ (n : ℕ). AllByRecursion P (take n xs)) e all)
