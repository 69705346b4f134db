-- A member of a group that is none of some is one of the rest, and what holds of it as it is read.
use Rattle.std.proofs.Common.{◌≡◌, ℕ, List, [], ◌∷◌, ◌++◌, Option, Some, None, Result, Ok, Err, IfOk, if◌then◌else◌, Bool, true, false, refl, sym, ap, ◌∙◌, subst}
use Rattle.std.specs.Prelude.{◌==◌}
use Rattle.std.specs.Result.{IsOkAnd, MatchResult}
use Rattle.exi_events.specs.Trees.{Event}
use Rattle.exi_schema.specs.Plain.{PlainKind}
use Rattle.message_parts.specs.Particles.{kind_among}
use Rattle.message_parts.specs.Reading.{Frame, Seen, IsChosen}
use Rattle.message_parts.proofs.Distinct.{number_is}

-- the child is none of these
abbrev pub IsOther : List (ℕ × ℕ) → Option ℕ → Type 0
IsOther [] child = Unit {0}
IsOther (a ∷ more) child = (child ≡ Some a.0 → ⊥) × IsOther more child

-- ---- the last of several, where no other is left

last_by : (a : ℕ × ℕ) (m k : ℕ) (t : Bool) → (a.0 == m) ≡ t → (if t then Some a.1 else None) ≡ Some k → m ≡ a.0
last_by a m k true test is = sym (number_is a.0 m test)
last_by a m k false test is = absurd cc

other_by : (a : ℕ × ℕ) (more : List (ℕ × ℕ)) (m k : ℕ) (child : Option ℕ) (t : Bool) → (a.0 == m) ≡ t → child ≡ Some m → (if t then Some a.1 else kind_among more m) ≡ Some k → (child ≡ Some a.0 → ⊥) → kind_among more m ≡ Some k
other_by a more m k child true test here is other = absurd (other (here ∙ ap (λ (n : ℕ). Some n) (sym (number_is a.0 m test))))
other_by a more m k child false test here is other = is

pub only_last : (front : List (ℕ × ℕ)) (last : ℕ × ℕ) (child : Option ℕ) (m k : ℕ) → child ≡ Some m → kind_among (front ++ last ∷ []) m ≡ Some k → IsOther front child → child ≡ Some last.0
only_last [] last child m k here is others = here ∙ ap (λ (n : ℕ). Some n) (last_by last m k (last.0 == m) refl is)
only_last (a ∷ front) last child m k here is others =
    only_last front last child m k here (other_by a (front ++ last ∷ []) m k child (a.0 == m) refl here is others.0) others.1

-- ---- the rest of several, where the child is none of some

abbrev pub is_named : List (ℕ × ℕ) → ℕ → Bool
is_named [] name = false
is_named (a ∷ more) name = if a.0 == name then true else is_named more name

abbrev pub rest_of : List (ℕ × ℕ) → List (ℕ × ℕ) → List (ℕ × ℕ)
rest_of apart [] = []
rest_of apart (a ∷ more) = if is_named apart a.0 then rest_of apart more else (a ∷ rest_of apart more)

-- the child is none that is named
unnamed_by : (a : ℕ × ℕ) (name : ℕ) (more : Bool) (child : Option ℕ) (test : Bool) → (a.0 == name) ≡ test → child ≡ Some name
    → (child ≡ Some a.0 → ⊥) → (more ≡ true → ⊥) → (if test then true else more) ≡ true → ⊥
unnamed_by a name more child true test here other left is = other (here ∙ ap (λ (n : ℕ). Some n) (sym (number_is a.0 name test)))
unnamed_by a name more child false test here other left is = left is

unnamed : (apart : List (ℕ × ℕ)) (child : Option ℕ) (name : ℕ) → child ≡ Some name → IsOther apart child → is_named apart name ≡ true → ⊥
unnamed [] child name here others is = absurd cc
unnamed (a ∷ more) child name here others is =
    unnamed_by a name (is_named more name) child (a.0 == name) refl here others.0 (unnamed more child name here others.1) is

-- one more member, which is apart or is the child or is neither
rest_by : (a : ℕ × ℕ) (rest : List (ℕ × ℕ)) (name kind : ℕ) (more : Option ℕ) (apart test : Bool) → (a.0 == name) ≡ test
    → (apart ≡ true → a.0 ≡ name → ⊥) → (more ≡ Some kind → kind_among rest name ≡ Some kind)
    → (if test then Some a.1 else more) ≡ Some kind → kind_among (if apart then rest else (a ∷ rest)) name ≡ Some kind
rest_by a rest name kind more true true test none left is = absurd (none refl (number_is a.0 name test))
rest_by a rest name kind more true false test none left is = left is
rest_by a rest name kind more false true test none left is =
    subst (λ (t : Bool). (if t then Some a.1 else kind_among rest name) ≡ Some kind) (sym test) is
rest_by a rest name kind more false false test none left is =
    subst (λ (t : Bool). (if t then Some a.1 else kind_among rest name) ≡ Some kind) (sym test) (left is)

among_rest : (apart all : List (ℕ × ℕ)) (child : Option ℕ) (name kind : ℕ) → child ≡ Some name → IsOther apart child
    → kind_among all name ≡ Some kind → kind_among (rest_of apart all) name ≡ Some kind
among_rest apart [] child name kind here others is = is
among_rest apart (a ∷ more) child name kind here others is =
    rest_by a (rest_of apart more) name kind (kind_among more name) (is_named apart a.0) (a.0 == name) refl
    (λ named same. unnamed apart child a.0 (here ∙ ap (λ (n : ℕ). Some n) (sym same)) others named)
    (among_rest apart more child name kind here others) is

pub chosen_rest : (ks : List PlainKind) (F : Frame) (all apart : List (ℕ × ℕ)) (told : List Event) (d : Seen) → IsChosen ks F all told d
    → IsOther apart d.child → IsChosen ks F (rest_of apart all) told d
chosen_rest ks F all apart told d is others = record {
  kind = is.kind;
  here = is.here;
  among = among_rest apart all d.child F.name is.kind is.here others is.among;
  enters = is.enters;
}

-- ---- a member as one of its group

-- what holds of a value that was read holds of what it is mapped to
pub mapped : {T U E : Type 0} (f : T → U) (r : Result T E) (s : Result U E) (P : T → Type 0) (Q : U → Type 0) → MatchResult r (λ x. IsOkAnd s (λ y. y ≡ f x)) (λ e. s ≡ Err e) → IfOk r P → ((x : T) → P x → Q (f x)) → IfOk s Q
mapped f (Ok x) (Ok y) P Q c p holds = subst Q (sym c) (holds x p)
mapped f (Ok x) (Err e) P Q c p holds = tt
mapped f (Err e) s P Q c p holds = subst (λ t. IfOk t Q) (sym c) tt
