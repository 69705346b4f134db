-- Names in lists of names, no two of them the same.
use Rattle.std.proofs.Common.{rules, ◌≡◌, ℕ, List, [], ◌∷◌, ◌++◌, map, not, Some, None, if◌then◌else◌, Bool, true, false, refl, sym, ap, subst, ◌∙◌}
use Rattle.std.proofs.lemmas.Bool.{eqb-true}
use Rattle.std.specs.Prelude.{◌==◌, ◌&&◌, ◌||◌}
use Rattle.std.specs.List.{list_any}
use Rattle.exi_schema.specs.Schemas.{are_distinct, is_taken}
use Rattle.exi_schema.specs.declared.tables.Member.{Member}
use Rattle.message_parts.specs.Particles.{alternatives, kind_among}

-- ---- tests

pub same_number : (n : ℕ) → (n == n) ≡ true
same_number n = search rules

pub number_is : (m n : ℕ) → (m == n) ≡ true → m ≡ n
number_is m n is = eqb-true m n is

pub or_later : (a b : Bool) → b ≡ true → (a || b) ≡ true
or_later true b is = refl
or_later false b is = is

pub and_second : (a b : Bool) → (a && b) ≡ true → b ≡ true
and_second true b h = h
and_second false b h = absurd cc

pub and_first : (a b : Bool) → (a && b) ≡ true → a ≡ true
and_first true b h = refl
and_first false b h = absurd cc

pub not_both : (b : Bool) → not b ≡ true → b ≡ true → ⊥
not_both true h i = cc
not_both false h i = cc

pub is_false : (b : Bool) → (b ≡ true → ⊥) → b ≡ false
is_false true wrong = absurd (wrong refl)
is_false false wrong = refl

pub is_true : (b : Bool) → not b ≡ false → b ≡ true
is_true true is = refl
is_true false is = absurd cc

pub not_true : (b : Bool) → not b ≡ true → b ≡ false
not_true true is = absurd cc
not_true false is = refl

both_true : (a b : Bool) → a ≡ true → b ≡ true → (a && b) ≡ true
both_true true b x y = y
both_true false b x y = absurd cc

-- ---- names

abbrev pub has : ℕ → List ℕ → Bool
has m names = list_any (λ x. x == m) names

abbrev pub names : List Member → List ℕ
names members = map (λ (q : Member). q.name) members

in_front : (a b c : Bool) → (a || b) ≡ true → (b ≡ true → c ≡ true) → (a || c) ≡ true
in_front true b c is more = refl
in_front false b c is more = more is

has_front : (m : ℕ) (xs ys : List ℕ) → has m xs ≡ true → has m (xs ++ ys) ≡ true
has_front m [] ys is = absurd cc
has_front m (x ∷ xs) ys is = in_front (x == m) (has m xs) (has m (xs ++ ys)) is (has_front m xs ys)

pub has_back : (m : ℕ) (xs ys : List ℕ) → has m ys ≡ true → has m (xs ++ ys) ≡ true
has_back m [] ys is = is
has_back m (x ∷ xs) ys is = or_later (x == m) _ (has_back m xs ys is)

not_later : (b c : Bool) → not c ≡ true → (b ≡ true → c ≡ true) → not b ≡ true
not_later true c is more = absurd (not_both c is (more refl))
not_later false c is more = refl

pub distinct_front : (xs ys : List ℕ) → are_distinct (xs ++ ys) ≡ true → are_distinct xs ≡ true
distinct_front [] ys is = refl
distinct_front (x ∷ xs) ys is =
    both_true _ _ (not_later (has x xs) (has x (xs ++ ys)) (and_first _ _ is) (has_front x xs ys)) (distinct_front xs ys (and_second _ _ is))

pub later_distinct : (xs ys : List ℕ) → are_distinct (xs ++ ys) ≡ true → are_distinct ys ≡ true
later_distinct [] ys is = is
later_distinct (x ∷ xs) ys is = later_distinct xs ys (and_second (not (list_any (λ m. m == x) (xs ++ ys))) _ is)

or_cases : (a b : Bool) → (a || b) ≡ true → (a ≡ true → ⊥) → b ≡ true
or_cases true b is wrong = absurd (wrong refl)
or_cases false b is wrong = is

-- a name doesn't stand in both of two lists
pub not_in_both : (m : ℕ) (xs ys : List ℕ) → are_distinct (xs ++ ys) ≡ true → has m xs ≡ true → has m ys ≡ true → ⊥
not_in_both m [] ys apart one other = cc
not_in_both m (x ∷ xs) ys apart one other =
    not_in_both m xs ys (and_second _ _ apart)
    (or_cases (x == m) (has m xs) one (λ is. not_both (has x (xs ++ ys)) (and_first _ _ apart) (subst (λ (n : ℕ). has n (xs ++ ys) ≡ true) (sym (number_is x m is)) (has_back m xs ys other)))) other

-- ---- kinds of names

pub among_more : (t : Bool) (q : Member) (rest : List (ℕ × ℕ)) (m : ℕ) → (q.name == m) ≡ false → kind_among (if t then (q.name, q.kind) ∷ rest else rest) m ≡ kind_among rest m
among_more true q rest m other = ap (λ (b : Bool). if b then Some q.kind else kind_among rest m) other
among_more false q rest m other = refl

pub none_among : (m : ℕ) (members : List Member) → (has m (names members) ≡ true → ⊥) → kind_among (alternatives members) m ≡ None
none_among m [] absent = refl
none_among m (q ∷ members) absent =
    among_more (is_taken q.standing) q (alternatives members) m (is_false (q.name == m) (λ is. absent (ap (λ (b : Bool). b || has m (names members)) is)))
    ∙ none_among m members (λ found. absent (or_later (q.name == m) _ found))

has_by : (m k : ℕ) (members : List Member) (b : Bool) → has m (names members) ≡ b → kind_among (alternatives members) m ≡ Some k → has m (names members) ≡ true
has_by m k members true is among = is
has_by m k members false is among =
    let none = none_among m members (λ found. let wrong : true ≡ false = sym found ∙ is in absurd cc) in
    let both : None ≡ Some k = sym none ∙ among in absurd cc

pub among_has : (m k : ℕ) (members : List Member) → kind_among (alternatives members) m ≡ Some k → has m (names members) ≡ true
among_has m k members among = has_by m k members (has m (names members)) refl among
