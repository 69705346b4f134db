-- The first unknown key of a table is the least, since the keys ascend.
use Rattle.std.proofs.Common.{◌≡◌, ℕ, List, [], ◌∷◌, String, Global, Less, string_bytes, refl, arith}
use Rattle.std.specs.List.{AllByRecursion}
use Rattle.std.specs.List.Sorted.{IsStrictlySortedBy}
use Rattle.std.specs.Map.{keys_of}
use Rattle.std.specs.String.{string_cmp}
use Rattle.toml.specs.View.{members_view}
use Rattle.toml.specs.declared.value.Value.{Value}
use Rattle.plan_keys.specs.Faults.{lesser, least_unknown}

least_behind : (known : List (List ℕ)) (k : String Global) (es : List (String Global × Value)) → AllByRecursion (λ y. string_cmp k y ≡ Less) (keys_of es)
    → lesser (string_bytes k) (least_unknown known (members_view es)) ≡ string_bytes k
least_behind known k [] h = refl
least_behind known k (e ∷ es) h = let rest = least_behind known k es h.1 in grind arith

-- each key is not above the unknown ones behind it
abbrev pub FirstIsLeast : List (List ℕ) → List (String Global × Value) → Type 0
FirstIsLeast known [] = Unit {0}
FirstIsLeast known (e ∷ es) = (lesser (string_bytes e.0) (least_unknown known (members_view es)) ≡ string_bytes e.0) × FirstIsLeast known es

pub first_is_least : (known : List (List ℕ)) (es : List (String Global × Value)) → IsStrictlySortedBy string_cmp (keys_of es) → FirstIsLeast known es
unfolding IsStrictlySortedBy
first_is_least known [] h = tt
first_is_least known (e ∷ es) h = (least_behind known e.0 es h.0, first_is_least known es h.1)
