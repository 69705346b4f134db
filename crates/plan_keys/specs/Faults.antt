-- Own: which fault of a text as a plan is told, and in which words: the first.
use Rattle.std.specs.Prelude.{◌≡◌, ℕ, ◌+◌, Bool, nat_lt, List, [], ◌∷◌, ◌++◌, length, codes, if◌then◌else◌, Option, Some, None, option_map, Result, Ok, Err, MatchResult, ◌⊎◌}
use Rattle.std.specs.List.{list_any}
use Rattle.std.specs.Option.{option_or}
use Rattle.std.specs.Ordering.{is_le, nat_cmp}
use Rattle.std.specs.Cmp.Lexicographic.{slice_cmp}
use Rattle.std.specs.Str.{bytes_eq, is_utf8}
use Rattle.toml.specs.Data.{Members, no_members, member}
use Rattle.toml.specs.Parse.{parse_document}
use Rattle.plan_keys.specs.declared.forms.Wrong.TheVariants as wrong
use Rattle.plan_keys.specs.declared.forms.Wrong.{Wrong}
use Rattle.plan_keys.specs.declared.fault.PlanFault.{PlanFault}
use Rattle.plan_keys.specs.declared.fault.PlanFault.TheVariants.{NotToml, Missing, BadValue, OverLimit, Memory}
use Rattle.plan_keys.specs.Keys.{on_some, Trouble, Asked}

-- a fault as it is told: a key is its place and what it has to say
abbrev pub fault_text : PlanFault → List ℕ
fault_text NotToml = codes "not a TOML document"
fault_text (Missing key) = key.0 ++ (codes " is missing, and must be " ++ key.1)
fault_text (BadValue key) = key.0 ++ codes " must be " ++ key.1
fault_text (OverLimit key) = key.0 ++ codes " must be " ++ key.1
fault_text Memory = codes "no memory"

abbrev pub fault_of : List ℕ × List ℕ → Wrong → PlanFault
fault_of key wrong.Missing = Missing key
fault_of key wrong.BadValue = BadValue key
fault_of key wrong.OverLimit = OverLimit key

-- the fault of a table at a place, by the first key that is wrong
abbrev pub told_at : List ℕ → Option Trouble → Option PlanFault
told_at prefix trouble = option_map (λ t. fault_of (prefix ++ t.name, t.wanted) t.wrong) trouble

-- the least unknown key of a table, byte by byte
abbrev pub is_known : List (List ℕ) → List ℕ → Bool
is_known known text = list_any (λ name. bytes_eq name text) known

abbrev pub lesser : List ℕ → Option (List ℕ) → List ℕ
lesser text None = text
lesser text (Some other) = if is_le (slice_cmp nat_cmp text other) then text else other

abbrev pub least_unknown : List (List ℕ) → Members → Option (List ℕ)
least_unknown known no_members = None
least_unknown known (member text d rest) =
    if is_known known text then least_unknown known rest else Some (lesser text (least_unknown known rest))

abbrev pub unknown_at : List ℕ → Asked → Option PlanFault
unknown_at prefix asked =
    option_map (λ text. BadValue (prefix ++ text, codes "left out, since there is no such key")) (least_unknown asked.names asked.members)

-- the first fault of the tables of a list, the first of which has this number
abbrev pub each_fault : (ℕ → Members → Option PlanFault) → ℕ → List Members → Option PlanFault
each_fault of_table number [] = None
each_fault of_table number (table ∷ rest) = option_or (of_table number table) (each_fault of_table (number + 1) rest)

-- ---- texts

-- the members of a text of at most 65,536 bytes that is UTF-8 and a TOML document
abbrev pub text_says : List ℕ → Result Members PlanFault
text_says text =
    if nat_lt 65536 (length text) then Err (OverLimit (codes "bytes", codes "at most 65536"))
    else if is_utf8 text then on_some (parse_document text) (λ table. Ok table) (Err NotToml) else Err NotToml

-- what is told of a text, where so much is told of a document's members
abbrev pub told : (Members → Option PlanFault) → Result Members PlanFault → Option PlanFault
told of_members (Ok table) = of_members table
told of_members (Err fault) = Some fault

-- a fault that is answered is what is told, or memory ran out
abbrev pub Tells : PlanFault → Option PlanFault → Type 0
Tells fault told = (fault ≡ Memory) ⊎ (told ≡ Some fault)

-- a fault is answered by what is told, and none where nothing is told
abbrev pub AnswersBy : {X : Type 0} → Option PlanFault → Result X PlanFault → Type 0
AnswersBy told result = MatchResult result (λ _. told ≡ None) (λ fault. Tells fault told)

-- a plan is answered of a text, of which nothing is told, or else a fault
abbrev pub IsPlanOf : {X : Type 0} → (Members → Option PlanFault) → (Members → X → Type 0) → List ℕ → X → Type 0
IsPlanOf of_members R text plan =
    (table : Members) × (text_says text ≡ Ok table) × (of_members table ≡ None) × R table plan
