-- What a text says as a document, and which tables a list in one has.
use Rattle.std.proofs.Common.{◌≡◌, ℕ, ◌≤◌, List, [], ◌∷◌, length, map, Some, None, Ok, Err, arith, refl, ap}
use Rattle.std.specs.Str.{IsUtf8}
use Rattle.std.proofs.lemmas.Str.{is_utf8-from_IsUtf8, IsUtf8-from_is_utf8}
use Rattle.toml.specs.Data.{Members}
use Rattle.toml.specs.Parse.{parse_document}
use Rattle.toml.specs.View.{items_view}
use Rattle.toml.specs.declared.value.Value.{Value}
use Rattle.plan_keys.specs.declared.fault.PlanFault.TheVariants.{NotToml}
use Rattle.plan_keys.specs.Keys.{tables_in, table_of}
use Rattle.plan_keys.specs.Faults.{text_says}

pub is_document : (text : List ℕ) (table : Members) → length text ≤ 65536 → IsUtf8 text × (parse_document text ≡ Some table) → text_says text ≡ Ok table
is_document text table short doc =
    let utf8 = is_utf8-from_IsUtf8 text doc.0 in
    grind arith

pub is_no_document : (text : List ℕ) → length text ≤ 65536 → (IsUtf8 text → parse_document text ≡ None) → text_says text ≡ Err NotToml
is_no_document text short none = grind (arith, IsUtf8-from_is_utf8 text, none)

pub tables_view : (vs : List Value) → tables_in (items_view vs) ≡ map table_of vs
tables_view [] = refl
tables_view (v ∷ vs) = ap (λ rest. table_of v ∷ rest) (tables_view vs)
