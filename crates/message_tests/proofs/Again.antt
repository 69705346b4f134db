-- What was read can be written.
use Rattle.std.proofs.Common.{◌≡◌, ℕ, zero, suc, [], ◌∷◌, Option, Some, None, ap, sym, subst}
use Rattle.std.specs.Prelude.{slice_get}
use Rattle.exi_schema.specs.declared.tables.RootOf.{RootOf}
use Rattle.exi_documents.specs.Documents.{SpellsDocument}
use Rattle.exi_documents.specs.Trees.{Tree}
use Rattle.exi_documents.specs.Values.{WritesValue}
use Rattle.kind_laws.specs.Laws.{HasDocument}
use Rattle.kind_laws.proofs.Documents.{encoded_exactly, spelled_exactly}
use Rattle.message_parts.specs.Documents.{IsWritable}
use Rattle.parts_examples.specs.Declarations.{report_schema}

abbrev number_of : Option RootOf → ℕ
number_of None = 0
number_of (Some root) = root.number

-- the one root has the number 0
sole_number : (root : RootOf) (i : ℕ) (other : RootOf) → slice_get (root ∷ []) i ≡ Some other → other.number ≡ root.number
sole_number root zero other is = sym (ap number_of is)
sole_number root (suc i) other is = absurd cc

pub writable : (tree : Tree) → HasDocument report_schema tree → IsWritable report_schema 0 tree
writable tree document =
    let encoding = ((encoded_exactly report_schema tree).1 ((spelled_exactly report_schema tree).0 document)).encoding in
    let named = encoding.spelled.named in
    let number = sole_number _ named.0 _ named.1 in
    (encoding.bits, subst (λ (n : ℕ). SpellsDocument WritesValue report_schema n tree encoding.bits) number encoding.spelled)
