-- What was read can be written, and so can each message whose parts hold what is declared.
use Rattle.std.proofs.Common.{◌≡◌, ℕ, zero, suc, List, [], ◌∷◌, Option, Some, None, refl, ap, sym, subst}
use Rattle.std.specs.Prelude.{slice_get}
use Rattle.exi_schema.specs.declared.tables.RootOf.{RootOf}
use Rattle.exi_documents.specs.Documents.{SpellsDocument}
use Rattle.exi_documents.specs.Trees.{Tree}
use Rattle.exi_documents.specs.Values.{WritesValue}
use Rattle.kind_laws.specs.Laws.{IsOfSchema}
use Rattle.kind_laws.proofs.Documents.{encoded_exactly, spelled_exactly}
use Rattle.message_parts.specs.Documents.{IsWritable}
use Rattle.fitting_parts.proofs.Few.{few_texts}
use Rattle.fitting_parts.proofs.Fitted.{holding_held, root_fits}
use Rattle.iso_schema.specs.declared.kinds.TheConstants.{V2G_MESSAGE_KIND}
use Rattle.iso_schema.specs.declared.names.TheConstants.{V2G_MESSAGE}
use Rattle.iso_schema.specs.Declarations.{kinds, schema}
use Rattle.iso_schema.specs.Frame.{v2g_message}
use Rattle.iso_message.specs.Message.{iso_message_parts}
use Rattle.iso_message.specs.declared.message.IsoMessage.{IsoMessage}
use Rattle.iso_message.specs.Documents.{iso_inside, iso_tree, IsIso, IsIsoMessage, IsWithin}

abbrev number_of : Option RootOf → ℕ
number_of None = 0
number_of (Some root) = root.number

-- the one root has one number
sole_number : (root : RootOf) (i : ℕ) (other : RootOf) → slice_get (root ∷ []) i ≡ Some other → other.number ≡ root.number
sole_number root zero other is = sym (ap number_of is)
sole_number root (suc i) other is = absurd cc

written : (tree : Tree) → IsOfSchema schema tree → IsWritable schema 76 tree
written tree fits =
    let encoding = ((encoded_exactly schema tree).1 fits).encoding in
    let named = encoding.spelled.named in
    let number = sole_number _ named.0 _ named.1 in
    (encoding.bits, subst (λ (n : ℕ). SpellsDocument WritesValue schema n tree encoding.bits) number encoding.spelled)

pub of_parts : (m : IsoMessage) → IsWithin m → IsIsoMessage m
of_parts m is =
    let held = holding_held kinds V2G_MESSAGE_KIND [] v2g_message [] (iso_message_parts m) refl tt is in
    let fits = root_fits schema 0 (record { number = 76; name = V2G_MESSAGE; kind = V2G_MESSAGE_KIND }) (iso_inside m) refl held in
    written (iso_tree m) (fits, few_texts schema (iso_tree m) refl fits)

pub of_payload : (m : IsoMessage) (payload : List ℕ) → IsIso m payload → IsIsoMessage m
of_payload m payload document =
    written (iso_tree m) ((spelled_exactly schema (iso_tree m)).0 (record { payload = payload; document = document }))
