-- The bytes behind the last event of a document.
use Rattle.std.proofs.Common.{◌≡◌, ℕ, List, subst}
use Rattle.exi_bits.specs.Written.{HoldsBits}
use Rattle.exi_schema.specs.Schemas.{PlainSchema}
use Rattle.exi_writing.specs.Grammar.{Standing, Behind, stands, Reaches}
use Rattle.exi_writing.specs.Trees.{Event as TreeEvent}
use Rattle.exi_writing.specs.Values.{WritesValue}
use Rattle.document_laws.proofs.Told.{tell_trees}
use Rattle.exi_events.specs.Writer.{Draft, HasPut, IsWritten}

pub written_all : (s : PlainSchema) (draft : Draft) (bytes : List ℕ) (events : List TreeEvent) →
    HoldsBits bytes draft.bits → HasPut s events draft → draft.state.standing ≡ Behind → IsWritten s events bytes
written_all s draft bytes events holds put is =
    let P : Standing → Type 0 = λ st. Reaches WritesValue s events draft.bits (stands st draft.state.entries) in
    let behind : P Behind = subst P is put in
    let tells = (tell_trees WritesValue s).told events draft.bits draft.state.entries behind in
    (tells.0, tells.1, tells.2, record { number = tells.0; bits = draft.bits; pad = holds.pad; spelled = tells.3; few = holds.short; bits_are = holds.there })
