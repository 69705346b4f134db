use Rattle.std.proofs.Common.{refl, []}
use Rattle.iso_schema.specs.Declarations.{kinds}
use Rattle.iso_schema.specs.Frame.{v2g_message}
use Rattle.iso_message.proofs.message.IsoMessageLargeRecord.read_here.Goals as goal

pub returns-clause-read : goal.returns-clause-read
returns-clause-read g c = λ F told h.
    let at_first = c.in_ok-first_child.ensures.read kinds F [] v2g_message _ h in
    let at_header = c.in_ok-self.ensures.read F [] v2g_message 0 _ at_first refl refl in
    c.in_ok-required_here.ensures.read F [] v2g_message 1 _ at_header refl refl
