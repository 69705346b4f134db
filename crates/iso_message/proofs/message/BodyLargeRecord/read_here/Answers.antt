use Rattle.std.proofs.Common.{refl, []}
use Rattle.iso_schema.specs.Declarations.{kinds}
use Rattle.iso_schema.specs.Frame.{body}
use Rattle.iso_message.proofs.message.BodyLargeRecord.read_here.Goals as goal

pub returns-clause-read : goal.returns-clause-read
returns-clause-read g c = λ F told h.
    let at_first = c.in_ok-first_child.ensures.read kinds F [] body _ h in
    c.in_ok-optional_choice_here.ensures.read F [] body 0 _ at_first refl refl
