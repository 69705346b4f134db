use Rattle.std.proofs.Common.{ap, Some}
use Rattle.exi_events.specs.Trees.{Content, Value}
use Rattle.message_parts.proofs.writer.put_content.Goals as goal

pub returns-clause-write : goal.returns-clause-write
returns-clause-write g c = λ F rest h. c.put_event.ensures.write F _ _ h (ap (λ (v : Value). Some (Content v)) c.as_value.ensures.value)
