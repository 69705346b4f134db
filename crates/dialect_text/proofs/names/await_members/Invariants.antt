use Rattle.std.proofs.Common.{◌≡◌, List, ◌++◌, take}
use Rattle.std.specs.List.{AllByRecursion}
use Rattle.exi_schema.specs.Plain.{plain_particles}
use Rattle.exi_schema.specs.Told.{schema_of}
use Rattle.dialect_text.specs.Awaited.{IsAwaitedElement, HasMembers}
use Rattle.dialect_text.proofs.names.await_members.Given as goal

abbrev pub invariant-loop-member : goal.invariant-loop-member
invariant-loop-member l =
    AllByRecursion (IsAwaitedElement (schema_of l.schema) (plain_particles l.particles)) l.awaited.items
    × HasMembers (schema_of l.schema) (plain_particles l.particles) (take l.member-index l.members) l.awaited.items
    × ((more : List _) × (l.awaited.items ≡ l.initial.awaited.items ++ more))
