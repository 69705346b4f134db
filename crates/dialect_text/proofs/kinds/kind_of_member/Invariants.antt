use Rattle.std.proofs.Common.{◌≡◌, drop}
use Rattle.dialect_text.specs.Dialect.{member_named}
use Rattle.dialect_text.proofs.kinds.kind_of_member.Given as goal

abbrev pub invariant-loop-member : goal.invariant-loop-member
invariant-loop-member l = member_named (drop l.member-index l.members) l.name ≡ member_named l.members l.name
