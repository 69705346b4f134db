use Rattle.exi_schema.specs.Plain.{plain_particles}
use Rattle.exi_schema.specs.Told.{schema_of}
use Rattle.dialect_text.proofs.Awaiting.{member_more}
use Rattle.dialect_text.proofs.names.await_members.Goals as goal

pub loop-member-preserved : goal.loop-member-preserved
loop-member-preserved c =
    member_more (schema_of c.args.schema.now) (plain_particles c.args.particles.now) c.args.members.now c.loop-member.member-index c.in-Some.kind _ _ c.args.awaited.now.items c.loop-member.awaited.items c.push.new.self.items _
    c.loop-member-test.true c.kind_of_element.ensures c.in-Some.is c.if-kind-member.false c.mark_behind.ensures c.in_ok-push.ensures.items c.loop-member.invariant
