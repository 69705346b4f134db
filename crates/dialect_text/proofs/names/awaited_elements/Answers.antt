use Rattle.std.proofs.Common.{length, arith}
use Rattle.std.proofs.lemmas.List.{length-map}
use Rattle.exi_schema.specs.Plain.{plain_particles}
use Rattle.exi_schema.specs.Told.{schema_of}
use Rattle.dialect_text.proofs.Awaiting.{table_more, members_at, elements_among, all_done}
use Rattle.dialect_text.proofs.names.awaited_elements.Goals as goal

pub await_members-requires-clause-kinds : goal.await_members-requires-clause-kinds
await_members-requires-clause-kinds c =
    members_at (length (schema_of c.args.schema.now).kinds) c.args.particles.now c.loop-particle.particle-index _ c.loop-particle-test.true c.requires.kinds

pub loop-particle-preserved : goal.loop-particle-preserved
loop-particle-preserved c =
    table_more (schema_of c.args.schema.now) c.args.particles.now c.loop-particle.particle-index _ c.loop-particle.awaited.items c.await_members.new.awaited.items
    c.loop-particle-test.true c.in_ok-await_members.ensures.only c.in_ok-await_members.ensures.each c.in_ok-await_members.ensures.kept c.loop-particle.invariant.1

pub returns-clause-each : goal.returns-clause-each
returns-clause-each c =
    elements_among (schema_of c.args.schema.now) (plain_particles c.args.particles.now) c.loop-particle.awaited.items
    (all_done _ (plain_particles c.args.particles.now) c.loop-particle.particle-index (rw length-map (omega arith)) (λ low. let less = rw length-map at low in omega (arith, less)) c.loop-particle.invariant.1)
