use Rattle.std.proofs.Common.{◌≡◌, ◌<◌, length, sym, arith}
use Rattle.std.specs.Vec.{vec_len}
use Rattle.exi_tables.proofs.Reading.{IsAtParticles, attributes_there, at_particles, at_copies, at_row, particle_there, copies_there}
use Rattle.exi_tables.proofs.compiled.Rows.row.Goals as goal

pub index-by_particle-requires : goal.index-by_particle-requires
index-by_particle-requires g c =
    let s = g.D.Declared.schema in
    let table = c.index-table.result.now in
    let there : c.args.place.attributes < length table.by_attributes.items =
    attributes_there s c.args.place c.self.inside.kinds.items table c.requires (omega arith) c.self.invariant.0 c.index-table.ensures in
    let whole : length table.by_attributes.items ≡ vec_len table.by_attributes = sym table.by_attributes.ok.0 in
    omega (arith, there, whole)

pub index-by_copies-requires : goal.index-by_copies-requires
index-by_copies-requires g c =
    let s = g.D.Declared.schema in
    let at : IsAtParticles s c.args.place c.index-by_particle.result.now.items =
    at_particles s c.args.place c.self.inside.kinds.items c.index-table.result.now c.index-by_particle.result.now
    c.requires (omega arith) c.self.invariant.0 c.index-table.ensures c.index-by_particle.ensures in
    let there : c.args.place.particle < length c.index-by_particle.result.now.items = particle_there s c.args.place c.index-by_particle.result.now.items at in
    omega (arith, there)

pub index-requires : goal.index-requires
index-requires g c =
    let s = g.D.Declared.schema in
    let at : IsAtParticles s c.args.place c.index-by_particle.result.now.items =
    at_particles s c.args.place c.self.inside.kinds.items c.index-table.result.now c.index-by_particle.result.now
    c.requires (omega arith) c.self.invariant.0 c.index-table.ensures c.index-by_particle.ensures in
    let there : c.args.place.copies < length c.index-by_copies.result.now.items = copies_there s c.args.place c.index-by_copies.result.now.items
    (at_copies s c.args.place c.index-by_particle.result.now.items c.index-by_copies.result.now at c.index-by_copies.ensures) in
    omega (arith, there)

pub returns : goal.returns
returns g c =
    let s = g.D.Declared.schema in
    let at : IsAtParticles s c.args.place c.index-by_particle.result.now.items =
    at_particles s c.args.place c.self.inside.kinds.items c.index-table.result.now c.index-by_particle.result.now
    c.requires (omega arith) c.self.invariant.0 c.index-table.ensures c.index-by_particle.ensures in
    at_row s c.args.place c.index-by_copies.result.now.items c.index.result.now
    (at_copies s c.args.place c.index-by_particle.result.now.items c.index-by_copies.result.now at c.index-by_copies.ensures) c.index.ensures
