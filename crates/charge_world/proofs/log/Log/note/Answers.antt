use Rattle.std.proofs.Common.{ℕ, List, length, refl, ap}
use Rattle.charge_world.specs.Fakes.{Logged, Roomy}
use Rattle.charge_world.specs.declared.log.Kept.{Kept}
use Rattle.charge_world.proofs.Logged.{grows}
use Rattle.charge_world.proofs.log.Log.note.Goals as goal

pub returns-clause-grows : goal.returns-clause-grows
returns-clause-grows c =
    let was = ap (λ (l : Logged). l.past) c.self.view_is in
    let extended = ap (λ (r : Roomy ℕ). r.items) c.extend.ensures in
    let pushed = ap (λ (r : Roomy Kept). r.items) c.push.ensures in
    let from = ap (λ (xs : List ℕ). length xs) c.items-from.ensures in
    grows c.args.self.now.past c.self.inside.full c.self.inside.bytes.items c.args.bytes.now c.extend.new.self.items c.self.inside.kept.items c.push.new.self.items _ was c.if-self.false extended pushed from refl c.self.invariant
