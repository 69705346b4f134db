use Rattle.std.proofs.Common.{◌<◌, length, get_or, refl, arith}
use Rattle.std.proofs.lemmas.List.{get_or_default}
use Rattle.trace_audit.proofs.Seating.{pass_more, left_more}
use Rattle.trace_audit.proofs.seats.pass_all.Goals as goal

pub loop-i-init : goal.loop-i-init
loop-i-init g c = record { behind = λ j plan old new less h k l. absurd (omega (arith, less)); before = λ j d more. refl }

pub loop-i-preserved : goal.loop-i-preserved
loop-i-preserved g c =
    let i = c.loop-i.i in
    let inv = c.loop-i.invariant in
    let less : i < length c.loop-i.seats = omega (arith, c.loop-i-test.true, c.loop-i.auto.seats) in
    let within : i < length c.args.plans.now = omega (arith, c.loop-i-test.true, c.requires.count) in
    let own = get_or c.loop-i.seats i c.index-seats-i.result in
    record {
      behind = pass_more _ c.args.plans.now c.args.seats.now c.loop-i.seats i c.pass.new.self own c.index-plans-i.result c.args.entry.now c.args.shown less c.loop-i.auto.seats (within, c.index-plans-i.is) (get_or_default c.loop-i.seats i c.index-seats-i.result own less) (λ d. inv.before i d (omega arith)) c.pass.ensures inv.behind;
      before = left_more c.args.seats.now c.loop-i.seats i c.pass.new.self inv.before;
    }

pub returns : goal.returns
returns g c i plan old new h k l = c.loop-i.invariant.behind i plan old new (omega (arith, k.0, c.loop-i-test.false)) h k l
