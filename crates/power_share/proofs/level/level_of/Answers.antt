use Rattle.std.proofs.Common.{◌-◌, ◌/◌, arith}
use Rattle.power_share.proofs.Levels.{none_bearable, lower}
use Rattle.power_share.proofs.level.level_of.Goals as goal

pub loop-low-init : goal.loop-low-init
loop-low-init c = record {
  bearable = none_bearable c.args.limit c.args.asks.now;
  ordered = omega arith;
  asked = omega arith;
  greatest = λ m h. omega (arith, h.asked);
}

pub loop-low-preserved-then-taken-from : goal.loop-low-preserved-then-taken-from
loop-low-preserved-then-taken-from c = record {
  bearable = record { asked = omega arith; borne = omega arith };
  ordered = omega arith;
  asked = c.loop-low.invariant.asked;
  greatest = c.loop-low.invariant.greatest;
}

pub loop-low-preserved : goal.loop-low-preserved
loop-low-preserved c = record {
  bearable = c.loop-low.invariant.bearable;
  ordered = omega arith;
  asked = omega arith;
  greatest = λ m h. omega (arith, lower c.args.limit c.args.asks.now (c.loop-low.high - (c.loop-low.high - c.loop-low.low) / 2) (omega arith) m h);
}
