use Rattle.std.proofs.Common.{◌≡◌, ◌+◌, ◌^◌, ◌<◌, take}
use Rattle.schedules.specs.Plans.{least}
use Rattle.schedules.proofs.Growing.{Chosen}
use Rattle.schedules.proofs.rounds.extended.Given as goal

abbrev pub invariant-loop-at : goal.invariant-loop-at
invariant-loop-at l = record {
  low : l.low ≡ least l.first.watts (take l.at l.rest);
  fits : l.best.watts < 2 ^ 32;
  chosen : Chosen l.departure l.first l.rest l.behind (l.at + 1) l.best.watts l.best.energy l.best.steps l.best.place;
}
