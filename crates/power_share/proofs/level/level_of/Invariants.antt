use Rattle.std.proofs.Common.{◌-◌, ◌≤◌, ℕ}
use Rattle.power_share.specs.Sharing.{greatest_ask, IsBearable}
use Rattle.power_share.proofs.level.level_of.Given as goal

abbrev pub invariant-loop-low : goal.invariant-loop-low
invariant-loop-low l = record {
  bearable : IsBearable l.limit l.asks l.low;
  ordered : l.low ≤ l.high;
  asked : l.high ≤ greatest_ask l.asks;
  greatest : (m : ℕ) → IsBearable l.limit l.asks m → m ≤ l.high;
}

abbrev pub decreases-loop-low : goal.decreases-loop-low
decreases-loop-low l = l.high - l.low
