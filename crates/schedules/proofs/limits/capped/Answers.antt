use Rattle.std.proofs.Common.{◌≡◌, ℕ, length, List, [], ◌∷◌, ◌++◌, min, get_or, take, ◌+◌, arith}
use Rattle.std.proofs.lemmas.List.{append-nil}
use Rattle.schedules.specs.declared.power.Step.{Step}
use Rattle.schedules.proofs.Kept.{kept_more, kept_here, kept_not}
use Rattle.schedules.specs.Limits.{kept, kept_one}
use Rattle.schedules.proofs.limits.capped.Goals as goal
use Rattle.schedules.proofs.limits.capped.Goals.{then-entry-end, else-entry-end}

pub loop-entry-preserved : goal.loop-entry-preserved
loop-entry-preserved c =
    let i : ℕ = c.loop-entry.entry-index in
    let item : Step = get_or c.args.entries.now i (record { start = 0; watts = 0 }) in
    let front : List Step = kept c.args.cap c.args.end (take i c.args.entries.now) in
    let more : kept c.args.cap c.args.end (take (i + 1) c.args.entries.now) ≡ front ++ kept_one c.args.cap c.args.end item =
    kept_more c.args.cap c.args.end c.args.entries.now i (record { start = 0; watts = 0 }) c.loop-entry-test.true in
    elim c.if-entry-end.branch [
      | then-entry-end w ↦
          let here : kept_one c.args.cap c.args.end item ≡ record { start = item.start; watts = min c.args.cap item.watts } ∷ [] = kept_here c.args.cap c.args.end item w.if-entry-end.true in
          let long : length c.if-entry-end.limits.items ≡ length w.push.new.self.items = cc in
          record { kept = cc; few = omega (arith, c.loop-entry.invariant.few, w.push.ensures.len, long) }
      | else-entry-end w ↦
          let none : kept_one c.args.cap c.args.end item ≡ [] = kept_not c.args.cap c.args.end item w.if-entry-end.false in
          let same : front ++ [] ≡ front = append-nil front in
          let long : length c.if-entry-end.limits.items ≡ length c.loop-entry.limits.items = cc in
          record { kept = cc; few = omega (arith, c.loop-entry.invariant.few, long) }
    ]
