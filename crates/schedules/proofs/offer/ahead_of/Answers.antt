use Rattle.std.proofs.Common.{◌≡◌, ℕ, ◌+◌, ◌-◌, List, [], ◌∷◌, ◌++◌, length, take, get_or, sym, ap, ◌∙◌, arith}
use Rattle.std.proofs.lemmas.List.{append-nil, take_all}
use Rattle.schedules.specs.declared.power.Step.{Step}
use Rattle.schedules.specs.Turning.{ahead, ahead_one}
use Rattle.schedules.proofs.Turned.{ahead_more, ahead_in, ahead_out}
use Rattle.schedules.proofs.offer.ahead_of.Goals as goal
use Rattle.schedules.proofs.offer.ahead_of.Goals.{then-step-moment, else-step-moment}

pub loop-step-preserved : goal.loop-step-preserved
loop-step-preserved c =
    let i : ℕ = c.loop-step.step-index in
    let item : Step = get_or c.args.calendar.now i (record { start = 0; watts = 0 }) in
    let front : List Step = ahead c.args.moment (take i c.args.calendar.now) in
    let more : ahead c.args.moment (take (i + 1) c.args.calendar.now) ≡ front ++ ahead_one c.args.moment item =
    ahead_more c.args.moment c.args.calendar.now i (record { start = 0; watts = 0 }) c.loop-step-test.true in
    elim c.if-step-moment.branch [
      | then-step-moment w ↦
          let here : ahead_one c.args.moment item ≡ record { start = item.start - c.args.moment; watts = item.watts } ∷ [] = ahead_in c.args.moment item w.if-step-moment.true in
          let long : length c.if-step-moment.found.items ≡ length w.push.new.self.items = cc in
          record { items = cc; few = omega (arith, c.loop-step.invariant.few, w.push.ensures.len, long) }
      | else-step-moment w ↦
          let none : ahead_one c.args.moment item ≡ [] = ahead_out c.args.moment item w.if-step-moment.false in
          let same : front ++ [] ≡ front = append-nil front in
          let long : length c.if-step-moment.found.items ≡ length c.loop-step.found.items = cc in
          record { items = cc; few = omega (arith, c.loop-step.invariant.few, long) }
    ]

pub returns : goal.returns
returns c = c.loop-step.invariant.items ∙ ap (ahead c.args.moment) (take_all c.loop-step.step-index c.args.calendar.now c.loop-step-test.false)
