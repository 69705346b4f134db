use Rattle.std.proofs.Common.{◌≡◌, ℕ, ◌+◌, ◌-◌, List, [], ◌∷◌, ◌++◌, length, take, get_or, sym, ap, ◌∙◌, arith}
use Rattle.std.proofs.lemmas.List.{append-nil, append_assoc, length-append, take_all}
use Rattle.schedules.specs.declared.power.Step.{Step}
use Rattle.schedules.specs.Turning.{ahead, past, past_one}
use Rattle.schedules.proofs.Turned.{past_more, past_in, past_out, past_room, step_of}
use Rattle.schedules.proofs.offer.turned.Goals as goal
use Rattle.schedules.proofs.offer.turned.Goals.{then-step-moment, else-step-moment}

pub push-requires : goal.push-requires
push-requires c =
    let i : ℕ = c.loop-step.step-index in (
      omega arith,
      omega (
        arith,
        past_room c.args.moment c.args.calendar.now i (record { start = 0; watts = 0 }) c.loop-step-test.true c.if-step-moment.true,
        ap length c.loop-step.invariant,
        length-append (ahead c.args.moment c.args.calendar.now) (past c.args.moment (take i c.args.calendar.now)),
        c.requires.few,
      ),
    )

pub loop-step-preserved : goal.loop-step-preserved
loop-step-preserved c =
    let i : ℕ = c.loop-step.step-index in
    let item : Step = get_or c.args.calendar.now i (record { start = 0; watts = 0 }) in
    let front : List Step = ahead c.args.moment c.args.calendar.now in
    let back : List Step = past c.args.moment (take i c.args.calendar.now) in
    let more : past c.args.moment (take (i + 1) c.args.calendar.now) ≡ back ++ past_one c.args.moment item =
    past_more c.args.moment c.args.calendar.now i (record { start = 0; watts = 0 }) c.loop-step-test.true in
    elim c.if-step-moment.branch [
      | then-step-moment w ↦
          let added : List Step = step_of (item.start + (86400 - c.args.moment)) item.watts ∷ [] in
          let here : past_one c.args.moment item ≡ added = past_in c.args.moment item w.if-step-moment.true in
          let along : (front ++ back) ++ added ≡ front ++ (back ++ added) = append_assoc front back added in
          cc
      | else-step-moment w ↦
          let none : past_one c.args.moment item ≡ [] = past_out c.args.moment item w.if-step-moment.false in
          let same : back ++ [] ≡ back = append-nil back in
          cc
    ]

pub returns : goal.returns
returns c =
    c.loop-step.invariant
    ∙ ap (λ (xs : List Step). ahead c.args.moment c.args.calendar.now ++ past c.args.moment xs) (take_all c.loop-step.step-index c.args.calendar.now c.loop-step-test.false)
