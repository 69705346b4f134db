use Rattle.std.proofs.Common.{rules, ◌≡◌, ℕ, ◌*◌, ◌≤◌, refl, arith}
use Rattle.charge_world.specs.declared.offer.Dialect.TheVariants.{Iso}
use Rattle.session_words.specs.declared.mode.Mode.TheVariants as mode
use Rattle.session_words.specs.declared.plan.Stop.TheVariants.{Terminate, Pause}
use Rattle.pipe_examples.proofs.plans_match.Goals as goal

pub returns-clause-usual_matches : goal.returns-clause-usual_matches
returns-clause-usual_matches c = record {
  mode = refl;
  dialect = Iso;
  shared = record { of_post = search rules; of_car = search rules };
  voltage = omega arith;
  current = omega arith;
  target = omega arith;
  ac = tt;
  terminates = refl;
  unnamed = refl;
  soon = record {
    steps = 4;
    steps_are = record { holds = omega arith; least = λ m h. omega (arith, h) };
    ticks = 10;
    ticks_are = record { holds = omega arith; least = λ m h. omega (arith, h) };
    soon = omega arith;
  };
}

pub returns-clause-alternating_matches : goal.returns-clause-alternating_matches
returns-clause-alternating_matches c = record {
  mode = refl;
  dialect = Iso;
  shared = record { of_post = search rules; of_car = search rules };
  voltage = omega arith;
  current = omega arith;
  target = omega arith;
  ac = record { takes = omega arith; gives = omega arith };
  terminates = refl;
  unnamed = refl;
  soon = record {
    steps = 4;
    steps_are = record { holds = omega arith; least = λ m h. omega (arith, h) };
    ticks = 10;
    ticks_are = record { holds = omega arith; least = λ m h. omega (arith, h) };
    soon = omega arith;
  };
}

pub returns-clause-slow_matches : goal.returns-clause-slow_matches
returns-clause-slow_matches c = record {
  mode = refl;
  dialect = Iso;
  shared = record { of_post = search rules; of_car = search rules };
  voltage = omega arith;
  current = omega arith;
  target = omega arith;
  ac = tt;
  terminates = refl;
  unnamed = refl;
  soon = record {
    steps = 6;
    steps_are = record { holds = omega arith; least = λ m h. omega (arith, h) };
    ticks = 100;
    ticks_are = record { holds = omega arith; least = λ m h. omega (arith, h) };
    soon = omega arith;
  };
}

pub returns-clause-too_low_does_not : goal.returns-clause-too_low_does_not
returns-clause-too_low_does_not c m = let v = m.voltage in omega (arith, v)

pub returns-clause-other_mode_does_not : goal.returns-clause-other_mode_does_not
returns-clause-other_mode_does_not c m = let e : mode.DcExtended ≡ mode.AcThreePhaseCore = m.mode in cc

-- seven steps of 1,000 ms
few : (steps ticks : ℕ) → 7 ≤ steps → 100 ≤ ticks → 7000 ≤ steps * (10 * ticks)
few steps ticks a b = grind arith

pub returns-clause-too_slow_does_not : goal.returns-clause-too_slow_does_not
returns-clause-too_slow_does_not c m =
    let s = m.soon in
    let n = s.steps_are in
    let t = s.ticks_are in
    let reach = n.holds in
    let tick = t.holds in
    let soon = s.soon in
    let most = few s.steps s.ticks (omega (arith, reach)) (omega (arith, tick)) in
    omega (arith, most, soon)

pub returns-clause-pause_does_not : goal.returns-clause-pause_does_not
returns-clause-pause_does_not c m = let e : Pause ≡ Terminate = m.terminates in cc
