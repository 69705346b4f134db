-- The run of the pipe of plans that go together.
use Rattle.std.proofs.Common.{◌≡◌, ℕ, ◌≤◌, Bool, true, false, List, ◌∷◌, MatchBool, All, refl, sym, subst, arith}
use Rattle.std.proofs.lemmas.List.Elements.{All-head}
use Rattle.session_words.specs.declared.plan.CarPlan.{CarPlan}
use Rattle.session_words.specs.declared.plan.PostPlan.{PostPlan}
use Rattle.session_words.specs.declared.plan.SitePlan.{SitePlan}
use Rattle.session_words.specs.Plans.{IsCarPlan, IsPostPlan, IsSitePlan}
use Rattle.session_rules.specs.Finishing.{is_ac}
use Rattle.post_spec.specs.Codecs as post
use Rattle.car_spec.specs.Codecs as car
use Rattle.pipe_spec.specs.Histories.{joined, ported}
use Rattle.pipe_spec.specs.Matched.{IsMatched, IsAcMatched, IsShared, IsSoonCharged}
use Rattle.pipe_spec.specs.Runs.{IsStation}
use Rattle.pipe_spec.specs.Turns.{Station}
use Rattle.pair_words.specs.Meeting.{ArePaired}
use Rattle.matched_pairs.specs.PipeRuns.{GoTogether, PipeRunsAreWell}
use Rattle.matched_pairs.proofs.WellEnded.{ends_well}

one_first : (p q : PostPlan) (ps qs ts : List PostPlan) → ts ≡ p ∷ ps → ts ≡ q ∷ qs → p ≡ q
one_first p q ps qs ts e f = cc

-- the plan of a car that is joined has all that its session goes by
ac_joined : (b : Bool) (p : PostPlan) (plan : CarPlan) → MatchBool b (IsAcMatched p plan) (Unit {0}) → MatchBool b (IsAcMatched p (joined plan)) (Unit {0})
ac_joined true p plan m = record { takes = m.takes; gives = m.gives }
ac_joined false p plan m = tt

matched_joined : (p : PostPlan) (plan : CarPlan) → IsMatched p plan → IsMatched p (joined plan)
matched_joined p plan m = record {
  mode = m.mode;
  dialect = m.dialect;
  shared = record { of_post = m.shared.of_post; of_car = m.shared.of_car };
  voltage = m.voltage;
  current = m.current;
  target = m.target;
  ac = ac_joined (is_ac p.mode) p plan m.ac;
  terminates = m.terminates;
  unnamed = m.unnamed;
  soon = record { steps = m.soon.steps; steps_are = m.soon.steps_are; ticks = m.soon.ticks; ticks_are = m.soon.ticks_are; soon = m.soon.soon };
}

port_there : (n : ℕ) → n ≡ 15118 → 1 ≤ n
port_there n e = omega (arith, e)

car_joined : (plan : CarPlan) → IsCarPlan plan → IsCarPlan (ported (joined plan))
car_joined plan r = record {
  tcp_there = λ e. refl;
  tcp = port_there 15118 refl;
  turns = r.turns;
  dialects = r.dialects;
  soc = r.soc;
  max_watts = r.max_watts;
  cycles = r.cycles;
  welding = r.welding;
  pace = r.pace;
}

-- so they are a pair
pub paired : (site : SitePlan) (plan : CarPlan) (st : Station) (seed : ℕ) → IsSitePlan site → IsCarPlan plan → IsStation site seed st → GoTogether site plan
    → ArePaired st.post (joined plan)
paired site plan st seed s r is g =
    let same : g.post ≡ st.post = one_first g.post st.post g.others is.others site.post.items g.first is.first in
    record {
      matched = subst (λ (p : PostPlan). IsMatched p (joined plan)) same (matched_joined g.post plan g.matched);
      of_post = All-head IsPostPlan st.post is.others (subst (λ (ps : List PostPlan). All IsPostPlan ps) is.first s.each);
      of_car = car_joined plan r;
    }

pub pipe_runs_are_well : (c : post.Codecs) (cs : car.Codecs) → PipeRunsAreWell c cs
pipe_runs_are_well c cs site plan seed h s r target run short fit together =
    ends_well c cs run.station plan h
    (record { readings = fit.readings; agree = fit.agree; paired = paired site plan run.station seed s r run.station_is together; joined = refl })
    (subst (λ (n : ℕ). 1 ≤ n) (sym run.station_is.limit) s.limit.0) run.session short target (subst (λ (n : ℕ). 1000000000 ≤ n) (sym run.station_is.turns) together.turns) together.car_turns
