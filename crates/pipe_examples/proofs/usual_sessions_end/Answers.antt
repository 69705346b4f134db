use Rattle.std.proofs.Common.{◌≡◌, ◌≤◌, refl, arith}
use Rattle.v2gtp_frames.specs.Reading as reading
use Rattle.station_examples.specs.Fixtures.{dc_post}
use Rattle.pipe_spec.specs.Counts.{exchanges}
use Rattle.pipe_examples.specs.Whole as whole
use Rattle.pipe_examples.proofs.Ok.{all_ok}
use Rattle.pipe_examples.proofs.usual_sessions_end.Goals as goal

pub returns-clause-usual : goal.returns-clause-usual
unfolding reading.whole_at
returns-clause-usual c = refl

pub returns-clause-usual_in_din : goal.returns-clause-usual_in_din
unfolding reading.whole_at
returns-clause-usual_in_din c = refl

few : exchanges (whole.history dc_post whole.usual 6000) ≡ 219 → exchanges (whole.history dc_post whole.usual 6000) ≤ 864
few e = omega (arith, e)

pub returns-clause-usual_ends_well : goal.returns-clause-usual_ends_well
unfolding reading.whole_at
returns-clause-usual_ends_well c = record {
  few = few refl;
  ok = all_ok (whole.history dc_post whole.usual 6000) refl;
  station = refl;
  car = refl;
  station_open = refl;
  car_open = refl;
}
