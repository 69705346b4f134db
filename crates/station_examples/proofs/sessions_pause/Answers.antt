use Rattle.std.proofs.Common.{refl}
use Rattle.v2gtp_frames.specs.Reading as reading
use Rattle.station_examples.proofs.sessions_pause.Goals as goal

pub returns-clause-pause_ends : goal.returns-clause-pause_ends
unfolding reading.whole_at
returns-clause-pause_ends c = refl

pub returns-clause-pause_keeps : goal.returns-clause-pause_keeps
unfolding reading.whole_at
returns-clause-pause_keeps c = refl

pub returns-clause-stop_keeps_nothing : goal.returns-clause-stop_keeps_nothing
unfolding reading.whole_at
returns-clause-stop_keeps_nothing c = refl

pub returns-clause-early_pause_fails : goal.returns-clause-early_pause_fails
unfolding reading.whole_at
returns-clause-early_pause_fails c = refl

pub returns-clause-joins_paused : goal.returns-clause-joins_paused
unfolding reading.whole_at
returns-clause-joins_paused c = refl

pub returns-clause-joins_once : goal.returns-clause-joins_once
unfolding reading.whole_at
returns-clause-joins_once c = refl

pub returns-clause-joined_is_authorized : goal.returns-clause-joined_is_authorized
unfolding reading.whole_at
returns-clause-joined_is_authorized c = refl

pub returns-clause-came_clears : goal.returns-clause-came_clears
unfolding reading.whole_at
returns-clause-came_clears c = refl

pub returns-clause-renegotiation_opens : goal.returns-clause-renegotiation_opens
unfolding reading.whole_at
returns-clause-renegotiation_opens c = refl

pub returns-clause-start_behind_renegotiation_fails : goal.returns-clause-start_behind_renegotiation_fails
unfolding reading.whole_at
returns-clause-start_behind_renegotiation_fails c = refl

pub returns-clause-parameters_behind_renegotiation : goal.returns-clause-parameters_behind_renegotiation
unfolding reading.whole_at
returns-clause-parameters_behind_renegotiation c = refl
