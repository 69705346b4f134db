-- Own: the stage of a session in the type of its row.
use Rattle.std.specs.Prelude.{Bool, true, false}
use Rattle.session_words.specs.declared.phase.Phase.{Phase}
use Rattle.session_words.specs.declared.phase.Phase.TheVariants as row
use Rattle.session_rules.specs.declared.stage.Stage.{Stage}
use Rattle.secc_rows.specs.declared.carried.Carried.{Carried}
use Rattle.secc_rows.specs.declared.carried.Place.{Place}
use Rattle.secc_rows.specs.declared.kind.Kind.{Kind}
use Rattle.secc_rows.specs.declared.kind.Kind.TheVariants as kind

-- where a session is
abbrev pub place_of : Stage → Place
place_of s = record { row = s.row; dialect = s.dialect; told = s.told }

abbrev pub carried_stage : Phase → Carried → Stage
carried_stage here carried = record {
  row = here;
  dialect = carried.dialect;
  session = carried.session;
  told = carried.told;
  schedule = carried.schedule;
  pre_charge = carried.pre_charge;
}

abbrev pub stage_in : Kind → Stage
stage_in (kind.Connected r) = carried_stage row.Connected r.carried
stage_in (kind.Negotiated r) = carried_stage row.Negotiated r.carried
stage_in (kind.SetUp r) = carried_stage row.SetUp r.carried
stage_in (kind.Discovered r) = carried_stage row.Discovered r.carried
stage_in (kind.Selected r) = carried_stage row.Selected r.carried
stage_in (kind.Authorized r) = carried_stage row.Authorized r.carried
stage_in (kind.DcReady r) = carried_stage row.DcReady r.carried
stage_in (kind.DcChecked r) = carried_stage row.DcChecked r.carried
stage_in (kind.DcPreCharging r) = carried_stage row.DcPreCharging r.carried
stage_in (kind.DcClosing r) = carried_stage row.DcClosing r.carried
stage_in (kind.DcCharging r) = carried_stage row.DcCharging r.carried
stage_in (kind.DcStopped r) = carried_stage row.DcStopped r.carried
stage_in (kind.AcReady r) = carried_stage row.AcReady r.carried
stage_in (kind.AcClosing r) = carried_stage row.AcClosing r.carried
stage_in (kind.AcCharging r) = carried_stage row.AcCharging r.carried
stage_in (kind.AcStopped r) = carried_stage row.AcStopped r.carried

-- rows that take no request: nothing was negotiated, or a reply waits
abbrev pub takes_none : Phase → Bool
takes_none row.Connected = true
takes_none row.DcClosing = true
takes_none row.AcClosing = true
takes_none other = false
