-- So no check fails at any line of a station's own whole run.
use Rattle.std.proofs.Common.{◌≡◌, ◌⊎◌, inl, inr, ℕ, List, subst}
use Rattle.charge_world.specs.declared.entry.Entry.{Entry}
use Rattle.session_words.specs.declared.plan.SitePlan.{SitePlan}
use Rattle.station_spec.specs.Runs.{IsSiteRun}
use Rattle.told_pasts.specs.Faults.{Fails}
use Rattle.told_pasts.specs.Spelling.{ToldCodecs}
use Rattle.own_traces.specs.Owning.{TellsOwn}
use Rattle.own_traces.proofs.Left.{only_courses_left}
use Rattle.own_courses.specs.Faultless.{FindsNoFault}
use Rattle.own_courses.specs.Writing.{WritesRightly}
use Rattle.own_courses.proofs.Opened.{third_passes}
use Rattle.own_courses.proofs.Watts.{seventh_passes}

neither : (c : ToldCodecs) (site : SitePlan) (past : List Entry) (line check : ℕ) → TellsOwn c → WritesRightly c → IsSiteRun c.words site past → Fails c site past line check → (check ≡ 3) ⊎ (check ≡ 7) → ⊥
neither c site past line check own writes r f (inl three) = third_passes c own site past line r (subst (Fails c site past line) three f)
neither c site past line check own writes r f (inr seven) = seventh_passes c own writes site past line r (subst (Fails c site past line) seven f)

pub finds_no_fault : (c : ToldCodecs) → FindsNoFault c
finds_no_fault c site past line check own weighs writes r f = neither c site past line check own writes r f (only_courses_left c site past line check own weighs r f)
