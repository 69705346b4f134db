-- IEC 61851-1 and IEC 61851-23; ISO 15118-2:2014, section 8.8: what is told of a station's own trace.
use Rattle.std.specs.Prelude.{◌≡◌, ℕ, List, ◌⊎◌}
use Rattle.charge_world.specs.declared.entry.Entry.{Entry}
use Rattle.session_words.specs.declared.plan.SitePlan.{SitePlan}
use Rattle.station_spec.specs.Runs.{IsSiteRun}
use Rattle.told_pasts.specs.Faults.{Fails}
use Rattle.told_pasts.specs.Spelling.{ToldCodecs}
use Rattle.own_traces.specs.Owning.{TellsOwn}
use Rattle.own_traces.specs.Weighing.{WeighsRightly}

-- eight of the ten checks fail at no line of a whole run: only the third and the seventh may, which follow the course of a session
abbrev pub OnlyCoursesAreLeft : ToldCodecs → Type 0
OnlyCoursesAreLeft c = (site : SitePlan) (past : List Entry) (line check : ℕ) → TellsOwn c → WeighsRightly c → IsSiteRun c.words site past → Fails c site past line check → (check ≡ 3) ⊎ (check ≡ 7)

-- and where nothing is known of the watts that a payload writes, the sixth too
abbrev pub FewAreLeft : ToldCodecs → Type 0
FewAreLeft c = (site : SitePlan) (past : List Entry) (line check : ℕ) → TellsOwn c → IsSiteRun c.words site past → Fails c site past line check → (check ≡ 3) ⊎ ((check ≡ 6) ⊎ (check ≡ 7))
