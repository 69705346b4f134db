-- However serving ended, its past is a run that may be cut.
use Rattle.std.proofs.Common.{List}
use Rattle.charge_world.specs.declared.entry.Entry.{Entry}
use Rattle.session_words.specs.declared.plan.SitePlan.{SitePlan}
use Rattle.post_spec.specs.Codecs.{Codecs}
use Rattle.station_spec.specs.Runs.{IsSiteRun, IsCutRun}
use Rattle.site_core.specs.Ended.{Ended}
use Rattle.site_core.specs.Ended.TheVariants as ended
use Rattle.site_core.specs.Ending.{RanAs}

whole_cut : (c : Codecs) (plan : SitePlan) (past : List Entry) → IsSiteRun c plan past → IsCutRun c plan past
whole_cut c plan past r = record { blocks = r.blocks; posts = r.posts; run = r.run; closes = r.closes }

pub ran_cut : (c : Codecs) (plan : SitePlan) (how : Ended) (past : List Entry) → RanAs c plan how past → IsCutRun c plan past
ran_cut c plan ended.Over past r = whole_cut c plan past r
ran_cut c plan ended.Lost past r = whole_cut c plan past r
ran_cut c plan ended.TraceFault past r = r
ran_cut c plan ended.Turns past r = whole_cut c plan past r
