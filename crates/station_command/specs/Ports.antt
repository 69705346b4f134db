-- Own: where a station listens, by its plan.
use Rattle.std.specs.Prelude.{map}
use Rattle.charge_world.specs.declared.ports.PortPair.{PortPair}
use Rattle.charge_world.specs.declared.ports.Ports.{Ports}
use Rattle.charge_world.specs.declared.ports.Ports.TheVariants.{Posts}
use Rattle.session_words.specs.declared.plan.PostPlan.{PostPlan}
use Rattle.session_words.specs.declared.plan.SitePlan.{SitePlan}

abbrev pub pair_of : PostPlan → PortPair
pair_of post = record { tcp = post.tcp; sdp = post.sdp }

-- each post's, in order of number, until so many connections have ended
abbrev pub ports_of : SitePlan → Ports
ports_of plan = Posts (record { items = map pair_of plan.post.items }) plan.sessions
