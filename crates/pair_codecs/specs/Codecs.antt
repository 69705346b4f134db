-- ISO 15118-2:2014, 8.2 and 8.3; DIN SPEC 70121:2014: the codecs of both ends.
use Rattle.std.specs.Prelude.{ℕ, List}
use Rattle.session_words.specs.declared.plan.CarPlan.{CarPlan}
use Rattle.session_words.specs.declared.plan.PostPlan.{PostPlan}
use Rattle.post_spec.specs.Codecs as post
use Rattle.site_codecs.specs.Codecs.{Reads, Encodes}
use Rattle.site_codecs.specs.Negotiating.{Negotiates}
use Rattle.car_spec.specs.Codecs as car
use Rattle.car_codecs.specs.Codecs as car_written
use Rattle.car_codecs.specs.Offering.{Offers}
use Rattle.car_codecs.specs.Responding.{Responds}
use Rattle.pair_words.specs.Meeting.{ArePaired}
use Rattle.pair_negotiation.specs.Beginning.{HaveBegun}

abbrev pub post_codecs : post.Codecs
post_codecs = post.codecs Negotiates Reads Encodes

abbrev pub car_codecs : car.Codecs
car_codecs = car.codecs Offers Responds Reads car_written.Encodes

-- so a session of plans that match begins in one dialect
abbrev pub SessionsBegin : Type 0
SessionsBegin = (post_plan : PostPlan) (plan : CarPlan) (token : ℕ) (request : List ℕ) → ArePaired post_plan plan → Offers plan.dialects.items request
    → HaveBegun post_codecs car_codecs post_plan plan token request
