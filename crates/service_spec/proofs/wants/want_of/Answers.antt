use Rattle.std.proofs.Common.{List, ℕ, ap, subst, ◌∙◌, ◌<◌, ◌≤◌, length, arith}
use Rattle.service_spec.specs.Pieces.{pieces_left}
use Rattle.service_spec.proofs.Reading.{IsReading, reading_more, reading_done, reading_bad, reading_full}
use Rattle.service_spec.proofs.wants.want_of.Goals as goal

pub returns-in_default-pair_of : goal.returns-in_default-pair_of
returns-in_default-pair_of c =
    reading_bad c.args.word.now c.cut.result.0.now c.loop-rest.pairs.items (pieces_left c.loop-rest.rest) (pieces_left c.cut.result.1)
    c.loop-rest.invariant (ap pieces_left c.in-Some.is ∙ c.cut.ensures) c.in_default-pair_of.ensures

pub returns-then-len-eq-PARAMETERS : goal.returns-then-len-eq-PARAMETERS
returns-then-len-eq-PARAMETERS c =
    let full : 16 ≤ length c.loop-rest.pairs.items = omega arith in
    reading_full c.args.word.now c.cut.result.0.now c.loop-rest.pairs.items (pieces_left c.loop-rest.rest) (pieces_left c.cut.result.1)
    c.loop-rest.invariant (ap pieces_left c.in-Some.is ∙ c.cut.ensures) full

pub loop-rest-preserved : goal.loop-rest-preserved
loop-rest-preserved c =
    let few : length c.loop-rest.pairs.items < 16 = omega arith in
    rw c.push.ensures.items (
    reading_more c.args.word.now c.cut.result.0.now c.loop-rest.pairs.items (pieces_left c.loop-rest.rest) (pieces_left c.cut.result.1) c.in-Some-pair_of.pair
    c.loop-rest.invariant (ap pieces_left c.in-Some.is ∙ c.cut.ensures) c.in-Some-pair_of.ensures.0 c.in-Some-pair_of.ensures.1 few
    )

pub returns : goal.returns
returns c =
    reading_done c.args.word.now c.loop-rest.pairs.items
    (subst (λ (rest : List (List ℕ)). IsReading c.args.word.now c.loop-rest.pairs.items rest) (ap pieces_left c.in_default.is) c.loop-rest.invariant)
