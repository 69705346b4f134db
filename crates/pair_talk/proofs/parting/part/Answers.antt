use Rattle.std.proofs.Common.{◌∷◌, ◌∙◌, ap, not}
use Rattle.post_spec.specs.Codecs.{codecs}
use Rattle.car_spec.specs.Codecs as car_codecs
use Rattle.pipe_spec.specs.Histories.{CarGoes}
use Rattle.pair_talk.specs.Sides.{Sides, sides}
use Rattle.pair_talk.proofs.Partings.{gone_at, gone_sound, parted, parted_before, has_ended, has_not_ended}
use Rattle.pair_talk.proofs.Steps.{at_same}
use Rattle.pair_talk.proofs.parting.part.Goals as goal

pub returns-then-is_none-clause-parts : goal.returns-then-is_none-clause-parts
returns-then-is_none-clause-parts g c st plan h k =
    let cs = codecs g.C.Coded.negotiates g.C.Coded.reads g.C.Coded.encodes in
    let ccs = car_codecs.codecs g.D.CarCoded.offers g.D.CarCoded.responds g.D.CarCoded.reads g.D.CarCoded.encodes in
    let s = sides c.args.pair.now in
    let stands = has_not_ended cs ccs st plan h s k (c.is_none.ensures ∙ ap not c.if-is_none.true) in
    let at = at_same cs ccs st plan (CarGoes ∷ h) _ (sides c.go.new.self) c.go.ensures (gone_at cs ccs st plan h s k stands) in
    parted cs ccs st plan h (sides c.answer_post.new.pair) k.rest k.over stands c.answer_post.ensures.quiet (c.answer_post.ensures.acts st plan (CarGoes ∷ h) at)

pub answer_post-requires : goal.answer_post-requires
answer_post-requires g c = gone_sound g.C.Coded.reads (sides c.args.pair.now) (sides c.go.new.self) c.requires.quiet c.go.ensures c.requires.sound

pub returns-then-is_none-clause-time : goal.returns-then-is_none-clause-time
returns-then-is_none-clause-time g c = c.answer_post.ensures.kept.moment_is ∙ ap (λ (s : Sides). s.moment) c.go.ensures

pub returns-else-is_none-clause-parts : goal.returns-else-is_none-clause-parts
returns-else-is_none-clause-parts g c st plan h k =
    let cs = codecs g.C.Coded.negotiates g.C.Coded.reads g.C.Coded.encodes in
    let ccs = car_codecs.codecs g.D.CarCoded.offers g.D.CarCoded.responds g.D.CarCoded.reads g.D.CarCoded.encodes in
    let s = sides c.args.pair.now in
    parted_before cs ccs st plan h s k (has_ended cs ccs st plan h s k (c.is_none.ensures ∙ ap not c.if-is_none.false))
