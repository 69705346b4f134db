use Rattle.std.proofs.Common.{◌≡◌, true, ap, refl, ◌∙◌, arith}
use Rattle.std.specs.Prelude.{slice_set}
use Rattle.post_spec.specs.Codecs.{codecs}
use Rattle.site_posts.specs.Filling.{at}
use Rattle.site_posts.specs.Places.{done_place}
use Rattle.site_posts.proofs.Words.{index_at}
use Rattle.site_acts.specs.Deeds.{act_of}
use Rattle.pair_ends.proofs.Alone.{behind, does, ready, less}
use Rattle.pair_ends.proofs.post.act_alone.Goals as goal

pub returns-in-Some-clause-goes : goal.returns-in-Some-clause-goes
returns-in-Some-clause-goes g c =
    let cs = codecs g.C.Coded.negotiates g.C.Coded.reads g.C.Coded.encodes in
    let places = c.args.places.now in
    let mid = c.next_deed.new.places in
    let room = c.next_deed.new.room in
    let deed = c.in-Some.deed in
    let d = c.in-Some.ensures in
    let here = index_at mid 0 c.index-places-0.result (omega (arith, c.requires.alone, c.next_deed.auto.places)) c.index-places-0.is in
    let kept : c.keep.new.place ≡ done_place (act_of room deed) true (at mid 0) = c.keep.ensures room ∙ ap (done_place (act_of room deed) true) here in
    let final = behind cs c.args.limit places mid room deed c.keep.new.place (at mid 0) c.requires.alone d refl kept in
    does cs c.args.limit c.args.now places mid (slice_set mid 0 c.keep.new.place) room deed _ _ _ _ _ _ c.requires.alone d final c.carry_out.ensures.charger c.carry_out.ensures.tally c.carry_out.ensures.short c.carry_out.ensures.sent

pub returns-in-Some-clause-ready : goal.returns-in-Some-clause-ready
returns-in-Some-clause-ready g c =
    let cs = codecs g.C.Coded.negotiates g.C.Coded.reads g.C.Coded.encodes in
    let places = c.args.places.now in
    let mid = c.next_deed.new.places in
    let room = c.next_deed.new.room in
    let deed = c.in-Some.deed in
    let d = c.in-Some.ensures in
    let here = index_at mid 0 c.index-places-0.result (omega (arith, c.requires.alone, c.next_deed.auto.places)) c.index-places-0.is in
    let kept : c.keep.new.place ≡ done_place (act_of room deed) true (at mid 0) = c.keep.ensures room ∙ ap (done_place (act_of room deed) true) here in
    let final = behind cs c.args.limit places mid room deed c.keep.new.place (at mid 0) c.requires.alone d refl kept in
    ready cs c.args.limit places mid (slice_set mid 0 c.keep.new.place) room deed c.requires.alone d final c.requires.ready

pub returns-in-Some-clause-work : goal.returns-in-Some-clause-work
returns-in-Some-clause-work g c e =
    let cs = codecs g.C.Coded.negotiates g.C.Coded.reads g.C.Coded.encodes in
    let places = c.args.places.now in
    let mid = c.next_deed.new.places in
    let room = c.next_deed.new.room in
    let deed = c.in-Some.deed in
    let d = c.in-Some.ensures in
    let here = index_at mid 0 c.index-places-0.result (omega (arith, c.requires.alone, c.next_deed.auto.places)) c.index-places-0.is in
    let kept : c.keep.new.place ≡ done_place (act_of room deed) true (at mid 0) = c.keep.ensures room ∙ ap (done_place (act_of room deed) true) here in
    let final = behind cs c.args.limit places mid room deed c.keep.new.place (at mid 0) c.requires.alone d refl kept in
    less cs c.args.limit places mid (slice_set mid 0 c.keep.new.place) room deed c.requires.alone d final
