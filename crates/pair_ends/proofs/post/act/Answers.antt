use Rattle.std.proofs.Common.{◌≡◌, List, length, sym, subst, arith}
use Rattle.std.specs.Bool.{MatchBool}
use Rattle.std.specs.Vec.{with_items}
use Rattle.pair_ends.specs.Ends.{PostDoes, PostRests}
use Rattle.post_spec.specs.Codecs.{codecs}
use Rattle.site_posts.specs.declared.place.Place.{Place}
use Rattle.site_posts.specs.Filling.{at}
use Rattle.pair_ends.specs.Places.{AloneDoes, AloneRests}
use Rattle.pair_ends.proofs.Sides.{lent_whole, side, goes}
use Rattle.pair_ends.proofs.post.act.Goals as goal

pub returns-clause-goes : goal.returns-clause-goes
returns-clause-goes g c =
    let cs = codecs g.C.Coded.negotiates g.C.Coded.reads g.C.Coded.encodes in
    let end = c.args.end.now in
    let new = c.act_alone.new in
    let r = c.act_alone.result in
    let h = subst (λ (ps : List Place). MatchBool r
    (AloneDoes cs end.limit c.args.now (at ps 0) end.charger end.tally c.args.way.now (at new.places 0) new.charger new.tally new.way)
    (AloneRests (at ps 0) end.charger end.tally c.args.way.now (at new.places 0) new.charger new.tally new.way)) c.as_mut_slice.ensures.value c.act_alone.ensures.goes in
    let count : length new.places ≡ end.places.len = omega (arith, c.act_alone.auto.places, c.as_mut_slice.ensures.len) in
    let same : (with_items end.places new.places).items ≡ new.places = lent_whole new.places _ _ count in
    let d = goes cs end.limit c.args.now (at end.places.items 0) (at new.places 0) end.charger new.charger end.tally new.tally c.args.way.now new.way r h in
    subst (λ (ps : List Place). MatchBool r
    (PostDoes cs c.args.now (side end.limit (at end.places.items 0) end.charger end.tally) c.args.way.now (side end.limit (at ps 0) new.charger new.tally) new.way)
    (PostRests (side end.limit (at end.places.items 0) end.charger end.tally) c.args.way.now (side end.limit (at ps 0) new.charger new.tally) new.way)) (sym same) d
