use Rattle.std.proofs.Common.{set, ap, ◌∙◌}
use Rattle.post_spec.specs.Codecs.{codecs}
use Rattle.site_posts.specs.declared.place.Place.{Place}
use Rattle.site_posts.specs.Filling.{decided_place}
use Rattle.site_posts.proofs.Words.{index_at, decided_at, fills}
use Rattle.site_posts.proofs.filling.fill.Goals as goal

pub read_word-requires-clause-sound : goal.read_word-requires-clause-sound
read_word-requires-clause-sound g c =
    let places = c.args.places.now in
    let there = index_at places c.args.i c.index-places-i.result c.requires.within c.index-places-i.is in
    (decided_at g.C.Coded.reads places _ c.args.i c.requires.within (ap (λ (p : Place). set places c.args.i p) (c.decide.ensures ∙ ap decided_place there)) c.requires.plan c.requires.sound).sound

pub read_word-requires-clause-judged : goal.read_word-requires-clause-judged
read_word-requires-clause-judged g c =
    let places = c.args.places.now in
    let there = index_at places c.args.i c.index-places-i.result c.requires.within c.index-places-i.is in
    (decided_at g.C.Coded.reads places _ c.args.i c.requires.within (ap (λ (p : Place). set places c.args.i p) (c.decide.ensures ∙ ap decided_place there)) c.requires.plan c.requires.sound).judged

pub returns : goal.returns
returns g c =
    let places = c.args.places.now in
    let there = index_at places c.args.i c.index-places-i.result c.requires.within c.index-places-i.is in
    fills (codecs g.C.Coded.negotiates g.C.Coded.reads g.C.Coded.encodes) c.args.limit places _ _ c.args.i c.requires.within (ap (λ (p : Place). set places c.args.i p) (c.decide.ensures ∙ ap decided_place there)) c.read_word.ensures
