use Rattle.std.proofs.Common.{Some, None, set, sym, ap, subst, ◌∙◌}
use Rattle.post_spec.specs.Codecs.{codecs}
use Rattle.station_spec.specs.Judging.{wanted}
use Rattle.valid_isolation.specs.Isolated.{IsIsolated}
use Rattle.site_codec.specs.Views.{judged_of, ComesFirst}
use Rattle.site_posts.specs.declared.place.Place.{Place}
use Rattle.site_posts.specs.Filling.{at, word_place, JudgesFor}
use Rattle.site_posts.proofs.Words.{index_at, may_read, reads_none, reads_some}
use Rattle.site_posts.proofs.filling.read_word.Goals as goal

pub read-requires-clause-isolation : goal.read-requires-clause-isolation
read-requires-clause-isolation g c =
    let cs = codecs g.C.Coded.negotiates g.C.Coded.reads g.C.Coded.encodes in
    let places = c.args.places.now in
    let here = index_at places c.args.i c.index-places-i.result c.requires.within c.index-places-i.is in
    let there = index_at places c.args.i c.index-places-i-in-Some.result c.requires.within c.index-places-i-in-Some.is in
    subst (λ (p : Place). IsIsolated p.post.session p.post.facts.isolation) (sym there)
    (may_read cs _ (at places c.args.i).post (judged_of c.in-Some.judged)
    (subst (λ (p : Place). JudgesFor cs p.plan.dialects.items (wanted p.post) (Some (judged_of c.in-Some.judged))) here c.in-Some.ensures.judged) c.requires.judged).0

pub read-requires-clause-first : goal.read-requires-clause-first
read-requires-clause-first g c =
    let cs = codecs g.C.Coded.negotiates g.C.Coded.reads g.C.Coded.encodes in
    let places = c.args.places.now in
    let here = index_at places c.args.i c.index-places-i.result c.requires.within c.index-places-i.is in
    let there = index_at places c.args.i c.index-places-i-in-Some.result c.requires.within c.index-places-i-in-Some.is in
    subst (λ (p : Place). ComesFirst p.post.session (judged_of c.in-Some.judged)) (sym there)
    (may_read cs _ (at places c.args.i).post (judged_of c.in-Some.judged)
    (subst (λ (p : Place). JudgesFor cs p.plan.dialects.items (wanted p.post) (Some (judged_of c.in-Some.judged))) here c.in-Some.ensures.judged) c.requires.judged).1

pub returns-in-Some : goal.returns-in-Some
returns-in-Some g c =
    let cs = codecs g.C.Coded.negotiates g.C.Coded.reads g.C.Coded.encodes in
    let places = c.args.places.now in
    let i = c.args.i in
    let j = judged_of c.in-Some.judged in
    let here = index_at places i c.index-places-i.result c.requires.within c.index-places-i.is in
    let there = index_at places i c.index-places-i-in-Some.result c.requires.within c.index-places-i-in-Some.is in
    let judges = subst (λ (p : Place). JudgesFor cs p.plan.dialects.items (wanted p.post) (Some j)) here c.in-Some.ensures.judged in
    reads_some cs c.args.limit places _ i j c.shown-watts.result g.met.C.Codec.negotiates_first g.met.C.Codec.chooses_offered c.requires.plan judges c.shown-watts.ensures c.requires.sound c.requires.judged
    (ap (λ (p : Place). set places i p) (c.read.ensures ∙ ap (word_place j c.shown-watts.result) there))

pub returns-in-None : goal.returns-in-None
returns-in-None g c =
    let cs = codecs g.C.Coded.negotiates g.C.Coded.reads g.C.Coded.encodes in
    let places = c.args.places.now in
    let i = c.args.i in
    let here = index_at places i c.index-places-i.result c.requires.within c.index-places-i.is in
    reads_none cs c.args.limit places i (subst (λ (p : Place). JudgesFor cs p.plan.dialects.items (wanted p.post) None) here c.in-None.ensures.judged) c.requires.sound
