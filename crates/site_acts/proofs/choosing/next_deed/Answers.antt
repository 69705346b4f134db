use Rattle.std.proofs.Common.{◌≡◌, refl, sym, ap, subst, ◌∙◌, arith}
use Rattle.post_spec.specs.Codecs.{codecs}
use Rattle.station_spec.specs.States.{first}
use Rattle.site_posts.specs.declared.place.Place.{Place}
use Rattle.site_posts.proofs.Words.{index_at}
use Rattle.site_acts.specs.Deeds.{Prepares}
use Rattle.site_acts.proofs.Next.{nexts_by}
use Rattle.site_acts.proofs.choosing.next_deed.Goals as goal

pub returns : goal.returns
returns g c =
    let cs = codecs g.C.Coded.negotiates g.C.Coded.reads g.C.Coded.encodes in
    let new = c.fill.new.places in
    let here = index_at new c.args.i c.index-places-i.result (omega (arith, c.requires.within, c.fill.auto.places)) c.index-places-i.is in
    nexts_by cs c.args.limit c.args.places.now new c.args.i _ _ c.law_of_words.ensures c.law_of_rest.ensures.same c.requires.within c.fill.ensures
    (subst (λ (p : Place). Prepares cs (first p.post.agenda) c.prepare.new.room c.prepare.result) here c.prepare.ensures)
