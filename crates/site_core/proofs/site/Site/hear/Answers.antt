use Rattle.std.proofs.Common.{◌≡◌, ◌++◌, List, length, take, drop, map, min, sym, subst, arith}
use Rattle.std.specs.Prelude.{fold}
use Rattle.std.proofs.lemmas.List.{take_at}
use Rattle.charge_world.specs.declared.entry.Entry.TheVariants as entry
use Rattle.charge_world.specs.Outside.{bytes_of}
use Rattle.session_timers.specs.Due.{never}
use Rattle.post_spec.specs.Codecs.{codecs}
use Rattle.site_posts.specs.declared.place.Place.{Place}
use Rattle.site_posts.specs.Places.{due_at}
use Rattle.endpoint.proofs.Bounds.{counted}
use Rattle.endpoint.proofs.Faults.{text_told}
use Rattle.endpoint.specs.Telling.{Carries, IsWrittenSo}
use Rattle.endpoint.specs.Knowing.{AwaitsLine}
use Rattle.site_turns.specs.SoFar.{IsNext, IsSoFar}
use Rattle.site_core.proofs.Embedded.{counts_of, next_heard}
use Rattle.site_core.proofs.site.Site.hear.Goals as goal

pub returns-clause-run : goal.returns-clause-run
returns-clause-run g c plan lim few =
    let cs = codecs g.C.Coded.negotiates g.C.Coded.reads g.C.Coded.encodes in
    let site = c.args.self.now in
    let h = c.args.heard.now in
    let bytes = bytes_of h.what c.args.room.now in
    let later = c.count.new.self in
    let one = counted site.so_far.hearing later.hearing few c.count.ensures.hearing in
    let new = c.hear.new.places in
    let lent = c.as_mut_slice.result.now in
    let start = g.W.Wire.past c.args.wire.now in
    let after = g.W.Wire.past c.hear.new.wire in
    let due = fold min never (map due_at lent) in
    let back : take site.places.len (new ++ drop (length new) site.places.items) ≡ new = take_at new (drop (length new) site.places.items) site.places.len (omega (arith, c.hear.auto.places, c.as_mut_slice.ensures.len)) in
    let run = next_heard start after cs plan site.so_far later h bytes due lent new (λ k goes left clock. c.hear.ensures.carried plan k lim goes left clock)
    (λ known. text_told _ _ _ _ (AwaitsLine site.so_far.hearing (entry.Heard h bytes)) (IsWrittenSo later.hearing c.hear.result) (c.hear.ensures.traced site.so_far.hearing one) known)
    c.count.ensures.moment one in
    let mine = subst (λ (ps : List Place). Carries start after (IsNext cs plan site.so_far h bytes ps) (IsSoFar cs plan later new)) c.as_mut_slice.ensures.value run in
    subst (λ (ps : List Place). Carries start after (IsNext cs plan site.so_far h bytes site.places.items) (IsSoFar cs plan later ps)) (sym back) mine

pub returns-clause-reports : goal.returns-clause-reports
returns-clause-reports g c plan lim few = counts_of _ _ _ plan _ _ _ c.runs_of_posts.ensures (returns-clause-run g c plan lim few)

pub returns-clause-traced : goal.returns-clause-traced
returns-clause-traced g c few = c.hear.ensures.traced c.args.self.now.so_far.hearing (counted c.args.self.now.so_far.hearing c.count.new.self.hearing few c.count.ensures.hearing)
