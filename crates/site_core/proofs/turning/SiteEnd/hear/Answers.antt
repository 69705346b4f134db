use Rattle.std.proofs.Common.{◌≡◌, ◌++◌, List, length, take, drop, map, min, refl, sym, subst, arith}
use Rattle.std.specs.Prelude.{fold}
use Rattle.std.proofs.lemmas.List.{take_at}
use Rattle.charge_world.specs.Outside.{bytes_of}
use Rattle.session_timers.specs.Due.{never}
use Rattle.post_spec.specs.Codecs.{codecs}
use Rattle.site_posts.specs.declared.place.Place.{Place}
use Rattle.site_posts.specs.Places.{due_at}
use Rattle.endpoint.specs.Knowing.{Known, known_behind}
use Rattle.endpoint.specs.Telling.{Carries}
use Rattle.end_turns.specs.Turns.{Hears}
use Rattle.site_core.specs.Standing.{Standing, IsRunBy}
use Rattle.site_core.proofs.Served.{hears_by}
use Rattle.site_core.proofs.turning.SiteEnd.hear.Goals as goal

pub returns-clause-carried : goal.returns-clause-carried
returns-clause-carried g c plan k goes_on left clock =
    let cs = codecs g.C.Coded.negotiates g.C.Coded.reads g.C.Coded.encodes in
    let site = c.args.self.now in
    let h = c.args.heard.now in
    let bytes = bytes_of h.what c.args.room.now in
    let new = c.hear.new.places in
    let lent = c.as_mut_slice.result.now in
    let start = g.W.Wire.past c.args.wire.now in
    let after = g.W.Wire.past c.hear.new.wire in
    let known : (places : List Place) → Known = λ places. known_behind k h bytes (fold min never (map due_at places)) in
    let stands : (places : List Place) → Standing = λ places. record { places = places; limit = site.limit; turns = site.turns } in
    let back : take site.places.len (new ++ drop (length new) site.places.items) ≡ new = take_at new (drop (length new) site.places.items) site.places.len (omega (arith, c.hear.auto.places, c.as_mut_slice.ensures.len)) in
    let run : Carries start after (Hears (IsRunBy cs plan (stands lent) k) h bytes) (IsRunBy cs plan (stands new) (known lent)) =
    hears_by start after cs plan (stands lent) (stands new) k (known lent) h bytes refl refl left (λ p lim less. c.hear.ensures.carried p k lim goes_on less clock) in
    let mine = subst (λ (ps : List Place). Carries start after (Hears (IsRunBy cs plan (stands ps) k) h bytes) (IsRunBy cs plan (stands new) (known ps))) c.as_mut_slice.ensures.value run in
    subst (λ (ps : List Place). Carries start after (Hears (IsRunBy cs plan (stands site.places.items) k) h bytes) (IsRunBy cs plan (stands ps) (known site.places.items))) (sym back) mine
