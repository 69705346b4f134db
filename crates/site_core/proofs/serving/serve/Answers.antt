use Rattle.std.proofs.Common.{◌≡◌, ℕ, [], ap, subst, sym, ◌∙◌}
use Rattle.post_spec.specs.Codecs.{codecs}
use Rattle.endpoint.specs.Knowing.{known_first}
use Rattle.endpoint.proofs.Carry.{carries_from, carries_to}
use Rattle.site_turns.specs.Ending.{EndedAs, RanAs, AwaitedAs, AreCounts}
use Rattle.site_core.specs.Standing.{Standing, IsRunBy}
use Rattle.site_core.proofs.Embedded.{made_hears}
use Rattle.site_core.proofs.Served.{SiteRun, none_live, ran, ended_site, counted, awaited, where_none, first_run}
use Rattle.site_core.proofs.serving.serve.Goals as goal

pub run-ended-requires-clause-few : goal.run-ended-requires-clause-few
run-ended-requires-clause-few g c =
    let site = c.args.site.now in
    (made_hears g.C.Coded.reads c.requires.made.0 site.places.items site.limit site.turns c.requires.made.1).few

pub run-ended-requires-clause-rests : goal.run-ended-requires-clause-rests
run-ended-requires-clause-rests g c =
    let site = c.args.site.now in
    made_hears g.C.Coded.reads c.requires.made.0 site.places.items site.limit site.turns c.requires.made.1

pub run-ended-requires-clause-idle : goal.run-ended-requires-clause-idle
run-ended-requires-clause-idle g c blocks = λ posts are. none_live c.requires.made.0.post.items posts 1 blocks (sym c.requires.made.1.places_are ∙ are)

pub returns-clause-run : goal.returns-clause-run
returns-clause-run g c plan made =
    let cs = codecs g.C.Coded.negotiates g.C.Coded.reads g.C.Coded.encodes in
    let site = c.args.site.now in
    let later = c.run-ended.new.near in
    let first : Standing = record { places = site.places.items; limit = site.limit; turns = site.turns } in
    let s : Standing = record { places = later.places.items; limit = later.limit; turns = later.turns } in
    let u = g.W.Wire.untils c.args.wire.now in
    let v = g.W.Wire.untils c.run-ended.new.wire in
    let how = c.run-ended.result in
    carries_from _ _ (λ past. past ≡ []) (λ past. (past ≡ []) × IsRunBy cs plan first known_first past) (RanAs cs plan how) (λ past e. (e, first_run cs plan first past made e))
    (carries_to _ _ (λ past. (past ≡ []) × IsRunBy cs plan first known_first past) (SiteRun g.C.Coded.reads cs plan s how u v) (RanAs cs plan how)
    (λ past h. ran g.C.Coded.reads cs plan s how u v past h) (c.run-ended.ensures.ran plan))

pub returns-clause-ended : goal.returns-clause-ended
returns-clause-ended g c =
    let cs = codecs g.C.Coded.negotiates g.C.Coded.reads g.C.Coded.encodes in
    let site = c.args.site.now in
    let later = c.run-ended.new.near in
    let first : Standing = record { places = site.places.items; limit = site.limit; turns = site.turns } in
    let s : Standing = record { places = later.places.items; limit = later.limit; turns = later.turns } in
    let u = g.W.Wire.untils c.args.wire.now in
    let v = g.W.Wire.untils c.run-ended.new.wire in
    let how = c.run-ended.result in
    let plan = c.requires.made.0 in
    let made = c.requires.made.1 in
    carries_from _ _ (λ past. past ≡ []) (λ past. (past ≡ []) × IsRunBy cs plan first known_first past) (EndedAs first.turns how) (λ past e. (e, first_run cs plan first past made e))
    (carries_to _ _ (λ past. (past ≡ []) × IsRunBy cs plan first known_first past) (SiteRun g.C.Coded.reads cs plan s how u v) (EndedAs first.turns how)
    (λ past h. subst (λ (n : ℕ). EndedAs n how past) (ap (λ (k : ℕ × ℕ). k.0) c.run-ended.ensures.kept) (ended_site g.C.Coded.reads cs plan s how u v past h)) (c.run-ended.ensures.ran plan))

pub returns-clause-reports : goal.returns-clause-reports
returns-clause-reports g c =
    let cs = codecs g.C.Coded.negotiates g.C.Coded.reads g.C.Coded.encodes in
    let site = c.args.site.now in
    let later = c.run-ended.new.near in
    let first : Standing = record { places = site.places.items; limit = site.limit; turns = site.turns } in
    let s : Standing = record { places = later.places.items; limit = later.limit; turns = later.turns } in
    let u = g.W.Wire.untils c.args.wire.now in
    let v = g.W.Wire.untils c.run-ended.new.wire in
    let how = c.run-ended.result in
    let plan = c.requires.made.0 in
    let made = c.requires.made.1 in
    carries_from _ _ (λ past. past ≡ []) (λ past. (past ≡ []) × IsRunBy cs plan first known_first past) (AreCounts s.places) (λ past e. (e, first_run cs plan first past made e))
    (carries_to _ _ (λ past. (past ≡ []) × IsRunBy cs plan first known_first past) (SiteRun g.C.Coded.reads cs plan s how u v) (AreCounts s.places)
    (λ past h. counted g.C.Coded.reads cs plan s how u v past c.runs_of_posts.ensures h) (c.run-ended.ensures.ran plan))

pub returns-clause-untils : goal.returns-clause-untils
returns-clause-untils g c plan made =
    let cs = codecs g.C.Coded.negotiates g.C.Coded.reads g.C.Coded.encodes in
    let site = c.args.site.now in
    let later = c.run-ended.new.near in
    let first : Standing = record { places = site.places.items; limit = site.limit; turns = site.turns } in
    let s : Standing = record { places = later.places.items; limit = later.limit; turns = later.turns } in
    let u = g.W.Wire.untils c.args.wire.now in
    let v = g.W.Wire.untils c.run-ended.new.wire in
    let how = c.run-ended.result in
    where_none _ _ u (λ past. past ≡ []) (SiteRun g.C.Coded.reads cs plan s how u v) (AwaitedAs cs plan v) (λ none past h. awaited g.C.Coded.reads cs plan s how u v past none h)
    (carries_from _ _ (λ past. past ≡ []) (λ past. (past ≡ []) × IsRunBy cs plan first known_first past) (SiteRun g.C.Coded.reads cs plan s how u v) (λ past e. (e, first_run cs plan first past made e)) (c.run-ended.ensures.ran plan))

pub returns-clause-count : goal.returns-clause-count
returns-clause-count g c = c.run-ended.new.near.places.ok.0 ∙ ap (λ (k : ℕ × ℕ). k.1) c.run-ended.ensures.kept ∙ sym c.args.site.now.places.ok.0
