use Rattle.std.proofs.Common.{length, map, min, arith}
use Rattle.std.specs.Prelude.{fold}
use Rattle.charge_world.specs.declared.entry.Entry.{Entry}
use Rattle.charge_world.specs.declared.entry.Entry.TheVariants as entry
use Rattle.charge_world.specs.Outside.{bytes_of}
use Rattle.session_timers.specs.Due.{never}
use Rattle.post_spec.specs.Codecs.{codecs}
use Rattle.site_posts.specs.Places.{due_at}
use Rattle.site_acts.specs.Serving.{InBlock}
use Rattle.endpoint.specs.Telling.{IsTraced, IsCutHere, IsWrittenSo}
use Rattle.endpoint.proofs.Bounds.{of_eight}
use Rattle.endpoint.proofs.Carry.{carries_then, text_then, text_to}
use Rattle.endpoint.specs.Knowing.{known_behind, AwaitsLine}
use Rattle.end_turns.specs.Turns.{Hears}
use Rattle.site_turns.proofs.Heard.{heard_ready, heard_by}
use Rattle.endpoint.proofs.Written.{err_written}
use Rattle.site_turns.proofs.hearing.hear.Goals as goal

pub answer_all-requires-clause-ready : goal.answer_all-requires-clause-ready
answer_all-requires-clause-ready g c = heard_ready g.C.Coded.reads c.args.now c.args.heard.now _ c.args.places.now c.take_in.new.places (omega (arith, c.take_in.auto.places)) c.take_in.ensures.bounds c.take_in.ensures.heard c.requires.quiet c.requires.ready

pub write_heard-requires-clause-post : goal.write_heard-requires-clause-post
write_heard-requires-clause-post g c = of_eight (length c.args.places.now) c.args.heard.now.what c.requires.few c.requires.post

pub returns-in_err-write_heard-clause-traced : goal.returns-in_err-write_heard-clause-traced
returns-in_err-write_heard-clause-traced g c n number =
    let e : Entry = entry.Heard c.args.heard.now (bytes_of c.args.heard.now.what c.args.room.now) in
    let m = c.args.hearing in
    let r = c.from_residual.result in
    text_to _ _ _ _ (AwaitsLine n e) IsCutHere (IsWrittenSo m r) (λ past text t. err_written m r past text c.from_residual.ensures.0 t) (c.in_err-write_heard.ensures.traced n _ number)

pub returns-clause-traced : goal.returns-clause-traced
returns-clause-traced g c n number =
    let e : Entry = entry.Heard c.args.heard.now (bytes_of c.args.heard.now.what c.args.room.now) in
    let m = c.args.hearing in
    text_then _ _ _ _ _ _ (AwaitsLine n e) (IsTraced m) (IsWrittenSo m c.answer_all.result) (c.in_ok-write_heard.ensures.traced n _ number) c.answer_all.ensures.traced

pub returns-in_err-write_heard-clause-ready : goal.returns-in_err-write_heard-clause-ready
returns-in_err-write_heard-clause-ready g c = heard_ready g.C.Coded.reads c.args.now c.args.heard.now _ c.args.places.now c.take_in.new.places (omega (arith, c.take_in.auto.places)) c.take_in.ensures.bounds c.take_in.ensures.heard c.requires.quiet c.requires.ready

pub returns-in_err-write_heard-clause-carried : goal.returns-in_err-write_heard-clause-carried
returns-in_err-write_heard-clause-carried g c plan k lim goes_on left clock =
    heard_by _ (codecs g.C.Coded.negotiates g.C.Coded.reads g.C.Coded.encodes) plan k c.args.places.now c.take_in.new.places c.args.heard.now _ c.args.now goes_on left c.requires.quiet c.requires.post c.take_in.ensures.bounds (omega (arith, c.take_in.auto.places)) clock c.take_in.ensures.heard

pub returns-clause-carried : goal.returns-clause-carried
returns-clause-carried g c plan k lim goes_on left clock =
    let cs = codecs g.C.Coded.negotiates g.C.Coded.reads g.C.Coded.encodes in
    let bytes = bytes_of c.args.heard.now.what c.args.room.now in
    let known = known_behind k c.args.heard.now bytes (fold min never (map due_at c.args.places.now)) in
    carries_then _ _ _ (Hears (InBlock cs plan k c.args.places.now) c.args.heard.now bytes) (InBlock cs plan known c.take_in.new.places) (InBlock cs plan known c.answer_all.new.places)
    (heard_by _ cs plan k c.args.places.now c.take_in.new.places c.args.heard.now bytes c.args.now goes_on left c.requires.quiet c.requires.post c.take_in.ensures.bounds (omega (arith, c.take_in.auto.places)) clock c.take_in.ensures.heard)
    (c.answer_all.ensures.carried plan known lim)
