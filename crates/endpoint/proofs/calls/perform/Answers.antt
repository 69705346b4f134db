use Rattle.std.proofs.Common.{subst}
use Rattle.std.specs.Prelude.{OnOk, OnErr}
use Rattle.charge_world.specs.declared.entry.Entry.{Entry}
use Rattle.charge_world.specs.Outside.{Appends, AppendsSome}
use Rattle.trace_text.specs.TraceText.{numbered_line_of}
use Rattle.endpoint.specs.Calls.{entry_by}
use Rattle.endpoint.proofs.Carry.{text_one}
use Rattle.endpoint.proofs.Knowing.{is_call, same_number}
use Rattle.endpoint.proofs.calls.perform.Goals as goal

pub returns-clause-traced : goal.returns-clause-traced
returns-clause-traced g c =
    let taken = c.make-taken.result in
    let m = c.args.hearing in
    let written = c.write-written.result in
    let e : Entry = entry_by c.args.k c.args.call.now taken in
    let s = g.J.Sink.taken c.args.trace.now in
    let t = g.J.Sink.taken c.write-written.new.trace in
    let ok = subst (λ (x : Entry). OnOk written (Appends s t (numbered_line_of m x))) c.noted-entry.ensures c.write-written.ensures.ok in
    let failed = subst (λ (x : Entry). OnErr written (AppendsSome s t (numbered_line_of m x))) c.noted-entry.ensures c.write-written.ensures.failed in
    text_one _ _ s t e m m written (same_number e m (is_call c.args.k c.args.call.now taken)) c.make-taken.ensures.grown ok failed
