use Rattle.std.proofs.Common.{List, IsSome, ◌↔◌, subst}
use Rattle.exi_writing.specs.Values.{Entries}
use Rattle.exi_writing.specs.Grammar.{Opened, Inside, stands}
use Rattle.exi_events.specs.Open.{opened_of}
use Rattle.exi_events.specs.Writer.{draft_of, IsOffered}
use Rattle.exi_events.proofs.Drafts.{texts_held, same_texts}
use Rattle.exi_events.proofs.Standings.{document_decides, start_decides, inside_decides, iff_both, all_some, found_before, found_at_root, found_by_offer}
use Rattle.exi_events.proofs.writer.EventWriter.found.Goals as goal

pub returns-in-Document-clause-offered : goal.returns-in-Document-clause-offered
returns-in-Document-clause-offered g c =
    iff_both c.outside.ensures.offered
    (document_decides (g.P.Places.schema c.args.self.now.places.now) c.args.self.now.phase c.args.event.now c.args.self.now.elements (draft_of c.args.self.now).bits c.args.self.now.table.now.entries c.in-Document.number c.names_root.result
    c.in-Before.is c.in-Document.is c.names_root.ensures)

pub returns-in-Document-clause-found : goal.returns-in-Document-clause-found
returns-in-Document-clause-found g c =
    all_some c.outside.result _ (λ f. found_before (g.P.Places.schema c.args.self.now.places.now) c.args.self.now.phase c.args.self.now.elements f c.args.event.now c.in-Before.is)

pub returns-in-Start-clause-offered : goal.returns-in-Start-clause-offered
returns-in-Start-clause-offered g c =
    iff_both c.outside-in-Start.ensures.offered
    (start_decides (g.P.Places.schema c.args.self.now.places.now) c.args.self.now.phase c.args.event.now c.args.self.now.elements (draft_of c.args.self.now).bits c.args.self.now.table.now.entries c.in-AtRoot.name c.in-AtRoot.kind c.in-Start.child
    c.in-AtRoot.is c.in-Start.is)

pub returns-in-Start-clause-found : goal.returns-in-Start-clause-found
returns-in-Start-clause-found g c =
    all_some c.outside-in-Start.result _ (λ f. found_at_root (g.P.Places.schema c.args.self.now.places.now) c.args.self.now.phase c.args.self.now.elements f c.args.event.now c.in-AtRoot.name c.in-AtRoot.kind c.in-AtRoot.is)

pub offer_inside-requires-clause-texts : goal.offer_inside-requires-clause-texts
offer_inside-requires-clause-texts g c = texts_held c.written.result.now (draft_of c.args.self.now).bits c.args.self.now.table.now.entries c.written.ensures.holds c.requires.ready.texts

pub returns-in-Some-clause-offered : goal.returns-in-Some-clause-offered
returns-in-Some-clause-offered g c =
    let s = g.P.Places.schema c.args.self.now.places.now in
    let bits = (draft_of c.args.self.now).bits in
    let entries = c.args.self.now.table.now.entries in
    iff_both c.inside.ensures.offered
    (inside_decides s c.args.self.now.phase c.args.event.now c.args.self.now.elements bits entries c.in-Some.top (IsSome c.offer_inside.result) c.in-Inside.is c.in-Some.ensures
    (subst (λ (es : Entries). (above : List Opened) → (IsSome c.offer_inside.result ↔ IsOffered s (stands (Inside (opened_of c.in-Some.top) above) es) c.args.event.now))
    (same_texts c.written.result.now bits entries c.written.ensures.holds c.requires.ready.texts) c.offer_inside.ensures.offered))

pub returns-in-Some-clause-found : goal.returns-in-Some-clause-found
returns-in-Some-clause-found g c =
    found_by_offer (g.P.Places.schema c.args.self.now.places.now) c.args.self.now.phase c.args.self.now.elements c.in-Some.top c.offer_inside.result c.inside.result c.args.event.now c.in-Inside.is c.in-Some.ensures
    c.offer_inside.ensures.found c.inside.ensures.found c.inside.ensures.offered
