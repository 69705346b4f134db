use Rattle.std.proofs.Common.{subst, refl, ℕ}
use Rattle.exi_schema.specs.Sequences.{IsSequence}
use Rattle.exi_writing.specs.Documents.{first}
use Rattle.exi_events.proofs.Sequences.{holds_sequence, same_begun}
use Rattle.exi_events.proofs.reader.EventReader.sequence.Goals as goal

pub returns-clause-sequence : goal.returns-clause-sequence
returns-clause-sequence g c =
    holds_sequence (g.P.Places.schema c.args.self.now.places.now) c.args.self.now.elements c.in_ok-kind.kind c.sequence.result.now c.in_ok-kind.ensures.begun c.sequence.ensures.tells

pub returns-in_err-kind-clause-none : goal.returns-in_err-kind-clause-none
returns-in_err-kind-clause-none g c none all at = c.in_err-kind.ensures.none refl at.name at.kind at.above at.inside

pub returns-clause-whole : goal.returns-clause-whole
returns-clause-whole g c = λ keeps all at few.
    let s = g.P.Places.schema c.args.self.now.places.now in
    let same = same_begun c.args.self.now.phase c.args.self.now.elements c.in_ok-kind.kind c.in_ok-kind.ensures.begun c.in_ok-kind.ensures.inside at.name at.kind at.above at.inside in
    c.sequence.ensures.whole keeps all (subst (λ (k : ℕ). IsSequence s.kinds (first k) all) same at.sequence) few
