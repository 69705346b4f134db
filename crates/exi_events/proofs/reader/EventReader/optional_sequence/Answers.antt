use Rattle.std.proofs.Common.{rules, subst, sym, refl, ap, ◌∙◌, ℕ}
use Rattle.exi_schema.specs.declared.places.OptionalSequence.{OptionalSequence}
use Rattle.exi_schema.specs.Sequences.{IsOptionalSequence}
use Rattle.exi_writing.specs.Documents.{first}
use Rattle.exi_events.proofs.OptionalTaken.{holds_optional, kept_optional, none_kept}
use Rattle.exi_events.proofs.Sequences.{same_begun}
use Rattle.exi_events.proofs.reader.EventReader.optional_sequence.Goals as goal

pub returns-clause-sequence : goal.returns-clause-sequence
returns-clause-sequence g c =
    let alone = c.has_second.ensures.alone (search (rules, c.if-not-has_second.false)) in
    holds_optional (g.P.Places.schema c.args.self.now.places.now) c.args.self.now.elements c.in_ok-kind.kind c.args.second c.in_ok-children.children.now c.in_ok-kind.ensures.begun c.in_ok-children.ensures.tells alone.0 alone.1

pub returns-in_err-kind-clause-none : goal.returns-in_err-kind-clause-none
returns-in_err-kind-clause-none g c none keeps all at = c.in_err-kind.ensures.none refl at.name at.kind at.above at.inside

pub returns-in_err-children-clause-none : goal.returns-in_err-children-clause-none
returns-in_err-children-clause-none g c none keeps all at =
    let s = g.P.Places.schema c.args.self.now.places.now in
    let same = same_begun c.args.self.now.phase c.args.self.now.elements c.in_ok-kind.kind c.in_ok-kind.ensures.begun c.in_ok-kind.ensures.inside at.name at.kind at.above at.inside in
    none_kept c.optional_sequence.result all c.in_err-children.was (c.optional_sequence.ensures.whole keeps all (subst (λ (k : ℕ). IsOptionalSequence s.kinds (first k) all) same at.sequence))

pub returns-then-not-has_second-clause-none : goal.returns-then-not-has_second-clause-none
returns-then-not-has_second-clause-none g c none keeps all at =
    let s = g.P.Places.schema c.args.self.now.places.now in
    let same = same_begun c.args.self.now.phase c.args.self.now.elements c.in_ok-kind.kind c.in_ok-kind.ensures.begun c.in_ok-kind.ensures.inside at.name at.kind at.above at.inside in
    let kept = kept_optional c.optional_sequence.result c.in_ok-children.children all (c.optional_sequence.ensures.whole keeps all (subst (λ (k : ℕ). IsOptionalSequence s.kinds (first k) all) same at.sequence)) c.in_ok-children.was in
    c.has_second.ensures.other (search (rules, c.if-not-has_second.true)) (ap (λ (x : OptionalSequence). x.second.name) kept ∙ at.named) (λ is. at.other (sym (ap (λ (x : OptionalSequence). x.third.name) kept) ∙ is))

pub returns-clause-whole : goal.returns-clause-whole
returns-clause-whole g c = λ keeps all at.
    let s = g.P.Places.schema c.args.self.now.places.now in
    let same = same_begun c.args.self.now.phase c.args.self.now.elements c.in_ok-kind.kind c.in_ok-kind.ensures.begun c.in_ok-kind.ensures.inside at.name at.kind at.above at.inside in
    kept_optional c.optional_sequence.result c.in_ok-children.children all (c.optional_sequence.ensures.whole keeps all (subst (λ (k : ℕ). IsOptionalSequence s.kinds (first k) all) same at.sequence)) c.in_ok-children.was
