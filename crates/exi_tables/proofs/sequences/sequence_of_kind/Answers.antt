use Rattle.std.proofs.Common.{ap, arith, length, ℕ, ◌+◌, ◌∙◌}
use Rattle.std.proofs.lemmas.List.{length-append}
use Rattle.exi_schema.specs.Told.{schema_of}
use Rattle.exi_tables.proofs.Sequenced.{leads_here, leads_on, leads_to_end, kept_to_end, kept_nowhere, kept_of_many}
use Rattle.exi_tables.proofs.sequences.sequence_of_kind.Goals.{else-loop-test, then-loop-test+in-None}
use Rattle.exi_tables.proofs.sequences.sequence_of_kind.Goals as goal

pub loop-init : goal.loop-init
loop-init c =
    record {
      leads = leads_here (schema_of c.args.schema.now).kinds (record { kind = c.args.kind; particle = 0; copies = 0; attributes = 0 }) c.first-place.result c.new-children.result.items
          (c.first-place.ensures.of_schema (schema_of c.args.schema.now) c.requires) c.first-place.ensures.first c.new-children.ensures.items;
      counted = ap (λ l. length l) c.new-children.ensures.items;
    }

pub returns-in-Some-End-clause-tells : goal.returns-in-Some-End-clause-tells
returns-in-Some-End-clause-tells c =
    leads_to_end (schema_of c.args.schema.now).kinds (record { kind = c.args.kind; particle = 0; copies = 0; attributes = 0 }) c.loop.place c.loop.children.items
    c.loop.invariant.leads (rw c.in-Some-End.field-0-is at c.in-Some-End.ensures.followed)

pub loop-preserved : goal.loop-preserved
loop-preserved c =
    record {
      leads = leads_on (schema_of c.args.schema.now).kinds (record { kind = c.args.kind; particle = 0; copies = 0; attributes = 0 }) c.loop.place c.in-Some-Child.next
          c.loop.children.items c.push.new.self.items c.in-Some-Child.child
          c.loop.invariant.leads (rw c.in-Some-Child.field-0-is at c.in-Some-Child.ensures.followed) c.in_ok-push-in-Some-Child.ensures.items;
      counted = ap (λ l. length l) c.in_ok-push-in-Some-Child.ensures.items ∙ length-append c.loop.children.items _ ∙ ap (λ (n : ℕ). n + 1) c.loop.invariant.counted;
    }

pub returns-in-Some-End-clause-whole : goal.returns-in-Some-End-clause-whole
returns-in-Some-End-clause-whole c =
    kept_to_end (schema_of c.args.schema.now).kinds (record { kind = c.args.kind; particle = 0; copies = 0; attributes = 0 }) c.loop.place c.loop.children.items
    c.loop.invariant.leads (rw c.in-Some-End.field-0-is at c.in-Some-End.ensures.followed)

pub returns-clause-whole : goal.returns-clause-whole
returns-clause-whole c =
    let kinds = (schema_of c.args.schema.now).kinds in
    elim c.loop-test.branch [
      | else-loop-test w ↦ kept_of_many kinds _ c.loop.place c.loop.children.items _ c.loop.invariant.leads (let test = w.loop-test.false in omega (arith, c.loop.invariant.counted))
      | then-loop-test+in-None w ↦ kept_nowhere kinds _ c.loop.place c.loop.children.items _ c.loop.invariant.leads (w.following_at.ensures.none w.in-None.is)
    ]
