use Rattle.std.proofs.Common.{rules, ℕ, ◌≡◌, ◌∙◌, refl, subst, length, min, arith}
use Rattle.std.proofs.lemmas.List.{length-map}
use Rattle.exi_schema.specs.Plain.{plain_kind}
use Rattle.exi_schema.specs.Schemas.{PlainSchema}
use Rattle.exi_schema.specs.Told.{schema_of}
use Rattle.exi_tables.specs.Filled.{IsTable, IsKindTable, HoldsKinds}
use Rattle.exi_tables.proofs.Tables.{table_grows}
use Rattle.exi_tables.proofs.compiled.compile.Goals as goal

pub loop-kind-preserved : goal.loop-kind-preserved
loop-kind-preserved g c = table_grows _ _ _ _ _ c.loop-kind.invariant c.in_ok-table_of_kind.ensures c.in_ok-push.ensures.items

pub invariant_of-result : goal.invariant_of-result
invariant_of-result g c =
    let s = schema_of c.args.schema.now in
    let Holds : PlainSchema → Type 0 = λ x. HoldsKinds x c.loop-kind.kinds.items × (c.args.schema.now.root_bits ≡ x.root_bits) × (s.roots ≡ x.roots) in
    let count : c.loop-kind.kind ≡ min (length s.kinds) 65536 = omega (arith, c.min-count.ensures, c.loop-kind-test.false, c.loop-kind.auto.kind-end, length-map c.args.schema.now.kinds.now plain_kind) in
    let holds : HoldsKinds s c.loop-kind.kinds.items = subst (λ (n : ℕ). IsTable n (IsKindTable s) c.loop-kind.kinds.items) count c.loop-kind.invariant in
    let told = subst Holds c.requires (holds, refl, refl) in
    let roots : c.extend_from_slice.new.self.items ≡ s.roots = search rules in
    (told.0, told.1, roots ∙ told.2)
