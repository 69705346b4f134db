use Rattle.std.proofs.Common.{◌≡◌, ◌∙◌, ap, subst, sym, length}
use Rattle.exi_schema.specs.Counts.{root_numbered}
use Rattle.exi_schema.specs.declared.places.Root.{Root}
use Rattle.exi_schema.specs.Steps.{IsRoot, IsRootOf}
use Rattle.exi_schema.proofs.Roots.{is_numbered, root_fits}
use Rattle.exi_tables.proofs.compiled.RowsPlaces.root.Goals as goal
use Rattle.exi_tables.proofs.compiled.RowsPlaces.root.Goals.{else-self-eq2-via-then-self-eq2+else-number-eq3, else-self-eq2-via-else-self-eq2}

pub returns-clause-named : goal.returns-clause-named
returns-clause-named g c =
    let s = g.D.Declared.schema in
    let root : c.root_in.result ≡ root_numbered s.roots c.args.number =
    c.root_in.ensures ∙ ap (λ roots. root_numbered roots c.args.number) (c.as_slice.ensures.value ∙ c.self.invariant.2) in
    let coded : ((s.root_bits ≡ 2) × (c.args.number ≡ 3)) → ⊥ = λ h. elim c.else-self-eq2.branch [
      | else-self-eq2-via-then-self-eq2+else-number-eq3 w ↦ w.if-number-eq3.false h.1
      | else-self-eq2-via-else-self-eq2 w ↦ w.if-self-eq2.false (c.self.invariant.1 ∙ h.0)
    ] in
    subst (λ (r : Root). IsRoot s.roots s.root_bits c.args.number r) (sym root) (is_numbered s.roots s.root_bits c.args.number coded)

pub returns-clause-of_schema : goal.returns-clause-of_schema
returns-clause-of_schema g c =
    let s = g.D.Declared.schema in
    let root : c.root_in.result ≡ root_numbered s.roots c.args.number =
    c.root_in.ensures ∙ ap (λ roots. root_numbered roots c.args.number) (c.as_slice.ensures.value ∙ c.self.invariant.2) in
    subst (λ (r : Root). IsRootOf s.kinds (length s.names) r) (sym root) (root_fits s c.args.number)
