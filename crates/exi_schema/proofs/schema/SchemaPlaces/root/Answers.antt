use Rattle.std.proofs.Common.{◌≡◌, subst, sym, length}
use Rattle.exi_schema.specs.declared.places.Root.{Root}
use Rattle.exi_schema.specs.Steps.{IsRoot, IsRootOf}
use Rattle.exi_schema.specs.Told.{schema_of}
use Rattle.exi_schema.proofs.Roots.{is_numbered, root_fits}
use Rattle.exi_schema.proofs.schema.SchemaPlaces.root.Goals as goal
use Rattle.exi_schema.proofs.schema.SchemaPlaces.root.Goals.{else-self-eq2-via-then-self-eq2+else-number-eq3, else-self-eq2-via-else-self-eq2}

pub returns-clause-named : goal.returns-clause-named
returns-clause-named c =
    let P : Root → Type 0 = λ r. IsRoot c.args.self.now.roots.now c.args.self.now.root_bits c.args.number r in
    let coded : ((c.args.self.now.root_bits ≡ 2) × (c.args.number ≡ 3)) → ⊥ = λ h. elim c.else-self-eq2.branch [
      | else-self-eq2-via-then-self-eq2+else-number-eq3 w ↦ w.if-number-eq3.false h.1
      | else-self-eq2-via-else-self-eq2 w ↦ w.if-self-eq2.false h.0
    ] in
    subst P (sym c.root_in.ensures) (is_numbered c.args.self.now.roots.now c.args.self.now.root_bits c.args.number coded)

pub returns-clause-of_schema : goal.returns-clause-of_schema
returns-clause-of_schema c =
    let P : Root → Type 0 = λ r. IsRootOf (schema_of c.args.self.now).kinds (length (schema_of c.args.self.now).names) r in
    subst P (sym c.root_in.ensures) (root_fits (schema_of c.args.self.now) c.args.number)
