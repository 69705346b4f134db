use Rattle.std.proofs.Common.{◌≡◌, ℕ, List, length, true, false, ap, ◌∙◌}
use Rattle.std.specs.Prelude.{◌==◌}
use Rattle.exi_schema.specs.Told.{schema_of}
use Rattle.dialect_text.proofs.Scans.{inside_stalls}
use Rattle.dialect_text.proofs.scanner.DialectScanner.step_inside.Goals as goal

pub returns-in-None-2-clause-fault : goal.returns-in-None-2-clause-fault
returns-in-None-2-clause-fault c =
    inside_stalls (schema_of c.args.self.now.schema.now) c.args.self.now.elements c.args.self.now.cursor c.in-None-2.ensures
    (λ e. let wrong : false ≡ true = c.if-is_empty.ensures ∙ ap (λ (xs : List ℕ). length xs == 0) e in cc)
