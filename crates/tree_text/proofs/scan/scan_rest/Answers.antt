use Rattle.std.proofs.Common.{◌∷◌, ◌++◌, ◌∙◌, ap}
use Rattle.exi_schema.specs.Told.{schema_of}
use Rattle.dialect_text.specs.Scanning.{event_of}
use Rattle.tree_text.proofs.Scanned.{still_ready, said_on, said_all}
use Rattle.tree_text.proofs.scan.scan_rest.Goals as goal

pub loop-said-preserved : goal.loop-said-preserved
loop-said-preserved c =
    let before = c.loop-said.invariant in
    record {
      same_schema = c.next.ensures.same_schema ∙ before.same_schema;
      same_text = c.next.ensures.same_text ∙ before.same_text;
      ready = still_ready _ _ _ _ _ _ _ (ap schema_of before.same_schema) before.same_text c.next.ensures.ready;
      said = λ events h.
          let more = before.said events h in
          (event_of c.in-Some.said ∷ more.0, said_on _ _ _ _ _ c.in-Some.said _ _ _ _ (ap schema_of before.same_schema) before.same_text c.in-Some.is c.in_ok-said.ensures.said (more.0 ++ events) more.1);
    }

pub returns-clause-rest : goal.returns-clause-rest
returns-clause-rest c events h =
    let before = c.loop-said.invariant in
    let more = before.said events h in
    (more.0, said_all _ _ _ _ _ _ _ (ap schema_of before.same_schema) before.same_text c.in_default.is c.in_ok-said.ensures.ended (more.0 ++ events) more.1)
