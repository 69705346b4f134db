use Rattle.std.proofs.lemmas.Result.{err_from_is_err_and}
use Rattle.exi_schema.specs.Told.{schema_of}
use Rattle.dialect_text.proofs.Simples.{simple_stalls, simple_taken, simple_ended}
use Rattle.dialect_text.proofs.step.take_simple.Goals as goal

pub returns-in_err-value-in-Nothing-clause-fault : goal.returns-in_err-value-in-Nothing-clause-fault
returns-in_err-value-in-Nothing-clause-fault c =
    let p = err_from_is_err_and c.from_residual.result c.from_residual.ensures.1 in
    rw (p.1, p.2) (simple_stalls (schema_of c.args.schema.now) c.args.elements.now c.args.top c.args.cursor.now _ c.requires.top c.requires.sound c.in-Nothing.is c.in_err-value-in-Nothing.ensures.fault)

pub returns-in_ok-value-in-Nothing-clause-ok : goal.returns-in_ok-value-in-Nothing-clause-ok
returns-in_ok-value-in-Nothing-clause-ok c =
    simple_taken (schema_of c.args.schema.now) c.args.elements.now c.fill.new.self c.args.top _ c.args.cursor.now c.take_value.new.cursor c.requires.top c.requires.sound c.in-Nothing.is c.fill.ensures c.in_ok-value-in-Nothing.ensures.ok

pub returns-in-Attributes : goal.returns-in-Attributes
returns-in-Attributes c =
    record { ok = simple_ended (schema_of c.args.schema.now) c.args.elements.now c.pop.new.self c.args.top c.args.cursor.now c.requires.top c.requires.sound c.requires.simple c.in-Attributes.is c.pop.ensures; fault = tt; kept = tt }
