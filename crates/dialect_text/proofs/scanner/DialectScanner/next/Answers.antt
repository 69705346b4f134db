use Rattle.std.proofs.Common.{sym, subst}
use Rattle.exi_schema.specs.Told.{schema_of}
use Rattle.dialect_text.specs.declared.scanner.DialectScanner.{DialectScanner}
use Rattle.value_text.specs.Faults.{place_in}
use Rattle.dialect_text.specs.Scanning.{IsReady, standing_of}
use Rattle.dialect_text.proofs.Scans.{next_ready, next_said, next_ended, next_fewer, fault_ready, fault_of_text}
use Rattle.dialect_text.proofs.scanner.DialectScanner.next.Goals as goal

pub returns-in-Ok-clause-ready : goal.returns-in-Ok-clause-ready
returns-in-Ok-clause-ready c =
    next_ready (schema_of c.args.self.now.schema.now) c.args.self.now.text.now (standing_of c.args.self.now.phase c.args.self.now.elements) (standing_of c.step.new.self.phase c.step.new.self.elements) c.args.self.now.cursor c.step.new.self.cursor
    c.args.self.now.fault c.step.new.self.fault c.in-Ok.said c.requires.ready c.in-Ok.ensures.same_fault c.in-Ok.ensures.ok

pub returns-in-Ok-clause-said : goal.returns-in-Ok-clause-said
returns-in-Ok-clause-said c =
    next_said (schema_of c.args.self.now.schema.now) c.args.self.now.text.now (standing_of c.args.self.now.phase c.args.self.now.elements) (standing_of c.step.new.self.phase c.step.new.self.elements) c.args.self.now.cursor c.step.new.self.cursor
    c.in-Ok.said c.in-Ok.ensures.ok

pub returns-in-Ok-clause-ended : goal.returns-in-Ok-clause-ended
returns-in-Ok-clause-ended c =
    next_ended (schema_of c.args.self.now.schema.now) c.args.self.now.text.now (standing_of c.args.self.now.phase c.args.self.now.elements) (standing_of c.step.new.self.phase c.step.new.self.elements) c.args.self.now.cursor c.step.new.self.cursor
    c.in-Ok.said c.in-Ok.ensures.ok

pub returns-in-Ok-clause-fewer : goal.returns-in-Ok-clause-fewer
returns-in-Ok-clause-fewer c =
    next_fewer (schema_of c.args.self.now.schema.now) (standing_of c.args.self.now.phase c.args.self.now.elements) (standing_of c.step.new.self.phase c.step.new.self.elements) c.args.self.now.cursor c.step.new.self.cursor
    c.in-Ok.said c.in-Ok.ensures.ok

pub returns-in-Err-clause-ready : goal.returns-in-Err-clause-ready
returns-in-Err-clause-ready c =
    subst (λ (p : _). IsReady (schema_of c.args.self.now.schema.now) c.args.self.now.text.now (standing_of c.step.new.self.phase c.step.new.self.elements) c.step.new.self.cursor p) (sym c.place-self.ensures)
    (subst (λ (x : DialectScanner). IsReady (schema_of c.args.self.now.schema.now) c.args.self.now.text.now (standing_of x.phase x.elements) x.cursor (place_in c.in-Err.fault)) (sym c.in-Err.ensures.kept)
    (fault_ready (schema_of c.args.self.now.schema.now) c.args.self.now.text.now (standing_of c.args.self.now.phase c.args.self.now.elements) c.args.self.now.cursor c.args.self.now.fault c.in-Err.fault c.requires.ready c.in-Err.ensures.fault))

pub returns-in-Err-clause-fault : goal.returns-in-Err-clause-fault
returns-in-Err-clause-fault c =
    fault_of_text (schema_of c.args.self.now.schema.now) c.args.self.now.text.now (standing_of c.args.self.now.phase c.args.self.now.elements) c.args.self.now.cursor c.in-Err.fault
    c.requires.ready.utf8 c.requires.ready.sound c.requires.ready.read c.in-Err.ensures.fault
