use Rattle.std.proofs.Common.{◌≡◌, refl, arith, length}
use Rattle.std.proofs.lemmas.List.{length-map}
use Rattle.exi_schema.specs.Told.{schema_of}
use Rattle.value_text.specs.Forms.{awaited_text}
use Rattle.value_text.proofs.BestWords.{best_ascii, all_words, mapped_at, takes_best, wrong_best, first_word}
use Rattle.value_text.proofs.NameForms.{awaited_words, name_at, are_names, awaited_ascii, takes_name, no_name, agrees_named, whole_named}
use Rattle.value_text.proofs.cursor.TextCursor.take_name.Goals as goal

pub loop-i-preserved : goal.loop-i-preserved
loop-i-preserved c =
    c.with-best.ensures (awaited_words (schema_of c.args.schema.now) c.args.awaited.now) c.args.self.now.rest.now _
    (mapped_at (λ one. awaited_text (name_at (schema_of c.args.schema.now) one.name) one.end) c.args.awaited.now c.loop-i.i _ c.loop-i-test.true)
    (agrees_named (schema_of c.args.schema.now) c.args.self.now.rest.now c.name.result.now _ _ c.name.ensures c.agreed_awaited-count.ensures.agreed)
    (whole_named (schema_of c.args.schema.now) c.name.result.now _ _ _ c.name.ensures c.agreed_awaited-count.ensures.whole)
    c.loop-i.invariant

pub take_best-requires-clause-ascii : goal.take_best-requires-clause-ascii
take_best-requires-clause-ascii c =
    let fit = are_names (schema_of c.args.schema.now) c.args.awaited.now c.requires.names c.requires.ends in
    best_ascii (awaited_words (schema_of c.args.schema.now) c.args.awaited.now) c.loop-i.i c.args.self.now.rest.now c.loop-i.best.count c.loop-i.best.whole (awaited_ascii (schema_of c.args.schema.now) c.args.awaited.now fit) c.loop-i.invariant

pub returns-in-Ok-clause-taken : goal.returns-in-Ok-clause-taken
returns-in-Ok-clause-taken c =
    let fit = are_names (schema_of c.args.schema.now) c.args.awaited.now c.requires.names c.requires.ends in
    let words = awaited_words (schema_of c.args.schema.now) c.args.awaited.now in
    let all : c.loop-i.i ≡ length words = omega (arith, length-map c.args.awaited.now (λ one. awaited_text (name_at (schema_of c.args.schema.now) one.name) one.end), c.loop-i-test.false, c.loop-i.auto.i-end) in
    takes_name (schema_of c.args.schema.now) c.args.awaited.now c.args.self.now c.in-Ok.behind c.in-Ok.i fit
    (takes_best words c.args.self.now c.in-Ok.behind c.loop-i.best.count c.in-Ok.i c.loop-i.best.whole (awaited_ascii (schema_of c.args.schema.now) c.args.awaited.now fit)
    (all_words words c.loop-i.i _ _ _ _ all c.loop-i.invariant) c.in-Ok.ensures.taken.0 c.in-Ok.ensures.taken.1)

pub returns-in-Err-clause-fault : goal.returns-in-Err-clause-fault
returns-in-Err-clause-fault c =
    let fit = are_names (schema_of c.args.schema.now) c.args.awaited.now c.requires.names c.requires.ends in
    let words = awaited_words (schema_of c.args.schema.now) c.args.awaited.now in
    let count = length-map c.args.awaited.now (λ one. awaited_text (name_at (schema_of c.args.schema.now) one.name) one.end) in
    let all : c.loop-i.i ≡ length words = omega (arith, count, c.loop-i-test.false, c.loop-i.auto.i-end) in
    let first = first_word words (omega (arith, count, c.requires.any)) in (
      no_name (schema_of c.args.schema.now) c.args.awaited.now c.args.self.now c.in-Err.place fit
          (wrong_best words c.args.self.now c.loop-i.best.count c.in-Err.place c.loop-i.best.whole first.0 (awaited_ascii (schema_of c.args.schema.now) c.args.awaited.now fit) first.1
          (all_words words c.loop-i.i _ _ _ _ all c.loop-i.invariant) c.in-Err.ensures.fault.0 c.in-Err.ensures.fault.1),
      refl,
    )
