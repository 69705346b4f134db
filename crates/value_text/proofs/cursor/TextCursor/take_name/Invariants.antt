use Rattle.exi_schema.specs.Told.{schema_of}
use Rattle.value_text.specs.Forms.{IsBest}
use Rattle.value_text.proofs.NameForms.{awaited_words}
use Rattle.value_text.proofs.cursor.TextCursor.take_name.Given as goal

abbrev pub invariant-loop-i : goal.invariant-loop-i
invariant-loop-i l = IsBest (awaited_words (schema_of l.schema) l.awaited) l.i l.self.rest.now l.best.count l.best.whole
