use Rattle.std.proofs.Common.{◌≡◌, ℕ, Bool, List, [], ◌∷◌, ◌++◌, sym, subst, ◌∙◌, Result, Ok, Err}
use Rattle.std.specs.Result.{OnOk, OnErr}
use Rattle.exi_bits.specs.Lent.{IsSpan, text_at}
use Rattle.exi_bits.specs.Pens.{written_bits}
use Rattle.exi_bits.specs.declared.span.SpanAt.{SpanAt}
use Rattle.exi_strings.specs.Table.{Table}
use Rattle.exi_values.specs.Meaning.{AreTexts}
use Rattle.exi_reading.proofs.Places.{local_places, place_spelled, AreTexts-push}
use Rattle.exi_tests.proofs.writing.enter_again.Goals as goal

-- whether the table has room or not
entered_or_full : {T E : Type 0} (r : Result T E) (bits : List Bool) (old new : Table SpanAt) (name : ℕ) (at : SpanAt) → AreTexts bits old.entries → IsSpan (text_at bits at) → OnOk r (new ≡ record { entries = old.entries ++ (name, at) ∷ []; cap = old.cap }) → OnErr r (new ≡ old) → AreTexts bits new.entries
entered_or_full (Ok x) bits old new name at all one ok err =
    subst (λ (t : Table SpanAt). AreTexts bits t.entries) (sym ok) (AreTexts-push bits old.entries (name, at) all one)
entered_or_full (Err e) bits old new name at all one ok err = subst (λ (t : Table SpanAt). AreTexts bits t.entries) (sym err) all

pub returns-in-Some-clause-texts : goal.returns-in-Some-clause-texts
returns-in-Some-clause-texts c =
    let bits = written_bits c.args.pen.now in
    entered_or_full c.enter.result bits c.args.table.now c.enter.new.self c.args.name c.in-Some.at c.requires.texts
    (place_spelled bits _ 0 c.in-Some.at (local_places bits c.args.name c.args.table.now.entries c.requires.texts) (c.in-Some.ensures ∙ c.local.ensures))
    c.enter.ensures.ok c.enter.ensures.stays
