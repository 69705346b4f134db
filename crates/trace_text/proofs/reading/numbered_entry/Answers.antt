use Rattle.std.proofs.Common.{◌≡◌, ◌∷◌, [], ◌∙◌, sym, arith}
use Rattle.std.specs.Prelude.{decimal}
use Rattle.std.specs.List.{slice_split}
use Rattle.text_tokens.proofs.Cuts.{is_space}
use Rattle.trace_text.specs.TraceText.{line_of}
use Rattle.trace_text.proofs.WholeLines.{numbered_cut, numbered_read, numbered_missed, some_cut, passed_on}
use Rattle.trace_text.proofs.reading.numbered_entry.Goals as goal

pub returns-in_err-next : goal.returns-in_err-next
returns-in_err-next c =
    passed_on _ _ _ _ c.from_residual.ensures (λ bad x is said.
    let none : decimal x.0 ∷ slice_split is_space (line_of x.1) ≡ [] = cc (c.in_err-next.ensures.1, c.of-words.ensures, numbered_cut c.args.line.now x is said) in cc)

pub returns-in_err-hearing : goal.returns-in_err-hearing
returns-in_err-hearing c =
    passed_on _ _ _ _ c.from_residual-in_err-hearing.ensures (λ bad x is said.
    let cut = sym c.in_ok-next.ensures ∙ c.of-words.ensures ∙ numbered_cut c.args.line.now x is said in
    c.in_err-hearing.ensures.1 x.0 (omega arith, omega (arith, is.0)) cc)

pub returns-in_err-rest : goal.returns-in_err-rest
returns-in_err-rest c =
    passed_on _ _ _ _ c.from_residual-in_err-rest.ensures (λ bad x is said.
    let cut = sym c.in_ok-next.ensures ∙ c.of-words.ensures ∙ numbered_cut c.args.line.now x is said in
    let none : slice_split is_space (line_of x.1) ≡ [] = cc (cut, c.in_err-rest.ensures.1) in some_cut (line_of x.1) none)

pub returns-in_err-entry : goal.returns-in_err-entry
returns-in_err-entry c =
    let cut = rw (c.in_ok-hearing.ensures.1, c.in_ok-rest.ensures) at (sym c.of-words.ensures ∙ c.in_ok-next.ensures) in
    passed_on _ _ _ _ c.from_residual-in_err-entry.ensures
    (numbered_missed c.args.line.now c.in_ok-rest.field-0.now c.in_ok-hearing.hearing c.in_err-entry.field-0.0 cut c.in_err-entry.ensures)

pub returns : goal.returns
returns c =
    let cut = rw (c.in_ok-hearing.ensures.1, c.in_ok-rest.ensures) at (sym c.of-words.ensures ∙ c.in_ok-next.ensures) in
    numbered_read c.args.line.now c.in_ok-rest.field-0.now c.in_ok-hearing.hearing c.in_ok-entry.entry (omega (arith, c.in_ok-hearing.ensures.0)) cut c.in_ok-entry.ensures
