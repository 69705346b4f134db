use Rattle.std.proofs.Common.{◌≡◌, List, ℕ, Ok, true, false, sym, ap, subst, ◌∙◌, inl}
use Rattle.charge_world.specs.declared.entry.Entry.{Entry}
use Rattle.trace_text.specs.TraceText.{line_of, IsLine, IsLine1, IsOfFormat1}
use Rattle.trace_text.proofs.WholeLines.{line_same}
use Rattle.trace_text.proofs.reading.read_line.Goals as goal

pub returns-in-Ok-clause-readable : goal.returns-in-Ok-clause-readable
returns-in-Ok-clause-readable c e is said =
    let read = c.in-Ok.ensures in
    inl (ap Ok (line_same c.in-Ok.entry e read.0 is.0 (sym read.1 ∙ said)))

-- what isn't of format 1 is no other entry that is
other : (d e : Entry) (line : List ℕ) → IsLine d × (line ≡ line_of d) → (IsOfFormat1 d → ⊥) → IsLine1 e → line ≡ line_of e → ⊥
other d e line read not is said = not (subst IsOfFormat1 (sym (line_same d e read.0 is.0 (sym read.1 ∙ said))) is.1)

pub returns-in-Ok-2-clause-readable : goal.returns-in-Ok-2-clause-readable
returns-in-Ok-2-clause-readable c e is said =
    absurd (other c.in-Ok.entry e c.args.line.now c.in-Ok.ensures (λ (yes : IsOfFormat1 c.in-Ok.entry). let both : true ≡ false = sym (c.is_of_format_1.ensures.1 yes) ∙ c.if-is_of_format_1.false in cc) is said)

pub returns-in-Ok-2-clause-bad : goal.returns-in-Ok-2-clause-bad
returns-in-Ok-2-clause-bad c same e is said =
    other c.in-Ok.entry e c.args.line.now c.in-Ok.ensures (λ (yes : IsOfFormat1 c.in-Ok.entry). let both : true ≡ false = sym (c.is_of_format_1.ensures.1 yes) ∙ c.if-is_of_format_1.false in cc) is said
