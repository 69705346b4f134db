use Rattle.std.proofs.Common.{◌≡◌, true, false, sym, subst, ◌∙◌}
use Rattle.charge_world.specs.declared.entry.Entry.{Entry}
use Rattle.trace_text.specs.Pasts.{is_hearing}
use Rattle.trace_reading.specs.Readings.{IsOf}
use Rattle.trace_reading.proofs.Steps.{one_entry}
use Rattle.trace_reading.proofs.next.next_entry.Goals as goal

pub returns-else-may_come-clause-bad : goal.returns-else-may_come-clause-bad
returns-else-may_come-clause-bad c same e next said =
    let s = c.args.standing.now in
    let read = c.in_ok-entry.ensures.read in
    let is = one_entry s.format s.hearings c.in_ok-entry.entry e c.requires read.0 next.line (sym read.1 ∙ said) in
    let may = subst (λ (d : Entry). IsOf s.posts d × (is_hearing d ≡ true → s.is_over ≡ false)) (sym is) (next.posts, next.hears) in
    let yes = c.may_come.ensures.1 may in
    let both : true ≡ false = sym yes ∙ c.if-may_come.false in cc
