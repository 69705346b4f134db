use Rattle.std.proofs.Common.{◌≡◌, Ok, refl, sym, ap, ◌∙◌, inl, ℕ}
use Rattle.charge_world.specs.declared.entry.Entry.{Entry}
use Rattle.trace_text.proofs.WholeLines.{numbered_same}
use Rattle.trace_text.proofs.reading.read_numbered.Goals as goal

pub returns-in-Ok-clause-readable : goal.returns-in-Ok-clause-readable
returns-in-Ok-clause-readable c n e small is said =
    let read = c.in-Ok.ensures in
    let same = numbered_same c.in-Ok.hearing n c.in-Ok.entry e read.0.0 small read.0.1 is (sym read.1 ∙ said) in
    let hearing : c.in-Ok.hearing ≡ n = same.0 in
    let entry : c.in-Ok.entry ≡ e = same.1 in
    inl (ap (λ (m : ℕ). Ok (m, c.in-Ok.entry)) hearing ∙ ap (λ (d : Entry). Ok (n, d)) entry)

pub returns-in-Err-Bad-clause-readable : goal.returns-in-Err-Bad-clause-readable
returns-in-Err-Bad-clause-readable c n e small is said = let none = rw c.in-Err-Bad.field-0-is at c.in-Err-Bad.ensures in absurd (none refl (n, e) (small, is) said)

pub returns-in-Err-Bad-clause-bad : goal.returns-in-Err-Bad-clause-bad
returns-in-Err-Bad-clause-bad c same n e small is said = let none = rw c.in-Err-Bad.field-0-is at c.in-Err-Bad.ensures in none refl (n, e) (small, is) said
