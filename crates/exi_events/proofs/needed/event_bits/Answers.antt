use Rattle.std.proofs.Common.{ℕ, ◌+◌, ap}
use Rattle.exi_bits.specs.Pens.{written_bits}
use Rattle.exi_events.proofs.Measured.{bits_before}
use Rattle.exi_events.proofs.needed.event_bits.Goals as goal

pub returns-in-Before-clause-bits : goal.returns-in-Before-clause-bits
returns-in-Before-clause-bits g c =
    bits_before (g.P.Places.schema c.args.places.now) c.args.phase c.args.event.now c.args.elements.now (written_bits c.args.pen.now) c.args.table.now.entries c.in-Before.is
    c.root_width.result _ c.root_width.ensures (ap (λ (n : ℕ). 8 + n) c.from.ensures) c.requires.offered
