use Rattle.std.proofs.Common.{◌≡◌, ℕ, ◌-◌, subst, sym, arith}
use Rattle.std.specs.Int.Count.{count_leading_zeros}
use Rattle.exi_values.specs.Texts.{IsIndexWidth}
use Rattle.exi_reading.proofs.Widths.{told_width}
use Rattle.exi_reading.proofs.items.index_width.Goals as goal

pub returns-clause-least : goal.returns-clause-least
returns-clause-least c =
    let less : c.saturating_sub.result ≡ c.args.count - 1 = omega (arith, c.saturating_sub.ensures) in
    subst (λ (k : ℕ). IsIndexWidth c.args.count (32 - count_leading_zeros 32 k)) (sym less) (told_width c.args.count (omega (arith, c.ranges.count.fits)))
