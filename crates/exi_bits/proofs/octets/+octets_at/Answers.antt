use Rattle.std.proofs.Common.{ℕ, ◌+◌, subst, sym, arith}
use Rattle.std.proofs.lemmas.Result.{err_from_is_err_and}
use Rattle.exi_spec.specs.Bits.{bits_of}
use Rattle.exi_spec.specs.Items.{SpellsOctets}
use Rattle.exi_spec.proofs.BitLaws.{length-bits_of}
use Rattle.exi_bits.specs.Reading.{ItemAt}
use Rattle.exi_bits.proofs.Steps.{item_first, item_more, refused_more, refused_last, refused_wide, refused_short}
use Rattle.exi_bits.proofs.octets.+octets_at.Goals as goal

pub returns-in_default-clause-found : goal.returns-in_default-clause-found
returns-in_default-clause-found t c =
    let h = c.in_default.ensures in
    refused_short c.args.most c.args.bit (bits_of c.args.payload.now) c.requires.some (omega (arith, length-bits_of c.args.payload.now, h))

pub returns-then-octet-lt128-clause-found : goal.returns-then-octet-lt128-clause-found
returns-then-octet-lt128-clause-found t c =
    subst (λ (v : ℕ). ItemAt (SpellsOctets c.args.most v) (bits_of c.args.payload.now) c.args.bit 8) (sym c.from.ensures)
    (item_first c.args.most c.in-Some.octet c.args.bit (bits_of c.args.payload.now) c.requires.some c.if-octet-lt128.true c.in-Some.ensures.2)

pub returns-then-most-eq1-clause-found : goal.returns-then-most-eq1-clause-found
returns-then-most-eq1-clause-found t c =
    refused_last c.args.most c.in-Some.octet c.args.bit (bits_of c.args.payload.now) c.if-most-eq1.true c.if-octet-lt128.false c.in-Some.ensures.0 c.in-Some.ensures.2

pub returns-in_err-high-clause-found : goal.returns-in_err-high-clause-found
returns-in_err-high-clause-found t c =
    let p = err_from_is_err_and c.from_residual.result c.from_residual.ensures.1 in
    rw (p.1, p.2) (refused_more c.args.most c.in-Some.octet c.args.bit (bits_of c.args.payload.now) _ c.requires.some c.if-octet-lt128.false c.in-Some.ensures.0 c.in-Some.ensures.2 c.in_err-high.ensures.found)

pub returns-then-high-clause-found : goal.returns-then-high-clause-found
returns-then-high-clause-found t c =
    refused_wide c.args.most c.in-Some.octet c.in_ok-high.high c.args.bit c.in_ok-high.bits (bits_of c.args.payload.now) c.requires.some c.if-octet-lt128.false c.in-Some.ensures.0 c.if-high.true c.in-Some.ensures.2 c.in_ok-high.ensures.found

pub returns-clause-found : goal.returns-clause-found
returns-clause-found t c =
    subst (λ (v : ℕ). ItemAt (SpellsOctets c.args.most v) (bits_of c.args.payload.now) c.args.bit (c.in_ok-high.bits + 8)) (sym c.octets_value.ensures)
    (item_more c.args.most c.in-Some.octet c.in_ok-high.high c.args.bit c.in_ok-high.bits (bits_of c.args.payload.now) c.requires.some c.if-octet-lt128.false c.in-Some.ensures.0 c.if-high.false c.in-Some.ensures.2 c.in_ok-high.ensures.found)
