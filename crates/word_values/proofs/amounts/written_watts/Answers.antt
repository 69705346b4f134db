use Rattle.std.proofs.Common.{◌≡◌, ◌≤◌, pos, to_z, w8, arith, ap, sym, ◌∙◌, ℤ}
use Rattle.std.proofs.lemmas.Int.{ints, to_z_pos}
use mir.Syntax.{w16}
use Rattle.word_values.specs.declared.amounts.Written.{Written}
use Rattle.word_values.specs.Amounts as amounts
use Rattle.word_values.proofs.WrittenLemmas.{watts_written}
use Rattle.word_values.proofs.amounts.written_watts.Goals as goal

pub returns-clause-value : goal.returns-clause-value
returns-clause-value c =
    let few : c.written_watts-written.result.multiplier ≤ 3 = c.written_watts-written.ensures.bound in
    let fits : c.written_watts-written.result.value ≤ 32767 = c.written_watts-written.ensures.written.fits in
    let m : to_z w8 c.written_watts-written.result.multiplier ≡ pos c.written_watts-written.result.multiplier = omega (arith, ints) in
    let v : to_z w16 c.written_watts-written.result.value ≡ pos c.written_watts-written.result.value = omega (arith, ints) in
    rw (m, v) (watts_written c.args.watts c.written_watts-written.result.multiplier c.written_watts-written.result.value c.requires c.written_watts-written.ensures.written)
