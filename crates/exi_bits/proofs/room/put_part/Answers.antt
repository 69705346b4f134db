use Rattle.std.proofs.Common.{◌≡◌, ℕ, ◌-◌, ◌*◌, ◌/◌, ◌%◌, ◌^◌, bit_or, set, sym, subst, arith}
use Rattle.std.proofs.lemmas.Nat.{shl_whole}
use Rattle.exi_spec.specs.Bits.{number_bits}
use Rattle.exi_bits.specs.Written.{Extends}
use Rattle.exi_bits.proofs.Pushed.{IsPart, part_pushed}
use Rattle.exi_bits.proofs.room.put_part.Goals as goal

pub returns : goal.returns
returns c =
    let room = c.args.room.now in
    let at = c.args.at in
    let n = c.args.n in
    let value = c.args.value in
    let before = c.begun_byte-before.result in
    let behind = 8 - at % 8 - n in
    let shifted : value * 2 ^ behind % 2 ^ 8 ≡ value * 2 ^ behind = shl_whole value n behind 8 c.requires.range (omega (arith, c.requires.one_byte)) in
    let part : IsPart room at n value behind = record {
      some = c.requires.some;
      sum = omega (arith, c.requires.one_byte);
      range = c.requires.range;
      within = c.requires.within;
      clean = c.requires.clean;
    } in
    subst (λ (byte : ℕ). Extends room (set room (at / 8) (bit_or before byte)) at n (number_bits n value)) (sym shifted)
    (part_pushed room at n value behind before part (record { fresh = c.begun_byte-before.ensures.fresh; kept = c.begun_byte-before.ensures.kept }))
