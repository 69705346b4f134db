use Rattle.std.proofs.Common.{◌≡◌, ℕ, ◌+◌, ◌-◌, ◌*◌, ◌/◌, ◌%◌, ◌^◌, ◌<◌, get_or, ap, subst, ◌∙◌, arith}
use Rattle.exi_spec.specs.Bits.{number_bits}
use Rattle.exi_bits.specs.Written.{Extends}
use Rattle.exi_bits.proofs.Words.{word_of, word_is, word_fits, word_put}
use Rattle.exi_bits.proofs.room.put_word.Goals as goal

pub overflow_add-word-2 : goal.overflow_add-word-2
overflow_add-word-2 c =
    let byte_range : c.from.result < 256 = omega (arith, c.from.ensures, c.type_inv.room (c.args.at / 8)) in
    let short : c.args.at % 8 < 8 = omega arith in
    omega (
      arith,
      word_is c.from.result (c.args.at % 8) c.args.value c.args.n short c.requires.one_word byte_range c.requires.range,
      word_fits c.from.result (c.args.at % 8) c.args.value c.args.n short c.requires.one_word byte_range c.requires.range,
    )

pub returns : goal.returns
returns c =
    let room = c.args.room.now in
    let at = c.args.at in
    let byte_range : get_or room (at / 8) 0 < 256 = omega (arith, c.type_inv.room (at / 8)) in
    let from_range : c.from.result < 256 = omega (arith, c.from.ensures, byte_range) in
    let short : at % 8 < 8 = omega arith in
    let word = word_is c.from.result (at % 8) c.args.value c.args.n short c.requires.one_word from_range c.requires.range ∙ ap (λ (b : ℕ). word_of b (at % 8) c.args.value c.args.n) c.from.ensures in
    word_put room c.put_eight_bytes.new.room at c.args.value c.args.n c.requires.one_word byte_range c.requires.range c.requires.within
    (subst (λ (w : ℕ). Extends room c.put_eight_bytes.new.room (8 * (at / 8)) 64 (number_bits 64 w)) word c.put_eight_bytes.ensures)
