use Rattle.std.proofs.Common.{◌≡◌, ◌<◌, ◌^◌, true, arith, rules}
use Rattle.exi_spec.specs.Bits.{bits_of}
use Rattle.exi_bits.specs.Lent.{four_octets, AreAscii}
use Rattle.exi_bits.proofs.Fours.{four_items}
use Rattle.exi_bits.proofs.contents.four_items_at.Goals as goal
use Rattle.exi_bits.proofs.contents.four_items_at.Goals.{else-ascii-via-then-ascii+else-not-are_ascii, else-ascii-via-else-ascii}

pub returns-clause-first : goal.returns-clause-first
returns-clause-first c =
    let word_range : c.in_ok-word.word < 2 ^ 32 = omega arith in
    let low : c.args.is_text ≡ true → AreAscii (four_octets c.in_ok-word.word) =
    λ t. elim c.else-ascii.branch [
      | else-ascii-via-then-ascii+else-not-are_ascii w ↦ w.are_ascii.ensures.0 w.if-not-are_ascii.false
      | else-ascii-via-else-ascii w ↦ let no = w.if-ascii.false in let yes = c.requires.asked t in absurd cc
    ] in
    (four_items c.args.is_text (bits_of c.args.payload.now) c.args.bit c.args.n c.in_ok-word.word c.if-n-lt4.false word_range low c.requires.spelled c.in_ok-word.ensures.1).0

pub returns-clause-rest : goal.returns-clause-rest
returns-clause-rest c =
    let word_range : c.in_ok-word.word < 2 ^ 32 = omega arith in
    let low : c.args.is_text ≡ true → AreAscii (four_octets c.in_ok-word.word) =
    λ t. elim c.else-ascii.branch [
      | else-ascii-via-then-ascii+else-not-are_ascii w ↦ w.are_ascii.ensures.0 w.if-not-are_ascii.false
      | else-ascii-via-else-ascii w ↦ let no = w.if-ascii.false in let yes = c.requires.asked t in absurd cc
    ] in
    (four_items c.args.is_text (bits_of c.args.payload.now) c.args.bit c.args.n c.in_ok-word.word c.if-n-lt4.false word_range low c.requires.spelled c.in_ok-word.ensures.1).1
