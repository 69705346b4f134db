use Rattle.std.proofs.Common.{refl, arith}
use Rattle.value_text.proofs.HexTexts.{reads_none, reads_more, takes_bytes, wrong_odd}
use Rattle.value_text.proofs.NextLaws.{passes_shorter}
use Rattle.value_text.proofs.cursor.TextCursor.bytes.Goals as goal

pub loop-high-init : goal.loop-high-init
loop-high-init c = reads_none c.args.self.now _ c.new-bytes.ensures.items

pub returns-in_default-hex_digit-clause-fault : goal.returns-in_default-hex_digit-clause-fault
returns-in_default-hex_digit-clause-fault c =
    let first = c.in-Some.ensures in
    let none = c.in_default-hex_digit.ensures in
    wrong_odd c.args.self.now c.loop-high.ahead c.hex_digit.new.self c.hex_digit-in-Some.new.self c.loop-high.bytes.items c.in-Some.high c.loop-high.invariant first.0 first.1 none.0 none.1

pub loop-high-smaller : goal.loop-high-smaller
loop-high-smaller c =
    let first = passes_shorter c.loop-high.ahead c.hex_digit.new.self _ _ c.in-Some.ensures.1 in
    let second = passes_shorter c.hex_digit.new.self c.hex_digit-in-Some.new.self _ _ c.in-Some-hex_digit.ensures.1 in
    omega (arith, first, second)

pub loop-high-preserved : goal.loop-high-preserved
loop-high-preserved c =
    let first = c.in-Some.ensures in
    let second = c.in-Some-hex_digit.ensures in
    reads_more c.args.self.now c.loop-high.ahead c.hex_digit.new.self c.hex_digit-in-Some.new.self c.loop-high.bytes.items c.put.new.bytes.items c.in-Some.high c.in-Some-hex_digit.low _
    c.loop-high.invariant first.0 second.0 first.1 second.1 refl c.in_ok-put.ensures

pub returns-clause-taken : goal.returns-clause-taken
returns-clause-taken c =
    let none = c.in_default.ensures in
    takes_bytes c.args.self.now c.loop-high.ahead c.hex_digit.new.self c.loop-high.bytes.items c.loop-high.invariant none.0 none.1
