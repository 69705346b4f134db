use Rattle.std.proofs.Common.{sym, subst, ◌∷◌, []}
use Rattle.value_text.specs.declared.cursor.TextCursor.{TextCursor}
use Rattle.value_text.specs.Scanning.{Passes}
use Rattle.value_text.proofs.EscapeTexts.{low, takes_one_digit, takes_two_digits, no_number, no_brace, no_second, no_end}
use Rattle.value_text.proofs.cursor.TextCursor.numbered.Goals as goal

pub returns-in_default-clause-fault : goal.returns-in_default-clause-fault
returns-in_default-clause-fault c = no_number c.args.self.now c.hex_digit.new.self c.in_default.ensures.0 c.in_default.ensures.1

pub returns-then-take_char-clause-taken : goal.returns-then-take_char-clause-taken
returns-then-take_char-clause-taken c =
    rw c.from.ensures (takes_one_digit c.args.self.now c.hex_digit.new.self c.take_char.new.self c.in-Some.digit c.in-Some.ensures.0 c.in-Some.ensures.1 c.if-take_char.ensures)

pub returns-then-digit-ne1-clause-fault : goal.returns-then-digit-ne1-clause-fault
returns-then-digit-ne1-clause-fault c =
    no_brace c.args.self.now c.hex_digit.new.self c.take_char.new.self c.in-Some.digit c.in-Some.ensures.0 c.if-digit-ne1.true c.in-Some.ensures.1 c.if-take_char.ensures.0 c.if-take_char.ensures.1

pub returns-in_default-hex_digit-clause-fault : goal.returns-in_default-hex_digit-clause-fault
returns-in_default-hex_digit-clause-fault c =
    let none = c.in_default-hex_digit.ensures in
    no_second c.args.self.now c.hex_digit.new.self c.take_char.new.self c.hex_digit-2.new.self c.in-Some.digit c.in-Some.ensures.0 c.in-Some.ensures.1 c.if-take_char.ensures.0 none.0 c.if-take_char.ensures.1 none.1

pub returns-clause-fault : goal.returns-clause-fault
returns-clause-fault c =
    let first = subst (λ (x : TextCursor). Passes c.args.self.now (low c.in-Some.digit ∷ []) x) (sym c.if-take_char.ensures.0) c.in-Some.ensures.1 in
    let second = c.in-Some-hex_digit.ensures in
    no_end c.args.self.now c.take_char.new.self c.hex_digit-2.new.self c.take_char-2.new.self c.in-Some.digit c.in-Some-hex_digit.low c.if-digit-ne1.false second.0 first second.1 c.if-take_char-2.ensures.0 c.if-take_char-2.ensures.1

pub returns-then-take_char-2-clause-taken : goal.returns-then-take_char-2-clause-taken
returns-then-take_char-2-clause-taken c =
    let first = subst (λ (x : TextCursor). Passes c.args.self.now (low c.in-Some.digit ∷ []) x) (sym c.if-take_char.ensures.0) c.in-Some.ensures.1 in
    let second = c.in-Some-hex_digit.ensures in
    rw c.from-then-take_char-2.ensures (takes_two_digits c.args.self.now c.take_char.new.self c.hex_digit-2.new.self c.take_char-2.new.self c.in-Some.digit c.in-Some-hex_digit.low c.if-digit-ne1.false second.0 first second.1 c.if-take_char-2.ensures)
