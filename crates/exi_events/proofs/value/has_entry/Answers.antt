use Rattle.std.proofs.Common.{◌≡◌, length, ap, ◌∙◌, arith, rules, IsUtf8, chars}
use Rattle.exi_bits.specs.Lent.{items_of}
use Rattle.exi_spec.specs.Bits.{bits_of}
use Rattle.exi_writing.specs.Meaning.{texts_in, value_of}
use Rattle.exi_writing.proofs.Strings.{length-texts_in}
use Rattle.exi_events.proofs.Entries.{entered_decides, room_none, no_char, some_char}
use Rattle.exi_events.proofs.value.has_entry.Goals as goal

pub returns-else-len-eq0-clause-room : goal.returns-else-len-eq0-clause-room
returns-else-len-eq0-clause-room c name =
    let count = length-texts_in (bits_of c.args.written.now) c.args.table.now.entries in
    let is = ap value_of c.in-Text.is in
    entered_decides (texts_in (bits_of c.args.written.now) c.args.table.now.entries) name (value_of c.args.value.now) (items_of c.in-Text.span) c.is_entered.result is
    (λ less. omega (arith, less, count, c.globals.ensures.entries, c.if-globals-lt-MOST_ENTRIES.false))
    (λ none. c.if-len-eq0.false (c.len.ensures.items ∙ none))
    (c.is_entered.ensures (items_of c.in-Text.span) is)

pub returns-then-is_empty-clause-room : goal.returns-then-is_empty-clause-room
returns-then-is_empty-clause-room c name =
    let utf8 : IsUtf8 c.in-Written.text.now = search rules in
    let none : length c.in-Written.text.now ≡ 0 = search rules in
    (λ t. room_none (texts_in (bits_of c.args.written.now) c.args.table.now.entries) name (value_of c.args.value.now) (chars c.in-Written.text.now) (ap value_of c.in-Written.is) (no_char c.in-Written.text.now utf8 none), λ h. c.if-is_empty.true)

pub returns-else-is_empty-clause-room : goal.returns-else-is_empty-clause-room
returns-else-is_empty-clause-room c name =
    let utf8 : IsUtf8 c.in-Written.text.now = search rules in
    let some : length c.in-Written.text.now ≡ 0 → ⊥ = search rules in
    let count = length-texts_in (bits_of c.args.written.now) c.args.table.now.entries in
    let is = ap value_of c.in-Written.is in
    entered_decides (texts_in (bits_of c.args.written.now) c.args.table.now.entries) name (value_of c.args.value.now) (chars c.in-Written.text.now) c.is_entered-else-is_empty.result is
    (λ less. omega (arith, less, count, c.globals.ensures.entries, c.if-globals-lt-MOST_ENTRIES.false))
    (some_char c.in-Written.text.now utf8 some)
    (c.is_entered-else-is_empty.ensures (chars c.in-Written.text.now) is)
