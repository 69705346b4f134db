use Rattle.std.proofs.Common.{◌≡◌, ℕ, ◌+◌, length, ap, ◌∙◌, arith}
use Rattle.exi_spec.specs.Items.{shortest_unsigned}
use Rattle.exi_bits.specs.Pens.{written_bits}
use Rattle.exi_reading.proofs.Places.{local_of-texts, global_of-texts}
use Rattle.exi_writing.specs.Source.{chars_of}
use Rattle.exi_writing.proofs.Found.{same_count, first_below}
use Rattle.exi_writing.proofs.LengthLaws.{local_bits, global_bits, spelled_bits}
use Rattle.exi_writing.proofs.needed.text_bits.Goals as goal

pub hit_bits-requires : goal.hit_bits-requires
hit_bits-requires c =
    first_below _ _ c.locals.result c.in-Some.index
    (same_count (written_bits c.args.pen.now) _ _ _ (local_of-texts (written_bits c.args.pen.now) c.args.name c.args.table.now.entries) c.locals.ensures) c.in-Some.ensures

pub returns-in-Some-clause-bits : goal.returns-in-Some-clause-bits
returns-in-Some-clause-bits c =
    local_bits (written_bits c.args.pen.now) c.args.table.now.entries c.args.name c.locals.result c.in-Some.index c.hit_bits.result (chars_of c.args.text.now)
    (same_count (written_bits c.args.pen.now) _ _ _ (local_of-texts (written_bits c.args.pen.now) c.args.name c.args.table.now.entries) c.locals.ensures)
    (omega (arith, c.globals-globals.ensures.entries, c.globals-globals.ensures.bound, c.requires.cap)) c.in-Some.ensures c.hit_bits.ensures.bits

pub hit_bits-requires-in-Some-find_global : goal.hit_bits-requires-in-Some-find_global
hit_bits-requires-in-Some-find_global c =
    first_below _ _ c.globals-globals.result c.in-Some-find_global.index
    (same_count (written_bits c.args.pen.now) _ _ _ (global_of-texts (written_bits c.args.pen.now) c.args.table.now.entries) c.globals-globals.ensures.count) c.in-Some-find_global.ensures

pub returns-in-Some-find_global-clause-bits : goal.returns-in-Some-find_global-clause-bits
returns-in-Some-find_global-clause-bits c =
    global_bits (written_bits c.args.pen.now) c.args.table.now.entries c.args.name c.globals-globals.result c.in-Some-find_global.index c.hit_bits-in-Some-find_global.result (chars_of c.args.text.now)
    (same_count (written_bits c.args.pen.now) _ _ _ (global_of-texts (written_bits c.args.pen.now) c.args.table.now.entries) c.globals-globals.ensures.count)
    (omega (arith, c.globals-globals.ensures.entries, c.globals-globals.ensures.bound, c.requires.cap)) c.in_default.ensures c.in-Some-find_global.ensures c.hit_bits-in-Some-find_global.ensures.bits

pub returns-clause-bits : goal.returns-clause-bits
returns-clause-bits c =
    spelled_bits (written_bits c.args.pen.now) c.args.table.now.entries c.args.name c.unsigned_bits.result c.chars_bits.result _ (chars_of c.args.text.now)
    (omega (arith, c.globals-globals.ensures.entries, c.globals-globals.ensures.bound, c.requires.cap))
    c.requires.room c.in_default.ensures c.in_default-find_global.ensures
    (c.unsigned_bits.ensures.bits ∙ ap (λ (n : ℕ). length (shortest_unsigned n)) (let n : c.from.result + 2 ≡ length (chars_of c.args.text.now) + 2 = omega (arith, c.from.ensures, c.len-count.ensures) in n))
    c.chars_bits.ensures.bits (omega (arith, c.from-2.ensures))

pub returns-clause-few : goal.returns-clause-few
returns-clause-few c = omega (arith, c.from-2.ensures, c.unsigned_bits.ensures.few, c.chars_bits.ensures.few)
