use Rattle.std.proofs.Common.{ℕ, ◌+◌, length, ap, subst, arith}
use Rattle.std.proofs.lemmas.List.{nil_from_length}
use Rattle.std.proofs.lemmas.Str.{IsUtf8-past_char}
use Rattle.exi_spec.specs.Items.{shortest_unsigned}
use Rattle.exi_bits.specs.Written.{Extends}
use Rattle.exi_bits.proofs.Texts.{wrote_char, char_fits, wrote_chars}
use Rattle.exi_bits.proofs.room.put_all_chars.Goals as goal

pub put_octets-wrote-requires-clause-within : goal.put_octets-wrote-requires-clause-within
put_octets-wrote-requires-clause-within c =
    let held = c.loop-c.invariant in
    let fits = char_fits c.args.room.now c.loop-c.room c.args.at c.loop-c.wrote c.in-Some.c c.args.text.now _ _ held.text c.in-Some.ensures.steps.0 held.wrote in
    let same = ap (λ (n : ℕ). length (shortest_unsigned n)) c.from.ensures in
    omega (arith, fits, same, c.requires.within, c.loop-c.auto.room)

pub overflow_add-wrote : goal.overflow_add-wrote
overflow_add-wrote c =
    let held = c.loop-c.invariant in
    let fits = char_fits c.args.room.now c.loop-c.room c.args.at c.loop-c.wrote c.in-Some.c c.args.text.now _ _ held.text c.in-Some.ensures.steps.0 held.wrote in
    let same = ap (λ (n : ℕ). length (shortest_unsigned n)) c.from.ensures in
    omega (arith, fits, same, c.requires.within, c.requires.room, c.put_octets-wrote.ensures.long)

pub loop-c-preserved : goal.loop-c-preserved
loop-c-preserved c =
    let held = c.loop-c.invariant in
    let parts = c.in-Some.ensures.steps.0 in
    let step : Extends c.loop-c.room c.put_octets-wrote.new.room (c.args.at + c.loop-c.wrote) c.put_octets-wrote.result (shortest_unsigned c.in-Some.c) =
    subst (λ (n : ℕ). Extends c.loop-c.room c.put_octets-wrote.new.room (c.args.at + c.loop-c.wrote) c.put_octets-wrote.result (shortest_unsigned n)) c.from.ensures c.put_octets-wrote.ensures in
    record {
      text = IsUtf8-past_char _ _ c.in-Some.c held.text parts;
      wrote = wrote_char c.args.room.now c.loop-c.room c.put_octets-wrote.new.room c.args.at c.loop-c.wrote c.put_octets-wrote.result c.in-Some.c c.args.text.now _ _ held.text parts held.wrote step;
    }

pub returns : goal.returns
returns c = wrote_chars c.args.room.now c.loop-c.room c.args.at c.loop-c.wrote c.args.text.now _ (nil_from_length _ c.in-None.ensures.steps.0.0) c.loop-c.invariant.wrote
