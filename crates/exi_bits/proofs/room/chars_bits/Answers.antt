use Rattle.std.proofs.Common.{◌≡◌, ℕ, ◌*◌, Bool, length, ap, ◌∙◌, arith}
use Rattle.std.proofs.lemmas.List.{length-append, nil_from_length}
use Rattle.std.proofs.lemmas.Str.{IsUtf8-past_char}
use Rattle.exi_spec.specs.Items.{shortest_unsigned}
use Rattle.exi_bits.proofs.Texts.{next_char, char_takes, no_char}
use Rattle.exi_bits.proofs.room.chars_bits.Goals as goal

pub loop-c-preserved : goal.loop-c-preserved
loop-c-preserved c =
    let held = c.loop-c.invariant in
    let parts = c.in-Some.ensures.steps.0 in
    let next = ap length (next_char _ _ c.in-Some.c held.text parts) in
    let count : 8 * c.octet_count.result ≡ length (shortest_unsigned c.in-Some.c) = c.octet_count.ensures.count ∙ ap (λ (n : ℕ). length (shortest_unsigned n)) c.from.ensures in
    record {
      text = IsUtf8-past_char _ _ c.in-Some.c held.text parts;
      sum = omega (arith, held.sum, next, count, c.from-in-loop-c.ensures, length-append {A = Bool});
      few = omega (arith, held.few, c.octet_count.ensures.few, c.from-in-loop-c.ensures, char_takes _ _ c.in-Some.c parts);
    }

pub returns-clause-bits : goal.returns-clause-bits
returns-clause-bits c =
    let none = ap length (no_char _ (nil_from_length _ c.in-None.ensures.steps.0.0)) in
    omega (arith, c.loop-c.invariant.sum, none)
