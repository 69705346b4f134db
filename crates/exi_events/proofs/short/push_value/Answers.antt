use Rattle.std.proofs.Common.{◌≡◌, arith, rules, nat_abs, pos, w64, to_z, of_z, length, List, Bool, ◌++◌, ◌∷◌, [], ℕ, ap, subst, sym, refl, ◌∙◌}
use Rattle.std.proofs.lemmas.Int.{ints, to_z-of_z}
use Rattle.exi_spec.specs.Bits.{number_bits}
use Rattle.exi_bits.proofs.Parts.{one_bit}
use Rattle.exi_spec.specs.Items.{shortest_unsigned, shortest_integer}
use Rattle.exi_writing.specs.Values.{SpellsCode}
use Rattle.exi_events.proofs.Lengths.{unsigned_full}
use Rattle.exi_events.proofs.Shorts.{writes_as, typed_as, unsigned_of, above_fits, only_truths, only_ordinals, only_bounded, only_unsigned, only_signed, short_type}
use Rattle.exi_schema.specs.declared.tables.Datatype.TheVariants as type
use Rattle.exi_writing.specs.ShortValue.TheVariants as short
use Rattle.exi_events.proofs.Words.{some_weaker, bool_writes}
use Rattle.exi_events.proofs.short.push_value.Goals.{then-number-lt0-via-then-number-lt0, then-number-lt0-via-else-number-lt0+then-number-most, then-number-least-via-then-number-least, then-number-least-via-else-number-least+then-number-most-2, then-above-lt0-via-then-above-lt0, then-above-lt0-via-else-above-lt0+then-above-from}
use Rattle.exi_events.proofs.short.push_value.Goals as goal

pub returns-in-Bool-Bool-clause-pushed : goal.returns-in-Bool-Bool-clause-pushed
returns-in-Bool-Bool-clause-pushed c =
    some_weaker c.push.result _ _
    (λ is. (c.in-Bool-Bool.truth ∷ [], is ∙ ap (λ (l : List Bool). c.args.word.now ++ l) (ap (λ (n : ℕ). number_bits 1 n) c.from.ensures ∙ one_bit c.in-Bool-Bool.truth), bool_writes c.args.datatype c.args.value c.in-Bool-Bool.truth c.in-Bool-Bool.is-0 c.in-Bool-Bool.is-1))
    c.push.ensures.pushed

pub returns-in-Bool-Bool-clause-none : goal.returns-in-Bool-Bool-clause-none
returns-in-Bool-Bool-clause-none c none bits w =
    let is = (writes_as c.args.datatype c.args.value bits w type.Bool (short.Bool c.in-Bool-Bool.truth) c.in-Bool-Bool.is-0 c.in-Bool-Bool.is-1).0 in
    omega (arith, c.push.ensures.none none, ap length is)

pub returns-in-Named-Ordinal-clause-none : goal.returns-in-Named-Ordinal-clause-none
returns-in-Named-Ordinal-clause-none c none bits w =
    c.push_code.ensures.none none bits (writes_as c.args.datatype c.args.value bits w (type.Named c.in-Named-Ordinal.count) (short.Ordinal c.in-Named-Ordinal.ordinal) c.in-Named-Ordinal.is-0 c.in-Named-Ordinal.is-1).0

pub returns-in_err-above-in-Bounded-Number-clause-none : goal.returns-in_err-above-in-Bounded-Number-clause-none
returns-in_err-above-in-Bounded-Number-clause-none c none bits w =
    let spelled = (writes_as c.args.datatype c.args.value bits w (type.Bounded c.in-Bounded-Number.least c.in-Bounded-Number.count) (short.Number c.in-Bounded-Number.number) c.in-Bounded-Number.is-0 c.in-Bounded-Number.is-1).0 in
    let least_is = to_z-of_z w64 c.in-Bounded-Number.least (search rules) in
    let number_is = to_z-of_z w64 c.in-Bounded-Number.number (search rules) in
    absurd (c.in_err-above-in-Bounded-Number.ensures (rw (least_is, number_is) (above_fits c.in-Bounded-Number.least c.in-Bounded-Number.number c.in-Bounded-Number.count spelled.0 (search rules) spelled.2.below spelled.1)))

pub returns-then-above-lt0-clause-none : goal.returns-then-above-lt0-clause-none
returns-then-above-lt0-clause-none c none bits w =
    let spelled = (writes_as c.args.datatype c.args.value bits w (type.Bounded c.in-Bounded-Number.least c.in-Bounded-Number.count) (short.Number c.in-Bounded-Number.number) c.in-Bounded-Number.is-0 c.in-Bounded-Number.is-1).0 in
    let least_is = to_z-of_z w64 c.in-Bounded-Number.least (search rules) in
    let number_is = to_z-of_z w64 c.in-Bounded-Number.number (search rules) in
    let above_zero = to_z-of_z w64 c.in_ok-above-in-Bounded-Number.above (search rules) in
    let above = c.in_ok-above-in-Bounded-Number.ensures.1 in
    elim c.then-above-lt0.branch [
      | then-above-lt0-via-then-above-lt0 w ↦ omega (arith, ints, above, least_is, number_is, above_zero, spelled.1, w.if-above-lt0.true)
      | then-above-lt0-via-else-above-lt0+then-above-from w ↦
          let count_is = to_z-of_z w64 w.from-else-above-lt0.result (search rules) in
          omega (arith, ints, above, least_is, number_is, above_zero, spelled.1, spelled.2.below, w.from-else-above-lt0.ensures, count_is, w.if-above-from.true)
    ]

pub returns-then-number-lt0-clause-none : goal.returns-then-number-lt0-clause-none
returns-then-number-lt0-clause-none c none bits w =
    let u = unsigned_of c.in-Unsigned-Number.most c.in-Unsigned-Number.number bits (writes_as c.args.datatype c.args.value bits w (type.Unsigned c.in-Unsigned-Number.most) (short.Number c.in-Unsigned-Number.number) c.in-Unsigned-Number.is-0 c.in-Unsigned-Number.is-1) in
    let number_is = to_z-of_z w64 c.in-Unsigned-Number.number (search rules) in
    elim c.then-number-lt0.branch [
      | then-number-lt0-via-then-number-lt0 w ↦ omega (arith, ints, u.1, number_is, w.if-number-lt0.true)
      | then-number-lt0-via-else-number-lt0+then-number-most w ↦ omega (arith, ints, u.1, u.2, number_is, w.if-number-most.true)
    ]

pub returns-then-number-least-clause-none : goal.returns-then-number-least-clause-none
returns-then-number-least-clause-none c none bits w =
    let z = writes_as c.args.datatype c.args.value bits w (type.Signed c.in-Signed-Number.least c.in-Signed-Number.most) (short.Number c.in-Signed-Number.number) c.in-Signed-Number.is-0 c.in-Signed-Number.is-1 in
    let number_is = to_z-of_z w64 c.in-Signed-Number.number (search rules) in
    let least_is = to_z-of_z w64 c.in-Signed-Number.least (search rules) in
    let most_is = to_z-of_z w64 c.in-Signed-Number.most (search rules) in
    elim c.then-number-least.branch [
      | then-number-least-via-then-number-least w ↦ omega (arith, ints, z.0, number_is, least_is, w.if-number-least.true)
      | then-number-least-via-else-number-least+then-number-most-2 w ↦ omega (arith, ints, z.1, number_is, most_is, w.if-number-most-2.true)
    ]

pub returns-else-above-from-clause-none : goal.returns-else-above-from-clause-none
returns-else-above-from-clause-none c none bits w =
    let spelled = (writes_as c.args.datatype c.args.value bits w (type.Bounded c.in-Bounded-Number.least c.in-Bounded-Number.count) (short.Number c.in-Bounded-Number.number) c.in-Bounded-Number.is-0 c.in-Bounded-Number.is-1).0 in
    let least_is = to_z-of_z w64 c.in-Bounded-Number.least (search rules) in
    let number_is = to_z-of_z w64 c.in-Bounded-Number.number (search rules) in
    let above_is = to_z-of_z w64 c.in_ok-above-in-Bounded-Number.above (search rules) in
    let above = c.in_ok-above-in-Bounded-Number.ensures.1 in
    let same_above : to_z w64 (of_z w64 c.in_ok-above-in-Bounded-Number.above) ≡ pos spelled.0 = omega (arith, ints, above_is, above, least_is, number_is, spelled.1) in
    let same : nat_abs (to_z w64 (of_z w64 c.in_ok-above-in-Bounded-Number.above)) ≡ spelled.0 = ap nat_abs same_above in
    c.push_code-in-Bounded-Number.ensures.none none bits (subst (λ (k : ℕ). SpellsCode c.in-Bounded-Number.count k bits) (sym same) spelled.2)

pub returns-else-number-most-clause-none : goal.returns-else-number-most-clause-none
returns-else-number-most-clause-none c none bits w =
    let u = unsigned_of c.in-Unsigned-Number.most c.in-Unsigned-Number.number bits (writes_as c.args.datatype c.args.value bits w (type.Unsigned c.in-Unsigned-Number.most) (short.Number c.in-Unsigned-Number.number) c.in-Unsigned-Number.is-0 c.in-Unsigned-Number.is-1) in
    let same : nat_abs (to_z w64 (of_z w64 c.in-Unsigned-Number.number)) ≡ u.0 = ap nat_abs (to_z-of_z w64 c.in-Unsigned-Number.number (search rules) ∙ u.1) in
    unsigned_full c.args.word.now bits _ (u.3 ∙ ap shortest_unsigned (sym same)) w.few (c.push_unsigned.ensures.none none)

pub returns-else-number-most-2-clause-none : goal.returns-else-number-most-2-clause-none
returns-else-number-most-2-clause-none c none bits w =
    let z = writes_as c.args.datatype c.args.value bits w (type.Signed c.in-Signed-Number.least c.in-Signed-Number.most) (short.Number c.in-Signed-Number.number) c.in-Signed-Number.is-0 c.in-Signed-Number.is-1 in
    let long = ap length (z.2 ∙ ap shortest_integer (sym (to_z-of_z w64 c.in-Signed-Number.number (search rules)))) in
    omega (arith, long, w.few, c.push_integer.ensures.none none (omega (arith, long, w.few)))

pub returns-in_default : goal.returns-in_default
returns-in_default c =
    record { pushed = tt; none = λ none bits w. absurd (only_truths c.args.value bits (typed_as c.args.datatype c.args.value bits w type.Bool c.in_default.is-0) c.in_default.not-Bool-1) }

pub returns-in_default-2 : goal.returns-in_default-2
returns-in_default-2 c =
    record { pushed = tt; none = λ none bits w. absurd (only_ordinals c.in_default.field-0-0 c.args.value bits (typed_as c.args.datatype c.args.value bits w _ c.in_default.is-0) c.in_default.not-Ordinal-1) }

pub returns-in_default-3 : goal.returns-in_default-3
returns-in_default-3 c =
    record { pushed = tt; none = λ none bits w. absurd (only_bounded c.in_default.field-0-0 c.in_default.field-1-0 c.args.value bits (typed_as c.args.datatype c.args.value bits w _ c.in_default.is-0) c.in_default.not-Number-1) }

pub returns-in_default-4 : goal.returns-in_default-4
returns-in_default-4 c =
    record { pushed = tt; none = λ none bits w. absurd (only_unsigned c.in_default.field-0-0 c.args.value bits (typed_as c.args.datatype c.args.value bits w _ c.in_default.is-0) c.in_default.not-Number-1) }

pub returns-in_default-5 : goal.returns-in_default-5
returns-in_default-5 c =
    record { pushed = tt; none = λ none bits w. absurd (only_signed c.in_default.field-0-0 c.in_default.field-1-0 c.args.value bits (typed_as c.args.datatype c.args.value bits w _ c.in_default.is-0) c.in_default.not-Number-1) }

pub returns-in_default-6-clause-none : goal.returns-in_default-6-clause-none
returns-in_default-6-clause-none c none bits w =
    absurd (short_type c.args.datatype c.args.value bits (w.writes [] 0) c.in_default.not-Bool-0 c.in_default.not-Named-0 c.in_default.not-Bounded-0 c.in_default.not-Unsigned-0 c.in_default.not-Signed-0)
