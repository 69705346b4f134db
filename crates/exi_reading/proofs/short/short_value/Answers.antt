use Rattle.std.proofs.Common.{arith, refl, rules, w64, inl, inr}
use Rattle.std.proofs.lemmas.Int.{ints, to_z-of_z}
use Rattle.exi_reading.proofs.Shortened.{no_named, no_bounded, bounded_fits, no_unsigned, unsigned_above, no_signed, signed_within, no_binary, no_text}
use Rattle.exi_reading.proofs.short.short_value.Goals.{then-value-least-via-then-value-least, then-value-least-via-else-value-least+then-value-most-2}
use Rattle.exi_reading.proofs.short.short_value.Goals as goal

pub returns-in_err-code-in-Named-clause-none : goal.returns-in_err-code-in-Named-clause-none
returns-in_err-code-in-Named-clause-none c none value h =
    no_named c.args.datatype value _ h c.in-Named.count c.in-Named.is (c.in_err-code-in-Named.ensures.none refl)

pub returns-in_err-code-in-Bounded-clause-none : goal.returns-in_err-code-in-Bounded-clause-none
returns-in_err-code-in-Bounded-clause-none c none value h =
    no_bounded c.args.datatype value _ h c.in-Bounded.least c.in-Bounded.count c.in-Bounded.is (c.in_err-code-in-Bounded.ensures.none refl)

pub returns-in_err-value-in-Bounded-clause-none : goal.returns-in_err-value-in-Bounded-clause-none
returns-in_err-value-in-Bounded-clause-none c none value h =
    let fits = bounded_fits c.args.datatype value _ h c.in-Bounded.least c.in-Bounded.count c.in_ok-code-in-Bounded.code _ c.in-Bounded.is c.in_ok-code-in-Bounded.ensures.taken in
    let least_is = to_z-of_z w64 c.in-Bounded.least (search rules) in
    let code_is = to_z-of_z w64 c.from.result (search rules) in
    c.in_err-value-in-Bounded.ensures (rw (least_is, code_is, c.from.ensures) fits)

pub returns-in_err-value-in-Unsigned-clause-none :
    goal.returns-in_err-value-in-Unsigned-clause-none
returns-in_err-value-in-Unsigned-clause-none c none value h =
    no_unsigned c.args.datatype value _ h c.in-Unsigned.most c.in-Unsigned.is (c.in_err-value-in-Unsigned.ensures.none refl)

pub returns-then-value-most-clause-none : goal.returns-then-value-most-clause-none
returns-then-value-most-clause-none c none value h =
    unsigned_above c.args.datatype value _ h c.in-Unsigned.most c.in_ok-value-in-Unsigned.value _ c.in-Unsigned.is c.in_ok-value-in-Unsigned.ensures.taken c.if-value-most.true

pub returns-in_err-value-in-Signed-clause-none : goal.returns-in_err-value-in-Signed-clause-none
returns-in_err-value-in-Signed-clause-none c none value h =
    no_signed c.args.datatype value _ h c.in-Signed.least c.in-Signed.most c.in-Signed.is (c.in_err-value-in-Signed.ensures.none refl)

pub returns-then-value-least-clause-none : goal.returns-then-value-least-clause-none
returns-then-value-least-clause-none c none value h =
    let within = signed_within c.args.datatype value _ h c.in-Signed.least c.in-Signed.most c.in_ok-value-in-Signed.value _ c.in-Signed.is c.in_ok-value-in-Signed.ensures.taken in
    let value_is = to_z-of_z w64 c.in_ok-value-in-Signed.value (search rules) in
    let least_is = to_z-of_z w64 c.in-Signed.least (search rules) in
    let most_is = to_z-of_z w64 c.in-Signed.most (search rules) in
    elim c.then-value-least.branch [
      | then-value-least-via-then-value-least w ↦ omega (arith, ints, within.0, value_is, least_is, w.if-value-least.true)
      | then-value-least-via-else-value-least+then-value-most-2 w ↦ omega (arith, ints, within.1, value_is, most_is, w.if-value-most-2.true)
    ]

pub returns-in-Binary-clause-none : goal.returns-in-Binary-clause-none
returns-in-Binary-clause-none c none value h =
    elim c.in-Binary.is [
      | inl is ↦ no_binary c.args.datatype value _ h is.0 is.1
      | inr is ↦ no_text c.args.datatype value _ h is.0 is.1
    ]
