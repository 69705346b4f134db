use Rattle.std.proofs.Common.{arith, refl, ap, length, ◌++◌}
use Rattle.exi_spec.specs.Bits.{number_bits}
use Rattle.exi_writing.specs.Documents.{element}
use Rattle.exi_events.specs.Child.{child_bits}
use Rattle.exi_events.proofs.Coded.{code_range}
use Rattle.exi_events.proofs.Fitting.{some_told, fits_one, fits_rest, child_joined, rest_joined}
use Rattle.exi_events.proofs.Lengths.{bits_long}
use Rattle.exi_events.proofs.Limits.{few_code_bits}
use Rattle.exi_events.proofs.Words.{code_pushed, two_joined}
use Rattle.exi_events.proofs.child.optional_word.Goals as goal

pub push-requires-clause-few : goal.push-requires-clause-few
push-requires-clause-few g c = few_code_bits _ _ c.requires.child.is_width (omega (arith, c.requires.child.few))

pub push-requires-clause-range : goal.push-requires-clause-range
push-requires-clause-range g c =
    code_range (g.P.Places.schema c.args.places.now) c.args.here (element c.args.name c.args.child.kind c.args.child.next) c.args.child.code c.from.result c.args.child.width c.from.ensures c.requires.child.is_width c.requires.child.offered

pub returns-clause-word : goal.returns-clause-word
returns-clause-word g c =
    let one = c.in_ok-push_child.ensures.pushed in
    let rest = c.in_ok-push_rest.ensures.pushed in
    let end = number_bits 1 0 in (
      child_bits one.0 ++ (rest.0 ++ end),
      two_joined c.new-word.result c.push.new.self c.push_child.new.word c.push_rest.new.word c.push-2.new.self (number_bits c.args.child.width c.args.child.code) (child_bits one.0) rest.0 end
          c.new-word.ensures (code_pushed c.new-word.result c.push.new.self c.args.child.width c.from.result c.args.child.code c.in_ok-push.ensures.pushed c.from.ensures) one.1 rest.1 c.in_ok-push-2.ensures.pushed,
      record {
        children = c.in_ok-children.children.now;
        first_bits = one.0;
        rest_bits = rest.0;
        sequence = c.in_ok-children.ensures.tells;
        first_is = one.2;
        rest_is = rest.2;
        bits_are = refl;
      },
    )

pub returns-in_err-children-clause-none : goal.returns-in_err-children-clause-none
returns-in_err-children-clause-none g c none keeps f =
    let kinds = (g.P.Places.schema c.args.places.now).kinds in
    some_told kinds c.args.child.kind c.args.child.width c.args.values.now f c.optional_sequence.result (c.optional_sequence.ensures.whole keeps f.children f.sequence) c.in_err-children.was

pub returns-in_err-push-clause-none : goal.returns-in_err-push-clause-none
returns-in_err-push-clause-none g c none keeps f = omega (arith, f.few, ap length c.new-word.ensures, c.in_err-push.ensures.none refl)

pub returns-in_err-push_child-clause-none : goal.returns-in_err-push_child-clause-none
returns-in_err-push_child-clause-none g c none keeps f =
    let kinds = (g.P.Places.schema c.args.places.now).kinds in
    let kept = c.optional_sequence.ensures.whole keeps f.children f.sequence in
    let coded = bits_long c.new-word.result c.push.new.self c.args.child.width c.from.result c.in_ok-push.ensures.pushed in
    let full = c.in_err-push_child.ensures.none refl f.first_bits (fits_one kinds c.args.child.kind c.args.child.width c.args.values.now f c.optional_sequence.result kept c.in_ok-children.children c.in_ok-children.was) in
    omega (arith, f.few, ap length c.new-word.ensures, coded, full)

pub returns-in_err-push_rest-clause-none : goal.returns-in_err-push_rest-clause-none
returns-in_err-push_rest-clause-none g c none keeps f =
    let kinds = (g.P.Places.schema c.args.places.now).kinds in
    let kept = c.optional_sequence.ensures.whole keeps f.children f.sequence in
    let coded = bits_long c.new-word.result c.push.new.self c.args.child.width c.from.result c.in_ok-push.ensures.pushed in
    let one = c.in_ok-push_child.ensures.pushed in
    let first_long = child_joined c.push.new.self c.push_child.new.word _ c.args.values.now.first one.0 f.first_bits one.1 one.2 (fits_one kinds c.args.child.kind c.args.child.width c.args.values.now f c.optional_sequence.result kept c.in_ok-children.children c.in_ok-children.was) in
    let full = c.in_err-push_rest.ensures.none refl f.rest_bits (fits_rest kinds c.args.child.kind c.args.child.width c.args.values.now f c.optional_sequence.result kept c.in_ok-children.children c.in_ok-children.was) in
    omega (arith, f.few, ap length c.new-word.ensures, coded, first_long, full)

pub returns-in_err-push-2-clause-none : goal.returns-in_err-push-2-clause-none
returns-in_err-push-2-clause-none g c none keeps f =
    let kinds = (g.P.Places.schema c.args.places.now).kinds in
    let kept = c.optional_sequence.ensures.whole keeps f.children f.sequence in
    let coded = bits_long c.new-word.result c.push.new.self c.args.child.width c.from.result c.in_ok-push.ensures.pushed in
    let one = c.in_ok-push_child.ensures.pushed in
    let rest = c.in_ok-push_rest.ensures.pushed in
    let first_long = child_joined c.push.new.self c.push_child.new.word _ c.args.values.now.first one.0 f.first_bits one.1 one.2 (fits_one kinds c.args.child.kind c.args.child.width c.args.values.now f c.optional_sequence.result kept c.in_ok-children.children c.in_ok-children.was) in
    let behind_long = rest_joined c.push_child.new.word c.push_rest.new.word c.in_ok-children.children.now c.args.values.now.second c.args.values.now.third rest.0 f.rest_bits rest.1 rest.2 (fits_rest kinds c.args.child.kind c.args.child.width c.args.values.now f c.optional_sequence.result kept c.in_ok-children.children c.in_ok-children.was) in
    omega (arith, f.few, ap length c.new-word.ensures, coded, first_long, behind_long, c.in_err-push-2.ensures.none refl)
