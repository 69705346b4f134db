use Rattle.std.proofs.Common.{◌≡◌, [], ◌∷◌, rules, arith, refl, ap, length, ◌++◌}
use Rattle.exi_spec.specs.Bits.{number_bits}
use Rattle.exi_writing.specs.Documents.{element, first}
use Rattle.exi_events.specs.Child.{child_bits}
use Rattle.exi_events.proofs.Coded.{code_range}
use Rattle.exi_events.proofs.Fitting.{child_joined, fits_first, fits_second, fits_third, all_three}
use Rattle.exi_events.proofs.Lengths.{bits_long}
use Rattle.exi_events.proofs.Limits.{few_code_bits}
use Rattle.exi_events.proofs.Sequences.{tells_three, three_in}
use Rattle.exi_events.proofs.Words.{code_pushed, three_joined}
use Rattle.exi_events.proofs.child.three_word.Goals.{in_default-via-then-sequence-lt3, in_default-via-else-sequence-lt3+else-this-lt4}
use Rattle.exi_events.proofs.child.three_word.Goals as goal

pub push-requires-clause-few : goal.push-requires-clause-few
push-requires-clause-few g c = few_code_bits _ _ c.requires.child.is_width (omega (arith, c.requires.child.few))

pub push-requires-clause-range : goal.push-requires-clause-range
push-requires-clause-range g c =
    code_range (g.P.Places.schema c.args.places.now) c.args.here (element c.args.name c.args.child.kind c.args.child.next) c.args.child.code c.from.result c.args.child.width c.from.ensures c.requires.child.is_width c.requires.child.offered

pub returns-clause-word : goal.returns-clause-word
returns-clause-word g c =
    let kinds = (g.P.Places.schema c.args.places.now).kinds in
    let is = tells_three kinds (first c.args.child.kind) c.sequence.result.now _ _ _ (three_in c.sequence.result.now _ c.in-len3.len_at_least c.in-len3.len_below) c.sequence.ensures.tells in
    let one = c.in_ok-push_child.ensures.pushed in
    let two = c.in_ok-push_child-2.ensures.pushed in
    let three = c.in_ok-push_child-3.ensures.pushed in
    let end = number_bits 1 0 in (
      child_bits one.0 ++ (child_bits two.0 ++ (child_bits three.0 ++ end)),
      three_joined c.new-word.result c.push.new.self c.push_child.new.word c.push_child-2.new.word c.push_child-3.new.word c.push-2.new.self (number_bits c.args.child.width c.args.child.code) (child_bits one.0) (child_bits two.0) (child_bits three.0) end
          c.new-word.ensures (code_pushed c.new-word.result c.push.new.self c.args.child.width c.from.result c.args.child.code c.in_ok-push.ensures.pushed c.from.ensures) one.1 two.1 three.1 c.in_ok-push-2.ensures.pushed,
      record {
        one = _;
        two = _;
        three = _;
        one_bits = one.0;
        two_bits = two.0;
        three_bits = three.0;
        sequence = is;
        first_is = one.2;
        second_is = two.2;
        third_is = three.2;
        bits_are = refl;
      },
    )

pub returns-in_default-clause-none : goal.returns-in_default-clause-none
returns-in_default-clause-none g c none keeps f =
    let kinds = (g.P.Places.schema c.args.places.now).kinds in
    let are : c.sequence.result.now ≡ f.one ∷ f.two ∷ f.three ∷ [] = all_three kinds c.args.child.kind c.args.child.width c.args.values.now f c.sequence.result.now (c.sequence.ensures.whole keeps) in
    let long : length c.sequence.result.now ≡ 3 = ap length are in
    elim c.in_default.branch [
      | in_default-via-then-sequence-lt3 w ↦ grind (arith, long)
      | in_default-via-else-sequence-lt3+else-this-lt4 w ↦ search (rules, are)
    ]

pub returns-in_err-push-clause-none : goal.returns-in_err-push-clause-none
returns-in_err-push-clause-none g c none keeps f = omega (arith, f.few, ap length c.new-word.ensures, c.in_err-push.ensures.none refl)

pub returns-in_err-push_child-clause-none : goal.returns-in_err-push_child-clause-none
returns-in_err-push_child-clause-none g c none keeps f =
    let kinds = (g.P.Places.schema c.args.places.now).kinds in
    let are = three_in c.sequence.result.now _ c.in-len3.len_at_least c.in-len3.len_below in
    let kept = c.sequence.ensures.whole keeps in
    let coded = bits_long c.new-word.result c.push.new.self c.args.child.width c.from.result c.in_ok-push.ensures.pushed in
    let full = c.in_err-push_child.ensures.none refl f.one_bits (fits_first kinds c.args.child.kind c.args.child.width c.args.values.now f c.sequence.result.now kept _ _ _ are) in
    omega (arith, f.few, ap length c.new-word.ensures, coded, full)

pub returns-in_err-push_child-2-clause-none : goal.returns-in_err-push_child-2-clause-none
returns-in_err-push_child-2-clause-none g c none keeps f =
    let kinds = (g.P.Places.schema c.args.places.now).kinds in
    let are = three_in c.sequence.result.now _ c.in-len3.len_at_least c.in-len3.len_below in
    let kept = c.sequence.ensures.whole keeps in
    let coded = bits_long c.new-word.result c.push.new.self c.args.child.width c.from.result c.in_ok-push.ensures.pushed in
    let one = c.in_ok-push_child.ensures.pushed in
    let first_long = child_joined c.push.new.self c.push_child.new.word _ c.args.values.now.first one.0 f.one_bits one.1 one.2 (fits_first kinds c.args.child.kind c.args.child.width c.args.values.now f c.sequence.result.now kept _ _ _ are) in
    let full = c.in_err-push_child-2.ensures.none refl f.two_bits (fits_second kinds c.args.child.kind c.args.child.width c.args.values.now f c.sequence.result.now kept _ _ _ are) in
    omega (arith, f.few, ap length c.new-word.ensures, coded, first_long, full)

pub returns-in_err-push_child-3-clause-none : goal.returns-in_err-push_child-3-clause-none
returns-in_err-push_child-3-clause-none g c none keeps f =
    let kinds = (g.P.Places.schema c.args.places.now).kinds in
    let are = three_in c.sequence.result.now _ c.in-len3.len_at_least c.in-len3.len_below in
    let kept = c.sequence.ensures.whole keeps in
    let coded = bits_long c.new-word.result c.push.new.self c.args.child.width c.from.result c.in_ok-push.ensures.pushed in
    let one = c.in_ok-push_child.ensures.pushed in
    let two = c.in_ok-push_child-2.ensures.pushed in
    let first_long = child_joined c.push.new.self c.push_child.new.word _ c.args.values.now.first one.0 f.one_bits one.1 one.2 (fits_first kinds c.args.child.kind c.args.child.width c.args.values.now f c.sequence.result.now kept _ _ _ are) in
    let second_long = child_joined c.push_child.new.word c.push_child-2.new.word _ c.args.values.now.second two.0 f.two_bits two.1 two.2 (fits_second kinds c.args.child.kind c.args.child.width c.args.values.now f c.sequence.result.now kept _ _ _ are) in
    let full = c.in_err-push_child-3.ensures.none refl f.three_bits (fits_third kinds c.args.child.kind c.args.child.width c.args.values.now f c.sequence.result.now kept _ _ _ are) in
    omega (arith, f.few, ap length c.new-word.ensures, coded, first_long, second_long, full)

pub returns-in_err-push-2-clause-none : goal.returns-in_err-push-2-clause-none
returns-in_err-push-2-clause-none g c none keeps f =
    let kinds = (g.P.Places.schema c.args.places.now).kinds in
    let are = three_in c.sequence.result.now _ c.in-len3.len_at_least c.in-len3.len_below in
    let kept = c.sequence.ensures.whole keeps in
    let coded = bits_long c.new-word.result c.push.new.self c.args.child.width c.from.result c.in_ok-push.ensures.pushed in
    let one = c.in_ok-push_child.ensures.pushed in
    let two = c.in_ok-push_child-2.ensures.pushed in
    let three = c.in_ok-push_child-3.ensures.pushed in
    let first_long = child_joined c.push.new.self c.push_child.new.word _ c.args.values.now.first one.0 f.one_bits one.1 one.2 (fits_first kinds c.args.child.kind c.args.child.width c.args.values.now f c.sequence.result.now kept _ _ _ are) in
    let second_long = child_joined c.push_child.new.word c.push_child-2.new.word _ c.args.values.now.second two.0 f.two_bits two.1 two.2 (fits_second kinds c.args.child.kind c.args.child.width c.args.values.now f c.sequence.result.now kept _ _ _ are) in
    let third_long = child_joined c.push_child-2.new.word c.push_child-3.new.word _ c.args.values.now.third three.0 f.three_bits three.1 three.2 (fits_third kinds c.args.child.kind c.args.child.width c.args.values.now f c.sequence.result.now kept _ _ _ are) in
    omega (arith, f.few, ap length c.new-word.ensures, coded, first_long, second_long, third_long, c.in_err-push-2.ensures.none refl)
