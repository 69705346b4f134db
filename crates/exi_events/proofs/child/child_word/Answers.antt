use Rattle.std.proofs.Common.{arith, refl, ap, length}
use Rattle.exi_writing.specs.Documents.{element}
use Rattle.exi_events.proofs.Coded.{code_range}
use Rattle.exi_events.proofs.Limits.{few_code_bits, code_width}
use Rattle.exi_events.proofs.Lengths.{joined_long, bits_long}
use Rattle.exi_events.proofs.Shorts.{some_type, no_type, typed_short, same_long}
use Rattle.exi_writing.specs.Short.{tree_of}
use Rattle.exi_events.proofs.child.child_word.Goals as goal

pub push-requires-clause-few : goal.push-requires-clause-few
push-requires-clause-few g c = few_code_bits _ _ c.requires.child.is_width (omega (arith, c.requires.child.few))

pub push-requires-clause-range : goal.push-requires-clause-range
push-requires-clause-range g c =
    code_range (g.P.Places.schema c.args.places.now) c.args.here (element c.args.name c.args.child.kind c.args.child.next) c.args.child.code c.from.result c.args.child.width c.from.ensures c.requires.child.is_width c.requires.child.offered

pub returns-in_err-datatype-clause-none : goal.returns-in_err-datatype-clause-none
returns-in_err-datatype-clause-none g c none may = no_type _ c.datatype.result may.datatype c.in_err-datatype.was c.datatype.ensures may.simple

pub returns-in_err-push-clause-none : goal.returns-in_err-push-clause-none
returns-in_err-push-clause-none g c none may =
    let wide = code_width _ _ c.requires.child.is_width (omega (arith, c.requires.child.few)) in
    omega (arith, ap length c.new-word.ensures, wide, c.in_err-push.ensures.none refl)

pub returns-in_err-push-2-clause-none : goal.returns-in_err-push-2-clause-none
returns-in_err-push-2-clause-none g c none may =
    let wide = code_width _ _ c.requires.child.is_width (omega (arith, c.requires.child.few)) in
    omega (arith, ap length c.new-word.ensures, wide, bits_long c.new-word.result c.push.new.self c.args.child.width c.from.result c.in_ok-push.ensures.pushed, c.in_err-push-2.ensures.none refl)

pub returns-in_err-push_value-clause-none : goal.returns-in_err-push_value-clause-none
returns-in_err-push_value-clause-none g c none may =
    let wide = code_width _ _ c.requires.child.is_width (omega (arith, c.requires.child.few)) in
    let one = bits_long c.new-word.result c.push.new.self c.args.child.width c.from.result c.in_ok-push.ensures.pushed in
    let two = bits_long c.push.new.self c.push-2.new.self 1 0 c.in_ok-push-2.ensures.pushed in
    let typed = typed_short (g.P.Places.schema c.args.places.now).kinds c.args.child.kind (tree_of c.args.value) may c.in_ok-datatype.datatype (some_type _ c.datatype.result c.in_ok-datatype.datatype may.datatype c.in_ok-datatype.was c.datatype.ensures may.simple) in
    omega (arith, ap length c.new-word.ensures, wide, one, two, may.written.few, c.in_err-push_value.ensures.none refl may.bits typed)

pub returns-in_err-push-3-clause-none : goal.returns-in_err-push-3-clause-none
returns-in_err-push-3-clause-none g c none may =
    let wide = code_width _ _ c.requires.child.is_width (omega (arith, c.requires.child.few)) in
    let one = bits_long c.new-word.result c.push.new.self c.args.child.width c.from.result c.in_ok-push.ensures.pushed in
    let two = bits_long c.push.new.self c.push-2.new.self 1 0 c.in_ok-push-2.ensures.pushed in
    let typed = typed_short (g.P.Places.schema c.args.places.now).kinds c.args.child.kind (tree_of c.args.value) may c.in_ok-datatype.datatype (some_type _ c.datatype.result c.in_ok-datatype.datatype may.datatype c.in_ok-datatype.was c.datatype.ensures may.simple) in
    let pushed = c.in_ok-push_value.ensures.pushed in
    let three = joined_long c.push-2.new.self c.push_value.new.word pushed.0 pushed.1 in
    omega (arith, ap length c.new-word.ensures, wide, one, two, three, same_long _ _ pushed.0 may.bits pushed.2 typed, may.written.few, c.in_err-push-3.ensures.none refl)
