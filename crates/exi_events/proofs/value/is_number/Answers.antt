use Rattle.std.proofs.Common.{◌≡◌, ◌↔◌, IsTrue, ℤ, ◌+ℤ◌, to_z, of_z, ◌≤ℤ◌, pos, ap₂, arith, rules, sym, subst, ◌∙◌}
use Rattle.std.specs.Int.{w64, w128}
use Rattle.std.specs.Int.Signed.{lt_z}
use Rattle.std.proofs.lemmas.Int.{ints, to_z-of_z}
use Rattle.exi_writing.specs.Trees.{Number}
use Rattle.exi_writing.specs.Values.{IsValue}
use Rattle.exi_events.proofs.Bounds.{bounded_decides}
use Rattle.exi_events.proofs.value.is_number.Goals as goal

pub returns-then-from-number : goal.returns-then-from-number
returns-then-from-number c =
    let number = to_z-of_z w128 c.args.number (search rules) in
    let from = to_z-of_z w128 c.from-from.result (search rules) in
    let count = to_z-of_z w128 c.from.result (search rules) in
    let sum : ℤ = to_z w128 (of_z w128 c.from-from.result) +ℤ to_z w128 (of_z w128 c.from.result) in
    let bound : to_z w128 (of_z w128 sum) ≡ c.in-Bounded.least +ℤ pos c.in-Bounded.count =
    to_z-of_z w128 sum (search rules) ∙ ap₂ (λ (a b : ℤ). a +ℤ b) (from ∙ c.from-from.ensures ∙ to_z-of_z w64 c.in-Bounded.least (search rules)) (count ∙ c.from.ensures) in
    let least : c.in-Bounded.least ≤ℤ c.args.number = grind (arith, ints, number, from) in
    subst (λ (x : ℤ). IsTrue (lt_z x (to_z w128 (of_z w128 sum))) ↔ IsValue c.args.datatype (Number c.args.number)) (sym number)
    (bounded_decides c.args.datatype c.in-Bounded.least c.args.number (to_z w128 (of_z w128 sum)) c.in-Bounded.count c.in-Bounded.is bound least)
