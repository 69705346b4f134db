use Rattle.std.proofs.Common.{rules, ◌≡◌, ◌*◌, ◌/◌, ◌≤◌, pos, to_z, arith, true, false, sym, ◌∙◌, ℤ}
use Rattle.std.proofs.lemmas.Int.{ints}
use mir.Syntax.{w16}
use Rattle.session_words.specs.Amounts.{tenths_of}
use Rattle.word_values.specs.Amounts as amounts
use Rattle.word_values.proofs.WrittenLemmas.{at_least_two, at_least_three, last_of, thousands_exact, ten_thousands_exact}
use Rattle.word_values.proofs.amounts.written_tenths.Goals as goal

pub returns-then-is_whole-4-clause-written : goal.returns-then-is_whole-4-clause-written
returns-then-is_whole-4-clause-written c =
    let a : amounts.is_whole c.args.size 1 ≡ false = cc in
    let b : amounts.is_whole c.args.size 10 ≡ false = cc in
    let d : amounts.is_whole c.args.size 100 ≡ false = cc in
    let e : amounts.is_whole c.args.size 1000 ≡ true = cc in
    let exact : (c.args.size / 1000 ≤ 32767) × (c.args.size / 1000 * 100000 / 100 ≡ c.args.size) = thousands_exact c.args.size e in
    let few : c.args.size / 1000 ≤ 32767 = exact.0 in
    let z : to_z w16 (c.args.size / 1000) ≡ pos (c.args.size / 1000) = omega (arith, ints) in
    record {
      exact = rw z exact.1;
      least = at_least_two c.args.size a b d;
    }

pub returns-clause-written : goal.returns-clause-written
returns-clause-written c =
    let a : amounts.is_whole c.args.size 1 ≡ false = cc in
    let b : amounts.is_whole c.args.size 10 ≡ false = cc in
    let d : amounts.is_whole c.args.size 100 ≡ false = cc in
    let e : amounts.is_whole c.args.size 1000 ≡ false = cc in
    let f : amounts.is_whole c.args.size 10000 ≡ true = last_of _ _ _ _ _ c.requires a b d e in
    let exact : (c.args.size / 10000 ≤ 32767) × (c.args.size / 10000 * 1000000 / 100 ≡ c.args.size) = ten_thousands_exact c.args.size f in
    let few : c.args.size / 10000 ≤ 32767 = exact.0 in
    let z : to_z w16 (c.args.size / 10000) ≡ pos (c.args.size / 10000) = omega (arith, ints) in
    record {
      exact = rw z exact.1;
      least = at_least_three c.args.size a b d e;
    }
