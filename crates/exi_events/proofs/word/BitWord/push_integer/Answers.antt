use Rattle.std.proofs.Common.{◌∙◌, rules, sym}
use Rattle.std.proofs.lemmas.Int.{to_z-of_z}
use Rattle.std.specs.Int.{w64}
use Rattle.exi_events.proofs.Lengths.{magnitude_full}
use Rattle.exi_events.proofs.Words.{some_weaker, signed_pushed}
use Rattle.exi_events.proofs.word.BitWord.push_integer.Goals as goal

pub returns : goal.returns
returns c =
    let same = to_z-of_z w64 c.args.value (search rules) in
    record {
      pushed = some_weaker c.push_unsigned.result _ _
          (λ is. signed_pushed c.args.self.now c.push.new.self c.push_unsigned.new.self c.sign_and_magnitude-negative.result.0 c.from.result c.sign_and_magnitude-negative.result.1 c.args.value c.from.ensures (sym same ∙ c.sign_and_magnitude-negative.ensures) c.in_ok-push.ensures.pushed is)
          c.push_unsigned.ensures.pushed;
      none = λ is few. magnitude_full c.args.self.now c.push.new.self c.sign_and_magnitude-negative.result.0 c.from.result c.sign_and_magnitude-negative.result.1 c.args.value (sym same ∙ c.sign_and_magnitude-negative.ensures) c.in_ok-push.ensures.pushed (c.push_unsigned.ensures.none is) few;
    }
