use Rattle.std.proofs.Common.{arith, refl}
use Rattle.exi_events.proofs.Lengths.{more_long, one_full, first_of_two, second_of_two, first_of_three, second_of_three, third_of_three}
use Rattle.exi_events.proofs.Words.{some_weaker, one_pushed, two_pushed, three_pushed}
use Rattle.exi_events.proofs.word.BitWord.push_unsigned.Goals as goal

pub returns-then-value-lt128 : goal.returns-then-value-lt128
returns-then-value-lt128 c =
    record { pushed = some_weaker c.push.result _ _ (λ is. one_pushed c.args.self.now c.push.new.self c.args.value c.if-value-lt128.true is) c.push.ensures.pushed; none = λ is few. one_full c.args.self.now c.args.value c.if-value-lt128.true (c.push.ensures.none is) }

pub returns-then-value-lt16384 : goal.returns-then-value-lt16384
returns-then-value-lt16384 c =
    record {
      pushed = some_weaker c.push-then-value-lt16384-2.result _ _
          (λ is. two_pushed c.args.self.now c.push-then-value-lt16384.new.self c.push-then-value-lt16384-2.new.self c.args.value c.if-value-lt128.false c.if-value-lt16384.true c.in_ok-push.ensures.pushed is)
          c.push-then-value-lt16384-2.ensures.pushed;
      none = λ is few. second_of_two c.args.self.now c.push-then-value-lt16384.new.self _ c.args.value c.if-value-lt128.false c.if-value-lt16384.true c.in_ok-push.ensures.pushed (c.push-then-value-lt16384-2.ensures.none is);
    }

pub returns-then-value-lt2097152 : goal.returns-then-value-lt2097152
returns-then-value-lt2097152 c =
    record {
      pushed = some_weaker c.push-then-value-lt2097152-3.result _ _
          (λ is. three_pushed c.args.self.now c.push-then-value-lt2097152.new.self c.push-then-value-lt2097152-2.new.self c.push-then-value-lt2097152-3.new.self c.args.value c.if-value-lt16384.false c.if-value-lt2097152.true c.in_ok-push-2.ensures.pushed c.in_ok-push-3.ensures.pushed is)
          c.push-then-value-lt2097152-3.ensures.pushed;
      none = λ is few. third_of_three c.args.self.now c.push-then-value-lt2097152.new.self c.push-then-value-lt2097152-2.new.self _ _ c.args.value c.if-value-lt16384.false c.if-value-lt2097152.true c.in_ok-push-2.ensures.pushed c.in_ok-push-3.ensures.pushed
          (c.push-then-value-lt2097152-3.ensures.none is);
    }

pub returns-in_err-push-clause-none : goal.returns-in_err-push-clause-none
returns-in_err-push-clause-none c none few = first_of_two c.args.self.now c.args.value c.if-value-lt128.false c.if-value-lt16384.true (c.in_err-push.ensures.none refl)

pub returns-in_err-push-2-clause-none : goal.returns-in_err-push-2-clause-none
returns-in_err-push-2-clause-none c none few = first_of_three c.args.self.now c.args.value c.if-value-lt16384.false c.if-value-lt2097152.true (c.in_err-push-2.ensures.none refl)

pub returns-in_err-push-3-clause-none : goal.returns-in_err-push-3-clause-none
returns-in_err-push-3-clause-none c none few =
    second_of_three c.args.self.now c.push-then-value-lt2097152.new.self _ c.args.value c.if-value-lt16384.false c.if-value-lt2097152.true c.in_ok-push-2.ensures.pushed (c.in_err-push-3.ensures.none refl)

pub returns-clause-none : goal.returns-clause-none
returns-clause-none c none few = omega (arith, few, more_long c.args.value c.if-value-lt2097152.false)
