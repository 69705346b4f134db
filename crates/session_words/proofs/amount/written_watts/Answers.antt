use Rattle.std.proofs.Common.{arith, rules}
use Rattle.session_words.proofs.AmountLemmas.{too_many_below}
use Rattle.session_words.proofs.amount.written_watts.Goals as goal

pub returns-then-watts-lt3276800-clause-written : goal.returns-then-watts-lt3276800-clause-written
returns-then-watts-lt3276800-clause-written c = record {
  value_is = search rules;
  fits = omega arith;
  least = too_many_below c.args.watts 1 (omega arith);
}
