use Rattle.std.proofs.Common.{[]}
use Rattle.message_parts.proofs.children.each_of_optional.Goals as goal

pub returns-clause-read : goal.returns-clause-read
returns-clause-read g c = λ ks F declared told h q.
    let begun = c.in_ok-first_child.ensures.read ks F [] declared told h in
    let one = c.in_ok-first.ensures.read ks F [] declared 0 told begun q.first_once q.first_is in
    let two = c.in_ok-second.ensures.read ks F [] declared 1 _ one q.second_once q.named q.second_is in
    c.in_ok-third.ensures.read ks F [] declared 2 _ two q.third_once q.third_is
