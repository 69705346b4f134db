use Rattle.next_words.proofs.Order.{runs_read_in_order}
use Rattle.next_words.proofs.words_are_read_in_order.Goals as goal

pub returns : goal.returns
returns g c = runs_read_in_order _
