use Rattle.site_turns.proofs.Heard.{read_out}
use Rattle.site_turns.proofs.hearing.take_in.Goals as goal

pub hear_all-requires-clause-read : goal.hear_all-requires-clause-read
hear_all-requires-clause-read c = read_out c.args.places.now c.law_of_rest.ensures.read c.requires.quiet
