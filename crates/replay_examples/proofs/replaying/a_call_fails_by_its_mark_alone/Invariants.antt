use Rattle.replay_examples.proofs.replaying.a_call_fails_by_its_mark_alone.Given as goal

abbrev pub ghosts-orders_open : goal.ghosts-orders_open
ghosts-orders_open g a = record { entries = a.trace.items }
