use Rattle.site_replays.proofs.replay.Given as goal

abbrev pub ghosts-replay_recorded : goal.ghosts-replay_recorded
ghosts-replay_recorded g a = record { entries = a.recorded.items }
