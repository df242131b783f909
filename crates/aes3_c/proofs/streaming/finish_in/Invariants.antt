use Rattle.aes3_c.proofs.streaming.finish_in.Given as goal

abbrev pub ghosts-finish_samples : goal.ghosts-finish_samples
ghosts-finish_samples g a = record { told = g.told }
