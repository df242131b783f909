use Rattle.aes3_c.proofs.streaming.take_in.Given as goal

abbrev pub ghosts-take_some : goal.ghosts-take_some
ghosts-take_some g a = record { told = g.told }
