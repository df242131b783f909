use Rattle.std.proofs.Common.{◌++◌}
use Rattle.aes3_c.specs.Owed.{owed_in}
use Rattle.aes3_c.proofs.streaming.aes3_recovery_finish.Given as goal

abbrev pub ghost-finish_in : goal.ghost-finish_in
ghost-finish_in g a = g.octets ++ owed_in a.recovery.now.owed
