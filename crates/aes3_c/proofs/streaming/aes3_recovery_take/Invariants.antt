use Rattle.std.proofs.Common.{◌++◌}
use Rattle.aes3_c.specs.Owed.{owed_in}
use Rattle.aes3_c.proofs.streaming.aes3_recovery_take.Given as goal

abbrev pub ghost-take_in : goal.ghost-take_in
ghost-take_in g a = g.octets ++ owed_in a.recovery.now.owed
