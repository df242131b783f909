use Rattle.std.proofs.Common.{◌≡◌, take}
use Rattle.aes3_status.specs.Settings.{set_in_turn}
use Rattle.aes3_status.proofs.setting.set_codes.Given as goal

abbrev pub invariant-loop-setting : goal.invariant-loop-setting
invariant-loop-setting l = l.bytes ≡ set_in_turn (take l.setting-index l.settings) l.fn.bytes
