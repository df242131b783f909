use Rattle.std.proofs.Common.{take}
use Rattle.aes3_status.specs.NamedSettings.{IsNoSetting}
use Rattle.aes3_status.proofs.named_settings.setting_in.Given as goal

abbrev pub invariant-loop-field : goal.invariant-loop-field
invariant-loop-field l = IsNoSetting l.text (take l.field-index l.fields)
