use Rattle.std.proofs.Common.{◌≡◌, false, take}
use Rattle.std.specs.List.{list_any}
use Rattle.aes3_status.specs.Choices.{is_named}
use Rattle.aes3_status.proofs.choices.has_name.Given as goal

abbrev pub invariant-loop-field : goal.invariant-loop-field
invariant-loop-field l = list_any (is_named l.setting) (take l.field-index l.fields) ≡ false
