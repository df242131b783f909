use Rattle.std.proofs.Common.{◌≡◌, ◌++◌, take}
use Rattle.std.specs.List.{flat_map}
use Rattle.aes3_status.specs.Choices.{named_choices}
use Rattle.aes3_status.proofs.choices.add_named.Given as goal

abbrev pub invariant-loop-field : goal.invariant-loop-field
invariant-loop-field l = l.text.bytes.items ≡ l.fn.text.bytes.items ++ flat_map (named_choices l.setting)
    (take l.field-index l.fields)
