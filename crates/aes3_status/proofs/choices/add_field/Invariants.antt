use Rattle.std.proofs.Common.{◌≡◌, ◌++◌}
use Rattle.std.specs.List.{flat_map}
use Rattle.aes3_status.specs.Choices.{below, code_choices}
use Rattle.aes3_status.proofs.choices.add_field.Given as goal

abbrev pub invariant-loop-under : goal.invariant-loop-under
invariant-loop-under l = l.text.bytes.items ≡ l.fn.text.bytes.items ++ flat_map (code_choices l.field) (below l.under)
