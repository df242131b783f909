use Rattle.std.proofs.Common.{◌≡◌, ◌++◌}
use Rattle.std.specs.List.{flat_map}
use Rattle.aes3_status.specs.Choices.{below}
use Rattle.aes3_status.specs.Names.{name_text}
use Rattle.aes3_status.proofs.choices.add_code_names.Given as goal

abbrev pub invariant-loop-code : goal.invariant-loop-code
invariant-loop-code l = l.text.bytes.items ≡ l.fn.text.bytes.items ++ flat_map (name_text l.field) (below l.code)
