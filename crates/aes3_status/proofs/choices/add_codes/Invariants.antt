use Rattle.std.proofs.Common.{◌≡◌, ◌++◌}
use Rattle.std.specs.List.{flat_map}
use Rattle.aes3_status.specs.Choices.{below, code_choice}
use Rattle.aes3_status.proofs.choices.add_codes.Given as goal

abbrev pub invariant-loop-code : goal.invariant-loop-code
invariant-loop-code l = l.text.bytes.items ≡ l.fn.text.bytes.items ++ flat_map (code_choice l.field l.under)
    (below l.code)
