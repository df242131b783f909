use Rattle.std.proofs.Common.{◌≡◌, ◌++◌, take}
use Rattle.std.specs.List.{flat_map}
use Rattle.std.specs.Prelude.{codes}
use Rattle.aes3_status.specs.Names.{name_of}
use Rattle.aes3_status.proofs.choices.add_names.Given as goal

abbrev pub invariant-loop-field : goal.invariant-loop-field
invariant-loop-field l = l.text.bytes.items ≡ l.fn.text.bytes.items ++ flat_map (λ f. codes " " ++ name_of f)
    (take l.field-index l.fields)
