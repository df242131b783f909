use Rattle.std.proofs.Common.{◌≡◌, false}
use Rattle.std.specs.List.{list_any}
use Rattle.std.specs.Str.{bytes_eq}
use Rattle.aes3_status.specs.Choices.{below}
use Rattle.aes3_status.specs.NamedSettings.{code_text}
use Rattle.aes3_status.proofs.choices.is_printed.Given as goal

abbrev pub invariant-loop-code : goal.invariant-loop-code
invariant-loop-code l = list_any (λ code. bytes_eq (code_text l.field l.under code) l.line) (below l.code) ≡ false
