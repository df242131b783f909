use Rattle.std.proofs.Common.{ℕ, ◌<◌}
use Rattle.aes3_cli_arguments.specs.Explained.{IsRefusalNumber}
use Rattle.aes3_cli_arguments.proofs.explain.refusal_number.Given as goal

abbrev pub invariant-loop-number : goal.invariant-loop-number
invariant-loop-number l = (n : ℕ) → n < l.number → ¬ IsRefusalNumber l.text n
