use Rattle.std.proofs.Common.{ℕ, ◌<◌}
use Rattle.aes3_status.specs.NamedSettings.{IsCodeOf}
use Rattle.aes3_status.proofs.named_settings.code_of.Given as goal

abbrev pub invariant-loop-code : goal.invariant-loop-code
invariant-loop-code l = (code : ℕ) → code < l.code → ¬ IsCodeOf l.text l.field l.under code
