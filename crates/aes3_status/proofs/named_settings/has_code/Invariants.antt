use Rattle.std.proofs.Common.{◌≡◌, ℕ, ◌<◌, None, get_or}
use Rattle.aes3_status.proofs.named_settings.has_code.Given as goal

abbrev pub invariant-loop-code : goal.invariant-loop-code
invariant-loop-code l = (under : ℕ) → under < l.code-index → get_or l.codes under None ≡ None
