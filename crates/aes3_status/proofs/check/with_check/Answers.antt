use Rattle.std.proofs.Common.{ap, ◌∙◌, arith, rules}
use Rattle.aes3_status.specs.Bits.{status_bits}
use Rattle.aes3_status.specs.Check.{remainder}
use Rattle.aes3_status.proofs.CheckBytes.{set-last}
use Rattle.aes3_status.proofs.check.with_check.Goals as goal

pub returns-clause-holds : goal.returns-clause-holds
returns-clause-holds c =
    ap (λ b. remainder (status_bits b)) (search (rules, set-last c.args.bytes c.check_byte.result (omega arith)))
    ∙ c.check_byte.ensures.holds
