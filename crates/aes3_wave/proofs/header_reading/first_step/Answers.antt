use Rattle.std.proofs.Common.{arith}
use Rattle.std.proofs.lemmas.Result.{err_from_is_err_and}
use Rattle.aes3_wave.proofs.Steps.{first-next, first-refused}
use Rattle.aes3_wave.proofs.header_reading.first_step.Goals as goal

pub returns-clause-decided : goal.returns-clause-decided
returns-clause-decided c = λ at. first-next at c.args.front.now c.in_ok-of_first.field-0 (omega arith) c.in_ok-of_first.ensures.known

pub returns-in_err-of_first-clause-decided : goal.returns-in_err-of_first-clause-decided
returns-in_err-of_first-clause-decided c =
    let p = err_from_is_err_and c.from_residual.result c.from_residual.ensures.1 in
    rw (p.1, p.2) (λ _. first-refused c.args.front.now _ (omega arith) c.in_err-of_first.ensures.known)
