use Rattle.std.proofs.Common.{ℕ, ◌≡◌, ◌+◌, ◌-◌, ◌*◌, ◌%◌, ◌<◌, ◌≤◌, ◌∙◌, ap, arith, sym}
use Rattle.std.proofs.lemmas.Nat.{mod-mul-add}
use Rattle.aes3_capture.proofs.follower.periods_in.Goals as goal

-- what is left of a time behind whole periods, where it is less than one
left-of : (time period count : ℕ) → count * period ≤ time → time < (count + 1) * period
    → time - count * period ≡ time % period
left-of time period count passed last =
    let left : ℕ = time - count * period in
    let sum : count * period + left ≡ time = omega (arith, passed) in
    let next : (count + 1) * period ≡ count * period + period = grind arith in
    let below : left < period = omega (arith, passed, last, next) in
    sym (mod-mul-add count period left below) ∙ ap (λ x. x % period) sum

pub returns-clause-rest : goal.returns-clause-rest
returns-clause-rest c =
    let few = c.few_periods_in-count in
    left-of c.args.time c.args.period few.result few.ensures.passed few.ensures.last
