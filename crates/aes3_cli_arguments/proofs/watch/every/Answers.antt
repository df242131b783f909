use Rattle.std.proofs.Common.{◌≤◌, ◌∙◌, ℕ, arith, codes, subst, sym}
use Rattle.std.proofs.lemmas.Nat.{mul-le}
use Rattle.aes3_cli.specs.CommandLine.{most_frames, most_seconds}
use Rattle.aes3_cli_arguments.specs.Jobs.{options_of}
use Rattle.aes3_cli_arguments.proofs.OptionReads.{within}
use Rattle.aes3_cli_arguments.proofs.watch.every.Goals as goal

-- an hour of a million frames a second is fewer than 2^64 cells
pub overflow_mul-result-2 : goal.overflow_mul-result-2
overflow_mul-result-2 c =
    let options = options_of c.args.options.now in
    let seconds = within 1 most_seconds options (codes "every-seconds") c.in-Some-number_if_given.seconds
    c.requires.every_seconds (sym c.number_if_given-2.ensures ∙ c.in-Some-number_if_given.is) in
    let rate = within 1 most_frames options (codes "rate") c.in-Some-rate.rate c.requires.rate
    (sym c.rate.ensures ∙ c.in-Some-rate.is) in
    let product = mul-le c.in-Some-number_if_given.seconds c.from.result most_seconds most_frames seconds
    (subst (λ (x : ℕ). x ≤ most_frames) (sym c.from.ensures) rate) in
    omega (arith, product)
