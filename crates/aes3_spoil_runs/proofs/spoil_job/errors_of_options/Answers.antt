use Rattle.std.proofs.Common.{◌∙◌, arith, subst}
use Rattle.std.specs.List.{All}
use Rattle.std.proofs.lemmas.List.{take_all}
use Rattle.std.proofs.lemmas.Result.{err_from_is_err_and}
use Rattle.std.proofs.lemmas.List.Elements.{All-more}
use Rattle.aes3_spoil.specs.Errors.{errors_of}
use Rattle.aes3_cli.specs.Options.{options_of}
use Rattle.aes3_spoil_runs.specs.Asks.{AreValues, errors_by, named_errors}
use Rattle.aes3_spoil_runs.proofs.Adding.{one_more_of}
use Rattle.aes3_spoil_runs.proofs.Wrongs.{option_wrong}
use Rattle.aes3_spoil_runs.proofs.spoil_job.errors_of_options.Goals as goal

pub loop-named-preserved : goal.loop-named-preserved
loop-named-preserved c = (
  one_more_of (errors_by (options_of c.args.options.now)) (errors_of c.loop-named.errors)
      (errors_of c.add_option.new.errors) named_errors c.loop-named.named-index _ c.loop-named-test.true
      c.loop-named.invariant.0 c.in_ok-add_option.ensures.list,
  c.add_option.ensures.every ∙ c.loop-named.invariant.1,
  All-more (AreValues (options_of c.args.options.now)) named_errors c.loop-named.named-index _ c.loop-named-test.true
      c.loop-named.invariant.2 c.in_ok-add_option.ensures.values,
)

pub returns-in_err-add_option-clause-wrong : goal.returns-in_err-add_option-clause-wrong
returns-in_err-add_option-clause-wrong c =
    let p = err_from_is_err_and c.from_residual.result c.from_residual.ensures.1 in
    rw (p.1, p.2) (option_wrong (options_of c.args.options.now) (errors_of c.loop-named.errors) c.loop-named.named-index
    _ _ c.loop-named-test.true c.loop-named.invariant.0 c.in_err-add_option.ensures.wrong)

pub returns-clause-values : goal.returns-clause-values
returns-clause-values c =
    let past = c.loop-named-test.false in
    subst (All (AreValues (options_of c.args.options.now)))
    (take_all c.loop-named.named-index named_errors (omega arith)) c.loop-named.invariant.2
