use Rattle.std.proofs.Common.{◌≡◌, ◌∙◌, Option, codes, None, Some, is_some, subst, sym, ap}
use Rattle.std.specs.Prelude.{IfSome, option_and_then}
use Rattle.clap.specs.Walk.{Text, first_of}
use Rattle.aes3_cli.specs.Options.{options_of}
use Rattle.aes3_cli.proofs.OptionReads.{text_is}
use Rattle.aes3_spoil_runs.specs.Asks.{IsEvery}
use Rattle.aes3_spoil_runs.specs.Values.{every_in}
use Rattle.aes3_spoil_runs.proofs.spoil_job.set_every.Goals as goal

pub returns-in_default-clause-value : goal.returns-in_default-clause-value
returns-in_default-clause-value c =
    let none : first_of (codes "every") (options_of c.args.options.now) ≡ None =
    text_is c.args.options.now (codes "every") c.get_str.result None c.get_str.ensures c.in_default.is in
    subst (λ (o : Option Text). IfSome o IsEvery) (sym none) tt

pub returns-in_default-clause-every : goal.returns-in_default-clause-every
returns-in_default-clause-every c =
    let none : first_of (codes "every") (options_of c.args.options.now) ≡ None =
    text_is c.args.options.now (codes "every") c.get_str.result None c.get_str.ensures c.in_default.is in
    c.requires ∙ sym (ap (option_and_then every_in) none)

pub returns-in-Some-every_of_text-clause-value : goal.returns-in-Some-every_of_text-clause-value
returns-in-Some-every_of_text-clause-value c =
    let given = text_is c.args.options.now (codes "every") c.get_str.result (Some c.in-Some.text) c.get_str.ensures
    c.in-Some.is in
    subst (λ (o : Option Text). IfSome o IsEvery) (sym given)
    (ap is_some (sym c.every_of_text.ensures ∙ c.in-Some-every_of_text.is))

pub returns-in-Some-every_of_text-clause-every : goal.returns-in-Some-every_of_text-clause-every
returns-in-Some-every_of_text-clause-every c =
    let given = text_is c.args.options.now (codes "every") c.get_str.result (Some c.in-Some.text) c.get_str.ensures
    c.in-Some.is in
    c.set_every.ensures.every ∙ (sym c.in-Some-every_of_text.is
    ∙ (c.every_of_text.ensures ∙ sym (ap (option_and_then every_in) given)))

pub returns-in-None-clause-wrong : goal.returns-in-None-clause-wrong
returns-in-None-clause-wrong c =
    let given = text_is c.args.options.now (codes "every") c.get_str.result (Some c.in-Some.text) c.get_str.ensures
    c.in-Some.is in
    (given, sym c.every_of_text.ensures ∙ c.in-None.is)
