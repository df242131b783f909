use Rattle.std.proofs.Common.{◌≡◌, ◌∙◌, None, Some, sym}
use Rattle.clap.specs.Walk.{first_of}
use Rattle.aes3_cli.specs.Options.{options_of}
use Rattle.aes3_cli.proofs.OptionReads.{text_is}
use Rattle.aes3_capture_runs.specs.Values.{frequency_in}
use Rattle.aes3_capture_runs.proofs.OptionValues.{no-value-of-text, none-is-value, text-is-value, value-of-none}
use Rattle.aes3_capture_runs.proofs.OptionValues.{value-of-text}
use Rattle.aes3_capture_runs.proofs.capture_job.frequency.Goals as goal

none : (c : goal.In_default) → first_of c.args.name.now (options_of c.args.options.now) ≡ None
none c = text_is c.args.options.now c.args.name.now c.get_str.result None c.get_str.ensures c.in_default.is

pub returns-in_default-clause-value : goal.returns-in_default-clause-value
returns-in_default-clause-value c =
    none-is-value frequency_in c.args.name.now (options_of c.args.options.now) (none c)

pub returns-in_default-clause-frequency : goal.returns-in_default-clause-frequency
returns-in_default-clause-frequency c =
    sym (value-of-none frequency_in c.args.name.now (options_of c.args.options.now) (none c))

pub returns-in-Some-frequency_of_text-clause-value : goal.returns-in-Some-frequency_of_text-clause-value
returns-in-Some-frequency_of_text-clause-value c =
    text-is-value frequency_in c.args.name.now (options_of c.args.options.now) c.in-Some.text.now _
    (text_is c.args.options.now c.args.name.now c.get_str.result (Some c.in-Some.text) c.get_str.ensures c.in-Some.is)
    (sym c.frequency_of_text.ensures ∙ c.in-Some-frequency_of_text.is)

pub returns-in-Some-frequency_of_text-clause-frequency : goal.returns-in-Some-frequency_of_text-clause-frequency
returns-in-Some-frequency_of_text-clause-frequency c =
    sym (value-of-text frequency_in c.args.name.now (options_of c.args.options.now) c.in-Some.text.now _
    (text_is c.args.options.now c.args.name.now c.get_str.result (Some c.in-Some.text) c.get_str.ensures c.in-Some.is)
    (sym c.frequency_of_text.ensures ∙ c.in-Some-frequency_of_text.is))

pub returns-in-None-clause-none : goal.returns-in-None-clause-none
returns-in-None-clause-none c =
    no-value-of-text frequency_in c.args.name.now (options_of c.args.options.now) c.in-Some.text.now
    (text_is c.args.options.now c.args.name.now c.get_str.result (Some c.in-Some.text) c.get_str.ensures c.in-Some.is)
    (sym c.frequency_of_text.ensures ∙ c.in-None.is)
