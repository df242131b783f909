use Rattle.std.proofs.Common.{◌≡◌, ◌∙◌, Option, ℕ, None, Some, ap, codes, sym}
use Rattle.clap.specs.Walk.{first_of}
use Rattle.aes3_cli.specs.Options.{options_of}
use Rattle.aes3_cli.proofs.OptionReads.{text_is}
use Rattle.std.specs.Option.{option_map_or}
use Rattle.aes3_capture_runs.specs.Values.{octets_in}
use Rattle.aes3_capture_runs.proofs.OptionValues.{no-value-of-text, none-is-value, text-is-value, value-of-none}
use Rattle.aes3_capture_runs.proofs.OptionValues.{value-of-text}
use Rattle.aes3_capture_runs.proofs.capture_job.octets.Goals as goal

none : (c : goal.In_default) → first_of (codes "unit") (options_of c.args.options.now) ≡ None
none c = text_is c.args.options.now (codes "unit") c.get_str.result None c.get_str.ensures c.in_default.is

pub returns-in_default-clause-value : goal.returns-in_default-clause-value
returns-in_default-clause-value c = none-is-value octets_in (codes "unit") (options_of c.args.options.now) (none c)

pub returns-in_default-clause-octets : goal.returns-in_default-clause-octets
returns-in_default-clause-octets c =
    sym (ap (λ (o : Option ℕ). option_map_or (λ octets. octets) o 1)
    (value-of-none octets_in (codes "unit") (options_of c.args.options.now) (none c)))

pub returns-in-Some-octets_of_text-clause-value : goal.returns-in-Some-octets_of_text-clause-value
returns-in-Some-octets_of_text-clause-value c =
    text-is-value octets_in (codes "unit") (options_of c.args.options.now) c.in-Some.text.now _
    (text_is c.args.options.now (codes "unit") c.get_str.result (Some c.in-Some.text) c.get_str.ensures c.in-Some.is)
    (sym c.octets_of_text.ensures ∙ c.in-Some-octets_of_text.is)

pub returns-in-Some-octets_of_text-clause-octets : goal.returns-in-Some-octets_of_text-clause-octets
returns-in-Some-octets_of_text-clause-octets c =
    sym (ap (λ (o : Option ℕ). option_map_or (λ octets. octets) o 1)
    (value-of-text octets_in (codes "unit") (options_of c.args.options.now) c.in-Some.text.now _
    (text_is c.args.options.now (codes "unit") c.get_str.result (Some c.in-Some.text) c.get_str.ensures c.in-Some.is)
    (sym c.octets_of_text.ensures ∙ c.in-Some-octets_of_text.is)))

pub returns-in-None-clause-wrong : goal.returns-in-None-clause-wrong
returns-in-None-clause-wrong c =
    no-value-of-text octets_in (codes "unit") (options_of c.args.options.now) c.in-Some.text.now
    (text_is c.args.options.now (codes "unit") c.get_str.result (Some c.in-Some.text) c.get_str.ensures c.in-Some.is)
    (sym c.octets_of_text.ensures ∙ c.in-None.is)
