use Rattle.std.proofs.Common.{◌≡◌, ◌∙◌, None, Some, ap, codes, rules, sym}
use Rattle.clap.specs.Walk.{first_of}
use Rattle.aes3_cli.specs.Options.{options_of}
use Rattle.aes3_cli.proofs.OptionReads.{text_is}
use Rattle.aes3_capture_runs.specs.Asks.{octets_by}
use Rattle.aes3_capture_runs.specs.Values.{bit_in}
use Rattle.aes3_capture_runs.proofs.OptionValues.{no-value-of-text, none-is-value, text-is-value, value-of-none}
use Rattle.aes3_capture_runs.proofs.OptionValues.{value-of-text}
use Rattle.aes3_capture_runs.proofs.capture_job.bit.Goals as goal

none : (c : goal.In_default) → first_of (codes "bit") (options_of c.args.options.now) ≡ None
none c = text_is c.args.options.now (codes "bit") c.get_str.result None c.get_str.ensures c.in_default.is

pub returns-in_default-clause-value : goal.returns-in_default-clause-value
returns-in_default-clause-value c =
    let options = options_of c.args.options.now in none-is-value (bit_in (octets_by options)) (codes "bit") options (none c)

pub returns-in_default-clause-bit : goal.returns-in_default-clause-bit
returns-in_default-clause-bit c =
    let options = options_of c.args.options.now in
    sym (value-of-none (bit_in (octets_by options)) (codes "bit") options (none c))

pub returns-in-Some-bit_of_text-clause-value : goal.returns-in-Some-bit_of_text-clause-value
returns-in-Some-bit_of_text-clause-value c =
    let options = options_of c.args.options.now in
    text-is-value (bit_in (octets_by options)) (codes "bit") options c.in-Some.text.now _
    (text_is c.args.options.now (codes "bit") c.get_str.result (Some c.in-Some.text) c.get_str.ensures c.in-Some.is)
    (ap (λ n. bit_in n c.in-Some.text.now) (sym c.requires) ∙ (sym c.bit_of_text.ensures ∙ c.in-Some-bit_of_text.is))

pub returns-in-Some-bit_of_text-clause-bit : goal.returns-in-Some-bit_of_text-clause-bit
returns-in-Some-bit_of_text-clause-bit c =
    let options = options_of c.args.options.now in
    let means = ap (λ n. bit_in n c.in-Some.text.now) (sym c.requires)
    ∙ (sym c.bit_of_text.ensures ∙ c.in-Some-bit_of_text.is) in
    sym (value-of-text (bit_in (octets_by options)) (codes "bit") options c.in-Some.text.now _
    (text_is c.args.options.now (codes "bit") c.get_str.result (Some c.in-Some.text) c.get_str.ensures c.in-Some.is)
    (search (rules, means)))

pub returns-in-None-clause-wrong : goal.returns-in-None-clause-wrong
returns-in-None-clause-wrong c =
    let options = options_of c.args.options.now in
    no-value-of-text (bit_in (octets_by options)) (codes "bit") options c.in-Some.text.now
    (text_is c.args.options.now (codes "bit") c.get_str.result (Some c.in-Some.text) c.get_str.ensures c.in-Some.is)
    (ap (λ n. bit_in n c.in-Some.text.now) (sym c.requires) ∙ (sym c.bit_of_text.ensures ∙ c.in-None.is))
