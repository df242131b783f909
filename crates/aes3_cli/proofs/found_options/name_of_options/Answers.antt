use Rattle.std.proofs.Common.{◌∙◌, Some, None, codes, refl, sym, ap}
use Rattle.clap.specs.Walk.{first_of}
use Rattle.aes3_cli.specs.Options.{either, options_of}
use Rattle.aes3_cli.proofs.OptionReads.{text_is}
use Rattle.aes3_cli.proofs.found_options.name_of_options.Goals as goal

pub returns-in-Some : goal.returns-in-Some
returns-in-Some c =
    let m = c.args.options.now in
    let given = text_is m (codes "FILE") c.get_str.result (Some c.in-Some.name) c.get_str.ensures c.in-Some.is in
    sym (ap (λ o. either o (first_of (codes "input") (options_of m))) given)

pub returns-in-None : goal.returns-in-None
returns-in-None c =
    let m = c.args.options.now in
    let none = text_is m (codes "FILE") c.get_str.result None c.get_str.ensures c.in-None.is in
    let given = text_is m (codes "input") c.get_str-in-None.result c.get_str-in-None.result c.get_str-in-None.ensures refl in
    sym (ap (λ o. either o (first_of (codes "input") (options_of m))) none ∙ given)
