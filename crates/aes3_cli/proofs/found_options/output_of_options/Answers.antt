use Rattle.std.proofs.Common.{◌∙◌, codes, refl, sym, ap}
use Rattle.std.specs.Prelude.{option_and_then}
use Rattle.aes3_cli.specs.Options.{named_file}
use Rattle.aes3_cli.proofs.OptionReads.{text_is}
use Rattle.aes3_cli.proofs.found_options.output_of_options.Goals as goal

pub returns : goal.returns
returns c =
    c.named_file.ensures
    ∙ ap (option_and_then named_file)
    (sym (text_is c.args.options.now (codes "output") c.get_str.result c.get_str.result c.get_str.ensures refl))
