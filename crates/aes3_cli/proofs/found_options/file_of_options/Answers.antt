use Rattle.std.proofs.Common.{◌∙◌, ap}
use Rattle.std.specs.Prelude.{option_and_then}
use Rattle.aes3_cli.specs.Options.{named_file}
use Rattle.aes3_cli.proofs.found_options.file_of_options.Goals as goal

pub returns : goal.returns
returns c = c.named_file.ensures ∙ ap (option_and_then named_file) c.name_of_options.ensures
