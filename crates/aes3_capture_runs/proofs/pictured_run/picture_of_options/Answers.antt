use Rattle.std.proofs.Common.{codes, refl, sym}
use Rattle.aes3_cli.proofs.OptionReads.{text_is}
use Rattle.aes3_capture_runs.proofs.pictured_run.picture_of_options.Goals as goal

pub returns : goal.returns
returns c = sym (text_is c.args.options.now (codes "picture") c.get_str.result c.get_str.result c.get_str.ensures refl)
