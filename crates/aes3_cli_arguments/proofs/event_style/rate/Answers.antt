use Rattle.std.specs.Prelude.{codes}
use Rattle.std.specs.Str.Parse.{ParsesUnsigned, ExplainsUnsignedError, HasUnsignedDigitsIfOk}
use Rattle.aes3_cli.specs.CommandLine.{most_frames}
use Rattle.aes3_cli_arguments.proofs.OptionReads.{bounded_is, few_frames}
use Rattle.aes3_cli_arguments.proofs.event_style.rate.Goals as goal

pub returns : goal.returns
returns c =
    bounded_is 32 _ (λ bs r. ParsesUnsigned 32 10 bs r × ExplainsUnsignedError 10 bs r × HasUnsignedDigitsIfOk bs r)
    c.args.options.now (codes "rate") 1 most_frames
    c.get_one.result (λ t x g. g.0) few_frames c.requires c.get_one.ensures.none c.get_one.ensures.value
