use Rattle.std.specs.Str.Parse.{ParsesUnsigned, ExplainsUnsignedError, HasUnsignedDigitsIfOk}
use Rattle.aes3_cli_arguments.proofs.OptionReads.{bounded_is, few}
use Rattle.aes3_cli_arguments.proofs.value.number_if_given.Goals as goal

pub returns : goal.returns
returns c =
    bounded_is 64 _ (λ bs r. ParsesUnsigned 64 10 bs r × ExplainsUnsignedError 10 bs r × HasUnsignedDigitsIfOk bs r)
    c.args.options.now c.args.name.now c.requires.0 c.requires.1
    c.get_one.result (λ t x g. g.0) (few c.requires.0 c.requires.1) c.requires.2
    c.get_one.ensures.none c.get_one.ensures.value
