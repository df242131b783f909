use Rattle.aes3_cli_arguments.proofs.OptionReads.{flag_is}
use Rattle.aes3_cli_arguments.proofs.value.flag.Goals as goal

pub returns : goal.returns
returns c = flag_is c.args.options.now c.args.name.now c.get_flag.result c.requires c.get_flag.ensures.none
    c.get_flag.ensures.value c.get_flag.ensures.other
