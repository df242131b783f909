use Rattle.aes3_cli_arguments.proofs.ChannelNumbers.{none_is_read, number_is}
use Rattle.aes3_cli_arguments.proofs.wave.channel_of_text.Goals as goal

pub returns-in-Ok : goal.returns-in-Ok
returns-in-Ok c = number_is c.args.text.now c.parse.result c.in-Ok.number _ c.parse.ensures.value.0 c.in-Ok.is c.checked_sub.ensures

pub returns-in-Err : goal.returns-in-Err
returns-in-Err c = none_is_read c.args.text.now c.parse.result _ c.parse.ensures.value.0 c.in-Err.is
