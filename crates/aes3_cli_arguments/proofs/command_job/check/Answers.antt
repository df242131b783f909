use Rattle.std.proofs.Common.{◌∙◌, refl, sym, codes}
use Rattle.aes3_cli_arguments.proofs.OptionReads.{flag_is}
use Rattle.aes3_cli_arguments.proofs.command_job.check.Goals as goal

pub returns-then-get_flag : goal.returns-then-get_flag
returns-then-get_flag c =
    let is = flag_is c.args.options.now (codes "gaps")
    c.get_flag.result c.requires.gaps c.get_flag.ensures.none c.get_flag.ensures.value c.get_flag.ensures.other in
    (refl, c.lines-lines.ensures, sym is ∙ c.if-get_flag.true)

pub returns-else-get_flag : goal.returns-else-get_flag
returns-else-get_flag c =
    let is = flag_is c.args.options.now (codes "gaps")
    c.get_flag.result c.requires.gaps c.get_flag.ensures.none c.get_flag.ensures.value c.get_flag.ensures.other in
    (refl, c.lines-lines.ensures, sym is ∙ c.if-get_flag.false)
