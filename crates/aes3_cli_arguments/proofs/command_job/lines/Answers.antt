use Rattle.std.proofs.Common.{◌∙◌, sym, ap, Bool, cond, codes}
use Rattle.aes3_status.specs.declared.lines.Lines.TheVariants.{All, Faults}
use Rattle.aes3_cli_arguments.proofs.OptionReads.{flag_is}
use Rattle.aes3_cli_arguments.proofs.command_job.lines.Goals as goal

pub returns-then-get_flag : goal.returns-then-get_flag
returns-then-get_flag c =
    let is = flag_is c.args.options.now (codes "faults")
    c.get_flag.result c.requires c.get_flag.ensures.none c.get_flag.ensures.value c.get_flag.ensures.other in
    ap (λ (b : Bool). cond b Faults All) (sym c.if-get_flag.true ∙ is)

pub returns-else-get_flag : goal.returns-else-get_flag
returns-else-get_flag c =
    let is = flag_is c.args.options.now (codes "faults")
    c.get_flag.result c.requires c.get_flag.ensures.none c.get_flag.ensures.value c.get_flag.ensures.other in
    ap (λ (b : Bool). cond b Faults All) (sym c.if-get_flag.false ∙ is)
