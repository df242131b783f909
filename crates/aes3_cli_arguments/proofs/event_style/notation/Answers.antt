use Rattle.std.proofs.Common.{◌∙◌, sym, ap, Bool, cond, codes, rules}
use Rattle.aes3_status.specs.declared.style.Notation.TheVariants.{Json, Words}
use Rattle.aes3_cli_arguments.proofs.OptionReads.{flag_is}
use Rattle.aes3_cli_arguments.proofs.event_style.notation.Goals as goal

pub returns-then-get_flag : goal.returns-then-get_flag
returns-then-get_flag c =
    let is = flag_is c.args.options.now (codes "json")
    c.get_flag.result c.requires c.get_flag.ensures.none c.get_flag.ensures.value c.get_flag.ensures.other in
    search (rules, ap (λ (b : Bool). cond b Json Words) (sym c.if-get_flag.true ∙ is))

pub returns-else-get_flag : goal.returns-else-get_flag
returns-else-get_flag c =
    let is = flag_is c.args.options.now (codes "json")
    c.get_flag.result c.requires c.get_flag.ensures.none c.get_flag.ensures.value c.get_flag.ensures.other in
    search (rules, ap (λ (b : Bool). cond b Json Words) (sym c.if-get_flag.false ∙ is))
