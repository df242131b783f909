use Rattle.std.proofs.Common.{◌∙◌, refl, sym}
use Rattle.std.specs.Str.Parse.{ParsesUnsigned, ExplainsUnsignedError, HasUnsignedDigitsIfOk}
use Rattle.aes3_cli_arguments.proofs.OptionReads.{number_is}
use Rattle.aes3_cli_arguments.proofs.value.number.Goals as goal

pub unwrap-requires : goal.unwrap-requires
unwrap-requires c =
    let is = number_is _ (λ bs r. ParsesUnsigned 64 10 bs r × ExplainsUnsignedError 10 bs r
    × HasUnsignedDigitsIfOk bs r) c.args.options.now c.args.name.now c.requires.0
    c.get_one.result (λ t x g. g.0) c.requires.1 c.get_one.ensures.value in
    rw is refl

pub returns : goal.returns
returns c =
    let is = number_is _ (λ bs r. ParsesUnsigned 64 10 bs r × ExplainsUnsignedError 10 bs r
    × HasUnsignedDigitsIfOk bs r) c.args.options.now c.args.name.now c.requires.0
    c.get_one.result (λ t x g. g.0) c.requires.1 c.get_one.ensures.value in
    c.requires.1 ∙ (sym is ∙ c.unwrap.ensures)
