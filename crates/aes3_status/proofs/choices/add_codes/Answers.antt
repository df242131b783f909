use Rattle.std.proofs.Common.{◌∙◌}
use Rattle.aes3_status.specs.Choices.{code_choice}
use Rattle.aes3_status.proofs.ChoiceTexts.{told-more}
use Rattle.aes3_status.proofs.choices.add_codes.Goals as goal

pub loop-code-preserved : goal.loop-code-preserved
loop-code-preserved c =
    c.in_ok-add_code.ensures
    ∙ told-more (code_choice c.args.field c.args.under) c.args.text.now.bytes.items c.loop-code.text.bytes.items
    c.loop-code.code c.loop-code.invariant
