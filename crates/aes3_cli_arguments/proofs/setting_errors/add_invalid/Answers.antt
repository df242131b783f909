use Rattle.std.proofs.Common.{◌∙◌, ◌++◌, ap, append_assoc}
use Rattle.std.proofs.lemmas.Result.{IfOk-weaker}
use Rattle.aes3_status.specs.Choices.{choices}
use Rattle.aes3_cli_arguments.specs.Jobs.{invalid_text, option_text, value_text}
use Rattle.aes3_cli_arguments.proofs.setting_errors.add_invalid.Goals as goal

pub returns : goal.returns
unfolding invalid_text
returns c =
    let old = c.args.text.now.bytes.items in
    let value = value_text c.args.setting.now in
    let option = option_text c.args.name.now in
    let told = choices c.args.setting.now in
    let line = c.in_ok-add_option.ensures
    ∙ (ap (λ t. t ++ option) c.in_ok-add_value.ensures ∙ append_assoc old value option) in
    IfOk-weaker c.add_choices.result _ _
    (λ x h. h ∙ (ap (λ t. t ++ told) line ∙ append_assoc old (value ++ option) told))
    c.add_choices.ensures
