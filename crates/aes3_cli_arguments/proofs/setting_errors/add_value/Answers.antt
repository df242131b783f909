use Rattle.std.proofs.Common.{◌∙◌, ◌++◌, ap, append_assoc}
use Rattle.std.specs.Prelude.{codes}
use Rattle.aes3_cli_arguments.specs.Jobs.{value_text}
use Rattle.aes3_cli_arguments.proofs.setting_errors.add_value.Goals as goal

pub returns : goal.returns
unfolding value_text
returns c =
    let old = c.args.text.now.bytes.items in
    let begin = codes "error: invalid value '" in
    let setting = c.args.setting.now in
    let end = codes "' for " in
    let begun = c.in_ok-push_str-2.ensures.bytes
    ∙ (ap (λ t. t ++ setting) c.in_ok-push_str.ensures.bytes ∙ append_assoc old begin setting) in
    c.in_ok-push_str-3.ensures.bytes ∙ (ap (λ t. t ++ end) begun ∙ append_assoc old (begin ++ setting) end)
