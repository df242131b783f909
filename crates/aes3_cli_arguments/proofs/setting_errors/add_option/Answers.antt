use Rattle.std.proofs.Common.{◌∙◌, ◌∷◌, ◌++◌, [], ap, append_assoc}
use Rattle.std.specs.Prelude.{codes}
use Rattle.aes3_cli_arguments.specs.Jobs.{option_text}
use Rattle.aes3_cli_arguments.proofs.setting_errors.add_option.Goals as goal

pub returns : goal.returns
unfolding option_text
returns c =
    let old = c.args.text.now.bytes.items in
    let begin = codes "'--" in
    let name = c.args.name.now in
    let end = codes " <NAME=WORD>'" ++ 10 ∷ [] in
    let begun = c.in_ok-push_str-2.ensures.bytes
    ∙ (ap (λ t. t ++ name) c.in_ok-push_str.ensures.bytes ∙ append_assoc old begin name) in
    c.in_ok-push_str-3.ensures.bytes ∙ (ap (λ t. t ++ end) begun ∙ append_assoc old (begin ++ name) end)
