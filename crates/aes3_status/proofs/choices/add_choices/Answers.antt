use Rattle.std.proofs.Common.{◌∙◌, ◌++◌, [], ap, append_assoc, sym}
use Rattle.std.proofs.lemmas.Result.{IfOk-weaker}
use Rattle.std.specs.Option.{option_map_or}
use Rattle.std.specs.Prelude.{codes, take}
use Rattle.aes3_status.specs.Choices.{both_choices, choices, use_choices, wide_choice, wide_names}
use Rattle.aes3_status.specs.NamedSettings.{consumer_fields, professional_fields}
use Rattle.aes3_status.specs.WideTexts.{wide_named}
use Rattle.aes3_status.proofs.choices.add_choices.Goals as goal

pub returns-in-Some : goal.returns-in-Some
unfolding choices
returns-in-Some c =
    let other = both_choices c.args.setting.now in
    let named = ap wide_named (sym c.name_in.ensures) ∙ sym c.wide_named.ensures ∙ c.in-Some.is in
    let line = sym (ap (λ o. option_map_or wide_choice o other) named) in
    IfOk-weaker c.add_wide_line.result _ _ (λ x h. h ∙ ap (λ t. c.args.text.now.bytes.items ++ t) line)
    c.add_wide_line.ensures

pub returns : goal.returns
unfolding choices both_choices
returns c =
    let first = use_choices (codes "  professional:") professional_fields (take 15 professional_fields) wide_names c.args.setting.now in
    let second = use_choices (codes "  consumer:") consumer_fields consumer_fields [] c.args.setting.now in
    let named = ap wide_named (sym c.name_in.ensures) ∙ sym c.wide_named.ensures ∙ c.in_default.is in
    let lines = sym (ap (λ o. option_map_or wide_choice o (both_choices c.args.setting.now)) named) in
    IfOk-weaker c.add_use-2.result _ _
    (λ x h. h ∙ (ap (λ t. t ++ second) c.in_ok-add_use.ensures ∙ append_assoc c.args.text.now.bytes.items first second)
    ∙ ap (λ t. c.args.text.now.bytes.items ++ t) lines) c.add_use-2.ensures
