use Rattle.std.proofs.Common.{◌≡◌, ◌∙◌, ◌++◌, ap, append_assoc, subst, arith}
use Rattle.std.proofs.lemmas.Result.{IfOk-weaker}
use Rattle.std.specs.List.{flat_map}
use Rattle.aes3_status.specs.Choices.{below, code_choices, field_choices, name_choices}
use Rattle.aes3_status.proofs.ChoiceTexts.{told-more}
use Rattle.aes3_status.proofs.choices.add_field.Goals as goal

pub loop-under-preserved : goal.loop-under-preserved
loop-under-preserved c =
    c.in_ok-add_codes.ensures
    ∙ told-more (code_choices c.args.field) c.args.text.now.bytes.items c.loop-under.text.bytes.items c.loop-under.under
    c.loop-under.invariant

pub returns : goal.returns
unfolding field_choices
returns c =
    let old = c.args.text.now.bytes.items in
    let words = flat_map (code_choices c.args.field) (below 8) in
    let all : c.loop-under.under ≡ 8 = omega arith in
    let told = subst (λ n. c.loop-under.text.bytes.items ≡ old ++ flat_map (code_choices c.args.field) (below n)) all
    c.loop-under.invariant in
    IfOk-weaker c.add_code_names.result _ _
    (λ x h. h ∙ (ap (λ t. t ++ name_choices c.args.field) told ∙ append_assoc old words (name_choices c.args.field)))
    c.add_code_names.ensures
