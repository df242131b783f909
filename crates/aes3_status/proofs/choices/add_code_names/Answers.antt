use Rattle.std.proofs.Common.{◌≡◌, ◌∙◌, ◌++◌, subst, arith}
use Rattle.std.specs.List.{flat_map}
use Rattle.aes3_status.specs.Choices.{below, code_count}
use Rattle.aes3_status.specs.Names.{name_text}
use Rattle.aes3_status.proofs.ChoiceTexts.{told-more}
use Rattle.aes3_status.proofs.choices.add_code_names.Goals as goal

pub loop-code-preserved : goal.loop-code-preserved
loop-code-preserved c =
    c.in_ok-add_code_name.ensures
    ∙ told-more (name_text c.args.field) c.args.text.now.bytes.items c.loop-code.text.bytes.items c.loop-code.code
    c.loop-code.invariant

pub returns : goal.returns
returns c =
    let all : c.loop-code.code ≡ code_count c.args.field = omega (arith, c.codes-code-end.ensures.count) in
    subst (λ n. c.loop-code.text.bytes.items ≡ c.args.text.now.bytes.items ++ flat_map (name_text c.args.field)
    (below n)) all c.loop-code.invariant
