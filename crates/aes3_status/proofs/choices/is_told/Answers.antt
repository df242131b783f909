use Rattle.std.proofs.Common.{◌≡◌, ◌∙◌, ◌++◌, true, sym, ap, subst, arith}
use Rattle.std.specs.List.{list_any}
use Rattle.aes3_status.specs.Choices.{below, is_printed}
use Rattle.aes3_status.specs.NamedSettings.{code_text}
use Rattle.aes3_status.proofs.ChoiceTexts.{none-more, one-found}
use Rattle.aes3_status.proofs.choices.is_told.Goals as goal

pub returns-then-is_printed : goal.returns-then-is_printed
returns-then-is_printed c =
    let line = c.put_code.ensures.code
    ∙ ap (λ l. l ++ code_text c.args.field c.args.under c.args.code) c.new-line.ensures in
    sym (subst (λ l. list_any (is_printed l c.args.field) (below c.args.under) ≡ true) line
    (one-found (is_printed c.put_code.new.line c.args.field) c.loop-lower.lower c.args.under (omega arith)
    (sym c.is_printed.ensures ∙ c.if-is_printed.true)))

pub loop-lower-preserved : goal.loop-lower-preserved
loop-lower-preserved c =
    none-more (is_printed c.put_code.new.line c.args.field) c.loop-lower.lower c.loop-lower.invariant
    (sym c.is_printed.ensures ∙ c.if-is_printed.false)
