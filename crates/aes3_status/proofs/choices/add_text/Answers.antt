use Rattle.std.proofs.Common.{◌∙◌, ◌++◌, sym, ap, subst, arith}
use Rattle.std.specs.Str.{IsUtf8}
use Rattle.aes3_status.specs.NamedSettings.{code_text}
use Rattle.aes3_status.proofs.ChoiceTexts.{code-is-text}
use Rattle.aes3_status.proofs.choices.add_text.Goals as goal

pub unreachable-requires : goal.unreachable-requires
unreachable-requires c =
    let line = c.put_code.ensures.code
    ∙ ap (λ l. l ++ code_text c.args.field c.args.under c.args.code) c.new-line.ensures in
    c.in-Err.ensures.cases.0
    (subst IsUtf8 (sym (c.as_bytes.ensures ∙ line))
    (code-is-text c.args.field c.args.under c.args.code (omega (arith, c.ranges.code.fits))))
