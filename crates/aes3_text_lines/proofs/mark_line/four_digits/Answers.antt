use Rattle.std.proofs.Common.{◌∙◌, ◌∷◌, [], arith, ap, ap₂}
use Rattle.aes3_text_lines.proofs.MarkTexts.{tens-are}
use Rattle.aes3_text_lines.proofs.mark_line.four_digits.Goals as goal

pub overflow_sub-digits : goal.overflow_sub-digits
overflow_sub-digits c =
    let t = tens-are c.args.number c.requires in
    omega (arith, t)

pub returns : goal.returns
returns c =
    let t = tens-are c.args.number c.requires in
    c.to_le_bytes.ensures
    ∙ ap₂ (λ x y. x ∷ y) (omega (arith, t))
    (ap₂ (λ x y. x ∷ y) (omega (arith, t))
    (ap₂ (λ x y. x ∷ y) (omega (arith, t)) (ap (λ x. x ∷ []) (omega (arith, t)))))
