use Rattle.std.proofs.Common.{rules, arith, drop, length-drop, ap, sym, ◌∙◌}
use Rattle.std.proofs.lemmas.List.{take_all}
use Rattle.aes3_frame.specs.declared.fill.Fill.{Fill}
use Rattle.aes3_engine.specs.Filling.{filling}
use Rattle.aes3_engine.proofs.FillSteps.{zero-frame, last-frame}
use Rattle.aes3_engine.proofs.filling.filling.Goals as goal

pub returns-in-Zero : goal.returns-in-Zero
returns-in-Zero c = λ b e. zero-frame b ∙ sym (ap (λ (f : Fill). filling f b) c.in-Zero.is)

pub returns-in-Hold : goal.returns-in-Hold
returns-in-Hold c = λ b e.
    let s = c.args.samples.now in
    let n = length-drop 1528 s in
    c.copy_from_slice.ensures.after ∙ search rules ∙ take_all 8 (drop 1528 s) (omega arith) ∙ ap (drop 1528) e ∙ last-frame b
    ∙ sym (ap (λ (f : Fill). filling f b) c.in-Hold.is)
