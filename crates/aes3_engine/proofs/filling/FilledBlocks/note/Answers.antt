use Rattle.std.proofs.Common.{◌≡◌, Option, ap, sym, ◌∙◌, rules}
use Rattle.aes3_engine.specs.declared.filling.Progress.{Progress}
use Rattle.aes3_engine.specs.FillSteps.{first_of}
use Rattle.aes3_engine.proofs.FillSteps.{progress-is}
use Rattle.aes3_engine.proofs.filling.FilledBlocks.note.Goals.{in-None, in-Some}
use Rattle.aes3_engine.proofs.filling.FilledBlocks.note.Goals as goal

pub returns-clause-progress : goal.returns-clause-progress
returns-clause-progress c = λ b e.
    let k = c.args.self.now.progress in
    let first : c.match-self.first ≡ first_of k c.args.at =
    elim c.match-self.branch [
      | in-None w ↦ w.first-is ∙ sym (ap (λ (v : Option Progress). first_of v c.args.at) w.in-None.is)
      | in-Some w ↦ w.first-is ∙ sym (ap (λ (v : Option Progress). first_of v c.args.at) w.in-Some.is)
    ] in
    progress-is c.args.self.now.fill k c.args.at b first
    (search (rules, c.frames_between.ensures.count)) (c.filling.ensures b e)
