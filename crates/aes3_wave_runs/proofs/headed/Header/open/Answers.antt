use Rattle.std.proofs.Common.{rules, None, [], ◌∷◌, ap, ◌∙◌}
use Rattle.aes3_cell.proofs.Writing.{wrote-is}
use Rattle.aes3_lock.specs.declared.report.Report.TheVariants.{Whole}
use Rattle.aes3_wave.specs.Written.{written}
use Rattle.aes3_wave_runs.specs.Status.{rate_of_status}
use Rattle.aes3_wave_runs.specs.ToWav.{rate_for}
use Rattle.aes3_wave_runs.proofs.HeadedSamples.{opened-whole}
use Rattle.aes3_wave_runs.proofs.headed.Header.open.Goals as goal

pub returns-in-Whole-clause-wrote : goal.returns-in-Whole-clause-wrote
returns-in-Whole-clause-wrote g c =
    let k = c.args.self.now in
    wrote-is (ap (λ n. written k.depth (rate_for k.rate n) None)
    (c.rate_of_status.ensures ∙ ap rate_of_status c.channel_status.ensures)
    ∙ opened-whole c.args.marked k.depth k.rate c.args.lock.now c.in-Whole.at c.in-Whole.before c.block-block.result
    c.if-self.false c.in-Some.is c.in-Whole.is
    (ap (λ v. Whole c.in-Whole.at c.in-Whole.before v ∷ []) (search rules))) c.begin.ensures.wrote
