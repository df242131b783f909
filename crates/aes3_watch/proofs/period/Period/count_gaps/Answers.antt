use Rattle.std.proofs.Common.{◌∙◌, ap, arith}
use Rattle.aes3_watch.specs.Sums.{with_lost}
use Rattle.aes3_watch.proofs.Sums.{gap-cells, gap-place}
use Rattle.aes3_watch.proofs.period.Period.count_gaps.Goals as goal

pub returns-clause-place : goal.returns-clause-place
returns-clause-place c =
    omega (arith, gap-place c.args.self.now.place c.args.to c.saturating_sub.result c.saturating_sub.ensures)

pub returns-clause-figures : goal.returns-clause-figures
returns-clause-figures c = c.with_lost-self.ensures
    ∙ ap (with_lost c.args.self.now.figures)
    (gap-cells c.args.self.now.place c.args.to c.saturating_sub.result c.saturating_sub.ensures)
