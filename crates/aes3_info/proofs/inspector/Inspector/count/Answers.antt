use Rattle.std.proofs.Common.{◌∙◌, ap, ap₂, refl}
use Rattle.aes3_lock.specs.Following.{report_in}
use Rattle.aes3_info.specs.declared.facts.Facts.{Facts}
use Rattle.aes3_info.specs.declared.gaps.GapFacts.{GapFacts}
use Rattle.aes3_info.specs.declared.reports.ReportFacts.{ReportFacts}
use Rattle.aes3_info.specs.Infos.{with_samples}
use Rattle.aes3_info.proofs.Inspecting.{next-behind}
use Rattle.aes3_info.proofs.inspector.Inspector.count.Goals as goal

pub returns-clause-next : goal.returns-clause-next
returns-clause-next c =
    let f = c.args.self.now.facts in
    let x = report_in c.args.lock.now c.args.ending in
    λ r h.
    next-behind f c.count_samples.new.self.facts c.gaps_before-gaps.result c.args.self.now.place
    c.place_behind-self.result r x h
    (c.gaps_before-gaps.ensures r (ap (λ (z : Facts). z.reports.whole) h.facts_is)
    ∙ refl)
    (c.count_samples.ensures.facts
    ∙ ap₂ (λ (u : ReportFacts) (v : GapFacts). with_samples (record {
      cells = f.cells;
      reports = u;
      gaps = v;
      first = f.first;
      second = f.second;
    }) x) c.count.ensures c.and-self.ensures)
    (rw c.count_samples.ensures.place at c.place_behind-self.ensures)
