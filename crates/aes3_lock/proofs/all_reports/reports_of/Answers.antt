use Rattle.std.proofs.Common.{◌+◌, ◌++◌, drop, sym, ap, ◌∙◌, arith, append-nil}
use Rattle.std.specs.Prelude.{option_to_list}
use Rattle.std.proofs.lemmas.List.{drop_all}
use Rattle.aes3_lock.specs.Reports.{reports_from}
use Rattle.aes3_lock.proofs.OnePlace.{reports-none, reports-more}
use Rattle.aes3_lock.proofs.all_reports.reports_of.Goals as goal
use Rattle.aes3_lock.proofs.all_reports.reports_of.Goals.{in-Some+in_ok-push, in_default}

pub loop-at-init : goal.loop-at-init
loop-at-init c = record { found = reports-none c.args.cells.now c.new-found.result.items c.new-found.ensures.items }

pub loop-at-preserved : goal.loop-at-preserved
loop-at-preserved c =
    let more = reports-more c.args.cells.now c.loop-at.found.items (option_to_list c.report_at.result) c.loop-at.at
    (omega arith) c.report_at.ensures c.loop-at.invariant.found in
    record {
      found = ap (λ x. x ++ reports_from (c.loop-at.at + 1) (drop (c.loop-at.at + 1) c.args.cells.now))
          (elim c.match-report_at.branch [
            | in-Some+in_ok-push w ↦ ap (λ v. v.items) w.found-is ∙ w.in_ok-push.ensures.items
                ∙ sym (ap (λ r. c.loop-at.found.items ++ option_to_list r) w.in-Some.is)
            | in_default w ↦ ap (λ v. v.items) w.found-is ∙ sym (append-nil c.loop-at.found.items)
                ∙ sym (ap (λ r. c.loop-at.found.items ++ option_to_list r) w.in_default.is)
          ]) ∙ more;
    }

pub returns : goal.returns
returns c =
    let found = c.loop-at.found.items in
    sym (append-nil found)
    ∙ ap (λ cells. found ++ reports_from c.loop-at.at cells)
    (sym (drop_all c.loop-at.at c.args.cells.now (omega arith))) ∙ c.loop-at.invariant.found
