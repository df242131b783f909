use Rattle.std.proofs.Common.{◌≡◌, Ok, ◌∙◌, ℕ, ap}
use Rattle.std.proofs.lemmas.Result.{err_from_is_err_and}
use Rattle.aes3_input.proofs.InputRuns.{run-err, run-ok, run-wrote}
use Rattle.aes3_info.specs.Facts.{facts_of, more}
use Rattle.aes3_info.proofs.Inspecting.{gives-page, info-counted}
use Rattle.aes3_info.proofs.inspector.info.Goals as goal

pub run_cells-requires-clause-start : goal.run_cells-requires-clause-start
run_cells-requires-clause-start g c = c.new-inspector.ensures.none

pub returns-clause-run : goal.returns-clause-run
returns-clause-run g c =
    let n = c.in_ok-counts.counts in
    let f = c.in_ok-counts.inspector.facts in
    run-ok (gives-page c.args.input (λ k d. k.facts ≡ facts_of d) c.new-inspector.ensures.notation)
    (λ b i h.
    ap (λ (v : ℕ). record {
      bytes = n.bytes;
      cells = n.cells;
      blocks = f.reports.whole;
      faults = v;
      unfinished = f.reports.unfinished;
      marks = 0;
    }) (c.more-2.ensures ∙ ap (λ v. more v f.gaps.gaps) c.more.ensures)
    ∙ info-counted c.args.input b f h.0 h.1) c.in_ok-counts.ensures

pub returns-clause-page : goal.returns-clause-page
returns-clause-page g c = run-wrote (Ok _) (returns-clause-run g c)

pub returns-in_err-counts-clause-run : goal.returns-in_err-counts-clause-run
returns-in_err-counts-clause-run g c =
    let error = err_from_is_err_and c.from_residual.result c.from_residual.ensures.1 in
    rw (error.1, error.2) (run-err (gives-page c.args.input (λ k d. k.facts ≡ facts_of d)
    c.new-inspector.ensures.notation) c.in_err-counts.ensures)
