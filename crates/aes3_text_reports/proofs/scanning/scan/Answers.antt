use Rattle.std.proofs.lemmas.Result.{err_from_is_err_and}
use Rattle.aes3_lock.specs.Preambles.{marks}
use Rattle.aes3_input.proofs.InputRuns.{run-told}
use Rattle.aes3_input.proofs.CellRuns.{drove-ok, drove-err}
use Rattle.aes3_text_lines.specs.MarkLines.{mark_lines}
use Rattle.aes3_text_reports.specs.Scanning.{scan_counts}
use Rattle.aes3_text_reports.proofs.Scans.{before-lines, with-lines, counted}
use Rattle.aes3_text_reports.proofs.scanning.scan.Goals as goal

pub returns-clause-run : goal.returns-clause-run
returns-clause-run g c =
    let k = c.drive.new.taker in
    drove-ok (λ d. mark_lines (marks d)) (λ d. mark_lines (marks d)) (scan_counts c.args.input)
    (record {
      bytes = c.in_ok-bytes.bytes;
      cells = c.in_ok-bytes.cells;
      blocks = 0;
      faults = 0;
      unfinished = 0;
      marks = k.marks;
    })
    with-lines before-lines
    (λ b e f h. counted c.args.input b c.in_ok-bytes.bytes c.in_ok-bytes.cells k.marks k.scan e f h)
    c.in_ok-bytes.ensures

pub returns-clause-lines : goal.returns-clause-lines
returns-clause-lines g c = λ b t. (run-told (returns-clause-run g c) b t).4

pub returns-in_err-bytes-clause-run : goal.returns-in_err-bytes-clause-run
returns-in_err-bytes-clause-run g c =
    let error = err_from_is_err_and c.from_residual.result c.from_residual.ensures.1 in
    rw (error.1, error.2) (drove-err (λ d. mark_lines (marks d)) (λ d. mark_lines (marks d)) (scan_counts c.args.input)
    with-lines before-lines c.in_err-bytes.ensures)
