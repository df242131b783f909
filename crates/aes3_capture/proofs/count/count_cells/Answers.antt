use Rattle.std.proofs.Common.{◌≤◌}
use Rattle.aes3_capture.proofs.Counts.{captures-spread, first-below}
use Rattle.aes3_capture.proofs.Tolerance.{tolerance-narrow}
use Rattle.aes3_capture.specs.Captures.{tolerance}
use Rattle.aes3_capture.proofs.count.count_cells.Goals as goal

pub returns-clause-mean : goal.returns-clause-mean
returns-clause-mean c = λ counts displaced captures.
    c.count_cells_behind.ensures.mean counts displaced displaced displaced (c.new.ensures.line displaced)
    (rw c.new.ensures.bounds captures)

pub returns-clause-spread : goal.returns-clause-spread
returns-clause-spread c = λ counts spread displaced narrow spreads.
    let first : displaced ≤ spread = first-below c.args.bounds spread displaced counts c.args.runs.now spreads in
    returns-clause-mean c counts displaced
    (captures-spread c.args.bounds spread displaced displaced displaced counts c.args.runs.now narrow first first spreads)

pub returns-clause-tolerance : goal.returns-clause-tolerance
returns-clause-tolerance c = λ counts cell part displaced about enough spreads.
    returns-clause-spread c counts (tolerance cell) displaced
    (tolerance-narrow c.args.bounds cell part about enough) spreads
