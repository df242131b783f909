use Rattle.std.proofs.Common.{[], ap, subst, sym}
use Rattle.std.proofs.lemmas.Result.{err_from_is_err_and}
use Rattle.aes3_wave_runs.specs.HeadedSamples.{IsQuiet}
use Rattle.aes3_wave_runs.proofs.HeadedSamples.{opened-none}
use Rattle.aes3_wave_runs.proofs.WrittenRuns.{headed-err, headed-ok}
use Rattle.aes3_wave_runs.proofs.wave_writing.run_headed.Goals as goal

pub run_cells-requires-clause-start : goal.run_cells-requires-clause-start
run_cells-requires-clause-start g c =
    let m = g.L.GivenBlocks.marked in
    let e = c.new-headed.ensures in (
      opened-none m c.new-headed.result.header e.is_written e.named,
      subst (λ l. IsQuiet m (g.L.Listener.writes l)) (sym e.samples) c.requires.quiet,
      subst (λ l. g.L.Listener.follows l []) (sym e.samples) c.requires.start,
    )

pub returns : goal.returns
returns g c =
    let m = g.L.GivenBlocks.marked in
    let e = c.new-headed.ensures in
    headed-ok m c.args.input g.L.Listener.finished e.depth e.rate (ap g.L.Listener.writes e.samples) c.requires.quiet
    c.in_ok-counts.ensures

pub returns-in_err-counts : goal.returns-in_err-counts
returns-in_err-counts g c =
    let m = g.L.GivenBlocks.marked in
    let e = c.new-headed.ensures in
    let error = err_from_is_err_and c.from_residual.result c.from_residual.ensures.1 in
    rw (error.1, error.2) (headed-err m c.args.input g.L.Listener.finished e.depth e.rate
    (ap g.L.Listener.writes e.samples) c.requires.quiet c.in_err-counts.ensures)
