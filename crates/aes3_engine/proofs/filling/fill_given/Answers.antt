use Rattle.std.proofs.Common.{◌≡◌, arith, false, rules, true}
use Rattle.std.proofs.lemmas.Result.{err_from_is_err_and}
use Rattle.aes3_engine.proofs.FillRuns.{fill-err, fill-ok, fill-same, mend-err, mend-ok, nothing-mended}
use Rattle.aes3_engine.proofs.filling.fill_given.Goals as goal

pub run_cells-requires-clause-start : goal.run_cells-requires-clause-start
run_cells-requires-clause-start g c =
    let e = c.new-mended.ensures in nothing-mended c.new-mended.result e.progress e.before e.marked

pub returns-in_ok-counts : goal.returns-in_ok-counts
returns-in_ok-counts g c =
    let k = c.new-mended.result.filled in
    let marked : c.args.marked ≡ true = search rules in
    rw marked (fill-same c.args.input true c.new-mended.ensures.format c.new-mended.ensures.fill
    (mend-ok c.args.input k.format k.fill (λ xs a p n. omega (arith, c.frames.ensures xs a p n)) (omega arith) c.in_ok-counts.ensures))

pub returns-in_err-counts : goal.returns-in_err-counts
returns-in_err-counts g c =
    let k = c.new-mended.result.filled in
    let marked : c.args.marked ≡ true = search rules in
    let error = err_from_is_err_and c.from_residual.result c.from_residual.ensures.1 in
    rw (marked, error.1, error.2) (fill-same c.args.input true c.new-mended.ensures.format c.new-mended.ensures.fill
    (mend-err c.args.input k.format k.fill c.in_err-counts.ensures))

pub returns-in_ok-counts-2 : goal.returns-in_ok-counts-2
returns-in_ok-counts-2 g c =
    let k = c.new-blocks.result in
    let marked : c.args.marked ≡ false = search rules in
    rw marked (fill-same c.args.input false c.new-blocks.ensures.format c.new-blocks.ensures.fill
    (fill-ok c.args.input k.format k.fill (λ xs a p n. omega (arith, c.frames-else-marked.ensures xs a p n)) c.in_ok-counts-2.ensures))

pub returns-in_err-counts-2 : goal.returns-in_err-counts-2
returns-in_err-counts-2 g c =
    let k = c.new-blocks.result in
    let marked : c.args.marked ≡ false = search rules in
    let error = err_from_is_err_and c.from_residual-in_err-counts-2.result
    c.from_residual-in_err-counts-2.ensures.1 in
    rw (marked, error.1, error.2) (fill-same c.args.input false c.new-blocks.ensures.format c.new-blocks.ensures.fill
    (fill-err c.args.input k.format k.fill c.in_err-counts-2.ensures))
