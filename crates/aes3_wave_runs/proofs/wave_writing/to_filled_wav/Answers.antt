use Rattle.std.proofs.Common.{sym}
use Rattle.aes3_wave_runs.specs.ToWav.{begun_by, file_by, filled_pcm}
use Rattle.aes3_wave_runs.proofs.WrittenRuns.{file-clause, marked-is}
use Rattle.aes3_wave_runs.proofs.wave_writing.to_filled_wav.Goals as goal

pub returns-then-marked-clause-run : goal.returns-then-marked-clause-run
returns-then-marked-clause-run g c =
    marked-is c.args.input c.args.depth c.args.rate c.args.fill (sym c.if-marked.true) c.to_filled_marked.ensures

pub returns-then-marked-clause-file : goal.returns-then-marked-clause-file
returns-then-marked-clause-file g c =
    let k = c.args in
    let pcm = filled_pcm k.depth k.fill k.marked in
    file-clause k.input (file_by k.depth k.rate k.marked pcm) (begun_by k.depth k.rate k.marked pcm) _
    (returns-then-marked-clause-run g c)

pub returns-else-marked-clause-run : goal.returns-else-marked-clause-run
returns-else-marked-clause-run g c =
    marked-is c.args.input c.args.depth c.args.rate c.args.fill (sym c.if-marked.false) c.to_filled_whole.ensures

pub returns-else-marked-clause-file : goal.returns-else-marked-clause-file
returns-else-marked-clause-file g c =
    let k = c.args in
    let pcm = filled_pcm k.depth k.fill k.marked in
    file-clause k.input (file_by k.depth k.rate k.marked pcm) (begun_by k.depth k.rate k.marked pcm) _
    (returns-else-marked-clause-run g c)
