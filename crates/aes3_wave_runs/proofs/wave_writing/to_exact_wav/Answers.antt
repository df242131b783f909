use Rattle.std.proofs.Common.{false, sym}
use Rattle.aes3_wave_runs.specs.ToWav.{begun_by, exact_pcm, file_by}
use Rattle.aes3_wave_runs.proofs.WrittenRuns.{file-clause, width-is}
use Rattle.aes3_wave_runs.proofs.wave_writing.to_exact_wav.Goals as goal

pub returns-in-Sixteen-clause-run : goal.returns-in-Sixteen-clause-run
returns-in-Sixteen-clause-run g c = width-is c.args.input c.args.rate (sym c.in-Sixteen.is) c.to_exact_16.ensures

pub returns-in-Sixteen-clause-file : goal.returns-in-Sixteen-clause-file
returns-in-Sixteen-clause-file g c =
    file-clause c.args.input (file_by c.args.depth c.args.rate false (exact_pcm c.args.depth))
    (begun_by c.args.depth c.args.rate false (exact_pcm c.args.depth)) _ (returns-in-Sixteen-clause-run g c)

pub returns-in-TwentyFour-clause-file : goal.returns-in-TwentyFour-clause-file
returns-in-TwentyFour-clause-file g c =
    file-clause c.args.input (file_by c.args.depth c.args.rate false (exact_pcm c.args.depth))
    (begun_by c.args.depth c.args.rate false (exact_pcm c.args.depth)) _ c.to_exact_24.ensures

pub returns-in-ThirtyTwo-clause-file : goal.returns-in-ThirtyTwo-clause-file
returns-in-ThirtyTwo-clause-file g c =
    file-clause c.args.input (file_by c.args.depth c.args.rate false (exact_pcm c.args.depth))
    (begun_by c.args.depth c.args.rate false (exact_pcm c.args.depth)) _ c.to_exact_24-in-ThirtyTwo.ensures
