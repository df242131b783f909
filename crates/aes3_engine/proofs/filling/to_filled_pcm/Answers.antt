use Rattle.aes3_input.proofs.InputRuns.{run-wrote}
use Rattle.aes3_engine.proofs.FillRuns.{run-whole, run-row, run-in-time, run-frames}
use Rattle.aes3_engine.proofs.filling.to_filled_pcm.Goals as goal

pub returns-clause-samples : goal.returns-clause-samples
returns-clause-samples g c = run-wrote c.fill_given.result c.fill_given.ensures

pub returns-clause-whole : goal.returns-clause-whole
returns-clause-whole g c =
    run-whole c.args.input c.args.format c.args.fill c.args.marked c.fill_given.result c.fill_given.ensures

pub returns-clause-row : goal.returns-clause-row
returns-clause-row g c =
    run-row c.args.input c.args.format c.args.fill c.args.marked c.fill_given.result c.fill_given.ensures

pub returns-clause-time : goal.returns-clause-time
returns-clause-time g c =
    run-in-time c.args.input c.args.format c.args.fill c.args.marked c.fill_given.result c.fill_given.ensures

pub returns-clause-frames : goal.returns-clause-frames
returns-clause-frames g c =
    run-frames c.args.input c.args.format c.args.fill c.args.marked c.fill_given.result c.fill_given.ensures
