use Rattle.std.proofs.lemmas.Result.{err_from_is_err_and}
use Rattle.aes3_input.proofs.InputRuns.{run-ok, run-err, run-told, run-owed}
use Rattle.aes3_engine.proofs.SampleRuns.{no-pcm-cause, pcm-counted, sampling-gives}
use Rattle.aes3_engine.proofs.sampling.from_pcm_words.Goals as goal

pub convert-requires-clause-start : goal.convert-requires-clause-start
convert-requires-clause-start g c =
    let i = c.new-input.ensures in
    rw (i.format, i.exact) i.start

pub returns-clause-run : goal.returns-clause-run
returns-clause-run g c =
    let i = c.new-input.ensures in
    let r = rw (i.format, i.exact, i.words) at c.in_ok-bytes.ensures.run.run in
    let q = sampling-gives c.args.format c.args.exact c.args.words c.args.change.now _ in
    run-ok q (λ b i h. pcm-counted c.args.format b c.in_ok-bytes.bytes c.div_ceil.result c.block_len-block_len.result h.1
    (q.input b i).whole
    c.block_len-block_len.ensures.len c.div_ceil.ensures) r

pub returns-clause-file : goal.returns-clause-file
returns-clause-file g c = λ b t. (run-told (returns-clause-run g c) b t).4

pub returns-in_err-bytes-clause-run : goal.returns-in_err-bytes-clause-run
returns-in_err-bytes-clause-run g c =
    let error = err_from_is_err_and c.from_residual.result c.from_residual.ensures.1 in
    let i = c.new-input.ensures in
    let r = rw (i.format, i.exact, i.words) at c.in_err-bytes.ensures.run.run in
    rw (error.1, error.2) (run-err (sampling-gives c.args.format c.args.exact c.args.words c.args.change.now _) r)

pub returns-in_err-bytes-clause-owed : goal.returns-in_err-bytes-clause-owed
returns-in_err-bytes-clause-owed g c = λ b t i l q k.
    run-owed (returns-in_err-bytes-clause-run g c) b t
    (no-pcm-cause c.args.format c.args.exact c.args.max_bytes b (g.S.Source.has_ended c.convert.new.source) i l) q k
