use Rattle.std.proofs.Common.{ap, arith}
use Rattle.std.proofs.lemmas.Result.{err_from_is_err_and}
use Rattle.aes3_level.specs.declared.level.Level.TheVariants.{Low}
use Rattle.aes3_cell.specs.Written.{written}
use Rattle.aes3_cell.proofs.Growing.{grew-is}
use Rattle.aes3_frame.specs.Blocks.{stream}
use Rattle.aes3_frame.specs.Files.{file}
use Rattle.aes3_frame.proofs.FileLaws.{file_blocks-file}
use Rattle.aes3_lock.specs.Reports.{blocks, normal}
use Rattle.aes3_lock.proofs.NormalStreams.{blocks-lawful}
use Rattle.aes3_input.proofs.InputRuns.{run-ok, run-err, run-told, run-owed}
use Rattle.aes3_engine.proofs.EncodingLemmas.{few-blocks}
use Rattle.aes3_engine.proofs.EncodeRuns.{starts, counted, encoding-gives, no-file-cause}
use Rattle.aes3_engine.proofs.encoding.encode.Goals as goal

pub convert-requires-clause-start : goal.convert-requires-clause-start
convert-requires-clause-start g c =
    starts c.new-file.result c.new-file.ensures.seen c.new-file.ensures.words c.new-file.ensures.bytes
    c.new-file.ensures.open

pub overflow_mul-result : goal.overflow_mul-result
overflow_mul-result g c =
    let r = c.in_ok-bytes.ensures.run in
    let n = r.run.few in
    let k = r.run.ran.1.0.count in
    let f = few-blocks r.run.bytes r.run.ran.1.0.lawful in
    omega arith

pub returns-clause-run : goal.returns-clause-run
returns-clause-run g c =
    run-ok (encoding-gives c.args.output _)
    (λ b i h. counted b c.in_ok-bytes.bytes c.convert.new.taker.blocks h.1 h.0.count) c.in_ok-bytes.ensures.run.run

pub returns-clause-whole : goal.returns-clause-whole
returns-clause-whole g c = λ b t. (run-told (returns-clause-run g c) b t).4

pub returns-clause-cells : goal.returns-clause-cells
returns-clause-cells g c = λ blocks h t.
    grew-is (ap (λ v. written c.args.output (stream Low v)) (file_blocks-file blocks h))
    (returns-clause-whole g c (file blocks) t)

pub returns-clause-decoded : goal.returns-clause-decoded
unfolding normal
returns-clause-decoded g c = λ d t. returns-clause-cells g c (blocks d) (blocks-lawful d) t

pub returns-in_err-bytes-clause-run : goal.returns-in_err-bytes-clause-run
returns-in_err-bytes-clause-run g c =
    let error = err_from_is_err_and c.from_residual.result c.from_residual.ensures.1 in
    rw (error.1, error.2) (run-err (encoding-gives c.args.output _) c.in_err-bytes.ensures.run.run)

pub returns-in_err-bytes-clause-owed : goal.returns-in_err-bytes-clause-owed
returns-in_err-bytes-clause-owed g c = λ b t i l q k.
    run-owed (returns-in_err-bytes-clause-run g c) b t
    (no-file-cause c.args.max_bytes b (g.S.Source.has_ended c.convert.new.source) i l) q k
