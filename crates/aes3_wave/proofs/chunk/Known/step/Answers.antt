use Rattle.std.proofs.Common.{◌∙◌, sym, ap, take, arith}
use Rattle.std.proofs.lemmas.Result.{err_from_is_err_and}
use Rattle.aes3_wave.specs.Chunks.{known_with}
use Rattle.aes3_wave.proofs.Steps.{chunk-next, chunk-no-format, chunk-refused, chunk-samples}
use Rattle.aes3_wave.proofs.chunk.Known.step.Goals as goal

pub returns-then-is_data-clause-decided : goal.returns-then-is_data-clause-decided
returns-then-is_data-clause-decided c =
    chunk-samples c.args.at c.args.self.now c.args.front.now c.in_ok-header.field-0 (omega arith)
    (sym c.if-is_data.ensures) c.in_ok-header.ensures.header

pub returns-in_err-header-clause-decided : goal.returns-in_err-header-clause-decided
returns-in_err-header-clause-decided c =
    let p = err_from_is_err_and c.from_residual.result c.from_residual.ensures.1 in
    rw (p.1, p.2) (chunk-no-format c.args.at c.args.self.now c.args.front.now _ (omega arith) (sym c.if-is_data.ensures)
    c.in_err-header.ensures.header)

pub returns-in-Ok-clause-decided : goal.returns-in-Ok-clause-decided
returns-in-Ok-clause-decided c =
    let k = c.args.self.now in
    let f = c.args.front.now in
    let len = c.head_len-head_len.ensures.len in
    chunk-next c.args.at k f c.in-Ok.known c.chunk_len.result (omega arith) (sym c.if-is_data.ensures) (omega arith)
    (c.in-Ok.ensures.known ∙ ap (λ n. known_with k (take n f)) len) c.chunk_len.ensures.len c.chunk_len.ensures.few

pub returns-in-Err-clause-decided : goal.returns-in-Err-clause-decided
returns-in-Err-clause-decided c =
    let k = c.args.self.now in
    let f = c.args.front.now in
    let len = c.head_len-head_len.ensures.len in
    chunk-refused c.args.at k f c.in-Err.error c.behind.result (omega arith) (sym c.if-is_data.ensures) (omega arith)
    (c.in-Err.ensures.known ∙ ap (λ n. known_with k (take n f)) len) c.behind.ensures.cause c.behind.ensures.at
