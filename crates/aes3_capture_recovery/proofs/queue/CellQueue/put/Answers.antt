use Rattle.std.proofs.Common.{refl, arith, append-nil, ◌∙◌, ap, ◌≡◌, ◌+◌, ◌-◌, ◌++◌, replicate, []}
use Rattle.std.proofs.lemmas.List.{replicate-append-replicate}
use Rattle.std.proofs.lemmas.Result.{err_from_is_err_and}
use Rattle.aes3_capture_recovery.specs.Endings.{level_if}
use Rattle.aes3_capture_recovery.proofs.Queueing.{waits-puts, puts-is, put-is, puts-chain, puts-stop}
use Rattle.aes3_capture_recovery.proofs.queue.CellQueue.put.Goals as goal

pub loop-left-init : goal.loop-left-init
loop-left-init g c =
    let none : c.args.cells - c.args.cells ≡ 0 = omega arith in
    record {
      within = omega arith;
      quiet = refl;
      put = rw none (waits-puts c.args.self.now c.args.self.now tt [] refl (append-nil _));
    }

pub loop-left-preserved : goal.loop-left-preserved
loop-left-preserved g c =
    let within = c.loop-left.invariant.within in
    let many = c.loop-left-test.true in
    let level = level_if c.args.high in
    let sum : c.args.cells - c.loop-left.left + 32 ≡ c.args.cells - (c.loop-left.left - 32)
    = omega (arith, within, many) in
    record {
      within = omega (arith, within);
      quiet = c.in_ok-put_few.ensures.no_failure ∙ c.loop-left.invariant.quiet;
      put = puts-is (replicate-append-replicate (c.args.cells - c.loop-left.left) 32 level
          ∙ ap (λ n. replicate n level) sum)
          (puts-chain c.args.self.now c.loop-left.self c.put_few.new.self c.args.sink.now c.loop-left.sink
          c.put_few.new.sink _ _ _
          c.loop-left.invariant.put (put-is tt c.in_ok-put_few.ensures.cells));
    }

pub returns-in_err-put_few-clause-cells : goal.returns-in_err-put_few-clause-cells
returns-in_err-put_few-clause-cells g c =
    let within = c.loop-left.invariant.within in
    let many = c.loop-left-test.true in
    let level = level_if c.args.high in
    let k = c.args.cells - c.loop-left.left in
    let sum : k + 32 + (c.loop-left.left - 32) ≡ c.args.cells = omega (arith, within, many) in
    let error = err_from_is_err_and c.from_residual.result c.from_residual.ensures.1 in
    rw error.1 (puts-is
    (ap (λ x. x ++ replicate (c.loop-left.left - 32) level) (replicate-append-replicate k 32 level)
    ∙ replicate-append-replicate (k + 32) (c.loop-left.left - 32) level ∙ ap (λ n. replicate n level) sum)
    (puts-stop c.args.self.now c.put_few.new.self c.args.sink.now c.put_few.new.sink _ _ _ _
    (puts-chain c.args.self.now c.loop-left.self c.put_few.new.self c.args.sink.now c.loop-left.sink c.put_few.new.sink
    _ _ _
    c.loop-left.invariant.put c.in_err-put_few.ensures.cells)))

pub returns-clause-cells : goal.returns-clause-cells
returns-clause-cells g c =
    let within = c.loop-left.invariant.within in
    let level = level_if c.args.high in
    let k = c.args.cells - c.loop-left.left in
    let sum : k + c.loop-left.left ≡ c.args.cells = omega (arith, within) in
    puts-is (replicate-append-replicate k c.loop-left.left level ∙ ap (λ n. replicate n level) sum)
    (puts-chain c.args.self.now c.loop-left.self c.put_few-2.new.self c.args.sink.now c.loop-left.sink
    c.put_few-2.new.sink _ _ _
    c.loop-left.invariant.put c.put_few-2.ensures.cells)
