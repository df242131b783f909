use Rattle.std.proofs.Common.{◌≡◌, ◌∙◌, ◌+◌, ◌*◌, ◌%◌, sym, ap, arith, bit_or}
use Rattle.aes3_files.specs.Packed.{has_long_run}
use Rattle.aes3_files.proofs.LongRuns.{low, octets-low, run-found, run-next}
use Rattle.aes3_files.proofs.packed.has_long_run.Goals as goal

pub returns-then-are_equal : goal.returns-then-are_equal
returns-then-are_equal c =
    let l = c.loop-at in
    let bits = bit_or (c.from.result * 256 % 65536) c.from-2.result in
    sym (run-found bits l.at (omega arith) (sym c.are_equal.ensures ∙ c.if-are_equal.true))
    ∙ ap has_long_run (octets-low _ _ _ _ (omega arith) (omega arith) c.from.ensures c.from-2.ensures)

pub loop-at-preserved : goal.loop-at-preserved
loop-at-preserved c =
    let l = c.loop-at in
    let bits = bit_or (c.from.result * 256 % 65536) c.from-2.result in
    run-next bits l.at l.invariant (sym c.are_equal.ensures ∙ c.if-are_equal.false)

pub returns : goal.returns
returns c =
    let l = c.loop-at in
    let bits = bit_or (c.from.result * 256 % 65536) c.from-2.result in
    let all : l.at + 3 ≡ 16 = omega arith in
    sym l.invariant ∙ ap (λ k. has_long_run (low k bits)) all
    ∙ ap has_long_run (octets-low _ _ _ _ (omega arith) (omega arith) c.from.ensures c.from-2.ensures)
