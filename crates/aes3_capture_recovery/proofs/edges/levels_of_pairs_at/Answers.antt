use Rattle.std.proofs.Common.{◌+◌, ◌*◌, ◌∙◌, ap, arith, get_or}
use Rattle.std.specs.Int.{bit_at}
use Rattle.std.proofs.lemmas.List.{length-set}
use Rattle.std.proofs.lemmas.Nat.Bits.{bit_at-lt, bit_at_lowest, shr_and_one}
use Rattle.aes3_capture_recovery.proofs.Words.{values-more}
use Rattle.aes3_capture_recovery.proofs.edges.levels_of_pairs_at.Goals as goal

pub loop-j-preserved : goal.loop-j-preserved
loop-j-preserved c =
    let within = c.loop-j-test.true in
    let long = c.loop-j.invariant.long in
    let first = c.from.ensures in
    let second = c.from-in-loop-j.ensures in
    record {
      long = rw (length-set c.loop-j.levels c.loop-j.j _) long;
      each = values-more (λ k. bit_at (get_or c.args.block.now (c.args.at + 2 * k) 0
          + 256 * get_or c.args.block.now (c.args.at + 2 * k + 1) 0) c.args.bit) c.loop-j.levels c.loop-j.j _
          (omega (arith, within, long)) c.loop-j.invariant.each
          (shr_and_one _ c.args.bit ∙ ap (λ n. bit_at n c.args.bit) (omega (arith, first, second)));
    }

pub returns : goal.returns
returns c j few =
    let all = c.loop-j-test.false in
    let block = c.args.block.now in
    let is = c.loop-j.invariant.each j (omega (arith, few, all)) in
    let bit = bit_at-lt (get_or block (c.args.at + 2 * j) 0 + 256 * get_or block (c.args.at + 2 * j + 1) 0) c.args.bit in
    c.bits_of.ensures j few ∙ bit_at_lowest (get_or c.loop-j.levels j 0) ∙ omega (arith, is, bit)
