use Rattle.std.proofs.Common.{arith, rules}
use Rattle.aes3_c.specs.Blocks.{sample_form}
use Rattle.aes3_c.proofs.FittingSamples.{block-before, block-here}
use Rattle.aes3_c.proofs.exact_calls.aes3_blocks_fit.Goals as goal

pub returns-then-not-word_fits-clause-written : goal.returns-then-not-word_fits-clause-written
returns-then-not-word_fits-clause-written c =
    block-before _ _ _ (λ j h. c.loop-i.invariant.before j (omega (arith, h)))

pub returns-then-not-word_fits-clause-rejected : goal.returns-then-not-word_fits-clause-rejected
returns-then-not-word_fits-clause-rejected c = λ _.
    block-here (sample_form c.args.form) c.args.words.now c.loop-i.i (omega arith) (search rules)

pub returns-clause-written : goal.returns-clause-written
returns-clause-written c = block-before _ _ _ (λ j h. c.loop-i.invariant.before j (omega (arith, h)))
