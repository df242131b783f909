use Rattle.std.proofs.Common.{◌∙◌, arith, eq-eqb, eqb-true, sym}
use Rattle.aes3_frame.proofs.BlockLemmas.{block_subframes_384}
use Rattle.aes3_block.proofs.BlockReads.{one-judged}
use Rattle.aes3_block.proofs.file.are_lawful.Goals as goal

pub loop-word-preserved : goal.loop-word-preserved
loop-word-preserved c = record {
  judged = one-judged c.args.words.now c.loop-word.word-index c.loop-word.code c.loop-word.odd
      (c.fits-words c.loop-word.word-index) c.loop-word.invariant.judged;
}

pub returns-then-has_right_code-clause-each : goal.returns-then-has_right_code-clause-each
returns-then-has_right_code-clause-each c = λ e i h.
    let n = block_subframes_384 in
    let t = c.told-words in
    c.loop-word.invariant.judged.each (eqb-true _ _ (sym c.has_right_code.ensures ∙ c.if-has_right_code.true))
    (eqb-true _ _ e) i (omega (arith, h, n, t))

pub returns-then-has_right_code-clause-owed : goal.returns-then-has_right_code-clause-owed
returns-then-has_right_code-clause-owed c = λ h.
    let n = block_subframes_384 in
    let t = c.told-words in
    eq-eqb _ _ (c.loop-word.invariant.judged.owed (λ k g. h k (omega (arith, g, n, t)))).1

pub returns-else-has_right_code-clause-owed : goal.returns-else-has_right_code-clause-owed
returns-else-has_right_code-clause-owed c = λ h.
    let n = block_subframes_384 in
    let t = c.told-words in
    c.has_right_code.ensures ∙ eq-eqb _ _ (c.loop-word.invariant.judged.owed (λ k g. h k (omega (arith, g, n, t)))).0
