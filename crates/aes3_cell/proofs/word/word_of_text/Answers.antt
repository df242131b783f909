use Rattle.std.proofs.Common.{ap, Some, arith, rules}
use Rattle.aes3_cell.proofs.TextWords.{cell-bytes, word-text, all-set, word-owed}
use Rattle.aes3_cell.proofs.word.word_of_text.Goals as goal

pub returns-then-high-low-clause-cells : goal.returns-then-high-low-clause-cells
returns-then-high-low-clause-cells c =
    search (
      rules,
      word-text c.args.bytes.now c.equal_to-high.result c.equal_to-low.result c.told-bytes c.equal_to-high.ensures
          (search (rules, c.equal_to-low.ensures)) c.if-high-low.true,
    )

pub returns-then-high-low-clause-owed : goal.returns-then-high-low-clause-owed
returns-then-high-low-clause-owed c = λ w f e.
    ap Some (word-owed c.args.bytes.now c.equal_to-high.result w (omega arith) f (returns-then-high-low-clause-cells c)
    e)

pub returns-else-high-low-clause-owed : goal.returns-else-high-low-clause-owed
returns-else-high-low-clause-owed c = λ w f e.
    absurd (c.if-high-low.false
    (all-set c.args.bytes.now c.equal_to-high.result c.equal_to-low.result c.told-bytes c.equal_to-high.ensures
    (search (rules, c.equal_to-low.ensures)) (omega arith) (omega arith)
    (λ i g. cell-bytes c.args.bytes.now w i e g)))
