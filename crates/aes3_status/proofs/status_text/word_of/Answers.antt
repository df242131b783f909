use Rattle.std.proofs.Common.{sym, ◌∙◌, arith, length, nat_le, leb-true, rules}
use Rattle.aes3_status.proofs.Tables.{word_of-here, word_of-behind, word_of-end, test-get_or}
use Rattle.aes3_status.proofs.status_text.word_of.Goals as goal

pub loop-named-preserved : goal.loop-named-preserved
loop-named-preserved c =
    c.loop-named.invariant
    ∙ word_of-behind c.args.words.now c.loop-named.named-index _ c.args.code (omega arith) c.if-named-code.false

pub returns-then-named-code-clause-word : goal.returns-then-named-code-clause-word
returns-then-named-code-clause-word c =
    search (
      rules,
      sym (c.loop-named.invariant
          ∙ word_of-here c.args.words.now c.loop-named.named-index _ c.args.code (omega arith) c.if-named-code.true),
    )

pub returns-then-named-code-clause-len : goal.returns-then-named-code-clause-len
returns-then-named-code-clause-len c =
    leb-true _ _ (test-get_or
    (λ row. nat_le (length row.1.now) 20) c.args.words.now c.loop-named.named-index _ (omega arith) c.requires)

pub returns-clause-word : goal.returns-clause-word
returns-clause-word c =
    sym (c.loop-named.invariant ∙ word_of-end c.args.words.now c.loop-named.named-index c.args.code (omega arith))
