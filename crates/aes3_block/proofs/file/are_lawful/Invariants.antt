use Rattle.aes3_block.proofs.BlockReads.{AreJudged}
use Rattle.aes3_block.proofs.file.are_lawful.Given as goal

abbrev pub invariant-loop-word : goal.invariant-loop-word
invariant-loop-word l = record { judged : AreJudged l.words l.word-index l.code l.odd }
