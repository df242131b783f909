use Rattle.std.proofs.Common.{ap, ◌∙◌, arith}
use Rattle.aes3_slot.specs.ReadWords.{read_words}
use Rattle.aes3_frame.specs.Mending.{mended}
use Rattle.aes3_frame.proofs.BlockLemmas.{block_subframes_384}
use Rattle.aes3_frame.proofs.MendedBlocks.{behind-kept}
use Rattle.aes3_frame.proofs.gathered.GatheredCells.mended_block.Goals as goal

pub mended_words-requires-clause-held : goal.mended_words-requires-clause-held
mended_words-requires-clause-held c = let n = block_subframes_384 in c.words-kept.ensures.lawful 382 (omega (arith, n))

pub mended_words-requires-clause-other : goal.mended_words-requires-clause-other
mended_words-requires-clause-other c = let n = block_subframes_384 in c.words-kept.ensures.lawful 383 (omega (arith, n))

pub returns : goal.returns
returns c =
    c.of_words.ensures ∙ c.mended_words.ensures.payloads
    ∙ behind-kept c.args.fill c.args.before.now c.words-kept.result.now _ c.words-kept.ensures.count
    c.words-kept.ensures.payloads
    ∙ ap (λ ws. mended c.args.fill c.args.before.now (read_words ws)) c.words.ensures
