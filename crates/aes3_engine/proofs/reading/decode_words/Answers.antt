use Rattle.std.proofs.Common.{rules}
use Rattle.aes3_lock.specs.Reports.{blocks}
use Rattle.aes3_input.proofs.CellRuns.{cells-run}
use Rattle.aes3_lock_runs.specs.BlockRuns.{decided_blocks}
use Rattle.aes3_lock_runs.proofs.BlockRuns.{alike-whole, alike-begun, run-back}
use Rattle.aes3_engine.specs.Words.{block_words, words_file}
use Rattle.aes3_engine.proofs.reading.decode_words.Goals as goal

pub returns-clause-run : goal.returns-clause-run
returns-clause-run g c =
    cells-run c.args.input (λ d. words_file c.args.words (blocks d)) (λ d. words_file c.args.words (decided_blocks d))
    (alike-whole (block_words c.args.words)) (alike-begun (block_words c.args.words))
    (search (rules, c.run_blocks.ensures))

pub returns-clause-back : goal.returns-clause-back
returns-clause-back g c = run-back c.args.input (block_words c.args.words) c.run_blocks.result c.run_blocks.ensures
