use Rattle.std.proofs.Common.{ap, sym}
use Rattle.aes3_cell.proofs.Writing.{wrote-is}
use Rattle.aes3_engine.specs.Words.{block_words}
use Rattle.aes3_engine.proofs.words.put_block_words.Goals as goal

pub returns-in-Own : goal.returns-in-Own
returns-in-Own g c = wrote-is (ap (λ w. block_words w c.args.block.now) (sym c.in-Own.is)) c.put_block_file.ensures

pub returns-in-Alsa : goal.returns-in-Alsa
returns-in-Alsa g c = wrote-is (ap (λ w. block_words w c.args.block.now) (sym c.in-Alsa.is)) c.put_written.ensures

pub returns-in-Am824 : goal.returns-in-Am824
returns-in-Am824 g c =
    wrote-is (ap (λ w. block_words w c.args.block.now) (sym c.in-Am824.is)) c.put_written-in-Am824.ensures
