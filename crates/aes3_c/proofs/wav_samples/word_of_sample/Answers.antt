use Rattle.std.proofs.Common.{sym, arith}
use Rattle.aes3_block.proofs.WordReads.{number-bytes}
use Rattle.aes3_c.proofs.wav_samples.word_of_sample.Goals as goal

pub returns : goal.returns
returns c =
    sym (number-bytes c.args.sample.now c.from_le_bytes.result (omega arith) c.fits-sample c.from_le_bytes.ensures (omega arith))
