use Rattle.aes3_wave.proofs.ReadBack.{written-read}
use Rattle.aes3_wave.proofs.laws.written_are_read.Goals as goal

pub returns : goal.returns
returns c = written-read
