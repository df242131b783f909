use Rattle.std.proofs.Common.{map, arith}
use Rattle.aes3_frame.specs.Files.{payload_of}
use Rattle.aes3_c.proofs.SampleLevels.{levels-push}
use Rattle.aes3_c.proofs.audio_level_calls.aes3_levels_add.Goals as goal

pub returns : goal.returns
returns c = λ blocks h.
    levels-push c.args.levels.now _ blocks (map payload_of c.args.words.now) h (let s = c.saturating_add-levels.ensures in omega arith)
    c.count_samples.ensures c.count_samples-2.ensures
