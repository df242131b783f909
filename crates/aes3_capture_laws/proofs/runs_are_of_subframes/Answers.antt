use Rattle.std.proofs.Common.{refl}
use Rattle.aes3_capture_laws.proofs.Streams.{many-subframes}
use Rattle.aes3_capture_laws.proofs.runs_are_of_subframes.Goals as goal

pub returns : goal.returns
returns c = λ bs k line blocks e l. many-subframes bs k 256 line blocks e l refl
