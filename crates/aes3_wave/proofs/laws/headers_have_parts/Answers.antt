use Rattle.aes3_wave.proofs.Made.{has-parts}
use Rattle.aes3_wave.proofs.laws.headers_have_parts.Goals as goal

pub returns : goal.returns
returns c = has-parts
