-- What the definitions of the command line take.
use Rattle.std.proofs.Common.{◌≡◌, refl, true}
use Rattle.clap.specs.Faults.{is_simple_and_free}
use Rattle.aes3_spoil_runs.specs.SpoilLine.{spoil_line}

pub line_is_free : is_simple_and_free spoil_line ≡ true
line_is_free = refl
