-- A channel status as the 24 bytes that it was read from.
use Rattle.std.specs.Prelude.{ℕ, List, Bool, ◌==◌, if◌then◌else◌}
use Rattle.aes3_status.specs.declared.status.Status.{Status}
use Rattle.aes3_status.specs.declared.status.Status.TheVariants.{Professional, Consumer}
use Rattle.aes3_status.specs.Bits.{field}

-- bit 0 of byte 0: 1 for professional, 0 for consumer use
abbrev pub is_professional : List ℕ → Bool
is_professional bytes = field 0 0 1 bytes == 1

abbrev pub read_status : List ℕ → Status
read_status bytes = if is_professional bytes then Professional bytes else Consumer bytes

abbrev pub bytes_of : Status → List ℕ
bytes_of (Professional bytes) = bytes
bytes_of (Consumer bytes) = bytes
