-- How samples lie, and the bit of them that is the line.
use Rattle.std.specs.Prelude.{ℕ, Option, Some, None, ◌%◌, ◌==◌, if◌then◌else◌}
use Rattle.aes3_capture_recovery.specs.declared.edges.Unit.{Unit}
use Rattle.aes3_capture_recovery.specs.declared.edges.Unit.TheVariants.{Octets, Pairs}
use Rattle.aes3_capture_runs.specs.declared.capture_job.Job.{Job}

-- samples of one octet, or of two with the lower first, and the line in this bit; of one past the last the remainder counts
abbrev pub unit_of : ℕ → ℕ → Unit
unit_of octets bit = if octets == 1 then Octets (bit % 8) else Pairs (bit % 16)

-- the bit that was asked for, else the one that was found, else the lowest
abbrev pub bit_or : Option ℕ → Option ℕ → ℕ
bit_or (Some bit) found = bit
bit_or None (Some bit) = bit
bit_or None None = 0

abbrev pub unit_of_job : Job → Option ℕ → Unit
unit_of_job job found = unit_of job.octets (bit_or job.bit found)
