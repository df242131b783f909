-- The number of each refusal of a command line or its job, as the program prints it, and its place.
use Rattle.std.specs.Prelude.{ℕ, Option, Some}
use Rattle.aes3_refusals.specs.Refusals.{number_of, place_of}
use Rattle.aes3_cli_jobs.specs.declared.wave_refusal.Refusal.{Refusal}
use Rattle.aes3_cli_jobs.specs.declared.wave_refusal.Refusal.TheVariants.{Run, Header, NoChannel}

-- those of a run have its numbers, and a WAV file the two after them
abbrev pub number_of_refusal : Refusal → ℕ
number_of_refusal (Run error) = number_of error
number_of_refusal (Header error) = 14
number_of_refusal (NoChannel channels) = 15

-- where what is wrong stands: an octet of a header, and how many channels the file has
abbrev pub place_of_refusal : Refusal → Option ℕ
place_of_refusal (Run error) = place_of error
place_of_refusal (Header error) = Some error.at
place_of_refusal (NoChannel channels) = Some channels
