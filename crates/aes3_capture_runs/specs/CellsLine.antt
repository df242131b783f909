-- The command line of `aes3-cells`, as a definition of `clap`.
use Rattle.std.specs.Prelude.{[], ◌∷◌, codes, map}
use Rattle.clap.specs.Walk.{Rule}
use Rattle.clap.specs.Simple.{App}
use Rattle.aes3_cli.specs.CommandLine.{file, flag, packed_out, program_with, text_option}
use Rattle.aes3_capture_runs.specs.declared.capture_argument.Argument.{Argument}
use Rattle.aes3_capture_runs.specs.declared.capture_argument.Argument.TheVariants.{Rate, At, Unit, Bit, PackedOut, Tell, Places, Picture, File}

-- the options and values
abbrev pub rule : Argument → Rule
rule Rate = text_option (codes "rate")
rule At = text_option (codes "at")
rule Unit = text_option (codes "unit")
rule Bit = text_option (codes "bit")
rule PackedOut = packed_out
rule Tell = flag (codes "tell")
rule Places = flag (codes "places")
rule Picture = text_option (codes "picture")
rule File = file

-- the program
abbrev pub cells_line : App
cells_line =
    program_with (codes "aes3-cells")
    (map rule (Rate ∷ At ∷ Unit ∷ Bit ∷ PackedOut ∷ Tell ∷ Places ∷ Picture ∷ File ∷ []))
