-- The command line of `aes3-spoil`, as a definition of `clap`.
use Rattle.std.specs.Prelude.{List, [], ◌∷◌, codes, map}
use Rattle.clap.specs.Walk.{Rule}
use Rattle.clap.specs.Simple.{App}
use Rattle.aes3_cli.specs.CommandLine.{file, packed_in, packed_out, program_with, settings_option, text_option}
use Rattle.aes3_spoil_runs.specs.Named.{name_of}
use Rattle.aes3_spoil_runs.specs.declared.spoil_argument.Argument.{Argument}
use Rattle.aes3_spoil_runs.specs.declared.named.NamedError.TheVariants as named
use Rattle.aes3_spoil_runs.specs.declared.spoil_argument.Argument.TheVariants.{PackedIn, PackedOut, Named, Every, File}

-- the options and values; each that names an error may stand more than once
abbrev pub rule : Argument → Rule
rule PackedIn = packed_in
rule PackedOut = packed_out
rule (Named error) = settings_option (name_of error)
rule Every = text_option (codes "every")
rule File = file

-- the program
abbrev pub spoil_line : App
spoil_line = program_with (codes "aes3-spoil") (map rule
    (PackedIn ∷ PackedOut
    ∷ Named named.Cell ∷ Named named.Invert ∷ Named named.Lost ∷ Named named.Double
    ∷ Named named.Parity ∷ Named named.Biphase ∷ Named named.Preamble ∷ Named named.CheckByte
    ∷ Every ∷ File ∷ []))
