-- Why words ask for no job, and the text that says so.
use Rattle.std.specs.Prelude.{[], ◌≡◌, ◌≢◌, ◌⊎◌}
use Rattle.clap.specs.Kinds.{IsAmong, Kinds}
use Rattle.clap.specs.Walk.{Text}
use Rattle.clap.specs.declared.error.kind.ErrorKind.{ErrorKind}
use Rattle.clap.specs.declared.error.kind.ErrorKind.TheVariants.{DisplayHelp, DisplayVersion, OutOfMemory}
use Rattle.aes3_cli.specs.Wording.{EndsWithUsage}
use Rattle.aes3_cli.specs.declared.fault.LineFault.{LineFault}
use Rattle.aes3_cli.specs.declared.fault.LineFault.TheVariants as fault

-- what is said of an error of this kind that `clap` found in the words
abbrev pub IsFaultBy : Text → ErrorKind → LineFault → Type 0
IsFaultBy usage kind (fault.Usage text) = (kind ≢ OutOfMemory) × (kind ≢ DisplayHelp) × (kind ≢ DisplayVersion)
    × EndsWithUsage usage text.bytes.items
IsFaultBy usage kind (fault.Help text) = (kind ≡ DisplayHelp) ⊎ (kind ≡ DisplayVersion)
IsFaultBy usage kind fault.Memory = Unit {0}

-- the text ends with the usage; or memory was refused
abbrev pub IsUsage : Text → LineFault → Type 0
IsUsage usage (fault.Usage text) = EndsWithUsage usage text.bytes.items
IsUsage usage (fault.Help text) = ⊥
IsUsage usage fault.Memory = Unit {0}

-- the definitions do not take the words, by why not, and these ask for no help and no version
abbrev pub IsNotTaken : Kinds → Type 0
IsNotTaken faults = (kind : ErrorKind) × IsAmong kind faults × (kind ≢ DisplayHelp) × (kind ≢ DisplayVersion)

-- Why words ask for no job: they are not taken, or they are and this is wrong with their values; or help or the version
-- is asked for; or memory was refused.
abbrev pub IsFaultIn : Kinds → Text → (Text → Type 0) → LineFault → Type 0
IsFaultIn faults usage says (fault.Usage text) =
    (IsNotTaken faults × EndsWithUsage usage text.bytes.items) ⊎ ((faults ≡ []) × says text.bytes.items)
IsFaultIn faults usage says (fault.Help text) = IsAmong DisplayHelp faults ⊎ IsAmong DisplayVersion faults
IsFaultIn faults usage says fault.Memory = Unit {0}

-- why words ask for no job, whatever their values are: they are not taken; or help or the version is asked for; or
-- memory was refused
abbrev pub IsWordsFault : Kinds → Text → LineFault → Type 0
IsWordsFault faults usage = IsFaultIn faults usage (λ text. ⊥)

-- the text says what is wrong with the values; or memory was refused
abbrev pub IsValueFault : (Text → Type 0) → LineFault → Type 0
IsValueFault says (fault.Usage text) = says text.bytes.items
IsValueFault says (fault.Help text) = ⊥
IsValueFault says fault.Memory = Unit {0}
