-- A fault of a block file as the refusal of a run.
use Rattle.aes3_refusals.specs.declared.run_error.RunError.{RunError}
use Rattle.aes3_refusals.specs.declared.run_error.RunError.TheVariants as refusal
use Rattle.aes3_block.specs.declared.file.FileFault.{FileFault}
use Rattle.aes3_block.specs.declared.file.FileFault.TheVariants.{BadLength, BadCode, BadParity}

abbrev pub refusal_of : FileFault → RunError
refusal_of (BadLength left) = refusal.BadLength left
refusal_of (BadCode at) = refusal.BadCode at
refusal_of (BadParity at) = refusal.BadParity at
