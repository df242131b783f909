-- The numbers of the refusals, and where the fault stands.
use Rattle.std.specs.Prelude.{ℕ, Option, Some, None}
use Rattle.aes3_refusals.specs.declared.run_error.RunError.{RunError}
use Rattle.aes3_refusals.specs.declared.run_error.RunError.TheVariants.{BadCell, BadLength, BadCode, BadParity, Read, Write}
use Rattle.aes3_refusals.specs.declared.run_error.RunError.TheVariants.{TooLong, Memory, BadStatusText, BadPadding, BadSample}
use Rattle.aes3_refusals.specs.declared.run_error.RunError.TheVariants.{SoundHeader, Inexact}

abbrev pub number_of : RunError → ℕ
number_of (BadCell at) = 1
number_of (BadLength left) = 2
number_of (BadCode at) = 3
number_of (BadParity at) = 4
number_of Read = 5
number_of Write = 6
number_of TooLong = 7
number_of Memory = 8
number_of BadStatusText = 9
number_of (BadPadding at) = 10
number_of (BadSample at) = 11
number_of SoundHeader = 12
number_of (Inexact at) = 13

-- counted from 0 over the whole input; of a block file or of samples that are cut, the number of bytes that are left
abbrev pub place_of : RunError → Option ℕ
place_of (BadCell at) = Some at
place_of (BadLength left) = Some left
place_of (BadCode at) = Some at
place_of (BadParity at) = Some at
place_of Read = None
place_of Write = None
place_of TooLong = None
place_of Memory = None
place_of BadStatusText = None
place_of (BadPadding at) = Some at
place_of (BadSample at) = Some at
place_of SoundHeader = Some 0
place_of (Inexact at) = Some at
