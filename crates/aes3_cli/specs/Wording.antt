-- What is told of words that are no command line.
use Rattle.std.specs.Prelude.{[], ◌∷◌, ◌++◌, ◌≡◌, if◌then◌else◌, codes}
use Rattle.std.specs.Str.{bytes_eq}
use Rattle.clap.specs.Walk.{Text}

-- how the program is called, and the command of this name; of another name how the program is
abbrev pub program_usage : Text
program_usage = codes "aes3 COMMAND [OPTIONS] < INPUT > OUTPUT" ++ 10 ∷ codes "       aes3 check FILE"
    ++ 10 ∷ codes "       aes3 COMMAND --help" ++ 10 ∷ codes "       aes3 --explain [NUMBER]"

abbrev pub usage_of : Text → Text
usage_of name =
    if bytes_eq name (codes "encode") then codes
    "aes3 encode [--packed-out [--lsb-first]] [--words own|alsa|am824] [-i FILE] > CELLS"
    else if bytes_eq name (codes "decode") then codes "aes3 decode [OPTIONS] [FILE] > BLOCKFILE"
    else if bytes_eq name (codes "normal") then codes
    "aes3 normal [--packed-in|--raw-in] [--packed-out] [--lsb-first] [FILE] > CELLS"
    else if bytes_eq name (codes "check") then codes
    "aes3 check [--packed-in|--raw-in] [--lsb-first] [--faults] [--gaps] [FILE]"
    else if bytes_eq name (codes "watch") then codes "aes3 watch [OPTIONS] [FILE]"
    else if bytes_eq name (codes "info") then codes "aes3 info [--packed-in|--raw-in] [--lsb-first] [--json] [FILE]"
    else if bytes_eq name (codes "show") then codes
    "aes3 show [--packed-in|--raw-in] [--lsb-first] [--changes] [--at|--more|--names] [FILE]"
    else if bytes_eq name (codes "scan") then codes "aes3 scan [--packed-in|--raw-in] [--lsb-first] [FILE]"
    else if bytes_eq name (codes "cut") then codes "aes3 cut [OPTIONS] [-i FILE] <FROM> <COUNT> > CELLS"
    else if bytes_eq name (codes "rewrite") then codes "aes3 rewrite [OPTIONS] [FILE] > CELLS"
    else if bytes_eq name (codes "to-pcm") then codes "aes3 to-pcm [OPTIONS] [FILE] > PCM"
    else if bytes_eq name (codes "from-pcm") then codes "aes3 from-pcm [OPTIONS] [FILE] > BLOCKFILE"
    else if bytes_eq name (codes "to-wav") then codes "aes3 to-wav [OPTIONS] [FILE] > WAV"
    else if bytes_eq name (codes "from-wav") then codes "aes3 from-wav [OPTIONS] [FILE] > BLOCKFILE"
    else if bytes_eq name (codes "to-bits") then codes
    "aes3 to-bits [OPTIONS] <user|validity|status> <1|2> [FILE] > BITS"
    else program_usage

-- the usage, and where to find more
unfoldable pub usage_end : Text → Text
usage_end usage = (10 ∷ 10 ∷ codes "Usage: ") ++ usage ++ (10 ∷ 10 ∷ codes "For more information, try '--help'." ++ 10 ∷ [])

-- the text ends with these
abbrev pub EndsWithUsage : Text → Text → Type 0
EndsWithUsage usage text = (front : Text) × (text ≡ front ++ usage_end usage)
