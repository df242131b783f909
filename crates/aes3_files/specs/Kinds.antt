-- What the first bytes of an input look like.
use Rattle.std.specs.Prelude.{ℕ, Bool, List, [], ◌∷◌, ◌++◌, ◌==◌, ◌||◌, ◌&&◌, if◌then◌else◌, nat_le, codes, length}
use Rattle.std.specs.Prelude.{Option, Some, None}
use Rattle.std.specs.List.{list_all}
use Rattle.aes3_files.specs.declared.kind.Alphabet.{Alphabet}
use Rattle.aes3_files.specs.declared.kind.Alphabet.TheVariants.{Cells, Ascii, Bits}
use Rattle.aes3_files.specs.declared.kind.FileKind.{FileKind}
use Rattle.aes3_files.specs.declared.kind.FileKind.TheVariants.{Empty, Sound, ValueChanges, Session, Compressed}
use Rattle.aes3_files.specs.declared.kind.FileKind.TheVariants.{Executable, CellText, OtherText, BlockFile, Samples}
use Rattle.aes3_files.specs.declared.kind.FileKind.TheVariants.{Octets}
use Rattle.aes3_files.specs.declared.sound.SoundFile.{SoundFile}
use Rattle.aes3_files.specs.Sound.{begins, sound_file}

-- a cell or a separator
abbrev pub is_cell_text : ℕ → Bool
is_cell_text byte = (byte == 48) || (byte == 49) || (byte == 32) || (byte == 9) || (byte == 13) || (byte == 10)

-- a byte of a text in ASCII
abbrev pub is_text : ℕ → Bool
is_text byte = (nat_le 32 byte && nat_le byte 126) || (byte == 9) || (byte == 13) || (byte == 10)

-- an octet with one bit
abbrev pub is_bit : ℕ → Bool
is_bit byte = nat_le byte 1

-- a byte of this alphabet
abbrev pub is_in : Alphabet → ℕ → Bool
is_in Cells byte = is_cell_text byte
is_in Ascii byte = is_text byte
is_in Bits byte = is_bit byte

-- the head of a file of gzip, bzip2, xz or zstd
abbrev pub is_compressed : List ℕ → Bool
is_compressed first = begins first (31 ∷ 139 ∷ []) || begins first (codes "BZh") || begins first (253 ∷ codes "7zXZ")
    || begins first (40 ∷ 181 ∷ 47 ∷ 253 ∷ [])

-- the first part of a value change dump
abbrev pub are_changes : List ℕ → Bool
are_changes first = begins first (codes "$date") || begins first (codes "$version")
    || begins first (codes "$timescale") || begins first (codes "$comment") || begins first (codes "$scope")

-- what bytes look like that begin no sound file, where `block` says whether they can be words of a block file
abbrev pub other_kind : Bool → List ℕ → FileKind
other_kind block first =
    if are_changes first then ValueChanges
    else if begins first (codes "PK" ++ 3 ∷ 4 ∷ []) then Session
    else if is_compressed first then Compressed
    else if begins first (127 ∷ codes "ELF") then Executable
    else if list_all (is_in Cells) first then CellText
    else if list_all (is_in Ascii) first then OtherText
    else if block then BlockFile
    else if list_all (is_in Bits) first then Samples
    else Octets

abbrev pub sound_or : Option SoundFile → FileKind → FileKind
sound_or (Some sound) kind = Sound sound
sound_or None kind = kind

-- what bytes look like
abbrev pub file_kind : Bool → List ℕ → FileKind
file_kind block first = if length first == 0 then Empty else sound_or (sound_file first) (other_kind block first)
