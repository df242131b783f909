-- The heads of sound files.
use Rattle.std.specs.Prelude.{ℕ, Bool, List, [], ◌∷◌, ◌++◌, ◌==◌, ◌||◌, ◌&&◌, if◌then◌else◌, codes, drop, take, length}
use Rattle.std.specs.Prelude.{Option, Some, None, is_some, nat_lt}
use Rattle.std.specs.List.{starts_with}
use Rattle.aes3_files.specs.declared.sound.SoundFile.{SoundFile}
use Rattle.aes3_files.specs.declared.sound.SoundFile.TheVariants.{Wave, Rifx, Aiff, Wave64, Flac, CoreAudio, Ogg, Mp3, Sun, Mpeg4}

-- they begin so
abbrev pub begins : List ℕ → List ℕ → Bool
begins first head = starts_with (λ a b. a == b) first head

-- how many of a file's first bytes say whether it is a sound file
abbrev pub sound_head_len : ℕ
sound_head_len = 12

-- RIFF, RF64 or BW64, any four octets behind it, and WAVE
abbrev pub is_riff : List ℕ → Bool
is_riff b = begins b (codes "RIFF") || begins b (codes "RF64") || begins b (codes "BW64")

abbrev pub is_wave : List ℕ → Bool
is_wave b = is_riff b && begins (drop 8 b) (codes "WAVE")

-- RIFX, any four octets after it, and WAVE: its numbers have the highest octet first
abbrev pub is_rifx : List ℕ → Bool
is_rifx b = begins b (codes "RIFX") && begins (drop 8 b) (codes "WAVE")

-- FORM, any four octets behind it, and AIFF or AIFC
abbrev pub is_aiff : List ℕ → Bool
is_aiff b = begins b (codes "FORM") && (begins (drop 8 b) (codes "AIFF") || begins (drop 8 b) (codes "AIFC"))

-- the first half of the identifier of a Wave64 file's first chunk
abbrev pub is_wave64 : List ℕ → Bool
is_wave64 b = begins b (codes "riff" ++ 46 ∷ 145 ∷ 207 ∷ 17 ∷ [])

-- the kind of sound file that has this head
abbrev pub sound_head : List ℕ → Option SoundFile
sound_head b =
    if is_wave b then Some Wave
    else if is_rifx b then Some Rifx
    else if is_aiff b then Some Aiff
    else if is_wave64 b then Some Wave64
    else if begins b (codes "fLaC") then Some Flac
    else if begins b (codes "caff") then Some CoreAudio
    else if begins b (codes "OggS") then Some Ogg
    else if begins b (codes "ID3") then Some Mp3
    else if begins b (codes ".snd") then Some Sun
    else if begins (drop 4 b) (codes "ftyp") then Some Mpeg4
    else None

-- the kind that bytes begin; fewer than a head begin none
unfoldable pub sound_file : List ℕ → Option SoundFile
sound_file b = if nat_lt (length b) sound_head_len then None else sound_head (take sound_head_len b)

abbrev pub begins_sound : List ℕ → Bool
begins_sound b = is_some (sound_file b)
