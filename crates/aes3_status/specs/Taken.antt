-- Which settings statuses take.
use Rattle.std.specs.Prelude.{ℕ, List, [], ◌∷◌, Bool, false, ◌≡◌, ◌<◌, ◌%◌, ◌/◌, ◌==◌, map, take, get_or, slice_get}
use Rattle.std.specs.Prelude.{◌++◌, drop, option_and_then, replicate, slice_set, suc}
use Rattle.std.specs.List.{list_any, range_with_len}
use Rattle.std.specs.Option.{is_some}
use Rattle.aes3_bits.specs.Bits.{number}
use Rattle.aes3_status.specs.declared.setting.Setting.{Setting}
use Rattle.aes3_status.specs.declared.setting.Settings.{Settings}
use Rattle.aes3_status.specs.declared.taken.Taken.{Taken}
use Rattle.aes3_status.specs.declared.taken.Kinds.{Kinds}
use Rattle.aes3_status.specs.Bits.{status_bits}
use Rattle.aes3_status.specs.Statuses.{is_professional}
use Rattle.aes3_status.specs.Settings.{code_for, set_in_turn}

-- whether a setting has a code for a status
abbrev pub has_code : Setting → List ℕ → Bool
has_code setting bytes = is_some (code_for setting bytes)

-- whether setting `i` has a code for what the settings before it leave of a status
abbrev pub takes : List Setting → List ℕ → ℕ → Bool
takes settings bytes i =
    is_some (option_and_then (λ setting. code_for setting (set_in_turn (take i settings) bytes)) (slice_get settings i))

-- a setting that a status does not take can be left out of those that it meets
abbrev pub UntakenCanGo : Type 0
UntakenCanGo = (settings : List Setting) (i : ℕ) (bytes : List ℕ) → takes settings bytes i ≡ false
    → set_in_turn (take i settings ++ drop (suc i) settings) bytes ≡ set_in_turn settings bytes

-- whether the fields of four bytes are set: behind all codes the status is professional
abbrev pub takes_wide : Settings → List ℕ → Bool
takes_wide settings bytes = is_professional (set_in_turn settings.codes bytes)

-- what no status takes, and which settings some of these statuses takes
abbrev pub nothing_taken : Taken
nothing_taken = record { codes = replicate 64 false; wide = false }

unfoldable pub taken_by : Settings → List (List ℕ) → Taken
taken_by settings statuses = record {
  codes = map (λ i. list_any (λ bytes. takes settings.codes bytes i) statuses) (range_with_len 0 64);
  wide = list_any (takes_wide settings) statuses;
}

-- the bits of a status that tell which settings it takes: the use, what the sample words carry, the use of the auxiliary
-- bits, and the greatest length, by their places in order of transmission
unfoldable pub telling_bits : List ℕ → List Bool
telling_bits bytes = map (λ at. get_or (status_bits bytes) at false) (0 ∷ 1 ∷ 16 ∷ 17 ∷ 18 ∷ 32 ∷ [])

-- the kind of a status, below 64: statuses of one kind have the same such bits
unfoldable pub kind_of : List ℕ → ℕ
kind_of bytes = number (telling_bits bytes)

-- a status of a kind
unfoldable pub example_of : ℕ → List ℕ
example_of kind = slice_set (slice_set (slice_set (replicate 24 0) 0 (kind % 4)) 2 (kind / 4 % 8)) 4 (kind / 32)

-- the kinds that are met are those of these statuses
abbrev pub AreKindsOf : Kinds → List (List ℕ) → Type 0
AreKindsOf kinds statuses =
    (kind : ℕ) → kind < 64 → get_or kinds.met kind false ≡ list_any (λ bytes. kind_of bytes == kind) statuses
