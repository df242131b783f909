-- Whether statuses take all settings.
use Rattle.std.specs.Prelude.{ℕ, List, [], ◌∷◌, Bool, false, not, ◌||◌, ◌&&◌, ◌*◌, ◌+◌, get_or, slice_get}
use Rattle.std.specs.List.{list_all, range_with_len}
use Rattle.std.specs.Option.{is_some, option_map_or}
use Rattle.aes3_status.specs.declared.setting.Setting.{Setting}
use Rattle.aes3_status.specs.declared.setting.Settings.{Settings}
use Rattle.aes3_status.specs.declared.wide_field.WideSettings.{WideSettings}
use Rattle.aes3_status.specs.declared.taken.Taken.{Taken}
use Rattle.aes3_status.specs.Settings.{has_any_code}
use Rattle.aes3_status.specs.Taken.{taken_by}

-- whether setting `i` has a code for some status, and whether a field of four bytes is given
abbrev pub asks_at : List Setting → ℕ → Bool
asks_at settings i = option_map_or has_any_code (slice_get settings i) false

abbrev pub asks_wide : WideSettings → Bool
asks_wide wide = is_some wide.origin || is_some wide.destination || is_some wide.local || is_some wide.time

-- Text k asks by settings 2k and 2k + 1, one for either use: whether one of them was taken, or neither asks; and
-- whether each of the 32 texts is so.
abbrev pub text_taken : Settings → Taken → ℕ → Bool
text_taken settings taken k =
    get_or taken.codes (2 * k) false || get_or taken.codes (2 * k + 1) false
    || not (asks_at settings.codes (2 * k) || asks_at settings.codes (2 * k + 1))

unfoldable pub texts_taken : Settings → Taken → Bool
texts_taken settings taken = list_all (text_taken settings taken) (range_with_len 0 32)

-- whether all that settings ask for was taken, and whether a status takes it
abbrev pub is_all : Settings → Taken → Bool
is_all settings taken = texts_taken settings taken && (taken.wide || not (asks_wide settings.wide))

unfoldable pub takes_all : Settings → List ℕ → Bool
takes_all settings status = is_all settings (taken_by settings (status ∷ []))
