-- The lines of settings that no block took.
use Rattle.std.specs.Prelude.{ℕ, suc, List, [], ◌∷◌, ◌++◌, Bool, true, false, Option, Some, None, ◌*◌, ◌+◌, ◌||◌}
use Rattle.std.specs.Prelude.{codes, decimal, get_or, map, if◌then◌else◌}
use Rattle.std.specs.Borrow.{Bor}
use Rattle.std.specs.Option.{option_map_or}
use Rattle.arrayvec.specs.ArrayVec.{ArrayVec}
use Rattle.aes3_status.specs.declared.setting.Setting.{Setting}
use Rattle.aes3_status.specs.declared.setting.Settings.{Settings}
use Rattle.aes3_status.specs.declared.taken.Taken.{Taken}
use Rattle.aes3_status.specs.Settings.{has_any_code}
use Rattle.aes3_status.specs.NamedSettings.{nothing}

-- the texts of a channel, as they were typed
abbrev pub texts_of : ArrayVec (Bor (List ℕ)) → List (List ℕ)
texts_of texts = map (λ text. text.now) texts.items

-- what text `at` sets for professional and for consumer use
abbrev pub professional_at : Settings → ℕ → Setting
professional_at settings at = get_or settings.codes (2 * at) nothing

abbrev pub consumer_at : Settings → ℕ → Setting
consumer_at settings at = get_or settings.codes (2 * at + 1) nothing

-- whether a block took what text `at` sets: one of its codes, or, where it has none, the field of four bytes that it sets
abbrev pub is_taken : Settings → Taken → ℕ → Bool
is_taken settings taken at =
    if has_any_code (professional_at settings at) || has_any_code (consumer_at settings at)
    then get_or taken.codes (2 * at) false || get_or taken.codes (2 * at + 1) false
    else taken.wide

-- what a status lacks that takes nothing of a text, by whether this has a code for professional and for consumer use: a
-- text with neither sets a field of four bytes, which are for professional use
abbrev pub remedy : Bool → Bool → List ℕ
remedy true true = codes ". It needs another setting first. For example, word=24 needs aux=audio (professional) or greatest=24 (consumer)" ++ 10 ∷ []
remedy true false = codes ": only professional status has it; set use=professional first" ++ 10 ∷ []
remedy false true = codes ": only consumer status has it; set use=consumer first" ++ 10 ∷ []
remedy false false = codes ": only professional status has it; set use=professional first" ++ 10 ∷ []

-- what stands behind text `at` in its line, with the line feed; none where a block took what it sets
abbrev pub untaken_remedy : Settings → Taken → ℕ → Option (List ℕ)
untaken_remedy settings taken at =
    if is_taken settings taken at then None
    else Some (remedy (has_any_code (professional_at settings at)) (has_any_code (consumer_at settings at)))

-- the line of a text as it was typed for a channel; none where a block took what it sets
abbrev pub told_line : ℕ → List ℕ → List ℕ → List ℕ
told_line channel text remedy = codes "aes3: no block took --set" ++ decimal channel ++ codes " " ++ text ++ remedy

abbrev pub untaken_line : ℕ → Settings → Taken → ℕ → List ℕ → List ℕ
untaken_line channel settings taken at text =
    option_map_or (told_line channel text) (untaken_remedy settings taken at) []

-- the lines of texts typed for a channel, in their order, the first of which has number `at`
abbrev pub untaken_lines : ℕ → Settings → Taken → ℕ → List (List ℕ) → List ℕ
untaken_lines channel settings taken at [] = []
untaken_lines channel settings taken at (text ∷ texts) =
    untaken_line channel settings taken at text ++ untaken_lines channel settings taken (suc at) texts
