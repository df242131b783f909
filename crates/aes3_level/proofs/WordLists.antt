-- Lists of words of cells, one more.
use Rattle.std.proofs.Common.{◌≡◌, ℕ, ◌+◌, ◌<◌, List, [], ◌∷◌, ◌++◌, length, take, set, ap, ◌∙◌, append-nil}
use Rattle.std.specs.List.{flat_map}
use Rattle.std.proofs.lemmas.Grind.{flat_map-append}
use Rattle.std.proofs.lemmas.List.{take_more_set}
use Rattle.aes3_level.specs.Words.{word_cells}

pub words-more : (words : List ℕ) (i w : ℕ) → i < length words
    → flat_map word_cells (take (i + 1) (set words i w)) ≡ flat_map word_cells (take i words) ++ word_cells w
words-more words i w h =
    ap (flat_map word_cells) (take_more_set words i w h) ∙ flat_map-append word_cells (take i words) (w ∷ [])
    ∙ ap (λ c. flat_map word_cells (take i words) ++ c) (append-nil (word_cells w))
