-- The bits of the subframes whose cells were gathered.
use Rattle.std.proofs.Common.{◌≡◌, ℕ, zero, suc, ◌+◌, ◌*◌, ◌<◌, ◌≤◌, List, [], ◌∷◌, refl, length, take, drop, get_or}
use Rattle.std.proofs.Common.{ap, ap₂, ◌∙◌, sym, arith, length-drop, drop-drop}
use Rattle.std.proofs.lemmas.List.{drop-take}
use Rattle.aes3_level.specs.declared.level.Level.{Level}
use Rattle.aes3_level.specs.Words.{word_cells}
use Rattle.aes3_slot.specs.Reading.{read_bits, read_slots}
use Rattle.aes3_slot.specs.ReadWords.{read_words}
use Rattle.aes3_frame.specs.Blocks.{block_subframes, block_len}
use Rattle.aes3_lock.specs.Following.{Filled}
use Rattle.aes3_lock.proofs.Deciding.{block_len_64}

words-from : (n : ℕ) (words : List ℕ) (d : List Level) → length words ≡ n → 64 * n ≤ length d
    → ((j : ℕ) → j < n → word_cells (get_or words j 0) ≡ take 64 (drop (64 * j) d)) → read_words words ≡ read_slots n d
words-from zero [] d l h f = refl
words-from zero (w ∷ words) d l h f = absurd (omega arith)
words-from (suc n) [] d l h f = absurd (omega arith)
words-from (suc n) (w ∷ words) d l h f =
    let l64 = length-drop 64 d in
    ap₂ (λ x y. x ∷ y)
    (ap (λ c. read_bits (drop 8 c)) (f 0 (omega arith)) ∙ ap read_bits (drop-take 8 56 d))
    (words-from n words (drop 64 d) (omega arith) (omega (arith, l64, h))
    (λ j g. f (suc j) (omega arith)
    ∙ ap (take 64) (ap (λ i. drop i d) (let y : 64 * suc j ≡ 64 + 64 * j = omega arith in y)
    ∙ sym (drop-drop (64 * j) 64 d))))

pub words-whole : (words : List ℕ) (d : List Level) → length words ≡ block_subframes → block_len ≤ length d → Filled words d
    → read_words words ≡ read_slots block_subframes d
words-whole words d lw h f =
    let b = block_len_64 in
    words-from block_subframes words d lw (omega (arith, b, h)) (λ j g. f j g (omega (arith, b, g, h)))
