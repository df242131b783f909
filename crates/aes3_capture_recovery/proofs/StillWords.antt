-- Words of one level.
use Rattle.std.proofs.Common.{ℕ, List, ◌++◌, ◌≡◌, ◌<◌, ◌+◌, ◌*◌, ap, ap₂, sym, ◌∙◌, arith, append_assoc, get_or, length, replicate, take}
use Rattle.std.specs.List.{flat_map}
use Rattle.std.proofs.lemmas.List.{replicate-append-replicate}
use Rattle.aes3_level.specs.declared.level.Level.{Level}
use Rattle.aes3_level.specs.Words.{low_cells, word_cells, word_len}
use Rattle.aes3_capture_recovery.proofs.Turning.{words-more}

-- one word more
pub words-same : (s : Level) (words : List ℕ) (i : ℕ) → i < length words
    → flat_map word_cells (take i words) ≡ replicate (64 * i) s → low_cells 64 (get_or words i 0) ≡ replicate 64 s
    → flat_map word_cells (take (i + 1) words) ≡ replicate (64 * (i + 1)) s
unfolding word_cells word_len
words-same s words i within before word =
    words-more words i within ∙ ap₂ (λ a b. a ++ b) before word ∙ replicate-append-replicate (64 * i) 64 s
    ∙ ap (λ n. replicate n s) (let e : 64 * i + 64 ≡ 64 * (i + 1) = omega arith in e)

-- their levels, in two parts
pub levels-two : (s t : Level) (seen levels : List Level) (a b n : ℕ) → t ≡ s → a + b ≡ n → levels ≡ replicate n s
    → (seen ++ replicate a s) ++ replicate b t ≡ seen ++ levels
levels-two s t seen levels a b n same sum is =
    append_assoc seen (replicate a s) (replicate b t)
    ∙ ap (λ l. seen ++ l)
    (ap (λ l. replicate a s ++ replicate b l) same ∙ replicate-append-replicate a b s ∙ ap (λ k. replicate k s) sum ∙ sym is)
