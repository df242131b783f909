-- Samples put one by one, and the words of their octets.
use Rattle.std.proofs.Common.{◌≡◌, ℕ, suc, ◌+◌, ◌^◌, ◌<◌, ◌⊎◌, inl, inr, List, [], ◌∷◌, length, map, set, get_or}
use Rattle.std.proofs.Common.{refl, sym, ap, ◌∙◌, arith}
use Rattle.std.specs.List.{flat_map}
use Rattle.std.proofs.lemmas.Bool.{cases_eq}
use Rattle.std.proofs.lemmas.List.{ext_get_or, get_or-set_same, get_or-set_other}
use Rattle.aes3_frame.specs.Files.{payload_of, word_bytes, words_of}
use Rattle.aes3_frame.specs.Samples.{sample_of}
use Rattle.aes3_frame.proofs.FileLaws.{words-of-word}
use Rattle.aes3_frame.proofs.Samples.{length-samples, samples-at}

-- one more
pub more-samples : (xs words : List ℕ) (i x : ℕ) → i < length xs → x ≡ sample_of (payload_of (get_or words i 0))
    → ((k : ℕ) → k < i → get_or xs k 0 ≡ sample_of (payload_of (get_or words k 0)))
    → (k : ℕ) → k < i + 1 → get_or (set xs i x) k 0 ≡ sample_of (payload_of (get_or words k 0))
more-samples xs words i x h e f k g = go (cases_eq k i)
  where
    go : (k ≡ i) ⊎ (k ≡ i → ⊥) → get_or (set xs i x) k 0 ≡ sample_of (payload_of (get_or words k 0))
    go (inl q) = ap (λ k. get_or (set xs i x) k 0) q ∙ get_or-set_same xs i x 0 h ∙ e
        ∙ ap (λ k. sample_of (payload_of (get_or words k 0))) (sym q)
    go (inr q) = get_or-set_other xs i k x 0 q ∙ f k (omega arith)

-- all of them
pub samples-all : (xs words : List ℕ) → length xs ≡ length words
    → ((k : ℕ) → k < length words → get_or xs k 0 ≡ sample_of (payload_of (get_or words k 0)))
    → xs ≡ map sample_of (map payload_of words)
samples-all xs words l f =
    ext_get_or 0 xs (map sample_of (map payload_of words)) (l ∙ sym (length-samples words))
    (λ k h. f k (omega arith) ∙ sym (samples-at words k (omega arith)))

-- the words of the octets of words
pub words-back : (ws : List ℕ) → ((i : ℕ) → get_or ws i 0 < 2 ^ 32) → words_of (flat_map word_bytes ws) ≡ ws
words-back [] h = refl
words-back (w ∷ ws) h =
    words-of-word w (flat_map word_bytes ws) (h 0) ∙ ap (λ xs. w ∷ xs) (words-back ws (λ i. h (suc i)))
