-- The samples of frames, put pair by pair.
use Rattle.std.proofs.Common.{◌≡◌, ℕ, ◌+◌, ◌*◌, ◌<◌, ◌≤◌, ◌⊎◌, inl, inr, List, ◌++◌, length, get_or, rules, sym, ap, ap₂, ◌∙◌, arith}
use Rattle.std.proofs.lemmas.Bool.{cases_eq}
use Rattle.std.proofs.lemmas.List.{places}
use borrow.Rule.Slice.PartMut.{put_mid}
use Rattle.aes3_frame.specs.Files.{word_bytes}
use Rattle.aes3_wave.specs.declared.wave_format.WaveFormat.{WaveFormat}
use Rattle.aes3_wave.specs.declared.channels.Channels.{Channels}
use Rattle.aes3_wave.specs.Samples.{two_samples}
use Rattle.aes3_c.specs.Wav.{ArePairs, frame_at, pair_at}
use Rattle.aes3_c.proofs.BlockPieces.{number-before}

put-in : (a k : ℕ) (xs ys : List ℕ) (j : ℕ) → j < length ys → a ≤ length xs
    → get_or (put_mid a k xs ys) (a + j) 0 ≡ get_or ys j 0
put-in a k xs ys j h l = search (rules, places)

-- one pair more
pub pairs-more : (f : WaveFormat) (channels : Channels) (b xs ws : List ℕ) (i k : ℕ) → 2 * i ≤ length xs → length ws ≡ 2
    → word_bytes (get_or ws 0 0) ++ word_bytes (get_or ws 1 0) ≡ two_samples f channels (frame_at f i b)
    → ArePairs f channels b i xs → ArePairs f channels b (i + 1) (put_mid (2 * i) k xs ws)
pairs-more f channels b xs ws i k l two e before j h = go (cases_eq j i)
  where
    go : (j ≡ i) ⊎ (j ≡ i → ⊥) → pair_at j (put_mid (2 * i) k xs ws) ≡ two_samples f channels (frame_at f j b)
    go (inl q) =
        let first : get_or (put_mid (2 * i) k xs ws) (2 * j) 0 ≡ get_or ws 0 0
        = ap (λ n. get_or (put_mid (2 * i) k xs ws) n 0) (omega (arith, q)) ∙ put-in (2 * i) k xs ws 0 (omega arith) l in
        let second : get_or (put_mid (2 * i) k xs ws) (2 * j + 1) 0 ≡ get_or ws 1 0
        = ap (λ n. get_or (put_mid (2 * i) k xs ws) n 0) (omega (arith, q)) ∙ put-in (2 * i) k xs ws 1 (omega arith) l in
        ap₂ (λ x y. word_bytes x ++ word_bytes y) first second ∙ e
        ∙ ap (λ n. two_samples f channels (frame_at f n b)) (sym q)
    go (inr q) =
        ap₂ (λ x y. word_bytes x ++ word_bytes y)
        (number-before (2 * i) k xs ws (2 * j) (omega (arith, q)) l) (number-before (2 * i) k xs ws (2 * j + 1) (omega (arith, q)) l)
        ∙ before j (omega (arith, q))
