-- How long samples in a form are.
use Rattle.std.proofs.Common.{◌≡◌, ℕ, zero, suc, ◌*◌, List, [], ◌∷◌, length, refl, arith, length-append}
use Rattle.aes3_forms_samples.specs.declared.sample_format.SampleFormat.{SampleFormat}
use Rattle.aes3_forms_samples.specs.declared.sample_format.SampleFormat.TheVariants.{S32, S24, S24In32, S16}
use Rattle.aes3_forms_samples.specs.Formats.{block_len, fours, narrow_one, narrowed, sample_len}

fours-len : (f : ℕ → ℕ → ℕ → ℕ → List ℕ) (k : ℕ) → ((a b c d : ℕ) → length (f a b c d) ≡ k) → (n : ℕ) (xs : List ℕ)
    → length xs ≡ 4 * n → length (fours f xs) ≡ k * n
fours-len f k h zero [] l = omega arith
fours-len f k h zero (a ∷ xs) l = absurd (omega (arith, l))
fours-len f k h (suc n) [] l = absurd (omega (arith, l))
fours-len f k h (suc n) (a ∷ []) l = absurd (omega (arith, l))
fours-len f k h (suc n) (a ∷ b ∷ []) l = absurd (omega (arith, l))
fours-len f k h (suc n) (a ∷ b ∷ c ∷ []) l = absurd (omega (arith, l))
fours-len f k h (suc n) (a ∷ b ∷ c ∷ d ∷ xs) l =
    let both = length-append (f a b c d) (fours f xs) in
    let one = h a b c d in
    let more = fours-len f k h n xs (omega (arith, l)) in
    omega (arith, both, one, more)

pub length-narrowed : (form : SampleFormat) (n : ℕ) (xs : List ℕ) → length xs ≡ 4 * n
    → length (narrowed form xs) ≡ sample_len form * n
length-narrowed S32 n xs l = l
length-narrowed S24 n xs l = fours-len (narrow_one S24) 3 (λ a b c d. refl) n xs l
length-narrowed S24In32 n xs l = fours-len (narrow_one S24In32) 4 (λ a b c d. refl) n xs l
length-narrowed S16 n xs l = fours-len (narrow_one S16) 2 (λ a b c d. refl) n xs l

-- those of a block
pub block-narrowed : (form : SampleFormat) (xs : List ℕ) → length xs ≡ 1536 → length (narrowed form xs) ≡ block_len form
unfolding block_len
block-narrowed form xs l = let n = length-narrowed form 384 xs l in omega (arith, n)
