-- The four bytes of a word read at once.
use Rattle.std.proofs.Common.{◌≡◌, ℕ, ◌+◌, ◌/◌, ◌%◌, ◌^◌, ◌<◌, ◌≤◌, ◌⊎◌, inl, inr, List, [], ◌∷◌, ◌++◌, length, get_or}
use Rattle.std.proofs.Common.{true, false, true≢false, Option, Some, None, Ok, refl, sym, ap, ◌∙◌, subst, arith, map}
use Rattle.std.proofs.Common.{w32}
use Rattle.std.specs.Prelude.{is_some}
use Rattle.std.specs.Int.{from_le_bytes}
use Rattle.std.proofs.lemmas.Bool.{cases_lt}
use Rattle.std.proofs.lemmas.Nat.{le_bytes_4}
use Rattle.aes3_block.specs.declared.file.FileFault.{FileFault}
use Rattle.aes3_frame.specs.Files.{low_bytes, payload_of, word_bytes}
use Rattle.aes3_block.specs.Readers.{FileReader, TakesBlock, TakesQuietly, word_fault, answer_with, next_with}
use Rattle.aes3_frame.proofs.Files.{le_bytes-is}
use Rattle.aes3_block.proofs.Reading.{stored, byte-short, byte-word, byte-block, byte-refused}

-- the bytes before the last, one by one
module _ (seen : ℕ) (ws : List ℕ) (u w : ℕ) (start : seen % 4 ≡ 0) where
  first : (answer_with (stored seen ws u None) (w % 256) ≡ Ok None)
      × (next_with (stored seen ws u None) (w % 256) ≡ stored (seen + 1) ws w None)
  first = byte-short seen ws u w (w % 256) (omega (arith, start)) (at-place start)
    where
      at-place : {n : ℕ} → n ≡ 0 → low_bytes (n + 1) w ≡ low_bytes n u ++ (w % 256) ∷ []
      at-place e = rw e refl

  second : (answer_with (stored (seen + 1) ws w None) (w / 256 % 256) ≡ Ok None)
      × (next_with (stored (seen + 1) ws w None) (w / 256 % 256) ≡ stored (seen + 1 + 1) ws w None)
  second = byte-short (seen + 1) ws w w (w / 256 % 256) (omega (arith, start)) (at-place (omega (arith, start)))
    where
      at-place : {n : ℕ} → n ≡ 1 → low_bytes (n + 1) w ≡ low_bytes n w ++ (w / 256 % 256) ∷ []
      at-place e = rw e refl

  third : (answer_with (stored (seen + 1 + 1) ws w None) (w / 256 / 256 % 256) ≡ Ok None)
      × (next_with (stored (seen + 1 + 1) ws w None) (w / 256 / 256 % 256) ≡ stored (seen + 1 + 1 + 1) ws w None)
  third = byte-short (seen + 1 + 1) ws w w (w / 256 / 256 % 256) (omega (arith, start))
      (at-place (omega (arith, start)))
    where
      at-place : {n : ℕ} → n ≡ 2 → low_bytes (n + 1) w ≡ low_bytes n w ++ (w / 256 / 256 % 256) ∷ []
      at-place e = rw e refl

  -- what the last meets
  last-place : low_bytes ((seen + 1 + 1 + 1) % 4 + 1) w ≡ low_bytes
      ((seen + 1 + 1 + 1) % 4) w ++ (w / 256 / 256 / 256 % 256) ∷ []
  last-place = at-place (omega (arith, start))
    where
      at-place : {n : ℕ} → n ≡ 3 → low_bytes (n + 1) w ≡ low_bytes n w ++ (w / 256 / 256 / 256 % 256) ∷ []
      at-place e = rw e refl

  same-word : (seen + 1 + 1 + 1) / 4 ≡ seen / 4
  same-word = omega (arith, start)

  -- the four bytes are taken quietly
  pub takes-word : length ws ≡ seen / 4 % 384 → w < 2 ^ 32 → word_fault (seen / 4) w ≡ None → seen / 4 % 384 + 1 < 384
      → TakesQuietly (stored seen ws u None) (word_bytes w) (stored (seen + 4) (ws ++ w ∷ []) 0 None)
  takes-word lw b f s =
      let q = byte-word (seen + 1 + 1 + 1) ws w w (w / 256 / 256 / 256 % 256) (lw ∙ ap (λ k. k % 384) (sym same-word))
      (omega (arith, start)) last-place b
      (ap (λ k. word_fault k w) same-word ∙ f) (omega (arith, s, same-word)) in
      let e : stored (seen + 4) (ws ++ w ∷ []) 0 None ≡ stored (seen + 1 + 1 + 1 + 1) (ws ++ w ∷ []) 0 None =
      ap (λ n. stored n (ws ++ w ∷ []) 0 None) (let p : seen + 4 ≡ seen + 1 + 1 + 1 + 1 = omega arith in p) in (
        first.0,
        subst (λ r. TakesQuietly r ((w / 256 % 256) ∷ (w / 256 / 256 % 256) ∷ (w / 256 / 256 / 256 % 256) ∷ [])
            (stored (seen + 4) (ws ++ w ∷ []) 0 None)) (sym first.1) (
              second.0,
              subst (λ r. TakesQuietly r ((w / 256 / 256 % 256) ∷ (w / 256 / 256 / 256 % 256) ∷ [])
                  (stored (seen + 4) (ws ++ w ∷ []) 0 None)) (sym second.1) (
                    third.0,
                    subst (λ r. TakesQuietly r ((w / 256 / 256 / 256 % 256) ∷ [])
                        (stored (seen + 4) (ws ++ w ∷ []) 0 None))
                        (sym third.1) (q.0, e ∙ sym q.1),
                  ),
            ),
      )

  -- where they end a block, all but the last are
  pub ends-block : length ws ≡ seen / 4 % 384 → w < 2 ^ 32 → word_fault (seen / 4) w ≡ None → 384 ≤ seen / 4 % 384 + 1
      → TakesBlock (stored seen ws u None) (word_bytes w) (map payload_of (ws ++ w ∷ [])) (stored (seen + 4) [] 0 None)
  ends-block lw b f s =
      let q = byte-block (seen + 1 + 1 + 1) ws w w (w / 256 / 256 / 256 % 256) (lw ∙ ap (λ k. k % 384) (sym same-word))
      (omega (arith, start)) last-place b
      (ap (λ k. word_fault k w) same-word ∙ f) (omega (arith, s, same-word)) in
      let e : stored (seen + 4) [] 0 None ≡ stored (seen + 1 + 1 + 1 + 1) [] 0 None =
      ap (λ n. stored n [] 0 None) (let p : seen + 4 ≡ seen + 1 + 1 + 1 + 1 = omega arith in p) in
      record {
        quiet = (w % 256) ∷ (w / 256 % 256) ∷ (w / 256 / 256 % 256) ∷ [];
        last = w / 256 / 256 / 256 % 256;
        is = refl;
        behind = stored (seen + 1 + 1 + 1) ws w None;
        taken = (
          first.0,
          subst (λ r. TakesQuietly r ((w / 256 % 256) ∷ (w / 256 / 256 % 256) ∷ [])
              (stored (seen + 1 + 1 + 1) ws w None)) (sym first.1) (
                second.0,
                subst (λ r. TakesQuietly r ((w / 256 / 256 % 256) ∷ []) (stored (seen + 1 + 1 + 1) ws w None))
                    (sym second.1) (third.0, sym third.1),
              ),
        );
        ends = q.0;
        next = e ∙ sym q.1;
      }

  -- and then it is lawful and ends no block
  pub quiet-word : (s : FileReader) → length ws ≡ seen / 4 % 384 → w < 2 ^ 32
      → TakesQuietly (stored seen ws u None) (word_bytes w) s
      → (word_fault (seen / 4) w ≡ None) × (seen / 4 % 384 + 1 < 384)
  quiet-word s lw b t = go (word_fault (seen / 4) w) refl (cases_lt (seen / 4 % 384 + 1) 384)
    where
      answer : answer_with (stored (seen + 1 + 1 + 1) ws w None) (w / 256 / 256 / 256 % 256) ≡ Ok None
      answer =
          let p = subst
          (λ r. TakesQuietly r
          ((w / 256 % 256) ∷ (w / 256 / 256 % 256) ∷ (w / 256 / 256 / 256 % 256) ∷ []) s) first.1 t.1 in
          let q = subst
          (λ r. TakesQuietly r ((w / 256 / 256 % 256) ∷ (w / 256 / 256 / 256 % 256) ∷ []) s) second.1 p.1 in
          (subst (λ r. TakesQuietly r ((w / 256 / 256 / 256 % 256) ∷ []) s) third.1 q.1).0

      go : (f : Option FileFault) → word_fault (seen / 4) w ≡ f → (seen / 4 % 384 + 1 < 384)
          ⊎ (384 ≤ seen / 4 % 384 + 1)
          → (word_fault (seen / 4) w ≡ None) × (seen / 4 % 384 + 1 < 384)
      go None e (inl h) = (e, h)
      go None e (inr h) =
          let q = byte-block (seen + 1 + 1 + 1) ws w w (w / 256 / 256 / 256 % 256)
          (lw ∙ ap (λ k. k % 384) (sym same-word)) (omega (arith, start)) last-place b
          (ap (λ k. word_fault k w) same-word ∙ e) (omega (arith, h, same-word)) in
          let z = sym answer ∙ q.0 in cc
      go (Some f) e h =
          let q = byte-refused (seen + 1 + 1 + 1) ws w w (w / 256 / 256 / 256 % 256) f
          (omega (arith, start)) last-place b (ap (λ k. word_fault k w) same-word ∙ e) in
          let z = sym answer ∙ q.0 in cc

-- the bytes of the number that they make
pub number-bytes : (bytes : List ℕ) (w : ℕ) → length bytes ≡ 4 → ((i : ℕ) → get_or bytes i 0 < 256)
    → w ≡ from_le_bytes w32 bytes → w < 2 ^ 32 → bytes ≡ word_bytes w
number-bytes bytes w l fit e h = sym (le_bytes_4 bytes w l fit e) ∙ le_bytes-is w h

-- what a fault that is none and one that is some say
pub none-is : (f : Option FileFault) → is_some f ≡ false → f ≡ None
none-is None e = refl
none-is (Some f) e = cc

pub none-not : (f : Option FileFault) → is_some f ≡ true → f ≡ None → ⊥
none-not f e n = true≢false (sym e ∙ ap is_some n)

-- a reader that has refused takes none
pub refused-none : (seen : ℕ) (ws : List ℕ) (u : ℕ) (f : Option FileFault) (bytes : List ℕ) (s : FileReader)
    → length bytes ≡ 4 → is_some f ≡ true → TakesQuietly (stored seen ws u f) bytes s → ⊥
refused-none seen ws u None bytes s l e t = cc
refused-none seen ws u (Some f) [] s l e t = absurd (omega (arith, l))
refused-none seen ws u (Some f) (x ∷ b) s l e t = let z = t.0 in cc
