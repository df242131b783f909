-- The cells of eight subframes that can't stand where they are, lane by lane.
use Rattle.std.proofs.Common.{◌≡◌, ℕ, zero, suc, ◌*◌, ◌%◌, ◌^◌, ◌<◌, List, [], ◌∷◌, Bool, true, false, not, length}
use Rattle.std.proofs.Common.{get_or, replicate, refl, sym, ap, ap₂, ◌∙◌, subst, arith}
use Rattle.std.specs.Prelude.{bit_and, bit_or, bit_xor, if◌then◌else◌}
use Rattle.std.specs.Int.{bit_at}
use Rattle.std.specs.Simd.Lanes.{zip2}
use Rattle.std.proofs.lemmas.Nat.{and_le_r}
use Rattle.std.proofs.lemmas.Simd.{get_or-zip2, length-zip2, get_or-replicate}
use Rattle.aes3_level.specs.declared.level.Level.{Level}
use Rattle.aes3_level.specs.Cells.{line}
use Rattle.aes3_level.specs.Words.{level_of, low_cells, word_cells, word_len}
use Rattle.aes3_slot.specs.declared.mark.Mark.{Mark}
use Rattle.aes3_slot.specs.Slots.{mark_runs}
use Rattle.aes3_slot.specs.Fronts.{stands_even}
use Rattle.aes3_slot.specs.Preambles.{InLanes}
use Rattle.aes3_slot.proofs.WrongCells.{wrong-even-bit}

says-not : (b : Bool) → ◌≡◌ {A = ℕ} (if b then 0 else 1) (if not b then 1 else 0)
says-not true = refl
says-not false = refl

-- two numbers in turn
pub in-turn : (P : ℕ → ℕ → Type 0) (p q : ℕ) → ((i : ℕ) → i % 2 ≡ 0 → P i p) → ((i : ℕ) → i % 2 ≡ 1 → P i q)
    → (i : ℕ) → i < 8 → P i (get_or (p ∷ q ∷ p ∷ q ∷ p ∷ q ∷ p ∷ q ∷ []) i 0)
in-turn P p q a b zero h = a 0 refl
in-turn P p q a b (suc zero) h = b 1 refl
in-turn P p q a b (suc (suc zero)) h = a 2 refl
in-turn P p q a b (suc (suc (suc zero))) h = b 3 refl
in-turn P p q a b (suc (suc (suc (suc zero)))) h = a 4 refl
in-turn P p q a b (suc (suc (suc (suc (suc zero))))) h = b 5 refl
in-turn P p q a b (suc (suc (suc (suc (suc (suc zero)))))) h = a 6 refl
in-turn P p q a b (suc (suc (suc (suc (suc (suc (suc zero))))))) h = b 7 refl
in-turn P p q a b (suc (suc (suc (suc (suc (suc (suc (suc i)))))))) h = absurd (omega arith)

-- a preamble after level s and behind it the first cells of slots, all ones, in a word whose last cell has that level
pub record Expected (s : Level) (m : Mark) (word : ℕ) : Type 0 where
  pub preamble : ℕ
  pub is : word ≡ bit_or preamble 6148914691236517120
  pub cells : low_cells 8 preamble ≡ line s (mark_runs m)
  pub last : level_of (bit_at preamble 63) ≡ s

module _ (s : Level) (m : ℕ → Mark) (v ps : List ℕ) (lv : length v ≡ 8) (lp : length ps ≡ 8) (fit : (i : ℕ) → i < 8
    → get_or v i 0 < 2 ^ 64)
    (marks : (i : ℕ) → i < 8 → Expected s (m i) (get_or ps i 0)) where
  abbrev moved : List ℕ
  moved = zip2 (λ x s. x * 2 ^ s % 2 ^ 64) v (replicate 8 1)

  abbrev starts : List ℕ
  starts = zip2 bit_and moved (replicate 8 6148914691236517120)

  abbrev turns : List ℕ
  turns = zip2 bit_xor starts v

  abbrev other_than : List ℕ
  other_than = zip2 bit_xor turns ps

  l-moved : length moved ≡ 8
  l-moved = length-zip2 (λ x s. x * 2 ^ s % 2 ^ 64) v (replicate 8 1) lv ∙ lv

  l-starts : length starts ≡ 8
  l-starts = length-zip2 bit_and moved (replicate 8 6148914691236517120) l-moved ∙ l-moved

  l-turns : length turns ≡ 8
  l-turns = length-zip2 bit_xor starts v (l-starts ∙ sym lv) ∙ l-starts

  l-other : length other_than ≡ 8
  l-other = length-zip2 bit_xor turns ps (l-turns ∙ sym lp) ∙ l-turns

  lane : (i : ℕ) → i < 8 → get_or (zip2 bit_and other_than (replicate 8 15372286728091293183)) i 0
      ≡ bit_and (bit_xor (bit_xor (bit_and (get_or v i 0 * 2 ^ 1 % 2 ^ 64) 6148914691236517120) (get_or v i 0))
      (get_or ps i 0)) 15372286728091293183
  lane i h =
      get_or-zip2 bit_and other_than (replicate 8 15372286728091293183) i 0 0 0 (omega (arith, h, l-other)) h
      ∙ ap₂ bit_and
      (get_or-zip2 bit_xor turns ps i 0 0 0 (omega (arith, h, l-turns)) (omega (arith, h, lp))
      ∙ ap (λ x. bit_xor x (get_or ps i 0))
      (get_or-zip2 bit_xor starts v i 0 0 0 (omega (arith, h, l-starts)) (omega (arith, h, lv))
      ∙ ap (λ x. bit_xor x (get_or v i 0))
      (get_or-zip2 bit_and moved (replicate 8 6148914691236517120) i 0 0 0 (omega (arith, h, l-moved)) h
      ∙ ap₂ bit_and
      (get_or-zip2 (λ x s. x * 2 ^ s % 2 ^ 64) v (replicate 8 1) i 0 0 0 (omega (arith, h, lv)) h
      ∙ ap (λ t. get_or v i 0 * 2 ^ t % 2 ^ 64) (get_or-replicate 8 i 1 0 h))
      (get_or-replicate 8 i 6148914691236517120 0 h))))
      (get_or-replicate 8 i 15372286728091293183 0 h)

  pub wrong-lanes : InLanes (zip2 bit_and other_than (replicate 8 15372286728091293183))
      (λ i k. not (stands_even s (m i) (word_cells (get_or v i 0)) k))
  unfolding word_cells word_len
  wrong-lanes = record {
    count = length-zip2 bit_and other_than (replicate 8 15372286728091293183) l-other ∙ l-other;
    fit = λ i h. subst (λ n. n < 2 ^ 64) (sym (lane i h))
        (let a = and_le_r
        (bit_xor (bit_xor (bit_and (get_or v i 0 * 2 ^ 1 % 2 ^ 64) 6148914691236517120) (get_or v i 0))
        (get_or ps i 0)) 15372286728091293183 in
        omega (arith, a));
    bits = λ i k h g.
        let e = marks i h in
        ap (λ n. bit_at n k)
        (lane i h ∙ ap
        (λ x. bit_and
        (bit_xor (bit_xor (bit_and (get_or v i 0 * 2 ^ 1 % 2 ^ 64) 6148914691236517120)
        (get_or v i 0)) x) 15372286728091293183) e.is)
        ∙ wrong-even-bit s (m i) (get_or v i 0) e.preamble k (fit i h) e.cells e.last g
        ∙ says-not (stands_even s (m i) (word_cells (get_or v i 0)) k);
  }
