-- The preambles that end in a word of cells, by the bits that say where they begin.
use Rattle.std.proofs.Common.{◌≡◌, ℕ, zero, suc, ◌+◌, ◌-◌, ◌==◌, ◌<◌, ◌≤◌, ◌⊎◌, inl, inr, List, [], ◌++◌, Bool, true}
use Rattle.std.proofs.Common.{false, cond, ◌||◌, Option, Some, None, true≢false, refl, length, drop, ap, ap₂, ◌∙◌, sym}
use Rattle.std.proofs.Common.{arith, append_assoc, append-nil, length-append, add-one, le-leb, get_or-drop}
use Rattle.std.specs.Prelude.{bit_or, nat_le, option_to_list, option_map, if◌then◌else◌}
use Rattle.std.specs.Int.{bit_at}
use Rattle.std.proofs.lemmas.Bool.{cases_eq, cases_lt, lt-leb}
use Rattle.std.proofs.lemmas.Nat.Bits.{bit_at-zero}
use Rattle.aes3_level.specs.declared.level.Level.{Level}
use Rattle.aes3_level.specs.declared.level.Level.TheVariants.{Low}
use Rattle.aes3_level.specs.Cells.{other}
use Rattle.aes3_level.specs.Words.{low_cells, level_of, word_cells, word_len}
use Rattle.aes3_level.proofs.WordCells.{length-low_cells}
use Rattle.aes3_slot.specs.Preambles.{entry, begins_with, begins_with_any, with_seven}
use Rattle.aes3_slot.specs.Rules.{at}
use Rattle.aes3_slot.specs.declared.mark.Mark.TheVariants.{X, Y, Z}
use Rattle.aes3_slot.proofs.Windows.{says-or, seven-below}
use Rattle.aes3_slot.specs.declared.mark.Mark.{Mark}
use Rattle.aes3_slot.proofs.ReadSubframes.{length-word}
use Rattle.aes3_lock.specs.Preambles.{first_mark, placed, marks}
use Rattle.aes3_lock.specs.Steps.{last_eight, ended_mark}
use Rattle.aes3_lock.specs.MarkBits.{mark_of_bit, marks_of_bits, marks_left, MarksLeft}
use Rattle.aes3_lock.proofs.SubframeWords.{take-word}
use Rattle.aes3_lock.proofs.QuietWords.{window, with-last}
use Rattle.aes3_lock.proofs.QuietScans.{first-none}
use Rattle.aes3_lock.proofs.Scanning.{first_mark-append, ended-short, ended-long, marks-last}

-- no bit is left
no-bits : (p : ℕ) (c : List Level) (m i n : ℕ) → m ≡ 0 → marks_of_bits p c m i n ≡ []
no-bits p c m i zero e = refl
no-bits p c m i (suc n) e =
    ap₂ (λ b r. (if b == 1 then option_to_list (option_map (placed (p + i - 7)) (first_mark (drop i c))) else []) ++ r)
    (ap (λ x. bit_at x i) e ∙ bit_at-zero i) (no-bits p c m (suc i) n e)

pub none-left : (p : ℕ) (c : List Level) (m : ℕ) → m ≡ 0 → marks_left p c m ≡ []
unfolding marks_left
none-left p c m e = no-bits p c m 0 64 e

-- numbers with the same bits
same-bits : (p : ℕ) (c : List Level) (m m' i n : ℕ) → ((j : ℕ) → i ≤ j → j < i + n → bit_at m j ≡ bit_at m' j)
    → marks_of_bits p c m i n ≡ marks_of_bits p c m' i n
same-bits p c m m' i zero h = refl
same-bits p c m m' i (suc n) h =
    ap₂ (λ b r. (if b == 1 then option_to_list (option_map (placed (p + i - 7)) (first_mark (drop i c))) else []) ++ r)
    (h i (omega arith) (omega arith)) (same-bits p c m m' (suc i) n (λ j a b. h j (omega arith) (omega arith)))

-- the lowest bit t is taken away
module _ (p : ℕ) (c : List Level) (m m' t : ℕ) (low : (j : ℕ) → j < t → bit_at m j ≡ 0) (here : bit_at m t ≡ 1)
    (gone : bit_at m' t ≡ 0)
    (others : (j : ℕ) → j < 64 → (j ≡ t → ⊥) → bit_at m' j ≡ bit_at m j) where
  abbrev first : ℕ → List (ℕ × Mark × Level)
  first i = option_to_list (option_map (placed (p + i - 7)) (first_mark (drop i c)))

  from-first : (i n : ℕ) → i ≤ t → t < i + n → i + n ≤ 64
      → marks_of_bits p c m i n ≡ first t ++ marks_of_bits p c m' i n
  from-first i zero a b d = absurd (omega (arith, a, b))
  from-first i (suc n) a b d = go (λ x. from-first (suc i) n x (omega (arith, b)) (omega (arith, d))) (cases_eq i t)
    where
      go : (suc i ≤ t → marks_of_bits p c m (suc i) n ≡ first t ++ marks_of_bits p c m' (suc i) n)
          → (i ≡ t) ⊎ (i ≡ t → ⊥) → marks_of_bits p c m i (suc n) ≡ first t ++ marks_of_bits p c m' i (suc n)
      go ih (inl e) =
          ap₂ (λ b r. (if b == 1 then first i else []) ++ r) (ap (bit_at m) e ∙ here)
          (same-bits p c m m' (suc i) n (λ j x y. sym (others j (omega (arith, y, d)) (λ q. omega (arith, q, e, x)))))
          ∙ ap (λ k. first k ++ marks_of_bits p c m' (suc i) n) e
          ∙ ap (λ b. first t ++ ((if b == 1 then first i else []) ++ marks_of_bits p c m' (suc i) n))
          (sym (ap (bit_at m') e ∙ gone))
      go ih (inr e) =
          let z : bit_at m i ≡ 0 = low i (omega (arith, a, e)) in
          ap (λ b. (if b == 1 then first i else []) ++ marks_of_bits p c m (suc i) n) z
          ∙ ih (omega (arith, a, e))
          ∙ ap (λ b. first t ++ ((if b == 1 then first i else []) ++ marks_of_bits p c m' (suc i) n))
          (sym (others i (omega (arith, d)) e ∙ z))

  pub first-left : t < 64 → marks_left p c m ≡ first t ++ marks_left p c m'
  unfolding marks_left
  first-left h = from-first 0 64 (omega arith) (omega (arith, h)) (omega arith)

-- where a preamble begins that is told, and not before cell 0
both-true : (n b : Bool) → ◌≡◌ {A = ℕ} (if n then (if b then 1 else 0) else 0) 1 → (n ≡ true) × (b ≡ true)
both-true true true e = (refl, refl)
both-true true false e = absurd (omega arith)
both-true false b e = absurd (omega arith)

pub any-bit : (c : List Level) (x y z k : ℕ) → bit_at x k ≡ (if begins_with X (drop k c) then 1 else 0)
    → bit_at y k ≡ (if begins_with Y (drop k c) then 1 else 0)
    → bit_at z k ≡ (if begins_with Z (drop k c) then 1 else 0)
    → bit_at (bit_or x (bit_or y z)) k ≡ (if begins_with_any (drop k c) then 1 else 0)
unfolding begins_with_any
any-bit c x y z k e f g = (says-or (record { is = e }) (says-or (record { is = f }) (record { is = g }))).is

pub are-left : (p m x y : ℕ) (c : List Level)
    → ((i : ℕ) → i < 64 → bit_at m i ≡ (if nat_le 7 (p + i) then (if begins_with_any (drop i c) then 1 else 0) else 0))
    → ((k : ℕ) → k < 64 → bit_at x k ≡ (if begins_with X (drop k c) then 1 else 0))
    → ((k : ℕ) → k < 64 → bit_at y k ≡ (if begins_with Y (drop k c) then 1 else 0))
    → MarksLeft p m x y c
are-left p m x y c bits ex ey = record {
  begun = λ k h e. (both-true (nat_le 7 (p + k)) (begins_with_any (drop k c)) (sym (bits k h) ∙ e)).1;
  behind = λ k h e. far k (both-true (nat_le 7 (p + k)) (begins_with_any (drop k c)) (sym (bits k h) ∙ e)).0
      (cases_lt (p + k) 7);
  x_is = ex;
  y_is = ey;
}
  where
    far : (k : ℕ) → nat_le 7 (p + k) ≡ true → (p + k < 7) ⊎ (7 ≤ p + k) → 7 ≤ p + k
    far k e (inl g) = absurd (true≢false (sym e ∙ lt-leb 7 (p + k) g))
    far k e (inr g) = g

-- the preamble that begins with a cell, by which of them are X and Y
pub first-is : (cells next m x y p k : ℕ) → k < 64 → bit_at m k ≡ 1 → MarksLeft p m x y (with_seven cells next)
    → first_mark (drop k (with_seven cells next)) ≡ Some
    ((if bit_at x k == 1 then X else (if bit_at y k == 1 then Y else Z)), other (level_of (bit_at cells k)))
unfolding first_mark begins_with_any
first-is cells next m x y p k h e l =
    go (begins_with X d) (begins_with Y d) (begins_with Z d) (entry d) (l.begun k h e)
    ∙ ap₂ (λ i j. Some ((if i == 1 then X else (if j == 1 then Y else Z)), entry d)) (sym (l.x_is k h))
    (sym (l.y_is k h))
    ∙ ap (λ v. Some ((if bit_at x k == 1 then X else (if bit_at y k == 1 then Y else Z)), other v)) first
  where
    d : List Level
    d = drop k (with_seven cells next)

    first : at (drop k (with_seven cells next)) 0 ≡ level_of (bit_at cells k)
    first = get_or-drop k (with_seven cells next) 0 Low
        ∙ ap (at (with_seven cells next)) (let q : k + 0 ≡ k = omega arith in q) ∙ seven-below cells next k h

    go : (a b c : Bool) (v : Level) → (a || (b || c)) ≡ true
        → cond {A = Option (Mark × Level)} a (Some (X, v)) (cond b (Some (Y, v)) (cond c (Some (Z, v)) None))
        ≡ Some ((if (if a then 1 else 0) == 1 then X else (if (if b then 1 else 0) == 1 then Y else Z)), v)
    go true b c v q = refl
    go false true c v q = refl
    go false false true v q = refl
    go false false false v q = absurd (true≢false (sym q))

-- the places where preambles begin in the seven cells before a word and its own
module _ (c b : List Level) (m w : ℕ) (is : b ≡ drop 1 (last_eight c) ++ word_cells w)
    (found : (i : ℕ) → i < 64
    → bit_at m i ≡ (if nat_le 7 (length c + i) then (if begins_with_any (drop i b) then 1 else 0) else 0)) where
  abbrev so_far : ℕ → List Level
  so_far i = c ++ low_cells i w

  same-first : (i : ℕ) → i < 64 → first_mark (last_eight (so_far (suc i))) ≡ first_mark (drop i b)
  same-first i h =
      let l = length-word w in
      sym (ap (λ x. first_mark (drop i x)) is
      ∙ window first_mark first_mark-append c (word_cells w) i (omega (arith, l, h))
      ∙ ap (λ x. first_mark (last_eight (c ++ x))) (take-word (suc i) w (omega arith)))

  long : (i : ℕ) → length (so_far (suc i)) ≡ length c + suc i
  long i = length-append c (low_cells (suc i) w) ∙ ap (λ n. length c + n) (length-low_cells (suc i) w)

  told : (i : ℕ) → i < 64
      → option_to_list (ended_mark (length (so_far (suc i))) (last_eight (so_far (suc i)))) ≡ mark_of_bit
      (length c) b m i
  told i h = go (cases_lt (length c + i) 7)
    where
      n : length (so_far (suc i)) ≡ length c + suc i
      n = long i

      first : List (ℕ × Mark × Level)
      first = option_to_list (option_map (placed (length c + i - 7)) (first_mark (drop i b)))

      some : (p : Bool) → begins_with_any (drop i b) ≡ p → 7 ≤ length c + i → first ≡ mark_of_bit (length c) b m i
      some true e g =
          sym (ap (λ k. if k == 1 then first else [])
          (found i h ∙ ap₂ (λ x y. if x then (if y then 1 else 0) else 0) (le-leb 7 (length c + i) g) e))
      some false e g =
          ap (λ o. option_to_list (option_map (placed (length c + i - 7)) o)) (first-none (drop i b) e)
          ∙ sym (ap (λ k. if k == 1 then first else [])
          (found i h ∙ ap₂ (λ x y. if x then (if y then 1 else 0) else 0) (le-leb 7 (length c + i) g) e))

      go : (length c + i < 7) ⊎ (7 ≤ length c + i)
          → option_to_list (ended_mark (length (so_far (suc i))) (last_eight (so_far (suc i)))) ≡ mark_of_bit
          (length c) b m i
      go (inl g) =
          ap option_to_list (ended-short (length (so_far (suc i))) (last_eight (so_far (suc i))) (omega (arith, n, g)))
          ∙ sym (ap (λ k. if k == 1 then first else [])
          (found i h ∙ ap (λ x. if x then (if begins_with_any (drop i b) then 1 else 0) else 0)
          (lt-leb 7 (length c + i) g)))
      go (inr g) =
          ap option_to_list (ended-long (length (so_far (suc i))) (last_eight (so_far (suc i))) (omega (arith, n, g)))
          ∙ ap₂ (λ k o. option_to_list (option_map (placed k) o))
          (let q : length (so_far (suc i)) - 8 ≡ length c + i - 7 = omega (arith, n) in q) (same-first i h)
          ∙ some (begins_with_any (drop i b)) refl g

  one-more : (i : ℕ) → i < 64 → marks (so_far (suc i)) ≡ marks (so_far i) ++ mark_of_bit (length c) b m i
  one-more i h =
      let e = with-last c i w ∙ ap so_far (add-one i) in
      ap marks (sym e) ∙ marks-last (so_far i) (level_of (bit_at w i))
      ∙ ap (λ z. marks (so_far i) ++ option_to_list (ended_mark (length z) (last_eight z))) e
      ∙ ap (λ z. marks (so_far i) ++ z) (told i h)

  from : (n i : ℕ) → i + n ≡ 64 → marks (so_far 64) ≡ marks (so_far i) ++ marks_of_bits (length c) b m i n
  from zero i e = ap (λ k. marks (so_far k)) (let q : 64 ≡ i = omega (arith, e) in q)
      ∙ sym (append-nil (marks (so_far i)))
  from (suc n) i e =
      from n (suc i) (omega (arith, e))
      ∙ ap (λ z. z ++ marks_of_bits (length c) b m (suc i) n) (one-more i (omega (arith, e)))
      ∙ append_assoc (marks (so_far i)) (mark_of_bit (length c) b m i) (marks_of_bits (length c) b m (suc i) n)

  pub all-found : marks (c ++ word_cells w) ≡ marks c ++ marks_left (length c) b m
  unfolding word_cells word_len marks_left
  all-found = from 64 0 refl ∙ ap (λ z. marks z ++ marks_of_bits (length c) b m 0 64) (append-nil c)
