-- The levels of runs, each of which ends in a turn of all cells behind it.
use Rattle.std.proofs.Common.{◌≡◌, ℕ, zero, suc, ◌+◌, ◌-◌, ◌*◌, ◌/◌, ◌%◌, ◌^◌, ◌<◌, ◌≤◌, List, [], ◌∷◌, ◌++◌, append-nil}
use Rattle.std.proofs.Common.{replicate, refl, sym, ap, ap₂, ◌∙◌, arith}
use Rattle.std.specs.Prelude.{Bool, true, false, if◌then◌else◌, bit_and, bit_xor}
use Rattle.std.proofs.lemmas.Nat.{and_mask, one_shl}
use Rattle.std.specs.Int.{bit_at}
use Rattle.std.proofs.lemmas.Nat.Bits.{bit_at-lt, bit_at-suc, bit_at-zero, bit_at_lowest, bit_at_mask_below, bit_at_mask_inside, bit_at_ones, bit_at_xor, ones_shl}
use Rattle.aes3_level.specs.declared.level.Level.{Level}
use Rattle.aes3_level.specs.Cells.{after, line, other}
use Rattle.aes3_level.specs.Words.{level_of, low_cells}
use Rattle.aes3_level.proofs.Moves.{bit_at-shr}
use Rattle.aes3_level.proofs.Runs.{line-append}
use Rattle.aes3_level.proofs.WordCells.{low_cells-add, low_cells-same}
use Rattle.aes3_capture_recovery.specs.Endings.{level_if}
use Rattle.aes3_capture_recovery.proofs.WordBits.{low_cells-low-bits}
use Rattle.aes3_capture_recovery.proofs.RunsToEnd.{after-more}
use Rattle.aes3_capture_recovery.proofs.SameLevels.{all-level}

-- The lowest bits of a word are the cells of some runs, and each bit behind them is of the level that the next run has.
pub record AreTurned (word len : ℕ) (before : Level) (runs : List ℕ) : Type 0 where
  pub cells : low_cells len word ≡ line before runs
  pub behind : (k : ℕ) → len ≤ k → k < 64 → level_of (bit_at word k) ≡ other (after before runs)

-- the other level
turned-bit : (b : ℕ) → b < 2 → level_of ((b + 1) % 2) ≡ other (level_of b)
turned-bit zero h = refl
turned-bit (suc zero) h = refl
turned-bit (suc (suc b)) h = absurd (omega (arith, h))

-- bits before the turn are as they were
kept : (word n k : ℕ) → k < n → bit_at (bit_xor word (2 ^ 64 - 2 ^ n)) k ≡ bit_at word k
kept word n k h =
    let b = bit_at-lt word k in
    bit_at_xor word (2 ^ 64 - 2 ^ n) k ∙ ap (λ m. (bit_at word k + m) % 2) (bit_at_mask_below n 64 k h)
    ∙ (omega (arith, b))

-- and those behind it are turned
turned-behind : (word n k : ℕ) → n ≤ k → k < 64 → level_of (bit_at (bit_xor word (2 ^ 64 - 2 ^ n)) k) ≡ other (level_of (bit_at word k))
turned-behind word n k from below = ap level_of (bit_at_xor word (2 ^ 64 - 2 ^ n) k
    ∙ ap (λ m. (bit_at word k + m) % 2) (bit_at_mask_inside n 64 k from below))
    ∙ turned-bit (bit_at word k) (bit_at-lt word k)

turned-so : (word len run : ℕ) (before : Level) (runs : List ℕ) → len + run < 64
    → AreTurned word len before runs
    → AreTurned (bit_xor word (2 ^ 64 - 2 ^ (len + run))) (len + run) before (runs ++ run ∷ [])
turned-so word len run before runs room turned = record {
  cells = low_cells-same (len + run) (bit_xor word (2 ^ 64 - 2 ^ (len + run))) word (λ k h. kept word (len + run) k h)
      ∙ low_cells-add len run word
      ∙ ap₂ (λ a b. a ++ b) turned.cells (all-level run (word / 2 ^ len) (other (after before runs))
      (λ k h. ap level_of (bit_at-shr word len k) ∙ turned.behind (len + k) (omega arith) (omega (arith, h, room))))
      ∙ ap (λ x. line before runs ++ x) (sym (append-nil (replicate run (other (after before runs)))))
      ∙ sym (line-append before runs (run ∷ []));
  behind = λ k from below. turned-behind word (len + run) k from below
      ∙ ap other (turned.behind k (omega (arith, from)) below ∙ sym (after-more before runs run));
}

pub turned-more : (word len run next mask : ℕ) (before : Level) (runs more : List ℕ) → more ≡ runs ++ run ∷ [] → next ≡ len + run
    → len + run < 64 → mask ≡ (2 ^ 64 - 1) * 2 ^ next % 2 ^ 64
    → AreTurned word len before runs → AreTurned (bit_xor word mask) next before more
turned-more word len run next mask before runs more is next_is room mask_is turned =
    rw (is, mask_is, next_is, ones_shl 64 (len + run) (omega (arith, room))) (turned-so word len run before runs room turned)

-- no run yet
pub turned-none : (high : Bool) (word : ℕ) (before : Level) → level_if high ≡ other before
    → word ≡ (if high then 2 ^ 64 - 1 else 0) → AreTurned word 0 before []
turned-none true word before level is = record {
  cells = refl;
  behind = λ k from below. ap (λ w. level_of (bit_at w k)) is ∙ ap level_of (bit_at_ones 64 k below) ∙ level;
}
turned-none false word before level is = record {
  cells = refl;
  behind = λ k from below. ap (λ w. level_of (bit_at w k)) is ∙ ap level_of (bit_at-zero k) ∙ level;
}

-- the lowest bits alone
pub cells-alone : (word len : ℕ) → len < 64 → low_cells len (bit_and word (1 * 2 ^ len % 2 ^ 64 - 1)) ≡ low_cells len word
cells-alone word len h = ap (λ m. low_cells len (bit_and word (m - 1))) (one_shl len 64 h)
    ∙ ap (low_cells len) (and_mask word len) ∙ low_cells-low-bits len word
