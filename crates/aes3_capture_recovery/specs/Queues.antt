-- Cells on their way to a sink.
use Rattle.std.specs.Prelude.{ℕ, List, ◌++◌, ◌≡◌, Option, Some, Result, IfOk, OnErr, take}
use Rattle.std.specs.List.{flat_map}
use Rattle.aes3_level.specs.declared.level.Level.{Level}
use Rattle.aes3_cell.specs.declared.form.Form.{Form}
use Rattle.aes3_level.specs.Words.{low_cells, word_cells}
use Rattle.aes3_cell.specs.Written.{bytes_of}
use Rattle.aes3_capture_recovery.specs.Endings.{finished}
use Rattle.aes3_capture_recovery.specs.declared.queue.CellQueue.{CellQueue}

-- the cells that a queue holds back
abbrev pub waiting : CellQueue → List Level
waiting queue = flat_map word_cells (take queue.count queue.words) ++ low_cells queue.len queue.word

-- a sink tells `begun` and then the bytes of whole words of cells; with those that wait they are `all`
pub record Queued (told : Option (List ℕ)) (begun : List ℕ) (form : Form) (waits all : List Level) : Type 0 where
  pub words : List ℕ
  pub tells : told ≡ Some (begun ++ bytes_of form (flat_map word_cells words))
  pub cells : flat_map word_cells words ++ waits ≡ all

-- a sink tells `begun` and then a front of these bytes
pub record ToldFront (told : Option (List ℕ)) (begun bytes : List ℕ) : Type 0 where
  pub part : List ℕ
  pub rest : List ℕ
  pub front : part ++ rest ≡ bytes
  pub tells : told ≡ Some (begun ++ part)

-- a sink tells `begun` and then a front of the bytes of whole words, which all cells begin with
pub record Stopped (told : Option (List ℕ)) (begun : List ℕ) (form : Form) (all : List Level) : Type 0 where
  pub words : List ℕ
  pub more : List Level
  pub cells : flat_map word_cells words ++ more ≡ all
  pub front : ToldFront told begun (bytes_of form (flat_map word_cells words))

-- These cells came behind all others: what a sink tells and what waits are all of them, none lost, in their order.
-- Where the sink failed, it tells a front of the whole words of them.
pub record Puts {A R E : Type 0} (taken : A → Option (List ℕ)) (old new : CellQueue) (before after : A)
    (result : Result R E) (added : List Level) : Type 0 where
  pub form : new.form ≡ old.form
  pub cells : (begun : List ℕ) (all : List Level) → Queued (taken before) begun old.form (waiting old) all
      → IfOk result (λ _. Queued (taken after) begun old.form (waiting new) (all ++ added))
  pub err : (begun : List ℕ) (all : List Level) → Queued (taken before) begun old.form (waiting old) all
      → OnErr result (Stopped (taken after) begun old.form (all ++ added))

-- The end: a sink tells all cells, or a front of them where it failed.
pub record Finishes {A R E : Type 0} (taken : A → Option (List ℕ)) (old : CellQueue) (before after : A)
    (result : Result R E) : Type 0 where
  pub cells : (begun : List ℕ) (all : List Level) → Queued (taken before) begun old.form (waiting old) all
      → IfOk result (λ _. taken after ≡ Some (begun ++ finished old.form all))
  pub err : (begun : List ℕ) (all : List Level) → Queued (taken before) begun old.form (waiting old) all
      → OnErr result (ToldFront (taken after) begun (finished old.form all))

-- a sink tells `begun` and then cells as they are written at the end, which begin with these
pub record Writes (told : Option (List ℕ)) (begun : List ℕ) (form : Form) (cells : List Level) : Type 0 where
  pub more : List Level
  pub tells : told ≡ Some (begun ++ finished form (cells ++ more))
