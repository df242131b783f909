-- What a lock takes of many cells.
use Rattle.std.specs.Prelude.{ℕ, List, ◌≡◌, ◌≢◌, ◌<◌, ◌≤◌, ◌+◌, ◌-◌, ◌^◌, ◌++◌, None, min, option_map, option_to_list, take}
use Rattle.aes3_level.specs.declared.level.Level.{Level}
use Rattle.aes3_lock.specs.Following.{Follows, HeldBlock, LockState, report_in}
use Rattle.aes3_lock.specs.Reports.{decided}
use Rattle.aes3_c.specs.States.{Coded, block_in, told_of}
use Rattle.aes3_c.specs.declared.report_record.Aes3Report.{Aes3Report}
use Rattle.aes3_c.specs.declared.taking.Took.{Took}

-- Of `len` cells, the first of `line`, a lock took the first, up to one that decides a report and with it, or all where
-- none does; it follows them, and holds the block of that report, if it is of one.
pub record TookFirst (old new : LockState) (line : List Level) (len : ℕ) (took : Took) : Type 0 where
  pub within : took.cells ≤ len
  pub all : took.ending ≡ None → took.cells ≡ len
  pub some : 0 < len → 0 < took.cells
  pub seen : new.seen ≡ old.seen + took.cells
  pub follows : (cells : List Level) → Follows old cells → Follows new (cells ++ take took.cells line)
  pub report : (cells : List Level) → Follows old cells
      → decided (cells ++ take took.cells line)
      ≡ decided cells ++ option_to_list (option_map (report_in new) took.ending)
  pub last : (took.ending ≢ None) → (cells : List Level) → Follows old cells
      → decided (cells ++ take (took.cells - 1) line) ≡ decided cells
  pub held : (cells : List Level) → Follows old cells
      → HeldBlock new.words (cells ++ take took.cells line) took.ending

-- It took the first `len` of these cells, and they decide nothing.
pub record TookQuiet (old new : LockState) (line : List Level) (len : ℕ) : Type 0 where
  pub seen : new.seen ≡ old.seen + len
  pub follows : (cells : List Level) → Follows old cells → Follows new (cells ++ take len line)
  pub none : (cells : List Level) → Follows old cells → decided (cells ++ take len line) ≡ decided cells

-- Of `len` cells, the first of `line`, a lock took the first `taken`, up to one that decides a report and with it, or,
-- where none does, all of them or all that a lock takes. `after` tells that report or none, with the codes of the header,
-- where a whole block is the one that the lock holds; its words are those of `before`.
pub record TookAndReported (old new : LockState) (line : List Level) (len taken : ℕ) (before after : Aes3Report) : Type 0 where
  pub within : taken ≤ len
  pub all : after.kind ≡ 0 → taken ≡ min len (2 ^ 43 - old.seen)
  pub seen : new.seen ≡ old.seen + taken
  pub follows : (cells : List Level) → Follows old cells → Follows new (cells ++ take taken line)
  pub report : (cells : List Level) → Follows old cells
      → decided (cells ++ take taken line) ≡ decided cells ++ option_to_list (told_of (block_in new) after)
  pub last : after.kind ≢ 0 → (cells : List Level) → Follows old cells
      → decided (cells ++ take (taken - 1) line) ≡ decided cells
  pub codes : Coded (told_of (block_in new) after) after
  pub words : after.words ≡ before.words
