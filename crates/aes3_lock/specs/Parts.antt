-- What a lock keeps, as its state.
use Rattle.aes3_level.specs.Words.{low_cells}
use Rattle.aes3_lock.specs.declared.parts.LockParts.{LockParts}
use Rattle.aes3_lock.specs.Following.{LockState}

abbrev pub parts_state : LockParts → LockState
parts_state p = record {
  seen = p.seen;
  recent = low_cells 8 p.recent;
  candidate = p.candidate;
  subframe = p.subframe;
  words = p.words.now;
}
