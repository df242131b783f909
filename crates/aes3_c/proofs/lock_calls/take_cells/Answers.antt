use Rattle.std.proofs.Common.{drop, subst, sym}
use Rattle.std.specs.List.{flat_map}
use Rattle.aes3_level.specs.Words.{word_cells}
use Rattle.aes3_lock.specs.Following.{LockState}
use Rattle.aes3_c.specs.Taking.{TookFirst}
use Rattle.aes3_c.specs.States.{state_of}
use Rattle.aes3_c.proofs.lock_calls.take_cells.Goals as goal

pub returns : goal.returns
returns c =
    let line = drop c.args.first (flat_map word_cells c.args.words.now) in
    let taken = c.take_first-taken.result in
    subst (λ (k : LockState). TookFirst k (state_of c.keep.new.kept) line c.args.len taken)
    c.lock_of-state.ensures
    (subst (λ (k : LockState). TookFirst c.lock_of-state.result k line c.args.len taken)
    (sym c.keep.ensures) c.take_first-taken.ensures)
