use Rattle.std.proofs.Common.{◌≡◌, ◌%◌, eqb, ltb, true, false, refl, arith, eq-eqb, ne_eqb, lt-ltb, le-ltb}
use Rattle.aes3_frame.specs.Blocks.{block_len}
use Rattle.aes3_lock.proofs.candidate.reason.Goals as goal
use Rattle.aes3_frame.proofs.CellLaws.{block_len_24576}

pub returns-then-offset-eq-BLOCK_CELLS : goal.returns-then-offset-eq-BLOCK_CELLS
returns-then-offset-eq-BLOCK_CELLS c =
    let b = block_len_24576 in
    let t : eqb c.args.offset block_len ≡ true = eq-eqb _ _ (omega arith) in
    rw t refl

pub returns-then-offset-lt-PREAMBLE_CELLS : goal.returns-then-offset-lt-PREAMBLE_CELLS
returns-then-offset-lt-PREAMBLE_CELLS c =
    let b = block_len_24576 in
    let t : eqb c.args.offset block_len ≡ false = ne_eqb _ _ (λ q. omega arith) in
    let u : ltb (c.args.offset % 64) 8 ≡ true = lt-ltb _ _ (omega arith) in
    rw (t, u) refl

pub returns-else-offset-lt-PREAMBLE_CELLS : goal.returns-else-offset-lt-PREAMBLE_CELLS
returns-else-offset-lt-PREAMBLE_CELLS c =
    let b = block_len_24576 in
    let t : eqb c.args.offset block_len ≡ false = ne_eqb _ _ (λ q. omega arith) in
    let u : ltb (c.args.offset % 64) 8 ≡ false = le-ltb _ _ (omega arith) in
    rw (t, u) refl
