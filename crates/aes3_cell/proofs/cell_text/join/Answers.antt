use Rattle.std.proofs.Common.{arith}
use Rattle.aes3_cell.proofs.Chunks.{cells-behind, behind-lt, word-whole, whole-lt}
use Rattle.aes3_cell.proofs.cell_text.join.Goals as goal

pub invariant_of-rest : goal.invariant_of-rest
invariant_of-rest c =
    let a = c.args.front in
    let b = c.args.back in
    record { few = omega arith; bound = behind-lt a.len a.word b.word a.bound c.requires.few b.len b.bound }

pub returns-then-len-lt-BITS-clause-cells : goal.returns-then-len-lt-BITS-clause-cells
returns-then-len-lt-BITS-clause-cells c =
    let a = c.args.front in
    cells-behind a.len a.word c.args.back.word a.bound c.requires.few c.args.back.len (omega arith)

pub invariant_of-rest-2 : goal.invariant_of-rest-2
invariant_of-rest-2 c =
    let a = c.args.front in
    let b = c.args.back in
    record {
      few = (let f = b.few in let g = c.requires.few in omega arith);
      bound
          = whole-lt a.len a.word b.word a.bound c.requires.few b.len c.if-len-lt-BITS.false b.bound;
    }

pub returns : goal.returns
returns c =
    let a = c.args.front in
    let b = c.args.back in
    record {
      cells = word-whole a.len a.word b.word a.bound c.requires.few b.len c.if-len-lt-BITS.false;
      few = (let f = b.few in let g = c.requires.few in omega arith);
    }
