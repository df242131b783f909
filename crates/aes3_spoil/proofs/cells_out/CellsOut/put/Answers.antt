use Rattle.std.proofs.Common.{◌+◌, ◌-◌, ◌*◌, ◌/◌, ◌%◌, ◌^◌, ◌<◌, refl, sym, ap, ◌∙◌, arith, subst}
use Rattle.std.specs.Prelude.{bit_or}
use Rattle.aes3_level.specs.Words.{low_cells}
use Rattle.aes3_level.proofs.WordCells.{length-low_cells}
use Rattle.aes3_cell.specs.Pending.{begun_cells}
use Rattle.aes3_capture_recovery.proofs.WordBits.{cells-fit, fit-bound, cells-split, split-bound}
use Rattle.aes3_spoil.proofs.WholeWords.{begun-few, begun-word, if-ok, wrote-none, wrote-word}
use Rattle.aes3_spoil.proofs.cells_out.CellsOut.put.Goals as goal

pub invariant_of-self : goal.invariant_of-self
invariant_of-self g c =
    let q = c.args.self.now in
    let room = c.if-all-lt64.true in
    record { few = room; no_more = fit-bound q.word c.args.cells q.len c.args.len room q.no_more c.requires.no_more }

pub returns-then-all-lt64-clause-wrote : goal.returns-then-all-lt64-clause-wrote
returns-then-all-lt64-clause-wrote g c =
    let q = c.args.self.now in
    let k = c.args.len in
    let w = c.args.cells in
    let room = c.if-all-lt64.true in
    let word = bit_or q.word (w * 2 ^ q.len % 2 ^ 64) in
    let l = length-low_cells (q.len + k) word in
    wrote-none q.form (low_cells q.len q.word) (low_cells k w) (low_cells (q.len + k) word) tt (omega (arith, l, room))
    (cells-fit q.word w q.len k (low_cells k w) room q.no_more c.requires.no_more refl)

pub returns-then-all-lt64-clause-held : goal.returns-then-all-lt64-clause-held
returns-then-all-lt64-clause-held g c =
    let q = c.args.self.now in
    let k = c.args.len in
    let w = c.args.cells in
    let room = c.if-all-lt64.true in
    let word = bit_or q.word (w * 2 ^ q.len % 2 ^ 64) in
    let l = length-low_cells (q.len + k) word in
    sym (begun-few (low_cells (q.len + k) word) (omega (arith, l, room)))
    ∙ ap begun_cells (cells-fit q.word w q.len k (low_cells k w) room q.no_more c.requires.no_more refl)

pub invariant_of-self-2 : goal.invariant_of-self-2
invariant_of-self-2 g c =
    let q = c.args.self.now in
    let full = c.if-all-lt64.false in
    let f = c.requires.few in
    let b = q.few in
    let bound : c.rest_of-self.result < 2 ^ (q.len + c.args.len - 64) =
    rw c.rest_of-self.ensures (split-bound c.args.cells q.len c.args.len q.few full c.requires.no_more) in
    record {
      few = omega (arith, f, b);
      no_more = subst (λ n. c.rest_of-self.result < 2 ^ n) (omega (arith, f, b)) bound;
    }

-- the cells held and those that came are a word and the rest
pub returns-clause-wrote : goal.returns-clause-wrote
returns-clause-wrote g c =
    let q = c.args.self.now in
    let k = c.args.len in
    let w = c.args.cells in
    let f = c.requires.few in
    let b = q.few in
    let rest = low_cells (q.len + k - 64) (w / 2 ^ (64 - q.len)) in
    let l = length-low_cells (q.len + k - 64) (w / 2 ^ (64 - q.len)) in
    wrote-word q.form (low_cells q.len q.word) (low_cells k w) rest (bit_or q.word (w * 2 ^ q.len % 2 ^ 64))
    c.put_word.result (omega (arith, l, f, b))
    (cells-split q.word w q.len k (low_cells k w) q.few c.if-all-lt64.false q.no_more refl) c.put_word.ensures

pub returns-clause-held : goal.returns-clause-held
returns-clause-held g c =
    let q = c.args.self.now in
    let k = c.args.len in
    let w = c.args.cells in
    let f = c.requires.few in
    let b = q.few in
    let word = bit_or q.word (w * 2 ^ q.len % 2 ^ 64) in
    let rest = low_cells (q.len + k - 64) (w / 2 ^ (64 - q.len)) in
    let l = length-low_cells (q.len + k - 64) (w / 2 ^ (64 - q.len)) in
    if-ok c.put_word.result
    (ap (λ n. low_cells n c.rest_of-self.result) (omega (arith, f, b))
    ∙ ap (low_cells (q.len + k - 64)) c.rest_of-self.ensures ∙ sym (begun-word word rest (omega (arith, l, f, b)))
    ∙ ap begun_cells (sym (cells-split q.word w q.len k (low_cells k w) q.few c.if-all-lt64.false q.no_more refl)))
