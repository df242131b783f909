use Rattle.std.proofs.Common.{◌≡◌, ◌*◌, ◌%◌, length, take, arith, sym, ap, subst, ◌∙◌}
use Rattle.std.specs.List.{flat_map}
use Rattle.std.proofs.lemmas.List.{length-take-le}
use Rattle.aes3_cell.specs.CellText.{cells_of_text, IsCellText}
use Rattle.aes3_level.specs.Words.{word_cells}
use Rattle.aes3_cell.proofs.CellTexts.{text-read}
use Rattle.aes3_level.proofs.WordCells.{word_len_64}
use Rattle.aes3_level.proofs.CellsIn.{length-words}
use Rattle.aes3_cell.proofs.cell_text.feed_lines.Goals as goal

pub returns-clause-read : goal.returns-clause-read
returns-clause-read c =
    let q = c.feed_lines-count.ensures in
    let n = c.feed_lines-count.result in
    let ws = take n c.feed_lines-count.new.words in
    let k = word_len_64 in
    let l = length-words ws in
    let r = text-read (flat_map word_cells ws)
    (ap (λ v. length (flat_map word_cells ws) % v) k
    ∙ (let e : length (flat_map word_cells ws) % 64 ≡ 0 = omega (arith, l) in e)) in
    let w = q.within in
    record {
      lawful = subst IsCellText (sym q.lines) r.0;
      cells = ap cells_of_text q.lines ∙ r.1;
      seen = let s = q.seen in let m = length-take-le (65 * n) c.args.piece.now (omega (arith, w)) in omega
          (arith, s, m);
    }

pub returns-then-count-eq0-clause-read : goal.returns-then-count-eq0-clause-read
returns-then-count-eq0-clause-read c =
    let r = c.feed_any_lines.ensures.read in
    record {
      lawful = r.lawful;
      cells = r.cells;
      seen = let s = r.seen in let t = c.feed_lines-count.ensures.seen in let z = c.if-count-eq0.true in omega
          (arith, s, t, z);
    }
