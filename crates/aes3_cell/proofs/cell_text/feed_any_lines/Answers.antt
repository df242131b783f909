use Rattle.std.proofs.Common.{◌-◌, ◌∙◌, length, take, drop, arith, refl, sym, length-drop}
use Rattle.std.proofs.lemmas.List.{length-set, take_rest}
use Rattle.aes3_level.proofs.WordLists.{words-more}
use Rattle.aes3_cell.proofs.TextReads.{read-none, read-is, read-front}
use Rattle.aes3_cell.proofs.cell_text.feed_any_lines.Goals as goal

pub loop-count-init : goal.loop-count-init
loop-count-init c = record {
  within = omega arith;
  long = omega arith;
  len = c.told-words;
  read
      = read-none c.args.text.now;
}

pub loop-count-preserved : goal.loop-count-preserved
loop-count-preserved c =
    let xs = c.args.piece.now in
    let at = c.loop-count.at in
    let v = c.loop-count.invariant in
    let q = c.in-Some.ensures in
    let d = length-drop at xs in
    record {
      within = (let a = q.within.1 in let o = v.within in omega arith);
      long = (let a = q.within.0 in let o = v.long in omega arith);
      len = length-set c.loop-count.words c.loop-count.count c.in-Some.word ∙ v.len;
      read = read-is refl (sym (words-more c.loop-count.words c.loop-count.count c.in-Some.word
          (let e = v.len in omega arith)))
          (read-front xs (take (length xs - at) (drop at xs)) at c.in-Some.bytes (take_rest xs at) v.read q.read);
    }
