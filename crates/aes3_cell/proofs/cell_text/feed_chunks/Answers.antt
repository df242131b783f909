use Rattle.std.proofs.Common.{◌-◌, ◌∙◌, length, take, drop, arith, rules, refl, sym, ap, length-drop}
use Rattle.std.proofs.lemmas.List.{length-set, take_rest}
use Rattle.aes3_level.specs.Words.{low_cells}
use Rattle.aes3_cell.proofs.Chunks.{words-joined, one-or-none}
use Rattle.aes3_cell.proofs.TextReads.{read-none, read-is, read-front}
use Rattle.aes3_cell.proofs.cell_text.feed_chunks.Goals as goal

pub loop-count-init : goal.loop-count-init
loop-count-init c =
    record {
      within = omega arith;
      few = omega arith;
      len = c.told-words;
      short = omega arith;
      none = λ e. refl;
      read = read-is refl (sym (ap (λ n. low_cells n c.no_cells-rest.result.word) c.no_cells-rest.ensures))
          (read-none c.args.text.now);
    }

pub loop-count-preserved : goal.loop-count-preserved
loop-count-preserved c =
    let xs = c.args.piece.now in
    let at = c.loop-count.bytes in
    let v = c.loop-count.invariant in
    let q = c.in-Some.ensures in
    let d = length-drop at xs in
    let r = c.loop-count.rest in
    let j = c.join-more.result in
    let i = c.loop-count.count in
    record {
      within = (let a = q.bound in let o = v.within in omega arith);
      few = (let o = one-or-none c.from-count.result j.full c.from-count.ensures in let t = c.loop-count-test.true in
          omega arith);
      len = length-set c.loop-count.words i j.word ∙ v.len;
      short = c.join-more.ensures.few;
      none = λ e. absurd (omega arith);
      read = read-is refl
          (words-joined c.loop-count.words i c.from-count.result j.word j.full (low_cells r.len r.word)
          (low_cells c.in-Some.cells.len c.in-Some.cells.word) (low_cells j.rest.len j.rest.word)
          (let e = v.len in omega arith) c.from-count.ensures c.join-more.ensures.cells)
          (read-front xs (take (length xs - at) (drop at xs)) at 64 (take_rest xs at) v.read q.read);
    }

pub returns-in-None-clause-read : goal.returns-in-None-clause-read
returns-in-None-clause-read c = search rules
