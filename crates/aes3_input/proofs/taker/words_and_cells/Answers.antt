use Rattle.std.proofs.Common.{◌+◌, ◌*◌, ◌^◌, ◌≤◌, ◌++◌, length, arith, length-append}
use Rattle.std.specs.List.{flat_map}
use Rattle.std.proofs.lemmas.Result.{err_from_is_err_and}
use Rattle.aes3_level.specs.Words.{low_cells, word_cells}
use Rattle.aes3_level.proofs.CellsIn.{length-words}
use Rattle.aes3_input.proofs.Handing.{cells-ran-behind, front-of-more}
use Rattle.aes3_input.proofs.taker.words_and_cells.Goals as goal

pub whole_words-requires-clause-following : goal.whole_words-requires-clause-following
whole_words-requires-clause-following g c =
    let q = c.requires.following in
    let l : length q.0 + 64 * length c.args.words.now + c.args.len ≤ 2 ^ 43 = q.1 in
    (q.0, omega arith, q.2)

pub cells-requires-clause-following : goal.cells-requires-clause-following
cells-requires-clause-following g c =
    let q = c.requires.following in
    let ws = c.args.words.now in
    let l : length q.0 + 64 * length ws + c.args.len ≤ 2 ^ 43 = q.1 in
    let n = length-append q.0 (flat_map word_cells ws) in
    let k = length-words ws in
    (q.0 ++ flat_map word_cells ws, omega arith, c.in_ok-whole_words.ensures.ran.1 q.0 q.2)

pub returns : goal.returns
returns g c =
    let st = g.K.Taker.state in
    let ta = g.T.Sink.taken in
    let fa = g.T.Sink.failed in
    record {
      ran = cells-ran-behind (st c.args.taker.now) (st c.whole_words.new.taker) (st c.cells.new.taker)
          (flat_map word_cells c.args.words.now) (low_cells c.args.len c.args.word) (ta c.args.sink.now)
          (ta c.whole_words.new.sink) (ta c.cells.new.sink)
          (fa c.args.sink.now) (fa c.whole_words.new.sink) (fa c.cells.new.sink)
          c.cells.result c.in_ok-whole_words.ensures.ran c.cells.ensures.ran;
    }

pub returns-in_err-whole_words : goal.returns-in_err-whole_words
returns-in_err-whole_words g c =
    let r = c.in_err-whole_words.ensures.ran in
    let error = err_from_is_err_and c.from_residual.result c.from_residual.ensures.1 in
    record {
      ran = rw error.1 (
        r.0,
        front-of-more (g.K.Taker.state c.args.taker.now).writes (g.K.Taker.state c.args.taker.now).follows
            (g.T.Sink.taken c.args.sink.now) (g.T.Sink.taken c.whole_words.new.sink)
            (flat_map word_cells c.args.words.now) (low_cells c.args.len c.args.word) r.1,
      );
    }
