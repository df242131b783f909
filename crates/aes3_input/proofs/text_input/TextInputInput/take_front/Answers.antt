use Rattle.std.proofs.Common.{◌≡◌, ◌+◌, ◌*◌, [], ◌∷◌, ◌++◌, length, take, drop, get_or, arith, refl, ap, ap₂, sym, ◌∙◌}
use Rattle.std.proofs.Common.{length-append}
use Rattle.std.specs.List.{flat_map}
use Rattle.std.proofs.lemmas.List.{length-take-le, take-append-drop}
use Rattle.std.proofs.Math.Seq.{drop-cons}
use Rattle.aes3_refusals.specs.declared.run_error.RunError.TheVariants.{BadCell}
use Rattle.aes3_cell.specs.CellText.{cells_of_text}
use Rattle.aes3_level.specs.Words.{low_cells, word_cells}
use Rattle.aes3_cell.proofs.CellTexts.{length-cells_of_text}
use Rattle.aes3_level.proofs.WordCells.{length-low_cells}
use Rattle.aes3_input.specs.Forms.{text_state}
use Rattle.aes3_input.proofs.TextLemmas.{taken-seen, byte-bad}
use Rattle.aes3_input.proofs.Feeding.{fed-none, ran-join}
use Rattle.aes3_level.proofs.CellsIn.{length-words}
use Rattle.aes3_input.proofs.Fronts.{text-front, text-part}
use Rattle.aes3_input.proofs.text_input.TextInputInput.take_front.Goals as goal

pub take_front-requires-clause-room : goal.take_front-requires-clause-room
take_front-requires-clause-room g c = let h = c.requires.following in let l = h.1 in let e = taken-seen h.2 in omega arith

pub words_and_cells-requires-clause-following : goal.words_and_cells-requires-clause-following
words_and_cells-requires-clause-following g c =
    let h = c.requires.following in
    let l = h.1 in
    let t = c.in-Ok.taken in
    let q = c.in-Ok.ensures.few in
    let n = length-cells_of_text h.0 in
    let r = t.rest.few in
    let m : length (take t.count c.take_front.new.words) ≡ t.count
    = length-take-le t.count c.take_front.new.words (let e = c.in-Ok.ensures.len in omega arith) in
    (cells_of_text h.0, omega arith, h.2.taker)

pub overflow_add-self-in-Ok-words_and_cells : goal.overflow_add-self-in-Ok-words_and_cells
overflow_add-self-in-Ok-words_and_cells g c =
    let h = c.requires.following in
    let l = h.1 in
    let e = h.2.count in
    let k = c.in-Ok.ensures.few in
    let r = c.in-Ok.taken.rest.few in
    let f = c.from.ensures in
    let n = length-cells_of_text h.0 in
    omega arith

pub returns-in-Ok-words_and_cells : goal.returns-in-Ok-words_and_cells
returns-in-Ok-words_and_cells g c =
    let r = c.in-Ok-words_and_cells.ensures.ran in
    let q = c.in-Ok.ensures in
    let t = c.in-Ok.taken in
    let ws = take t.count c.take_front.new.words in
    let d = low_cells t.rest.len t.rest.word in
    let m : length ws ≡ t.count
    = length-take-le t.count c.take_front.new.words (let e = q.len in let f = q.few in omega arith) in
    let n : length (flat_map word_cells ws ++ d) ≡ 64 * t.count + c.from.result =
    length-append (flat_map word_cells ws) d
    ∙ ap₂ ◌+◌ (length-words ws ∙ ap (λ k. 64 * k) m) (length-low_cells t.rest.len t.rest.word ∙ sym c.from.ensures) in (
      q.within.0,
      q.within.1,
      text-front (g.K.Taker.state c.args.taker.now).writes (g.K.Taker.state c.words_and_cells.new.taker).writes
          (g.K.Taker.state c.args.taker.now).follows (g.K.Taker.state c.words_and_cells.new.taker).follows
          c.args.self.now.text c.take_front.new.self c.args.self.now.cells (64 * t.count + c.from.result)
          (take t.bytes c.args.piece.now) (flat_map word_cells ws ++ d)
          (g.T.Sink.taken c.args.sink.now) (g.T.Sink.taken c.words_and_cells.new.sink) q.read n r.0 r.1 r.2,
      r.3,
    )

pub returns-in-Err : goal.returns-in-Err
returns-in-Err g c =
    let xs = c.args.piece.now in
    let k = c.requires.some in
    let taker = g.K.Taker.state c.args.taker.now in
    let start = text_state c.args.self.now.text c.args.self.now.cells taker in
    let t = g.T.Sink.taken c.args.sink.now in
    ran-join start start (text_state c.take_front.new.self c.args.self.now.cells taker) t
    (g.T.Sink.failed c.args.sink.now)
    (get_or xs 0 0 ∷ []) (drop 1 xs) xs (BadCell c.in-Err.fault.at)
    (fed-none start.reads start.follows t) refl
    (sym (drop-cons xs 0 0 (omega arith))) (
      byte-bad taker.writes taker.follows c.args.self.now.text c.args.self.now.cells (get_or xs 0 0) c.in-Err.fault t
          c.in-Err.ensures.fault,
      refl,
    )

pub returns-in-Err-words_and_cells : goal.returns-in-Err-words_and_cells
returns-in-Err-words_and_cells g c =
    let r = c.in-Err-words_and_cells.ensures.ran in
    let q = c.in-Ok.ensures in
    let t = c.in-Ok.taken in
    let xs = c.args.piece.now in (
      r.0,
      text-part (g.K.Taker.state c.args.taker.now).writes (g.K.Taker.state c.args.taker.now).follows
          c.args.self.now.text c.take_front.new.self c.args.self.now.cells
          (take t.bytes xs) (drop t.bytes xs) xs
          (flat_map word_cells (take t.count c.take_front.new.words) ++ low_cells t.rest.len t.rest.word)
          (g.T.Sink.taken c.args.sink.now) (g.T.Sink.taken c.words_and_cells.new.sink) (take-append-drop t.bytes xs)
          q.read r.1,
    )
