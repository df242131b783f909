use Rattle.std.proofs.Common.{◌≡◌, ℕ, ◌*◌, ◌≤◌, List, ◌++◌, length, take, drop, arith, sym, ap, ◌∙◌}
use Rattle.std.specs.List.{flat_map}
use Rattle.std.proofs.lemmas.List.{take-append-drop}
use Rattle.aes3_level.specs.declared.level.Level.{Level}
use Rattle.aes3_cell.specs.Packed.{whole_cells}
use Rattle.aes3_level.specs.Words.{cells_in, word_cells}
use Rattle.aes3_level.proofs.CellsIn.{cells-of-words, length-cells_in}
use Rattle.aes3_input.proofs.PackedLemmas.{octets-seen, few-cells}
use Rattle.aes3_input.proofs.Fronts.{octets-front, octets-part}
use Rattle.aes3_input.proofs.packed_input.PackedInputInput.take_front.Goals as goal

pub feed_words-count-requires : goal.feed_words-count-requires
feed_words-count-requires g c = let h = c.requires.following in let l = h.1 in let e = octets-seen h.2 in omega arith

pub take_all-requires-clause-following : goal.take_all-requires-clause-following
take_all-requires-clause-following g c =
    let h = c.requires.following in
    let l = h.1 in
    let q = c.feed_words-count.ensures.few in
    let o = c.feed_words-count.ensures.within in
    let n = few-cells h.0 in
    (whole_cells h.0, omega arith, h.2.taker)

pub overflow_add-self : goal.overflow_add-self
overflow_add-self g c =
    let h = c.requires.following in
    let l = h.1 in
    let e = h.2.count in
    let k = c.feed_words-count.ensures.few in
    let n = few-cells h.0 in
    omega arith

-- the cells that were made whole
made : (ws : List ℕ) (n : ℕ) (c front : List Level) → n ≤ length ws → c ≡ front ++ flat_map word_cells (take n ws)
    → c ≡ front ++ cells_in ws 0 (64 * n)
made ws n c front h e = e ∙ ap (λ d. front ++ d) (sym (cells-of-words ws n h))

pub returns-in-Ok : goal.returns-in-Ok
returns-in-Ok g c =
    let r = c.in-Ok.ensures.ran in
    let q = c.feed_words-count.ensures in
    let n = c.feed_words-count.result in
    let ws = c.feed_words-count.new.words in
    let h : n ≤ length ws = let e = q.len in let f = q.few in omega arith in (
      (let z = c.if-count-eq0.false in omega arith),
      q.within,
      octets-front (g.K.Taker.state c.args.taker.now).writes (g.K.Taker.state c.take_all.new.taker).writes
          (g.K.Taker.state c.args.taker.now).follows (g.K.Taker.state c.take_all.new.taker).follows
          c.args.self.now.packed c.feed_words-count.new.packed c.args.self.now.cells (64 * n)
          (take (8 * n) c.args.piece.now) (cells_in ws 0 (64 * n))
          (g.T.Sink.taken c.args.sink.now) (g.T.Sink.taken c.take_all.new.sink) q.next
          (λ b e. made ws n _ (whole_cells b) h (q.cells b e))
          (length-cells_in ws 0 (64 * n) (omega (arith, h))) r.0 r.1 r.2,
      r.3,
    )

pub returns-in-Err : goal.returns-in-Err
returns-in-Err g c =
    let r = c.in-Err.ensures.ran in
    let q = c.feed_words-count.ensures in
    let n = c.feed_words-count.result in
    let ws = c.feed_words-count.new.words in
    let h : n ≤ length ws = let e = q.len in let f = q.few in omega arith in
    let xs = c.args.piece.now in (
      r.0,
      octets-part (g.K.Taker.state c.args.taker.now).writes (g.K.Taker.state c.args.taker.now).follows
          c.args.self.now.packed c.args.self.now.cells
          (take (8 * n) xs) (drop (8 * n) xs) xs (cells_in ws 0 (64 * n))
          (g.T.Sink.taken c.args.sink.now) (g.T.Sink.taken c.take_all.new.sink) (take-append-drop (8 * n) xs)
          (λ b e. made ws n _ (whole_cells b) h (q.cells b e)) r.1,
    )
