use Rattle.std.proofs.Common.{◌≡◌, ◌*◌, ◌++◌, length, take, arith, sym, ap, ◌∙◌, append-nil}
use Rattle.std.specs.List.{flat_map}
use Rattle.std.proofs.lemmas.List.{length-take-le}
use Rattle.std.proofs.lemmas.Slice.{take-put_mid}
use Rattle.aes3_cell.specs.Packed.{whole_cells}
use Rattle.aes3_cell.specs.PackedReading.{packed_reader_of}
use Rattle.aes3_cell.specs.PackedFeeding.{octets_fed, cells_fed}
use Rattle.aes3_level.specs.Words.{word_cells}
use Rattle.aes3_cell.proofs.PackedFeeding.{reader-fed, whole-fed}
use Rattle.aes3_input.proofs.packed_input.feed_words.Goals as goal

pub returns-then-seen-lt2-clause-next : goal.returns-then-seen-lt2-clause-next
returns-then-seen-lt2-clause-next c = λ b e. e ∙ ap packed_reader_of (sym (append-nil b))

pub returns-then-seen-lt2-clause-cells : goal.returns-then-seen-lt2-clause-cells
returns-then-seen-lt2-clause-cells c = λ b e. ap whole_cells (append-nil b) ∙ sym (append-nil (whole_cells b))

pub returns-clause-next : goal.returns-clause-next
returns-clause-next c = λ b e.
    let piece = c.args.piece.now in
    let n = 8 * c.min-count.result in
    c.feed_words.ensures.next ∙ ap (λ r. octets_fed r (take n piece)) e ∙ reader-fed b (take n piece)

pub returns-clause-cells : goal.returns-clause-cells
returns-clause-cells c = λ b e.
    let piece = c.args.piece.now in
    let words = c.args.words.now in
    let n = c.min-count.result in
    let ys = c.feed_words.new.words in
    let m = c.min-count.ensures in
    let t = c.told-words in
    let len : length ys ≡ n = c.feed_words.ensures.len ∙ length-take-le n words (omega (arith, m, t)) in
    whole-fed b (take (8 * n) piece)
    ∙ ap (λ z. whole_cells b ++ z) (ap (λ r. cells_fed r (take (8 * n) piece)) (sym e) ∙ sym c.feed_words.ensures.cells
    ∙ ap (flat_map word_cells) (sym (take-put_mid 0 _ words ys n (omega (arith, len)) (omega arith))))
