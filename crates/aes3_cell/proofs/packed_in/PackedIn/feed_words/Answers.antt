use Rattle.std.proofs.Common.{◌<◌, ◌≤◌, length, ap, ◌∙◌, arith, rules}
use Rattle.aes3_cell.specs.PackedReading.{PackedReader}
use Rattle.aes3_cell.specs.PackedFeeding.{cells_fed, octets_fed}
use Rattle.aes3_cell.proofs.PackedFeeding.{words-behind, reader-behind_words}
use Rattle.aes3_cell.proofs.packed_in.PackedIn.feed_words.Goals as goal

pub returns-clause-cells : goal.returns-clause-cells
returns-clause-cells c =
    let v = c.self.inside in
    let some : 0 < length c.args.words.now = search rules in
    let seen = ap (λ (r : PackedReader). r.seen) c.self.view_is in
    let begun : 2 ≤ v.seen = let b = c.requires.begun in omega (arith, b, seen) in
    words-behind (record { seen = v.seen; before_last = v.before_last; last = v.last })
    c.args.words.now c.words_of_octets.new.words c.args.octets.now c.word_of_octets.result begun some c.requires.len
    c.word_of_octets.ensures c.words_of_octets.ensures.cells
    ∙ ap (λ r. cells_fed r c.args.octets.now) c.self.view_is

pub returns-clause-next : goal.returns-clause-next
returns-clause-next c =
    let v = c.self.inside in
    let some : 0 < length c.args.words.now = search rules in
    let n = c.requires.len in
    reader-behind_words (record { seen = v.seen; before_last = v.before_last; last = v.last }) c.args.octets.now
    (omega (arith, some, n))
    ∙ ap (λ r. octets_fed r c.args.octets.now) c.self.view_is
