use Rattle.std.proofs.Common.{◌≡◌, ◌*◌, ◌<◌, ◌++◌, [], List, length, drop, sym, ap, ap₂, ◌∙◌, arith}
use Rattle.std.specs.List.{flat_map}
use Rattle.std.proofs.lemmas.Bool.{eqb-false}
use Rattle.std.proofs.lemmas.List.{nil_from_length, take-append-drop}
use Rattle.aes3_level.specs.declared.level.Level.{Level}
use Rattle.aes3_level.specs.Remaining.{all_of}
use Rattle.aes3_level.specs.Words.{word_cells}
use Rattle.aes3_level.proofs.CellsIn.{length-words}
use Rattle.aes3_input.specs.Running.{movement_of}
use Rattle.aes3_input.proofs.Handing.{some-ran}
use Rattle.aes3_text_reports.specs.Scanning.{mark_state}
use Rattle.aes3_text_reports.proofs.scanning.MarkLinesTaker.take.Goals as goal

-- the whole words
pub returns-then-not-is_empty : goal.returns-then-not-is_empty
returns-then-not-is_empty g c =
    let own = c.args.self.now in
    let new = c.take_words.new.self in
    let here = c.args.cells.now.here in
    let next = c.args.cells.now.next in
    let ws = c.words-words.result.now in
    let front = flat_map word_cells ws in
    let n = length ws in
    let none : here ≡ [] = nil_from_length here (let h = c.here.ensures.len in let z = c.if-here-eq0.true in omega (arith, h, z)) in
    let some : 0 < length front = let l = length-words ws in
    let e = eqb-false n 0 (sym c.is_empty.ensures ∙ c.if-not-is_empty.true) in omega (arith, l, e) in
    record {
      ran = some-ran (mark_state own.lines own.scan own.marks) (mark_state new.lines new.scan new.marks)
          (all_of c.args.cells.now) front (all_of c.skip_words.new.self)
          (movement_of g.T.Sink.taken g.T.Sink.failed c.args.sink.now c.take_words.new.sink) c.take_words.result
          (ap (λ (d : List Level). d ++ next) none ∙ sym (take-append-drop (64 * n) next)
          ∙ ap₂ ◌++◌ (sym c.words-words.ensures.cells)
          (ap (λ (d : List Level). d ++ drop (64 * n) next) (sym none)
          ∙ sym (ap₂ ◌++◌ c.skip_words.ensures.here c.skip_words.ensures.next)))
          some c.take_words.ensures.ran;
    }
