use Rattle.std.proofs.Common.{◌≡◌, ap, ◌∙◌, sym, arith, w64, ap₂, Ok}
use Rattle.std.proofs.lemmas.Bool.{true≢false}
use Rattle.std.proofs.lemmas.Nat.Bits.{bit_at-trailing_zeros, bit_at-zero}
use Rattle.std.specs.Int.{bit_at}
use Rattle.aes3_level.specs.Cells.{line}
use Rattle.aes3_level.specs.Words.{word_cells}
use Rattle.aes3_slot.specs.Rules.{at}
use Rattle.aes3_slot.specs.Slots.{payload_bits, payload_len, slot_runs}
use Rattle.aes3_slot.specs.Fronts.{stands}
use Rattle.aes3_slot.proofs.WrongCells.{true-from_zero, false-from_one}
use Rattle.aes3_bits.proofs.Bits.{length-low_bits}
use Rattle.aes3_slot.proofs.Parity.{some-level}
use Rattle.aes3_slot.proofs.Fronts.{front-before, front-ends}
use Rattle.aes3_slot.proofs.ReadSubframes.{length-word, word-read, some-stands, some-owed}
use Rattle.aes3_slot.proofs.subframe_reading.take_either.Goals as goal

pub returns-then-wrong-ne0-clause-owed : goal.returns-then-wrong-ne0-clause-owed
returns-then-wrong-ne0-clause-owed c = λ payload right h e.
    let z = bit_at-trailing_zeros w64 c.wrong_cells-wrong.result (omega arith) (omega arith) in
    let wrong = false-from_one (stands c.args.before c.args.mark (word_cells c.args.cells) _)
    (sym (c.wrong_cells-wrong.ensures _ z.0) ∙ z.1) in
    absurd (true≢false (sym (some-stands c.args.before c.args.mark c.args.cells payload right e _ z.0) ∙ wrong))

pub returns-then-wrong-ne0-clause-front : goal.returns-then-wrong-ne0-clause-front
returns-then-wrong-ne0-clause-front c =
    let z = bit_at-trailing_zeros w64 c.wrong_cells-wrong.result (omega arith) (omega arith) in
    let within = z.0 in
    front-before c.args.before c.args.mark (word_cells c.args.cells) _ (length-word c.args.cells) (omega arith)
    (λ i h. true-from_zero (stands c.args.before c.args.mark (word_cells c.args.cells) i)
    (sym (c.wrong_cells-wrong.ensures i (omega arith)) ∙ z.2 i h))

pub returns-then-wrong-ne0-clause-stops : goal.returns-then-wrong-ne0-clause-stops
returns-then-wrong-ne0-clause-stops c =
    let z = bit_at-trailing_zeros w64 c.wrong_cells-wrong.result (omega arith) (omega arith) in
    front-ends c.args.before c.args.mark (word_cells c.args.cells) _ (length-word c.args.cells) z.0
    (false-from_one (stands c.args.before c.args.mark (word_cells c.args.cells) _)
    (sym (c.wrong_cells-wrong.ensures _ z.0) ∙ z.1))

pub returns-clause-ok : goal.returns-clause-ok
returns-clause-ok c =
    word-read c.args.before c.args.mark c.args.cells
    (λ i h. true-from_zero (stands c.args.before c.args.mark (word_cells c.args.cells) i)
    (sym (c.wrong_cells-wrong.ensures i h)
    ∙ ap (λ w. bit_at w i) (let e : c.wrong_cells-wrong.result ≡ 0 = omega arith in e) ∙ bit_at-zero i))
    ∙ ap (λ bits. line c.args.before (slot_runs c.args.mark bits)) (sym c.slot_bits.ensures.bits
    ∙ c.split_parity.ensures.bits)

pub returns-clause-owed : goal.returns-clause-owed
returns-clause-owed c = λ payload right h e.
    let own = returns-clause-ok c in
    let same = some-owed c.args.before c.args.mark
    (word_cells c.args.cells) c.split_parity.result.0 payload c.split_parity.result.1 right
    c.split_parity.ensures.range h own e in
    ap₂ (λ p r. Ok (p, r)) same.0 same.1

pub returns-clause-level : goal.returns-clause-level
returns-clause-level c =
    let p = c.split_parity.result.0 in
    let right = c.split_parity.result.1 in
    ap (λ d. at d 63) (returns-clause-ok c)
    ∙ some-level c.args.before c.args.mark (payload_bits p) right (length-low_bits payload_len p)
