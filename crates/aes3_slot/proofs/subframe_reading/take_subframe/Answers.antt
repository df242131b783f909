use Rattle.std.proofs.Common.{Ok, ap, ◌∙◌, sym, true}
use Rattle.std.proofs.lemmas.Bool.{true≢false}
use Rattle.std.proofs.lemmas.Result.{err_from_is_err_and}
use Rattle.aes3_level.specs.Cells.{line}
use Rattle.aes3_level.specs.Words.{word_cells}
use Rattle.aes3_slot.specs.Slots.{slot_runs, payload_bits}
use Rattle.aes3_slot.specs.Fronts.{with_some_parity}
use Rattle.aes3_slot.proofs.Fronts.{front-from-lawful, lawful-from-front}
use Rattle.aes3_slot.proofs.ReadSubframes.{some-owed, wrong-parity-front, wrong-parity-ends}
use Rattle.aes3_slot.proofs.subframe_reading.take_subframe.Goals as goal

-- ---- a right parity bit

pub returns-clause-owed : goal.returns-clause-owed
returns-clause-owed c = λ payload h e.
    let arm = c.in_ok-payload in
    ap Ok (some-owed c.args.before c.args.mark
    (word_cells c.args.cells) arm.payload payload arm.is_right true arm.ensures.range h arm.ensures.ok e).0

-- ---- a wrong one

pub returns-then-not-is_right-clause-owed : goal.returns-then-not-is_right-clause-owed
returns-then-not-is_right-clause-owed c = λ payload h e.
    let arm = c.in_ok-payload in
    let same = some-owed c.args.before c.args.mark
    (word_cells c.args.cells) arm.payload payload arm.is_right true arm.ensures.range h arm.ensures.ok e in
    absurd (true≢false (sym same.1 ∙ c.if-not-is_right.true))

pub returns-then-not-is_right-clause-front : goal.returns-then-not-is_right-clause-front
returns-then-not-is_right-clause-front c =
    let arm = c.in_ok-payload in
    wrong-parity-front c.args.before c.args.mark c.args.cells arm.payload
    (arm.ensures.ok
    ∙ ap (λ right. line c.args.before
    (slot_runs c.args.mark (with_some_parity right (payload_bits arm.payload)))) c.if-not-is_right.true)

pub returns-then-not-is_right-clause-stops : goal.returns-then-not-is_right-clause-stops
returns-then-not-is_right-clause-stops c =
    let arm = c.in_ok-payload in
    wrong-parity-ends c.args.before c.args.mark c.args.cells arm.payload
    (arm.ensures.ok
    ∙ ap (λ right. line c.args.before
    (slot_runs c.args.mark (with_some_parity right (payload_bits arm.payload)))) c.if-not-is_right.true)

-- ---- a cell that can't stand

pub returns-in_err-payload-clause-owed : goal.returns-in_err-payload-clause-owed
returns-in_err-payload-clause-owed c = λ payload h e.
    let o = c.take_either.ensures.owed payload true h e in
    let was = c.in_err-payload.was in
    cc

pub returns-in_err-payload-clause-front : goal.returns-in_err-payload-clause-front
returns-in_err-payload-clause-front c =
    let error = err_from_is_err_and c.from_residual.result c.from_residual.ensures.1 in
    rw (error.1, error.2) (lawful-from-front c.args.before c.args.mark (word_cells c.args.cells) _
    c.in_err-payload.ensures.within c.in_err-payload.ensures.front)

pub returns-in_err-payload-clause-stops : goal.returns-in_err-payload-clause-stops
returns-in_err-payload-clause-stops c =
    let error = err_from_is_err_and c.from_residual.result c.from_residual.ensures.1 in
    rw (error.1, error.2) (λ f. c.in_err-payload.ensures.stops (front-from-lawful _ _ _ f))
