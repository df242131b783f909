use Rattle.std.proofs.Common.{◌++◌, arith, length-append, sym, ◌∙◌}
use Rattle.aes3_c.specs.Owed.{owed_in}
use Rattle.aes3_capture_places.proofs.Marking.{waits-less}
use Rattle.aes3_c.specs.Capturing.{period_of}
use Rattle.aes3_c.proofs.Marked.{mark-of, recovered-of}
use Rattle.aes3_c.proofs.place_calls.aes3_recovery_mark.Goals as goal

pub returns-clause-mark : goal.returns-clause-mark
returns-clause-mark c = λ _ period levels more octets k put room.
    let kept = c.args.recovery.now in
    let now = c.of_parts-now.result in
    let all = octets ++ owed_in kept.owed in
    let r = recovered-of period levels octets kept now k (c.of_parts-now.ensures k.now k.kept_is) in
    let less = waits-less (period_of period) levels all now r in
    let seen = r.samples in
    let told = c.figures-samples.ensures.samples in
    let some = c.if-samples-eq0.false in
    let few = c.if-octets-ge-MOST.false in
    let owed = c.owed_len.ensures in
    let sum = c.saturating_add-octets.ensures in
    let both = length-append octets (owed_in kept.owed) in
    let from = c.from.ensures in
    let cells = c.cells_waiting.ensures in
    let waits = c.samples_waiting.ensures in
    let rest = c.saturating_sub-mark.ensures in
    mark-of period levels more all now _ r (sym c.is_found.ensures ∙ c.if-not-is_found.false)
    (omega (arith, room, seen, some, told))
    (omega (arith, put, few, owed, sum, both, from, cells))
    (omega (arith, room, seen, told, waits, less, rest))
