use Rattle.std.proofs.Common.{◌∙◌, arith, inr, sym}
use Rattle.aes3_capture_places.proofs.Marking.{mark-made, waits-less}
use Rattle.aes3_capture_places.proofs.places.Places.mark.Goals as goal

pub returns-clause-mark : goal.returns-clause-mark
returns-clause-mark c = λ known levels room placed.
    let now = c.args.self.now in
    let octets = now.count.given.octets in
    let r = placed.recovered in
    let few = c.if-octets-ge-MOST.false in
    let counted = c.octets.ensures in
    let counted_now = c.octets-2.ensures in
    let from = c.from.ensures in
    let waiting_now = c.cells_waiting.ensures in
    let seen = r.samples in
    let some = c.if-samples-eq0.false in
    let told = c.figures-samples.ensures.samples in
    let waits = c.samples_waiting.ensures in
    let less = waits-less known levels octets now.recovery r in
    let rest = c.saturating_sub.ensures in
    inr (mark-made known levels octets now.recovery _ _ r (sym c.is_found.ensures ∙ c.if-not-is_found.false)
    (omega (arith, room, seen, some, told))
    (omega (arith, few, counted, counted_now, from, waiting_now))
    (omega (arith, room, seen, told, waits, less, rest)))
