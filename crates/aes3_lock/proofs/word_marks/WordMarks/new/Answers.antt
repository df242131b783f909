use Rattle.std.proofs.Common.{◌≡◌, ℕ, ◌+◌, ◌<◌, ◌++◌, ap, ◌∙◌, sym, drop}
use Rattle.std.specs.Prelude.{nat_le, if◌then◌else◌}
use Rattle.std.specs.Int.{bit_at}
use Rattle.aes3_slot.specs.Preambles.{begins_with_any, with_seven}
use Rattle.aes3_lock.specs.Preambles.{marks}
use Rattle.aes3_lock.specs.MarkBits.{marks_left}
use Rattle.aes3_lock.proofs.MarkBits.{any-bit, are-left, all-found}
use Rattle.aes3_lock.proofs.word_marks.WordMarks.new.Goals as goal

bits : (c : goal.After-behind_start-left) (i : ℕ) → i < 64
    → bit_at c.behind_start-left.result i ≡ (if nat_le 7 (c.args.seen + i) then
    (if begins_with_any (drop i (with_seven c.args.cells c.args.next)) then 1 else 0) else 0)
bits c i h =
    let p = c.mark_places-places in
    c.behind_start-left.ensures i h
    ∙ ap (λ v. if nat_le 7 (c.args.seen + i) then v else 0)
    (any-bit (with_seven c.args.cells c.args.next) p.result.x p.result.y p.result.z i (p.ensures.x i h)
    (p.ensures.y i h) (p.ensures.z i h))

pub invariant_of-result : goal.invariant_of-result
invariant_of-result c =
    let p = c.mark_places-places in (
      c.requires,
      are-left c.args.seen c.behind_start-left.result p.result.x p.result.y
          (with_seven c.args.cells c.args.next) (bits c) p.ensures.x p.ensures.y,
    )

pub returns : goal.returns
returns c = λ l w e is.
    let b = with_seven c.args.cells c.args.next in
    let m = c.behind_start-left.result in
    all-found l b m w is
    (λ i h. bits c i h ∙ ap (λ p. if nat_le 7 (p + i) then (if begins_with_any (drop i b) then 1 else 0) else 0) e)
    ∙ ap (λ p. marks l ++ marks_left p b m) (sym e)
