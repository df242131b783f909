use Rattle.std.proofs.Common.{length, drop, ◌∙◌, ◌≡◌, ◌+◌, arith}
use Rattle.std.specs.List.{between}
use Rattle.std.proofs.lemmas.List.{length-drop, take_all}
use Rattle.std.proofs.lemmas.Slice.{take-put_mid}
use Rattle.aes3_capture.specs.Following.{Tracked}
use Rattle.aes3_capture.proofs.Nearness.{take-on, tracked-append, tracked-at}
use Rattle.aes3_capture.proofs.follower.Follower.track.Goals as goal

pub loop-at-preserved : goal.loop-at-preserved
loop-at-preserved c =
    let at = c.loop-at.at in
    let within = c.loop-at-test.true in
    let sames_long = c.leap-leapt.new.leap.sames_long in
    let most : length (drop 1 c.leap-leapt.new.leap.sames) ≡ 16
    = rw (length-drop 1 c.leap-leapt.new.leap.sames) (omega (arith, sames_long)) in
    let found : c.copy_from_slice.new.self ≡ drop 1 c.leap-leapt.new.leap.sames
    = c.copy_from_slice.ensures.after ∙ take_all _ (drop 1 c.leap-leapt.new.leap.sames) (omega (arith, most, sames_long)) in
    let near : Tracked c.loop-at.follower (between at (at + 16) c.args.runs.now) (between at (at + 16) c.args.cells.now)
    (drop 1 c.leap-leapt.new.leap.sames) c.in-Some.next
    = c.in-Some.ensures in
    let last : length c.copy_from_slice.new.self ≡ 16
    = rw found most in (
      within,
      rw (
        take-on c.args.runs.now at (at + 16) (omega arith),
        take-on c.args.cells.now at (at + 16) (omega arith),
        take-put_mid at _ c.loop-at.places c.copy_from_slice.new.self (at + 16) (omega (arith, last)) (omega (arith, within)),
        found,
      ) (tracked-append _ _ _ _ _ _ c.args.self.now c.loop-at.follower c.in-Some.next c.loop-at.invariant.1 near),
    )

pub loop-i-preserved : goal.loop-i-preserved
loop-i-preserved c =
    let within = c.loop-i-test.true in
    let count = c.min-count.ensures in
    tracked-at c.args.runs.now c.args.cells.now c.loop-i.places c.args.self.now c.loop-i.follower c.in-Some-near.next
    c.loop-i.i _ (omega (arith, within, count)) (omega (arith, within, count)) (omega (arith, within, count))
    c.loop-i.invariant c.in-Some-near.ensures (omega arith)
