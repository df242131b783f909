use Rattle.std.proofs.Common.{rules, ◌≡◌, ◌+◌, ◌-◌, ◌*◌, length, take, drop, refl, sym, ap, ap₂, ◌∙◌, ◌++◌, arith}
use Rattle.std.proofs.lemmas.Nat.{row_fits}
use Rattle.std.proofs.lemmas.Slice.{overwrites, take-put_mid}
use Rattle.aes3_wave.specs.Formats.{frame_len}
use Rattle.aes3_wave.specs.Samples.{two_samples}
use Rattle.aes3_wave_runs.specs.Frames.{parts_of}
use Rattle.aes3_wave_runs.proofs.FrameSteps.{eight}
use Rattle.aes3_wave_runs.proofs.Parts.{parts-more}
use Rattle.aes3_wave_runs.proofs.frames.put_each.Goals as goal

pub loop-i-init : goal.loop-i-init
unfolding parts_of
loop-i-init c = record { len = refl; at = omega arith; done = refl }

pub loop-i-preserved : goal.loop-i-preserved
loop-i-preserved c =
    let f = c.args.format in
    let ch = c.args.channels in
    let i = c.loop-i.i in
    let v = c.loop-i.invariant in
    let at = v.at in
    let n = c.frame_len-len.ensures.len in
    let fits = row_fits i (frame_len f) c.args.count (frame_len f) c.loop-i-test.true (omega arith) in
    let frames = c.requires.frames in
    let room = c.requires.room in
    let len = v.len in
    let test = c.loop-i-test.true in
    let after = c.copy_from_slice.ensures.after in
    let one = ap length (after ∙ c.two_samples-pair.ensures) ∙ eight f ch _ in
    let k : c.loop-i.at + c.frame_len-len.result - c.loop-i.at ≡ frame_len f = omega arith in
    record {
      len = search (rules, overwrites);
      at = omega arith;
      done = take-put_mid (8 * i) (8 * i + 8 - 8 * i) c.loop-i.wide c.copy_from_slice.new.self (8 * (i + 1)) (omega arith)
          (omega arith)
          ∙ ap₂ ◌++◌ v.done
          (after ∙ c.two_samples-pair.ensures
          ∙ ap₂ (λ p q. two_samples f ch (take p (drop q c.args.octets.now))) k at)
          ∙ sym (parts-more (two_samples f ch) (frame_len f) i c.args.octets.now (omega arith));
    }
