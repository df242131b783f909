use Rattle.std.proofs.Common.{◌∙◌, ◌≡◌, ◌+◌, ◌∷◌, ◌++◌, [], ap, arith, get_or, take, refl}
use Rattle.aes3_capture_recovery.specs.Recovering.{samples_of}
use Rattle.aes3_capture_recovery.proofs.Telling.{samples-append, take-next}
use Rattle.aes3_capture_recovery.proofs.recovery.Recovery.samples_waiting.Goals as goal

pub loop-i-preserved : goal.loop-i-preserved
loop-i-preserved c =
    let r = c.args.self.now in
    let v = c.loop-i.invariant in
    let most = r.few in
    let below = c.loop-i-test.true in
    let run = get_or r.runs c.loop-i.i 0 in
    let next : take (c.loop-i.i + 1) r.runs ≡ take c.loop-i.i r.runs ++ run ∷ []
    = take-next r.runs r.runs c.loop-i.i refl (omega (arith, most, below)) in
    let sum = ap samples_of next ∙ samples-append (take c.loop-i.i r.runs) (run ∷ []) in
    record {
      sum = omega (arith, sum, v.sum);
      few = omega (arith, v.few);
    }

pub returns : goal.returns
returns c =
    let most = c.loop-i.auto.i-end in
    let end : c.loop-i.i ≡ c.args.self.now.count = omega (arith, c.loop-i-test.false, most) in
    let sum = c.loop-i.invariant.sum ∙ ap (λ n. samples_of (take n c.args.self.now.runs)) end in
    omega (arith, sum)
