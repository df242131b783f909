use Rattle.std.proofs.Common.{◌≤◌, ◌+◌, ◌*◌, ◌-◌, ◌≡◌, length, take, drop, ap, ◌∙◌, arith}
use Rattle.std.specs.Prelude.{bit_and, bit_or}
use Rattle.std.specs.Simd.Lanes.{fold_l}
use Rattle.std.proofs.lemmas.Bool.{eqb-true}
use Rattle.std.proofs.lemmas.List.{take-take}
use Rattle.std.proofs.lemmas.Simd.{length-chunk}
use Rattle.aes3_watch.proofs.SignalWords.{carried-same, l-unlike, lanes-long, more-lanes}
use Rattle.aes3_watch.proofs.signals.carry_the_same.Goals as goal

pub loop-i-preserved : goal.loop-i-preserved
loop-i-preserved c =
    let ws = c.args.words.now in
    let lasts = c.args.lasts.now in
    let at = 16 * c.loop-i.i in
    let t = c.last_cells.result in
    let v = take 16 (take (384 - at) (drop at lasts)) in
    let inside : 16 * c.loop-i.i + 16 ≤ length ws = omega arith in
    let within : 16 * c.loop-i.i + 16 ≤ length lasts = omega arith in
    let q : v ≡ take 16 (drop at lasts) = take-take 16 (384 - at) (drop at lasts) (omega arith) in
    let lt = lanes-long at ws t inside c.last_cells.ensures in
    let lv : length v ≡ 16 = ap length q ∙ length-chunk at 16 lasts within in
    let lu = c.loop-i.invariant.lanes in
    record {
      lanes = l-unlike c.loop-i.unlike t v lu lt lv;
      alike = more-lanes c.loop-i.unlike t v lu lt lv c.loop-i.i ws lasts inside within c.last_cells.ensures q
          c.loop-i.invariant.alike;
    }

pub returns : goal.returns
returns c = λ e others q.
    carried-same (16 * c.loop-i.i) c.loop-i.unlike c.args.words.now c.args.lasts.now others (omega arith) (omega arith)
    c.loop-i.invariant.alike
    (eqb-true (bit_and (fold_l bit_or 0 c.loop-i.unlike) 17) 0 e) q
