use Rattle.std.proofs.Common.{[], ◌∷◌, ap, arith}
use Rattle.std.proofs.KnownBytes.{Keeps-trans}
use Rattle.aes3_cell.proofs.Retries.{met-is, met-more, retried-each, retried-failed, retried-ok}
use Rattle.aes3_cell.proofs.attempts.read_again.Goals as goal

pub loop-interrupted-preserved : goal.loop-interrupted-preserved
loop-interrupted-preserved g c =
    let v = c.loop-interrupted.invariant in
    let q = c.in-Err-Interrupted.ensures in
    record {
      within = (let l = c.loop-interrupted-test.true in omega arith);
      keeps = Keeps-trans _ _ _ v.keeps q.bytes;
      met = met-more c.loop-interrupted.interrupted v.met
          (met-is (ap (λ t. t ∷ []) c.in-Err-Interrupted.field-0-is) q.met);
    }

pub returns-in-Ok-clause-met : goal.returns-in-Ok-clause-met
returns-in-Ok-clause-met g c =
    let v = c.loop-interrupted.invariant in
    retried-ok c.loop-interrupted.interrupted v.within v.met c.in-Ok.ensures.met

pub returns-in-Err-Failed-clause-met : goal.returns-in-Err-Failed-clause-met
returns-in-Err-Failed-clause-met g c = retried-failed c.loop-interrupted.interrupted c.loop-interrupted-test.true
    c.in-Err-Failed.field-0-is c.loop-interrupted.invariant.met c.in-Err-Failed.ensures.met

pub returns-clause-met : goal.returns-clause-met
returns-clause-met g c =
    let v = c.loop-interrupted.invariant in
    let k = c.loop-interrupted-test.false in
    retried-each c.loop-interrupted.interrupted v.within (omega arith) v.met
