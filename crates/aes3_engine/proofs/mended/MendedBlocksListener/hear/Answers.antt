use Rattle.std.proofs.Common.{◌++◌, ap, ap₂, refl, sym, subst, ◌∙◌, append-nil, arith, length-append}
use Rattle.std.proofs.lemmas.Result.{IfOk-weaker}
use Rattle.aes3_cell.proofs.Growing.{grew-is, grew-none}
use Rattle.aes3_cell.proofs.Writing.{wrote-is}
use Rattle.aes3_lock.specs.Following.{HeldBlock, report_in}
use Rattle.aes3_lock.specs.Reports.{decided}
use Rattle.aes3_lock.proofs.Tallies.{few-decided}
use Rattle.aes3_lock_runs.proofs.Listening.{told-none, told-one}
use Rattle.aes3_engine.specs.MendSteps.{IsMendedOf, mend_writing}
use Rattle.aes3_engine.proofs.MendedSteps.{bytes-given, few-marked, mended-later, next-mended, quiet-bytes, told-bytes}
use Rattle.aes3_engine.proofs.mended.MendedBlocksListener.hear.Goals as goal

pub put-requires-clause-few : goal.put-requires-clause-few
put-requires-clause-few g c =
    let q = c.requires.following in
    let s = q.2.follows.seen in
    let l = length-append q.0 q.1 in
    let m = q.3.marked in
    let f = few-marked (decided q.0) in
    let d = few-decided q.0 in
    omega (arith, c.requires.few, s, l, m, f, d)

pub returns-in-Some-clause-unchanged : goal.returns-in-Some-clause-unchanged
returns-in-Some-clause-unchanged g c =
    IfOk-weaker c.put.result _ _ (λ u took. ap₂ mend_writing took.format took.fill) c.put.ensures.took

pub returns-in-Some-clause-next : goal.returns-in-Some-clause-next
returns-in-Some-clause-next g c =
    let k = c.args.self.now in
    let lock = c.args.lock.now in
    IfOk-weaker c.put.result _ _ (λ u took d e h f.
    subst (IsMendedOf c.put.new.self (d ++ e)) (sym (told-one c.in-Some.is h))
    (next-mended k lock (d ++ e) (decided d) c.in-Some.ending (mended-later k d e f)
    (subst (HeldBlock lock.words (d ++ e)) c.in-Some.is h.held) c.put.new.self took)) c.put.ensures.took

pub returns-in-Some-clause-wrote : goal.returns-in-Some-clause-wrote
returns-in-Some-clause-wrote g c =
    let k = c.args.self.now in
    let lock = c.args.lock.now in
    λ d e h f.
    wrote-is (bytes-given k lock (d ++ e) (decided d) c.in-Some.ending (mended-later k d e f)
    (subst (HeldBlock lock.words (d ++ e)) c.in-Some.is h.held)
    ∙ told-bytes k.filled.format k.filled.fill d e (report_in lock c.in-Some.ending)
    (told-one c.in-Some.is h)) c.put.ensures.wrote

pub returns-in-None-clause-next : goal.returns-in-None-clause-next
returns-in-None-clause-next g c =
    let k = c.args.self.now in
    λ d e h f.
    subst (IsMendedOf k (d ++ e)) (sym (told-none c.in-None.is h))
    (mended-later k d e f)

pub returns-in-None-clause-wrote : goal.returns-in-None-clause-wrote
returns-in-None-clause-wrote g c =
    let k = c.args.self.now in
    λ d e h f. record {
      grew = grew-is (sym (quiet-bytes k.filled.format k.filled.fill d e
          (told-none c.in-None.is h))) (grew-none refl);
      no_failure = refl;
      err = tt;
    }
