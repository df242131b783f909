use Rattle.std.proofs.Common.{◌++◌, ap, refl, sym, subst, ◌∙◌, append-nil, arith}
use Rattle.std.proofs.lemmas.Result.{IfOk-weaker}
use Rattle.aes3_cell.proofs.Growing.{grew-is, grew-none}
use Rattle.aes3_cell.proofs.Writing.{wrote-is}
use Rattle.aes3_lock.specs.Following.{HeldBlock, report_in}
use Rattle.aes3_lock.specs.Reports.{decided}
use Rattle.aes3_lock.proofs.Tallies.{few-decided}
use Rattle.aes3_lock_runs.proofs.Listening.{end-none, end-one}
use Rattle.aes3_engine.specs.MendSteps.{IsMendedOf}
use Rattle.aes3_engine.proofs.MendedSteps.{bytes-given, end-bytes, few-marked, next-mended, no-end-bytes}
use Rattle.aes3_engine.proofs.mended.MendedBlocksListener.end.Goals as goal

pub put-requires-clause-few : goal.put-requires-clause-few
put-requires-clause-few g c =
    let q = c.requires.following in
    let s = q.1.follows.seen in
    let m = q.2.marked in
    let f = few-marked (decided q.0) in
    let d = few-decided q.0 in
    omega (arith, c.requires.few, s, m, f, d)

pub returns-in-Some-clause-done : goal.returns-in-Some-clause-done
returns-in-Some-clause-done g c =
    let k = c.args.self.now in
    let lock = c.args.lock.now in
    IfOk-weaker c.put.result _ _ (λ u took d h f.
    subst (IsMendedOf c.put.new.self d) (sym (end-one c.in-Some.is h))
    (next-mended k lock d (decided d) c.in-Some.ending f (subst (HeldBlock lock.words d) c.in-Some.is h.held)
    c.put.new.self took)) c.put.ensures.took

pub returns-in-Some-clause-wrote : goal.returns-in-Some-clause-wrote
returns-in-Some-clause-wrote g c =
    let k = c.args.self.now in
    let lock = c.args.lock.now in
    λ d h f.
    wrote-is (bytes-given k lock d (decided d) c.in-Some.ending f (subst (HeldBlock lock.words d) c.in-Some.is h.held)
    ∙ end-bytes k.filled.format k.filled.fill d (report_in lock c.in-Some.ending)
    (end-one c.in-Some.is h)) c.put.ensures.wrote

pub returns-in-None-clause-done : goal.returns-in-None-clause-done
returns-in-None-clause-done g c =
    λ d h f.
    subst (IsMendedOf c.args.self.now d) (sym (end-none c.in-None.is h ∙ append-nil (decided d))) f

pub returns-in-None-clause-wrote : goal.returns-in-None-clause-wrote
returns-in-None-clause-wrote g c =
    let k = c.args.self.now in
    λ d h f. record {
      grew = grew-is (sym (no-end-bytes k.filled.format k.filled.fill d (end-none c.in-None.is h)))
          (grew-none refl);
      no_failure = refl;
      err = tt;
    }
