use Rattle.std.proofs.Common.{◌+◌, ◌^◌, ◌≤◌, ◌++◌, length, refl, ap, sym, ◌∙◌, arith, append_assoc, length-append}
use Rattle.std.proofs.lemmas.Result.{err_from_is_err_and}
use Rattle.aes3_level.specs.Remaining.{all_of}
use Rattle.aes3_level.proofs.CellsIn.{length-cells_in}
use Rattle.aes3_input.proofs.Handing.{handed-cells, handed-cells-front}
use Rattle.aes3_input.proofs.taker.take_all.Goals as goal

pub take-requires-clause-following : goal.take-requires-clause-following
take-requires-clause-following g c =
    let q = c.requires.following in
    let l : length q.0 + c.args.len ≤ 2 ^ 43 = q.1 in
    let v = c.loop-cells.invariant in
    let n = length-append q.0 v.front in
    let a = length-append v.front (all_of c.loop-cells.cells) in
    let w = c.requires.within in
    let k = ap length (sym v.parts) ∙ length-cells_in c.args.words.now 0 c.args.len (omega (arith, w)) in
    (q.0 ++ v.front, omega (arith, l, n, a, k), v.handed.follows q.0 q.2)

pub loop-cells-preserved : goal.loop-cells-preserved
loop-cells-preserved g c =
    let v = c.loop-cells.invariant in
    let r = c.in_ok-take.ensures.ran in
    record {
      front = v.front ++ r.0;
      parts = v.parts ∙ ap (λ d. v.front ++ d) r.1 ∙ sym (append_assoc v.front r.0 _);
      handed = handed-cells r.0 refl v.handed r.3.0 r.3.1 r.3.2;
      quiet = r.3.3 ∙ v.quiet;
    }

pub returns-in_err-take : goal.returns-in_err-take
returns-in_err-take g c =
    let v = c.loop-cells.invariant in
    let r = c.in_err-take.ensures.ran in
    let error = err_from_is_err_and c.from_residual.result c.from_residual.ensures.1 in
    record {
      ran = rw error.1 (
        r.0 ∙ ap (λ k. k + 1) v.quiet,
        handed-cells-front (all_of c.loop-cells.cells) v.parts v.handed r.1,
      );
    }
