use Rattle.std.proofs.Common.{◌+◌, ◌∙◌, ap, sym, refl, arith, length, drop, take, length-drop, append-nil}
use Rattle.std.specs.List.{flat_map}
use Rattle.std.proofs.lemmas.Result.{err_from_is_err_and}
use Rattle.std.proofs.lemmas.Slice.{between_to_end}
use Rattle.aes3_level.specs.Words.{word_cells}
use Rattle.aes3_cell.specs.Written.{bytes_of}
use Rattle.aes3_cell.proofs.Growing.{grew-none, grew-join, grew-is, front-is, front-join, front-more}
use Rattle.aes3_cell.proofs.ManyWords.{bytes-block, bytes-split}
use Rattle.aes3_cell.proofs.WrittenForms.{bytes-nothing}
use Rattle.aes3_cell.proofs.word.put_front.Goals as goal

pub loop-many-init : goal.loop-many-init
loop-many-init g c = record {
  within = omega arith;
  grew
      = grew-is (sym (bytes-nothing c.args.form)) (grew-none refl);
  quiet = refl;
}

pub loop-many-preserved : goal.loop-many-preserved
loop-many-preserved g c =
    let words = c.args.words.now in
    let at = c.loop-many.at in
    let within = c.loop-many.invariant.within in
    let rest = between_to_end words at (length words) (omega arith) in
    let enough = c.in-Some.ensures.cases.enough in
    let l = ap length rest ∙ length-drop at words in
    let many = ap (λ w. bytes_of c.args.form (flat_map word_cells w)) (c.in-Some.ensures.cases.same ∙ ap (take 16) rest)
    in
    record {
      within = omega (arith, enough, l);
      grew = grew-is (bytes-block c.args.form words at 16 within)
          (grew-join c.loop-many.invariant.grew
          (grew-is many (rw c.if-not-branch.false at c.in_ok-put_many.ensures.cells)));
      quiet = c.in_ok-put_many.ensures.no_failure ∙ c.loop-many.invariant.quiet;
    }

pub returns-then-not-branch-clause-cells : goal.returns-then-not-branch-clause-cells
returns-then-not-branch-clause-cells g c
    = grew-is (append-nil _) (grew-join c.loop-many.invariant.grew
    (rw c.if-not-branch.true at c.in_ok-put_many.ensures.cells))

pub returns-in_err-put_many-clause-err : goal.returns-in_err-put_many-clause-err
returns-in_err-put_many-clause-err g c =
    let words = c.args.words.now in
    let at = c.loop-many.at in
    let within = c.loop-many.invariant.within in
    let rest = between_to_end words at (length words) (omega arith) in
    let enough = c.in-Some.ensures.cases.enough in
    let l = ap length rest ∙ length-drop at words in
    let many = ap (λ w. bytes_of c.args.form (flat_map word_cells w)) (c.in-Some.ensures.cases.same ∙ ap (take 16) rest)
    in
    let error = err_from_is_err_and c.from_residual.result c.from_residual.ensures.1 in
    rw error.1 (
      c.in_err-put_many.ensures.err.0 ∙ ap (λ n. n + 1) c.loop-many.invariant.quiet,
      front-is (bytes-split c.args.form words (at + 16) (omega (arith, enough, l)))
          (front-more (front-is (bytes-block c.args.form words at 16 within)
          (front-join c.loop-many.invariant.grew (front-is many c.in_err-put_many.ensures.err.1)))
          (bytes_of c.args.form (flat_map word_cells (drop (at + 16) words)))),
    )

pub returns-in_default-clause-cells : goal.returns-in_default-clause-cells
returns-in_default-clause-cells g c = c.loop-many.invariant.grew

pub returns-in_default-clause-no_failure : goal.returns-in_default-clause-no_failure
returns-in_default-clause-no_failure g c = c.loop-many.invariant.quiet

pub returns-then-not-branch-clause-no_failure : goal.returns-then-not-branch-clause-no_failure
returns-then-not-branch-clause-no_failure g c = c.in_ok-put_many.ensures.no_failure ∙ c.loop-many.invariant.quiet

pub put_many-requires : goal.put_many-requires
put_many-requires g c = let quiet = c.loop-many.invariant.quiet in record { room = omega (arith, quiet, c.requires) }

pub loop-many-smaller : goal.loop-many-smaller
loop-many-smaller g c =
    let words = c.args.words.now in
    let at = c.loop-many.at in
    let rest = between_to_end words at (length words) (omega arith) in
    let enough = c.in-Some.ensures.cases.enough in
    let l = ap length rest ∙ length-drop at words in
    omega (arith, enough, l)
