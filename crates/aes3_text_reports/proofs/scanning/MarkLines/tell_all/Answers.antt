use Rattle.std.proofs.Common.{rules, ◌≡◌, ◌+◌, ◌++◌, None, refl, ap, ◌∙◌, arith}
use Rattle.std.specs.Prelude.{option_to_list}
use Rattle.std.proofs.lemmas.Result.{err_from_is_err_and}
use Rattle.aes3_text_lines.proofs.Gathering.{telling-starts, telling-next, telling-few, telling-fails, telling-ends}
use Rattle.aes3_text_reports.proofs.scanning.MarkLines.tell_all.Goals as goal

pub loop-mark-init : goal.loop-mark-init
loop-mark-init g c = record { telling = telling-starts c.args.found; scan = refl; fits = c.requires.fits; quiet = refl }

pub tell-requires-clause-few : goal.tell-requires-clause-few
tell-requires-clause-few g c =
    let e = c.take_next.ensures.next ∙ ap (λ o. option_to_list o ++ c.take_next.new.self) c.in-Some.is in
    let k = telling-few c.in-Some.mark c.take_next.new.self c.loop-mark.invariant.telling e in
    let r = c.requires.few in
    omega (arith, k, r)

pub loop-mark-preserved : goal.loop-mark-preserved
loop-mark-preserved g c =
    let v = c.loop-mark.invariant in
    let e = c.take_next.ensures.next ∙ ap (λ o. option_to_list o ++ c.take_next.new.self) c.in-Some.is in
    record {
      telling = telling-next c.in-Some.mark c.take_next.new.self v.telling e
          c.tell.ensures.marks c.in_ok-tell.ensures.wrote;
      scan = c.tell.ensures.scan ∙ v.scan;
      fits = c.in_ok-tell.ensures.fits;
      quiet = c.in_ok-tell.ensures.no_failure ∙ v.quiet;
    }

pub returns-in_err-tell-clause-err : goal.returns-in_err-tell-clause-err
returns-in_err-tell-clause-err g c =
    let v = c.loop-mark.invariant in
    let e = c.take_next.ensures.next ∙ ap (λ o. option_to_list o ++ c.take_next.new.self) c.in-Some.is in
    let error = err_from_is_err_and c.from_residual.result c.from_residual.ensures.1 in
    rw error.1 (
      c.in_err-tell.ensures.err.0 ∙ ap (λ n. n + 1) v.quiet,
      telling-fails c.in-Some.mark c.take_next.new.self v.telling e c.in_err-tell.ensures.err.1,
    )

pub returns-clause-wrote : goal.returns-clause-wrote
returns-clause-wrote g c =
    let n : c.take_next.result ≡ None = search rules in
    let e = c.take_next.ensures.next ∙ ap (λ o. option_to_list o ++ c.take_next.new.self) n
    ∙ c.take_next.ensures.end n in
    (telling-ends c.loop-mark.invariant.telling e).0

pub returns-clause-marks : goal.returns-clause-marks
returns-clause-marks g c =
    let n : c.take_next.result ≡ None = search rules in
    let e = c.take_next.ensures.next ∙ ap (λ o. option_to_list o ++ c.take_next.new.self) n
    ∙ c.take_next.ensures.end n in
    (telling-ends c.loop-mark.invariant.telling e).1
