use Rattle.std.proofs.Common.{◌++◌, ap, ap₂, Bor, List, ℕ, map, rules}
use Rattle.std.proofs.lemmas.Result.{err_from_is_err_and}
use Rattle.aes3_cell.proofs.Growing.{front-is, front-more}
use Rattle.aes3_cell.proofs.Writing.{wrote-behind, wrote-is}
use Rattle.aes3_status.specs.Untaken.{texts_of}
use Rattle.aes3_program.specs.Lines.{met_lines}
use Rattle.aes3_program.proofs.remark.put_settings.Goals as goal

pub returns : goal.returns
returns g c =
    wrote-is (ap₂ (λ (first second : List (Bor (List ℕ))).
    met_lines 1 (map (λ text. text.now) first) c.args.first.now
    ++ met_lines 2 (map (λ text. text.now) second) c.args.second.now)
    c.as_slice.ensures.value (search (rules, c.as_slice-2.ensures.value)))
    (wrote-behind c.put_untaken-2.result c.in_ok-put_untaken.ensures.no_failure c.in_ok-put_untaken.ensures.grew
    c.put_untaken-2.ensures)

pub returns-in_err-put_untaken : goal.returns-in_err-put_untaken
returns-in_err-put_untaken g c =
    let p = err_from_is_err_and c.from_residual.result c.from_residual.ensures.1 in
    let f = c.in_err-put_untaken.ensures.err in
    rw p.1 (record {
      grew = tt;
      no_failure = tt;
      err = (
        f.0,
        front-more (front-is (ap (λ (first : List (Bor (List ℕ))).
            met_lines 1 (map (λ text. text.now) first) c.args.first.now) c.as_slice.ensures.value) f.1)
            (met_lines 2 (texts_of c.args.typed.now.second) c.args.second.now),
      );
    })
