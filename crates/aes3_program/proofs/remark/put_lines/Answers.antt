use Rattle.std.proofs.Common.{◌≡◌, ℕ, ◌+◌, List, [], Bor, map, length, take, refl, ap, sym, ◌∙◌, arith, rules}
use Rattle.std.proofs.Math.ListN.{get_or-map}
use Rattle.std.proofs.lemmas.List.{length-map, take_all}
use Rattle.std.proofs.lemmas.Result.{err_from_is_err_and}
use Rattle.aes3_cell.proofs.Growing.{grew-none, grew-is, grew-join, front-is, front-join, front-more}
use Rattle.aes3_status.specs.Untaken.{untaken_line, untaken_lines}
use Rattle.aes3_program.proofs.RemarkLines.{lines-next, lines-rest}
use Rattle.aes3_program.proofs.remark.put_lines.Goals as goal

pub lines-init : goal.lines-init
lines-init g c = record { grew = grew-none refl; quiet = refl }

pub lines-preserved : goal.lines-preserved
lines-preserved g c =
    let texts : List (List ℕ) = map (λ text. text.now) c.args.texts.now in
    let len : length texts ≡ length c.args.texts.now =
    length-map c.args.texts.now (λ (text : Bor (List ℕ)). text.now) in
    let text = sym (get_or-map (λ (text : Bor (List ℕ)). text.now) c.args.texts.now c.lines.at
    (record { ref_ptr = (0, 0); now = [] })) in
    let before = untaken_lines c.args.channel c.args.settings.now c.args.taken.now 0 (take c.lines.at texts) in
    record {
      grew = grew-is (lines-next c.args.channel c.args.settings.now c.args.taken.now texts c.lines.at (omega (arith, len)))
          (grew-join {x = before} c.lines.invariant.grew
          (grew-is (ap (untaken_line c.args.channel c.args.settings.now c.args.taken.now c.lines.at) text)
          (search (rules, c.in_ok-put_if_untaken.ensures.grew))));
      quiet = c.in_ok-put_if_untaken.ensures.no_failure ∙ c.lines.invariant.quiet;
    }

pub returns-in_err-put_if_untaken : goal.returns-in_err-put_if_untaken
returns-in_err-put_if_untaken g c =
    let texts : List (List ℕ) = map (λ text. text.now) c.args.texts.now in
    let len : length texts ≡ length c.args.texts.now =
    length-map c.args.texts.now (λ (text : Bor (List ℕ)). text.now) in
    let text = sym (get_or-map (λ (text : Bor (List ℕ)). text.now) c.args.texts.now c.lines.at
    (record { ref_ptr = (0, 0); now = [] })) in
    let more = lines-rest c.args.channel c.args.settings.now c.args.taken.now texts c.lines.at (omega (arith, len)) in
    let p = err_from_is_err_and c.from_residual.result c.from_residual.ensures.1 in
    let f = c.in_err-put_if_untaken.ensures.err in
    rw p.1 (record {
      grew = tt;
      no_failure = tt;
      err = (
        f.0 ∙ ap (λ n. n + 1) c.lines.invariant.quiet,
        front-is more.1
            (front-more (front-join c.lines.invariant.grew
            (front-is (ap (untaken_line c.args.channel c.args.settings.now c.args.taken.now c.lines.at) text)
            (search (rules, f.1)))) more.0),
      );
    })

pub returns : goal.returns
returns g c =
    let texts : List (List ℕ) = map (λ text. text.now) c.args.texts.now in
    let len : length texts ≡ length c.args.texts.now =
    length-map c.args.texts.now (λ (text : Bor (List ℕ)). text.now) in
    record {
      grew = grew-is (ap (untaken_lines c.args.channel c.args.settings.now c.args.taken.now 0)
          (take_all c.lines.at texts (omega (arith, len)))) c.lines.invariant.grew;
      no_failure = c.lines.invariant.quiet;
      err = tt;
    }
