use Rattle.std.proofs.Common.{◌+◌, ◌++◌, ◌∙◌, ap, ap₂, rules}
use Rattle.std.proofs.lemmas.Result.{err_from_is_err_and}
use Rattle.aes3_frame.specs.declared.block.Channel.TheVariants.{First, Second}
use Rattle.aes3_cell.proofs.Growing.{grew-is, grew-join, front-is, front-join, front-more}
use Rattle.aes3_text.proofs.StatusChanges.{line_as}
use Rattle.aes3_text.proofs.showing.StatusLines.put_block.Goals as goal

pub returns-in_err-put_line-clause-wrote : goal.returns-in_err-put_line-clause-wrote
returns-in_err-put_line-clause-wrote g c =
    let k = c.args.self.now in
    let p = err_from_is_err_and c.from_residual.result c.from_residual.ensures.1 in
    let f = c.in_err-put_line.ensures.err in
    rw p.1 (record {
      grew = tt;
      no_failure = tt;
      err = (
        f.0,
        front-is
            (ap₂ (λ u v. line_as k.changes k.detail c.args.place.number c.args.place.at First c.args.block.now k.first u
            ++ line_as k.changes k.detail c.args.place.number c.args.place.at Second c.args.block.now k.second v)
            c.channel_status-first.ensures c.channel_status-second.ensures)
            (front-more (search (rules, f.1)) (line_as k.changes k.detail c.args.place.number c.args.place.at Second
            c.args.block.now k.second c.channel_status-second.result)),
      );
    })

pub returns-in_err-put_line-2-clause-wrote : goal.returns-in_err-put_line-2-clause-wrote
returns-in_err-put_line-2-clause-wrote g c =
    let k = c.args.self.now in
    let p = err_from_is_err_and c.from_residual-in_err-put_line-2.result c.from_residual-in_err-put_line-2.ensures.1
    in
    let f = c.in_err-put_line-2.ensures.err in
    let line = line_as k.changes k.detail c.args.place.number c.args.place.at First c.args.block.now k.first
    c.channel_status-first.result in
    rw p.1 (record {
      grew = tt;
      no_failure = tt;
      err = (
        f.0 ∙ ap (λ n. n + 1) c.in_ok-put_line.ensures.no_failure,
        front-is
            (ap₂ (λ u v. line_as k.changes k.detail c.args.place.number c.args.place.at First c.args.block.now k.first u
            ++ line_as k.changes k.detail c.args.place.number c.args.place.at Second c.args.block.now k.second v)
            c.channel_status-first.ensures c.channel_status-second.ensures)
            (front-join {x = line} (search (rules, c.in_ok-put_line.ensures.grew)) f.1),
      );
    })

pub returns-clause-wrote : goal.returns-clause-wrote
returns-clause-wrote g c =
    let k = c.args.self.now in
    let line = line_as k.changes k.detail c.args.place.number c.args.place.at First c.args.block.now k.first
    c.channel_status-first.result in
    record {
      grew = grew-is
          (ap₂ (λ u v. line_as k.changes k.detail c.args.place.number c.args.place.at First c.args.block.now k.first u
          ++ line_as k.changes k.detail c.args.place.number c.args.place.at Second c.args.block.now k.second v)
          c.channel_status-first.ensures c.channel_status-second.ensures)
          (grew-join {x = line} (search (rules, c.in_ok-put_line.ensures.grew)) c.in_ok-put_line-2.ensures.grew);
      no_failure = c.in_ok-put_line-2.ensures.no_failure ∙ c.in_ok-put_line.ensures.no_failure;
      err = tt;
    }
