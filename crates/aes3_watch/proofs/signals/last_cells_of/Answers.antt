use Rattle.std.proofs.Common.{◌∙◌, arith}
use Rattle.std.proofs.lemmas.List.{length-set}
use Rattle.aes3_watch.proofs.SignalWords.{lasts-all, lasts-more}
use Rattle.aes3_watch.proofs.signals.last_cells_of.Goals as goal

pub loop-i-preserved : goal.loop-i-preserved
loop-i-preserved c =
    let l = c.loop-i in
    let n = l.invariant.long in
    record {
      long = length-set l.lasts l.i _ ∙ n;
      lasts = lasts-more l.i c.args.words.now l.lasts (omega arith) (omega arith) l.invariant.lasts;
    }

pub returns : goal.returns
returns c =
    let l = c.loop-i in
    let n = l.invariant.long in
    lasts-all l.i c.args.words.now l.lasts (omega arith) (omega arith) l.invariant.lasts
