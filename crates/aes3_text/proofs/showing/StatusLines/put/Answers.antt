use Rattle.std.proofs.Common.{refl, ap, sym, ◌∷◌, []}
use Rattle.aes3_lock.specs.Following.{report_in}
use Rattle.aes3_lock.specs.Reports.{wholes}
use Rattle.aes3_cell.proofs.Growing.{grew-is, grew-none}
use Rattle.aes3_cell.proofs.Writing.{wrote-is}
use Rattle.aes3_text.specs.Runs.{report_details}
use Rattle.aes3_text.proofs.StatusChanges.{other-last, told-whole, whole-is, whole-last}
use Rattle.aes3_text.proofs.showing.StatusLines.put.Goals as goal

pub returns-in-Whole-clause-last : goal.returns-in-Whole-clause-last
returns-in-Whole-clause-last g c =
    let k = c.args.self.now in
    let x = report_in c.args.lock.now c.args.ending in
    whole-last c.put_block.result x k.first k.second c.put_block.new.self.first c.put_block.new.self.second
    (told-whole c.args.lock.now c.in-Whole.is c.gathered_cells.ensures c.block.ensures)
    c.put_block.ensures.first c.put_block.ensures.second

pub returns-in-Whole-clause-wrote : goal.returns-in-Whole-clause-wrote
returns-in-Whole-clause-wrote g c = λ bs h n.
    let k = c.args.self.now in
    wrote-is (whole-is k.changes k.detail (report_in c.args.lock.now c.args.ending) bs
    (told-whole c.args.lock.now c.in-Whole.is c.gathered_cells.ensures c.block.ensures) h n) c.put_block.ensures.wrote

pub returns-in-Marked-clause-last : goal.returns-in-Marked-clause-last
returns-in-Marked-clause-last g c = λ bs h.
    other-last (report_in c.args.lock.now c.args.ending) bs
    (ap (λ e. wholes (report_in c.args.lock.now e ∷ [])) c.in-Marked.is) h

pub returns-in-Marked-clause-wrote : goal.returns-in-Marked-clause-wrote
returns-in-Marked-clause-wrote g c = λ bs h n. record {
  grew = grew-is (sym (ap (λ e. report_details c.args.self.now.changes c.args.self.now.detail bs
      (report_in c.args.lock.now e)) c.in-Marked.is)) (grew-none refl);
  no_failure = refl;
  err = tt;
}

pub returns-in-Fault-clause-last : goal.returns-in-Fault-clause-last
returns-in-Fault-clause-last g c = λ bs h.
    other-last (report_in c.args.lock.now c.args.ending) bs
    (ap (λ e. wholes (report_in c.args.lock.now e ∷ [])) c.in-Fault.is) h

pub returns-in-Fault-clause-wrote : goal.returns-in-Fault-clause-wrote
returns-in-Fault-clause-wrote g c = λ bs h n. record {
  grew = grew-is (sym (ap (λ e. report_details c.args.self.now.changes c.args.self.now.detail bs
      (report_in c.args.lock.now e)) c.in-Fault.is)) (grew-none refl);
  no_failure = refl;
  err = tt;
}

pub returns-in-Unfinished-clause-last : goal.returns-in-Unfinished-clause-last
returns-in-Unfinished-clause-last g c = λ bs h.
    other-last (report_in c.args.lock.now c.args.ending) bs
    (ap (λ e. wholes (report_in c.args.lock.now e ∷ [])) c.in-Unfinished.is) h

pub returns-in-Unfinished-clause-wrote : goal.returns-in-Unfinished-clause-wrote
returns-in-Unfinished-clause-wrote g c = λ bs h n. record {
  grew = grew-is (sym (ap (λ e. report_details c.args.self.now.changes c.args.self.now.detail bs
      (report_in c.args.lock.now e)) c.in-Unfinished.is)) (grew-none refl);
  no_failure = refl;
  err = tt;
}
