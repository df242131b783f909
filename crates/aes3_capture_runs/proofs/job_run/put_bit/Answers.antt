use Rattle.std.proofs.Common.{◌∙◌, decimal, rules}
use Rattle.std.proofs.lemmas.Result.{IfOk-weaker}
use Rattle.aes3_cell.proofs.Growing.{grew-is, grew-join}
use Rattle.aes3_capture_runs.proofs.job_run.put_bit.Goals as goal

pub returns-clause-text : goal.returns-clause-text
returns-clause-text g c =
    let text = c.as_bytes.ensures.value ∙ c.format.ensures.text in
    let number = grew-is {y = decimal c.args.bit} (search (rules, text)) c.in_ok-write_all-2.ensures.grew in
    IfOk-weaker c.put_text.result _ _ (λ u end. grew-join c.in_ok-write_all.ensures.grew (grew-join number end))
    c.put_text.ensures.text
