use Rattle.std.proofs.Common.{map, subst}
use Rattle.std.proofs.lemmas.Result.{IfErr-weaker, IfOk-weaker, err_from_is_err_and}
use Rattle.clap.specs.Simple.{matches_of}
use Rattle.aes3_cli.specs.Options.{Options}
use Rattle.aes3_cli.proofs.LineFaultLemmas.{value_said, words_said}
use Rattle.aes3_capture_runs.specs.Asks.{AsksFor, faults_in}
use Rattle.aes3_capture_runs.specs.Faults.{SaysWrong, IsOptionFault, usage}
use Rattle.aes3_capture_runs.specs.CellsLine.{cells_line}
use Rattle.aes3_capture_runs.proofs.Lines.{line_is_free}
use Rattle.aes3_capture_runs.proofs.capture_job.job_of_words.Goals as goal

pub returns-clause-job : goal.returns-clause-job
returns-clause-job c =
    let are = c.in_ok-options.ensures.options cells_line c.in_ok-line.ensures line_is_free in
    IfOk-weaker c.job_of_options.result _ _
    (λ job asks. record {
      taken = are.taken;
      asked = subst (λ (o : Options). AsksFor o job) are.options asks;
    }) c.job_of_options.ensures.job

pub returns-clause-fault : goal.returns-clause-fault
returns-clause-fault c =
    let words = map (λ word. word.now) c.args.words.now in
    let are = c.in_ok-options.ensures.options cells_line c.in_ok-line.ensures line_is_free in
    IfErr-weaker c.job_of_options.result _ _
    (λ said says. value_said (faults_in words) usage (SaysWrong (matches_of cells_line words)) said are.taken
    (subst (λ (o : Options). IsOptionFault o said) are.options says))
    c.job_of_options.ensures.fault

pub returns-in_err-options-clause-fault : goal.returns-in_err-options-clause-fault
returns-in_err-options-clause-fault c =
    let words = map (λ word. word.now) c.args.words.now in
    let p = err_from_is_err_and c.from_residual-in_err-options.result c.from_residual-in_err-options.ensures.1 in
    rw (p.1, p.2) (words_said (faults_in words) usage (SaysWrong (matches_of cells_line words)) _
    (c.in_err-options.ensures.fault cells_line c.in_ok-line.ensures line_is_free))
