use Rattle.std.proofs.Common.{◌∙◌, codes, refl, sym, true≢false}
use Rattle.clap.specs.Matches.{found_of}
use Rattle.clap.proofs.WalkLemmas.{one_text-rows}
use Rattle.aes3_capture_runs.proofs.capture_job.form.Goals as goal

pub returns-then-get_flag : goal.returns-then-get_flag
returns-then-get_flag c = record {
  given = λ e. refl;
  absent = λ e. absurd (true≢false
      (c.if-get_flag.ensures.other (one_text-rows (found_of c.args.options.now) (codes "packed-out") ∙ e)));
}

pub returns-else-get_flag : goal.returns-else-get_flag
returns-else-get_flag c = record {
  given = λ e. absurd (true≢false
      (sym (c.if-get_flag.ensures.value (one_text-rows (found_of c.args.options.now) (codes "packed-out") ∙ e))));
  absent = λ e. refl;
}
