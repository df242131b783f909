-- The sentence about the refusal of which the hints have heard.
use Rattle.std.proofs.Common.{◌≡◌, ℕ, List, Option, Some, None, Result, Ok, Err, IfOk, IfSome, inl, refl, subst}
use Rattle.std.specs.Option.{option_or}
use Rattle.aes3_input.specs.Running.{Movement}
use Rattle.aes3_cli_arguments.specs.declared.command_job.LineFault.{LineFault}
use Rattle.aes3_cli_arguments.specs.declared.command_line.CommandLine.{CommandLine}
use Rattle.aes3_cli_jobs.specs.declared.job.Job.{Job}
use Rattle.aes3_cli_jobs.specs.Refusals.{number_of_refusal}
use Rattle.aes3_cli_jobs.specs.declared.wave_refusal.Refusal.{Refusal}
use Rattle.aes3_cli_arguments.specs.Explained.{advice_of}
use Rattle.aes3_cli_hints.specs.Sentences.{Explained, ExplainedBy}
use Rattle.aes3_program.specs.Asides.{RefusedAt, job_of}
use Rattle.aes3_program_terminal.specs.Sentences.{RefusalExplained}

-- what they hold is what they have heard, so the sentence is about the refusal whose line the errors got
pub explained : (refused before : Option Refusal) {errors : Movement} {status : ℕ} {held : Option Refusal}
    (old new : Option (List ℕ)) → held ≡ option_or refused before → RefusedAt refused errors status → status ≡ 3
    → IfSome held (λ error. Explained error old new) → RefusalExplained errors new
explained None before old new is end three told = absurd (end three)
explained (Some error) before old new is end three told = record {
  refusal = error;
  line = end.1;
  before = old;
  sentence = subst (λ (o : Option Refusal). IfSome o (λ error. Explained error old new)) is told;
}

-- the job that they hold is that of the line
pub job-is : (line : Result CommandLine LineFault) (before : Option Job) {held : Option Job}
    → held ≡ option_or (job_of line) before → IfOk line (λ line. held ≡ Some line.job)
job-is (Ok line) before is = is
job-is (Err fault) before is = tt

-- the advice that is always told of a refusal explains it
pub advised : (held : Option Refusal) (old new : Option (List ℕ))
    → IfSome held (λ error. ExplainedBy (advice_of (number_of_refusal error)) old new) → IfSome held (λ error. Explained error old new)
advised None old new told = tt
advised (Some error) old new told = record { advice = advice_of (number_of_refusal error); fits = inl refl; told = told }
