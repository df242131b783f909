-- What a terminal gets of a refusal.
use Rattle.std.specs.Prelude.{ℕ, List, Option}
use Rattle.aes3_cli_jobs.specs.declared.wave_refusal.Refusal.{Refusal}
use Rattle.aes3_input.specs.Running.{Movement}
use Rattle.aes3_program.specs.JobRuns.{IsTold}
use Rattle.aes3_cli_hints.specs.Sentences.{Explained}

-- the errors got the line of a refusal, and the last that was told is the sentence about it
pub record RefusalExplained (errors : Movement) (new : Option (List ℕ)) : Type 0 where
  pub refusal : Refusal
  pub line : IsTold errors refusal
  pub before : Option (List ℕ)
  pub sentence : Explained refusal before new
