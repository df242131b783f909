-- What a job answers that read its input to the end, and what standard error is told of it.
use Rattle.std.specs.Option.{unwrap_or}
use Rattle.std.specs.Prelude.{ℕ, ◌==◌, ◌∷◌, if◌then◌else◌, replicate, List, [], Option, Some, None, Result, Ok, Err, ◌≡◌}
use Rattle.std.specs.Prelude.{Bool, ◌||◌, ◌&&◌, ◌-◌, not, is_some, nat_lt}
use Rattle.aes3_cell.specs.declared.counts.Counts.{Counts}
use Rattle.aes3_refusals.specs.declared.run_error.RunError.{RunError}
use Rattle.aes3_cell.specs.Ends.{Grew}
use Rattle.aes3_input.specs.Running.{Movement, Promise, Quiet}
use Rattle.aes3_cli_jobs.specs.declared.wave_refusal.Refusal.{Refusal}
use Rattle.aes3_cli_jobs.specs.declared.wave_refusal.Refusal.TheVariants as job_error
use Rattle.aes3_wave_runs.specs.Status.{lacks_rate, lacks_width, status_for}
use Rattle.aes3_wave_runs.specs.declared.wave_error.WaveError.{WaveError}
use Rattle.aes3_wave_runs.specs.declared.wave_error.WaveError.TheVariants as wave_error
use Rattle.aes3_wave_runs.specs.declared.options.Converted.{Converted}
use Rattle.aes3_wave_runs.specs.declared.options.ExactWave.{ExactWave}
use Rattle.aes3_wave_runs.specs.declared.options.FilledWave.{FilledWave}
use Rattle.aes3_wave_runs.specs.declared.options.WaveOptions.{WaveOptions}
use Rattle.aes3_wave_runs.specs.declared.options.WaveWritten.{WaveWritten}
use Rattle.aes3_wave.specs.declared.wave_format.WaveFormat.{WaveFormat}
use Rattle.aes3_wave.specs.declared.wave_format.Width.{Width}
use Rattle.aes3_wave.specs.declared.wave_format.Width.TheVariants.{Bits8, Bits16, Bits20, Bits24, Bits32}
use Rattle.aes3_status.specs.declared.change.Change.{Change}
use Rattle.aes3_status.specs.declared.setting.Settings.{Settings as GivenSettings}
use Rattle.aes3_status.specs.declared.taken.Taken.{Taken}
use Rattle.aes3_engine.specs.RewritingRuns.{taken_of}
use Rattle.aes3_engine.specs.declared.exact_samples.Exact.{Exact}
use Rattle.aes3_engine.specs.declared.rewriting_runs.Rewritten.{Rewritten}
use Rattle.aes3_engine.specs.declared.word_encoding.EncodedWords.{EncodedWords}
use Rattle.aes3_engine.specs.declared.filling.Filled.{Filled as FilledRun}
use Rattle.aes3_program.specs.declared.outcome.Outcome.{Outcome}
use Rattle.aes3_program.specs.declared.outcome.Remark.{Remark}
use Rattle.aes3_program.specs.declared.outcome.Remark.TheVariants.{Nothing, Filled, LeftOut, Settings, Inexact}
use Rattle.aes3_program.specs.declared.outcome.Remark.TheVariants.{UsualRate, FilledAtUsualRate, CutShort, Wave}
use Rattle.aes3_program.specs.declared.outcome.UnsaidFormat.{UnsaidFormat}

-- what a run's answer is as that of a job: nothing is remarked on counts alone
abbrev pub of_counts : Counts → Outcome
of_counts n = record { counts = n; remark = Nothing }

abbrev pub of_filled : FilledRun → Outcome
of_filled n = record { counts = n.counts; remark = Filled n.frames }

abbrev pub exactness : Option ℕ → Remark
exactness None = Nothing
exactness (Some at) = Inexact at

abbrev pub of_exact : Exact → Outcome
of_exact n = record { counts = n.counts; remark = exactness n.refused }

abbrev pub of_words : EncodedWords → Outcome
of_words n = record { counts = n.counts; remark = if n.left_out == 0 then Nothing else LeftOut n.left_out }

-- settings of a change, with what blocks took of them; nothing is remarked where there was no block
abbrev pub met_by : Change → Taken → Taken → Remark
met_by change first second =
    Settings (record { settings = change.settings1; taken = first })
    (record { settings = change.settings2; taken = second })

abbrev pub of_rewritten : Change → Rewritten → Outcome
of_rewritten change n = record {
  counts = n.counts;
  remark = if n.counts.blocks == 0 then Nothing else met_by change n.first n.second;
}

-- blocks of samples all have the status that is given, or a status of zeros
abbrev pub sample_status : Option (List ℕ) → List ℕ
sample_status status = unwrap_or status (replicate 24 0)

abbrev pub of_samples : Change → Counts → Outcome
of_samples change n = record {
  counts = n;
  remark
      = if n.bytes == 0
      then Nothing
      else met_by change (taken_of change.settings1 (sample_status change.status1 ∷ []))
      (taken_of change.settings2 (sample_status change.status2 ∷ []));
}

-- a WAV file that is written: it is remarked on where its sampling frequency is neither given nor named
abbrev pub rate_remark : Option ℕ → Option ℕ → Remark
rate_remark rate named = if is_some rate || is_some named then Nothing else UsualRate

abbrev pub of_wave : Option ℕ → WaveWritten → Outcome
of_wave rate n = record { counts = n.counts; remark = rate_remark rate n.named }

-- one of blocks that are given exactly: where one is not, that is remarked alone
abbrev pub exact_or : Option ℕ → Remark → Remark
exact_or None remark = remark
exact_or (Some at) remark = Inexact at

abbrev pub of_exact_wave : Option ℕ → ExactWave → Outcome
of_exact_wave rate n = record {
  counts = n.exact.counts;
  remark = exact_or n.exact.refused (rate_remark rate n.named);
}

-- one with frames that fill time: both are remarked
abbrev pub filled_remark : ℕ → Option ℕ → Option ℕ → Remark
filled_remark frames rate named = if is_some rate || is_some named then Filled frames else FilledAtUsualRate frames

abbrev pub of_filled_wave : Option ℕ → FilledWave → Outcome
of_filled_wave rate n = record {
  counts = n.filled.counts;
  remark = filled_remark n.filled.frames rate n.named;
}

-- how many bits of a sample count
abbrev pub bits_of : Width → ℕ
bits_of Bits8 = 8
bits_of Bits16 = 16
bits_of Bits20 = 20
bits_of Bits24 = 24
bits_of Bits32 = 32

-- what of the format of a WAV file the status that is made of its header does not say; nothing where options give both
-- channels another status
abbrev pub is_made : WaveOptions → Bool
is_made options = not (is_some options.change.status1) || not (is_some options.change.status2)

abbrev pub unsaid_format : WaveOptions → WaveFormat → UnsaidFormat
unsaid_format options f = record {
  rate = if is_made options && lacks_rate options.status_use f.rate then Some f.rate else None;
  bits = if is_made options && lacks_width f.width then Some (bits_of f.width) else None;
}

-- blocks of a WAV file all have the status that is given, or the one that is made of its header
abbrev pub wave_taken : WaveOptions → WaveFormat → Option (List ℕ) → Option GivenSettings → Taken
wave_taken options f status settings =
    taken_of settings (sample_status (Some (unwrap_or status (status_for options.status_use f))) ∷ [])

-- a length that programs give that write to a pipe and don't know the right one yet
abbrev pub is_placeholder : ℕ → Bool
is_placeholder len = not (nat_lt len 2147479552) && nat_lt len 2147483648

-- how many bytes of samples are missing where a header gives a length and so many are found
abbrev pub missing_in : Option ℕ → ℕ → Option ℕ
missing_in None found = None
missing_in (Some len) found = if nat_lt found len && not (is_placeholder len) then Some (len - found) else None

abbrev pub missing_of : Converted → Option ℕ
missing_of n = missing_in n.header.len (n.counts.bytes - n.header.start)

abbrev pub cut_remark : Option ℕ → Remark
cut_remark None = Nothing
cut_remark (Some missing) = CutShort missing

abbrev pub of_converted : WaveOptions → Converted → Outcome
of_converted options n = record {
  counts = n.counts;
  remark
      = if n.counts.blocks == 0
      then cut_remark (missing_of n)
      else Wave (missing_of n) (unsaid_format options n.header.format)
      (record {
        settings = options.change.settings1;
        taken = wave_taken options n.header.format options.change.status1 options.change.settings1;
      })
      (record {
        settings = options.change.settings2;
        taken = wave_taken options n.header.format options.change.status2 options.change.settings2;
      });
}

-- why a run over a WAV file is refused, as a job is
abbrev pub refusal_of : WaveError → Refusal
refusal_of (wave_error.Header e) = job_error.Header e
refusal_of (wave_error.NoChannel channels) = job_error.NoChannel channels
refusal_of (wave_error.Run e) = job_error.Run e

-- the answer of a job that reads a WAV file, and that of any other
abbrev pub wave_answer : WaveOptions → Result Converted WaveError → Result Outcome Refusal
wave_answer options (Ok n) = Ok (of_converted options n)
wave_answer options (Err e) = Err (refusal_of e)

abbrev pub run_answer : Result Outcome RunError → Result Outcome Refusal
run_answer (Ok n) = Ok n
run_answer (Err e) = Err (job_error.Run e)

-- the answer of a job, and what it promises, by those of the run that does it
abbrev pub answer_as : {A : Type 0} → (A → Outcome) → Result A RunError → Result Outcome RunError
answer_as f (Ok n) = Ok (f n)
answer_as f (Err e) = Err e

abbrev pub told_as : {A : Type 0} → (A → Outcome) → Promise A → Promise Outcome
told_as {A} f p = record {
  input = p.input;
  whole = p.whole;
  begun = p.begun;
  answer = λ b n. (m : A) × p.answer b m × (n ≡ f m);
  cause = p.cause;
}

-- these lines stand among the errors, where these take them; where there are none they are told nothing
pub record RemarkTold (lines : List ℕ) (errors : Movement) : Type 0 where
  pub told : Quiet errors → Grew errors.old errors.new lines
  pub silent : lines ≡ [] → Grew errors.old errors.new []
