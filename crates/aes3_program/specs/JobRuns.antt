-- What the program does for a job.
use Rattle.std.specs.Prelude.{ℕ, List, Bool, true, false, Result, Ok, Err, ◌≡◌, ◌≢◌, ◌+◌, ◌^◌, ◌&&◌, ◌⊎◌, if◌then◌else◌}
use Rattle.std.specs.Prelude.{Option, [], max, min, nat_lt}
use Rattle.aes3_level.specs.declared.level.Level.{Level}
use Rattle.aes3_cell.specs.declared.counts.Counts.{Counts}
use Rattle.aes3_cell.specs.declared.form.Form.{Form}
use Rattle.aes3_refusals.specs.declared.run_error.RunError.{RunError}
use Rattle.aes3_refusals.specs.declared.run_error.RunError.TheVariants as refusal
use Rattle.aes3_cell.specs.Ends.{Grew}
use Rattle.aes3_cell.specs.Written.{written}
use Rattle.aes3_frame.specs.Samples.{samples}
use Rattle.aes3_lock.specs.Preambles.{marks}
use Rattle.aes3_lock.specs.Reports.{blocks, decided, normal, reports}
use Rattle.aes3_input.specs.Running.{Ends, Movement, Promise, InputRun, Quiet, Failed}
use Rattle.aes3_input.specs.Driving.{counted_cells}
use Rattle.aes3_forms_samples.specs.Formats.{narrowed}
use Rattle.aes3_forms_samples.specs.declared.sample_format.SampleFormat.{SampleFormat}
use Rattle.aes3_engine.specs.Words.{told_words, words_file}
use Rattle.aes3_lock_runs.specs.ReportRuns.{counts_of}
use Rattle.aes3_lock_runs.specs.BlockRuns.{begun_stream, written_stream, cut_blocks, decided_blocks}
use Rattle.aes3_engine.specs.RewritingExactly.{exactly_rewritten_cells}
use Rattle.aes3_engine.specs.RewritingRuns.{rewritten_cells}
use Rattle.aes3_engine.specs.Sampling.{sampled_words}
use Rattle.aes3_engine.specs.Carrying.{all_carried}
use Rattle.aes3_engine.specs.ExactSamples.{exact_cells}
use Rattle.aes3_engine.specs.FillRuns.{filled_cells}
use Rattle.aes3_engine.specs.ValidSamples.{valid_samples}
use Rattle.aes3_text_lines.specs.MarkLines.{mark_lines}
use Rattle.aes3_lock_gaps.specs.Gaps.{account, begun_account}
use Rattle.aes3_watch.specs.Accounting.{account_counts}
use Rattle.aes3_watch.specs.GapLines.{account_lines}
use Rattle.aes3_text.specs.Runs.{change_details, detail_lines}
use Rattle.aes3_text_reports.specs.Lines.{report_lines}
use Rattle.aes3_text_reports.specs.Scanning.{scan_counts}
use Rattle.aes3_wave_runs.specs.FromWav.{WaveRun}
use Rattle.aes3_wave_runs.specs.ToWav.{exact_wave_cells, filled_wave_cells, valid_wave_cells, wave_cells}
use Rattle.aes3_wave_runs.specs.declared.wave_error.WaveError.{WaveError}
use Rattle.aes3_wave_runs.specs.declared.options.Converted.{Converted}
use Rattle.aes3_wave_runs.specs.declared.options.WaveOptions.{WaveOptions}
use Rattle.aes3_wave_runs.specs.declared.status_use.StatusUse.{StatusUse}
use Rattle.aes3_wave_runs.specs.declared.status_use.StatusUse.TheVariants.{Consumer, Professional}
use Rattle.aes3_status.specs.declared.change.Change.{Change}
use Rattle.aes3_wave.specs.declared.channels.Channels.{Channels}
use Rattle.aes3_wave.specs.declared.channels.Mono.{Mono}
use Rattle.aes3_forms_words.specs.declared.alsa_am824.Words.{Words}
use Rattle.aes3_watch.specs.Sums.{begun_sums, sum_lines}
use Rattle.aes3_watch.specs.Watching.{begun_watch, watch_counts, watch_lines}
use Rattle.aes3_info.specs.Infos.{info_counts, info_page, no_page}
use Rattle.aes3_status.specs.declared.typed_settings.TypedSettings.{TypedSettings}
use Rattle.aes3_cli_jobs.specs.Forms.{finds_faults}
use Rattle.aes3_cli_jobs.specs.declared.job.Job.{Job}
use Rattle.aes3_cli_jobs.specs.declared.job.Job.TheVariants.{Encode, Stream, Read, FromPcm, FromWav}
use Rattle.aes3_cli_jobs.specs.declared.work.ReadWork.{ReadWork}
use Rattle.aes3_cli_jobs.specs.declared.work.ReadWork.TheVariants.{Decode, Check, Account, Watch, WatchSums, Info, Show}
use Rattle.aes3_cli_jobs.specs.declared.work.ReadWork.TheVariants.{ShowChanges, Scan, ToPcm, ToExactPcm, ToFilledPcm, ToBits}
use Rattle.aes3_cli_jobs.specs.declared.work.ReadWork.TheVariants.{ToWav, ToExactWav, ToFilledWav}
use Rattle.aes3_cli_jobs.specs.declared.wave_refusal.Refusal.{Refusal}
use Rattle.aes3_cli_jobs.specs.declared.wave_refusal.Refusal.TheVariants.{Run}
use Rattle.aes3_cli_jobs.specs.declared.work.StreamWork.{StreamWork}
use Rattle.aes3_cli_jobs.specs.declared.work.StreamWork.TheVariants.{Normal, Cut, Rewrite}
use Rattle.aes3_program.specs.declared.outcome.Outcome.{Outcome}
use Rattle.aes3_program.specs.Lines.{refusal_line, remark_line}
use Rattle.aes3_program.specs.declared.outcome.Remark.{Remark}
use Rattle.aes3_program.specs.declared.outcome.Remark.TheVariants.{Nothing, Filled, LeftOut, Settings, UsualRate, Wave, Inexact}
use Rattle.aes3_program.specs.declared.outcome.Remark.TheVariants.{CutShort, FilledAtUsualRate}
use Rattle.aes3_program.specs.Outcomes.{RemarkTold, of_counts, of_exact, of_filled, of_rewritten}
use Rattle.aes3_program.specs.Outcomes.{of_exact_wave, of_filled_wave}
use Rattle.aes3_program.specs.Outcomes.{of_samples, of_wave, of_words, run_answer, told_as, wave_answer}
use Rattle.aes3_program.specs.Streams.{Streams}

-- how many bytes an input may have
abbrev pub most : ℕ
most = 2 ^ 40

-- after how many cells sums are told: 1 at least, and no more than an input may have bytes
abbrev pub period : ℕ → ℕ
period every = min (max every 1) most

-- what a job over cells promises on which nothing is remarked
abbrev pub plain_cells : Form → (List Level → List ℕ) → (List Level → List ℕ) → (List ℕ → Counts) → Promise Outcome
plain_cells form whole begun counts = told_as of_counts (counted_cells form whole begun counts)

-- what a job promises that writes the normal stream of blocks of its cells
abbrev pub stream_promise : Form → Form → StreamWork → Promise Outcome
stream_promise i o Normal =
    plain_cells i (λ c. written o (normal c)) (λ c. begun_stream o (decided_blocks c)) (counts_of i)
stream_promise i o (Cut from count) =
    plain_cells i
    (λ c. written_stream o (cut_blocks from count (blocks c)))
    (λ c. begun_stream o (cut_blocks from count (decided_blocks c)))
    (counts_of i)
stream_promise i o (Rewrite change true) = told_as of_exact (exactly_rewritten_cells i o change)
stream_promise i o (Rewrite change false) = told_as (of_rewritten change) (rewritten_cells i o change)

-- what a job promises that reads cells, and writes none
abbrev pub read_promise : Form → ReadWork → Promise Outcome
read_promise i (Decode words) =
    plain_cells i
    (λ c. words_file words (blocks c))
    (λ c. words_file words (decided_blocks c))
    (counts_of i)
read_promise i (Check lines) =
    plain_cells i (λ c. report_lines lines (reports c)) (λ c. report_lines lines (decided c)) (counts_of i)
read_promise i (Account lines) =
    plain_cells i
    (λ c. account_lines lines (account c))
    (λ c. account_lines lines (begun_account c))
    (account_counts i)
read_promise i (Watch style) = plain_cells i (watch_lines style) (begun_watch style) (watch_counts i)
read_promise i (WatchSums style every) =
    plain_cells i (sum_lines style (period every)) (begun_sums style (period every)) (watch_counts i)
read_promise i (Info notation) = plain_cells i (info_page notation) no_page (info_counts i)
read_promise i (Show detail) =
    plain_cells i (λ c. detail_lines detail (reports c)) (λ c. detail_lines detail (decided c)) (counts_of i)
read_promise i (ShowChanges detail) =
    plain_cells i (λ c. change_details detail (reports c)) (λ c. change_details detail (decided c)) (counts_of i)
read_promise i Scan =
    plain_cells i (λ c. mark_lines (marks c)) (λ c. mark_lines (marks c)) (scan_counts i)
read_promise i (ToPcm format true) =
    plain_cells i
    (λ c. narrowed format (valid_samples (blocks c)))
    (λ c. narrowed format (valid_samples (decided_blocks c)))
    (counts_of i)
read_promise i (ToPcm format false) =
    plain_cells i
    (λ c. narrowed format (samples (blocks c)))
    (λ c. narrowed format (samples (decided_blocks c)))
    (counts_of i)
read_promise i (ToExactPcm format) = told_as of_exact (exact_cells i format)
read_promise i (ToFilledPcm format fill marked) = told_as of_filled (filled_cells i format fill marked)
read_promise i (ToWav depth rate true) = told_as (of_wave rate) (valid_wave_cells i depth rate)
read_promise i (ToWav depth rate false) = told_as (of_wave rate) (wave_cells i depth rate)
read_promise i (ToExactWav depth rate) = told_as (of_exact_wave rate) (exact_wave_cells i depth rate)
read_promise i (ToFilledWav depth rate fill marked) =
    told_as (of_filled_wave rate) (filled_wave_cells i depth rate fill marked)
read_promise i (ToBits bits channel) =
    plain_cells i
    (λ c. all_carried bits channel (blocks c))
    (λ c. all_carried bits channel (decided_blocks c))
    (counts_of i)

-- what a job promises that encodes words, and one that makes blocks of samples
abbrev pub encode_promise : Form → Words → Promise Outcome
encode_promise o words = told_as of_words (told_words words o)

abbrev pub sample_promise : SampleFormat → Bool → Change → Words → Promise Outcome
sample_promise format exact change words = told_as (of_samples change) (sampled_words format exact words change)

-- a run that writes the normal stream of blocks of its cells, and one that reads cells
abbrev pub StreamRan : Form → Form → StreamWork → Ends → Result Outcome RunError → Type 0
StreamRan i o work = InputRun (stream_promise i o work) most

abbrev pub ReadRan : Form → ReadWork → Ends → Result Outcome RunError → Type 0
ReadRan i work = InputRun (read_promise i work) most

-- what a WAV file is read with
abbrev pub use_for : Bool → StatusUse
use_for true = Professional
use_for false = Consumer

abbrev pub wave_options : Option Channels → Mono → Bool → Bool → Change → Words → WaveOptions
wave_options channels mono exact professional change words = record {
  channels = channels;
  mono = mono;
  exact = exact;
  status_use = use_for professional;
  change = change;
  words = words;
}

-- what a job answers: by what its run does, which for a WAV file may be refused for its header or its channels too
abbrev pub RanAs : Promise Outcome → Ends → Result Outcome Refusal → Type 0
RanAs p ends result = (r : Result Outcome RunError) × InputRun p most ends r × (result ≡ run_answer r)

abbrev pub WaveRanAs : WaveOptions → Ends → Result Outcome Refusal → Type 0
WaveRanAs options ends result =
    (r : Result Converted WaveError) × WaveRun options most ends r × (result ≡ wave_answer options r)

abbrev pub Answered : Job → Ends → Result Outcome Refusal → Type 0
Answered (Encode o words) = RanAs (encode_promise o words)
Answered (Stream i o work) = RanAs (stream_promise i o work)
Answered (Read i work) = RanAs (read_promise i work)
Answered (FromPcm format exact change words) = RanAs (sample_promise format exact change words)
Answered (FromWav channels mono exact professional change words) =
    WaveRanAs (wave_options channels mono exact professional change words)

-- what a job writes of a whole input; what one writes of a WAV file `Answered` says, and that is no cells
abbrev pub written_whole : Job → List ℕ → List ℕ
written_whole (Encode o words) = (encode_promise o words).whole
written_whole (Stream i o work) = (stream_promise i o work).whole
written_whole (Read i work) = (read_promise i work).whole
written_whole (FromPcm format exact change words) = (sample_promise format exact change words).whole
written_whole (FromWav channels mono exact professional change words) = λ bytes. []

-- its exit status if it is not refused: 1 if it looks for faults and found any, else 0
abbrev pub status_by : Job → Counts → ℕ
status_by job n = if finds_faults job && nat_lt 0 n.faults then 1 else 0

-- the status of a job that read its input to the end: 3 where it is refused then
abbrev pub status_for : Remark → ℕ → ℕ
status_for Nothing status = status
status_for (Filled frames) status = status
status_for (LeftOut words) status = status
status_for (Settings first second) status = status
status_for UsualRate status = status
status_for (FilledAtUsualRate frames) status = status
status_for (CutShort missing) status = status
status_for (Wave missing unsaid first second) status = status
status_for (Inexact at) status = 3

abbrev pub end_status : Job → Outcome → ℕ
end_status job n = status_for n.remark (status_by job n.counts)

-- a refusal behind which the sink was flushed: it stays what it was, or that failed
abbrev pub Flushed : Refusal → Movement → Refusal → Type 0
Flushed error sink told =
    (sink.new ≡ sink.old)
    × (((told ≡ error) × Quiet sink) ⊎ ((error ≢ Run refusal.Write) × (told ≡ Run refusal.Write) × Failed sink))

-- how a sink moved up to its last flush, which takes no byte, where it had failed so often then
abbrev pub before_flush : Movement → ℕ → Movement
before_flush sink failed = record { old = sink.old; new = sink.new; failed_old = sink.failed_old; failed_new = failed }

-- the line of a refusal stands among the errors, where these take it
abbrev pub IsTold : Movement → Refusal → Type 0
IsTold errors error = Quiet errors → Grew errors.old errors.new (refusal_line error)

-- what is told of a run's answer, and the exit status: of one that read its input to the end its remark; of a refusal its
-- line, or that of `Write` where the flush behind it failed
abbrev pub AnswerTold : Job → TypedSettings → Result Outcome Refusal → ℕ → Movement → Movement → ℕ → Type 0
AnswerTold job typed (Ok n) failed sink errors status =
    (status ≡ end_status job n) × (sink.failed_new ≡ failed) × RemarkTold (remark_line typed n.remark) errors
AnswerTold job typed (Err error) failed sink errors status =
    (status ≡ 3)
    × (((sink.failed_new ≡ failed) × IsTold errors error)
    ⊎ ((error ≢ Run refusal.Write) × (sink.failed_new ≡ failed + 1) × IsTold errors (Run refusal.Write)))

-- both ends of a job when its run answered: how often the sink had failed by then, and what it had passed on
abbrev pub ends_then : Streams → ℕ → Option (List ℕ) → Ends
ends_then streams failed passed = record {
  ended = streams.ended;
  source = streams.source;
  sink = before_flush streams.sink failed;
  passed = passed;
}

-- a job: what its run answered; how often the sink had failed by then, and what it had passed on, of which no more is
-- said here; and what is told of the answer
pub record JobRan (job : Job) (typed : TypedSettings) (streams : Streams) (status : ℕ) : Type 0 where
  pub answer : Result Outcome Refusal
  pub failed : ℕ
  pub passed : Option (List ℕ)
  pub run : Answered job (ends_then streams failed passed) answer
  pub told : AnswerTold job typed answer failed streams.sink streams.errors status
