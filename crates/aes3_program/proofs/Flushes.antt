-- A run that is flushed: what is told of it where it was refused, or where that failed.
use Rattle.std.proofs.Common.{◌≡◌, ◌≢◌, ℕ, ◌+◌, inl, inr, Bool, List, Option, Some, Result, Ok, Err, refl, sym, ap, subst, ◌∙◌}
use Rattle.std.proofs.Common.{arith}
use Rattle.aes3_refusals.specs.declared.run_error.RunError.{RunError}
use Rattle.aes3_refusals.specs.declared.run_error.RunError.TheVariants.{Read, Write}
use Rattle.aes3_cell.specs.declared.counts.Counts.{Counts}
use Rattle.aes3_input.specs.Running.{Ends, Failed, InputRan, InputRun, Movement, Promise, Quiet}
use Rattle.aes3_input.proofs.InputRuns.{Gives, run-err, run-ok, run-write, run-sink_quiet, quiet-sink}
use Rattle.aes3_input.proofs.Pieces.{changed, ends_by}
use Rattle.aes3_cli_jobs.specs.declared.job.Job.{Job}
use Rattle.aes3_cli_jobs.specs.declared.job.Job.TheVariants as job
use Rattle.aes3_cli_jobs.specs.declared.work.ReadWork.{ReadWork}
use Rattle.aes3_cli_jobs.specs.declared.work.StreamWork.{StreamWork}
use Rattle.aes3_cli_jobs.specs.declared.wave_refusal.Refusal.{Refusal}
use Rattle.aes3_cli_jobs.specs.declared.wave_refusal.Refusal.TheVariants.{Run}
use Rattle.aes3_wave_runs.specs.FromWav.{WaveRan, promise_for}
use Rattle.aes3_wave_runs.specs.Wave.{limit_of}
use Rattle.aes3_wave_runs.specs.declared.wave_error.WaveError.{WaveError}
use Rattle.aes3_wave_runs.specs.declared.wave_error.WaveError.TheVariants as wave_error
use Rattle.aes3_wave_runs.specs.declared.options.WaveOptions.{WaveOptions}
use Rattle.aes3_wave_runs.specs.declared.status_use.StatusUse.{StatusUse}
use Rattle.aes3_wave.specs.declared.channels.Channels.{Channels}
use Rattle.aes3_wave.specs.declared.channels.Mono.{Mono}
use Rattle.aes3_status.specs.declared.change.Change.{Change}
use Rattle.aes3_forms_words.specs.declared.alsa_am824.Words.{Words}
use Rattle.aes3_cell.specs.declared.form.Form.{Form}
use Rattle.aes3_status.specs.declared.style.Style.{Style}
use Rattle.aes3_status.specs.declared.typed_settings.TypedSettings.{TypedSettings}
use Rattle.aes3_watch.specs.Sums.{begun_sums, sum_lines}
use Rattle.aes3_watch.specs.Watching.{watch_counts}
use Rattle.aes3_input.specs.Driving.{counted_cells}
use Rattle.aes3_program.specs.Asides.{RefusedAt}
use Rattle.aes3_program.specs.JobRuns.{Answered, Flushed, IsTold, JobRan, RanAs, ReadRan, StreamRan, WaveRanAs}
use Rattle.aes3_program.specs.JobRuns.{encode_promise, most, period, read_promise, sample_promise, stream_promise}
use Rattle.aes3_program.specs.JobRuns.{use_for, wave_options}
use Rattle.aes3_program.specs.OctetRuns.{ReadRefused}
use Rattle.aes3_program.specs.declared.outcome.Outcome.{Outcome}
use Rattle.aes3_program.specs.Outcomes.{answer_as, refusal_of, told_as}
use Rattle.aes3_program.specs.Streams.{Streams}

-- a run, by what its work is
pub stream-of : (i o : Form) {work work' : StreamWork} {ends : Ends}
    {r : Result Outcome RunError} → work ≡ work' → StreamRan i o work' ends r
    → StreamRan i o work ends r
stream-of i o {ends = ends} {r} e run =
    subst (λ (w : StreamWork). StreamRan i o w ends r) (sym e) run

pub read-of : (i : Form) {work work' : ReadWork} {ends : Ends}
    {r : Result Outcome RunError} → work ≡ work' → ReadRan i work' ends r
    → ReadRan i work ends r
read-of i {ends = ends} {r} e run =
    subst (λ (w : ReadWork). ReadRan i w ends r) (sym e) run

-- a run as what a job answers
gives-told : {A : Type 0} (f : A → Outcome) (p : Promise A) → Gives p (told_as f p)
gives-told f p = record {
  input = λ b h. h;
  whole = λ b h. refl;
  begun = λ b. refl;
  cause = λ max b ended e h. h;
}

told-of : {A : Type 0} (f : A → Outcome) {p : Promise A} {ends : Ends}
    (r : Result A RunError)
    → InputRun p most ends r → InputRun (told_as f p) most ends (answer_as f r)
told-of f {p} (Ok n) run = run-ok (gives-told f p) (λ b i h. (n, h, refl)) run
told-of f {p} (Err e) run = run-err (gives-told f p) run

pub told-ran : {A : Type 0} (f : A → Outcome) {p : Promise A} {ends : Ends}
    {r : Result A RunError} {o : Result Outcome RunError} → o ≡ answer_as f r
    → InputRun p most ends r → InputRun (told_as f p) most ends o
told-ran f {p} {ends} {r} e run =
    subst (λ (v : Result Outcome RunError). InputRun (told_as f p) most ends v) (sym e) (told-of f r run)

-- a run that tells sums, after so many cells as the job says
pub sums-of : (i : Form) (style : Style) (every n : ℕ) {ends : Ends}
    {r : Result Counts RunError} → n ≡ period every
    → InputRun (counted_cells i (sum_lines style n) (begun_sums style n) (watch_counts i)) most ends r
    → InputRun (counted_cells i (sum_lines style (period every)) (begun_sums style (period every)) (watch_counts i)) most
    ends r
sums-of i style every n {ends} {r} e run =
    subst (λ (k : ℕ). InputRun (counted_cells i (sum_lines style k) (begun_sums style k) (watch_counts i)) most
    ends r) e run

-- a run over a WAV file, by what its status is for
pub wave-of : (channels : Option Channels) (mono : Mono) (exact professional : Bool) (change : Change) (words : Words)
    (purpose : StatusUse) {ends : Ends} {result : Result Outcome Refusal}
    → purpose ≡ use_for professional
    → WaveRanAs (record { channels = channels; mono = mono; exact = exact; status_use = purpose; change = change; words = words })
    ends result
    → WaveRanAs (wave_options channels mono exact professional change words) ends result
wave-of channels mono exact professional change words purpose {ends} {result} e run =
    subst (λ (u : StatusUse).
    WaveRanAs (record { channels = channels; mono = mono; exact = exact; status_use = u; change = change; words = words })
    ends result) e run

-- what a job answers, by what it is
pub answered-of : {j job' : Job} (ends : Ends) (o : Result Outcome Refusal) → j ≡ job'
    → Answered job' ends o → Answered j ends o
answered-of ends o e run = subst (λ (x : Job). Answered x ends o) (sym e) run

wave-quiet : (options : WaveOptions) (b : List ℕ) (ends : Ends) (e : WaveError)
    → WaveRan options most b ends (Err e) → e ≢ wave_error.Run Write → Quiet ends.sink
wave-quiet options b ends (wave_error.Header e) (refused, short, quiet, unwritten) n = unwritten.0
wave-quiet options b ends (wave_error.NoChannel k) (lacks, quiet, unwritten) n = unwritten.0
wave-quiet options b ends (wave_error.Run e) ran n = elim ran [
  | inl (read, unwritten) ↦ unwritten.0
  | inr (header, ran) ↦ quiet-sink (promise_for options header) (limit_of header most) b ends e ran.ran
      (λ q. n (ap wave_error.Run q))
]

wave-failed : (options : WaveOptions) (b : List ℕ) (ends : Ends)
    → WaveRan options most b ends (Err (wave_error.Run Write)) → Failed ends.sink
wave-failed options b ends ran = elim ran [
  | inl (read, unwritten) ↦ absurd read
  | inr (header, ran) ↦ ran.ran.1
]

refused-is : {x y : Refusal} → ◌≡◌ {A = Result Outcome Refusal} (Err x) (Err y) → x ≡ y
refused-is e = cc

run-is-run : {x y : RunError} → Run x ≡ Run y → x ≡ y
run-is-run e = cc

of-run-quiet : (p : Promise Outcome) {ends : Ends} {x : Refusal}
    → RanAs p ends (Err x) → x ≢ Run Write → Quiet ends.sink
of-run-quiet p (Ok m, run, is) n = cc
of-run-quiet p (Err e, run, is) n =
    run-sink_quiet (Err e) run (λ q. n (refused-is is ∙ ap Run (error-is q)))
  where
    error-is : {x y : RunError} → ◌≡◌ {A = Result Outcome RunError} (Err x) (Err y) → x ≡ y
    error-is e = cc

of-run-failed : (p : Promise Outcome) {ends : Ends} {x : Refusal}
    → RanAs p ends (Err x) → x ≡ Run Write → Failed ends.sink
of-run-failed p (Ok m, run, is) e = cc
of-run-failed p (Err y, run, is) e =
    run-write run (ap (λ w. Err w) (run-is-run (sym (refused-is is) ∙ e)))

of-wave-quiet : (options : WaveOptions) {ends : Ends} {x : Refusal}
    → WaveRanAs options ends (Err x) → x ≢ Run Write → Quiet ends.sink
of-wave-quiet options (Ok m, run, is) n = cc
of-wave-quiet options {ends} (Err e, run, is) n =
    wave-quiet options run.bytes ends e run.ran (λ q. n (refused-is is ∙ ap refusal_of q))

of-wave-failed : (options : WaveOptions) {ends : Ends} {x : Refusal}
    → WaveRanAs options ends (Err x) → x ≡ Run Write → Failed ends.sink
of-wave-failed options (Ok m, run, is) e = cc
of-wave-failed options {ends} (Err y, run, is) e = go y run.ran (sym (refused-is is) ∙ e)
  where
    go : (y : WaveError) → WaveRan options most run.bytes ends (Err y) → refusal_of y ≡ Run Write
        → Failed ends.sink
    go (wave_error.Header h) ran same = cc
    go (wave_error.NoChannel k) ran same = cc
    go (wave_error.Run f) ran same =
        wave-failed options run.bytes ends
        (subst (λ (v : RunError). WaveRan options most run.bytes ends (Err (wave_error.Run v))) (run-is-run same) ran)

pub answered-quiet : (j : Job) (ends : Ends) {x : Refusal} → Answered j ends (Err x)
    → x ≢ Run Write → Quiet ends.sink
answered-quiet (job.Encode o w) ends run n = of-run-quiet (encode_promise o w) run n
answered-quiet (job.Stream i o work) ends run n = of-run-quiet (stream_promise i o work) run n
answered-quiet (job.Read i work) ends run n = of-run-quiet (read_promise i work) run n
answered-quiet (job.FromPcm f y c w) ends run n = of-run-quiet (sample_promise f y c w) run n
answered-quiet (job.FromWav a m y p c w) ends run n = of-wave-quiet _ run n

answered-failed : (j : Job) (ends : Ends) {x : Refusal} → Answered j ends (Err x)
    → x ≡ Run Write → Failed ends.sink
answered-failed (job.Encode o w) ends run e = of-run-failed (encode_promise o w) run e
answered-failed (job.Stream i o work) ends run e = of-run-failed (stream_promise i o work) run e
answered-failed (job.Read i work) ends run e = of-run-failed (read_promise i work) run e
answered-failed (job.FromPcm f y c w) ends run e = of-run-failed (sample_promise f y c w) run e
answered-failed (job.FromWav a m y p c w) ends run q = of-wave-failed _ run q

of-run-passed : (p : Promise Outcome) {ends : Ends} {n : Outcome} → RanAs p ends (Ok n) → ends.passed ≡ ends.sink.new
of-run-passed p (Ok m, run, is) = run.ran.5
of-run-passed p (Err e, run, is) = cc

of-wave-passed : (options : WaveOptions) {ends : Ends} {n : Outcome} → WaveRanAs options ends (Ok n)
    → ends.passed ≡ ends.sink.new
of-wave-passed options (Ok m, run, is) = run.ran.ran.5
of-wave-passed options (Err e, run, is) = cc

-- what was not refused has passed on all that it wrote
pub answered-passed : (j : Job) (ends : Ends) (n : Outcome) → Answered j ends (Ok n) → ends.passed ≡ ends.sink.new
answered-passed (job.Encode o w) ends n run = of-run-passed (encode_promise o w) run
answered-passed (job.Stream i o work) ends n run = of-run-passed (stream_promise i o work) run
answered-passed (job.Read i work) ends n run = of-run-passed (read_promise i work) run
answered-passed (job.FromPcm f y c w) ends n run = of-run-passed (sample_promise f y c w) run
answered-passed (job.FromWav a m y p c w) ends n run = of-wave-passed _ run

pub refused-flushed : (passed : Option (List ℕ)) {job : Job} {typed : TypedSettings} {streams : Streams} {status : ℕ}
    {t : Option (List ℕ)} {f : ℕ} {x told : Refusal}
    → Answered job (ends_by streams.ended streams.source (record streams.sink { new = t; failed_new = f }) passed)
    (Err x)
    → Flushed x (record streams.sink { old = t; failed_old = f }) told → RefusedAt (Some told) streams.errors status
    → JobRan job typed streams status
refused-flushed passed {job} {streams = streams} {f = f} {x = x} run flushed refused = record {
  answer = Err x;
  failed = f;
  passed = passed;
  run = subst
      (λ v. Answered job (ends_by streams.ended streams.source (record streams.sink { new = v; failed_new = f }) passed)
      (Err x)) (sym flushed.0) run;
  told = (
    refused.0,
    elim flushed.1 [
      | inl k ↦ inl (k.1, subst (IsTold streams.errors) k.0 refused.1)
      | inr k ↦ inr (k.0, k.2, subst (IsTold streams.errors) k.1 refused.1)
    ],
  );
}

-- where the sink did not fail, it was flushed
pub passed-on : (job : Job) (ended : Bool) (source : Movement) (t₀ q : Option (List ℕ))
    {t₁ t₂ : Option (List ℕ)} {f₀ f₁ f₂ : ℕ} {x told : Refusal} {P : Type 0}
    → Answered job (ends_by ended source (changed t₀ t₁ f₀ f₁) q) (Err x)
    → Flushed x (changed t₁ t₂ f₁ f₂) told → (f₂ ≡ f₁ → x ≢ Run Write → P) → f₂ ≡ f₀ → P
passed-on job ended source t₀ q {t₁} {t₂} {f₀} {f₁} {f₂} {x} r f p h =
    let n : x ≢ Run Write = λ e. let v : f₁ ≡ f₀ + 1 = answered-failed job _ r e in elim f.1 [
      | inl k ↦ let i = k.1 in omega arith
      | inr k ↦ k.0 e
    ] in
    let v : f₁ ≡ f₀ = answered-quiet job _ r n in
    p (omega arith) n

-- a refusal before anything was run
pub read-refused : {sink errors : Movement} {status : ℕ} {told : Refusal} → Flushed (Run Read) sink told
    → RefusedAt (Some told) errors status → ReadRefused sink errors status
read-refused {errors = errors} flushed refused = record {
  refused = refused.0;
  nothing = flushed.0;
  told = elim flushed.1 [
    | inl k ↦ inl (k.1, subst (IsTold errors) k.0 refused.1)
    | inr k ↦ inr (k.2, subst (IsTold errors) k.1 refused.1)
  ];
}
