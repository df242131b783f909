-- What standard error is told of a line, by what ran.
use Rattle.std.proofs.Common.{◌≡◌, ◌≤◌, ◌==◌, ◌&&◌, ◌||◌, ◌++◌, ℕ, List, [], ◌∷◌, Option, Some, None, inl, inr, Bool, true, false, IsFalse, Result, Ok, Err, refl, subst, sym, ap, ap₂, ◌∙◌, arith}
use Rattle.std.proofs.Common.{if◌then◌else◌, nat_lt}
use Rattle.aes3_cell.specs.declared.counts.Counts.{Counts}
use Rattle.aes3_cell.specs.declared.form.Form.{Form}
use Rattle.aes3_refusals.specs.declared.run_error.RunError.TheVariants as refusal
use Rattle.aes3_input.specs.Running.{Ends, Movement, Promise}
use Rattle.aes3_cell.proofs.Growing.{grew-is}
use Rattle.aes3_cli_arguments.specs.declared.command_job.LineFault.{LineFault}
use Rattle.aes3_cli_arguments.specs.declared.command_job.LineFault.TheVariants.{Usage, Help, Refused}
use Rattle.aes3_cli_arguments.specs.declared.command_line.CommandLine.{CommandLine}
use Rattle.aes3_cli_jobs.specs.Forms.{finds_faults, reads_packed, writes_packed}
use Rattle.aes3_cli_jobs.specs.declared.job.Job.{Job}
use Rattle.aes3_cli_jobs.specs.declared.job.Job.TheVariants.{Encode, Stream, Read, FromPcm, FromWav}
use Rattle.aes3_cli_jobs.specs.declared.work.ReadWork.{ReadWork}
use Rattle.aes3_cli_jobs.specs.declared.work.ReadWork.TheVariants.{Decode, Check, Account, Watch, WatchSums, Info, Show}
use Rattle.aes3_cli_jobs.specs.declared.work.ReadWork.TheVariants.{ShowChanges, Scan, ToPcm, ToExactPcm, ToFilledPcm, ToBits}
use Rattle.aes3_cli_jobs.specs.declared.work.ReadWork.TheVariants.{ToWav, ToExactWav, ToFilledWav}
use Rattle.aes3_cli_jobs.specs.declared.work.StreamWork.{StreamWork}
use Rattle.aes3_cli_jobs.specs.declared.work.StreamWork.TheVariants.{Normal, Cut, Rewrite}
use Rattle.aes3_cli_jobs.specs.declared.wave_refusal.Refusal.{Refusal}
use Rattle.aes3_cli_jobs.specs.declared.wave_refusal.Refusal.TheVariants.{Run}
use Rattle.aes3_program.specs.declared.outcome.Outcome.{Outcome}
use Rattle.aes3_program.specs.declared.outcome.Remark.{Remark}
use Rattle.aes3_program.specs.declared.outcome.Remark.TheVariants.{Nothing, Filled, LeftOut, Settings, UsualRate, Wave, Inexact}
use Rattle.aes3_program.specs.declared.outcome.Remark.TheVariants.{CutShort, FilledAtUsualRate}
use Rattle.aes3_program.specs.declared.outcome.Met.{Met}
use Rattle.aes3_status.specs.declared.change.Change.{Change}
use Rattle.aes3_status.specs.declared.setting.Settings.{Settings as GivenSettings}
use Rattle.aes3_status.specs.declared.taken.Taken.{Taken}
use Rattle.aes3_forms_words.specs.declared.alsa_am824.Words.TheVariants.{Own, Alsa, Am824}
use Rattle.aes3_engine.specs.RewritingRuns.{taken_of}
use Rattle.aes3_engine.proofs.WordRuns.{none-left-out}
use Rattle.std.specs.Option.{is_some, option_map_or}
use Rattle.aes3_status.specs.Untaken.{texts_of, untaken_lines}
use Rattle.aes3_status.specs.declared.typed_settings.TypedSettings.{TypedSettings}
use Rattle.aes3_program.specs.Lines.{met_lines, remark_line}
use Rattle.aes3_program.specs.Outcomes.{RemarkTold, met_by, sample_status}
use Rattle.aes3_program.specs.JobRuns.{AnswerTold, Answered, JobRan, RanAs, encode_promise, end_status, read_promise}
use Rattle.aes3_program.specs.JobRuns.{sample_promise, status_by, status_for, stream_promise}
use Rattle.aes3_program.specs.OctetRuns.{FirstFailed, OctetsRan, PackedRan, RawBy, as_raw, read_as, written_by}
use Rattle.aes3_program.specs.StandardErrors.{ErrorsTold, read_remarks, remarks, sets_fields, stream_remarks}
use Rattle.aes3_program.specs.Streams.{Streams}
use Rattle.aes3_program.specs.WordRuns.{FaultRan}

-- the status of a test is 0 or 1
few-of : (b : Bool) → (if b then 1 else 0) ≤ 1
few-of true = omega arith
few-of false = omega arith

few : (job : Job) (n : Counts) → status_by job n ≤ 1
few job n = few-of (finds_faults job && nat_lt 0 n.faults)

-- a change that sets no field by name has no line
no-lines : (channel : ℕ) (texts : List (List ℕ)) (met : Met) → met.settings ≡ None → met_lines channel texts met ≡ []
no-lines channel texts met e =
    ap (λ (s : Option GivenSettings). option_map_or (λ given. untaken_lines channel given met.taken 0 texts) s []) e

no-settings : {A : Type 0} (s t : Option A) → IsFalse (is_some s || is_some t) → (s ≡ None) × (t ≡ None)
no-settings None None h = (refl, refl)
no-settings None (Some t) h = absurd cc
no-settings (Some s) t h = absurd cc

unset : (typed : TypedSettings) (empty : Bool) (change : Change) (first second : Taken) → IsFalse (sets_fields change)
    → remark_line typed (if empty then Nothing else met_by change first second) ≡ []
unset typed true change first second h = refl
unset typed false change first second h =
    let none = no-settings change.settings1 change.settings2 h in
    ap₂ (λ (u v : List ℕ). u ++ v)
    (no-lines 1 (texts_of typed.first) (record { settings = change.settings1; taken = first }) none.0)
    (no-lines 2 (texts_of typed.second) (record { settings = change.settings2; taken = second }) none.1)

line-of : (typed : TypedSettings) {n : Outcome} {o : Outcome} → n ≡ o → remark_line typed o.remark ≡ []
    → remark_line typed n.remark ≡ []
line-of typed e h = ap (λ (v : Outcome). remark_line typed v.remark) e ∙ h

none-out : (typed : TypedSettings) (n : ℕ) → n ≡ 0 → remark_line typed (if n == 0 then Nothing else LeftOut n) ≡ []
none-out typed n e = ap (λ k. remark_line typed (if k == 0 then Nothing else LeftOut k)) e

-- there is no line on a job of which none is told
of-stream-remark : (typed : TypedSettings) (i o : Form) (work : StreamWork) (b : List ℕ) (n : Outcome)
    → (stream_promise i o work).answer b n → IsFalse (stream_remarks work) → remark_line typed n.remark ≡ []
of-stream-remark typed i o Normal b n h s = line-of typed h.2 refl
of-stream-remark typed i o (Cut f c) b n h s = line-of typed h.2 refl
of-stream-remark typed i o (Rewrite c true) b n h s = absurd cc
of-stream-remark typed i o (Rewrite c false) b n h s =
    line-of typed h.2 (unset typed (h.0.counts.blocks == 0) c h.0.first h.0.second s)

of-read-remark : (typed : TypedSettings) (i : Form) (work : ReadWork) (b : List ℕ) (n : Outcome)
    → (read_promise i work).answer b n → IsFalse (read_remarks work) → remark_line typed n.remark ≡ []
of-read-remark typed i (Decode w) b n h s = line-of typed h.2 refl
of-read-remark typed i (Check l) b n h s = line-of typed h.2 refl
of-read-remark typed i (Account l) b n h s = line-of typed h.2 refl
of-read-remark typed i (Watch l) b n h s = line-of typed h.2 refl
of-read-remark typed i (WatchSums l e) b n h s = line-of typed h.2 refl
of-read-remark typed i (Info t) b n h s = line-of typed h.2 refl
of-read-remark typed i (Show d) b n h s = line-of typed h.2 refl
of-read-remark typed i (ShowChanges d) b n h s = line-of typed h.2 refl
of-read-remark typed i Scan b n h s = line-of typed h.2 refl
of-read-remark typed i (ToPcm p true) b n h s = line-of typed h.2 refl
of-read-remark typed i (ToPcm p false) b n h s = line-of typed h.2 refl
of-read-remark typed i (ToExactPcm p) b n h s = absurd cc
of-read-remark typed i (ToFilledPcm p fill marked) b n h s = absurd cc
of-read-remark typed i (ToWav d (Some rate) true) b n h s = line-of typed h.2 refl
of-read-remark typed i (ToWav d (Some rate) false) b n h s = line-of typed h.2 refl
of-read-remark typed i (ToWav d None true) b n h s = absurd cc
of-read-remark typed i (ToWav d None false) b n h s = absurd cc
of-read-remark typed i (ToExactWav d rate) b n h s = absurd cc
of-read-remark typed i (ToFilledWav d rate fill marked) b n h s = absurd cc
of-read-remark typed i (ToBits b' c) b n h s = line-of typed h.2 refl

-- the same of what a job answered
of-ran-remark : (typed : TypedSettings) (p : Promise Outcome) {ends : Ends} (n : Outcome)
    → RanAs p ends (Ok n)
    → ((b : List ℕ) (m : Outcome) → p.answer b m → remark_line typed m.remark ≡ []) → remark_line typed n.remark ≡ []
of-ran-remark typed p n (Ok m, run, is) h = line-of typed (answer-is is) (h run.bytes m run.ran.1)
  where
    answer-is : {x y : Outcome} → ◌≡◌ {A = Result Outcome Refusal} (Ok x) (Ok y) → x ≡ y
    answer-is e = cc
of-ran-remark typed p n (Err e, run, is) h = cc

of-answered-remark : (typed : TypedSettings) (job : Job) (ends : Ends) (n : Outcome)
    → Answered job ends (Ok n) → IsFalse (remarks job) → remark_line typed n.remark ≡ []
of-answered-remark typed (Encode o Own) ends n run s =
    of-ran-remark typed (encode_promise o Own) n run
    (λ b m h. line-of typed h.2 (none-out typed h.0.left_out (h.1.1 ∙ sym (none-left-out b))))
of-answered-remark typed (Encode o Alsa) ends n run s = absurd cc
of-answered-remark typed (Encode o Am824) ends n run s = absurd cc
of-answered-remark typed (Stream i o work) ends n run s =
    of-ran-remark typed (stream_promise i o work) n run (λ b m h. of-stream-remark typed i o work b m h s)
of-answered-remark typed (Read i work) ends n run s =
    of-ran-remark typed (read_promise i work) n run (λ b m h. of-read-remark typed i work b m h s)
of-answered-remark typed (FromPcm p e c w) ends n run s =
    of-ran-remark typed (sample_promise p e c w) n run
    (λ b m h. line-of typed h.2
    (unset typed (h.0.bytes == 0) c (taken_of c.settings1 (sample_status c.status1 ∷ []))
    (taken_of c.settings2 (sample_status c.status2 ∷ [])) s))
of-answered-remark typed (FromWav a m e p c w) ends n run s = absurd cc

-- of a job that read its input to the end and is not refused
of-done : (line : CommandLine) (n : Outcome) (errors : Movement) (status : ℕ)
    → (IsFalse (remarks line.job) → remark_line line.typed n.remark ≡ []) → status ≡ status_by line.job n.counts
    → RemarkTold (remark_line line.typed n.remark) errors → ErrorsTold (Ok line) errors status
of-done line n errors status a s r =
    let small = few line.job n.counts in
    record {
      known = omega (arith, s, small);
      done = λ h. record { remark = n.remark; asked = a; told = r };
      usage = λ h. absurd (omega (arith, s, small, h));
      refusal = λ h. absurd (omega (arith, s, small, h));
    }

-- of a job's answer
of-answer : (line : CommandLine) (ends : Ends) (answer : Result Outcome Refusal)
    (failed : ℕ) (sink errors : Movement) (status : ℕ) → Answered line.job ends answer
    → AnswerTold line.job line.typed answer failed sink errors status → ErrorsTold (Ok line) errors status
of-answer line ends (Ok n) failed sink errors status run t = go n.remark refl t.0 t.2
  where
    go : (remark : Remark) → n.remark ≡ remark → status ≡ end_status line.job n → RemarkTold (remark_line line.typed n.remark) errors
        → ErrorsTold (Ok line) errors status
    go Nothing e s r =
        of-done line n errors status (of-answered-remark line.typed line.job ends n run)
        (s ∙ ap (λ (v : Remark). status_for v (status_by line.job n.counts)) e) r
    go (Filled frames) e s r =
        of-done line n errors status (of-answered-remark line.typed line.job ends n run)
        (s ∙ ap (λ (v : Remark). status_for v (status_by line.job n.counts)) e) r
    go (LeftOut words) e s r =
        of-done line n errors status (of-answered-remark line.typed line.job ends n run)
        (s ∙ ap (λ (v : Remark). status_for v (status_by line.job n.counts)) e) r
    go (Settings first second) e s r =
        of-done line n errors status (of-answered-remark line.typed line.job ends n run)
        (s ∙ ap (λ (v : Remark). status_for v (status_by line.job n.counts)) e) r
    go UsualRate e s r =
        of-done line n errors status (of-answered-remark line.typed line.job ends n run)
        (s ∙ ap (λ (v : Remark). status_for v (status_by line.job n.counts)) e) r
    go (FilledAtUsualRate frames) e s r =
        of-done line n errors status (of-answered-remark line.typed line.job ends n run)
        (s ∙ ap (λ (v : Remark). status_for v (status_by line.job n.counts)) e) r
    go (CutShort missing) e s r =
        of-done line n errors status (of-answered-remark line.typed line.job ends n run)
        (s ∙ ap (λ (v : Remark). status_for v (status_by line.job n.counts)) e) r
    go (Wave missing unsaid first second) e s r =
        of-done line n errors status (of-answered-remark line.typed line.job ends n run)
        (s ∙ ap (λ (v : Remark). status_for v (status_by line.job n.counts)) e) r
    go (Inexact at) e s r =
        let k : status ≡ 3 = s ∙ ap (λ (v : Remark). status_for v (status_by line.job n.counts)) e in
        record {
          known = omega (arith, k);
          done = λ h. absurd (omega (arith, k, h));
          usage = λ h. absurd (omega (arith, k, h));
          refusal = λ h q. record {
            error = Run (refusal.Inexact at);
            line = grew-is (ap (remark_line line.typed) e) (r.told q);
          };
        }
of-answer line ends (Err error) failed sink errors status run t = record {
  known = omega (arith, t.0);
  done = λ s. absurd (omega (arith, t.0, s));
  usage = λ s. absurd (omega (arith, t.0, s));
  refusal = λ s q. elim t.1 [
    | inl k ↦ record { error = error; line = k.1 q }
    | inr k ↦ record { error = Run refusal.Write; line = k.2 q }
  ];
}

-- of a job whose first octet could not be read
of-first : (line : CommandLine) (streams : Streams) (status : ℕ) → FirstFailed streams status
    → ErrorsTold (Ok line) streams.errors status
of-first line streams status r =
    let k = r.refused.refused in
    record {
      known = omega (arith, k);
      done = λ s. absurd (omega (arith, k, s));
      usage = λ s. absurd (omega (arith, k, s));
      refusal = λ s q. elim r.refused.told [
        | inl k ↦ record { error = Run refusal.Read; line = k.1 q }
        | inr k ↦ record { error = Run refusal.Write; line = k.1 q }
      ];
    }

of-run : (line : CommandLine) {streams : Streams} {status : ℕ} → JobRan line.job line.typed streams status
    → ErrorsTold (Ok line) streams.errors status
of-run line {streams} {status} r = of-answer line _ r.answer r.failed streams.sink streams.errors status r.run r.told

of-packed : (line : CommandLine) (reversed : Bool) (streams : Streams) (status : ℕ)
    → PackedRan reversed line.job line.typed streams status → ErrorsTold (Ok line) streams.errors status
of-packed line true streams status r = elim r [
  | inl k ↦ of-run line k.ran.ran
  | inr k ↦ of-first line streams status k
]
of-packed line false streams status r = of-run line r

of-job : (line : CommandLine) (raw reversed : Bool) (streams : Streams) (status : ℕ)
    → RawBy raw (λ streams. PackedRan reversed line.job line.typed streams status) streams
    → ErrorsTold (Ok line) streams.errors status
of-job line true reversed streams status r =
    of-packed line reversed (read_as r.told_end (as_raw r.counted streams.source) streams) status r.ran
of-job line false reversed streams status r = of-packed line reversed streams status r

-- of a line that asks for a job
pub line_told : {asked : Result CommandLine LineFault} {line : CommandLine} (streams : Streams) (status : ℕ)
    → asked ≡ Ok line → OctetsRan line.octets line.job line.typed streams status → ErrorsTold asked streams.errors status
line_told {line = line} streams status e r =
    subst (λ (v : Result CommandLine LineFault). ErrorsTold v streams.errors status) (sym e)
    (of-job line line.octets.raw_in (line.octets.lsb_first && reads_packed line.job)
    (record streams { sink = written_by (line.octets.lsb_first && writes_packed line.job) streams.sink }) status r)

-- of one that asks for none
of-fault : (fault : LineFault) (sink errors : Movement) (status : ℕ) → FaultRan fault sink errors status
    → ErrorsTold (Err fault) errors status
of-fault (Usage text) sink errors status r =
    let s = r.0 in
    record {
      known = omega (arith, s);
      done = λ h. absurd (omega (arith, s, h));
      usage = λ h q. r.2 q;
      refusal = λ h. absurd (omega (arith, s, h));
    }
of-fault (Help text) sink errors status r = elim r [
  | inl k ↦ record {
    known = omega (arith, k.0);
    done = λ h. k.3;
    usage = λ h. absurd (omega (arith, k.0, h));
    refusal = λ h. absurd (omega (arith, k.0, h));
  }
  | inr k ↦ record {
    known = omega (arith, k.0);
    done = λ h. absurd (omega (arith, k.0, h));
    usage = λ h. absurd (omega (arith, k.0, h));
    refusal = λ h q. record { error = Run refusal.Write; line = k.2 q };
  }
]
of-fault (Refused error) sink errors status r =
    let s = r.0 in
    record {
      known = omega (arith, s);
      done = λ h. absurd (omega (arith, s, h));
      usage = λ h. absurd (omega (arith, s, h));
      refusal = λ h q. record { error = Run error; line = r.2 q };
    }

pub fault_told : {asked : Result CommandLine LineFault} {fault : LineFault} (sink errors : Movement) (status : ℕ)
    → asked ≡ Err fault → FaultRan fault sink errors status → ErrorsTold asked errors status
fault_told {fault = fault} sink errors status e r =
    subst (λ (v : Result CommandLine LineFault). ErrorsTold v errors status) (sym e)
    (of-fault fault sink errors status r)
