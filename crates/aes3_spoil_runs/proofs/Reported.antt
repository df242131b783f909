-- A run that is flushed: what is reported of it where it was refused, or where that failed; and when its status is 0.
use Rattle.std.proofs.Common.{◌≡◌, ◌≢◌, ◌∙◌, ◌↔◌, ℕ, ◌+◌, inl, inr, Bool, List, Option, Result, Ok, Err, IsOk, refl, sym, ap, subst}
use Rattle.std.proofs.Common.{arith}
use Rattle.aes3_cell.specs.Ends.{Told}
use Rattle.aes3_cell.specs.declared.counts.Counts.{Counts}
use Rattle.aes3_refusals.specs.declared.run_error.RunError.{RunError}
use Rattle.aes3_refusals.specs.declared.run_error.RunError.TheVariants.{Write}
use Rattle.aes3_input.specs.Running.{Ends, Movement, Quiet}
use Rattle.aes3_input.proofs.CellRuns.{no-cell-cause}
use Rattle.aes3_input.proofs.InputRuns.{run-owed, run-sink_quiet, run-told, run-write}
use Rattle.aes3_input.proofs.Pieces.{changed, ends_by}
use Rattle.aes3_spoil_runs.specs.Runs.{AnswerReported, Flushed, IsDone, IsReported, JobRan, RunRan, before_flush, most}
use Rattle.aes3_spoil_runs.specs.declared.spoil_job.Job.{Job}

error-is : {x y : RunError} → ◌≡◌ {A = Result Counts RunError} (Err x) (Err y) → x ≡ y
error-is e = cc

pub refused-flushed : (job : Job) {ended : Bool} {source : Movement} {t₀ t₁ t₂ p q : Option (List ℕ)} {f₀ f₁ f₂ : ℕ}
    {messages : Movement} {status : ℕ} {x last : RunError}
    → RunRan job (ends_by ended source (changed t₀ t₁ f₀ f₁) p) (Err x)
    → Flushed x (changed t₁ t₂ f₁ f₂) last → status ≡ 3 → IsReported messages last
    → JobRan job (ends_by ended source (changed t₀ t₂ f₀ f₂) q) messages status
refused-flushed job {ended} {source} {t₀} {p = p} {f₀ = f₀} {f₁} {messages = messages} {x = x} r f s l = record {
  answer = Err x;
  failed = f₁;
  passed = p;
  run = subst (λ v. RunRan job (ends_by ended source (changed t₀ v f₀ f₁) p) (Err x)) (sym f.0) r;
  reported = (
    s,
    elim f.1 [
      | inl k ↦ inl (k.1, subst (IsReported messages) k.0 l)
      | inr k ↦ inr (k.0, k.2, subst (IsReported messages) k.1 l)
    ],
  );
}

-- where the sink did not fail, it was flushed
pub passed-on : (job : Job)
    {ended : Bool} {source : Movement} {t₀ t₁ t₂ p : Option (List ℕ)} {f₀ f₁ f₂ : ℕ} {x last : RunError} {P : Type 0}
    → RunRan job (ends_by ended source (changed t₀ t₁ f₀ f₁) p) (Err x)
    → Flushed x (changed t₁ t₂ f₁ f₂) last → (f₂ ≡ f₁ → x ≢ Write → P) → f₂ ≡ f₀ → P
passed-on job {f₀ = f₀} {f₁} {f₂} {x} r f p h =
    let n : x ≢ Write = λ e. let v : f₁ ≡ f₀ + 1
    = run-write r (ap (λ w. Err w) e) in elim f.1 [
      | inl k ↦ let i = k.1 in omega arith
      | inr k ↦ k.0 e
    ] in
    let v : f₁ ≡ f₀ = run-sink_quiet (Err x) r (λ e. n (error-is e)) in
    p (omega arith) n

-- a run that read its input to the end
pub done : (job : Job) {ended : Bool} {source messages : Movement} {t₀ t₁ p : Option (List ℕ)} {f₀ f₁ : ℕ} {status : ℕ}
    {n : Counts} → RunRan job (ends_by ended source (changed t₀ t₁ f₀ f₁) p) (Ok n)
    → status ≡ 0 → messages.new ≡ messages.old → Quiet messages
    → JobRan job (ends_by ended source (changed t₀ t₁ f₀ f₁) p) messages status
done job {p = p} {f₁ = f₁} {n = n} r s e q = record {
  answer = Ok n;
  failed = f₁;
  passed = p;
  run = r;
  reported = (s, refl, e, q);
}

-- the status is 0 exactly where the input has ended as it should, and neither end has failed
module _ (job : Job) (ends : Ends) (messages : Movement) (status failed : ℕ) (passed : Option (List ℕ))
    (b : List ℕ) where
  forth : (r : Result Counts RunError)
      → RunRan job (record ends { sink = before_flush ends.sink failed; passed = passed }) r
      → AnswerReported r failed ends.sink messages status → Told ends.source.old ends.source.new b → status ≡ 0
      → IsDone job b ends
  forth (Ok n) run reported t zero =
      let ran = run-told run b t in
      record {
        input = ran.0.input;
        few = ran.0.short;
        end = ran.0.end;
        read = ran.2;
        written = reported.1 ∙ ran.3;
      }
  forth (Err e) run reported t zero = let three = reported.0 in absurd (omega arith)

  back : (r : Result Counts RunError)
      → RunRan job (record ends { sink = before_flush ends.sink failed; passed = passed }) r
      → AnswerReported r failed ends.sink messages status → Told ends.source.old ends.source.new b
      → IsDone job b ends → status ≡ 0
  back (Ok n) run reported t is = reported.0
  back (Err e) run reported t is = absurd (elim reported.1 [
    | inl k ↦ fails (Err e) refl
        (run-owed run b t (no-cell-cause job.input most b ends.ended is.input is.few) is.read (sym k.0 ∙ is.written))
    | inr k ↦ let quiet = run-sink_quiet (Err e) run (λ w. k.0 (error-is w)) in
        let flush = k.1 in let all = is.written in omega arith
  ])
    where
      fails : (a : Result Counts RunError) → a ≡ Err e → IsOk a → ⊥
      fails (Ok n) same ok = cc
      fails (Err x) same ok = cc

pub done_exactly : (job : Job) {ends : Ends} {messages : Movement} {status : ℕ}
    → JobRan job ends messages status → (b : List ℕ) → Told ends.source.old ends.source.new b
    → (status ≡ 0) ↔ IsDone job b ends
done_exactly job {ends} {messages} {status} ran b t = (
  forth job ends messages status ran.failed ran.passed b ran.answer ran.run ran.reported t,
  back job ends messages status ran.failed ran.passed b ran.answer ran.run ran.reported t,
)
