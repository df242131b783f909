-- A job on raw octets, by what it is told of them.
use Rattle.std.proofs.Common.{◌≡◌, ◌&&◌, ℕ, Bool, true, false, List, Option, subst, sym}
use Rattle.std.specs.Prelude.{IsTrue}
use Rattle.aes3_cell_octets.specs.Told.{raw_told}
use Rattle.aes3_status.specs.declared.typed_settings.TypedSettings.{TypedSettings}
use Rattle.aes3_cli_jobs.specs.Forms.{reads_packed}
use Rattle.aes3_cli_jobs.specs.declared.job.Job.{Job}
use Rattle.aes3_cli_arguments.specs.declared.layout.Octets.{Octets}
use Rattle.aes3_program.specs.OctetRuns.{PackedRan, RawBy, RawRan, SourceRan, read_as}
use Rattle.aes3_program.specs.Streams.{Streams}

pub raw-ran : (Ran : Streams → Type 0) (streams : Streams) {u₀ : Option (List ℕ)} {g₀ : ℕ} {first counted told_end : Bool}
    → first ≡ false → u₀ ≡ streams.source.old → g₀ ≡ streams.source.failed_old
    → (IsTrue counted → IsTrue streams.ended) → (IsTrue told_end → IsTrue counted)
    → Ran (read_as told_end (record {
      old = raw_told first u₀;
      new = raw_told counted streams.source.new;
      failed_old = g₀;
      failed_new = streams.source.failed_new;
    }) streams)
    → RawRan Ran streams
raw-ran Ran streams {u₀} {g₀} {counted = counted} {told_end} none old failed behind before ran =
    let new = raw_told counted streams.source.new in
    let failures = streams.source.failed_new in
    record {
      counted = counted;
      told_end = told_end;
      behind_all = behind;
      before_end = before;
      ran = subst (λ (f : ℕ). Ran (read_as told_end
          (record { old = streams.source.old; new = new; failed_old = f; failed_new = failures }) streams)) failed
          (subst (λ (u : Option (List ℕ)). Ran (read_as told_end
          (record { old = u; new = new; failed_old = g₀; failed_new = failures }) streams)) old
          (subst (λ (b : Bool). Ran (read_as told_end
          (record { old = raw_told b u₀; new = new; failed_old = g₀; failed_new = failures }) streams)) none ran));
    }

-- the same by the layout
pub source-raw : (octets : Octets) (job : Job) (typed : TypedSettings) {reversed : Bool} (streams : Streams) (status : ℕ)
    → octets.raw_in ≡ true → reversed ≡ (octets.lsb_first && reads_packed job)
    → RawRan (λ streams. PackedRan reversed job typed streams status) streams
    → SourceRan octets job typed streams status
source-raw octets job typed streams status raw is ran =
    subst (λ (r : Bool). RawBy r
    (λ streams. PackedRan (octets.lsb_first && reads_packed job) job typed streams status) streams) (sym raw)
    (subst (λ (t : Bool). RawRan (λ streams. PackedRan t job typed streams status) streams) is ran)
