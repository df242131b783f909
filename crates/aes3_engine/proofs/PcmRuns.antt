-- Runs that read cells and write samples in a form.
use Rattle.std.proofs.Common.{◌≡◌, ℕ, ◌%◌, List, [], ◌∷◌, ◌++◌, Bool, Result, Ok, Err, IfOk, length, map, refl, sym}
use Rattle.std.proofs.Common.{ap, ◌∙◌}
use Rattle.std.proofs.Common.{arith, length-append}
use Rattle.std.specs.List.{flat_map, All}
use Rattle.aes3_level.specs.declared.level.Level.{Level}
use Rattle.aes3_cell.specs.declared.counts.Counts.{Counts}
use Rattle.aes3_cell.specs.declared.form.Form.{Form}
use Rattle.aes3_refusals.specs.declared.run_error.RunError.{RunError}
use Rattle.aes3_cell.specs.Ends.{Grew, Told}
use Rattle.aes3_cell.specs.Written.{written}
use Rattle.aes3_cell.proofs.Growing.{grew-is}
use Rattle.aes3_frame.specs.Blocks.{IsBlock}
use Rattle.aes3_frame.specs.Files.{word_bytes}
use Rattle.aes3_frame.specs.Samples.{block_samples, sample_of}
use Rattle.aes3_forms_samples.specs.declared.sample_format.SampleFormat.{SampleFormat}
use Rattle.aes3_forms_samples.specs.Formats.{narrowed}
use Rattle.aes3_forms_samples.proofs.Formats.{narrowed-join, narrowed-none}
use Rattle.aes3_lock.specs.Reports.{blocks, decided, normal, reports}
use Rattle.aes3_input.specs.Inputs.{cells_of}
use Rattle.aes3_input.specs.Running.{Ends}
use Rattle.aes3_lock_runs.specs.BlockRuns.{decided_blocks, report_bytes, written_stream}
use Rattle.aes3_lock_runs.specs.ReportRuns.{ReportRun, output}
use Rattle.aes3_lock_runs.proofs.BlockRuns.{alike-begun, alike-whole, run-alike, run-back, run-normal}
use Rattle.aes3_engine.specs.ValidSamples.{valid_block_samples, valid_sample}

-- whole samples of 32 bits one behind the other, and words
pub join-whole : (p q : List ℕ) → length p % 4 ≡ 0 → length q % 4 ≡ 0 → length (p ++ q) % 4 ≡ 0
join-whole p q h k = let l = length-append p q in omega arith

bytes-whole : (ws : List ℕ) → length (flat_map word_bytes ws) % 4 ≡ 0
bytes-whole [] = refl
bytes-whole (w ∷ ws) = let r = bytes-whole ws in omega arith

pub block-whole : (b : List (List Bool)) → length (block_samples b) % 4 ≡ 0
unfolding block_samples
block-whole b = bytes-whole (map sample_of b)

pub valid-whole : (b : List (List Bool)) → length (valid_block_samples b) % 4 ≡ 0
unfolding valid_block_samples
valid-whole b = bytes-whole (map valid_sample b)

-- blocks whose bytes g are whole samples, in a form
module _ (pcm : SampleFormat) (g : List (List Bool) → List ℕ)
    (whole : (b : List (List Bool)) → length (g b) % 4 ≡ 0) where
  abbrev one : List (List Bool) → List ℕ
  one b = narrowed pcm (g b)

  pub narrowed-blocks : (bs : List (List (List Bool))) → flat_map one bs ≡ narrowed pcm (flat_map g bs)
  narrowed-blocks [] = sym (narrowed-none pcm)
  narrowed-blocks (b ∷ bs) =
      ap (λ v. narrowed pcm (g b) ++ v) (narrowed-blocks bs) ∙ sym (narrowed-join pcm (g b) (flat_map g bs) (whole b))

  pub narrowed-whole : (c : List Level)
      → output (report_bytes (λ n b. one b)) (reports c) ++ [] ≡ narrowed pcm (flat_map g (blocks c))
  narrowed-whole c = alike-whole one c ∙ narrowed-blocks (blocks c)

  pub narrowed-begun : (c : List Level)
      → output (report_bytes (λ n b. one b)) (decided c) ≡ narrowed pcm (flat_map g (decided_blocks c))
  narrowed-begun c = alike-begun one c ∙ narrowed-blocks (decided_blocks c)

  pub narrowed-alike : {max : ℕ} (input : Form) {ends : Ends} (r : Result Counts RunError)
      → ReportRun max input (report_bytes (λ n b. one b)) [] ends r
      → IfOk r (λ (n : Counts). (b : List ℕ) (ds : List (List (List Bool))) → Told ends.source.old ends.source.new b
      → blocks (cells_of input b) ≡ ds → Grew ends.sink.old ends.sink.new (narrowed pcm (flat_map g ds)))
  narrowed-alike input (Ok n) run =
      λ b ds t e. grew-is (narrowed-blocks ds) (run-alike input one (Ok n) run b ds t e)
  narrowed-alike input (Err e) run = tt

  pub narrowed-back : {max : ℕ} (input : Form) {ends : Ends} (r : Result Counts RunError)
      → ReportRun max input (report_bytes (λ n b. one b)) [] ends r
      → IfOk r (λ (n : Counts). (bs : List (List (List Bool))) → All IsBlock bs
      → Told ends.source.old ends.source.new (written_stream input bs)
      → Grew ends.sink.old ends.sink.new (narrowed pcm (flat_map g bs)))
  narrowed-back input (Ok n) run = λ bs a t. grew-is (narrowed-blocks bs) (run-back input one (Ok n) run bs a t)
  narrowed-back input (Err e) run = tt

  pub narrowed-normal : {max : ℕ} (input : Form) {ends : Ends} (r : Result Counts RunError)
      → ReportRun max input (report_bytes (λ n b. one b)) [] ends r
      → IfOk r (λ (n : Counts). (c : List Level) → Told ends.source.old ends.source.new (written input (normal c))
      → Grew ends.sink.old ends.sink.new (narrowed pcm (flat_map g (blocks c))))
  narrowed-normal input (Ok n) run = λ c t. grew-is (narrowed-blocks (blocks c)) (run-normal input one (Ok n) run c t)
  narrowed-normal input (Err e) run = tt
