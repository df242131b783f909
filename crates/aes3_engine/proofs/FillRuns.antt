-- The run that writes samples that keep time.
use Rattle.std.proofs.Common.{◌≡◌, ℕ, ◌+◌, ◌*◌, List, [], Bool, true, false, Result, Ok, Err, IfOk, None}
use Rattle.std.proofs.Common.{length, ap, ap₂, refl, sym, ◌∙◌, subst, arith}
use Rattle.aes3_cell.specs.declared.form.Form.{Form}
use Rattle.aes3_refusals.specs.declared.run_error.RunError.{RunError}
use Rattle.aes3_cell.specs.declared.counts.Counts.{Counts}
use Rattle.aes3_cell.specs.Ends.{Grew, Told}
use Rattle.aes3_cell.proofs.Growing.{grew-is}
use Rattle.aes3_frame.specs.declared.fill.Fill.{Fill}
use Rattle.aes3_frame.specs.Blocks.{zero_block}
use Rattle.aes3_frame.specs.Samples.{samples}
use Rattle.aes3_forms_samples.specs.declared.sample_format.SampleFormat.{SampleFormat}
use Rattle.aes3_forms_samples.specs.Formats.{narrowed}
use Rattle.aes3_lock.specs.Reports.{reports, decided, wholes, blocks}
use Rattle.aes3_input.specs.Running.{Ends, InputRun, Movement}
use Rattle.aes3_input.specs.Inputs.{cells_of}
use Rattle.aes3_input.proofs.CellRuns.{cells-give}
use Rattle.aes3_input.proofs.InputRuns.{run-ok, run-err, run-wrote}
use Rattle.aes3_lock_runs.specs.ReportRuns.{counts_of, heard_cells, told_reports}
use Rattle.aes3_engine.specs.declared.filling.Filled.{Filled}
use Rattle.aes3_engine.specs.Filling.{Placed, placed, given, marked_given, filled, frame_bytes, block_frames}
use Rattle.aes3_engine.specs.Filling.{frames_filled, InRow, KeepsTime}
use Rattle.aes3_engine.specs.FillRuns.{IsFilled, filled_cells, WroteFrames}
use Rattle.aes3_engine.specs.declared.filling.FilledBlocks.{FilledBlocks}
use Rattle.aes3_engine.specs.declared.mended.MendedBlocks.{MendedBlocks}
use Rattle.aes3_engine.specs.FillSteps.{Apart, fill_writing, progress_of}
use Rattle.aes3_engine.specs.MendSteps.{mend_writing, IsMendedOf}
use Rattle.aes3_engine.proofs.FillSteps.{before-filled, with-filled}
use Rattle.aes3_engine.proofs.FillTimes.{placed-count, apart-of, row-samples, length-filled, keeps-time}
use Rattle.aes3_engine.proofs.GivenBlocks.{before-mended, with-mended, count-mended, apart-mended, frames-same}
use Rattle.aes3_engine.proofs.GivenBlocks.{sized-given, apart-given, count-given, none-given}

abbrev pub FillRun : ℕ → Form → SampleFormat → Fill → Bool → Ends → Result Filled RunError
    → Type 0
FillRun max form pcm fill marked = InputRun (filled_cells form pcm fill marked) max

-- how many whole blocks a run counts
whole-count : (form : Form) (b : List ℕ) {n : Counts} → n ≡ counts_of form b
    → n.blocks ≡ length (wholes (reports (cells_of form b)))
unfolding counts_of blocks
whole-count form b e = ap (λ (v : Counts). v.blocks) e

-- the run that gives no marked block
abbrev TellRun : ℕ → Form → SampleFormat → Fill → Ends
    → Result (Counts × FilledBlocks) RunError → Type 0
TellRun max form pcm fill = InputRun (told_reports form (fill_writing pcm fill)
    (λ (k : FilledBlocks) r. k.progress ≡ progress_of k.fill (placed r))) max

pub is-filled : (form : Form) (fill : Fill) (b : List ℕ) (k : FilledBlocks) {n : Counts} {frames : ℕ}
    → ((xs : List Placed) → Apart 0 xs → k.progress ≡ progress_of k.fill xs → n.blocks + 0 ≡ length xs
    → frames ≡ frames_filled xs)
    → n ≡ counts_of form b → k.progress ≡ progress_of k.fill (placed (reports (cells_of form b)))
    → IsFilled (record { counts = n; frames = frames; marked = 0 }) false fill (cells_of form b)
is-filled form fill b k t h p =
    let c = cells_of form b in
    let l = placed-count (reports c) in
    let d = whole-count form b h in
    record { frames = t (placed (reports c)) (apart-of c) p (omega arith); blocks = refl }

pub fill-ok : {max : ℕ} (form : Form) (pcm : SampleFormat) (fill : Fill) {n : Counts} {k : FilledBlocks} {frames : ℕ}
    {ends : Ends}
    → ((xs : List Placed) → Apart 0 xs → k.progress ≡ progress_of k.fill xs → n.blocks + 0 ≡ length xs
    → frames ≡ frames_filled xs)
    → TellRun max form pcm fill ends (Ok (n, k))
    → FillRun max form pcm fill false ends (Ok (record { counts = n; frames = frames; marked = 0 }))
fill-ok form pcm fill {k = k} t r =
    run-ok (cells-give form (λ c. narrowed pcm (filled fill (placed (reports c))))
    (λ c. narrowed pcm (filled fill (placed (decided c)))) (λ c. with-filled pcm fill (reports c))
    (λ c. before-filled pcm fill (decided c)))
    (λ b i h. (h.0, is-filled form fill b k t h.0 h.1)) r

pub fill-err : {max : ℕ} (form : Form) (pcm : SampleFormat) (fill : Fill) {ends : Ends}
    {x : RunError} → TellRun max form pcm fill ends (Err x)
    → FillRun max form pcm fill false ends (Err x)
fill-err form pcm fill r =
    run-err (cells-give form (λ c. narrowed pcm (filled fill (placed (reports c))))
    (λ c. narrowed pcm (filled fill (placed (decided c)))) (λ c. with-filled pcm fill (reports c))
    (λ c. before-filled pcm fill (decided c))) r

-- the run that gives them
abbrev HearRun : ℕ → Form → SampleFormat → Fill → Ends
    → Result (Counts × MendedBlocks) RunError → Type 0
HearRun max form pcm fill = InputRun (heard_cells form (mend_writing pcm fill)
    (λ (k : MendedBlocks) c. IsMendedOf k c (reports c))) max

pub is-mended : (form : Form) (fill : Fill) (b : List ℕ) (k : MendedBlocks) {n : Counts} {frames marked : ℕ}
    → ((xs : List Placed) → Apart 0 xs → k.filled.progress ≡ progress_of k.filled.fill xs
    → n.blocks + k.marked ≡ length xs → frames ≡ frames_filled xs)
    → marked ≡ k.marked → n ≡ counts_of form b → IsMendedOf k (cells_of form b) (reports (cells_of form b))
    → IsFilled (record { counts = n; frames = frames; marked = marked }) true fill (cells_of form b)
is-mended form fill b k t z h p =
    let c = cells_of form b in
    let own = k.filled.fill in
    let q = count-mended own c (reports c) in
    let d = whole-count form b h in
    let v = p.marked in
    record {
      frames = t (given true own c (reports c)) (apart-mended own c) p.progress (omega arith)
          ∙ frames-same own fill c (reports c);
      blocks = z ∙ v;
    }

pub mend-ok : {max : ℕ} (form : Form) (pcm : SampleFormat) (fill : Fill) {n : Counts} {k : MendedBlocks} {frames marked : ℕ}
    {ends : Ends}
    → ((xs : List Placed) → Apart 0 xs → k.filled.progress ≡ progress_of k.filled.fill xs
    → n.blocks + k.marked ≡ length xs → frames ≡ frames_filled xs)
    → marked ≡ k.marked
    → HearRun max form pcm fill ends (Ok (n, k))
    → FillRun max form pcm fill true ends
    (Ok (record { counts = n; frames = frames; marked = marked }))
mend-ok form pcm fill {k = k} t z r =
    run-ok (cells-give form (λ c. narrowed pcm (filled fill (given true fill c (reports c))))
    (λ c. narrowed pcm (filled fill (given true fill c (decided c)))) (with-mended pcm fill) (before-mended pcm fill))
    (λ b i h. (h.0, is-mended form fill b k t z h.0 h.1)) r

pub mend-err : {max : ℕ} (form : Form) (pcm : SampleFormat) (fill : Fill) {ends : Ends}
    {x : RunError} → HearRun max form pcm fill ends (Err x)
    → FillRun max form pcm fill true ends (Err x)
mend-err form pcm fill r =
    run-err (cells-give form (λ c. narrowed pcm (filled fill (given true fill c (reports c))))
    (λ c. narrowed pcm (filled fill (given true fill c (decided c)))) (with-mended pcm fill) (before-mended pcm fill))
    r

pub fill-same : {max : ℕ} (form : Form) (marked : Bool) {p q : SampleFormat} {f h : Fill} {ends : Ends}
    {r : Result Filled RunError} → p ≡ q → f ≡ h
    → FillRun max form p f marked ends r → FillRun max form q h marked ends r
fill-same {max} form marked {p} {q} {f} {h} {ends} {r} d e run =
    subst (λ (v : SampleFormat). FillRun max form v h marked ends r) d
    (subst (λ (v : Fill). FillRun max form p v marked ends r) e run)

-- a listener of no cell
pub nothing-mended : (k : MendedBlocks) → k.filled.progress ≡ None → k.before ≡ zero_block → k.marked ≡ 0
    → IsMendedOf k [] (decided [])
unfolding decided
nothing-mended k p b m = record { progress = p; before = b; marked = m }

-- its clauses
pub run-whole : {max : ℕ} (input : Form) (pcm : SampleFormat) (fill : Fill) (marked : Bool)
    {ends : Ends} (r : Result Filled RunError) → FillRun max input pcm fill marked ends r
    → IfOk r (λ (n : Filled). (b : List ℕ) → Told ends.source.old ends.source.new b
    → marked_given marked (reports (cells_of input b)) ≡ 0
    → Grew ends.sink.old ends.sink.new (narrowed pcm (filled fill (placed (reports (cells_of input b))))))
run-whole input pcm fill marked (Ok n) run =
    λ b t z. let c = cells_of input b in
    grew-is (ap (λ xs. narrowed pcm (filled fill xs)) (none-given marked fill c (reports c) z))
    (run-wrote (Ok n) run b t)
run-whole input pcm fill marked (Err e) run = tt

pub run-row : {max : ℕ} (input : Form) (pcm : SampleFormat) (fill : Fill) (marked : Bool)
    {ends : Ends} (r : Result Filled RunError) → FillRun max input pcm fill marked ends r
    → IfOk r (λ (n : Filled). (b : List ℕ) (p : ℕ) → Told ends.source.old ends.source.new b
    → marked_given marked (reports (cells_of input b)) ≡ 0
    → InRow p (placed (reports (cells_of input b)))
    → Grew ends.sink.old ends.sink.new (narrowed pcm (samples (blocks (cells_of input b)))))
run-row input pcm fill marked (Ok n) run =
    λ b p t z h. grew-is (ap (narrowed pcm) (row-samples fill p (cells_of input b) h))
    (run-whole input pcm fill marked (Ok n) run b t z)
run-row input pcm fill marked (Err e) run = tt

pub run-in-time : {max : ℕ} (input : Form) (pcm : SampleFormat) (fill : Fill) (marked : Bool)
    {ends : Ends} (r : Result Filled RunError) → FillRun max input pcm fill marked ends r
    → IfOk r (λ (n : Filled). (b : List ℕ) → Told ends.source.old ends.source.new b
    → (o : List ℕ) × Grew ends.sink.old ends.sink.new (narrowed pcm o)
    × KeepsTime o (given marked fill (cells_of input b) (reports (cells_of input b))))
run-in-time input pcm fill marked (Ok n) run =
    λ b t. let c = cells_of input b in (
      filled fill (given marked fill c (reports c)),
      run-wrote (Ok n) run b t,
      keeps-time fill 0 (given marked fill c (reports c)) (sized-given marked fill c) (apart-given marked fill c),
    )
run-in-time input pcm fill marked (Err e) run = tt

pub run-frames : {max : ℕ} (input : Form) (pcm : SampleFormat) (fill : Fill) (marked : Bool)
    {ends : Ends} (r : Result Filled RunError) → FillRun max input pcm fill marked ends r
    → IfOk r (λ (n : Filled). WroteFrames pcm n ends.sink)
unfolding counts_of blocks
run-frames input pcm fill marked (Ok n) run =
    let c = cells_of input run.bytes in
    let told = run.ran.1 in
    let xs = given marked fill c (reports c) in
    let k : n.counts.blocks ≡ length (wholes (reports c)) = ap (λ (v : Counts). v.blocks) told.0 in
    record {
      samples = filled fill xs;
      grew = run.ran.4;
      count = length-filled fill xs (sized-given marked fill c)
          ∙ ap₂ (λ (l m : ℕ). frame_bytes * (block_frames * l + m))
          (sym (ap₂ ◌+◌ k told.1.blocks ∙ count-given marked fill c (reports c))) (sym told.1.frames);
    }
run-frames input pcm fill marked (Err e) run = tt
