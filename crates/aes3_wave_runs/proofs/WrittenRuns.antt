-- Runs that write WAV files.
use Rattle.std.proofs.Common.{◌≡◌, ◌≢◌, ℕ, ◌+◌, ◌%◌, List, [], ◌∷◌, ◌++◌, Bool, true, false, Option, None, Ok, Err}
use Rattle.std.proofs.Common.{Result, IfOk, length, refl, sym, ap, ap₂, ◌∙◌, subst}
use Rattle.std.specs.List.{flat_map}
use Rattle.aes3_level.specs.declared.level.Level.{Level}
use Rattle.aes3_cell.specs.declared.counts.Counts.{Counts}
use Rattle.aes3_cell.specs.declared.form.Form.{Form}
use Rattle.aes3_refusals.specs.declared.run_error.RunError.{RunError}
use Rattle.aes3_cell.specs.Ends.{Grew, Told}
use Rattle.aes3_forms_samples.specs.declared.sample_format.SampleFormat.{SampleFormat}
use Rattle.aes3_forms_samples.specs.declared.sample_format.SampleFormat.TheVariants.{S16}
use Rattle.aes3_forms_samples.specs.Formats.{narrowed}
use Rattle.aes3_forms_samples.proofs.Formats.{narrowed-none}
use Rattle.aes3_frame.specs.declared.fill.Fill.{Fill}
use Rattle.aes3_frame.specs.Blocks.{zero_block}
use Rattle.aes3_frame.specs.Samples.{block_samples, samples}
use Rattle.aes3_input.specs.Driving.{over_cells}
use Rattle.aes3_input.specs.Inputs.{cells_of}
use Rattle.aes3_input.specs.Running.{Ends, InputRun, Promise}
use Rattle.aes3_input.specs.Taking.{Writing, before_end, with_end}
use Rattle.aes3_input.proofs.CellRuns.{cells-give}
use Rattle.aes3_input.proofs.InputRuns.{Gives, run-err, run-ok, run-told}
use Rattle.aes3_lock.specs.declared.report.Report.{Report}
use Rattle.aes3_lock.specs.declared.report.Report.TheVariants.{Whole, Marked, Fault, Unfinished}
use Rattle.aes3_lock.specs.Reports.{blocks, decided, reports, wholes}
use Rattle.aes3_lock_runs.specs.declared.listeners.ReportListener.{ReportListener}
use Rattle.aes3_lock_runs.specs.BlockRuns.{numbered, report_bytes}
use Rattle.aes3_lock_runs.specs.ReportRuns.{counts_of, heard_cells, output, report_writing}
use Rattle.aes3_lock_runs.specs.Reporting.{reporting}
use Rattle.aes3_lock_runs.proofs.ReportLemmas.{before-output, blocks-output, with-output}
use Rattle.aes3_lock_runs.proofs.Reports.{before-reports, with-reports}
use Rattle.aes3_engine.specs.declared.exact_samples.ExactBlocks.{ExactBlocks}
use Rattle.aes3_engine.specs.declared.filling.FilledBlocks.{FilledBlocks}
use Rattle.aes3_engine.specs.declared.mended.MendedBlocks.{MendedBlocks}
use Rattle.aes3_engine.specs.ExactSamples.{exact_samples, exact_writing, first_unfit}
use Rattle.aes3_engine.specs.FillSteps.{Apart, fill_writing, progress_of}
use Rattle.aes3_engine.specs.Filling.{Placed, filled, frames_filled, mended_from, placed}
use Rattle.aes3_engine.specs.MendSteps.{IsMendedOf, mend_writing}
use Rattle.aes3_engine.specs.ValidSamples.{valid_block_samples}
use Rattle.aes3_engine.proofs.ExactSamples.{all-given, before-exact, none-refused, with-exact}
use Rattle.aes3_engine.proofs.FillRuns.{is-filled, is-mended}
use Rattle.aes3_engine.proofs.FillSteps.{before-filled, with-filled}
use Rattle.aes3_engine.proofs.GivenBlocks.{before-mended, with-mended}
use Rattle.aes3_engine.proofs.PcmRuns.{block-whole, narrowed-begun, narrowed-whole, valid-whole}
use Rattle.aes3_wave.specs.declared.header_writing.Depth.{Depth}
use Rattle.aes3_wave.specs.declared.header_writing.Depth.TheVariants.{Sixteen, TwentyFour, ThirtyTwo}
use Rattle.aes3_wave.specs.Written.{written}
use Rattle.aes3_wave_runs.specs.declared.headed.Headed.{Headed}
use Rattle.aes3_wave_runs.specs.declared.options.ExactWave.{ExactWave}
use Rattle.aes3_wave_runs.specs.declared.options.FilledWave.{FilledWave}
use Rattle.aes3_wave_runs.specs.declared.options.WaveWritten.{WaveWritten}
use Rattle.aes3_wave_runs.specs.HeadedSamples.{IsOpened, IsQuiet, headed, headed_cells}
use Rattle.aes3_wave_runs.specs.ToWav.{IsNamed, begun_by, begun_wave, exact_pcm, exact_wave_cells, file_by, filled_pcm}
use Rattle.aes3_wave_runs.specs.ToWav.{filled_wave_cells, first_given, format_of, header_by, named_by, named_first}
use Rattle.aes3_wave_runs.specs.ToWav.{opened_by, rate_for, valid_pcm, valid_wave_cells, wave_cells, wave_of}
use Rattle.aes3_wave_runs.proofs.HeadedSamples.{before-headed, with-headed}

-- ---- nothing is written before the first block

none-whole : (r : List Report) → first_given false r ≡ None → wholes r ≡ []
none-whole [] h = refl
none-whole (Whole at s b ∷ r) h = cc
none-whole (Marked at s wrong ∷ r) h = none-whole r h
none-whole (Fault at cell why ∷ r) h = none-whole r h
none-whole (Unfinished at cells ∷ r) h = none-whole r h

none-placed : (r : List Report) → first_given false r ≡ None → placed r ≡ []
none-placed [] h = refl
none-placed (Whole at s b ∷ r) h = absurd cc
none-placed (Marked at s wrong ∷ r) h = none-placed r h
none-placed (Fault at cell why ∷ r) h = none-placed r h
none-placed (Unfinished at cells ∷ r) h = none-placed r h

none-mended : (fill : Fill) (c : List Level) (b : List (List Bool)) (r : List Report) → first_given true r ≡ None
    → mended_from fill c b r ≡ []
none-mended fill c b [] h = refl
none-mended fill c b (Whole at s own ∷ r) h = absurd cc
none-mended fill c b (Marked at s wrong ∷ r) h = absurd cc
none-mended fill c b (Fault at cell why ∷ r) h = none-mended fill c b r h
none-mended fill c b (Unfinished at cells ∷ r) h = none-mended fill c b r h

-- what reports write that write nothing before it
quiet-reports : (w : Writing Report) (f : List Report → List ℕ) → ((r : List Report) → before_end w r ≡ f r)
    → ((r : List Report) → first_given false r ≡ None → f r ≡ []) → IsQuiet false (reporting w)
quiet-reports w f is none c h = before-reports w c ∙ is (decided c) ∙ none (decided c) h

pub quiet-blocks : (f : List (List Bool) → List ℕ)
    → IsQuiet false (reporting (report_writing (report_bytes (λ n b. f b)) []))
quiet-blocks f =
    quiet-reports (report_writing (report_bytes (λ n b. f b)) []) (output (report_bytes (λ n b. f b)))
    (before-output (report_bytes (λ n b. f b)) [])
    (λ r h. blocks-output (λ n b. f b) 0 r ∙ ap (numbered (λ n b. f b) 0) (none-whole r h))

pub quiet-exact : (f : SampleFormat) → IsQuiet false (reporting (exact_writing f))
quiet-exact f =
    quiet-reports (exact_writing f) (λ r. exact_samples f (placed r)) (before-exact f)
    (λ r h. ap (exact_samples f) (none-placed r h) ∙ narrowed-none f)

pub quiet-filled : (f : SampleFormat) (fill : Fill) → IsQuiet false (reporting (fill_writing f fill))
quiet-filled f fill =
    quiet-reports (fill_writing f fill) (λ r. narrowed f (filled fill (placed r))) (before-filled f fill)
    (λ r h. ap (λ v. narrowed f (filled fill v)) (none-placed r h) ∙ narrowed-none f)

pub quiet-mended : (f : SampleFormat) (fill : Fill) → IsQuiet true (mend_writing f fill)
quiet-mended f fill c h =
    before-mended f fill c
    ∙ ap (λ v. narrowed f (filled fill v)) (none-mended fill c zero_block (decided c) h) ∙ narrowed-none f

-- ---- the run behind a header

-- of a listener with the header of this depth and rate, and samples that write w
same-headed : (m : Bool) {depth d : Depth} {rate o : Option ℕ} {w u : Writing Level} → d ≡ depth → o ≡ rate → u ≡ w
    → headed m d o u ≡ headed m depth rate w
same-headed m {depth} {d} {rate} {o} {w} {u} p q e =
    ap₂ (λ x y. headed m x y u) p q ∙ ap (headed m depth rate) e

abbrev HeardRun : {A : Type 0} → ℕ → Bool → Form → Depth → Option ℕ → Writing Level
    → (A → List Level → Type 0) → Ends → Result (Counts × Headed A) RunError → Type 0
HeardRun {A} max m form depth rate w z = InputRun (heard_cells form (headed m depth rate w)
    (λ (k : Headed A) c. IsOpened m k.header (reports c) × z k.samples c)) max

module _ {A : Type 0} {max : ℕ} (m : Bool) (form : Form) {depth d : Depth} {rate o : Option ℕ} {w u : Writing Level}
    (z : A → List Level → Type 0) (p : d ≡ depth) (q : o ≡ rate) (e : u ≡ w) (quiet : IsQuiet m w) where
  pub headed-ok : {n : Counts} {k : Headed A} {ends : Ends}
      → HeardRun max m form d o u z ends (Ok (n, k))
      → InputRun (headed_cells form depth rate m w z) max ends
      (Ok (record { counts = n; named = k.header.named }, k.samples))
  headed-ok run =
      run-ok (cells-give form
      (λ c. header_by depth rate (first_given m (reports c)) ++ with_end w c)
      (λ c. opened_by depth rate (first_given m (decided c)) ++ before_end w c)
      (λ c. ap (λ (v : Writing Level). with_end v c) (same-headed m p q e) ∙ with-headed m depth rate w quiet c)
      (λ c. ap (λ (v : Writing Level). before_end v c) (same-headed m p q e) ∙ before-headed m depth rate w quiet c))
      (λ b i h. (h.0, h.1.0.first, h.1.1)) run

  pub headed-err : {ends : Ends} {x : RunError}
      → HeardRun max m form d o u z ends (Err x)
      → InputRun (headed_cells form depth rate m w z) max ends (Err x)
  headed-err run =
      run-err (cells-give form
      (λ c. header_by depth rate (first_given m (reports c)) ++ with_end w c)
      (λ c. opened_by depth rate (first_given m (decided c)) ++ before_end w c)
      (λ c. ap (λ (v : Writing Level). with_end v c) (same-headed m p q e) ∙ with-headed m depth rate w quiet c)
      (λ c. ap (λ (v : Writing Level). before_end v c) (same-headed m p q e) ∙ before-headed m depth rate w quiet c)) run

-- what it promises of samples made of the reports
module _ {A B : Type 0} {max : ℕ} (m : Bool) (form : Form) (depth : Depth) (rate : Option ℕ) (w : Writing Level)
    (z : A → List Level → Type 0) (pcm : List Level → List Report → List ℕ) {answer : List ℕ → B → Type 0}
    (all : (c : List Level) → with_end w c ≡ pcm c (reports c))
    (begun : (c : List Level) → before_end w c ≡ pcm c (decided c)) where
  pub written-ok : {n : WaveWritten} {k : A} (x : B) {ends : Ends}
      → ((b : List ℕ) → n.counts ≡ counts_of form b → IsNamed form m b n.named → z k (cells_of form b) → answer b x)
      → InputRun (headed_cells form depth rate m w z) max ends (Ok (n, k))
      → InputRun (over_cells form (file_by depth rate m pcm) (begun_by depth rate m pcm) answer) max ends
      (Ok x)
  written-ok x k run =
      run-ok (cells-give form (file_by depth rate m pcm) (begun_by depth rate m pcm)
      (λ c. ap (λ v. header_by depth rate (first_given m (reports c)) ++ v) (all c))
      (λ c. ap (λ v. opened_by depth rate (first_given m (decided c)) ++ v) (begun c)))
      (λ b i h. k b h.0 h.1 h.2) run

  pub written-err : {ends : Ends} {e : RunError}
      → InputRun (headed_cells form depth rate m w z) max ends (Err e)
      → InputRun (over_cells form (file_by depth rate m pcm) (begun_by depth rate m pcm) answer) max ends
      (Err e)
  written-err run =
      run-err (cells-give form (file_by depth rate m pcm) (begun_by depth rate m pcm)
      (λ c. ap (λ v. header_by depth rate (first_given m (reports c)) ++ v) (all c))
      (λ c. ap (λ v. opened_by depth rate (first_given m (decided c)) ++ v) (begun c))) run

-- ---- each kind of samples

-- reports that write the bytes g of their blocks in a form
abbrev pub blocks_writing : SampleFormat → (List (List Bool) → List ℕ) → Writing Level
blocks_writing f g = reporting (report_writing (report_bytes (λ n b. narrowed f (g b))) [])

module _ (f : SampleFormat) (g : List (List Bool) → List ℕ) (whole : (b : List (List Bool)) → length (g b) % 4 ≡ 0) where
  blocks-all : (c : List Level) → with_end (blocks_writing f g) c ≡ narrowed f (flat_map g (wholes (reports c)))
  unfolding blocks
  blocks-all c =
      let bytes = report_bytes (λ n b. narrowed f (g b)) in
      with-reports (report_writing bytes []) c ∙ with-output bytes [] (reports c) ∙ narrowed-whole f g whole c

  blocks-begun : (c : List Level) → before_end (blocks_writing f g) c ≡ narrowed f (flat_map g (wholes (decided c)))
  blocks-begun c =
      let bytes = report_bytes (λ n b. narrowed f (g b)) in
      before-reports (report_writing bytes []) c ∙ before-output bytes [] (decided c) ∙ narrowed-begun f g whole c

-- what the reports say of the file of all blocks, said of the blocks
named-whole : (r : List Report) → named_first (first_given false r) ≡ named_by (wholes r)
named-whole [] = refl
named-whole (Whole at s b ∷ r) = refl
named-whole (Marked at s wrong ∷ r) = named-whole r
named-whole (Fault at cell why ∷ r) = named-whole r
named-whole (Unfinished at cells ∷ r) = named-whole r

named-blocks : (form : Form) (b : List ℕ)
    → named_first (first_given false (reports (cells_of form b))) ≡ named_by (blocks (cells_of form b))
unfolding blocks
named-blocks form b = named-whole (reports (cells_of form b))

abbrev all_pcm : Depth → List Level → List Report → List ℕ
all_pcm depth c r = narrowed (format_of depth) (samples (wholes r))

file-whole : (depth : Depth) (rate : Option ℕ) (c : List Level)
    → file_by depth rate false (all_pcm depth) c ≡ wave_of depth rate (blocks c)
unfolding blocks
file-whole depth rate c =
    ap (λ o. written depth (rate_for rate o) None ++ all_pcm depth c (reports c)) (named-whole (reports c))

begun-whole : (depth : Depth) (rate : Option ℕ) (r : List Report)
    → opened_by depth rate (first_given false r) ++ narrowed (format_of depth) (samples (wholes r))
    ≡ begun_wave depth rate (wholes r)
begun-whole depth rate [] = narrowed-none (format_of depth)
begun-whole depth rate (Whole at s b ∷ r) = refl
begun-whole depth rate (Marked at s wrong ∷ r) = begun-whole depth rate r
begun-whole depth rate (Fault at cell why ∷ r) = begun-whole depth rate r
begun-whole depth rate (Unfinished at cells ∷ r) = begun-whole depth rate r

abbrev all_cells : Form → Depth → Option ℕ → Promise WaveWritten
all_cells form depth rate =
    over_cells form (file_by depth rate false (all_pcm depth)) (begun_by depth rate false (all_pcm depth))
    (λ b n. (n.counts ≡ counts_of form b) × IsNamed form false b n.named)

gives-all : (form : Form) (depth : Depth) (rate : Option ℕ)
    → Gives (all_cells form depth rate) (wave_cells form depth rate)
gives-all form depth rate =
    cells-give form (λ c. wave_of depth rate (blocks c)) (λ c. begun_wave depth rate (wholes (decided c)))
    (file-whole depth rate) (λ c. begun-whole depth rate (decided c))

-- the run of a listener that writes the bytes g of blocks
abbrev BlocksRun : {A : Type 0} → ℕ → Form → Depth → Option ℕ → (A → List Level → Type 0) → (List (List Bool) → List ℕ)
    → Ends → Result (WaveWritten × A) RunError → SampleFormat → Type 0
BlocksRun max form depth rate z g ends r f =
    InputRun (headed_cells form depth rate false (blocks_writing f g) z) max ends r

module _ {A : Type 0} {max : ℕ} (form : Form) (depth : Depth) (rate : Option ℕ) {f : SampleFormat}
    (z : A → List Level → Type 0) (e : f ≡ format_of depth) {ends : Ends} where
  pub all-ok : {n : WaveWritten} {k : A} → BlocksRun max form depth rate z block_samples ends (Ok (n, k)) f
      → InputRun (wave_cells form depth rate) max ends (Ok n)
  all-ok {n} {k} run =
      let p = format_of depth in
      run-ok (gives-all form depth rate) (λ b i h. (h.0, h.1 ∙ named-blocks form b))
      (written-ok false form depth rate (blocks_writing p block_samples) z (all_pcm depth)
      (blocks-all p block_samples block-whole) (blocks-begun p block_samples block-whole) n (λ b q h t. (q, h))
      (subst (BlocksRun max form depth rate z block_samples ends (Ok (n, k))) e run))

  pub all-err : {x : RunError} → BlocksRun max form depth rate z block_samples ends (Err x) f
      → InputRun (wave_cells form depth rate) max ends (Err x)
  all-err {x} run =
      let p = format_of depth in
      run-err (gives-all form depth rate)
      (written-err false form depth rate (blocks_writing p block_samples) z (all_pcm depth)
      (blocks-all p block_samples block-whole) (blocks-begun p block_samples block-whole)
      (subst (BlocksRun max form depth rate z block_samples ends (Err x)) e run))

  pub valid-ok : {n x : WaveWritten} {k : A} → x ≡ n
      → BlocksRun max form depth rate z valid_block_samples ends (Ok (n, k)) f
      → InputRun (valid_wave_cells form depth rate) max ends (Ok x)
  valid-ok {n} {x} {k} is run =
      let p = format_of depth in
      written-ok false form depth rate (blocks_writing p valid_block_samples) z (valid_pcm depth)
      (blocks-all p valid_block_samples valid-whole) (blocks-begun p valid_block_samples valid-whole) x
      (λ b q h t. (ap (λ (v : WaveWritten). v.counts) is ∙ q, ap (λ (v : WaveWritten). v.named) is ∙ h))
      (subst (BlocksRun max form depth rate z valid_block_samples ends (Ok (n, k))) e run)

  pub valid-err : {x : RunError} → BlocksRun max form depth rate z valid_block_samples ends (Err x) f
      → InputRun (valid_wave_cells form depth rate) max ends (Err x)
  valid-err {x} run =
      let p = format_of depth in
      written-err false form depth rate (blocks_writing p valid_block_samples) z (valid_pcm depth)
      (blocks-all p valid_block_samples valid-whole) (blocks-begun p valid_block_samples valid-whole)
      (subst (BlocksRun max form depth rate z valid_block_samples ends (Err x)) e run)

-- exact in 16 bits
abbrev exact_done : ReportListener ExactBlocks → List Level → Type 0
exact_done k c = k.reporter.refused ≡ first_unfit S16 (placed (reports c))

abbrev ExactRun : ℕ → Form → Option ℕ → Ends
    → Result (WaveWritten × ReportListener ExactBlocks) RunError → Type 0
ExactRun max form rate = InputRun (headed_cells form Sixteen rate false (reporting (exact_writing S16)) exact_done) max

exact-all : (c : List Level) → with_end (reporting (exact_writing S16)) c ≡ exact_pcm Sixteen c (reports c)
exact-all c = with-reports (exact_writing S16) c ∙ with-exact S16 (reports c)

exact-begun : (c : List Level) → before_end (reporting (exact_writing S16)) c ≡ exact_pcm Sixteen c (decided c)
exact-begun c = before-reports (exact_writing S16) c ∙ before-exact S16 (decided c)

module _ {max : ℕ} (form : Form) (rate : Option ℕ) {ends : Ends} where
  pub exact-ok : {n : WaveWritten} {k : ReportListener ExactBlocks} {refused : Option ℕ} → refused ≡ k.reporter.refused
      → ExactRun max form rate ends (Ok (n, k))
      → InputRun (exact_wave_cells form Sixteen rate) max ends
      (Ok (record { exact = record { counts = n.counts; refused = refused }; named = n.named }))
  exact-ok {n} {k} is run =
      written-ok false form Sixteen rate (reporting (exact_writing S16)) exact_done (exact_pcm Sixteen) exact-all exact-begun _
      (λ b p q t. (p, is ∙ t, q)) run

  pub exact-err : {x : RunError} → ExactRun max form rate ends (Err x)
      → InputRun (exact_wave_cells form Sixteen rate) max ends (Err x)
  exact-err run =
      written-err false form Sixteen rate (reporting (exact_writing S16)) exact_done (exact_pcm Sixteen) exact-all exact-begun run

-- and in a width that holds 24
wide-format : (depth : Depth) → depth ≢ Sixteen → format_of depth ≢ S16
wide-format Sixteen h = absurd (h refl)
wide-format TwentyFour h = λ e. cc
wide-format ThirtyTwo h = λ e. cc

module _ (depth : Depth) (wide : depth ≢ Sixteen) where
  given-all : (c : List Level) (r : List Report) → all_pcm depth c r ≡ exact_pcm depth c r
  given-all c r =
      sym (all-given (format_of depth) r (none-refused (format_of depth) (wide-format depth wide) (placed r)))

module _ (depth : Depth) (rate : Option ℕ) (wide : depth ≢ Sixteen) where
  wide-all : (c : List Level) → wave_of depth rate (blocks c) ≡ file_by depth rate false (exact_pcm depth) c
  wide-all c =
      sym (file-whole depth rate c)
      ∙ ap (λ v. header_by depth rate (first_given false (reports c)) ++ v) (given-all depth wide c (reports c))

  wide-begun : (c : List Level) → begun_wave depth rate (wholes (decided c)) ≡ begun_by depth rate false (exact_pcm depth) c
  wide-begun c =
      sym (begun-whole depth rate (decided c))
      ∙ ap (λ v. opened_by depth rate (first_given false (decided c)) ++ v) (given-all depth wide c (decided c))

module _ (form : Form) (depth : Depth) (rate : Option ℕ) (wide : depth ≢ Sixteen) where
  pub wide-ok : {max : ℕ} {ends : Ends} {n : WaveWritten} → InputRun (wave_cells form depth rate) max ends (Ok n)
      → InputRun (exact_wave_cells form depth rate) max ends
      (Ok (record { exact = record { counts = n.counts; refused = None }; named = n.named }))
  wide-ok run =
      run-ok (cells-give form (file_by depth rate false (exact_pcm depth)) (begun_by depth rate false (exact_pcm depth))
      (wide-all depth rate wide) (wide-begun depth rate wide))
      (λ b i h. (
        h.0,
        sym (none-refused (format_of depth) (wide-format depth wide) (placed (reports (cells_of form b)))),
        h.1 ∙ sym (named-blocks form b),
      )) run

  pub wide-err : {max : ℕ} {ends : Ends} {x : RunError} → InputRun (wave_cells form depth rate) max ends (Err x)
      → InputRun (exact_wave_cells form depth rate) max ends (Err x)
  wide-err run =
      run-err (cells-give form (file_by depth rate false (exact_pcm depth)) (begun_by depth rate false (exact_pcm depth))
      (wide-all depth rate wide) (wide-begun depth rate wide)) run

-- filled, without the marked blocks and with them
abbrev filled_done : ReportListener FilledBlocks → List Level → Type 0
filled_done k c = k.reporter.progress ≡ progress_of k.reporter.fill (placed (reports c))

abbrev FilledRun : ℕ → Form → Depth → Option ℕ → Ends
    → Result (WaveWritten × ReportListener FilledBlocks) RunError → SampleFormat → Fill → Type 0
FilledRun max form depth rate ends r f fill =
    InputRun (headed_cells form depth rate false (reporting (fill_writing f fill)) filled_done) max ends r

-- the same form and the same filling
both-same : (P : SampleFormat → Fill → Type 0) {f p : SampleFormat} {l m : Fill} → f ≡ p → l ≡ m → P f l → P p m
both-same P {f} {p} {l} {m} d e x = subst (λ v. P v m) d (subst (P f) e x)

module _ (depth : Depth) where
  filled-all : (fill : Fill) (c : List Level)
      → with_end (reporting (fill_writing (format_of depth) fill)) c ≡ filled_pcm depth fill false c (reports c)
  filled-all fill c =
      with-reports (fill_writing (format_of depth) fill) c ∙ with-filled (format_of depth) fill (reports c)

  filled-begun : (fill : Fill) (c : List Level)
      → before_end (reporting (fill_writing (format_of depth) fill)) c ≡ filled_pcm depth fill false c (decided c)
  filled-begun fill c =
      before-reports (fill_writing (format_of depth) fill) c ∙ before-filled (format_of depth) fill (decided c)

module _ {max : ℕ} (form : Form) (depth : Depth) (rate : Option ℕ) {ends : Ends} where
  pub filled-ok : {f : SampleFormat} {l : Fill} (fill : Fill) {n : WaveWritten} {k : ReportListener FilledBlocks}
      {frames : ℕ} → f ≡ format_of depth → l ≡ fill
      → ((xs : List Placed) → Apart 0 xs → k.reporter.progress ≡ progress_of k.reporter.fill xs
      → n.counts.blocks + 0 ≡ length xs → frames ≡ frames_filled xs)
      → FilledRun max form depth rate ends (Ok (n, k)) f l
      → InputRun (filled_wave_cells form depth rate fill false) max ends
      (Ok (record { filled = record { counts = n.counts; frames = frames; marked = 0 }; named = n.named }))
  filled-ok fill {n} {k} d e told run =
      written-ok false form depth rate (reporting (fill_writing (format_of depth) fill)) filled_done (filled_pcm depth fill false)
      (filled-all depth fill) (filled-begun depth fill) _
      (λ b p q t. (p, is-filled form fill b k.reporter told p t, q))
      (both-same (FilledRun max form depth rate ends (Ok (n, k))) d e run)

  pub filled-err : {f : SampleFormat} {l : Fill} (fill : Fill) {x : RunError} → f ≡ format_of depth → l ≡ fill
      → FilledRun max form depth rate ends (Err x) f l
      → InputRun (filled_wave_cells form depth rate fill false) max ends (Err x)
  filled-err fill {x} d e run =
      written-err false form depth rate (reporting (fill_writing (format_of depth) fill)) filled_done
      (filled_pcm depth fill false) (filled-all depth fill) (filled-begun depth fill)
      (both-same (FilledRun max form depth rate ends (Err x)) d e run)

abbrev mended_done : MendedBlocks → List Level → Type 0
mended_done k c = IsMendedOf k c (reports c)

abbrev MendedRun : ℕ → Form → Depth → Option ℕ → Ends
    → Result (WaveWritten × MendedBlocks) RunError → SampleFormat → Fill → Type 0
MendedRun max form depth rate ends r f fill =
    InputRun (headed_cells form depth rate true (mend_writing f fill) mended_done) max ends r

module _ {max : ℕ} (form : Form) (depth : Depth) (rate : Option ℕ) {ends : Ends} where
  pub mended-ok : {f : SampleFormat} {l : Fill} (fill : Fill) {n : WaveWritten} {k : MendedBlocks} {frames marked : ℕ}
      → f ≡ format_of depth → l ≡ fill
      → ((xs : List Placed) → Apart 0 xs → k.filled.progress ≡ progress_of k.filled.fill xs
      → n.counts.blocks + k.marked ≡ length xs → frames ≡ frames_filled xs)
      → marked ≡ k.marked → MendedRun max form depth rate ends (Ok (n, k)) f l
      → InputRun (filled_wave_cells form depth rate fill true) max ends
      (Ok (record { filled = record { counts = n.counts; frames = frames; marked = marked }; named = n.named }))
  mended-ok fill {n} {k} d e told marks run =
      written-ok true form depth rate (mend_writing (format_of depth) fill) mended_done (filled_pcm depth fill true)
      (with-mended (format_of depth) fill) (before-mended (format_of depth) fill) _
      (λ b p q t. (p, is-mended form fill b k told marks p t, q))
      (both-same (MendedRun max form depth rate ends (Ok (n, k))) d e run)

  pub mended-err : {f : SampleFormat} {l : Fill} (fill : Fill) {x : RunError} → f ≡ format_of depth → l ≡ fill
      → MendedRun max form depth rate ends (Err x) f l
      → InputRun (filled_wave_cells form depth rate fill true) max ends (Err x)
  mended-err fill {x} d e run =
      written-err true form depth rate (mend_writing (format_of depth) fill) mended_done (filled_pcm depth fill true)
      (with-mended (format_of depth) fill) (before-mended (format_of depth) fill)
      (both-same (MendedRun max form depth rate ends (Err x)) d e run)

-- ---- the clauses of a file

pub file-clause : {A : Type 0} {max : ℕ} (input : Form) (whole begun : List Level → List ℕ) {answer : List ℕ → A → Type 0}
    {ends : Ends} (r : Result A RunError)
    → InputRun (over_cells input whole begun answer) max ends r
    → IfOk r (λ _. (b : List ℕ) → Told ends.source.old ends.source.new b → Grew ends.sink.old ends.sink.new (whole (cells_of input b)))
file-clause input whole begun (Ok n) run = λ b t. (run-told run b t).4
file-clause input whole begun (Err e) run = tt

pub width-is : {max : ℕ} (form : Form) (rate : Option ℕ) {depth d : Depth} {ends : Ends}
    {r : Result ExactWave RunError} → d ≡ depth → InputRun (exact_wave_cells form d rate) max ends r
    → InputRun (exact_wave_cells form depth rate) max ends r
width-is {max} form rate {ends} {r} e run =
    subst (λ (v : Depth). InputRun (exact_wave_cells form v rate) max ends r) e run

pub marked-is : {max : ℕ} (form : Form) (depth : Depth) (rate : Option ℕ) (fill : Fill) {m t : Bool} {ends : Ends}
    {r : Result FilledWave RunError} → t ≡ m
    → InputRun (filled_wave_cells form depth rate fill t) max ends r
    → InputRun (filled_wave_cells form depth rate fill m) max ends r
marked-is {max} form depth rate fill {ends = ends} {r} e run =
    subst (λ (v : Bool). InputRun (filled_wave_cells form depth rate fill v) max ends r) e run
