-- Runs that write samples up to the first block that would lose some of them.
use Rattle.std.proofs.Common.{◌≡◌, ◌≢◌, ℕ, List, [], ◌∷◌, ◌++◌, Bool, true, false, Option, Some, None, Result, Ok, Err}
use Rattle.std.proofs.Common.{IfOk, map, refl, sym, ap, ◌∙◌, subst, append-nil, append_assoc, if◌then◌else◌}
use Rattle.aes3_cell.specs.declared.form.Form.{Form}
use Rattle.aes3_refusals.specs.declared.run_error.RunError.{RunError}
use Rattle.aes3_cell.specs.declared.counts.Counts.{Counts}
use Rattle.aes3_cell.specs.Ends.{Grew, Told}
use Rattle.aes3_cell.proofs.Growing.{grew-is}
use Rattle.aes3_frame.specs.Samples.{block_samples, samples}
use Rattle.aes3_lock.specs.declared.report.Report.{Report}
use Rattle.aes3_lock.specs.declared.report.Report.TheVariants.{Whole, Marked, Fault, Unfinished}
use Rattle.aes3_lock.specs.Reports.{blocks, decided, reports, wholes}
use Rattle.aes3_input.specs.Running.{Ends, InputRun}
use Rattle.aes3_input.specs.Taking.{before_end, with_end}
use Rattle.aes3_input.specs.Inputs.{cells_of}
use Rattle.aes3_input.specs.Driving.{CellRun}
use Rattle.aes3_input.proofs.CellRuns.{cells-give}
use Rattle.aes3_input.proofs.InputRuns.{run-err, run-ok, run-told}
use Rattle.aes3_input.proofs.Items.{before-is}
use Rattle.aes3_forms_samples.specs.declared.sample_format.SampleFormat.{SampleFormat}
use Rattle.aes3_forms_samples.specs.declared.sample_format.SampleFormat.TheVariants.{S32, S24, S24In32, S16}
use Rattle.aes3_forms_samples.specs.Formats.{fits, narrowed}
use Rattle.aes3_forms_samples.proofs.Formats.{narrowed-join, narrowed-none}
use Rattle.aes3_lock_runs.specs.BlockRuns.{decided_blocks}
use Rattle.aes3_lock_runs.specs.ReportRuns.{counts_of, told_reports}
use Rattle.aes3_engine.specs.declared.exact_samples.Exact.{Exact}
use Rattle.aes3_engine.specs.declared.exact_samples.ExactBlocks.{ExactBlocks}
use Rattle.aes3_engine.specs.Filling.{Placed, placed}
use Rattle.aes3_engine.specs.ExactSamples.{block_fits, exact_cells, exact_samples, exact_writing, first_unfit, fitting}
use Rattle.aes3_engine.specs.ExactSamples.{refused_behind, unless_refused}
use Rattle.aes3_engine.proofs.FillSteps.{placed-append}
use Rattle.aes3_engine.proofs.PcmRuns.{block-whole}

-- more blocks behind others
unfit-append : (f : SampleFormat) (xs ys : List Placed)
    → first_unfit f (xs ++ ys) ≡ refused_behind f (first_unfit f xs) ys
unfit-append f [] ys = refl
unfit-append f (x ∷ xs) ys = go (block_fits f x.block) (unfit-append f xs ys)
  where
    go : (b : Bool) → first_unfit f (xs ++ ys) ≡ refused_behind f (first_unfit f xs) ys
        → ◌≡◌ {A = Option ℕ} (if b then first_unfit f (xs ++ ys) else Some x.place)
        (refused_behind f (if b then first_unfit f xs else Some x.place) ys)
    go true e = e
    go false e = refl

exact-append : (f : SampleFormat) (xs ys : List Placed)
    → exact_samples f (xs ++ ys) ≡ exact_samples f xs ++ unless_refused (first_unfit f xs) (exact_samples f ys)
exact-append f [] ys = ap (λ v. v ++ exact_samples f ys) (sym (narrowed-none f))
exact-append f (x ∷ xs) ys = go (block_fits f x.block) (exact-append f xs ys)
  where
    s : List ℕ
    s = block_samples x.block

    go : (b : Bool)
        → exact_samples f (xs ++ ys)
        ≡ exact_samples f xs ++ unless_refused (first_unfit f xs) (exact_samples f ys)
        → narrowed f (samples (if b then x.block ∷ fitting f (xs ++ ys) else []))
        ≡ narrowed f (samples (if b then x.block ∷ fitting f xs else []))
        ++ unless_refused (if b then first_unfit f xs else Some x.place) (exact_samples f ys)
    go true e =
        narrowed-join f s (samples (fitting f (xs ++ ys))) (block-whole x.block)
        ∙ ap (λ v. narrowed f s ++ v) e
        ∙ sym (append_assoc (narrowed f s) (exact_samples f xs)
        (unless_refused (first_unfit f xs) (exact_samples f ys)))
        ∙ ap (λ v. v ++ unless_refused (first_unfit f xs) (exact_samples f ys))
        (sym (narrowed-join f s (samples (fitting f xs)) (block-whole x.block)))
    go false e = sym (append-nil (narrowed f []))

-- what reports write
pub before-exact : (f : SampleFormat) (r : List Report)
    → before_end (exact_writing f) r ≡ exact_samples f (placed r)
unfolding exact_writing
before-exact f r =
    before-is (exact_writing f) (λ q. exact_samples f (placed q)) (narrowed-none f)
    (λ q x. ap (exact_samples f) (placed-append q (x ∷ [])) ∙ exact-append f (placed q) (placed (x ∷ []))) r

pub with-exact : (f : SampleFormat) (r : List Report) → with_end (exact_writing f) r ≡ exact_samples f (placed r)
unfolding with_end exact_writing
with-exact f r = append-nil (before_end (exact_writing f) r) ∙ before-exact f r

-- one more report
pub refused-next : (k k' : Option ℕ) (r : List Report) (x : Report) → k' ≡ refused_behind S16 k (placed (x ∷ []))
    → k ≡ first_unfit S16 (placed r) → k' ≡ first_unfit S16 (placed (r ++ x ∷ []))
refused-next k k' r x p q =
    p ∙ ap (λ (v : Option ℕ). refused_behind S16 v (placed (x ∷ []))) q
    ∙ sym (unfit-append S16 (placed r) (placed (x ∷ [])))
    ∙ ap (first_unfit S16) (sym (placed-append r (x ∷ [])))

pub adds-is : (k : Option ℕ) (r : List Report) (x : Report) → k ≡ first_unfit S16 (placed r)
    → unless_refused k (exact_samples S16 (placed (x ∷ []))) ≡ (exact_writing S16).adds r x
unfolding exact_writing
adds-is k r x e = ap (λ (v : Option ℕ). unless_refused v (exact_samples S16 (placed (x ∷ [])))) e

-- blocks of which none is refused
none-unfit : (f : SampleFormat) (xs : List Placed) → first_unfit f xs ≡ None
    → fitting f xs ≡ map (λ (x : Placed). x.block) xs
none-unfit f [] h = refl
none-unfit f (x ∷ xs) h = go (block_fits f x.block) h (none-unfit f xs)
  where
    go : (b : Bool) → ◌≡◌ {A = Option ℕ} (if b then first_unfit f xs else Some x.place) None
        → (first_unfit f xs ≡ None → fitting f xs ≡ map (λ (x : Placed). x.block) xs)
        → (if b then x.block ∷ fitting f xs else []) ≡ x.block ∷ map (λ (x : Placed). x.block) xs
    go true h ih = ap (λ v. x.block ∷ v) (ih h)
    go false h ih = absurd cc

placed-blocks : (r : List Report) → map (λ (x : Placed). x.block) (placed r) ≡ wholes r
placed-blocks [] = refl
placed-blocks (Whole at s b ∷ r) = ap (λ v. b ∷ v) (placed-blocks r)
placed-blocks (Marked at s wrong ∷ r) = placed-blocks r
placed-blocks (Fault at cell why ∷ r) = placed-blocks r
placed-blocks (Unfinished at cells ∷ r) = placed-blocks r

pub all-given : (f : SampleFormat) (r : List Report) → first_unfit f (placed r) ≡ None
    → exact_samples f (placed r) ≡ narrowed f (samples (wholes r))
all-given f r h = ap (λ v. narrowed f (samples v)) (none-unfit f (placed r) h ∙ placed-blocks r)

-- a form that holds 24 bits loses none
fits-wide : (f : SampleFormat) → f ≢ S16 → (b : List ℕ) → fits f b ≡ true
fits-wide S32 h b = refl
fits-wide S24 h b = refl
fits-wide S24In32 h b = refl
fits-wide S16 h b = absurd (h refl)

pub none-refused : (f : SampleFormat) → f ≢ S16 → (xs : List Placed) → first_unfit f xs ≡ None
none-refused f h [] = refl
none-refused f h (x ∷ xs) =
    ap (λ (v : Bool). if v then first_unfit f xs else Some x.place) (fits-wide f h (block_samples x.block))
    ∙ none-refused f h xs

-- the run in 16 bits
abbrev ExactRun : ℕ → Form → Ends → Result (Counts × ExactBlocks) RunError → Type 0
ExactRun max form = InputRun (told_reports form (exact_writing S16)
    (λ (k : ExactBlocks) r. k.refused ≡ first_unfit S16 (placed r))) max

pub exact-ok : {max : ℕ} (form : Form) {n : Counts} {k : ExactBlocks} {ends : Ends}
    → ExactRun max form ends (Ok (n, k))
    → InputRun (exact_cells form S16) max ends (Ok (record { counts = n; refused = k.refused }))
exact-ok form r =
    run-ok
    (cells-give form (λ c. exact_samples S16 (placed (reports c))) (λ c. exact_samples S16 (placed (decided c)))
    (λ c. with-exact S16 (reports c)) (λ c. before-exact S16 (decided c))) (λ b i h. h) r

pub exact-err : {max : ℕ} (form : Form) {ends : Ends} {x : RunError}
    → ExactRun max form ends (Err x) → InputRun (exact_cells form S16) max ends (Err x)
exact-err form r =
    run-err
    (cells-give form (λ c. exact_samples S16 (placed (reports c))) (λ c. exact_samples S16 (placed (decided c)))
    (λ c. with-exact S16 (reports c)) (λ c. before-exact S16 (decided c))) r

-- the run in another form
module _ (form : Form) (f : SampleFormat) (wide : f ≢ S16) where
  given : (r : List Report) → narrowed f (samples (wholes r)) ≡ exact_samples f (placed r)
  given r = sym (all-given f r (none-refused f wide (placed r)))

  pub wide-ok : {max : ℕ} {ends : Ends} {n : Counts}
      → CellRun max form (record {
        whole = λ c. narrowed f (samples (blocks c));
        begun = λ c. narrowed f (samples (decided_blocks c));
        counts = counts_of form;
      }) ends (Ok n)
      → InputRun (exact_cells form f) max ends (Ok (record { counts = n; refused = None }))
  unfolding blocks
  wide-ok r =
      run-ok
      (cells-give form (λ c. exact_samples f (placed (reports c))) (λ c. exact_samples f (placed (decided c)))
      (λ c. given (reports c)) (λ c. given (decided c)))
      (λ b i h. (h, sym (none-refused f wide (placed (reports (cells_of form b)))))) r

  pub wide-err : {max : ℕ} {ends : Ends} {x : RunError}
      → CellRun max form (record {
        whole = λ c. narrowed f (samples (blocks c));
        begun = λ c. narrowed f (samples (decided_blocks c));
        counts = counts_of form;
      }) ends (Err x)
      → InputRun (exact_cells form f) max ends (Err x)
  unfolding blocks
  wide-err r =
      run-err
      (cells-give form (λ c. exact_samples f (placed (reports c))) (λ c. exact_samples f (placed (decided c)))
      (λ c. given (reports c)) (λ c. given (decided c))) r

-- the run in any form
pub exact-is : {max : ℕ} (form : Form) {f h : SampleFormat} {ends : Ends}
    {r : Result Exact RunError} → f ≡ h → InputRun (exact_cells form f) max ends r
    → InputRun (exact_cells form h) max ends r
exact-is {max} form {f} {h} {ends} {r} e run =
    subst (λ (v : SampleFormat). InputRun (exact_cells form v) max ends r) e run

pub exact-all : {max : ℕ} (form : Form) (f : SampleFormat) {ends : Ends}
    (r : Result Exact RunError) → InputRun (exact_cells form f) max ends r
    → IfOk r (λ (n : Exact). (b : List ℕ) → n.refused ≡ None → Told ends.source.old ends.source.new b
    → Grew ends.sink.old ends.sink.new (narrowed f (samples (blocks (cells_of form b)))))
unfolding blocks
exact-all form f (Ok n) run = λ b e t.
    let ran = run-told run b t in
    grew-is (all-given f (reports (cells_of form b)) (sym ran.1.1 ∙ e)) ran.4
exact-all form f (Err e) run = tt
