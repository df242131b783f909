-- The run that writes changed blocks, and what it tells of their settings.
use Rattle.std.proofs.Common.{◌≡◌, ℕ, ◌<◌, List, [], ◌∷◌, ◌++◌, Bool, true, false, Result, Ok, Err, Some}
use Rattle.std.proofs.Common.{◌||◌, append-nil, length, refl, ap, ap₂, ◌∙◌, sym, subst, arith, map}
use Rattle.std.specs.List.{All, list_any}
use Rattle.std.proofs.lemmas.List.{get_or-map, length-map}
use Rattle.aes3_level.specs.declared.level.Level.{Level}
use Rattle.aes3_cell.specs.declared.form.Form.{Form}
use Rattle.aes3_refusals.specs.declared.run_error.RunError.{RunError}
use Rattle.aes3_cell.specs.declared.counts.Counts.{Counts}
use Rattle.aes3_cell.specs.Written.{ending}
use Rattle.aes3_frame.specs.declared.block.Channel.{Channel}
use Rattle.aes3_frame.specs.declared.block.Channel.TheVariants.{First, Second}
use Rattle.aes3_frame.specs.Statuses.{status_of}
use Rattle.aes3_frame.proofs.StatusBits.{status_len_24}
use Rattle.aes3_block.proofs.StatusLaws.{length-status_of}
use Rattle.aes3_lock.specs.declared.report.Report.{Report}
use Rattle.aes3_lock.specs.declared.report.Report.TheVariants.{Whole, Marked, Fault, Unfinished}
use Rattle.aes3_lock.specs.Reports.{blocks, reports, decided, wholes}
use Rattle.aes3_lock.proofs.AllStanding.{wholes-append}
use Rattle.aes3_status.specs.declared.change.Change.{Change}
use Rattle.aes3_status.specs.declared.setting.Settings.{Settings}
use Rattle.aes3_status.specs.declared.taken.Taken.{Taken}
use Rattle.aes3_status.specs.Taken.{nothing_taken, taken_by}
use Rattle.aes3_status.proofs.TakenKinds.{nothing-taken, same-taken}
use Rattle.aes3_input.specs.Running.{Ends, InputRun}
use Rattle.aes3_input.specs.Taking.{Writing}
use Rattle.aes3_input.specs.Inputs.{cells_of}
use Rattle.aes3_input.proofs.InputRuns.{Gives, run-ok, run-err}
use Rattle.aes3_lock_runs.specs.ReportRuns.{counts_of, report_writing, told_reports}
use Rattle.aes3_lock_runs.specs.BlockRuns.{report_bytes}
use Rattle.aes3_lock_runs.proofs.ReportLemmas.{before-output, with-output}
use Rattle.aes3_engine.specs.declared.rewriting_runs.MetKinds.{MetKinds}
use Rattle.aes3_engine.specs.declared.rewriting_runs.Rewritten.{Rewritten}
use Rattle.aes3_engine.specs.declared.rewriting_runs.RewrittenBlocks.{RewrittenBlocks}
use Rattle.aes3_engine.specs.Rewriting.{rewritten_block}
use Rattle.aes3_engine.specs.RewritingRuns.{AreMet, met_statuses, rewritten_answer, rewritten_cells, statuses_of}
use Rattle.aes3_engine.specs.RewritingRuns.{taken_of}
use Rattle.aes3_engine.proofs.RewrittenBlocks.{rewritten-whole, rewritten-begun}

-- ---- the statuses that were met, with one more report
pub met-whole : (met : MetKinds) (r : List Report) (x : Report) {at : ℕ} {s : Level} {b : List (List Bool)}
    → x ≡ Whole at s b → AreMet met (wholes r ++ b ∷ []) → AreMet met (wholes (r ++ x ∷ []))
met-whole met r x e h =
    subst (AreMet met) (sym (wholes-append r (x ∷ []) ∙ ap (λ (v : Report). wholes r ++ wholes (v ∷ [])) e)) h

pub met-other : (met : MetKinds) (r : List Report) (x : Report) → wholes (x ∷ []) ≡ [] → AreMet met (wholes r)
    → AreMet met (wholes (r ++ x ∷ []))
met-other met r x e h =
    subst (AreMet met) (sym (wholes-append r (x ∷ []) ∙ ap (λ v. wholes r ++ v) e ∙ append-nil (wholes r))) h

-- a block's bytes are the same whatever its number
pub same-bytes : (form : Form) (change : Change) (n : ℕ) (x : Report)
    → report_bytes (rewritten_block form change) 0 x ≡ report_bytes (rewritten_block form change) n x
same-bytes form change n (Whole at s b) = refl
same-bytes form change n (Marked at s wrong) = refl
same-bytes form change n (Fault at cell why) = refl
same-bytes form change n (Unfinished at cells) = refl

-- ---- what is taken
pub statuses-long : (channel : Channel) (bs : List (List (List Bool)))
    → All (λ status. length status ≡ 24) (statuses_of channel bs)
statuses-long channel bs = λ k d l.
    ap length (get_or-map (λ b. status_of b channel) bs k [] d (omega (arith, length-map bs (λ b. status_of b channel))))
    ∙ length-status_of _ channel ∙ status_len_24

any-again : {X : Type 0} (p : List ℕ → Bool) (status : List ℕ) (bs : List X)
    → (p status || list_any p (map (λ b. status) bs)) ≡ (p status || false)
any-again p status [] = refl
any-again p status (b ∷ bs) = again (p status) (list_any p (map (λ b. status) bs)) ∙ any-again p status bs
  where
    again : (a c : Bool) → (a || (a || c)) ≡ (a || c)
    again true c = refl
    again false c = refl

pub one-stands : (settings : Settings) (status : List ℕ) (channel : Channel) (bs : List (List (List Bool)))
    → 0 < length bs → taken_by settings (status ∷ []) ≡ taken_by settings (met_statuses (Some status) channel bs)
one-stands settings status channel [] h = absurd (omega arith)
one-stands settings status channel (b ∷ bs) h =
    same-taken settings (status ∷ []) (met_statuses (Some status) channel (b ∷ bs)) (λ p. sym (any-again p status bs))

pub none-stands : (settings : Settings) (status : List ℕ) (channel : Channel) (bs : List (List (List Bool)))
    → length bs ≡ 0 → nothing_taken ≡ taken_by settings (met_statuses (Some status) channel bs)
none-stands settings status channel [] h = nothing-taken settings
none-stands settings status channel (b ∷ bs) h = absurd (omega arith)

-- ---- the run
abbrev pub writes : Form → Change → Writing Report
writes output change = report_writing (report_bytes (rewritten_block output change)) (ending output)

abbrev follows : RewrittenBlocks → List Report → Type 0
follows k r = AreMet k.met (wholes r)

abbrev TellRun : ℕ → Form → Form → Change → Ends → Result (Counts × RewrittenBlocks) RunError
    → Type 0
TellRun max input output change = InputRun (told_reports input (writes output change) follows) max

gives : (input output : Form) (change : Change)
    → Gives (told_reports input (writes output change) follows) (rewritten_cells input output change)
gives input output change =
    let f = report_bytes (rewritten_block output change) in
    record {
      input = λ b i. i;
      whole = λ b i. with-output f (ending output) (reports (cells_of input b))
          ∙ rewritten-whole output change (cells_of input b);
      begun = λ b. before-output f (ending output) (decided _) ∙ rewritten-begun output change _;
      cause = λ max b ended e c. c;
    }

same-run : {max : ℕ} (input : Form) {o output : Form} {h change : Change} {ends : Ends}
    {r : Result (Counts × RewrittenBlocks) RunError} → o ≡ output → h ≡ change
    → TellRun max input o h ends r → TellRun max input output change ends r
same-run {max} input {o} {output} {h} {change} {ends} {r} p q run =
    subst (λ (v : Change). TellRun max input output v ends r) q
    (subst (λ (v : Form). TellRun max input v h ends r) p run)

pub rewrite-ok : {max : ℕ} (input : Form) {o output : Form} {h change : Change} {n : Counts} {k : RewrittenBlocks}
    {m : Rewritten} {ends : Ends} → o ≡ output → h ≡ change
    → ((b : List ℕ) → n ≡ counts_of input b → AreMet k.met (wholes (reports (cells_of input b)))
    → m ≡ rewritten_answer input change b)
    → TellRun max input o h ends (Ok (n, k))
    → InputRun (rewritten_cells input output change) max ends (Ok m)
rewrite-ok input {output = output} {change = change} p q t r =
    run-ok (gives input output change) (λ b i d. t b d.0 d.1) (same-run input p q r)

pub rewrite-err : {max : ℕ} (input : Form) {o output : Form} {h change : Change} {ends : Ends} {x : RunError}
    → o ≡ output → h ≡ change → TellRun max input o h ends (Err x)
    → InputRun (rewritten_cells input output change) max ends (Err x)
rewrite-err input {output = output} {change = change} p q r =
    run-err (gives input output change) (same-run input p q r)

-- ---- the answer
pub met-blocks : {met : MetKinds} (c : List Level) → AreMet met (wholes (reports c)) → AreMet met (blocks c)
unfolding blocks
met-blocks c h = h

pub blocks-count : (form : Form) (b : List ℕ) {n : Counts} → n ≡ counts_of form b
    → n.blocks ≡ length (blocks (cells_of form b))
unfolding counts_of
blocks-count form b e = ap (λ (v : Counts). v.blocks) e

pub answer-is : (form : Form) (change : Change) (b : List ℕ) {counts : Counts} {first second : Taken}
    → counts ≡ counts_of form b
    → first ≡ taken_of change.settings1 (met_statuses change.status1 First (blocks (cells_of form b)))
    → second ≡ taken_of change.settings2 (met_statuses change.status2 Second (blocks (cells_of form b)))
    → ◌≡◌ {A = Rewritten} (record { counts = counts; first = first; second = second }) (rewritten_answer form change b)
answer-is form change b {counts} {first} {second} p q r =
    ap (λ (v : Counts). record { counts = v; first = first; second = second }) p
    ∙ ap₂ (λ (v w : Taken). record { counts = counts_of form b; first = v; second = w }) q r
