-- Runs that write changed blocks up to the first that does not take all settings.
use Rattle.std.proofs.Common.{◌≡◌, ℕ, suc, ◌+◌, List, [], ◌∷◌, ◌++◌, Bool, true, false, not, ◌&&◌, ◌||◌}
use Rattle.std.proofs.Common.{Option, Some, None, Result, Ok, Err, IfOk, refl, sym, ap, ap₂, ◌∙◌, subst}
use Rattle.std.proofs.Common.{append_assoc, if◌then◌else◌, length, arith}
use Rattle.std.specs.List.{All, flat_map}
use Rattle.std.specs.Option.{is_some}
use Rattle.std.proofs.lemmas.List.{get_or-map, length-map}
use Rattle.aes3_level.specs.declared.level.Level.{Level}
use Rattle.aes3_cell.specs.declared.form.Form.{Form}
use Rattle.aes3_refusals.specs.declared.run_error.RunError.{RunError}
use Rattle.aes3_cell.specs.declared.counts.Counts.{Counts}
use Rattle.aes3_cell.specs.Ends.{Grew, Told}
use Rattle.aes3_cell.specs.Written.{ending}
use Rattle.aes3_cell.proofs.Growing.{grew-is}
use Rattle.aes3_frame.specs.declared.block.Channel.{Channel}
use Rattle.aes3_frame.specs.declared.block.Channel.TheVariants.{First, Second}
use Rattle.aes3_frame.specs.Blocks.{block_len}
use Rattle.aes3_frame.specs.Statuses.{status_of}
use Rattle.aes3_frame.proofs.StatusBits.{status_len_24}
use Rattle.aes3_frame.proofs.Streams.{EachBlock27}
use Rattle.aes3_block.proofs.StatusLaws.{length-status_of}
use Rattle.aes3_lock.specs.declared.report.Report.{Report}
use Rattle.aes3_lock.specs.declared.report.Report.TheVariants.{Whole, Marked, Fault, Unfinished}
use Rattle.aes3_lock.specs.Reports.{blocks, decided, reports, wholes}
use Rattle.aes3_status.specs.declared.change.Change.{Change}
use Rattle.aes3_status.specs.declared.setting.Settings.{Settings}
use Rattle.aes3_status.specs.KindPlaces.{Met, Rising, earlier, first_met, first_place}
use Rattle.aes3_status.specs.TakingAll.{takes_all}
use Rattle.aes3_status.proofs.FirstPlaces.{first-either, first-none, first-same, rising-weaker}
use Rattle.aes3_input.specs.Running.{Ends, InputRun}
use Rattle.aes3_input.specs.Taking.{before_end, with_end}
use Rattle.aes3_input.specs.Inputs.{cells_of}
use Rattle.aes3_input.proofs.InputRuns.{Gives, run-err, run-ok, run-told}
use Rattle.aes3_input.proofs.Items.{before-is}
use Rattle.aes3_lock_runs.specs.BlockRuns.{normal_block, numbered, written_stream}
use Rattle.aes3_lock_runs.specs.ReportRuns.{counts_of, told_reports}
use Rattle.aes3_lock_runs.proofs.BlockRuns.{blocks27, decided27, normal-numbered, stream-ended}
use Rattle.aes3_engine.specs.declared.exact_samples.Exact.{Exact}
use Rattle.aes3_engine.specs.declared.rewriting_exactly.ExactlyRewrittenBlocks.{ExactlyRewrittenBlocks}
use Rattle.aes3_engine.specs.declared.rewriting_exactly.MetPlaces.{MetPlaces}
use Rattle.aes3_engine.specs.Filling.{Placed, placed}
use Rattle.aes3_engine.specs.FillSteps.{Apart}
use Rattle.aes3_engine.specs.Rewriting.{rewritten, rewritten_blocks}
use Rattle.aes3_engine.specs.RewritingExactly.{AnswersExactly, AreMetAt, begun_exactly, exactly_rewritten_cells}
use Rattle.aes3_engine.specs.RewritingExactly.{first_refused, first_refused_in, met_of, takes_change, takes_in, taking}
use Rattle.aes3_engine.specs.RewritingExactly.{exactly_writing, taking_bytes, unless, written_exactly}
use Rattle.aes3_engine.proofs.FillSteps.{placed-append}
use Rattle.aes3_engine.proofs.FillTimes.{apart-of}
use Rattle.aes3_engine.proofs.RewrittenBlocks.{each-blocks}

-- ---- more blocks behind others
pub refused-append : (change : Change) (xs ys : List Placed)
    → is_some (first_refused change (xs ++ ys))
    ≡ (is_some (first_refused change xs) || is_some (first_refused change ys))
refused-append change [] ys = refl
refused-append change (x ∷ xs) ys = go (takes_change change x.block) (refused-append change xs ys)
  where
    go : (b : Bool)
        → is_some (first_refused change (xs ++ ys))
        ≡ (is_some (first_refused change xs) || is_some (first_refused change ys))
        → is_some (if not b then Some x.place else first_refused change (xs ++ ys))
        ≡ (is_some (if not b then Some x.place else first_refused change xs) || is_some (first_refused change ys))
    go true e = e
    go false e = refl

bytes-append : (form : Form) (change : Change) (xs ys : List Placed)
    → taking_bytes form change (xs ++ ys)
    ≡ taking_bytes form change xs ++ unless (is_some (first_refused change xs)) (taking_bytes form change ys)
bytes-append form change [] ys = refl
bytes-append form change (x ∷ xs) ys = go (takes_change change x.block) (bytes-append form change xs ys)
  where
    bytes : List (List (List Bool)) → List ℕ
    bytes bs = flat_map (λ b. normal_block form 0 (rewritten change b)) bs

    go : (b : Bool)
        → taking_bytes form change (xs ++ ys)
        ≡ taking_bytes form change xs ++ unless (is_some (first_refused change xs)) (taking_bytes form change ys)
        → bytes (if b then x.block ∷ taking change (xs ++ ys) else [])
        ≡ bytes (if b then x.block ∷ taking change xs else [])
        ++ unless (is_some (if not b then Some x.place else first_refused change xs)) (taking_bytes form change ys)
    go true e =
        let f = normal_block form 0 (rewritten change x.block) in
        ap (λ v. f ++ v) e
        ∙ sym (append_assoc f (taking_bytes form change xs)
        (unless (is_some (first_refused change xs)) (taking_bytes form change ys)))
    go false e = refl

-- ---- what reports write
before-exactly : (form : Form) (change : Change) (r : List Report)
    → before_end (exactly_writing form change) r ≡ taking_bytes form change (placed r)
unfolding exactly_writing
before-exactly form change r =
    before-is (exactly_writing form change) (λ q. taking_bytes form change (placed q)) refl
    (λ q x. ap (taking_bytes form change) (placed-append q (x ∷ []))
    ∙ bytes-append form change (placed q) (placed (x ∷ []))) r

with-exactly : (form : Form) (change : Change) (r : List Report)
    → with_end (exactly_writing form change) r
    ≡ taking_bytes form change (placed r) ++ ending form
unfolding with_end exactly_writing
with-exactly form change r = ap (λ v. v ++ ending form) (before-exactly form change r)

-- as one stream
bytes-numbered : (form : Form) (change : Change) (n : ℕ) (bs : List (List (List Bool)))
    → flat_map (λ b. normal_block form 0 (rewritten change b)) bs
    ≡ numbered (normal_block form) n (rewritten_blocks change bs)
bytes-numbered form change n [] = refl
bytes-numbered form change n (b ∷ bs) =
    ap (λ v. normal_block form 0 (rewritten change b) ++ v) (bytes-numbered form change (suc n) bs)

taking27 : (change : Change) (r : List Report) → EachBlock27 (wholes r) → EachBlock27 (taking change (placed r))
taking27 change [] h = tt
taking27 change (Whole at s b ∷ r) h = go (takes_change change b) (taking27 change r h.1)
  where
    go : (t : Bool) → EachBlock27 (taking change (placed r))
        → EachBlock27 (if t then b ∷ taking change (placed r) else [])
    go true k = (h.0, k)
    go false k = tt
taking27 change (Marked at s wrong ∷ r) h = taking27 change r h
taking27 change (Fault at cell why ∷ r) h = taking27 change r h
taking27 change (Unfinished at cells ∷ r) h = taking27 change r h

bytes-stream : (form : Form) (change : Change) (r : List Report) → EachBlock27 (wholes r)
    → taking_bytes form change (placed r) ≡ begun_exactly form change (placed r)
bytes-stream form change r h =
    let bs = taking change (placed r) in
    bytes-numbered form change 0 bs
    ∙ normal-numbered form 0 (rewritten_blocks change bs) (each-blocks change bs (taking27 change r h))

reports27 : (c : List Level) → EachBlock27 (wholes (reports c))
unfolding blocks
reports27 c = blocks27 c

pub taken27 : (change : Change) (c : List Level) → EachBlock27 (rewritten_blocks change (taking change (placed (reports c))))
taken27 change c =
    each-blocks change (taking change (placed (reports c))) (taking27 change (reports c) (reports27 c))

-- ---- one more report
pub refused-next : {old new : Bool} (change : Change) (r : List Report) (x : Report)
    → new ≡ (old || is_some (first_refused change (placed (x ∷ []))))
    → old ≡ is_some (first_refused change (placed r)) → new ≡ is_some (first_refused change (placed (r ++ x ∷ [])))
refused-next change r x p q =
    p ∙ ap (λ b. b || is_some (first_refused change (placed (x ∷ [])))) q
    ∙ sym (refused-append change (placed r) (placed (x ∷ [])))
    ∙ ap (λ v. is_some (first_refused change v)) (sym (placed-append r (x ∷ [])))

pub adds-is : {old : Bool} (form : Form) (change : Change) (r : List Report) (x : Report)
    → old ≡ is_some (first_refused change (placed r))
    → unless old (taking_bytes form change (placed (x ∷ []))) ≡ (exactly_writing form change).adds r x
unfolding exactly_writing
adds-is form change r x e = ap (λ b. unless b (taking_bytes form change (placed (x ∷ [])))) e

pub ends-is : (form : Form) (change : Change) (r : List Report) → ending form ≡ (exactly_writing form change).ends r
unfolding exactly_writing
ends-is form change r = refl

pub met-whole : (met : MetPlaces) (xs : List Placed) (x : Report) {at : ℕ} {s : Level} {b : List (List Bool)}
    → x ≡ Whole at s b → AreMetAt met (xs ++ record { place = at; block = b } ∷ [])
    → AreMetAt met (xs ++ placed (x ∷ []))
met-whole met xs x e h = subst (AreMetAt met) (sym (ap (λ (v : Report). xs ++ placed (v ∷ [])) e)) h

pub met-next : (met : MetPlaces) (r : List Report) (x : Report) → AreMetAt met (placed r ++ placed (x ∷ []))
    → AreMetAt met (placed (r ++ x ∷ []))
met-next met r x h = subst (AreMetAt met) (sym (placed-append r (x ∷ []))) h

-- ---- where the first stands
placed-met : (test : List ℕ → Bool) (channel : Channel) (xs : List Placed)
    → first_met test (met_of channel xs)
    ≡ first_place (λ (x : Placed). x.place) (λ (x : Placed). test (status_of x.block channel)) xs
placed-met test channel [] = refl
placed-met test channel (x ∷ xs) =
    ap (λ (v : Option ℕ). if test (status_of x.block channel) then Some x.place else v) (placed-met test channel xs)

pub long-met : (channel : Channel) (xs : List Placed)
    → All (λ (x : Met). length x.status ≡ 24) (met_of channel xs)
long-met channel xs = λ k d l.
    let f : Placed → Met = λ (x : Placed). record { place = x.place; status = status_of x.block channel } in
    ap (λ (x : Met). length x.status)
    (get_or-map f xs k (record { place = 0; block = [] }) d (omega (arith, length-map xs f)))
    ∙ length-status_of _ channel ∙ status_len_24

pub none-refused : (channel : Channel) (status : Option (List ℕ)) (settings : Option Settings) (xs : List Placed)
    → settings ≡ None → None ≡ first_refused_in channel status settings xs
none-refused channel status settings xs e =
    first-none (λ (x : Placed). x.place) (λ (x : Placed). false) xs (λ (x : Placed). refl)
    ∙ ap (λ (s : Option Settings). first_refused_in channel status s xs) (sym e)

pub own-refused : (channel : Channel) (status : Option (List ℕ)) (settings : Option Settings) (xs : List Placed)
    {p : Option ℕ} (s : Settings) → status ≡ None → settings ≡ Some s
    → p ≡ first_met (λ v. not (takes_all s v)) (met_of channel xs) → p ≡ first_refused_in channel status settings xs
own-refused channel status settings xs s d e h =
    h ∙ placed-met (λ v. not (takes_all s v)) channel xs
    ∙ sym (ap₂ (λ (t : Option (List ℕ)) (v : Option Settings). first_refused_in channel t v xs) d e)

pub given-taken : (channel : Channel) (status : Option (List ℕ)) (settings : Option Settings) (xs : List Placed)
    (t : List ℕ) (s : Settings) → status ≡ Some t → settings ≡ Some s → takes_all s t ≡ true
    → None ≡ first_refused_in channel status settings xs
given-taken channel status settings xs t s d e h =
    first-none (λ (x : Placed). x.place) (λ (x : Placed). not (takes_all s t)) xs (λ (x : Placed). ap not h)
    ∙ sym (ap₂ (λ (u : Option (List ℕ)) (v : Option Settings). first_refused_in channel u v xs) d e)

pub given-refused : (channel : Channel) (status : Option (List ℕ)) (settings : Option Settings) (xs : List Placed)
    {p : Option ℕ} (t : List ℕ) (s : Settings) → status ≡ Some t → settings ≡ Some s → takes_all s t ≡ false
    → p ≡ first_met (λ _. true) (met_of channel xs) → p ≡ first_refused_in channel status settings xs
given-refused channel status settings xs t s d e h k =
    k ∙ placed-met (λ _. true) channel xs
    ∙ first-same (λ (x : Placed). x.place) (λ (x : Placed). true) (λ (x : Placed). not (takes_all s t)) xs
    (λ (x : Placed). sym (ap not h))
    ∙ sym (ap₂ (λ (u : Option (List ℕ)) (v : Option Settings). first_refused_in channel u v xs) d e)

pub rising-met : (channel : Channel) (p : ℕ) (xs : List Placed) → Rising (λ (x : Placed). x.place) p xs
    → Rising (λ (x : Met). x.place) p (met_of channel xs)
rising-met channel p [] r = tt
rising-met channel p (x ∷ xs) r = (r.0, rising-met channel x.place xs r.1)

rising-apart : (p : ℕ) (xs : List Placed) → Apart p xs → Rising (λ (x : Placed). x.place) p xs
rising-apart p [] r = tt
rising-apart p (x ∷ xs) r = (
  r.0,
  rising-weaker (λ (y : Placed). y.place) x.place (x.place + block_len) xs (omega arith)
      (rising-apart (x.place + block_len) xs r.1),
)

pub rising-of : (c : List Level) → Rising (λ (x : Placed). x.place) 0 (placed (reports c))
rising-of c = rising-apart 0 (placed (reports c)) (apart-of c)

not-both : (a b : Bool) → (not a || not b) ≡ not (a && b)
not-both true b = refl
not-both false b = refl

pub both-refused : (change : Change) (xs : List Placed) {p q : Option ℕ} → Rising (λ (x : Placed). x.place) 0 xs
    → p ≡ first_refused_in First change.status1 change.settings1 xs
    → q ≡ first_refused_in Second change.status2 change.settings2 xs → earlier p q ≡ first_refused change xs
both-refused change xs r e f =
    let first = λ (x : Placed). takes_in First change.status1 change.settings1 x.block in
    let second = λ (x : Placed). takes_in Second change.status2 change.settings2 x.block in
    ap₂ earlier e f
    ∙ sym (first-either (λ (x : Placed). x.place) (λ (x : Placed). not (first x))
    (λ (x : Placed). not (second x)) 0 xs r)
    ∙ first-same (λ (x : Placed). x.place) (λ (x : Placed). not (first x) || not (second x))
    (λ (x : Placed). not (first x && second x)) xs (λ (x : Placed). not-both (first x) (second x))

-- ---- the run
abbrev follows : ExactlyRewrittenBlocks → List Report → Type 0
follows k r = AreMetAt k.met (placed r) × (k.refused ≡ is_some (first_refused k.change (placed r)))

abbrev TellRun : ℕ → Form → Form → Change → Ends → Result (Counts × ExactlyRewrittenBlocks) RunError
    → Type 0
TellRun max input output change = InputRun (told_reports input (exactly_writing output change) follows) max

gives : (input output : Form) (change : Change)
    → Gives (told_reports input (exactly_writing output change) follows) (exactly_rewritten_cells input output change)
gives input output change =
    record {
      input = λ b i. i;
      whole = λ b i. let c = cells_of input b in
          with-exactly output change (reports c)
          ∙ ap (λ v. v ++ ending output) (bytes-stream output change (reports c) (reports27 c))
          ∙ stream-ended output (rewritten_blocks change (taking change (placed (reports c)))) (taken27 change c);
      begun = λ b. before-exactly output change (decided _) ∙ bytes-stream output change (decided _) (decided27 _);
      cause = λ max b ended e c. c;
    }

same-run : {max : ℕ} (input : Form) {o output : Form} {h change : Change} {ends : Ends}
    {r : Result (Counts × ExactlyRewrittenBlocks) RunError} → o ≡ output → h ≡ change
    → TellRun max input o h ends r → TellRun max input output change ends r
same-run {max} input {o} {output} {h} {change} {ends} {r} p q run =
    subst (λ (v : Change). TellRun max input output v ends r) q
    (subst (λ (v : Form). TellRun max input v h ends r) p run)

pub exactly-ok : {max : ℕ} (input : Form) {o output : Form} {h change : Change} {n : Counts}
    {k : ExactlyRewrittenBlocks} {m : Exact} {ends : Ends} → o ≡ output → h ≡ change
    → ((b : List ℕ) → n ≡ counts_of input b → AreMetAt k.met (placed (reports (cells_of input b)))
    → AnswersExactly input change b m)
    → TellRun max input o h ends (Ok (n, k))
    → InputRun (exactly_rewritten_cells input output change) max ends (Ok m)
exactly-ok input {output = output} {change = change} p q t r =
    run-ok (gives input output change) (λ b i d. t b d.0 d.1.0) (same-run input p q r)

pub exactly-err : {max : ℕ} (input : Form) {o output : Form} {h change : Change} {ends : Ends} {x : RunError}
    → o ≡ output → h ≡ change → TellRun max input o h ends (Err x)
    → InputRun (exactly_rewritten_cells input output change) max ends (Err x)
exactly-err input {output = output} {change = change} p q r =
    run-err (gives input output change) (same-run input p q r)

-- ---- where no block is refused
none-left : (change : Change) (r : List Report) → first_refused change (placed r) ≡ None
    → taking change (placed r) ≡ wholes r
none-left change [] h = refl
none-left change (Whole at s b ∷ r) h = go (takes_change change b) h (none-left change r)
  where
    go : (t : Bool) → ◌≡◌ {A = Option ℕ} (if not t then Some at else first_refused change (placed r)) None
        → (first_refused change (placed r) ≡ None → taking change (placed r) ≡ wholes r)
        → (if t then b ∷ taking change (placed r) else []) ≡ b ∷ wholes r
    go true k ih = ap (λ v. b ∷ v) (ih k)
    go false k ih = absurd cc
none-left change (Marked at s wrong ∷ r) h = none-left change r h
none-left change (Fault at cell why ∷ r) h = none-left change r h
none-left change (Unfinished at cells ∷ r) h = none-left change r h

all-written : (form : Form) (change : Change) (c : List Level) → first_refused change (placed (reports c)) ≡ None
    → written_exactly form change (placed (reports c)) ≡ written_stream form (rewritten_blocks change (blocks c))
unfolding blocks
all-written form change c h =
    ap (λ (v : List (List (List Bool))). written_stream form (rewritten_blocks change v)) (none-left change (reports c) h)

pub exactly-all : {max : ℕ} (input output : Form) (change : Change) {ends : Ends}
    (r : Result Exact RunError)
    → InputRun (exactly_rewritten_cells input output change) max ends r
    → IfOk r (λ (n : Exact). (b : List ℕ) → n.refused ≡ None → Told ends.source.old ends.source.new b
    → Grew ends.sink.old ends.sink.new (written_stream output (rewritten_blocks change (blocks (cells_of input b)))))
exactly-all input output change (Ok n) run = λ b e t.
    let ran = run-told run b t in
    grew-is (all-written output change (cells_of input b) (sym ran.1.1 ∙ e)) ran.4
exactly-all input output change (Err e) run = tt
