-- Runs that read cells and write something of each block.
use Rattle.std.proofs.Common.{◌≡◌, ◌<◌, ◌≤◌, ℕ, zero, suc, ◌+◌, ◌-◌, ◌%◌, ◌*◌, ◌↔◌, Bool, true, false, cond, nat_le}
use Rattle.std.proofs.Common.{nat_lt, ◌&&◌, List, [], ◌∷◌, ◌++◌, length, take, drop, Result, Ok, Err, IfOk, refl, sym}
use Rattle.std.proofs.Common.{ap, ap₂, ◌∙◌, subst, arith, append-nil, append_assoc}
use Rattle.std.specs.List.{All, flat_map}
use Rattle.std.proofs.Math.Seq.{take-nil, drop-nil}
use Rattle.std.proofs.lemmas.Bool.{leb-true, leb-false, ltb-true, ltb-false}
use Rattle.std.proofs.lemmas.List.{take-append-drop}
use Rattle.std.specs.Prelude.{map}
use Rattle.aes3_refusals.specs.declared.run_error.RunError.{RunError}
use Rattle.aes3_level.specs.declared.level.Level.{Level}
use Rattle.aes3_level.specs.declared.level.Level.TheVariants.{Low}
use Rattle.aes3_cell.specs.declared.form.Form.{Form}
use Rattle.aes3_cell.specs.declared.form.Form.TheVariants.{Text, Packed}
use Rattle.aes3_cell.specs.declared.counts.Counts.{Counts}
use Rattle.aes3_cell.specs.Ends.{Grew, Told}
use Rattle.aes3_level.specs.Words.{word_len}
use Rattle.aes3_cell.specs.Packed.{packed_of}
use Rattle.aes3_cell.specs.Written.{bytes_of, ending, written}
use Rattle.aes3_level.proofs.WordCells.{word_len_64}
use Rattle.aes3_cell.proofs.CellTexts.{text-read}
use Rattle.aes3_cell.proofs.PackedCells.{packed_of-packs, cells-packs}
use Rattle.aes3_cell.proofs.WrittenForms.{bytes-nothing, written-whole}
use Rattle.aes3_cell.proofs.Growing.{grew-is}
use Rattle.aes3_frame.specs.Blocks.{block_cells, stream, IsBlock}
use Rattle.aes3_block.proofs.StreamBytes.{stream-bytes}
use Rattle.aes3_frame.proofs.Streams.{EachBlock27, stream-nil, length-stream, slot_count}
use Rattle.aes3_lock.specs.Reports.{reports, decided, wholes, blocks, normal}
use Rattle.aes3_lock.specs.Damage.{apart, without}
use Rattle.aes3_lock.specs.FrameLaws.{AreAllLeft, AreClose}
use Rattle.aes3_lock.specs.Laws.{PlacedBlock}
use Rattle.aes3_lock.specs.Remains.{after_changes, after_loss}
use Rattle.aes3_lock.specs.Pieces.{IsPiece, given_blocks, whole_blocks}
use Rattle.aes3_lock.proofs.AllStanding.{wholes-append}
use Rattle.aes3_frame.proofs.Each.{each-payload}
use Rattle.aes3_lock.proofs.DecidedStand.{decided-stand}
use Rattle.aes3_lock.proofs.NormalStreams.{stream-blocks, blocks-lawful, normal-tells, normal-same, normal-fixed}
use Rattle.aes3_lock.proofs.PieceBlocks.{blocks-whole}
use Rattle.aes3_lock.proofs.Changes.{blocks-few-changed}
use Rattle.aes3_lock.proofs.Frames.{blocks-left}
use Rattle.aes3_lock.proofs.Lost.{blocks-lost}
use Rattle.aes3_input.specs.Running.{Ends}
use Rattle.aes3_input.specs.Inputs.{cells_of}
use Rattle.aes3_input.proofs.InputRuns.{run-wrote}
use Rattle.aes3_lock_runs.specs.ReportRuns.{output, ReportRun}
use Rattle.aes3_lock_runs.specs.BlockRuns.{decided_blocks, report_bytes, numbered, normal_block, cut_block, begun_stream}
use Rattle.aes3_lock_runs.specs.BlockRuns.{written_stream, cut_blocks}
use Rattle.aes3_lock_runs.proofs.ReportLemmas.{blocks-output}

-- the blocks of cells are blocks
pub each27 : (bs : List (List (List Bool))) → All IsBlock bs → EachBlock27 bs
each27 [] h = tt
each27 (b ∷ bs) h = (each-payload b (h 0 [] (omega arith)).payloads, each27 bs (λ k d l. h (suc k) d (omega arith)))

front27 : (p q : List (List (List Bool))) → EachBlock27 (p ++ q) → EachBlock27 p
front27 [] q h = tt
front27 (b ∷ p) q h = (h.0, front27 p q h.1)

pub blocks27 : (c : List Level) → EachBlock27 (blocks c)
blocks27 c = each27 (blocks c) (blocks-lawful c)

pub decided27 : (c : List Level) → EachBlock27 (decided_blocks c)
unfolding blocks
decided27 c =
    let d = decided-stand c [] in
    front27 (decided_blocks c) (wholes d.0)
    (subst EachBlock27 (ap (λ v. wholes (reports v)) (sym (append-nil c)) ∙ ap wholes d.1
    ∙ wholes-append (decided c) d.0) (blocks27 c))

-- blocks in the normal polarity
normal-behind : (form : Form) (n : ℕ) (p bs : List (List (List Bool))) → EachBlock27 (p ++ bs)
    → begun_stream form (p ++ bs) ≡ begun_stream form p ++ numbered (normal_block form) n bs
normal-behind form n p [] h = ap (begun_stream form) (append-nil p) ∙ sym (append-nil (begun_stream form p))
normal-behind form n p (b ∷ bs) h =
    let e = append_assoc p (b ∷ []) bs in
    ap (begun_stream form) (sym e) ∙ normal-behind form (suc n) (p ++ b ∷ []) bs (subst EachBlock27 (sym e) h)
    ∙ ap (λ z. z ++ numbered (normal_block form) (suc n) bs) (stream-bytes form Low p b (front27 p (b ∷ bs) h))
    ∙ append_assoc (begun_stream form p) (bytes_of form (block_cells Low b)) (numbered (normal_block form) (suc n) bs)

pub normal-numbered : (form : Form) (n : ℕ) (bs : List (List (List Bool))) → EachBlock27 bs
    → numbered (normal_block form) n bs ≡ begun_stream form bs
normal-numbered form n bs h =
    sym (normal-behind form n [] bs h
    ∙ ap (λ z. z ++ numbered (normal_block form) n bs) (ap (bytes_of form) (stream-nil Low) ∙ bytes-nothing form))

-- with an ending they are written whole
pub stream-ended : (form : Form) (bs : List (List (List Bool))) → EachBlock27 bs
    → begun_stream form bs ++ ending form ≡ written_stream form bs
unfolding stream
stream-ended form bs h = written-whole form (slot_count bs) (stream Low bs) (length-stream Low bs h)

-- what is written of all reports, and of those decided, where the blocks g of blocks are written
pub whole-stream : (form : Form) (f : ℕ → List (List Bool) → List ℕ) (g : List (List (List Bool))
    → List (List (List Bool)))
    → ((bs : List (List (List Bool))) → EachBlock27 bs → numbered f 0 bs ≡ begun_stream form (g bs))
    → ((bs : List (List (List Bool))) → EachBlock27 bs → EachBlock27 (g bs))
    → (c : List Level) → output (report_bytes f) (reports c) ++ ending form ≡ written_stream form (g (blocks c))
unfolding blocks
whole-stream form f g p q c =
    ap (λ z. z ++ ending form) (blocks-output f 0 (reports c) ∙ p (wholes (reports c)) (blocks27 c))
    ∙ stream-ended form (g (wholes (reports c))) (q (wholes (reports c)) (blocks27 c))

pub begun-stream : (form : Form) (f : ℕ → List (List Bool) → List ℕ) (g : List (List (List Bool))
    → List (List (List Bool)))
    → ((bs : List (List (List Bool))) → EachBlock27 bs → numbered f 0 bs ≡ begun_stream form (g bs))
    → (c : List Level) → output (report_bytes f) (decided c) ≡ begun_stream form (g (decided_blocks c))
begun-stream form f g p c = blocks-output f 0 (decided c) ∙ p (decided_blocks c) (decided27 c)

-- all of them
pub normal-whole : (form : Form) (c : List Level)
    → output (report_bytes (normal_block form)) (reports c) ++ ending form ≡ written form (normal c)
unfolding normal
normal-whole form c = whole-stream form (normal_block form) (λ bs. bs) (normal-numbered form 0) (λ bs h. h) c

pub normal-begun : (form : Form) (c : List Level)
    → output (report_bytes (normal_block form)) (decided c) ≡ begun_stream form (decided_blocks c)
normal-begun form c = begun-stream form (normal_block form) (λ bs. bs) (normal-numbered form 0) c

-- those of some numbers
cut-numbered : (form : Form) (from count n : ℕ) (bs : List (List (List Bool)))
    → numbered (cut_block form from count) n bs ≡ numbered (normal_block form) 0
    (take (count - (n - from)) (drop (from - n) bs))
cut-numbered form from count n [] =
    sym (ap (λ z. numbered (normal_block form) 0 (take (count - (n - from)) z)) (drop-nil (from - n))
    ∙ ap (numbered (normal_block form) 0) (take-nil (count - (n - from))))
cut-numbered form from count n (b ∷ bs) = go (nat_le from n) refl (nat_lt (n - from) count) refl
    (cut-numbered form from count (suc n) bs)
  where
    any : (m k : ℕ) (ds : List (List (List Bool)))
        → numbered (normal_block form) m ds ≡ numbered (normal_block form) k ds
    any m k [] = refl
    any m k (d ∷ ds) = ap (λ z. normal_block form 0 d ++ z) (any (suc m) (suc k) ds)

    goal : Bool → Bool → Type 0
    goal s t = cond (s && t) (normal_block form n b) [] ++ numbered (cut_block form from count) (suc n) bs
        ≡ numbered (normal_block form) 0 (take (count - (n - from)) (drop (from - n) (b ∷ bs)))

    go : (s : Bool) → nat_le from n ≡ s → (t : Bool) → nat_lt (n - from) count ≡ t
        → numbered (cut_block form from count) (suc n) bs ≡ numbered (normal_block form) 0
        (take (count - (suc n - from)) (drop (from - suc n) bs)) → goal s t
    go false es t et next =
        let l = leb-false from n es in
        let e : suc (from - suc n) ≡ from - n = omega arith in
        let z : suc n - from ≡ n - from = omega arith in
        next ∙ ap₂ (λ j k. numbered (normal_block form) 0 (take (count - j) (drop k (b ∷ bs)))) z e
    go true es true et next =
        let l = leb-true from n es in
        let m = ltb-true (n - from) count et in
        let e : 0 ≡ from - n = omega arith in
        let z : from - suc n ≡ 0 = omega arith in
        let j : suc (count - (suc n - from)) ≡ count - (n - from) = omega arith in
        ap (λ v. normal_block form n b ++ v)
        (next ∙ ap (λ k. numbered (normal_block form) 0 (take (count - (suc n - from)) (drop k bs))) z
        ∙ any 0 1 (take (count - (suc n - from)) bs))
        ∙ ap₂ (λ k v. numbered (normal_block form) 0 (take k (drop v (b ∷ bs)))) j e
    go true es false et next =
        let m = ltb-false (n - from) count et in
        let j : count - (suc n - from) ≡ 0 = omega arith in
        let k : 0 ≡ count - (n - from) = omega arith in
        next ∙ ap (λ v. numbered (normal_block form) 0 (take v (drop (from - suc n) bs))) j
        ∙ ap (λ v. numbered (normal_block form) 0 (take v (drop (from - n) (b ∷ bs)))) k

front-numbers : (n : ℕ) (bs : List (List (List Bool))) → EachBlock27 bs → EachBlock27 (take n bs)
front-numbers n bs h = front27 (take n bs) (drop n bs) (subst EachBlock27 (sym (take-append-drop n bs)) h)

behind-numbers : (n : ℕ) (bs : List (List (List Bool))) → EachBlock27 bs → EachBlock27 (drop n bs)
behind-numbers zero bs h = h
behind-numbers (suc n) [] h = h
behind-numbers (suc n) (b ∷ bs) h = behind-numbers n bs h.1

pub cut-each : (from count : ℕ) (bs : List (List (List Bool))) → EachBlock27 bs → EachBlock27 (cut_blocks from count bs)
cut-each from count bs h = front-numbers count (drop from bs) (behind-numbers from bs h)

cut-bytes : (form : Form) (from count : ℕ) (bs : List (List (List Bool))) → EachBlock27 bs
    → numbered (cut_block form from count) 0 bs ≡ begun_stream form (cut_blocks from count bs)
cut-bytes form from count bs h =
    let e : count - (0 - from) ≡ count = omega arith in
    let z : from - 0 ≡ from = omega arith in
    cut-numbered form from count 0 bs ∙ ap₂ (λ k j. numbered (normal_block form) 0 (take k (drop j bs))) e z
    ∙ normal-numbered form 0 (cut_blocks from count bs) (cut-each from count bs h)

pub cut-whole : (form : Form) (from count : ℕ) (c : List Level)
    → output (report_bytes (cut_block form from count)) (reports c) ++ ending form ≡ written_stream form
    (cut_blocks from count (blocks c))
cut-whole form from count c = whole-stream form (cut_block form from count) (cut_blocks from count)
    (cut-bytes form from count) (cut-each from count) c

pub cut-begun : (form : Form) (from count : ℕ) (c : List Level)
    → output (report_bytes (cut_block form from count)) (decided c) ≡ begun_stream form
    (cut_blocks from count (decided_blocks c))
cut-begun form from count c = begun-stream form (cut_block form from count) (cut_blocks from count)
    (cut-bytes form from count) c

-- blocks that have the same bytes whatever their number, as in a block file and as samples
alike-behind : (f : List (List Bool) → List ℕ) (n : ℕ) (bs : List (List (List Bool)))
    → numbered (λ k b. f b) n bs ≡ flat_map f bs
alike-behind f n [] = refl
alike-behind f n (b ∷ bs) = ap (λ z. f b ++ z) (alike-behind f (suc n) bs)

pub alike-whole : (f : List (List Bool) → List ℕ) (c : List Level)
    → output (report_bytes (λ n b. f b)) (reports c) ++ [] ≡ flat_map f (blocks c)
unfolding blocks
alike-whole f c = append-nil (output (report_bytes (λ n b. f b)) (reports c)) ∙ blocks-output (λ n b. f b) 0 (reports c)
    ∙ alike-behind f 0 (wholes (reports c))

pub alike-begun : (f : List (List Bool) → List ℕ) (c : List Level)
    → output (report_bytes (λ n b. f b)) (decided c) ≡ flat_map f (decided_blocks c)
alike-begun f c = blocks-output (λ n b. f b) 0 (decided c) ∙ alike-behind f 0 (decided_blocks c)

-- a lawful line is read back
pub lines : (bs : List (List (List Bool))) → EachBlock27 bs → length (stream Low bs) % word_len ≡ 0
unfolding stream
lines bs h = ap (λ n. n % word_len) (length-stream Low bs h ∙ ap (λ k. slot_count bs * k) word_len_64)
    ∙ ap (λ k. (slot_count bs * 64) % k) word_len_64 ∙ no-rest (slot_count bs)
  where
    no-rest : (n : ℕ) → (n * 64) % 64 ≡ 0
    no-rest n = omega arith

pub read-back : (form : Form) (bs : List (List (List Bool))) → EachBlock27 bs
    → cells_of form (written_stream form bs) ≡ stream Low bs
read-back Text bs h = (text-read (stream Low bs) (lines bs h)).1
read-back Packed bs h = cells-packs (packed_of (stream Low bs)) (stream Low bs) (packed_of-packs (stream Low bs))

read-normal : (form : Form) (c : List Level) → cells_of form (written form (normal c)) ≡ normal c
unfolding normal
read-normal form c = read-back form (blocks c) (blocks27 c)

pub tells : (form : Form) (c d : List Level)
    → (written form (normal c) ≡ written form (normal d)) ↔ (blocks c ≡ blocks d)
tells form c d = (
  λ e. normal-tells c d (sym (read-normal form c) ∙ ap (cells_of form) e ∙ read-normal form d),
  λ e. ap (written form) (normal-same c d e),
)

-- the clauses of a normal stream
run-stream : {max : ℕ} (input : Form) {ends : Ends} (form : Form) (r : Result Counts RunError)
    → ReportRun max input (report_bytes (normal_block form)) (ending form) ends r
    → IfOk r (λ (n : Counts). (b : List ℕ) (ds : List (List (List Bool))) → Told ends.source.old ends.source.new b
    → blocks (cells_of input b) ≡ ds → Grew ends.sink.old ends.sink.new (written_stream form ds))
unfolding normal
run-stream input form (Ok n) run =
    λ b ds t e. grew-is (normal-whole form (cells_of input b) ∙ ap (written_stream form) e) (run-wrote (Ok n) run b t)
run-stream input form (Err e) run = tt

pub run-piece : {max : ℕ} (input : Form) {ends : Ends} (form : Form)
    (r : Result Counts RunError)
    → ReportRun max input (report_bytes (normal_block form)) (ending form) ends r
    → IfOk r (λ (n : Counts). (s : Level) (bs : List (List (List Bool))) (i j : ℕ) (b : List ℕ)
    → Told ends.source.old ends.source.new b → IsPiece s bs i j (cells_of input b)
    → Grew ends.sink.old ends.sink.new (written_stream form (whole_blocks bs i j)))
run-piece input form (Ok n) run =
    λ s bs i j b t p. run-stream input form (Ok n) run b (whole_blocks bs i j) t
    (blocks-whole s bs i j (cells_of input b) p)
run-piece input form (Err e) run = tt

-- and of a piece of which cells are changed or lost
pub run-damaged : {max : ℕ} (input : Form) {ends : Ends} (form : Form)
    (r : Result Counts RunError)
    → ReportRun max input (report_bytes (normal_block form)) (ending form) ends r
    → IfOk r (λ (n : Counts). (s : Level) (bs : List (List (List Bool))) (i j : ℕ) (c : List Level) (b : List ℕ)
    → Told ends.source.old ends.source.new b → IsPiece s bs i j c
    → length (cells_of input b) ≡ length c → apart c (cells_of input b) ≤ 3
    → Grew ends.sink.old ends.sink.new
    (written_stream form (given_blocks (after_changes i c (cells_of input b)) bs i j)))
run-damaged input form (Ok n) run = λ s bs i j c b t p l a.
    run-stream input form (Ok n) run b (given_blocks (after_changes i c (cells_of input b)) bs i j) t
    (blocks-few-changed s bs i j c (cells_of input b) p l a)
run-damaged input form (Err e) run = tt

pub run-left : {max : ℕ} (input : Form) {ends : Ends} (form : Form)
    (r : Result Counts RunError)
    → ReportRun max input (report_bytes (normal_block form)) (ending form) ends r
    → IfOk r (λ (n : Counts). (s : Level) (bs : List (List (List Bool))) (i j : ℕ) (c : List Level) (b : List ℕ)
    → Told ends.source.old ends.source.new b → IsPiece s bs i j c
    → length (cells_of input b) ≡ length c → AreClose c (cells_of input b)
    → (found : List PlacedBlock) × AreAllLeft found s bs i c (cells_of input b)
    × Grew ends.sink.old ends.sink.new (written_stream form (map (λ f. f.block) found)))
run-left input form (Ok n) run = λ s bs i j c b t p l a.
    let r = blocks-left s bs i j c (cells_of input b) p l a in
    (r.0, r.1, run-stream input form (Ok n) run b (map (λ f. f.block) r.0) t r.2)
run-left input form (Err e) run = tt

pub run-lost : {max : ℕ} (input : Form) {ends : Ends} (form : Form)
    (r : Result Counts RunError)
    → ReportRun max input (report_bytes (normal_block form)) (ending form) ends r
    → IfOk r (λ (n : Counts). (s : Level) (bs : List (List (List Bool))) (i j : ℕ) (c : List Level) (b : List ℕ)
    → Told ends.source.old ends.source.new b → IsPiece s bs i j c
    → (k : ℕ) → k < length c → cells_of input b ≡ without k c
    → Grew ends.sink.old ends.sink.new (written_stream form (given_blocks (after_loss (i + k)) bs i j)))
run-lost input form (Ok n) run = λ s bs i j c b t p k l e.
    run-stream input form (Ok n) run b (given_blocks (after_loss (i + k)) bs i j) t (ap blocks e
    ∙ blocks-lost s bs i j c p k l)
run-lost input form (Err e) run = tt

pub run-again : {max : ℕ} (input : Form) {ends : Ends} (form : Form)
    (r : Result Counts RunError)
    → ReportRun max input (report_bytes (normal_block form)) (ending form) ends r
    → IfOk r (λ (n : Counts). (c : List Level) → Told ends.source.old ends.source.new (written input (normal c))
    → Grew ends.sink.old ends.sink.new (written form (normal c)))
run-again input form (Ok n) run = λ c t.
    grew-is (normal-whole form (cells_of input (written input (normal c)))
    ∙ ap (λ v. written form (normal v)) (read-normal input c)
    ∙ ap (written form) (normal-fixed c)) (run-wrote (Ok n) run (written input (normal c)) t)
run-again input form (Err e) run = tt

-- and of such blocks: of two lines with the same blocks, of a line that was written of blocks, and of a normal stream
pub run-alike : {max : ℕ} (input : Form) {ends : Ends} (f : List (List Bool)
    → List ℕ) (r : Result Counts RunError) → ReportRun max input (report_bytes (λ n b. f b)) [] ends r
    → IfOk r (λ (n : Counts). (b : List ℕ) (ds : List (List (List Bool))) → Told ends.source.old ends.source.new b
    → blocks (cells_of input b) ≡ ds → Grew ends.sink.old ends.sink.new (flat_map f ds))
run-alike input f (Ok n) run =
    λ b ds t e. grew-is (alike-whole f (cells_of input b) ∙ ap (flat_map f) e) (run-wrote (Ok n) run b t)
run-alike input f (Err e) run = tt

pub run-back : {max : ℕ} (input : Form) {ends : Ends} (f : List (List Bool)
    → List ℕ) (r : Result Counts RunError) → ReportRun max input (report_bytes (λ n b. f b)) [] ends r
    → IfOk r (λ (n : Counts). (bs : List (List (List Bool))) → All IsBlock bs
    → Told ends.source.old ends.source.new (written_stream input bs) → Grew ends.sink.old ends.sink.new (flat_map f bs))
run-back input f (Ok n) run = λ bs a t.
    run-alike input f (Ok n) run (written_stream input bs) bs t (ap blocks (read-back input bs (each27 bs a))
    ∙ stream-blocks Low bs a)
run-back input f (Err e) run = tt

pub run-normal : {max : ℕ} (input : Form) {ends : Ends} (f : List (List Bool)
    → List ℕ) (r : Result Counts RunError) → ReportRun max input (report_bytes (λ n b. f b)) [] ends r
    → IfOk r (λ (n : Counts). (c : List Level) → Told ends.source.old ends.source.new (written input (normal c))
    → Grew ends.sink.old ends.sink.new (flat_map f (blocks c)))
unfolding normal
run-normal input f (Ok n) run = λ c t. run-back input f (Ok n) run (blocks c) (blocks-lawful c) t
run-normal input f (Err e) run = tt
