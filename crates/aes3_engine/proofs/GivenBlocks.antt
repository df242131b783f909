-- The blocks that are given with the marked ones among them.
use Rattle.std.proofs.Common.{◌≡◌, ℕ, zero, suc, ◌+◌, ◌-◌, ◌≤◌, List, [], ◌∷◌, ◌++◌, Bool, true, false, Some}
use Rattle.std.proofs.Common.{length, drop, refl, sym, ap, ap₂, ◌∙◌, arith, length-append}
use Rattle.std.proofs.Common.{length-drop}
use Rattle.std.specs.List.{All, filter}
use Rattle.std.proofs.lemmas.List.{append_cancel_left, drop_at, drop-append-le}
use Rattle.std.proofs.lemmas.List.Elements.{filter-append}
use Rattle.aes3_level.specs.declared.level.Level.{Level}
use Rattle.aes3_slot.specs.Reading.{read_slots}
use Rattle.aes3_frame.specs.declared.fill.Fill.{Fill}
use Rattle.aes3_frame.specs.Blocks.{block_len, block_subframes, zero_block, IsBlock}
use Rattle.aes3_frame.specs.Mending.{mended_payload, mended_behind, mended}
use Rattle.aes3_lock.specs.declared.report.Ending.{Ending}
use Rattle.aes3_lock.specs.declared.report.Ending.TheVariants.{Whole as EndsWhole, Marked as EndsMarked}
use Rattle.aes3_lock.specs.declared.report.Ending.TheVariants.{Fault as EndsFault, Unfinished as EndsUnfinished}
use Rattle.aes3_lock.specs.declared.report.Report.{Report}
use Rattle.aes3_lock.specs.declared.report.Report.TheVariants.{Whole, Marked, Fault, Unfinished}
use Rattle.aes3_lock.specs.Following.{LockState, HeldBlock, report_in}
use Rattle.aes3_lock.specs.Reports.{reports, decided, wholes, blocks}
use Rattle.aes3_lock.proofs.Deciding.{block_len_64, read_slots-append}
use Rattle.aes3_lock.proofs.NormalStreams.{blocks-lawful}
use Rattle.aes3_lock.proofs.ReportPlaces.{Parted, parted-reports, parted-decided, parted-weaker}
use Rattle.aes3_lock_runs.proofs.Reports.{decided-more, reports-more}
use Rattle.aes3_lock_runs.specs.Reporting.{decided_by, decided_at_end}
use Rattle.aes3_input.specs.Taking.{behind, before_end, with_end}
use Rattle.aes3_input.proofs.Items.{before-is, before-join}
use Rattle.aes3_forms_samples.specs.declared.sample_format.SampleFormat.{SampleFormat}
use Rattle.aes3_forms_samples.specs.Formats.{narrowed}
use Rattle.aes3_forms_samples.proofs.Formats.{narrowed-join, narrowed-none}
use Rattle.aes3_engine.specs.Filling.{Placed, placed, mended_from, given, is_marked, marked_given, filled}
use Rattle.aes3_engine.specs.Filling.{block_frames, frames_between, frames_filled_behind, frames_filled}
use Rattle.aes3_engine.specs.FillSteps.{Apart, behind_blocks}
use Rattle.aes3_engine.specs.MendSteps.{begun, mend_writing, block_before, given_in}
use Rattle.aes3_engine.proofs.FillSteps.{filled-append, filled-whole}
use Rattle.aes3_engine.proofs.FillTimes.{Sized, sized-of, apart-of, placed-count}

-- more reports
pub mended-append : (fill : Fill) (c : List Level) (b : List (List Bool)) (r q : List Report)
    → mended_from fill c b (r ++ q)
    ≡ mended_from fill c b r ++ mended_from fill c (block_before b (mended_from fill c b r)) q
mended-append fill c b [] q = refl
mended-append fill c b (Whole at s own ∷ r) q =
    ap (λ (v : List Placed). record { place = at; block = own } ∷ v) (mended-append fill c own r q)
mended-append fill c b (Marked at s wrong ∷ r) q =
    let own = mended fill b (read_slots block_subframes (drop at c)) in
    ap (λ (v : List Placed). record { place = at; block = own } ∷ v) (mended-append fill c own r q)
mended-append fill c b (Fault at cell why ∷ r) q = mended-append fill c b r q
mended-append fill c b (Unfinished at cells ∷ r) q = mended-append fill c b r q

-- more cells
slots-stay : (at : ℕ) (c d : List Level) → at + block_len ≤ length c
    → read_slots block_subframes (drop at (c ++ d)) ≡ read_slots block_subframes (drop at c)
slots-stay at c d h =
    let l = length-drop at c in
    let n = block_len_64 in
    ap (read_slots block_subframes) (drop-append-le at c d (omega arith))
    ∙ read_slots-append block_subframes (drop at c) d (omega (arith, l, n, h))

abbrev mended_then : Fill → List Level → List (List Bool) → ℕ → List Report → List (List Bool) → List Placed
mended_then fill c b at r slots =
    record { place = at; block = mended fill b slots } ∷ mended_from fill c (mended fill b slots) r

mended-stays : (fill : Fill) (c d : List Level) (b : List (List Bool)) (p : ℕ) (r : List Report) → Parted (length c) p r
    → mended_from fill (c ++ d) b r ≡ mended_from fill c b r
mended-stays fill c d b p [] t = refl
mended-stays fill c d b p (Whole at s own ∷ r) t =
    ap (λ (v : List Placed). record { place = at; block = own } ∷ v)
    (mended-stays fill c d own (at + block_len) r t.2)
mended-stays fill c d b p (Marked at s wrong ∷ r) t =
    let own = mended fill b (read_slots block_subframes (drop at c)) in
    ap (mended_then fill (c ++ d) b at r) (slots-stay at c d t.1)
    ∙ ap (λ (v : List Placed). record { place = at; block = own } ∷ v)
    (mended-stays fill c d own (at + block_len) r t.2)
mended-stays fill c d b p (Fault at cell why ∷ r) t = mended-stays fill c d b (suc at) r t.2
mended-stays fill c d b p (Unfinished at cells ∷ r) t = mended-stays fill c d b (suc at) r t.2

pub begun-stays : (fill : Fill) (c d : List Level) → given true fill (c ++ d) (decided c) ≡ begun fill c
begun-stays fill c d = mended-stays fill c d zero_block 0 (decided c) (parted-decided c)

-- so what is given of more cells
pub begun-more : (fill : Fill) (c d : List Level) (m : List Report) → decided (c ++ d) ≡ decided c ++ m
    → begun fill (c ++ d) ≡ begun fill c ++ mended_from fill (c ++ d) (block_before zero_block (begun fill c)) m
begun-more fill c d m e =
    ap (mended_from fill (c ++ d) zero_block) e ∙ mended-append fill (c ++ d) zero_block (decided c) m
    ∙ ap (λ (v : List Placed). v ++ mended_from fill (c ++ d) (block_before zero_block v) m) (begun-stays fill c d)

pub given-more : (fill : Fill) (c : List Level) (m : List Report) → reports c ≡ decided c ++ m
    → given true fill c (reports c) ≡ begun fill c ++ mended_from fill c (block_before zero_block (begun fill c)) m
given-more fill c m e = ap (mended_from fill c zero_block) e ∙ mended-append fill c zero_block (decided c) m

-- what they write
filled-more : (pcm : SampleFormat) (fill : Fill) (a b m : List Placed) → b ≡ a ++ m
    → narrowed pcm (filled fill b) ≡ narrowed pcm (filled fill a) ++ narrowed pcm (behind_blocks fill a m)
filled-more pcm fill a b m e =
    ap (λ v. narrowed pcm (filled fill v)) e ∙ ap (narrowed pcm) (filled-append fill a m)
    ∙ narrowed-join pcm (filled fill a) (behind_blocks fill a m) (filled-whole fill a)

rest-is : (a b m : List Placed) → b ≡ a ++ m → m ≡ drop (length a) b
rest-is a b m e = sym (ap (drop (length a)) e ∙ drop_at a m (length a) refl)

none-begun : (pcm : SampleFormat) (fill : Fill) → narrowed pcm (filled fill (begun fill [])) ≡ []
unfolding decided
none-begun pcm fill = narrowed-none pcm

adds-next : (pcm : SampleFormat) (fill : Fill) (c : List Level) (l : Level)
    → narrowed pcm (filled fill (begun fill (c ++ l ∷ [])))
    ≡ narrowed pcm (filled fill (begun fill c)) ++ (mend_writing pcm fill).adds c l
unfolding mend_writing
adds-next pcm fill c l =
    let e = begun-more fill c (l ∷ []) (decided_by c l) (decided-more c l) in
    filled-more pcm fill (begun fill c) (begun fill (c ++ l ∷ [])) _ e
    ∙ ap (λ v. narrowed pcm (filled fill (begun fill c)) ++ narrowed pcm (behind_blocks fill (begun fill c) v))
    (rest-is (begun fill c) (begun fill (c ++ l ∷ [])) _ e)

pub before-mended : (pcm : SampleFormat) (fill : Fill) (c : List Level)
    → before_end (mend_writing pcm fill) c ≡ narrowed pcm (filled fill (begun fill c))
before-mended pcm fill c =
    before-is (mend_writing pcm fill) (λ d. narrowed pcm (filled fill (begun fill d))) (none-begun pcm fill)
    (adds-next pcm fill) c

pub ends-mended : (pcm : SampleFormat) (fill : Fill) (c : List Level) (m : List Placed)
    → given true fill c (reports c) ≡ begun fill c ++ m
    → (mend_writing pcm fill).ends c ≡ narrowed pcm (behind_blocks fill (begun fill c) m)
unfolding mend_writing
ends-mended pcm fill c m e =
    ap (λ v. narrowed pcm (behind_blocks fill (begun fill c) v))
    (sym (rest-is (begun fill c) (given true fill c (reports c)) m e))

pub with-mended : (pcm : SampleFormat) (fill : Fill) (c : List Level)
    → with_end (mend_writing pcm fill) c ≡ narrowed pcm (filled fill (given true fill c (reports c)))
unfolding with_end
with-mended pcm fill c =
    let e = given-more fill c (decided_at_end c) (reports-more c) in
    ap₂ (λ x y. x ++ y) (before-mended pcm fill c) (ends-mended pcm fill c _ e)
    ∙ sym (filled-more pcm fill (begun fill c) (given true fill c (reports c)) _ e)

pub behind-mended : (pcm : SampleFormat) (fill : Fill) (c d : List Level) (m : List Placed)
    → begun fill (c ++ d) ≡ begun fill c ++ m
    → behind (mend_writing pcm fill) c d ≡ narrowed pcm (behind_blocks fill (begun fill c) m)
behind-mended pcm fill c d m e =
    let w = mend_writing pcm fill in
    let a = narrowed pcm (filled fill (begun fill c)) in
    append_cancel_left a (behind w c d) (narrowed pcm (behind_blocks fill (begun fill c) m))
    (ap (λ z. z ++ behind w c d) (sym (before-mended pcm fill c)) ∙ sym (before-join w c d)
    ∙ before-mended pcm fill (c ++ d) ∙ filled-more pcm fill (begun fill c) (begun fill (c ++ d)) m e)

-- what an ending gives is what its report does
pub given-in : (fill : Fill) (k : LockState) (c : List Level) (b : List (List Bool)) (e : Ending)
    → HeldBlock k.words c (Some e)
    → mended_from fill c b (report_in k e ∷ []) ≡ given_in fill k.words b e
given-in fill k c b (EndsWhole at s) h = refl
given-in fill k c b (EndsMarked at s wrong) h =
    ap (mended_then fill [] b at []) (sym h)
given-in fill k c b (EndsFault at cell why) h = refl
given-in fill k c b (EndsUnfinished at cells) h = refl

-- without a marked block they are the whole ones
pub none-mended : (fill : Fill) (c : List Level) (b : List (List Bool)) (r : List Report) → marked_given true r ≡ 0
    → mended_from fill c b r ≡ placed r
none-mended fill c b [] e = refl
none-mended fill c b (Whole at s own ∷ r) e =
    ap (λ (v : List Placed). record { place = at; block = own } ∷ v) (none-mended fill c own r e)
none-mended fill c b (Marked at s wrong ∷ r) e = absurd (omega arith)
none-mended fill c b (Fault at cell why ∷ r) e = none-mended fill c b r e
none-mended fill c b (Unfinished at cells ∷ r) e = none-mended fill c b r e

-- they have their subframes, stand apart, and are so many
length-behind : (fill : Fill) (u v : List Bool) (slots : List (List Bool))
    → length (mended_behind fill u v slots) ≡ length slots
length-behind fill u v [] = refl
length-behind fill u v (bits ∷ slots) = ap suc (length-behind fill v (mended_payload fill u bits) slots)

length-read : (n : ℕ) (c : List Level) → length (read_slots n c) ≡ n
length-read zero c = refl
length-read (suc n) c = ap suc (length-read n (drop 64 c))

length-mended : (fill : Fill) (b : List (List Bool)) (c : List Level)
    → length (mended fill b (read_slots block_subframes c)) ≡ block_subframes
unfolding mended
length-mended fill b c = length-behind fill _ _ (read_slots block_subframes c) ∙ length-read block_subframes c

sized-from : (fill : Fill) (c : List Level) (b : List (List Bool)) (r : List Report) → All IsBlock (wholes r)
    → Sized (mended_from fill c b r)
sized-from fill c b [] h = tt
sized-from fill c b (Whole at s own ∷ r) h =
    ((h 0 own (omega arith)).count, sized-from fill c own r (λ k d l. h (suc k) d (omega arith)))
sized-from fill c b (Marked at s wrong ∷ r) h = (length-mended fill b (drop at c), sized-from fill c _ r h)
sized-from fill c b (Fault at cell why ∷ r) h = sized-from fill c b r h
sized-from fill c b (Unfinished at cells ∷ r) h = sized-from fill c b r h

apart-from : (fill : Fill) (c : List Level) (b : List (List Bool)) (n p : ℕ) (r : List Report) → Parted n p r
    → Apart p (mended_from fill c b r)
apart-from fill c b n p [] t = tt
apart-from fill c b n p (Whole at s own ∷ r) t = (t.0, apart-from fill c own n (at + block_len) r t.2)
apart-from fill c b n p (Marked at s wrong ∷ r) t = (t.0, apart-from fill c _ n (at + block_len) r t.2)
apart-from fill c b n p (Fault at cell why ∷ r) t =
    let h = t.0 in apart-from fill c b n p r (parted-weaker n p (suc at) r (omega arith) t.2)
apart-from fill c b n p (Unfinished at cells ∷ r) t =
    let h = t.0 in apart-from fill c b n p r (parted-weaker n p (suc at) r (omega arith) t.2)

count-from : (fill : Fill) (c : List Level) (b : List (List Bool)) (r : List Report)
    → length (wholes r) + length (filter is_marked r) ≡ length (mended_from fill c b r)
count-from fill c b [] = refl
count-from fill c b (Whole at s own ∷ r) = let e = count-from fill c own r in omega arith
count-from fill c b (Marked at s wrong ∷ r) =
    let e = count-from fill c (mended fill b (read_slots block_subframes (drop at c))) r in omega arith
count-from fill c b (Fault at cell why ∷ r) = count-from fill c b r
count-from fill c b (Unfinished at cells ∷ r) = count-from fill c b r

sized-mended : (fill : Fill) (c : List Level) → Sized (given true fill c (reports c))
unfolding blocks
sized-mended fill c = sized-from fill c zero_block (reports c) (blocks-lawful c)

pub apart-mended : (fill : Fill) (c : List Level) → Apart 0 (given true fill c (reports c))
apart-mended fill c = apart-from fill c zero_block (length c) 0 (reports c) (parted-reports c)

pub count-mended : (fill : Fill) (c : List Level) (r : List Report)
    → length (wholes r) + marked_given true r ≡ length (given true fill c r)
count-mended fill c r = count-from fill c zero_block r

pub marked-push : (r : List Report) (x : Report)
    → marked_given true (r ++ x ∷ []) ≡ marked_given true r + marked_given true (x ∷ [])
marked-push r x =
    ap length (filter-append is_marked r (x ∷ [])) ∙ length-append (filter is_marked r) (filter is_marked (x ∷ []))

-- how many frames fill the time between them does not hang on what they are
frames-like : (f h : Fill) (c : List Level) (b d : List (List Bool)) (p : ℕ) (x y : Placed) (r : List Report)
    → x.place ≡ y.place
    → frames_filled_behind p x (mended_from f c b r) ≡ frames_filled_behind p y (mended_from h c d r)
frames-like f h c b d p x y [] e = refl
frames-like f h c b d p x y (Whole at s own ∷ r) e =
    ap₂ ◌+◌ (ap (λ q. frames_between p at - (frames_between p q + block_frames)) e)
    (frames-like f h c own own p _ _ r refl)
frames-like f h c b d p x y (Marked at s wrong ∷ r) e =
    ap₂ ◌+◌ (ap (λ q. frames_between p at - (frames_between p q + block_frames)) e)
    (frames-like f h c _ _ p _ _ r refl)
frames-like f h c b d p x y (Fault at cell why ∷ r) e = frames-like f h c b d p x y r e
frames-like f h c b d p x y (Unfinished at cells ∷ r) e = frames-like f h c b d p x y r e

frames-from : (f h : Fill) (c : List Level) (b d : List (List Bool)) (r : List Report)
    → frames_filled (mended_from f c b r) ≡ frames_filled (mended_from h c d r)
frames-from f h c b d [] = refl
frames-from f h c b d (Whole at s own ∷ r) = frames-like f h c own own at _ _ r refl
frames-from f h c b d (Marked at s wrong ∷ r) = frames-like f h c _ _ at _ _ r refl
frames-from f h c b d (Fault at cell why ∷ r) = frames-from f h c b d r
frames-from f h c b d (Unfinished at cells ∷ r) = frames-from f h c b d r

pub frames-same : (f h : Fill) (c : List Level) (r : List Report)
    → frames_filled (given true f c r) ≡ frames_filled (given true h c r)
frames-same f h c r = frames-from f h c zero_block zero_block r

-- with the marked blocks or without
pub sized-given : (marked : Bool) (fill : Fill) (c : List Level) → Sized (given marked fill c (reports c))
sized-given true fill c = sized-mended fill c
sized-given false fill c = sized-of c

pub apart-given : (marked : Bool) (fill : Fill) (c : List Level) → Apart 0 (given marked fill c (reports c))
apart-given true fill c = apart-mended fill c
apart-given false fill c = apart-of c

pub count-given : (marked : Bool) (fill : Fill) (c : List Level) (r : List Report)
    → length (wholes r) + marked_given marked r ≡ length (given marked fill c r)
count-given true fill c r = count-mended fill c r
count-given false fill c r = let e = placed-count r in omega arith

pub none-given : (marked : Bool) (fill : Fill) (c : List Level) (r : List Report) → marked_given marked r ≡ 0
    → given marked fill c r ≡ placed r
none-given true fill c r e = none-mended fill c zero_block r e
none-given false fill c r e = refl
