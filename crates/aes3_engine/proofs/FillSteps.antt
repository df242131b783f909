-- Samples that keep time, made block by block.
use Rattle.std.proofs.Common.{◌≡◌, ℕ, zero, suc, ◌+◌, ◌-◌, ◌/◌, ◌%◌, ◌<◌, length, length-drop, List, [], ◌∷◌, ◌++◌}
use Rattle.std.proofs.Common.{Bool, Option, Some, drop}
use Rattle.std.proofs.Common.{replicate, refl, sym, ap, ap₂, ◌∙◌, arith, append-nil, append_assoc}
use Rattle.std.specs.List.{flat_map}
use Rattle.std.proofs.lemmas.Grind.{flat_map-append}
use Rattle.std.proofs.lemmas.List.{replicate-append-replicate}
use Rattle.aes3_frame.specs.declared.fill.Fill.{Fill}
use Rattle.aes3_frame.specs.declared.fill.Fill.TheVariants.{Zero, Hold}
use Rattle.aes3_frame.specs.Samples.{block_samples}
use Rattle.aes3_lock.specs.declared.report.Report.{Report}
use Rattle.aes3_lock.specs.declared.report.Report.TheVariants.{Whole, Marked, Fault, Unfinished}
use Rattle.aes3_input.specs.Taking.{before_end, with_end}
use Rattle.aes3_input.proofs.Items.{before-is}
use Rattle.aes3_forms_samples.specs.declared.sample_format.SampleFormat.{SampleFormat}
use Rattle.aes3_forms_samples.specs.Formats.{narrowed}
use Rattle.aes3_forms_samples.proofs.Formats.{narrowed-join, narrowed-none}
use Rattle.aes3_engine.proofs.PcmRuns.{block-whole, join-whole}
use Rattle.aes3_engine.specs.declared.filling.Progress.{Progress}
use Rattle.aes3_engine.specs.Filling.{Placed, placed, between, filled_behind, filled, frame_cells, frame_bytes}
use Rattle.aes3_engine.specs.Filling.{block_frames, frames_between, filling, repeated}
use Rattle.aes3_engine.specs.FillSteps.{last_of, behind_blocks, fill_writing, reached, progress_of, first_of}
use Rattle.aes3_engine.specs.FillSteps.{progress_behind, bytes_behind}

-- more reports have more blocks
pub placed-append : (r q : List Report) → placed (r ++ q) ≡ placed r ++ placed q
placed-append [] q = refl
placed-append (Whole at s b ∷ r) q =
    ap (λ (v : List Placed). record { place = at; block = b } ∷ v) (placed-append r q)
placed-append (Marked at s wrong ∷ r) q = placed-append r q
placed-append (Fault at cell why ∷ r) q = placed-append r q
placed-append (Unfinished at cells ∷ r) q = placed-append r q

-- what more blocks write
behind-append : (fill : Fill) (p : ℕ) (x : Placed) (xs ys : List Placed)
    → filled_behind fill p x (xs ++ ys) ≡ filled_behind fill p x xs ++ filled_behind fill p (last_of x xs) ys
behind-append fill p x [] ys = refl
behind-append fill p x (z ∷ xs) ys =
    let b = between fill p x z in
    let s = block_samples z.block in
    let f = filled_behind fill p z xs in
    let g = filled_behind fill p (last_of z xs) ys in
    ap (λ v. b ++ s ++ v) (behind-append fill p z xs ys) ∙ sym (append_assoc (b ++ s) f g)

pub filled-append : (fill : Fill) (xs ys : List Placed)
    → filled fill (xs ++ ys) ≡ filled fill xs ++ behind_blocks fill xs ys
filled-append fill [] ys = refl
filled-append fill (x ∷ xs) ys =
    let s = block_samples x.block in
    ap (λ v. s ++ v) (behind-append fill x.place x xs ys)
    ∙ sym (append_assoc s (filled_behind fill x.place x xs) (filled_behind fill x.place (last_of x xs) ys))

-- they are whole samples of 32 bits
repeated-whole : (n : ℕ) (frame : List ℕ) → length frame % 4 ≡ 0 → length (repeated n frame) % 4 ≡ 0
unfolding repeated
repeated-whole zero frame h = refl
repeated-whole (suc n) frame h = join-whole frame (repeated n frame) h (repeated-whole n frame h)

filling-whole : (fill : Fill) (b : List (List Bool)) → length (filling fill b) % 4 ≡ 0
unfolding filling frame_bytes block_frames
filling-whole Zero b = refl
filling-whole Hold b =
    let l = length-drop 1528 (block_samples b) in let r = block-whole b in omega arith

between-whole : (fill : Fill) (p : ℕ) (x y : Placed) → length (between fill p x y) % 4 ≡ 0
between-whole fill p x y =
    repeated-whole (frames_between p y.place - (frames_between p x.place + block_frames)) (filling fill x.block)
    (filling-whole fill x.block)

behind-whole : (fill : Fill) (p : ℕ) (x : Placed) (more : List Placed)
    → length (filled_behind fill p x more) % 4 ≡ 0
behind-whole fill p x [] = refl
behind-whole fill p x (y ∷ more) =
    join-whole (between fill p x y ++ block_samples y.block) (filled_behind fill p y more)
    (join-whole (between fill p x y) (block_samples y.block) (between-whole fill p x y) (block-whole y.block))
    (behind-whole fill p y more)

pub filled-whole : (fill : Fill) (xs : List Placed) → length (filled fill xs) % 4 ≡ 0
filled-whole fill [] = refl
filled-whole fill (x ∷ more) =
    join-whole (block_samples x.block) (filled_behind fill x.place x more) (block-whole x.block)
    (behind-whole fill x.place x more)

-- what reports write
pub before-filled : (pcm : SampleFormat) (fill : Fill) (r : List Report)
    → before_end (fill_writing pcm fill) r ≡ narrowed pcm (filled fill (placed r))
unfolding fill_writing
before-filled pcm fill r =
    before-is (fill_writing pcm fill) (λ q. narrowed pcm (filled fill (placed q))) (narrowed-none pcm)
    (λ q x. ap (λ v. narrowed pcm (filled fill v)) (placed-append q (x ∷ []))
    ∙ ap (narrowed pcm) (filled-append fill (placed q) (placed (x ∷ [])))
    ∙ narrowed-join pcm (filled fill (placed q)) (behind_blocks fill (placed q) (placed (x ∷ [])))
    (filled-whole fill (placed q))) r

pub with-filled : (pcm : SampleFormat) (fill : Fill) (r : List Report)
    → with_end (fill_writing pcm fill) r ≡ narrowed pcm (filled fill (placed r))
unfolding with_end fill_writing
with-filled pcm fill r = append-nil (before_end (fill_writing pcm fill) r) ∙ before-filled pcm fill r

-- how far samples come with more blocks
last-append : (x : Placed) (xs ys : List Placed) → last_of x (xs ++ ys) ≡ last_of (last_of x xs) ys
last-append x [] ys = refl
last-append x (z ∷ xs) ys = last-append z xs ys

reached-behind : (fill : Fill) (p : ℕ) (x : Placed) (ys : List Placed)
    → progress_behind fill (Some (reached fill p x)) ys ≡ Some (reached fill p (last_of x ys))
reached-behind fill p x [] = refl
reached-behind fill p x (y ∷ ys) = reached-behind fill p y ys

pub progress-append : (fill : Fill) (xs ys : List Placed)
    → progress_behind fill (progress_of fill xs) ys ≡ progress_of fill (xs ++ ys)
progress-append fill [] [] = refl
progress-append fill [] (y ∷ ys) = reached-behind fill y.place y ys
progress-append fill (x ∷ xs) ys =
    reached-behind fill x.place (last_of x xs) ys
    ∙ ap (λ v. Some (reached fill x.place v)) (sym (last-append x xs ys))

-- and what these write by that
reached-bytes : (pcm : SampleFormat) (fill : Fill) (p : ℕ) (x : Placed) (ys : List Placed)
    → bytes_behind pcm fill (Some (reached fill p x)) ys ≡ narrowed pcm (filled_behind fill p x ys)
reached-bytes pcm fill p x [] = sym (narrowed-none pcm)
reached-bytes pcm fill p x (y ∷ ys) =
    let b = between fill p x y in
    let s = block_samples y.block in
    ap (λ v. narrowed pcm b ++ narrowed pcm s ++ v) (reached-bytes pcm fill p y ys)
    ∙ ap (λ v. v ++ narrowed pcm (filled_behind fill p y ys)) (sym (narrowed-join pcm b s (between-whole fill p x y)))
    ∙ sym (narrowed-join pcm (b ++ s) (filled_behind fill p y ys)
    (join-whole b s (between-whole fill p x y) (block-whole y.block)))

pub bytes-behind : (pcm : SampleFormat) (fill : Fill) (xs ys : List Placed)
    → bytes_behind pcm fill (progress_of fill xs) ys ≡ narrowed pcm (behind_blocks fill xs ys)
bytes-behind pcm fill [] [] = sym (narrowed-none pcm)
bytes-behind pcm fill [] (y ∷ ys) =
    ap (λ v. v ++ narrowed pcm (block_samples y.block) ++ bytes_behind pcm fill (Some (reached fill y.place y)) ys)
    (narrowed-none pcm)
    ∙ ap (λ v. narrowed pcm (block_samples y.block) ++ v) (reached-bytes pcm fill y.place y ys)
    ∙ sym (narrowed-join pcm (block_samples y.block) (filled_behind fill y.place y ys) (block-whole y.block))
bytes-behind pcm fill (x ∷ xs) ys = reached-bytes pcm fill x.place (last_of x xs) ys

-- one more report
pub progress-next : (fill fill' : Fill) (k k' : Option Progress) (r : List Report) (x : Report) → fill' ≡ fill
    → k' ≡ progress_behind fill k (placed (x ∷ [])) → k ≡ progress_of fill (placed r)
    → k' ≡ progress_of fill' (placed (r ++ x ∷ []))
progress-next fill fill' k k' r x e p q =
    p ∙ ap (λ (v : Option Progress). progress_behind fill v (placed (x ∷ []))) q
    ∙ progress-append fill (placed r) (placed (x ∷ []))
    ∙ ap (progress_of fill) (sym (placed-append r (x ∷ [])))
    ∙ ap (λ (f : Fill). progress_of f (placed (r ++ x ∷ []))) (sym e)

pub adds-is : (pcm : SampleFormat) (fill : Fill) (k : Option Progress) (r : List Report) (x : Report)
    → k ≡ progress_of fill (placed r)
    → bytes_behind pcm fill k (placed (x ∷ [])) ≡ (fill_writing pcm fill).adds r x
unfolding fill_writing
adds-is pcm fill k r x e =
    ap (λ (v : Option Progress). bytes_behind pcm fill v (placed (x ∷ []))) e
    ∙ bytes-behind pcm fill (placed r) (placed (x ∷ []))

-- how many frames there are, and what a frame is
pub nearest : (p q n : ℕ) → n ≡ q - p → n / 128 + n % 128 / 64 ≡ frames_between p q
unfolding frames_between frame_cells
nearest p q n e = omega arith

pub zero-frame : (b : List (List Bool)) → ◌≡◌ {A = List ℕ} (0 ∷ 0 ∷ 0 ∷ 0 ∷ 0 ∷ 0 ∷ 0 ∷ 0 ∷ []) (filling Zero b)
unfolding filling frame_bytes
zero-frame b = refl

pub last-frame : (b : List (List Bool)) → drop 1528 (block_samples b) ≡ filling Hold b
unfolding filling frame_bytes block_frames
last-frame b = refl

-- how far samples have come with one more block
pub progress-is : (fill : Fill) (k : Option Progress) (at : ℕ) (b : List (List Bool))
    {first frames : ℕ} {frame : List ℕ} → first ≡ first_of k at → frames ≡ frames_between first at
    → frame ≡ filling fill b
    → ◌≡◌ {A = Option Progress} (Some (record { first = first; frames = frames + 192; frame = frame }))
    (Some (reached fill (first_of k at) (record { place = at; block = b })))
unfolding block_frames
progress-is fill k at b {first} {frames} {frame} p q r =
    ap (λ (f : ℕ). Some (record { first = f; frames = frames + 192; frame = frame })) p
    ∙ ap₂ (λ (n : ℕ) (v : List ℕ). Some (record { first = first_of k at; frames = n; frame = v }))
    (ap (λ n. n + 192) (q ∙ ap (λ f. frames_between f at) p)) r

-- a frame so many times
repeated-add : (n m : ℕ) (frame : List ℕ) → repeated (n + m) frame ≡ repeated n frame ++ repeated m frame
unfolding repeated
repeated-add n m frame =
    ap (flat_map (λ f. f)) (sym (replicate-append-replicate n m frame))
    ∙ flat_map-append (λ f. f) (replicate n frame) (replicate m frame)

repeated-once : (frame : List ℕ) → repeated 1 frame ≡ frame
unfolding repeated
repeated-once frame = append-nil frame

pub repeated-none : (frame : List ℕ) → repeated 0 frame ≡ []
unfolding repeated
repeated-none frame = refl

pub repeated-more : (n : ℕ) (frame : List ℕ) → repeated (n + 1) frame ≡ repeated n frame ++ frame
repeated-more n frame = repeated-add n 1 frame ∙ ap (λ v. repeated n frame ++ v) (repeated-once frame)

pub repeated-rest : (k n : ℕ) (frame : List ℕ) → k < n
    → (repeated k frame ++ frame) ++ repeated (n - (k + 1)) frame ≡ repeated n frame
repeated-rest k n frame l =
    let e : k + 1 + (n - (k + 1)) ≡ n = omega arith in
    ap (λ v. v ++ repeated (n - (k + 1)) frame) (sym (repeated-more k frame))
    ∙ sym (repeated-add (k + 1) (n - (k + 1)) frame) ∙ ap (λ m. repeated m frame) e

-- frames in a form
pub narrowed-frames : (pcm : SampleFormat) (n : ℕ) (frame : List ℕ) → length frame % 4 ≡ 0
    → repeated n (narrowed pcm frame) ≡ narrowed pcm (repeated n frame)
unfolding repeated
narrowed-frames pcm zero frame h = sym (narrowed-none pcm)
narrowed-frames pcm (suc n) frame h =
    ap (λ v. narrowed pcm frame ++ v) (narrowed-frames pcm n frame h)
    ∙ sym (narrowed-join pcm frame (repeated n frame) h)
