-- Samples that keep time: as those of blocks in a row, and in time.
use Rattle.std.proofs.Common.{◌≡◌, ℕ, zero, suc, ◌+◌, ◌-◌, ◌*◌, ◌/◌, ◌<◌, ◌≤◌, List, [], ◌∷◌, ◌++◌, Bool, length}
use Rattle.std.proofs.Common.{replicate, refl, sym, ap, ap₂, ◌∙◌, subst, arith, append_assoc, length-append}
use Rattle.std.proofs.Common.{length-drop, map, Some, None}
use Rattle.std.specs.List.{All, flat_map}
use Rattle.std.proofs.lemmas.List.{length-replicate, length-map}
use Rattle.aes3_level.specs.declared.level.Level.{Level}
use Rattle.aes3_frame.specs.declared.fill.Fill.{Fill}
use Rattle.aes3_frame.specs.declared.fill.Fill.TheVariants.{Zero, Hold}
use Rattle.aes3_frame.specs.Blocks.{block_len, block_subframes, IsBlock}
use Rattle.aes3_frame.specs.Samples.{block_samples, samples, sample_of}
use Rattle.aes3_frame.proofs.BlockLemmas.{block_subframes_384}
use Rattle.aes3_lock.specs.declared.report.Report.{Report}
use Rattle.aes3_lock.specs.declared.report.Report.TheVariants.{Whole, Marked, Fault, Unfinished}
use Rattle.aes3_lock.specs.Reports.{reports, wholes, blocks}
use Rattle.aes3_lock.proofs.Deciding.{block_len_24576}
use Rattle.aes3_lock.proofs.NormalStreams.{blocks-lawful}
use Rattle.aes3_lock.proofs.ReportPlaces.{Spaced, spaced-weaker, spaced-reports}
use Rattle.aes3_engine.specs.Filling.{Placed, placed, frame_cells, frame_bytes, block_frames, frames_between, filling}
use Rattle.aes3_engine.specs.Filling.{repeated, between, filled_behind, filled, InRow, StandsInTime, KeepsTime}
use Rattle.aes3_engine.specs.Filling.{frames_filled_behind, frames_filled}
use Rattle.aes3_engine.specs.declared.filling.Progress.{Progress}
use Rattle.aes3_engine.specs.FillSteps.{last_of, Apart, reached, progress_of}
use Rattle.aes3_frame.proofs.FileLaws.{length-bytes}

-- blocks have their subframes
abbrev pub Sized : List Placed → Type 0
Sized [] = Unit {0}
Sized (x ∷ more) = (length x.block ≡ block_subframes) × Sized more

sized : (r : List Report) → All IsBlock (wholes r) → Sized (placed r)
sized [] h = tt
sized (Whole at s b ∷ r) h = ((h 0 b (omega arith)).count, sized r (λ k d l. h (suc k) d (omega arith)))
sized (Marked at s wrong ∷ r) h = sized r h
sized (Fault at cell why ∷ r) h = sized r h
sized (Unfinished at cells ∷ r) h = sized r h

apart : (p : ℕ) (r : List Report) → Spaced p r → Apart p (placed r)
apart p [] s = tt
apart p (Whole at t b ∷ r) s = (s.0, apart (at + block_len) r s.1)
apart p (Marked at t wrong ∷ r) s = let h = s.0 in apart p r (spaced-weaker p (suc at) r (omega arith) s.1)
apart p (Fault at cell why ∷ r) s = let h = s.0 in apart p r (spaced-weaker p (suc at) r (omega arith) s.1)
apart p (Unfinished at cells ∷ r) s = let h = s.0 in apart p r (spaced-weaker p (suc at) r (omega arith) s.1)

pub sized-of : (c : List Level) → Sized (placed (reports c))
unfolding blocks
sized-of c = sized (reports c) (blocks-lawful c)

pub apart-of : (c : List Level) → Apart 0 (placed (reports c))
apart-of c = apart 0 (reports c) (spaced-reports c)

-- how many frames there are
between-next : (p q : ℕ) → p ≤ q → frames_between p (q + block_len) ≡ frames_between p q + block_frames
unfolding frames_between frame_cells block_frames
between-next p q h = rw block_len_24576 (omega arith)

between-later : (p q z : ℕ) → p ≤ q → q + block_len ≤ z → frames_between p q + block_frames ≤ frames_between p z
unfolding frames_between frame_cells block_frames
between-later p q z h l = let m = block_len_24576 in omega arith

between-first : (p : ℕ) → frames_between p p ≡ 0
unfolding frames_between frame_cells
between-first p = omega arith

not-late : (p q : ℕ) → frame_cells * frames_between p q ≤ q - p + frame_cells / 2
unfolding frames_between frame_cells
not-late p q = omega arith

not-early : (p q : ℕ) → q - p < frame_cells * frames_between p q + frame_cells / 2
unfolding frames_between frame_cells
not-early p q = omega arith

-- how many bytes they have
length-repeated : (n : ℕ) (frame : List ℕ) → length frame ≡ frame_bytes → length (repeated n frame) ≡ frame_bytes * n
unfolding repeated frame_bytes
length-repeated zero frame h = refl
length-repeated (suc n) frame h =
    let a = length-append frame (flat_map (λ f. f) (replicate n frame)) in
    let l = length-repeated n frame h in
    omega arith

length-block : (b : List (List Bool)) → length b ≡ block_subframes → length (block_samples b) ≡ frame_bytes * block_frames
unfolding block_samples frame_bytes block_frames
length-block b h =
    let l = length-bytes (map sample_of b) in
    let m = length-map b sample_of in
    let n = block_subframes_384 in
    omega arith

length-filling : (fill : Fill) (b : List (List Bool)) → length b ≡ block_subframes
    → length (filling fill b) ≡ frame_bytes
unfolding filling frame_bytes block_frames
length-filling Zero b h = length-replicate {A = ℕ} 8 0
length-filling Hold b h =
    let l = length-block b h in
    let d = length-drop (frame_bytes * (block_frames - 1)) (block_samples b) in
    omega arith

length-between : (fill : Fill) (p : ℕ) (x y : Placed) → length x.block ≡ block_subframes
    → length (between fill p x y)
    ≡ frame_bytes * (frames_between p y.place - (frames_between p x.place + block_frames))
length-between fill p x y h =
    length-repeated (frames_between p y.place - (frames_between p x.place + block_frames)) (filling fill x.block)
    (length-filling fill x.block h)

-- blocks in a row have nothing between them
row-between : (fill : Fill) (p : ℕ) (x y : Placed) → p ≤ x.place → y.place ≡ x.place + block_len
    → between fill p x y ≡ []
unfolding repeated
row-between fill p x y h e =
    let n = between-next p x.place h in
    let m = ap (frames_between p) e in
    let z : frames_between p y.place - (frames_between p x.place + block_frames) ≡ 0 = omega arith in
    ap (λ k. repeated k (filling fill x.block)) z

row-behind : (fill : Fill) (p : ℕ) (x : Placed) (more : List Placed) → p ≤ x.place → InRow (x.place + block_len) more
    → filled_behind fill p x more ≡ flat_map (λ (y : Placed). block_samples y.block) more
row-behind fill p x [] h r = refl
row-behind fill p x (y ∷ more) h r =
    let e = r.0 in
    ap₂ (λ u v. u ++ block_samples y.block ++ v) (row-between fill p x y h e)
    (row-behind fill p y more (omega arith) (subst (λ (q : ℕ). InRow (q + block_len) more) (sym e) r.1))

row-filled : (fill : Fill) (p : ℕ) (xs : List Placed) → InRow p xs
    → filled fill xs ≡ flat_map (λ (y : Placed). block_samples y.block) xs
row-filled fill p [] r = refl
row-filled fill p (x ∷ more) r =
    ap (λ v. block_samples x.block ++ v) (row-behind fill x.place x more (omega arith)
    (subst (λ (q : ℕ). InRow (q + block_len) more) (sym r.0) r.1))

placed-samples : (r : List Report) → flat_map (λ (y : Placed). block_samples y.block) (placed r) ≡ samples (wholes r)
placed-samples [] = refl
placed-samples (Whole at s b ∷ r) = ap (λ v. block_samples b ++ v) (placed-samples r)
placed-samples (Marked at s wrong ∷ r) = placed-samples r
placed-samples (Fault at cell why ∷ r) = placed-samples r
placed-samples (Unfinished at cells ∷ r) = placed-samples r

pub row-samples : (fill : Fill) (p : ℕ) (c : List Level) → InRow p (placed (reports c))
    → filled fill (placed (reports c)) ≡ samples (blocks c)
unfolding blocks
row-samples fill p c h = row-filled fill p (placed (reports c)) h ∙ placed-samples (reports c)

-- the samples in front of block y, behind block x
record Front (fill : Fill) (p : ℕ) (x y : Placed) (a b : List Placed) : Type 0 where
  before : List ℕ
  is : filled_behind fill p x (a ++ y ∷ b) ≡ before ++ block_samples y.block ++ filled_behind fill p y b
  count : length before + frame_bytes * (frames_between p x.place + block_frames)
      ≡ frame_bytes * frames_between p y.place

front : (fill : Fill) (p : ℕ) (x y : Placed) (a b : List Placed) → p ≤ x.place → Sized (x ∷ a ++ y ∷ b)
    → Apart (x.place + block_len) (a ++ y ∷ b) → Front fill p x y a b
unfolding frame_bytes
front fill p x y [] b h s q =
    let l = between-later p x.place y.place h q.0 in
    let n = length-between fill p x y s.0 in
    record { before = between fill p x y; is = refl; count = omega arith }
front fill p x y (z ∷ a) b h s q =
    let l = between-later p x.place z.place h q.0 in
    let n = length-between fill p x z s.0 in
    let k = length-block z.block s.1.0 in
    let g = q.0 in
    let f = front fill p z y a b (omega arith) s.1 q.1 in
    let i = between fill p x z in
    let j = block_samples z.block in
    let e = length-append (i ++ j) f.before in
    let d = length-append i j in
    let w = f.count in
    record {
      before = i ++ j ++ f.before;
      is = ap (λ v. i ++ j ++ v) f.is
          ∙ sym (append_assoc (i ++ j) (f.before ++ block_samples y.block) (filled_behind fill p y b))
          ∙ ap (λ v. v ++ filled_behind fill p y b) (sym (append_assoc (i ++ j) f.before (block_samples y.block)));
      count = omega arith;
    }

last-nothing : (fill : Fill) (p : ℕ) (y : Placed) (b : List Placed) → b ≡ [] → filled_behind fill p y b ≡ []
last-nothing fill p y b e = ap (filled_behind fill p y) e

pub keeps-time : (fill : Fill) (p : ℕ) (xs : List Placed) → Sized xs → Apart p xs → KeepsTime (filled fill xs) xs
unfolding frame_bytes
keeps-time fill p [] s q = refl
keeps-time fill p (x ∷ more) s q = go
  where
    go : (a : List Placed) (y : Placed) (b : List Placed) → x ∷ more ≡ a ++ y ∷ b
        → StandsInTime (filled fill (x ∷ more)) x.place y b
    go [] y b e =
        let same : x ≡ y = cc in
        let rest : more ≡ b = cc in
        let z : 0 ≡ frames_between x.place y.place =
        sym (between-first x.place) ∙ ap (λ (v : Placed). frames_between x.place v.place) same in
        record {
          frames = frames_between x.place y.place;
          before = [];
          after = filled_behind fill x.place y b;
          is = ap₂ (λ (u : Placed) v. block_samples u.block ++ filled_behind fill x.place u v) same rest;
          count = omega arith;
          not_late = not-late x.place y.place;
          not_early = not-early x.place y.place;
          last = last-nothing fill x.place y b;
        }
    go (w ∷ a) y b e =
        let rest : more ≡ a ++ y ∷ b = cc in
        let f = front fill x.place x y a b (omega arith)
        (s.0, subst Sized rest s.1) (subst (Apart (x.place + block_len)) rest q.1) in
        let j = block_samples x.block in
        let k = length-block x.block s.0 in
        let d = length-append j f.before in
        let n = f.count in
        let z = between-first x.place in
        record {
          frames = frames_between x.place y.place;
          before = j ++ f.before;
          after = filled_behind fill x.place y b;
          is = ap (λ v. j ++ v) (ap (filled_behind fill x.place x) rest ∙ f.is)
              ∙ sym (append_assoc j (f.before ++ block_samples y.block) (filled_behind fill x.place y b))
              ∙ ap (λ v. v ++ filled_behind fill x.place y b) (sym (append_assoc j f.before (block_samples y.block)));
          count = omega arith;
          not_late = not-late x.place y.place;
          not_early = not-early x.place y.place;
          last = last-nothing fill x.place y b;
        }

-- all blocks with their filling are as many frames as stand before the last and in it
pub placed-count : (r : List Report) → length (placed r) ≡ length (wholes r)
placed-count [] = refl
placed-count (Whole at s b ∷ r) = ap suc (placed-count r)
placed-count (Marked at s wrong ∷ r) = placed-count r
placed-count (Fault at cell why ∷ r) = placed-count r
placed-count (Unfinished at cells ∷ r) = placed-count r

frames-behind : (p : ℕ) (x : Placed) (more : List Placed) → p ≤ x.place → Apart (x.place + block_len) more
    → frames_between p (last_of x more).place
    ≡ frames_between p x.place + 192 * length more + frames_filled_behind p x more
unfolding block_frames
frames-behind p x [] h q = omega arith
frames-behind p x (y ∷ more) h q =
    let l = between-later p x.place y.place h q.0 in
    let g = q.0 in
    let t = frames-behind p y more (omega arith) q.1 in
    omega arith

frames-placed : (fill : Fill) (xs : List Placed) (k : Progress) → Apart 0 xs → Some k ≡ progress_of fill xs
    → k.frames ≡ 192 * length xs + frames_filled xs
unfolding block_frames
frames-placed fill [] k q e = cc
frames-placed fill (x ∷ more) k q e =
    let t = frames-behind x.place x more (omega arith) q.1 in
    let z = between-first x.place in
    let f : k ≡ reached fill x.place (last_of x more) = cc in
    let n = ap (λ (v : Progress). v.frames) f in
    omega arith

pub frames-told : (fill : Fill) (xs : List Placed) (k : Progress) (n : ℕ) → Apart 0 xs → Some k ≡ progress_of fill xs
    → n ≡ length xs → k.frames ≡ block_frames * n + frames_filled xs
unfolding block_frames
frames-told fill xs k n q e m = let t = frames-placed fill xs k q e in omega arith

pub no-frames : (fill : Fill) (xs : List Placed) → None ≡ progress_of fill xs → 0 ≡ frames_filled xs
no-frames fill [] e = refl
no-frames fill (x ∷ more) e = cc

-- and so many frames long
length-behind : (fill : Fill) (p : ℕ) (x : Placed) (more : List Placed) → Sized (x ∷ more)
    → length (filled_behind fill p x more) ≡ 8 * (192 * length more + frames_filled_behind p x more)
unfolding frame_bytes block_frames
length-behind fill p x [] s = refl
length-behind fill p x (y ∷ more) s =
    let i = between fill p x y in
    let j = block_samples y.block in
    let a = length-append (i ++ j) (filled_behind fill p y more) in
    let d = length-append i j in
    let n = length-between fill p x y s.0 in
    let k = length-block y.block s.1.0 in
    let t = length-behind fill p y more s.1 in
    omega arith

pub length-filled : (fill : Fill) (xs : List Placed) → Sized xs
    → length (filled fill xs) ≡ frame_bytes * (block_frames * length xs + frames_filled xs)
unfolding frame_bytes block_frames
length-filled fill [] s = refl
length-filled fill (x ∷ more) s =
    let a = length-append (block_samples x.block) (filled_behind fill x.place x more) in
    let k = length-block x.block s.0 in
    let t = length-behind fill x.place x more s in
    omega arith
