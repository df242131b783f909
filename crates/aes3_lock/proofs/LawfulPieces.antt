-- The cells of a lawful stream, and where preambles stand in it.
use Rattle.std.proofs.Common.{◌≡◌, ℕ, zero, suc, ◌+◌, ◌*◌, ◌/◌, ◌%◌, ◌<◌, ◌≤◌, List, [], ◌∷◌, ◌++◌, Bool, map, refl}
use Rattle.std.proofs.Common.{length, ap, ap₂, ◌∙◌, sym, subst, arith, append_assoc, length-append}
use Rattle.std.specs.List.{flat_map}
use Rattle.std.proofs.lemmas.List.{length-map, map-append}
use Rattle.aes3_level.specs.declared.level.Level.{Level}
use Rattle.aes3_level.specs.Cells.{line, after}
use Rattle.aes3_level.proofs.Runs.{line-append}
use Rattle.aes3_slot.specs.declared.mark.Mark.{Mark}
use Rattle.aes3_slot.specs.Slots.{slot_runs, subframe_runs, runs_of, with_parity, slots_len}
use Rattle.aes3_slot.specs.Rules.{before, AllKept, StandsMark}
use Rattle.aes3_slot.proofs.Index.{subframe, subframe-length, subframe-last, before-append_right}
use Rattle.aes3_slot.proofs.Subframes.{after-subframe, length-with_parity}
use Rattle.aes3_slot.proofs.Bridge.{kept-runs}
use Rattle.aes3_slot.proofs.Aligned.{aligned, aligned-own}
use Rattle.aes3_slot.proofs.OwnPreambles.{stands-room}
use Rattle.aes3_slot.proofs.Distance.{stands-from}
use Rattle.aes3_frame.specs.Blocks.{mark_at, block_subframes, block_runs, stream}
use Rattle.aes3_frame.proofs.Runs.{Each27}
use Rattle.aes3_frame.proofs.FileLaws.{EachBlock}
use Rattle.aes3_lock.proofs.Viability.{length-runs_of}
use Rattle.aes3_frame.proofs.Each.{each-payload}
use Rattle.aes3_frame.proofs.CellLaws.{each28}

-- the payloads of blocks one behind the other
abbrev pub payloads_in : List (List (List Bool)) → List (List Bool)
payloads_in [] = []
payloads_in (b ∷ bs) = b ++ payloads_in bs

each27-append : (a b : List (List Bool)) → Each27 a → Each27 b → Each27 (a ++ b)
each27-append [] b h g = g
each27-append (p ∷ a) b h g = (h.0, each27-append a b h.1 g)

pub each27-in : (bs : List (List (List Bool))) → EachBlock bs → Each27 (payloads_in bs)
each27-in [] h = tt
each27-in (b ∷ bs) h = each27-append b (payloads_in bs) (each-payload b h.0.payloads) (each27-in bs h.1)

pub length-in : (bs : List (List (List Bool))) → EachBlock bs → length (payloads_in bs) ≡ block_subframes * length bs
length-in [] h = omega arith
length-in (b ∷ bs) h =
    let a = length-append b (payloads_in bs) in
    let n = h.0.count in
    let m = length-in bs h.1 in
    omega (arith, a, n, m)

-- the preambles of a stream's subframes by their number
abbrev pub stream_marks : ℕ → Mark
stream_marks j = mark_at (j % block_subframes)

slot-within : (j : ℕ) → j < block_subframes → j % block_subframes ≡ j
unfolding block_subframes
slot-within j h = omega arith

slot-behind : (n j : ℕ) → n ≡ block_subframes → (n + j) % block_subframes ≡ j % block_subframes
unfolding block_subframes
slot-behind n j e = omega arith

runs-same : (m n : ℕ → Mark) (ps : List (List Bool)) → ((j : ℕ) → j < length ps → m j ≡ n j)
    → runs_of m ps ≡ runs_of n ps
runs-same m n [] h = refl
runs-same m n (p ∷ ps) h =
    ap₂ (λ k r. slot_runs k p ++ r) (h 0 (omega arith))
    (runs-same (λ j. m (suc j)) (λ j. n (suc j)) ps (λ j l. h (suc j) (omega arith)))

runs-append : (m l n : ℕ → Mark) (a b : List (List Bool)) → ((j : ℕ) → j < length a → m j ≡ l j)
    → ((j : ℕ) → m (length a + j) ≡ n j)
    → runs_of m (a ++ b) ≡ runs_of l a ++ runs_of n b
runs-append m l n [] b h g = runs-same m n b (λ j o. let e : j ≡ 0 + j = omega arith in ap m e ∙ g j)
runs-append m l n (p ∷ a) b h g =
    ap₂ (λ k r. slot_runs k p ++ r) (h 0 (omega arith))
    (runs-append (λ j. m (suc j)) (λ j. l (suc j)) n a b (λ j o. h (suc j) (omega arith))
    (λ j. let e : suc (length a + j) ≡ suc (length a) + j = omega arith in ap m e ∙ g j))
    ∙ sym (append_assoc (slot_runs (l 0) p) (runs_of (λ j. l (suc j)) a) (runs_of n b))

pub stream-runs : (bs : List (List (List Bool))) → EachBlock bs
    → flat_map block_runs bs ≡ runs_of stream_marks (map with_parity (payloads_in bs))
stream-runs [] h = refl
stream-runs (b ∷ bs) h =
    let n : length (map with_parity b) ≡ block_subframes = length-map b with_parity ∙ h.0.count in
    ap (λ r. block_runs b ++ r) (stream-runs bs h.1)
    ∙ sym (runs-append stream_marks mark_at stream_marks (map with_parity b) (map with_parity (payloads_in bs))
    (λ j o. ap mark_at (slot-within j (omega arith)))
    (λ j. ap mark_at (slot-behind (length (map with_parity b)) j n)))
    ∙ ap (runs_of stream_marks) (sym (map-append with_parity b (payloads_in bs)))

pub stream-line : (s : Level) (bs : List (List (List Bool))) → EachBlock bs
    → stream s bs ≡ line s (runs_of stream_marks (map with_parity (payloads_in bs)))
unfolding stream
stream-line s bs h = ap (line s) (stream-runs bs h)

-- its subframes all end at the level before it
pub runs-level : (marks : ℕ → Mark) (s : Level) (ps : List (List Bool)) → Each27 ps → (k : ℕ) → k ≤ length ps
    → before s (line s (runs_of marks (map with_parity ps))) (64 * k) ≡ s
unfolding slots_len
runs-level marks s ps h zero l = refl
runs-level marks s [] h (suc k) l = absurd (omega arith)
runs-level marks s (p ∷ ps) h (suc k) l =
    let a = subframe s (marks 0) (with_parity p) in
    let rest = runs_of (λ j. marks (suc j)) (map with_parity ps) in
    let o : after s (subframe_runs (marks 0) p) ≡ s = after-subframe s (marks 0) p h.0 in
    let n : length (subframe s (marks 0) (with_parity p)) ≡ 64 =
    subframe-length s (marks 0) (with_parity p) (length-with_parity p h.0) in
    let e : 64 * suc k ≡ length (subframe s (marks 0) (with_parity p)) + 64 * k = omega arith in
    let f : before s a (length a) ≡ s = ap (before s a) n
    ∙ subframe-last s (marks 0) (with_parity p) (length-with_parity p h.0) ∙ o in
    ap₂ (before s) (line-append s (subframe_runs (marks 0) p) rest ∙ ap (λ t. a ++ line t rest) o) e
    ∙ before-append_right s s a (line s rest) (64 * k) f
    ∙ runs-level (λ j. marks (suc j)) s ps h.1 k (omega arith)

module _ (s : Level) (bs : List (List (List Bool))) (h : EachBlock bs) where
  pub stream-kept : AllKept stream_marks s (stream s bs)
  stream-kept =
      subst (AllKept stream_marks s) (sym (stream-line s bs h))
      (kept-runs stream_marks s (map with_parity (payloads_in bs)) (each28 (payloads_in bs) (each27-in bs h)))

  pub stream-length : length (stream s bs) ≡ 64 * (block_subframes * length bs)
  stream-length =
      ap length (stream-line s bs h)
      ∙ length-runs_of stream_marks s (map with_parity (payloads_in bs)) (each28 (payloads_in bs) (each27-in bs h))
      ∙ ap (λ n. 64 * n) (length-map (payloads_in bs) with_parity ∙ length-in bs h)

  pub stream-level : (k : ℕ) → k ≤ block_subframes * length bs → before s (stream s bs) (64 * k) ≡ s
  stream-level k l =
      let n = length-in bs h in
      ap (λ c. before s c (64 * k)) (stream-line s bs h)
      ∙ runs-level stream_marks s (payloads_in bs) (each27-in bs h) k (omega arith)

  -- a preamble stands where a subframe begins
  pub stream-stands : (k : ℕ) → k < block_subframes * length bs → StandsMark (stream_marks k) s (stream s bs) (64 * k)
  stream-stands k l =
      let n = stream-length in
      let m : 64 * suc k ≤ 64 * (block_subframes * length bs) = omega arith in
      stands-from (stream_marks k) s (stream s bs) (64 * k) (omega arith) (λ i g.
      let a : (64 * k + i) / 64 ≡ k = omega arith in
      let b : (64 * k + i) % 64 ≡ i = omega arith in
      let e = stream-level k (omega arith) in
      rw (b, a, e) at ((stream-kept (64 * k + i) (omega arith)).preamble (omega arith)))

  -- and nowhere else
  pub stream-aligned : (m : Mark) (t : Level) (p : ℕ) → StandsMark m t (stream s bs) p → (p % 64 ≡ 0)
      × (stream_marks (p / 64) ≡ m) × (t ≡ s)
  stream-aligned m t p z =
      let a = aligned stream_marks s (stream s bs) stream-kept m t p z in
      let o = aligned-own stream_marks s (stream s bs) stream-kept m t p z in
      let r = stands-room m t (stream s bs) p z in
      let n = stream-length in
      let e : p ≡ 64 * (p / 64) = omega arith in
      (a, o.0, sym o.1 ∙ ap (before s (stream s bs)) e ∙ stream-level (p / 64) (omega arith))
