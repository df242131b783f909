-- A block's cells differ at many places from those of a stream where no block begins, or after the other level.
use Rattle.std.proofs.Common.{◌≡◌, ℕ, zero, suc, ◌+◌, ◌-◌, ◌*◌, ◌/◌, ◌%◌, ◌<◌, ◌≤◌, ◌⊎◌, inl, inr, ne_eqb, List}
use Rattle.std.proofs.Common.{Bool, map, refl, length, take, drop, ap, ◌∙◌, sym, arith, length-take-le, length-drop}
use Rattle.std.proofs.Common.{get_or-take, get_or-drop, lit<}
use Rattle.std.proofs.lemmas.Bool.{cases_eq}
use Rattle.aes3_level.specs.declared.level.Level.{Level}
use Rattle.aes3_level.specs.declared.level.Level.TheVariants.{Low}
use Rattle.aes3_level.specs.Cells.{other}
use Rattle.aes3_level.proofs.Runs.{other-other}
use Rattle.aes3_slot.specs.declared.mark.Mark.{Mark}
use Rattle.aes3_slot.specs.declared.mark.Mark.TheVariants.{X, Y, Z}
use Rattle.aes3_slot.specs.Slots.{with_parity}
use Rattle.aes3_slot.specs.Rules.{at, before, shape, AllKept}
use Rattle.aes3_slot.proofs.Bridge.{kept-runs}
use Rattle.aes3_slot.proofs.Distance.{preamble-apart, two-apart, own-cell}
use Rattle.aes3_frame.specs.Blocks.{mark_at, block_subframes, block_len, block_cells, stream, IsBlock}
use Rattle.aes3_frame.proofs.FileLaws.{EachBlock}
use Rattle.aes3_frame.proofs.Each.{each-payload}
use Rattle.aes3_frame.proofs.CellLaws.{each28, length-block_cells, block_len_24576}
use Rattle.aes3_lock.specs.Damage.{apart}
use Rattle.aes3_lock.proofs.Apart.{count-apart, count-parts}
use Rattle.aes3_lock.proofs.Deciding.{later-marks}
use Rattle.aes3_lock.proofs.LawfulPieces.{stream_marks, stream-kept, stream-length, stream-level, runs-level}
use Rattle.aes3_lock.proofs.StandingBlocks.{first-mark}
use Rattle.aes3_slot.proofs.OwnPreambles.{shape-first}
use Rattle.aes3_slot.proofs.Marks.{mark_at-odd}
use Rattle.aes3_frame.proofs.BlockLemmas.{block_subframes_384}

-- a block by the rule, and the level before each of its subframes
pub block-kept : (t : Level) (d : List (List Bool)) → IsBlock d → AllKept mark_at t (block_cells t d)
unfolding block_cells
block-kept t d g = kept-runs mark_at t (map with_parity d) (each28 d (each-payload d g.payloads))

pub block-level : (t : Level) (d : List (List Bool)) → IsBlock d → (k : ℕ) → k ≤ block_subframes
    → before t (block_cells t d) (64 * k) ≡ t
unfolding block_cells
block-level t d g k l = let n = g.count in runs-level mark_at t d (each-payload d g.payloads) k (omega arith)

-- the preambles of a block
pub block-mark : (t : Level) (d : List (List Bool)) → IsBlock d → (j k : ℕ) → j < 384 → k < 8
    → at (block_cells t d) (64 * j + k) ≡ shape (mark_at j) k t
block-mark t d g j k l o =
    let n = length-block_cells t d g in
    let b = block_len_24576 in
    let i = block_subframes_384 in
    own-cell mark_at t (block_cells t d) (block-kept t d g) j k (omega arith) o
    ∙ ap (shape (mark_at j) k) (block-level t d g j (omega arith))

-- the cells of 64
pub part-cell : (j k : ℕ) (c : List Level) → k < 64 → at (take 64 (drop (64 * j) c)) k ≡ at c (64 * j + k)
part-cell j k c l = get_or-take 64 (drop (64 * j) c) k Low l ∙ get_or-drop (64 * j) c k Low

pub part-length : (j : ℕ) (c : List Level) → 64 * j + 64 ≤ length c → length (take 64 (drop (64 * j) c)) ≡ 64
part-length j c l = length-take-le 64 (drop (64 * j) c) (let n = length-drop (64 * j) c in omega arith)

-- a preamble begins with two equal cells, of the level that isn't the one before it
pub mark-second : (m : Mark) (u : Level) → shape m 1 u ≡ other u
mark-second X u = refl
mark-second Y u = refl
mark-second Z u = refl

pub other-same : (s t : Level) → other s ≡ other t → s ≡ t
other-same s t e = sym (other-other s) ∙ ap other e ∙ other-other t

even-mark : (j : ℕ) → j % 2 ≡ 0 → mark_at j ≡ Y → ⊥
unfolding mark_at
even-mark zero h q = cc
even-mark (suc j) h q = let e = ne_eqb (j % 2) 0 (λ e. omega arith) in let r : X ≡ Y = rw e at q in cc

-- four places
abbrev four : ℕ → ℕ → ℕ → ℕ → ℕ → ℕ
four x y z w zero = x
four x y z w (suc zero) = y
four x y z w (suc (suc zero)) = z
four x y z w (suc (suc (suc n))) = w

module _ (s : Level) (bs : List (List (List Bool))) (h : EachBlock bs) (t : Level) (d : List (List Bool))
    (g : IsBlock d) (p : ℕ)
    (room : p + block_len ≤ length (stream s bs)) where
  pub window-cell : (x : ℕ) → x < block_len → at (take block_len (drop p (stream s bs))) x ≡ at (stream s bs) (p + x)
  window-cell x l = get_or-take block_len (drop p (stream s bs)) x Low l ∙ get_or-drop p (stream s bs) x Low

  pub window-length : length (take block_len (drop p (stream s bs))) ≡ block_len
  window-length = length-take-le block_len (drop p (stream s bs)) (let n = length-drop p (stream s bs) in
      let r = room in omega arith)

  -- at a place where no subframe begins each of the block's preambles differs
  pub off-subframes : (p % 64 ≡ 0 → ⊥) → 384 ≤ apart (take block_len (drop p (stream s bs))) (block_cells t d)
  off-subframes off = count-parts 1 384 (take block_len (drop p (stream s bs))) (block_cells t d) one
    where
      one : (j : ℕ) → j < 384
          → 1 ≤ apart (take 64 (drop (64 * j) (take block_len (drop p (stream s bs)))))
          (take 64 (drop (64 * j) (block_cells t d)))
      one j l =
          let n = block_len_24576 in
          let r = room in
          let wl = window-length in
          let bl = length-block_cells t d g in
          let a = preamble-apart stream_marks mark_at s t (stream s bs) (block_cells t d) (stream-kept s bs h)
          (block-kept t d g) p off j (omega arith) (omega arith) in
          let k = a.1 in
          let x = part-length j (take block_len (drop p (stream s bs))) (omega arith) in
          let y = part-length j (block_cells t d) (omega arith) in
          count-apart 1 (λ z. a.0) (take 64 (drop (64 * j) (take block_len (drop p (stream s bs)))))
          (take 64 (drop (64 * j) (block_cells t d))) (x ∙ sym y)
          (λ z o. absurd (omega arith)) (λ z o. omega arith)
          (λ z o q.
          let e : p + 64 * j + a.0 ≡ p + (64 * j + a.0) = omega arith in
          a.2 (ap (at (stream s bs)) e ∙ sym (window-cell (64 * j + a.0) (omega arith))
          ∙ sym (part-cell j a.0 (take block_len (drop p (stream s bs))) (omega arith))
          ∙ q ∙ part-cell j a.0 (block_cells t d) (omega arith)))

  -- two preambles that are not the same differ at two places
  other-mark : (q j : ℕ) → p ≡ 64 * q → j < 384 → (stream_marks (q + j) ≡ mark_at j → ⊥)
      → (x y : ℕ) × (x < y) × (y < 8)
      × (at (take block_len (drop p (stream s bs))) (64 * j + x) ≡ at (block_cells t d) (64 * j + x) → ⊥)
      × (at (take block_len (drop p (stream s bs))) (64 * j + y) ≡ at (block_cells t d) (64 * j + y) → ⊥)
  other-mark q j e l n =
      let a = two-apart (stream_marks (q + j)) (mark_at j) (before s (stream s bs) (64 * (q + j)))
      (before t (block_cells t d) (64 * j)) n in
      let m = block_len_24576 in
      let r = room in
      let v = length-block_cells t d g in
      let a2 = a.2 in
      let a3 = a.3 in
      let move = λ (k : ℕ) (o : k < 8)
      (ne : shape (stream_marks (q + j)) k (before s (stream s bs) (64 * (q + j))) ≡ shape (mark_at j) k
      (before t (block_cells t d) (64 * j)) → ⊥)
      (z : at (take block_len (drop p (stream s bs))) (64 * j + k) ≡ at (block_cells t d) (64 * j + k)).
      let f : 64 * (q + j) + k ≡ p + (64 * j + k) = omega arith in
      ne (sym (own-cell stream_marks s (stream s bs) (stream-kept s bs h) (q + j) k (omega arith) o)
      ∙ ap (at (stream s bs)) f
      ∙ sym (window-cell (64 * j + k) (omega arith)) ∙ z
      ∙ own-cell mark_at t (block_cells t d) (block-kept t d g) j k (omega arith) o) in
      (a.0, a.1, a2, a3, move a.0 (omega arith) a.4, move a.1 a3 a.5)

  -- where a subframe begins that isn't the first of a block two preambles are other ones
  pub off-blocks : p % 64 ≡ 0 → 0 < p % 24576 → 4 ≤ apart (take block_len (drop p (stream s bs))) (block_cells t d)
  unfolding block_subframes
  off-blocks a off =
      two (other-mark (p / 64) 0 (omega arith) (omega arith) first)
      (other-mark (p / 64) (384 - p / 64 % 384) (omega arith) (omega arith) next)
    where
      first : stream_marks (p / 64 + 0) ≡ mark_at 0 → ⊥
      first e =
          let f : p / 64 + 0 ≡ p / 64 = omega arith in
          go ((p / 64) % block_subframes) refl (ap stream_marks (sym f) ∙ e)
        where
          go : (r : ℕ) → (p / 64) % block_subframes ≡ r → mark_at r ≡ mark_at 0 → ⊥
          go zero q z = omega arith
          go (suc r) q z = later-marks r (z ∙ first-mark)

      next : stream_marks (p / 64 + (384 - p / 64 % 384)) ≡ mark_at (384 - p / 64 % 384) → ⊥
      next e =
          let f : (p / 64 + (384 - p / 64 % 384)) % 384 ≡ 0 = omega arith in
          let k : 384 - p / 64 % 384 ≡ suc (383 - p / 64 % 384) = omega arith in
          later-marks (383 - p / 64 % 384) (ap mark_at (sym k) ∙ sym e ∙ ap mark_at f ∙ first-mark)

      two : ((x y : ℕ) × (x < y) × (y < 8)
          × (at (take block_len (drop p (stream s bs))) (64 * 0 + x) ≡ at (block_cells t d) (64 * 0 + x) → ⊥)
          × (at (take block_len (drop p (stream s bs))) (64 * 0 + y) ≡ at (block_cells t d) (64 * 0 + y) → ⊥))
          → ((x y : ℕ) × (x < y) × (y < 8)
          × (at (take block_len (drop p (stream s bs))) (64 * (384 - p / 64 % 384) + x) ≡ at (block_cells t d)
          (64 * (384 - p / 64 % 384) + x) → ⊥)
          × (at (take block_len (drop p (stream s bs))) (64 * (384 - p / 64 % 384) + y) ≡ at (block_cells t d)
          (64 * (384 - p / 64 % 384) + y) → ⊥))
          → 4 ≤ apart (take block_len (drop p (stream s bs))) (block_cells t d)
      two u v =
          let x = window-length in
          let y = length-block_cells t d g in
          let m = block_len_24576 in
          let u2 = u.2 in
          let u3 = u.3 in
          let v2 = v.2 in
          let v3 = v.3 in
          count-apart 4
          (four (64 * 0 + u.0) (64 * 0 + u.1) (64 * (384 - p / 64 % 384) + v.0) (64 * (384 - p / 64 % 384) + v.1))
          (take block_len (drop p (stream s bs))) (block_cells t d) (x ∙ sym y)
          (λ n. rising n) (λ n. within n) (λ n. differ n)
        where
          rising : (n : ℕ) → suc n < 4
              → four (64 * 0 + u.0) (64 * 0 + u.1) (64 * (384 - p / 64 % 384) + v.0) (64 * (384 - p / 64 % 384) + v.1) n
              < four (64 * 0 + u.0) (64 * 0 + u.1) (64 * (384 - p / 64 % 384) + v.0)
              (64 * (384 - p / 64 % 384) + v.1) (suc n)
          rising zero o = let i = u.2 in omega arith
          rising (suc zero) o = let a = u.3 in omega arith
          rising (suc (suc zero)) o = let i = v.2 in omega arith
          rising (suc (suc (suc n))) o = absurd (omega arith)

          within : (n : ℕ) → n < 4
              → four (64 * 0 + u.0) (64 * 0 + u.1) (64 * (384 - p / 64 % 384) + v.0) (64 * (384 - p / 64 % 384) + v.1) n
              < length (take block_len (drop p (stream s bs)))
          within zero o = let i = u.2 in let k = u.3 in let x = window-length in let m = block_len_24576 in omega arith
          within (suc zero) o = let i = u.2 in let k = u.3 in let x = window-length in
              let m = block_len_24576 in omega arith
          within (suc (suc zero)) o = let i = v.2 in let k = v.3 in let x = window-length in
              let m = block_len_24576 in omega arith
          within (suc (suc (suc n))) o = let i = v.2 in let k = v.3 in let x = window-length in
              let m = block_len_24576 in omega arith

          differ : (n : ℕ) → n < 4
              → at (take block_len (drop p (stream s bs)))
              (four (64 * 0 + u.0) (64 * 0 + u.1) (64 * (384 - p / 64 % 384) + v.0) (64 * (384 - p / 64 % 384) + v.1) n)
              ≡ at (block_cells t d)
              (four (64 * 0 + u.0) (64 * 0 + u.1) (64 * (384 - p / 64 % 384) + v.0) (64 * (384 - p / 64 % 384) + v.1) n)
              → ⊥
          differ zero o = u.4
          differ (suc zero) o = u.5
          differ (suc (suc zero)) o = v.4
          differ (suc (suc (suc n))) o = v.5

  -- the first cell of each subframe tells the level before it
  stream-first : (j : ℕ) → p % 64 ≡ 0 → j < 384 → at (take block_len (drop p (stream s bs))) (64 * j + 0) ≡ other s
  stream-first j a l =
      let n = block_len_24576 in
      let r = room in
      let m = stream-length s bs h in
      let e : p + (64 * j + 0) ≡ 64 * (p / 64 + j) + 0 = omega arith in
      window-cell (64 * j + 0) (omega arith) ∙ ap (at (stream s bs)) e
      ∙ own-cell stream_marks s (stream s bs) (stream-kept s bs h) (p / 64 + j) 0 (omega arith) (lit< tt)
      ∙ ap (shape (stream_marks (p / 64 + j)) 0) (stream-level s bs h (p / 64 + j) (omega arith))
      ∙ shape-first (stream_marks (p / 64 + j)) s

  block-first : (j : ℕ) → j < 384 → at (block_cells t d) (64 * j + 0) ≡ other t
  block-first j l =
      let n = block_len_24576 in
      let i = block_subframes_384 in
      let v = length-block_cells t d g in
      own-cell mark_at t (block_cells t d) (block-kept t d g) j 0 (omega arith) (lit< tt)
      ∙ ap (shape (mark_at j) 0) (block-level t d g j (omega arith)) ∙ shape-first (mark_at j) t

  -- after the other level
  pub off-level : (t ≡ s → ⊥) → 384 ≤ apart (take block_len (drop p (stream s bs))) (block_cells t d)
  off-level n = go (cases_eq (p % 64) 0)
    where
      one : p % 64 ≡ 0 → (j : ℕ) → j < 384
          → 1 ≤ apart (take 64 (drop (64 * j) (take block_len (drop p (stream s bs)))))
          (take 64 (drop (64 * j) (block_cells t d)))
      one a j l =
          let m = block_len_24576 in
          let wl = window-length in
          let bl = length-block_cells t d g in
          let x = part-length j (take block_len (drop p (stream s bs))) (omega arith) in
          let y = part-length j (block_cells t d) (omega arith) in
          count-apart 1 (λ z. 0) (take 64 (drop (64 * j) (take block_len (drop p (stream s bs)))))
          (take 64 (drop (64 * j) (block_cells t d))) (x ∙ sym y)
          (λ z o. absurd (omega arith)) (λ z o. omega arith)
          (λ z o q.
          n (other-same t s (sym (block-first j l) ∙ sym (part-cell j 0 (block_cells t d) (lit< tt)) ∙ sym q
          ∙ part-cell j 0 (take block_len (drop p (stream s bs))) (lit< tt) ∙ stream-first j a l)))

      go : (p % 64 ≡ 0) ⊎ (p % 64 ≡ 0 → ⊥) → 384 ≤ apart (take block_len (drop p (stream s bs))) (block_cells t d)
      go (inl a) = count-parts 1 384 (take block_len (drop p (stream s bs))) (block_cells t d) (one a)
      go (inr a) = off-subframes a

  -- where a subframe begins that isn't the first of a frame all preambles are other ones
  pub off-frames : (p % 128 ≡ 0 → ⊥) → 384 ≤ apart (take block_len (drop p (stream s bs))) (block_cells t d)
  unfolding block_subframes
  off-frames n = go (cases_eq (p % 64) 0)
    where
      odd : (p / 64) % 2 ≡ 1 → (j : ℕ) → stream_marks (p / 64 + j) ≡ mark_at j → ⊥
      odd o j e = by (cases_eq (j % 2) 0)
        where
          by : (j % 2 ≡ 0) ⊎ (j % 2 ≡ 0 → ⊥) → ⊥
          by (inl a) = even-mark j a (sym e ∙ mark_at-odd ((p / 64 + j) % 384) (omega arith))
          by (inr a) = even-mark ((p / 64 + j) % 384) (omega arith) (e ∙ mark_at-odd j (omega arith))

      one : p % 64 ≡ 0 → (j : ℕ) → j < 384
          → 1 ≤ apart (take 64 (drop (64 * j) (take block_len (drop p (stream s bs)))))
          (take 64 (drop (64 * j) (block_cells t d)))
      one a j l =
          let m = block_len_24576 in
          let wl = window-length in
          let bl = length-block_cells t d g in
          let w = other-mark (p / 64) j (omega arith) l (odd (by-two a) j) in
          let u = w.2 in
          let v = w.3 in
          let x = part-length j (take block_len (drop p (stream s bs))) (omega arith) in
          let y = part-length j (block_cells t d) (omega arith) in
          count-apart 1 (λ z. w.0) (take 64 (drop (64 * j) (take block_len (drop p (stream s bs)))))
          (take 64 (drop (64 * j) (block_cells t d))) (x ∙ sym y)
          (λ z o. absurd (omega arith)) (λ z o. omega arith)
          (λ z o q.
          w.4 (sym (part-cell j w.0 (take block_len (drop p (stream s bs))) (omega arith)) ∙ q
          ∙ part-cell j w.0 (block_cells t d) (omega arith)))
        where
          by-two : p % 64 ≡ 0 → (p / 64) % 2 ≡ 1
          by-two a = step (cases_eq ((p / 64) % 2) 0)
            where
              step : ((p / 64) % 2 ≡ 0) ⊎ ((p / 64) % 2 ≡ 0 → ⊥) → (p / 64) % 2 ≡ 1
              step (inl e) = absurd (n (omega arith))
              step (inr e) = omega arith

      go : (p % 64 ≡ 0) ⊎ (p % 64 ≡ 0 → ⊥) → 384 ≤ apart (take block_len (drop p (stream s bs))) (block_cells t d)
      go (inl a) = count-parts 1 384 (take block_len (drop p (stream s bs))) (block_cells t d) (one a)
      go (inr a) = off-subframes a
