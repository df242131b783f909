-- The block that the subframes of a stream from a frame on would be: its cells are those of the stream but for two in
-- each of two preambles.
use Rattle.std.proofs.Common.{◌≡◌, ℕ, zero, suc, ◌+◌, ◌-◌, ◌*◌, ◌/◌, ◌%◌, ◌<◌, ◌≤◌, ◌⊎◌, inl, inr, List, [], ◌∷◌, ◌++◌}
use Rattle.std.proofs.Common.{Bool, map, refl, length, take, drop, get_or, ap, ap₂, ◌∙◌, sym, subst, arith}
use Rattle.std.proofs.Common.{length-take-le, length-drop, get_or-take, get_or-drop, eq-eqb, ne_eqb}
use Rattle.std.proofs.lemmas.Bool.{cases_eq, cases_lt}
use Rattle.std.proofs.lemmas.List.{get_or_append_left, get_or-append-add}
use Rattle.std.proofs.lemmas.List.Elements.{All-take, All-drop}
use Rattle.std.specs.List.{flat_map}
use Rattle.aes3_level.specs.declared.level.Level.{Level}
use Rattle.aes3_level.specs.declared.level.Level.TheVariants.{Low, High}
use Rattle.aes3_level.specs.Cells.{line}
use Rattle.aes3_slot.specs.declared.mark.Mark.{Mark}
use Rattle.aes3_slot.specs.declared.mark.Mark.TheVariants.{X, Z}
use Rattle.aes3_slot.specs.Slots.{bits_runs, mark_runs, subframe_runs, runs_of, with_parity, IsPayload}
use Rattle.aes3_slot.specs.Rules.{at, shape}
use Rattle.aes3_slot.proofs.Distance.{own-cell}
use Rattle.aes3_slot.proofs.Index.{length-mark}
use Rattle.aes3_slot.proofs.Subframes.{line-slots, length-subframe}
use Rattle.aes3_frame.specs.Blocks.{mark_at, block_subframes, block_len, block_cells, stream, IsBlock}
use Rattle.aes3_frame.proofs.Runs.{Each27}
use Rattle.aes3_frame.proofs.Each.{each-payload, all-payloads}
use Rattle.aes3_frame.proofs.FileLaws.{EachBlock}
use Rattle.aes3_lock.specs.FrameLaws.{block_from, preamble_cells}
use Rattle.aes3_lock.proofs.Distances.{block-mark}
use Rattle.aes3_lock.proofs.Exchanged.{runs-cons}
use Rattle.aes3_lock.proofs.LawfulPieces.{payloads_in, each27-in, length-in, stream_marks, stream-line, stream-kept}
use Rattle.aes3_lock.proofs.LawfulPieces.{stream-length, stream-level}
use Rattle.aes3_lock.proofs.PlacesApart.{Has}
use Rattle.aes3_lock.proofs.StandingBlocks.{first-mark}
use Rattle.aes3_slot.proofs.Marks.{mark_at-odd}
use Rattle.aes3_frame.proofs.BlockLemmas.{block_subframes_384}
use Rattle.aes3_frame.proofs.CellLaws.{block_len_24576}

-- behind its preamble a subframe's cells are told by its payload
payload-cell : (marks : ℕ → Mark) (s : Level) (ps : List (List Bool)) → Each27 ps → (j r : ℕ) → j < length ps → r < 56
    → at (line s (runs_of marks (map with_parity ps))) (64 * j + (8 + r)) ≡ at
    (line s (bits_runs (with_parity (get_or ps j [])))) r
payload-cell marks s [] h j r l o = absurd (omega arith)
payload-cell marks s (p ∷ ps) h zero r l o =
    let m = length-mark s (marks 0) in
    let n = length-subframe s (marks 0) p h.0 in
    let e : 64 * 0 + (8 + r) ≡ length (line s (mark_runs (marks 0))) + r = omega arith in
    let f : length (line s (mark_runs (marks 0))) + r < length (line s (subframe_runs (marks 0) p)) = omega arith in
    ap₂ at (runs-cons marks s p ps h.0) e
    ∙ get_or_append_left (line s (subframe_runs (marks 0) p))
    (line s (runs_of (λ j. marks (suc j)) (map with_parity ps))) Low
    (length (line s (mark_runs (marks 0))) + r) f
    ∙ ap (λ c. at c (length (line s (mark_runs (marks 0))) + r)) (line-slots s (marks 0) (with_parity p))
    ∙ get_or-append-add (line s (mark_runs (marks 0))) (line s (bits_runs (with_parity p))) r Low
payload-cell marks s (p ∷ ps) h (suc j) r l o =
    let n = length-subframe s (marks 0) p h.0 in
    let e : 64 * suc j + (8 + r) ≡ length (line s (subframe_runs (marks 0) p)) + (64 * j + (8 + r)) = omega arith in
    ap₂ at (runs-cons marks s p ps h.0) e
    ∙ get_or-append-add (line s (subframe_runs (marks 0) p))
    (line s (runs_of (λ j. marks (suc j)) (map with_parity ps))) (64 * j + (8 + r)) Low
    ∙ payload-cell (λ j. marks (suc j)) s ps h.1 j r (omega arith) o

-- the preambles by number
even-mark : (j : ℕ) → 0 < j → j % 2 ≡ 0 → mark_at j ≡ X
unfolding mark_at
even-mark zero l h = absurd (omega arith)
even-mark (suc j) l h = let e = ne_eqb (j % 2) 0 (λ e. omega arith) in rw e refl

pub later-alike : (j k : ℕ) → 0 < j → 0 < k → j % 2 ≡ k % 2 → mark_at j ≡ mark_at k
later-alike j k l o h = go (cases_eq (j % 2) 0)
  where
    go : (j % 2 ≡ 0) ⊎ (j % 2 ≡ 0 → ⊥) → mark_at j ≡ mark_at k
    go (inl e) = even-mark j l e ∙ sym (even-mark k o (omega arith))
    go (inr n) = mark_at-odd j (omega arith) ∙ sym (mark_at-odd k (omega arith))

-- X and Z differ in cells 4 and 6
first-alike : (s : Level) (r : ℕ) → r < 8 → (r ≡ 4 → ⊥) → (r ≡ 6 → ⊥) → shape X r s ≡ shape Z r s
first-alike Low zero l a b = refl
first-alike High zero l a b = refl
first-alike Low (suc zero) l a b = refl
first-alike High (suc zero) l a b = refl
first-alike Low (suc (suc zero)) l a b = refl
first-alike High (suc (suc zero)) l a b = refl
first-alike Low (suc (suc (suc zero))) l a b = refl
first-alike High (suc (suc (suc zero))) l a b = refl
first-alike s (suc (suc (suc (suc zero)))) l a b = absurd (a refl)
first-alike Low (suc (suc (suc (suc (suc zero))))) l a b = refl
first-alike High (suc (suc (suc (suc (suc zero))))) l a b = refl
first-alike s (suc (suc (suc (suc (suc (suc zero)))))) l a b = absurd (b refl)
first-alike Low (suc (suc (suc (suc (suc (suc (suc zero))))))) l a b = refl
first-alike High (suc (suc (suc (suc (suc (suc (suc zero))))))) l a b = refl
first-alike s (suc (suc (suc (suc (suc (suc (suc (suc r)))))))) l a b = absurd (omega arith)

first-unlike : (s : Level) (r : ℕ) → (r ≡ 4) ⊎ (r ≡ 6) → shape X r s ≡ shape Z r s → ⊥
first-unlike s r (inl e) q = four s (ap (λ r. shape X r s) (sym e) ∙ q ∙ ap (λ r. shape Z r s) e)
  where
    four : (s : Level) → shape X 4 s ≡ shape Z 4 s → ⊥
    four Low q = let r : Low ≡ High = q in cc
    four High q = let r : High ≡ Low = q in cc
first-unlike s r (inr e) q = six s (ap (λ r. shape X r s) (sym e) ∙ q ∙ ap (λ r. shape Z r s) e)
  where
    six : (s : Level) → shape X 6 s ≡ shape Z 6 s → ⊥
    six Low q = let r : High ≡ Low = q in cc
    six High q = let r : Low ≡ High = q in cc

-- the preamble cells by their numbers
pub cells-none : (p : ℕ) → p % 24576 ≡ 0 → preamble_cells p ≡ []
cells-none p e = let q = eq-eqb (p % block_len) 0 (ap (λ n. p % n) block_len_24576 ∙ e) in rw q refl

pub cells-four : (p : ℕ) → 0 < p % 24576
    → preamble_cells p ≡ 4 ∷ 6 ∷ (24576 - p % 24576 + 4) ∷ (24576 - p % 24576 + 6) ∷ []
cells-four p o =
    let m = ap (λ n. p % n) block_len_24576 in
    let f : block_len - p % block_len ≡ 24576 - p % 24576 = ap₂ (λ m n. m - n) block_len_24576 m in
    let q = ne_eqb (p % block_len) 0 (λ e. omega arith) in
    rw q (ap (λ z. 4 ∷ 6 ∷ (z + 4) ∷ (z + 6) ∷ []) f)

-- a preamble cell is cell 4 or 6 of the first subframe or of the one where the next block begins
pub record IsPreambleCell (p x : ℕ) : Type 0 where
  pub other : 0 < p % 24576
  pub subframe : (x / 64 ≡ 0) ⊎ (p % 24576 + 64 * (x / 64) ≡ 24576)
  pub cell : (x % 64 ≡ 4) ⊎ (x % 64 ≡ 6)

pub has-preamble : (p x : ℕ) → p % 128 ≡ 0 → Has x (preamble_cells p) → IsPreambleCell p x
has-preamble p x f h = go (cases_eq (p % 24576) 0)
  where
    go : (p % 24576 ≡ 0) ⊎ (p % 24576 ≡ 0 → ⊥) → IsPreambleCell p x
    go (inl e) = absurd (subst (Has x) (cells-none p e) h)
    go (inr n) = by (subst (Has x) (cells-four p (omega arith)) h)
      where
        by : (x ≡ 4) ⊎ ((x ≡ 6) ⊎ ((x ≡ 24576 - p % 24576 + 4) ⊎ ((x ≡ 24576 - p % 24576 + 6) ⊎ ⊥)))
            → IsPreambleCell p x
        by (inl e) = record { other = omega arith; subframe = inl (omega arith); cell = inl (omega arith) }
        by (inr (inl e)) = record { other = omega arith; subframe = inl (omega arith); cell = inr (omega arith) }
        by (inr (inr (inl e))) = record { other = omega arith; subframe = inr (omega arith); cell = inl (omega arith) }
        by (inr (inr (inr (inl e)))) = record {
          other = omega arith;
          subframe = inr (omega arith);
          cell = inr (omega arith);
        }
        by (inr (inr (inr (inr e)))) = absurd e

pub preamble-has : (p x : ℕ) → IsPreambleCell p x → Has x (preamble_cells p)
preamble-has p x h = subst (Has x) (sym (cells-four p h.other)) (go h.subframe h.cell)
  where
    go : (x / 64 ≡ 0) ⊎ (p % 24576 + 64 * (x / 64) ≡ 24576) → (x % 64 ≡ 4) ⊎ (x % 64 ≡ 6)
        → (x ≡ 4) ⊎ ((x ≡ 6) ⊎ ((x ≡ 24576 - p % 24576 + 4) ⊎ ((x ≡ 24576 - p % 24576 + 6) ⊎ ⊥)))
    go (inl a) (inl c) = inl (omega arith)
    go (inl a) (inr c) = inr (inl (omega arith))
    go (inr a) (inl c) = inr (inr (inl (omega arith)))
    go (inr a) (inr c) = inr (inr (inr (inl (omega arith))))

payloads-flat : (bs : List (List (List Bool))) → flat_map (λ b. b) bs ≡ payloads_in bs
payloads-flat [] = refl
payloads-flat (b ∷ bs) = ap (λ ps. b ++ ps) (payloads-flat bs)

module _ (s : Level) (bs : List (List (List Bool))) (h : EachBlock bs) (p : ℕ) (frame : p % 128 ≡ 0)
    (room : p + block_len ≤ length (stream s bs)) where
  enough : p / 64 + 384 ≤ length (payloads_in bs)
  enough =
      let l = length-in bs h in
      let n = stream-length s bs h in
      let r = room in
      let m = block_len_24576 in
      let f = frame in
      omega arith

  from-is : block_from p bs ≡ take block_subframes (drop (p / 64) (payloads_in bs))
  from-is = ap (λ ps. take block_subframes (drop (p / 64) ps)) (payloads-flat bs)

  pub from-block : IsBlock (block_from p bs)
  from-block =
      let e = enough in
      let k = block_subframes_384 in
      let l = length-drop (p / 64) (payloads_in bs) in
      subst IsBlock (sym from-is)
      (record {
        count = length-take-le block_subframes (drop (p / 64) (payloads_in bs)) (omega arith);
        payloads = All-take IsPayload block_subframes (drop (p / 64) (payloads_in bs))
            (All-drop IsPayload (p / 64) (payloads_in bs) (all-payloads (payloads_in bs) (each27-in bs h)));
      })

  -- behind the preambles it has the cells of the stream
  slot-alike : (j r : ℕ) → j < 384 → r < 56
      → at (stream s bs) (p + (64 * j + (8 + r))) ≡ at (block_cells s (block_from p bs)) (64 * j + (8 + r))
  unfolding block_cells
  slot-alike j r l o =
      let e = enough in
      let k = block_subframes_384 in
      let f = frame in
      let g = from-block in
      let n = g.count in
      let i : p + (64 * j + (8 + r)) ≡ 64 * (p / 64 + j) + (8 + r) = omega arith in
      let q : get_or (block_from p bs) j [] ≡ get_or (payloads_in bs) (p / 64 + j) [] =
      ap (λ ps. get_or ps j []) from-is ∙ get_or-take block_subframes (drop (p / 64) (payloads_in bs)) j [] (omega arith)
      ∙ get_or-drop (p / 64) (payloads_in bs) j [] in
      ap₂ at (stream-line s bs h) i
      ∙ payload-cell stream_marks s (payloads_in bs) (each27-in bs h) (p / 64 + j) r (omega arith) o
      ∙ ap (λ bits. at (line s (bits_runs (with_parity bits))) r) (sym q)
      ∙ sym (payload-cell mark_at s (block_from p bs) (each-payload (block_from p bs) g.payloads) j r (omega arith) o)

  -- and in them those of other preambles
  stream-mark : (j r : ℕ) → j < 384 → r < 8
      → at (stream s bs) (p + (64 * j + r)) ≡ shape (stream_marks (p / 64 + j)) r s
  stream-mark j r l o =
      let e = enough in
      let n = stream-length s bs h in
      let m = length-in bs h in
      let f = frame in
      let i : p + (64 * j + r) ≡ 64 * (p / 64 + j) + r = omega arith in
      ap (at (stream s bs)) i ∙ own-cell stream_marks s (stream s bs) (stream-kept s bs h) (p / 64 + j) r
      (omega arith) o
      ∙ ap (shape (stream_marks (p / 64 + j)) r) (stream-level s bs h (p / 64 + j) (omega arith))

  own-mark : (j r : ℕ) → j < 384 → r < 8 → at (block_cells s (block_from p bs)) (64 * j + r) ≡ shape (mark_at j) r s
  own-mark j r l o = block-mark s (block_from p bs) from-block j r l o

  stream-number : (j m : ℕ) → (p / 64 + j) % 384 ≡ m → stream_marks (p / 64 + j) ≡ mark_at m
  unfolding block_subframes
  stream-number j m e = ap mark_at e

  marks-alike : (j : ℕ) → j < 384 → ((p % 24576 ≡ 0 → ⊥) → (j ≡ 0 → ⊥) × (p % 24576 + 64 * j ≡ 24576 → ⊥))
      → stream_marks (p / 64 + j) ≡ mark_at j
  marks-alike j l n = go (cases_eq (p % 24576) 0)
    where
      go : (p % 24576 ≡ 0) ⊎ (p % 24576 ≡ 0 → ⊥) → stream_marks (p / 64 + j) ≡ mark_at j
      go (inl e) = let f = frame in stream-number j j (omega arith)
      go (inr o) =
          let a = n o in
          let u = a.0 in
          let v = a.1 in
          let f = frame in
          let first : 0 < j = positive j (λ e. u e) in
          let next : (p % 24576 + 64 * j) % 24576 ≡ 0 → ⊥ = λ e. v (omega arith) in
          let later : 0 < (p / 64 + j) % 384 = positive ((p / 64 + j) % 384) (λ e. next (omega arith)) in
          let same : (p / 64 + j) % 384 % 2 ≡ j % 2 = omega arith in
          stream-number j ((p / 64 + j) % 384) refl ∙ later-alike ((p / 64 + j) % 384) j later first same
        where
          positive : (n : ℕ) → (n ≡ 0 → ⊥) → 0 < n
          positive zero h = absurd (h refl)
          positive (suc n) h = omega arith

  pub own-alike : (x : ℕ) → x < block_len → (Has x (preamble_cells p) → ⊥)
      → at (stream s bs) (p + x) ≡ at (block_cells s (block_from p bs)) x
  own-alike x l n = ap (λ y. at (stream s bs) (p + y)) (sym parts) ∙ go (cases_lt (x % 64) 8)
      ∙ ap (at (block_cells s (block_from p bs))) parts
    where
      parts : 64 * (x / 64) + x % 64 ≡ x
      parts = omega arith

      within : x / 64 < 384
      within = let m = block_len_24576 in omega arith

      go : (x % 64 < 8) ⊎ (8 ≤ x % 64)
          → at (stream s bs) (p + (64 * (x / 64) + x % 64)) ≡ at (block_cells s (block_from p bs))
          (64 * (x / 64) + x % 64)
      go (inr o) =
          let e : x % 64 ≡ 8 + (x % 64 - 8) = omega arith in
          ap (λ r. at (stream s bs) (p + (64 * (x / 64) + r))) e ∙ slot-alike (x / 64) (x % 64 - 8) within (omega arith)
          ∙ ap (λ r. at (block_cells s (block_from p bs)) (64 * (x / 64) + r)) (sym e)
      go (inl o) =
          stream-mark (x / 64) (x % 64) within o
          ∙ by (cases_eq (p % 24576) 0) (cases_eq (x / 64) 0) (cases_eq (p % 24576 + 64 * (x / 64)) 24576)
          ∙ sym (own-mark (x / 64) (x % 64) within o)
        where
          not-four : 0 < p % 24576 → (x / 64 ≡ 0) ⊎ (p % 24576 + 64 * (x / 64) ≡ 24576) → x % 64 ≡ 4 → ⊥
          not-four a b c = n (preamble-has p x (record { other = a; subframe = b; cell = inl c }))

          not-six : 0 < p % 24576 → (x / 64 ≡ 0) ⊎ (p % 24576 + 64 * (x / 64) ≡ 24576) → x % 64 ≡ 6 → ⊥
          not-six a b c = n (preamble-has p x (record { other = a; subframe = b; cell = inr c }))

          by : (p % 24576 ≡ 0) ⊎ (p % 24576 ≡ 0 → ⊥) → (x / 64 ≡ 0) ⊎ (x / 64 ≡ 0 → ⊥)
              → (p % 24576 + 64 * (x / 64) ≡ 24576) ⊎ (p % 24576 + 64 * (x / 64) ≡ 24576 → ⊥)
              → shape (stream_marks (p / 64 + x / 64)) (x % 64) s ≡ shape (mark_at (x / 64)) (x % 64) s
          by (inl e) b c = ap (λ m. shape m (x % 64) s) (marks-alike (x / 64) within (λ f. absurd (f e)))
          by (inr a) (inr b) (inr c) = ap (λ m. shape m (x % 64) s) (marks-alike (x / 64) within (λ f. (b, c)))
          by (inr a) (inl b) c =
              let f = frame in
              let d : 0 < p % 24576 = omega arith in
              let e = stream-number (x / 64) ((p / 64 + x / 64) % 384) refl
              ∙ even-mark ((p / 64 + x / 64) % 384) (omega arith) (omega arith) in
              ap (λ m. shape m (x % 64) s) e ∙ first-alike s (x % 64) o (not-four d (inl b)) (not-six d (inl b))
              ∙ ap (λ m. shape m (x % 64) s) (sym (ap mark_at b ∙ first-mark))
          by (inr a) (inr b) (inl c) =
              let f = frame in
              let d : 0 < p % 24576 = omega arith in
              let e : stream_marks (p / 64 + x / 64) ≡ Z = stream-number (x / 64) 0 (omega arith) ∙ first-mark in
              ap (λ m. shape m (x % 64) s) e ∙ sym (first-alike s (x % 64) o (not-four d (inr c)) (not-six d (inr c)))
              ∙ ap (λ m. shape m (x % 64) s) (sym (even-mark (x / 64) (omega arith) (omega arith)))

  pub own-unlike : (x : ℕ) → Has x (preamble_cells p) → (x < block_len)
      × (at (stream s bs) (p + x) ≡ at (block_cells s (block_from p bs)) x → ⊥)
  own-unlike x m = (
    within,
    λ q. go r.subframe r.cell (ap (λ y. at (stream s bs) (p + y)) parts ∙ q
        ∙ ap (at (block_cells s (block_from p bs))) (sym parts)),
  )
    where
      r : IsPreambleCell p x
      r = has-preamble p x frame m

      parts : 64 * (x / 64) + x % 64 ≡ x
      parts = omega arith

      below : (x / 64 ≡ 0) ⊎ (p % 24576 + 64 * (x / 64) ≡ 24576) → x / 64 < 384
      below (inl a) = omega arith
      below (inr a) = let o = r.other in omega arith

      within : x < block_len
      within = let m = block_len_24576 in let l = below r.subframe in omega arith

      small : (x % 64 ≡ 4) ⊎ (x % 64 ≡ 6) → x % 64 < 8
      small (inl e) = omega arith
      small (inr e) = omega arith

      go : (x / 64 ≡ 0) ⊎ (p % 24576 + 64 * (x / 64) ≡ 24576) → (c : (x % 64 ≡ 4) ⊎ (x % 64 ≡ 6))
          → at (stream s bs) (p + (64 * (x / 64) + x % 64)) ≡ at (block_cells s (block_from p bs))
          (64 * (x / 64) + x % 64) → ⊥
      go (inl b) c q =
          let f = frame in
          let o = r.other in
          let e = stream-number (x / 64) ((p / 64 + x / 64) % 384) refl
          ∙ even-mark ((p / 64 + x / 64) % 384) (omega arith) (omega arith) in
          first-unlike s (x % 64) c
          (ap (λ m. shape m (x % 64) s) (sym e) ∙ sym (stream-mark (x / 64) (x % 64) (below (inl b)) (small c)) ∙ q
          ∙ own-mark (x / 64) (x % 64) (below (inl b)) (small c)
          ∙ ap (λ m. shape m (x % 64) s) (ap mark_at b ∙ first-mark))
      go (inr b) c q =
          let f = frame in
          let o = r.other in
          let w = below (inr b) in
          let e : stream_marks (p / 64 + x / 64) ≡ Z = stream-number (x / 64) 0 (omega arith) ∙ first-mark in
          first-unlike s (x % 64) c
          (ap (λ m. shape m (x % 64) s) (sym (even-mark (x / 64) (omega arith) (omega arith)))
          ∙ sym (own-mark (x / 64) (x % 64) (below (inr b)) (small c)) ∙ sym q
          ∙ stream-mark (x / 64) (x % 64) (below (inr b)) (small c) ∙ ap (λ m. shape m (x % 64) s) e)
