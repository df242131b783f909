-- The reports of a piece of a lawful stream of which the last cell of a subframe and all behind have the other level.
use Rattle.std.proofs.Common.{◌≡◌, ℕ, zero, suc, ◌+◌, ◌-◌, ◌*◌, ◌/◌, ◌%◌, ◌<◌, ◌≤◌, ◌⊎◌, inl, inr, List, [], ◌∷◌, ◌++◌}
use Rattle.std.specs.Prelude.{◌==◌}
use Rattle.std.proofs.Common.{Bool, true, false, cond, Option, None, Some, refl, length, map, take, drop, ap, ap₂}
use Rattle.std.proofs.Common.{◌∙◌, sym, subst, arith, length-drop, get_or-drop, get_or-take, take-take, lt-ltb, le-ltb}
use Rattle.std.proofs.lemmas.Bool.{cases_eq, cases_lt, cases_Bool}
use Rattle.std.proofs.lemmas.List.{drop-map, length-map, map-append, take-map}
use Rattle.aes3_level.specs.declared.level.Level.{Level}
use Rattle.aes3_level.specs.declared.level.Level.TheVariants.{Low}
use Rattle.aes3_level.specs.Cells.{line, other}
use Rattle.aes3_slot.specs.declared.mark.Mark.{Mark}
use Rattle.aes3_slot.specs.declared.mark.Mark.TheVariants.{X, Y, Z}
use Rattle.aes3_slot.specs.Slots.{mark_runs, with_parity}
use Rattle.aes3_slot.specs.Rules.{at, before, shape, AllKept, Kept, StandsMark}
use Rattle.aes3_slot.specs.Preambles.{begins_with, entry}
use Rattle.aes3_slot.proofs.Aligned.{aligned, aligned-own}
use Rattle.aes3_slot.proofs.Beginnings.{begins-room, begins-short, begins-stands, stands-begins, stands-entry}
use Rattle.aes3_slot.proofs.Distance.{own-cell, stands-from}
use Rattle.aes3_slot.proofs.Index.{length-mark}
use Rattle.aes3_frame.specs.Blocks.{mark_at, block_cells, block_len, block_runs, block_subframes, stream}
use Rattle.aes3_frame.proofs.BlockLemmas.{block_subframes_384}
use Rattle.aes3_frame.proofs.CellLaws.{block_len_24576}
use Rattle.aes3_frame.proofs.FileLaws.{EachBlock, each-block}
use Rattle.aes3_frame.proofs.GatheredWords.{line-other}
use Rattle.aes3_lock.specs.declared.report.Report.{Report}
use Rattle.aes3_lock.specs.Outcomes.{Outcome, whole, marked, unfinished}
use Rattle.aes3_lock.specs.Pieces.{IsPiece}
use Rattle.aes3_lock.specs.Reports.{outcome_at, reports, reports_from, told}
use Rattle.aes3_lock.specs.Standing.{IsViable, StandsClosed}
use Rattle.aes3_lock.proofs.ChangeReports.{block-at}
use Rattle.aes3_lock.proofs.Damaged.{line-cell, own-stays}
use Rattle.aes3_lock.proofs.DamageLaws.{length-of, stands-local}
use Rattle.aes3_lock.proofs.Distances.{other-same}
use Rattle.aes3_lock.proofs.Ends.{outcome_at-none, outcome_at-some}
use Rattle.aes3_lock.proofs.LawfulPieces.{stream-kept, stream-length, stream_marks}
use Rattle.aes3_lock.proofs.PieceBounds.{length-piece, piece-rest}
use Rattle.aes3_lock.proofs.PlaceBlocks.{whole-len}
use Rattle.aes3_lock.proofs.Refutations.{viable-unfinished}
use Rattle.aes3_lock.proofs.StandingBlocks.{block-stands, first-mark, standing-begins, standing-whole}
use Rattle.aes3_lock.proofs.Viability.{kept-viable}
use Rattle.aes3_spoil.specs.declared.errors.Errors.{Errors}
use Rattle.aes3_spoil.specs.declared.kinds.ErrorKind.TheVariants.{Inverted}
use Rattle.aes3_spoil.specs.EachLaws.{with_wrong_parity}
use Rattle.aes3_spoil.specs.SpoilLaws.{IsOne}
use Rattle.aes3_spoil.specs.Spoiled.{spoiled}
use Rattle.aes3_spoil.specs.Subframes.{parity_cell}
use Rattle.aes3_spoil.proofs.Damaged.{inverted-one}
use Rattle.aes3_spoil.proofs.Parity.{at-other, at-turned, drop-turned, length-turned, take-turned}
use Rattle.aes3_spoil.proofs.Parity.{turned_from, wrong-outcome}
use Rattle.aes3_lock.proofs.OtherLevel.{shape-other}

-- cells before the one from which on they are turned, and behind it
at-early : (x : ℕ) (d : List Level) (y : ℕ) → y < x → at (turned_from x d) y ≡ at d y
at-early zero d y l = absurd (omega arith)
at-early (suc x) [] y l = refl
at-early (suc x) (a ∷ d) zero l = refl
at-early (suc x) (a ∷ d) (suc y) l = at-early x d y (omega arith)

before-early : (x : ℕ) (s : Level) (d : List Level) (y : ℕ) → y ≤ x → before s (turned_from x d) y ≡ before s d y
before-early x s d zero l = refl
before-early x s d (suc y) l = at-early x d y (omega arith)

before-late : (x : ℕ) (s : Level) (d : List Level) (y : ℕ) → x < y → y ≤ length d
    → before s (turned_from x d) y ≡ other (before s d y)
before-late x s d zero l o = absurd (omega arith)
before-late x s d (suc y) l o = at-turned x d y (omega arith) (omega arith)

take-early : (n x : ℕ) (d : List Level) → n ≤ x → take n (turned_from x d) ≡ take n d
take-early zero x d l = refl
take-early (suc n) zero d l = absurd (omega arith)
take-early (suc n) (suc x) [] l = refl
take-early (suc n) (suc x) (a ∷ d) l = ap (λ c. a ∷ c) (take-early n x d (omega arith))

drop-late : (y x : ℕ) (d : List Level) → x ≤ y → drop y (turned_from x d) ≡ map other (drop y d)
drop-late y zero d l = drop-map other y d
drop-late zero (suc x) d l = absurd (omega arith)
drop-late (suc y) (suc x) [] l = refl
drop-late (suc y) (suc x) (a ∷ d) l = drop-late y x d (omega arith)

kept-turned : (marks : ℕ → Mark) (s : Level) (d : List Level) (x : ℕ) → AllKept marks s d → x % 64 ≡ 63
    → AllKept marks s (turned_from x d)
kept-turned marks s d x k a y l = go (cases_lt y x) (cases_eq y x) (k y inside)
  where
    inside : y < length d
    inside = let n = length-turned x d in omega (arith, n, l)

    go : (y < x) ⊎ (x ≤ y) → (y ≡ x) ⊎ (y ≡ x → ⊥) → Kept marks s d y → Kept marks s (turned_from x d) y
    go (inl u) v o =
        record {
          preamble = λ p. at-early x d y u ∙ o.preamble p
              ∙ ap (shape (marks (y / 64)) (y % 64)) (sym (before-early x s d (64 * (y / 64)) (omega (arith, u))));
          slot = λ p q. at-early x d y u ∙ o.slot p q ∙ ap other (sym (before-early x s d y (omega (arith, u))));
        }
    go (inr u) (inl v) o =
        record { preamble = λ p. absurd (omega (arith, v, a, p)); slot = λ p q. absurd (omega (arith, v, a, q)) }
    go (inr u) (inr v) o =
        let i = inside in
        let w : x < 64 * (y / 64) = omega (arith, u, v, a) in
        record {
          preamble = λ p. at-turned x d y u i ∙ ap other (o.preamble p)
              ∙ sym (shape-other (marks (y / 64)) (y % 64) (before s d (64 * (y / 64))) p)
              ∙ ap (shape (marks (y / 64)) (y % 64)) (sym (before-late x s d (64 * (y / 64)) w (omega (arith, i))));
          slot = λ p q. at-turned x d y u i ∙ ap other (o.slot p q)
              ∙ ap other (sym (before-late x s d y (omega (arith, u, v)) (omega (arith, i))));
        }

-- only the first subframe of a block has Z
first-only : (n : ℕ) → mark_at n ≡ Z → n ≡ 0
unfolding mark_at
first-only zero e = refl
first-only (suc n) e = absurd (go ((n % 2) == 0) e)
  where
    go : (t : Bool) → cond t Y X ≡ Z → ⊥
    go true q = cc
    go false q = cc

-- a piece of cells that keep the rule of a stream's subframes, from one of its places on
module _ (s : Level) (d : List Level) (kept : AllKept stream_marks s d) (i j : ℕ) (order : i ≤ j)
    (within : j ≤ length d) where
  abbrev part : ℕ → List Level
  part y = drop y (take (j - i) (drop i d))

  part-length : (y : ℕ) → length (part y) ≡ j - i - y
  part-length y =
      let a = length-drop y (take (j - i) (drop i d)) in
      let b = length-piece i j d order within in
      omega (arith, a, b)

  part-cell : (y x : ℕ) → i + y + x < j → at (part y) x ≡ at d (i + y + x)
  part-cell y x l =
      let z : i + (y + x) ≡ i + y + x = omega arith in
      get_or-drop y (take (j - i) (drop i d)) x Low ∙ get_or-take (j - i) (drop i d) (y + x) Low (omega (arith, l))
      ∙ get_or-drop i d (y + x) Low ∙ ap (at d) z

  -- where no block begins
  no-block : (y : ℕ) → y < j - i → ((i + y) % 24576 ≡ 0 → ⊥) → outcome_at (part y) ≡ None
  no-block y l n = outcome_at-none (part y) (go (cases_Bool (begins_with Z (part y))))
    where
      go : (begins_with Z (part y) ≡ true) ⊎ (begins_with Z (part y) ≡ false) → begins_with Z (part y) ≡ false
      go (inr f) = f
      go (inl e) =
          let z = begins-stands Z (part y) e in
          let r = begins-room Z (part y) e in
          let o = part-length y in
          let v : StandsMark Z (entry (part y)) d (i + y) =
          record {
            is = sym (take-take 8 (j - (i + y)) (drop (i + y) d) (omega (arith, r, o)))
                ∙ ap (take 8) (sym (piece-rest i j y d (omega (arith, l)))) ∙ z.is;
          } in
          let a = aligned stream_marks s d kept Z (entry (part y)) (i + y) v in
          let m = (aligned-own stream_marks s d kept Z (entry (part y)) (i + y) v).0 in
          let f : (i + y) / 64 % 384 ≡ 0 =
          ap (λ k. (i + y) / 64 % k) (sym block_subframes_384) ∙ first-only ((i + y) / 64 % block_subframes) m in
          absurd (n (omega (arith, a, f)))

  -- too few cells for a preamble
  short : (y : ℕ) → j - i - y < 8 → outcome_at (part y) ≡ None
  short y l = let n = part-length y in outcome_at-none (part y) (begins-short Z (part y) (omega (arith, n, l)))

  -- where a block begins
  module _ (y : ℕ) (start : (i + y) % 24576 ≡ 0) (few : y + 8 ≤ j - i) where
    abbrev t : Level
    t = before s d (i + y)

    begin-cell : (x : ℕ) → x < 8 → at (part y) x ≡ shape Z x t
    begin-cell x l =
        let a = start in
        let b = few in
        let w = within in
        let e : 64 * ((i + y) / 64) ≡ i + y = omega (arith, a) in
        let z : (i + y) / 64 % 384 ≡ 0 = omega (arith, a) in
        let m : stream_marks ((i + y) / 64) ≡ Z =
        ap mark_at (ap (λ k. (i + y) / 64 % k) block_subframes_384 ∙ z) ∙ first-mark in
        part-cell y x (omega (arith, b, l)) ∙ ap (λ p. at d (p + x)) (sym e)
        ∙ own-cell stream_marks s d kept ((i + y) / 64) x (omega (arith, b, e, w)) l
        ∙ ap₂ (λ m p. shape m x (before s d p)) m e

    begun : StandsMark Z t (part y) 0
    begun =
        let n = part-length y in
        let b = few in
        stands-from Z t (part y) 0 (omega (arith, n, b))
        (λ x l. let z : 0 + x ≡ x = omega arith in ap (at (part y)) z ∙ begin-cell x l)

    part-before : (x : ℕ) → i + y + x ≤ j → before t (part y) x ≡ before s d (i + y + x)
    part-before zero l = let z : i + y ≡ i + y + 0 = omega arith in ap (before s d) z
    part-before (suc x) l =
        let z : suc (i + y + x) ≡ i + y + suc x = omega arith in
        part-cell y x (omega (arith, l)) ∙ ap (before s d) z

    kept-part : (x : ℕ) → x < j - i - y → x < 24576 → Kept mark_at t (part y) x
    kept-part x l o =
        let a = start in
        let w = within in
        let k = kept (i + y + x) (omega (arith, l, w)) in
        let c = part-cell y x (omega (arith, l)) in
        let q : (i + y + x) % 64 ≡ x % 64 = omega (arith, a) in
        let z : (i + y + x) / 64 % 384 ≡ x / 64 = omega (arith, a, o) in
        let m : stream_marks ((i + y + x) / 64) ≡ mark_at (x / 64) =
        ap mark_at (ap (λ n. (i + y + x) / 64 % n) block_subframes_384 ∙ z) in
        let v : 64 * ((i + y + x) / 64) ≡ i + y + 64 * (x / 64) = omega (arith, a) in
        record {
          preamble = λ u. c ∙ k.preamble (omega (arith, q, u))
              ∙ ap₂ (λ m n. shape m n (before s d (64 * ((i + y + x) / 64)))) m q
              ∙ ap (shape (mark_at (x / 64)) (x % 64))
              (ap (before s d) v ∙ sym (part-before (64 * (x / 64)) (omega (arith, l))));
          slot = λ u e. c ∙ k.slot (omega (arith, q, u)) (omega (arith, a, e))
              ∙ ap other (sym (part-before x (omega (arith, l))));
        }

    unfinished-part : j - i - y < block_len → outcome_at (part y) ≡ Some (unfinished (j - i - y))
    unfinished-part l =
        let n = part-length y in
        let m = block_len_24576 in
        outcome_at-some (part y) (stands-begins Z t (part y) begun)
        ∙ ap Some (viable-unfinished (part y) (omega (arith, n, l))
        (subst (λ u. IsViable u (part y)) (sym (stands-entry Z t (part y) begun))
        (kept-viable t (part y) (omega (arith, n, l))
        (λ x o. kept-part x (omega (arith, n, o)) (omega (arith, n, m, l, o))))) ∙ ap unfinished n)

-- a block whose cells all have the other level
other-stands : (b : List (List Bool)) (s : Level) (d : List Level) → StandsClosed b s d
    → StandsClosed b (other s) (map other d)
unfolding block_cells
other-stands b s d h =
    let n = length-map d other in
    let m = block_len_24576 in
    record {
      block = h.block;
      cells = take-map other block_len d ∙ ap (map other) h.cells ∙ line-other s (block_runs b);
      closed = record {
        turns = λ more e.
            h.closed.turns (omega (arith, more, n))
            (other-same (at d block_len) (at d (block_len - 1))
            (sym (at-other d block_len (omega (arith, more, n))) ∙ e
            ∙ at-other d (block_len - 1) (omega (arith, more, n, m))));
      };
    }

-- reports that each become others
reports-mapped : (f : Report → Report) (p : ℕ) (c e : List Level) → length e ≡ length c
    → ((y : ℕ) → y < length c
    → told (p + y) (outcome_at (drop y e)) ≡ map f (told (p + y) (outcome_at (drop y c))))
    → reports_from p e ≡ map f (reports_from p c)
reports-mapped f p [] [] n h = refl
reports-mapped f p [] (y ∷ e) n h = absurd (omega (arith, n))
reports-mapped f p (x ∷ c) [] n h = absurd (omega (arith, n))
reports-mapped f p (x ∷ c) (y ∷ e) n h =
    let z : p + 0 ≡ p = omega arith in
    ap₂ ◌++◌
    (ap (λ q. told q (outcome_at (y ∷ e))) (sym z) ∙ h 0 (omega arith)
    ∙ ap (λ q. map f (told q (outcome_at (x ∷ c)))) z)
    (reports-mapped f (suc p) c e (omega (arith, n))
    (λ k l. let w : suc p + k ≡ p + suc k = omega arith in
    ap (λ q. told q (outcome_at (drop k e))) w ∙ h (suc k) (omega (arith, l))
    ∙ ap (λ q. map f (told q (outcome_at (drop k c)))) (sym w)))
    ∙ sym (map-append f (told p (outcome_at (x ∷ c))) (reports_from (suc p) c))

module _ (s : Level) (bs : List (List (List Bool))) (h : EachBlock bs) (i j : ℕ) (order : i ≤ j)
    (within : j ≤ length (stream s bs)) (k : ℕ) (inside : k < j - i) (last : (i + k) % 64 ≡ 63) where
  abbrev piece : List Level
  piece = take (j - i) (drop i (stream s bs))

  abbrev sent : List Level
  sent = turned_from (i + k) (stream s bs)

  sent-is : turned_from k piece ≡ take (j - i) (drop i sent)
  sent-is =
      let z : i + k - i ≡ k = omega arith in
      sym (ap (take (j - i)) (drop-turned i (i + k) (stream s bs) (omega arith)
      ∙ ap (λ n. turned_from n (drop i (stream s bs))) z) ∙ take-turned (j - i) k (drop i (stream s bs)))

  kept-sent : AllKept stream_marks s sent
  kept-sent = kept-turned stream_marks s (stream s bs) (i + k) (stream-kept s bs h) last

  sent-within : j ≤ length sent
  sent-within = let n = length-turned (i + k) (stream s bs) in let w = within in omega (arith, n, w)

  both : (y : ℕ) (o q : Option Outcome) → outcome_at (drop y piece) ≡ o → outcome_at (drop y (turned_from k piece)) ≡ q
      → told y q ≡ map (with_wrong_parity k) (told y o)
      → told y (outcome_at (drop y (turned_from k piece)))
      ≡ map (with_wrong_parity k) (told y (outcome_at (drop y piece)))
  both y o q e f g = ap (told y) f ∙ g ∙ ap (λ z. map (with_wrong_parity k) (told y z)) (sym e)

  -- where a block of the piece begins
  module _ (y : ℕ) (start : (i + y) % 24576 ≡ 0) (room : y + block_len ≤ j - i) where
    place : (i + y) / 24576 * block_len ≡ i + y
    place =
        let a = start in
        let z : (i + y) / 24576 * 24576 ≡ i + y = omega (arith, a) in
        ap (λ n. (i + y) / 24576 * n) block_len_24576 ∙ z

    number : (i + y) / 24576 < length bs
    number =
        let m = block_len_24576 in
        let n = stream-length s bs h ∙ whole-len (length bs) in
        let f : length bs * block_len ≡ length bs * 24576 = ap (λ n. length bs * n) block_len_24576 in
        let r = room in
        let w = within in
        let a = start in
        omega (arith, m, n, f, r, w, a)

    found : (b : List (List Bool)) × (more : List (List (List Bool))) × EachBlock (b ∷ more)
        × (drop ((i + y) / 24576 * block_len) (stream s bs) ≡ stream s (b ∷ more))
    found = block-at s ((i + y) / 24576) bs h number

    stands : StandsClosed found.0 s (drop y piece)
    stands =
        let r = room in
        let z : i + y - i ≡ y = omega arith in
        let e : drop (i + y) (stream s bs) ≡ stream s (found.0 ∷ found.1) =
        ap (λ n. drop n (stream s bs)) (sym place) ∙ found.3 in
        subst (λ n. StandsClosed found.0 s (drop n piece)) z
        (own-stays s bs h i j order within piece (length-piece i j (stream s bs) order within) (i + y) found.0 found.1
        (omega arith) (omega (arith, r)) found.2 e
        (λ x m o. get_or-drop (i + y - i) piece x Low
        ∙ line-cell s bs (found.0 ∷ found.1) i j (i + y) x (omega arith) o e))

    outcome-of : (u : Level) (c : List Level) → StandsClosed found.0 u c → outcome_at c ≡ Some (whole u found.0)
    outcome-of u c o =
        outcome_at-some c (standing-begins (map with_parity found.0) u c (block-stands found.0 u c o))
        ∙ ap Some (standing-whole found.0 u c o)

    by : (k < y) ⊎ (y ≤ k) → (k < y + block_len) ⊎ (y + block_len ≤ k)
        → told y (outcome_at (drop y (turned_from k piece)))
        ≡ map (with_wrong_parity k) (told y (outcome_at (drop y piece)))
    by (inl u) v =
        let e = lt-ltb k y u in
        both y (Some (whole s found.0)) (Some (whole (other s) found.0)) (outcome-of s (drop y piece) stands)
        (ap outcome_at (drop-late y k piece (omega (arith, u)))
        ∙ outcome-of (other s) (map other (drop y piece)) (other-stands found.0 s (drop y piece) stands))
        (rw e refl)
    by (inr u) (inl v) =
        let a = start in
        let w = last in
        let m = block_len_24576 in
        let o = block_subframes_384 in
        let e = le-ltb k y u in
        let f = lt-ltb k (y + block_len) v in
        let z : k - y ≡ 64 * ((k - y) / 64) + 63 = omega (arith, a, w, u) in
        both y (Some (whole s found.0)) (Some (marked s 1)) (outcome-of s (drop y piece) stands)
        (ap outcome_at (drop-turned y k piece u ∙ ap (λ n. turned_from n (drop y piece)) z)
        ∙ wrong-outcome found.0 s (drop y piece) stands ((k - y) / 64) (omega (arith, m, o, v, u)))
        (rw (e, f) refl)
    by (inr u) (inr v) =
        let a = start in
        let w = last in
        let m = block_len_24576 in
        let e = le-ltb k y u in
        let g = le-ltb k (y + block_len) v in
        both y (Some (whole s found.0)) (Some (whole s found.0)) (outcome-of s (drop y piece) stands)
        (ap outcome_at (drop-turned y k piece u)
        ∙ outcome-of s (turned_from (k - y) (drop y piece))
        (stands-local found.0 s (drop y piece) (turned_from (k - y) (drop y piece))
        (sym (take-early (suc block_len) (k - y) (drop y piece) (omega (arith, a, w, m, u, v)))) stands))
        (rw (e, g) refl)

  each : (y : ℕ) → y < j - i
      → told y (outcome_at (drop y (turned_from k piece)))
      ≡ map (with_wrong_parity k) (told y (outcome_at (drop y piece)))
  each y l = go (cases_eq ((i + y) % 24576) 0) (cases_lt (j - i - y) 8) (cases_lt (j - i - y) block_len)
    where
      same : outcome_at (drop y (turned_from k piece)) ≡ outcome_at (drop y (take (j - i) (drop i sent)))
      same = ap (λ c. outcome_at (drop y c)) sent-is

      go : ((i + y) % 24576 ≡ 0) ⊎ ((i + y) % 24576 ≡ 0 → ⊥) → (j - i - y < 8) ⊎ (8 ≤ j - i - y)
          → (j - i - y < block_len) ⊎ (block_len ≤ j - i - y)
          → told y (outcome_at (drop y (turned_from k piece)))
          ≡ map (with_wrong_parity k) (told y (outcome_at (drop y piece)))
      go (inr n) v w =
          both y None None (no-block s (stream s bs) (stream-kept s bs h) i j order within y l n)
          (same ∙ no-block s sent kept-sent i j order sent-within y l n) refl
      go (inl a) (inl v) w =
          both y None None (short s (stream s bs) (stream-kept s bs h) i j order within y v)
          (same ∙ short s sent kept-sent i j order sent-within y v) refl
      go (inl a) (inr v) (inl w) =
          both y (Some (unfinished (j - i - y))) (Some (unfinished (j - i - y)))
          (unfinished-part s (stream s bs) (stream-kept s bs h) i j order within y a (omega (arith, v)) w)
          (same ∙ unfinished-part s sent kept-sent i j order sent-within y a (omega (arith, v)) w) refl
      go (inl a) (inr v) (inr w) = by y a (omega (arith, w, v)) (cases_lt k y) (cases_lt k (y + block_len))

  sent-reports : reports_from 0 (turned_from k piece) ≡ map (with_wrong_parity k) (reports_from 0 piece)
  sent-reports =
      let n = length-piece i j (stream s bs) order within in
      reports-mapped (with_wrong_parity k) 0 piece (turned_from k piece) (length-turned k piece)
      (λ y l. let z : 0 + y ≡ y = omega arith in
      ap (λ q. told q (outcome_at (drop y (turned_from k piece)))) z ∙ each y (omega (arith, n, l))
      ∙ ap (λ q. map (with_wrong_parity k) (told q (outcome_at (drop y piece)))) (sym z))

pub parity-reports : (errors : Errors) (s : Level) (bs : List (List (List Bool))) (i j : ℕ) (c : List Level)
    → IsPiece s bs i j c → (k : ℕ) → IsOne errors Inverted k → k < length c → (i + k) % 64 ≡ parity_cell 0
    → reports (spoiled errors c) ≡ map (with_wrong_parity k) (reports c)
unfolding reports
parity-reports errors s bs i j c p k one inside last =
    let n = length-of s bs i j c p in
    ap reports (inverted-one errors k c one)
    ∙ ap (λ d. reports_from 0 (turned_from k d)) p.is
    ∙ sent-reports s bs (each-block bs p.blocks) i j p.order p.within k (omega (arith, n, inside)) last
    ∙ ap (λ d. map (with_wrong_parity k) (reports_from 0 d)) (sym p.is)
