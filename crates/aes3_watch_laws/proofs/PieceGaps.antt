-- Where the whole blocks of cells stand in a row from end to end no gap counts, as in a piece of a lawful stream.
use Rattle.std.proofs.Common.{◌≡◌, ℕ, zero, suc, ◌+◌, ◌-◌, ◌*◌, ◌/◌, ◌%◌, ◌<◌, ◌≤◌, ◌⊎◌, inl, inr, Bool, true, false}
use Rattle.std.proofs.Common.{cond, ltb, List, [], ◌∷◌, ◌++◌, Option, Some, None, length, take, drop, refl, sym, ap}
use Rattle.std.proofs.Common.{◌∙◌, subst, arith, length-drop, drop-drop, get_or-drop}
use Rattle.std.specs.List.{Contains, filter}
use Rattle.std.proofs.lemmas.Bool.{cases_eq, cases_lt, le-ltb}
use Rattle.aes3_level.specs.declared.level.Level.{Level}
use Rattle.aes3_level.specs.declared.level.Level.TheVariants.{Low}
use Rattle.aes3_frame.specs.Blocks.{block_len, stream}
use Rattle.aes3_frame.proofs.FileLaws.{each-block}
use Rattle.aes3_lock.specs.declared.report.Report.{Report}
use Rattle.aes3_lock.specs.declared.report.Report.TheVariants.{Whole, Marked, Fault, Unfinished}
use Rattle.aes3_lock.specs.Outcomes.{Outcome, whole, marked, fault, unfinished}
use Rattle.aes3_lock.specs.Pieces.{IsPiece}
use Rattle.aes3_lock.specs.Remains.{place_of}
use Rattle.aes3_lock.specs.Reports.{report_of, told, outcome_at, reports_from, reports, wholes, blocks}
use Rattle.aes3_lock.specs.Standing.{StandsClosed}
use Rattle.aes3_lock.proofs.AllStanding.{at-standing, closed-room, standing-at}
use Rattle.aes3_lock.proofs.Apart.{apart-self}
use Rattle.aes3_lock.proofs.ChangeReports.{block-at, reports-each}
use Rattle.aes3_lock.proofs.Damaged.{line-cell, own-stays}
use Rattle.aes3_lock.proofs.DamageLaws.{few-blocks}
use Rattle.aes3_lock.proofs.Deciding.{block_len_24576}
use Rattle.aes3_lock.proofs.PieceBounds.{length-piece}
use Rattle.aes3_lock_gaps.specs.Gaps.{reported, full_gaps, full_count, behind_full, kind, rest_gap, gaps, account_from}
use Rattle.aes3_lock_gaps.specs.Gaps.{reached_from, account, is_lost}
use Rattle.aes3_watch_laws.specs.GapLaws.{InRow, LosesNothing}
use Rattle.aes3_lock_gaps.proofs.GapLemmas.{behind-none, count-near, lost-append, lost-cut, lost-full}
use Rattle.aes3_watch_laws.proofs.LostGaps.{length-blocks, row-first}
use Rattle.aes3_lock.proofs.ReportPlaces.{Spaced, UpTo, near-reports, next_place, spaced-weaker, spaced-reports}

-- ---- a piece's blocks stand in a row

-- a block stands at each place of a piece at which one begins and has room
pub piece-stands : (s : Level) (bs : List (List (List Bool))) (i j : ℕ) (c : List Level) → IsPiece s bs i j c → (q : ℕ)
    → (i + q) % block_len ≡ 0 → q + block_len ≤ length c
    → (b : List (List Bool)) × StandsClosed b s (drop q c)
piece-stands s bs i j c p q a l =
    let h = each-block bs p.blocks in
    let d = take (j - i) (drop i (stream s bs)) in
    let n = length-piece i j (stream s bs) p.order p.within in
    let m = ap length p.is in
    let u : length (stream s bs) ≡ length bs * 24576
    = length-blocks s bs p.blocks ∙ ap (λ (v : ℕ). length bs * v) block_len_24576 in
    let z : (i + q) % 24576 ≡ 0 = sym (ap (λ (v : ℕ). (i + q) % v) block_len_24576) ∙ a in
    let k : block_len ≡ 24576 = block_len_24576 in
    let o = p.order in
    let w = p.within in
    let t : i + q ≡ (i + q) / 24576 * block_len
    = (let y : i + q ≡ (i + q) / 24576 * 24576 = omega arith in y)
    ∙ ap (λ (v : ℕ). (i + q) / 24576 * v) (sym block_len_24576) in
    let high : i + q + block_len ≤ j = omega arith in
    let r = block-at s ((i + q) / 24576) bs h (omega arith) in
    let e : drop (i + q) (stream s bs) ≡ stream s (r.0 ∷ r.1) = ap (λ k. drop k (stream s bs)) t ∙ r.3 in
    let low : i ≤ i + q = omega arith in
    let y = own-stays s bs h i j p.order p.within d n (i + q) r.0 r.1 low high r.2 e
    (λ x v o. get_or-drop (i + q - i) d x Low ∙ line-cell s bs (r.0 ∷ r.1) i j (i + q) x low o e) in
    let f : i + q - i ≡ q = omega arith in (
      r.0,
      subst (λ (v : List Level). StandsClosed r.0 s (drop q v)) (sym p.is)
          (subst (λ (v : ℕ). StandsClosed r.0 s (drop v d)) f y),
    )

none-row : (a : ℕ) (r : List Report) → wholes r ≡ [] → InRow a r
none-row a [] e = tt
none-row a (Whole at t b ∷ r) e = absurd (let n = ap length e in omega arith)
none-row a (Marked at t n ∷ r) e = none-row a r e
none-row a (Fault at cell why ∷ r) e = none-row a r e
none-row a (Unfinished at n ∷ r) e = none-row a r e

-- the whole blocks among the reports of cells from place q on stand in a row from place a on, up to the last that has
-- room
record Rows (a q : ℕ) (d : List Level) : Type 0 where
  row : InRow a (reports_from q d)
  ends : q + length d < a + block_len * (length (wholes (reports_from q d)) + 1)

module _ (s : Level) (bs : List (List (List Bool))) (i j : ℕ) (c : List Level) (p : IsPiece s bs i j c) where
  aligned-at : (q : ℕ) (t : Level) (b : List (List Bool)) → StandsClosed b t (drop q c) → (i + q) % block_len ≡ 0
  aligned-at q t b z = few-blocks s bs i j c c p refl q b t z (let a = apart-self c in omega arith)

  same-place : (q a : ℕ) → (i + q) % block_len ≡ 0 → (i + a) % block_len ≡ 0 → q ≤ a → a < q + block_len → q ≡ a
  same-place q a x y l m =
      let u : (i + q) % 24576 ≡ 0 = sym (ap (λ (v : ℕ). (i + q) % v) block_len_24576) ∙ x in
      let w : (i + a) % 24576 ≡ 0 = sym (ap (λ (v : ℕ). (i + a) % v) block_len_24576) ∙ y in
      let k = block_len_24576 in
      omega arith

  next-aligned : (q : ℕ) → (i + q) % block_len ≡ 0 → (i + (q + block_len)) % block_len ≡ 0
  next-aligned q x =
      let u : (i + q) % 24576 ≡ 0 = sym (ap (λ (v : ℕ). (i + q) % v) block_len_24576) ∙ x in
      ap (λ (v : ℕ). (i + (q + v)) % v) block_len_24576 ∙ omega arith

  behind-cell : (q : ℕ) (x : Level) (d : List Level) → x ∷ d ≡ drop q c → d ≡ drop (suc q) c
  behind-cell q x d e =
      let n : q + 1 ≡ suc q = omega arith in
      ap (drop 1) e ∙ drop-drop 1 q c ∙ ap (λ k. drop k c) n

  -- no block is whole behind a place where one begins and has no room
  none-behind : (q : ℕ) (d : List Level) → d ≡ drop (suc q) c → length c < q + block_len
      → InRow (q + block_len) (reports_from (suc q) d) → wholes (reports_from (suc q) d) ≡ []
  none-behind q d e l r = elim (row-first (q + block_len) (reports_from (suc q) d) r) [
    | inl n ↦ n
    | inr w ↦
        let t = reports-each (suc q) d (Whole (q + block_len) w.0 w.1) w.2 in
        absurd (no-room t.0 t.1 t.2 t.3)
  ]
    where
      no-room : {u : Level} {b : List (List Bool)} (k : ℕ) (o : Outcome) → outcome_at (drop k d) ≡ Some o
          → Whole (q + block_len) u b ≡ report_of (suc q + k) o → ⊥
      no-room k (whole t f) o z =
          let y : q + block_len ≡ suc q + k = cc in
          let m = closed-room f t (drop k d) (at-standing f t (drop k d) o) in
          let n = length-drop k d in
          let v = ap length e in
          let w = length-drop (suc q) c in
          let g = block_len_24576 in
          omega arith
      no-room k (marked t n) o z = cc
      no-room k (fault f) o z = cc
      no-room k (unfinished n) o z = cc

  -- cell x at place q and the cells d behind it
  module _ (q a : ℕ) (x : Level) (d : List Level) (e : x ∷ d ≡ drop q c) (n : q + length (x ∷ d) ≡ length c) (l : q ≤ a)
      (m : a < q + block_len) (z : (i + a) % block_len ≡ 0)
      (next : (v : ℕ) → suc q ≤ v → v < suc q + block_len → (i + v) % block_len ≡ 0 → Rows v (suc q) d) where
    abbrev RestRows : Type 0
    RestRows = InRow a (reports_from (suc q) d)
        × (q + length (x ∷ d) < a + block_len * (length (wholes (reports_from (suc q) d)) + 1))

    no-more : a ≤ q → length c < q + block_len → RestRows
    no-more g h =
        let y : a ≡ q = omega arith in
        let k = block_len_24576 in
        let r = next (q + block_len) (omega arith) (omega arith)
        (next-aligned q (subst (λ v. (i + v) % block_len ≡ 0) y z)) in
        let w = none-behind q d (behind-cell q x d e) h r.row in
        (none-row a (reports_from (suc q) d) w, near-end (length (wholes (reports_from (suc q) d))) (omega arith))
      where
        near-end : (w : ℕ) → q + length (x ∷ d) < a + block_len → q + length (x ∷ d) < a + block_len * (w + 1)
        near-end w g =
            let v : q + length (x ∷ d) < a + 24576 = subst (λ (k : ℕ). q + length (x ∷ d) < a + k) block_len_24576 g in
            rw block_len_24576 (omega arith)

    room : a ≤ q → q + block_len ≤ length c → (o : Option Outcome) → outcome_at (x ∷ d) ≡ o
        → ((t : Level) (b : List (List Bool)) → Some (whole t b) ≡ o → ⊥) → ⊥
    room g h o f none =
        let y : a ≡ q = omega arith in
        let b = piece-stands s bs i j c p q (subst (λ v. (i + v) % block_len ≡ 0) y z) h in
        none s b.0 (sym (ap outcome_at e ∙ standing-at b.0 s (drop q c) b.1) ∙ f)

    -- where no block is whole
    other : (o : Option Outcome) → outcome_at (x ∷ d) ≡ o
        → ((t : Level) (b : List (List Bool)) → Some (whole t b) ≡ o → ⊥) → RestRows
    other o f none = by (cases_lt q a) (cases_lt (length c) (q + block_len))
      where
        by : (q < a) ⊎ (a ≤ q) → (length c < q + block_len) ⊎ (q + block_len ≤ length c) → RestRows
        by (inl g) h = let r = next a (omega arith) (omega arith) z in let k : suc q + length d ≡ q + length (x ∷ d)
            = omega arith in
            (r.row, subst (λ v. v < a + block_len * (length (wholes (reports_from (suc q) d)) + 1)) k r.ends)
        by (inr g) (inl h) = no-more g h
        by (inr g) (inr h) = absurd (room g h o f none)

    plain : (o : Option Outcome) → outcome_at (x ∷ d) ≡ o
        → ((t : Level) (b : List (List Bool)) → Some (whole t b) ≡ o → ⊥)
        → wholes (told q o ++ reports_from (suc q) d) ≡ wholes (reports_from (suc q) d)
        → (InRow a (reports_from (suc q) d) → InRow a (told q o ++ reports_from (suc q) d)) → Rows a q (x ∷ d)
    plain o f none w g =
        let r = other o f none in
        let u : told q (outcome_at (x ∷ d)) ++ reports_from (suc q) d ≡ told q o ++ reports_from (suc q) d
        = ap (λ v. told q v ++ reports_from (suc q) d) f in
        record {
          row = subst (InRow a) (sym u) (g r.0);
          ends = subst (λ v. q + length (x ∷ d) < a + block_len * (length v + 1)) (sym (ap wholes u ∙ w)) r.1;
        }

    one-more : (w : ℕ) → suc q + length d < q + block_len + block_len * (w + 1) → q ≡ a
        → q + length (x ∷ d) < a + block_len * (suc w + 1)
    one-more w g y =
        let v : suc q + length d < q + 24576 + 24576 * (w + 1)
        = subst (λ (k : ℕ). suc q + length d < q + k + k * (w + 1)) block_len_24576 g in
        rw block_len_24576 (omega arith)

    here : (t : Level) (b : List (List Bool)) → outcome_at (x ∷ d) ≡ Some (whole t b) → Rows a q (x ∷ d)
    here t b f =
        let y : q ≡ a = same-place q a (aligned-at q t b (subst (StandsClosed b t) e (at-standing b t (x ∷ d) f)))
        z l m in
        let k = block_len_24576 in
        let r = next (q + block_len) (omega arith) (omega arith)
        (next-aligned q (subst (λ v. (i + v) % block_len ≡ 0) (sym y) z)) in
        let u : told q (outcome_at (x ∷ d)) ++ reports_from (suc q) d ≡ Whole q t b ∷ reports_from (suc q) d
        = ap (λ v. told q v ++ reports_from (suc q) d) f in
        record {
          row = subst (InRow a) (sym u) (y, r.row);
          ends = subst (λ v. q + length (x ∷ d) < a + block_len * (length (wholes v) + 1)) (sym u)
              (one-more (length (wholes (reports_from (suc q) d))) r.ends y);
        }

    rows-at : (o : Option Outcome) → outcome_at (x ∷ d) ≡ o → Rows a q (x ∷ d)
    rows-at (Some (whole t b)) f = here t b f
    rows-at None f = plain None f (λ t b z. cc) refl (λ g. g)
    rows-at (Some (marked t n)) f = plain (Some (marked t n)) f (λ t b z. cc) refl (λ g. g)
    rows-at (Some (fault k)) f = plain (Some (fault k)) f (λ t b z. cc) refl (λ g. g)
    rows-at (Some (unfinished n)) f = plain (Some (unfinished n)) f (λ t b z. cc) refl (λ g. g)

  rows-from : (d : List Level) (q a : ℕ) → d ≡ drop q c → q + length d ≡ length c → q ≤ a → a < q + block_len
      → (i + a) % block_len ≡ 0 → Rows a q d
  rows-from [] q a e n l m z
      = record {
        row = tt;
        ends
            = (let k : block_len * (0 + 1) ≡ block_len = rw block_len_24576 (omega arith) in omega arith);
      }
  rows-from (x ∷ d) q a e n l m z =
      rows-at q a x d e n l m z (λ v f g h. rows-from d (suc q) v (behind-cell q x d e) (omega arith) f g h)
      (outcome_at (x ∷ d)) refl

first-aligned : (i : ℕ) → (a : ℕ) × (a < block_len) × ((i + a) % block_len ≡ 0)
first-aligned i = by (cases_eq (i % 24576) 0)
  where
    by : (i % 24576 ≡ 0) ⊎ (i % 24576 ≡ 0 → ⊥) → (a : ℕ) × (a < block_len) × ((i + a) % block_len ≡ 0)
    by (inl e) = (0, rw block_len_24576 (omega arith), rw block_len_24576 (omega arith))
    by (inr n) = (24576 - i % 24576, rw block_len_24576 (omega arith), rw block_len_24576 (omega arith))

pub piece-row : (s : Level) (bs : List (List (List Bool))) (i j : ℕ) (c : List Level) → IsPiece s bs i j c
    → LosesNothing c
unfolding reports blocks
piece-row s bs i j c p =
    let a = first-aligned i in
    let r = rows-from s bs i j c p c 0 a.0 refl (omega arith) (omega arith) (let l = a.1 in omega arith) a.2 in
    let z : 0 + length c ≡ length c = omega arith in
    record {
      first = a.0;
      begins = a.1;
      row = r.row;
      ends
          = subst (λ v. v < a.0 + block_len * (length (wholes (reports_from 0 c)) + 1)) z r.ends;
    }

-- ---- where they do, no gap counts

spaced-all : (p : ℕ) (r : List Report) (x : Report) → Spaced p r → Contains r x → p ≤ place_of x
spaced-all p [] x s h = absurd (let l = h.1 in omega arith)
spaced-all p (y ∷ r) x s (zero, l, e) = let m = ap place_of e in let n = s.0 in omega arith
spaced-all p (y ∷ r) x s (suc k, l, e)
    = let m = spaced-all (next_place y) r x s.1 (k, omega arith, e)
    in let n = s.0 in let o = next-behind y in omega arith
  where
    next-behind : (y : Report) → place_of y ≤ next_place y
    next-behind (Whole at t b) = let k = block_len_24576 in omega arith
    next-behind (Marked at t n) = omega arith
    next-behind (Fault at cell why) = omega arith
    next-behind (Unfinished at n) = omega arith

last-none : (p q : ℕ) → q < p + block_len → length (filter is_lost (gaps false p q)) ≡ 0
last-none p q l =
    let a = lost-append (full_gaps p (full_count p q)) (rest_gap false (behind_full p q) q) in
    let f = lost-full p (full_count p q) in
    let n = count-near p q l in
    let c = lost-cut (behind_full p q) q in
    omega arith

-- a report that no whole block follows is near the end, and one that a whole block follows is before it
full-none : (p at : ℕ) → full_count p at ≡ 0 → length (filter is_lost (full_gaps p (full_count p at))) ≡ 0
full-none p at e = lost-full p (full_count p at) ∙ e

-- of reports behind a whole block
abbrev NoneLost : ℕ → ℕ → ℕ → List Report → Type 0
NoneLost m n p r = length (filter is_lost (account_from n p r))
    + length (filter is_lost (gaps false (reached_from p r) m)) ≡ 0

none-more : (m n p at : ℕ) (x : Report) (r : List Report) → full_count p at ≡ 0 → NoneLost m n p r
    → length (filter is_lost (full_gaps p (full_count p at) ++ reported x ∷ account_from (n + 0) (behind_full p at) r))
    + length (filter is_lost (gaps false (reached_from (behind_full p at) r) m)) ≡ 0
none-more m n p at x r e h =
    let a = lost-append (full_gaps p (full_count p at)) (reported x ∷ account_from (n + 0) (behind_full p at) r) in
    let f = full-none p at e in
    let z : n + 0 ≡ n = omega arith in
    let b = ap (λ v. length (filter is_lost (account_from v (behind_full p at) r))) z in
    let c = ap (λ v. length (filter is_lost (account_from n v r))) (behind-none p at e) in
    let d = ap (λ v. length (filter is_lost (gaps false (reached_from v r) m))) (behind-none p at e) in
    omega arith

-- the place of a report that is not whole, where those behind it stand in a row from the place up to which all is
-- accounted for
before-end : (m p at : ℕ) (r : List Report) → p ≤ at → at ≤ m → Spaced (suc at) r → InRow p r
    → m < p + block_len * (length (wholes r) + 1) → full_count p at ≡ 0
before-end m p at r h l s w e = elim (row-first p r w) [
  | inl n ↦ count-near p at (let z = ap length n in let y : m < p + block_len
      = ends-near m p (length (wholes r)) z e in omega arith)
  | inr f ↦ absurd (let y = spaced-all (suc at) r (Whole p f.0 f.1) s f.2 in omega arith)
]
  where
    ends-near : (m p w : ℕ) → w ≡ 0 → m < p + block_len * (w + 1) → m < p + block_len
    ends-near m p w z e =
        let k : block_len * (w + 1) ≡ block_len = ap (λ v. block_len * (v + 1)) z ∙ rw block_len_24576 (omega arith) in
        subst (λ v. m < p + v) k e

one-less : (m p w : ℕ) → m < p + block_len * (suc w + 1) → m < p + block_len + block_len * (w + 1)
one-less m p w l =
    let k : m < p + 24576 * (suc w + 1) = subst (λ (v : ℕ). m < p + v * (suc w + 1)) block_len_24576 l in
    rw block_len_24576 (omega arith)

-- gaps between a place and itself
same-none : (counts : Bool) (p : ℕ) → length (filter is_lost (gaps counts p p)) ≡ 0
same-none counts p =
    let n = count-near p p (let k = block_len_24576 in omega arith) in
    let a = lost-append (full_gaps p (full_count p p)) (rest_gap counts (behind_full p p) p) in
    let f = full-none p p n in
    let b = behind-none p p n in
    let r : length (filter is_lost (rest_gap counts (behind_full p p) p))
    ≡ length (filter is_lost (rest_gap counts p p)) = ap (λ v. length (filter is_lost (rest_gap counts v p))) b in
    let z = nothing counts (ltb p p) (le-ltb p p (omega arith)) in
    omega arith
  where
    nothing : (k b : Bool) → b ≡ false → length (filter is_lost (cond b (kind k p (p - p) ∷ []) [])) ≡ 0
    nothing k false e = refl
    nothing k true e = cc

behind-row : (m n p : ℕ) (r : List Report) → Spaced p r → UpTo m r → InRow p r
    → m < p + block_len * (length (wholes r) + 1) → NoneLost m n p r
behind-row m n p [] s u w e = let k : block_len * (0 + 1) ≡ block_len
    = rw block_len_24576 (omega arith) in let z = last-none p m (omega arith)
    in omega arith
behind-row m n p (Whole at t b ∷ r) s u w e =
    let h = behind-row m (n + 1) (at + block_len) r s.1 u.1 w.1
    (subst (λ v. m < v + block_len + block_len * (length (wholes r) + 1)) (sym w.0)
    (one-less m p (length (wholes r)) e)) in
    let a = lost-append (gaps (ltb 0 n) p at) (reported (Whole at t b) ∷ account_from (n + 1) (at + block_len) r) in
    let z : length (filter is_lost (gaps (ltb 0 n) p at)) ≡ 0
    = ap (λ v. length (filter is_lost (gaps (ltb 0 n) p v))) w.0 ∙ same-none (ltb 0 n) p in
    omega arith
behind-row m n p (Marked at t wrong ∷ r) s u w e =
    let f = before-end m p at r s.0 u.0 s.1 w e in
    none-more m n p at (Marked at t wrong) r f
    (behind-row m n p r (let l = s.0 in spaced-weaker p (suc at) r (omega arith) s.1) u.1 w e)
behind-row m n p (Fault at cell why ∷ r) s u w e =
    let f = before-end m p at r s.0 u.0 s.1 w e in
    none-more m n p at (Fault at cell why) r f
    (behind-row m n p r (let l = s.0 in spaced-weaker p (suc at) r (omega arith) s.1) u.1 w e)
behind-row m n p (Unfinished at cells ∷ r) s u w e =
    let f = before-end m p at r s.0 u.0 s.1 w e in
    none-more m n p at (Unfinished at cells) r f
    (behind-row m n p r (let l = s.0 in spaced-weaker p (suc at) r (omega arith) s.1) u.1 w e)

-- of all reports, the first whole block of which stands at a place
before-first : (a at : ℕ) (r : List Report) → a < block_len → Spaced (suc at) r → InRow a r → (wholes r ≡ [] → ⊥)
    → full_count 0 at ≡ 0
before-first a at r l s w some = elim (row-first a r w) [
  | inl n ↦ absurd (some n)
  | inr f ↦ count-near 0 at (let y = spaced-all (suc at) r (Whole a f.0 f.1) s f.2 in omega arith)
]

first-row : (m a : ℕ) (r : List Report) → a < block_len → Spaced 0 r → UpTo m r → InRow a r
    → m < a + block_len * (length (wholes r) + 1) → (wholes r ≡ [] → ⊥) → NoneLost m 0 0 r
first-row m a [] l s u w e some = absurd (some refl)
first-row m a (Whole at t b ∷ r) l s u w e some =
    let h = behind-row m (0 + 1) (at + block_len) r s.1 u.1 w.1
    (subst (λ v. m < v + block_len + block_len * (length (wholes r) + 1)) (sym w.0)
    (one-less m a (length (wholes r)) e)) in
    let g = lost-append (gaps false 0 at) (reported (Whole at t b) ∷ account_from (0 + 1) (at + block_len) r) in
    let y = w.0 in
    let z = last-none 0 at (omega arith) in
    omega arith
first-row m a (Marked at t wrong ∷ r) l s u w e some =
    none-more m 0 0 at (Marked at t wrong) r (before-first a at r l s.1 w some)
    (first-row m a r l (spaced-weaker 0 (suc at) r (omega arith) s.1) u.1 w e some)
first-row m a (Fault at cell why ∷ r) l s u w e some =
    none-more m 0 0 at (Fault at cell why) r (before-first a at r l s.1 w some)
    (first-row m a r l (spaced-weaker 0 (suc at) r (omega arith) s.1) u.1 w e some)
first-row m a (Unfinished at cells ∷ r) l s u w e some =
    none-more m 0 0 at (Unfinished at cells) r (before-first a at r l s.1 w some)
    (first-row m a r l (spaced-weaker 0 (suc at) r (omega arith) s.1) u.1 w e some)

pub row-no-gap : (c : List Level) → LosesNothing c → 0 < length (blocks c) → length (filter is_lost (account c)) ≡ 0
unfolding account blocks
row-no-gap c n some =
    let r = reports c in
    let a = lost-append (account_from 0 0 r) (gaps false (reached_from 0 r) (length c)) in
    let h = first-row (length c) n.first r n.begins (spaced-reports c) (near-reports c) n.row n.ends
    (λ e. let z = ap length e in omega arith) in
    omega arith

pub piece-no-gap : (s : Level) (bs : List (List (List Bool))) (i j : ℕ) (c : List Level) → IsPiece s bs i j c
    → 0 < length (blocks c)
    → length (filter is_lost (account c)) ≡ 0
piece-no-gap s bs i j c p some = row-no-gap c (piece-row s bs i j c p) some
