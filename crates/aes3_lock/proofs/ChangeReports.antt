-- What is reported of a block of which one cell is changed.
use Rattle.std.proofs.Common.{◌≡◌, ℕ, zero, suc, ◌+◌, ◌-◌, ◌*◌, ◌/◌, ◌%◌, ◌<◌, ◌≤◌, ◌⊎◌, inl, inr, List, [], ◌∷◌, Bool}
use Rattle.std.proofs.Common.{true, false, cond, Option, Some, None, refl, length, take, drop, ap, ◌∙◌, sym, subst}
use Rattle.std.proofs.Common.{arith, length-drop, get_or-drop, drop-drop, drop_at, le-leb, lit<, true≢false}
use Rattle.std.specs.List.{Contains}
use Rattle.std.proofs.lemmas.Bool.{cases_eq, cases_lt, cases_Bool}
use Rattle.std.proofs.lemmas.List.{get_or_append_left}
use Rattle.std.proofs.lemmas.List.Elements.{Contains-append_right, Contains-append_cases}
use Rattle.aes3_level.specs.declared.level.Level.{Level}
use Rattle.aes3_level.specs.declared.level.Level.TheVariants.{Low}
use Rattle.aes3_level.specs.Cells.{other}
use Rattle.aes3_level.proofs.Runs.{other_ne}
use Rattle.aes3_slot.specs.declared.mark.Mark.{Mark}
use Rattle.aes3_slot.specs.declared.mark.Mark.TheVariants.{Z}
use Rattle.aes3_slot.specs.Rules.{at, before, shape, StandsMark, Kept}
use Rattle.aes3_slot.specs.Preambles.{entry}
use Rattle.aes3_slot.proofs.Beginnings.{begins-stands, begins-short, stands-begins, stands-entry}
use Rattle.aes3_slot.proofs.Distance.{stands-from, own-cell}
use Rattle.aes3_slot.proofs.OwnPreambles.{stands-at}
use Rattle.aes3_frame.specs.Blocks.{mark_at, block_len, block_cells, stream, IsBlock}
use Rattle.aes3_frame.proofs.FileLaws.{EachBlock}
use Rattle.aes3_frame.proofs.CellLaws.{length-block_cells, stream-cons, block_len_24576}
use Rattle.aes3_lock.specs.declared.report.Report.{Report}
use Rattle.aes3_lock.specs.Candidates.{begins_block, keeps, front}
use Rattle.aes3_lock.specs.Damage.{changed}
use Rattle.aes3_lock.specs.Remains.{place_of, covers}
use Rattle.aes3_lock.specs.Outcomes.{Outcome, whole, marked, fault, unfinished, outcome}
use Rattle.aes3_lock.specs.Reports.{told, report_of, outcome_at, reports_from, reports}
use Rattle.aes3_lock.specs.Standing.{StandsClosed}
use Rattle.aes3_lock.proofs.Apart.{length-changed, at-changed, at-others}
use Rattle.aes3_lock.proofs.Distances.{block-kept, other-same}
use Rattle.aes3_lock.proofs.Endings.{Ending, refuted, ended, unclosed, closed, ending}
use Rattle.aes3_lock.proofs.Ends.{outcome_at-none, outcome_at-some}
use Rattle.aes3_lock.proofs.Damaged.{line-cell}
use Rattle.aes3_lock.proofs.TwoChanges.{change-own}
use Rattle.aes3_lock.proofs.Fronts.{front-is, keeps-from-kept}
use Rattle.aes3_lock.proofs.LawfulPieces.{stream-length}
use Rattle.aes3_lock.proofs.PlaceBlocks.{block_here, here-some, whole-len}
use Rattle.aes3_lock.proofs.PieceBounds.{length-piece, both-true}
use Rattle.aes3_lock.proofs.ReportPlaces.{place-report}
use Rattle.aes3_lock.proofs.StandingBlocks.{first-mark, whole-standing}

-- each report is that of the candidate at its place, and each candidate's report is there
outcome_at-nil : (o : Outcome) → outcome_at [] ≡ Some o → ⊥
outcome_at-nil o e = let n = outcome_at-none [] (begins-short Z [] (lit< tt)) in let q : None ≡ Some o = sym n ∙ e in cc

pub reports-each : (p : ℕ) (c : List Level) (r : Report) → Contains (reports_from p c) r
    → (k : ℕ) × (o : Outcome) × (outcome_at (drop k c) ≡ Some o) × (r ≡ report_of (p + k) o)
reports-each p [] r h = absurd (let l = h.1 in omega arith)
reports-each p (x ∷ c) r h =
    go (outcome_at (x ∷ c)) refl (λ m. reports-each (suc p) c r m)
    (Contains-append_cases (told p (outcome_at (x ∷ c))) (reports_from (suc p) c) r h)
  where
    go : (o : Option Outcome) → outcome_at (x ∷ c) ≡ o
        → (Contains (reports_from (suc p) c) r → (k : ℕ) × (o : Outcome) × (outcome_at (drop k c) ≡ Some o)
        × (r ≡ report_of (suc p + k) o))
        → Contains (told p o) r ⊎ Contains (reports_from (suc p) c) r
        → (k : ℕ) × (o : Outcome) × (outcome_at (drop k (x ∷ c)) ≡ Some o) × (r ≡ report_of (p + k) o)
    go None e more (inl a) = absurd (let l = a.1 in omega arith)
    go (Some o) e more (inl (zero, l, q)) = let z : p ≡ p + 0 = omega arith in
        (0, o, e, sym q ∙ ap (λ n. report_of n o) z)
    go (Some o) e more (inl (suc n, l, q)) = absurd (omega arith)
    go o e more (inr a) = let t = more a in let z : suc p + t.0 ≡ p + suc t.0 = omega arith in
        (suc t.0, t.1, t.2, t.3 ∙ ap (λ n. report_of n t.1) z)

pub reports-all : (p : ℕ) (c : List Level) (k : ℕ) (o : Outcome) → outcome_at (drop k c) ≡ Some o
    → Contains (reports_from p c) (report_of (p + k) o)
reports-all p [] zero o e = absurd (outcome_at-nil o e)
reports-all p [] (suc k) o e = absurd (outcome_at-nil o e)
reports-all p (x ∷ c) zero o e =
    let z : p + 0 ≡ p = omega arith in
    rw (z, e) (0, omega arith, refl)
reports-all p (x ∷ c) (suc k) o e =
    let z : suc p + k ≡ p + suc k = omega arith in
    subst (λ n. Contains (reports_from p (x ∷ c)) (report_of n o)) z
    (Contains-append_right (told p (outcome_at (x ∷ c))) (reports_from (suc p) c) (report_of (suc p + k) o)
    (reports-all (suc p) c k o e))

-- the report at a place, where a candidate begins there
pub report-at : (c : List Level) (q : ℕ) (r : Report) → Contains (reports c) r → place_of r ≡ q
    → (o : Outcome) × (outcome_at (drop q c) ≡ Some o) × (r ≡ report_of q o)
unfolding reports
report-at c q r h e =
    let t = reports-each 0 c r h in
    let z : 0 + t.0 ≡ t.0 = omega arith in
    let y : t.0 ≡ q = sym z ∙ sym (place-report (0 + t.0) t.1) ∙ ap place_of (sym t.3) ∙ e in
    (t.1, ap (λ k. outcome_at (drop k c)) (sym y) ∙ t.2, t.3 ∙ ap (λ n. report_of n t.1) (z ∙ y))

pub at-report : (c : List Level) (q : ℕ) (o : Outcome) → outcome_at (drop q c) ≡ Some o
    → Contains (reports c) (report_of q o)
unfolding reports
at-report c q o e = let z : 0 + q ≡ q = omega arith in
    subst (λ n. Contains (reports_from 0 c) (report_of n o)) z (reports-all 0 c q o e)

-- the block of the stream that begins at a place
pub block-at : (s : Level) (n : ℕ) (bs : List (List (List Bool))) → EachBlock bs → n < length bs
    → (b : List (List Bool)) × (more : List (List (List Bool))) × EachBlock (b ∷ more)
    × (drop (n * block_len) (stream s bs) ≡ stream s (b ∷ more))
block-at s n [] h l = absurd (omega arith)
block-at s zero (b ∷ bs) h l = let e : 0 * block_len ≡ 0 = omega arith in
    (b, bs, h, ap (λ k. drop k (stream s (b ∷ bs))) e)
block-at s (suc n) (b ∷ bs) h l =
    let r = block-at s n bs h.1 (omega arith) in
    let e : suc n * block_len ≡ block_len + n * block_len = omega arith in (
      r.0,
      r.1,
      r.2,
      ap (λ k. drop k (stream s (b ∷ bs))) e ∙ sym (drop-drop (n * block_len) block_len (stream s (b ∷ bs)))
          ∙ ap (drop (n * block_len)) (ap (drop block_len) (stream-cons s b bs h.0)
          ∙ drop_at (block_cells s b) (stream s bs) block_len (length-block_cells s b h.0)) ∙ r.3,
    )

-- the rule speaks of no cell behind
kept-same : (marks : ℕ → Mark) (s : Level) (c d : List Level) (x : ℕ) → ((y : ℕ) → y ≤ x → at c y ≡ at d y)
    → Kept marks s c x → Kept marks s d x
kept-same marks s c d x h k =
    let a = h x (omega arith) in
    let b = behind x (omega arith) in
    let e = behind (64 * (x / 64)) (omega arith) in
    record {
      preamble = λ p. sym a ∙ k.preamble p ∙ ap (shape (marks (x / 64)) (x % 64)) e;
      slot = λ p q. sym a ∙ k.slot p q ∙ ap other b;
    }
  where
    behind : (y : ℕ) → y ≤ x → before s c y ≡ before s d y
    behind zero l = refl
    behind (suc y) l = h y (omega arith)

-- the fault of cells that keep the rule so far isn't before the cells behind them
fault-behind : (s : Level) (c : List Level) (m f : ℕ) → entry c ≡ s → m ≤ block_len → m ≤ length c
    → ((x : ℕ) → x < m → keeps s c x ≡ true)
    → outcome c ≡ fault f → m ≤ f
fault-behind s c m f e l o k q = go (ending c)
  where
    reach : m ≤ front (entry c) c
    reach = by (cases_lt (front s c) m)
      where
        by : (front s c < m) ⊎ (m ≤ front s c) → m ≤ front (entry c) c
        by (inl a) = absurd (true≢false (sym (k (front s c) a) ∙ (front-is s c).stops (omega arith)))
        by (inr a) = let z = ap (λ t. front t c) e in omega arith

    neither : (b : Bool) (n : ℕ) (t : Level) (d : List (List Bool)) → cond b (whole t d) (marked t n) ≡ fault f → ⊥
    neither true n t d z = cc
    neither false n t d z = cc

    go : Ending c → m ≤ f
    go (refuted a b z) = let y : fault (front (entry c) c) ≡ fault f = sym z ∙ q in
        let v : front (entry c) c ≡ f = cc in let r = reach in omega arith
    go (ended a b z) = let y : unfinished (length c) ≡ fault f = sym z ∙ q in cc
    go (unclosed a b d z) = let y : fault block_len ≡ fault f = sym z ∙ q in let v : block_len ≡ f = cc in omega arith
    go (closed a d z) = absurd (neither _ _ _ _ (sym z ∙ q))

enough-finished : (c : List Level) (n : ℕ) → block_len ≤ length c → outcome c ≡ unfinished n → ⊥
enough-finished c n l q = go (ending c)
  where
    neither : (b : Bool) (m : ℕ) (t : Level) (d : List (List Bool)) → cond b (whole t d) (marked t m) ≡ unfinished n → ⊥
    neither true m t d z = cc
    neither false m t d z = cc

    go : Ending c → ⊥
    go (refuted a b z) = let y : fault (front (entry c) c) ≡ unfinished n = sym z ∙ q in cc
    go (ended a b z) = omega arith
    go (unclosed a b d z) = let y : fault block_len ≡ unfinished n = sym z ∙ q in cc
    go (closed a d z) = neither _ _ _ _ (sym z ∙ q)

module _ (s : Level) (bs : List (List (List Bool))) (h : EachBlock bs) (i j : ℕ) (order : i ≤ j)
    (within : j ≤ length (stream s bs))
    (k : ℕ) (inside : k < j - i) (q : ℕ) (start : (i + q) % 24576 ≡ 0) (room : q + block_len ≤ j - i) (low : q ≤ k)
    (high : k < q + block_len) where
  abbrev piece : List Level
  piece = take (j - i) (drop i (stream s bs))

  abbrev damaged : List Level
  damaged = drop q (changed k (take (j - i) (drop i (stream s bs))))

  own : (b : List (List Bool)) × (more : List (List (List Bool))) × EachBlock (b ∷ more)
      × (drop (i + q) (stream s bs) ≡ stream s (b ∷ more))
  own =
      let m = block_len_24576 in
      let n = stream-length s bs h ∙ whole-len (length bs) in
      let e : (i + q) / 24576 * block_len ≡ i + q = ap (λ n. (i + q) / 24576 * n) block_len_24576 ∙ omega arith in
      let f : length bs * block_len ≡ length bs * 24576 = ap (λ n. length bs * n) block_len_24576 in
      let r = room in
      let w = within in
      let z = block-at s ((i + q) / 24576) bs h (omega arith) in
      (z.0, z.1, z.2, ap (λ k. drop k (stream s bs)) (sym e) ∙ z.3)

  block : List (List Bool)
  block = own.0

  is-block : IsBlock own.0
  is-block = own.2.0

  -- the cells as they were, but for the one
  cell : (x : ℕ) → x < block_len → (q + x ≡ k → ⊥) → at damaged x ≡ at (block_cells s own.0) x
  cell x l n =
      let r = room in
      let a : q + x ≡ i + q - i + x = omega arith in
      get_or-drop q (changed k piece) x Low ∙ at-others k piece (q + x) n ∙ ap (at piece) a
      ∙ line-cell s bs (own.0 ∷ own.1) i j (i + q) x (omega arith) (omega arith) own.3
      ∙ ap (λ c. at c x) (stream-cons s own.0 own.1 is-block)
      ∙ get_or_append_left (block_cells s own.0) (stream s own.1) Low x (let n = length-block_cells s own.0 is-block in
      omega arith)

  turned : at damaged (k - q) ≡ other (at (block_cells s own.0) (k - q))
  turned =
      let r = room in
      let o = low in
      let w = high in
      let v = inside in
      let a : q + (k - q) ≡ k = omega arith in
      let b : k ≡ i + q - i + (k - q) = omega arith in
      let n = length-piece i j (stream s bs) order within in
      get_or-drop q (changed k piece) (k - q) Low ∙ ap (at (changed k piece)) a ∙ at-changed k piece (omega arith)
      ∙ ap other (ap (at piece) b
      ∙ line-cell s bs (own.0 ∷ own.1) i j (i + q) (k - q) (omega arith) (omega arith) own.3
      ∙ ap (λ c. at c (k - q)) (stream-cons s own.0 own.1 is-block)
      ∙ get_or_append_left (block_cells s own.0) (stream s own.1) Low (k - q)
      (let n = length-block_cells s own.0 is-block in omega arith))

  enough : block_len ≤ length damaged
  enough =
      let r = room in
      let n = length-piece i j (stream s bs) order within in
      let m = length-changed k piece in
      let a = length-drop q (changed k piece) in
      omega arith

  mark-cell : (x : ℕ) → x < 8 → at (block_cells s own.0) x ≡ shape Z x s
  mark-cell x l =
      let m = block_len_24576 in
      let n = length-block_cells s own.0 is-block in
      let e : 64 * 0 + x ≡ x = omega arith in
      ap (at (block_cells s own.0)) (sym e)
      ∙ own-cell mark_at s (block_cells s own.0) (block-kept s own.0 is-block) 0 x (omega arith) l
      ∙ ap (λ m. shape m x s) first-mark

  none : (f : List (List Bool)) (t : Level) → StandsClosed f t damaged → ⊥
  none f t z =
      let r = room in
      let o = low in
      let w = high in
      let a : i + q - i ≡ q = omega arith in
      let x = change-own s bs h i j order within k inside (i + q) own.0 own.1 (omega arith) (omega arith) own.2 own.3 in
      let y = both-true (i + q) (i + k) (i + k) (i + q + block_len) [] (own.0 ∷ []) (omega arith) (omega arith) in
      let v : f ∷ [] ≡ [] = sym (here-some 0 f t damaged z)
      ∙ ap (λ n. block_here 0 (drop n (changed k piece))) (sym a) ∙ x ∙ y in
      cc

  -- behind the preamble of the block: a fault no earlier than the cell, or marked
  module _ (behind : q + 8 ≤ k) where
    stands : StandsMark Z s damaged 0
    stands =
        let m = block_len_24576 in
        let e = enough in
        let o = behind in
        stands-from Z s damaged 0 (omega arith)
        (λ x l. let z : 0 + x ≡ x = omega arith in ap (at damaged) z ∙ cell x (omega arith) (λ n. omega arith)
        ∙ mark-cell x l)

    keeps-so-far : (x : ℕ) → x < k - q → keeps s damaged x ≡ true
    keeps-so-far x l =
        let n = length-block_cells s own.0 is-block in
        let w = high in
        let o = low in
        keeps-from-kept s damaged x
        (kept-same mark_at s (block_cells s own.0) damaged x (λ y u. sym (cell y (omega arith) (λ v. omega arith)))
        (block-kept s own.0 is-block x (omega arith)))

    told-at : (o : Outcome) → outcome damaged ≡ o → covers k (report_of q o) ≡ true
    told-at (whole t f) e = absurd (none f t (whole-standing f t damaged e))
    told-at (marked t n) e = refl
    told-at (fault f) e =
        let w = high in
        let o = low in
        let a = fault-behind s damaged (k - q) f (stands-entry Z s damaged stands) (omega arith) (let n = enough in
        omega arith) keeps-so-far e in
        le-leb k (q + f) (omega arith)
    told-at (unfinished n) e = absurd (enough-finished damaged n enough e)

    pub change-outcome : outcome_at damaged ≡ Some (outcome damaged)
    change-outcome = outcome_at-some damaged (stands-begins Z s damaged stands)

    pub change-covered : covers k (report_of q (outcome damaged)) ≡ true
    change-covered = told-at (outcome damaged) refl

  -- in the preamble: no candidate
  module _ (early : k < q + 8) where
    no-mark : (t : Level) → StandsMark Z t damaged 0 → ⊥
    no-mark t z = go (cases_eq (k - q) 0)
      where
        seen : (x : ℕ) → x < 8 → at damaged x ≡ shape Z x t
        seen x l = let e : 0 + x ≡ x = omega arith in ap (at damaged) (sym e) ∙ stands-at Z t damaged 0 x l z

        level : (x : ℕ) → x < 2 → (q + x ≡ k → ⊥) → t ≡ s
        level zero l n = let m = block_len_24576 in
            other-same t s (sym (seen 0 (lit< tt)) ∙ cell 0 (omega arith) n ∙ mark-cell 0 (lit< tt))
        level (suc zero) l n = let m = block_len_24576 in
            other-same t s (sym (seen 1 (lit< tt)) ∙ cell 1 (omega arith) n ∙ mark-cell 1 (lit< tt))
        level (suc (suc x)) l n = absurd (omega arith)

        clash : t ≡ s → ⊥
        clash e =
            let o = low in
            let w = early in
            other_ne (shape Z (k - q) s)
            (ap other (sym (mark-cell (k - q) (omega arith))) ∙ sym turned ∙ seen (k - q) (omega arith)
            ∙ ap (shape Z (k - q)) e)

        go : (k - q ≡ 0) ⊎ (k - q ≡ 0 → ⊥) → ⊥
        go (inl e) = clash (level 1 (lit< tt) (λ n. omega arith))
        go (inr n) = clash (level 0 (lit< tt) (λ e. n (omega arith)))

    pub change-none : outcome_at damaged ≡ None
    change-none = go (cases_Bool (begins_block damaged))
      where
        go : (begins_block damaged ≡ true) ⊎ (begins_block damaged ≡ false) → outcome_at damaged ≡ None
        go (inl e) = absurd (no-mark (entry damaged) (begins-stands Z damaged e))
        go (inr e) = outcome_at-none damaged e
