-- Where a changed cell refutes a block, and what is told of one error.
use Rattle.std.proofs.Common.{◌≡◌, ◌≢◌, ℕ, zero, suc, ◌+◌, ◌-◌, ◌*◌, ◌/◌, ◌%◌, ◌<◌, ◌≤◌, ◌⊎◌, inl, inr, List, [], ◌∷◌}
use Rattle.std.proofs.Common.{Bool, true, false, cond, Some, refl, length, take, drop, ap, ◌∙◌, sym, subst, arith}
use Rattle.std.proofs.Common.{length-drop, true≢false, lt-ltb, le-ltb}
use Rattle.std.specs.List.{Contains}
use Rattle.std.proofs.lemmas.Bool.{cases_eq, cases_lt, cases_Bool, eq-eqb, ne_eqb}
use Rattle.aes3_level.specs.declared.level.Level.{Level}
use Rattle.aes3_level.specs.Cells.{other}
use Rattle.aes3_level.proofs.Runs.{other_ne}
use Rattle.aes3_slot.specs.declared.mark.Mark.TheVariants.{Z}
use Rattle.aes3_slot.specs.Rules.{at, before, shape, StandsMark, Kept}
use Rattle.aes3_slot.specs.Preambles.{entry}
use Rattle.aes3_slot.proofs.Beginnings.{stands-begins, stands-entry}
use Rattle.aes3_slot.proofs.OwnPreambles.{shape-first}
use Rattle.aes3_frame.specs.Blocks.{mark_at, block_len}
use Rattle.aes3_lock.specs.declared.report.Report.{Report}
use Rattle.aes3_lock.specs.declared.report.Report.TheVariants.{Fault}
use Rattle.aes3_lock.specs.Candidates.{keeps, front}
use Rattle.aes3_lock.specs.Damage.{changed}
use Rattle.aes3_lock.specs.DamageLaws.{LiesInBlock}
use Rattle.aes3_lock.specs.Outcomes.{Outcome, fault, outcome, why_of}
use Rattle.aes3_lock.specs.Pieces.{IsPiece, given_blocks}
use Rattle.aes3_lock.specs.Remains.{after_change, after_loss, place_of}
use Rattle.aes3_lock.specs.Reports.{blocks, outcome_at, report_of, reports}
use Rattle.aes3_lock.specs.Standing.{StandsClosed}
use Rattle.aes3_lock.proofs.Apart.{at-changed, at-others, length-changed, other-of}
use Rattle.aes3_lock.proofs.ChangeReports.{at-report, report-at}
use Rattle.aes3_lock.proofs.DamageLaws.{change-unreported}
use Rattle.aes3_lock.proofs.Distances.{other-same}
use Rattle.aes3_lock.proofs.Endings.{Ending, refuted, ended, unclosed, closed, ending}
use Rattle.aes3_lock.proofs.Ends.{outcome_at-some}
use Rattle.aes3_lock.proofs.Fronts.{front-is, front-unique, kept-from-keeps, keeps-from-kept}
use Rattle.aes3_lock.proofs.Lost.{blocks-lost}
use Rattle.aes3_lock.proofs.StandingBlocks.{block-stands, standing-room, standing-mark, standing-entry, standing-front}
use Rattle.aes3_lock.proofs.TwoChanges.{blocks-one-changed}
use Rattle.aes3_spoil.specs.declared.errors.Errors.{Errors}
use Rattle.aes3_spoil.specs.declared.kinds.ErrorKind.TheVariants.{Changed, Lost}
use Rattle.aes3_spoil.specs.ReportLaws.{IsTheReport, LiesBehindPreamble, is_determined, refuted_at}
use Rattle.aes3_spoil.specs.SpoilLaws.{IsOne}
use Rattle.aes3_spoil.specs.Spoiled.{spoiled}
use Rattle.aes3_spoil.proofs.Damaged.{changed-one, lost-one}

-- cells behind a place, and before it
pub drop-changed : (q k : ℕ) (c : List Level) → q ≤ k → drop q (changed k c) ≡ changed (k - q) (drop q c)
drop-changed zero k c l = let e : k ≡ k - 0 = omega arith in ap (λ n. changed n c) e
drop-changed (suc q) k [] l = refl
drop-changed (suc q) zero (x ∷ c) l = absurd (omega arith)
drop-changed (suc q) (suc k) (x ∷ c) l =
    let e : k - q ≡ suc k - suc q = omega arith in
    drop-changed q k c (omega arith) ∙ ap (λ n. changed n (drop q c)) e

take-changed : (n x : ℕ) (c : List Level) → n ≤ x → take n (changed x c) ≡ take n c
take-changed zero x c l = refl
take-changed (suc n) x [] l = refl
take-changed (suc n) zero (y ∷ c) l = absurd (omega arith)
take-changed (suc n) (suc x) (y ∷ c) l = ap (λ d. y ∷ d) (take-changed n x c (omega arith))

-- which cells are determined
determined : (x : ℕ) → is_determined x ≡ true → (x % 64 < 8) ⊎ (x % 2 ≡ 0)
determined x e = go (cases_lt (x % 64) 8) (cases_eq (x % 2) 0)
  where
    go : (x % 64 < 8) ⊎ (8 ≤ x % 64) → (x % 2 ≡ 0) ⊎ (x % 2 ≡ 0 → ⊥) → (x % 64 < 8) ⊎ (x % 2 ≡ 0)
    go (inl a) b = inl a
    go (inr a) (inl b) = inr b
    go (inr a) (inr b) =
        let t = le-ltb (x % 64) 8 a in
        let u = ne_eqb (x % 2) 0 b in
        let v : is_determined x ≡ false = rw (t, u) refl in
        absurd (true≢false (sym e ∙ v))

free : (x : ℕ) → is_determined x ≡ false → (8 ≤ x % 64) × (x % 2 ≡ 1)
free x e = go (cases_lt (x % 64) 8) (cases_eq (x % 2) 0)
  where
    go : (x % 64 < 8) ⊎ (8 ≤ x % 64) → (x % 2 ≡ 0) ⊎ (x % 2 ≡ 0 → ⊥) → (8 ≤ x % 64) × (x % 2 ≡ 1)
    go (inl a) b =
        let t = lt-ltb (x % 64) 8 a in
        let v : is_determined x ≡ true = rw t refl in
        absurd (true≢false (sym v ∙ e))
    go (inr a) (inl b) =
        let t = le-ltb (x % 64) 8 a in
        let u = eq-eqb (x % 2) 0 b in
        let v : is_determined x ≡ true = rw (t, u) refl in
        absurd (true≢false (sym v ∙ e))
    go (inr a) (inr b) = (a, omega arith)

-- block b stands closed after level s at the start of c, and cell x of it, behind its first preamble, is changed
module _ (b : List (List Bool)) (s : Level) (c : List Level) (h : StandsClosed b s c) (x : ℕ) (low : 8 ≤ x)
    (high : x < block_len) where
  room : block_len ≤ length c
  room = standing-room _ s c (block-stands b s c h)

  all-kept : (y : ℕ) → y < block_len → Kept mark_at s c y
  all-kept y l =
      let stands = block-stands b s c h in
      let f : front s c ≡ block_len =
      ap (λ t. front t c) (sym (standing-entry _ s c stands)) ∙ standing-front _ s c stands in
      kept-from-keeps s c y ((front-is s c).kept y (omega (arith, f, l)))

  other-cell : (y : ℕ) → (y ≡ x → ⊥) → at (changed x c) y ≡ at c y
  other-cell y n = at-others x c y n

  turned : at (changed x c) x ≡ other (at c x)
  turned = let r = room in at-changed x c (omega (arith, r, high))

  other-before : (y : ℕ) → (y ≡ suc x → ⊥) → before s (changed x c) y ≡ before s c y
  other-before zero n = refl
  other-before (suc y) n = other-cell y (λ e. n (ap suc e))

  -- the rule of the cells before it stays, and that of a cell that it does not tell
  kept-before : (y : ℕ) → y < x → Kept mark_at s (changed x c) y
  kept-before y l =
      let k = all-kept y (omega (arith, l, high)) in
      let a = other-cell y (λ e. omega (arith, l, e)) in
      let p = other-before y (λ e. omega (arith, l, e)) in
      let m = other-before (64 * (y / 64)) (λ e. omega (arith, l, e)) in
      record {
        preamble = λ u. a ∙ k.preamble u ∙ ap (shape (mark_at (y / 64)) (y % 64)) (sym m);
        slot = λ u v. a ∙ k.slot u v ∙ ap other (sym p);
      }

  broken : is_determined x ≡ true → Kept mark_at s (changed x c) x → ⊥
  broken e k = go (cases_lt (x % 64) 8) (determined x e)
    where
      clash : at (changed x c) x ≡ at c x → ⊥
      clash q = other_ne (at c x) (sym turned ∙ q)

      go : (x % 64 < 8) ⊎ (8 ≤ x % 64) → (x % 64 < 8) ⊎ (x % 2 ≡ 0) → ⊥
      go (inl a) u =
          let o = all-kept x high in
          clash (k.preamble a
          ∙ ap (shape (mark_at (x / 64)) (x % 64)) (other-before (64 * (x / 64)) (λ q. omega (arith, q)))
          ∙ sym (o.preamble a))
      go (inr a) (inl u) = absurd (omega (arith, a, u))
      go (inr a) (inr u) =
          let o = all-kept x high in
          clash (k.slot a u ∙ ap other (other-before x (λ q. omega (arith, q))) ∙ sym (o.slot a u))

  kept-free : is_determined x ≡ false → Kept mark_at s (changed x c) x
  kept-free e = let f = free x e in record {
    preamble = λ u. absurd (let g = f.0 in omega (arith, g, u));
    slot = λ u v. absurd (let g = f.1 in omega (arith, g, v));
  }

  broken-behind : is_determined x ≡ false → suc x < block_len → Kept mark_at s (changed x c) (suc x) → ⊥
  broken-behind e l k = go (cases_lt (suc x % 64) 8)
    where
      o : Kept mark_at s c (suc x)
      o = all-kept (suc x) l

      same : at (changed x c) (suc x) ≡ at c (suc x)
      same = other-cell (suc x) (λ q. omega (arith, q))

      clash : other (at (changed x c) x) ≡ other (at c x) → ⊥
      clash q = other_ne (at c x) (sym turned ∙ other-same _ _ q)

      go : (suc x % 64 < 8) ⊎ (8 ≤ suc x % 64) → ⊥
      go (inl a) =
          let f = (free x e).0 in
          let g = (free x e).1 in
          let z : suc x % 64 ≡ 0 = omega (arith, a, f, g) in
          let w : 64 * (suc x / 64) ≡ suc x = omega (arith, z) in
          let new : at (changed x c) (suc x) ≡ other (at (changed x c) x) =
          k.preamble a ∙ ap (λ n. shape (mark_at (suc x / 64)) n (before s (changed x c) (64 * (suc x / 64)))) z
          ∙ shape-first (mark_at (suc x / 64)) (before s (changed x c) (64 * (suc x / 64)))
          ∙ ap (λ n. other (before s (changed x c) n)) w in
          let old : at c (suc x) ≡ other (at c x) =
          o.preamble a ∙ ap (λ n. shape (mark_at (suc x / 64)) n (before s c (64 * (suc x / 64)))) z
          ∙ shape-first (mark_at (suc x / 64)) (before s c (64 * (suc x / 64)))
          ∙ ap (λ n. other (before s c n)) w in
          clash (sym new ∙ same ∙ old)
      go (inr a) =
          let g = (free x e).1 in
          let z : suc x % 2 ≡ 0 = omega (arith, g) in
          clash (sym (k.slot a z) ∙ same ∙ o.slot a z)

  -- a candidate is there still
  stands : StandsMark Z s (changed x c) 0
  stands =
      let old = standing-mark _ s c (block-stands b s c h) in
      record { is = take-changed 8 x c low ∙ old.is }

  begun : outcome_at (changed x c) ≡ Some (outcome (changed x c))
  begun = outcome_at-some (changed x c) (stands-begins Z s (changed x c) stands)

  entered : entry (changed x c) ≡ s
  entered = stands-entry Z s (changed x c) stands

  long : length (changed x c) ≡ length c
  long = length-changed x c

  -- the front is where the first rule is broken
  front-broken : (f : ℕ) → f < block_len → ((y : ℕ) → y < f → Kept mark_at s (changed x c) y)
      → (Kept mark_at s (changed x c) f → ⊥) → outcome (changed x c) ≡ fault f
  front-broken f l kept stop =
      let r = room in
      let n = long in
      let is : front s (changed x c) ≡ f =
      front-unique s (changed x c) (front s (changed x c)) f (front-is s (changed x c)) (record {
        within = omega (arith, l, r, n);
        kept = λ y o. keeps-from-kept s (changed x c) y (kept y o);
        stops = λ o. falls (cases_Bool (keeps s (changed x c) f));
      }) in
      go (ap (λ t. front t (changed x c)) entered ∙ is) (ending (changed x c))
    where
      falls : (keeps s (changed x c) f ≡ true) ⊎ (keeps s (changed x c) f ≡ false) → keeps s (changed x c) f ≡ false
      falls (inl e) = absurd (stop (kept-from-keeps s (changed x c) f e))
      falls (inr e) = e

      go : front (entry (changed x c)) (changed x c) ≡ f → Ending (changed x c) → outcome (changed x c) ≡ fault f
      go is (refuted a o z) = z ∙ ap fault is
      go is (ended a o z) = let r = room in let n = long in absurd (omega (arith, is, a, l, r, n))
      go is (unclosed a o u z) = absurd (omega (arith, is, a, l))
      go is (closed a u z) = absurd (omega (arith, is, a, l))

  -- the last cell of the block: the one behind does not close it
  front-unclosed : suc x ≡ block_len → block_len < length c → is_determined x ≡ false
      → outcome (changed x c) ≡ fault block_len
  front-unclosed e more un =
      let r = room in
      let n = long in
      let is : front s (changed x c) ≡ block_len =
      front-unique s (changed x c) (front s (changed x c)) block_len (front-is s (changed x c)) (record {
        within = omega (arith, r, n);
        kept = λ y o. keeps-from-kept s (changed x c) y (each y o (cases_eq y x));
        stops = λ o. absurd (omega arith);
      }) in
      go (ap (λ t. front t (changed x c)) entered ∙ is) (ending (changed x c))
    where
      each : (y : ℕ) → y < block_len → (y ≡ x) ⊎ (y ≡ x → ⊥) → Kept mark_at s (changed x c) y
      each y l (inl q) = subst (Kept mark_at s (changed x c)) (sym q) (kept-free un)
      each y l (inr q) = kept-before y (omega (arith, l, q, e))

      last : block_len - 1 ≡ x
      last = omega (arith, e)

      unturned : at (changed x c) block_len ≡ at (changed x c) (block_len - 1)
      unturned =
          other-cell block_len (λ q. omega (arith, q, e))
          ∙ sym (other-of (at c (block_len - 1)) (at c block_len) (λ q. h.closed.turns more (sym q)))
          ∙ ap (λ y. other (at c y)) last ∙ sym turned ∙ ap (at (changed x c)) (sym last)

      go : front (entry (changed x c)) (changed x c) ≡ block_len → Ending (changed x c)
          → outcome (changed x c) ≡ fault block_len
      go is (refuted a o z) = absurd (omega (arith, is, o))
      go is (ended a o z) = absurd (omega (arith, is, a, o))
      go is (unclosed a o u z) = z
      go is (closed a u z) = let n = long in absurd (u.turns (omega (arith, n, more)) unturned)

  pub refuted-outcome : refuted_at x < length c → outcome (changed x c) ≡ fault (refuted_at x)
  refuted-outcome there = go (is_determined x) refl there
    where
      go : (t : Bool) → is_determined x ≡ t → cond t x (suc x) < length c
          → outcome (changed x c) ≡ fault (cond t x (suc x))
      go true e l = front-broken x high kept-before (broken e)
      go false e l = by (cases_eq (suc x) block_len)
        where
          each : (y : ℕ) → y < suc x → (y ≡ x) ⊎ (y ≡ x → ⊥) → Kept mark_at s (changed x c) y
          each y o (inl q) = subst (Kept mark_at s (changed x c)) (sym q) (kept-free e)
          each y o (inr q) = kept-before y (omega (arith, o, q))

          by : (suc x ≡ block_len) ⊎ (suc x ≡ block_len → ⊥) → outcome (changed x c) ≡ fault (suc x)
          by (inl q) = front-unclosed q (subst (λ n. n < length c) q l) e ∙ ap fault (sym q)
          by (inr q) =
              let m : suc x < block_len = omega (arith, q, high) in
              front-broken (suc x) m (λ y o. each y o (cases_eq y x)) (broken-behind e m)

  pub refuted-begun : outcome_at (changed x c) ≡ Some (outcome (changed x c))
  refuted-begun = begun

-- the report of a place where a candidate has this outcome
pub only-report : (c : List Level) (q : ℕ) (o : Outcome) → outcome_at (drop q c) ≡ Some o
    → IsTheReport c q (report_of q o)
only-report c q o e =
    record {
      there = at-report c q o e;
      only = λ r m n.
          let t = report-at c q r m n in
          let y : Some t.0 ≡ Some o = sym t.1 ∙ e in
          let z : t.0 ≡ o = cc in
          t.2 ∙ ap (report_of q) z;
    }

pub fault-told : (errors : Errors) (k q : ℕ) (c : List Level) (b : List (List Bool)) (s : Level)
    → IsOne errors Changed k
    → StandsClosed b s (drop q c) → LiesBehindPreamble k q → q + refuted_at (k - q) < length c
    → IsTheReport (spoiled errors c) q (Fault q (q + refuted_at (k - q)) (why_of (refuted_at (k - q))))
fault-told errors k q c b s one stands lies there =
    let o = lies.behind in
    let w = lies.before in
    let e : drop q (changed k c) ≡ changed (k - q) (drop q c) = drop-changed q k c (omega (arith, o)) in
    let n = length-drop q c in
    let low : 8 ≤ k - q = omega (arith, o) in
    let high : k - q < block_len = omega (arith, o, w) in
    let is = refuted-outcome b s (drop q c) stands (k - q) low high (omega (arith, n, there)) in
    let begins = refuted-begun b s (drop q c) stands (k - q) low high in
    subst (λ (d : List Level). IsTheReport d q (Fault q (q + refuted_at (k - q)) (why_of (refuted_at (k - q)))))
    (sym (changed-one errors k c one))
    (only-report (changed k c) q (fault (refuted_at (k - q))) (ap outcome_at e ∙ begins ∙ ap Some is))

-- the laws of damage, of one error
pub preamble-untold : (errors : Errors) (s : Level) (bs : List (List (List Bool))) (i j : ℕ) (c : List Level)
    → IsPiece s bs i j c
    → (k q : ℕ) → IsOne errors Changed k → LiesInBlock k q i c → k < q + 8
    → (r : Report) → Contains (reports (spoiled errors c)) r → place_of r ≢ q
preamble-untold errors s bs i j c piece k q one lies early r there =
    change-unreported s bs i j c piece k q lies early r
    (subst (λ (d : List Level). Contains (reports d) r) (changed-one errors k c one) there)

pub changed-given : (errors : Errors) (s : Level) (bs : List (List (List Bool))) (i j : ℕ) (c : List Level)
    → IsPiece s bs i j c
    → (k : ℕ) → IsOne errors Changed k → k < length c
    → blocks (spoiled errors c) ≡ given_blocks (after_change (i + k)) bs i j
changed-given errors s bs i j c piece k one within =
    ap blocks (changed-one errors k c one) ∙ blocks-one-changed s bs i j c piece k within

pub lost-given : (errors : Errors) (s : Level) (bs : List (List (List Bool))) (i j : ℕ) (c : List Level)
    → IsPiece s bs i j c
    → (k : ℕ) → IsOne errors Lost k → k < length c
    → blocks (spoiled errors c) ≡ given_blocks (after_loss (i + k)) bs i j
lost-given errors s bs i j c piece k one within =
    ap blocks (lost-one errors k c one) ∙ blocks-lost s bs i j c piece k within
