-- The laws of changed and lost cells, from what their lemmas say of a stream.
use Rattle.std.proofs.Common.{◌≡◌, ◌≢◌, ℕ, suc, ◌+◌, ◌-◌, ◌%◌, ◌<◌, ◌≤◌, ◌⊎◌, inl, inr, List, Bool, true, length, take}
use Rattle.std.proofs.Common.{drop, ap, ◌∙◌, sym, subst, arith, length-drop, length-take, take-take, get_or-take}
use Rattle.std.specs.Prelude.{None, Some}
use Rattle.std.specs.List.{Contains}
use Rattle.std.proofs.lemmas.Bool.{cases_eq}
use Rattle.aes3_level.specs.declared.level.Level.{Level}
use Rattle.aes3_level.specs.declared.level.Level.TheVariants.{Low}
use Rattle.aes3_slot.specs.Rules.{at}
use Rattle.aes3_frame.specs.Blocks.{block_len, block_cells, stream, IsBlock}
use Rattle.aes3_frame.proofs.FileLaws.{each-block}
use Rattle.aes3_frame.proofs.CellLaws.{length-block_cells, block_len_24576}
use Rattle.aes3_lock.specs.declared.report.Report.{Report}
use Rattle.aes3_lock.specs.Damage.{changed, apart, between_slots, exchanged}
use Rattle.aes3_lock.specs.Remains.{place_of, covers}
use Rattle.aes3_lock.specs.DamageLaws.{LiesInBlock, IsReported}
use Rattle.aes3_lock.specs.DistanceLaws.{IsExchanged}
use Rattle.aes3_lock.specs.Outcomes.{outcome}
use Rattle.aes3_lock.specs.Pieces.{IsPiece}
use Rattle.aes3_lock.specs.Reports.{report_of, outcome_at, reports}
use Rattle.aes3_lock.specs.Standing.{StandsClosed}
use Rattle.aes3_lock.proofs.AllStanding.{closed-room}
use Rattle.aes3_lock.proofs.Apart.{apart-self}
use Rattle.aes3_lock.proofs.Damaged.{piece-window, near}
use Rattle.aes3_lock.proofs.Distances.{off-subframes, off-blocks, off-frames, off-level}
use Rattle.aes3_lock.proofs.Exchanged.{between-true, true-between, exchanged-block, exchanged-cells}
use Rattle.aes3_lock.proofs.ChangeReports.{report-at, at-report, change-outcome, change-covered}
use Rattle.aes3_lock.proofs.ReportPlaces.{place-report}
use Rattle.aes3_lock.proofs.ChangeReports.{change-none}
use Rattle.aes3_lock.proofs.OwnPlace.{pair-two, blocks-pair, pair-exchanged, equal-blocks}
use Rattle.aes3_lock.proofs.PieceBounds.{length-piece}
use Rattle.aes3_slot.proofs.Distance.{equal-or}

pub length-of : (s : Level) (bs : List (List (List Bool))) (i j : ℕ) (c : List Level) → IsPiece s bs i j c
    → length c ≡ j - i
length-of s bs i j c p = ap length p.is ∙ length-piece i j (stream s bs) p.order p.within

window-of : (s : Level) (bs : List (List (List Bool))) (i j : ℕ) (c : List Level) → IsPiece s bs i j c → (q : ℕ)
    → q + block_len ≤ length c
    → take block_len (drop q c) ≡ take block_len (drop (i + q) (stream s bs))
window-of s bs i j c p q l =
    let n = length-of s bs i j c p in
    ap (λ x. take block_len (drop q x)) p.is ∙ piece-window i j q block_len (stream s bs) (omega arith)

by-24576 : (n : ℕ) → n % block_len ≡ n % 24576
by-24576 n = ap (λ k. n % k) block_len_24576

-- distances
pub far-frames : (s : Level) (bs : List (List (List Bool))) (i j : ℕ) (c : List Level) → IsPiece s bs i j c → (q : ℕ)
    → q + block_len ≤ length c
    → (i + q) % 128 ≢ 0 → (t : Level) (d : List (List Bool)) → IsBlock d
    → 384 ≤ apart (take block_len (drop q c)) (block_cells t d)
far-frames s bs i j c p q l o t d g =
    let n = length-of s bs i j c p in
    let w = p.within in
    let a = off-frames s bs (each-block bs p.blocks) t d g (i + q) (omega arith) o in
    let e = ap (λ x. apart x (block_cells t d)) (window-of s bs i j c p q l) in
    omega arith

pub far-level : (s : Level) (bs : List (List (List Bool))) (i j : ℕ) (c : List Level) → IsPiece s bs i j c → (q : ℕ)
    → q + block_len ≤ length c
    → (t : Level) (d : List (List Bool)) → IsBlock d → t ≢ s → 384 ≤ apart (take block_len (drop q c)) (block_cells t d)
far-level s bs i j c p q l t d g o =
    let n = length-of s bs i j c p in
    let w = p.within in
    let a = off-level s bs (each-block bs p.blocks) t d g (i + q) (omega arith) o in
    let e = ap (λ x. apart x (block_cells t d)) (window-of s bs i j c p q l) in
    omega arith

pub far-blocks : (s : Level) (bs : List (List (List Bool))) (i j : ℕ) (c : List Level) → IsPiece s bs i j c → (q : ℕ)
    → q + block_len ≤ length c
    → (i + q) % block_len ≢ 0 → (t : Level) (d : List (List Bool)) → IsBlock d
    → 4 ≤ apart (take block_len (drop q c)) (block_cells t d)
far-blocks s bs i j c p q l o t d g = go (cases_eq ((i + q) % 64) 0)
  where
    go : ((i + q) % 64 ≡ 0) ⊎ ((i + q) % 64 ≡ 0 → ⊥) → 4 ≤ apart (take block_len (drop q c)) (block_cells t d)
    go (inr n) = let a = far-frames s bs i j c p q l (λ e. n (omega arith)) t d g in omega arith
    go (inl m) =
        let n = length-of s bs i j c p in
        let w = p.within in
        let k : 0 < (i + q) % 24576 = by (cases_eq ((i + q) % 24576) 0) in
        let a = off-blocks s bs (each-block bs p.blocks) t d g (i + q) (omega arith) m k in
        let e = ap (λ x. apart x (block_cells t d)) (window-of s bs i j c p q l) in
        omega arith
      where
        by : ((i + q) % 24576 ≡ 0) ⊎ ((i + q) % 24576 ≡ 0 → ⊥) → 0 < (i + q) % 24576
        by (inl e) = absurd (o (by-24576 (i + q) ∙ e))
        by (inr e) = omega arith

pub blocks-apart : (s : Level) (b d : List (List Bool)) → IsBlock b → IsBlock d → b ≢ d
    → 2 ≤ apart (block_cells s b) (block_cells s d)
blocks-apart s b d h g n =
    pair-two (block_cells s b) (block_cells s d) (length-block_cells s b h ∙ sym (length-block_cells s d g))
    (blocks-pair s b d h g n)

pub nearest : (s : Level) (b d : List (List Bool)) → IsBlock b → IsBlock d
    → apart (block_cells s b) (block_cells s d) ≡ 2 → IsExchanged b d
nearest s b d h g e = go (equal-blocks b d)
  where
    go : (b ≡ d) ⊎ (b ≡ d → ⊥) → IsExchanged b d
    go (inl q) = let a = apart-self (block_cells s b) in
        let z = ap (λ d. apart (block_cells s b) (block_cells s d)) q in absurd (omega arith)
    go (inr n) =
        let r = blocks-pair s b d h g n in
        let w = r.within in
        let l = length-block_cells s b h in
        record {
          cell = r.place;
          within = omega arith;
          between = between-true r.place r.between;
          is = pair-exchanged s b d h g (omega arith) r;
        }

pub exchanged-is : (s : Level) (b : List (List Bool)) (x : ℕ) → IsBlock b → suc x < block_len → between_slots x ≡ true
    → IsBlock (exchanged x b) × (block_cells s (exchanged x b) ≡ changed (suc x) (changed x (block_cells s b)))
exchanged-is s b x h l t = (exchanged-block x b h, exchanged-cells s x b h (omega arith) (true-between x t))

-- few changes
module _ (s : Level) (bs : List (List (List Bool))) (i j : ℕ) (c e : List Level) (p : IsPiece s bs i j c)
    (same : length e ≡ length c)
    (q : ℕ) (d : List (List Bool)) (t : Level) (z : StandsClosed d t (drop q e)) where
  room : i + q + block_len ≤ j
  room =
      let n = length-of s bs i j c p in
      let m = same in
      let l = length-drop q e in
      let r = closed-room d t (drop q e) z in
      let k = block_len_24576 in
      omega arith

  closest : (n : ℕ) → apart c e ≤ n → apart (take block_len (drop (i + q) (stream s bs))) (block_cells t d) ≤ n
  closest n a =
      let o = length-of s bs i j c p in
      let f : i + q - i ≡ q = omega arith in
      near s bs (each-block bs p.blocks) i j p.order p.within e (same ∙ o) n (i + q) d t
      (subst (λ x. apart x e ≤ n) p.is a) (omega arith) room (subst (λ k. StandsClosed d t (drop k e)) (sym f) z)

  pub few-blocks : apart c e ≤ 3 → (i + q) % block_len ≡ 0
  few-blocks a = by-24576 (i + q) ∙ go (cases_eq ((i + q) % 64) 0) (cases_eq ((i + q) % 24576) 0)
    where
      go : ((i + q) % 64 ≡ 0) ⊎ ((i + q) % 64 ≡ 0 → ⊥) → ((i + q) % 24576 ≡ 0) ⊎ ((i + q) % 24576 ≡ 0 → ⊥)
          → (i + q) % 24576 ≡ 0
      go x (inl m) = m
      go (inr m) (inr n) =
          let r = room in
          let w = p.within in
          let k = off-subframes s bs (each-block bs p.blocks) t d z.block (i + q) (omega arith) m in
          let l = closest 3 a in
          absurd (omega arith)
      go (inl m) (inr n) =
          let r = room in
          let w = p.within in
          let k = off-blocks s bs (each-block bs p.blocks) t d z.block (i + q) (omega arith) m (omega arith) in
          let l = closest 3 a in
          absurd (omega arith)

  pub few-frames : apart c e ≤ 383 → ((i + q) % 128 ≡ 0) × (t ≡ s)
  few-frames a = (place (cases_eq ((i + q) % 128) 0), level (equal-or t s))
    where
      place : ((i + q) % 128 ≡ 0) ⊎ ((i + q) % 128 ≡ 0 → ⊥) → (i + q) % 128 ≡ 0
      place (inl m) = m
      place (inr m) =
          let r = room in
          let w = p.within in
          let k = off-frames s bs (each-block bs p.blocks) t d z.block (i + q) (omega arith) m in
          let l = closest 383 a in
          absurd (omega arith)

      level : (t ≡ s) ⊎ (t ≡ s → ⊥) → t ≡ s
      level (inl m) = m
      level (inr m) =
          let r = room in
          let w = p.within in
          let k = off-level s bs (each-block bs p.blocks) t d z.block (i + q) (omega arith) m in
          let l = closest 383 a in
          absurd (omega arith)

-- the report of a block of which one cell is changed
module _ (s : Level) (bs : List (List (List Bool))) (i j : ℕ) (c : List Level) (p : IsPiece s bs i j c) (k q : ℕ)
    (l : LiesInBlock k q i c) where
  inside : k < j - i
  inside = let n = length-of s bs i j c p in let a = l.whole in let b = l.before in omega arith

  place : (i + q) % 24576 ≡ 0
  place = sym (by-24576 (i + q)) ∙ l.start

  whole : q + block_len ≤ j - i
  whole = let n = length-of s bs i j c p in let a = l.whole in omega arith

  pub change-reported : q + 8 ≤ k → IsReported k q (changed k c)
  change-reported o =
      let d = drop q (changed k (take (j - i) (drop i (stream s bs)))) in
      let e : drop q (changed k c) ≡ drop q (changed k (take (j - i) (drop i (stream s bs)))) =
      ap (λ x. drop q (changed k x)) p.is in
      let f : outcome_at (drop q (changed k c)) ≡ Some (outcome (drop q (changed k c))) =
      subst (λ x. outcome_at x ≡ Some (outcome x)) (sym e)
      (change-outcome s bs (each-block bs p.blocks) i j p.order p.within k inside q place whole l.behind l.before o) in
      let v : covers k (report_of q (outcome (drop q (changed k c)))) ≡ true =
      subst (λ x. covers k (report_of q (outcome x)) ≡ true) (sym e)
      (change-covered s bs (each-block bs p.blocks) i j p.order p.within k inside q place whole l.behind l.before o) in
      record {
        report = report_of q (outcome (drop q (changed k c)));
        there = at-report (changed k c) q (outcome (drop q (changed k c))) f;
        place = place-report q (outcome (drop q (changed k c)));
        each = λ r m n.
            let t = report-at (changed k c) q r m n in
            let y : Some t.0 ≡ Some (outcome (drop q (changed k c))) = sym t.1 ∙ f in
            let z : t.0 ≡ outcome (drop q (changed k c)) = cc in
            ap (covers k) (t.2 ∙ ap (report_of q) z) ∙ v;
      }

  pub change-unreported : k < q + 8 → (r : Report) → Contains (reports (changed k c)) r → place_of r ≢ q
  change-unreported o r m n =
      let t = report-at (changed k c) q r m n in
      let y : None ≡ Some t.0 =
      sym (change-none s bs (each-block bs p.blocks) i j p.order p.within k inside q place whole l.behind l.before o)
      ∙ ap (λ x. outcome_at (drop q (changed k x))) (sym p.is) ∙ t.1 in
      cc

-- whether a block stands closed is told by its cells and the next one
pub stands-local : (b : List (List Bool)) (s : Level) (c d : List Level)
    → take (suc block_len) c ≡ take (suc block_len) d → StandsClosed b s c
    → StandsClosed b s d
stands-local b s c d e h =
    record {
      block = h.block;
      cells = sym (take-take block_len (suc block_len) d (omega arith)) ∙ ap (take block_len) (sym e)
          ∙ take-take block_len (suc block_len) c (omega arith) ∙ h.cells;
      closed = record {
        turns = λ o q.
            let m = block_len_24576 in
            let a = length-take (suc block_len) c in
            let f = length-take (suc block_len) d in
            let g = ap length e in
            h.closed.turns (omega arith) (cell block_len (omega arith) ∙ q ∙ sym (cell (block_len - 1) (omega arith)));
      };
    }
  where
    cell : (x : ℕ) → x < suc block_len → at c x ≡ at d x
    cell x l = sym (get_or-take (suc block_len) c x Low l) ∙ ap (λ c. at c x) e ∙ get_or-take (suc block_len) d x Low l
