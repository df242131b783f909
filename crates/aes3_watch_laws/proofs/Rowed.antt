-- Where no gap counts, the whole blocks stand in a row.
use Rattle.std.proofs.Common.{◌≡◌, ℕ, suc, ◌+◌, ◌-◌, ◌*◌, ◌/◌, ◌<◌, ◌≤◌, Bool, true, false, cond, ltb, List, [], ◌∷◌}
use Rattle.std.proofs.Common.{◌++◌, length, refl, sym, ap, ◌∙◌, subst, arith, lt-ltb}
use Rattle.std.specs.List.{filter}
use Rattle.std.proofs.lemmas.Bool.{ltb-false}
use Rattle.aes3_level.specs.declared.level.Level.{Level}
use Rattle.aes3_frame.specs.Blocks.{block_len}
use Rattle.aes3_lock.specs.declared.report.Report.{Report}
use Rattle.aes3_lock.specs.declared.report.Report.TheVariants.{Whole, Marked, Fault, Unfinished}
use Rattle.aes3_lock.specs.Reports.{reports, wholes, blocks}
use Rattle.aes3_lock.proofs.Deciding.{block_len_24576}
use Rattle.aes3_lock_gaps.specs.Gaps.{reported, full_gaps, full_count, behind_full, kind, rest_gap, gaps, account_from}
use Rattle.aes3_lock_gaps.specs.Gaps.{reached_from, account, is_lost}
use Rattle.aes3_watch_laws.specs.GapLaws.{InRow, LosesNothing}
use Rattle.aes3_lock_gaps.proofs.GapLemmas.{lost-append, lost-full, behind-near, behind-none}
use Rattle.aes3_lock.proofs.ReportPlaces.{Spaced, spaced-weaker, spaced-reports}

-- no gap of a block's length between two places
count-none : (p q : ℕ) → full_count p q ≡ 0 → q < p + block_len
unfolding full_count
count-none p q e =
    let f : (q - p) / 24576 ≡ 0 = sym (ap (λ (z : ℕ). (q - p) / z) block_len_24576) ∙ e in
    rw block_len_24576 (omega arith)

-- no gap at all that counts
rest-none : (p q : ℕ) → length (filter is_lost (rest_gap true p q)) ≡ 0 → q ≤ p
rest-none p q e = go (ltb p q) refl e
  where
    go : (b : Bool) → ltb p q ≡ b → length (filter is_lost (cond b (kind true p (q - p) ∷ []) [])) ≡ 0 → q ≤ p
    go true f g = absurd (omega arith)
    go false f g = ltb-false p q f

gaps-none : (p q : ℕ) → p ≤ q → length (filter is_lost (gaps true p q)) ≡ 0 → q ≡ p
gaps-none p q h e =
    let a = lost-append (full_gaps p (full_count p q)) (rest_gap true (behind_full p q) q) in
    let f = lost-full p (full_count p q) in
    let n : full_count p q ≡ 0 = omega arith in
    let b = behind-none p q n in
    let r = rest-none (behind_full p q) q (omega arith) in
    omega arith

cut-count : (p q : ℕ) → length (filter is_lost (gaps false p q)) ≡ 0 → full_count p q ≡ 0
cut-count p q e =
    let a = lost-append (full_gaps p (full_count p q)) (rest_gap false (behind_full p q) q) in
    let f = lost-full p (full_count p q) in
    omega arith

-- reports of which the whole blocks stand in a row from place a on, where the cells before place p were accounted for
record Row (a p : ℕ) (r : List Report) : Type 0 where
  row : InRow a r
  reached : reached_from p r ≡ a + block_len * length (wholes r)

-- one more whole block, and one more report of another kind
row-more : (a p : ℕ) (n : ℕ) → a ≡ p → p + block_len + block_len * n ≡ a + block_len * suc n
row-more a p n e = rw block_len_24576 (omega arith)

fewer : (n m : ℕ) (p : ℕ) (r : List Report) → n ≡ m → length (filter is_lost (account_from n p r)) ≡ 0
    → length (filter is_lost (account_from m p r)) ≡ 0
fewer n m p r e h = subst (λ (k : ℕ). length (filter is_lost (account_from k p r)) ≡ 0) e h

-- what is left where nothing before a report counts
record Skipped (n p at : ℕ) (r : List Report) : Type 0 where
  same : behind_full p at ≡ p
  rest : length (filter is_lost (account_from n (behind_full p at) r)) ≡ 0

skipped : (n p at : ℕ) (x : Report) (r : List Report)
    → length (filter is_lost (full_gaps p (full_count p at) ++ reported x ∷ account_from (n + 0) (behind_full p at) r))
    ≡ 0 → Skipped n p at r
skipped n p at x r e =
    let a = lost-append (full_gaps p (full_count p at)) (reported x ∷ account_from (n + 0) (behind_full p at) r) in
    let f = lost-full p (full_count p at) in
    record {
      same = behind-none p at (omega arith);
      rest = fewer (n + 0) n (behind_full p at) r (omega arith) (omega arith);
    }

later : (p at : ℕ) (r : List Report) → p ≤ at → Spaced (suc at) r → Spaced (behind_full p at) r
later p at r h s = let l = behind-near p at h in spaced-weaker (behind_full p at) (suc at) r (omega arith) s

-- behind a whole block
rowed : (n p : ℕ) (r : List Report) → Spaced p r → length (filter is_lost (account_from (suc n) p r)) ≡ 0 → Row p p r
rowed n p [] s e = record { row = tt; reached = rw block_len_24576 (omega arith) }
rowed n p (Whole at t b ∷ r) s e =
    let k : ltb 0 (suc n) ≡ true = lt-ltb 0 (suc n) (omega arith) in
    let a = lost-append (gaps (ltb 0 (suc n)) p at)
    (reported (Whole at t b) ∷ account_from (suc n + 1) (at + block_len) r) in
    let z : length (filter is_lost (gaps (ltb 0 (suc n)) p at)) ≡ length (filter is_lost (gaps true p at))
    = ap (λ v. length (filter is_lost (gaps v p at))) k in
    let q = gaps-none p at s.0 (omega arith) in
    let h = rowed (suc n) (at + block_len) r s.1
    (fewer (suc n + 1) (suc (suc n)) (at + block_len) r (omega arith) (omega arith)) in
    record { row = (q, h.row); reached = h.reached ∙ row-more p at (length (wholes r)) (sym q) }
rowed n p (Marked at t wrong ∷ r) s e =
    let k = skipped (suc n) p at (Marked at t wrong) r e in
    let h = rowed n (behind_full p at) r (later p at r s.0 s.1) k.rest in
    record {
      row = subst (λ (v : ℕ). InRow v r) k.same h.row;
      reached
          = h.reached ∙ ap (λ v. v + block_len * length (wholes r)) k.same;
    }
rowed n p (Fault at cell why ∷ r) s e =
    let k = skipped (suc n) p at (Fault at cell why) r e in
    let h = rowed n (behind_full p at) r (later p at r s.0 s.1) k.rest in
    record {
      row = subst (λ (v : ℕ). InRow v r) k.same h.row;
      reached
          = h.reached ∙ ap (λ v. v + block_len * length (wholes r)) k.same;
    }
rowed n p (Unfinished at cells ∷ r) s e =
    let k = skipped (suc n) p at (Unfinished at cells) r e in
    let h = rowed n (behind_full p at) r (later p at r s.0 s.1) k.rest in
    record {
      row = subst (λ (v : ℕ). InRow v r) k.same h.row;
      reached
          = h.reached ∙ ap (λ v. v + block_len * length (wholes r)) k.same;
    }

-- before the first
record First (p q : ℕ) (r : List Report) : Type 0 where
  first : ℕ
  begins : first < p + block_len
  row : Row first q r

first-row : (p : ℕ) (r : List Report) → Spaced p r → length (filter is_lost (account_from 0 p r)) ≡ 0 → First p p r
first-row p [] s e = let m = block_len_24576 in record {
  first = p;
  begins = omega arith;
  row
      = record { row = tt; reached = rw block_len_24576 (omega arith) };
}
first-row p (Whole at t b ∷ r) s e =
    let a = lost-append (gaps false p at) (reported (Whole at t b) ∷ account_from (0 + 1) (at + block_len) r) in
    let h = rowed 0 (at + block_len) r s.1 (fewer (0 + 1) 1 (at + block_len) r (omega arith) (omega arith)) in
    record {
      first = at;
      begins = count-none p at (cut-count p at (omega arith));
      row = record { row = (refl, h.row); reached = h.reached ∙ row-more at at (length (wholes r)) refl };
    }
first-row p (Marked at t wrong ∷ r) s e =
    let k = skipped 0 p at (Marked at t wrong) r e in
    let h = first-row (behind_full p at) r (later p at r s.0 s.1) k.rest in
    record {
      first = h.first;
      begins = subst (λ (v : ℕ). h.first < v + block_len) k.same h.begins;
      row
          = record { row = h.row.row; reached = h.row.reached };
    }
first-row p (Fault at cell why ∷ r) s e =
    let k = skipped 0 p at (Fault at cell why) r e in
    let h = first-row (behind_full p at) r (later p at r s.0 s.1) k.rest in
    record {
      first = h.first;
      begins = subst (λ (v : ℕ). h.first < v + block_len) k.same h.begins;
      row
          = record { row = h.row.row; reached = h.row.reached };
    }
first-row p (Unfinished at cells ∷ r) s e =
    let k = skipped 0 p at (Unfinished at cells) r e in
    let h = first-row (behind_full p at) r (later p at r s.0 s.1) k.rest in
    record {
      first = h.first;
      begins = subst (λ (v : ℕ). h.first < v + block_len) k.same h.begins;
      row
          = record { row = h.row.row; reached = h.row.reached };
    }

ends-soon : (a p k n : ℕ) → p ≡ a + block_len * k → n < p + block_len → n < a + block_len * (k + 1)
ends-soon a p k n e h =
    let m : p ≡ a + 24576 * k = e ∙ ap (λ (z : ℕ). a + z * k) block_len_24576 in
    let l : n < p + 24576 = subst (λ (z : ℕ). n < p + z) block_len_24576 h in
    rw block_len_24576 (omega arith)

pub no-gap : (c : List Level) → length (filter is_lost (account c)) ≡ 0 → LosesNothing c
unfolding account blocks
no-gap c e =
    let r = reports c in
    let p = reached_from 0 r in
    let a = lost-append (account_from 0 0 r) (gaps false p (length c)) in
    let f = first-row 0 r (spaced-reports c) (omega arith) in
    let n = count-none p (length c) (cut-count p (length c) (omega arith)) in
    let b = f.begins in
    record {
      first = f.first;
      begins = omega arith;
      row = f.row.row;
      ends = ends-soon f.first p (length (wholes r)) (length c) f.row.reached n;
    }

-- where none is whole, no cells are accounted for before the last gap
stays : (p : ℕ) (r : List Report) → wholes r ≡ [] → Spaced p r → length (filter is_lost (account_from 0 p r)) ≡ 0
    → reached_from p r ≡ p
stays p [] w s e = refl
stays p (Whole at t b ∷ r) w s e = absurd (let n = ap length w in omega arith)
stays p (Marked at t wrong ∷ r) w s e
    = let k = skipped 0 p at (Marked at t wrong) r e in stays (behind_full p at) r w (later p at r s.0 s.1) k.rest
    ∙ k.same
stays p (Fault at cell why ∷ r) w s e
    = let k = skipped 0 p at (Fault at cell why) r e in stays (behind_full p at) r w (later p at r s.0 s.1) k.rest
    ∙ k.same
stays p (Unfinished at cells ∷ r) w s e
    = let k = skipped 0 p at (Unfinished at cells) r e in stays (behind_full p at) r w (later p at r s.0 s.1) k.rest
    ∙ k.same

pub no-block : (c : List Level) → length (filter is_lost (account c)) ≡ 0 → wholes (reports c) ≡ []
    → length c < block_len
unfolding account
no-block c e w =
    let r = reports c in
    let p = reached_from 0 r in
    let a = lost-append (account_from 0 0 r) (gaps false p (length c)) in
    let n = count-none p (length c) (cut-count p (length c) (omega arith)) in
    let z = stays 0 r w (spaced-reports c) (omega arith) in
    omega arith
