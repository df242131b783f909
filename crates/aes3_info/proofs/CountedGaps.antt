-- The gaps between two places, counted.
use Rattle.std.proofs.Common.{◌≡◌, ℕ, zero, suc, ◌+◌, ◌-◌, ◌*◌, ◌/◌, ◌%◌, ◌^◌, ◌<◌, Bool, true, false, cond, ltb}
use Rattle.std.proofs.Common.{List, [], ◌∷◌, ◌++◌, length, min, refl, sym, ap, ap₂, ◌∙◌, arith}
use Rattle.std.specs.List.{sum_by}
use Rattle.std.proofs.lemmas.Bool.{ltb-true, ltb-false}
use Rattle.std.proofs.lemmas.List.Sums.{sum_by-append, sum_by-cons, sum_by_push}
use Rattle.aes3_frame.specs.Blocks.{block_len}
use Rattle.aes3_lock.specs.declared.report.Report.{Report}
use Rattle.aes3_lock.specs.Reports.{wholes}
use Rattle.aes3_lock.proofs.Deciding.{block_len_24576}
use Rattle.aes3_lock_gaps.specs.Gaps.{Entry, reported, lost, cut, full_gaps, full_count, behind_full, rest_gap, gaps}
use Rattle.aes3_lock_gaps.specs.Gaps.{gaps_before, account_from, reached_from}
use Rattle.aes3_lock_gaps.proofs.GapLemmas.{account-push}
use Rattle.aes3_info.specs.declared.gaps.GapFacts.{GapFacts}
use Rattle.aes3_info.specs.Facts.{both_gaps, cut_cells, gap_facts, is_gap, lost_cells, most_count, total}
use Rattle.aes3_info.proofs.Counting.{count-join}

same-gaps : {a a' b b' d d' : ℕ} → a ≡ a' → b ≡ b' → d ≡ d'
    → ◌≡◌ {A = GapFacts} (record { gaps = a; lost = b; cut = d }) (record { gaps = a'; lost = b'; cut = d' })
same-gaps {a' = a'} {b' = b'} {d = d} e f g =
    ap₂ (λ (x y : ℕ). record { gaps = x; lost = y; cut = d }) e f
    ∙ ap (λ (z : ℕ). record { gaps = a'; lost = b'; cut = z }) g

-- gaps of a block's length
full-gaps : (p n : ℕ) → sum_by is_gap (full_gaps p n) ≡ n
full-gaps p zero = refl
full-gaps p (suc n) =
    let e = sum_by-cons is_gap (lost p block_len) (full_gaps (p + block_len) n) in
    let f = full-gaps (p + block_len) n in
    omega arith

full-lost : (p n : ℕ) → sum_by lost_cells (full_gaps p n) ≡ 24576 * n
full-lost p zero = refl
full-lost p (suc n) =
    let e = sum_by-cons lost_cells (lost p block_len) (full_gaps (p + block_len) n) in
    let f = full-lost (p + block_len) n in
    let m = block_len_24576 in
    omega arith

full-cut : (p n : ℕ) → sum_by cut_cells (full_gaps p n) ≡ 0
full-cut p zero = refl
full-cut p (suc n) =
    let e = sum_by-cons cut_cells (lost p block_len) (full_gaps (p + block_len) n) in
    let f = full-cut (p + block_len) n in
    omega arith

count-is : (p q : ℕ) → full_count p q ≡ (q - p) / 24576
unfolding full_count
count-is p q = rw block_len_24576 refl

pub full-facts : (p q s : ℕ) → s ≡ q - p → s < 2 ^ 64
    → ◌≡◌ {A = GapFacts} (record { gaps = s / 24576; lost = s / 24576 * 24576; cut = 0 })
    (gap_facts (full_gaps p (full_count p q)))
unfolding total most_count
full-facts p q s e h =
    let n = count-is p q in
    let g = full-gaps p (full_count p q) in
    let l = full-lost p (full_count p q) in
    let k = full-cut p (full_count p q) in
    same-gaps (omega arith) (omega arith) (omega arith)

-- and a last one that is shorter
behind-is : (p q : ℕ) → behind_full p q ≡ p + 24576 * ((q - p) / 24576)
unfolding behind_full full_count
behind-is p q = rw block_len_24576 refl

pub place-is : (p q s k : ℕ) → s ≡ q - p → k ≡ p + s / 24576 * 24576 → k ≡ behind_full p q
place-is p q s k e f = let b = behind-is p q in omega arith

rest-counted : (p q : ℕ) → sum_by is_gap (rest_gap true p q) ≡ min (q - p) 1
rest-counted p q = go (ltb p q) refl
  where
    go : (b : Bool) → ltb p q ≡ b → sum_by is_gap (cond b (lost p (q - p) ∷ []) []) ≡ min (q - p) 1
    go true e = let l = ltb-true p q e in omega arith
    go false e = let l = ltb-false p q e in omega arith

rest-lost : (p q : ℕ) → sum_by lost_cells (rest_gap true p q) ≡ q - p
rest-lost p q = go (ltb p q) refl
  where
    go : (b : Bool) → ltb p q ≡ b → sum_by lost_cells (cond b (lost p (q - p) ∷ []) []) ≡ q - p
    go true e = let l = ltb-true p q e in omega arith
    go false e = let l = ltb-false p q e in omega arith

rest-none : (p q : ℕ) → sum_by cut_cells (rest_gap true p q) ≡ 0
rest-none p q = go (ltb p q)
  where
    go : (b : Bool) → sum_by cut_cells (cond b (lost p (q - p) ∷ []) []) ≡ 0
    go true = refl
    go false = refl

cut-counted : (p q : ℕ) → sum_by is_gap (rest_gap false p q) ≡ 0
cut-counted p q = go (ltb p q)
  where
    go : (b : Bool) → sum_by is_gap (cond b (cut p (q - p) ∷ []) []) ≡ 0
    go true = refl
    go false = refl

cut-none : (p q : ℕ) → sum_by lost_cells (rest_gap false p q) ≡ 0
cut-none p q = go (ltb p q)
  where
    go : (b : Bool) → sum_by lost_cells (cond b (cut p (q - p) ∷ []) []) ≡ 0
    go true = refl
    go false = refl

cut-cut : (p q : ℕ) → sum_by cut_cells (rest_gap false p q) ≡ q - p
cut-cut p q = go (ltb p q) refl
  where
    go : (b : Bool) → ltb p q ≡ b → sum_by cut_cells (cond b (cut p (q - p) ∷ []) []) ≡ q - p
    go true e = let l = ltb-true p q e in omega arith
    go false e = let l = ltb-false p q e in omega arith

pub counting-facts : (p q s : ℕ) → s ≡ q - p → s < 2 ^ 64
    → ◌≡◌ {A = GapFacts} (record { gaps = s / 24576 + min (s % 24576) 1; lost = s; cut = 0 }) (gap_facts (gaps true p q))
unfolding total most_count
counting-facts p q s e h =
    let n = count-is p q in
    let b = behind-is p q in
    let f = full_gaps p (full_count p q) in
    let r = rest_gap true (behind_full p q) q in
    let ga = sum_by-append is_gap f r in
    let la = sum_by-append lost_cells f r in
    let ca = sum_by-append cut_cells f r in
    let g = full-gaps p (full_count p q) in
    let l = full-lost p (full_count p q) in
    let k = full-cut p (full_count p q) in
    let g' = rest-counted (behind_full p q) q in
    let l' = rest-lost (behind_full p q) q in
    let k' = rest-none (behind_full p q) q in
    same-gaps (omega arith) (omega arith) (omega arith)

pub cut-facts : (p q s : ℕ) → s ≡ q - p → s < 2 ^ 64
    → ◌≡◌ {A = GapFacts} (record { gaps = s / 24576; lost = s / 24576 * 24576; cut = s % 24576 })
    (gap_facts (gaps false p q))
unfolding total most_count
cut-facts p q s e h =
    let n = count-is p q in
    let b = behind-is p q in
    let f = full_gaps p (full_count p q) in
    let r = rest_gap false (behind_full p q) q in
    let ga = sum_by-append is_gap f r in
    let la = sum_by-append lost_cells f r in
    let ca = sum_by-append cut_cells f r in
    let g = full-gaps p (full_count p q) in
    let l = full-lost p (full_count p q) in
    let k = full-cut p (full_count p q) in
    let g' = cut-counted (behind_full p q) q in
    let l' = cut-none (behind_full p q) q in
    let k' = cut-cut (behind_full p q) q in
    same-gaps (omega arith) (omega arith) (omega arith)

-- more of them
pub gaps-join : (a b : List Entry) → both_gaps (gap_facts a) (gap_facts b) ≡ gap_facts (a ++ b)
gaps-join a b = same-gaps (count-join is_gap a b) (count-join lost_cells a b) (count-join cut_cells a b)

gap-told : (e : List Entry) (x : Report) → gap_facts (e ++ reported x ∷ []) ≡ gap_facts e
unfolding total
gap-told e x =
    let g = sum_by_push is_gap e (reported x) in
    let l = sum_by_push lost_cells e (reported x) in
    let k = sum_by_push cut_cells e (reported x) in
    same-gaps (omega arith) (omega arith) (omega arith)

-- those before one more report
pub gaps-push : (r : List Report) (x : Report)
    → both_gaps (gap_facts (account_from 0 0 r)) (gap_facts (gaps_before (length (wholes r)) (reached_from 0 r) x))
    ≡ gap_facts (account_from 0 0 (r ++ x ∷ []))
gaps-push r x =
    let n = length (wholes r) in
    let g = gaps_before n (reached_from 0 r) x in
    let e : 0 + n ≡ n = omega arith in
    ap (both_gaps (gap_facts (account_from 0 0 r))) (sym (gap-told g x))
    ∙ gaps-join (account_from 0 0 r) (g ++ reported x ∷ [])
    ∙ ap gap_facts
    (sym (account-push 0 0 r x
    ∙ ap (λ m. account_from 0 0 r ++ (gaps_before m (reached_from 0 r) x ++ reported x ∷ [])) e))
