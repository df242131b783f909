-- What counts in all periods is what the whole account has.
use Rattle.std.proofs.Common.{◌≡◌, ℕ, zero, suc, ◌+◌, ◌-◌, ◌*◌, ◌<◌, ◌≤◌, ◌⊎◌, inl, inr, Bool, true, false, cond, ltb}
use Rattle.std.proofs.Common.{not, List, [], ◌∷◌, ◌++◌, length, refl, sym, ap, ap₂, ◌∙◌, subst, arith}
use Rattle.std.specs.Prelude.{min}
use Rattle.std.specs.Int.{div_ceil}
use Rattle.std.specs.List.{range_with_len, sum_by}
use Rattle.std.proofs.lemmas.Bool.{cases_lt}
use Rattle.std.proofs.lemmas.List.Filters.{sum_by-filter_both}
use Rattle.std.proofs.lemmas.List.Sums.{sum_by-cons}
use Rattle.aes3_level.specs.declared.level.Level.{Level}
use Rattle.aes3_frame.specs.Blocks.{block_len}
use Rattle.aes3_frame.specs.Statuses.{validity_of}
use Rattle.aes3_frame.specs.declared.block.Channel.TheVariants.{First, Second}
use Rattle.aes3_lock.specs.declared.report.Report.{Report}
use Rattle.aes3_lock.specs.declared.report.Report.TheVariants.{Whole, Marked, Fault, Unfinished}
use Rattle.aes3_lock.specs.declared.report.Why.TheVariants.{Preamble, Biphase, Unclosed}
use Rattle.aes3_lock.specs.Remains.{place_of}
use Rattle.aes3_lock.specs.Reports.{blocks, reports, wholes}
use Rattle.aes3_text_lines.specs.declared.event.Event.{Event}
use Rattle.aes3_text_lines.specs.declared.event.Event.TheVariants.{End}
use Rattle.aes3_frame.specs.Ones.{ones_in}
use Rattle.aes3_lock_gaps.specs.Gaps.{Entry, reported, lost, cut, account, account_from, behind_full, behind_report}
use Rattle.aes3_lock_gaps.specs.Gaps.{full_count, full_gaps, gaps, reached_from, rest_gap}
use Rattle.aes3_watch.specs.Kept.{Watched}
use Rattle.aes3_watch.specs.Sums.{change_of, is_biphase, is_preamble, is_unclosed}
use Rattle.aes3_watch.specs.Watching.{behind_reports, ended, events_from, is_locked, loss_events, next, told_events}
use Rattle.aes3_watch.specs.Watching.{unwatched, watch_events}
use Rattle.aes3_lock_gaps.specs.Told.{reports_in}
use Rattle.aes3_watch_laws.specs.GapLaws.{Covers}
use Rattle.aes3_watch_laws.specs.PeriodLaws.{AllBlocksCount, AllCellsCount, by_block, by_fault, by_mark, counts_at}
use Rattle.aes3_watch_laws.specs.PeriodLaws.{cut_cells, FaultsHaveCauses, lost_cells, PeriodsAddUp, told_at, within}
use Rattle.aes3_watch_laws.proofs.Covering.{account-covers, account-reports}
use Rattle.aes3_watch_laws.proofs.PeriodLists.{AllBefore, all-before-join, all-before-more, between, from-all}
use Rattle.aes3_watch_laws.proofs.PeriodLists.{from-pass, from_on, same-figures, twice-from}
use Rattle.aes3_watch_laws.proofs.PeriodPlaces.{account-split, Ahead, behind-past, chunk-before, loss-before}
use Rattle.aes3_watch_laws.proofs.PeriodPlaces.{report-before, rest_before, times-suc, told-before}
use Rattle.aes3_watch_laws.proofs.PeriodSums.{ahead-reports, from-zero, Left, starts-left}

-- a count over all periods
parted : {X : Type 0} (place : X → ℕ) (f : X → ℕ) (p q : ℕ) (xs : List X) → p ≤ q
    → sum_by f (within place p q xs) + sum_by f (from_on place q xs) ≡ sum_by f (from_on place p xs)
parted place f p q xs l =
    ap₂ (λ x y. sum_by f x + sum_by f y) (sym (between place p q xs)) (sym (twice-from place p q xs l))
    ∙ sum_by-filter_both (λ x. ltb (place x) q) (λ x. not (ltb (place x) q)) (λ x. refl) f (from_on place p xs)

abbrev counted : {X : Type 0} → (X → ℕ) → (X → ℕ) → ℕ → ℕ → List X → ℕ → ℕ
counted place f every n xs i = sum_by f (within place (every * i) (min (every * i + every) n) xs)

all-counted : {X : Type 0} (place f : X → ℕ) (every n : ℕ) (xs : List X) (k j : ℕ) → 0 < every
    → every * j ≤ n → Left every n (every * j) k
    → sum_by (counted place f every n xs) (range_with_len j k) + sum_by f (from_on place n xs)
    ≡ sum_by f (from_on place (every * j) xs)
all-counted place f every n xs zero j h l i =
    let x = i.all in
    let z : every * 0 ≡ 0 = omega arith in
    let e : n ≡ every * j = omega arith in
    (let o : 0 + sum_by f (from_on place n xs) ≡ sum_by f (from_on place n xs) = omega arith in o)
    ∙ ap (λ p. sum_by f (from_on place p xs)) e
all-counted place f every n xs (suc k) j h l i =
    go (cases_lt n (every * j + every)) (λ m d. all-counted place f every n xs k (j + 1) h m d)
  where
    p : ℕ
    p = every * j

    q : ℕ
    q = min (p + every) n

    rest : ℕ
    rest = sum_by f (from_on place n xs)

    e : every * (j + 1) ≡ p + every
    e = grind arith

    go : (n < p + every) ⊎ (p + every ≤ n)
        → (every * (j + 1) ≤ n → Left every n (every * (j + 1)) k
        → sum_by (counted place f every n xs) (range_with_len (j + 1) k) + rest
        ≡ sum_by f (from_on place (every * (j + 1)) xs))
        → sum_by (counted place f every n xs) (range_with_len j (suc k)) + rest ≡ sum_by f (from_on place p xs)
    go (inr m) ih =
        let t = times-suc every k in
        let x = i.all in
        let y = i.few in
        let s = sum_by-cons (counted place f every n xs) j (range_with_len (j + 1) k) in
        let u = ih (omega arith) (record { all = omega arith; few = omega arith }) in
        let r : q ≡ p + every = omega arith in
        let a : sum_by f (within place p q xs) + sum_by f (from_on place q xs) ≡ sum_by f (from_on place p xs)
        = parted place f p q xs (omega arith) in
        let b : sum_by f (from_on place q xs) ≡ sum_by f (from_on place (every * (j + 1)) xs)
        = ap (λ z. sum_by f (from_on place z xs)) (r ∙ sym e) in
        ap (λ z. z + rest) s ∙ omega arith
    go (inl m) ih = last k i
      where
        last : (k : ℕ) → Left every n p (suc k)
            → sum_by (counted place f every n xs) (range_with_len j (suc k)) + rest ≡ sum_by f (from_on place p xs)
        last zero i =
            let r : q ≡ n = omega arith in
            let s = sum_by-cons (counted place f every n xs) j [] in
            let a : sum_by f (within place p q xs) + sum_by f (from_on place q xs) ≡ sum_by f (from_on place p xs)
            = parted place f p q xs (omega arith) in
            let b : sum_by f (from_on place q xs) ≡ rest = ap (λ z. sum_by f (from_on place z xs)) r in
            let c : sum_by (counted place f every n xs) [] ≡ 0 = refl in
            ap (λ z. z + rest) s ∙ omega arith
        last (suc k) i =
            let t = times-suc every (suc k) in
            let s = times-suc every k in
            let y = i.few in
            absurd (omega arith)

-- all that counts lies before the end
account-before : (n m p : ℕ) (r : List Report) → Ahead n r → AllBefore counts_at n (account_from m p r)
account-before n m p [] h = tt
account-before n m p (x ∷ r) h =
    let a = place_of x in
    let b = h.0 in
    let k = m + length (wholes (x ∷ [])) in
    let q = behind_report p x in
    let ce = rest_before m (behind_full p a) x ++ reported x ∷ [] in
    subst (AllBefore counts_at n) (sym (account-split m p x (account_from k q r)))
    (all-before-join counts_at n (full_gaps p (full_count p a)) (ce ++ account_from k q r)
    (all-before-more counts_at a n (full_gaps p (full_count p a)) (omega arith) (chunk-before p a))
    (all-before-join counts_at n ce (account_from k q r)
    (report-before m (behind_full p a) n x (behind-past p a) b) (account-before n k q r h.1.1)))

events-before : (n : ℕ) (w : Watched) (r : List Report) → Ahead n r → AllBefore told_at n (events_from w r)
events-before n w [] h = tt
events-before n w (x ∷ r) h =
    all-before-join told_at n (told_events w x) (events_from (next w x) r) (told-before w x n h.0)
    (events-before n (next w x) r h.1.1)

cut-none : (f : Entry → ℕ) → ((p k : ℕ) → f (cut p k) ≡ 0) → (p n : ℕ)
    → sum_by f (from_on counts_at n (rest_gap false p n)) ≡ 0
cut-none f h p n = go (ltb p n) (ltb (p + (n - p)) n)
  where
    go : (t s : Bool) → sum_by f (from_on counts_at n (cond t (cut p (n - p) ∷ []) [])) ≡ 0
    go false s = refl
    go true s = one (ltb (p + (n - p)) n)
      where
        one : (s : Bool) → sum_by f (cond {A = List Entry} (not s) (cut p (n - p) ∷ []) []) ≡ 0
        one true = refl
        one false = sum_by-cons f (cut p (n - p)) [] ∙ ap (λ z. z + 0) (h p (n - p))

account-none : (f : Entry → ℕ) → ((p k : ℕ) → f (cut p k) ≡ 0) → (c : List Level)
    → sum_by f (from_on counts_at (length c) (account c)) ≡ 0
unfolding account
account-none f h c =
    let r = reports c in
    let n = length c in
    let p = reached_from 0 r in
    ap (sum_by f) (from-pass counts_at n (account_from 0 0 r) (gaps false p n)
    (account-before n 0 0 r (ahead-reports c))
    ∙ from-pass counts_at n (full_gaps p (full_count p n)) (rest_gap false (behind_full p n) n) (chunk-before p n))
    ∙ cut-none f h (behind_full p n) n

end-none : (n : ℕ) (k : Bool) → sum_by change_of (from_on told_at n (End n k ∷ [])) ≡ 0
end-none n k = go (ltb n n)
  where
    go : (s : Bool) → sum_by change_of (cond {A = List Event} (not s) (End n k ∷ []) []) ≡ 0
    go true = refl
    go false = refl

events-none : (c : List Level) → sum_by change_of (from_on told_at (length c) (watch_events c)) ≡ 0
unfolding watch_events
events-none c =
    let r = reports c in
    let n = length c in
    let w = behind_reports unwatched r in
    let k = is_locked (ended c) in
    ap (sum_by change_of) (from-pass told_at n (events_from unwatched r) (loss_events w n ++ End n k ∷ [])
    (events-before n unwatched r (ahead-reports c))
    ∙ from-pass told_at n (loss_events w n) (End n k ∷ []) (loss-before w n))
    ∙ end-none n k

whole-count : {X : Type 0} (place f : X → ℕ) (every n : ℕ) (xs : List X) → 0 < every
    → sum_by f (from_on place n xs) ≡ 0
    → sum_by (counted place f every n xs) (range_with_len 0 (div_ceil n every)) ≡ sum_by f xs
whole-count place f every n xs h e =
    let z : every * 0 ≡ 0 = omega arith in
    let s = starts-left every n h in
    let a = all-counted place f every n xs (div_ceil n every) 0 h (omega arith)
    (subst (λ p. Left every n p (div_ceil n every)) (sym z) s) in
    let b : sum_by f (from_on place (every * 0) xs) ≡ sum_by f xs
    = ap (λ p. sum_by f (from_on place p xs)) z ∙ ap (sum_by f) (from-all place 0 xs (from-zero place xs)) in
    omega arith

pub periods-add-up : PeriodsAddUp
periods-add-up every h c =
    let n = length c in
    let one = λ (f : Entry → ℕ) (z : (p k : ℕ) → f (cut p k) ≡ 0).
    whole-count counts_at f every n (account c) h (account-none f z c) in
    same-figures (one (by_block (λ b. 1)) (λ p k. refl)) (one by_mark (λ p k. refl))
    (one (by_fault (λ why. 1)) (λ p k. refl)) (one (by_fault is_preamble) (λ p k. refl))
    (one (by_fault is_biphase) (λ p k. refl)) (one (by_fault is_unclosed) (λ p k. refl)) (one lost_cells (λ p k. refl))
    (one (by_block (λ b. ones_in (validity_of b First))) (λ p k. refl))
    (one (by_block (λ b. ones_in (validity_of b Second))) (λ p k. refl))
    (whole-count told_at change_of every n (watch_events c) h (events-none c))

-- the whole account
blocks-in : (e : List Entry) → sum_by (by_block (λ b. 1)) e ≡ length (wholes (reports_in e))
blocks-in [] = refl
blocks-in (reported (Whole at s b) ∷ e) =
    let r = blocks-in e in sum_by-cons (by_block (λ b. 1)) (reported (Whole at s b)) e ∙ omega arith
blocks-in (reported (Marked at s wrong) ∷ e) =
    let r = blocks-in e in sum_by-cons (by_block (λ b. 1)) (reported (Marked at s wrong)) e ∙ omega arith
blocks-in (reported (Fault at cell why) ∷ e) =
    let r = blocks-in e in sum_by-cons (by_block (λ b. 1)) (reported (Fault at cell why)) e ∙ omega arith
blocks-in (reported (Unfinished at cells) ∷ e) =
    let r = blocks-in e in sum_by-cons (by_block (λ b. 1)) (reported (Unfinished at cells)) e ∙ omega arith
blocks-in (lost at n ∷ e) = let r = blocks-in e in sum_by-cons (by_block (λ b. 1)) (lost at n) e ∙ omega arith
blocks-in (cut at n ∷ e) = let r = blocks-in e in sum_by-cons (by_block (λ b. 1)) (cut at n) e ∙ omega arith

pub all-blocks : AllBlocksCount
unfolding blocks
all-blocks c = blocks-in (account c) ∙ ap (λ r. length (wholes r)) (account-reports c)

abbrev cells_in : List Entry → ℕ
cells_in e = block_len * sum_by (by_block (λ b. 1)) e + sum_by lost_cells e + sum_by cut_cells e

cells-cons : (x : Entry) (e : List Entry)
    → cells_in (x ∷ e) ≡ block_len * by_block (λ b. 1) x + lost_cells x + cut_cells x + cells_in e
cells-cons x e =
    ap (λ z. block_len * z + sum_by lost_cells (x ∷ e) + sum_by cut_cells (x ∷ e)) (sum_by-cons (by_block (λ b. 1)) x e)
    ∙ ap₂ (λ y z. block_len * (by_block (λ b. 1) x + sum_by (by_block (λ b. 1)) e) + y + z) (sum_by-cons lost_cells x e)
    (sum_by-cons cut_cells x e)
    ∙ six block_len (by_block (λ b. 1) x) (sum_by (by_block (λ b. 1)) e) (lost_cells x) (sum_by lost_cells e)
    (cut_cells x)
    (sum_by cut_cells e)
  where
    six : (l a b x y u v : ℕ) → l * (a + b) + (x + y) + (u + v) ≡ l * a + x + u + (l * b + y + v)
    six l a b x y u v = grind arith

covered : (p q : ℕ) (e : List Entry) → Covers p e q → p + cells_in e ≡ q
covered p q [] h = let z : block_len * 0 ≡ 0 = omega arith in omega (arith, h, z)
covered p q (reported (Whole at s b) ∷ e) h =
    let r = covered (at + block_len) q e h.1 in let f = cells-cons (reported (Whole at s b)) e in
    let z : block_len * 1 ≡ block_len = omega arith in let g = h.0 in omega arith
covered p q (reported (Marked at s wrong) ∷ e) h =
    let r = covered p q e h in let f = cells-cons (reported (Marked at s wrong)) e in
    let z : block_len * 0 ≡ 0 = omega arith in omega arith
covered p q (reported (Fault at cell why) ∷ e) h =
    let r = covered p q e h in let f = cells-cons (reported (Fault at cell why)) e in
    let z : block_len * 0 ≡ 0 = omega arith in omega arith
covered p q (reported (Unfinished at cells) ∷ e) h =
    let r = covered p q e h in let f = cells-cons (reported (Unfinished at cells)) e in
    let z : block_len * 0 ≡ 0 = omega arith in omega arith
covered p q (lost at n ∷ e) h =
    let r = covered (at + n) q e h.1 in let f = cells-cons (lost at n) e in
    let z : block_len * 0 ≡ 0 = omega arith in let g = h.0 in omega arith
covered p q (cut at n ∷ e) h =
    let r = covered (at + n) q e h.1 in let f = cells-cons (cut at n) e in
    let z : block_len * 0 ≡ 0 = omega arith in let g = h.0 in omega arith

pub all-cells : AllCellsCount
all-cells c =
    let r = covered 0 (length c) (account c) (account-covers c) in
    let o : 0 + cells_in (account c) ≡ cells_in (account c) = omega arith in
    sym o ∙ r

causes-of : (x : Entry) → by_fault (λ why. 1) x
    ≡ by_fault is_preamble x + by_fault is_biphase x + by_fault is_unclosed x
causes-of (reported (Whole at s b)) = refl
causes-of (reported (Marked at s wrong)) = refl
causes-of (reported (Fault at cell Preamble)) = refl
causes-of (reported (Fault at cell Biphase)) = refl
causes-of (reported (Fault at cell Unclosed)) = refl
causes-of (reported (Unfinished at cells)) = refl
causes-of (lost at n) = refl
causes-of (cut at n) = refl

pub causes : FaultsHaveCauses
causes [] told = refl
causes (x ∷ e) told =
    let r = causes e told in
    let o = causes-of x in
    let a = sum_by-cons (by_fault (λ why. 1)) x e in
    let b = sum_by-cons (by_fault is_preamble) x e in
    let c = sum_by-cons (by_fault is_biphase) x e in
    let d = sum_by-cons (by_fault is_unclosed) x e in
    omega arith
