-- Reports of cells that are cut in two.
use Rattle.std.proofs.Common.{◌≡◌, ℕ, zero, suc, ◌+◌, ◌<◌, ◌≤◌, ◌⊎◌, inl, inr, List, [], ◌∷◌, ◌++◌, Option, Some, None}
use Rattle.std.proofs.Common.{refl, length, take, drop, map, ap, ap₂, ◌∙◌, sym, arith, lt-ltb, le-ltb, append_assoc}
use Rattle.std.specs.List.{filter}
use Rattle.std.proofs.lemmas.Bool.{cases_lt}
use Rattle.std.proofs.lemmas.List.{map-append, take_all, take-append-drop, length-take-le}
use Rattle.std.proofs.lemmas.List.Elements.{filter-append}
use Rattle.aes3_level.specs.declared.level.Level.{Level}
use Rattle.aes3_slot.specs.declared.mark.Mark.TheVariants.{Z}
use Rattle.aes3_slot.specs.Preambles.{entry}
use Rattle.aes3_slot.proofs.Beginnings.{begins-append}
use Rattle.aes3_frame.specs.Blocks.{block_len}
use Rattle.aes3_lock.specs.declared.report.Report.TheVariants.{Whole, Marked, Fault, Unfinished}
use Rattle.aes3_lock.specs.Outcomes.{Outcome, whole, marked, fault, unfinished, why_of}
use Rattle.aes3_lock.specs.Reports.{told, outcome_at, reports_from, reports}
use Rattle.aes3_lock.specs.Splits.{begins_before, behind}
use Rattle.aes3_lock.proofs.Fronts.{front-is}
use Rattle.aes3_lock.proofs.Deciding.{block-room, outcome-stays}

-- what becomes of a candidate is told by a block's cells and the one behind them
outcome_at-append : (c d : List Level) → block_len < length c → outcome_at (c ++ d) ≡ outcome_at c
unfolding outcome_at
outcome_at-append c d h =
    let w = (front-is (entry c) c).within in
    let r = block-room in
    let b = begins-append Z c d (omega (arith, r, h)) in
    let o = outcome-stays c d (omega (arith, h)) (omega (arith, w, h)) in
    rw (b, o) refl

outcome_at-take : (k : ℕ) (c : List Level) → block_len < k → outcome_at (take k c) ≡ outcome_at c
outcome_at-take k c h = go (cases_lt k (length c))
  where
    go : (k < length c) ⊎ (length c ≤ k) → outcome_at (take k c) ≡ outcome_at c
    go (inl o) =
        let l = length-take-le k c (omega arith) in
        sym (outcome_at-append (take k c) (drop k c) (omega (arith, l, h))) ∙ ap outcome_at (take-append-drop k c)
    go (inr o) = ap outcome_at (take_all k c o)

-- a report of a place
told-before : (n p : ℕ) (o : Option Outcome) → p < n → filter (begins_before n) (told p o) ≡ told p o
told-before n p None h = refl
told-before n p (Some (whole s b)) h = let t = lt-ltb p n h in rw t refl
told-before n p (Some (marked s wrong)) h = let t = lt-ltb p n h in rw t refl
told-before n p (Some (fault offset)) h = let t = lt-ltb p n h in rw t refl
told-before n p (Some (unfinished cells)) h = let t = lt-ltb p n h in rw t refl

told-behind : (n p : ℕ) (o : Option Outcome) → n ≤ p → filter (begins_before n) (told p o) ≡ []
told-behind n p None h = refl
told-behind n p (Some (whole s b)) h = let t = le-ltb p n h in rw t refl
told-behind n p (Some (marked s wrong)) h = let t = le-ltb p n h in rw t refl
told-behind n p (Some (fault offset)) h = let t = le-ltb p n h in rw t refl
told-behind n p (Some (unfinished cells)) h = let t = le-ltb p n h in rw t refl

told-moved : (n p q : ℕ) (o : Option Outcome) → q ≡ n + p → told q o ≡ map (behind n) (told p o)
told-moved n p q None e = refl
told-moved n p q (Some (whole s b)) e = ap (λ x. Whole x s b ∷ []) e
told-moved n p q (Some (marked s wrong)) e = ap (λ x. Marked x s wrong ∷ []) e
told-moved n p q (Some (fault offset)) e =
    let f : q + offset ≡ n + (p + offset) = omega (arith, e) in
    ap₂ (λ x y. Fault x y (why_of offset) ∷ []) e f
told-moved n p q (Some (unfinished cells)) e = ap (λ x. Unfinished x cells ∷ []) e

-- the reports of cells that begin at place p
none-before : (n p : ℕ) (c : List Level) → n ≤ p → filter (begins_before n) (reports_from p c) ≡ []
none-before n p [] h = refl
none-before n p (x ∷ c) h =
    filter-append (begins_before n) (told p (outcome_at (x ∷ c))) (reports_from (suc p) c)
    ∙ ap₂ (λ a b. a ++ b) (told-behind n p (outcome_at (x ∷ c)) h) (none-before n (suc p) c (omega arith))

moved : (n p q : ℕ) (c : List Level) → q ≡ n + p → reports_from q c ≡ map (behind n) (reports_from p c)
moved n p q [] e = refl
moved n p q (x ∷ c) e =
    ap₂ (λ a b. a ++ b) (told-moved n p q (outcome_at (x ∷ c)) e) (moved n (suc p) (suc q) c (omega (arith, e)))
    ∙ sym (map-append (behind n) (told p (outcome_at (x ∷ c))) (reports_from (suc p) c))

-- the first n cells with enough more, k in all, and the rest, which begins at place m
fronts : (n k p m : ℕ) (c : List Level) → n + block_len ≤ k → m ≡ p + n
    → reports_from p c ≡ filter (begins_before m) (reports_from p (take k c)) ++ reports_from m (drop n c)
fronts zero k p m c h e =
    let q : p ≡ m = omega (arith, e) in
    ap (λ j. reports_from j c) q ∙ sym (ap (λ x. x ++ reports_from m c) (none-before m p (take k c) (omega (arith, e))))
fronts (suc n) zero p m c h e = absurd (omega (arith, h))
fronts (suc n) (suc k) p m [] h e = refl
fronts (suc n) (suc k) p m (x ∷ c) h e =
    let f = begins_before m in
    let here = told p (outcome_at (x ∷ c)) in
    let there = told p (outcome_at (x ∷ take k c)) in
    let front = reports_from (suc p) (take k c) in
    let rest = reports_from m (drop n c) in
    let t : filter f there ≡ here =
    ap (λ o. filter f (told p o)) (outcome_at-take (suc k) (x ∷ c) (omega (arith, h)))
    ∙ told-before m p (outcome_at (x ∷ c)) (omega (arith, e)) in
    ap (λ v. here ++ v) (fronts n k (suc p) m c (omega (arith, h)) (omega (arith, e)))
    ∙ sym (append_assoc here (filter f front) rest)
    ∙ ap (λ v. v ++ rest) (ap (λ v. v ++ filter f front) (sym t) ∙ sym (filter-append f there front))

pub reports-join : (n more : ℕ) (c : List Level) → block_len ≤ more
    → reports c ≡ filter (begins_before n) (reports (take (n + more) c)) ++ map (behind n) (reports (drop n c))
unfolding reports
reports-join n more c h =
    fronts n (n + more) 0 n c (omega (arith, h)) (omega arith)
    ∙ ap (λ v. filter (begins_before n) (reports_from 0 (take (n + more) c)) ++ v)
    (moved n 0 n (drop n c) (omega arith))
