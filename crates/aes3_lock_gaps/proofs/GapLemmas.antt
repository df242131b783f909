-- Gaps between two places, in two parts, and the account of more reports.
use Rattle.std.proofs.Common.{◌≡◌, ℕ, zero, suc, ◌+◌, ◌-◌, ◌*◌, ◌/◌, ◌<◌, ◌≤◌, Bool, true, false, cond, ltb, List}
use Rattle.std.proofs.Common.{[], ◌∷◌, ◌++◌, length, refl, sym, ap, ap₂, ◌∙◌, arith, append_assoc, length-append}
use Rattle.std.specs.List.{filter}
use Rattle.std.proofs.lemmas.List.Elements.{filter-append}
use Rattle.aes3_frame.specs.Blocks.{block_len}
use Rattle.aes3_lock.specs.declared.report.Report.{Report}
use Rattle.aes3_lock.specs.declared.report.Report.TheVariants.{Whole, Marked, Fault, Unfinished}
use Rattle.aes3_lock.specs.Remains.{place_of}
use Rattle.aes3_lock.specs.Reports.{wholes}
use Rattle.aes3_lock.proofs.Deciding.{block_len_24576}
use Rattle.aes3_lock.proofs.AllStanding.{wholes-append}
use Rattle.aes3_lock_gaps.specs.Gaps.{Entry, reported, lost, full_gaps, full_count, behind_full, kind, rest_gap, gaps}
use Rattle.aes3_lock_gaps.specs.Gaps.{gaps_before, behind_report, account_from, reached_from, is_lost}

-- gaps of a block's length
full-add : (p m k : ℕ) → full_gaps p (m + k) ≡ full_gaps p m ++ full_gaps (p + block_len * m) k
full-add p zero k =
    let a : 0 + k ≡ k = omega arith in
    let b : p ≡ p + block_len * 0 = rw block_len_24576 (omega arith) in
    ap (full_gaps p) a ∙ ap (λ z. full_gaps z k) b
full-add p (suc m) k =
    let a : suc m + k ≡ suc (m + k) = omega arith in
    let b : p + block_len + block_len * m ≡ p + block_len * suc m = rw block_len_24576 (omega arith) in
    ap (full_gaps p) a ∙ ap (λ z. lost p block_len ∷ z)
    (full-add (p + block_len) m k ∙ ap (λ z. full_gaps (p + block_len) m ++ full_gaps z k) b)

pub count-add : (p a b : ℕ) → a ≤ b → full_count p b ≡ full_count p a + full_count (behind_full p a) b
unfolding full_count behind_full
count-add p a b h = rw block_len_24576 (omega arith)

pub behind-join : (p a b : ℕ) → a ≤ b → behind_full (behind_full p a) b ≡ behind_full p b
unfolding behind_full full_count
behind-join p a b h = rw block_len_24576 (omega arith)

full-parts : (p a k : ℕ) → full_gaps p (full_count p a + k)
    ≡ full_gaps p (full_count p a) ++ full_gaps (behind_full p a) k
unfolding behind_full
full-parts p a k = full-add p (full_count p a) k

pub full-join : (p a b : ℕ) → a ≤ b
    → full_gaps p (full_count p b)
    ≡ full_gaps p (full_count p a) ++ full_gaps (behind_full p a) (full_count (behind_full p a) b)
full-join p a b h = ap (full_gaps p) (count-add p a b h) ∙ full-parts p a (full_count (behind_full p a) b)

pub gaps-join : (counts : Bool) (p a b : ℕ) → a ≤ b
    → gaps counts p b ≡ full_gaps p (full_count p a) ++ gaps counts (behind_full p a) b
gaps-join counts p a b h =
    ap₂ (λ x y. x ++ rest_gap counts y b) (full-join p a b h) (sym (behind-join p a b h))
    ∙ append_assoc (full_gaps p (full_count p a)) (full_gaps (behind_full p a) (full_count (behind_full p a) b))
    (rest_gap counts (behind_full (behind_full p a) b) b)

-- those before a report
pub before-join : (n p a : ℕ) (x : Report) → a ≤ place_of x
    → gaps_before n p x ≡ full_gaps p (full_count p a) ++ gaps_before n (behind_full p a) x
before-join n p a (Whole at s b) h = gaps-join _ p a at h
before-join n p a (Marked at s wrong) h = full-join p a at h
before-join n p a (Fault at cell why) h = full-join p a at h
before-join n p a (Unfinished at cells) h = full-join p a at h

pub report-join : (p a : ℕ) (x : Report) → a ≤ place_of x → behind_report p x ≡ behind_report (behind_full p a) x
report-join p a (Whole at s b) h = refl
report-join p a (Marked at s wrong) h = sym (behind-join p a at h)
report-join p a (Fault at cell why) h = sym (behind-join p a at h)
report-join p a (Unfinished at cells) h = sym (behind-join p a at h)

-- one more report
pub account-push : (n p : ℕ) (r : List Report) (x : Report)
    → account_from n p (r ++ x ∷ [])
    ≡ account_from n p r ++ (gaps_before (n + length (wholes r)) (reached_from p r) x ++ reported x ∷ [])
account-push n p [] x = let e : n ≡ n + 0 = omega arith in ap (λ m. gaps_before m p x ++ reported x ∷ []) e
account-push n p (y ∷ r) x =
    let k = ap length (wholes-append (y ∷ []) r) in
    let l = length-append (wholes (y ∷ [])) (wholes r) in
    let e : n + length (wholes (y ∷ [])) + length (wholes r) ≡ n + length (wholes (y ∷ r)) = omega (arith, k, l) in
    let f = account-push (n + length (wholes (y ∷ []))) (behind_report p y) r x in
    ap (λ z. gaps_before n p y ++ reported y ∷ z)
    (f ∙ ap (λ m. account_from (n + length (wholes (y ∷ []))) (behind_report p y) r
    ++ (gaps_before m (reached_from (behind_report p y) r) x ++ reported x ∷ [])) e)
    ∙ sym (append_assoc (gaps_before n p y)
    (reported y ∷ account_from (n + length (wholes (y ∷ []))) (behind_report p y) r)
    (gaps_before (n + length (wholes (y ∷ r))) (reached_from (behind_report p y) r) x ++ reported x ∷ []))

pub reached-push : (p : ℕ) (r : List Report) (x : Report)
    → reached_from p (r ++ x ∷ []) ≡ behind_report (reached_from p r) x
reached-push p [] x = refl
reached-push p (y ∷ r) x = reached-push (behind_report p y) r x

-- how many of them count
pub lost-append : (a b : List Entry)
    → length (filter is_lost (a ++ b)) ≡ length (filter is_lost a) + length (filter is_lost b)
lost-append a b = ap length (filter-append is_lost a b) ∙ length-append (filter is_lost a) (filter is_lost b)

pub lost-full : (p n : ℕ) → length (filter is_lost (full_gaps p n)) ≡ n
lost-full p zero = refl
lost-full p (suc n) = let r = lost-full (p + block_len) n in omega arith

pub lost-rest : (counts : Bool) (p q : ℕ) → length (filter is_lost (rest_gap counts p q)) ≤ 1
lost-rest counts p q = go counts (ltb p q)
  where
    go : (k b : Bool) → length (filter is_lost (cond b (kind k p (q - p) ∷ []) [])) ≤ 1
    go true true = omega arith
    go false true = omega arith
    go k false = omega arith

pub lost-cut : (p q : ℕ) → length (filter is_lost (rest_gap false p q)) ≡ 0
lost-cut p q = go (ltb p q)
  where
    go : (b : Bool) → length (filter is_lost (cond b (kind false p (q - p) ∷ []) [])) ≡ 0
    go true = refl
    go false = refl

pub behind-near : (p q : ℕ) → p ≤ q → behind_full p q ≤ q
unfolding behind_full full_count
behind-near p q h = rw block_len_24576 (omega arith)

pub behind-none : (p q : ℕ) → full_count p q ≡ 0 → behind_full p q ≡ p
unfolding behind_full
behind-none p q e = ap (λ z. p + block_len * z) e ∙ rw block_len_24576 (omega arith)

pub behind-far : (p q : ℕ) → p + full_count p q ≤ behind_full p q
unfolding behind_full full_count
behind-far p q = rw block_len_24576 (omega arith)

pub behind-most : (p q m : ℕ) → p ≤ m → q ≤ m → behind_full p q ≤ m
unfolding behind_full full_count
behind-most p q m h g = rw block_len_24576 (omega arith)

pub count-few : (p q : ℕ) → full_count p q ≤ q
unfolding full_count
count-few p q = rw block_len_24576 (omega arith)

pub count-near : (p q : ℕ) → q < p + block_len → full_count p q ≡ 0
unfolding full_count
count-near p q h = rw block_len_24576 (let b = block_len_24576 in omega arith)

pub count-is : (p q s k : ℕ) → s ≡ q - p → k ≡ s / 24576 → k ≡ full_count p q
unfolding full_count
count-is p q s k e f = rw block_len_24576 (omega arith)

pub behind-is : (p q k x : ℕ) → x ≡ p + block_len * k → k ≡ full_count p q → x ≡ behind_full p q
unfolding behind_full
behind-is p q k x e f = e ∙ ap (λ z. p + block_len * z) f

pub gaps-lost : (counts : Bool) (p q x l l' l'' : ℕ) → x ≡ behind_full p q → l' ≡ l + full_count p q
    → l'' ≡ l' + length (filter is_lost (rest_gap counts x q))
    → l'' ≡ l + length (filter is_lost (gaps counts p q))
gaps-lost counts p q x l l' l'' e f g =
    let a = lost-append (full_gaps p (full_count p q)) (rest_gap counts (behind_full p q) q) in
    let b = lost-full p (full_count p q) in
    let c : length (filter is_lost (rest_gap counts x q))
    ≡ length (filter is_lost (rest_gap counts (behind_full p q) q))
    = ap (λ z. length (filter is_lost (rest_gap counts z q))) e in
    omega arith

pub full-lost : (p n l l' : ℕ) → l' ≡ l + n → l' ≡ l + length (filter is_lost (full_gaps p n))
full-lost p n l l' e = let f = lost-full p n in omega arith
