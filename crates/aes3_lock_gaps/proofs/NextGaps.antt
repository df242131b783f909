-- The next gap between two places, and before a report.
use Rattle.std.proofs.Common.{◌≡◌, ℕ, ◌+◌, ◌-◌, ◌*◌, ◌<◌, ◌≤◌, ◌⊎◌, inl, inr, Bool, true, false, cond, ltb, List}
use Rattle.std.proofs.Common.{[], ◌∷◌, ◌++◌, Option, Some, None, refl, sym, ap, ap₂, ◌∙◌, subst, arith}
use Rattle.std.proofs.lemmas.Bool.{cases_lt, ltb-true, lt-ltb}
use Rattle.aes3_frame.specs.Blocks.{block_len}
use Rattle.aes3_lock.specs.declared.report.Report.{Report}
use Rattle.aes3_lock.specs.declared.report.Report.TheVariants.{Whole, Marked, Fault, Unfinished}
use Rattle.aes3_lock.specs.Remains.{place_of}
use Rattle.aes3_lock.proofs.Deciding.{block_len_24576}
use Rattle.aes3_lock_gaps.specs.declared.gap.Due.{Due}
use Rattle.aes3_lock_gaps.specs.Gaps.{Entry, reported, lost, full_gaps, full_count, behind_full, kind, rest_gap, gaps}
use Rattle.aes3_lock_gaps.specs.Gaps.{gaps_before, behind_report}
use Rattle.aes3_lock_gaps.specs.Told.{behind_entry, due_gaps, gaps_up_to, reports_in}
use Rattle.aes3_lock_gaps.proofs.GapLemmas.{behind-join, full-join, gaps-join, before-join, report-join, behind-none}
use Rattle.aes3_lock_gaps.proofs.GapLemmas.{count-near}

-- a gap of a block's length
one : (p : ℕ) → full_count p (p + block_len) ≡ 1
unfolding full_count
one p = rw block_len_24576 (omega arith)

next : (p : ℕ) → behind_full p (p + block_len) ≡ p + block_len
unfolding behind_full
next p = ap (λ n. p + block_len * n) (one p) ∙ rw block_len_24576 (omega arith)

pub full-next : (p q : ℕ) → p + block_len ≤ q
    → full_gaps p (full_count p q) ≡ lost p block_len ∷ full_gaps (p + block_len) (full_count (p + block_len) q)
full-next p q h = full-join p (p + block_len) q h
    ∙ ap₂ (λ n m. full_gaps p n ++ full_gaps m (full_count m q)) (one p) (next p)

gaps-next : (counts : Bool) (p q : ℕ) → p + block_len ≤ q
    → gaps counts p q ≡ lost p block_len ∷ gaps counts (p + block_len) q
gaps-next counts p q h = gaps-join counts p (p + block_len) q h
    ∙ ap₂ (λ n m. full_gaps p n ++ gaps counts m q) (one p) (next p)

before-next : (n p : ℕ) (x : Report) → p + block_len ≤ place_of x
    → gaps_before n p x ≡ lost p block_len ∷ gaps_before n (p + block_len) x
before-next n p x h = before-join n p (p + block_len) x h
    ∙ ap₂ (λ k m. full_gaps p k ++ gaps_before n m x) (one p) (next p)

report-next : (p : ℕ) (x : Report) → p + block_len ≤ place_of x → behind_report p x ≡ behind_report (p + block_len) x
report-next p x h = report-join p (p + block_len) x h ∙ ap (λ m. behind_report m x) (next p)

pub behind-next : (p q : ℕ) → p + block_len ≤ q → behind_full p q ≡ behind_full (p + block_len) q
behind-next p q h = sym (behind-join p (p + block_len) q h) ∙ ap (λ m. behind_full m q) (next p)

pub due-next : (p : ℕ) (d : Due) → p + block_len ≤ d.to → due_gaps p d ≡ lost p block_len ∷ due_gaps (p + block_len) d
due-next p d h = go d.short
  where
    go : (o : Option Bool) → gaps_up_to o p d.to ≡ lost p block_len ∷ gaps_up_to o (p + block_len) d.to
    go None = full-next p d.to h
    go (Some counts) = gaps-next counts p d.to h

-- none of it
pub full-none : (p q : ℕ) → q < p + block_len → full_gaps p (full_count p q) ≡ []
full-none p q h = ap (full_gaps p) (count-near p q h)

pub full-behind : (p q : ℕ) → q < p + block_len → behind_full p q ≡ p
full-behind p q h = behind-none p q (count-near p q h)

rest-only : (counts : Bool) (p q : ℕ) → q < p + block_len → gaps counts p q ≡ rest_gap counts p q
rest-only counts p q h = ap₂ (λ n m. full_gaps p n ++ rest_gap counts m q) (count-near p q h) (full-behind p q h)

rest-is : (counts : Bool) (p q : ℕ) → p < q → rest_gap counts p q ≡ kind counts p (q - p) ∷ []
rest-is counts p q h = ap (λ b. cond b (kind counts p (q - p) ∷ []) []) (lt-ltb p q h)

rest-none : (counts : Bool) (p q : ℕ) → q ≤ p → rest_gap counts p q ≡ []
rest-none counts p q h = go (ltb p q) (ltb-true p q)
  where
    go : (b : Bool) → (b ≡ true → p < q) → cond b (kind counts p (q - p) ∷ []) [] ≡ []
    go true l = let e = l refl in absurd (omega arith)
    go false l = refl

pub gaps-none : (counts : Bool) (p q : ℕ) → q ≤ p → gaps counts p q ≡ []
gaps-none counts p q h =
    rest-only counts p q (let b = block_len_24576 in omega arith) ∙ rest-none counts p q h

-- the cells that are left
pub gaps-last : (counts : Bool) (p q : ℕ) → q < p + block_len → p < q
    → gaps counts p q ≡ kind counts p (q - p) ∷ gaps counts q q
gaps-last counts p q h l = rest-only counts p q h ∙ rest-is counts p q l
    ∙ ap (λ e. kind counts p (q - p) ∷ e) (sym (gaps-none counts q q (omega arith)))

kind-behind : (counts : Bool) (p q : ℕ) → p ≤ q → behind_entry p (kind counts p (q - p)) ≡ q
kind-behind true p q h = omega arith
kind-behind false p q h = omega arith

pub kind-quiet : (counts : Bool) (p n : ℕ) → reports_in (kind counts p n ∷ []) ≡ []
kind-quiet true p n = refl
kind-quiet false p n = refl

-- a gap that begins at place p, and what is left behind it
pub record Next (from : ℕ → List Entry) (p : ℕ) : Type 0 where
  pub gap : Entry
  pub is : from p ≡ gap ∷ from (behind_entry p gap)
  pub quiet : reports_in (gap ∷ []) ≡ []
  pub further : p ≤ behind_entry p gap

next-full : (from : ℕ → List Entry) (p : ℕ) → from p ≡ lost p block_len ∷ from (p + block_len) → Next from p
next-full from p e = record { gap = lost p block_len; is = e; quiet = refl; further = omega arith }

next-last : (from : ℕ → List Entry) (counts : Bool) (p q : ℕ) → p < q → from p ≡ kind counts p (q - p) ∷ from q
    → Next from p
next-last from counts p q h e = record {
  gap = kind counts p (q - p);
  is = e ∙ ap (λ m. kind counts p (q - p) ∷ from m) (sym (kind-behind counts p q (omega arith)));
  quiet = kind-quiet counts p (q - p);
  further = (let b = kind-behind counts p q (omega arith) in omega arith);
}

-- those that are due are none, or have a next
pub due-view : (p : ℕ) (d : Due) → (due_gaps p d ≡ []) ⊎ Next (λ m. due_gaps m d) p
due-view p d = go d.short (cases_lt d.to (p + block_len)) (cases_lt p d.to)
  where
    go : (o : Option Bool) → (d.to < p + block_len) ⊎ (p + block_len ≤ d.to) → (p < d.to) ⊎ (d.to ≤ p)
        → (gaps_up_to o p d.to ≡ []) ⊎ Next (λ m. gaps_up_to o m d.to) p
    go None (inr h) l = inr (next-full (λ m. gaps_up_to None m d.to) p (full-next p d.to h))
    go None (inl h) l = inl (full-none p d.to h)
    go (Some counts) (inr h) l = inr (next-full (λ m. gaps counts m d.to) p (gaps-next counts p d.to h))
    go (Some counts) (inl h) (inl l) =
        inr (next-last (λ m. gaps counts m d.to) counts p d.to l (gaps-last counts p d.to h l))
    go (Some counts) (inl h) (inr l) = inl (gaps-none counts p d.to l)

-- and those before a report, with the place behind it
pub record NextBefore (n p : ℕ) (x : Report) : Type 0 where
  pub next : Next (λ m. gaps_before n m x) p
  pub reached : behind_report p x ≡ behind_report (behind_entry p next.gap) x

pub record NoneBefore (n p : ℕ) (x : Report) : Type 0 where
  pub none : gaps_before n p x ≡ []
  pub reached : behind_report p x ≡ behind_entry p (reported x)

pub before-view : (n p : ℕ) (x : Report) → NoneBefore n p x ⊎ NextBefore n p x
unfolding next-full next-last
before-view n p x = go x (cases_lt (place_of x) (p + block_len)) (cases_lt p (place_of x))
  where
    go : (x : Report) → (place_of x < p + block_len) ⊎ (p + block_len ≤ place_of x)
        → (p < place_of x) ⊎ (place_of x ≤ p)
        → NoneBefore n p x ⊎ NextBefore n p x
    go x (inr h) l = inr (record {
      next = next-full (λ m. gaps_before n m x) p (before-next n p x h);
      reached = report-next p x h;
    })
    go (Whole at s b) (inl h) (inl l) = inr (record {
      next = next-last (λ m. gaps_before n m (Whole at s b)) (ltb 0 n) p at l (gaps-last (ltb 0 n) p at h l);
      reached = refl;
    })
    go (Whole at s b) (inl h) (inr l) = inl (record { none = gaps-none (ltb 0 n) p at l; reached = refl })
    go (Marked at s wrong) (inl h) l = inl (record { none = full-none p at h; reached = full-behind p at h })
    go (Fault at cell why) (inl h) l = inl (record { none = full-none p at h; reached = full-behind p at h })
    go (Unfinished at cells) (inl h) l = inl (record { none = full-none p at h; reached = full-behind p at h })

-- one gap that is told
pub told-one : {A : Type 0} (P : A → Type 0) (v x : A) → Some v ≡ Some x → P v → P x
told-one P v x e h = let q : v ≡ x = cc in subst P q h
