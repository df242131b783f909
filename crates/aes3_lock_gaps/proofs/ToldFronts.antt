-- The account of cells behind what has been told of it.
use Rattle.std.proofs.Common.{◌≡◌, ℕ, ◌+◌, ◌≤◌, ◌⊎◌, inl, inr, List, [], ◌∷◌}
use Rattle.std.proofs.Common.{◌++◌, length, refl, sym, ap, ap₂, ◌∙◌, subst, arith, append-nil}
use Rattle.std.proofs.Common.{append_assoc, length-append}
use Rattle.aes3_lock.specs.declared.report.Report.{Report}
use Rattle.aes3_lock.specs.Reports.{wholes}
use Rattle.aes3_lock.proofs.AllStanding.{wholes-append}
use Rattle.aes3_lock_gaps.specs.declared.gap.Due.{Due}
use Rattle.aes3_lock_gaps.specs.Gaps.{Entry, reported, lost, cut, gaps_before}
use Rattle.aes3_lock_gaps.specs.Gaps.{behind_report, account_from, reached_from}
use Rattle.aes3_lock_gaps.specs.Told.{behind_entries, behind_entry, due_gaps, reports_in}
use Rattle.aes3_lock_gaps.proofs.NextGaps.{Next, NextBefore, NoneBefore, before-view, due-view}

-- what is left to tell behind place p, of the reports r and the gaps that are due behind them
abbrev pub left_from : ℕ → ℕ → List Report → Due → List Entry
left_from n p r d = account_from n p r ++ due_gaps (reached_from p r) d

record Step (n p : ℕ) (r : List Report) (d : Due) (y : Entry) (more : List Entry) : Type 0 where
  rest : List Report
  told : r ≡ reports_in (y ∷ []) ++ rest
  is : more ≡ left_from (n + length (wholes (reports_in (y ∷ [])))) (behind_entry p y) rest d
  further : reports_in (y ∷ []) ≡ [] → p ≤ behind_entry p y

same-head : (from : ℕ → List Entry) (p : ℕ) (m : Next from p) (t : List Entry) (y : Entry) (more : List Entry)
    → from p ++ t ≡ y ∷ more → (m.gap ≡ y) × (from (behind_entry p m.gap) ++ t ≡ more)
same-head from p m t y more h =
    let e : m.gap ∷ (from (behind_entry p m.gap) ++ t) ≡ y ∷ more = ap (λ z. z ++ t) (sym m.is) ∙ h in
    (cc, cc)

quiet-count : (n : ℕ) (y : Entry) → reports_in (y ∷ []) ≡ [] → n ≡ n + length (wholes (reports_in (y ∷ [])))
quiet-count n y q = rw q (omega arith)

step : (n p : ℕ) (r : List Report) (d : Due) (y : Entry) (more : List Entry) → left_from n p r d ≡ y ∷ more
    → Step n p r d y more
step n p [] d y more h = go (due-view p d)
  where
    go : (due_gaps p d ≡ []) ⊎ Next (λ m. due_gaps m d) p → Step n p [] d y more
    go (inl e) = let f = sym e ∙ h in cc
    go (inr m) =
        let g = same-head (λ m. due_gaps m d) p m [] y more (append-nil (due_gaps p d) ∙ h) in
        let q : reports_in (y ∷ []) ≡ [] = subst (λ (g : Entry). reports_in (g ∷ []) ≡ []) g.0 m.quiet in
        record {
          rest = [];
          told = sym (ap (λ z. z ++ []) q);
          is = sym g.1 ∙ append-nil (due_gaps (behind_entry p m.gap) d)
              ∙ ap (λ z. due_gaps (behind_entry p z) d) g.0;
          further = λ _. subst (λ (g : Entry). p ≤ behind_entry p g) g.0 m.further;
        }
step n p (x ∷ r) d y more h = go (before-view n p x)
  where
    t : ℕ → List Entry
    t q = reported x ∷ left_from (n + length (wholes (x ∷ []))) (behind_report q x) r d

    all : (q : ℕ) → left_from n q (x ∷ r) d ≡ gaps_before n q x ++ t q
    all q = append_assoc (gaps_before n q x)
        (reported x ∷ account_from (n + length (wholes (x ∷ []))) (behind_report q x) r)
        (due_gaps (reached_from (behind_report q x) r) d)

    go : NoneBefore n p x ⊎ NextBefore n p x → Step n p (x ∷ r) d y more
    go (inl e) = (
        let f : t p ≡ y ∷ more = ap (λ z. z ++ t p) (sym e.none) ∙ sym (all p) ∙ h in
        let g : reported x ≡ y = cc in
        let k : left_from (n + length (wholes (x ∷ []))) (behind_report p x) r d ≡ more = cc in
        rw (sym g) (record {
          rest = r;
          told = refl;
          is = sym k ∙ ap (λ q. left_from (n + length (wholes (x ∷ []))) q r d) e.reached;
          further = λ q. cc;
        }))
    go (inr m) = (
        let g = same-head (λ q. gaps_before n q x) p m.next (t p) y more (sym (all p) ∙ h) in
        let q : reports_in (y ∷ []) ≡ [] = subst (λ (g : Entry). reports_in (g ∷ []) ≡ []) g.0 m.next.quiet in
        record {
          rest = x ∷ r;
          told = sym (ap (λ z. z ++ x ∷ r) q);
          is = sym g.1
              ∙ ap (λ z. gaps_before n (behind_entry p m.next.gap) x
              ++ reported x ∷ left_from (n + length (wholes (x ∷ []))) z r d) m.reached
              ∙ sym (all (behind_entry p m.next.gap))
              ∙ ap₂ (λ k z. left_from k z (x ∷ r) d) (quiet-count n y q) (ap (behind_entry p) g.0);
          further = λ _. subst (λ (g : Entry). p ≤ behind_entry p g) g.0 m.next.further;
        })

-- what is left behind entries that are told
pub record Left (n p : ℕ) (r : List Report) (d : Due) (e more : List Entry) : Type 0 where
  pub rest : List Report
  pub told : r ≡ reports_in e ++ rest
  pub is : more ≡ left_from (n + length (wholes (reports_in e))) (behind_entries p e) rest d
  pub further : reports_in e ≡ [] → p ≤ behind_entries p e

in-cons : (y : Entry) (e : List Entry) → reports_in (y ∷ e) ≡ reports_in (y ∷ []) ++ reports_in e
in-cons (reported x) e = refl
in-cons (lost at n) e = refl
in-cons (cut at n) e = refl

nil-parts : {A : Type 0} (a b : List A) → a ++ b ≡ [] → (a ≡ []) × (b ≡ [])
nil-parts [] b h = (refl, h)
nil-parts (x ∷ a) b h = cc

pub left-behind : (n p : ℕ) (r : List Report) (d : Due) (e more : List Entry) → left_from n p r d ≡ e ++ more
    → Left n p r d e more
left-behind n p r d [] more h = record {
  rest = r;
  told = refl;
  is = sym h ∙ ap (λ k. left_from k p r d) (let k : n ≡ n + 0 = omega arith in k);
  further = λ _. omega arith;
}
left-behind n p r d (y ∷ e) more h =
    let s = step n p r d y (e ++ more) h in
    let m = n + length (wholes (reports_in (y ∷ []))) in
    let k = left-behind m (behind_entry p y) s.rest d e more (sym s.is) in
    let a = ap (λ z. length (wholes z)) (in-cons y e) in
    let b = ap length (wholes-append (reports_in (y ∷ [])) (reports_in e)) in
    let l = length-append (wholes (reports_in (y ∷ []))) (wholes (reports_in e)) in
    let count : m + length (wholes (reports_in e)) ≡ n + length (wholes (reports_in (y ∷ e))) = omega arith in
    record {
      rest = k.rest;
      told = s.told ∙ ap (λ z. reports_in (y ∷ []) ++ z) k.told
          ∙ sym (append_assoc (reports_in (y ∷ [])) (reports_in e) k.rest)
          ∙ ap (λ z. z ++ k.rest) (sym (in-cons y e));
      is = k.is ∙ ap (λ j. left_from j (behind_entries p (y ∷ e)) k.rest d) count;
      further = λ q. (
          let parts = nil-parts (reports_in (y ∷ [])) (reports_in e) (sym (in-cons y e) ∙ q) in
          let f = s.further parts.0 in
          let g = k.further parts.1 in
          omega arith);
    }

-- entries behind others
pub in-append : (a b : List Entry) → reports_in (a ++ b) ≡ reports_in a ++ reports_in b
in-append [] b = refl
in-append (y ∷ a) b = in-cons y (a ++ b) ∙ ap (λ z. reports_in (y ∷ []) ++ z) (in-append a b)
    ∙ sym (append_assoc (reports_in (y ∷ [])) (reports_in a) (reports_in b))
    ∙ ap (λ z. z ++ reports_in b) (sym (in-cons y a))

pub behind-append : (p : ℕ) (a b : List Entry) → behind_entries p (a ++ b) ≡ behind_entries (behind_entries p a) b
behind-append p [] b = refl
behind-append p (y ∷ a) b = behind-append (behind_entry p y) a b

-- two fronts of the same entries
pub compare : {A : Type 0} (a b x y : List A) → a ++ x ≡ b ++ y
    → ((z : List A) × (b ≡ a ++ z) × (x ≡ z ++ y)) ⊎ ((z : List A) × (a ≡ b ++ z) × (y ≡ z ++ x))
compare [] b x y h = inl (b, refl, h)
compare (u ∷ a) [] x y h = inr (u ∷ a, refl, sym h)
compare (u ∷ a) (v ∷ b) x y h =
    let q : u ≡ v = cc in
    go (compare a b x y (let r : a ++ x ≡ b ++ y = cc in r))
  where
    go : ((z : List _) × (b ≡ a ++ z) × (x ≡ z ++ y)) ⊎ ((z : List _) × (a ≡ b ++ z) × (y ≡ z ++ x))
        → ((z : List _) × (v ∷ b ≡ u ∷ a ++ z) × (x ≡ z ++ y)) ⊎ ((z : List _) × (u ∷ a ≡ v ∷ b ++ z) × (y ≡ z ++ x))
    go (inl m) = let q : u ≡ v = cc in inl (m.0, ap₂ (λ i j. i ∷ j) (sym q) m.1, m.2)
    go (inr m) = let q : u ≡ v = cc in inr (m.0, ap₂ (λ i j. i ∷ j) q m.1, m.2)
