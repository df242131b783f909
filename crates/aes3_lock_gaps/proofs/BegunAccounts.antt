-- The account of cells, as they come.
use Rattle.std.proofs.Common.{◌≡◌, ℕ, suc, ◌+◌, ◌-◌, ◌≤◌, ◌⊎◌, inl, inr, Bool, true, false, cond, List, [], ◌∷◌, ◌++◌}
use Rattle.std.proofs.Common.{Option, Some, None, length, refl, sym, ap, ◌∙◌, arith, append-nil, append_assoc}
use Rattle.std.proofs.Common.{length-append}
use Rattle.aes3_level.specs.declared.level.Level.{Level}
use Rattle.aes3_frame.specs.Blocks.{block_len}
use Rattle.aes3_lock.specs.declared.report.Report.{Report}
use Rattle.aes3_lock.specs.Outcomes.{Outcome}
use Rattle.aes3_lock.specs.Remains.{place_of}
use Rattle.aes3_lock.specs.Reports.{told, outcome_at, decided_at, open_at, reports, decided, wholes}
use Rattle.aes3_lock.proofs.Deciding.{answer, decided-push}
use Rattle.aes3_lock.proofs.Ends.{final}
use Rattle.aes3_lock.proofs.ReportPlaces.{split-reports, late-decided, late-reports}
use Rattle.aes3_lock_gaps.specs.Gaps.{Entry, reported, full_gaps, full_count, behind_full, gaps, gaps_before}
use Rattle.aes3_lock_gaps.specs.Gaps.{behind_report, account_from, reached_from, account, begun_account, accounted}
use Rattle.aes3_lock_gaps.proofs.GapLemmas.{behind-join, full-join, gaps-join, before-join, report-join, account-push}
use Rattle.aes3_lock_gaps.proofs.GapLemmas.{reached-push}

-- where the cells before place p of a front c of the cells are accounted for, more cells or a report begin there
pub shorter : (c d : List Level) → length c - block_len ≤ length (c ++ d) - block_len
shorter c d = let l = length-append c d in omega arith

-- the entries that more cells give which decide no report
unfoldable pub passed : List Level → List Level → List Entry
passed c d = full_gaps (accounted c) (full_count (accounted c) (length (c ++ d) - block_len))

pub begun-passed : (c d : List Level) → decided (c ++ d) ≡ decided c
    → begun_account (c ++ d) ≡ begun_account c ++ passed c d
unfolding begun_account accounted passed
begun-passed c d e =
    let p = reached_from 0 (decided c) in
    ap (λ r. account_from 0 0 r
    ++ full_gaps (reached_from 0 r) (full_count (reached_from 0 r) (length (c ++ d) - block_len))) e
    ∙ ap (λ z. account_from 0 0 (decided c) ++ z)
    (full-join p (length c - block_len) (length (c ++ d) - block_len) (shorter c d))
    ∙ sym (append_assoc (account_from 0 0 (decided c)) (full_gaps p (full_count p (length c - block_len)))
    (full_gaps (behind_full p (length c - block_len))
    (full_count (behind_full p (length c - block_len)) (length (c ++ d) - block_len))))

pub accounted-passed : (c d : List Level) → decided (c ++ d) ≡ decided c
    → accounted (c ++ d) ≡ behind_full (accounted c) (length (c ++ d) - block_len)
unfolding accounted
accounted-passed c d e =
    ap (λ r. behind_full (reached_from 0 r) (length (c ++ d) - block_len)) e
    ∙ sym (behind-join (reached_from 0 (decided c)) (length c - block_len) (length (c ++ d) - block_len) (shorter c d))

-- those that a report gives, and the account behind it
unfoldable pub with_report : List Level → Report → List Entry
with_report c x = gaps_before (length (wholes (decided c))) (accounted c) x ++ reported x ∷ []

four-joined : {A : Type 0} (a f g h k : List A) → (a ++ ((f ++ g) ++ h)) ++ k ≡ (a ++ f) ++ ((g ++ h) ++ k)
four-joined a f g h k = simp append_assoc

pub pushed-report : (c : List Level) (x : Report) (tail : List Entry) → length c ≤ place_of x + block_len
    → account_from 0 0 (decided c ++ x ∷ []) ++ tail ≡ begun_account c ++ (with_report c x ++ tail)
unfolding begun_account accounted with_report
pushed-report c x tail h =
    let r = decided c in
    let p = reached_from 0 r in
    let a = length c - block_len in
    let n = length (wholes r) in
    ap (λ z. z ++ tail) (account-push 0 0 r x ∙ ap (λ z. account_from 0 0 r ++ (z ++ reported x ∷ []))
    (ap (λ m. gaps_before m p x) (let e : 0 + n ≡ n = omega arith in e) ∙ before-join n p a x (omega arith)))
    ∙ four-joined (account_from 0 0 r) (full_gaps p (full_count p a)) (gaps_before n (behind_full p a) x)
    (reported x ∷ []) tail

pub reached-report : (c : List Level) (x : Report) → length c ≤ place_of x + block_len
    → reached_from 0 (decided c ++ x ∷ []) ≡ behind_report (accounted c) x
unfolding accounted
reached-report c x h = reached-push 0 (decided c) x
    ∙ report-join (reached_from 0 (decided c)) (length c - block_len) x (omega arith)

begun-is : (c : List Level) (r : List Report) (p : ℕ) → decided c ≡ r → reached_from 0 r ≡ p
    → begun_account c ≡ account_from 0 0 r ++ full_gaps p (full_count p (length c - block_len))
unfolding begun_account
begun-is c r p e f =
    ap (λ v. account_from 0 0 v ++ full_gaps (reached_from 0 v) (full_count (reached_from 0 v) (length c - block_len)))
    e
    ∙ ap (λ v. account_from 0 0 r ++ full_gaps v (full_count v (length c - block_len))) f

account-is : (c : List Level) (r : List Report) (p : ℕ) → reports c ≡ r → reached_from 0 r ≡ p
    → account c ≡ account_from 0 0 r ++ gaps false p (length c)
unfolding account
account-is c r p e f =
    ap (λ v. account_from 0 0 v ++ gaps false (reached_from 0 v) (length c)) e
    ∙ ap (λ v. account_from 0 0 r ++ gaps false v (length c)) f

-- more cells that decide a report
unfoldable pub taken : List Level → List Level → Report → List Entry
taken c d x =
    let p = behind_report (accounted c) x in
    with_report c x ++ full_gaps p (full_count p (length (c ++ d) - block_len))

pub begun-taken : (c d : List Level) (x : Report) → decided (c ++ d) ≡ decided c ++ x ∷ []
    → begun_account (c ++ d) ≡ begun_account c ++ taken c d x
unfolding taken
begun-taken c d x e = go (late-decided c d x e)
  where
    go : length c ≤ place_of x + block_len
        → begun_account (c ++ d) ≡ begun_account c
        ++ (with_report c x ++ full_gaps (behind_report (accounted c) x)
        (full_count (behind_report (accounted c) x) (length (c ++ d) - block_len)))
    go h =
        begun-is (c ++ d) (decided c ++ x ∷ []) (behind_report (accounted c) x) e (reached-report c x h)
        ∙ pushed-report c x (full_gaps (behind_report (accounted c) x)
        (full_count (behind_report (accounted c) x) (length (c ++ d) - block_len))) h

accounted-is : (c : List Level) (r : List Report) → decided c ≡ r
    → accounted c ≡ behind_full (reached_from 0 r) (length c - block_len)
unfolding accounted
accounted-is c r e = ap (λ v. behind_full (reached_from 0 v) (length c - block_len)) e

pub accounted-taken : (c d : List Level) (x : Report) → decided (c ++ d) ≡ decided c ++ x ∷ []
    → accounted (c ++ d) ≡ behind_full (behind_report (accounted c) x) (length (c ++ d) - block_len)
accounted-taken c d x e = accounted-is (c ++ d) (decided c ++ x ∷ []) e
    ∙ ap (λ p. behind_full p (length (c ++ d) - block_len)) (reached-report c x (late-decided c d x e))

-- the end, where it decides no report, and where it decides one
unfoldable pub closed : List Level → List Entry
closed c = gaps false (accounted c) (length c)

pub account-closed : (c : List Level) → reports c ≡ decided c ++ [] → account c ≡ begun_account c ++ closed c
unfolding begun_account accounted closed
account-closed c e =
    let p = reached_from 0 (decided c) in
    account-is c (decided c) p (e ∙ append-nil (decided c)) refl
    ∙ ap (λ z. account_from 0 0 (decided c) ++ z) (gaps-join false p (length c - block_len) (length c) (omega arith))
    ∙ sym (append_assoc (account_from 0 0 (decided c)) (full_gaps p (full_count p (length c - block_len)))
    (gaps false (behind_full p (length c - block_len)) (length c)))

unfoldable pub closed_with : List Level → Report → List Entry
closed_with c x = with_report c x ++ gaps false (behind_report (accounted c) x) (length c)

pub account-closed_with : (c : List Level) (x : Report) → reports c ≡ decided c ++ x ∷ []
    → account c ≡ begun_account c ++ closed_with c x
unfolding closed_with
account-closed_with c x e =
    let h = late-reports c x e in
    account-is c (decided c ++ x ∷ []) (behind_report (accounted c) x) e (reached-report c x h)
    ∙ pushed-report c x (gaps false (behind_report (accounted c) x) (length c)) h

-- one cell decides one report at most, and so does the end
one-told : (p : ℕ) (o : Option Outcome) → (told p o ≡ []) ⊎ ((x : Report) × (told p o ≡ x ∷ []))
one-told p None = inl refl
one-told p (Some o) = inr (_, refl)

pub one-answer : (p : ℕ) (c : List Level) (l : Level) → (answer p c l ≡ []) ⊎ ((x : Report) × (answer p c l ≡ x ∷ []))
one-answer p [] l = inl refl
one-answer p (x ∷ c) l = go (open_at (x ∷ c)) (one-answer (suc p) c l)
  where
    go : (b : Bool) → (answer (suc p) c l ≡ []) ⊎ ((x : Report) × (answer (suc p) c l ≡ x ∷ []))
        → (cond b (told p (decided_at (x ∷ c ++ l ∷ []))) (answer (suc p) c l) ≡ [])
        ⊎ ((y : Report) × (cond b (told p (decided_at (x ∷ c ++ l ∷ []))) (answer (suc p) c l) ≡ y ∷ []))
    go true r = one-told p (decided_at (x ∷ c ++ l ∷ []))
    go false r = r

pub one-final : (p : ℕ) (c : List Level) → (final p c ≡ []) ⊎ ((x : Report) × (final p c ≡ x ∷ []))
one-final p [] = inl refl
one-final p (x ∷ c) = go (open_at (x ∷ c)) (one-final (suc p) c)
  where
    go : (b : Bool) → (final (suc p) c ≡ []) ⊎ ((x : Report) × (final (suc p) c ≡ x ∷ []))
        → (cond b (told p (outcome_at (x ∷ c))) (final (suc p) c) ≡ [])
        ⊎ ((y : Report) × (cond b (told p (outcome_at (x ∷ c))) (final (suc p) c) ≡ y ∷ []))
    go true r = one-told p (outcome_at (x ∷ c))
    go false r = r

pub decided-more : (c : List Level) (l : Level) → decided (c ++ l ∷ []) ≡ decided c ++ answer 0 c l
unfolding decided
decided-more c l = decided-push 0 c l

pub begun-more : (c : List Level) (l : Level) → (m : List Entry) × (begun_account (c ++ l ∷ []) ≡ begun_account c ++ m)
begun-more c l = go (one-answer 0 c l)
  where
    go : (answer 0 c l ≡ []) ⊎ ((x : Report) × (answer 0 c l ≡ x ∷ []))
        → (m : List Entry) × (begun_account (c ++ l ∷ []) ≡ begun_account c ++ m)
    go (inl e) = (
      passed c (l ∷ []),
      begun-passed c (l ∷ []) (decided-more c l ∙ ap (λ r. decided c ++ r) e ∙ append-nil (decided c)),
    )
    go (inr x) = (taken c (l ∷ []) x.0, begun-taken c (l ∷ []) x.0 (decided-more c l ∙ ap (λ r. decided c ++ r) x.1))

pub account-more : (c : List Level) → (m : List Entry) × (account c ≡ begun_account c ++ m)
account-more c = go (one-final 0 c)
  where
    go : (final 0 c ≡ []) ⊎ ((x : Report) × (final 0 c ≡ x ∷ []))
        → (m : List Entry) × (account c ≡ begun_account c ++ m)
    go (inl e) = (closed c, account-closed c (split-reports c ∙ ap (λ r. decided c ++ r) e))
    go (inr x) = (closed_with c x.0, account-closed_with c x.0 (split-reports c ∙ ap (λ r. decided c ++ r) x.1))

-- of cells and any behind them
begun-stands : (c d : List Level) → (more : List Entry) × (begun_account (c ++ d) ≡ begun_account c ++ more)
begun-stands c [] = ([], ap begun_account (append-nil c) ∙ sym (append-nil (begun_account c)))
begun-stands c (l ∷ d) =
    let a = begun-more c l in
    let b = begun-stands (c ++ l ∷ []) d in (
      a.0 ++ b.0,
      ap begun_account (sym (append_assoc c (l ∷ []) d)) ∙ b.1 ∙ ap (λ z. z ++ b.0) a.1
          ∙ append_assoc (begun_account c) a.0 b.0,
    )

pub account-stands : (c d : List Level) → (more : List Entry) × (account (c ++ d) ≡ begun_account c ++ more)
account-stands c d =
    let a = begun-stands c d in
    let b = account-more (c ++ d) in
    (a.0 ++ b.0, b.1 ∙ ap (λ z. z ++ b.0) a.1 ∙ append_assoc (begun_account c) a.0 b.0)
