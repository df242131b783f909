-- The whole blocks and the gaps of an account are all cells.
use Rattle.std.proofs.Common.{◌≡◌, ℕ, zero, suc, ◌+◌, ◌-◌, ◌*◌, ◌<◌, ◌≤◌, Bool, true, false, cond, ltb, List, [], ◌∷◌}
use Rattle.std.proofs.Common.{◌++◌, Option, Some, None, length, refl, sym, ap, ◌∙◌, subst, arith, append-nil}
use Rattle.std.proofs.lemmas.Bool.{ltb-false}
use Rattle.aes3_level.specs.declared.level.Level.{Level}
use Rattle.aes3_frame.specs.Blocks.{block_len}
use Rattle.aes3_lock.specs.declared.report.Report.{Report}
use Rattle.aes3_lock.specs.declared.report.Report.TheVariants.{Whole, Marked, Fault, Unfinished}
use Rattle.aes3_lock.specs.Outcomes.{Outcome, whole, marked, fault, unfinished}
use Rattle.aes3_lock.specs.Reports.{told, outcome_at, reports_from, reports, decided, wholes}
use Rattle.aes3_lock.proofs.Deciding.{block_len_24576}
use Rattle.aes3_lock.proofs.AllStanding.{at-standing, closed-room}
use Rattle.aes3_lock.specs.Remains.{place_of}
use Rattle.aes3_lock_gaps.specs.Gaps.{Entry, reported, lost, cut, full_gaps, full_count, behind_full, kind, rest_gap}
use Rattle.aes3_lock_gaps.specs.Gaps.{gaps, gaps_before, behind_report, account_from, reached_from, account}
use Rattle.aes3_lock_gaps.specs.Gaps.{begun_account, accounted}
use Rattle.aes3_lock_gaps.specs.Told.{reports_in}
use Rattle.aes3_lock_gaps.proofs.ToldFronts.{in-append}
use Rattle.aes3_watch_laws.specs.GapLaws.{Covers}
use Rattle.aes3_watch.proofs.Accounts.{behind-next}
use Rattle.aes3_lock_gaps.proofs.GapLemmas.{behind-near}
use Rattle.aes3_lock.proofs.ReportPlaces.{Spaced, next_place, spaced-weaker, spaced-reports, spaced-decided}

covers-join : (p m q : ℕ) (a b : List Entry) → Covers p a m → Covers m b q → Covers p (a ++ b) q
covers-join p m q [] b h g = subst (λ (k : ℕ). Covers k b q) (sym h) g
covers-join p m q (reported (Whole at s d) ∷ a) b h g = (h.0, covers-join (at + block_len) m q a b h.1 g)
covers-join p m q (reported (Marked at s wrong) ∷ a) b h g = covers-join p m q a b h g
covers-join p m q (reported (Fault at cell why) ∷ a) b h g = covers-join p m q a b h g
covers-join p m q (reported (Unfinished at cells) ∷ a) b h g = covers-join p m q a b h g
covers-join p m q (lost at n ∷ a) b h g = (h.0, covers-join (at + n) m q a b h.1 g)
covers-join p m q (cut at n ∷ a) b h g = (h.0, covers-join (at + n) m q a b h.1 g)

covers-fulls : (p n q : ℕ) → q ≡ p + block_len * n → Covers p (full_gaps p n) q
covers-fulls p zero q e = sym (e ∙ rw block_len_24576 (omega arith))
covers-fulls p (suc n) q e = (refl, covers-fulls (p + block_len) n q (e ∙ rw block_len_24576 (omega arith)))

covers-full : (p q : ℕ) → Covers p (full_gaps p (full_count p q)) (behind_full p q)
unfolding behind_full
covers-full p q = covers-fulls p (full_count p q) (p + block_len * full_count p q) refl

covers-rest : (counts : Bool) (p q : ℕ) → p ≤ q → Covers p (rest_gap counts p q) q
covers-rest counts p q h = go counts (ltb p q) refl
  where
    go : (k b : Bool) → ltb p q ≡ b → Covers p (cond b (kind k p (q - p) ∷ []) []) q
    go true true e = (refl, omega arith)
    go false true e = (refl, omega arith)
    go k false e = let l = ltb-false p q e in omega arith

covers-gaps : (counts : Bool) (p q : ℕ) → p ≤ q → Covers p (gaps counts p q) q
covers-gaps counts p q h =
    covers-join p (behind_full p q) q (full_gaps p (full_count p q)) (rest_gap counts (behind_full p q) q)
    (covers-full p q)
    (covers-rest counts (behind_full p q) q (behind-near p q h))

-- a report behind the gaps before it
covers-before : (n p q : ℕ) (x : Report) (e : List Entry) → p ≤ place_of x → Covers (behind_report p x) e q
    → Covers p (gaps_before n p x ++ reported x ∷ e) q
covers-before n p q (Whole at s b) e h g
    = covers-join p at q (gaps (ltb 0 n) p at) (reported (Whole at s b) ∷ e) (covers-gaps (ltb 0 n) p at h) (refl, g)
covers-before n p q (Marked at s wrong) e h g
    = covers-join p (behind_full p at) q (full_gaps p (full_count p at)) (reported (Marked at s wrong) ∷ e)
    (covers-full p at) g
covers-before n p q (Fault at cell why) e h g
    = covers-join p (behind_full p at) q (full_gaps p (full_count p at)) (reported (Fault at cell why) ∷ e)
    (covers-full p at) g
covers-before n p q (Unfinished at cells) e h g
    = covers-join p (behind_full p at) q (full_gaps p (full_count p at)) (reported (Unfinished at cells) ∷ e)
    (covers-full p at) g

covers-from : (n p : ℕ) (r : List Report) → Spaced p r → Covers p (account_from n p r) (reached_from p r)
covers-from n p [] s = refl
covers-from n p (x ∷ r) s =
    covers-before n p (reached_from (behind_report p x) r) x
    (account_from (n + length (wholes (x ∷ []))) (behind_report p x) r) s.0
    (covers-from (n + length (wholes (x ∷ []))) (behind_report p x) r
    (spaced-weaker (behind_report p x) (next_place x) r (behind-next p x s.0) s.1))

-- no report ends behind all cells
abbrev pub EndsUpTo : ℕ → List Report → Type 0
EndsUpTo m [] = Unit {0}
EndsUpTo m (Whole at s b ∷ r) = (at + block_len ≤ m) × EndsUpTo m r
EndsUpTo m (Marked at s wrong ∷ r) = (at ≤ m) × EndsUpTo m r
EndsUpTo m (Fault at cell why ∷ r) = (at ≤ m) × EndsUpTo m r
EndsUpTo m (Unfinished at cells ∷ r) = (at ≤ m) × EndsUpTo m r

ends-from : (m p : ℕ) (c : List Level) → p + length c ≤ m → EndsUpTo m (reports_from p c)
ends-from m p [] h = tt
ends-from m p (x ∷ c) h = go (outcome_at (x ∷ c)) refl (ends-from m (suc p) c (omega arith))
  where
    go : (o : Option Outcome) → outcome_at (x ∷ c) ≡ o → EndsUpTo m (reports_from (suc p) c)
        → EndsUpTo m (told p o ++ reports_from (suc p) c)
    go None e r = r
    go (Some (whole s b)) e r = let l = closed-room b s (x ∷ c) (at-standing b s (x ∷ c) e) in (omega arith, r)
    go (Some (marked s wrong)) e r = (omega arith, r)
    go (Some (fault f)) e r = (omega arith, r)
    go (Some (unfinished n)) e r = (omega arith, r)

reached-within : (m p : ℕ) (r : List Report) → p ≤ m → Spaced p r → EndsUpTo m r → reached_from p r ≤ m
reached-within m p [] h s e = h
reached-within m p (Whole at t b ∷ r) h s e = reached-within m (at + block_len) r e.0 s.1 e.1
reached-within m p (Marked at t wrong ∷ r) h s e =
    let l = behind-near p at s.0 in let g = e.0 in reached-within m (behind_full p at) r (omega arith)
    (spaced-weaker (behind_full p at) (suc at) r (omega arith) s.1) e.1
reached-within m p (Fault at cell why ∷ r) h s e =
    let l = behind-near p at s.0 in let g = e.0 in reached-within m (behind_full p at) r (omega arith)
    (spaced-weaker (behind_full p at) (suc at) r (omega arith) s.1) e.1
reached-within m p (Unfinished at cells ∷ r) h s e =
    let l = behind-near p at s.0 in let g = e.0 in reached-within m (behind_full p at) r (omega arith)
    (spaced-weaker (behind_full p at) (suc at) r (omega arith) s.1) e.1

pub ends-reports : (c : List Level) → EndsUpTo (length c) (reports c)
unfolding reports
ends-reports c = ends-from (length c) 0 c (omega arith)

pub account-covers : (c : List Level) → Covers 0 (account c) (length c)
unfolding account
account-covers c =
    let r = reports c in
    covers-join 0 (reached_from 0 r) (length c) (account_from 0 0 r) (gaps false (reached_from 0 r) (length c))
    (covers-from 0 0 r (spaced-reports c))
    (covers-gaps false (reached_from 0 r) (length c)
    (reached-within (length c) 0 r (omega arith) (spaced-reports c) (ends-reports c)))

-- its reports are all
in-full : (p n : ℕ) → reports_in (full_gaps p n) ≡ []
in-full p zero = refl
in-full p (suc n) = in-full (p + block_len) n

in-rest : (counts : Bool) (p q : ℕ) → reports_in (rest_gap counts p q) ≡ []
in-rest counts p q = go counts (ltb p q)
  where
    go : (k b : Bool) → reports_in (cond b (kind k p (q - p) ∷ []) []) ≡ []
    go true true = refl
    go false true = refl
    go k false = refl

in-gaps : (counts : Bool) (p q : ℕ) → reports_in (gaps counts p q) ≡ []
in-gaps counts p q =
    in-append (full_gaps p (full_count p q)) (rest_gap counts (behind_full p q) q)
    ∙ ap (λ z. z ++ reports_in (rest_gap counts (behind_full p q) q)) (in-full p (full_count p q))
    ∙ in-rest counts (behind_full p q) q

in-before : (n p : ℕ) (x : Report) → reports_in (gaps_before n p x) ≡ []
in-before n p (Whole at s b) = in-gaps (ltb 0 n) p at
in-before n p (Marked at s wrong) = in-full p (full_count p at)
in-before n p (Fault at cell why) = in-full p (full_count p at)
in-before n p (Unfinished at cells) = in-full p (full_count p at)

in-from : (n p : ℕ) (r : List Report) → reports_in (account_from n p r) ≡ r
in-from n p [] = refl
in-from n p (x ∷ r) =
    in-append (gaps_before n p x) (reported x ∷ account_from (n + length (wholes (x ∷ []))) (behind_report p x) r)
    ∙ ap (λ z. z ++ x ∷ reports_in (account_from (n + length (wholes (x ∷ []))) (behind_report p x) r))
    (in-before n p x)
    ∙ ap (λ z. x ∷ z) (in-from (n + length (wholes (x ∷ []))) (behind_report p x) r)

pub account-reports : (c : List Level) → reports_in (account c) ≡ reports c
unfolding account
account-reports c =
    let r = reports c in
    in-append (account_from 0 0 r) (gaps false (reached_from 0 r) (length c))
    ∙ ap (λ z. reports_in (account_from 0 0 r) ++ z) (in-gaps false (reached_from 0 r) (length c))
    ∙ append-nil (reports_in (account_from 0 0 r)) ∙ in-from 0 0 r

-- and in time
pub begun-covers : (c : List Level) → Covers 0 (begun_account c) (accounted c)
unfolding begun_account accounted
begun-covers c =
    let r = decided c in
    let p = reached_from 0 r in
    let q = length c - block_len in
    covers-join 0 p (behind_full p q) (account_from 0 0 r) (full_gaps p (full_count p q))
    (covers-from 0 0 r (spaced-decided c)) (covers-full p q)

behind-soon : (p n : ℕ) → n < behind_full p (n - block_len) + 2 * block_len
unfolding behind_full full_count
behind-soon p n = rw block_len_24576 (omega arith)

pub accounted-soon : (c : List Level) → length c < accounted c + 2 * block_len
unfolding accounted
accounted-soon c = behind-soon (reached_from 0 (decided c)) (length c)
