-- How long the gaps of an account are.
use Rattle.std.proofs.Common.{◌≡◌, ℕ, zero, suc, ◌+◌, ◌-◌, ◌<◌, ◌≤◌, Bool, true, false, cond, ltb, List, [], ◌∷◌}
use Rattle.std.proofs.Common.{length, refl, arith}
use Rattle.std.specs.List.{All}
use Rattle.std.proofs.lemmas.Bool.{ltb-true}
use Rattle.std.proofs.lemmas.List.Elements.{All-append, All-cons, All-nil}
use Rattle.aes3_level.specs.declared.level.Level.{Level}
use Rattle.aes3_frame.specs.Blocks.{block_len}
use Rattle.aes3_lock.specs.declared.report.Report.{Report}
use Rattle.aes3_lock.specs.declared.report.Report.TheVariants.{Whole, Marked, Fault, Unfinished}
use Rattle.aes3_lock.specs.Reports.{reports, wholes}
use Rattle.aes3_lock.proofs.Deciding.{block_len_24576}
use Rattle.aes3_lock_gaps.specs.Gaps.{Entry, reported, full_gaps, full_count, behind_full, kind, rest_gap, gaps}
use Rattle.aes3_lock_gaps.specs.Gaps.{gaps_before, behind_report, account_from, reached_from, account}
use Rattle.aes3_watch_laws.specs.GapLaws.{HasGapOfABlock}

-- gaps
abbrev Short : List Entry → Type 0
Short e = All HasGapOfABlock e

short-fulls : (p n : ℕ) → Short (full_gaps p n)
short-fulls p zero = All-nil HasGapOfABlock
short-fulls p (suc n) =
    All-cons HasGapOfABlock _ (full_gaps (p + block_len) n)
    (rw block_len_24576 (omega arith), rw block_len_24576 (omega arith))
    (short-fulls (p + block_len) n)

short-rest : (counts : Bool) (p q : ℕ) → q ≤ p + block_len → Short (rest_gap counts p q)
short-rest counts p q h = go counts (ltb p q) (ltb-true p q)
  where
    one : (k : Bool) → p < q → HasGapOfABlock (kind k p (q - p))
    one true l = (omega arith, omega arith)
    one false l = (omega arith, omega arith)

    go : (k b : Bool) → (b ≡ true → p < q) → Short (cond b (kind k p (q - p) ∷ []) [])
    go k true l = All-cons HasGapOfABlock (kind k p (q - p)) [] (one k (l refl)) (All-nil HasGapOfABlock)
    go k false l = All-nil HasGapOfABlock

near : (p q : ℕ) → q ≤ behind_full p q + block_len
unfolding behind_full full_count
near p q = rw block_len_24576 (omega arith)

short-gaps : (counts : Bool) (p q : ℕ) → Short (gaps counts p q)
short-gaps counts p q =
    All-append HasGapOfABlock (full_gaps p (full_count p q)) (rest_gap counts (behind_full p q) q)
    (short-fulls p (full_count p q))
    (short-rest counts (behind_full p q) q (near p q))

short-before : (n p : ℕ) (x : Report) → Short (gaps_before n p x)
short-before n p (Whole at s b) = short-gaps (ltb 0 n) p at
short-before n p (Marked at s wrong) = short-fulls p (full_count p at)
short-before n p (Fault at cell why) = short-fulls p (full_count p at)
short-before n p (Unfinished at cells) = short-fulls p (full_count p at)

short-from : (n p : ℕ) (r : List Report) → Short (account_from n p r)
short-from n p [] = All-nil HasGapOfABlock
short-from n p (x ∷ r) =
    let rest = account_from (n + length (wholes (x ∷ []))) (behind_report p x) r in
    All-append HasGapOfABlock (gaps_before n p x) (reported x ∷ rest) (short-before n p x)
    (All-cons HasGapOfABlock (reported x) rest tt (short-from (n + length (wholes (x ∷ []))) (behind_report p x) r))

pub account-short : (c : List Level) → Short (account c)
unfolding account
account-short c =
    let r = reports c in
    All-append HasGapOfABlock (account_from 0 0 r) (gaps false (reached_from 0 r) (length c)) (short-from 0 0 r)
    (short-gaps false (reached_from 0 r) (length c))
