-- The account of cells, as they come.
use Rattle.std.proofs.Common.{◌≡◌, ℕ, ◌+◌, ◌-◌, ◌*◌, ◌^◌, ◌<◌, ◌≤◌, ◌⊎◌, inl, inr, Bool, false, ltb}
use Rattle.std.proofs.Common.{List, [], ◌∷◌, ◌++◌, length, drop, refl, sym, ap, ap₂, ◌∙◌, subst}
use Rattle.std.proofs.Common.{arith, length-append}
use Rattle.std.specs.List.{filter}
use Rattle.std.proofs.lemmas.Grind.{flat_map-append}
use Rattle.std.proofs.lemmas.List.{append_cancel_left, drop_at}
use Rattle.aes3_level.specs.declared.level.Level.{Level}
use Rattle.aes3_cell.specs.declared.form.Form.{Form}
use Rattle.aes3_cell.specs.declared.counts.Counts.{Counts}
use Rattle.aes3_frame.specs.Blocks.{block_len, block_subframes}
use Rattle.aes3_lock.specs.declared.report.Report.{Report}
use Rattle.aes3_lock.specs.declared.report.Report.TheVariants.{Whole, Marked, Fault, Unfinished}
use Rattle.aes3_lock.specs.Reports.{reports, decided, wholes}
use Rattle.aes3_lock.proofs.Deciding.{block_len_24576}
use Rattle.aes3_lock.proofs.AllStanding.{wholes-append}
use Rattle.aes3_lock.proofs.Ends.{final}
use Rattle.aes3_input.specs.Taking.{behind, before_end, with_end}
use Rattle.aes3_input.specs.Inputs.{cells_of}
use Rattle.aes3_input.specs.Driving.{counted_cells}
use Rattle.aes3_input.proofs.CellRuns.{cells-give}
use Rattle.aes3_input.proofs.InputRuns.{Gives}
use Rattle.aes3_lock_runs.specs.ReportRuns.{counts_of, heard_cells}
use Rattle.aes3_lock.proofs.Tallies.{tallies-few, few-decided}
use Rattle.aes3_input.proofs.Items.{before-is, before-join as end-join}
use Rattle.aes3_status.specs.declared.lines.Lines.{Lines}
use Rattle.aes3_lock.specs.Remains.{place_of}
use Rattle.aes3_lock_gaps.specs.Gaps.{Entry, reported, full_gaps, full_count, behind_full, rest_gap, gaps, gaps_before}
use Rattle.aes3_lock_gaps.specs.Gaps.{behind_report, account_from, reached_from, account, begun_account, accounted}
use Rattle.aes3_lock_gaps.specs.Gaps.{is_lost}
use Rattle.aes3_watch.specs.GapLines.{entry_line, account_lines}
use Rattle.aes3_watch.specs.Accounting.{Accounts, Accounted, account_counts, accounting}
use Rattle.aes3_lock_gaps.proofs.GapLemmas.{lost-append, lost-full, lost-rest, behind-near, behind-far}
use Rattle.aes3_lock_gaps.proofs.GapLemmas.{behind-most, count-few}
use Rattle.aes3_lock.proofs.ReportPlaces.{UpTo, Spaced, next_place, upto-last, spaced-weaker, spaced-decided}
use Rattle.aes3_lock.proofs.ReportPlaces.{spaced-reports, near-decided, near-reports, split-reports}
use Rattle.aes3_lock_gaps.proofs.BegunAccounts.{account-closed, account-closed_with, account-more, accounted-passed}
use Rattle.aes3_lock_gaps.proofs.BegunAccounts.{accounted-taken, begun-more, begun-passed, begun-taken, closed}
use Rattle.aes3_lock_gaps.proofs.BegunAccounts.{closed_with, one-final, passed, taken, with_report}

pub starts : {p : ℕ} → p ≡ 0 → Accounts p 0 []
unfolding accounted begun_account behind_full full_count decided block_len block_subframes
starts e = record { place_is = e; lost_is = refl }

pub starts-found : {found : Bool} → found ≡ ltb 0 (length (wholes [])) → found ≡ ltb 0 (length (wholes (decided [])))
unfolding decided
starts-found e = e

-- what the listener of an account writes
adds-is : (lines : Lines) (c : List Level) (l : Level)
    → account_lines lines (drop (length (begun_account c)) (begun_account (c ++ l ∷ []))) ≡ (accounting lines).adds c l
unfolding accounting
adds-is lines c l = refl

ends-is : (lines : Lines) (c : List Level)
    → (accounting lines).ends c ≡ account_lines lines (drop (length (begun_account c)) (account c))
unfolding accounting
ends-is lines c = refl

lines-more : (lines : Lines) (a b m : List Entry) → b ≡ a ++ m
    → account_lines lines b ≡ account_lines lines a ++ account_lines lines (drop (length a) b)
lines-more lines a b m e =
    ap (account_lines lines) e ∙ flat_map-append (entry_line lines) a m
    ∙ ap (λ z. account_lines lines a ++ account_lines lines z)
    (sym (ap (drop (length a)) e ∙ drop_at a m (length a) refl))

begins : (lines : Lines) → account_lines lines (begun_account []) ≡ []
unfolding accounted begun_account behind_full full_count decided block_len block_subframes
begins lines = refl

pub before-account : (lines : Lines) (c : List Level)
    → before_end (accounting lines) c ≡ account_lines lines (begun_account c)
before-account lines c =
    before-is (accounting lines) (λ c. account_lines lines (begun_account c)) (begins lines)
    (λ c l. let m = begun-more c l in lines-more lines (begun_account c) (begun_account (c ++ l ∷ [])) m.0 m.1
    ∙ ap (λ z. account_lines lines (begun_account c) ++ z) (adds-is lines c l)) c

pub with-account : (lines : Lines) (c : List Level) → with_end (accounting lines) c ≡ account_lines lines (account c)
unfolding with_end
with-account lines c =
    let m = account-more c in
    ap₂ (λ x y. x ++ y) (before-account lines c) (ends-is lines c)
    ∙ sym (lines-more lines (begun_account c) (account c) m.0 m.1)

pub behind-account : (lines : Lines) (c d : List Level) (m : List Entry) → begun_account (c ++ d) ≡ begun_account c ++ m
    → behind (accounting lines) c d ≡ account_lines lines m
behind-account lines c d m e =
    append_cancel_left (account_lines lines (begun_account c)) (behind (accounting lines) c d) (account_lines lines m)
    (ap (λ z. z ++ behind (accounting lines) c d) (sym (before-account lines c)) ∙ sym (end-join (accounting lines) c d)
    ∙ before-account lines (c ++ d)
    ∙ ap (account_lines lines) e ∙ flat_map-append (entry_line lines) (begun_account c) m)

pub ends-account : (lines : Lines) (c : List Level) (m : List Entry) → account c ≡ begun_account c ++ m
    → (accounting lines).ends c ≡ account_lines lines m
ends-account lines c m e = ends-is lines c
    ∙ ap (account_lines lines)
    (ap (drop (length (begun_account c))) e ∙ drop_at (begun_account c) m (length (begun_account c)) refl)

-- the cells before the last block's
pub less : (s n m : ℕ) → s ≡ n - 24576 → n ≡ m → s ≡ m - block_len
less s n m e f = rw block_len_24576 (omega arith)

-- the lines of more cells that decide no report
pub pass-lines : (lines : Lines) (p s : ℕ) (c d : List Level) → p ≡ accounted c → s ≡ length (c ++ d) - block_len
    → decided (c ++ d) ≡ decided c
    → account_lines lines (full_gaps p (full_count p s)) ≡ behind (accounting lines) c d
unfolding passed
pass-lines lines p s c d e f q =
    ap₂ (λ x y. account_lines lines (full_gaps x (full_count x y))) e f
    ∙ sym (behind-account lines c d (passed c d) (begun-passed c d q))

pub pass-accounts : {p l : ℕ} (p' l' s : ℕ) (c d : List Level) → Accounts p l c
    → decided (c ++ d) ≡ decided c → s ≡ length (c ++ d) - block_len
    → p' ≡ behind_full p s → l' ≡ l + full_count p s → Accounts p' l' (c ++ d)
unfolding passed
pass-accounts {p} {l} p' l' s c d h q e g k =
    let a = ap (λ z. length (filter is_lost z)) (begun-passed c d q) in
    let w = lost-append (begun_account c) (passed c d) in
    let x = lost-full (accounted c) (full_count (accounted c) (length (c ++ d) - block_len)) in
    let y : full_count p s ≡ full_count (accounted c) (length (c ++ d) - block_len) = ap₂ full_count h.place_is e in
    let z = h.lost_is in record {
      place_is = g ∙ ap₂ behind_full h.place_is e ∙ sym (accounted-passed c d q);
      lost_is = omega arith;
    }

-- of a report, and of cells behind it
pub report-lines : (lines : Lines) (n p : ℕ) (c : List Level) (x : Report) → n ≡ length (wholes (decided c))
    → p ≡ accounted c
    → account_lines lines (gaps_before n p x ++ reported x ∷ []) ≡ account_lines lines (with_report c x)
unfolding with_report
report-lines lines n p c x e f = ap₂ (λ m q. account_lines lines (gaps_before m q x ++ reported x ∷ [])) e f

pub take-lines : (lines : Lines) (p' s : ℕ) (c d : List Level) (x : Report) → p' ≡ behind_report (accounted c) x
    → s ≡ length (c ++ d) - block_len
    → decided (c ++ d) ≡ decided c ++ x ∷ []
    → account_lines lines (with_report c x) ++ account_lines lines (full_gaps p' (full_count p' s))
    ≡ behind (accounting lines) c d
unfolding taken
take-lines lines p' s c d x e f q =
    sym (flat_map-append (entry_line lines) (with_report c x) (full_gaps p' (full_count p' s)))
    ∙ ap₂ (λ y z. account_lines lines (with_report c x ++ full_gaps y (full_count y z))) e f
    ∙ sym (behind-account lines c d (taken c d x) (begun-taken c d x q))

pub more-wholes : {n : ℕ} (c d : List Level) (x : Report) → n ≡ length (wholes (decided c))
    → decided (c ++ d) ≡ decided c ++ x ∷ [] → n + length (wholes (x ∷ [])) ≡ length (wholes (decided (c ++ d)))
more-wholes c d x e q =
    let w = ap length (wholes-append (decided c) (x ∷ [])) in
    let l = length-append (wholes (decided c)) (wholes (x ∷ [])) in
    let p = ap (λ r. length (wholes r)) q in
    omega (arith, e, w, l, p)

pub take-accounts : {p l b : ℕ} (p' l' p'' l'' s : ℕ) (c d : List Level) (x : Report)
    → Accounts p l c → decided (c ++ d) ≡ decided c ++ x ∷ [] → s ≡ length (c ++ d) - block_len
    → p' ≡ behind_report p x → l' ≡ l + length (filter is_lost (gaps_before b p x))
    → b ≡ length (wholes (decided c))
    → p'' ≡ behind_full p' s → l'' ≡ l' + full_count p' s → Accounts p'' l'' (c ++ d)
unfolding taken with_report
take-accounts {p} {l} {b} p' l' p'' l'' s c d x h q e g k t g' k' =
    let w = length (wholes (decided c)) in
    let r = accounted c in
    let m = behind_report r x in
    let j : p' ≡ m = g ∙ ap (λ v. behind_report v x) h.place_is in
    let a = ap (λ z. length (filter is_lost z)) (begun-taken c d x q) in
    let i = lost-append (begun_account c) (taken c d x) in
    let n = lost-append (gaps_before w r x ++ reported x ∷ [])
    (full_gaps m (full_count m (length (c ++ d) - block_len))) in
    let o = lost-append (gaps_before w r x) (reported x ∷ []) in
    let v = lost-full m (full_count m (length (c ++ d) - block_len)) in
    let y : full_count p' s ≡ full_count m (length (c ++ d) - block_len) = ap₂ full_count j e in
    let z : length (filter is_lost (gaps_before b p x)) ≡ length (filter is_lost (gaps_before w r x))
    = ap₂ (λ α β. length (filter is_lost (gaps_before α β x))) t h.place_is in
    let z' = h.lost_is in record {
      place_is = g' ∙ ap₂ behind_full j e ∙ sym (accounted-taken c d x q);
      lost_is = omega arith;
    }

-- of the end
pub close-lines : (lines : Lines) (p n : ℕ) (c : List Level) → p ≡ accounted c → n ≡ length c
    → reports c ≡ decided c ++ []
    → account_lines lines (gaps false p n) ≡ (accounting lines).ends c
unfolding closed
close-lines lines p n c e f q
    = ap₂ (λ x y. account_lines lines (gaps false x y)) e f ∙ sym (ends-account lines c (closed c) (account-closed c q))

pub close-accounts : {p l : ℕ} (l' n : ℕ) (c : List Level) → Accounts p l c → reports c ≡ decided c ++ []
    → n ≡ length c → n ≤ 2 ^ 43
    → l' ≡ l + length (filter is_lost (gaps false p n)) → Accounted l' c
unfolding closed
close-accounts {p} {l} l' n c h q e s k =
    let a = ap (λ z. length (filter is_lost z)) (account-closed c q) in
    let w = lost-append (begun_account c) (closed c) in
    let y : length (filter is_lost (gaps false p n)) ≡ length (filter is_lost (gaps false (accounted c) (length c)))
    = ap₂ (λ α β. length (filter is_lost (gaps false α β))) h.place_is e in
    let z = h.lost_is in record {
      short = omega arith;
      lost_is = omega arith;
    }

pub close_with-lines : (lines : Lines) (p' n : ℕ) (c : List Level) (x : Report) → p' ≡ behind_report (accounted c) x
    → n ≡ length c → reports c ≡ decided c ++ x ∷ []
    → account_lines lines (with_report c x) ++ account_lines lines (gaps false p' n) ≡ (accounting lines).ends c
unfolding closed_with
close_with-lines lines p' n c x e f q =
    sym (flat_map-append (entry_line lines) (with_report c x) (gaps false p' n))
    ∙ ap₂ (λ y z. account_lines lines (with_report c x ++ gaps false y z)) e f
    ∙ sym (ends-account lines c (closed_with c x) (account-closed_with c x q))

pub close_with-accounts : {p l b : ℕ} (p' l' l'' n : ℕ) (c : List Level) (x : Report)
    → Accounts p l c → reports c ≡ decided c ++ x ∷ [] → n ≡ length c → n ≤ 2 ^ 43
    → p' ≡ behind_report p x → l' ≡ l + length (filter is_lost (gaps_before b p x))
    → b ≡ length (wholes (decided c))
    → l'' ≡ l' + length (filter is_lost (gaps false p' n)) → Accounted l'' c
unfolding closed_with with_report
close_with-accounts {p} {l} {b} p' l' l'' n c x h q e s g k t k' =
    let w = length (wholes (decided c)) in
    let r = accounted c in
    let m = behind_report r x in
    let j : p' ≡ m = g ∙ ap (λ v. behind_report v x) h.place_is in
    let a = ap (λ z. length (filter is_lost z)) (account-closed_with c x q) in
    let i = lost-append (begun_account c) (closed_with c x) in
    let o' = lost-append (gaps_before w r x ++ reported x ∷ []) (gaps false m (length c)) in
    let o = lost-append (gaps_before w r x) (reported x ∷ []) in
    let y : length (filter is_lost (gaps false p' n)) ≡ length (filter is_lost (gaps false m (length c)))
    = ap₂ (λ α β. length (filter is_lost (gaps false α β))) j e in
    let z : length (filter is_lost (gaps_before b p x)) ≡ length (filter is_lost (gaps_before w r x))
    = ap₂ (λ α β. length (filter is_lost (gaps_before α β x))) t h.place_is in
    let z' = h.lost_is in record {
      short = omega arith;
      lost_is = omega arith;
    }

pub reached-is : {p l : ℕ} (p' : ℕ) (c : List Level) (x : Report) → Accounts p l c → p' ≡ behind_report p x
    → p' ≡ behind_report (accounted c) x
reached-is p' c x h e = e ∙ ap (λ v. behind_report v x) h.place_is

-- fewer gaps count than there are cells
before-few : (n p : ℕ) (x : Report) → p ≤ place_of x
    → length (filter is_lost (gaps_before n p x)) + p ≤ behind_report p x
before-few n p (Whole at s b) h =
    let a = lost-append (full_gaps p (full_count p at)) (rest_gap (ltb 0 n) (behind_full p at) at) in
    let f = lost-full p (full_count p at) in
    let r = lost-rest (ltb 0 n) (behind_full p at) at in
    let k = behind-far p at in
    let l = behind-near p at h in
    let m = block_len_24576 in
    omega arith
before-few n p (Marked at s wrong) h = let f = lost-full p (full_count p at) in let k = behind-far p at in omega arith
before-few n p (Fault at cell why) h = let f = lost-full p (full_count p at) in let k = behind-far p at in omega arith
before-few n p (Unfinished at cells) h = let f = lost-full p (full_count p at) in let k = behind-far p at in omega arith

pub behind-next : (p : ℕ) (x : Report) → p ≤ place_of x → behind_report p x ≤ next_place x
behind-next p (Whole at s b) h = omega arith
behind-next p (Marked at s wrong) h = let l = behind-near p at h in omega arith
behind-next p (Fault at cell why) h = let l = behind-near p at h in omega arith
behind-next p (Unfinished at cells) h = let l = behind-near p at h in omega arith

lost-few : (n p : ℕ) (r : List Report) → Spaced p r
    → length (filter is_lost (account_from n p r)) + p ≤ reached_from p r
lost-few n p [] s = omega arith
lost-few n p (x ∷ r) s =
    let a = lost-append (gaps_before n p x)
    (reported x ∷ account_from (n + length (wholes (x ∷ []))) (behind_report p x) r) in
    let f = before-few n p x s.0 in
    let g = lost-few (n + length (wholes (x ∷ []))) (behind_report p x) r
    (spaced-weaker (behind_report p x) (next_place x) r (behind-next p x s.0) s.1) in
    omega arith

behind-limit : (m p : ℕ) (x : Report) → p ≤ m + block_len → place_of x ≤ m → behind_report p x ≤ m + block_len
behind-limit m p (Whole at s b) h g = omega arith
behind-limit m p (Marked at s wrong) h g = behind-most p at (m + block_len) h (omega arith)
behind-limit m p (Fault at cell why) h g = behind-most p at (m + block_len) h (omega arith)
behind-limit m p (Unfinished at cells) h g = behind-most p at (m + block_len) h (omega arith)

reached-limit : (m p : ℕ) (r : List Report) → p ≤ m + block_len → UpTo m r → reached_from p r ≤ m + block_len
reached-limit m p [] h u = h
reached-limit m p (x ∷ r) h u = reached-limit m (behind_report p x) r (behind-limit m p x h u.0) u.1

pub few-lost : (c : List Level) → length (filter is_lost (begun_account c)) ≤ length c + block_len
unfolding begun_account
few-lost c =
    let p = reached_from 0 (decided c) in
    let q = length c - block_len in
    let a = lost-append (account_from 0 0 (decided c)) (full_gaps p (full_count p q)) in
    let f = lost-few 0 0 (decided c) (spaced-decided c) in
    let g = lost-full p (full_count p q) in
    let k = behind-far p q in
    let l = behind-most p q (length c + block_len)
    (reached-limit (length c) 0 (decided c) (omega arith) (near-decided c)) (omega arith) in
    omega arith

-- so the counters do not run over
pub lost-room : {p l : ℕ} (c d : List Level) (n : ℕ) → Accounts p l c → n ≡ length (c ++ d) → n ≤ 2 ^ 43
    → l ≤ 2 ^ 43 + 24576
lost-room c d n h e s =
    let a = h.lost_is in
    let f = few-lost c in
    let m = block_len_24576 in
    let k = length-append c d in
    omega arith

pub near-new : (c d : List Level) (x : Report) (n : ℕ) → decided (c ++ d) ≡ decided c ++ x ∷ [] → n ≡ length (c ++ d)
    → place_of x ≤ n
near-new c d x n q e = let u = upto-last (length (c ++ d)) (decided c) x
    (subst (UpTo (length (c ++ d))) q (near-decided (c ++ d))) in omega arith

pub near-last : (c : List Level) (x : Report) (n : ℕ) → reports c ≡ decided c ++ x ∷ [] → n ≡ length c → place_of x ≤ n
near-last c x n q e = let u = upto-last (length c) (decided c) x (subst (UpTo (length c)) q (near-reports c))
    in omega arith

pub few-reports : (c : List Level) → length (reports c) ≤ length c + 1
few-reports c =
    let e = ap length (split-reports c) in
    let a = length-append (decided c) (final 0 c) in
    let d = few-decided c in
    let f = final-few (one-final 0 c) in
    omega arith
  where
    final-few : (final 0 c ≡ []) ⊎ ((x : Report) × (final 0 c ≡ x ∷ [])) → length (final 0 c) ≤ 1
    final-few (inl e) = let l = ap length e in omega arith
    final-few (inr x) = let l = ap length x.1 in omega arith

all-lost : (c : List Level) → length (filter is_lost (account c)) ≤ 2 * length c + block_len + 1
unfolding account
all-lost c =
    let p = reached_from 0 (reports c) in
    let n = length c in
    let a = lost-append (account_from 0 0 (reports c)) (gaps false p n) in
    let f = lost-few 0 0 (reports c) (spaced-reports c) in
    let b = lost-append (full_gaps p (full_count p n)) (rest_gap false (behind_full p n) n) in
    let g = lost-full p (full_count p n) in
    let h = lost-rest false (behind_full p n) n in
    let k = count-few p n in
    let l = reached-limit n 0 (reports c) (omega arith) (near-reports c) in
    omega arith

-- the counts of a run
pub few-faults : (form : Form) (b : List ℕ) {n : Counts} → n ≡ counts_of form b
    → n.faults ≤ length (cells_of form b) + 1
unfolding counts_of
few-faults form b e =
    let r = reports (cells_of form b) in
    let n = ap (λ (v : Counts). v.faults) e in
    let f = (tallies-few {r = r} (record { blocks_is = refl; faults_is = refl; unfinished_is = refl })).few_faults in
    let l = few-reports (cells_of form b) in
    omega (arith, n, f, l)

pub sum-room : (form : Form) (b : List ℕ) {n : Counts} {l : ℕ} → n ≡ counts_of form b
    → Accounted l (cells_of form b) → n.faults + l < 2 ^ 64
sum-room form b e h =
    let s = h.short in
    let l = h.lost_is in
    let a = all-lost (cells_of form b) in
    let f = few-faults form b e in
    let m = block_len_24576 in
    omega arith

-- with so many losses among the faults
abbrev pub with_losses : Counts → ℕ → Counts
with_losses n l = record {
  bytes = n.bytes;
  cells = n.cells;
  blocks = n.blocks;
  faults = n.faults + l;
  unfinished = n.unfinished;
  marks = n.marks;
}

pub counted : (form : Form) (b : List ℕ) {n : Counts} {l : ℕ} → n ≡ counts_of form b
    → Accounted l (cells_of form b) → with_losses n l ≡ account_counts form b
unfolding account_counts counts_of
counted form b {n} {l} e t =
    ap (λ (v : Counts). with_losses v l) e ∙ ap (λ (k : ℕ). with_losses (counts_of form b) k) t.lost_is

-- the run
pub gives-account : {A : Type 0} (form : Form) {l lines : Lines} (z : A → List Level → Type 0) → l ≡ lines
    → Gives (heard_cells form (accounting l) z) (counted_cells form (λ c. account_lines lines (account c))
    (λ c. account_lines lines (begun_account c)) (account_counts form))
gives-account form {l} {lines} z e =
    cells-give form (λ c. account_lines lines (account c)) (λ c. account_lines lines (begun_account c))
    (λ c. with-account l c ∙ ap (λ v. account_lines v (account c)) e)
    (λ c. before-account l c ∙ ap (λ v. account_lines v (begun_account c)) e)
