-- Where entries and events lie, and what gaps and reports come to.
use Rattle.std.proofs.Common.{◌≡◌, ℕ, zero, suc, ◌+◌, ◌-◌, ◌*◌, ◌<◌, ◌≤◌, ◌⊎◌, inl, inr, Bool, true, false, cond, ltb}
use Rattle.std.proofs.Common.{eqb, List, [], ◌∷◌, ◌++◌, Option, Some, None, length, refl, sym, ap, ◌∙◌, subst, arith}
use Rattle.std.proofs.Common.{append-nil, append_assoc, ap₂}
use Rattle.std.specs.Prelude.{◌||◌}
use Rattle.std.specs.List.{sum_by}
use Rattle.std.specs.Str.{bytes_eq}
use Rattle.std.proofs.lemmas.Bool.{cases_lt, eq-eqb, eqb-true, ltb-true, ltb-false, lt-ltb}
use Rattle.std.proofs.lemmas.List.Sums.{sum_by-cons}
use Rattle.aes3_level.specs.declared.level.Level.{Level}
use Rattle.aes3_frame.specs.Blocks.{block_len}
use Rattle.aes3_frame.specs.declared.block.Channel.{Channel}
use Rattle.aes3_frame.specs.declared.block.Channel.TheVariants.{First, Second}
use Rattle.aes3_lock.specs.declared.report.Report.{Report}
use Rattle.aes3_lock.specs.declared.report.Report.TheVariants.{Whole, Marked, Fault, Unfinished}
use Rattle.aes3_lock.specs.Remains.{place_of}
use Rattle.aes3_lock.specs.Reports.{wholes}
use Rattle.aes3_lock.proofs.Deciding.{block_len_24576}
use Rattle.aes3_text_lines.specs.declared.event.Event.{Event}
use Rattle.aes3_text_lines.specs.declared.event.Event.TheVariants.{Back, End, Locked, Lost, Slipped, Status, Validity}
use Rattle.aes3_text_lines.specs.declared.sum.Figures.{Figures}
use Rattle.aes3_lock_gaps.specs.Gaps.{Entry, reported, lost, cut, full_gaps, full_count, behind_full, kind, rest_gap}
use Rattle.aes3_lock_gaps.specs.Gaps.{gaps, gaps_before, behind_report, account_from, reached_from}
use Rattle.aes3_watch.specs.Kept.{ChannelSignals, Signals, Watched}
use Rattle.aes3_watch.specs.Signals.{change_events, marking_of, same_marking, signals_of, status_events}
use Rattle.aes3_watch.specs.Signals.{validity_events}
use Rattle.aes3_watch.specs.Sums.{change_of, changes_in, counted_report, says, with_lost, with_whole}
use Rattle.aes3_watch.specs.Watching.{behind_reports, events_from, is_told, loss_events, next, told_events, up_to}
use Rattle.aes3_watch.specs.Watching.{whole_events}
use Rattle.aes3_lock_gaps.proofs.GapLemmas.{behind-near, count-near}
use Rattle.aes3_lock.proofs.ReportPlaces.{Spaced, next_place, spaced-weaker}
use Rattle.aes3_watch.proofs.WatchedCells.{either, loss-told, or-false, up-is-told}
use Rattle.aes3_watch_laws.specs.PeriodLaws.{counts_at, figures_of, in_64_bits, lost_cells, told_at}
use Rattle.aes3_watch_laws.proofs.PeriodLists.{AllBefore, AllFrom, all-before-join, all-before-more, all-from-join}
use Rattle.aes3_watch_laws.proofs.PeriodLists.{fit-more, fit-same, plus, same-figures}

pub times-suc : (a n : ℕ) → a * suc n ≡ a + a * n
times-suc a n = grind arith

-- at one place
abbrev AllAt : {X : Type 0} → (X → ℕ) → ℕ → List X → Type 0
AllAt place q [] = Unit {0}
AllAt place q (x ∷ xs) = (place x ≡ q) × AllAt place q xs

at-join : {X : Type 0} (place : X → ℕ) (q : ℕ) (a b : List X) → AllAt place q a → AllAt place q b
    → AllAt place q (a ++ b)
at-join place q [] b h g = g
at-join place q (x ∷ a) b h g = (h.0, at-join place q a b h.1 g)

at-before : {X : Type 0} (place : X → ℕ) (q z : ℕ) (a : List X) → q < z → AllAt place q a → AllBefore place z a
at-before place q z [] l h = tt
at-before place q z (x ∷ a) l h = (let g = h.0 in omega arith, at-before place q z a l h.1)

at-from : {X : Type 0} (place : X → ℕ) (q z : ℕ) (a : List X) → z ≤ q → AllAt place q a → AllFrom place z a
at-from place q z [] l h = tt
at-from place q z (x ∷ a) l h = (let g = h.0 in omega arith, at-from place q z a l h.1)

-- gaps of a block's length
full-at : (p : ℕ) → counts_at (lost p block_len) ≡ p + block_len - 1
full-at p = ap (λ (b : Bool). cond b (p + block_len - 1) (p + block_len)) (eq-eqb block_len block_len refl)

pub full-from : (q p n : ℕ) → q < p + block_len → AllFrom counts_at q (full_gaps p n)
full-from q p zero h = tt
full-from q p (suc n) h =
    (subst (λ k. q ≤ k) (sym (full-at p)) (omega arith), full-from q (p + block_len) n (omega arith))

full-before : (q p n m : ℕ) → m ≡ p + block_len * n → m ≤ q → AllBefore counts_at q (full_gaps p n)
full-before q p zero m e h = tt
full-before q p (suc n) m e h =
    let t = times-suc block_len n in
    let l = block_len_24576 in (
      subst (λ k. k < q) (sym (full-at p)) (omega arith),
      full-before q (p + block_len) n m (omega arith) h,
    )

pub chunk-before : (p q : ℕ) → AllBefore counts_at q (full_gaps p (full_count p q))
unfolding behind_full
chunk-before p q = go (cases_lt q p)
  where
    go : (q < p) ⊎ (p ≤ q) → AllBefore counts_at q (full_gaps p (full_count p q))
    go (inl l) = subst (λ n. AllBefore counts_at q (full_gaps p n)) (sym (count-near p q (omega arith))) tt
    go (inr l) = full-before q p (full_count p q) (behind_full p q) refl (behind-near p q l)

pub behind-past : (p q : ℕ) → q < behind_full p q + block_len
unfolding behind_full full_count
behind-past p q = rw block_len_24576 (omega arith)

pub behind-on : (p q : ℕ) → p ≤ behind_full p q
unfolding behind_full full_count
behind-on p q = rw block_len_24576 (omega arith)

-- the gap behind them
rest-at : (counts : Bool) (p q : ℕ) → q < p + block_len → AllAt counts_at q (rest_gap counts p q)
rest-at counts p q h = go counts (ltb p q) refl
  where
    short : (b : Bool) → eqb (q - p) block_len ≡ b → p < q → cond b (p + block_len - 1) (p + (q - p)) ≡ q
    short true e l = let f = eqb-true (q - p) block_len e in absurd (omega arith)
    short false e l = omega arith

    go : (k t : Bool) → ltb p q ≡ t → AllAt counts_at q (cond t (kind k p (q - p) ∷ []) [])
    go true true e = (short (eqb (q - p) block_len) refl (ltb-true p q e), tt)
    go false true e = (let l = ltb-true p q e in omega arith, tt)
    go k false e = tt

pub cut-from : (a p n : ℕ) → a ≤ n → AllFrom counts_at a (rest_gap false p n)
cut-from a p n h = go (ltb p n)
  where
    go : (t : Bool) → AllFrom counts_at a (cond t (cut p (n - p) ∷ []) [])
    go true = (omega arith, tt)
    go false = tt

-- what stands before a report behind the gaps of a block's length
abbrev pub rest_before : ℕ → ℕ → Report → List Entry
rest_before m p (Whole at s b) = rest_gap (ltb 0 m) p at
rest_before m p (Marked at s wrong) = []
rest_before m p (Fault at cell why) = []
rest_before m p (Unfinished at cells) = []

pub before-split : (m p : ℕ) (x : Report)
    → gaps_before m p x
    ≡ full_gaps p (full_count p (place_of x)) ++ rest_before m (behind_full p (place_of x)) x
before-split m p (Whole at s b) = refl
before-split m p (Marked at s wrong) = sym (append-nil (full_gaps p (full_count p at)))
before-split m p (Fault at cell why) = sym (append-nil (full_gaps p (full_count p at)))
before-split m p (Unfinished at cells) = sym (append-nil (full_gaps p (full_count p at)))

report-at : (m p : ℕ) (x : Report) → place_of x < p + block_len
    → AllAt counts_at (place_of x) (rest_before m p x ++ reported x ∷ [])
report-at m p (Whole at s b) h = at-join counts_at at (rest_gap (ltb 0 m) p at) (reported (Whole at s b) ∷ [])
    (rest-at (ltb 0 m) p at h) (refl, tt)
report-at m p (Marked at s wrong) h = (refl, tt)
report-at m p (Fault at cell why) h = (refl, tt)
report-at m p (Unfinished at cells) h = (refl, tt)

pub report-before : (m p z : ℕ) (x : Report) → place_of x < p + block_len → place_of x < z
    → AllBefore counts_at z (rest_before m p x ++ reported x ∷ [])
report-before m p z x h l =
    at-before counts_at (place_of x) z (rest_before m p x ++ reported x ∷ []) l (report-at m p x h)

pub report-from : (m p a : ℕ) (x : Report) → place_of x < p + block_len → a ≤ place_of x
    → AllFrom counts_at a (rest_before m p x ++ reported x ∷ [])
report-from m p a x h l = at-from counts_at (place_of x) a (rest_before m p x ++ reported x ∷ []) l (report-at m p x h)

-- all entries behind a place
place-behind : (p : ℕ) (x : Report) → p ≤ place_of x + block_len → p ≤ behind_report p x
place-behind p (Whole at s b) h = h
place-behind p (Marked at s wrong) h = behind-on p at
place-behind p (Fault at cell why) h = behind-on p at
place-behind p (Unfinished at cells) h = behind-on p at

stays-behind : (a p : ℕ) (x : Report) → a < p + block_len → a ≤ place_of x → a < behind_report p x + block_len
stays-behind a p (Whole at s b) h l = let m = block_len_24576 in omega arith
stays-behind a p (Marked at s wrong) h l = let b = behind-on p at in omega arith
stays-behind a p (Fault at cell why) h l = let b = behind-on p at in omega arith
stays-behind a p (Unfinished at cells) h l = let b = behind-on p at in omega arith

spaced-on : (a : ℕ) (x : Report) (r : List Report) → a ≤ place_of x → Spaced (next_place x) r → Spaced a r
spaced-on a (Whole at s b) r h l = spaced-weaker a (at + block_len) r (omega arith) l
spaced-on a (Marked at s wrong) r h l = spaced-weaker a (suc at) r (omega arith) l
spaced-on a (Fault at cell why) r h l = spaced-weaker a (suc at) r (omega arith) l
spaced-on a (Unfinished at cells) r h l = spaced-weaker a (suc at) r (omega arith) l

four : (a b c : List Entry) (x : Entry) → (a ++ b) ++ x ∷ c ≡ a ++ ((b ++ x ∷ []) ++ c)
four a b c x = simp append_assoc

pub account-split : (m p : ℕ) (x : Report) (rest : List Entry)
    → gaps_before m p x ++ reported x ∷ rest
    ≡ full_gaps p (full_count p (place_of x))
    ++ ((rest_before m (behind_full p (place_of x)) x ++ reported x ∷ []) ++ rest)
account-split m p x rest =
    ap (λ z. z ++ reported x ∷ rest) (before-split m p x)
    ∙ four (full_gaps p (full_count p (place_of x))) (rest_before m (behind_full p (place_of x)) x) rest (reported x)

pub account-behind : (a m p : ℕ) (r : List Report) → a < p + block_len → Spaced a r
    → AllFrom counts_at a (account_from m p r)
account-behind a m p [] h s = tt
account-behind a m p (x ∷ r) h s =
    let n = m + length (wholes (x ∷ [])) in
    let q = behind_report p x in
    subst (AllFrom counts_at a) (sym (account-split m p x (account_from n q r)))
    (all-from-join counts_at a (full_gaps p (full_count p (place_of x)))
    ((rest_before m (behind_full p (place_of x)) x ++ reported x ∷ []) ++ account_from n q r)
    (full-from a p (full_count p (place_of x)) h)
    (all-from-join counts_at a (rest_before m (behind_full p (place_of x)) x ++ reported x ∷ []) (account_from n q r)
    (report-from m (behind_full p (place_of x)) a x (behind-past p (place_of x)) s.0)
    (account-behind a n q r (stays-behind a p x h s.0) (spaced-on a x r s.0 s.1))))

reached-behind : (a p : ℕ) (r : List Report) → a < p + block_len → Spaced a r → a < reached_from p r + block_len
reached-behind a p [] h s = h
reached-behind a p (x ∷ r) h s =
    reached-behind a (behind_report p x) r (stays-behind a p x h s.0) (spaced-on a x r s.0 s.1)

pub entries-behind : (a m p n : ℕ) (r : List Report) → a < p + block_len → Spaced a r → a ≤ n
    → AllFrom counts_at a (account_from m p r ++ gaps false (reached_from p r) n)
entries-behind a m p n r h s l =
    let q = reached_from p r in
    all-from-join counts_at a (account_from m p r) (gaps false q n) (account-behind a m p r h s)
    (all-from-join counts_at a (full_gaps q (full_count q n)) (rest_gap false (behind_full q n) n)
    (full-from a q (full_count q n) (reached-behind a p r h s)) (cut-from a (behind_full q n) n l))

-- events
pub loss-before : (w : Watched) (q : ℕ) → AllBefore told_at q (loss_events w q)
loss-before w q = go (either (is_told w q))
  where
    go : (is_told w q ≡ true) ⊎ (is_told w q ≡ false) → AllBefore told_at q (loss_events w q)
    go (inl e) = subst (AllBefore told_at q) (sym (loss-told w q true e)) tt
    go (inr e) =
        let l = ltb-false (q - w.place) block_len (or-false w.lost _ e).1 in
        let m = block_len_24576 in
        subst (AllBefore told_at q) (sym (loss-told w q false e)) (omega arith, tt)

other : (x y : Bool) → x ≡ false → (x || y) ≡ true → y ≡ true
other false y e h = h
other true y e h = cc

near-place : (w : Watched) (a : ℕ) → w.lost ≡ false → is_told w a ≡ true → a < w.place + block_len
near-place w a e h = let l = ltb-true (a - w.place) block_len (other w.lost _ e h) in omega arith

pub loss-from : (w : Watched) (a q : ℕ) → is_told w a ≡ true → AllFrom told_at a (loss_events w q)
loss-from w a q h = go (either (is_told w q))
  where
    go : (is_told w q ≡ true) ⊎ (is_told w q ≡ false) → AllFrom told_at a (loss_events w q)
    go (inl e) = subst (AllFrom told_at a) (sym (loss-told w q true e)) tt
    go (inr e) =
        let l = near-place w a (or-false w.lost _ e).0 h in
        subst (AllFrom told_at a) (sym (loss-told w q false e)) (omega arith, tt)

pub no-loss : (w : Watched) (q : ℕ) → is_told w q ≡ true → loss_events w q ≡ []
no-loss w q e = loss-told w q true e

pub told-less : (w : Watched) (a b : ℕ) → a ≤ b → is_told w b ≡ true → is_told w a ≡ true
told-less w a b l h = go (either (is_told w a))
  where
    go : (is_told w a ≡ true) ⊎ (is_told w a ≡ false) → is_told w a ≡ true
    go (inl e) = e
    go (inr e) =
        let o = or-false w.lost (ltb (a - w.place) block_len) e in
        let f = ltb-false (a - w.place) block_len o.1 in
        let g = near-place w b o.0 h in
        let m = block_len_24576 in
        absurd (omega arith)

-- where a report's cells end, as far as they are known to be none of the next one's
abbrev pub stop : Report → ℕ
stop (Whole at s b) = at + block_len
stop (Marked at s wrong) = at
stop (Fault at cell why) = at
stop (Unfinished at cells) = at

pub stop-far : (x : Report) → place_of x ≤ stop x
stop-far (Whole at s b) = omega arith
stop-far (Marked at s wrong) = omega arith
stop-far (Fault at cell why) = omega arith
stop-far (Unfinished at cells) = omega arith

pub stop-spaced : (x : Report) (r : List Report) → Spaced (next_place x) r → Spaced (stop x) r
stop-spaced (Whole at s b) r h = h
stop-spaced (Marked at s wrong) r h = spaced-weaker at (suc at) r (omega arith) h
stop-spaced (Fault at cell why) r h = spaced-weaker at (suc at) r (omega arith) h
stop-spaced (Unfinished at cells) r h = spaced-weaker at (suc at) r (omega arith) h

pub stop-behind : (p : ℕ) (x : Report) → stop x < behind_report p x + block_len
stop-behind p (Whole at s b) = let m = block_len_24576 in omega arith
stop-behind p (Marked at s wrong) = behind-past p at
stop-behind p (Fault at cell why) = behind-past p at
stop-behind p (Unfinished at cells) = behind-past p at

pub told-next : (w : Watched) (x : Report) → is_told (next w x) (stop x) ≡ true
told-next w (Whole at s b) =
    let m = block_len_24576 in lt-ltb (at + block_len - (at + block_len)) block_len (omega arith)
told-next w (Marked at s wrong) = up-is-told w at
told-next w (Fault at cell why) = up-is-told w at
told-next w (Unfinished at cells) = up-is-told w at

whole-at : (w : Watched) (at : ℕ) (s : Level) → AllAt told_at at (whole_events w at s)
whole-at w at s = go w.found w.lost (ltb w.place at)
  where
    go : (f l p : Bool) → AllAt told_at at
        (cond f (cond l (Back at (at - w.place) ∷ []) (cond p (Slipped at (at - w.place) ∷ []) [])) (Locked at s ∷ []))
    go true true p = (refl, tt)
    go true false true = (refl, tt)
    go true false false = tt
    go false l p = (refl, tt)

status-at : (at : ℕ) (channel : Channel) (b now : ChannelSignals) → AllAt told_at at (status_events at channel b now)
status-at at channel b now = go (bytes_eq b.status now.status)
  where
    go : (t : Bool) → AllAt told_at at (cond {A = List Event} t [] (Status at channel now.status ∷ []))
    go true = tt
    go false = (refl, tt)

validity-at : (at : ℕ) (channel : Channel) (b now : ChannelSignals)
    → AllAt told_at at (validity_events at channel b now)
validity-at at channel b now = go (same_marking (marking_of b.invalid) (marking_of now.invalid))
  where
    go : (t : Bool) → AllAt told_at at (cond {A = List Event} t [] (Validity at channel (marking_of now.invalid) ∷ []))
    go true = tt
    go false = (refl, tt)

changes-at : (at : ℕ) (b : Option Signals) (now : Signals) → AllAt told_at at (change_events at b now)
unfolding change_events
changes-at at None now = tt
changes-at at (Some b) now =
    let i = status_events at First b.first now.first in
    let j = status_events at Second b.second now.second in
    let k = validity_events at First b.first now.first in
    let l = validity_events at Second b.second now.second in
    at-join told_at at (i ++ j ++ k) l
    (at-join told_at at (i ++ j) k
    (at-join told_at at i j (status-at at First b.first now.first) (status-at at Second b.second now.second))
    (validity-at at First b.first now.first))
    (validity-at at Second b.second now.second)

own-at : (w : Watched) (at : ℕ) (s : Level) (b : Option Signals) (now : Signals)
    → AllAt told_at at (whole_events w at s ++ change_events at b now)
own-at w at s b now =
    at-join told_at at (whole_events w at s) (change_events at b now) (whole-at w at s) (changes-at at b now)

pub told-before : (w : Watched) (x : Report) (z : ℕ) → place_of x < z → AllBefore told_at z (told_events w x)
told-before w (Whole at s b) z h =
    let own = whole_events (up_to w at) at s ++ change_events at w.latest (signals_of b) in
    all-before-join told_at z (loss_events w at) own
    (all-before-more told_at at z (loss_events w at) (omega arith) (loss-before w at))
    (at-before told_at at z own h (own-at (up_to w at) at s w.latest (signals_of b)))
told-before w (Marked at s wrong) z h = all-before-more told_at at z (loss_events w at) (omega arith) (loss-before w at)
told-before w (Fault at cell why) z h = all-before-more told_at at z (loss_events w at) (omega arith) (loss-before w at)
told-before w (Unfinished at cells) z h
    = all-before-more told_at at z (loss_events w at) (omega arith) (loss-before w at)

pub told-from : (w : Watched) (x : Report) (a : ℕ) → is_told w a ≡ true → a ≤ place_of x
    → AllFrom told_at a (told_events w x)
told-from w (Whole at s b) a h l =
    let own = whole_events (up_to w at) at s ++ change_events at w.latest (signals_of b) in
    all-from-join told_at a (loss_events w at) own (loss-from w a at h)
    (at-from told_at at a own l (own-at (up_to w at) at s w.latest (signals_of b)))
told-from w (Marked at s wrong) a h l = loss-from w a at h
told-from w (Fault at cell why) a h l = loss-from w a at h
told-from w (Unfinished at cells) a h l = loss-from w a at h

next-told : (w : Watched) (x : Report) (a : ℕ) → a ≤ place_of x → is_told (next w x) a ≡ true
next-told w x a l = let f = stop-far x in told-less (next w x) a (stop x) (omega arith) (told-next w x)

pub events-behind : (a n : ℕ) (k : Bool) (w : Watched) (r : List Report) → is_told w a ≡ true → Spaced a r → a ≤ n
    → AllFrom told_at a (events_from w r ++ (loss_events (behind_reports w r) n ++ End n k ∷ []))
events-behind a n k w [] h s l =
    all-from-join told_at a (loss_events w n) (End n k ∷ []) (loss-from w a n h) (l, tt)
events-behind a n k w (x ∷ r) h s l =
    subst (AllFrom told_at a) (sym (append_three (told_events w x) (events_from (next w x) r)
    (loss_events (behind_reports (next w x) r) n ++ End n k ∷ [])))
    (all-from-join told_at a (told_events w x)
    (events_from (next w x) r ++ (loss_events (behind_reports (next w x) r) n ++ End n k ∷ []))
    (told-from w x a h s.0)
    (events-behind a n k (next w x) r (next-told w x a s.0) (spaced-on a x r s.0 s.1) l))
  where
    append_three : (a b c : List Event) → (a ++ b) ++ c ≡ a ++ (b ++ c)
    append_three a b c = simp append_assoc

-- all reports begin in the cells
abbrev pub Ahead : ℕ → List Report → Type 0
Ahead n [] = Unit {0}
Ahead n (x ∷ r) = (place_of x < n) × ((stop x ≤ n) × Ahead n r)

-- what gaps come to
full-none : (f : Entry → ℕ) → ((p : ℕ) → f (lost p block_len) ≡ 0) → (p n : ℕ) → sum_by f (full_gaps p n) ≡ 0
full-none f h p zero = refl
full-none f h p (suc n) =
    sum_by-cons f (lost p block_len) (full_gaps (p + block_len) n)
    ∙ ap₂ (λ x y. x + y) (h p) (full-none f h (p + block_len) n) ∙ refl

full-cells : (p n : ℕ) → sum_by lost_cells (full_gaps p n) ≡ block_len * n
full-cells p zero = rw block_len_24576 (omega arith)
full-cells p (suc n) =
    sum_by-cons lost_cells (lost p block_len) (full_gaps (p + block_len) n)
    ∙ ap (λ k. block_len + k) (full-cells (p + block_len) n) ∙ sym (times-suc block_len n)

loss-none : (w : Watched) (q : ℕ) → sum_by change_of (loss_events w q) ≡ 0
loss-none w q = go (is_told w q)
  where
    go : (b : Bool) → sum_by change_of (cond {A = List Event} b [] (Lost w.place ∷ [])) ≡ 0
    go true = refl
    go false = refl

pub on-figures : (g : Figures) (p n : ℕ) (w : Watched) (q : ℕ)
    → with_lost (in_64_bits g) (block_len * n)
    ≡ in_64_bits (plus g (figures_of (full_gaps p n) (loss_events w q)))
on-figures g p n w q =
    same-figures
    (fit-same g.whole _ (full-none _ (λ k. refl) p n))
    (fit-same g.marked _ (full-none _ (λ k. refl) p n))
    (fit-same g.fault _ (full-none _ (λ k. refl) p n))
    (fit-same g.preamble _ (full-none _ (λ k. refl) p n))
    (fit-same g.biphase _ (full-none _ (λ k. refl) p n))
    (fit-same g.unclosed _ (full-none _ (λ k. refl) p n))
    (fit-more g.lost _ _ (full-cells p n))
    (fit-same g.invalid_first _ (full-none _ (λ k. refl) p n))
    (fit-same g.invalid_second _ (full-none _ (λ k. refl) p n))
    (fit-same g.changes _ (loss-none w q))

-- and a report
pub report-figures : (g : Figures) (m p : ℕ) (w : Watched) (x : Report)
    → counted_report (in_64_bits g) p (ltb 0 m) (says x) (changes_in (told_events w x)) x
    ≡ in_64_bits (plus g (figures_of (rest_before m p x ++ reported x ∷ []) (told_events w x)))
unfolding changes_in signals_of
report-figures g m p w (Whole at s b) = go (ltb 0 m) (ltb p at) refl
  where
    es : List Event
    es = told_events w (Whole at s b)

    go : (f t : Bool) → ltb p at ≡ t
        → with_whole (cond f (with_lost (in_64_bits g) (at - p)) (in_64_bits g))
        (signals_of b).first.invalid (signals_of b).second.invalid (sum_by change_of es)
        ≡ in_64_bits (plus g (figures_of (cond t (kind f p (at - p) ∷ []) [] ++ reported (Whole at s b) ∷ []) es))
    go true true e =
        same-figures (fit-more g.whole 1 _ (omega arith)) (fit-same g.marked _ (omega arith))
        (fit-same g.fault _ (omega arith)) (fit-same g.preamble _ (omega arith)) (fit-same g.biphase _ (omega arith))
        (fit-same g.unclosed _ (omega arith)) (fit-more g.lost (at - p) _ (omega arith))
        (fit-more g.invalid_first _ _ (omega arith)) (fit-more g.invalid_second _ _ (omega arith))
        (fit-more g.changes _ _ refl)
    go true false e =
        let l = ltb-false p at e in
        same-figures (fit-more g.whole 1 _ (omega arith)) (fit-same g.marked _ (omega arith))
        (fit-same g.fault _ (omega arith)) (fit-same g.preamble _ (omega arith)) (fit-same g.biphase _ (omega arith))
        (fit-same g.unclosed _ (omega arith)) (fit-more g.lost (at - p) _ (omega arith))
        (fit-more g.invalid_first _ _ (omega arith)) (fit-more g.invalid_second _ _ (omega arith))
        (fit-more g.changes _ _ refl)
    go false true e =
        same-figures (fit-more g.whole 1 _ (omega arith)) (fit-same g.marked _ (omega arith))
        (fit-same g.fault _ (omega arith)) (fit-same g.preamble _ (omega arith)) (fit-same g.biphase _ (omega arith))
        (fit-same g.unclosed _ (omega arith)) (fit-same g.lost _ (omega arith))
        (fit-more g.invalid_first _ _ (omega arith)) (fit-more g.invalid_second _ _ (omega arith))
        (fit-more g.changes _ _ refl)
    go false false e =
        same-figures (fit-more g.whole 1 _ (omega arith)) (fit-same g.marked _ (omega arith))
        (fit-same g.fault _ (omega arith)) (fit-same g.preamble _ (omega arith)) (fit-same g.biphase _ (omega arith))
        (fit-same g.unclosed _ (omega arith)) (fit-same g.lost _ (omega arith))
        (fit-more g.invalid_first _ _ (omega arith)) (fit-more g.invalid_second _ _ (omega arith))
        (fit-more g.changes _ _ refl)
report-figures g m p w (Marked at s wrong) =
    same-figures (fit-same g.whole _ (omega arith)) (fit-more g.marked 1 _ (omega arith))
    (fit-same g.fault _ (omega arith)) (fit-same g.preamble _ (omega arith)) (fit-same g.biphase _ (omega arith))
    (fit-same g.unclosed _ (omega arith)) (fit-same g.lost _ (omega arith)) (fit-same g.invalid_first _ (omega arith))
    (fit-same g.invalid_second _ (omega arith)) (fit-same g.changes _ (loss-none w at))
report-figures g m p w (Fault at cell why) =
    same-figures (fit-same g.whole _ (omega arith)) (fit-same g.marked _ (omega arith))
    (fit-more g.fault 1 _ (omega arith)) (fit-more g.preamble _ _ (omega arith)) (fit-more g.biphase _ _ (omega arith))
    (fit-more g.unclosed _ _ (omega arith)) (fit-same g.lost _ (omega arith)) (fit-same g.invalid_first _ (omega arith))
    (fit-same g.invalid_second _ (omega arith)) (fit-same g.changes _ (loss-none w at))
report-figures g m p w (Unfinished at cells) =
    same-figures (fit-same g.whole _ (omega arith)) (fit-same g.marked _ (omega arith))
    (fit-same g.fault _ (omega arith)) (fit-same g.preamble _ (omega arith)) (fit-same g.biphase _ (omega arith))
    (fit-same g.unclosed _ (omega arith)) (fit-same g.lost _ (omega arith)) (fit-same g.invalid_first _ (omega arith))
    (fit-same g.invalid_second _ (omega arith)) (fit-same g.changes _ (loss-none w at))
