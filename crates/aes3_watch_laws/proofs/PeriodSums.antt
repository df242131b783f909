-- What is told of a line with sums is what its periods tell.
use Rattle.std.proofs.Common.{◌≡◌, ℕ, zero, suc, ◌+◌, ◌-◌, ◌*◌, ◌/◌, ◌%◌, ◌<◌, ◌≤◌, Bool, true, false, cond, ltb, List}
use Rattle.std.proofs.Common.{[], ◌∷◌, ◌++◌, Option, Some, None, length, refl, sym, ap, ap₂, ◌∙◌, subst, arith}
use Rattle.std.proofs.Common.{append-nil, append_assoc}
use Rattle.std.specs.Prelude.{min}
use Rattle.std.specs.Int.{div_ceil}
use Rattle.std.specs.List.{flat_map, range_with_len}
use Rattle.std.proofs.lemmas.Bool.{le-ltb, lt-ltb}
use Rattle.std.proofs.lemmas.Grind.{div_ceil_times}
use Rattle.aes3_level.specs.declared.level.Level.{Level}
use Rattle.aes3_frame.specs.Blocks.{block_len}
use Rattle.aes3_lock.specs.declared.report.Report.{Report}
use Rattle.aes3_lock.specs.declared.report.Report.TheVariants.{Whole, Marked, Fault, Unfinished}
use Rattle.aes3_lock.specs.Outcomes.{Outcome, whole, marked, fault, unfinished}
use Rattle.aes3_lock.specs.Remains.{place_of}
use Rattle.aes3_lock.specs.Reports.{told, outcome_at, reports_from, reports, wholes}
use Rattle.aes3_lock.proofs.AllStanding.{at-standing, closed-room}
use Rattle.aes3_lock.proofs.Deciding.{block_len_24576}
use Rattle.aes3_text_lines.specs.declared.event.Event.{Event}
use Rattle.aes3_text_lines.specs.declared.event.Event.TheVariants.{End}
use Rattle.aes3_text_lines.specs.declared.sum.Figures.{Figures}
use Rattle.aes3_lock_gaps.specs.Gaps.{Entry, reported, full_gaps, full_count, behind_full, rest_gap, gaps, gaps_before}
use Rattle.aes3_lock_gaps.specs.Gaps.{account, account_from, behind_report, reached_from}
use Rattle.aes3_watch.specs.Kept.{Summed, Watched}
use Rattle.aes3_watch.specs.Sums.{Notice, event, sum, events, all_told, behind_sums, changes_in, counted_report}
use Rattle.aes3_watch.specs.Sums.{end_told, ends_before, go_to, last_sum, next_period, next_sum, no_figures, notices}
use Rattle.aes3_watch.specs.Sums.{on_to, period_told, periods, periods_told, report_told, says, sums_from, told_to}
use Rattle.aes3_watch.specs.Sums.{unsummed, with_lost}
use Rattle.aes3_watch.specs.Watching.{behind_reports, ended, events_from, is_locked, is_told, loss_events, next}
use Rattle.aes3_watch.specs.Watching.{told_events, unwatched, up_to, watch_events}
use Rattle.aes3_lock_gaps.proofs.GapLemmas.{behind-join, full-join}
use Rattle.aes3_lock.proofs.ReportPlaces.{Spaced, spaced-reports, spaced-weaker}
use Rattle.aes3_watch.proofs.Sums.{ends-few, go-watched, near-end, next-known, periods-from, suc-times}
use Rattle.aes3_watch.proofs.WatchedCells.{loss-join, report-join, up-found, up-is-told, up-join}
use Rattle.aes3_watch_laws.specs.PeriodLaws.{counts_at, figures_of, in_64_bits}
use Rattle.aes3_watch_laws.specs.PeriodLaws.{SumsAreByPeriods, told_at, within}
use Rattle.aes3_watch_laws.proofs.PeriodLists.{AllFrom, all-before-more, all-from-join, between, from-all, from_on}
use Rattle.aes3_watch_laws.proofs.PeriodLists.{fitted-none, left-end, left-next, left-pass, left_told, none-plus}
use Rattle.aes3_watch_laws.proofs.PeriodLists.{plus, twice-from}
use Rattle.aes3_watch_laws.proofs.PeriodPlaces.{account-split, Ahead, behind-past, chunk-before, cut-from}
use Rattle.aes3_watch_laws.proofs.PeriodPlaces.{entries-behind, events-behind, full-from, loss-before, loss-from}
use Rattle.aes3_watch_laws.proofs.PeriodPlaces.{no-loss, on-figures, report-before, report-figures, report-from}
use Rattle.aes3_watch_laws.proofs.PeriodPlaces.{rest_before, stop, stop-behind, stop-far, stop-spaced, times-suc}
use Rattle.aes3_watch_laws.proofs.PeriodPlaces.{told-before, told-from, told-less, told-next}

-- how many periods are left from a place on, up to the end of n cells
pub record Left (every n from k : ℕ) : Type 0 where
  pub all : n ≤ from + every * k
  pub few : from + every * k < n + every

-- on from one state to another, of which so much is told
record Gone (every n k : ℕ) (u v : Summed) (tells : List Notice) (g : Figures) (e e' : List Entry) (l l' : List Event)
    : Type 0 where
  pub count : ℕ
  pub figures : Figures
  pub left : Left every n v.from count
  pub kept : v.figures ≡ in_64_bits figures
  pub told_is : left_told every n k u.from g e l ≡ tells ++ left_told every n count v.from figures e' l'

abbrev ahead : Summed → ℕ → List Entry → List Entry
ahead u b e = full_gaps u.place (full_count u.place b) ++ e

abbrev later : Summed → ℕ → List Event → List Event
later u b v = loss_events u.watched b ++ v

-- over one end of a period
one-period : (every n k : ℕ) (u : Summed) (g : Figures) (b : ℕ) (e : List Entry) (v : List Event)
    → u.from + every ≤ b → b ≤ n → u.figures ≡ in_64_bits g → AllFrom counts_at b e → AllFrom told_at b v
    → left_told every n (suc k) u.from g (ahead u b e) (later u b v)
    ≡ period_told every u
    ++ left_told every n k (u.from + every) no_figures (ahead (next_period every u) b e)
    (later (next_period every u) b v)
one-period every n k u g b e v h l q a c =
    let r = u.from + every in
    let w = next_period every u in
    let i = full_gaps u.place (full_count u.place r) in
    let j = loss_events u.watched r in
    let m : r ≤ min r n = omega arith in
    let f = plus g (figures_of i j) in
    let rest = left_told every n k r no_figures (ahead w b e) (later w b v) in
    ap₂ (left_told every n (suc k) u.from g)
    (ap (λ z. z ++ e) (full-join u.place r b h) ∙ append_assoc i (full_gaps w.place (full_count w.place b)) e)
    (ap (λ z. z ++ v) (loss-join u.watched r b h) ∙ append_assoc j (loss_events w.watched b) v)
    ∙ left-pass every n k u.from g i (ahead w b e) j (later w b v)
    (all-before-more counts_at r (min r n) i m (chunk-before u.place r))
    (all-before-more told_at r (min r n) j m (loss-before u.watched r))
    ∙ ap (λ z. events j ++ z) (left-next every n k u.from f (ahead w b e) (later w b v) (omega arith)
    (all-from-join counts_at r (full_gaps w.place (full_count w.place b)) e
    (full-from r w.place (full_count w.place b) (behind-past u.place r))
    (from-less-entries r b e h a))
    (all-from-join told_at r (loss_events w.watched b) v (loss-from w.watched r b (up-is-told u.watched r))
    (from-less-events r b v h c)))
    ∙ ap (λ z. events j ++ sum (record { from = u.from; to = r; figures = z }) ∷ rest)
    (sym (ap (λ x. with_lost x (block_len * full_count u.place r)) q
    ∙ on-figures g u.place (full_count u.place r) u.watched r))
    ∙ sym (append_assoc (events j) (sum (record { from = u.from; to = r; figures = (on_to u r).figures }) ∷ []) rest)
  where
    from-less-entries : (p q : ℕ) (a : List Entry) → p ≤ q → AllFrom counts_at q a → AllFrom counts_at p a
    from-less-entries p q [] l h = tt
    from-less-entries p q (x ∷ a) l h = (let g = h.0 in omega arith, from-less-entries p q a l h.1)

    from-less-events : (p q : ℕ) (a : List Event) → p ≤ q → AllFrom told_at q a → AllFrom told_at p a
    from-less-events p q [] l h = tt
    from-less-events p q (x ∷ a) l h = (let g = h.0 in omega arith, from-less-events p q a l h.1)

-- over several
gone-periods : (every n : ℕ) → 0 < every → (j k : ℕ) (u : Summed) (g : Figures) (b : ℕ) (e : List Entry)
    (v : List Event)
    → j * every ≤ b - u.from → u.from ≤ b → b ≤ n → Left every n u.from k → u.figures ≡ in_64_bits g
    → AllFrom counts_at b e → AllFrom told_at b v
    → Gone every n k u (periods every j u) (periods_told every j u) g (ahead u b e) (ahead (periods every j u) b e)
    (later u b v) (later (periods every j u) b v)
gone-periods every n h zero k u g b e v m f l i q a c =
    record { count = k; figures = g; left = i; kept = q; told_is = refl }
gone-periods every n h (suc j) k u g b e v m f l i q a c =
    let t = suc-times every j in
    go k i (λ k' d. gone-periods every n h j k' (next_period every u) no_figures b e v (omega arith) (omega arith) l d
    (sym fitted-none) a c)
  where
    w : Summed
    w = next_period every u

    go : (k : ℕ) → Left every n u.from k
        → ((k' : ℕ) → Left every n (u.from + every) k'
        → Gone every n k' w (periods every j w) (periods_told every j w) no_figures (ahead w b e)
        (ahead (periods every j w) b e) (later w b v) (later (periods every j w) b v))
        → Gone every n k u (periods every j w) (period_told every u ++ periods_told every j w) g (ahead u b e)
        (ahead (periods every j w) b e) (later u b v) (later (periods every j w) b v)
    go zero i ih =
        let t = suc-times every j in
        let z : every * 0 ≡ 0 = omega arith in
        let x = i.all in
        absurd (omega arith)
    go (suc k) i ih =
        let t = suc-times every j in
        let s = times-suc every k in
        let x = i.all in
        let y = i.few in
        let r = ih k (record { all = omega arith; few = omega arith }) in
        record {
          count = r.count;
          figures = r.figures;
          left = r.left;
          kept = r.kept;
          told_is =
              one-period every n k u g b e v (omega arith) l q a c
              ∙ ap (λ z. period_told every u ++ z) r.told_is
              ∙ sym (append_assoc (period_told every u) (periods_told every j w)
              (left_told every n r.count (periods every j w).from r.figures (ahead (periods every j w) b e)
              (later (periods every j w) b v)));
        }

-- on to a place of the open period
gone-on : (every n k : ℕ) (u : Summed) (g : Figures) (b : ℕ) (e : List Entry) (v : List Event)
    → b ≤ u.from + every → b ≤ n → u.figures ≡ in_64_bits g → Left every n u.from (suc k)
    → Gone every n (suc k) u (on_to u b) (events (loss_events u.watched b)) g (ahead u b e) e (later u b v) v
gone-on every n k u g b e v h l q i =
    let x = full_gaps u.place (full_count u.place b) in
    let y = loss_events u.watched b in
    let r = u.from + every in
    let m : b ≤ min r n = omega arith in
    record {
      count = suc k;
      figures = plus g (figures_of x y);
      left = i;
      kept = ap (λ z. with_lost z (block_len * full_count u.place b)) q
          ∙ on-figures g u.place (full_count u.place b) u.watched b;
      told_is = left-pass every n k u.from g x e y v
          (all-before-more counts_at b (min r n) x m (chunk-before u.place b))
          (all-before-more told_at b (min r n) y m (loss-before u.watched b));
    }

-- places of the periods
periods-place : (every n : ℕ) (u : Summed) (q : ℕ) → 0 < every → n * every ≤ q - u.from
    → behind_full (periods every n u).place q ≡ behind_full u.place q
periods-place every zero u q h l = refl
periods-place every (suc n) u q h l =
    let t = suc-times every n in
    periods-place every n (next_period every u) q h (omega arith)
    ∙ behind-join u.place (u.from + every) q (omega arith)

periods-told : (every n : ℕ) (u : Summed) → is_told u.watched u.from ≡ true
    → is_told (periods every n u).watched (periods every n u).from ≡ true
periods-told every zero u h = h
periods-told every (suc n) u h = periods-told every n (next_period every u) (up-is-told u.watched (u.from + every))

-- what is so before the reports that are left
record Ready (every n m k s : ℕ) (u : Summed) (g : Figures) (r : List Report) : Type 0 where
  pub reached : u.from ≤ s
  pub inside : s ≤ n
  pub near : s < u.place + block_len
  pub known : is_told u.watched s ≡ true
  pub found : u.watched.found ≡ ltb 0 m
  pub kept : u.figures ≡ in_64_bits g
  pub left : Left every n u.from k
  pub spaced : Spaced s r
  pub begun : Ahead n r

-- on to a place, in which a period is open
gone-to : (every n : ℕ) → 0 < every → (k : ℕ) (u : Summed) (g : Figures) (b : ℕ) (e : List Entry) (v : List Event)
    → u.from ≤ b → b < n → Left every n u.from k → u.figures ≡ in_64_bits g
    → AllFrom counts_at b e → AllFrom told_at b v
    → Gone every n k u (go_to every u b) (told_to every u b) g (ahead u b e) e (later u b v) v
unfolding go_to told_to ends_before
gone-to every n h k u g b e v f l i q a c = last p.count p.left refl
  where
    j : ℕ
    j = (b - u.from) / every

    w : Summed
    w = periods every j u

    p : Gone every n k u w (periods_told every j u) g (ahead u b e) (ahead w b e) (later u b v) (later w b v)
    p = gone-periods every n h j k u g b e v (ends-few every j (b - u.from) h (omega arith)) f (omega arith) i q a c

    last : (k' : ℕ) → Left every n w.from k' → k' ≡ p.count
        → Gone every n k u (on_to w b) (periods_told every j u ++ events (loss_events w.watched b)) g (ahead u b e) e
        (later u b v) v
    last zero d z =
        let t = periods-from every j u in
        let s : every * 0 ≡ 0 = omega arith in
        let x = d.all in
        let y = ends-few every j (b - u.from) h (omega arith) in
        let o : every * j ≡ j * every = grind arith in
        absurd (omega arith)
    last (suc k') d z =
        let t = periods-from every j u in
        let y = near-end every (b - u.from) h in
        let r = gone-on every n k' w p.figures b e v (omega arith) (omega arith) p.kept d in
        record {
          count = r.count;
          figures = r.figures;
          left = r.left;
          kept = r.kept;
          told_is =
              p.told_is
              ∙ ap (λ x. periods_told every j u ++ left_told every n x w.from p.figures (ahead w b e) (later w b v))
              (sym z)
              ∙ ap (λ x. periods_told every j u ++ x) r.told_is
              ∙ sym (append_assoc (periods_told every j u) (events (loss_events w.watched b))
              (left_told every n r.count w.from r.figures e v));
        }

go-near : (every : ℕ) (u : Summed) (b : ℕ) → 0 < every → u.from ≤ b
    → ((go_to every u b).from ≤ b) × (b < (go_to every u b).from + every)
unfolding go_to ends_before
go-near every u b h l =
    let j = (b - u.from) / every in
    let t = periods-from every j u in
    let x = ends-few every j (b - u.from) h (omega arith) in
    let o : every * j ≡ j * every = grind arith in
    let y = near-end every (b - u.from) h in
    (omega arith, omega arith)

go-place : (every : ℕ) (u : Summed) (b : ℕ) → 0 < every → (go_to every u b).place ≡ behind_full u.place b
unfolding go_to ends_before
go-place every u b h =
    let j = (b - u.from) / every in
    periods-place every j u b h (ends-few every j (b - u.from) h (omega arith))

-- the end
end-is : (v : Summed) (x : Watched) (n : ℕ) → v.watched ≡ up_to x n
    → end_told v n ≡ last_sum v n ++ event (End n (is_locked (up_to x n))) ∷ []
end-is v x n e =
    ap (λ z. last_sum v n ++ z) (ap₂ (λ a y. events (a ++ End n (is_locked y) ∷ []))
    (ap (λ y. loss_events y n) e ∙ no-loss (up_to x n) n (up-is-told x n))
    (ap (λ y. up_to y n) e ∙ sym (up-join x n n (omega arith))))

last-none : (v : Summed) (n : ℕ) → n ≤ v.from → last_sum v n ≡ []
last-none v n h =
    ap (λ (t : Bool). cond {A = List Notice} t (sum (record { from = v.from; to = n; figures = v.figures }) ∷ []) [])
    (le-ltb v.from n h)

last-some : (v : Summed) (n : ℕ) (f : Figures) → v.from < n → v.figures ≡ f
    → last_sum v n ≡ sum (record { from = v.from; to = n; figures = f }) ∷ []
last-some v n f h e =
    ap (λ (t : Bool). cond {A = List Notice} t (sum (record { from = v.from; to = n; figures = v.figures }) ∷ []) [])
    (lt-ltb v.from n h)
    ∙ ap (λ z. sum (record { from = v.from; to = n; figures = z }) ∷ []) e

finish : (every n : ℕ) → 0 < every → (k : ℕ) (u : Summed) (g : Figures) (e : List Entry) (v : List Event)
    → u.from ≤ n → is_told u.watched u.from ≡ true → Left every n u.from k → u.figures ≡ in_64_bits g
    → AllFrom counts_at n e → AllFrom told_at n v
    → told_to every u n ++ last_sum (go_to every u n) n ≡ left_told every n k u.from g (ahead u n e) (later u n v)
unfolding go_to told_to ends_before
finish every n h k u g e v f d i q a c = last p.count p.left refl
  where
    j : ℕ
    j = (n - u.from) / every

    w : Summed
    w = periods every j u

    p : Gone every n k u w (periods_told every j u) g (ahead u n e) (ahead w n e) (later u n v) (later w n v)
    p = gone-periods every n h j k u g n e v (ends-few every j (n - u.from) h (omega arith)) f (omega arith) i q a c

    last : (k' : ℕ) → Left every n w.from k' → k' ≡ p.count
        → (periods_told every j u ++ events (loss_events w.watched n)) ++ last_sum (on_to w n) n
        ≡ left_told every n k u.from g (ahead u n e) (later u n v)
    last zero l z =
        let s : every * 0 ≡ 0 = omega arith in
        let x = l.all in
        ap₂ (λ y t. (periods_told every j u ++ events y) ++ t)
        (no-loss w.watched n (told-less w.watched n w.from (omega arith) (periods-told every j u d)))
        (last-none (on_to w n) n (omega arith))
        ∙ append-nil (periods_told every j u ++ [])
        ∙ sym (p.told_is
        ∙ ap (λ y. periods_told every j u ++ left_told every n y w.from p.figures (ahead w n e) (later w n v)) (sym z))
    last (suc zero) l z =
        let t = periods-from every j u in
        let y = near-end every (n - u.from) h in
        let o : every * 1 ≡ every = omega arith in
        let x = l.few in
        let b = full_gaps w.place (full_count w.place n) in
        let s = loss_events w.watched n in
        let r = w.from + every in
        let m : n ≤ min r n = omega arith in
        let f = plus p.figures (figures_of b s) in
        ap (λ y. (periods_told every j u ++ events s) ++ y) (last-some (on_to w n) n (in_64_bits f) (omega arith)
        (ap (λ x. with_lost x (block_len * full_count w.place n)) p.kept
        ∙ on-figures p.figures w.place (full_count w.place n) w.watched n))
        ∙ append_assoc (periods_told every j u) (events s)
        (sum (record { from = w.from; to = n; figures = in_64_bits f }) ∷ [])
        ∙ ap (λ y. periods_told every j u ++ (events s ++ y))
        (sym (left-end every n 0 w.from n f e v (omega arith) a c))
        ∙ sym (p.told_is
        ∙ ap (λ y. periods_told every j u ++ left_told every n y w.from p.figures (ahead w n e) (later w n v)) (sym z)
        ∙ ap (λ y. periods_told every j u ++ y) (left-pass every n 0 w.from p.figures b e s v
        (all-before-more counts_at n (min r n) b m (chunk-before w.place n))
        (all-before-more told_at n (min r n) s m (loss-before w.watched n))))
    last (suc (suc k')) l z =
        let t = periods-from every j u in
        let y = near-end every (n - u.from) h in
        let a = times-suc every (suc k') in
        let b = times-suc every k' in
        let x = l.few in
        absurd (omega arith)

-- the state of the line at the end
abbrev locked_at : Watched → List Report → ℕ → Bool
locked_at w r n = is_locked (up_to (behind_reports w r) n)

run-end : (every n : ℕ) → 0 < every → (m k s : ℕ) (u : Summed) (g : Figures) → Ready every n m k s u g []
    → all_told every u n
    ≡ left_told every n k u.from g (gaps false u.place n)
    (loss_events u.watched n ++ End n (locked_at u.watched [] n) ∷ [])
    ++ event (End n (locked_at u.watched [] n)) ∷ []
run-end every n h m k s u g i =
    let x = locked_at u.watched [] n in
    let e = rest_gap false (behind_full u.place n) n in
    let a = i.reached in
    let b = i.inside in
    ap (λ z. told_to every u n ++ z) (end-is (go_to every u n) u.watched n (go-watched every u n h))
    ∙ sym (append_assoc (told_to every u n) (last_sum (go_to every u n) n) (event (End n x) ∷ []))
    ∙ ap (λ z. z ++ event (End n x) ∷ [])
    (finish every n h k u g e (End n x ∷ []) (omega arith) (told-less u.watched u.from s a i.known) i.left i.kept
    (cut-from n (behind_full u.place n) n (omega arith)) (omega arith, tt))

-- behind a report
next-found : (w : Watched) (m : ℕ) (x : Report) → w.found ≡ ltb 0 m
    → (next w x).found ≡ ltb 0 (m + length (wholes (x ∷ [])))
next-found w m (Whole at s b) h = sym (lt-ltb 0 (m + 1) (omega arith))
next-found w m (Marked at s wrong) h = up-found w at ∙ h ∙ ap (ltb 0) (let e : m ≡ m + 0 = omega arith in e)
next-found w m (Fault at cell why) h = up-found w at ∙ h ∙ ap (ltb 0) (let e : m ≡ m + 0 = omega arith in e)
next-found w m (Unfinished at cells) h = up-found w at ∙ h ∙ ap (ltb 0) (let e : m ≡ m + 0 = omega arith in e)

next-place-is : (every : ℕ) (u : Summed) (x : Report) → 0 < every
    → (next_sum every u x).place ≡ behind_report u.place x
next-place-is every u (Whole at s b) h = refl
next-place-is every u (Marked at s wrong) h = go-place every u at h
next-place-is every u (Fault at cell why) h = go-place every u at h
next-place-is every u (Unfinished at cells) h = go-place every u at h

next-figures : (every : ℕ) (u : Summed) (x : Report) (m : ℕ) (f : Figures) → 0 < every → u.watched.found ≡ ltb 0 m
    → (go_to every u (place_of x)).figures ≡ in_64_bits f
    → (next_sum every u x).figures
    ≡ in_64_bits (plus f (figures_of (rest_before m (behind_full u.place (place_of x)) x ++ reported x ∷ [])
    (told_events (up_to u.watched (place_of x)) x)))
next-figures every u x m f h e q =
    let a = place_of x in
    let z = go_to every u a in
    let w = up_to u.watched a in
    let g = go-watched every u a h in
    ap₂ (λ (y : Figures) (p : ℕ). counted_report y p z.watched.found (says x) (changes_in (told_events z.watched x)) x)
    q (go-place every u a h)
    ∙ ap (λ (v : Watched). counted_report (in_64_bits f) (behind_full u.place a) v.found (says x)
    (changes_in (told_events v x)) x) g
    ∙ ap (λ (t : Bool). counted_report (in_64_bits f) (behind_full u.place a) t (says x)
    (changes_in (told_events w x)) x)
    (up-found u.watched a ∙ e)
    ∙ report-figures f m (behind_full u.place a) w x

lhs : (t d s a : List Notice) → ((t ++ d) ++ s) ++ a ≡ t ++ (d ++ (s ++ a))
lhs t d s a = simp append_assoc

rhs : (t d l z : List Notice) → (t ++ (d ++ l)) ++ z ≡ t ++ (d ++ (l ++ z))
rhs t d l z = simp append_assoc

abbrev entries_of : ℕ → ℕ → List Report → ℕ → List Entry
entries_of m p r n = account_from m p r ++ gaps false (reached_from p r) n

abbrev events_of : Watched → List Report → ℕ → List Event
events_of w r n = events_from w r ++ (loss_events (behind_reports w r) n ++ End n (locked_at w r n) ∷ [])

run : (every n : ℕ) → 0 < every → (r : List Report) (m k s : ℕ) (u : Summed) (g : Figures) → Ready every n m k s u g r
    → sums_from every u r ++ all_told every (behind_sums every u r) n
    ≡ left_told every n k u.from g (entries_of m u.place r n) (events_of u.watched r n)
    ++ event (End n (locked_at u.watched r n)) ∷ []
run every n h [] m k s u g i = run-end every n h m k s u g i
run every n h (x ∷ r) m k s u g i = go q.count q.left refl (λ k' f j. run every n h r m' k' (stop x) u' f j)
  where
    a : ℕ
    a = place_of x

    m' : ℕ
    m' = m + length (wholes (x ∷ []))

    p' : ℕ
    p' = behind_report u.place x

    w' : Watched
    w' = next u.watched x

    u' : Summed
    u' = next_sum every u x

    z : Summed
    z = go_to every u a

    ce : List Entry
    ce = rest_before m (behind_full u.place a) x ++ reported x ∷ []

    de : List Event
    de = told_events (up_to u.watched a) x

    ends : List Notice
    ends = event (End n (locked_at w' r n)) ∷ []

    inside : s ≤ a
    inside = i.spaced.0

    q : Gone every n k u z (told_to every u a) g (ahead u a (ce ++ entries_of m' p' r n)) (ce ++ entries_of m' p' r n)
        (later u a (de ++ events_of w' r n)) (de ++ events_of w' r n)
    q =
        let b = i.reached in
        let y = i.begun.0 in
        let o = stop-far x in
        let t = stop-behind u.place x in
        gone-to every n h k u g a (ce ++ entries_of m' p' r n) (de ++ events_of w' r n) (omega arith) y i.left i.kept
        (all-from-join counts_at a ce (entries_of m' p' r n)
        (report-from m (behind_full u.place a) a x (behind-past u.place a) (omega arith))
        (entries-behind a m' p' n r (omega arith) (stop-near r) (omega arith)))
        (all-from-join told_at a de (events_of w' r n)
        (told-from (up_to u.watched a) x a (up-is-told u.watched a) (omega arith))
        (events-behind a n (locked_at w' r n) w' r (told-less w' a (stop x) o (told-next u.watched x)) (stop-near r)
        (omega arith)))
      where
        stop-near : (v : List Report) → Spaced a r
        stop-near v = spaced-weaker a (stop x) r (stop-far x) (stop-spaced x r i.spaced.1)

    as-told : left_told every n k u.from g (entries_of m u.place (x ∷ r) n) (events_of u.watched (x ∷ r) n)
        ≡ told_to every u a ++ left_told every n q.count z.from q.figures (ce ++ entries_of m' p' r n)
        (de ++ events_of w' r n)
    as-told =
        ap₂ (left_told every n k u.from g)
        (append_assoc (gaps_before m u.place x) (reported x ∷ account_from m' p' r) (gaps false (reached_from p' r) n)
        ∙ account-split m u.place x (entries_of m' p' r n))
        (append_assoc (told_events u.watched x) (events_from w' r)
        (loss_events (behind_reports w' r) n ++ End n (locked_at w' r n) ∷ [])
        ∙ ap (λ y. y ++ events_of w' r n) (report-join u.watched a x (omega arith))
        ∙ append_assoc (loss_events u.watched a) de (events_of w' r n))
        ∙ q.told_is

    go : (k' : ℕ) → Left every n z.from k' → k' ≡ q.count
        → ((k' : ℕ) (f : Figures) → Ready every n m' k' (stop x) u' f r
        → sums_from every u' r ++ all_told every (behind_sums every u' r) n
        ≡ left_told every n k' u'.from f (entries_of m' u'.place r n) (events_of u'.watched r n)
        ++ event (End n (locked_at u'.watched r n)) ∷ [])
        → (report_told every u x ++ sums_from every u' r) ++ all_told every (behind_sums every u' r) n
        ≡ left_told every n k u.from g (entries_of m u.place (x ∷ r) n) (events_of u.watched (x ∷ r) n) ++ ends
    go zero l e ih =
        let t : every * 0 ≡ 0 = omega arith in
        let y = l.all in
        let b = i.reached in
        let o = go-near every u a h (omega arith) in
        let c = i.begun.0 in
        absurd (omega arith)
    go (suc k') l e ih =
        let b = i.reached in
        let o = go-near every u a h (omega arith) in
        let c = i.begun.0 in
        let d = stop-far x in
        let f = plus q.figures (figures_of ce de) in
        let kn = next-known every u x h in
        let pl = next-place-is every u x h in
        let t = left_told every n (suc k') z.from f (entries_of m' p' r n) (events_of w' r n) in
        let y = ih (suc k') f (record {
          reached = omega arith;
          inside = i.begun.1.0;
          near = subst (λ p. stop x < p + block_len) (sym pl) (stop-behind u.place x);
          known = subst (λ w. is_told w (stop x) ≡ true) (sym kn) (told-next u.watched x);
          found = ap (λ w. w.found) kn ∙ next-found u.watched m x i.found;
          kept = next-figures every u x m q.figures h i.found q.kept;
          left = l;
          spaced = stop-spaced x r i.spaced.1;
          begun = i.begun.1.1;
        }) ∙ ap₂ (λ p w. left_told every n (suc k') z.from f (entries_of m' p r n) (events_of w r n)
        ++ event (End n (locked_at w r n)) ∷ []) pl kn in
        lhs (told_to every u a) (events (told_events z.watched x)) (sums_from every u' r)
        (all_told every (behind_sums every u' r) n)
        ∙ ap₂ (λ v s. told_to every u a ++ (events (told_events v x) ++ s)) (go-watched every u a h) y
        ∙ sym (rhs (told_to every u a) (events de) t ends)
        ∙ ap (λ v. v ++ ends) (sym (as-told
        ∙ ap (λ v. told_to every u a
        ++ left_told every n v z.from q.figures (ce ++ entries_of m' p' r n) (de ++ events_of w' r n)) (sym e)
        ∙ ap (λ v. told_to every u a ++ v) (left-pass every n k' z.from q.figures ce (entries_of m' p' r n) de
        (events_of w' r n)
        (report-before m (behind_full u.place a) (min (z.from + every) n) x (behind-past u.place a) (omega arith))
        (told-before (up_to u.watched a) x (min (z.from + every) n) (omega arith)))))

-- all reports begin in the cells
ahead-join : (n : ℕ) (a b : List Report) → Ahead n a → Ahead n b → Ahead n (a ++ b)
ahead-join n [] b h g = g
ahead-join n (x ∷ a) b h g = (h.0, (h.1.0, ahead-join n a b h.1.1 g))

ahead-from : (n p : ℕ) (c : List Level) → p + length c ≤ n → Ahead n (reports_from p c)
ahead-from n p [] h = tt
ahead-from n p (x ∷ c) h = go (outcome_at (x ∷ c)) refl (ahead-from n (suc p) c (omega arith))
  where
    go : (o : Option Outcome) → outcome_at (x ∷ c) ≡ o → Ahead n (reports_from (suc p) c)
        → Ahead n (told p o ++ reports_from (suc p) c)
    go None e r = r
    go (Some (whole s b)) e r =
        let l = closed-room b s (x ∷ c) (at-standing b s (x ∷ c) e) in (omega arith, (omega arith, r))
    go (Some (marked s wrong)) e r = (omega arith, (omega arith, r))
    go (Some (fault f)) e r = (omega arith, (omega arith, r))
    go (Some (unfinished n)) e r = (omega arith, (omega arith, r))

pub ahead-reports : (c : List Level) → Ahead (length c) (reports c)
unfolding reports
ahead-reports c = ahead-from (length c) 0 c (omega arith)

-- period by period
abbrev period_at : ℕ → ℕ → List Entry → List Event → ℕ → List Notice
period_at every n e v i =
    let p = every * i in
    let q = min (every * i + every) n in
    events (within told_at p q v)
    ++ sum (record {
      from = p;
      to = q;
      figures = in_64_bits (figures_of (within counts_at p q e) (within told_at p q v));
    }) ∷ []

by-period : (every n : ℕ) (e : List Entry) (v : List Event) (k j : ℕ)
    → left_told every n k (every * j) no_figures (from_on counts_at (every * j) e) (from_on told_at (every * j) v)
    ≡ flat_map (period_at every n e v) (range_with_len j k)
by-period every n e v zero j = refl
by-period every n e v (suc k) j =
    let p = every * j in
    let q = min (p + every) n in
    let r = p + every in
    let t : r ≡ every * (j + 1) = grind arith in
    let rest = left_told every n k r no_figures (from_on counts_at r (from_on counts_at p e))
    (from_on told_at r (from_on told_at p v)) in
    ap₂ (λ x y. events y ++ sum (record { from = p; to = q; figures = in_64_bits (plus no_figures (figures_of x y)) })
    ∷ rest)
    (between counts_at p q e) (between told_at p q v)
    ∙ ap (λ f. events (within told_at p q v) ++ sum (record { from = p; to = q; figures = f }) ∷ rest)
    (none-plus (figures_of (within counts_at p q e) (within told_at p q v)))
    ∙ sym (append_assoc (events (within told_at p q v)) (sum (record {
      from = p;
      to = q;
      figures = in_64_bits (figures_of (within counts_at p q e) (within told_at p q v));
    }) ∷ []) rest)
    ∙ ap (λ z. period_at every n e v j ++ z)
    (ap₂ (left_told every n k r no_figures) (twice-from counts_at p r e (omega arith))
    (twice-from told_at p r v (omega arith))
    ∙ ap (λ z. left_told every n k z no_figures (from_on counts_at z e) (from_on told_at z v)) t
    ∙ by-period every n e v k (j + 1))

pub from-zero : {X : Type 0} (place : X → ℕ) (xs : List X) → AllFrom place 0 xs
from-zero place [] = tt
from-zero place (x ∷ xs) = (omega arith, from-zero place xs)

from-start : (every n k : ℕ) (e : List Entry) (v : List Event)
    → left_told every n k 0 no_figures e v ≡ flat_map (period_at every n e v) (range_with_len 0 k)
from-start every n k e v =
    let z : 0 ≡ every * 0 = omega arith in
    ap₂ (left_told every n k 0 no_figures) (sym (from-all counts_at 0 e (from-zero counts_at e)))
    (sym (from-all told_at 0 v (from-zero told_at v)))
    ∙ ap (λ p. left_told every n k p no_figures (from_on counts_at p e) (from_on told_at p v)) z
    ∙ by-period every n e v k 0

pub starts-left : (every n : ℕ) → 0 < every → Left every n 0 (div_ceil n every)
starts-left every n h =
    let b = div_ceil_times n every h in
    let o : every * div_ceil n every ≡ (n / every + min 1 (n % every)) * every = grind arith in
    record { all = (let x = b.0 in omega arith); few = (let y = b.1 in omega arith) }

pub sums-by-periods : SumsAreByPeriods
unfolding notices account watch_events ended
sums-by-periods every h c =
    let r = reports c in
    let n = length c in
    let k = div_ceil n every in
    let m = block_len_24576 in
    run every n h r 0 k 0 unsummed no_figures (record {
      reached = omega arith;
      inside = omega arith;
      near = omega arith;
      known = lt-ltb (0 - 0) block_len (omega arith);
      found = refl;
      kept = sym fitted-none;
      left = starts-left every n h;
      spaced = spaced-reports c;
      begun = ahead-reports c;
    })
    ∙ ap (λ z. z ++ event (End n (locked_at unwatched r n)) ∷ [])
    (from-start every n k (entries_of 0 0 r n) (events_of unwatched r n))
