-- A line of which sums are told, as its cells come.
use Rattle.std.proofs.Common.{◌≡◌, ℕ, zero, suc, ◌+◌, ◌-◌, ◌*◌, ◌/◌, ◌<◌, ◌≤◌, ◌⊎◌, inl, inr, List, [], ◌∷◌, ◌++◌}
use Rattle.std.proofs.Common.{length, drop, refl, sym, ap, ap₂, ◌∙◌, subst, arith, append-nil, append_assoc, Option}
use Rattle.std.proofs.Math.Nat.{add-mul-div_left, div-add-mod, le-div_iff_mul-le, mod-lt, mul-div-le, zero-div}
use Rattle.std.proofs.lemmas.Bool.{cases_lt}
use Rattle.std.proofs.lemmas.List.{append_cancel_left, drop_at, map-append}
use Rattle.std.proofs.lemmas.Grind.{flat_map-append}
use Rattle.aes3_level.specs.declared.level.Level.{Level}
use Rattle.aes3_cell.specs.Ends.{Grew, GrewFront}
use Rattle.aes3_cell.proofs.Growing.{front-is, front-join, front-more}
use Rattle.aes3_frame.specs.Blocks.{block_len, block_subframes}
use Rattle.aes3_lock.specs.declared.report.Report.{Report}
use Rattle.aes3_lock.specs.Reports.{reports, decided}
use Rattle.aes3_lock.specs.Remains.{place_of}
use Rattle.aes3_lock.proofs.Deciding.{answer, block_len_24576}
use Rattle.aes3_lock.proofs.Ends.{final}
use Rattle.aes3_input.specs.Taking.{behind, before_end, with_end}
use Rattle.aes3_input.proofs.Items.{before-is, before-join}
use Rattle.aes3_text_lines.specs.declared.event.Event.{Event}
use Rattle.aes3_text_lines.specs.declared.event.Event.TheVariants.{End}
use Rattle.aes3_status.specs.declared.style.Style.{Style}
use Rattle.aes3_text_lines.specs.declared.sum.Figures.{Figures}
use Rattle.aes3_text_lines.specs.Events.{event_line}
use Rattle.aes3_text_lines.specs.SumLines.{sum_line}
use Rattle.aes3_lock_gaps.specs.Gaps.{behind_full, full_count}
use Rattle.aes3_watch.specs.Watching.{loss_events, up_to, told_events, next, behind_reports, watched, event_lines}
use Rattle.aes3_watch.specs.Watching.{is_locked, IsKept}
use Rattle.aes3_watch.specs.declared.watching.Watched.{Watched}
use Rattle.aes3_watch.specs.declared.summed.Summed.{Summed}
use Rattle.aes3_watch.specs.Sums.{Notice, event, sum, events, begun_notices, begun_sums, behind_sums, end_told}
use Rattle.aes3_watch.specs.Sums.{ends_before, go_to, more, next_period, next_sum, no_figures, notice_line}
use Rattle.aes3_watch.specs.Sums.{notice_lines, notices, on_to, period_told, periods, periods_told, report_told}
use Rattle.aes3_watch.specs.Sums.{sum_lines, summed, summing, sums_from, all_told, last_sum, sums_in, take_report}
use Rattle.aes3_watch.specs.Sums.{told_to, unsummed, with_lost}
use Rattle.aes3_lock_gaps.proofs.GapLemmas.{behind-join, count-add}
use Rattle.aes3_lock.proofs.ReportPlaces.{split-reports, late-decided, late-reports}
use Rattle.aes3_lock_gaps.proofs.BegunAccounts.{one-answer, one-final, decided-more, shorter}
use Rattle.aes3_watch.proofs.WatchedCells.{loss-join, up-join, up-losses, next-join, before-last, few-up, grown}
use Rattle.aes3_watch.proofs.WatchedCells.{up-latest}

-- more, and more behind it
more-join : (n x y z : ℕ) → z ≡ x + y → more (more n x) y ≡ more n z
unfolding more
more-join n x y z e = omega arith

lost-join : (f : Figures) (x y z : ℕ) → z ≡ x + y → with_lost (with_lost f x) y ≡ with_lost f z
lost-join f x y z e = ap (λ (v : ℕ). record {
  whole = f.whole;
  marked = f.marked;
  fault = f.fault;
  preamble = f.preamble;
  biphase = f.biphase;
  unclosed = f.unclosed;
  lost = v;
  invalid_first = f.invalid_first;
  invalid_second = f.invalid_second;
  changes = f.changes;
}) (more-join f.lost x y z e)

cells-add : (p a b : ℕ) → a ≤ b
    → block_len * full_count p b ≡ block_len * full_count p a + block_len * full_count (behind_full p a) b
cells-add p a b h = let e = count-add p a b h in rw block_len_24576 (omega arith)

figures-join : (u : Summed) (a b : ℕ) → a ≤ b → (on_to (on_to u a) b).figures ≡ (on_to u b).figures
figures-join u a b h = lost-join u.figures _ _ _ (cells-add u.place a b h)

-- on within the open period, in two parts
on-join : (u : Summed) (a b : ℕ) → a ≤ b → on_to (on_to u a) b ≡ on_to u b
on-join u a b h =
    ap₂ (λ (w : Watched) (p : ℕ). record {
      watched = w;
      from = u.from;
      place = p;
      figures = (on_to (on_to u a) b).figures;
    }) (sym (up-join u.watched a b h)) (behind-join u.place a b h)
    ∙ ap (λ (f : Figures). record {
      watched = up_to u.watched b;
      from = u.from;
      place = behind_full u.place b;
      figures = f;
    }) (figures-join u a b h)

-- to the end of the period
next-on : (every : ℕ) (u : Summed) (a : ℕ) → a ≤ u.from + every → next_period every (on_to u a) ≡ next_period every u
next-on every u a h = ap₂ (λ (w : Watched) (p : ℕ). record {
  watched = w;
  from = u.from + every;
  place = p;
  figures = no_figures;
}) (sym (up-join u.watched a (u.from + every) h)) (behind-join u.place a (u.from + every) h)

loss-on : (u : Summed) (a b : ℕ) → a ≤ b
    → events (loss_events u.watched b) ≡ events (loss_events u.watched a) ++ events (loss_events (on_to u a).watched b)
loss-on u a b h =
    ap events (loss-join u.watched a b h)
    ∙ map-append event (loss_events u.watched a) (loss_events (up_to u.watched a) b)

told-on : (every : ℕ) (u : Summed) (a : ℕ) → a ≤ u.from + every
    → period_told every u ≡ events (loss_events u.watched a) ++ period_told every (on_to u a)
told-on every u a h =
    let q = u.from + every in
    ap₂ (λ (x : List Notice) (f : Figures). x ++ sum (record { from = u.from; to = q; figures = f }) ∷ [])
    (loss-on u a q h) (sym (figures-join u a q h))
    ∙ append_assoc (events (loss_events u.watched a)) (events (loss_events (on_to u a).watched q))
    (sum (record { from = u.from; to = q; figures = (on_to (on_to u a) q).figures }) ∷ [])

-- several periods
periods-add : (every m k : ℕ) (u : Summed) → periods every (m + k) u ≡ periods every k (periods every m u)
periods-add every zero k u = let e : 0 + k ≡ k = omega arith in ap (λ n. periods every n u) e
periods-add every (suc m) k u =
    let e : suc m + k ≡ suc (m + k) = omega arith in
    ap (λ n. periods every n u) e ∙ periods-add every m k (next_period every u)

pub periods_told-add : (every m k : ℕ) (u : Summed)
    → periods_told every (m + k) u ≡ periods_told every m u ++ periods_told every k (periods every m u)
periods_told-add every zero k u = let e : 0 + k ≡ k = omega arith in ap (λ n. periods_told every n u) e
periods_told-add every (suc m) k u =
    let e : suc m + k ≡ suc (m + k) = omega arith in
    ap (λ n. periods_told every n u) e
    ∙ ap (λ z. period_told every u ++ z) (periods_told-add every m k (next_period every u))
    ∙ sym (append_assoc (period_told every u) (periods_told every m (next_period every u))
    (periods_told every k (periods every m (next_period every u))))

times-suc : (every n : ℕ) → every * suc n ≡ every + every * n
times-suc every n = grind arith

pub periods-from : (every n : ℕ) (u : Summed) → (periods every n u).from ≡ u.from + every * n
periods-from every zero u = let e : every * 0 ≡ 0 = omega arith in omega arith
periods-from every (suc n) u =
    let e = periods-from every n (next_period every u) in
    let t = times-suc every n in
    omega arith

pub periods-more : (every n : ℕ) (u : Summed) → periods every (n + 1) u ≡ next_period every (periods every n u)
periods-more every n u = periods-add every n 1 u

pub periods_told-more : (every n : ℕ) (u : Summed)
    → periods_told every (n + 1) u ≡ periods_told every n u ++ period_told every (periods every n u)
periods_told-more every n u =
    periods_told-add every n 1 u
    ∙ ap (λ z. periods_told every n u ++ z) (append-nil (period_told every (periods every n u)))

-- how many ends of periods there are up to a place
pub near-end : (every n : ℕ) → 0 < every → n < every * (n / every) + every
near-end every n h = let d = div-add-mod n every in let m = mod-lt n h in omega arith

ends-step : (every f a b : ℕ) → 0 < every → a ≤ b
    → (b - f) / every ≡ (a - f) / every + (b - (f + every * ((a - f) / every))) / every
ends-step every f a b h l =
    let m = (a - f) / every in
    let t = mul-div-le (a - f) every in
    let e : b - f ≡ b - (f + every * m) + every * m = omega arith in
    let d = add-mul-div_left (b - (f + every * m)) m h in
    ap (λ n. n / every) e ∙ d ∙ omega arith

-- what the code counts
pub gap-cells : (p q s : ℕ) → s ≡ q - p → s / 24576 * 24576 ≡ block_len * full_count p q
unfolding full_count
gap-cells p q s e = rw block_len_24576 (omega arith)

pub gap-place : (p q s : ℕ) → s ≡ q - p → p + s / 24576 * 24576 ≡ behind_full p q
unfolding behind_full full_count
gap-place p q s e = rw block_len_24576 (omega arith)

-- what is told of events
pub event-lines : (style : Style) (es : List Event) → notice_lines style (events es) ≡ event_lines style es
event-lines style [] = refl
event-lines style (e ∷ es) = ap (λ z. event_line style e ++ z) (event-lines style es)

pub lines-join : (style : Style) (a b : List Notice)
    → notice_lines style (a ++ b) ≡ notice_lines style a ++ notice_lines style b
lines-join style a b = flat_map-append (notice_line style) a b

pub events-join : (style : Style) (es : List Event) (b : List Notice)
    → event_lines style es ++ notice_lines style b ≡ notice_lines style (events es ++ b)
events-join style es b =
    ap (λ z. z ++ notice_lines style b) (sym (event-lines style es)) ∙ sym (lines-join style (events es) b)

pub told-events : (style : Style) (a : List Notice) (es : List Event)
    → notice_lines style a ++ event_lines style es ≡ notice_lines style (a ++ events es)
told-events style a es =
    ap (λ z. notice_lines style a ++ z) (sym (event-lines style es)) ∙ sym (lines-join style a (events es))

-- the lines of a period
pub period-lines : (style : Style) (every : ℕ) (u v : Summed) → v ≡ on_to u (u.from + every)
    → event_lines style (loss_events u.watched (u.from + every))
    ++ sum_line style (record { from = v.from; to = u.from + every; figures = v.figures })
    ≡ notice_lines style (period_told every u)
period-lines style every u v e =
    let q = u.from + every in
    ap (λ (x : Summed). event_lines style (loss_events u.watched q)
    ++ sum_line style (record { from = x.from; to = q; figures = x.figures })) e
    ∙ ap (λ z. event_lines style (loss_events u.watched q) ++ z)
    (sym (append-nil (sum_line style (record { from = u.from; to = q; figures = (on_to u q).figures }))))
    ∙ events-join style (loss_events u.watched q)
    (sum (record { from = u.from; to = q; figures = (on_to u q).figures }) ∷ [])

-- what is known by events on the way
pub suc-times : (every n : ℕ) → suc n * every ≡ every + n * every
suc-times every n = grind arith

pub periods-watched : (every n : ℕ) (u : Summed) (q : ℕ) → 0 < every → n * every ≤ q - u.from
    → up_to (periods every n u).watched q ≡ up_to u.watched q
periods-watched every zero u q h l = refl
periods-watched every (suc n) u q h l =
    let t = suc-times every n in
    periods-watched every n (next_period every u) q h (omega arith)
    ∙ sym (up-join u.watched (u.from + every) q (omega arith))

pub periods-few : (every n : ℕ) (u : Summed) (q : ℕ) → 0 < every → n * every ≤ q - u.from
    → (periods every n u).watched.losses ≤ u.watched.losses + 1
periods-few every n u q h l =
    let a = up-losses (periods every n u).watched q in
    let b = few-up u.watched q in
    let e = ap (λ w. w.losses) (periods-watched every n u q h l) in
    omega arith

pub ends-few : (every n x : ℕ) → 0 < every → n ≤ x / every → n * every ≤ x
ends-few every n x h l = (le-div_iff_mul-le h).0 l

pub loop-few : (every n s : ℕ) (u v : Summed) (q : ℕ) → 0 < every → s ≡ q - u.from → n ≤ s / every
    → v ≡ periods every n u → v.watched.losses ≤ u.watched.losses + 1
loop-few every n s u v q h e l f =
    let m = ends-few every n s h l in
    let a = periods-few every n u q h (omega arith) in
    let b = ap (λ x. x.watched.losses) f in
    omega arith

pub loop-near : (every n s : ℕ) (u v : Summed) (q : ℕ) → 0 < every → s ≡ q - u.from → n < s / every
    → v ≡ periods every n u → v.from + every ≤ q
loop-near every n s u v q h e l f =
    let m = ends-few every (suc n) s h (omega arith) in
    let t = suc-times every n in
    let a = periods-from every n u in
    let b = ap (λ x. x.from) f in
    let c : every * n ≡ n * every = grind arith in
    omega arith

pub ends-is : (every : ℕ) (u : Summed) (q s n : ℕ) → s ≡ q - u.from → n ≡ s / every → n ≡ ends_before every u q
unfolding ends_before
ends-is every u q s n e f = f ∙ ap (λ z. z / every) e

pub period-is : {style style' : Style} {every every' : ℕ} {u v : Summed} → style' ≡ style → every' ≡ every → v ≡ u
    → notice_lines style' (period_told every' v) ≡ notice_lines style (period_told every u)
period-is {style} {style'} {every} {every'} {u} {v} a b e =
    ap₂ (λ (x : Style) (n : ℕ). notice_lines x (period_told n v)) a b
    ∙ ap (λ (x : Summed). notice_lines style (period_told every x)) e

pub next-is : {every every' : ℕ} {u v : Summed} → every' ≡ every → v ≡ u
    → next_period every' v ≡ next_period every u
next-is {every} {every'} {u} {v} b e = ap₂ next_period b e

pub ended-lines : (style : Style) (every k : ℕ) (u : Summed)
    → notice_lines style (periods_told every k u) ++ notice_lines style (period_told every (periods every k u))
    ≡ notice_lines style (periods_told every (k + 1) u)
ended-lines style every k u =
    sym (lines-join style (periods_told every k u) (period_told every (periods every k u)))
    ∙ ap (notice_lines style) (sym (periods_told-more every k u))

pub ended-front : {t t' t'' : Option (List ℕ)} {x : List ℕ} (style : Style) (every k n : ℕ) (u : Summed) → k < n
    → x ≡ notice_lines style (period_told every (periods every k u))
    → Grew t t' (notice_lines style (periods_told every k u)) → GrewFront t' t'' x
    → GrewFront t t'' (notice_lines style (periods_told every n u))
ended-front style every k n u l e g f =
    let q : n ≡ k + 1 + (n - (k + 1)) = omega arith in
    let rest = periods_told every (n - (k + 1)) (periods every (k + 1) u) in
    front-is (sym (ap (λ m. notice_lines style (periods_told every m u)) q
    ∙ ap (notice_lines style) (periods_told-add every (k + 1) (n - (k + 1)) u)
    ∙ lines-join style (periods_told every (k + 1) u) rest))
    (front-more (front-is (ended-lines style every k u) (front-join g (front-is e f))) (notice_lines style rest))

-- on to a place
pub go-lines : (style : Style) (every : ℕ) (u v : Summed) (q : ℕ) → v ≡ periods every (ends_before every u q) u
    → notice_lines style (periods_told every (ends_before every u q) u)
    ++ event_lines style (loss_events v.watched q)
    ≡ notice_lines style (told_to every u q)
unfolding told_to
go-lines style every u v q e =
    let n = ends_before every u q in
    ap (λ (x : Summed). notice_lines style (periods_told every n u) ++ event_lines style (loss_events x.watched q)) e
    ∙ told-events style (periods_told every n u) (loss_events (periods every n u).watched q)

pub go-is : (every : ℕ) (u v w : Summed) (q : ℕ) → v ≡ periods every (ends_before every u q) u → w ≡ on_to v q
    → w ≡ go_to every u q
unfolding go_to
go-is every u v w q e f = f ∙ ap (λ x. on_to x q) e

-- what the last whole block says stays
periods-latest : (every n : ℕ) (u : Summed) → (periods every n u).watched.latest ≡ u.watched.latest
periods-latest every zero u = refl
periods-latest every (suc n) u =
    periods-latest every n (next_period every u) ∙ up-latest u.watched (u.from + every)

pub go-latest : (every : ℕ) (u : Summed) (q : ℕ) → (go_to every u q).watched.latest ≡ u.watched.latest
unfolding go_to
go-latest every u q =
    let n = ends_before every u q in
    up-latest (periods every n u).watched q ∙ periods-latest every n u

pub kept-go : (every : ℕ) (u v : Summed) (q : ℕ) (lasts lasts' : List ℕ) → v ≡ go_to every u q → lasts' ≡ lasts
    → IsKept u.watched.latest lasts → IsKept v.watched.latest lasts'
kept-go every u v q lasts lasts' e f h =
    subst (λ o. IsKept o lasts') (sym (ap (λ x. x.watched.latest) e ∙ go-latest every u q))
    (subst (λ l. IsKept u.watched.latest l) (sym f) h)

-- the lines of a report, and of the end
pub report-lines : (style : Style) (every : ℕ) (u v : Summed) (x : Report) (q : ℕ) (told : List Event)
    → q ≡ place_of x → v ≡ go_to every u q → told ≡ told_events v.watched x
    → notice_lines style (told_to every u q) ++ event_lines style told ≡ notice_lines style (report_told every u x)
report-lines style every u v x q told e f t =
    ap (λ z. notice_lines style (told_to every u q) ++ event_lines style z)
    (t ∙ ap (λ (w : Summed). told_events w.watched x) f)
    ∙ told-events style (told_to every u q) (told_events (go_to every u q).watched x)
    ∙ ap (λ n. notice_lines style (told_to every u n ++ events (told_events (go_to every u n).watched x))) e

pub all-lines : (style : Style) (every : ℕ) (u v : Summed) (n : ℕ) (told : List Event)
    → v ≡ go_to every u n → told ≡ loss_events v.watched n ++ End n (is_locked (up_to v.watched n)) ∷ []
    → notice_lines style (told_to every u n) ++ (notice_lines style (last_sum v n) ++ event_lines style told)
    ≡ notice_lines style (all_told every u n)
all-lines style every u v n told e t =
    ap (λ z. notice_lines style (told_to every u n) ++ (notice_lines style (last_sum v n) ++ event_lines style z)) t
    ∙ ap (λ z. notice_lines style (told_to every u n) ++ z)
    (told-events style (last_sum v n) (loss_events v.watched n ++ End n (is_locked (up_to v.watched n)) ∷ []))
    ∙ sym (lines-join style (told_to every u n) (end_told v n))
    ∙ ap (λ (w : Summed). notice_lines style (told_to every u n ++ end_told w n)) e

-- on in two parts: periods from a place of the open one on
on-periods : (every k : ℕ) (v : Summed) (a b : ℕ) → a ≤ b → a ≤ v.from + every
    → on_to (periods every k (on_to v a)) b ≡ on_to (periods every k v) b
on-periods every zero v a b h l = on-join v a b h
on-periods every (suc k) v a b h l = ap (λ x. on_to (periods every k x) b) (next-on every v a l)

told-periods : (every k : ℕ) (v : Summed) (a b : ℕ) → a ≤ b → a ≤ v.from + every
    → periods_told every k v ++ events (loss_events (periods every k v).watched b)
    ≡ events (loss_events v.watched a)
    ++ (periods_told every k (on_to v a) ++ events (loss_events (periods every k (on_to v a)).watched b))
told-periods every zero v a b h l = loss-on v a b h
told-periods every (suc k) v a b h l =
    let n = next_period every v in
    let t = events (loss_events (periods every k n).watched b) in
    ap (λ z. (z ++ periods_told every k n) ++ t) (told-on every v a l)
    ∙ five-joined (events (loss_events v.watched a)) (period_told every (on_to v a)) (periods_told every k n) t
    ∙ ap (λ x. events (loss_events v.watched a)
    ++ ((period_told every (on_to v a) ++ periods_told every k x)
    ++ events (loss_events (periods every k x).watched b)))
    (sym (next-on every v a l))
  where
    five-joined : (a b c d : List Notice) → ((a ++ b) ++ c) ++ d ≡ a ++ ((b ++ c) ++ d)
    five-joined a b c d = simp append_assoc

-- how many periods end up to the first place, and up to the second from there
abbrev there : ℕ → Summed → ℕ → Summed
there every u a = periods every (ends_before every u a) u

there-near : (every : ℕ) (u : Summed) (a : ℕ) → 0 < every → a ≤ (there every u a).from + every
unfolding ends_before
there-near every u a h =
    let f = periods-from every ((a - u.from) / every) u in
    let n = near-end every (a - u.from) h in
    omega arith

ends-add : (every : ℕ) (u : Summed) (a b : ℕ) → 0 < every → a ≤ b
    → ends_before every u b
    ≡ ends_before every u a + ends_before every (on_to (there every u a) a) b
unfolding ends_before
ends-add every u a b h l =
    ends-step every u.from a b h l
    ∙ ap (λ f. (a - u.from) / every + (b - f) / every) (sym (periods-from every ((a - u.from) / every) u))

pub go-join : (every : ℕ) (u : Summed) (a b : ℕ) → 0 < every → a ≤ b
    → go_to every u b ≡ go_to every (go_to every u a) b
unfolding go_to
go-join every u a b h l =
    let v = there every u a in
    let k = ends_before every (on_to v a) b in
    ap (λ n. on_to (periods every n u) b) (ends-add every u a b h l)
    ∙ ap (λ x. on_to x b) (periods-add every (ends_before every u a) k u)
    ∙ sym (on-periods every k v a b l (there-near every u a h))

pub told-join : (every : ℕ) (u : Summed) (a b : ℕ) → 0 < every → a ≤ b
    → told_to every u b ≡ told_to every u a ++ told_to every (go_to every u a) b
unfolding told_to go_to
told-join every u a b h l =
    let n = ends_before every u a in
    let v = there every u a in
    let k = ends_before every (on_to v a) b in
    ap (λ m. periods_told every m u ++ events (loss_events (periods every m u).watched b)) (ends-add every u a b h l)
    ∙ ap₂ (λ x (y : Summed). x ++ events (loss_events y.watched b)) (periods_told-add every n k u)
    (periods-add every n k u)
    ∙ append_assoc (periods_told every n u) (periods_told every k v)
    (events (loss_events (periods every k v).watched b))
    ∙ ap (λ z. periods_told every n u ++ z) (told-periods every k v a b l (there-near every u a h))
    ∙ sym (append_assoc (periods_told every n u) (events (loss_events v.watched a))
    (periods_told every k (on_to v a) ++ events (loss_events (periods every k (on_to v a)).watched b)))

-- a report
sum-next-join : (every : ℕ) (u : Summed) (a : ℕ) (x : Report) → 0 < every → a ≤ place_of x
    → next_sum every u x ≡ next_sum every (go_to every u a) x
sum-next-join every u a x h l = ap (λ v. take_report v x) (go-join every u a (place_of x) h l)

told-report-join : (every : ℕ) (u : Summed) (a : ℕ) (x : Report) → 0 < every → a ≤ place_of x
    → report_told every u x ≡ told_to every u a ++ report_told every (go_to every u a) x
told-report-join every u a x h l =
    ap₂ (λ t (v : Summed). t ++ events (told_events v.watched x)) (told-join every u a (place_of x) h l)
    (go-join every u a (place_of x) h l)
    ∙ append_assoc (told_to every u a) (told_to every (go_to every u a) (place_of x))
    (events (told_events (go_to every (go_to every u a) (place_of x)).watched x))

-- one more report
pub sums-push : (every : ℕ) (u : Summed) (r : List Report) (x : Report)
    → sums_from every u (r ++ x ∷ []) ≡ sums_from every u r ++ report_told every (behind_sums every u r) x
sums-push every u [] x = append-nil (report_told every u x)
sums-push every u (y ∷ r) x =
    ap (λ z. report_told every u y ++ z) (sums-push every (next_sum every u y) r x)
    ∙ sym (append_assoc (report_told every u y) (sums_from every (next_sum every u y) r)
    (report_told every (behind_sums every (next_sum every u y) r) x))

pub behind-push : (every : ℕ) (u : Summed) (r : List Report) (x : Report)
    → behind_sums every u (r ++ x ∷ []) ≡ next_sum every (behind_sums every u r) x
behind-push every u [] x = refl
behind-push every u (y ∷ r) x = behind-push every (next_sum every u y) r x

-- more cells that decide no report
pub summed-passed : (every : ℕ) (c d : List Level) → 0 < every → decided (c ++ d) ≡ decided c
    → summed every (c ++ d) ≡ go_to every (summed every c) (length (c ++ d) - block_len)
unfolding summed
summed-passed every c d h e =
    ap (λ r. go_to every (behind_sums every unsummed r) (length (c ++ d) - block_len)) e
    ∙ go-join every (behind_sums every unsummed (decided c)) (length c - block_len) (length (c ++ d) - block_len) h
    (shorter c d)

pub notices-passed : (every : ℕ) (c d : List Level) → 0 < every → decided (c ++ d) ≡ decided c
    → begun_notices every (c ++ d)
    ≡ begun_notices every c ++ told_to every (summed every c) (length (c ++ d) - block_len)
unfolding begun_notices summed
notices-passed every c d h e =
    let w = behind_sums every unsummed (decided c) in
    let s = length c - block_len in
    let t = length (c ++ d) - block_len in
    ap (λ r. sums_from every unsummed r ++ told_to every (behind_sums every unsummed r) t) e
    ∙ ap (λ z. sums_from every unsummed (decided c) ++ z) (told-join every w s t h (shorter c d))
    ∙ sym (append_assoc (sums_from every unsummed (decided c)) (told_to every w s) (told_to every (go_to every w s) t))

-- a report, and what stands behind it
next-summed : (every : ℕ) (c : List Level) (x : Report) → 0 < every → length c ≤ place_of x + block_len
    → behind_sums every unsummed (decided c ++ x ∷ []) ≡ next_sum every (summed every c) x
unfolding summed
next-summed every c x h l =
    behind-push every unsummed (decided c) x
    ∙ sum-next-join every (behind_sums every unsummed (decided c)) (length c - block_len) x h (omega arith)

four : (a f g t : List Notice) → (a ++ (f ++ g)) ++ t ≡ (a ++ f) ++ (g ++ t)
four a f g t = simp append_assoc

notices-summed : (every : ℕ) (c : List Level) (x : Report) (tail : List Notice) → 0 < every
    → length c ≤ place_of x + block_len
    → sums_from every unsummed (decided c ++ x ∷ []) ++ tail
    ≡ begun_notices every c ++ (report_told every (summed every c) x ++ tail)
unfolding begun_notices summed
notices-summed every c x tail h l =
    let w = behind_sums every unsummed (decided c) in
    let s = length c - block_len in
    ap (λ z. z ++ tail) (sums-push every unsummed (decided c) x
    ∙ ap (λ z. sums_from every unsummed (decided c) ++ z) (told-report-join every w s x h (omega arith)))
    ∙ four (sums_from every unsummed (decided c)) (told_to every w s) (report_told every (go_to every w s) x) tail

summed-is : (every : ℕ) (c : List Level) (r : List Report) (w : Summed) → decided c ≡ r
    → behind_sums every unsummed r ≡ w → summed every c ≡ go_to every w (length c - block_len)
unfolding summed
summed-is every c r w e f =
    ap (λ v. go_to every (behind_sums every unsummed v) (length c - block_len)) e
    ∙ ap (λ v. go_to every v (length c - block_len)) f

pub begun-is : (every : ℕ) (c : List Level) (r : List Report) (w : Summed) → decided c ≡ r
    → behind_sums every unsummed r ≡ w
    → begun_notices every c ≡ sums_from every unsummed r ++ told_to every w (length c - block_len)
unfolding begun_notices
begun-is every c r w e f =
    ap (λ v. sums_from every unsummed v ++ told_to every (behind_sums every unsummed v) (length c - block_len)) e
    ∙ ap (λ v. sums_from every unsummed r ++ told_to every v (length c - block_len)) f

pub summed-taken : (every : ℕ) (c d : List Level) (x : Report) → 0 < every → decided (c ++ d) ≡ decided c ++ x ∷ []
    → summed every (c ++ d) ≡ go_to every (next_sum every (summed every c) x) (length (c ++ d) - block_len)
summed-taken every c d x h e =
    summed-is every (c ++ d) (decided c ++ x ∷ []) (next_sum every (summed every c) x) e
    (next-summed every c x h (late-decided c d x e))

pub notices-taken : (every : ℕ) (c d : List Level) (x : Report) → 0 < every → decided (c ++ d) ≡ decided c ++ x ∷ []
    → begun_notices every (c ++ d) ≡ begun_notices every c
    ++ (report_told every (summed every c) x
    ++ told_to every (next_sum every (summed every c) x) (length (c ++ d) - block_len))
notices-taken every c d x h e =
    let l = late-decided c d x e in
    begun-is every (c ++ d) (decided c ++ x ∷ []) (next_sum every (summed every c) x) e (next-summed every c x h l)
    ∙ notices-summed every c x (told_to every (next_sum every (summed every c) x) (length (c ++ d) - block_len)) h l

-- the end, where it decides no report, and where it decides one
pub all-is : (every : ℕ) (c : List Level) (r : List Report) (w : Summed) → reports c ≡ r
    → behind_sums every unsummed r ≡ w
    → notices every c ≡ sums_from every unsummed r ++ all_told every w (length c)
unfolding notices
all-is every c r w e f =
    ap (λ v. sums_from every unsummed v ++ all_told every (behind_sums every unsummed v) (length c)) e
    ∙ ap (λ v. sums_from every unsummed r ++ all_told every v (length c)) f

all-join : (every : ℕ) (w : Summed) (a b : ℕ) → 0 < every → a ≤ b
    → all_told every w b ≡ told_to every w a ++ all_told every (go_to every w a) b
all-join every w a b h l =
    ap₂ (λ t v. t ++ end_told v b) (told-join every w a b h l) (go-join every w a b h l)
    ∙ append_assoc (told_to every w a) (told_to every (go_to every w a) b)
    (end_told (go_to every (go_to every w a) b) b)

pub notices-closed : (every : ℕ) (c : List Level) → 0 < every → reports c ≡ decided c ++ []
    → notices every c ≡ begun_notices every c ++ all_told every (summed every c) (length c)
unfolding summed begun_notices
notices-closed every c h e =
    let w = behind_sums every unsummed (decided c) in
    let s = length c - block_len in
    all-is every c (decided c) w (e ∙ append-nil (decided c)) refl
    ∙ ap (λ z. sums_from every unsummed (decided c) ++ z) (all-join every w s (length c) h (before-last c))
    ∙ sym (append_assoc (sums_from every unsummed (decided c)) (told_to every w s)
    (all_told every (go_to every w s) (length c)))

pub notices-closed_with : (every : ℕ) (c : List Level) (x : Report) → 0 < every → reports c ≡ decided c ++ x ∷ []
    → notices every c ≡ begun_notices every c
    ++ (report_told every (summed every c) x ++ all_told every (next_sum every (summed every c) x) (length c))
notices-closed_with every c x h e =
    let l = late-reports c x e in
    all-is every c (decided c ++ x ∷ []) (next_sum every (summed every c) x) e (next-summed every c x h l)
    ∙ notices-summed every c x (all_told every (next_sum every (summed every c) x) (length c)) h l

-- so it grows
begun-more : (every : ℕ) (c : List Level) (l : Level) → 0 < every
    → (m : List Notice) × (begun_notices every (c ++ l ∷ []) ≡ begun_notices every c ++ m)
begun-more every c l h = go (one-answer 0 c l)
  where
    go : (answer 0 c l ≡ []) ⊎ ((x : Report) × (answer 0 c l ≡ x ∷ []))
        → (m : List Notice) × (begun_notices every (c ++ l ∷ []) ≡ begun_notices every c ++ m)
    go (inl e) =
        (_, notices-passed every c (l ∷ []) h (decided-more c l ∙ ap (λ r. decided c ++ r) e ∙ append-nil (decided c)))
    go (inr x) = (_, notices-taken every c (l ∷ []) x.0 h (decided-more c l ∙ ap (λ r. decided c ++ r) x.1))

all-more : (every : ℕ) (c : List Level) → 0 < every
    → (m : List Notice) × (notices every c ≡ begun_notices every c ++ m)
all-more every c h = go (one-final 0 c)
  where
    go : (final 0 c ≡ []) ⊎ ((x : Report) × (final 0 c ≡ x ∷ []))
        → (m : List Notice) × (notices every c ≡ begun_notices every c ++ m)
    go (inl e) = (_, notices-closed every c h (split-reports c ∙ ap (λ r. decided c ++ r) e))
    go (inr x) = (_, notices-closed_with every c x.0 h (split-reports c ∙ ap (λ r. decided c ++ r) x.1))

-- what the taker writes
grown-lines : (style : Style) (a b m : List Notice) → b ≡ a ++ m
    → notice_lines style b ≡ notice_lines style a ++ notice_lines style (drop (length a) b)
grown-lines style a b m e = ap (notice_lines style) (grown a b m e) ∙ lines-join style a (drop (length a) b)

adds-is : (style : Style) (every : ℕ) (c : List Level) (l : Level)
    → notice_lines style (drop (length (begun_notices every c)) (begun_notices every (c ++ l ∷ [])))
    ≡ (summing style every).adds c l
unfolding summing
adds-is style every c l = refl

ends-as : (style : Style) (every : ℕ) (c : List Level)
    → (summing style every).ends c ≡ notice_lines style (drop (length (begun_notices every c)) (notices every c))
unfolding summing
ends-as style every c = refl

pub none-before : (every : ℕ) → ends_before every unsummed 0 ≡ 0
unfolding ends_before
none-before every = zero-div every

begins : (every : ℕ) → begun_notices every [] ≡ []
unfolding begun_notices decided told_to block_len block_subframes
begins every = ap (λ n. periods_told every n unsummed ++ events (loss_events (periods every n unsummed).watched 0))
    (none-before every)

pub before-sums : (style : Style) (every : ℕ) (c : List Level) → 0 < every
    → before_end (summing style every) c ≡ begun_sums style every c
before-sums style every c h =
    before-is (summing style every) (begun_sums style every) (ap (notice_lines style) (begins every))
    (λ c l. let m = begun-more every c l h in
    grown-lines style (begun_notices every c) (begun_notices every (c ++ l ∷ [])) m.0 m.1
    ∙ ap (λ z. begun_sums style every c ++ z) (adds-is style every c l)) c

pub with-sums : (style : Style) (every : ℕ) (c : List Level) → 0 < every
    → with_end (summing style every) c ≡ sum_lines style every c
unfolding with_end
with-sums style every c h =
    let m = all-more every c h in
    ap₂ (λ x y. x ++ y) (before-sums style every c h) (ends-as style every c)
    ∙ sym (grown-lines style (begun_notices every c) (notices every c) m.0 m.1)

pub behind-lines : (style : Style) (every : ℕ) (c d : List Level) (m : List Notice) → 0 < every
    → begun_notices every (c ++ d) ≡ begun_notices every c ++ m
    → notice_lines style m ≡ behind (summing style every) c d
behind-lines style every c d m h e =
    append_cancel_left (begun_sums style every c) (notice_lines style m) (behind (summing style every) c d)
    (sym (lines-join style (begun_notices every c) m) ∙ sym (ap (notice_lines style) e)
    ∙ sym (before-sums style every (c ++ d) h) ∙ before-join (summing style every) c d
    ∙ ap (λ z. z ++ behind (summing style every) c d) (before-sums style every c h))

pub ends-lines : (style : Style) (every : ℕ) (c : List Level) (m : List Notice)
    → notices every c ≡ begun_notices every c ++ m
    → notice_lines style m ≡ (summing style every).ends c
ends-lines style every c m e =
    sym (ends-as style every c ∙ ap (notice_lines style)
    (ap (drop (length (begun_notices every c))) e
    ∙ drop_at (begun_notices every c) m (length (begun_notices every c)) refl))

-- the events are those that are told without sums
pub go-watched : (every : ℕ) (u : Summed) (q : ℕ) → 0 < every → (go_to every u q).watched ≡ up_to u.watched q
unfolding go_to ends_before
go-watched every u q h =
    let n = (q - u.from) / every in
    periods-watched every n u q h (ends-few every n (q - u.from) h (omega arith))

pub next-known : (every : ℕ) (u : Summed) (x : Report) → 0 < every
    → (next_sum every u x).watched ≡ next u.watched x
next-known every u x h =
    ap (λ w. next w x) (go-watched every u (place_of x) h)
    ∙ sym (next-join u.watched (place_of x) x (omega arith))

pub behind-known : (every : ℕ) (u : Summed) (r : List Report) → 0 < every
    → (behind_sums every u r).watched ≡ behind_reports u.watched r
behind-known every u [] h = refl
behind-known every u (x ∷ r) h =
    behind-known every (next_sum every u x) r h ∙ ap (λ w. behind_reports w r) (next-known every u x h)

pub summed-known : (every : ℕ) (c : List Level) → 0 < every → (summed every c).watched ≡ watched c
unfolding summed watched
summed-known every c h =
    go-watched every (behind_sums every unsummed (decided c)) (length c - block_len) h
    ∙ ap (λ w. up_to w (length c - block_len)) (behind-known every unsummed (decided c) h)

pub end-known : (every : ℕ) (u v : Summed) (w : Watched) (n : ℕ) → 0 < every → v ≡ go_to every u n
    → w ≡ up_to v.watched n → w ≡ up_to u.watched n
end-known every u v w n h e f =
    f ∙ ap (λ x. up_to x n) (ap (λ x. x.watched) e ∙ go-watched every u n h)
    ∙ sym (up-join u.watched n n (omega arith))

pub next-at : (every : ℕ) (u v : Summed) (x : Report) → 0 < every → v ≡ next_sum every u x
    → v.watched ≡ next u.watched x
next-at every u v x h e = ap (λ y. y.watched) e ∙ next-known every u x h

pub go-at : (every : ℕ) (u v : Summed) (q : ℕ) → 0 < every → v ≡ go_to every u q → v.watched ≡ up_to u.watched q
go-at every u v q h e = ap (λ y. y.watched) e ∙ go-watched every u q h

-- the sums among what is told
pub sums-append : (a b : List Notice) → sums_in (a ++ b) ≡ sums_in a ++ sums_in b
sums-append [] b = refl
sums-append (event e ∷ a) b = sums-append a b
sums-append (sum s ∷ a) b = ap (λ z. s ∷ z) (sums-append a b)

no-sums : (es : List Event) → sums_in (events es) ≡ []
no-sums [] = refl
no-sums (e ∷ es) = no-sums es

pub sums-before : (a : List Notice) (es : List Event) → sums_in (a ++ events es) ≡ sums_in a
sums-before a es =
    sums-append a (events es) ∙ ap (λ z. sums_in a ++ z) (no-sums es) ∙ append-nil (sums_in a)

pub sums-behind : (es : List Event) (a : List Notice) → sums_in (events es ++ a) ≡ sums_in a
sums-behind es a = sums-append (events es) a ∙ ap (λ z. z ++ sums_in a) (no-sums es)

-- on to a place of the period that is open behind n others
pub ends-are : (every f n p : ℕ) → 0 < every → every * n ≤ p - f → p < f + every * n + every
    → (p - f) / every ≡ n
ends-are every f n p h a b = go (cases_lt ((p - f) / every) (suc n))
  where
    turned : every * n ≡ n * every
    turned = grind arith

    in-front : n * every ≤ p - f
    in-front = omega (arith, turned, a)

    go : ((p - f) / every < suc n) ⊎ (suc n ≤ (p - f) / every) → (p - f) / every ≡ n
    go (inl l) = let m = (le-div_iff_mul-le h).1 in-front in omega (arith, l, m)
    go (inr l) =
        let m = ends-few every (suc n) (p - f) h l in
        let t = suc-times every n in
        absurd (omega (arith, m, t, turned, b))

pub few-ends : (every f n p : ℕ) → 0 < every → p < f + every * n + every → (p - f) / every ≤ n
few-ends every f n p h b = go (cases_lt ((p - f) / every) (suc n))
  where
    turned : every * n ≡ n * every
    turned = grind arith

    go : ((p - f) / every < suc n) ⊎ (suc n ≤ (p - f) / every) → (p - f) / every ≤ n
    go (inl l) = omega (arith, l)
    go (inr l) =
        let m = ends-few every (suc n) (p - f) h l in
        let t = suc-times every n in
        absurd (omega (arith, m, t, turned, b))

pub told-here : (every : ℕ) (w : Summed) (n p : ℕ) → (p - w.from) / every ≡ n
    → told_to every w p ≡ periods_told every n w ++ events (loss_events (periods every n w).watched p)
unfolding told_to ends_before
told-here every w n p e =
    ap (λ m. periods_told every m w ++ events (loss_events (periods every m w).watched p)) e

pub go-here : (every : ℕ) (w : Summed) (n p : ℕ) → (p - w.from) / every ≡ n
    → go_to every w p ≡ on_to (periods every n w) p
unfolding go_to ends_before
go-here every w n p e = ap (λ m. on_to (periods every m w) p) e
