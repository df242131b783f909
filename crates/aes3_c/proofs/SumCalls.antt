-- A line whose sums are told, kept without the number of its losses, and what was put of it so far.
use Rattle.std.proofs.Common.{◌≡◌, ℕ, zero, suc, ◌+◌, ◌-◌, ◌*◌, ◌/◌, ◌<◌, ◌≤◌, ◌^◌, ◌∙◌, List, [], ◌∷◌, ◌++◌, length}
use Rattle.std.proofs.Common.{map, refl, sym, ap, ap₂, subst, arith, append-nil, append_assoc, length-append, Bool, true}
use Rattle.std.proofs.Common.{false}
use Rattle.std.specs.Prelude.{nat_lt, if◌then◌else◌}
use Rattle.std.proofs.lemmas.Bool.{le-ltb, lt-ltb}
use Rattle.std.proofs.lemmas.List.{append_cancel_left, map-append}
use Rattle.aes3_level.specs.declared.level.Level.{Level}
use Rattle.aes3_frame.specs.Blocks.{block_len}
use Rattle.aes3_lock.specs.declared.report.Report.{Report}
use Rattle.aes3_lock.specs.Remains.{place_of}
use Rattle.aes3_lock.specs.Reports.{decided, reports}
use Rattle.aes3_lock.proofs.ReportPlaces.{UpTo, near-reports}
use Rattle.aes3_lock_gaps.specs.Gaps.{behind_full, full_count}
use Rattle.aes3_text_lines.specs.declared.event.Event.{Event}
use Rattle.aes3_text_lines.specs.declared.event.Event.TheVariants.{End}
use Rattle.aes3_text_lines.specs.declared.sum.Figures.{Figures}
use Rattle.aes3_text_lines.specs.declared.sum.Sum.{Sum}
use Rattle.aes3_watch.specs.declared.watching.Watched.{Watched}
use Rattle.aes3_watch.specs.declared.period.Period.{Period}
use Rattle.aes3_watch.specs.declared.summed.Summed.{Summed}
use Rattle.aes3_watch.specs.Watching.{is_locked, loss_events, next, told_events, up_to}
use Rattle.aes3_watch.specs.Sums.{all_told, begun_notices, behind_sums, changes_in, counted_report, end_told, ends_before}
use Rattle.aes3_watch.specs.Sums.{Notice, events, go_to, last_sum, next_period, next_sum, no_figures, notices, on_to}
use Rattle.aes3_watch.specs.Sums.{period_told, periods, periods_told, place_behind, report_told, says, sum, summed_by}
use Rattle.aes3_watch.specs.Sums.{sums_from, sums_in, take_report, told_to, unsummed, with_lost}
use Rattle.aes3_watch.proofs.Sums.{all-is, begun-is, behind-push, ends-are, few-ends, go-here, periods-from}
use Rattle.aes3_watch.proofs.Sums.{periods-more, periods_told-add, periods_told-more, sums-append, sums-before}
use Rattle.aes3_watch.proofs.Sums.{sums-behind, sums-push, told-here}
use Rattle.aes3_c.specs.declared.sum_calls.Aes3Sum.{Aes3Sum}
use Rattle.aes3_c.specs.declared.sum_calls.Aes3Sums.{Aes3Sums}
use Rattle.aes3_c.specs.Sums.{HasBegunSums, HasSummed, period_in, period_sum, sum_numbers, summed_in}
use Rattle.aes3_c.specs.Sums.{uncounted_sum}
use Rattle.aes3_c.specs.Watches.{IsNext, uncounted}
use Rattle.aes3_c.proofs.WatchCalls.{late-more, next-alike, told-alike, up-uncounted}
use Rattle.aes3_lock_gaps.proofs.Telling.{upto-next}

-- what is told of a line does not depend on the number of its losses
next-uncounted : (every : ℕ) (u : Summed)
    → uncounted_sum (next_period every (uncounted_sum u)) ≡ uncounted_sum (next_period every u)
next-uncounted every u =
    ap (λ w. summed_by w (u.from + every) (behind_full u.place (u.from + every)) no_figures)
    (up-uncounted u.watched (u.from + every))

taken-uncounted : (u : Summed) (q : ℕ) (x : Report)
    → uncounted_sum (take_report (on_to (uncounted_sum u) q) x) ≡ uncounted_sum (take_report (on_to u q) x)
taken-uncounted u q x =
    let e = up-uncounted u.watched q in
    let v = up_to (uncounted u.watched) q in
    let w = up_to u.watched q in
    let figures = with_lost u.figures (block_len * full_count u.place q) in
    ap₂ (λ watched (f : Figures). summed_by watched u.from (place_behind (behind_full u.place q) x) f)
    (next-alike v w x e)
    (ap₂ (λ found changes. counted_report figures (behind_full u.place q) found (says x) changes x)
    (ap (λ (y : Watched). y.found) e) (ap changes_in (told-alike v w x e)))

-- where the open period of a kept line begins
from-is : {every : ℕ} {k : Aes3Sums} {c : List Level} {r : List Report} {put : List Aes3Sum}
    (p : HasSummed every k c r put) → k.current.from ≡ (behind_sums every unsummed r).from + every * p.ended
from-is {every} {k} {c} {r} p =
    ap (λ (u : Summed). u.from) p.state_is ∙ periods-from every p.ended (behind_sums every unsummed r)

times-more : (every n : ℕ) → every * (n + 1) ≡ every * n + every
times-more every n = grind arith

times-none : (every : ℕ) → every * 0 ≡ 0
times-none every = grind arith

-- a period ends
period-sums : (every : ℕ) (u : Summed) → sums_in (period_told every u) ≡ period_sum every u ∷ []
period-sums every u = sums-behind (loss_events u.watched (u.from + every)) (sum (period_sum every u) ∷ [])

one-more_sum : (a b t : List Notice) (s : Sum) → sums_in t ≡ s ∷ []
    → sums_in (a ++ b) ++ s ∷ [] ≡ sums_in (a ++ (b ++ t))
one-more_sum a b t s e =
    ap (λ z. sums_in (a ++ b) ++ z) (sym e) ∙ sym (sums-append (a ++ b) t) ∙ ap sums_in (append_assoc a b t)

pub period-put : {every : ℕ} {k : Aes3Sums} (k' : Aes3Sums) {c : List Level} {r : List Report} {put : List Aes3Sum}
    (s : Aes3Sum) (q : ℕ) (p : HasSummed every k c r put)
    → summed_in k' ≡ uncounted_sum (next_period k.every (summed_in k)) → k'.every ≡ k.every
    → s ≡ sum_numbers (period_sum k.every (summed_in k))
    → k.current.from + k.every ≤ q → q ≤ length c
    → ((x : Report) (rest : List Report) → p.more ≡ x ∷ rest → q ≤ place_of x)
    → HasSummed every k' c r (put ++ s ∷ [])
period-put {every} {k} k' {c} {r} {put} s q p g f e l short far =
    let w = behind_sums every unsummed r in
    let u = periods every p.ended w in
    let from = from-is p in
    let n = times-more every p.ended in
    let i = p.every_is in
    let sum-is : s ≡ sum_numbers (period_sum every u) = e ∙ ap₂ (λ m v. sum_numbers (period_sum m v)) i p.state_is in
    record {
      some = p.some;
      few = p.few;
      every_is = f ∙ i;
      more = p.more;
      begins = p.begins;
      ended = p.ended + 1;
      within = omega (arith, from, n, i, l, short);
      later = λ x rest m. let d = far x rest m in omega (arith, from, n, i, l, d);
      state_is = g ∙ ap₂ (λ m v. uncounted_sum (next_period m v)) i p.state_is ∙ next-uncounted every u
          ∙ ap uncounted_sum (sym (periods-more every p.ended w));
      put_is = ap₂ (λ a b. a ++ b ∷ []) p.put_is sum-is
          ∙ sym (map-append sum_numbers (sums_in (sums_from every unsummed r ++ periods_told every p.ended w))
          (period_sum every u ∷ []))
          ∙ ap (map sum_numbers) (one-more_sum (sums_from every unsummed r) (periods_told every p.ended w)
          (period_told every u) (period_sum every u) (period-sums every u)
          ∙ ap (λ z. sums_in (sums_from every unsummed r ++ z)) (sym (periods_told-more every p.ended w)));
    }

-- a report within the open period
next-more : {every : ℕ} {k : Aes3Sums} {c : List Level} {r : List Report} {put : List Aes3Sum} (x : Report)
    (rest : List Report) (p : HasSummed every k c r put) → reports c ≡ r ++ x ∷ rest → p.more ≡ x ∷ rest
next-more {r = r} x rest p h = append_cancel_left r p.more (x ∷ rest) (sym p.begins ∙ h)

no-more_sums : (a b : List Notice) (e f : List Event)
    → sums_in (a ++ b) ≡ sums_in (a ++ ((b ++ events e) ++ events f))
no-more_sums a b e f =
    sums-append a b
    ∙ ap (λ z. sums_in a ++ z) (sym (sums-before (b ++ events e) f ∙ sums-before b e))
    ∙ sym (sums-append a ((b ++ events e) ++ events f))

pub report-summed : {every : ℕ} {k : Aes3Sums} (k' : Aes3Sums) {c : List Level} {r : List Report}
    {put : List Aes3Sum} (x : Report) (p : HasSummed every k c r put) → IsNext c r x
    → summed_in k' ≡ uncounted_sum (take_report (on_to (summed_in k) (place_of x)) x) → k'.every ≡ k.every
    → place_of x < k.current.from + k.every → HasSummed every k' c (r ++ x ∷ []) put
report-summed {every} {k} k' {c} {r} {put} x p (rest, h) g f l =
    let w = behind_sums every unsummed r in
    let u = periods every p.ended w in
    let q = place_of x in
    let from = from-is p in
    let i = p.every_is in
    let n = times-none every in
    let far = p.later x rest (next-more x rest p h) in
    let ends = ends-are every w.from p.ended q p.some far (omega (arith, from, i, l)) in
    record {
      some = p.some;
      few = p.few;
      every_is = f ∙ i;
      more = rest;
      begins = h ∙ sym (append_assoc r (x ∷ []) rest);
      ended = 0;
      within = omega (arith, n);
      later = λ y more m. omega (arith, n);
      state_is = g ∙ ap (λ v. uncounted_sum (take_report (on_to v q) x)) p.state_is ∙ taken-uncounted u q x
          ∙ ap (λ v. uncounted_sum (take_report v x)) (sym (go-here every w p.ended q ends))
          ∙ ap uncounted_sum (sym (behind-push every unsummed r x));
      put_is = p.put_is
          ∙ ap (map sum_numbers)
          (no-more_sums (sums_from every unsummed r) (periods_told every p.ended w) (loss_events u.watched q)
          (told_events (go_to every w q).watched x)
          ∙ ap (λ z. sums_in (sums_from every unsummed r ++ (z ++ events (told_events (go_to every w q).watched x))))
          (sym (told-here every w p.ended q ends))
          ∙ ap sums_in (sym (sums-push every unsummed r x))
          ∙ ap sums_in (sym (append-nil (sums_from every unsummed (r ++ x ∷ [])))));
    }

pub summed-near : {every : ℕ} {k : Aes3Sums} {c : List Level} {r : List Report} {put : List Aes3Sum} (x : Report)
    → HasSummed every k c r put → IsNext c r x → place_of x ≤ 2 ^ 43
summed-near {c = c} {r} x p (rest, h) =
    let u = upto-next (length c) r rest x (subst (UpTo (length c)) h (near-reports c)) in
    let f = p.few in
    omega (arith, u, f)

-- the period ends before the next report, where it is one of the cells
pub period-before : {every : ℕ} {k : Aes3Sums} (k' : Aes3Sums) {c : List Level} {r : List Report}
    {put : List Aes3Sum} (s : Aes3Sum) (x : Report) (p : HasSummed every k c r put) → IsNext c r x
    → summed_in k' ≡ uncounted_sum (next_period k.every (summed_in k)) → k'.every ≡ k.every
    → s ≡ sum_numbers (period_sum k.every (summed_in k)) → k.current.from + k.every ≤ place_of x
    → HasSummed every k' c r (put ++ s ∷ [])
period-before {every} {k} k' {c} {r} s x p (rest, h) g f e l =
    let m = next-more x rest p h in
    period-put k' s (place_of x) p g f e l
    (upto-next (length c) r rest x (subst (UpTo (length c)) h (near-reports c)))
    (λ y others q.
    let same : x ∷ rest ≡ y ∷ others = sym m ∙ q in
    let e : x ≡ y = cc in
    subst (λ (z : Report). place_of x ≤ place_of z) e (omega arith))

-- cells that decide no further report
pub period-passed : {every : ℕ} {k : Aes3Sums} (k' : Aes3Sums) (c d : List Level) {r : List Report}
    {put : List Aes3Sum} (s : Aes3Sum) (a : ℕ) (p : HasSummed every k (c ++ d) r put) → r ≡ decided c
    → a ≡ length c - block_len
    → summed_in k' ≡ uncounted_sum (next_period k.every (summed_in k)) → k'.every ≡ k.every
    → s ≡ sum_numbers (period_sum k.every (summed_in k)) → k.current.from + k.every ≤ a
    → HasSummed every k' (c ++ d) r (put ++ s ∷ [])
period-passed k' c d s a p q t g f e l =
    let n = length-append c d in
    period-put k' s a p g f e l (omega (arith, n, t))
    (λ x rest m.
    let far = late-more c d x rest (p.begins ∙ ap₂ (λ y z. y ++ z) q m) in omega (arith, far, t))

two-parts : (a m rest : List Notice) (e : List Event)
    → sums_in (a ++ (m ++ rest)) ≡ sums_in (a ++ (m ++ events e)) ++ sums_in rest
two-parts a m rest e =
    ap sums_in (sym (append_assoc a m rest)) ∙ sums-append (a ++ m) rest
    ∙ ap (λ z. z ++ sums_in rest) (sym (ap sums_in (sym (append_assoc a m (events e))) ∙ sums-before (a ++ m) e))

pub passed-all : {every : ℕ} {k : Aes3Sums} (c d : List Level) {r : List Report} {put : List Aes3Sum} (a : ℕ)
    → HasSummed every k (c ++ d) r put → r ≡ decided c → a ≡ length c - block_len
    → a < k.current.from + k.every → HasBegunSums every c put
passed-all {every} {k} c d {r} {put} a p q t l =
    let w = behind_sums every unsummed r in
    let from = from-is p in
    let i = p.every_is in
    let m = (a - w.from) / every in
    let few = few-ends every w.from p.ended a p.some (omega (arith, from, i, l)) in
    let split : p.ended ≡ m + (p.ended - m) = omega (arith, few) in
    let front = periods_told every m w in
    let rest = periods_told every (p.ended - m) (periods every m w) in
    let lost = loss_events (periods every m w).watched a in
    let begun : begun_notices every c ≡ sums_from every unsummed r ++ (front ++ events lost) =
    begun-is every c r w (sym q) refl
    ∙ ap (λ n. sums_from every unsummed r ++ told_to every w n) (sym t)
    ∙ ap (λ z. sums_from every unsummed r ++ z) (told-here every w m a refl) in (
      sums_in rest,
      p.put_is
          ∙ ap (λ n. map sum_numbers (sums_in (sums_from every unsummed r ++ periods_told every n w))) split
          ∙ ap (λ z. map sum_numbers (sums_in (sums_from every unsummed r ++ z)))
          (periods_told-add every m (p.ended - m) w)
          ∙ ap (map sum_numbers) (two-parts (sums_from every unsummed r) front rest lost
          ∙ ap (λ z. sums_in z ++ sums_in rest) (sym begun)),
    )

-- the end
none-left : {every : ℕ} {k : Aes3Sums} {c : List Level} {r : List Report} {put : List Aes3Sum}
    (p : HasSummed every k c r put) → r ≡ reports c → p.more ≡ []
none-left {r = r} p q = append_cancel_left r p.more [] (sym p.begins ∙ sym q ∙ sym (append-nil r))

pub period-ended : {every : ℕ} {k : Aes3Sums} (k' : Aes3Sums) {c : List Level} {r : List Report}
    {put : List Aes3Sum} (s : Aes3Sum) (n : ℕ) (p : HasSummed every k c r put) → r ≡ reports c → n ≡ length c
    → summed_in k' ≡ uncounted_sum (next_period k.every (summed_in k)) → k'.every ≡ k.every
    → s ≡ sum_numbers (period_sum k.every (summed_in k)) → k.current.from + k.every ≤ n
    → HasSummed every k' c r (put ++ s ∷ [])
period-ended k' s n p q t g f e l =
    let none = none-left p q in
    period-put k' s n p g f e l (omega (arith, t))
    (λ x rest m. let no : x ∷ rest ≡ [] = sym m ∙ none in absurd cc)

last-part : (a b l : List Notice) (e f : List Event)
    → sums_in (a ++ ((b ++ events e) ++ (l ++ events f))) ≡ sums_in (a ++ b) ++ sums_in l
last-part a b l e f =
    ap sums_in (sym (append_assoc a (b ++ events e) (l ++ events f)))
    ∙ sums-append (a ++ (b ++ events e)) (l ++ events f)
    ∙ ap₂ (λ x y. x ++ y) (ap sums_in (sym (append_assoc a b (events e))) ∙ sums-before (a ++ b) e) (sums-before l f)

all-sums : {every : ℕ} {k : Aes3Sums} (c : List Level) {r : List Report} {put : List Aes3Sum} (n : ℕ)
    → HasSummed every k c r put → r ≡ reports c → n ≡ length c → n < k.current.from + k.every
    → put ++ map sum_numbers (sums_in (last_sum (on_to (summed_in k) n) n))
    ≡ map sum_numbers (sums_in (notices every c))
all-sums {every} {k} c {r} {put} n p q t l =
    let w = behind_sums every unsummed r in
    let u = periods every p.ended w in
    let v = on_to u n in
    let from = from-is p in
    let i = p.every_is in
    let in-cells = p.within in
    let ends = ends-are every w.from p.ended n p.some (omega (arith, t, in-cells)) (omega (arith, from, i, l)) in
    let a = sums_from every unsummed r in
    let b = periods_told every p.ended w in
    let f = loss_events v.watched n ++ End n (is_locked (up_to v.watched n)) ∷ [] in
    let all : notices every c ≡ a ++ ((b ++ events (loss_events u.watched n)) ++ (last_sum v n ++ events f)) =
    all-is every c r w (sym q) refl ∙ ap (λ m. a ++ all_told every w m) (sym t)
    ∙ ap₂ (λ x y. a ++ (x ++ end_told y n)) (told-here every w p.ended n ends) (go-here every w p.ended n ends) in
    ap₂ (λ x (y : Summed). x ++ map sum_numbers (sums_in (last_sum (on_to y n) n))) p.put_is p.state_is
    ∙ sym (map-append sum_numbers (sums_in (a ++ b)) (sums_in (last_sum v n)))
    ∙ ap (map sum_numbers) (sym (last-part a b (last_sum v n) (loss_events u.watched n) f) ∙ ap sums_in (sym all))

last-some : (u : Summed) (n : ℕ) → u.from < n
    → sums_in (last_sum u n) ≡ record { from = u.from; to = n; figures = u.figures } ∷ []
last-some u n h = ap (λ (b : Bool).
    sums_in (if b then sum (record { from = u.from; to = n; figures = u.figures }) ∷ [] else [])) (lt-ltb u.from n h)

last-none : (u : Summed) (n : ℕ) → n ≤ u.from → sums_in (last_sum u n) ≡ []
last-none u n h = ap (λ (b : Bool).
    sums_in (if b then sum (record { from = u.from; to = n; figures = u.figures }) ∷ [] else [])) (le-ltb u.from n h)

-- what is counted up to the end
pub last-is : (k : Aes3Sums) (p p' : Period) (s : Sum) (n : ℕ) → p ≡ period_in k → p'.from ≡ p.from
    → p'.figures ≡ with_lost p.figures (block_len * full_count p.place n) → s.from ≡ p'.from → s.to ≡ n
    → s.figures ≡ p'.figures
    → s ≡ record { from = k.current.from; to = n; figures = (on_to (summed_in k) n).figures }
last-is k p p' s n e f g h i j =
    ap₂ (λ from (figures : Figures). record { from = from; to = s.to; figures = figures })
    (h ∙ f ∙ ap (λ (y : Period). y.from) e)
    (j ∙ g ∙ ap (λ (y : Period). with_lost y.figures (block_len * full_count y.place n)) e)
    ∙ ap (λ to. record { from = k.current.from; to = to; figures = (on_to (summed_in k) n).figures }) i

pub last-put : {every : ℕ} {k : Aes3Sums} (c : List Level) {r : List Report} {put : List Aes3Sum} (s : Aes3Sum)
    (n : ℕ) → HasSummed every k c r put → r ≡ reports c → n ≡ length c → n < k.current.from + k.every
    → k.current.from < n
    → s ≡ sum_numbers (record { from = k.current.from; to = n; figures = (on_to (summed_in k) n).figures })
    → put ++ s ∷ [] ≡ map sum_numbers (sums_in (notices every c))
last-put {k = k} c {r} {put} s n p q t l h e =
    ap (λ y. put ++ y ∷ []) e
    ∙ ap (λ y. put ++ map sum_numbers y) (sym (last-some (on_to (summed_in k) n) n h)) ∙ all-sums c n p q t l

pub none-put : {every : ℕ} {k : Aes3Sums} (c : List Level) {r : List Report} {put : List Aes3Sum}
    (n : ℕ) → HasSummed every k c r put → r ≡ reports c → n ≡ length c → n ≤ k.current.from
    → put ≡ map sum_numbers (sums_in (notices every c))
none-put {k = k} c {r} {put} n p q t h =
    let some = p.some in
    let i = p.every_is in
    sym (append-nil put) ∙ ap (λ y. put ++ map sum_numbers y) (sym (last-none (on_to (summed_in k) n) n h))
    ∙ all-sums c n p q t (omega (arith, some, i, h))
