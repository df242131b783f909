-- The events that are told beside sums.
use Rattle.std.proofs.Common.{◌≡◌, ℕ, zero, suc, ◌+◌, ◌-◌, ◌*◌, ◌/◌, ◌<◌, ◌≤◌, Bool, true, false, cond, List, [], ◌∷◌}
use Rattle.std.proofs.Common.{◌++◌, length, refl, sym, ap, ap₂, ◌∙◌, arith, append-nil, append_assoc, ltb}
use Rattle.aes3_frame.specs.Blocks.{block_len}
use Rattle.aes3_lock.specs.declared.report.Report.{Report}
use Rattle.aes3_lock.specs.Reports.{reports, decided}
use Rattle.aes3_lock.specs.Remains.{place_of}
use Rattle.aes3_text_lines.specs.declared.event.Event.{Event}
use Rattle.aes3_text_lines.specs.declared.event.Event.TheVariants.{End}
use Rattle.aes3_watch.specs.Kept.{Summed}
use Rattle.aes3_watch.specs.Watching.{begun_events, ended, events_from, is_locked, loss_events}
use Rattle.aes3_watch.specs.Watching.{told_events, up_to, watch_events}
use Rattle.aes3_watch.specs.Sums.{Notice, event, sum, events, all_told, begun_notices, behind_sums, end_told}
use Rattle.aes3_watch.specs.Sums.{ends_before, go_to, last_sum, next_period, next_sum, notices, on_to, period_told}
use Rattle.aes3_watch.specs.Sums.{periods, periods_told, report_told, sums_from, told_to, unsummed}
use Rattle.aes3_watch_laws.specs.SumLaws.{events_in, EventsStay, BegunEventsStay}
use Rattle.aes3_watch.proofs.WatchedCells.{loss-join, report-join, up-join}
use Rattle.aes3_watch.proofs.Sums.{behind-known, ends-few, go-watched, next-known, suc-times}

in-append : (a b : List Notice) → events_in (a ++ b) ≡ events_in a ++ events_in b
in-append [] b = refl
in-append (event e ∷ a) b = ap (λ z. e ∷ z) (in-append a b)
in-append (sum s ∷ a) b = in-append a b

in-events : (es : List Event) → events_in (events es) ≡ es
in-events [] = refl
in-events (e ∷ es) = ap (λ z. e ∷ z) (in-events es)

in-period : (every : ℕ) (u : Summed)
    → events_in (period_told every u) ≡ loss_events u.watched (u.from + every)
in-period every u =
    in-append (events (loss_events u.watched (u.from + every)))
    (sum (record { from = u.from; to = u.from + every; figures = (on_to u (u.from + every)).figures }) ∷ [])
    ∙ ap (λ z. z ++ []) (in-events (loss_events u.watched (u.from + every)))
    ∙ append-nil (loss_events u.watched (u.from + every))

in-periods : (every n : ℕ) (u : Summed) (q : ℕ) → 0 < every → n * every ≤ q - u.from
    → events_in (periods_told every n u) ++ loss_events (periods every n u).watched q ≡ loss_events u.watched q
in-periods every zero u q h l = refl
in-periods every (suc n) u q h l =
    let t = suc-times every n in
    let v = next_period every u in
    ap (λ z. z ++ loss_events (periods every n v).watched q)
    (in-append (period_told every u) (periods_told every n v)
    ∙ ap (λ z. z ++ events_in (periods_told every n v)) (in-period every u))
    ∙ append_assoc (loss_events u.watched (u.from + every)) (events_in (periods_told every n v))
    (loss_events (periods every n v).watched q)
    ∙ ap (λ z. loss_events u.watched (u.from + every) ++ z) (in-periods every n v q h (omega arith))
    ∙ sym (loss-join u.watched (u.from + every) q (omega arith))

in-told : (every : ℕ) (u : Summed) (q : ℕ) → 0 < every → events_in (told_to every u q) ≡ loss_events u.watched q
unfolding told_to ends_before
in-told every u q h =
    let n = (q - u.from) / every in
    in-append (periods_told every n u) (events (loss_events (periods every n u).watched q))
    ∙ ap (λ z. events_in (periods_told every n u) ++ z) (in-events (loss_events (periods every n u).watched q))
    ∙ in-periods every n u q h (ends-few every n (q - u.from) h (omega arith))

in-report : (every : ℕ) (u : Summed) (x : Report) → 0 < every
    → events_in (report_told every u x) ≡ told_events u.watched x
in-report every u x h =
    let q = place_of x in
    in-append (told_to every u q) (events (told_events (go_to every u q).watched x))
    ∙ ap₂ ◌++◌ (in-told every u q h)
    (in-events (told_events (go_to every u q).watched x) ∙ ap (λ w. told_events w x) (go-watched every u q h))
    ∙ sym (report-join u.watched q x (omega arith))

in-reports : (every : ℕ) (u : Summed) (r : List Report) → 0 < every
    → events_in (sums_from every u r) ≡ events_from u.watched r
in-reports every u [] h = refl
in-reports every u (x ∷ r) h =
    in-append (report_told every u x) (sums_from every (next_sum every u x) r)
    ∙ ap₂ ◌++◌ (in-report every u x h)
    (in-reports every (next_sum every u x) r h ∙ ap (λ w. events_from w r) (next-known every u x h))

in-last : (u : Summed) (n : ℕ) → events_in (last_sum u n) ≡ []
in-last u n = go (ltb u.from n)
  where
    go : (b : Bool) → events_in (cond b (sum (record { from = u.from; to = n; figures = u.figures }) ∷ []) []) ≡ []
    go true = refl
    go false = refl

in-end : (u : Summed) (n : ℕ)
    → events_in (end_told u n) ≡ loss_events u.watched n ++ End n (is_locked (up_to u.watched n)) ∷ []
in-end u n =
    let es = loss_events u.watched n ++ End n (is_locked (up_to u.watched n)) ∷ [] in
    in-append (last_sum u n) (events es) ∙ ap₂ ◌++◌ (in-last u n) (in-events es)

in-all : (every : ℕ) (u : Summed) (n : ℕ) → 0 < every
    → events_in (all_told every u n) ≡ loss_events u.watched n ++ End n (is_locked (up_to u.watched n)) ∷ []
in-all every u n h =
    let w = u.watched in
    in-append (told_to every u n) (end_told (go_to every u n) n)
    ∙ ap₂ ◌++◌ (in-told every u n h)
    (in-end (go_to every u n) n
    ∙ ap (λ v. loss_events v n ++ End n (is_locked (up_to v n)) ∷ []) (go-watched every u n h)
    ∙ ap (λ v. loss_events (up_to w n) n ++ End n (is_locked v) ∷ []) (sym (up-join w n n (omega arith))))
    ∙ sym (append_assoc (loss_events w n) (loss_events (up_to w n) n) (End n (is_locked (up_to w n)) ∷ []))
    ∙ ap (λ z. z ++ End n (is_locked (up_to w n)) ∷ []) (sym (loss-join w n n (omega arith)))

pub events-stay : EventsStay
unfolding notices watch_events ended
events-stay every h c =
    let r = reports c in
    let u = behind_sums every unsummed r in
    in-append (sums_from every unsummed r) (all_told every u (length c))
    ∙ ap₂ ◌++◌ (in-reports every unsummed r h)
    (in-all every u (length c) h
    ∙ ap (λ v. loss_events v (length c) ++ End (length c) (is_locked (up_to v (length c))) ∷ [])
    (behind-known every unsummed r h))

pub begun-stay : BegunEventsStay
unfolding begun_notices begun_events
begun-stay every h c =
    let r = decided c in
    let u = behind_sums every unsummed r in
    let s = length c - block_len in
    in-append (sums_from every unsummed r) (told_to every u s)
    ∙ ap₂ ◌++◌ (in-reports every unsummed r h)
    (in-told every u s h ∙ ap (λ v. loss_events v s) (behind-known every unsummed r h))
