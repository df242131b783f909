-- Few events are told of any cells.
use Rattle.std.proofs.Common.{◌≡◌, ℕ, suc, ◌+◌, ◌-◌, ◌*◌, ◌≤◌, ◌⊎◌, inl, inr, Bool, true, false, cond, ltb, List}
use Rattle.std.proofs.Common.{[], ◌∷◌, ◌++◌, Option, Some, None, length, ap, arith, length-append}
use Rattle.std.specs.Str.{bytes_eq}
use Rattle.aes3_level.specs.declared.level.Level.{Level}
use Rattle.aes3_frame.specs.Blocks.{block_len}
use Rattle.aes3_frame.specs.declared.block.Channel.{Channel}
use Rattle.aes3_frame.specs.declared.block.Channel.TheVariants.{First, Second}
use Rattle.aes3_lock.specs.declared.report.Report.{Report}
use Rattle.aes3_lock.specs.declared.report.Report.TheVariants.{Whole, Marked, Fault, Unfinished}
use Rattle.aes3_lock.specs.Reports.{blocks, reports, wholes}
use Rattle.aes3_lock.proofs.AllStanding.{wholes-append}
use Rattle.aes3_lock.proofs.Deciding.{block_len_24576}
use Rattle.aes3_text_lines.specs.declared.event.Event.{Event}
use Rattle.aes3_text_lines.specs.declared.event.Event.TheVariants.{Back, End, Locked, Slipped, Status, Validity}
use Rattle.aes3_watch.specs.Signals.{change_events, marking_of, same_marking, signals_of, status_events}
use Rattle.aes3_watch.specs.Signals.{validity_events}
use Rattle.aes3_watch.specs.Kept.{ChannelSignals}
use Rattle.aes3_watch.specs.Kept.{Signals}
use Rattle.aes3_watch.specs.Kept.{Watched}
use Rattle.aes3_watch.specs.Watching.{behind_reports, ended, events_from, is_locked, is_told, loss_events, next}
use Rattle.aes3_watch.specs.Watching.{told_events, unwatched, up_to, watch_events, whole_events}
use Rattle.aes3_watch_laws.proofs.Covering.{EndsUpTo, ends-reports}
use Rattle.aes3_lock.proofs.ReportPlaces.{Spaced, spaced-reports, spaced-weaker}
use Rattle.aes3_watch.proofs.WatchedCells.{either, loss-told, or-false, up-told}

-- a loss can be told where none stands
abbrev room : Bool → ℕ
room true = 0
room false = 1

loss-few : (w : Watched) (q : ℕ) → length (loss_events w q) + room (up_to w q).lost ≤ room w.lost
loss-few w q = go (either (is_told w q))
  where
    go : (is_told w q ≡ true) ⊎ (is_told w q ≡ false) → length (loss_events w q) + room (up_to w q).lost ≤ room w.lost
    go (inl e) =
        let a : length (loss_events w q) ≡ 0 = ap length (loss-told w q true e) in
        let b : room (up_to w q).lost ≡ room w.lost = ap (λ v. room v.lost) (up-told w q true e) in
        omega arith
    go (inr e) =
        let a : length (loss_events w q) ≡ 1 = ap length (loss-told w q false e) in
        let b : room (up_to w q).lost ≡ 0 = ap (λ v. room v.lost) (up-told w q false e) in
        let c : room w.lost ≡ 1 = ap room (or-false w.lost _ e).0 in
        omega arith

whole-few : (w : Watched) (at : ℕ) (s : Level) → length (whole_events w at s) ≤ 1
whole-few w at s = go w.found w.lost (ltb w.place at)
  where
    go : (f l p : Bool) → length
        (cond f (cond l (Back at (at - w.place) ∷ []) (cond p (Slipped at (at - w.place) ∷ []) [])) (Locked at s ∷ []))
        ≤ 1
    go true true p = omega arith
    go true false true = omega arith
    go true false false = omega arith
    go false l p = omega arith

status-few : (at : ℕ) (channel : Channel) (before now : ChannelSignals)
    → length (status_events at channel before now) ≤ 1
status-few at channel before now = go (bytes_eq before.status now.status)
  where
    go : (b : Bool) → length (cond {A = List Event} b [] (Status at channel now.status ∷ [])) ≤ 1
    go true = omega arith
    go false = omega arith

validity-few : (at : ℕ) (channel : Channel) (before now : ChannelSignals)
    → length (validity_events at channel before now) ≤ 1
validity-few at channel before now = go (same_marking (marking_of before.invalid) (marking_of now.invalid))
  where
    go : (b : Bool) → length (cond {A = List Event} b [] (Validity at channel (marking_of now.invalid) ∷ [])) ≤ 1
    go true = omega arith
    go false = omega arith

four-few : (a b c d : List Event) → length a ≤ 1 → length b ≤ 1 → length c ≤ 1 → length d ≤ 1
    → length (a ++ b ++ c ++ d) ≤ 4
four-few a b c d i j k l =
    let x = length-append (a ++ b ++ c) d in
    let y = length-append (a ++ b) c in
    let z = length-append a b in
    omega arith

changes-few : (at : ℕ) (before : Option Signals) (now : Signals) → length (change_events at before now) ≤ 4
unfolding change_events
changes-few at None now = omega arith
changes-few at (Some before) now =
    four-few (status_events at First before.first now.first) (status_events at Second before.second now.second)
    (validity_events at First before.first now.first) (validity_events at Second before.second now.second)
    (status-few at First before.first now.first) (status-few at Second before.second now.second)
    (validity-few at First before.first now.first) (validity-few at Second before.second now.second)

-- a report
told-few : (w : Watched) (x : Report)
    → length (told_events w x) + room (next w x).lost ≤ 6 * length (wholes (x ∷ [])) + room w.lost
told-few w (Whole at s b) =
    let l = loss_events w at in
    let p = whole_events (up_to w at) at s in
    let k = change_events at w.latest (signals_of b) in
    let x = length-append l (p ++ k) in
    let y = length-append p k in
    let m = loss-few w at in
    let n = whole-few (up_to w at) at s in
    let o = changes-few at w.latest (signals_of b) in
    omega arith
told-few w (Marked at s wrong) = let m = loss-few w at in omega arith
told-few w (Fault at cell why) = let m = loss-few w at in omega arith
told-few w (Unfinished at cells) = let m = loss-few w at in omega arith

-- all of them
reports-few : (w : Watched) (r : List Report)
    → length (events_from w r) + room (behind_reports w r).lost ≤ 6 * length (wholes r) + room w.lost
reports-few w [] = omega arith
reports-few w (x ∷ r) =
    let a = length-append (told_events w x) (events_from (next w x) r) in
    let k = ap length (wholes-append (x ∷ []) r) in
    let l = length-append (wholes (x ∷ [])) (wholes r) in
    let m = told-few w x in
    let n = reports-few (next w x) r in
    omega arith

pub events-few : (c : List Level) → length (watch_events c) ≤ 6 * length (blocks c) + 2
unfolding watch_events blocks
events-few c =
    let r = reports c in
    let w = behind_reports unwatched r in
    let a = length-append (events_from unwatched r)
    (loss_events w (length c) ++ End (length c) (is_locked (ended c)) ∷ []) in
    let b = length-append (loss_events w (length c)) (End (length c) (is_locked (ended c)) ∷ []) in
    let m = reports-few unwatched r in
    let n = loss-few w (length c) in
    omega arith

-- the whole blocks have room in the cells
blocks-fit : (m p : ℕ) (r : List Report) → p ≤ m → Spaced p r → EndsUpTo m r → p + 24576 * length (wholes r) ≤ m
blocks-fit m p [] h s e = omega arith
blocks-fit m p (Whole at t b ∷ r) h s e =
    let l = block_len_24576 in
    let a = s.0 in
    let f = blocks-fit m (at + block_len) r e.0 s.1 e.1 in
    omega arith
blocks-fit m p (Marked at t wrong ∷ r) h s e
    = let a = s.0 in let f = blocks-fit m at r e.0 (spaced-weaker at (suc at) r (omega arith) s.1) e.1 in omega arith
blocks-fit m p (Fault at cell why ∷ r) h s e
    = let a = s.0 in let f = blocks-fit m at r e.0 (spaced-weaker at (suc at) r (omega arith) s.1) e.1 in omega arith
blocks-fit m p (Unfinished at cells ∷ r) h s e
    = let a = s.0 in let f = blocks-fit m at r e.0 (spaced-weaker at (suc at) r (omega arith) s.1) e.1 in omega arith

pub cells-few : (c : List Level) → block_len * length (watch_events c) ≤ 6 * length c + 2 * block_len
unfolding blocks
cells-few c =
    let f = blocks-fit (length c) 0 (reports c) (omega arith) (spaced-reports c) (ends-reports c) in
    let e = events-few c in
    rw block_len_24576 (omega arith)
