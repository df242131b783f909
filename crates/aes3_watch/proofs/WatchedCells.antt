-- A line watched, as its cells come.
use Rattle.std.proofs.Common.{◌≡◌, ℕ, ◌+◌, ◌-◌, ◌*◌, ◌^◌, ◌<◌, ◌≤◌, ◌⊎◌, inl, inr, Bool, true, false, cond, ltb, List}
use Rattle.std.proofs.Common.{[], ◌∷◌, ◌++◌, Some, length, drop, refl, sym, ap, ap₂, ◌∙◌, subst}
use Rattle.std.proofs.Common.{arith, append-nil, append_assoc, length-append}
use Rattle.std.specs.Prelude.{◌||◌, nat_lt}
use Rattle.std.proofs.lemmas.Bool.{ltb-false, le-ltb}
use Rattle.std.proofs.lemmas.List.{append_cancel_left, drop_at}
use Rattle.std.proofs.lemmas.Grind.{flat_map-append}
use Rattle.aes3_level.specs.declared.level.Level.{Level}
use Rattle.aes3_cell.specs.declared.form.Form.{Form}
use Rattle.aes3_cell.specs.declared.counts.Counts.{Counts}
use Rattle.aes3_frame.specs.Blocks.{block_len, block_subframes}
use Rattle.aes3_lock.specs.declared.report.Report.{Report}
use Rattle.aes3_lock.specs.declared.report.Report.TheVariants.{Whole, Marked, Fault, Unfinished}
use Rattle.aes3_lock.specs.Reports.{reports, decided}
use Rattle.aes3_lock.specs.Remains.{place_of}
use Rattle.aes3_lock.proofs.Deciding.{answer, block_len_24576}
use Rattle.aes3_lock.proofs.Ends.{final}
use Rattle.aes3_input.specs.Taking.{behind, before_end, with_end}
use Rattle.aes3_input.specs.Inputs.{cells_of}
use Rattle.aes3_input.specs.Driving.{counted_cells}
use Rattle.aes3_input.proofs.CellRuns.{cells-give}
use Rattle.aes3_input.proofs.InputRuns.{Gives}
use Rattle.aes3_input.proofs.Items.{before-is, before-join}
use Rattle.aes3_lock.proofs.Tallies.{few-decided}
use Rattle.aes3_lock_runs.specs.ReportRuns.{counts_of, heard_cells}
use Rattle.aes3_text_lines.specs.declared.event.Event.{Event}
use Rattle.aes3_text_lines.specs.declared.event.Event.TheVariants.{Lost, End}
use Rattle.aes3_status.specs.declared.style.Style.{Style}
use Rattle.aes3_text_lines.specs.Events.{event_line}
use Rattle.aes3_watch.specs.Signals.{change_events, signals_of}
use Rattle.aes3_watch.specs.declared.signals.Signals.{Signals}
use Rattle.aes3_watch.specs.declared.watching.Watched.{Watched}
use Rattle.aes3_watch.specs.Watching.{unwatched, is_told, loss_events, up_to, whole_events, slips, behind_whole}
use Rattle.aes3_watch.specs.Watching.{told_events, next, events_from, behind_reports, begun_events, watched}
use Rattle.aes3_watch.specs.Watching.{is_locked, ended, watch_events, event_lines, begun_watch, watch_lines}
use Rattle.aes3_watch.specs.Watching.{watch_counts, watching, IsKept, Watches, Ended}
use Rattle.aes3_lock.proofs.ReportPlaces.{split-reports, late-decided, late-reports}
use Rattle.aes3_lock_gaps.proofs.BegunAccounts.{one-answer, one-final, decided-more, shorter}
use Rattle.aes3_watch.proofs.Accounts.{few-faults, few-reports, with_losses}

-- what the code computes
pub told-is : (w : Watched) (q s : ℕ) → s ≡ q - w.place → w.lost ≡ false → nat_lt s 24576 ≡ is_told w q
told-is w q s e f =
    ap (λ n. nat_lt n 24576) e ∙ sym (ap₂ (λ (b : Bool) (n : ℕ). b || nat_lt (q - w.place) n) f block_len_24576)

abbrev made : Signals → ℕ → ℕ → Watched
made now p l = record { found = true; place = p; lost = false; losses = l; latest = Some now }

pub whole-is : (w : Watched) (at l : ℕ) (now : Signals) (b : Bool) → slips w at ≡ b → l ≡ cond b (w.losses + 1) w.losses
    → made now (at + 24576) l ≡ behind_whole w at now
whole-is w at l now b e f =
    ap (made now (at + 24576)) f
    ∙ sym (ap₂ (λ (n : ℕ) (v : Bool). made now (at + n) (cond v (w.losses + 1) w.losses)) block_len_24576 e)

-- up to a place, and on to a place behind it
far : (p a b : ℕ) → a ≤ b → ltb (a - p) block_len ≡ false → ltb (b - p) block_len ≡ false
far p a b h e = let l = ltb-false (a - p) block_len e in le-ltb (b - p) block_len (omega arith)

pub or-false : (x y : Bool) → (x || y) ≡ false → (x ≡ false) × (y ≡ false)
or-false false y e = (refl, e)
or-false true y e = (e, cc)

pub later : (w : Watched) (a b : ℕ) → a ≤ b → is_told w a ≡ false → is_told w b ≡ false
later w a b h e = let o = or-false w.lost (ltb (a - w.place) block_len) e in ap₂ (λ (x y : Bool). x || y) o.0
    (far w.place a b h o.1)

pub either : (b : Bool) → (b ≡ true) ⊎ (b ≡ false)
either true = inl refl
either false = inr refl

abbrev pub as_lost : Watched → Watched
as_lost w = record { found = w.found; place = w.place; lost = true; losses = w.losses + 1; latest = w.latest }

pub up-told : (w : Watched) (a : ℕ) (b : Bool) → is_told w a ≡ b → up_to w a ≡ cond b w (as_lost w)
up-told w a b e = ap (λ x. cond x w (as_lost w)) e

pub up-is-told : (w : Watched) (q : ℕ) → is_told (up_to w q) q ≡ true
up-is-told w q = go (either (is_told w q))
  where
    go : (is_told w q ≡ true) ⊎ (is_told w q ≡ false) → is_told (up_to w q) q ≡ true
    go (inl t) = ap (λ v. is_told v q) (up-told w q true t) ∙ t
    go (inr t) = ap (λ v. is_told v q) (up-told w q false t)

pub up-found : (w : Watched) (q : ℕ) → (up_to w q).found ≡ w.found
up-found w q = go (is_told w q)
  where
    go : (b : Bool) → (cond b w (as_lost w)).found ≡ w.found
    go true = refl
    go false = refl

pub up-losses : (w : Watched) (q : ℕ) → w.losses ≤ (up_to w q).losses
up-losses w q = go (is_told w q)
  where
    go : (b : Bool) → w.losses ≤ (cond b w (as_lost w)).losses
    go true = omega arith
    go false = omega arith

pub loss-told : (w : Watched) (a : ℕ) (b : Bool) → is_told w a ≡ b → loss_events w a ≡ cond b [] (Lost w.place ∷ [])
loss-told w a b e = ap (λ (x : Bool). cond {A = List Event} x [] (Lost w.place ∷ [])) e

pub up-latest : (w : Watched) (a : ℕ) → (up_to w a).latest ≡ w.latest
up-latest w a = go (is_told w a)
  where
    go : (b : Bool) → (cond b w (as_lost w)).latest ≡ w.latest
    go true = refl
    go false = refl

pub loss-join : (w : Watched) (a b : ℕ) → a ≤ b → loss_events w b ≡ loss_events w a ++ loss_events (up_to w a) b
loss-join w a b h = go (either (is_told w a))
  where
    go : (is_told w a ≡ true) ⊎ (is_told w a ≡ false) → loss_events w b ≡ loss_events w a ++ loss_events (up_to w a) b
    go (inl e) = sym (ap₂ (λ x v. x ++ loss_events v b) (loss-told w a true e) (up-told w a true e))
    go (inr e) =
        loss-told w b false (later w a b h e) ∙ sym (append-nil (Lost w.place ∷ []))
        ∙ sym (ap₂ (λ x v. x ++ loss_events v b) (loss-told w a false e) (up-told w a false e))

pub up-join : (w : Watched) (a b : ℕ) → a ≤ b → up_to w b ≡ up_to (up_to w a) b
up-join w a b h = go (either (is_told w a))
  where
    go : (is_told w a ≡ true) ⊎ (is_told w a ≡ false) → up_to w b ≡ up_to (up_to w a) b
    go (inl e) = sym (ap (λ v. up_to v b) (up-told w a true e))
    go (inr e) = up-told w b false (later w a b h e) ∙ sym (ap (λ v. up_to v b) (up-told w a false e))

pub report-join : (w : Watched) (a : ℕ) (x : Report) → a ≤ place_of x
    → told_events w x ≡ loss_events w a ++ told_events (up_to w a) x
report-join w a (Whole at s b) h =
    ap₂ (λ l v. l ++ (whole_events v at s ++ change_events at w.latest (signals_of b))) (loss-join w a at h)
    (up-join w a at h)
    ∙ append_assoc (loss_events w a) (loss_events (up_to w a) at)
    (whole_events (up_to (up_to w a) at) at s ++ change_events at w.latest (signals_of b))
    ∙ ap (λ o. loss_events w a
    ++ (loss_events (up_to w a) at
    ++ (whole_events (up_to (up_to w a) at) at s ++ change_events at o (signals_of b))))
    (sym (up-latest w a))
report-join w a (Marked at s wrong) h = loss-join w a at h
report-join w a (Fault at cell why) h = loss-join w a at h
report-join w a (Unfinished at cells) h = loss-join w a at h

pub next-join : (w : Watched) (a : ℕ) (x : Report) → a ≤ place_of x → next w x ≡ next (up_to w a) x
next-join w a (Whole at s b) h = ap (λ v. behind_whole v at (signals_of b)) (up-join w a at h)
next-join w a (Marked at s wrong) h = up-join w a at h
next-join w a (Fault at cell why) h = up-join w a at h
next-join w a (Unfinished at cells) h = up-join w a at h

-- one more report
pub events-push : (w : Watched) (r : List Report) (x : Report)
    → events_from w (r ++ x ∷ []) ≡ events_from w r ++ told_events (behind_reports w r) x
events-push w [] x = append-nil (told_events w x)
events-push w (y ∷ r) x =
    ap (λ z. told_events w y ++ z) (events-push (next w y) r x)
    ∙ sym (append_assoc (told_events w y) (events_from (next w y) r) (told_events (behind_reports (next w y) r) x))

pub behind-push : (w : Watched) (r : List Report) (x : Report)
    → behind_reports w (r ++ x ∷ []) ≡ next (behind_reports w r) x
behind-push w [] x = refl
behind-push w (y ∷ r) x = behind-push (next w y) r x

-- the cells before the last block's
-- more cells that decide no report
pub watched-passed : (c d : List Level) → decided (c ++ d) ≡ decided c
    → watched (c ++ d) ≡ up_to (watched c) (length (c ++ d) - block_len)
unfolding watched
watched-passed c d e =
    ap (λ r. up_to (behind_reports unwatched r) (length (c ++ d) - block_len)) e
    ∙ up-join (behind_reports unwatched (decided c)) (length c - block_len) (length (c ++ d) - block_len) (shorter c d)

pub begun-passed : (c d : List Level) → decided (c ++ d) ≡ decided c
    → begun_events (c ++ d) ≡ begun_events c ++ loss_events (watched c) (length (c ++ d) - block_len)
unfolding begun_events watched
begun-passed c d e =
    let w = behind_reports unwatched (decided c) in
    let s = length c - block_len in
    let t = length (c ++ d) - block_len in
    ap (λ r. events_from unwatched r ++ loss_events (behind_reports unwatched r) t) e
    ∙ ap (λ z. events_from unwatched (decided c) ++ z) (loss-join w s t (shorter c d))
    ∙ sym (append_assoc (events_from unwatched (decided c)) (loss_events w s) (loss_events (up_to w s) t))

-- a report, and what stands behind it
next-watched : (c : List Level) (x : Report) → length c ≤ place_of x + block_len
    → behind_reports unwatched (decided c ++ x ∷ []) ≡ next (watched c) x
unfolding watched
next-watched c x h =
    behind-push unwatched (decided c) x
    ∙ next-join (behind_reports unwatched (decided c)) (length c - block_len) x (omega arith)

pub four-joined : {A : Type 0} (a f g t : List A) → (a ++ (f ++ g)) ++ t ≡ (a ++ f) ++ (g ++ t)
four-joined a f g t = simp append_assoc

events-watched : (c : List Level) (x : Report) (tail : List Event) → length c ≤ place_of x + block_len
    → events_from unwatched (decided c ++ x ∷ []) ++ tail ≡ begun_events c ++ (told_events (watched c) x ++ tail)
unfolding begun_events watched
events-watched c x tail h =
    let w = behind_reports unwatched (decided c) in
    let s = length c - block_len in
    ap (λ z. z ++ tail) (events-push unwatched (decided c) x
    ∙ ap (λ z. events_from unwatched (decided c) ++ z) (report-join w s x (omega arith)))
    ∙ four-joined (events_from unwatched (decided c)) (loss_events w s) (told_events (up_to w s) x) tail

watched-is : (c : List Level) (r : List Report) (w : Watched) → decided c ≡ r → behind_reports unwatched r ≡ w
    → watched c ≡ up_to w (length c - block_len)
unfolding watched
watched-is c r w e f =
    ap (λ v. up_to (behind_reports unwatched v) (length c - block_len)) e ∙ ap (λ v. up_to v (length c - block_len)) f

begun-is : (c : List Level) (r : List Report) (w : Watched) → decided c ≡ r → behind_reports unwatched r ≡ w
    → begun_events c ≡ events_from unwatched r ++ loss_events w (length c - block_len)
unfolding begun_events
begun-is c r w e f =
    ap (λ v. events_from unwatched v ++ loss_events (behind_reports unwatched v) (length c - block_len)) e
    ∙ ap (λ v. events_from unwatched r ++ loss_events v (length c - block_len)) f

pub watched-taken : (c d : List Level) (x : Report) → decided (c ++ d) ≡ decided c ++ x ∷ []
    → watched (c ++ d) ≡ up_to (next (watched c) x) (length (c ++ d) - block_len)
watched-taken c d x e = watched-is (c ++ d) (decided c ++ x ∷ []) (next (watched c) x) e
    (next-watched c x (late-decided c d x e))

pub begun-taken : (c d : List Level) (x : Report) → decided (c ++ d) ≡ decided c ++ x ∷ []
    → begun_events (c ++ d) ≡ begun_events c
    ++ (told_events (watched c) x ++ loss_events (next (watched c) x) (length (c ++ d) - block_len))
begun-taken c d x e =
    let h = late-decided c d x e in
    begun-is (c ++ d) (decided c ++ x ∷ []) (next (watched c) x) e (next-watched c x h)
    ∙ events-watched c x (loss_events (next (watched c) x) (length (c ++ d) - block_len)) h

-- the end, where it decides no report, and where it decides one
abbrev pub last_events : Watched → ℕ → List Event
last_events w n = loss_events w n ++ End n (is_locked (up_to w n)) ∷ []

all-is : (c : List Level) (r : List Report) (w : Watched) → reports c ≡ r → behind_reports unwatched r ≡ w
    → watch_events c ≡ events_from unwatched r ++ last_events w (length c)
unfolding watch_events ended
all-is c r w e f =
    ap (λ v. events_from unwatched v ++ last_events (behind_reports unwatched v) (length c)) e
    ∙ ap (λ v. events_from unwatched r ++ last_events v (length c)) f

ended-is : (c : List Level) (r : List Report) (w : Watched) → reports c ≡ r → behind_reports unwatched r ≡ w
    → ended c ≡ up_to w (length c)
unfolding ended
ended-is c r w e f = ap (λ v. up_to (behind_reports unwatched v) (length c)) e ∙ ap (λ v. up_to v (length c)) f

pub before-last : (c : List Level) → length c - block_len ≤ length c
before-last c = omega arith

pub ended-closed : (c : List Level) → reports c ≡ decided c ++ [] → ended c ≡ up_to (watched c) (length c)
unfolding watched
ended-closed c e =
    ended-is c (decided c) (behind_reports unwatched (decided c)) (e ∙ append-nil (decided c)) refl
    ∙ up-join (behind_reports unwatched (decided c)) (length c - block_len) (length c) (before-last c)

pub last-join : (w : Watched) (a b : ℕ) → a ≤ b → last_events w b ≡ loss_events w a ++ last_events (up_to w a) b
last-join w a b h =
    ap₂ (λ l v. l ++ End b (is_locked v) ∷ []) (loss-join w a b h) (up-join w a b h)
    ∙ append_assoc (loss_events w a) (loss_events (up_to w a) b) (End b (is_locked (up_to (up_to w a) b)) ∷ [])

pub all-closed : (c : List Level) → reports c ≡ decided c ++ []
    → watch_events c ≡ begun_events c ++ last_events (watched c) (length c)
unfolding watched begun_events
all-closed c e =
    let w = behind_reports unwatched (decided c) in
    let s = length c - block_len in
    all-is c (decided c) w (e ∙ append-nil (decided c)) refl
    ∙ ap (λ z. events_from unwatched (decided c) ++ z) (last-join w s (length c) (before-last c))
    ∙ sym (append_assoc (events_from unwatched (decided c)) (loss_events w s) (last_events (up_to w s) (length c)))

pub ended-closed_with : (c : List Level) (x : Report) → reports c ≡ decided c ++ x ∷ []
    → ended c ≡ up_to (next (watched c) x) (length c)
ended-closed_with c x e = ended-is c (decided c ++ x ∷ []) (next (watched c) x) e
    (next-watched c x (late-reports c x e))

pub all-closed_with : (c : List Level) (x : Report) → reports c ≡ decided c ++ x ∷ []
    → watch_events c ≡ begun_events c ++ (told_events (watched c) x ++ last_events (next (watched c) x) (length c))
all-closed_with c x e =
    let h = late-reports c x e in
    all-is c (decided c ++ x ∷ []) (next (watched c) x) e (next-watched c x h)
    ∙ events-watched c x (last_events (next (watched c) x) (length c)) h

-- so it grows
begun-more : (c : List Level) (l : Level) → (m : List Event) × (begun_events (c ++ l ∷ []) ≡ begun_events c ++ m)
begun-more c l = go (one-answer 0 c l)
  where
    go : (answer 0 c l ≡ []) ⊎ ((x : Report) × (answer 0 c l ≡ x ∷ []))
        → (m : List Event) × (begun_events (c ++ l ∷ []) ≡ begun_events c ++ m)
    go (inl e) = (_, begun-passed c (l ∷ []) (decided-more c l ∙ ap (λ r. decided c ++ r) e ∙ append-nil (decided c)))
    go (inr x) = (_, begun-taken c (l ∷ []) x.0 (decided-more c l ∙ ap (λ r. decided c ++ r) x.1))

all-more : (c : List Level) → (m : List Event) × (watch_events c ≡ begun_events c ++ m)
all-more c = go (one-final 0 c)
  where
    go : (final 0 c ≡ []) ⊎ ((x : Report) × (final 0 c ≡ x ∷ []))
        → (m : List Event) × (watch_events c ≡ begun_events c ++ m)
    go (inl e) = (_, all-closed c (split-reports c ∙ ap (λ r. decided c ++ r) e))
    go (inr x) = (_, all-closed_with c x.0 (split-reports c ∙ ap (λ r. decided c ++ r) x.1))

-- what the taker writes
pub grown : {A : Type 0} (a b m : List A) → b ≡ a ++ m → b ≡ a ++ drop (length a) b
grown a b m e = e ∙ ap (λ z. a ++ z) (sym (ap (drop (length a)) e ∙ drop_at a m (length a) refl))

grown-lines : (style : Style) (a b m : List Event) → b ≡ a ++ m
    → event_lines style b ≡ event_lines style a ++ event_lines style (drop (length a) b)
grown-lines style a b m e = ap (event_lines style) (grown a b m e)
    ∙ flat_map-append (event_line style) a (drop (length a) b)

adds-is : (style : Style) (c : List Level) (l : Level)
    → event_lines style (drop (length (begun_events c)) (begun_events (c ++ l ∷ []))) ≡ (watching style).adds c l
unfolding watching
adds-is style c l = refl

ends-is : (style : Style) (c : List Level)
    → (watching style).ends c ≡ event_lines style (drop (length (begun_events c)) (watch_events c))
unfolding watching
ends-is style c = refl

begins : begun_events [] ≡ []
unfolding begun_events decided block_len block_subframes
begins = refl

pub before-watch : (style : Style) (c : List Level) → before_end (watching style) c ≡ begun_watch style c
before-watch style c =
    before-is (watching style) (begun_watch style) (ap (event_lines style) begins)
    (λ c l. let m = begun-more c l in
    grown-lines style (begun_events c) (begun_events (c ++ l ∷ [])) m.0 m.1
    ∙ ap (λ z. begun_watch style c ++ z) (adds-is style c l)) c

pub with-watch : (style : Style) (c : List Level) → with_end (watching style) c ≡ watch_lines style c
unfolding with_end
with-watch style c =
    let m = all-more c in
    ap₂ (λ x y. x ++ y) (before-watch style c) (ends-is style c)
    ∙ sym (grown-lines style (begun_events c) (watch_events c) m.0 m.1)

pub behind-watch : (style : Style) (c d : List Level) (m : List Event) → begun_events (c ++ d) ≡ begun_events c ++ m
    → event_lines style m ≡ behind (watching style) c d
behind-watch style c d m e =
    append_cancel_left (begun_watch style c) (event_lines style m) (behind (watching style) c d)
    (sym (flat_map-append (event_line style) (begun_events c) m) ∙ sym (ap (event_lines style) e)
    ∙ sym (before-watch style (c ++ d)) ∙ before-join (watching style) c d
    ∙ ap (λ z. z ++ behind (watching style) c d) (before-watch style c))

pub ends-watch : (style : Style) (c : List Level) (m : List Event) → watch_events c ≡ begun_events c ++ m
    → event_lines style m ≡ (watching style).ends c
ends-watch style c m e =
    sym (ends-is style c ∙ ap (event_lines style)
    (ap (drop (length (begun_events c))) e ∙ drop_at (begun_events c) m (length (begun_events c)) refl))

-- what is kept of a block's samples
pub kept-up : (w : Watched) (a : ℕ) (words : List ℕ) → IsKept w.latest words → IsKept (up_to w a).latest words
kept-up w a words h = subst (λ o. IsKept o words) (sym (up-latest w a)) h

-- the cells of a run that decide no report
pub pass-lines : (style : Style) (w : Watched) (s : ℕ) (c d : List Level) → w ≡ watched c
    → s ≡ length (c ++ d) - block_len → decided (c ++ d) ≡ decided c
    → event_lines style (loss_events w s) ≡ behind (watching style) c d
pass-lines style w s c d e f q =
    ap (event_lines style) (ap₂ loss_events e f)
    ∙ behind-watch style c d (loss_events (watched c) (length (c ++ d) - block_len)) (begun-passed c d q)

pub pass-watches : {w : Watched} {words : List ℕ} (w' : Watched) (s : ℕ) (c d : List Level)
    → Watches w words c
    → decided (c ++ d) ≡ decided c → s ≡ length (c ++ d) - block_len → w' ≡ up_to w s → Watches w' words (c ++ d)
pass-watches {w} {words} w' s c d h q e g = record {
  state_is = g ∙ ap₂ up_to h.state_is e ∙ sym (watched-passed c d q);
  kept = subst (λ v. IsKept v.latest words) (sym g) (kept-up w s words h.kept);
}

-- a report, and cells behind it
pub take-lines : (style : Style) (w w' : Watched) (s : ℕ) (c d : List Level) (x : Report) → w ≡ watched c
    → w' ≡ next w x → s ≡ length (c ++ d) - block_len
    → decided (c ++ d) ≡ decided c ++ x ∷ []
    → event_lines style (told_events w x ++ loss_events w' s) ≡ behind (watching style) c d
take-lines style w w' s c d x e g f q =
    ap (event_lines style) (ap₂ (λ v y. told_events w x ++ loss_events v y) g f
    ∙ ap (λ v. told_events v x ++ loss_events (next v x) (length (c ++ d) - block_len)) e)
    ∙ behind-watch style c d (told_events (watched c) x
    ++ loss_events (next (watched c) x) (length (c ++ d) - block_len)) (begun-taken c d x q)

pub take-watches : {w : Watched} {words : List ℕ} {words' : List ℕ} (w' w'' : Watched)
    (s : ℕ) (c d : List Level) (x : Report)
    → Watches w words c
    → decided (c ++ d) ≡ decided c ++ x ∷ [] → s ≡ length (c ++ d) - block_len → w' ≡ next w x → IsKept w'.latest words'
    → w'' ≡ up_to w' s → Watches w'' words' (c ++ d)
take-watches {w} {words} {words'} w' w'' s c d x h q e g m k = record {
  state_is = k ∙ ap₂ up_to (g ∙ ap (λ v. next v x) h.state_is) e ∙ sym (watched-taken c d x q);
  kept = subst (λ v. IsKept v.latest words') (sym k) (kept-up w' s words' m);
}

-- the end
pub close-lines : (style : Style) (w : Watched) (n : ℕ) (c : List Level) → w ≡ watched c → n ≡ length c
    → reports c ≡ decided c ++ []
    → event_lines style (last_events w n) ≡ (watching style).ends c
close-lines style w n c e f q
    = ap (event_lines style) (ap₂ last_events e f)
    ∙ ends-watch style c (last_events (watched c) (length c)) (all-closed c q)

pub close-ended : {w : Watched} {words : List ℕ} (w' : Watched) (n : ℕ) (c : List Level)
    → Watches w words c → reports c ≡ decided c ++ []
    → n ≡ length c → n ≤ 2 ^ 43 → w' ≡ up_to w n → Ended w'.losses c
close-ended {w} {words} w' n c h q e s k = record {
  short = omega arith;
  losses_is = ap (λ v. v.losses) (k ∙ ap₂ up_to h.state_is e ∙ sym (ended-closed c q));
}

pub close_with-lines : (style : Style) (w w' : Watched) (n : ℕ) (c : List Level) (x : Report) → w ≡ watched c
    → w' ≡ next w x → n ≡ length c
    → reports c ≡ decided c ++ x ∷ []
    → event_lines style (told_events w x ++ last_events w' n) ≡ (watching style).ends c
close_with-lines style w w' n c x e g f q =
    ap (event_lines style) (ap₂ (λ v y. told_events w x ++ last_events v y) g f
    ∙ ap (λ v. told_events v x ++ last_events (next v x) (length c)) e)
    ∙ ends-watch style c (told_events (watched c) x ++ last_events (next (watched c) x) (length c))
    (all-closed_with c x q)

pub close_with-ended : {w : Watched} {words : List ℕ} (w' w'' : Watched) (n : ℕ) (c : List Level)
    (x : Report) → Watches w words c
    → reports c ≡ decided c ++ x ∷ [] → n ≡ length c → n ≤ 2 ^ 43 → w' ≡ next w x
    → w'' ≡ up_to w' n
    → Ended w''.losses c
close_with-ended {w} {words} w' w'' n c x h q e s g k = record {
  short = omega arith;
  losses_is = ap (λ v. v.losses) (k ∙ ap₂ up_to (g ∙ ap (λ v. next v x) h.state_is) e ∙ sym (ended-closed_with c x q));
}

pub begins-watched : {w : Watched} {words : List ℕ} → w ≡ unwatched → Watches w words []
unfolding watched decided block_len block_subframes
begins-watched {words = words} e = record { state_is = e; kept = subst (λ v. IsKept v.latest words) (sym e) tt }

-- the same of what is kept behind calls that leave some of it as it was
pub same-watches : (w : Watched) (words words' : List ℕ) (c : List Level) → words' ≡ words → Watches w words c
    → Watches w words' c
same-watches w words words' c e h = subst (λ v. Watches w v c) (sym e) h

-- cells are not told as lost more often than there are cells
pub few-up : (w : Watched) (q : ℕ) → (up_to w q).losses ≤ w.losses + 1
few-up w q = go (is_told w q)
  where
    go : (b : Bool) → (cond b w (as_lost w)).losses ≤ w.losses + 1
    go true = omega arith
    go false = omega arith

few-whole : (w : Watched) (at : ℕ) (now : Signals) → (behind_whole w at now).losses ≤ w.losses + 1
few-whole w at now = go (slips w at)
  where
    go : (b : Bool) → cond b (w.losses + 1) w.losses ≤ w.losses + 1
    go true = omega arith
    go false = omega arith

few-next : (w : Watched) (x : Report) → (next w x).losses ≤ w.losses + 2
few-next w (Whole at s b) = let u = few-up w at in let v = few-whole (up_to w at) at (signals_of b) in omega arith
few-next w (Marked at s wrong) = let u = few-up w at in omega arith
few-next w (Fault at cell why) = let u = few-up w at in omega arith
few-next w (Unfinished at cells) = let u = few-up w at in omega arith

few-behind : (w : Watched) (r : List Report) → (behind_reports w r).losses ≤ w.losses + 2 * length r
few-behind w [] = omega arith
few-behind w (x ∷ r) = let a = few-next w x in let b = few-behind (next w x) r in omega arith

few-watched : (c : List Level) → (watched c).losses ≤ 2 * length c + 1
unfolding watched
few-watched c =
    let w = behind_reports unwatched (decided c) in
    let a = few-behind unwatched (decided c) in
    let u = few-up w (length c - block_len) in
    let f = few-decided c in
    omega arith

few-ended : (c : List Level) → (ended c).losses ≤ 2 * length c + 3
unfolding ended
few-ended c =
    let w = behind_reports unwatched (reports c) in
    let a = few-behind unwatched (reports c) in
    let u = few-up w (length c) in
    let f = few-reports c in
    omega arith

pub loss-room : {w : Watched} {words : List ℕ} (c d : List Level) (n : ℕ) → Watches w words c
    → n ≡ length (c ++ d) → n ≤ 2 ^ 43 → w.losses ≤ 2 ^ 44 + 1
loss-room {w} c d n h e s =
    let a : w.losses ≡ (watched c).losses = ap (λ v. v.losses) h.state_is in
    let f = few-watched c in
    let k = length-append c d in
    omega arith

pub watch-room : (form : Form) (b : List ℕ) {n : Counts} {l : ℕ} → n ≡ counts_of form b → Ended l (cells_of form b)
    → n.faults + l < 2 ^ 64
watch-room form b e h =
    let s = h.short in
    let l = h.losses_is in
    let a = few-ended (cells_of form b) in
    let f = few-faults form b e in
    omega arith

pub watch-counted : (form : Form) (b : List ℕ) {n : Counts} {l : ℕ} → n ≡ counts_of form b → Ended l (cells_of form b)
    → with_losses n l ≡ watch_counts form b
unfolding watch_counts counts_of
watch-counted form b {n} {l} e t =
    ap (λ (v : Counts). with_losses v l) e ∙ ap (λ (k : ℕ). with_losses (counts_of form b) k) t.losses_is

-- the run
pub gives-watch : {A : Type 0} (form : Form) {s style : Style} (z : A → List Level → Type 0) → s ≡ style
    → Gives (heard_cells form (watching s) z) (counted_cells form (watch_lines style) (begun_watch style)
    (watch_counts form))
gives-watch form {s} {style} z e =
    cells-give form (watch_lines style) (begun_watch style) (λ c. with-watch s c ∙ ap (λ v. watch_lines v c) e)
    (λ c. before-watch s c ∙ ap (λ v. begun_watch v c) e)
