-- A line locks once; it stays locked where no gap counts; and its whole blocks follow one another, or that is told.
use Rattle.std.proofs.Common.{◌≡◌, ℕ, suc, ◌+◌, ◌-◌, ◌<◌, ◌≤◌, ◌⊎◌, inl, inr, Bool, true, false, cond, ltb, List, []}
use Rattle.std.proofs.Common.{◌∷◌, ◌++◌, Option, Some, None, IfSome, length, refl, sym, ap, ap₂, ◌∙◌, subst, arith}
use Rattle.std.proofs.Common.{length-append}
use Rattle.std.specs.Prelude.{◌||◌, ◌&&◌, not}
use Rattle.std.specs.List.{Contains, filter}
use Rattle.std.specs.Str.{bytes_eq}
use Rattle.std.proofs.lemmas.Bool.{ltb-false, ltb-true}
use Rattle.std.proofs.lemmas.List.Elements.{Contains-append_left, Contains-append_right, filter-append}
use Rattle.aes3_level.specs.declared.level.Level.{Level}
use Rattle.aes3_frame.specs.Blocks.{block_len}
use Rattle.aes3_frame.specs.declared.block.Channel.{Channel}
use Rattle.aes3_frame.specs.declared.block.Channel.TheVariants.{First, Second}
use Rattle.aes3_lock.specs.declared.report.Report.{Report}
use Rattle.aes3_lock.specs.declared.report.Report.TheVariants.{Whole, Marked, Fault, Unfinished}
use Rattle.aes3_lock.specs.Pieces.{IsPiece}
use Rattle.aes3_lock.specs.Reports.{blocks, reports, wholes}
use Rattle.aes3_text_lines.specs.declared.event.Event.{Event}
use Rattle.aes3_text_lines.specs.declared.event.Event.TheVariants.{Back, End, Locked, Lost, Slipped, Status, Validity}
use Rattle.aes3_lock_gaps.specs.Gaps.{account, is_lost}
use Rattle.aes3_watch.specs.Signals.{change_events, marking_of, same_marking, signals_of, status_events}
use Rattle.aes3_watch.specs.Signals.{validity_events}
use Rattle.aes3_watch.specs.Kept.{ChannelSignals}
use Rattle.aes3_watch.specs.Kept.{Signals}
use Rattle.aes3_watch.specs.Kept.{Watched}
use Rattle.aes3_watch.specs.Watching.{behind_reports, behind_whole, ended, events_from, is_locked, is_told}
use Rattle.aes3_watch.specs.Watching.{loss_events, next, told_events, unwatched, up_to, watch_events, whole_events}
use Rattle.aes3_watch_laws.specs.WatchLaws.{AllBehind, IsBehind, StaysLocked, is_breaking, is_locking}
use Rattle.aes3_watch_laws.proofs.PieceGaps.{piece-no-gap}
use Rattle.aes3_lock.proofs.ReportPlaces.{Spaced, spaced-reports}
use Rattle.aes3_watch.proofs.WatchedCells.{as_lost, either, loss-told, up-found, up-is-told, up-losses, up-told}
use Rattle.aes3_watch_laws.proofs.WatchedGaps.{behind-more, losses-are-gaps, next-more, whole-more}

abbrev locks : List Event → ℕ
locks e = length (filter is_locking e)

abbrev breaks : List Event → ℕ
breaks e = length (filter is_breaking e)

count-append : (p : Event → Bool) (a b : List Event)
    → length (filter p (a ++ b)) ≡ length (filter p a) + length (filter p b)
count-append p a b = ap length (filter-append p a b) ∙ length-append (filter p a) (filter p b)

-- what a block says of its samples neither locks nor breaks
abbrev Quiet : List Event → Type 0
Quiet l = (breaks l ≡ 0) × (locks l ≡ 0)

quiet-join : (a b : List Event) → Quiet a → Quiet b → Quiet (a ++ b)
quiet-join a b f g =
    let x = count-append is_breaking a b in
    let y = count-append is_locking a b in
    (omega (arith, x, f.0, g.0), omega (arith, y, f.1, g.1))

status-quiet : (at : ℕ) (channel : Channel) (before now : ChannelSignals) → Quiet (status_events at channel before now)
status-quiet at channel before now = go (bytes_eq before.status now.status)
  where
    go : (b : Bool) → Quiet (cond {A = List Event} b [] (Status at channel now.status ∷ []))
    go true = (refl, refl)
    go false = (refl, refl)

validity-quiet : (at : ℕ) (channel : Channel) (before now : ChannelSignals)
    → Quiet (validity_events at channel before now)
validity-quiet at channel before now = go (same_marking (marking_of before.invalid) (marking_of now.invalid))
  where
    go : (b : Bool) → Quiet (cond {A = List Event} b [] (Validity at channel (marking_of now.invalid) ∷ []))
    go true = (refl, refl)
    go false = (refl, refl)

changes-quiet : (at : ℕ) (before : Option Signals) (now : Signals) → Quiet (change_events at before now)
unfolding change_events
changes-quiet at None now = (refl, refl)
changes-quiet at (Some before) now =
    let a = status_events at First before.first now.first in
    let b = status_events at Second before.second now.second in
    let c = validity_events at First before.first now.first in
    let d = validity_events at Second before.second now.second in
    quiet-join (a ++ b ++ c) d
    (quiet-join (a ++ b) c
    (quiet-join a b (status-quiet at First before.first now.first) (status-quiet at Second before.second now.second))
    (validity-quiet at First before.first now.first))
    (validity-quiet at Second before.second now.second)

-- cells before which no whole block begins
loss-locks : (w : Watched) (q : ℕ) → locks (loss_events w q) ≡ 0
loss-locks w q = go (is_told w q)
  where
    go : (b : Bool) → locks (cond {A = List Event} b [] (Lost w.place ∷ [])) ≡ 0
    go true = refl
    go false = refl

loss-breaks : (w : Watched) (q : ℕ) → breaks (loss_events w q) + w.losses ≡ (up_to w q).losses
loss-breaks w q = go (is_told w q)
  where
    go : (b : Bool) → breaks (cond {A = List Event} b [] (Lost w.place ∷ [])) + w.losses ≡ (cond b w (as_lost w)).losses
    go true = omega arith
    go false = omega arith

up-place : (w : Watched) (q : ℕ) → (up_to w q).place ≡ w.place
up-place w q = go (is_told w q)
  where
    go : (b : Bool) → (cond b w (as_lost w)).place ≡ w.place
    go true = refl
    go false = refl

up-kept : (w : Watched) (q : ℕ) → w.lost ≡ false → (up_to w q).losses ≤ w.losses → (up_to w q).lost ≡ false
up-kept w q h l = go (is_told w q) l
  where
    go : (b : Bool) → (cond b w (as_lost w)).losses ≤ w.losses → (cond b w (as_lost w)).lost ≡ false
    go true l = h
    go false l = absurd (omega arith)

-- a whole block
abbrev one_if : Bool → ℕ
one_if true = 1
one_if false = 0

whole-locks : (w : Watched) (at : ℕ) (s : Level) → locks (whole_events w at s) + one_if w.found ≡ 1
whole-locks w at s = go w.found w.lost (ltb w.place at)
  where
    go : (f l p : Bool) → locks
        (cond f (cond l (Back at (at - w.place) ∷ []) (cond p (Slipped at (at - w.place) ∷ []) [])) (Locked at s ∷ []))
        + one_if f ≡ 1
    go true true p = omega arith
    go true false true = omega arith
    go true false false = omega arith
    go false l p = omega arith

whole-breaks : (w : Watched) (at : ℕ) (s : Level) (now : Signals) → w.lost ≡ false
    → breaks (whole_events w at s) + w.losses ≡ (behind_whole w at now).losses
whole-breaks w at s now h = go w.found w.lost (ltb w.place at) h
  where
    go : (f l p : Bool) → l ≡ false → breaks
        (cond f (cond l (Back at (at - w.place) ∷ []) (cond p (Slipped at (at - w.place) ∷ []) [])) (Locked at s ∷ []))
        + w.losses ≡ cond (f && (not l && p)) (w.losses + 1) w.losses
    go true true p e = cc
    go true false true e = omega arith
    go true false false e = omega arith
    go false l p e = omega arith

-- a report
other-locks : (w : Watched) (at : ℕ)
    → locks (loss_events w at) + one_if w.found ≡ one_if (up_to w at).found
other-locks w at =
    let m = loss-locks w at in
    let f : one_if (up_to w at).found ≡ one_if w.found = ap one_if (up-found w at) in
    omega (arith, m, f)

report-locks : (w : Watched) (x : Report) → locks (told_events w x) + one_if w.found ≡ one_if (next w x).found
report-locks w (Whole at s b) =
    let l = loss_events w at in
    let p = whole_events (up_to w at) at s in
    let k = change_events at w.latest (signals_of b) in
    let x = count-append is_locking l (p ++ k) in
    let y = count-append is_locking p k in
    let m = loss-locks w at in
    let n = whole-locks (up_to w at) at s in
    let o = (changes-quiet at w.latest (signals_of b)).1 in
    let f : one_if (up_to w at).found ≡ one_if w.found = ap one_if (up-found w at) in
    omega (arith, x, y, m, n, o, f)
report-locks w (Marked at s wrong) = other-locks w at
report-locks w (Fault at cell why) = other-locks w at
report-locks w (Unfinished at cells) = other-locks w at

-- all reports
run-locks : (w : Watched) (r : List Report)
    → locks (events_from w r) + one_if w.found ≡ one_if (behind_reports w r).found
run-locks w [] = omega arith
run-locks w (x ∷ r) =
    let a = count-append is_locking (told_events w x) (events_from (next w x) r) in
    let b = report-locks w x in
    let c = run-locks (next w x) r in
    omega (arith, a, b, c)

stays-found : (w : Watched) (r : List Report) → w.found ≡ true → (behind_reports w r).found ≡ true
stays-found w [] h = h
stays-found w (Whole at s b ∷ r) h = stays-found (next w (Whole at s b)) r refl
stays-found w (Marked at s wrong ∷ r) h = stays-found (up_to w at) r (up-found w at ∙ h)
stays-found w (Fault at cell why ∷ r) h = stays-found (up_to w at) r (up-found w at ∙ h)
stays-found w (Unfinished at cells ∷ r) h = stays-found (up_to w at) r (up-found w at ∙ h)

found-some : (w : Watched) (r : List Report) → 0 < length (wholes r) → (behind_reports w r).found ≡ true
found-some w [] h = absurd (omega arith)
found-some w (Whole at s b ∷ r) h = stays-found (next w (Whole at s b)) r refl
found-some w (Marked at s wrong ∷ r) h = found-some (up_to w at) r h
found-some w (Fault at cell why ∷ r) h = found-some (up_to w at) r h
found-some w (Unfinished at cells ∷ r) h = found-some (up_to w at) r h

found-none : (w : Watched) (r : List Report) → length (wholes r) ≡ 0 → (behind_reports w r).found ≡ w.found
found-none w [] h = refl
found-none w (Whole at s b ∷ r) h = absurd (omega arith)
found-none w (Marked at s wrong ∷ r) h = found-none (up_to w at) r h ∙ up-found w at
found-none w (Fault at cell why ∷ r) h = found-none (up_to w at) r h ∙ up-found w at
found-none w (Unfinished at cells ∷ r) h = found-none (up_to w at) r h ∙ up-found w at

all-locks : (c : List Level)
    → length (filter is_locking (watch_events c)) ≡ one_if (behind_reports unwatched (reports c)).found
unfolding watch_events
all-locks c =
    let r = reports c in
    let w = behind_reports unwatched r in
    let l = loss_events w (length c) in
    let e : List Event = End (length c) (is_locked (ended c)) ∷ [] in
    let a = count-append is_locking (events_from unwatched r) (l ++ e) in
    let b = count-append is_locking l e in
    let m = loss-locks w (length c) in
    let k = run-locks unwatched r in
    omega (arith, a, b, m, k)

pub locks-once : (c : List Level)
    → (0 < length (blocks c) → length (filter is_locking (watch_events c)) ≡ 1)
    × (length (blocks c) ≡ 0 → length (filter is_locking (watch_events c)) ≡ 0)
unfolding blocks
locks-once c = (
  λ h. all-locks c ∙ ap one_if (found-some unwatched (reports c) h),
  λ h. all-locks c ∙ ap one_if (found-none unwatched (reports c) h),
)

-- where nothing is lost
other-kept : (w : Watched) (at : ℕ) → w.lost ≡ false → (up_to w at).losses ≡ w.losses
    → (breaks (loss_events w at) ≡ 0) × ((up_to w at).lost ≡ false)
other-kept w at h e = let a = loss-breaks w at in (omega (arith, a, e), up-kept w at h (omega (arith, e)))

report-kept : (w : Watched) (x : Report) → w.lost ≡ false → (next w x).losses ≡ w.losses
    → (breaks (told_events w x) ≡ 0) × ((next w x).lost ≡ false)
report-kept w (Whole at s b) h e =
    let v = up_to w at in
    let now = signals_of b in
    let l = loss_events w at in
    let p = whole_events v at s in
    let k = change_events at w.latest now in
    let m = up-losses w at in
    let n = whole-more v at now in
    let a = loss-breaks w at in
    let f = whole-breaks v at s now (up-kept w at h (omega (arith, e, m, n))) in
    let x = count-append is_breaking l (p ++ k) in
    let y = count-append is_breaking p k in
    let o = (changes-quiet at w.latest now).0 in
    (omega (arith, x, y, a, f, o, e, m, n), refl)
report-kept w (Marked at s wrong) h e = other-kept w at h e
report-kept w (Fault at cell why) h e = other-kept w at h e
report-kept w (Unfinished at cells) h e = other-kept w at h e

run-kept : (w : Watched) (r : List Report) → w.lost ≡ false → (behind_reports w r).losses ≡ w.losses
    → (breaks (events_from w r) ≡ 0) × ((behind_reports w r).lost ≡ false)
run-kept w [] h e = (refl, h)
run-kept w (x ∷ r) h e =
    let m = next-more w x in
    let n = behind-more (next w x) r in
    let a = report-kept w x h (omega (arith, e, m, n)) in
    let b = run-kept (next w x) r a.1 (omega (arith, e, m, n)) in
    let c = count-append is_breaking (told_events w x) (events_from (next w x) r) in
    (omega (arith, c, a.0, b.0), b.1)

pub row-stays : (c : List Level) → length (filter is_lost (account c)) ≡ 0 → 0 < length (blocks c) → StaysLocked c
unfolding watch_events ended blocks
row-stays c z k =
    let r = reports c in
    let w = behind_reports unwatched r in
    let l = loss_events w (length c) in
    let e : List Event = End (length c) (is_locked (up_to w (length c))) ∷ [] in
    let none : (up_to w (length c)).losses ≡ 0 = (losses-are-gaps c).0 z in
    let m = up-losses w (length c) in
    let a = run-kept unwatched r refl (let q : w.losses ≡ 0 = omega (arith, none, m) in q) in
    let b = loss-breaks w (length c) in
    let x = count-append is_breaking (events_from unwatched r) (l ++ e) in
    let y = count-append is_breaking l e in
    record {
      unbroken = omega (arith, x, y, a.0, b, none);
      locked = ap₂ (λ (f g : Bool). f && not g) (up-found w (length c) ∙ found-some unwatched r k)
          (up-kept w (length c) a.1 (omega (arith, none)));
    }

pub piece-stays : (s : Level) (bs : List (List (List Bool))) (i j : ℕ) (c : List Level) → IsPiece s bs i j c
    → 0 < length (blocks c) → StaysLocked c
piece-stays s bs i j c p k = row-stays c (piece-no-gap s bs i j c p k) k

-- one whole block behind another
abbrev Inside : List Event → List Event → Type 0
Inside e l = (x : Event) → Contains l x → Contains e x

inside-front : (e a b : List Event) → Inside e (a ++ b) → Inside e a
inside-front e a b h = λ x k. h x (Contains-append_left a b x k)

inside-back : (e a b : List Event) → Inside e (a ++ b) → Inside e b
inside-back e a b h = λ x k. h x (Contains-append_right a b x k)

only : (x : Event) → Contains (x ∷ []) x
only x = (0, omega arith, refl)

inside-one : (e l : List Event) (x : Event) → Inside e l → l ≡ x ∷ [] → Contains e x
inside-one e l x h q = h x (subst (λ k. Contains k x) (sym q) (only x))

-- what is known of the last whole block, which ends before a place
abbrev Known : List Event → Watched → Option ℕ → Type 0
Known e w None = w.found ≡ false
Known e w (Some p) = (w.found ≡ true) × (w.place ≡ p) × (w.lost ≡ true → Contains e (Lost p))

known-lost : (e : List Event) (w : Watched) (last : Option ℕ) → Known e w last → Contains e (Lost w.place)
    → Known e (as_lost w) last
known-lost e w None h k = h
known-lost e w (Some p) h k = (h.0, h.1, λ z. subst (λ n. Contains e (Lost n)) h.1 k)

up-known : (e : List Event) (w : Watched) (q : ℕ) (last : Option ℕ) → Known e w last → Inside e (loss_events w q)
    → Known e (up_to w q) last
up-known e w q last h i = go (either (is_told w q))
  where
    go : (is_told w q ≡ true) ⊎ (is_told w q ≡ false) → Known e (up_to w q) last
    go (inl t) = subst (λ v. Known e v last) (sym (up-told w q true t)) h
    go (inr t) =
        subst (λ v. Known e v last) (sym (up-told w q false t))
        (known-lost e w last h (inside-one e (loss_events w q) (Lost w.place) i (loss-told w q false t)))

module _ (e : List Event) (v : Watched) (at : ℕ) (s : Level) (i : Inside e (whole_events v at s)) (l : v.place ≤ at)
    (t : is_told v at ≡ true) where
  told-as : (f k p : Bool) → v.found ≡ f → v.lost ≡ k → ltb v.place at ≡ p
      → whole_events v at s
      ≡ cond f (cond k (Back at (at - v.place) ∷ []) (cond p (Slipped at (at - v.place) ∷ []) [])) (Locked at s ∷ [])
  told-as f k p a b d =
      ap (λ x. cond x (cond v.lost (Back at (at - v.place) ∷ [])
      (cond (ltb v.place at) (Slipped at (at - v.place) ∷ []) [])) (Locked at s ∷ [])) a
      ∙ ap₂ (λ x y. cond f (cond x (Back at (at - v.place) ∷ []) (cond y (Slipped at (at - v.place) ∷ []) []))
      (Locked at s ∷ [])) b d

  near : v.lost ≡ false → at - v.place < block_len
  near b = ltb-true (at - v.place) block_len
      (sym (ap (λ (x : Bool). x || ltb (at - v.place) block_len) b) ∙ t)

  behind-place : v.found ≡ true → (v.lost ≡ true → Contains e (Lost v.place)) → IsBehind e v.place at
  behind-place f h = go v.lost (ltb v.place at) refl refl
    where
      go : (k p : Bool) → v.lost ≡ k → ltb v.place at ≡ p → IsBehind e v.place at
      go true p b d = inr (inr (
        h b,
        inside-one e (whole_events v at s) (Back at (at - v.place)) i (told-as true true p f b d),
      ))
      go false true b d = inr (inl (
        inside-one e (whole_events v at s) (Slipped at (at - v.place)) i (told-as true false true f b d),
        near b,
      ))
      go false false b d = let g = ltb-false v.place at d in inl (omega (arith, g, l))

  behind-last : (last : Option ℕ) → Known e v last → IfSome last (λ p. IsBehind e p at)
  behind-last None h = tt
  behind-last (Some p) h =
      subst (λ n. IsBehind e n at) h.1
      (behind-place h.0 (λ z. subst (λ n. Contains e (Lost n)) (sym h.1) (h.2 z)))

follow-other : (e : List Event) (r : List Report) (w : Watched) (last : Option ℕ) (p at : ℕ) → p ≤ at
    → Spaced (suc at) r → w.place ≤ p
    → Known e w last → Inside e (loss_events w at ++ events_from (up_to w at) r)
    → ((v : Watched) (o : Option ℕ) (n : ℕ) → Spaced n r → v.place ≤ n → Known e v o → Inside e (events_from v r)
    → AllBehind e o r)
    → AllBehind e last r
follow-other e r w last p at a s l h i rec =
    let q = up-place w at in
    rec (up_to w at) last (suc at) s (omega (arith, q, a, l))
    (up-known e w at last h (inside-front e (loss_events w at) (events_from (up_to w at) r) i))
    (inside-back e (loss_events w at) (events_from (up_to w at) r) i)

apart : false ≡ true → ⊥
apart z = cc

follow : (e : List Event) (r : List Report) (w : Watched) (last : Option ℕ) (p : ℕ) → Spaced p r → w.place ≤ p
    → Known e w last → Inside e (events_from w r) → AllBehind e last r
follow e [] w last p s l h i = tt
follow e (Whole at t b ∷ r) w last p s l h i =
    let v = up_to w at in
    let now = signals_of b in
    let k = whole_events v at t ++ change_events at w.latest now in
    let told = loss_events w at ++ k in
    let m = inside-front e told (events_from (behind_whole v at now) r) i in
    let f = inside-front e (loss_events w at) k m in
    let n = inside-back e (loss_events w at) k m in
    let g = inside-front e (whole_events v at t) (change_events at w.latest now) n in
    let q = up-place w at in
    let a = s.0 in (
      behind-last e v at t g (omega (arith, q, a, l)) (up-is-told w at) last (up-known e w at last h f),
      follow e r (behind_whole v at now) (Some (at + block_len)) (at + block_len) s.1 (omega arith)
          (refl, refl, λ z. absurd (apart z))
          (inside-back e told (events_from (behind_whole v at now) r) i),
    )
follow e (Marked at t wrong ∷ r) w last p s l h i
    = follow-other e r w last p at s.0 s.1 l h i (λ v o n. follow e r v o n)
follow e (Fault at cell why ∷ r) w last p s l h i
    = follow-other e r w last p at s.0 s.1 l h i (λ v o n. follow e r v o n)
follow e (Unfinished at cells ∷ r) w last p s l h i
    = follow-other e r w last p at s.0 s.1 l h i (λ v o n. follow e r v o n)

pub blocks-follow : (c : List Level) → AllBehind (watch_events c) None (reports c)
unfolding watch_events
blocks-follow c =
    follow (watch_events c) (reports c) unwatched None 0 (spaced-reports c) (omega arith) refl
    (λ x k. Contains-append_left (events_from unwatched (reports c)) _ x k)
