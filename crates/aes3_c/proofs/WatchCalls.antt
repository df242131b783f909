-- A line that is watched, kept without the number of its losses, and what was put of it so far.
use Rattle.std.proofs.Common.{◌≡◌, ℕ, zero, suc, ◌+◌, ◌-◌, ◌*◌, ◌<◌, ◌≤◌, ◌^◌, ◌⊎◌, inl, inr, ◌∙◌, Bool, true, false, cond, List}
use Rattle.std.proofs.Common.{[], ◌∷◌, ◌++◌, length, map, refl, sym, ap, ap₂, subst, arith, append-nil, append_assoc}
use Rattle.std.proofs.Common.{drop, get_or, length-append, length-set, set, take}
use Rattle.std.specs.Prelude.{◌||◌, nat_lt}
use Rattle.std.proofs.lemmas.Bool.{cases_eq, cases_lt, le-ltb, lt-ltb}
use Rattle.std.proofs.lemmas.List.{append_cancel_left, drop-set-lt, ext_get_or, get_or-map, get_or-set_other}
use Rattle.std.proofs.lemmas.List.{get_or-set_same, length-map, map-append, take_more, take_more_set}
use Rattle.aes3_level.specs.declared.level.Level.{Level}
use Rattle.aes3_frame.specs.Blocks.{block_len}
use Rattle.aes3_frame.specs.Files.{payload_of}
use Rattle.aes3_lock.specs.declared.report.Report.{Report}
use Rattle.aes3_lock.specs.declared.report.Report.TheVariants.{Whole, Marked, Fault, Unfinished}
use Rattle.aes3_lock.specs.Remains.{place_of}
use Rattle.aes3_lock.specs.Reports.{decided, reports}
use Rattle.aes3_lock.proofs.DecidedStand.{decided-stand}
use Rattle.aes3_lock.proofs.Deciding.{answer, block_len_24576}
use Rattle.aes3_lock.proofs.Ends.{final}
use Rattle.aes3_lock.proofs.ReportPlaces.{UpTo, late-decided, late-reports, near-reports, split-reports}
use Rattle.aes3_lock_gaps.proofs.BegunAccounts.{decided-more, one-answer, one-final}
use Rattle.aes3_text_lines.specs.declared.event.Event.{Event}
use Rattle.aes3_text_lines.specs.declared.event.Event.TheVariants.{End}
use Rattle.aes3_watch.specs.declared.watching.Watched.{Watched}
use Rattle.aes3_watch.specs.Signals.{change_events, signals_of}
use Rattle.aes3_watch.specs.Watching.{behind_reports, begun_events, ended, events_from, is_locked, is_told, loss_events}
use Rattle.aes3_watch.specs.Watching.{next, told_events, unwatched, up_to, watch_events, whole_events}
use Rattle.aes3_watch.proofs.WatchedCells.{as_lost, behind-push, either, events-push, last-join, last_events, later}
use Rattle.aes3_watch.proofs.WatchedCells.{loss-join, loss-told, next-join, report-join, up-is-told, up-join, up-told}
use Rattle.aes3_c.specs.declared.watch_calls.Aes3Event.{Aes3Event}
use Rattle.aes3_c.specs.declared.watch_calls.Aes3Watch.{Aes3Watch}
use Rattle.aes3_c.specs.Watches.{BeginFrom, HasBegun, HasPut, IsNext, event_numbers, uncounted, watched_in}
use Rattle.aes3_lock_gaps.proofs.Telling.{upto-next}

-- what is told of a line does not depend on that number
pub up-uncounted : (w : Watched) (q : ℕ) → uncounted (up_to (uncounted w) q) ≡ uncounted (up_to w q)
up-uncounted w q = go (is_told w q)
  where
    go : (b : Bool) → uncounted (cond b (uncounted w) (as_lost (uncounted w))) ≡ uncounted (cond b w (as_lost w))
    go true = refl
    go false = refl

up-alike : (v w : Watched) (q : ℕ) → uncounted v ≡ uncounted w → uncounted (up_to v q) ≡ uncounted (up_to w q)
up-alike v w q h = sym (up-uncounted v q) ∙ ap (λ u. uncounted (up_to u q)) h ∙ up-uncounted w q

loss-alike : (v w : Watched) (q : ℕ) → uncounted v ≡ uncounted w → loss_events v q ≡ loss_events w q
loss-alike v w q h = ap (λ u. loss_events u q) h

pub next-alike : (v w : Watched) (x : Report) → uncounted v ≡ uncounted w → uncounted (next v x) ≡ uncounted (next w x)
next-alike v w (Whole at s b) h = refl
next-alike v w (Marked at s wrong) h = up-alike v w at h
next-alike v w (Fault at cell why) h = up-alike v w at h
next-alike v w (Unfinished at cells) h = up-alike v w at h

pub told-alike : (v w : Watched) (x : Report) → uncounted v ≡ uncounted w → told_events v x ≡ told_events w x
told-alike v w (Whole at s b) h =
    ap₂ (λ l u. l ++ (whole_events u at s ++ change_events at v.latest (signals_of b))) (loss-alike v w at h)
    (up-alike v w at h)
    ∙ ap (λ u. loss_events w at ++ (whole_events (up_to w at) at s ++ change_events at u.latest (signals_of b))) h
told-alike v w (Marked at s wrong) h = loss-alike v w at h
told-alike v w (Fault at cell why) h = loss-alike v w at h
told-alike v w (Unfinished at cells) h = loss-alike v w at h

last-alike : (v w : Watched) (n : ℕ) → uncounted v ≡ uncounted w → last_events v n ≡ last_events w n
last-alike v w n h = ap₂ (λ l u. l ++ End n (is_locked u) ∷ []) (loss-alike v w n h) (up-alike v w n h)

-- at the first place nothing is lost
or-true : (x : Bool) → (x || true) ≡ true
or-true true = refl
or-true false = refl

told-first : (w : Watched) → is_told w 0 ≡ true
told-first w =
    ap (λ b. w.lost || b) (lt-ltb (0 - w.place) block_len (let b = block_len_24576 in omega arith)) ∙ or-true w.lost

up-first : (w : Watched) → up_to w 0 ≡ w
up-first w = up-told w 0 true (told-first w)

loss-first : (w : Watched) → loss_events w 0 ≡ []
loss-first w = loss-told w 0 true (told-first w)

-- where it is told up to a place, it is up to each one before it
told-before : (w : Watched) (a b : ℕ) → a ≤ b → is_told w b ≡ true → is_told w a ≡ true
told-before w a b h e = go (either (is_told w a))
  where
    go : (is_told w a ≡ true) ⊎ (is_told w a ≡ false) → is_told w a ≡ true
    go (inl t) = t
    go (inr f) = let g = later w a b h f in absurd cc

up-before : (w : Watched) (a b : ℕ) → a ≤ b → up_to (up_to w b) a ≡ up_to w b
up-before w a b h = up-told (up_to w b) a true (told-before (up_to w b) a b h (up-is-told w b))

loss-before : (w : Watched) (a b : ℕ) → a ≤ b → loss_events (up_to w b) a ≡ []
loss-before w a b h = loss-told (up_to w b) a true (told-before (up_to w b) a b h (up-is-told w b))

-- what was put so far, with more numbers behind it
more-put : {put now : List Aes3Event} (begun told all : List Event) → put ≡ map event_numbers begun
    → now ≡ map event_numbers told → begun ++ told ≡ all → put ++ now ≡ map event_numbers all
more-put begun told all p n e =
    ap₂ (λ a b. a ++ b) p n ∙ sym (map-append event_numbers begun told) ∙ ap (map event_numbers) e

pub next-near : {k : Aes3Watch} {c : List Level} {r : List Report} {put : List Aes3Event} (x : Report)
    → HasPut k c r put → IsNext c r x → place_of x ≤ 2 ^ 43
next-near {k} {c} {r} x p (rest, h) =
    let u = upto-next (length c) r rest x (subst (UpTo (length c)) h (near-reports c)) in
    let f = p.few in
    omega arith

-- what more cells decide stands a block's length before them at most
first-of : {x y : Report} (r a b : List Report) → r ++ y ∷ a ≡ r ++ x ∷ b → y ≡ x
first-of r a b h = let q = append_cancel_left r _ _ h in cc

pub late-more : (c d : List Level) (x : Report) (rest : List Report) → reports (c ++ d) ≡ decided c ++ x ∷ rest
    → length c ≤ place_of x + block_len
late-more c [] x rest e = go (one-final 0 c)
  where
    all : decided c ++ final 0 c ≡ decided c ++ x ∷ rest
    all = sym (split-reports c) ∙ ap reports (sym (append-nil c)) ∙ e

    go : (final 0 c ≡ []) ⊎ ((y : Report) × (final 0 c ≡ y ∷ [])) → length c ≤ place_of x + block_len
    go (inl f) = let q = append_cancel_left (decided c) [] (x ∷ rest) (ap (λ z. decided c ++ z) (sym f) ∙ all) in absurd cc
    go (inr y) =
        let q = first-of (decided c) [] rest (ap (λ z. decided c ++ z) (sym y.1) ∙ all) in
        subst (λ (z : Report). length c ≤ place_of z + block_len) q
        (late-reports c y.0 (split-reports c ∙ ap (λ z. decided c ++ z) y.1))
late-more c (l ∷ d) x rest e = go (one-answer 0 c l) (late-more (c ++ l ∷ []) d x rest)
  where
    one : List Level
    one = c ++ l ∷ []

    all : reports (one ++ d) ≡ decided c ++ x ∷ rest
    all = ap reports (append_assoc c (l ∷ []) d) ∙ e

    go : (answer 0 c l ≡ []) ⊎ ((y : Report) × (answer 0 c l ≡ y ∷ []))
        → (reports (one ++ d) ≡ decided one ++ x ∷ rest → length one ≤ place_of x + block_len)
        → length c ≤ place_of x + block_len
    go (inl f) ih =
        let same : decided one ≡ decided c = decided-more c l ∙ ap (λ z. decided c ++ z) f ∙ append-nil (decided c) in
        let n = ih (all ∙ ap (λ z. z ++ x ∷ rest) (sym same)) in
        let m = length-append c (l ∷ []) in
        omega arith
    go (inr y) ih =
        let more : decided one ≡ decided c ++ y.0 ∷ [] = decided-more c l ∙ ap (λ z. decided c ++ z) y.1 in
        let s = decided-stand one d in
        let q = first-of (decided c) s.0 rest
        (sym (append_assoc (decided c) (y.0 ∷ []) s.0) ∙ ap (λ z. z ++ s.0) (sym more) ∙ sym s.1 ∙ all) in
        subst (λ (z : Report). length c ≤ place_of z + block_len) q (late-decided c (l ∷ []) y.0 more)

-- none given
pub begins_put : (k : Aes3Watch) (c : List Level) → length c ≤ 2 ^ 43 → watched_in k ≡ uncounted unwatched → HasPut k c [] []
begins_put k c s e = record {
  reached = 0;
  within = omega arith;
  few = s;
  more = reports c;
  begins = refl;
  later = λ x rest h. omega arith;
  state_is = e ∙ ap uncounted (sym (up-first unwatched));
  put_is = ap (map event_numbers) (sym (loss-first unwatched));
}

-- one more report, from the line as it is kept
pub report-put : {k : Aes3Watch} (k' : Aes3Watch) {c : List Level} {r : List Report} {put now : List Aes3Event}
    (x : Report) (w : Watched) (told : List Event) → HasPut k c r put → IsNext c r x → w ≡ next (watched_in k) x
    → told ≡ told_events (watched_in k) x → watched_in k' ≡ uncounted w → now ≡ map event_numbers told
    → HasPut k' c (r ++ x ∷ []) (put ++ now)
report-put {k} k' {c} {r} {put} {now} x w told p (rest, h) e f g n =
    let v = behind_reports unwatched r in
    let q : p.more ≡ x ∷ rest = append_cancel_left r p.more (x ∷ rest) (sym p.begins ∙ h) in
    let far = p.later x rest q in
    let behind = behind_reports unwatched (r ++ x ∷ []) in
    let next-is : uncounted w ≡ uncounted behind =
    ap uncounted e ∙ next-alike (watched_in k) (up_to v p.reached) x p.state_is
    ∙ ap uncounted (sym (next-join v p.reached x far) ∙ sym (behind-push unwatched r x)) in
    let events-are : (events_from unwatched r ++ loss_events v p.reached) ++ told
    ≡ events_from unwatched (r ++ x ∷ []) ++ loss_events behind 0 =
    ap (λ z. (events_from unwatched r ++ loss_events v p.reached) ++ z)
    (f ∙ told-alike (watched_in k) (up_to v p.reached) x p.state_is)
    ∙ append_assoc (events_from unwatched r) (loss_events v p.reached) (told_events (up_to v p.reached) x)
    ∙ ap (λ z. events_from unwatched r ++ z) (sym (report-join v p.reached x far))
    ∙ sym (events-push unwatched r x) ∙ sym (append-nil (events_from unwatched (r ++ x ∷ [])))
    ∙ ap (λ z. events_from unwatched (r ++ x ∷ []) ++ z) (sym (loss-first behind)) in
    record {
      reached = 0;
      within = omega arith;
      few = p.few;
      more = rest;
      begins = h ∙ sym (append_assoc r (x ∷ []) rest);
      later = λ y more m. omega arith;
      state_is = g ∙ next-is ∙ ap uncounted (sym (up-first behind));
      put_is = more-put _ told _ p.put_is n events-are;
    }

-- on to a place before which no report begins, from one that was reached
further-put : {k : Aes3Watch} (k' : Aes3Watch) {c : List Level} {r : List Report} {put now : List Aes3Event} (a : ℕ)
    (w : Watched) (told : List Event) (p : HasPut k c r put) → a ≤ length c → BeginFrom a p.more
    → w ≡ up_to (watched_in k) a → told ≡ loss_events (watched_in k) a → watched_in k' ≡ uncounted w
    → now ≡ map event_numbers told → HasPut k' c r (put ++ now)
further-put {k} k' {c} {r} {put} {now} a w told p short far e f g n = go (cases_lt a p.reached)
  where
    v : Watched
    v = behind_reports unwatched r

    next-is : uncounted w ≡ uncounted (up_to (up_to v p.reached) a)
    next-is = ap uncounted e ∙ up-alike (watched_in k) (up_to v p.reached) a p.state_is

    told-is : told ≡ loss_events (up_to v p.reached) a
    told-is = f ∙ loss-alike (watched_in k) (up_to v p.reached) a p.state_is

    go : (a < p.reached) ⊎ (p.reached ≤ a) → HasPut k' c r (put ++ now)
    go (inl l) = record {
      reached = p.reached;
      within = p.within;
      few = p.few;
      more = p.more;
      begins = p.begins;
      later = p.later;
      state_is = g ∙ next-is ∙ ap uncounted (up-before v a p.reached (omega arith));
      put_is = more-put _ told _ p.put_is n
          (ap (λ z. (events_from unwatched r ++ loss_events v p.reached) ++ z)
          (told-is ∙ loss-before v a p.reached (omega arith))
          ∙ append-nil (events_from unwatched r ++ loss_events v p.reached));
    }
    go (inr l) = record {
      reached = a;
      within = short;
      few = p.few;
      more = p.more;
      begins = p.begins;
      later = far;
      state_is = g ∙ next-is ∙ ap uncounted (sym (up-join v p.reached a l));
      put_is = more-put _ told _ p.put_is n
          (append_assoc (events_from unwatched r) (loss_events v p.reached) told
          ∙ ap (λ z. events_from unwatched r ++ (loss_events v p.reached ++ z)) told-is
          ∙ ap (λ z. events_from unwatched r ++ z) (sym (loss-join v p.reached a l)));
    }

pub passed-put : {k : Aes3Watch} (k' : Aes3Watch) (c d : List Level) {r : List Report} {put now : List Aes3Event}
    (a : ℕ) (w : Watched) (told : List Event) → HasPut k (c ++ d) r put → r ≡ decided c → a ≡ length c - block_len
    → w ≡ up_to (watched_in k) a → told ≡ loss_events (watched_in k) a → watched_in k' ≡ uncounted w
    → now ≡ map event_numbers told → HasPut k' (c ++ d) r (put ++ now)
passed-put {k} k' c d {r} {put} {now} a w told p q s e f g n =
    let m = length-append c d in
    further-put k' a w told p (omega arith)
    (λ x rest h. let l = late-more c d x rest (p.begins ∙ ap₂ (λ y z. y ++ z) q h) in omega arith) e f g n

-- and all that stands is put
begun-is : (c : List Level) (r : List Report) → r ≡ decided c
    → begun_events c ≡ events_from unwatched r ++ loss_events (behind_reports unwatched r) (length c - block_len)
unfolding begun_events
begun-is c r q =
    ap (λ r. events_from unwatched r ++ loss_events (behind_reports unwatched r) (length c - block_len)) (sym q)

pub passed-begun : {k : Aes3Watch} (c d : List Level) {r : List Report} {put now : List Aes3Event}
    (a : ℕ) (told : List Event) → HasPut k (c ++ d) r put → r ≡ decided c → a ≡ length c - block_len
    → told ≡ loss_events (watched_in k) a → now ≡ map event_numbers told → HasBegun c (put ++ now)
passed-begun {k} c d {r} {put} {now} a told p q s f n = go (cases_lt a p.reached)
  where
    v : Watched
    v = behind_reports unwatched r

    begun : begun_events c ≡ events_from unwatched r ++ loss_events v a
    begun = begun-is c r q ∙ ap (λ z. events_from unwatched r ++ loss_events v z) (sym s)

    told-is : told ≡ loss_events (up_to v p.reached) a
    told-is = f ∙ loss-alike (watched_in k) (up_to v p.reached) a p.state_is

    go : (a < p.reached) ⊎ (p.reached ≤ a) → HasBegun c (put ++ now)
    go (inl l) = (
      loss_events (up_to v a) p.reached,
      more-put _ told _ p.put_is n
          (ap (λ z. (events_from unwatched r ++ loss_events v p.reached) ++ z)
          (told-is ∙ loss-before v a p.reached (omega arith))
          ∙ append-nil (events_from unwatched r ++ loss_events v p.reached)
          ∙ ap (λ z. events_from unwatched r ++ z) (loss-join v a p.reached (omega arith))
          ∙ sym (append_assoc (events_from unwatched r) (loss_events v a) (loss_events (up_to v a) p.reached))
          ∙ ap (λ z. z ++ loss_events (up_to v a) p.reached) (sym begun)),
    )
    go (inr l) = (
      [],
      more-put _ told _ p.put_is n
          (append_assoc (events_from unwatched r) (loss_events v p.reached) told
          ∙ ap (λ z. events_from unwatched r ++ (loss_events v p.reached ++ z)) told-is
          ∙ ap (λ z. events_from unwatched r ++ z) (sym (loss-join v p.reached a l)) ∙ sym begun
          ∙ sym (append-nil (begun_events c))),
    )

-- the end
all-is : (c : List Level) (r : List Report) → r ≡ reports c
    → watch_events c ≡ events_from unwatched r ++ last_events (behind_reports unwatched r) (length c)
unfolding watch_events ended
all-is c r q = ap (λ r. events_from unwatched r ++ last_events (behind_reports unwatched r) (length c)) (sym q)

pub ended-put : {k : Aes3Watch} (c : List Level) {r : List Report} {put now : List Aes3Event} (told : List Event)
    (n : ℕ) → HasPut k c r put → r ≡ reports c → n ≡ length c → told ≡ last_events (watched_in k) n
    → now ≡ map event_numbers told → put ++ now ≡ map event_numbers (watch_events c)
ended-put {k} c {r} {put} {now} told n p q s f m =
    let v = behind_reports unwatched r in
    more-put _ told _ p.put_is m
    (append_assoc (events_from unwatched r) (loss_events v p.reached) told
    ∙ ap (λ z. events_from unwatched r ++ (loss_events v p.reached ++ z))
    (f ∙ ap (last_events (watched_in k)) s ∙ last-alike (watched_in k) (up_to v p.reached) (length c) p.state_is)
    ∙ ap (λ z. events_from unwatched r ++ z) (sym (last-join v p.reached (length c) p.within)) ∙ sym (all-is c r q))

-- numbers that are put one by one
pub more-events : (told : List Event) (events : List Aes3Event) (i : ℕ) (x : Aes3Event) (d : Event) → i < length events
    → i < length told → x ≡ event_numbers (get_or told i d) → take i events ≡ map event_numbers (take i told)
    → take (i + 1) (set events i x) ≡ map event_numbers (take (i + 1) told)
more-events told events i x d l m e p =
    take_more_set events i x l ∙ ap₂ (λ a y. a ++ y ∷ []) p e
    ∙ sym (map-append event_numbers (take i told) (get_or told i d ∷ []))
    ∙ ap (map event_numbers) (sym (take_more told i d m))

drop-none : {A : Type 0} (n : ℕ) → drop {A = A} n [] ≡ []
drop-none zero = refl
drop-none (suc n) = refl

one-more : {A : Type 0} (i : ℕ) (xs : List A) → drop (i + 1) xs ≡ drop 1 (drop i xs)
one-more zero xs = refl
one-more (suc i) [] = drop-none (suc i + 1)
one-more (suc i) (x ∷ xs) =
    let n : suc i + 1 ≡ suc (i + 1) = omega arith in ap (λ n. drop n (x ∷ xs)) n ∙ one-more i xs

pub fewer-left : {A : Type 0} (xs ys : List A) (i : ℕ) (y : A) → drop i xs ≡ drop i ys
    → drop (i + 1) (set xs i y) ≡ drop (i + 1) ys
fewer-left xs ys i y e =
    drop-set-lt (i + 1) xs i y (omega arith) ∙ one-more i xs ∙ ap (drop 1) e ∙ sym (one-more i ys)

-- payloads that are set two by two
two-below : (k i : ℕ) → k < 2 * (i + 1) → (k ≡ 2 * i + 1 → ⊥) → (k ≡ 2 * i → ⊥) → k < 2 * i
two-below k i h q r = omega arith

pub two-payloads : (b : List (List Bool)) (words : List ℕ) (i : ℕ) (x y : List Bool) → 2 * i + 1 < length b
    → x ≡ payload_of (get_or words (2 * i) 0) → y ≡ payload_of (get_or words (2 * i + 1) 0)
    → ((k : ℕ) → k < 2 * i → get_or b k [] ≡ payload_of (get_or words k 0))
    → (k : ℕ) → k < 2 * (i + 1)
    → get_or (set (set b (2 * i) x) (2 * i + 1) y) k [] ≡ payload_of (get_or words k 0)
two-payloads b words i x y l e f p k h = go (cases_eq k (2 * i + 1)) (cases_eq k (2 * i))
  where
    one : List (List Bool)
    one = set b (2 * i) x

    len : length one ≡ length b
    len = length-set b (2 * i) x

    go : (k ≡ 2 * i + 1) ⊎ (k ≡ 2 * i + 1 → ⊥) → (k ≡ 2 * i) ⊎ (k ≡ 2 * i → ⊥)
        → get_or (set one (2 * i + 1) y) k [] ≡ payload_of (get_or words k 0)
    go (inl q) c =
        ap (λ k. get_or (set one (2 * i + 1) y) k []) q
        ∙ get_or-set_same one (2 * i + 1) y [] (omega (arith, len, l)) ∙ f
        ∙ ap (λ k. payload_of (get_or words k 0)) (sym q)
    go (inr q) (inl r) =
        get_or-set_other one (2 * i + 1) k y [] q ∙ ap (λ k. get_or one k []) r
        ∙ get_or-set_same b (2 * i) x [] (omega arith) ∙ e ∙ ap (λ k. payload_of (get_or words k 0)) (sym r)
    go (inr q) (inr r) =
        get_or-set_other one (2 * i + 1) k y [] q ∙ get_or-set_other b (2 * i) k x [] r ∙ p k (two-below k i h q r)

pub all-payloads : (b : List (List Bool)) (words : List ℕ) → length b ≡ length words
    → ((k : ℕ) → k < length b → get_or b k [] ≡ payload_of (get_or words k 0)) → b ≡ map payload_of words
all-payloads b words l p =
    ext_get_or [] b (map payload_of words) (l ∙ sym (length-map words payload_of))
    (λ k h. p k h ∙ sym (get_or-map payload_of words k 0 [] (omega (arith, l, h))))
