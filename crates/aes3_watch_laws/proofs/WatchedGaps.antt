-- A loss or a slip is told just where a gap of the account counts.
use Rattle.std.proofs.Common.{◌≡◌, ℕ, ◌+◌, ◌-◌, ◌<◌, ◌≤◌, ◌⊎◌, inl, inr, Bool, true, false, cond, ltb, List, []}
use Rattle.std.proofs.Common.{◌∷◌, ◌++◌, length, refl, sym, ap, ap₂, ◌∙◌, subst, arith, append_assoc}
use Rattle.std.specs.Prelude.{◌||◌, ◌&&◌, not}
use Rattle.std.specs.List.{filter}
use Rattle.std.proofs.lemmas.Bool.{ltb-true, ltb-false, lt-ltb}
use Rattle.aes3_level.specs.declared.level.Level.{Level}
use Rattle.aes3_frame.specs.Blocks.{block_len}
use Rattle.aes3_lock.specs.declared.report.Report.{Report}
use Rattle.aes3_lock.specs.declared.report.Report.TheVariants.{Whole, Marked, Fault, Unfinished}
use Rattle.aes3_lock.specs.Reports.{reports}
use Rattle.aes3_lock.proofs.Deciding.{block_len_24576}
use Rattle.aes3_lock_gaps.specs.Gaps.{Entry, reported, full_gaps, full_count, behind_full, kind, rest_gap, gaps}
use Rattle.aes3_lock_gaps.specs.Gaps.{account_from, reached_from, account, is_lost}
use Rattle.aes3_watch.specs.Signals.{signals_of}
use Rattle.aes3_watch.specs.Kept.{Signals}
use Rattle.aes3_watch.specs.Kept.{Watched}
use Rattle.aes3_watch.specs.Watching.{unwatched, is_told, up_to, slips, behind_whole, next, behind_reports, ended}
use Rattle.aes3_lock_gaps.proofs.GapLemmas.{behind-none, count-near, lost-append, lost-cut, lost-full}
use Rattle.aes3_watch.proofs.WatchedCells.{either, up-losses, up-told}

abbrev count : List Entry → ℕ
count e = length (filter is_lost e)

-- none of a is as many as none of b beyond m
record Same (a b m : ℕ) : Type 0 where
  pub one : a ≡ 0 → b ≡ m
  pub other : b ≡ m → a ≡ 0

more : {a b m : ℕ} → 0 < a → m < b → Same a b m
more h g = record { one = λ e. omega arith; other = λ e. omega arith }

near-none : (p q : ℕ) → ltb (q - p) block_len ≡ true → full_count p q ≡ 0
near-none p q e = let l = ltb-true (q - p) block_len e in count-near p q (omega arith)

far-some : (p q : ℕ) → ltb (q - p) block_len ≡ false → 0 < full_count p q
unfolding full_count
far-some p q e = go (ltb-false (q - p) block_len e)
  where
    go : block_len ≤ q - p → 0 < full_count p q
    go h = rw block_len_24576 (let g : 24576 ≤ q - p = subst (λ n. n ≤ q - p) block_len_24576 h in omega arith)

-- losses do not become fewer
pub whole-more : (w : Watched) (at : ℕ) (now : Signals) → w.losses ≤ (behind_whole w at now).losses
whole-more w at now = go (slips w at)
  where
    go : (b : Bool) → w.losses ≤ cond b (w.losses + 1) w.losses
    go true = omega arith
    go false = omega arith

pub next-more : (w : Watched) (x : Report) → w.losses ≤ (next w x).losses
next-more w (Whole at s b) = let u = up-losses w at in let v = whole-more (up_to w at) at (signals_of b) in omega arith
next-more w (Marked at s wrong) = up-losses w at
next-more w (Fault at cell why) = up-losses w at
next-more w (Unfinished at cells) = up-losses w at

pub behind-more : (w : Watched) (r : List Report) → w.losses ≤ (behind_reports w r).losses
behind-more w [] = omega arith
behind-more w (x ∷ r) = let a = next-more w x in let b = behind-more (next w x) r in omega arith

-- a line of which nothing is lost, and whose account reaches as far
record Even (w : Watched) (n p : ℕ) : Type 0 where
  pub held : w.lost ≡ false
  pub place : w.place ≡ p
  pub found : w.found ≡ ltb 0 n

told-by : {w : Watched} {n p : ℕ} (q : ℕ) (b : Bool) → Even w n p → ltb (q - p) block_len ≡ b → is_told w q ≡ b
told-by q b h e = ap₂ (λ (x : Bool) (y : ℕ). x || ltb (q - y) block_len) h.held h.place ∙ e

up-near : {w : Watched} {n p : ℕ} (q : ℕ) → Even w n p → ltb (q - p) block_len ≡ true → up_to w q ≡ w
up-near {w} q h e = up-told w q true (told-by q true h e)

up-far : {w : Watched} {n p : ℕ} (q : ℕ) → Even w n p → ltb (q - p) block_len ≡ false
    → (up_to w q).losses ≡ w.losses + 1
up-far {w} q h e = ap (λ v. v.losses) (up-told w q false (told-by q false h e))

-- how many gaps count
gaps-count : (k : Bool) (p q : ℕ) → count (gaps k p q) ≡ full_count p q + count (rest_gap k (behind_full p q) q)
gaps-count k p q = lost-append (full_gaps p (full_count p q)) (rest_gap k (behind_full p q) q)
    ∙ ap (λ m. m + count (rest_gap k (behind_full p q) q)) (lost-full p (full_count p q))

at-end : (w : Watched) (n p q : ℕ) → Even w n p → Same (count (gaps false p q)) (up_to w q).losses w.losses
at-end w n p q h = go (either (ltb (q - p) block_len))
  where
    go : (ltb (q - p) block_len ≡ true) ⊎ (ltb (q - p) block_len ≡ false)
        → Same (count (gaps false p q)) (up_to w q).losses w.losses
    go (inl e) = record {
      one = λ z. ap (λ v. v.losses) (up-near q h e);
      other = λ z. let a = gaps-count false p q in let b = near-none p q e in let d = lost-cut (behind_full p q)
          q in omega arith;
    }
    go (inr e) = let a = gaps-count false p q in let f = far-some p q e in let u = up-far q h e in more (omega arith)
        (omega arith)

-- behind a report
abbrev all_of : ℕ → ℕ → List Report → ℕ → List Entry
all_of n p r q = account_from n p r ++ gaps false (reached_from p r) q

front-count : (g rest : List Entry) (x : Report) (tail : List Entry)
    → count ((g ++ reported x ∷ rest) ++ tail) ≡ count g + count (rest ++ tail)
front-count g rest x tail =
    ap count (append_assoc g (reported x ∷ rest) tail) ∙ lost-append g (reported x ∷ (rest ++ tail))

some-more : {a d m : ℕ} (b : ℕ) → 0 < a → m < d → Same (a + b) d m
some-more b h g = more (omega arith) g

same-on : {a b d m k : ℕ} → a ≡ 0 → k ≡ m → Same b d k → Same (a + b) d m
same-on e f s = record { one = λ z. s.one (omega arith) ∙ f; other = λ z. let t = s.other (z ∙ sym f) in omega arith }

same-is : {a a' b m : ℕ} → a ≡ a' → Same a' b m → Same a b m
same-is e s = record { one = λ z. s.one (sym e ∙ z); other = λ z. e ∙ s.other z }

-- what a line and its account come to from here on
abbrev Goes : List Report → ℕ → Watched → ℕ → ℕ → Type 0
Goes r q w n p = Same (count (all_of n p r q)) (up_to (behind_reports w r) q).losses w.losses

lost-on : (v : Watched) (r : List Report) (q m : ℕ) → m < v.losses → m < (up_to (behind_reports v r) q).losses
lost-on v r q m h = let b = behind-more v r in let t = up-losses (behind_reports v r) q in omega arith

-- behind a report of no whole block
other-step : (w : Watched) (n p q at : ℕ) (r : List Report) → Even w n p
    → ((v : Watched) (m k : ℕ) → Even v m k → Goes r q v m k)
    → Same (full_count p at + count (all_of (n + 0) (behind_full p at) r q))
    (up_to (behind_reports (up_to w at) r) q).losses w.losses
other-step w n p q at r h rec = go (either (ltb (at - p) block_len))
  where
    even : ltb (at - p) block_len ≡ true → Even w (n + 0) (behind_full p at)
    even e = record {
      held = h.held;
      place = h.place ∙ sym (behind-none p at (near-none p at e));
      found = h.found ∙ ap (ltb 0) (let z : n ≡ n + 0 = omega arith in z);
    }

    go : (ltb (at - p) block_len ≡ true) ⊎ (ltb (at - p) block_len ≡ false)
        → Same (full_count p at + count (all_of (n + 0) (behind_full p at) r q))
        (up_to (behind_reports (up_to w at) r) q).losses w.losses
    go (inl e) =
        same-on (near-none p at e) (ap (λ v. v.losses) (up-near at h e))
        (rec (up_to w at) (n + 0) (behind_full p at)
        (subst (λ v. Even v (n + 0) (behind_full p at)) (sym (up-near at h e)) (even e)))
    go (inr e) = let u = up-far at h e in some-more _ (far-some p at e)
        (lost-on (up_to w at) r q w.losses (omega arith))

-- behind a whole block
rest-count : (k : Bool) (p q : ℕ) → count (rest_gap k p q) ≡ cond (k && ltb p q) 1 0
rest-count k p q = go k (ltb p q)
  where
    go : (k b : Bool) → count (cond b (kind k p (q - p) ∷ []) []) ≡ cond (k && b) 1 0
    go true true = refl
    go true false = refl
    go false true = refl
    go false false = refl

slips-is : {w : Watched} {n p : ℕ} (at : ℕ) → Even w n p → slips w at ≡ (ltb 0 n && ltb p at)
slips-is {w} {n} at h =
    ap₂ (λ (x y : Bool). x && (not y && ltb w.place at)) h.found h.held ∙ ap (λ (v : ℕ). ltb 0 n && ltb v at) h.place

near-count : {w : Watched} {n p : ℕ} (at : ℕ) → Even w n p → ltb (at - p) block_len ≡ true
    → count (gaps (ltb 0 n) p at) ≡ cond (slips w at) 1 0
near-count {w} {n} {p} at h e =
    let a = gaps-count (ltb 0 n) p at in
    let b = near-none p at e in
    let c : count (rest_gap (ltb 0 n) (behind_full p at) at) ≡ cond (slips w at) 1 0 =
    ap (λ y. count (rest_gap (ltb 0 n) y at)) (behind-none p at b) ∙ rest-count (ltb 0 n) p at
    ∙ ap (λ (x : Bool). cond {A = ℕ} x 1 0) (sym (slips-is at h)) in
    omega arith

whole-step : (w : Watched) (n p q at : ℕ) (now : Signals) (r : List Report) → Even w n p
    → ((v : Watched) (m k : ℕ) → Even v m k → Goes r q v m k)
    → Same (count (gaps (ltb 0 n) p at) + count (all_of (n + 1) (at + block_len) r q))
    (up_to (behind_reports (behind_whole (up_to w at) at now) r) q).losses w.losses
whole-step w n p q at now r h rec = go (either (ltb (at - p) block_len))
  where
    even : Even (behind_whole (up_to w at) at now) (n + 1) (at + block_len)
    even = record { held = refl; place = refl; found = sym (lt-ltb 0 (n + 1) (omega arith)) }

    near : ltb (at - p) block_len ≡ true → (slips w at ≡ true) ⊎ (slips w at ≡ false)
        → Same (count (gaps (ltb 0 n) p at) + count (all_of (n + 1) (at + block_len) r q))
        (up_to (behind_reports (behind_whole (up_to w at) at now) r) q).losses w.losses
    near e (inl s) =
        let l : (behind_whole (up_to w at) at now).losses ≡ w.losses + 1
        = ap (λ v. (behind_whole v at now).losses) (up-near at h e)
        ∙ ap (λ (b : Bool). cond b (w.losses + 1) w.losses) s in
        let c : count (gaps (ltb 0 n) p at) ≡ 1 = near-count at h e ∙ ap (λ (b : Bool). cond {A = ℕ} b 1 0) s in
        some-more _ (omega arith) (lost-on (behind_whole (up_to w at) at now) r q w.losses (omega arith))
    near e (inr s) =
        same-on (near-count at h e ∙ ap (λ (b : Bool). cond {A = ℕ} b 1 0) s)
        (ap (λ v. (behind_whole v at now).losses) (up-near at h e)
        ∙ ap (λ (b : Bool). cond b (w.losses + 1) w.losses) s)
        (rec (behind_whole (up_to w at) at now) (n + 1) (at + block_len) even)

    go : (ltb (at - p) block_len ≡ true) ⊎ (ltb (at - p) block_len ≡ false)
        → Same (count (gaps (ltb 0 n) p at) + count (all_of (n + 1) (at + block_len) r q))
        (up_to (behind_reports (behind_whole (up_to w at) at now) r) q).losses w.losses
    go (inl e) = near e (either (slips w at))
    go (inr e) =
        let u = up-far at h e in
        let m = whole-more (up_to w at) at now in
        let c = gaps-count (ltb 0 n) p at in
        let f = far-some p at e in
        some-more _ (omega arith) (lost-on (behind_whole (up_to w at) at now) r q w.losses (omega arith))

goes : (r : List Report) (w : Watched) (n p q : ℕ) → Even w n p → Goes r q w n p
goes [] w n p q h = at-end w n p q h
goes (Whole at s b ∷ r) w n p q h =
    same-is (front-count (gaps (ltb 0 n) p at) (account_from (n + 1) (at + block_len) r) (Whole at s b)
    (gaps false (reached_from (at + block_len) r) q))
    (whole-step w n p q at (signals_of b) r h (λ v m k e. goes r v m k q e))
goes (Marked at s wrong ∷ r) w n p q h =
    same-is (front-count (full_gaps p (full_count p at)) (account_from (n + 0) (behind_full p at) r) (Marked at s wrong)
    (gaps false (reached_from (behind_full p at) r) q)
    ∙ ap (λ m. m + count (all_of (n + 0) (behind_full p at) r q)) (lost-full p (full_count p at)))
    (other-step w n p q at r h (λ v m k e. goes r v m k q e))
goes (Fault at cell why ∷ r) w n p q h =
    same-is (front-count (full_gaps p (full_count p at)) (account_from (n + 0) (behind_full p at) r) (Fault at cell why)
    (gaps false (reached_from (behind_full p at) r) q)
    ∙ ap (λ m. m + count (all_of (n + 0) (behind_full p at) r q)) (lost-full p (full_count p at)))
    (other-step w n p q at r h (λ v m k e. goes r v m k q e))
goes (Unfinished at cells ∷ r) w n p q h =
    same-is (front-count (full_gaps p (full_count p at)) (account_from (n + 0) (behind_full p at) r)
    (Unfinished at cells) (gaps false (reached_from (behind_full p at) r) q)
    ∙ ap (λ m. m + count (all_of (n + 0) (behind_full p at) r q)) (lost-full p (full_count p at)))
    (other-step w n p q at r h (λ v m k e. goes r v m k q e))

pub losses-are-gaps : (c : List Level)
    → (length (filter is_lost (account c)) ≡ 0 → (ended c).losses ≡ 0)
    × ((ended c).losses ≡ 0 → length (filter is_lost (account c)) ≡ 0)
unfolding account ended
losses-are-gaps c =
    let g = goes (reports c) unwatched 0 0 (length c) (record { held = refl; place = refl; found = refl }) in
    (g.one, g.other)
