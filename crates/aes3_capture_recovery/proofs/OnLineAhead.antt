-- A recovery stays on a line, through edges that were found ahead.
use Rattle.std.proofs.Common.{ℕ, zero, suc, List, [], ◌∷◌, ◌++◌, ◌≡◌, ◌<◌, ◌≤◌, ◌+◌, ◌-◌, map, take, drop, length}
use Rattle.std.proofs.Common.{refl, sym, ap, ap₂, ◌∙◌, subst, arith, append_assoc}
use Rattle.std.proofs.lemmas.List.{drop-take, take-append-drop}
use Rattle.aes3_level.specs.declared.level.Level.{Level}
use Rattle.aes3_level.specs.Cells.{after, other}
use Rattle.aes3_capture.specs.declared.follower.Bounds.{Bounds}
use Rattle.aes3_capture.specs.Following.{Tracked, middle_of}
use Rattle.aes3_capture_recovery.specs.Distances.{distance_at, spread_after}
use Rattle.aes3_capture_recovery.specs.Endings.{level_if}
use Rattle.aes3_capture_recovery.specs.Keeping.{IsKept, IsOnLine, StaysKept, StaysOnLine}
use Rattle.aes3_capture_recovery.specs.Recovering.{runs_to_end}
use Rattle.aes3_capture_recovery.specs.declared.recovery.Recovery.{Recovery}
use Rattle.aes3_capture_recovery.specs.declared.recovery.State.TheVariants.{Following}
use Rattle.aes3_capture_recovery.proofs.Ahead.{ArePlaced}
use Rattle.aes3_capture_recovery.proofs.OnLine.{end-some, kept-tracked}
use Rattle.aes3_capture_recovery.proofs.Turning.{turned-runs}

-- nothing was taken
pub stays-none : (now : Recovery) (narrow : Bounds) (spread : ℕ) (ahead : List ℕ) → now.state ≡ Following
    → IsKept now.line.follower now.spread narrow spread ahead → StaysKept narrow spread ahead now now
stays-none now narrow spread ahead is k = record { state = is; measured = refl; bounds = refl; kept = k }

-- one step behind another
pub stays-chain : (old mid new : Recovery) (narrow : Bounds) (spread : ℕ) (between ahead : List ℕ)
    → StaysKept narrow spread between old mid → StaysKept narrow spread ahead mid new → StaysKept narrow spread ahead old new
stays-chain old mid new narrow spread between ahead a b = record {
  state = b.state;
  measured = b.measured ∙ a.measured;
  bounds = b.bounds ∙ a.bounds;
  kept = b.kept;
}

-- some of those from a place on
drop-none : (n : ℕ) → drop {A = ℕ} n [] ≡ []
drop-none zero = refl
drop-none (suc n) = refl

drop-more : (m n : ℕ) (xs : List ℕ) → drop n (drop m xs) ≡ drop (m + n) xs
drop-more zero n xs = ap (λ k. drop k xs) (let e : n ≡ zero + n = omega arith in e)
drop-more (suc m) n [] = drop-none n ∙ sym (drop-none (suc m + n))
drop-more (suc m) n (x ∷ xs) =
    drop-more m n xs ∙ ap (λ k. drop k (x ∷ xs)) (let e : suc (m + n) ≡ suc m + n = omega arith in e)

first-left : (xs : List ℕ) (at count run : ℕ) → at < count → count ≤ length xs → take 1 (drop at xs) ≡ run ∷ []
    → drop at (take count xs) ≡ run ∷ drop (at + 1) (take count xs)
first-left [] at count run below room e = absurd (omega (arith, below, room))
first-left (x ∷ xs) at zero run below room e = absurd (omega (arith, below))
first-left (x ∷ xs) zero (suc count) run below room e =
    let head : x ≡ run = cc in ap (λ y. y ∷ take count xs) head
first-left (x ∷ xs) (suc at) (suc count) run below room e =
    first-left xs at count run (omega (arith, below)) (omega (arith, room)) e
    ∙ ap (λ k. run ∷ drop k (x ∷ take count xs)) (let e : suc (at + 1) ≡ suc at + 1 = omega arith in e)

-- edges that are tracked
pub stays-tracked : (old new : Recovery) (narrow : Bounds) (spread middle at count n : ℕ)
    (all runs cells places each more : List ℕ)
    → old.state ≡ Following → new.state ≡ old.state → new.figures.measured ≡ old.figures.measured → at ≤ count
    → runs ≡ take (count - at) (drop at all)
    → Tracked old.line.follower (take n runs) cells places new.line.follower → middle ≡ middle_of old.line.follower.bounds
    → each ≡ map (distance_at middle) places → new.spread ≡ spread_after old.spread each
    → IsKept old.line.follower old.spread narrow spread (drop at (take count all) ++ more)
    → StaysKept narrow spread (drop (at + n) (take count all) ++ more) old new
stays-tracked old new narrow spread middle at count n all runs cells places each more is state measured within runs_are tracked
    middle_is each_is distance k =
    let left : drop at (take count all) ≡ runs
    = ap (λ m. drop at (take m all)) (let e : count ≡ at + (count - at) = omega (arith, within) in e)
    ∙ drop-take at (count - at) all ∙ sym runs_are in
    let rest : drop n runs ≡ drop (at + n) (take count all) = ap (drop n) (sym left) ∙ drop-more at n (take count all) in
    let split : drop at (take count all) ++ more ≡ take n runs ++ (drop (at + n) (take count all) ++ more)
    = ap (λ l. l ++ more) (left ∙ sym (take-append-drop n runs) ∙ ap (λ l. take n runs ++ l) rest)
    ∙ append_assoc (take n runs) (drop (at + n) (take count all)) more in
    let next = kept-tracked old.line.follower new.line.follower old.spread narrow spread middle (take n runs) cells places
    (drop (at + n) (take count all) ++ more) tracked middle_is
    (subst (λ (l : List ℕ). IsKept old.line.follower old.spread narrow spread l) split k) in
    record {
      state = state ∙ is;
      measured = measured;
      bounds = next.1;
      kept = subst (λ d. IsKept new.line.follower d narrow spread (drop (at + n) (take count all) ++ more))
          (sym (distance ∙ ap (spread_after old.spread) each_is)) next.0;
    }

-- one edge by itself
pub stays-single : (old mid new : Recovery) (narrow : Bounds) (spread at count run : ℕ) (all more : List ℕ)
    → mid.line.follower ≡ old.line.follower → mid.spread ≡ old.spread → mid.figures.measured ≡ old.figures.measured
    → at < count → count ≤ length all → take 1 (drop at all) ≡ run ∷ []
    → ((ahead : List ℕ) → IsKept mid.line.follower mid.spread narrow spread (run ∷ ahead)
    → StaysKept narrow spread ahead mid new)
    → IsKept old.line.follower old.spread narrow spread (drop at (take count all) ++ more)
    → StaysKept narrow spread (drop (at + 1) (take count all) ++ more) old new
stays-single old mid new narrow spread at count run all more follower distance measured below room one step k =
    let s = step (drop (at + 1) (take count all) ++ more)
    (rw (follower, distance)
    (subst (λ (l : List ℕ). IsKept old.line.follower old.spread narrow spread (l ++ more)) (first-left all at count run below room one) k)) in
    record {
      state = s.state;
      measured = s.measured ∙ measured;
      bounds = s.bounds ∙ ap (λ f. f.bounds) follower;
      kept = s.kept;
    }

-- the runs of all edges among some samples, and those that are still ahead
record AreSplit (taken others runs : List ℕ) (behind : ℕ) : Type 0 where
  pub rest : List ℕ
  pub runs_are : runs ≡ taken ++ rest
  pub rest_are : others ≡ rest ++ behind ∷ []

split-ahead : (s : Level) (n : ℕ) (xs : List Level) (taken runs : List ℕ) (behind : ℕ)
    → taken ++ runs_to_end s n xs ≡ runs ++ behind ∷ [] → AreSplit taken (runs_to_end s n xs) runs behind
split-ahead s n xs [] runs behind e = record { rest = runs; runs_are = refl; rest_are = e }
split-ahead s n xs (t ∷ taken) [] behind e =
    let none : taken ++ runs_to_end s n xs ≡ [] = cc in absurd (end-some s n xs (nothing taken none))
  where
    nothing : (l : List ℕ) → l ++ runs_to_end s n xs ≡ [] → runs_to_end s n xs ≡ []
    nothing [] e = e
    nothing (x ∷ l) e = cc
split-ahead s n xs (t ∷ taken) (r ∷ runs) behind e =
    let head : r ≡ t = cc in
    let tail : taken ++ runs_to_end s n xs ≡ runs ++ behind ∷ [] = cc in
    let a = split-ahead s n xs taken runs behind tail in
    record { rest = a.rest; runs_are = ap₂ (λ x l. x ∷ l) head a.runs_are; rest_are = a.rest_are }

pub on-line-ahead : (old mid new : Recovery) (narrow : Bounds) (spread : ℕ) (levels more : List Level) (runs : List ℕ)
    (from behind : ℕ) → ArePlaced old.line.edges levels runs from behind
    → level_if new.line.edges.high ≡ other (after (other (level_if old.line.edges.high)) runs)
    → new.line.edges.run ≡ behind → new.line.follower ≡ mid.line.follower → new.spread ≡ mid.spread → new.state ≡ mid.state
    → new.figures.measured ≡ mid.figures.measured → 1 ≤ new.figures.samples
    → ((ahead : List ℕ) → IsKept old.line.follower old.spread narrow spread (runs ++ ahead)
    → StaysKept narrow spread ahead old mid)
    → IsOnLine narrow spread (levels ++ more) old → StaysOnLine narrow spread more old new
on-line-ahead old mid new narrow spread levels more runs from behind p high run follower distance state measured some step w =
    let near = p.near in
    let s : Level = level_if old.line.edges.high in
    let t : Level = level_if new.line.edges.high in
    let all : runs_to_end s old.line.edges.run (levels ++ more) ≡ runs ++ runs_to_end t new.line.edges.run more
    = ap (λ n. runs_to_end s n (levels ++ more)) (let e : old.line.edges.run ≡ 128 - from = omega (arith, near) in e)
    ∙ turned-runs s 128 from levels more (omega (arith, near))
    ∙ ap₂ (λ l n. l ++ runs_to_end (other (after (other s) l)) n more) (sym p.runs_are) (sym p.behind_is ∙ sym run)
    ∙ ap (λ l. runs ++ runs_to_end l new.line.edges.run more) (sym high) in
    let a = split-ahead t new.line.edges.run more runs w.runs w.behind (sym all ∙ w.runs_are) in
    let stays = step a.rest (subst (λ (l : List ℕ). IsKept old.line.follower old.spread narrow spread l) a.runs_are w.kept) in
    record {
      on = record {
        state = state ∙ stays.state;
        some = some;
        runs = a.rest;
        behind = w.behind;
        runs_are = a.rest_are;
        alive = rw (follower, stays.bounds) w.alive;
        kept = rw (follower, distance) stays.kept;
      };
      measured = measured ∙ stays.measured;
    }

-- Nothing was taken.
pub on-line-none : (now : Recovery) (narrow : Bounds) (spread : ℕ) (ahead : List Level) → IsOnLine narrow spread ahead now
    → StaysOnLine narrow spread ahead now now
on-line-none now narrow spread ahead w = record { on = w; measured = refl }

-- Cells were passed on, and the line is as it was.
pub on-line-passed : (old new : Recovery) (narrow : Bounds) (spread : ℕ) (ahead : List Level) → new.line.edges ≡ old.line.edges
    → new.line.follower ≡ old.line.follower → new.spread ≡ old.spread → new.state ≡ old.state → new.figures ≡ old.figures
    → IsOnLine narrow spread ahead old → StaysOnLine narrow spread ahead old new
on-line-passed old new narrow spread ahead edges follower distance state figures w = record {
  on = record {
    state = state ∙ w.state;
    some = let some = w.some in let same = ap (λ f. f.samples) figures in omega (arith, some, same);
    runs = w.runs;
    behind = w.behind;
    runs_are = ap (λ e. runs_to_end (level_if e.high) e.run ahead) edges ∙ w.runs_are;
    alive = rw follower w.alive;
    kept = rw (follower, distance) w.kept;
  };
  measured = ap (λ f. f.measured) figures;
}
