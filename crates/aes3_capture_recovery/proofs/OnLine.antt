-- A recovery stays on a line, through the edges of a piece and to its end.
use Rattle.std.proofs.Common.{ℕ, suc, List, [], ◌∷◌, ◌++◌, ◌≡◌, ◌<◌, ◌≤◌, ◌+◌, ◌-◌, ◌*◌, ◌/◌, ◌^◌, min, map, replicate}
use Rattle.std.proofs.Common.{refl, sym, ap, ap₂, ◌∙◌, subst, arith, append_assoc}
use Rattle.std.proofs.Common.{Result, IfOk}
use Rattle.aes3_level.specs.declared.level.Level.{Level}
use Rattle.aes3_level.specs.declared.level.Level.TheVariants.{Low, High}
use Rattle.aes3_level.specs.Cells.{other}
use Rattle.aes3_capture.specs.declared.follower.Bounds.{Bounds}
use Rattle.aes3_capture.specs.declared.follower.Follower.{Follower}
use Rattle.aes3_capture.specs.Following.{Counted, Tracked, middle_of}
use Rattle.aes3_capture_recovery.specs.Distances.{distance_at, spread_after}
use Rattle.aes3_capture_recovery.specs.Endings.{level_if}
use Rattle.aes3_capture_recovery.specs.Keeping.{IsKept, IsOnLine, StaysKept, StaysOnLine}
use Rattle.aes3_capture_recovery.specs.Recovering.{runs_to_end}
use Rattle.aes3_capture_recovery.specs.RecoverySteps.{Noted, distance_of}
use Rattle.aes3_capture_recovery.specs.Runs.{EdgeCame, NoEdgeCame, levels_in}
use Rattle.aes3_capture_recovery.specs.declared.edges.Piece.{Piece}
use Rattle.aes3_capture_recovery.specs.declared.recovery.Recovery.{Recovery}
use Rattle.aes3_capture_recovery.specs.declared.recovery.State.TheVariants.{Following}
use Rattle.aes3_capture_recovery.proofs.Keeping.{kept-next, kept-short}
use Rattle.aes3_capture_recovery.proofs.RunsToEnd.{end-edge, end-same}
use Rattle.aes3_capture_recovery.proofs.Telling.{ok-const}

-- An edge that is counted and noted.
pub stays-noted : (old mid new : Recovery) (run n : ℕ) (narrow : Bounds) (spread : ℕ) (ahead : List ℕ) → old.state ≡ Following
    → Counted old.line.follower run n new.line.follower → Noted mid new
    → mid.state ≡ old.state → mid.spread ≡ old.spread → mid.figures.measured ≡ old.figures.measured
    → IsKept old.line.follower old.spread narrow spread (run ∷ ahead) → StaysKept narrow spread ahead old new
stays-noted old mid new run n narrow spread ahead is counted noted state mean measured k =
    let distance = noted.spread in
    let next = kept-next old.line.follower new.line.follower old.spread new.spread narrow spread run n ahead counted
    (omega (arith, distance, mean)) k in
    record {
      state = noted.kept next.fine.near next.fine.together ∙ state ∙ is;
      measured = noted.keeps.measured_is ∙ measured;
      bounds = counted.turned.bounds_is ∙ counted.passed.bounds_is;
      kept = next.kept;
    }

-- Edges that are tracked.
pub kept-tracked : (f g : Follower) (distance : ℕ) (narrow : Bounds) (spread middle : ℕ) (runs cells places ahead : List ℕ)
    → Tracked f runs cells places g → middle ≡ middle_of f.bounds → IsKept f distance narrow spread (runs ++ ahead)
    → IsKept g (spread_after distance (map (distance_at middle) places)) narrow spread ahead × (g.bounds ≡ f.bounds)
kept-tracked f g distance narrow spread middle [] [] [] ahead t is k =
    (subst (λ (x : Follower). IsKept x distance narrow spread ahead) (sym t) k, ap (λ x. x.bounds) t)
kept-tracked f g distance narrow spread middle [] [] (p ∷ places) ahead t is k = absurd t
kept-tracked f g distance narrow spread middle [] (n ∷ cells) places ahead t is k = absurd t
kept-tracked f g distance narrow spread middle (r ∷ runs) [] places ahead t is k = absurd t
kept-tracked f g distance narrow spread middle (r ∷ runs) (n ∷ cells) [] ahead t is k = absurd t
kept-tracked f g distance narrow spread middle (r ∷ runs) (n ∷ cells) (p ∷ places) ahead t is k =
    let bounds : t.0.bounds ≡ f.bounds = t.1.bounds_is in
    let middle_is : middle ≡ middle_of t.0.bounds = rw bounds is in
    let edge : distance_of t.0 ≡ distance_at middle p = rw (← t.2, middle_is) refl in
    let next = kept-next f t.0 distance (min (distance - distance / 256 + distance_at middle p) (2 ^ 32)) narrow spread r n
    (runs ++ ahead) t.1.counted (omega (arith, edge)) k in
    let rest = kept-tracked t.0 g (min (distance - distance / 256 + distance_at middle p) (2 ^ 32)) narrow spread middle runs cells
    places ahead t.3 middle_is next.kept in
    (rest.0, rest.1 ∙ bounds)

-- The last run is no shorter than the samples that came of it.
pub end-least : (s : Level) (n : ℕ) (xs : List Level) (y : ℕ) (ys : List ℕ) → runs_to_end s n xs ≡ y ∷ ys → n ≤ y
end-least Low n [] y ys e = let h : n ≡ y = cc in omega (arith, h)
end-least High n [] y ys e = let h : n ≡ y = cc in omega (arith, h)
end-least Low n (Low ∷ xs) y ys e = let h = end-least Low (suc n) xs y ys e in omega (arith, h)
end-least High n (High ∷ xs) y ys e = let h = end-least High (suc n) xs y ys e in omega (arith, h)
end-least Low n (High ∷ xs) y ys e = let h : n ≡ y = cc in omega (arith, h)
end-least High n (Low ∷ xs) y ys e = let h : n ≡ y = cc in omega (arith, h)

-- there is one
pub end-some : (s : Level) (n : ℕ) (xs : List Level) → runs_to_end s n xs ≡ [] → ⊥
end-some Low n [] e = cc
end-some High n [] e = cc
end-some Low n (Low ∷ xs) e = end-some Low (suc n) xs e
end-some High n (High ∷ xs) e = end-some High (suc n) xs e
end-some Low n (High ∷ xs) e = cc
end-some High n (Low ∷ xs) e = cc

-- the runs ahead of a first one
record AreAhead (run : ℕ) (others runs : List ℕ) (behind : ℕ) : Type 0 where
  pub rest : List ℕ
  pub first : runs ≡ run ∷ rest
  pub rest_are : others ≡ rest ++ behind ∷ []

first-ahead : (s : Level) (n : ℕ) (xs : List Level) (run : ℕ) (runs : List ℕ) (behind : ℕ)
    → run ∷ runs_to_end s n xs ≡ runs ++ behind ∷ [] → AreAhead run (runs_to_end s n xs) runs behind
first-ahead s n xs run [] behind e =
    let none : runs_to_end s n xs ≡ [] = cc in absurd (end-some s n xs none)
first-ahead s n xs run (r ∷ runs) behind e =
    let head : r ≡ run = cc in
    record {
      rest = runs;
      first = ap (λ x. x ∷ runs) head;
      rest_are = (let tail : runs_to_end s n xs ≡ runs ++ behind ∷ [] = cc in tail);
    }

-- the runs of levels in which an edge comes
edge-ahead : (s t : Level) (run samples : ℕ) (xs ys zs : List Level) → t ≡ other s → xs ≡ replicate samples s ++ t ∷ ys
    → runs_to_end s run (xs ++ zs) ≡ (run + samples) ∷ runs_to_end t 1 (ys ++ zs)
edge-ahead s t run samples xs ys zs turned is =
    ap (λ x. runs_to_end s run (x ++ zs)) (is ∙ ap (λ x. replicate samples s ++ x ∷ ys) turned)
    ∙ ap (runs_to_end s run) (append_assoc (replicate samples s) (other s ∷ ys) zs)
    ∙ end-same s run samples (other s ∷ (ys ++ zs))
    ∙ end-edge s (run + samples) (ys ++ zs)
    ∙ ap (λ x. (run + samples) ∷ runs_to_end x 1 (ys ++ zs)) (sym turned)

-- An edge comes.
pub on-line-edge : (old mid new : Recovery) (piece left : Piece) (run : ℕ) (narrow : Bounds) (spread : ℕ) (more : List Level)
    → piece.len ≤ 64 → EdgeCame old.line.edges piece run mid.line.edges left → mid.line.follower ≡ old.line.follower
    → mid.spread ≡ old.spread → mid.figures.measured ≡ old.figures.measured → new.line.edges ≡ mid.line.edges
    → new.figures.samples ≡ old.figures.samples
    → ((ahead : List ℕ) → IsKept mid.line.follower mid.spread narrow spread (run ∷ ahead)
    → StaysKept narrow spread ahead mid new)
    → IsOnLine narrow spread (levels_in piece ++ more) old → StaysOnLine narrow spread (levels_in left ++ more) old new
on-line-edge old mid new piece left run narrow spread more few e follower mean measured edges samples step w =
    let s : Level = level_if old.line.edges.high in
    let t : Level = level_if mid.line.edges.high in
    let a = first-ahead t 1 (levels_in left ++ more) (old.line.edges.run + e.samples) w.runs w.behind
    (sym (edge-ahead s t old.line.edges.run e.samples (levels_in piece) (levels_in left) more e.turned e.levels) ∙ w.runs_are) in
    let kept : IsKept old.line.follower old.spread narrow spread ((old.line.edges.run + e.samples) ∷ a.rest)
    = subst (λ (x : List ℕ). IsKept old.line.follower old.spread narrow spread x) a.first w.kept in
    let short = kept-short old.line.follower old.spread narrow spread (old.line.edges.run + e.samples) a.rest kept in
    let most = old.line.follower.bounds.most in
    let run_is = e.run_is in
    let exact : run ≡ old.line.edges.run + e.samples = omega (arith, short, most, run_is) in
    let stays = step a.rest (rw (follower, mean, exact) kept) in
    let some = w.some in
    record {
      on = record {
        state = stays.state;
        some = omega (arith, some, samples);
        runs = a.rest;
        behind = w.behind;
        runs_are = ap (λ x. runs_to_end (level_if x.high) x.run (levels_in left ++ more)) edges
            ∙ ap (λ n. runs_to_end t n (levels_in left ++ more)) e.next ∙ a.rest_are;
        alive = rw (stays.bounds, follower) w.alive;
        kept = stays.kept;
      };
      measured = stays.measured ∙ measured;
    }

-- No edge comes.
pub on-line-rest : (old mid : Recovery) (piece : Piece) (narrow : Bounds) (spread : ℕ) (more : List Level)
    → piece.len ≤ 64 → NoEdgeCame old.line.edges piece mid.line.edges → mid.line.follower ≡ old.line.follower
    → mid.spread ≡ old.spread → mid.state ≡ old.state → mid.figures.samples ≡ old.figures.samples
    → IsOnLine narrow spread (levels_in piece ++ more) old
    → IsOnLine narrow spread more mid × (1024 * mid.line.edges.run < mid.line.follower.bounds.low)
on-line-rest old mid piece narrow spread more few e follower mean state samples w =
    let s : Level = level_if old.line.edges.high in
    let are : runs_to_end s (old.line.edges.run + piece.len) more ≡ w.runs ++ w.behind ∷ []
    = sym (end-same s old.line.edges.run piece.len more) ∙ ap (λ x. runs_to_end s old.line.edges.run (x ++ more)) (sym e.levels)
    ∙ w.runs_are in
    let alive : 1024 * (old.line.edges.run + piece.len) < old.line.follower.bounds.low = waits w.runs w.kept are in
    let most = old.line.follower.bounds.most in
    let run_is = e.run_is in
    let exact : mid.line.edges.run ≡ old.line.edges.run + piece.len = omega (arith, alive, most, run_is) in (
      record {
        state = state ∙ w.state;
        some = (let some = w.some in omega (arith, some, samples));
        runs = w.runs;
        behind = w.behind;
        runs_are = ap₂ (λ h n. runs_to_end (level_if h) n more) e.same exact ∙ are;
        alive = rw follower w.alive;
        kept = rw (follower, mean) w.kept;
      },
      rw (follower, exact) alive,
    )
  where
    waits : (runs : List ℕ) → IsKept old.line.follower old.spread narrow spread runs
        → runs_to_end (level_if old.line.edges.high) (old.line.edges.run + piece.len) more ≡ runs ++ w.behind ∷ []
        → 1024 * (old.line.edges.run + piece.len) < old.line.follower.bounds.low
    waits [] kept are =
        let least = end-least (level_if old.line.edges.high) (old.line.edges.run + piece.len) more w.behind [] are in
        let alive = w.alive in omega (arith, least, alive)
    waits (r ∷ runs) kept are =
        let least = end-least (level_if old.line.edges.high) (old.line.edges.run + piece.len) more r (runs ++ w.behind ∷ []) are in
        let short = kept-short old.line.follower old.spread narrow spread r runs kept in omega (arith, least, short)

-- Samples are counted, and the line is as it was.
pub on-line-same : (old new : Recovery) (narrow : Bounds) (spread : ℕ) (ahead : List Level) → new.line ≡ old.line
    → new.spread ≡ old.spread → new.state ≡ old.state → 1 ≤ new.figures.samples
    → IsOnLine narrow spread ahead old → IsOnLine narrow spread ahead new
on-line-same old new narrow spread ahead same mean state some w = record {
  state = state ∙ w.state;
  some = some;
  runs = w.runs;
  behind = w.behind;
  runs_are = ap (λ l. runs_to_end (level_if l.edges.high) l.edges.run ahead) same ∙ w.runs_are;
  alive = rw same w.alive;
  kept = rw (same, mean) w.kept;
}

-- The end of a piece.
pub on-line-end : {R E : Type 0} (r : Result R E) (start old mid new : Recovery) (piece : Piece) (narrow : Bounds) (spread : ℕ)
    (more : List Level)
    → piece.len ≤ 64 → NoEdgeCame old.line.edges piece mid.line.edges → mid.line.follower ≡ old.line.follower
    → mid.spread ≡ old.spread → mid.state ≡ old.state → mid.figures ≡ old.figures
    → (1024 * mid.line.edges.run < mid.line.follower.bounds.low → new ≡ mid)
    → StaysOnLine narrow spread (levels_in piece ++ more) start old → IfOk r (λ x. StaysOnLine narrow spread more start new)
on-line-end r start old mid new piece narrow spread more few e follower mean state figures awake w =
    let rest = on-line-rest old mid piece narrow spread more few e follower mean state (ap (λ f. f.samples) figures) w.on in
    let same : new ≡ mid = awake rest.1 in
    ok-const r _ (record {
      on = subst (λ (x : Recovery). IsOnLine narrow spread more x) (sym same) rest.0;
      measured = ap (λ x. x.figures.measured) same ∙ ap (λ f. f.measured) figures ∙ w.measured;
    })
