-- A recovery that waits for the runs in which a line is found.
use Rattle.std.proofs.Common.{ℕ, suc, List, [], ◌∷◌, ◌++◌, ◌≡◌, ◌≤◌, ◌<◌, ◌+◌, ◌-◌, ◌*◌, ◌%◌, ◌^◌, ◌⊎◌, inl, inr, min}
use Rattle.std.proofs.Common.{Option, Result, Ok, Err, IfOk, false, length, length-append, replicate, drop}
use Rattle.std.proofs.Common.{refl, sym, ap, ap₂, ◌∙◌, subst, arith, append_assoc, append-nil}
use Rattle.std.proofs.lemmas.List.{length-take-le}
use Rattle.aes3_level.specs.declared.level.Level.{Level}
use Rattle.aes3_level.specs.declared.level.Level.TheVariants.{Low, High}
use Rattle.aes3_level.specs.Cells.{line, other, after}
use Rattle.aes3_level.proofs.Runs.{other-other}
use Rattle.aes3_level.specs.Words.{level_of, low_cells}
use Rattle.aes3_level.proofs.WordCells.{length-low_cells}
use Rattle.aes3_capture.specs.declared.follower.Bounds.{Bounds}
use Rattle.aes3_capture.specs.declared.follower.Follower.{Follower}
use Rattle.aes3_capture_recovery.specs.Beginning.{AreFindable, AreShort, Awaits, BeginsWith, Begun, EndsWith, FollowsFrom, IsKeptSince, IsLastingLine, IsWaiting}
use Rattle.aes3_capture_recovery.specs.Endings.{level_if}
use Rattle.aes3_capture_recovery.specs.Keeping.{IsKept, StaysKept}
use Rattle.aes3_capture_recovery.specs.LineFollowing.{Followed}
use Rattle.aes3_capture_recovery.specs.Recovering.{Holds, Recovered, Setting, StandsOn, first_cells, first_level, runs_to_end, runs_waiting}
use Rattle.aes3_capture_recovery.specs.Queues.{Queued, waiting}
use Rattle.aes3_capture_recovery.specs.RecoverySteps.{Gave, KeepsTold}
use Rattle.aes3_capture_recovery.specs.declared.line_follower.LineFollower.{LineFollower}
use Rattle.aes3_capture_recovery.specs.Runs.{EdgeCame, NoEdgeCame, levels_in, runs_behind}
use Rattle.aes3_capture_recovery.specs.declared.edges.Piece.{Piece}
use Rattle.aes3_capture_recovery.specs.declared.recovery.Recovery.{Recovery}
use Rattle.aes3_capture_recovery.specs.declared.recovery.State.TheVariants.{Following, Measuring, Still}
use Rattle.aes3_capture_recovery.proofs.Beginning.{before-last, begun-edge, behind-to-end, follows-on, none-measured}
use Rattle.aes3_capture_recovery.proofs.Followed.{followed-begins}
use Rattle.aes3_capture_recovery.proofs.Lasting.{begun-kept, kept-awake, lasting-findable, lasting-short}
use Rattle.aes3_capture_recovery.proofs.Recovering.{first-of-word, holds-keeps, nothing, only-one, recovered-begins, recovered-edge, recovered-gave}
use Rattle.aes3_capture_recovery.proofs.Recovering.{recovered-first, recovered-level, recovered-more, recovered-rest, waits-keep}
use Rattle.aes3_capture_recovery.proofs.RunsToEnd.{end-none}
use Rattle.aes3_capture_recovery.proofs.Ahead.{AreTaken, recovered-ahead}
use Rattle.aes3_capture_recovery.proofs.OnLine.{end-least}
use Rattle.aes3_capture_recovery.proofs.Turning.{turned-runs}
use Rattle.aes3_capture_recovery.specs.Turns.{gaps, last_place, turns}
use Rattle.aes3_capture_recovery.proofs.States.{apart, following-or, measuring-apart, still-apart}

-- short runs
shorter : (runs : List ℕ) (a b : ℕ) (more : List ℕ) → a ≤ b → AreShort (runs ++ b ∷ more) → AreShort (runs ++ a ∷ [])
shorter [] a b more few s = (let h = s.0 in omega (arith, h, few), tt)
shorter (r ∷ runs) a b more few s = (s.0, shorter runs a b more few s.1)

latest : (runs : List ℕ) (b : ℕ) → AreShort (runs ++ b ∷ []) → b < 524288
latest [] b s = s.0
latest (r ∷ runs) b s = latest runs b s.1

-- one run more
waiting-more : (runs : List ℕ) (behind n : ℕ) (old new : Recovery) → behind ≤ n
    → (AreShort (drop 1 (runs ++ behind ∷ [])) → length runs ≤ 256 → IsWaiting runs old)
    → (old.state ≡ Still → (new.state ≡ Measuring) × (new.count ≡ old.count) × (new.found ≡ old.found))
    → (old.state ≡ Measuring → old.count + 1 < 256
    → (new.state ≡ Measuring) × (new.count ≡ old.count + 1) × (new.found ≡ old.found))
    → AreShort (drop 1 ((runs ++ n ∷ []) ++ 1 ∷ [])) → length (runs ++ n ∷ []) ≤ 256
    → IsWaiting (runs ++ n ∷ []) new
waiting-more [] behind n old new few waits still gathers short long =
    let w = waits tt (omega arith) in
    let was = w.none refl in
    let is = still was.0 in
    let count : new.count ≡ 0 = is.1 ∙ was.1 in
    record {
      unfound = is.2 ∙ w.unfound;
      none = λ e. cc;
      some = λ some. (is.0, omega (arith, count));
    }
waiting-more (r ∷ runs) behind n old new few waits still gathers short long =
    let short1 : AreShort (runs ++ n ∷ 1 ∷ []) = subst AreShort (append_assoc runs (n ∷ []) (1 ∷ [])) short in
    let many : length (r ∷ (runs ++ n ∷ [])) ≡ 1 + (length runs + 1)
    = let e = length-append runs (n ∷ []) in omega (arith, e) in
    let w = waits (shorter runs behind n (1 ∷ []) few short1) (omega (arith, many, long)) in
    let was = w.some (omega arith) in
    let count = was.1 in
    let is = gathers was.0 (omega (arith, count, many, long)) in
    let next = is.1 in
    record {
      unfound = is.2 ∙ w.unfound;
      none = λ e. cc;
      some = λ some. (is.0, omega (arith, next, count, many));
    }

-- where the last one is
split-last : (xs : List ℕ) (n : ℕ) (ys more : List ℕ) → xs ++ n ∷ [] ≡ ys ++ more
    → (more ≡ []) ⊎ ((rest : List ℕ) × (xs ≡ ys ++ rest))
split-last xs n [] more e = inr (xs, refl)
split-last [] n (y ∷ ys) more e = inl ((nothing ys more (let z : ys ++ more ≡ [] = cc in z)).1)
split-last (x ∷ xs) n (y ∷ ys) more e =
    let head : x ≡ y = cc in
    let tail : xs ++ n ∷ [] ≡ ys ++ more = cc in
    elim (split-last xs n ys more tail) [
      | inl z ↦ inl z
      | inr r ↦ inr (r.0, ap₂ (λ a l. a ∷ l) head r.1)
    ]

last-of : (xs : List ℕ) (first : ℕ) (window : List ℕ) (n : ℕ) → 1 ≤ length window → xs ++ n ∷ [] ≡ first ∷ window
    → (rest : List ℕ) × (xs ≡ first ∷ rest) × (window ≡ rest ++ n ∷ [])
last-of [] first [] n some e = absurd (omega (arith, some))
last-of [] first (x ∷ window) n some e = cc
last-of (x ∷ xs) first window n some e =
    let head : x ≡ first = cc in
    let tail : xs ++ n ∷ [] ≡ window = cc in
    (xs, ap (λ a. a ∷ xs) head, sym tail)

-- one list behind another, by how long it is
only-first : (done waits rest : List ℕ) (first : ℕ) → done ++ waits ≡ first ∷ rest → length waits ≡ length rest
    → (done ≡ first ∷ []) × (waits ≡ rest)
only-first [] waits rest first e many =
    let all : length waits ≡ length (first ∷ rest) = ap length e in absurd (omega (arith, all, many))
only-first (d ∷ []) waits rest first e many = ((let z : d ∷ [] ≡ first ∷ [] = cc in z), (let z : waits ≡ rest = cc in z))
only-first (d ∷ c ∷ done) waits rest first e many =
    let all : length ((d ∷ c ∷ done) ++ waits) ≡ length (first ∷ rest) = ap length e in
    let sum = length-append (d ∷ c ∷ done) waits in absurd (omega (arith, all, many, sum))

-- the runs that wait when the last of those in which a line can be found has come
pub record IsLast (known : Option ℕ) (first : ℕ) (window : List ℕ) (done : List ℕ) (run : ℕ) (now : Recovery)
    : Type 0 where
  pub unfound : now.found ≡ false
  pub measuring : now.state ≡ Measuring
  pub count : now.count + 1 ≡ 256
  pub one : done ≡ first ∷ []
  pub waits : runs_waiting now ++ run ∷ [] ≡ window

last-run : (told : Option (List ℕ)) (setting : Setting) (seen left : List Level) (now : Recovery) (n run : ℕ)
    (a : Awaits told setting seen left now) (first : ℕ) (window : List ℕ) → now.count ≤ length now.runs
    → a.recovered.behind ≤ n → a.recovered.stands.past + run ≡ n
    → a.recovered.runs ++ n ∷ [] ≡ first ∷ window → AreFindable setting.known window
    → IsLast setting.known first window a.recovered.stands.done run now
last-run told setting seen left now n run a first window within few same is f =
    let w = a.recovered in
    let s = w.stands in
    let many : length window ≡ 256 = sym f.captured.displaced.cells_count ∙ f.captured.many.count in
    let l = last-of w.runs first window n (omega (arith, many)) is in
    let rest : List ℕ = l.0 in
    let runs : w.runs ≡ first ∷ rest = l.1 in
    let parts : window ≡ rest ++ n ∷ [] = l.2 in
    let long : length rest ≡ 255
    = let e : length window ≡ length (rest ++ n ∷ []) = ap length parts in
    let sum = length-append rest (n ∷ []) in omega (arith, e, sum, many) in
    let short : AreShort (rest ++ n ∷ []) = subst AreShort parts f.short in
    let all : length w.runs ≡ 256 = ap length runs ∙ (let z : length (first ∷ rest) ≡ 256 = omega (arith, long) in z) in
    let waits = a.waits
    (subst (λ (x : List ℕ). AreShort (drop 1 (x ++ w.behind ∷ []))) (sym runs)
    (shorter rest w.behind n [] few short)) (omega (arith, all)) in
    let was = waits.some (omega (arith, all)) in
    let count = was.1 in
    let gathered : length (runs_waiting now) ≡ now.count = length-take-le now.count now.runs within in
    let both = only-first s.done (runs_waiting now) rest first (s.runs_are ∙ runs)
    (omega (arith, gathered, count, all, long)) in
    let past : s.past ≡ 0 = s.holds.order.none_past was.0 in
    let last : run ≡ n = omega (arith, past, same) in
    record {
      unfound = waits.unfound;
      measuring = was.0;
      count = omega (arith, count, all);
      one = both.0;
      waits = ap₂ (λ x m. x ++ m ∷ []) both.1 last ∙ sym parts;
    }

no-more-runs : (xs ys : List ℕ) (m : List ℕ) → xs ++ ys ≡ xs ++ m → ys ≡ m
no-more-runs [] ys m e = e
no-more-runs (x ∷ xs) ys m e = no-more-runs xs ys m (let tail : xs ++ ys ≡ xs ++ m = cc in tail)

-- a line that was measured once was followed before, if it is so now
pub measured-once : (old new : Recovery) → old.figures.measured ≤ new.figures.measured
    → ((old.state ≡ Following → ⊥) → new.state ≡ Following → old.figures.measured + 1 < 2 ^ 64
    → old.figures.measured < new.figures.measured)
    → 1 ≤ old.figures.measured → new.state ≡ Following → new.figures.measured ≡ 1
    → (old.state ≡ Following) × (old.figures.measured ≡ 1)
measured-once old new up begun some is one =
    let once : old.figures.measured ≡ 1 = omega (arith, some, up, one) in (
      elim (following-or old.state) [
        | inl e ↦ e
        | inr n ↦ let more = begun n is (omega (arith, once)) in absurd (omega (arith, more, once, one))
      ],
      once,
    )

-- an edge that comes
pub awaits-edge : (told told' : Option (List ℕ)) (setting : Setting) (seen : List Level) (piece left : Piece)
    (run : ℕ) (old mid new : Recovery) (within : old.count ≤ length old.runs) (few : piece.len ≤ 64)
    (e : EdgeCame old.line.edges piece run mid.line.edges left)
    (k : KeepsTold old mid) (state : mid.state ≡ old.state) (edges : new.line.edges ≡ mid.line.edges)
    (same : new.figures.samples ≡ old.figures.samples)
    (edge : (level : Level) (done : List ℕ) (past : ℕ) → Holds told setting level done past mid
    → level_if old.line.edges.high ≡ other (after level (done ++ runs_waiting mid))
    → StandsOn told' setting level ((done ++ runs_waiting mid) ++ (past + run) ∷ []) new.line.edges.run new)
    → (mid.state ≡ Still → (new.state ≡ Measuring) × (new.count ≡ mid.count) × (new.found ≡ mid.found))
    → (mid.state ≡ Measuring → mid.count + 1 < 256
    → (new.state ≡ Measuring) × (new.count ≡ mid.count + 1) × (new.found ≡ mid.found))
    → (mid.state ≡ Measuring → mid.count + 1 ≡ 256 → mid.figures.measured ≡ 0
    → AreFindable mid.known (runs_waiting mid ++ run ∷ []) → (new.state ≡ Following) × (new.figures.measured ≡ 1))
    → old.figures.measured ≤ new.figures.measured
    → (old.found ≡ false → new.state ≡ Following → (level : Level) (done : List ℕ) (past : ℕ)
    → Holds told setting level done past mid
    → level_if old.line.edges.high ≡ other (after level (done ++ runs_waiting mid))
    → Begun told' setting level done (runs_waiting mid ++ (past + run) ∷ []) new)
    → (1 ≤ old.figures.measured → new.state ≡ Following → new.figures.measured ≡ 1
    → (old.state ≡ Following) × (old.figures.measured ≡ 1))
    → (old.state ≡ Following → (front : List Level) (first : Follower) (before : Level) (levels : List Level)
    → Followed told setting.begun front old.line first before levels (levels_in piece)
    → Followed told' setting.begun front new.line first before levels (levels_in left))
    → mid.spread ≡ old.spread
    → (old.state ≡ Following → (narrow : Bounds) (spread : ℕ) (ahead : List ℕ)
    → IsKept mid.line.follower mid.spread narrow spread (run ∷ ahead) → StaysKept narrow spread ahead mid new)
    → Awaits told setting seen (levels_in piece) old → Awaits told' setting seen (levels_in left) new
unfolding recovered-edge
awaits-edge told told' setting seen piece left run old mid new within few e k state edges same edge still gathers starts up
    begins once follows distance keeps a =
    let w = a.recovered in
    let s = w.stands in
    let short = w.short in
    let sum = s.samples_are in
    let n : ℕ = w.behind + e.samples in
    let all : s.past + run ≡ n = omega (arith, few, short, e, sum) in
    let last : (first : ℕ) (window : List ℕ) → w.runs ++ n ∷ [] ≡ first ∷ window → AreFindable setting.known window
    → IsLast setting.known first window s.done run old
    = λ first window is f. last-run told setting seen (levels_in piece) old n run a first window within (omega arith) all
    is f in
    let new_w : Recovered told' setting seen (levels_in left) new
    = recovered-edge told told' setting seen piece left run old mid new few e k state edges same edge w in
    let before : (first : ℕ) (window more : List ℕ) → w.runs ++ n ∷ [] ≡ first ∷ (window ++ more)
    → (w.runs ++ n ∷ [] ≡ first ∷ window) ⊎ ((m : List ℕ) × (w.runs ≡ first ∷ (window ++ m)))
    = λ first window more is. elim (split-last w.runs n (first ∷ window) more is) [
      | inl z ↦ inl (is ∙ ap (λ x. first ∷ (window ++ x)) z ∙ ap (λ x. first ∷ x) (append-nil window))
      | inr r ↦ inr r
    ] in
    let waits : runs_waiting mid ≡ runs_waiting old = waits-keep old mid k in
    let known : mid.known ≡ setting.known = k.known_is ∙ s.holds.told_is.known_is in
    let found_now : (first : ℕ) (window : List ℕ) → w.runs ++ n ∷ [] ≡ first ∷ window → AreFindable setting.known window
    → (new.state ≡ Following) × (new.figures.measured ≡ 1)
    = λ first window now f.
    let l = last first window now f in
    let c = k.count_is in
    let l_count = l.count in
    starts (state ∙ l.measuring) (omega (arith, c, l_count))
    (k.measured_is ∙ none-measured told setting seen (levels_in piece) old w l.unfound)
    (subst (λ (x : List ℕ). AreFindable mid.known x) (sym (ap (λ x. x ++ run ∷ []) waits ∙ l.waits))
    (subst (λ (x : Option ℕ). AreFindable x window) (sym known) f)) in
    record {
      recovered = new_w;
      waits = λ h long. waiting-more w.runs w.behind n old new (omega arith) a.waits
          (λ was. let t = still (state ∙ was) in (t.0, t.1 ∙ k.count_is, t.2 ∙ k.found_is))
          (λ was below.
          let c = k.count_is in
          let t = gathers (state ∙ was) (omega (arith, c, below)) in
          (t.0, t.1 ∙ ap (λ x. x + 1) c, t.2 ∙ k.found_is))
          h long;
      finds = λ first window more is f. elim (before first window more is) [
        | inl now ↦
            let one = (found_now first window now f).1 in omega (arith, one)
        | inr m ↦ let was = a.finds first window m.0 m.1 f in omega (arith, was, up)
      ];
      starts = λ first window is f near. found_now first window is f;
      joins = λ is one first window more runs f. elim (before first window more runs) [
        | inl now ↦
            let l = last first window now f in
            let past : s.past ≡ 0 = s.holds.order.none_past l.measuring in
            subst (λ (x : List ℕ). FollowsFrom told' setting w.level (first ∷ []) x seen (levels_in left) new)
            (ap₂ (λ x m. x ++ m ∷ []) waits (let z : s.past + run ≡ run = omega (arith, past) in z) ∙ l.waits)
            (subst (λ (x : List ℕ). FollowsFrom told' setting w.level x (runs_waiting mid ++ (s.past + run) ∷ []) seen
            (levels_in left) new) l.one
            (begun-edge told told' setting seen piece left run old mid new few e k state edges
            (λ level done past h t. begins l.unfound is level done past h t) w))
        | inr m ↦
            let o = once (a.finds first window m.0 m.1 f) is one in
            follows-on told told' setting w.level (first ∷ []) window seen (levels_in piece) (levels_in left) old new
            (follows o.0) (a.joins o.0 o.1 first window m.0 m.1 f)
      ];
      stays = λ narrow spread first counts window others ahead is l alive.
          elim (split-last w.runs n (first ∷ window) others is) [
            | inl none ↦
                let now : w.runs ++ n ∷ [] ≡ first ∷ window
                = is ∙ ap (λ x. first ∷ (window ++ x)) none ∙ ap (λ x. first ∷ x) (append-nil window) in
                let f = lasting-findable setting.known narrow spread counts window (others ++ ahead) l in
                let found = found_now first window now f in
                let one = last first window now f in
                let past : s.past ≡ 0 = s.holds.order.none_past one.measuring in
                let runs : s.done ++ runs_waiting mid ≡ w.runs = ap (λ x. s.done ++ x) waits ∙ s.runs_are in
                let b = begins one.unfound found.0 w.level s.done s.past
                (holds-keeps told setting w.level s.done s.past old mid k state s.holds)
                (s.turns ∙ ap (λ x. other (after w.level x)) (sym runs)) in
                let begun : Begun told' setting w.level s.done window new
                = subst (λ (x : List ℕ). Begun told' setting w.level s.done x new)
                (ap₂ (λ x m. x ++ m ∷ []) waits (let z : s.past + run ≡ run = omega (arith, past) in z) ∙ one.waits) b in
                record {
                  state = found.0;
                  once = found.1;
                  kept = subst (λ (x : List ℕ). IsKept new.line.follower new.spread narrow spread (x ++ ahead)) none
                      (begun-kept told' setting w.level narrow spread s.done window counts (others ++ ahead) new begun l);
                }
            | inr r ↦
                let more : others ≡ r.0 ++ n ∷ []
                = no-more-runs (first ∷ window) others (r.0 ++ n ∷ [])
                (sym is ∙ ap (λ x. x ++ n ∷ []) r.1 ∙ append_assoc (first ∷ window) r.0 (n ∷ [])) in
                let on : IsLastingLine setting.known narrow spread counts window (r.0 ++ n ∷ ahead)
                = subst (λ (x : List ℕ). IsLastingLine setting.known narrow spread counts window x)
                (ap (λ x. x ++ ahead) more ∙ append_assoc r.0 (n ∷ []) ahead) l in
                let short = lasting-short setting.known narrow spread counts window r.0 ahead n on in
                let was = a.stays narrow spread first counts window r.0 (n ∷ ahead) r.1 on (omega (arith, short)) in
                let past : s.past ≡ 0 = s.holds.order.none_followed was.state in
                let whole : n ≡ run = omega (arith, past, all) in
                let next = keeps was.state narrow spread ahead
                (rw (k.follower_is, distance)
                (subst (λ m. IsKept old.line.follower old.spread narrow spread (m ∷ ahead)) whole was.kept)) in
                record {
                  state = next.state;
                  once = next.measured ∙ k.measured_is ∙ was.once;
                  kept = next.kept;
                }
          ];
    }

-- no edge comes
awaits-rest : (told told' : Option (List ℕ)) (setting : Setting) (seen : List Level) (piece : Piece)
    (old mid new : Recovery) (few : piece.len ≤ 64) (e : NoEdgeCame old.line.edges piece mid.line.edges)
    (k : KeepsTold old mid) (state : mid.state ≡ old.state) (high : new.line.edges.high ≡ mid.line.edges.high)
    (same : new.figures.samples ≡ old.figures.samples) (short : new.line.edges.run < 2 ^ 31)
    (rest : (level : Level) (runs : List ℕ) (behind : ℕ) → StandsOn told setting level runs behind mid
    → StandsOn told' setting level runs behind new)
    → (mid.found ≡ false → mid.line.edges.run < 524288 → (new.state ≡ mid.state) × (new.count ≡ mid.count))
    → (mid.state ≡ Still → mid.count ≡ 0 → (new.state ≡ Still) × (new.count ≡ 0))
    → (mid.line.edges.run ≤ 64 → new.state ≡ mid.state)
    → new.found ≡ mid.found → new.figures.measured ≡ mid.figures.measured
    → (new.state ≡ Following → (old.state ≡ Following)
    × ((front : List Level) (first : Follower) (before : Level) (levels : List Level)
    → Followed told setting.begun front old.line first before levels (levels_in piece)
    → Followed told' setting.begun front new.line first before levels []))
    → mid.spread ≡ old.spread → (1024 * mid.line.edges.run < mid.line.follower.bounds.low → new ≡ mid)
    → Awaits told setting seen (levels_in piece) old → Awaits told' setting seen [] new
unfolding recovered-rest
awaits-rest told told' setting seen piece old mid new few e k state high same short rest alive still near found measured follows
    distance awake a =
    let w = a.recovered in
    let s = w.stands in
    let run_is = e.run_is in
    let was_short = w.short in
    let sum = s.samples_are in
    let n : ℕ = w.behind + piece.len in
    let all : mid.line.edges.run ≤ n = omega (arith, few, was_short, run_is, sum) in
    let m : new.figures.measured ≡ old.figures.measured = measured ∙ k.measured_is in
    record {
      recovered = recovered-rest told told' setting seen piece old mid new few e k state high same short rest w;
      waits = λ h long. waiting-rest w.runs w.behind n old new (omega arith) a.waits
          (λ none below. let t = alive (k.found_is ∙ none) (omega (arith, all, below)) in
          (t.0 ∙ state, t.1 ∙ k.count_is))
          (λ was none. still (state ∙ was) (k.count_is ∙ none)) (found ∙ k.found_is) h long;
      finds = λ first window more is f. let was = a.finds first window more is f in omega (arith, was, m);
      starts = λ first window is f few.
          let was = a.starts first window is f (omega (arith, few)) in
          (near (omega (arith, few, all)) ∙ state ∙ was.0, m ∙ was.1);
      joins = λ is one first window more runs f.
          let on = follows is in
          follows-on told told' setting w.level (first ∷ []) window seen (levels_in piece) [] old new on.1
          (a.joins on.0 (sym m ∙ one) first window more runs f);
      stays = λ narrow spread first counts window others ahead is l few_behind.
          let was = a.stays narrow spread first counts window others ahead is l (omega (arith, few_behind)) in
          let kept : IsKept mid.line.follower mid.spread narrow spread ahead = rw (k.follower_is, distance) was.kept in
          let awaken : new ≡ mid = awake
          (kept-awake mid.line.follower mid.spread narrow spread mid.line.edges.run ahead kept (omega (arith, few_behind, all))) in
          record {
            state = ap (λ x. x.state) awaken ∙ state ∙ was.state;
            once = m ∙ was.once;
            kept = subst (λ (x : Recovery). IsKept x.line.follower x.spread narrow spread ahead) (sym awaken) kept;
          };
    }
  where
    waiting-rest : (runs : List ℕ) (behind n : ℕ) (old new : Recovery) → behind ≤ n
        → (AreShort (drop 1 (runs ++ behind ∷ [])) → length runs ≤ 256 → IsWaiting runs old)
        → (old.found ≡ false → n < 524288 → (new.state ≡ old.state) × (new.count ≡ old.count))
        → (old.state ≡ Still → old.count ≡ 0 → (new.state ≡ Still) × (new.count ≡ 0)) → new.found ≡ old.found
        → AreShort (drop 1 (runs ++ n ∷ [])) → length runs ≤ 256 → IsWaiting runs new
    waiting-rest [] behind n old new few waits alive still found short long =
        let w = waits tt long in
        let was = w.none refl in
        record {
          unfound = found ∙ w.unfound;
          none = λ e. still was.0 was.1;
          some = λ some. absurd (omega (arith, some));
        }
    waiting-rest (r ∷ runs) behind n old new few waits alive still found short long =
        let w = waits (shorter runs behind n [] few short) long in
        let was = w.some (omega arith) in
        let same = alive w.unfound (latest runs n short) in
        let next = same.1 in
        let count = was.1 in
        record {
          unfound = found ∙ w.unfound;
          none = λ e. cc;
          some = λ some. (same.0 ∙ was.0, omega (arith, next, count));
        }

pub awaits-rest-ok : {R E : Type 0} (told told' : Option (List ℕ)) (setting : Setting) (seen : List Level)
    (piece : Piece) (old mid new : Recovery) (r : Result R E) → piece.len ≤ 64
    → NoEdgeCame old.line.edges piece mid.line.edges → KeepsTold old mid → mid.state ≡ old.state
    → new.line.edges.high ≡ mid.line.edges.high → new.figures.samples ≡ old.figures.samples
    → IfOk r (λ x. new.line.edges.run < 2 ^ 31)
    → ((level : Level) (runs : List ℕ) (behind : ℕ) → StandsOn told setting level runs behind mid
    → IfOk r (λ x. StandsOn told' setting level runs behind new))
    → (mid.found ≡ false → mid.line.edges.run < 524288 → (new.state ≡ mid.state) × (new.count ≡ mid.count))
    → (mid.state ≡ Still → mid.count ≡ 0 → (new.state ≡ Still) × (new.count ≡ 0))
    → (mid.line.edges.run ≤ 64 → new.state ≡ mid.state)
    → new.found ≡ mid.found → new.figures.measured ≡ mid.figures.measured
    → (new.state ≡ Following → (old.state ≡ Following)
    × ((front : List Level) (first : Follower) (before : Level) (levels : List Level)
    → Followed told setting.begun front old.line first before levels (levels_in piece)
    → IfOk r (λ x. Followed told' setting.begun front new.line first before levels [])))
    → mid.spread ≡ old.spread → (1024 * mid.line.edges.run < mid.line.follower.bounds.low → new ≡ mid)
    → Awaits told setting seen (levels_in piece) old → IfOk r (λ x. Awaits told' setting seen [] new)
awaits-rest-ok told told' setting seen piece old mid new (Err x) few e k state high same short rest alive still near found
    measured follows distance awake a = tt
awaits-rest-ok told told' setting seen piece old mid new (Ok v) few e k state high same short rest alive still near found
    measured follows distance awake a =
    awaits-rest told told' setting seen piece old mid new few e k state high same short rest alive still near found measured
    follows distance awake a

-- no edge comes of a line that is still
awaits-level : (told told' : Option (List ℕ)) (setting : Setting) (seen : List Level) (n : ℕ)
    (old mid new : Recovery) (some : 1 ≤ old.figures.samples) (few : n ≤ 4096)
    (same : mid.line.edges.high ≡ old.line.edges.high) (run : mid.line.edges.run ≡ min (old.line.edges.run + n) (2 ^ 32 - 1))
    (k : KeepsTold old mid) (state : mid.state ≡ old.state) (high : new.line.edges.high ≡ mid.line.edges.high)
    (samples : new.figures.samples ≡ min (old.figures.samples + n) (2 ^ 64 - 1)) (short : new.line.edges.run < 2 ^ 31)
    (rest : (level : Level) (runs : List ℕ) (behind : ℕ) → StandsOn told setting level runs behind mid
    → StandsOn told' setting level runs behind new)
    → old.state ≡ Still → (mid.state ≡ Still → mid.count ≡ 0 → (new.state ≡ Still) × (new.count ≡ 0))
    → new.found ≡ mid.found → new.figures.measured ≡ mid.figures.measured
    → (new.state ≡ Following → mid.state ≡ Following)
    → Awaits told setting seen [] old
    → Awaits told' setting (seen ++ replicate n (level_if old.line.edges.high)) [] new
unfolding recovered-level
awaits-level told told' setting [] n old mid new some few same run k state high samples short rest is still found measured
    follows a =
    let was = a.recovered.samples in
    absurd (omega (arith, some, was))
awaits-level told told' setting (x ∷ seen) n old mid new some few same run k state high samples short rest is still found
    measured follows a =
    let w = a.recovered in
    let m : new.figures.measured ≡ old.figures.measured = measured ∙ k.measured_is in
    record {
      recovered = recovered-level told told' setting (x ∷ seen) n old mid new some few same run k state high samples short
          rest w;
      waits = λ h long. waiting-still w.runs w.behind (w.behind + n) old new (omega arith) is a.waits
          (λ none. still (state ∙ is) (k.count_is ∙ none)) (found ∙ k.found_is) h long;
      finds = λ first window more e f. let was = a.finds first window more e f in omega (arith, was, m);
      starts = λ first window e f near. let was = a.starts first window e f (omega (arith, near)) in
          absurd (apart old.state is was.0);
      joins = λ now one first window more runs f. absurd (apart old.state is (sym state ∙ follows now));
      stays = λ narrow spread first counts window others ahead e l few_behind.
          let was = a.stays narrow spread first counts window others ahead e l (omega (arith, few_behind)) in
          absurd (apart old.state is was.state);
    }
  where
    waiting-still : (runs : List ℕ) (behind n : ℕ) (old new : Recovery) → behind ≤ n → old.state ≡ Still
        → (AreShort (drop 1 (runs ++ behind ∷ [])) → length runs ≤ 256 → IsWaiting runs old)
        → (old.count ≡ 0 → (new.state ≡ Still) × (new.count ≡ 0)) → new.found ≡ old.found
        → AreShort (drop 1 (runs ++ n ∷ [])) → length runs ≤ 256 → IsWaiting runs new
    waiting-still [] behind n old new few is waits still found short long =
        let w = waits tt long in
        let was = w.none refl in
        record {
          unfound = found ∙ w.unfound;
          none = λ e. still was.1;
          some = λ some. absurd (omega (arith, some));
        }
    waiting-still (r ∷ runs) behind n old new few is waits still found short long =
        let w = waits (shorter runs behind n [] few short) long in
        let was = w.some (omega arith) in
        absurd (still-apart old.state is was.0)

pub awaits-level-ok : {R E : Type 0} (told told' : Option (List ℕ)) (setting : Setting) (seen : List Level) (n : ℕ)
    (old mid new : Recovery) (r : Result R E) → 1 ≤ old.figures.samples → n ≤ 4096
    → mid.line.edges.high ≡ old.line.edges.high → mid.line.edges.run ≡ min (old.line.edges.run + n) (2 ^ 32 - 1)
    → KeepsTold old mid → mid.state ≡ old.state → new.line.edges.high ≡ mid.line.edges.high
    → new.figures.samples ≡ min (old.figures.samples + n) (2 ^ 64 - 1) → IfOk r (λ x. new.line.edges.run < 2 ^ 31)
    → ((level : Level) (runs : List ℕ) (behind : ℕ) → StandsOn told setting level runs behind mid
    → IfOk r (λ x. StandsOn told' setting level runs behind new))
    → old.state ≡ Still → (mid.state ≡ Still → mid.count ≡ 0 → (new.state ≡ Still) × (new.count ≡ 0))
    → new.found ≡ mid.found → new.figures.measured ≡ mid.figures.measured
    → (new.state ≡ Following → mid.state ≡ Following)
    → Awaits told setting seen [] old
    → IfOk r (λ x. Awaits told' setting (seen ++ replicate n (level_if old.line.edges.high)) [] new)
awaits-level-ok told told' setting seen n old mid new (Err e) some few same run k state high samples short rest is still found
    measured follows a = tt
awaits-level-ok told told' setting seen n old mid new (Ok v) some few same run k state high samples short rest is still found
    measured follows a =
    awaits-level told told' setting seen n old mid new some few same run k state high samples short rest is still found
    measured follows a

-- samples that come
same-waits : (runs : List ℕ) (old new : Recovery) → KeepsTold old new → new.state ≡ old.state → IsWaiting runs old
    → IsWaiting runs new
same-waits runs old new k state w = record {
  unfound = k.found_is ∙ w.unfound;
  none = λ e. let n = w.none e in (state ∙ n.0, k.count_is ∙ n.1);
  some = λ some. let n = w.some some in let c = k.count_is in let was = n.1 in (state ∙ n.0, omega (arith, c, was));
}

-- runs of more samples begin with those that there were
behind-append : (s : Level) (run : ℕ) (xs ys : List Level)
    → (rest : List ℕ) × (runs_behind s run (xs ++ ys) ≡ runs_behind s run xs ++ rest)
behind-append Low run [] ys = (runs_behind Low run ys, refl)
behind-append High run [] ys = (runs_behind High run ys, refl)
behind-append Low run (Low ∷ xs) ys = behind-append Low (suc run) xs ys
behind-append High run (High ∷ xs) ys = behind-append High (suc run) xs ys
behind-append Low run (High ∷ xs) ys = let e = behind-append High 1 xs ys in (e.0, ap (λ l. run ∷ l) e.1)
behind-append High run (Low ∷ xs) ys = let e = behind-append Low 1 xs ys in (e.0, ap (λ l. run ∷ l) e.1)

follows-more : (told told' : Option (List ℕ)) (setting : Setting) (level : Level) (before window : List ℕ)
    (seen levels left : List Level) (old new : Recovery)
    → ((front : List Level) (first : Follower) (behind : Level) (since : List Level)
    → Followed told setting.begun front old.line first behind since []
    → Followed told' setting.begun front new.line first behind (since ++ levels) left)
    → FollowsFrom told setting level before window seen [] old
    → FollowsFrom told' setting level before window (seen ++ levels) left new
follows-more told told' setting level before window seen levels left old new on f =
    let r = behind-append (other (after level before)) 0 f.since levels in
    record {
      since = f.since ++ levels;
      samples = sym (append_assoc (line level before) f.since levels) ∙ ap (λ x. x ++ levels) f.samples;
      others = f.others ++ r.0;
      runs_are = r.1 ∙ ap (λ x. x ++ r.0) f.runs_are ∙ append_assoc window f.others r.0;
      start = f.start;
      found = f.found;
      followed = on (first_cells level before f.start) f.start (after level before) f.since f.followed;
    }

follows-begins : (told : Option (List ℕ)) (setting : Setting) (level : Level) (before window : List ℕ)
    (seen levels : List Level) (old new : Recovery) → new.line ≡ old.line
    → FollowsFrom told setting level before window seen [] old
    → FollowsFrom told setting level before window (seen ++ levels) levels new
follows-begins told setting level before window seen levels old new same f =
    follows-more told told setting level before window seen levels levels old new
    (λ front first behind since w. followed-begins told setting.begun front old.line new.line first behind since levels
    levels same refl w) f

-- where no sample came, no run did
no-runs : (told : Option (List ℕ)) (setting : Setting) (now : Recovery) → (w : Recovered told setting [] [] now)
    → w.runs ≡ []
no-runs told setting now w =
    (only-one w.runs w.behind
    (sym (end-none (other w.level) 0) ∙ w.split []
    ∙ ap (λ x. w.runs ++ x) (end-none (level_if now.line.edges.high) w.behind))).0

not-none : (first : ℕ) (runs : List ℕ) → [] ≡ first ∷ runs → ⊥
not-none first runs e = cc

pub awaits-new : (told : Option (List ℕ)) (setting : Setting) (now : Recovery) → Recovered told setting [] [] now
    → now.found ≡ false → now.state ≡ Still → now.count ≡ 0 → Awaits told setting [] [] now
awaits-new told setting now w unfound still count =
    let none = no-runs told setting now w in
    record {
      recovered = w;
      waits = λ short long. subst (λ (x : List ℕ). IsWaiting x now) (sym none) (record {
        unfound = unfound;
        none = λ e. (still, count);
        some = λ some. absurd (omega (arith, some));
      });
      finds = λ first window more is f. absurd (not-none first (window ++ more) (sym none ∙ is));
      starts = λ first window is f near. absurd (not-none first window (sym none ∙ is));
      joins = λ is one first window more runs f. absurd (not-none first (window ++ more) (sym none ∙ runs));
      stays = λ narrow spread first counts window others ahead is l few. absurd (not-none first (window ++ others) (sym none ∙ is));
    }

-- what is kept of a line, where nothing of it changed
same-kept : (narrow : Bounds) (spread : ℕ) (ahead : List ℕ) (old new : Recovery) → new.state ≡ old.state
    → new.figures.measured ≡ old.figures.measured → new.line.follower ≡ old.line.follower → new.spread ≡ old.spread
    → IsKeptSince narrow spread ahead old → IsKeptSince narrow spread ahead new
same-kept narrow spread ahead old new state measured follower distance w = record {
  state = state ∙ w.state;
  once = measured ∙ w.once;
  kept = rw (follower, distance) w.kept;
}

awaits-begins : (told : Option (List ℕ)) (setting : Setting) (seen levels : List Level) (old new : Recovery)
    (k : KeepsTold old new) (state : new.state ≡ old.state)
    (samples : new.figures.samples ≡ min (old.figures.samples + length levels) (2 ^ 64 - 1))
    (same : 1 ≤ old.figures.samples → new.line ≡ old.line) (none : length levels ≡ 0 → new.line ≡ old.line)
    (begins : old.figures.samples ≡ 0 → 1 ≤ length levels
    → (level_if new.line.edges.high ≡ first_level levels) × (new.line.edges.run ≡ 0))
    → new.spread ≡ old.spread
    → Awaits told setting seen [] old → Awaits told setting (seen ++ levels) levels new
unfolding recovered-begins recovered-more recovered-first
awaits-begins told setting [] [] old new k state samples same none begins distance a =
    let w = a.recovered in
    record {
      recovered = recovered-begins told setting [] [] old new k state samples same none begins w;
      waits = λ short long. same-waits w.runs old new k state (a.waits short long);
      finds = λ first window more is f. let was = a.finds first window more is f in
          let m = k.measured_is in omega (arith, was, m);
      starts = λ first window is f near. let was = a.starts first window is f near in
          (state ∙ was.0, k.measured_is ∙ was.1);
      joins = λ is one first window more runs f.
          follows-begins told setting w.level (first ∷ []) window [] [] old new (none refl)
          (a.joins (sym state ∙ is) (sym k.measured_is ∙ one) first window more runs f);
      stays = λ narrow spread first counts window others ahead is l few.
          same-kept narrow spread ahead old new state k.measured_is k.follower_is distance
          (a.stays narrow spread first counts window others ahead is l few);
    }
awaits-begins told setting [] (l ∷ levels) old new k state samples same none begins distance a =
    let w = a.recovered in
    let empty = no-runs told setting old w in
    record {
      recovered = recovered-begins told setting [] (l ∷ levels) old new k state samples same none begins w;
      waits = λ short long. same-waits [] old new k state
          (subst (λ (x : List ℕ). IsWaiting x old) empty
          (a.waits (subst (λ (x : List ℕ). AreShort (drop 1 (x ++ w.behind ∷ []))) (sym empty) tt)
          (let z : length w.runs ≡ 0 = ap length empty in omega (arith, z))));
      finds = λ first window more is f. absurd (not-none first (window ++ more) is);
      starts = λ first window is f near. absurd (not-none first window is);
      joins = λ is one first window more runs f. absurd (not-none first (window ++ more) runs);
      stays = λ narrow spread first counts window others ahead is l few. absurd (not-none first (window ++ others) is);
    }
awaits-begins told setting (l ∷ seen) levels old new k state samples same none begins distance a =
    let w = a.recovered in
    let was = w.samples in
    record {
      recovered = recovered-begins told setting (l ∷ seen) levels old new k state samples same none begins w;
      waits = λ short long. same-waits w.runs old new k state (a.waits short long);
      finds = λ first window more is f. let was = a.finds first window more is f in
          let m = k.measured_is in omega (arith, was, m);
      starts = λ first window is f near. let was = a.starts first window is f near in
          (state ∙ was.0, k.measured_is ∙ was.1);
      joins = λ is one first window more runs f.
          follows-begins told setting w.level (first ∷ []) window (l ∷ seen) levels old new (same (omega (arith, was)))
          (a.joins (sym state ∙ is) (sym k.measured_is ∙ one) first window more runs f);
      stays = λ narrow spread first counts window others ahead is l few.
          same-kept narrow spread ahead old new state k.measured_is k.follower_is distance
          (a.stays narrow spread first counts window others ahead is l few);
    }

pub awaits-word : (told : Option (List ℕ)) (setting : Setting) (seen : List Level) (len levels : ℕ)
    (old new : Recovery) → KeepsTold old new → new.state ≡ old.state
    → new.figures.samples ≡ min (old.figures.samples + len) (2 ^ 64 - 1)
    → (1 ≤ old.figures.samples → new.line ≡ old.line) → (len ≡ 0 → new.line ≡ old.line)
    → (old.figures.samples ≡ 0 → 1 ≤ len
    → (level_if new.line.edges.high ≡ level_of (levels % 2)) × (new.line.edges.run ≡ 0))
    → new.spread ≡ old.spread
    → Awaits told setting seen [] old
    → Awaits told setting (seen ++ low_cells len levels) (low_cells len levels) new
awaits-word told setting seen len levels old new k state samples same none begins distance a =
    let many : length (low_cells len levels) ≡ len = length-low_cells len levels in
    awaits-begins told setting seen (low_cells len levels) old new k state (omega (arith, many, samples)) same
    (λ e. none (sym many ∙ e))
    (λ zero_seen some.
    let some_len : 1 ≤ len = omega (arith, many, some) in
    let b = begins zero_seen some_len in
    (b.0 ∙ sym (first-of-word len levels some_len), b.1))
    distance a

-- the runs of all samples
no-more : (s : Level) (run : ℕ) → runs_behind s run [] ≡ []
no-more Low run = refl
no-more High run = refl

runs-are : (told : Option (List ℕ)) (setting : Setting) (levels : List Level) (now : Recovery)
    → (w : Recovered told setting levels [] now) → w.runs ≡ runs_behind (first_level levels) 0 levels
runs-are told setting levels now w =
    let h : Level = level_if now.line.edges.high in
    sym (append-nil w.runs) ∙ ap (λ x. w.runs ++ x) (sym (no-more h w.behind))
    ∙ sym (behind-to-end (other w.level) h 0 w.behind (levels ++ []) [] w.runs (w.split []))
    ∙ ap₂ (λ s x. runs_behind s 0 x) w.first (append-nil levels)

pub awaits-finds : (told : Option (List ℕ)) (setting : Setting) (levels : List Level) (now : Recovery) (first : ℕ)
    (window : List ℕ) → BeginsWith setting.known levels first window → Awaits told setting levels [] now
    → 1 ≤ now.figures.measured
awaits-finds told setting levels now first window b a =
    a.finds first window b.more (runs-are told setting levels now a.recovered ∙ b.runs_are) b.findable

pub awaits-joins : (told : Option (List ℕ)) (setting : Setting) (levels : List Level) (now : Recovery) (first : ℕ)
    (window : List ℕ) → now.state ≡ Following → now.figures.measured ≡ 1 → BeginsWith setting.known levels first window
    → Awaits told setting levels [] now
    → FollowsFrom told setting (other (first_level levels)) (first ∷ []) window levels [] now
awaits-joins told setting levels now first window is one b a =
    subst (λ (l : Level). FollowsFrom told setting l (first ∷ []) window levels [] now)
    (sym (other-other a.recovered.level) ∙ ap other a.recovered.first)
    (a.joins is one first window b.more (runs-are told setting levels now a.recovered ∙ b.runs_are) b.findable)

pub same-last : (xs ys : List ℕ) (x y : ℕ) → xs ++ x ∷ [] ≡ ys ++ y ∷ [] → x ≡ y
same-last [] [] x y e = cc
same-last [] (b ∷ []) x y e = cc
same-last [] (b ∷ c ∷ ys) x y e = cc
same-last (a ∷ []) [] x y e = cc
same-last (a ∷ c ∷ xs) [] x y e = cc
same-last (a ∷ xs) (b ∷ ys) x y e = let tail : xs ++ x ∷ [] ≡ ys ++ y ∷ [] = cc in same-last xs ys x y tail

pub awaits-starts : (told : Option (List ℕ)) (setting : Setting) (levels : List Level) (now : Recovery) (first : ℕ)
    (window : List ℕ) → EndsWith setting.known levels first window → Awaits told setting levels [] now
    → (now.state ≡ Following) × (now.figures.measured ≡ 1)
awaits-starts told setting levels now first window e a =
    let w = a.recovered in
    let all : w.runs ++ w.behind ∷ [] ≡ (first ∷ window) ++ e.behind ∷ []
    = ap (λ x. w.runs ++ x) (sym (end-none (level_if now.line.edges.high) w.behind)) ∙ sym (w.split [])
    ∙ ap₂ (λ x y. runs_to_end x 0 y) w.first (append-nil levels) ∙ e.runs_are in
    let last = same-last w.runs (first ∷ window) w.behind e.behind all in
    let few = e.few in
    a.starts first window (before-last w.runs (first ∷ window) w.behind e.behind all) e.findable (omega (arith, last, few))

-- words passed on
pub followed-gave : {A : Type 0} {taken : A → Option (List ℕ)} (begun : List ℕ) (front : List Level) (old new : LineFollower)
    (first : Follower) (before : Level) (levels : List Level) (a b : A) → Gave taken old new a b []
    → new.edges ≡ old.edges → new.follower ≡ old.follower
    → Followed (taken a) begun front old first before levels [] → Followed (taken b) begun front new first before levels []
followed-gave {taken = taken} begun front old new first before levels a b gave edges follower w =
    let all : List Level = front ++ (line before w.counts ++ replicate w.given (level_if old.edges.high)) in
    record {
      runs = w.runs;
      counts = w.counts;
      past = w.past;
      given = w.given;
      at = w.at;
      split = λ more. w.split more
          ∙ ap (λ e. w.runs ++ runs_behind (level_if e.high) (w.past + e.run) more) (sym edges);
      level = ap (λ e. level_if e.high) edges ∙ w.level;
      short = rw edges w.short;
      counted = w.counted;
      passed = rw follower w.passed;
      cells = subst (λ (x : List Level). Queued (taken b) begun new.queue.form (waiting new.queue) x)
          (append-nil all
          ∙ ap (λ e. front ++ (line before w.counts ++ replicate w.given (level_if e.high))) (sym edges))
          (gave.each begun all w.cells);
    }

pub awaits-gave : {A : Type 0} {taken : A → Option (List ℕ)} (setting : Setting) (seen : List Level)
    (old new : Recovery) (a b : A) → Gave taken old.line new.line a b [] → new.line.edges ≡ old.line.edges
    → new.line.follower ≡ old.line.follower → new.found ≡ old.found → new.known ≡ old.known → new.held ≡ old.held
    → new.figures ≡ old.figures → new.runs ≡ old.runs → new.count ≡ old.count → new.state ≡ old.state
    → new.spread ≡ old.spread → Awaits (taken a) setting seen [] old → Awaits (taken b) setting seen [] new
unfolding recovered-gave
awaits-gave {taken = taken} setting seen old new a b gave edges follower found known held figures runs count state distance t =
    let w = t.recovered in
    let measured : new.figures.measured ≡ old.figures.measured = ap (λ f. f.measured) figures in
    record {
      recovered = recovered-gave setting seen old new a b gave edges follower found known held figures runs count state w;
      waits = λ short long.
          let i = t.waits short long in
          record {
            unfound = found ∙ i.unfound;
            none = λ e. let n = i.none e in (state ∙ n.0, count ∙ n.1);
            some = λ some. let n = i.some some in (state ∙ n.0, ap (λ c. c + 1) count ∙ n.1);
          };
      finds = λ first window more is f. let was = t.finds first window more is f in omega (arith, was, measured);
      starts = λ first window is f near. let was = t.starts first window is f near in
          (state ∙ was.0, measured ∙ was.1);
      joins = λ is one first window more runs f.
          follows-on (taken a) (taken b) setting w.level (first ∷ []) window seen [] [] old new
          (λ front start before levels g.
          followed-gave setting.begun front old.line new.line start before levels a b gave edges follower g)
          (t.joins (sym state ∙ is) (sym measured ∙ one) first window more runs f);
      stays = λ narrow spread first counts window others ahead is l few.
          same-kept narrow spread ahead old new state measured follower distance
          (t.stays narrow spread first counts window others ahead is l few);
    }

-- edges taken ahead, of a line that is followed: no runs wait
split-front : (xs ys zs more : List ℕ) → xs ++ ys ≡ zs ++ more
    → ((m : List ℕ) × (xs ≡ zs ++ m)) ⊎ ((x : ℕ) × (m : List ℕ) × (zs ≡ xs ++ x ∷ m))
split-front xs ys [] more e = inl (xs, refl)
split-front [] ys (z ∷ zs) more e = inr (z, zs, refl)
split-front (x ∷ xs) ys (z ∷ zs) more e =
    let head : x ≡ z = cc in
    let tail : xs ++ ys ≡ zs ++ more = cc in
    elim (split-front xs ys zs more tail) [
      | inl a ↦ inl (a.0, ap₂ (λ n l. n ∷ l) head a.1)
      | inr b ↦ inr (b.0, b.1, ap₂ (λ n l. n ∷ l) (sym head) b.2)
    ]

short-front : (xs ys : List ℕ) (b : ℕ) → b < 524288 → AreShort (xs ++ ys) → AreShort (xs ++ b ∷ [])
short-front [] ys b few s = (few, tt)
short-front (x ∷ xs) ys b few s = (s.0, short-front xs ys b few s.1)

short-behind : (xs ys : List ℕ) (b : ℕ) → b < 524288 → AreShort (drop 1 (xs ++ ys)) → AreShort (drop 1 (xs ++ b ∷ []))
short-behind [] ys b few s = tt
short-behind (x ∷ xs) ys b few s = short-front xs ys b few s

follows-waiting : (runs : List ℕ) (now : Recovery) → now.state ≡ Following → IsWaiting runs now → ⊥
follows-waiting [] now is w = let n = w.none refl in apart now.state n.0 is
follows-waiting (r ∷ runs) now is w = let n = w.some (omega arith) in measuring-apart now.state n.0 is

no-gaps : (from : ℕ) (places : List ℕ) → gaps from places ≡ [] → last_place from places ≡ from
no-gaps from [] e = refl
no-gaps from (p ∷ places) e = cc

-- the samples that wait before some that come are no more than the first run has
ahead-runs : (s : Level) (from behind : ℕ) (levels : List Level) (runs : List ℕ) → from ≤ 128
    → runs ≡ gaps from (turns s 128 levels) → behind ≡ (128 + length levels) - last_place from (turns s 128 levels)
    → runs_to_end s (128 - from) (levels ++ []) ≡ runs ++ behind ∷ []
ahead-runs s from behind levels runs near runs_are behind_is =
    let places = turns s 128 levels in
    turned-runs s 128 from levels [] near
    ∙ ap (λ l. gaps from places ++ l)
    (end-none (other (after (other s) (gaps from places))) (128 + length levels - last_place from places))
    ∙ ap₂ (λ l n. l ++ n ∷ []) (sym runs_are) (sym behind_is)

few-wait : (s : Level) (n : ℕ) (xs : List Level) (runs : List ℕ) (behind most : ℕ) → runs_to_end s n xs ≡ runs ++ behind ∷ []
    → 65536 * behind < most → ((r : ℕ) (rs : List ℕ) → runs ≡ r ∷ rs → 65536 * r < most) → 65536 * n < most
few-wait s n xs [] behind most e few short = let least = end-least s n xs behind [] e in omega (arith, least, few)
few-wait s n xs (r ∷ runs) behind most e few short =
    let least = end-least s n xs r (runs ++ behind ∷ []) e in
    let below = short r runs refl in
    omega (arith, least, below)

pub awaits-ahead : (told told' : Option (List ℕ)) (setting : Setting) (seen levels : List Level) (old mid new : Recovery)
    (runs : List ℕ) (from behind : ℕ) → AreTaken told told' setting levels old mid new runs from behind
    → old.figures.measured ≤ mid.figures.measured
    → (runs ≡ [] → (mid.state ≡ old.state) × (mid.figures.measured ≡ old.figures.measured))
    → (new.state ≡ Following → new.figures.measured ≡ old.figures.measured → old.figures.measured ≡ 1
    → (front : List Level) (first : Follower) (before : Level) (since : List Level)
    → Followed told setting.begun front old.line first before since []
    → Followed told' setting.begun front new.line first before (since ++ levels) [])
    → ((narrow : Bounds) (spread : ℕ) (ahead : List ℕ) → IsKept old.line.follower old.spread narrow spread (runs ++ ahead)
    → StaysKept narrow spread ahead old mid)
    → new.spread ≡ mid.spread
    → Awaits told setting seen [] old → Awaits told' setting (seen ++ levels) [] new
unfolding recovered-ahead
awaits-ahead told told' setting [] levels old mid new runs from behind h up none follows keeps distance a =
    let some = h.some in
    let was = a.recovered.samples in
    absurd (omega (arith, some, was))
awaits-ahead told told' setting (x ∷ seen) levels old mid new runs from behind h up none follows keeps distance a =
    let is = h.is in
    let near = h.placed.near in
    let runs_are = h.placed.runs_are in
    let behind_is = h.placed.behind_is in
    let state = h.state in
    let w = a.recovered in
    let past : w.stands.past ≡ 0 = w.stands.holds.order.none_followed is in
    let sum = w.stands.samples_are in
    let behind_few : w.behind < 524288 = omega (arith, past, sum, near) in
    let same = h.keeps.measured_is in
    let not_yet : AreShort (drop 1 (w.runs ++ w.behind ∷ [])) → length w.runs ≤ 256 → ⊥
    = λ s long. follows-waiting w.runs old is (a.waits s long) in
    let early : (first : ℕ) (window more : List ℕ) → w.runs ++ runs ≡ first ∷ (window ++ more)
    → AreFindable setting.known window → (m : List ℕ) × (w.runs ≡ first ∷ (window ++ m))
    = λ first window more e f. elim (split-front w.runs runs (first ∷ window) more e) [
      | inl m ↦ m
      | inr m ↦
          let long : length (first ∷ window) ≡ length (w.runs ++ m.0 ∷ m.1) = ap length m.2 in
          let both = length-append w.runs (m.0 ∷ m.1) in
          let many : length window ≡ 256 = sym f.captured.displaced.cells_count ∙ f.captured.many.count in
          absurd (not_yet
          (short-behind w.runs (m.0 ∷ m.1) w.behind behind_few
          (subst (λ (l : List ℕ). AreShort (drop 1 l)) m.2 f.short))
          (omega (arith, long, both, many)))
    ] in
    record {
      recovered = recovered-ahead told told' setting (x ∷ seen) levels old mid new runs from behind h w;
      waits = λ s long.
          let both = length-append w.runs runs in
          absurd (not_yet
          (short-behind w.runs (runs ++ behind ∷ []) w.behind behind_few
          (subst (λ (l : List ℕ). AreShort (drop 1 l)) (append_assoc w.runs runs (behind ∷ [])) s))
          (omega (arith, both, long)));
      finds = λ first window more e f.
          let m = early first window more e f in
          let was = a.finds first window m.0 m.1 f in omega (arith, was, up, same);
      starts = λ first window e f few.
          let m = early first window [] (e ∙ ap (λ l. first ∷ l) (sym (append-nil window))) f in
          let all : length (w.runs ++ runs) ≡ length (first ∷ window) = ap length e in
          let sum_runs = length-append w.runs runs in
          let was_long : length w.runs ≡ length (first ∷ (window ++ m.0)) = ap length m.1 in
          let sum_more = length-append window m.0 in
          let no_runs : runs ≡ [] = empty runs (omega (arith, all, sum_runs, was_long, sum_more)) in
          let last = no-gaps from (turns (level_if old.line.edges.high) 128 levels) (sym runs_are ∙ no_runs) in
          let was = a.starts first window (sym (append-nil w.runs) ∙ ap (λ l. w.runs ++ l) (sym no_runs) ∙ e) f
          (omega (arith, few, behind_is, last, near, past, sum)) in
          let n = none no_runs in
          (state ∙ n.0 ∙ was.0, same ∙ n.1 ∙ was.1);
      joins = λ now one first window more e f.
          let m = early first window more e f in
          let was = a.finds first window m.0 m.1 f in
          let once : old.figures.measured ≡ 1 = omega (arith, was, up, same, one) in
          follows-more told told' setting w.level (first ∷ []) window (x ∷ seen) levels [] old new
          (follows now (one ∙ sym once) once) (a.joins is once first window m.0 m.1 f);
      stays = λ narrow spread first counts window others ahead e l few.
          let f = lasting-findable setting.known narrow spread counts window (others ++ ahead) l in
          let m = early first window others e f in
          let more : others ≡ m.0 ++ runs
          = no-more-runs (first ∷ window) others (m.0 ++ runs)
          (sym e ∙ ap (λ x. x ++ runs) m.1 ∙ append_assoc (first ∷ window) m.0 runs) in
          let on : IsLastingLine setting.known narrow spread counts window (m.0 ++ (runs ++ ahead))
          = subst (λ (x : List ℕ). IsLastingLine setting.known narrow spread counts window x)
          (ap (λ x. x ++ ahead) more ∙ append_assoc m.0 runs ahead) l in
          let waiting : 65536 * (128 - from) < 63 * narrow.low
          = few-wait (level_if old.line.edges.high) (128 - from) (levels ++ []) runs behind (63 * narrow.low)
          (ahead-runs (level_if old.line.edges.high) from behind levels runs (omega (arith, near)) runs_are behind_is) few
          (λ r rs is. lasting-short setting.known narrow spread counts window m.0 (rs ++ ahead) r
          (subst (λ (x : List ℕ). IsLastingLine setting.known narrow spread counts window (m.0 ++ (x ++ ahead))) is on)) in
          let was = a.stays narrow spread first counts window m.0 (runs ++ ahead) m.1 on
          (omega (arith, waiting, past, sum, near)) in
          let next = keeps narrow spread ahead was.kept in
          record {
            state = state ∙ next.state;
            once = same ∙ next.measured ∙ was.once;
            kept = rw (h.keeps.follower_is, distance) next.kept;
          };
    }
  where
    empty : (l : List ℕ) → length l ≡ 0 → l ≡ []
    empty [] e = refl
    empty (y ∷ l) e = absurd (omega (arith, e))
