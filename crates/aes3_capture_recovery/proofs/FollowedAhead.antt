-- A line that is followed, through edges that were found ahead.
use Rattle.std.proofs.Common.{ℕ, suc, List, [], ◌∷◌, ◌++◌, ◌≡◌, ◌≤◌, ◌<◌, ◌+◌, ◌-◌, ◌^◌, Option, Ok, Bool}
use Rattle.std.proofs.Common.{refl, sym, ap, ap₂, ◌∙◌, subst, arith, append_assoc, append-nil, length, replicate}
use Rattle.aes3_level.specs.declared.level.Level.{Level}
use Rattle.aes3_level.specs.declared.level.Level.TheVariants.{Low, High}
use Rattle.aes3_level.specs.Cells.{line, other, after}
use Rattle.aes3_level.proofs.Runs.{after-append, line-append, other-other}
use Rattle.aes3_capture.specs.declared.follower.Follower.{Follower}
use Rattle.aes3_capture.specs.Following.{CountedAll}
use Rattle.aes3_capture.proofs.Whole.{counted-rest, passed-none}
use Rattle.aes3_capture_recovery.specs.Endings.{level_if}
use Rattle.aes3_capture_recovery.specs.LineFollowing.{Followed, RunTold}
use Rattle.aes3_capture_recovery.specs.Queues.{Puts, Queued, waiting}
use Rattle.aes3_capture_recovery.specs.Recovering.{runs_to_end}
use Rattle.aes3_capture_recovery.specs.RecoverySteps.{Gave, RunsCounted}
use Rattle.aes3_capture_recovery.specs.Runs.{runs_behind}
use Rattle.aes3_capture_recovery.specs.Turns.{gaps, last_place, turns}
use Rattle.aes3_capture_recovery.specs.declared.line_follower.LineFollower.{LineFollower}
use Rattle.aes3_capture_recovery.proofs.Ahead.{ArePlaced}
use Rattle.aes3_capture_recovery.proofs.RunsToEnd.{after-as-many}
use Rattle.aes3_capture_recovery.proofs.Steady.{counted-append}
use Rattle.aes3_capture_recovery.proofs.Telling.{cells-runs, counted-many, gave-chain, gave-none, gave-puts, line-runs}
use Rattle.aes3_capture_recovery.proofs.Turning.{turned-runs}

-- all but the last
abbrev front_of : List ℕ → List ℕ
front_of [] = []
front_of (x ∷ []) = []
front_of (x ∷ y ∷ ys) = x ∷ front_of (y ∷ ys)

front-append : (xs : List ℕ) (y : ℕ) (ys : List ℕ) → front_of (xs ++ y ∷ ys) ≡ xs ++ front_of (y ∷ ys)
front-append [] y ys = refl
front-append (x ∷ []) y ys = refl
front-append (x ∷ z ∷ xs) y ys = ap (λ l. x ∷ l) (front-append (z ∷ xs) y ys)

-- behind the last edge lie samples, none at least
some-end : (s : Level) (n : ℕ) (xs : List Level) → (y : ℕ) × (ys : List ℕ) × (runs_to_end s n xs ≡ y ∷ ys)
some-end Low n [] = (n, [], refl)
some-end High n [] = (n, [], refl)
some-end Low n (Low ∷ xs) = some-end Low (suc n) xs
some-end High n (High ∷ xs) = some-end High (suc n) xs
some-end Low n (High ∷ xs) = (n, runs_to_end High 1 xs, refl)
some-end High n (Low ∷ xs) = (n, runs_to_end Low 1 xs, refl)

front-more : (front : List ℕ) (s : Level) (n : ℕ) (xs : List Level)
    → front_of (front ++ runs_to_end s n xs) ≡ front ++ front_of (runs_to_end s n xs)
front-more front s n xs =
    let e = some-end s n xs in
    ap (λ l. front_of (front ++ l)) e.2 ∙ front-append front e.0 e.1 ∙ ap (λ l. front ++ front_of l) (sym e.2)

-- the runs that edges end are all but the last
front-behind : (s : Level) (n : ℕ) (xs : List Level) → front_of (runs_to_end s n xs) ≡ runs_behind s n xs
front-behind Low n [] = refl
front-behind High n [] = refl
front-behind Low n (Low ∷ xs) = front-behind Low (suc n) xs
front-behind High n (High ∷ xs) = front-behind High (suc n) xs
front-behind Low n (High ∷ xs) = front-more (n ∷ []) High 1 xs ∙ ap (λ l. n ∷ l) (front-behind High 1 xs)
front-behind High n (Low ∷ xs) = front-more (n ∷ []) Low 1 xs ∙ ap (λ l. n ∷ l) (front-behind Low 1 xs)

-- the runs that edges end, by the places of these
turned-behind : (s : Level) (place from : ℕ) (levels more : List Level) → from ≤ place
    → runs_behind s (place - from) (levels ++ more)
    ≡ gaps from (turns s place levels)
    ++ runs_behind (other (after (other s) (gaps from (turns s place levels))))
    (place + length levels - last_place from (turns s place levels)) more
turned-behind s place from levels more near =
    let runs = gaps from (turns s place levels) in
    let t = other (after (other s) runs) in
    let last = place + length levels - last_place from (turns s place levels) in
    sym (front-behind s (place - from) (levels ++ more)) ∙ ap front_of (turned-runs s place from levels more near)
    ∙ front-more runs t last more ∙ ap (λ l. runs ++ l) (front-behind t last more)

-- the same where more samples came before the first
abbrev later : ℕ → List ℕ → List ℕ
later k [] = []
later k (r ∷ rs) = (k + r) ∷ rs

behind-later : (s : Level) (k n m : ℕ) (xs : List Level) → m ≡ k + n → runs_behind s m xs ≡ later k (runs_behind s n xs)
behind-later Low k n m [] e = refl
behind-later High k n m [] e = refl
behind-later Low k n m (Low ∷ xs) e = behind-later Low k (suc n) (suc m) xs (omega (arith, e))
behind-later High k n m (High ∷ xs) e = behind-later High k (suc n) (suc m) xs (omega (arith, e))
behind-later Low k n m (High ∷ xs) e = ap (λ x. x ∷ runs_behind High 1 xs) e
behind-later High k n m (Low ∷ xs) e = ap (λ x. x ∷ runs_behind Low 1 xs) e

-- of no runs nothing is counted
pub runs-none : {A : Type 0} {taken : A → Option (List ℕ)} (x : LineFollower) (a : A) (level : Level)
    → RunsCounted taken x x a a level []
runs-none x a level = record { counts = []; counted = refl; gave = gave-none x x a a refl refl }

-- runs counted behind others
pub runs-chain : {A : Type 0} {taken : A → Option (List ℕ)} (x y z : LineFollower) (a b d : A) (level : Level)
    (xs ys : List ℕ) → RunsCounted taken x y a b level xs → RunsCounted taken y z b d (after level xs) ys
    → RunsCounted taken x z a d level (xs ++ ys)
runs-chain {taken = taken} x y z a b d level xs ys c e = record {
  counts = c.counts ++ e.counts;
  counted = counted-append x.follower y.follower z.follower xs c.counts ys e.counts c.counted e.counted;
  gave = subst (λ (l : List Level). Gave taken x z a d l)
      (ap (λ l. line level c.counts ++ line l e.counts)
      (sym (after-as-many level c.counts xs (counted-many x.follower y.follower xs c.counts c.counted)))
      ∙ sym (line-append level c.counts e.counts))
      (gave-chain x y z a b d (line level c.counts) (line (after level xs) e.counts) c.gave e.gave);
}

-- the same of lines that differ in their edges alone
pub runs-same : {A : Type 0} {taken : A → Option (List ℕ)} (x y z w : LineFollower) (a b : A) (level : Level)
    (runs : List ℕ) → y.follower ≡ x.follower → y.queue ≡ x.queue → w.follower ≡ z.follower → w.queue ≡ z.queue
    → RunsCounted taken y z a b level runs → RunsCounted taken x w a b level runs
runs-same x y z w a b level runs follower queue follower' queue' c = record {
  counts = c.counts;
  counted = rw (follower', sym follower) c.counted;
  gave = record {
    form_is = ap (λ q. q.form) queue' ∙ c.gave.form_is ∙ ap (λ q. q.form) queue;
    each = λ begun all q. rw queue' (c.gave.each begun all (rw queue q));
  };
}

-- one run told is counted
pub run-counted : {A R E : Type 0} {taken : A → Option (List ℕ)} (old new : LineFollower) (a b : A) (v : R)
    (before told : Level) (run : ℕ) → told ≡ other before → RunTold {R = R} {E = E} taken old new a b (Ok v) run told
    → RunsCounted taken old new a b before (run ∷ [])
run-counted {R = R} {E = E} {taken = taken} old new a b v before told run is t = record {
  counts = t.cells ∷ [];
  counted = (new.follower, t.counted, refl);
  gave = gave-puts old new a b v (replicate t.cells (other before) ++ [])
      (subst (λ (c : List Level). Puts {R = R} {E = E} taken old.queue new.queue a b (Ok v) c)
      (ap (replicate t.cells) is ∙ sym (append-nil (replicate t.cells (other before)))) t.puts);
}

-- all edges among more samples, taken ahead: the runs that they end
split-ahead : (s t : Level) (past run from behind : ℕ) (levels more : List Level) (runs : List ℕ) → from + run ≡ 128
    → runs ≡ gaps from (turns s 128 levels) → behind ≡ (128 + length levels) - last_place from (turns s 128 levels)
    → t ≡ other (after (other s) runs)
    → runs_behind s (past + run) (levels ++ more) ≡ later past (runs ++ runs_behind t behind more)
split-ahead s t past run from behind levels more runs near are is level =
    behind-later s past run (past + run) (levels ++ more) refl
    ∙ ap (later past)
    (ap (λ n. runs_behind s n (levels ++ more)) (let e : run ≡ 128 - from = omega (arith, near) in e)
    ∙ turned-behind s 128 from levels more (omega (arith, near))
    ∙ ap₂ (λ l n. l ++ runs_behind (other (after (other s) l)) n more) (sym are) (sym is)
    ∙ ap (λ l. runs ++ runs_behind l behind more) (sym level))

pub followed-ahead : {A : Type 0} {taken : A → Option (List ℕ)} (old mid new : LineFollower) (a b : A)
    (begun : List ℕ) (front : List Level) (first : Follower) (before : Level) (seen levels : List Level) (high : Bool)
    (runs : List ℕ) (from behind : ℕ) → ArePlaced old.edges levels runs from behind
    → RunsCounted taken old mid a b (other (level_if old.edges.high)) runs
    → level_if high ≡ other (after (other (level_if old.edges.high)) runs)
    → new.follower ≡ mid.follower → new.queue ≡ mid.queue → new.edges.high ≡ high → new.edges.run ≡ behind
    → new.edges.run < 2 ^ 31 → Followed (taken a) begun front old first before seen []
    → Followed (taken b) begun front new first before (seen ++ levels) []
followed-ahead {taken = taken} old mid new a b begun front first before seen levels high runs from behind p c
    level follower queue high_is run short w = go runs c.counts p.runs_are level c.counted c.gave
  where
    s : Level
    s = level_if old.edges.high

    v : Level
    v = after before w.counts

    s-is : s ≡ other v
    s-is = w.level

    v-is : other s ≡ v
    v-is = ap other w.level ∙ other-other v

    Goal : Type 0
    Goal = Followed (taken b) begun front new first before (seen ++ levels) []

    split : (runs : List ℕ) (more : List Level) → runs ≡ gaps from (turns s 128 levels)
        → level_if high ≡ other (after (other s) runs)
        → runs_behind (other before) 0 ((seen ++ levels) ++ more)
        ≡ w.runs ++ later w.past (runs ++ runs_behind (level_if new.edges.high) behind more)
    split runs more are level =
        ap (runs_behind (other before) 0) (append_assoc seen levels more) ∙ w.split (levels ++ more)
        ∙ ap (λ l. w.runs ++ l)
        (split-ahead s (level_if new.edges.high) w.past old.edges.run from behind levels more runs p.near are p.behind_is
        (ap level_if high_is ∙ level))

    go : (runs counts : List ℕ) → runs ≡ gaps from (turns s 128 levels) → level_if high ≡ other (after (other s) runs)
        → CountedAll old.follower runs counts mid.follower → Gave taken old mid a b (line (other s) counts) → Goal
    go [] (n ∷ counts) are level counted gave = absurd counted
    go (r ∷ runs) [] are level counted gave = absurd counted
    go [] [] are level counted gave =
        let same : level_if new.edges.high ≡ s = ap level_if high_is ∙ level ∙ other-other s in
        let cells : List Level = front ++ (line before w.counts ++ replicate w.given s) in
        record {
          runs = w.runs;
          counts = w.counts;
          past = w.past;
          given = w.given;
          at = w.at;
          split = λ more.
              split [] more are level
              ∙ ap (λ l. w.runs ++ l)
              (sym (behind-later (level_if new.edges.high) w.past behind (w.past + new.edges.run) more
              (omega (arith, run))));
          level = same ∙ w.level;
          short = short;
          counted = w.counted;
          passed = rw (follower, counted) w.passed;
          cells = rw (queue, same)
              (subst (λ (l : List Level). Queued (taken b) begun mid.queue.form (waiting mid.queue) l) (append-nil cells)
              (gave.each begun cells w.cells));
        }
    go (r ∷ runs) (n ∷ counts) are level counted gave =
        let cells : List Level = front ++ (line before w.counts ++ replicate w.given s) in
        let many = counted-many old.follower mid.follower (r ∷ runs) (n ∷ counts) counted in
        record {
          runs = w.runs ++ (w.past + r) ∷ runs;
          counts = w.counts ++ (w.given + n) ∷ counts;
          past = 0;
          given = 0;
          at = new.follower;
          split = λ more.
              split (r ∷ runs) more are level
              ∙ ap (λ m. w.runs ++ (w.past + r) ∷ (runs ++ runs_behind (level_if new.edges.high) m more))
              (let e : behind ≡ 0 + new.edges.run = omega (arith, run) in e)
              ∙ sym (append_assoc w.runs ((w.past + r) ∷ runs)
              (runs_behind (level_if new.edges.high) (0 + new.edges.run) more));
          level = ap level_if high_is ∙ level ∙ ap (λ l. other (after l (r ∷ runs))) v-is
              ∙ ap other (sym (after-as-many v ((w.given + n) ∷ counts) (r ∷ runs) many)
              ∙ sym (after-append before w.counts ((w.given + n) ∷ counts)));
          short = short;
          counted = counted-append first w.at new.follower w.runs w.counts ((w.past + r) ∷ runs) ((w.given + n) ∷ counts)
              w.counted (
                counted.0,
                counted-rest w.at old.follower counted.0 w.past w.given r n w.passed counted.1,
                rw follower counted.2,
              );
          passed = passed-none new.follower;
          cells = rw queue
              (subst (λ (l : List Level). Queued (taken b) begun mid.queue.form (waiting mid.queue) l)
              (ap₂ (λ x y. (front ++ (line before w.counts ++ replicate w.given x)) ++ line y (n ∷ counts)) s-is v-is
              ∙ cells-runs v front (line before w.counts) w.given n counts
              ∙ line-runs before v (level_if new.edges.high) front w.counts ((w.given + n) ∷ counts) refl)
              (gave.each begun cells w.cells));
        }
