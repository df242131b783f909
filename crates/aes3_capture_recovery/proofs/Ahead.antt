-- Edges that were found ahead, and the runs before them.
use Rattle.std.proofs.Common.{ℕ, zero, suc, List, [], ◌∷◌, ◌++◌, ◌≡◌, ◌≤◌, ◌<◌, ◌+◌, ◌-◌, Option, Ok, Bool, true}
use Rattle.std.proofs.Common.{false, refl, sym, ap, ap₂, ◌∙◌, subst, arith, append_assoc, append-nil, length, not, take, drop, get_or, ◌%◌, ◌^◌, min, length-append}
use Rattle.aes3_level.specs.declared.level.Level.{Level}
use Rattle.aes3_level.specs.Cells.{line, other, after}
use Rattle.aes3_capture.specs.declared.follower.Follower.{Follower}
use Rattle.aes3_capture.specs.Following.{CountedAll, Tracked}
use Rattle.aes3_capture_recovery.specs.Endings.{level_if}
use Rattle.aes3_capture_recovery.specs.Queues.{Puts}
use Rattle.aes3_capture_recovery.specs.Recovering.{AreTold, Holds, Recovered, Setting, StandsBehind, StandsOn, runs_to_end, runs_waiting}
use Rattle.aes3_capture_recovery.specs.Turns.{gaps, last_place, turns}
use Rattle.aes3_level.proofs.Runs.{after-append, other-other}
use Rattle.aes3_capture_recovery.proofs.Turning.{turned-runs}
use Rattle.aes3_capture_recovery.specs.RecoverySteps.{KeepsTold, RunsCounted, RunsTold}
use Rattle.aes3_capture_recovery.specs.declared.edges.Edges.{Edges}
use Rattle.aes3_capture_recovery.specs.declared.line_follower.LineFollower.{LineFollower}
use Rattle.aes3_capture_recovery.specs.declared.queue.CellQueue.{CellQueue}
use Rattle.aes3_capture_recovery.specs.declared.recovery.Recovery.{Recovery}
use Rattle.aes3_capture_recovery.specs.declared.recovery.State.TheVariants.{Following, Measuring}
use Rattle.std.proofs.lemmas.List.{length-drop, length-take}
use Rattle.aes3_capture_recovery.proofs.SameLevels.{level-not}
use Rattle.aes3_capture_recovery.proofs.Telling.{after-even, after-odd, gave-puts, told-all}
use Rattle.aes3_capture_recovery.proofs.Recovering.{holds-keeps}

-- what is tracked is counted
pub tracked-counted : (f g : Follower) (runs cells places : List ℕ) → Tracked f runs cells places g → CountedAll f runs cells g
tracked-counted f g [] [] [] t = t
tracked-counted f g [] [] (p ∷ places) t = absurd t
tracked-counted f g [] (n ∷ cells) places t = absurd t
tracked-counted f g (r ∷ runs) [] places t = absurd t
tracked-counted f g (r ∷ runs) (n ∷ cells) [] t = absurd t
tracked-counted f g (r ∷ runs) (n ∷ cells) (p ∷ places) t =
    (t.0, t.1.counted, tracked-counted t.0 g runs cells places t.3)

-- and each run has three cells at most
pub tracked-short : (f g : Follower) (runs cells places : List ℕ) (i : ℕ) → Tracked f runs cells places g
    → i < length cells → get_or cells i 0 ≤ 3
tracked-short f g [] [] places i t below = absurd (omega (arith, below))
tracked-short f g [] (n ∷ cells) places i t below = absurd t
tracked-short f g (r ∷ runs) [] places i t below = absurd t
tracked-short f g (r ∷ runs) (n ∷ cells) [] i t below = absurd t
tracked-short f g (r ∷ runs) (n ∷ cells) (p ∷ places) zero t below = t.1.few
tracked-short f g (r ∷ runs) (n ∷ cells) (p ∷ places) (suc i) t below =
    tracked-short t.0 g runs cells places i t.3 (omega (arith, below))

-- no runs wait of a line that is followed
follows-none : (told : Option (List ℕ)) (setting : Setting) (level : Level) (runs : List ℕ) (now : Recovery)
    → now.state ≡ Following → (w : StandsBehind told setting level runs now)
    → (now.count ≡ 0) × (w.done ≡ runs)
follows-none told setting level runs now is w =
    let none : now.count ≡ 0 = w.holds.order.none_wait (λ m. apart (sym is ∙ m)) in
    let nothing : runs_waiting now ≡ [] = rw none refl in
    (none, sym (append-nil w.done) ∙ ap (λ x. w.done ++ x) (sym nothing) ∙ w.runs_are)
  where
    apart : Following ≡ Measuring → ⊥
    apart e = cc

-- the runs of edges that are tracked are counted
pub runs-tracked : {A R E : Type 0} {taken : A → Option (List ℕ)} (old new : LineFollower) (a b : A) (v : R) (level : Level)
    (runs counts places : List ℕ) (queue : CellQueue) → Tracked old.follower runs counts places new.follower
    → new.queue ≡ queue → Puts {R = R} {E = E} taken old.queue queue a b (Ok v) (line level counts)
    → RunsCounted taken old new a b level runs
runs-tracked {R = R} {E = E} old new a b v level runs counts places queue t same puts = record {
  counts = counts;
  counted = tracked-counted old.follower new.follower runs counts places t;
  gave = gave-puts {R = R} {E = E} old new a b v (line level counts) (rw same puts);
}

-- runs that are counted of a line that is followed, behind others
pub stands-counted : {A : Type 0} {taken : A → Option (List ℕ)} (old new : Recovery) (a b : A)
    (setting : Setting) (level : Level) (runs more : List ℕ)
    → old.state ≡ Following → StandsBehind (taken a) setting level runs old
    → RunsCounted taken old.line new.line a b (after level runs) more
    → new.found ≡ old.found → new.known ≡ old.known → new.figures.measured ≡ old.figures.measured
    → new.count ≡ old.count → StandsBehind (taken b) setting level (runs ++ more) new
stands-counted {taken = taken} old new a b setting level runs more is w counted found known measured count =
    let none = follows-none (taken a) setting level runs old is w in
    let followed : old.found ≡ true = w.holds.order.followed is in
    let was : AreTold (taken a) setting level runs 0 old
    = subst (λ d. AreTold (taken a) setting level d 0 old) none.1 w.holds.told_is in
    let told : RunsTold taken old new a b (after level runs) more = record {
      found = λ f. counted;
      unfound = λ f. absurd (differ (sym followed ∙ f));
    } in
    record {
      done = runs ++ more;
      runs_are = ap (λ x. (runs ++ more) ++ x)
          (let empty : new.count ≡ 0 = count ∙ none.0 in
          let nothing : runs_waiting new ≡ [] = rw empty refl in nothing)
          ∙ append-nil (runs ++ more);
      holds = record {
        order = record {
          none_wait = λ other. count ∙ none.0;
          none_past = λ m. refl;
          followed = λ f. found ∙ followed;
          none_followed = λ f. refl;
        };
        told_is = told-all old new a b setting level runs 0 more was (λ some. refl) told found known measured;
      };
    }
  where
    differ : true ≡ false → ⊥
    differ e = cc

-- the first of those from a place on
pub drop-one : (xs : List ℕ) (i : ℕ) → i < length xs → take 1 (drop i xs) ≡ get_or xs i 0 ∷ []
drop-one [] i below = absurd (omega (arith, below))
drop-one (x ∷ xs) zero below = refl
drop-one (x ∷ xs) (suc i) below = drop-one xs i (omega (arith, below))

-- those up to a place, and some from there on
pub take-on-from : (xs : List ℕ) (i n m : ℕ) → m ≡ i + n → take i xs ++ take n (drop i xs) ≡ take m xs
take-on-from xs zero n m is = let e : n ≡ m = omega (arith, is) in ap (λ k. take k xs) e
take-on-from [] (suc i) zero zero is = refl
take-on-from [] (suc i) zero (suc m) is = refl
take-on-from [] (suc i) (suc n) zero is = refl
take-on-from [] (suc i) (suc n) (suc m) is = refl
take-on-from (x ∷ xs) (suc i) n zero is = absurd (omega (arith, is))
take-on-from (x ∷ xs) (suc i) n (suc m) is = ap (λ l. x ∷ l) (take-on-from xs i n m (omega (arith, is)))

pub take-on : (runs xs : List ℕ) (i n j : ℕ) → j ≡ i + n → (runs ++ take i xs) ++ take n (drop i xs) ≡ runs ++ take j xs
take-on runs xs i n j is =
    append_assoc runs (take i xs) (take n (drop i xs)) ∙ ap (λ l. runs ++ l) (take-on-from xs i n j is)

-- how many some from a place on are
pub length-some : (xs : List ℕ) (i n : ℕ) → i + n ≤ length xs → length (take n (drop i xs)) ≡ n
length-some xs i n within =
    let taken = length-take n (drop i xs) in
    let left = length-drop i xs in
    omega (arith, taken, left, within)

-- the level behind these runs, by how many they are
pub level-odd : (before : Level) (runs : List ℕ) (high : Bool) → length runs % 2 ≡ 1 → level_if high ≡ other before
    → level_if (not high) ≡ other (after before runs)
level-odd before runs high odd is = level-not high ∙ ap other (is ∙ sym (after-odd before runs odd))

pub level-even : (before : Level) (runs : List ℕ) (high : Bool) → length runs % 2 ≡ 0 → level_if high ≡ other before
    → level_if high ≡ other (after before runs)
level-even before runs high even is = is ∙ ap other (sym (after-even before runs even))

-- one edge, behind others
pub stands-single : (told told' : Option (List ℕ)) (old mid new : Recovery) (setting : Setting) (level : Level)
    (runs more : List ℕ) (run : ℕ) → KeepsTold old mid → mid.state ≡ old.state → StandsBehind told setting level runs old
    → more ≡ run ∷ []
    → ((done : List ℕ) → Holds told setting level done 0 mid → done ++ runs_waiting mid ≡ runs
    → StandsOn told' setting level ((done ++ runs_waiting mid) ++ (0 + run) ∷ []) new.line.edges.run new)
    → StandsBehind told' setting level (runs ++ more) new
stands-single told told' old mid new setting level runs more run k state w one edge =
    let waits : runs_waiting mid ≡ runs_waiting old = rw (k.count_is, k.runs_are) refl in
    let all : w.done ++ runs_waiting mid ≡ runs = ap (λ x. w.done ++ x) waits ∙ w.runs_are in
    let s = edge w.done (holds-keeps told setting level w.done 0 old mid k state w.holds) all in
    let sum = s.samples_are in
    let past : s.past ≡ 0 = omega (arith, sum) in
    record {
      done = s.done;
      runs_are = s.runs_are ∙ ap₂ (λ x n. x ++ n ∷ []) all (let z : 0 + run ≡ run = omega arith in z)
          ∙ ap (λ x. runs ++ x) (sym one);
      holds = subst (λ n. Holds told' setting level s.done n new) past s.holds;
    }

-- where edges stand among more samples: the runs that they end, and the samples after the last of them
pub record ArePlaced (edges : Edges) (levels : List Level) (runs : List ℕ) (from behind : ℕ) : Type 0 where
  pub near : from + edges.run ≡ 128
  pub runs_are : runs ≡ gaps from (turns (level_if edges.high) 128 levels)
  pub behind_is : behind ≡ (128 + length levels) - last_place from (turns (level_if edges.high) 128 levels)

-- all edges among more samples, taken ahead
pub record AreTaken (told told' : Option (List ℕ)) (setting : Setting) (levels : List Level) (old mid new : Recovery)
    (runs : List ℕ) (from behind : ℕ) : Type 0 where
  pub is : old.state ≡ Following
  pub some : 1 ≤ old.figures.samples
  pub placed : ArePlaced old.line.edges levels runs from behind
  pub step : (level : Level) (before : List ℕ) → StandsBehind told setting level before old
      → level_if old.line.edges.high ≡ other (after level before)
      → StandsBehind told' setting level (before ++ runs) mid
      × (level_if new.line.edges.high ≡ other (after level (before ++ runs)))
  pub keeps : KeepsTold mid new
  pub state : new.state ≡ mid.state
  pub run : new.line.edges.run ≡ behind
  pub short : new.line.edges.run < 2 ^ 31
  pub samples : new.figures.samples ≡ min (old.figures.samples + length levels) (2 ^ 64 - 1)

unfoldable pub recovered-ahead : (told told' : Option (List ℕ)) (setting : Setting) (seen levels : List Level) (old mid new : Recovery)
    (runs : List ℕ) (from behind : ℕ) → AreTaken told told' setting levels old mid new runs from behind
    → Recovered told setting seen [] old → Recovered told' setting (seen ++ levels) [] new
recovered-ahead told told' setting [] levels old mid new runs from behind h w =
    let was = w.samples in
    absurd (omega (arith, h, was))
recovered-ahead told told' setting (x ∷ seen) levels old mid new runs from behind h w =
    let near = h.placed.near in
    let k = h.keeps in
    let s = w.stands in
    let was = w.samples in
    let t = level_if old.line.edges.high in
    let past : s.past ≡ 0 = s.holds.order.none_followed h.is in
    let sum = s.samples_are in
    let stood : StandsBehind told setting w.level w.runs old = record {
      done = s.done;
      runs_are = s.runs_are;
      holds = subst (λ n. Holds told setting w.level s.done n old) past s.holds;
    } in
    let moved = h.step w.level w.runs stood s.turns in
    let before : other t ≡ after w.level w.runs = ap other s.turns ∙ other-other (after w.level w.runs) in
    let level_is = moved.1 in
    let waits : runs_waiting new ≡ runs_waiting mid = rw (k.count_is, k.runs_are) refl in
    record {
      level = w.level;
      runs = w.runs ++ runs;
      behind = behind;
      split = λ more.
          ap (runs_to_end (other w.level) 0) (append_assoc (x ∷ seen) levels more) ∙ w.split (levels ++ more)
          ∙ ap (λ l. w.runs ++ l)
          (ap (λ n. runs_to_end t n (levels ++ more)) (let e : w.behind ≡ 128 - from = omega (arith, sum, past, near) in e)
          ∙ turned-runs t 128 from levels more (omega (arith, near))
          ∙ ap₂ (λ l n. l ++ runs_to_end (other (after (other t) l)) n more) (sym h.placed.runs_are) (sym h.placed.behind_is)
          ∙ ap (λ l. runs ++ runs_to_end (other (after l runs)) behind more) before
          ∙ ap (λ l. runs ++ runs_to_end l behind more)
          (ap other (sym (after-append w.level w.runs runs)) ∙ sym level_is))
          ∙ sym (append_assoc w.runs runs (runs_to_end (level_if new.line.edges.high) behind more));
      first = w.first;
      samples = let both = length-append (x ∷ seen) levels in omega (arith, h, was, both);
      short = h.short;
      stands = record {
        done = moved.0.done;
        past = 0;
        runs_are = ap (λ l. moved.0.done ++ l) waits ∙ moved.0.runs_are;
        samples_are = omega (arith, h);
        turns = level_is;
        holds = holds-keeps told' setting w.level moved.0.done 0 mid new k h.state moved.0.holds;
      };
    }
