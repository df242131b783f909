-- A line that is followed, through the edges of a piece and to its end.
use Rattle.std.proofs.Common.{ℕ, List, [], ◌∷◌, ◌++◌, ◌≡◌, ◌<◌, ◌≤◌, ◌+◌, ◌-◌, ◌/◌, ◌^◌, refl, sym, ap, ap₂}
use Rattle.std.proofs.Common.{◌∙◌, subst, arith, append_assoc, append-nil, replicate, not}
use Rattle.std.proofs.Common.{Option, Some, Result, Ok, Err}
use Rattle.std.proofs.Common.{Bool, IfOk}
use Rattle.aes3_cell.proofs.WrittenForms.{bytes-nothing}
use Rattle.aes3_level.specs.declared.level.Level.{Level}
use Rattle.aes3_level.specs.declared.level.Level.TheVariants.{Low, High}
use Rattle.aes3_level.specs.Cells.{line, other, after}
use Rattle.aes3_level.proofs.Runs.{after-append, other-other}
use Rattle.aes3_capture.specs.declared.follower.Follower.{Follower}
use Rattle.aes3_capture.specs.Captures.{Captures, IsBetween, SpreadsLate, margin, wander}
use Rattle.aes3_capture.proofs.Counts.{captures-late}
use Rattle.aes3_capture.specs.Following.{Follows, Passed, Counted}
use Rattle.aes3_capture.proofs.Whole.{passed-more, counted-rest, counted-line, passed-none}
use Rattle.aes3_capture_recovery.specs.Endings.{level_if}
use Rattle.aes3_capture_recovery.specs.Queues.{Queued, Puts, waiting}
use Rattle.aes3_capture_recovery.specs.Runs.{AreCaptured, EdgeCame, NoEdgeCame, levels_in, runs_behind}
use Rattle.aes3_capture_recovery.specs.LineFollowing.{Followed, Gives, RunTold, SomeTold}
use Rattle.aes3_capture_recovery.specs.declared.edges.Piece.{Piece}
use Rattle.aes3_capture_recovery.specs.declared.line_follower.LineFollower.{LineFollower}
use Rattle.aes3_capture_recovery.proofs.RunsBehind.{behind-same, behind-edge, cells-told, cells-run}
use Rattle.aes3_capture_recovery.proofs.SameLevels.{level-not}
use Rattle.aes3_capture_recovery.proofs.Steady.{counted-more}
use Rattle.aes3_capture_recovery.proofs.Queueing.{waits-puts}

-- cells put behind those that a queue was given
pub queued-more : {A R E : Type 0} {taken : A → Option (List ℕ)} (old new : LineFollower) (a b : A) (v : R)
    (begun : List ℕ) (added cells all : List Level) → Puts {R = R} {E = E} taken old.queue new.queue a b (Ok v) added
    → Queued (taken a) begun old.queue.form (waiting old.queue) cells → cells ++ added ≡ all
    → Queued (taken b) begun new.queue.form (waiting new.queue) all
queued-more {taken = taken} old new a b v begun added cells all p q is =
    let put : Queued (taken b) begun new.queue.form (waiting new.queue) (cells ++ added)
    = rw p.form (p.cells begun cells q) in
    subst (λ (c : List Level). Queued (taken b) begun new.queue.form (waiting new.queue) c) is put

-- a line of which only the samples behind its first edge came
pub followed-first : (told : Option (List ℕ)) (begun : List ℕ) (front : List Level) (f : LineFollower)
    → Queued told begun f.queue.form (waiting f.queue) front → f.edges.run < 2 ^ 31
    → Followed told begun front f f.follower (other (level_if f.edges.high))
    (replicate f.edges.run (level_if f.edges.high)) []
followed-first told begun front f queued short =
    let s : Level = level_if f.edges.high in
    record {
      runs = [];
      counts = [];
      past = 0;
      given = 0;
      at = f.follower;
      split = λ more.
          ap (λ x. runs_behind x 0 (replicate f.edges.run s ++ more)) (other-other s)
          ∙ behind-same s 0 f.edges.run more;
      level = sym (other-other s);
      short = short;
      counted = refl;
      passed = passed-none f.follower;
      cells = subst (λ (c : List Level). Queued told begun f.queue.form (waiting f.queue) c) (sym (append-nil front))
          queued;
    }

-- a queue of which nothing was put
pub queued-none : (begun : List ℕ) (f : LineFollower) → waiting f.queue ≡ []
    → Queued (Some begun) begun f.queue.form (waiting f.queue) []
queued-none begun f none = record {
  words = [];
  tells = ap Some (sym (append-nil begun) ∙ ap (λ b. begun ++ b) (sym (bytes-nothing f.queue.form)));
  cells = none;
}

-- a piece that comes
pub followed-piece : (told : Option (List ℕ)) (begun : List ℕ) (front : List Level) (f : LineFollower)
    (first : Follower) (before : Level) (levels piece : List Level) → Followed told begun front f first before levels []
    → Followed told begun front f first before (levels ++ piece) piece
followed-piece told begun front f first before levels piece w = record {
  runs = w.runs;
  counts = w.counts;
  past = w.past;
  given = w.given;
  at = w.at;
  split = λ more. ap (runs_behind (other before) 0) (append_assoc levels piece more) ∙ w.split (piece ++ more);
  level = w.level;
  short = w.short;
  counted = w.counted;
  passed = w.passed;
  cells = w.cells;
}

pub followed-begins : (told : Option (List ℕ)) (begun : List ℕ) (front : List Level) (old new : LineFollower)
    (first : Follower) (before : Level) (seen levels piece : List Level) → new ≡ old → piece ≡ levels
    → Followed told begun front old first before seen []
    → Followed told begun front new first before (seen ++ levels) piece
followed-begins told begun front old new first before seen levels piece same is w =
    subst (λ (f : LineFollower). Followed told begun front f first before (seen ++ levels) piece) (sym same)
    (subst (λ (p : List Level). Followed told begun front old first before (seen ++ levels) p) (sym is)
    (followed-piece told begun front old first before seen levels w))

-- nothing is told of samples that are few
pub none-told : {A R E : Type 0} {taken : A → Option (List ℕ)} (f : LineFollower) (a : A) (v : R)
    → f.edges.run < 2 ^ 31 → SomeTold {R = R} {E = E} taken f f a a (Ok v)
none-told f a v short = record {
  samples = 0;
  cells = 0;
  passed = passed-none f.follower;
  puts = waits-puts f.queue f.queue v [] refl (append-nil _);
  waits = omega arith;
  high = refl;
  short = short;
}

-- the runs of levels in which an edge comes
split-edge : (s t : Level) (past run samples : ℕ) (xs ys zs : List Level) (edge : ℕ) → t ≡ other s
    → xs ≡ replicate samples s ++ t ∷ ys → edge ≡ past + run + samples
    → runs_behind s (past + run) (xs ++ zs) ≡ edge ∷ runs_behind t 1 (ys ++ zs)
split-edge s t past run samples xs ys zs edge turned is sum =
    ap (λ x. runs_behind s (past + run) (x ++ zs)) (is ∙ ap (λ x. replicate samples s ++ x ∷ ys) turned)
    ∙ ap (runs_behind s (past + run)) (append_assoc (replicate samples s) (other s ∷ ys) zs)
    ∙ behind-same s (past + run) samples (other s ∷ (ys ++ zs))
    ∙ behind-edge s (past + run + samples) (ys ++ zs)
    ∙ ap₂ (λ n x. n ∷ runs_behind x 1 (ys ++ zs)) (sym sum) (sym turned)

-- the level behind a run more
level-behind : (before s t : Level) (counts : List ℕ) (n : ℕ) → s ≡ other (after before counts) → t ≡ other s
    → t ≡ other (after before (counts ++ n ∷ []))
level-behind before s t counts n is turned =
    turned ∙ ap other is ∙ ap other (sym (after-append before counts (n ∷ [])))

-- an edge that comes, and the run that it ended told
pub followed-edge : {A R E : Type 0} {taken : A → Option (List ℕ)} (old mid new : LineFollower) (a b : A) (v : R)
    (begun : List ℕ) (front : List Level) (first : Follower) (before : Level) (levels : List Level)
    (piece left : Piece) (run : ℕ)
    → piece.len ≤ 64 → EdgeCame old.edges piece run mid.edges left → mid.follower ≡ old.follower
    → mid.queue ≡ old.queue
    → (high : Bool) → high ≡ not mid.edges.high
    → RunTold {R = R} {E = E} taken mid new a b (Ok v) run (level_if high)
    → Followed (taken a) begun front old first before levels (levels_in piece)
    → Followed (taken b) begun front new first before levels (levels_in left)
followed-edge {R = R} {E = E} {taken = taken} old mid new a b v begun front first before levels piece left run few e
    same_follower same_queue high high_is r w =
    let s : Level = level_if old.edges.high in
    let short = w.short in
    let edge : ℕ = w.past + run in
    let exact : run ≡ old.edges.run + e.samples = omega (arith, few, short, e) in
    let sum : edge ≡ w.past + old.edges.run + e.samples = omega (arith, exact) in
    let ended : level_if high ≡ s
    = ap level_if high_is ∙ level-not mid.edges.high ∙ ap other e.turned ∙ other-other s in
    let counted : Counted old.follower run r.cells new.follower = rw same_follower at r.counted in
    let one : Counted w.at edge (w.given + r.cells) new.follower
    = counted-rest w.at old.follower new.follower w.past w.given run r.cells w.passed counted in
    let puts : Puts {R = R} {E = E} taken old.queue new.queue a b (Ok v) (replicate r.cells s)
    = rw ended at (rw same_queue at r.puts) in
    let edges : new.edges ≡ mid.edges = r.edges in
    let one_waits : new.edges.run ≡ 1 = ap (λ x. x.run) edges ∙ e.next in
    let level : level_if new.edges.high ≡ other s = ap (λ x. level_if x.high) edges ∙ e.turned in
    record {
      runs = w.runs ++ edge ∷ [];
      counts = w.counts ++ (w.given + r.cells) ∷ [];
      past = 0;
      given = 0;
      at = new.follower;
      split = λ more.
          w.split more
          ∙ ap (λ x. w.runs ++ x)
          (split-edge s (level_if mid.edges.high) w.past old.edges.run e.samples (levels_in piece) (levels_in left) more
          edge e.turned e.levels sum)
          ∙ sym (append_assoc w.runs (edge ∷ []) (runs_behind (level_if mid.edges.high) 1 (levels_in left ++ more)))
          ∙ ap₂ (λ x n. (w.runs ++ edge ∷ []) ++ runs_behind x n (levels_in left ++ more))
          (e.turned ∙ sym level) (let z : 1 ≡ 0 + new.edges.run = omega (arith, one_waits) in z);
      level = level-behind before s (level_if new.edges.high) w.counts (w.given + r.cells) w.level level;
      short = omega (arith, one_waits);
      counted = counted-more first w.at new.follower w.runs w.counts edge (w.given + r.cells) w.counted one;
      passed = passed-none new.follower;
      cells = queued-more old new a b v begun (replicate r.cells s)
          (front ++ (line before w.counts ++ replicate w.given s))
          (front ++ (line before (w.counts ++ (w.given + r.cells) ∷ []) ++ [])) puts w.cells
          (cells-told s front (line before w.counts) w.given r.cells
          ∙ ap (λ x. front ++ (line before w.counts ++ replicate (w.given + r.cells) x)) w.level
          ∙ cells-run before front w.counts (w.given + r.cells));
    }

-- the end of a piece, with what is told of the samples that wait
pub followed-end : {A R E : Type 0} {taken : A → Option (List ℕ)} (old mid new : LineFollower) (a b : A) (v : R)
    (begun : List ℕ) (front : List Level) (first : Follower) (before : Level) (levels : List Level)
    (piece : Piece)
    → piece.len ≤ 64 → NoEdgeCame old.edges piece mid.edges → mid.follower ≡ old.follower → mid.queue ≡ old.queue
    → SomeTold {R = R} {E = E} taken mid new a b (Ok v)
    → Followed (taken a) begun front old first before levels (levels_in piece)
    → Followed (taken b) begun front new first before levels []
followed-end {R = R} {E = E} {taken = taken} old mid new a b v begun front first before levels piece few e same_follower
    same_queue r w =
    let s : Level = level_if old.edges.high in
    let short = w.short in
    let run_is = e.run_is in
    let exact : mid.edges.run ≡ old.edges.run + piece.len = omega (arith, few, short, run_is) in
    let high : new.edges.high ≡ old.edges.high = r.high ∙ e.same in
    let level : level_if new.edges.high ≡ s = ap level_if high in
    let mid_level : level_if mid.edges.high ≡ s = ap level_if e.same in
    let waits = r.waits in
    let sum : w.past + old.edges.run + piece.len ≡ w.past + r.samples + new.edges.run = omega (arith, exact, waits) in
    let passed : Passed old.follower r.samples r.cells new.follower = rw same_follower at r.passed in
    let puts : Puts {R = R} {E = E} taken old.queue new.queue a b (Ok v) (replicate r.cells s)
    = rw mid_level at (rw same_queue at r.puts) in
    record {
      runs = w.runs;
      counts = w.counts;
      past = w.past + r.samples;
      given = w.given + r.cells;
      at = w.at;
      split = λ more.
          w.split more
          ∙ ap (λ x. w.runs ++ x)
          (ap (λ x. runs_behind s (w.past + old.edges.run) (x ++ more)) e.levels
          ∙ behind-same s (w.past + old.edges.run) piece.len more
          ∙ ap₂ (λ x n. runs_behind x n more) (sym level) sum);
      level = level ∙ w.level;
      short = r.short;
      counted = w.counted;
      passed = passed-more w.at old.follower new.follower w.past w.given r.samples r.cells w.passed passed;
      cells = queued-more old new a b v begun (replicate r.cells s)
          (front ++ (line before w.counts ++ replicate w.given s))
          (front ++ (line before w.counts ++ replicate (w.given + r.cells) (level_if new.edges.high))) puts w.cells
          (cells-told s front (line before w.counts) w.given r.cells
          ∙ ap (λ x. front ++ (line before w.counts ++ replicate (w.given + r.cells) x)) (sym level));
    }

-- what was given of a capture begins with its cells
pub followed-gives : (told : Option (List ℕ)) (begun : List ℕ) (front : List Level)
    (f : LineFollower) (first : Follower) (before : Level) (levels : List Level) (same other_mean displaced : ℕ)
    (counts : List ℕ)
    → Followed told begun front f first before levels [] → Follows first same other_mean displaced 0 0
    → Captures first.bounds same other_mean displaced counts (runs_behind (other before) 0 levels)
    → Gives told begun front f (line before counts)
followed-gives told begun front f first before levels same other_mean displaced counts w follows captures =
    let all : runs_behind (other before) 0 levels ≡ w.runs =
    ap (runs_behind (other before) 0) (sym (append-nil levels)) ∙ w.split []
    ∙ ap (λ x. w.runs ++ x) (no-more (level_if f.edges.high) (w.past + f.edges.run)) ∙ append-nil w.runs in
    let mine : Captures first.bounds same other_mean displaced counts w.runs = rw all at captures in
    let is : w.counts ≡ counts
    = counted-line first w.at w.runs w.counts counts same other_mean displaced w.counted follows mine in
    record {
      more = replicate w.given (level_if f.edges.high);
      queued = rw (← is) w.cells;
    }
  where
    no-more : (s : Level) (run : ℕ) → runs_behind s run [] ≡ []
    no-more Low run = refl
    no-more High run = refl

-- the end of a piece, whatever the sink says
pub followed-rest : {A R E : Type 0} {taken : A → Option (List ℕ)} (old mid new : LineFollower) (a b : A)
    (r : Result R E) (begun : List ℕ) (front : List Level) (first : Follower) (before : Level) (levels : List Level)
    (piece : Piece)
    → piece.len ≤ 64 → NoEdgeCame old.edges piece mid.edges → mid.follower ≡ old.follower → mid.queue ≡ old.queue
    → SomeTold taken mid new a b r → Followed (taken a) begun front old first before levels (levels_in piece)
    → IfOk r (λ x. Followed (taken b) begun front new first before levels [])
followed-rest old mid new a b (Ok v) begun front first before levels piece few e same_follower same_queue t w =
    followed-end old mid new a b v begun front first before levels piece few e same_follower same_queue t w
followed-rest old mid new a b (Err x) begun front first before levels piece few e same_follower same_queue t w = tt

pub gives-ok : {R E : Type 0} (r : Result R E) (told : Option (List ℕ)) (begun : List ℕ) (front : List Level)
    (f : LineFollower) (first : Follower) (before : Level) (levels : List Level) (same other_mean displaced : ℕ)
    (cells : List Level) → IfOk r (λ x. Followed told begun front f first before levels [])
    → Follows first same other_mean displaced 0 0
    → AreCaptured (Captures first.bounds same other_mean displaced) before cells levels
    → IfOk r (λ x. Gives told begun front f cells)
gives-ok (Ok v) told begun front f first before levels same other_mean displaced cells w follows a =
    subst (λ (c : List Level). Gives told begun front f c) (sym a.cells_are)
    (followed-gives told begun front f first before levels same other_mean displaced a.counts w follows a.runs_are)
gives-ok (Err x) told begun front f first before levels same other_mean displaced cells w follows a = tt

-- a capture with late edges is one
pub captured-late : (first : Follower) (before : Level) (cells levels : List Level)
    (same other_mean displaced spread late later : ℕ)
    → spread < first.bounds.low / 2 - margin first.bounds
    → late + spread < later + (first.bounds.low - wander first.bounds)
    → later + spread < late + (first.bounds.low - wander first.bounds)
    → IsBetween late same spread → IsBetween later other_mean spread
    → AreCaptured (SpreadsLate first.bounds spread late later displaced) before cells levels
    → AreCaptured (Captures first.bounds same other_mean displaced) before cells levels
captured-late first before cells levels same other_mean displaced spread late later narrow above below s o a = record {
  counts = a.counts;
  cells_are = a.cells_are;
  runs_are = captures-late first.bounds spread late later same other_mean displaced a.counts
      (runs_behind (other before) 0 levels) narrow above below s o a.runs_are;
}
