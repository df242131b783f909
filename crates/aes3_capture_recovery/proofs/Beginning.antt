-- A line that is found is followed from the first edge of the runs in which it was found.
use Rattle.std.proofs.Common.{ℕ, zero, suc, List, [], ◌∷◌, ◌++◌, ◌≡◌, ◌≤◌, ◌+◌, ◌-◌, ◌*◌, ◌/◌, ◌^◌, ◌⊎◌, inl, inr}
use Rattle.std.proofs.Common.{Option, Result, Ok, Err, IfOk, Bool, true, false, length, length-append, replicate, min}
use Rattle.std.proofs.Common.{refl, sym, ap, ap₂, ◌∙◌, subst, arith, append_assoc, append-nil}
use Rattle.aes3_level.specs.declared.level.Level.{Level}
use Rattle.aes3_level.specs.declared.level.Level.TheVariants.{Low, High}
use Rattle.aes3_level.specs.Cells.{line, other, after}
use Rattle.aes3_level.proofs.Runs.{after-append, other-other}
use Rattle.aes3_capture.specs.declared.follower.Follower.{Follower}
use Rattle.aes3_capture.proofs.Whole.{passed-none}
use Rattle.aes3_capture_recovery.specs.Beginning.{Began, Begun, FollowsFrom, IsFoundIn}
use Rattle.aes3_capture_recovery.specs.Endings.{level_if}
use Rattle.aes3_capture_recovery.specs.LineFollowing.{Followed}
use Rattle.aes3_capture_recovery.specs.Queues.{Queued, waiting}
use Rattle.aes3_capture_recovery.specs.Recovering.{AreTold, Holds, IsUnfound, Recovered, Setting, first_cells}
use Rattle.aes3_capture_recovery.specs.Recovering.{runs_to_end, runs_waiting, samples_of}
use Rattle.aes3_capture_recovery.specs.RecoverySteps.{Gave, KeepsTold, RunsTold}
use Rattle.aes3_capture_recovery.specs.Runs.{EdgeCame, levels_in, runs_behind}
use Rattle.aes3_capture_recovery.specs.declared.edges.Edges.{Edges}
use Rattle.aes3_capture_recovery.specs.declared.edges.Piece.{Piece}
use Rattle.aes3_capture_recovery.specs.declared.recovery.Recovery.{Recovery}
use Rattle.aes3_capture_recovery.proofs.Recovering.{holds-keeps, waits-keep}
use Rattle.aes3_capture_recovery.proofs.RunsToEnd.{after-as-many, after-more, end-edge, end-none, end-one, end-same}
use Rattle.aes3_capture_recovery.proofs.Telling.{counted-many}

-- samples of a level
replicate-more : (s : Level) (n : ℕ) (xs : List Level) → replicate n s ++ s ∷ xs ≡ s ∷ (replicate n s ++ xs)
replicate-more s zero xs = refl
replicate-more s (suc n) xs = ap (λ l. s ∷ l) (replicate-more s n xs)

-- the samples of runs are these
pub line-to-end : (s : Level) (run : ℕ) (levels : List Level)
    → line (other s) (runs_to_end s run levels) ≡ replicate run s ++ levels
line-to-end Low run [] = refl
line-to-end High run [] = refl
line-to-end Low run (Low ∷ levels) = line-to-end Low (suc run) levels ∙ sym (replicate-more Low run levels)
line-to-end High run (High ∷ levels) = line-to-end High (suc run) levels ∙ sym (replicate-more High run levels)
line-to-end Low run (High ∷ levels) = ap (λ l. replicate run Low ++ l) (line-to-end High 1 levels)
line-to-end High run (Low ∷ levels) = ap (λ l. replicate run High ++ l) (line-to-end Low 1 levels)

-- the runs that edges end, and the last
pub end-behind : (s : Level) (run : ℕ) (levels : List Level)
    → (last : ℕ) × (runs_to_end s run levels ≡ runs_behind s run levels ++ last ∷ [])
end-behind Low run [] = (run, refl)
end-behind High run [] = (run, refl)
end-behind Low run (Low ∷ levels) = end-behind Low (suc run) levels
end-behind High run (High ∷ levels) = end-behind High (suc run) levels
end-behind Low run (High ∷ levels) = let e = end-behind High 1 levels in (e.0, ap (λ l. run ∷ l) e.1)
end-behind High run (Low ∷ levels) = let e = end-behind Low 1 levels in (e.0, ap (λ l. run ∷ l) e.1)

-- the same list before one more
pub before-last : (xs ys : List ℕ) (x y : ℕ) → xs ++ x ∷ [] ≡ ys ++ y ∷ [] → xs ≡ ys
before-last [] [] x y e = refl
before-last [] (b ∷ []) x y e = cc
before-last [] (b ∷ c ∷ ys) x y e = cc
before-last (a ∷ []) [] x y e = cc
before-last (a ∷ c ∷ xs) [] x y e = cc
before-last (a ∷ xs) (b ∷ ys) x y e = let head : a ≡ b = cc in let tail : xs ++ x ∷ [] ≡ ys ++ y ∷ [] = cc in
    ap₂ (λ n l. n ∷ l) head (before-last xs ys x y tail)

-- so the runs that edges end are the same, where all are
pub behind-to-end : (s t : Level) (run some : ℕ) (xs ys : List Level) (runs : List ℕ)
    → runs_to_end s run xs ≡ runs ++ runs_to_end t some ys → runs_behind s run xs ≡ runs ++ runs_behind t some ys
behind-to-end s t run some xs ys runs e =
    let a = end-behind s run xs in
    let b = end-behind t some ys in
    before-last (runs_behind s run xs) (runs ++ runs_behind t some ys) a.0 b.0
    (sym a.1 ∙ e ∙ ap (λ l. runs ++ l) b.1 ∙ sym (append_assoc runs (runs_behind t some ys) (b.0 ∷ [])))

-- Samples that come behind those of some runs, by what the runs of all of them are: `rest` of what follows.
pub record AreSince (level : Level) (run : ℕ) (levels : List Level) (before : List ℕ) (rest : List Level → List ℕ)
    : Type 0 where
  pub since : List Level
  pub samples : line level before ++ since ≡ replicate run (other level) ++ levels
  pub runs_are : (more : List Level) → runs_to_end (other (after level before)) 0 (since ++ more) ≡ rest more

-- one run alone has none behind it
not-alone : (run d : ℕ) (ds rest : List ℕ) → 1 ≤ length rest → run ∷ [] ≡ d ∷ (ds ++ rest) → ⊥
not-alone run d ds rest some e =
    let many : length (run ∷ []) ≡ length (d ∷ (ds ++ rest)) = ap length e in
    let sum = length-append ds rest in
    omega (arith, many, sum, some)

pub heads : (a b : ℕ) (xs ys : List ℕ) → a ∷ xs ≡ b ∷ ys → a ≡ b
heads a b xs ys e = cc

pub tails : (a b : ℕ) (xs ys : List ℕ) → a ∷ xs ≡ b ∷ ys → xs ≡ ys
tails a b xs ys e = cc

since-one : (level : Level) (run : ℕ) (levels : List Level) (d : ℕ) (rest : List Level → List ℕ) → run ≡ d
    → ((more : List Level) → runs_to_end level 1 (levels ++ more) ≡ rest more)
    → AreSince level run (level ∷ levels) (d ∷ []) rest
since-one level run levels d rest same e = record {
  since = level ∷ levels;
  samples = ap (λ l. l ++ level ∷ levels) (append-nil (replicate d (other level)))
      ∙ ap (λ n. replicate n (other level) ++ level ∷ levels) (sym same);
  runs_are = λ more. ap (λ x. runs_to_end x 0 (level ∷ (levels ++ more))) (other-other level)
      ∙ end-one level 0 (levels ++ more) ∙ e more;
}

since-more : (level : Level) (run : ℕ) (levels : List Level) (d : ℕ) (ds : List ℕ) (rest : List Level → List ℕ)
    → run ≡ d → AreSince (other level) 1 levels ds rest → AreSince level run (level ∷ levels) (d ∷ ds) rest
since-more level run levels d ds rest same a = record {
  since = a.since;
  samples = append_assoc (replicate d (other level)) (line (other level) ds) a.since
      ∙ ap (λ l. replicate d (other level) ++ l) (a.samples ∙ ap (λ x. x ∷ levels) (other-other level))
      ∙ ap (λ n. replicate n (other level) ++ level ∷ levels) (sym same);
  runs_are = a.runs_are;
}

pub since-runs : (level : Level) (run : ℕ) (levels : List Level) (d : ℕ) (ds : List ℕ) (rest : List Level → List ℕ)
    → ((more : List Level) → 1 ≤ length (rest more))
    → ((more : List Level) → runs_to_end (other level) run (levels ++ more) ≡ d ∷ (ds ++ rest more))
    → AreSince level run levels (d ∷ ds) rest
since-runs level run [] d ds rest some e =
    absurd (not-alone run d ds (rest []) (some []) (sym (end-none (other level) run) ∙ e []))
since-runs Low run (High ∷ levels) d ds rest some e =
    let a = since-runs Low (suc run) levels d ds rest some e in
    record {
      since = a.since;
      samples = a.samples ∙ sym (replicate-more High run levels);
      runs_are = a.runs_are;
    }
since-runs High run (Low ∷ levels) d ds rest some e =
    let a = since-runs High (suc run) levels d ds rest some e in
    record {
      since = a.since;
      samples = a.samples ∙ sym (replicate-more Low run levels);
      runs_are = a.runs_are;
    }
since-runs Low run (Low ∷ levels) d [] rest some e =
    since-one Low run levels d rest (heads run d _ _ (e [])) (λ more. tails run d _ _ (e more))
since-runs High run (High ∷ levels) d [] rest some e =
    since-one High run levels d rest (heads run d _ _ (e [])) (λ more. tails run d _ _ (e more))
since-runs Low run (Low ∷ levels) d (d2 ∷ ds) rest some e =
    since-more Low run levels d (d2 ∷ ds) rest (heads run d _ _ (e []))
    (since-runs High 1 levels d2 ds rest some (λ more. tails run d _ _ (e more)))
since-runs High run (High ∷ levels) d (d2 ∷ ds) rest some e =
    since-more High run levels d (d2 ∷ ds) rest (heads run d _ _ (e []))
    (since-runs Low 1 levels d2 ds rest some (λ more. tails run d _ _ (e more)))

pub since-all : (level : Level) (levels : List Level) (before : List ℕ) (rest : List Level → List ℕ)
    → ((more : List Level) → 1 ≤ length (rest more))
    → ((more : List Level) → runs_to_end (other level) 0 (levels ++ more) ≡ before ++ rest more)
    → AreSince level 0 levels before rest
since-all level levels [] rest some e = record { since = levels; samples = refl; runs_are = e }
since-all level levels (d ∷ ds) rest some e = since-runs level 0 levels d ds rest some e

some-runs : (xs : List ℕ) (s : Level) (run : ℕ) (levels : List Level) → 1 ≤ length (xs ++ runs_to_end s run levels)
some-runs xs s run levels =
    let e = end-behind s run levels in
    let b = runs_behind s run levels in
    let all : length (xs ++ runs_to_end s run levels) ≡ length (xs ++ (b ++ e.0 ∷ []))
    = ap (λ l. length (xs ++ l)) e.1 in
    let first = length-append xs (b ++ e.0 ∷ []) in
    let second = length-append b (e.0 ∷ []) in
    omega (arith, all, first, second)

-- an edge that comes ends a run
edge-split : (seen : List Level) (piece left : Piece) (run : ℕ) (old mid new : Edges) (level : Level) (runs : List ℕ)
    (behind : ℕ) → (e : EdgeCame old piece run mid left) → new ≡ mid
    → ((more : List Level) → runs_to_end (other level) 0 (seen ++ more)
    ≡ runs ++ runs_to_end (level_if old.high) behind (levels_in piece ++ more))
    → (more : List Level) → runs_to_end (other level) 0 (seen ++ more)
    ≡ (runs ++ (behind + e.samples) ∷ []) ++ runs_to_end (level_if new.high) 1 (levels_in left ++ more)
edge-split seen piece left run old mid new level runs behind e edges split more =
    let u : Level = level_if old.high in
    split more
    ∙ ap (λ x. runs ++ x)
    (ap (λ x. runs_to_end u behind (x ++ more))
    (e.levels ∙ ap (λ x. replicate e.samples u ++ x ∷ levels_in left) e.turned)
    ∙ ap (runs_to_end u behind) (append_assoc (replicate e.samples u) (other u ∷ levels_in left) more)
    ∙ end-same u behind e.samples (other u ∷ (levels_in left ++ more))
    ∙ end-edge u (behind + e.samples) (levels_in left ++ more))
    ∙ sym (append_assoc runs ((behind + e.samples) ∷ []) (runs_to_end (other u) 1 (levels_in left ++ more)))
    ∙ ap (λ x. (runs ++ (behind + e.samples) ∷ []) ++ runs_to_end x 1 (levels_in left ++ more))
    (sym e.turned ∙ ap (λ x. level_if x.high) (sym edges))

-- an edge behind which a line is found
began-at : (told : Option (List ℕ)) (setting : Setting) (seen left : List Level) (now : Recovery) (level : Level)
    (done window : List ℕ) → now.line.edges.run ≡ 1
    → level_if now.line.edges.high ≡ other (after level (done ++ window))
    → ((more : List Level) → runs_to_end (other level) 0 (seen ++ more)
    ≡ done ++ (window ++ runs_to_end (level_if now.line.edges.high) 1 (left ++ more)))
    → Begun told setting level done window now → FollowsFrom told setting level done window seen left now
began-at told setting seen left now level done window one turns split b =
    let t : Level = level_if now.line.edges.high in
    let u : Level = after level done in
    let a = since-all level seen done (λ more. window ++ runs_to_end t 1 (left ++ more))
    (λ more. some-runs window t 1 (left ++ more)) split in
    let behind : (more : List Level) → runs_behind (other u) 0 (a.since ++ more)
    ≡ window ++ runs_behind t 1 (left ++ more)
    = λ more. behind-to-end (other u) t 0 1 (a.since ++ more) (left ++ more) window (a.runs_are more) in
    record {
      since = a.since;
      samples = a.samples;
      others = runs_behind t 1 (left ++ []);
      runs_are = ap (runs_behind (other u) 0) (sym (append-nil a.since)) ∙ behind [];
      start = b.start;
      found = b.found;
      followed = record {
        runs = window;
        counts = b.counts;
        past = 0;
        given = 0;
        at = now.line.follower;
        split = λ more. behind more
            ∙ ap (λ n. window ++ runs_behind t n (left ++ more))
            (let z : 1 ≡ 0 + now.line.edges.run = omega (arith, one) in z);
        level = turns ∙ ap other (after-append level done window
            ∙ sym (after-as-many u b.counts window (counted-many b.start now.line.follower window b.counts b.counted)));
        short = omega (arith, one);
        counted = b.counted;
        passed = passed-none now.line.follower;
        cells = subst (λ (x : List Level). Queued told setting.begun now.line.queue.form (waiting now.line.queue) x)
            (ap (λ x. first_cells level done b.start ++ x) (sym (append-nil (line u b.counts)))) b.cells;
      };
    }

pub begun-edge : (told told' : Option (List ℕ)) (setting : Setting) (seen : List Level) (piece left : Piece)
    (run : ℕ) (old mid new : Recovery) → piece.len ≤ 64 → EdgeCame old.line.edges piece run mid.line.edges left
    → KeepsTold old mid → mid.state ≡ old.state → new.line.edges ≡ mid.line.edges
    → ((level : Level) (done : List ℕ) (past : ℕ) → Holds told setting level done past mid
    → level_if old.line.edges.high ≡ other (after level (done ++ runs_waiting mid))
    → Begun told' setting level done (runs_waiting mid ++ (past + run) ∷ []) new)
    → (w : Recovered told setting seen (levels_in piece) old)
    → FollowsFrom told' setting w.level w.stands.done (runs_waiting mid ++ (w.stands.past + run) ∷ []) seen
    (levels_in left) new
begun-edge told told' setting seen piece left run old mid new few e k state edges edge w =
    let s = w.stands in
    let short = w.short in
    let sum = s.samples_are in
    let t : Level = level_if new.line.edges.high in
    let waits : runs_waiting mid ≡ runs_waiting old = waits-keep old mid k in
    let runs : s.done ++ runs_waiting mid ≡ w.runs = ap (λ x. s.done ++ x) waits ∙ s.runs_are in
    let all : s.past + run ≡ w.behind + e.samples = omega (arith, few, short, e, sum) in
    let window : List ℕ = runs_waiting mid ++ (s.past + run) ∷ [] in
    let is : w.runs ++ (w.behind + e.samples) ∷ [] ≡ s.done ++ window
    = ap₂ (λ x n. x ++ n ∷ []) (sym runs) (sym all) ∙ append_assoc s.done (runs_waiting mid) ((s.past + run) ∷ []) in
    let b = edge w.level s.done s.past (holds-keeps told setting w.level s.done s.past old mid k state s.holds)
    (s.turns ∙ ap (λ x. other (after w.level x)) (sym runs)) in
    let one : new.line.edges.run ≡ 1 = ap (λ x. x.run) edges ∙ e.next in
    began-at told' setting seen (levels_in left) new w.level s.done window one
    (ap (λ x. level_if x.high) edges ∙ e.turned ∙ ap other s.turns
    ∙ ap other (sym (after-more w.level w.runs (w.behind + e.samples))) ∙ ap (λ x. other (after w.level x)) is)
    (λ more. edge-split seen piece left run old.line.edges mid.line.edges new.line.edges w.level w.runs w.behind e edges
    w.split more
    ∙ ap (λ x. x ++ runs_to_end t 1 (levels_in left ++ more)) is
    ∙ append_assoc s.done window (runs_to_end t 1 (levels_in left ++ more)))
    b

pub began-edge : (told told' : Option (List ℕ)) (setting : Setting) (seen : List Level) (piece left : Piece)
    (run : ℕ) (old mid new : Recovery) → piece.len ≤ 64 → EdgeCame old.line.edges piece run mid.line.edges left
    → KeepsTold old mid → mid.state ≡ old.state → new.line.edges ≡ mid.line.edges
    → ((level : Level) (done : List ℕ) (past : ℕ) → Holds told setting level done past mid
    → level_if old.line.edges.high ≡ other (after level (done ++ runs_waiting mid))
    → Begun told' setting level done (runs_waiting mid ++ (past + run) ∷ []) new)
    → Recovered told setting seen (levels_in piece) old → Began told' setting seen (levels_in left) new
began-edge told told' setting seen piece left run old mid new few e k state edges edge w = record {
  level = w.level;
  first = w.first;
  before = w.stands.done;
  window = runs_waiting mid ++ (w.stands.past + run) ∷ [];
  from = begun-edge told told' setting seen piece left run old mid new few e k state edges edge w;
}

-- a line that is followed on
pub follows-on : (told told' : Option (List ℕ)) (setting : Setting) (level : Level) (run window : List ℕ)
    (seen piece left : List Level) (old new : Recovery)
    → ((front : List Level) (first : Follower) (before : Level) (levels : List Level)
    → Followed told setting.begun front old.line first before levels piece
    → Followed told' setting.begun front new.line first before levels left)
    → FollowsFrom told setting level run window seen piece old → FollowsFrom told' setting level run window seen left new
follows-on told told' setting level run window seen piece left old new on b = record {
  since = b.since;
  samples = b.samples;
  others = b.others;
  runs_are = b.runs_are;
  start = b.start;
  found = b.found;
  followed = on (first_cells level run b.start) b.start (after level run) b.since b.followed;
}

pub began-on : (told told' : Option (List ℕ)) (setting : Setting) (seen piece left : List Level) (old new : Recovery)
    → ((front : List Level) (first : Follower) (before : Level) (levels : List Level)
    → Followed told setting.begun front old.line first before levels piece
    → Followed told' setting.begun front new.line first before levels left)
    → Began told setting seen piece old → Began told' setting seen left new
began-on told told' setting seen piece left old new on b = record {
  level = b.level;
  first = b.first;
  before = b.before;
  window = b.window;
  from = follows-on told told' setting b.level b.before b.window seen piece left old new on b.from;
}

pub began-ok : {R E : Type 0} (r : Result R E) (told told' : Option (List ℕ)) (setting : Setting)
    (seen piece left : List Level) (old new : Recovery)
    → ((front : List Level) (first : Follower) (before : Level) (levels : List Level)
    → Followed told setting.begun front old.line first before levels piece
    → IfOk r (λ x. Followed told' setting.begun front new.line first before levels left))
    → Began told setting seen piece old → IfOk r (λ x. Began told' setting seen left new)
began-ok (Err e) told told' setting seen piece left old new on b = tt
began-ok (Ok v) told told' setting seen piece left old new on b =
    began-on told told' setting seen piece left old new on b

-- where no line was found, none was measured
differ : true ≡ false → ⊥
differ e = cc

pub told-none-measured : (told : Option (List ℕ)) (setting : Setting) (level : Level) (done : List ℕ) (past : ℕ)
    (now : Recovery) → AreTold told setting level done past now → now.found ≡ false
    → IsUnfound told setting.begun done past now
told-none-measured told setting level done past now w unfound = elim w.either [
  | inl u ↦ u
  | inr f ↦ absurd (differ (sym f.found_is ∙ unfound))
]

pub none-measured : (told : Option (List ℕ)) (setting : Setting) (seen left : List Level) (now : Recovery)
    → Recovered told setting seen left now → now.found ≡ false → now.figures.measured ≡ 0
none-measured told setting seen left now w unfound =
    let u = told-none-measured told setting w.level w.stands.done w.stands.past now w.stands.holds.told_is unfound in
    u.none

pub found-or : (found : Bool) → (found ≡ false) ⊎ (found ≡ true)
found-or false = inl refl
found-or true = inr refl

pub not-both : (found : Bool) → found ≡ true → found ≡ false → ⊥
not-both found a b = differ (sym a ∙ b)

-- runs of which a line was found, behind those that were held
pub told-begun : {A : Type 0} {taken : A → Option (List ℕ)} (old mid new : Recovery) (a b d : A)
    (setting : Setting) (level : Level) (done runs : List ℕ)
    → AreTold (taken a) setting level done 0 old → old.found ≡ false
    → Gave taken old.line mid.line a b
    (replicate (min (65536 * old.held) (2 ^ 64 - 1) / mid.line.follower.period) (after level done))
    → mid.found ≡ true → RunsTold taken mid new b d (after level done) runs
    → IsFoundIn setting.known runs mid.line.follower → new.spread ≡ 0 → Begun (taken d) setting level done runs new
told-begun {taken = taken} old mid new a b d setting level done runs w none begun found t m fresh =
    let v = after level done in
    let u = told-none-measured (taken a) setting level done 0 old w none in
    let was = u.held in
    let held : old.held ≡ min (samples_of done) (2 ^ 64 - 1) = omega (arith, was) in
    let front : List Level = replicate (min (65536 * old.held) (2 ^ 64 - 1) / mid.line.follower.period) v in
    let c = t.found found in
    record {
      start = mid.line.follower;
      found = m;
      counts = c.counts;
      counted = c.counted;
      fresh = fresh;
      cells = subst (λ (x : List Level). Queued (taken d) setting.begun new.line.queue.form (waiting new.line.queue) x)
          (ap (λ h. replicate (min (65536 * h) (2 ^ 64 - 1) / mid.line.follower.period) v ++ line v c.counts) held)
          (c.gave.each setting.begun front (begun.each setting.begun [] u.cells));
    }

pub none-or : (n : ℕ) → (n ≡ 0) ⊎ (1 ≤ n)
none-or zero = inl refl
none-or (suc n) = inr (omega arith)

-- what was not measured yet has not begun
pub not-begun : (told : Option (List ℕ)) (setting : Setting) (seen left : List Level) (now : Recovery)
    → now.figures.measured ≡ 0 → now.figures.measured ≡ 1 → Began told setting seen left now
not-begun told setting seen left now none one = absurd (omega (arith, none, one))
