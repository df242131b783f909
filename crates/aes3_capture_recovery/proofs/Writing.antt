-- What is written at the end of a line that was found.
use Rattle.std.proofs.Common.{◌≡◌, ◌∙◌, ℕ, List, [], ◌∷◌, ◌++◌, Option, Some, Result, Ok, Err, IfOk}
use Rattle.std.proofs.Common.{sym, ap, subst, append-nil, take}
use Rattle.aes3_level.specs.declared.level.Level.{Level}
use Rattle.aes3_level.specs.Cells.{after, line, other}
use Rattle.aes3_level.proofs.Runs.{other-other}
use Rattle.aes3_capture.specs.Following.{CountedAll}
use Rattle.aes3_capture_recovery.specs.Endings.{finished}
use Rattle.aes3_capture_recovery.specs.Queues.{Finishes, Queued, Writes, waiting}
use Rattle.aes3_capture_recovery.specs.RecoverySteps.{Gave, RunsCounted}
use Rattle.aes3_capture_recovery.specs.declared.line_follower.LineFollower.{LineFollower}
use Rattle.aes3_capture_recovery.specs.declared.queue.CellQueue.{CellQueue}

-- the last run, and then the end
pub writes-end : {A R E S F : Type 0} {taken : A → Option (List ℕ)} (level : Level) (run : ℕ) (mid last : LineFollower)
    (queue : CellQueue) (a b d : A) (v : R) (told : Option (List ℕ)) (r : Result S F) (begun : List ℕ) (all : List Level)
    → mid.queue ≡ queue → RunsCounted taken mid last a b level (run ∷ [])
    → Finishes {R = R} {E = E} taken last.queue b d (Ok v) → told ≡ taken d
    → Queued (taken a) begun queue.form (waiting queue) all → IfOk r (λ x. Writes told begun queue.form all)
writes-end {taken = taken} level run mid last queue a b d v told (Err e) begun all kept counted f same w = tt
writes-end {taken = taken} level run mid last queue a b d v told (Ok x) begun all kept counted f same w =
    let g = counted.gave in
    let cells = line level counted.counts in
    let now = subst (λ (q : CellQueue). Queued (taken a) begun q.form (waiting q) all) (sym kept) w in
    record {
      more = cells;
      tells = same ∙ f.cells begun (all ++ cells) (g.each begun all now)
          ∙ ap (λ form. Some (begun ++ finished form (all ++ cells))) (g.form_is ∙ ap (λ q. q.form) kept);
    }

-- no run was told
pub gave-none : {A : Type 0} {taken : A → Option (List ℕ)} (old new : LineFollower) (a b : A) (level : Level) (n : ℕ)
    (runs : List ℕ) → n ≡ 0 → RunsCounted taken old new a b level (take n runs) → Gave taken old new a b []
gave-none {taken = taken} old new a b level n runs none told =
    let t = subst (λ (k : ℕ). RunsCounted taken old new a b level (take k runs)) none told in
    go t.counts t.counted t.gave
  where
    go : (counts : List ℕ) → CountedAll old.follower [] counts new.follower → Gave taken old new a b (line level counts)
        → Gave taken old new a b []
    go [] is gave = gave
    go (c ∷ counts) is gave = absurd is

-- the level before no run
pub none-before : (high level : Level) (n : ℕ) (runs : List ℕ) → n ≡ 0 → level ≡ other high
    → high ≡ other (after level (take n runs))
none-before high level n runs none is =
    sym (ap (λ k. other (after level (take k runs))) none ∙ ap other is ∙ other-other high)

-- what was given before, where nothing was given since
pub writes-on : {A R E : Type 0} {taken : A → Option (List ℕ)} (old new : LineFollower) (a b : A) (told : Option (List ℕ))
    (r : Result R E) (begun : List ℕ) (all : List Level) → Gave taken old new a b []
    → ((cells : List Level) → Queued (taken b) begun new.queue.form (waiting new.queue) cells
    → IfOk r (λ x. Writes told begun new.queue.form cells))
    → Queued (taken a) begun old.queue.form (waiting old.queue) all
    → IfOk r (λ x. Writes told begun old.queue.form all)
writes-on {taken = taken} old new a b told (Err e) begun all gave writes w = tt
writes-on {taken = taken} old new a b told (Ok x) begun all gave writes w =
    subst (λ form. Writes told begun form all) gave.form_is
    (writes all (subst (λ (l : List Level). Queued (taken b) begun new.queue.form (waiting new.queue) l) (append-nil all)
    (gave.each begun all w)))
