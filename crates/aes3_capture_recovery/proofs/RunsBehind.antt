-- Runs behind samples of one level, and cells of runs.
use Rattle.std.proofs.Common.{ℕ, zero, suc, List, [], ◌∷◌, ◌++◌, ◌≡◌, ◌+◌, replicate, refl, sym, ap, ◌∙◌, arith}
use Rattle.std.proofs.Common.{append_assoc}
use Rattle.std.proofs.Common.{append-nil}
use Rattle.std.proofs.lemmas.List.{replicate-append-replicate}
use Rattle.aes3_level.specs.declared.level.Level.{Level}
use Rattle.aes3_level.specs.declared.level.Level.TheVariants.{Low, High}
use Rattle.aes3_level.specs.Cells.{line, other, after}
use Rattle.aes3_level.proofs.Runs.{line-append}
use Rattle.aes3_capture_recovery.specs.Runs.{runs_behind}

-- one more sample of the level
behind-one : (s : Level) (run : ℕ) (levels : List Level)
    → runs_behind s run (s ∷ levels) ≡ runs_behind s (suc run) levels
behind-one Low run levels = refl
behind-one High run levels = refl

-- samples of the level
pub behind-same : (s : Level) (run n : ℕ) (levels : List Level)
    → runs_behind s run (replicate n s ++ levels) ≡ runs_behind s (run + n) levels
behind-same s run zero levels = ap (λ k. runs_behind s k levels) (omega arith)
behind-same s run (suc n) levels =
    behind-one s run (replicate n s ++ levels) ∙ behind-same s (suc run) n levels
    ∙ ap (λ k. runs_behind s k levels) (omega arith)

-- a sample of the other level
pub behind-edge : (s : Level) (run : ℕ) (levels : List Level)
    → runs_behind s run (other s ∷ levels) ≡ run ∷ runs_behind (other s) 1 levels
behind-edge Low run levels = refl
behind-edge High run levels = refl

-- cells of a run of which some were told
pub cells-told : (s : Level) (front counts : List Level) (told n : ℕ)
    → (front ++ (counts ++ replicate told s)) ++ replicate n s ≡ front ++ (counts ++ replicate (told + n) s)
cells-told s front counts told n =
    append_assoc front (counts ++ replicate told s) (replicate n s)
    ∙ ap (λ c. front ++ c)
    (append_assoc counts (replicate told s) (replicate n s)
    ∙ ap (λ c. counts ++ c) (replicate-append-replicate told n s))

-- cells of one more run
pub cells-run : (before : Level) (front : List Level) (counts : List ℕ) (n : ℕ)
    → front ++ (line before counts ++ replicate n (other (after before counts)))
    ≡ front ++ (line before (counts ++ n ∷ []) ++ [])
cells-run before front counts n =
    ap (λ c. front ++ c)
    (ap (λ c. line before counts ++ c) (sym (append-nil (replicate n (other (after before counts)))))
    ∙ sym (line-append before counts (n ∷ [])) ∙ sym (append-nil (line before (counts ++ n ∷ []))))
