-- The runs that samples have, to their end.
use Rattle.std.proofs.Common.{ℕ, zero, suc, List, [], ◌∷◌, ◌++◌, ◌≡◌, ◌+◌, length, replicate, refl, ap, ◌∙◌}
use Rattle.std.proofs.Common.{arith}
use Rattle.aes3_level.specs.declared.level.Level.{Level}
use Rattle.aes3_level.specs.declared.level.Level.TheVariants.{Low, High}
use Rattle.aes3_level.specs.Cells.{line, other, after}
use Rattle.aes3_level.proofs.Runs.{after-append, line-append}
use Rattle.aes3_capture_recovery.specs.Recovering.{runs_to_end}

-- one more sample of the level
pub end-one : (s : Level) (run : ℕ) (levels : List Level)
    → runs_to_end s run (s ∷ levels) ≡ runs_to_end s (suc run) levels
end-one Low run levels = refl
end-one High run levels = refl

-- samples of the level
pub end-same : (s : Level) (run n : ℕ) (levels : List Level)
    → runs_to_end s run (replicate n s ++ levels) ≡ runs_to_end s (run + n) levels
end-same s run zero levels = ap (λ k. runs_to_end s k levels) (omega arith)
end-same s run (suc n) levels =
    end-one s run (replicate n s ++ levels) ∙ end-same s (suc run) n levels
    ∙ ap (λ k. runs_to_end s k levels) (omega arith)

-- a sample of the other level
pub end-edge : (s : Level) (run : ℕ) (levels : List Level)
    → runs_to_end s run (other s ∷ levels) ≡ run ∷ runs_to_end (other s) 1 levels
end-edge Low run levels = refl
end-edge High run levels = refl

-- no sample more
pub end-none : (s : Level) (run : ℕ) → runs_to_end s run [] ≡ run ∷ []
end-none Low run = refl
end-none High run = refl

-- the level behind runs is told by how many they are
pub after-as-many : (s : Level) (xs ys : List ℕ) → length xs ≡ length ys → after s xs ≡ after s ys
after-as-many s [] [] e = refl
after-as-many s [] (y ∷ ys) e = absurd (omega (arith, e))
after-as-many s (x ∷ xs) [] e = absurd (omega (arith, e))
after-as-many s (x ∷ xs) (y ∷ ys) e = after-as-many (other s) xs ys (omega (arith, e))

-- the level behind one more run
pub after-more : (s : Level) (runs : List ℕ) (n : ℕ) → after s (runs ++ n ∷ []) ≡ other (after s runs)
after-more s runs n = after-append s runs (n ∷ [])

-- after sixteen runs the level is as it was
after-sixteen : (s : Level) → after s (0 ∷ 0 ∷ 0 ∷ 0 ∷ 0 ∷ 0 ∷ 0 ∷ 0 ∷ 0 ∷ 0 ∷ 0 ∷ 0 ∷ 0 ∷ 0 ∷ 0 ∷ 0 ∷ []) ≡ s
after-sixteen Low = refl
after-sixteen High = refl

pub after-sixteen-more : (s : Level) (runs more : List ℕ) → length more ≡ 16 → after s runs ≡ s
    → after s (runs ++ more) ≡ s
after-sixteen-more s runs more sixteen was =
    after-append s runs more ∙ ap (λ t. after t more) was
    ∙ after-as-many s more (0 ∷ 0 ∷ 0 ∷ 0 ∷ 0 ∷ 0 ∷ 0 ∷ 0 ∷ 0 ∷ 0 ∷ 0 ∷ 0 ∷ 0 ∷ 0 ∷ 0 ∷ 0 ∷ []) sixteen ∙ after-sixteen s

-- the cells of runs, and of more behind those that leave the level as it was
pub line-more : (s : Level) (runs more : List ℕ) → after s runs ≡ s → line s (runs ++ more) ≡ line s runs ++ line s more
line-more s runs more was = line-append s runs more ∙ ap (λ t. line s runs ++ line t more) was
