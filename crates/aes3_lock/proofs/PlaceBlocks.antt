-- The blocks of cells, place by place.
use Rattle.std.proofs.Common.{◌≡◌, ℕ, suc, ◌*◌, List, [], ◌∷◌, ◌++◌, Bool, Option, Some, None, refl, ap, ◌∙◌, arith}
use Rattle.aes3_level.specs.declared.level.Level.{Level}
use Rattle.aes3_frame.specs.Blocks.{block_subframes, block_len}
use Rattle.aes3_lock.specs.Outcomes.{Outcome, whole, marked, fault, unfinished}
use Rattle.aes3_lock.specs.Reports.{told, outcome_at, reports_from, wholes}
use Rattle.aes3_lock.specs.Standing.{StandsClosed}
use Rattle.aes3_lock.proofs.AllStanding.{standing-at, at-standing, wholes-append}
use Rattle.aes3_lock.proofs.Places.{collect}

-- place by place
abbrev pub block_here : ℕ → List Level → List (List (List Bool))
block_here p c = wholes (told p (outcome_at c))

pub blocks-collect : (p : ℕ) (c : List Level) → wholes (reports_from p c) ≡ collect block_here p c
blocks-collect p [] = refl
blocks-collect p (x ∷ c) =
    wholes-append (told p (outcome_at (x ∷ c))) (reports_from (suc p) c)
    ∙ ap (λ z. block_here p (x ∷ c) ++ z) (blocks-collect (suc p) c)

pub here-some : (p : ℕ) (b : List (List Bool)) (s : Level) (c : List Level) → StandsClosed b s c
    → block_here p c ≡ b ∷ []
here-some p b s c h = ap (λ o. wholes (told p o)) (standing-at b s c h)

pub here-none : (p : ℕ) (c : List Level) → ((b : List (List Bool)) (s : Level) → StandsClosed b s c → ⊥)
    → block_here p c ≡ []
here-none p c n = go (outcome_at c) refl
  where
    go : (o : Option Outcome) → outcome_at c ≡ o → wholes (told p o) ≡ []
    go None e = refl
    go (Some (whole s b)) e = absurd (n b s (at-standing b s c e))
    go (Some (marked s k)) e = refl
    go (Some (fault f)) e = refl
    go (Some (unfinished k)) e = refl

pub here-any : (p q : ℕ) (c : List Level) → block_here p c ≡ block_here q c
here-any p q c = go (outcome_at c)
  where
    go : (o : Option Outcome) → wholes (told p o) ≡ wholes (told q o)
    go None = refl
    go (Some (whole s b)) = refl
    go (Some (marked s k)) = refl
    go (Some (fault f)) = refl
    go (Some (unfinished k)) = refl

pub whole-len : (n : ℕ) → 64 * (block_subframes * n) ≡ n * block_len
unfolding block_len block_subframes
whole-len n = omega arith
