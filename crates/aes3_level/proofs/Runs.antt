-- Lines of runs joined, their length, and the level after them.
use Rattle.std.proofs.Common.{◌≡◌, ℕ, ◌+◌, List, [], ◌∷◌, ◌++◌, replicate, refl, length, ap, ◌∙◌, sym, append_assoc}
use Rattle.std.proofs.Common.{arith, length-append}
use Rattle.std.proofs.lemmas.List.{length-replicate}
use Rattle.aes3_level.specs.declared.level.Level.{Level}
use Rattle.aes3_level.specs.declared.level.Level.TheVariants.{Low, High}
use Rattle.aes3_level.specs.Cells.{line, other, after}

pub other-other : (s : Level) → other (other s) ≡ s
other-other Low = refl
other-other High = refl

pub other_ne : (s : Level) → other s ≡ s → ⊥
other_ne Low e = cc
other_ne High e = cc

pub line-append : (s : Level) (a b : List ℕ) → line s (a ++ b) ≡ line s a ++ line (after s a) b
line-append s [] b = refl
line-append s (n ∷ a) b =
    ap (λ t. replicate n (other s) ++ t) (line-append (other s) a b)
    ∙ sym (append_assoc (replicate n (other s)) (line (other s) a) (line (after (other s) a) b))

pub after-append : (s : Level) (a b : List ℕ) → after s (a ++ b) ≡ after (after s a) b
after-append s [] b = refl
after-append s (n ∷ a) b = after-append (other s) a b

-- the sum of the lengths
abbrev pub total : List ℕ → ℕ
total [] = 0
total (n ∷ a) = n + total a

pub total-append : (a b : List ℕ) → total (a ++ b) ≡ total a + total b
total-append [] b = omega arith
total-append (n ∷ a) b = let e = total-append a b in omega arith

pub length-line : (s : Level) (a : List ℕ) → length (line s a) ≡ total a
length-line s [] = refl
length-line s (n ∷ a) =
    let e = length-line (other s) a in
    simp (length-append, length-replicate) (ap (λ k. n + k) e)
