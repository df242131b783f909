-- Cells with errors, joined, and where no error stands.
use Rattle.std.proofs.Common.{◌≡◌, ℕ, zero, suc, ◌+◌, ◌%◌, ◌<◌, List, [], ◌∷◌, ◌++◌, length, map, refl, sym}
use Rattle.std.proofs.Common.{ap, ap₂, ◌∙◌, arith, append_assoc, append-nil, replicate, cond, true, false}
use Rattle.std.proofs.Common.{zero-add}
use Rattle.std.proofs.lemmas.Bool.{lt-ltb}
use Rattle.std.specs.Prelude.{not, ◌==◌}
use Rattle.aes3_level.specs.declared.level.Level.{Level}
use Rattle.aes3_level.specs.Cells.{other}
use Rattle.aes3_spoil.specs.declared.errors.Errors.{Errors}
use Rattle.aes3_spoil.specs.declared.kinds.ErrorKind.{ErrorKind}
use Rattle.aes3_spoil.specs.declared.kinds.ErrorKind.TheVariants.{Changed, Inverted, Lost, Doubled}
use Rattle.aes3_spoil.specs.Errors.{Clear, errors_at, errors_before}
use Rattle.aes3_spoil.specs.Spoiled.{is_odd, is_inverted, level_inverted, spoiled, spoiled_at, spoiled_from, times}
use Rattle.aes3_spoil.proofs.Listed.{clear-back, clear-front}

from-join : (e : Errors) (i : ℕ) (c d : List Level)
    → spoiled_from e i (c ++ d) ≡ spoiled_from e i c ++ spoiled_from e (i + length c) d
from-join e i [] d = ap (λ k. spoiled_from e k d) (let z : i ≡ i + 0 = omega arith in z)
from-join e i (x ∷ c) d =
    ap (λ z. spoiled_at e i x ++ z)
    (from-join e (suc i) c d
    ∙ ap (λ k. spoiled_from e (suc i) c ++ spoiled_from e k d)
    (let z : suc i + length c ≡ i + suc (length c) = omega arith in z))
    ∙ sym (append_assoc (spoiled_at e i x) (spoiled_from e (suc i) c) (spoiled_from e (i + suc (length c)) d))

pub spoiled-none : (e : Errors) → spoiled e [] ≡ []
unfolding spoiled
spoiled-none e = refl

pub spoiled-join : (e : Errors) (c d : List Level) → spoiled e (c ++ d) ≡ spoiled e c ++ spoiled_from e (length c) d
unfolding spoiled
spoiled-join e c d =
    from-join e 0 c d ∙ ap (λ k. spoiled_from e 0 c ++ spoiled_from e k d) (zero-add (length c))

pub spoiled-one : (e : Errors) (i : ℕ) (x : Level) → spoiled_from e i (x ∷ []) ≡ spoiled_at e i x
spoiled-one e i x = append-nil (spoiled_at e i x)

-- all cells as they are, and all turned
pub same-cells : (c : List Level) → map (level_inverted false) c ≡ c
same-cells [] = refl
same-cells (x ∷ c) = ap (λ d. x ∷ d) (same-cells c)

pub other-cells : (c : List Level) → map (level_inverted true) c ≡ map other c
other-cells [] = refl
other-cells (x ∷ c) = ap (λ d. other x ∷ d) (other-cells c)

-- a cell at which no error stands
pub turned-clear : (e : Errors) (i : ℕ) → errors_at e Changed i ≡ 0 → errors_at e Inverted i ≡ 0
    → is_inverted e i ≡ is_odd (errors_before e Inverted i)
unfolding is_inverted
turned-clear e i a b = rw (a, b) (ap is_odd (let z : 0 + (errors_before e Inverted i + 0) ≡ errors_before e Inverted i
    = omega arith in z))

pub times-none : (e : Errors) (i : ℕ) → 0 < errors_at e Lost i → 0 ≡ times e i
unfolding times
times-none e i h = let t = lt-ltb 0 (errors_at e Lost i) h in rw t refl

pub times-twice : (e : Errors) (i : ℕ) → errors_at e Lost i ≡ 0 → 0 < errors_at e Doubled i → 2 ≡ times e i
unfolding times
times-twice e i z h = let t = lt-ltb 0 (errors_at e Doubled i) h in rw (z, t) refl

pub times-once : (e : Errors) (i : ℕ) → errors_at e Lost i ≡ 0 → errors_at e Doubled i ≡ 0 → 1 ≡ times e i
unfolding times
times-once e i a b = rw (a, b) refl

pub cell-clear : (e : Errors) (i : ℕ) (x : Level) → ((kind : ErrorKind) → errors_at e kind i ≡ 0)
    → spoiled_at e i x ≡ level_inverted (is_odd (errors_before e Inverted i)) x ∷ []
cell-clear e i x h =
    ap₂ (λ n b. replicate n (level_inverted b x)) (sym (times-once e i (h Lost) (h Doubled)))
    (turned-clear e i (h Changed) (h Inverted))

before-clear : (e : Errors) (i : ℕ) → errors_at e Inverted i ≡ 0
    → errors_before e Inverted (suc i) ≡ errors_before e Inverted i
before-clear e i h = omega (arith, h)

-- cells at which no error stands
pub cells-clear : (e : Errors) (i : ℕ) (c : List Level) → Clear e i (i + length c)
    → spoiled_from e i c ≡ map (level_inverted (is_odd (errors_before e Inverted i))) c
cells-clear e i [] h = refl
cells-clear e i (x ∷ c) h =
    let z : (kind : ErrorKind) → errors_at e kind i ≡ 0 = λ kind. h.none kind i (omega arith) (omega arith) in
    ap₂ ◌++◌ (cell-clear e i x z)
    (cells-clear e (suc i) c (clear-front (omega arith) (clear-back (omega arith) h))
    ∙ ap (λ n. map (level_inverted (is_odd n)) c) (before-clear e i (z Inverted)))

pub inverted-clear : (e : Errors) (i n : ℕ) → Clear e i (i + n)
    → errors_before e Inverted (i + n) ≡ errors_before e Inverted i
inverted-clear e i zero h = ap (errors_before e Inverted) (let z : i + 0 ≡ i = omega arith in z)
inverted-clear e i (suc n) h =
    ap (errors_before e Inverted) (let z : i + suc n ≡ suc (i + n) = omega arith in z)
    ∙ before-clear e (i + n) (h.none Inverted (i + n) (omega arith) (omega arith))
    ∙ inverted-clear e i n (clear-front (omega arith) h)

-- two turns, and the level of a bit
pub odd-sum : (a b : ℕ) → is_odd (a + b) ≡ cond (is_odd b) (not (is_odd a)) (is_odd a)
odd-sum a b = go (a % 2) (b % 2) (omega arith) (omega arith) ((a + b) % 2) (omega arith)
  where
    go : (x y : ℕ) → x < 2 → y < 2 → (z : ℕ) → z ≡ (x + y) % 2
        → (z == 1) ≡ cond (y == 1) (not (x == 1)) (x == 1)
    go zero zero h k z e = rw e refl
    go zero (suc zero) h k z e = rw e refl
    go (suc zero) zero h k z e = rw e refl
    go (suc zero) (suc zero) h k z e = rw e refl
    go x (suc (suc y)) h k z e = absurd (omega arith)
    go (suc (suc x)) y h k z e = absurd (omega arith)
