-- Cells from place i up to, but without, place j of a list, and the test of whether something lies in them.
use Rattle.std.proofs.Common.{◌≡◌, ℕ, ◌+◌, ◌-◌, ◌<◌, ◌≤◌, List, [], Bool, true, false, ◌&&◌, cond, leb, refl, length}
use Rattle.std.proofs.Common.{take, drop, ap, ◌∙◌, arith, length-take, length-drop, drop-drop}
use Rattle.std.proofs.lemmas.Bool.{le-leb, lt-leb}
use Rattle.std.proofs.lemmas.List.{drop-take}
use Rattle.aes3_level.specs.declared.level.Level.{Level}
use Rattle.aes3_lock.proofs.Places.{gather, gather-within}

-- the rest of a piece
pub piece-rest : (i j q : ℕ) (d : List Level) → i + q ≤ j
    → drop q (take (j - i) (drop i d)) ≡ take (j - (i + q)) (drop (i + q) d)
piece-rest i j q d h =
    let e : j - i ≡ q + (j - (i + q)) = omega arith in
    ap (λ n. drop q (take n (drop i d))) e ∙ drop-take q (j - (i + q)) (drop i d)
    ∙ ap (take (j - (i + q))) (drop-drop q i d)

pub length-piece : (i j : ℕ) (d : List Level) → i ≤ j → j ≤ length d → length (take (j - i) (drop i d)) ≡ j - i
length-piece i j d h g =
    let a = length-take (j - i) (drop i d) in
    let b = length-drop i d in
    omega (arith, a, b)

-- a test of two bounds
pub both-true : {A : Type 0} (i p e j : ℕ) (x y : A) → i ≤ p → e ≤ j → cond (leb i p && leb e j) x y ≡ x
both-true i p e j x y h g = let a = le-leb i p h in let b = le-leb e j g in rw (a, b) refl

pub first-false : {A : Type 0} (i p e j : ℕ) (x y : A) → p < i → cond (leb i p && leb e j) x y ≡ y
first-false i p e j x y h = let a = lt-leb i p h in rw a refl

pub second-false : {A : Type 0} (i p e j : ℕ) (x y : A) → j < e → cond (leb i p && leb e j) x y ≡ y
second-false i p e j x y h = go (leb i p) (lt-leb e j h)
  where
    go : (b : Bool) → leb e j ≡ false → cond (b && leb e j) x y ≡ y
    go true g = rw g refl
    go false g = refl

-- what is given at a place where the w cells from it on lie in the piece; before the piece and behind it nothing is
abbrev pub inside : {A : Type 0} → ℕ → ℕ → ℕ → (ℕ → List A) → ℕ → List A
inside w i j f q = cond (leb i q && leb (q + w) j) (f q) []

pub gather-inside : {A : Type 0} (w i j n : ℕ) (f : ℕ → List A) → 0 < w → i ≤ j → j ≤ n
    → gather (inside w i j f) 0 n ≡ gather (inside w i j f) i (j - i)
gather-inside w i j n f some order within =
    gather-within (inside w i j f) i j n order within
    (λ q l. first-false i q (q + w) j (f q) [] l)
    (λ q l. second-false i q (q + w) j (f q) [] (omega arith))
