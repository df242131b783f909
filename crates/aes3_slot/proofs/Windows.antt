-- Where preambles begin in a word of cells, by its bits.
use Rattle.std.proofs.Common.{◌≡◌, ℕ, zero, suc, ◌+◌, ◌-◌, ◌*◌, ◌/◌, ◌%◌, ◌^◌, ◌<◌, ◌≤◌, ◌⊎◌, inl, inr, min, max, List}
use Rattle.std.proofs.Common.{[], ◌∷◌, Bool, true, false, ◌&&◌, ◌||◌, not, length, drop, refl, ap, ap₂, ◌∙◌, sym, arith}
use Rattle.std.proofs.Common.{w64, length-append, length-drop, get_or-drop}
use Rattle.std.specs.Prelude.{bit_and, bit_or, bit_xor, if◌then◌else◌}
use Rattle.std.specs.Int.{bit_at, bit_not}
use Rattle.std.proofs.lemmas.Bool.{cases_lt}
use Rattle.std.proofs.lemmas.List.{get_or_append_left, get_or-append_right}
use Rattle.std.proofs.lemmas.Nat.Bits.{bit_at_and, bit_at_or, bit_at_xor, bit_at_not, bit_at-lt, bit_at_above}
use Rattle.aes3_level.specs.declared.level.Level.{Level}
use Rattle.aes3_level.specs.declared.level.Level.TheVariants.{Low, High}
use Rattle.aes3_level.specs.Cells.{line, other}
use Rattle.aes3_level.specs.Words.{level_of, low_cells, word_cells, word_len}
use Rattle.aes3_level.proofs.Moves.{bit_at-shr, shl-above, shl-below}
use Rattle.aes3_level.proofs.WordCells.{length-low_cells, low_cells-at}
use Rattle.aes3_slot.specs.declared.mark.Mark.{Mark}
use Rattle.aes3_slot.specs.declared.mark.Mark.TheVariants.{X, Y, Z}
use Rattle.aes3_slot.specs.Slots.{mark_runs}
use Rattle.aes3_slot.specs.Reading.{same, differs}
use Rattle.aes3_slot.specs.Rules.{at}
use Rattle.aes3_slot.specs.Preambles.{same_cells, begins_with, unlike_at, with_seven}

-- bit k says whether
pub record Says (x k : ℕ) (p : Bool) : Type 0 where
  pub is : bit_at x k ≡ (if p then 1 else 0)

pub says-and : {x y k : ℕ} {p q : Bool} → Says x k p → Says y k q → Says (bit_and x y) k (p && q)
says-and {x} {y} {k} {p} {q} e f = record { is = bit_at_and x y k ∙ ap₂ min e.is f.is ∙ go p q }
  where
    go : (p q : Bool) → min (if p then 1 else 0) (if q then 1 else 0) ≡ (if p && q then 1 else 0)
    go true true = refl
    go true false = refl
    go false true = refl
    go false false = refl

pub says-or : {x y k : ℕ} {p q : Bool} → Says x k p → Says y k q → Says (bit_or x y) k (p || q)
says-or {x} {y} {k} {p} {q} e f = record { is = bit_at_or x y k ∙ ap₂ max e.is f.is ∙ go p q }
  where
    go : (p q : Bool) → max (if p then 1 else 0) (if q then 1 else 0) ≡ (if p || q then 1 else 0)
    go true true = refl
    go true false = refl
    go false true = refl
    go false false = refl

pub says-not : {x k : ℕ} {p : Bool} → x < 2 ^ 64 → k < 64 → Says x k p → Says (bit_not w64 x) k (not p)
says-not {x} {k} {p} h g e = record { is = bit_at_not w64 x k h g ∙ ap (λ b. 1 - b) e.is ∙ go p }
  where
    go : (p : Bool) → 1 - (if p then 1 else 0) ≡ (if not p then 1 else 0)
    go true = refl
    go false = refl

-- cell k of a word and seven behind it
pub seven-below : (w n k : ℕ) → k < 64 → at (with_seven w n) k ≡ level_of (bit_at w k)
unfolding with_seven word_cells word_len
seven-below w n k h =
    get_or_append_left (low_cells 64 w) (low_cells 7 n) Low k (let l = length-low_cells 64 w in omega (arith, l, h))
    ∙ low_cells-at 64 w k h

seven-above : (w n i : ℕ) → i < 7 → at (with_seven w n) (64 + i) ≡ level_of (bit_at n i)
unfolding with_seven word_cells word_len
seven-above w n i h =
    get_or-append_right (low_cells 64 w) (low_cells 7 n) 64 (64 + i) Low (length-low_cells 64 w) (omega arith)
    ∙ ap (at (low_cells 7 n)) (let e : 64 + i - 64 ≡ i = omega arith in e) ∙ low_cells-at 7 n i h

pub length-seven : (w n : ℕ) → length (with_seven w n) ≡ 71
unfolding with_seven word_cells word_len
length-seven w n =
    let a = length-append (low_cells 64 w) (low_cells 7 n) in
    let b = length-low_cells 64 w in
    let c = length-low_cells 7 n in
    omega (arith, a, b, c)

-- `w >> d | next << (64 - d)`
moved : ℕ → ℕ → ℕ → ℕ
moved w n d = bit_or (w / 2 ^ d) (n * 2 ^ (64 - d) % 2 ^ 64)

moved-bit : (w n d k : ℕ) → w < 2 ^ 64 → 0 < d → d < 8 → k < 64
    → level_of (bit_at (moved w n d) k) ≡ at (with_seven w n) (k + d)
unfolding moved
moved-bit w n d k b z s h = ap level_of (bit_at_or (w / 2 ^ d) (n * 2 ^ (64 - d) % 2 ^ 64) k) ∙ go (cases_lt (k + d) 64)
  where
    go : (k + d < 64) ⊎ (64 ≤ k + d)
        → level_of (max (bit_at (w / 2 ^ d) k) (bit_at (n * 2 ^ (64 - d) % 2 ^ 64) k)) ≡ at (with_seven w n) (k + d)
    go (inl g) =
        let x = bit_at-shr w d k in
        let y = shl-below n (64 - d) k h (omega (arith, g)) in
        let e : d + k ≡ k + d = omega arith in
        let m : max (bit_at w (k + d)) 0 ≡ bit_at w (k + d) = omega arith in
        ap₂ (λ a c. level_of (max a c)) (x ∙ ap (bit_at w) e) y ∙ ap level_of m ∙ sym (seven-below w n (k + d) g)
    go (inr g) =
        let x = bit_at-shr w d k ∙ bit_at_above w 64 (d + k) b (omega (arith, g)) in
        let y = shl-above n (64 - d) k h (omega (arith, g)) in
        let e : k - (64 - d) ≡ k + d - 64 = omega (arith, g, s) in
        let q : 64 + (k + d - 64) ≡ k + d = omega (arith, g) in
        let m : max 0 (bit_at n (k + d - 64)) ≡ bit_at n (k + d - 64) = omega arith in
        ap₂ (λ a c. level_of (max a c)) x (y ∙ ap (bit_at n) e) ∙ ap level_of m
        ∙ sym (seven-above w n (k + d - 64) (omega (arith, g, h, s))) ∙ ap (at (with_seven w n)) q

differs-flag : (x y : ℕ) → x < 2 → y < 2 → (x + y) % 2 ≡ (if differs (level_of x) (level_of y) then 1 else 0)
differs-flag zero zero h g = refl
differs-flag zero (suc zero) h g = refl
differs-flag (suc zero) zero h g = refl
differs-flag (suc zero) (suc zero) h g = refl
differs-flag x (suc (suc y)) h g = absurd (omega arith)
differs-flag (suc (suc x)) y h g = absurd (omega arith)

-- `w ^ (w >> d | next << (64 - d))`
pub unlike-bit : (w n d k : ℕ) → w < 2 ^ 64 → 0 < d → d < 8 → k < 64
    → bit_at (bit_xor w (bit_or (w / 2 ^ d) (n * 2 ^ (64 - d) % 2 ^ 64))) k
    ≡ (if unlike_at (with_seven w n) k d then 1 else 0)
unfolding moved
unlike-bit w n d k b z s h =
    bit_at_xor w (moved w n d) k
    ∙ differs-flag (bit_at w k) (bit_at (moved w n d) k) (bit_at-lt w k) (bit_at-lt (moved w n d) k)
    ∙ ap (λ b. if b then 1 else 0) (ap₂ differs (sym (seven-below w n k h)) (moved-bit w n d k b z s h))

-- a preamble by which of its cells differ from the first
tells : Mark → Bool → Bool → Bool → Bool → Bool → Bool → Bool → Bool
tells X b c d e f g h = not b && (not c && (d && (e && (f && (not g && h)))))
tells Y b c d e f g h = not b && (not c && (d && (e && (not f && (g && h)))))
tells Z b c d e f g h = not b && (not c && (d && (not e && (f && (g && h)))))

like : (a b : Level) → same b a ≡ not (differs a b)
like Low Low = refl
like Low High = refl
like High Low = refl
like High High = refl

unlike : (a b : Level) → same b (other a) ≡ differs a b
unlike Low Low = refl
unlike Low High = refl
unlike High Low = refl
unlike High High = refl

last : (a b : Level) → (same b (other a) && true) ≡ differs a b
last Low Low = refl
last Low High = refl
last High Low = refl
last High High = refl

cells-X : (a : Level) → line (other a) (mark_runs X) ≡ a ∷ a ∷ a ∷ other a ∷ other a ∷ other a ∷ a ∷ other a ∷ []
cells-X Low = refl
cells-X High = refl

cells-Y : (a : Level) → line (other a) (mark_runs Y) ≡ a ∷ a ∷ a ∷ other a ∷ other a ∷ a ∷ other a ∷ other a ∷ []
cells-Y Low = refl
cells-Y High = refl

cells-Z : (a : Level) → line (other a) (mark_runs Z) ≡ a ∷ a ∷ a ∷ other a ∷ a ∷ other a ∷ other a ∷ other a ∷ []
cells-Z Low = refl
cells-Z High = refl

same-self : (a : Level) (b : Bool) → (same a a && b) ≡ b
same-self Low b = refl
same-self High b = refl

both : {p q r s : Bool} → p ≡ q → r ≡ s → (p && r) ≡ (q && s)
both e f = ap₂ (λ x y. x && y) e f

eight-tell : (m : Mark) (a b c d e f g h : Level) (rest : List Level)
    → begins_with m (a ∷ b ∷ c ∷ d ∷ e ∷ f ∷ g ∷ h ∷ rest) ≡ tells m (differs a b) (differs a c) (differs a d)
    (differs a e) (differs a f) (differs a g) (differs a h)
unfolding begins_with tells
eight-tell X a b c d e f g h rest =
    ap (same_cells (a ∷ b ∷ c ∷ d ∷ e ∷ f ∷ g ∷ h ∷ [])) (cells-X a) ∙ same-self a _
    ∙ both (like a b)
    (both (like a c) (both (unlike a d) (both (unlike a e) (both (unlike a f) (both (like a g) (last a h))))))
eight-tell Y a b c d e f g h rest =
    ap (same_cells (a ∷ b ∷ c ∷ d ∷ e ∷ f ∷ g ∷ h ∷ [])) (cells-Y a) ∙ same-self a _
    ∙ both (like a b)
    (both (like a c) (both (unlike a d) (both (unlike a e) (both (like a f) (both (unlike a g) (last a h))))))
eight-tell Z a b c d e f g h rest =
    ap (same_cells (a ∷ b ∷ c ∷ d ∷ e ∷ f ∷ g ∷ h ∷ [])) (cells-Z a) ∙ same-self a _
    ∙ both (like a b)
    (both (like a c) (both (unlike a d) (both (like a e) (both (unlike a f) (both (unlike a g) (last a h))))))

window-tells : (m : Mark) (d : List Level) → 8 ≤ length d → begins_with m d
    ≡ tells m (unlike_at d 0 1) (unlike_at d 0 2) (unlike_at d 0 3) (unlike_at d 0 4) (unlike_at d 0 5)
    (unlike_at d 0 6) (unlike_at d 0 7)
window-tells m (a ∷ b ∷ c ∷ d ∷ e ∷ f ∷ g ∷ h ∷ rest) l = eight-tell m a b c d e f g h rest
window-tells m [] l = absurd (omega arith)
window-tells m (a ∷ []) l = absurd (omega arith)
window-tells m (a ∷ b ∷ []) l = absurd (omega arith)
window-tells m (a ∷ b ∷ c ∷ []) l = absurd (omega arith)
window-tells m (a ∷ b ∷ c ∷ d ∷ []) l = absurd (omega arith)
window-tells m (a ∷ b ∷ c ∷ d ∷ e ∷ []) l = absurd (omega arith)
window-tells m (a ∷ b ∷ c ∷ d ∷ e ∷ f ∷ []) l = absurd (omega arith)
window-tells m (a ∷ b ∷ c ∷ d ∷ e ∷ f ∷ g ∷ []) l = absurd (omega arith)

-- the same at a place of a word and seven cells behind it
unlike-drop : (c : List Level) (k d : ℕ) → unlike_at (drop k c) 0 d ≡ unlike_at c k d
unlike-drop c k d = ap₂ differs (get_or-drop k c 0 Low ∙ ap (at c) (let e : k + 0 ≡ k = omega arith in e))
    (ap (at (drop k c)) (let e : 0 + d ≡ d = omega arith in e) ∙ get_or-drop k c d Low)

and-true : (b : Bool) → (b && true) ≡ b
and-true true = refl
and-true false = refl

and-last : (p q r h : Bool) → (h && (p && (q && r))) ≡ (p && (q && (r && h)))
and-last p q r true = ap (λ x. p && (q && x)) (sym (and-true r))
and-last false q r false = refl
and-last true false r false = refl
and-last true true false false = refl
and-last true true true false = refl

-- the cells in which the preambles differ
abbrev pub apart : Mark → Bool → Bool → Bool → Bool
apart X e f g = e && (f && not g)
apart Y e f g = e && (not f && g)
apart Z e f g = not e && (f && g)

module _ (w n k : ℕ) (h : k < 64) where
  abbrev u : ℕ → Bool
  u d = unlike_at (with_seven w n) k d

  place-tells : (m : Mark) → begins_with m (drop k (with_seven w n))
      ≡ tells m (u 1) (u 2) (u 3) (u 4)
      (u 5) (u 6) (u 7)
  place-tells m =
      let c = with_seven w n in
      let l = length-drop k c in
      let s = length-seven w n in
      window-tells m (drop k c) (omega (arith, l, s, h))
      ∙ rw (
        unlike-drop c k 1,
        unlike-drop c k 2,
        unlike-drop c k 3,
        unlike-drop c k 4,
        unlike-drop c k 5,
        unlike-drop c k 6,
        unlike-drop c k 7,
      ) refl

  pub mark-begins : (m : Mark)
      → (((not (u 1) && not (u 2)) && (u 3 && u 7)) && apart m (u 4) (u 5) (u 6)) ≡ begins_with m
      (drop k (with_seven w n))
  unfolding tells
  mark-begins m = go m (u 1) (u 2) (u 3) (u 4) (u 5) (u 6) (u 7) ∙ sym (place-tells m)
    where
      go : (m : Mark) (b c d e f g h : Bool) → (((not b && not c) && (d && h)) && apart m e f g) ≡ tells m b c d e f g h
      go X true c d e f g h = refl
      go X false true d e f g h = refl
      go X false false false e f g h = refl
      go X false false true e f g h = and-last e f (not g) h
      go Y true c d e f g h = refl
      go Y false true d e f g h = refl
      go Y false false false e f g h = refl
      go Y false false true e f g h = and-last e (not f) g h
      go Z true c d e f g h = refl
      go Z false true d e f g h = refl
      go Z false false false e f g h = refl
      go Z false false true e f g h = and-last (not e) f g h
