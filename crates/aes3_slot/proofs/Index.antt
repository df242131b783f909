-- What stands at each index of a line, and back.
use Rattle.std.proofs.Common.{◌≡◌, ℕ, zero, suc, ◌+◌, ◌*◌, ◌<◌, ◌≤◌, List, [], ◌∷◌, ◌++◌, Bool, true, false, refl}
use Rattle.std.proofs.Common.{length, ap, ◌∙◌, sym, arith, length-append}
use Rattle.std.proofs.lemmas.List.{get_or_append_left, get_or-append-add}
use Rattle.aes3_level.specs.declared.level.Level.{Level}
use Rattle.aes3_level.specs.declared.level.Level.TheVariants.{Low, High}
use Rattle.aes3_slot.specs.declared.mark.Mark.{Mark}
use Rattle.aes3_slot.specs.declared.mark.Mark.TheVariants.{X, Y, Z}
use Rattle.aes3_level.specs.Cells.{line, other, after}
use Rattle.aes3_slot.specs.Slots.{bits_runs, mark_runs, slot_runs}
use Rattle.aes3_slot.specs.Rules.{at, before, shape}
use Rattle.aes3_level.proofs.Runs.{after-append, length-line}
use Rattle.aes3_slot.proofs.Subframes.{line-slots, total-bits, after-mark}

-- the last cell, or the level before where there is none, is the level after
pub last-bits : (t : Level) (bits : List Bool)
    → before t (line t (bits_runs bits)) (2 * length bits) ≡ after t (bits_runs bits)
last-bits t [] = refl
last-bits t (false ∷ bits) =
    let e : 2 * suc (length bits) ≡ suc (suc (2 * length bits)) = omega arith in
    rw e (last-bits (other t) bits)
last-bits t (true ∷ bits) =
    let e : 2 * suc (length bits) ≡ suc (suc (2 * length bits)) = omega arith in
    rw e (last-bits (other (other t)) bits)

-- the first cell of each slot differs from the cell before it
pub slot-bits : (t : Level) (bits : List Bool) (k : ℕ) → k < length bits
    → at (line t (bits_runs bits)) (2 * k) ≡ other (before t (line t (bits_runs bits)) (2 * k))
slot-bits t [] k h = absurd (omega arith)
slot-bits t (false ∷ bits) zero h = refl
slot-bits t (true ∷ bits) zero h = refl
slot-bits t (false ∷ bits) (suc k) h =
    let e : 2 * suc k ≡ suc (suc (2 * k)) = omega arith in
    rw e (slot-bits (other t) bits k (omega arith))
slot-bits t (true ∷ bits) (suc k) h =
    let e : 2 * suc k ≡ suc (suc (2 * k)) = omega arith in
    rw e (slot-bits (other (other t)) bits k (omega arith))

-- one more slot at the front
join : (t a b : Level) (c : List Level) (n : ℕ) → a ≡ other t
    → (bits : List Bool) × (length bits ≡ n) × (c ≡ line b (bits_runs bits))
    → (bits : List Bool) × (length bits ≡ suc n) × (a ∷ b ∷ c ≡ line t (bits_runs bits))
join Low Low b c n e r = cc
join High High b c n e r = cc
join Low High Low c n e r = (true ∷ r.0, ap suc r.1, ap (λ x. High ∷ Low ∷ x) r.2)
join Low High High c n e r = (false ∷ r.0, ap suc r.1, ap (λ x. High ∷ High ∷ x) r.2)
join High Low Low c n e r = (false ∷ r.0, ap suc r.1, ap (λ x. Low ∷ Low ∷ x) r.2)
join High Low High c n e r = (true ∷ r.0, ap suc r.1, ap (λ x. Low ∷ High ∷ x) r.2)

-- any cells whose slots begin so are those of some bits
pub read-bits : (n : ℕ) (t : Level) (c : List Level) → length c ≡ 2 * n
    → ((k : ℕ) → k < n → at c (2 * k) ≡ other (before t c (2 * k)))
    → (bits : List Bool) × (length bits ≡ n) × (c ≡ line t (bits_runs bits))
read-bits zero t [] h r = ([], refl, refl)
read-bits zero t (a ∷ c) h r = absurd (omega arith)
read-bits (suc n) t [] h r = absurd (omega arith)
read-bits (suc n) t (a ∷ []) h r = absurd (omega arith)
read-bits (suc n) t (a ∷ b ∷ c) h r =
    join t a b c n (r zero (omega arith)) (read-bits n b c (omega arith) rest)
  where
    rest : (k : ℕ) → k < n → at c (2 * k) ≡ other (before b c (2 * k))
    rest k l =
        let f : 2 * suc k ≡ suc (suc (2 * k)) = omega arith in
        rw f at (r (suc k) (omega arith))

-- a preamble ends at the level before it
pub last-mark : (s : Level) (m : Mark) → before s (line s (mark_runs m)) 8 ≡ s
last-mark Low X = refl
last-mark Low Y = refl
last-mark Low Z = refl
last-mark High X = refl
last-mark High Y = refl
last-mark High Z = refl

pub length-mark : (s : Level) (m : Mark) → length (line s (mark_runs m)) ≡ 8
length-mark s X = refl
length-mark s Y = refl
length-mark s Z = refl

-- the cell before index i of joined lists
pub before-append_right : (s u : Level) (a b : List Level) (n : ℕ) → before s a (length a) ≡ u
    → before s (a ++ b) (length a + n) ≡ before u b n
before-append_right s u [] b n e =
    let f : 0 + n ≡ n = omega arith in
    rw (f, e) refl
before-append_right s u (x ∷ a) b n e =
    let f : suc (length a) + n ≡ suc (length a + n) = omega arith in
    rw f (before-append_right x u a b n e)

pub before-append_left : (s : Level) (a b : List Level) (i : ℕ) → i ≤ length a → before s (a ++ b) i ≡ before s a i
before-append_left s a b zero h = refl
before-append_left s [] b (suc i) h = absurd (omega arith)
before-append_left s (x ∷ a) b (suc i) h = before-append_left x a b i (omega arith)

-- the cells of one subframe
abbrev pub subframe : Level → Mark → List Bool → List Level
subframe s m bits = line s (slot_runs m bits)

pub subframe-length : (s : Level) (m : Mark) (bits : List Bool) → length bits ≡ 28 → length (subframe s m bits) ≡ 64
subframe-length s m bits h =
    let a = ap length (line-slots s m bits) in
    let b = length-append (line s (mark_runs m)) (line s (bits_runs bits)) in
    let c = length-mark s m in
    let d = length-line s (bits_runs bits) in
    let e = total-bits bits in
    omega (arith, a, b, c, d, e, h)

-- its preamble by index
pub subframe-preamble : (s : Level) (m : Mark) (bits : List Bool) (k : ℕ) → k < 8
    → at (subframe s m bits) k ≡ shape m k s
subframe-preamble s m bits k h =
    let l = length-mark s m in
    ap (λ x. at x k) (line-slots s m bits) ∙ get_or_append_left (line s (mark_runs m)) (line s (bits_runs bits)) Low k
    (omega (arith, l))

pub subframe-slot : (s : Level) (m : Mark) (bits : List Bool) (k : ℕ) → k < length bits
    → at (subframe s m bits) (8 + 2 * k) ≡ other (before s (subframe s m bits) (8 + 2 * k))
subframe-slot s m bits k h =
    let l = length-mark s m in
    let p = line s (mark_runs m) in
    let q = line s (bits_runs bits) in
    let e : at (p ++ q) (8 + 2 * k) ≡ at q (2 * k) =
    ap (λ n. at (p ++ q) (n + 2 * k)) (sym l) ∙ get_or-append-add p q (2 * k) Low in
    let f : before s (p ++ q) (8 + 2 * k) ≡ before s q (2 * k) =
    ap (λ n. before s (p ++ q) (n + 2 * k)) (sym l)
    ∙ before-append_right s s p q (2 * k) (ap (before s p) l ∙ last-mark s m) in
    ap (λ x. at x (8 + 2 * k)) (line-slots s m bits) ∙ e ∙ slot-bits s bits k h
    ∙ ap other (sym f ∙ ap (λ x. before s x (8 + 2 * k)) (sym (line-slots s m bits)))

-- its last cell is the level after it
pub subframe-last : (s : Level) (m : Mark) (bits : List Bool) → length bits ≡ 28
    → before s (subframe s m bits) 64 ≡ after s (slot_runs m bits)
subframe-last s m bits h =
    let l = length-mark s m in
    let p = line s (mark_runs m) in
    let q = line s (bits_runs bits) in
    let n : 64 ≡ length p + 2 * length bits = omega (arith, l, h) in
    ap (λ x. before s x 64) (line-slots s m bits)
    ∙ ap (before s (p ++ q)) n
    ∙ before-append_right s s p q (2 * length bits) (ap (before s p) l ∙ last-mark s m)
    ∙ last-bits s bits
    ∙ ap (λ t. after t (bits_runs bits)) (sym (after-mark s m))
    ∙ sym (after-append s (mark_runs m) (bits_runs bits))
