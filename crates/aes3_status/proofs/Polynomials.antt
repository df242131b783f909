-- Polynomials of degree below 8 modulo the generator: the powers of x.
use Rattle.std.proofs.Common.{◌≡◌, ℕ, zero, suc, ◌+◌, ◌*◌, ◌/◌, ◌%◌, ◌^◌, ◌<◌, Bool, true, cond, not, ◌&&◌, eqb, ltb}
use Rattle.std.proofs.Common.{refl, ap, ap₂, ◌∙◌, sym, arith, lit<, eqb-true}
use Rattle.std.specs.Prelude.{bit_xor}
use Rattle.std.specs.Int.Bits.{xor_assoc, xor_self, xor_zero_l, xor_zero_r}
use Rattle.std.proofs.lemmas.Bool.{agree_below_at, and_parts, eqb-false, ltb-true, not-true}
use Rattle.std.proofs.lemmas.Nat.{xor_comm, xor_lt, xor_shr, xor_block}
use Rattle.aes3_status.specs.Check.{generator, times_x, power_of_x}

-- of a ≡ b ^ c each is the xor of the two others
pub xor_back : (a b : ℕ) → bit_xor a (bit_xor a b) ≡ b
xor_back a b = sym (xor_assoc a a b) ∙ ap (λ n. bit_xor n b) (xor_self a) ∙ xor_zero_l b

pub same_from_xor : (a b : ℕ) → bit_xor a b ≡ 0 → a ≡ b
same_from_xor a b e = sym (xor_zero_r a) ∙ ap (bit_xor a) (sym e) ∙ xor_back a b

-- the first two of three change places
pub xor_turn : (a b c : ℕ) → bit_xor a (bit_xor b c) ≡ bit_xor b (bit_xor a c)
xor_turn a b c = sym (xor_assoc a b c) ∙ ap (λ n. bit_xor n c) (xor_comm a b) ∙ xor_assoc b a c

pub xor_swap : (a b c d : ℕ) → bit_xor (bit_xor a b) (bit_xor c d) ≡ bit_xor (bit_xor a c) (bit_xor b d)
xor_swap a b c d = xor_assoc a b (bit_xor c d) ∙ ap (bit_xor a) (xor_turn b c d) ∙ sym (xor_assoc a c (bit_xor b d))

-- to divide by x undoes to multiply by it
abbrev over_x : ℕ → ℕ
over_x p = cond (eqb (p % 2) 1) (bit_xor p generator / 2) (p / 2)

over-times : (p : ℕ) → p < 2 ^ 8 → over_x (times_x p) ≡ p
unfolding times_x
over-times p h = eqb-true _ _ (agree_below_at (λ p. eqb (over_x (times_x p)) p) (λ _. true) 256 p refl h)

pub times_x-lt : (p : ℕ) → p < 2 ^ 8 → times_x p < 2 ^ 8
unfolding times_x
times_x-lt p h = ltb-true _ _ (agree_below_at (λ p. ltb (times_x p) 256) (λ _. true) 256 p refl h)

-- x times a sum; the coefficient of x^7 decides whether the generator comes in
times_x-by_top : (p : ℕ) → p < 2 ^ 8 → times_x p ≡ bit_xor (2 * p) (p / 128 * generator)
unfolding times_x
times_x-by_top p h =
    eqb-true _ _ (agree_below_at (λ p. eqb (times_x p) (bit_xor (2 * p) (p / 128 * generator)))
    (λ _. true) 256 p refl h)

double-xor : (p q : ℕ) → 2 * bit_xor p q ≡ bit_xor (2 * p) (2 * q)
double-xor p q =
    let e = xor_block 1 p q 0 0 (lit< tt) (lit< tt) in
    let a : p * 2 ^ 1 + 0 ≡ 2 * p = omega arith in
    let b : q * 2 ^ 1 + 0 ≡ 2 * q = omega arith in
    let c : bit_xor (2 * p) (2 * q) ≡ bit_xor p q * 2 ^ 1 + 0 = ap₂ bit_xor (sym a) (sym b) ∙ e in
    omega arith

top-xor : (a b : ℕ) → a < 2 → b < 2 → bit_xor a b * generator ≡ bit_xor (a * generator) (b * generator)
top-xor zero zero h g = refl
top-xor zero (suc zero) h g = refl
top-xor (suc zero) zero h g = refl
top-xor (suc zero) (suc zero) h g = refl
top-xor a (suc (suc b)) h g = absurd (omega arith)
top-xor (suc (suc a)) b h g = absurd (omega arith)

pub times_x-xor : (p q : ℕ) → p < 2 ^ 8 → q < 2 ^ 8 → times_x (bit_xor p q) ≡ bit_xor (times_x p) (times_x q)
times_x-xor p q h g =
    times_x-by_top (bit_xor p q) (xor_lt 8 p q h g)
    ∙ ap₂ bit_xor (double-xor p q) (ap (λ n. n * generator) (xor_shr p q 7)
    ∙ top-xor (p / 128) (q / 128) (omega arith) (omega arith))
    ∙ xor_swap (2 * p) (2 * q) (p / 128 * generator) (q / 128 * generator)
    ∙ sym (ap₂ bit_xor (times_x-by_top p h) (times_x-by_top q g))

pub times_x-zero : times_x 0 ≡ 0
unfolding times_x
times_x-zero = refl

pub times_x_once : (p q : ℕ) → p < 2 ^ 8 → q < 2 ^ 8 → times_x p ≡ times_x q → p ≡ q
times_x_once p q h g e = sym (over-times p h) ∙ ap over_x e ∙ over-times q g

pub power-lt : (n : ℕ) → power_of_x n < 2 ^ 8
power-lt zero = lit< tt
power-lt (suc n) = times_x-lt (power_of_x n) (power-lt n)

-- no power of x is 0
pub power-not_zero : (n : ℕ) → power_of_x n ≡ 0 → ⊥
power-not_zero zero e = absurd (omega arith)
power-not_zero (suc n) e =
    power-not_zero n (times_x_once (power_of_x n) 0 (power-lt n) (lit< tt) (e ∙ sym times_x-zero))

-- the next powers after p are not 1
abbrev never_one : ℕ → ℕ → Bool
never_one zero p = true
never_one (suc n) p = not (eqb (times_x p) 1) && never_one n (times_x p)

abbrev pub times_by : ℕ → ℕ → ℕ
times_by zero p = p
times_by (suc n) p = times_by n (times_x p)

never_one_at : (count p n : ℕ) → never_one count p ≡ true → n < count → times_by (suc n) p ≡ 1 → ⊥
never_one_at zero p n e h = λ q. absurd (omega arith)
never_one_at (suc count) p zero e h =
    λ q. eqb-false (times_x p) 1
    (not-true (eqb (times_x p) 1) (and_parts (not (eqb (times_x p) 1)) (never_one count (times_x p)) e).0) q
never_one_at (suc count) p (suc n) e h =
    never_one_at count (times_x p) n (and_parts (not (eqb (times_x p) 1)) (never_one count (times_x p)) e).1
    (omega arith)

times_by-last : (n p : ℕ) → times_by (suc n) p ≡ times_x (times_by n p)
times_by-last zero p = refl
times_by-last (suc n) p = times_by-last n (times_x p)

power-times_by : (n : ℕ) → power_of_x n ≡ times_by n 1
power-times_by zero = refl
power-times_by (suc n) = ap times_x (power-times_by n) ∙ sym (times_by-last n 1)

-- the first 191 powers of x are not 1
power-not_one : (n : ℕ) → n < 191 → power_of_x (suc n) ≡ 1 → ⊥
unfolding times_x
power-not_one n h e = never_one_at 191 1 n refl h (sym (power-times_by (suc n)) ∙ e)

-- two powers of x are two, as far as a status has bits
pub powers-apart : (n m : ℕ) → n < m → m < 192 → power_of_x n ≡ power_of_x m → ⊥
powers-apart zero zero h g e = absurd (omega arith)
powers-apart zero (suc m) h g e = power-not_one m (omega arith) (sym e)
powers-apart (suc n) zero h g e = absurd (omega arith)
powers-apart (suc n) (suc m) h g e =
    powers-apart n m (omega arith) (omega arith)
    (times_x_once (power_of_x n) (power_of_x m) (power-lt n) (power-lt m) e)

pub times_by-xor : (n p q : ℕ) → p < 2 ^ 8 → q < 2 ^ 8
    → times_by n (bit_xor p q) ≡ bit_xor (times_by n p) (times_by n q)
times_by-xor zero p q h g = refl
times_by-xor (suc n) p q h g = ap (times_by n) (times_x-xor p q h g)
    ∙ times_by-xor n (times_x p) (times_x q) (times_x-lt p h) (times_x-lt q g)

pub times_by-zero : (n : ℕ) → times_by n 0 ≡ 0
times_by-zero zero = refl
times_by-zero (suc n) = ap (times_by n) times_x-zero ∙ times_by-zero n

pub times_by-power : (n m : ℕ) → times_by n (power_of_x m) ≡ power_of_x (n + m)
times_by-power zero m = ap power_of_x (omega arith)
times_by-power (suc n) m = times_by-power n (suc m) ∙ ap power_of_x (let e : n + suc m ≡ suc n + m = omega arith in e)
