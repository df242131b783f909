-- The periods that are measured lie near those of the line's cells, so that their bounds bear its edges.
use Rattle.std.proofs.Common.{ℕ, zero, suc, ◌≡◌, ◌<◌, ◌≤◌, ◌+◌, ◌-◌, ◌*◌, ◌/◌, ◌⊎◌, inl, inr, ap, arith}
use Rattle.std.specs.Prelude.{min}
use Rattle.std.proofs.lemmas.Bool.{cases_lt}
use Rattle.std.proofs.lemmas.Nat.{le-div}
use Rattle.std.proofs.Math.Nat.{div-mul-le_self}
use Rattle.aes3_capture.specs.declared.follower.Bounds.{Bounds}
use Rattle.aes3_capture.specs.Captures.{IsAbout}
use Rattle.aes3_capture.specs.Directions.{IsBorne, IsWider}
use Rattle.aes3_capture.proofs.Telescope.{apart}
use Rattle.aes3_capture_recovery.specs.Finding.{HasCells, IsFindable, IsPeriodOf, IsTolerable}
use Rattle.aes3_capture_recovery.proofs.Captured.{IsLong, fewer}

-- a period measured from more cells is one measured from fewer
more-times : (n d k : ℕ) → k ≤ n → k * d ≤ n * d
more-times n d k h = grind (arith, h)

sum-times : (n a d : ℕ) → n * (a + d) ≡ n * a + n * d
sum-times n a d = grind arith

fewer-most : (n k p a spread : ℕ) → k ≤ n → n * p ≤ n * a + spread → k * p ≤ k * a + spread
fewer-most n k p a spread h most = by (cases_lt a p)
  where
    by : (a < p) ⊎ (p ≤ a) → k * p ≤ k * a + spread
    by (inr less) =
        let e = fewer k p a less in
        omega (arith, e)
    by (inl more) =
        let e : p ≡ a + (p - a) = omega (arith, more) in
        let f = ap (λ x. n * x) e in
        let g = ap (λ x. k * x) e in
        let fs = sum-times n a (p - a) in
        let gs = sum-times k a (p - a) in
        let less = more-times n (p - a) k h in
        omega (arith, f, g, fs, gs, less, most)

fewer-least : (n k p a spread : ℕ) → k ≤ n → n * a < n * p + n + spread → 0 < k → k * a < k * p + k + spread
fewer-least n k p a spread h least some = by (cases_lt p a)
  where
    by : (p < a) ⊎ (a ≤ p) → k * a < k * p + k + spread
    by (inr less) =
        let e = fewer k a p less in
        omega (arith, e, some)
    by (inl more) =
        let e : a ≡ p + 1 + (a - p - 1) = omega (arith, more) in
        let f = ap (λ x. n * x) e in
        let g = ap (λ x. k * x) e in
        let fs = sum-times n (p + 1) (a - p - 1) in
        let gs = sum-times k (p + 1) (a - p - 1) in
        let ft = sum-times n p 1 in
        let gt = sum-times k p 1 in
        let less = more-times n (a - p - 1) k h in
        omega (arith, f, g, fs, gs, ft, gt, less, least)

pub near-fewer : (bounds : Bounds) (spread n k period : ℕ) → k ≤ n → 0 < k → IsPeriodOf bounds spread n period
    → IsPeriodOf bounds spread k period
near-fewer bounds spread n k period h some near = record {
  most = fewer-most n k period bounds.high spread h near.most;
  least = fewer-least n k period bounds.low spread h near.least some;
}

-- what a quotient is
quotient-most : (x y : ℕ) → y * (x / y) ≤ x
quotient-most x y =
    let h = div-mul-le_self x y in
    let e = turn x y in
    omega (arith, h, e)
  where
    turn : (x y : ℕ) → y * (x / y) ≡ x / y * y
    turn x y = grind arith

quotient-least : (x y : ℕ) → 0 < y → x < y * (x / y) + y
quotient-least x y some = by (cases_lt x (y * (x / y) + y))
  where
    next : (q : ℕ) → (q + 1) * y ≡ y * q + y
    next q = grind arith

    by : (x < y * (x / y) + y) ⊎ (y * (x / y) + y ≤ x) → x < y * (x / y) + y
    by (inl less) = less
    by (inr more) =
        let e = next (x / y) in
        let least = le-div (x / y + 1) x y some (omega (arith, more, e)) in
        absurd (omega (arith, least))

pub near-of : (bounds : Bounds) (spread cells samples period : ℕ) → IsLong bounds spread cells samples → 0 < cells
    → period ≡ samples * 65536 / cells → IsPeriodOf bounds spread cells period
near-of bounds spread cells samples period long some is =
    let most = quotient-most (samples * 65536) cells in
    let least = quotient-least (samples * 65536) cells some in
    let high = turn bounds.high in
    let low = turn bounds.low in
    rw is record { most = omega (arith, most, long, high); least = omega (arith, least, long, low) }
  where
    turn : (x : ℕ) → x * cells ≡ cells * x
    turn x = grind arith

-- The bounds of such a period have the line's cells, and bear how far its edges lie from their places.
pub record Fits (bounds narrow : Bounds) (spread late later : ℕ) : Type 0 where
  pub wide : IsWider bounds narrow
  pub borne : IsBorne bounds spread late later

fits-of : (bounds narrow : Bounds) (spread late later period part : ℕ) → IsAbout bounds period part
    → period / part ≤ period
    → period - period / part ≤ narrow.low → narrow.high ≤ period + period / part
    → 2 * spread + 67 + 385 * (period / part) ≤ period
    → 2 * late ≤ 2 * later + narrow.low → 2 * later ≤ 2 * late + narrow.low
    → 2 * spread + narrow.low + 14 * (period / part) < 2 * period
    → Fits bounds narrow spread late later
fits-of bounds narrow spread late later period part about less low high middle l0 l1 apart =
    record {
      wide = record { low = omega (arith, about, low); high = omega (arith, about, high) };
      borne = record {
        narrow = omega (arith, about, less, middle);
        above = omega (arith, about, less, l0, apart);
        below = omega (arith, about, less, l1, apart);
      };
    }

pub fits-192 : (bounds narrow : Bounds) (spread late later period : ℕ) → IsFindable narrow spread late later
    → IsPeriodOf narrow spread 192 period → IsAbout bounds period 768 → Fits bounds narrow spread late later
fits-192 bounds narrow spread late later period f near about =
    fits-of bounds narrow spread late later period 768 about (omega arith) (omega (arith, f, near)) (omega (arith, f, near))
    (omega (arith, f, near)) f.late_half f.later_half (omega (arith, f, near))

pub fits-256 : (bounds narrow : Bounds) (spread late later period : ℕ) → IsFindable narrow spread late later
    → IsPeriodOf narrow spread 256 period → IsAbout bounds period 896 → Fits bounds narrow spread late later
fits-256 bounds narrow spread late later period f near about =
    fits-of bounds narrow spread late later period 896 about (omega arith) (omega (arith, f, near)) (omega (arith, f, near))
    (omega (arith, f, near)) f.late_half f.later_half (omega (arith, f, near))

pub fits-253 : (bounds narrow : Bounds) (spread late later period : ℕ) → IsFindable narrow spread late later
    → IsPeriodOf narrow spread 253 period → IsAbout bounds period 1024 → Fits bounds narrow spread late later
fits-253 bounds narrow spread late later period f near about =
    fits-of bounds narrow spread late later period 1024 about (omega arith) (omega (arith, f, near)) (omega (arith, f, near))
    (omega (arith, f, near)) f.late_half f.later_half (omega (arith, f, near))

-- by three subframes or more
pub fits-first : (bounds narrow : Bounds) (spread late later period m part : ℕ) → IsFindable narrow spread late later
    → IsPeriodOf narrow spread (64 * m) period → 3 ≤ m → part ≡ min (128 * (m + 3)) 1024 → IsAbout bounds period part
    → Fits bounds narrow spread late later
fits-first bounds narrow spread late later period zero part f near some is about = absurd (omega (arith, some))
fits-first bounds narrow spread late later period (suc zero) part f near some is about = absurd (omega (arith, some))
fits-first bounds narrow spread late later period (suc (suc zero)) part f near some is about = absurd (omega (arith, some))
fits-first bounds narrow spread late later period (suc (suc (suc zero))) part f near some is about =
    fits-192 bounds narrow spread late later period f near (rw is at about)
fits-first bounds narrow spread late later period (suc (suc (suc (suc zero)))) part f near some is about =
    fits-256 bounds narrow spread late later period f near (rw is at about)
fits-first bounds narrow spread late later period (suc (suc (suc (suc (suc m))))) part f near some is about =
    let e : part ≡ 1024 = omega (arith, is) in
    let n = near-fewer narrow spread _ 253 period (omega arith) (omega arith) near in
    fits-253 bounds narrow spread late later period f n (rw e at about)

-- by a period that is known
pub fits-known : (bounds narrow : Bounds) (spread late later period : ℕ) → IsFindable narrow spread late later → HasCells period narrow
    → IsAbout bounds period 1024 → Fits bounds narrow spread late later
fits-known bounds narrow spread late later period f has about =
    fits-of bounds narrow spread late later period 1024 about (omega arith) has.low has.high (omega (arith, f, has)) f.late_half
    f.later_half (omega (arith, f, has))

-- such periods are possible
pub in-range-192 : (narrow : Bounds) (spread late later period : ℕ) → IsFindable narrow spread late later
    → IsPeriodOf narrow spread 192 period → (132096 ≤ period) × (period ≤ 524288000)
in-range-192 narrow spread late later period f near = (omega (arith, f, near), omega (arith, f, near))

-- in round numbers
pub findable : (narrow : Bounds) (cell spread late later : ℕ) → IsAbout narrow cell 65536 → IsTolerable cell spread late later
    → IsFindable narrow spread late later
findable narrow cell spread late later about tolerable = record {
  ordered = omega (arith, about);
  alike = omega (arith, about, tolerable);
  near = omega (arith, about, tolerable);
  shortest = omega (arith, about, tolerable);
  longest = omega (arith, about, tolerable);
  late_half = omega (arith, about, tolerable);
  later_half = omega (arith, about, tolerable);
}
