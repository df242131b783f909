-- The jitter that AES3 asks a receiver to bear, in numbers.
use Rattle.std.proofs.Common.{ℕ, ◌≡◌, ◌<◌, ◌-◌, ◌/◌, inl, inr, arith, subst}
use Rattle.aes3_capture.specs.declared.follower.Bounds.{Bounds}
use Rattle.aes3_capture.specs.Captures.{IsAbout, IsEnough, margin, tolerance}

about-is : (bounds : Bounds) (cell part known : ℕ) → part ≡ known → IsAbout bounds cell part
    → IsAbout bounds cell known
about-is bounds cell part known is a = subst (λ p. IsAbout bounds cell p) is a

-- it lies below half a cell less the margin
pub tolerance-narrow : (bounds : Bounds) (cell part : ℕ) → IsAbout bounds cell part → IsEnough part cell
    → tolerance cell < bounds.low / 2 - margin bounds
tolerance-narrow bounds cell part about enough = elim enough [
  | inl a ↦ let b = about-is bounds cell part 1024 a.0 about in omega (arith, b, a)
  | inr more ↦ elim more [
    | inl a ↦ let b = about-is bounds cell part 2048 a.0 about in omega (arith, b, a)
    | inr a ↦ let b = about-is bounds cell part 8192 a.0 about in omega (arith, b, a)
  ]
]
