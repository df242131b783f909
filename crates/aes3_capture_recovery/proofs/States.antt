-- How far a line is known.
use Rattle.std.proofs.Common.{ℕ, ◌+◌, ◌<◌, ◌≤◌, ◌^◌, ◌≡◌, ◌⊎◌, inl, inr, refl, sym, ◌∙◌, arith}
use Rattle.std.proofs.lemmas.Bool.{cases_lt}
use Rattle.aes3_capture_recovery.specs.declared.recovery.State.{State}
use Rattle.aes3_capture_recovery.specs.declared.recovery.State.TheVariants.{Still, Measuring, Following}

pub following-or : (s : State) → (s ≡ Following) ⊎ (s ≡ Following → ⊥)
following-or Still = inr (λ e. cc)
following-or Measuring = inr (λ e. cc)
following-or Following = inl refl

differs : Still ≡ Following → ⊥
differs e = cc

pub apart : (s : State) → s ≡ Still → s ≡ Following → ⊥
apart s a b = differs (sym a ∙ b)

unlike : Measuring ≡ Following → ⊥
unlike e = cc

pub measuring-apart : (s : State) → s ≡ Measuring → s ≡ Following → ⊥
measuring-apart s a b = unlike (sym a ∙ b)

other-than : Still ≡ Measuring → ⊥
other-than e = cc

pub still-apart : (s : State) → s ≡ Still → s ≡ Measuring → ⊥
still-apart s a b = other-than (sym a ∙ b)

-- how often a line was measured, where it is followed behind some steps and was not before the last of them
pub begun-more : (first before now : ℕ) → first ≤ before → before ≤ now → first + 1 < 2 ^ 64
    → (before + 1 < 2 ^ 64 → before < now) → first < now
begun-more first before now up more room begun = elim (cases_lt (before + 1) (2 ^ 64)) [
  | inl few ↦ let last = begun few in omega (arith, last, up)
  | inr many ↦ omega (arith, many, room, more)
]
