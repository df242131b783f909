-- Followers of lines.
use Rattle.std.proofs.Common.{true, false}
use Rattle.std.proofs.Common.{ℕ, List, ◌≡◌, ◌<◌, ◌≤◌, ◌+◌, ◌⊎◌, inl, inr, Option, Some, None, IfSome, is_some, arith, get_or, length, set}
use Rattle.std.proofs.lemmas.Bool.{cases_lt}
use Rattle.std.proofs.lemmas.List.{get_or-set_other, get_or-set_same}
use Rattle.std.specs.Option.{unwrap_or}
use Rattle.std.specs.Prelude.{Bool, IsTrue, nat_le}
use Rattle.aes3_capture_recovery.specs.declared.period.Anchor.{Anchor}
use Rattle.aes3_capture.specs.declared.follower.Bounds.{Bounds}
use Rattle.aes3_capture.specs.declared.follower.Follower.{Follower}
use Rattle.aes3_capture.specs.Captures.{IsAbout}
use Rattle.aes3_capture_recovery.specs.Finding.{IsFound, IsPeriodOf, IsStarted}
use Rattle.aes3_capture_recovery.specs.Measuring.{IsAround, IsAsked, IsLine, IsMeasured}

pub is-at-most : (a b : ℕ) → a ≤ b → IsTrue (nat_le a b)
is-at-most a b h = grind (arith, h)

pub not-both : (b : Bool) → IsTrue b → b ≡ false → ⊥
not-both true is e = cc
not-both false is e = cc

-- a follower of a line whose cells lie around the period that was asked for, or around a measured one
line-measured : (known : Option ℕ) (runs : List ℕ) (period : ℕ) (bounds : Bounds) (follower : Follower)
    → IsAsked known period → IsAround bounds period → IsLine bounds runs follower → IsMeasured known runs follower
line-measured known runs period bounds follower asked around line = record {
  placed = record {
    period = period;
    asked = asked;
    around = rw line.bounds_is around;
    at_an_edge = line.at_an_edge;
  };
  steady = line.steady;
  preambles = line.preambles;
}

asked-period : (known : Option ℕ) (measured period : ℕ) → period ≡ unwrap_or known measured → IsAsked known period
asked-period None measured period is = record {}
asked-period (Some given) measured period is = is

pub measured-line : (known : Option ℕ) (runs : List ℕ) (measured period : ℕ) (bounds : Bounds) (result : Option Follower)
    → period ≡ unwrap_or known measured → IsAround bounds period → IfSome result (IsLine bounds runs)
    → IfSome result (λ follower. IsMeasured known runs follower)
measured-line known runs measured period bounds None asked around line = line
measured-line known runs measured period bounds (Some follower) is around line =
    line-measured known runs period bounds follower (asked-period known measured period is) around line

-- one anchor more among the runs
pub anchors-more : (found : List Anchor) (g limit : ℕ) (value : Anchor) → g < length found → value.run < limit
    → ((i : ℕ) (other : Anchor) → i < g → (get_or found i other).run < limit)
    → (i : ℕ) (other : Anchor) → i < g + 1 → (get_or (set found g value) i other).run < limit
anchors-more found g limit value within last before i other below = by (cases_lt i g)
  where
    by : (i < g) ⊎ (g ≤ i) → (get_or (set found g value) i other).run < limit
    by (inl earlier) = rw (get_or-set_other found g i value other (omega (arith, earlier))) (before i other earlier)
    by (inr past) = at (omega (arith, below, past))
      where
        at : i ≡ g → (get_or (set found g value) i other).run < limit
        at same = rw (same, get_or-set_same found g value other within) last

-- what is found is there
pub found-is-some : (known : Option ℕ) (narrow : Bounds) (spread late later : ℕ) (places : List ℕ) (result : Option Follower)
    → IsFound known narrow spread late later places result → is_some result ≡ false → ⊥
found-is-some known narrow spread late later places None found e = found
found-is-some known narrow spread late later places (Some follower) found e = cc

pub started-is-some : (narrow : Bounds) (spread late later : ℕ) (places : List ℕ) (result : Option Follower)
    → IsStarted narrow spread late later places result → is_some result ≡ false → ⊥
started-is-some narrow spread late later places None started e = started
started-is-some narrow spread late later places (Some follower) started e = cc

-- a follower that was started with bounds by the period that was measured
pub found-measured : (known : Option ℕ) (narrow bounds : Bounds) (spread late later : ℕ) (places runs : List ℕ) (period asked : ℕ)
    (result : Option Follower) → IsStarted narrow spread late later places result → IfSome result (IsLine bounds runs)
    → IsPeriodOf narrow spread 253 period → asked ≡ unwrap_or known period → IsAbout bounds asked 1024
    → IsFound known narrow spread late later places result
found-measured known narrow bounds spread late later places runs period asked None started line measured is about = started
found-measured known narrow bounds spread late later places runs period asked (Some follower) started line measured is about = record {
  starts = started;
  period = asked;
  about = rw line.bounds_is about;
  measured = λ none. rw (is, none) measured;
}
