-- Steps in 32 bits, one behind the other.
use Rattle.std.proofs.Common.{ℕ, List, length, get_or, set, ◌≡◌, ◌<◌, ◌≤◌, ◌+◌, inl, inr, arith}
use Rattle.std.proofs.lemmas.List.{get_or-set_same, get_or-set_other, length-set}
use Rattle.std.proofs.lemmas.Bool.{cases_lt}
use Rattle.aes3_capture.specs.Leaps.{IsBounded, IsStep}

-- What is known once so many steps are made: each of them, and where they have come to.
pub record AreSteps (middle : ℕ) (runs cells places sames others periods : List ℕ) (a b c i same other period : ℕ) : Type 0 where
  pub places_long : length places ≡ 16
  pub sames_long : length sames ≡ 17
  pub others_long : length others ≡ 17
  pub periods_long : length periods ≡ 17
  pub same_begins : get_or sames 0 0 ≡ a
  pub other_begins : get_or others 0 0 ≡ b
  pub period_begins : get_or periods 0 0 ≡ c
  pub same_is : get_or sames i 0 ≡ same
  pub other_is : get_or others i 0 ≡ other
  pub period_is : get_or periods i 0 ≡ period
  pub each : (j : ℕ) → j < i → IsStep middle (get_or runs j 0) (get_or cells j 0)
      (get_or sames j 0) (get_or others j 0) (get_or periods j 0) (get_or places j 0)
      (get_or sames (j + 1) 0) (get_or others (j + 1) 0) (get_or periods (j + 1) 0)

-- the steps before the last
step-before : (middle : ℕ) (runs cells places sames others periods : List ℕ) (a b c i j same other period place s o p : ℕ) → j < i
    → AreSteps middle runs cells places sames others periods a b c i same other period
    → IsStep middle (get_or runs j 0) (get_or cells j 0)
    (get_or (set sames (i + 1) s) j 0) (get_or (set others (i + 1) o) j 0) (get_or (set periods (i + 1) p) j 0)
    (get_or (set places i place) j 0) (get_or (set sames (i + 1) s) (j + 1) 0) (get_or (set others (i + 1) o) (j + 1) 0)
    (get_or (set periods (i + 1) p) (j + 1) 0)
step-before middle runs cells places sames others periods a b c i j same other period place s o p before are =
    rw (
      get_or-set_other sames (i + 1) j s 0 (omega (arith, before)),
      get_or-set_other others (i + 1) j o 0 (omega (arith, before)),
      get_or-set_other periods (i + 1) j p 0 (omega (arith, before)),
      get_or-set_other places i j place 0 (omega (arith, before)),
      get_or-set_other sames (i + 1) (j + 1) s 0 (omega (arith, before)),
      get_or-set_other others (i + 1) (j + 1) o 0 (omega (arith, before)),
      get_or-set_other periods (i + 1) (j + 1) p 0 (omega (arith, before)),
    ) (are.each j before)

-- the last one
step-last : (middle : ℕ) (runs cells places sames others periods : List ℕ) (a b c i j same other period place s o p : ℕ) → i < 16
    → j ≡ i → AreSteps middle runs cells places sames others periods a b c i same other period
    → IsStep middle (get_or runs i 0) (get_or cells i 0) same other period place s o p
    → IsStep middle (get_or runs j 0) (get_or cells j 0)
    (get_or (set sames (i + 1) s) j 0) (get_or (set others (i + 1) o) j 0) (get_or (set periods (i + 1) p) j 0)
    (get_or (set places i place) j 0) (get_or (set sames (i + 1) s) (j + 1) 0) (get_or (set others (i + 1) o) (j + 1) 0)
    (get_or (set periods (i + 1) p) (j + 1) 0)
step-last middle runs cells places sames others periods a b c i j same other period place s o p few last are step =
    rw (
      last,
      get_or-set_other sames (i + 1) i s 0 (omega arith),
      get_or-set_other others (i + 1) i o 0 (omega arith),
      get_or-set_other periods (i + 1) i p 0 (omega arith),
      get_or-set_same places i place 0 (omega (arith, few, are)),
      get_or-set_same sames (i + 1) s 0 (omega (arith, few, are)),
      get_or-set_same others (i + 1) o 0 (omega (arith, few, are)),
      get_or-set_same periods (i + 1) p 0 (omega (arith, few, are)),
      are.same_is,
      are.other_is,
      are.period_is,
    ) step

pub steps-more : (middle : ℕ) (runs cells places sames others periods : List ℕ) (a b c i same other period place s o p : ℕ)
    → i < 16 → AreSteps middle runs cells places sames others periods a b c i same other period
    → IsStep middle (get_or runs i 0) (get_or cells i 0) same other period place s o p
    → AreSteps middle runs cells (set places i place) (set sames (i + 1) s) (set others (i + 1) o) (set periods (i + 1) p)
    a b c (i + 1) s o p
steps-more middle runs cells places sames others periods a b c i same other period place s o p few are step =
    let sames_long = are.sames_long in
    let others_long = are.others_long in
    let periods_long = are.periods_long in
    record {
      places_long = rw (length-set places i place) are.places_long;
      sames_long = rw (length-set sames (i + 1) s) sames_long;
      others_long = rw (length-set others (i + 1) o) others_long;
      periods_long = rw (length-set periods (i + 1) p) periods_long;
      same_begins = rw (get_or-set_other sames (i + 1) 0 s 0 (omega arith)) are.same_begins;
      other_begins = rw (get_or-set_other others (i + 1) 0 o 0 (omega arith)) are.other_begins;
      period_begins = rw (get_or-set_other periods (i + 1) 0 p 0 (omega arith)) are.period_begins;
      same_is = get_or-set_same sames (i + 1) s 0 (omega (arith, few, sames_long));
      other_is = get_or-set_same others (i + 1) o 0 (omega (arith, few, others_long));
      period_is = get_or-set_same periods (i + 1) p 0 (omega (arith, few, periods_long));
      each = λ j below. elim (cases_lt j i) [
        | inl before ↦ step-before middle runs cells places sames others periods a b c i j same other period place s o p before are
        | inr past ↦ step-last middle runs cells places sames others periods a b c i j same other period place s o p few
            (omega (arith, below, past)) are step
      ];
    }

-- no step yet
pub no-steps : (middle : ℕ) (runs cells places sames others periods : List ℕ) (same other period : ℕ)
    → length places ≡ 16 → length sames ≡ 17 → length others ≡ 17 → length periods ≡ 17
    → get_or sames 0 0 ≡ same → get_or others 0 0 ≡ other → get_or periods 0 0 ≡ period
    → AreSteps middle runs cells places sames others periods same other period 0 same other period
no-steps middle runs cells places sames others periods same other period d e f g h i j = record {
  places_long = d;
  sames_long = e;
  others_long = f;
  periods_long = g;
  same_begins = h;
  other_begins = i;
  period_begins = j;
  same_is = h;
  other_is = i;
  period_is = j;
  each = λ j below. absurd (omega (arith, below));
}

-- a step within some bounds is within wider ones
pub bounded-within : (low run cells other place s o p a b c d e f a' b' c' d' e' f' : ℕ)
    → IsBounded low run cells other place s o p a b c d e f → a ≤ a' → b ≤ b' → c ≤ c' → d ≤ d' → e ≤ e' → f ≤ f'
    → IsBounded low run cells other place s o p a' b' c' d' e' f'
bounded-within low run cells other place s o p a b c d e f a' b' c' d' e' f' is g h i j k l =
    record {
      run_is = omega (arith, is, g);
      cells_is = omega (arith, is, h);
      place_is = omega (arith, is, i);
      time_is = omega (arith, is, j);
      apart_is = omega (arith, is, k);
      period_is = omega (arith, is, l);
    }

-- the first steps are within these bounds
abbrev pub AreBounded : ℕ → List ℕ → List ℕ → List ℕ → List ℕ → List ℕ → List ℕ → ℕ → ℕ → ℕ → ℕ → ℕ → ℕ → ℕ → Type 0
AreBounded low runs cells places sames others periods i a b c d e f =
    (j : ℕ) → j < i → IsBounded low (get_or runs j 0) (get_or cells j 0) (get_or others j 0) (get_or places j 0)
    (get_or sames (j + 1) 0) (get_or others (j + 1) 0) (get_or periods (j + 1) 0) a b c d e f

-- and one more
pub bounded-more : (low : ℕ) (runs cells places sames others periods : List ℕ) (i a b c d e f a' b' c' d' e' f' : ℕ)
    → AreBounded low runs cells places sames others periods i a b c d e f
    → a ≤ a' → b ≤ b' → c ≤ c' → d ≤ d' → e ≤ e' → f ≤ f'
    → IsBounded low (get_or runs i 0) (get_or cells i 0) (get_or others i 0) (get_or places i 0)
    (get_or sames (i + 1) 0) (get_or others (i + 1) 0) (get_or periods (i + 1) 0) a' b' c' d' e' f'
    → AreBounded low runs cells places sames others periods (i + 1) a' b' c' d' e' f'
bounded-more low runs cells places sames others periods i a b c d e f a' b' c' d' e' f' are g h k l m n last = λ j below. elim (cases_lt j i) [
  | inl before ↦ bounded-within low _ _ _ _ _ _ _ a b c d e f a' b' c' d' e' f' (are j before) g h k l m n
  | inr past ↦ let same : j ≡ i = omega (arith, below, past) in rw same last
]
