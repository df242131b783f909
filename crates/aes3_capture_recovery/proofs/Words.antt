-- Words of the levels of samples, 64 at a time.
use Rattle.std.proofs.Common.{ℕ, List, ◌≡◌, ◌<◌, ◌≤◌, ◌+◌, ◌⊎◌, inl, inr, ◌∙◌, arith, get_or, length, set}
use Rattle.std.proofs.lemmas.Bool.{cases_lt}
use Rattle.std.proofs.lemmas.List.{get_or-set_other, get_or-set_same}

-- one more of a list that has a value at each place
pub values-more : (wanted : ℕ → ℕ) (values : List ℕ) (j value : ℕ) → j < length values
    → ((k : ℕ) → k < j → get_or values k 0 ≡ wanted k) → value ≡ wanted j
    → (k : ℕ) → k < j + 1 → get_or (set values j value) k 0 ≡ wanted k
values-more wanted values j value within so_far is k below = by (cases_lt k j)
  where
    by : (k < j) ⊎ (j ≤ k) → get_or (set values j value) k 0 ≡ wanted k
    by (inl before) = get_or-set_other values j k value 0 (omega (arith, before)) ∙ so_far k before
    by (inr past) = last (omega (arith, below, past))
      where
        last : k ≡ j → get_or (set values j value) k 0 ≡ wanted k
        last same = rw same (get_or-set_same values j value 0 within ∙ is)
