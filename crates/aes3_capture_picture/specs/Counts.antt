-- What is counted of edges.
use Rattle.std.specs.Prelude.{ℕ, List, ◌+◌, ◌≡◌, get_or, set, sum_by}
use Rattle.aes3_capture_picture.specs.Places.{bin_of}

-- how many edges bars have
abbrev pub edges_in : List ℕ → ℕ
edges_in counts = sum_by (λ count. count) counts

-- one more edge at this place
abbrev pub with_edge : List ℕ → ℕ → List ℕ
with_edge counts at = set counts (bin_of at) (get_or counts (bin_of at) 0 + 1)
