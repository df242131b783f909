-- Words looked up row by row.
use Rattle.std.proofs.Common.{◌≡◌, ℕ, ◌+◌, ◌<◌, ◌≤◌, List, Bool, true, false, Some, None, length, get_or, drop, eq-eqb}
use Rattle.std.proofs.Common.{ne_eqb, refl, add-one, drop-cons}
use Rattle.std.specs.Borrow.{Bor}
use Rattle.std.specs.List.{list_all}
use Rattle.std.proofs.lemmas.List.{drop_all}
use Rattle.std.proofs.lemmas.List.Folds.{list_all_at}
use Rattle.aes3_status.specs.Words.{rows_of, word_of}

-- the rows from row i on, where row i has the code
pub word_of-here : (table : List (ℕ × Bor (List ℕ))) (i : ℕ) (d : ℕ × Bor (List ℕ)) (code : ℕ) → i < length table
    → (get_or table i d).0 ≡ code → word_of (rows_of (drop i table)) code ≡ Some (get_or table i d).1.now
word_of-here table i d code h same = rw (drop-cons table i d h, eq-eqb (get_or table i d).0 code same) refl

-- where it has another
pub word_of-behind : (table : List (ℕ × Bor (List ℕ))) (i : ℕ) (d : ℕ × Bor (List ℕ)) (code : ℕ) → i < length table
    → ((get_or table i d).0 ≡ code → ⊥)
    → word_of (rows_of (drop i table)) code ≡ word_of (rows_of (drop (i + 1) table)) code
word_of-behind table i d code h other =
    rw (add-one, drop-cons table i d h, ne_eqb (get_or table i d).0 code other) refl

-- behind the last row
pub word_of-end : (table : List (ℕ × Bor (List ℕ))) (i code : ℕ) → length table ≤ i
    → word_of (rows_of (drop i table)) code ≡ None
word_of-end table i code h = rw (drop_all i table h) refl

true-unless_false : (b : Bool) → (b ≡ false → ⊥) → b ≡ true
true-unless_false true never = refl
true-unless_false false never = absurd (never refl)

-- what a test says of all elements it says of each
pub test-get_or : {X : Type 0} (p : X → Bool) (xs : List X) (i : ℕ) (d : X) → i < length xs → list_all p xs ≡ true
    → p (get_or xs i d) ≡ true
test-get_or p xs i d h all =
    true-unless_false (p (get_or xs i d))
    (λ fails. let none : list_all p xs ≡ false = list_all_at p xs i d h fails in cc)
