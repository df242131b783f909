-- An input whose octets make those of another one.
use Rattle.std.specs.Prelude.{ℕ, List, [], ◌∷◌, ◌++◌, Option, Some, ◌≡◌, ◌≤◌, ◌%◌, length}
use Rattle.aes3_refusals.specs.declared.run_error.RunError.{RunError}
use Rattle.aes3_input.specs.Converting.{Reading, fault_behind, or_else, out_behind}
use Rattle.aes3_engine.specs.Sampling.{more_of}

-- A reading of octets as another one reads what is made of them: of one more it reads what that makes more. `cut` says
-- of which octets the end is refused, whatever is made of them.
unfoldable pub through : (List ℕ → List ℕ) → (List ℕ → Option RunError) → Reading → Reading
through made cut r = record {
  fault = λ b x. fault_behind r (made b) (more_of (made b) (made (b ++ x ∷ [])));
  adds = λ b x. out_behind r (made b) (more_of (made b) (made (b ++ x ∷ [])));
  end_fault = λ b. or_else (cut b) (r.end_fault (made b));
  ends = λ b. r.ends (made b);
}

-- where one of eight octets is refused that come behind a multiple of eight, nothing is written of them
pub record PairsAreOne (r : Reading) : Type 0 where
  pub quiet : (c m : List ℕ) (e : RunError) → length c % 8 ≡ 0 → length m ≤ 8 → fault_behind r c m ≡ Some e
      → out_behind r c m ≡ []
