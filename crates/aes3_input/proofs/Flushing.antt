-- What a piece and an end answer, where the sink is then asked to pass on what it holds.
use Rattle.std.proofs.Common.{◌≡◌, ℕ, ◌+◌, List, Option, Ok, Err, ap, sym, ◌∙◌, subst}
use Rattle.aes3_refusals.specs.declared.run_error.RunError.TheVariants.{Write}
use Rattle.aes3_cell.specs.Ends.{GrewFront}
use Rattle.aes3_cell.proofs.Growing.{front-all}
use Rattle.aes3_input.specs.Converting.{out_behind}
use Rattle.aes3_input.specs.Running.{InputState, Movement, PieceRan, EndRan}

-- it has taken no more, and failed or did not
with-sink : (P : Movement → Type 0) (t t' u : Option (List ℕ)) (k k' n : ℕ) → u ≡ t' → n ≡ k'
    → P (record { old = t; new = t'; failed_old = k; failed_new = k' })
    → P (record { old = t; new = u; failed_old = k; failed_new = n })
with-sink P t t' u k k' n e q p =
    subst (λ (v : Option (List ℕ)). P (record { old = t; new = v; failed_old = k; failed_new = n })) (sym e)
    (subst (λ (v : ℕ). P (record { old = t; new = t'; failed_old = k; failed_new = v })) (sym q) p)

pub piece-passed : (old new : InputState) (piece : List ℕ) (t t' u : Option (List ℕ)) (k k' n : ℕ)
    → u ≡ t' → n ≡ k'
    → PieceRan old new piece (record { old = t; new = t'; failed_old = k; failed_new = k' }) (Ok tt)
    → PieceRan old new piece (record { old = t; new = u; failed_old = k; failed_new = n }) (Ok tt)
piece-passed old new piece t t' u k k' n e q p
    = with-sink (λ x. PieceRan old new piece x (Ok tt)) t t' u k k' n e q p

pub piece-stuck : (old new : InputState) (piece : List ℕ) (t t' u : Option (List ℕ)) (k k' n : ℕ)
    → u ≡ t' → n ≡ k' + 1
    → PieceRan old new piece (record { old = t; new = t'; failed_old = k; failed_new = k' }) (Ok tt)
    → PieceRan old new piece (record { old = t; new = u; failed_old = k; failed_new = n }) (Err Write)
piece-stuck old new piece t t' u k k' n e q p = (
  q ∙ ap (λ v. v + 1) p.1,
  λ b h. subst (λ (v : Option (List ℕ)). GrewFront t v (out_behind old.reads b piece)) (sym e)
      (front-all (p.0.grew b h)),
)

pub end-passed : (old new : InputState) (t t' u : Option (List ℕ)) (k k' n : ℕ) → u ≡ t' → n ≡ k'
    → EndRan old new (record { old = t; new = t'; failed_old = k; failed_new = k' }) (Ok tt)
    → EndRan old new (record { old = t; new = u; failed_old = k; failed_new = n }) (Ok tt)
end-passed old new t t' u k k' n e q p = with-sink (λ x. EndRan old new x (Ok tt)) t t' u k k' n e q p

pub end-stuck : (old new : InputState) (t t' u : Option (List ℕ)) (k k' n : ℕ) → u ≡ t' → n ≡ k' + 1
    → EndRan old new (record { old = t; new = t'; failed_old = k; failed_new = k' }) (Ok tt)
    → EndRan old new (record { old = t; new = u; failed_old = k; failed_new = n }) (Err Write)
end-stuck old new t t' u k k' n e q p = (
  λ b h. let v = p.0 b h in
      (v.0, subst (λ (x : Option (List ℕ)). GrewFront t x (old.reads.ends b)) (sym e) (front-all v.2)),
  q ∙ ap (λ v. v + 1) p.1,
)
