-- Texts told one behind the other.
use Rattle.std.proofs.Common.{◌≡◌, ◌≤◌, ℕ, Bool, IsTrue, List, [], ◌∷◌, ◌++◌, Option, arith, codes, subst, sym}
use Rattle.aes3_cell.specs.Ends.{Grew}
use Rattle.aes3_cell.proofs.Growing.{grew-is, grew-join}
use Rattle.aes3_cli_hints.specs.Sentences.{ExplainedBy}

-- two texts, where neither of them failed
pub two-told : {b₀ b₁ : Bool} {t₀ t₁ t₂ : Option (List ℕ)} {f₁ f₂ : ℕ} {x y x' y' : List ℕ}
    → (f₁ ≡ 0 → IsTrue b₀ → Grew t₀ t₁ x) → (f₂ ≡ 0 → IsTrue b₁ → Grew t₁ t₂ y) → b₁ ≡ b₀ → f₁ ≤ f₂
    → x ≡ x' → y ≡ y' → IsTrue b₀ → f₂ ≡ 0 → Grew t₀ t₂ (x' ++ y')
two-told g₁ g₂ e l p q on quiet =
    grew-join (grew-is p (g₁ (omega arith) on)) (grew-is q (g₂ quiet (subst (λ (b : Bool). IsTrue b) (sym e) on)))

-- a sentence in four parts, where none of them failed
pub four-told : {b₀ b₁ b₂ b₃ : Bool} {t₀ t₁ t₂ t₃ t₄ : Option (List ℕ)} {f₁ f₂ f₃ f₄ : ℕ} {what advice : List ℕ}
    → (f₁ ≡ 0 → IsTrue b₀ → Grew t₀ t₁ (codes "aes3: ")) → (f₂ ≡ 0 → IsTrue b₁ → Grew t₁ t₂ what)
    → (f₃ ≡ 0 → IsTrue b₂ → Grew t₂ t₃ advice) → (f₄ ≡ 0 → IsTrue b₃ → Grew t₃ t₄ (10 ∷ []))
    → b₁ ≡ b₀ → b₂ ≡ b₁ → b₃ ≡ b₂ → f₁ ≤ f₂ → f₂ ≤ f₃ → f₃ ≤ f₄ → IsTrue b₀ → f₄ ≡ 0 → ExplainedBy advice t₀ t₄
four-told {what = what} g₁ g₂ g₃ g₄ e₁ e₂ e₃ l₁ l₂ l₃ on quiet =
    let on₁ = subst (λ (b : Bool). IsTrue b) (sym e₁) on in
    let on₂ = subst (λ (b : Bool). IsTrue b) (sym e₂) on₁ in
    let on₃ = subst (λ (b : Bool). IsTrue b) (sym e₃) on₂ in
    record {
      what = what;
      sentence = grew-join
          (grew-join (grew-join (g₁ (omega arith) on) (g₂ (omega arith) on₁)) (g₃ (omega arith) on₂)) (g₄ quiet on₃);
    }
