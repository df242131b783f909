-- What a taker writes, for joined items.
use Rattle.std.proofs.Common.{◌≡◌, ℕ, List, [], ◌∷◌, ◌++◌, sym, ap, ◌∙◌, append_assoc, append-nil}
use Rattle.aes3_input.specs.Taking.{Writing, behind, before_end}

pub items-join : {A : Type 0} (w : Writing A) (c d e : List A)
    → behind w c (d ++ e) ≡ behind w c d ++ behind w (c ++ d) e
items-join w c [] e = ap (λ z. behind w z e) (sym (append-nil c))
items-join w c (x ∷ d) e =
    ap (λ z. w.adds c x ++ z)
    (items-join w (c ++ x ∷ []) d e ∙ ap (λ z. behind w (c ++ x ∷ []) d ++ behind w z e) (append_assoc c (x ∷ []) d))
    ∙ sym (append_assoc (w.adds c x) (behind w (c ++ x ∷ []) d) (behind w (c ++ x ∷ d) e))

pub before-join : {A : Type 0} (w : Writing A) (c d : List A) → before_end w (c ++ d) ≡ before_end w c ++ behind w c d
unfolding before_end
before-join w c d = items-join w [] c d

-- a function that grows as the taker writes is what the taker writes
pub before-is : {A : Type 0} (w : Writing A) (f : List A → List ℕ) → f [] ≡ []
    → ((c : List A) (x : A) → f (c ++ x ∷ []) ≡ f c ++ w.adds c x)
    → (c : List A) → before_end w c ≡ f c
unfolding before_end
before-is {A} w f start more c = sym (ap (λ z. z ++ behind w [] c) start) ∙ sym (go [] c)
  where
    go : (p d : List A) → f (p ++ d) ≡ f p ++ behind w p d
    go p [] = ap f (append-nil p) ∙ sym (append-nil (f p))
    go p (x ∷ d) = ap f (sym (append_assoc p (x ∷ []) d)) ∙ go (p ++ x ∷ []) d
        ∙ ap (λ z. z ++ behind w (p ++ x ∷ []) d) (more p x)
        ∙ append_assoc (f p) (w.adds p x) (behind w (p ++ x ∷ []) d)
