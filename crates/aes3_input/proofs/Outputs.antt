-- Faults and outputs of joined bytes.
use Rattle.std.proofs.Common.{◌≡◌, ℕ, List, [], ◌∷◌, ◌++◌, Option, Some, None, sym, ap, ◌∙◌, append_assoc, append-nil}
use Rattle.std.proofs.Common.{refl}
use Rattle.aes3_refusals.specs.declared.run_error.RunError.{RunError}
use Rattle.aes3_input.specs.Converting.{Reading, or_else, unless, fault_behind, out_behind, before_fault, first_fault}
use Rattle.aes3_input.specs.Converting.{out}

pub fault-join : (r : Reading) (b d e : List ℕ)
    → fault_behind r b (d ++ e) ≡ or_else (fault_behind r b d) (fault_behind r (b ++ d) e)
fault-join r b [] e = ap (λ z. fault_behind r z e) (sym (append-nil b))
fault-join r b (x ∷ d) e =
    go (r.fault b x) (fault-join r (b ++ x ∷ []) d e
    ∙ ap (λ z. or_else (fault_behind r (b ++ x ∷ []) d) (fault_behind r z e)) (append_assoc b (x ∷ []) d))
  where
    go : (o : Option RunError)
        → fault_behind r (b ++ x ∷ []) (d ++ e)
        ≡ or_else (fault_behind r (b ++ x ∷ []) d) (fault_behind r (b ++ x ∷ d) e)
        → or_else o (fault_behind r (b ++ x ∷ []) (d ++ e))
        ≡ or_else (or_else o (fault_behind r (b ++ x ∷ []) d)) (fault_behind r (b ++ x ∷ d) e)
    go (Some f) h = refl
    go None h = h

pub behind-join : (r : Reading) (b d e : List ℕ)
    → out_behind r b (d ++ e) ≡ out_behind r b d ++ unless (fault_behind r b d) (out_behind r (b ++ d) e)
behind-join r b [] e = ap (λ z. out_behind r z e) (sym (append-nil b))
behind-join r b (x ∷ d) e =
    go (r.fault b x) (behind-join r (b ++ x ∷ []) d e
    ∙ ap (λ z. out_behind r (b ++ x ∷ []) d ++ unless (fault_behind r (b ++ x ∷ []) d) (out_behind r z e))
    (append_assoc b (x ∷ []) d))
  where
    go : (o : Option RunError)
        → out_behind r (b ++ x ∷ []) (d ++ e)
        ≡ out_behind r (b ++ x ∷ []) d ++ unless (fault_behind r (b ++ x ∷ []) d) (out_behind r (b ++ x ∷ d) e)
        → unless o (r.adds b x ++ out_behind r (b ++ x ∷ []) (d ++ e))
        ≡ unless o (r.adds b x ++ out_behind r (b ++ x ∷ []) d)
        ++ unless (or_else o (fault_behind r (b ++ x ∷ []) d)) (out_behind r (b ++ x ∷ d) e)
    go (Some f) h = refl
    go None h = ap (λ z. r.adds b x ++ z) h
        ∙ sym (append_assoc (r.adds b x) (out_behind r (b ++ x ∷ []) d)
        (unless (fault_behind r (b ++ x ∷ []) d) (out_behind r (b ++ x ∷ d) e)))

-- behind clean bytes
pub behind-clean : (r : Reading) (b d e : List ℕ) → fault_behind r b d ≡ None
    → out_behind r b (d ++ e) ≡ out_behind r b d ++ out_behind r (b ++ d) e
behind-clean r b d e h = behind-join r b d e ∙ ap (λ z. out_behind r b d ++ unless z (out_behind r (b ++ d) e)) h

pub fault-clean : (r : Reading) (b d e : List ℕ) → fault_behind r b d ≡ None
    → fault_behind r b (d ++ e) ≡ fault_behind r (b ++ d) e
fault-clean r b d e h = fault-join r b d e ∙ ap (λ z. or_else z (fault_behind r (b ++ d) e)) h

-- behind a fault nothing counts
pub behind-fault : (r : Reading) (b d e : List ℕ) (f : RunError) → fault_behind r b d ≡ Some f
    → out_behind r b (d ++ e) ≡ out_behind r b d
behind-fault r b d e f h = behind-join r b d e ∙ ap (λ z. out_behind r b d ++ unless z (out_behind r (b ++ d) e)) h
    ∙ append-nil (out_behind r b d)

pub fault-first : (r : Reading) (b d e : List ℕ) (f : RunError) → fault_behind r b d ≡ Some f
    → fault_behind r b (d ++ e) ≡ Some f
fault-first r b d e f h = fault-join r b d e ∙ ap (λ z. or_else z (fault_behind r (b ++ d) e)) h

-- the bytes before the first fault
pub before-join : (r : Reading) (b d e : List ℕ)
    → before_fault r b (d ++ e) ≡ before_fault r b d ++ unless (fault_behind r b d) (before_fault r (b ++ d) e)
before-join r b [] e = ap (λ z. before_fault r z e) (sym (append-nil b))
before-join r b (x ∷ d) e =
    go (r.fault b x) (before-join r (b ++ x ∷ []) d e
    ∙ ap (λ z. before_fault r (b ++ x ∷ []) d ++ unless (fault_behind r (b ++ x ∷ []) d) (before_fault r z e))
    (append_assoc b (x ∷ []) d))
  where
    go : (o : Option RunError)
        → before_fault r (b ++ x ∷ []) (d ++ e)
        ≡ before_fault r (b ++ x ∷ []) d ++ unless (fault_behind r (b ++ x ∷ []) d) (before_fault r (b ++ x ∷ d) e)
        → unless o (x ∷ before_fault r (b ++ x ∷ []) (d ++ e))
        ≡ unless o (x ∷ before_fault r (b ++ x ∷ []) d)
        ++ unless (or_else o (fault_behind r (b ++ x ∷ []) d)) (before_fault r (b ++ x ∷ d) e)
    go (Some f) h = refl
    go None h = ap (λ z. x ∷ z) h

pub before-all : (r : Reading) (b d : List ℕ) → fault_behind r b d ≡ None → before_fault r b d ≡ d
before-all r b [] h = refl
before-all r b (x ∷ d) h = go (r.fault b x) h (before-all r (b ++ x ∷ []) d)
  where
    go : (o : Option RunError) → or_else o (fault_behind r (b ++ x ∷ []) d) ≡ None
        → (fault_behind r (b ++ x ∷ []) d ≡ None → before_fault r (b ++ x ∷ []) d ≡ d)
        → unless o (x ∷ before_fault r (b ++ x ∷ []) d) ≡ x ∷ d
    go (Some f) e next = absurd cc
    go None e next = ap (λ z. x ∷ z) (next e)

pub before-clean : (r : Reading) (b d e : List ℕ) → fault_behind r b d ≡ None
    → before_fault r b (d ++ e) ≡ d ++ before_fault r (b ++ d) e
before-clean r b d e h =
    before-join r b d e ∙ ap (λ z. before_fault r b d ++ unless z (before_fault r (b ++ d) e)) h
    ∙ ap (λ z. z ++ before_fault r (b ++ d) e) (before-all r b d h)

pub before-first : (r : Reading) (b d e : List ℕ) (f : RunError) → fault_behind r b d ≡ Some f
    → before_fault r b (d ++ e) ≡ before_fault r b d
before-first r b d e f h =
    before-join r b d e ∙ ap (λ z. before_fault r b d ++ unless z (before_fault r (b ++ d) e)) h
    ∙ append-nil (before_fault r b d)

-- a function that grows as clean bytes write, and stays as it is behind a fault, is what they write
pub out-is : (r : Reading) (f : List ℕ → List ℕ) → f [] ≡ []
    → ((b : List ℕ) (x : ℕ) → first_fault r b ≡ None → r.fault b x ≡ None → f (b ++ x ∷ []) ≡ f b ++ r.adds b x)
    → ((b : List ℕ) (x : ℕ) (d : List ℕ) (e : RunError) → first_fault r b ≡ None → r.fault b x ≡ Some e
    → f (b ++ x ∷ d) ≡ f b)
    → (b : List ℕ) → out r b ≡ f b
unfolding first_fault out
out-is r f start more stays b = sym (ap (λ z. z ++ out_behind r [] b) start) ∙ sym (go [] b refl)
  where
    step : (p : List ℕ) (x : ℕ) (d : List ℕ) → fault_behind r [] p ≡ None → (o : Option RunError) → r.fault p x ≡ o
        → (fault_behind r [] (p ++ x ∷ []) ≡ None
        → f ((p ++ x ∷ []) ++ d) ≡ f (p ++ x ∷ []) ++ out_behind r (p ++ x ∷ []) d)
        → f (p ++ x ∷ d) ≡ f p ++ unless o (r.adds p x ++ out_behind r (p ++ x ∷ []) d)
    step p x d h (Some e) q next = stays p x d e h q ∙ sym (append-nil (f p))
    step p x d h None q next =
        ap f (sym (append_assoc p (x ∷ []) d)) ∙ next (fault-clean r [] p (x ∷ []) h ∙ ap (λ z. or_else z None) q)
        ∙ ap (λ z. z ++ out_behind r (p ++ x ∷ []) d) (more p x h q)
        ∙ append_assoc (f p) (r.adds p x) (out_behind r (p ++ x ∷ []) d)

    go : (p d : List ℕ) → fault_behind r [] p ≡ None → f (p ++ d) ≡ f p ++ out_behind r p d
    go p [] h = ap f (append-nil p) ∙ sym (append-nil (f p))
    go p (x ∷ d) h = step p x d h (r.fault p x) refl (λ clean. go (p ++ x ∷ []) d clean)
