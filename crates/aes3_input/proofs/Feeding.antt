-- Pieces fed one behind the other.
use Rattle.std.proofs.Common.{◌≡◌, ℕ, ◌+◌, List, [], ◌++◌, take, drop, Option, Some, Err, sym, ap, ◌∙◌, subst}
use Rattle.std.proofs.Common.{append_assoc, append-nil, refl}
use Rattle.std.proofs.Math.Seq.{take-add}
use Rattle.aes3_refusals.specs.declared.run_error.RunError.{RunError}
use Rattle.aes3_refusals.specs.declared.run_error.RunError.TheVariants.{Read, Write, TooLong}
use Rattle.aes3_cell.specs.Ends.{GrewFront}
use Rattle.aes3_cell.proofs.Growing.{grew-none, grew-join, grew-is, front-join, front-more, front-is}
use Rattle.aes3_input.specs.Converting.{Reading, fault_behind, out_behind, before_fault}
use Rattle.aes3_input.specs.Running.{Fed, InputState, Stopped, PieceRan}
use Rattle.aes3_input.proofs.Outputs.{behind-join, behind-clean, fault-clean, behind-fault, fault-first, before-clean}
use Rattle.aes3_input.proofs.Outputs.{before-first}

pub fed-none : (r : Reading) (f : List ℕ → Type 0) (t : Option (List ℕ)) → Fed r r f f t t []
fed-none r f t = record {
  same = refl;
  clean = λ b h. refl;
  follows = λ b h. subst f (sym (append-nil b)) h;
  grew
      = λ b h. grew-none refl;
}

pub fed-is : {r₀ r : Reading} {f₀ f : List ℕ → Type 0} {t₀ t : Option (List ℕ)} {a b : List ℕ} → a ≡ b
    → Fed r₀ r f₀ f t₀ t a → Fed r₀ r f₀ f t₀ t b
fed-is {r₀} {r} {f₀} {f} {t₀} {t} e d = subst (λ (z : List ℕ). Fed r₀ r f₀ f t₀ t z) e d

-- what stands behind a fed piece, read as before it
as-before : {r₀ r : Reading} {f₀ f : List ℕ → Type 0} {t₀ t : Option (List ℕ)} {a : List ℕ} → Fed r₀ r f₀ f t₀ t a
    → (b d : List ℕ) → out_behind r b d ≡ out_behind r₀ b d
as-before d b e = ap (λ v. out_behind v b e) d.same

pub fed-join : {r₀ r r' : Reading} {f₀ f f' : List ℕ → Type 0} {t₀ t t' : Option (List ℕ)} {a d : List ℕ}
    → Fed r₀ r f₀ f t₀ t a → Fed r r' f f' t t' d → Fed r₀ r' f₀ f' t₀ t' (a ++ d)
fed-join {r₀} {r} {r'} {f₀} {f} {f'} {t₀} {t} {t'} {a} {d} p q = record {
  same = q.same ∙ p.same;
  clean = λ b h. fault-clean r₀ b a d (p.clean b h) ∙ ap (λ v. fault_behind v (b ++ a) d) (sym p.same)
      ∙ q.clean (b ++ a) (p.follows b h);
  follows = λ b h. subst f' (append_assoc b a d) (q.follows (b ++ a) (p.follows b h));
  grew = λ b h. grew-is (sym (behind-clean r₀ b a d (p.clean b h)))
      (grew-join (p.grew b h) (grew-is (as-before p (b ++ a) d) (q.grew (b ++ a) (p.follows b h))));
}

-- one more front of the rest of a piece
pub fed-front : {r₀ r r' : Reading} {f₀ f f' : List ℕ → Type 0} {t₀ t t' : Option (List ℕ)} (xs rest : List ℕ)
    (at n : ℕ) → rest ≡ drop at xs
    → Fed r₀ r f₀ f t₀ t (take at xs) → Fed r r' f f' t t' (take n rest) → Fed r₀ r' f₀ f' t₀ t' (take (at + n) xs)
fed-front xs rest at n e p q = fed-is (ap (λ z. take at xs ++ take n z) e ∙ sym (take-add at n xs)) (fed-join p q)

-- a piece that stops behind one that is fed, and what stands behind it
stopped-join : {r₀ r : Reading} {f₀ f s : List ℕ → Type 0} {t₀ t t' : Option (List ℕ)} {a d : List ℕ} (rest : List ℕ)
    {e : RunError}
    → Fed r₀ r f₀ f t₀ t a → Stopped r f s t t' d e → Stopped r₀ f₀ s t₀ t' (a ++ (d ++ rest)) e
stopped-join {r₀} {r} {f₀} {s = s} {a = a} {d = d} rest {e} p q = record {
  fault = λ b h. fault-clean r₀ b a (d ++ rest) (p.clean b h) ∙ fault-first r₀ (b ++ a) d rest e (here b h);
  left = λ b h. subst s
      (append_assoc b a (before_fault r (b ++ a) d)
      ∙ ap (λ z. b ++ z) (ap (λ v. a ++ before_fault v (b ++ a) d) p.same
      ∙ ap (λ z. a ++ z) (sym (before-first r₀ (b ++ a) d rest e (here b h)))
      ∙ sym (before-clean r₀ b a (d ++ rest) (p.clean b h))))
      (q.left (b ++ a) (p.follows b h));
  grew = λ b h. grew-is (sym
      (behind-clean r₀ b a (d ++ rest) (p.clean b h)
      ∙ ap (λ z. out_behind r₀ b a ++ z) (behind-fault r₀ (b ++ a) d rest e (here b h))))
      (grew-join (p.grew b h) (grew-is (as-before p (b ++ a) d) (q.grew (b ++ a) (p.follows b h))));
}
  where
    here : (b : List ℕ) → f₀ b → fault_behind r₀ (b ++ a) d ≡ Some e
    here b h = ap (λ v. fault_behind v (b ++ a) d) (sym p.same) ∙ q.fault (b ++ a) (p.follows b h)

pub front-joined : {r₀ r : Reading} {f₀ f : List ℕ → Type 0} {t₀ t t' : Option (List ℕ)} {a : List ℕ} (d rest : List ℕ)
    → Fed r₀ r f₀ f t₀ t a → ((b : List ℕ) → f b → GrewFront t t' (out_behind r b d))
    → (b : List ℕ) → f₀ b → GrewFront t₀ t' (out_behind r₀ b (a ++ (d ++ rest)))
front-joined {r₀} {a = a} d rest p q b h =
    front-is (sym (behind-clean r₀ b a (d ++ rest) (p.clean b h)))
    (front-join (p.grew b h) (front-is (sym (behind-join r₀ (b ++ a) d rest))
    (front-more (front-is (as-before p (b ++ a) d) (q (b ++ a) (p.follows b h))) _)))

pub front-longer : (r : Reading) (b d rest xs : List ℕ) {t t' : Option (List ℕ)} → d ++ rest ≡ xs
    → GrewFront t t' (out_behind r b d) → GrewFront t t' (out_behind r b xs)
front-longer r b d rest xs e g = front-is (sym (behind-join r b d rest) ∙ ap (out_behind r b) e) (front-more g _)

pub ran-join : (old mid new : InputState) {t₀ t : Option (List ℕ)} (t' : Option (List ℕ)) {k₀ k : ℕ} (k' : ℕ)
    {a : List ℕ} (d rest xs : List ℕ) (e : RunError)
    → Fed old.reads mid.reads old.follows mid.follows t₀ t a → k ≡ k₀ → a ++ (d ++ rest) ≡ xs
    → PieceRan mid new d (record { old = t; new = t'; failed_old = k; failed_new = k' }) (Err e)
    → PieceRan old new xs (record { old = t₀; new = t'; failed_old = k₀; failed_new = k' }) (Err e)
ran-join old mid new {t₀} {t} t' {k₀} {k} k' {a} d rest xs e p q l ran =
    subst (λ (z : List ℕ). PieceRan old new z (record { old = t₀; new = t'; failed_old = k₀; failed_new = k' }) (Err e))
    l (go e ran)
  where
    go : (e : RunError) → PieceRan mid new d (record { old = t; new = t'; failed_old = k; failed_new = k' }) (Err e)
        → PieceRan old new (a ++ (d ++ rest)) (record { old = t₀; new = t'; failed_old = k₀; failed_new = k' }) (Err e)
    go Write w = (w.0 ∙ ap (λ z. z + 1) q, front-joined d rest p w.1)
    go Read w = absurd w
    go TooLong w = absurd w
    go e w = (stopped-join rest p w.0, w.1 ∙ q)
