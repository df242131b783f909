-- An input whose octets make those of another one.
use Rattle.std.proofs.Common.{◌≡◌, ℕ, List, [], ◌∷◌, ◌++◌, Option, Some, None, Err, refl, sym, ap, ◌∙◌}
use Rattle.std.proofs.Common.{append_assoc, append-nil}
use Rattle.std.proofs.lemmas.List.{append_cancel_left}
use Rattle.aes3_refusals.specs.declared.run_error.RunError.{RunError}
use Rattle.aes3_refusals.specs.declared.run_error.RunError.TheVariants.{Read, TooLong, Write}
use Rattle.aes3_cell.proofs.Growing.{front-is, grew-is}
use Rattle.aes3_input.specs.Converting.{Reading, fault_behind, first_fault, or_else, out, out_behind, unless, whole}
use Rattle.aes3_input.specs.Running.{Fed, InputState, Movement, PieceRan}
use Rattle.aes3_input.proofs.Outputs.{behind-clean, behind-fault, fault-clean, fault-join}
use Rattle.aes3_engine.specs.Sampling.{more_of}
use Rattle.aes3_wave_runs.specs.Through.{through}

-- what is made of octets only grows with them, and where the other input refuses what one octet makes more, that writes
-- nothing
pub record Grows (made : List ℕ → List ℕ) (r : Reading) : Type 0 where
  pub none : made [] ≡ []
  pub more : (b d : List ℕ) → made (b ++ d) ≡ made b ++ more_of (made b) (made (b ++ d))
  pub quiet : (b : List ℕ) (x : ℕ) (e : RunError) → first_fault r (made b) ≡ None
      → fault_behind r (made b) (more_of (made b) (made (b ++ x ∷ []))) ≡ Some e
      → out_behind r (made b) (more_of (made b) (made (b ++ x ∷ []))) ≡ []

nothing-more : (made : List ℕ → List ℕ) (b y : List ℕ) → made (b ++ []) ≡ made b ++ y → y ≡ []
nothing-more made b y h =
    append_cancel_left (made b) y [] (sym h ∙ ap made (append-nil b) ∙ sym (append-nil (made b)))

-- what an octet makes more, and then the others
parts-more : (made : List ℕ → List ℕ) (r : Reading) → Grows made r → (b : List ℕ) (x : ℕ) (d y : List ℕ)
    → made (b ++ x ∷ d) ≡ made b ++ y
    → y ≡ more_of (made b) (made (b ++ x ∷ [])) ++ more_of (made (b ++ x ∷ [])) (made ((b ++ x ∷ []) ++ d))
parts-more made r g b x d y h =
    let c = b ++ x ∷ [] in
    let m = more_of (made b) (made c) in
    let n = more_of (made c) (made (c ++ d)) in
    append_cancel_left (made b) y (m ++ n)
    (sym h ∙ ap made (sym (append_assoc b (x ∷ []) d)) ∙ g.more c d ∙ ap (λ v. v ++ n) (g.more b (x ∷ []))
    ∙ append_assoc (made b) m n)

pub fault-through : (made : List ℕ → List ℕ) (cut : List ℕ → Option RunError) (r : Reading) → Grows made r
    → (b d y : List ℕ) → made (b ++ d) ≡ made b ++ y
    → fault_behind (through made cut r) b d ≡ fault_behind r (made b) y
unfolding through
fault-through made cut r g b [] y h = sym (ap (fault_behind r (made b)) (nothing-more made b y h))
fault-through made cut r g b (x ∷ d) y h =
    let c = b ++ x ∷ [] in
    let m = more_of (made b) (made c) in
    let n = more_of (made c) (made (c ++ d)) in
    ap (or_else (fault_behind r (made b) m))
    (fault-through made cut r g c d n (g.more c d) ∙ ap (λ v. fault_behind r v n) (g.more b (x ∷ [])))
    ∙ sym (fault-join r (made b) m n) ∙ sym (ap (fault_behind r (made b)) (parts-more made r g b x d y h))

pub out-through : (made : List ℕ → List ℕ) (cut : List ℕ → Option RunError) (r : Reading) → Grows made r
    → (b d y : List ℕ) → first_fault r (made b) ≡ None → made (b ++ d) ≡ made b ++ y
    → out_behind (through made cut r) b d ≡ out_behind r (made b) y
unfolding through first_fault
out-through made cut r g b [] y clean h = sym (ap (out_behind r (made b)) (nothing-more made b y h))
out-through made cut r g b (x ∷ d) y clean h =
    go (fault_behind r (made b) m) refl
    (λ q. out-through made cut r g c d n (next q) (g.more c d) ∙ ap (λ v. out_behind r v n) (g.more b (x ∷ [])))
    ∙ sym (ap (out_behind r (made b)) (parts-more made r g b x d y h))
  where
    c : List ℕ
    c = b ++ x ∷ []

    m : List ℕ
    m = more_of (made b) (made c)

    n : List ℕ
    n = more_of (made c) (made (c ++ d))

    next : fault_behind r (made b) m ≡ None → fault_behind r [] (made c) ≡ None
    next q = ap (fault_behind r []) (g.more b (x ∷ [])) ∙ fault-clean r [] (made b) m clean ∙ q

    go : (o : Option RunError) → fault_behind r (made b) m ≡ o
        → (fault_behind r (made b) m ≡ None
        → out_behind (through made cut r) c d ≡ out_behind r (made b ++ m) n)
        → unless o (out_behind r (made b) m ++ out_behind (through made cut r) c d) ≡ out_behind r (made b) (m ++ n)
    go (Some e) q rest = sym (g.quiet b x e clean q) ∙ sym (behind-fault r (made b) m n e q)
    go None q rest = ap (λ v. out_behind r (made b) m ++ v) (rest q) ∙ sym (behind-clean r (made b) m n q)

-- from the first octet on
from-none : (made : List ℕ → List ℕ) (r : Reading) → Grows made r → (b : List ℕ) → made ([] ++ b) ≡ made [] ++ made b
from-none made r g b = sym (ap (λ v. v ++ made b) g.none)

pub first-through : (made : List ℕ → List ℕ) (cut : List ℕ → Option RunError) (r : Reading) → Grows made r
    → (b : List ℕ) → first_fault (through made cut r) b ≡ first_fault r (made b)
unfolding first_fault
first-through made cut r g b =
    fault-through made cut r g [] b (made b) (from-none made r g b) ∙ ap (λ v. fault_behind r v (made b)) g.none

pub all-through : (made : List ℕ → List ℕ) (cut : List ℕ → Option RunError) (r : Reading) → Grows made r
    → (b : List ℕ) → out (through made cut r) b ≡ out r (made b)
unfolding out first_fault
all-through made cut r g b =
    out-through made cut r g [] b (made b) (ap (fault_behind r []) g.none) (from-none made r g b)
    ∙ ap (λ v. out_behind r v (made b)) g.none

pub whole-through : (made : List ℕ → List ℕ) (cut : List ℕ → Option RunError) (r : Reading) → Grows made r
    → (b : List ℕ) → whole (through made cut r) b ≡ whole r (made b)
unfolding whole through
whole-through made cut r g b = ap (λ v. v ++ r.ends (made b)) (all-through made cut r g b)

-- octets that make these more were fed, where that was fed
pub through-fed : (made : List ℕ → List ℕ) (cut : List ℕ → Option RunError) (r r' : Reading) → Grows made r
    → {f₀ f f₁ f₂ : List ℕ → Type 0} {t₀ t : Option (List ℕ)} (d y : List ℕ)
    → ((b : List ℕ) → f₁ b → f₀ (made b) × (first_fault r (made b) ≡ None) × (made (b ++ d) ≡ made b ++ y))
    → ((b : List ℕ) → f₁ b → f (made b ++ y) → f₂ (b ++ d))
    → Fed r r' f₀ f t₀ t y → Fed (through made cut r) (through made cut r') f₁ f₂ t₀ t d
through-fed made cut r r' g d y known next fed = record {
  same = ap (through made cut) fed.same;
  clean = λ b h. let k = known b h in fault-through made cut r g b d y k.2 ∙ fed.clean (made b) k.0;
  follows = λ b h. next b h (fed.follows (made b) (known b h).0);
  grew = λ b h. let k = known b h in grew-is (sym (out-through made cut r g b d y k.1 k.2)) (fed.grew (made b) k.0);
}

-- octets that were refused, where what they make more was
pub through-refused : (made : List ℕ → List ℕ) (cut : List ℕ → Option RunError) (old new out_old out_new : InputState)
    (d y : List ℕ) (sink : Movement) (e : RunError) → Grows made old.reads
    → out_old.reads ≡ through made cut old.reads
    → ((b : List ℕ) → out_new.stopped b)
    → ((b : List ℕ) → out_old.follows b
    → old.follows (made b) × (first_fault old.reads (made b) ≡ None) × (made (b ++ d) ≡ made b ++ y))
    → PieceRan old new y sink (Err e) → PieceRan out_old out_new d sink (Err e)
through-refused made cut old new out_old out_new d y sink Write g is stop known w = (
  w.0,
  λ b h.
      let k = known b h in
      front-is (sym (ap (λ v. out_behind v b d) is ∙ out-through made cut old.reads g b d y k.1 k.2)) (w.1 (made b) k.0),
)
through-refused made cut old new out_old out_new d y sink Read g is stop known w = absurd w
through-refused made cut old new out_old out_new d y sink TooLong g is stop known w = absurd w
through-refused made cut old new out_old out_new d y sink e g is stop known w = (
  record {
    fault = λ b h.
        let k = known b h in
        ap (λ v. fault_behind v b d) is ∙ fault-through made cut old.reads g b d y k.2 ∙ w.0.fault (made b) k.0;
    left = λ b h. stop _;
    grew = λ b h.
        let k = known b h in
        grew-is (sym (ap (λ v. out_behind v b d) is ∙ out-through made cut old.reads g b d y k.1 k.2))
        (w.0.grew (made b) k.0);
  },
  w.1,
)
