-- Two blocks at one place, after one level, differ in two neighbouring cells at least.
use Rattle.std.proofs.Common.{◌≡◌, ◌≢◌, ℕ, suc, ◌*◌, ◌%◌, ◌<◌, List, [], ◌∷◌, Bool, true, false, refl, length, ap, sym}
use Rattle.std.proofs.Common.{arith}
use Rattle.aes3_level.specs.declared.level.Level.{Level}
use Rattle.aes3_level.specs.Cells.{line, other, after}
use Rattle.aes3_slot.specs.Slots.{bits_runs}
use Rattle.aes3_slot.specs.Rules.{at}
use Rattle.aes3_level.proofs.Runs.{other_ne}

-- the first cells after opposite levels
first-apart : (t : Level) (a b : List Bool) → length a ≡ length b
    → (after (other t) (bits_runs a) ≡ after t (bits_runs b))
    → (0 < length a) × (at (line (other t) (bits_runs a)) 0 ≢ at (line t (bits_runs b)) 0)
first-apart t [] [] l e = absurd (other_ne t e)
first-apart t [] (y ∷ b) l e = absurd (omega arith)
first-apart t (x ∷ a) [] l e = absurd (omega arith)
first-apart t (false ∷ a) (false ∷ b) l e = (omega arith, other_ne (other t))
first-apart t (false ∷ a) (true ∷ b) l e = (omega arith, other_ne (other t))
first-apart t (true ∷ a) (false ∷ b) l e = (omega arith, other_ne (other t))
first-apart t (true ∷ a) (true ∷ b) l e = (omega arith, other_ne (other t))

pub record Pair (t : Level) (a b : List Bool) : Type 0 where
  pub place : ℕ
  pub odd : place % 2 ≡ 1
  pub within : suc place < 2 * length a
  pub one : at (line t (bits_runs a)) place ≢ at (line t (bits_runs b)) place
  pub two : at (line t (bits_runs a)) (suc place) ≢ at (line t (bits_runs b)) (suc place)

pub pair-apart : (t : Level) (a b : List Bool) → length a ≡ length b → after t (bits_runs a) ≡ after t (bits_runs b)
    → (a ≡ b → ⊥) → Pair t a b
pair-apart t [] [] l e n = absurd (n refl)
pair-apart t [] (y ∷ b) l e n = absurd (omega arith)
pair-apart t (x ∷ a) [] l e n = absurd (omega arith)
pair-apart t (false ∷ a) (false ∷ b) l e n =
    let r = pair-apart (other t) a b (omega arith) e (λ q. n (ap (λ z. false ∷ z) q)) in
    let o = r.odd in
    let w = r.within in
    record { place = suc (suc r.place); odd = omega arith; within = omega arith; one = r.one; two = r.two }
pair-apart t (true ∷ a) (true ∷ b) l e n =
    let r = pair-apart (other (other t)) a b (omega arith) e (λ q. n (ap (λ z. true ∷ z) q)) in
    let o = r.odd in
    let w = r.within in
    record { place = suc (suc r.place); odd = omega arith; within = omega arith; one = r.one; two = r.two }
pair-apart t (false ∷ a) (true ∷ b) l e n =
    let r = first-apart (other t) b a (omega arith) (sym e) in
    let w = r.0 in
    record {
      place = 1;
      odd = refl;
      within = omega arith;
      one = λ q. other_ne (other t) (sym q);
      two = λ q. r.1 (sym q);
    }
pair-apart t (true ∷ a) (false ∷ b) l e n =
    let r = first-apart (other t) a b (omega arith) e in
    let w = r.0 in
    record { place = 1; odd = refl; within = omega arith; one = other_ne (other t); two = r.1 }
