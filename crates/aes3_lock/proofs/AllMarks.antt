-- The preambles of cells are all that stand in them, in order of place.
use Rattle.std.proofs.Common.{◌≡◌, ℕ, zero, suc, ◌+◌, ◌<◌, List, [], ◌∷◌, ◌++◌, Bool, true, false, cond, Option, Some}
use Rattle.std.proofs.Common.{None, refl, ap, ◌∙◌, sym, subst, arith}
use Rattle.std.specs.List.{All, AllPairs, Contains}
use Rattle.std.specs.Prelude.{slice_index_or}
use Rattle.std.specs.Option.{option_to_list, option_map}
use Rattle.std.proofs.lemmas.List.Elements.{All-nil, All-append, Contains-append_right}
use Rattle.std.proofs.lemmas.List.Kept.{AllPairs-cons}
use Rattle.aes3_level.specs.declared.level.Level.{Level}
use Rattle.aes3_slot.specs.declared.mark.Mark.{Mark}
use Rattle.aes3_slot.specs.declared.mark.Mark.TheVariants.{X, Y, Z}
use Rattle.aes3_slot.specs.Rules.{StandsMark}
use Rattle.aes3_slot.proofs.OwnPreambles.{stands-room}
use Rattle.aes3_slot.specs.Preambles.{entry, begins_with}
use Rattle.aes3_lock.specs.Preambles.{first_mark, placed, marks_from, marks}
use Rattle.aes3_lock.specs.Laws.{AreAllMarks}
use Rattle.aes3_slot.proofs.Beginnings.{begins-stands}
use Rattle.aes3_lock.proofs.TrueMarks.{first_mark-some}
use Rattle.aes3_lock.proofs.AllStanding.{all-one}

some-first_mark : (m : Mark × Level) (c : List Level) → first_mark c ≡ Some m → StandsMark m.0 m.1 c 0
unfolding first_mark
some-first_mark m c e = go (begins_with X c) (begins_with Y c) (begins_with Z c) refl refl refl e
  where
    same : (n : Mark × Level) → ◌≡◌ {A = Option (Mark × Level)} (Some n) (Some m) → n ≡ m
    same n e = cc

    is : (n : Mark) → begins_with n c ≡ true → ◌≡◌ {A = Option (Mark × Level)} (Some (n, entry c)) (Some m)
        → StandsMark m.0 m.1 c 0
    is n b q = subst (λ k. StandsMark k.0 k.1 c 0) (same (n, entry c) q) (begins-stands n c b)

    go : (x y z : Bool) → begins_with X c ≡ x → begins_with Y c ≡ y → begins_with Z c ≡ z
        → cond x (Some (X, entry c)) (cond y (Some (Y, entry c)) (cond z (Some (Z, entry c)) None)) ≡ Some m
        → StandsMark m.0 m.1 c 0
    go true y z a b d q = is X a q
    go false true z a b d q = is Y b q
    go false false true a b d q = is Z d q
    go false false false a b d q = cc

-- a preamble that stands somewhere in cells of which the first is at place p
pub record StandsFrom (p : ℕ) (c : List Level) (m : ℕ × Mark × Level) : Type 0 where
  pub offset : ℕ
  pub place : m.0 ≡ p + offset
  pub stands : StandsMark m.1 m.2 c offset

marks-each : (p : ℕ) (c : List Level) → All (StandsFrom p c) (marks_from p c)
marks-each p [] = All-nil (StandsFrom p [])
marks-each p (x ∷ c) =
    All-append (StandsFrom p (x ∷ c)) (option_to_list (option_map (placed p) (first_mark (x ∷ c))))
    (marks_from (suc p) c)
    (here (first_mark (x ∷ c)) refl)
    (λ k d l.
    let r = marks-each (suc p) c k d l in
    let e = r.place in
    record { offset = suc r.offset; place = omega arith; stands = record { is = r.stands.is } })
  where
    here : (o : Option (Mark × Level)) → first_mark (x ∷ c) ≡ o
        → All (StandsFrom p (x ∷ c)) (option_to_list (option_map (placed p) o))
    here None e = All-nil (StandsFrom p (x ∷ c))
    here (Some m) e =
        all-one (StandsFrom p (x ∷ c)) (placed p m)
        (record { offset = 0; place = omega arith; stands = some-first_mark m (x ∷ c) e })

marks-all : (p : ℕ) (c : List Level) (m : Mark) (t : Level) (n k : ℕ) → n ≡ p + k → StandsMark m t c k
    → Contains (marks_from p c) (n, m, t)
marks-all p [] m t n k e z =
    let r = stands-room m t [] k z in
    absurd (omega arith)
marks-all p (x ∷ c) m t n zero e z =
    let o = first_mark-some m t (x ∷ c) z in
    let q : n ≡ p = omega arith in
    subst (λ l. Contains (l ++ marks_from (suc p) c) (n, m, t))
    (sym (ap (λ o. option_to_list (option_map (placed p) o)) o ∙ ap (λ k. (k, m, t) ∷ []) (sym q)))
    (0, omega arith, refl)
marks-all p (x ∷ c) m t n (suc k) e z =
    Contains-append_right (option_to_list (option_map (placed p) (first_mark (x ∷ c)))) (marks_from (suc p) c) (n, m, t)
    (marks-all (suc p) c m t n k (omega arith) (record { is = z.is }))

marks-order : (p : ℕ) (c : List Level) → AllPairs (λ m n. m.0 < n.0) (marks_from p c)
marks-order p [] = λ i j d l h. absurd (omega arith)
marks-order p (x ∷ c) = here (first_mark (x ∷ c)) (marks-order (suc p) c)
  where
    here : (o : Option (Mark × Level)) → AllPairs (λ m n. m.0 < n.0) (marks_from (suc p) c)
        → AllPairs (λ m n. m.0 < n.0) (option_to_list (option_map (placed p) o) ++ marks_from (suc p) c)
    here None rest = rest
    here (Some m) rest =
        AllPairs-cons (λ m n. m.0 < n.0) (placed p m) (marks_from (suc p) c)
        (λ k d l. let r = marks-each (suc p) c k d l in let e = r.place in omega arith)
        rest

place-stands : (c : List Level) (m : ℕ × Mark × Level) → StandsFrom 0 c m → StandsMark m.1 m.2 c m.0
place-stands c m r =
    let e = r.place in
    let q : r.offset ≡ m.0 = omega arith in
    subst (StandsMark m.1 m.2 c) q r.stands

pub marks-all_standing : (c : List Level) → AreAllMarks (marks c) c
unfolding marks
marks-all_standing c =
    record {
      each = λ k d l. place-stands c (slice_index_or (marks_from 0 c) k d) (marks-each 0 c k d l);
      all = λ p m t z. marks-all 0 c m t p p (omega arith) z;
      order = marks-order 0 c;
    }
