-- What a follower that counts runs one after the other counts of a capture.
use Rattle.std.proofs.Common.{ℕ, List, [], ◌∷◌, ◌≡◌, ◌<◌, ◌≤◌, ◌+◌, ◌*◌, inl, inr, refl, sym, ap, ap₂}
use Rattle.std.proofs.Common.{◌∙◌, arith, add_assoc}
use Rattle.std.specs.Prelude.{Bool, nat_le, if◌then◌else◌}
use Rattle.aes3_capture.specs.declared.follower.Follower.{Follower}
use Rattle.aes3_capture.specs.Captures.{Captures, mean_with}
use Rattle.aes3_capture.specs.Following.{Follows, Passes, Ends, Counts, Passed, Turned, Counted, CountedAll}
use Rattle.aes3_capture.specs.Following.{last_cell}
use Rattle.aes3_capture.proofs.Edges.{decided, goes-on, one-told, none-told, run-counts}

-- samples that pass after others
pub passed-more : (at mid new : Follower) (past told samples n : ℕ) → Passed at past told mid → Passed mid samples n new
    → Passed at (past + samples) (told + n) new
passed-more at mid new past told samples n a b = record {
  bounds_is = b.bounds_is ∙ a.bounds_is;
  period_is = b.period_is ∙ a.period_is;
  same_is = b.same_is ∙ a.same_is;
  other_is = b.other_is ∙ a.other_is;
  time =
      let product : (told + n) * at.period ≡ told * at.period + n * at.period = grind arith in
      let first : told * at.period + mid.elapsed ≡ at.elapsed + 65536 * past = a.time in
      let second : n * at.period + new.elapsed ≡ mid.elapsed + 65536 * samples = rw a.period_is at b.time in
      omega (arith, product, first, second);
}

-- no sample
pub passed-none : (f : Follower) → Passed f 0 0 f
passed-none f = record {
  bounds_is = refl;
  period_is = refl;
  same_is = refl;
  other_is = refl;
  time = let none : 0 * f.period ≡ 0 = grind arith in omega (arith, none);
}

-- a run of which some samples have passed
pub counted-rest : (at mid new : Follower) (past told samples n : ℕ) → Passed at past told mid
    → Counted mid samples n new → Counted at (past + samples) (told + n) new
counted-rest at mid new past told samples n a c = record {
  told = told + c.told;
  more = c.more;
  at = c.at;
  passed = passed-more at mid c.at past told samples c.told a c.passed;
  turned = c.turned;
  sum = ap (λ k. told + k) c.sum ∙ sym (add_assoc told c.told (if c.more then 1 else 0));
}

-- whatever line it follows, time that passed is told
pub passed-passes : (old new : Follower) (samples cells : ℕ) → Passed old samples cells new
    → Passes old samples cells new
passed-passes old new samples cells p = λ same other displaced run given follows. record {
  passed =
      let product : (given + cells) * old.period ≡ given * old.period + cells * old.period = grind arith in
      let first = follows.passed in
      let second = p.time in
      rw p.period_is (omega (arith, product, first, second));
  same_place = rw (p.same_is, p.bounds_is) follows.same_place;
  other_place = rw (p.other_is, p.bounds_is) follows.other_place;
  mean_near = rw p.bounds_is follows.mean_near;
}

pub last-late : (a b p : ℕ) → a ≤ b → ◌≡◌ {A = ℕ} (if nat_le a b then p else 0) p
last-late a b p late = grind (arith, late)

pub last-early : (a b p : ℕ) → b < a → ◌≡◌ {A = ℕ} (if nat_le a b then p else 0) 0
last-early a b p early = grind (arith, early)

-- whatever line it follows, an edge ends the cells that the line has
pub turned-ends : (f g : Follower) (more : Bool) → Turned f more g → Ends f more g
turned-ends f g more t = λ same other before run given cells displaced follows is_run.
    elim (decided f same other before run given cells displaced f.shortest f.longest f.told follows is_run) [
      | inl d ↦
          let none : last_cell f ≡ 0 = last-early (f.period + f.bounds.low) (f.elapsed + f.other) f.period d.early in (
            rw t.more_is
                (none-told given (f.elapsed + f.other) (f.period + f.bounds.low) cells d.early d.number),
            goes-on f g same other before run given cells displaced (last_cell f) f.shortest f.longest follows is_run
                (omega (arith, d.since, none)) t.bounds_is t.elapsed_is t.same_is t.other_is,
          )
      | inr d ↦
          let one : last_cell f ≡ f.period
          = last-late (f.period + f.bounds.low) (f.elapsed + f.other) f.period d.late in (
            rw t.more_is
                (one-told given (f.elapsed + f.other) (f.period + f.bounds.low) cells d.late d.number),
            goes-on f g same other before run given cells displaced (last_cell f) f.shortest f.longest follows is_run
                (omega (arith, d.since, one)) t.bounds_is t.elapsed_is t.same_is t.other_is,
          )
    ]

pub counted-counts : (old new : Follower) (samples n : ℕ) → Counted old samples n new → Counts old samples n new
counted-counts old new samples n c =
    run-counts old c.at new samples c.told n c.more c.passed.bounds_is
    (passed-passes old c.at samples c.told c.passed) (turned-ends c.at new c.more c.turned) c.sum

-- what it counts of a capture of cells are these
pub counted-line : (f g : Follower) (runs cells counts : List ℕ) (same other displaced : ℕ)
    → CountedAll f runs cells g → Follows f same other displaced 0 0
    → Captures f.bounds same other displaced counts runs → cells ≡ counts
counted-line f g [] [] [] same other displaced a follows captures = refl
counted-line f g [] [] (n ∷ counts) same other displaced a follows captures = absurd captures
counted-line f g [] (k ∷ cells) counts same other displaced a follows captures = absurd a
counted-line f g (run ∷ runs) [] counts same other displaced a follows captures = absurd a
counted-line f g (run ∷ runs) (k ∷ cells) [] same other displaced a follows captures = absurd captures
counted-line f g (run ∷ runs) (k ∷ cells) (n ∷ counts) same other displaced a follows captures =
    let next = counted-counts f a.0 run k a.1 same other displaced n captures.0 follows captures.1 in
    let bounds : a.0.bounds ≡ f.bounds = a.1.turned.bounds_is ∙ a.1.passed.bounds_is in
    let rest : Captures a.0.bounds (mean_with other captures.0) same captures.0 counts runs = rw bounds captures.2 in
    ap₂ (λ x y. x ∷ y) next.0
    (counted-line a.0 g runs cells counts (mean_with other captures.0) same captures.0 a.2 next.1 rest)
