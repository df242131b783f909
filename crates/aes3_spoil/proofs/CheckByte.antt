-- What is told of a block that stands closed with a wrong check byte: two changed cells next to each other.
use Rattle.std.proofs.Common.{◌≡◌, ℕ, zero, suc, ◌+◌, ◌-◌, ◌*◌, ◌<◌, List, [], ◌∷◌, ◌++◌, Bool}
use Rattle.std.proofs.Common.{true, false, cond, None, Some, refl, map, drop, replicate, ap, ap₂, ◌∙◌, sym}
use Rattle.std.proofs.Common.{subst, arith}
use Rattle.std.specs.Prelude.{◌==◌, ◌&&◌}
use Rattle.std.proofs.lemmas.Bool.{eq-eqb, ne_eqb}
use Rattle.aes3_level.specs.declared.level.Level.{Level}
use Rattle.aes3_level.specs.Cells.{other}
use Rattle.aes3_slot.specs.Slots.{with_parity}
use Rattle.aes3_slot.specs.Rules.{at}
use Rattle.aes3_frame.specs.Blocks.{block_len}
use Rattle.aes3_frame.proofs.CellLaws.{block_len_24576}
use Rattle.aes3_lock.specs.declared.report.Report.TheVariants.{Whole}
use Rattle.aes3_lock.specs.Damage.{changed, exchanged, inverted_in}
use Rattle.aes3_lock.specs.Outcomes.{whole}
use Rattle.aes3_lock.specs.Reports.{outcome_at}
use Rattle.aes3_lock.specs.Standing.{StandsClosed}
use Rattle.aes3_lock.proofs.AnyChanges.{take-changed}
use Rattle.aes3_lock.proofs.Apart.{at-others, length-changed}
use Rattle.aes3_lock.proofs.DamageLaws.{exchanged-is}
use Rattle.aes3_lock.proofs.Ends.{outcome_at-some}
use Rattle.aes3_lock.proofs.StandingBlocks.{block-stands, standing-begins, standing-whole}
use Rattle.aes3_spoil.specs.declared.errors.Errors.{Errors}
use Rattle.aes3_spoil.specs.declared.kinds.ErrorKind.{ErrorKind}
use Rattle.aes3_spoil.specs.declared.kinds.ErrorKind.TheVariants.{Changed, Inverted, Lost, Doubled}
use Rattle.aes3_spoil.specs.EachLaws.{AreCheckErrors}
use Rattle.aes3_spoil.specs.Errors.{errors_at, errors_before, errors_of, same_kind}
use Rattle.aes3_spoil.specs.ReportLaws.{IsTheReport}
use Rattle.aes3_spoil.specs.Spoiled.{is_odd, is_inverted, level_inverted, spoiled, spoiled_at, spoiled_from}
use Rattle.aes3_spoil.proofs.Damaged.{from-same, no-before}
use Rattle.aes3_spoil.proofs.Refuting.{drop-changed, only-report}
use Rattle.aes3_spoil.proofs.SpoiledCells.{times-once}

-- errors that change cells k and l alone
record ChangeTwo (e : Errors) (k l : ℕ) : Type 0 where
  list : errors_of e ≡ record { place = k; kind = Changed } ∷ record { place = l; kind = Changed } ∷ []
  every : e.every ≡ None

module _ (e : Errors) (k l : ℕ) (h : ChangeTwo e k l) where
  at-two : (kind : ErrorKind) (i : ℕ)
      → errors_at e kind i
      ≡ cond {A = ℕ} ((k == i) && same_kind Changed kind) 1 0 + cond {A = ℕ} ((l == i) && same_kind Changed kind) 1 0
  unfolding errors_at
  at-two kind i = rw (h.list, h.every) (omega arith)

  no-other : (kind : ErrorKind) (i : ℕ) → same_kind Changed kind ≡ false → errors_at e kind i ≡ 0
  no-other kind i f =
      at-two kind i
      ∙ ap (λ t. cond {A = ℕ} ((k == i) && t) 1 0 + cond {A = ℕ} ((l == i) && t) 1 0) f ∙ none (k == i) (l == i)
    where
      none : (a b : Bool) → cond {A = ℕ} (a && false) 1 0 + cond {A = ℕ} (b && false) 1 0 ≡ 0
      none true true = refl
      none true false = refl
      none false true = refl
      none false false = refl

  elsewhere : (kind : ErrorKind) (i : ℕ) → (k ≡ i → ⊥) → (l ≡ i → ⊥) → errors_at e kind i ≡ 0
  elsewhere kind i a b = let x = ne_eqb k i a in let y = ne_eqb l i b in at-two kind i ∙ (rw (x, y) refl)

  one : (i : ℕ) (x : Level) → spoiled_at e i x ≡ level_inverted (is_odd (errors_at e Changed i)) x ∷ []
  unfolding is_inverted
  one i x =
      let z : errors_at e Changed i + errors_before e Inverted (suc i) ≡ errors_at e Changed i =
      (let b = no-before e Inverted (suc i) (λ j o. no-other Inverted j refl) in omega (arith, b)) in
      ap₂ (λ n b. replicate n (level_inverted b x))
      (sym (times-once e i (no-other Lost i refl) (no-other Doubled i refl))) (ap is_odd z)

  other-one : (i : ℕ) (x : Level) → errors_at e Changed i ≡ 1 → spoiled_at e i x ≡ other x ∷ []
  other-one i x n = one i x ∙ ap (λ n. level_inverted (is_odd n) x ∷ []) n

  same-one : (i : ℕ) (x : Level) → (k ≡ i → ⊥) → (l ≡ i → ⊥) → spoiled_at e i x ≡ x ∷ []
  same-one i x a b = one i x ∙ ap (λ n. level_inverted (is_odd n) x ∷ []) (elsewhere Changed i a b)

  behind : (i : ℕ) (c : List Level) → k < i → l < i → spoiled_from e i c ≡ c
  behind i c a b =
      from-same e i c
      (record { none = λ kind j g o. elsewhere kind j (λ q. omega (arith, q, a, g)) (λ q. omega (arith, q, b, g)) })
      (no-before e Inverted i (λ j o. no-other Inverted j refl))

here-first : (e : Errors) (k : ℕ) → ChangeTwo e k (suc k) → errors_at e Changed k ≡ 1
here-first e k h =
    let x = eq-eqb k k refl in
    let y = ne_eqb (suc k) k (λ q. omega (arith, q)) in
    at-two e k (suc k) h Changed k ∙ (rw (x, y) refl)

here-second : (e : Errors) (k : ℕ) → ChangeTwo e k (suc k) → errors_at e Changed (suc k) ≡ 1
here-second e k h =
    let x = ne_eqb k (suc k) (λ q. omega (arith, q)) in
    let y = eq-eqb (suc k) (suc k) refl in
    at-two e k (suc k) h Changed (suc k) ∙ (rw (x, y) refl)

two-from : (e : Errors) (k i : ℕ) (c : List Level) → ChangeTwo e (i + k) (suc (i + k))
    → spoiled_from e i c ≡ changed (suc k) (changed k c)
two-from e k i [] h = refl
two-from e zero i (x ∷ []) h =
    let j : i + 0 ≡ i = omega arith in
    let o : ChangeTwo e i (suc i) = subst (λ n. ChangeTwo e n (suc n)) j h in
    ap (λ d. d ++ []) (other-one e i (suc i) o i x (here-first e i o))
two-from e zero i (x ∷ y ∷ c) h =
    let j : i + 0 ≡ i = omega arith in
    let o : ChangeTwo e i (suc i) = subst (λ n. ChangeTwo e n (suc n)) j h in
    ap₂ ◌++◌ (other-one e i (suc i) o i x (here-first e i o))
    (ap₂ ◌++◌ (other-one e i (suc i) o (suc i) y (here-second e i o))
    (behind e i (suc i) o (suc (suc i)) c (omega arith) (omega arith)))
two-from e (suc k) i (x ∷ c) h =
    let j : i + suc k ≡ suc i + k = omega arith in
    ap₂ ◌++◌
    (same-one e (i + suc k) (suc (i + suc k)) h i x (λ q. omega (arith, q)) (λ q. omega (arith, q)))
    (two-from e k (suc i) c (subst (λ n. ChangeTwo e n (suc n)) j h))

two-changed : (e : Errors) (k : ℕ) (c : List Level) → ChangeTwo e k (suc k)
    → spoiled e c ≡ changed (suc k) (changed k c)
unfolding spoiled
two-changed e k c h =
    let z : k ≡ 0 + k = omega arith in
    two-from e k 0 c (subst (λ n. ChangeTwo e n (suc n)) z h)

-- the block that stands then, of two changed cells before its last subframe
exchanged-stands : (b : List (List Bool)) (s : Level) (d : List Level) → StandsClosed b s d
    → StandsClosed (exchanged 23613 b) s (changed 23614 (changed 23613 d))
exchanged-stands b s d h =
    let m = block_len_24576 in
    let x = exchanged-is s b 23613 h.block (omega (arith, m)) refl in
    let n = length-changed 23614 (changed 23613 d) in
    let o = length-changed 23613 d in
    record {
      block = x.0;
      cells = take-changed block_len 23614 (changed 23613 d)
          ∙ ap (changed 23614) (take-changed block_len 23613 d ∙ ap (changed 23613) h.cells) ∙ sym x.1;
      closed = record {
        turns = λ more e.
            h.closed.turns (omega (arith, more, n, o))
            (sym (cell block_len (omega (arith, m))) ∙ e ∙ cell (block_len - 1) (omega (arith, m)));
      };
    }
  where
    cell : (y : ℕ) → 23614 < y → at (changed 23614 (changed 23613 d)) y ≡ at d y
    cell y l =
        at-others 23614 (changed 23613 d) y (λ q. omega (arith, q, l)) ∙ at-others 23613 d y (λ q. omega (arith, q, l))

pub check-told : (errors : Errors) (q : ℕ) (c : List Level) (b : List (List Bool)) (s : Level)
    → AreCheckErrors errors q → StandsClosed b s (drop q c)
    → IsTheReport (spoiled errors c) q (Whole q s (inverted_in (2 * 184) 26 b))
check-told errors q c b s are stands =
    let a : q + 64 * (2 * 184) + 61 ≡ q + 23613 = omega arith in
    let z : q + 64 * (2 * 184) + 62 ≡ suc (q + 23613) = omega arith in
    let two : ChangeTwo errors (q + 23613) (suc (q + 23613)) =
    record {
      list = are.list
          ∙ ap₂ (λ m n. record { place = m; kind = Changed } ∷ record { place = n; kind = Changed } ∷ []) a z;
      every = are.every;
    } in
    let u : q + 23613 - q ≡ 23613 = omega arith in
    let v : suc (q + 23613) - q ≡ 23614 = omega arith in
    let e : drop q (changed (suc (q + 23613)) (changed (q + 23613) c)) ≡ changed 23614 (changed 23613 (drop q c)) =
    drop-changed q (suc (q + 23613)) (changed (q + 23613) c) (omega arith)
    ∙ ap₂ changed v (drop-changed q (q + 23613) c (omega arith) ∙ ap (λ n. changed n (drop q c)) u) in
    let new = exchanged-stands b s (drop q c) stands in
    subst (λ (d : List Level). IsTheReport d q (Whole q s (exchanged 23613 b)))
    (sym (two-changed errors (q + 23613) c two))
    (only-report (changed (suc (q + 23613)) (changed (q + 23613) c)) q (whole s (exchanged 23613 b))
    (ap outcome_at e
    ∙ outcome_at-some (changed 23614 (changed 23613 (drop q c)))
    (standing-begins (map with_parity (exchanged 23613 b)) s _ (block-stands (exchanged 23613 b) s _ new))
    ∙ ap Some (standing-whole (exchanged 23613 b) s _ new)))
