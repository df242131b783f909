-- A taker of cells, one call further.
use Rattle.std.proofs.Common.{◌≡◌, ℕ, suc, ◌+◌, ◌-◌, ◌%◌, ◌≤◌, List, [], ◌∷◌, ◌++◌, length, map, sym, ap, ap₂}
use Rattle.std.proofs.Common.{◌∙◌, arith, length-append, replicate, Bool, cond, Option, Result, Ok, Err, subst}
use Rattle.std.specs.Prelude.{IfOk, OnErr, not}
use Rattle.aes3_level.specs.declared.level.Level.{Level}
use Rattle.aes3_level.specs.Words.{level_of, low_cells}
use Rattle.aes3_cell.specs.declared.ends.Fault.{Fault}
use Rattle.aes3_cell.specs.Ends.{Grew, GrewFront}
use Rattle.aes3_cell.specs.Pending.{begun_cells}
use Rattle.aes3_cell.specs.Writes.{Wrote}
use Rattle.aes3_cell.proofs.Growing.{grew-is, front-is}
use Rattle.aes3_capture_recovery.specs.Endings.{ending_of, level_if}
use Rattle.aes3_input.specs.Forms.{CellsRan}
use Rattle.aes3_input.specs.Running.{movement_of}
use Rattle.aes3_spoil.specs.declared.cells_out.CellsOut.{CellsOut}
use Rattle.aes3_spoil.specs.declared.errors.Errors.{Errors}
use Rattle.aes3_spoil.specs.declared.kinds.ErrorKind.TheVariants.{Changed, Inverted}
use Rattle.aes3_spoil.specs.declared.spoiling.Spoiler.{Spoiler}
use Rattle.aes3_spoil.specs.Errors.{Clear, errors_at, errors_before}
use Rattle.aes3_spoil.specs.Spoiled.{is_odd, is_inverted, level_inverted, spoiled, spoiled_from, times}
use Rattle.aes3_spoil.specs.Spoiling.{Spoils, bytes_added, held, spoiler_state, spoiling}
use Rattle.aes3_spoil.proofs.FrontBits.{first-level}
use Rattle.aes3_spoil.proofs.Listed.{clear-back, clear-front}
use Rattle.aes3_spoil.proofs.SpoiledCells.{cells-clear, inverted-clear, odd-sum, spoiled-join, spoiled-one}
use Rattle.aes3_spoil.proofs.WholeWords.{begun-more}
use Rattle.aes3_spoil.proofs.Writings.{behind-is, ends-is}

-- where the taker stands among the cells, apart from those that it holds
pub record Stands (e : Errors) (place : ℕ) (inverted : Bool) (clear : ℕ) (c : List Level) : Type 0 where
  pub place_is : place ≡ length c
  pub inverted_is : inverted ≡ is_odd (errors_before e Inverted (length c))
  pub clear_is : Clear e (length c) (length c + clear)

-- it took the cells d, of which `more` come
pub took : {A : Type 0} (taken : A → Option (List ℕ)) (failed : A → ℕ) (a b : A) (old : Spoiler) (out : CellsOut)
    (place : ℕ) (inverted : Bool) (clear : ℕ) (d more : List Level) (r : Result (Unit {0}) Fault)
    → out.form ≡ old.out.form
    → ((c : List Level) → Spoils old c → spoiled_from old.errors (length c) d ≡ more)
    → ((c : List Level) → Spoils old c → Stands old.errors place inverted clear (c ++ d))
    → Wrote taken failed a b (bytes_added old.out.form (held old.out) more) r
    → IfOk r (λ _. held out ≡ begun_cells (held old.out ++ more))
    → CellsRan (spoiler_state old)
    (spoiler_state (record { errors = old.errors; place = place; inverted = inverted; clear = clear; out = out })) d
    (movement_of taken failed a b) r
took taken failed a b old out place inverted clear d more (Ok u) f m s w k = (
  ap (λ x. spoiling x old.errors) f,
  (λ c h.
      let t = s c h in
      record {
        place = t.place_is;
        inverted = t.inverted_is;
        held = k ∙ ap₂ (λ x y. begun_cells (x ++ y)) h.held (sym (m c h))
            ∙ sym (begun-more (spoiled old.errors c) (spoiled_from old.errors (length c) d))
            ∙ ap begun_cells (sym (spoiled-join old.errors c d));
        clear = t.clear_is;
      }),
  (λ c h. grew-is (ap₂ (bytes_added old.out.form) h.held (sym (m c h)) ∙ behind-is old.out.form old.errors c d) w.grew),
  w.no_failure,
)
took taken failed a b old out place inverted clear d more (Err x) f m s w k = (
  w.err.0,
  (λ c h.
      front-is (ap₂ (bytes_added old.out.form) h.held (sym (m c h)) ∙ behind-is old.out.form old.errors c d) w.err.1),
)

-- the end
pub ends-grew : {A : Type 0} {taken : A → Option (List ℕ)} {failed : A → ℕ} {a b : A} (s : Spoiler)
    (r : Result (Unit {0}) Fault) → Wrote taken failed a b (ending_of s.out.form (held s.out)) r
    → IfOk r (λ _. (c : List Level) → Spoils s c → Grew (taken a) (taken b) ((spoiling s.out.form s.errors).ends c))
ends-grew s (Ok u) w = λ c h. grew-is (ap (ending_of s.out.form) h.held ∙ ends-is s.out.form s.errors c) w.grew
ends-grew s (Err x) w = tt

pub ends-front : {A : Type 0} {taken : A → Option (List ℕ)} {failed : A → ℕ} {a b : A} (s : Spoiler)
    (r : Result (Unit {0}) Fault) → Wrote taken failed a b (ending_of s.out.form (held s.out)) r
    → OnErr r ((c : List Level) → Spoils s c → GrewFront (taken a) (taken b) ((spoiling s.out.form s.errors).ends c))
ends-front s (Ok u) w = tt
ends-front s (Err x) w = λ c h. front-is (ap (ending_of s.out.form) h.held ∙ ends-is s.out.form s.errors c) w.err.1

-- cells at which no error stands
pub clear-cells : (s : Spoiler) (n word : ℕ) (c : List Level) → n ≤ s.clear → length (low_cells n word) ≡ n
    → Spoils s c
    → spoiled_from s.errors (length c) (low_cells n word) ≡ map (level_inverted s.inverted) (low_cells n word)
clear-cells s n word c less l h =
    cells-clear s.errors (length c) (low_cells n word) (clear-front (omega (arith, less, l)) h.clear)
    ∙ ap (λ b. map (level_inverted b) (low_cells n word)) (sym h.inverted)

pub clear-stands : (s : Spoiler) (n : ℕ) (c d : List Level) → n ≤ s.clear → length d ≡ n → Spoils s c
    → Stands s.errors (s.place + n) s.inverted (s.clear - n) (c ++ d)
clear-stands s n c d less l h =
    let a = length-append c d in
    let p = h.place in
    let at : length (c ++ d) ≡ length c + n = omega (arith, a, l) in
    record {
      place_is = omega (arith, a, l, p);
      inverted_is = h.inverted
          ∙ ap is_odd (sym (inverted-clear s.errors (length c) n (clear-front (omega (arith, less)) h.clear))
          ∙ ap (errors_before s.errors Inverted) (sym at));
      clear_is = rw at (clear-front (omega (arith, less)) (clear-back (omega arith) h.clear));
    }

-- one cell
pub inverted-one : (s : Spoiler) (c : List Level) (inverted : Bool) (count : ℕ) → Spoils s c
    → count ≡ errors_at s.errors Inverted s.place
    → inverted ≡ cond (is_odd count) (not s.inverted) s.inverted
    → inverted ≡ is_odd (errors_before s.errors Inverted (suc (length c)))
inverted-one s c inverted count h k e =
    e ∙ ap₂ (λ a b. cond (is_odd a) (not b) b) (k ∙ ap (errors_at s.errors Inverted) h.place) h.inverted
    ∙ sym (odd-sum (errors_before s.errors Inverted (length c)) (errors_at s.errors Inverted (length c)))

pub turned-one : (s : Spoiler) (c : List Level) (inverted turned : Bool) (count : ℕ) → Spoils s c
    → inverted ≡ is_odd (errors_before s.errors Inverted (suc (length c)))
    → count ≡ errors_at s.errors Changed s.place → turned ≡ cond (is_odd count) (not inverted) inverted
    → turned ≡ is_inverted s.errors (length c)
unfolding is_inverted
turned-one s c inverted turned count h i k e =
    let b = errors_before s.errors Inverted (suc (length c)) in
    let a = errors_at s.errors Changed (length c) in
    e ∙ ap₂ (λ x y. cond (is_odd x) (not y) y) (k ∙ ap (errors_at s.errors Changed) h.place) i ∙ sym (odd-sum b a)
    ∙ ap is_odd (let z : b + a ≡ a + b = omega arith in z)

pub one-cell : (s : Spoiler) (c : List Level) (turned : Bool) (n word : ℕ) → Spoils s c
    → turned ≡ is_inverted s.errors (length c) → n ≡ times s.errors s.place
    → spoiled_from s.errors (length c) (low_cells 1 word)
    ≡ replicate n (level_if (cond turned (not (is_odd word)) (is_odd word)))
one-cell s c turned n word h t k =
    spoiled-one s.errors (length c) (level_of (word % 2))
    ∙ sym (ap₂ replicate (k ∙ ap (times s.errors) h.place)
    (first-level word turned ∙ ap (λ b. level_inverted b (level_of (word % 2))) t))

pub one-stands : (s : Spoiler) (c : List Level) (x : Level) (inverted : Bool) (clear : ℕ) → Spoils s c
    → inverted ≡ is_odd (errors_before s.errors Inverted (suc (length c)))
    → Clear s.errors (s.place + 1) (s.place + 1 + clear)
    → Stands s.errors (s.place + 1) inverted clear (c ++ x ∷ [])
one-stands s c x inverted clear h i k =
    let a = length-append c (x ∷ []) in
    let p = h.place in
    let at : s.place + 1 ≡ length (c ++ x ∷ []) = omega (arith, a, p) in
    let next : length (c ++ x ∷ []) ≡ suc (length c) = omega (arith, a) in
    record {
      place_is = at;
      inverted_is = i ∙ ap (λ n. is_odd (errors_before s.errors Inverted n)) (sym next);
      clear_is = subst (λ n. Clear s.errors n (n + clear)) at k;
    }
