-- Cells handed to a taker, one behind the other.
use Rattle.std.proofs.Common.{◌≡◌, ℕ, ◌+◌, ◌<◌, ◌≤◌, Result, Ok, Err, List, ◌++◌, Option, length, take, drop, refl, sym, ap, ap₂, ◌∙◌}
use Rattle.std.proofs.Common.{subst, arith, append_assoc}
use Rattle.std.proofs.lemmas.List.{length-take-le}
use Rattle.aes3_level.specs.declared.level.Level.{Level}
use Rattle.aes3_cell.specs.Ends.{Grew, GrewFront}
use Rattle.aes3_level.specs.Words.{low_cells}
use Rattle.aes3_level.proofs.Remaining.{front-here, here-parts}
use Rattle.aes3_cell.proofs.Growing.{grew-is, grew-join, front-is, front-join, front-more}
use Rattle.aes3_cell.specs.declared.ends.Fault.{Fault}
use Rattle.aes3_input.specs.Running.{Movement}
use Rattle.aes3_input.specs.Forms.{CellsRan, SomeCellsRan}
use Rattle.aes3_input.specs.Taking.{TakerState, Writing, behind}
use Rattle.aes3_input.proofs.Items.{items-join}

-- a taker that followed f₀ and wrote as w₀ was handed the cells a
pub record Handed (w₀ w : Writing Level) (f₀ f : List Level → Type 0) (t₀ t : Option (List ℕ)) (a : List Level)
    : Type 0 where
  pub same : w ≡ w₀
  pub follows : (c : List Level) → f₀ c → f (c ++ a)
  pub grew : (c : List Level) → f₀ c → Grew t₀ t (behind w₀ c a)

-- what more cells write
more-behind : {w₀ w : Writing Level} (a b d : List Level) → d ≡ a ++ b → w ≡ w₀ → (c : List Level)
    → behind w₀ c d ≡ behind w₀ c a ++ behind w (c ++ a) b
more-behind {w₀} {w} a b d e s c =
    ap (behind w₀ c) e ∙ items-join w₀ c a b ∙ ap (λ (v : Writing Level). behind w₀ c a ++ behind v (c ++ a) b) (sym s)

pub handed-cells : {w₀ w w' : Writing Level} {f₀ f f' : List Level
    → Type 0} {t₀ t t' : Option (List ℕ)} {a d : List Level} (b : List Level) → d ≡ a ++ b
    → Handed w₀ w f₀ f t₀ t a → w' ≡ w → ((c : List Level) → f c → f' (c ++ b))
    → ((c : List Level) → f c → Grew t t' (behind w c b)) → Handed w₀ w' f₀ f' t₀ t' d
handed-cells {f' = f'} {a = a} {d = d} b e h s next g = record {
  same = s ∙ h.same;
  follows = λ c q. subst f' (append_assoc c a b ∙ ap (λ v. c ++ v) (sym e)) (next (c ++ a) (h.follows c q));
  grew = λ c q. grew-is (sym (more-behind a b d e h.same c)) (grew-join (h.grew c q) (g (c ++ a) (h.follows c q)));
}

-- more of which a front was written
pub handed-cells-front : {w₀ w : Writing Level} {f₀ f : List Level
    → Type 0} {t₀ t t' : Option (List ℕ)} {a d : List Level} (b : List Level) → d ≡ a ++ b
    → Handed w₀ w f₀ f t₀ t a → ((c : List Level) → f c → GrewFront t t' (behind w c b))
    → (c : List Level) → f₀ c → GrewFront t₀ t' (behind w₀ c d)
handed-cells-front {a = a} {d = d} b e h g c q =
    front-is (sym (more-behind a b d e h.same c)) (front-join (h.grew c q) (g (c ++ a) (h.follows c q)))

-- a front of what cells write is one of what they write with more behind them
pub front-of-more : (w₀ : Writing Level) (f₀ : List Level → Type 0) (t₀ t : Option (List ℕ)) (a more : List Level)
    → ((c : List Level) → f₀ c → GrewFront t₀ t (behind w₀ c a)) → (c : List Level) → f₀ c
    → GrewFront t₀ t (behind w₀ c (a ++ more))
front-of-more w₀ f₀ t₀ t a more g c q
    = front-is (sym (items-join w₀ c a more)) (front-more (g c q) (behind w₀ (c ++ a) more))

-- a front of what some of them write is one of what all do
some-failed : (w₀ : Writing Level) (f₀ : List Level → Type 0) (t₀ t : Option (List ℕ)) (line front rest : List Level)
    → line ≡ front ++ rest
    → ((c : List Level) → f₀ c → GrewFront t₀ t (behind w₀ c front))
    → (c : List Level) → f₀ c → GrewFront t₀ t (behind w₀ c line)
some-failed w₀ f₀ t₀ t line front rest e g c q =
    front-is (ap (behind w₀ c) (sym e)) (front-of-more w₀ f₀ t₀ t front rest g c q)

-- a taker took the first of some cells
pub some-ran : (old new : TakerState Level) (line front rest : List Level) (sink : Movement)
    (result : Result (Unit {0}) Fault) → line ≡ front ++ rest → 0 < length front → CellsRan old new front sink result
    → SomeCellsRan old new line rest sink result
some-ran old new line front rest sink (Ok u) e some ran = (front, e, some, ran)
some-ran old new line front rest sink (Err x) e some ran =
    (ran.0, some-failed old.writes old.follows sink.old sink.new line front rest e ran.1)

-- the same cells
pub cells-ran-is : (old new : TakerState Level) (d e : List Level) (sink : Movement)
    (result : Result (Unit {0}) Fault) → d ≡ e → CellsRan old new d sink result → CellsRan old new e sink result
cells-ran-is old new d e sink result q r = subst (λ (z : List Level). CellsRan old new z sink result) q r

-- a taker took the first of the cells of a word
pub here-ran : (old new : TakerState Level) (line here next : List Level) (word n : ℕ) (sink : Movement)
    (result : Result (Unit {0}) Fault) (here' next' : List Level)
    → here ++ next ≡ line → low_cells (length here) word ≡ here → 0 < n → n ≤ length here
    → here' ≡ drop n here → next' ≡ next
    → CellsRan old new (low_cells n word) sink result → SomeCellsRan old new line (here' ++ next') sink result
here-ran old new line here next word n sink result here' next' e w some few h n' ran =
    let l = length-take-le n here few in
    some-ran old new line (take n here) (here' ++ next') sink result
    (sym e ∙ here-parts here next n ∙ ap (λ d. take n here ++ d) (sym (ap₂ ◌++◌ h n')))
    (omega (arith, some, l))
    (cells-ran-is old new (low_cells n word) (take n here) sink result (front-here here word n w few) ran)

handed-ran : {w₀ w : Writing Level} {f₀ f : List Level → Type 0} {t₀ t : Option (List ℕ)} {a : List Level} → w ≡ w₀
    → ((c : List Level) → f₀ c → f (c ++ a))
    → ((c : List Level) → f₀ c → Grew t₀ t (behind w₀ c a)) → Handed w₀ w f₀ f t₀ t a
handed-ran s n g = record { same = s; follows = n; grew = g }

-- more cells after those handed on
pub cells-ran-behind : (old mid new : TakerState Level) (a b : List Level)
    (t₀ t t' : Option (List ℕ)) (n₀ n n' : ℕ) (result : Result (Unit {0}) Fault)
    → CellsRan old mid a (record { old = t₀; new = t; failed_old = n₀; failed_new = n }) (Ok tt)
    → CellsRan mid new b (record { old = t; new = t'; failed_old = n; failed_new = n' }) result
    → CellsRan old new (a ++ b) (record { old = t₀; new = t'; failed_old = n₀; failed_new = n' }) result
cells-ran-behind old mid new a b t₀ t t' n₀ n n' (Ok u) p q =
    let h : Handed old.writes new.writes old.follows new.follows t₀ t' (a ++ b)
    = handed-cells b refl (handed-ran p.0 p.1 p.2) q.0 q.1 q.2 in (h.same, h.follows, h.grew, q.3 ∙ p.3)
cells-ran-behind old mid new a b t₀ t t' n₀ n n' (Err x) p q =
    (q.0 ∙ ap (λ k. k + 1) p.3, handed-cells-front b refl (handed-ran p.0 p.1 p.2) q.1)
