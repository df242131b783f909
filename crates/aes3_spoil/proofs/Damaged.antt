-- What no errors and one error make of cells.
use Rattle.std.proofs.Common.{◌≡◌, ℕ, zero, suc, ◌+◌, ◌<◌, List, [], ◌∷◌, ◌++◌, length, map, take, drop, refl, sym}
use Rattle.std.proofs.Common.{ap, ap₂, ◌∙◌, arith, replicate, cond, None, subst, zero-add}
use Rattle.std.specs.Prelude.{◌==◌, ◌&&◌}
use Rattle.std.proofs.lemmas.Bool.{eq-eqb, ne_eqb}
use Rattle.aes3_level.specs.declared.level.Level.{Level}
use Rattle.aes3_level.specs.Cells.{other}
use Rattle.aes3_slot.specs.Rules.{at}
use Rattle.aes3_lock.specs.Damage.{changed, without, inserted}
use Rattle.aes3_spoil.specs.declared.errors.Errors.{Errors}
use Rattle.aes3_spoil.specs.declared.kinds.ErrorKind.{ErrorKind}
use Rattle.aes3_spoil.specs.declared.kinds.ErrorKind.TheVariants.{Changed, Inverted, Lost, Doubled}
use Rattle.aes3_spoil.specs.Errors.{Clear, errors_at, errors_before, errors_of, same_kind}
use Rattle.aes3_spoil.specs.SpoilLaws.{IsOne}
use Rattle.aes3_spoil.specs.Spoiled.{is_odd, is_inverted, level_inverted, spoiled, spoiled_at, spoiled_from}
use Rattle.aes3_spoil.proofs.SpoiledCells.{cell-clear, cells-clear, times-none, times-once, times-twice}
use Rattle.aes3_spoil.proofs.SpoiledCells.{same-cells, other-cells}

-- what stands at a cell
no-errors : (e : Errors) → errors_of e ≡ [] → e.every ≡ None → (kind : ErrorKind) (i : ℕ) → errors_at e kind i ≡ 0
unfolding errors_at
no-errors e l v kind i = rw (l, v) refl

pub no-before : (e : Errors) (kind : ErrorKind) (n : ℕ) → ((i : ℕ) → i < n → errors_at e kind i ≡ 0)
    → errors_before e kind n ≡ 0
no-before e kind zero h = refl
no-before e kind (suc n) h =
    let a = no-before e kind n (λ i g. h i (omega (arith, g))) in
    let b = h n (omega arith) in
    omega (arith, a, b)

one-at : (e : Errors) (kind : ErrorKind) (k : ℕ) → IsOne e kind k → (other : ErrorKind) (i : ℕ)
    → errors_at e other i ≡ cond {A = ℕ} ((k == i) && same_kind kind other) 1 0
unfolding errors_at
one-at e kind k h other i = rw (h.list, h.every) (omega arith)

one-elsewhere : (e : Errors) (kind : ErrorKind) (k : ℕ) → IsOne e kind k → (other : ErrorKind) (i : ℕ)
    → (k ≡ i → ⊥) → errors_at e other i ≡ 0
one-elsewhere e kind k h other i away =
    one-at e kind k h other i ∙ ap (λ b. cond {A = ℕ} (b && same_kind kind other) 1 0) (ne_eqb k i away)

one-here : (e : Errors) (kind : ErrorKind) (k : ℕ) → IsOne e kind k → (other : ErrorKind)
    → errors_at e other k ≡ cond {A = ℕ} (same_kind kind other) 1 0
one-here e kind k h other =
    one-at e kind k h other k ∙ ap (λ b. cond {A = ℕ} (b && same_kind kind other) 1 0) (eq-eqb k k refl)

-- cells at which no error stands and behind no turn
pub from-same : (e : Errors) (i : ℕ) (c : List Level) → Clear e i (i + length c) → errors_before e Inverted i ≡ 0
    → spoiled_from e i c ≡ c
from-same e i c h b =
    cells-clear e i c h ∙ ap (λ n. map (level_inverted (is_odd n)) c) b ∙ same-cells c

pub none-same : (e : Errors) (c : List Level) → errors_of e ≡ [] → e.every ≡ None → spoiled e c ≡ c
unfolding spoiled
none-same e c l v =
    from-same e 0 c (record { none = λ kind i h g. no-errors e l v kind i }) refl

-- one error, before its cell, at it and behind it
step : (e : Errors) (kind : ErrorKind) (k : ℕ) → IsOne e kind k → (i : ℕ) (x : Level) → i < k
    → spoiled_at e i x ≡ x ∷ []
step e kind k h i x less =
    cell-clear e i x (λ o. one-elsewhere e kind k h o i (λ q. omega (arith, q, less)))
    ∙ ap (λ n. level_inverted (is_odd n) x ∷ [])
    (no-before e Inverted i (λ j g. one-elsewhere e kind k h Inverted j (λ q. omega (arith, q, g, less))))

rest : (e : Errors) (kind : ErrorKind) (k : ℕ) → IsOne e kind k → (c : List Level)
    → spoiled_from e (suc k) c ≡ map (level_inverted (is_odd (errors_before e Inverted (suc k)))) c
rest e kind k h c =
    cells-clear e (suc k) c
    (record { none = λ o i g l. one-elsewhere e kind k h o i (λ q. omega (arith, q, g)) })

before : (e : Errors) (kind : ErrorKind) (k : ℕ) → IsOne e kind k → errors_before e Inverted k ≡ 0
before e kind k h = no-before e Inverted k (λ i g. one-elsewhere e kind k h Inverted i (λ q. omega (arith, q, g)))

before-next : (e : Errors) (kind : ErrorKind) (k : ℕ) → IsOne e kind k
    → errors_before e Inverted (suc k) ≡ cond {A = ℕ} (same_kind kind Inverted) 1 0
before-next e kind k h =
    ap (λ n. n + errors_at e Inverted k) (before e kind k h)
    ∙ (let z : 0 + errors_at e Inverted k ≡ errors_at e Inverted k = omega arith in z) ∙ one-here e kind k h Inverted

turned-here : (e : Errors) (kind : ErrorKind) (k : ℕ) → IsOne e kind k
    → is_inverted e k
    ≡ is_odd (cond {A = ℕ} (same_kind kind Changed) 1 0 + cond {A = ℕ} (same_kind kind Inverted) 1 0)
unfolding is_inverted
turned-here e kind k h =
    ap is_odd (ap₂ ◌+◌ (one-here e kind k h Changed) (before-next e kind k h))

changed-from : (e : Errors) (k i : ℕ) (c : List Level) → IsOne e Changed (i + k) → spoiled_from e i c ≡ changed k c
changed-from e k i [] h = refl
changed-from e zero i (x ∷ c) h =
    let j : i + 0 ≡ i = omega arith in
    let o : IsOne e Changed i = subst (IsOne e Changed) j h in
    ap₂ ◌++◌
    (ap₂ (λ n b. replicate n (level_inverted b x))
    (sym (times-once e i (one-here e Changed i o Lost) (one-here e Changed i o Doubled)))
    (turned-here e Changed i o))
    (rest e Changed i o c ∙ ap (λ n. map (level_inverted (is_odd n)) c) (before-next e Changed i o) ∙ same-cells c)
changed-from e (suc k) i (x ∷ c) h =
    let j : i + suc k ≡ suc i + k = omega arith in
    ap₂ ◌++◌ (step e Changed (i + suc k) h i x (omega arith))
    (changed-from e k (suc i) c (subst (IsOne e Changed) j h))

lost-from : (e : Errors) (k i : ℕ) (c : List Level) → IsOne e Lost (i + k) → spoiled_from e i c ≡ without k c
lost-from e k i [] h = refl
lost-from e zero i (x ∷ c) h =
    let j : i + 0 ≡ i = omega arith in
    let o : IsOne e Lost i = subst (IsOne e Lost) j h in
    let one = one-here e Lost i o Lost in
    ap₂ ◌++◌
    (ap (λ n. replicate n (level_inverted (is_inverted e i) x)) (sym (times-none e i (omega (arith, one)))))
    (rest e Lost i o c ∙ ap (λ n. map (level_inverted (is_odd n)) c) (before-next e Lost i o) ∙ same-cells c)
lost-from e (suc k) i (x ∷ c) h =
    let j : i + suc k ≡ suc i + k = omega arith in
    ap₂ ◌++◌ (step e Lost (i + suc k) h i x (omega arith)) (lost-from e k (suc i) c (subst (IsOne e Lost) j h))

doubled-from : (e : Errors) (k i : ℕ) (c : List Level) → IsOne e Doubled (i + k) → k < length c
    → spoiled_from e i c ≡ inserted k (at c k) c
doubled-from e k i [] h l = absurd (omega arith)
doubled-from e zero i (x ∷ c) h l =
    let j : i + 0 ≡ i = omega arith in
    let o : IsOne e Doubled i = subst (IsOne e Doubled) j h in
    let two = one-here e Doubled i o Doubled in
    ap₂ ◌++◌
    (ap₂ (λ n b. replicate n (level_inverted b x))
    (sym (times-twice e i (one-here e Doubled i o Lost) (omega (arith, two))))
    (turned-here e Doubled i o))
    (rest e Doubled i o c ∙ ap (λ n. map (level_inverted (is_odd n)) c) (before-next e Doubled i o) ∙ same-cells c)
doubled-from e (suc k) i (x ∷ c) h l =
    let j : i + suc k ≡ suc i + k = omega arith in
    ap₂ ◌++◌ (step e Doubled (i + suc k) h i x (omega arith))
    (doubled-from e k (suc i) c (subst (IsOne e Doubled) j h) (omega arith))

inverted-from : (e : Errors) (k i : ℕ) (c : List Level) → IsOne e Inverted (i + k)
    → spoiled_from e i c ≡ take k c ++ map other (drop k c)
inverted-from e zero i [] h = refl
inverted-from e (suc k) i [] h = refl
inverted-from e zero i (x ∷ c) h =
    let j : i + 0 ≡ i = omega arith in
    let o : IsOne e Inverted i = subst (IsOne e Inverted) j h in
    ap₂ ◌++◌
    (ap₂ (λ n b. replicate n (level_inverted b x))
    (sym (times-once e i (one-here e Inverted i o Lost) (one-here e Inverted i o Doubled)))
    (turned-here e Inverted i o))
    (rest e Inverted i o c ∙ ap (λ n. map (level_inverted (is_odd n)) c) (before-next e Inverted i o) ∙ other-cells c)
inverted-from e (suc k) i (x ∷ c) h =
    let j : i + suc k ≡ suc i + k = omega arith in
    ap₂ ◌++◌ (step e Inverted (i + suc k) h i x (omega arith))
    (inverted-from e k (suc i) c (subst (IsOne e Inverted) j h))

start : (e : Errors) (kind : ErrorKind) (k : ℕ) → IsOne e kind k → IsOne e kind (0 + k)
start e kind k h = subst (IsOne e kind) (sym (zero-add k)) h

pub changed-one : (e : Errors) (k : ℕ) (c : List Level) → IsOne e Changed k → spoiled e c ≡ changed k c
unfolding spoiled
changed-one e k c h = changed-from e k 0 c (start e Changed k h)

pub lost-one : (e : Errors) (k : ℕ) (c : List Level) → IsOne e Lost k → spoiled e c ≡ without k c
unfolding spoiled
lost-one e k c h = lost-from e k 0 c (start e Lost k h)

pub inverted-one : (e : Errors) (k : ℕ) (c : List Level) → IsOne e Inverted k
    → spoiled e c ≡ take k c ++ map other (drop k c)
unfolding spoiled
inverted-one e k c h = inverted-from e k 0 c (start e Inverted k h)

pub doubled-one : (e : Errors) (k : ℕ) (c : List Level) → IsOne e Doubled k → k < length c
    → spoiled e c ≡ inserted k (at c k) c
unfolding spoiled
doubled-one e k c h l = doubled-from e k 0 c (start e Doubled k h) l
