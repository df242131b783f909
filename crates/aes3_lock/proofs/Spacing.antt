-- How near candidates are to one another, and how many reports 64 cells decide.
use Rattle.std.proofs.Common.{◌≡◌, ℕ, zero, suc, ◌+◌, ◌*◌, ◌<◌, ◌≤◌, ◌⊎◌, inl, inr, List, [], ◌∷◌, ◌++◌, Bool, true}
use Rattle.std.proofs.Common.{false, Option, Some, None, refl, length, drop, ap, ◌∙◌, sym, subst, arith, length-append}
use Rattle.std.proofs.Common.{length-drop, append_assoc, append-nil}
use Rattle.std.proofs.lemmas.Bool.{cases_eq, cases_lt, false_from_ne_true}
use Rattle.std.proofs.lemmas.List.{drop-append-le}
use Rattle.aes3_level.specs.declared.level.Level.{Level}
use Rattle.aes3_level.specs.declared.level.Level.TheVariants.{Low, High}
use Rattle.aes3_slot.specs.declared.mark.Mark.TheVariants.{Z}
use Rattle.aes3_slot.specs.Preambles.{entry}
use Rattle.aes3_slot.specs.Rules.{at, shape, StandsMark}
use Rattle.aes3_slot.proofs.OwnPreambles.{stands-at}
use Rattle.aes3_slot.proofs.Beginnings.{begins-stands, begins-append, stands-drop}
use Rattle.aes3_lock.specs.declared.report.Report.{Report}
use Rattle.aes3_lock.specs.Outcomes.{Outcome}
use Rattle.aes3_lock.specs.Reports.{told, decided_at, open_at, decided_from, decided}
use Rattle.aes3_lock.specs.Following.{NoneOpen}
use Rattle.aes3_lock.proofs.Deciding.{answer, decided-push, decided-stays, none-from-front}
use Rattle.aes3_lock.proofs.Opens.{is-open, open-room, open-back, open-only, answer-none, answer-open}
use Rattle.std.proofs.lemmas.Option.{none-some}

-- no preamble of a block begins one to four cells behind another
behind-one : (s t : Level) → shape Z 2 s ≡ shape Z 1 t → shape Z 3 s ≡ shape Z 2 t → ⊥
behind-one Low Low e f = cc
behind-one Low High e f = cc
behind-one High Low e f = cc
behind-one High High e f = cc

behind-two : (s t : Level) → shape Z 2 s ≡ shape Z 0 t → shape Z 3 s ≡ shape Z 1 t → ⊥
behind-two Low Low e f = cc
behind-two Low High e f = cc
behind-two High Low e f = cc
behind-two High High e f = cc

behind-three : (s t : Level) → shape Z 3 s ≡ shape Z 0 t → shape Z 4 s ≡ shape Z 1 t → ⊥
behind-three Low Low e f = cc
behind-three Low High e f = cc
behind-three High Low e f = cc
behind-three High High e f = cc

behind-four : (s t : Level) → shape Z 4 s ≡ shape Z 0 t → shape Z 5 s ≡ shape Z 1 t → ⊥
behind-four Low Low e f = cc
behind-four Low High e f = cc
behind-four High Low e f = cc
behind-four High High e f = cc

pub five-apart : (s t : Level) (c : List Level) (p q : ℕ) → p < q → StandsMark Z s c p → StandsMark Z t c q → p + 5 ≤ q
five-apart s t c p q h x y = go (cases_lt q (p + 5))
  where
    meet : (a b : ℕ) → a < 8 → b < 8 → p + a ≡ q + b → shape Z a s ≡ shape Z b t
    meet a b l m e = sym (stands-at Z s c p a l x) ∙ ap (at c) e ∙ stands-at Z t c q b m y

    near : q < p + 5 → (q ≡ p + 1) ⊎ (q ≡ p + 1 → ⊥) → (q ≡ p + 2) ⊎ (q ≡ p + 2 → ⊥) → (q ≡ p + 3) ⊎ (q ≡ p + 3 → ⊥) → ⊥
    near g (inl e) b d = behind-one s t (meet 2 1 (omega arith) (omega arith) (omega (arith, e)))
        (meet 3 2 (omega arith) (omega arith) (omega (arith, e)))
    near g (inr a) (inl e) d = behind-two s t (meet 2 0 (omega arith) (omega arith) (omega (arith, e)))
        (meet 3 1 (omega arith) (omega arith) (omega (arith, e)))
    near g (inr a) (inr b) (inl e) = behind-three s t (meet 3 0 (omega arith) (omega arith) (omega (arith, e)))
        (meet 4 1 (omega arith) (omega arith) (omega (arith, e)))
    near g (inr a) (inr b) (inr d) =
        let four : q ≡ p + 4 = omega (arith, h, g, a, b, d) in
        behind-four s t (meet 4 0 (omega arith) (omega arith) (omega (arith, four)))
        (meet 5 1 (omega arith) (omega arith) (omega (arith, four)))

    go : (q < p + 5) ⊎ (p + 5 ≤ q) → p + 5 ≤ q
    go (inl g) = absurd (near g (cases_eq q (p + 1)) (cases_eq q (p + 2)) (cases_eq q (p + 3)))
    go (inr g) = g

-- whether a candidate is in hand
none-cons : (x : Level) (c : List Level) → open_at (x ∷ c) ≡ false → NoneOpen c → (q : ℕ)
    → open_at (drop q (x ∷ c)) ≡ false
none-cons x c e n zero = e
none-cons x c e n (suc q) = n q

one-or-none : (c : List Level) → NoneOpen c ⊎ ((p : ℕ) × (open_at (drop p c) ≡ true))
one-or-none [] = inl (λ q. false_from_ne_true (open_at (drop q [])) (λ t.
    let r = (open-room (drop q []) (is-open (drop q []) t)).0 in
    let n = length-drop {A = Level} q [] in
    omega (arith, r, n)))
one-or-none (x ∷ c) = go (open_at (x ∷ c)) refl (one-or-none c)
  where
    go : (b : Bool) → open_at (x ∷ c) ≡ b → NoneOpen c ⊎ ((p : ℕ) × (open_at (drop p c) ≡ true)) → NoneOpen (x ∷ c)
        ⊎ ((p : ℕ) × (open_at (drop p (x ∷ c)) ≡ true))
    go true e r = inr (0, e)
    go false e (inl n) = inl (none-cons x c e n)
    go false e (inr r) = inr (suc r.0, r.1)

-- what is in hand with more cells was in hand
open-before : (c e : List Level) (q : ℕ) → 8 ≤ length (drop q c) → open_at (drop q (c ++ e)) ≡ true
    → open_at (drop q c) ≡ true
open-before c [] q h o = subst (λ x. open_at (drop q x) ≡ true) (append-nil c) o
open-before c (l ∷ e) q h o =
    let n = length-drop q c in
    let m = length-append (drop q c) (l ∷ []) in
    let t : drop q (c ++ l ∷ []) ≡ drop q c ++ l ∷ [] = drop-append-le q c (l ∷ []) (omega (arith, n, h)) in
    let r = open-before (c ++ l ∷ []) e q (subst (λ x. 8 ≤ length x) (sym t) (omega (arith, m, h)))
    (subst (λ x. open_at (drop q x) ≡ true) (sym (append_assoc c (l ∷ []) e)) o) in
    open-back (drop q c) l h (sym (ap open_at t) ∙ r)

-- and what is decided is in hand no more
decided-closed : (d e : List Level) (r : Outcome) → decided_at d ≡ Some r → open_at (d ++ e) ≡ true → ⊥
decided-closed d e r s o =
    let a = (is-open (d ++ e) o).all in
    none-some _ (sym (none-from-front (d ++ e) (omega (arith, a))) ∙ decided-stays d e r s)

-- the preamble of what is in hand
open-stands : (c : List Level) (q : ℕ) → open_at (drop q c) ≡ true → StandsMark Z (entry (drop q c)) c q
open-stands c q o =
    subst (StandsMark Z (entry (drop q c)) c) (let e : q + 0 ≡ q = omega arith in e)
    (stands-drop Z (entry (drop q c)) c q 0 (begins-stands Z (drop q c) (is-open (drop q c) o).begins))

-- n reports are decided since cell w, and whatever comes later is as far behind as they make it
abbrev Spaced : ℕ → ℕ → List Level → Type 0
Spaced w n c = (e : List Level) (q : ℕ) → 0 < n → open_at (drop q (c ++ e)) ≡ true → w + 5 * n ≤ q + 12

-- one more is decided by the cell x
module _ (c : List Level) (x : Level) (w n p : ℕ) (h : w ≤ length c) (s : Spaced w n c) (o : open_at (drop p c) ≡ true)
    (r : Outcome)
    (d : decided_at (drop p c ++ x ∷ []) ≡ Some r) where
  long : p + 8 ≤ length c
  long = let a = (open-room (drop p c) (is-open (drop p c) o)).0 in let b = length-drop p c in omega (arith, a, b)

  pub fourteen : length c < w + 64 → n < 14
  fourteen g = go (cases_eq n 0)
    where
      go : (n ≡ 0) ⊎ (n ≡ 0 → ⊥) → n < 14
      go (inl e) = omega (arith, e)
      go (inr e) =
          let l = long in
          let a = s [] p (omega (arith, e)) (subst (λ y. open_at (drop p y) ≡ true) (sym (append-nil c)) o) in
          omega (arith, a, l, g)

  rest : (e : List Level) → drop p (c ++ x ∷ e) ≡ (drop p c ++ x ∷ []) ++ e
  rest e = let l = long in drop-append-le p c (x ∷ e) (omega (arith, l)) ∙ sym (append_assoc (drop p c) (x ∷ []) e)

  still : (e : List Level) (q : ℕ) → open_at (drop q (c ++ x ∷ e)) ≡ true → 8 ≤ length (drop q c) → ⊥
  still e q z g =
      let a : p ≡ q = open-only c p q o (open-before c (x ∷ e) q g z) in
      decided-closed (drop p c ++ x ∷ []) e r d (sym (ap open_at (rest e))
      ∙ ap (λ i. open_at (drop i (c ++ x ∷ e))) a ∙ z)

  later : (e : List Level) (q : ℕ) → open_at (drop q (c ++ x ∷ e)) ≡ true → length c < q + 8
  later e q z = go (cases_lt (length (drop q c)) 8)
    where
      go : (length (drop q c) < 8) ⊎ (8 ≤ length (drop q c)) → length c < q + 8
      go (inl g) = let l = length-drop q c in omega (arith, g, l)
      go (inr g) = absurd (still e q z g)

  begun : (e : List Level) → StandsMark Z (entry (drop p c ++ x ∷ e)) (c ++ x ∷ e) p
  begun e =
      let l = long in
      let w = is-open (drop p c) o in
      let a = (open-room (drop p c) w).0 in
      subst (StandsMark Z (entry (drop p c ++ x ∷ e)) (c ++ x ∷ e)) (let i : p + 0 ≡ p = omega arith in i)
      (stands-drop Z (entry (drop p c ++ x ∷ e)) (c ++ x ∷ e) p 0
      (subst (λ v. StandsMark Z (entry (drop p c ++ x ∷ e)) v 0) (sym (drop-append-le p c (x ∷ e) (omega (arith, l))))
      (begins-stands Z (drop p c ++ x ∷ e) (begins-append Z (drop p c) (x ∷ e) a ∙ w.begins))))

  pub spaced : Spaced w (suc n) (c ++ x ∷ [])
  spaced e q z y =
      let y' = subst (λ v. open_at (drop q v) ≡ true) (append_assoc c (x ∷ []) e) y in
      let a = later e q y' in
      let l = long in
      let f = five-apart _ _ (c ++ x ∷ e) p q (omega (arith, a, l)) (begun e) (open-stands (c ++ x ∷ e) q y') in
      go a f (cases_eq n 0)
    where
      go : length c < q + 8 → p + 5 ≤ q → (n ≡ 0) ⊎ (n ≡ 0 → ⊥) → w + 5 * suc n ≤ q + 12
      go a f (inl g) = omega (arith, a, g, h)
      go a f (inr g) =
          let b = s [] p (omega (arith, g)) (subst (λ y. open_at (drop p y) ≡ true) (sym (append-nil c)) o) in
          omega (arith, b, f)

abbrev FewMore : List Level → Type 0
FewMore d = (c : List Level) (w n : ℕ) → w ≤ length c → length c + length d ≤ w + 64 → n ≤ 14 → Spaced w n c
    → n + length (decided_from 0 (c ++ d)) ≤ 14 + length (decided_from 0 c)

few-more : (d c : List Level) (w n : ℕ) → w ≤ length c → length c + length d ≤ w + 64 → n ≤ 14 → Spaced w n c
    → n + length (decided_from 0 (c ++ d)) ≤ 14 + length (decided_from 0 c)
few-more [] c w n h l b s = let e = ap (λ v. length (decided_from 0 v)) (append-nil c) in omega (arith, e, b)
few-more (x ∷ d) c w n h l b s = go (few-more d) (one-or-none c)
  where
    m : length (c ++ x ∷ []) ≡ length c + 1
    m = length-append c (x ∷ [])

    all : length (decided_from 0 ((c ++ x ∷ []) ++ d)) ≡ length (decided_from 0 (c ++ x ∷ d))
    all = ap (λ v. length (decided_from 0 v)) (append_assoc c (x ∷ []) d)

    same : FewMore d → answer 0 c x ≡ [] → n + length (decided_from 0 (c ++ x ∷ d)) ≤ 14 + length (decided_from 0 c)
    same more-of a =
        let f = all in
        let k = m in
        let r = more-of (c ++ x ∷ []) w n (omega (arith, k, h)) (omega (arith, k, l)) b
        (λ e q z y. s (x ∷ e) q z (subst (λ v. open_at (drop q v) ≡ true) (append_assoc c (x ∷ []) e) y)) in
        let e = ap length (decided-push 0 c x ∙ ap (λ y. decided_from 0 c ++ y) a ∙ append-nil (decided_from 0 c)) in
        omega (arith, r, f, e)

    more : FewMore d → (p : ℕ) (o : open_at (drop p c) ≡ true) (r : Outcome) → decided_at (drop p c ++ x ∷ []) ≡ Some r
        → n + length (decided_from 0 (c ++ x ∷ d)) ≤ 14 + length (decided_from 0 c)
    more more-of p o r e =
        let f = all in
        let k = m in
        let i = more-of (c ++ x ∷ []) w (suc n) (omega (arith, k, h)) (omega (arith, k, l))
        (let t = fourteen c x w n p h s o r e (omega (arith, l)) in omega (arith, t)) (spaced c x w n p h s o r e) in
        let g = ap length (decided-push 0 c x
        ∙ ap (λ y. decided_from 0 c ++ y) (answer-open 0 c x p o ∙ ap (told (0 + p)) e)) in
        let j = length-append (decided_from 0 c) (told (0 + p) (Some r)) in
        omega (arith, i, f, g, j)

    go : FewMore d → NoneOpen c ⊎ ((p : ℕ) × (open_at (drop p c) ≡ true))
        → n + length (decided_from 0 (c ++ x ∷ d)) ≤ 14 + length (decided_from 0 c)
    go more-of (inl none) = same more-of (answer-none 0 c x none)
    go more-of (inr t) = by (decided_at (drop t.0 c ++ x ∷ [])) refl
      where
        by : (o : Option Outcome) → decided_at (drop t.0 c ++ x ∷ []) ≡ o
            → n + length (decided_from 0 (c ++ x ∷ d)) ≤ 14 + length (decided_from 0 c)
        by None e = same more-of (answer-open 0 c x t.0 t.1 ∙ ap (told (0 + t.0)) e)
        by (Some r) e = more more-of t.0 t.1 r e

pub few-decided : (c d : List Level) → length d ≤ 64 → length (decided (c ++ d)) ≤ length (decided c) + 14
unfolding decided
few-decided c d h =
    let r = few-more d c (length c) 0 (omega arith) (omega (arith, h)) (omega arith)
    (λ e q z o. absurd (omega (arith, z))) in
    omega (arith, r)

-- reports told of the first cells of a word are few
pub few-told : (c d : List Level) (new : List Report) → length d ≤ 64 → decided (c ++ d) ≡ decided c ++ new
    → length new ≤ 14
few-told c d new h e =
    let f = few-decided c d h in
    let g = ap length e in
    let j = length-append (decided c) new in
    omega (arith, f, g, j)
