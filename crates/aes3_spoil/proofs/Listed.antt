-- Lists of errors, one more, and cells at which no error stands.
use Rattle.std.proofs.Common.{◌≡◌, ℕ, ◌+◌, ◌-◌, ◌*◌, ◌/◌, ◌%◌, ◌<◌, ◌≤◌, List, [], ◌∷◌, ◌++◌, length, take, get_or, suc}
use Rattle.std.proofs.Common.{min, Bool, true, false, cond, refl, sym, ap, ◌∙◌, arith, ◌⊎◌, inl, inr, Some}
use Rattle.std.specs.Prelude.{◌==◌, ◌&&◌, nat_lt}
use Rattle.std.proofs.lemmas.Bool.{cases_lt, cases_eq, lt-ltb, le-ltb, ne_eqb}
use Rattle.std.proofs.lemmas.List.{length-take-le, take_more, take_all}
use Rattle.std.proofs.Math.Nat.{mod-eq_of_lt, mul-le-mul_left}
use Rattle.std.proofs.Common.{mod-lt}
use Rattle.aes3_spoil.specs.declared.kinds.CellError.{CellError}
use Rattle.aes3_spoil.specs.declared.kinds.Every.{Every}
use Rattle.aes3_spoil.specs.declared.kinds.ErrorKind.{ErrorKind}
use Rattle.aes3_spoil.specs.declared.errors.Errors.{Errors}
use Rattle.aes3_spoil.specs.Errors.{ClearOf, entry_at, errors_at, errors_of, listed, repeated, same_kind}

pub count-errors : (errors : Errors) → length errors.list ≡ 64 → errors.len ≤ 64
    → length (errors_of errors) ≡ errors.len
unfolding errors_of
count-errors errors e h = length-take-le errors.len errors.list (omega arith)

pub at-errors : (errors : Errors) (kind : ErrorKind) (i : ℕ) (list : List CellError) (n : ℕ) → length list ≤ n
    → list ≡ take errors.len errors.list
    → errors_at errors kind i ≡ listed kind i (take n list) + repeated kind i errors.every
unfolding errors_at errors_of
at-errors errors kind i list n h e =
    ap (λ l. listed kind i l + repeated kind i errors.every) (sym e ∙ sym (take_all n list h))

listed-append : (kind : ErrorKind) (i : ℕ) (a b : List CellError)
    → listed kind i (a ++ b) ≡ listed kind i a + listed kind i b
listed-append kind i [] b = omega arith
listed-append kind i (x ∷ a) b = let h = listed-append kind i a b in omega (arith, h)

pub listed-more : (kind : ErrorKind) (i : ℕ) (list : List CellError) (n : ℕ) (d : CellError) → n < length list
    → listed kind i (take (n + 1) list) ≡ listed kind i (take n list) + entry_at kind i (get_or list n d)
listed-more kind i list n d h =
    ap (listed kind i) (take_more list n d h) ∙ listed-append kind i (take n list) (get_or list n d ∷ [])
    ∙ (let e : listed kind i (take n list) + (entry_at kind i (get_or list n d) + 0)
    ≡ listed kind i (take n list) + entry_at kind i (get_or list n d) = omega arith in e)

pub entry-few : (kind : ErrorKind) (i : ℕ) (x : CellError) → entry_at kind i x ≤ 1
entry-few kind i x = go ((x.place == i) && same_kind x.kind kind)
  where
    go : (b : Bool) → cond b 1 0 ≤ 1
    go true = omega arith
    go false = omega arith

pub at-most-one : (kind : ErrorKind) (i : ℕ) (x : CellError) {n : ℕ} → n ≡ entry_at kind i x → n ≤ 1
at-most-one kind i x e = let h = entry-few kind i x in omega (arith, e, h)

-- at cells at which neither stands, both do not
pub clear-both : {f g : ErrorKind → ℕ → ℕ} {from : ℕ} (a b : ℕ) → ClearOf f from (from + a) → ClearOf g from (from + b)
    → ClearOf (λ kind i. f kind i + g kind i) from (from + min a b)
clear-both {f} {g} {from} a b p q = record {
  none = λ kind i h l.
      let x : f kind i ≡ 0 = p.none kind i h (omega (arith, l)) in
      let y : g kind i ≡ 0 = q.none kind i h (omega (arith, l)) in
      omega (arith, x, y);
}

pub clear-is : {f g : ErrorKind → ℕ → ℕ} {from to : ℕ} → ((kind : ErrorKind) (i : ℕ) → g kind i ≡ f kind i)
    → ClearOf f from to → ClearOf g from to
clear-is e p = record { none = λ kind i h l. e kind i ∙ p.none kind i h l }

pub clear-front : {f : ErrorKind → ℕ → ℕ} {from to to' : ℕ} → to' ≤ to → ClearOf f from to → ClearOf f from to'
clear-front less p = record { none = λ kind i h l. p.none kind i h (omega (arith, less, l)) }

pub clear-back : {f : ErrorKind → ℕ → ℕ} {from from' to : ℕ} → from ≤ from' → ClearOf f from to → ClearOf f from' to
clear-back less p = record { none = λ kind i h l. p.none kind i (omega (arith, less, h)) l }

-- one more error
pub clear-one : {from a b : ℕ} (list : List CellError) (n : ℕ) (d : CellError) → n < length list → b ≤ a
    → ClearOf (λ kind i. listed kind i (take n list)) from (from + a)
    → ClearOf (λ kind i. entry_at kind i (get_or list n d)) from (from + b)
    → ClearOf (λ kind i. listed kind i (take (n + 1) list)) from (from + b)
clear-one {from = from} {a = a} {b = b} list n d h less p q = record {
  none = λ kind i g l.
      let x : listed kind i (take n list) ≡ 0 = p.none kind i g (omega (arith, l, less)) in
      let y : entry_at kind i (get_or list n d) ≡ 0 = q.none kind i g l in
      let m = listed-more kind i list n d h in
      omega (arith, x, y, m);
}

-- where the next multiple stands
not-repeated : (kind : ErrorKind) (i : ℕ) (every : Every) → (0 < i → 0 < every.cells → i % every.cells ≡ 0 → ⊥)
    → repeated kind i (Some every) ≡ 0
not-repeated kind i every h = go (same_kind every.kind kind) (cases_lt 0 i) (cases_lt 0 every.cells)
    (cases_eq (i % every.cells) 0)
  where
    go : (b : Bool) → (0 < i) ⊎ (i ≤ 0) → (0 < every.cells) ⊎ (every.cells ≤ 0)
        → (i % every.cells ≡ 0) ⊎ (i % every.cells ≡ 0 → ⊥)
        → ◌≡◌ {A = ℕ} (cond (b && (nat_lt 0 i && (nat_lt 0 every.cells && ((i % every.cells) == 0)))) 1 0) 0
    go false p q r = refl
    go true (inr p) q r = let t = le-ltb 0 i p in rw t refl
    go true (inl p) (inr q) r = let t = lt-ltb 0 i p in let u = le-ltb 0 every.cells q in rw (t, u) refl
    go true (inl p) (inl q) (inl r) = absurd (h p q r)
    go true (inl p) (inl q) (inr r) =
        let t = lt-ltb 0 i p in let u = lt-ltb 0 every.cells q in let v = ne_eqb (i % every.cells) 0 r in
        rw (t, u, v) refl

pub clear-first : (every : Every) → ClearOf (λ kind i. repeated kind i (Some every)) 0 (0 + every.cells)
clear-first every = record {
  none = λ kind i h l. not-repeated kind i every (λ p q r.
      let s : i % every.cells ≡ i = mod-eq_of_lt (omega arith) in omega (arith, r, s, p));
}

-- between two multiples
between : (n q p r : ℕ) → 0 < r → r < n → n * q + r ≤ n * p → n * p < n * q + n → ⊥
between n q p r some less h l = go (cases_lt q p)
  where
    go : (q < p) ⊎ (p ≤ q) → ⊥
    go (inl a) = let m : n * suc q ≤ n * p = mul-le-mul_left n (omega (arith, a)) in
        let e : n * suc q ≡ n * q + n = grind arith in omega (arith, m, e, l)
    go (inr a) = let m : n * p ≤ n * q = mul-le-mul_left n a in omega (arith, m, h, some)

parted : (n m : ℕ) → m ≡ n * (m / n) + m % n
parted n m = grind arith

pub clear-next : (every : Every) (place : ℕ) → 0 < every.cells → (place % every.cells ≡ 0 → ⊥)
    → ClearOf (λ kind i. repeated kind i (Some every)) place (place + (every.cells - place % every.cells))
clear-next every place some off = record {
  none = λ kind i h l. not-repeated kind i every (λ p q r.
      let n = every.cells in
      let a = parted n place in
      let b = parted n i in
      let m : place % n < n = mod-lt place some in
      between n (place / n) (i / n) (place % n) (omega (arith, off)) m (omega (arith, a, b, r, h))
      (omega (arith, a, b, r, l, m)));
}
