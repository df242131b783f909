-- The places where statuses of each kind are met first.
use Rattle.std.proofs.Common.{◌≡◌, ◌≢◌, ℕ, suc, ◌+◌, ◌<◌, ◌≤◌, ◌⊎◌, inl, inr, Bool, ◌||◌, ◌&&◌, not}
use Rattle.std.proofs.Common.{true, false, eqb, eq-eqb, List, [], ◌∷◌, ◌++◌, length, get_or, set, refl, ap, ap₂}
use Rattle.std.proofs.Common.{◌∙◌, sym, arith, ne_eqb, replicate, min, Option, Some, None, if◌then◌else◌, nat_lt}
use Rattle.std.specs.List.{All}
use Rattle.std.proofs.lemmas.Bool.{cases_eq, cases_lt, lt-ltb, le-ltb}
use Rattle.std.proofs.lemmas.List.{get_or-replicate, get_or-set_other}
use Rattle.std.proofs.lemmas.Grind.{get_or-set_at}
use Rattle.aes3_bits.specs.Bits.{number}
use Rattle.aes3_status.specs.declared.setting.Settings.{Settings}
use Rattle.aes3_status.specs.KindPlaces.{Met, Rising, earlier, first_met, first_place}
use Rattle.aes3_status.specs.Taken.{example_of, kind_of, telling_bits}
use Rattle.aes3_status.specs.TakingAll.{takes_all}
use Rattle.aes3_status.proofs.TakenKinds.{example-kind, kind-few, length-example}
use Rattle.aes3_status.proofs.TakingAll.{kind-takes-all}

-- ---- the first of some
module _ {A : Type 0} (place : A → ℕ) where
  pub rising-weaker : (p q : ℕ) (xs : List A) → p ≤ q → Rising place q xs → Rising place p xs
  rising-weaker p q [] l r = tt
  rising-weaker p q (x ∷ more) l r = (let h = r.0 in omega arith, r.1)

  behind-first : (test : A → Bool) (p : ℕ) (xs : List A) → Rising place p xs
      → Some p ≡ earlier (Some p) (first_place place test xs)
  behind-first test p [] r = refl
  behind-first test p (x ∷ more) r =
      go (test x) (behind-first test p more (rising-weaker p (place x) more r.0 r.1))
    where
      here : p ≡ min p (place x)
      here = let h = r.0 in omega arith

      go : (b : Bool) → Some p ≡ earlier (Some p) (first_place place test more)
          → Some p ≡ earlier (Some p) (if b then Some (place x) else first_place place test more)
      go true ih = ap (λ (k : ℕ). Some k) here
      go false ih = ih

  earlier-swap : (a b : Option ℕ) → earlier a b ≡ earlier b a
  earlier-swap None None = refl
  earlier-swap None (Some q) = refl
  earlier-swap (Some p) None = refl
  earlier-swap (Some p) (Some q) = ap (λ (k : ℕ). Some k) (let e : min p q ≡ min q p = omega arith in e)

  pub first-either : (f g : A → Bool) (p : ℕ) (xs : List A) → Rising place p xs
      → first_place place (λ x. f x || g x) xs ≡ earlier (first_place place f xs) (first_place place g xs)
  first-either f g p [] r = refl
  first-either f g p (x ∷ more) r = go (f x) (g x) (first-either f g (place x) more r.1)
    where
      here : place x ≡ min (place x) (place x)
      here = omega arith

      go : (b c : Bool)
          → first_place place (λ x. f x || g x) more ≡ earlier (first_place place f more) (first_place place g more)
          → ◌≡◌ {A = Option ℕ} (if b || c then Some (place x) else first_place place (λ x. f x || g x) more)
          (earlier (if b then Some (place x) else first_place place f more)
          (if c then Some (place x) else first_place place g more))
      go true true ih = ap (λ (k : ℕ). Some k) here
      go true false ih = behind-first g (place x) more r.1
      go false true ih =
          behind-first f (place x) more r.1 ∙ earlier-swap (Some (place x)) (first_place place f more)
      go false false ih = ih

  pub first-same-in : (f g : A → Bool) (xs : List A) → All (λ x. f x ≡ g x) xs
      → first_place place f xs ≡ first_place place g xs
  first-same-in f g [] h = refl
  first-same-in f g (x ∷ more) h =
      ap₂ (λ (b : Bool) (v : Option ℕ). if b then Some (place x) else v) (h 0 x (omega arith))
      (first-same-in f g more (λ k d l. h (suc k) d (omega arith)))

  pub first-same : (f g : A → Bool) (xs : List A) → ((x : A) → f x ≡ g x)
      → first_place place f xs ≡ first_place place g xs
  first-same f g xs h = first-same-in f g xs (λ k d l. h (get_or xs k d))

  pub first-none : (f : A → Bool) (xs : List A) → ((x : A) → f x ≡ false) → None ≡ first_place place f xs
  first-none f [] h = refl
  first-none f (x ∷ more) h =
      first-none f more h ∙ ap (λ (b : Bool). if b then Some (place x) else first_place place f more) (sym (h x))

  -- one more
  more-some : (f : A → Bool) (xs : List A) (y : A) (k : ℕ) → first_place place f xs ≡ Some k
      → first_place place f (xs ++ y ∷ []) ≡ Some k
  more-some f [] y k e = absurd cc
  more-some f (x ∷ more) y k e = go (f x) e (more-some f more y k)
    where
      go : (b : Bool) → ◌≡◌ {A = Option ℕ} (if b then Some (place x) else first_place place f more) (Some k)
          → (first_place place f more ≡ Some k → first_place place f (more ++ y ∷ []) ≡ Some k)
          → ◌≡◌ {A = Option ℕ} (if b then Some (place x) else first_place place f (more ++ y ∷ [])) (Some k)
      go true d ih = d
      go false d ih = ih d

  more-none : (f : A → Bool) (xs : List A) (y : A) → first_place place f xs ≡ None → f y ≡ true
      → first_place place f (xs ++ y ∷ []) ≡ Some (place y)
  more-none f [] y e t = ap (λ (b : Bool). if_here b) t
    where
      if_here : Bool → Option ℕ
      if_here b = if b then Some (place y) else None
  more-none f (x ∷ more) y e t = go (f x) e (λ d. more-none f more y d t)
    where
      go : (b : Bool) → ◌≡◌ {A = Option ℕ} (if b then Some (place x) else first_place place f more) None
          → (first_place place f more ≡ None → first_place place f (more ++ y ∷ []) ≡ Some (place y))
          → ◌≡◌ {A = Option ℕ} (if b then Some (place x) else first_place place f (more ++ y ∷ [])) (Some (place y))
      go true d ih = absurd cc
      go false d ih = ih d

  more-fails : (f : A → Bool) (xs : List A) (y : A) → f y ≡ false
      → first_place place f xs ≡ first_place place f (xs ++ y ∷ [])
  more-fails f [] y t = ap (λ (b : Bool). if_here b) (sym t)
    where
      if_here : Bool → Option ℕ
      if_here b = if b then Some (place y) else None
  more-fails f (x ∷ more) y t =
      ap (λ (v : Option ℕ). if f x then Some (place x) else v) (more-fails f more y t)

-- ---- one more status
module _ (first : List (Option ℕ)) (met : List Met) (bits : List Bool) (status : List ℕ) (n at : ℕ)
    (long : length first ≡ 64) (e : telling_bits status ≡ bits) (q : n ≡ number bits)
    (h : (kind : ℕ) → kind < 64 → get_or first kind None ≡ first_met (λ s. eqb (kind_of s) kind) met) where
  x : Met
  x = record { place = at; status = status }

  is : kind_of status ≡ n
  unfolding kind_of
  is = ap number e ∙ sym q

  other : (kind : ℕ) → kind < 64 → (kind ≡ n → ⊥)
      → get_or first kind None ≡ first_met (λ s. eqb (kind_of s) kind) (met ++ x ∷ [])
  unfolding x
  other kind l o =
      h kind l ∙ more-fails (λ (y : Met). y.place) (λ (y : Met). eqb (kind_of y.status) kind) met x
      (ne_eqb (kind_of status) kind (λ s. o (sym s ∙ is)))

  same : (kind : ℕ) → kind ≡ n → eqb (kind_of status) kind ≡ true
  same kind s = eq-eqb (kind_of status) kind (is ∙ sym s)

  pub met-before : (k : ℕ) → get_or first n None ≡ Some k → (kind : ℕ) → kind < 64
      → get_or first kind None
      ≡ first_met (λ s. eqb (kind_of s) kind) (met ++ record { place = at; status = status } ∷ [])
  unfolding x
  met-before k f kind l = go (cases_eq kind n)
    where
      go : (kind ≡ n) ⊎ (kind ≡ n → ⊥)
          → get_or first kind None ≡ first_met (λ s. eqb (kind_of s) kind) (met ++ x ∷ [])
      go (inr o) = other kind l o
      go (inl s) =
          let g : get_or first kind None ≡ Some k = ap (λ i. get_or first i None) s ∙ f in
          g ∙ sym (more-some (λ (y : Met). y.place) (λ (y : Met). eqb (kind_of y.status) kind) met x k
          (sym (h kind l) ∙ g))

  pub met-now : get_or first n None ≡ None → (kind : ℕ) → kind < 64
      → get_or (set first n (Some at)) kind None
      ≡ first_met (λ s. eqb (kind_of s) kind) (met ++ record { place = at; status = status } ∷ [])
  unfolding x
  met-now f kind l = go (cases_eq kind n)
    where
      go : (kind ≡ n) ⊎ (kind ≡ n → ⊥)
          → get_or (set first n (Some at)) kind None ≡ first_met (λ s. eqb (kind_of s) kind) (met ++ x ∷ [])
      go (inr o) = get_or-set_other first n kind (Some at) None o ∙ other kind l o
      go (inl s) =
          let g : get_or first kind None ≡ None = ap (λ i. get_or first i None) s ∙ f in
          get_or-set_at first n kind (Some at) None s (omega arith)
          ∙ sym (more-none (λ (y : Met). y.place) (λ (y : Met). eqb (kind_of y.status) kind) met x
          (sym (h kind l) ∙ g) (same kind s))

-- ---- the kinds below a number
abbrev pub below : List Bool → ℕ → List ℕ → Bool
below kinds n status = nat_lt (kind_of status) n && get_or kinds (kind_of status) false

pub none-below : (kinds : List Bool) (met : List Met) → None ≡ first_met (below kinds 0) met
none-below kinds met =
    first-none (λ (x : Met). x.place) (λ (x : Met). below kinds 0 x.status) met
    (λ (x : Met). ap (λ b. b && get_or kinds (kind_of x.status) false) (le-ltb (kind_of x.status) 0 (omega arith)))

below-with : (kinds : List Bool) (n : ℕ) (status : List ℕ) → get_or kinds n false ≡ true
    → (below kinds n status || eqb (kind_of status) n) ≡ below kinds (n + 1) status
below-with kinds n status e = go (cases_lt k n) (cases_eq k n)
  where
    k : ℕ
    k = kind_of status

    go : (k < n) ⊎ (n ≤ k) → (k ≡ n) ⊎ (k ≡ n → ⊥)
        → ((nat_lt k n && get_or kinds k false) || eqb k n) ≡ (nat_lt k (n + 1) && get_or kinds k false)
    go (inl l) (inl s) = absurd (omega arith)
    go (inl l) (inr o) =
        rw (lt-ltb k n l) (rw (lt-ltb k (n + 1) (omega arith)) (rw (ne_eqb k n o) (or-none (get_or kinds k false))))
      where
        or-none : (b : Bool) → (b || false) ≡ b
        or-none true = refl
        or-none false = refl
    go (inr l) (inl s) =
        let g : get_or kinds k false ≡ true = ap (λ i. get_or kinds i false) s ∙ e in
        rw (le-ltb k n l) (rw (lt-ltb k (n + 1) (omega arith)) (eq-eqb k n s ∙ sym g))
    go (inr l) (inr o) = rw (le-ltb k n l) (rw (le-ltb k (n + 1) (let w : k ≢ n = o in omega arith)) (ne_eqb k n o))

below-without : (kinds : List Bool) (n : ℕ) (status : List ℕ) → get_or kinds n false ≡ false
    → below kinds n status ≡ below kinds (n + 1) status
below-without kinds n status e = go (cases_lt k n) (cases_eq k n)
  where
    k : ℕ
    k = kind_of status

    go : (k < n) ⊎ (n ≤ k) → (k ≡ n) ⊎ (k ≡ n → ⊥)
        → (nat_lt k n && get_or kinds k false) ≡ (nat_lt k (n + 1) && get_or kinds k false)
    go (inl l) s = rw (lt-ltb k n l) (rw (lt-ltb k (n + 1) (omega arith)) refl)
    go (inr l) (inl s) =
        let g : get_or kinds k false ≡ false = ap (λ i. get_or kinds i false) s ∙ e in
        rw (le-ltb k n l) (rw (lt-ltb k (n + 1) (omega arith)) (sym g))
    go (inr l) (inr o) = rw (le-ltb k n l) (rw (le-ltb k (n + 1) (let w : k ≢ n = o in omega arith)) refl)

pub first-with : (kinds : List Bool) (n : ℕ) (met : List Met) (a b : Option ℕ) → get_or kinds n false ≡ true
    → Rising (λ (x : Met). x.place) 0 met → a ≡ first_met (below kinds n) met
    → b ≡ first_met (λ status. eqb (kind_of status) n) met → earlier a b ≡ first_met (below kinds (n + 1)) met
first-with kinds n met a b e r p q =
    ap₂ earlier p q
    ∙ sym (first-either (λ (x : Met). x.place) (λ (x : Met). below kinds n x.status)
    (λ (x : Met). eqb (kind_of x.status) n) 0 met r)
    ∙ first-same (λ (x : Met). x.place) (λ (x : Met). below kinds n x.status || eqb (kind_of x.status) n)
    (λ (x : Met). below kinds (n + 1) x.status) met (λ (x : Met). below-with kinds n x.status e)

pub first-without : (kinds : List Bool) (n : ℕ) (met : List Met) (a : Option ℕ) → get_or kinds n false ≡ false
    → a ≡ first_met (below kinds n) met → a ≡ first_met (below kinds (n + 1)) met
first-without kinds n met a e p =
    p ∙ first-same (λ (x : Met). x.place) (λ (x : Met). below kinds n x.status)
    (λ (x : Met). below kinds (n + 1) x.status) met (λ (x : Met). below-without kinds n x.status e)

pub all-below : (kinds : List Bool) (met : List Met)
    → first_met (below kinds 64) met ≡ first_met (λ status. get_or kinds (kind_of status) false) met
all-below kinds met =
    first-same (λ (x : Met). x.place) (λ (x : Met). below kinds 64 x.status)
    (λ (x : Met). get_or kinds (kind_of x.status) false) met
    (λ (x : Met). ap (λ b. b && get_or kinds (kind_of x.status) false)
    (lt-ltb (kind_of x.status) 64 (kind-few x.status)))

-- ---- all kinds, and those that do not take all
pub of-all : (met : List Met)
    → first_met (λ status. get_or (replicate 64 true) (kind_of status) false) met ≡ first_met (λ _. true) met
of-all met =
    first-same (λ (x : Met). x.place) (λ (x : Met). get_or (replicate 64 true) (kind_of x.status) false)
    (λ (x : Met). true) met (λ (x : Met). get_or-replicate 64 (kind_of x.status) true false (kind-few x.status))

pub of-refusing : (settings : Settings) (kinds : List Bool) (met : List Met)
    → ((kind : ℕ) → kind < 64 → get_or kinds kind false ≡ not (takes_all settings (example_of kind)))
    → All (λ (x : Met). length x.status ≡ 24) met
    → first_met (λ status. get_or kinds (kind_of status) false) met
    ≡ first_met (λ status. not (takes_all settings status)) met
of-refusing settings kinds met h long =
    first-same-in (λ (x : Met). x.place) (λ (x : Met). get_or kinds (kind_of x.status) false)
    (λ (x : Met). not (takes_all settings x.status)) met (λ k d l. here (get_or met k d) (long k d l))
  where
    here : (x : Met) → length x.status ≡ 24
        → get_or kinds (kind_of x.status) false ≡ not (takes_all settings x.status)
    here x m =
        let kind = kind_of x.status in
        h kind (kind-few x.status)
        ∙ ap not (kind-takes-all settings (example_of kind) x.status (length-example kind) m
        (example-kind kind (kind-few x.status)))
