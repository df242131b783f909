-- The places at which two lists of cells differ, and what these leave of a block.
use Rattle.std.proofs.Common.{◌≡◌, ◌≢◌, ℕ, zero, suc, ◌+◌, ◌<◌, ◌≤◌, ◌⊎◌, inl, inr, List, [], ◌∷◌, Bool, true, false}
use Rattle.std.proofs.Common.{◌&&◌, ◌==◌, cond, refl, length, ap, ap₂, ◌∙◌, sym, arith, eq-eqb}
use Rattle.std.proofs.lemmas.Bool.{cases_eq, cases_Bool, and_parts, eqb-true}
use Rattle.aes3_level.specs.declared.level.Level.{Level}
use Rattle.aes3_slot.specs.Reading.{differs}
use Rattle.aes3_slot.specs.Rules.{at}
use Rattle.aes3_lock.specs.Damage.{apart, between_slots, exchanged, places_apart}
use Rattle.aes3_lock.specs.Remains.{left_of}
use Rattle.aes3_lock.proofs.Apart.{differs-true, differs-false, unlike}
use Rattle.aes3_lock.proofs.Exchanged.{Between, between-true, true-between}

-- a member of a list of places
abbrev pub Has : ℕ → List ℕ → Type 0
Has z [] = ⊥
Has z (x ∷ xs) = (z ≡ x) ⊎ Has z xs

-- a place at which cells differ is among them, and each of them is such a place
pub places-has : (n z : ℕ) (c d : List Level) → z < length c → length c ≡ length d → (at c z ≡ at d z → ⊥)
    → Has (n + z) (places_apart n c d)
places-has n z [] d h l o = absurd (omega arith)
places-has n z (x ∷ c) [] h l o = absurd (omega arith)
places-has n zero (x ∷ c) (y ∷ d) h l o = let a = differs-true x y o in let e : n + 0 ≡ n = omega arith in rw a (inl e)
places-has n (suc z) (x ∷ c) (y ∷ d) h l o = go (differs x y) (places-has (suc n) z c d (omega arith) (omega arith) o)
  where
    go : (b : Bool) → Has (suc n + z) (places_apart (suc n) c d)
        → Has (n + suc z) (cond b (n ∷ places_apart (suc n) c d) (places_apart (suc n) c d))
    go true m = let e : suc n + z ≡ n + suc z = omega arith in inr (rw e at m)
    go false m = let e : suc n + z ≡ n + suc z = omega arith in rw e at m

pub has-places : (n m : ℕ) (c d : List Level) → Has m (places_apart n c d) → (z : ℕ) × (m ≡ n + z) × (z < length c)
    × (at c z ≢ at d z)
has-places n m [] d h = absurd h
has-places n m (x ∷ c) [] h = absurd h
has-places n m (x ∷ c) (y ∷ d) h = go (differs x y) refl h (λ k. has-places (suc n) m c d k)
  where
    later : ((z : ℕ) × (m ≡ suc n + z) × (z < length c) × (at c z ≢ at d z)) → (z : ℕ) × (m ≡ n + z)
        × (z < suc (length c)) × (at (x ∷ c) z ≢ at (y ∷ d) z)
    later (z, e, l, o) = (suc z, omega arith, omega arith, o)

    go : (b : Bool) → differs x y ≡ b → Has m (cond b (n ∷ places_apart (suc n) c d) (places_apart (suc n) c d))
        → (Has m (places_apart (suc n) c d) → (z : ℕ) × (m ≡ suc n + z) × (z < length c) × (at c z ≢ at d z))
        → (z : ℕ) × (m ≡ n + z) × (z < suc (length c)) × (at (x ∷ c) z ≢ at (y ∷ d) z)
    go true t (inl e) more = (0, omega arith, omega arith, unlike x y t)
    go true t (inr k) more = later (more k)
    go false t k more = later (more k)

-- no place, and a pair of places
pub places-none : (n : ℕ) (c d : List Level) → length c ≡ length d → ((z : ℕ) → z < length c → at c z ≡ at d z)
    → places_apart n c d ≡ []
places-none n [] d l h = refl
places-none n (x ∷ c) [] l h = refl
places-none n (x ∷ c) (y ∷ d) l h =
    let a = differs-false x y (h 0 (omega arith)) in
    rw a (places-none (suc n) c d (omega arith) (λ z o. h (suc z) (omega arith)))

pub places-one : (n x : ℕ) (c d : List Level) → length c ≡ length d → x < length c → (at c x ≡ at d x → ⊥)
    → ((z : ℕ) → z < length c → (z ≡ x → ⊥) → at c z ≡ at d z) → places_apart n c d ≡ (n + x) ∷ []
places-one n x [] d l h u o = absurd (omega arith)
places-one n x (y ∷ c) [] l h u o = absurd (omega arith)
places-one n zero (y ∷ c) (w ∷ d) l h u o =
    let p = differs-true y w u in
    let e : n + 0 ≡ n = omega arith in
    let r = places-none (suc n) c d (omega arith) (λ z k. o (suc z) (omega arith) (λ f. omega arith)) in
    rw (p, e, r) refl
places-one n (suc x) (y ∷ c) (w ∷ d) l h u o =
    let p = differs-false y w (o 0 (omega arith) (λ f. omega arith)) in
    let e : suc n + x ≡ n + suc x = omega arith in
    rw p (places-one (suc n) x c d (omega arith) (omega arith) u
    (λ z k f. o (suc z) (omega arith) (λ m. f (omega arith))) ∙ ap (λ m. m ∷ []) e)

pub places-two : (n x y : ℕ) (c d : List Level) → length c ≡ length d → x < y → y < length c → (at c x ≡ at d x → ⊥)
    → (at c y ≡ at d y → ⊥)
    → ((z : ℕ) → z < length c → (z ≡ x → ⊥) → (z ≡ y → ⊥) → at c z ≡ at d z)
    → places_apart n c d ≡ (n + x) ∷ (n + y) ∷ []
places-two n x zero c d l b h u v o = absurd (omega arith)
places-two n x (suc y) [] d l b h u v o = absurd (omega arith)
places-two n x (suc y) (a ∷ c) [] l b h u v o = absurd (omega arith)
places-two n zero (suc y) (a ∷ c) (w ∷ d) l b h u v o =
    let p = differs-true a w u in
    let e : n + 0 ≡ n = omega arith in
    let f : suc n + y ≡ n + suc y = omega arith in
    let r = places-one (suc n) y c d (omega arith) (omega arith) v
    (λ z k g. o (suc z) (omega arith) (λ m. omega arith) (λ m. g (omega arith))) in
    rw (p, e) (ap (λ m. n ∷ m) r ∙ ap (λ m. n ∷ m ∷ []) f)
places-two n (suc x) (suc y) (a ∷ c) (w ∷ d) l b h u v o =
    let p = differs-false a w (o 0 (omega arith) (λ f. omega arith) (λ f. omega arith)) in
    let e : suc n + x ≡ n + suc x = omega arith in
    let f : suc n + y ≡ n + suc y = omega arith in
    rw p (places-two (suc n) x y c d (omega arith) (omega arith) (omega arith) u v
    (λ z k f g. o (suc z) (omega arith) (λ m. f (omega arith)) (λ m. g (omega arith)))
    ∙ ap₂ (λ m n. m ∷ n ∷ []) e f)

-- the list is that of a pair between two slots, or what is left of the block is nothing
pub record IsPair (xs : List ℕ) : Type 0 where
  pub cell : ℕ
  pub is : xs ≡ cell ∷ suc cell ∷ []
  pub between : Between cell

pub pair-left : (xs : List ℕ) (b : List (List Bool)) (r : IsPair xs) → left_of xs b ≡ exchanged r.cell b ∷ []
pair-left xs b r =
    let t = between-true r.cell r.between in
    let e = eq-eqb (suc r.cell) (suc r.cell) refl in
    ap (λ xs. left_of xs b) r.is ∙ (rw (e, t) refl)

pub none-left : (xs : List ℕ) (b : List (List Bool)) → (xs ≡ [] → ⊥) → (IsPair xs → ⊥) → length xs ≤ 3
    → left_of xs b ≡ []
none-left [] b n o l = absurd (n refl)
none-left (x ∷ []) b n o l = refl
none-left (x ∷ y ∷ []) b n o l = go (cases_Bool (y == suc x && between_slots x))
  where
    go : ((y == suc x && between_slots x) ≡ true) ⊎ ((y == suc x && between_slots x) ≡ false)
        → cond (y == suc x && between_slots x) (exchanged x b ∷ []) [] ≡ []
    go (inl t) =
        let a = and_parts (y == suc x) (between_slots x) t in
        absurd (o (record {
          cell = x;
          is = ap (λ z. x ∷ z ∷ []) (eqb-true y (suc x) a.0);
          between = true-between x a.1;
        }))
    go (inr t) = rw t refl
none-left (x ∷ y ∷ z ∷ []) b n o l = either (y == suc x && between_slots x)
  where
    either : (t : Bool) → cond {A = List (List (List Bool))} t [] [] ≡ []
    either true = refl
    either false = refl
none-left (x ∷ y ∷ z ∷ w ∷ more) b n o l = absurd (omega arith)

pub pair-or : (xs : List ℕ) → ((xs ≡ []) ⊎ (xs ≡ [] → ⊥)) × (IsPair xs ⊎ (IsPair xs → ⊥))
pair-or [] = (inl refl, inr (λ r. let q = r.is in cc))
pair-or (x ∷ []) = (inr (λ e. cc), inr (λ r. let q = r.is in cc))
pair-or (x ∷ y ∷ []) = (inr (λ e. cc), go (cases_eq y (suc x)) (cases_Bool (between_slots x)))
  where
    go : (y ≡ suc x) ⊎ (y ≡ suc x → ⊥) → (between_slots x ≡ true) ⊎ (between_slots x ≡ false) → IsPair (x ∷ y ∷ [])
        ⊎ (IsPair (x ∷ y ∷ []) → ⊥)
    go (inl e) (inl t) = inl (record { cell = x; is = ap (λ z. x ∷ z ∷ []) e; between = true-between x t })
    go (inl e) (inr t) = inr (λ r.
        let q = r.is in
        let a : x ≡ r.cell = cc in
        let k : true ≡ false = sym (between-true r.cell r.between) ∙ ap between_slots (sym a) ∙ t in
        cc)
    go (inr n) t = inr (λ r.
        let q = r.is in
        let a : x ≡ r.cell = cc in
        let k : y ≡ suc r.cell = cc in
        n (k ∙ ap suc (sym a)))
pair-or (x ∷ y ∷ z ∷ more) = (inr (λ e. cc), inr (λ r. let q = r.is in cc))

-- as many as the lists differ at
pub length-places : (n : ℕ) (c d : List Level) → length (places_apart n c d) ≡ apart c d
length-places n [] d = refl
length-places n (x ∷ c) [] = refl
length-places n (x ∷ c) (y ∷ d) = go (differs x y) (length-places (suc n) c d)
  where
    go : (b : Bool) → length (places_apart (suc n) c d) ≡ apart c d
        → length (cond b (n ∷ places_apart (suc n) c d) (places_apart (suc n) c d)) ≡ cond b
        (suc (apart c d)) (apart c d)
    go true e = ap suc e
    go false e = e
