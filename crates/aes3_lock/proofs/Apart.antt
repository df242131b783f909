-- At how many places cells differ.
use Rattle.std.proofs.Common.{◌≡◌, ℕ, zero, suc, ◌+◌, ◌-◌, ◌*◌, ◌<◌, ◌≤◌, ◌⊎◌, inl, inr, List, [], ◌∷◌, Bool, true}
use Rattle.std.proofs.Common.{false, cond, refl, length, take, drop, ap, ap₂, ◌∙◌, sym, arith, drop-drop}
use Rattle.std.proofs.lemmas.Bool.{cases_lt}
use Rattle.aes3_level.specs.declared.level.Level.{Level}
use Rattle.aes3_level.specs.declared.level.Level.TheVariants.{Low, High}
use Rattle.aes3_level.specs.Cells.{other}
use Rattle.aes3_slot.specs.Rules.{at}
use Rattle.aes3_slot.specs.Reading.{differs}
use Rattle.aes3_lock.specs.Damage.{changed, apart}

pub differs-true : (x y : Level) → (x ≡ y → ⊥) → differs x y ≡ true
differs-true Low Low h = absurd (h refl)
differs-true Low High h = refl
differs-true High Low h = refl
differs-true High High h = absurd (h refl)

pub differs-false : (x y : Level) → x ≡ y → differs x y ≡ false
differs-false Low Low h = refl
differs-false Low High h = cc
differs-false High Low h = cc
differs-false High High h = refl

pub unlike : (x y : Level) → differs x y ≡ true → x ≡ y → ⊥
unlike x y t e = let q : true ≡ false = sym t ∙ differs-false x y e in cc

pub like : (x y : Level) → differs x y ≡ false → x ≡ y
like Low Low q = refl
like Low High q = absurd (let r : true ≡ false = q in cc)
like High Low q = absurd (let r : true ≡ false = q in cc)
like High High q = refl

-- what isn't a level is the other one
pub other-of : (x y : Level) → (x ≡ y → ⊥) → other x ≡ y
other-of Low Low h = absurd (h refl)
other-of Low High h = refl
other-of High Low h = refl
other-of High High h = absurd (h refl)

differs-self : (x : Level) → differs x x ≡ false
differs-self Low = refl
differs-self High = refl

-- one more cell at the front
apart-more : (x y : Level) (c d : List Level) → apart c d ≤ apart (x ∷ c) (y ∷ d)
apart-more x y c d = go (differs x y)
  where
    go : (b : Bool) → apart c d ≤ cond b (suc (apart c d)) (apart c d)
    go true = omega arith
    go false = omega arith

apart-less : (x y : Level) (c d : List Level) → apart (x ∷ c) (y ∷ d) ≤ suc (apart c d)
apart-less x y c d = go (differs x y)
  where
    go : (b : Bool) → cond b (suc (apart c d)) (apart c d) ≤ suc (apart c d)
    go true = omega arith
    go false = omega arith

rising-from : (n : ℕ) (f : ℕ → ℕ) → ((x : ℕ) → suc x < n → f x < f (suc x)) → (x : ℕ) → x < n → f 0 ≤ f x
rising-from n f h zero l = omega arith
rising-from n f h (suc x) l =
    let a = rising-from n f h x (omega arith) in
    let b = h x l in
    omega arith

-- n places, counted in the rest of the lists
abbrev Counts : ℕ → List Level → List Level → Type 0
Counts n c d =
    (g : ℕ → ℕ) → ((x : ℕ) → suc x < n → g x < g (suc x)) → ((x : ℕ) → x < n → g x < length c)
    → ((x : ℕ) → x < n → at c (g x) ≡ at d (g x) → ⊥)
    → n ≤ apart c d

count-step : (n : ℕ) (f : ℕ → ℕ) (x y : Level) (c d : List Level) → ((z : ℕ) → suc z < suc n → f z < f (suc z))
    → ((z : ℕ) → z < suc n → f z < suc (length c)) → ((z : ℕ) → z < suc n → at (x ∷ c) (f z) ≡ at (y ∷ d) (f z) → ⊥)
    → Counts n c d → Counts (suc n) c d → (f 0 < 1) ⊎ (1 ≤ f 0) → suc n ≤ apart (x ∷ c) (y ∷ d)
count-step n f x y c d r w h one all (inl z) =
    let e : f 0 ≡ 0 = omega arith in
    let t = differs-true x y (λ q. h 0 (omega arith) (ap (at (x ∷ c)) e ∙ q ∙ ap (at (y ∷ d)) (sym e))) in
    let more = one (λ v. f (suc v) - 1)
    (λ v o. let a = r (suc v) (omega arith) in let b = above v (omega arith) in omega arith)
    (λ v o. let a = w (suc v) (omega arith) in let b = above v o in omega arith)
    (λ v o q. let b = above v o in let e : f (suc v) ≡ suc (f (suc v) - 1) = omega arith in
    h (suc v) (omega arith) (ap (at (x ∷ c)) e ∙ q ∙ ap (at (y ∷ d)) (sym e))) in
    rw t (omega arith)
  where
    above : (v : ℕ) → v < n → 1 ≤ f (suc v)
    above v o = let a = r v (omega arith) in omega arith
count-step n f x y c d r w h one all (inr z) =
    let more = all (λ v. f v - 1)
    (λ v o. let a = r v o in let b = above v (omega arith) in omega arith)
    (λ v o. let a = w v o in let b = above v o in omega arith)
    (λ v o q. let b = above v o in let e : f v ≡ suc (f v - 1) = omega arith in
    h v o (ap (at (x ∷ c)) e ∙ q ∙ ap (at (y ∷ d)) (sym e))) in
    let m = apart-more x y c d in
    omega arith
  where
    above : (v : ℕ) → v < suc n → 1 ≤ f v
    above v o = let a = rising-from (suc n) f r v o in omega arith

-- where they differ at n places, one behind the other, they differ at n places or more
pub count-apart : (n : ℕ) (f : ℕ → ℕ) (c d : List Level) → length c ≡ length d → ((x : ℕ) → suc x < n → f x < f (suc x))
    → ((x : ℕ) → x < n → f x < length c) → ((x : ℕ) → x < n → at c (f x) ≡ at d (f x) → ⊥) → n ≤ apart c d
count-apart zero f c d l r w h = omega arith
count-apart (suc n) f [] [] l r w h = absurd (let a = w 0 (omega arith) in omega arith)
count-apart (suc n) f [] (y ∷ d) l r w h = absurd (omega arith)
count-apart (suc n) f (x ∷ c) [] l r w h = absurd (omega arith)
count-apart (suc n) f (x ∷ c) (y ∷ d) l r w h =
    count-step n f x y c d r w h (λ g. count-apart n g c d (omega arith)) (λ g. count-apart (suc n) g c d (omega arith))
    (cases_lt (f 0) 1)

apart-nil : (c : List Level) → apart c [] ≡ 0
apart-nil [] = refl
apart-nil (x ∷ c) = refl

-- places of one part and of the rest
pub apart-split : (n : ℕ) (c d : List Level) → apart c d ≡ apart (take n c) (take n d) + apart (drop n c) (drop n d)
apart-split zero c d = omega arith
apart-split (suc n) [] d = refl
apart-split (suc n) (x ∷ c) [] = let a = apart-nil (drop n c) in omega arith
apart-split (suc n) (x ∷ c) (y ∷ d) = go (differs x y) (apart-split n c d)
  where
    go : (b : Bool) → apart c d ≡ apart (take n c) (take n d) + apart (drop n c) (drop n d)
        → cond b (suc (apart c d)) (apart c d) ≡ cond b (suc (apart (take n c) (take n d)))
        (apart (take n c) (take n d)) + apart (drop n c) (drop n d)
    go true a = omega arith
    go false a = a

-- n parts of 64 cells, at m places each
pub count-parts : (m n : ℕ) (c d : List Level)
    → ((j : ℕ) → j < n → m ≤ apart (take 64 (drop (64 * j) c)) (take 64 (drop (64 * j) d)))
    → m * n ≤ apart c d
count-parts m zero c d h = omega arith
count-parts m (suc n) c d h =
    let a = h 0 (omega arith) in
    let b = count-parts m n (drop 64 c) (drop 64 d) (λ j l.
    let e : 64 + 64 * j ≡ 64 * suc j = omega arith in
    let f : (x : List Level) → drop (64 * j) (drop 64 x) ≡ drop (64 * suc j) x =
    λ x. drop-drop (64 * j) 64 x ∙ ap (λ k. drop k x) e in
    rw (f c, f d) (h (suc j) (omega arith))) in
    let g = apart-split 64 c d in
    let k : m * suc n ≡ m + m * n = omega arith in
    omega arith

-- parts of them differ at no more places
pub apart-take : (n : ℕ) (c d : List Level) → apart (take n c) (take n d) ≤ apart c d
apart-take zero c d = omega arith
apart-take (suc n) [] d = omega arith
apart-take (suc n) (x ∷ c) [] = omega arith
apart-take (suc n) (x ∷ c) (y ∷ d) = go (differs x y) (apart-take n c d)
  where
    go : (b : Bool) → apart (take n c) (take n d) ≤ apart c d
        → cond b (suc (apart (take n c) (take n d))) (apart (take n c) (take n d)) ≤ cond b
        (suc (apart c d)) (apart c d)
    go true a = omega arith
    go false a = omega arith

pub apart-drop : (n : ℕ) (c d : List Level) → apart (drop n c) (drop n d) ≤ apart c d
apart-drop zero c d = omega arith
apart-drop (suc n) [] d = omega arith
apart-drop (suc n) (x ∷ c) [] = let a = apart-nil (drop n c) in omega arith
apart-drop (suc n) (x ∷ c) (y ∷ d) = let a = apart-drop n c d in let b = apart-more x y c d in omega arith

pub apart-self : (c : List Level) → apart c c ≡ 0
apart-self [] = refl
apart-self (x ∷ c) = let t = differs-self x in rw t (apart-self c)

-- a changed cell is one place
pub apart-changed : (k : ℕ) (c : List Level) → apart c (changed k c) ≤ 1
apart-changed k [] = omega arith
apart-changed zero (x ∷ c) = let a = apart-less x (other x) c c in let b = apart-self c in omega arith
apart-changed (suc k) (x ∷ c) = let t = differs-self x in rw t (apart-changed k c)

differs-third : (x y z : Level) → differs x z ≡ true → differs x y ≡ false → differs y z ≡ true
differs-third Low Low z h g = h
differs-third Low High z h g = absurd (let q : true ≡ false = g in cc)
differs-third High Low z h g = absurd (let q : true ≡ false = g in cc)
differs-third High High z h g = h

pub apart-third : (c d e : List Level) → length c ≡ length d → apart c e ≤ apart c d + apart d e
apart-third [] d e l = omega arith
apart-third (x ∷ c) [] e l = absurd (omega arith)
apart-third (x ∷ c) (y ∷ d) [] l = omega arith
apart-third (x ∷ c) (y ∷ d) (z ∷ e) l = go (apart-third c d e (omega arith)) (differs x z) refl (differs x y) refl
    (differs y z) refl
  where
    less : (b : Bool) (n : ℕ) → n ≤ cond b (suc n) n
    less true n = omega arith
    less false n = omega arith

    go : apart c e ≤ apart c d + apart d e → (a : Bool) → differs x z ≡ a → (b : Bool) → differs x y ≡ b → (f : Bool)
        → differs y z ≡ f
        → cond a (suc (apart c e)) (apart c e) ≤ cond b (suc (apart c d)) (apart c d) + cond f
        (suc (apart d e)) (apart d e)
    go h false p b q f r = let m = less b (apart c d) in let n = less f (apart d e) in omega arith
    go h true p true q f r = let n = less f (apart d e) in omega arith
    go h true p false q true r = omega arith
    go h true p false q false r = absurd (let t : true ≡ false = sym (differs-third x y z p q) ∙ r in cc)

-- lists that differ at no place are equal
pub apart-none : (c d : List Level) → length c ≡ length d → apart c d ≡ 0 → c ≡ d
apart-none [] [] l h = refl
apart-none [] (y ∷ d) l h = absurd (omega arith)
apart-none (x ∷ c) [] l h = absurd (omega arith)
apart-none (x ∷ c) (y ∷ d) l h = go (differs x y) refl h (apart-none c d (omega arith))
  where
    go : (b : Bool) → differs x y ≡ b → cond b (suc (apart c d)) (apart c d) ≡ 0 → (apart c d ≡ 0 → c ≡ d)
        → x ∷ c ≡ y ∷ d
    go true p z more = absurd (omega arith)
    go false p z more = ap₂ (λ x c. x ∷ c) (like x y p) (more z)

-- the cells of a list of which one is changed
pub length-changed : (k : ℕ) (c : List Level) → length (changed k c) ≡ length c
length-changed k [] = refl
length-changed zero (x ∷ c) = refl
length-changed (suc k) (x ∷ c) = ap suc (length-changed k c)

pub at-changed : (k : ℕ) (c : List Level) → k < length c → at (changed k c) k ≡ other (at c k)
at-changed k [] h = absurd (omega arith)
at-changed zero (x ∷ c) h = refl
at-changed (suc k) (x ∷ c) h = at-changed k c (omega arith)

pub at-others : (k : ℕ) (c : List Level) (x : ℕ) → (x ≡ k → ⊥) → at (changed k c) x ≡ at c x
at-others k [] x h = refl
at-others zero (y ∷ c) zero h = absurd (h refl)
at-others zero (y ∷ c) (suc x) h = refl
at-others (suc k) (y ∷ c) zero h = refl
at-others (suc k) (y ∷ c) (suc x) h = at-others k c x (λ e. h (ap suc e))

-- where two lists differ at a place, they differ at one place less behind a change there
pub apart-mended : (k : ℕ) (c d : List Level) → k < length c → length c ≡ length d → (at c k ≡ at d k → ⊥)
    → suc (apart (changed k c) d) ≡ apart c d
apart-mended k [] d h l n = absurd (omega arith)
apart-mended k (x ∷ c) [] h l n = absurd (omega arith)
apart-mended zero (x ∷ c) (y ∷ d) h l n =
    let a = differs-true x y n in
    let b = differs-false (other x) y (other-of x y n) in
    rw (a, b) refl
apart-mended (suc k) (x ∷ c) (y ∷ d) h l n = go (differs x y) (apart-mended k c d (omega arith) (omega arith) n)
  where
    go : (b : Bool) → suc (apart (changed k c) d) ≡ apart c d
        → suc (cond b (suc (apart (changed k c) d)) (apart (changed k c) d)) ≡ cond b (suc (apart c d)) (apart c d)
    go true e = ap suc e
    go false e = e
