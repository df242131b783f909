-- What is gathered from place to place, and from some places alone.
use Rattle.std.proofs.Common.{◌≡◌, ℕ, zero, suc, ◌+◌, ◌-◌, ◌*◌, ◌<◌, ◌≤◌, List, [], ◌∷◌, ◌++◌, refl, length, drop, ap}
use Rattle.std.proofs.Common.{ap₂, ◌∙◌, sym, arith, append_assoc, append-nil}

-- from the rest of a list at each place, the first of them at place p
abbrev pub collect : {A X : Type 0} → (ℕ → List X → List A) → ℕ → List X → List A
collect g p [] = []
collect g p (x ∷ c) = g p (x ∷ c) ++ collect g (suc p) c

-- from n places, and from n places that stand w apart
abbrev pub gather : {A : Type 0} → (ℕ → List A) → ℕ → ℕ → List A
gather f p zero = []
gather f p (suc n) = f p ++ gather f (suc p) n

abbrev pub spaced : {A : Type 0} → (ℕ → List A) → ℕ → ℕ → ℕ → List A
spaced f w p zero = []
spaced f w p (suc n) = f p ++ spaced f w (p + w) n

pub collect-gather : {A X : Type 0} (g : ℕ → List X → List A) (f : ℕ → List A) (p o : ℕ) (c : List X)
    → ((q : ℕ) → q < length c → g (p + q) (drop q c) ≡ f (o + q)) → collect g p c ≡ gather f o (length c)
collect-gather g f p o [] h = refl
collect-gather g f p o (x ∷ c) h =
    let a : p + 0 ≡ p = omega arith in
    let b : o + 0 ≡ o = omega arith in
    ap₂ (λ u v. u ++ v) (ap (λ k. g k (x ∷ c)) (sym a) ∙ h 0 (omega arith) ∙ ap f b)
    (collect-gather g f (suc p) (suc o) c (λ q l.
    let d : suc p + q ≡ p + suc q = omega arith in
    let e : o + suc q ≡ suc o + q = omega arith in
    ap (λ k. g k (drop q c)) d ∙ h (suc q) (omega arith) ∙ ap f e))

pub gather-none : {A : Type 0} (f : ℕ → List A) (p n : ℕ) → ((q : ℕ) → q < n → f (p + q) ≡ []) → gather f p n ≡ []
gather-none f p zero h = refl
gather-none f p (suc n) h =
    let a : p ≡ p + 0 = omega arith in
    ap₂ (λ u v. u ++ v) (ap f a ∙ h 0 (omega arith))
    (gather-none f (suc p) n (λ q l. let e : suc p + q ≡ p + suc q = omega arith in ap f e ∙ h (suc q) (omega arith)))

pub gather-add : {A : Type 0} (f : ℕ → List A) (p m n : ℕ) → gather f p (m + n) ≡ gather f p m ++ gather f (p + m) n
gather-add f p zero n =
    let a : 0 + n ≡ n = omega arith in
    let b : p ≡ p + 0 = omega arith in
    ap (gather f p) a ∙ ap (λ k. gather f k n) b
gather-add f p (suc m) n =
    let a : suc m + n ≡ suc (m + n) = omega arith in
    let b : suc p + m ≡ p + suc m = omega arith in
    ap (gather f p) a ∙ ap (λ z. f p ++ z) (gather-add f (suc p) m n ∙ ap (λ k. gather f (suc p) m ++ gather f k n) b)
    ∙ sym (append_assoc (f p) (gather f (suc p) m) (gather f (p + suc m) n))

-- places before and behind that give nothing
pub gather-within : {A : Type 0} (f : ℕ → List A) (i j n : ℕ) → i ≤ j → j ≤ n → ((q : ℕ) → q < i → f q ≡ [])
    → ((q : ℕ) → j ≤ q → f q ≡ [])
    → gather f 0 n ≡ gather f i (j - i)
gather-within f i j n h g low high =
    let a : n ≡ i + ((j - i) + (n - j)) = omega arith in
    let b : 0 + i ≡ i = omega arith in
    ap (gather f 0) a ∙ gather-add f 0 i ((j - i) + (n - j))
    ∙ ap₂ (λ u v. u ++ v) (gather-none f 0 i (λ q l. let e : 0 + q ≡ q = omega arith in ap f e ∙ low q l))
    (ap (λ k. gather f k ((j - i) + (n - j))) b ∙ gather-add f i (j - i) (n - j)
    ∙ ap (λ z. gather f i (j - i) ++ z)
    (gather-none f (i + (j - i)) (n - j) (λ q l. high (i + (j - i) + q) (omega arith)))
    ∙ append-nil (gather f i (j - i)))

-- between places w apart nothing is given
abbrev pub Sparse : {A : Type 0} → (ℕ → List A) → ℕ → ℕ → ℕ → Type 0
Sparse f w p zero = Unit {0}
Sparse f w p (suc n) = ((r : ℕ) → 0 < r → r < w → f (p + r) ≡ []) × Sparse f w (p + w) n

pub gather-spaced : {A : Type 0} (f : ℕ → List A) (w p n : ℕ) → 0 < w → Sparse f w p n
    → gather f p (n * w) ≡ spaced f w p n
gather-spaced f w p zero h s = let e : 0 * w ≡ 0 = omega arith in ap (gather f p) e
gather-spaced f w p (suc n) h s =
    let a : suc n * w ≡ w + n * w = omega arith in
    let b : w + n * w ≡ suc ((w - 1) + n * w) = omega arith in
    let d : suc p + (w - 1) ≡ p + w = omega arith in
    ap (gather f p) (a ∙ b)
    ∙ ap (λ z. f p ++ z)
    (gather-add f (suc p) (w - 1) (n * w)
    ∙ ap₂ (λ u v. u ++ v)
    (gather-none f (suc p) (w - 1)
    (λ q l. let e : suc p + q ≡ p + suc q = omega arith in ap f e ∙ s.0 (suc q) (omega arith) (omega arith)))
    (ap (λ k. gather f k (n * w)) d ∙ gather-spaced f w (p + w) n h s.1))
