-- The last eight cells.
use Rattle.std.proofs.Common.{◌≡◌, ℕ, zero, suc, ◌+◌, ◌-◌, ◌*◌, ◌/◌, ◌%◌, ◌<◌, ◌≤◌, List, [], ◌∷◌, ◌++◌, refl, length}
use Rattle.std.proofs.Common.{drop, replicate, ap, ap₂, ◌∙◌, sym, arith, length-append, length-drop, drop-drop, drop_at}
use Rattle.std.proofs.Common.{get_or-drop, append_assoc}
use Rattle.std.proofs.lemmas.List.{drop-append-le}
use Rattle.aes3_level.specs.declared.level.Level.{Level}
use Rattle.aes3_level.specs.declared.level.Level.TheVariants.{Low, High}
use Rattle.aes3_level.specs.Words.{low_cells, bit_of, level_of}
use Rattle.aes3_slot.specs.Rules.{at, before}
use Rattle.aes3_lock.specs.Steps.{last_eight, eight_with}

-- y doubled n times
abbrev doubled : ℕ → ℕ → ℕ
doubled zero y = y
doubled (suc n) y = 2 * doubled n y

-- n cells with one more, behind them in the next bit
one-behind : (n x : ℕ) (l : Level) → x < doubled n 1
    → low_cells (suc n) (x + doubled n (bit_of l)) ≡ low_cells n x ++ l ∷ []
one-behind zero x Low h = ap (λ b. level_of b ∷ []) (let e : (x + 0) % 2 ≡ 0 = omega arith in e)
one-behind zero x High h = ap (λ b. level_of b ∷ []) (let e : (x + 1) % 2 ≡ 1 = omega arith in e)
one-behind (suc n) x l h =
    let y = doubled n (bit_of l) in
    let e : (x + 2 * y) % 2 ≡ x % 2 = omega arith in
    let f : (x + 2 * y) / 2 ≡ x / 2 + y = omega arith in
    ap₂ (λ b c. level_of b ∷ c) e (ap (low_cells (suc n)) f ∙ one-behind n (x / 2) l (omega arith))

-- a byte with one more cell
pub byte-with : (w : ℕ) (l : Level) → w < 256 → low_cells 8 (w / 2 + 128 * bit_of l) ≡ eight_with (low_cells 8 w) l
byte-with w Low h = one-behind 7 (w / 2) Low (omega arith)
byte-with w High h = one-behind 7 (w / 2) High (omega arith)

abbrev pad : List Level
pad = replicate 8 Low

pub length-last_eight : (c : List Level) → length (last_eight c) ≡ 8
unfolding last_eight
length-last_eight c = let p = length-drop (length c) (pad ++ c) in let a = length-append pad c in omega (arith, p, a)

-- with more cells behind
pub last_eight-more : (c d : List Level) → last_eight (c ++ d) ≡ drop (length d) (last_eight c ++ d)
unfolding last_eight
last_eight-more c d =
    let m = length-append pad c in
    ap₂ drop (length-append c d) (sym (append_assoc pad c d))
    ∙ sym (drop-drop (length d) (length c) ((pad ++ c) ++ d))
    ∙ ap (drop (length d)) (drop-append-le (length c) (pad ++ c) d (omega (arith, m)))

pub last_eight-with : (c : List Level) (l : Level) → last_eight (c ++ l ∷ []) ≡ eight_with (last_eight c) l
last_eight-with c l = let n = length-last_eight c in last_eight-more c (l ∷ [])
    ∙ drop-append-le 1 (last_eight c) (l ∷ []) (omega (arith, n))

pub last_eight-is : (c : List Level) → 8 ≤ length c → last_eight c ≡ drop (length c - 8) c
unfolding last_eight
last_eight-is c h =
    let n : length c ≡ 8 + (length c - 8) = omega arith in
    ap (λ n. drop n (pad ++ c)) n ∙ sym (drop-drop (length c - 8) 8 (pad ++ c))
    ∙ ap (drop (length c - 8)) (drop_at pad c 8 refl)

pub last_eight-nil : last_eight [] ≡ low_cells 8 0
unfolding last_eight
last_eight-nil = refl

last-cell : (c : List Level) → 1 ≤ length c → at (last_eight c) 7 ≡ at c (length c - 1)
unfolding last_eight
last-cell c h =
    let b = get_or-drop (length c) (pad ++ c) 7 Low in
    let n : length c + 7 ≡ 8 + (length c - 1) = omega arith in
    b ∙ ap (at (pad ++ c)) n ∙ sym (get_or-drop 8 (pad ++ c) (length c - 1) Low)
    ∙ ap (λ x. at x (length c - 1)) (drop_at pad c 8 refl)

pub before-at : (s : Level) (d : List Level) (n : ℕ) → 1 ≤ n → before s d n ≡ at d (n - 1)
before-at s d zero h = absurd (omega arith)
before-at s d (suc n) h = ap (at d) (let e : n ≡ suc n - 1 = omega arith in e)

-- the last cell of what is left from p on
pub last-before : (s : Level) (c : List Level) (p : ℕ) → p < length c
    → at (last_eight c) 7 ≡ before s (drop p c) (length (drop p c))
last-before s c p h =
    let l = length-drop p c in
    let n : length c - 1 ≡ p + (length (drop p c) - 1) = omega (arith, l, h) in
    last-cell c (omega arith) ∙ ap (at c) n ∙ sym (get_or-drop p c (length (drop p c) - 1) Low)
    ∙ sym (before-at s (drop p c) (length (drop p c)) (omega (arith, l, h)))

-- the last eight of 64 cells are those of all
pub last_eight-word : (c d : List Level) → length d ≡ 64 → last_eight (c ++ d) ≡ drop 56 d
last_eight-word c d h =
    let n = length-append c d in
    let e : length (c ++ d) - 8 ≡ length c + 56 = omega (arith, n, h) in
    last_eight-is (c ++ d) (omega (arith, n, h)) ∙ ap (λ k. drop k (c ++ d)) e ∙ sym (drop-drop 56 (length c) (c ++ d))
    ∙ ap (drop 56) (drop_at c d (length c) refl)
