-- The bits of a word that cells are put into.
use Rattle.std.proofs.Common.{◌≡◌, ℕ, zero, suc, ◌+◌, ◌-◌, ◌*◌, ◌/◌, ◌%◌, ◌^◌, ◌<◌, ◌≤◌, List, [], ◌∷◌, ◌++◌, length}
use Rattle.std.proofs.Common.{map, take, set, replicate, refl, sym, ap, ap₂, ◌∙◌, arith, append_assoc, length-append}
use Rattle.std.specs.Prelude.{bit_or}
use Rattle.std.specs.Int.{bit_at}
use Rattle.std.specs.Int.Bits.{or_shifted_r}
use Rattle.std.proofs.lemmas.List.{take_at, take_more_set, take-append-le, length-map, map-append}
use Rattle.std.proofs.lemmas.Nat.{one_shl, pow-add, pow_pos}
use Rattle.std.proofs.lemmas.Nat.Bits.{bit_at_cat_low}
use Rattle.std.proofs.Math.Nat.{pow-succ', div-eq_of_lt, mul-div_right, mul-mod_left}
use Rattle.std.proofs.Math.Arith.{mod-mul}
use Rattle.aes3_level.specs.declared.level.Level.{Level}
use Rattle.aes3_level.specs.declared.level.Level.TheVariants.{Low, High}
use Rattle.aes3_level.specs.Words.{low_cells, word_cells, word_len}
use Rattle.aes3_cell.specs.Text.{byte_of, line_text}
use Rattle.aes3_cell.specs.Packed.{first_octets, octets_needed, octets_of, packed_of}
use Rattle.aes3_level.proofs.WordCells.{length-low_cells, length-word_cells, low_cells-add, low_cells-same}
use Rattle.aes3_cell.proofs.PackedCells.{first_octets-fill, take-first_octets, length-first_octets}
use Rattle.aes3_level.proofs.WordCells.{word_len_64}
use Rattle.aes3_level.specs.Cells.{line}

pub low_cells-none : (n : ℕ) → low_cells n 0 ≡ replicate n Low
low_cells-none zero = refl
low_cells-none (suc n) = ap (λ c. Low ∷ c) (low_cells-none n)

low_cells-ones : (n : ℕ) → low_cells n (2 ^ n - 1) ≡ replicate n High
low_cells-ones zero = refl
low_cells-ones (suc n) =
    let p = pow-succ' 2 n in
    let h = pow_pos n in
    let bit : (2 ^ suc n - 1) % 2 ≡ 1 = omega (arith, p, h) in
    let half : (2 ^ suc n - 1) / 2 ≡ 2 ^ n - 1 = omega (arith, p, h) in
    rw (bit, half) (ap (λ c. High ∷ c) (low_cells-ones n))

pub high-bits : (n : ℕ) → n < 64 → low_cells n (1 * 2 ^ n % 2 ^ 64 - 1) ≡ replicate n High
high-bits n h = ap (λ v. low_cells n (v - 1)) (one_shl n 64 h) ∙ low_cells-ones n

-- what stands behind the lowest bits of a word
pub behind-all : (n w : ℕ) → w < 2 ^ n → w / 2 ^ n ≡ 0
behind-all n w h = div-eq_of_lt h

pub low_cells-low-bits : (n w : ℕ) → low_cells n (w % 2 ^ n) ≡ low_cells n w
low_cells-low-bits n w =
    low_cells-same n (w % 2 ^ n) w
    (λ i h. sym (bit_at_cat_low (w / 2 ^ n) n (w % 2 ^ n) i h) ∙ ap (λ v. bit_at v i) (parts (2 ^ n) w))
  where
    parts : (d w : ℕ) → w / d * d + w % d ≡ w
    parts d w = grind arith

-- bits put behind the lowest
pub joined : (w bits n : ℕ) → n < 64 → w < 2 ^ n → bit_or w (bits * 2 ^ n % 2 ^ 64) ≡ bits % 2 ^ (64 - n) * 2 ^ n + w
joined w bits n h few =
    let all : 2 ^ 64 ≡ 2 ^ (64 - n) * 2 ^ n
    = ap (λ k. 2 ^ k) (let e : 64 ≡ 64 - n + n = omega arith in e) ∙ pow-add 2 (64 - n) n in
    ap (λ v. bit_or w v) (ap (λ d. bits * 2 ^ n % d) all
    ∙ moved bits (2 ^ (64 - n)) (2 ^ n) (pow_pos (64 - n)) (pow_pos n)) ∙ or_shifted_r (bits % 2 ^ (64 - n)) n w few
  where
    moved : (b m c : ℕ) → 0 < m → 0 < c → b * c % (m * c) ≡ b % m * c
    moved b m c hm hc =
        let swapped : b * c ≡ c * b = grind arith in
        let over : b * c / c ≡ b = ap (λ v. v / c) swapped ∙ mul-div_right b hc in
        let none : b * c % c ≡ 0 = mul-mod_left b c in
        let e = mod-mul (b * c) hm hc in
        e ∙ ap₂ (λ x y. x % m * c + y) over none ∙ (let z : b % m * c + 0 ≡ b % m * c = omega arith in z)

low-joined : (k v w n : ℕ) → w < 2 ^ n → low_cells (n + k) (v * 2 ^ n + w) ≡ low_cells n w ++ low_cells k v
low-joined k v w n few =
    let over : (v * 2 ^ n + w) / 2 ^ n ≡ v = grind (arith, few) in
    low_cells-add n k (v * 2 ^ n + w)
    ∙ ap₂ (λ a b. a ++ low_cells k b) (low_cells-same n (v * 2 ^ n + w) w (λ i h. bit_at_cat_low v n w i h)) over

-- cells that fit behind those of a word
pub cells-fit : (w bits n k : ℕ) (cells : List Level) → n + k < 64 → w < 2 ^ n → bits < 2 ^ k → low_cells k bits ≡ cells
    → low_cells (n + k) (bit_or w (bits * 2 ^ n % 2 ^ 64)) ≡ low_cells n w ++ cells
cells-fit w bits n k cells room few small is =
    let p : 2 ^ (64 - n) ≡ 2 ^ (64 - n - k) * 2 ^ k
    = ap (λ j. 2 ^ j) (let e : 64 - n ≡ 64 - n - k + k = omega arith in e) ∙ pow-add 2 (64 - n - k) k in
    let same : bits % 2 ^ (64 - n) ≡ bits
    = inside bits (2 ^ (64 - n - k)) (2 ^ k) (2 ^ (64 - n)) (pow_pos (64 - n - k)) small p in
    ap (low_cells (n + k)) (joined w bits n (omega (arith, room)) few ∙ ap (λ v. v * 2 ^ n + w) same)
    ∙ low-joined k bits w n few ∙ ap (λ c. low_cells n w ++ c) is
  where
    inside : (b m d e : ℕ) → 0 < m → b < d → e ≡ m * d → b % e ≡ b
    inside b m d e some lt is = let le : d ≤ m * d
        = grind (arith, some) in let h : b < e = omega (arith, lt, le, is) in grind
        (arith, h)

pub fit-bound : (w bits n k : ℕ) → n + k < 64 → w < 2 ^ n → bits < 2 ^ k
    → bit_or w (bits * 2 ^ n % 2 ^ 64) < 2 ^ (n + k)
fit-bound w bits n k room few small =
    let p : 2 ^ (n + k) ≡ 2 ^ n * 2 ^ k = pow-add 2 n k in
    let j = joined w bits n (omega (arith, room)) few in
    let less : bits % 2 ^ (64 - n) ≤ bits = below bits (2 ^ (64 - n)) in
    rw (j, p) (under (bits % 2 ^ (64 - n)) bits w (2 ^ n) (2 ^ k) less small few)
  where
    below : (b d : ℕ) → b % d ≤ b
    below b d = grind arith

    under : (v b w c d : ℕ) → v ≤ b → b < d → w < c → v * c + w < c * d
    under v b w c d le lt few = let m : suc v * c ≤ d * c = grind (arith, le, lt) in grind (arith, m, few)

-- cells that fill a word, and the next
pub cells-split : (w bits n k : ℕ) (cells : List Level) → n < 64 → 64 ≤ n + k → w < 2 ^ n → low_cells k bits ≡ cells
    → low_cells n w ++ cells ≡ word_cells (bit_or w (bits * 2 ^ n % 2 ^ 64))
    ++ low_cells (n + k - 64) (bits / 2 ^ (64 - n))
unfolding word_cells word_len
cells-split w bits n k cells h full few is =
    let a : k ≡ 64 - n + (n + k - 64) = omega (arith, h, full) in
    let b : 64 ≡ n + (64 - n) = omega (arith, h) in
    let front : low_cells 64 (bit_or w (bits * 2 ^ n % 2 ^ 64)) ≡ low_cells n w ++ low_cells (64 - n) bits =
    ap₂ low_cells b (joined w bits n h few) ∙ low-joined (64 - n) (bits % 2 ^ (64 - n)) w n few
    ∙ ap (λ c. low_cells n w ++ c) (low_cells-low-bits (64 - n) bits) in
    ap (λ c. low_cells n w ++ c) (sym is ∙ ap (λ j. low_cells j bits) a ∙ low_cells-add (64 - n) (n + k - 64) bits)
    ∙ sym (append_assoc (low_cells n w) (low_cells (64 - n) bits) _)
    ∙ ap (λ c. c ++ low_cells (n + k - 64) (bits / 2 ^ (64 - n))) (sym front)

pub split-bound : (bits n k : ℕ) → n < 64 → 64 ≤ n + k → bits < 2 ^ k → bits / 2 ^ (64 - n) < 2 ^ (n + k - 64)
split-bound bits n k h full small =
    let p : 2 ^ k ≡ 2 ^ (n + k - 64) * 2 ^ (64 - n)
    = ap (λ j. 2 ^ j) (let e : k ≡ n + k - 64 + (64 - n) = omega (arith, h, full) in e)
    ∙ pow-add 2 (n + k - 64) (64 - n) in
    over bits (2 ^ (64 - n)) (2 ^ (n + k - 64)) (omega (arith, small, p))
  where
    over : (b d m : ℕ) → b < m * d → b / d < m
    over b d m lt = grind (arith, lt)

-- the cells of a word of which few are taken
word-few : (n w : ℕ) → n < 64 → word_cells w ≡ low_cells n w ++ low_cells (64 - n) (w / 2 ^ n)
unfolding word_cells word_len
word-few n w h = ap (λ k. low_cells k w) (let e : 64 ≡ n + (64 - n) = omega (arith, h) in e)
    ∙ low_cells-add n (64 - n) w

pub line-end : (n w : ℕ) (line : List ℕ) → n < 64 → line ≡ line_text (word_cells w)
    → take (n + 1) (set line n 10) ≡ line_text (low_cells n w)
line-end n w line h e =
    let c = low_cells n w in
    let d = low_cells (64 - n) (w / 2 ^ n) in
    let text : line ≡ map byte_of c ++ (map byte_of d ++ 10 ∷ []) =
    e ∙ ap line_text (word-few n w h) ∙ ap (λ t. t ++ 10 ∷ []) (map-append byte_of c d)
    ∙ append_assoc (map byte_of c) (map byte_of d) (10 ∷ []) in
    let lc : length (map byte_of c) ≡ n = length-map c byte_of ∙ length-low_cells n w in
    let la = length-append (map byte_of c) (map byte_of d ++ 10 ∷ []) in
    let lb = length-append (map byte_of d) (10 ∷ []) in
    let ll : length line ≡ length (map byte_of c ++ (map byte_of d ++ 10 ∷ [])) = ap length text in
    take_more_set line n 10 (omega (arith, la, lb, lc, ll))
    ∙ ap (λ t. t ++ 10 ∷ []) (ap (take n) text ∙ take_at (map byte_of c) _ n lc)

pub octets-end : (n w k last : ℕ) (front xs : List ℕ) → n < 64 → w < 2 ^ n → front ≡ octets_of (word_cells w)
    → k ≡ octets_needed n
    → last ≡ 8 * k - n → xs ≡ set (front ++ 0 ∷ []) k last → take (octets_needed n + 1) xs ≡ packed_of (low_cells n w)
unfolding packed_of octets_of
octets-end n w k last front xs h few ef ek el ex =
    let c = low_cells n w in
    let i : length c ≡ n = length-low_cells n w in
    let j = length-word_cells w in
    let m = word_len_64 in
    let needed : octets_needed (length (word_cells w)) ≡ 8 = omega (arith, j, m) in
    let f : front ≡ first_octets 8 c =
    ef ∙ ap (λ q. first_octets q (word_cells w)) needed
    ∙ ap (first_octets 8) (word-few n w h ∙ ap (λ v. c ++ low_cells (64 - n) v) (behind-all n w few)
    ∙ ap (λ r. c ++ r) (low_cells-none (64 - n)))
    ∙ first_octets-fill 8 c (64 - n) in
    let lf : length front ≡ 8 = ap length f ∙ length-first_octets 8 c in
    let lx = length-append front (0 ∷ []) in
    ap₂ (λ q y. take (q + 1) y) (sym ek) ex
    ∙ take_more_set (front ++ 0 ∷ []) k last (omega arith)
    ∙ ap₂ (λ y z. y ++ z ∷ [])
    (take-append-le k front (0 ∷ []) (omega arith) ∙ ap (take k) f ∙ take-first_octets k 8 c (omega arith)
    ∙ ap (λ q. first_octets q c) (ek ∙ ap octets_needed (sym i)))
    (el ∙ ap₂ (λ a b. 8 * a - b) (ek ∙ ap octets_needed (sym i)) (sym i))
