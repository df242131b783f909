-- Packed cells in words: the latest cell in the lowest bit.
use Rattle.std.proofs.Common.{◌≡◌, ℕ, zero, suc, ◌+◌, ◌-◌, ◌*◌, ◌/◌, ◌%◌, ◌^◌, ◌<◌, List, [], ◌∷◌, ◌++◌, cond, length}
use Rattle.std.proofs.Common.{take, set, get_or, replicate, reverse, refl, sym, ap, ap₂, ◌∙◌, subst, arith}
use Rattle.std.proofs.Common.{append_assoc, append-nil, length-append, add-one, eq-eqb, ne_eqb}
use Rattle.std.specs.Int.{bit_at, byte_at, bytes_high_first}
use Rattle.std.proofs.lemmas.List.{take_more_set, replicate_more, take-append-le, length-reverse, reverse-append}
use Rattle.std.proofs.lemmas.Nat.Bits.{bit_at_cat_low}
use Rattle.std.proofs.lemmas.Nat.{pow-add}
use Rattle.std.proofs.Math.Nat.{pow-succ'}
use Rattle.aes3_level.specs.declared.level.Level.{Level}
use Rattle.aes3_level.specs.declared.level.Level.TheVariants.{Low}
use Rattle.aes3_level.specs.Words.{level_of, bit_of, low_cells, word_len}
use Rattle.aes3_cell.specs.Pending.{begun_after}
use Rattle.aes3_cell.specs.Packed.{octet_cells, cells_of_octets, first_octets, octets_needed, octets_of, packed_of}
use Rattle.aes3_cell.specs.PackedPending.{octets_added}
use Rattle.aes3_level.proofs.WordCells.{length-low_cells, low_cells-add, low_cells-same}
use Rattle.aes3_level.proofs.WordCells.{word_len_64}
use Rattle.aes3_cell.proofs.Octets.{level_of-bit_of, bit_of-lt, reverse-cons, lowest-cell}
use Rattle.aes3_cell.proofs.PackedCells.{first_octets-cells_of_octets, first_octets-fill, take-first_octets}
use Rattle.aes3_cell.proofs.PackedCells.{length-first_octets}

-- the cells of a word, the latest in the lowest bit
abbrev pub high_cells : ℕ → ℕ → List Level
high_cells n w = reverse (low_cells n w)

pub length-high_cells : (n w : ℕ) → length (high_cells n w) ≡ n
length-high_cells n w = length-reverse (low_cells n w) ∙ length-low_cells n w

pub high_cells-more : (n w : ℕ) (l : Level) → high_cells (suc n) (2 * w + bit_of l) ≡ high_cells n w ++ l ∷ []
high_cells-more n w l =
    ap reverse (lowest-cell n (2 * w + bit_of l) w (bit_of l) (bit_of-lt l) refl)
    ∙ reverse-cons (level_of (bit_of l)) (low_cells n w)
    ∙ ap (λ x. high_cells n w ++ x ∷ []) (level_of-bit_of l)

-- a word moved up, its lowest k cells Low
pub high_cells-shl : (n k w : ℕ) → high_cells (k + n) (w * 2 ^ k) ≡ high_cells n w ++ replicate k Low
high_cells-shl n zero w = ap₂ high_cells (let e : 0 + n ≡ n = omega arith in e)
    (let e : w * 2 ^ 0 ≡ w = omega arith in e) ∙ sym (append-nil (high_cells n w))
high_cells-shl n (suc k) w =
    let e : suc k + n ≡ suc (k + n) = omega arith in
    let p = pow-succ' 2 k in
    let d : w * 2 ^ suc k ≡ 2 * (w * 2 ^ k) + 0 = ap (λ x. w * x) p ∙ omega arith in
    ap₂ high_cells e d ∙ high_cells-more (k + n) (w * 2 ^ k) Low ∙ ap (λ c. c ++ Low ∷ []) (high_cells-shl n k w)
    ∙ append_assoc (high_cells n w) (replicate k Low) (Low ∷ [])
    ∙ ap (λ c. high_cells n w ++ c) (replicate_more k Low ∙ ap (λ j. replicate j Low) (add-one k))

-- the cells of a word's bytes
octet-byte : (w : ℕ) → octet_cells (w % 256) ≡ octet_cells w
octet-byte w = ap reverse (sym (low_cells-same 8 w (w % 256) bits))
  where
    bits : (i : ℕ) → i < 8 → bit_at w i ≡ bit_at (w % 256) i
    bits i h = ap (λ v. bit_at v i) (let e : w ≡ w / 256 * 2 ^ 8 + w % 256 = omega arith in e)
        ∙ bit_at_cat_low (w / 256) 8 (w % 256) i h

octet-byte_at : (k w : ℕ) → octet_cells (byte_at k w) ≡ octet_cells (w / 256 ^ k)
octet-byte_at zero w = octet-byte w ∙ ap octet_cells (let e : w ≡ w / 256 ^ 0 = omega arith in e)
octet-byte_at (suc k) w = octet-byte (w / 256 ^ suc k)

pow-bytes : (k : ℕ) → 256 ^ k ≡ 2 ^ (8 * k)
pow-bytes zero = refl
pow-bytes (suc k) =
    pow-succ' 256 k ∙ ap (λ v. 256 * v) (pow-bytes k) ∙ sym (pow-add 2 8 (8 * k))
    ∙ ap (λ n. 2 ^ n) (let e : 8 + 8 * k ≡ 8 * suc k = omega arith in e)

bytes-cells : (k w : ℕ) → cells_of_octets (bytes_high_first k w) ≡ high_cells (8 * k) w
bytes-cells zero w = refl
bytes-cells (suc k) w =
    ap₂ ◌++◌ (octet-byte_at k w ∙ ap (λ d. octet_cells (w / d)) (pow-bytes k)) (bytes-cells k w)
    ∙ sym (reverse-append (low_cells (8 * k) w) (low_cells 8 (w / 2 ^ (8 * k))))
    ∙ ap reverse (sym (low_cells-add (8 * k) 8 w))
    ∙ ap (λ n. high_cells n w) (let e : 8 * k + 8 ≡ 8 * suc k = omega arith in e)

length-bytes : (k w : ℕ) → length (bytes_high_first k w) ≡ k
length-bytes zero w = refl
length-bytes (suc k) w = ap suc (length-bytes k w)

bytes-fit : (k w i : ℕ) → i < length (bytes_high_first k w) → get_or (bytes_high_first k w) i 0 < 256
bytes-fit zero w i h = absurd (omega arith)
bytes-fit (suc zero) w zero h = omega arith
bytes-fit (suc (suc k)) w zero h = byte (w / 256 ^ suc k)
  where
    byte : (v : ℕ) → v % 256 < 256
    byte v = omega arith
bytes-fit (suc k) w (suc i) h = bytes-fit k w i (omega arith)

pub bytes-first_octets : (k w : ℕ) → bytes_high_first k w ≡ first_octets k (high_cells (8 * k) w)
bytes-first_octets k w =
    sym (first_octets-cells_of_octets k (bytes_high_first k w) (length-bytes k w) (bytes-fit k w))
    ∙ ap (first_octets k) (bytes-cells k w)

-- a cell behind the cells begun
pub packed-short : (p : List Level) (n : ℕ) (l : Level) → length p ≡ n → n + 1 < 64 → octets_added p l ≡ []
packed-short p n l e h = ap (λ b. cond b (octets_of (p ++ l ∷ [])) [])
    (ne_eqb (suc (length p)) word_len (λ y. let k = word_len_64 in omega arith))

pub packed-begun : (n w : ℕ) (l : Level) → n + 1 < 64
    → high_cells (n + 1) (2 * w + bit_of l) ≡ begun_after (high_cells n w) l
packed-begun n w l h =
    ap (λ k. high_cells k (2 * w + bit_of l)) (add-one n) ∙ high_cells-more n w l
    ∙ ap (λ b. cond {A = List Level} b [] (high_cells n w ++ l ∷ []))
    (sym (ne_eqb (suc (length (high_cells n w))) word_len
    (λ y. let k = word_len_64 in let i = length-high_cells n w in omega arith)))

-- the cell that ends eight octets
pub packed-full : (n w : ℕ) (l : Level) → n + 1 ≡ 64
    → bytes_high_first 8 (2 * w + bit_of l) ≡ octets_added (high_cells n w) l
unfolding octets_of
packed-full n w l h =
    let i = length-high_cells n w in
    let k = word_len_64 in
    let j = length-append (high_cells n w) (l ∷ []) in
    let m : octets_needed (length (high_cells n w ++ l ∷ [])) ≡ 8 = omega arith in
    bytes-first_octets 8 (2 * w + bit_of l)
    ∙ ap (λ c. first_octets 8 c)
    (ap (λ k. high_cells k (2 * w + bit_of l)) (let e : 64 ≡ suc n = omega arith in e) ∙ high_cells-more n w l)
    ∙ ap (λ k. first_octets k (high_cells n w ++ l ∷ [])) (sym m)
    ∙ ap (λ b. cond b (octets_of (high_cells n w ++ l ∷ [])) [])
    (sym (eq-eqb (suc (length (high_cells n w))) word_len (omega arith)))

pub packed-done : (n w : ℕ) (l : Level) → n + 1 ≡ 64 → [] ≡ begun_after (high_cells n w) l
packed-done n w l h =
    ap (λ b. cond {A = List Level} b [] (high_cells n w ++ l ∷ []))
    (sym (eq-eqb (suc (length (high_cells n w))) word_len
    (let k = word_len_64 in let i = length-high_cells n w in omega arith)))

-- no cells, moved up
pub none-moved : (w n k : ℕ) → n ≡ 0 → w < 2 ^ n → 0 ≡ w * 2 ^ k
none-moved w n k e h =
    let one : w < 2 ^ 0 = subst (λ (j : ℕ). w < 2 ^ j) e h in
    let none : 0 ≡ w = omega arith in
    let times : 0 ≡ 0 * 2 ^ k = omega arith in
    times ∙ ap (λ v. v * 2 ^ k) none

-- the octets of the cells left, and the last octet behind them
pub packed-end : (n w v k last : ℕ) (front xs : List ℕ) → n < 64 → v ≡ w * 2 ^ (64 - n) → front ≡ bytes_high_first 8 v
    → k ≡ octets_needed n
    → last ≡ 8 * k - n → xs ≡ set (front ++ 0 ∷ []) k last → take (octets_needed n + 1) xs ≡ packed_of (high_cells n w)
unfolding packed_of octets_of
packed-end n w v k last front xs h ev ef ek el ex =
    let c = high_cells n w in
    let i : length c ≡ n = length-high_cells n w in
    let cells : first_octets 8 (high_cells 64 v) ≡ first_octets 8 c =
    ap (first_octets 8) (ap₂ high_cells (let e : 64 ≡ 64 - n + n = omega arith in e) ev ∙ high_cells-shl n (64 - n) w)
    ∙ first_octets-fill 8 c (64 - n) in
    let f : front ≡ first_octets 8 c = ef ∙ bytes-first_octets 8 v ∙ cells in
    let lf : length front ≡ 8 = ap length f ∙ length-first_octets 8 c in
    let lx = length-append front (0 ∷ []) in
    ap₂ (λ j y. take (j + 1) y) (sym ek) ex
    ∙ take_more_set (front ++ 0 ∷ []) k last (omega arith)
    ∙ ap₂ (λ y z. y ++ z ∷ [])
    (take-append-le k front (0 ∷ []) (omega arith) ∙ ap (take k) f ∙ take-first_octets k 8 c (omega arith)
    ∙ ap (λ j. first_octets j c) (ek ∙ ap octets_needed (sym i)))
    (el ∙ ap₂ (λ a b. 8 * a - b) (ek ∙ ap octets_needed (sym i)) (sym i))
