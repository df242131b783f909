-- Packed cells: octets of cells, and which octets pack cells.
use Rattle.std.proofs.Common.{◌≡◌, ℕ, zero, suc, ◌+◌, ◌-◌, ◌*◌, ◌/◌, ◌%◌, ◌^◌, ◌<◌, ◌≤◌, List, [], ◌∷◌, ◌++◌, true}
use Rattle.std.proofs.Common.{length, take, drop, get_or, replicate, reverse, refl, sym, ap, ap₂, ◌∙◌, subst, arith}
use Rattle.std.proofs.Common.{append_assoc, append-nil, length-append, length-drop, eqb-true, eq-eqb, lt-ltb, ltb-true}
use Rattle.std.proofs.Common.{nat_lt, ◌==◌}
use Rattle.std.proofs.lemmas.Bool.{and_parts, and_from}
use Rattle.std.proofs.lemmas.Grind.{flat_map-append}
use Rattle.std.proofs.lemmas.List.{take_at, drop_at, length-replicate, length-take-le, reverse-append, reverse-reverse}
use Rattle.std.proofs.lemmas.List.{take-append-drop, take-append-le, drop-append-le, drop-replicate, nil_from_length}
use Rattle.aes3_level.specs.declared.level.Level.{Level}
use Rattle.aes3_level.specs.declared.level.Level.TheVariants.{Low}
use Rattle.aes3_level.specs.Words.{low_cells}
use Rattle.aes3_cell.specs.Packed.{octet_cells, cells_of_octets, Packs, is_padded, ends_packed, is_packed, last_place}
use Rattle.aes3_cell.specs.Packed.{last_octet, cells_of_packed, octet_of, first_octets, octets_of, packed_of}
use Rattle.aes3_level.proofs.WordCells.{length-low_cells, low_cells-add}
use Rattle.aes3_cell.proofs.Octets.{reverse-more, reverse-replicate, low_bits-zero, length-octet_cells}
use Rattle.aes3_cell.proofs.Octets.{octet_cells-unused, weight-fill, weight-take, octet_of-octet_cells}
use Rattle.aes3_cell.proofs.Octets.{octet_cells-octet_of}

-- the cells of octets joined
pub cells_of_octets-append : (a b : List ℕ) → cells_of_octets (a ++ b) ≡ cells_of_octets a ++ cells_of_octets b
cells_of_octets-append a b = flat_map-append octet_cells a b

pub cells_of_octets-one : (x : ℕ) → cells_of_octets (x ∷ []) ≡ octet_cells x
cells_of_octets-one x = append-nil (octet_cells x)

pub length-cells_of_octets : (xs : List ℕ) → length (cells_of_octets xs) ≡ 8 * length xs
length-cells_of_octets [] = refl
length-cells_of_octets (x ∷ xs) =
    let a = length-append (octet_cells x) (cells_of_octets xs) in
    let b = length-octet_cells x in
    let c = length-cells_of_octets xs in
    omega arith

-- the octets of cells
pub length-first_octets : (n : ℕ) (c : List Level) → length (first_octets n c) ≡ n
length-first_octets zero c = refl
length-first_octets (suc n) c = ap suc (length-first_octets n (drop 8 c))

drop-fill : (n : ℕ) (c : List Level) (k : ℕ) → (j : ℕ) × (drop n (c ++ replicate k Low) ≡ drop n c ++ replicate j Low)
drop-fill zero c k = (k, refl)
drop-fill (suc n) [] k = (k - suc n, drop-replicate (suc n) k Low)
drop-fill (suc n) (l ∷ c) k = drop-fill n c k

-- cells that are missing are Low
pub first_octets-fill : (n : ℕ) (c : List Level) (k : ℕ) → first_octets n (c ++ replicate k Low) ≡ first_octets n c
first_octets-fill zero c k = refl
first_octets-fill (suc n) c k =
    let d = drop-fill 8 c k in
    ap₂ (λ x xs. x ∷ xs)
    (weight-take 8 128 (c ++ replicate k Low) (omega arith) ∙ weight-fill 128 c k
    ∙ sym (weight-take 8 128 c (omega arith)))
    (ap (first_octets n) d.1 ∙ first_octets-fill n (drop 8 c) d.0)

cells_of_octets-whole : (n : ℕ) (c : List Level) → length c ≡ 8 * n → cells_of_octets (first_octets n c) ≡ c
cells_of_octets-whole zero c h = sym (nil_from_length c (omega arith))
cells_of_octets-whole (suc n) c h =
    let d = length-drop 8 c in
    ap₂ ◌++◌ (octet_cells-octet_of (take 8 c) (length-take-le 8 c (omega arith)))
    (cells_of_octets-whole n (drop 8 c) (omega arith))
    ∙ take-append-drop 8 c

pub cells_of_octets-first_octets : (n : ℕ) (c : List Level) → length c ≤ 8 * n
    → cells_of_octets (first_octets n c) ≡ c ++ replicate (8 * n - length c) Low
cells_of_octets-first_octets n c h =
    let k = 8 * n - length c in
    let l = length-append c (replicate k Low) in
    let r = length-replicate k Low in
    ap cells_of_octets (sym (first_octets-fill n c k)) ∙ cells_of_octets-whole n (c ++ replicate k Low) (omega arith)

-- the octets of the cells of octets
pub first_octets-cells_of_octets : (n : ℕ) (xs : List ℕ) → length xs ≡ n
    → ((i : ℕ) → i < length xs → get_or xs i 0 < 256) → first_octets n (cells_of_octets xs) ≡ xs
first_octets-cells_of_octets zero xs h b = sym (nil_from_length xs h)
first_octets-cells_of_octets (suc n) [] h b = absurd (omega arith)
first_octets-cells_of_octets (suc n) (x ∷ xs) h b =
    ap₂ (λ y ys. y ∷ ys)
    (ap octet_of (take_at (octet_cells x) (cells_of_octets xs) 8 (length-octet_cells x))
    ∙ octet_of-octet_cells x (b 0 (omega arith)))
    (ap (first_octets n) (drop_at (octet_cells x) (cells_of_octets xs) 8 (length-octet_cells x))
    ∙ first_octets-cells_of_octets n xs (omega arith) (λ i l. b (suc i) (omega arith)))

pub first_octets-append : (n m : ℕ) (a b : List Level) → length a ≡ 8 * n
    → first_octets (n + m) (a ++ b) ≡ first_octets n a ++ first_octets m b
first_octets-append zero m a b h
    = ap₂ first_octets (let e : 0 + m ≡ m = omega arith in e) (ap (λ c. c ++ b) (nil_from_length a (omega arith)))
first_octets-append (suc n) m a b h =
    let d = length-drop 8 a in
    ap (λ k. first_octets k (a ++ b)) (let e : suc n + m ≡ suc (n + m) = omega arith in e)
    ∙ ap₂ (λ c cs. octet_of c ∷ cs) (take-append-le 8 a b (omega arith))
    (ap (first_octets (n + m)) (drop-append-le 8 a b (omega arith))
    ∙ first_octets-append n m (drop 8 a) b (omega arith))

pub take-first_octets : (n m : ℕ) (c : List Level) → n ≤ m → take n (first_octets m c) ≡ first_octets n c
take-first_octets zero m c h = refl
take-first_octets (suc n) zero c h = absurd (omega arith)
take-first_octets (suc n) (suc m) c h
    = ap (λ t. octet_of (take 8 c) ∷ t) (take-first_octets n m (drop 8 c) (omega arith))

-- what is written packs the cells
pub packed_of-packs : (c : List Level) → Packs (packed_of c) c
unfolding packed_of octets_of
packed_of-packs c = record {
  front = first_octets ((length c + 7) / 8) c;
  unused = 8 * ((length c + 7) / 8) - length c;
  last = refl;
  few = omega arith;
  filled = cells_of_octets-first_octets ((length c + 7) / 8) c (omega arith);
}

-- octets from the last one on
pub record LastOctet (b front : List ℕ) (last : ℕ) : Type 0 where
  pub is : b ≡ front ++ last ∷ []

pub reverse-last : {b front : List ℕ} {n : ℕ} → LastOctet b front n → reverse b ≡ n ∷ reverse front
reverse-last {front} {n} e = ap reverse e.is ∙ reverse-more front n

pub last-reverse : (b : List ℕ) (n : ℕ) (more : List ℕ) → reverse b ≡ n ∷ more → LastOctet b (reverse more) n
last-reverse b n more e = record { is = sym (reverse-reverse b) ∙ ap reverse e ∙ reverse-append (n ∷ []) more }

pub last_octet-is : {b front : List ℕ} {n : ℕ} → LastOctet b front n → last_octet b ≡ n
last_octet-is e = ap (λ v. get_or v 0 0) (reverse-last e)

pub last_place-is : {b front : List ℕ} {n : ℕ} → LastOctet b front n → last_place b ≡ length front
last_place-is {front} {n} e = let l = length-append front (n ∷ []) in let q = ap length e.is in omega arith

pub take-front : {b front : List ℕ} {n : ℕ} → LastOctet b front n → take (last_place b) b ≡ front
take-front {front} {n} e = ap₂ take (last_place-is e) e.is ∙ take_at front (n ∷ []) (length front) refl

-- a padded octet ends in Low cells, and the other way round
pub padded-from : (octet last : ℕ) → last < 8 → octet % 2 ^ last ≡ 0 → is_padded octet last ≡ true
padded-from octet last h e = and_from (nat_lt last 8) ((octet % 2 ^ last) == 0) (lt-ltb last 8 h)
    (eq-eqb (octet % 2 ^ last) 0 e)

pub padded-parts : (octet last : ℕ) → is_padded octet last ≡ true → (last < 8) × (octet % 2 ^ last ≡ 0)
padded-parts octet last e =
    let p = and_parts (nat_lt last 8) ((octet % 2 ^ last) == 0) e in
    (ltb-true last 8 p.0, eqb-true (octet % 2 ^ last) 0 p.1)

-- the cells that octets pack are those that are read
pub cells-packs : (b : List ℕ) (c : List Level) → Packs b c → cells_of_packed b ≡ c
unfolding cells_of_packed
cells-packs b c p =
    let e : LastOctet b p.front p.unused = record { is = p.last } in
    let place = last_place-is e in
    let unused = last_octet-is e in
    let l = length-cells_of_octets p.front in
    let j = length-append c (replicate p.unused Low) in
    let r = length-replicate p.unused Low in
    let f = ap length p.filled in
    let k : 8 * last_place b - last_octet b ≡ length c = omega arith in
    ap₂ (λ n xs. take n (cells_of_octets xs)) k (take-front e) ∙ ap (take (length c)) p.filled
    ∙ take_at c (replicate p.unused Low) (length c) refl

-- the last octet of a packed front ends in the unused cells
unused-Low : (more : List ℕ) (x n : ℕ) (c : List Level) → n < 8
    → cells_of_octets (more ++ x ∷ []) ≡ c ++ replicate n Low → x % 2 ^ n ≡ 0
unused-Low more x n c h e =
    let back : low_cells 8 x ++ reverse (cells_of_octets more) ≡ replicate n Low ++ reverse c =
    ap (λ v. v ++ reverse (cells_of_octets more)) (sym (reverse-reverse (low_cells 8 x)))
    ∙ sym (reverse-append (cells_of_octets more) (octet_cells x))
    ∙ ap reverse (ap (λ v. cells_of_octets more ++ v) (sym (cells_of_octets-one x))
    ∙ sym (cells_of_octets-append more (x ∷ [])) ∙ e)
    ∙ reverse-append c (replicate n Low) ∙ ap (λ v. v ++ reverse c) (reverse-replicate n Low) in
    let split : low_cells 8 x ≡ low_cells n x ++ low_cells (8 - n) (x / 2 ^ n) =
    ap (λ k. low_cells k x) (let q : 8 ≡ n + (8 - n) = omega arith in q) ∙ low_cells-add n (8 - n) x in
    let front : low_cells n x ≡ replicate n Low =
    sym (take_at (low_cells n x) (low_cells (8 - n) (x / 2 ^ n) ++ reverse (cells_of_octets more)) n
    (length-low_cells n x))
    ∙ ap (take n) (sym (append_assoc (low_cells n x) (low_cells (8 - n) (x / 2 ^ n)) (reverse (cells_of_octets more)))
    ∙ ap (λ v. v ++ reverse (cells_of_octets more)) (sym split) ∙ back)
    ∙ take_at (replicate n Low) (reverse c) n (length-replicate n Low) in
    low_bits-zero n x front

pub is_packed-packs : (b : List ℕ) (c : List Level) → Packs b c → is_packed b ≡ true
unfolding is_packed
is_packed-packs b c p =
    let e : LastOctet b p.front p.unused = record { is = p.last } in
    ap ends_packed (reverse-last e) ∙ go (reverse p.front) refl
  where
    go : (back : List ℕ) → reverse p.front ≡ back → ends_packed (p.unused ∷ back) ≡ true
    go [] e =
        let none : p.front ≡ [] = sym (reverse-reverse p.front) ∙ ap reverse e in
        let f : [] ≡ c ++ replicate p.unused Low = ap cells_of_octets (sym none) ∙ p.filled in
        let l = length-append c (replicate p.unused Low) in
        let r = length-replicate p.unused Low in
        eq-eqb p.unused 0 (omega (arith, ap length f))
    go (x ∷ back) e =
        let q = last-reverse p.front x back e in
        padded-from x p.unused p.few
        (unused-Low (reverse back) x p.unused c p.few (ap cells_of_octets (sym q.is) ∙ p.filled))

-- octets that pass the test pack some cells
packs-some : (b : List ℕ) → is_packed b ≡ true → (c : List Level) × Packs b c
unfolding is_packed
packs-some b = go (reverse b) refl
  where
    go : (back : List ℕ) → reverse b ≡ back → ends_packed back ≡ true → (c : List Level) × Packs b c
    go [] e h = absurd cc
    go (n ∷ []) e h =
        let zero_is : n ≡ 0 = eqb-true n 0 h in
        let q = last-reverse b n [] e in (
          [],
          record {
            front = [];
            unused = 0;
            last = q.is ∙ ap (λ k. k ∷ []) zero_is;
            few = omega arith;
            filled
                = refl;
          },
        )
    go (n ∷ x ∷ back) e h =
        let q = last-reverse b n (x ∷ back) e in
        let p = padded-parts x n h in
        let rest = reverse (low_cells (8 - n) (x / 2 ^ n)) in
        let front : reverse (x ∷ back) ≡ reverse back ++ x ∷ [] = reverse-append (x ∷ []) back in (
          cells_of_octets (reverse back) ++ rest,
          record {
            front = reverse (x ∷ back);
            unused = n;
            last = q.is;
            few = p.0;
            filled = ap cells_of_octets front ∙ cells_of_octets-append (reverse back) (x ∷ [])
                ∙ ap (λ v. cells_of_octets (reverse back) ++ v) (cells_of_octets-one x ∙ octet_cells-unused x n p.0 p.1)
                ∙ sym (append_assoc (cells_of_octets (reverse back)) rest (replicate n Low));
          },
        )

pub packs-is_packed : (b : List ℕ) → is_packed b ≡ true → Packs b (cells_of_packed b)
packs-is_packed b h =
    let p = packs-some b h in
    subst (λ (c : List Level). Packs b c) (sym (cells-packs b p.0 p.1)) p.1
