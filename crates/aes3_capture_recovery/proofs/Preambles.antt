-- Preambles among runs of cells, one run more at a time.
use Rattle.std.proofs.Common.{zero, suc, [], ◌∷◌, sym}
use Rattle.std.proofs.Common.{ℕ, Bool, true, false, List, ◌≡◌, ◌<◌, ◌≤◌, ◌+◌, ◌%◌, ◌&&◌, if◌then◌else◌, get_or, drop, take, length, refl, ap, ◌∙◌, arith}
use Rattle.std.specs.Prelude.{nat_eq, nat_le, nat_lt}
use Rattle.std.proofs.lemmas.List.{drop_more, get_or-drop, get_or-take}
use Rattle.aes3_capture_recovery.specs.Measuring.{are_preamble, place_at, places_from, preambles_from}

pub found-step : (line : List ℕ) (i place n m a b c : ℕ) → i < length line → get_or line i 0 ≡ n → m ≡ n
    → get_or line (i + 1 + 0) 0 ≡ a → get_or line (i + 1 + 1) 0 ≡ b → get_or line (i + 1 + 2) 0 ≡ c
    → preambles_from place (drop i line)
    ≡ (if nat_eq place 0 && are_preamble n a b c then 1 else 0) + preambles_from ((place + m) % 64) (drop (i + 1) line)
found-step line i place n m a b c below first same second third fourth =
    ap (preambles_from place) (drop_more line i 0 below)
    ∙ ap (λ m. (if nat_eq place 0 && are_preamble m (get_or (drop (i + 1) line) 0 0) (get_or (drop (i + 1) line) 1 0)
    (get_or (drop (i + 1) line) 2 0) then 1 else 0) + preambles_from ((place + m) % 64) (drop (i + 1) line)) first
    ∙ rw (next 0 a second, next 1 b third, next 2 c fourth, same) refl
  where
    next : (k m : ℕ) → get_or line (i + 1 + k) 0 ≡ m → get_or (drop (i + 1) line) k 0 ≡ m
    next k m is = get_or-drop (i + 1) line k 0 ∙ is

pub places-step : (line : List ℕ) (i place n m : ℕ) → i < length line → get_or line i 0 ≡ n → m ≡ n
    → places_from place (drop i line)
    ≡ (if nat_eq place 0 && nat_le 1 n then 1 else 0) + (if nat_lt 64 (place + n) then 1 else 0)
    + places_from ((place + m) % 64) (drop (i + 1) line)
places-step line i place n m below is same =
    ap (places_from place) (drop_more line i 0 below)
    ∙ ap (λ m. (if nat_eq place 0 && nat_le 1 m then 1 else 0) + (if nat_lt 64 (place + m) then 1 else 0)
    + places_from ((place + m) % 64) (drop (i + 1) line)) is
    ∙ rw same refl

-- a run of the first ones
pub front-at : (cells : List ℕ) (count i : ℕ) → i < count → get_or (take count cells) i 0 ≡ get_or cells i 0
front-at cells count i below = get_or-take count cells i 0 below

-- at most one for each
pub one-most : (b : Bool) → (n : ℕ) → n ≡ (if b then 1 else 0) → n ≤ 1
one-most true n is = omega (arith, is)
one-most false n is = omega (arith, is)

pub two-most : (a b : Bool) → (n : ℕ) → n ≡ (if a then 1 else 0) + (if b then 1 else 0) → n ≤ 2
two-most true true n is = omega (arith, is)
two-most true false n is = omega (arith, is)
two-most false true n is = omega (arith, is)
two-most false false n is = omega (arith, is)

-- the place of the next run
pub place-next : (place : ℕ) (cells : List ℕ) (i n : ℕ) → i < length cells → n ≡ get_or cells i 0
    → place_at place cells (i + 1) ≡ (place_at place cells i + n) % 64
place-next place [] i n h e = absurd (omega (arith, h))
place-next place (m ∷ cells) zero n h e = ap (λ k. (place + k) % 64) (sym e)
place-next place (m ∷ cells) (suc i) n h e = let f : suc i + 1 ≡ suc (i + 1) = omega arith in rw f (place-next ((place + m) % 64) cells i n (omega (arith, h)) e)

-- places count from the first run's
pub place-from : (place : ℕ) (cells : List ℕ) (i : ℕ) → place < 64
    → place_at place cells i ≡ (place + place_at 0 cells i) % 64
place-from place cells zero h = omega (arith, h)
place-from place [] (suc i) h = omega (arith, h)
place-from place (m ∷ cells) (suc i) h =
    let one = place-from ((place + m) % 64) cells i (omega arith) in
    let two = place-from ((0 + m) % 64) cells i (omega arith) in
    omega (arith, one, two)

pub place-before : (place : ℕ) (cells : List ℕ) (count i : ℕ) → i ≤ count → place_at place (take count cells) i ≡ place_at place cells i
place-before place cells count zero h = refl
place-before place cells zero (suc i) h = absurd (omega (arith, h))
place-before place [] (suc count) (suc i) h = refl
place-before place (m ∷ cells) (suc count) (suc i) h = place-before ((place + m) % 64) cells count i (omega (arith, h))

-- a preamble that is cut does not count
cut : (a b c : ℕ) → ◌≡◌ {A = Bool} (are_preamble a b c 0) false
cut a b c = grind arith

none-there : (p : ℕ) (b : Bool) → b ≡ false → ◌≡◌ {A = ℕ} (if nat_eq p 0 && b then 1 else 0) 0
none-there p b e = grind (arith, e)

pub none-cut : (place : ℕ) (cells : List ℕ) → length cells ≤ 3 → preambles_from place cells ≡ 0
none-cut place [] h = refl
none-cut place (a ∷ []) h =
    let one = none-there place (are_preamble a 0 0 0) (cut a 0 0) in omega (arith, one)
none-cut place (a ∷ b ∷ []) h =
    let one = none-there place (are_preamble a b 0 0) (cut a b 0) in
    let rest = none-cut ((place + a) % 64) (b ∷ []) (omega arith) in
    omega (arith, one, rest)
none-cut place (a ∷ b ∷ c ∷ []) h =
    let one = none-there place (are_preamble a b c 0) (cut a b c) in
    let rest = none-cut ((place + a) % 64) (b ∷ c ∷ []) (omega arith) in
    omega (arith, one, rest)
none-cut place (a ∷ b ∷ c ∷ d ∷ cells) h = absurd (omega (arith, h))
