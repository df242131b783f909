-- Blocks whose cells carry the same validity bits and channel status.
use Rattle.std.proofs.Common.{◌≡◌, ℕ, zero, suc, ◌+◌, ◌*◌, ◌/◌, ◌%◌, ◌^◌, ◌<◌, ◌≤◌, ◌⊎◌, inl, inr, subst, List, [], ◌∷◌}
use Rattle.std.proofs.Common.{◌++◌, Bool, false, eqb, length, map, take, drop, get_or, refl, sym, ap}
use Rattle.std.proofs.Common.{ap₂, ◌∙◌, arith}
use Rattle.std.specs.Prelude.{bit_and, bit_or, bit_xor, replicate, set}
use Rattle.std.specs.Int.{bit_at}
use Rattle.std.specs.Simd.Lanes.{fold_l, zip2}
use Rattle.std.proofs.lemmas.Bool.{cases_lt}
use Rattle.std.proofs.lemmas.List.{get_or-map, length-map, map-append, take_all, take_more, take_more_set}
use Rattle.std.proofs.lemmas.Simd.{get_or-chunk, get_or-replicate, get_or-zip2, length-chunk, length-zip2}
use Rattle.std.proofs.lemmas.Nat.Bits.{bit_at_and, bit_at_or, bit_at_xor, bit_at-suc, bit_at-lt, bit_at_lowest}
use Rattle.std.proofs.lemmas.Nat.Bits.{bit_at-zero}
use Rattle.aes3_level.specs.Words.{level_of, low_cells, word_cells, word_len}
use Rattle.aes3_level.proofs.WordCells.{drop-low_cells}
use Rattle.aes3_level.proofs.Moves.{bit_at-shr}
use Rattle.aes3_slot.specs.Slots.{payload_len}
use Rattle.aes3_slot.specs.Reading.{differs, read_bits}
use Rattle.aes3_slot.specs.ReadWords.{read_word, read_words}
use Rattle.aes3_frame.specs.declared.block.Channel.{Channel}
use Rattle.aes3_frame.specs.declared.block.Channel.TheVariants.{First, Second}
use Rattle.aes3_frame.specs.Subframes.{audio_len}
use Rattle.aes3_frame.specs.Statuses.{bits_at, bytes_in, status_len, status_of, status_place, validity_of}
use Rattle.aes3_frame.specs.Statuses.{validity_place}
use Rattle.aes3_lock.specs.Outcomes.{payloads_of}
use Rattle.aes3_frame.specs.Ones.{ones_in}
use Rattle.aes3_watch.specs.Signals.{last_cells, signals_of}
use Rattle.aes3_watch.specs.declared.signals.Signals.{Signals}
use Rattle.aes3_watch.specs.Watching.{SaysSo}

-- whether cells j and j + 1 of two words differ in both or in none
abbrev pub SameAt : ℕ → ℕ → ℕ → Type 0
SameAt j w v = (bit_at w j + bit_at w (suc j)) % 2 ≡ (bit_at v j + bit_at v (suc j)) % 2

-- a bit that the cells of a word carry
bit-read : (n k x : ℕ) → k < n
    → get_or (read_bits (low_cells (2 * n) x)) k false
    ≡ differs (level_of (bit_at x (2 * k))) (level_of (bit_at x (suc (2 * k))))
bit-read zero k x h = absurd (omega arith)
bit-read (suc n) zero x h =
    let m : 2 * suc n ≡ suc (suc (2 * n)) = omega arith in
    let a : x % 2 ≡ bit_at x 0 = sym (bit_at_lowest x) in
    let b : x / 2 % 2 ≡ bit_at x 1 = sym (bit_at-suc x 0 ∙ bit_at_lowest (x / 2)) in
    ap (λ i. get_or (read_bits (low_cells i x)) 0 false) m ∙ ap₂ (λ u v. differs (level_of u) (level_of v)) a b
bit-read (suc n) (suc k) x h =
    let m : 2 * suc n ≡ suc (suc (2 * n)) = omega arith in
    let e : 2 * suc k ≡ suc (suc (2 * k)) = omega arith in
    ap (λ i. get_or (read_bits (low_cells i x)) (suc k) false) m ∙ bit-read n k (x / 2 / 2) (omega arith)
    ∙ ap₂ (λ u v. differs (level_of u) (level_of v)) (sym (twice (2 * k))) (sym (twice (suc (2 * k))))
    ∙ ap (λ i. differs (level_of (bit_at x i)) (level_of (bit_at x (suc i)))) (sym e)
  where
    twice : (i : ℕ) → bit_at x (suc (suc i)) ≡ bit_at (x / 2 / 2) i
    twice i = bit_at-suc x (suc i) ∙ bit_at-suc (x / 2) i

parity : (a b : ℕ) → a < 2 → b < 2 → differs (level_of a) (level_of b) ≡ eqb ((a + b) % 2) 1
parity zero zero h g = refl
parity zero (suc zero) h g = refl
parity (suc zero) zero h g = refl
parity (suc zero) (suc zero) h g = refl
parity a (suc (suc b)) h g = absurd (omega arith)
parity (suc (suc a)) b h g = absurd (omega arith)

word-bit : (w k : ℕ) → k < 28
    → get_or (read_word w) k false ≡ eqb ((bit_at w (8 + 2 * k) + bit_at w (suc (8 + 2 * k))) % 2) 1
unfolding word_cells word_len
word-bit w k h =
    let e : 8 + suc (2 * k) ≡ suc (8 + 2 * k) = omega arith in
    ap (λ c. get_or (read_bits c) k false) (drop-low_cells 8 56 w) ∙ bit-read 28 k (w / 2 ^ 8) h
    ∙ parity (bit_at (w / 2 ^ 8) (2 * k)) (bit_at (w / 2 ^ 8) (suc (2 * k))) (bit_at-lt (w / 2 ^ 8) (2 * k))
    (bit_at-lt (w / 2 ^ 8) (suc (2 * k)))
    ∙ ap₂ (λ a b. eqb ((a + b) % 2) 1) (bit_at-shr w 8 (2 * k)) (bit_at-shr w 8 (suc (2 * k)) ∙ ap (bit_at w) e)

same-bit : (w v k : ℕ) → k < 28 → SameAt (8 + 2 * k) w v → get_or (read_word w) k false ≡ get_or (read_word v) k false
same-bit w v k h e = word-bit w k h ∙ ap (λ n. eqb n 1) e ∙ sym (word-bit v k h)

take-get : (n k : ℕ) (xs : List Bool) → k < n → get_or (take n xs) k false ≡ get_or xs k false
take-get zero k xs h = absurd (omega arith)
take-get (suc n) k [] h = refl
take-get (suc n) zero (x ∷ xs) h = refl
take-get (suc n) (suc k) (x ∷ xs) h = take-get n k xs (omega arith)

-- of a subframe that two words carry, at a place
abbrev Agree : ℕ → ℕ → ℕ → Type 0
Agree place w v = get_or (take payload_len (read_word w)) place false
    ≡ get_or (take payload_len (read_word v)) place false

agree : (w v k : ℕ) → k < 27 → SameAt (8 + 2 * k) w v → Agree k w v
unfolding payload_len
agree w v k h e = take-get 27 k (read_word w) h ∙ same-bit w v k (omega arith) e ∙ sym (take-get 27 k (read_word v) h)

-- of a channel of blocks
same-bits : (place : ℕ) (ws vs : List ℕ) (channel : Channel) → length ws ≡ length vs
    → ((i : ℕ) → i < length ws → Agree place (get_or ws i 0) (get_or vs i 0))
    → bits_at place (payloads_of (read_words ws)) channel ≡ bits_at place (payloads_of (read_words vs)) channel
same-bits place [] [] channel l h = refl
same-bits place [] (v ∷ vs) channel l h = absurd (omega arith)
same-bits place (w ∷ ws) [] channel l h = absurd (omega arith)
same-bits place (w ∷ ws) (v ∷ vs) First l h =
    ap₂ (λ x y. x ∷ y) (h 0 (omega arith)) (same-bits place ws vs Second (omega arith) (λ i g. h (suc i) (omega arith)))
same-bits place (w ∷ ws) (v ∷ vs) Second l h
    = same-bits place ws vs First (omega arith) (λ i g. h (suc i) (omega arith))

-- and so what they say of their samples
abbrev pub AllSame : ℕ → List ℕ → List ℕ → Type 0
AllSame j ws vs = (i : ℕ) → i < length ws → SameAt j (get_or ws i 0) (get_or vs i 0)

same-validity : (ws vs : List ℕ) (channel : Channel) → length ws ≡ length vs → AllSame 56 ws vs
    → validity_of (payloads_of (read_words ws)) channel ≡ validity_of (payloads_of (read_words vs)) channel
unfolding validity_of validity_place audio_len
same-validity ws vs channel l h =
    ap (bytes_in status_len) (same-bits 24 ws vs channel l
    (λ i g. agree (get_or ws i 0) (get_or vs i 0) 24 (omega arith) (h i g)))

same-status : (ws vs : List ℕ) (channel : Channel) → length ws ≡ length vs → AllSame 60 ws vs
    → status_of (payloads_of (read_words ws)) channel ≡ status_of (payloads_of (read_words vs)) channel
unfolding status_of status_place audio_len
same-status ws vs channel l h =
    ap (bytes_in status_len) (same-bits 26 ws vs channel l
    (λ i g. agree (get_or ws i 0) (get_or vs i 0) 26 (omega arith) (h i g)))

abbrev said : List ℕ → List ℕ → List ℕ → List ℕ → Signals
said a b d e = record {
  first = record { status = a; invalid = ones_in b };
  second
      = record { status = d; invalid = ones_in e };
}

signals-said : (b : List (List Bool))
    → signals_of b ≡ said (status_of b First) (validity_of b First) (status_of b Second) (validity_of b Second)
unfolding signals_of
signals-said b = refl

pub same-signals : (ws vs : List ℕ) → length ws ≡ length vs → AllSame 56 ws vs → AllSame 60 ws vs
    → signals_of (payloads_of (read_words ws)) ≡ signals_of (payloads_of (read_words vs))
same-signals ws vs l v s =
    let x = payloads_of (read_words ws) in
    let y = payloads_of (read_words vs) in
    signals-said x
    ∙ ap₂ (λ a b. said a b (status_of x Second) (validity_of x Second)) (same-status ws vs First l s)
    (same-validity ws vs First l v)
    ∙ ap₂ (λ a b. said (status_of y First) (validity_of y First) a b) (same-status ws vs Second l s)
    (same-validity ws vs Second l v)
    ∙ sym (signals-said y)

-- the bits that are gathered where words differ
even-sum : (a b c d : ℕ) → a < 2 → b < 2 → c < 2 → d < 2 → ((a + b) % 2 + (c + d) % 2) % 2 ≡ 0
    → (a + c) % 2 ≡ (b + d) % 2
even-sum a b c d h g k l e = omega arith

turned-bit : (t v j : ℕ) → bit_at (bit_xor (bit_xor t v) (bit_xor t v / 2 ^ 1)) j ≡ 0 → SameAt j t v
turned-bit t v j e =
    let x = bit_xor t v in
    let n : 1 + j ≡ suc j = omega arith in
    let a : bit_at x j ≡ (bit_at t j + bit_at v j) % 2 = bit_at_xor t v j in
    let b : bit_at (x / 2 ^ 1) j ≡ (bit_at t (suc j) + bit_at v (suc j)) % 2
    = bit_at-shr x 1 j ∙ ap (bit_at x) n ∙ bit_at_xor t v (suc j) in
    even-sum (bit_at t j) (bit_at v j) (bit_at t (suc j)) (bit_at v (suc j))
    (bit_at-lt t j) (bit_at-lt v j) (bit_at-lt t (suc j)) (bit_at-lt v (suc j))
    (ap₂ (λ x y. (x + y) % 2) (sym a) (sym b) ∙ sym (bit_at_xor x (x / 2 ^ 1) j) ∙ e)

-- sixteen more words, by lanes
abbrev pub Alike : ℕ → List ℕ → List ℕ → List ℕ → Type 0
Alike n unlike ws lasts = (m : ℕ) → m < n → (j : ℕ) → bit_at (get_or unlike (m % 16) 0) j ≡ 0
    → SameAt j (last_cells (get_or ws m 0)) (get_or lasts m 0)

abbrev pub turned_lanes : List ℕ → List ℕ → List ℕ
turned_lanes t v = zip2 bit_xor t v

abbrev pub moved_lanes : List ℕ → List ℕ
moved_lanes x = zip2 (λ a b. a / 2 ^ b) x (replicate 16 1)

abbrev pub unlike_lanes : List ℕ → List ℕ → List ℕ → List ℕ
unlike_lanes unlike t v = zip2 bit_or unlike (zip2 bit_xor (turned_lanes t v) (moved_lanes (turned_lanes t v)))

module _ (unlike t v : List ℕ) (lu : length unlike ≡ 16) (lt : length t ≡ 16) (lv : length v ≡ 16) where
  l-turned : length (turned_lanes t v) ≡ 16
  l-turned = length-zip2 bit_xor t v (lt ∙ sym lv) ∙ lt

  l-moved : length (moved_lanes (turned_lanes t v)) ≡ 16
  l-moved = length-zip2 (λ a b. a / 2 ^ b) (turned_lanes t v) (replicate 16 1) l-turned ∙ l-turned

  l-both : length (zip2 bit_xor (turned_lanes t v) (moved_lanes (turned_lanes t v))) ≡ 16
  l-both = length-zip2 bit_xor (turned_lanes t v) (moved_lanes (turned_lanes t v)) (l-turned ∙ sym l-moved) ∙ l-turned

  pub l-unlike : length (unlike_lanes unlike t v) ≡ 16
  l-unlike =
      length-zip2 bit_or unlike (zip2 bit_xor (turned_lanes t v) (moved_lanes (turned_lanes t v))) (lu ∙ sym l-both)
      ∙ lu

  lane : (r : ℕ) → r < 16
      → get_or (unlike_lanes unlike t v) r 0
      ≡ bit_or (get_or unlike r 0)
      (bit_xor (bit_xor (get_or t r 0) (get_or v r 0)) (bit_xor (get_or t r 0) (get_or v r 0) / 2 ^ 1))
  lane r h =
      let x = turned_lanes t v in
      let m = moved_lanes x in
      let a : get_or x r 0 ≡ bit_xor (get_or t r 0) (get_or v r 0)
      = get_or-zip2 bit_xor t v r 0 0 0 (omega (arith, h, lt)) (omega (arith, h, lv)) in
      let b : get_or m r 0 ≡ get_or x r 0 / 2 ^ 1
      = get_or-zip2 (λ a b. a / 2 ^ b) x (replicate 16 1) r 0 0 0 (omega (arith, h, l-turned)) h
      ∙ ap (λ n. get_or x r 0 / 2 ^ n) (get_or-replicate 16 r 1 0 h) in
      get_or-zip2 bit_or unlike (zip2 bit_xor x m) r 0 0 0 (omega (arith, h, lu)) (omega (arith, h, l-both))
      ∙ ap (bit_or (get_or unlike r 0))
      (get_or-zip2 bit_xor x m r 0 0 0 (omega (arith, h, l-turned)) (omega (arith, h, l-moved))
      ∙ ap₂ bit_xor a (b ∙ ap (λ n. n / 2 ^ 1) a))

  lane-same : (r j : ℕ) → r < 16 → bit_at (get_or (unlike_lanes unlike t v) r 0) j ≡ 0
      → (bit_at (get_or unlike r 0) j ≡ 0) × SameAt j (get_or t r 0) (get_or v r 0)
  lane-same r j h e =
      let x = bit_xor (get_or t r 0) (get_or v r 0) in
      let m = bit_at_or (get_or unlike r 0) (bit_xor x (x / 2 ^ 1)) j in
      let z = ap (λ n. bit_at n j) (sym (lane r h)) ∙ e in
      (omega (arith, m, z), turned-bit (get_or t r 0) (get_or v r 0) j (omega (arith, m, z)))

  pub more-lanes : (i : ℕ) (ws lasts : List ℕ) → 16 * i + 16 ≤ length ws → 16 * i + 16 ≤ length lasts
      → t ≡ map last_cells (take 16 (drop (16 * i) ws)) → v ≡ take 16 (drop (16 * i) lasts)
      → Alike (16 * i) unlike ws lasts
      → Alike (16 * (i + 1)) (unlike_lanes unlike t v) ws lasts
  more-lanes i ws lasts g k e f h m l j z = go (cases_lt m (16 * i))
    where
      both : (bit_at (get_or unlike (m % 16) 0) j ≡ 0) × SameAt j (get_or t (m % 16) 0) (get_or v (m % 16) 0)
      both = lane-same (m % 16) j (omega arith) z

      place : 16 * i ≤ m → 16 * i + m % 16 ≡ m
      place q = omega (arith, q, l)

      cell-t : 16 * i ≤ m → get_or t (m % 16) 0 ≡ last_cells (get_or ws m 0)
      cell-t q =
          let p = place q in
          ap (λ y. get_or y (m % 16) 0) e
          ∙ get_or-map last_cells (take 16 (drop (16 * i) ws)) (m % 16) 0 0
          (omega (arith, length-chunk (16 * i) 16 ws g))
          ∙ ap last_cells (get_or-chunk (16 * i) 16 ws (m % 16) 0 (omega arith) ∙ ap (λ y. get_or ws y 0) p)

      cell-v : 16 * i ≤ m → get_or v (m % 16) 0 ≡ get_or lasts m 0
      cell-v q =
          let p = place q in
          ap (λ y. get_or y (m % 16) 0) f ∙ get_or-chunk (16 * i) 16 lasts (m % 16) 0 (omega arith)
          ∙ ap (λ y. get_or lasts y 0) p

      go : (m < 16 * i) ⊎ (16 * i ≤ m) → SameAt j (last_cells (get_or ws m 0)) (get_or lasts m 0)
      go (inl q) = h m q j both.0
      go (inr q) =
          subst (λ y. SameAt j y (get_or lasts m 0)) (cell-t q)
          (subst (λ y. SameAt j (get_or t (m % 16) 0) y) (cell-v q) both.1)

pub lanes-long : (at : ℕ) (ws t : List ℕ) → at + 16 ≤ length ws → t ≡ map last_cells (take 16 (drop at ws))
    → length t ≡ 16
lanes-long at ws t g e = ap length e ∙ length-map (take 16 (drop at ws)) last_cells ∙ length-chunk at 16 ws g

-- none of the bits that count is left in any lane
or-none : (a j : ℕ) (xs : List ℕ) → bit_at (fold_l bit_or a xs) j ≡ 0
    → (bit_at a j ≡ 0) × ((r : ℕ) → bit_at (get_or xs r 0) j ≡ 0)
or-none a j [] e = (e, λ r. bit_at-zero j)
or-none a j (x ∷ xs) e =
    let f = or-none (bit_or a x) j xs e in
    let m = bit_at_or a x j in
    let z = f.0 in (
      omega (arith, m, z),
      λ r. go r (omega (arith, m, z)) f.1,
    )
  where
    go : (r : ℕ) → bit_at x j ≡ 0 → ((r : ℕ) → bit_at (get_or xs r 0) j ≡ 0) → bit_at (get_or (x ∷ xs) r 0) j ≡ 0
    go zero z h = z
    go (suc r) z h = h r

none-left : (unlike j : ℕ) → bit_at 17 j ≡ 1 → bit_and unlike 17 ≡ 0 → bit_at unlike j ≡ 0
none-left unlike j m e =
    let a = bit_at_and unlike 17 j in
    let z : bit_at (bit_and unlike 17) j ≡ 0 = ap (λ n. bit_at n j) e ∙ bit_at-zero j in
    let l = bit_at-lt unlike j in
    omega (arith, a, z, l, m)

same-word : (j w v : ℕ) → SameAt j (last_cells w) (last_cells v) → SameAt (56 + j) w v
same-word j w v e =
    let n : 56 + suc j ≡ suc (56 + j) = omega arith in
    ap₂ (λ a b. (a + b) % 2) (sym (bit_at-shr w 56 j)) (sym (bit_at-shr w 56 (suc j) ∙ ap (bit_at w) n)) ∙ e
    ∙ ap₂ (λ a b. (a + b) % 2) (bit_at-shr v 56 j) (bit_at-shr v 56 (suc j) ∙ ap (bit_at v) n)

pub carried-same : (n : ℕ) (unlike ws lasts vs : List ℕ) → length ws ≤ n → length ws ≡ length lasts
    → Alike n unlike ws lasts → bit_and (fold_l bit_or 0 unlike) 17 ≡ 0 → map last_cells vs ≡ lasts
    → signals_of (payloads_of (read_words ws)) ≡ signals_of (payloads_of (read_words vs))
carried-same n unlike ws lasts vs l k h e q = same-signals ws vs long (each 0 refl) (each 4 refl)
  where
    long : length ws ≡ length vs
    long = k ∙ ap length (sym q) ∙ length-map vs last_cells

    each : (j : ℕ) → bit_at 17 j ≡ 1 → AllSame (56 + j) ws vs
    each j b i g =
        let m : i < length vs = omega (arith, g, long) in
        let z = (or-none 0 j unlike (none-left (fold_l bit_or 0 unlike) j b e)).1 (i % 16) in
        let c = ap (λ y. get_or y i 0) (sym q) ∙ get_or-map last_cells vs i 0 0 m in
        same-word j (get_or ws i 0) (get_or vs i 0)
        (subst (λ y. SameAt j (last_cells (get_or ws i 0)) y) c (h i (omega (arith, g, l)) j z))

-- the last eight cells of each word
pub lasts-more : (i : ℕ) (ws lasts : List ℕ) → i < length ws → i < length lasts
    → take i lasts ≡ map last_cells (take i ws)
    → take (i + 1) (set lasts i (last_cells (get_or ws i 0))) ≡ map last_cells (take (i + 1) ws)
lasts-more i ws lasts g k h =
    take_more_set lasts i (last_cells (get_or ws i 0)) k ∙ ap (λ a. a ++ last_cells (get_or ws i 0) ∷ []) h
    ∙ sym (map-append last_cells (take i ws) (get_or ws i 0 ∷ [])) ∙ ap (map last_cells) (sym (take_more ws i 0 g))

pub lasts-all : (n : ℕ) (ws lasts : List ℕ) → length ws ≤ n → length lasts ≤ n
    → take n lasts ≡ map last_cells (take n ws) → lasts ≡ map last_cells ws
lasts-all n ws lasts g k h = sym (take_all n lasts k) ∙ h ∙ ap (map last_cells) (take_all n ws g)

-- what is kept of a block, and a block that says the same
pub said_same : (lasts : List ℕ) (now : Signals) (ws : List ℕ) → SaysSo lasts now
    → ((others : List ℕ) → map last_cells others ≡ lasts
    → signals_of (payloads_of (read_words ws)) ≡ signals_of (payloads_of (read_words others)))
    → now ≡ signals_of (payloads_of (read_words ws))
said_same lasts now ws k h = k.2 ∙ sym (h k.0 k.1)

pub said_new : (ws : List ℕ) → SaysSo (map last_cells ws) (signals_of (payloads_of (read_words ws)))
said_new ws = (ws, refl, refl)
