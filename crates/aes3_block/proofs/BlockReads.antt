-- The bytes of a block read at once.
use Rattle.std.proofs.Common.{◌≡◌, ℕ, zero, suc, ◌+◌, ◌*◌, ◌/◌, ◌%◌, ◌^◌, ◌<◌, ◌≤◌, ◌⊎◌, inl, inr, ◌↔◌, List, [], ◌∷◌}
use Rattle.std.proofs.Common.{◌++◌, Bool, true, ◌&&◌, eqb, eq-eqb, eqb-true, length, map, take, drop, get_or, set, None}
use Rattle.std.proofs.Common.{refl, sym, ap, ap₂, ◌∙◌, subst, arith, append-nil, append_assoc, length-append}
use Rattle.std.proofs.Common.{length-drop, w32}
use Rattle.std.specs.Prelude.{bit_or, count_ones}
use Rattle.std.specs.Int.{bit_at, from_le_bytes}
use Rattle.std.specs.Int.Count.{ones_step}
use Rattle.std.specs.List.{flat_map}
use Rattle.std.proofs.lemmas.Bool.{and_parts, cases_lt}
use Rattle.std.proofs.lemmas.Grind.{flat_map-append}
use Rattle.std.proofs.lemmas.List.{take_more_set, get_or-drop, nil_from_length}
use Rattle.std.proofs.Math.Seq.{take-add}
use Rattle.std.proofs.lemmas.Nat.Bits.{bit_at_lowest, bit_at_or}
use Rattle.aes3_frame.proofs.BitLemmas.{word-parity}
use Rattle.aes3_frame.specs.Files.{has_code, has_parity, is_lawful, low_bytes, payload_of, word_bytes, words_of}
use Rattle.aes3_block.specs.Readers.{FileReader, TakesBlock, TakesQuietly, next_with}
use Rattle.aes3_frame.proofs.FileLaws.{words-of-word}
use Rattle.aes3_block.proofs.Reading.{stored, reader-is, lawful-fault}
use Rattle.aes3_block.proofs.WordReads.{takes-word, ends-block, number-bytes}

-- bytes behind others
quiet-join : (a b : List ℕ) (r s t : FileReader) → TakesQuietly r a s → TakesQuietly s b t → TakesQuietly r (a ++ b) t
quiet-join [] b r s t p q = subst (λ (v : FileReader). TakesQuietly v b t) p q
quiet-join (x ∷ a) b r s t p q = (p.0, quiet-join a b (next_with r x) s t p.1 q)

block-behind : (r s t : FileReader) (a b : List ℕ) (block : List (List Bool)) → TakesQuietly r a s
    → TakesBlock s b block t → TakesBlock r (a ++ b) block t
block-behind r s t a b block q h = record {
  quiet = a ++ h.quiet;
  last = h.last;
  is = append_assoc a h.quiet (h.last ∷ []) ∙ ap (λ z. a ++ z) h.is;
  behind = h.behind;
  taken = quiet-join a h.quiet r s h.behind q h.taken;
  ends = h.ends;
  next = h.next;
}

block-is : (r : FileReader) {a b : List ℕ} {x y : List (List Bool)} {s t : FileReader} → a ≡ b → x ≡ y → s ≡ t
    → TakesBlock r a x s → TakesBlock r b y t
block-is r {a} {b} {x} {y} {s} {t} e f g h =
    subst (λ (z : FileReader). TakesBlock r b y z) g
    (subst (λ (z : List (List Bool)). TakesBlock r b z s) f (subst (λ (z : List ℕ). TakesBlock r z x s) e h))

-- the bytes of the words that a block lacks
words-end-block : (seen : ℕ) (have ws : List ℕ) (u : ℕ) → seen % 4 ≡ 0 → length have ≡ seen / 4 % 384
    → length have + length ws ≡ 384
    → ((i : ℕ) → i < length ws → get_or ws i 0 < 2 ^ 32) → ((i : ℕ) → i < length ws → is_lawful (get_or ws i 0) ≡ true)
    → TakesBlock (stored seen have u None) (flat_map word_bytes ws) (map payload_of (have ++ ws))
    (stored (seen + 4 * length ws) [] 0 None)
words-end-block seen have [] u z l n fit h = absurd (omega (arith, l, n))
words-end-block seen have (w ∷ []) u z l n fit h =
    block-is (stored seen have u None) (sym (append-nil (word_bytes w))) refl
    (ap (λ k. stored k [] 0 None) (let e : seen + 4 ≡ seen + 4 * 1 = omega arith in e))
    (ends-block seen have u w z l (fit 0 (omega arith)) (lawful-fault (seen / 4) w (h 0 (omega arith)))
    (omega (arith, l, n)))
words-end-block seen have (w ∷ v ∷ ws) u z l n fit h =
    let k = length-append have (w ∷ []) in
    block-behind (stored seen have u None) (stored (seen + 4) (have ++ w ∷ []) 0 None)
    (stored (seen + 4 * length (w ∷ v ∷ ws)) [] 0 None)
    (word_bytes w) (flat_map word_bytes (v ∷ ws)) (map payload_of (have ++ w ∷ v ∷ ws))
    (takes-word seen have u w z l (fit 0 (omega arith)) (lawful-fault (seen / 4) w (h 0 (omega arith)))
    (omega (arith, l, n)))
    (block-is (stored (seen + 4) (have ++ w ∷ []) 0 None) refl
    (ap (map payload_of) (append_assoc have (w ∷ []) (v ∷ ws)))
    (ap (λ k. stored k [] 0 None) (let e : seen + 4 + 4 * length (v ∷ ws) ≡ seen + 4 * length (w ∷ v ∷ ws) =
    omega arith in e))
    (words-end-block (seen + 4) (have ++ w ∷ []) (v ∷ ws) 0 (omega (arith, z)) (omega (arith, k, z, l, n))
    (omega (arith, k, n))
    (λ i g. fit (suc i) (omega (arith, g))) (λ i g. h (suc i) (omega (arith, g)))))

-- the bytes of a block where none is begun
pub takes-block : (seen : ℕ) (have : List ℕ) (u : ℕ) (ws bytes : List ℕ) → seen % 1536 ≡ 0
    → length have ≡ seen / 4 % 384 → flat_map word_bytes ws ≡ bytes → length ws ≡ 384
    → ((i : ℕ) → i < length ws → get_or ws i 0 < 2 ^ 32) → ((i : ℕ) → i < length ws → is_lawful (get_or ws i 0) ≡ true)
    → TakesBlock (stored seen have u None) bytes (map payload_of ws) (stored (seen + 1536) have u None)
takes-block seen have u ws bytes z l e n fit h =
    let p : have ≡ [] = nil_from_length have (omega (arith, l, z)) in
    let j : (seen + 4 * length ws) % 4 ≡ 0 = omega (arith, z) in
    let k : (seen + 1536) % 4 ≡ 0 = omega (arith, z) in
    block-is (stored seen have u None) e (ap (λ a. map payload_of (a ++ ws)) p)
    (reader-is (let m : seen + 4 * length ws ≡ seen + 1536 = omega (arith, n) in m) (sym p) (ap (λ m. low_bytes m 0) j
    ∙ sym (ap (λ m. low_bytes m u) k)))
    (words-end-block seen have ws u (omega (arith, z)) l (omega (arith, l, z, n)) fit h)

-- the word of four more bytes
first-four : (xs : List ℕ) → 4 ≤ length xs
    → take 4 xs ≡ get_or xs 0 0 ∷ get_or xs 1 0 ∷ get_or xs 2 0 ∷ get_or xs 3 0 ∷ []
first-four [] h = absurd (omega arith)
first-four (a ∷ []) h = absurd (omega arith)
first-four (a ∷ b ∷ []) h = absurd (omega arith)
first-four (a ∷ b ∷ c ∷ []) h = absurd (omega arith)
first-four (a ∷ b ∷ c ∷ d ∷ rest) h = refl

four-fit : (a b c d : ℕ) → a < 256 → b < 256 → c < 256 → d < 256 → (j : ℕ) → get_or (a ∷ b ∷ c ∷ d ∷ []) j 0 < 256
four-fit a b c d f g h k zero = f
four-fit a b c d f g h k (suc zero) = g
four-fit a b c d f g h k (suc (suc zero)) = h
four-fit a b c d f g h k (suc (suc (suc zero))) = k
four-fit a b c d f g h k (suc (suc (suc (suc j)))) = omega arith

pub word-more : (words bytes : List ℕ) (i w : ℕ) → i < length words → 4 * i + 4 ≤ length bytes
    → ((j : ℕ) → get_or bytes j 0 < 256) → w < 2 ^ 32
    → flat_map word_bytes (take i words) ≡ take (4 * i) bytes
    → w ≡ from_le_bytes w32
    (get_or bytes (4 * i) 0 ∷ get_or bytes (4 * i + 1) 0 ∷ get_or bytes (4 * i + 2) 0 ∷ get_or bytes (4 * i + 3) 0 ∷ [])
    → flat_map word_bytes (take (i + 1) (set words i w)) ≡ take (4 * (i + 1)) bytes
word-more words bytes i w h l fit lt e q =
    ap (flat_map word_bytes) (take_more_set words i w h) ∙ flat_map-append word_bytes (take i words) (w ∷ [])
    ∙ ap₂ ◌++◌ e (append-nil (word_bytes w)
    ∙ sym (number-bytes _ w refl
    (four-fit _ _ _ _ (fit (4 * i)) (fit (4 * i + 1)) (fit (4 * i + 2)) (fit (4 * i + 3))) q lt) ∙ sym four)
    ∙ sym (take-add (4 * i) 4 bytes) ∙ ap (λ n. take n bytes) (let n : 4 * i + 4 ≡ 4 * (i + 1) = omega arith in n)
  where
    at : (j k : ℕ) → 4 * i + j ≡ k → get_or (drop (4 * i) bytes) j 0 ≡ get_or bytes k 0
    at j k e = get_or-drop (4 * i) bytes j 0 ∙ ap (λ n. get_or bytes n 0) e

    four : take 4 (drop (4 * i) bytes) ≡ get_or bytes (4 * i) 0 ∷ get_or bytes (4 * i + 1) 0 ∷ get_or bytes
        (4 * i + 2) 0 ∷ get_or bytes (4 * i + 3) 0 ∷ []
    four =
        let d = length-drop (4 * i) bytes in
        first-four (drop (4 * i) bytes) (omega (arith, d, l))
        ∙ ap₂ (λ x y. x ∷ y) (at 0 (4 * i) (omega arith))
        (ap₂ (λ x y. x ∷ y) (at 1 (4 * i + 1) refl)
        (ap₂ (λ x y. x ∷ y ∷ []) (at 2 (4 * i + 2) refl) (at 3 (4 * i + 3) refl)))

-- the code of words or-ed together
four-bits : (w : ℕ) → ((i : ℕ) → i < 4 → bit_at w i ≡ 0) → w % 16 ≡ 0
four-bits w h =
    let a : w / 2 ^ 0 % 2 ≡ 0 = h 0 (omega arith) in
    let b : w / 2 ^ 1 % 2 ≡ 0 = h 1 (omega arith) in
    let c : w / 2 ^ 2 % 2 ≡ 0 = h 2 (omega arith) in
    let d : w / 2 ^ 3 % 2 ≡ 0 = h 3 (omega arith) in
    omega (arith, a, b, c, d)

no-bit : (w i : ℕ) → w % 16 ≡ 0 → i < 4 → bit_at w i ≡ 0
no-bit w zero e h = omega arith
no-bit w (suc zero) e h = omega arith
no-bit w (suc (suc zero)) e h = omega arith
no-bit w (suc (suc (suc zero))) e h = omega arith
no-bit w (suc (suc (suc (suc i)))) e h = absurd (omega arith)

code-or : (a b : ℕ) → (bit_or a b % 16 ≡ 0) ↔ ((a % 16 ≡ 0) × (b % 16 ≡ 0))
code-or a b = (
  λ e. (
    four-bits a (λ i h. let o = sym (bit_at_or a b i) ∙ no-bit (bit_or a b) i e h in omega (arith, o)),
    four-bits b (λ i h. let o = sym (bit_at_or a b i) ∙ no-bit (bit_or a b) i e h in omega (arith, o)),
  ),
  λ e. four-bits (bit_or a b)
      (λ i h. let x = no-bit a i e.0 h in let y = no-bit b i e.1 h in bit_at_or a b i ∙ omega (arith, x, y)),
)

even-or : (a b : ℕ) → (bit_or a b % 2 ≡ 0) ↔ ((a % 2 ≡ 0) × (b % 2 ≡ 0))
even-or a b =
    let o = bit_at_or a b 0 in
    let x = bit_at_lowest a in
    let y = bit_at_lowest b in
    let z = bit_at_lowest (bit_or a b) in (
      λ e. (omega (arith, o, x, y, z, e), omega (arith, o, x, y, z, e)),
      λ e. let f = e.0 in let g = e.1 in
          omega (arith, o, x, y, z, f, g),
    )

-- a word with no code is lawful where its ones are even in number
ones-shifted : (w : ℕ) → w % 16 ≡ 0 → count_ones w ≡ count_ones (w / 16)
ones-shifted w h =
    let a = ones_step w in
    let b = ones_step (w / 2) in
    let c = ones_step (w / 2 / 2) in
    let d = ones_step (w / 2 / 2 / 2) in
    let e : w / 2 / 2 / 2 / 2 ≡ w / 16 = omega arith in
    let d = rw e at d in
    omega (arith, a, b, c, d)

lawful-even : (w : ℕ) → w < 2 ^ 32 → w % 16 ≡ 0 → is_lawful w ≡ eqb (count_ones w % 2) 0
lawful-even w l h =
    ap₂ ◌&&◌ (eq-eqb (w % 16) 0 h) (sym (word-parity w l) ∙ ap (λ n. eqb (n % 2) 0) (sym (ones-shifted w h)))

-- words judged together
pub record AreJudged (words : List ℕ) (n code odd : ℕ) : Type 0 where
  pub each : code % 16 ≡ 0 → odd % 2 ≡ 0 → (k : ℕ) → k < n → is_lawful (get_or words k 0) ≡ true
  pub owed : ((k : ℕ) → k < n → is_lawful (get_or words k 0) ≡ true) → (code % 16 ≡ 0) × (odd % 2 ≡ 0)

pub one-judged : (words : List ℕ) (i code odd : ℕ) → get_or words i 0 < 2 ^ 32 → AreJudged words i code odd
    → AreJudged words (i + 1) (bit_or code (get_or words i 0)) (bit_or odd (count_ones (get_or words i 0)))
one-judged words i code odd l j = record {
  each = λ e f k g.
      let c = (code-or code (get_or words i 0)).0 e in
      let o = (even-or odd (count_ones (get_or words i 0))).0 f in
      go k c.0 c.1 o.0 o.1 (cases_lt k i) g;
  owed = λ h.
      let w = h i (omega arith) in
      let c : get_or words i 0 % 16 ≡ 0 =
      eqb-true _ _ (and_parts (has_code (get_or words i 0)) (has_parity (get_or words i 0)) w).0 in
      let p = j.owed (λ k g. h k (omega (arith, g))) in (
        (code-or code (get_or words i 0)).1 (p.0, c),
        (even-or odd (count_ones (get_or words i 0))).1
            (p.1, eqb-true _ _ (sym (lawful-even (get_or words i 0) l c) ∙ w)),
      );
}
  where
    go : (k : ℕ) → code % 16 ≡ 0 → get_or words i 0 % 16 ≡ 0 → odd % 2 ≡ 0 → count_ones (get_or words i 0) % 2 ≡ 0
        → (k < i) ⊎ (i ≤ k) → k < i + 1 → is_lawful (get_or words k 0) ≡ true
    go k a b c d (inl lt) g = j.each a c k lt
    go k a b c d (inr le) g =
        let s : k ≡ i = omega (arith, g, le) in
        ap (λ n. is_lawful (get_or words n 0)) s ∙ lawful-even (get_or words i 0) l b
        ∙ eq-eqb (count_ones (get_or words i 0) % 2) 0 d

-- the words of their own bytes
pub words-again : (ws : List ℕ) → ((i : ℕ) → i < length ws → get_or ws i 0 < 2 ^ 32)
    → words_of (flat_map word_bytes ws) ≡ ws
words-again [] fit = refl
words-again (w ∷ ws) fit =
    words-of-word w (flat_map word_bytes ws) (fit 0 (omega arith))
    ∙ ap (λ v. w ∷ v) (words-again ws (λ i g. fit (suc i) (omega (arith, g))))
