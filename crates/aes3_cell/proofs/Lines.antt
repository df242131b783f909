-- Lines of cell text.
use Rattle.std.proofs.Common.{◌≡◌, ℕ, zero, suc, ◌+◌, ◌*◌, ◌/◌, ◌%◌, ◌^◌, ◌<◌, ◌≤◌, List, [], ◌∷◌, ◌++◌, length, take}
use Rattle.std.proofs.Common.{drop, map, refl, sym, ap, ap₂, ◌∙◌, arith, cond, eqb, replicate, eq-eqb, ne_eqb}
use Rattle.std.proofs.Common.{append_assoc, append-nil, length-append, take-append-drop, subst, true, w64, length-drop}
use Rattle.std.proofs.Common.{zero-add, suc-add}
use Rattle.std.proofs.lemmas.List.{map-append, take_all, take-append-le, drop-append-le, nil_from_length}
use Rattle.aes3_level.specs.declared.level.Level.{Level}
use Rattle.aes3_level.specs.Words.{level_of, low_cells, word_len, word_cells}
use Rattle.aes3_cell.specs.Text.{byte_of, line_text, lines_text, text_of}
use Rattle.aes3_cell.specs.Pending.{text_added, begun_after}
use Rattle.std.specs.Prelude.{bit_and}
use Rattle.std.specs.Int.{byte_at, to_le_bytes}
use Rattle.std.specs.List.{flat_map}
use Rattle.std.specs.Simd.Lanes.{zip2, pick_l, sel_l, top}
use Rattle.std.proofs.lemmas.Bool.{agree_below_at}
use Rattle.std.proofs.lemmas.Nat.{shr-shr}
use Rattle.aes3_level.proofs.Moves.{same_places, same_places-is}
use Rattle.aes3_level.proofs.WordCells.{word_len_64, low_cells-add, low_cells-mod, length-low_cells}

-- which of its bits an octet has for cell 0, cell 1, and so on
abbrev places : List ℕ
places = 1 ∷ 2 ∷ 4 ∷ 8 ∷ 16 ∷ 32 ∷ 64 ∷ 128 ∷ []

-- the characters of an octet, by computation over all
unfoldable pub characters : ℕ → List ℕ
characters octet =
    sel_l (map (top 7) (zip2 (λ a b. cond (eqb a b) 255 0) (zip2 bit_and (replicate 8 octet) places) places))
    (replicate 8 49) (replicate 8 48)

pub eight-characters : (octet : ℕ) → octet < 256 → characters octet ≡ map byte_of (low_cells 8 octet)
unfolding characters
eight-characters octet h =
    same_places-is (characters octet) (map byte_of (low_cells 8 octet))
    (agree_below_at (λ n. same_places (characters n) (map byte_of (low_cells 8 n))) (λ _. true) 256 octet refl h)

-- the octet that has each cell of a word, and its bit there
abbrev octet_numbers : List ℕ
octet_numbers = flat_map {X = ℕ} (replicate 8) (0 ∷ 1 ∷ 2 ∷ 3 ∷ 4 ∷ 5 ∷ 6 ∷ 7 ∷ [])

abbrev all_places : List ℕ
all_places = flat_map {X = ℕ} (λ _. places) (0 ∷ 1 ∷ 2 ∷ 3 ∷ 4 ∷ 5 ∷ 6 ∷ 7 ∷ [])

-- the characters of eight octets, all at once
abbrev pub lanes_text : List ℕ → List ℕ
lanes_text octets =
    sel_l (map (top 7) (zip2 (λ a b. cond (eqb a b) 255 0)
    (zip2 bit_and (pick_l 0 (octets ++ octets) octet_numbers) all_places) all_places))
    (replicate 64 49) (replicate 64 48)

eight-octets : (a b c d e f g h : ℕ) → lanes_text (a ∷ b ∷ c ∷ d ∷ e ∷ f ∷ g ∷ h ∷ [])
    ≡ characters a ++ (characters b
    ++ (characters c ++ (characters d ++ (characters e ++ (characters f ++ (characters g ++ (characters h ++ [])))))))
unfolding characters
eight-octets a b c d e f g h = refl

-- the characters of an octet of a word and those behind it
octet-text : (w n m octet : ℕ) (behind : List ℕ) → octet ≡ w / 2 ^ n % 256
    → behind ≡ map byte_of (low_cells m (w / 2 ^ (n + 8)))
    → characters octet ++ behind ≡ map byte_of (low_cells (8 + m) (w / 2 ^ n))
octet-text w n m octet behind o e =
    ap₂ (λ a b. a ++ b)
    (eight-characters octet (omega (arith, o)) ∙ ap (λ v. map byte_of (low_cells 8 v)) o
    ∙ ap (map byte_of) (low_cells-mod (w / 2 ^ n)))
    (e ∙ ap (λ v. map byte_of (low_cells m v)) (sym (shr-shr w n 8)))
    ∙ sym (map-append byte_of (low_cells 8 (w / 2 ^ n)) (low_cells m (w / 2 ^ n / 2 ^ 8)))
    ∙ ap (map byte_of) (sym (low_cells-add 8 m (w / 2 ^ n)))

pub word-text : (w : ℕ) → lanes_text (to_le_bytes w64 w) ≡ map byte_of (word_cells w)
unfolding word_cells word_len
word-text w =
    eight-octets _ _ _ _ _ _ _ _
    ∙ octet-text w 0 56 (byte_at 0 w) _ (omega arith)
    (octet-text w 8 48 (byte_at 1 w) _ (omega arith)
    (octet-text w 16 40 (byte_at 2 w) _ (omega arith)
    (octet-text w 24 32 (byte_at 3 w) _ (omega arith)
    (octet-text w 32 24 (byte_at 4 w) _ (omega arith)
    (octet-text w 40 16 (byte_at 5 w) _ (omega arith)
    (octet-text w 48 8 (byte_at 6 w) _ (omega arith)
    (octet-text w 56 0 (byte_at 7 w) [] (omega arith) refl)))))))
    ∙ ap (λ v. map byte_of (low_cells 64 v)) (let e : w / 2 ^ 0 ≡ w = omega arith in e)

pub line-whole : (line : List ℕ) (w k : ℕ) → k ≡ 8 → take (8 * k) line ≡ map byte_of (low_cells (8 * k) w)
    → drop 64 line ≡ 10 ∷ [] → line ≡ line_text (word_cells w)
unfolding word_cells word_len
line-whole line w k e front back =
    let j : 8 * k ≡ 64 = omega (arith, e) in
    sym (take-append-drop 64 line)
    ∙ ap₂ (λ a b. a ++ b) (subst (λ n. take n line ≡ map byte_of (low_cells n w)) j front) back

-- a cell put behind the cells begun, which are those of a number
pub put-short : (p : List Level) (n w : ℕ) (l : Level) → low_cells n w ≡ p → n + 1 < 64 → text_added p l ≡ []
put-short p n w l e h =
    let i : length p ≡ n = ap length (sym e) ∙ length-low_cells n w in
    ap (λ b. cond b (line_text (p ++ l ∷ [])) [])
    (ne_eqb (suc (length p)) word_len (λ y. let k = word_len_64 in omega arith))

pub put-begun : (p : List Level) (n w : ℕ) (l : Level) → low_cells n w ≡ p → n + 1 < 64
    → begun_after p l ≡ low_cells n w ++ l ∷ []
put-begun p n w l e h =
    let i : length p ≡ n = ap length (sym e) ∙ length-low_cells n w in
    ap (λ b. cond {A = List Level} b [] (p ++ l ∷ []))
    (ne_eqb (suc (length p)) word_len (λ y. let k = word_len_64 in omega arith))
    ∙ ap (λ c. c ++ l ∷ []) (sym e)

-- the cell that ends a line
pub put-full : (p : List Level) (n w v : ℕ) (l : Level) → low_cells n w ≡ p → n + 1 ≡ 64
    → low_cells (n + 1) v ≡ low_cells n w ++ l ∷ []
    → line_text (word_cells v) ≡ text_added p l
unfolding word_cells word_len
put-full p n w v l e h q =
    let i : length p ≡ n = ap length (sym e) ∙ length-low_cells n w in
    ap (λ k. line_text (low_cells k v)) (sym h) ∙ ap line_text (q ∙ ap (λ c. c ++ l ∷ []) e)
    ∙ sym (ap (λ b. cond b (line_text (p ++ l ∷ [])) []) (eq-eqb (suc (length p)) 64 (omega arith)))

pub put-done : (p : List Level) (n w : ℕ) (l : Level) → low_cells n w ≡ p → n + 1 ≡ 64 → begun_after p l ≡ []
put-done p n w l e h =
    let i : length p ≡ n = ap length (sym e) ∙ length-low_cells n w in
    ap (λ b. cond {A = List Level} b [] (p ++ l ∷ []))
    (eq-eqb (suc (length p)) word_len (let k = word_len_64 in omega arith))

-- the character of a bit
pub level-byte : (b : ℕ) → b < 2 → 48 + b ≡ byte_of (level_of b)
level-byte zero h = refl
level-byte (suc zero) h = refl
level-byte (suc (suc b)) h = absurd (omega arith)

-- the text of whole lines, joined
lines-append : (n m : ℕ) (a b : List Level) → length a ≡ n * word_len
    → lines_text (n + m) (a ++ b) ≡ lines_text n a ++ lines_text m b
lines-append zero m a b h = ap₂ (λ k c. lines_text k c) (zero-add m)
    (ap (λ c. c ++ b) (nil_from_length a (omega arith)))
lines-append (suc n) m a b h =
    let w = word_len_64 in
    let le : word_len ≤ length a = omega arith in
    let d : length (drop word_len a) ≡ n * word_len = omega (arith, length-drop word_len a) in
    ap (λ k. lines_text k (a ++ b)) (suc-add n m)
    ∙ ap₂ (λ c t. line_text c ++ t) (take-append-le word_len a b le)
    (ap (lines_text (n + m)) (drop-append-le word_len a b le) ∙ lines-append n m (drop word_len a) b d)
    ∙ sym (append_assoc (line_text (take word_len a)) (lines_text n (drop word_len a)) (lines_text m b))

pub text_of-append : (n : ℕ) (a b : List Level) → length a ≡ n * word_len → text_of (a ++ b) ≡ text_of a ++ text_of b
unfolding text_of word_len
text_of-append n a b h =
    let e : length a / word_len ≡ n = count n (length a) h in
    let f : length (a ++ b) / word_len ≡ n + length b / word_len =
    ap (λ k. k / word_len) (length-append a b ∙ ap (λ k. k + length b) h) ∙ more n (length b) in
    ap (λ k. lines_text k (a ++ b)) f ∙ lines-append n (length b / word_len) a b h
    ∙ ap (λ k. lines_text k a ++ lines_text (length b / word_len) b) (sym e)
  where
    count : (n k : ℕ) → k ≡ n * word_len → k / word_len ≡ n
    count n k h = omega arith

    more : (n k : ℕ) → (n * word_len + k) / word_len ≡ n + k / word_len
    more n k = omega arith

-- one line
pub text_of-line : (c : List Level) → length c ≡ word_len → text_of c ≡ line_text c
unfolding text_of word_len
text_of-line c h =
    let e : length c / 64 ≡ 1 = omega arith in
    ap (λ k. lines_text k c) e ∙ append-nil (line_text (take 64 c)) ∙ ap line_text (take_all 64 c (omega arith))
