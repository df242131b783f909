-- The cells of a block, four words of them at once.
use Rattle.std.proofs.Common.{◌≡◌, ℕ, ◌+◌, ◌-◌, ◌/◌, ◌%◌, ◌<◌, ◌≤◌, ◌⊎◌, inl, inr, List, ◌++◌, true, length, get_or}
use Rattle.std.proofs.Common.{set, take, drop, refl, sym, ap, ap₂, ◌∙◌, subst, arith, eqb-true, eq-eqb, ne_eqb}
use Rattle.std.proofs.Common.{length-append, length-drop, get_or-set_same, get_or-set_other}
use Rattle.std.specs.Prelude.{◌==◌, if◌then◌else◌}
use Rattle.std.specs.Simd.Lanes.{chunk, put_chunk}
use borrow.Rule.Slice.PartMut.{mid_of, put_mid, post_of}
use Rattle.std.proofs.lemmas.Bool.{and_parts, cases_eq, cases_lt}
use Rattle.std.proofs.lemmas.List.{get_or_append_left, get_or-append-add, get_or-take, get_or-drop, length-take-le}
use Rattle.std.proofs.lemmas.Simd.{get_or-chunk, get_or-put_chunk_at, length-put_chunk}
use Rattle.aes3_level.specs.declared.level.Level.{Level}
use Rattle.aes3_level.specs.Cells.{line}
use Rattle.aes3_level.specs.Words.{word_cells}
use Rattle.aes3_slot.specs.declared.mark.Mark.TheVariants.{X, Y, Z}
use Rattle.aes3_slot.specs.Slots.{slot_runs, slots_bits, subframe_runs}
use Rattle.aes3_frame.specs.Blocks.{mark_at}
use Rattle.aes3_frame.specs.Files.{has_code, has_parity, is_lawful, payload_of}
use Rattle.aes3_slot.proofs.Marks.{mark_at-zero, mark_at-odd, mark_at-even}
use Rattle.aes3_frame.proofs.Runs.{cells-word}

-- four words of a part to a block's end
pub four-read : (words : List ℕ) (a i : ℕ) → a + 4 ≤ 384 → i < 4
    → get_or (chunk 0 4 (mid_of a (384 - a) words)) i 0 ≡ get_or words (a + i) 0
four-read words a i room h =
    get_or-chunk 0 4 (mid_of a (384 - a) words) i 0 h ∙ get_or-take (384 - a) (drop a words) (0 + i) 0 (omega arith)
    ∙ get_or-drop a words (0 + i) 0
    ∙ ap (λ n. get_or words (a + n) 0) (let e : 0 + i ≡ i = omega arith in e)

pub lawful-code : (w : ℕ) → is_lawful w ≡ true → w % 16 ≡ 0
lawful-code w h = eqb-true _ _ (and_parts (has_code w) (has_parity w) h).0

-- the cells of word k, if all words but the first frame's have X and Y in turn
abbrev pub OfWord : Level → List ℕ → List ℕ → ℕ → Type 0
OfWord s words cells k =
    word_cells (get_or cells k 0) ≡ line s
    (slot_runs (if (k % 2) == 0 then X else Y) (slots_bits (get_or words k 0 / 16)))

module _ (a : ℕ) (cells new : List ℕ) (len : length cells ≡ 384) (four : length new ≡ 4) (room : a + 4 ≤ 384) where
  abbrev mid : List ℕ
  mid = mid_of a (384 - a) cells

  l-front : length (take a cells) ≡ a
  l-front = length-take-le a cells (omega (arith, len, room))

  l-mid : length (mid_of a (384 - a) cells) ≡ 384 - a
  l-mid = let d = length-drop a cells in length-take-le (384 - a) (drop a cells) (omega (arith, len, d))

  l-put : length (put_chunk 0 (mid_of a (384 - a) cells) new) ≡ 384 - a
  l-put = length-put_chunk 0 (mid_of a (384 - a) cells) new ∙ l-mid

  pub put-below : (k : ℕ) → k < a
      → get_or (put_mid a (384 - a) cells (put_chunk 0 (mid_of a (384 - a) cells) new)) k 0 ≡ get_or cells k 0
  put-below k h =
      get_or_append_left (take a cells) (put_chunk 0 (mid_of a (384 - a) cells) new ++ post_of a (384 - a) cells) 0 k
      (omega (arith, h, l-front))
      ∙ get_or-take a cells k 0 h

  pub put-at : (i : ℕ) → i < 4
      → get_or (put_mid a (384 - a) cells (put_chunk 0 (mid_of a (384 - a) cells) new)) (a + i) 0 ≡ get_or new i 0
  put-at i h =
      ap (λ n. get_or (put_mid a (384 - a) cells (put_chunk 0 (mid_of a (384 - a) cells) new)) (n + i) 0) (sym l-front)
      ∙ get_or-append-add (take a cells) (put_chunk 0 (mid_of a (384 - a) cells) new ++ post_of a (384 - a) cells) i 0
      ∙ get_or_append_left (put_chunk 0 (mid_of a (384 - a) cells) new) (post_of a (384 - a) cells) 0 i
      (omega (arith, h, l-put, room))
      ∙ ap (λ n. get_or (put_chunk 0 (mid_of a (384 - a) cells) new) n 0) (let e : i ≡ 0 + i = omega arith in e)
      ∙ get_or-put_chunk_at 0 (mid_of a (384 - a) cells) new i 0 (omega (arith, four, h))
      (omega (arith, l-mid, four, room))

  pub length-put : length (put_mid a (384 - a) cells (put_chunk 0 (mid_of a (384 - a) cells) new)) ≡ 384
  length-put =
      let d = length-drop a cells in
      let e = length-drop (384 - a) (drop a cells) in
      let p = length-append (put_chunk 0 (mid_of a (384 - a) cells) new) (post_of a (384 - a) cells) in
      length-append (take a cells) (put_chunk 0 (mid_of a (384 - a) cells) new ++ post_of a (384 - a) cells)
      ∙ omega (arith, d, e, p, l-front, l-put, len, room)

  -- the cells of four more
  pub four-more : (s : Level) (words : List ℕ) → a % 4 ≡ 0 → ((k : ℕ) → k < a → OfWord s words cells k)
      → ((i : ℕ) → i < 4
      → word_cells (get_or new i 0) ≡ line s
      (slot_runs (if (i % 2) == 0 then X else Y)
      (slots_bits (get_or (chunk 0 4 (mid_of a (384 - a) words)) i 0 / 16))))
      → (k : ℕ) → k < a + 4 → OfWord s words (put_mid a (384 - a) cells (put_chunk 0 (mid_of a (384 - a) cells) new)) k
  four-more s words whole old put k h = go (cases_lt k a)
    where
      go : (k < a) ⊎ (a ≤ k) → OfWord s words (put_mid a (384 - a) cells (put_chunk 0 (mid_of a (384 - a) cells) new)) k
      go (inl b) = ap word_cells (put-below k b) ∙ old k b
      go (inr b) =
          let e : a + (k - a) ≡ k = omega (arith, b) in
          let o : (k - a) % 2 ≡ (a + (k - a)) % 2 = omega (arith, whole) in
          subst (OfWord s words (put_mid a (384 - a) cells (put_chunk 0 (mid_of a (384 - a) cells) new))) e
          (ap word_cells (put-at (k - a) (omega (arith, h, b))) ∙ put (k - a) (omega (arith, h, b))
          ∙ ap₂ (λ n w. line s (slot_runs (if n == 0 then X else Y) (slots_bits (w / 16)))) o
          (four-read words a (k - a) room (omega (arith, h, b))))

-- the first subframe's preamble put over
pub with-block-mark : (s : Level) (words cells : List ℕ) (slots first : ℕ) → length cells ≡ 384
    → ((k : ℕ) → k < 384 → is_lawful (get_or words k 0) ≡ true)
    → ((k : ℕ) → k < 384 → OfWord s words cells k) → slots ≡ get_or words 0 0 / 16
    → word_cells first ≡ line s (slot_runs Z (slots_bits slots))
    → (k : ℕ) → k < 384
    → word_cells (get_or (set cells 0 first) k 0) ≡ line s (subframe_runs (mark_at k) (payload_of (get_or words k 0)))
with-block-mark s words cells slots first len lawful each es e k h = go (cases_eq k 0) (cases_eq (k % 2) 0)
  where
    go : (k ≡ 0) ⊎ (k ≡ 0 → ⊥) → (k % 2 ≡ 0) ⊎ (k % 2 ≡ 0 → ⊥)
        → word_cells (get_or (set cells 0 first) k 0) ≡ line s
        (subframe_runs (mark_at k) (payload_of (get_or words k 0)))
    go (inl z) v =
        let l = lawful 0 (omega arith) in
        rw z (ap word_cells (get_or-set_same cells 0 first 0 (omega (arith, len)))
        ∙ cells-word s Z 0 (get_or words 0 0) slots first (sym (mark_at-zero 0 refl)) es l e)
    go (inr n) (inl v) =
        let t = eq-eqb (k % 2) 0 v in
        let c = rw t at (each k h) in
        ap word_cells (get_or-set_other cells 0 k first 0 n)
        ∙ cells-word s X k (get_or words k 0) (get_or words k 0 / 16) (get_or cells k 0)
        (sym (mark_at-even k n (λ o. omega (arith, v, o)))) refl (lawful k h) c
    go (inr n) (inr v) =
        let t = ne_eqb (k % 2) 0 v in
        let c = rw t at (each k h) in
        ap word_cells (get_or-set_other cells 0 k first 0 n)
        ∙ cells-word s Y k (get_or words k 0) (get_or words k 0 / 16) (get_or cells k 0)
        (sym (mark_at-odd k (omega (arith, v)))) refl (lawful k h) c
