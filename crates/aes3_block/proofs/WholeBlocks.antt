-- The blocks of bytes that grow byte by byte, and a reader that follows them.
use Rattle.std.proofs.Common.{◌≡◌, ℕ, suc, ◌+◌, ◌-◌, ◌*◌, ◌/◌, ◌%◌, ◌<◌, ◌≤◌, ◌⊎◌, inl, inr, List, [], ◌∷◌, ◌++◌, Bool}
use Rattle.std.proofs.Common.{true, false, cond, eqb, Option, Some, None, Ok, Err, length, get_or, map, take, drop}
use Rattle.std.proofs.Common.{refl, sym, ap, ap₂, ◌∙◌, arith, append-nil, length-append, length-drop, eq-eqb, ne_eqb}
use Rattle.std.proofs.lemmas.Bool.{cases_lt, cases_eq}
use Rattle.std.proofs.lemmas.List.{take_all, drop-append-le, drop_all, get_or-append_right}
use Rattle.aes3_block.specs.declared.file.FileFault.{FileFault}
use Rattle.aes3_block.specs.declared.file.FileFault.TheVariants.{BadLength, BadCode, BadParity}
use Rattle.aes3_frame.specs.Blocks.{block_subframes}
use Rattle.aes3_frame.specs.Files.{bytes_number, words_of, has_code, has_parity, lawful_words, payload_of, blocks_in}
use Rattle.aes3_frame.specs.Files.{file_blocks}
use Rattle.aes3_block.specs.Readers.{FileReader, reader_of, word_fault, ends_word, byte_fault, block_with, reader_with}
use Rattle.aes3_block.specs.Readers.{end_answer}
use Rattle.aes3_frame.proofs.BlockLemmas.{block_subframes_384, count-within}
use Rattle.aes3_block.proofs.Reading.{fault-lawful, fault-unlawful, reader-is}
use Rattle.aes3_frame.proofs.Words.{length-words, words-short, words-whole, all_lawful, all_lawful-push, lawful-words}
use Rattle.aes3_frame.proofs.Words.{lawful-stays}
use Rattle.aes3_frame.proofs.Streams.{blocks-front, blocks-more}
use Rattle.std.proofs.lemmas.Option.{none-some}

-- the word that byte x ends behind b
abbrev pub last_word : List ℕ → ℕ → ℕ
last_word b x = bytes_number (drop (4 * (length b / 4)) b ++ x ∷ [])

-- counts of words, inside a block and at its end
count-inside : (n : ℕ) → n % block_subframes + 1 < block_subframes → (n + 1) / block_subframes ≡ n / block_subframes
unfolding block_subframes
count-inside n h = omega arith

count-ending : (n : ℕ) → n % block_subframes + 1 ≡ block_subframes → (n + 1) / block_subframes ≡ suc (n / block_subframes)
unfolding block_subframes
count-ending n h = omega arith

count-whole : (n : ℕ) → n % block_subframes + 1 ≡ block_subframes → block_subframes * ((n + 1) / block_subframes) ≡ n + 1
unfolding block_subframes
count-whole n h = omega arith

last-place : (n : ℕ) → block_subframes ≤ n % block_subframes + 1 → n % block_subframes + 1 ≡ block_subframes
unfolding block_subframes
last-place n h = omega arith

count-rest : (n : ℕ) → block_subframes * (n / block_subframes) + n % block_subframes ≡ n
unfolding block_subframes
count-rest n = omega arith

-- the words of the block begun
abbrev pub begun_words : List ℕ → List ℕ
begun_words b = drop (block_subframes * (length (words_of b) / block_subframes)) (words_of b)

tests-short : (b : List ℕ) → length b % 4 < 3 → ends_word (reader_of b) ≡ false
unfolding reader_of
tests-short b h =
    ne_eqb (length (drop (4 * (length b / 4)) b)) 3 (λ e. let l = length-drop (4 * (length b / 4)) b in omega arith)

tests-whole : (b : List ℕ) → length b % 4 ≡ 3 → ends_word (reader_of b) ≡ true
unfolding reader_of
tests-whole b h = eq-eqb (length (drop (4 * (length b / 4)) b)) 3 (let l = length-drop (4 * (length b / 4)) b in
    omega arith)

begun-count : (b : List ℕ) → length (begun_words b) ≡ length (words_of b) % block_subframes
begun-count b = let l = length-drop (block_subframes * (length (words_of b) / block_subframes)) (words_of b) in
    let r = count-rest (length (words_of b)) in omega arith

-- a byte inside a word
pub short : (b : List ℕ) (x : ℕ) → length b % 4 < 3
    → (byte_fault (reader_of b) x ≡ None) × (block_with (reader_of b) x ≡ None)
    × (reader_with (reader_of b) x ≡ reader_of (b ++ x ∷ [])) × (words_of (b ++ x ∷ []) ≡ words_of b)
unfolding reader_of
short b x h =
    let e = tests-short b h in
    let w = words-short b x h in
    let l = length-append b (x ∷ []) in
    let q : length (b ++ x ∷ []) / 4 ≡ length b / 4 = omega arith in
    let t : drop (4 * (length b / 4)) b ++ x ∷ [] ≡ drop (4 * (length (b ++ x ∷ []) / 4)) (b ++ x ∷ []) =
    sym (ap (λ k. drop (4 * k) (b ++ x ∷ [])) q ∙ drop-append-le (4 * (length b / 4)) b (x ∷ []) (omega arith)) in (
      rw e refl,
      rw e refl,
      rw e (reader-is (sym (l ∙ omega arith)) (ap (λ ws. drop (block_subframes * (length ws / block_subframes)) ws) (sym w)) t),
      w,
    )

-- a byte that ends a word
pub whole-fault : (b : List ℕ) (x : ℕ) → length b % 4 ≡ 3
    → byte_fault (reader_of b) x ≡ word_fault (length b / 4) (last_word b x)
unfolding reader_of
whole-fault b x h = let e = tests-whole b h in rw e refl

-- the words with the one that the byte ends, and no byte of another
words-grow : (b : List ℕ) (x : ℕ) → length b % 4 ≡ 3 → words_of (b ++ x ∷ []) ≡ words_of b ++ last_word b x ∷ []
words-grow b x h = words-whole b x [] h

no-bytes : (b : List ℕ) (x : ℕ) → length b % 4 ≡ 3 → [] ≡ drop (4 * (length (b ++ x ∷ []) / 4)) (b ++ x ∷ [])
no-bytes b x h = let l = length-append b (x ∷ []) in
    sym (drop_all (4 * (length (b ++ x ∷ []) / 4)) (b ++ x ∷ []) (omega arith))

-- a byte that ends a word inside a block
pub inside : (b : List ℕ) (x : ℕ) → length b % 4 ≡ 3 → length (words_of b) % block_subframes + 1 < block_subframes
    → (block_with (reader_of b) x ≡ None) × (reader_with (reader_of b) x ≡ reader_of (b ++ x ∷ []))
unfolding reader_of
inside b x h s =
    let e = tests-whole b h in
    let n = begun-count b in
    let z = block_subframes_384 in
    let f : eqb (suc (length (begun_words b))) block_subframes ≡ false = ne_eqb (suc (length (begun_words b))) block_subframes
    (λ y. omega arith) in
    let l = length-append b (x ∷ []) in
    let w = words-grow b x h in
    let m = length-append (words_of b) (last_word b x ∷ []) in
    let q : length (words_of b ++ last_word b x ∷ []) / block_subframes ≡ length (words_of b) / block_subframes =
    ap (λ k. k / block_subframes) m ∙ count-inside (length (words_of b)) s in
    let t : begun_words b ++ last_word b x ∷ [] ≡ drop (block_subframes * (length (words_of (b ++ x ∷ [])) / block_subframes))
    (words_of (b ++ x ∷ [])) =
    sym (ap (λ ws. drop (block_subframes * (length ws / block_subframes)) ws) w
    ∙ ap (λ k. drop (block_subframes * k) (words_of b ++ last_word b x ∷ [])) q
    ∙ drop-append-le (block_subframes * (length (words_of b) / block_subframes)) (words_of b) (last_word b x ∷ [])
    (count-within (length (words_of b)))) in
    (rw e (rw f refl), rw e (rw f (reader-is (sym (l ∙ omega arith)) t (no-bytes b x h))))

-- a byte that ends a block
pub ending : (b : List ℕ) (x : ℕ) → length b % 4 ≡ 3 → length (words_of b) % block_subframes + 1 ≡ block_subframes
    → (block_with (reader_of b) x ≡ Some (map payload_of (begun_words b ++ last_word b x ∷ [])))
    × (reader_with (reader_of b) x ≡ reader_of (b ++ x ∷ []))
unfolding reader_of
ending b x h s =
    let e = tests-whole b h in
    let n = begun-count b in
    let z = block_subframes_384 in
    let f : eqb (suc (length (begun_words b))) block_subframes ≡ true =
    eq-eqb (suc (length (begun_words b))) block_subframes (omega arith) in
    let l = length-append b (x ∷ []) in
    let w = words-grow b x h in
    let m = length-append (words_of b) (last_word b x ∷ []) in
    let t : [] ≡ drop (block_subframes * (length (words_of (b ++ x ∷ [])) / block_subframes)) (words_of (b ++ x ∷ [])) =
    sym (ap (λ ws. drop (block_subframes * (length ws / block_subframes)) ws) w
    ∙ drop_all (block_subframes * (length (words_of b ++ last_word b x ∷ []) / block_subframes))
    (words_of b ++ last_word b x ∷ [])
    (let c = ap (λ k. block_subframes * (k / block_subframes)) m ∙ count-whole (length (words_of b)) s in omega arith)) in
    (rw e (rw f refl), rw e (rw f (reader-is (sym (l ∙ omega arith)) t (no-bytes b x h))))

-- a reader that has taken the bytes b takes one more that is no fault
pub reader-next : (b : List ℕ) (x : ℕ) → byte_fault (reader_of b) x ≡ None
    → reader_with (reader_of b) x ≡ reader_of (b ++ x ∷ [])
reader-next b x e = elim (cases_lt (length b % 4) 3) [
  | inl h ↦ (short b x h).2
  | inr h ↦ elim (cases_lt (length (words_of b) % block_subframes + 1) block_subframes) [
    | inl s ↦ (inside b x (omega arith) s).1
    | inr s ↦ (ending b x (omega arith) (last-place (length (words_of b)) s)).1
  ]
]

-- the words stay lawful
pub lawful-next : (b : List ℕ) (x : ℕ) → all_lawful (words_of b) ≡ true → byte_fault (reader_of b) x ≡ None
    → all_lawful (words_of (b ++ x ∷ [])) ≡ true
lawful-next b x l e = elim (cases_lt (length b % 4) 3) [
  | inl h ↦ ap all_lawful (short b x h).3 ∙ l
  | inr h ↦ let t : length b % 4 ≡ 3 = omega arith in
      ap all_lawful (words-grow b x t)
      ∙ all_lawful-push (words_of b) (last_word b x) l
      (fault-lawful (length b / 4) (last_word b x) (sym (whole-fault b x t) ∙ e))
]

-- the blocks of lawful words
blocks-lawful : (b : List ℕ) → all_lawful (words_of b) ≡ true
    → file_blocks b ≡ blocks_in (length (words_of b) / block_subframes) (words_of b)
unfolding file_blocks
blocks-lawful b l = ap (λ ws. blocks_in (length ws / block_subframes) ws) (lawful-words b l)

-- the blocks that one more byte adds
abbrev pub added_blocks : Option (List (List Bool)) → List (List (List Bool))
added_blocks None = []
added_blocks (Some b) = b ∷ []

pub blocks-next : (b : List ℕ) (x : ℕ) → all_lawful (words_of b) ≡ true → byte_fault (reader_of b) x ≡ None
    → file_blocks (b ++ x ∷ []) ≡ file_blocks b ++ added_blocks (block_with (reader_of b) x)
blocks-next b x l e = blocks-lawful (b ++ x ∷ []) (lawful-next b x l e) ∙ go (cases_lt (length b % 4) 3)
    ∙ ap (λ z. z ++ added_blocks (block_with (reader_of b) x)) (sym (blocks-lawful b l))
  where
    ws : List ℕ
    ws = words_of b

    go : (length b % 4 < 3) ⊎ (3 ≤ length b % 4)
        → blocks_in (length (words_of (b ++ x ∷ [])) / block_subframes) (words_of (b ++ x ∷ [])) ≡ blocks_in
        (length (words_of b) / block_subframes) (words_of b) ++ added_blocks (block_with (reader_of b) x)
    go (inl h) = let s = short b x h in
        ap (λ v. blocks_in (length v / block_subframes) v) s.3
        ∙ sym (append-nil (blocks_in (length (words_of b) / block_subframes) (words_of b)))
        ∙ ap (λ o. blocks_in (length (words_of b) / block_subframes) (words_of b) ++ added_blocks o) (sym s.1)
    go (inr h) = whole (omega arith) (cases_lt (length ws % block_subframes + 1) block_subframes)
      where
        whole : length b % 4 ≡ 3 → (length (words_of b) % block_subframes + 1 < block_subframes)
            ⊎ (block_subframes ≤ length (words_of b) % block_subframes + 1)
            → blocks_in (length (words_of (b ++ x ∷ [])) / block_subframes) (words_of (b ++ x ∷ [])) ≡ blocks_in
            (length (words_of b) / block_subframes) (words_of b) ++ added_blocks (block_with (reader_of b) x)
        whole t (inl s) =
            let w = words-grow b x t in
            let m = length-append (words_of b) (last_word b x ∷ []) in
            ap (λ v. blocks_in (length v / block_subframes) v) w
            ∙ ap (λ k. blocks_in k (words_of b ++ last_word b x ∷ [])) (ap (λ k. k / block_subframes) m
            ∙ count-inside (length (words_of b)) s)
            ∙ blocks-front (length (words_of b) / block_subframes) (words_of b) (last_word b x ∷ [])
            (count-within (length (words_of b)))
            ∙ sym (append-nil (blocks_in (length (words_of b) / block_subframes) (words_of b)))
            ∙ ap (λ o. blocks_in (length (words_of b) / block_subframes) (words_of b) ++ added_blocks o)
            (sym (inside b x t s).0)
        whole t (inr s) =
            let w = words-grow b x t in
            let m = length-append (words_of b) (last_word b x ∷ []) in
            let k = length (words_of b) / block_subframes in
            let z : length (words_of b) % block_subframes + 1 ≡ block_subframes = last-place (length (words_of b)) s in
            let all = words_of b ++ last_word b x ∷ [] in
            let d : drop (block_subframes * k) all ≡ begun_words b ++ last_word b x ∷ [] =
            drop-append-le (block_subframes * k) (words_of b) (last_word b x ∷ [])
            (count-within (length (words_of b))) in
            let n : length (begun_words b ++ last_word b x ∷ []) ≡ block_subframes =
            length-append (begun_words b) (last_word b x ∷ []) ∙ ap (λ i. i + 1) (begun-count b) ∙ z in
            ap (λ v. blocks_in (length v / block_subframes) v) w
            ∙ ap (λ i. blocks_in i all) (ap (λ i. i / block_subframes) m ∙ count-ending (length (words_of b)) z)
            ∙ blocks-more k all
            ∙ ap₂ (λ p q. p ++ map payload_of q ∷ [])
            (blocks-front k (words_of b) (last_word b x ∷ []) (count-within (length (words_of b))))
            (ap (take block_subframes) d ∙ take_all block_subframes (begun_words b ++ last_word b x ∷ []) (omega arith))
            ∙ ap (λ o. blocks_in k (words_of b) ++ added_blocks o) (sym (ending b x t z).0)

-- behind a byte that is a fault nothing counts
pub blocks-stay : (b : List ℕ) (x : ℕ) (more : List ℕ) (f : FileFault) → all_lawful (words_of b) ≡ true
    → byte_fault (reader_of b) x ≡ Some f
    → file_blocks (b ++ x ∷ more) ≡ file_blocks b
unfolding file_blocks
blocks-stay b x more f l e = ap (λ ws. blocks_in (length ws / block_subframes) ws) (elim (cases_lt (length b % 4) 3) [
  | inl h ↦ absurd (let s = short b x h in none-some f (sym s.0 ∙ e))
  | inr h ↦ let t : length b % 4 ≡ 3 = omega arith in
      lawful-stays b x more t l (fault-unlawful (length b / 4) (last_word b x) f (sym (whole-fault b x t) ∙ e))
])

-- where a byte is a fault stands the first word that is not lawful
pub fault-place : (b : List ℕ) (x : ℕ) (more : List ℕ) (f : FileFault) → all_lawful (words_of b) ≡ true
    → byte_fault (reader_of b) x ≡ Some f
    → (length (lawful_words (b ++ x ∷ more)) ≡ length b / 4) × (length b / 4 < length (words_of (b ++ x ∷ more)))
    × (word_fault (length b / 4) (get_or (words_of (b ++ x ∷ more)) (length b / 4) 0) ≡ Some f)
fault-place b x more f l e = elim (cases_lt (length b % 4) 3) [
  | inl h ↦ absurd (let s = short b x h in none-some f (sym s.0 ∙ e))
  | inr h ↦ let t : length b % 4 ≡ 3 = omega arith in here t
]
  where
    here : length b % 4 ≡ 3 → (length (lawful_words (b ++ x ∷ more)) ≡ length b / 4)
        × (length b / 4 < length (words_of (b ++ x ∷ more)))
        × (word_fault (length b / 4) (get_or (words_of (b ++ x ∷ more)) (length b / 4) 0) ≡ Some f)
    here t =
        let n = length-words b in
        let q = sym (whole-fault b x t) ∙ e in
        let w = words-whole b x more t in
        let m = length-append (words_of b) (last_word b x ∷ words_of more) in
        let a : get_or (words_of b ++ last_word b x ∷ words_of more) (length b / 4) 0 ≡ last_word b x =
        get_or-append_right (words_of b) (last_word b x ∷ words_of more) (length b / 4) (length b / 4) 0 n (omega arith)
        ∙ ap (λ k. get_or (last_word b x ∷ words_of more) k 0) (let z : length b / 4 - length b / 4 ≡ 0 =
        omega arith in z) in (
          ap length (lawful-stays b x more t l (fault-unlawful (length b / 4) (last_word b x) f q)
              ∙ lawful-words b l) ∙ n,
          (let c = ap length w in omega arith),
          ap (λ ws. word_fault (length b / 4) (get_or ws (length b / 4) 0)) w ∙ ap (word_fault (length b / 4)) a ∙ q,
        )

-- what a fault of a word says
pub code-fault : (at w place : ℕ) → word_fault at w ≡ Some (BadCode place) → (place ≡ at) × (has_code w ≡ false)
code-fault at w place = go (has_code w) (has_parity w)
  where
    go : (code parity : Bool)
        → cond {A = Option FileFault} code (cond {A = Option FileFault} parity None (Some (BadParity at)))
        (Some (BadCode at)) ≡ Some (BadCode place)
        → (place ≡ at) × (code ≡ false)
    go true true e = absurd cc
    go true false e = absurd cc
    go false parity e = (cc, refl)

pub parity-fault : (at w place : ℕ) → word_fault at w ≡ Some (BadParity place) → (place ≡ at) × (has_code w ≡ true)
    × (has_parity w ≡ false)
parity-fault at w place = go (has_code w) (has_parity w)
  where
    go : (code parity : Bool)
        → cond {A = Option FileFault} code (cond {A = Option FileFault} parity None (Some (BadParity at)))
        (Some (BadCode at)) ≡ Some (BadParity place)
        → (place ≡ at) × (code ≡ true) × (parity ≡ false)
    go true true e = absurd cc
    go true false e = (cc, refl, refl)
    go false parity e = absurd cc

pub length-fault : (at w left : ℕ) → word_fault at w ≡ Some (BadLength left) → ⊥
length-fault at w left = go (has_code w) (has_parity w)
  where
    go : (code parity : Bool)
        → cond {A = Option FileFault} code (cond {A = Option FileFault} parity None (Some (BadParity at)))
        (Some (BadCode at)) ≡ Some (BadLength left) → ⊥
    go true true e = cc
    go true false e = cc
    go false parity e = cc

-- the end of lawful words
pub end-none : (b : List ℕ) → ((length b % (4 * block_subframes) ≡ 0) × (end_answer (reader_of b) ≡ Ok tt))
    ⊎ ((0 < length b % (4 * block_subframes)) × (end_answer (reader_of b) ≡ Err (BadLength (length b % (4 * block_subframes)))))
unfolding reader_of
end-none b = go (cases_eq (length b % (4 * block_subframes)) 0)
  where
    go : (length b % (4 * block_subframes) ≡ 0) ⊎ (length b % (4 * block_subframes) ≡ 0 → ⊥)
        → ((length b % (4 * block_subframes) ≡ 0) × (end_answer (reader_of b) ≡ Ok tt))
        ⊎ ((0 < length b % (4 * block_subframes))
        × (end_answer (reader_of b) ≡ Err (BadLength (length b % (4 * block_subframes)))))
    go (inl q) = let t = eq-eqb (length b % (4 * block_subframes)) 0 q in inl (q, rw t refl)
    go (inr q) = let t = ne_eqb (length b % (4 * block_subframes)) 0 q in inr (omega arith, rw t refl)

pub end-whole_file : (b : List ℕ) → length b % (4 * block_subframes) ≡ 0 → end_answer (reader_of b) ≡ Ok tt
unfolding reader_of
end-whole_file b q = let t = eq-eqb (length b % (4 * block_subframes)) 0 q in rw t refl

-- a reader that has taken nothing
pub reader-new : (r : FileReader) → r.seen ≡ 0 → r.words ≡ [] → r.bytes ≡ [] → r.fault ≡ None → r ≡ reader_of []
unfolding reader_of block_subframes
reader-new r a b c d = by-fields r.seen r.words r.bytes r.fault a b c d
  where
    by-fields : (n : ℕ) (ws bs : List ℕ) (f : Option FileFault) → n ≡ 0 → ws ≡ [] → bs ≡ [] → f ≡ None
        → ◌≡◌ {A = FileReader} (record { seen = n; words = ws; bytes = bs; fault = f })
        (record { seen = 0; words = []; bytes = []; fault = None })
    by-fields n ws bs f a b c d = rw (a, b, c, d) refl
