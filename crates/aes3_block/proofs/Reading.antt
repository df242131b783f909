-- A block file read byte by byte.
use Rattle.std.proofs.Common.{◌≡◌, ℕ, suc, ◌+◌, ◌*◌, ◌/◌, ◌%◌, ◌^◌, ◌<◌, ◌≤◌, ◌≢◌, ◌-◌, ◌⊎◌, inl, inr, List, [], ◌∷◌}
use Rattle.std.proofs.Common.{◌++◌, Bool, true, false, cond, eqb, ◌&&◌, length, length-append, get_or, map, Option}
use Rattle.std.proofs.Common.{Some, None, Result, Ok, Err, refl, sym, ap, subst, ◌∙◌, arith, eq-eqb, ne_eqb, add-one}
use Rattle.std.proofs.lemmas.Bool.{cases_eq, cases_lt}
use Rattle.std.proofs.lemmas.List.{get_or_append_left, get_or-append_right}
use Rattle.aes3_block.specs.declared.file.FileFault.{FileFault}
use Rattle.aes3_block.specs.declared.file.FileFault.TheVariants.{BadLength, BadCode, BadParity}
use Rattle.aes3_frame.specs.Blocks.{block_subframes}
use Rattle.aes3_frame.specs.Files.{bytes_number, has_code, has_parity, is_lawful, low_bytes, payload_of}
use Rattle.aes3_block.specs.Readers.{FileReader, word_fault, ends_word, word_with, byte_fault, ends_block, block_with}
use Rattle.aes3_block.specs.Readers.{reader_with, fault_with, answer_with, next_with, end_answer}
use Rattle.aes3_frame.proofs.Bytes.{length-low_bytes, bytes_number-low_bytes}
use Rattle.aes3_frame.proofs.BlockLemmas.{block_subframes_384}

-- a reader by what it stores
abbrev pub stored : ℕ → List ℕ → ℕ → Option FileFault → FileReader
stored seen ws w f = record { seen = seen; words = ws; bytes = low_bytes (seen % 4) w; fault = f }

in-word : (seen : ℕ) (ws : List ℕ) (w : ℕ) (f : Option FileFault) → seen % 4 < 3
    → ends_word (stored seen ws w f) ≡ false
in-word seen ws w f h =
    ne_eqb (length (low_bytes (seen % 4) w)) 3 (λ e. let l = length-low_bytes (seen % 4) w in omega arith)

at-word : (seen : ℕ) (ws : List ℕ) (w : ℕ) (f : Option FileFault) → 3 ≤ seen % 4 → ends_word (stored seen ws w f) ≡ true
at-word seen ws w f h = eq-eqb (length (low_bytes (seen % 4) w)) 3 (let l = length-low_bytes (seen % 4) w in
    omega arith)

-- what one byte does, by whether it ends a word and a block
same-block : (r : FileReader) (x : ℕ) (word block : Bool) → ends_word r ≡ word → ends_block r ≡ block
    → byte_fault r x ≡ None → r.fault ≡ None
    → (answer_with r x ≡ Ok
    (cond {A = Option (List (List Bool))} block (Some (map payload_of (r.words ++ word_with r x ∷ []))) None))
    × (next_with r x ≡ record {
      seen = suc r.seen;
      words = cond {A = List ℕ} block [] (cond {A = List ℕ} word (r.words ++ word_with r x ∷ []) r.words);
      bytes = cond {A = List ℕ} word [] (r.bytes ++ x ∷ []);
      fault = None;
    })
same-block r x word block ew eb ef en =
    let none : fault_with r x ≡ None = rw en ef in
    (rw none (rw eb refl), rw none (rw eb (rw ew refl)))

refused : (r : FileReader) (x : ℕ) (f : FileFault) → r.fault ≡ None → byte_fault r x ≡ Some f
    → (answer_with r x ≡ Err f) × (next_with r x ≡ record r { fault = Some f })
refused r x f en ef =
    let some : fault_with r x ≡ Some f = rw en ef in
    (rw some refl, rw some refl)

pub reader-is : {a b : ℕ} {ws vs bs cs : List ℕ} {f : Option FileFault} → a ≡ b → ws ≡ vs → bs ≡ cs
    → ◌≡◌ {A = FileReader} (record { seen = a; words = ws; bytes = bs; fault = f })
    (record { seen = b; words = vs; bytes = cs; fault = f })
reader-is e g h = rw (e, g, h) refl

-- a byte inside a word
pub byte-short : (seen : ℕ) (ws : List ℕ) (w v x : ℕ) → seen % 4 < 3
    → low_bytes (seen % 4 + 1) v ≡ low_bytes (seen % 4) w ++ x ∷ []
    → (answer_with (stored seen ws w None) x ≡ Ok None)
    × (next_with (stored seen ws w None) x ≡ stored (seen + 1) ws v None)
byte-short seen ws w v x h b =
    let r = stored seen ws w None in
    let e : ends_word r ≡ false = in-word seen ws w None h in
    let q = same-block r x false false e (rw e refl) (rw e refl) refl in
    let j : seen % 4 + 1 ≡ (seen + 1) % 4 = omega arith in
    (q.0, q.1 ∙ reader-is (sym (add-one seen)) refl (sym b ∙ ap (λ k. low_bytes k v) j))

-- the word that a byte ends
word-whole : (seen : ℕ) (ws : List ℕ) (w v x : ℕ) → 3 ≤ seen % 4
    → low_bytes (seen % 4 + 1) v ≡ low_bytes (seen % 4) w ++ x ∷ [] → v < 2 ^ 32
    → word_with (stored seen ws w None) x ≡ v
word-whole seen ws w v x h b l =
    let k : seen % 4 + 1 ≡ 4 = omega arith in
    ap bytes_number (sym b ∙ ap (λ n. low_bytes n v) k) ∙ bytes_number-low_bytes v l

fault-whole : (seen : ℕ) (ws : List ℕ) (w v x : ℕ) → 3 ≤ seen % 4
    → low_bytes (seen % 4 + 1) v ≡ low_bytes (seen % 4) w ++ x ∷ [] → v < 2 ^ 32
    → byte_fault (stored seen ws w None) x ≡ word_fault (seen / 4) v
fault-whole seen ws w v x h b l =
    let e = at-word seen ws w None h in
    ap (λ t. cond {A = Option FileFault} t (word_fault (seen / 4) (word_with (stored seen ws w None) x)) None) e
    ∙ ap (word_fault (seen / 4)) (word-whole seen ws w v x h b l)

-- a byte that ends a word which is refused
pub byte-refused : (seen : ℕ) (ws : List ℕ) (w v x : ℕ) (f : FileFault) → 3 ≤ seen % 4
    → low_bytes (seen % 4 + 1) v ≡ low_bytes (seen % 4) w ++ x ∷ [] → v < 2 ^ 32
    → word_fault (seen / 4) v ≡ Some f
    → (answer_with (stored seen ws w None) x ≡ Err f)
    × (next_with (stored seen ws w None) x ≡ stored seen ws w (Some f))
byte-refused seen ws w v x f h b l e = refused (stored seen ws w None) x f refl (fault-whole seen ws w v x h b l ∙ e)

-- a byte that ends a word inside a block
pub byte-word : (seen : ℕ) (ws : List ℕ) (w v x : ℕ) → length ws ≡ seen / 4 % 384 → 3 ≤ seen % 4
    → low_bytes (seen % 4 + 1) v ≡ low_bytes (seen % 4) w ++ x ∷ [] → v < 2 ^ 32
    → word_fault (seen / 4) v ≡ None → seen / 4 % 384 + 1 < 384
    → (answer_with (stored seen ws w None) x ≡ Ok None)
    × (next_with (stored seen ws w None) x ≡ stored (seen + 1) (ws ++ v ∷ []) 0 None)
byte-word seen ws w v x lw h b l e s =
    let r = stored seen ws w None in
    let ew : ends_word r ≡ true = at-word seen ws w None h in
    let nb : eqb (suc (length ws)) block_subframes ≡ false =
    ne_eqb (suc (length ws)) block_subframes (λ y. let k = block_subframes_384 in omega arith) in
    let q = same-block r x true false ew (rw (ew, nb) refl) (fault-whole seen ws w v x h b l ∙ e) refl in
    let j : (seen + 1) % 4 ≡ 0 = omega arith in (
      q.0,
      q.1 ∙ reader-is (sym (add-one seen)) (ap (λ y. ws ++ y ∷ []) (word-whole seen ws w v x h b l))
          (sym (ap (λ k. low_bytes k 0) j)),
    )

-- a byte that ends a block
pub byte-block : (seen : ℕ) (ws : List ℕ) (w v x : ℕ) → length ws ≡ seen / 4 % 384 → 3 ≤ seen % 4
    → low_bytes (seen % 4 + 1) v ≡ low_bytes (seen % 4) w ++ x ∷ [] → v < 2 ^ 32
    → word_fault (seen / 4) v ≡ None → 384 ≤ seen / 4 % 384 + 1
    → (answer_with (stored seen ws w None) x ≡ Ok (Some (map payload_of (ws ++ v ∷ []))))
    × (next_with (stored seen ws w None) x ≡ stored (seen + 1) [] 0 None)
byte-block seen ws w v x lw h b l e s =
    let r = stored seen ws w None in
    let ew : ends_word r ≡ true = at-word seen ws w None h in
    let nb : eqb (suc (length ws)) block_subframes ≡ true = eq-eqb (suc (length ws)) block_subframes (let k = block_subframes_384 in
    omega arith) in
    let q = same-block r x true true ew (rw (ew, nb) refl) (fault-whole seen ws w v x h b l ∙ e) refl in
    let j : (seen + 1) % 4 ≡ 0 = omega arith in (
      q.0 ∙ ap (λ y. Ok (Some (map payload_of (ws ++ y ∷ [])))) (word-whole seen ws w v x h b l),
      q.1 ∙ reader-is (sym (add-one seen)) refl (sym (ap (λ k. low_bytes k 0) j)),
    )

-- the words with one more, and what is left of them where they are a block
pub record Taken (all left : List ℕ) (block : Option (List (List Bool))) : Type 0 where
  pub whole : length all ≡ 384 → (block ≡ Some (map payload_of all)) × (left ≡ [])
  pub begun : length all ≢ 384 → (block ≡ None) × (left ≡ all)

-- a byte that ends a word
pub byte-ends : (seen : ℕ) (ws left : List ℕ) (w v x : ℕ) (block : Option (List (List Bool)))
    → Taken (ws ++ v ∷ []) left block → length ws ≡ seen / 4 % 384 → 3 ≤ seen % 4
    → low_bytes (seen % 4 + 1) v ≡ low_bytes (seen % 4) w ++ x ∷ [] → v < 2 ^ 32 → word_fault (seen / 4) v ≡ None
    → (answer_with (stored seen ws w None) x ≡ Ok block)
    × (next_with (stored seen ws w None) x ≡ stored (seen + 1) left 0 None)
byte-ends seen ws left w v x block t lw h b l e = go (cases_lt (seen / 4 % 384 + 1) 384)
  where
    n : length (ws ++ v ∷ []) ≡ length ws + 1
    n = length-append ws (v ∷ [])

    go : (seen / 4 % 384 + 1 < 384) ⊎ (384 ≤ seen / 4 % 384 + 1)
        → (answer_with (stored seen ws w None) x ≡ Ok block)
        × (next_with (stored seen ws w None) x ≡ stored (seen + 1) left 0 None)
    go (inl s) =
        let q = byte-word seen ws w v x lw h b l e s in
        let u = t.begun (λ y. omega (arith, y, n, lw, s)) in
        (q.0 ∙ ap Ok (sym u.0), q.1 ∙ ap (λ k. stored (seen + 1) k 0 None) (sym u.1))
    go (inr s) =
        let q = byte-block seen ws w v x lw h b l e s in
        let u = t.whole (omega (arith, n, lw, s)) in
        (q.0 ∙ ap Ok (sym u.0), q.1 ∙ ap (λ k. stored (seen + 1) k 0 None) (sym u.1))

-- words that are lawful, with one more
pub push-lawful : (ws : List ℕ) (v : ℕ) → is_lawful v ≡ true
    → ((i : ℕ) → i < length ws → is_lawful (get_or ws i 0) ≡ true)
    → (i : ℕ) → i < length (ws ++ v ∷ []) → is_lawful (get_or (ws ++ v ∷ []) i 0) ≡ true
push-lawful ws v e old i lt = go (cases_lt i (length ws))
  where
    go : (i < length ws) ⊎ (length ws ≤ i) → is_lawful (get_or (ws ++ v ∷ []) i 0) ≡ true
    go (inl h) = ap is_lawful (get_or_append_left ws (v ∷ []) 0 i h) ∙ old i h
    go (inr h) =
        let n = length-append ws (v ∷ []) in
        let z : i - length ws ≡ 0 = omega (arith, lt, n, h) in
        ap is_lawful (get_or-append_right ws (v ∷ []) (length ws) i 0 refl h ∙ ap (λ k. get_or (v ∷ []) k 0) z) ∙ e

-- what is left of the words and a lawful one that the byte behind `seen` bytes ends
pub left-lawful : (seen : ℕ) (ws left : List ℕ) (v : ℕ) (block : Option (List (List Bool)))
    → Taken (ws ++ v ∷ []) left block → length ws ≡ seen / 4 % 384 → 3 ≤ seen % 4 → is_lawful v ≡ true
    → ((i : ℕ) → i < length ws → is_lawful (get_or ws i 0) ≡ true)
    → (length left ≡ (seen + 1) / 4 % 384) × ((i : ℕ) → i < length left → is_lawful (get_or left i 0) ≡ true)
left-lawful seen ws left v block t e h lawful old = go (cases_eq (length (ws ++ v ∷ [])) 384)
  where
    go : (length (ws ++ v ∷ []) ≡ 384) ⊎ (length (ws ++ v ∷ []) ≡ 384 → ⊥)
        → (length left ≡ (seen + 1) / 4 % 384) × ((i : ℕ) → i < length left → is_lawful (get_or left i 0) ≡ true)
    go (inl all) =
        let n = length-append ws (v ∷ []) in
        let none = ap length (t.whole all).1 in
        (omega (arith, n, none), λ i l. absurd (omega arith))
    go (inr few) =
        let n = length-append ws (v ∷ []) in
        let same = (t.begun few).1 in
        let len = ap length same in (
          omega (arith, n, len, few),
          subst (λ (all : List ℕ). (i : ℕ) → i < length all → is_lawful (get_or all i 0) ≡ true) (sym same)
              (push-lawful ws v lawful old),
        )

-- a word without a fault is lawful
pub fault-lawful : (at w : ℕ) → word_fault at w ≡ None → is_lawful w ≡ true
fault-lawful at w = go (has_code w) (has_parity w)
  where
    go : (code parity : Bool)
        → cond {A = Option FileFault} code (cond {A = Option FileFault} parity None (Some (BadParity at)))
        (Some (BadCode at)) ≡ None
        → (code && parity) ≡ true
    go true true e = refl
    go true false e = cc
    go false parity e = cc

pub lawful-fault : (at w : ℕ) → is_lawful w ≡ true → word_fault at w ≡ None
lawful-fault at w = go (has_code w) (has_parity w)
  where
    go : (code parity : Bool) → (code && parity) ≡ true
        → cond {A = Option FileFault} code (cond {A = Option FileFault} parity None (Some (BadParity at)))
        (Some (BadCode at)) ≡ None
    go true true e = refl
    go true false e = cc
    go false parity e = cc

pub fault-unlawful : (at w : ℕ) (f : FileFault) → word_fault at w ≡ Some f → is_lawful w ≡ false
fault-unlawful at w f = go (has_code w) (has_parity w)
  where
    go : (code parity : Bool)
        → cond {A = Option FileFault} code (cond {A = Option FileFault} parity None (Some (BadParity at)))
        (Some (BadCode at)) ≡ Some f
        → (code && parity) ≡ false
    go true true e = cc
    go true false e = refl
    go false parity e = refl

-- the end of a file
block_bytes_1536 : 4 * block_subframes ≡ 1536
unfolding block_subframes
block_bytes_1536 = refl

pub end-left : (seen : ℕ) (ws : List ℕ) (w : ℕ) (f : Option FileFault) → f ≡ None → 0 < seen % 1536
    → end_answer (stored seen ws w f) ≡ Err (BadLength (seen % 1536))
end-left seen ws w f e h =
    let k : seen % (4 * block_subframes) ≡ seen % 1536 = ap (λ n. seen % n) block_bytes_1536 in
    let t : eqb (seen % (4 * block_subframes)) 0 ≡ false = ne_eqb (seen % (4 * block_subframes)) 0 (λ y. omega arith) in
    rw e (rw t (ap (λ n. Err (BadLength n)) k))

pub end-whole : (seen : ℕ) (ws : List ℕ) (w : ℕ) (f : Option FileFault) → f ≡ None → seen % 1536 ≡ 0
    → end_answer (stored seen ws w f) ≡ Ok tt
end-whole seen ws w f e z =
    let k : seen % (4 * block_subframes) ≡ seen % 1536 = ap (λ n. seen % n) block_bytes_1536 in
    let t : eqb (seen % (4 * block_subframes)) 0 ≡ true = eq-eqb (seen % (4 * block_subframes)) 0 (omega arith) in
    rw e (rw t refl)

-- a reader that lets a file end has refused nothing
pub ends-open : (r : FileReader) → end_answer r ≡ Ok tt → r.fault ≡ None
ends-open r e = go r.fault refl
  where
    go : (f : Option FileFault) → r.fault ≡ f → r.fault ≡ None
    go None q = q
    go (Some f) q = absurd (refused-not (sym (the-fault q) ∙ e))
      where
        the-fault : r.fault ≡ Some f → end_answer r ≡ Err f
        the-fault q = rw q refl

        refused-not : ◌≡◌ {A = Result (Unit {0}) FileFault} (Err f) (Ok tt) → ⊥
        refused-not e = cc

-- what an answer tells of a reader that has refused nothing
pub answered : (r : FileReader) (x : ℕ) (block : Option (List (List Bool))) → r.fault ≡ None
    → Ok block ≡ answer_with r x
    → (byte_fault r x ≡ None) × (block_with r x ≡ block) × (next_with r x ≡ reader_with r x)
answered r x block e a = go (byte_fault r x) refl
  where
    go : (o : Option FileFault) → byte_fault r x ≡ o → (byte_fault r x ≡ None) × (block_with r x ≡ block)
        × (next_with r x ≡ reader_with r x)
    go None q =
        let none : fault_with r x ≡ None = rw e q in
        let i : answer_with r x ≡ Ok (block_with r x) = rw none refl in
        (q, ok-is (sym i ∙ sym a), rw none refl)
      where
        ok-is : {a b : Option (List (List Bool))}
            → ◌≡◌ {A = Result (Option (List (List Bool))) FileFault} (Ok a) (Ok b) → a ≡ b
        ok-is e = cc
    go (Some f) q = absurd (let i = (refused r x f e q).0 in wrong (a ∙ i))
      where
        wrong : ◌≡◌ {A = Result (Option (List (List Bool))) FileFault} (Ok block) (Err f) → ⊥
        wrong e = cc

pub answered-err : (r : FileReader) (x : ℕ) (f : FileFault) → r.fault ≡ None → Err f ≡ answer_with r x
    → byte_fault r x ≡ Some f
answered-err r x f e a = go (byte_fault r x) refl
  where
    go : (o : Option FileFault) → byte_fault r x ≡ o → byte_fault r x ≡ Some f
    go None q =
        let none : fault_with r x ≡ None = rw e q in
        absurd (wrong (a ∙ rw none refl))
      where
        wrong : ◌≡◌ {A = Result (Option (List (List Bool))) FileFault} (Err f) (Ok (block_with r x)) → ⊥
        wrong e = cc
    go (Some g) q = q ∙ ap Some (err-is ((refused r x g e q).0) a)
      where
        err-is : answer_with r x ≡ Err g → Err f ≡ answer_with r x → g ≡ f
        err-is h k = same (k ∙ h)
          where
            same : ◌≡◌ {A = Result (Option (List (List Bool))) FileFault} (Err f) (Err g) → g ≡ f
            same e = cc
