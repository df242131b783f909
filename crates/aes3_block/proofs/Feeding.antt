-- What a reader answers to bytes, and which bytes it accepts.
use Rattle.std.proofs.Common.{◌≡◌, ℕ, ◌*◌, ◌%◌, ◌<◌, ◌⊎◌, inl, inr, List, [], ◌∷◌, ◌++◌, Bool, true, Option, Some, None}
use Rattle.std.proofs.Common.{Result, Ok, Err, length, refl, sym, ap, ap₂, ◌∙◌, arith, append-nil, append_assoc}
use Rattle.aes3_block.specs.declared.file.FileFault.{FileFault}
use Rattle.aes3_block.specs.declared.file.FileFault.TheVariants.{BadLength}
use Rattle.aes3_frame.specs.Blocks.{block_subframes}
use Rattle.aes3_frame.specs.Files.{words_of, file_blocks, IsBlockFile}
use Rattle.aes3_block.specs.Readers.{FileReader, reader_of, byte_fault, block_with, reader_with, fault_with}
use Rattle.aes3_block.specs.Readers.{answer_with, next_with, end_answer}
use Rattle.aes3_block.specs.Feeding.{blocks_of_answer, blocks_fed, reader_fed}
use Rattle.aes3_block.specs.Laws.{IsAccepted}
use Rattle.aes3_frame.proofs.Streams.{file_blocks-nil}
use Rattle.aes3_block.proofs.Reading.{ends-open}
use Rattle.aes3_frame.proofs.Words.{all_lawful, all_lawful-from, lawful-words}
use Rattle.aes3_block.proofs.WholeBlocks.{added_blocks, reader-next, lawful-next, blocks-next, blocks-stay, fault-place}
use Rattle.aes3_block.proofs.WholeBlocks.{end-none, end-whole_file}
use Rattle.std.proofs.lemmas.Option.{none-some}

-- one byte that is no fault, one that is, and any byte behind a fault
byte-open : (r : FileReader) (x : ℕ) → r.fault ≡ None → byte_fault r x ≡ None → (answer_with r x ≡ Ok (block_with r x))
    × (next_with r x ≡ reader_with r x)
byte-open r x e q =
    let none : fault_with r x ≡ None = rw e q in
    (rw none refl, rw none refl)

byte-fault : (r : FileReader) (x : ℕ) (f : FileFault) → r.fault ≡ None → byte_fault r x ≡ Some f
    → (answer_with r x ≡ Err f) × ((next_with r x).fault ≡ Some f)
byte-fault r x f e q =
    let some : fault_with r x ≡ Some f = rw e q in
    (rw some refl, rw some refl)

byte-behind : (r : FileReader) (x : ℕ) (f : FileFault) → r.fault ≡ Some f → (answer_with r x ≡ Err f)
    × ((next_with r x).fault ≡ Some f)
byte-behind r x f e =
    let some : fault_with r x ≡ Some f = rw e refl in
    (rw some refl, rw some refl)

pub reader-open : (b : List ℕ) → (reader_of b).fault ≡ None
unfolding reader_of
reader-open b = refl

-- behind a fault
blocks-behind : (r : FileReader) (f : FileFault) (bytes : List ℕ) → r.fault ≡ Some f → blocks_fed r bytes ≡ []
blocks-behind r f [] e = refl
blocks-behind r f (x ∷ bytes) e =
    let b = byte-behind r x f e in
    ap₂ (λ a bs. blocks_of_answer a ++ bs) b.0 (blocks-behind (next_with r x) f bytes b.1)

fault-behind : (r : FileReader) (f : FileFault) (bytes : List ℕ) → r.fault ≡ Some f
    → (reader_fed r bytes).fault ≡ Some f
fault-behind r f [] e = e
fault-behind r f (x ∷ bytes) e = fault-behind (next_with r x) f bytes (byte-behind r x f e).1

-- the reader behind lawful words, one byte on
next-open : (b : List ℕ) (x : ℕ) → byte_fault (reader_of b) x ≡ None
    → next_with (reader_of b) x ≡ reader_of (b ++ x ∷ [])
next-open b x q = (byte-open (reader_of b) x (reader-open b) q).1 ∙ reader-next b x q

blocks-added : (o : Option (List (List Bool))) → added_blocks o ≡ blocks_of_answer (Ok o)
blocks-added None = refl
blocks-added (Some b) = refl

-- the blocks
blocks-on : (b more : List ℕ) → all_lawful (words_of b) ≡ true
    → file_blocks (b ++ more) ≡ file_blocks b ++ blocks_fed (reader_of b) more
blocks-on b [] l = ap file_blocks (append-nil b) ∙ sym (append-nil (file_blocks b))
blocks-on b (x ∷ more) l =
    go (byte_fault (reader_of b) x) refl (λ q. blocks-on (b ++ x ∷ []) more (lawful-next b x l q))
  where
    go : (o : Option FileFault) → byte_fault (reader_of b) x ≡ o
        → (byte_fault (reader_of b) x ≡ None
        → file_blocks ((b ++ x ∷ []) ++ more) ≡ file_blocks (b ++ x ∷ []) ++ blocks_fed
        (reader_of (b ++ x ∷ [])) more)
        → file_blocks (b ++ x ∷ more) ≡ file_blocks b ++ (blocks_of_answer (answer_with (reader_of b) x) ++ blocks_fed
        (next_with (reader_of b) x) more)
    go None q rest =
        ap file_blocks (sym (append_assoc b (x ∷ []) more)) ∙ rest q
        ∙ ap (λ z. z ++ blocks_fed (reader_of (b ++ x ∷ [])) more) (blocks-next b x l q)
        ∙ append_assoc (file_blocks b) (added_blocks (block_with (reader_of b) x))
        (blocks_fed (reader_of (b ++ x ∷ [])) more)
        ∙ ap₂ (λ z r. file_blocks b ++ (z ++ blocks_fed r more))
        (blocks-added (block_with (reader_of b) x)
        ∙ ap blocks_of_answer (sym (byte-open (reader_of b) x (reader-open b) q).0)) (sym (next-open b x q))
    go (Some f) q rest =
        let e = byte-fault (reader_of b) x f (reader-open b) q in
        blocks-stay b x more f l q ∙ sym (append-nil (file_blocks b))
        ∙ ap₂ (λ a bs. file_blocks b ++ (blocks_of_answer a ++ bs)) (sym e.0)
        (sym (blocks-behind (next_with (reader_of b) x) f more e.1))

pub blocks-fed : (bytes : List ℕ) → blocks_fed (reader_of []) bytes ≡ file_blocks bytes
blocks-fed bytes = ap (λ z. z ++ blocks_fed (reader_of []) bytes) (sym file_blocks-nil) ∙ sym (blocks-on [] bytes refl)

-- the reader behind bytes that it did not refuse
open-on : (b more : List ℕ) → all_lawful (words_of b) ≡ true → (reader_fed (reader_of b) more).fault ≡ None
    → (all_lawful (words_of (b ++ more)) ≡ true) × (reader_fed (reader_of b) more ≡ reader_of (b ++ more))
open-on b [] l e = (ap (λ z. all_lawful (words_of z)) (append-nil b) ∙ l, ap reader_of (sym (append-nil b)))
open-on b (x ∷ more) l e = go (byte_fault (reader_of b) x) refl (λ q. open-on (b ++ x ∷ []) more (lawful-next b x l q))
  where
    go : (o : Option FileFault) → byte_fault (reader_of b) x ≡ o
        → (byte_fault (reader_of b) x ≡ None → (reader_fed (reader_of (b ++ x ∷ [])) more).fault ≡ None
        → (all_lawful (words_of ((b ++ x ∷ []) ++ more)) ≡ true)
        × (reader_fed (reader_of (b ++ x ∷ [])) more ≡ reader_of ((b ++ x ∷ []) ++ more)))
        → (all_lawful (words_of (b ++ x ∷ more)) ≡ true)
        × (reader_fed (next_with (reader_of b) x) more ≡ reader_of (b ++ x ∷ more))
    go None q rest =
        let n = next-open b x q in
        let i = rest q (ap (λ r. (reader_fed r more).fault) (sym n) ∙ e) in
        let a = append_assoc b (x ∷ []) more in
        (ap (λ z. all_lawful (words_of z)) (sym a) ∙ i.0, ap (λ r. reader_fed r more) n ∙ i.1 ∙ ap reader_of a)
    go (Some f) q rest =
        absurd (none-some _ (sym e
        ∙ fault-behind (next_with (reader_of b) x) f more (byte-fault (reader_of b) x f (reader-open b) q).1))

-- lawful words are not refused
lawful-on : (b more : List ℕ) → all_lawful (words_of b) ≡ true → all_lawful (words_of (b ++ more)) ≡ true
    → reader_fed (reader_of b) more ≡ reader_of (b ++ more)
lawful-on b [] l e = ap reader_of (sym (append-nil b))
lawful-on b (x ∷ more) l e =
    go (byte_fault (reader_of b) x) refl (λ q. lawful-on (b ++ x ∷ []) more (lawful-next b x l q))
  where
    go : (o : Option FileFault) → byte_fault (reader_of b) x ≡ o
        → (byte_fault (reader_of b) x ≡ None → all_lawful (words_of ((b ++ x ∷ []) ++ more)) ≡ true
        → reader_fed (reader_of (b ++ x ∷ [])) more ≡ reader_of ((b ++ x ∷ []) ++ more))
        → reader_fed (next_with (reader_of b) x) more ≡ reader_of (b ++ x ∷ more)
    go None q rest =
        let a = append_assoc b (x ∷ []) more in
        ap (λ r. reader_fed r more) (next-open b x q) ∙ rest q (ap (λ z. all_lawful (words_of z)) a ∙ e)
        ∙ ap reader_of a
    go (Some f) q rest =
        let p = fault-place b x more f l q in
        let w = ap length (lawful-words (b ++ x ∷ more) e) in
        let h = p.0 in
        let g = p.1 in
        absurd (omega arith)

pub accepted : (bytes : List ℕ) → IsBlockFile bytes → IsAccepted bytes
accepted bytes h =
    ap end_answer (lawful-on [] bytes refl (all_lawful-from bytes h.lawful)) ∙ end-whole_file bytes h.whole

pub accepted-only : (bytes : List ℕ) → IsAccepted bytes → IsBlockFile bytes
accepted-only bytes h =
    let o = open-on [] bytes refl (ends-open (reader_fed (reader_of []) bytes) h) in
    record { whole = go (end-none bytes) (ap end_answer (sym o.1) ∙ h); lawful = lawful-words bytes o.0 }
  where
    go : ((length bytes % (4 * block_subframes) ≡ 0) × (end_answer (reader_of bytes) ≡ Ok tt))
        ⊎ ((0 < length bytes % (4 * block_subframes))
        × (end_answer (reader_of bytes) ≡ Err (BadLength (length bytes % (4 * block_subframes)))))
        → end_answer (reader_of bytes) ≡ Ok tt → length bytes % (4 * block_subframes) ≡ 0
    go (inl q) e = q.0
    go (inr q) e = absurd (wrong (sym e ∙ q.1))
      where
        wrong : {f : FileFault} → ◌≡◌ {A = Result (Unit {0}) FileFault} (Ok tt) (Err f) → ⊥
        wrong e = cc
