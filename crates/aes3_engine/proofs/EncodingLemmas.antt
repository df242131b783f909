-- A block file converted byte by byte.
use Rattle.std.proofs.Common.{◌≡◌, ℕ, zero, suc, ◌+◌, ◌/◌, ◌≤◌, List, [], ◌∷◌, ◌++◌, Bool, true, Option, Some, None}
use Rattle.std.proofs.Common.{Result, Ok, Err, length, drop, refl, sym, ap, ◌∙◌, subst, arith, append-nil, append_assoc}
use Rattle.std.proofs.Common.{length-append}
use Rattle.aes3_level.specs.declared.level.Level.TheVariants.{Low}
use Rattle.aes3_refusals.specs.declared.run_error.RunError.{RunError}
use Rattle.aes3_cell.specs.Ends.{Grew, GrewFront}
use Rattle.aes3_cell.specs.declared.form.Form.{Form}
use Rattle.aes3_cell.specs.Written.{bytes_of, ending}
use Rattle.aes3_cell.proofs.Growing.{grew-none, grew-is, front-is}
use Rattle.aes3_block.specs.declared.file.FileFault.{FileFault}
use Rattle.aes3_block.specs.declared.file.FileFault.TheVariants as fault
use Rattle.aes3_frame.specs.Blocks.{block_subframes, block_cells}
use Rattle.aes3_frame.specs.Files.{words_of, lawful_words, file_blocks, blocks_in}
use Rattle.aes3_block.specs.Readers.{FileReader, reader_of, byte_fault, block_with, TakesBlock, TakesQuietly}
use Rattle.aes3_block.specs.Readers.{answer_with, next_with, end_answer}
use Rattle.aes3_block.specs.Refusals.{refusal_of}
use Rattle.aes3_block.proofs.Reading.{answered, answered-err}
use Rattle.aes3_frame.proofs.Words.{all_lawful, lawful-words, all_lawful-from, length-words}
use Rattle.aes3_block.proofs.WholeBlocks.{reader-next, lawful-next, blocks-next, added_blocks}
use Rattle.aes3_input.specs.Converting.{or_else, unless, fault_behind, out_behind, before_fault}
use Rattle.aes3_input.specs.Running.{Fed, Stopped, PieceRan, EndRan}
use Rattle.aes3_input.proofs.Feeding.{fed-none, fed-is, fed-join, front-joined}
use Rattle.aes3_engine.specs.Encoding.{encoding, encoding_state, refused_by, refused_at_end, block_written, Encodes}
use Rattle.aes3_engine.specs.Encoding.{AllLawful}
use Rattle.aes3_block.proofs.Feeding.{reader-open}

-- one byte that is no fault
pub one-clean : (form : Form) (b : List ℕ) (x : ℕ) (block : Option (List (List Bool)))
    → byte_fault (reader_of b) x ≡ None → block_with (reader_of b) x ≡ block
    → (fault_behind (encoding form) b (x ∷ []) ≡ None)
    × (out_behind (encoding form) b (x ∷ []) ≡ block_written form block)
unfolding encoding
one-clean form b x block e f = (
  ap (λ o. or_else (refused_by o) None) e,
  ap (λ o. unless (refused_by o) (block_written form (block_with (reader_of b) x) ++ [])) e
      ∙ append-nil (block_written form (block_with (reader_of b) x)) ∙ ap (block_written form) f,
)

pub one-fault : (form : Form) (b : List ℕ) (x : ℕ) (f : FileFault) → byte_fault (reader_of b) x ≡ Some f
    → (fault_behind (encoding form) b (x ∷ []) ≡ Some (refusal_of f)) × (out_behind (encoding form) b (x ∷ []) ≡ [])
    × (before_fault (encoding form) b (x ∷ []) ≡ [])
unfolding encoding
one-fault form b x f e = (
  ap (λ o. or_else (refused_by o) None) e,
  ap (λ o. unless (refused_by o) (block_written form (block_with (reader_of b) x) ++ [])) e,
  ap (λ o. unless (refused_by o) (x ∷ [])) e,
)

-- what the answer says, of the reader behind b
answered-of : (r : FileReader) (b : List ℕ) (x : ℕ) (block : Option (List (List Bool))) → r ≡ reader_of b
    → Ok block ≡ answer_with r x
    → (byte_fault (reader_of b) x ≡ None) × (block_with (reader_of b) x ≡ block)
    × (next_with r x ≡ reader_of (b ++ x ∷ []))
answered-of r b x block e a =
    let q = answered (reader_of b) x block (reader-open b) (a ∙ ap (λ v. answer_with v x) e) in
    (q.0, q.1, ap (λ v. next_with v x) e ∙ q.2 ∙ reader-next b x q.0)

pub all-lawful : {b : List ℕ} → AllLawful b → all_lawful (words_of b) ≡ true
all-lawful {b} h = all_lawful-from b h.is

-- behind one more byte without a fault the conversion follows one more byte
next-encodes : {file : FileReader} {blocks : ℕ} (new : FileReader) (b : List ℕ) (x : ℕ)
    (block : Option (List (List Bool)))
    → Encodes file blocks b → Ok block ≡ answer_with file x → new ≡ next_with file x
    → Encodes new (blocks + length (added_blocks block)) (b ++ x ∷ [])
next-encodes {file} {blocks} new b x block h a n =
    let q = answered-of file b x block h.reader a in
    let l = all-lawful h.lawful in
    let g = blocks-next b x l q.0 ∙ ap (λ o. file_blocks b ++ added_blocks o) q.1 in
    record {
      reader = n ∙ q.2;
      lawful = record { is = lawful-words (b ++ x ∷ []) (lawful-next b x l q.0) };
      count = ap (λ k. k + length (added_blocks block)) h.count
          ∙ sym (length-append (file_blocks b) (added_blocks block)) ∙ ap length (sym g);
    }

fed-byte : (form : Form) {file : FileReader} {blocks : ℕ} (new : FileReader) (x : ℕ) (block : Option (List (List Bool)))
    (t t' : Option (List ℕ))
    → Ok block ≡ answer_with file x → new ≡ next_with file x → Grew t t' (block_written form block)
    → Fed (encoding form) (encoding form) (Encodes file blocks)
    (Encodes new (blocks + length (added_blocks block))) t t' (x ∷ [])
fed-byte form {file} {blocks} new x block t t' a n g = record {
  same = refl;
  clean = λ b h. let q = answered-of file b x block h.reader a in (one-clean form b x block q.0 q.1).0;
  follows = λ b h. next-encodes new b x block h a n;
  grew = λ b h. let q = answered-of file b x block h.reader a in grew-is (sym (one-clean form b x block q.0 q.1).1) g;
}

pub byte-none : (form : Form) {file : FileReader} {blocks : ℕ} (new : FileReader) (x : ℕ) (t : Option (List ℕ))
    → Ok None ≡ answer_with file x → new ≡ next_with file x
    → Fed (encoding form) (encoding form) (Encodes file blocks) (Encodes new blocks) t t (x ∷ [])
byte-none form {file} {blocks} new x t a n =
    subst (λ (k : ℕ). Fed (encoding form) (encoding form) (Encodes file blocks) (Encodes new k) t t (x ∷ []))
    (omega arith) (fed-byte form new x None t t a n (grew-none refl))

-- bytes that are taken quietly, and a reader that has taken none
pub bytes-quiet : (form : Form) {blocks : ℕ} (file new : FileReader) (bytes : List ℕ) (t : Option (List ℕ))
    → TakesQuietly file bytes new
    → Fed (encoding form) (encoding form) (Encodes file blocks) (Encodes new blocks) t t bytes
bytes-quiet form {blocks} file new [] t q =
    subst (λ (v : FileReader). Fed (encoding form) (encoding form) (Encodes file blocks) (Encodes v blocks) t t [])
    (sym q) (fed-none (encoding form) (Encodes file blocks) t)
bytes-quiet form file new (x ∷ b) t q = fed-join (byte-none form (next_with file x) x t (sym q.0) refl)
    (bytes-quiet form (next_with file x) new b t q.1)

pub byte-block : (form : Form) {file : FileReader} {blocks : ℕ} (new : FileReader) (x : ℕ) (block : List (List Bool))
    (t t' : Option (List ℕ))
    → Ok (Some block) ≡ answer_with file x → new ≡ next_with file x → Grew t t' (bytes_of form (block_cells Low block))
    → Fed (encoding form) (encoding form) (Encodes file blocks) (Encodes new (blocks + 1)) t t' (x ∷ [])
byte-block form new x block t t' a n g = fed-byte form new x (Some block) t t' a n g

pub byte-front : (form : Form) {file : FileReader} {blocks : ℕ} (x : ℕ) (block : List (List Bool))
    (t t' : Option (List ℕ))
    → Ok (Some block) ≡ answer_with file x → GrewFront t t' (bytes_of form (block_cells Low block))
    → (b : List ℕ) → Encodes file blocks b → GrewFront t t' (out_behind (encoding form) b (x ∷ []))
byte-front form {file} x block t t' a g b h =
    let q = answered-of file b x (Some block) h.reader a in front-is (sym (one-clean form b x (Some block) q.0 q.1).1) g

-- the bytes of a block that are taken at once
pub block-fed : (form : Form) {blocks : ℕ} (file new : FileReader) (bytes : List ℕ) (block : List (List Bool))
    (t t' : Option (List ℕ))
    → TakesBlock file bytes block new → Grew t t' (bytes_of form (block_cells Low block))
    → Fed (encoding form) (encoding form) (Encodes file blocks) (Encodes new (blocks + 1)) t t' bytes
block-fed form file new bytes block t t' h g =
    fed-is h.is (fed-join (bytes-quiet form file h.behind h.quiet t h.taken)
    (byte-block form new h.last block t t' (sym h.ends) h.next g))

pub block-front : (form : Form) {blocks : ℕ} (file new : FileReader) (bytes rest xs : List ℕ) (block : List (List Bool))
    (t t' : Option (List ℕ))
    → TakesBlock file bytes block new → bytes ++ rest ≡ xs → GrewFront t t' (bytes_of form (block_cells Low block))
    → (b : List ℕ) → Encodes file blocks b → GrewFront t t' (out_behind (encoding form) b xs)
block-front form {blocks} file new bytes rest xs block t t' h e g b k =
    front-is (ap (out_behind (encoding form) b) (sym (append_assoc h.quiet (h.last ∷ []) rest)
    ∙ ap (λ z. z ++ rest) h.is ∙ e))
    (front-joined (h.last ∷ []) rest (bytes-quiet form {blocks = blocks} file h.behind h.quiet t h.taken)
    (byte-front form {file = h.behind} {blocks = blocks} h.last block t t' (sym h.ends) g) b k)

-- a byte that is refused
-- how many whole blocks were written
abbrev pub Blocks : ℕ → List ℕ → Type 0
Blocks blocks = λ b. blocks ≡ length (file_blocks b)

stopped-byte : (form : Form) {file : FileReader} {blocks : ℕ} (x : ℕ) (f : FileFault) (t : Option (List ℕ))
    → Err f ≡ answer_with file x
    → Stopped (encoding form) (Encodes file blocks) (Blocks blocks) t t (x ∷ []) (refusal_of f)
stopped-byte form {file} {blocks} x f t a = record {
  fault = λ b h. (one-fault form b x f (here b h)).0;
  left = λ b h. subst (Blocks blocks)
      (sym (ap (λ z. b ++ z) (one-fault form b x f (here b h)).2 ∙ append-nil b)) h.count;
  grew = λ b h. grew-is (sym (one-fault form b x f (here b h)).1) (grew-none refl);
}
  where
    here : (b : List ℕ) → Encodes file blocks b → byte_fault (reader_of b) x ≡ Some f
    here b h = answered-err (reader_of b) x f (reader-open b) (a ∙ ap (λ v. answer_with v x) h.reader)

pub byte-refused : (form : Form) (file new : FileReader) (blocks : ℕ) (x : ℕ) (f : FileFault)
    (e : RunError) (t : Option (List ℕ)) (k : ℕ) → e ≡ refusal_of f → Err f ≡ answer_with file x
    → PieceRan (encoding_state form file blocks) (encoding_state form new blocks) (x ∷ [])
    (record { old = t; new = t; failed_old = k; failed_new = k }) (Err e)
byte-refused form file new blocks x f e t k q a =
    subst (λ (v : RunError). PieceRan (encoding_state form file blocks) (encoding_state form new blocks) (x ∷ [])
    (record { old = t; new = t; failed_old = k; failed_new = k }) (Err v)) (sym q) (go f (stopped-byte form x f t a))
  where
    go : (f : FileFault) → Stopped (encoding form) (Encodes file blocks) (Blocks blocks) t t (x ∷ []) (refusal_of f)
        → PieceRan (encoding_state form file blocks) (encoding_state form new blocks) (x ∷ [])
        (record { old = t; new = t; failed_old = k; failed_new = k }) (Err (refusal_of f))
    go (fault.BadLength left) s = (s, refl)
    go (fault.BadCode at) s = (s, refl)
    go (fault.BadParity at) s = (s, refl)

-- the end
end-of : (form : Form) (r : FileReader) (b : List ℕ) (e : Result (Unit {0}) FileFault) → r ≡ reader_of b
    → e ≡ end_answer r → (encoding form).end_fault b ≡ refused_at_end e
unfolding encoding
end-of form r b e h q = ap refused_at_end (sym (q ∙ ap end_answer h))

pub end-clean : (form : Form) {file : FileReader} {blocks : ℕ} (t t' : Option (List ℕ)) → Ok tt ≡ end_answer file
    → Grew t t' (ending form)
    → (b : List ℕ) → Encodes file blocks b → ((encoding form).end_fault b ≡ None) × Encodes file blocks b
    × Grew t t' ((encoding form).ends b)
unfolding encoding
end-clean form {file} t t' q g b h = (end-of form file b (Ok tt) h.reader q, h, g)

pub end-front : (form : Form) {file : FileReader} {blocks : ℕ} (t t' : Option (List ℕ)) → Ok tt ≡ end_answer file
    → GrewFront t t' (ending form)
    → (b : List ℕ) → Encodes file blocks b → ((encoding form).end_fault b ≡ None)
    × GrewFront t t' ((encoding form).ends b)
unfolding encoding
end-front form {file} t t' q g b h = (end-of form file b (Ok tt) h.reader q, g)

pub end-refused : (form : Form) (file new : FileReader) (blocks : ℕ) (f : FileFault)
    (e : RunError) (t : Option (List ℕ)) (k : ℕ) → e ≡ refusal_of f → Err f ≡ end_answer file
    → EndRan (encoding_state form file blocks) (encoding_state form new blocks)
    (record { old = t; new = t; failed_old = k; failed_new = k }) (Err e)
end-refused form file new blocks f e t k q a =
    subst (λ (v : RunError). EndRan (encoding_state form file blocks) (encoding_state form new blocks)
    (record { old = t; new = t; failed_old = k; failed_new = k }) (Err v)) (sym q) (go f a)
  where
    go : (f : FileFault) → Err f ≡ end_answer file
        → EndRan (encoding_state form file blocks) (encoding_state form new blocks)
        (record { old = t; new = t; failed_old = k; failed_new = k }) (Err (refusal_of f))
    go (fault.BadLength left) a =
        (λ b h. (end-of form file b (Err (fault.BadLength left)) h.reader a, h.count, grew-none refl), refl)
    go (fault.BadCode at) a =
        (λ b h. (end-of form file b (Err (fault.BadCode at)) h.reader a, h.count, grew-none refl), refl)
    go (fault.BadParity at) a =
        (λ b h. (end-of form file b (Err (fault.BadParity at)) h.reader a, h.count, grew-none refl), refl)

-- how many bytes, and how many blocks at most
pub encodes-seen : {file : FileReader} {blocks : ℕ} {b : List ℕ} → Encodes file blocks b → file.seen ≡ length b
unfolding reader_of
encodes-seen h = ap (λ r. r.seen) h.reader

length-blocks : (n : ℕ) (ws : List ℕ) → length (blocks_in n ws) ≡ n
length-blocks zero ws = refl
length-blocks (suc n) ws = ap suc (length-blocks n (drop block_subframes ws))

pub few-blocks : (b : List ℕ) → AllLawful b → length (file_blocks b) ≤ length b / 4 / 384
unfolding file_blocks block_subframes
few-blocks b h = let n = length-blocks (length (lawful_words b) / 384) (lawful_words b) in let m = ap length h.is in
    let k = length-words b in omega arith
