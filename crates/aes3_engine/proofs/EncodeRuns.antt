-- A whole run over a block file.
use Rattle.std.proofs.Common.{◌≡◌, ◌≢◌, ℕ, ◌*◌, ◌/◌, ◌%◌, ◌<◌, ◌≤◌, ◌⊎◌, inl, inr, List, [], ◌∷◌, ◌++◌, Bool, true}
use Rattle.std.proofs.Common.{Option, Some, None, length, take, get_or, refl, sym, ap, ◌∙◌, subst, arith}
use Rattle.std.proofs.Common.{append_assoc, append-nil}
use Rattle.std.proofs.lemmas.List.{take_all}
use Rattle.aes3_level.specs.declared.level.Level.TheVariants.{Low}
use Rattle.aes3_refusals.specs.declared.run_error.RunError.{RunError}
use Rattle.aes3_refusals.specs.declared.run_error.RunError.TheVariants.{BadCell, BadLength, BadCode, BadParity, Read, Write}
use Rattle.aes3_refusals.specs.declared.run_error.RunError.TheVariants.{TooLong, Memory, BadStatusText, BadPadding, BadSample}
use Rattle.aes3_refusals.specs.declared.run_error.RunError.TheVariants.{SoundHeader, Inexact}
use Rattle.aes3_cell.specs.declared.counts.Counts.{Counts}
use Rattle.aes3_cell.specs.declared.form.Form.{Form}
use Rattle.aes3_cell.specs.Written.{bytes_of, ending, written}
use Rattle.aes3_cell.proofs.WrittenForms.{bytes-nothing, written-whole}
use Rattle.aes3_block.specs.declared.file.FileFault.{FileFault}
use Rattle.aes3_block.specs.declared.file.FileFault.TheVariants as fault
use Rattle.aes3_frame.specs.Blocks.{block_subframes, block_len, stream}
use Rattle.aes3_frame.specs.Files.{words_of, lawful_words, has_code, has_parity, file_blocks, file, IsBlockFile}
use Rattle.aes3_block.specs.Readers.{FileReader, reader_of, byte_fault, block_with}
use Rattle.aes3_block.specs.Refusals.{refusal_of}
use Rattle.aes3_frame.proofs.Words.{all_lawful, lawful-words}
use Rattle.aes3_block.proofs.WholeBlocks.{lawful-next, blocks-next, blocks-stay, added_blocks, fault-place, code-fault}
use Rattle.aes3_block.proofs.WholeBlocks.{parity-fault, length-fault, end-none, reader-new}
use Rattle.aes3_block.proofs.StreamBytes.{stream-bytes}
use Rattle.aes3_frame.proofs.Streams.{each27-whole, stream-nil, file_blocks-nil, length-stream}
use Rattle.aes3_frame.proofs.Streams.{slot_count}
use Rattle.aes3_input.specs.Converting.{or_else, fault_behind, first_fault, out, whole}
use Rattle.aes3_input.specs.Running.{IsFault, converted}
use Rattle.aes3_input.proofs.Outputs.{out-is}
use Rattle.aes3_input.proofs.InputRuns.{Gives}
use Rattle.aes3_engine.specs.Encoding.{encoded, encoded_file, encoding, refused_by, refused_at_end, block_written}
use Rattle.aes3_engine.specs.Encoding.{Encodes, AllLawful, BadCodeAt, BadParityAt, IsCauseOf, encode_counts}
use Rattle.aes3_engine.proofs.EncodingLemmas.{all-lawful}
use Rattle.std.proofs.lemmas.Option.{none-some, same_Some}

refused-none : (o : Option FileFault) → refused_by o ≡ None → o ≡ None
refused-none None e = refl
refused-none (Some f) e = cc

refused-some : (o : Option FileFault) (e : RunError) → refused_by o ≡ Some e → (f : FileFault) × (o ≡ Some f)
    × (e ≡ refusal_of f)
refused-some None e q = absurd cc
refused-some (Some f) e q = (f, refl, cc)

-- bytes without a fault are lawful words
lawful-of-clean : (form : Form) (p d : List ℕ) → all_lawful (words_of p) ≡ true
    → fault_behind (encoding form) p d ≡ None → all_lawful (words_of (p ++ d)) ≡ true
unfolding encoding
lawful-of-clean form p [] l e = ap (λ b. all_lawful (words_of b)) (append-nil p) ∙ l
lawful-of-clean form p (x ∷ d) l e =
    go (byte_fault (reader_of p) x) refl e (λ k q. lawful-of-clean form (p ++ x ∷ []) d k q)
  where
    go : (o : Option FileFault) → byte_fault (reader_of p) x ≡ o
        → or_else (refused_by o) (fault_behind (encoding form) (p ++ x ∷ []) d) ≡ None
        → (all_lawful (words_of (p ++ x ∷ [])) ≡ true → fault_behind (encoding form) (p ++ x ∷ []) d ≡ None
        → all_lawful (words_of ((p ++ x ∷ []) ++ d)) ≡ true)
        → all_lawful (words_of (p ++ x ∷ d)) ≡ true
    go None q e next = ap (λ b. all_lawful (words_of b)) (sym (append_assoc p (x ∷ []) d))
        ∙ next (lawful-next p x l q) e
    go (Some f) q e next = absurd cc

pub clean-lawful : (form : Form) (b : List ℕ) → first_fault (encoding form) b ≡ None → AllLawful b
unfolding first_fault
clean-lawful form b e = record { is = lawful-words b (lawful-of-clean form [] b refl e) }

-- what the conversion writes
pub out-encoded : (form : Form) (b : List ℕ) → out (encoding form) b ≡ encoded form b
unfolding encoding encoded
out-encoded form = out-is (encoding form) (encoded form) nothing more stays
  where
    nothing : encoded form [] ≡ []
    nothing = ap (λ v. bytes_of form (stream Low v)) file_blocks-nil ∙ ap (bytes_of form) (stream-nil Low)
        ∙ bytes-nothing form

    more : (b : List ℕ) (x : ℕ) → first_fault (encoding form) b ≡ None → (encoding form).fault b x ≡ None
        → encoded form (b ++ x ∷ []) ≡ encoded form b ++ (encoding form).adds b x
    more b x c e =
        let l = all-lawful (clean-lawful form b c) in
        let n = blocks-next b x l (refused-none (byte_fault (reader_of b) x) e) in
        ap (λ v. bytes_of form (stream Low v)) n ∙ added (block_with (reader_of b) x)
      where
        added : (o : Option (List (List Bool)))
            → bytes_of form (stream Low (file_blocks b ++ added_blocks o)) ≡ bytes_of form
            (stream Low (file_blocks b)) ++ block_written form o
        added None = ap (λ v. bytes_of form (stream Low v)) (append-nil (file_blocks b))
            ∙ sym (append-nil (bytes_of form (stream Low (file_blocks b))))
        added (Some block) = stream-bytes form Low (file_blocks b) block (each27-whole b)

    stays : (b : List ℕ) (x : ℕ) (d : List ℕ) (e : RunError) → first_fault (encoding form) b ≡ None
        → (encoding form).fault b x ≡ Some e → encoded form (b ++ x ∷ d) ≡ encoded form b
    stays b x d e c q =
        let r = refused-some (byte_fault (reader_of b) x) e q in
        ap (λ v. bytes_of form (stream Low v)) (blocks-stay b x d r.0 (all-lawful (clean-lawful form b c)) r.1)

pub whole-encoded : (form : Form) (b : List ℕ) → whole (encoding form) b ≡ written form (stream Low (file_blocks b))
unfolding whole encoding encoded stream
whole-encoded form b =
    ap (λ o. o ++ ending form) (out-encoded form b)
    ∙ written-whole form (slot_count (file_blocks b)) (stream Low (file_blocks b))
    (length-stream Low (file_blocks b) (each27-whole b))

-- the first fault of an input is its first word that is not lawful
cause-behind : (form : Form) (p d : List ℕ) (e : RunError) → all_lawful (words_of p) ≡ true
    → fault_behind (encoding form) p d ≡ Some e
    → ((at : ℕ) × (e ≡ BadCode at) × BadCodeAt (p ++ d) at) ⊎ ((at : ℕ) × (e ≡ BadParity at) × BadParityAt (p ++ d) at)
unfolding encoding
cause-behind form p [] e l q = absurd cc
cause-behind form p (x ∷ d) e l q =
    go (byte_fault (reader_of p) x) refl q (λ k h. cause-behind form (p ++ x ∷ []) d e k h)
  where
    Cause : List ℕ → Type 0
    Cause b = ((at : ℕ) × (e ≡ BadCode at) × BadCodeAt b at) ⊎ ((at : ℕ) × (e ≡ BadParity at) × BadParityAt b at)

    told : (f : FileFault) → byte_fault (reader_of p) x ≡ Some f → e ≡ refusal_of f → Cause (p ++ x ∷ d)
    told (fault.BadCode at) r z =
        let v = fault-place p x d (fault.BadCode at) l r in
        let u = code-fault (length p / 4) (get_or (words_of (p ++ x ∷ d)) (length p / 4) 0) at v.2 in
        inl (
          at,
          z,
          record {
            before = v.0 ∙ sym u.0;
            within = (let i = v.1 in let j = u.0 in omega arith);
            code = ap (λ k. has_code (get_or (words_of (p ++ x ∷ d)) k 0)) u.0 ∙ u.1;
          },
        )
    told (fault.BadParity at) r z =
        let v = fault-place p x d (fault.BadParity at) l r in
        let u = parity-fault (length p / 4) (get_or (words_of (p ++ x ∷ d)) (length p / 4) 0) at v.2 in
        inr (
          at,
          z,
          record {
            before = v.0 ∙ sym u.0;
            within = (let i = v.1 in let j = u.0 in omega arith);
            code = ap (λ k. has_code (get_or (words_of (p ++ x ∷ d)) k 0)) u.0 ∙ u.1;
            parity = ap (λ k. has_parity (get_or (words_of (p ++ x ∷ d)) k 0)) u.0 ∙ u.2;
          },
        )
    told (fault.BadLength left) r z =
        absurd (length-fault (length p / 4) (get_or (words_of (p ++ x ∷ d)) (length p / 4) 0) left
        (fault-place p x d (fault.BadLength left) l r).2)

    go : (o : Option FileFault) → byte_fault (reader_of p) x ≡ o
        → or_else (refused_by o) (fault_behind (encoding form) (p ++ x ∷ []) d) ≡ Some e
        → (all_lawful (words_of (p ++ x ∷ [])) ≡ true → fault_behind (encoding form) (p ++ x ∷ []) d ≡ Some e
        → Cause ((p ++ x ∷ []) ++ d)) → Cause (p ++ x ∷ d)
    go None r q next = subst Cause (append_assoc p (x ∷ []) d) (next (lawful-next p x l r) q)
    go (Some f) r q next = told f r cc

cause-of : (form : Form) (b : List ℕ) (e : RunError) → first_fault (encoding form) b ≡ Some e
    → ((at : ℕ) × (e ≡ BadCode at) × BadCodeAt b at) ⊎ ((at : ℕ) × (e ≡ BadParity at) × BadParityAt b at)
unfolding first_fault
cause-of form b e q = cause-behind form [] b e refl q

pub end-cases : (form : Form) (b : List ℕ) → (((encoding form).end_fault b ≡ None) × (length b % (4 * block_subframes) ≡ 0))
    ⊎ (((encoding form).end_fault b ≡ Some (BadLength (length b % (4 * block_subframes))))
    × (0 < length b % (4 * block_subframes)))
unfolding encoding
end-cases form b = elim (end-none b) [
  | inl q ↦ inl (ap refused_at_end q.1, q.0)
  | inr q ↦ inr (ap refused_at_end q.1, q.0)
]

-- the cause of each refusal
pub code-cause : (form : Form) (b : List ℕ) (at : ℕ) → first_fault (encoding form) b ≡ Some (BadCode at)
    → BadCodeAt b at
code-cause form b at q = elim (cause-of form b (BadCode at) q) [
  | inl c ↦ subst (BadCodeAt b) (same c.0 c.1) c.2
  | inr c ↦ absurd (other c.0 c.1)
]
  where
    same : (k : ℕ) → BadCode at ≡ BadCode k → k ≡ at
    same k e = cc

    other : (k : ℕ) → BadCode at ≡ BadParity k → ⊥
    other k e = cc

pub parity-cause : (form : Form) (b : List ℕ) (at : ℕ) → first_fault (encoding form) b ≡ Some (BadParity at)
    → BadParityAt b at
parity-cause form b at q = elim (cause-of form b (BadParity at) q) [
  | inl c ↦ absurd (other c.0 c.1)
  | inr c ↦ subst (BadParityAt b) (same c.0 c.1) c.2
]
  where
    same : (k : ℕ) → BadParity at ≡ BadParity k → k ≡ at
    same k e = cc

    other : (k : ℕ) → BadParity at ≡ BadCode k → ⊥
    other k e = cc

-- a refusal that is neither of a word nor of the end has no cause
pub no-fault-cause : (form : Form) (b : List ℕ) (e : RunError) → ((k : ℕ) → e ≡ BadCode k → ⊥)
    → ((k : ℕ) → e ≡ BadParity k → ⊥) → first_fault (encoding form) b ≡ Some e → ⊥
no-fault-cause form b e c p q = elim (cause-of form b e q) [ inl r ↦ c r.0 r.1 | inr r ↦ p r.0 r.1 ]

pub no-end-cause : (form : Form) (b : List ℕ) (e : RunError) → ((k : ℕ) → e ≡ BadLength k → ⊥)
    → (encoding form).end_fault b ≡ Some e → ⊥
no-end-cause form b e n q = elim (end-cases form b) [
  | inl r ↦ none-some _ (sym r.0 ∙ q)
  | inr r ↦ n (length b % (4 * block_subframes)) (same_Some _ _ (sym q ∙ r.0))
]

pub length-cause : (form : Form) (b : List ℕ) (left : ℕ) → (encoding form).end_fault b ≡ Some (BadLength left)
    → (left ≡ length b % (4 * block_subframes)) × (0 < left)
length-cause form b left q = elim (end-cases form b) [
  | inl r ↦ absurd (none-some _ (sym r.0 ∙ q))
  | inr r ↦ let e : left ≡ length b % (4 * block_subframes) = same (length b % (4 * block_subframes)) (sym q ∙ r.0) in
      (e, (let h = r.1 in omega arith))
]
  where
    same : (k : ℕ) → Some (BadLength left) ≡ Some (BadLength k) → left ≡ k
    same k q = cc

fault-cause : (form : Form) (max : ℕ) (b : List ℕ) (ended : Bool) (e : RunError) → IsFault (encoding form) max b ended e
    → IsCauseOf max b ended e
fault-cause form max b ended Read h = (clean-lawful form b h.clean, h.short)
fault-cause form max b ended Write h = h
fault-cause form max b ended TooLong h = (clean-lawful form (take max b) h.0.clean, h.1)
fault-cause form max b ended (BadCode at) h = elim h [
  | inl q ↦ code-cause form (take max b) at q
  | inr q ↦ absurd (no-end-cause form b (BadCode at) (λ k e. cc) q.1)
]
fault-cause form max b ended (BadParity at) h = elim h [
  | inl q ↦ parity-cause form (take max b) at q
  | inr q ↦ absurd (no-end-cause form b (BadParity at) (λ k e. cc) q.1)
]
fault-cause form max b ended (BadLength left) h = elim h [
  | inl q ↦ absurd (no-fault-cause form (take max b) (BadLength left) (λ k e. cc) (λ k e. cc) q)
  | inr q ↦ let c = length-cause form b left q.1 in
      (record { lawful = clean-lawful form b q.0.clean.clean; count = c.0; some = c.1 }, q.0.clean.short, q.0.end)
]
fault-cause form max b ended (BadCell at) h = elim h [
  | inl q ↦ no-fault-cause form (take max b) (BadCell at) (λ k e. cc) (λ k e. cc) q
  | inr q ↦ no-end-cause form b (BadCell at) (λ k e. cc) q.1
]
fault-cause form max b ended Memory h = elim h [
  | inl q ↦ no-fault-cause form (take max b) Memory (λ k e. cc) (λ k e. cc) q
  | inr q ↦ no-end-cause form b Memory (λ k e. cc) q.1
]
fault-cause form max b ended BadStatusText h = elim h [
  | inl q ↦ no-fault-cause form (take max b) BadStatusText (λ k e. cc) (λ k e. cc) q
  | inr q ↦ no-end-cause form b BadStatusText (λ k e. cc) q.1
]
fault-cause form max b ended (BadPadding at) h = elim h [
  | inl q ↦ no-fault-cause form (take max b) (BadPadding at) (λ k e. cc) (λ k e. cc) q
  | inr q ↦ no-end-cause form b (BadPadding at) (λ k e. cc) q.1
]
fault-cause form max b ended (BadSample at) h = elim h [
  | inl q ↦ no-fault-cause form (take max b) (BadSample at) (λ k e. cc) (λ k e. cc) q
  | inr q ↦ no-end-cause form b (BadSample at) (λ k e. cc) q.1
]
fault-cause form max b ended SoundHeader h = elim h [
  | inl q ↦ no-fault-cause form (take max b) SoundHeader (λ k e. cc) (λ k e. cc) q
  | inr q ↦ no-end-cause form b SoundHeader (λ k e. cc) q.1
]
fault-cause form max b ended (Inexact at) h = elim h [
  | inl q ↦ no-fault-cause form (take max b) (Inexact at) (λ k e. cc) (λ k e. cc) q
  | inr q ↦ no-end-cause form b (Inexact at) (λ k e. cc) q.1
]

-- bytes without a fault are a block file
clean-file : (form : Form) (b : List ℕ) → first_fault (encoding form) b ≡ None → (encoding form).end_fault b ≡ None
    → IsBlockFile b
clean-file form b c e = record { whole = whole; lawful = (clean-lawful form b c).is }
  where
    whole : length b % (4 * block_subframes) ≡ 0
    whole = elim (end-cases form b) [ inl q ↦ q.1 | inr q ↦ absurd (none-some _ (sym e ∙ q.0)) ]

-- the counts of a run
pub counted : (b : List ℕ) (n blocks : ℕ) → n ≡ length b → blocks ≡ length (file_blocks b)
    → ◌≡◌ {A = Counts} (record {
      bytes = n;
      cells = 24576 * blocks;
      blocks = blocks;
      faults = 0;
      unfinished = 0;
      marks = 0;
    }) (encode_counts b)
unfolding encode_counts block_len block_subframes
counted b n blocks e f = rw (e, f) refl

pub starts : (file : FileReader) → file.seen ≡ 0 → file.words ≡ [] → file.bytes ≡ [] → file.fault ≡ None
    → Encodes file 0 []
starts file a b c d = record {
  reader = reader-new file a b c d;
  lawful = record { is = lawful-words [] refl };
  count = sym (ap length file_blocks-nil);
}

-- a block file that fits has no cause
no-word : (max : ℕ) (b : List ℕ) (at : ℕ) → IsBlockFile b → length b ≤ max → length (lawful_words (take max b)) ≡ at
    → at < length (words_of (take max b)) → ⊥
no-word max b at i l before within =
    let e = take_all max b l in
    let p = ap (λ v. length (lawful_words v)) e in
    let q = ap (λ v. length (words_of v)) e in
    let n = ap length i.lawful in
    omega arith

pub no-file-cause : (max : ℕ) (b : List ℕ) (ended : Bool) → IsBlockFile b → length b ≤ max → (e : RunError) → e ≢ Read
    → e ≢ Write → IsCauseOf max b ended e → ⊥
no-file-cause max b ended i l Read r w h = r refl
no-file-cause max b ended i l Write r w h = w refl
no-file-cause max b ended i l TooLong r w h = let n = h.1 in omega arith
no-file-cause max b ended i l (BadCode at) r w h = no-word max b at i l h.before h.within
no-file-cause max b ended i l (BadParity at) r w h = no-word max b at i l h.before h.within
no-file-cause max b ended i l (BadLength n) r w h = let z = i.whole in let c = h.0.count in
    let s = h.0.some in omega arith
no-file-cause max b ended i l (BadCell n) r w h = h
no-file-cause max b ended i l Memory r w h = h
no-file-cause max b ended i l BadStatusText r w h = h
no-file-cause max b ended i l (BadPadding n) r w h = h
no-file-cause max b ended i l (BadSample n) r w h = h
no-file-cause max b ended i l SoundHeader r w h = h
no-file-cause max b ended i l (Inexact n) r w h = h

-- the run
pub encoding-gives : (form : Form) (z : List ℕ → Type 0) → Gives (converted (encoding form) z) (encoded_file form)
encoding-gives form z = record {
  input = λ b h. clean-file form b h.clean h.end_clean;
  whole = λ b h. whole-encoded form b;
  begun = out-encoded form;
  cause = fault-cause form;
}
