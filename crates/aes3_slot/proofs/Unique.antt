-- Cells determine the bits that they carry.
use Rattle.std.proofs.Common.{◌≡◌, ℕ, suc, ◌<◌, List, [], ◌∷◌, ◌++◌, Bool, true, false, refl, length, take, drop, ap}
use Rattle.std.proofs.Common.{ap₂, ◌∙◌, sym, arith, take_at, drop_at, append_assoc}
use Rattle.aes3_level.specs.declared.level.Level.{Level}
use Rattle.aes3_level.specs.declared.level.Level.TheVariants.{Low, High}
use Rattle.aes3_slot.specs.declared.mark.Mark.{Mark}
use Rattle.aes3_level.specs.Cells.{line, after}
use Rattle.aes3_slot.specs.Slots.{bits_runs, mark_runs, runs_of, slot_runs}
use Rattle.aes3_slot.specs.Rules.{Each28}
use Rattle.aes3_slot.specs.Reading.{read_bits, read_slots}
use Rattle.aes3_level.proofs.Runs.{line-append, length-line}
use Rattle.aes3_slot.proofs.Subframes.{total-bits, line-slots}
use Rattle.aes3_slot.specs.Rules.{at, shape}
use Rattle.aes3_slot.proofs.OwnPreambles.{same-from-first, shapes-apart}
use Rattle.aes3_slot.proofs.Index.{subframe-preamble, subframe, subframe-length, length-mark}

pub read_bits-line : (t : Level) (bits : List Bool) → read_bits (line t (bits_runs bits)) ≡ bits
read_bits-line t [] = refl
read_bits-line Low (false ∷ bits) = ap (λ x. false ∷ x) (read_bits-line High bits)
read_bits-line Low (true ∷ bits) = ap (λ x. true ∷ x) (read_bits-line Low bits)
read_bits-line High (false ∷ bits) = ap (λ x. false ∷ x) (read_bits-line Low bits)
read_bits-line High (true ∷ bits) = ap (λ x. true ∷ x) (read_bits-line High bits)

pub read-of-one : (s : Level) (m : Mark) (bits : List Bool) (more : List Level) → length bits ≡ 28
    → read_bits (take 56 (drop 8 (subframe s m bits ++ more))) ≡ bits
read-of-one s m bits more h =
    let p = line s (mark_runs m) in
    let q = line s (bits_runs bits) in
    let e : subframe s m bits ++ more ≡ p ++ (q ++ more) = ap (λ x. x ++ more) (line-slots s m bits)
    ∙ append_assoc p q more in
    let l : length q ≡ 56 = let a = length-line s (bits_runs bits) in let b = total-bits bits in
    omega (arith, a, b, h) in
    ap (λ x. read_bits (take 56 (drop 8 x))) e
    ∙ ap (λ x. read_bits (take 56 x)) (drop_at p (q ++ more) 8 (length-mark s m))
    ∙ ap read_bits (take_at q more 56 l)
    ∙ read_bits-line s bits

-- the bits of subframes are read back, whatever follows them
pub read_slots-line : (marks : ℕ → Mark) (s : Level) (ps : List (List Bool)) (more : List Level) → Each28 ps
    → read_slots (length ps) (line s (runs_of marks ps) ++ more) ≡ ps
read_slots-line marks s [] more e = refl
read_slots-line marks s (bits ∷ ps) more e =
    let u = after s (slot_runs (marks 0) bits) in
    let a = subframe s (marks 0) bits in
    let b = line u (runs_of (λ j. marks (suc j)) ps) in
    let joined : line s (runs_of marks (bits ∷ ps)) ++ more ≡ subframe s
    (marks 0) bits ++ (line (after s (slot_runs (marks 0) bits)) (runs_of (λ j. marks (suc j)) ps) ++ more) =
    ap (λ x. x ++ more) (line-append s (slot_runs (marks 0) bits) (runs_of (λ j. marks (suc j)) ps))
    ∙ append_assoc a b more in
    ap (read_slots (suc (length ps))) joined
    ∙ ap₂ (λ x y. x ∷ y) (read-of-one s (marks 0) bits (b ++ more) e.0)
    (ap (read_slots (length ps)) (drop_at a (b ++ more) 64 (subframe-length s (marks 0) bits e.0))
    ∙ read_slots-line (λ j. marks (suc j)) u ps more e.1)

-- unique decoding, whatever follows
pub unique : (marks : ℕ → Mark) (s : Level) (ps qs : List (List Bool)) (c d : List Level) → length ps ≡ length qs
    → Each28 ps → Each28 qs
    → line s (runs_of marks ps) ++ c ≡ line s (runs_of marks qs) ++ d → ps ≡ qs
unique marks s ps qs c d l e f g =
    sym (read_slots-line marks s ps c e) ∙ ap₂ read_slots l g ∙ read_slots-line marks s qs d f

-- the bits of one subframe alone
pub read-slots : (s : Level) (m : Mark) (bits : List Bool) → read_bits (drop 8 (line s (slot_runs m bits))) ≡ bits
read-slots s m bits =
    ap (λ x. read_bits (drop 8 x)) (line-slots s m bits)
    ∙ ap read_bits (drop_at (line s (mark_runs m)) (line s (bits_runs bits)) 8 (length-mark s m))
    ∙ read_bits-line s bits

-- 64 cells tell the level before them, the mark and the bits
pub subframe-unique : (s t : Level) (m n : Mark) (a b : List Bool) → line s (slot_runs m a) ≡ line t (slot_runs n b)
    → (s ≡ t) × (m ≡ n) × (a ≡ b)
subframe-unique s t m n a b e = (
  same-from-first m n s t (cell 0 (omega arith)),
  shapes-apart m n s t cell,
  sym (read-slots s m a)
      ∙ ap (λ x. read_bits (drop 8 x)) e ∙ read-slots t n b,
)
  where
    cell : (k : ℕ) → k < 8 → shape m k s ≡ shape n k t
    cell k h = sym (subframe-preamble s m a k h) ∙ ap (λ c. at c k) e ∙ subframe-preamble t n b k h
