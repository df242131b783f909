-- One more cell behind cells that are packed.
use Rattle.std.proofs.Common.{◌≡◌, ℕ, suc, ◌+◌, ◌-◌, ◌*◌, ◌/◌, ◌<◌, List, [], ◌∷◌, ◌++◌, cond, length, take, refl, sym}
use Rattle.std.proofs.Common.{ap, ap₂, ◌∙◌, arith, append_assoc, append-nil, length-append, eq-eqb, ne_eqb, inl, inr}
use Rattle.std.proofs.lemmas.Bool.{cases_eq}
use Rattle.aes3_level.specs.declared.level.Level.{Level}
use Rattle.aes3_level.specs.Words.{word_len}
use Rattle.aes3_cell.specs.Pending.{begun_cells}
use Rattle.aes3_cell.specs.Packed.{first_octets, octets_needed, octets_of, packed_of}
use Rattle.aes3_cell.specs.PackedPending.{octets_added, whole_octets}
use Rattle.aes3_cell.proofs.LineSteps.{begun-of}
use Rattle.aes3_cell.proofs.PackedCells.{first_octets-append}

-- the octets of whole 64s of cells, and of fewer than 64 behind them
whole_octets-append : (n : ℕ) (a b : List Level) → length a ≡ n * word_len → length b < word_len
    → whole_octets (a ++ b) ≡ first_octets (8 * n) a
unfolding whole_octets word_len
whole_octets-append n a b h f =
    let l = length-append a b in
    let e : 8 * (length (a ++ b) / 64) ≡ 8 * n + 0 = omega arith in
    ap (λ k. first_octets k (a ++ b)) e ∙ first_octets-append (8 * n) 0 a b (omega arith)
    ∙ append-nil (first_octets (8 * n) a)

-- eight octets behind them
whole_octets-full : (n : ℕ) (a b : List Level) → length a ≡ n * word_len → length b ≡ word_len
    → whole_octets (a ++ b) ≡ first_octets (8 * n) a ++ octets_of b
unfolding whole_octets word_len octets_of
whole_octets-full n a b h f =
    let l = length-append a b in
    let e : 8 * (length (a ++ b) / 64) ≡ 8 * n + 8 = omega arith in
    let m : 8 ≡ octets_needed (length b) = omega arith in
    ap (λ k. first_octets k (a ++ b)) e ∙ first_octets-append (8 * n) 8 a b (omega arith)
    ∙ ap (λ k. first_octets (8 * n) a ++ first_octets k b) m

pub whole_octets-more : (c : List Level) (l : Level)
    → whole_octets (c ++ l ∷ []) ≡ whole_octets c ++ octets_added (begun_cells c) l
whole_octets-more c l =
    let b = begun-of c in
    let n = length c / word_len in
    let a = take (word_len * n) c in
    let d = begun_cells c in
    let x = length-append d (l ∷ []) in
    let whole : whole_octets c ≡ first_octets (8 * n) a
    = ap whole_octets b.is ∙ whole_octets-append n a d b.lines b.few in
    ap (λ v. whole_octets (v ++ l ∷ [])) b.is ∙ ap whole_octets (append_assoc a d (l ∷ []))
    ∙ elim (cases_eq (suc (length d)) word_len) [
      | inl e ↦ whole_octets-full n a (d ++ l ∷ []) b.lines (omega arith)
          ∙ ap₂ (λ u t. u ++ cond t (octets_of (d ++ l ∷ [])) []) (sym whole) (sym (eq-eqb (suc (length d)) word_len e))
      | inr e ↦ whole_octets-append n a (d ++ l ∷ []) b.lines (let f = b.few in omega arith)
          ∙ sym (append-nil (first_octets (8 * n) a))
          ∙ ap₂ (λ u t. u ++ cond t (octets_of (d ++ l ∷ [])) []) (sym whole) (sym (ne_eqb (suc (length d)) word_len e))
    ]

pub whole_octets-nil : whole_octets [] ≡ []
unfolding whole_octets word_len
whole_octets-nil = refl

-- packed cells behind whole 64s of cells
pub packed_of-append : (n : ℕ) (a d : List Level) → length a ≡ n * word_len
    → packed_of (a ++ d) ≡ first_octets (8 * n) a ++ packed_of d
unfolding packed_of octets_of word_len
packed_of-append n a d h =
    let l = length-append a d in
    let e : octets_needed (length (a ++ d)) ≡ 8 * n + octets_needed (length d) = omega arith in
    let u : 8 * octets_needed (length (a ++ d)) - length (a ++ d) ≡ 8 * octets_needed (length d) - length d
    = omega arith in
    ap₂ (λ k v. first_octets k (a ++ d) ++ v ∷ []) e u
    ∙ ap (λ x. x ++ (8 * octets_needed (length d) - length d) ∷ [])
    (first_octets-append (8 * n) (octets_needed (length d)) a d (omega arith))
    ∙ append_assoc (first_octets (8 * n) a) (first_octets (octets_needed (length d)) d)
    ((8 * octets_needed (length d) - length d) ∷ [])

-- the end writes the cells begun, packed
pub packed_of-begun : (c : List Level) → packed_of c ≡ whole_octets c ++ packed_of (begun_cells c)
packed_of-begun c =
    let b = begun-of c in
    let n = length c / word_len in
    let a = take (word_len * n) c in
    let d = begun_cells c in
    ap packed_of b.is ∙ packed_of-append n a d b.lines
    ∙ ap (λ u. u ++ packed_of d) (sym (ap whole_octets b.is ∙ whole_octets-append n a d b.lines b.few))
