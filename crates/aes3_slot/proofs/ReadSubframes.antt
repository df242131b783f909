-- What is taken from 64 cells, or where they fail.
use Rattle.std.proofs.Common.{◌≡◌, ℕ, ◌<◌, ◌^◌, List, ◌++◌, Bool, true, false, length, take, drop, length-append}
use Rattle.std.proofs.Common.{append-nil, ap, ◌∙◌, sym, arith}
use Rattle.std.proofs.lemmas.Bool.{true≢false}
use Rattle.std.proofs.lemmas.List.{nil_from_length, take_all}
use Rattle.aes3_level.specs.declared.level.Level.{Level}
use Rattle.aes3_level.specs.Cells.{line}
use Rattle.aes3_level.specs.Words.{word_cells, word_len}
use Rattle.aes3_level.proofs.WordCells.{length-word_cells}
use Rattle.aes3_slot.specs.declared.mark.Mark.{Mark}
use Rattle.aes3_bits.specs.Bits.{number}
use Rattle.aes3_slot.specs.Slots.{payload_bits, payload_len, slot_runs, subframe_runs}
use Rattle.aes3_slot.specs.Reading.{read_bits}
use Rattle.aes3_slot.specs.Fronts.{IsLawfulFrontOf, stands, with_some_parity}
use Rattle.aes3_bits.proofs.Bits.{length-low_bits, number-low_bits}
use Rattle.aes3_slot.proofs.Subframes.{length-subframe}
use Rattle.aes3_slot.proofs.Parity.{some-unique, length-some}
use Rattle.aes3_slot.proofs.Unique.{subframe-unique}
use Rattle.aes3_slot.proofs.RuleTests.{kept-from-stands, stands-from-kept}
use Rattle.aes3_slot.proofs.Fronts.{kept-slots, whole-read, front-before, lawful-from-front}

pub length-word : (w : ℕ) → length (word_cells w) ≡ 64
unfolding word_len
length-word w = length-word_cells w

pub payload_bits-unique : (p q : ℕ) → p < 2 ^ 27 → q < 2 ^ 27 → payload_bits p ≡ payload_bits q → p ≡ q
unfolding payload_len
payload_bits-unique p q h g e = sym (number-low_bits 27 p h) ∙ ap number e ∙ number-low_bits 27 q g

-- where each cell stands as it may, the word carries its bits
pub word-read : (s : Level) (m : Mark) (w : ℕ) → ((i : ℕ) → i < 64 → stands s m (word_cells w) i ≡ true)
    → word_cells w ≡ line s (slot_runs m (read_bits (drop 8 (word_cells w))))
word-read s m w h =
    let l = length-word w in
    whole-read s m (word_cells w) l
    (λ i g. kept-from-stands s m (word_cells w) i (omega (arith, l, g)) (h i (omega (arith, l, g))))

-- where a subframe stands, each cell does
pub some-stands : (s : Level) (m : Mark) (w p : ℕ) (right : Bool)
    → word_cells w ≡ line s (slot_runs m (with_some_parity right (payload_bits p)))
    → (i : ℕ) → i < 64 → stands s m (word_cells w) i ≡ true
some-stands s m w p right e i h =
    let l = length-word w in
    let k = kept-slots s m (with_some_parity right (payload_bits p))
    (length-some right (payload_bits p) (length-low_bits payload_len p)) in
    let n = ap length (sym e) ∙ l in
    ap (λ c. stands s m c i) e
    ∙ stands-from-kept s m (line s (slot_runs m (with_some_parity right (payload_bits p)))) i h
    (k i (omega (arith, n, h)))

-- its payload and whether its parity bit is right are determined
pub some-owed : (s : Level) (m : Mark) (c : List Level) (p q : ℕ) (x y : Bool) → p < 2 ^ 27 → q < 2 ^ 27
    → c ≡ line s (slot_runs m (with_some_parity x (payload_bits p)))
    → c ≡ line s (slot_runs m (with_some_parity y (payload_bits q)))
    → (p ≡ q) × (x ≡ y)
some-owed s m c p q x y h g a b =
    let u = subframe-unique s s m m (with_some_parity x (payload_bits p)) (with_some_parity y (payload_bits q))
    (sym a ∙ b) in
    let v = some-unique x y (payload_bits p) (payload_bits q) u.2 in
    (payload_bits-unique p q h g v.1, v.0)

-- a wrong parity bit shows at the last cell
pub wrong-parity-front : (s : Level) (m : Mark) (w p : ℕ)
    → word_cells w ≡ line s (slot_runs m (with_some_parity false (payload_bits p)))
    → IsLawfulFrontOf s m (take 63 (word_cells w))
wrong-parity-front s m w p e =
    lawful-from-front s m (word_cells w) 63 (omega arith)
    (front-before s m (word_cells w) 63 (length-word w) (omega arith)
    (λ i h. some-stands s m w p false e i (omega arith)))

-- 64 cells that begin a subframe are that subframe
pub whole-front : (s : Level) (m : Mark) (c : List Level) (f : IsLawfulFrontOf s m c) → length c ≡ 64
    → c ≡ line s (subframe_runs m f.payload)
whole-front s m c f l =
    let e = ap length f.is in
    let n = length-append c f.rest in
    let k = length-subframe s m f.payload f.count in
    let z = nil_from_length f.rest (omega (arith, e, n, k, l)) in
    sym (f.is ∙ ap (λ x. c ++ x) z ∙ append-nil c)

pub wrong-parity-ends : (s : Level) (m : Mark) (w p : ℕ)
    → word_cells w ≡ line s (slot_runs m (with_some_parity false (payload_bits p)))
    → IsLawfulFrontOf s m (take 64 (word_cells w)) → ⊥
wrong-parity-ends s m w p e f =
    let l = length-word w in
    let whole : take 64 (word_cells w) ≡ word_cells w = take_all 64 (word_cells w) (omega (arith, l)) in
    let same = whole-front s m (take 64 (word_cells w)) f (ap length whole ∙ l) in
    let u = subframe-unique s s m m (with_some_parity true f.payload) (with_some_parity false (payload_bits p))
    (sym same ∙ whole ∙ e) in
    true≢false (some-unique true false f.payload (payload_bits p) u.2).0
