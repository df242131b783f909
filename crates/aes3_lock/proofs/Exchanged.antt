-- The block whose cells are those of another but for the two between two slots.
use Rattle.std.proofs.Common.{◌≡◌, ℕ, zero, suc, ◌+◌, ◌-◌, ◌*◌, ◌/◌, ◌%◌, ◌<◌, ◌≤◌, ◌⊎◌, inl, inr, List, [], ◌∷◌, ◌++◌}
use Rattle.std.proofs.Common.{Bool, true, false, ◌&&◌, ◌==◌, leb, le-leb, eq-eqb, not, map, refl, length, ap, ap₂, ◌∙◌}
use Rattle.std.proofs.Common.{sym, arith, length-append}
use Rattle.std.proofs.lemmas.Bool.{cases_lt, and_parts, leb-true, eqb-true}
use Rattle.aes3_level.specs.declared.level.Level.{Level}
use Rattle.aes3_level.specs.declared.level.Level.TheVariants.{Low, High}
use Rattle.aes3_level.specs.Cells.{line, other}
use Rattle.aes3_level.proofs.Runs.{line-append}
use Rattle.aes3_slot.specs.declared.mark.Mark.{Mark}
use Rattle.aes3_bits.specs.Bits.{odd_ones}
use Rattle.aes3_slot.specs.Slots.{bits_runs, mark_runs, slot_runs, subframe_runs, runs_of, with_parity, payload_len}
use Rattle.aes3_slot.specs.Slots.{IsPayload}
use Rattle.aes3_slot.proofs.Index.{length-mark}
use Rattle.aes3_slot.proofs.Subframes.{not-not, line-slots, after-subframe, length-subframe}
use Rattle.aes3_frame.specs.Blocks.{mark_at, block_len, block_cells, IsBlock}
use Rattle.aes3_frame.proofs.Runs.{Each27}
use Rattle.aes3_frame.proofs.Each.{each-payload, all-payloads}
use Rattle.aes3_lock.specs.Damage.{changed, pair_inverted, inverted_in, between_slots, exchanged}
use Rattle.aes3_lock.proofs.Apart.{length-changed}

-- joined lists
changed-left : (k : ℕ) (a b : List Level) → k < length a → changed k (a ++ b) ≡ changed k a ++ b
changed-left k [] b h = absurd (omega arith)
changed-left zero (x ∷ a) b h = refl
changed-left (suc k) (x ∷ a) b h = ap (λ c. x ∷ c) (changed-left k a b (omega arith))

changed-right : (k : ℕ) (a b : List Level) → changed (length a + k) (a ++ b) ≡ a ++ changed k b
changed-right k [] b = let e : 0 + k ≡ k = omega arith in rw e refl
changed-right k (x ∷ a) b = let e : suc (length a) + k ≡ suc (length a + k) = omega arith in
    rw e (ap (λ c. x ∷ c) (changed-right k a b))

-- both cells
abbrev pub both : ℕ → List Level → List Level
both k c = changed (suc k) (changed k c)

both-left : (k : ℕ) (a b : List Level) → suc k < length a → both k (a ++ b) ≡ both k a ++ b
both-left k a b h =
    let l = length-changed k a in
    ap (changed (suc k)) (changed-left k a b (omega arith)) ∙ changed-left (suc k) (changed k a) b (omega arith)

both-right : (k : ℕ) (a b : List Level) → both (length a + k) (a ++ b) ≡ a ++ both k b
both-right k a b =
    let e : suc (length a + k) ≡ length a + suc k = omega arith in
    ap (changed (suc (length a + k))) (changed-right k a b) ∙ ap (λ n. changed n (a ++ changed k b)) e
    ∙ changed-right (suc k) a (changed k b)

-- the bits of two slots next to each other are inverted where the cells between them change
pub line-inverted : (n : ℕ) (t : Level) (bits : List Bool) → suc n < length bits
    → line t (bits_runs (pair_inverted n bits)) ≡ both (2 * n + 1) (line t (bits_runs bits))
line-inverted n t [] h = absurd (omega arith)
line-inverted zero t (x ∷ []) h = absurd (omega arith)
line-inverted zero Low (false ∷ false ∷ bits) h = refl
line-inverted zero Low (false ∷ true ∷ bits) h = refl
line-inverted zero Low (true ∷ false ∷ bits) h = refl
line-inverted zero Low (true ∷ true ∷ bits) h = refl
line-inverted zero High (false ∷ false ∷ bits) h = refl
line-inverted zero High (false ∷ true ∷ bits) h = refl
line-inverted zero High (true ∷ false ∷ bits) h = refl
line-inverted zero High (true ∷ true ∷ bits) h = refl
line-inverted (suc n) t (false ∷ bits) h =
    let e : 2 * suc n + 1 ≡ suc (suc (2 * n + 1)) = omega arith in
    rw e (ap (λ c. other t ∷ other t ∷ c) (line-inverted n (other t) bits (omega arith)))
line-inverted (suc n) t (true ∷ bits) h =
    let e : 2 * suc n + 1 ≡ suc (suc (2 * n + 1)) = omega arith in
    rw e (ap (λ c. other t ∷ other (other t) ∷ c) (line-inverted n (other (other t)) bits (omega arith)))

-- parity stays where both are of the payload, and turns where the second is the parity bit itself
odd-inner : (n : ℕ) (p : List Bool) → suc n < length p → odd_ones (pair_inverted n p) ≡ odd_ones p
odd-inner n [] h = absurd (omega arith)
odd-inner zero (x ∷ []) h = absurd (omega arith)
odd-inner zero (false ∷ false ∷ p) h = not-not (odd_ones p)
odd-inner zero (false ∷ true ∷ p) h = refl
odd-inner zero (true ∷ false ∷ p) h = refl
odd-inner zero (true ∷ true ∷ p) h = sym (not-not (odd_ones p))
odd-inner (suc n) (false ∷ p) h = odd-inner n p (omega arith)
odd-inner (suc n) (true ∷ p) h = ap not (odd-inner n p (omega arith))

odd-last : (n : ℕ) (p : List Bool) → suc n ≡ length p → odd_ones (pair_inverted n p) ≡ not (odd_ones p)
odd-last n [] h = absurd (omega arith)
odd-last zero (false ∷ []) h = refl
odd-last zero (true ∷ []) h = refl
odd-last zero (x ∷ y ∷ p) h = absurd (omega arith)
odd-last (suc n) (false ∷ p) h = odd-last n p (omega arith)
odd-last (suc n) (true ∷ p) h = ap not (odd-last n p (omega arith))

joined-inner : (n : ℕ) (p r : List Bool) → suc n < length p → pair_inverted n (p ++ r) ≡ pair_inverted n p ++ r
joined-inner n [] r h = absurd (omega arith)
joined-inner zero (x ∷ []) r h = absurd (omega arith)
joined-inner zero (x ∷ y ∷ p) r h = refl
joined-inner (suc n) (x ∷ p) r h = ap (λ c. x ∷ c) (joined-inner n p r (omega arith))

joined-last : (n : ℕ) (p : List Bool) (z : Bool) → suc n ≡ length p
    → pair_inverted n (p ++ z ∷ []) ≡ pair_inverted n p ++ not z ∷ []
joined-last n [] z h = absurd (omega arith)
joined-last zero (x ∷ []) z h = refl
joined-last zero (x ∷ y ∷ p) z h = absurd (omega arith)
joined-last (suc n) (x ∷ p) z h = ap (λ c. x ∷ c) (joined-last n p z (omega arith))

pub parity-inverted : (n : ℕ) (p : List Bool) → n < length p
    → with_parity (pair_inverted n p) ≡ pair_inverted n (with_parity p)
parity-inverted n p h = go (cases_lt (suc n) (length p))
  where
    go : (suc n < length p) ⊎ (length p ≤ suc n) → with_parity (pair_inverted n p) ≡ pair_inverted n (with_parity p)
    go (inl l) = ap (λ z. pair_inverted n p ++ z ∷ []) (odd-inner n p l) ∙ sym (joined-inner n p (odd_ones p ∷ []) l)
    go (inr l) = let e : suc n ≡ length p = omega arith in ap (λ z. pair_inverted n p ++ z ∷ []) (odd-last n p e)
        ∙ sym (joined-last n p (odd_ones p) e)

pub length-inverted : (n : ℕ) (p : List Bool) → length (pair_inverted n p) ≡ length p
length-inverted n [] = refl
length-inverted zero (x ∷ []) = refl
length-inverted zero (x ∷ y ∷ p) = refl
length-inverted (suc n) (x ∷ p) = ap suc (length-inverted n p)

-- one subframe
subframe-inverted : (n : ℕ) (s : Level) (m : Mark) (p : List Bool) → IsPayload p → n < length p
    → line s (subframe_runs m (pair_inverted n p)) ≡ both (2 * n + 9) (line s (subframe_runs m p))
subframe-inverted n s m p h l =
    let k : suc n < length (with_parity p) = (let a = length-parity p in omega arith) in
    let a = length-mark s m in
    let e : length (line s (mark_runs m)) + (2 * n + 1) ≡ 2 * n + 9 = omega arith in
    ap (λ bits. line s (slot_runs m bits)) (parity-inverted n p l)
    ∙ line-slots s m (pair_inverted n (with_parity p))
    ∙ ap (λ c. line s (mark_runs m) ++ c) (line-inverted n s (with_parity p) k)
    ∙ sym (both-right (2 * n + 1) (line s (mark_runs m)) (line s (bits_runs (with_parity p))))
    ∙ ap₂ both e (sym (line-slots s m (with_parity p)))
  where
    length-parity : (p : List Bool) → length (with_parity p) ≡ suc (length p)
    length-parity p = let a = length-append p (odd_ones p ∷ []) in omega arith

-- subframes one behind the other
pub runs-cons : (marks : ℕ → Mark) (s : Level) (p : List Bool) (ps : List (List Bool)) → IsPayload p
    → line s (runs_of marks (map with_parity (p ∷ ps))) ≡ line s (subframe_runs (marks 0) p) ++ line s
    (runs_of (λ j. marks (suc j)) (map with_parity ps))
runs-cons marks s p ps h =
    let runs = runs_of (λ j. marks (suc j)) (map with_parity ps) in
    line-append s (subframe_runs (marks 0) p) runs
    ∙ ap (λ t. line s (subframe_runs (marks 0) p) ++ line t runs) (after-subframe s (marks 0) p h)

payload-27 : (p : List Bool) → IsPayload p → length p ≡ 27
unfolding payload_len
payload-27 p h = h

inverted-payload : (n : ℕ) (p : List Bool) → IsPayload p → IsPayload (pair_inverted n p)
inverted-payload n p h = length-inverted n p ∙ h

runs-inverted : (marks : ℕ → Mark) (s : Level) (ps : List (List Bool)) (j n : ℕ) → Each27 ps → j < length ps → n < 27
    → line s (runs_of marks (map with_parity (inverted_in j n ps))) ≡ both (64 * j + (2 * n + 9))
    (line s (runs_of marks (map with_parity ps)))
runs-inverted marks s [] j n h l o = absurd (omega arith)
runs-inverted marks s (p ∷ ps) zero n h l o =
    let a = payload-27 p h.0 in
    let rest = line s (runs_of (λ j. marks (suc j)) (map with_parity ps)) in
    let b = length-subframe s (marks 0) p h.0 in
    let e : 2 * n + 9 ≡ 64 * 0 + (2 * n + 9) = omega arith in
    runs-cons marks s (pair_inverted n p) ps (inverted-payload n p h.0)
    ∙ ap (λ c. c ++ rest) (subframe-inverted n s (marks 0) p h.0 (omega arith))
    ∙ sym (both-left (2 * n + 9) (line s (subframe_runs (marks 0) p)) rest (omega arith))
    ∙ ap₂ both e (sym (runs-cons marks s p ps h.0))
runs-inverted marks s (p ∷ ps) (suc j) n h l o =
    let b = length-subframe s (marks 0) p h.0 in
    let rest = line s (runs_of (λ j. marks (suc j)) (map with_parity ps)) in
    let e : length (line s (subframe_runs (marks 0) p)) + (64 * j + (2 * n + 9)) ≡ 64 * suc j + (2 * n + 9) =
    omega arith in
    runs-cons marks s p (inverted_in j n ps) h.0
    ∙ ap (λ c. line s (subframe_runs (marks 0) p) ++ c)
    (runs-inverted (λ j. marks (suc j)) s ps j n h.1 (omega arith) o)
    ∙ sym (both-right (64 * j + (2 * n + 9)) (line s (subframe_runs (marks 0) p)) rest)
    ∙ ap₂ both e (sym (runs-cons marks s p ps h.0))

-- still payloads, as many
each-inverted : (j n : ℕ) (ps : List (List Bool)) → Each27 ps → Each27 (inverted_in j n ps)
each-inverted j n [] h = h
each-inverted zero n (p ∷ ps) h = (inverted-payload n p h.0, h.1)
each-inverted (suc j) n (p ∷ ps) h = (h.0, each-inverted j n ps h.1)

length-inverted_in : (j n : ℕ) (ps : List (List Bool)) → length (inverted_in j n ps) ≡ length ps
length-inverted_in j n [] = refl
length-inverted_in zero n (p ∷ ps) = refl
length-inverted_in (suc j) n (p ∷ ps) = ap suc (length-inverted_in j n ps)

pub exchanged-block : (x : ℕ) (b : List (List Bool)) → IsBlock b → IsBlock (exchanged x b)
exchanged-block x b h =
    record {
      count = length-inverted_in (x / 64) ((x % 64 - 9) / 2) b ∙ h.count;
      payloads = all-payloads (exchanged x b) (each-inverted (x / 64) ((x % 64 - 9) / 2) b (each-payload b h.payloads));
    }

-- what the test of a cell says
pub record Between (x : ℕ) : Type 0 where
  pub odd : x % 2 ≡ 1
  pub low : 9 ≤ x % 64
  pub high : x % 64 ≤ 61

-- the test of a cell between slots
pub between-true : (x : ℕ) → Between x → between_slots x ≡ true
between-true x b =
    let a = le-leb 9 (x % 64) b.low in
    let c = le-leb (x % 64) 61 b.high in
    let d = eq-eqb (x % 2) 1 b.odd in
    rw (a, c, d) refl

pub true-between : (x : ℕ) → between_slots x ≡ true → Between x
true-between x t =
    let a = and_parts (leb 9 (x % 64)) (leb (x % 64) 61 && (x % 2 == 1)) t in
    let b = and_parts (leb (x % 64) 61) (x % 2 == 1) a.1 in
    record { odd = eqb-true (x % 2) 1 b.1; low = leb-true 9 (x % 64) a.0; high = leb-true (x % 64) 61 b.0 }

pub exchanged-cells : (s : Level) (x : ℕ) (b : List (List Bool)) → IsBlock b → x < block_len → Between x
    → block_cells s (exchanged x b) ≡ changed (suc x) (changed x (block_cells s b))
unfolding block_cells block_len
exchanged-cells s x b h l w =
    let o = w.odd in
    let a = w.low in
    let c = w.high in
    let n = h.count in
    let e : 64 * (x / 64) + (2 * ((x % 64 - 9) / 2) + 9) ≡ x = omega arith in
    runs-inverted mark_at s b (x / 64) ((x % 64 - 9) / 2) (each-payload b h.payloads) (omega arith) (omega arith)
    ∙ ap (λ k. both k (line s (runs_of mark_at (map with_parity b)))) e
