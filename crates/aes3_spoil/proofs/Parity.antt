-- What is told of a block that stands closed, where the last cell of one of its subframes and all behind have the other
-- level.
use Rattle.std.proofs.Common.{◌≡◌, ℕ, zero, suc, ◌+◌, ◌-◌, ◌*◌, ◌<◌, ◌≤◌, List, [], ◌∷◌, ◌++◌, Bool, true, false, not}
use Rattle.std.proofs.Common.{Some, refl, length, map, take, drop, ap, ap₂, ◌∙◌, sym, subst, arith}
use Rattle.std.proofs.Common.{append_assoc, append-nil}
use Rattle.std.proofs.lemmas.Grind.{flat_map-append}
use Rattle.std.proofs.lemmas.List.{length-map, take-map}
use Rattle.aes3_level.specs.declared.level.Level.{Level}
use Rattle.aes3_level.specs.declared.level.Level.TheVariants.{Low, High}
use Rattle.aes3_level.specs.Cells.{line, other, after}
use Rattle.aes3_level.proofs.Runs.{length-line, line-append, total-append}
use Rattle.aes3_slot.specs.declared.mark.Mark.{Mark}
use Rattle.aes3_slot.specs.Slots.{bit_runs, bits_runs, mark_runs, runs_of, slot_runs, slots_len, with_parity}
use Rattle.aes3_slot.specs.Slots.{payload_len}
use Rattle.aes3_slot.specs.Rules.{at, Each28}
use Rattle.aes3_slot.specs.Fronts.{with_some_parity}
use Rattle.aes3_slot.proofs.Parity.{length-some, odd_ones-some}
use Rattle.aes3_slot.proofs.Subframes.{length-subframe, length-with_parity, odd_ones-with_parity, total-bits}
use Rattle.aes3_slot.proofs.Subframes.{total-mark}
use Rattle.aes3_frame.specs.Blocks.{mark_at, block_len, block_subframes}
use Rattle.aes3_frame.proofs.BlockLemmas.{block_subframes_384}
use Rattle.aes3_frame.proofs.CellLaws.{block_len_24576, each28}
use Rattle.aes3_frame.proofs.Each.{each-payload}
use Rattle.aes3_frame.proofs.GatheredWords.{line-other}
use Rattle.aes3_frame.proofs.Runs.{Each27}
use Rattle.aes3_lock.specs.declared.report.Report.TheVariants.{Marked}
use Rattle.aes3_lock.specs.Outcomes.{marked, wrong_parities}
use Rattle.aes3_lock.specs.Reports.{outcome_at}
use Rattle.aes3_lock.specs.Standing.{IsClosed, StandsClosed, SubframesStand}
use Rattle.aes3_lock.proofs.BlockPayloads.{right-with_parity}
use Rattle.aes3_lock.proofs.Distances.{other-same}
use Rattle.aes3_lock.proofs.Ends.{outcome_at-some}
use Rattle.aes3_lock.proofs.StandingBlocks.{block-stands, standing-begins, standing-marked}
use Rattle.aes3_spoil.specs.declared.errors.Errors.{Errors}
use Rattle.aes3_spoil.specs.declared.kinds.ErrorKind.TheVariants.{Inverted}
use Rattle.aes3_spoil.specs.ReportLaws.{IsTheReport}
use Rattle.aes3_spoil.specs.SpoilLaws.{IsOne}
use Rattle.aes3_spoil.specs.Spoiled.{spoiled}
use Rattle.aes3_spoil.specs.Subframes.{parity_cell}
use Rattle.aes3_spoil.proofs.Damaged.{inverted-one}
use Rattle.aes3_spoil.proofs.Refuting.{only-report}

-- cells of which cell k and all behind have the other level
abbrev pub turned_from : ℕ → List Level → List Level
turned_from k c = take k c ++ map other (drop k c)

pub length-turned : (k : ℕ) (c : List Level) → length (turned_from k c) ≡ length c
length-turned zero c = length-map c other
length-turned (suc k) [] = refl
length-turned (suc k) (x ∷ c) = ap suc (length-turned k c)

pub drop-turned : (q k : ℕ) (c : List Level) → q ≤ k → drop q (turned_from k c) ≡ turned_from (k - q) (drop q c)
drop-turned zero k c l = let e : k ≡ k - 0 = omega arith in ap (λ n. turned_from n c) e
drop-turned (suc q) zero c l = absurd (omega arith)
drop-turned (suc q) (suc k) [] l = turned-none (suc k - suc q)
  where
    turned-none : (n : ℕ) → [] ≡ turned_from n []
    turned-none zero = refl
    turned-none (suc n) = refl
drop-turned (suc q) (suc k) (x ∷ c) l =
    let e : k - q ≡ suc k - suc q = omega arith in
    drop-turned q k c (omega arith) ∙ ap (λ n. turned_from n (drop q c)) e

pub take-turned : (n k : ℕ) (c : List Level) → take n (turned_from k c) ≡ turned_from k (take n c)
take-turned n zero c = take-map other n c
take-turned zero (suc k) c = refl
take-turned (suc n) (suc k) [] = refl
take-turned (suc n) (suc k) (x ∷ c) = ap (λ d. x ∷ d) (take-turned n k c)

pub at-other : (c : List Level) (y : ℕ) → y < length c → at (map other c) y ≡ other (at c y)
at-other [] y l = absurd (omega arith)
at-other (x ∷ c) zero l = refl
at-other (x ∷ c) (suc y) l = at-other c y (omega arith)

pub at-turned : (k : ℕ) (c : List Level) (y : ℕ) → k ≤ y → y < length c → at (turned_from k c) y ≡ other (at c y)
at-turned zero c y l o = at-other c y o
at-turned (suc k) [] y l o = absurd (omega arith)
at-turned (suc k) (x ∷ c) zero l o = absurd (omega arith)
at-turned (suc k) (x ∷ c) (suc y) l o = at-turned k c y (omega arith) (omega arith)

turned-append : (a b : List Level) (n k : ℕ) → length a ≡ n → turned_from (n + k) (a ++ b) ≡ a ++ turned_from k b
turned-append [] b n k e = let z : n + k ≡ k = omega (arith, e) in ap (λ i. turned_from i b) z
turned-append (x ∷ a) b zero k e = absurd (omega arith)
turned-append (x ∷ a) b (suc n) k e =
    let z : suc n + k ≡ suc (n + k) = omega arith in
    ap (λ i. turned_from i (x ∷ (a ++ b))) z ∙ ap (λ d. x ∷ d) (turned-append a b n k (omega (arith, e)))

-- a bit of which the second cell and all behind have the other level is the other bit
bit-turned : (u : Level) (y : Bool) (rest : List ℕ)
    → turned_from 1 (line u (bit_runs y ++ rest)) ≡ line u (bit_runs (not y) ++ rest)
bit-turned Low false rest = ap (λ c. High ∷ Low ∷ c) (line-other High rest)
bit-turned High false rest = ap (λ c. Low ∷ High ∷ c) (line-other Low rest)
bit-turned Low true rest = ap (λ c. High ∷ High ∷ c) (line-other Low rest)
bit-turned High true rest = ap (λ c. Low ∷ Low ∷ c) (line-other High rest)

-- the bits of the subframes of a block, of which subframe n has a wrong parity bit
abbrev pub wrong_in : ℕ → List (List Bool) → List (List Bool)
wrong_in n [] = []
wrong_in zero (p ∷ b) = with_some_parity false p ∷ map with_parity b
wrong_in (suc n) (p ∷ b) = with_parity p ∷ wrong_in n b

length-wrong : (n : ℕ) (b : List (List Bool)) → length (wrong_in n b) ≡ length b
length-wrong n [] = refl
length-wrong zero (p ∷ b) = ap suc (length-map b with_parity)
length-wrong (suc n) (p ∷ b) = ap suc (length-wrong n b)

each-wrong : (n : ℕ) (b : List (List Bool)) → Each27 b → Each28 (wrong_in n b)
unfolding slots_len
each-wrong n [] h = tt
each-wrong zero (p ∷ b) h = (length-some false p h.0, each28 b h.1)
each-wrong (suc n) (p ∷ b) h = (length-with_parity p h.0, each-wrong n b h.1)

one-wrong : (n : ℕ) (b : List (List Bool)) → n < length b → wrong_parities (wrong_in n b) ≡ 1
one-wrong n [] l = absurd (omega arith)
one-wrong zero (p ∷ b) l =
    let o = odd_ones-some false p in
    rw o (ap suc (right-with_parity b))
one-wrong (suc n) (p ∷ b) l =
    let o = odd_ones-with_parity p in
    let r = one-wrong n b (omega arith) in
    rw o r

-- the cells of these subframes
last-turned : (marks : ℕ → Mark) (s : Level) (p : List Bool) (y : Bool) (rest : List ℕ) → length p ≡ payload_len
    → turned_from 63 (line s (slot_runs (marks 0) (p ++ y ∷ []) ++ rest))
    ≡ line s (slot_runs (marks 0) (p ++ not y ∷ []) ++ rest)
unfolding payload_len
last-turned marks s p y rest h =
    ap (turned_from 63) (split y) ∙ turned-append (line s front) (line u (bit_runs y ++ rest)) 62 1 long
    ∙ ap (λ c. line s front ++ c) (bit-turned u y rest) ∙ sym (split (not y))
  where
    front : List ℕ
    front = mark_runs (marks 0) ++ bits_runs p

    u : Level
    u = after s (mark_runs (marks 0) ++ bits_runs p)

    joined : (z : Bool) → slot_runs (marks 0) (p ++ z ∷ []) ++ rest
        ≡ (mark_runs (marks 0) ++ bits_runs p) ++ (bit_runs z ++ rest)
    joined z =
        ap (λ r. (mark_runs (marks 0) ++ r) ++ rest) (flat_map-append bit_runs p (z ∷ []))
        ∙ ap (λ r. (mark_runs (marks 0) ++ (bits_runs p ++ r)) ++ rest) (append-nil (bit_runs z))
        ∙ ap (λ r. r ++ rest) (sym (append_assoc (mark_runs (marks 0)) (bits_runs p) (bit_runs z)))
        ∙ append_assoc (mark_runs (marks 0) ++ bits_runs p) (bit_runs z) rest

    split : (z : Bool) → line s (slot_runs (marks 0) (p ++ z ∷ []) ++ rest)
        ≡ line s (mark_runs (marks 0) ++ bits_runs p)
        ++ line (after s (mark_runs (marks 0) ++ bits_runs p)) (bit_runs z ++ rest)
    split z = ap (line s) (joined z) ∙ line-append s (mark_runs (marks 0) ++ bits_runs p) (bit_runs z ++ rest)

    long : length (line s (mark_runs (marks 0) ++ bits_runs p)) ≡ 62
    long =
        let a = length-line s (mark_runs (marks 0) ++ bits_runs p) in
        let b = total-append (mark_runs (marks 0)) (bits_runs p) in
        let m = total-mark (marks 0) in
        let n = total-bits p in
        omega (arith, a, b, m, n, h)

wrong-line : (marks : ℕ → Mark) (s : Level) (n : ℕ) (b : List (List Bool)) → Each27 b → n < length b
    → turned_from (64 * n + 63) (line s (runs_of marks (map with_parity b))) ≡ line s (runs_of marks (wrong_in n b))
wrong-line marks s n [] h l = absurd (omega arith)
wrong-line marks s zero (p ∷ b) h l =
    last-turned marks s p _ (runs_of (λ j. marks (suc j)) (map with_parity b)) h.0
wrong-line marks s (suc n) (p ∷ b) h l =
    let first = slot_runs (marks 0) (with_parity p) in
    let u = after s first in
    let rest = runs_of (λ j. marks (suc j)) (map with_parity b) in
    let z : 64 * suc n + 63 ≡ 64 + (64 * n + 63) = omega arith in
    ap₂ turned_from z (line-append s first rest)
    ∙ turned-append (line s first) (line u rest) 64 (64 * n + 63) (length-subframe s (marks 0) p h.0)
    ∙ ap (λ c. line s first ++ c) (wrong-line (λ j. marks (suc j)) u n b h.1 (omega arith))
    ∙ sym (line-append s first (runs_of (λ j. marks (suc j)) (wrong_in n b)))

-- block b stands closed after level s at the start of d
module _ (b : List (List Bool)) (s : Level) (d : List Level) (h : StandsClosed b s d) (n : ℕ) (inside : n < block_subframes)
  where
    wrong-stands : SubframesStand (wrong_in n b) s (turned_from (64 * n + 63) d)
    wrong-stands =
        let each = each-payload b h.block.payloads in
        let count = h.block.count in
        let old = block-stands b s d h in
        record {
          count = length-wrong n b ∙ count;
          each = each-wrong n b each;
          cells = take-turned block_len (64 * n + 63) d ∙ ap (turned_from (64 * n + 63)) old.cells
              ∙ wrong-line mark_at s n b each (omega (arith, count, inside));
        }

    wrong-closed : IsClosed (turned_from (64 * n + 63) d)
    wrong-closed =
        let m = block_len_24576 in
        let o = block_subframes_384 in
        let i = inside in
        let l = length-turned (64 * n + 63) d in
        record {
          turns = λ more e.
              h.closed.turns (omega (arith, more, l))
              (other-same (at d block_len) (at d (block_len - 1))
              (sym (at-turned (64 * n + 63) d block_len (omega (arith, m, o, i)) (omega (arith, more, l))) ∙ e
              ∙ at-turned (64 * n + 63) d (block_len - 1) (omega (arith, m, o, i)) (omega (arith, more, l, m))));
        }

    pub wrong-outcome : outcome_at (turned_from (64 * n + 63) d) ≡ Some (marked s 1)
    wrong-outcome =
        let count = h.block.count in
        let i = inside in
        let w : wrong_parities (wrong_in n b) ≡ 1 = one-wrong n b (omega (arith, count, i)) in
        outcome_at-some (turned_from (64 * n + 63) d)
        (standing-begins (wrong_in n b) s (turned_from (64 * n + 63) d) wrong-stands)
        ∙ ap Some (standing-marked (wrong_in n b) s (turned_from (64 * n + 63) d) wrong-stands wrong-closed
        (omega (arith, w)) ∙ ap (marked s) w)

pub parity-told : (errors : Errors) (q n : ℕ) (c : List Level) (b : List (List Bool)) (s : Level)
    → IsOne errors Inverted (parity_cell (q + 64 * n))
    → StandsClosed b s (drop q c) → n < block_subframes
    → IsTheReport (spoiled errors c) q (Marked q s 1)
parity-told errors q n c b s one stands inside =
    let z : parity_cell (q + 64 * n) - q ≡ 64 * n + 63 = omega arith in
    let e : drop q (turned_from (parity_cell (q + 64 * n)) c) ≡ turned_from (64 * n + 63) (drop q c) =
    drop-turned q (parity_cell (q + 64 * n)) c (omega arith) ∙ ap (λ x. turned_from x (drop q c)) z in
    subst (λ (d : List Level). IsTheReport d q (Marked q s 1))
    (sym (inverted-one errors (parity_cell (q + 64 * n)) c one))
    (only-report (turned_from (parity_cell (q + 64 * n)) c) q (marked s 1)
    (ap outcome_at e ∙ wrong-outcome b s (drop q c) stands n inside))
