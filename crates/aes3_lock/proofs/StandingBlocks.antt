-- A candidate is whole or marked exactly where subframes of a block stand closed.
use Rattle.std.proofs.Common.{◌≡◌, ℕ, suc, ◌<◌, ◌≤◌, ◌⊎◌, inl, inr, List, [], ◌∷◌, ◌++◌, Bool, true, refl, length, take}
use Rattle.std.proofs.Common.{drop, map, ap, ap₂, ◌∙◌, sym, subst, arith, append_assoc, take-append-drop, length-take}
use Rattle.std.proofs.Common.{take-take, take_at, eq-eqb, ne_eqb}
use Rattle.std.proofs.lemmas.List.{length-map}
use Rattle.std.proofs.lemmas.Bool.{cases_eq}
use Rattle.aes3_level.specs.declared.level.Level.{Level}
use Rattle.aes3_level.specs.Cells.{line, after}
use Rattle.aes3_level.proofs.Runs.{line-append}
use Rattle.aes3_slot.specs.declared.mark.Mark.{Mark}
use Rattle.aes3_slot.specs.declared.mark.Mark.TheVariants.{Z}
use Rattle.aes3_slot.specs.Slots.{mark_runs, slot_runs, bits_runs, runs_of, with_parity}
use Rattle.aes3_slot.specs.Rules.{AllKept, StandsMark}
use Rattle.aes3_slot.specs.Reading.{read_slots}
use Rattle.aes3_slot.proofs.Index.{length-mark}
use Rattle.aes3_slot.proofs.Subframes.{line-slots}
use Rattle.aes3_slot.proofs.Bridge.{kept-runs}
use Rattle.aes3_slot.proofs.Unique.{read_slots-line}
use Rattle.aes3_frame.specs.Blocks.{mark_at, block_subframes, block_len, block_cells}
use Rattle.aes3_slot.specs.Preambles.{entry}
use Rattle.aes3_lock.specs.Candidates.{begins_block, front}
use Rattle.aes3_lock.specs.Outcomes.{whole, marked, fault, unfinished, outcome, block_outcome, wrong_parities}
use Rattle.aes3_lock.specs.Outcomes.{payloads_of}
use Rattle.aes3_lock.specs.Standing.{IsClosed, StandsClosed, SubframesStand}
use Rattle.aes3_lock.proofs.Fronts.{keeps-from-kept}
use Rattle.aes3_lock.proofs.Deciding.{block_len_64}
use Rattle.aes3_lock.proofs.Viability.{length-runs_of, front-from, keeps-take}
use Rattle.aes3_lock.proofs.Endings.{Ending, refuted, ended, unclosed, closed, ending, read-stands}
use Rattle.aes3_slot.proofs.Beginnings.{stands-begins, stands-entry}
use Rattle.aes3_lock.proofs.BlockPayloads.{payloads-with_parity, right-with_parity, slots-right, block-payloads}
use Rattle.aes3_frame.proofs.Each.{each-payload}
use Rattle.aes3_frame.proofs.CellLaws.{each28, block_len_24576}

pub first-mark : mark_at 0 ≡ Z
unfolding mark_at
first-mark = refl

-- subframes begin with a preamble
pub runs-stand : (marks : ℕ → Mark) (s : Level) (slots : List (List Bool)) → 0 < length slots
    → take 8 (line s (runs_of marks slots)) ≡ line s (mark_runs (marks 0))
runs-stand marks s [] h = absurd (omega arith)
runs-stand marks s (bits ∷ more) h =
    let u = after s (slot_runs (marks 0) bits) in
    let rest = line u (runs_of (λ j. marks (suc j)) more) in
    ap (take 8) (line-append s (slot_runs (marks 0) bits) (runs_of (λ j. marks (suc j)) more)
    ∙ ap (λ x. x ++ rest) (line-slots s (marks 0) bits)
    ∙ append_assoc (line s (mark_runs (marks 0))) (line s (bits_runs bits)) rest)
    ∙ take_at (line s (mark_runs (marks 0))) (line s (bits_runs bits) ++ rest) 8 (length-mark s (marks 0))

module _ (slots : List (List Bool)) (s : Level) (c : List Level) (h : SubframesStand slots s c) where
  taken : length (take block_len c) ≡ block_len
  taken =
      let a = ap length h.cells in
      let b = length-runs_of mark_at s slots h.each in
      let n = h.count in
      let k = block_len_64 in
      omega (arith, a, b, n, k)

  pub standing-room : block_len ≤ length c
  standing-room = let a = taken in let b = length-take block_len c in omega (arith, a, b)

  pub standing-kept : AllKept mark_at s (take block_len c)
  standing-kept = subst (AllKept mark_at s) (sym h.cells) (kept-runs mark_at s slots h.each)

  pub standing-mark : StandsMark Z s c 0
  standing-mark =
      let k = block_len_64 in
      let n = block_len_24576 in
      let m = h.count in
      record {
        is = sym (take-take 8 block_len c (omega (arith, n))) ∙ ap (take 8) h.cells
            ∙ runs-stand mark_at s slots (omega (arith, k, n, m))
            ∙ ap (λ m. line s (mark_runs m)) first-mark;
      }

  pub standing-entry : entry c ≡ s
  standing-entry = stands-entry Z s c standing-mark

  pub standing-begins : begins_block c ≡ true
  standing-begins = stands-begins Z s c standing-mark

  pub standing-front : front (entry c) c ≡ block_len
  standing-front =
      let r = standing-room in
      let t = taken in
      ap (λ u. front u c) standing-entry ∙ front-from s c block_len (record {
        within = omega arith;
        kept = λ i g.
            sym (keeps-take s c block_len i g (omega arith))
            ∙ keeps-from-kept s (take block_len c) i (standing-kept i (omega arith));
        stops = λ g. absurd (omega arith);
      })

  pub standing-read : read_slots block_subframes c ≡ slots
  standing-read =
      ap (read_slots block_subframes) (sym (take-append-drop block_len c) ∙ ap (λ x. x ++ drop block_len c) h.cells)
      ∙ ap (λ n. read_slots n (line s (runs_of mark_at slots) ++ drop block_len c)) (sym h.count)
      ∙ read_slots-line mark_at s slots (drop block_len c) h.each

  pub standing-outcome : IsClosed c → outcome c ≡ block_outcome s slots
  standing-outcome z = go (ending c)
    where
      f : front (entry c) c ≡ block_len
      f = standing-front

      r : block_len ≤ length c
      r = standing-room

      go : Ending c → outcome c ≡ block_outcome s slots
      go (refuted a b e) = absurd (omega (arith, f))
      go (ended a b e) = absurd (omega (arith, f, r))
      go (unclosed a b d e) = absurd (z.turns b d)
      go (closed a d e) = e ∙ ap₂ block_outcome standing-entry standing-read

  pub standing-unclosed : (IsClosed c → ⊥) → outcome c ≡ fault block_len
  standing-unclosed z = go (ending c)
    where
      f : front (entry c) c ≡ block_len
      f = standing-front

      r : block_len ≤ length c
      r = standing-room

      go : Ending c → outcome c ≡ fault block_len
      go (refuted a b e) = absurd (omega (arith, f))
      go (ended a b e) = absurd (omega (arith, f, r))
      go (unclosed a b d e) = e
      go (closed a d e) = absurd (z d)

-- what the bits of the subframes say
block_outcome-right : (s : Level) (slots : List (List Bool)) → wrong_parities slots ≡ 0
    → block_outcome s slots ≡ whole s (payloads_of slots)
block_outcome-right s slots e = let t = eq-eqb (wrong_parities slots) 0 e in rw t refl

block_outcome-wrong : (s : Level) (slots : List (List Bool)) → 0 < wrong_parities slots
    → block_outcome s slots ≡ marked s (wrong_parities slots)
block_outcome-wrong s slots h = let t = ne_eqb (wrong_parities slots) 0 (λ e. omega arith) in rw t refl

-- the cells of a block are those of its payloads with their parity bits
pub block-stands : (b : List (List Bool)) (s : Level) (c : List Level) → StandsClosed b s c
    → SubframesStand (map with_parity b) s c
unfolding block_cells
block-stands b s c h =
    record {
      count = length-map b with_parity ∙ h.block.count;
      each = each28 b (each-payload b h.block.payloads);
      cells = h.cells;
    }

pub stands-block : (slots : List (List Bool)) (s : Level) (c : List Level) → SubframesStand slots s c
    → wrong_parities slots ≡ 0 → IsClosed c
    → StandsClosed (payloads_of slots) s c
unfolding block_cells
stands-block slots s c h w z =
    record {
      block = block-payloads slots h.count h.each;
      cells = h.cells ∙ ap (λ x. line s (runs_of mark_at x)) (sym (slots-right slots h.each w));
      closed = z;
    }

-- whole
pub standing-whole : (b : List (List Bool)) (s : Level) (c : List Level) → StandsClosed b s c → outcome c ≡ whole s b
standing-whole b s c h =
    standing-outcome (map with_parity b) s c (block-stands b s c h) h.closed
    ∙ block_outcome-right s (map with_parity b) (right-with_parity b)
    ∙ ap (whole s) (payloads-with_parity b (each-payload b h.block.payloads))

pub whole-standing : (b : List (List Bool)) (s : Level) (c : List Level) → outcome c ≡ whole s b → StandsClosed b s c
whole-standing b s c w = go (ending c)
  where
    slots : List (List Bool)
    slots = read_slots block_subframes c

    at-entry : IsClosed c → SubframesStand slots (entry c) c → (wrong_parities slots ≡ 0)
        ⊎ (wrong_parities slots ≡ 0 → ⊥)
        → block_outcome (entry c) slots ≡ whole s b → StandsClosed b s c
    at-entry z h (inl o) e =
        let q : whole (entry c) (payloads_of slots) ≡ whole s b = sym (block_outcome-right (entry c) slots o) ∙ e in
        let x : entry c ≡ s = cc in
        let y : payloads_of slots ≡ b = cc in
        subst (λ d. StandsClosed d s c) y
        (subst (λ t. StandsClosed (payloads_of slots) t c) x (stands-block slots (entry c) c h o z))
    at-entry z h (inr o) e =
        let q : marked (entry c) (wrong_parities slots) ≡ whole s b =
        sym (block_outcome-wrong (entry c) slots (omega arith)) ∙ e in
        cc

    go : Ending c → StandsClosed b s c
    go (refuted x y e) = let q : fault (front (entry c) c) ≡ whole s b = sym e ∙ w in cc
    go (ended x y e) = let q : unfinished (length c) ≡ whole s b = sym e ∙ w in cc
    go (unclosed x y z e) = let q : fault block_len ≡ whole s b = sym e ∙ w in cc
    go (closed x z e) = at-entry z (read-stands (entry c) c x) (cases_eq (wrong_parities slots) 0) (sym e ∙ w)

-- marked
pub standing-marked : (slots : List (List Bool)) (s : Level) (c : List Level) → SubframesStand slots s c → IsClosed c
    → 0 < wrong_parities slots
    → outcome c ≡ marked s (wrong_parities slots)
standing-marked slots s c h z w = standing-outcome slots s c h z ∙ block_outcome-wrong s slots w

pub marked-standing : (s : Level) (n : ℕ) (c : List Level) → outcome c ≡ marked s n
    → IsClosed c × (0 < n) × ((slots : List (List Bool)) × SubframesStand slots s c × (wrong_parities slots ≡ n))
marked-standing s n c w = go (ending c)
  where
    slots : List (List Bool)
    slots = read_slots block_subframes c

    at-entry : IsClosed c → SubframesStand slots (entry c) c → (wrong_parities slots ≡ 0)
        ⊎ (wrong_parities slots ≡ 0 → ⊥)
        → block_outcome (entry c) slots ≡ marked s n
        → IsClosed c × (0 < n) × ((slots : List (List Bool)) × SubframesStand slots s c × (wrong_parities slots ≡ n))
    at-entry z h (inl o) e =
        let q : whole (entry c) (payloads_of slots) ≡ marked s n = sym (block_outcome-right (entry c) slots o) ∙ e in
        cc
    at-entry z h (inr o) e =
        let q : marked (entry c) (wrong_parities slots) ≡ marked s n =
        sym (block_outcome-wrong (entry c) slots (omega arith)) ∙ e in
        let x : entry c ≡ s = cc in
        let y : wrong_parities slots ≡ n = cc in
        (z, omega arith, (slots, subst (λ t. SubframesStand slots t c) x h, y))

    go : Ending c → IsClosed c × (0 < n)
        × ((slots : List (List Bool)) × SubframesStand slots s c × (wrong_parities slots ≡ n))
    go (refuted x y e) = let q : fault (front (entry c) c) ≡ marked s n = sym e ∙ w in cc
    go (ended x y e) = let q : unfinished (length c) ≡ marked s n = sym e ∙ w in cc
    go (unclosed x y z e) = let q : fault block_len ≡ marked s n = sym e ∙ w in cc
    go (closed x z e) = at-entry z (read-stands (entry c) c x) (cases_eq (wrong_parities slots) 0) (sym e ∙ w)
