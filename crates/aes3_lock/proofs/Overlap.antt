-- Where Z stands, and blocks that stand closed.
use Rattle.std.proofs.Common.{◌≡◌, ℕ, zero, suc, ◌+◌, ◌-◌, ◌/◌, ◌%◌, ◌<◌, ◌≤◌, ◌⊎◌, inl, inr, List, Bool, length, take}
use Rattle.std.proofs.Common.{drop, map, ap, ◌∙◌, sym, subst, arith, length-take-le, get_or-take, lit<}
use Rattle.std.proofs.lemmas.Bool.{cases_lt, cases_eq}
use Rattle.aes3_level.specs.declared.level.Level.{Level}
use Rattle.aes3_level.specs.declared.level.Level.TheVariants.{Low}
use Rattle.aes3_slot.specs.declared.mark.Mark.TheVariants.{Z}
use Rattle.aes3_slot.specs.Slots.{with_parity}
use Rattle.aes3_slot.specs.Rules.{at, AllKept, StandsMark}
use Rattle.aes3_slot.proofs.OwnPreambles.{only-Z, three, stands-at, stands-room}
use Rattle.aes3_slot.proofs.Distance.{stands-from}
use Rattle.aes3_frame.specs.Blocks.{mark_at, block_len}
use Rattle.aes3_lock.specs.Standing.{IsClosed, IsViable, StandsClosed, SubframesStand}
use Rattle.aes3_lock.proofs.Deciding.{later-marks}
use Rattle.aes3_lock.proofs.Viability.{viable-kept}
use Rattle.aes3_lock.proofs.StandingBlocks.{block-stands, standing-kept, standing-mark, standing-room}
use Rattle.aes3_slot.proofs.Beginnings.{stands-drop, drop-stands, stands-entry}
use Rattle.aes3_frame.proofs.CellLaws.{block_len_24576}

-- in a viable list Z stands at the start alone
pub viable-once : (s : Level) (c : List Level) → IsViable s c → (p : ℕ) (t : Level) → StandsMark Z t c p → p ≡ 0
viable-once s c v p t z = only-Z mark_at s c later-marks (viable-kept s c v) p t z

pub viable-begins : (s : Level) (c : List Level) → IsViable s c → 8 ≤ length c → StandsMark Z s c 0
unfolding mark_at
viable-begins s c v h =
    stands-from Z s c 0 (omega arith) (λ k g.
    let q : k / 64 ≡ 0 = omega arith in
    let r : k % 64 ≡ k = omega arith in
    let m : 0 + k ≡ k = omega arith in
    rw m (rw (q, r) at ((viable-kept s c v k (omega arith)).preamble (omega arith))))

pub viable-level : (s : Level) (c : List Level) → IsViable s c → 8 ≤ length c → (p : ℕ) (t : Level)
    → StandsMark Z t c p → t ≡ s
viable-level s c v h p t z =
    let w : StandsMark Z t c 0 = subst (StandsMark Z t c) (viable-once s c v p t z) z in
    sym (stands-entry Z t c w) ∙ stands-entry Z s c (viable-begins s c v h)

pub viable-stands : (s : Level) (c : List Level) → IsViable s c → 8 ≤ length c → (p : ℕ) (t : Level) → p ≡ 0 → t ≡ s
    → StandsMark Z t c p
viable-stands s c v h p t e f =
    subst (StandsMark Z t c) (sym e) (subst (λ u. StandsMark Z u c 0) (sym f) (viable-begins s c v h))

-- no Z begins within subframes of a block that stand closed
module _ (slots : List (List Bool)) (s : Level) (c : List Level) (h : SubframesStand slots s c) (closed : IsClosed c)
    (r : ℕ) (t : Level) (z : StandsMark Z t c r) where
  room : r + 8 ≤ length c
  room = stands-room Z t c r z

  own : length (take block_len c) ≡ block_len
  own = length-take-le block_len c (standing-room slots s c h)

  k : AllKept mark_at s (take block_len c)
  k = standing-kept slots s c h

  cell : (i : ℕ) → i < block_len → at (take block_len c) i ≡ at c i
  cell i l = get_or-take block_len c i Low l

  -- all of it
  inside : 0 < r → r + 8 ≤ block_len → ⊥
  inside p l =
      let n = own in
      let w = stands-from Z t (take block_len c) r (omega arith)
      (λ i g. cell (r + i) (omega arith) ∙ stands-at Z t c r i g z) in
      let e = only-Z mark_at s (take block_len c) later-marks k r t w in
      omega arith

  -- its first three cells
  first-three : r + 3 ≤ block_len → block_len < r + 8 → ⊥
  first-three l g =
      let n = own in
      let a = stands-at Z t c r 0 (lit< tt) z in
      let b = stands-at Z t c r 1 (lit< tt) z in
      let d = stands-at Z t c r 2 (lit< tt) z in
      let e0 : r + 0 ≡ r = omega arith in
      let e1 : r + 1 ≡ suc r = omega arith in
      let e2 : r + 2 ≡ suc (suc r) = omega arith in
      let m = block_len_24576 in
      let c0 = cell r (omega arith) in
      let c1 = cell (suc r) (omega arith) in
      let c2 = cell (suc (suc r)) (omega arith) in
      three mark_at s (take block_len c) k r (omega arith) (omega (arith, m)) (omega (arith, m))
      (c1 ∙ ap (at c) (sym e1) ∙ b ∙ sym a ∙ ap (at c) e0 ∙ sym c0)
      (c2 ∙ ap (at c) (sym e2) ∙ d ∙ sym b ∙ ap (at c) e1 ∙ sym c1)

  -- its second or third cell closes the block
  closing : (j : ℕ) → j < 2 → r + j + 1 ≡ block_len → ⊥
  closing zero g e =
      let a = stands-at Z t c r 0 (lit< tt) z in
      let b = stands-at Z t c r 1 (lit< tt) z in
      let e0 : r + 0 ≡ block_len - 1 = omega arith in
      let e1 : r + 1 ≡ block_len = omega arith in
      let o = room in
      closed.turns (omega arith) (ap (at c) (sym e1) ∙ b ∙ sym a ∙ ap (at c) e0)
  closing (suc zero) g e =
      let a = stands-at Z t c r 1 (lit< tt) z in
      let b = stands-at Z t c r 2 (lit< tt) z in
      let e0 : r + 1 ≡ block_len - 1 = omega arith in
      let e1 : r + 2 ≡ block_len = omega arith in
      let o = room in
      closed.turns (omega arith) (ap (at c) (sym e1) ∙ b ∙ sym a ∙ ap (at c) e0)
  closing (suc (suc j)) g e = absurd (omega arith)

  pub no-Z-within : 0 < r → block_len ≤ r
  no-Z-within p = go (cases_lt r block_len) (cases_lt block_len (r + 8)) (cases_lt block_len (r + 3))
      (cases_eq (r + 1) block_len)
    where
      go : (r < block_len) ⊎ (block_len ≤ r) → (block_len < r + 8) ⊎ (r + 8 ≤ block_len) → (block_len < r + 3)
          ⊎ (r + 3 ≤ block_len)
          → (r + 1 ≡ block_len) ⊎ (r + 1 ≡ block_len → ⊥) → block_len ≤ r
      go (inr l) x y w = l
      go (inl l) (inr x) y w = absurd (inside p x)
      go (inl l) (inl x) (inr y) w = absurd (first-three y x)
      go (inl l) (inl x) (inl y) (inl w) = absurd (closing 0 (lit< tt) (omega arith))
      go (inl l) (inl x) (inl y) (inr w) = absurd (closing 1 (lit< tt) (omega arith))

pub no-overlap : (b d : List (List Bool)) (s t : Level) (c : List Level) (p q : ℕ) → p < q → StandsClosed b s (drop p c)
    → StandsClosed d t (drop q c)
    → p + block_len ≤ q
no-overlap b d s t c p q l x y =
    let e : q ≡ p + (q - p) = omega arith in
    let z : StandsMark Z t (drop q c) 0 =
    standing-mark (map with_parity d) t (drop q c) (block-stands d t (drop q c) y) in
    let f : q + 0 ≡ p + (q - p) = omega arith in
    let w : StandsMark Z t (drop p c) (q - p) =
    drop-stands Z t c p (q - p) (subst (StandsMark Z t c) f (stands-drop Z t c q 0 z)) in
    let g = no-Z-within (map with_parity b) s (drop p c) (block-stands b s (drop p c) x) x.closed (q - p) t w
    (omega arith) in
    omega arith
