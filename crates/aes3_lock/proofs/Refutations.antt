-- The cell that refutes a candidate is the first at which its cells begin no block.
use Rattle.std.proofs.Common.{◌≡◌, ℕ, ◌+◌, ◌<◌, ◌≤◌, ◌⊎◌, inl, inr, List, Bool, true, false, cond, eqb, length, take}
use Rattle.std.proofs.Common.{ap, ◌∙◌, sym, arith}
use Rattle.std.proofs.lemmas.Bool.{cases_lt}
use Rattle.aes3_level.specs.declared.level.Level.{Level}
use Rattle.aes3_slot.specs.Reading.{read_slots}
use Rattle.aes3_frame.specs.Blocks.{block_subframes, block_len}
use Rattle.aes3_slot.specs.Preambles.{entry}
use Rattle.aes3_lock.specs.Candidates.{front}
use Rattle.aes3_lock.specs.Outcomes.{whole, marked, fault, unfinished, outcome, block_outcome, wrong_parities}
use Rattle.aes3_lock.specs.Outcomes.{payloads_of}
use Rattle.aes3_lock.specs.Standing.{IsClosed, IsViable, SubframesStand}
use Rattle.aes3_lock.proofs.Fronts.{front-is}
use Rattle.aes3_lock.proofs.Viability.{take-viable, viable-take, viable-front, front-viable}
use Rattle.aes3_lock.proofs.Endings.{Ending, refuted, ended, unclosed, closed, ending, read-stands}
use Rattle.aes3_lock.proofs.StandingBlocks.{standing-unclosed}

-- a block's outcome is neither a fault nor unfinished
block-not-fault : (s : Level) (slots : List (List Bool)) (f : ℕ) → block_outcome s slots ≡ fault f → ⊥
block-not-fault s slots f e = go (eqb (wrong_parities slots) 0) e
  where
    go : (b : Bool) → cond b (whole s (payloads_of slots)) (marked s (wrong_parities slots)) ≡ fault f → ⊥
    go true e = cc
    go false e = cc

block-not-unfinished : (s : Level) (slots : List (List Bool)) (n : ℕ) → block_outcome s slots ≡ unfinished n → ⊥
block-not-unfinished s slots n e = go (eqb (wrong_parities slots) 0) e
  where
    go : (b : Bool) → cond b (whole s (payloads_of slots)) (marked s (wrong_parities slots)) ≡ unfinished n → ⊥
    go true e = cc
    go false e = cc

-- a fault
pub fault-front : (c : List Level) (f : ℕ) → outcome c ≡ fault f → (front (entry c) c ≡ f) × (f < length c)
fault-front c f o = go (ending c)
  where
    go : Ending c → (front (entry c) c ≡ f) × (f < length c)
    go (refuted a b e) =
        let q : fault (front (entry c) c) ≡ fault f = sym e ∙ o in
        let x : front (entry c) c ≡ f = cc in
        (x, omega arith)
    go (ended a b e) = let q : unfinished (length c) ≡ fault f = sym e ∙ o in cc
    go (unclosed a b d e) =
        let q : fault block_len ≡ fault f = sym e ∙ o in
        let x : block_len ≡ f = cc in
        (a ∙ x, omega arith)
    go (closed a d e) = absurd (block-not-fault (entry c) (read_slots block_subframes c) f (sym e ∙ o))

pub fault-within : (f : ℕ) (c : List Level) → outcome c ≡ fault f → f ≤ block_len
fault-within f c o =
    let e = (fault-front c f o).0 in
    let w = (front-is (entry c) c).within in
    omega arith

pub fault-viable : (c : List Level) (f : ℕ) → outcome c ≡ fault f → IsViable (entry c) (take f c)
    × (IsViable (entry c) (take (f + 1) c) → ⊥)
fault-viable c f o =
    let r = fault-front c f o in
    let x = r.0 in
    let y = r.1 in (
      take-viable (entry c) c f (omega arith),
      λ v. let w = viable-take (entry c) c (f + 1) (omega arith) v in
          omega arith,
    )

pub viable-fault : (c : List Level) (f : ℕ) → f < block_len → f < length c → IsViable (entry c) (take f c)
    → (IsViable (entry c) (take (f + 1) c) → ⊥)
    → outcome c ≡ fault f
viable-fault c f h g v n = go (ending c)
  where
    low : f ≤ front (entry c) c
    low = viable-take (entry c) c f (omega arith) v

    high : (f < front (entry c) c) → ⊥
    high l = n (take-viable (entry c) c (f + 1) (omega arith))

    go : Ending c → outcome c ≡ fault f
    go (refuted a b e) = e ∙ ap fault (exact (cases_lt f (front (entry c) c)))
      where
        exact : (f < front (entry c) c) ⊎ (front (entry c) c ≤ f) → front (entry c) c ≡ f
        exact (inl l) = absurd (high l)
        exact (inr l) = let k = low in omega arith
    go (ended a b e) = absurd (high (omega arith))
    go (unclosed a b d e) = absurd (high (omega arith))
    go (closed a d e) = absurd (high (omega arith))

-- a block that no change closes
pub fault-unclosed : (c : List Level) → outcome c ≡ fault block_len
    → (SubframesStand (read_slots block_subframes c) (entry c) c) × (IsClosed c → ⊥)
fault-unclosed c o = go (ending c)
  where
    go : Ending c → (SubframesStand (read_slots block_subframes c) (entry c) c) × (IsClosed c → ⊥)
    go (refuted a b e) =
        let q : fault (front (entry c) c) ≡ fault block_len = sym e ∙ o in
        let x : front (entry c) c ≡ block_len = cc in
        absurd (omega arith)
    go (ended a b e) = let q : unfinished (length c) ≡ fault block_len = sym e ∙ o in cc
    go (unclosed a b d e) = (read-stands (entry c) c a, λ z. z.turns b d)
    go (closed a d e) = absurd (block-not-fault (entry c) (read_slots block_subframes c) block_len (sym e ∙ o))

-- cells that end
pub unfinished-viable : (c : List Level) (n : ℕ) → outcome c ≡ unfinished n → IsViable (entry c) c × (n ≡ length c)
    × (n < block_len)
unfinished-viable c n o = go (ending c)
  where
    go : Ending c → IsViable (entry c) c × (n ≡ length c) × (n < block_len)
    go (refuted a b e) = let q : fault (front (entry c) c) ≡ unfinished n = sym e ∙ o in cc
    go (ended a b e) =
        let q : unfinished (length c) ≡ unfinished n = sym e ∙ o in
        let x : length c ≡ n = cc in
        (front-viable (entry c) c a, sym x, omega arith)
    go (unclosed a b d e) = let q : fault block_len ≡ unfinished n = sym e ∙ o in cc
    go (closed a d e) = absurd (block-not-unfinished (entry c) (read_slots block_subframes c) n (sym e ∙ o))

pub viable-unfinished : (c : List Level) → length c < block_len → IsViable (entry c) c
    → outcome c ≡ unfinished (length c)
viable-unfinished c h v = go (ending c)
  where
    f : front (entry c) c ≡ length c
    f = viable-front (entry c) c v

    go : Ending c → outcome c ≡ unfinished (length c)
    go (refuted a b e) = absurd (let x = f in omega arith)
    go (ended a b e) = e
    go (unclosed a b d e) = absurd (let x = f in omega arith)
    go (closed a d e) = absurd (let x = f in omega arith)

pub unclosed-fault : (c : List Level) (slots : List (List Bool)) → SubframesStand slots (entry c) c → (IsClosed c → ⊥)
    → outcome c ≡ fault block_len
unclosed-fault c slots h z = standing-unclosed slots (entry c) c h z
