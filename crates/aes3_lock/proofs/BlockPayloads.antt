-- The payloads of a block and the bits of its subframes.
use Rattle.std.proofs.Common.{◌≡◌, suc, List, [], ◌∷◌, Bool, true, false, map, refl, length, take, ap, ap₂, ◌∙◌, sym}
use Rattle.std.proofs.Common.{arith, length-take, ◌⊎◌, inl, inr}
use Rattle.std.proofs.lemmas.Bool.{cases_Bool}
use Rattle.std.proofs.lemmas.List.{length-map, take_at}
use Rattle.aes3_bits.specs.Bits.{odd_ones}
use Rattle.aes3_slot.specs.Slots.{payload_len, with_parity}
use Rattle.aes3_slot.specs.Rules.{Each28}
use Rattle.aes3_slot.proofs.Parity.{split-parity}
use Rattle.aes3_slot.proofs.Subframes.{odd_ones-with_parity}
use Rattle.aes3_frame.specs.Blocks.{block_subframes, IsBlock}
use Rattle.aes3_frame.proofs.Runs.{Each27}
use Rattle.aes3_lock.specs.Outcomes.{payloads_of, wrong_parities}
use Rattle.aes3_frame.proofs.Each.{all-payloads}

-- with their parity bits 28
pub payloads-with_parity : (b : List (List Bool)) → Each27 b → payloads_of (map with_parity b) ≡ b
unfolding payload_len
payloads-with_parity [] h = refl
payloads-with_parity (p ∷ b) h = ap₂ (λ x y. x ∷ y) (take_at p (odd_ones p ∷ []) 27 h.0) (payloads-with_parity b h.1)

pub right-with_parity : (b : List (List Bool)) → wrong_parities (map with_parity b) ≡ 0
right-with_parity [] = refl
right-with_parity (p ∷ b) =
    let o = odd_ones-with_parity p in
    rw o (right-with_parity b)

-- back: subframes none of which has a wrong parity bit
pub each27-payloads_of : (slots : List (List Bool)) → Each28 slots → Each27 (payloads_of slots)
unfolding payload_len
each27-payloads_of [] e = tt
each27-payloads_of (bits ∷ more) e = (
  let l = length-take 27 bits in let n = e.0 in
      omega arith,
  each27-payloads_of more e.1,
)

with_parity-payloads : (bits : List Bool) → length bits ≡ 28 → odd_ones bits ≡ false
    → with_parity (take payload_len bits) ≡ bits
unfolding payload_len
with_parity-payloads bits l o =
    let p = split-parity 27 bits l o in
    ap (λ x. with_parity (take 27 x)) p.2 ∙ ap with_parity (take_at p.0 (odd_ones p.0 ∷ []) 27 p.1) ∙ sym p.2

pub slots-right : (slots : List (List Bool)) → Each28 slots → wrong_parities slots ≡ 0
    → map with_parity (payloads_of slots) ≡ slots
slots-right [] e w = refl
slots-right (bits ∷ more) e w = go (cases_Bool (odd_ones bits)) (slots-right more e.1)
  where
    go : (odd_ones bits ≡ true) ⊎ (odd_ones bits ≡ false)
        → (wrong_parities more ≡ 0 → map with_parity (payloads_of more) ≡ more)
        → map with_parity (payloads_of (bits ∷ more)) ≡ bits ∷ more
    go (inl o) rest = absurd (let z : suc (wrong_parities more) ≡ 0 = rw o at w in omega arith)
    go (inr o) rest =
        let z : wrong_parities more ≡ 0 = rw o at w in
        ap₂ (λ x y. x ∷ y) (with_parity-payloads bits e.0 o) (rest z)

pub block-payloads : (slots : List (List Bool)) → length slots ≡ block_subframes → Each28 slots
    → IsBlock (payloads_of slots)
block-payloads slots n e =
    record {
      count = length-map slots (take payload_len) ∙ n;
      payloads = all-payloads (payloads_of slots) (each27-payloads_of slots e);
    }
