use Rattle.std.proofs.Common.{ℕ, eqb, false, map, ap, ◌∙◌, arith, w8}
use Rattle.std.specs.Prelude.{if◌then◌else◌}
use Rattle.std.specs.Int.{bit_at}
use Rattle.std.proofs.lemmas.Simd.{bitmask_splat, bit_mask_l}
use Rattle.std.proofs.lemmas.List.{get_or-map}
use Rattle.aes3_cell.proofs.word.equal_to.Goals as goal

pub returns : goal.returns
returns c = λ i h.
    let p = λ (x : ℕ). eqb x c.args.byte in
    ap (λ n. bit_at n i) (bitmask_splat w8 eqb c.args.bytes.now 64 c.args.byte c.told-bytes (omega arith))
    ∙ bit_mask_l (map p c.args.bytes.now) i
    ∙ ap (λ b. if b then 1 else 0) (get_or-map p c.args.bytes.now i 0 false (omega (arith, c.told-bytes)))
