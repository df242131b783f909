use Rattle.std.proofs.Common.{refl, ◌∙◌, ap, arith, ◌%◌, ◌/◌, cond, eqb}
use Rattle.std.specs.Int.{bit_at}
use Rattle.aes3_level.proofs.Moves.{gathers-itself, gathers-below, gathers-masked, gathers-at, twice, any_of-twice}
use Rattle.aes3_slot.proofs.subframe_encoding.spread.Goals as goal

pub returns : goal.returns
returns c = λ i h.
    gathers-at twice 64
    (gathers-masked 6148914691236517205 (gathers-below 1
    (gathers-masked 3689348814741910323 (gathers-below 2
    (gathers-masked 1085102592571150095 (gathers-below 4
    (gathers-masked 71777214294589695 (gathers-below 8
    (gathers-masked 281470681808895 (gathers-below 16
    (gathers-itself 32 c.from-word.result (omega arith) (omega arith) (omega arith))))))))))))
    (omega arith) refl i h
    ∙ any_of-twice c.from-word.result i ∙ ap (λ v. cond (eqb (i % 2) 0) (bit_at v (i / 2)) 0) c.from-word.ensures
