use Rattle.std.proofs.Common.{refl, ◌∙◌, ◌*◌, ◌∷◌, [], arith, rules}
use Rattle.aes3_level.proofs.Moves.{gathers-itself, gathers-above, gathers-masked, gathers-at, any_of-one}
use Rattle.aes3_level.proofs.word_bits.even_bits.Goals as goal

pub returns-clause-bits : goal.returns-clause-bits
returns-clause-bits c = λ i h.
    search (
      rules,
      gathers-at (λ i. 2 * i ∷ []) 32
          (gathers-masked 4294967295 (gathers-above 16
          (gathers-masked 281470681808895 (gathers-above 8
          (gathers-masked 71777214294589695 (gathers-above 4
          (gathers-masked 1085102592571150095 (gathers-above 2
          (gathers-masked 3689348814741910323 (gathers-above 1
          (gathers-masked 6148914691236517205
          (gathers-itself 64 c.args.word (omega arith) (omega arith) (omega arith)))))))))))))
          (omega arith) refl i h,
    )
    ∙ any_of-one c.args.word (2 * i)
