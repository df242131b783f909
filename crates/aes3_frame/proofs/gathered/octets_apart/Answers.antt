use Rattle.std.proofs.Common.{◌/◌, ◌^◌, ◌<◌, arith}
use Rattle.std.specs.Prelude.{bit_xor}
use Rattle.std.proofs.lemmas.Nat.{xor_lt}
use Rattle.aes3_level.proofs.Moves.{gathers-itself, gathers-above, gathers-masked}
use Rattle.aes3_frame.proofs.FourWords.{apart-none, apart-bits}
use Rattle.aes3_frame.proofs.gathered.octets_apart.Goals as goal

few : (c : goal.Start) → bit_xor c.args.cells (c.args.cells / 2) < 2 ^ 64
few c = xor_lt 64 c.args.cells (c.args.cells / 2) (omega arith) (omega arith)

pub returns-clause-none : goal.returns-clause-none
returns-clause-none c =
    apart-none (gathers-masked 71777214294589695 (gathers-above 4 (gathers-masked 1085102592571150095 (gathers-above 2
    (gathers-masked 3689348814741910323 (gathers-above 1 (gathers-masked 6148914691236517120
    (gathers-itself 64 (bit_xor c.args.cells (c.args.cells / 2)) (omega arith) (few c) (few c)))))))))

pub returns-clause-bits : goal.returns-clause-bits
returns-clause-bits c =
    apart-bits (gathers-masked 71777214294589695 (gathers-above 4 (gathers-masked 1085102592571150095 (gathers-above 2
    (gathers-masked 3689348814741910323 (gathers-above 1 (gathers-masked 6148914691236517120
    (gathers-itself 64 (bit_xor c.args.cells (c.args.cells / 2)) (omega arith) (few c) (few c)))))))))
