use Rattle.std.proofs.Common.{ap, arith, replicate, ◌%◌, ◌/◌}
use Rattle.std.specs.Prelude.{slice_set}
use Rattle.aes3_status.specs.Taken.{example_of}
use Rattle.aes3_status.proofs.taken.example.Goals as goal

pub returns : goal.returns
unfolding example_of
returns c =
    let kind = c.args.kind in
    ap (λ first. slice_set (slice_set (slice_set (replicate 24 0) 0 first) 2 (kind / 4 % 8)) 4 (kind / 32)) (omega arith)
