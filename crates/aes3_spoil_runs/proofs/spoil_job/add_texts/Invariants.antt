use Rattle.std.proofs.Common.{◌≡◌, ◌++◌, map, take}
use Rattle.std.specs.List.{All, flat_map}
use Rattle.aes3_spoil.specs.Errors.{errors_of}
use Rattle.aes3_spoil_runs.specs.Asks.{IsValue, errors_in}
use Rattle.aes3_spoil_runs.proofs.spoil_job.add_texts.Given as goal

abbrev pub invariant-loop-text : goal.invariant-loop-text
invariant-loop-text l =
    (errors_of l.errors
    ≡ errors_of l.fn.errors ++ flat_map (errors_in l.named) (map (λ t. t.now) (take l.text-index l.texts)))
    × (l.errors.every ≡ l.fn.errors.every)
    × All (λ t. IsValue l.named t.now) (take l.text-index l.texts)
