use Rattle.std.proofs.Common.{◌≡◌, None, take}
use Rattle.std.specs.List.{All, flat_map}
use Rattle.aes3_spoil.specs.Errors.{errors_of}
use Rattle.aes3_cli.specs.Options.{options_of}
use Rattle.aes3_spoil_runs.specs.Asks.{AreValues, errors_by}
use Rattle.aes3_spoil_runs.proofs.spoil_job.errors_of_options.Given as goal

abbrev pub invariant-loop-named : goal.invariant-loop-named
invariant-loop-named l =
    (errors_of l.errors ≡ flat_map (errors_by (options_of l.options)) (take l.named-index l.named-items))
    × (l.errors.every ≡ None)
    × All (AreValues (options_of l.options)) (take l.named-index l.named-items)
