use Rattle.std.proofs.Common.{◌≡◌, take, fold}
use Rattle.aes3_cli_hints.specs.Places.{behind}
use Rattle.aes3_cli_hints.proofs.watched.Position.behind_all.Given as goal

abbrev pub invariant-loop-byte : goal.invariant-loop-byte
invariant-loop-byte l = l.position ≡ fold behind l.fn.self (take l.byte-index l.bytes)
