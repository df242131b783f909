use Rattle.std.proofs.Common.{◌≡◌, take, true}
use Rattle.std.specs.List.{list_all}
use Rattle.aes3_files.specs.Kinds.{is_in}
use Rattle.aes3_files.proofs.kind.Alphabet.has_all.Given as goal

abbrev pub invariant-loop-byte : goal.invariant-loop-byte
invariant-loop-byte l = list_all (is_in l.self) (take l.byte-index l.bytes) ≡ true
