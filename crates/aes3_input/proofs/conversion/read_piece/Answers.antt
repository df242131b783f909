use Rattle.std.proofs.Common.{ℕ, List, Option, Result, Ok, Err, ◌≤◌, ◌++◌, IfOk, length, take, drop, sym}
use Rattle.std.proofs.lemmas.List.{take-append-le}
use Rattle.aes3_cell.specs.declared.ends.Fault.{Fault}
use Rattle.aes3_cell.specs.Ends.{Grew}
use Rattle.aes3_cell.proofs.Growing.{grew-is}
use Rattle.aes3_input.proofs.conversion.read_piece.Goals as goal

in-front : (old new : Option (List ℕ)) (read rest : List ℕ) (n : Result ℕ Fault) → IfOk n (λ k. k ≤ length read)
    → IfOk n (λ k. Grew old new (take k read)) → IfOk n (λ k. Grew old new (take k (read ++ rest)))
in-front old new read rest (Ok k) l h = grew-is (sym (take-append-le k read rest l)) h
in-front old new read rest (Err x) l h = tt

pub returns-clause-bytes : goal.returns-clause-bytes
returns-clause-bytes g c =
    in-front (g.S.Source.given c.args.source.now) (g.S.Source.given c.read.new.self) c.read.new.buf
    (drop c.min-limit.result c.args.piece.now) c.read.result c.read.ensures.bound c.read.ensures.bytes
