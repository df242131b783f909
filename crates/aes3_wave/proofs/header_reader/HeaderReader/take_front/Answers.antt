use Rattle.std.proofs.Common.{take, arith}
use Rattle.std.proofs.lemmas.Result.{err_from_is_err_and}
use Rattle.aes3_wave.proofs.Following.{front-left, front-refused, take-one}
use Rattle.aes3_wave.proofs.header_reader.HeaderReader.take_front.Goals as goal

pub returns-in_err-take_octet-clause-took : goal.returns-in_err-take_octet-clause-took
returns-in_err-take_octet-clause-took c =
    let p = err_from_is_err_and c.from_residual.result c.from_residual.ensures.1 in
    rw (p.1, p.2) (λ b w. front-refused b c.args.piece.now _ _ c.requires.some
    (take-one c.args.piece.now _ c.requires.some) (c.in_err-take_octet.ensures.took b w))

pub returns-clause-took : goal.returns-clause-took
returns-clause-took c =
    let s = c.args.self.now in
    λ b w. front-left s.seen s.stage s.at (take s.len s.held) s.left c.min-n.result b c.args.piece.now w c.requires.open
    (omega arith) (omega arith) (omega arith)
