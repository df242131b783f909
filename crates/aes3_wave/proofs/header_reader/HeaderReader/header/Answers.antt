use Rattle.std.proofs.Common.{◌∙◌, ap, take, Ok}
use Rattle.aes3_wave.specs.Following.{header_of}
use Rattle.aes3_wave.proofs.Following.{answered}
use Rattle.aes3_wave.proofs.header_reader.HeaderReader.header.Goals as goal

pub returns-in-First-clause-judged : goal.returns-in-First-clause-judged
returns-in-First-clause-judged c =
    let s = c.args.self.now in
    λ b w. answered s.seen s.stage s.at (take s.len s.held) s.left b w ∙ ap (λ t. Ok (header_of t)) c.in-First.is

pub returns-in-Chunks-clause-judged : goal.returns-in-Chunks-clause-judged
returns-in-Chunks-clause-judged c =
    let s = c.args.self.now in
    λ b w. answered s.seen s.stage s.at (take s.len s.held) s.left b w ∙ ap (λ t. Ok (header_of t)) c.in-Chunks.is

pub returns-in-Whole-clause-judged : goal.returns-in-Whole-clause-judged
returns-in-Whole-clause-judged c =
    let s = c.args.self.now in
    λ b w. answered s.seen s.stage s.at (take s.len s.held) s.left b w ∙ ap (λ t. Ok (header_of t)) c.in-Whole.is
