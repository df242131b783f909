use Rattle.std.proofs.Common.{take, arith}
use Rattle.std.proofs.lemmas.List.{length-take-le}
use Rattle.aes3_wave.proofs.Following.{chunks-open, chunks-some, first-open, first-some, whole-some}
use Rattle.aes3_wave.proofs.header_reader.HeaderReader.wanted.Goals as goal

pub returns-in-First-clause-some : goal.returns-in-First-clause-some
returns-in-First-clause-some c =
    let s = c.args.self.now in
    let l = length-take-le s.len s.held (omega arith) in
    λ b w _.
    let q = first-some s.seen s.at (take s.len s.held) s.left b s.stage c.in-First.is w in
    omega arith

pub returns-in-First-clause-open : goal.returns-in-First-clause-open
returns-in-First-clause-open c =
    let s = c.args.self.now in
    let l = length-take-le s.len s.held (omega arith) in
    λ b piece w few.
    first-open s.seen s.at (take s.len s.held) s.left b piece s.stage c.in-First.is w (omega arith)

pub returns-in-Chunks-clause-some : goal.returns-in-Chunks-clause-some
returns-in-Chunks-clause-some c =
    let s = c.args.self.now in
    λ b w _.
    let q = chunks-some s.seen s.at (take s.len s.held) s.left b s.stage c.in-Chunks.known c.in-Chunks.is w in
    omega arith

pub returns-in-Chunks-clause-open : goal.returns-in-Chunks-clause-open
returns-in-Chunks-clause-open c =
    let s = c.args.self.now in
    λ b piece w few.
    chunks-open s.seen s.at (take s.len s.held) s.left b piece s.stage c.in-Chunks.known c.in-Chunks.is w (omega arith)

pub returns-in-Whole-clause-some : goal.returns-in-Whole-clause-some
returns-in-Whole-clause-some c =
    let s = c.args.self.now in
    λ b w h. absurd (whole-some s.seen s.at (take s.len s.held) s.left b s.stage _ c.in-Whole.is w h)
