use Rattle.std.proofs.Common.{◌≡◌, sym, refl, arith, take, length}
use Rattle.std.proofs.lemmas.List.{length-take-le}
use Rattle.aes3_cell.proofs.Growing.{grew-is, grew-none, front-is}
use Rattle.aes3_engine.proofs.WordRuns.{end-begun, end-whole, ends-is, seen-few}
use Rattle.aes3_engine.proofs.word_encoding.WordFileInputEncoder.finish.Goals as goal

pub overflow_add-left : goal.overflow_add-left
overflow_add-left g c =
    let s = c.args.self.now in
    let q = c.requires.following in
    let h = seen-few s.reader.words (take s.len s.begun) q.0 q.2 in
    let n : length (take s.len s.begun) ≡ s.len = length-take-le s.len s.begun (omega arith) in
    let l = q.1 in
    let e = c.seen.ensures in
    omega arith

pub returns-then-left-gt0 : goal.returns-then-left-gt0
returns-then-left-gt0 g c =
    let s = c.args.self.now in
    let n : length (take s.len s.begun) ≡ s.len = length-take-le s.len s.begun (omega arith) in
    let e = c.seen.ensures in
    let z = c.if-left-gt0.true in (
      λ b h. (
        end-begun s.reader.words c.args.encoder.now.output (take s.len s.begun) b _ h (omega arith) (omega arith),
        tt,
        grew-none refl,
      ),
      refl,
    )

pub returns-in-Ok : goal.returns-in-Ok
returns-in-Ok g c =
    let s = c.args.self.now in
    let o = c.args.encoder.now.output in
    let n : length (take s.len s.begun) ≡ s.len = length-take-le s.len s.begun (omega arith) in
    let e = c.seen.ensures in
    let z = c.if-left-gt0.false in (
      λ b h. (
        end-whole s.reader.words o (take s.len s.begun) b h (omega arith),
        h,
        grew-is (sym (ends-is s.reader.words o b)) c.in-Ok.ensures.grew,
      ),
      c.in-Ok.ensures.no_failure,
    )

pub returns-in-Err : goal.returns-in-Err
returns-in-Err g c =
    let s = c.args.self.now in
    let o = c.args.encoder.now.output in
    let n : length (take s.len s.begun) ≡ s.len = length-take-le s.len s.begun (omega arith) in
    let e = c.seen.ensures in
    let z = c.if-left-gt0.false in (
      λ b h. (
        end-whole s.reader.words o (take s.len s.begun) b h (omega arith),
        front-is (sym (ends-is s.reader.words o b)) c.in-Err.ensures.err.1,
      ),
      c.in-Err.ensures.err.0,
    )
