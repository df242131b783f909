use Rattle.std.proofs.Common.{◌≡◌, ◌-◌, ◌%◌, ◌++◌, ℕ, length, take, replicate, refl, sym, ap, ◌∙◌, arith, rules}
use Rattle.std.proofs.Common.{length-append}
use Rattle.std.proofs.lemmas.List.{length-take-le, length-replicate}
use Rattle.aes3_cell.proofs.Growing.{grew-is, front-is}
use Rattle.aes3_forms_samples.specs.Formats.{block_len, frame_len}
use Rattle.aes3_engine.proofs.PcmWords.{block-room}
use Rattle.aes3_engine.proofs.SampleReads.{end-none, end-tail, end-part, end-refused, fill-front, block-made}
use Rattle.aes3_engine.proofs.sampling.SampleInputInputChange.finish.Goals as goal

pub returns-then-left-gt0 : goal.returns-then-left-gt0
returns-then-left-gt0 g c =
    let s = c.args.self.now in (
      end-refused s.format s.exact s.words c.args.change.now s.seen s.at s.begun (omega arith) s.few
          (block-room s.format) _ (g.T.Sink.taken c.args.sink.now) _
          (λ b. tt) (search (rules, ap (λ n. s.seen % n) c.frame_len.ensures.len)) c.if-left-gt0.true,
      refl,
    )

pub returns-then-self-eq0 : goal.returns-then-self-eq0
returns-then-self-eq0 g c =
    let s = c.args.self.now in
    let q = c.if-left-gt0.false in
    let w : s.seen % frame_len s.format ≡ 0 = ap (λ n. s.seen % n) (sym c.frame_len.ensures.len) ∙ omega arith in (
      end-none s.format s.exact s.words c.args.change.now s.seen s.at s.begun (omega arith) s.few (block-room s.format)
          _ (g.T.Sink.taken c.args.sink.now) (λ b. tt) w c.if-self-eq0.true,
      refl,
    )

pub returns-in-Ok : goal.returns-in-Ok
returns-in-Ok g c =
    let s = c.args.self.now in
    let q = c.if-left-gt0.false in
    let w : s.seen % frame_len s.format ≡ 0 = ap (λ n. s.seen % n) (sym c.frame_len.ensures.len) ∙ omega arith in
    let z = c.if-self-eq0.false in
    let few = s.few in
    let room = block-room s.format in
    let len = block_len s.format in
    let f : c.fill.new.self ≡ replicate (1536 - s.at) 0 = c.fill.ensures.after (λ y h. h)
    ∙ ap (λ n. replicate n 0) (omega arith) in
    let h : length (take s.at s.begun) ≡ s.at = length-take-le s.at s.begun (omega arith) in
    let y : length (replicate {A = ℕ} (len - s.at) 0) ≡ len - s.at = length-replicate (len - s.at) 0 in
    let j : length (take s.at s.begun ++ replicate (len - s.at) 0) ≡ len =
    length-append (take s.at s.begun) (replicate (len - s.at) 0) ∙ omega arith in
    let front = fill-front s.at len (1536 - s.at) s.begun c.fill.new.self (omega arith) (omega arith) room refl f in (
      end-tail s.format s.exact s.words c.args.change.now s.seen s.at s.begun (omega arith) few room _
          (g.T.Sink.taken c.args.sink.now) (g.T.Sink.taken c.put_samples.new.sink) (λ b. tt) w (omega arith)
          (grew-is (block-made s.format s.words c.args.change.now _ (take s.at s.begun ++ replicate (len - s.at) 0)
          front j) c.in-Ok.ensures.bytes),
      c.in-Ok.ensures.no_failure,
    )

pub returns-in-Err : goal.returns-in-Err
returns-in-Err g c =
    let s = c.args.self.now in
    let q = c.if-left-gt0.false in
    let w : s.seen % frame_len s.format ≡ 0 = ap (λ n. s.seen % n) (sym c.frame_len.ensures.len) ∙ omega arith in
    let z = c.if-self-eq0.false in
    let few = s.few in
    let room = block-room s.format in
    let len = block_len s.format in
    let f : c.fill.new.self ≡ replicate (1536 - s.at) 0 = c.fill.ensures.after (λ y h. h)
    ∙ ap (λ n. replicate n 0) (omega arith) in
    let h : length (take s.at s.begun) ≡ s.at = length-take-le s.at s.begun (omega arith) in
    let y : length (replicate {A = ℕ} (len - s.at) 0) ≡ len - s.at = length-replicate (len - s.at) 0 in
    let j : length (take s.at s.begun ++ replicate (len - s.at) 0) ≡ len =
    length-append (take s.at s.begun) (replicate (len - s.at) 0) ∙ omega arith in
    let front = fill-front s.at len (1536 - s.at) s.begun c.fill.new.self (omega arith) (omega arith) room refl f in (
      end-part s.format s.exact s.words c.args.change.now s.seen s.at s.begun (omega arith) few room
          (g.T.Sink.taken c.args.sink.now) (g.T.Sink.taken c.put_samples.new.sink) w (omega arith)
          (front-is (block-made s.format s.words c.args.change.now _ (take s.at s.begun ++ replicate (len - s.at) 0)
          front j) c.in-Err.ensures.err.1),
      c.in-Err.ensures.err.0,
    )
