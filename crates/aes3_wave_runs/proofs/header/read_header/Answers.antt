use Rattle.std.proofs.Common.{◌+◌, ◌≤◌, take, refl, sym, ap, ◌∙◌, arith}
use Rattle.std.proofs.lemmas.List.{length-take-le}
use Rattle.aes3_cell.proofs.Growing.{grew-is}
use Rattle.aes3_wave_runs.proofs.HeaderRuns.{begins, read-ended, read-long, read-more, read-refused, read-whole}
use Rattle.aes3_wave_runs.proofs.header.read_header.Goals as goal

pub pieces-init : goal.pieces-init
pieces-init g c = record {
  so = begins (g.S.Source.given c.args.source.now) c.new-reader.result c.new-reader.ensures;
  short = omega arith;
  quiet = refl;
  buffer = refl;
}

pub returns-in-Err-end-clause-run : goal.returns-in-Err-end-clause-run
returns-in-Err-end-clause-run g c =
    let v = c.pieces.invariant in
    let r = c.in-Ok.ensures in
    read-ended c.args.max_bytes (g.S.Source.failed c.args.source.now) (g.S.Source.failed c.read_piece.new.source)
    (g.S.Source.has_ended c.read_piece.new.source) c.in-Err-end.error v.so v.short (r.no_failure ∙ v.quiet)
    (grew-is (ap (λ k. take k c.read_piece.new.piece) c.if-n-eq0.true) r.bytes) (r.end.0 c.if-n-eq0.true)
    (sym c.in-Err-end.is ∙ c.end.ensures.judged v.so.bytes v.so.follows)

pub returns-then-seen-max_bytes-clause-run : goal.returns-then-seen-max_bytes-clause-run
returns-then-seen-max_bytes-clause-run g c =
    let v = c.pieces.invariant in
    let r = c.in-Ok.ensures in
    let n = c.in-Ok.n in
    let few = r.bound.1 in
    let m = c.min-room.ensures in
    read-long c.args.max_bytes (g.S.Source.failed c.args.source.now) (g.S.Source.failed c.read_piece.new.source)
    (g.S.Source.has_ended c.read_piece.new.source) (take n c.read_piece.new.piece) c.wanted.result n v.so v.short
    (r.no_failure ∙ v.quiet) r.bytes (length-take-le n c.read_piece.new.piece r.bound.0) (omega arith) (omega arith)
    c.if-seen-max_bytes.true c.wanted.ensures.open

pub returns-in-Err-take-clause-run : goal.returns-in-Err-take-clause-run
returns-in-Err-take-clause-run g c =
    let v = c.pieces.invariant in
    let r = c.in-Ok.ensures in
    let n = c.in-Ok.n in
    let short : c.pieces.seen + n ≤ c.args.max_bytes = omega (arith, c.if-seen-max_bytes.false) in
    read-refused c.args.max_bytes (g.S.Source.failed c.args.source.now) (g.S.Source.failed c.read_piece.new.source)
    (g.S.Source.has_ended c.read_piece.new.source) (take n c.read_piece.new.piece) n c.in-Err-take.error v.so
    (r.no_failure ∙ v.quiet) r.bytes (length-take-le n c.read_piece.new.piece r.bound.0) short
    (c.in-Err-take.ensures.took v.so.bytes v.so.follows)

pub returns-in-Some-clause-run : goal.returns-in-Some-clause-run
returns-in-Some-clause-run g c =
    let v = c.pieces.invariant in
    let r = c.in-Ok.ensures in
    let n = c.in-Ok.n in
    let few = r.bound.1 in
    let m = c.min-room.ensures in
    let short : c.pieces.seen + n ≤ c.args.max_bytes = omega (arith, c.if-seen-max_bytes.false) in
    read-whole c.args.max_bytes (g.S.Source.failed c.args.source.now) (g.S.Source.failed c.read_piece.new.source)
    (g.S.Source.has_ended c.read_piece.new.source) (take n c.read_piece.new.piece) c.wanted.result n
    c.in-Ok-take.field-0 c.take.new.self c.in-Some.header v.so (r.no_failure ∙ v.quiet) r.bytes
    (length-take-le n c.read_piece.new.piece r.bound.0) (omega arith) short c.wanted.ensures.open
    (c.in-Ok-take.ensures.took v.so.bytes v.so.follows) c.in-Some.ensures.stage c.in-Some.ensures.judged

pub pieces-preserved : goal.pieces-preserved
pieces-preserved g c =
    let v = c.pieces.invariant in
    let r = c.in-Ok.ensures in
    let n = c.in-Ok.n in
    let same = c.read_piece.auto.piece in
    let buffer = v.buffer in
    record {
      so = read-more c.take.new.self (take n c.read_piece.new.piece) c.in-Ok-take.field-0 n v.so r.bytes
          (length-take-le n c.read_piece.new.piece r.bound.0) (c.in-Ok-take.ensures.took v.so.bytes v.so.follows)
          (sym c.in-None.ensures.stage) c.in-None.ensures.judged;
      short = omega (arith, c.if-seen-max_bytes.false);
      quiet = r.no_failure ∙ v.quiet;
      buffer = omega arith;
    }
