use Rattle.std.proofs.Common.{◌≡◌, ◌+◌, ◌-◌, ◌<◌, ◌++◌, inl, inr, length, take, drop, refl, sym, ap, ◌∙◌, arith, rules}
use borrow.Rule.Slice.PartMut.{put_mid}
use Rattle.std.proofs.lemmas.List.{length-take-le, get_or-take, take-append-drop}
use Rattle.aes3_cell.proofs.Growing.{grew-none, grew-is, front-is}
use Rattle.aes3_files.specs.Sound.{begins_sound}
use Rattle.aes3_forms_samples.specs.Formats.{block_len}
use Rattle.aes3_engine.proofs.PcmWords.{block-room}
use Rattle.aes3_engine.proofs.SampleReads.{made-short, front-fed, front-header, front-part, front-stopped, block-made}
use Rattle.aes3_engine.proofs.SampleReads.{put-behind}
use Rattle.aes3_engine.proofs.sampling.SampleInputInputChange.take_front.Goals as goal

pub returns-in-Some : goal.returns-in-Some
returns-in-Some g c =
    let s = c.args.self.now in
    let xs = c.args.piece.now in
    let n = c.min-len.result in
    let m = c.min-len.ensures in
    let len = c.block_len-block_len.ensures.len in
    let few = s.few in
    let l : length (take n xs) ≡ n = length-take-le n xs (omega arith) in
    let w = c.in-Some.ensures.within in
    let v : c.in-Some.i < n = omega arith in (
      front-stopped s.format s.exact s.words c.args.change.now s.seen s.at s.begun (omega arith) few
          (block-room s.format) _ c.in-Some.i xs (g.T.Sink.taken c.args.sink.now) (λ b. tt)
          c.in-Some.ensures.asked (omega arith) (omega arith) c.in-Some.ensures.lowest
          (λ e. c.in-Some.ensures.some (get_or-take n xs c.in-Some.i 0 v ∙ e))
          (λ j l r. sym (get_or-take n xs j 0 (omega arith)) ∙ c.in-Some.ensures.first j l r),
      refl,
    )

pub returns-then-at-len : goal.returns-then-at-len
returns-then-at-len g c =
    let s = c.args.self.now in
    let xs = c.args.piece.now in
    let n = c.min-len.result in
    let m = c.min-len.ensures in
    let len = c.block_len-block_len.ensures.len in
    let few = s.few in
    let room = block-room s.format in
    let l : length (take n xs) ≡ n = length-take-le n xs (omega arith) in
    let new = put_mid s.at (s.at + n - s.at) s.begun c.copy_from_slice.new.self in
    let put = put-behind s.at n s.begun xs c.copy_from_slice.new.self (omega arith) (omega arith)
    c.copy_from_slice.ensures.after in
    let front = put.0 in
    let all = put.1 in
    let t = c.if-at-len.true in
    let q : s.at + n < block_len s.format = omega arith in (
      omega arith,
      omega arith,
      front-fed s.format s.exact s.words c.args.change.now s.seen s.at s.begun (omega arith) few room (take n xs) new n
          (s.at + n) (g.T.Sink.taken c.args.sink.now) (g.T.Sink.taken c.args.sink.now) l
          (record {
            bits = λ e i r. c.in-None.ensures.none refl e i r;
            samples = λ l. ap begins_sound (sym front ∙ ap (λ len. take len new) (omega arith))
                ∙ c.has_header.ensures.no c.if-has_header.false l;
          })
          (inl (q, refl))
          front
          (grew-is (sym (made-short s.format s.words c.args.change.now (take s.at s.begun ++ take n xs)
          (omega arith)))
          (grew-none refl)),
      refl,
    )

pub returns-in-Ok : goal.returns-in-Ok
returns-in-Ok g c =
    let s = c.args.self.now in
    let xs = c.args.piece.now in
    let n = c.min-len.result in
    let m = c.min-len.ensures in
    let len = c.block_len-block_len.ensures.len in
    let few = s.few in
    let room = block-room s.format in
    let l : length (take n xs) ≡ n = length-take-le n xs (omega arith) in
    let new = put_mid s.at (s.at + n - s.at) s.begun c.copy_from_slice.new.self in
    let put = put-behind s.at n s.begun xs c.copy_from_slice.new.self (omega arith) (omega arith)
    c.copy_from_slice.ensures.after in
    let front = put.0 in
    let all = put.1 in
    let t = c.if-at-len.false in
    let q : s.at + n ≡ block_len s.format = omega arith in (
      omega arith,
      omega arith,
      front-fed s.format s.exact s.words c.args.change.now s.seen s.at s.begun (omega arith) few room (take n xs) new n
          0 (g.T.Sink.taken c.args.sink.now) (g.T.Sink.taken c.put_samples.new.sink) l
          (record {
            bits = λ e i r. c.in-None.ensures.none refl e i r;
            samples = λ l. ap begins_sound (sym front ∙ ap (λ len. take len new) (omega arith))
                ∙ c.has_header.ensures.no c.if-has_header.false l;
          })
          (inr (q, refl))
          front
          (grew-is (block-made s.format s.words c.args.change.now new (take s.at s.begun ++ take n xs)
          (ap (λ v. take v new) (sym q) ∙ front) (omega arith)) c.in-Ok.ensures.bytes),
      c.in-Ok.ensures.no_failure,
    )

pub returns-in-Err : goal.returns-in-Err
returns-in-Err g c =
    let s = c.args.self.now in
    let xs = c.args.piece.now in
    let n = c.min-len.result in
    let m = c.min-len.ensures in
    let len = c.block_len-block_len.ensures.len in
    let few = s.few in
    let room = block-room s.format in
    let l : length (take n xs) ≡ n = length-take-le n xs (omega arith) in
    let new = put_mid s.at (s.at + n - s.at) s.begun c.copy_from_slice.new.self in
    let put = put-behind s.at n s.begun xs c.copy_from_slice.new.self (omega arith) (omega arith)
    c.copy_from_slice.ensures.after in
    let front = put.0 in
    let all = put.1 in
    let t = c.if-at-len.false in
    let q : s.at + n ≡ block_len s.format = omega arith in (
      c.in-Err.ensures.err.0,
      front-part s.format s.exact s.words c.args.change.now s.seen s.at s.begun (omega arith) few room (take n xs)
          (drop n xs) xs (g.T.Sink.taken c.args.sink.now) (g.T.Sink.taken c.put_samples.new.sink)
          (record {
            bits = λ e i r. c.in-None.ensures.none refl e i r;
            samples = λ l. ap begins_sound (sym front ∙ ap (λ len. take len new) (omega arith))
                ∙ c.has_header.ensures.no c.if-has_header.false l;
          })
          (take-append-drop n xs)
          (front-is (block-made s.format s.words c.args.change.now new (take s.at s.begun ++ take n xs)
          (ap (λ v. take v new) (sym q) ∙ front) (omega arith)) c.in-Err.ensures.err.1),
    )

pub returns-then-has_header : goal.returns-then-has_header
returns-then-has_header g c =
    let s = c.args.self.now in
    let xs = c.args.piece.now in
    let n = c.min-len.result in
    let m = c.min-len.ensures in
    let len = c.block_len-block_len.ensures.len in
    let few = s.few in
    let room = block-room s.format in
    let l : length (take n xs) ≡ n = length-take-le n xs (omega arith) in
    let new = put_mid s.at (s.at + n - s.at) s.begun c.copy_from_slice.new.self in
    let put = put-behind s.at n s.begun xs c.copy_from_slice.new.self (omega arith) (omega arith)
    c.copy_from_slice.ensures.after in
    let front = put.0 in
    let all = put.1 in
    let w = c.has_header.ensures.yes c.if-has_header.true in (
      search (
        rules,
        front-header s.format s.exact s.words c.args.change.now s.seen s.at s.begun (omega arith) few room
            (λ b. Unit {0}) (take n xs)
            (drop n xs) xs (g.T.Sink.taken c.args.sink.now) (λ b. tt)
            (λ e i r. c.in-None.ensures.none refl e i r)
            (take-append-drop n xs) w.0
            (ap begins_sound (sym front ∙ ap (λ len. take len new) (omega arith)) ∙ w.1),
      ),
      refl,
    )
