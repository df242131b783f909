use Rattle.std.proofs.Common.{◌++◌, Ok, refl, sym, ap, ◌∙◌, subst, arith, length-append}
use Rattle.std.specs.Prelude.{option_to_list}
use Rattle.aes3_level.specs.Remaining.{all_of}
use Rattle.aes3_level.specs.Words.{low_cells}
use Rattle.aes3_lock.specs.Following.{ScanFollows, ScanState}
use Rattle.aes3_lock.specs.Preambles.{marks}
use Rattle.aes3_input.specs.Running.{movement_of}
use Rattle.aes3_input.proofs.Handing.{here-ran}
use Rattle.aes3_text_reports.specs.Scanning.{mark_state}
use Rattle.aes3_text_reports.proofs.Scans.{few-marks, mark-ran, none-ran}
use Rattle.aes3_text_reports.proofs.scanning.MarkLines.take_next.Goals as goal

pub next_in-taken-requires-clause-room : goal.next_in-taken-requires-clause-room
next_in-taken-requires-clause-room g c =
    let q = c.requires.following in
    let l = q.1 in
    let s = q.3.follows.seen in
    let n = c.here.ensures.len in
    let a = length-append c.args.cells.now.here c.args.cells.now.next in
    omega (arith, l, s, n, a)

pub tell_alone-requires-clause-few : goal.tell_alone-requires-clause-few
tell_alone-requires-clause-few g c =
    let q = c.requires.following in
    let l = q.1 in
    let s = q.3.count_is in
    let n = few-marks q.0 in
    omega (arith, l, s, n)

pub returns-in-Some : goal.returns-in-Some
returns-in-Some g c =
    let own = c.args.self.now in
    let new = c.tell_alone.new.self in
    let cells = c.args.cells.now in
    let p = c.next_in-taken.ensures in
    let n = c.next_in-taken.result.0 in
    let w = c.word.result in
    let d = low_cells n w in
    let h = c.here.ensures.len in
    let some = c.requires.some in
    let within = p.within in
    let sink = movement_of g.T.Sink.taken g.T.Sink.failed c.args.sink.now c.tell_alone.new.sink in
    let e = c.tell_alone.ensures in
    record {
      ran = here-ran (mark_state own.lines own.scan own.marks) (mark_state new.lines new.scan new.marks)
          (all_of cells) cells.here cells.next w n sink c.tell_alone.result _ _ refl c.word.ensures
          (p.some (omega (arith, some, h))) (omega (arith, within, h)) c.skip.ensures.here c.skip.ensures.next
          (mark-ran own.lines new.lines own.scan new.scan own.marks new.marks d c.in-Some.found sink c.tell_alone.result
          (λ b f. subst (λ (k : ScanState). ScanFollows k (b ++ d)) (sym e.scan) (p.follows b f))
          (λ b f. p.mark b f ∙ ap (λ o. marks b ++ option_to_list o) c.in-Some.is)
          e.marks e.none e.wrote.grew e.wrote.no_failure e.wrote.err);
    }

pub returns-in-None : goal.returns-in-None
returns-in-None g c =
    let own = c.args.self.now in
    let cells = c.args.cells.now in
    let p = c.next_in-taken.ensures in
    let n = c.next_in-taken.result.0 in
    let w = c.word.result in
    let h = c.here.ensures.len in
    let some = c.requires.some in
    let within = p.within in
    let sink = movement_of g.T.Sink.taken g.T.Sink.failed c.args.sink.now c.args.sink.now in
    record {
      ran = here-ran (mark_state own.lines own.scan own.marks) (mark_state own.lines c.next_in-taken.new.self own.marks)
          (all_of cells) cells.here cells.next w n sink (Ok tt) _ _ refl c.word.ensures
          (p.some (omega (arith, some, h))) (omega (arith, within, h)) c.skip.ensures.here c.skip.ensures.next
          (none-ran own.lines own.scan c.next_in-taken.new.self own.marks (low_cells n w) sink p.follows
          (λ b f. p.mark b f ∙ ap (λ o. marks b ++ option_to_list o) c.in-None.is) refl refl);
    }
