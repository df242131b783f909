use Rattle.std.proofs.Common.{ℕ, List, IfOk, ◌≡◌, ◌<◌, ◌+◌, ◌^◌, ◌++◌, [], inl, inr, refl, sym, ap, ◌∙◌, not, arith}
use Rattle.aes3_level.specs.declared.level.Level.{Level}
use Rattle.aes3_level.specs.Words.{low_cells}
use Rattle.aes3_capture.specs.declared.follower.Follower.{Follower}
use Rattle.aes3_capture_recovery.specs.LineFollowing.{Followed}
use Rattle.aes3_capture_recovery.specs.Runs.{levels_in}
use Rattle.aes3_capture_recovery.specs.declared.recovery.State.TheVariants.{Following}
use Rattle.aes3_capture_recovery.proofs.Awaiting.{awaits-edge, awaits-finds, awaits-joins, awaits-rest-ok, awaits-starts, awaits-word, measured-once}
use Rattle.aes3_capture_recovery.proofs.Telling.{ok-const, ok-map}
use Rattle.aes3_capture_recovery.proofs.Beginning.{began-edge, began-ok, began-on, found-or, none-measured, none-or, not-begun, not-both}
use Rattle.aes3_capture_recovery.proofs.Followed.{captured-late, followed-begins, followed-edge, followed-rest, gives-ok}
use Rattle.aes3_capture_recovery.proofs.Joining.{joined-gives, lasting-ok}
use Rattle.aes3_capture_recovery.proofs.OnLine.{on-line-edge, on-line-end, on-line-same}
use Rattle.aes3_capture_recovery.proofs.Recovering.{keeps-told, recovered-edge, recovered-rest-ok, recovered-word, turned-ended}
use Rattle.aes3_capture_recovery.proofs.States.{begun-more, following-or}
use Rattle.aes3_capture_recovery.proofs.recovery.Recovery.take.Given.{Over}
use Rattle.aes3_capture_recovery.proofs.recovery.Recovery.take.Goals.{After-rest, In_ok-edge}
use Rattle.aes3_capture_recovery.proofs.recovery.Recovery.take.Goals as goal

pub loop-run-init : goal.loop-run-init
loop-run-init g c = record {
  quiet = refl;
  up = omega (arith, c.count_samples.ensures.measured);
  some = λ was. let counted = c.count_samples.ensures.samples in omega (arith, was, counted);
  begun = λ none is room. absurd (none (sym c.count_samples.ensures.state ∙ is));
  followed = λ was is same room some begun front first before seen w.
      followed-begins (g.T.Sink.taken c.args.sink.now) begun front c.args.self.now.line c.count_samples.new.self.line
      first before seen (low_cells c.args.len c.args.levels) (levels_in c.new-piece.result)
      (c.count_samples.ensures.line some) c.new-piece.ensures w;
  recovered = λ setting seen w.
      let counted = c.count_samples.ensures in
      rw c.new-piece.ensures
      (recovered-word (g.T.Sink.taken c.args.sink.now) setting seen c.args.len c.args.levels c.args.self.now
      c.count_samples.new.self counted.others counted.state counted.samples counted.line counted.none counted.begins w);
  unfound = λ room same. c.count_samples.ensures.others.found_is;
  begins = λ none is one setting seen w.
      let zero_measured = none-measured (g.T.Sink.taken c.args.sink.now) setting seen [] c.args.self.now w none in
      let kept = c.count_samples.ensures.measured in
      not-begun (g.T.Sink.taken c.args.sink.now) setting (seen ++ low_cells c.args.len c.args.levels)
      (levels_in c.new-piece.result) c.count_samples.new.self (kept ∙ zero_measured) one;
  awaits = λ setting seen a.
      let counted = c.count_samples.ensures in
      rw c.new-piece.ensures
      (awaits-word (g.T.Sink.taken c.args.sink.now) setting seen c.args.len c.args.levels c.args.self.now
      c.count_samples.new.self counted.others counted.state counted.samples counted.line counted.none counted.begins
      counted.distance a);
  stays = λ narrow spread more w.
      let counted = c.count_samples.ensures in
      let some = w.some in
      let samples = counted.samples in
      rw c.new-piece.ensures (record {
        on = on-line-same c.args.self.now c.count_samples.new.self narrow spread (low_cells c.args.len c.args.levels ++ more)
            (counted.line some) counted.distance counted.state (omega (arith, some, samples)) w;
        measured = counted.measured;
      });
}

edge-followed : (g : Over) (c : In_ok-edge g) → c.loop-run.self.state ≡ Following
    → (begun : List ℕ) (front : List Level) (first : Follower) (before : Level) (since : List Level)
    → Followed (g.T.Sink.taken c.loop-run.sink) begun front c.loop-run.self.line first before since (levels_in c.loop-run.piece)
    → Followed (g.T.Sink.taken c.edge.new.sink) begun front c.edge.new.self.line first before since
    (levels_in c.next_edge.new.piece)
edge-followed g c follows begun front first before since f =
    followed-edge c.loop-run.self.line c.next_edge.new.self c.edge.new.self.line c.loop-run.sink c.edge.new.sink tt begun front
    first before since c.loop-run.piece c.next_edge.new.piece c.in-Some.run' c.loop-run.piece.few c.in-Some.ensures.edge
    c.next_edge.ensures.follower c.next_edge.ensures.queue (not c.is_high-high.result) (ap not c.is_high-high.ensures)
    (c.in_ok-edge.ensures.told follows) f

pub loop-run-preserved : goal.loop-run-preserved
loop-run-preserved g c =
    let up1 = c.loop-run.invariant.up in
    let up2 = c.edge.ensures.up in
    record {
      quiet = c.in_ok-edge.ensures.no_failure ∙ c.loop-run.invariant.quiet;
      up = omega (arith, up1, up2);
      some = λ was. let before = c.loop-run.invariant.some was in
          let kept = c.edge.ensures.samples in omega (arith, before, kept);
      begun = λ none is room. elim (following-or c.loop-run.self.state) [
        | inl was ↦ let more = c.loop-run.invariant.begun none was room in omega (arith, more, up2)
        | inr n ↦ begun-more c.args.self.now.figures.measured c.loop-run.self.figures.measured c.edge.new.self.figures.measured
            up1 up2 room (c.edge.ensures.begun n is)
      ];
      followed = λ was is same room some begun front first before seen w.
          let kept : c.loop-run.self.figures.measured ≡ c.args.self.now.figures.measured
          = omega (arith, up1, up2, same) in
          let room2 : c.loop-run.self.figures.measured + 1 < 2 ^ 64 = omega (arith, kept, room) in
          let follows : c.loop-run.self.state ≡ Following = elim (following-or c.loop-run.self.state) [
            | inl e ↦ e
            | inr n ↦ let more = c.edge.ensures.begun n is room2 in absurd (omega (arith, more, same, kept))
          ] in
          edge-followed g (goal.at.loop-run-preserved g c).In_ok-edge follows begun front first before (seen ++ low_cells c.args.len c.args.levels)
          (c.loop-run.invariant.followed was follows kept room some begun front first before seen w);
      recovered = λ setting seen w.
          let old = c.loop-run.self in
          let edge = c.in-Some.ensures.edge in
          let turned = turned-ended old.line.edges c.next_edge.new.self.edges c.loop-run.piece c.next_edge.new.piece
          c.in-Some.run' (not c.is_high-high.result) edge (ap not c.is_high-high.ensures) in
          recovered-edge (g.T.Sink.taken c.loop-run.sink) (g.T.Sink.taken c.edge.new.sink) setting
          (seen ++ low_cells c.args.len c.args.levels) c.loop-run.piece c.next_edge.new.piece c.in-Some.run' old _
          c.edge.new.self c.loop-run.piece.few edge
          (keeps-told _ _ refl refl refl refl refl refl c.next_edge.ensures.queue c.next_edge.ensures.follower)
          refl c.edge.ensures.edges c.edge.ensures.samples
          (λ level done past h e. c.in_ok-edge.ensures.stands setting level done past h (turned.0 ∙ e) turned.1)
          (c.loop-run.invariant.recovered setting seen w);
      unfound = λ room same.
          let kept : c.loop-run.self.figures.measured ≡ c.args.self.now.figures.measured
          = omega (arith, up1, up2, same) in
          c.edge.ensures.unfound (omega (arith, kept, room)) (same ∙ sym kept) ∙ c.loop-run.invariant.unfound room kept;
      begins = λ none is one setting seen w.
          let old = c.loop-run.self in
          let levels = seen ++ low_cells c.args.len c.args.levels in
          let none_yet = none-measured (g.T.Sink.taken c.args.sink.now) setting seen [] c.args.self.now w none in
          elim (found-or old.found) [
            | inl unfound ↦
                let edge = c.in-Some.ensures.edge in
                let turned = turned-ended old.line.edges c.next_edge.new.self.edges c.loop-run.piece
                c.next_edge.new.piece c.in-Some.run' (not c.is_high-high.result) edge (ap not c.is_high-high.ensures) in
                began-edge (g.T.Sink.taken c.loop-run.sink) (g.T.Sink.taken c.edge.new.sink) setting levels
                c.loop-run.piece c.next_edge.new.piece c.in-Some.run' old _ c.edge.new.self c.loop-run.piece.few edge
                (keeps-told _ _ refl refl refl refl refl refl c.next_edge.ensures.queue c.next_edge.ensures.follower)
                refl c.edge.ensures.edges
                (λ level done past h e. c.in_ok-edge.ensures.begins unfound is setting level done past h (turned.0 ∙ e)
                turned.1)
                (c.loop-run.invariant.recovered setting seen w)
            | inr found ↦
                let once : old.figures.measured ≡ 1 = elim (none-or old.figures.measured) [
                  | inl z ↦ absurd (not-both old.found found
                      (c.loop-run.invariant.unfound (omega (arith, none_yet)) (z ∙ sym none_yet) ∙ none))
                  | inr some ↦ omega (arith, some, up2, one)
                ] in
                let follows : old.state ≡ Following = elim (following-or old.state) [
                  | inl e ↦ e
                  | inr n ↦ let more = c.edge.ensures.begun n is (omega (arith, once)) in
                      absurd (omega (arith, more, once, one))
                ] in
                began-on (g.T.Sink.taken c.loop-run.sink) (g.T.Sink.taken c.edge.new.sink) setting levels
                (levels_in c.loop-run.piece) (levels_in c.next_edge.new.piece) old c.edge.new.self
                (edge-followed g (goal.at.loop-run-preserved g c).In_ok-edge follows setting.begun)
                (c.loop-run.invariant.begins none follows once setting seen w)
          ];
      awaits = λ setting seen a.
          let old = c.loop-run.self in
          let edge = c.in-Some.ensures.edge in
          let turned = turned-ended old.line.edges c.next_edge.new.self.edges c.loop-run.piece c.next_edge.new.piece
          c.in-Some.run' (not c.is_high-high.result) edge (ap not c.is_high-high.ensures) in
          awaits-edge (g.T.Sink.taken c.loop-run.sink) (g.T.Sink.taken c.edge.new.sink) setting
          (seen ++ low_cells c.args.len c.args.levels) c.loop-run.piece c.next_edge.new.piece c.in-Some.run' old _
          c.edge.new.self c.edge.ensures.within c.loop-run.piece.few edge
          (keeps-told _ _ refl refl refl refl refl refl c.next_edge.ensures.queue c.next_edge.ensures.follower)
          refl c.edge.ensures.edges c.edge.ensures.samples
          (λ level done past h e. c.in_ok-edge.ensures.stands setting level done past h (turned.0 ∙ e) turned.1)
          c.edge.ensures.still c.edge.ensures.gathers c.edge.ensures.starts c.edge.ensures.up
          (λ unfound is level done past h e. c.in_ok-edge.ensures.begins unfound is setting level done past h (turned.0 ∙ e)
          turned.1)
          (measured-once old c.edge.new.self c.edge.ensures.up c.edge.ensures.begun)
          (λ follows. edge-followed g (goal.at.loop-run-preserved g c).In_ok-edge follows setting.begun)
          refl (λ follows narrow spread ahead k. c.in_ok-edge.ensures.stays follows narrow spread ahead k)
          (c.loop-run.invariant.awaits setting seen a);
      stays = λ narrow spread more w.
          let before = c.loop-run.invariant.stays narrow spread more w in
          let next = on-line-edge c.loop-run.self _ c.edge.new.self c.loop-run.piece c.next_edge.new.piece c.in-Some.run' narrow
          spread more c.loop-run.piece.few c.in-Some.ensures.edge c.next_edge.ensures.follower refl refl c.edge.ensures.edges
          c.edge.ensures.samples (λ ahead k. c.in_ok-edge.ensures.stays before.on.state narrow spread ahead k) before.on in
          record { on = next.on; measured = next.measured ∙ before.measured };
    }

rest-followed : (g : Over) (c : After-rest g) → c.rest.new.self.state ≡ Following
    → (begun : List ℕ) (front : List Level) (first : Follower) (before : Level) (since : List Level)
    → Followed (g.T.Sink.taken c.loop-run.sink) begun front c.loop-run.self.line first before since (levels_in c.loop-run.piece)
    → IfOk c.rest.result (λ x. Followed (g.T.Sink.taken c.rest.new.sink) begun front c.rest.new.self.line first before since [])
rest-followed g c is begun front first before since f =
    followed-rest c.loop-run.self.line c.next_edge.new.self c.rest.new.self.line c.loop-run.sink c.rest.new.sink c.rest.result
    begun front first before since c.loop-run.piece c.loop-run.piece.few c.in_default.ensures.rest
    c.next_edge.ensures.follower c.next_edge.ensures.queue (c.rest.ensures.told is) f

pub returns-clause-follows : goal.returns-clause-follows
returns-clause-follows g c = λ was is same room some begun front first before seen w.
    let kept : c.loop-run.self.figures.measured ≡ c.args.self.now.figures.measured
    = sym c.rest.ensures.measured ∙ same in
    rest-followed g (goal.at.returns-clause-follows g c).After-rest is begun front first before
    (seen ++ low_cells c.args.len c.args.levels)
    (c.loop-run.invariant.followed was (c.rest.ensures.state is) kept room some begun front first before seen w)

pub returns-clause-mean : goal.returns-clause-mean
returns-clause-mean g c =
    λ was is equal room some begun front first before seen same other_mean displaced cells w follows captured.
    gives-ok c.rest.result (g.T.Sink.taken c.rest.new.sink) begun front c.rest.new.self.line first before
    (seen ++ low_cells c.args.len c.args.levels) same other_mean displaced cells
    (returns-clause-follows g c was is equal room some begun front first before seen w) follows captured

pub returns-clause-late : goal.returns-clause-late
returns-clause-late g c =
    λ was is equal room some begun front first before seen same other_mean displaced spread late later cells w follows narrow
    above below s o captured.
    returns-clause-mean g c was is equal room some begun front first before seen same other_mean displaced cells w follows
    (captured-late first before cells (seen ++ low_cells c.args.len c.args.levels) same other_mean displaced spread late later
    narrow above below s o captured)

pub returns-clause-recovered : goal.returns-clause-recovered
returns-clause-recovered g c = λ setting seen w.
    recovered-rest-ok (g.T.Sink.taken c.loop-run.sink) (g.T.Sink.taken c.rest.new.sink) setting
    (seen ++ low_cells c.args.len c.args.levels) c.loop-run.piece c.loop-run.self _ c.rest.new.self c.rest.result
    c.loop-run.piece.few c.in_default.ensures.rest
    (keeps-told _ _ refl refl refl refl refl refl c.next_edge.ensures.queue c.next_edge.ensures.follower)
    refl c.rest.ensures.high c.rest.ensures.samples c.rest.ensures.short (c.rest.ensures.stands setting)
    (c.loop-run.invariant.recovered setting seen w)

pub returns-clause-unfound : goal.returns-clause-unfound
returns-clause-unfound g c = λ room same.
    c.rest.ensures.found ∙ c.loop-run.invariant.unfound room (sym c.rest.ensures.measured ∙ same)

pub returns-clause-begins : goal.returns-clause-begins
returns-clause-begins g c = λ none is one setting seen w.
    let levels = seen ++ low_cells c.args.len c.args.levels in
    began-ok c.rest.result (g.T.Sink.taken c.loop-run.sink) (g.T.Sink.taken c.rest.new.sink) setting levels
    (levels_in c.loop-run.piece) [] c.loop-run.self c.rest.new.self
    (rest-followed g (goal.at.returns-clause-begins g c).After-rest is setting.begun)
    (c.loop-run.invariant.begins none (c.rest.ensures.state is) (sym c.rest.ensures.measured ∙ one) setting seen w)

pub returns-clause-awaits : goal.returns-clause-awaits
returns-clause-awaits g c = λ setting seen a.
    awaits-rest-ok (g.T.Sink.taken c.loop-run.sink) (g.T.Sink.taken c.rest.new.sink) setting
    (seen ++ low_cells c.args.len c.args.levels) c.loop-run.piece c.loop-run.self _ c.rest.new.self c.rest.result
    c.loop-run.piece.few c.in_default.ensures.rest
    (keeps-told _ _ refl refl refl refl refl refl c.next_edge.ensures.queue c.next_edge.ensures.follower)
    refl c.rest.ensures.high c.rest.ensures.samples c.rest.ensures.short (c.rest.ensures.stands setting)
    c.rest.ensures.alive c.rest.ensures.still c.rest.ensures.near c.rest.ensures.found c.rest.ensures.measured
    (λ is. (c.rest.ensures.state is, rest-followed g (goal.at.returns-clause-awaits g c).After-rest is setting.begun))
    refl c.rest.ensures.awake (c.loop-run.invariant.awaits setting seen a)

pub returns-clause-finds : goal.returns-clause-finds
returns-clause-finds g c = λ setting seen first window a b.
    ok-map c.rest.result _ _
    (awaits-finds (g.T.Sink.taken c.rest.new.sink) setting (seen ++ low_cells c.args.len c.args.levels) c.rest.new.self
    first window b)
    (returns-clause-awaits g c setting seen a)

pub returns-clause-joins : goal.returns-clause-joins
returns-clause-joins g c = λ is one setting seen first window a b.
    ok-map c.rest.result _ _
    (awaits-joins (g.T.Sink.taken c.rest.new.sink) setting (seen ++ low_cells c.args.len c.args.levels) c.rest.new.self
    first window is one b)
    (returns-clause-awaits g c setting seen a)

pub returns-clause-joined : goal.returns-clause-joined
returns-clause-joined g c = λ is one setting seen first counts a l.
    ok-map c.rest.result _ _
    (joined-gives (g.T.Sink.taken c.rest.new.sink) setting (seen ++ low_cells c.args.len c.args.levels) c.rest.new.self
    first counts is one l)
    (returns-clause-awaits g c setting seen a)

pub returns-clause-starts : goal.returns-clause-starts
returns-clause-starts g c = λ setting seen first window a e.
    ok-map c.rest.result _ _
    (awaits-starts (g.T.Sink.taken c.rest.new.sink) setting (seen ++ low_cells c.args.len c.args.levels) c.rest.new.self
    first window e)
    (returns-clause-awaits g c setting seen a)

pub returns-clause-up : goal.returns-clause-up
returns-clause-up g c =
    let before = c.loop-run.invariant.up in
    let kept = c.rest.ensures.measured in
    ok-const c.rest.result _ (omega (arith, before, kept))

pub returns-clause-some : goal.returns-clause-some
returns-clause-some g c = λ was.
    let before = c.loop-run.invariant.some was in
    let kept = c.rest.ensures.samples in
    ok-const c.rest.result _ (omega (arith, before, kept))

pub returns-clause-begun : goal.returns-clause-begun
returns-clause-begun g c = λ none is room.
    let before = c.loop-run.invariant.begun none (c.rest.ensures.state is) room in
    let kept = c.rest.ensures.measured in
    ok-const c.rest.result _ (omega (arith, before, kept))

pub returns-clause-stays : goal.returns-clause-stays
returns-clause-stays g c = λ narrow spread more w.
    on-line-end c.rest.result c.args.self.now c.loop-run.self _ c.rest.new.self c.loop-run.piece narrow spread more
    c.loop-run.piece.few c.in_default.ensures.rest c.next_edge.ensures.follower refl refl refl c.rest.ensures.awake
    (c.loop-run.invariant.stays narrow spread more w)

pub returns-clause-lasts : goal.returns-clause-lasts
returns-clause-lasts g c = λ setting seen first counts a l.
    lasting-ok c.rest.result (g.T.Sink.taken c.rest.new.sink) setting (seen ++ low_cells c.args.len c.args.levels) c.rest.new.self
    first counts l (returns-clause-awaits g c setting seen a)
