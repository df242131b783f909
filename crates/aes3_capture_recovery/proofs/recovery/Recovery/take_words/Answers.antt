use Rattle.std.proofs.Common.{ℕ, List, ◌<◌, ◌^◌, ◌≡◌, ◌++◌, ◌∷◌, ◌+◌, ◌-◌, ◌*◌, ap, ◌∙◌, sym, refl, arith, length, take, Bool, Ok, true, rules}
use Rattle.aes3_level.specs.Cells.{after, other}
use Rattle.aes3_level.proofs.Runs.{after-append, other-other}
use Rattle.std.specs.List.{flat_map}
use Rattle.aes3_level.specs.Words.{word_cells}
use Rattle.aes3_level.proofs.WordCells.{word_len_64}
use Rattle.aes3_cell.proofs.ManyWords.{length-words}
use Rattle.aes3_capture_recovery.specs.Endings.{level_if}
use Rattle.aes3_capture_recovery.specs.Recovering.{Setting}
use Rattle.aes3_capture_recovery.specs.RecoverySteps.{KeepsTold}
use Rattle.aes3_capture_recovery.specs.Turns.{last_place, turns}
use Rattle.aes3_capture_recovery.specs.declared.recovery.Recovery.{Recovery}
use Rattle.std.proofs.lemmas.List.{length-take-le}
use Rattle.aes3_capture_recovery.proofs.Ahead.{ArePlaced, AreTaken, recovered-ahead}
use Rattle.aes3_capture_recovery.proofs.Awaiting.{awaits-ahead}
use Rattle.aes3_capture_recovery.proofs.Followed.{captured-late, gives-ok}
use Rattle.aes3_capture_recovery.proofs.FollowedAhead.{followed-ahead}
use Rattle.aes3_capture_recovery.proofs.OnLineAhead.{on-line-ahead}
use Rattle.aes3_capture_recovery.proofs.Recovering.{keeps-told}
use Rattle.aes3_capture_recovery.proofs.recovery.Recovery.take_words.Given.{Over}
use Rattle.aes3_capture_recovery.proofs.recovery.Recovery.take_words.Goals.{After-saturating_add-self}
use Rattle.aes3_capture_recovery.proofs.recovery.Recovery.take_words.Goals as goal

many : (words : List ℕ) → length (flat_map word_cells words) ≡ 64 * length words
many words =
    length-words words ∙ ap (λ n. length words * n) word_len_64
    ∙ (let n = length words in let e : n * 64 ≡ 64 * n = omega arith in e)

-- where the edges of the words stand
placed : (g : Over) (c : After-saturating_add-self g) → ArePlaced c.args.self.now.line.edges (flat_map word_cells c.args.words.now)
    (take c.find-count.result c.measure-longest.new.self.runs) (128 - c.waiting-waiting.result) c.behind-behind.result
placed g c =
    let levels = flat_map word_cells c.args.words.now in
    let count = c.find-count.result in
    let waits = c.waiting-waiting.ensures in
    let near = c.is_quick.ensures.waiting c.if-not-is_quick.false in
    let from = 128 - c.waiting-waiting.result in
    let places = turns (level_if c.args.self.now.line.edges.high) 128 levels in
    let found : take (count + 1) c.find-count.new.self.places ≡ from ∷ places
    = c.find-count.ensures.places ∙ ap (λ b. from ∷ turns (level_if b) 128 levels) c.is_high-high.ensures in
    record {
      near = omega (arith, waits, near);
      runs_are = c.measure-longest.ensures.runs from places found;
      behind_is = c.behind-behind.ensures from places (ap (take (count + 1)) c.measure-longest.ensures.places ∙ found)
          ∙ ap (λ n. (128 + n) - last_place from places) (sym (many c.args.words.now));
    }

short : (g : Over) (c : After-saturating_add-self g) → c.stand.new.self.edges.run < 2 ^ 31
short g c =
    let longest = c.max.ensures in
    let short = c.if-max-ge-BEGIN.false in
    let run = c.stand.ensures.run in
    omega (arith, run, longest, short)

high-is : (g : Over) (c : After-saturating_add-self g)
    → level_if c.is_high-high.result ≡ other (other (level_if c.args.self.now.line.edges.high))
high-is g c = ap level_if c.is_high-high.ensures ∙ sym (other-other (level_if c.args.self.now.line.edges.high))

taken : (g : Over) (c : After-saturating_add-self g) (setting : Setting) (new : Recovery)
    → KeepsTold c.follow_edges.new.self new → new.state ≡ c.follow_edges.new.self.state
    → new.line.edges ≡ c.stand.new.self.edges → new.figures.samples ≡ c.saturating_add-self.result
    → AreTaken (g.T.Sink.taken c.args.sink.now) (g.T.Sink.taken c.follow_edges.new.sink) setting (flat_map word_cells c.args.words.now)
    c.args.self.now c.follow_edges.new.self new (take c.find-count.result c.measure-longest.new.self.runs)
    (128 - c.waiting-waiting.result) c.behind-behind.result
taken g c setting new keeps state edges samples = record {
  is = c.is_quick.ensures.following c.if-not-is_quick.false;
  some = c.is_quick.ensures.some c.if-not-is_quick.false;
  placed = placed g c;
  step = λ level before stood turns.
      let high = ap level_if c.is_high-high.ensures ∙ turns in
      let is : c.stand.new.self.edges.high ≡ c.in_ok-high.high = search (rules, c.stand.ensures.high) in (
        c.in_ok-high.ensures.told setting level before stood high,
        ap (λ e. level_if e.high) edges ∙ ap level_if is ∙ c.in_ok-high.ensures.level (after level before) high
            ∙ ap other (sym (after-append level before (take c.find-count.result c.measure-longest.new.self.runs))),
      );
  keeps = keeps;
  state = state;
  run = ap (λ e. e.run) edges ∙ c.stand.ensures.run;
  short = rw edges (short g c);
  samples =
      let sum = c.saturating_add-self.ensures in
      let kept = c.follow_edges.ensures.samples in
      let all = many c.args.words.now in
      omega (arith, samples, sum, kept, all);
}

pub returns-clause-recovered : goal.returns-clause-recovered
returns-clause-recovered g c = λ setting seen w.
    recovered-ahead (g.T.Sink.taken c.args.sink.now) (g.T.Sink.taken c.follow_edges.new.sink) setting seen _ c.args.self.now
    c.follow_edges.new.self _ _ _ _
    (taken g (goal.at.returns-clause-recovered g c).After-saturating_add-self setting _
    (keeps-told _ _ refl refl refl refl refl refl c.stand.ensures.queue c.stand.ensures.follower) refl refl refl) w

pub returns-clause-follows : goal.returns-clause-follows
returns-clause-follows g c = λ was is same room begun front first before seen w.
    let old = c.args.self.now in
    let at = (goal.at.returns-clause-follows g c).After-saturating_add-self in
    followed-ahead old.line c.follow_edges.new.self.line _ c.args.sink.now c.follow_edges.new.sink begun front first before
    seen _ c.in_ok-high.high _ _ _ (placed g at)
    (c.in_ok-high.ensures.counted was is same room (other (level_if old.line.edges.high)) (high-is g at))
    (c.in_ok-high.ensures.level (other (level_if old.line.edges.high)) (high-is g at))
    c.stand.ensures.follower c.stand.ensures.queue (search (rules, c.stand.ensures.high)) c.stand.ensures.run (short g at) w

pub returns-clause-awaits : goal.returns-clause-awaits
returns-clause-awaits g c = λ setting seen w.
    awaits-ahead (g.T.Sink.taken c.args.sink.now) (g.T.Sink.taken c.follow_edges.new.sink) setting seen _ c.args.self.now
    c.follow_edges.new.self _ _ _ _
    (taken g (goal.at.returns-clause-awaits g c).After-saturating_add-self setting _
    (keeps-told _ _ refl refl refl refl refl refl c.stand.ensures.queue c.stand.ensures.follower) refl refl refl)
    c.follow_edges.ensures.up
    (λ e.
    let all = length-take-le c.find-count.result c.measure-longest.new.self.runs (omega arith) in
    let none = ap length e in
    c.follow_edges.ensures.none (omega (arith, all, none)))
    (λ now same once front first before since f.
    returns-clause-follows g c (c.is_quick.ensures.following c.if-not-is_quick.false) now same
    (omega (arith, once)) setting.begun front first before since f)
    (λ narrow spread ahead k. c.in_ok-high.ensures.stays (c.is_quick.ensures.following c.if-not-is_quick.false) narrow spread ahead k)
    refl w

pub returns-clause-mean : goal.returns-clause-mean
returns-clause-mean g c =
    λ was is equal room begun front first before seen same other_mean displaced cells w follows captured taken.
    gives-ok {R = Bool} {E = Bool} (Ok true) (g.T.Sink.taken c.follow_edges.new.sink) begun front _ first before
    (seen ++ flat_map word_cells c.args.words.now) same other_mean displaced cells
    (returns-clause-follows g c was is equal room begun front first before seen w) follows captured

pub returns-clause-late : goal.returns-clause-late
returns-clause-late g c =
    λ was is equal room begun front first before seen same other_mean displaced spread late later cells w follows narrow above
    below s o captured taken.
    returns-clause-mean g c was is equal room begun front first before seen same other_mean displaced cells w follows
    (captured-late first before cells (seen ++ flat_map word_cells c.args.words.now) same other_mean displaced spread late
    later narrow above below s o captured) taken

pub returns-clause-stays : goal.returns-clause-stays
returns-clause-stays g c = λ narrow spread more w taken.
    let old = c.args.self.now in
    let at = (goal.at.returns-clause-stays g c).After-saturating_add-self in
    let sum = c.saturating_add-self.ensures in
    let kept = c.follow_edges.ensures.samples in
    let some = w.some in
    on-line-ahead old c.follow_edges.new.self _ narrow spread _ more _ _ _ (placed g at)
    (ap level_if (search (rules, c.stand.ensures.high))
    ∙ c.in_ok-high.ensures.level (other (level_if old.line.edges.high)) (high-is g at))
    c.stand.ensures.run c.stand.ensures.follower refl refl refl (omega (arith, sum, kept, some))
    (λ ahead k. c.in_ok-high.ensures.stays w.state narrow spread ahead k) w
