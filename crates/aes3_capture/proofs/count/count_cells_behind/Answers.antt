use Rattle.std.proofs.Common.{arith, refl, sym, ◌∙◌, rules}
use Rattle.aes3_capture.proofs.Counts.{left-at, counted-all, captures-late}
use Rattle.aes3_capture.proofs.count.count_cells_behind.Goals as goal

pub loop-i-init : goal.loop-i-init
loop-i-init c = (
  refl,
  λ counts same other displaced follows captures. record {
    same = same;
    other = other;
    displaced = displaced;
    rest = counts;
    follows = follows;
    captures = captures;
    whole = refl;
  },
)

pub loop-i-preserved : goal.loop-i-preserved
loop-i-preserved c = (
  c.run.ensures.bounds ∙ c.loop-i.invariant.0,
  λ counts same other displaced follows captures.
      search (
        rules,
        left-at c.loop-i.follower c.run.new.self c.args.follower.bounds c.loop-i.cells counts c.args.runs.now
            c.loop-i.i c.run.result c.loop-i-test.true
            (c.loop-i.auto.cells ∙ sym c.requires.room) c.loop-i.invariant.0 c.run.ensures.line
            (c.loop-i.invariant.1 counts same other displaced follows captures),
      ),
)

pub returns-clause-mean : goal.returns-clause-mean
returns-clause-mean c = λ counts same other displaced follows captures.
    counted-all c.loop-i.follower c.args.follower.bounds c.loop-i.cells counts c.args.runs.now c.loop-i.i
    (c.loop-i.auto.cells ∙ sym c.requires.room)
    (omega (arith, c.loop-i-test.false, c.loop-i.auto.i-end))
    (c.loop-i.invariant.1 counts same other displaced follows captures)

pub returns-clause-late : goal.returns-clause-late
returns-clause-late c = λ counts spread late later same other displaced narrow above below follows s o spreads.
    returns-clause-mean c counts same other displaced follows
    (captures-late c.args.follower.bounds spread late later same other displaced counts c.args.runs.now narrow above
    below s o spreads)
