use Rattle.std.proofs.Common.{◌≡◌, List, ◌++◌, drop, sym, ap, ◌∙◌, arith}
use Rattle.aes3_level.specs.declared.level.Level.{Level}
use Rattle.aes3_level.specs.Words.{low_cells, word_cells}
use Rattle.aes3_lock.specs.Reports.{decided}
use Rattle.aes3_lock.specs.Following.{LockState, Follows}
use Rattle.aes3_lock.proofs.QuietWords.{seven-before, searched}
use Rattle.aes3_lock.proofs.lock.Lock.search.Goals as goal

abbrev after : goal.After-self-2-1 → LockState
after c = record {
  seen = c.self-2.inside.seen;
  recent = low_cells 8 c.self-2.inside.recent;
  candidate = c.in_last_eight-self-inside.result;
  subframe = c.from-self-inside.result;
  words = c.self-2.inside.words;
}

both : (c : goal.After-self-2-1) (l : List Level) → Follows c.args.self.now l
    → Follows (after c) (l ++ low_cells c.min-taken.result c.args.word)
    × (decided (l ++ low_cells c.min-taken.result c.args.word) ≡ decided l)
both c l f =
    let m = c.min-taken.ensures in
    let r = c.requires in
    searched c.args.self.now
    (after c) l _ c.block_preambles-begun.result c.args.word c.min-taken.result f c.requires.searching (omega arith)
    (seven-before c.self.inside.recent c.from.result c.args.word c.complete_subframe-cells.result c.rest_of.result
    c.from.ensures c.complete_subframe-cells.ensures c.rest_of.ensures.cells (omega arith)
    ∙ ap (λ (k : LockState). drop 1 k.recent ++ word_cells c.args.word) c.self.view_is)
    c.block_preambles-begun.ensures (omega (arith, m, r)) (omega (arith, m)) (omega (arith, m, r))
    (ap (λ (k : LockState). k.seen) c.self-2.view_is ∙ c.count.ensures.seen)
    (ap (λ (k : LockState). k.recent) c.self-2.view_is ∙ c.count.ensures.recent)
    c.in_last_eight-self-inside.ensures.value (ap (low_cells 8) (sym c.from-self-inside.ensures))
    (let e = c.from-self-inside.ensures in omega (arith, e))

pub returns-clause-follows : goal.returns-clause-follows
returns-clause-follows c = λ l f. (both c l f).0

pub returns-clause-none : goal.returns-clause-none
returns-clause-none c = λ l f. (both c l f).1
