use Rattle.std.proofs.Common.{◌≡◌, ◌+◌, ◌++◌, ℕ, ◌<◌, false, None, drop, refl, sym, ap, subst, ◌∙◌, arith}
use Rattle.aes3_level.specs.Words.{low_cells, word_cells}
use Rattle.aes3_lock.specs.Candidates.{begins_block}
use Rattle.aes3_lock.specs.Following.{LockState, Follows, BeginsIn}
use Rattle.aes3_lock.proofs.QuietWords.{seven-before, none-begins, one-begins, quiet-follows, quiet-none}
use Rattle.aes3_lock.proofs.lock.Lock.pass_word.Goals as goal

pub returns-then-block_preambles-ne0-clause-begins : goal.returns-then-block_preambles-ne0-clause-begins
returns-then-block_preambles-ne0-clause-begins c = λ r.
    subst (λ (k : LockState). BeginsIn (drop 1 k.recent ++ word_cells c.args.word)) c.self.view_is
    (one-begins c.block_preambles.result _ (drop 1 (low_cells 8 c.self.inside.recent) ++ word_cells c.args.word)
    (omega arith) c.if-block_preambles-ne0.true c.block_preambles.ensures
    (seven-before c.self.inside.recent c.from.result c.args.word c.complete_subframe-cells.result c.rest_of.result
    c.from.ensures c.complete_subframe-cells.ensures c.rest_of.ensures.cells (omega arith)))

searching : (c : goal.After-self-2-1) → c.self.inside.candidate ≡ None
searching c = ap (λ (k : LockState). k.candidate) c.self.view_is ∙ c.requires.searching

quiet : (c : goal.After-self-2-1) → (i : ℕ) → i < 64
    → begins_block (drop i (drop 1 (low_cells 8 c.self.inside.recent) ++ word_cells c.args.word)) ≡ false
quiet c =
    none-begins c.block_preambles.result _ (drop 1
    (low_cells 8 c.self.inside.recent)
    ++ word_cells c.args.word) c.if-block_preambles-ne0.false c.block_preambles.ensures
    (seven-before c.self.inside.recent c.from.result c.args.word c.complete_subframe-cells.result c.rest_of.result
    c.from.ensures c.complete_subframe-cells.ensures c.rest_of.ensures.cells (omega arith))

pub returns-clause-follows : goal.returns-clause-follows
returns-clause-follows c = λ r l f.
    quiet-follows _ _ l c.args.word (subst (λ k. Follows k l) (sym c.self.view_is) f) (searching c)
    (quiet c) refl c.last_octet-self-inside.ensures (searching c)

pub returns-clause-none : goal.returns-clause-none
returns-clause-none c = λ r l f.
    quiet-none _
    (record {
      seen = c.self.inside.seen + 64;
      recent = low_cells 8 c.last_octet-self-inside.result;
      candidate = c.self.inside.candidate;
      subframe = c.self.inside.subframe;
      words = c.self.inside.words;
    })
    l c.args.word (subst (λ k. Follows k l) (sym c.self.view_is) f) (searching c)
    (quiet c) refl c.last_octet-self-inside.ensures (searching c)
