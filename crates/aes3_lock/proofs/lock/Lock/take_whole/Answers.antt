use Rattle.std.proofs.Common.{◌≡◌, ◌*◌, ◌++◌, List, [], length, take, drop, refl, subst, ap, ap₂, sym, ◌∙◌, arith, append-nil}
use Rattle.std.specs.List.{flat_map}
use Rattle.std.proofs.lemmas.List.{length-take-le, nil_from_length, take-append-drop, take-take}
use Rattle.aes3_level.specs.declared.level.Level.{Level}
use Rattle.aes3_level.specs.Words.{word_cells}
use Rattle.aes3_level.proofs.CellsIn.{cells-of-words}
use Rattle.aes3_lock.specs.Following.{Follows}
use Rattle.aes3_lock.specs.Reports.{decided}
use Rattle.aes3_lock.proofs.TakenCells.{took-none}
use Rattle.aes3_lock.proofs.lock.Lock.take_whole.Goals as goal

pub returns-then-here-eq0 : goal.returns-then-here-eq0
returns-then-here-eq0 c =
    let next = c.args.cells.now.next in
    let here = c.args.cells.now.here in
    let ws = c.words.result.now in
    let n = c.take_words-count.result in
    let e = c.take_words-count.ensures in
    let w = e.within in
    let fits = c.words.ensures.within in
    let none : here ≡ [] = nil_from_length here (let h = c.here.ensures.len in let z = c.if-here-eq0.true in omega (arith, h, z)) in
    -- the cells of the words that it took
    let same : flat_map word_cells (take n ws) ≡ take (64 * n) next =
    sym (cells-of-words ws n w) ∙ ap (take (64 * n)) c.words.ensures.cells
    ∙ take-take (64 * n) (64 * length ws) next (omega (arith, w)) in
    record {
      front = take (64 * n) next;
      parts = ap (λ d. d ++ next) none ∙ sym (take-append-drop (64 * n) next)
          ∙ ap (λ d. take (64 * n) next ++ d)
          (ap (λ d. d ++ drop (64 * n) next) (sym none) ∙ sym (ap₂ ◌++◌ c.skip_words.ensures.here c.skip_words.ensures.next));
      some = λ q. absurd (q refl);
      seen = let s = e.seen in let l = length-take-le (64 * n) next (omega (arith, w, fits)) in omega (arith, s, l);
      follows = λ b f. subst (λ (d : List Level). Follows c.take_words-count.new.self (b ++ d)) same (e.follows b f);
      report = λ b f. ap (λ d. decided (b ++ d)) (sym same) ∙ e.none b f ∙ sym (append-nil (decided b));
      last = λ q. absurd (q refl);
      held = λ b f. tt;
    }

pub returns-else-here-eq0 : goal.returns-else-here-eq0
returns-else-here-eq0 c = took-none c.args.self.now _
