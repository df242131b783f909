use Rattle.std.proofs.Common.{◌≡◌, ℕ, ◌++◌, List, length, length-drop, drop, take, get_or, sym, ap, subst, ◌∙◌, arith}
use Rattle.std.specs.List.{flat_map}
use Rattle.aes3_level.specs.declared.level.Level.{Level}
use Rattle.aes3_level.specs.Words.{word_cells}
use Rattle.std.proofs.lemmas.Slice.{between_to_end}
use Rattle.aes3_lock.specs.Reports.{decided}
use Rattle.aes3_lock.specs.Following.{BeginsIn, Follows, LockState}
use Rattle.aes3_lock.proofs.PushedWords.{no-words, next-word, next-words}
use Rattle.aes3_lock.proofs.lock.Lock.take_words.Goals as goal

pub loop-taken-init : goal.loop-taken-init
loop-taken-init c = record {
  within = omega arith;
  seen = omega arith;
  follows = λ l f. subst (Follows c.args.self.now) (sym (no-words l c.args.words.now)) f;
  none = λ l f. ap decided (no-words l c.args.words.now);
}

-- some eights more
pub loop-taken-preserved-then-eights-gt0 : goal.loop-taken-preserved-then-eights-gt0
loop-taken-preserved-then-eights-gt0 c =
    let i = c.loop-taken.invariant in
    let words = c.args.words.now in
    let at = c.loop-taken.taken in
    let eights = c.take_eights-eights.result in
    let rest = between_to_end words at (length words) (omega arith) in
    let n = ap length rest ∙ length-drop at words in
    let w = c.take_eights-eights.ensures.within in
    record {
      within = omega (arith, n, w);
      seen = let e = c.take_eights-eights.ensures.seen in let s = i.seen in omega (arith, e, s);
      follows = λ l f. subst (Follows c.take_eights-eights.new.self) (next-words l words _ at eights i.within rest)
          (c.take_eights-eights.ensures.follows _ (i.follows l f));
      none = λ l f. ap decided (sym (next-words l words _ at eights i.within rest))
          ∙ c.take_eights-eights.ensures.none _ (i.follows l f) ∙ i.none l f;
    }

-- one word more, behind no eights
none-taken : (c : List Level) (words : List ℕ) (n : ℕ) → n ≡ 0 → c ++ flat_map word_cells (take n words) ≡ c
none-taken c words n e = ap (λ k. c ++ flat_map word_cells (take k words)) e ∙ no-words c words

pub returns-else-take_word-clause-follows : goal.returns-else-take_word-clause-follows
returns-else-take_word-clause-follows c = λ l f.
    let words = c.args.words.now in
    let at = c.loop-taken.taken in
    let zero : c.take_eights-eights.result ≡ 0 = omega arith in
    subst (λ (k : LockState). Follows k (l ++ flat_map word_cells (take at words)))
    (sym (c.take_word.ensures.unchanged c.if-take_word.false))
    (subst (λ cells. Follows c.take_eights-eights.new.self cells) (none-taken _ _ _ zero)
    (c.take_eights-eights.ensures.follows _ (c.loop-taken.invariant.follows l f)))

pub loop-taken-preserved : goal.loop-taken-preserved
loop-taken-preserved c =
    let i = c.loop-taken.invariant in
    let words = c.args.words.now in
    let at = c.loop-taken.taken in
    let eights = c.take_eights-eights.ensures in
    let zero : c.take_eights-eights.result ≡ 0 = omega arith in
    let is_taken = c.if-take_word.true in
    let now : (l : List Level) → Follows c.args.self.now l
    → Follows c.take_eights-eights.new.self (l ++ flat_map word_cells (take at words)) =
    (λ l f. subst (Follows c.take_eights-eights.new.self) (none-taken _ _ _ zero) (eights.follows _ (i.follows l f))) in
    record {
      within = omega arith;
      seen = let e = c.take_word.ensures.seen is_taken in let s = i.seen in let n = eights.seen in
          omega (arith, e, s, n);
      follows = λ l f. subst (Follows c.take_word.new.self) (next-word l words at c.loop-taken-test.true)
          (c.take_word.ensures.follows is_taken _ (now l f));
      none = λ l f. ap decided (sym (next-word l words at c.loop-taken-test.true))
          ∙ c.take_word.ensures.none is_taken _ (now l f) ∙ i.none l f;
    }

pub returns-else-take_word-clause-stops : goal.returns-else-take_word-clause-stops
returns-else-take_word-clause-stops c = λ _ l f t is.
    let same = c.take_word.ensures.unchanged c.if-take_word.false in
    c.take_word.ensures.stops c.if-take_word.false l (subst (λ (k : LockState). Follows k l) same f)
    t (ap (λ (k : LockState). k.candidate) (sym same) ∙ is)

pub returns-else-take_word-clause-begins : goal.returns-else-take_word-clause-begins
returns-else-take_word-clause-begins c = λ _ none.
    let same = c.take_word.ensures.unchanged c.if-take_word.false in
    let cells = word_cells (get_or c.args.words.now c.loop-taken.taken 0) in
    subst (λ (k : LockState). BeginsIn (drop 1 k.recent ++ cells)) (sym same)
    (c.take_word.ensures.begins c.if-take_word.false (ap (λ (k : LockState). k.candidate) (sym same) ∙ none))
