use Rattle.std.proofs.Common.{◌≡◌, ◌^◌, ℕ, ◌+◌, ◌-◌, ◌*◌, ◌/◌, ◌%◌, ◌<◌, ◌≤◌, ◌++◌, List, length, take, drop, get_or}
use Rattle.std.proofs.Common.{refl, sym, ap, ◌∙◌, subst, arith, length-drop}
use Rattle.std.specs.List.{flat_map}
use Rattle.std.proofs.lemmas.List.{length-take-le}
use Rattle.std.proofs.lemmas.Slice.{between_to_end}
use Rattle.aes3_level.specs.declared.level.Level.{Level}
use Rattle.aes3_level.specs.Words.{word_cells}
use Rattle.aes3_slot.specs.Fronts.{IsFrontOf}
use Rattle.aes3_frame.specs.Gathered.{IsRight}
use Rattle.aes3_frame.proofs.GatheredWords.{length-with_first}
use Rattle.aes3_lock.specs.Reports.{decided}
use Rattle.aes3_lock.specs.Following.{LockState, Follows}
use Rattle.aes3_lock.proofs.EightWords.{begun-few, behind-is, behind-none, eight-later, front-fits, lock_behind}
use Rattle.aes3_lock.proofs.EightWords.{mark-even}
use Rattle.aes3_lock.proofs.PushedWords.{next-words, no-words}
use Rattle.aes3_lock.proofs.lock.Lock.take_eights.Goals as goal
use Rattle.aes3_frame.proofs.CellLaws.{block_len_24576}

pub loop-taken-init : goal.loop-taken-init
loop-taken-init c =
    let seen = ap (λ (k : LockState). k.seen) c.self.view_is in
    record {
      within = omega arith;
      eights = refl;
      seen = seen;
      candidate = c.in-Some.is;
      count = c.self.invariant.1;
      follows = λ l f. behind-none c.self.inside.seen c.self.inside.recent c.self.inside.subframe c.self.inside.words
          c.in-Some.candidate c.self.inside.candidate _ c.in-Some.is
          (subst (λ k. Follows k (l ++ flat_map word_cells (take 0 c.args.words.now))) (sym c.self.view_is)
          (subst (Follows c.args.self.now) (sym (no-words l c.args.words.now)) f));
      none = λ l f. ap decided (no-words l c.args.words.now);
    }

pub keep_eight-requires-clause-right : goal.keep_eight-requires-clause-right
keep_eight-requires-clause-right c = λ i h.
    let t = c.in-Some.candidate in
    let subframe = (c.self.inside.seen - t.at) / 64 in
    let e = c.loop-taken.invariant.eights in
    let o = c.if-offset-lt-SUBFRAME_CELLS.false in
    subst (λ m. IsRight t.level m (get_or c.complete_eight-subframes.result i 0))
    (mark-even subframe c.loop-taken.taken i (omega (arith, o)) (omega (arith, e)))
    (c.are_subframes.ensures.right c.if-not-are_subframes.false i h)

fits : (c : goal.After-self-1) (i : ℕ) → get_or c.args.words.now i 0 < 2 ^ 64
fits c i = (c.type_inv.words i).fits

goes-on : (c : goal.After-self-1) (l : List Level) → Follows c.args.self.now l
    → Follows (lock_behind c.loop-taken.self-inside.seen c.last_octet-self-inside.result c.in-Some.candidate
    c.rest_of-rest.result c.keep_eight.new.self (c.loop-taken.taken + 8))
    (l ++ flat_map word_cells (take (c.loop-taken.taken + 8) c.args.words.now))
    × (decided (l ++ flat_map word_cells (take (c.loop-taken.taken + 8) c.args.words.now)) ≡ decided l)
goes-on c l f =
    let t = c.in-Some.candidate in
    let i = c.loop-taken.invariant in
    let words = c.args.words.now in
    let at = c.loop-taken.taken in
    let eight = c.in-Some-first_chunk.eight.now in
    let whole = between_to_end words at (length words) (omega arith) in
    let chunk = c.in-Some-first_chunk.ensures.cases in
    let front : eight ≡ take 8 (drop at words) = chunk.same ∙ ap (take 8) whole in
    let n = ap length whole in
    let h = chunk.enough in
    let enough : 8 ≤ length (drop at words) = omega (arith, n, h) in
    let count : length eight ≡ 8 = ap length front ∙ length-take-le 8 (drop at words) enough in
    let o = c.if-offset-lt-SUBFRAME_CELLS.false in
    let seen = ap (λ (k : LockState). k.seen) c.self.view_is in
    let s = i.seen in
    let e = i.eights in
    let r = c.loop-taken-test.true in
    let b = block_len_24576 in
    let now = lock_behind c.loop-taken.self-inside.seen c.loop-taken.self-inside.recent t c.loop-taken.behind
    c.loop-taken.self-inside.words at in
    let so_far = l ++ flat_map word_cells (take at words) in
    let follows = i.follows l f in
    let len = (c.self.inside.seen - t.at) % 64 in
    let subframe = (c.self.inside.seen - t.at) / 64 in
    let part : (c.loop-taken.self-inside.seen + 64 * at - t.at) % 64 ≡ len = omega (arith, seen, s, o) in
    let some : 0 < subframe = omega (arith, o) in
    let few = subst (λ p. c.loop-taken.behind < 2 ^ p) part (begun-few now t so_far follows refl) in
    let next = lock_behind c.loop-taken.self-inside.seen c.last_octet-self-inside.result t c.rest_of-rest.result
    c.keep_eight.new.self (at + 8) in
    let a = eight-later now t so_far eight c.complete_eight-subframes.result follows refl i.count count
    (front-fits eight words at count front (fits c)) subframe at len some
    (omega (arith, e)) (omega (arith, seen, s, o)) part (omega (arith, seen, s, o, r, b))
    (c.complete_eight-subframes.ensures few)
    (c.are_subframes.ensures.fronts c.if-not-are_subframes.false)
    (c.are_subframes.ensures.levels c.if-not-are_subframes.false)
    c.rest_of-rest.result c.rest_of-rest.ensures.cells c.rest_of-rest.ensures.few
    (subst (λ m. IsFrontOf t.level m (take len (word_cells c.rest_of-rest.result))) c.mark_of.ensures
    (c.begins_subframe.ensures.yes c.if-not-begins_subframe.false))
    next (omega arith) c.last_octet-self-inside.ensures refl refl c.keep_eight.ensures in
    let more : so_far ++ flat_map word_cells eight ≡ l ++ flat_map word_cells (take (at + 8) words) =
    ap (λ v. so_far ++ flat_map word_cells v) front ∙ next-words l words (drop at words) at 8 i.within refl in
    (subst (Follows next) more a.0, ap decided (sym more) ∙ a.1 ∙ i.none l f)

pub loop-taken-preserved : goal.loop-taken-preserved
loop-taken-preserved c =
    let i = c.loop-taken.invariant in
    record {
      within =
          let h = c.in-Some-first_chunk.ensures.cases.enough in
          let n = ap length
          (between_to_end c.args.words.now c.loop-taken.taken (length c.args.words.now) (omega arith)) in
          let d = length-drop c.loop-taken.taken c.args.words.now in
          omega (arith, h, n, d, i.within);
      eights = let e = i.eights in omega (arith, e);
      seen = i.seen;
      candidate = i.candidate;
      count = ap length c.keep_eight.ensures
          ∙ length-with_first
          ((c.self.inside.seen - c.in-Some.candidate.at) / 64 + c.loop-taken.taken) c.loop-taken.self-inside.words
          c.complete_eight-subframes.result 8 ∙ i.count;
      follows = λ l f. (goes-on c l f).0;
      none = λ l f. (goes-on c l f).1;
    }

pub returns-clause-follows : goal.returns-clause-follows
returns-clause-follows c = λ l f.
    let k = c.loop-taken.self-inside in
    behind-is k.seen k.recent c.loop-taken.behind k.words c.loop-taken.taken c.in-Some.candidate k.candidate _
    c.loop-taken.invariant.candidate (c.loop-taken.invariant.follows l f)
