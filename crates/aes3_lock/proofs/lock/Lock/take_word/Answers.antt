use Rattle.std.proofs.Common.{◌≡◌, ◌+◌, ◌-◌, ◌/◌, ◌%◌, List, ◌++◌, take, drop, Some, false, refl, sym, ap, subst, ◌∙◌, arith}
use Rattle.std.proofs.lemmas.Bool.{false_from_ne_true}
use Rattle.aes3_level.specs.declared.level.Level.{Level}
use Rattle.aes3_level.specs.Words.{low_cells, word_cells}
use Rattle.aes3_slot.specs.Fronts.{IsFrontOf}
use Rattle.aes3_frame.specs.Blocks.{mark_at}
use Rattle.aes3_lock.specs.declared.candidate.Candidate.{Candidate}
use Rattle.aes3_lock.specs.Reports.{decided, open_at}
use Rattle.aes3_lock.specs.Following.{LockState, Follows}
use Rattle.aes3_lock.proofs.TakenWords.{word-next, word-room, word-fits}
use Rattle.aes3_lock.proofs.lock.Lock.take_word.Goals as goal
use Rattle.std.proofs.lemmas.Option.{same_Some}
use Rattle.aes3_frame.proofs.CellLaws.{block_len_24576}

pub returns-then-offset-clause-stops : goal.returns-then-offset-clause-stops
returns-then-offset-clause-stops c = λ r l f t s.
    let e : t ≡ c.in-Some.candidate = same_Some _ _ (sym (ap (λ (k : LockState). k.candidate) c.self.view_is ∙ s)
    ∙ c.in-Some.is) in
    subst (λ (t : Candidate). open_at (drop t.at (l ++ word_cells c.args.word)) ≡ false) (sym e)
    (false_from_ne_true (open_at (drop c.in-Some.candidate.at (l ++ word_cells c.args.word))) (λ o.
    let w = word-room _ c.in-Some.candidate l c.args.word
    (subst (λ k. Follows k l) (sym c.self.view_is) f) c.in-Some.is o in
    let b = block_len_24576 in
    omega (arith, w, b)))

pub returns-then-not-begins_subframe-clause-stops : goal.returns-then-not-begins_subframe-clause-stops
returns-then-not-begins_subframe-clause-stops c = λ r l f t s.
    let e : t ≡ c.in-Some.candidate = same_Some _ _ (sym (ap (λ (k : LockState). k.candidate) c.self.view_is ∙ s)
    ∙ c.in-Some.is) in
    subst (λ (t : Candidate). open_at (drop t.at (l ++ word_cells c.args.word)) ≡ false) (sym e)
    (false_from_ne_true (open_at (drop c.in-Some.candidate.at (l ++ word_cells c.args.word))) (λ o.
    let z = word-fits _ c.in-Some.candidate l c.args.word c.complete_subframe-cells.result c.rest_of-rest.result
    (subst (λ k. Follows k l) (sym c.self.view_is) f) c.in-Some.is
    (record {
      whole = c.complete_subframe-cells.ensures;
      rest = c.rest_of-rest.ensures.cells;
      few = c.rest_of-rest.ensures.few;
    }) o in
    elim c.then-not-begins_subframe.branch [
      | goal.then-not-begins_subframe-via-then-not-begins_subframe w ↦
          c.begins_subframe.ensures.no w.if-not-begins_subframe.true
          (subst (λ m. IsFrontOf c.in-Some.candidate.level m (take 64 (word_cells c.complete_subframe-cells.result)))
          (sym c.mark_of.ensures) z.whole)
      | goal.then-not-begins_subframe-via-else-not-begins_subframe+then-not-begins_subframe-2 w ↦
          w.begins_subframe-else-not-begins_subframe.ensures.no w.if-not-begins_subframe-2.true
          (subst (λ m. IsFrontOf c.last_of-level.result m
          (take ((c.self.inside.seen - c.in-Some.candidate.at) % 64) (word_cells c.rest_of-rest.result)))
          (sym w.mark_of-else-not-begins_subframe.ensures)
          (subst (λ v. IsFrontOf v (mark_at ((c.self.inside.seen - c.in-Some.candidate.at) / 64 + 1))
          (take ((c.self.inside.seen - c.in-Some.candidate.at) % 64) (word_cells c.rest_of-rest.result)))
          (sym c.last_of-level.ensures) z.next))
    ]))

abbrev after : goal.After-self-4-1 → LockState
after c = record {
  seen = c.self.inside.seen + 64;
  recent = low_cells 8 c.last_octet-self-inside.result;
  candidate = Some (record {
    at = c.in-Some.candidate.at;
    before = c.in-Some.candidate.before;
    level = c.last_of-level.result;
  });
  subframe = c.rest_of-rest.result;
  words = c.keep.new.self;
}

both : (c : goal.After-self-4-1) (l : List Level) → Follows c.args.self.now l
    → Follows (after c) (l ++ word_cells c.args.word) × (decided (l ++ word_cells c.args.word) ≡ decided l)
both c l f =
    word-next _ c.in-Some.candidate l c.args.word c.complete_subframe-cells.result c.rest_of-rest.result
    (subst (λ k. Follows k l) (sym c.self.view_is) f) c.in-Some.is
    (record {
      whole = c.complete_subframe-cells.ensures;
      rest = c.rest_of-rest.ensures.cells;
      few = c.rest_of-rest.ensures.few;
    })
    (after c)
    c.self.invariant.1
    (record {
      room = let b = block_len_24576 in omega (arith, b);
      whole = subst
          (λ m. IsFrontOf c.in-Some.candidate.level m (take 64 (word_cells c.complete_subframe-cells.result))) c.mark_of.ensures
          (c.begins_subframe.ensures.yes c.if-not-begins_subframe.false);
      next = subst
          (λ v. IsFrontOf v (mark_at ((c.self.inside.seen - c.in-Some.candidate.at) / 64 + 1))
          (take ((c.self.inside.seen - c.in-Some.candidate.at) % 64)
          (word_cells c.rest_of-rest.result))) c.last_of-level.ensures
          (subst (λ m. IsFrontOf c.last_of-level.result m
          (take ((c.self.inside.seen - c.in-Some.candidate.at) % 64)
          (word_cells c.rest_of-rest.result))) c.mark_of-else-not-begins_subframe.ensures
          (c.begins_subframe-else-not-begins_subframe.ensures.yes c.if-not-begins_subframe-2.false));
    })
    refl c.last_octet-self-inside.ensures
    (ap (λ v. Some (record {
      at = c.in-Some.candidate.at;
      before = c.in-Some.candidate.before;
      level = v;
    })) c.last_of-level.ensures) refl c.keep.ensures

pub returns-clause-follows : goal.returns-clause-follows
returns-clause-follows c = λ t l f. (both c l f).0

pub returns-clause-none : goal.returns-clause-none
returns-clause-none c = λ t l f. (both c l f).1
