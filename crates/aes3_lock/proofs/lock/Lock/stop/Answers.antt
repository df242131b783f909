use Rattle.std.proofs.Common.{refl, ◌≡◌, ◌-◌, [], ◌∷◌, ◌++◌, sym, ap, subst, ◌∙◌, arith}
use Rattle.aes3_level.specs.Words.{low_cells}
use Rattle.aes3_slot.specs.ReadWords.{read_words}
use Rattle.aes3_slot.specs.Rules.{at}
use Rattle.aes3_slot.specs.Reading.{same}
use Rattle.aes3_lock.specs.declared.candidate.Candidate.{Candidate}
use Rattle.aes3_lock.specs.Reports.{report_of, decided}
use Rattle.aes3_lock.specs.Steps.{ended}
use Rattle.aes3_lock.specs.Following.{Follows, Stops}
use Rattle.aes3_lock.proofs.Following.{push-last}
use Rattle.aes3_lock.proofs.HeldBlocks.{held-last}
use Rattle.aes3_lock.proofs.lock.Lock.stop.Goals as goal
use Rattle.std.proofs.lemmas.Option.{same_Some}

pub returns-clause-follows : goal.returns-clause-follows
returns-clause-follows c = λ l f p.
    let s = subst (λ k. Stops k c.args.cell) (sym c.self.view_is) p in
    (push-last _ _ s.in_hand l c.args.cell (subst (λ k. Follows k l) (sym c.self.view_is) f) c.self.invariant.1
    s.is s.stop refl c.with_cell-self-inside.ensures c.in_last_eight-self-inside.ensures.value
    (ap (low_cells 8) (sym c.from-self-inside.ensures)) (let e = c.from-self-inside.ensures in omega (arith, e))).0

pub returns-clause-report : goal.returns-clause-report
returns-clause-report c = λ l f p.
    let s = subst (λ k. Stops k c.args.cell) (sym c.self.view_is) p in
    let e : s.in_hand ≡ c.in-Some.candidate = same_Some _ _ (sym s.is ∙ c.in-Some.is) in
    (push-last _ (record { seen = _; recent = _; candidate = _; subframe = _; words = c.self.inside.words })
    s.in_hand l c.args.cell (subst (λ k. Follows k l) (sym c.self.view_is) f) c.self.invariant.1 s.is s.stop
    refl c.with_cell-self-inside.ensures c.in_last_eight-self-inside.ensures.value
    (ap (low_cells 8) (sym c.from-self-inside.ensures)) (let e = c.from-self-inside.ensures in omega (arith, e))).1
    ∙ ap (λ (t : Candidate). decided l ++ report_of t.at
    (ended t.before (c.self.inside.seen - t.at) (same c.args.cell (at (low_cells 8 c.self.inside.recent) 7))
    (read_words c.self.inside.words)) ∷ []) e
    ∙ ap (λ r. decided l ++ r ∷ []) (sym (c.ended_by-ending.ensures
    ∙ ap (λ p. report_of c.in-Some.candidate.at
    (ended c.in-Some.candidate.before (c.self.inside.seen - c.in-Some.candidate.at) (same c.args.cell p)
    (read_words c.self.inside.words)))
    c.last_cell-previous.ensures))

pub returns-clause-held : goal.returns-clause-held
returns-clause-held c = λ l f.
    held-last _ c.in-Some.candidate l (subst (λ k. Follows k l) (sym c.self.view_is) f) c.self.invariant.1 c.in-Some.is
    c.args.cell c.ended_by-ending.result (same c.args.cell c.last_cell-previous.result) c.ended_by-ending.ensures
