use Rattle.std.proofs.Common.{refl, sym, ap, ◌∙◌, ◌++◌, ◌∷◌, [], ◌≡◌, ◌+◌, arith, take, set, subst, IfOk, List, ℕ}
use Rattle.std.proofs.lemmas.List.{take_more_set}
use Rattle.std.proofs.Common.{append_assoc}
use Rattle.aes3_level.specs.declared.level.Level.{Level}
use Rattle.aes3_level.specs.Cells.{after, other}
use Rattle.aes3_level.proofs.Runs.{other-other}
use Rattle.aes3_capture_recovery.specs.Endings.{level_if}
use Rattle.aes3_capture_recovery.specs.Beginning.{AreFindable, Begun}
use Rattle.aes3_capture_recovery.specs.Recovering.{runs_waiting}
use Rattle.aes3_capture_recovery.proofs.RunsToEnd.{after-more}
use Rattle.aes3_capture_recovery.proofs.States.{measuring-apart}
use Rattle.aes3_capture_recovery.proofs.Telling.{ok-map, stands-told, stands-waiting, told-keeps}
use Rattle.aes3_capture_recovery.proofs.recovery.Recovery.gather.Given.{Over}
use Rattle.aes3_capture_recovery.proofs.recovery.Recovery.gather.Goals.{After-decide}
use Rattle.aes3_capture_recovery.proofs.recovery.Recovery.gather.Goals as goal

pub returns-then-self-lt-RUNS-clause-stands : goal.returns-then-self-lt-RUNS-clause-stands
returns-then-self-lt-RUNS-clause-stands g c = λ setting level done measuring h turns.
    let old = c.args.self.now in
    stands-waiting (g.T.Sink.taken c.args.sink.now) setting level old _ done c.args.run h.told_is (omega arith) turns
    refl refl refl refl refl measuring (take_more_set old.runs old.count c.args.run (omega arith))

gathered : (g : Over) (c : After-decide g)
    → take 256 (set c.args.self.now.runs c.args.self.now.count c.args.run) ≡ runs_waiting c.args.self.now ++ c.args.run ∷ []
gathered g c =
    let old = c.args.self.now in
    let last = c.if-self-lt-RUNS.false in
    let many : old.count + 1 ≡ 256 = omega (arith, last) in
    subst (λ n. take n (set old.runs old.count c.args.run) ≡ runs_waiting old ++ c.args.run ∷ []) many
    (take_more_set old.runs old.count c.args.run (omega arith))

turned-once : (level : Level) (runs : List ℕ) (run : ℕ) → after level runs ≡ other (after level (runs ++ run ∷ []))
turned-once level runs run = sym (other-other (after level runs)) ∙ ap other (sym (after-more level runs run))

pub returns-clause-stands : goal.returns-clause-stands
returns-clause-stands g c = λ setting level done measuring h turns.
    let old = c.args.self.now in
    let new = c.decide.new.self in
    let waits = runs_waiting old in
    let runs = gathered g (goal.at.returns-clause-stands g c).After-decide in
    let all = ap (λ x. done ++ x) runs ∙ sym (append_assoc done waits (c.args.run ∷ [])) in
    let behind = turns ∙ turned-once level (done ++ waits) c.args.run in
    ok-map c.decide.result _ _
    (λ w. stands-told (g.T.Sink.taken c.decide.new.sink) setting level ((done ++ waits) ++ c.args.run ∷ []) new
    c.decide.ensures.none (ap (λ e. level_if e.high) c.decide.ensures.edges ∙ behind)
    (rw all at w) (c.decide.ensures.followed measuring))
    (c.decide.ensures.told setting level done (omega arith)
    (told-keeps (g.T.Sink.taken c.args.sink.now) setting level done 0 old _ h.told_is refl refl refl refl refl refl)
    (behind ∙ ap (λ x. other (after level x)) (sym all)))

pub returns-then-self-lt-RUNS-clause-begins : goal.returns-then-self-lt-RUNS-clause-begins
returns-then-self-lt-RUNS-clause-begins g c = λ none was is setting level done w turns.
    absurd (measuring-apart c.args.self.now.state was is)

pub returns-clause-begins : goal.returns-clause-begins
returns-clause-begins g c = λ none was is setting level done w turns.
    let old = c.args.self.now in
    let waits = runs_waiting old in
    let runs = gathered g (goal.at.returns-clause-begins g c).After-decide in
    let all = ap (λ x. done ++ x) runs ∙ sym (append_assoc done waits (c.args.run ∷ [])) in
    let behind = turns ∙ turned-once level (done ++ waits) c.args.run in
    subst (λ (x : List ℕ). IfOk c.decide.result (λ x'. Begun (g.T.Sink.taken c.decide.new.sink) setting level done x
    c.decide.new.self)) runs
    (c.decide.ensures.begins none was is refl setting level done
    (told-keeps (g.T.Sink.taken c.args.sink.now) setting level done 0 old _ w refl refl refl refl refl refl)
    (behind ∙ ap (λ x. other (after level x)) (sym all)))

pub returns-clause-starts : goal.returns-clause-starts
returns-clause-starts g c = λ was last none f.
    c.decide.ensures.starts none (subst (λ (x : List ℕ). AreFindable c.args.self.now.known x)
    (sym (gathered g (goal.at.returns-clause-starts g c).After-decide)) f)
